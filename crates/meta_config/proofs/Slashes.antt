-- The slashes at the end of a path.
use Rattle.std.proofs.Common.{◌≡◌, ℕ, ◌+◌, ◌-◌, ◌<◌, ◌≤◌, suc, length, take, drop, get_or, add-one, drop-cons, length-append, Bool, true, false, cond, ◌&&◌, List, [], ◌∷◌, ◌++◌, refl, sym, ap, ◌∙◌, arith, codes}
use Rattle.std.specs.List.{list_all}
use Rattle.std.proofs.lemmas.List.{get_or-take, length-take-le, take-append-drop}
use Rattle.std.proofs.lemmas.Bool.Decides.{nat_tests}
use Rattle.meta_config.specs.Urls.{EndsInNoSlash, is_slash, put_before, without_slashes}
use Rattle.meta_config.proofs.Pieces.{both}

pub no_slash : (c : ℕ) → (c ≡ 47 → ⊥) → is_slash c ≡ false
no_slash c h = grind (arith, nat_tests)

pub slash : (c : ℕ) → is_slash c ≡ true → c ≡ 47
slash c h = grind (arith, nat_tests)

only_slashes : (ss : List ℕ) → list_all is_slash ss ≡ true → without_slashes ss ≡ []
only_slashes [] all = refl
only_slashes (c ∷ cs) all =
    let b = both (is_slash c) (list_all is_slash cs) all in
    ap (put_before c) (only_slashes cs b.1) ∙ ap (λ t. cond t [] (c ∷ [])) b.0

-- a path that ends in no slash is what is left of it and slashes
pub slashes_dropped : (ps ss : List ℕ) → EndsInNoSlash ps → list_all is_slash ss ≡ true → without_slashes (ps ++ ss) ≡ ps
slashes_dropped [] ss ends all = only_slashes ss all
slashes_dropped (c ∷ []) ss ends all =
    ap (put_before c) (only_slashes ss all)
    ∙ ap (λ t. cond t [] (c ∷ [])) (no_slash c (λ e. ends [] (ap (λ x. x ∷ []) e)))
slashes_dropped (c ∷ d ∷ ds) ss ends all =
    ap (put_before c) (slashes_dropped (d ∷ ds) ss (λ front e. ends (c ∷ front) (ap (λ l. c ∷ l) e)) all)

pub record Cut (cs prefix : List ℕ) : Type 0 where
  pub slashes : List ℕ
  pub whole : cs ≡ prefix ++ slashes
  pub all : list_all is_slash slashes ≡ true

cut_at : (c : ℕ) (cs : List ℕ) (b : Bool) → is_slash c ≡ b → Cut cs [] → Cut (c ∷ cs) (cond b [] (c ∷ []))
cut_at c cs true e r = record {
  slashes = c ∷ r.slashes;
  whole = ap (λ l. c ∷ l) r.whole;
  all = ap (λ t. t && list_all is_slash r.slashes) e ∙ r.all;
}
cut_at c cs false e r = record { slashes = r.slashes; whole = ap (λ l. c ∷ l) r.whole; all = r.all }

cut_before : (c : ℕ) (cs prefix : List ℕ) → Cut cs prefix → Cut (c ∷ cs) (put_before c prefix)
cut_before c cs [] r = cut_at c cs (is_slash c) refl r
cut_before c cs (d ∷ ds) r = record { slashes = r.slashes; whole = ap (λ l. c ∷ l) r.whole; all = r.all }

-- a path is what is left of it and slashes
pub cut : (cs : List ℕ) → Cut cs (without_slashes cs)
cut [] = record { slashes = []; whole = refl; all = refl }
cut (c ∷ cs) = cut_before c cs (without_slashes cs) (cut cs)

nothing_ends : EndsInNoSlash []
nothing_ends [] e = cc
nothing_ends (f ∷ fs) e = cc

no_end : (f : ℕ) (fs : List ℕ) → [] ≡ fs ++ codes "/" → ⊥
no_end f [] e = cc
no_end f (g ∷ gs) e = cc

one_ends : (c : ℕ) (b : Bool) → is_slash c ≡ b → EndsInNoSlash (cond b [] (c ∷ []))
one_ends c true h front e = nothing_ends front e
one_ends c false h [] e = let is : c ≡ 47 = cc in let no : true ≡ false = sym (ap is_slash is) ∙ h in cc
one_ends c false h (f ∷ fs) e = let rest : [] ≡ fs ++ codes "/" = cc in no_end f fs rest

put_ends : (c : ℕ) (w : List ℕ) → EndsInNoSlash w → EndsInNoSlash (put_before c w)
put_ends c [] ends front e = one_ends c (is_slash c) refl front e
put_ends c (d ∷ ds) ends [] e = cc
put_ends c (d ∷ ds) ends (f ∷ fs) e = let rest : d ∷ ds ≡ fs ++ codes "/" = cc in ends fs rest

-- what is left ends in no slash
pub ends_in_no_slash : (cs : List ℕ) → EndsInNoSlash (without_slashes cs)
ends_in_no_slash [] = nothing_ends
ends_in_no_slash (c ∷ cs) = put_ends c (without_slashes cs) (ends_in_no_slash cs)

-- one more slash at the end
pub one_more_slash : (cs : List ℕ) (n : ℕ) → n < length cs → get_or cs n 0 ≡ 47 → list_all is_slash (drop (n + 1) cs) ≡ true → list_all is_slash (drop n cs) ≡ true
one_more_slash cs n within is all =
    ap (list_all is_slash) (drop-cons cs n 0 within)
    ∙ ap (λ c. is_slash c && list_all is_slash (drop (suc n) cs)) is
    ∙ ap (λ k. list_all is_slash (drop k cs)) (sym (add-one n))
    ∙ all

last_of : (front : List ℕ) → get_or (front ++ codes "/") (length front) 0 ≡ 47
last_of [] = refl
last_of (f ∷ fs) = last_of fs

same_lengths : (n k : ℕ) (cs front : List ℕ) → n ≤ length cs → take n cs ≡ front ++ codes "/" → k ≡ length front → n ≡ k + 1
same_lengths n k cs front within e is = omega (arith, length-take-le n cs within, ap length e, length-append front (codes "/"))

-- what stands before slashes, and ends in none, is what is left
pub left_before : (cs : List ℕ) (n : ℕ) → n ≤ length cs → list_all is_slash (drop n cs) ≡ true → (0 < n → get_or cs (n - 1) 0 ≡ 47 → ⊥)
    → take n cs ≡ without_slashes cs
left_before cs n within all differs =
    let ends : EndsInNoSlash (take n cs) = λ front e.
    let is : n ≡ length front + 1 = same_lengths n (length front) cs front within e refl in
    let at : length front < n = omega arith in
    let before : n - 1 ≡ length front = omega arith in
    differs (omega arith)
    (ap (λ k. get_or cs k 0) before
    ∙ sym (get_or-take n cs (length front) 0 at)
    ∙ ap (λ l. get_or l (length front) 0) e
    ∙ last_of front) in
    sym (ap without_slashes (sym (take-append-drop n cs)) ∙ slashes_dropped (take n cs) (drop n cs) ends all)
