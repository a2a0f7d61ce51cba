-- Lists of few words.
use Rattle.std.proofs.Common.{◌≡◌, ℕ, ◌<◌, ◌≤◌, ◌-◌, ◌==◌, Bool, true, false, not, true≢false, List, [], ◌∷◌, ◌++◌, length, get_or, take, drop, refl, sym, ap, ◌∙◌, subst, append_assoc, arith}
use Rattle.std.proofs.lemmas.List.{take_all}
use Rattle.std.proofs.lemmas.List.Splits.{slice_split_first, slice_split_none}
use Rattle.std.proofs.lemmas.List.Sums.{fails_before_first}
use Rattle.std.specs.List.{after_first, before_first, position_or_len}
use Rattle.rehearsal.specs.Script.{words}

pub three_words : (all : List (List ℕ)) (a b c : List ℕ) → 3 ≤ length all → length all < 4 → a ≡ get_or all 0 a → b ≡ get_or all 1 b → c ≡ get_or all 2 c → all ≡ a ∷ b ∷ c ∷ []
three_words [] a b c some few x y z = absurd (omega (arith, some))
three_words (p ∷ []) a b c some few x y z = absurd (omega (arith, some))
three_words (p ∷ q ∷ []) a b c some few x y z = absurd (omega (arith, some))
three_words (p ∷ q ∷ r ∷ []) a b c some few x y z = cc
three_words (p ∷ q ∷ r ∷ s ∷ rest) a b c some few x y z = absurd (omega (arith, few))

pub two_words : (all : List (List ℕ)) (a b : List ℕ) → 2 ≤ length all → a ≡ get_or all 0 a → b ≡ get_or all 1 b → all ≡ a ∷ b ∷ take (length all - 2) (drop 2 all)
two_words [] a b some x y = absurd (omega (arith, some))
two_words (p ∷ []) a b some x y = absurd (omega (arith, some))
two_words (p ∷ q ∷ rest) a b some x y =
    let few = length (p ∷ q ∷ rest) - 2 in
    let tail : take few rest ≡ rest = take_all few rest (omega arith) in
    ap (λ (r : List (List ℕ)). p ∷ (q ∷ r)) (sym tail) ∙ ap (λ (m : List ℕ). m ∷ (q ∷ take few rest)) (sym x) ∙ ap (λ (m : List ℕ). a ∷ (m ∷ take few rest)) (sym y)

-- the word before the first space, and those after it
pub cut_word : (text rest word more : List ℕ) (all new : List (List ℕ)) → words text ≡ all ++ words rest
    → position_or_len (λ b. b == 32) rest < length rest → word ≡ before_first (λ b. b == 32) rest → more ≡ after_first (λ b. b == 32) rest
    → new ≡ all ++ word ∷ [] → words text ≡ new ++ words more
cut_word text rest word more all new so_far inside front back pushed =
    let first : words rest ≡ word ∷ words more = slice_split_first (λ b. b == 32) rest 0 inside
    ∙ ap (λ (w : List ℕ). w ∷ words (after_first (λ b. b == 32) rest)) (sym front) ∙ ap (λ (m : List ℕ). word ∷ words m) (sym back) in
    so_far ∙ ap (λ (w : List (List ℕ)). all ++ w) first ∙ sym (ap (λ (i : List (List ℕ)). i ++ words more) pushed ∙ append_assoc all (word ∷ []) (words more))

pub last_word : (text : List ℕ) → position_or_len (λ b. b == 32) text ≡ length text → words text ≡ text ∷ []
last_word text none = slice_split_none (λ b. b == 32) text (λ k d inside. fails_before_first (λ b. b == 32) text k d (subst (λ (n : ℕ). k < n) (sym none) inside))

-- where `!=` says no
pub not_false : (b : Bool) → false ≡ not b → b ≡ true
not_false true is = refl
not_false false is = absurd (true≢false (sym is))
