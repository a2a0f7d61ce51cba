-- The path that a text means is one that a host takes.
use Rattle.std.proofs.Common.{◌≡◌, ◌≢◌, ℕ, List, [], ◌∷◌, get_or, Bool, true, false, ◌&&◌, cond, nat_eq, Option, Some, None, refl, sym, ap, subst, arith, Result, Ok, Err, String}
use Rattle.std.specs.Char.{is_ascii_alphabetic, to_ascii_uppercase}
use Rattle.std.specs.List.{All, list_any, onto_first}
use Rattle.std.specs.Option.{option_and_then, option_map, IfSome}
use Rattle.std.specs.Result.{IfOk}
use Rattle.std.specs.String.{string_bytes}
use Rattle.std.proofs.lemmas.Bool.{and_parts, eqb-false, or_parts}
use Rattle.std.proofs.lemmas.Bool.Decides.{nat_tests}
use Rattle.std.proofs.lemmas.List.Elements.{All-cons, All-filter, All-head, All-nil, All-tail, All-weaker, filter_passes}
use Rattle.resource_kinds.specs.Paths.{ends_drive, if_filled, IsHostPath, IsName, is_kept, is_parent, is_separator, joined_path, kept_segments, names_of, on_drive, path_of, rooted, segments}
use Rattle.resource_kinds.proofs.JoinedPaths.{kept_filled}

none_passes : {X : Type 0} (test : X → Bool) → (xs : List X) → list_any test xs ≡ false → All (λ x. test x ≡ false) xs
none_passes test [] none = All-nil _
none_passes test (x ∷ xs) none = All-cons (λ y. test y ≡ false) x xs (or_parts _ _ none).0 (none_passes test xs (or_parts _ _ none).1)

-- ---- what stands between separators

-- a character of a name
abbrev IsPlain : ℕ → Type 0
IsPlain c = (is_separator c ≡ false) × (c ≢ 0)

plain_onto : (c : ℕ) (parts : List (List ℕ)) → IsPlain c → All (All IsPlain) parts → All (All IsPlain) (onto_first c parts)
plain_onto c [] plain each = All-cons (All IsPlain) (c ∷ []) [] (All-cons IsPlain c [] plain (All-nil IsPlain)) (All-nil (All IsPlain))
plain_onto c (part ∷ parts) plain each =
    All-cons (All IsPlain) (c ∷ part) parts (All-cons IsPlain c part plain (All-head (All IsPlain) part parts each)) (All-tail (All IsPlain) part parts each)

plain_next : (c : ℕ) (parts : List (List ℕ)) (b : Bool) → is_separator c ≡ b → c ≢ 0 → All (All IsPlain) parts → All (All IsPlain) (cond b ([] ∷ parts) (onto_first c parts))
plain_next c parts true is no_nul each = All-cons (All IsPlain) [] parts (All-nil IsPlain) each
plain_next c parts false is no_nul each = plain_onto c parts (is, no_nul) each

plain_segments : (text : List ℕ) → All (λ c. c ≢ 0) text → All (All IsPlain) (segments text)
plain_segments [] no_nul = All-cons (All IsPlain) [] [] (All-nil IsPlain) (All-nil (All IsPlain))
plain_segments (c ∷ cs) no_nul =
    plain_next c (segments cs) (is_separator c) refl (All-head (λ x. x ≢ 0) c cs no_nul) (plain_segments cs (All-tail (λ x. x ≢ 0) c cs no_nul))

-- ---- what stands in a path text

plain_drive : (letter : ℕ) → is_ascii_alphabetic letter ≡ true → IsPlain (to_ascii_uppercase letter)
plain_drive letter is = (grind (arith, nat_tests), grind (arith, nat_tests))

plain_on : (b : Bool) (letter : ℕ) (rest : List ℕ) → (b ≡ true → is_ascii_alphabetic letter ≡ true) → All (λ c. c ≢ 0) rest
    → IfSome (cond b (Some ((to_ascii_uppercase letter ∷ []) ∷ segments rest)) None) (All (All IsPlain))
plain_on true letter rest is no_nul =
    All-cons (All IsPlain) (to_ascii_uppercase letter ∷ []) (segments rest)
    (All-cons IsPlain (to_ascii_uppercase letter) [] (plain_drive letter (is refl)) (All-nil IsPlain)) (plain_segments rest no_nul)
plain_on false letter rest is no_nul = tt

plain_on_drive : (letter : ℕ) (cs : List ℕ) → All (λ c. c ≢ 0) cs → IfSome (on_drive letter cs) (All (All IsPlain))
plain_on_drive letter [] no_nul = tt
plain_on_drive letter (colon ∷ rest) no_nul =
    plain_on ((is_ascii_alphabetic letter && nat_eq colon 58) && ends_drive rest) letter rest (λ all. (and_parts _ _ (and_parts _ _ all).0).0) (All-tail (λ c. c ≢ 0) colon rest no_nul)

plain_from : (b : Bool) (c : ℕ) (cs : List ℕ) → All (λ x. x ≢ 0) cs → IfSome (cond b (Some (segments cs)) (on_drive c cs)) (All (All IsPlain))
plain_from true c cs no_nul = plain_segments cs no_nul
plain_from false c cs no_nul = plain_on_drive c cs no_nul

plain_rooted : (text : List ℕ) → All (λ c. c ≢ 0) text → IfSome (rooted text) (All (All IsPlain))
plain_rooted [] no_nul = tt
plain_rooted (c ∷ cs) no_nul = plain_from (nat_eq c 47) c cs (All-tail (λ x. x ≢ 0) c cs no_nul)

-- ---- names

name_of : (name : List ℕ) → is_kept name ≡ true → is_parent name ≡ false → All IsPlain name → IsName name
name_of name kept no_parent plain = record {
  filled = kept_filled name kept;
  here = λ is. absurd (cc (kept));
  up = λ is. absurd (cc (no_parent, ap is_parent is));
  whole = All-weaker IsPlain (λ c. is_separator c ≡ false) (λ c p. p.0) name plain;
  no_nul = All-weaker IsPlain (λ c. c ≢ 0) (λ c p. p.1) name plain;
}

names_each : (all : List (List ℕ)) → list_any is_parent all ≡ false → All (All IsPlain) all → All IsName (kept_segments all)
names_each all no_parent plain = λ k d within.
    name_of (get_or (kept_segments all) k d) (filter_passes is_kept all k d within)
    (All-filter is_kept (λ s. is_parent s ≡ false) all (none_passes is_parent all no_parent) k d within)
    (All-filter is_kept (All IsPlain) all plain k d within)

-- ---- paths

host_kept : (names : List (List ℕ)) → All IsName names → IfSome (option_map joined_path (if_filled names)) IsHostPath
host_kept [] each = tt
host_kept (name ∷ names) each = record { names = name ∷ names; some = omega arith; each = each; joined = refl }

host_names : (all : List (List ℕ)) (b : Bool) → list_any is_parent all ≡ b → All (All IsPlain) all → IfSome (option_map joined_path (cond b None (if_filled (kept_segments all)))) IsHostPath
host_names all true is plain = tt
host_names all false is plain = host_kept (kept_segments all) (names_each all is plain)

host_rooted : (found : Option (List (List ℕ))) → IfSome found (All (All IsPlain)) → IfSome (option_map joined_path (option_and_then names_of found)) IsHostPath
host_rooted None plain = tt
host_rooted (Some all) plain = host_names all (list_any is_parent all) refl plain

host_text : (text : List ℕ) (b : Bool) → list_any (λ c. nat_eq c 0) text ≡ b → IfSome (option_map joined_path (cond b None (option_and_then names_of (rooted text)))) IsHostPath
host_text text true is = tt
host_text text false is = host_rooted (rooted text) (plain_rooted text (All-weaker (λ c. nat_eq c 0 ≡ false) (λ c. c ≢ 0) (λ c. eqb-false c 0) text (none_passes (λ c. nat_eq c 0) text is)))

-- the path that a text means is one that a host takes
pub path_of_host : (text : List ℕ) → IfSome (path_of text) IsHostPath
path_of_host text = host_text text (list_any (λ c. nat_eq c 0) text) refl

-- the same of what a call gave
pub path_of_given : {E Z : Type 0} (text : List ℕ) (result : Result (Option (String Z)) E) → IfOk result (λ path. option_map string_bytes path ≡ path_of text)
    → IfOk result (λ path. IfSome path (λ p. IsHostPath (string_bytes p)))
path_of_given text (Ok None) is = tt
path_of_given text (Ok (Some path)) is = subst (λ found. IfSome found IsHostPath) (sym is) (path_of_host text)
path_of_given text (Err e) is = tt
