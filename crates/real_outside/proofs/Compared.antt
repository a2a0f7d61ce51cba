-- Bytes that are compared piece by piece with what a reader gives.
use Rattle.std.proofs.Common.{◌≡◌, ◌==◌, ◌++◌, Bool, true, false, [], ◌∷◌, length, take, drop, List, ℕ, Option, Some, None, IfSome, Result, Ok, Err, IfOk, sym, ap, refl, ◌∙◌, arith, append_assoc, length-append}
use Rattle.std.specs.Io.KnownBytes.{Consumes, IsAtEnd}
use Rattle.std.specs.Str.{bytes_eq}
use Rattle.std.proofs.KnownBytes.{Consumes-trans, Consumes-whole}
use Rattle.std.proofs.Math.Seq.{take-append_seam}
use Rattle.std.proofs.lemmas.Bool.{false≢true}
use Rattle.std.proofs.lemmas.Bool.Decides.{Decides-eqb, same_from_decides}
use Rattle.std.proofs.lemmas.List.{append_cancel_left, take-append-drop}
use Rattle.std.proofs.lemmas.Slice.Eq.{bytes_eq-Decides}

-- what is at its end gave the bytes exactly where none of them is left
pub same_at_end : (a b c : Option (List ℕ)) (gone piece bytes rest : List ℕ) (r : Bool) → Consumes a b gone → Consumes b c piece → IsAtEnd c → piece ≡ []
    → bytes ≡ gone ++ rest → r ≡ (length rest == 0) → IfSome a (λ all. r ≡ bytes_eq all bytes)
same_at_end a b c gone piece bytes [] r p q end none split is =
    Consumes-whole a c (gone ++ piece) (λ all. r ≡ bytes_eq all bytes) (Consumes-trans a b c gone piece p q) end
    (same_from_decides r (bytes_eq (gone ++ piece) bytes) (λ _. ap (λ l. gone ++ l) none ∙ sym split, λ _. is) (bytes_eq-Decides (gone ++ piece) bytes))
same_at_end a b c gone piece bytes (x ∷ rest) r p q end none split is =
    Consumes-whole a c (gone ++ piece) (λ all. r ≡ bytes_eq all bytes) (Consumes-trans a b c gone piece p q) end
    (same_from_decides r (bytes_eq (gone ++ piece) bytes) (λ whole. absurd (not_empty whole), λ same. absurd (not_same same)) (bytes_eq-Decides (gone ++ piece) bytes))
  where
    not_empty : r ≡ true → ⊥
    not_empty whole = let empty = (Decides-eqb (length (x ∷ rest)) 0).0 (sym is ∙ whole) in omega (arith, empty)

    not_same : gone ++ piece ≡ bytes → ⊥
    not_same same = let none_is_some = ap length (sym none ∙ append_cancel_left gone piece (x ∷ rest) (same ∙ split)) in omega (arith, none_is_some)

differs_here : (all gone piece more bytes rest : List ℕ) → all ≡ (gone ++ piece) ++ more → bytes ≡ gone ++ rest → bytes_eq (take (length piece) rest) piece ≡ false → all ≡ bytes → ⊥
differs_here all gone piece more bytes rest whole split differs same =
    let front = append_cancel_left gone (piece ++ more) rest (sym (append_assoc gone piece more) ∙ sym whole ∙ same ∙ split) in
    let equal = (bytes_eq-Decides (take (length piece) rest) piece).1 (ap (λ l. take (length piece) l) (sym front) ∙ take-append_seam piece more) in
    false≢true (sym differs ∙ equal)

-- where the next piece is not the front of the rest, what the reader gave is not the bytes
pub differs : (a b c : Option (List ℕ)) (gone piece bytes rest : List ℕ) → Consumes a b gone → Consumes b c piece → bytes ≡ gone ++ rest
    → bytes_eq (take (length piece) rest) piece ≡ false → IfSome a (λ all. false ≡ bytes_eq all bytes)
differs a b c gone piece bytes rest p q split other = from a c (Consumes-trans a b c gone piece p q)
  where
    from : (a c : Option (List ℕ)) → Consumes a c (gone ++ piece) → IfSome a (λ all. false ≡ bytes_eq all bytes)
    from None c p = tt
    from (Some all) None p = absurd p
    from (Some all) (Some more) p = same_from_decides false (bytes_eq all bytes) (λ whole. absurd (false≢true whole), λ same. absurd (differs_here all gone piece more bytes rest p split other same)) (bytes_eq-Decides all bytes)

-- where it is, it is gone too
pub moved : (gone piece bytes rest after : List ℕ) → bytes ≡ gone ++ rest → bytes_eq (take (length piece) rest) piece ≡ true → after ≡ drop (length piece) rest
    → bytes ≡ (gone ++ piece) ++ after
moved gone piece bytes rest after split same left =
    split ∙ ap (λ l. gone ++ l) (sym (take-append-drop (length piece) rest) ∙ ap (λ l. l ++ drop (length piece) rest) ((bytes_eq-Decides (take (length piece) rest) piece).0 same) ∙ ap (λ l. piece ++ l) (sym left)) ∙ sym (append_assoc gone piece after)

-- what is so of all that a reader gives is so where that has a length
pub sized : (a : Option (List ℕ)) (size : ℕ) (P : List ℕ → Type 0) → IfSome a P → IfSome a (λ all. length all ≡ size → P all)
sized None size P all = tt
sized (Some all) size P is = λ _. is

-- what gave the bytes gave no other where it has as many
pub same_sized : (a b : Option (List ℕ)) (piece bytes rest : List ℕ) (size : ℕ) → Consumes a b piece → bytes_eq (take (length piece) bytes) piece ≡ true
    → rest ≡ drop (length piece) bytes → length rest ≡ 0 → length bytes ≡ size → IfSome a (λ all. length all ≡ size → true ≡ bytes_eq all bytes)
same_sized a b piece bytes rest size gave same left none is = from a b rest gave (moved [] piece bytes bytes rest refl same left) none
  where
    equal : (more rest : List ℕ) → bytes ≡ piece ++ rest → length rest ≡ 0 → length (piece ++ more) ≡ size → piece ++ more ≡ bytes
    equal [] [] split none whole = sym split
    equal (x ∷ more) [] split none whole =
        absurd (omega (arith, length-append piece (x ∷ more), length-append piece [], ap length split, whole, is))
    equal more (x ∷ rest) split none whole = absurd (omega (arith, none))

    from : (a b : Option (List ℕ)) (rest : List ℕ) → Consumes a b piece → bytes ≡ piece ++ rest → length rest ≡ 0
        → IfSome a (λ all. length all ≡ size → true ≡ bytes_eq all bytes)
    from None b rest gave split none = tt
    from (Some all) None rest gave split none = absurd gave
    from (Some all) (Some more) rest gave split none = λ whole.
        sym ((bytes_eq-Decides all bytes).1 (gave ∙ equal more rest split none (sym (ap length gave) ∙ whole)))

-- where a piece is the front of the bytes, the rest decides
pub rest_decides : {E : Type 0} (r : Result Bool E) (a b : Option (List ℕ)) (piece bytes rest : List ℕ) (size : ℕ) → Consumes a b piece
    → bytes_eq (take (length piece) bytes) piece ≡ true → rest ≡ drop (length piece) bytes → IfOk r (λ same. IfSome b (λ left. same ≡ bytes_eq left rest))
    → IfOk r (λ same. IfSome a (λ all. length all ≡ size → same ≡ bytes_eq all bytes))
rest_decides (Err e) a b piece bytes rest size gave front left decides = tt
rest_decides (Ok same) a b piece bytes rest size gave front left decides = sized a size (λ all. same ≡ bytes_eq all bytes) (from a b gave decides)
  where
    split : bytes ≡ piece ++ rest
    split = moved [] piece bytes bytes rest refl front left

    from : (a b : Option (List ℕ)) → Consumes a b piece → IfSome b (λ left. same ≡ bytes_eq left rest) → IfSome a (λ all. same ≡ bytes_eq all bytes)
    from None b gave decides = tt
    from (Some all) None gave decides = absurd gave
    from (Some all) (Some more) gave decides = same_from_decides same (bytes_eq all bytes) (
      λ is. gave ∙ ap (λ l. piece ++ l) ((bytes_eq-Decides more rest).0 (sym decides ∙ is)) ∙ sym split,
      λ equal. decides ∙ (bytes_eq-Decides more rest).1 (append_cancel_left piece more rest (sym gave ∙ equal ∙ split)),
    )
        (bytes_eq-Decides all bytes)
