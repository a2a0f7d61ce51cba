-- Words at the front of characters.
use Rattle.std.proofs.Common.{◌≡◌, ◌<◌, ◌≤◌, ◌-◌, inl, inr, ℕ, suc, List, [], ◌∷◌, ◌++◌, length, take, drop, get_or, true, refl, sym, ◌∙◌, ap, arith, append_assoc, length-append}
use Rattle.std.proofs.lemmas.List.{length-map}
use Rattle.std.proofs.Math.Seq.{take_all}
use Rattle.std.proofs.Math.Utf8.{low_scalar}
use Rattle.std.specs.Char.{to_ascii_lowercase}
use Rattle.std.specs.Str.{all_scalars}
use Rattle.mof_values.specs.Fold.{fold_case}
use Rattle.pull_messages.specs.Stops.{Begins, StopsAt, IsWord}
use Rattle.pull_messages.proofs.Languages.{fronts, same_front, PrefixFree}

pub bytes_scalars : (bytes : List ℕ) → ((i : ℕ) → get_or bytes i 0 < 256) → all_scalars bytes ≡ true
bytes_scalars [] small = refl
bytes_scalars (b ∷ bytes) small = rw (low_scalar b (omega (arith, small 0)), bytes_scalars bytes (λ i. small (suc i))) refl

pub fold-append : (a b : List ℕ) → fold_case (a ++ b) ≡ fold_case a ++ fold_case b
fold-append [] b = refl
fold-append (x ∷ a) b = ap (λ (l : List ℕ). to_ascii_lowercase x ∷ l) (fold-append a b)

pub fold-length : (a b : List ℕ) → fold_case a ≡ fold_case b → length a ≡ length b
fold-length a b e = omega (arith, ap length e, length-map a to_ascii_lowercase, length-map b to_ascii_lowercase)

pub word_free : (name : List ℕ) → PrefixFree (IsWord name)
word_free name a r b s in_a in_b e = (same_front a r b s e (fold-length a b (in_a ∙ sym in_b))).0

pub word_stops : (chars front left name said : List ℕ) (code : ℕ) (codes : List ℕ) → chars ≡ front ++ left → name ≡ said ++ code ∷ codes
    → fold_case front ≡ fold_case said → all_scalars (code ∷ codes) ≡ true
    → ((c : ℕ) (rest : List ℕ) → left ≡ c ∷ rest → to_ascii_lowercase c ≡ to_ascii_lowercase code → ⊥)
    → StopsAt (IsWord name) chars (length left)
word_stops chars front left name said code codes split is same scalars none =
    let sizes = fold-length front said same in
    let spelled : IsWord name (front ++ code ∷ codes) =
    fold-append front (code ∷ codes) ∙ ap (λ (l : List ℕ). l ++ fold_case (code ∷ codes)) same ∙ sym (fold-append said (code ∷ codes)) ∙ ap fold_case (sym is) in
    record {
      front = front;
      rest = left;
      split = split;
      size = refl;
      begins = (code ∷ codes, scalars, spelled);
      whole = λ in_front. absurd (omega (arith, fold-length front name in_front, ap length is, length-append said (code ∷ codes), sizes));
      longest = λ more after fronts_is begun.
          elim (fronts more after front left (sym fronts_is ∙ split)) [
            | inl longer ↦ within longer.0 more after longer.1 longer.2 begun
            | inr shorter ↦ omega (arith, ap length shorter.2, length-append shorter.0 left)
          ];
    }
  where
    within : (u more after : List ℕ) → more ≡ front ++ u → left ≡ u ++ after → Begins (IsWord name) more → length left ≤ length after
    within [] more after longer rest begun = omega (arith, ap length rest)
    within (c ∷ u) more after longer rest begun =
        let folded : fold_case front ++ (to_ascii_lowercase c ∷ fold_case (u ++ begun.0)) ≡ fold_case said ++ (to_ascii_lowercase code ∷ fold_case codes) =
        sym (fold-append front (c ∷ (u ++ begun.0))) ∙ ap fold_case (sym (append_assoc front (c ∷ u) begun.0) ∙ ap (λ (l : List ℕ). l ++ begun.0) (sym longer))
        ∙ begun.2 ∙ ap fold_case is ∙ fold-append said (code ∷ codes) in
        let heads = (same_front (fold_case front) _ (fold_case said) _ folded (ap length same)).1 in
        let head : to_ascii_lowercase c ≡ to_ascii_lowercase code = cc heads in
        absurd (none c (u ++ after) rest head)

pub word_more : (front said : List ℕ) (c code : ℕ) → fold_case front ≡ fold_case said → to_ascii_lowercase c ≡ to_ascii_lowercase code
    → fold_case (front ++ c ∷ []) ≡ fold_case (said ++ code ∷ [])
word_more front said c code same letter =
    fold-append front (c ∷ []) ∙ (λ i. same i ++ (letter i ∷ [])) ∙ sym (fold-append said (code ∷ []))

pub name_more : (name said codes : List ℕ) → name ≡ said ++ codes → 1 ≤ length codes
    → name ≡ said ++ get_or codes 0 0 ∷ take (length codes - 1) (drop 1 codes)
name_more name said [] is some = absurd (omega arith)
name_more name said (x ∷ codes) is some = is ∙ ap (λ (l : List ℕ). said ++ x ∷ l) (sym (take_all (length (x ∷ codes) - 1) codes (omega arith)))
