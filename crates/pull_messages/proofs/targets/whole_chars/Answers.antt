use Rattle.std.proofs.Common.{◌≡◌, ℕ, List, length, Some, None, sym, ◌∙◌, ap, subst}
use Rattle.std.specs.Prelude.{encode_utf8_all}
use Rattle.pull_messages.specs.Decoding.{IsDecoded}
use Rattle.pull_messages.specs.Escapes.{AreChars, IsFrontOf}
use Rattle.pull_messages.proofs.TargetLaws.{are_chars, measured_whole, same_chars}
use Rattle.pull_messages.proofs.targets.whole_chars.Goals as goal

some_same : (x y : List ℕ) → Some x ≡ Some y → x ≡ y
some_same x y is = cc is

none_some : (y : List ℕ) → None ≡ Some y → ⊥
none_some y is = cc is

pub returns-then-front_size-text : goal.returns-then-front_size-text
returns-then-front_size-text c = λ chars.
    let text = c.args.text.now in
    let cs = c.in_ok-chars.chars in
    let bytes = c.in_ok-bytes.bytes.items in
    let decoded = subst (λ (l : List ℕ). IsDecoded l cs) c.as_slice.ensures.value c.in_ok-chars.ensures in
    let size = c.encoded_size.ensures ∙ ap (λ (l : List ℕ). length (encode_utf8_all l)) c.as_slice-2.ensures.value in
    let front = subst (λ n. IsFrontOf text n c.front_size.result) size c.front_size.ensures in (
      (λ same. subst (λ (l : List ℕ). AreChars l text) (some_same cs chars same)
          (are_chars text bytes cs c.front_size.result c.in_ok-bytes.ensures decoded front c.if-front_size-text.true)),
      (λ are. ap Some (same_chars text bytes cs chars c.in_ok-bytes.ensures decoded are)),
    )

pub returns : goal.returns
returns c = λ chars.
    let text = c.args.text.now in
    let cs = c.in_ok-chars.chars in
    let bytes = c.in_ok-bytes.bytes.items in
    let decoded = subst (λ (l : List ℕ). IsDecoded l cs) c.as_slice.ensures.value c.in_ok-chars.ensures in
    let size = c.encoded_size.ensures ∙ ap (λ (l : List ℕ). length (encode_utf8_all l)) c.as_slice-2.ensures.value in
    let front = subst (λ n. IsFrontOf text n c.front_size.result) size c.front_size.ensures in (
      (λ same. absurd (none_some chars same)),
      (λ are. absurd (c.if-front_size-text.false (measured_whole text bytes cs c.front_size.result c.in_ok-bytes.ensures decoded front
          (subst (λ (l : List ℕ). AreChars l text) (sym (same_chars text bytes cs chars c.in_ok-bytes.ensures decoded are)) are)))),
    )
