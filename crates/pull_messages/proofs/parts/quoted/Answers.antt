use Rattle.std.proofs.Common.{ℕ, List, ◌≡◌, ◌+◌, ◌-◌, ◌∷◌, ◌++◌, length, sym, ◌∙◌, subst, arith}
use Rattle.std.specs.Prelude.{encode_utf8_all}
use Rattle.pull_messages.specs.Targets.{doubled, IsQuoted}
use Rattle.pull_messages.proofs.Quotes.{no_open, no_close, no_end, value_more, capacity_more, quoted_taken, no_chars, some_chars}
use Rattle.std.proofs.lemmas.Bool.{eqb-true}
use Rattle.std.proofs.lemmas.Str.{length-encode}
use Rattle.mof_values.specs.declared.limits.TheConstants.{MAX_NAME_BYTES}
use Rattle.pull_messages.proofs.parts.quoted.Goals as goal

pub returns-in_default-clause-stop : goal.returns-in_default-clause-stop
returns-in_default-clause-stop c = no_open c.args.end c.requires c.args.chars.now c.in_default.ensures.none

pub returns-in_default-rest_after-clause-stop : goal.returns-in_default-rest_after-clause-stop
returns-in_default-rest_after-clause-stop c =
    no_close c.args.end c.requires c.args.chars.now c.loop-c.text.items c.loop-c.left.now c.loop-c.capacity c.loop-c.invariant.0 c.loop-c.invariant.1
    c.in_default-value_char.ensures.none c.in_default-rest_after.ensures.none

pub returns-then-is_empty-clause-stop : goal.returns-then-is_empty-clause-stop
returns-then-is_empty-clause-stop c =
    no_end c.args.end c.requires c.args.chars.now c.loop-c.text.items c.loop-c.left.now c.in-Some-rest_after.rest.now c.loop-c.capacity c.loop-c.invariant.0 c.loop-c.invariant.1
    c.in_default-value_char.ensures.none c.in-Some-rest_after.ensures.some
    (λ rest_after fits is. absurd (omega (arith, fits.0, no_chars c.loop-c.text.items (eqb-true _ 0 (rw c.as_slice.ensures.value at (sym c.is_empty.ensures ∙ c.if-is_empty.true))))))

pub returns-clause-stop : goal.returns-clause-stop
returns-clause-stop c =
    no_end c.args.end c.requires c.args.chars.now c.loop-c.text.items c.loop-c.left.now c.in-Some-rest_after.rest.now c.loop-c.capacity c.loop-c.invariant.0 c.loop-c.invariant.1
    c.in_default-value_char.ensures.none c.in-Some-rest_after.ensures.some (λ rest_after fits is. c.in-None.ensures.none rest_after is)

pub loop-c-preserved : goal.loop-c-preserved
loop-c-preserved c =
    let char = c.in-Some-value_char.ensures.some in
    let text = c.loop-c.text.items in
    let size = c.len_utf8-capacity.ensures.value ∙ sym (length-encode c.in-Some-value_char.c) in
    subst (λ (t : List ℕ). (c.args.chars.now ≡ (39 ∷ doubled t) ++ c.in-Some-value_char.rest.now) × (length (encode_utf8_all t) + (c.loop-c.capacity - c.len_utf8-capacity.result) ≡ MAX_NAME_BYTES))
    (sym c.in_ok-push.ensures.items) (
      value_more c.args.chars.now text c.loop-c.left.now c.in-Some-value_char.rest.now c.in-Some-value_char.c c.loop-c.invariant.0 char.0,
      capacity_more text c.in-Some-value_char.c c.loop-c.capacity c.len_utf8-capacity.result c.loop-c.invariant.1 char.1 size,
    )

pub returns-in-Some-rest_after-2-clause-taken : goal.returns-in-Some-rest_after-2-clause-taken
returns-in-Some-rest_after-2-clause-taken c =
    let text = c.loop-c.text.items in
    let some = some_chars text (rw c.as_slice.ensures.value at (sym c.is_empty.ensures ∙ c.if-is_empty.false)) in
    subst (λ (t : List ℕ). (front : List ℕ) × (c.args.chars.now ≡ front ++ c.in-Some-rest_after-2.after.now) × IsQuoted t c.args.end front) (sym c.of.ensures)
    (quoted_taken c.args.chars.now text c.loop-c.left.now c.in-Some-rest_after.rest.now c.in-Some-rest_after-2.after.now c.args.end c.loop-c.capacity
    c.loop-c.invariant.0 c.in-Some-rest_after.ensures.some c.in-Some-rest_after-2.ensures.some c.loop-c.invariant.1 some)
