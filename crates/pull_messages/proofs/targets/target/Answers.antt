use Rattle.std.proofs.Common.{◌<◌, ◌-◌, ℕ, List, [], length, take, refl, sym, ◌∙◌, ap, subst, arith, append-nil, rules, ◌^◌}
use Rattle.std.specs.Prelude.{encode_utf8_all}
use Rattle.pull_messages.specs.Decoding.{IsDecoded}
use Rattle.pull_messages.specs.Escapes.{IsFrontOf}
use Rattle.pull_messages.specs.Stops.{EndsAt, IsAnyTarget}
use Rattle.pull_messages.specs.Targets.{SpellsTarget}
use Rattle.pull_messages.proofs.OneTarget.{one_target}
use Rattle.pull_messages.proofs.TargetLaws.{is_target, longest_front, no_target, whole_target, front_taken, small_front}
use Rattle.pull_messages.proofs.targets.target.Goals as goal

pub returns-then-at-text-clause-ok : goal.returns-then-at-text-clause-ok
returns-then-at-text-clause-ok c =
    let text = c.args.text.now in
    let cs = c.in_ok-spelled.spelled in
    let bytes = c.in_ok-bytes.bytes.items in
    let decoded = subst (λ (l : List ℕ). IsDecoded l cs) c.as_slice.ensures.value c.in_ok-spelled.ensures in
    let spelled = subst (SpellsTarget c.in-Ok.target) c.as_slice-chars.ensures.value c.in-Ok.ensures.ok in
    let size = c.encoded_size.ensures ∙ ap (λ (l : List ℕ). length (encode_utf8_all l)) c.as_slice-chars.ensures.value in
    is_target text bytes cs c.in-Ok.target c.front_size-at.result c.in_ok-bytes.ensures decoded spelled
    (subst (λ n. IsFrontOf text n c.front_size-at.result) size c.front_size-at.ensures) c.if-at-text.true

pub returns-then-at-text-clause-only : goal.returns-then-at-text-clause-only
returns-then-at-text-clause-only c = λ t is. one_target c.args.text.now t c.in-Ok.target is (returns-then-at-text-clause-ok c)

longest-in-Ok : goal.returns-in-Ok-clause-bad
longest-in-Ok c =
    let text = c.args.text.now in
    let cs = c.in_ok-spelled.spelled in
    let bytes = c.in_ok-bytes.bytes.items in
    let decoded = subst (λ (l : List ℕ). IsDecoded l cs) c.as_slice.ensures.value c.in_ok-spelled.ensures in
    let spelled = subst (SpellsTarget c.in-Ok.target) c.as_slice-chars.ensures.value c.in-Ok.ensures.ok in
    let size = c.encoded_size.ensures ∙ ap (λ (l : List ℕ). length (encode_utf8_all l)) c.as_slice-chars.ensures.value in
    longest_front text bytes cs cs [] c.front_size-at.result c.in_ok-bytes.ensures decoded (sym (append-nil cs))
    (subst (λ n. IsFrontOf text n c.front_size-at.result) size c.front_size-at.ensures)
    ([], refl, (c.in-Ok.target, subst (SpellsTarget c.in-Ok.target) (sym (append-nil cs)) spelled)) (λ more after split begun. omega arith)

pub returns-in-Ok-clause-bad : goal.returns-in-Ok-clause-bad
returns-in-Ok-clause-bad c = longest-in-Ok c

pub returns-in-Ok-clause-refused : goal.returns-in-Ok-clause-refused
returns-in-Ok-clause-refused c = no_target c.args.text.now c.front_size-at.result (longest-in-Ok c) c.if-at-text.false

pub encoded_size-requires-in-Err-Left : goal.encoded_size-requires-in-Err-Left
encoded_size-requires-in-Err-Left c =
    let cs = c.in_ok-spelled.spelled in
    let bytes = c.in_ok-bytes.bytes.items in
    let decoded = subst (λ (l : List ℕ). IsDecoded l cs) c.as_slice.ensures.value c.in_ok-spelled.ensures in
    let ends = subst (λ (l : List ℕ). EndsAt IsAnyTarget l c.in-Err-Left.left) c.as_slice-chars.ensures.value (rw c.in-Err-Left.field-0-is at c.in-Err-Left.ensures.bad) in
    let front = ap (λ (l : List ℕ). take (length l - c.in-Err-Left.left) l) c.as_slice-chars.ensures.value ∙ front_taken cs ends.front ends.rest c.in-Err-Left.left ends.split ends.size in
    let few = small_front bytes cs ends.front ends.rest decoded ends.split in
    let small : length bytes < 2 ^ 64 = search rules in
    rw front (omega (arith, few, small))

pub returns-in-Err-Left-clause-bad : goal.returns-in-Err-Left-clause-bad
returns-in-Err-Left-clause-bad c =
    let text = c.args.text.now in
    let cs = c.in_ok-spelled.spelled in
    let bytes = c.in_ok-bytes.bytes.items in
    let decoded = subst (λ (l : List ℕ). IsDecoded l cs) c.as_slice.ensures.value c.in_ok-spelled.ensures in
    let ends = subst (λ (l : List ℕ). EndsAt IsAnyTarget l c.in-Err-Left.left) c.as_slice-chars.ensures.value (rw c.in-Err-Left.field-0-is at c.in-Err-Left.ensures.bad) in
    let front = ap (λ (l : List ℕ). take (length l - c.in-Err-Left.left) l) c.as_slice-chars.ensures.value ∙ front_taken cs ends.front ends.rest c.in-Err-Left.left ends.split ends.size in
    let size = c.encoded_size-in-Err-Left.ensures ∙ ap (λ (l : List ℕ). length (encode_utf8_all l)) front in
    longest_front text bytes cs ends.front ends.rest c.front_size-at-in-Err-Left.result c.in_ok-bytes.ensures decoded ends.split
    (subst (λ n. IsFrontOf text n c.front_size-at-in-Err-Left.result) size c.front_size-at-in-Err-Left.ensures) ends.begins
    (λ more after split begun. omega (arith, ends.size, ends.longest more after split begun))

pub returns-in-Err-Left-clause-refused : goal.returns-in-Err-Left-clause-refused
returns-in-Err-Left-clause-refused c =
    let text = c.args.text.now in
    let cs = c.in_ok-spelled.spelled in
    let decoded = subst (λ (l : List ℕ). IsDecoded l cs) c.as_slice.ensures.value c.in_ok-spelled.ensures in
    let ends = subst (λ (l : List ℕ). EndsAt IsAnyTarget l c.in-Err-Left.left) c.as_slice-chars.ensures.value (rw c.in-Err-Left.field-0-is at c.in-Err-Left.ensures.bad) in
    λ t is. ends.none (t, whole_target text c.in_ok-bytes.bytes.items cs t c.in_ok-bytes.ensures decoded is)
