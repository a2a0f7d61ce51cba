use Rattle.std.proofs.Common.{◌≡◌, ◌∙◌, Bool, true, false, length, sym, ap, arith}
use Rattle.pull_store.proofs.BodiesRead.{kept_registration, none_kept}
use Rattle.pull_store.proofs.reading.read_registration.Goals as goal
use Rattle.pull_store.proofs.reading.read_registration.Goals.{else-is_empty-via-then-is_empty+then-names-le-MAX_LIST_ITEMS+else-bytes-names, else-is_empty-via-then-is_empty+else-names-le-MAX_LIST_ITEMS, else-is_empty-via-else-is_empty}

never : (b : Bool) → b ≡ true → b ≡ false → ⊥
never true yes_is no_is = absurd cc
never false yes_is no_is = absurd cc

pub returns-then-bytes-names-clause-found : goal.returns-then-bytes-names-clause-found
returns-then-bytes-names-clause-found c =
    let kept = kept_registration c.of-fields.result c.read_fields.new.fields c.in_ok-registration.registration c.in_ok-registration.ensures.found.0 c.in_ok-registration.ensures.found.1 (c.is_empty.ensures.0 c.if-is_empty.true)
    (omega (arith, ap length c.as_slice-names.ensures, c.if-names-le-MAX_LIST_ITEMS.true)) (omega (arith, ap length c.of-fields.ensures, ap length c.as_slice-names.ensures, c.if-bytes-names.true)) in
    (kept.0, sym c.of-fields.ensures ∙ kept.1)

pub returns-else-is_empty-clause-wrong : goal.returns-else-is_empty-clause-wrong
returns-else-is_empty-clause-wrong c = λ same x is spells.
    none_kept c.of-fields.result c.read_fields.new.fields c.in_ok-registration.registration x c.in_ok-registration.ensures
    (λ none few short. elim c.else-is_empty.branch [
      | else-is_empty-via-then-is_empty+then-names-le-MAX_LIST_ITEMS+else-bytes-names w ↦ omega (arith, short, ap length c.of-fields.ensures, ap length c.as_slice-names.ensures, w.if-bytes-names.false)
      | else-is_empty-via-then-is_empty+else-names-le-MAX_LIST_ITEMS w ↦ omega (arith, few, ap length c.as_slice-names.ensures, w.if-names-le-MAX_LIST_ITEMS.false)
      | else-is_empty-via-else-is_empty w ↦ never c.is_empty.result (c.is_empty.ensures.1 none) w.if-is_empty.false
    ])
    is (c.of-fields.ensures ∙ spells)
