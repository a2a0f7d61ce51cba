use Rattle.std.proofs.Common.{◌≡◌, ◌↔◌, ℕ, List, Some, None, sym, ap, subst}
use Rattle.pull_messages.specs.declared.target_kinds.FleetTarget.{FleetTarget}
use Rattle.pull_messages.specs.Escapes.{AreChars}
use Rattle.pull_messages.specs.FleetTargets.{IsFleetTarget, SpellsFleetTarget}
use Rattle.pull_messages.specs.Stops.{IsAnyFleetTarget}
use Rattle.pull_messages.proofs.OneTarget.{fleet_apart, one_fleet}
use Rattle.pull_messages.proofs.targets.fleet_target.Goals as goal

some_chars : (x y : List ℕ) → Some x ≡ Some y → x ≡ y
some_chars x y is = cc is

none_chars : (y : List ℕ) → None ≡ Some y → ⊥
none_chars y is = cc is

some_target : (x y : FleetTarget) → Some x ≡ Some y → x ≡ y
some_target x y is = cc is

none_target : (y : FleetTarget) → None ≡ Some y → ⊥
none_target y is = cc is

-- a target whose characters are the only ones
found : (text cs : List ℕ) (target t : FleetTarget) → ((l : List ℕ) → (Some cs ≡ Some l) ↔ AreChars l text) → SpellsFleetTarget target cs
    → (Some target ≡ Some t) ↔ IsFleetTarget text t
unfolding IsFleetTarget
found text cs target t whole spelled = (
  (λ same. (cs, (whole cs).0 (λ i. Some cs), subst (λ (u : FleetTarget). SpellsFleetTarget u cs) (some_target target t same) spelled)),
  (λ is. ap Some (one_fleet target t cs spelled (subst (SpellsFleetTarget t) (sym (some_chars cs is.0 ((whole is.0).1 is.1))) is.2))),
)

no_form : (text cs : List ℕ) (t : FleetTarget) → ((l : List ℕ) → (Some cs ≡ Some l) ↔ AreChars l text) → (IsAnyFleetTarget cs → ⊥)
    → (None ≡ Some t) ↔ IsFleetTarget text t
unfolding IsFleetTarget
no_form text cs t whole none = (
  (λ same. absurd (none_target t same)),
  (λ is. absurd (none (t, subst (SpellsFleetTarget t) (sym (some_chars cs is.0 ((whole is.0).1 is.1))) is.2))),
)

no_chars : (text : List ℕ) (t : FleetTarget) → ((l : List ℕ) → (None ≡ Some l) ↔ AreChars l text) → (None ≡ Some t) ↔ IsFleetTarget text t
unfolding IsFleetTarget
no_chars text t whole = (
  (λ same. absurd (none_target t same)),
  (λ is. absurd (none_chars is.0 ((whole is.0).1 is.1))),
)

pub returns-in_default-clause-found : goal.returns-in_default-clause-found
returns-in_default-clause-found c = λ t. no_chars c.args.text.now t (rw c.in_default.is at c.in_ok-chars.ensures)

pub returns-in-Ok-clause-found : goal.returns-in-Ok-clause-found
returns-in-Ok-clause-found c = λ t.
    let spelled = subst (SpellsFleetTarget c.in-Ok.target) c.as_slice.ensures.value c.in-Ok.ensures.ok in
    found c.args.text.now c.in-Some.chars c.in-Ok.target t (rw c.in-Some.is at c.in_ok-chars.ensures) spelled

pub returns-in-Err-Left-clause-found : goal.returns-in-Err-Left-clause-found
returns-in-Err-Left-clause-found c = λ t.
    let none = rw (c.in-Err-Left.field-0-is, c.as_slice.ensures.value) at c.in-Err-Left.ensures.none in
    no_form c.args.text.now c.in-Some.chars t (rw c.in-Some.is at c.in_ok-chars.ensures) none

pub returns-in-Ok-clause-apart : goal.returns-in-Ok-clause-apart
returns-in-Ok-clause-apart c = λ t is.
    let whole = rw c.in-Some.is at c.in_ok-chars.ensures in
    let cs = c.in-Some.chars in
    let spelled = subst (SpellsFleetTarget c.in-Ok.target) c.as_slice.ensures.value c.in-Ok.ensures.ok in
    fleet_apart c.in-Ok.target t cs c.args.text.now ((whole cs).0 (λ i. Some cs)) spelled is
