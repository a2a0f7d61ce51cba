use Rattle.std.proofs.Common.{◌≡◌, ◌≤◌, ◌++◌, ◌∙◌, ℕ, List, length, sym, subst, ap, arith}
use Rattle.pull_store.specs.declared.change.Change.TheVariants.{Register}
use Rattle.pull_store.specs.Bodies.{body_of}
use Rattle.pull_store.specs.declared.limits.TheConstants.{BODY_CAPACITY}
use Rattle.pull_store.proofs.Sizes.{register_short}
use Rattle.pull_store.proofs.spelling.spell_registration.Goals as goal

pub unreachable-requires : goal.unreachable-requires
unreachable-requires c =
    let ok = c.in-Err.ensures.writes.succeeds (omega (arith, register_short c.args.agent c.args.registration.now c.requires.size, c.clear.ensures.len, c.clear.ensures.capacity, c.requires.capacity)) in
    cc ok

pub returns-clause-short : goal.returns-clause-short
returns-clause-short c =
    let spelled = body_of (Register c.args.agent c.args.registration.now) in
    let is : c.put_register.new.into.items ≡ spelled = c.in-Ok.ensures.writes.items ∙ ap (λ (l : List ℕ). l ++ spelled) c.clear.ensures.items in
    subst (λ (l : List ℕ). length l ≤ BODY_CAPACITY) (sym is) (omega (arith, register_short c.args.agent c.args.registration.now c.requires.size))
