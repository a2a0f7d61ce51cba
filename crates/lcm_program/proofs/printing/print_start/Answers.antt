use Rattle.std.proofs.Common.{◌≡◌, ◌∙◌, ℕ, List, Option, Some, None, is_some, refl, sym, true, true≢false}
use Rattle.dsc_outside.specs.declared.ends.Ends.{Ghosts}
use Rattle.dsc_node.specs.declared.status.Status.{Status}
use Rattle.lcm_program.specs.Endings.{EndsBy, RefusedEnds}
use Rattle.lcm_program.specs.Refusal.{reason_of}
use Rattle.lcm_program.proofs.printing.print_start.Goals as goal

-- a status with a reason ends as its refusal does
with_reason : {K : Type 0} (sink : Ghosts K) (ended status : Status) (lines : List ℕ) (old new : K) (reason : Option (List ℕ)) → is_some reason ≡ true
    → ((given : List ℕ) → reason ≡ Some given → RefusedEnds sink ended lines given status old new) → EndsBy sink ended lines reason status old new
with_reason sink ended status lines old new None some ends = absurd (true≢false (sym some))
with_reason sink ended status lines old new (Some given) some ends = ends given refl

pub returns-then-is_refusal : goal.returns-then-is_refusal
returns-then-is_refusal g c =
    with_reason g.K.Ends c.args.end.status c.print_refused.result _ c.args.output.now c.print_refused.new.output (reason_of c.args.end.status)
    (sym c.is_refusal.ensures ∙ c.if-is_refusal.true) c.print_refused.ensures
