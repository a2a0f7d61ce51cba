use Rattle.std.proofs.Common.{◌≡◌, ◌∙◌, Some, ap, arith, refl, subst, sym}
use Rattle.dsc_outside.specs.Host.{HostState, empty_host}
use Rattle.memory_outside.specs.ReliableHost.{shown_by}
use Rattle.depend_order.proofs.DocumentOrders.{order_below}
use Rattle.lcm_core.specs.declared.modes.RunMode.TheVariants.{Repair}
use Rattle.lcm_core.proofs.Successes.{legal_ends}
use Rattle.lcm_core.proofs.Traces.{legal_places}
use Rattle.resource_kinds.specs.Kinds.{calls_of, host_of}
use Rattle.resource_kinds.specs.Trace.{host_failures}
use Rattle.dsc_node.specs.Ran.{RanOnHost}
use Rattle.generated_document.specs.Contents.{HasContents}
use Rattle.generated_document.specs.Generated.{IsGenerated}
use Rattle.lcm_program.specs.Generate.{generated_lines}
use Rattle.lcm_program.proofs.GeneratedRuns.{finishes, none_missed}
use Rattle.lcm_program.proofs.GeneratedVariables.{ask_variables}
use Rattle.lcm_program.proofs.generate.repair_generated.Goals as goal

pub lines-requires-clause-order : goal.lines-requires-clause-order
lines-requires-clause-order c =
    rw c.as_slice-order.ensures (order_below c.in_ok-ordered.ordered.document c.in_ok-ordered.ordered.order c.in_ok-ordered.ensures.ordered.order)

pub lines-requires-clause-known : goal.lines-requires-clause-known
lines-requires-clause-known c =
    rw c.calls.ensures (legal_places c.in_ok-ordered.ordered.document Repair c.in_ok-ordered.ordered.order (calls_of c.run_kinds.new.kinds) c.run_kinds.ensures.ran.legal)

pub lines-requires-clause-ends : goal.lines-requires-clause-ends
lines-requires-clause-ends c =
    rw c.calls.ensures (legal_ends c.in_ok-ordered.ordered.document Repair c.in_ok-ordered.ordered.order (calls_of c.run_kinds.new.kinds) c.run_kinds.ensures.ran.legal)

pub returns-in-Finished : goal.returns-in-Finished
returns-in-Finished c =
    let document = c.in_ok-ordered.ordered.document in
    let order = c.in_ok-ordered.ordered.order in
    let trace = calls_of c.run_kinds.new.kinds in
    let after = shown_by (host_of c.run_kinds.new.kinds) in
    let left = c.run_kinds.ensures.ran in
    let none : host_failures trace ≡ 0 = omega (arith, left.failures) in
    let begun = subst (λ (h : HostState). RanOnHost document Repair order c.run_kinds.result trace (Some h) (Some after) 0 0)
    (ap shown_by (c.new-kinds.ensures.host ∙ c.of.ensures) ∙ c.empty.ensures) left in
    let succeeds = c.repair_laws.ensures.succeeds in
    let made = c.in_ok-ordered.ensures.same in
    let contents = subst (HasContents c.args.count) (sym made) c.in_ok-generated_document.ensures.contents in
    let ask = ask_variables c.args.count document contents in
    let run = finishes succeeds document order trace empty_host after ask refl none c.run_kinds.result c.in-Finished.is begun in
    record {
      document = document;
      generated = subst (IsGenerated c.args.count) (sym made) c.in_ok-generated_document.ensures.generated;
      contents = contents;
      order = order;
      trace = trace;
      after = after;
      run = run;
      blameless = none;
      all = none_missed succeeds document order trace empty_host after ask refl none run;
      lines = c.in_ok-lines-in-Finished.ensures
          ∙ ap (λ places. generated_lines c.args.count document places c.calls.result.now) c.as_slice-order.ensures
          ∙ ap (λ calls. generated_lines c.args.count document order calls) c.calls.ensures;
    }
