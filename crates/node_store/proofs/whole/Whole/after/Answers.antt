use Rattle.std.proofs.Common.{◌≡◌, ◌∷◌, ◌++◌, ◌∙◌, ℕ, Bor, Option, Some, None, is_some, List, map, refl, sym, subst}
use Rattle.std.specs.Prelude.{IfSome}
use Rattle.std.specs.List.{AllByRecursion}
use Rattle.gate_log.specs.Text.{AllFit}
use Rattle.partial_merge.specs.declared.part.Part.{Part}
use Rattle.report_log.specs.declared.report.Report.{Report}
use Rattle.report_log.specs.Sizes.{ReportInSize}
use Rattle.node_state.specs.declared.node.Kept.{Kept}
use Rattle.node_state.specs.Lists.{IsStaged}
use Rattle.node_store.specs.Bodies.{base_body}
use Rattle.node_store.specs.declared.blob.Blob.{Blob}
use Rattle.node_store.specs.Digests.{blob_body}
use Rattle.node_store.specs.Growing.{bodies_of_format}
use Rattle.node_store.specs.Whole.{blobs_of, bodies_after_base}
use Rattle.node_store.specs.declared.limits.TheConstants.{MAX_BODY}
use Rattle.node_store.proofs.Fronts.{added_in_size, kept_in_size, whole_is}
use Rattle.node_store.proofs.whole.Whole.after.Goals as goal

some_blobs : (blobs : Option (Bor (List Blob))) → is_some blobs ≡ is_some (blobs_of blobs)
some_blobs (Some blobs) = refl
some_blobs None = refl

pub returns-clause-rest : goal.returns-clause-rest
returns-clause-rest c =
    let first = c.is_some.ensures ∙ some_blobs c.args.blobs in
    let second = c.is_some-2.ensures ∙ some_blobs c.args.blobs in
    (λ i.
    bodies_of_format (first i)
    ++ (map blob_body (c.list_of.ensures i)
    ++ (base_body c.args.agent (c.registered_after.ensures i) (c.reboot_after.ensures i) (c.next_job_after.ensures i) (c.requires.text i)
    ∷ bodies_after_base (second i) (c.pending_after.ensures i) (c.current_after.ensures i) (c.previous_after.ensures i) (c.sent_in.ensures i) (c.kept_after.ensures i) (c.added_in.ensures i))))
    ∙ whole_is (blobs_of c.args.blobs) c.args.agent c.args.node.now c.args.event.now

pub returns-clause-ready : goal.returns-clause-ready
returns-clause-ready c =
    let first = c.is_some.ensures ∙ some_blobs c.args.blobs in
    let second = c.is_some-2.ensures ∙ some_blobs c.args.blobs in
    record {
      pending = subst (λ (o : Option (List Part)). IfSome o IsStaged) (sym c.pending_after.ensures) c.requires.sound.pending;
      current = subst (λ (o : Option (List Part)). IfSome o IsStaged) (sym c.current_after.ensures) c.requires.sound.current;
      previous = subst (λ (o : Option (List Part)). IfSome o IsStaged) (sym c.previous_after.ensures) c.requires.sound.previous;
      reports = subst (λ (l : List Kept). AllByRecursion (λ kept. ReportInSize kept.report) l) (sym c.kept_after.ensures) (kept_in_size c.args.node.now c.args.event.now c.requires.sound);
      added = subst (λ (o : Option Report). IfSome o ReportInSize) (sym c.added_in.ensures) (added_in_size c.args.node.now c.args.event.now c.requires.sound);
      fit = subst (λ (l : List (List ℕ)). AllFit MAX_BODY l)
          (sym
          ((λ i.
          bodies_of_format (first i)
          ++ (map blob_body (c.list_of.ensures i)
          ++ (base_body c.args.agent (c.registered_after.ensures i) (c.reboot_after.ensures i) (c.next_job_after.ensures i) (c.requires.text i)
          ∷ bodies_after_base (second i) (c.pending_after.ensures i) (c.current_after.ensures i) (c.previous_after.ensures i) (c.sent_in.ensures i) (c.kept_after.ensures i) (c.added_in.ensures i))))
          ∙ whole_is (blobs_of c.args.blobs) c.args.agent c.args.node.now c.args.event.now))
          c.requires.fit;
    }
