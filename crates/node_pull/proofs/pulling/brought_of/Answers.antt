use Rattle.std.proofs.Common.{List, Option, sym, subst, ◌∙◌}
use Rattle.std.specs.Prelude.{IfSome}
use Rattle.depend_order.specs.declared.ordered.OrderedDocument.{OrderedDocument}
use Rattle.partial_merge.specs.declared.part.Part.{Part}
use Rattle.partial_merge.specs.Merged.{IsDocumentOf}
use Rattle.node_pull.proofs.PullRows.{same_parts_are}
use Rattle.node_pull.proofs.pulling.brought_of.Goals as goal
use Rattle.node_pull.proofs.pulling.brought_of.Goals.{then-same_parts, else-same_parts}

pub returns-clause-document : goal.returns-clause-document
returns-clause-document c =
    let is_of = λ (document : Option OrderedDocument). IfSome document (IsDocumentOf c.args.held.now) in
    elim c.if-same_parts.branch [
      | then-same_parts w ↦
          let same = same_parts_are c.args.held.now c.parts-2.result.now (sym c.same_parts.ensures ∙ w.if-same_parts.true) ∙ c.parts-2.ensures in
          subst is_of (sym w.document-is) (subst (λ (parts : List Part). IsDocumentOf parts c.args.document) (sym same) c.requires.document)
      | else-same_parts w ↦ subst is_of (sym w.document-is) tt
    ]
