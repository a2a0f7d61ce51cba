use Rattle.std.proofs.Common.{◌≡◌, [], ◌∷◌, List, ap, subst, sym, ◌∙◌}
use Rattle.partial_merge.specs.declared.part.Part.{Part}
use Rattle.partial_merge.specs.Merged.{Merged}
use Rattle.partial_merge.specs.Parts.{unnamed_part}
use Rattle.partial_merge.specs.Refused.{Refused}
use Rattle.dsc_node.proofs.PushedParts.{part_is, refused_of}
use Rattle.dsc_node.proofs.preparing.staged_document.Goals as goal

pub returns-in-Ok-clause-ok : goal.returns-in-Ok-clause-ok
returns-in-Ok-clause-ok c =
    let part = part_is c.in_ok-part.part [] c.args.bytes (c.in_ok-part.ensures.name ∙ c.of-name.ensures ∙ c.new.ensures.items) c.in_ok-part.ensures.bytes in
    c.in-Ok.ensures.staged ∙ c.in_ok-parts.ensures.items ∙ ap (λ (p : Part). p ∷ []) part

pub returns-in-Err-Merge-clause-refused : goal.returns-in-Err-Merge-clause-refused
returns-in-Err-Merge-clause-refused c =
    let part = part_is c.in_ok-part.part [] c.args.bytes (c.in_ok-part.ensures.name ∙ c.of-name.ensures ∙ c.new.ensures.items) c.in_ok-part.ensures.bytes in
    let parts : c.in_ok-parts.parts.items ≡ unnamed_part c.args.bytes ∷ [] = c.in_ok-parts.ensures.items ∙ ap (λ (p : Part). p ∷ []) part in
    subst (λ (ps : List Part). Refused ps c.in-Err-Merge.error) parts
    (refused_of c.usual.result c.in_ok-parts.parts.items c.staged_in_order.result c.in-Err-Merge.field-0 c.in-Err-Merge.error c.in-Err-Merge.is c.in-Err-Merge.field-0-is c.staged_in_order.ensures.refused)

pub returns-in-Ok-clause-document : goal.returns-in-Ok-clause-document
returns-in-Ok-clause-document c = record {
  merged = subst (λ (ps : List Part). Merged ps c.in-Ok.pair.1.document) (sym c.in-Ok.ensures.staged) c.in-Ok.ensures.merged;
  ordered = c.in-Ok.ensures.ordered;
  in_size = c.in-Ok.ensures.in_size;
}
