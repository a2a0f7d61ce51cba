use Rattle.generated_document.proofs.Contents.{has_contents}
use Rattle.generated_document.proofs.NeverRefused.{only_memory}
use Rattle.generated_document.proofs.Reading.{generated_reads}
use Rattle.generated_document.proofs.document.generated_document.Goals as goal

-- the part spells the instances, so that it is not refused
pub out_of_memory-requires : goal.out_of_memory-requires
out_of_memory-requires c =
    let part = c.in_ok-part.part in
    let reads = generated_reads c.args.count part.bytes c.requires.few c.in_ok-part.ensures.text in
    record { only = only_memory part c.args.count c.requires.few reads c.in-Err.error c.in-Err.ensures.refused }

pub returns-in-Ok-clause-contents : goal.returns-in-Ok-clause-contents
returns-in-Ok-clause-contents c =
    let part = c.in_ok-part.part in
    let reads = generated_reads c.args.count part.bytes c.requires.few c.in_ok-part.ensures.text in
    has_contents part c.args.count reads c.in-Ok.document c.in-Ok.ensures.merged.parts_are
