use Rattle.std.proofs.Common.{refl}
use Rattle.mof_syntax.specs.Canonical.{canonical_bytes}
use Rattle.generated_document.specs.Generated.{generated_instances}
use Rattle.partial_merge.specs.Parts.{unnamed_part}
use Rattle.generated_document.proofs.Exists.{generated_exists}
use Rattle.generated_document.proofs.NeverRefused.{only_memory}
use Rattle.generated_document.proofs.Reading.{generated_reads}
use Rattle.generated_document.proofs.laws.generated_laws.Goals as goal

pub returns : goal.returns
returns c =
    let text = canonical_bytes (generated_instances c.args.count) in
    let reads = generated_reads c.args.count text c.requires.few refl in
    record { never_refused = λ refusal other refused. other (only_memory (unnamed_part text) c.args.count c.requires.few reads refusal refused); exists = generated_exists c.args.count c.requires.few }
