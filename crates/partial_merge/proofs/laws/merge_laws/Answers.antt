use Rattle.partial_merge.proofs.Existing.{answers_exist}
use Rattle.partial_merge.proofs.OneMerge.{never_both, one_document, one_refusal}
use Rattle.partial_merge.proofs.laws.merge_laws.Goals as goal

pub returns : goal.returns
returns c =
    let parts = c.args.parts.now in
    record { one_document = one_document parts; never_both = never_both parts; one_refusal = one_refusal parts; exists = answers_exist parts }
