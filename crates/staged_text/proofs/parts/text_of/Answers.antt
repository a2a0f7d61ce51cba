use Rattle.dsc_document.proofs.Passing.{front_of}
use Rattle.staged_text.proofs.Further.{none_of, spelled_first, spelled_rest, texts_of}
use Rattle.staged_text.proofs.parts.text_of.Goals as goal

pub text_of_part-requires : goal.text_of_part-requires
text_of_part-requires c =
    spelled_first c.args.parts.now c.part-item.result (front_of c.args.parts.now c.part-item.result c.in-len1-up.len_at_least c.part-item.is) c.requires

pub push_further-requires : goal.push_further-requires
push_further-requires c =
    spelled_rest c.args.parts.now c.part-item.result (front_of c.args.parts.now c.part-item.result c.in-len1-up.len_at_least c.part-item.is) c.requires
