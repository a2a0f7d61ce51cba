use Rattle.std.proofs.Common.{List, ℕ, ◌++◌, ◌∙◌, ap, append_assoc, string_bytes, encode_utf8_all}
use Rattle.std.specs.Prelude.{codes}
use Rattle.std.specs.Fmt.{decimal}
use Rattle.lcm_program.proofs.Results.{on_ok_weaker}
use Rattle.lcm_program.proofs.merge_words.push_repeated.Goals as goal

pub returns : goal.returns
returns c =
    let old = string_bytes c.args.out.now in
    let front = codes "DuplicateProperty " ++ decimal c.args.index in
    let name = encode_utf8_all c.args.name.now in
    on_ok_weaker c.push_ident.result _ _
    (λ pushed.
    pushed ∙ ap (λ (t : List ℕ). t ++ codes " " ++ name) c.in_ok-write.ensures.bytes
    ∙ ap (λ (t : List ℕ). t ++ name) (append_assoc old front (codes " ")) ∙ append_assoc old (front ++ codes " ") name)
    c.push_ident.ensures
