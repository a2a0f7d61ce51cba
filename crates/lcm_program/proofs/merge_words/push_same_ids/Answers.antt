use Rattle.std.proofs.Common.{List, ℕ, ◌++◌, ◌∙◌, ap, append_assoc, string_bytes}
use Rattle.std.specs.Prelude.{codes}
use Rattle.lcm_program.proofs.Results.{on_ok_weaker}
use Rattle.lcm_program.specs.InputWords.{spot_words}
use Rattle.lcm_program.proofs.merge_words.push_same_ids.Goals as goal

pub returns : goal.returns
returns c =
    let old = string_bytes c.args.out.now in
    let word = codes "DuplicateId " in
    let space = codes " " in
    let first = spot_words c.args.first in
    let second = spot_words c.args.second in
    on_ok_weaker c.push_spot-2.result _ _
    (λ pushed.
    pushed
    ∙ ap (λ (t : List ℕ). t ++ second) (c.in_ok-push_str-2.ensures.bytes
    ∙ ap (λ (t : List ℕ). t ++ space) (c.in_ok-push_spot.ensures ∙ ap (λ (t : List ℕ). t ++ first) c.in_ok-push_str.ensures.bytes))
    ∙ ap (λ (t : List ℕ). t ++ space ++ second) (append_assoc old word first)
    ∙ ap (λ (t : List ℕ). t ++ second) (append_assoc old (word ++ first) space)
    ∙ append_assoc old (word ++ first ++ space) second)
    c.push_spot-2.ensures
