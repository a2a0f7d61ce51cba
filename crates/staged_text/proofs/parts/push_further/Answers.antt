use Rattle.std.proofs.Common.{ℕ, List, [], ◌∷◌, ◌++◌, ap, ◌∙◌}
use Rattle.dsc_document.proofs.Passing.{front_of}
use Rattle.staged_text.proofs.Further.{begun, ended, goes_on, spelled_first, spelled_rest}
use Rattle.staged_text.proofs.parts.push_further.Goals as goal

pub loop-left-init : goal.loop-left-init
loop-left-init c = record { spelled = c.requires; so_far = begun c.args.parts.now c.args.text.now.items }

pub text_of_part-requires : goal.text_of_part-requires
text_of_part-requires c =
    spelled_first c.loop-left.left.now c.part-item.result (front_of c.loop-left.left.now c.part-item.result c.in-len1-up.len_at_least c.part-item.is)
    c.loop-left.invariant.spelled

pub loop-left-preserved : goal.loop-left-preserved
loop-left-preserved c =
    let one = c.in_ok-one.one.items in
    let with_line : List ℕ = c.loop-left.text.items ++ 10 ∷ [] in
    let is = front_of c.loop-left.left.now c.part-item.result c.in-len1-up.len_at_least c.part-item.is in record {
      spelled = spelled_rest c.loop-left.left.now c.part-item.result is c.loop-left.invariant.spelled;
      so_far = goes_on c.args.parts.now c.loop-left.left.now c.part-item.result c.args.text.now.items c.loop-left.text.items one c.extend_from_slice.new.self.items
          is c.loop-left.invariant.so_far c.in_ok-one.ensures
          (c.in_ok-extend_from_slice.ensures.items ∙ ap (λ (l : List ℕ). l ++ c.deref.result.now) c.in_ok-push.ensures.items
          ∙ ap (λ (l : List ℕ). with_line ++ l) c.deref.ensures.value);
    }

pub returns : goal.returns
returns c =
    ended c.args.parts.now c.loop-left.left.now c.args.text.now.items c.loop-left.text.items c.in_default.len_below c.loop-left.invariant.so_far
