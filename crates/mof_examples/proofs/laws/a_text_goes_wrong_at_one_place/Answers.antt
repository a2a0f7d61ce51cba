use Rattle.std.proofs.Common.{◌≤◌, ◌≡◌, ℕ, arith}
use Rattle.mof_syntax.proofs.FrontLaws.{IsSyntaxFault-from_next}
use Rattle.mof_examples.proofs.laws.a_text_goes_wrong_at_one_place.Goals as goal

both_ways : (m n : ℕ) → m ≤ n → n ≤ m → m ≡ n
both_ways m n a b = omega arith

pub returns : goal.returns
returns c = record {
  once = record {
    not_in_the_grammar = λ text at wide fault. fault.outside wide;
    one_place = λ text one other a b. both_ways one other (b.longest one a.within a.front) (a.longest other b.within b.front);
  };
  next = λ text at outside within front next. IsSyntaxFault-from_next text at outside within front next;
}
