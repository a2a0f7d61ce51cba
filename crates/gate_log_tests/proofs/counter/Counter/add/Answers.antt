use Rattle.std.proofs.Common.{◌≡◌, ◌+◌, ℕ, sym, subst, rules}
use Rattle.gate_log.specs.Standing.{StandsAtAnyMoment}
use Rattle.gate_log.specs.Kept.{IsEither, IsKeptBy, StandsBy}
use Rattle.gate_log.proofs.Leading.{still_by}
use Rattle.gate_log_tests.specs.Counting.{CounterTerm, LeadsToCount, count_shape}
use Rattle.gate_log_tests.proofs.counter.Counter.add.Goals as goal

pub returns-in_default-clause-any_moment : goal.returns-in_default-clause-any_moment
returns-in_default-clause-any_moment g c = λ kept.
    still_by count_shape LeadsToCount g.D.Disk c.args.disk.now c.args.self.now.log c.args.self.now.count (c.args.self.now.count + c.args.number) (g.met.D.Disk.only_now c.args.disk.now) kept

pub returns-in-Err-clause-any_moment : goal.returns-in-Err-clause-any_moment
returns-in-Err-clause-any_moment g c =
    let sum : c.self.inside.count + c.args.number ≡ c.in-Some.count = search rules in
    subst (λ (t : CounterTerm). IsKeptBy g.D.Disk c.args.disk.now count_shape LeadsToCount t.log t.count → StandsAtAnyMoment g.D.Disk c.args.disk.now c.write.new.disk (StandsBy count_shape LeadsToCount) (IsEither t.count (t.count + c.args.number))) c.self.view_is
    (λ kept. subst (λ (n : ℕ). StandsAtAnyMoment g.D.Disk c.args.disk.now c.write.new.disk (StandsBy count_shape LeadsToCount) (IsEither c.self.inside.count n)) (sym sum) (c.write.ensures.any_moment c.self.inside.count kept sum))

pub returns-clause-any_moment : goal.returns-clause-any_moment
returns-clause-any_moment g c =
    let sum : c.self.inside.count + c.args.number ≡ c.in-Some.count = search rules in
    subst (λ (t : CounterTerm). IsKeptBy g.D.Disk c.args.disk.now count_shape LeadsToCount t.log t.count → StandsAtAnyMoment g.D.Disk c.args.disk.now c.write.new.disk (StandsBy count_shape LeadsToCount) (IsEither t.count (t.count + c.args.number))) c.self.view_is
    (λ kept. subst (λ (n : ℕ). StandsAtAnyMoment g.D.Disk c.args.disk.now c.write.new.disk (StandsBy count_shape LeadsToCount) (IsEither c.self.inside.count n)) (sym sum) (c.write.ensures.any_moment c.self.inside.count kept sum))
