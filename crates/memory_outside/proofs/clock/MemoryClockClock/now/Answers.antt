use Rattle.std.proofs.Common.{◌≡◌, ◌∙◌, ℕ, Result, Err, ap, refl, sym, true, rules}
use Rattle.std.specs.Result.{result_ok}
use Rattle.dsc_outside.specs.declared.failed.Failed.{Failed}
use Rattle.std.proofs.lemmas.Result.{err_from_is_err_and}
use Rattle.memory_outside.specs.Memory.{is_to_fail, with_fault}
use Rattle.memory_outside.specs.MemoryClock.{ClockInMemory}
use Rattle.memory_outside.proofs.ClockReadings.{given_failing, given_none, reading_fails}
use Rattle.memory_outside.proofs.clock.MemoryClockClock.now.Goals as goal

pub returns-in_err-begin-clause-reading : goal.returns-in_err-begin-clause-reading
returns-in_err-begin-clause-reading c =
    let old = c.args.self.now in
    let view = c.self.view_is ∙ c.take_reading-reading.ensures.rest in
    let same = ap (λ (k : ClockInMemory). k.calls) view in
    let fails : is_to_fail c.self.inside.calls ≡ true = search rules in
    let p = err_from_is_err_and c.from_residual.result c.from_residual.ensures.1 in
    reading_fails old.calls c.self.inside.calls c.begin.new.self _ old.readings _ c.from_residual.result same (ap (λ (k : ClockInMemory). k.readings) view) c.begin.ensures.count (given_failing old.calls _ (ap is_to_fail (sym same) ∙ fails)) (ap result_ok p.1)

pub returns-in-None-clause-reading : goal.returns-in-None-clause-reading
returns-in-None-clause-reading c =
    let old = c.args.self.now in
    let view = c.self.view_is ∙ c.take_reading-reading.ensures.rest in
    let same = ap (λ (k : ClockInMemory). k.calls) view in
    let result : Result ℕ Failed = Err (record {}) in
    reading_fails old.calls c.self.inside.calls c.add_fault.new.self _ old.readings _ result same (ap (λ (k : ClockInMemory). k.readings) view) (c.add_fault.ensures.count ∙ ap with_fault c.begin.ensures.count) (given_none old.calls _ (sym c.take_reading-reading.ensures.reading ∙ c.in-None.is)) refl
