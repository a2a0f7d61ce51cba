use Rattle.std.proofs.Common.{length, get_or, ap, sym, arith}
use Rattle.rehearsal.proofs.CallWords.{call_begins, call_is, fault_is_none}
use Rattle.rehearsal.proofs.start_line.read_call.Goals as goal

pub returns-in_default-clause-none : goal.returns-in_default-clause-none
returns-in_default-clause-none c = λ call spelled.
    omega (arith, ap length c.as_bytes.ensures.value, c.in_default.len_below, call_begins c.args.word.now call spelled)

pub returns-in_default-2-clause-none : goal.returns-in_default-2-clause-none
returns-in_default-2-clause-none c = λ call spelled.
    let begins = rw (sym c.as_bytes.ensures.value) at (call_begins c.args.word.now call spelled) in omega (arith, begins)

pub returns-in_default-3-clause-none : goal.returns-in_default-3-clause-none
returns-in_default-3-clause-none c = λ call spelled.
    let begins = rw (sym c.as_bytes.ensures.value) at (call_begins c.args.word.now call spelled) in omega (arith, begins)

pub returns-in-Ok-clause-some : goal.returns-in-Ok-clause-some
returns-in-Ok-clause-some c =
    call_is c.args.word.now c.parse.result c.parse.ensures.value.0 c.in-Ok.call c.in-Ok.is (omega (arith, ap (λ w. get_or w 0 0) c.as_bytes.ensures.value))

pub returns-in-Err-clause-none : goal.returns-in-Err-clause-none
returns-in-Err-clause-none c = fault_is_none c.args.word.now c.parse.result c.parse.ensures.value.0 c.in-Err.field-0 c.in-Err.is
