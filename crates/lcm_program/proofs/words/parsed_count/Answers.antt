use Rattle.std.proofs.Common.{length, get_or, ap, sym, arith}
use Rattle.lcm_program.proofs.Counts.{above_is_none, count_begins, fault_is_none, read_is}
use Rattle.lcm_program.proofs.words.parsed_count.Goals as goal

pub returns-in_default-clause-none : goal.returns-in_default-clause-none
returns-in_default-clause-none c = λ count counted.
    omega (arith, ap length c.as_bytes.ensures.value, c.in_default.len_below, count_begins c.args.word.now count counted)

pub returns-in_default-2-clause-none : goal.returns-in_default-2-clause-none
returns-in_default-2-clause-none c = λ count counted.
    let begins = rw (sym c.as_bytes.ensures.value) at (count_begins c.args.word.now count counted) in omega (arith, begins)

pub returns-in_default-3-clause-none : goal.returns-in_default-3-clause-none
returns-in_default-3-clause-none c = λ count counted.
    let begins = rw (sym c.as_bytes.ensures.value) at (count_begins c.args.word.now count counted) in omega (arith, begins)

pub returns-in-Ok-clause-some : goal.returns-in-Ok-clause-some
returns-in-Ok-clause-some c =
    read_is c.args.word.now c.parse.result c.parse.ensures.value.0 c.in-Ok.count c.in-Ok.is (omega (arith, ap (λ w. get_or w 0 0) c.as_bytes.ensures.value)) c.if-count-le-MAX_RESOURCES.true

pub returns-in_default-parse-clause-none : goal.returns-in_default-parse-clause-none
returns-in_default-parse-clause-none c =
    above_is_none c.args.word.now c.parse.result c.parse.ensures.value.0 c.in-Ok.count c.in-Ok.is c.if-count-le-MAX_RESOURCES.false

pub returns-in_default-parse-2-clause-none : goal.returns-in_default-parse-2-clause-none
returns-in_default-parse-2-clause-none c =
    fault_is_none c.args.word.now c.parse.result c.parse.ensures.value.0 c.in_default-parse.field-0 c.in_default-parse.is
