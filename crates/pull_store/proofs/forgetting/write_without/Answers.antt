use Rattle.std.proofs.Common.{◌≡◌, ◌∙◌, ℕ, ◌+◌, ◌<◌, List, ap, refl, sym, subst, arith}
use Rattle.std.specs.List.{AllByRecursion}
use Rattle.gate_log.specs.Text.{AllFit}
use Rattle.pull_store.specs.declared.row.Row.{Row}
use Rattle.pull_store.specs.Bodies.{bodies_of_rows}
use Rattle.pull_store.specs.Rows.{rows_without}
use Rattle.pull_store.specs.Sound.{IsRow}
use Rattle.pull_store.specs.Store.{StoreTerm, whole_need, bank_capacity}
use Rattle.pull_store.specs.declared.limits.TheConstants.{MAX_BODY}
use Rattle.pull_store.proofs.Committed.{still_moment}
use Rattle.pull_store.proofs.Leaving.{each_left, is_hidden, left_alone, left_anew}
use Rattle.pull_store.proofs.Sizes.{rows_fit}
use Rattle.pull_store.proofs.forgetting.write_without.Goals as goal

pub returns-then-need-gt-BANK-clause-answer : goal.returns-then-need-gt-BANK-clause-answer
returns-then-need-gt-BANK-clause-answer g c =
    let store : StoreTerm = record { log = c.args.log.now; rows = c.args.rows.now } in
    let needs : c.need_of_rows-need.result + 1 ≡ whole_need (rows_without c.args.agents.now c.args.rows.now) = omega (arith, c.need_of_rows-need.ensures.need) in
    let more : bank_capacity < whole_need (rows_without c.args.agents.now c.args.rows.now) = omega (arith, c.if-need-gt-BANK.true, c.need_of_rows-need.ensures.need) in (
      record {
        needs = needs;
        bank = refl;
        rows = omega (arith, c.if-need-gt-BANK.true);
        hidden = is_hidden g.D.Disk c.args.disk.now store c.args.agents.now (g.met.D.Disk.honest c.args.disk.now) c.requires.kept more;
      },
      refl,
      refl,
    )

pub returns-then-need-gt-BANK-clause-any_moment : goal.returns-then-need-gt-BANK-clause-any_moment
returns-then-need-gt-BANK-clause-any_moment g c =
    still_moment g.D.Disk c.args.disk.now (record { log = c.args.log.now; rows = c.args.rows.now }) (rows_without c.args.agents.now c.args.rows.now) (g.met.D.Disk.only_now c.args.disk.now) c.requires.kept

pub of-whole-requires : goal.of-whole-requires
of-whole-requires g c = record {
  each = subst (λ (rows : List Row). AllByRecursion IsRow rows) (sym (left_alone c.args.agents.now c.args.rows.now)) (each_left c.args.agents.now c.args.rows.now c.requires.sound.each);
}

pub rewrite-requires-clause-size : goal.rewrite-requires-clause-size
rewrite-requires-clause-size g c =
    let spelled = c.of-whole.ensures.rest ∙ ap bodies_of_rows (left_alone c.args.agents.now c.args.rows.now) in
    subst (λ (bodies : List (List ℕ)). AllFit MAX_BODY bodies) (sym spelled) (rows_fit (rows_without c.args.agents.now c.args.rows.now) (each_left c.args.agents.now c.args.rows.now c.requires.sound.each))

pub returns-in_err-rewrite-clause-any_moment : goal.returns-in_err-rewrite-clause-any_moment
returns-in_err-rewrite-clause-any_moment g c =
    let rows = c.args.rows.now in
    c.rewrite.ensures.any_moment rows (rows_without c.args.agents.now rows) c.requires.kept (left_anew c.args.agents.now rows _ c.of-whole.ensures.rest c.requires.sound)

pub returns-clause-kept : goal.returns-clause-kept
returns-clause-kept g c =
    let rows = c.args.rows.now in
    c.in_ok-rewrite.ensures.kept rows (rows_without c.args.agents.now rows) c.requires.kept (left_anew c.args.agents.now rows _ c.of-whole.ensures.rest c.requires.sound)

pub returns-clause-any_moment : goal.returns-clause-any_moment
returns-clause-any_moment g c =
    let rows = c.args.rows.now in
    c.rewrite.ensures.any_moment rows (rows_without c.args.agents.now rows) c.requires.kept (left_anew c.args.agents.now rows _ c.of-whole.ensures.rest c.requires.sound)
