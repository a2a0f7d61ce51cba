use Rattle.std.proofs.Common.{◌+◌, ◌≤◌, [], ◌∷◌, length}
use Rattle.dsc_outside.specs.Disk.{written}
use Rattle.gate_log.specs.Steps.{TextBeforeOrAfter}
use Rattle.dsc_outside.proofs.Moments.{weaker, then_on}
use Rattle.gate_log.proofs.Steps.{first_moment, second_moment, appended, both_ok, lengths}
use Rattle.gate_log.proofs.Written.{read_both, written_front}
use Rattle.gate_log.proofs.appending.write_cell.Goals as goal

pub returns-in_err-write_through-clause-any_moment : goal.returns-in_err-write_through-clause-any_moment
returns-in_err-write_through-clause-any_moment g c = λ shape second bodies body texts le capacity is_cell.
    weaker g.D.Disk.moment g.D.Disk.left_since c.args.disk.now c.write_through.new.disk _ (TextBeforeOrAfter shape second c.args.closed bodies body) c.write_through.ensures.any_moment
    (first_moment shape second c.args.closed bodies body c.args.cell.now is_cell le capacity (g.D.Disk.images c.args.disk.now) texts)

pub returns-clause-any_moment : goal.returns-clause-any_moment
returns-clause-any_moment g c = λ shape second bodies body texts le capacity is_cell.
    let disk = c.args.disk.now in
    let mid = c.write_through.new.disk in
    let P = TextBeforeOrAfter shape second c.args.closed bodies body in
    let first = weaker g.D.Disk.moment g.D.Disk.left_since disk mid _ P c.write_through.ensures.any_moment
    (first_moment shape second c.args.closed bodies body c.args.cell.now is_cell le capacity (g.D.Disk.images disk) texts) in
    then_on g.D.Disk.moment g.D.Disk.left_since disk mid c.write_through-2.new.disk P _ first c.write_through-2.ensures.any_moment
    (second_moment shape second c.args.closed bodies body c.args.cell.now is_cell le capacity (g.D.Disk.images disk) texts (g.D.Disk.shown disk) (g.D.Disk.shown mid) (g.met.D.Disk.honest disk) (g.D.Disk.images mid)
    c.in_ok-write_through.ensures.written c.in_ok-write_through.ensures.only)

pub returns-clause-ok : goal.returns-clause-ok
returns-clause-ok g c = λ shape second bodies body texts le capacity is_cell.
    let disk = c.args.disk.now in
    let mid = c.write_through.new.disk in
    let new = c.write_through-2.new.disk in
    both_ok c.write_through-2.result c.write_through-2.ensures.written c.write_through-2.ensures.only (λ is only.
    appended shape second c.args.closed bodies body c.args.cell.now is_cell le capacity (g.D.Disk.images disk) texts (g.D.Disk.shown disk) (g.D.Disk.shown mid) (g.met.D.Disk.honest disk) (g.D.Disk.images mid)
    c.in_ok-write_through.ensures.written c.in_ok-write_through.ensures.only (g.D.Disk.shown new) (g.D.Disk.images new) (g.met.D.Disk.honest mid) is only)

pub returns-clause-long : goal.returns-clause-long
returns-clause-long g c = λ n long.
    let disk = c.args.disk.now in
    let mid = c.write_through.new.disk in
    let new = c.write_through-2.new.disk in
    both_ok c.write_through-2.result c.write_through-2.ensures.written c.write_through-2.ensures.only (λ is only.
    lengths c.args.closed 165 c.args.cell.now (g.D.Disk.shown disk) (g.D.Disk.shown mid) (g.D.Disk.shown new) n c.in_ok-write_through.ensures.written is c.requires.capacity long)

pub returns-clause-bytes : goal.returns-clause-bytes
returns-clause-bytes g c =
    let closed = c.args.closed in
    let cell = c.args.cell.now in
    both_ok c.write_through-2.result c.write_through-2.ensures.written c.write_through-2.ensures.only (λ is only. record {
      reads = read_both (written (closed + 1) cell) (written closed (165 ∷ [])) (written closed (165 ∷ cell)) (λ held. closed + 1 ≤ length held) (g.D.Disk.shown c.args.disk.now) (g.D.Disk.shown c.write_through.new.disk)
          (g.D.Disk.shown c.write_through-2.new.disk) (λ held le. written_front closed (165 ∷ []) cell held le) c.requires.capacity c.in_ok-write_through.ensures.written is;
      only = only;
    })
