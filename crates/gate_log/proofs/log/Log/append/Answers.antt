use Rattle.std.proofs.Common.{◌≡◌, ◌+◌, length, sym, ap, max, arith}
use Rattle.std.proofs.lemmas.Grind.{common_steps}
use Rattle.gate_log.specs.Log.{LogTerm}
use Rattle.gate_log.proofs.Cells.{text_long, either_gives, either_live}
use Rattle.gate_log.proofs.Steps.{if_some}
use Rattle.gate_log.proofs.Appends.{capacity_there, texts_there, at_each_moment, grown_is, grown_of}
use Rattle.gate_log.proofs.log.Log.append.Goals as goal

pub append_cell-requires-clause-capacity : goal.append_cell-requires-clause-capacity
append_cell-requires-clause-capacity g c =
    let log = c.args.self.now in
    let same : log.closed ≡ c.self.inside.closed = ap (λ (t : LogTerm). t.closed) (sym c.self.view_is) in
    let of = c.requires.of.1 in
    if_some (g.D.Disk.shown c.args.disk.now) (λ held is. rw (← same) (text_long log.shape log.second log.closed c.requires.of.0 held (of.each held (g.met.D.Disk.honest c.args.disk.now held is))))

pub returns-in_err-append_cell-clause-any_moment : goal.returns-in_err-append_cell-clause-any_moment
returns-in_err-append_cell-clause-any_moment g c = λ bodies of.
    let log = c.args.self.now in
    at_each_moment g.D.Disk c.args.disk.now c.append_cell.new.disk log c.self.inside.closed c.args.body.now bodies _ (ap (λ (t : LogTerm). t.closed) (sym c.self.view_is)) c.requires.capacity of
    (c.append_cell.ensures.any_moment log.shape log.second bodies c.requires.size) (either_gives log.shape log.second c.self.inside.closed bodies c.args.body.now)

pub returns-in_err-append_cell-clause-same_bank : goal.returns-in_err-append_cell-clause-same_bank
returns-in_err-append_cell-clause-same_bank g c = λ bodies of.
    let log = c.args.self.now in
    at_each_moment g.D.Disk c.args.disk.now c.append_cell.new.disk log c.self.inside.closed c.args.body.now bodies _ (ap (λ (t : LogTerm). t.closed) (sym c.self.view_is)) c.requires.capacity of
    (c.append_cell.ensures.any_moment log.shape log.second bodies c.requires.size) (either_live log.shape log.second c.self.inside.closed bodies c.args.body.now)

pub returns-clause-any_moment : goal.returns-clause-any_moment
returns-clause-any_moment g c = λ bodies of.
    let log = c.args.self.now in
    at_each_moment g.D.Disk c.args.disk.now c.append_cell.new.disk log c.self.inside.closed c.args.body.now bodies _ (ap (λ (t : LogTerm). t.closed) (sym c.self.view_is)) c.requires.capacity of
    (c.append_cell.ensures.any_moment log.shape log.second bodies c.requires.size) (either_gives log.shape log.second c.self.inside.closed bodies c.args.body.now)

pub returns-clause-same_bank : goal.returns-clause-same_bank
returns-clause-same_bank g c = λ bodies of.
    let log = c.args.self.now in
    at_each_moment g.D.Disk c.args.disk.now c.append_cell.new.disk log c.self.inside.closed c.args.body.now bodies _ (ap (λ (t : LogTerm). t.closed) (sym c.self.view_is)) c.requires.capacity of
    (c.append_cell.ensures.any_moment log.shape log.second bodies c.requires.size) (either_live log.shape log.second c.self.inside.closed bodies c.args.body.now)

pub returns-clause-ok : goal.returns-clause-ok
returns-clause-ok g c = λ bodies of.
    let log = c.args.self.now in
    let body = c.args.body.now in
    let closed = c.self.inside.closed in
    let same : log.closed ≡ closed = ap (λ (t : LogTerm). t.closed) (sym c.self.view_is) in
    let longest : c.max-self-inside.result ≡ max c.self.inside.long (closed + 1 + (length body + 5)) = grind (arith, common_steps, c.max-self-inside.ensures) in
    grown_of (g.D.Disk.shown c.append_cell.new.disk) (g.D.Disk.images c.append_cell.new.disk) log _ closed body bodies (grown_is _ log (length body + 5) c.max-self-inside.result body c.self.view_is (omega arith) longest) same
    (c.in_ok-append_cell.ensures.ok log.shape log.second bodies c.requires.size (capacity_there log closed body same c.requires.capacity) (texts_there g.D.Disk c.args.disk.now log closed bodies same of))
    (c.in_ok-append_cell.ensures.long log.long of.long)
