use Rattle.std.proofs.Common.{◌≡◌, ◌+◌, ◌≤◌, ℕ, List, length, sym, ap, max, arith}
use Rattle.std.proofs.lemmas.Grind.{common_steps}
use Rattle.gate_log.specs.declared.shape.Shape.{Shape}
use Rattle.gate_log.specs.Log.{LogTerm, capacity_in}
use Rattle.gate_log.specs.Text.{body_in, need_of}
use Rattle.gate_log.proofs.Appends.{capacity_there, texts_there, at_each_moment, grown_is, grown_of}
use Rattle.gate_log.proofs.Cells.{text_long, either_gives, either_live}
use Rattle.gate_log.proofs.InPlace.{need_in}
use Rattle.gate_log.proofs.Steps.{if_some}
use Rattle.gate_log.proofs.log.Log.append_in_place.Goals as goal

-- what is asked of the pieces, of the body in them
has_room : (head tail : List ℕ) → 4 ≤ length head → (log : LogTerm) → length head + length tail + 1 ≤ capacity_in log → need_of (body_in head tail) ≤ capacity_in log
has_room head tail whole log capacity = omega (arith, need_in head tail whole, capacity)

is_small : (head tail : List ℕ) → 4 ≤ length head → (shape : Shape) → length head + length tail ≤ shape.largest + 4 → length (body_in head tail) ≤ shape.largest
is_small head tail whole shape size = omega (arith, need_in head tail whole, size)

pub append_cell_in_place-requires-clause-capacity : goal.append_cell_in_place-requires-clause-capacity
append_cell_in_place-requires-clause-capacity g c =
    let log = c.args.self.now in
    let same : log.closed ≡ c.self.inside.closed = ap (λ (t : LogTerm). t.closed) (sym c.self.view_is) in
    let of = c.requires.of.1 in
    if_some (g.D.Disk.shown c.args.disk.now) (λ held is. rw (← same) (text_long log.shape log.second log.closed c.requires.of.0 held (of.each held (g.met.D.Disk.honest c.args.disk.now held is))))

pub returns-in_err-append_cell_in_place-clause-any_moment : goal.returns-in_err-append_cell_in_place-clause-any_moment
returns-in_err-append_cell_in_place-clause-any_moment g c = λ bodies of.
    let log = c.args.self.now in
    let head = c.args.head.now in
    let tail = c.args.tail.now in
    at_each_moment g.D.Disk c.args.disk.now c.append_cell_in_place.new.disk log c.self.inside.closed (body_in head tail) bodies _ (ap (λ (t : LogTerm). t.closed) (sym c.self.view_is)) (has_room head tail c.requires.whole log c.requires.capacity) of
    (c.append_cell_in_place.ensures.any_moment log.shape log.second bodies (is_small head tail c.requires.whole log.shape c.requires.size)) (either_gives log.shape log.second c.self.inside.closed bodies (body_in head tail))

pub returns-in_err-append_cell_in_place-clause-same_bank : goal.returns-in_err-append_cell_in_place-clause-same_bank
returns-in_err-append_cell_in_place-clause-same_bank g c = λ bodies of.
    let log = c.args.self.now in
    let head = c.args.head.now in
    let tail = c.args.tail.now in
    at_each_moment g.D.Disk c.args.disk.now c.append_cell_in_place.new.disk log c.self.inside.closed (body_in head tail) bodies _ (ap (λ (t : LogTerm). t.closed) (sym c.self.view_is)) (has_room head tail c.requires.whole log c.requires.capacity) of
    (c.append_cell_in_place.ensures.any_moment log.shape log.second bodies (is_small head tail c.requires.whole log.shape c.requires.size)) (either_live log.shape log.second c.self.inside.closed bodies (body_in head tail))

pub returns-clause-any_moment : goal.returns-clause-any_moment
returns-clause-any_moment g c = λ bodies of.
    let log = c.args.self.now in
    let head = c.args.head.now in
    let tail = c.args.tail.now in
    at_each_moment g.D.Disk c.args.disk.now c.append_cell_in_place.new.disk log c.self.inside.closed (body_in head tail) bodies _ (ap (λ (t : LogTerm). t.closed) (sym c.self.view_is)) (has_room head tail c.requires.whole log c.requires.capacity) of
    (c.append_cell_in_place.ensures.any_moment log.shape log.second bodies (is_small head tail c.requires.whole log.shape c.requires.size)) (either_gives log.shape log.second c.self.inside.closed bodies (body_in head tail))

pub returns-clause-same_bank : goal.returns-clause-same_bank
returns-clause-same_bank g c = λ bodies of.
    let log = c.args.self.now in
    let head = c.args.head.now in
    let tail = c.args.tail.now in
    at_each_moment g.D.Disk c.args.disk.now c.append_cell_in_place.new.disk log c.self.inside.closed (body_in head tail) bodies _ (ap (λ (t : LogTerm). t.closed) (sym c.self.view_is)) (has_room head tail c.requires.whole log c.requires.capacity) of
    (c.append_cell_in_place.ensures.any_moment log.shape log.second bodies (is_small head tail c.requires.whole log.shape c.requires.size)) (either_live log.shape log.second c.self.inside.closed bodies (body_in head tail))

pub returns-clause-answer : goal.returns-clause-answer
returns-clause-answer g c =
    let head = c.args.head.now in
    let tail = c.args.tail.now in
    let longest : c.max-self-inside.result ≡ max c.self.inside.long (c.self.inside.closed + 1 + (length head + length tail + 1)) = grind (arith, common_steps, c.max-self-inside.ensures) in
    grown_is _ c.args.self.now (length head + length tail + 1) c.max-self-inside.result (body_in head tail) c.self.view_is (need_in head tail c.requires.whole) longest

pub returns-clause-ok : goal.returns-clause-ok
returns-clause-ok g c = λ bodies of.
    let log = c.args.self.now in
    let head = c.args.head.now in
    let tail = c.args.tail.now in
    let closed = c.self.inside.closed in
    let same : log.closed ≡ closed = ap (λ (t : LogTerm). t.closed) (sym c.self.view_is) in
    let longest : c.max-self-inside.result ≡ max c.self.inside.long (closed + 1 + (length head + length tail + 1)) = grind (arith, common_steps, c.max-self-inside.ensures) in
    grown_of (g.D.Disk.shown c.append_cell_in_place.new.disk) (g.D.Disk.images c.append_cell_in_place.new.disk) log _ closed (body_in head tail) bodies
    (grown_is _ log (length head + length tail + 1) c.max-self-inside.result (body_in head tail) c.self.view_is (need_in head tail c.requires.whole) longest) same
    (c.in_ok-append_cell_in_place.ensures.ok log.shape log.second bodies (is_small head tail c.requires.whole log.shape c.requires.size) (capacity_there log closed (body_in head tail) same (has_room head tail c.requires.whole log c.requires.capacity))
    (texts_there g.D.Disk c.args.disk.now log closed bodies same of))
    (c.in_ok-append_cell_in_place.ensures.long log.long of.long)
