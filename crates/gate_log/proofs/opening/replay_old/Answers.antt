use Rattle.std.proofs.lemmas.Result.{err_from_is_err_and}
use Rattle.std.proofs.Common.{◌≡◌, ◌+◌, ◌<◌, ◌^◌, ◌∙◌, ℕ, Bool, List, take, ap, IfSome, Option}
use Rattle.std.specs.Prelude.{option_map}
use Rattle.dsc_outside.specs.declared.disk.Disk.{Ghosts}
use Rattle.dsc_outside.specs.Disk.{Cut, From, Only, Still}
use Rattle.gate_log.specs.declared.shape.Shape.{Shape}
use Rattle.gate_log.specs.Text.{IsLive}
use Rattle.gate_log.specs.Opening.{HandedOn}
use Rattle.dsc_outside.proofs.Moments.{still_then, weaker, then_on}
use Rattle.gate_log.specs.Log.{AtAnyMoment, Keeps}
use Rattle.gate_log.proofs.Unique.{cut_keeps, text_read, cut_text}
use Rattle.gate_log.proofs.Cells.{text_gives}
use Rattle.gate_log.proofs.Steps.{if_some}
use Rattle.gate_log.proofs.Failing.{unread_head, unread_bank, rose_sooner}
use Rattle.dsc_terms.specs.Counts.{Rose}
use Rattle.gate_log.proofs.opening.replay_old.Goals as goal

-- every moment up to the end of the cut, after reads that left the disk as it was
after_cut : {D : Type 0} (d : Ghosts D) (old head read new : D) (shape : Shape) (second : Bool) (closed : ℕ) (Took : List (List ℕ) → Type 0) (handed : HandedOn shape second (d.shown head) Took closed) → shape.largest < 2 ^ 32 → Only (d.shown old) (d.images old)
    → Still d.shown d.images d.moment d.left_since old read → d.shown head ≡ d.shown old → IfSome (d.shown old) (IsLive second) → AtAnyMoment d read new (From (Cut (closed + 1)) (d.images read)) → AtAnyMoment d old new (From (Keeps shape) (d.images old))
after_cut d old head read new shape second closed Took handed small only still same live cut =
    let so_far = weaker d.moment d.left_since old read _ (From (Keeps shape) (d.images old)) still.any_moment (λ f here. (f, here, λ bodies gives. gives)) in
    then_on d.moment d.left_since old read new (From (Keeps shape) (d.images old)) _ so_far cut (λ f from.
    let there = still.within from.0 from.1 in
    let t = text_read shape second closed handed.found (d.shown old) (d.shown head) from.0 live same handed.bank (only from.0 there) in
    (from.0, there, cut_keeps shape second closed from.0 f handed.found small t from.2))

pub returns-in_err-cut_through-clause-any_moment : goal.returns-in_err-cut_through-clause-any_moment
returns-in_err-cut_through-clause-any_moment g c =
    let disk = c.args.disk.now in
    let still = still_then g.D.Disk.shown g.D.Disk.images g.D.Disk.moment g.D.Disk.left_since disk c.read_head.new.disk c.read_cells.new.disk c.read_head.ensures.still c.read_cells.ensures.still in
    after_cut g.D.Disk disk c.read_head.new.disk c.read_cells.new.disk c.cut_through.new.disk c.args.shape c.in_ok-second.second c.in_ok-closed.closed _ c.in_ok-closed.ensures.cells c.requires.small c.requires.only still
    c.read_head.ensures.still.same c.in_ok-second.ensures.head c.cut_through.ensures.any_moment

pub returns-clause-any_moment : goal.returns-clause-any_moment
returns-clause-any_moment g c =
    let disk = c.args.disk.now in
    let still = still_then g.D.Disk.shown g.D.Disk.images g.D.Disk.moment g.D.Disk.left_since disk c.read_head.new.disk c.read_cells.new.disk c.read_head.ensures.still c.read_cells.ensures.still in
    after_cut g.D.Disk disk c.read_head.new.disk c.read_cells.new.disk c.cut_through.new.disk c.args.shape c.in_ok-second.second c.in_ok-closed.closed _ c.in_ok-closed.ensures.cells c.requires.small c.requires.only still
    c.read_head.ensures.still.same c.in_ok-second.ensures.head c.cut_through.ensures.any_moment

pub returns-clause-ok : goal.returns-clause-ok
returns-clause-ok g c =
    let disk = c.args.disk.now in
    let still = still_then g.D.Disk.shown g.D.Disk.images g.D.Disk.moment g.D.Disk.left_since disk c.read_head.new.disk c.read_cells.new.disk c.read_head.ensures.still c.read_cells.ensures.still in
    let handed = c.in_ok-closed.ensures.cells in
    let read = text_read c.args.shape c.in_ok-second.second c.in_ok-closed.closed handed.found (g.D.Disk.shown disk) (g.D.Disk.shown c.read_head.new.disk) in
    record {
      found = handed.found;
      took = handed.took;
      each = λ f here.
          let from = c.cut_through.ensures.crash f here in
          let t = read from.0 c.in_ok-second.ensures.head c.read_head.ensures.still.same handed.bank (c.requires.only from.0 (still.within from.0 from.1)) in
          cut_text c.args.shape c.in_ok-second.second c.in_ok-closed.closed from.0 f handed.found t from.2;
      gave = if_some (g.D.Disk.shown disk) (λ held is.
          text_gives c.args.shape c.in_ok-second.second c.in_ok-closed.closed held handed.found (read held c.in_ok-second.ensures.head c.read_head.ensures.still.same handed.bank is));
    }

pub returns-in_err-second-clause-cause : goal.returns-in_err-second-clause-cause
returns-in_err-second-clause-cause g c =
    let p = err_from_is_err_and c.from_residual.result c.from_residual.ensures.1 in
    let rose = Rose (g.D.Disk.faults c.args.disk.now) (g.D.Disk.faults c.read_head.new.disk) in
    let cause = unread_head rose rose (g.D.Disk.shown c.args.disk.now) c.args.shape (g.R.Replay.took c.args.replay.now) (g.R.Replay.refused c.args.replay.now) c.in_err-second.field-0.0 c.requires.first (λ r. r) c.in_err-second.ensures.cause in
    rw (p.1, p.2) cause

pub returns-in_err-closed-clause-cause : goal.returns-in_err-closed-clause-cause
returns-in_err-closed-clause-cause g c =
    let p = err_from_is_err_and c.from_residual-in_err-closed.result c.from_residual-in_err-closed.ensures.1 in
    let mid = c.read_head.new.disk in
    let cause = unread_bank _ (Rose (g.D.Disk.faults c.args.disk.now) (g.D.Disk.faults c.read_cells.new.disk)) (g.D.Disk.shown c.args.disk.now) (g.D.Disk.shown mid) c.args.shape c.in_ok-second.second
    (g.R.Replay.took c.read_cells.new.replay) (g.R.Replay.refused c.read_cells.new.replay) c.in_err-closed.field-0.0
    c.read_head.ensures.still.same c.in_ok-second.ensures.head (rose_sooner _ _ _ c.read_head.ensures.count) c.in_err-closed.ensures.cause in
    rw (p.1, p.2) cause

pub returns-clause-bytes : goal.returns-clause-bytes
returns-clause-bytes g c =
    let disk = c.args.disk.now in
    let still = still_then g.D.Disk.shown g.D.Disk.images g.D.Disk.moment g.D.Disk.left_since disk c.read_head.new.disk c.read_cells.new.disk c.read_head.ensures.still c.read_cells.ensures.still in
    record {
      reads = c.in_ok-cut_through.ensures.cut ∙ ap (λ (o : Option (List ℕ)). option_map (take (c.in_ok-closed.closed + 1)) o) still.same;
      only = c.in_ok-cut_through.ensures.only;
    }
