use Rattle.std.proofs.Common.{◌≡◌, ◌+◌, ◌≤◌, ◌∙◌, [], ℕ, List, length, take, ap, subst, arith, rules, false, Option}
use Rattle.std.specs.Prelude.{IfSome, option_map}
use Rattle.gate_log.specs.Bytes.{new_store}
use Rattle.dsc_outside.specs.declared.disk.Disk.{Ghosts}
use Rattle.dsc_outside.specs.Disk.{Each, From, Only, Still}
use Rattle.gate_log.specs.declared.shape.Shape.{Shape}
use Rattle.dsc_outside.proofs.Moments.{still_then, weaker, then_on}
use Rattle.gate_log.specs.Text.{Gives, fresh}
use Rattle.gate_log.specs.Log.{AtAnyMoment, Keeps}
use Rattle.gate_log.proofs.Steps.{if_some}
use Rattle.gate_log.proofs.Opened.{told_length, fresh_keeps, new_text, made_bytes, cut_bytes, opened, unopened}
use Rattle.gate_log.proofs.Failing.{rose_sooner}
use Rattle.dsc_terms.specs.Counts.{Rose}
use Rattle.std.proofs.lemmas.Result.{err_from_is_err_and}
use Rattle.gate_log.proofs.opening.replay_log.Goals as goal

short_one : (n : ℕ) (f : List ℕ) → n ≤ 9 → n ≡ length f → length f ≤ 9
short_one n f le is = omega arith

-- every moment up to the end of a new file, after calls that left the disk as it was
after_new : {D : Type 0} (d : Ghosts D) (old settled read new : D) (shape : Shape) (end : ℕ) → end ≤ 9 → IfSome (d.shown settled) (λ held. end ≡ length held) → Only (d.shown settled) (d.images read) → Still d.shown d.images d.moment d.left_since old read
    → (Each (d.images read) (λ f. length f ≤ 9) → AtAnyMoment d read new (From (λ e f. length f ≤ 9) (d.images read))) → AtAnyMoment d old new (From (Keeps shape) (d.images old))
after_new d old settled read new shape end le is_end only still made =
    let so_far = weaker d.moment d.left_since old read _ (From (Keeps shape) (d.images old)) still.any_moment (λ f here. (f, here, λ bodies gives. gives)) in
    let short = λ (f : List ℕ) (here : d.images read f). short_one end f le (told_length (d.shown settled) end f (only f here) is_end) in
    then_on d.moment d.left_since old read new (From (Keeps shape) (d.images old)) _ so_far (made short) (λ f from. (from.0, still.within from.0 from.1, fresh_keeps shape from.0 f (short from.0 from.1) from.2))

pub returns-in_err-make_new-clause-any_moment : goal.returns-in_err-make_new-clause-any_moment
returns-in_err-make_new-clause-any_moment g c =
    let disk = c.args.disk.now in
    let still = still_then g.D.Disk.shown g.D.Disk.images g.D.Disk.moment g.D.Disk.left_since disk c.settle.new.disk c.length_of.new.disk c.settle.ensures.still c.length_of.ensures.still in
    after_new g.D.Disk disk c.settle.new.disk c.length_of.new.disk c.make_new.new.disk c.args.shape c.in_ok-end.end c.if-end-le9.true c.in_ok-end.ensures.length
    (λ f here. c.in_ok-settle.ensures.only f (c.length_of.ensures.still.within f here)) still c.make_new.ensures.any_moment

pub returns-then-end-le9-clause-any_moment : goal.returns-then-end-le9-clause-any_moment
returns-then-end-le9-clause-any_moment g c =
    let disk = c.args.disk.now in
    let still = still_then g.D.Disk.shown g.D.Disk.images g.D.Disk.moment g.D.Disk.left_since disk c.settle.new.disk c.length_of.new.disk c.settle.ensures.still c.length_of.ensures.still in
    after_new g.D.Disk disk c.settle.new.disk c.length_of.new.disk c.make_new.new.disk c.args.shape c.in_ok-end.end c.if-end-le9.true c.in_ok-end.ensures.length
    (λ f here. c.in_ok-settle.ensures.only f (c.length_of.ensures.still.within f here)) still c.make_new.ensures.any_moment

pub returns-then-end-le9-clause-ok : goal.returns-then-end-le9-clause-ok
returns-then-end-le9-clause-ok g c =
    let gave = if_some (g.D.Disk.shown c.args.disk.now) (λ held is.
    fresh (short_one c.in_ok-end.end held c.if-end-le9.true (told_length (g.D.Disk.shown c.settle.new.disk) c.in_ok-end.end held (c.settle.ensures.still.same ∙ is) c.in_ok-end.ensures.length))) in
    let same = c.length_of.ensures.still.same ∙ c.settle.ensures.still.same in
    let long = subst (λ (o : Option (List ℕ)). IfSome o (λ held. c.in_ok-end.end ≡ length held)) c.settle.ensures.still.same c.in_ok-end.ensures.length in
    let left = c.in_ok-make_new.ensures.bytes in
    let bytes = made_bytes c.in_ok-end.end (g.D.Disk.shown c.args.disk.now) (g.D.Disk.shown c.make_new.new.disk) c.if-end-le9.true long (left.reads ∙ ap (λ (o : Option (List ℕ)). option_map (λ (held : List ℕ). new_store) o) same) in
    opened g.D.Disk c.args.disk.now c.make_new.new.disk c.args.shape (g.R.Replay.took c.args.replay.now) false 8 [] c.of.result c.of.ensures c.requires.first
    (λ f here. new_text c.args.shape f c.requires.some (c.in_ok-make_new.ensures.ok f here)) c.in_ok-make_new.ensures.shown gave bytes left.only

pub returns-clause-ok : goal.returns-clause-ok
returns-clause-ok g c =
    let r = c.in_ok-second.ensures.ok in
    let same = c.length_of.ensures.still.same ∙ c.settle.ensures.still.same in
    let gave = subst (λ (o : Option (List ℕ)). IfSome o (λ held. Gives c.args.shape held r.found)) same r.gave in
    let long = subst (λ (o : Option (List ℕ)). IfSome o (λ held. c.in_ok-end.end ≡ length held)) c.settle.ensures.still.same c.in_ok-end.ensures.length in
    let left = c.in_ok-second.ensures.bytes in
    let closed = c.in_ok-second.closed in
    let bytes = cut_bytes c.in_ok-end.end closed (g.D.Disk.shown c.args.disk.now) (g.D.Disk.shown c.replay_old.new.disk) (omega (arith, c.if-end-le9.false)) long (left.reads ∙ ap (λ (o : Option (List ℕ)). option_map (take (closed + 1)) o) same) in
    opened g.D.Disk c.args.disk.now c.replay_old.new.disk c.args.shape (g.R.Replay.took c.replay_old.new.replay) c.in_ok-second.second c.in_ok-second.closed r.found c.of-2.result c.of-2.ensures r.took
    r.each c.in_ok-second.ensures.shown gave bytes left.only

pub returns-in_err-second-clause-refused : goal.returns-in_err-second-clause-refused
returns-in_err-second-clause-refused g c =
    let p = err_from_is_err_and c.from_residual-in_err-second.result c.from_residual-in_err-second.ensures.1 in
    let disk = c.args.disk.now in
    let mid = c.length_of.new.disk in
    let still = still_then g.D.Disk.shown g.D.Disk.images g.D.Disk.moment g.D.Disk.left_since disk c.settle.new.disk mid c.settle.ensures.still c.length_of.ensures.still in
    let rose = Rose (g.D.Disk.faults mid) (g.D.Disk.faults c.replay_old.new.disk) in
    let later : rose → Rose (g.D.Disk.faults disk) (g.D.Disk.faults c.replay_old.new.disk) = λ r. rose_sooner _ (g.D.Disk.faults mid) _ (search rules) r in
    let cause = unopened g.D.Disk rose disk mid c.replay_old.new.disk c.args.shape (g.R.Replay.took c.replay_old.new.replay) (g.R.Replay.refused c.replay_old.new.replay) c.in_ok-end.end c.in_err-second.field-0.0 still
    (omega (arith, c.if-end-le9.false)) (rw c.length_of.ensures.still.same c.in_ok-end.ensures.length) later c.in_err-second.ensures.cause c.in_err-second.ensures.still in
    rw (p.1, p.2) cause
