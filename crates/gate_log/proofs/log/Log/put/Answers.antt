use Rattle.std.proofs.Common.{◌≡◌, ◌+◌, ◌≤◌, ◌∙◌, ℕ, List, not, length, sym, ap, subst, max, arith, Option, Some, IfSome}
use Rattle.std.proofs.lemmas.Grind.{common_steps}
use Rattle.dsc_outside.proofs.Moments.{weaker}
use Rattle.dsc_outside.specs.declared.disk.Disk.{Ghosts}
use Rattle.dsc_outside.specs.Disk.{Each}
use Rattle.gate_log.specs.Log.{LogTerm, IsOf, IsLogOf, HasPut, HasPutOn, AtAnyMoment, capacity_to_put}
use Rattle.gate_log.specs.Text.{Gives, IsText, cells, begin, need_of}
use Rattle.gate_log.specs.Steps.{IsInOther}
use Rattle.gate_log.proofs.Cells.{text_gives, fit-push, length-cells-push}
use Rattle.gate_log.proofs.Rewrites.{in_other, put_at}
use Rattle.gate_log.proofs.log.Log.put.Goals as goal

-- what the calls need of the log, by the fields that it keeps
of_kept : (shown : Option (List ℕ)) (images : List ℕ → Type 0) (log kept : LogTerm) (bodies : List (List ℕ)) → kept ≡ log → IsOf shown images log bodies → IsOf shown images kept bodies
of_kept shown images log kept bodies same of = subst (λ (t : LogTerm). IsOf shown images t bodies) (sym same) of

other_kept : (shown : Option (List ℕ)) (log kept : LogTerm) (put : List (List ℕ)) (at : ℕ) (body : List ℕ) → kept ≡ log → kept.filled ≡ Some at → HasPut shown log put → need_of body ≤ capacity_to_put log → IsInOther kept.shape kept.second at (1 + need_of body)
other_kept shown log kept put at body same is has capacity =
    in_other shown kept put at body (subst (λ (t : LogTerm). HasPut shown t put) (sym same) has) is (subst (λ (t : LogTerm). need_of body ≤ capacity_to_put t) (sym same) capacity)

-- every moment of the call, by what the log keeps
at_each_moment_of_put : {D : Type 0} (d : Ghosts D) (old new : D) (log kept : LogTerm) (bodies put : List (List ℕ)) (at : ℕ) (body : List ℕ) → kept ≡ log → kept.filled ≡ Some at → IsLogOf d old log bodies → HasPutOn d old log put → need_of body ≤ capacity_to_put log
    → (IsInOther kept.shape kept.second at (1 + need_of body) → Each (d.images old) (λ f. IsText kept.shape kept.second kept.closed f bodies) → AtAnyMoment d old new (λ f. IsText kept.shape kept.second kept.closed f bodies))
    → AtAnyMoment d old new (λ f. Gives log.shape f bodies)
at_each_moment_of_put d old new log kept bodies put at body same is of has capacity moments =
    let of_it = of_kept (d.shown old) (d.images old) log kept bodies same of in
    weaker d.moment d.left_since old new _ (λ f. Gives log.shape f bodies) (moments (other_kept (d.shown old) log kept put at body same is has capacity) of_it.each)
    (λ f t. subst (λ (t : LogTerm). Gives t.shape f bodies) same (text_gives kept.shape kept.second kept.closed f bodies t))

pub returns-in_err-put_cell-clause-any_moment : goal.returns-in_err-put_cell-clause-any_moment
returns-in_err-put_cell-clause-any_moment g c = λ bodies of.
    at_each_moment_of_put g.D.Disk c.args.disk.now c.put_cell.new.disk c.args.self.now _ bodies c.requires.begun.0 c.in-Some.at c.args.body.now c.self.view_is c.in-Some.is of c.requires.begun.1 c.requires.capacity
    (c.put_cell.ensures.any_moment c.self.inside.shape c.self.inside.second c.self.inside.closed bodies c.self.invariant.2)

pub returns-clause-any_moment : goal.returns-clause-any_moment
returns-clause-any_moment g c = λ bodies of.
    at_each_moment_of_put g.D.Disk c.args.disk.now c.put_cell.new.disk c.args.self.now _ bodies c.requires.begun.0 c.in-Some.at c.args.body.now c.self.view_is c.in-Some.is of c.requires.begun.1 c.requires.capacity
    (c.put_cell.ensures.any_moment c.self.inside.shape c.self.inside.second c.self.inside.closed bodies c.self.invariant.2)

pub returns-clause-ok : goal.returns-clause-ok
returns-clause-ok g c = λ bodies of.
    let shown = g.D.Disk.shown c.args.disk.now in
    let inside = c.self.inside in
    let of_it = of_kept shown (g.D.Disk.images c.args.disk.now) c.args.self.now _ bodies c.self.view_is of in
    let other = other_kept shown c.args.self.now _ c.requires.begun.0 c.in-Some.at c.args.body.now c.self.view_is c.in-Some.is c.requires.begun.1 c.requires.capacity in
    let texts = c.in_ok-put_cell.ensures.ok inside.shape inside.second inside.closed bodies c.self.invariant.2 other of_it.each in
    let longest : max (max inside.long c.in-Some.at) (c.in-Some.at + 6 + length c.args.body.now) ≡ c.max-self-inside.result = grind (arith, common_steps, c.max.ensures, c.max-self-inside.ensures) in
    record {
      each = texts;
      long = subst (λ (n : ℕ). IfSome (g.D.Disk.shown c.put_cell.new.disk) (λ held. n ≡ length held)) longest c.in_ok-put_cell.ensures.long;
    }

abbrev some_of : ℕ → Option ℕ
some_of n = Some n

pub returns-clause-put : goal.returns-clause-put
returns-clause-put g c = λ put has.
    let shown = g.D.Disk.shown c.args.disk.now in
    let at = c.in-Some.at in
    let inside = c.self.inside in
    let is : c.args.self.now.filled ≡ Some at = ap (λ (t : LogTerm). t.filled) (sym c.self.view_is) ∙ c.in-Some.is in
    let has_it = subst (λ (t : LogTerm). HasPut shown t put) (sym c.self.view_is) has in
    let other = subst (λ (t : LogTerm). IsInOther t.shape t.second at (1 + need_of c.args.body.now)) (sym c.self.view_is) (in_other shown c.args.self.now put at c.args.body.now has is c.requires.capacity) in
    let place : at ≡ begin inside.shape (not inside.second) + length (cells put) = subst (λ (t : LogTerm). at ≡ begin t.shape (not t.second) + length (cells put)) (sym c.self.view_is) (put_at shown c.args.self.now put at has is) in
    let fits = subst (λ (t : LogTerm). length c.args.body.now ≤ t.shape.largest) (sym c.self.view_is) c.requires.size in
    record {
      filled = ap (λ (n : ℕ). some_of n) (omega (arith, place, length-cells-push put c.args.body.now));
      within = omega (arith, place, length-cells-push put c.args.body.now, other.within);
      fit = fit-push inside.shape.largest put c.args.body.now has_it.fit fits;
      holds = c.in_ok-put_cell.ensures.holds (begin inside.shape (not inside.second)) put place has_it.holds;
    }
