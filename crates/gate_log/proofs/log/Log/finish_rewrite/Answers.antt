use Rattle.std.proofs.Common.{◌≡◌, ◌+◌, ℕ, List, not, length, sym, subst, max, arith, Option, Some, IfSome}
use Rattle.std.proofs.lemmas.Grind.{common_steps}
use Rattle.dsc_outside.specs.declared.disk.Disk.{Ghosts}
use Rattle.dsc_outside.specs.Disk.{Each}
use Rattle.gate_log.specs.Log.{LogTerm, IsOf, IsLogOf, HasPut, HasPutOn, AtAnyMoment, OldOrNew}
use Rattle.gate_log.specs.Text.{Holds, IsText, begin, cells}
use Rattle.gate_log.specs.Steps.{IsWhole}
use Rattle.gate_log.proofs.Rewrites.{is_whole}
use Rattle.gate_log.proofs.log.Log.finish_rewrite.Goals as goal

-- what the calls need of the log, by the fields that it keeps
record Begun (shown : Option (List ℕ)) (images : List ℕ → Type 0) (kept : LogTerm) (bodies put : List (List ℕ)) (at : ℕ) : Type 0 where
  of : IsOf shown images kept bodies
  has : HasPut shown kept put
  whole : IsWhole kept.shape kept.second at put

begun_is : (shown : Option (List ℕ)) (images : List ℕ → Type 0) (log kept : LogTerm) (bodies put : List (List ℕ)) (at : ℕ) → kept ≡ log → kept.filled ≡ Some at → IsOf shown images log bodies → HasPut shown log put → Begun shown images kept bodies put at
begun_is shown images log kept bodies put at same is of has =
    let has_it = subst (λ (t : LogTerm). HasPut shown t put) (sym same) has in
    record { of = subst (λ (t : LogTerm). IsOf shown images t bodies) (sym same) of; has = has_it; whole = is_whole shown kept put at has_it is }

-- every moment of the call, by what the log keeps
at_each_moment_of_finish : {D : Type 0} (d : Ghosts D) (old new : D) (log kept : LogTerm) (bodies put : List (List ℕ)) (at : ℕ) → kept ≡ log → kept.filled ≡ Some at → IsLogOf d old log bodies → HasPutOn d old log put
    → (IsWhole kept.shape kept.second at put → IfSome (d.shown old) (Holds (begin kept.shape (not kept.second)) (cells put)) → Each (d.images old) (λ f. IsText kept.shape kept.second kept.closed f bodies) → AtAnyMoment d old new (OldOrNew kept.shape bodies put))
    → AtAnyMoment d old new (OldOrNew log.shape bodies put)
at_each_moment_of_finish d old new log kept bodies put at same is of has moments =
    let b = begun_is (d.shown old) (d.images old) log kept bodies put at same is of has in
    subst (λ (t : LogTerm). AtAnyMoment d old new (OldOrNew t.shape bodies put)) same (moments b.whole b.has.holds b.of.each)

pub returns-in_err-finish_cells-clause-any_moment : goal.returns-in_err-finish_cells-clause-any_moment
returns-in_err-finish_cells-clause-any_moment g c = λ bodies put of has.
    at_each_moment_of_finish g.D.Disk c.args.disk.now c.finish_cells.new.disk c.args.self.now _ bodies put c.in-Some.at c.self.view_is c.in-Some.is of has
    (c.finish_cells.ensures.any_moment c.self.inside.shape c.self.inside.closed bodies put c.self.invariant.2)

pub returns-clause-any_moment : goal.returns-clause-any_moment
returns-clause-any_moment g c = λ bodies put of has.
    at_each_moment_of_finish g.D.Disk c.args.disk.now c.finish_cells.new.disk c.args.self.now _ bodies put c.in-Some.at c.self.view_is c.in-Some.is of has
    (c.finish_cells.ensures.any_moment c.self.inside.shape c.self.inside.closed bodies put c.self.invariant.2)

pub returns-clause-ok : goal.returns-clause-ok
returns-clause-ok g c = λ bodies put of has.
    let inside = c.self.inside in
    let b = begun_is (g.D.Disk.shown c.args.disk.now) (g.D.Disk.images c.args.disk.now) c.args.self.now _ bodies put c.in-Some.at c.self.view_is c.in-Some.is of has in
    let texts = c.in_ok-finish_cells.ensures.ok inside.shape inside.closed bodies put c.self.invariant.2 b.whole b.has.holds b.of.each in
    let longest : max inside.long (c.in-Some.at + 1) ≡ c.max-self-inside.result = grind (arith, common_steps, c.max-self-inside.ensures) in
    record {
      each = texts;
      long = subst (λ (n : ℕ). IfSome (g.D.Disk.shown c.finish_cells.new.disk) (λ held. n ≡ length held)) longest c.in_ok-finish_cells.ensures.long;
    }
