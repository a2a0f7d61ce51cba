use Rattle.std.proofs.Common.{◌≡◌, ℕ, Bool, true, false, cond, ◌||◌, List, Bor, refl, ◌∙◌, ap}
use Rattle.std.specs.Ordering.{is_eq, nat_cmp}
use Rattle.std.specs.Cmp.Lexicographic.{slice_cmp}
use Rattle.std.specs.Str.{bytes_eq}
use Rattle.std.proofs.lemmas.Cmp.{nat_list_eq_equiv}
use Rattle.std.proofs.lemmas.Map.Text.{is_eq-slice_cmp}
use Rattle.resource_kinds.specs.EntrySets.{is_in}
use Rattle.resource_kinds.proofs.entry_sets.EntrySet.insert.Goals as goal

pub returns-clause-new : goal.returns-clause-new
unfolding is_in
returns-clause-new c = c.in_ok-insert.ensures.added

-- the entry itself is in the set, and each other where it was
chosen : (b had : Bool) → cond b true had ≡ (b || had)
chosen true had = refl
chosen false had = refl

pub returns-clause-put : goal.returns-clause-put
unfolding is_in
returns-clause-put c = λ other.
    let entry = c.args.entry.now in
    let asked : Bor (List ℕ) = record { ref_ptr = (0, 0); now = other } in
    let had = is_in c.args.self.now other in
    c.in_ok-insert.ensures.updates.0 asked
    ∙ ap (λ (b : Bool). cond b true had) (is_eq-slice_cmp entry other ∙ nat_list_eq_equiv.symm entry other)
    ∙ chosen (bytes_eq other entry) had
