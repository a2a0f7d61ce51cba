use Rattle.std.proofs.Common.{◌==◌, ◌||◌, ◌∙◌, length}
use Rattle.std.specs.List.{list_all}
use Rattle.resource_kinds.specs.Entries.{entries}
use Rattle.resource_kinds.proofs.EntryLists.{tells_has}
use Rattle.resource_kinds.proofs.entries.has_entries.Goals as goal

pub returns-in_ok-own-in-Some : goal.returns-in_ok-own-in-Some
returns-in_ok-own-in-Some c =
    rw c.in-Some.is (tells_has c.all_in.result c.in-Some.old.now c.args.value.now
    (c.all_in.ensures ∙ (λ i. list_all (λ e. (length e == 0) || c.in_ok-own-in-Some.ensures e i) (entries c.args.value.now))))
