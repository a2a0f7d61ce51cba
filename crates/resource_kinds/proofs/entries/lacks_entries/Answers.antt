use Rattle.std.proofs.Common.{◌==◌, ◌||◌, ◌∙◌, not, length}
use Rattle.std.specs.List.{list_all}
use Rattle.resource_kinds.specs.Entries.{entries}
use Rattle.resource_kinds.proofs.EntryLists.{tells_lacks}
use Rattle.resource_kinds.proofs.entries.lacks_entries.Goals as goal

pub returns-in_ok-own-in-Some : goal.returns-in_ok-own-in-Some
returns-in_ok-own-in-Some c =
    rw c.in-Some.is (tells_lacks c.none_in.result c.in-Some.old.now c.args.value.now
    (c.none_in.ensures ∙ (λ i. list_all (λ e. (length e == 0) || not (c.in_ok-own-in-Some.ensures e i)) (entries c.args.value.now))))
