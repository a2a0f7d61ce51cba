use Rattle.std.proofs.Common.{◌≡◌, ◌-◌, ◌∷◌, ◌∙◌, List, take, drop, length, sym}
use Rattle.std.proofs.lemmas.Slice.Eq.{bytes_eq-Decides}
use Rattle.node_store.specs.declared.known_list.KnownList.{KnownList}
use Rattle.node_store.proofs.HeldLists.{left_is}
use Rattle.node_store.proofs.KnownLists.{searched_found}
use Rattle.node_store.proofs.lists.known_as.Goals as goal

pub returns-then-eq : goal.returns-then-eq
returns-then-eq c =
    let left : List KnownList = c.loop-left.left.now in
    let list : KnownList = c.list-item.result in
    let rest : List KnownList = take (length left - 1) (drop 1 left) in
    let is : left ≡ list ∷ rest = left_is left list c.in-len1-up.len_at_least c.list-item.is in
    let same = (bytes_eq-Decides c.as_slice.result.now c.args.stage.now).0 (sym c.eq.ensures ∙ c.if-eq.true) in
    record { list = list; listed = searched_found c.args.lists.now left rest list is c.loop-left.invariant; named = sym same ∙ c.as_slice.ensures.value; is = c.in_ok-share.ensures }
