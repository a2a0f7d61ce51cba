use Rattle.std.proofs.Common.{length, refl}
use Rattle.std.proofs.lemmas.Bool.{le-leb, lt-leb}
use Rattle.serde_json.proofs.Views.{items_len-items_view}
use Rattle.pull_messages.specs.declared.limits.TheConstants.{MAX_LIST_ITEMS}
use Rattle.pull_messages.proofs.lists.few_of.Goals as goal

pub returns-then-values-le-MAX_LIST_ITEMS : goal.returns-then-values-le-MAX_LIST_ITEMS
returns-then-values-le-MAX_LIST_ITEMS c =
    rw (items_len-items_view c.args.values.now, le-leb (length c.args.values.now) MAX_LIST_ITEMS c.if-values-le-MAX_LIST_ITEMS.true) refl

pub returns-else-values-le-MAX_LIST_ITEMS : goal.returns-else-values-le-MAX_LIST_ITEMS
returns-else-values-le-MAX_LIST_ITEMS c =
    rw (items_len-items_view c.args.values.now, lt-leb (length c.args.values.now) MAX_LIST_ITEMS c.if-values-le-MAX_LIST_ITEMS.false) refl
