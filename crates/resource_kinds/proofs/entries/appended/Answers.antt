use Rattle.std.proofs.Common.{◌∙◌, ◌++◌, ◌∷◌, ℕ, List, flat_map, map, ap, sym}
use Rattle.std.proofs.lemmas.List.Folds.{flat_map-map}
use Rattle.resource_kinds.proofs.EntryLists.{appended-after}
use Rattle.resource_kinds.proofs.entries.appended.Goals as goal

pub returns : goal.returns
returns c =
    let texts = map (λ e. e.now) c.args.more.now in
    c.in_ok-push_entries.ensures
    ∙ ap (λ (l : List ℕ). l ++ flat_map (λ e. 59 ∷ e.now) c.args.more.now) c.in_ok-made.ensures.items
    ∙ ap (λ (l : List ℕ). c.args.value.now ++ l) (sym (flat_map-map (λ e. 59 ∷ e) (λ e. e.now) c.args.more.now))
    ∙ sym (appended-after c.args.value.now texts (sym c.is_empty.ensures ∙ c.if-is_empty.false))
