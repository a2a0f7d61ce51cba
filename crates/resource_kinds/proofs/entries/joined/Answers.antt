use Rattle.std.proofs.Common.{◌≡◌, ◌∙◌, ◌++◌, ◌∷◌, ◌-◌, ◌≤◌, ℕ, List, [], Bor, length, get_or, take, drop, flat_map, map, ap, sym, arith}
use Rattle.std.proofs.lemmas.List.{take_all}
use Rattle.std.proofs.lemmas.List.Folds.{flat_map-map}
use Rattle.resource_kinds.specs.Entries.{joined}
use Rattle.resource_kinds.proofs.EntryLists.{join-after}
use Rattle.resource_kinds.proofs.entries.joined.Goals as goal

first_and_more : (xs : List (Bor (List ℕ))) (d : Bor (List ℕ)) → 1 ≤ length xs
    → (get_or xs 0 d).now ++ flat_map (λ e. 59 ∷ e.now) (take (length xs - 1) (drop 1 xs)) ≡ joined (map (λ e. e.now) xs)
first_and_more [] d some = absurd (omega arith)
first_and_more (x ∷ xs) d some =
    ap (λ (l : List (Bor (List ℕ))). x.now ++ flat_map (λ e. 59 ∷ e.now) l) (take_all (length (x ∷ xs) - 1) xs (omega arith))
    ∙ ap (λ (l : List ℕ). x.now ++ l) (sym (flat_map-map (λ e. 59 ∷ e) (λ e. e.now) xs))
    ∙ sym (join-after 59 x.now (map (λ e. e.now) xs))

pub returns : goal.returns
returns c =
    c.in_ok-push_entries.ensures
    ∙ ap (λ (l : List ℕ). l ++ flat_map (λ e. 59 ∷ e.now) (take (length c.args.entries.now - 1) (drop 1 c.args.entries.now))) c.in_ok-made.ensures.items
    ∙ first_and_more c.args.entries.now _ c.in-len1-up.len_at_least
