-- Parts that are laid over others: where they come from, how many they are, and that their names fit.
use Rattle.std.proofs.Common.{◌≡◌, ◌⊎◌, inl, inr, ℕ, suc, ◌≤◌, Bool, true, false, cond, List, [], ◌∷◌, length, Option, Some, None, refl, sym, ap, ◌∙◌, arith}
use Rattle.std.proofs.lemmas.List.Elements.{All-from_recursion}
use Rattle.std.proofs.lemmas.Option.{none-some, same_Some}
use Rattle.std.proofs.lemmas.Slice.Eq.{bytes_eq-Decides}
use Rattle.std.specs.List.{AllByRecursion, Contains, cons_option}
use Rattle.std.specs.Option.{option_or}
use Rattle.std.specs.Prelude.{is_some}
use Rattle.mof_values.specs.Fold.{SameName, fold_case, same_name}
use Rattle.mof_values.specs.declared.limits.TheConstants.{MAX_NAME_BYTES}
use Rattle.dsc_document.specs.Sizes.{Fits}
use Rattle.meta_config.specs.declared.meta.Meta.{Meta}
use Rattle.meta_config.specs.Parts.{IsMeta}
use Rattle.node_state.specs.Lists.{AreNamed}
use Rattle.partial_merge.specs.declared.part.Part.{Part}
use Rattle.node_pull.specs.Laying.{first_under, laid_over, part_over}
use Rattle.node_pull.specs.Names.{ArePartNames}
use Rattle.node_pull.proofs.FoldSizes.{same_size}
use Rattle.node_pull.proofs.PartNames.{IsAmong, names_few}

-- ---- the part of a name

found_name : (first : Part) (parts : List Part) (name : List ℕ) (part : Part) (same : Bool) → same_name first.name name ≡ same
    → (first_under parts name ≡ Some part → SameName part.name name) → cond same (Some first) (first_under parts name) ≡ Some part → SameName part.name name
found_name first parts name part true same later is =
    ap (λ (p : Part). fold_case p.name) (sym (same_Some first part is)) ∙ (bytes_eq-Decides (fold_case first.name) (fold_case name)).0 same
found_name first parts name part false same later is = later is

under_name : (parts : List Part) (name : List ℕ) (part : Part) → first_under parts name ≡ Some part → SameName part.name name
under_name [] name part is = absurd (none-some part is)
under_name (first ∷ parts) name part is = found_name first parts name part (same_name first.name name) refl (under_name parts name part) is

found_there : (first : Part) (parts : List Part) (name : List ℕ) (part : Part) (same : Bool) → (first_under parts name ≡ Some part → Contains parts part)
    → cond same (Some first) (first_under parts name) ≡ Some part → Contains (first ∷ parts) part
found_there first parts name part true later is = (0, omega arith, same_Some first part is)
found_there first parts name part false later is = let there = later is in (suc there.0, omega (arith, there.1), there.2)

under_there : (parts : List Part) (name : List ℕ) (part : Part) → first_under parts name ≡ Some part → Contains parts part
under_there [] name part is = absurd (none-some part is)
under_there (first ∷ parts) name part is = found_there first parts name part (same_name first.name name) (under_there parts name part) is

pub under_first : (part : Part) (parts : List Part) (name : List ℕ) → SameName part.name name → first_under (part ∷ parts) name ≡ Some part
under_first part parts name same =
    ap (λ b. cond b (Some part) (first_under parts name)) ((bytes_eq-Decides (fold_case part.name) (fold_case name)).1 same)

pub over_name : (new held : List Part) (name : List ℕ) (part : Part) → part_over new held name ≡ Some part → SameName part.name name
over_name new held name part is = go (first_under new name) refl is
  where
    go : (found : Option Part) → first_under new name ≡ found → option_or found (first_under held name) ≡ Some part → SameName part.name name
    go None none is = under_name held name part is
    go (Some first) some is = under_name new name part (some ∙ is)

over_there : (new held : List Part) (name : List ℕ) (part : Part) → part_over new held name ≡ Some part → Contains new part ⊎ Contains held part
over_there new held name part is = go (first_under new name) refl is
  where
    go : (found : Option Part) → first_under new name ≡ found → option_or found (first_under held name) ≡ Some part → Contains new part ⊎ Contains held part
    go None none is = inr (under_there held name part is)
    go (Some first) some is = inl (under_there new name part (some ∙ is))

pub over_new : (new held : List Part) (name : List ℕ) (part : Part) → first_under new name ≡ Some part → is_some (part_over new held name) ≡ true
over_new new held name part is = ap (λ o. is_some (option_or o (first_under held name))) is

pub over_held : (new held : List Part) (name : List ℕ) → is_some (first_under held name) ≡ true → is_some (part_over new held name) ≡ true
over_held new held name is = go (first_under new name)
  where
    go : (found : Option Part) → is_some (option_or found (first_under held name)) ≡ true
    go None = is
    go (Some part) = refl

-- ---- all of them

-- what holds of each new part and of each that is held
module _ (P : Part → Type 0) (new held : List Part) (of_new : (part : Part) → Contains new part → P part) (of_held : (part : Part) → Contains held part → P part) where
  with_part : (found : Option Part) (parts : List Part) → ((part : Part) → found ≡ Some part → P part) → AllByRecursion P parts → AllByRecursion P (cons_option found parts)
  with_part None parts is all = all
  with_part (Some part) parts is all = (is part refl, all)

  of_part : (part : Part) → Contains new part ⊎ Contains held part → P part
  of_part part (inl there) = of_new part there
  of_part part (inr there) = of_held part there

  pub laid_all : (names : List (List ℕ)) → AllByRecursion P (laid_over names new held)
  laid_all [] = tt
  laid_all (name ∷ names) =
      with_part (part_over new held name) (laid_over names new held) (λ part is. of_part part (over_there new held name part is)) (laid_all names)

with_fit : (found : Option Part) (name : List ℕ) (parts : List Part) → ((part : Part) → found ≡ Some part → SameName part.name name) → Fits MAX_NAME_BYTES name
    → AllByRecursion (λ (part : Part). Fits MAX_NAME_BYTES part.name) parts → AllByRecursion (λ (part : Part). Fits MAX_NAME_BYTES part.name) (cons_option found parts)
with_fit None name parts is fits all = all
with_fit (Some part) name parts is fits all = (omega (arith, same_size part.name name (is part refl), fits), all)

laid_fit : (names : List (List ℕ)) (new held : List Part) → AllByRecursion (Fits MAX_NAME_BYTES) names
    → AllByRecursion (λ (part : Part). Fits MAX_NAME_BYTES part.name) (laid_over names new held)
laid_fit [] new held all = tt
laid_fit (name ∷ names) new held all =
    with_fit (part_over new held name) name (laid_over names new held) (over_name new held name) all.0 (laid_fit names new held all.1)

with_few : (found : Option Part) (parts : List Part) (n : ℕ) → length parts ≤ n → length (cons_option found parts) ≤ suc n
with_few None parts n few = omega (arith, few)
with_few (Some part) parts n few = omega (arith, few)

laid_few : (names : List (List ℕ)) (new held : List Part) → length (laid_over names new held) ≤ length names
laid_few [] new held = omega arith
laid_few (name ∷ names) new held = with_few (part_over new held name) (laid_over names new held) (length names) (laid_few names new held)

with_first : (found : Option Part) (parts : List Part) → is_some found ≡ true → 1 ≤ length (cons_option found parts)
with_first None parts is = absurd (cc is)
with_first (Some part) parts is = omega arith

with_later : (found : Option Part) (parts : List Part) → 1 ≤ length parts → 1 ≤ length (cons_option found parts)
with_later None parts some = some
with_later (Some part) parts some = omega arith

laid_some : (names : List (List ℕ)) (new held : List Part) (name : List ℕ) → IsAmong name names → is_some (part_over new held name) ≡ true → 1 ≤ length (laid_over names new held)
laid_some [] new held name among is = absurd among
laid_some (first ∷ names) new held name (inl same) is =
    with_first (part_over new held first) (laid_over names new held) (ap (λ n. is_some (part_over new held n)) same ∙ is)
laid_some (first ∷ names) new held name (inr later) is =
    with_later (part_over new held first) (laid_over names new held) (laid_some names new held name later is)

-- a list of a node's parts, one of which is there
pub laid_named : (meta : Meta) (names : List (List ℕ)) (new held : List Part) (name : List ℕ) → IsMeta meta → ArePartNames meta names → IsAmong name names
    → is_some (part_over new held name) ≡ true → AreNamed (laid_over names new held)
laid_named meta names new held name is are among there =
    let few = names_few meta names is are in
    record {
      some = omega (arith, laid_some names new held name among there);
      few = omega (arith, laid_few names new held, few.few);
      names = All-from_recursion (λ (part : Part). Fits MAX_NAME_BYTES part.name) (laid_over names new held) (laid_fit names new held few.fit);
    }
