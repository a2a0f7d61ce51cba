-- The names of a node's parts: they are few and not too long, that of each partial configuration is among them, and there is one to ask about.
use Rattle.std.proofs.Common.{◌≡◌, ◌⊎◌, inl, inr, ℕ, zero, suc, ◌+◌, ◌<◌, ◌≤◌, Bool, true, false, ◌||◌, cond, List, [], ◌∷◌, ◌++◌, length, filter, take, get_or, ◌∙◌, Option, Some, refl, sym, ap, subst, arith, All, encode_utf8_all}
use Rattle.std.proofs.lemmas.List.{get_or_default}
use Rattle.std.proofs.lemmas.Option.{none-some, same_Some}
use Rattle.std.proofs.lemmas.Slice.Zip.{AllZip-long}
use Rattle.std.specs.List.{AllByRecursion, Contains, list_any}
use Rattle.std.specs.Option.{option_map_or}
use Rattle.std.specs.Prelude.{IsSomeAnd, slice_get}
use Rattle.dsc_document.specs.Sizes.{Fits}
use Rattle.depend_order.specs.Cycle.{DependsOn}
use Rattle.depend_order.proofs.Options.{some_of}
use Rattle.depend_order.proofs.Orders.{earliest_below, earliest_count}
use Rattle.mof_values.specs.declared.limits.TheConstants.{MAX_NAME_BYTES}
use Rattle.meta_config.specs.declared.meta.Meta.{Meta}
use Rattle.meta_config.specs.declared.meta.Partial.{Partial}
use Rattle.meta_config.specs.Parts.{IsMeta, IsOrderOfParts, NamesPart, is_pulled, partial_named}
use Rattle.meta_config.specs.Words.{is_name}
use Rattle.meta_config.proofs.NamedPartials.{named_itself}
use Rattle.meta_config.proofs.PartPlaces.{zip_more}
use Rattle.meta_config.proofs.ReadBack.{is_well_formed}
use Rattle.meta_config.proofs.WellFormed.{IsNameText, IsPart}
use Rattle.meta_config.proofs.WrittenTexts.{at_most}
use Rattle.mof_values.specs.declared.limits.TheConstants.{MAX_NAME_BYTES}
use Rattle.report_log.specs.declared.limits.TheConstants.{MAX_PARTS}
use Rattle.node_pull.specs.Names.{AreNamesAt, ArePartNames, ArePartNamesOf, CanAsk, CanAskOf, HasOneName, asked_of, is_asked}

-- at most 8 names that are not too long
pub record AreFew (names : List (List ℕ)) : Type 0 where
  pub few : length names ≤ MAX_PARTS
  pub fit : AllByRecursion (Fits MAX_NAME_BYTES) names

name_fits : (name : List ℕ) → is_name name ≡ true → Fits MAX_NAME_BYTES name
name_fits [] is = omega arith
name_fits (c ∷ cs) is = at_most (length (encode_utf8_all (c ∷ cs))) MAX_NAME_BYTES is

names_fit : (names : List (List ℕ)) → AllByRecursion IsNameText names → AllByRecursion (Fits MAX_NAME_BYTES) names
names_fit [] all = tt
names_fit (name ∷ names) all = (name_fits name all.0.sized, names_fit names all.1)

part_at : (partials : List Partial) (place : ℕ) (partial : Partial) → AllByRecursion IsPart partials → slice_get partials place ≡ Some partial → IsPart partial
part_at [] place partial all is = absurd (none-some partial is)
part_at (p ∷ ps) zero partial all is = subst IsPart (same_Some p partial is) all.0
part_at (p ∷ ps) (suc place) partial all is = part_at ps place partial all.1 is

names_at_fit : (partials : List Partial) (places : List ℕ) (names : List (List ℕ)) → AllByRecursion IsPart partials → AreNamesAt partials places names
    → AllByRecursion (Fits MAX_NAME_BYTES) names
names_at_fit partials [] [] all are = tt
names_at_fit partials [] (name ∷ names) all are = absurd are
names_at_fit partials (place ∷ places) [] all are = absurd are
names_at_fit partials (place ∷ places) (name ∷ names) all are =
    let found = some_of (slice_get partials place) (λ partial. name ≡ partial.name) are.0 in
    let part = part_at partials place found.0 all found.1 in
    (subst (Fits MAX_NAME_BYTES) (sym found.2) (name_fits found.0.name part.name.sized), names_at_fit partials places names all are.1)

-- the places of partial configurations in their order are below their count
pub order_below : (meta : Meta) (order : List ℕ) → IsOrderOfParts meta order → All (λ place. place < length meta.partials) order
order_below meta order is = earliest_below (length meta.partials) (DependsOn (NamesPart meta)) order is.earliest

order_few : (meta : Meta) (order : List ℕ) → IsOrderOfParts meta order → length order ≤ length meta.partials
order_few meta order is = earliest_count (length meta.partials) (DependsOn (NamesPart meta)) order is.earliest

of_partials : (meta : Meta) (order : List ℕ) (names : List (List ℕ)) → IsMeta meta → IsOrderOfParts meta order → AreNamesAt meta.partials order names → AreFew names
of_partials meta order names is ordered are =
    let w = is_well_formed meta is in
    let long = AllZip-long (λ place name. IsSomeAnd (slice_get meta.partials place) (λ partial. name ≡ partial.name)) order names are in
    let few = at_most (length meta.partials) 8 w.few_partials in
    record {
      few = omega (arith, order_few meta order ordered);
      fit = names_at_fit meta.partials order names w.partials are;
    }

of_names : (meta : Meta) → IsMeta meta → AreFew meta.names
of_names meta is =
    let w = is_well_formed meta is in
    record { few = at_most (length meta.names) 8 w.few_names; fit = names_fit meta.names w.names }

few_of : (meta : Meta) (partials : List Partial) (names : List (List ℕ)) → IsMeta meta → ArePartNamesOf meta partials names → AreFew names
few_of meta [] names is are = subst AreFew (sym are) (of_names meta is)
few_of meta (partial ∷ partials) names is are = of_partials meta are.0 names is are.1 are.2

pub names_few : (meta : Meta) (names : List (List ℕ)) → IsMeta meta → ArePartNames meta names → AreFew names
names_few meta names is are = few_of meta meta.partials names is are

-- ---- the name of each partial configuration is there

-- one of the names is this one
abbrev pub IsAmong : List ℕ → List (List ℕ) → Type 0
IsAmong name [] = ⊥
IsAmong name (first ∷ names) = (first ≡ name) ⊎ IsAmong name names

named_by : (partials : List Partial) (place k : ℕ) (partial : Partial) (name : List ℕ) → place ≡ k → slice_get partials k ≡ Some partial
    → IsSomeAnd (slice_get partials place) (λ p. name ≡ p.name) → name ≡ partial.name
named_by partials place k partial name same got named =
    subst (λ (o : Option Partial). IsSomeAnd o (λ p. name ≡ p.name)) (ap (slice_get partials) same ∙ got) named

name_among : (partials : List Partial) (order : List ℕ) (names : List (List ℕ)) (k : ℕ) (partial : Partial) → slice_get partials k ≡ Some partial
    → AreNamesAt partials order names → Contains order k → IsAmong partial.name names
name_among partials [] names k partial got are (j, lt, is) = absurd (omega arith)
name_among partials (place ∷ order) [] k partial got are has = absurd are
name_among partials (place ∷ order) (name ∷ names) k partial got are (zero, lt, is) = inl (named_by partials place k partial name is got are.0)
name_among partials (place ∷ order) (name ∷ names) k partial got are (suc j, lt, is) = inr (name_among partials order names k partial got are.1 (j, omega (arith, lt), is))

below : (partials : List Partial) (k : ℕ) (partial : Partial) → slice_get partials k ≡ Some partial → k < length partials
below [] k partial got = absurd (none-some partial got)
below (p ∷ ps) zero partial got = omega arith
below (p ∷ ps) (suc k) partial got = omega (arith, below ps k partial got)

among_of : (meta : Meta) (partials : List Partial) (names : List (List ℕ)) (k : ℕ) (partial : Partial) → meta.partials ≡ partials → slice_get meta.partials k ≡ Some partial
    → ArePartNamesOf meta partials names → IsAmong partial.name names
among_of meta [] names k partial same got are = absurd (none-some partial (ap (λ ps. slice_get ps k) (sym same) ∙ got))
among_of meta (p ∷ ps) names k partial same got are =
    name_among meta.partials are.0 names k partial got are.2 (are.1.all k (below meta.partials k partial got))

pub part_among : (meta : Meta) (names : List (List ℕ)) (k : ℕ) (partial : Partial) → slice_get meta.partials k ≡ Some partial → ArePartNames meta names → IsAmong partial.name names
part_among meta names k partial got are = among_of meta meta.partials names k partial refl got are

-- ---- there is a name to ask about

kept_first : (test : Bool) (name : List ℕ) (names : List (List ℕ)) → test ≡ true → 1 ≤ length (cond test (name ∷ names) names)
kept_first true name names is = omega arith
kept_first false name names is = absurd (cc is)

kept_later : (test : Bool) (name : List ℕ) (names : List (List ℕ)) → 1 ≤ length names → 1 ≤ length (cond test (name ∷ names) names)
kept_later true name names some = omega arith
kept_later false name names some = some

some_kept : (test : List ℕ → Bool) (name : List ℕ) (names : List (List ℕ)) → IsAmong name names → test name ≡ true → 1 ≤ length (filter test names)
some_kept test name [] among is = absurd among
some_kept test name (first ∷ names) (inl same) is = kept_first (test first) first (filter test names) (ap test same ∙ is)
some_kept test name (first ∷ names) (inr later) is = kept_later (test first) first (filter test names) (some_kept test name names later is)

-- where one passes the test
abbrev PassesAt : (Partial → Bool) → List Partial → Type 0
PassesAt test partials = (k : ℕ) × (partial : Partial) × (slice_get partials k ≡ Some partial) × (test partial ≡ true)

passes_at : (test : Partial → Bool) (partials : List Partial) → list_any test partials ≡ true → PassesAt test partials
passes_at test [] is = absurd (cc is)
passes_at test (p ∷ ps) is = go (test p) refl (passes_at test ps)
  where
    go : (b : Bool) → test p ≡ b → (list_any test ps ≡ true → PassesAt test ps) → PassesAt test (p ∷ ps)
    go true holds later = (zero, p, refl, holds)
    go false fails later = let at = later (sym (ap (λ t. t || list_any test ps) fails) ∙ is) in (suc at.0, at.1, at.2, at.3)

pulled_asked : (meta : Meta) (names : List (List ℕ)) (k : ℕ) (partial : Partial) → IsMeta meta → slice_get meta.partials k ≡ Some partial → is_pulled meta partial ≡ true → ArePartNames meta names
    → 1 ≤ length (asked_of meta names)
pulled_asked meta names k partial is got pulled are =
    some_kept (is_asked meta) partial.name names (part_among meta names k partial got are)
    (ap (λ (o : Option Partial). option_map_or (is_pulled meta) o true) (named_itself meta k partial is got) ∙ pulled)

one_asked : (meta : Meta) (names : List (List ℕ)) → meta.partials ≡ [] → HasOneName names → 1 ≤ length (asked_of meta names)
one_asked meta [] none has = absurd has
one_asked meta (name ∷ []) none has =
    some_kept (is_asked meta) name (name ∷ []) (inl refl) (ap (λ ps. option_map_or (is_pulled meta) (partial_named ps name) true) none)
one_asked meta (name ∷ second ∷ names) none has = absurd has

some_of_asked : (meta : Meta) (partials : List Partial) (names : List (List ℕ)) → IsMeta meta → meta.partials ≡ partials → CanAskOf meta partials → ArePartNamesOf meta partials names
    → ArePartNames meta names → 1 ≤ length (asked_of meta names)
some_of_asked meta [] names is same can are named = one_asked meta names same (subst HasOneName (sym are) can)
some_of_asked meta (p ∷ ps) names is same can are named =
    let at = passes_at (is_pulled meta) (p ∷ ps) can in
    pulled_asked meta names at.0 at.1 is (ap (λ qs. slice_get qs at.0) same ∙ at.2) at.3 named

pub some_asked : (meta : Meta) (names : List (List ℕ)) → IsMeta meta → CanAsk meta → ArePartNames meta names → 1 ≤ length (asked_of meta names)
some_asked meta names is can are = some_of_asked meta meta.partials names is refl can are are

-- ---- the name at one more place

name_at : (partials : List Partial) (place : ℕ) (partial : Partial) (name : List ℕ) → place < length partials → partial ≡ get_or partials place partial → name ≡ partial.name
    → IsSomeAnd (slice_get partials place) (λ p. name ≡ p.name)
name_at [] place partial name lt is named = absurd (omega arith)
name_at (p ∷ ps) zero partial name lt is named = named ∙ ap (λ (q : Partial). q.name) is
name_at (p ∷ ps) (suc place) partial name lt is named = name_at ps place partial name (omega arith) is named

pub names_at_more : (partials : List Partial) (places : List ℕ) (names more : List (List ℕ)) (i : ℕ) (partial : Partial) (name : List ℕ) → i < length places
    → All (λ place. place < length partials) places → partial ≡ get_or partials (get_or places i 0) partial → name ≡ partial.name → more ≡ names ++ name ∷ []
    → AreNamesAt partials (take i places) names → AreNamesAt partials (take (i + 1) places) more
names_at_more partials places names more i partial name lt below is named with at =
    subst (AreNamesAt partials (take (i + 1) places)) (sym with)
    (zip_more (λ place n. IsSomeAnd (slice_get partials place) (λ (p : Partial). n ≡ p.name)) places names i (get_or places i 0) name lt (get_or_default places i 0 _ lt)
    (name_at partials (get_or places i 0) partial name (below i 0 lt) is named) at)
