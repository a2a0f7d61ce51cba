-- The properties of generated instances: names that differ, texts as values, an id and a dependency.
use Rattle.std.proofs.Common.{◌≡◌, ◌≢◌, ◌∙◌, ℕ, zero, suc, ◌+◌, ◌<◌, ◌≤◌, true, false, List, [], ◌∷◌, ◌++◌, length, codes, Some, refl, sym, ap, subst, arith}
use Rattle.std.specs.Prelude.{Contains, encode_utf8_all}
use Rattle.std.specs.List.{AllByRecursion, list_all}
use Rattle.std.specs.Fmt.{decimal}
use Rattle.std.proofs.lemmas.Bool.{both_ways}
use Rattle.std.proofs.lemmas.List.Sums.{AllPass-from_list_all}
use Rattle.std.proofs.lemmas.Option.{none-some, same_Some}
use Rattle.std.proofs.lemmas.Slice.Eq.{bytes_eq-Decides}
use Rattle.mof_values.specs.Fold.{fold_case, SameName, same_name}
use Rattle.mof_values.specs.declared.instance.Instance.{Instance}
use Rattle.mof_values.specs.declared.instance.Property.{Property}
use Rattle.mof_values.specs.declared.value.Scalar.TheVariants.{Alias}
use Rattle.dsc_document.specs.Names.{ShareName}
use Rattle.mof_values.specs.Values.{scalars_of}
use Rattle.dsc_document.specs.Declarations.{HasKindAndName, IsResourceId, is_text}
use Rattle.dsc_document.specs.Rules.{HasBadDependsOn, HasBadId, NamesNoAlias, RepeatsName, property_name_at}
use Rattle.generated_document.specs.Generated.{generated_header, generated_properties, generated_resource, id_of_number}
use Rattle.generated_document.proofs.Decimals.{decimal_digits, decimal_short}
use Rattle.generated_document.proofs.Fits.{fits_digits, fits_encoded, fits_joined, fits_word}
use Rattle.dsc_document.specs.declared.limits.TheConstants.{MAX_RESOURCES}

-- ---- names

-- the name is none of the properties'
abbrev IsOther : List ℕ → List Property → Type 0
IsOther name properties = AllByRecursion (λ (p : Property). same_name name p.name ≡ false) properties

abbrev HasDistinctNames : List Property → Type 0
HasDistinctNames [] = Unit {0}
HasDistinctNames (p ∷ ps) = IsOther p.name ps × HasDistinctNames ps

is_other : (name : List ℕ) (ps : List Property) → IsOther name ps → (k : ℕ) (other : List ℕ) → property_name_at ps k ≡ Some other → SameName name other → ⊥
is_other name [] apart k other at same = none-some other at
is_other name (p ∷ ps) apart zero other at same =
    let here : p.name ≡ other = same_Some p.name other at in
    both_ways (same_name name p.name) apart.0 ((bytes_eq-Decides (fold_case name) (fold_case p.name)).1 (same ∙ ap fold_case (sym here)))
is_other name (p ∷ ps) apart (suc k) other at same = is_other name ps apart.1 k other at same

no_pair : (ps : List Property) → HasDistinctNames ps → (i j : ℕ) → ShareName (property_name_at ps) i j → ⊥
no_pair [] distinct i j shared = none-some shared.1 shared.3
no_pair (p ∷ ps) distinct zero zero shared = absurd (omega (arith, shared.0))
no_pair (p ∷ ps) distinct zero (suc j) shared =
    is_other p.name ps distinct.0 j shared.2 shared.4 (ap fold_case (same_Some p.name shared.1 shared.3) ∙ shared.5)
no_pair (p ∷ ps) distinct (suc i) zero shared = absurd (omega (arith, shared.0))
no_pair (p ∷ ps) distinct (suc i) (suc j) shared =
    no_pair ps distinct.1 i j (omega (arith, shared.0), shared.1, shared.2, shared.3, shared.4, shared.5)

distinct_names : (i : ℕ) → HasDistinctNames (generated_properties i)
distinct_names zero = ((refl, (refl, tt)), ((refl, tt), (tt, tt)))
distinct_names (suc i) = ((refl, (refl, (refl, tt))), ((refl, (refl, tt)), ((refl, tt), (tt, tt))))

pub none_repeats : (i : ℕ) (name : List ℕ) → RepeatsName (generated_properties i) name → ⊥
none_repeats i name repeats = no_pair (generated_properties i) (distinct_names i) repeats.first repeats.second repeats.shared

pub header_repeats_none : (name : List ℕ) → RepeatsName generated_header.properties name → ⊥
header_repeats_none name repeats = no_pair generated_header.properties (tt, tt) repeats.first repeats.second repeats.shared

-- ---- values

abbrev HoldsTexts : Property → Type 0
HoldsTexts p = list_all is_text (scalars_of p.value) ≡ true

not_alias : (ps : List Property) → AllByRecursion HoldsTexts ps → (p : Property) (alias : List ℕ) → Contains ps p → Contains (scalars_of p.value) (Alias alias) → ⊥
not_alias [] texts p alias declared named = absurd (omega (arith, declared.1))
not_alias (q ∷ ps) texts p alias (zero, within, is) named =
    let holds : HoldsTexts p = subst HoldsTexts is texts.0 in
    both_ways (is_text (Alias alias)) refl
    (subst (λ s. is_text s ≡ true) named.2 (AllPass-from_list_all is_text (scalars_of p.value) holds named.0 (Alias alias) named.1))
not_alias (q ∷ ps) texts p alias (suc k, within, is) named = not_alias ps texts.1 p alias (k, omega (arith, within), is) named

resource_texts : (i : ℕ) → AllByRecursion HoldsTexts (generated_properties i)
resource_texts zero = (refl, (refl, (refl, tt)))
resource_texts (suc i) = (refl, (refl, (refl, (refl, tt))))

pub names_known_alias : (instances : List Instance) (i : ℕ) → NamesNoAlias instances (generated_resource i) → ⊥
names_known_alias instances i names = not_alias (generated_properties i) (resource_texts i) names.property names.alias names.declared names.named

pub header_names_known_alias : (instances : List Instance) → NamesNoAlias instances generated_header → ⊥
header_names_known_alias instances names = not_alias generated_header.properties (refl, tt) names.property names.alias names.declared names.named

-- ---- ids and dependencies

some_name : (ds : List ℕ) → codes "R" ++ ds ≢ []
some_name ds same = absurd (omega (arith, ap length same))

short_id : (i : ℕ) → i < MAX_RESOURCES → length (encode_utf8_all (id_of_number i)) ≤ 18
short_id i small =
    fits_encoded (14 + 4) (id_of_number i) (fits_joined 14 4 (codes "[Environment]R") (decimal i)
    (fits_word 14 (codes "[Environment]R") refl (omega arith)) (fits_digits 4 (decimal i) (decimal_digits i small) (decimal_short i small)))

kind_and_name : (i : ℕ) → HasKindAndName (id_of_number i)
kind_and_name i = record {
  kind = codes "Environment";
  name = codes "R" ++ decimal i;
  spelled = refl;
  some_kind = λ same. absurd (omega (arith, ap length same));
  some_name = some_name (decimal i);
  no_bracket = refl;
}

is_id : (i : ℕ) → i < MAX_RESOURCES → IsResourceId (id_of_number i)
is_id i small = (kind_and_name i, omega (arith, short_id i small))

pub no_bad_id : (i : ℕ) → i < MAX_RESOURCES → HasBadId (generated_resource i) → ⊥
no_bad_id i small bad = bad (is_id i small)

pub no_bad_dependency : (i : ℕ) → HasBadDependsOn (generated_resource i) → ⊥
no_bad_dependency zero bad = bad
no_bad_dependency (suc i) bad = both_ways true bad refl
