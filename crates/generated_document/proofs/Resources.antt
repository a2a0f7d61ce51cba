-- The resources of a generated document.
use Rattle.std.proofs.Common.{◌≡◌, ◌∙◌, ℕ, zero, suc, ◌+◌, ◌/◌, ◌<◌, List, [], ◌∷◌, ◌++◌, All, map, Some, slice_get, refl, sym, ap, subst, arith, inl, inr}
use Rattle.std.specs.List.{AllByRecursion, AllZip}
use Rattle.std.proofs.lemmas.Bool.{cases_eq}
use Rattle.std.proofs.lemmas.List.Elements.{All-cons, All-from_recursion, All-nil}
use Rattle.std.proofs.lemmas.Option.{none-some, same_Some}
use Rattle.mof_values.specs.Fold.{fold_case}
use Rattle.mof_syntax.specs.Refusals.{Reads}
use Rattle.mof_codec.proofs.OneRefusal.{reads_once}
use Rattle.dsc_document.specs.declared.document.Document.{Document}
use Rattle.dsc_document.specs.declared.document.Resource.{Resource}
use Rattle.dsc_document.specs.Declarations.{depends_of}
use Rattle.dsc_document.specs.Dependencies.{IsId, NamesResources}
use Rattle.dsc_document.specs.Rules.{document_of}
use Rattle.dsc_document.proofs.Declared.{resources_from}
use Rattle.partial_merge.specs.declared.part.Part.{Part}
use Rattle.partial_merge.specs.Parts.{AreParts, IsWhole, in_part, joined}
use Rattle.generated_document.specs.Generated.{generated_instances, generated_resource, id_of_number}

-- the resources of the numbers below the count, whose first instance has this place
abbrev pub resources : ℕ → ℕ → List Resource
resources from n = map (in_part 0) (resources_from from (generated_instances n)) ++ []

-- the resource of a number, whose instance has this place
abbrev pub resource : ℕ → ℕ → Resource
resource from i = record { id = id_of_number i; part = 0; index = from; instance = generated_resource i; depends = depends_of (generated_resource i) }

-- the document of the part that spells the instances
module _ (part : Part) (n : ℕ) (reads : Reads part.bytes (generated_instances n)) where
  declared : (document : Document) → IsWhole part document → document ≡ document_of (generated_instances n)
  declared document whole =
      whole.rules.made ∙ ap document_of (reads_once part.bytes whole.instances (generated_instances n) whole.spelled reads)

  of_documents : (document : Document) (documents : List Document) → AllZip IsWhole (part ∷ []) documents → document ≡ joined (part ∷ []) documents
      → document ≡ joined (part ∷ []) (document_of (generated_instances n) ∷ [])
  of_documents document [] whole made = absurd whole
  of_documents document (d ∷ []) whole made = made ∙ ap (λ (d : Document). joined (part ∷ []) (d ∷ [])) (declared d whole.0)
  of_documents document (d ∷ e ∷ rest) whole made = absurd whole.1

  -- it is that of the generated instances, with the name of the part
  pub document_is : (document : Document) → AreParts (part ∷ []) document → document ≡ joined (part ∷ []) (document_of (generated_instances n) ∷ [])
  document_is document are = of_documents document are.are_joined.documents are.are_joined.whole are.are_joined.joined

  pub resources_are : (document : Document) → AreParts (part ∷ []) document → document.resources ≡ resources 0 n
  resources_are document are = ap (λ (d : Document). d.resources) (document_is document are)

-- what holds of the resource of each number holds of each resource
pub each_resource : (P : Resource → Type 0) (from n : ℕ) → ((m i : ℕ) → i < n → P (resource m i)) → AllByRecursion P (resources from n)
each_resource P from zero each = tt
each_resource P from (suc i) each = (each from i (omega arith), each_resource P (from + 1) i (λ m j within. each m j (omega (arith, within))))

-- the resource at a place is that of the number that the place leaves
pub record IsResourceAt (n k : ℕ) (r : Resource) : Type 0 where
  pub number : ℕ
  pub place : number + k + 1 ≡ n
  pub id : r.id ≡ id_of_number number
  pub depends : r.depends ≡ depends_of (generated_resource number)

pub resource_stands_at : (from n k : ℕ) (r : Resource) → slice_get (resources from n) k ≡ Some r → IsResourceAt n k r
resource_stands_at from zero k r at = absurd (none-some r at)
resource_stands_at from (suc i) zero r at =
    let same : resource from i ≡ r = same_Some (resource from i) r at in
    record { number = i; place = omega arith; id = ap (λ (x : Resource). x.id) (sym same); depends = ap (λ (x : Resource). x.depends) (sym same) }
resource_stands_at from (suc i) (suc k) r at =
    let after = resource_stands_at (from + 1) i k r at in
    record { number = after.number; place = omega (arith, after.place); id = after.id; depends = after.depends }

-- ---- dependencies are resources

found_after : (name : List ℕ) (r : Resource) (rs : List Resource) → IsId rs name → IsId (r ∷ rs) name
found_after name r rs found = (suc found.0, found.1, omega (arith, found.2), found.3, found.4)

pub id_known : (from n i : ℕ) → i < n → IsId (resources from n) (id_of_number i)
id_known from zero i within = absurd (omega (arith, within))
id_known from (suc l) i within = elim (cases_eq i l) [
  | inl same ↦ (0, resource from l, omega arith, refl, ap (λ (j : ℕ). fold_case (id_of_number j)) same)
  | inr differ ↦ found_after (id_of_number i) (resource from l) (resources (from + 1) l) (id_known (from + 1) l i (omega (arith, within, differ)))
]

known_names : (n i : ℕ) → i < n → All (IsId (resources 0 n)) (depends_of (generated_resource i))
known_names n zero within = All-nil (IsId (resources 0 n))
known_names n (suc j) within = All-cons (IsId (resources 0 n)) (id_of_number (j / 2)) [] (id_known 0 n (j / 2) (omega (arith, within))) (All-nil (IsId (resources 0 n)))

pub names_resources : (document : Document) (n : ℕ) → document.resources ≡ resources 0 n → NamesResources document
names_resources document n are =
    subst (λ (rs : List Resource). All (λ (r : Resource). All (IsId rs) r.depends) rs) (sym are)
    (All-from_recursion (λ (r : Resource). All (IsId (resources 0 n)) r.depends) (resources 0 n)
    (each_resource (λ (r : Resource). All (IsId (resources 0 n)) r.depends) 0 n (λ m i within. known_names n i within)))
