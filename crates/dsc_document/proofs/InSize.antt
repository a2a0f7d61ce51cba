-- The documents of instances that keep the rules are in size.
use Rattle.std.proofs.Common.{◌≡◌, inl, inr, ◌+◌, ◌≤◌, ℕ, List, [], length, All, Option, Some, None, option_and_then, sym, subst, arith}
use Rattle.std.proofs.lemmas.Bool.{cases_lt}
use Rattle.std.proofs.lemmas.List.{length-take}
use Rattle.std.proofs.lemmas.Option.{none-some}
use Rattle.std.specs.Option.{option_map_or}
use Rattle.std.specs.Prelude.{IsSomeAnd, codes, encode_utf8_all, find, unwrap_or}
use Rattle.mof_values.specs.declared.instance.Instance.{Instance}
use Rattle.mof_values.specs.declared.value.Value.{Value}
use Rattle.dsc_document.specs.Tests.{KeepsUpTo}
use Rattle.mof_values.specs.Values.{text_of, value_named}
use Rattle.dsc_document.specs.Declarations.{IsResourceId, id_value, is_header, version_of}
use Rattle.dsc_document.specs.Rules.{HasBadId, IsIdValue, document_of, texts_to_depend_on}
use Rattle.dsc_document.specs.Sizes.{DocumentInSize, Fits}
use Rattle.dsc_document.specs.declared.document.Document.{Document}
use Rattle.dsc_document.specs.declared.error.DocError.TheVariants.{BadResourceId}
use Rattle.dsc_document.specs.declared.limits.TheConstants.{MAX_ID, MAX_RESOURCES, MAX_VERSION}
use Rattle.dsc_document.proofs.Declared.{all_from, declared_by, document_few}

module _ (id : List ℕ) where
  text_fits : (text : Option (List ℕ)) → ((IsSomeAnd text IsResourceId → ⊥) → ⊥) → text ≡ Some id → Fits MAX_ID id
  text_fits text good is = elim (cases_lt MAX_ID (length (encode_utf8_all id))) [
    | inl long ↦ absurd (good (λ has. let formed = subst (λ o. IsSomeAnd o IsResourceId) is has in omega (arith, formed.1, long)))
    | inr fits ↦ fits
  ]

  value_fits : (value : Option Value) → (IsSomeAnd value (λ v. IsIdValue v → ⊥) → ⊥) → option_and_then text_of value ≡ Some id → Fits MAX_ID id
  value_fits None good is = absurd (none-some id is)
  value_fits (Some value) good is = text_fits (text_of value) good is

version_fits : (header : Option Instance) → length (option_map_or version_of header []) ≤ MAX_VERSION
version_fits None = omega arith
version_fits (Some header) = omega (arith, length-take MAX_VERSION (unwrap_or (option_and_then text_of (value_named (codes "Version") header)) []))

module _ (instances : List Instance) (document : Document) (made : document ≡ document_of instances) (kept : KeepsUpTo texts_to_depend_on instances) where
  ids_fit : All (λ r. Fits MAX_ID r.id) document.resources
  ids_fit = subst (λ (d : Document). All (λ r. Fits MAX_ID r.id) d.resources) (sym made)
      (all_from (λ r. Fits MAX_ID r.id) 0 instances (λ k m i r at is.
      value_fits r.id (id_value i) (λ bad. kept (BadResourceId k) (omega arith) (subst (λ o. IsSomeAnd o HasBadId) (sym at) bad)) (declared_by m i r is).0))

  pub in_size : length instances ≤ MAX_RESOURCES + 1 → DocumentInSize document
  in_size few = record {
    resources = omega (arith, few, document_few instances document made kept);
    ids = ids_fit;
    version = subst (λ (d : Document). length d.version ≤ MAX_VERSION) (sym made) (version_fits (find is_header instances));
  }
