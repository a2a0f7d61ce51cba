use Rattle.std.proofs.Common.{◌≡◌, ℕ, ◌+◌, List, [], ◌∷◌, ◌++◌, Some, None, filter, filter_map, find, map, option_to_list, refl, sym, ap, ◌∙◌}
use Rattle.std.specs.List.{cons_option, enumerate_from}
use Rattle.std.specs.Option.{option_map_or}
use Rattle.std.proofs.lemmas.Iterator.Adapters.{YieldsList-from_vec}
use Rattle.std.proofs.lemmas.Iterator.Consumers.{YieldsList-from_enumerate, YieldsList-end}
use Rattle.std.proofs.lemmas.List.{map-id, map-append}
use Rattle.std.proofs.lemmas.List.Elements.{filter-append, filter_map-append}
use Rattle.mof_values.specs.declared.instance.Instance.{Instance}
use Rattle.dsc_document.specs.declared.document.Document.{Document}
use Rattle.dsc_document.specs.declared.document.Resource.{Resource}
use Rattle.dsc_document.specs.Declarations.{is_header, is_other, version_of}
use Rattle.dsc_document.specs.Rules.{resource_at}
use Rattle.dsc_document.proofs.assembly.document_of.Goals as goal

one : (place : ℕ × Instance) → filter_map resource_at (place ∷ []) ≡ option_to_list (resource_at place)
one place = elim (resource_at place) as (λ o. cons_option o [] ≡ option_to_list o) [ None ↦ refl | (Some x) ↦ refl ]

instances_of : (n : ℕ) (instances : List Instance) → map (λ p. p.1) (enumerate_from n instances) ≡ instances
instances_of n [] = refl
instances_of n (x ∷ xs) = ap (λ l. x ∷ l) (instances_of (n + 1) xs)

same_document : {a b : List ℕ} {r s : List Resource} {x y : List Instance} {p q : List (List ℕ)} → a ≡ b → r ≡ s → x ≡ y → p ≡ q
    → ◌≡◌ {A = Document} (record { version = a; resources = r; others = x; parts = p }) (record { version = b; resources = s; others = y; parts = q })
same_document same_version same_resources same_others same_parts = cc

pub loop-index-preserved : goal.loop-index-preserved
loop-index-preserved c = record {
  resources =
      c.in_ok-put.ensures.resources
      ∙ ap (λ l. l ++ option_to_list (resource_at (c.in-Some.index, c.in-Some.instance))) c.loop-index.invariant.resources
      ∙ ap (λ l. filter_map resource_at c.loop-index.yielded ++ l) (sym (one (c.in-Some.index, c.in-Some.instance)))
      ∙ sym (filter_map-append resource_at c.loop-index.yielded ((c.in-Some.index, c.in-Some.instance) ∷ []));
  others =
      c.in_ok-put.ensures.others
      ∙ ap (λ l. l ++ filter is_other (c.in-Some.instance ∷ [])) c.loop-index.invariant.others
      ∙ sym (filter-append is_other (map (λ p. p.1) c.loop-index.yielded) (c.in-Some.instance ∷ []))
      ∙ ap (filter is_other) (sym (map-append (λ p. p.1) c.loop-index.yielded ((c.in-Some.index, c.in-Some.instance) ∷ [])));
}

pub returns : goal.returns
returns c =
    let all = YieldsList-end (YieldsList-from_enumerate (YieldsList-from_vec c.args.instances.items (cc) (cc)) (cc)) c.loop-index.yielded c.loop-index.index-iterator c.loop-index.yielded_by _ c.next.new.self c.in-None.is c.next.ensures.steps in
    let yielded : c.loop-index.yielded ≡ enumerate_from 0 c.args.instances.items = sym (map-id c.loop-index.yielded) ∙ all.0 in
    same_document
    (c.version-2.view_is ∙ c.in_ok-version.ensures ∙ ap (λ l. option_map_or version_of (find is_header l) []) c.deref.ensures.value)
    (c.of.ensures ∙ c.loop-index.invariant.resources ∙ ap (filter_map resource_at) yielded)
    (c.of-2.ensures ∙ c.loop-index.invariant.others ∙ ap (λ l. filter is_other (map (λ p. p.1) l)) yielded ∙ ap (filter is_other) (instances_of 0 c.args.instances.items))
    (c.of-4.ensures ∙ c.in_ok-vec.ensures.items ∙ ap (λ t. t ∷ []) (c.of-3.ensures ∙ c.new.ensures.items))
