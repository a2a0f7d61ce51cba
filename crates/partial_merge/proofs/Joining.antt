-- Parts that are joined one after another.
use Rattle.std.proofs.Common.{◌≡◌, ℕ, zero, suc, ◌+◌, ◌<◌, ◌≤◌, List, [], ◌∷◌, ◌++◌, IsSomeAnd, Some, length, take, get_or, slice_get, refl, sym, ap, subst, ◌∙◌, arith, append-nil, take_all}
use Rattle.std.specs.List.{AllZip, enumerate_from, flat_map}
use Rattle.std.proofs.lemmas.List.{length-take-le, map-append, take_more}
use Rattle.std.proofs.lemmas.List.Concat.{flat_map-append}
use Rattle.std.proofs.lemmas.Option.{slice_get-get_or}
use Rattle.mof_values.specs.declared.instance.Instance.{Instance}
use Rattle.dsc_document.specs.declared.document.Document.{Document}
use Rattle.dsc_document.specs.declared.document.Resource.{Resource}
use Rattle.partial_merge.specs.declared.part.Part.{Part}
use Rattle.partial_merge.specs.declared.error.PartFault.{PartFault}
use Rattle.partial_merge.specs.declared.error.MergeError.{MergeError}
use Rattle.partial_merge.specs.declared.error.MergeError.TheVariants as refusals
use Rattle.partial_merge.specs.Parts.{AreJoined, Declares, IsWhole, NamesDiffer, joined, resources_in, with_part}
use Rattle.partial_merge.specs.Refused.{HasFault, IsFault, IsFirstFault, IsPartFault}

-- ---- lists side by side

module _ {A B : Type 0} (R : A → B → Type 0) where
  zip_push : (xs : List A) (ys : List B) (x : A) (y : B) → AllZip R xs ys → R x y → AllZip R (xs ++ x ∷ []) (ys ++ y ∷ [])
  zip_push [] [] x y each here = (here, tt)
  zip_push [] (b ∷ ys) x y each here = absurd each
  zip_push (a ∷ xs) [] x y each here = absurd each
  zip_push (a ∷ xs) (b ∷ ys) x y each here = (each.0, zip_push xs ys x y each.1 here)

  zip_length : (xs : List A) (ys : List B) → AllZip R xs ys → length xs ≡ length ys
  zip_length [] [] each = refl
  zip_length [] (b ∷ ys) each = absurd each
  zip_length (a ∷ xs) [] each = absurd each
  zip_length (a ∷ xs) (b ∷ ys) each = ap suc (zip_length xs ys each.1)

numbered_push : {A : Type 0} (n : ℕ) (xs : List A) (x : A) → enumerate_from n (xs ++ x ∷ []) ≡ enumerate_from n xs ++ (n + length xs, x) ∷ []
numbered_push {A} n [] x = let same : n ≡ n + 0 = omega arith in ap (λ k. (k, x) ∷ []) same
numbered_push {A} n (y ∷ ys) x =
    let same : n + 1 + length ys ≡ n + suc (length ys) = omega arith in
    ap (λ l. (n, y) ∷ l) (numbered_push (n + 1) ys x ∙ ap (λ k. enumerate_from (n + 1) ys ++ (k, x) ∷ []) same)

-- ---- the document of one more part

pub same_document : {a b : List ℕ} {r s : List Resource} {x y : List Instance} {p q : List (List ℕ)} → a ≡ b → r ≡ s → x ≡ y → p ≡ q
    → ◌≡◌ {A = Document} (record { version = a; resources = r; others = x; parts = p }) (record { version = b; resources = s; others = y; parts = q })
same_document same_version same_resources same_others same_parts = cc

resources_push : (documents : List Document) (document : Document)
    → flat_map resources_in (enumerate_from 0 (documents ++ document ∷ []))
    ≡ flat_map resources_in (enumerate_from 0 documents) ++ resources_in (length documents, document)
resources_push documents document =
    let count : 0 + length documents ≡ length documents = omega arith in
    ap (flat_map resources_in) (numbered_push 0 documents document ∙ ap (λ k. enumerate_from 0 documents ++ (k, document) ∷ []) count)
    ∙ flat_map-append resources_in (enumerate_from 0 documents) ((length documents, document) ∷ [])
    ∙ ap (λ l. flat_map resources_in (enumerate_from 0 documents) ++ l) (append-nil (resources_in (length documents, document)))

others_push : (documents : List Document) (document : Document)
    → flat_map (λ d. d.others) (documents ++ document ∷ []) ≡ flat_map (λ d. d.others) documents ++ document.others
others_push documents document =
    flat_map-append (λ (d : Document). d.others) documents (document ∷ [])
    ∙ ap (λ l. flat_map (λ d. d.others) documents ++ l) (append-nil document.others)

joined_push : (parts : List Part) (documents : List Document) (part : Part) (document : Document) → 0 < length documents
    → joined (parts ++ part ∷ []) (documents ++ document ∷ []) ≡ with_part (joined parts documents) (length documents) part.name document
joined_push parts [] part document some = absurd (omega (arith, some))
joined_push parts (d ∷ ds) part document some =
    same_document refl (resources_push (d ∷ ds) document) (others_push (d ∷ ds) document) (map-append (λ (p : Part). p.name) parts (part ∷ []))

-- ---- the first parts

-- the document is what the first n parts declare
pub record AreFirst (parts : List Part) (n : ℕ) (document : Document) : Type 0 where
  pub documents : List Document
  pub whole : AllZip IsWhole (take n parts) documents
  pub made : document ≡ joined (take n parts) documents

module _ (parts : List Part) where
  pub one_first : (part : Part) (document : Document) → 0 < length parts → part ≡ get_or parts 0 part → AreJoined (part ∷ []) document → AreFirst parts 1 document
  one_first part document some is are =
      let same : part ∷ [] ≡ take 1 parts = ap (λ p. p ∷ []) is ∙ sym (take_more parts 0 part some) in
      record {
        documents = are.documents;
        whole = subst (λ (ps : List Part). AllZip IsWhole ps are.documents) same are.whole;
        made = are.joined ∙ ap (λ ps. joined ps are.documents) same;
      }

  module _ (n : ℕ) (whole : Document) (first : AreFirst parts n whole) where
    count_is : n ≤ length parts → length first.documents ≡ n
    count_is within = let same = zip_length IsWhole (take n parts) first.documents first.whole in omega (arith, same, within, length-take-le n parts)

    pub one_more_part : (part : Part) (document : Document) → 0 < n → n < length parts → part ≡ get_or parts n part → IsWhole part document
        → AreFirst parts (n + 1) (with_part whole n part.name document)
    one_more_part part document some within is declares =
        let same : take n parts ++ part ∷ [] ≡ take (n + 1) parts = ap (λ p. take n parts ++ p ∷ []) is ∙ sym (take_more parts n part within) in
        let count : length first.documents ≡ n = count_is (omega (arith, within)) in
        record {
          documents = first.documents ++ document ∷ [];
          whole = subst (λ (ps : List Part). AllZip IsWhole ps (first.documents ++ document ∷ [])) same
              (zip_push IsWhole (take n parts) first.documents part document first.whole declares);
          made = ap (λ (d : Document). with_part d n part.name document) first.made
              ∙ ap (λ k. with_part (joined (take n parts) first.documents) k part.name document) (sym count)
              ∙ sym (joined_push (take n parts) first.documents part document (omega (arith, some, count)))
              ∙ ap (λ ps. joined ps (first.documents ++ document ∷ [])) same;
        }

    pub all_joined : NamesDiffer parts → length parts ≤ n → AreJoined parts whole
    all_joined names all =
        let same : take n parts ≡ parts = take_all n parts all in
        record {
          names = names;
          documents = first.documents;
          whole = subst (λ (ps : List Part). AllZip IsWhole ps first.documents) same first.whole;
          joined = first.made ∙ ap (λ ps. joined ps first.documents) same;
        }

-- ---- the first fault

whole_before : (parts : List Part) (n : ℕ) (documents : List Document) → AllZip IsWhole (take n parts) documents → n ≤ length parts
    → (k : ℕ) → k < n → IsSomeAnd (slice_get parts k) (λ part. (document : Document) × IsWhole part document)
whole_before [] n documents whole within k before = absurd (omega (arith, within, before))
whole_before (part ∷ parts) zero documents whole within k before = absurd (omega (arith, before))
whole_before (part ∷ parts) (suc n) [] whole within k before = absurd whole
whole_before (part ∷ parts) (suc n) (d ∷ ds) whole within zero before = (d, whole.0)
whole_before (part ∷ parts) (suc n) (d ∷ ds) whole within (suc k) before = whole_before parts n ds whole.1 (omega (arith, within)) k (omega (arith, before))

abbrev pub AreWholeBefore : List Part → ℕ → Type 0
AreWholeBefore parts n = (k : ℕ) → k < n → IsSomeAnd (slice_get parts k) (λ part. (document : Document) × IsWhole part document)

pub none_before : (parts : List Part) → AreWholeBefore parts 0
none_before parts k before = absurd (omega (arith, before))

pub first_before : (parts : List Part) (n : ℕ) (document : Document) → AreFirst parts n document → n ≤ length parts → AreWholeBefore parts n
first_before parts n document first within = whole_before parts n first.documents first.whole within

module _ (parts : List Part) (names : NamesDiffer parts) (n : ℕ) (part : Part) (within : n < length parts) (is : part ≡ get_or parts n part)
    (before : AreWholeBefore parts n) (bytes : List ℕ) (of : bytes ≡ part.bytes) where
  fault_at : (index : ℕ) (fault : PartFault) → index ≡ n → IsFault bytes fault → IsFirstFault parts index fault
  fault_at index fault here fault_is = subst (λ k. IsFirstFault parts k fault) (sym here) (record {
    names = names;
    here = subst (λ o. IsSomeAnd o (λ (p : Part). HasFault p fault)) (sym (slice_get-get_or parts n part within ∙ ap Some (sym is)))
        (subst (λ (b : List ℕ). IsFault b fault) of fault_is);
    before = before;
  })

  pub part_fault : (error : MergeError) → IsPartFault (λ index fault. (index ≡ n) × IsFault bytes fault) error → IsPartFault (IsFirstFault parts) error
  part_fault (refusals.TwoNames first second) fault = absurd fault
  part_fault (refusals.Part index fault) caused = fault_at index fault caused.0 caused.1
  part_fault (refusals.TooMany count) fault = absurd fault
  part_fault (refusals.DuplicateId first second) fault = absurd fault
  part_fault (refusals.DependsUnknown spot name) fault = absurd fault
  part_fault (refusals.Cycle cycle) fault = absurd fault
  part_fault refusals.Memory fault = tt

pub declares_same : (bytes other : List ℕ) (document : Document) → bytes ≡ other → Declares bytes document → Declares other document
declares_same bytes other document same declares = subst (λ (b : List ℕ). Declares b document) same declares
