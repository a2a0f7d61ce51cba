-- Parts are merged to one document or are refused in one way, and never both.
use Rattle.std.proofs.Common.{◌≡◌, ℕ, ◌<◌, ◌≤◌, arith, inl, inr, AllPairs, option_map, slice_index_or, List, [], ◌∷◌, Option, Some, None, IsSomeAnd, slice_get, refl, sym, ap, subst, ◌∙◌, ⊎_elim, length}
use Rattle.std.proofs.lemmas.Bool.{cases_order}
use Rattle.std.proofs.lemmas.Option.{get_or_from_slice_get, none-some, same_Some, slice_get_within}
use Rattle.std.proofs.lemmas.Slice.Zip.{AllZip-left}
use Rattle.std.specs.List.{AllZip}
use Rattle.std.specs.Prelude.{MatchOption}
use Rattle.mof_values.specs.declared.instance.Instance.{Instance}
use Rattle.mof_codec.proofs.OneRefusal.{reads_once, refuses_once}
use Rattle.dsc_document.specs.declared.document.Document.{Document}
use Rattle.mof_values.specs.Fold.{SameName}
use Rattle.dsc_document.specs.Dependencies.{HasDistinctIds, IsFirstUnknownId, Names, NamesResources}
use Rattle.dsc_document.specs.Names.{ShareName}
use Rattle.dsc_document.specs.declared.document.Resource.{Resource}
use Rattle.dsc_document.specs.declared.limits.TheConstants.{MAX_RESOURCES}
use Rattle.dsc_document.specs.declared.spot.Spot.{Spot}
use Rattle.dsc_document.specs.Rules.{Applies, IsRefusal, document_of}
use Rattle.depend_order.specs.Documents.{IsCycleOfDocument}
use Rattle.depend_order.proofs.Cycles as cycles
use Rattle.depend_order.proofs.Resolved.{names_one}
use Rattle.partial_merge.specs.declared.part.Part.{Part}
use Rattle.partial_merge.specs.declared.error.PartFault.{PartFault}
use Rattle.partial_merge.specs.declared.error.PartFault.TheVariants.{Mof, Doc}
use Rattle.partial_merge.specs.declared.error.MergeError.TheVariants as refusals
use Rattle.partial_merge.specs.Laws.{AtMostOneDocument, AtMostOneRefusal, NeverBoth}
use Rattle.partial_merge.specs.Parts.{AreJoined, AreParts, IsWhole, NamesDiffer, joined, part_name_at}
use Rattle.partial_merge.specs.Refused.{HasCycle, HasFault, HasSameIds, HasTooMany, HasUnknown, IsFirstFault}
use Rattle.depend_order.specs.Repeats.{IsFirstRepeat, IsFirstRepeatedId, id_at, spot_at}
use Rattle.dsc_document.proofs.FirstUnknown.{one_spot, one_unknown, unknown_unknown}
use Rattle.dsc_document.proofs.OneRule.{one_wins}

-- ---- one part

-- a part is at most one document
whole_once : (part : Part) (one other : Document) → IsWhole part one → IsWhole part other → one ≡ other
whole_once part one other is also =
    is.rules.made ∙ ap document_of (reads_once part.bytes is.instances also.instances is.spelled also.spelled) ∙ sym also.rules.made

-- a part with a fault is no document
not_whole : (part : Part) (fault : PartFault) (document : Document) → HasFault part fault → IsWhole part document → ⊥
not_whole part (Mof refusal) document has whole = has.unspelled whole.instances whole.spelled
not_whole part (Doc refusal) document has whole =
    let same : has.0 ≡ whole.instances = reads_once part.bytes has.0 whole.instances has.1 whole.spelled in
    whole.rules.kept refusal has.3 (subst (λ (instances : List Instance). Applies instances refusal) same has.2.applies)

-- a part has at most one fault
fault_once : (part : Part) (one other : PartFault) → HasFault part one → HasFault part other → one ≡ other
fault_once part (Mof one) (Mof other) is also = ap Mof (refuses_once part.bytes one other is.caused also.caused is.refused also.refused)
fault_once part (Mof one) (Doc other) is also = absurd (is.unspelled also.0 also.1)
fault_once part (Doc one) (Mof other) is also = absurd (also.unspelled is.0 is.1)
fault_once part (Doc one) (Doc other) is also =
    let same : is.0 ≡ also.0 = reads_once part.bytes is.0 also.0 is.1 also.1 in
    ap Doc (one_wins also.0 one other (subst (λ (instances : List Instance). IsRefusal instances one) same is.2) also.2)

-- ---- the parts as one document

documents_once : (parts : List Part) (one other : List Document) → AllZip IsWhole parts one → AllZip IsWhole parts other → one ≡ other
documents_once [] [] [] is also = refl
documents_once [] [] (e ∷ other) is also = absurd also
documents_once [] (d ∷ one) other is also = absurd is
documents_once (part ∷ parts) [] other is also = absurd is
documents_once (part ∷ parts) (d ∷ one) [] is also = absurd also
documents_once (part ∷ parts) (d ∷ one) (e ∷ other) is also =
    let first : d ≡ e = whole_once part d e is.0 also.0 in
    let rest : one ≡ other = documents_once parts one other is.1 also.1 in
    cc

-- parts are joined to at most one document, whatever its resources are and depend on
pub joined_once : (parts : List Part) (one other : Document) → AreJoined parts one → AreJoined parts other → one ≡ other
joined_once parts one other is also =
    is.joined ∙ ap (joined parts) (documents_once parts is.documents also.documents is.whole also.whole) ∙ sym also.joined

pub parts_once : (parts : List Part) (one other : Document) → AreParts parts one → AreParts parts other → one ≡ other
parts_once parts one other is also = joined_once parts one other is.are_joined also.are_joined

-- parts that are joined have no fault
pub no_fault : (parts : List Part) (document : Document) (index : ℕ) (fault : PartFault) → AreJoined parts document → IsFirstFault parts index fault → ⊥
no_fault parts document index fault are first =
    go (slice_get parts index) (slice_get are.documents index) (AllZip-left IsWhole parts are.documents are.whole index) first.here
  where
    go : (o : Option Part) (found : Option Document) → MatchOption o (Unit {0}) (λ part. IsSomeAnd found (IsWhole part)) → IsSomeAnd o (λ part. HasFault part fault) → ⊥
    go None found whole has = absurd has
    go (Some part) None whole has = absurd whole
    go (Some part) (Some d) whole has = not_whole part fault d has whole

-- ---- the first fault

module _ (parts : List Part) where
  not_before : (i j : ℕ) (one other : PartFault) → IsFirstFault parts i one → IsFirstFault parts j other → i < j → ⊥
  not_before i j one other is also before = go (slice_get parts i) is.here (also.before i before)
    where
      go : (o : Option Part) → IsSomeAnd o (λ part. HasFault part one) → IsSomeAnd o (λ part. (document : Document) × IsWhole part document) → ⊥
      go None has whole = absurd has
      go (Some part) has whole = not_whole part one whole.0 has whole.1

  index_once : (i j : ℕ) (one other : PartFault) → IsFirstFault parts i one → IsFirstFault parts j other → i ≡ j
  index_once i j one other is also =
      ⊎_elim (λ same. same) (λ apart. absurd (⊎_elim (not_before i j one other is also) (not_before j i other one also is) apart)) (cases_order i j)

  first_fault_once : (i j : ℕ) (one other : PartFault) → IsFirstFault parts i one → IsFirstFault parts j other → one ≡ other
  first_fault_once i j one other is also =
      go (slice_get parts i) is.here
      (subst (λ (k : ℕ). IsSomeAnd (slice_get parts k) (λ part. HasFault part other)) (sym (index_once i j one other is also)) also.here)
    where
      go : (o : Option Part) → IsSomeAnd o (λ part. HasFault part one) → IsSomeAnd o (λ part. HasFault part other) → one ≡ other
      go None a b = absurd a
      go (Some part) a b = fault_once part one other a b

-- ---- names that repeat

-- of two pairs that are each the first, neither stands before the other
pub repeat_once : (name_at : ℕ → Option (List ℕ)) (i j k l : ℕ) → IsFirstRepeat name_at i j → IsFirstRepeat name_at k l → (i ≡ k) × (j ≡ l)
repeat_once name_at i j k l is also =
    let seconds : j ≡ l =
    ⊎_elim (λ same. same)
    (λ apart. absurd (⊎_elim (λ less. also.earliest i j (inl less) is.repeats) (λ more. is.earliest k l (inl more) also.repeats) apart)) (cases_order j l) in
    let firsts : i ≡ k =
    ⊎_elim (λ same. same)
    (λ apart. absurd (⊎_elim (λ less. also.earliest i j (inr (seconds, less)) is.repeats) (λ more. is.earliest k l (inr (sym seconds, more)) also.repeats) apart))
    (cases_order i k) in
    (firsts, seconds)

-- where names differ, none repeats
none_repeats : {A : Type 0} (name_of : A → List ℕ) (items : List A) (i j : ℕ) → AllPairs (λ a b. SameName (name_of a) (name_of b) → ⊥) items
    → ShareName (λ k. option_map name_of (slice_get items k)) i j → ⊥
none_repeats {A} name_of items i j differ shares = go (slice_get items i) (slice_get items j) refl refl
  where
    go : (o p : Option A) → slice_get items i ≡ o → slice_get items j ≡ p → ⊥
    go None p at_i at_j = none-some shares.1 (sym (ap (option_map name_of) at_i) ∙ shares.3)
    go (Some a) None at_i at_j = none-some shares.2 (sym (ap (option_map name_of) at_j) ∙ shares.4)
    go (Some a) (Some b) at_i at_j =
        let here : name_of a ≡ shares.1 = same_Some (name_of a) shares.1 (sym (ap (option_map name_of) at_i) ∙ shares.3) in
        let there : name_of b ≡ shares.2 = same_Some (name_of b) shares.2 (sym (ap (option_map name_of) at_j) ∙ shares.4) in
        let within : j < length items = slice_get_within items j b at_j in
        let is_a : slice_index_or items i a ≡ a = get_or_from_slice_get items i a a at_i in
        let is_b : slice_index_or items j a ≡ b = get_or_from_slice_get items j b a at_j in
        differ i j a shares.0 within (subst (λ (x : List ℕ). SameName x (name_of (slice_index_or items j a))) (sym here ∙ ap name_of (sym is_a)) (subst (λ (y : List ℕ). SameName shares.1 y) (sym there ∙ ap name_of (sym is_b)) shares.5))

-- ---- a reason that wins leaves no document for those after it

module _ (parts : List Part) where
  two_names : (i j : ℕ) → IsFirstRepeat (part_name_at parts) i j → NamesDiffer parts → ⊥
  two_names i j is differ = none_repeats (λ part. part.name) parts i j differ is.repeats

  pub too_many : (count : ℕ) → HasTooMany parts count → (document : Document) → AreJoined parts document → length document.resources ≤ MAX_RESOURCES → ⊥
  too_many count has document are few =
      let same : length has.document.resources ≡ length document.resources =
      ap (λ (d : Document). length d.resources) (joined_once parts has.document document has.are_joined are) in
      omega (arith, has.counted, has.many, same, few)

  pub same_ids : (first second : Spot) → HasSameIds parts first second → (document : Document) → AreParts parts document → ⊥
  same_ids first second has document are =
      none_repeats (λ (r : Resource). r.id) has.document.resources has.repeats.earlier has.repeats.later
      (subst HasDistinctIds (sym (joined_once parts has.document document has.are_joined are.are_joined)) are.ids) has.repeats.repeats.repeats

  -- where an id is unknown, no document of the parts depends on resources alone
  not_known : (document : Document) (spot : Spot) (name : List ℕ) → HasUnknown parts spot name → AreParts parts document → NamesResources document → ⊥
  not_known document spot name has are known =
      unknown_unknown has.document spot name has.unknown (subst NamesResources (parts_once parts document has.document are has.parts_are) known)

-- ---- one refusal of each kind

module _ (parts : List Part) where
  same_names : (i j k l : ℕ) → IsFirstRepeat (part_name_at parts) i j → IsFirstRepeat (part_name_at parts) k l → refusals.TwoNames i j ≡ refusals.TwoNames k l
  same_names i j k l is also = let same = repeat_once (part_name_at parts) i j k l is also in ap (λ n. refusals.TwoNames n j) same.0 ∙ ap (refusals.TwoNames k) same.1

  same_fault : (i j : ℕ) (one other : PartFault) → IsFirstFault parts i one → IsFirstFault parts j other → refusals.Part i one ≡ refusals.Part j other
  same_fault i j one other is also =
      let index : i ≡ j = index_once parts i j one other is also in
      let fault : one ≡ other = first_fault_once parts i j one other is also in
      cc

  same_count : (one other : ℕ) → HasTooMany parts one → HasTooMany parts other → refusals.TooMany one ≡ refusals.TooMany other
  same_count one other is also =
      let same : is.document ≡ also.document = joined_once parts is.document also.document is.are_joined also.are_joined in
      ap refusals.TooMany (is.counted ∙ ap (λ (d : Document). length d.resources) same ∙ sym also.counted)

  same_spots : (a b c d : Spot) → HasSameIds parts a b → HasSameIds parts c d → refusals.DuplicateId a b ≡ refusals.DuplicateId c d
  same_spots a b c d is also =
      let same : is.document ≡ also.document = joined_once parts is.document also.document is.are_joined also.are_joined in
      let here : IsFirstRepeatedId also.document.resources a b = subst (λ (x : Document). IsFirstRepeatedId x.resources a b) same is.repeats in
      let there : IsFirstRepeatedId also.document.resources c d = also.repeats in
      let places = repeat_once (id_at also.document.resources) here.earlier here.later there.earlier there.later here.repeats there.repeats in
      let first : a ≡ c = same_Some a c (sym here.first_is ∙ ap (spot_at also.document.resources) places.0 ∙ there.first_is) in
      let second : b ≡ d = same_Some b d (sym here.second_is ∙ ap (spot_at also.document.resources) places.1 ∙ there.second_is) in
      ap (λ x. refusals.DuplicateId x b) first ∙ ap (refusals.DuplicateId c) second

  same_unknown : (spot at : Spot) (name other : List ℕ) → HasUnknown parts spot name → HasUnknown parts at other
      → refusals.DependsUnknown spot name ≡ refusals.DependsUnknown at other
  same_unknown spot at name other is also =
      let same : is.document ≡ also.document = parts_once parts is.document also.document is.parts_are also.parts_are in
      let here : IsFirstUnknownId also.document spot name = subst (λ (d : Document). IsFirstUnknownId d spot name) same is.unknown in
      let where_is : spot ≡ at = one_spot also.document spot at name other here also.unknown in
      let what : name ≡ other = one_unknown also.document spot at name other here also.unknown in
      cc

  same_cycle : (cycle other : List ℕ) → HasCycle parts cycle → HasCycle parts other → refusals.Cycle cycle ≡ refusals.Cycle other
  same_cycle cycle other is also =
      let same : is.document ≡ also.document = parts_once parts is.document also.document is.parts_are also.parts_are in
      let here : IsCycleOfDocument also.document cycle = subst (λ (d : Document). IsCycleOfDocument d cycle) same is.leads_round in
      ap refusals.Cycle (cycles.one_cycle (length also.document.resources) (Names also.document) (names_one also.document also.parts_are.ids) cycle other here also.leads_round)

-- ---- the laws

module _ (parts : List Part) where
  pub one_document : AtMostOneDocument parts
  one_document one other is also = parts_once parts one other is.parts_are also.parts_are

  pub never_both : NeverBoth parts
  never_both document refusals.Memory caused merged refused = caused refl
  never_both document (refusals.TwoNames i j) caused merged refused = two_names parts i j refused merged.parts_are.are_joined.names
  never_both document (refusals.TooMany count) caused merged refused = too_many parts count refused document merged.parts_are.are_joined merged.parts_are.few
  never_both document (refusals.DuplicateId a b) caused merged refused = same_ids parts a b refused document merged.parts_are
  never_both document (refusals.Part index fault) caused merged refused = no_fault parts document index fault merged.parts_are.are_joined refused
  never_both document (refusals.DependsUnknown spot name) caused merged refused = not_known parts document spot name refused merged.parts_are merged.known
  never_both document (refusals.Cycle cycle) caused merged refused =
      let same : refused.document ≡ document = parts_once parts refused.document document refused.parts_are merged.parts_are in
      cycles.never_both (length document.resources) (Names document) merged.ordered.0 cycle merged.ordered.1
      (subst (λ (d : Document). IsCycleOfDocument d cycle) same refused.leads_round)

  pub one_refusal : AtMostOneRefusal parts
  one_refusal refusals.Memory other m n is also = absurd (m refl)
  one_refusal one refusals.Memory m n is also = absurd (n refl)
  one_refusal (refusals.TwoNames i j) (refusals.TwoNames k l) m n is also = same_names parts i j k l is also
  one_refusal (refusals.TwoNames i j) (refusals.Part at other) m n is also = absurd (two_names parts i j is also.names)
  one_refusal (refusals.TwoNames i j) (refusals.TooMany more) m n is also = absurd (two_names parts i j is also.are_joined.names)
  one_refusal (refusals.TwoNames i j) (refusals.DuplicateId c d) m n is also = absurd (two_names parts i j is also.are_joined.names)
  one_refusal (refusals.TwoNames i j) (refusals.DependsUnknown place word) m n is also = absurd (two_names parts i j is also.parts_are.are_joined.names)
  one_refusal (refusals.TwoNames i j) (refusals.Cycle walk) m n is also = absurd (two_names parts i j is also.parts_are.are_joined.names)
  one_refusal (refusals.Part index fault) (refusals.TwoNames k l) m n is also = absurd (two_names parts k l also is.names)
  one_refusal (refusals.Part index fault) (refusals.Part at other) m n is also = same_fault parts index at fault other is also
  one_refusal (refusals.Part index fault) (refusals.TooMany more) m n is also = absurd (no_fault parts also.document index fault also.are_joined is)
  one_refusal (refusals.Part index fault) (refusals.DuplicateId c d) m n is also = absurd (no_fault parts also.document index fault also.are_joined is)
  one_refusal (refusals.Part index fault) (refusals.DependsUnknown place word) m n is also = absurd (no_fault parts also.document index fault also.parts_are.are_joined is)
  one_refusal (refusals.Part index fault) (refusals.Cycle walk) m n is also = absurd (no_fault parts also.document index fault also.parts_are.are_joined is)
  one_refusal (refusals.TooMany count) (refusals.TwoNames k l) m n is also = absurd (two_names parts k l also is.are_joined.names)
  one_refusal (refusals.TooMany count) (refusals.Part at other) m n is also = absurd (no_fault parts is.document at other is.are_joined also)
  one_refusal (refusals.TooMany count) (refusals.TooMany more) m n is also = same_count parts count more is also
  one_refusal (refusals.TooMany count) (refusals.DuplicateId c d) m n is also = absurd (too_many parts count is also.document also.are_joined also.few)
  one_refusal (refusals.TooMany count) (refusals.DependsUnknown place word) m n is also = absurd (too_many parts count is also.document also.parts_are.are_joined also.parts_are.few)
  one_refusal (refusals.TooMany count) (refusals.Cycle walk) m n is also = absurd (too_many parts count is also.document also.parts_are.are_joined also.parts_are.few)
  one_refusal (refusals.DuplicateId a b) (refusals.TwoNames k l) m n is also = absurd (two_names parts k l also is.are_joined.names)
  one_refusal (refusals.DuplicateId a b) (refusals.Part at other) m n is also = absurd (no_fault parts is.document at other is.are_joined also)
  one_refusal (refusals.DuplicateId a b) (refusals.TooMany more) m n is also = absurd (too_many parts more also is.document is.are_joined is.few)
  one_refusal (refusals.DuplicateId a b) (refusals.DuplicateId c d) m n is also = same_spots parts a b c d is also
  one_refusal (refusals.DuplicateId a b) (refusals.DependsUnknown place word) m n is also = absurd (same_ids parts a b is also.document also.parts_are)
  one_refusal (refusals.DuplicateId a b) (refusals.Cycle walk) m n is also = absurd (same_ids parts a b is also.document also.parts_are)
  one_refusal (refusals.DependsUnknown spot name) (refusals.TwoNames k l) m n is also = absurd (two_names parts k l also is.parts_are.are_joined.names)
  one_refusal (refusals.DependsUnknown spot name) (refusals.Part at other) m n is also = absurd (no_fault parts is.document at other is.parts_are.are_joined also)
  one_refusal (refusals.DependsUnknown spot name) (refusals.TooMany more) m n is also = absurd (too_many parts more also is.document is.parts_are.are_joined is.parts_are.few)
  one_refusal (refusals.DependsUnknown spot name) (refusals.DuplicateId c d) m n is also = absurd (same_ids parts c d also is.document is.parts_are)
  one_refusal (refusals.DependsUnknown spot name) (refusals.DependsUnknown place word) m n is also = same_unknown parts spot place name word is also
  one_refusal (refusals.DependsUnknown spot name) (refusals.Cycle walk) m n is also = absurd (not_known parts also.document spot name is also.parts_are also.known)
  one_refusal (refusals.Cycle cycle) (refusals.TwoNames k l) m n is also = absurd (two_names parts k l also is.parts_are.are_joined.names)
  one_refusal (refusals.Cycle cycle) (refusals.Part at other) m n is also = absurd (no_fault parts is.document at other is.parts_are.are_joined also)
  one_refusal (refusals.Cycle cycle) (refusals.TooMany more) m n is also = absurd (too_many parts more also is.document is.parts_are.are_joined is.parts_are.few)
  one_refusal (refusals.Cycle cycle) (refusals.DuplicateId c d) m n is also = absurd (same_ids parts c d also is.document is.parts_are)
  one_refusal (refusals.Cycle cycle) (refusals.DependsUnknown place word) m n is also = absurd (not_known parts is.document place word also is.parts_are is.known)
  one_refusal (refusals.Cycle cycle) (refusals.Cycle walk) m n is also = same_cycle parts cycle walk is also
