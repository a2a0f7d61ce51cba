-- Lists that bodies named by digests.
use Rattle.std.proofs.Common.{◌≡◌, inl, inr, ℕ, List, [], ◌∷◌, ◌++◌, Result, Ok, Err, refl, sym, ap, ◌∙◌, subst}
use Rattle.std.specs.Prelude.{OnOk}
use Rattle.partial_merge.specs.declared.part.Part.{Part}
use Rattle.gate_log.specs.declared.replay.TakeError.{TakeError}
use Rattle.gate_log.specs.declared.replay.TakeError.TheVariants.{Refused as NotTaken, Memory}
use Rattle.gate_log.specs.Replay.{Taken}
use Rattle.node_state.specs.Lists.{IsStaged}
use Rattle.node_store.specs.declared.known_list.KnownList.{KnownList}
use Rattle.node_store.specs.Digests.{Blobs}
use Rattle.node_store.specs.Known.{AddsKnown, AreKnown, IsKnownAs, IsListed}
use Rattle.node_store.specs.Parts.{AreParts}
use Rattle.node_store.specs.Resolving.{AreAmong, AreNamedBy, after_kind}
use Rattle.node_store.specs.Taking.{TookBlob}
use Rattle.node_store.proofs.Lacking.{among-more}

-- one of them has what all have
listed_has : (blobs : Blobs) (lists : List KnownList) (list : KnownList) → AreKnown blobs lists → IsListed lists list → AreParts list.parts × AreAmong blobs list.parts
listed_has blobs (first ∷ others) list all (inl is) = subst (λ (l : KnownList). AreParts l.parts × AreAmong blobs l.parts) (sym is) all.0
listed_has blobs (first ∷ others) list all (inr more) = listed_has blobs others list all.1 more
listed_has blobs [] list all never = absurd never

module _ (blobs : Blobs) (lists : List KnownList) (body : List ℕ) (parts : List Part) (all : AreKnown blobs lists) (known : IsKnownAs lists body parts) where
  pub known_staged : IsStaged parts
  known_staged = subst (λ (l : List Part). IsStaged l) (sym known.is) known.list.staged

  pub known_named : AreNamedBy blobs (after_kind body) parts
  known_named =
      subst (λ (l : List Part). AreNamedBy blobs (after_kind body) l) (sym known.is)
      (record { ranges = (listed_has blobs lists known.list all known.listed).0; among = (listed_has blobs lists known.list all known.listed).1; is = ap (λ (l : List ℕ). after_kind l) (known.named ∙ known.list.is) })

-- with more Blobs they are known all the same
more_among : (blobs more : Blobs) (parts : List Part) → AreAmong blobs parts → AreAmong (blobs ++ more) parts
more_among blobs more [] all = tt
more_among blobs more (part ∷ parts) all = (among-more blobs more part.bytes all.0, more_among blobs more parts all.1)

more_known : (blobs more : Blobs) (lists : List KnownList) → AreKnown blobs lists → AreKnown (blobs ++ more) lists
more_known blobs more [] all = tt
more_known blobs more (list ∷ lists) all = ((all.0.0, more_among blobs more list.parts all.0.1), more_known blobs more lists all.1)

pub known_after_blob : {T : Type 0} (blobs new : Blobs) (body : List ℕ) (lists : List KnownList) → AreKnown blobs lists → (result : Result T TakeError) → TookBlob blobs body new result → OnOk result (AreKnown new lists)
known_after_blob blobs new body lists all (Ok v) added = subst (λ (b : Blobs). AreKnown b lists) (sym added.adds) (more_known blobs (added.bytes ∷ []) lists all)
known_after_blob blobs new body lists all (Err e) took = tt

-- one list more
all_push : (blobs : Blobs) (lists : List KnownList) (list : KnownList) → AreKnown blobs lists → AreParts list.parts × AreAmong blobs list.parts → AreKnown blobs (lists ++ list ∷ [])
all_push blobs [] list all one = (one, tt)
all_push blobs (first ∷ lists) list all one = (all.0, all_push blobs lists list all.1 one)

pub known_more : (blobs : Blobs) (old new : List KnownList) (parts : List Part) → AreKnown blobs old → AreParts parts × AreAmong blobs parts → AddsKnown old parts new → AreKnown blobs new
known_more blobs old new parts all among adds =
    subst (λ (l : List KnownList). AreKnown blobs l) (sym adds.adds) (all_push blobs old adds.list all (subst (λ (l : List Part). AreParts l × AreAmong blobs l) (sym adds.is) among))

-- ---- a search

pub record SearchedLists (lists left : List KnownList) : Type 0 where
  pub of : (list : KnownList) → IsListed left list → IsListed lists list

pub searched_none : (lists : List KnownList) → SearchedLists lists lists
searched_none lists = record { of = λ list listed. listed }

pub searched_more : (lists left rest : List KnownList) (list : KnownList) → left ≡ list ∷ rest → SearchedLists lists left → SearchedLists lists rest
searched_more lists left rest list is so_far = record { of = λ other listed. so_far.of other (subst (λ (l : List KnownList). IsListed l other) (sym is) (inr listed)) }

pub searched_found : (lists left rest : List KnownList) (list : KnownList) → left ≡ list ∷ rest → SearchedLists lists left → IsListed lists list
searched_found lists left rest list is so_far = so_far.of list (subst (λ (l : List KnownList). IsListed l list) (sym is) (inl refl))

-- ---- what was taken

pub taken_both : {T : Type 0} (K : Type 0) (Took : List (List ℕ) → Type 0) (Refused : List (List ℕ) → List ℕ → Type 0) (bodies : List (List ℕ)) (body : List ℕ) (result : Result T TakeError) → Taken Took Refused bodies body result → OnOk result K
    → Taken (λ l. Took l × K) Refused bodies body result
taken_both K Took Refused bodies body (Ok v) took known = (took, known)
taken_both K Took Refused bodies body (Err NotTaken) refused known = refused
taken_both K Took Refused bodies body (Err Memory) took known = tt
