-- Marks that are resolved to parts, one after the other.
use Rattle.std.proofs.Common.{◌≡◌, ◌≤◌, inl, inr, true, false, ℕ, List, [], ◌∷◌, ◌++◌, map, length, refl, sym, ap, ◌∙◌, subst, arith, append_assoc}
use Rattle.std.specs.Prelude.{◌≢◌}
use Rattle.std.specs.List.{AllByRecursion}
use Rattle.std.proofs.lemmas.List.{append-nil, length-map, map-append}
use Rattle.sha2.specs.Sha256.{sha256}
use Rattle.store_fields.specs.Fields.{IsBlob, IsDigest, IsList, IsText}
use Rattle.store_fields.specs.declared.limits.TheConstants.{MAX_TEXT}
use Rattle.store_fields.proofs.Listed.{list_unique}
use Rattle.partial_merge.specs.declared.part.Part.{Part}
use Rattle.report_log.specs.declared.report.PartMark.{PartMark}
use Rattle.node_state.specs.declared.event.Event.TheVariants as events
use Rattle.node_state.specs.declared.event.Stage.{Stage}
use Rattle.node_state.specs.declared.list.Staged.{Staged}
use Rattle.node_state.specs.declared.piece.Piece.TheVariants as pieces
use Rattle.node_state.specs.Lists.{IsStaged}
use Rattle.node_state.specs.StagedParts.{parts_of}
use Rattle.node_store.specs.declared.body.Body.{Body}
use Rattle.node_store.specs.declared.body.Body.TheVariants as kinds
use Rattle.node_store.specs.Bodies.{bytes_of_stage, IsBody, IsWhole}
use Rattle.node_store.specs.Digests.{Blobs, IsAmong, Says, SaysStage, bytes_of_marks, is_plain, kind_of, mark_of}
use Rattle.node_store.specs.Parts.{AreParts, bytes_of_parts, IsPart}
use Rattle.node_store.specs.Reports.{bytes_of_mark, IsMark}
use Rattle.node_store.specs.Resolving.{AreAmong, AreNamedBy, HasNone, HaveNone, NamesPart, NamesParts, SaysBody, after_kind}
use Rattle.node_store.specs.Taking.{Apart}
use Rattle.node_store.proofs.ByKind.{Parts as StagedParts, Slotted, of_kind}
use Rattle.node_store.proofs.Heads.{stage_unique}
use Rattle.node_store.proofs.OneBody.{parts_unique}
use Rattle.node_store.proofs.Reported.{mark_unique}
use Rattle.node_store.proofs.Unfolded.{are_marks, first_or, same_parts}
use Rattle.node_store.proofs.Wholes.{one_whole}

-- a body of a kind begins with it
pub by_kind : (body : List ℕ) (kind : ℕ) → kind_of body ≡ kind → 1 ≤ kind → body ≡ kind ∷ after_kind body
by_kind [] kind is some = absurd (omega (arith, is, some))
by_kind (first ∷ rest) kind is some = ap (λ (k : ℕ). k ∷ rest) is

-- ---- one part

module _ (blobs : Blobs) (mark : PartMark) where
  pub no_part : ((bytes : List ℕ) → IsAmong blobs bytes → sha256 bytes ≢ mark.digest) → HasNone blobs mark
  no_part none = λ part marked among. none part.bytes among (sym part.whole ∙ ap (λ (m : PartMark). m.digest) marked)

  pub found_part : (part : Part) (bytes : List ℕ) → part.name ≡ mark.name → part.digest ≡ mark.digest → part.bytes ≡ bytes → IsMark mark → IsAmong blobs bytes → IsBlob bytes → NamesPart blobs mark part
  found_part part bytes name digest same range among small = record {
    marked = λ i. record { name = name i; digest = digest i };
    range = (subst (λ n. IsText MAX_TEXT n) (sym name) range.0, subst (λ d. IsDigest d) (sym digest) range.1, subst (λ (b : List ℕ). IsBlob b) (sym same) small);
    among = subst (λ (b : List ℕ). IsAmong blobs b) (sym same) among;
  }

-- ---- parts, one after the other

all_push : {X : Type 0} (P : X → Type 0) (xs : List X) (x : X) → AllByRecursion P xs → P x → AllByRecursion P (xs ++ x ∷ [])
all_push P [] x all one = (one, tt)
all_push P (y ∷ xs) x all one = (all.0, all_push P xs x all.1 one)

-- the first of the marks are those of these parts
pub record NamedSoFar (blobs : Blobs) (marks left : List PartMark) (parts : List Part) : Type 0 where
  pub split : marks ≡ map mark_of parts ++ left
  pub ranges : AllByRecursion IsPart parts
  pub among : AreAmong blobs parts
  pub rest : AllByRecursion IsMark left

pub named_none : (blobs : Blobs) (marks : List PartMark) → AllByRecursion IsMark marks → NamedSoFar blobs marks marks []
named_none blobs marks all = record { split = refl; ranges = tt; among = tt; rest = all }

-- marks that begin with others and this one
at_mark : (blobs : Blobs) (front rest : List PartMark) (mark : PartMark) (parts : List Part) → map mark_of parts ≡ front ++ mark ∷ rest → AreAmong blobs parts → HasNone blobs mark → ⊥
at_mark blobs [] rest mark [] is among none = cc is
at_mark blobs [] rest mark (part ∷ parts) is among none = none part (ap (λ (l : List PartMark). first_or mark l) is) among.0
at_mark blobs (first ∷ front) rest mark [] is among none = cc is
at_mark blobs (first ∷ front) rest mark (part ∷ parts) is among none = at_mark blobs front rest mark parts (ap (λ (l : List PartMark). after_kind l) is) among.1 none

module _ (blobs : Blobs) (marks left : List PartMark) (parts : List Part) (so_far : NamedSoFar blobs marks left parts) where
  module _ (mark : PartMark) (rest : List PartMark) (is : left ≡ mark ∷ rest) where
    pub next_mark : IsMark mark
    next_mark = (subst (λ (l : List PartMark). AllByRecursion IsMark l) is so_far.rest).0

    pub named_more : (part : Part) → NamesPart blobs mark part → NamedSoFar blobs marks rest (parts ++ part ∷ [])
    named_more part one = record {
      split = so_far.split ∙ ap (λ (l : List PartMark). map mark_of parts ++ l) (is ∙ ap (λ (m : PartMark). m ∷ rest) (sym one.marked)) ∙ sym (append_assoc (map mark_of parts) (mark_of part ∷ []) rest)
          ∙ ap (λ (l : List PartMark). l ++ rest) (sym (map-append mark_of parts (part ∷ [])));
      ranges = all_push IsPart parts part so_far.ranges one.range;
      among = all_push (λ (p : Part). IsAmong blobs p.bytes) parts part so_far.among one.among;
      rest = (subst (λ (l : List PartMark). AllByRecursion IsMark l) is so_far.rest).1;
    }

    pub named_no_more : HasNone blobs mark → HaveNone blobs marks
    named_no_more none = λ others marked among.
        at_mark blobs (map mark_of parts) rest mark others (marked ∙ so_far.split ∙ ap (λ (l : List PartMark). map mark_of parts ++ l) is) among none

  pub named_all : left ≡ [] → NamesParts blobs marks parts
  named_all is = record {
    marked = sym (so_far.split ∙ ap (λ (l : List PartMark). map mark_of parts ++ l) is ∙ append-nil (map mark_of parts));
    ranges = so_far.ranges;
    among = so_far.among;
  }

-- ---- marks with their count

module _ (blobs : Blobs) (bytes : List ℕ) (marks : List PartMark) (whole : IsWhole bytes_of_marks (IsList IsMark) bytes marks) where
  pub marks_are : (parts : List Part) → AreNamedBy blobs bytes parts → map mark_of parts ≡ marks
  marks_are parts r =
      one_whole bytes_of_marks (IsList IsMark) (list_unique bytes_of_mark IsMark mark_unique) bytes (map mark_of parts) marks (record { in_range = are_marks parts r.ranges; is = r.is }) whole

  pub have_none : HaveNone blobs marks → (parts : List Part) → AreNamedBy blobs bytes parts → ⊥
  have_none none parts r = none parts (marks_are parts r) r.among

  pub are_named : (parts : List Part) → NamesParts blobs marks parts → AreNamedBy blobs bytes parts
  are_named parts all =
      let count : length parts ≡ length marks = sym (length-map parts mark_of) ∙ ap (λ (l : List PartMark). length l) all.marked in
      record { ranges = (omega (arith, count, whole.in_range.0), all.ranges); among = all.among; is = whole.is ∙ ap bytes_of_marks (sym all.marked) }

  -- they name one list
  pub named_one : (parts others : List Part) → Apart blobs → NamesParts blobs marks parts → AreNamedBy blobs bytes others → others ≡ parts
  named_one parts others apart all r = same_parts blobs apart others parts r.among all.among (marks_are others r ∙ sym all.marked)

-- the bytes are no marks
pub no_marks : (blobs : Blobs) (bytes : List ℕ) → ((marks : List PartMark) → IsWhole bytes_of_marks (IsList IsMark) bytes marks → ⊥) → (parts : List Part) → AreNamedBy blobs bytes parts → ⊥
no_marks blobs bytes none parts r = none (map mark_of parts) (record { in_range = are_marks parts r.ranges; is = r.is })

-- ---- bodies

module _ (blobs : Blobs) (body : List ℕ) where
  says_stage : (parts : List Part) → kind_of body ≡ 17 → AreNamedBy blobs (after_kind body) parts → SaysStage blobs body (4 ∷ bytes_of_parts parts)
  says_stage parts kind r = record {
    marks = after_kind body;
    parts = bytes_of_parts parts;
    is = by_kind body 17 kind (omega arith);
    resolves = record { parts = parts; ranges = r.ranges; among = r.among; is = r.is; says = refl };
    says = refl;
  }

  pub stage_said : (staged : Staged) → kind_of body ≡ 17 → AreNamedBy blobs (after_kind body) (parts_of staged) → SaysBody blobs body (kinds.Event (events.Stage staged))
  stage_said staged kind r = record { full = 4 ∷ bytes_of_parts (parts_of staged); says = inl (says_stage (parts_of staged) kind r); is = (refl, r.ranges, tt) }

  -- what it says is the body of a Stage
  pub no_stage_said : kind_of body ≡ 17 → ((parts : List Part) → IsStaged parts → AreNamedBy blobs (after_kind body) parts → ⊥) → (of : Body) → SaysBody blobs body of → ⊥
  no_stage_said kind none of said = by said.full said.says said.is
    where
      by : (full : List ℕ) → Says blobs body full → IsBody full of → ⊥
      by full (inl s) is =
          let p : StagedParts s.parts of = of_kind 4 s.parts of (subst (λ (l : List ℕ). IsBody l of) s.says is) in
          let r = s.resolves in
          let same = parts_unique s.parts (parts_of p.0) r.parts p.1.0 (record { in_range = r.ranges; is = r.says }) in
          none r.parts (subst (λ (l : List Part). IsStaged l) same p.0.whole) (record { ranges = r.ranges; among = r.among; is = ap (λ (l : List ℕ). after_kind l) s.is ∙ r.is })
      by full (inr (inl s)) is = let k : kind_of body ≡ 18 = ap kind_of s.is in omega (arith, k, kind)
      by full (inr (inr s)) is = let no : false ≡ true = ap is_plain (sym kind) ∙ s.plain in cc no

  module _ (stage : Stage) (marks : List ℕ) (is : after_kind body ≡ bytes_of_stage stage ++ marks) where
    pub slot_said : (parts : List Part) → kind_of body ≡ 18 → IsStaged parts → AreNamedBy blobs marks parts → SaysBody blobs body (kinds.Piece (pieces.Slot stage parts))
    slot_said parts kind staged r = record {
      full = 13 ∷ (bytes_of_stage stage ++ bytes_of_parts parts);
      says = inr (inl (record {
        stage = stage;
        marks = marks;
        parts = bytes_of_parts parts;
        is = by_kind body 18 kind (omega arith) ∙ ap (λ (l : List ℕ). 18 ∷ l) is;
        resolves = record { parts = parts; ranges = r.ranges; among = r.among; is = r.is; says = refl };
        says = refl;
      }));
      is = (refl, (r.ranges, staged), staged);
    }

    -- what it says is the body of a Slot
    pub no_slot_said : kind_of body ≡ 18 → ((other : Stage) (rest : List ℕ) → after_kind body ≡ bytes_of_stage other ++ rest → marks ≡ rest) → ((parts : List Part) → IsStaged parts → AreNamedBy blobs marks parts → ⊥) → (of : Body) → SaysBody blobs body of → ⊥
    no_slot_said kind only none of said = by said.full said.says said.is
      where
        by : (full : List ℕ) → Says blobs body full → IsBody full of → ⊥
        by full (inl s) whole = let k : kind_of body ≡ 17 = ap kind_of s.is in omega (arith, k, kind)
        by full (inr (inl s)) whole =
            let p : Slotted (bytes_of_stage s.stage ++ s.parts) of = of_kind 13 (bytes_of_stage s.stage ++ s.parts) of (subst (λ (l : List ℕ). IsBody l of) s.says whole) in
            let r = s.resolves in
            let more = (stage_unique s.stage p.0 s.parts p.1.1.0 tt tt p.1.1.1.0).1 in
            let same = parts_unique s.parts p.1.0 r.parts (subst (λ (l : List ℕ). IsWhole bytes_of_parts AreParts l p.1.0) (sym more) p.1.1.1.1.1.0) (record { in_range = r.ranges; is = r.says }) in
            let here = only s.stage s.marks (ap (λ (l : List ℕ). after_kind l) s.is) in
            none r.parts (subst (λ (l : List Part). IsStaged l) same p.1.1.1.1.0) (record { ranges = r.ranges; among = r.among; is = here ∙ r.is })
        by full (inr (inr s)) whole = let no : false ≡ true = ap is_plain (sym kind) ∙ s.plain in cc no

-- it is no Slot
pub no_slot_body : (blobs : Blobs) (body : List ℕ) → kind_of body ≡ 18 → ((stage : Stage) (rest : List ℕ) → after_kind body ≡ bytes_of_stage stage ++ rest → ⊥) → (of : Body) → SaysBody blobs body of → ⊥
no_slot_body blobs body kind none of said = by said.full said.says
  where
    by : (full : List ℕ) → Says blobs body full → ⊥
    by full (inl s) = let k : kind_of body ≡ 17 = ap kind_of s.is in omega (arith, k, kind)
    by full (inr (inl s)) = none s.stage s.marks (ap (λ (l : List ℕ). after_kind l) s.is)
    by full (inr (inr s)) = let no : false ≡ true = ap is_plain (sym kind) ∙ s.plain in cc no
