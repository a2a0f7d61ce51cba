-- Bodies of format 2, one after the other: what they say in full is one.
use Rattle.std.proofs.Common.{◌≡◌, ◌⊎◌, inl, inr, ℕ, true, false, List, [], ◌∷◌, ◌++◌, map, refl, sym, ap, ◌∙◌, subst, arith, append_assoc}
use Rattle.std.specs.List.{AllByRecursion}
use Rattle.std.proofs.lemmas.List.{append-nil, length-map}
use Rattle.sha2.specs.Sha256.{sha256}
use Rattle.sha2.proofs.Facts256.{length-sha256}
use Rattle.store_fields.specs.Fields.{IsList}
use Rattle.store_fields.proofs.Listed.{list_unique}
use Rattle.store_fields.proofs.Numbers.{digest_unique}
use Rattle.partial_merge.specs.declared.part.Part.{Part}
use Rattle.partial_merge.proofs.SameParts.{part_same}
use Rattle.report_log.specs.declared.report.PartMark.{PartMark}
use Rattle.node_store.specs.Bodies.{bytes_of_stage}
use Rattle.node_store.specs.Digests.{AddsBlob, Blobs, IsAmong, IsNew, Resolves, Says, SaysItself, SaysSlot, SaysStage, Tells, Told, Unfolds, bytes_of_marks, is_plain, kind_of, mark_of}
use Rattle.node_store.specs.Resolving.{after_kind}
use Rattle.node_store.specs.Taking.{Apart}
use Rattle.node_store.specs.Parts.{bytes_of_parts, AreParts, IsPart}
use Rattle.node_store.specs.Reports.{bytes_of_mark, IsMark}
use Rattle.node_store.proofs.Heads.{stage_unique}
use Rattle.node_store.proofs.Reported.{mark_unique}
use Rattle.node_store.proofs.Wholes.{one_whole}

abbrev pub first_or : {X : Type 0} → X → List X → X
first_or first [] = first
first_or first (x ∷ xs) = x

-- ---- the Blobs: no two of them have one digest

pub among-push : (blobs : Blobs) (bytes one : List ℕ) → IsAmong (blobs ++ bytes ∷ []) one → IsAmong blobs one ⊎ (one ≡ bytes)
among-push [] bytes one (inl is) = inr is
among-push [] bytes one (inr none) = absurd none
among-push (first ∷ blobs) bytes one (inl is) = inl (inl is)
among-push (first ∷ blobs) bytes one (inr among) = by (among-push blobs bytes one among)
  where
    by : IsAmong blobs one ⊎ (one ≡ bytes) → IsAmong (first ∷ blobs) one ⊎ (one ≡ bytes)
    by (inl more) = inl (inr more)
    by (inr is) = inr is

pub apart-push : (blobs : Blobs) (bytes : List ℕ) → Apart blobs → IsNew blobs bytes → Apart (blobs ++ bytes ∷ [])
apart-push blobs bytes apart new one other p q same = by (among-push blobs bytes one p) (among-push blobs bytes other q)
  where
    by : IsAmong blobs one ⊎ (one ≡ bytes) → IsAmong blobs other ⊎ (other ≡ bytes) → one ≡ other
    by (inl x) (inl y) = apart one other x y same
    by (inl x) (inr y) = absurd (new one x (same ∙ ap sha256 y))
    by (inr x) (inl y) = absurd (new other y (sym same ∙ ap sha256 x))
    by (inr x) (inr y) = x ∙ sym y

-- ---- what a body says

marks_in_range : (parts : List Part) → AllByRecursion IsPart parts → AllByRecursion IsMark (map mark_of parts)
marks_in_range [] ranges = tt
marks_in_range (part ∷ parts) ranges = ((ranges.0.0, ranges.0.1), marks_in_range parts ranges.1)

pub are_marks : (parts : List Part) → AreParts parts → IsList IsMark (map mark_of parts)
are_marks parts ranges = (omega (arith, ranges.0, length-map parts mark_of), marks_in_range parts ranges.1)

pub same_parts : (blobs : Blobs) → Apart blobs → (xs ys : List Part) → AllByRecursion (λ (part : Part). IsAmong blobs part.bytes) xs → AllByRecursion (λ (part : Part). IsAmong blobs part.bytes) ys → map mark_of xs ≡ map mark_of ys → xs ≡ ys
same_parts blobs apart [] [] one other is = refl
same_parts blobs apart [] (y ∷ ys) one other is = absurd (cc is)
same_parts blobs apart (x ∷ xs) [] one other is = absurd (cc is)
same_parts blobs apart (x ∷ xs) (y ∷ ys) one other is =
    let mark : mark_of x ≡ mark_of y = ap (λ (l : List PartMark). first_or (mark_of x) l) is in
    let digest = ap (λ (m : PartMark). m.digest) mark in
    let bytes = apart x.bytes y.bytes one.0 other.0 (sym x.whole ∙ digest ∙ y.whole) in
    let part = part_same x y (ap (λ (m : PartMark). m.name) mark) digest bytes in
    let more = same_parts blobs apart xs ys one.1 other.1 (ap (λ (l : List PartMark). after_kind l) is) in
    λ i. part i ∷ more i

pub resolved_parts : (blobs : Blobs) (marks a b : List ℕ) → Apart blobs → (p : Resolves blobs marks a) (q : Resolves blobs marks b) → p.parts ≡ q.parts
resolved_parts blobs marks a b apart p q =
    same_parts blobs apart p.parts q.parts p.among q.among
    (one_whole bytes_of_marks (IsList IsMark) (list_unique bytes_of_mark IsMark mark_unique) marks (map mark_of p.parts) (map mark_of q.parts)
    (record { in_range = are_marks p.parts p.ranges; is = p.is }) (record { in_range = are_marks q.parts q.ranges; is = q.is }))

pub resolves_one : (blobs : Blobs) (marks a b : List ℕ) → Apart blobs → Resolves blobs marks a → Resolves blobs marks b → a ≡ b
resolves_one blobs marks a b apart p q = p.says ∙ ap bytes_of_parts (resolved_parts blobs marks a b apart p q) ∙ sym q.says

module _ (blobs : Blobs) (body : List ℕ) where
  stage_says_one : (a b : List ℕ) → Apart blobs → SaysStage blobs body a → SaysStage blobs body b → a ≡ b
  stage_says_one a b apart p q =
      let marks : p.marks ≡ q.marks = ap (λ (l : List ℕ). after_kind l) (sym p.is ∙ q.is) in
      let parts = resolves_one blobs q.marks p.parts q.parts apart (subst (λ (l : List ℕ). Resolves blobs l p.parts) marks p.resolves) q.resolves in
      p.says ∙ ap (λ (l : List ℕ). 4 ∷ l) parts ∙ sym q.says

  slot_says_one : (a b : List ℕ) → Apart blobs → SaysSlot blobs body a → SaysSlot blobs body b → a ≡ b
  slot_says_one a b apart p q =
      let rest : bytes_of_stage p.stage ++ p.marks ≡ bytes_of_stage q.stage ++ q.marks = ap (λ (l : List ℕ). after_kind l) (sym p.is ∙ q.is) in
      let both = stage_unique p.stage q.stage p.marks q.marks tt tt rest in
      let parts = resolves_one blobs q.marks p.parts q.parts apart (subst (λ (l : List ℕ). Resolves blobs l p.parts) both.1 p.resolves) q.resolves in
      p.says ∙ (λ i. 13 ∷ (bytes_of_stage (both.0 i) ++ parts i)) ∙ sym q.says

  stage_or_slot : (a b : List ℕ) → SaysStage blobs body a → SaysSlot blobs body b → ⊥
  stage_or_slot a b p q = omega (arith, ap kind_of (sym p.is ∙ q.is))

  stage_not_plain : (a b : List ℕ) → SaysStage blobs body a → SaysItself body b → ⊥
  stage_not_plain a b p q = let no : false ≡ true = sym (ap (λ (l : List ℕ). is_plain (kind_of l)) p.is) ∙ q.plain in cc no

  slot_not_plain : (a b : List ℕ) → SaysSlot blobs body a → SaysItself body b → ⊥
  slot_not_plain a b p q = let no : false ≡ true = sym (ap (λ (l : List ℕ). is_plain (kind_of l)) p.is) ∙ q.plain in cc no

  pub says_one : (a b : List ℕ) → Apart blobs → Says blobs body a → Says blobs body b → a ≡ b
  says_one a b apart (inl p) (inl q) = stage_says_one a b apart p q
  says_one a b apart (inl p) (inr (inl q)) = absurd (stage_or_slot a b p q)
  says_one a b apart (inl p) (inr (inr q)) = absurd (stage_not_plain a b p q)
  says_one a b apart (inr (inl p)) (inl q) = absurd (stage_or_slot b a q p)
  says_one a b apart (inr (inl p)) (inr (inl q)) = slot_says_one a b apart p q
  says_one a b apart (inr (inl p)) (inr (inr q)) = absurd (slot_not_plain a b p q)
  says_one a b apart (inr (inr p)) (inl q) = absurd (stage_not_plain b a q p)
  says_one a b apart (inr (inr p)) (inr (inl q)) = absurd (slot_not_plain b a q p)
  says_one a b apart (inr (inr p)) (inr (inr q)) = p.says ∙ sym q.says

  pub blob_one : (a b : Blobs) → AddsBlob blobs body a → AddsBlob blobs body b → a ≡ b
  blob_one a b p q =
      let rest : sha256 p.bytes ++ p.bytes ≡ sha256 q.bytes ++ q.bytes = ap (λ (l : List ℕ). after_kind l) (sym p.is ∙ q.is) in
      let same = (digest_unique (sha256 p.bytes) (sha256 q.bytes) p.bytes q.bytes (length-sha256 p.bytes) (length-sha256 q.bytes) rest).1 in
      p.adds ∙ ap (λ (l : List ℕ). blobs ++ l ∷ []) same ∙ sym q.adds

  -- a Blob says nothing
  pub blob_says_none : (after : Blobs) (full : List ℕ) → AddsBlob blobs body after → Says blobs body full → ⊥
  blob_says_none after full p (inl q) = omega (arith, ap kind_of (sym p.is ∙ q.is))
  blob_says_none after full p (inr (inl q)) = omega (arith, ap kind_of (sym p.is ∙ q.is))
  blob_says_none after full p (inr (inr q)) = let no : false ≡ true = sym (ap (λ (l : List ℕ). is_plain (kind_of l)) p.is) ∙ q.plain in cc no

-- ---- one body after the other

told_same : (a b : Told) → a.blobs ≡ b.blobs → a.said ≡ b.said → a ≡ b
told_same a b blobs said = λ i. record { blobs = blobs i; said = said i }

tells_one : (old a b : Told) (body : List ℕ) → Apart old.blobs → Tells old body a → Tells old body b → a ≡ b
tells_one old a b body apart (inl p) (inl q) = told_same a b (blob_one old.blobs body a.blobs b.blobs p.blob q.blob) (p.same ∙ sym q.same)
tells_one old a b body apart (inl p) (inr q) = absurd (blob_says_none old.blobs body a.blobs q.full p.blob q.says)
tells_one old a b body apart (inr p) (inl q) = absurd (blob_says_none old.blobs body b.blobs p.full q.blob p.says)
tells_one old a b body apart (inr p) (inr q) =
    told_same a b (p.same ∙ sym q.same) (p.more ∙ ap (λ (l : List ℕ). old.said ++ l ∷ []) (says_one old.blobs body p.full q.full apart p.says q.says) ∙ sym q.more)

tells_apart : (old new : Told) (body : List ℕ) → Apart old.blobs → Tells old body new → Apart new.blobs
tells_apart old new body apart (inl p) = subst (λ (l : Blobs). Apart l) (sym p.blob.adds) (apart-push old.blobs p.blob.bytes apart p.blob.new)
tells_apart old new body apart (inr p) = subst (λ (l : Blobs). Apart l) (sym p.same) apart

pub none_apart : Apart []
none_apart one other p q same = absurd p

pub unfolds_apart : (bodies : List (List ℕ)) (old new : Told) → Apart old.blobs → Unfolds old bodies new → Apart new.blobs
unfolds_apart [] old new apart is = subst (λ (t : Told). Apart t.blobs) (sym is) apart
unfolds_apart (body ∷ bodies) old new apart (mid, tells, more) = unfolds_apart bodies mid new (tells_apart old mid body apart tells) more

pub unfolds_one : (bodies : List (List ℕ)) (old a b : Told) → Apart old.blobs → Unfolds old bodies a → Unfolds old bodies b → a ≡ b
unfolds_one [] old a b apart p q = p ∙ sym q
unfolds_one (body ∷ bodies) old a b apart (m, t, more) (n, u, rest) =
    unfolds_one bodies m a b (tells_apart old m body apart t) more (subst (λ (k : Told). Unfolds k bodies b) (tells_one old n m body apart u t) rest)

-- the last body, after the others
pub unfolds_last : (bodies : List (List ℕ)) (body : List ℕ) (old new : Told) → Unfolds old (bodies ++ body ∷ []) new → (mid : Told) × Unfolds old bodies mid × Tells mid body new
unfolds_last [] body old new (m, t, is) = (old, refl, subst (λ (k : Told). Tells old body k) (sym is) t)
unfolds_last (b ∷ bodies) body old new (m, t, rest) =
    let r = unfolds_last bodies body m new rest in
    (r.0, (m, t, r.1), r.2)

-- one body more
pub unfolds_push : (bodies : List (List ℕ)) (body : List ℕ) (old mid new : Told) → Unfolds old bodies mid → Tells mid body new → Unfolds old (bodies ++ body ∷ []) new
unfolds_push [] body old mid new is tells = (new, subst (λ (k : Told). Tells k body new) is tells, refl)
unfolds_push (b ∷ bodies) body old mid new (m, t, more) tells = (m, t, unfolds_push bodies body m mid new more tells)

-- the first of the bodies
pub unfolds_front : (front rest : List (List ℕ)) (old new : Told) → Unfolds old (front ++ rest) new → (mid : Told) × Unfolds old front mid × Unfolds mid rest new
unfolds_front [] rest old new more = (old, refl, more)
unfolds_front (body ∷ front) rest old new (m, t, more) =
    let r = unfolds_front front rest m new more in
    (r.0, (m, t, r.1), r.2)

tells_said : (old new : Told) (body : List ℕ) → Tells old body new → (more : List (List ℕ)) × (new.said ≡ old.said ++ more)
tells_said old new body (inl p) = ([], p.same ∙ sym (append-nil old.said))
tells_said old new body (inr p) = (p.full ∷ [], p.more)

-- what was said stays
pub unfolds_said : (bodies : List (List ℕ)) (old new : Told) → Unfolds old bodies new → (more : List (List ℕ)) × (new.said ≡ old.said ++ more)
unfolds_said [] old new is = ([], ap (λ (t : Told). t.said) is ∙ sym (append-nil old.said))
unfolds_said (body ∷ bodies) old new (m, t, more) =
    let first = tells_said old m body t in
    let rest = unfolds_said bodies m new more in
    (first.0 ++ rest.0, rest.1 ∙ ap (λ (l : List (List ℕ)). l ++ rest.0) first.1 ∙ append_assoc old.said first.0 rest.0)
