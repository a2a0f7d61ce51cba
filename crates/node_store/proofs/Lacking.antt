-- The Blobs that a bank lacks of some texts.
use Rattle.std.proofs.Common.{◌≡◌, inl, inr, ℕ, ◌-◌, ◌<◌, Bool, true, false, ◌&&◌, List, take, drop, [], ◌∷◌, ◌++◌, length, refl, sym, ap, ◌∙◌, subst, arith, append_assoc, length-drop}
use Rattle.std.specs.Prelude.{Result, Ok, Err, IsErr}
use Rattle.std.specs.List.{AllByRecursion}
use Rattle.std.proofs.lemmas.List.{append-nil, drop-map, take-map, take_all, take_at}
use Rattle.partial_merge.specs.declared.part.Part.{Part}
use Rattle.node_store.specs.Digests.{Blobs, HaveOneDigest, IsAmong, Lack, texts_of}
use Rattle.node_store.specs.declared.blob.Blob.{Blob}
use Rattle.node_store.specs.Growing.{AddsText, AddsTexts, AllAmong, AreNew, HasLacking, AreColliding, TriedTexts, bytes_in}

pub among-more : (blobs more : Blobs) (text : List ℕ) → IsAmong blobs text → IsAmong (blobs ++ more) text
among-more [] more text among = absurd among
among-more (first ∷ blobs) more text (inl is) = inl is
among-more (first ∷ blobs) more text (inr among) = inr (among-more blobs more text among)

among-last : (blobs more : Blobs) (text : List ℕ) → IsAmong (blobs ++ text ∷ more) text
among-last [] more text = inl refl
among-last (first ∷ blobs) more text = inr (among-last blobs more text)

pub all_more : (blobs more : Blobs) (texts : List (List ℕ)) → AllAmong blobs texts → AllAmong (blobs ++ more) texts
all_more blobs more [] all = tt
all_more blobs more (text ∷ texts) all = (among-more blobs more text all.0, all_more blobs more texts all.1)

pub all_both : (blobs : Blobs) (xs ys : List (List ℕ)) → AllAmong blobs xs → AllAmong blobs ys → AllAmong blobs (xs ++ ys)
all_both blobs [] ys one other = other
all_both blobs (x ∷ xs) ys one other = (one.0, all_both blobs xs ys one.1 other)

pub all_first : (blobs : Blobs) (xs ys : List (List ℕ)) → AllAmong blobs (xs ++ ys) → AllAmong blobs xs
all_first blobs [] ys all = tt
all_first blobs (x ∷ xs) ys all = (all.0, all_first blobs xs ys all.1)

pub all_second : (blobs : Blobs) (xs ys : List (List ℕ)) → AllAmong blobs (xs ++ ys) → AllAmong blobs ys
all_second blobs [] ys all = all
all_second blobs (x ∷ xs) ys all = all_second blobs xs ys all.1

-- what is among the first of them or the others
among-both : (one other more : Blobs) (text : List ℕ) → ((t : List ℕ) → IsAmong one t → IsAmong more t) → ((t : List ℕ) → IsAmong other t → IsAmong more t) → IsAmong (one ++ other) text → IsAmong more text
among-both [] other more text first second among = second text among
among-both (x ∷ one) other more text first second (inl is) = first text (inl is)
among-both (x ∷ one) other more text first second (inr among) = among-both one other more text (λ t there. first t (inr there)) second among

among-after : (blobs more : Blobs) (text : List ℕ) → IsAmong more text → IsAmong (blobs ++ more) text
among-after [] more text among = among
among-after (first ∷ blobs) more text among = inr (among-after blobs more text among)

pub none_left : {X : Type 0} (xs : List X) → length xs < 1 → xs ≡ []
none_left [] few = refl
none_left (x ∷ xs) few = absurd (omega (arith, few))

-- ---- what is lacking

pub lack_one : (blobs : Blobs) (texts : List (List ℕ)) (a b : Blobs) → Lack blobs texts a → Lack blobs texts b → a ≡ b
lack_one blobs [] a b p q = p ∙ sym q
lack_one blobs (text ∷ texts) a b (inl p) (inl q) = lack_one blobs texts a b p.1 q.1
lack_one blobs (text ∷ texts) a b (inl p) (inr (others, new, is, q)) = absurd (new text p.0 refl)
lack_one blobs (text ∷ texts) a b (inr (others, new, is, p)) (inl q) = absurd (new text q.0 refl)
lack_one blobs (text ∷ texts) a b (inr (xs, new, is, p)) (inr (ys, other, same, q)) =
    is ∙ ap (λ (l : Blobs). text ∷ l) (lack_one (blobs ++ text ∷ []) texts xs ys p q) ∙ sym same

pub lack_new : (blobs : Blobs) (texts : List (List ℕ)) (lacking : Blobs) → Lack blobs texts lacking → AreNew blobs lacking
lack_new blobs [] lacking is = subst (λ (l : Blobs). AreNew blobs l) (sym is) tt
lack_new blobs (text ∷ texts) lacking (inl held) = lack_new blobs texts lacking held.1
lack_new blobs (text ∷ texts) lacking (inr (others, new, is, lack)) =
    subst (λ (l : Blobs). AreNew blobs l) (sym is) (new, lack_new (blobs ++ text ∷ []) texts others lack)

-- with them each text is there
pub lack_all : (blobs : Blobs) (texts : List (List ℕ)) (lacking : Blobs) → Lack blobs texts lacking → AllAmong (blobs ++ lacking) texts
lack_all blobs [] lacking is = tt
lack_all blobs (text ∷ texts) lacking (inl held) = (among-more blobs lacking text held.0, lack_all blobs texts lacking held.1)
lack_all blobs (text ∷ texts) lacking (inr (others, new, is, lack)) =
    subst (λ (l : Blobs). AllAmong (blobs ++ l) (text ∷ texts)) (sym is) (
      among-last blobs others text,
      subst (λ (l : Blobs). AllAmong l texts) (append_assoc blobs (text ∷ []) others) (lack_all (blobs ++ text ∷ []) texts others lack),
    )

pub parts_among : (blobs : Blobs) (parts : List Part) → AllAmong blobs (texts_of parts) → AllByRecursion (λ (part : Part). IsAmong blobs part.bytes) parts
parts_among blobs [] all = tt
parts_among blobs (part ∷ parts) all = (all.0, parts_among blobs parts all.1)

pub among_parts : (blobs : Blobs) (parts : List Part) → AllByRecursion (λ (part : Part). IsAmong blobs part.bytes) parts → AllAmong blobs (texts_of parts)
among_parts blobs [] all = tt
among_parts blobs (part ∷ parts) all = (all.0, among_parts blobs parts all.1)

pub lack_among : (blobs : Blobs) (parts : List Part) (lacking : Blobs) → Lack blobs (texts_of parts) lacking → AllByRecursion (λ (part : Part). IsAmong (blobs ++ lacking) part.bytes) parts
lack_among blobs parts lacking lack = parts_among (blobs ++ lacking) parts (lack_all blobs (texts_of parts) lacking lack)

-- they are some of the texts
lack_within : (blobs : Blobs) (texts : List (List ℕ)) (lacking : Blobs) (t : List ℕ) → Lack blobs texts lacking → IsAmong lacking t → IsAmong texts t
lack_within blobs [] lacking t is among = subst (λ (l : Blobs). IsAmong l t) is among
lack_within blobs (text ∷ texts) lacking t (inl held) among = inr (lack_within blobs texts lacking t held.1 among)
lack_within blobs (text ∷ texts) lacking t (inr (others, new, is, lack)) among =
    by (λ more. lack_within (blobs ++ text ∷ []) texts others t lack more) (subst (λ (l : Blobs). IsAmong l t) is among)
  where
    by : (IsAmong others t → IsAmong texts t) → IsAmong (text ∷ others) t → IsAmong (text ∷ texts) t
    by rest (inl same) = inl same
    by rest (inr more) = inr (rest more)

-- of one list of texts after another
lack_both : (blobs : Blobs) (xs ys : List (List ℕ)) (one other : Blobs) → Lack blobs xs one → Lack (blobs ++ one) ys other → Lack blobs (xs ++ ys) (one ++ other)
lack_both blobs [] ys one other first second =
    subst (λ (l : Blobs). Lack blobs ys (l ++ other)) (sym first) (subst (λ (l : Blobs). Lack l ys other) (ap (λ (l : Blobs). blobs ++ l) first ∙ append-nil blobs) second)
lack_both blobs (x ∷ xs) ys one other (inl held) second = inl (held.0, lack_both blobs xs ys one other held.1 second)
lack_both blobs (x ∷ xs) ys one other (inr (others, new, is, lack)) second =
    inr (
      others ++ other,
      new,
      ap (λ (l : Blobs). l ++ other) is,
      lack_both (blobs ++ x ∷ []) xs ys others other lack
          (subst (λ (l : Blobs). Lack l ys other) (ap (λ (l : Blobs). blobs ++ l) is ∙ sym (append_assoc blobs (x ∷ []) others)) second),
    )

lack_split : (blobs : Blobs) (xs ys : List (List ℕ)) (all : Blobs) → Lack blobs (xs ++ ys) all → (one other : Blobs) × Lack blobs xs one × Lack (blobs ++ one) ys other
lack_split blobs [] ys all lack = ([], all, refl, subst (λ (l : Blobs). Lack l ys all) (sym (append-nil blobs)) lack)
lack_split blobs (x ∷ xs) ys all (inl held) = let r = lack_split blobs xs ys all held.1 in (r.0, r.1, inl (held.0, r.2), r.3)
lack_split blobs (x ∷ xs) ys all (inr (others, new, is, lack)) =
    let r = lack_split (blobs ++ x ∷ []) xs ys others lack in (
      x ∷ r.0,
      r.1,
      inr (r.0, new, refl, r.2),
      subst (λ (l : Blobs). Lack l ys r.1) (append_assoc blobs (x ∷ []) r.0) r.3,
    )

-- ---- one text after the other

wider : (one other : List (List ℕ)) → ((t : List ℕ) → IsAmong one t → IsAmong other t) → HaveOneDigest one → HaveOneDigest other
wider one other within pair = record { one = pair.one; other = pair.other; first = within pair.one pair.first; second = within pair.other pair.second; same = pair.same; differ = pair.differ }

adds_none : (old : Blobs) → AddsTexts old [] true old
adds_none old = record { lacking = []; lack = refl; is = sym (append-nil old) }

pub adds_one : (old new : Blobs) (text : List ℕ) (apart : Bool) → AddsText old text apart new → AddsTexts old (text ∷ []) apart new
adds_one old new text true (inl held) = record { lacking = []; lack = inl (held.0, refl); is = held.1 ∙ sym (append-nil old) }
adds_one old new text true (inr more) = record { lacking = text ∷ []; lack = inr ([], more.0, refl, refl); is = more.1 }
adds_one old new text false adds = record {
  more = text ∷ [];
  is = adds.1;
  all = (subst (λ (l : Blobs). IsAmong l text) (sym adds.1) (among-last old [] text), tt);
  never = λ lacking lack. by lack;
  pair = record {
    one = adds.0.other;
    other = text;
    first = among-more old (text ∷ []) adds.0.other adds.0.among;
    second = among-last old [] text;
    same = adds.0.same;
    differ = λ is. adds.0.absent (subst (λ (t : List ℕ). IsAmong old t) is adds.0.among);
  };
}
  where
    by : {lacking : Blobs} → Lack old (text ∷ []) lacking → ⊥
    by (inl held) = adds.0.absent held.0
    by (inr (others, fresh, is, lack)) = fresh adds.0.other adds.0.among adds.0.same

module _ (old mid new : Blobs) (xs ys : List (List ℕ)) where
  never_both : AreColliding old xs → AreColliding old (xs ++ ys)
  never_both never lacking lack = let r = lack_split old xs ys lacking lack in never r.0 r.2

  never_after : (has : HasLacking old xs mid) → AreColliding mid ys → AreColliding old (xs ++ ys)
  never_after has never lacking lack =
      let r = lack_split old xs ys lacking lack in
      never r.1 (subst (λ (l : Blobs). Lack l ys r.1) (ap (λ (l : Blobs). old ++ l) (lack_one old xs r.0 has.lacking r.2 has.lack) ∙ sym has.is) r.3)

  -- the second list after the first
  pub adds_both : (one other : Bool) → AddsTexts old xs one mid → AddsTexts mid ys other new → AddsTexts old (xs ++ ys) (one && other) new
  adds_both true true first second = record {
    lacking = first.lacking ++ second.lacking;
    lack = lack_both old xs ys first.lacking second.lacking first.lack (subst (λ (l : Blobs). Lack l ys second.lacking) first.is second.lack);
    is = second.is ∙ ap (λ (l : Blobs). l ++ second.lacking) first.is ∙ append_assoc old first.lacking second.lacking;
  }
  adds_both true false first second = record {
    more = first.lacking ++ second.more;
    is = second.is ∙ ap (λ (l : Blobs). l ++ second.more) first.is ∙ append_assoc old first.lacking second.more;
    all = all_both new xs ys
        (subst (λ (l : Blobs). AllAmong l xs) (sym second.is) (all_more mid second.more xs (subst (λ (l : Blobs). AllAmong l xs) (sym first.is) (lack_all old xs first.lacking first.lack)))) second.all;
    never = never_after first second.never;
    pair = wider (mid ++ ys) (old ++ (xs ++ ys)) (λ t there. among-both mid ys (old ++ (xs ++ ys)) t held rest there) second.pair;
  }
    where
      held : (t : List ℕ) → IsAmong mid t → IsAmong (old ++ (xs ++ ys)) t
      held t among = among-both old first.lacking (old ++ (xs ++ ys)) t (λ s there. among-more old (xs ++ ys) s there)
          (λ s there. among-after old (xs ++ ys) s (among-more xs ys s (lack_within old xs first.lacking s first.lack there))) (subst (λ (l : Blobs). IsAmong l t) first.is among)

      rest : (t : List ℕ) → IsAmong ys t → IsAmong (old ++ (xs ++ ys)) t
      rest t among = among-after old (xs ++ ys) t (among-after xs ys t among)
  adds_both false true first second = record {
    more = first.more ++ second.lacking;
    is = second.is ∙ ap (λ (l : Blobs). l ++ second.lacking) first.is ∙ append_assoc old first.more second.lacking;
    all = all_both new xs ys (subst (λ (l : Blobs). AllAmong l xs) (sym second.is) (all_more mid second.lacking xs first.all))
        (subst (λ (l : Blobs). AllAmong l ys) (sym second.is) (lack_all mid ys second.lacking second.lack));
    never = never_both first.never;
    pair = wider (old ++ xs) (old ++ (xs ++ ys)) (λ t there. subst (λ (l : Blobs). IsAmong l t) (append_assoc old xs ys) (among-more (old ++ xs) ys t there)) first.pair;
  }
  adds_both false false first second = record {
    more = first.more ++ second.more;
    is = second.is ∙ ap (λ (l : Blobs). l ++ second.more) first.is ∙ append_assoc old first.more second.more;
    all = all_both new xs ys (subst (λ (l : Blobs). AllAmong l xs) (sym second.is) (all_more mid second.more xs first.all)) second.all;
    never = never_both first.never;
    pair = wider (old ++ xs) (old ++ (xs ++ ys)) (λ t there. subst (λ (l : Blobs). IsAmong l t) (append_assoc old xs ys) (among-more (old ++ xs) ys t there)) first.pair;
  }

-- each text is there then
pub adds_all : (old new : Blobs) (texts : List (List ℕ)) (apart : Bool) → AddsTexts old texts apart new → AllAmong new texts
adds_all old new texts true adds = subst (λ (l : Blobs). AllAmong l texts) (sym adds.is) (lack_all old texts adds.lacking adds.lack)
adds_all old new texts false adds = adds.all

-- and what was there stays in front
pub adds_more : (old new : Blobs) (texts : List (List ℕ)) (apart : Bool) → AddsTexts old texts apart new → (more : Blobs) × (new ≡ old ++ more)
adds_more old new texts true adds = (adds.lacking, adds.is)
adds_more old new texts false adds = (adds.more, adds.is)

-- of these texts the last are left, and the others were added
pub record TextsSoFar (old now : Blobs) (all left : List (List ℕ)) (apart : Bool) : Type 0 where
  pub past : List (List ℕ)
  pub split : all ≡ past ++ left
  pub adds : AddsTexts old past apart now

pub so_far_none : (old : Blobs) (all : List (List ℕ)) → TextsSoFar old old all all true
so_far_none old all = record { past = []; split = refl; adds = adds_none old }

pub so_far_more : (old now new : Blobs) (all left : List (List ℕ)) (text : List ℕ) (apart one : Bool) → TextsSoFar old now all (text ∷ left) apart → AddsText now text one new → TextsSoFar old new all left (apart && one)
so_far_more old now new all left text apart one so_far adds = record {
  past = so_far.past ++ text ∷ [];
  split = so_far.split ∙ sym (append_assoc so_far.past (text ∷ []) left);
  adds = adds_both old now new so_far.past (text ∷ []) apart one so_far.adds (adds_one now new text one adds);
}

pub so_far_all : (old now : Blobs) (all : List (List ℕ)) (apart : Bool) → TextsSoFar old now all [] apart → AddsTexts old all apart now
so_far_all old now all apart so_far = subst (λ (l : List (List ℕ)). AddsTexts old l apart now) (sym (so_far.split ∙ append-nil so_far.past)) so_far.adds

-- memory ran out on the way
pub tried_err : {E : Type 0} (old new : Blobs) (texts : List (List ℕ)) (result : Result Bool E) → IsErr result → (more : Blobs) × (new ≡ old ++ more) → TriedTexts old texts result new
tried_err old new texts (Ok apart) fails grew = absurd (cc fails)
tried_err old new texts (Err e) fails grew = grew

-- what was added is cut off again
pub cut_off : (list now : List Blob) (old : Blobs) (from : ℕ) → from ≡ length old → (more : Blobs) × (bytes_in list ≡ old ++ more) → now ≡ take from list → bytes_in now ≡ old
cut_off list now old from many (more, is) cut =
    ap (λ (l : List Blob). bytes_in l) cut ∙ sym (take-map (λ (blob : Blob). blob.bytes) from list) ∙ ap (λ (l : Blobs). take from l) is ∙ take_at old more from (sym many)

-- the last Blobs are the bytes of the last of the list
pub last_are : (list : List Blob) (blobs : Blobs) (from : ℕ) → bytes_in list ≡ blobs → bytes_in (take (length list - from) (drop from list)) ≡ drop from blobs
last_are list blobs from is =
    ap (λ (l : List Blob). bytes_in l) (take_all (length list - from) (drop from list) (omega (arith, length-drop from list)))
    ∙ sym (drop-map (λ (blob : Blob). blob.bytes) from list) ∙ ap (λ (l : Blobs). drop from l) is
