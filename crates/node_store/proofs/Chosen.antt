-- Texts that are chosen from a list, in place.
use Rattle.std.proofs.Common.{◌≡◌, ◌⊎◌, inl, inr, ℕ, ◌+◌, ◌<◌, ◌≤◌, Bor, Option, Some, None, is_some, Bool, true, false, eqb, List, zero, suc, [], ◌∷◌, ◌++◌, length, take, get_or, set, refl, sym, ap, ◌∙◌, subst, arith}
use Rattle.std.specs.Prelude.{◌≢◌, MatchOption, not}
use Rattle.std.specs.List.{swap}
use Rattle.std.proofs.lemmas.Bool.Decides.{eqb_tells}
use Rattle.std.proofs.lemmas.List.{length-map, length-set, map-append, take-map, take-set, take-set-le, take_more, take_more_set}
use Rattle.std.proofs.lemmas.List.Edits.{Swapped, length-swap, swap_is, swapped_from_swap}
use Rattle.node_store.specs.declared.blob.Blob.{Blob}
use Rattle.sha2.specs.Sha256.{sha256}
use Rattle.store_fields.specs.Fields.{IsBlob}
use Rattle.node_store.specs.Digests.{Blobs, IsAmong}
use Rattle.node_store.specs.Growing.{AddsText, AllAmong, ChoosesText, KeepsAll, StandsFirst, bytes_in}
use Rattle.node_store.proofs.Unfolded.{among-push}

-- ---- places

pub in_at : (list : List Blob) (i : ℕ) (d : Blob) → i < length list → IsAmong (bytes_in list) (get_or list i d).bytes
in_at [] i d below = absurd (omega (arith, below))
in_at (b ∷ list) zero d below = inl refl
in_at (b ∷ list) (suc i) d below = inr (in_at list i d (omega (arith, below)))

at_in : (list : List Blob) (text : List ℕ) (d : Blob) → IsAmong (bytes_in list) text → (i : ℕ) × (i < length list) × ((get_or list i d).bytes ≡ text)
at_in [] text d among = absurd among
at_in (b ∷ list) text d (inl is) = (0, omega arith, sym is)
at_in (b ∷ list) text d (inr among) = let r = at_in list text d among in (suc r.0, omega (arith, r.1), r.2)

same_or_not : (a b : ℕ) → (a ≡ b) ⊎ (a ≢ b)
same_or_not a b = by (eqb_tells a b)
  where
    by : ((eqb a b ≡ true) × (a ≡ b)) ⊎ ((eqb a b ≡ false) × (a ≢ b)) → (a ≡ b) ⊎ (a ≢ b)
    by (inl same) = inl same.1
    by (inr differs) = inr differs.1

-- one of the first
front_in : (list : List Blob) (front place : ℕ) (d : Blob) → place < front → place < length list → IsAmong (take front (bytes_in list)) (get_or list place d).bytes
front_in [] front place d less below = absurd (omega (arith, below))
front_in (b ∷ list) zero place d less below = absurd (omega (arith, less))
front_in (b ∷ list) (suc front) zero d less below = inl refl
front_in (b ∷ list) (suc front) (suc place) d less below = inr (front_in list front place d (omega (arith, less)) (omega (arith, below)))

-- what is among fewer of the first is among more of them
front_more : (texts : Blobs) (few many : ℕ) (text : List ℕ) → few ≤ many → IsAmong (take few texts) text → IsAmong (take many texts) text
front_more [] zero many text le among = absurd among
front_more [] (suc few) many text le among = absurd among
front_more (x ∷ texts) zero many text le among = absurd among
front_more (x ∷ texts) (suc few) zero text le among = absurd (omega (arith, le))
front_more (x ∷ texts) (suc few) (suc many) text le (inl is) = inl is
front_more (x ∷ texts) (suc few) (suc many) text le (inr among) = inr (front_more texts few many text (omega (arith, le)) among)

-- ---- what a search found

module _ (list : List Blob) (text : List ℕ) where
  pub stands_in : (place : ℕ) → StandsFirst list text place → IsAmong (bytes_in list) text
  stands_in place stands = subst (λ (t : List ℕ). IsAmong (bytes_in list) t) (ap (λ (b : Blob). b.bytes) (sym stands.there) ∙ stands.is) (in_at list place stands.blob stands.below)

  pub found_there : (found : Option ℕ) → is_some found ≡ true → MatchOption found (IsAmong (bytes_in list) text → ⊥) (λ place. StandsFirst list text place) → IsAmong (bytes_in list) text
  found_there None some found = absurd (cc some)
  found_there (Some place) some found = stands_in place found

  pub not_there : (found : Option ℕ) → is_some found ≡ false → MatchOption found (IsAmong (bytes_in list) text → ⊥) (λ place. StandsFirst list text place) → IsAmong (bytes_in list) text → ⊥
  not_there None none found = found
  not_there (Some place) none found = absurd (cc none)

  -- it is one of the first
  pub stands_in_front : (front place : ℕ) → place < front → StandsFirst list text place → IsAmong (take front (bytes_in list)) text
  stands_in_front front place less stands =
      subst (λ (t : List ℕ). IsAmong (take front (bytes_in list)) t) (ap (λ (b : Blob). b.bytes) (sym stands.there) ∙ stands.is) (front_in list front place stands.blob less stands.below)

  -- it is none of the first
  pub not_in_front : (front place : ℕ) → front ≤ place → StandsFirst list text place → IsAmong (take front (bytes_in list)) text → ⊥
  not_in_front front place le stands among =
      stands.first (subst (λ (l : Blobs). IsAmong l text) (take-map (λ (b : Blob). b.bytes) place list) (front_more (bytes_in list) front place text le among))

-- a text that is new, or whose digest is that of other bytes
pub adds_by : (front new : Blobs) (text digest : List ℕ) (found : Option (Bor Blob)) (apart : Bool) → digest ≡ sha256 text → is_some found ≡ not apart
    → MatchOption found ((bytes : List ℕ) → IsAmong front bytes → sha256 bytes ≢ digest) (λ x. IsAmong front x.now.bytes × (digest ≡ sha256 x.now.bytes) × IsBlob x.now.bytes)
    → (IsAmong front text → ⊥) → new ≡ front ++ text ∷ [] → AddsText front text apart new
adds_by front new text digest None true whole is found absent more = inr (λ other among same. found other among (same ∙ sym whole), more)
adds_by front new text digest None false whole is found absent more = absurd (cc is)
adds_by front new text digest (Some x) true whole is found absent more = absurd (cc is)
adds_by front new text digest (Some x) false whole is found absent more = (record { other = x.now.bytes; among = found.0; same = sym found.1 ∙ whole; absent = absent }, more)

-- one more in the list
pub text_pushed : (list new : List Blob) (blob : Blob) (old : Blobs) (text : List ℕ) → new ≡ list ++ blob ∷ [] → bytes_in list ≡ old → blob.bytes ≡ text → bytes_in new ≡ old ++ text ∷ []
text_pushed list new blob old text is view same =
    ap (λ (l : List Blob). bytes_in l) is ∙ map-append (λ (b : Blob). b.bytes) list (blob ∷ []) ∙ (λ i. view i ++ same i ∷ [])

-- ---- two in each other's place

after_front : (list : List Blob) (front : ℕ) (d : Blob) → front < length list → take (front + 1) (set (set list front (get_or list front d)) front (get_or list front d)) ≡ take front list ++ get_or list front d ∷ []
after_front list front d below =
    let x = get_or list front d in
    take_more_set (set list front x) front x (omega (arith, below, length-set list front x)) ∙ ap (λ (l : List Blob). l ++ x ∷ []) (take-set list front x)

set_front : (list : List Blob) (front place : ℕ) (d : Blob) → front ≤ place → place < length list
    → take (front + 1) (set (set list front (get_or list place d)) place (get_or list front d)) ≡ take front list ++ get_or list place d ∷ []
set_front list front place d le below = by (same_or_not front place)
  where
    by : (front ≡ place) ⊎ (front ≢ place) → take (front + 1) (set (set list front (get_or list place d)) place (get_or list front d)) ≡ take front list ++ get_or list place d ∷ []
    by (inl same) =
        subst (λ (p : ℕ). take (front + 1) (set (set list front (get_or list p d)) p (get_or list front d)) ≡ take front list ++ get_or list p d ∷ []) same
        (after_front list front d (omega (arith, le, below)))
    by (inr differs) =
        take-set-le (front + 1) (set list front (get_or list place d)) place (get_or list front d) (omega (arith, le, differs))
        ∙ take_more_set list front (get_or list place d) (omega (arith, le, below))

module _ (list new : List Blob) (front place : ℕ) (d : Blob) (le : front ≤ place) (below : place < length list) (is : new ≡ swap list front place) where
  long : length new ≡ length list
  long = ap (λ (l : List Blob). length l) is ∙ length-swap list front place

  moved : (text : List ℕ) (from to : ℕ) → (get_or list from d).bytes ≡ text → to < length list → get_or new to d ≡ get_or list from d → IsAmong (bytes_in new) text
  moved text from to has less same = subst (λ (t : List ℕ). IsAmong (bytes_in new) t) (ap (λ (b : Blob). b.bytes) same ∙ has) (in_at new to d (omega (arith, less, long)))

  kept_at : (text : List ℕ) (i : ℕ) → i < length list → (get_or list i d).bytes ≡ text → Swapped (λ j. get_or list j d) (λ j. get_or new j d) front place
      → (i ≡ front) ⊎ (i ≢ front) → (i ≡ place) ⊎ (i ≢ place) → IsAmong (bytes_in new) text
  kept_at text i less has swapped (inl first) other = moved text i place has below (swapped.1 ∙ ap (λ (j : ℕ). get_or list j d) (sym first))
  kept_at text i less has swapped (inr not_first) (inl second) = moved text i front has (omega (arith, le, below)) (swapped.0 ∙ ap (λ (j : ℕ). get_or list j d) (sym second))
  kept_at text i less has swapped (inr not_first) (inr not_second) = moved text i i has less (swapped.2 i not_first not_second)

  -- no text is lost
  pub swap_keeps : (text : List ℕ) → IsAmong (bytes_in list) text → IsAmong (bytes_in new) text
  swap_keeps text among =
      let stands : (i : ℕ) × (i < length list) × ((get_or list i d).bytes ≡ text) = at_in list text d among in
      kept_at text stands.0 stands.1 stands.2 (swapped_from_swap list new front place d (omega (arith, le, below)) below is) (same_or_not stands.0 front) (same_or_not stands.0 place)

  -- the one behind comes after the front
  pub swap_front : take (front + 1) new ≡ take front list ++ get_or list place d ∷ []
  swap_front = ap (λ (l : List Blob). take (front + 1) l) (is ∙ sym (swap_is list front place d (omega (arith, le, below)) below)) ∙ set_front list front place d le below

  pub swap_takes : (text : List ℕ) → (get_or list place d).bytes ≡ text → take (front + 1) (bytes_in new) ≡ take front (bytes_in list) ++ text ∷ []
  swap_takes text same =
      take-map (λ (b : Blob). b.bytes) (front + 1) new ∙ ap (λ (l : List Blob). bytes_in l) swap_front ∙ map-append (λ (b : Blob). b.bytes) (take front list) (get_or list place d ∷ [])
      ∙ (λ i. sym (take-map (λ (b : Blob). b.bytes) front list) i ++ same i ∷ [])

-- ---- one text

module _ (list new : List Blob) (text : List ℕ) (front place : ℕ) (stands : StandsFirst list text place) where
  -- it was chosen before
  pub chosen_before : place < front → front ≤ length (bytes_in list) → ChoosesText (bytes_in list) front text (bytes_in list) (front, true)
  chosen_before less within = record {
    within = within;
    adds = inl (stands_in_front list text front place less stands, refl);
    keeps = λ t among. among;
  }

  -- it comes after the front
  pub chosen_now : (digest : List ℕ) (found : Option (Bor Blob)) (apart : Bool) → front ≤ place → digest ≡ sha256 text → is_some found ≡ not apart
      → MatchOption found ((bytes : List ℕ) → IsAmong (bytes_in (take front list)) bytes → sha256 bytes ≢ digest) (λ x. IsAmong (bytes_in (take front list)) x.now.bytes × (digest ≡ sha256 x.now.bytes) × IsBlob x.now.bytes)
      → new ≡ swap list front place → ChoosesText (bytes_in list) front text (bytes_in new) (front + 1, apart)
  chosen_now digest found apart le whole tells has is =
      let d = stands.blob in
      let same : (get_or list place d).bytes ≡ text = ap (λ (b : Blob). b.bytes) (sym stands.there) ∙ stands.is in
      record {
        within = omega (arith, le, stands.below, length-map new (λ (b : Blob). b.bytes), ap (λ (l : List Blob). length l) is, length-swap list front place);
        adds = adds_by (take front (bytes_in list)) (take (front + 1) (bytes_in new)) text digest found apart whole tells
            (subst (λ (l : Blobs). MatchOption found ((bytes : List ℕ) → IsAmong l bytes → sha256 bytes ≢ digest) (λ x. IsAmong l x.now.bytes × (digest ≡ sha256 x.now.bytes) × IsBlob x.now.bytes)) (sym (take-map (λ (b : Blob). b.bytes) front list)) has)
            (not_in_front list text front place le stands)
            (swap_takes list new front place d le stands.below is text same);
        keeps = swap_keeps list new front place d le stands.below is;
      }

-- ---- those of lists, one after the other

pub all_kept : (old new : Blobs) (texts : List (List ℕ)) → KeepsAll old new → AllAmong old texts → AllAmong new texts
all_kept old new [] keeps all = tt
all_kept old new (text ∷ texts) keeps all = (keeps text all.0, all_kept old new texts keeps all.1)

-- no more than the first was searched
pub searched_more : (list : List Blob) (text : List ℕ) (place : ℕ) (blob : Blob) → place < length list → blob ≡ get_or list place blob → (blob.bytes ≡ text → ⊥) → (IsAmong (bytes_in (take place list)) text → ⊥)
    → IsAmong (bytes_in (take (place + 1) list)) text → ⊥
searched_more list text place blob below is differs none among =
    by (among-push (bytes_in (take place list)) blob.bytes text
    (subst (λ (l : Blobs). IsAmong l text) (ap (λ (l : List Blob). bytes_in l) (take_more list place blob below ∙ (λ i. take place list ++ sym is i ∷ [])) ∙ map-append (λ (b : Blob). b.bytes) (take place list) (blob ∷ [])) among))
  where
    by : IsAmong (bytes_in (take place list)) text ⊎ (text ≡ blob.bytes) → ⊥
    by (inl front) = none front
    by (inr same) = differs (sym same)
