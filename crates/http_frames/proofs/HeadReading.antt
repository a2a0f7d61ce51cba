-- What a walk over a head says of the bytes.
use Rattle.std.proofs.Common.{◌≡◌, ℕ, zero, suc, ◌+◌, ◌<◌, ◌≤◌, true, false, List, [], ◌∷◌, ◌++◌, length, take, drop, refl, sym, ap, ◌∙◌, subst, arith, length-drop, length-append, add-one}
use Rattle.std.specs.Prelude.{Some, None}
use Rattle.std.proofs.lemmas.List.{take_all, take-append-drop, take-append-le, length-take}
use Rattle.http_frames.specs.declared.head_places.Place.{Place}
use Rattle.http_frames.specs.declared.head_places.Place.TheVariants.{Front}
use Rattle.http_frames.specs.declared.head_walk.HeadWalk.{HeadWalk}
use Rattle.http_frames.specs.Heads.{IsNoRequest, IsOpenRequest, AwaitsRequest}
use Rattle.http_frames.specs.HeadPlaces.{next_place, is_whole, ends_target, place_after}
use Rattle.http_frames.specs.HeadWalks.{AreBegun, IsWalkedHead, CanGoOn}
use Rattle.http_frames.proofs.HeadBegins.{begun_on, begun_can}
use Rattle.http_frames.proofs.HeadPasses.{after_push, walk_starts, inside_lacks, wrong_never}
use Rattle.http_frames.proofs.TargetTexts.{target_is_text}
use Rattle.http_frames.proofs.Staying.{no_request_more}

pub take_step : (n : ℕ) (xs : List ℕ) (b : ℕ) (rest : List ℕ) → drop n xs ≡ b ∷ rest → take (suc n) xs ≡ take n xs ++ b ∷ []
take_step zero [] b rest e = absurd (cc)
take_step zero (x ∷ xs) b rest e = (let same : x ≡ b = cc in ap (λ (c : ℕ). c ∷ []) same)
take_step (suc n) [] b rest e = absurd (cc)
take_step (suc n) (x ∷ xs) b rest e = ap (λ (l : List ℕ). x ∷ l) (take_step n xs b rest e)

pub drop_step : (n : ℕ) (xs : List ℕ) (b : ℕ) (rest : List ℕ) → drop n xs ≡ b ∷ rest → drop (suc n) xs ≡ rest
drop_step zero [] b rest e = absurd (cc)
drop_step zero (x ∷ xs) b rest e = cc
drop_step (suc n) [] b rest e = absurd (cc)
drop_step (suc n) (x ∷ xs) b rest e = drop_step n xs b rest e

pub drop_fits : (n : ℕ) (xs : List ℕ) (b : ℕ) (rest : List ℕ) → drop n xs ≡ b ∷ rest → n < length xs
drop_fits n xs b rest e = omega (arith, ap length e, length-drop n xs)

take_take : (n m : ℕ) (xs : List ℕ) → n ≤ m → take n (take m xs) ≡ take n xs
take_take zero m xs few = refl
take_take (suc n) zero xs few = absurd (omega (arith, few))
take_take (suc n) (suc m) [] few = refl
take_take (suc n) (suc m) (x ∷ xs) few = ap (λ (l : List ℕ). x ∷ l) (take_take n m xs (omega (arith, few)))

-- what no continuation of the first bytes makes a head, none of all does
pub front_never : (n : ℕ) (bytes : List ℕ) → IsNoRequest (take n bytes) → IsNoRequest bytes
front_never n bytes never = subst IsNoRequest (take-append-drop n bytes) (no_request_more (take n bytes) (drop n bytes) never)

-- ---- one byte on

pub step_never : (bytes : List ℕ) (walk : HeadWalk) (b : ℕ) (rest : List ℕ) → IsWalkedHead bytes walk → is_whole walk.place ≡ false
    → drop walk.length bytes ≡ b ∷ rest → next_place walk.place b ≡ None → IsNoRequest bytes
step_never bytes walk b rest walked inside next none =
    front_never (suc walk.length) bytes (subst IsNoRequest (sym (take_step walk.length bytes b rest next))
    (wrong_never (take walk.length bytes) walk.place b walked.after inside none))

pub step_walked : (bytes : List ℕ) (walk : HeadWalk) (b : ℕ) (rest : List ℕ) (q : Place) (reached : HeadWalk) → IsWalkedHead bytes walk
    → length bytes ≤ 16384 → is_whole walk.place ≡ false → drop walk.length bytes ≡ b ∷ rest → next_place walk.place b ≡ Some q
    → (ends_target q ≡ true → CanGoOn (take (walk.length + 1) bytes)) → reached.place ≡ q → reached.length ≡ walk.length + 1
    → IsWalkedHead bytes reached
step_walked bytes walk b rest q reached walked few inside next there can place_is length_is =
    let n = walk.length in
    let one_more : take (n + 1) bytes ≡ take n bytes ++ b ∷ [] = rw add-one (take_step n bytes b rest next) in
    let fits = drop_fits n bytes b rest next in
    let taken : take reached.length bytes ≡ take n bytes ++ b ∷ [] = ap (λ (k : ℕ). take k bytes) length_is ∙ one_more in
    let after = after_push walk.place q (take n bytes) b walked.after inside there in
    let begun = begun_on walk.place q (take n bytes) b walked.begun there
    (λ ended begun space. target_is_text (take n bytes) begun.0 begun.2
    (subst CanGoOn (one_more ∙ ap (λ (c : ℕ). take n bytes ++ c ∷ []) space) (can (ap ends_target (sym ended))))) in
    record {
      length = omega (arith, length_is, fits);
      short = omega (arith, length_is, fits, few);
      after = ap (place_after Front) taken ∙ after ∙ ap (λ (p : Place). Some p) (sym place_is);
      begun = subst (λ (p : Place). AreBegun p (take reached.length bytes)) (sym place_is) (subst (AreBegun q) (sym taken) begun);
    }

-- ---- where a walk ends

walk_open : (bytes : List ℕ) (walk : HeadWalk) → IsWalkedHead bytes walk → is_whole walk.place ≡ false
    → walk.length ≡ length bytes → IsOpenRequest bytes
walk_open bytes walk walked inside all =
    let whole : take walk.length bytes ≡ bytes = take_all walk.length bytes (omega (arith, all)) in
    record {
      lacks = inside_lacks bytes walk.place (ap (place_after Front) (sym whole) ∙ walked.after) inside;
      can_be = begun_can walk.place bytes (subst (AreBegun walk.place) whole walked.begun) inside;
    }

pub walked_front : (bytes : List ℕ) (walk : HeadWalk) → IsWalkedHead bytes walk → IsWalkedHead (take 16384 bytes) walk
walked_front bytes walk walked =
    let same : take walk.length bytes ≡ take walk.length (take 16384 bytes) = sym (take_take walk.length 16384 bytes walked.short) in
    record {
      length = omega (arith, walked.length, walked.short, length-take 16384 bytes);
      short = walked.short;
      after = ap (place_after Front) (sym same) ∙ walked.after;
      begun = subst (AreBegun walk.place) same walked.begun;
    }

pub walked_bytes : (bytes : List ℕ) (walk : HeadWalk) → IsWalkedHead (take 16384 bytes) walk → IsWalkedHead bytes walk
walked_bytes bytes walk walked =
    let same : take walk.length (take 16384 bytes) ≡ take walk.length bytes = take_take walk.length 16384 bytes walked.short in
    record {
      length = omega (arith, walked.length, length-take 16384 bytes);
      short = walked.short;
      after = ap (place_after Front) (sym same) ∙ walked.after;
      begun = subst (AreBegun walk.place) same walked.begun;
    }

pub walk_long : (bytes : List ℕ) (walk : HeadWalk) → IsWalkedHead bytes walk → is_whole walk.place ≡ false
    → walk.length ≡ length (take 16384 bytes) → IsOpenRequest (take 16384 bytes)
walk_long bytes walk walked inside all = walk_open (take 16384 bytes) walk (walked_front bytes walk walked) inside all

pub walk_short : (bytes : List ℕ) (walk : HeadWalk) → IsWalkedHead bytes walk → is_whole walk.place ≡ false
    → walk.length ≡ length (take 16384 bytes) → length bytes < 16384 → AwaitsRequest bytes
walk_short bytes walk walked inside all short = record {
  short = short;
  is_open = walk_open bytes walk walked inside (all ∙ ap length (take_all 16384 bytes (omega (arith, short))));
}

pub walk_new : (bytes : List ℕ) (walk : HeadWalk) → walk.place ≡ Front → walk.length ≡ 0 → IsWalkedHead bytes walk
walk_new bytes walk place_is length_is =
    let none : take walk.length bytes ≡ [] = ap (λ (n : ℕ). take n bytes) length_is in
    record {
      length = omega (arith, length_is);
      short = omega (arith, length_is);
      after = ap (place_after Front) none ∙ walk_starts ∙ ap (λ (p : Place). Some p) (sym place_is);
      begun = subst (λ (p : Place). AreBegun p (take walk.length bytes)) (sym place_is) (subst (AreBegun Front) (sym none) ([], refl));
    }

-- bytes that were walked over stay so where more follow
pub walked_more : (bytes more : List ℕ) (walk : HeadWalk) → IsWalkedHead bytes walk → IsWalkedHead (bytes ++ more) walk
walked_more bytes more walk walked =
    let same : take walk.length (bytes ++ more) ≡ take walk.length bytes = take-append-le walk.length bytes more walked.length in
    record {
      length = omega (arith, walked.length, length-append bytes more);
      short = walked.short;
      after = ap (place_after Front) same ∙ walked.after;
      begun = subst (AreBegun walk.place) (sym same) walked.begun;
    }
