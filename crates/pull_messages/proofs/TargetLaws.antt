-- From characters to the bytes of a target.
use Rattle.std.proofs.Common.{◌≡◌, ◌≢◌, ◌⊎◌, ◌≤◌, ◌<◌, ◌+◌, ◌-◌, ◌*◌, ◌==◌, ℕ, List, [], ◌∷◌, ◌++◌, length, take, nat_lt, Bool, true, false, Some, inl, inr, refl, sym, ◌∙◌, ap, subst, arith, append_assoc, append-nil, length-append, length-take, drop}
use Rattle.std.proofs.lemmas.List.{take-append-drop}
use Rattle.std.specs.Str.{all_scalars, chars, encode_utf8_all, IsUtf8, IsValidUpTo}
use Rattle.std.specs.Prelude.{encode_utf8}
use Rattle.std.proofs.lemmas.Str.{encodes-append, encode_same, length-encode, len_utf8_bounds, encodes-chars, scalars-chars, length-le-encodes}
use Rattle.std.proofs.lemmas.Bool.{eqb-true, ltb-true, ltb-false}
use Rattle.pull_messages.specs.declared.target_kinds.Target.{Target}
use Rattle.pull_messages.specs.Decoding.{IsDecoded}
use Rattle.pull_messages.specs.Escapes.{IsWritten, AreChars, HasNoByte, IsUnescaped, IsFrontOf, digit_of}
use Rattle.pull_messages.specs.Spelling.{Spells}
use Rattle.pull_messages.specs.Stops.{Begins, IsAnyTarget}
use Rattle.pull_messages.specs.Targets.{IsTarget, BeginsTarget, IsLongestFront, SpellsTarget}
use Rattle.pull_messages.proofs.FormLaws.{spells_append}
use Rattle.pull_messages.proofs.Languages.{fronts, same_front}
use Rattle.pull_messages.proofs.Scalars.{scalars_front, scalars_end, scalars_join}

less_or : (m k : ℕ) (b : Bool) → nat_lt m k ≡ b → (m < k) ⊎ (k ≤ m)
less_or m k true is = inl (ltb-true m k is)
less_or m k false is = inr (ltb-false m k is)

nat_cases : (m k : ℕ) → (m < k) ⊎ (k ≤ m)
nat_cases m k = less_or m k (nat_lt m k) refl

-- ---- one way to read bytes

pub written_same : (x y : ℕ) (f g r s : List ℕ) → IsWritten x f → IsWritten y g → f ++ r ≡ g ++ s → (f ≡ g) × (x ≡ y)
written_same x y f g r s (inl a) (inl b) e =
    let whole : x ∷ r ≡ y ∷ s = ap (λ (l : List ℕ). l ++ r) (sym a.0) ∙ e ∙ ap (λ (l : List ℕ). l ++ s) b.0 in
    let head : x ≡ y = cc whole in
    (a.0 ∙ ap (λ (c : ℕ). c ∷ []) head ∙ sym b.0, head)
written_same x y f g r s (inl a) (inr (h, l, m, n, is, first, second, value)) e =
    let whole : x ∷ r ≡ 37 ∷ h ∷ l ∷ s = ap (λ (t : List ℕ). t ++ r) (sym a.0) ∙ e ∙ ap (λ (t : List ℕ). t ++ s) is in
    let head : x ≡ 37 = cc whole in absurd (a.1 head)
written_same x y f g r s (inr (h, l, m, n, is, first, second, value)) (inl b) e =
    let whole : 37 ∷ h ∷ l ∷ r ≡ y ∷ s = ap (λ (t : List ℕ). t ++ r) (sym is) ∙ e ∙ ap (λ (t : List ℕ). t ++ s) b.0 in
    let head : y ≡ 37 = cc whole in absurd (b.1 head)
written_same x y f g r s (inr (h, l, m, n, is, first, second, value)) (inr (h2, l2, m2, n2, is2, first2, second2, value2)) e =
    let whole : 37 ∷ h ∷ l ∷ r ≡ 37 ∷ h2 ∷ l2 ∷ s = ap (λ (t : List ℕ). t ++ r) (sym is) ∙ e ∙ ap (λ (t : List ℕ). t ++ s) is2 in
    let high : h ≡ h2 = cc whole in
    let low : l ≡ l2 = cc whole in
    let a : m ≡ m2 = some_same m m2 (sym first ∙ ap digit_of high ∙ first2) in
    let b : n ≡ n2 = some_same n n2 (sym second ∙ ap digit_of low ∙ second2) in
    (is ∙ (λ i. 37 ∷ high i ∷ low i ∷ []) ∙ sym is2, value ∙ (λ i. a i * 16 + b i) ∙ sym value2)
  where
    some_same : (p q : ℕ) → Some p ≡ Some q → p ≡ q
    some_same p q e = cc e

written_some : (x : ℕ) (f : List ℕ) → IsWritten x f → 1 ≤ length f
written_some x f (inl a) = omega (arith, ap length a.0)
written_some x f (inr (h, l, m, n, is, first, second, value)) = omega (arith, ap length is)

-- bytes that are written at the front of a text are the first of those of its whole front
pub first_bytes : (xs ys a b r s : List ℕ) → Spells IsWritten xs a → Spells IsWritten ys b → a ++ r ≡ b ++ s → HasNoByte s
    → (zs : List ℕ) × (c : List ℕ) × (ys ≡ xs ++ zs) × (b ≡ a ++ c) × Spells IsWritten zs c
first_bytes [] ys a b r s wa wb e none = (ys, b, refl, ap (λ (l : List ℕ). l ++ b) (sym wa), wb)
first_bytes (x ∷ xs) [] a b r s (f, a2, is, here, others) wb e none =
    let whole : s ≡ f ++ (a2 ++ r) = sym (e ∙ ap (λ (l : List ℕ). l ++ s) wb) ∙ ap (λ (l : List ℕ). l ++ r) is ∙ append_assoc f a2 r in
    absurd (none x f (a2 ++ r) whole here)
first_bytes (x ∷ xs) (y ∷ ys) a b r s (f, a2, is, here, others) (g, b2, is2, here2, others2) e none =
    let whole : f ++ (a2 ++ r) ≡ g ++ (b2 ++ s) =
    sym (append_assoc f a2 r) ∙ ap (λ (l : List ℕ). l ++ r) (sym is) ∙ e ∙ ap (λ (l : List ℕ). l ++ s) is2 ∙ append_assoc g b2 s in
    let same = written_same x y f g (a2 ++ r) (b2 ++ s) here here2 whole in
    let tail = (same_front f (a2 ++ r) g (b2 ++ s) whole (ap length same.0)).1 in
    let more = first_bytes xs ys a2 b2 r s others others2 tail none in
    let head : y ≡ x = sym same.1 in (
      more.0,
      more.1,
      (λ i. head i ∷ more.2 i),
      is2 ∙ ap (λ (l : List ℕ). g ++ l) more.3 ∙ sym (append_assoc g a2 more.1) ∙ ap (λ (l : List ℕ). l ++ more.1) (ap (λ (l : List ℕ). l ++ a2) (sym same.0) ∙ sym is),
      more.4,
    )

-- fewer bytes of one reading are written on a front of its text
pub shorter_text : (xs zs a b r s : List ℕ) → Spells IsWritten xs a → Spells IsWritten (xs ++ zs) b → a ++ r ≡ b ++ s → (c : List ℕ) × (b ≡ a ++ c)
shorter_text [] zs a b r s wa wb e = (b, ap (λ (l : List ℕ). l ++ b) (sym wa))
shorter_text (x ∷ xs) zs a b r s (f, a2, is, here, others) (g, b2, is2, here2, others2) e =
    let whole : f ++ (a2 ++ r) ≡ g ++ (b2 ++ s) =
    sym (append_assoc f a2 r) ∙ ap (λ (l : List ℕ). l ++ r) (sym is) ∙ e ∙ ap (λ (l : List ℕ). l ++ s) is2 ∙ append_assoc g b2 s in
    let same = written_same x x f g (a2 ++ r) (b2 ++ s) here here2 whole in
    let tail = (same_front f (a2 ++ r) g (b2 ++ s) whole (ap length same.0)).1 in
    let more = shorter_text xs zs a2 b2 r s others others2 tail in (
      more.0,
      is2 ∙ ap (λ (l : List ℕ). g ++ l) more.1 ∙ sym (append_assoc g a2 more.0)
          ∙ ap (λ (l : List ℕ). l ++ more.0) (ap (λ (l : List ℕ). l ++ a2) (sym same.0) ∙ sym is),
    )

pub no_byte : HasNoByte []
no_byte byte front rest e written = omega (arith, ap length e, length-append front rest, written_some byte front written)

nothing_written : (zs c : List ℕ) → Spells IsWritten zs c → length c ≤ 0 → zs ≡ []
nothing_written [] c w none = refl
nothing_written (z ∷ zs) c (f, r, is, here, others) none = absurd (omega (arith, none, ap length is, length-append f r, written_some z f here))

-- some text writes the bytes
some_text : (bytes : List ℕ) → (text : List ℕ) × Spells IsWritten bytes text
some_text [] = ([], refl)
some_text (b ∷ bytes) =
    let more = some_text bytes in
    let first = one b (b == 37) refl in
    (first.0 ++ more.0, (first.0, more.0, refl, first.1, more.1))
  where
    not_sign : (b : ℕ) → (b == 37) ≡ false → b ≢ 37
    not_sign b is same = let yes : (b == 37) ≡ true = rw same refl in cc (yes, is)

    one : (b : ℕ) (is : Bool) → (b == 37) ≡ is → (text : List ℕ) × IsWritten b text
    one b true is = (37 ∷ 50 ∷ 53 ∷ [], inr (50, 53, 2, 5, refl, refl, refl, eqb-true b 37 is))
    one b false is = (b ∷ [], inl (refl, not_sign b is))

-- ---- characters

pub chars_front : (more cs u : List ℕ) → encode_utf8_all cs ≡ encode_utf8_all more ++ u → (v : List ℕ) × (cs ≡ more ++ v)
chars_front [] cs u e = (cs, refl)
chars_front (c ∷ more) [] u e =
    absurd (omega (arith, ap length e, length-append (encode_utf8 c ++ encode_utf8_all more) u, length-append (encode_utf8 c) (encode_utf8_all more), length-encode c, (len_utf8_bounds c).0))
chars_front (c ∷ more) (d ∷ cs) u e =
    let same = encode_same d c (encode_utf8_all cs) (encode_utf8_all more ++ u) (e ∙ append_assoc (encode_utf8 c) (encode_utf8_all more) u) in
    let rest = chars_front more cs u same.1 in
    let head = same.0 in
    (rest.0, (λ i. head i ∷ rest.1 i))

-- characters that the text begins with are the first of those that were decoded
pub first_chars : (text bytes cs more a left : List ℕ) → IsUnescaped text bytes → IsDecoded bytes cs → text ≡ a ++ left → AreChars more a
    → (v : List ℕ) × (cs ≡ more ++ v)
first_chars text bytes cs more a left escaped decoded split are =
    let found = first_bytes (encode_utf8_all more) bytes a escaped.front left escaped.rest are.1 escaped.written (sym split ∙ escaped.split) escaped.all in
    let few = decoded.longest more found.0 found.2 are.0 in
    elim (fronts (encode_utf8_all cs) decoded.rest (encode_utf8_all more) found.0 (sym decoded.split ∙ found.2)) [
      | inl longer ↦ chars_front more cs longer.0 longer.1
      | inr shorter ↦
          let none : shorter.0 ≡ [] = empty shorter.0 (omega (arith, few, ap length shorter.1, length-append (encode_utf8_all cs) shorter.0)) in
          chars_front more cs [] (sym (shorter.1 ∙ ap (λ (l : List ℕ). encode_utf8_all cs ++ l) none ∙ append-nil (encode_utf8_all cs)) ∙ sym (append-nil (encode_utf8_all more)))
    ]
  where
    empty : (u : List ℕ) → length u ≤ 0 → u ≡ []
    empty [] e = refl
    empty (x ∷ u) e = absurd (omega arith)

-- the front that was measured is that of the characters
pub front_is : (text bytes cs front_cs tail : List ℕ) (at : ℕ) → IsUnescaped text bytes → IsDecoded bytes cs → cs ≡ front_cs ++ tail
    → (front : IsFrontOf text (length (encode_utf8_all front_cs)) at) → front.bytes ≡ encode_utf8_all front_cs
front_is text bytes cs front_cs tail at escaped decoded split front =
    let whole : bytes ≡ encode_utf8_all front_cs ++ (encode_utf8_all tail ++ decoded.rest) =
    decoded.split ∙ ap (λ (l : List ℕ). l ++ decoded.rest) (ap encode_utf8_all split ∙ encodes-append front_cs tail) ∙ append_assoc (encode_utf8_all front_cs) (encode_utf8_all tail) decoded.rest in
    let found = first_bytes front.bytes bytes front.front escaped.front front.rest escaped.rest front.written escaped.written (sym front.split ∙ escaped.split) escaped.all in
    let size : length front.bytes ≡ length (encode_utf8_all front_cs) = measured whole in
    (same_front front.bytes found.0 (encode_utf8_all front_cs) (encode_utf8_all tail ++ decoded.rest) (sym found.2 ∙ whole) size).0
  where
    at_least : ((length front.bytes < length (encode_utf8_all front_cs)) ⊎ (length (encode_utf8_all front_cs) ≤ length front.bytes))
        → bytes ≡ encode_utf8_all front_cs ++ (encode_utf8_all tail ++ decoded.rest) → length front.bytes ≡ length (encode_utf8_all front_cs)
    at_least (inr enough) whole = omega (arith, enough, front.few)
    at_least (inl short) whole =
        let back = first_bytes bytes front.bytes escaped.front front.front escaped.rest front.rest escaped.written front.written (sym escaped.split ∙ front.split) (front.all short) in
        absurd (omega (arith, short, ap length back.2, length-append bytes back.0, ap length whole, length-append (encode_utf8_all front_cs) (encode_utf8_all tail ++ decoded.rest)))

    measured : bytes ≡ encode_utf8_all front_cs ++ (encode_utf8_all tail ++ decoded.rest) → length front.bytes ≡ length (encode_utf8_all front_cs)
    measured whole = at_least (nat_cases (length front.bytes) (length (encode_utf8_all front_cs))) whole

-- ---- the longest front

-- a target of the text's front in characters
begins_chars : (more cm : List ℕ) → AreChars cm more → BeginsTarget more → Begins IsAnyTarget cm
unfolding BeginsTarget IsTarget
begins_chars more cm are (whole, (rest, t, (ct, are_ct, spelled))) =
    let found = first_bytes (encode_utf8_all cm) (encode_utf8_all ct) more (more ++ rest) rest [] are.1 are_ct.1 (sym (append-nil (more ++ rest))) no_byte in
    let tail = chars_front cm ct found.0 found.2 in
    (tail.0, scalars_end cm tail.0 (subst (λ (l : List ℕ). all_scalars l ≡ true) tail.1 are_ct.0), (t, subst (SpellsTarget t) tail.1 spelled))

begins_text : (front cf : List ℕ) → AreChars cf front → Begins IsAnyTarget cf → BeginsTarget front
unfolding BeginsTarget IsTarget
begins_text front cf are (tail, scalars, (t, spelled)) =
    let more = some_text (encode_utf8_all tail) in
    let written : Spells IsWritten (encode_utf8_all (cf ++ tail)) (front ++ more.0) =
    subst (λ (l : List ℕ). Spells IsWritten l (front ++ more.0)) (sym (encodes-append cf tail)) (spells_append IsWritten (encode_utf8_all cf) (encode_utf8_all tail) front more.0 are.1 more.1) in
    ((cf, are), (more.0, t, (cf ++ tail, (scalars_join cf tail are.0 scalars, written), spelled)))

whole_chars : (more : List ℕ) → BeginsTarget more → (cm : List ℕ) × AreChars cm more
unfolding BeginsTarget
whole_chars more begins = begins.0

pub longest_front : (text bytes cs cf tail : List ℕ) (at : ℕ) → IsUnescaped text bytes → IsDecoded bytes cs → cs ≡ cf ++ tail
    → IsFrontOf text (length (encode_utf8_all cf)) at → Begins IsAnyTarget cf
    → ((more rest : List ℕ) → cs ≡ more ++ rest → Begins IsAnyTarget more → length tail ≤ length rest) → IsLongestFront text at
longest_front text bytes cs cf tail at escaped decoded split front begins longest =
    let written : Spells IsWritten (encode_utf8_all cf) front.front =
    subst (λ (l : List ℕ). Spells IsWritten l front.front) (front_is text bytes cs cf tail at escaped decoded split front) front.written in
    let are : AreChars cf front.front = (scalars_front cf tail (subst (λ (l : List ℕ). all_scalars l ≡ true) split decoded.scalars), written) in
    record {
      front = front.front;
      rest = front.rest;
      split = front.split;
      size = front.size_is;
      begins = begins_text front.front cf are begins;
      longest = λ more left more_split more_begins.
          let whole = whole_chars more more_begins in
          let ahead = first_chars text bytes cs whole.0 more left escaped decoded more_split whole.1 in
          let few = longest whole.0 ahead.0 ahead.1 (begins_chars more whole.0 whole.1 more_begins) in
          let inside = within whole.0 ahead.0 (sym ahead.1 ∙ split) few in
          let cells : Spells IsWritten (encode_utf8_all whole.0 ++ encode_utf8_all inside.0) front.front =
          subst (λ (l : List ℕ). Spells IsWritten l front.front) (ap encode_utf8_all inside.1 ∙ encodes-append whole.0 inside.0) written in
          let more_text = shorter_text (encode_utf8_all whole.0) (encode_utf8_all inside.0) more front.front left front.rest whole.1.1 cells (sym more_split ∙ front.split) in
          omega (arith, front.size_is, ap length more_text.1, length-append more more_text.0);
    }
  where
    empty : (u : List ℕ) → length u ≤ 0 → u ≡ []
    empty [] e = refl
    empty (x ∷ u) e = absurd (omega arith)

    within : (cm v : List ℕ) → cm ++ v ≡ cf ++ tail → length tail ≤ length v → (x : List ℕ) × (cf ≡ cm ++ x)
    within cm v e few =
        elim (fronts cf tail cm v (sym e)) [
          | inl longer ↦ (longer.0, longer.1)
          | inr shorter ↦
              let none : shorter.0 ≡ [] = empty shorter.0 (omega (arith, few, ap length shorter.2, length-append shorter.0 v)) in
              ([], sym (shorter.1 ∙ ap (λ (l : List ℕ). cf ++ l) none ∙ append-nil cf) ∙ sym (append-nil cm))
        ]

-- characters that the text spells are all that were decoded
pub same_chars : (text bytes cs ct : List ℕ) → IsUnescaped text bytes → IsDecoded bytes cs → AreChars ct text → cs ≡ ct
same_chars text bytes cs ct escaped decoded are =
    let found = first_bytes (encode_utf8_all ct) bytes text escaped.front [] escaped.rest are.1 escaped.written (append-nil text ∙ escaped.split) escaped.all in
    let none : length found.1 ≤ 0 = omega (arith, ap length found.3, length-append text found.1, ap length escaped.split, length-append escaped.front escaped.rest) in
    let no_more = nothing_written found.0 found.1 found.4 none in
    let all : bytes ≡ encode_utf8_all ct = found.2 ∙ ap (λ (l : List ℕ). encode_utf8_all ct ++ l) no_more ∙ append-nil (encode_utf8_all ct) in
    let ahead = first_chars text bytes cs ct text [] escaped decoded (sym (append-nil text)) are in
    let tail : length ahead.0 ≤ 0 = omega (
      arith,
      ap length all,
      ap length decoded.split,
      length-append (encode_utf8_all cs) decoded.rest,
      ap length (ap encode_utf8_all ahead.1 ∙ encodes-append ct ahead.0),
      length-append (encode_utf8_all ct) (encode_utf8_all ahead.0),
      length-le-encodes ahead.0,
    ) in
    ahead.1 ∙ ap (λ (l : List ℕ). ct ++ l) (empty ahead.0 tail) ∙ append-nil ct
  where
    empty : (u : List ℕ) → length u ≤ 0 → u ≡ []
    empty [] e = refl
    empty (x ∷ u) e = absurd (omega arith)

-- a text that was measured whole spells them
pub are_chars : (text bytes cs : List ℕ) (at : ℕ) → IsUnescaped text bytes → IsDecoded bytes cs → IsFrontOf text (length (encode_utf8_all cs)) at
    → at ≡ length text → AreChars cs text
are_chars text bytes cs at escaped decoded front all =
    let written : Spells IsWritten (encode_utf8_all cs) front.front =
    subst (λ (l : List ℕ). Spells IsWritten l front.front) (front_is text bytes cs cs [] at escaped decoded (sym (append-nil cs)) front) front.written in
    let none = empty front.rest (omega (arith, all, front.size_is, ap length front.split, length-append front.front front.rest)) in
    let same : text ≡ front.front = front.split ∙ ap (λ (l : List ℕ). front.front ++ l) none ∙ append-nil front.front in
    (decoded.scalars, subst (Spells IsWritten (encode_utf8_all cs)) (sym same) written)
  where
    empty : (u : List ℕ) → length u ≤ 0 → u ≡ []
    empty [] e = refl
    empty (x ∷ u) e = absurd (omega arith)

-- and one that spells them is measured whole
pub measured_whole : (text bytes cs : List ℕ) (at : ℕ) → IsUnescaped text bytes → IsDecoded bytes cs → IsFrontOf text (length (encode_utf8_all cs)) at
    → AreChars cs text → at ≡ length text
measured_whole text bytes cs at escaped decoded front are =
    let cells : Spells IsWritten (encode_utf8_all cs ++ []) front.front =
    subst (λ (l : List ℕ). Spells IsWritten l front.front)
    (front_is text bytes cs cs [] at escaped decoded (sym (append-nil cs)) front ∙ sym (append-nil (encode_utf8_all cs))) front.written in
    let more = shorter_text (encode_utf8_all cs) [] text front.front [] front.rest are.1 cells (append-nil text ∙ front.split) in
    omega (arith, front.size_is, ap length front.split, length-append front.front front.rest, ap length more.1, length-append text more.0)

-- a text that is a target is all of what was decoded
pub whole_target : (text bytes cs : List ℕ) (t : Target) → IsUnescaped text bytes → IsDecoded bytes cs → IsTarget text t → SpellsTarget t cs
unfolding IsTarget
whole_target text bytes cs t escaped decoded (ct, are, spelled) = subst (SpellsTarget t) (sym (same_chars text bytes cs ct escaped decoded are)) spelled

-- what was measured whole is a target
pub is_target : (text bytes cs : List ℕ) (t : Target) (at : ℕ) → IsUnescaped text bytes → IsDecoded bytes cs → SpellsTarget t cs
    → IsFrontOf text (length (encode_utf8_all cs)) at → at ≡ length text → IsTarget text t
unfolding IsTarget
is_target text bytes cs t at escaped decoded spelled front all = (cs, are_chars text bytes cs at escaped decoded front all, spelled)

target_begins : (text : List ℕ) (t : Target) → IsTarget text t → BeginsTarget text
unfolding BeginsTarget IsTarget
target_begins text t (ct, are, spelled) = ((ct, are), ([], t, (ct, subst (AreChars ct) (sym (append-nil text)) are, spelled)))

pub no_target : (text : List ℕ) (at : ℕ) → IsLongestFront text at → at ≢ length text → (t : Target) → IsTarget text t → ⊥
no_target text at longest other t is =
    let few = longest.longest text [] (sym (append-nil text)) (target_begins text t is) in
    let same : at ≡ length text = omega (arith, few, longest.size, ap length longest.split, length-append longest.front longest.rest) in
    other same

-- ---- decoding

pub decoded_all : (bytes text : List ℕ) → IsUtf8 bytes → text ≡ bytes → IsDecoded bytes (chars text)
decoded_all bytes text utf8 is =
    let spelled : encode_utf8_all (chars text) ≡ bytes = encodes-chars text (subst IsUtf8 (sym is) utf8) ∙ is in
    record {
      rest = [];
      split = sym spelled ∙ sym (append-nil (encode_utf8_all (chars text)));
      scalars = scalars-chars text (subst IsUtf8 (sym is) utf8);
      longest = λ more left split scalars. omega (arith, ap length spelled, ap length split, length-append (encode_utf8_all more) left);
    }

take_front : (a b : List ℕ) → take (length a) (a ++ b) ≡ a
take_front [] b = refl
take_front (x ∷ a) b = ap (λ (l : List ℕ). x ∷ l) (take_front a b)

pub decoded_front : (bytes text : List ℕ) (n : ℕ) → text ≡ take n bytes → IsUtf8 (take n bytes) → IsValidUpTo bytes n → IsDecoded bytes (chars text)
decoded_front bytes text n is utf8 valid =
    let spelled : encode_utf8_all (chars text) ≡ take n bytes = encodes-chars text (subst IsUtf8 (sym is) utf8) ∙ is in
    record {
      rest = drop n bytes;
      split = sym (take-append-drop n bytes) ∙ ap (λ (l : List ℕ). l ++ drop n bytes) (sym spelled);
      scalars = scalars-chars text (subst IsUtf8 (sym is) utf8);
      longest = λ more left split scalars. at_most more left split scalars (nat_cases n (length (encode_utf8_all more))) (ap length spelled);
    }
  where
    at_most : (more left : List ℕ) → bytes ≡ encode_utf8_all more ++ left → all_scalars more ≡ true → ((n < length (encode_utf8_all more)) ⊎ (length (encode_utf8_all more) ≤ n))
        → length (encode_utf8_all (chars text)) ≡ length (take n bytes) → length (encode_utf8_all more) ≤ length (encode_utf8_all (chars text))
    at_most more left split scalars (inl longer) size =
        let front : take (length (encode_utf8_all more)) bytes ≡ encode_utf8_all more = ap (take (length (encode_utf8_all more))) split ∙ take_front (encode_utf8_all more) left in
        absurd (valid.longest (length (encode_utf8_all more)) longer (more, (scalars, sym front)))
    at_most more left split scalars (inr within) size = omega (arith, within, size, length-take n bytes, valid.short)

-- the characters that are not left after
pub front_taken : (cs front rest : List ℕ) (left : ℕ) → cs ≡ front ++ rest → length rest ≡ left → take (length cs - left) cs ≡ front
front_taken cs front rest left split size =
    let n : length cs - left ≡ length front = omega (arith, ap length split, length-append front rest, size) in
    ap (λ k. take k cs) n ∙ ap (take (length front)) split ∙ take_front front rest

pub small_front : (bytes cs front rest : List ℕ) → IsDecoded bytes cs → cs ≡ front ++ rest → length (encode_utf8_all front) ≤ length bytes
small_front bytes cs front rest decoded split =
    omega (
      arith,
      ap length decoded.split,
      length-append (encode_utf8_all cs) decoded.rest,
      ap length (ap encode_utf8_all split ∙ encodes-append front rest),
      length-append (encode_utf8_all front) (encode_utf8_all rest),
    )
