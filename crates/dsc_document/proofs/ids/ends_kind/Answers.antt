use Rattle.std.proofs.Common.{◌≡◌, ◌≢◌, ℕ, ◌≤◌, ◌<◌, ◌-◌, ◌+◌, List, [], ◌∷◌, ◌++◌, length, take, drop, get_or, true, false, not, eqb, refl, sym, ap, ◌∙◌, arith, take_all, append_assoc, length-append}
use Rattle.std.proofs.lemmas.List.{nil_from_length, append-nil}
use Rattle.std.specs.List.{list_all}
use Rattle.std.proofs.lemmas.Bool.{and_parts, and_from, both_ways, eq-eqb, ne_eqb, not-true}
use Rattle.dsc_document.specs.Declarations.{HasKindAndName, is_plain}
use Rattle.dsc_document.proofs.ids.ends_kind.Goals as goal

-- what stands before the first bracket is determined
front_is : (a c : List ℕ) (x y : ℕ) (b d : List ℕ) → list_all is_plain a ≡ true → list_all is_plain c ≡ true → is_plain x ≡ false → is_plain y ≡ false
    → a ++ x ∷ b ≡ c ++ y ∷ d → (a ≡ c) × (x ∷ b ≡ y ∷ d)
front_is [] [] x y b d plain_a plain_c ends_x ends_y e = (refl, e)
front_is [] (z ∷ c) x y b d plain_a plain_c ends_x ends_y e =
    let same : x ≡ z = cc in
    absurd (cc (ap is_plain same, (and_parts (is_plain z) (list_all is_plain c) plain_c).0, ends_x))
front_is (z ∷ a) [] x y b d plain_a plain_c ends_x ends_y e =
    let same : y ≡ z = cc in
    absurd (cc (ap is_plain same, (and_parts (is_plain z) (list_all is_plain a) plain_a).0, ends_y))
front_is (z ∷ a) (w ∷ c) x y b d plain_a plain_c ends_x ends_y e =
    let rest : a ++ x ∷ b ≡ c ++ y ∷ d = cc in
    let same = front_is a c x y b d (and_parts (is_plain z) (list_all is_plain a) plain_a).1 (and_parts (is_plain w) (list_all is_plain c) plain_c).1 ends_x ends_y rest in
    (cc (same.0), same.1)

-- a list with a bracket is not plain
plain_inside : (c : List ℕ) (y : ℕ) (d : List ℕ) → list_all is_plain (c ++ y ∷ d) ≡ true → is_plain y ≡ true
plain_inside [] y d plain = (and_parts (is_plain y) (list_all is_plain d) plain).0
plain_inside (z ∷ c) y d plain = plain_inside c y d (and_parts (is_plain z) (list_all is_plain (c ++ y ∷ d)) plain).1

plain_push : (c : List ℕ) (y : ℕ) → list_all is_plain c ≡ true → is_plain y ≡ true → list_all is_plain (c ++ y ∷ []) ≡ true
plain_push [] y plain last = and_from (is_plain y) true last refl
plain_push (z ∷ c) y plain last =
    let parts = and_parts (is_plain z) (list_all is_plain c) plain in
    and_from (is_plain z) (list_all is_plain (c ++ y ∷ [])) parts.0 (plain_push c y parts.1 last)

plain_of : (x : ℕ) → (x ≡ 91 → ⊥) → (x ≡ 93 → ⊥) → is_plain x ≡ true
plain_of x not_opening not_closing = and_from (not (eqb x 91)) (not (eqb x 93)) (ap not (ne_eqb x 91 not_opening)) (ap not (ne_eqb x 93 not_closing))

cons_from_reads : (xs : List ℕ) (x : ℕ) → 1 ≤ length xs → x ≡ get_or xs 0 x → xs ≡ x ∷ take (length xs - 1) (drop 1 xs)
cons_from_reads [] x some is = absurd (omega arith)
cons_from_reads (y ∷ ys) x some is =
    let all : take (length (y ∷ ys) - 1) ys ≡ ys = take_all (length (y ∷ ys) - 1) ys (omega arith) in
    cc

module _ (chars left passed rest : List ℕ) (begins : chars ≡ passed ++ left) (plain : list_all is_plain passed ≡ true) where
  -- how the two splits of the characters agree
  agree : (x : ℕ) → is_plain x ≡ false → left ≡ x ∷ rest → (h : HasKindAndName (91 ∷ chars)) → (passed ≡ h.kind) × (x ∷ rest ≡ 93 ∷ h.name)
  agree x ends is h =
      let all : chars ≡ h.kind ++ 93 ∷ h.name = cc (h.spelled) in
      front_is passed h.kind x 93 rest h.name plain h.no_bracket ends refl (ap (λ l. passed ++ l) (sym is) ∙ sym begins ∙ all)

  opened : left ≡ 91 ∷ rest → HasKindAndName (91 ∷ chars) → ⊥
  opened is h = let same : ◌≡◌ {A = ℕ} 91 93 = ap (λ l. get_or l 0 0) (agree 91 refl is h).1 in absurd (omega arith)

  closed : left ≡ 93 ∷ rest → length left < length chars → rest ≢ [] → HasKindAndName (91 ∷ chars)
  closed is later some = record {
    kind = passed;
    name = rest;
    spelled = ap (λ l. 91 ∷ l) (begins ∙ ap (λ l. passed ++ l) is);
    some_kind = λ none. let whole : chars ≡ left = begins ∙ ap (λ l. l ++ left) none in absurd (omega (arith, ap length whole));
    some_name = some;
    no_bracket = plain;
  }

  closed_once : left ≡ 93 ∷ rest → HasKindAndName (91 ∷ chars) → rest ≢ []
  closed_once is h none = h.some_name (cc ((agree 93 refl is h).1))

  closed_first : left ≡ 93 ∷ rest → length chars ≤ length left → HasKindAndName (91 ∷ chars) → ⊥
  closed_first is first h =
      let lengths : length chars ≡ length passed + length left = ap length begins ∙ length-append passed left in
      h.some_kind (sym (agree 93 refl is h).0 ∙ nil_from_length passed (omega arith))

never : (chars passed : List ℕ) → chars ≡ passed ++ [] → list_all is_plain passed ≡ true → HasKindAndName (91 ∷ chars) → ⊥
never chars passed whole plain h =
    let all : passed ++ [] ≡ h.kind ++ 93 ∷ h.name = cc (h.spelled) in
    absurd (cc (plain_inside h.kind 93 h.name (ap (list_all is_plain) (sym all ∙ append-nil passed) ∙ plain)))

pub returns-then-c-eq91 : goal.returns-then-c-eq91
returns-then-c-eq91 c =
    let left = cons_from_reads c.loop-left.left.now c.c-item.result c.in-len1-up.len_at_least c.c-item.is in
    let rest : List ℕ = take (length c.loop-left.left.now - 1) (drop 1 c.loop-left.left.now) in (
      λ no. absurd (cc no),
      λ h. absurd (opened c.args.chars.now c.loop-left.left.now c.loop-left.invariant.0 rest c.loop-left.invariant.1 c.loop-left.invariant.2 (left ∙ ap (λ x. x ∷ rest) c.if-c-eq91.true) h),
    )

pub returns-then-left-chars : goal.returns-then-left-chars
returns-then-left-chars c =
    let left = cons_from_reads c.loop-left.left.now c.c-item.result c.in-len1-up.len_at_least c.c-item.is in
    let rest : List ℕ = take (length c.loop-left.left.now - 1) (drop 1 c.loop-left.left.now) in
    let is : c.loop-left.left.now ≡ 93 ∷ rest = left ∙ ap (λ x. x ∷ rest) c.if-c-eq93.true in (
      λ some. closed c.args.chars.now c.loop-left.left.now c.loop-left.invariant.0 rest c.loop-left.invariant.1 c.loop-left.invariant.2 is c.if-left-chars.true
          (λ none. both_ways _ (not-true c.is_empty.result some) (c.is_empty.ensures ∙ eq-eqb (length rest) 0 (ap length none))),
      λ h. ap not (c.is_empty.ensures ∙ ne_eqb (length rest) 0
          (λ e. closed_once c.args.chars.now c.loop-left.left.now c.loop-left.invariant.0 rest c.loop-left.invariant.1 c.loop-left.invariant.2 is h (nil_from_length rest e))),
    )

pub loop-left-preserved : goal.loop-left-preserved
loop-left-preserved c =
    let left = cons_from_reads c.loop-left.left.now c.c-item.result c.in-len1-up.len_at_least c.c-item.is in (
      c.loop-left.invariant.0 ++ c.c-item.result ∷ [],
      c.loop-left.invariant.1 ∙ ap (λ l. c.loop-left.invariant.0 ++ l) left ∙ sym (append_assoc c.loop-left.invariant.0 (c.c-item.result ∷ []) _),
      plain_push c.loop-left.invariant.0 c.c-item.result c.loop-left.invariant.2 (plain_of c.c-item.result c.if-c-eq91.false c.if-c-eq93.false),
    )
