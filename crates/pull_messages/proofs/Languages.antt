-- Languages no text of which begins another.
use Rattle.std.proofs.Common.{◌≡◌, ◌⊎◌, inl, inr, ℕ, ◌≤◌, List, [], ◌∷◌, ◌++◌, length, min, true, refl, sym, ◌∙◌, ap, subst, arith, append_assoc, append-nil, length-append}
use Rattle.std.specs.Str.{all_scalars}
use Rattle.pull_messages.specs.Stops.{Begins, StopsAt, EndsAt, Then}
use Rattle.pull_messages.proofs.Scalars.{scalars_front, scalars_join}
use Rattle.std.proofs.lemmas.Bool.Decides.{nat_tests}

-- of two splits of a list one front begins the other
pub fronts : (a r b s : List ℕ) → a ++ r ≡ b ++ s
    → ((u : List ℕ) × (a ≡ b ++ u) × (s ≡ u ++ r)) ⊎ ((u : List ℕ) × (b ≡ a ++ u) × (r ≡ u ++ s))
fronts [] r b s e = inr (b, refl, e)
fronts (x ∷ a) r [] s e = inl (x ∷ a, refl, sym e)
fronts (x ∷ a) r (y ∷ b) s e =
    let head : x ≡ y = cc in
    let tail : a ++ r ≡ b ++ s = cc in
    let back : y ≡ x = cc in
    elim (fronts a r b s tail) [
      | inl longer ↦ inl (longer.0, (λ i. head i ∷ longer.1 i), longer.2)
      | inr shorter ↦ inr (shorter.0, (λ i. back i ∷ shorter.1 i), shorter.2)
    ]

pub same_front : (a r b s : List ℕ) → a ++ r ≡ b ++ s → length a ≡ length b → (a ≡ b) × (r ≡ s)
same_front [] r [] s e len = (refl, e)
same_front [] r (y ∷ b) s e len = absurd (omega arith)
same_front (x ∷ a) r [] s e len = absurd (omega arith)
same_front (x ∷ a) r (y ∷ b) s e len =
    let head : x ≡ y = cc in
    let tail : a ++ r ≡ b ++ s = cc in
    let rest = same_front a r b s tail (omega arith) in
    ((λ i. head i ∷ rest.0 i), rest.1)

pub empty_end : (a u : List ℕ) → a ≡ a ++ u → u ≡ []
empty_end a [] e = refl
empty_end a (x ∷ u) e = absurd (omega (arith, ap length e, length-append a (x ∷ u)))

-- no text of the language begins another
abbrev pub PrefixFree : (List ℕ → Type 0) → Type 0
PrefixFree language = (a r b s : List ℕ) → language a → language b → a ++ r ≡ b ++ s → a ≡ b

pub then_free : (one other : List ℕ → Type 0) → PrefixFree one → PrefixFree other → PrefixFree (Then one other)
then_free one other one_free other_free x r y s in_x in_y e =
    let whole : in_x.0 ++ (in_x.1 ++ r) ≡ in_y.0 ++ (in_y.1 ++ s) =
    sym (append_assoc in_x.0 in_x.1 r) ∙ ap (λ (l : List ℕ). l ++ r) (sym in_x.2) ∙ e ∙ ap (λ (l : List ℕ). l ++ s) in_y.2 ∙ append_assoc in_y.0 in_y.1 s in
    let first = one_free in_x.0 (in_x.1 ++ r) in_y.0 (in_y.1 ++ s) in_x.3 in_y.3 whole in
    let rest = (same_front in_x.0 (in_x.1 ++ r) in_y.0 (in_y.1 ++ s) whole (ap length first)).1 in
    let second = other_free in_x.1 r in_y.1 s in_x.4 in_y.4 rest in
    in_x.2 ∙ (λ i. first i ++ second i) ∙ sym in_y.2

-- a front that is itself a text of the language stands within the longest front, and is none
pub no_front : (language : List ℕ → Type 0) (chars : List ℕ) (left : ℕ) → PrefixFree language → StopsAt language chars left
    → (a r : List ℕ) → chars ≡ a ++ r → language a → ⊥
no_front language chars left free stops a r split in_a =
    let size = stops.longest a r split (let there : language (a ++ []) = subst language (sym (append-nil a)) in_a in ([], refl, there)) in
    let tail = stops.begins in
    elim (fronts a r stops.front stops.rest (sym split ∙ stops.split)) [
      | inl longer ↦
          let empty : longer.0 ≡ [] = no_cells longer.0 (omega (arith, ap length longer.2, length-append longer.0 r, stops.size, size)) in
          stops.whole (subst language (longer.1 ∙ ap (λ (u : List ℕ). stops.front ++ u) empty ∙ append-nil stops.front) in_a)
      | inr shorter ↦
          let joined : a ++ (shorter.0 ++ tail.0) ≡ (stops.front ++ tail.0) ++ [] =
          sym (append_assoc a shorter.0 tail.0) ∙ ap (λ (l : List ℕ). l ++ tail.0) (sym shorter.1) ∙ sym (append-nil (stops.front ++ tail.0)) in
          let same = free a (shorter.0 ++ tail.0) (stops.front ++ tail.0) [] in_a tail.2 joined in
          let small : shorter.0 ≡ [] = no_cells shorter.0 (omega (arith, ap length same, ap length shorter.1, length-append a shorter.0, length-append stops.front tail.0)) in
          stops.whole (subst language (sym (shorter.1 ∙ ap (λ (u : List ℕ). a ++ u) small ∙ append-nil a)) in_a)
    ]
  where
    no_cells : (u : List ℕ) → length u ≤ 0 → u ≡ []
    no_cells [] e = refl
    no_cells (x ∷ u) e = absurd (omega arith)

abbrev pub IsSome : (List ℕ → Type 0) → Type 0
IsSome language = (text : List ℕ) × (all_scalars text ≡ true) × language text

pub then_some : (one other : List ℕ → Type 0) → IsSome one → IsSome other → IsSome (Then one other)
then_some one other a b = (a.0 ++ b.0, scalars_join a.0 b.0 a.1 b.1, (a.0, b.0, refl, a.2, b.2))

-- the first part stops
pub stop_first : (one other : List ℕ → Type 0) (chars : List ℕ) (left : ℕ) → PrefixFree one → IsSome other → StopsAt one chars left → StopsAt (Then one other) chars left
stop_first one other chars left free some stops =
    let tail = stops.begins in
    record {
      front = stops.front;
      rest = stops.rest;
      split = stops.split;
      size = stops.size;
      begins = (
        tail.0 ++ some.0,
        scalars_join tail.0 some.0 tail.1 some.1,
        (stops.front ++ tail.0, some.0, sym (append_assoc stops.front tail.0 some.0), tail.2, some.2),
      );
      whole = λ both. no_front one chars left free stops both.0 (both.1 ++ stops.rest)
          (stops.split ∙ ap (λ (l : List ℕ). l ++ stops.rest) both.2 ∙ append_assoc both.0 both.1 stops.rest) both.3;
      longest = λ more rest split begun.
          elim (fronts begun.2.0 begun.2.1 more begun.0 (sym begun.2.2)) [
            | inl longer ↦
                let starts : Begins one more =
                (longer.0, scalars_front longer.0 begun.2.1 (subst (λ (l : List ℕ). all_scalars l ≡ true) longer.2 begun.1), subst one longer.1 begun.2.3) in
                stops.longest more rest split starts
            | inr shorter ↦
                absurd (no_front one chars left free stops begun.2.0 (shorter.0 ++ rest)
                (split ∙ ap (λ (l : List ℕ). l ++ rest) shorter.1 ∙ append_assoc begun.2.0 shorter.0 rest) begun.2.3)
          ];
    }

-- the first part was taken, and the other stops
pub stop_second : (one other : List ℕ → Type 0) (chars f rest : List ℕ) (left : ℕ) → PrefixFree one → chars ≡ f ++ rest → one f
    → StopsAt other rest left → StopsAt (Then one other) chars left
stop_second one other chars f rest left free split in_one stops =
    let tail = stops.begins in
    record {
      front = f ++ stops.front;
      rest = stops.rest;
      split = split ∙ ap (λ (l : List ℕ). f ++ l) stops.split ∙ sym (append_assoc f stops.front stops.rest);
      size = stops.size;
      begins = (tail.0, tail.1, (f, stops.front ++ tail.0, append_assoc f stops.front tail.0, in_one, tail.2));
      whole = λ both.
          let first = free f (stops.front ++ []) both.0 (both.1 ++ []) in_one both.3
          (ap (λ (l : List ℕ). f ++ l) (append-nil stops.front) ∙ both.2 ∙ ap (λ (l : List ℕ). both.0 ++ l) (sym (append-nil both.1))) in
          let second = (same_front f stops.front both.0 both.1 both.2 (ap length first)).1 in
          stops.whole (subst other (sym second) both.4);
      longest = λ more after more_split begun.
          elim (fronts begun.2.0 begun.2.1 more begun.0 (sym begun.2.2)) [
            | inl longer ↦ within_one more after more_split begun.2.0 longer.0 longer.1 begun.2.3
            | inr shorter ↦
                let chars_split : f ++ rest ≡ begun.2.0 ++ (shorter.0 ++ after) =
                sym split ∙ more_split ∙ ap (λ (l : List ℕ). l ++ after) shorter.1 ∙ append_assoc begun.2.0 shorter.0 after in
                let first = free f rest begun.2.0 (shorter.0 ++ after) in_one begun.2.3 chars_split in
                let rest_split = (same_front f rest begun.2.0 (shorter.0 ++ after) chars_split (ap length first)).1 in
                let starts : Begins other shorter.0 = (begun.0, begun.1, subst other shorter.2 begun.2.4) in
                stops.longest shorter.0 after rest_split starts
          ];
    }
  where
    within_one : (more after : List ℕ) → chars ≡ more ++ after → (a u : List ℕ) → a ≡ more ++ u → one a → left ≤ length after
    within_one more after more_split a u is in_a =
        let sizes = ap length stops.split in
        elim (fronts f rest more after (sym split ∙ more_split)) [
          | inl longer ↦ omega (arith, ap length longer.2, length-append longer.0 rest, sizes, length-append stops.front stops.rest, stops.size)
          | inr shorter ↦
              let joined : f ++ (shorter.0 ++ u) ≡ a ++ [] = sym (append_assoc f shorter.0 u) ∙ ap (λ (l : List ℕ). l ++ u) (sym shorter.1) ∙ sym is ∙ sym (append-nil a) in
              let same = free f (shorter.0 ++ u) a [] in_one in_a joined in
              omega (
                arith,
                ap length same,
                ap length is,
                ap length shorter.1,
                length-append f shorter.0,
                length-append more u,
                ap length shorter.2,
                length-append shorter.0 after,
                sizes,
                length-append stops.front stops.rest,
                stops.size,
              )
        ]

pub ends_of_stop : (language : List ℕ → Type 0) (chars : List ℕ) (left : ℕ) → PrefixFree language → StopsAt language chars left → EndsAt language chars left
ends_of_stop language chars left free stops =
    record {
      front = stops.front;
      rest = stops.rest;
      split = stops.split;
      size = stops.size;
      begins = stops.begins;
      none = λ whole. no_front language chars left free stops chars [] (sym (append-nil chars)) whole;
      longest = stops.longest;
    }

pub ends_of_rest : (language : List ℕ → Type 0) (chars f rest : List ℕ) → PrefixFree language → chars ≡ f ++ rest → language f → 1 ≤ length rest
    → EndsAt language chars (length rest)
ends_of_rest language chars f rest free split in_f some =
    record {
      front = f;
      rest = rest;
      split = split;
      size = refl;
      begins = ([], refl, subst language (sym (append-nil f)) in_f);
      none = λ whole.
          let same = free f rest chars [] in_f whole (sym split ∙ sym (append-nil chars)) in
          absurd (omega (arith, some, ap length same, ap length split, length-append f rest));
      longest = λ more after more_split begun.
          elim (fronts f rest more after (sym split ∙ more_split)) [
            | inl longer ↦ omega (arith, ap length longer.2, length-append longer.0 rest)
            | inr shorter ↦
                let joined : f ++ (shorter.0 ++ begun.0) ≡ (more ++ begun.0) ++ [] =
                sym (append_assoc f shorter.0 begun.0) ∙ ap (λ (l : List ℕ). l ++ begun.0) (sym shorter.1) ∙ sym (append-nil (more ++ begun.0)) in
                let same = free f (shorter.0 ++ begun.0) (more ++ begun.0) [] in_f begun.2 joined in
                omega (arith, ap length same, length-append more begun.0, ap length shorter.1, length-append f shorter.0, ap length shorter.2, length-append shorter.0 after)
          ];
    }

pub ends_same : (one other : List ℕ → Type 0) (chars : List ℕ) (left : ℕ) → ((text : List ℕ) → one text → other text) → ((text : List ℕ) → other text → one text)
    → EndsAt one chars left → EndsAt other chars left
ends_same one other chars left there back ends =
    record {
      front = ends.front;
      rest = ends.rest;
      split = ends.split;
      size = ends.size;
      begins = (ends.begins.0, ends.begins.1, there (ends.front ++ ends.begins.0) ends.begins.2);
      none = λ whole. ends.none (back chars whole);
      longest = λ more after split begun. ends.longest more after split (begun.0, begun.1, back (more ++ begun.0) begun.2);
    }

abbrev pub Either : (List ℕ → Type 0) → (List ℕ → Type 0) → List ℕ → Type 0
Either one other text = one text ⊎ other text

pub ends_either : (one other : List ℕ → Type 0) (chars : List ℕ) (a b : ℕ) → EndsAt one chars a → EndsAt other chars b → EndsAt (Either one other) chars (min a b)
ends_either one other chars a b first second =
    elim (least a b) [
      | inl here ↦ subst (λ n. EndsAt (Either one other) chars n) (sym here.0) (record {
        front = first.front;
        rest = first.rest;
        split = first.split;
        size = first.size;
        begins = (first.begins.0, first.begins.1, inl first.begins.2);
        none = none;
        longest = λ more after split begun. elim begun.2 [
          | inl x ↦ first.longest more after split (begun.0, begun.1, x)
          | inr y ↦ omega (arith, here.1, second.longest more after split (begun.0, begun.1, y))
        ];
      })
      | inr here ↦ subst (λ n. EndsAt (Either one other) chars n) (sym here.0) (record {
        front = second.front;
        rest = second.rest;
        split = second.split;
        size = second.size;
        begins = (second.begins.0, second.begins.1, inr second.begins.2);
        none = none;
        longest = λ more after split begun. elim begun.2 [
          | inl x ↦ omega (arith, here.1, first.longest more after split (begun.0, begun.1, x))
          | inr y ↦ second.longest more after split (begun.0, begun.1, y)
        ];
      })
    ]
  where
    none : Either one other chars → ⊥
    none (inl x) = first.none x
    none (inr y) = second.none y

    least : (m n : ℕ) → ((min m n ≡ m) × (m ≤ n)) ⊎ ((min m n ≡ n) × (n ≤ m))
    least m n = grind (arith, nat_tests)
