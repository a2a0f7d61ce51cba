-- A line has one reading.
use Rattle.std.proofs.Common.{◌≡◌, ℕ, ◌+◌, ◌*◌, ◌<◌, Option, Some, None, List, [], ◌∷◌, length, get_or, drop, codes, refl, sym, ap, ap₂, ◌∙◌, subst, arith}
use Rattle.std.proofs.lemmas.Fmt.{decimal_injective}
use Rattle.rehearsal.specs.Script.{IsEnd, IsLine, IsStart, IsStop, mark_place, part_word, text_named, words}
use Rattle.rehearsal.specs.declared.line.Line.{Line}
use Rattle.rehearsal.specs.declared.line.Line.TheVariants.{Empty, TextBegins, Does}
use Rattle.rehearsal.specs.declared.step.Step.{Step}
use Rattle.rehearsal.specs.declared.step.Step.TheVariants.{Shelf, Key, Wants, Start}
use Rattle.rehearsal.specs.declared.step.StopAt.{StopAt}
use Rattle.rehearsal.specs.declared.step.StopPart.{StopPart}
use Rattle.rehearsal.specs.declared.step.StopPart.TheVariants.{Old, New, Filled}
use Rattle.rehearsal.specs.declared.texts.NamedText.{NamedText}

-- the first two bytes tell the form
abbrev pub first_two : Line → ℕ
first_two Empty = 0
first_two (TextBegins name) = 100 * 256 + 111
first_two (Does (Shelf configuration content)) = 115 * 256 + 104
first_two (Does (Key key)) = 107 * 256 + 101
first_two (Does (Wants id)) = 119 * 256 + 97
first_two (Does (Start own input stop)) = 115 * 256 + 116

abbrev two_of : List ℕ → ℕ
two_of line = get_or line 0 0 * 256 + get_or line 1 0

begins_so : (texts : List NamedText) (line : List ℕ) (read : Line) → IsLine texts line read → two_of line ≡ first_two read
begins_so texts line Empty is = ap two_of is
begins_so texts line (TextBegins name) is = ap two_of is.1
begins_so texts line (Does (Shelf configuration content)) is = ap two_of is.2
begins_so texts line (Does (Key key)) is = ap two_of is.0
begins_so texts line (Does (Wants id)) is = ap two_of is.0
begins_so texts line (Does (Start own input stop)) is = ap two_of is.1

same_some : {A : Type 0} (a b : A) → Some a ≡ Some b → a ≡ b
same_some a b is = ap (λ o. elim o [ None ↦ a | Some x ↦ x ]) is

same_part : (one other : StopPart) → part_word one ≡ part_word other → one ≡ other
same_part Old Old is = refl
same_part New New is = refl
same_part Filled Filled is = refl
same_part one other is = absurd (omega (arith, ap (λ (w : List ℕ). get_or w 0 0) is))

-- the words of a stop are of one
same_stop : (all : List (List ℕ)) (one other : Option StopAt) → IsStop all one → IsStop all other → one ≡ other
same_stop all None None is so = refl
same_stop all None (Some stop) is so = absurd (omega (arith, ap length is, ap length so.1))
same_stop all (Some stop) None is so = absurd (omega (arith, ap length is.1, ap length so))
same_stop all (Some one) (Some other) is so =
    let words_are = sym is.1 ∙ so.1 in
    let call_word : is.0 ≡ so.0 = ap (λ (w : List (List ℕ)). get_or w 1 []) words_are in
    let call : one.call ≡ other.call = decimal_injective one.call other.call (omega (arith, is.2)) (omega (arith, so.2)) (sym is.2.0 ∙ call_word ∙ so.2.0) in
    let part : one.part ≡ other.part = same_part one.part other.part (ap (λ (w : List (List ℕ)). get_or w 2 []) words_are) in
    ap₂ (λ (c : ℕ) (p : StopPart). Some (record { call = c; part = p })) call part

no_stop : (all rest : List (List ℕ)) (stop : Option StopAt) → IsStop all stop → all ≡ codes "<" ∷ rest → ⊥
no_stop all rest None is marked = omega (arith, ap length is, ap length marked)
no_stop all rest (Some stop) is marked = omega (arith, ap (λ (w : List (List ℕ)). get_or (get_or w 0 []) 0 0) (sym is.1 ∙ marked))

-- those of an input and a stop are of one of each
same_end : (texts : List NamedText) (all : List (List ℕ)) (one other : Option (List ℕ)) (stop another : Option StopAt)
    → IsEnd texts all one stop → IsEnd texts all other another → (one ≡ other) × (stop ≡ another)
same_end texts all None None stop another is so = (refl, same_stop all stop another is so)
same_end texts all None (Some text) stop another is so = absurd (no_stop all (so.0 ∷ so.1) stop is so.2)
same_end texts all (Some text) None stop another is so = absurd (no_stop all (is.0 ∷ is.1) another so is.2)
same_end texts all (Some one) (Some other) stop another is so =
    let words_are = sym is.2 ∙ so.2 in
    let name : is.0 ≡ so.0 = ap (λ (w : List (List ℕ)). get_or w 1 []) words_are in
    let more : is.1 ≡ so.1 = ap (λ (w : List (List ℕ)). drop 2 w) words_are in (
      sym is.3 ∙ ap (λ (n : List ℕ). text_named n texts) name ∙ so.3,
      same_stop so.1 stop another (subst (λ (w : List (List ℕ)). IsStop w stop) more is.4) so.4,
    )

same_start : (texts : List NamedText) (all own others : List (List ℕ)) (one other : Option (List ℕ)) (stop another : Option StopAt)
    → IsStart texts all own one stop → IsStart texts all others other another → Does (Start own one stop) ≡ Does (Start others other another)
same_start texts all own others one other stop another is so =
    let end = same_end texts (drop (mark_place all) all) one other stop another is.end so.end in
    ap (λ (w : List (List ℕ)). Does (Start w one stop)) (is.front ∙ sym so.front)
    ∙ ap₂ (λ (i : Option (List ℕ)) (s : Option StopAt). Does (Start others i s)) end.0 end.1

after_text : (step : Step) → first_two (TextBegins []) < first_two (Does step)
after_text (Shelf configuration content) = omega arith
after_text (Key key) = omega arith
after_text (Wants id) = omega arith
after_text (Start own input stop) = omega arith

by_form : (texts : List NamedText) (line : List ℕ) (one other : Line) → first_two one ≡ first_two other → IsLine texts line one → IsLine texts line other → one ≡ other
by_form texts line Empty Empty form is so = refl
by_form texts line (TextBegins one) (TextBegins other) form is so =
    let all = sym is.2 ∙ ap words (ap (λ l. drop 4 l) (sym is.1 ∙ so.1)) ∙ so.2 in
    ap (λ (w : List (List ℕ)). TextBegins (get_or w 0 [])) all
by_form texts line (Does (Shelf one content)) (Does (Shelf other text)) form is so =
    let all = sym is.3 ∙ ap words (ap (λ l. drop 6 l) (sym is.2 ∙ so.2)) ∙ so.3 in
    let same = sym is.5 ∙ ap (λ (w : List (List ℕ)). text_named (get_or w 1 []) texts) all ∙ so.5 in
    ap₂ (λ (w : List (List ℕ)) (c : List ℕ). Does (Shelf (get_or w 0 []) c)) all (same_some content text same)
by_form texts line (Does (Key one)) (Does (Key other)) form is so = ap (λ (l : List ℕ). Does (Key (drop 4 l))) (sym is.0 ∙ so.0)
by_form texts line (Does (Wants one)) (Does (Wants other)) form is so = ap (λ (l : List ℕ). Does (Wants (drop 6 l))) (sym is.0 ∙ so.0)
by_form texts line (Does (Start own one stop)) (Does (Start others other another)) form is so =
    let rest : is.0 ≡ so.0 = ap (λ (l : List ℕ). drop 6 l) (sym is.1 ∙ so.1) in
    same_start texts (words so.0) own others one other stop another (subst (λ (r : List ℕ). IsStart texts (words r) own one stop) rest is.2) so.2
by_form texts line (Does one) (Does other) form is so = absurd (omega (arith, form))
by_form texts line (Does one) Empty form is so = absurd (omega (arith, form, after_text one))
by_form texts line (Does one) (TextBegins name) form is so = absurd (omega (arith, form, after_text one))
by_form texts line Empty (Does other) form is so = absurd (omega (arith, form, after_text other))
by_form texts line (TextBegins name) (Does other) form is so = absurd (omega (arith, form, after_text other))
by_form texts line one other form is so = absurd (omega (arith, form))

pub same_line : (texts : List NamedText) (line : List ℕ) (one other : Line) → IsLine texts line one → IsLine texts line other → one ≡ other
same_line texts line one other is so = by_form texts line one other (sym (begins_so texts line one is) ∙ begins_so texts line other so) is so
