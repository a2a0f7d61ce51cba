-- The texts of parts are appended one after the other.
use Rattle.std.proofs.Common.{◌≡◌, ℕ, ◌+◌, ◌-◌, ◌<◌, ◌≤◌, List, [], ◌∷◌, ◌++◌, length, take, drop, get_or, refl, sym, ap, subst, ◌∙◌, append_assoc, arith}
use Rattle.std.proofs.lemmas.List.{append-nil, nil_from_length}
use Rattle.std.specs.Prelude.{codes}
use Rattle.std.specs.List.{AllByRecursion}
use Rattle.dsc_document.proofs.Passing.{front_of}
use Rattle.partial_merge.specs.declared.part.Part.{Part}
use Rattle.staged_text.specs.Texts.{AreFurther, AreTextsOf, IsTextOf, Spells}

-- before the text of the parts that are left come those of the others
abbrev pub SoFar : List Part → List Part → List ℕ → List ℕ → Type 0
SoFar all left before now = (more : List ℕ) → AreFurther left more → (further : List ℕ) × AreFurther all further × (before ++ further ≡ now ++ more)

pub begun : (all : List Part) (text : List ℕ) → SoFar all all text text
begun all text = λ more further. (more, further, refl)

-- the list that begins with this part
abbrev pub Begins : List Part → Part → Type 0
Begins left part = left ≡ part ∷ take (length left - 1) (drop 1 left)

pub spelled_first : (left : List Part) (part : Part) → Begins left part → AllByRecursion Spells left → Spells part
spelled_first left part is spelled = (subst (λ (l : List Part). AllByRecursion Spells l) is spelled).0

pub spelled_rest : (left : List Part) (part : Part) → Begins left part → AllByRecursion Spells left → AllByRecursion Spells (take (length left - 1) (drop 1 left))
spelled_rest left part is spelled = (subst (λ (l : List Part). AllByRecursion Spells l) is spelled).1

pub goes_on : (all left : List Part) (part : Part) (before now one new : List ℕ) → Begins left part → SoFar all left before now → IsTextOf part one
    → new ≡ (now ++ 10 ∷ []) ++ one → SoFar all (take (length left - 1) (drop 1 left)) before new
goes_on all left part before now one new is so_far text made = λ more further.
    let done = so_far (10 ∷ one ++ more) (subst (λ (l : List Part). AreFurther l (10 ∷ one ++ more)) (sym is) (one, more, text, further, refl)) in
    (done.0, done.1, done.2 ∙ sym (append_assoc (now ++ 10 ∷ []) one more ∙ append_assoc now (10 ∷ []) (one ++ more)) ∙ ap (λ (l : List ℕ). l ++ more) (sym made))

pub ended : (all left : List Part) (before now : List ℕ) → length left < 1 → SoFar all left before now → (further : List ℕ) × AreFurther all further × (now ≡ before ++ further)
ended all left before now none so_far =
    let done = so_far [] (subst (λ (l : List Part). AreFurther l []) (sym (nil_from_length left (omega (arith, none)))) refl) in
    (done.0, done.1, sym (append-nil now) ∙ sym done.2)

pub none_of : (parts : List Part) (text : List ℕ) → length parts < 1 → text ≡ [] → AreTextsOf parts text
none_of parts text none is = subst (λ (l : List Part). AreTextsOf l text) (sym (nil_from_length parts (omega (arith, none)))) is

pub texts_of : (parts : List Part) (part : Part) (first text : List ℕ) → Begins parts part → IsTextOf part first
    → (further : List ℕ) × AreFurther (take (length parts - 1) (drop 1 parts)) further × (text ≡ first ++ further) → AreTextsOf parts text
texts_of parts part first text is spelled further =
    subst (λ (l : List Part). AreTextsOf l text) (sym is) (first, further.0, spelled, further.1, further.2)
