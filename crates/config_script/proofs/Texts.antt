-- The front of a text that is not closed, where its first apostrophe stands, texts without characters, and texts that are
-- shorter than a word.
use Rattle.std.proofs.Common.{◌≡◌, ◌↔◌, ◌≤◌, ◌<◌, ℕ, Bool, true, false, List, [], ◌∷◌, ◌++◌, None, cond, length, take, drop, refl, sym, ap, ap₂, subst, ◌∙◌, arith}
use Rattle.std.specs.Prelude.{◌==◌, IsTrue}
use Rattle.std.specs.Char.{to_ascii_lowercase}
use Rattle.std.specs.Str.{chars, IsUtf8, NonePass}
use Rattle.std.specs.Str.Pattern.{FindsChar, MatchBeginsAt}
use Rattle.std.proofs.lemmas.Bool.Decides.{nat_tests}
use Rattle.std.proofs.lemmas.List.{length-map, take-append-drop}
use Rattle.std.proofs.lemmas.Str.{encodes-chars, length-le-encodes, IsUtf8-take, IsUtf8-drop, chars-nil, chars-append, chars_past_char, chars_from_encodes}
use Rattle.mof_values.specs.Fold.{SameName}
use Rattle.config_script.specs.Fronts.{text_front}
use Rattle.config_script.specs.Lexing.{from_apostrophe}

-- after an apostrophe it is all of it
pub apostrophe_front : (cs us : List ℕ) (c : ℕ) → cs ≡ c ∷ us → (c == 39) ≡ true → chars [] ≡ text_front cs
unfolding chars
apostrophe_front cs us c e f = sym (ap text_front (e ∙ ap (λ (x : ℕ). x ∷ us) (equal_to c 39 f)))
  where
    equal_to : (c d : ℕ) → (c == d) ≡ true → c ≡ d
    equal_to c d e = grind (arith, nat_tests)

none_there : (cs : List ℕ) → NonePass (λ d. d == 39) cs → from_apostrophe cs ≡ []
none_there [] h = refl
none_there (c ∷ cs) h = ap (λ (b : Bool). cond b (c ∷ cs) (from_apostrophe cs)) h.0 ∙ none_there cs h.1

past_others : (cs rest : List ℕ) → NonePass (λ d. d == 39) cs → from_apostrophe (cs ++ 39 ∷ rest) ≡ 39 ∷ rest
past_others [] rest h = refl
past_others (c ∷ cs) rest h =
    ap (λ (b : Bool). cond b (c ∷ cs ++ 39 ∷ rest) (from_apostrophe (cs ++ 39 ∷ rest))) h.0 ∙ past_others cs rest h.1

-- the answers of `find`
pub no_apostrophe : (text : List ℕ) → IsUtf8 text → FindsChar 39 text None → chars [] ≡ from_apostrophe (chars text)
no_apostrophe text u h = chars-nil ∙ sym (ap from_apostrophe (sym (chars_from_encodes h.0 text u h.1)) ∙ none_there h.0 h.2)

pub first_apostrophe : (text rest : List ℕ) (i : ℕ) → IsUtf8 text → MatchBeginsAt (FindsChar 39) text i → rest ≡ drop i text
    → chars rest ≡ from_apostrophe (chars text)
first_apostrophe text rest i u h e =
    let front : IsUtf8 (take i text) = IsUtf8-take text i u h.3 in
    let others = h.1.0 in
    let after : chars (drop i text) ≡ 39 ∷ chars (drop h.0 text) =
    chars_past_char (drop i text) (drop h.0 text) 39 (IsUtf8-drop text i u h.3) h.1.1.split in
    let whole : chars text ≡ others.0 ++ 39 ∷ chars (drop h.0 text) =
    ap chars (sym (take-append-drop i text)) ∙ chars-append (take i text) (drop i text) front
    ∙ ap₂ (λ (xs ys : List ℕ). xs ++ ys) (sym (chars_from_encodes others.0 (take i text) front others.1)) after in
    ap chars e ∙ after ∙ sym (ap from_apostrophe whole ∙ past_others others.0 (chars (drop h.0 text)) others.2)

pub empty_list : (cs : List ℕ) → length cs ≡ 0 → cs ≡ []
empty_list [] h = refl
empty_list (c ∷ cs) h = absurd (omega arith)

-- a text of fewer bytes than the word has characters is another name
pub shorter_is_other : (text word : List ℕ) → IsUtf8 text → length text < length word → (IsTrue false ↔ SameName (chars text) word)
shorter_is_other text word u short = (λ e. absurd (wrong e), λ h. absurd (unequal h))
  where
    wrong : IsTrue false → ⊥
    wrong e = cc

    unequal : SameName (chars text) word → ⊥
    unequal h =
        let few : length (chars text) ≤ length text =
        subst (λ (xs : List ℕ). length (chars text) ≤ length xs) (encodes-chars text u) (length-le-encodes (chars text)) in
        let same : length (chars text) ≡ length word = sym (length-map (chars text) to_ascii_lowercase) ∙ ap length h ∙ length-map word to_ascii_lowercase in
        omega (arith, few, same, short)
