-- Texts that go wrong with their first character.
use Rattle.std.proofs.Common.{◌≡◌, ◌≤◌, ◌<◌, ◌⊎◌, inl, inr, ℕ, zero, suc, true, false, List, [], ◌∷◌, ◌++◌, length, take, codes, refl, sym, subst, ◌∙◌, arith}
use Rattle.std.specs.Prelude.{◌==◌}
use Rattle.std.proofs.lemmas.Bool.{cases_lt}
use Rattle.std.proofs.lemmas.Bool.Decides.{nat_tests}
use Rattle.std.specs.Char.{to_ascii_lowercase}
use Rattle.mof_values.specs.Fold.{SameName}
use Rattle.mof_values.specs.declared.instance.Instance.{Instance}
use Rattle.mof_syntax.specs.declared.mof_error.MofError.{MofError}
use Rattle.mof_syntax.specs.declared.mof_error.MofError.TheVariants.{TooLong, Text, Syntax, OutOfProfile, NumberRange, TooMany, Memory}
use Rattle.mof_syntax.specs.declared.mof_error.Form.{Form}
use Rattle.mof_syntax.specs.Characters.{is_blank}
use Rattle.mof_syntax.specs.Separators.{Separator, blank, line, block}
use Rattle.mof_syntax.specs.Tokens.{Lexeme, Word, Identifier, identifier, IsToken, word, Lexes, end, separator, token}
use Rattle.mof_syntax.specs.Grammar.{InstanceDeclarations, nothing, instance_declaration, Wide}
use Rattle.mof_syntax.specs.Fronts.{IsFront, IsSyntaxFault, BeginsDeclaration}
use Rattle.mof_syntax.specs.declared.mof_error.Form.TheVariants as forms
use Rattle.mof_syntax.specs.Profile.{class}
use Rattle.mof_syntax.specs.Profile as profile
use Rattle.mof_syntax.specs.Refusals.{Applies, WinsOver, Wins}

separator_first : (c : ℕ) (cs rest : List ℕ) → Separator (c ∷ cs) rest → (is_blank c ≡ true) ⊎ (c ≡ 47)
separator_first c cs rest (blank d r h) = inl h
separator_first c cs rest (line us r l) = inr refl
separator_first c cs rest (block us r b) = inr refl

name_first : (c : ℕ) (cs name rest : List ℕ) → Identifier (c ∷ cs) name rest → (tail : List ℕ) × (name ≡ c ∷ tail)
name_first c cs name rest (identifier d us tail r e run s) = (tail, refl)

word_first : (c : ℕ) (cs name rest : List ℕ) → IsToken (c ∷ cs) (Word name) rest → (tail : List ℕ) × (name ≡ c ∷ tail)
word_first c cs name rest (word us n r i) = name_first c cs n r i

declared_first : (t : Lexeme) (ts : List Lexeme) (is : List Instance) → InstanceDeclarations (t ∷ ts) is → (name : List ℕ) × (t ≡ Word name) × SameName name (codes "instance")
declared_first t ts is (instance_declaration i o k alias us body after ps more hi ho ha hp hd) = (i, refl, hi)

head_same : (c d : ℕ) (cs ds : List ℕ) → (c ∷ cs) ≡ (d ∷ ds) → c ≡ d
head_same c d cs ds e = cc

-- no text of the grammar begins with the character
pub record BeginsNone (c : ℕ) : Type 0 where
  pub no_blank : is_blank c ≡ false
  pub no_slash : (c == 47) ≡ false
  pub no_keyword : (to_ascii_lowercase c == 105) ≡ false

wrong_letter : (c : ℕ) (name tail : List ℕ) → BeginsNone c → name ≡ c ∷ tail → SameName name (codes "instance") → ⊥
wrong_letter c name tail b e same =
    let spelled : SameName (c ∷ tail) (codes "instance") = subst (λ (n : List ℕ). SameName n (codes "instance")) e same in
    differ (to_ascii_lowercase c) b.no_keyword (head_same (to_ascii_lowercase c) 105 _ _ spelled)
  where
    differ : (x : ℕ) → (x == 105) ≡ false → x ≡ 105 → ⊥
    differ x h e = grind (arith, nat_tests)

no_wide : (c : ℕ) (cs : List ℕ) → BeginsNone c → (ts : List Lexeme) (is : List Instance) → Lexes (c ∷ cs) ts → InstanceDeclarations ts is → ⊥
no_wide c cs b ts is (separator ds r us s l) d = elim (separator_first c cs r s) [
  | inl h ↦ blank_clash (sym h ∙ b.no_blank)
  | inr h ↦ slash_clash c h b.no_slash
]
  where
    blank_clash : true ≡ false → ⊥
    blank_clash e = cc

    slash_clash : (x : ℕ) → x ≡ 47 → (x == 47) ≡ false → ⊥
    slash_clash x e h = grind (arith, nat_tests)
no_wide c cs b ts is (token ds t r us i l) d =
    let first = declared_first t us is d in
    let i' : IsToken (c ∷ cs) (Word first.0) r = subst (λ (u : Lexeme). IsToken (c ∷ cs) u r) first.1 i in
    let named = word_first c cs first.0 r i' in
    wrong_letter c first.0 named.0 b named.1 first.2

pub no_front : (c : ℕ) (cs : List ℕ) → BeginsNone c → IsFront (c ∷ cs) → ⊥
no_front c cs b f = no_wide c (cs ++ f.0) b f.1.1.0 f.1.0 f.1.1.1 f.1.1.2

pub empty_wide : Wide []
empty_wide = ([], ([], end, nothing))

pub wrong_at_once : (c : ℕ) (cs : List ℕ) → BeginsNone c → IsSyntaxFault (c ∷ cs) 0
wrong_at_once c cs b = record {
  outside = λ w. no_wide c cs b w.1.0 w.0 w.1.1 w.1.2;
  within = omega arith;
  front = ([], empty_wide);
  longest = at_most;
}
  where
    at_most : (n : ℕ) → n ≤ length (c ∷ cs) → IsFront (take n (c ∷ cs)) → n ≤ 0
    at_most zero le f = omega arith
    at_most (suc n) le f = absurd (no_front c (take n cs) b f)

pub begins_at_once : (text : List ℕ) → BeginsDeclaration text 0
begins_at_once text = record { whole = empty_wide; outside = λ m. no_front 35 [] (record { no_blank = refl; no_slash = refl; no_keyword = refl }) m }

at_first : (p r : ℕ) → 1 ≤ r → (0 < p) ⊎ ((0 ≡ p) × (1 ≤ r))
at_first p r h = elim (cases_lt 0 p) [ inl past ↦ inl past | inr here ↦ inr (omega arith, h) ]

form_wins : (text : List ℕ) (form : Form) (other : MofError) → Applies text other → WinsOver (OutOfProfile 0 form) other
form_wins text form (OutOfProfile at what) a = at_first at 1 (omega arith)
form_wins text form (NumberRange at) a = at_first at 2 (omega arith)
form_wins text form (TooMany at) a = at_first at 3 (omega arith)
form_wins text form (Syntax at) a = at_first at 4 (omega arith)
form_wins text form TooLong a = absurd a
form_wins text form (Text at) a = absurd a
form_wins text form Memory a = absurd a

pub form_refused : (c : ℕ) (cs : List ℕ) (form : Form) → BeginsNone c → profile.OutOfProfile (c ∷ cs) 0 0 form → Wins (c ∷ cs) (OutOfProfile 0 form)
form_refused c cs form b o = record { applies = (0, wrong_at_once c cs b, o); first = λ other a. form_wins (c ∷ cs) form other a }

class_stands : (text : List ℕ) (fault at : ℕ) → profile.OutOfProfile text fault at forms.Class → (fault ≡ at) × profile.WordStands text at (codes "class")
class_stands text fault at (class b w) = (refl, w)

-- the word does not stand where a letter goes on
pub no_longer_word : Applies (codes "classes A {};") (OutOfProfile 0 forms.Class) → ⊥
no_longer_word a = letter_clash (class_stands (codes "classes A {};") a.0 0 a.2).1.stops
  where
    letter_clash : true ≡ false → ⊥
    letter_clash e = cc
