-- Tokens at the front of characters, after separators.
use Rattle.std.proofs.Common.{◌≡◌, ℕ, List, [], ◌∷◌, None, refl, sym, ap, subst}
use Rattle.mof_syntax.specs.Separators.{Separator, Separators, none, another}
use Rattle.mof_syntax.specs.Tokens.{Lexeme, IsToken, Lexes, end, separator, token}
use Rattle.mof_syntax.specs.Scanning.{separator_rest}
use Rattle.mof_syntax.specs.Walk.{NoSeparator}
use Rattle.mof_syntax.proofs.Absent.{no_separator}
use Rattle.mof_syntax.proofs.Suffixes.{separator_ends, token_ends}
use Rattle.mof_syntax.proofs.UniqueTokens.{separator_same, no_both, nothing_within, token_same}
use Rattle.mof_codec.specs.Reading.{Begins}

-- separators

pub skip_on : (cs left : List ℕ) (ts : List Lexeme) → Separators cs left → Lexes left ts → Lexes cs ts
skip_on cs left ts (none r) l = l
skip_on cs left ts (another us after r s more) l = separator us after ts s (skip_on after r ts more l)

separator_off : (cs rest : List ℕ) (ts : List Lexeme) → Separator cs rest → Lexes cs ts → Lexes rest ts
separator_off cs rest ts s end = absurd (nothing_within rest (separator_ends [] rest s))
separator_off cs rest ts s (separator ds q vs p l) = subst (λ (xs : List ℕ). Lexes xs vs) (sym (separator_same ds rest q s p)) l
separator_off cs rest ts s (token ds t q vs i l) = absurd (no_both ds t rest q s i)

pub skip_only : (cs left : List ℕ) (ts : List Lexeme) → Separators cs left → Lexes cs ts → Lexes left ts
skip_only cs left ts (none r) l = l
skip_only cs left ts (another us after r s more) l = skip_only after r ts more (separator_off us after ts s l)

-- a token that stands there comes first

tokens_there : (cs : List ℕ) (t : Lexeme) (rest : List ℕ) (us : List Lexeme) → IsToken cs t rest → Lexes cs us → (ts : List Lexeme) × Lexes rest ts × (us ≡ t ∷ ts)
tokens_there cs t rest us i end = absurd (nothing_within rest (token_ends [] t rest i))
tokens_there cs t rest us i (separator ds q vs p l) = absurd (no_both ds t q rest p i)
tokens_there cs t rest us i (token ds u q vs j l) =
    let same = token_same ds t rest u q i j in
    (vs, subst (λ (xs : List ℕ). Lexes xs vs) (sym same.1) l, ap (λ (x : Lexeme). x ∷ vs) (sym same.0))

pub begins_token : (cs left : List ℕ) (t : Lexeme) (rest : List ℕ) → Separators cs left → IsToken left t rest → Begins (λ us ts. us ≡ t ∷ ts) cs rest
begins_token cs left t rest s i = record {
  on = λ ts l. (t ∷ ts, skip_on cs left (t ∷ ts) s (token left t rest ts i l), refl);
  only = λ us l. tokens_there left t rest us i (skip_only cs left us s l);
}

-- the first of the tokens stands there

token_first : (cs : List ℕ) (t : Lexeme) (ts : List Lexeme) → NoSeparator cs → Lexes cs (t ∷ ts) → (rest : List ℕ) × IsToken cs t rest × Lexes rest ts
token_first cs t ts n (separator ds q vs p l) = absurd (n q p)
token_first cs t ts n (token ds u q vs j l) = (q, j, l)

pub first_token : (cs left : List ℕ) (t : Lexeme) (ts : List Lexeme) → Separators cs left → separator_rest left ≡ None → Lexes cs (t ∷ ts) → (rest : List ℕ) × IsToken left t rest × Lexes rest ts
first_token cs left t ts s e l = token_first left t ts (no_separator left e) (skip_only cs left (t ∷ ts) s l)

-- the same, where the tokens are known by an equation
pub first_of : (cs left : List ℕ) (us : List Lexeme) (t : Lexeme) (ts : List Lexeme) → Separators cs left → separator_rest left ≡ None → Lexes cs us → us ≡ t ∷ ts → (rest : List ℕ) × IsToken left t rest × Lexes rest ts
first_of cs left us t ts s e l same = first_token cs left t ts s e (subst (λ (xs : List Lexeme). Lexes cs xs) same l)

-- what is after is looked at in the same way
pub begins_as : (D E : List Lexeme → List Lexeme → Type 0) (cs rest : List ℕ) → ((us ts : List Lexeme) → D us ts → E us ts) → Begins D cs rest → Begins E cs rest
begins_as D E cs rest f b = record {
  on = λ ts l. let x = b.on ts l in (x.0, x.1, f x.0 ts x.2);
  only = λ us l. let x = b.only us l in (x.0, x.1, f us x.0 x.2);
}

pub begins_at : (D E : List Lexeme → List Lexeme → Type 0) (cs rest : List ℕ) → ((us ts : List Lexeme) → Lexes rest ts → D us ts → E us ts) → Begins D cs rest → Begins E cs rest
begins_at D E cs rest f b = record {
  on = λ ts l. let x = b.on ts l in (x.0, x.1, f x.0 ts l x.2);
  only = λ us l. let x = b.only us l in (x.0, x.1, f us x.0 x.1 x.2);
}

-- one after the other
abbrev pub Joined : (List Lexeme → List Lexeme → Type 0) → (List Lexeme → List Lexeme → Type 0) → List Lexeme → List Lexeme → Type 0
Joined D E us ts = (vs : List Lexeme) × D us vs × E vs ts

pub begins_join : (D E : List Lexeme → List Lexeme → Type 0) (cs mid rest : List ℕ) → Begins D cs mid → Begins E mid rest → Begins (Joined D E) cs rest
begins_join D E cs mid rest a b = record {
  on = λ ts l. let x = b.on ts l in let y = a.on x.0 x.1 in (y.0, y.1, (x.0, y.2, x.2));
  only = λ us l. let y = a.only us l in let x = b.only y.0 y.1 in (x.0, x.1, (y.0, y.2, x.2));
}
