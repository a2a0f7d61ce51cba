-- Of each text and of all bytes one answer stands: the instances that they spell, or the refusal that wins.
use Rattle.std.proofs.Common.{◌≡◌, ◌≢◌, ◌≤◌, ◌⊎◌, inl, inr, ℕ, List, Option, Some, None, length, refl, subst, arith}
use Rattle.std.proofs.lemmas.Bool.{cases_lt}
use Rattle.mof_values.specs.declared.instance.Instance.{Instance}
use Rattle.mof_syntax.specs.declared.mof_error.MofError.{MofError}
use Rattle.mof_syntax.specs.declared.mof_error.MofError.TheVariants.{TooLong, Text, Syntax, OutOfProfile, NumberRange, TooMany, Memory}
use Rattle.mof_syntax.specs.Encodings.{Chars, IsTextFault}
use Rattle.mof_syntax.specs.declared.mof_error.Form.{Form}
use Rattle.mof_syntax.specs.Fronts.{IsSyntaxFault}
use Rattle.mof_syntax.specs.Grammar.{WideSpells}
use Rattle.mof_syntax.specs.Limits.{Spells, document_limit}
use Rattle.mof_syntax.specs.Refusals.{Reads, Refuses, Wins}
use Rattle.mof_syntax.proofs.Decoded.{no_fault, one_text}
use Rattle.mof_syntax.proofs.Divided.{chars_or_fault}
use Rattle.mof_codec.proofs.Searches.{refusal_in}
use Rattle.mof_codec.proofs.Searched.{refusal_wins, no_refusal_spells}

pub spells_or_wins : (text : List ℕ) → ((is : List Instance) × Spells text is) ⊎ ((e : MofError) × Wins text e)
spells_or_wins text = from (refusal_in text) refl
  where
    from : (o : Option MofError) → refusal_in text ≡ o → ((is : List Instance) × Spells text is) ⊎ ((e : MofError) × Wins text e)
    from None none = inl (no_refusal_spells text none)
    from (Some e) some = inr (e, refusal_wins text e some)

-- a refusal of the characters is one of their bytes
text_refuses : (bytes text : List ℕ) → length bytes ≤ document_limit → Chars bytes text → (e : MofError) → Wins text e
    → (refusal : MofError) × (refusal ≢ Memory) × Refuses bytes refusal
text_refuses bytes text fits chars TooLong w = absurd w.applies
text_refuses bytes text fits chars (Text at) w = absurd w.applies
text_refuses bytes text fits chars Memory w = absurd w.applies
text_refuses bytes text fits chars (Syntax at) w = (Syntax at, (λ e. cc), record { within = fits; text = text; decoded = chars; wins = w })
text_refuses bytes text fits chars (OutOfProfile at what) w = (OutOfProfile at what, (λ e. cc), record { within = fits; text = text; decoded = chars; wins = w })
text_refuses bytes text fits chars (NumberRange at) w = (NumberRange at, (λ e. cc), record { within = fits; text = text; decoded = chars; wins = w })
text_refuses bytes text fits chars (TooMany at) w = (TooMany at, (λ e. cc), record { within = fits; text = text; decoded = chars; wins = w })

within : (bytes : List ℕ) → length bytes ≤ document_limit → ((text : List ℕ) × Chars bytes text) ⊎ ((at : ℕ) × IsTextFault bytes at)
    → ((is : List Instance) × Reads bytes is) ⊎ ((refusal : MofError) × (refusal ≢ Memory) × Refuses bytes refusal)
within bytes fits (inr fault) = inr (Text fault.0, (λ e. cc), (fits, fault.1))
within bytes fits (inl chars) = elim (spells_or_wins chars.0) [
  | inl spelled ↦ inl (spelled.0, record { within = fits; text = chars.0; decoded = chars.1; spelled = spelled.1 })
  | inr refused ↦ inr (text_refuses bytes chars.0 fits chars.1 refused.0 refused.1)
]

pub reads_or_refuses : (bytes : List ℕ) → ((is : List Instance) × Reads bytes is) ⊎ ((refusal : MofError) × (refusal ≢ Memory) × Refuses bytes refusal)
reads_or_refuses bytes = elim (cases_lt document_limit (length bytes)) [
  | inl long ↦ inr (TooLong, (λ e. cc), long)
  | inr fits ↦ within bytes fits (chars_or_fault bytes)
]

-- what is read is within the limit of bytes, is characters, and is in the grammar
pub reads_not_long : (bytes : List ℕ) (is : List Instance) → Reads bytes is → Refuses bytes TooLong → ⊥
reads_not_long bytes is r long = omega (arith, r.within, long)

pub reads_no_fault : (bytes : List ℕ) (is : List Instance) (at : ℕ) → Reads bytes is → Refuses bytes (Text at) → ⊥
reads_no_fault bytes is at r fault = no_fault bytes r.text at r.decoded fault.1

-- so no place of a fault of its characters
reads_outside : (bytes : List ℕ) (is : List Instance) → Reads bytes is → (text : List ℕ) → Chars bytes text → (at : ℕ) → IsSyntaxFault text at → ⊥
reads_outside bytes is r text chars at fault =
    fault.outside (is, subst (λ (cs : List ℕ). WideSpells cs is) (one_text bytes r.text text r.decoded chars) r.spelled.wide)

pub reads_in_grammar : (bytes : List ℕ) (is : List Instance) (at : ℕ) → Reads bytes is → Refuses bytes (Syntax at) → ⊥
reads_in_grammar bytes is at r s = reads_outside bytes is r s.text s.decoded at s.wins.applies

pub reads_in_profile : (bytes : List ℕ) (is : List Instance) (at : ℕ) (what : Form) → Reads bytes is → Refuses bytes (OutOfProfile at what) → ⊥
reads_in_profile bytes is at what r s = reads_outside bytes is r s.text s.decoded s.wins.applies.0 s.wins.applies.1
