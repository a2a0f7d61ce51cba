-- Bytes are read as instances, or nothing is read of them and a refusal refuses them.
use Rattle.std.proofs.Common.{◌≡◌, ◌⊎◌, inl, inr, ℕ, ◌≤◌, List, Option, Some, None, length, refl, subst, arith}
use Rattle.std.proofs.lemmas.Bool.{cases_lt}
use Rattle.mof_values.specs.declared.instance.Instance.{Instance}
use Rattle.mof_syntax.specs.Encodings.{Chars, IsTextFault}
use Rattle.mof_syntax.specs.Grammar.{Wide, WideSpells}
use Rattle.mof_syntax.specs.Limits.{IsWithinLimits, document_limit}
use Rattle.mof_syntax.specs.Refusals.{Reads}
use Rattle.mof_syntax.proofs.Decoded.{no_fault, one_text}
use Rattle.mof_syntax.proofs.Divided.{chars_or_fault}
use Rattle.mof_syntax.proofs.UniqueRules.{spells_same}
use Rattle.mof_codec.proofs.Answered.{reads_or_refuses}
use Rattle.mof_codec.proofs.Searched.{is_fault, is_wide}
use Rattle.mof_codec.proofs.Searches.{fault_in, first_state}
use Rattle.document_laws.specs.Laws.{BytesHaveOneKindOfAnswer}
use Rattle.document_laws.proofs.Decided.{Decided}
use Rattle.document_laws.proofs.Limits.{limits_decided}

abbrev IsReadable : List ℕ → Type 0
IsReadable bytes = (instances : List Instance) × Reads bytes instances

module _ (bytes text : List ℕ) (fits : length bytes ≤ document_limit) (chars : Chars bytes text) where
  -- what is read of the bytes is spelled by their characters
  read_is_spelled : (instances : List Instance) → Reads bytes instances → WideSpells text instances
  read_is_spelled instances read = subst (λ (cs : List ℕ). WideSpells cs instances) (one_text bytes read.text text read.decoded chars) read.spelled.wide

  -- characters spell one list, so this list decides
  by_limits : (instances : List Instance) → WideSpells text instances → Decided (IsReadable bytes)
  by_limits instances wide = elim (limits_decided instances) [
    | inl limits ↦ inl (instances, record { within = fits; text = text; decoded = chars; spelled = record { wide = wide; limits = limits } })
    | inr beyond ↦ inr (λ read. beyond (subst IsWithinLimits (spells_same text read.0 instances (read_is_spelled read.0 read.1) wide) read.1.spelled.limits))
  ]

  by_grammar : (fault : Option ℕ) → fault_in text text first_state ≡ fault → Decided (IsReadable bytes)
  by_grammar None none = let wide : Wide text = is_wide text none in by_limits wide.0 wide.1
  by_grammar (Some at) some = inr (λ read. (is_fault text at some).outside (read.0, read_is_spelled read.0 read.1))

by_characters : (bytes : List ℕ) → length bytes ≤ document_limit → ((text : List ℕ) × Chars bytes text) ⊎ ((at : ℕ) × IsTextFault bytes at) → Decided (IsReadable bytes)
by_characters bytes fits (inl chars) = by_grammar bytes chars.0 fits chars.1 (fault_in chars.0 chars.0 first_state) refl
by_characters bytes fits (inr fault) = inr (λ read. no_fault bytes read.1.text fault.0 read.1.decoded fault.1)

readable_decided : (bytes : List ℕ) → Decided (IsReadable bytes)
readable_decided bytes = elim (cases_lt document_limit (length bytes)) [
  | inl long ↦ inr (λ read. let fits = read.1.within in omega (arith, long, fits))
  | inr fits ↦ by_characters bytes fits (chars_or_fault bytes)
]

pub read_or_refused : BytesHaveOneKindOfAnswer
read_or_refused bytes = elim (readable_decided bytes) [
  | inl read ↦ inl read
  | inr unread ↦ elim (reads_or_refuses bytes) [
    | inl read ↦ absurd (unread read)
    | inr refused ↦ inr (
      refused.0,
      record {
        caused = refused.1;
        unspelled = λ instances read. unread (instances, read);
        refused = refused.2;
      },
    )
  ]
]
