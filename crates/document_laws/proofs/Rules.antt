-- Instances keep the rules, or one refusal wins: the first rule of which a refusal applies decides.
use Rattle.std.proofs.Common.{◌≡◌, ◌⊎◌, inl, inr, ℕ, ◌+◌, ◌<◌, List, refl, arith}
use Rattle.std.proofs.lemmas.Bool.{cases_eq}
use Rattle.mof_values.specs.declared.instance.Instance.{Instance}
use Rattle.dsc_document.specs.Tests.{IsFirstOf}
use Rattle.dsc_document.specs.Rules.{Applies, IsRefusal, WinsOver, rule_of}
use Rattle.dsc_document.specs.declared.error.DocError.{DocError}
use Rattle.dsc_document.specs.declared.error.DocError.TheVariants.{AliasUnknown, BadDependsOn, BadResourceId, DependsUnknown, DuplicateId, DuplicateProperty, Memory, NoHeader, TwoAliases, TwoHeaders}
use Rattle.document_laws.specs.Laws.{DocumentsHaveAnAnswer, PartsHaveAnAnswer}
use Rattle.document_laws.proofs.Tested.{Tested, aliases, depends_forms, id_forms, ids, known_aliases, known_ids, memory, one_header_at_least, one_header_at_most, properties}

module _ (instances : List Instance) where
  -- no refusal of a rule before it applies
  abbrev KeepsBelow : ℕ → Type 0
  KeepsBelow rule = (refusal : DocError) → rule_of refusal < rule → Applies instances refusal → ⊥

  -- a refusal of a rule before it wins
  abbrev BreaksBelow : ℕ → Type 0
  BreaksBelow rule = (refusal : DocError) × IsRefusal instances refusal × (rule_of refusal < rule)

  first_wins : (rule : ℕ) → KeepsBelow rule → (refusal : DocError) → IsFirstOf rule instances refusal → IsRefusal instances refusal
  first_wins rule kept refusal first = record { applies = first.applies; wins = wins }
    where
      wins : (other : DocError) → WinsOver other refusal → Applies instances other → ⊥
      wins other (inl earlier) applies = let same = first.is in kept other (omega (arith, earlier, same)) applies
      wins other (inr here) applies = let same = first.is in first.first other (omega (arith, here.0, same)) here.1 applies

  kept_further : (rule : ℕ) → KeepsBelow rule → ((refusal : DocError) → rule_of refusal ≡ rule → Applies instances refusal → ⊥) → KeepsBelow (rule + 1)
  kept_further rule kept none refusal below applies = elim (cases_eq (rule_of refusal) rule) [
    | inl here ↦ none refusal here applies
    | inr other ↦ kept refusal (omega (arith, below, other)) applies
  ]

  -- from the rules before one to those up to it
  with_next : (rule : ℕ) → Tested instances rule → KeepsBelow rule ⊎ BreaksBelow rule → KeepsBelow (rule + 1) ⊎ BreaksBelow (rule + 1)
  with_next rule tested (inr broken) = inr (broken.0, broken.1, omega (arith, broken.2))
  with_next rule (inl none) (inl kept) = inl (kept_further rule kept none)
  with_next rule (inr found) (inl kept) =
      let same = found.1.is in inr (found.0, first_wins rule kept found.0 found.1, omega (arith, same))

  none_yet : KeepsBelow 0 ⊎ BreaksBelow 0
  none_yet = inl (λ refusal below applies. omega (arith, below))

  part_rules : KeepsBelow 9 ⊎ BreaksBelow 9
  part_rules =
      with_next 8 (depends_forms instances) (with_next 7 (ids instances) (with_next 6 (id_forms instances)
      (with_next 5 (one_header_at_most instances) (with_next 4 (one_header_at_least instances) (with_next 3 (known_aliases instances)
      (with_next 2 (aliases instances) (with_next 1 (properties instances) (with_next 0 (memory instances) none_yet))))))))

  all_rules : KeepsBelow 10 ⊎ BreaksBelow 10
  all_rules = with_next 9 (known_ids instances) part_rules

rule_below : (refusal : DocError) → rule_of refusal < 10
rule_below (DuplicateProperty index name) = omega arith
rule_below (TwoAliases first second) = omega arith
rule_below (AliasUnknown index) = omega arith
rule_below NoHeader = omega arith
rule_below (TwoHeaders first second) = omega arith
rule_below (BadResourceId index) = omega arith
rule_below (DuplicateId first second) = omega arith
rule_below (BadDependsOn index) = omega arith
rule_below (DependsUnknown index name) = omega arith
rule_below Memory = omega arith

pub part_kept_or_broken : PartsHaveAnAnswer
part_kept_or_broken instances = elim (part_rules instances) [
  | inl kept ↦ inl (record { kept = kept; made = refl })
  | inr broken ↦ inr broken
]

pub document_kept_or_broken : DocumentsHaveAnAnswer
document_kept_or_broken instances = elim (all_rules instances) [
  | inl kept ↦ inl (record { kept = λ refusal applies. kept refusal (rule_below refusal) applies; made = refl })
  | inr broken ↦ inr (broken.0, broken.1)
]
