-- How a tool ends, from what was read and what was printed.
use Rattle.std.proofs.Common.{◌≡◌, inl, inr, ℕ, List, Option, Result, Ok, Err, sym, subst}
use Rattle.std.specs.Prelude.{IfErr, IfOk}
use Rattle.dsc_node.specs.declared.status.Status.{Status}
use Rattle.dsc_node.specs.declared.status.Status.TheVariants.{Done, Usage, InputRefused, ReadFault, WriteFault, Memory}
use Rattle.lcm_program.specs.declared.input.Unread.{Unread}
use Rattle.lcm_program.specs.declared.input.Unread.TheVariants as unread
use Rattle.lcm_program.specs.Answers.{EachAllows}
use Rattle.lcm_program.specs.Checksum.{AnswersChecksum, Checksummed, HasRefusal}
use Rattle.lcm_program.specs.Did.{DidNothing, UsageEnds}
use Rattle.lcm_program.specs.Endings.{RefusalEnds, UnreadEnds}
use Rattle.lcm_program.specs.Generate.{Generated, GenerateEnds, IsGeneratedText}
use Rattle.lcm_program.specs.Input.{IsInput, IsRefused, IsUnread, Reading}
use Rattle.lcm_program.specs.Objects.{IsUntouched, Known, Objects}
use Rattle.lcm_program.specs.Printed.{Prints}
use Rattle.lcm_program.specs.Tool.{RanTool, ToolEnds}
use Rattle.lcm_program.specs.Words.{IsUsageOf}
use Rattle.lcm_program.proofs.Readings.{Decides, each_failed, each_memory, each_refused, each_used}

module _ {S K D M L C : Type 0} (o : Known S K D M L C) (before after : Objects S K D M L C) where
  module _ (answers : Reading (List ℕ)) where
    -- a text was printed
    text_ends : (text : List ℕ) (status : Status) → IsInput answers (o.source.left before.input) (Ok text)
        → Prints o.sink text status before.output after.output → ToolEnds answers o status before after
    text_ends text Done input prints = (text, input, prints)
    text_ends text WriteFault input prints = (text, input, prints)
    text_ends text _ input prints = absurd prints

    -- the input was not read
    unread_ends : (e : Unread) (status : Status) → IsUnread answers e (o.source.left before.input) (o.source.faults before.input) (o.source.faults after.input)
        → UnreadEnds o.sink e status before.output after.output → ToolEnds answers o status before after
    unread_ends (unread.Refused error) status cause (inl printed) = subst (λ (s : Status). ToolEnds answers o s before after) (sym printed.0) (cause, printed.1)
    unread_ends (unread.Refused error) status cause (inr silent) = subst (λ (s : Status). ToolEnds answers o s before after) (sym silent.0) silent.1
    unread_ends unread.ReadFault status cause (inl printed) = subst (λ (s : Status). ToolEnds answers o s before after) (sym printed.0) (cause, printed.1)
    unread_ends unread.ReadFault status cause (inr silent) = subst (λ (s : Status). ToolEnds answers o s before after) (sym silent.0) silent.1
    unread_ends unread.Memory status cause silent = subst (λ (s : Status). ToolEnds answers o s before after) (sym silent.0) silent.1

    each_tool : Decides answers → (status : Status) → ToolEnds answers o status before after
        → EachAllows answers (o.source.left before.input) status (o.source.faults before.input) (o.source.faults after.input)
    each_tool decides Done ends = each_used answers decides _ _ _ ends.0 Done tt ends.1
    each_tool decides WriteFault ends = each_used answers decides _ _ _ ends.0 WriteFault tt ends.1
    each_tool decides (InputRefused error) ends = each_refused answers decides _ _ _ error ends.0
    each_tool decides ReadFault ends = each_failed answers _ _ _ ends.0
    each_tool decides Memory ends = each_memory answers _ _ _
    each_tool decides _ ends = absurd ends

    tool : Decides answers → (status : Status) → IsUntouched before after → ToolEnds answers o status before after → RanTool answers o status before after
    tool decides status untouched ends = record { untouched = untouched; ends = ends; each = each_tool decides status ends }

    -- what was read is printed, or why it was not read
    pub ran_tool : Decides answers → {T : Type 0} (items : T → List ℕ) (answer : Result T Unread) (status : Status) → IsUntouched before after
        → IfOk answer (λ text. IsInput answers (o.source.left before.input) (Ok (items text)))
        → IfErr answer (λ e. IsUnread answers e (o.source.left before.input) (o.source.faults before.input) (o.source.faults after.input))
        → IfOk answer (λ text. Prints o.sink (items text) status before.output after.output)
        → IfErr answer (λ e. UnreadEnds o.sink e status before.output after.output)
        → RanTool answers o status before after
    ran_tool decides items (Ok text) status untouched input cause prints ends = tool decides status untouched (text_ends (items text) status input prints)
    ran_tool decides items (Err e) status untouched input cause prints ends = tool decides status untouched (unread_ends e status cause ends)

  -- `checksum`

  pub summed : Decides AnswersChecksum → (line : List ℕ) (status : Status) → IsUntouched before after → IsInput AnswersChecksum (o.source.left before.input) (Ok line)
      → Prints o.sink line status before.output after.output → Checksummed o status before after
  summed decides line status untouched input prints = record {
    tool = tool AnswersChecksum decides status untouched (text_ends AnswersChecksum line status input prints);
    memory = λ is. absurd (subst (λ (s : Status). Prints o.sink line s before.output after.output) is prints);
  }

  refusal_found : (e : Unread) (left : Option (List ℕ)) (b n : ℕ) → IsRefused AnswersChecksum e left b n → HasRefusal left b n
  refusal_found (unread.Refused error) left b n cause = inl (error, cause)
  refusal_found unread.ReadFault left b n cause = inr cause
  refusal_found unread.Memory left b n cause = absurd cause

  is_unread : (e : Unread) (left : Option (List ℕ)) (b n : ℕ) → IsRefused AnswersChecksum e left b n → IsUnread AnswersChecksum e left b n
  is_unread (unread.Refused error) left b n cause = cause
  is_unread unread.ReadFault left b n cause = cause
  is_unread unread.Memory left b n cause = tt

  pub not_summed : Decides AnswersChecksum → (e : Unread) (status : Status) → IsUntouched before after
      → IsRefused AnswersChecksum e (o.source.left before.input) (o.source.faults before.input) (o.source.faults after.input)
      → UnreadEnds o.sink e status before.output after.output → Checksummed o status before after
  not_summed decides e status untouched cause ends = record {
    tool = tool AnswersChecksum decides status untouched (unread_ends AnswersChecksum e status (is_unread e _ _ _ cause) ends);
    memory = λ is. refusal_found e _ _ _ cause;
  }

  -- `generate`

  generated_ends : (count : ℕ) (text : List ℕ) (status : Status) → IsGeneratedText count text → Prints o.sink text status before.output after.output
      → GenerateEnds count o status before after
  generated_ends count text Done made prints = (text, made, prints)
  generated_ends count text WriteFault made prints = (text, made, prints)
  generated_ends count text _ made prints = absurd prints

  pub generated : (count : ℕ) (text : List ℕ) (status : Status) → after.input ≡ before.input → IsUntouched before after → IsGeneratedText count text
      → Prints o.sink text status before.output after.output → Generated count o status before after
  generated count text status input untouched made prints =
      record { input = input; untouched = untouched; ends = generated_ends count text status made prints }

  module _ {A : Type 0} (is_form : A → List (List ℕ) → Type 0) (arguments : List (List ℕ)) (place : ℕ) where
    nothing_ends : (status : Status) → IsUsageOf is_form arguments place
        → RefusalEnds o.sink (Usage place) status before.output after.output → UsageEnds is_form o arguments status before after
    nothing_ends status usage (inl printed) = subst (λ (s : Status). UsageEnds is_form o arguments s before after) (sym printed.0) (usage, printed.1)
    nothing_ends status usage (inr silent) = subst (λ (s : Status). UsageEnds is_form o arguments s before after) (sym silent.0) silent.1

    pub did_nothing : (status : Status) → after.input ≡ before.input → IsUntouched before after → IsUsageOf is_form arguments place
        → RefusalEnds o.sink (Usage place) status before.output after.output → DidNothing is_form o arguments status before after
    did_nothing status input untouched usage ends = record { input = input; untouched = untouched; ends = nothing_ends status usage ends }
