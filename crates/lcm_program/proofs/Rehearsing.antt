-- A script is read in one way; what is known of an input that was read as a script, and of one that was not.
use Rattle.std.proofs.Common.{◌≡◌, ◌∙◌, ℕ, ◌≤◌, List, Option, Ok, Err, length, refl, sym, ap, subst, arith}
use Rattle.rehearsal.specs.OneReading.{FailuresAreOne, NeverBoth}
use Rattle.rehearsal.specs.Playing.{IsPlayed}
use Rattle.rehearsal.specs.Script.{FailsAt, IsScript}
use Rattle.rehearsal.specs.declared.limits.TheConstants.{MAX_SCRIPT}
use Rattle.rehearsal.specs.declared.starter.Starter as starters
use Rattle.rehearsal.specs.declared.step.Step.{Step}
use Rattle.dsc_node.specs.declared.status.InputError.{InputError}
use Rattle.dsc_node.specs.declared.status.InputError.TheVariants.{TooLong, Script}
use Rattle.lcm_program.specs.declared.input.Unread.{Unread}
use Rattle.lcm_program.specs.declared.input.Unread.TheVariants as unread
use Rattle.lcm_program.specs.Input.{IsInput, IsUnread, ReadsBytes}
use Rattle.lcm_program.specs.Rehearse.{AnswersRehearsal, ReadsScript}
use Rattle.lcm_program.proofs.Inputs.{weaker}
use Rattle.lcm_program.proofs.Readings.{Decides}

pub script_decides : NeverBoth → FailuresAreOne → Decides ReadsScript
script_decides never one all (Ok x) (Ok y) p q = tt
script_decides never one all (Ok x) (Err TooLong) p q = omega (arith, p.0, q)
script_decides never one all (Ok x) (Err (Script f)) p q = never all x f p.1 q.1
script_decides never one all (Ok x) (Err _) p q = q
script_decides never one all (Err TooLong) (Ok y) p q = omega (arith, q.0, p)
script_decides never one all (Err (Script e)) (Ok y) p q = never all y e q.1 p.1
script_decides never one all (Err _) (Ok y) p q = p
script_decides never one all (Err TooLong) (Err TooLong) p q = refl
script_decides never one all (Err TooLong) (Err (Script f)) p q = absurd (omega (arith, p, q.0))
script_decides never one all (Err TooLong) (Err _) p q = absurd q
script_decides never one all (Err (Script e)) (Err TooLong) p q = absurd (omega (arith, q, p.0))
script_decides never one all (Err (Script e)) (Err (Script f)) p q = ap (λ (line : ℕ). Script line) (one all e f p.1 q.1)
script_decides never one all (Err (Script e)) (Err _) p q = absurd q
script_decides never one all (Err _) (Err f) p q = absurd p

module _ {P : Type 0} (program : starters.Ghosts P) (left : Option (List ℕ)) where
  -- the text of a play of these steps is the input's
  pub played_input : (bytes taken text : List ℕ) (steps : List Step) → IsInput (ReadsBytes MAX_SCRIPT) left (Ok bytes) → taken ≡ bytes → IsScript taken steps
      → IsPlayed program steps text → IsInput (AnswersRehearsal program) left (Ok text)
  played_input bytes taken text steps input same reads played =
      let is = same ∙ input.is_answer.0 in
      record {
        all = input.all;
        input_is = input.input_is;
        is_answer = (steps, (input.is_answer.1, subst (λ (b : List ℕ). IsScript b steps) is reads), played);
      }

  module _ (before now : ℕ) where
    pub too_long_script : (e : Unread) → IsUnread (ReadsBytes MAX_SCRIPT) e left before now → IsUnread (AnswersRehearsal program) e left before now
    too_long_script e cause =
        weaker (ReadsBytes MAX_SCRIPT) (AnswersRehearsal program) (λ all error long. subst (λ (x : InputError). AnswersRehearsal program all (Err x)) (sym long.0) long.1)
        e left before now cause

    -- bytes that are no script are refused at their first wrong line
    pub wrong_script : (bytes taken : List ℕ) (line : ℕ) → IsInput (ReadsBytes MAX_SCRIPT) left (Ok bytes) → taken ≡ bytes → FailsAt taken line
        → IsUnread (AnswersRehearsal program) (unread.Refused (Script line)) left before now
    wrong_script bytes taken line input same fails =
        let is = same ∙ input.is_answer.0 in
        record {
          all = input.all;
          input_is = input.input_is;
          is_answer = (input.is_answer.1, subst (λ (b : List ℕ). FailsAt b line) is fails);
        }
