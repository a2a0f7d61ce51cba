-- A script gives a node one answer; what is known of an input that was read as a script, and of one that was not.
use Rattle.std.proofs.Common.{◌≡◌, ◌≢◌, ◌∙◌, ◌⊎◌, inl, inr, ℕ, List, Option, Ok, Err, length, refl, sym, ap, subst, arith}
use Rattle.config_script.specs.declared.error.CompileError.{CompileError}
use Rattle.config_script.specs.declared.error.CompileError.TheVariants as reasons
use Rattle.config_script.specs.Laws.{AtMostOneReason, NeverBoth}
use Rattle.config_script.specs.Refused.{Compiles, Refuses}
use Rattle.dsc_node.specs.declared.status.InputError.{InputError}
use Rattle.dsc_node.specs.declared.status.InputError.TheVariants.{TooLong, Compile}
use Rattle.lcm_program.specs.declared.input.Unread.{Unread}
use Rattle.lcm_program.specs.declared.input.Unread.TheVariants as unread
use Rattle.lcm_program.specs.Compile.{AnswersCompile, script_limit}
use Rattle.lcm_program.specs.Input.{IsInput, IsUnread, ReadsBytes}
use Rattle.lcm_program.proofs.Inputs.{weaker}
use Rattle.lcm_program.proofs.Readings.{Decides}

pub compile_decides : (node : List ℕ) → NeverBoth node → AtMostOneReason node → Decides (AnswersCompile node)
compile_decides node never one all (Ok x) (Ok y) p q = tt
compile_decides node never one all (Ok x) (Err TooLong) p q = omega (arith, p.serves.script.is_text.within, q)
compile_decides node never one all (Ok x) (Err (Compile f)) p q = never all x f q.cause p q.refuses
compile_decides node never one all (Ok x) (Err _) p q = q
compile_decides node never one all (Err TooLong) (Ok y) p q = omega (arith, q.serves.script.is_text.within, p)
compile_decides node never one all (Err (Compile e)) (Ok y) p q = never all y e p.cause q p.refuses
compile_decides node never one all (Err _) (Ok y) p q = p
compile_decides node never one all (Err TooLong) (Err TooLong) p q = refl
compile_decides node never one all (Err TooLong) (Err (Compile f)) p q = absurd (omega (arith, p, q.fits))
compile_decides node never one all (Err TooLong) (Err _) p q = absurd q
compile_decides node never one all (Err (Compile e)) (Err TooLong) p q = absurd (omega (arith, q, p.fits))
compile_decides node never one all (Err (Compile e)) (Err (Compile f)) p q =
    ap (λ (x : CompileError). Compile x) (one all e f p.cause q.cause p.refuses q.refuses)
compile_decides node never one all (Err (Compile e)) (Err _) p q = absurd q
compile_decides node never one all (Err _) (Err f) p q = absurd p

module _ (node : List ℕ) (left : Option (List ℕ)) where
  -- bytes that give the node this text are the input's
  pub compiled_input : (bytes taken text : List ℕ) → IsInput (ReadsBytes script_limit) left (Ok bytes) → taken ≡ bytes → Compiles taken node text
      → IsInput (AnswersCompile node) left (Ok text)
  compiled_input bytes taken text input same compiles = record {
    all = input.all;
    input_is = input.input_is;
    is_answer = subst (λ (b : List ℕ). Compiles b node text) (same ∙ input.is_answer.0) compiles;
  }

  module _ (before now : ℕ) where
    -- what is too long gives the node nothing
    pub too_long_uncompiled : (e : Unread) → IsUnread (ReadsBytes script_limit) e left before now → IsUnread (AnswersCompile node) e left before now
    too_long_uncompiled e cause =
        weaker (ReadsBytes script_limit) (AnswersCompile node) (λ all error long. subst (λ (x : InputError). AnswersCompile node all (Err x)) (sym long.0) long.1)
        e left before now cause

    -- bytes that give the node no document are refused so
    pub uncompiled_unread : (bytes taken : List ℕ) (reason : CompileError) (e : Unread) → IsInput (ReadsBytes script_limit) left (Ok bytes) → taken ≡ bytes
        → Refuses taken node reason
        → ((reason ≡ reasons.Memory) × (e ≡ unread.Memory)) ⊎ ((reason ≢ reasons.Memory) × (e ≡ unread.Refused (Compile reason)))
        → IsUnread (AnswersCompile node) e left before now
    uncompiled_unread bytes taken reason e input same refuses (inl memory) =
        subst (λ (u : Unread). IsUnread (AnswersCompile node) u left before now) (sym memory.1) tt
    uncompiled_unread bytes taken reason e input same refuses (inr refused) =
        subst (λ (u : Unread). IsUnread (AnswersCompile node) u left before now) (sym refused.1) (record {
          all = input.all;
          input_is = input.input_is;
          is_answer = subst (λ (b : List ℕ). AnswersCompile node b (Err (Compile reason))) (same ∙ input.is_answer.0)
              (record { fits = omega (arith, input.is_answer.1, ap length (same ∙ input.is_answer.0)); refuses = refuses; cause = refused.0 });
        })
