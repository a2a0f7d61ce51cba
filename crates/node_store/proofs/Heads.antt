-- The fields in front of a piece's last one.
use Rattle.std.proofs.Common.{◌≡◌, ℕ, Bool, List, ◌++◌, Err, refl, sym, ap, ap₂, ◌∙◌, arith, append_assoc, cond, ◌==◌}
use Rattle.std.specs.Prelude.{⊤}
use Rattle.std.specs.Int.{w64, w128}
use Rattle.store_fields.specs.declared.error.FieldError.{FieldError}
use Rattle.store_fields.specs.Fields.{bytes_of_number, bytes_of_byte, bytes_of_flag, IsByte}
use Rattle.store_fields.specs.Reading.{Reads, IsUnique}
use Rattle.store_fields.proofs.Numbers.{wide64, number_unique}
use Rattle.store_fields.proofs.LongNumbers.{long_unique}
use Rattle.store_fields.proofs.Texts.{byte_unique, flag_unique}
use Rattle.store_fields.proofs.Composing.{refused}
use Rattle.node_state.specs.declared.event.Stage.{Stage}
use Rattle.node_state.specs.declared.event.Stage.TheVariants.{Pending, Current, Previous}
use Rattle.node_store.specs.Bodies.{byte_of_stage, bytes_of_base, bytes_of_stage, IsBase}

stage_small : (stage : Stage) → IsByte (byte_of_stage stage)
stage_small Pending = omega arith
stage_small Current = omega arith
stage_small Previous = omega arith

-- the stage of a byte
stage_at : ℕ → Stage
stage_at n = cond (n == 0) Pending (cond (n == 1) Current Previous)

stage_again : (stage : Stage) → stage_at (byte_of_stage stage) ≡ stage
unfolding stage_at
stage_again Pending = refl
stage_again Current = refl
stage_again Previous = refl

pub stage_unique : IsUnique bytes_of_stage (λ stage. ⊤)
stage_unique x y r s _ _ e =
    let both = byte_unique (byte_of_stage x) (byte_of_stage y) r s (stage_small x) (stage_small y) e in
    (sym (stage_again x) ∙ ap stage_at both.0 ∙ stage_again y, both.1)

pub no_stage : (before end after : List ℕ) (e : FieldError) → Reads bytes_of_byte IsByte before end (Err e) → Reads bytes_of_stage (λ stage. ⊤) before after (Err e)
no_stage before end after e reads =
    refused bytes_of_stage (λ stage. ⊤) bytes_of_byte IsByte before after before end e reads (λ stage rest range is. (byte_of_stage stage, (rest, (stage_small stage, is))))

pub base_opened : (base : ℕ × Bool × Bool × ℕ) (rest : List ℕ) → bytes_of_base base ++ rest
    ≡ bytes_of_number w128 base.0 ++ (bytes_of_flag base.1 ++ (bytes_of_flag base.2 ++ (bytes_of_number w64 base.3 ++ rest)))
unfolding bytes_of_base
base_opened base rest = simp append_assoc

pub base_unique : IsUnique bytes_of_base IsBase
base_unique x y r s one other e =
    let agent = long_unique x.0 y.0 _ _ one.0 other.0 (sym (base_opened x r) ∙ e ∙ base_opened y s) in
    let registered = flag_unique x.1 y.1 _ _ tt tt agent.1 in
    let reboot = flag_unique x.2 y.2 _ _ tt tt registered.1 in
    let next_job = number_unique w64 wide64 x.3 y.3 r s one.1 other.1 reboot.1 in
    (ap₂ (λ (f : ℕ × Bool) (g : Bool × ℕ). made f g) (ap₂ (λ (a : ℕ) (b : Bool). front a b) agent.0 registered.0) (ap₂ (λ (b : Bool) (n : ℕ). back b n) reboot.0 next_job.0), next_job.1)
  where
    front : ℕ → Bool → ℕ × Bool
    front a b = (a, b)

    back : Bool → ℕ → Bool × ℕ
    back b n = (b, n)

    made : ℕ × Bool → Bool × ℕ → ℕ × Bool × Bool × ℕ
    made f g = (f.0, f.1, g.0, g.1)
