-- A log that was opened is of its disk.
use Rattle.std.proofs.Common.{◌≡◌, ℕ, Bool, ◌+◌, ◌≤◌, ◌<◌, List, [], length, take, refl, sym, ◌∙◌, ap, subst, arith, Option, Some, None, false}
use Rattle.std.specs.Prelude.{IfSome, IsSomeAnd, option_map}
use Rattle.std.proofs.lemmas.Option.{none-some, same_Some}
use Rattle.dsc_terms.specs.Counts.{Rose}
use Rattle.dsc_outside.specs.Disk.{Each, Only, Still}
use Rattle.dsc_outside.proofs.Moments.{still_then}
use Rattle.gate_log.specs.declared.shape.Shape.{Shape}
use Rattle.dsc_outside.specs.declared.disk.Disk.{Ghosts}
use Rattle.gate_log.specs.Bytes.{Opens, made, cut, new_store}
use Rattle.gate_log.specs.Text.{IsText, Gives, fresh, text}
use Rattle.gate_log.specs.declared.error.LogError.{LogError}
use Rattle.gate_log.specs.declared.error.LogError.TheVariants.{Disk, NotAStore, Memory}
use Rattle.gate_log.specs.Log.{LogTerm, Keeps, log_at}
use Rattle.gate_log.specs.Replay.{Opened, Unopened, IsRefused, FailsFirst}
use Rattle.gate_log.specs.Opening.{StillWhereRefused}
use Rattle.gate_log.specs.Steps.{Unread}

pub told_length : (o : Option (List ℕ)) (n : ℕ) (c : List ℕ) → o ≡ Some c → IfSome o (λ held. n ≡ length held) → n ≡ length c
told_length None n c is told = absurd (none-some c is)
told_length (Some held) n c is told = told ∙ ap length (same_Some held c is)

pub fresh_keeps : (shape : Shape) (d c : List ℕ) → length d ≤ 9 → length c ≤ 9 → Keeps shape d c
fresh_keeps shape d c short_d short_c [] (fresh short) = fresh short_c
fresh_keeps shape d c short_d short_c bodies (text second closed bodies' long t) = absurd (omega arith)

pub new_text : (shape : Shape) (c : List ℕ) → 1 ≤ shape.bank → c ≡ new_store → IsText shape false 8 c []
new_text shape c some is = subst (λ (k : List ℕ). IsText shape false 8 k []) (sym is) (record {
  head = record { selector = 49; head = refl; selected = refl; selects = omega arith };
  bank = record { cells = record { is = refl; within = some; fit = tt }; gate = 0; shut = omega arith; closes = refl; place = refl };
})

-- what is left of a file of at most nine bytes, and of a longer one
pub made_bytes : (end : ℕ) (seen0 seen1 : Option (List ℕ)) → end ≤ 9 → IfSome seen0 (λ held. end ≡ length held) → seen1 ≡ option_map (λ (held : List ℕ). new_store) seen0 → IfSome seen0 (λ held. IsSomeAnd seen1 (Opens 8 held))
made_bytes end None seen1 short is reads = tt
made_bytes end (Some held) seen1 short is reads = subst (λ (o : Option (List ℕ)). IsSomeAnd o (Opens 8 held)) (sym reads) (made (omega (arith, short, is)) refl)

pub cut_bytes : (end closed : ℕ) (seen0 seen1 : Option (List ℕ)) → 9 < end → IfSome seen0 (λ held. end ≡ length held) → seen1 ≡ option_map (take (closed + 1)) seen0 → IfSome seen0 (λ held. IsSomeAnd seen1 (Opens closed held))
cut_bytes end closed None seen1 long is reads = tt
cut_bytes end closed (Some held) seen1 long is reads = subst (λ (o : Option (List ℕ)). IsSomeAnd o (Opens closed held)) (sym reads) (cut (omega (arith, long, is)) refl)

pub opened : {D : Type 0} (d : Ghosts D) (old new : D) (shape : Shape) (Took : List (List ℕ) → Type 0) (second : Bool) (closed : ℕ) (found : List (List ℕ)) (log : LogTerm) → log ≡ log_at shape second closed → Took found
    → Each (d.images new) (λ c. IsText shape second closed c found) → IfSome (d.shown new) (λ held. closed + 1 ≡ length held) → IfSome (d.shown old) (λ held. Gives shape held found)
    → IfSome (d.shown old) (λ held. IsSomeAnd (d.shown new) (Opens closed held)) → Only (d.shown new) (d.images new) → Opened d old new shape Took log
opened d old new shape Took second closed found log is took texts long gave bytes only =
    subst (λ (l : LogTerm). Opened d old new shape Took l) (sym is)
    (record { found = found; took = took; same_shape = refl; spent = refl; of = record { each = texts; long = long }; gave = gave; bytes = bytes; only = only })

-- a call that left the disk as it was
pub still_refused : {D : Type 0} (d : Ghosts D) (old new : D) (e : LogError) → Still d.shown d.images d.moment d.left_since old new → StillWhereRefused d old new e
still_refused d old new Disk still = tt
still_refused d old new (NotAStore at) still = still
still_refused d old new Memory still = tt

-- the cause of an error, shown after calls that left the disk as it was
pub unopened : {D : Type 0} (d : Ghosts D) (rose : Type 0) (old mid new : D) (shape : Shape) (Took : List (List ℕ) → Type 0) (Refused : List (List ℕ) → List ℕ → Type 0) (end : ℕ) (e : LogError) → Still d.shown d.images d.moment d.left_since old mid
    → 9 < end → IfSome (d.shown mid) (λ held. end ≡ length held) → (rose → Rose (d.faults old) (d.faults new)) → Unread rose (d.shown mid) (FailsFirst shape Took Refused) e → StillWhereRefused d mid new e → Unopened d old new shape Took Refused e
unopened d rose old mid new shape Took Refused end Disk still long is_end on cause after = on cause
unopened d rose old mid new shape Took Refused end Memory still long is_end on cause after = tt
unopened d rose old mid new shape Took Refused end (NotAStore at) still long is_end on cause after =
    record { refused = subst (λ (o : Option (List ℕ)). IfSome o (λ held. IsRefused shape Took Refused held at)) still.same (by (d.shown mid) is_end cause); still = still_then d.shown d.images d.moment d.left_since old mid new still after }
  where
    by : (o : Option (List ℕ)) → IfSome o (λ held. end ≡ length held) → IfSome o (λ held. FailsFirst shape Took Refused held at) → IfSome o (λ held. IsRefused shape Took Refused held at)
    by None is fails = tt
    by (Some held) is fails = record { long = omega (arith, long, is); fails = fails }
