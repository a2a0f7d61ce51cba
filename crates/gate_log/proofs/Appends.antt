-- What a log is after an append, and at every moment of it, by the place of the closed gate that it keeps.
use Rattle.std.proofs.Common.{◌≡◌, ◌+◌, ◌≤◌, ◌∷◌, [], ◌++◌, ℕ, List, length, sym, ◌∙◌, ap, ap₂, subst, max, arith, Option, None}
use Rattle.std.specs.Prelude.{IfSome, false}
use Rattle.dsc_outside.proofs.Moments.{weaker}
use Rattle.dsc_outside.specs.declared.disk.Disk.{Ghosts}
use Rattle.dsc_outside.specs.Disk.{Each}
use Rattle.gate_log.specs.Log.{LogTerm, IsOf, IsLogOf, AtAnyMoment, grown, capacity_in}
use Rattle.gate_log.specs.Steps.{TextBeforeOrAfter}
use Rattle.gate_log.specs.Text.{IsText, need_of, begin}

-- the capacity for a cell, and the texts, by the place that the log keeps
pub capacity_there : (log : LogTerm) (closed : ℕ) (body : List ℕ) → log.closed ≡ closed → need_of body ≤ capacity_in log → closed + 1 + need_of body ≤ begin log.shape log.second + log.shape.bank
capacity_there log closed body same capacity = omega (arith, same, capacity)

pub texts_there : {D : Type 0} (d : Ghosts D) (disk : D) (log : LogTerm) (closed : ℕ) (bodies : List (List ℕ)) → log.closed ≡ closed → IsLogOf d disk log bodies → Each (d.images disk) (λ f. IsText log.shape log.second closed f bodies)
texts_there d disk log closed bodies same of f here = subst (λ (n : ℕ). IsText log.shape log.second n f bodies) same (of.each f here)

-- every moment of the call, by what the log keeps
pub at_each_moment : {D : Type 0} (d : Ghosts D) (old new : D) (log : LogTerm) (closed : ℕ) (body : List ℕ) (bodies : List (List ℕ)) (P : List ℕ → Type 0) → log.closed ≡ closed → need_of body ≤ capacity_in log → IsLogOf d old log bodies
    → (closed + 1 + need_of body ≤ begin log.shape log.second + log.shape.bank → Each (d.images old) (λ f. IsText log.shape log.second closed f bodies) → AtAnyMoment d old new (TextBeforeOrAfter log.shape log.second closed bodies body))
    → ((f : List ℕ) → TextBeforeOrAfter log.shape log.second closed bodies body f → P f) → AtAnyMoment d old new P
at_each_moment d old new log closed body bodies P same capacity of moments gives =
    weaker d.moment d.left_since old new _ P (moments (capacity_there log closed body same capacity) (texts_there d old log closed bodies same of)) gives

-- the log with a body more
pub grown_is : (kept log : LogTerm) (need longest : ℕ) (body : List ℕ) → kept ≡ log → need_of body ≡ need → longest ≡ max kept.long (kept.closed + 1 + need)
    → record kept { closed = kept.closed + need; long = longest; spent = false; filled = None } ≡ grown log (need_of body)
grown_is kept log need longest body same is long =
    ap₂ (λ (n m : ℕ). record kept { closed = kept.closed + n; long = m; spent = false; filled = None }) (sym is) (long ∙ ap (λ (n : ℕ). max kept.long (kept.closed + 1 + n)) (sym is))
    ∙ ap (λ (t : LogTerm). grown t (need_of body)) same

pub grown_of : (shown : Option (List ℕ)) (images : List ℕ → Type 0) (log new : LogTerm) (closed : ℕ) (body : List ℕ) (bodies : List (List ℕ)) → new ≡ grown log (need_of body) → log.closed ≡ closed
    → Each images (λ f. IsText log.shape log.second (closed + need_of body) f (bodies ++ body ∷ [])) → IfSome shown (λ held. max log.long (closed + 1 + need_of body) ≡ length held) → IsOf shown images new (bodies ++ body ∷ [])
grown_of shown images log new closed body bodies is same texts long =
    subst (λ (t : LogTerm). IsOf shown images t (bodies ++ body ∷ [])) (sym is)
    (record {
      each = λ f here. subst (λ (n : ℕ). IsText log.shape log.second (n + need_of body) f (bodies ++ body ∷ [])) (sym same) (texts f here);
      long = subst (λ (n : ℕ). IfSome shown (λ held. max log.long (n + 1 + need_of body) ≡ length held)) (sym same) long;
    })
