-- A line that begins with `start ` is in no other form.
use Rattle.std.proofs.Common.{◌≡◌, ℕ, ◌<◌, Option, None, Some, List, [], ◌∷◌, ◌++◌, length, get_or, drop, codes, IfSome, IfNone, MatchOption, refl, sym, ap, ◌∙◌, subst, arith}
use Rattle.rehearsal.specs.Script.{IsLine, IsStart, words}
use Rattle.rehearsal.specs.declared.line.Line.{Line}
use Rattle.rehearsal.specs.declared.line.Line.TheVariants.{Empty, TextBegins, Does}
use Rattle.rehearsal.specs.declared.step.Step.TheVariants.{Shelf, Key, Wants, Start}
use Rattle.rehearsal.specs.declared.step.StopAt.{StopAt}
use Rattle.rehearsal.specs.declared.texts.NamedText.{NamedText}

module _ (texts : List NamedText) (line rest : List ℕ) (all : List (List ℕ)) (front : line ≡ codes "start " ++ rest) (are : all ≡ words rest) where
  -- another front has another byte at that place
  apart : (k : ℕ) (other : List ℕ) → line ≡ other → get_or (codes "start " ++ rest) k 0 ≡ get_or other k 0
  apart k other is = ap (λ l. get_or l k 0) (sym front ∙ is)

  same_rest : (other : List ℕ) → line ≡ codes "start " ++ other → rest ≡ other
  same_rest other is = ap (λ l. drop 6 l) (sym front ∙ is)

  no_line : ((own : List (List ℕ)) (input : Option (List ℕ)) (stop : Option StopAt) → IsStart texts all own input stop → ⊥) → (other : Line) → IsLine texts line other → ⊥
  no_line none Empty is = omega (arith, apart 0 [] is)
  no_line none (TextBegins name) is = omega (arith, apart 0 (codes "doc " ++ is.0) is.1)
  no_line none (Does (Shelf configuration content)) is = omega (arith, apart 1 (codes "shelf " ++ is.0) is.2)
  no_line none (Does (Key key)) is = omega (arith, apart 0 (codes "key " ++ key) is.0)
  no_line none (Does (Wants id)) is = omega (arith, apart 0 (codes "wants " ++ id) is.0)
  no_line none (Does (Start own input stop)) is =
      none own input stop (subst (λ (w : List (List ℕ)). IsStart texts w own input stop) (ap words (sym (same_rest is.0 is.1)) ∙ sym are) is.2)

  pub start_form : (result : Option Line)
      → IfSome result (λ read. (own : List (List ℕ)) × (input : Option (List ℕ)) × (stop : Option StopAt) × (read ≡ Does (Start own input stop)) × IsStart texts all own input stop)
      → IfNone result ((own : List (List ℕ)) (input : Option (List ℕ)) (stop : Option StopAt) → IsStart texts all own input stop → ⊥)
      → MatchOption result ((other : Line) → IsLine texts line other → ⊥) (IsLine texts line)
  start_form None some none = no_line none
  start_form (Some read) (own, input, stop, is, start) none =
      subst (λ (r : Line). IsLine texts line r) (sym is) (rest, front, subst (λ (w : List (List ℕ)). IsStart texts w own input stop) are start)
