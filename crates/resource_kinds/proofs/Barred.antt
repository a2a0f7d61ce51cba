-- What stands above a path.
use Rattle.std.proofs.Common.{◌≡◌, ◌↔◌, ℕ, ◌+◌, ◌<◌, ◌≤◌, List, ◌∷◌, ◌++◌, Bool, true, false, IsTrue, IfSome, Option, Some, None, Ok, length, take, drop, slice_index, refl, sym, ap, subst, ◌∙◌, arith, length-append}
use Rattle.std.proofs.Math.Seq.{take-append_seam, get_or-append_seam}
use Rattle.dsc_terms.proofs.Splits.{split_at}
use Rattle.dsc_outside.specs.Host.{HostState, Tells}
use Rattle.dsc_outside.specs.Paths.{IsBelow}
use Rattle.dsc_outside.specs.declared.host.HostError.{HostError}
use Rattle.resource_kinds.specs.Holds.{BarsFolder, IsBarred}

-- the front of a path, up to a `/`, is above it
pub front_above : (path : List ℕ) (at : ℕ) → at < length path → slice_index path at ≡ 47 → IsBelow (take at path) path
front_above path at within slash = (drop (at + 1) path, split_at path at 0 within ∙ ap (λ c. take at path ++ c ∷ drop (at + 1) path) slash)

pub barred : (shown now : Option HostState) (heard : Bool) (path front : List ℕ) (at : ℕ) → now ≡ shown → heard ≡ true → front ≡ take at path → at < length path → slice_index path at ≡ 47
    → Tells {E = HostError} now (Ok heard) (λ state b. IsTrue b ↔ BarsFolder (state.path front)) → Tells {E = HostError} shown (Ok true) (λ state b. IsTrue b ↔ IsBarred state.path path)
barred shown now heard path front at same is cut within slash answer =
    barred_here shown (subst (λ f. Tells {E = HostError} shown (Ok true) (λ state b. IsTrue b ↔ BarsFolder (state.path f))) cut
    (subst (λ b. Tells {E = HostError} shown (Ok b) (λ state b. IsTrue b ↔ BarsFolder (state.path front))) is
    (subst (λ t. Tells {E = HostError} t (Ok heard) (λ state b. IsTrue b ↔ BarsFolder (state.path front))) same answer)))
  where
    barred_here : (t : Option HostState) → Tells {E = HostError} t (Ok true) (λ state b. IsTrue b ↔ BarsFolder (state.path (take at path))) → Tells {E = HostError} t (Ok true) (λ state b. IsTrue b ↔ IsBarred state.path path)
    barred_here None known = tt
    barred_here (Some state) known = (λ _. (take at path, front_above path at within slash, known.0 refl), λ _. refl)

-- a path that was looked at to its end is not barred
pub not_barred : (shown : Option HostState) (path : List ℕ) (far : ℕ) → length path ≤ far
    → IfSome shown (λ state. (k : ℕ) → k < far → slice_index path k ≡ 47 → BarsFolder (state.path (take k path)) → ⊥)
    → Tells {E = HostError} shown (Ok false) (λ state b. IsTrue b ↔ IsBarred state.path path)
not_barred None path far all clear = tt
not_barred (Some state) path far all clear = (λ barred. absurd (cc (barred)), λ is. absurd (none is))
  where
    none : IsBarred state.path path → ⊥
    none is =
        let above = is.0 in
        let rest = is.1.0 in
        let spelled : path ≡ above ++ 47 ∷ rest = is.1.1 in
        clear (length above) (omega (arith, all, ap length spelled, length-append above (47 ∷ rest)))
        (ap (λ p. slice_index p (length above)) spelled ∙ get_or-append_seam above 47 rest 0)
        (subst (λ a. BarsFolder (state.path a)) (sym (take-append_seam above (47 ∷ rest)) ∙ ap (take (length above)) (sym spelled)) is.2)
