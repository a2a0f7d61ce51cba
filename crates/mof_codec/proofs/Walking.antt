-- The walk of the machine in two parts.
use Rattle.std.proofs.Common.{◌≡◌, ℕ, List, [], ◌∷◌, ◌++◌, Option, Some, None, refl, sym, ◌∙◌, ap, subst}
use Rattle.mof_codec.specs.declared.machine.state.Place.{Place}
use Rattle.mof_codec.specs.declared.machine.state.Place.TheVariants.{Start}
use Rattle.mof_codec.specs.declared.machine.state.Half.{Half}
use Rattle.mof_codec.specs.declared.machine.state.Half.TheVariants as halves
use Rattle.mof_codec.specs.declared.machine.state.State.{State}
use Rattle.mof_codec.specs.declared.machine.state.Event.{Event}
use Rattle.mof_codec.specs.Machine.{step}
use Rattle.mof_codec.specs.Walked.{tally, AfterWalk, moved, advance, walk_from, start, walked}
use Rattle.mof_codec.proofs.Runs.{Next, RunsTo}

abbrev pub On : (AfterWalk → Type 0) → Option AfterWalk → Type 0
On P None = ⊥
On P (Some b) = P b

pub none_stays : (cs : List ℕ) → walk_from None cs ≡ None
none_stays [] = refl
none_stays (c ∷ cs) = none_stays cs

pub walk-append : (b : Option AfterWalk) (xs ys : List ℕ) → walk_from b (xs ++ ys) ≡ walk_from (walk_from b xs) ys
walk-append b [] ys = refl
walk-append b (x ∷ xs) ys = walk-append (advance b x) xs ys

pub walked-more : (front : List ℕ) (c : ℕ) (b : AfterWalk) (s : State) → walked front ≡ Some b → step b.half b.place c ≡ Some s
    → walked (front ++ c ∷ []) ≡ Some (record { half = s.half; place = s.place; begun = tally s.begun b.begun })
walked-more front c b s is next =
    walk-append (Some start) front (c ∷ []) ∙ ap (λ (x : Option AfterWalk). advance x c) is ∙ ap (λ (x : Option State). moved x b.begun) next

pub walked-stuck : (front : List ℕ) (c : ℕ) (b : AfterWalk) → walked front ≡ Some b → step b.half b.place c ≡ None → (rest : List ℕ) → walked (front ++ c ∷ rest) ≡ None
walked-stuck front c b is stuck rest =
    walk-append (Some start) front (c ∷ rest) ∙ ap (λ (x : Option AfterWalk). walk_from (advance x c) rest) is
    ∙ ap (λ (x : Option State). walk_from (moved x b.begun) rest) stuck ∙ none_stays rest

module _ (F : Half → Place → List Event → Type 0) where
  abbrev GoesOn : List ℕ → AfterWalk → Type 0
  GoesOn rest b = RunsTo F rest b.half b.place b.begun

  next_front : (o : Option State) (cs rest : List ℕ) (acc : List Event)
      → ((h : Half) (p : Place) (a : List Event) → RunsTo F (cs ++ rest) h p a → On (GoesOn rest) (walk_from (Some (record { half = h; place = p; begun = a })) cs))
      → Next o (λ k q e. RunsTo F (cs ++ rest) k q (tally e acc)) → On (GoesOn rest) (walk_from (moved o acc) cs)
  next_front None cs rest acc f r = absurd r
  next_front (Some s) cs rest acc f r = f s.half s.place (tally s.begun acc) r

  runs_front : (front rest : List ℕ) (h : Half) (p : Place) (acc : List Event) → RunsTo F (front ++ rest) h p acc
      → On (GoesOn rest) (walk_from (Some (record { half = h; place = p; begun = acc })) front)
  runs_front [] rest h p acc r = r
  runs_front (c ∷ cs) rest h p acc r = next_front (step h p c) cs rest acc (runs_front cs rest) r

  front_next : (o : Option State) (cs rest : List ℕ) (acc : List Event)
      → ((h : Half) (p : Place) (a : List Event) → On (GoesOn rest) (walk_from (Some (record { half = h; place = p; begun = a })) cs) → RunsTo F (cs ++ rest) h p a)
      → On (GoesOn rest) (walk_from (moved o acc) cs) → Next o (λ k q e. RunsTo F (cs ++ rest) k q (tally e acc))
  front_next None cs rest acc f r = subst (λ (x : Option AfterWalk). On (GoesOn rest) x) (none_stays cs) r
  front_next (Some s) cs rest acc f r = f s.half s.place (tally s.begun acc) r

  front_runs : (front rest : List ℕ) (h : Half) (p : Place) (acc : List Event) → On (GoesOn rest) (walk_from (Some (record { half = h; place = p; begun = acc })) front)
      → RunsTo F (front ++ rest) h p acc
  front_runs [] rest h p acc r = r
  front_runs (c ∷ cs) rest h p acc r = front_next (step h p c) cs rest acc (front_runs cs rest) r

  -- what the machine takes after a front it takes after the start with the front before it, and no more
  pub goes_on : (front rest : List ℕ) (b : AfterWalk) → walked front ≡ Some b → RunsTo F rest b.half b.place b.begun → RunsTo F (front ++ rest) halves.Gap Start []
  goes_on front rest b is r = front_runs front rest halves.Gap Start [] (subst (λ (x : Option AfterWalk). On (GoesOn rest) x) (sym is) r)

  pub only_so : (front rest : List ℕ) (b : AfterWalk) → walked front ≡ Some b → RunsTo F (front ++ rest) halves.Gap Start [] → RunsTo F rest b.half b.place b.begun
  only_so front rest b is r = subst (λ (x : Option AfterWalk). On (GoesOn rest) x) is (runs_front front rest halves.Gap Start [] r)
