-- A node without an agent has no bodies in format 1.
use Rattle.std.proofs.Common.{◌≡◌, ◌⊎◌, inl, inr, ℕ, Bool, true, ◌&&◌, List, Option, Some, None, is_some, [], ◌∷◌, ◌++◌, map, refl, sym, ◌∙◌, subst}
use Rattle.std.specs.Prelude.{IsSome}
use Rattle.node_state.specs.declared.event.Event.{Event}
use Rattle.node_state.specs.declared.event.Stage.TheVariants.{Pending, Current, Previous}
use Rattle.node_state.specs.declared.node.Node.{Node}
use Rattle.node_state.specs.declared.piece.Piece.{Piece}
use Rattle.node_state.specs.declared.piece.Piece.TheVariants as pieces
use Rattle.node_state.specs.Pieces.{Builds, fits, placed}
use Rattle.node_state.specs.Sound.{Sound}
use Rattle.node_state.specs.Table.{Steps, new_node}
use Rattle.node_state.proofs.Building.{built_is_sound}
use Rattle.node_state.proofs.SoundSteps.{steps_are_sound, steps_have_agents}
use Rattle.node_store.specs.Bodies.{body_of_event, body_of_piece}
use Rattle.node_store.specs.Stands.{LeadsInFull}

some_first : (agent : Option ℕ) (rest : Bool) → (is_some agent && rest) ≡ true → IsSome agent
some_first (Some agent) rest is = refl
some_first None rest is = absurd (cc is)

-- a piece that fits leaves a node of an agent
placed_agent : (node : Node) (piece : Piece) → fits node piece ≡ true → IsSome (placed node piece).agent
placed_agent node (pieces.Base agent registered reboot next_job meta) fit = refl
placed_agent node (pieces.Slot Pending parts) fit = some_first node.agent _ fit
placed_agent node (pieces.Slot Current parts) fit = some_first node.agent _ fit
placed_agent node (pieces.Slot Previous parts) fit = some_first node.agent _ fit
placed_agent node (pieces.Kept kept) fit = some_first node.agent _ fit

built_agent : (old new : Node) (front : List Piece) → Builds old front new → (front ≡ []) ⊎ IsSome new.agent
built_agent old new [] builds = inl refl
built_agent old new (piece ∷ []) builds = inr (subst (λ (n : Node). IsSome n.agent) (sym builds.2) (placed_agent old piece builds.1))
built_agent old new (piece ∷ other ∷ front) builds = by (built_agent (placed old piece) new (other ∷ front) builds.2)
  where
    by : (other ∷ front ≡ []) ⊎ IsSome new.agent → (piece ∷ other ∷ front ≡ []) ⊎ IsSome new.agent
    by (inl none) = absurd (cc none)
    by (inr some) = inr some

stepped_agent : (old new : Node) (events : List Event) → Sound old → Steps old events new → (events ≡ []) ⊎ IsSome new.agent
stepped_agent old new [] sound steps = inl refl
stepped_agent old new (event ∷ []) sound (mid, step, is) = inr (subst (λ (n : Node). IsSome n.agent) (sym is) (steps_have_agents old event mid sound step))
stepped_agent old new (event ∷ other ∷ events) sound (mid, step, more) = by (stepped_agent mid new (other ∷ events) (steps_are_sound old event mid sound step) more)
  where
    by : (other ∷ events ≡ []) ⊎ IsSome new.agent → (event ∷ other ∷ events ≡ []) ⊎ IsSome new.agent
    by (inl none) = absurd (cc none)
    by (inr some) = inr some

no_agent : (node : Node) → node.agent ≡ None → IsSome node.agent → ⊥
no_agent node none some = let no : IsSome {T = ℕ} None = subst (λ (o : Option ℕ). IsSome o) none some in cc no

pub no_bodies : (bodies : List (List ℕ)) (node : Node) → LeadsInFull bodies node → node.agent ≡ None → bodies ≡ []
no_bodies bodies node leads none = by (stepped_agent leads.first node leads.events (built_is_sound leads.front leads.first leads.builds) leads.steps)
  where
    front : leads.events ≡ [] → (leads.front ≡ []) ⊎ IsSome leads.first.agent → bodies ≡ []
    front no_events (inl no_front) = leads.is ∙ (λ i. map body_of_piece (no_front i) ++ map body_of_event (no_events i))
    front no_events (inr some) =
        let same : node ≡ leads.first = subst (λ (l : List Event). Steps leads.first l node) no_events leads.steps in
        absurd (no_agent node none (subst (λ (n : Node). IsSome n.agent) (sym same) some))

    by : (leads.events ≡ []) ⊎ IsSome node.agent → bodies ≡ []
    by (inl no_events) = front no_events (built_agent new_node leads.first leads.front leads.builds)
    by (inr some) = absurd (no_agent node none some)
