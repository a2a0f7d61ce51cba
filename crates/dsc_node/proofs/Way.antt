-- One event more, on the way of a start.
use Rattle.std.proofs.Common.{◌≡◌, inl, inr, List, ℕ, [], ◌∷◌, ◌++◌, ◌∙◌, ap, refl, sym, subst, append_assoc, append-nil}
use Rattle.dsc_outside.specs.declared.disk.Disk.{Ghosts}
use Rattle.gate_log.specs.declared.shape.Shape.{Shape}
use Rattle.gate_log.specs.Text.{Gives}
use Rattle.gate_log.specs.Standing.{AllStand, StandsFor}
use Rattle.gate_log.proofs.Cells.{text_gives}
use Rattle.node_state.specs.declared.node.Node.{Node}
use Rattle.node_state.specs.declared.event.Event.{Event}
use Rattle.node_state.specs.Table.{Step, Steps}
use Rattle.node_store.specs.Stands.{BeforeOrAfter, Stands}
use Rattle.node_store.specs.Store.{IsKept, StoreTerm}
use Rattle.node_store.proofs.Formats.{leads_in}
use Rattle.dsc_node.specs.Path.{IsOnTheWay}

pub steps-append : (old mid new : Node) (first second : List Event) → Steps old first mid → Steps mid second new → Steps old (first ++ second) new
steps-append old mid new [] second is more = subst (λ (n : Node). Steps n second new) is more
steps-append old mid new (event ∷ first) second (next, step, rest) more = (next, step, steps-append next mid new first second rest more)

pub steps-push : (old mid new : Node) (work : List Event) (event : Event) → Steps old work mid → Step mid event new → Steps old (work ++ event ∷ []) new
steps-push old mid new work event steps step = steps-append old mid new work (event ∷ []) steps (new, step, refl)

module _ {D : Type 0} (d : Ghosts D) (begin : D) (from : Node) (work : List Event) (event : Event) where
  -- what was on the way of this work is on that of more
  pub way_grows : (node : Node) → IsOnTheWay d begin from work node → IsOnTheWay d begin from (work ++ event ∷ []) node
  way_grows node (inl stood) = inl stood
  way_grows node (inr p) = inr (record {
    front = p.front;
    rest = p.rest ++ event ∷ [];
    is = ap (λ (w : List Event). w ++ event ∷ []) p.is ∙ append_assoc p.front p.rest (event ∷ []);
    steps = p.steps;
  })

  -- before the event or after it
  pub way_steps : (mid : Node) → Steps from work mid → (node : Node) → BeforeOrAfter mid event node → IsOnTheWay d begin from (work ++ event ∷ []) node
  way_steps mid steps node (inl same) = inr (record { front = work; rest = event ∷ []; is = refl; steps = subst (λ (n : Node). Steps from work n) (sym same) steps })
  way_steps mid steps node (inr step) = inr (record { front = work ++ event ∷ []; rest = []; is = sym (append-nil (work ++ event ∷ [])); steps = steps-push from mid node work event steps step })

pub stands_map : (P Q : Node → Type 0) → ((node : Node) → P node → Q node) → (c : List ℕ) → StandsFor Stands P c → StandsFor Stands Q c
stands_map P Q to c s = record { value = s.value; stands = s.stands; has = to s.value s.has }

-- every image of the disk of a store stands for its node
pub kept_stands : {D : Type 0} (d : Ghosts D) (disk : D) (store : StoreTerm) → IsKept d disk store → AllStand d disk Stands (λ node. node ≡ store.node)
kept_stands d disk store kept = λ c there. record {
  value = store.node;
  stands = record {
    bodies = kept.bodies;
    gives = subst (λ (s : Shape). Gives s c kept.bodies) kept.shape (text_gives store.log.shape store.log.second store.log.closed c kept.bodies (kept.of.each c there));
    leads = leads_in store.blobs kept.bodies store.node kept.leads;
  };
  has = refl;
}
