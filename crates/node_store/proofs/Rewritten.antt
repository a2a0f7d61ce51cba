-- The bodies of the whole node after an event.
use Rattle.std.proofs.Common.{◌≡◌, ◌<◌, List, ℕ, Option, Some, None, All, zero, suc, [], ◌∷◌, length, refl, sym, subst, arith}
use Rattle.std.specs.List.{AllByRecursion}
use Rattle.gate_log.specs.Kept.{LeadsAnew}
use Rattle.gate_log.specs.Text.{AllFit, cells}
use Rattle.node_state.specs.declared.node.Kept.{Kept}
use Rattle.node_state.specs.declared.node.Node.{Node}
use Rattle.node_state.specs.declared.event.Event.{Event}
use Rattle.node_state.specs.Pieces.{front}
use Rattle.node_state.specs.Sound.{Sound}
use Rattle.node_state.specs.Table.{IsWithin, after, refusal}
use Rattle.node_state.proofs.Building.{fronts_build}
use Rattle.node_state.proofs.SoundSteps.{steps_are_sound}
use Rattle.node_store.specs.Bodies.{HasDigests, IsEventInRange}
use Rattle.node_store.specs.Reports.{IsReport}
use Rattle.node_store.specs.Digests.{Blobs, texts_of_node}
use Rattle.node_store.specs.Stands.{LeadTo, Leads, LeadsIn}
use Rattle.node_store.specs.Whole.{AreBlobsOf, whole_bodies}
use Rattle.node_store.proofs.Formats.{kept_as}
use Rattle.node_store.specs.declared.limits.TheConstants.{BANK, MAX_BODY}
use Rattle.node_store.proofs.Ranges.{InRange, front_in_range, leads_in_range, leads_sound, step_in_range}
use Rattle.node_store.proofs.Lacking.{lack_all, lack_new}
use Rattle.node_store.proofs.Replay.{built_leads}
use Rattle.node_store.proofs.Sizes.{has_digests}
use Rattle.node_store.proofs.WholeByDigests.{whole_leads}
use Rattle.node_store.proofs.WholeSizes.{node_blobs, whole_fits}

have_digests : (reports : List Kept) → AllByRecursion (λ (k : Kept). IsReport k.report) reports → All (λ (k : Kept). HasDigests k.report) reports
have_digests [] all k d below = absurd (omega arith)
have_digests (x ∷ xs) all zero d below = has_digests x.report all.0
have_digests (x ∷ xs) all (suc k) d below = have_digests xs all.1 k d (omega (arith, below))

module _ (bodies : List (List ℕ)) (node : Node) (event : Event) (leads : Leads bodies node) (allowed : refusal node event ≡ None) (within : IsWithin event) (range : IsEventInRange event) where
  pub sound_after : Sound (after node event)
  sound_after = steps_are_sound node event (after node event) (leads_sound bodies node leads) (record { within = within; allowed = allowed; is = refl })

  range_after : InRange (after node event)
  range_after = step_in_range node event (leads_in_range bodies node leads) range allowed

  -- they fit a bank, and none of them is too long
  pub whole_fit : (blobs : Option Blobs) (agent : ℕ) → AreBlobsOf blobs (after node event)
      → (length (cells (whole_bodies blobs agent (after node event))) < BANK) × AllFit MAX_BODY (whole_bodies blobs agent (after node event))
  whole_fit blobs agent are = whole_fits blobs agent (after node event) are sound_after (have_digests (after node event).reports range_after.reports)

  -- they lead to the node, in format 2 where these Blobs are given
  whole_lead : (blobs : Option Blobs) (agent : ℕ) → (after node event).agent ≡ Some agent → AreBlobsOf blobs (after node event) → LeadsIn blobs (whole_bodies blobs agent (after node event)) (after node event)
  whole_lead (Some blobs) agent has are =
      let next = after node event in
      let ranges = front_in_range agent next has sound_after range_after in
      whole_leads blobs agent next (lack_new [] (texts_of_node next) blobs are) (node_blobs blobs next are sound_after) (lack_all [] (texts_of_node next) blobs are) ranges
      (built_leads (front agent next) next (fronts_build agent next has sound_after) ranges)
  whole_lead None agent has are =
      let next = after node event in
      built_leads (front agent next) next (fronts_build agent next has sound_after) (front_in_range agent next has sound_after range_after)

  pub anew : (from blobs : Option Blobs) (agent : ℕ) (whole : List (List ℕ)) → (after node event).agent ≡ Some agent → AreBlobsOf blobs (after node event) → whole ≡ whole_bodies blobs agent (after node event)
      → LeadsAnew LeadTo whole (kept_as node from) (kept_as (after node event) blobs)
  anew from blobs agent whole has are is = subst (λ (l : List (List ℕ)). LeadsIn blobs l (after node event)) (sym is) (whole_lead blobs agent has are)
