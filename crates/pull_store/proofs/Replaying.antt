-- The rows to which bodies lead.
use Rattle.std.proofs.Common.{◌≡◌, ℕ, List, [], ◌∷◌, ◌++◌, None, refl, sym, ◌∙◌, ap, subst}
use Rattle.gate_log.specs.Kept.{LeadFromFront, LeadToOne}
use Rattle.pull_store.specs.declared.row.Row.{Row}
use Rattle.pull_store.specs.declared.change.Change.{Change}
use Rattle.pull_store.specs.Rows.{after, refusal}
use Rattle.pull_store.specs.Stands.{IsBody, Takes, Replays, Leads, EndsAt}
use Rattle.pull_store.proofs.Building.{replays_push}
use Rattle.pull_store.proofs.BodiesRead.{one_body}

is_body : (old : List Row) (body : List ℕ) (new : List Row) (takes : Takes old body new) → IsBody body takes.change
is_body old body new takes = record { is = takes.spells; size = takes.changes.size }

one_taken : (old : List Row) (body : List ℕ) (one other : List Row) → Takes old body one → Takes old body other → one ≡ other
one_taken old body one other first second =
    let same = one_body body first.change second.change (is_body old body one first) (is_body old body other second) in
    first.changes.is ∙ ap (λ (change : Change). after change old) same ∙ sym second.changes.is

pub one_replayed : (bodies : List (List ℕ)) (old one other : List Row) → Replays old bodies one → Replays old bodies other → one ≡ other
one_replayed [] old one other first second = first ∙ sym second
one_replayed (body ∷ bodies) old one other first second =
    let same = one_taken old body first.0 second.0 first.1 second.1 in
    one_replayed bodies second.0 one other (subst (λ (mid : List Row). Replays mid bodies one) same first.2) second.2

-- the last of some bodies
pub replays_last : (bodies : List (List ℕ)) (body : List ℕ) (old new : List Row) → Replays old (bodies ++ body ∷ []) new → (mid : List Row) × (Replays old bodies mid × Takes mid body new)
replays_last [] body old new replays = (old, (refl, subst (λ (rows : List Row). Takes old body rows) (sym replays.2) replays.1))
replays_last (first ∷ bodies) body old new replays =
    let last = replays_last bodies body replays.0 new replays.2 in
    (last.0, ((replays.0, replays.1, last.1.0), last.1.1))

-- the first of some bodies lead to rows too
pub fronts_lead : LeadFromFront Leads
fronts_lead front rest rows leads = from [] front leads
  where
    from : (old : List Row) (front : List (List ℕ)) → Replays old (front ++ rest) rows → (mid : List Row) × Replays old front mid
    from old [] replays = (old, refl)
    from old (body ∷ front) (mid, takes, more) =
        let first = from mid front more in
        (first.0, (mid, takes, first.1))

pub lead_to_one : LeadToOne Leads
lead_to_one bodies one other first second = one_replayed bodies [] one other first second

-- ---- one body more

pub took_more : (rows : List Row) (bodies : List (List ℕ)) (body : List ℕ) (change : Change) → Replays [] bodies rows → IsBody body change → refusal change rows ≡ None → Replays [] (bodies ++ body ∷ []) (after change rows)
took_more rows bodies body change replays is accepted =
    replays_push [] rows (after change rows) bodies body replays (record { change = change; spells = is.is; changes = record { size = is.size; accepted = accepted; is = refl } })

-- these bodies lead to rows that take no change of which the body is
ended : (rows : List Row) (bodies : List (List ℕ)) (body : List ℕ) → Replays [] bodies rows → ((change : Change) → IsBody body change → refusal change rows ≡ None → ⊥) → EndsAt bodies body
ended rows bodies body replays none = record {
  lead = (rows, replays);
  ends = λ new more.
      let last = replays_last bodies body [] new more in
      let takes = subst (λ (mid : List Row). Takes mid body new) (one_replayed bodies [] last.0 rows last.1.0 replays) last.1.1 in
      none takes.change (is_body rows body new takes) takes.changes.accepted;
}

pub no_body : (rows : List Row) (bodies : List (List ℕ)) (body : List ℕ) → Replays [] bodies rows → ((change : Change) → IsBody body change → ⊥) → EndsAt bodies body
no_body rows bodies body replays none = ended rows bodies body replays (λ change is accepted. none change is)

pub not_accepted : (rows : List Row) (bodies : List (List ℕ)) (body : List ℕ) (change : Change) → Replays [] bodies rows → IsBody body change → (refusal change rows ≡ None → ⊥) → EndsAt bodies body
not_accepted rows bodies body change replays is refused = ended rows bodies body replays (λ other body_of_other accepted.
    refused (subst (λ (c : Change). refusal c rows ≡ None) (one_body body other change body_of_other is) accepted))
