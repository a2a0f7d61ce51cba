-- Written values have no floats and are flat.
use Rattle.std.proofs.Common.{◌≡◌, ◌≤◌, ℕ, List, [], ◌∷◌, false, map, refl, arith}
use Rattle.serde_json.specs.Data.{Data, depth, items_depth}
use Rattle.serde_json.specs.Read.{max_depth}
use Rattle.serde_json.specs.View.{items_of}
use Rattle.serde_json.specs.Written.{has_float, items_have_float}
use Rattle.pull_messages.specs.declared.registration.Registration.{Registration}
use Rattle.pull_messages.specs.declared.query.ActionQuery.{ActionQuery}
use Rattle.pull_messages.specs.declared.action.ActionAnswer.{ActionAnswer}
use Rattle.pull_messages.specs.declared.report.ReportMessage.{ReportMessage}
use Rattle.pull_messages.specs.Writing.{text_data, client_data, detail_data, registration_data, query_data, action_data, report_data}

no_floats : {X : Type 0} (f : X → Data) → ((x : X) → has_float (f x) ≡ false) → (xs : List X) → items_have_float (items_of (map f xs)) ≡ false
no_floats f each [] = refl
no_floats f each (x ∷ xs) = rw (each x, no_floats f each xs) refl

flat : {X : Type 0} (f : X → Data) (n : ℕ) → ((x : X) → depth (f x) ≡ n) → (xs : List X) → items_depth (items_of (map f xs)) ≤ n
flat f n each [] = omega arith
flat f n each (x ∷ xs) = rw (each x) (omega (arith, flat f n each xs))

pub registration_no_float : (x : Registration) → has_float (registration_data x) ≡ false
registration_no_float x = rw (no_floats text_data (λ _. refl) x.names) refl

pub registration_flat : (x : Registration) → depth (registration_data x) ≤ max_depth
registration_flat x = omega (arith, flat text_data 0 (λ _. refl) x.names)

pub query_no_float : (x : ActionQuery) → has_float (query_data x) ≡ false
query_no_float x = rw (no_floats client_data (λ _. refl) x.clients) refl

pub query_flat : (x : ActionQuery) → depth (query_data x) ≤ max_depth
query_flat x = omega (arith, flat client_data 1 (λ _. refl) x.clients)

pub action_no_float : (x : ActionAnswer) → has_float (action_data x) ≡ false
action_no_float x = rw (no_floats detail_data (λ _. refl) x.details) refl

pub action_flat : (x : ActionAnswer) → depth (action_data x) ≤ max_depth
action_flat x = omega (arith, flat detail_data 1 (λ _. refl) x.details)

pub report_no_float : (x : ReportMessage) → has_float (report_data x) ≡ false
report_no_float x = rw (no_floats text_data (λ _. refl) x.errors, no_floats text_data (λ _. refl) x.status_data) refl

pub report_flat : (x : ReportMessage) → depth (report_data x) ≤ max_depth
report_flat x = omega (arith, flat text_data 0 (λ _. refl) x.errors, flat text_data 0 (λ _. refl) x.status_data)
