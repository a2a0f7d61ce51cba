-- What an exchange leaves of each agent's row.
use Rattle.std.proofs.Common.{◌≡◌, inl, inr, ◌==◌, ℕ, true, false, List, [], ◌∷◌, Option, Some, None, option_map, refl, sym, ◌∙◌, ap, subst}
use Rattle.std.specs.Result.{result_ok}
use Rattle.std.proofs.lemmas.Bool.{eq-eqb, eqb-true}
use Rattle.std.proofs.lemmas.Option.{same_Some}
use Rattle.pull_messages.specs.declared.registration.Registration.{Registration}
use Rattle.pull_messages.specs.declared.report.ReportMessage.{ReportMessage}
use Rattle.pull_messages.specs.declared.target_kinds.Target.{Target}
use Rattle.pull_messages.specs.declared.target_kinds.Target.TheVariants.{Node, Action, Content, Module, SendReport}
use Rattle.pull_store.specs.declared.row.Row.{Row}
use Rattle.pull_store.specs.declared.change.Change.{Change}
use Rattle.pull_store.specs.declared.change.Change.TheVariants.{Register, Report}
use Rattle.pull_store.specs.Rows.{after, after_registration, after_report, row_of}
use Rattle.pull_store.specs.Steps.{agent_of as changed_agent}
use Rattle.pull_store.proofs.Building.{tells}
use Rattle.pull_outside.specs.Shelf.{Contents}
use Rattle.pull_server.specs.Alone.{AnsweredAll, Exchange, IsAnswered, OwnAll, asker, change_of, exchanges_of, is_agent, row_after, row_by, row_made, rows_by, rows_left, rows_made}
use Rattle.pull_server.specs.Asked.{agent_of, change_to, on, row_for, target_in}
use Rattle.pull_server.specs.Messages.{registration_in, report_in}
use Rattle.pull_server.specs.Own.{own_outcome}
use Rattle.pull_server.specs.Table.{Outcome, leaves, makes}
use Rattle.pull_server.proofs.Own.{own}

-- ---- the row of the agent

register_own : (agent : ℕ) (registration : Registration) (rows : List Row) → row_of agent (after_registration agent registration rows) ≡ row_after (Register agent registration) (row_of agent rows)
register_own agent registration [] = rw (eq-eqb agent agent refl) refl
register_own agent registration (row ∷ rows) = elim (tells (row.agent == agent)) [
  | inl same ↦ rw (same, same) refl
  | inr other ↦ rw (other, other) (register_own agent registration rows)
]

report_own : (agent job : ℕ) (body : List ℕ) (rows : List Row) → row_of agent (after_report agent job body rows) ≡ row_after (Report agent job body) (row_of agent rows)
report_own agent job body [] = refl
report_own agent job body (row ∷ rows) = elim (tells (row.agent == agent)) [
  | inl same ↦ rw (same, same) refl
  | inr other ↦ rw (other, other) (report_own agent job body rows)
]

-- ---- every other row

register_other : (other agent : ℕ) (registration : Registration) (rows : List Row) → (other == agent) ≡ false → row_of agent (after_registration other registration rows) ≡ row_of agent rows
register_other other agent registration [] isnt = rw isnt refl
register_other other agent registration (row ∷ rows) isnt = elim (tells (row.agent == other)) [
  | inl same ↦ let away = ap (λ (n : ℕ). n == agent) (eqb-true row.agent other same) ∙ isnt in rw (same, away) refl
  | inr unlike ↦ elim (tells (row.agent == agent)) [
    | inl here ↦ rw (unlike, here) refl
    | inr away ↦ rw (unlike, away) (register_other other agent registration rows isnt)
  ]
]

report_other : (other agent job : ℕ) (body : List ℕ) (rows : List Row) → (other == agent) ≡ false → row_of agent (after_report other job body rows) ≡ row_of agent rows
report_other other agent job body [] isnt = refl
report_other other agent job body (row ∷ rows) isnt = elim (tells (row.agent == other)) [
  | inl same ↦ let away = ap (λ (n : ℕ). n == agent) (eqb-true row.agent other same) ∙ isnt in rw (same, away) refl
  | inr unlike ↦ elim (tells (row.agent == agent)) [
    | inl here ↦ rw (unlike, here) refl
    | inr away ↦ rw (unlike, away) (report_other other agent job body rows isnt)
  ]
]

after_own : (change : Change) (agent : ℕ) (rows : List Row) → changed_agent change ≡ agent → row_of agent (after change rows) ≡ row_after change (row_of agent rows)
after_own (Register a registration) agent rows same = subst (λ (n : ℕ). row_of n (after_registration a registration rows) ≡ row_after (Register a registration) (row_of n rows)) same (register_own a registration rows)
after_own (Report a job body) agent rows same = subst (λ (n : ℕ). row_of n (after_report a job body rows) ≡ row_after (Report a job body) (row_of n rows)) same (report_own a job body rows)

after_other : (change : Change) (agent : ℕ) (rows : List Row) → (changed_agent change == agent) ≡ false → row_of agent (after change rows) ≡ row_of agent rows
after_other (Register a registration) agent rows isnt = register_other a agent registration rows isnt
after_other (Report a job body) agent rows isnt = report_other a agent job body rows isnt

-- ---- a change is of the agent that asks

of_node : (agent : ℕ) (registration : Option Registration) (change : Change) → option_map (λ r. Register agent r) registration ≡ Some change → agent ≡ changed_agent change
of_node agent None change is = absurd (cc is)
of_node agent (Some r) change is = ap changed_agent (same_Some _ _ is)

of_report : (agent : ℕ) (body : List ℕ) (report : Option ReportMessage) (change : Change) → option_map (λ r. Report agent r.job body) report ≡ Some change → agent ≡ changed_agent change
of_report agent body None change is = absurd (cc is)
of_report agent body (Some r) change is = ap changed_agent (same_Some _ _ is)

abbrev some_agent : ℕ → Option ℕ
some_agent agent = Some agent

change_asker : (target : Option Target) (body : List ℕ) (change : Change) → on target (λ t. change_to t body) ≡ Some change → on target agent_of ≡ Some (changed_agent change)
change_asker None body change is = absurd (cc is)
change_asker (Some (Node agent)) body change is = ap some_agent (of_node agent (result_ok (registration_in body)) change is)
change_asker (Some (Action agent)) body change is = absurd (cc is)
change_asker (Some (Content agent name)) body change is = absurd (cc is)
change_asker (Some (Module name version)) body change is = absurd (cc is)
change_asker (Some (SendReport agent)) body change is = ap some_agent (of_report agent body (result_ok (report_in body)) change is)

-- ---- an exchange

is_asker : (agent : ℕ) (who : Option ℕ) → is_agent agent who ≡ true → who ≡ Some agent
is_asker agent None is = absurd (cc is)
is_asker agent (Some other) is = ap some_agent (eqb-true other agent is)

made_own : (change : Option Change) (agent : ℕ) (rows : List Row) → ((c : Change) → change ≡ Some c → changed_agent c ≡ agent) → row_of agent (rows_made change rows) ≡ row_made change (row_of agent rows)
made_own None agent rows of = refl
made_own (Some c) agent rows of = after_own c agent rows (of c refl)

made_other : (change : Option Change) (agent : ℕ) (rows : List Row) → ((c : Change) → change ≡ Some c → (changed_agent c == agent) ≡ false) → row_of agent (rows_made change rows) ≡ row_of agent rows
made_other None agent rows of = refl
made_other (Some c) agent rows of = after_other c agent rows (of c refl)

left_own : (e : Exchange) (o : Outcome) (agent : ℕ) (rows : List Row) → asker e ≡ Some agent → row_of agent (rows_by o (change_of e) rows) ≡ row_by o (change_of e) (row_of agent rows)
left_own e (leaves reply) agent rows asks = refl
left_own e (makes reply) agent rows asks =
    made_own (change_of e) agent rows (λ c is. same_Some _ _ (sym (change_asker (target_in e.aim) e.request.body c is) ∙ asks))

left_other : (e : Exchange) (o : Outcome) (agent : ℕ) (rows : List Row) → is_agent agent (asker e) ≡ false → row_of agent (rows_by o (change_of e) rows) ≡ row_of agent rows
left_other e (leaves reply) agent rows isnt = refl
left_other e (makes reply) agent rows isnt =
    made_other (change_of e) agent rows (λ c is. sym (ap (is_agent agent) (change_asker (target_in e.aim) e.request.body c is)) ∙ isnt)

own_answer : (shelf : Contents) (rows : List Row) (e : Exchange) (agent : ℕ) → asker e ≡ Some agent → IsAnswered shelf rows e → own_outcome e.request e.aim (row_of agent rows) shelf ≡ Some e.outcome
own_answer shelf rows e agent asks is =
    subst (λ (who : Option ℕ). own_outcome e.request e.aim (row_for who rows) shelf ≡ Some e.outcome) asks
    (own (record { request = e.request; aim = e.aim; row = row_for (asker e) rows; shelf = shelf; count = is.count; spent = is.spent; full = is.full }) e.outcome is.is is.own)

-- an agent's replies are those to its own requests, over its own row
pub alone : (shelf : Contents) (agent : ℕ) (rows last : List Row) (es : List Exchange) → AnsweredAll shelf rows es last → OwnAll shelf (row_of agent rows) (exchanges_of agent es) (row_of agent last)
alone shelf agent rows last [] is = ap (row_of agent) is
alone shelf agent rows last (e ∷ es) is =
    let rest = alone shelf agent (rows_left e rows) last es is.1 in
    elim (tells (is_agent agent (asker e))) [
      | inl same ↦
          let asks = is_asker agent (asker e) same in
          rw same (
            own_answer shelf rows e agent asks is.0,
            subst (λ (row : Option Row). OwnAll shelf row (exchanges_of agent es) (row_of agent last)) (left_own e e.outcome agent rows asks) rest,
          )
      | inr other ↦ rw other (subst (λ (row : Option Row). OwnAll shelf row (exchanges_of agent es) (row_of agent last)) (left_other e e.outcome agent rows other) rest)
    ]
