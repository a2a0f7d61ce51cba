-- The answers to a query: one for each name.
use Rattle.std.proofs.Common.{◌≡◌, inl, inr, ℕ, Bool, true, false, List, [], ◌∷◌, length, ◌==◌, Result, Ok, Err, refl, sym, ap, subst, ◌∙◌}
use Rattle.std.specs.Global.{Vec}
use Rattle.std.specs.Prelude.{IfOk, IsTrue, is_some, nat_le}
use Rattle.http_frames.specs.declared.message.Reply.{Reply}
use Rattle.pull_messages.specs.declared.action.ActionAnswer.{ActionAnswer}
use Rattle.pull_messages.specs.declared.error.MessageError.{MessageError}
use Rattle.pull_messages.specs.declared.error.MessageError.TheVariants as messages
use Rattle.report_log.specs.declared.report.PartMark.{PartMark}
use Rattle.pull_client.specs.Content.{items_in}
use Rattle.pull_client.specs.Heard.{SaysOr}
use Rattle.pull_client.specs.Queries.{AreAnswers, BodyTells, Tells, before_others, fetch_of, fetches, held_under, status_in, told_by}
use Rattle.pull_client.specs.declared.error.PeerError.{PeerError}
use Rattle.pull_client.specs.declared.limits.TheConstants.{MAX_ACTION_ANSWER}
use Rattle.pull_client.specs.declared.statuses.Status.{Status}
use Rattle.pull_client.specs.declared.statuses.Status.TheVariants.{UpToDate, ToFetch, NotReady, Unknown}

abbrev pub AnswersIfTold : List PartMark → List (List ℕ) → Result (List Bool) PeerError → Type 0
AnswersIfTold held names result = IfOk result (λ given. AreAnswers held names given)

fetch_held : (name : List ℕ) (holds : Bool) (status : Status) → fetch_of name holds status ≡ Ok false → IsTrue holds
fetch_held name true status is = refl
fetch_held name false ToFetch is = absurd (cc is)
fetch_held name false UpToDate is = absurd (cc is)
fetch_held name false NotReady is = absurd (cc is)
fetch_held name false Unknown is = absurd (cc is)

answers_with : (held : List PartMark) (name : List ℕ) (names : List (List ℕ)) (status : Status) (first : Result Bool PeerError) (others : Result (List Bool) PeerError)
    → fetch_of name (is_some (held_under held name)) status ≡ first → AnswersIfTold held names others → AnswersIfTold held (name ∷ names) (before_others first others)
answers_with held name names status (Ok fetch) (Ok others) is later =
    ((λ unfetched. fetch_held name (is_some (held_under held name)) status (is ∙ ap Ok unfetched)), later)
answers_with held name names status (Ok fetch) (Err error) is later = tt
answers_with held name names status (Err error) others is later = tt

fetches_answer : (only : Bool) (answer : ActionAnswer) (held : List PartMark) (names : List (List ℕ)) → AnswersIfTold held names (fetches only answer held names)
fetches_answer only answer held [] = tt
fetches_answer only answer held (name ∷ names) =
    answers_with held name names (status_in only answer.node name answer.details) _ (fetches only answer held names) refl (fetches_answer only answer held names)

told_answer : (held : List PartMark) (names : List (List ℕ)) (message : Result ActionAnswer MessageError) → AnswersIfTold held names (told_by held names message)
told_answer held names (Ok answer) = fetches_answer (length names == 1) answer held names
told_answer held names (Err messages.Memory) = tt
told_answer held names (Err error) = tt

body_answers : (within : Bool) (held : List PartMark) (names : List (List ℕ)) (body : List ℕ) (result : Result (List Bool) PeerError) → BodyTells within held names body result
    → AnswersIfTold held names result
body_answers true held names body result (message, reads, is) = subst (AnswersIfTold held names) (sym is) (told_answer held names message)
body_answers false held names body result is = subst (AnswersIfTold held names) (sym is) tt

says_answers : (held : List PartMark) (names : List (List ℕ)) (reply : Reply) (result : Result (List Bool) PeerError) → SaysOr (Tells held names) reply result
    → AnswersIfTold held names result
says_answers held names reply result (inl tells, answered) = body_answers (nat_le (length reply.body) MAX_ACTION_ANSWER) held names reply.body result tells
says_answers held names reply result (inr none, answered) = subst (AnswersIfTold held names) (sym none) tt

-- the same of a vector
pub are_answers : (held : List PartMark) (names : List (List ℕ)) (reply : Reply) (result : Result (Vec Bool) PeerError)
    → SaysOr (Tells held names) reply (items_in result (λ v. v.items)) → IfOk result (λ given. AreAnswers held names given.items)
are_answers held names reply (Ok given) says = says_answers held names reply (Ok given.items) says
are_answers held names reply (Err error) says = tt
