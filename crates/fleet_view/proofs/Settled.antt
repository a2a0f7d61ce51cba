-- Once its news was brought in, a fleet is that of the rows.
use Rattle.std.proofs.Common.{◌≡◌, ◌⊎◌, inl, inr, ℕ, Bool, true, false, if◌then◌else◌, List, Option, Some, None, is_some, refl, sym, ◌∙◌, ap, subst}
use Rattle.std.specs.Prelude.{bytes_eq}
use Rattle.std.proofs.lemmas.Slice.Eq.{bytes_eq-Decides}
use Rattle.http_frames.specs.declared.message.Request.{Request}
use Rattle.pull_outside.specs.Shelf.{Contents}
use Rattle.pull_messages.specs.declared.registration.Registration.{Registration}
use Rattle.pull_store.specs.declared.change.Change.{Change}
use Rattle.pull_store.specs.declared.change.Change.TheVariants.{Register, Report}
use Rattle.pull_store.specs.declared.row.Row.{Row}
use Rattle.pull_store.specs.declared.row.StoredReport.{StoredReport}
use Rattle.pull_store.specs.Rows.{after, after_registration, after_report, row_of, with_report}
use Rattle.pull_store.specs.Store.{StoreTerm}
use Rattle.pull_store.proofs.Building.{tells}
use Rattle.pull_server.specs.Answers.{LeavesRows, Makes}
use Rattle.pull_server.specs.Asked.{Asks}
use Rattle.agent_class.specs.declared.class.Class.{Class}
use Rattle.agent_class.specs.declared.class.Class.TheVariants.{Silent}
use Rattle.fleet_view.specs.declared.member.Member.{Member}
use Rattle.fleet_view.specs.declared.news.News.{News}
use Rattle.fleet_view.specs.declared.news.News.TheVariants.{Nothing, Joins, Sends}
use Rattle.agent_class.specs.Classes.{class_of_body, class_of_report, class_of_row, last_report}
use Rattle.fleet_view.specs.Members.{members_of, with_class}
use Rattle.fleet_view.specs.News.{IsNews, has_body, is_last_of, settled}
use Rattle.fleet_view.proofs.Reported.{joined, joined_row, last_with, not_sent, same_class, sent_class, sent_row}

-- the rows are as they were, or those after a change that is asked for
abbrev IsLeft : List Row → Request → List Row → Type 0
IsLeft rows request left = (left ≡ rows) ⊎ ((change : Change) × Asks request change × (left ≡ after change rows))

same_body : (body other : List ℕ) → bytes_eq other body ≡ true → other ≡ body
same_body body other is = (bytes_eq-Decides other body).0 is

own_body : (body : List ℕ) → bytes_eq body body ≡ true
own_body body = (bytes_eq-Decides body body).1 refl

-- a report with this body gives its class
body_class : (body : List ℕ) (o : Option StoredReport) → has_body body o ≡ true → class_of_report o ≡ class_of_body body
body_class body None is = absurd (cc is)
body_class body (Some report) is = ap class_of_body (same_body body report.body is)

-- ---- an agent that comes

joins : (agent : ℕ) (rows left : List Row) (body : List ℕ) → row_of agent rows ≡ None
    → (left ≡ rows) ⊎ ((registration : Registration) × (left ≡ after_registration agent registration rows))
    → settled (Joins agent) body left (members_of rows) ≡ members_of left
joins agent rows left body none (inl same) =
    let out : is_some (row_of agent left) ≡ false = ap is_some (ap (row_of agent) same ∙ none) in
    rw out (ap members_of (sym same))
joins agent rows left body none (inr (registration, is)) =
    let there : is_some (row_of agent left) ≡ true = ap (λ (l : List Row). is_some (row_of agent l)) is ∙ joined_row agent registration rows in
    rw there (joined agent registration rows none ∙ ap members_of (sym is))

-- ---- a report that comes

-- with a row that is this one now
by_last : (agent : ℕ) (class was : Class) (body : List ℕ) (members : List Member) (last : Option StoredReport) (is_last : Bool) → is_last ≡ has_body body last
    → class ≡ class_of_body body → with_class agent was members ≡ members → ((last_is : has_body body last ≡ false) → class_of_report last ≡ was)
    → (if is_last then with_class agent class members else members) ≡ with_class agent (class_of_report last) members
by_last agent class was body members last true is is_class kept others =
    ap (λ (c : Class). with_class agent c members) (is_class ∙ sym (body_class body last (sym is)))
by_last agent class was body members last false is is_class kept others =
    sym kept ∙ ap (λ (c : Class). with_class agent c members) (sym (others (sym is)))

no_last : (agent : ℕ) (class : Class) (body : List ℕ) (rows : List Row) → row_of agent rows ≡ None
    → settled (Sends agent class) body rows (members_of rows) ≡ members_of rows
no_last agent class body rows none = rw none refl

stays : (agent : ℕ) (class : Class) (body : List ℕ) (rows : List Row) (o : Option Row) → row_of agent rows ≡ o → class ≡ class_of_body body
    → settled (Sends agent class) body rows (members_of rows) ≡ members_of rows
stays agent class body rows None none is_class = no_last agent class body rows none
stays agent class body rows (Some row) is is_class =
    let kept = same_class agent rows row is in
    let last : is_last_of agent body rows ≡ has_body body (last_report row.reports) = rw is refl in
    by_last agent class (class_of_row row) body (members_of rows) (last_report row.reports) (is_last_of agent body rows) last is_class kept (λ _. refl) ∙ kept

same_last : (body : List ℕ) (job : ℕ) (old new : Option StoredReport) → (new ≡ old) ⊎ (new ≡ Some (record { job = job; body = body }))
    → has_body body new ≡ false → class_of_report new ≡ class_of_report old
same_last body job old new (inl same) isnt = ap class_of_report same
same_last body job old new (inr is) isnt = absurd (let no : true ≡ false = sym (own_body body) ∙ sym (ap (has_body body) is) ∙ isnt in cc no)

sends : (agent job : ℕ) (class : Class) (body : List ℕ) (rows : List Row) (o : Option Row) → row_of agent rows ≡ o → class ≡ class_of_body body
    → settled (Sends agent class) body (after_report agent job body rows) (members_of rows) ≡ members_of (after_report agent job body rows)
sends agent job class body rows None none is_class = rw (not_sent agent job body rows none) (no_last agent class body rows none)
sends agent job class body rows (Some row) is is_class =
    let new = last_report (with_report job body row.reports) in
    let last : is_last_of agent body (after_report agent job body rows) ≡ has_body body new = rw (sent_row agent job body rows row is) refl in
    by_last agent class (class_of_row row) body (members_of rows) new (is_last_of agent body (after_report agent job body rows)) last is_class
    (same_class agent rows row is) (same_last body job (last_report row.reports) new (last_with job body row.reports))
    ∙ sym (sent_class agent job body rows row is)

-- ---- any news

settles : (news : News) (request : Request) (rows left : List Row) → IsNews rows request news → IsLeft rows request left
    → settled news request.body left (members_of rows) ≡ members_of left
settles Nothing request rows left is (inl same) = ap members_of (sym same)
settles Nothing request rows left is (inr (change, asks, after_is)) = sym (is change asks) ∙ ap members_of (sym after_is)
settles (Joins agent) request rows left is (inl same) = joins agent rows left request.body is.0 (inl same)
settles (Joins agent) request rows left is (inr (change, asks, after_is)) =
    let of = is.1 change asks in
    joins agent rows left request.body is.0 (inr (of.0, after_is ∙ ap (λ (c : Change). after c rows) of.1))
settles (Sends agent class) request rows left is (inl same) =
    subst (λ (l : List Row). settled (Sends agent class) request.body l (members_of rows) ≡ members_of l) (sym same)
    (stays agent class request.body rows (row_of agent rows) refl is.0)
settles (Sends agent class) request rows left is (inr (change, asks, after_is)) =
    let of = is.1 change asks in
    subst (λ (l : List Row). settled (Sends agent class) request.body l (members_of rows) ≡ members_of l) (sym (after_is ∙ ap (λ (c : Change). after c rows) of.1))
    (sends agent of.0 class request.body rows (row_of agent rows) refl is.0)

pub settles_rows : (news : News) (request : Request) (store : StoreTerm) (shelf : Option Contents) (left : List Row) → IsNews store.rows request news
    → LeavesRows store shelf request left → settled news request.body left (members_of store.rows) ≡ members_of left
settles_rows news request store shelf left is (inl same) = settles news request store.rows left is (inl same)
settles_rows news request store shelf left is (inr (change, makes, after_is)) = settles news request store.rows left is (inr (change, makes.asks, after_is))
