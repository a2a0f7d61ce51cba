-- What a request asks for, by its target.
use Rattle.std.proofs.Common.{◌≡◌, ℕ, List, Option, Some, None, option_map, refl, sym, ◌∙◌, ap, subst}
use Rattle.std.specs.Result.{result_ok}
use Rattle.http_frames.specs.declared.message.Request.{Request}
use Rattle.pull_messages.specs.declared.registration.Registration.{Registration}
use Rattle.pull_messages.specs.declared.report.ReportMessage.{ReportMessage}
use Rattle.pull_messages.specs.declared.target_kinds.Target.{Target}
use Rattle.pull_messages.specs.declared.target_kinds.Target.TheVariants.{Node, SendReport}
use Rattle.pull_messages.specs.Targets.{IsTarget}
use Rattle.pull_store.specs.declared.change.Change.{Change}
use Rattle.pull_store.specs.declared.change.Change.TheVariants as changes
use Rattle.pull_store.specs.declared.row.Row.{Row}
use Rattle.pull_store.specs.Rows.{after, row_of}
use Rattle.pull_server.specs.Asked.{Asks, change_to}
use Rattle.pull_server.specs.Messages.{registration_in, report_in}
use Rattle.agent_class.specs.declared.class.Class.{Class}
use Rattle.fleet_view.specs.declared.news.News.TheVariants.{Nothing, Joins, Sends}
use Rattle.agent_class.specs.Classes.{class_of_body}
use Rattle.fleet_view.specs.Members.{members_of}
use Rattle.fleet_view.specs.News.{IsNews, IsOfAgent, IsReportOf, joins_of}
use Rattle.fleet_view.proofs.Reported.{kept_classes}

of_map : {X Y : Type 0} (f : X → Y) (o : Option X) (y : Y) → option_map f o ≡ Some y → (x : X) × (y ≡ f x)
of_map f None y is = absurd (cc is)
of_map f (Some x) y is = let same : f x ≡ y = cc is in (x, sym same)

-- the request has this target alone
abbrev IsAimed : Request → Target → Type 0
IsAimed request target = (t : Target) → IsTarget request.target t → t ≡ target

asked_by : (request : Request) (target : Target) → IsAimed request target → (change : Change) → Asks request change
    → change_to target request.body ≡ Some change
asked_by request target aimed change asks = subst (λ (t : Target). change_to t request.body ≡ Some change) (aimed asks.target asks.aim) asks.is_change

pub nothing_asked : (rows : List Row) (request : Request) (target : Target) → IsAimed request target → change_to target request.body ≡ None
    → IsNews rows request Nothing
nothing_asked rows request target aimed none = λ change asks.
    absurd (let no : None ≡ Some change = sym none ∙ asked_by request target aimed change asks in cc no)

pub no_target_asked : (rows : List Row) (request : Request) → ((t : Target) → IsTarget request.target t → ⊥) → IsNews rows request Nothing
no_target_asked rows request none = λ change asks. absurd (none asks.target asks.aim)

registers : (request : Request) (agent : ℕ) → IsAimed request (Node agent) → (change : Change) → Asks request change → IsOfAgent agent change
registers request agent aimed change asks =
    of_map (λ (r : Registration). changes.Register agent r) (result_ok (registration_in request.body)) change (asked_by request (Node agent) aimed change asks)

pub joins_news : (rows : List Row) (request : Request) (agent : ℕ) → IsAimed request (Node agent) → IsNews rows request (joins_of agent rows)
joins_news rows request agent aimed = by (row_of agent rows) refl
  where
    stays : (row : Row) → row_of agent rows ≡ Some row → IsNews rows request Nothing
    stays row is = λ change asks.
        let of = registers request agent aimed change asks in
        ap (λ (c : Change). members_of (after c rows)) of.1 ∙ kept_classes agent of.0 rows row is

    by : (o : Option Row) → row_of agent rows ≡ o → IsNews rows request (joins_of agent rows)
    by None none = rw none (none, registers request agent aimed)
    by (Some row) is = rw is (stays row is)

pub sends_news : (rows : List Row) (request : Request) (agent : ℕ) (class : Class) → IsAimed request (SendReport agent) → class ≡ class_of_body request.body
    → IsNews rows request (Sends agent class)
sends_news rows request agent class aimed is = (is, sent)
  where
    sent : (change : Change) → Asks request change → IsReportOf agent request.body change
    sent change asks =
        let of = of_map (λ (r : ReportMessage). changes.Report agent r.job request.body) (result_ok (report_in request.body)) change
        (asked_by request (SendReport agent) aimed change asks) in
        (of.0.job, of.1)
