use Rattle.std.proofs.Common.{rules, ◌≡◌, ℕ, List, Some, IfOk, IsErr, IfSome, Option, refl, sym, ◌∙◌, ap, subst}
use Rattle.std.proofs.lemmas.Result.{IfOk-weaker}
use Rattle.http_frames.specs.declared.message.Reply.{Reply}
use Rattle.pull_messages.specs.declared.target_kinds.FleetTarget.{FleetTarget}
use Rattle.pull_messages.specs.declared.target_kinds.Target.{Target}
use Rattle.pull_messages.specs.FleetTargets.{IsFleetTarget}
use Rattle.pull_messages.specs.Targets.{IsTarget}
use Rattle.pull_store.specs.declared.row.Row.{Row}
use Rattle.pull_server.specs.Answers.{IsCrowded, IsOverfull, Serves}
use Rattle.pull_server.proofs.Served.{unserved_not_ok}
use Rattle.fleet_view.specs.declared.member.Member.{Member}
use Rattle.fleet_view.specs.FleetReplies.{FleetStoreTerm, IsCounted, fleet_reply, of_fleet}
use Rattle.fleet_view.specs.News.{settled}
use Rattle.fleet_view.proofs.Answered.{counted, no_cause, told_serves}
use Rattle.fleet_view.proofs.Settled.{settles_rows}
use Rattle.fleet_view.proofs.fleet_store.answer_fleet.Goals as goal

pub returns-in_err-target-clause-counted : goal.returns-in_err-target-clause-counted
returns-in_err-target-clause-counted g c =
    subst IsCounted c.service.view_is (counted c.service.inside.fleet.members c.service.inside.store.rows c.service.invariant)

pub returns-in-Some-clause-counted : goal.returns-in-Some-clause-counted
returns-in-Some-clause-counted g c =
    subst IsCounted c.service.view_is (counted c.service.inside.fleet.members c.service.inside.store.rows c.service.invariant)

pub returns-in_err-news-clause-counted : goal.returns-in_err-news-clause-counted
returns-in_err-news-clause-counted g c =
    subst IsCounted c.service.view_is (counted c.service.inside.fleet.members c.service.inside.store.rows c.service.invariant)

pub returns-in_err-reserve-clause-counted : goal.returns-in_err-reserve-clause-counted
returns-in_err-reserve-clause-counted g c =
    counted c.reserve.new.self.members c.service.inside.store.rows (c.in_err-reserve.ensures.members ∙ c.service.invariant)

pub returns-in_err-target-clause-serves : goal.returns-in_err-target-clause-serves
returns-in_err-target-clause-serves g c =
    let fails : IsErr c.from_residual.result = search rules in
    unserved_not_ok g.D.Disk c.args.request.now (g.S.Shelf.holds c.args.shelf.now) c.args.service.now.store c.args.disk.now c.from_residual.result fails
    (g.met.D.Disk.only_now c.args.disk.now) c.requires.ready

pub returns-in_err-news-clause-serves : goal.returns-in_err-news-clause-serves
returns-in_err-news-clause-serves g c =
    let fails : IsErr c.from_residual-in_err-news.result = search rules in
    unserved_not_ok g.D.Disk c.args.request.now (g.S.Shelf.holds c.args.shelf.now) c.args.service.now.store c.args.disk.now c.from_residual-in_err-news.result fails
    (g.met.D.Disk.only_now c.args.disk.now) c.requires.ready

pub returns-in_err-reserve-clause-serves : goal.returns-in_err-reserve-clause-serves
returns-in_err-reserve-clause-serves g c =
    let fails : IsErr c.from_residual-in_err-reserve.result = search rules in
    let before = c.args.service.now.store in
    let disk = c.args.disk.now in
    subst (λ (s : FleetStoreTerm). Serves g.D.Disk c.args.request.now (g.S.Shelf.holds c.args.shelf.now) before disk c.from_residual-in_err-reserve.result s.store disk)
    (sym c.service.view_is)
    (unserved_not_ok g.D.Disk c.args.request.now (g.S.Shelf.holds c.args.shelf.now) before disk c.from_residual-in_err-reserve.result fails
    (g.met.D.Disk.only_now disk) c.requires.ready)

pub returns-in-Some-clause-reply : goal.returns-in-Some-clause-reply
returns-in-Some-clause-reply g c =
    let target = c.in-Some.target in
    let request = c.args.request.now in
    let is_target = subst (λ (l : List ℕ). IsFleetTarget l target) c.as_slice.ensures ((c.in_ok-target.ensures.found target).0 c.in-Some.is) in
    let same = ap (λ (s : FleetStoreTerm). fleet_reply target request s.store.rows) c.service.view_is in
    IfOk-weaker c.fleet_reply.result _ _ (λ reply is. λ contents told. of_fleet target is_target (is ∙ same) refl) c.fleet_reply.ensures

pub returns-in-Some-clause-cause : goal.returns-in-Some-clause-cause
returns-in-Some-clause-cause g c =
    no_cause c.in-Some.target c.args.request.now c.service.inside.store.rows c.fleet_reply.result 500 _ refl c.fleet_reply.ensures

pub returns-in-Some-clause-crowded : goal.returns-in-Some-clause-crowded
returns-in-Some-clause-crowded g c =
    no_cause c.in-Some.target c.args.request.now c.service.inside.store.rows c.fleet_reply.result 503 _ refl c.fleet_reply.ensures

pub returns-in-Some-clause-overfull : goal.returns-in-Some-clause-overfull
returns-in-Some-clause-overfull g c =
    no_cause c.in-Some.target c.args.request.now c.service.inside.store.rows c.fleet_reply.result 507 _ refl c.fleet_reply.ensures

pub returns-in-Some-clause-serves : goal.returns-in-Some-clause-serves
returns-in-Some-clause-serves g c =
    let apart = rw c.in-Some.is at c.in_ok-target.ensures.apart in
    told_serves g.D.Disk c.args.request.now (g.S.Shelf.holds c.args.shelf.now) c.args.service.now.store c.args.disk.now c.in-Some.target c.fleet_reply.result
    (g.met.D.Disk.only_now c.args.disk.now) c.requires.ready
    (λ t is. apart t (subst (λ (l : List ℕ). IsTarget l t) (sym c.as_slice.ensures) is))

pub invariant_of-service-2 : goal.invariant_of-service-2
invariant_of-service-2 g c =
    let rows = c.answer-result.new.store.rows in
    let news = c.in_ok-news.news in
    c.settle.ensures ∙ ap (λ (l : List ℕ). settled news l rows c.reserve.new.self.members) c.as_slice-2.ensures
    ∙ ap (λ (l : List Member). settled news c.args.request.now.body rows l) (c.in_ok-reserve.ensures.members ∙ c.service.invariant)
    ∙ settles_rows news c.args.request.now c.service.inside.store (g.S.Shelf.holds c.args.shelf.now) rows c.in_ok-news.ensures c.answer-result.ensures.serves.rows

pub returns-clause-counted : goal.returns-clause-counted
returns-clause-counted g c = counted c.settle.new.fleet.members c.answer-result.new.store.rows (invariant_of-service-2 g c)

pub returns-clause-crowded : goal.returns-clause-crowded
returns-clause-crowded g c =
    subst (λ (s : FleetStoreTerm). IfOk c.answer-result.result (λ (reply : Reply). reply.code ≡ 503 → IsCrowded s.store c.args.request.now)) c.service.view_is
    c.answer-result.ensures.crowded

pub returns-clause-overfull : goal.returns-clause-overfull
returns-clause-overfull g c =
    subst (λ (s : FleetStoreTerm). IfOk c.answer-result.result (λ (reply : Reply). reply.code ≡ 507 → IsOverfull s.store c.args.request.now)) c.service.view_is
    c.answer-result.ensures.overfull
