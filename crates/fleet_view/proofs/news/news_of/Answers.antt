use Rattle.std.proofs.Common.{ℕ, List, sym, ◌∙◌, subst}
use Rattle.pull_messages.specs.Targets.{IsTarget}
use Rattle.fleet_view.specs.declared.news.News.{News}
use Rattle.fleet_view.specs.News.{IsNews}
use Rattle.fleet_view.proofs.Heard.{joins_news}
use Rattle.fleet_view.proofs.news.news_of.Goals as goal

pub returns-in-Ok-Node : goal.returns-in-Ok-Node
returns-in-Ok-Node c =
    let rows = c.args.store.now.rows in
    let request = c.args.request.now in
    subst (λ (n : News). IsNews rows request n) (sym c.joins.ensures)
    (joins_news rows request c.in-Ok-Node.agent
    (λ t is. c.in-Ok-Node.ensures.only t (subst (λ (l : List ℕ). IsTarget l t) (sym c.as_slice.ensures) is) ∙ c.in-Ok-Node.field-0-is))
