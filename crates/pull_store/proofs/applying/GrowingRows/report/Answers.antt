use Rattle.std.proofs.Common.{◌≡◌, ◌∙◌, sym, ap, arith}
use Rattle.std.specs.Prelude.{slice_index_or, slice_set}
use Rattle.pull_store.specs.declared.row.Row.{Row}
use Rattle.pull_store.specs.Rows.{with_report}
use Rattle.pull_store.specs.Steps.{place_in, place_of}
use Rattle.pull_store.proofs.InPlace.{agents_set, place_beside, reported_at, reported_unknown}
use Rattle.pull_store.proofs.applying.GrowingRows.report.Goals as goal

pub invariant_of-self : goal.invariant_of-self
invariant_of-self c =
    let rows = c.args.self.now.rows.items in
    let same : (slice_index_or rows c.place_in-at.result c.index_mut.result.now).agent ≡ c.add_report.new.row.agent = ap (λ (r : Row). r.agent) (sym c.index_mut.ensures.value) ∙ sym c.add_report.ensures.agent in record {
      beside = c.args.self.now.beside ∙ sym (agents_set rows c.place_in-at.result c.add_report.new.row c.index_mut.result.now (omega (arith, c.if-at-len.true, c.len.ensures, c.args.self.now.rows.ok)) same);
    }

pub returns-in_ok-add_report : goal.returns-in_ok-add_report
returns-in_ok-add_report c =
    let rows = c.args.self.now.rows.items in
    let d = c.index_mut.result.now in
    let is : c.place_in-at.result ≡ place_of c.args.agent rows = c.place_in-at.ensures.place ∙ ap (place_in c.args.agent) (c.deref.ensures.value ∙ c.args.self.now.beside) ∙ place_beside c.args.agent rows in
    let made : c.add_report.new.row ≡ record (slice_index_or rows c.place_in-at.result d) { reports = with_report c.args.job c.args.body (slice_index_or rows c.place_in-at.result d).reports } =
    c.in_ok-add_report.ensures.made ∙ ap (λ (r : Row). record r { reports = with_report c.args.job c.args.body r.reports }) c.index_mut.ensures.value in
    ap (slice_set rows c.place_in-at.result) made
    ∙ rw is (reported_at c.args.agent c.args.job c.args.body d rows (omega (arith, is, c.if-at-len.true, c.len.ensures, c.args.self.now.rows.ok)))

pub returns-else-at-len : goal.returns-else-at-len
returns-else-at-len c =
    let rows = c.args.self.now.rows.items in
    let is : c.place_in-at.result ≡ place_of c.args.agent rows = c.place_in-at.ensures.place ∙ ap (place_in c.args.agent) (c.deref.ensures.value ∙ c.args.self.now.beside) ∙ place_beside c.args.agent rows in
    reported_unknown c.args.agent c.args.job c.args.body rows (omega (arith, is, c.if-at-len.false, c.len.ensures, c.args.self.now.rows.ok))
