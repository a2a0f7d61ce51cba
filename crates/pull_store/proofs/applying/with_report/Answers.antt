use Rattle.std.proofs.Common.{◌≡◌, ◌∙◌, ◌∷◌, ◌-◌, [], ap, length, drop, arith}
use Rattle.std.proofs.lemmas.Slice.{pushed}
use Rattle.pull_store.specs.declared.limits.TheConstants.{MAX_REPORTS}
use Rattle.pull_store.specs.Steps.{place_of_job}
use Rattle.pull_store.proofs.InPlace.{newer}
use Rattle.pull_store.proofs.Placing.{reports_set, reports_push}
use Rattle.pull_store.proofs.applying.with_report.Goals as goal

pub returns-then-at-len : goal.returns-then-at-len
returns-then-at-len c =
    let is : c.place_of_job-at.result ≡ place_of_job c.args.job c.args.reports.items = c.place_of_job-at.ensures.place ∙ ap (place_of_job c.args.job) c.deref.ensures.value in
    reports_set c.args.job c.args.body c.args.reports.items c.place_of_job-at.result is (omega (arith, c.if-at-len.true, c.len.ensures, c.deref.ensures.len, ap length c.deref.ensures.value))

pub returns : goal.returns
returns c =
    let xs = c.args.reports.items in
    let is : c.place_of_job-at.result ≡ place_of_job c.args.job xs = c.place_of_job-at.ensures.place ∙ ap (place_of_job c.args.job) c.deref.ensures.value in
    let old : c.saturating_sub-oldest.result ≡ length xs - (MAX_REPORTS - 1) = omega (arith, c.saturating_sub-oldest.ensures, c.len-2.ensures, c.deref.ensures.len, ap length c.deref.ensures.value) in
    let kept : c.truncate.new.self.items ≡ drop (length xs - (MAX_REPORTS - 1)) xs =
    c.truncate.ensures.items ∙ newer c.saturating_sub-oldest.result (length xs - (MAX_REPORTS - 1)) (c.len-3.result - c.saturating_sub-oldest.result) xs c.rotate_left.new.self.items old (omega (arith, c.len-3.ensures, c.rotate_left.ensures.len, c.deref.ensures.len, ap length c.deref.ensures.value)) c.rotate_left.ensures.items in
    pushed (record { job = c.args.job; body = c.args.body } ∷ []) kept c.in_ok-push.was c.push.ensures.items
    ∙ reports_push c.args.job c.args.body xs c.place_of_job-at.result is (omega (arith, c.if-at-len.false, c.len.ensures, c.deref.ensures.len, ap length c.deref.ensures.value))
