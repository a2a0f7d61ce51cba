use Rattle.std.proofs.Common.{◌≡◌, ◌+◌, ◌-◌, ◌<◌, ap, drop, get_or, sym, ◌∙◌, arith}
use Rattle.std.specs.List.{list_all}
use Rattle.std.proofs.lemmas.List.{get_or_read}
use Rattle.meta_config.specs.Urls.{is_slash}
use Rattle.meta_config.proofs.Slashes.{left_before, one_more_slash}
use Rattle.meta_config.proofs.urls.without_slashes.Goals as goal
use Rattle.meta_config.proofs.urls.without_slashes.Goals.{then-loop-end-test+else-chars-end-eq47, else-loop-end-test}

pub loop-end-preserved : goal.loop-end-preserved
loop-end-preserved c =
    let cs = c.args.chars.now in
    let end = c.loop-end.end in
    let again : (end - 1) + 1 ≡ end = omega arith in
    let is = sym (get_or_read cs (end - 1) c.index-chars-end.result (omega arith) c.index-chars-end.is 0) ∙ c.if-chars-end-eq47.true in
    record {
      within = omega arith;
      slashes = one_more_slash cs (end - 1) (omega arith) is (ap (λ k. list_all is_slash (drop k cs)) again ∙ c.loop-end.invariant.slashes);
    }

pub returns : goal.returns
returns c =
    let cs = c.args.chars.now in
    let end = c.loop-end.end in
    let differs : 0 < end → get_or cs (end - 1) 0 ≡ 47 → ⊥ = elim c.loop-end-test.branch [
      | then-loop-end-test+else-chars-end-eq47 w ↦ (λ some e. w.if-chars-end-eq47.false (get_or_read cs (end - 1) w.index-chars-end.result (omega arith) w.index-chars-end.is 0 ∙ e))
      | else-loop-end-test w ↦ (λ some e. omega (arith, w.loop-end-test.false))
    ] in
    c.split_at.ensures.front ∙ left_before cs end c.loop-end.invariant.within c.loop-end.invariant.slashes differs
