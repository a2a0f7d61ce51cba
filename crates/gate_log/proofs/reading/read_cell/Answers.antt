use Rattle.std.proofs.Common.{◌≡◌, ◌+◌, ◌-◌, ◌<◌, ◌≤◌, inl, inr, ℕ, List, length, get_or, take, drop, sym, ◌∙◌, ap, subst, arith, rules, Some}
use Rattle.std.specs.Prelude.{IfSome}
use Rattle.std.specs.Int.{w32, to_be_bytes}
use Rattle.std.proofs.lemmas.List.{length-take-le}
use Rattle.gate_log.specs.Steps.{StandsAt}
use Rattle.gate_log.proofs.WhatIsRead.{cell_told, gate_told, all_of}
use Rattle.gate_log.proofs.Failing.{ends_here, ends_in_length, is_too_long, ends_in_body, never_less}
use Rattle.gate_log.proofs.reading.read_cell.Goals as goal
use Rattle.gate_log.proofs.reading.read_cell.Goals.{then-n-eq0-via-then-n-eq0, then-n-eq0-via-else-n-eq0+then-end-at}
use Rattle.gate_log.proofs.reading.read_cell.Goals.{then-n-lt5-via-then-n-lt5, then-n-lt5-via-else-n-lt5+then-end-at-2, then-n-lt5-via-else-n-lt5+else-end-at-2+then-end-at-lt5}
use Rattle.gate_log.proofs.reading.read_cell.Goals.{then-size-largest-via-then-size-largest, then-size-largest-via-else-size-largest+then-limit-at-lt6, then-size-largest-via-else-size-largest+else-limit-at-lt6+then-size-limit}

pub returns-then-n-eq0-clause-cause : goal.returns-then-n-eq0-clause-cause
returns-then-n-eq0-clause-cause g c =
    let head = c.read_from.new.into in
    let five : length head ≡ 5 = search rules in
    ends_here c.args.largest c.args.limit c.args.at c.args.end c.in_ok-n.n (g.D.Disk.shown c.args.disk.now) head five c.in_ok-n.ensures.size c.requires.end c.in_ok-n.ensures.bytes (elim c.then-n-eq0.branch [
      | then-n-eq0-via-then-n-eq0 w ↦ inl w.if-n-eq0.true
      | then-n-eq0-via-else-n-eq0+then-end-at w ↦ inr w.if-end-at.true
    ])

pub returns-then-head-clause-cell : goal.returns-then-head-clause-cell
returns-then-head-clause-cell g c =
    let head = c.read_from.new.into in
    let five : length head ≡ 5 = search rules in
    gate_told c.args.largest c.args.at (g.D.Disk.shown c.args.disk.now) head c.in_ok-n.n five (omega (arith, c.if-n-eq0.false)) c.if-head.true c.in_ok-n.ensures.bytes

pub returns-then-n-lt5-clause-cause : goal.returns-then-n-lt5-clause-cause
returns-then-n-lt5-clause-cause g c =
    let head = c.read_from.new.into in
    let five : length head ≡ 5 = search rules in
    let gate : get_or head 0 0 ≡ 165 = search rules in
    let less : (n end at : ℕ) → end - at < 5 → end < at + 5 = λ n end at few. omega arith in
    ends_in_length c.args.largest c.args.limit c.args.at c.args.end c.in_ok-n.n (g.D.Disk.shown c.args.disk.now) head five (omega (arith, c.if-n-eq0.false)) c.in_ok-n.ensures.size gate c.requires.end c.in_ok-n.ensures.bytes (elim c.then-n-lt5.branch [
      | then-n-lt5-via-then-n-lt5 w ↦ inl w.if-n-lt5.true
      | then-n-lt5-via-else-n-lt5+then-end-at-2 w ↦ inr (omega (arith, w.if-end-at-2.true))
      | then-n-lt5-via-else-n-lt5+else-end-at-2+then-end-at-lt5 w ↦ inr (less c.in_ok-n.n c.args.end c.args.at w.if-end-at-lt5.true)
    ])

pub returns-then-size-largest-clause-cause : goal.returns-then-size-largest-clause-cause
returns-then-size-largest-clause-cause g c =
    let head = c.read_from.new.into in
    let five : length head ≡ 5 = search rules in
    let gate : get_or head 0 0 ≡ 165 = search rules in
    is_too_long c.args.largest c.args.limit c.args.at c.in_ok-n.n c.length_in-size.result (g.D.Disk.shown c.args.disk.now) head five (omega (arith, c.if-n-lt5.false)) (search rules) gate c.length_in-size.ensures c.in_ok-n.ensures.bytes (elim c.then-size-largest.branch [
      | then-size-largest-via-then-size-largest w ↦ inl w.if-size-largest.true
      | then-size-largest-via-else-size-largest+then-limit-at-lt6 w ↦ inr (omega (arith, w.if-limit-at-lt6.true))
      | then-size-largest-via-else-size-largest+else-limit-at-lt6+then-size-limit w ↦ inr (omega (arith, w.if-size-limit.true, w.if-limit-at-lt6.false))
    ])

pub returns-then-size-end-clause-cause : goal.returns-then-size-end-clause-cause
returns-then-size-end-clause-cause g c =
    let head = c.read_from.new.into in
    let five : length head ≡ 5 = search rules in
    let gate : get_or head 0 0 ≡ 165 = search rules in
    ends_in_body c.args.largest c.args.limit c.args.at c.args.end c.in_ok-n.n c.length_in-size.result (g.D.Disk.shown c.args.disk.now) head five (omega (arith, c.if-n-lt5.false)) (search rules) gate c.length_in-size.ensures c.in_ok-n.ensures.bytes c.requires.end
    (omega (arith, c.if-size-largest.false)) (omega (arith, c.if-limit-at-lt6.false, c.if-size-limit.false)) (omega (arith, c.if-end-at-lt5.false, c.if-size-end.true))

pub returns-then-got-size-clause-cause : goal.returns-then-got-size-clause-cause
returns-then-got-size-clause-cause g c =
    let size = c.length_in-size.result in
    let mid = g.D.Disk.shown c.read_from.new.disk in
    let enough : size ≤ length c.read_front.new.buffer = search rules in
    let body = take size c.read_front.new.buffer in
    let long : length body ≡ size = length-take-le size c.read_front.new.buffer enough in
    let read = subst (λ (k : ℕ). IfSome mid (λ held. take c.in_ok-got.got body ≡ take k (drop (c.args.at + 5) held))) (sym long) c.in_ok-got.ensures.bytes in
    never_less _ (c.args.at + 5) c.args.end c.in_ok-got.got (g.D.Disk.shown c.args.disk.now) mid body c.read_from.ensures.still.same (omega (arith, long, c.in_ok-got.ensures.size)) c.requires.end read
    (omega (arith, long, c.if-end-at-lt5.false, c.if-size-end.false)) (omega (arith, long, c.if-got-size.true))

pub returns-clause-cell : goal.returns-clause-cell
returns-clause-cell g c =
    let head = c.read_from.new.into in
    let size = c.length_in-size.result in
    let mid = g.D.Disk.shown c.read_from.new.disk in
    let five : length head ≡ 5 = search rules in
    let gate : get_or head 0 0 ≡ 165 = search rules in
    let capacity : size ≤ c.lengthen.new.buffer.len = search rules in
    let enough : size ≤ length c.read_front.new.buffer = search rules in
    let body = take size c.read_front.new.buffer in
    let long : length body ≡ size = length-take-le size c.read_front.new.buffer enough in
    let read = subst (λ (k : ℕ). IfSome mid (λ held. take c.in_ok-got.got body ≡ take k (drop (c.args.at + 5) held))) (sym long) c.in_ok-got.ensures.bytes in
    let is_size : to_be_bytes w32 (length body) ≡ drop 1 head = ap (λ (n : ℕ). to_be_bytes w32 n) long ∙ c.length_in-size.ensures in
    let told = cell_told c.args.largest c.args.at (g.D.Disk.shown c.args.disk.now) mid head body c.in_ok-n.n c.in_ok-got.got five (omega (arith, c.if-n-lt5.false)) gate is_size (omega (arith, long, c.if-got-size.false)) (omega (arith, long, c.if-size-largest.false))
    c.in_ok-n.ensures.bytes c.read_from.ensures.still.same read in
    subst (λ (l : List ℕ). IfSome (g.D.Disk.shown c.args.disk.now) (λ held. StandsAt c.args.largest c.args.at held (Some l))) (sym (all_of size c.lengthen.new.buffer.len c.read_front.new.buffer c.lengthen.new.buffer.items enough capacity)) told
