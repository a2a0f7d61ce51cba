use Rattle.std.proofs.Common.{◌≡◌, length, get_or, rules, arith}
use Rattle.gate_log.specs.Text.{magic}
use Rattle.gate_log.proofs.WhatIsRead.{head_told, selects_tested}
use Rattle.gate_log.proofs.Failing.{never_few, magic_is_wrong}
use Rattle.gate_log.proofs.opening.read_head.Goals as goal

pub returns-clause-head : goal.returns-clause-head
returns-clause-head g c =
    let head = c.read_from.new.into in
    let into = c.read_from-2.new.into in
    let is : head ≡ magic = search rules in
    let one : length into ≡ 1 = search rules in
    head_told (g.D.Disk.shown c.args.disk.now) (g.D.Disk.shown c.read_from.new.disk) head into c.in_ok-n.n c.in_ok-n-2.n _ is (omega arith) c.in_ok-n.ensures.bytes c.read_from.ensures.still.same one (omega arith) c.in_ok-n-2.ensures.bytes (selects_tested (get_or into 0 0))

pub returns-then-n-lt7-clause-cause : goal.returns-then-n-lt7-clause-cause
returns-then-n-lt7-clause-cause g c =
    let head = c.read_from.new.into in
    let seven : length head ≡ 7 = search rules in
    never_few _ c.in_ok-n.n (g.D.Disk.shown c.args.disk.now) head seven c.in_ok-n.ensures.size c.requires.long c.in_ok-n.ensures.bytes c.if-n-lt7.true

pub returns-in-Some-clause-cause : goal.returns-in-Some-clause-cause
returns-in-Some-clause-cause g c =
    let head = c.read_from.new.into in
    let seven : length head ≡ 7 = search rules in
    magic_is_wrong c.args.shape c.in_ok-n.n c.in-Some.at (g.D.Disk.shown c.args.disk.now) head seven (omega (arith, c.if-n-lt7.false)) c.requires.long c.in_ok-n.ensures.bytes c.in-Some.ensures.some
