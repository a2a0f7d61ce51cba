use Rattle.std.proofs.Common.{◌+◌, List, [], ◌∷◌, ℕ, length, arith}
use Rattle.dsc_outside.proofs.Moments.{weaker, then_on}
use Rattle.dsc_outside.specs.Disk.{Each, From, Torn}
use Rattle.gate_log.specs.Text.{IsText}
use Rattle.gate_log.proofs.InPlace.{all_written}
use Rattle.gate_log.proofs.Rewrites.{filled_text}
use Rattle.gate_log.proofs.Steps.{both_ok}
use Rattle.gate_log.proofs.appending.stage_cell.Goals as goal

pub returns-in_err-write_on-clause-any_moment : goal.returns-in_err-write_on-clause-any_moment
returns-in_err-write_on-clause-any_moment g c = λ shape second bodies texts.
    weaker g.D.Disk.moment g.D.Disk.left_since c.args.disk.now c.write_on.new.disk _ (λ f. IsText shape second c.args.closed f bodies) c.write_on.ensures.any_moment
    (λ f from. filled_text shape second c.args.closed _ _ bodies (g.D.Disk.images c.args.disk.now) (omega arith) texts f from)

pub returns-in_err-write_on-2-clause-any_moment : goal.returns-in_err-write_on-2-clause-any_moment
returns-in_err-write_on-2-clause-any_moment g c = λ shape second bodies texts.
    let P = λ (f : List ℕ). IsText shape second c.args.closed f bodies in
    let disk = c.args.disk.now in
    let one = c.write_on.new.disk in
    let step : (f : List ℕ) → From (Torn (c.args.closed + 1) (length c.args.head.now)) (g.D.Disk.images disk) f → P f =
    λ f from. filled_text shape second c.args.closed _ _ bodies (g.D.Disk.images disk) (omega arith) texts f from in
    let texts_one : Each (g.D.Disk.images one) P = λ f here. step f (c.write_on.ensures.crash f here) in
    then_on g.D.Disk.moment g.D.Disk.left_since disk one c.write_on-2.new.disk P _ (weaker g.D.Disk.moment g.D.Disk.left_since disk one _ P c.write_on.ensures.any_moment step) c.write_on-2.ensures.any_moment
    (λ f from. filled_text shape second c.args.closed _ _ bodies (g.D.Disk.images one) (omega arith) texts_one f from)

pub returns-clause-any_moment : goal.returns-clause-any_moment
returns-clause-any_moment g c = λ shape second bodies texts.
    let P = λ (f : List ℕ). IsText shape second c.args.closed f bodies in
    let disk = c.args.disk.now in
    let one = c.write_on.new.disk in
    let two = c.write_on-2.new.disk in
    let middle = c.args.closed + 1 + length c.args.head.now in
    let step : (f : List ℕ) → From (Torn (c.args.closed + 1) (length c.args.head.now)) (g.D.Disk.images disk) f → P f =
    λ f from. filled_text shape second c.args.closed _ _ bodies (g.D.Disk.images disk) (omega arith) texts f from in
    let texts_one : Each (g.D.Disk.images one) P = λ f here. step f (c.write_on.ensures.crash f here) in
    let step_two : (f : List ℕ) → From (Torn middle (length c.args.tail.now)) (g.D.Disk.images one) f → P f =
    λ f from. filled_text shape second c.args.closed _ _ bodies (g.D.Disk.images one) (omega arith) texts_one f from in
    let texts_two : Each (g.D.Disk.images two) P = λ f here. step_two f (c.write_on-2.ensures.crash f here) in
    let first = weaker g.D.Disk.moment g.D.Disk.left_since disk one _ P c.write_on.ensures.any_moment step in
    then_on g.D.Disk.moment g.D.Disk.left_since disk two c.write_through.new.disk P _ (then_on g.D.Disk.moment g.D.Disk.left_since disk one two P _ first c.write_on-2.ensures.any_moment step_two) c.write_through.ensures.any_moment
    (λ f from. filled_text shape second c.args.closed _ _ bodies (g.D.Disk.images two) (omega arith) texts_two f from)

pub returns-clause-written : goal.returns-clause-written
returns-clause-written g c =
    both_ok c.write_through.result c.write_through.ensures.written c.write_through.ensures.written (λ is also.
    all_written (c.args.closed + 1) c.args.head.now c.args.tail.now (0 ∷ []) (g.D.Disk.shown c.args.disk.now) (g.D.Disk.shown c.write_on.new.disk) (g.D.Disk.shown c.write_on-2.new.disk) (g.D.Disk.shown c.write_through.new.disk) c.requires.capacity
    c.in_ok-write_on.ensures.written c.in_ok-write_on-2.ensures.written is)
