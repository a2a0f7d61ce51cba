use Rattle.std.proofs.Common.{◌≡◌, inl, not, [], ◌∷◌, ℕ, length, refl, ap}
use Rattle.dsc_outside.specs.Disk.{written}
use Rattle.gate_log.specs.Bytes.{with_switch, with_zeros}
use Rattle.gate_log.proofs.Written.{read_both, selects}
use Rattle.dsc_outside.proofs.Moments.{weaker, then_on}
use Rattle.gate_log.specs.Text.{cells, begin}
use Rattle.gate_log.specs.Log.{OldOrNew}
use Rattle.gate_log.proofs.Cells.{text_gives}
use Rattle.gate_log.proofs.Steps.{both_ok}
use Rattle.gate_log.proofs.Rewrites.{gate_moment, selector_moment, switched, switched_long}
use Rattle.gate_log.proofs.rewriting.finish_cells.Goals as goal

pub returns-in_err-fill_up-clause-any_moment : goal.returns-in_err-fill_up-clause-any_moment
returns-in_err-fill_up-clause-any_moment g c = λ shape closed bodies put le whole there texts.
    weaker g.D.Disk.moment g.D.Disk.left_since c.args.disk.now c.fill_up.new.disk _ (OldOrNew shape bodies put) (c.fill_up.ensures.any_moment shape c.args.second closed bodies le texts)
    (λ f t. inl (text_gives shape c.args.second closed f bodies t))

pub returns-in_err-write_through-clause-any_moment : goal.returns-in_err-write_through-clause-any_moment
returns-in_err-write_through-clause-any_moment g c = λ shape closed bodies put le whole there texts.
    let second = c.args.second in
    let mid = c.fill_up.new.disk in
    let P = OldOrNew shape bodies put in
    let first = weaker g.D.Disk.moment g.D.Disk.left_since c.args.disk.now mid _ P (c.fill_up.ensures.any_moment shape second closed bodies le texts) (λ f t. inl (text_gives shape second closed f bodies t)) in
    then_on g.D.Disk.moment g.D.Disk.left_since c.args.disk.now mid c.write_through.new.disk P _ first c.write_through.ensures.any_moment
    (gate_moment shape second closed c.args.at c.args.long bodies put whole (g.D.Disk.images mid) (c.in_ok-fill_up.ensures.ok shape second closed bodies le texts))

pub returns-clause-any_moment : goal.returns-clause-any_moment
returns-clause-any_moment g c = λ shape closed bodies put le whole there texts.
    let second = c.args.second in
    let mid = c.fill_up.new.disk in
    let P = OldOrNew shape bodies put in
    let texts0 = c.in_ok-fill_up.ensures.ok shape second closed bodies le texts in
    let first = weaker g.D.Disk.moment g.D.Disk.left_since c.args.disk.now mid _ P (c.fill_up.ensures.any_moment shape second closed bodies le texts) (λ f t. inl (text_gives shape second closed f bodies t)) in
    let closes = then_on g.D.Disk.moment g.D.Disk.left_since c.args.disk.now mid c.write_through.new.disk P _ first c.write_through.ensures.any_moment
    (gate_moment shape second closed c.args.at c.args.long bodies put whole (g.D.Disk.images mid) texts0) in
    then_on g.D.Disk.moment g.D.Disk.left_since c.args.disk.now c.write_through.new.disk c.write_through-2.new.disk P _ closes c.write_through-2.ensures.any_moment
    (selector_moment shape second closed c.args.at c.args.long bodies put whole (g.D.Disk.images mid) texts0 (g.D.Disk.shown mid) (g.D.Disk.shown c.write_through.new.disk) (g.met.D.Disk.honest mid)
    c.in_ok-fill_up.ensures.long (c.in_ok-fill_up.ensures.holds (begin shape (not second)) (cells put) there)
    (g.D.Disk.images c.write_through.new.disk) c.in_ok-write_through.ensures.written c.in_ok-write_through.ensures.only)

pub returns-clause-ok : goal.returns-clause-ok
returns-clause-ok g c = λ shape closed bodies put le whole there texts.
    let second = c.args.second in
    let mid = c.fill_up.new.disk in
    both_ok c.write_through-2.result c.write_through-2.ensures.written c.write_through-2.ensures.only (λ is only.
    switched shape second closed c.args.at c.args.long bodies put whole (g.D.Disk.images mid) (c.in_ok-fill_up.ensures.ok shape second closed bodies le texts)
    (g.D.Disk.shown mid) (g.D.Disk.shown c.write_through.new.disk) (g.met.D.Disk.honest mid) c.in_ok-fill_up.ensures.long (c.in_ok-fill_up.ensures.holds (begin shape (not second)) (cells put) there)
    (g.D.Disk.images c.write_through.new.disk) c.in_ok-write_through.ensures.written c.in_ok-write_through.ensures.only
    c.selector.result (g.D.Disk.shown c.write_through-2.new.disk) (g.D.Disk.images c.write_through-2.new.disk) (selects (not second) c.selector.result c.selector.ensures) (g.met.D.Disk.honest c.write_through.new.disk) is only)

pub returns-clause-long : goal.returns-clause-long
returns-clause-long g c =
    both_ok c.write_through-2.result c.write_through-2.ensures.written c.write_through-2.ensures.only (λ is only.
    switched_long c.args.at c.args.long c.selector.result (g.D.Disk.shown c.fill_up.new.disk) (g.D.Disk.shown c.write_through.new.disk) (g.D.Disk.shown c.write_through-2.new.disk) c.requires.place
    c.in_ok-fill_up.ensures.long c.in_ok-write_through.ensures.written is)

pub returns-clause-bytes : goal.returns-clause-bytes
returns-clause-bytes g c =
    let at = c.args.at in
    let live = not c.args.second in
    let selector : ℕ = c.selector.result in
    let disk = g.D.Disk.shown c.args.disk.now in
    let filled = g.D.Disk.shown c.fill_up.new.disk in
    let shut = g.D.Disk.shown c.write_through.new.disk in
    let new = g.D.Disk.shown c.write_through-2.new.disk in
    both_ok c.write_through-2.result c.write_through-2.ensures.written c.write_through-2.ensures.only (λ is only. record {
      reads = read_both (λ held. written at (0 ∷ []) (with_zeros at held)) (written 7 (selector ∷ [])) (with_switch at live) (λ held. c.args.long ≡ length held) disk shut new
          (λ held here. ap (λ (n : ℕ). written 7 (n ∷ []) (written at (0 ∷ []) (with_zeros at held))) c.selector.ensures) c.requires.long
          (read_both (with_zeros at) (written at (0 ∷ [])) (λ held. written at (0 ∷ []) (with_zeros at held)) (λ held. c.args.long ≡ length held) disk filled shut (λ held here. refl) c.requires.long c.in_ok-fill_up.ensures.bytes c.in_ok-write_through.ensures.written) is;
      only = only;
    })
