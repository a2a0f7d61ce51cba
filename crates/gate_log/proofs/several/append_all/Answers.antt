use Rattle.std.proofs.Common.{◌∙◌, ◌∷◌, ◌++◌, ℕ, List, sym, ap, subst, arith}
use Rattle.std.proofs.lemmas.List.{append-nil}
use Rattle.gate_log.specs.Log.{IsLogOf}
use Rattle.gate_log.proofs.OneByOne.{AddedSoFar, added_none, append_size, append_capacity, append_moment, append_bank, added_more}
use Rattle.gate_log.proofs.several.append_all.Goals as goal

pub loop-log-init : goal.loop-log-init
loop-log-init g c = record {
  so_far = added_none g.D.Disk c.args.disk.now c.args.log.now (g.S.Spelling.rest c.args.bodies.now) (g.met.D.Disk.only_now c.args.disk.now) c.requires.unspent c.requires.capacity;
  ready = c.requires.ready;
  capacity = c.requires.buffer;
  grown = omega arith;
}

pub append-requires-clause-size : goal.append-requires-clause-size
append-requires-clause-size g c =
    let l = c.loop-log in
    let left = g.S.Spelling.rest c.spell_next.new.self in
    let all = g.S.Spelling.rest c.args.bodies.now in
    let is = c.loop-log-test.ensures.next ∙ ap (λ (body : List ℕ). body ∷ left) (sym c.deref.ensures.value) in
    append_size g.D.Disk c.args.disk.now l.disk c.args.log.now l.log all c.deref.result.now left
    (subst (λ (bodies : List (List ℕ)). AddedSoFar g.D.Disk c.args.disk.now l.disk c.args.log.now l.log all bodies) is l.invariant.so_far) c.requires.size

pub append-requires-clause-capacity : goal.append-requires-clause-capacity
append-requires-clause-capacity g c =
    let l = c.loop-log in
    let left = g.S.Spelling.rest c.spell_next.new.self in
    let all = g.S.Spelling.rest c.args.bodies.now in
    let is = c.loop-log-test.ensures.next ∙ ap (λ (body : List ℕ). body ∷ left) (sym c.deref.ensures.value) in
    append_capacity g.D.Disk c.args.disk.now l.disk c.args.log.now l.log all c.deref.result.now left
    (subst (λ (bodies : List (List ℕ)). AddedSoFar g.D.Disk c.args.disk.now l.disk c.args.log.now l.log all bodies) is l.invariant.so_far)

pub append-requires-clause-of : goal.append-requires-clause-of
append-requires-clause-of g c = (c.requires.of.0 ++ c.loop-log.invariant.so_far.added, c.loop-log.invariant.so_far.of c.requires.of.0 c.requires.of.1)

pub loop-log-preserved : goal.loop-log-preserved
loop-log-preserved g c =
    let l = c.loop-log in
    let left = g.S.Spelling.rest c.spell_next.new.self in
    let all = g.S.Spelling.rest c.args.bodies.now in
    let is = c.loop-log-test.ensures.next ∙ ap (λ (body : List ℕ). body ∷ left) (sym c.deref.ensures.value) in
    let so_far = subst (λ (bodies : List (List ℕ)). AddedSoFar g.D.Disk c.args.disk.now l.disk c.args.log.now l.log all bodies) is l.invariant.so_far in
    let done = c.in_ok-append.ensures in
    record {
      so_far = added_more g.D.Disk c.args.disk.now l.disk c.append.new.disk c.args.log.now l.log c.append.new.self all c.deref.result.now left so_far done.answer done.ok done.any_moment done.same_bank done.count;
      ready = c.spell_next.ensures.ready;
      capacity = omega (arith, l.invariant.capacity, c.spell_next.ensures.capacity);
      grown = omega (arith, l.invariant.grown, c.spell_next.ensures.capacity);
    }

pub returns-in_err-append-clause-any_moment : goal.returns-in_err-append-clause-any_moment
returns-in_err-append-clause-any_moment g c =
    let l = c.loop-log in
    let left = g.S.Spelling.rest c.spell_next.new.self in
    let all = g.S.Spelling.rest c.args.bodies.now in
    let is = c.loop-log-test.ensures.next ∙ ap (λ (body : List ℕ). body ∷ left) (sym c.deref.ensures.value) in
    let so_far = subst (λ (bodies : List (List ℕ)). AddedSoFar g.D.Disk c.args.disk.now l.disk c.args.log.now l.log all bodies) is l.invariant.so_far in
    append_moment g.D.Disk c.args.disk.now l.disk c.append.new.disk c.args.log.now l.log all c.deref.result.now left so_far c.append.ensures.any_moment

pub returns-in_err-append-clause-same_bank : goal.returns-in_err-append-clause-same_bank
returns-in_err-append-clause-same_bank g c =
    let l = c.loop-log in
    append_bank g.D.Disk c.args.disk.now l.disk c.append.new.disk c.args.log.now l.log (g.S.Spelling.rest c.args.bodies.now) (g.S.Spelling.rest l.bodies) l.invariant.so_far c.append.ensures.same_bank

pub returns-clause-ok : goal.returns-clause-ok
returns-clause-ok g c = λ bodies of.
    let l = c.loop-log in
    let all = g.S.Spelling.rest c.args.bodies.now in
    let so_far = subst (λ (left : List (List ℕ)). AddedSoFar g.D.Disk c.args.disk.now l.disk c.args.log.now l.log all left) c.loop-log-test.ensures.next l.invariant.so_far in
    subst (λ (more : List (List ℕ)). IsLogOf g.D.Disk l.disk l.log (bodies ++ more)) (sym (so_far.is ∙ append-nil so_far.added)) (so_far.of bodies of)

pub returns-clause-answer : goal.returns-clause-answer
returns-clause-answer g c =
    let l = c.loop-log in
    let all = g.S.Spelling.rest c.args.bodies.now in
    let so_far = subst (λ (left : List (List ℕ)). AddedSoFar g.D.Disk c.args.disk.now l.disk c.args.log.now l.log all left) c.loop-log-test.ensures.next l.invariant.so_far in
    sym so_far.log
