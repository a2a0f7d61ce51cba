use Rattle.std.proofs.Common.{◌∙◌, ◌∷◌, ℕ, List, sym, ap, subst, arith}
use Rattle.gate_log.proofs.OneByOne.{PutSoFar, put_none, next_size, next_capacity, put_more, put_broke, put_all, switched_moment}
use Rattle.gate_log.proofs.several.rewrite_all.Goals as goal

pub loop-log-init : goal.loop-log-init
loop-log-init g c = record {
  so_far = put_none g.D.Disk c.args.disk.now c.args.log.now c.begin_rewrite.new.self (g.S.Spelling.rest c.args.bodies.now) (g.met.D.Disk.only_now c.args.disk.now) c.begin_rewrite.ensures c.requires.unspent c.requires.capacity;
  ready = c.requires.ready;
  capacity = c.requires.buffer;
  grown = omega arith;
}

pub put-requires-clause-size : goal.put-requires-clause-size
put-requires-clause-size g c =
    let l = c.loop-log in
    let left = g.S.Spelling.rest c.spell_next.new.self in
    let all = g.S.Spelling.rest c.args.bodies.now in
    let is = c.loop-log-test.ensures.next ∙ ap (λ (body : List ℕ). body ∷ left) (sym c.deref.ensures.value) in
    next_size g.D.Disk c.args.disk.now l.disk c.args.log.now l.log all c.deref.result.now left
    (subst (λ (bodies : List (List ℕ)). PutSoFar g.D.Disk c.args.disk.now l.disk c.args.log.now l.log all bodies) is l.invariant.so_far) c.requires.size

pub put-requires-clause-capacity : goal.put-requires-clause-capacity
put-requires-clause-capacity g c =
    let l = c.loop-log in
    let left = g.S.Spelling.rest c.spell_next.new.self in
    let all = g.S.Spelling.rest c.args.bodies.now in
    let is = c.loop-log-test.ensures.next ∙ ap (λ (body : List ℕ). body ∷ left) (sym c.deref.ensures.value) in
    next_capacity g.D.Disk c.args.disk.now l.disk c.args.log.now l.log all c.deref.result.now left
    (subst (λ (bodies : List (List ℕ)). PutSoFar g.D.Disk c.args.disk.now l.disk c.args.log.now l.log all bodies) is l.invariant.so_far) c.requires.capacity

pub put-requires-clause-of : goal.put-requires-clause-of
put-requires-clause-of g c = (c.requires.of.0, c.loop-log.invariant.so_far.of c.requires.of.0 c.requires.of.1)

pub loop-log-preserved : goal.loop-log-preserved
loop-log-preserved g c =
    let l = c.loop-log in
    let left = g.S.Spelling.rest c.spell_next.new.self in
    let all = g.S.Spelling.rest c.args.bodies.now in
    let is = c.loop-log-test.ensures.next ∙ ap (λ (body : List ℕ). body ∷ left) (sym c.deref.ensures.value) in
    let so_far = subst (λ (bodies : List (List ℕ)). PutSoFar g.D.Disk c.args.disk.now l.disk c.args.log.now l.log all bodies) is l.invariant.so_far in
    let done = c.in_ok-put.ensures in
    record {
      so_far = put_more g.D.Disk c.args.disk.now l.disk c.put.new.disk c.args.log.now l.log c.put.new.self all c.deref.result.now left so_far done.answer done.ok done.put done.any_moment done.count;
      ready = c.spell_next.ensures.ready;
      capacity = omega (arith, l.invariant.capacity, c.spell_next.ensures.capacity);
      grown = omega (arith, l.invariant.grown, c.spell_next.ensures.capacity);
    }

pub returns-in_err-put-clause-any_moment : goal.returns-in_err-put-clause-any_moment
returns-in_err-put-clause-any_moment g c =
    let l = c.loop-log in
    put_broke g.D.Disk c.args.disk.now l.disk c.put.new.disk c.args.log.now l.log (g.S.Spelling.rest c.args.bodies.now) (g.S.Spelling.rest l.bodies) l.invariant.so_far c.put.ensures.any_moment

pub finish_rewrite-requires-clause-of : goal.finish_rewrite-requires-clause-of
finish_rewrite-requires-clause-of g c = (c.requires.of.0, c.loop-log.invariant.so_far.of c.requires.of.0 c.requires.of.1)

pub returns-clause-ok : goal.returns-clause-ok
returns-clause-ok g c = λ bodies of.
    let l = c.loop-log in
    let all = g.S.Spelling.rest c.args.bodies.now in
    let so_far = subst (λ (left : List (List ℕ)). PutSoFar g.D.Disk c.args.disk.now l.disk c.args.log.now l.log all left) c.loop-log-test.ensures.next l.invariant.so_far in
    c.finish_rewrite.ensures.ok bodies all (so_far.of bodies of) (put_all g.D.Disk c.args.disk.now l.disk c.args.log.now l.log all so_far)

pub returns-clause-any_moment : goal.returns-clause-any_moment
returns-clause-any_moment g c =
    let l = c.loop-log in
    let all = g.S.Spelling.rest c.args.bodies.now in
    let so_far = subst (λ (left : List (List ℕ)). PutSoFar g.D.Disk c.args.disk.now l.disk c.args.log.now l.log all left) c.loop-log-test.ensures.next l.invariant.so_far in
    switched_moment g.D.Disk c.args.disk.now l.disk c.finish_rewrite.new.disk c.args.log.now l.log all so_far c.finish_rewrite.ensures.any_moment
