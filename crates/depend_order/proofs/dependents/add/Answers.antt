use Rattle.std.proofs.Common.{◌<◌, ◌≡◌, ◌∷◌, ◌++◌, [], ℕ, List, length, slice_index, sym, ◌∙◌, ap, arith, length-set}
use Rattle.depend_order.specs.Numbers.{numbers_of}
use Rattle.depend_order.proofs.Adding.{adds, keeps, times_more}
use Rattle.depend_order.proofs.NumberLemmas.{numbers_of_read}
use Rattle.depend_order.proofs.dependents.add.Goals as goal

pub loop-number-preserved : goal.loop-number-preserved
loop-number-preserved c =
    let numbers = c.args.numbers.now in
    let place = c.args.place in
    let lists = c.loop-number.dependents.items in
    let i = c.loop-number.number-index in
    let n = slice_index numbers i in
    let new = c.push.new.self in
    let so_far = c.loop-number.invariant in
    let within = c.loop-number-test.true in
    let lt : n < length lists = omega (arith, c.requires.below i 0 within, so_far.count) in
    let read : numbers_of lists n ≡ c.index_mut.result.now.items = numbers_of_read lists n c.index_mut.result.now lt c.index_mut.ensures.value in
    let pushed = c.in_ok-push.ensures.items ∙ ap (λ (xs : List ℕ). xs ++ place ∷ []) (sym read) in
    record {
      count = length-set lists n new ∙ so_far.count;
      here = λ q. omega (arith, adds lists n place new lt pushed q, so_far.here q, times_more q numbers i 0 within);
      others = λ q r ne. keeps lists n place new lt pushed q r ne ∙ so_far.others q r ne;
    }
