use Rattle.std.proofs.Common.{rules, ◌≡◌, ◌∙◌, ◌+◌, ◌++◌, ◌∷◌, [], true, false, Some, Ok, option_map, arith, ap, List, ℕ, length, length-append, take}
use Rattle.pull_outside.specs.Shelf.{Finds, key_of}
use Rattle.pull_server.specs.Signed.{most_keys}
use Rattle.pull_server.proofs.Keys.{keys_end, keys_push}
use Rattle.pull_server.proofs.Shelves.{of_keys}
use Rattle.pull_server.proofs.signatures.read_keys.Goals as goal

pub returns-then-not-branch-clause-keys : goal.returns-then-not-branch-clause-keys
returns-then-not-branch-clause-keys g c = of_keys (g.S.Shelf.holds c.args.shelf.now) c.loop-index.keys.items (omega (arith, c.loop-index.invariant.few, c.loop-index-test.true)) (λ contents told.
    let told_now : g.S.Shelf.holds c.loop-index.shelf ≡ Some contents = c.loop-index.invariant.same ∙ told in
    let finds : Finds (option_map (key_of c.loop-index.index) (g.S.Shelf.holds c.loop-index.shelf)) (Ok false) [] c.key.new.into.items = search rules in
    c.loop-index.invariant.so_far contents told ∙ keys_end (g.S.Shelf.holds c.loop-index.shelf) c.loop-index.index most_keys c.key.new.into.items contents told_now finds (omega (arith, c.loop-index-test.true)))

pub loop-index-preserved : goal.loop-index-preserved
loop-index-preserved g c =
    let pushed : c.push.new.self.items ≡ c.loop-index.keys.items ++ c.key.new.into.items ∷ [] = search rules in
    let finds : Finds (option_map (key_of c.loop-index.index) (g.S.Shelf.holds c.loop-index.shelf)) (Ok true) [] c.key.new.into.items = search rules in
    record {
      same = c.key.ensures.same ∙ c.loop-index.invariant.same;
      later = omega (arith, c.key.ensures.cause.later, c.loop-index.invariant.later);
      few = ap (λ (l : List (List ℕ)). length l) pushed ∙ length-append c.loop-index.keys.items (c.key.new.into.items ∷ []) ∙ ap (λ (n : ℕ). n + 1) c.loop-index.invariant.few;
      so_far = λ contents told. pushed ∙ keys_push (g.S.Shelf.holds c.loop-index.shelf) c.loop-index.index c.loop-index.keys.items c.key.new.into.items contents
          (c.loop-index.invariant.same ∙ told) finds (c.loop-index.invariant.so_far contents told);
    }

pub returns-clause-keys : goal.returns-clause-keys
returns-clause-keys g c =
    let at_end : c.loop-index.index ≡ most_keys = omega (arith, c.loop-index-test.false, c.loop-index.auto.index-end) in
    of_keys (g.S.Shelf.holds c.args.shelf.now) c.loop-index.keys.items (omega (arith, c.loop-index.invariant.few, at_end))
    (λ contents told. c.loop-index.invariant.so_far contents told ∙ ap (λ (n : ℕ). take n contents.keys) at_end)
