use Rattle.std.proofs.Common.{◌≡◌, ◌-◌, ◌∷◌, Bool, List, take, drop, length, sym, subst}
use Rattle.partial_merge.specs.declared.part.Part.{Part}
use Rattle.node_store.specs.Digests.{texts_of}
use Rattle.node_store.specs.Growing.{AllAmong}
use Rattle.node_store.proofs.HeldLists.{left_is}
use Rattle.node_store.proofs.Lacking.{TextsSoFar, none_left, so_far_all, so_far_more, so_far_none}
use Rattle.node_store.proofs.blobs.Blobs.choose_parts.Goals as goal

pub loop-left-init : goal.loop-left-init
loop-left-init c = record {
  so_far = so_far_none (take c.args.front c.args.self.now) (texts_of c.args.parts.now);
  within = c.requires.front;
  keeps = λ text among. among;
  there = c.requires.there;
}

pub choose-more-requires-clause-there : goal.choose-more-requires-clause-there
choose-more-requires-clause-there c =
    let l = c.loop-left in
    let left : List Part = l.left.now in
    let part : Part = c.part-item.result in
    let is : left ≡ part ∷ take (length left - 1) (drop 1 left) = left_is left part c.in-len1-up.len_at_least c.part-item.is in
    l.invariant.keeps part.bytes (subst (λ (p : List Part). AllAmong c.args.self.now (texts_of p)) is l.invariant.there).0

pub loop-left-preserved : goal.loop-left-preserved
loop-left-preserved c =
    let l = c.loop-left in
    let left : List Part = l.left.now in
    let part : Part = c.part-item.result in
    let rest : List Part = take (length left - 1) (drop 1 left) in
    let is : left ≡ part ∷ rest = left_is left part c.in-len1-up.len_at_least c.part-item.is in
    let done = c.choose-more.ensures in
    let so_far = subst (λ (p : List Part). TextsSoFar (take c.args.front c.args.self.now) (take l.chosen l.self) (texts_of c.args.parts.now) (texts_of p) l.apart) is l.invariant.so_far in
    record {
      so_far = subst (λ (b : Bool). TextsSoFar (take c.args.front c.args.self.now) (take c.choose-more.result.0 c.choose-more.new.self) (texts_of c.args.parts.now) (texts_of rest) b) (sym c.both-apart.ensures)
          (so_far_more (take c.args.front c.args.self.now) (take l.chosen l.self) (take c.choose-more.result.0 c.choose-more.new.self) (texts_of c.args.parts.now) (texts_of rest) part.bytes l.apart c.choose-more.result.1 so_far done.adds);
      within = done.within;
      keeps = λ text among. done.keeps text (l.invariant.keeps text among);
      there = (subst (λ (p : List Part). AllAmong c.args.self.now (texts_of p)) is l.invariant.there).1;
    }

pub returns : goal.returns
returns c =
    let l = c.loop-left in
    record {
      within = l.invariant.within;
      adds = so_far_all (take c.args.front c.args.self.now) (take l.chosen l.self) (texts_of c.args.parts.now) l.apart
          (subst (λ (p : List Part). TextsSoFar (take c.args.front c.args.self.now) (take l.chosen l.self) (texts_of c.args.parts.now) (texts_of p) l.apart) (none_left l.left.now c.in_default.len_below) l.invariant.so_far);
      keeps = l.invariant.keeps;
    }
