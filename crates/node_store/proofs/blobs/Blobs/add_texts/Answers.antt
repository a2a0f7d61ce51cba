use Rattle.std.proofs.Common.{◌≡◌, ◌-◌, ◌∷◌, ◌++◌, Bool, List, take, drop, length, sym, subst, rules}
use Rattle.partial_merge.specs.declared.part.Part.{Part}
use Rattle.std.specs.Prelude.{IsErr}
use Rattle.std.specs.List.{AllByRecursion}
use Rattle.store_fields.specs.Fields.{IsBlob}
use Rattle.node_store.specs.Digests.{Blobs, texts_of}
use Rattle.node_store.proofs.HeldLists.{left_is}
use Rattle.node_store.proofs.Lacking.{TextsSoFar, adds_more, none_left, so_far_all, so_far_more, so_far_none, tried_err}
use Rattle.node_store.proofs.blobs.Blobs.add_texts.Goals as goal

pub loop-left-init : goal.loop-left-init
loop-left-init c = record { so_far = so_far_none c.args.self.now (texts_of c.args.parts.now); small = c.requires.small }

pub returns-in_err-one : goal.returns-in_err-one
returns-in_err-one c =
    let l = c.loop-left in
    let fails : IsErr c.from_residual.result = search rules in
    tried_err c.args.self.now c.add_text.new.self (texts_of c.args.parts.now) c.from_residual.result fails
    (subst (λ (b : Blobs). (more : Blobs) × (b ≡ c.args.self.now ++ more)) (sym c.in_err-one.ensures)
    (adds_more c.args.self.now l.self l.invariant.so_far.past l.apart l.invariant.so_far.adds))

pub loop-left-preserved : goal.loop-left-preserved
loop-left-preserved c =
    let l = c.loop-left in
    let left : List Part = l.left.now in
    let part : Part = c.part-item.result in
    let rest : List Part = take (length left - 1) (drop 1 left) in
    let is : left ≡ part ∷ rest = left_is left part c.in-len1-up.len_at_least c.part-item.is in
    let so_far = subst (λ (p : List Part). TextsSoFar c.args.self.now l.self (texts_of c.args.parts.now) (texts_of p) l.apart) is l.invariant.so_far in
    let small = subst (λ (p : List Part). AllByRecursion (λ part. IsBlob part.bytes) p) is l.invariant.small in
    record {
      so_far = subst (λ (b : Bool). TextsSoFar c.args.self.now c.add_text.new.self (texts_of c.args.parts.now) (texts_of rest) b) (sym c.both-apart.ensures)
          (so_far_more c.args.self.now l.self c.add_text.new.self (texts_of c.args.parts.now) (texts_of rest) part.bytes l.apart c.in_ok-one.one so_far c.in_ok-one.ensures);
      small = small.1;
    }

pub returns : goal.returns
returns c =
    let l = c.loop-left in
    so_far_all c.args.self.now l.self (texts_of c.args.parts.now) l.apart
    (subst (λ (p : List Part). TextsSoFar c.args.self.now l.self (texts_of c.args.parts.now) (texts_of p) l.apart) (none_left l.left.now c.in_default.len_below) l.invariant.so_far)
