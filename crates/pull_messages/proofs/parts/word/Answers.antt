use Rattle.std.proofs.Common.{ℕ, List, [], ◌∷◌, ◌++◌, ◌-◌, length, take, drop, get_or, refl, sym, subst, ◌≡◌, true, arith}
use Rattle.std.specs.Str.{all_scalars}
use Rattle.pull_messages.proofs.Escaped.{more_front}
use Rattle.pull_messages.proofs.Words.{bytes_scalars, word_stops, word_more, name_more}
use Rattle.pull_messages.proofs.Scalars.{scalars_end}
use Rattle.pull_messages.proofs.parts.word.Goals as goal

pub loop-codes-init : goal.loop-codes-init
loop-codes-init c = ([], [], refl, sym c.as_bytes-codes.ensures.value, refl)

pub loop-codes-preserved : goal.loop-codes-preserved
loop-codes-preserved c =
    let before = c.loop-codes.invariant in
    let codes = c.loop-codes.codes.now in
    let letter = c.in-Some.ensures.some in (
      before.0 ++ letter.0 ∷ [],
      before.1 ++ get_or codes 0 0 ∷ [],
      more_front c.args.chars.now before.0 c.loop-codes.left.now (letter.0 ∷ []) c.in-Some.rest.now before.2 letter.1,
      more_front c.args.name.now before.1 (get_or codes 0 0 ∷ take (length codes - 1) (drop 1 codes)) (get_or codes 0 0 ∷ []) (take (length codes - 1) (drop 1 codes))
          (name_more c.args.name.now before.1 codes before.3 c.in-len1-up.len_at_least) refl,
      word_more before.0 before.1 letter.0 (get_or codes 0 0) before.4 letter.2,
    )

pub returns-in-None-clause-stop : goal.returns-in-None-clause-stop
returns-in-None-clause-stop c =
    let before = c.loop-codes.invariant in
    let codes = c.loop-codes.codes.now in
    let left = c.loop-codes.left.now in
    let is = name_more c.args.name.now before.1 codes before.3 c.in-len1-up.len_at_least in
    let scalars = bytes_scalars c.args.name.now (λ i. omega (arith, c.type_inv.name i)) in
    word_stops c.args.chars.now before.0 left c.args.name.now before.1 (get_or codes 0 0) (take (length codes - 1) (drop 1 codes))
    before.2 is before.4 (scalars_end before.1 _ (subst (λ (l : List ℕ). all_scalars l ≡ true) is scalars)) c.in-None.ensures.none
