use Rattle.std.proofs.Common.{◌≡◌, ℕ, List, ◌++◌, ◌∷◌, [], ◌+◌, take, sym, ◌∙◌, ap}
use Rattle.std.specs.Prelude.{encode_utf8_all}
use Rattle.std.proofs.lemmas.Grind.{take_at_read}
use Rattle.std.proofs.lemmas.Str.{encodes-append}
use Rattle.pull_messages.specs.Targets.{doubled}
use Rattle.pull_messages.proofs.Quotes.{doubled-append}
use Rattle.pull_messages.proofs.target_text.quotes_doubled.Goals as goal

pub loop-c-preserved : goal.loop-c-preserved
loop-c-preserved c =
    let chars = c.args.chars.now in
    let i = c.loop-c.c-index in
    let x = c.c-item.result in
    let next : take (i + 1) chars ≡ take i chars ++ x ∷ [] =
    (take_at_read chars i x c.loop-c-test.true).1 ∙ ap (λ (y : ℕ). take i chars ++ y ∷ []) (sym c.c-item.is) in
    c.in_ok-push_doubled.ensures ∙ ap (λ (l : List ℕ). l ++ encode_utf8_all (doubled (x ∷ []))) c.loop-c.invariant
    ∙ sym (encodes-append (doubled (take i chars)) (doubled (x ∷ []))) ∙ ap encode_utf8_all (sym (doubled-append (take i chars) (x ∷ [])))
    ∙ ap (λ (l : List ℕ). encode_utf8_all (doubled l)) (sym next)
