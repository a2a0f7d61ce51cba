use Rattle.std.proofs.Common.{◌-◌, ◌∷◌, ℕ, List, codes, length, map, string_bytes, take, drop, sym, ap, ◌∙◌, subst, arith}
use Rattle.std.proofs.lemmas.List.{length-map}
use Rattle.std.proofs.lemmas.Slice.Eq.{bytes_eq-Decides}
use Rattle.lcm_program.specs.Words.{IsAsked, IsUsageOf}
use Rattle.lcm_program.proofs.Asking.{too_many}
use Rattle.lcm_program.proofs.Forms.{first_and_rest, no_texts}
use Rattle.lcm_program.proofs.rehearse.asks_rehearsal.Goals as goal

pub returns-in-empty-clause-yes : goal.returns-in-empty-clause-yes
returns-in-empty-clause-yes c = λ yes.
    let word = (bytes_eq-Decides c.as_str.result.now (codes "rehearse")).0 (sym c.eq.ensures ∙ c.if-eq.true) in
    let rest = take (length c.args.arguments.now - 1) (drop 1 c.args.arguments.now) in
    sym (first_and_rest string_bytes c.args.arguments.now c.first-item.result (codes "rehearse") c.in-len1-up.len_at_least c.first-item.is (sym word ∙ c.as_str.ensures.value))
    ∙ ap (λ (more : List (List ℕ)). codes "rehearse" ∷ more) (no_texts string_bytes rest c.in-empty.len_below)

pub returns-in_default-rest-clause-usage : goal.returns-in_default-rest-clause-usage
returns-in_default-rest-clause-usage c =
    let word = (bytes_eq-Decides c.as_str.result.now (codes "rehearse")).0 (sym c.eq.ensures ∙ c.if-eq.true) in
    let rest = take (length c.args.arguments.now - 1) (drop 1 c.args.arguments.now) in
    subst (λ (arguments : List (List ℕ)). IsUsageOf IsAsked arguments 1)
    (first_and_rest string_bytes c.args.arguments.now c.first-item.result (codes "rehearse") c.in-len1-up.len_at_least c.first-item.is (sym word ∙ c.as_str.ensures.value))
    (too_many (map string_bytes rest) (omega (arith, length-map rest string_bytes, c.in_default-rest.len_at_least)))
