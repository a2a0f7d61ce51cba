use Rattle.std.proofs.Common.{ℕ, ◌∷◌, List, codes, map, length, take, drop, ◌-◌, string_bytes, refl, subst, arith}
use Rattle.std.proofs.lemmas.List.{length-map}
use Rattle.lcm_program.specs.declared.words.Command.TheVariants.{Remove}
use Rattle.lcm_program.specs.Words.{IsUsage}
use Rattle.lcm_program.proofs.Forms.{IsAnyStage, first_and_rest, remove_form, no_texts, some_remove, stands_alone, third_word, wrong_other}
use Rattle.lcm_program.proofs.words.read_remove.Goals as goal

pub returns-in_default-clause-usage : goal.returns-in_default-clause-usage
returns-in_default-clause-usage c =
    rw (no_texts string_bytes c.args.rest.now c.in_default.len_below) (stands_alone (codes "remove") IsAnyStage remove_form some_remove)

pub returns-in_default-read_stage-clause-usage : goal.returns-in_default-read_stage-clause-usage
returns-in_default-read_stage-clause-usage c =
    subst (λ (arguments : List (List ℕ)). IsUsage (codes "remove" ∷ arguments) 1)
    (first_and_rest string_bytes c.args.rest.now c.word-item.result c.deref.result.now c.in-len1-up.len_at_least c.word-item.is c.deref.ensures)
    (wrong_other (codes "remove") IsAnyStage remove_form some_remove c.deref.result.now _
    (λ named. c.in_default-read_stage.ensures.none named.0 named.1))

pub returns-in_default-more-clause-usage : goal.returns-in_default-more-clause-usage
returns-in_default-more-clause-usage c =
    let word = c.deref.result.now in
    let more = take (length c.args.rest.now - 1) (drop 1 c.args.rest.now) in
    subst (λ (arguments : List (List ℕ)). IsUsage (codes "remove" ∷ arguments) 2)
    (first_and_rest string_bytes c.args.rest.now c.word-item.result word c.in-len1-up.len_at_least c.word-item.is c.deref.ensures)
    (third_word (codes "remove") IsAnyStage remove_form some_remove word (map string_bytes more) (Remove c.in-Some.stage)
    (omega (arith, length-map more string_bytes, c.in_default-more.len_at_least)) (word, refl, c.in-Some.ensures.some))
