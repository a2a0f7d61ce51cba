use Rattle.std.proofs.Common.{ℕ, ◌∷◌, List, codes, map, length, take, drop, ◌-◌, string_bytes, refl, rules, subst, sym, true≢false, arith}
use Rattle.std.proofs.lemmas.List.{length-map}
use Rattle.lcm_program.specs.declared.words.Command.TheVariants.{Compile}
use Rattle.lcm_program.specs.Words.{IsName, IsUsage}
use Rattle.lcm_program.proofs.Forms.{first_and_rest, no_texts, compile_form, some_compile, stands_alone, third_word, wrong_other}
use Rattle.lcm_program.proofs.words.read_compile.Goals as goal

pub returns-in_default-clause-usage : goal.returns-in_default-clause-usage
returns-in_default-clause-usage c =
    rw (no_texts string_bytes c.args.rest.now c.in_default.len_below) (stands_alone (codes "compile") IsName compile_form some_compile)

pub returns-then-not-is_name-clause-usage : goal.returns-then-not-is_name-clause-usage
returns-then-not-is_name-clause-usage c =
    subst (λ (arguments : List (List ℕ)). IsUsage (codes "compile" ∷ arguments) 1)
    (first_and_rest string_bytes c.args.rest.now c.word-item.result c.as_str-node.result.now c.in-len1-up.len_at_least c.word-item.is c.as_str-node.ensures.value)
    (wrong_other (codes "compile") IsName compile_form some_compile c.as_str-node.result.now _ (λ named. true≢false (sym (c.if-not-is_name.ensures.1 named))))

pub returns-in_default-more-clause-usage : goal.returns-in_default-more-clause-usage
returns-in_default-more-clause-usage c =
    let word = c.as_str-node.result.now in
    let more = take (length c.args.rest.now - 1) (drop 1 c.args.rest.now) in
    subst (λ (arguments : List (List ℕ)). IsUsage (codes "compile" ∷ arguments) 2)
    (first_and_rest string_bytes c.args.rest.now c.word-item.result word c.in-len1-up.len_at_least c.word-item.is c.as_str-node.ensures.value)
    (third_word (codes "compile") IsName compile_form some_compile word (map string_bytes more) (Compile c.as_str-node.result)
    (omega (arith, length-map more string_bytes, c.in_default-more.len_at_least)) (refl, c.is_name.ensures.0 (search rules)))
