use Rattle.std.proofs.Common.{◌-◌, inl, inr, ℕ, List, IfOk, IfErr, codes, map, length, take, drop, string_bytes, sym, ◌∙◌, subst, arith}
use Rattle.std.proofs.lemmas.List.{length-map}
use Rattle.std.proofs.lemmas.Slice.Eq.{bytes_eq-Decides}
use Rattle.lcm_program.specs.Words.{IsForm, IsUsage}
use Rattle.lcm_program.proofs.Forms.{first_and_rest, no_texts, no_word, second_word, takes_none, wrong_first}
use Rattle.lcm_program.proofs.words.read_words.Goals as goal

pub returns-in_default-clause-usage : goal.returns-in_default-clause-usage
returns-in_default-clause-usage c = rw (no_texts string_bytes c.args.arguments.now c.in_default.len_below) no_word

-- the arguments begin with `generate`

pub returns-then-eq-clause-ok : goal.returns-then-eq-clause-ok
returns-then-eq-clause-ok c =
    let generate = (bytes_eq-Decides c.as_str.result.now (codes "generate")).0 (sym c.if-eq.ensures) in
    subst (λ (arguments : List (List ℕ)). IfOk c.read_generate.result (λ command. IsForm command arguments))
    (first_and_rest string_bytes c.args.arguments.now c.first-item.result (codes "generate") c.in-len1-up.len_at_least c.first-item.is (sym generate ∙ c.as_str.ensures.value))
    c.read_generate.ensures.ok

pub returns-then-eq-clause-usage : goal.returns-then-eq-clause-usage
returns-then-eq-clause-usage c =
    let generate = (bytes_eq-Decides c.as_str.result.now (codes "generate")).0 (sym c.if-eq.ensures) in
    subst (λ (arguments : List (List ℕ)). IfErr c.read_generate.result (λ error. IsUsage arguments error.word))
    (first_and_rest string_bytes c.args.arguments.now c.first-item.result (codes "generate") c.in-len1-up.len_at_least c.first-item.is (sym generate ∙ c.as_str.ensures.value))
    c.read_generate.ensures.usage

-- they begin with `init`

pub returns-then-eq-2-clause-ok : goal.returns-then-eq-2-clause-ok
returns-then-eq-2-clause-ok c =
    let init = (bytes_eq-Decides c.as_str-2.result.now (codes "init")).0 (sym c.if-eq-2.ensures) in
    subst (λ (arguments : List (List ℕ)). IfOk c.read_init.result (λ command. IsForm command arguments))
    (first_and_rest string_bytes c.args.arguments.now c.first-item.result (codes "init") c.in-len1-up.len_at_least c.first-item.is (sym init ∙ c.as_str-2.ensures.value))
    c.read_init.ensures.ok

pub returns-then-eq-2-clause-usage : goal.returns-then-eq-2-clause-usage
returns-then-eq-2-clause-usage c =
    let init = (bytes_eq-Decides c.as_str-2.result.now (codes "init")).0 (sym c.if-eq-2.ensures) in
    subst (λ (arguments : List (List ℕ)). IfErr c.read_init.result (λ error. IsUsage arguments error.word))
    (first_and_rest string_bytes c.args.arguments.now c.first-item.result (codes "init") c.in-len1-up.len_at_least c.first-item.is (sym init ∙ c.as_str-2.ensures.value))
    c.read_init.ensures.usage

-- they begin with `register`

pub returns-then-eq-3-clause-ok : goal.returns-then-eq-3-clause-ok
returns-then-eq-3-clause-ok c =
    let register = (bytes_eq-Decides c.as_str-3.result.now (codes "register")).0 (sym c.if-eq-3.ensures) in
    subst (λ (arguments : List (List ℕ)). IfOk c.read_register.result (λ command. IsForm command arguments))
    (first_and_rest string_bytes c.args.arguments.now c.first-item.result (codes "register") c.in-len1-up.len_at_least c.first-item.is (sym register ∙ c.as_str-3.ensures.value))
    c.read_register.ensures.ok

pub returns-then-eq-3-clause-usage : goal.returns-then-eq-3-clause-usage
returns-then-eq-3-clause-usage c =
    let register = (bytes_eq-Decides c.as_str-3.result.now (codes "register")).0 (sym c.if-eq-3.ensures) in
    subst (λ (arguments : List (List ℕ)). IfErr c.read_register.result (λ error. IsUsage arguments error.word))
    (first_and_rest string_bytes c.args.arguments.now c.first-item.result (codes "register") c.in-len1-up.len_at_least c.first-item.is (sym register ∙ c.as_str-3.ensures.value))
    c.read_register.ensures.usage

-- they begin with `remove`

pub returns-then-eq-4-clause-ok : goal.returns-then-eq-4-clause-ok
returns-then-eq-4-clause-ok c =
    let remove = (bytes_eq-Decides c.as_str-4.result.now (codes "remove")).0 (sym c.if-eq-4.ensures) in
    subst (λ (arguments : List (List ℕ)). IfOk c.read_remove.result (λ command. IsForm command arguments))
    (first_and_rest string_bytes c.args.arguments.now c.first-item.result (codes "remove") c.in-len1-up.len_at_least c.first-item.is (sym remove ∙ c.as_str-4.ensures.value))
    c.read_remove.ensures.ok

pub returns-then-eq-4-clause-usage : goal.returns-then-eq-4-clause-usage
returns-then-eq-4-clause-usage c =
    let remove = (bytes_eq-Decides c.as_str-4.result.now (codes "remove")).0 (sym c.if-eq-4.ensures) in
    subst (λ (arguments : List (List ℕ)). IfErr c.read_remove.result (λ error. IsUsage arguments error.word))
    (first_and_rest string_bytes c.args.arguments.now c.first-item.result (codes "remove") c.in-len1-up.len_at_least c.first-item.is (sym remove ∙ c.as_str-4.ensures.value))
    c.read_remove.ensures.usage

-- they begin with `push`

pub returns-then-eq-5-clause-ok : goal.returns-then-eq-5-clause-ok
returns-then-eq-5-clause-ok c =
    let push = (bytes_eq-Decides c.as_str-5.result.now (codes "push")).0 (sym c.if-eq-5.ensures) in
    subst (λ (arguments : List (List ℕ)). IfOk c.read_push.result (λ command. IsForm command arguments))
    (first_and_rest string_bytes c.args.arguments.now c.first-item.result (codes "push") c.in-len1-up.len_at_least c.first-item.is (sym push ∙ c.as_str-5.ensures.value))
    c.read_push.ensures.ok

pub returns-then-eq-5-clause-usage : goal.returns-then-eq-5-clause-usage
returns-then-eq-5-clause-usage c =
    let push = (bytes_eq-Decides c.as_str-5.result.now (codes "push")).0 (sym c.if-eq-5.ensures) in
    subst (λ (arguments : List (List ℕ)). IfErr c.read_push.result (λ error. IsUsage arguments error.word))
    (first_and_rest string_bytes c.args.arguments.now c.first-item.result (codes "push") c.in-len1-up.len_at_least c.first-item.is (sym push ∙ c.as_str-5.ensures.value))
    c.read_push.ensures.usage

-- they begin with `compile`

pub returns-then-eq-6-clause-ok : goal.returns-then-eq-6-clause-ok
returns-then-eq-6-clause-ok c =
    let compile = (bytes_eq-Decides c.as_str-6.result.now (codes "compile")).0 (sym c.if-eq-6.ensures) in
    subst (λ (arguments : List (List ℕ)). IfOk c.read_compile.result (λ command. IsForm command arguments))
    (first_and_rest string_bytes c.args.arguments.now c.first-item.result (codes "compile") c.in-len1-up.len_at_least c.first-item.is (sym compile ∙ c.as_str-6.ensures.value))
    c.read_compile.ensures.ok

pub returns-then-eq-6-clause-usage : goal.returns-then-eq-6-clause-usage
returns-then-eq-6-clause-usage c =
    let compile = (bytes_eq-Decides c.as_str-6.result.now (codes "compile")).0 (sym c.if-eq-6.ensures) in
    subst (λ (arguments : List (List ℕ)). IfErr c.read_compile.result (λ error. IsUsage arguments error.word))
    (first_and_rest string_bytes c.args.arguments.now c.first-item.result (codes "compile") c.in-len1-up.len_at_least c.first-item.is (sym compile ∙ c.as_str-6.ensures.value))
    c.read_compile.ensures.usage

-- they begin with the argument of no command

pub returns-in_default-command_of-clause-usage : goal.returns-in_default-command_of-clause-usage
returns-in_default-command_of-clause-usage c =
    let word = c.deref.result.now in
    let other = takes_none word _ c.deref.ensures (_, c.as_str.ensures.value, c.if-eq.ensures) (_, c.as_str-2.ensures.value, c.if-eq-2.ensures)
    (_, c.as_str-3.ensures.value, c.if-eq-3.ensures) (_, c.as_str-4.ensures.value, c.if-eq-4.ensures) (_, c.as_str-5.ensures.value, c.if-eq-5.ensures)
    (_, c.as_str-6.ensures.value, c.if-eq-6.ensures) in
    subst (λ (arguments : List (List ℕ)). IsUsage arguments 0)
    (first_and_rest string_bytes c.args.arguments.now c.first-item.result word c.in-len1-up.len_at_least c.first-item.is c.deref.ensures)
    (wrong_first word _ (λ command form. inr (inr (inr (inr (inl (c.in_default-command_of.ensures.none command form)))))) other)

-- an argument follows one that stands alone

pub returns-in_default-rest-clause-usage : goal.returns-in_default-rest-clause-usage
returns-in_default-rest-clause-usage c =
    let word = c.deref.result.now in
    let other = takes_none word _ c.deref.ensures (_, c.as_str.ensures.value, c.if-eq.ensures) (_, c.as_str-2.ensures.value, c.if-eq-2.ensures)
    (_, c.as_str-3.ensures.value, c.if-eq-3.ensures) (_, c.as_str-4.ensures.value, c.if-eq-4.ensures) (_, c.as_str-5.ensures.value, c.if-eq-5.ensures)
    (_, c.as_str-6.ensures.value, c.if-eq-6.ensures) in
    let rest = take (length c.args.arguments.now - 1) (drop 1 c.args.arguments.now) in
    subst (λ (arguments : List (List ℕ)). IsUsage arguments 1)
    (first_and_rest string_bytes c.args.arguments.now c.first-item.result word c.in-len1-up.len_at_least c.first-item.is c.deref.ensures)
    (second_word word (map string_bytes rest) c.in-Some.command (omega (arith, length-map rest string_bytes, c.in_default-rest.len_at_least)) other c.in-Some.ensures.some)
