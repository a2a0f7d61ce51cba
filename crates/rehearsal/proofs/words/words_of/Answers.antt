use Rattle.std.proofs.Common.{rules, List, ℕ, ◌++◌, ◌∷◌, [], ap, ◌∙◌, sym, arith}
use Rattle.std.proofs.lemmas.Str.Pattern.{split_once_first}
use Rattle.rehearsal.proofs.ScriptWords.{cut_word, last_word}
use Rattle.rehearsal.proofs.words.words_of.Goals as goal

pub loop-word-preserved : goal.loop-word-preserved
loop-word-preserved c =
    let l = c.loop-word in
    let cut = rw c.in-Some.is at (split_once_first 32 l.rest.now c.split_once.result c.split_once.ensures.cases (omega arith)) in (
      search rules,
      cut_word c.args.text.now l.rest.now c.in-Some.word.now c.in-Some.more.now l.all.items c.push.new.self.items l.invariant.1 cut.0 cut.1 cut.2
          (c.in_ok-push.ensures.items ∙ ap (λ (w : List ℕ). l.all.items ++ w ∷ []) c.of.ensures),
    )

pub returns : goal.returns
returns c =
    let l = c.loop-word in
    let none = rw c.in_default.is at (split_once_first 32 l.rest.now c.split_once.result c.split_once.ensures.cases (omega arith)) in
    c.in_ok-push-2.ensures.items ∙ ap (λ (w : List ℕ). l.all.items ++ w ∷ []) c.of-2.ensures
    ∙ sym (l.invariant.1 ∙ ap (λ (w : List (List ℕ)). l.all.items ++ w) (last_word l.rest.now none))
