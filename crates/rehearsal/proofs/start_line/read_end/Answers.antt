use Rattle.std.proofs.Common.{ℕ, ◌-◌, List, ◌∷◌, codes, length, take, drop, IfSome, sym, ap, ◌∙◌, subst}
use Rattle.std.proofs.lemmas.Slice.Eq.{bytes_eq-Decides}
use Rattle.rehearsal.specs.Script.{IsEnd}
use Rattle.rehearsal.proofs.ScriptWords.{two_words}
use Rattle.rehearsal.proofs.start_line.read_end.Goals as goal

pub returns-then-eq-clause-some : goal.returns-then-eq-clause-some
returns-then-eq-clause-some c =
    let all = c.args.all.now in
    let name = c.name-item.result in
    let mark = sym c.as_str.ensures ∙ (bytes_eq-Decides c.as_str.result.now (codes "<")).0 (sym c.if-eq.ensures) in
    let whole = two_words all c.mark-item.result name c.in-len2-up.len_at_least c.mark-item.is c.name-item.is ∙ ap (λ (m : List ℕ). m ∷ name ∷ take (length all - 2) (drop 2 all)) mark in
    subst (λ (l : List (List ℕ)). IfSome c.read_input.result (λ end. IsEnd c.args.texts.now l end.input end.stop)) (sym whole) c.read_input.ensures.some
