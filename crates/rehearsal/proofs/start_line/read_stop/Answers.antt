use Rattle.std.proofs.Common.{ℕ, List, [], ◌∷◌, codes, sym, ap, ◌∙◌, subst}
use Rattle.std.proofs.lemmas.Slice.Eq.{bytes_eq-Decides}
use Rattle.rehearsal.specs.Script.{IsCall}
use Rattle.rehearsal.proofs.ScriptWords.{not_false, three_words}
use Rattle.rehearsal.proofs.start_line.read_stop.Goals as goal

pub returns-in_ok-part-in-len3-clause-some : goal.returns-in_ok-part-in-len3-clause-some
returns-in_ok-part-in-len3-clause-some c =
    let whole = three_words c.args.all.now c.mark-item.result c.call-item.result c.part-item.result c.in-len3.len_at_least c.in-len3.len_below c.mark-item.is c.call-item.is c.part-item.is in
    let stop = sym c.as_str.ensures ∙ (bytes_eq-Decides c.as_str.result.now (codes "stop")).0 (not_false _ c.if-ne.ensures) in
    let part = sym c.as_str-in-len3-2.ensures ∙ c.in_ok-part-in-len3.ensures.some in (
      c.call-item.result,
      whole ∙ ap (λ (m : List ℕ). m ∷ c.call-item.result ∷ c.part-item.result ∷ []) stop ∙ ap (λ (p : List ℕ). codes "stop" ∷ c.call-item.result ∷ p ∷ []) part,
      subst (λ (w : List ℕ). IsCall w c.in_ok-call-in-len3.call) c.as_str-in-len3.ensures c.in_ok-call-in-len3.ensures.some,
    )
