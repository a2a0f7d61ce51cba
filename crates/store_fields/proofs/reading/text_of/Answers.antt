use Rattle.std.proofs.Common.{sym, subst, ◌∙◌, ℕ, List, ◌≡◌, true}
use Rattle.std.specs.Str.{all_scalars}
use Rattle.std.proofs.lemmas.Str.{encodes_same}
use Rattle.store_fields.proofs.reading.text_of.Goals as goal

pub returns-in_ok-chars_of-in-Ok-clause-ok : goal.returns-in_ok-chars_of-in-Ok-clause-ok
returns-in_ok-chars_of-in-Ok-clause-ok c =
    let cases = c.in-Ok.ensures.cases in
    let same = encodes_same c.in_ok-chars_of-in-Ok.field-0 cases.1.0 (c.in_ok-chars_of-in-Ok.ensures ∙ cases.0 ∙ sym cases.1.1.1) in
    (subst (λ (l : List ℕ). all_scalars l ≡ true) (sym same) cases.1.1.0, c.in_ok-chars_of-in-Ok.ensures ∙ cases.0)
