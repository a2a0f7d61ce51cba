use Rattle.std.proofs.Common.{◌≡◌, Bool, true, false, List, ℕ, sym, ◌∙◌}
use Rattle.std.specs.Prelude.{codes}
use Rattle.mof_syntax.specs.declared.mof_error.Form.{Form}
use Rattle.mof_codec.specs.Searching.{BeginsForm, BeginsWord, begins_with, pragma, qualifiers, class, qualifier}
use Rattle.mof_codec.proofs.Truths.{clash}
use Rattle.mof_codec.proofs.refusing.form.declared.Goals as goal

pub returns-then-begins_with-clause-some : goal.returns-then-begins_with-clause-some
returns-then-begins_with-clause-some c = pragma (sym c.begins_with.ensures ∙ c.if-begins_with.true)

pub returns-then-begins_with-2-clause-some : goal.returns-then-begins_with-2-clause-some
returns-then-begins_with-2-clause-some c = qualifiers (sym c.begins_with-2.ensures ∙ c.if-begins_with-2.true)

pub returns-then-begins_word-clause-some : goal.returns-then-begins_word-clause-some
returns-then-begins_word-clause-some c = class (c.begins_word.ensures.0 c.if-begins_word.true)

pub returns-then-begins_word-2-clause-some : goal.returns-then-begins_word-2-clause-some
returns-then-begins_word-2-clause-some c = qualifier (c.begins_word-2.ensures.0 c.if-begins_word-2.true)

none_begins : (cs : List ℕ) → begins_with cs 35 ≡ false → begins_with cs 91 ≡ false → (BeginsWord cs (codes "class") → ⊥) → (BeginsWord cs (codes "qualifier") → ⊥) → (form : Form) → BeginsForm cs form → ⊥
none_begins cs p q c k form (pragma e) = clash e p
none_begins cs p q c k form (qualifiers e) = clash e q
none_begins cs p q c k form (class w) = c w
none_begins cs p q c k form (qualifier w) = k w

pub returns-clause-none : goal.returns-clause-none
returns-clause-none c =
    none_begins _ (sym c.begins_with.ensures ∙ c.if-begins_with.false) (sym c.begins_with-2.ensures ∙ c.if-begins_with-2.false)
    (λ w. clash (c.begins_word.ensures.1 w) c.if-begins_word.false) (λ w. clash (c.begins_word-2.ensures.1 w) c.if-begins_word-2.false)
