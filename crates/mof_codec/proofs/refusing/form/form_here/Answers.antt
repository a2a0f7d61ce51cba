use Rattle.std.proofs.Common.{◌≡◌, IfSome, Some, None, Option, sym, ◌∙◌, true}
use Rattle.mof_syntax.specs.declared.mof_error.Form.{Form}
use Rattle.mof_codec.specs.declared.machine.state.State.{State}
use Rattle.mof_codec.specs.Beginnings.{begins_declaration}
use Rattle.mof_codec.specs.Searching.{BeginsForm, StandsForm, character, declared}
use Rattle.mof_codec.proofs.refusing.form.form_here.Goals as goal

pub returns-then-begins_with-clause-some : goal.returns-then-begins_with-clause-some
returns-then-begins_with-clause-some c = character (sym c.begins_scalar.ensures ∙ c.if-begins_scalar.true) (sym c.begins_with.ensures ∙ c.if-begins_with.true)

module _ (state : State) (cs : _) where
  as_form : (o : Option Form) → begins_declaration state.half state.place ≡ true → IfSome o (λ form. BeginsForm cs form) → IfSome o (λ form. StandsForm state cs form)
  as_form None e b = b
  as_form (Some form) e b = declared form e b

pub returns-then-begins_declaration-clause-some : goal.returns-then-begins_declaration-clause-some
returns-then-begins_declaration-clause-some c = as_form _ _ _ (sym c.begins_declaration.ensures ∙ c.if-begins_declaration.true) c.declared.ensures.some
