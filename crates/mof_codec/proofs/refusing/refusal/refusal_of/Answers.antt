use Rattle.std.proofs.Common.{◌≡◌, Option, ◌∙◌, ap}
use Rattle.std.specs.Str.{chars}
use Rattle.mof_syntax.specs.declared.mof_error.MofError.{MofError}
use Rattle.mof_codec.proofs.RefusalFound.{Found, front_there, found_wins, none_spells}
use Rattle.mof_codec.specs.Winning.{sooner, out_of_profile, number_range, too_many, syntax_fault}
use Rattle.mof_codec.proofs.refusing.refusal.refusal_of.Goals as goal

found : (c : goal.After-sooner-2) → Found (chars c.args.text.now) c.fault-fault.result c.left_out-form.result c.end_of.result c.first_scalar-number.result c.first_excess-part.result
found c = record {
  fault_some = c.fault-fault.ensures.fault;
  fault_none = c.fault-fault.ensures.wide;
  form_some = c.left_out-form.ensures.some;
  form_wide = c.left_out-form.ensures.wide;
  form_none = c.left_out-form.ensures.none;
  end_is = c.end_of.ensures;
  number_some = rw c.split_chars.ensures.front at c.first_scalar-number.ensures.some;
  number_none = rw c.split_chars.ensures.front at c.first_scalar-number.ensures.none;
  part_some = c.first_excess-part.ensures.some;
  part_none = c.first_excess-part.ensures.none;
  part_count = c.first_excess-part.ensures.count;
  part_parts = c.first_excess-part.ensures.parts;
}

others : (c : goal.After-sooner-2) → c.sooner-others.result ≡ sooner (too_many c.first_excess-part.result) (syntax_fault c.fault-fault.result)
others c =
    c.sooner-others.ensures ∙ ap (λ (x : Option MofError). sooner x c.syntax.result) c.too_many.ensures
    ∙ ap (λ (x : Option MofError). sooner (too_many c.first_excess-part.result) x) c.syntax.ensures

inner : (c : goal.After-sooner-2) → c.sooner.result ≡ sooner (number_range c.first_scalar-number.result) c.sooner-others.result
inner c = c.sooner.ensures ∙ ap (λ (x : Option MofError). sooner x c.sooner-others.result) c.number_range.ensures

outer : (c : goal.After-sooner-2) → c.sooner-2.result ≡ sooner (out_of_profile c.left_out-form.result) c.sooner.result
outer c = c.sooner-2.ensures ∙ ap (λ (x : Option MofError). sooner x c.sooner.result) c.out_of_profile.ensures

pub first_scalar-number-requires : goal.first_scalar-number-requires
first_scalar-number-requires c = rw c.split_chars.ensures.front (front_there _ _ _ c.end_of.ensures c.fault-fault.ensures.fault c.fault-fault.ensures.wide)

pub returns-clause-some : goal.returns-clause-some
returns-clause-some c = found_wins _ _ _ _ _ _ (found c) _ _ _ (others c) (inner c) (outer c)

pub returns-clause-none : goal.returns-clause-none
returns-clause-none c = none_spells _ _ _ _ _ _ (found c) _ _ _ (others c) (inner c) (outer c)
