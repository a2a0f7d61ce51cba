use Rattle.std.proofs.Common.{refl}
use Rattle.mof_syntax.proofs.Walking.{IsPlace-next, skipped, found, slice_is, separators_before, token_before, fits, count_fits, none_found, nearer}
use Rattle.mof_syntax.proofs.walk.TokensIterator.next.Goals as goal

pub before-requires : goal.before-requires
before-requires c = separators_before _ _ c.separators_rest-start.ensures.stands

pub overflow_cast-from : goal.overflow_cast-from
overflow_cast-from c = rw c.char_count.ensures (record { fits = count_fits _ _ _ _ _ c.self.invariant.0 c.before-2.ensures c.self.invariant.1 })

pub overflow_add-from : goal.overflow_add-from
overflow_add-from c = rw c.char_count.ensures (record { fits = fits _ _ _ _ _ c.self.invariant.0 c.before-2.ensures c.self.invariant.1 })

pub invariant_of-self : goal.invariant_of-self
invariant_of-self c = rw c.char_count.ensures (IsPlace-next _ _ _ _ _ c.self.invariant.0 c.before-2.ensures, c.self.invariant.1)

pub returns-in_err-kind-clause-steps : goal.returns-in_err-kind-clause-steps
returns-in_err-kind-clause-steps c = rw (← c.self.view_is, c.from_residual.ensures, c.char_count.ensures) (record {
  text = refl;
  skips = skipped _ _ _ _ _ c.self.invariant.0 c.before-2.ensures c.separators_rest-start.ensures.stands c.separators_rest-start.ensures.stops;
  no_token = none_found _ _ _ _ _ c.self.invariant.0 c.before-2.ensures c.in_err-kind.ensures.none;
})

pub before-text-requires : goal.before-text-requires
before-text-requires c = token_before _ _ _ c.in_ok-kind.ensures.some

pub overflow_cast-to : goal.overflow_cast-to
overflow_cast-to c = rw c.char_count-2.ensures (record { fits = count_fits _ _ _ _ _ (IsPlace-next _ _ _ _ _ c.self.invariant.0 c.before-2.ensures) c.before-text.ensures c.self.invariant.1 })

pub overflow_add-to : goal.overflow_add-to
overflow_add-to c = rw (c.char_count.ensures, c.char_count-2.ensures) (record { fits = fits _ _ _ _ _ (IsPlace-next _ _ _ _ _ c.self.invariant.0 c.before-2.ensures) c.before-text.ensures c.self.invariant.1 })

pub invariant_of-self-2 : goal.invariant_of-self-2
invariant_of-self-2 c = rw (c.char_count.ensures, c.char_count-2.ensures) (IsPlace-next _ _ _ _ _ (IsPlace-next _ _ _ _ _ c.self.invariant.0 c.before-2.ensures) c.before-text.ensures, c.self.invariant.1)

pub returns-clause-steps : goal.returns-clause-steps
returns-clause-steps c = rw (← c.self.view_is, c.char_count.ensures, c.char_count-2.ensures) (record {
  text = refl;
  place = refl;
  skips = skipped _ _ _ _ _ c.self.invariant.0 c.before-2.ensures c.separators_rest-start.ensures.stands c.separators_rest-start.ensures.stops;
  stands = found _ _ _ _ _ _ (IsPlace-next _ _ _ _ _ c.self.invariant.0 c.before-2.ensures) c.before-text.ensures c.in_ok-kind.ensures.some;
  slice = slice_is _ _ _ _ _ (IsPlace-next _ _ _ _ _ c.self.invariant.0 c.before-2.ensures) c.before-text.ensures;
})

pub returns-clause-goes : goal.returns-clause-goes
returns-clause-goes c = rw (← c.self.view_is, c.char_count.ensures, c.char_count-2.ensures) (record {
  on = λ finite. (tt, tt, nearer _ _ _ _ _ _ _ _ c.self.invariant.0 c.before-2.ensures c.before-text.ensures c.in_ok-kind.ensures.some);
  keeps = tt;
  rests = λ finite. tt;
})
