use Rattle.std.proofs.Common.{◌∷◌, [], ◌++◌, List, ap, arith, subst, ◌∙◌}
use Rattle.std.proofs.lemmas.List.{append_assoc}
use Rattle.std.proofs.lemmas.List.Sums.{sum_by-cons}
use Rattle.resource_kinds.specs.declared.entry.Entry.{Entry}
use Rattle.resource_kinds.specs.declared.entry.Entry.TheVariants.{Tested}
use Rattle.resource_kinds.specs.declared.entry.TestAnswer.{TestAnswer}
use Rattle.resource_kinds.specs.declared.entry.TestAnswer.TheVariants as tests
use Rattle.resource_kinds.specs.Trace.{entry_failures}
use Rattle.lcm_core.proofs.turns.take_turn.Goals as goal

pub returns-in-No-clause-turn : goal.returns-in-No-clause-turn
returns-in-No-clause-turn g c =
    let place = c.args.place in
    let rest = c.set_and_test.ensures.rest in
    let first = Tested place tests.No in
    let trace = g.R.Resources.trace c.args.resources.now in
    record {
      turn = first ∷ rest.rest;
      is_turn = rest.is_turn;
      follows = rest.follows
          ∙ ap (λ (l : List Entry). l ++ rest.rest) (c.test.ensures.trace ∙ ap (λ (a : TestAnswer). trace ++ Tested place a ∷ []) c.in-No.is)
          ∙ append_assoc trace (first ∷ []) rest.rest;
      last = rest.last;
      ends = (first ∷ rest.ends.0, ap (λ (l : List Entry). first ∷ l) rest.ends.1);
      shows = rest.shows;
      chain = (c.test.new.self, subst (λ (a : TestAnswer). g.R.Resources.does c.args.resources.now c.args.document.now (Tested place a) c.test.new.self) c.in-No.is c.test.ensures.does, rest.chain);
      failures = omega (arith, rest.failures, sum_by-cons entry_failures first rest.rest, ap (λ (a : TestAnswer). entry_failures (Tested place a)) c.in-No.is, c.test.ensures.cause);
      later = omega (arith, rest.later, c.test.ensures.later);
      capacity = omega (arith, rest.capacity, c.test.ensures.capacity);
    }
