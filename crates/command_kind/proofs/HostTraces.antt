-- What is true of a host along a trace with commands.
use Rattle.std.proofs.Common.{◌≡◌, inl, inr, ℕ, List, [], ◌∷◌, Option, Some, None, Result, Ok, Err, sym, ◌∙◌, subst}
use Rattle.std.specs.Prelude.{slice_get}
use Rattle.std.specs.Option.{IsSomeAnd}
use Rattle.dsc_outside.specs.declared.host.Host as hosts
use Rattle.dsc_outside.specs.Host.{HostState}
use Rattle.dsc_document.specs.declared.document.Document.{Document}
use Rattle.dsc_document.specs.declared.document.Resource.{Resource}
use Rattle.resource_kinds.specs.declared.entry.Failure.{Failure}
use Rattle.resource_kinds.specs.declared.entry.Failure.TheVariants as faults
use Rattle.resource_kinds.specs.declared.entry.TestAnswer.{TestAnswer}
use Rattle.resource_kinds.specs.declared.entry.SetAnswer.{SetAnswer}
use Rattle.resource_kinds.specs.declared.entry.SetAnswer.TheVariants as sets
use Rattle.resource_kinds.specs.declared.entry.Entry.{Entry}
use Rattle.resource_kinds.specs.declared.entry.Entry.TheVariants.{Tested, Set}
use Rattle.resource_kinds.specs.declared.kinds.Kinds.{Kinds}
use Rattle.resource_kinds.specs.declared.wanted.Wanted.{Wanted}
use Rattle.resource_kinds.specs.Kinds.{host_of}
use Rattle.resource_kinds.specs.Trace.{Chain}
use Rattle.resource_kinds.specs.True.{AnswersTrue, BrokeOff, IsKeptSet, IsKeptTest, KeepsTable, LeavesFaulty, SetKeepsTable, SetNames, SetsKnown, SetsTrue, TellsEntry, TestKeepsTable}
use Rattle.resource_kinds.specs.Wanted.{NamesProperty, wanted_of}
use Rattle.resource_kinds.proofs.Chains.{tells_true}
use Rattle.command_kind.specs.declared.spawner.Spawner as spawners
use Rattle.command_kind.specs.HostLaws.{OthersAreTrue, kinds_of}
use Rattle.command_kind.specs.Laws.{others}
use Rattle.command_kind.specs.Steps.{HandedStep, IsKeptEntry}
use Rattle.command_kind.proofs.Calls.{told_set, told_test}
use Rattle.command_kind.proofs.Traces.{others_are}

-- ---- entries as they are kept

some_and : {A : Type 0} (P Q : A → Type 0) → ((a : A) → P a → Q a) → (o : Option A) → IsSomeAnd o P → IsSomeAnd o Q
some_and P Q step None is = absurd is
some_and P Q step (Some a) is = step a is

kept_test_table : (wanted : Result Wanted Failure) (answer kept : TestAnswer) → IsKeptTest answer kept → TestKeepsTable wanted answer → TestKeepsTable wanted kept
kept_test_table wanted answer kept (inl same) keeps = subst (λ (a : TestAnswer). TestKeepsTable wanted a) (sym same) keeps
kept_test_table (Ok asked) answer kept (inr named) keeps = subst (λ (a : TestAnswer). TestKeepsTable (Ok asked) a) (sym named.1) tt
kept_test_table (Err failure) answer kept (inr named) keeps = told_test failure answer kept named.0 named.1 keeps

kept_set_table : (wanted : Result Wanted Failure) (answer kept : SetAnswer) → IsKeptSet answer kept → SetKeepsTable wanted answer → SetKeepsTable wanted kept
kept_set_table wanted answer kept (inl same) keeps = subst (λ (a : SetAnswer). SetKeepsTable wanted a) (sym same) keeps
kept_set_table (Ok asked) answer kept (inr named) keeps = subst (λ (a : SetAnswer). SetKeepsTable (Ok asked) a) (sym named.1) tt
kept_set_table (Err failure) answer kept (inr named) keeps = told_set failure answer kept named.0 named.1 keeps

kept_test_true : (host : HostState) (wanted : Result Wanted Failure) (answer kept : TestAnswer) → IsKeptTest answer kept → AnswersTrue host wanted answer → AnswersTrue host wanted kept
kept_test_true host wanted answer kept (inl same) true = subst (λ (a : TestAnswer). AnswersTrue host wanted a) (sym same) true
kept_test_true host (Ok asked) answer kept (inr named) true = subst (λ (a : TestAnswer). AnswersTrue host (Ok asked) a) (sym named.1) tt
kept_test_true host (Err failure) answer kept (inr named) true = told_test failure answer kept named.0 named.1 true

-- a Set of a resource without a fault of its own names no property
unnamed_fault : (before after : HostState) (asked : Wanted) (failure : Failure) → NamesProperty failure → LeavesFaulty before asked failure after → BrokeOff before asked after
unnamed_fault before after asked faults.NoSuchResource names leaves = absurd names
unnamed_fault before after asked (faults.OutOfProfile name) names leaves = absurd leaves
unnamed_fault before after asked faults.BadPath names leaves = absurd names
unnamed_fault before after asked faults.InTheWay names leaves = absurd names
unnamed_fault before after asked faults.HostFailed names leaves = absurd names

unnamed_set : (before after : HostState) (id : List ℕ) (asked : Wanted) (answer : SetAnswer) → SetNames answer → SetsKnown before id asked answer after → BrokeOff before asked after
unnamed_set before after id asked sets.Done names set = absurd names
unnamed_set before after id asked sets.Reboot names set = absurd names
unnamed_set before after id asked (sets.Fault failure) names set = unnamed_fault before after asked failure names set
unnamed_set before after id asked sets.Memory names set = absurd names

kept_set_true : (before after : HostState) (id : List ℕ) (wanted : Result Wanted Failure) (answer kept : SetAnswer) → IsKeptSet answer kept → SetsTrue before id wanted answer after
    → SetsTrue before id wanted kept after
kept_set_true before after id wanted answer kept (inl same) true = subst (λ (a : SetAnswer). SetsTrue before id wanted a after) (sym same) true
kept_set_true before after id (Ok asked) answer kept (inr named) true =
    subst (λ (a : SetAnswer). SetsKnown before id asked a after) (sym named.1) (unnamed_set before after id asked answer named.0 true)
kept_set_true before after id (Err failure) answer kept (inr named) true = (told_set failure answer kept named.0 named.1 true.0, true.1)

module _ (document : Document) where
  pub kept_tells : (before after : Option HostState) (entry e : Entry) → IsKeptEntry entry e → TellsEntry before document entry after → TellsEntry before document e after
  kept_tells None after (Tested place answer) (Tested other kept) is tells = (
    tells.0,
    subst (λ (p : ℕ). KeepsTable document (Tested p kept)) (sym is.0)
        (some_and _ _ (λ (resource : Resource) keeps. kept_test_table (wanted_of resource) answer kept is.1 keeps) (slice_get document.resources place) tells.1),
  )
  kept_tells None after (Set place answer) (Set other kept) is tells = (
    tells.0,
    subst (λ (p : ℕ). KeepsTable document (Set p kept)) (sym is.0)
        (some_and _ _ (λ (resource : Resource) keeps. kept_set_table (wanted_of resource) answer kept is.1 keeps) (slice_get document.resources place) tells.1),
  )
  kept_tells (Some before) after (Tested place answer) (Tested other kept) is tells = (
    tells.0,
    tells.1,
    (
      tells.2.0,
      subst (λ (p : ℕ). IsSomeAnd (slice_get document.resources p) (λ (resource : Resource). AnswersTrue before (wanted_of resource) kept)) (sym is.0)
          (some_and _ _ (λ (resource : Resource) true. kept_test_true before (wanted_of resource) answer kept is.1 true) (slice_get document.resources place) tells.2.1),
    ),
  )
  kept_tells (Some before) after (Set place answer) (Set other kept) is tells = (
    tells.0,
    tells.1,
    subst (λ (p : ℕ). IsSomeAnd (slice_get document.resources p) (λ (resource : Resource). SetsTrue before resource.id (wanted_of resource) kept tells.0)) (sym is.0)
        (some_and _ _ (λ (resource : Resource) true. kept_set_true before tells.0 resource.id (wanted_of resource) answer kept is.1 true) (slice_get document.resources place) tells.2),
  )
  kept_tells before after (Tested place answer) (Set other kept) is tells = absurd is
  kept_tells before after (Set place answer) (Tested other kept) is tells = absurd is

  -- ---- traces

  kept_chain : {H : Type 0} (host : hosts.Ghosts H) (t : List Entry) (a b : Kinds H) → Chain (HandedStep (kinds_of host)) (kinds_of host).still document a t b
      → Chain TellsEntry (λ x y. x ≡ y) document (host.shown (host_of a)) t (host.shown (host_of b))
  kept_chain host [] a b chain = chain
  kept_chain host (e ∷ t) a b chain =
      let step = chain.1 in (
        host.shown (host_of chain.0),
        kept_tells (host.shown (host_of a)) (host.shown (host_of chain.0)) step.entry e step.kept step.step,
        kept_chain host t chain.0 b chain.2,
      )

pub others_true : {H P : Type 0} (host : hosts.Ghosts H) (spawner : spawners.Ghosts P) → OthersAreTrue host spawner
others_true {H} host spawner document trace before after chain =
    tells_true document (others document trace) (host.shown (host_of before.machine)) (host.shown (host_of after.machine))
    (kept_chain document host (others document trace) before.machine after.machine
    (others_are (kinds_of host) spawner
    (λ a b c d e same step. subst (λ (t : Option HostState). TellsEntry t d e (host.shown (host_of c))) (sym same) step)
    (λ a b c first second. first ∙ second)
    document trace before after chain))
