-- The numbers of agents of each class, as an agent comes or changes its class.
use Rattle.std.proofs.Common.{◌≡◌, ◌⊎◌, inl, inr, ◌==◌, ℕ, zero, suc, ◌+◌, ◌-◌, ◌≤◌, ◌<◌, Bool, true, false, List, [], ◌∷◌, ◌++◌, length, map, Option, Some, None, slice_set, refl, sym, ◌∙◌, ap, subst, arith}
use Rattle.std.specs.Prelude.{slice_get}
use Rattle.std.proofs.lemmas.Bool.{eqb-true}
use Rattle.agent_class.specs.declared.class.Class.{Class}
use Rattle.agent_class.specs.declared.class.Class.TheVariants.{Silent, Compliant, Failed, Other}
use Rattle.fleet_view.specs.declared.counts.Counts.{Counts}
use Rattle.fleet_view.specs.declared.member.Member.{Member}
use Rattle.fleet_view.specs.Counting.{counts_of, one_more}
use Rattle.fleet_view.specs.Members.{classes_in, number_in, place_of, with_class}

tells : (b : Bool) → (b ≡ true) ⊎ (b ≡ false)
tells true = inl refl
tells false = inr refl

-- ---- one more and one less

more_more : (one other : Class) (n : Counts) → one_more one (one_more other n) ≡ one_more other (one_more one n)
more_more Silent Silent n = refl
more_more Silent Compliant n = refl
more_more Silent Failed n = refl
more_more Silent Other n = refl
more_more Compliant Silent n = refl
more_more Compliant Compliant n = refl
more_more Compliant Failed n = refl
more_more Compliant Other n = refl
more_more Failed Silent n = refl
more_more Failed Compliant n = refl
more_more Failed Failed n = refl
more_more Failed Other n = refl
more_more Other Silent n = refl
more_more Other Compliant n = refl
more_more Other Failed n = refl
more_more Other Other n = refl

one_less : Class → Counts → Counts
one_less Silent n = record n { silent = n.silent - 1 }
one_less Compliant n = record n { compliant = n.compliant - 1 }
one_less Failed n = record n { failed = n.failed - 1 }
one_less Other n = record n { other = n.other - 1 }

back : (n : ℕ) → (n + 1) - 1 ≡ n
back n = omega arith

less_more : (class : Class) (n : Counts) → one_less class (one_more class n) ≡ n
unfolding one_less
less_more Silent n = (λ i. record n { silent = back n.silent i })
less_more Compliant n = (λ i. record n { compliant = back n.compliant i })
less_more Failed n = (λ i. record n { failed = back n.failed i })
less_more Other n = (λ i. record n { other = back n.other i })

more_same : (class : Class) (m n : Counts) → one_more class m ≡ one_more class n → m ≡ n
more_same class m n is = sym (less_more class m) ∙ ap (one_less class) is ∙ less_more class n

-- what is one agent less of its number, is that number before it
pub number_more : (class : Class) (n : Counts) → number_in class (one_more class n) ≡ number_in class n + 1
number_more Silent n = refl
number_more Compliant n = refl
number_more Failed n = refl
number_more Other n = refl

pub number_grows : (class other : Class) (n : Counts) → number_in class n ≤ number_in class (one_more other n)
number_grows Silent Silent n = omega arith
number_grows Silent Compliant n = omega arith
number_grows Silent Failed n = omega arith
number_grows Silent Other n = omega arith
number_grows Compliant Silent n = omega arith
number_grows Compliant Compliant n = omega arith
number_grows Compliant Failed n = omega arith
number_grows Compliant Other n = omega arith
number_grows Failed Silent n = omega arith
number_grows Failed Compliant n = omega arith
number_grows Failed Failed n = omega arith
number_grows Failed Other n = omega arith
number_grows Other Silent n = omega arith
number_grows Other Compliant n = omega arith
number_grows Other Failed n = omega arith
number_grows Other Other n = omega arith

number_least : (class other : Class) (n : Counts) → number_in class (one_more other n) ≤ number_in class n + 1
number_least Silent Silent n = omega arith
number_least Silent Compliant n = omega arith
number_least Silent Failed n = omega arith
number_least Silent Other n = omega arith
number_least Compliant Silent n = omega arith
number_least Compliant Compliant n = omega arith
number_least Compliant Failed n = omega arith
number_least Compliant Other n = omega arith
number_least Failed Silent n = omega arith
number_least Failed Compliant n = omega arith
number_least Failed Failed n = omega arith
number_least Failed Other n = omega arith
number_least Other Silent n = omega arith
number_least Other Compliant n = omega arith
number_least Other Failed n = omega arith
number_least Other Other n = omega arith

-- ---- members

-- no class has more agents than there are
pub number_within : (class : Class) (members : List Member) → number_in class (counts_of (classes_in members)) ≤ length members
number_within Silent [] = omega arith
number_within Compliant [] = omega arith
number_within Failed [] = omega arith
number_within Other [] = omega arith
number_within class (m ∷ members) =
    omega (arith, number_within class members, number_least class m.class (counts_of (classes_in members)))

-- the class of a member has an agent
pub number_some : (members : List Member) (k : ℕ) (m : Member) → slice_get members k ≡ Some m → 1 ≤ number_in m.class (counts_of (classes_in members))
number_some [] k m is = cc is
number_some (x ∷ members) zero m is =
    let same : x ≡ m = cc is in
    subst (λ (y : Member). 1 ≤ number_in y.class (one_more x.class (counts_of (classes_in members)))) same
    (omega (arith, number_more x.class (counts_of (classes_in members))))
number_some (x ∷ members) (suc k) m is =
    omega (arith, number_some members k m is, number_grows m.class x.class (counts_of (classes_in members)))

pub added_counts : (members : List Member) (m : Member) → counts_of (classes_in (members ++ m ∷ [])) ≡ one_more m.class (counts_of (classes_in members))
added_counts [] m = refl
added_counts (x ∷ members) m = ap (one_more x.class) (added_counts members m) ∙ more_more x.class m.class (counts_of (classes_in members))

-- an agent that changes its class goes from the one to the other
moved : (agent : ℕ) (class : Class) (members : List Member) (m : Member) → slice_get members (place_of agent members) ≡ Some m
    → one_more m.class (counts_of (classes_in (with_class agent class members))) ≡ one_more class (counts_of (classes_in members))
moved agent class [] m is = absurd (let none : None ≡ Some m = is in cc none)
moved agent class (x ∷ members) m is = elim (tells (x.agent == agent)) [
  | inl same ↦
      let here : x ≡ m = cc (rw same at is) in
      let rest = counts_of (classes_in members) in
      subst (λ (y : Member). one_more y.class (counts_of (classes_in (with_class agent class (x ∷ members)))) ≡ one_more class (one_more x.class rest)) here
      (rw same (more_more x.class class rest))
  | inr other ↦
      let later : slice_get members (place_of agent members) ≡ Some m = rw other at is in
      let rest = counts_of (classes_in members) in
      rw other (more_more m.class x.class (counts_of (classes_in (with_class agent class members)))
      ∙ ap (one_more x.class) (moved agent class members m later) ∙ more_more x.class class rest)
]

pub moved_counts : (agent : ℕ) (class : Class) (members : List Member) (m : Member) (less : Counts) → slice_get members (place_of agent members) ≡ Some m
    → one_more m.class less ≡ counts_of (classes_in members) → one_more class less ≡ counts_of (classes_in (with_class agent class members))
moved_counts agent class members m less is before =
    more_same m.class (one_more class less) (counts_of (classes_in (with_class agent class members)))
    (more_more m.class class less ∙ ap (one_more class) before ∙ sym (moved agent class members m is))
