-- Arguments that ask for a rehearsal are in no form of the node's commands, and those that do not begin so are asked as before.
use Rattle.std.proofs.Common.{◌≡◌, ℕ, suc, ◌+◌, ◌<◌, List, [], ◌∷◌, ◌++◌, Some, length, take, get_or, codes, refl, sym, ap, subst, arith}
use Rattle.dsc_node.specs.declared.status.Status.{Status}
use Rattle.dsc_node.specs.declared.status.Status.TheVariants.{Usage, Memory}
use Rattle.lcm_program.specs.declared.words.Command.{Command}
use Rattle.lcm_program.specs.declared.words.Command.TheVariants.{Compile, Generate, Init, Register, Push, Remove}
use Rattle.lcm_program.specs.Did.{DidNothing, UsageEnds}
use Rattle.lcm_program.specs.Objects.{Known, Objects}
use Rattle.lcm_program.specs.Words.{Asked, IsAsked, IsForm, IsUsage, IsUsageOf, to_do, to_rehearse}

-- no other command has that letter
abbrev third_letter : List (List ℕ) → ℕ
third_letter arguments = get_or (get_or arguments 0 []) 2 0

pub no_command : (command : Command) (rest : List (List ℕ)) → IsForm command (codes "rehearse" ∷ rest) → ⊥
no_command (Compile node) rest (is, named) = omega (arith, ap third_letter is)
no_command (Generate count) rest (word, is, counted) = omega (arith, ap third_letter is)
no_command (Init agent) rest (word, is, named) = omega (arith, ap third_letter is)
no_command (Register name) rest (is, named) = omega (arith, ap third_letter is)
no_command (Push (Some name)) rest (is, named) = omega (arith, ap third_letter is)
no_command (Remove stage) rest (word, is, named) = omega (arith, ap third_letter is)
no_command command rest form = omega (arith, ap third_letter form)

-- another argument follows `rehearse`
pub too_many : (rest : List (List ℕ)) → 0 < length rest → IsUsageOf IsAsked (codes "rehearse" ∷ rest) 1
too_many [] some = absurd (omega (arith, some))
too_many (second ∷ rest) some =
    record {
      no_form = λ asked form. never asked rest form;
      within = omega arith;
      begins = (to_rehearse, [], refl);
      stops = λ below begins. never begins.0 begins.1 begins.2;
    }
  where
    never : (asked : Asked) (more : List (List ℕ)) → IsAsked asked (codes "rehearse" ∷ second ∷ more) → ⊥
    never (to_do command) more form = no_command command (second ∷ more) form
    never to_rehearse more form = omega (arith, ap length form)

-- the first of some arguments stands in each front of them that has one
begins_with : (arguments more : List (List ℕ)) (place : ℕ) (word : List ℕ) → 0 < length arguments → take (place + 1) arguments ++ more ≡ word ∷ []
    → (rest : List (List ℕ)) × (arguments ≡ word ∷ rest)
begins_with [] more place word some is = absurd (omega (arith, some))
begins_with (first ∷ rest) more place word some is =
    let next : place + 1 ≡ suc place = omega arith in
    let front = subst (λ (k : ℕ). take k (first ∷ rest) ++ more ≡ word ∷ []) next is in
    (rest, ap (λ (all : List (List ℕ)). get_or all 0 [] ∷ rest) front)

module _ (arguments : List (List ℕ)) (other : (rest : List (List ℕ)) → arguments ≡ codes "rehearse" ∷ rest → ⊥) where
  usage_of_both : (place : ℕ) → IsUsage arguments place → IsUsageOf IsAsked arguments place
  usage_of_both place usage =
      record {
        no_form = none;
        within = usage.within;
        begins = (to_do usage.begins.0, usage.begins.1, usage.begins.2);
        stops = λ below begins. stops below begins.0 begins.1 begins.2;
      }
    where
      none : (asked : Asked) → IsAsked asked arguments → ⊥
      none (to_do command) form = usage.no_form command form
      none to_rehearse form = other [] form

      stops : place < length arguments → (asked : Asked) (more : List (List ℕ)) → IsAsked asked (take (place + 1) arguments ++ more) → ⊥
      stops below (to_do command) more form = usage.stops below (command, more, form)
      stops below to_rehearse more form =
          let first = begins_with arguments more place (codes "rehearse") (omega (arith, below)) form in
          other first.0 first.1

  module _ {S K D M L C : Type 0} (o : Known S K D M L C) (before after : Objects S K D M L C) where
    ends_of_both : (status : Status) → UsageEnds IsForm o arguments status before after → UsageEnds IsAsked o arguments status before after
    ends_of_both (Usage place) ends = (usage_of_both place ends.0, ends.1)
    ends_of_both Memory ends = ends
    ends_of_both _ ends = absurd ends

    pub nothing_of_both : (status : Status) → DidNothing IsForm o arguments status before after → DidNothing IsAsked o arguments status before after
    nothing_of_both status nothing = record { input = nothing.input; untouched = nothing.untouched; ends = ends_of_both status nothing.ends }
