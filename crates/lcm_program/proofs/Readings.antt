-- Each input is read in one way, and allows the status that came of it.
use Rattle.std.proofs.Common.{◌≡◌, ◌∙◌, ℕ, ◌≤◌, List, [], ◌∷◌, Option, Some, None, Result, Ok, Err, length, refl, sym, ap, subst, arith}
use Rattle.std.specs.Prelude.{IfSome, ⊤}
use Rattle.std.specs.List.{AllZip}
use Rattle.dsc_terms.specs.Counts.{Rose}
use Rattle.mof_codec.proofs.OneRefusal.{refuses_once}
use Rattle.mof_syntax.specs.declared.mof_error.MofError.{MofError}
use Rattle.dsc_document.specs.declared.document.Document.{Document}
use Rattle.partial_merge.specs.declared.error.MergeError.{MergeError}
use Rattle.partial_merge.specs.Merged.{Merged}
use Rattle.partial_merge.specs.Parts.{IsWhole}
use Rattle.partial_merge.proofs.OneMerge.{never_both, one_refusal}
use Rattle.dsc_node.specs.declared.status.InputError.{InputError}
use Rattle.dsc_node.specs.declared.status.InputError.TheVariants.{TooLong, Mof, Merge, Meta, Parts, Fit, ListTooLong, Compile, Script}
use Rattle.dsc_node.specs.declared.status.Status.{Status}
use Rattle.dsc_node.specs.declared.status.Status.TheVariants.{InputRefused, ReadFault, Memory}
use Rattle.lcm_program.specs.Answers.{Allows, EachAllows, UsesInput}
use Rattle.lcm_program.specs.Input.{IsInput, Reading, ReadsBytes, ReadsDocument, ReadsInstances, input_limit, parts_of}
use Rattle.lcm_program.specs.Tool.{Shows}

-- two answers are both values, or the same error
abbrev pub Agree : {A : Type 0} → Result A InputError → Result A InputError → Type 0
Agree (Ok x) (Ok y) = ⊤
Agree (Err e) (Err f) = e ≡ f
Agree (Ok x) (Err f) = ⊥
Agree (Err e) (Ok y) = ⊥

abbrev pub Decides : {A : Type 0} → Reading A → Type 0
Decides {A} reads = (all : List ℕ) (a b : Result A InputError) → reads all a → reads all b → Agree a b

pub bytes_decide : (limit : ℕ) → Decides (ReadsBytes limit)
bytes_decide limit all (Ok x) (Ok y) p q = tt
bytes_decide limit all (Ok x) (Err f) p q = omega (arith, p.1, q.1)
bytes_decide limit all (Err e) (Ok y) p q = omega (arith, p.1, q.1)
bytes_decide limit all (Err e) (Err f) p q = p.0 ∙ sym q.0

pub instances_decide : Decides ReadsInstances
instances_decide all (Ok x) (Ok y) p q = tt
instances_decide all (Ok x) (Err TooLong) p q = omega (arith, p.within, q)
instances_decide all (Ok x) (Err (Mof f)) p q = q.1.unspelled x p
instances_decide all (Ok x) (Err (Merge f)) p q = q
instances_decide all (Ok x) (Err (Meta f)) p q = q
instances_decide all (Ok x) (Err (Parts w)) p q = q
instances_decide all (Ok x) (Err (Fit w)) p q = q
instances_decide all (Ok x) (Err (ListTooLong w)) p q = q
instances_decide all (Ok x) (Err (Compile w)) p q = q
instances_decide all (Ok x) (Err (Script w)) p q = q
instances_decide all (Err TooLong) (Ok y) p q = omega (arith, q.within, p)
instances_decide all (Err (Mof e)) (Ok y) p q = p.1.unspelled y q
instances_decide all (Err (Merge e)) (Ok y) p q = p
instances_decide all (Err (Meta e)) (Ok y) p q = p
instances_decide all (Err (Parts w)) (Ok y) p q = p
instances_decide all (Err (Fit w)) (Ok y) p q = p
instances_decide all (Err (ListTooLong w)) (Ok y) p q = p
instances_decide all (Err (Compile w)) (Ok y) p q = p
instances_decide all (Err (Script w)) (Ok y) p q = p
instances_decide all (Err TooLong) (Err TooLong) p q = refl
instances_decide all (Err TooLong) (Err (Mof f)) p q = absurd (omega (arith, p, q.0))
instances_decide all (Err TooLong) (Err (Merge f)) p q = absurd q
instances_decide all (Err TooLong) (Err (Meta f)) p q = absurd q
instances_decide all (Err TooLong) (Err (Parts w)) p q = absurd q
instances_decide all (Err TooLong) (Err (Fit w)) p q = absurd q
instances_decide all (Err TooLong) (Err (ListTooLong w)) p q = absurd q
instances_decide all (Err TooLong) (Err (Compile w)) p q = absurd q
instances_decide all (Err TooLong) (Err (Script w)) p q = absurd q
instances_decide all (Err (Mof e)) (Err TooLong) p q = absurd (omega (arith, q, p.0))
instances_decide all (Err (Mof e)) (Err (Mof f)) p q =
    ap (λ (x : MofError). Mof x) (refuses_once all e f p.1.caused q.1.caused p.1.refused q.1.refused)
instances_decide all (Err (Mof e)) (Err (Merge f)) p q = absurd q
instances_decide all (Err (Mof e)) (Err (Meta f)) p q = absurd q
instances_decide all (Err (Mof e)) (Err (Parts w)) p q = absurd q
instances_decide all (Err (Mof e)) (Err (Fit w)) p q = absurd q
instances_decide all (Err (Mof e)) (Err (ListTooLong w)) p q = absurd q
instances_decide all (Err (Mof e)) (Err (Compile w)) p q = absurd q
instances_decide all (Err (Mof e)) (Err (Script w)) p q = absurd q
instances_decide all (Err (Merge e)) (Err f) p q = absurd p
instances_decide all (Err (Meta e)) (Err f) p q = absurd p
instances_decide all (Err (Parts w)) (Err f) p q = absurd p
instances_decide all (Err (Fit w)) (Err f) p q = absurd p
instances_decide all (Err (ListTooLong w)) (Err f) p q = absurd p
instances_decide all (Err (Compile w)) (Err f) p q = absurd p
instances_decide all (Err (Script w)) (Err f) p q = absurd p

-- a document is within the limit
document_fits : (all : List ℕ) (d : Document) → Merged (parts_of all) d → length all ≤ input_limit
document_fits all d merged = go merged.parts_are.are_joined.documents merged.parts_are.are_joined.whole
  where
    go : (documents : List Document) → AllZip IsWhole (parts_of all) documents → length all ≤ input_limit
    go [] whole = absurd whole
    go (first ∷ rest) whole = whole.0.spelled.within

pub document_decides : Decides ReadsDocument
document_decides all (Ok x) (Ok y) p q = tt
document_decides all (Ok x) (Err TooLong) p q = omega (arith, document_fits all x p, q)
document_decides all (Ok x) (Err (Mof f)) p q = q
document_decides all (Ok x) (Err (Merge f)) p q = never_both (parts_of all) x f q.cause p q.wins
document_decides all (Ok x) (Err (Meta f)) p q = q
document_decides all (Ok x) (Err (Parts w)) p q = q
document_decides all (Ok x) (Err (Fit w)) p q = q
document_decides all (Ok x) (Err (ListTooLong w)) p q = q
document_decides all (Ok x) (Err (Compile w)) p q = q
document_decides all (Ok x) (Err (Script w)) p q = q
document_decides all (Err TooLong) (Ok y) p q = omega (arith, document_fits all y q, p)
document_decides all (Err (Mof e)) (Ok y) p q = p
document_decides all (Err (Merge e)) (Ok y) p q = never_both (parts_of all) y e p.cause q p.wins
document_decides all (Err (Meta e)) (Ok y) p q = p
document_decides all (Err (Parts w)) (Ok y) p q = p
document_decides all (Err (Fit w)) (Ok y) p q = p
document_decides all (Err (ListTooLong w)) (Ok y) p q = p
document_decides all (Err (Compile w)) (Ok y) p q = p
document_decides all (Err (Script w)) (Ok y) p q = p
document_decides all (Err TooLong) (Err TooLong) p q = refl
document_decides all (Err TooLong) (Err (Mof f)) p q = absurd q
document_decides all (Err TooLong) (Err (Merge f)) p q = absurd (omega (arith, p, q.fits))
document_decides all (Err TooLong) (Err (Meta f)) p q = absurd q
document_decides all (Err TooLong) (Err (Parts w)) p q = absurd q
document_decides all (Err TooLong) (Err (Fit w)) p q = absurd q
document_decides all (Err TooLong) (Err (ListTooLong w)) p q = absurd q
document_decides all (Err TooLong) (Err (Compile w)) p q = absurd q
document_decides all (Err TooLong) (Err (Script w)) p q = absurd q
document_decides all (Err (Mof e)) (Err f) p q = absurd p
document_decides all (Err (Merge e)) (Err TooLong) p q = absurd (omega (arith, q, p.fits))
document_decides all (Err (Merge e)) (Err (Mof f)) p q = absurd q
document_decides all (Err (Merge e)) (Err (Meta f)) p q = absurd q
document_decides all (Err (Merge e)) (Err (Parts w)) p q = absurd q
document_decides all (Err (Merge e)) (Err (Fit w)) p q = absurd q
document_decides all (Err (Merge e)) (Err (ListTooLong w)) p q = absurd q
document_decides all (Err (Merge e)) (Err (Compile w)) p q = absurd q
document_decides all (Err (Merge e)) (Err (Script w)) p q = absurd q
document_decides all (Err (Meta e)) (Err f) p q = absurd p
document_decides all (Err (Parts w)) (Err f) p q = absurd p
document_decides all (Err (Fit w)) (Err f) p q = absurd p
document_decides all (Err (ListTooLong w)) (Err f) p q = absurd p
document_decides all (Err (Compile w)) (Err f) p q = absurd p
document_decides all (Err (Script w)) (Err f) p q = absurd p
document_decides all (Err (Merge e)) (Err (Merge f)) p q =
    ap (λ (x : MergeError). Merge x) (one_refusal (parts_of all) e f p.cause q.cause p.wins q.wins)

pub shown_decides : {A : Type 0} (reads : Reading A) (shows : A → List ℕ → Type 0) → Decides reads → Decides (Shows reads shows)
shown_decides reads shows decides all (Ok x) (Ok y) p q = tt
shown_decides reads shows decides all (Ok x) (Err f) p q = decides all (Ok p.0) (Err f) p.1 q
shown_decides reads shows decides all (Err e) (Ok y) p q = decides all (Err e) (Ok q.0) p q.1
shown_decides reads shows decides all (Err e) (Err f) p q = decides all (Err e) (Err f) p q

-- ---- what an input allows

-- what holds of each input that is read so holds of the source's
pub shown : {A : Type 0} (reads : List ℕ → A → Type 0) (answer : A) (left : Option (List ℕ)) (Q : List ℕ → Type 0)
    → ((all : List ℕ) → reads all answer → Q all) → IsInput reads left answer → IfSome left Q
shown reads answer None Q f a = tt
shown reads answer (Some all) Q f a = subst Q (sym a.input_is) (f a.all a.is_answer)

module _ {A : Type 0} (reads : Reading A) (decides : Decides reads) (left : Option (List ℕ)) (before now : ℕ) where
  pub each_used : (value : A) (status : Status) → UsesInput status before now → IsInput reads left (Ok value) → EachAllows reads left status before now
  each_used value status uses input = shown reads (Ok value) left (λ all. (answer : Result A InputError) → reads all answer → Allows answer status before now) (λ all is. each all is) input
    where
      each : (all : List ℕ) → reads all (Ok value) → (answer : Result A InputError) → reads all answer → Allows answer status before now
      each all is (Ok other) also = uses
      each all is (Err error) also = absurd (decides all (Ok value) (Err error) is also)

  pub each_refused : (error : InputError) → IsInput reads left (Err error) → EachAllows reads left (InputRefused error) before now
  each_refused error input = shown reads (Err error) left (λ all. (answer : Result A InputError) → reads all answer → Allows answer (InputRefused error) before now) (λ all is. each all is) input
    where
      each : (all : List ℕ) → reads all (Err error) → (answer : Result A InputError) → reads all answer → Allows answer (InputRefused error) before now
      each all is (Ok other) also = absurd (decides all (Err error) (Ok other) is also)
      each all is (Err other) also = decides all (Err error) (Err other) is also

pub each_failed : {A : Type 0} (reads : Reading A) (left : Option (List ℕ)) (before now : ℕ) → Rose before now → EachAllows reads left ReadFault before now
each_failed reads None before now rose = tt
each_failed {A} reads (Some all) before now rose = each
  where
    each : (answer : Result A InputError) → reads all answer → Allows answer ReadFault before now
    each (Ok value) is = rose
    each (Err error) is = rose

pub each_memory : {A : Type 0} (reads : Reading A) (left : Option (List ℕ)) (before now : ℕ) → EachAllows reads left Memory before now
each_memory reads None before now = tt
each_memory {A} reads (Some all) before now = each
  where
    each : (answer : Result A InputError) → reads all answer → Allows answer Memory before now
    each (Ok value) is = tt
    each (Err error) is = tt
