-- What an option of a text holds.
use Rattle.std.proofs.Common.{◌≡◌, ℕ, Bool, true, false, List, Option, Some, None, Result, Ok, Err, sym, subst, Bor}
use Rattle.std.specs.Prelude.{IfSome, IfNone, IfOk, IsTrue}
use Rattle.std.specs.Str.{chars}
use Rattle.mof_syntax.specs.Scanning.{left_of}

pub if_some : (o : Option (Bor (List ℕ))) (f : Option (List ℕ)) (P : List ℕ → Type 0) → left_of o ≡ f → ((rest : List ℕ) → f ≡ Some rest → P rest) → IfSome o (λ b. P (chars b.now))
if_some None f P e from = tt
if_some (Some b) f P e from = from (chars b.now) (sym e)

pub if_none : (o : Option (Bor (List ℕ))) (f : Option (List ℕ)) (Q : Type 0) → left_of o ≡ f → (f ≡ None → Q) → IfNone o Q
if_none (Some b) f Q e from = tt
if_none None f Q e from = from (sym e)

pub of_some : {A : Type 0} (o : Option A) (x : A) (P : A → Type 0) → o ≡ Some x → IfSome o P → P x
of_some {A = A} o x P e h = given (subst (λ (y : Option A). IfSome y P) e h)
  where
    given : IfSome (Some x) P → P x
    given g = g

pub of_none : {A : Type 0} (o : Option A) (Q : Type 0) → o ≡ None → IfNone o Q → Q
of_none None Q e h = h
of_none (Some x) Q e h = absurd cc

pub map_some : {A : Type 0} (o : Option A) (P Q : A → Type 0) → ((x : A) → P x → Q x) → IfSome o P → IfSome o Q
map_some None P Q f h = tt
map_some (Some x) P Q f h = f x h

pub map_none : {A : Type 0} (o : Option A) (P Q : Type 0) → (P → Q) → IfNone o P → IfNone o Q
map_none None P Q f h = f h
map_none (Some x) P Q f h = tt

pub untrue : (b : Bool) → IsTrue b → b ≡ false → ⊥
untrue true h e = absurd cc
untrue false h e = absurd cc

pub map_ok : {A F : Type 0} (r : Result A F) (P Q : A → Type 0) → ((x : A) → P x → Q x) → IfOk r P → IfOk r Q
map_ok (Ok x) P Q f h = f x h
map_ok (Err e) P Q f h = tt
