-- Parts after separators, and parts one after the other.
use Rattle.std.proofs.Common.{◌≡◌, ◌<◌, ℕ, List, [], ◌∷◌, ◌++◌, length, arith}
use Rattle.std.specs.List.{AllByRecursion}
use Rattle.mof_syntax.specs.Separators.{Separators}
use Rattle.mof_syntax.specs.Tokens.{Lexeme}
use Rattle.mof_codec.specs.Reading.{Begins, Only, BeginsWith, Lacks}
use Rattle.mof_codec.proofs.TokenFronts.{skip_on, skip_only}

-- separators before a part change nothing

pub begins_after : (D : List Lexeme → List Lexeme → Type 0) (cs left rest : List ℕ) → Separators cs left → Begins D left rest → Begins D cs rest
begins_after D cs left rest s b = record {
  on = λ ts l. let x = b.on ts l in (x.0, skip_on cs left x.0 s x.1, x.2);
  only = λ us l. b.only us (skip_only cs left us s l);
}

pub reads_after : {A : Type 0} (Rule : List Lexeme → A → List Lexeme → Type 0) (Fits : A → Type 0) (cs left : List ℕ) (a : A) (rest : List ℕ)
    → Separators cs left → BeginsWith Rule Fits left a rest → BeginsWith Rule Fits cs a rest
reads_after Rule Fits cs left a rest s r = record { fits = r.fits; begins = begins_after (λ us ts. Only Rule us a ts) cs left rest s r.begins }

pub lacks_after : {A : Type 0} (Rule : List Lexeme → A → List Lexeme → Type 0) (Fits : A → Type 0) (cs left : List ℕ)
    → Separators cs left → Lacks Rule Fits left → Lacks Rule Fits cs
lacks_after Rule Fits cs left s lacks us ts a n l r f = lacks us ts a n (skip_only cs left us s l) r f

-- each part of a list

pub all_push : {A : Type 0} (P : A → Type 0) (xs : List A) (x : A) → AllByRecursion P xs → P x → AllByRecursion P (xs ++ x ∷ [])
all_push P [] x a p = (p, tt)
all_push P (y ∷ ys) x a p = (a.0, all_push P ys x a.1 p)

pub all_at : {A : Type 0} (P : A → Type 0) (xs : List A) (x : A) (ys : List A) → AllByRecursion P (xs ++ x ∷ ys) → P x
all_at P [] x ys a = a.0
all_at P (z ∷ zs) x ys a = all_at P zs x ys a.1

pub more_than : {A : Type 0} (xs : List A) (x : A) (ys : List A) → length xs < length (xs ++ x ∷ ys)
more_than [] x ys = omega arith
more_than (z ∷ zs) x ys = omega (arith, more_than zs x ys)
