-- How the readers of fields make the reader of what is made of them.
use Rattle.std.proofs.Common.{◌≡◌, List, ℕ, ◌++◌, Result, Ok, Err, sym, ◌∙◌}
use Rattle.std.specs.Prelude.{IsErrAnd}
use Rattle.std.proofs.lemmas.Result.{err_from_is_err_and}
use Rattle.store_fields.specs.declared.error.FieldError.{FieldError}
use Rattle.store_fields.specs.declared.error.FieldError.TheVariants.{Wrong, Memory}
use Rattle.store_fields.specs.Reading.{Reads, IsTaken, IsUnique}

module _ {Y : Type 0} (g : Y → List ℕ) (Q : Y → Type 0) where
  -- a value that stands in front is what was read, where the bytes say which value it is
  pub taken : (before after : List ℕ) (y : Y) → IsUnique g Q → Q y → before ≡ g y ++ after → Reads g Q before after (Ok y)
  taken before after y unique range is = record {
    found = (range, is);
    only = λ other rest range_too is_too. unique y other after rest range range_too (sym is ∙ is_too);
  }

  pub out_of_memory : (before after : List ℕ) → Reads g Q before after (Err Memory)
  out_of_memory before after = record { found = tt; only = λ y rest range is. tt }

  pub wrong : (before after : List ℕ) → ((y : Y) (rest : List ℕ) → Q y → before ≡ g y ++ rest → ⊥) → Reads g Q before after (Err Wrong)
  wrong before after none = record { found = tt; only = none }

  -- the field failed, and it stands somewhere in what is made of it
  pub refused : {X : Type 0} (f : X → List ℕ) (R : X → Type 0) (before after mid end : List ℕ) (e : FieldError) → Reads f R mid end (Err e)
      → ((y : Y) (rest : List ℕ) → Q y → before ≡ g y ++ rest → (x : X) × ((more : List ℕ) × (R x × (mid ≡ f x ++ more)))) → Reads g Q before after (Err e)
  refused f R before after mid end Wrong reads stands = record {
    found = tt;
    only = λ y rest range is. let field = stands y rest range is in reads.only field.0 field.1.0 field.1.1.0 field.1.1.1;
  }
  refused f R before after mid end Memory reads stands = out_of_memory before after

  -- the same at a `?`
  pub exit : {X : Type 0} (f : X → List ℕ) (R : X → Type 0) (before after mid end : List ℕ) (e : FieldError) (r : Result Y FieldError) → IsErrAnd r (λ (error : FieldError). error ≡ e) → Reads f R mid end (Err e)
      → ((y : Y) (rest : List ℕ) → Q y → before ≡ g y ++ rest → (x : X) × ((more : List ℕ) × (R x × (mid ≡ f x ++ more)))) → Reads g Q before after r
  exit f R before after mid end e r is reads stands =
      let p = err_from_is_err_and r is in
      rw (p.1, p.2) (refused f R before after mid end e reads stands)
