-- Bytes that are all of one value's.
use Rattle.std.proofs.Common.{◌≡◌, List, ℕ, [], ◌++◌, Ok, Err, sym, ap, subst, ◌∙◌}
use Rattle.std.proofs.lemmas.List.{append-nil}
use Rattle.store_fields.specs.declared.error.FieldError.{FieldError}
use Rattle.store_fields.specs.declared.error.FieldError.TheVariants.{Wrong}
use Rattle.store_fields.specs.Reading.{Reads, IsUnique}
use Rattle.node_store.specs.Bodies.{IsWhole}

module _ {X : Type 0} (f : X → List ℕ) (R : X → Type 0) where
  -- a value was read, and nothing is left
  pub whole : (bytes after : List ℕ) (x : X) → Reads f R bytes after (Ok x) → after ≡ [] → IsWhole f R bytes x
  whole bytes after x reads none = record {
    in_range = reads.found.0;
    is = reads.found.1 ∙ ap (λ (l : List ℕ). f x ++ l) none ∙ append-nil (f x);
  }

  stands : (bytes : List ℕ) (x : X) → IsWhole f R bytes x → bytes ≡ f x ++ []
  stands bytes x w = w.is ∙ sym (append-nil (f x))

  -- no value stands in front
  pub none_whole : (bytes after : List ℕ) (e : FieldError) (x : X) → e ≡ Wrong → Reads f R bytes after (Err e) → IsWhole f R bytes x → ⊥
  none_whole bytes after e x same reads w = (subst (λ (d : FieldError). Reads f R bytes after (Err d)) same reads).only x [] w.in_range (stands bytes x w)

  -- a value was read, and something is left
  pub more_left : (bytes after : List ℕ) (y x : X) → Reads f R bytes after (Ok y) → (after ≡ [] → ⊥) → IsWhole f R bytes x → ⊥
  more_left bytes after y x reads some w = some (reads.only x [] w.in_range (stands bytes x w)).1

  pub one_whole : IsUnique f R → (bytes : List ℕ) (x y : X) → IsWhole f R bytes x → IsWhole f R bytes y → x ≡ y
  one_whole unique bytes x y a b = (unique x y [] [] a.in_range b.in_range (sym (stands bytes x a) ∙ stands bytes y b)).0

  -- no value was read in front, so none stands there
  pub no_front : (bytes after : List ℕ) (e : FieldError) (x : X) (more : List ℕ) → e ≡ Wrong → Reads f R bytes after (Err e) → R x → bytes ≡ f x ++ more → ⊥
  no_front bytes after e x more same reads range is = (subst (λ (d : FieldError). Reads f R bytes after (Err d)) same reads).only x more range is

  pub at_rest : (bytes more : List ℕ) (x : X) → bytes ≡ more → IsWhole f R more x → IsWhole f R bytes x
  at_rest bytes more x same w = record { in_range = w.in_range; is = same ∙ w.is }
