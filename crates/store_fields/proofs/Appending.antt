-- Fields that are appended one after the other.
use Rattle.std.proofs.Common.{◌≡◌, ℕ, ◌+◌, ◌≤◌, List, [], ◌∷◌, ◌++◌, length, Result, Ok, Err, refl, sym, ap, ◌∙◌, arith, length-append, append_assoc}
use Rattle.std.specs.Prelude.{IsErrAnd, vec_len, vec_capacity}
use Rattle.std.proofs.lemmas.Result.{err_from_is_err_and}
use Rattle.std.specs.Global.{Vec}
use Rattle.std.proofs.lemmas.List.{append-nil}
use Rattle.store_fields.specs.Writing.{Writes}

pub both : {D E : Type 0} (a b : List ℕ) (before mid after : Vec ℕ) (r : Result Unit E) → Writes {E = D} a before mid (Ok tt) → Writes b mid after r → Writes (a ++ b) before after r
both a b before mid after (Ok u) one other =
    let all = other.items ∙ ap (λ (l : List ℕ). l ++ b) one.items ∙ append_assoc before.items a b in
    record {
      items = all;
      front = (a ++ b, all);
      len = omega (arith, one.len, other.len, length-append a b);
      capacity = omega (arith, one.capacity, other.capacity);
      succeeds = λ capacity. refl;
    }
both a b before mid after (Err e) one other = record {
  items = tt;
  front = (a ++ other.front.0, other.front.1 ∙ ap (λ (l : List ℕ). l ++ other.front.0) one.items ∙ append_assoc before.items a other.front.0);
  len = tt;
  capacity = omega (arith, one.capacity, other.capacity);
  succeeds = λ capacity. other.succeeds (omega (arith, capacity, one.len, one.capacity, length-append a b));
}

-- what failed is the front of what is to be written
pub cut : {D E : Type 0} (a more : List ℕ) (before after : Vec ℕ) (e : D) (f : E) → Writes a before after (Err e) → Writes (a ++ more) before after (Err f)
cut a more before after e f one = record {
  items = tt;
  front = one.front;
  len = tt;
  capacity = one.capacity;
  succeeds = λ capacity. one.succeeds (omega (arith, capacity, length-append a more));
}

-- nothing to write
pub nothing : {E : Type 0} (before : Vec ℕ) → Writes {E = E} [] before before (Ok tt)
nothing before = record {
  items = sym (append-nil before.items);
  front = ([], sym (append-nil before.items));
  len = omega arith;
  capacity = omega arith;
  succeeds = λ capacity. refl;
}

-- what was written of the whole, and what is left of it
pub record WrittenSoFar (whole left : List ℕ) (before now : Vec ℕ) : Type 0 where
  pub done : List ℕ
  pub is : whole ≡ done ++ left
  pub writes : Writes {E = Unit} done before now (Ok tt)

pub begins : (whole : List ℕ) (before : Vec ℕ) → WrittenSoFar whole whole before before
begins whole before = record { done = []; is = refl; writes = nothing before }

pub goes_on : {E : Type 0} (whole next left : List ℕ) (before now after : Vec ℕ) → WrittenSoFar whole (next ++ left) before now → Writes {E = E} next now after (Ok tt) → WrittenSoFar whole left before after
goes_on {E = E} whole next left before now after so_far one = record {
  done = so_far.done ++ next;
  is = so_far.is ∙ sym (append_assoc so_far.done next left);
  writes = both so_far.done next before now after (Ok tt) so_far.writes (ok one);
}
  where
    ok : Writes {E = E} next now after (Ok tt) → Writes {E = Unit} next now after (Ok tt)
    ok w = record { items = w.items; front = w.front; len = w.len; capacity = w.capacity; succeeds = w.succeeds }

pub fails : {D E : Type 0} (whole next left : List ℕ) (before now after : Vec ℕ) (e : D) (f : E) → WrittenSoFar whole (next ++ left) before now → Writes next now after (Err e) → Writes whole before after (Err f)
fails whole next left before now after e f so_far one =
    rw (so_far.is) (both so_far.done (next ++ left) before now after (Err f) so_far.writes (cut next left now after e f one))

pub ends : {E : Type 0} (whole : List ℕ) (before now : Vec ℕ) → WrittenSoFar whole [] before now → Writes {E = E} whole before now (Ok tt)
ends whole before now so_far =
    let w = so_far.writes in
    let is : whole ≡ so_far.done = so_far.is ∙ append-nil so_far.done in
    rw is (record { items = w.items; front = w.front; len = w.len; capacity = w.capacity; succeeds = w.succeeds })

-- the exit of a `?`
pub exit : {E : Type 0} (P : E → Type 0) (bytes : List ℕ) (before after : Vec ℕ) (r : Result Unit E) → IsErrAnd r P → ((e : E) → Writes bytes before after (Err e)) → Writes bytes before after r
exit P bytes before after r is writes =
    let p = err_from_is_err_and r is in
    rw p.1 (writes p.0)
