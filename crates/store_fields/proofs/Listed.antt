-- A list that is read element by element.
use Rattle.std.proofs.Common.{◌≡◌, ℕ, suc, ◌+◌, ◌<◌, ◌≤◌, List, [], ◌∷◌, ◌++◌, length, Result, Ok, Err, refl, sym, ap, ap₂, subst, ◌∙◌, arith, length-append, append_assoc}
use Rattle.std.specs.List.{flat_map, AllByRecursion}
use Rattle.std.proofs.lemmas.List.{append-nil, nil_from_length}
use Rattle.std.proofs.lemmas.List.Concat.{flat_map-cons, flat_map-append}
use Rattle.store_fields.specs.declared.error.FieldError.{FieldError}
use Rattle.store_fields.specs.declared.error.FieldError.TheVariants.{Wrong, Memory}
use Rattle.store_fields.specs.Fields.{bytes_of_byte, bytes_of_list, IsByte, IsList}
use Rattle.store_fields.specs.Reading.{Reads, IsTaken, IsUnique}
use Rattle.store_fields.proofs.Composing.{refused, out_of_memory, wrong}
use Rattle.store_fields.proofs.Texts.{byte_unique}

module _ {X : Type 0} (f : X → List ℕ) (R : X → Type 0) where
  -- what an element more adds to the bytes
  one_more : (xs : List X) (x : X) (rest : List ℕ) → flat_map f (xs ++ x ∷ []) ++ rest ≡ flat_map f xs ++ (f x ++ rest)
  one_more [] x rest = ap (λ (l : List ℕ). l ++ rest) (flat_map-cons f x [] ∙ append-nil (f x))
  one_more (y ∷ xs) x rest =
      ap (λ (l : List ℕ). l ++ rest) (flat_map-cons f y (xs ++ x ∷ [])) ∙ append_assoc (f y) (flat_map f (xs ++ x ∷ [])) rest
      ∙ ap (λ (l : List ℕ). f y ++ l) (one_more xs x rest)
      ∙ sym (append_assoc (f y) (flat_map f xs) (f x ++ rest)) ∙ ap (λ (l : List ℕ). l ++ (f x ++ rest)) (sym (flat_map-cons f y xs))

  all_push : (xs : List X) (x : X) → AllByRecursion R xs → R x → AllByRecursion R (xs ++ x ∷ [])
  all_push [] x all one = (one, tt)
  all_push (y ∷ xs) x all one = (all.0, all_push xs x all.1 one)

  -- the elements that were read, and that any list which stands there begins with them
  pub record ReadSoFar (count : ℕ) (start : List ℕ) (xs : List X) (now : List ℕ) : Type 0 where
    pub all : AllByRecursion R xs
    pub is : start ≡ flat_map f xs ++ now
    pub only : (ys : List X) (rest : List ℕ) → length ys ≡ count → AllByRecursion R ys → start ≡ flat_map f ys ++ rest
        → (more : List X) × ((ys ≡ xs ++ more) × (AllByRecursion R more × (now ≡ flat_map f more ++ rest)))

  pub begins : (count : ℕ) (start : List ℕ) → ReadSoFar count start [] start
  begins count start = record { all = tt; is = refl; only = λ ys rest long range is. (ys, (refl, (range, is))) }

  -- the element that is next, where one is
  first_of : (count : ℕ) (xs ys more : List X) (now rest : List ℕ) → length xs < count → length ys ≡ count → ys ≡ xs ++ more → AllByRecursion R more → now ≡ flat_map f more ++ rest
      → (y : X) × ((others : List X) × ((more ≡ y ∷ others) × (R y × (AllByRecursion R others × (now ≡ f y ++ (flat_map f others ++ rest))))))
  first_of count xs ys [] now rest less long is range stands = absurd (omega (arith, less, long, ap length is, length-append xs []))
  first_of count xs ys (y ∷ others) now rest less long is range stands =
      (y, (others, (refl, (range.0, (range.1, stands ∙ ap (λ (l : List ℕ). l ++ rest) (flat_map-cons f y others) ∙ append_assoc (f y) (flat_map f others) rest)))))

  pub goes_on : (count : ℕ) (start : List ℕ) (xs : List X) (now after : List ℕ) (x : X) → length xs < count → ReadSoFar count start xs now → Reads f R now after (Ok x) → ReadSoFar count start (xs ++ x ∷ []) after
  goes_on count start xs now after x less so_far one = record {
    all = all_push xs x so_far.all one.found.0;
    is = so_far.is ∙ ap (λ (l : List ℕ). flat_map f xs ++ l) one.found.1 ∙ sym (one_more xs x after);
    only = λ ys rest long range is.
        let before = so_far.only ys rest long range is in
        let next = first_of count xs ys before.0 now rest less long before.1.0 before.1.1.0 before.1.1.1 in
        let taken = one.only next.0 (flat_map f next.1.0 ++ rest) next.1.1.1.0 next.1.1.1.1.1 in
        (next.1.0, (before.1.0 ∙ ap (λ (l : List X). xs ++ l) (next.1.1.0 ∙ ap (λ (y : X). y ∷ next.1.0) (sym taken.0)) ∙ sym (append_assoc xs (x ∷ []) next.1.0), (next.1.1.1.1.0, taken.1)));
  }

  list_stands : (count : ℕ) (before start rest : List ℕ) (ys : List X) → Reads bytes_of_byte IsByte before start (Ok count) → IsList R ys → before ≡ bytes_of_list f ys ++ rest → (length ys ≡ count) × (start ≡ flat_map f ys ++ rest)
  list_stands count before start rest ys number range is =
      let taken = number.only (length ys) (flat_map f ys ++ rest) range.0 is in
      (sym taken.0, taken.1)

  pub fails : (count : ℕ) (before start : List ℕ) (xs : List X) (now end after : List ℕ) (e : FieldError) → Reads bytes_of_byte IsByte before start (Ok count) → length xs < count → ReadSoFar count start xs now → Reads f R now end (Err e)
      → Reads (bytes_of_list f) (IsList R) before after (Err e)
  fails count before start xs now end after e number less so_far one =
      refused (bytes_of_list f) (IsList R) f R before after now end e one (λ ys rest range is.
      let stands = list_stands count before start rest ys number range is in
      let so = so_far.only ys rest stands.0 range.1 stands.1 in
      let next = first_of count xs ys so.0 now rest less stands.0 so.1.0 so.1.1.0 so.1.1.1 in
      (next.0, (_, (next.1.1.1.0, next.1.1.1.1.1))))

  pub ends : (count : ℕ) (before start : List ℕ) (xs : List X) (now : List ℕ) → Reads bytes_of_byte IsByte before start (Ok count) → length xs ≡ count → ReadSoFar count start xs now → Reads (bytes_of_list f) (IsList R) before now (Ok xs)
  ends count before start xs now number long so_far = record {
    found = (
      (subst IsByte (sym long) number.found.0, so_far.all),
      number.found.1 ∙ ap₂ (λ (n : ℕ) (l : List ℕ). n ∷ l) (sym long) so_far.is,
    );
    only = λ ys rest range is.
        let stands = list_stands count before start rest ys number range is in
        let so = so_far.only ys rest stands.0 range.1 stands.1 in
        let none : so.0 ≡ [] = nil_from_length so.0 (omega (arith, long, stands.0, ap length so.1.0, length-append xs so.0)) in
        (sym (so.1.0 ∙ ap (λ (l : List X). xs ++ l) none ∙ append-nil xs), so.1.1.1 ∙ ap (λ (l : List X). flat_map f l ++ rest) none);
  }

  pub no_count : (before end after : List ℕ) (e : FieldError) → Reads bytes_of_byte IsByte before end (Err e) → Reads (bytes_of_list f) (IsList R) before after (Err e)
  no_count before end after e number = refused (bytes_of_list f) (IsList R) bytes_of_byte IsByte before after before end e number (λ ys rest range is. (length ys, (flat_map f ys ++ rest, (range.0, is))))

  -- lists with the same bytes are the same
  elements_unique : IsUnique f R → (xs ys : List X) (r s : List ℕ) → length xs ≡ length ys → AllByRecursion R xs → AllByRecursion R ys → flat_map f xs ++ r ≡ flat_map f ys ++ s → (xs ≡ ys) × (r ≡ s)
  elements_unique unique [] [] r s long one other e = (refl, e)
  elements_unique unique [] (y ∷ ys) r s long one other e = absurd (omega (arith, long))
  elements_unique unique (x ∷ xs) [] r s long one other e = absurd (omega (arith, long))
  elements_unique unique (x ∷ xs) (y ∷ ys) r s long one other e =
      let left = ap (λ (l : List ℕ). l ++ r) (flat_map-cons f x xs) ∙ append_assoc (f x) (flat_map f xs) r in
      let right = ap (λ (l : List ℕ). l ++ s) (flat_map-cons f y ys) ∙ append_assoc (f y) (flat_map f ys) s in
      let first = unique x y (flat_map f xs ++ r) (flat_map f ys ++ s) one.0 other.0 (sym left ∙ e ∙ right) in
      let others = elements_unique unique xs ys r s (omega (arith, long)) one.1 other.1 first.1 in
      (ap₂ (λ (z : X) (zs : List X). z ∷ zs) first.0 others.0, others.1)

  pub list_unique : IsUnique f R → IsUnique (bytes_of_list f) (IsList R)
  list_unique unique xs ys r s one other e =
      let count = byte_unique (length xs) (length ys) (flat_map f xs ++ r) (flat_map f ys ++ s) one.0 other.0 e in
      elements_unique unique xs ys r s count.0 one.1 other.1 count.1
