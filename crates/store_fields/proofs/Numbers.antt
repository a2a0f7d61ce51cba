-- Numbers and other fields of one length.
use Rattle.std.proofs.Common.{◌≡◌, ℕ, zero, suc, ◌+◌, ◌^◌, ◌<◌, ◌≤◌, inl, inr, List, [], ◌∷◌, ◌++◌, length, get_or, take, drop, Ok, Err, refl, sym, ap, subst, ◌∙◌, arith, length-append}
use Rattle.std.specs.Int.{Width, w16, w32, w64, byte_len, from_be_bytes, to_be_bytes}
use Rattle.std.proofs.lemmas.List.{take_at, drop_at, take-append-drop, length-take-le, get_or-take, get_or_past}
use Rattle.std.proofs.lemmas.Bool.{cases_lt}
use Rattle.std.proofs.lemmas.Nat.{be_bytes_2, be_bytes_4, be_bytes_8, from_be_bytes-to_be_bytes_2, from_be_bytes-to_be_bytes_4, from_be_bytes-to_be_bytes_8}
use Rattle.store_fields.specs.declared.error.FieldError.{FieldError}
use Rattle.store_fields.specs.declared.error.FieldError.TheVariants.{Wrong}
use Rattle.store_fields.specs.Fields.{bytes_of_number, bytes_of_digest, IsNumber, IsDigest}
use Rattle.store_fields.specs.Reading.{Reads}

abbrev pub IsBytes : List ℕ → Type 0
IsBytes bytes = (i : ℕ) → get_or bytes i 0 < 256

IsBytes-take : (n : ℕ) (bytes : List ℕ) → IsBytes bytes → IsBytes (take n bytes)
IsBytes-take n bytes h i =
    elim (cases_lt i n) [
      | inl lt ↦ rw (get_or-take n bytes i 0 lt) (h i)
      | inr le ↦ rw (get_or_past (take n bytes) i 0 (omega (arith, length-take-most n bytes))) (omega arith)
    ]
  where
    length-take-most : (n : ℕ) (l : List ℕ) → length (take n l) ≤ n
    length-take-most zero l = omega arith
    length-take-most (suc n) [] = omega arith
    length-take-most (suc n) (x ∷ l) = omega (arith, length-take-most n l)

-- what stands after a front of that length
pub same_halves : (p q r s : List ℕ) → length p ≡ length q → p ++ r ≡ q ++ s → (p ≡ q) × (r ≡ s)
same_halves p q r s len e = (
  sym (take_at p r (length p) refl) ∙ ap (take (length p)) e ∙ take_at q s (length p) (sym len),
  sym (drop_at p r (length p) refl) ∙ ap (drop (length p)) e ∙ drop_at q s (length p) (sym len),
)

-- a width whose numbers are read back
pub record IsWide (w : Width) : Type 0 where
  pub len : (n : ℕ) → length (to_be_bytes w n) ≡ byte_len w
  pub back : (bytes : List ℕ) → length bytes ≡ byte_len w → IsBytes bytes → to_be_bytes w (from_be_bytes w bytes) ≡ bytes
  pub again : (n : ℕ) → IsNumber w n → from_be_bytes w (to_be_bytes w n) ≡ n
  pub below : (bytes : List ℕ) → IsBytes bytes → IsNumber w (from_be_bytes w bytes)

pub wide16 : IsWide w16
wide16 = record {
  len = λ n. refl;
  back = λ bytes len fits. be_bytes_2 bytes _ len fits refl;
  again = λ n lt. from_be_bytes-to_be_bytes_2 n lt;
  below = λ bytes fits. omega (arith, fits 0, fits 1);
}

pub wide32 : IsWide w32
wide32 = record {
  len = λ n. refl;
  back = λ bytes len fits. be_bytes_4 bytes _ len fits refl;
  again = λ n lt. from_be_bytes-to_be_bytes_4 n lt;
  below = λ bytes fits. omega (arith, fits 0, fits 1, fits 2, fits 3);
}

pub wide64 : IsWide w64
wide64 = record {
  len = λ n. refl;
  back = λ bytes len fits. be_bytes_8 bytes _ len fits refl;
  again = λ n lt. from_be_bytes-to_be_bytes_8 n lt;
  below = λ bytes fits. omega (arith, fits 0, fits 1, fits 2, fits 3, fits 4, fits 5, fits 6, fits 7);
}

pub number_unique : (w : Width) → IsWide w → (n m : ℕ) (r s : List ℕ) → IsNumber w n → IsNumber w m → bytes_of_number w n ++ r ≡ bytes_of_number w m ++ s → (n ≡ m) × (r ≡ s)
unfolding bytes_of_number
number_unique w wide n m r s small less e =
    let both = same_halves (to_be_bytes w n) (to_be_bytes w m) r s (wide.len n ∙ sym (wide.len m)) e in
    (sym (wide.again n small) ∙ ap (from_be_bytes w) both.0 ∙ wide.again m less, both.1)

spelling : (w : Width) (n : ℕ) (front part : List ℕ) → n ≡ from_be_bytes w part → to_be_bytes w (from_be_bytes w part) ≡ part → bytes_of_number w n ≡ part
unfolding bytes_of_number
spelling w n front part has back = ap (to_be_bytes w) has ∙ back

pub number_read : (w : Width) → IsWide w → (before front after : List ℕ) (n : ℕ) → IsBytes before → byte_len w ≤ length before → front ≡ take (byte_len w) before → after ≡ drop (byte_len w) before
    → n ≡ from_be_bytes w front → Reads (bytes_of_number w) (IsNumber w) before after (Ok n)
number_read w wide before front after n fits long is rest value =
    let part : List ℕ = take (byte_len w) before in
    let small : IsBytes part = IsBytes-take (byte_len w) before fits in
    let has : n ≡ from_be_bytes w part = value ∙ ap (from_be_bytes w) is in
    let range : IsNumber w n = subst (IsNumber w) (sym has) (wide.below part small) in
    let spelled : bytes_of_number w n ≡ part = spelling w n front part has (wide.back part (length-take-le (byte_len w) before long) small) in
    let all : before ≡ bytes_of_number w n ++ after = sym (take-append-drop (byte_len w) before) ∙ ap (λ (l : List ℕ). l ++ drop (byte_len w) before) (sym spelled) ∙ ap (λ (l : List ℕ). bytes_of_number w n ++ l) (sym rest) in
    record {
      found = (range, all);
      only = λ m s less e. number_unique w wide n m after s range less (sym all ∙ e);
    }

pub number_missing : (w : Width) → IsWide w → (before after : List ℕ) → length before < byte_len w → Reads (bytes_of_number w) (IsNumber w) before after (Err Wrong)
unfolding bytes_of_number
number_missing w wide before after short = record {
  found = tt;
  only = λ n rest range e. absurd (omega (arith, short, wide.len n, length-append (to_be_bytes w n) rest, ap length e));
}

-- ---- digests

pub digest_unique : (x y r s : List ℕ) → IsDigest x → IsDigest y → bytes_of_digest x ++ r ≡ bytes_of_digest y ++ s → (x ≡ y) × (r ≡ s)
digest_unique x y r s one other e = same_halves x y r s (one ∙ sym other) e

pub digest_read : (before front after : List ℕ) → 32 ≤ length before → front ≡ take 32 before → after ≡ drop 32 before → Reads bytes_of_digest IsDigest before after (Ok front)
digest_read before front after long is rest =
    let all : before ≡ front ++ after = sym (take-append-drop 32 before) ∙ ap (λ (l : List ℕ). l ++ drop 32 before) (sym is) ∙ ap (λ (l : List ℕ). front ++ l) (sym rest) in
    let len : IsDigest front = ap length is ∙ length-take-le 32 before long in
    record {
      found = (len, all);
      only = λ x s other e. digest_unique front x after s len other (sym all ∙ e);
    }

pub digest_missing : (before after : List ℕ) → length before < 32 → Reads bytes_of_digest IsDigest before after (Err Wrong)
digest_missing before after short = record {
  found = tt;
  only = λ x rest len e. absurd (omega (arith, short, len, length-append x rest, ap length e));
}
