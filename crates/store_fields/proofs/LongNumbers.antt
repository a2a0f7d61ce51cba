-- A number of 16 bytes is two of 8.
use Rattle.std.proofs.Common.{◌≡◌, ℕ, ◌+◌, ◌*◌, ◌/◌, ◌%◌, ◌^◌, ◌<◌, List, [], ◌∷◌, ◌++◌, Ok, Err, refl, sym, ap, ap₂, subst, ◌∙◌, arith, append_assoc}
use Rattle.std.specs.Int.{w64, w128}
use Rattle.store_fields.specs.declared.error.FieldError.TheVariants.{Wrong}
use Rattle.store_fields.specs.Fields.{bytes_of_number, IsNumber}
use Rattle.store_fields.specs.Reading.{Reads, IsUnique}
use Rattle.store_fields.proofs.Numbers.{wide64, number_unique}
use Rattle.store_fields.proofs.Composing.{taken, wrong, refused}

next : {a b : ℕ} {l m : List ℕ} → a ≡ b → l ≡ m → a ∷ l ≡ b ∷ m
next one rest = ap₂ (λ (x : ℕ) (xs : List ℕ). x ∷ xs) one rest

pub long_is : (high low : ℕ) → high < 2 ^ 64 → low < 2 ^ 64 → bytes_of_number w128 (high * 18446744073709551616 + low) ≡ bytes_of_number w64 high ++ bytes_of_number w64 low
unfolding bytes_of_number
long_is high low one other =
    next (omega arith)
    (next (omega arith)
    (next (omega arith)
    (next (omega arith)
    (next (omega arith)
    (next (omega arith)
    (next (omega arith)
    (next (omega arith)
    (next (omega arith)
    (next (omega arith)
    (next (omega arith)
    (next (omega arith)
    (next (omega arith)
    (next (omega arith)
    (next (omega arith)
    (next (omega arith) refl)))))))))))))))

pub long_unique : IsUnique (bytes_of_number w128) (IsNumber w128)
long_unique n m r s small less e =
    let nh = n / 18446744073709551616 in
    let nl = n % 18446744073709551616 in
    let mh = m / 18446744073709551616 in
    let ml = m % 18446744073709551616 in
    let n_is : n ≡ nh * 18446744073709551616 + nl = omega arith in
    let m_is : m ≡ mh * 18446744073709551616 + ml = omega arith in
    let n_high : nh < 2 ^ 64 = omega (arith, small) in
    let m_high : mh < 2 ^ 64 = omega (arith, less) in
    let n_low : nl < 2 ^ 64 = omega arith in
    let m_low : ml < 2 ^ 64 = omega arith in
    let n_bytes = ap (bytes_of_number w128) n_is ∙ long_is nh nl n_high n_low in
    let m_bytes = ap (bytes_of_number w128) m_is ∙ long_is mh ml m_high m_low in
    let n_all = ap (λ (l : List ℕ). l ++ r) n_bytes ∙ append_assoc (bytes_of_number w64 nh) (bytes_of_number w64 nl) r in
    let m_all = ap (λ (l : List ℕ). l ++ s) m_bytes ∙ append_assoc (bytes_of_number w64 mh) (bytes_of_number w64 ml) s in
    let high = number_unique w64 wide64 nh mh _ _ n_high m_high (sym n_all ∙ e ∙ m_all) in
    let low = number_unique w64 wide64 nl ml r s n_low m_low high.1 in
    (n_is ∙ ap₂ (λ (h l : ℕ). h * 18446744073709551616 + l) high.0 low.0 ∙ sym m_is, low.1)

pub long_read : (before rest after : List ℕ) (high low : ℕ) → Reads (bytes_of_number w64) (IsNumber w64) before rest (Ok high) → Reads (bytes_of_number w64) (IsNumber w64) rest after (Ok low)
    → Reads (bytes_of_number w128) (IsNumber w128) before after (Ok (high * 18446744073709551616 + low))
long_read before rest after high low one other =
    let h : high < 2 ^ 64 = one.found.0 in
    let l : low < 2 ^ 64 = other.found.0 in
    taken (bytes_of_number w128) (IsNumber w128) before after _ long_unique (omega arith)
    (one.found.1 ∙ ap (λ (l : List ℕ). bytes_of_number w64 high ++ l) other.found.1 ∙ sym (append_assoc (bytes_of_number w64 high) (bytes_of_number w64 low) after) ∙ ap (λ (l : List ℕ). l ++ after) (sym (long_is high low h l)))

-- the two halves of a number that stands in front
halves : (before rest : List ℕ) (n : ℕ) → IsNumber w128 n → before ≡ bytes_of_number w128 n ++ rest
    → (h : ℕ) × ((l : ℕ) × (IsNumber w64 h × (IsNumber w64 l × (before ≡ bytes_of_number w64 h ++ (bytes_of_number w64 l ++ rest)))))
halves before rest n small is =
    let h = n / 18446744073709551616 in
    let l = n % 18446744073709551616 in
    let n_is : n ≡ h * 18446744073709551616 + l = omega arith in
    let high : h < 2 ^ 64 = omega (arith, small) in
    let low : l < 2 ^ 64 = omega arith in
    (h, (l, (high, (low, is ∙ ap (λ (k : ℕ). bytes_of_number w128 k ++ rest) n_is ∙ ap (λ (b : List ℕ). b ++ rest) (long_is h l high low) ∙ append_assoc (bytes_of_number w64 h) (bytes_of_number w64 l) rest))))

pub long_missing : (before after end : List ℕ) → Reads (bytes_of_number w64) (IsNumber w64) before end (Err Wrong) → Reads (bytes_of_number w128) (IsNumber w128) before after (Err Wrong)
long_missing before after end high =
    refused (bytes_of_number w128) (IsNumber w128) (bytes_of_number w64) (IsNumber w64) before after before end Wrong high (λ n rest small is.
    let both = halves before rest n small is in
    (both.0, (_, (both.1.1.0, both.1.1.1.1))))

pub long_missing_low : (before remaining after end : List ℕ) (high : ℕ) → Reads (bytes_of_number w64) (IsNumber w64) before remaining (Ok high) → Reads (bytes_of_number w64) (IsNumber w64) remaining end (Err Wrong)
    → Reads (bytes_of_number w128) (IsNumber w128) before after (Err Wrong)
long_missing_low before remaining after end high one low =
    refused (bytes_of_number w128) (IsNumber w128) (bytes_of_number w64) (IsNumber w64) before after remaining end Wrong low (λ n rest small is.
    let both = halves before rest n small is in
    (both.1.0, (rest, (both.1.1.1.0, (one.only both.0 _ both.1.1.0 both.1.1.1.1).1))))
