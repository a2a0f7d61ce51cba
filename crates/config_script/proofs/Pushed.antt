-- What is written piece by piece.
use Rattle.std.proofs.Common.{◌≡◌, ◌≤◌, ◌<◌, ◌+◌, ◌*◌, ◌/◌, ◌%◌, ℕ, zero, suc, Bool, true, false, nat_lt, List, [], ◌∷◌, ◌++◌, refl, sym, ap, subst, ◌∙◌, append_assoc, append-nil, codes, encode_utf8_all, pos, neg_ℤ, cond, arith}
use Rattle.std.specs.Prelude.{◌==◌}
use Rattle.std.specs.List.{flat_map}
use Rattle.std.specs.Str.{chars, IsUtf8}
use Rattle.std.specs.Str.Parse.{digits_value}
use Rattle.std.proofs.lemmas.Bool.Decides.{nat_tests}
use Rattle.std.proofs.lemmas.Str.{encodes-append, encodes-chars}
use Rattle.mof_syntax.specs.Canonical.{literal_char, canonical_instance}
use Rattle.mof_syntax.specs.Numerals.{numeral, signed_numeral}
use Rattle.mof_syntax.proofs.Numerals.{numeral_digit, numeral_step}
use Rattle.mof_codec.specs.Written.{Adds}
use Rattle.mof_codec.proofs.Writing.{adds_join}
use Rattle.config_script.specs.Denoting.{header}
use Rattle.config_script.specs.Digits.{IsPlain, signed}
use Rattle.config_script.specs.Places.{Event}
use Rattle.config_script.specs.Writing.{named_after, named_text, sign_of, title_after, written}

-- three pieces
pub adds_three : (before one two after a b c : List ℕ) → Adds before one a → Adds one two b → Adds two after c → Adds before after (a ++ (b ++ c))
adds_three before one two after a b c x y z = adds_join before one after a (b ++ c) x (adds_join one two after b c y z)

pub adds_text : (before after text : List ℕ) → IsUtf8 text → after ≡ before ++ text → Adds before after (chars text)
adds_text before after text u e = record { bytes = e ∙ ap (λ (xs : List ℕ). before ++ xs) (sym (encodes-chars text u)) }

-- the header, around the name of the configuration
pub adds_header : (before one two after title : List ℕ) → Adds before one (codes "instance of OMI_ConfigurationDocument\n{\n Version = \"2.0.0\";\n Name = \"")
    → Adds one two (flat_map literal_char title) → Adds two after (codes "\";\n};\n") → Adds before after (canonical_instance (header title))
adds_header before one two after title x y z =
    subst (λ (xs : List ℕ). Adds before after xs) (sym (header_text title))
    (adds_three before one two after (codes "instance of OMI_ConfigurationDocument\n{\n Version = \"2.0.0\";\n Name = \"") (flat_map literal_char title) (codes "\";\n};\n") x y z)
  where
    header_text : (title : List ℕ) → canonical_instance (header title)
        ≡ codes "instance of OMI_ConfigurationDocument\n{\n Version = \"2.0.0\";\n Name = \"" ++ (flat_map literal_char title ++ codes "\";\n};\n")
    header_text title =
        ap (λ (xs : List ℕ). codes "instance of OMI_ConfigurationDocument\n{\n Version = \"2.0.0\";\n Name = \"" ++ xs)
        (ap (λ (xs : List ℕ). xs ++ codes "};\n") (append-nil ((flat_map literal_char title ++ 34 ∷ []) ++ codes ";\n") ∙ append_assoc (flat_map literal_char title) (34 ∷ []) (codes ";\n"))
        ∙ append_assoc (flat_map literal_char title) (codes "\";\n") (codes "};\n"))

-- ---- integers

-- the first digit of a number above 0 is none
pub record Leads (n : ℕ) : Type 0 where
  pub first : ℕ
  pub others : List ℕ
  pub is : numeral n ≡ first ∷ others
  pub some : (first == 48) ≡ false

above : (d : ℕ) → 0 < d → d < 10 → ((48 + d) == 48) ≡ false
above d a b = grind (arith, nat_tests)

leads : (fuel n : ℕ) → n ≤ fuel → 0 < n → Leads n
leads zero n few some = absurd (omega arith)
leads (suc fuel) n few some = by (nat_lt n 10) refl (λ l. leads fuel (n / 10) (omega arith) (omega arith))
  where
    by : (b : Bool) → nat_lt n 10 ≡ b → (10 ≤ n → Leads (n / 10)) → Leads n
    by true e next =
        let small : n < 10 = grind (arith, nat_tests) in
        record { first = 48 + n; others = []; is = numeral_digit n small; some = above n some small }
    by false e next =
        let large : 10 ≤ n = grind (arith, nat_tests) in
        let h = next large in
        let whole : n / 10 * 10 + n % 10 ≡ n = omega arith in
        record {
          first = h.first;
          others = h.others ++ (48 + n % 10) ∷ [];
          is = ap numeral (sym whole) ∙ numeral_step (n / 10) (n % 10) (omega arith) (omega arith) ∙ ap (λ (xs : List ℕ). xs ++ (48 + n % 10) ∷ []) h.is;
          some = h.some;
        }

signed_digits : (v : ℕ) → sign_of true (numeral v) ++ numeral v ≡ signed_numeral (neg_ℤ (pos v))
signed_digits zero = refl
signed_digits (suc n) =
    let h = leads (suc n) (suc n) (omega arith) (omega arith) in
    ap (λ (xs : List ℕ). sign_of true xs ++ numeral (suc n)) h.is
    ∙ ap (λ (b : Bool). cond b [] (45 ∷ []) ++ numeral (suc n)) h.some

pub adds_number : (before one after sign : List ℕ) (negative : Bool) (ds : List ℕ) → IsPlain ds → sign ≡ sign_of negative ds
    → Adds before one sign → Adds one after ds → Adds before after (signed_numeral (signed negative ds))
adds_number before one after sign negative ds plain e x y =
    subst (λ (xs : List ℕ). Adds before after xs) (ap (λ (xs : List ℕ). xs ++ ds) e ∙ by negative) (adds_join before one after sign ds x y)
  where
    by : (b : Bool) → sign_of b ds ++ ds ≡ signed_numeral (signed b ds)
    by false = sym plain
    by true = ap (λ (xs : List ℕ). sign_of true xs ++ xs) (sym plain) ∙ signed_digits (digits_value 10 ds)

-- ---- the events, one after the other

-- what was written, and what is left to write
abbrev pub SoFar : List ℕ → List ℕ → List ℕ → List ℕ → Bool → List Event → Type 0
SoFar whole out title node named left = out ++ encode_utf8_all (written title node named left) ≡ encode_utf8_all whole

pub so_far_next : (whole out after title node : List ℕ) (named : Bool) (e : Event) (left : List Event) (title_then : List ℕ) (named_then : Bool)
    → SoFar whole out title node named (e ∷ left) → Adds out after (named_text title named e) → title_then ≡ title_after title e → named_then ≡ named_after node named e
    → SoFar whole after title_then node named_then left
so_far_next whole out after title node named e left title_then named_then s a t n =
    ap (λ (xs : List ℕ). xs ++ encode_utf8_all (written title_then node named_then left)) a.bytes
    ∙ append_assoc out (encode_utf8_all (named_text title named e)) (encode_utf8_all (written title_then node named_then left))
    ∙ ap (λ (xs : List ℕ). out ++ xs) (sym (encodes-append (named_text title named e) (written title_then node named_then left)))
    ∙ ap (λ (xs : List ℕ). out ++ encode_utf8_all (named_text title named e ++ written xs node named_then left)) t
    ∙ ap (λ (b : Bool). out ++ encode_utf8_all (named_text title named e ++ written (title_after title e) node b left)) n
    ∙ s
