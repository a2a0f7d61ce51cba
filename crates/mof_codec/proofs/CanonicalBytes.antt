-- The bytes that are written of instances are read as these.
use Rattle.std.proofs.Common.{◌≡◌, ◌≤◌, ◌<◌, ◌/◌, ◌%◌, ◌^◌, inl, inr, ℕ, suc, Bool, true, false, ◌&&◌, nat_lt, List, [], ◌∷◌, ◌++◌, length, refl, sym, subst, arith, Option, Some, None, ℤ, pos, negsuc, codes}
use Rattle.std.specs.Prelude.{◌==◌, IfSome}
use Rattle.std.specs.List.{flat_map, AllByRecursion}
use Rattle.std.specs.Char.{digit_value}
use Rattle.std.specs.Str.{all_scalars}
use Rattle.std.specs.Str.Parse.{AllDigits}
use Rattle.std.specs.Fmt.{decimal}
use Rattle.std.proofs.lemmas.Bool.{and_parts}
use Rattle.std.proofs.lemmas.Bool.Decides.{nat_tests}
use Rattle.std.proofs.lemmas.Fmt.{decimal_is_IsNumeral}
use Rattle.std.proofs.lemmas.Int.{ints}
use lib.Utf8.{scalar}
use Rattle.mof_values.specs.declared.instance.Instance.{Instance}
use Rattle.mof_values.specs.declared.instance.Property.{Property}
use Rattle.mof_values.specs.declared.value.Scalar.{Scalar}
use Rattle.mof_values.specs.declared.value.Scalar.TheVariants as scalars
use Rattle.mof_values.specs.declared.value.Value.{Value}
use Rattle.mof_values.specs.declared.value.Value.TheVariants.{One, Many}
use Rattle.mof_syntax.specs.Encodings.{Chars}
use Rattle.mof_syntax.proofs.Bodies.{and_both, Chars-nothing, Chars-from_i}
use Rattle.mof_syntax.specs.Canonical.{hex_glyph, control_escape, literal_char, canonical_scalar, canonical_elements, canonical_value, canonical_property, canonical_alias, canonical_instance, canonical_text, canonical_bytes}
use Rattle.mof_syntax.specs.Limits.{IsInRange, ScalarFits, ValueFits, PropertyFits, InstanceFits, IsWithinLimits, document_limit}
use Rattle.mof_syntax.specs.Numerals.{numeral, signed_numeral}
use Rattle.mof_syntax.proofs.Numerals.{numeral_decimal}
use Rattle.mof_syntax.specs.Refusals.{Reads}
use Rattle.mof_syntax.proofs.Scans.{test_or}
use Rattle.mof_codec.specs.Written.{AreChars, IsName, ScalarIsValid, ValueIsValid, PropertyIsValid, InstanceIsValid}
use Rattle.mof_codec.proofs.MarkFronts.{equal}
use Rattle.mof_codec.proofs.CanonicalRules.{instances_spelled}

-- characters

chars_join : (a b : List ℕ) → AreChars a → AreChars b → AreChars (a ++ b)
chars_join [] b e f = f
chars_join (c ∷ a) b e f = let p = and_parts (scalar c) (all_scalars a) e in and_both (scalar c) (all_scalars (a ++ b)) p.0 (chars_join a b p.1 f)

literal_char_chars : (c : ℕ) → scalar c ≡ true → AreChars (literal_char c)
literal_char_chars c e =
    elim (test_or (c == 8)) [
      | inl is ↦ at_short 8 refl (equal c 8 is)
      | inr n8 ↦
          elim (test_or (c == 9)) [
            | inl is ↦ at_short 9 refl (equal c 9 is)
            | inr n9 ↦
                elim (test_or (c == 10)) [
                  | inl is ↦ at_short 10 refl (equal c 10 is)
                  | inr n10 ↦
                      elim (test_or (c == 12)) [
                        | inl is ↦ at_short 12 refl (equal c 12 is)
                        | inr n12 ↦
                            elim (test_or (c == 13)) [
                              | inl is ↦ at_short 13 refl (equal c 13 is)
                              | inr n13 ↦
                                  elim (test_or (c == 34)) [
                                    | inl is ↦ at_short 34 refl (equal c 34 is)
                                    | inr n34 ↦
                                        elim (test_or (c == 92)) [
                                          | inl is ↦ at_short 92 refl (equal c 92 is)
                                          | inr n92 ↦
                                              elim (test_or (nat_lt c 32)) [
                                                | inl low ↦ rw (n8, n9, n10, n12, n13, n34, n92, low) (at_control (below c low))
                                                | inr high ↦ rw (n8, n9, n10, n12, n13, n34, n92, high) (and_both (scalar c) true e refl)
                                              ]
                                        ]
                                  ]
                            ]
                      ]
                ]
          ]
    ]
  where
    at_short : (v : ℕ) → AreChars (literal_char v) → c ≡ v → AreChars (literal_char c)
    at_short v h is = subst (λ (x : ℕ). AreChars (literal_char x)) (sym is) h

    below : (x : ℕ) → nat_lt x 32 ≡ true → x < 32
    below x h = grind (arith, nat_tests)

    glyph : (d : ℕ) → d < 16 → scalar (hex_glyph d) ≡ true
    glyph d h = grind (arith, nat_tests)

    at_control : c < 32 → AreChars (control_escape c)
    at_control h = and_both (scalar (hex_glyph (c / 16))) (scalar (hex_glyph (c % 16)) && true) (glyph (c / 16) (omega arith))
        (and_both (scalar (hex_glyph (c % 16))) true (glyph (c % 16) (omega arith)) refl)

literal_chars : (text : List ℕ) → AreChars text → AreChars (flat_map literal_char text)
literal_chars [] e = refl
literal_chars (c ∷ text) e =
    let p = and_parts (scalar c) (all_scalars text) e in chars_join (literal_char c) (flat_map literal_char text) (literal_char_chars c p.0) (literal_chars text p.1)

digits_chars : (ds : List ℕ) → AllDigits 10 ds → AreChars ds
digits_chars [] all = refl
digits_chars (d ∷ ds) all = and_both (scalar d) (all_scalars ds) (low d all.0) (digits_chars ds all.1)
  where
    low : (x : ℕ) → digit_value x < 10 → scalar x ≡ true
    low x h = grind (arith, nat_tests)

numeral_chars : (n : ℕ) → n < 2 ^ 64 → AreChars (numeral n)
numeral_chars n h = subst AreChars (sym (numeral_decimal n (omega arith))) (digits_chars (decimal n) (decimal_is_IsNumeral n h).0.1)

integer_chars : (z : ℤ) → IsInRange z → AreChars (signed_numeral z)
integer_chars (pos n) h = numeral_chars n (omega (arith, ints, h))
integer_chars (negsuc n) h = numeral_chars (suc n) (omega (arith, ints, h))

scalar_chars : (s : Scalar) → ScalarIsValid s → ScalarFits s → AreChars (canonical_scalar s)
scalar_chars (scalars.Text text) v f = chars_join (flat_map literal_char text) (34 ∷ []) (literal_chars text v) refl
scalar_chars (scalars.Integer z) v f = integer_chars z f
scalar_chars (scalars.Bool true) v f = refl
scalar_chars (scalars.Bool false) v f = refl
scalar_chars scalars.Null v f = refl
scalar_chars (scalars.Alias name) v f = v.chars

elements_chars : (ss : List Scalar) → AllByRecursion ScalarIsValid ss → AllByRecursion ScalarFits ss → AreChars (canonical_elements ss)
elements_chars [] vs fs = refl
elements_chars (s ∷ []) vs fs = scalar_chars s vs.0 fs.0
elements_chars (s ∷ t ∷ ss) vs fs =
    chars_join (canonical_scalar s ++ codes ", ") (canonical_elements (t ∷ ss)) (chars_join (canonical_scalar s) (codes ", ") (scalar_chars s vs.0 fs.0) refl) (elements_chars (t ∷ ss) vs.1 fs.1)

value_chars : (v : Value) → ValueIsValid v → ValueFits v → AreChars (canonical_value v)
value_chars (One s) v f = scalar_chars s v f
value_chars (Many ss) v f = chars_join (canonical_elements ss) (codes "}") (elements_chars ss v f.1) refl

property_chars : (p : Property) → PropertyIsValid p → PropertyFits p → AreChars (canonical_property p)
property_chars p v f =
    chars_join (codes " " ++ p.name ++ codes " = " ++ canonical_value p.value) (codes ";\n")
    (chars_join (codes " " ++ p.name ++ codes " = ") (canonical_value p.value) (chars_join p.name (codes " = ") v.name.chars refl) (value_chars p.value v.value f.value)) refl

properties_chars : (ps : List Property) → AllByRecursion PropertyIsValid ps → AllByRecursion PropertyFits ps → AreChars (flat_map canonical_property ps)
properties_chars [] vs fs = refl
properties_chars (p ∷ ps) vs fs = chars_join (canonical_property p) (flat_map canonical_property ps) (property_chars p vs.0 fs.0) (properties_chars ps vs.1 fs.1)

alias_chars : (alias : Option (List ℕ)) → IfSome alias IsName → AreChars (canonical_alias alias)
alias_chars None v = refl
alias_chars (Some name) v = v.chars

instance_chars : (i : Instance) → InstanceIsValid i → InstanceFits i → AreChars (canonical_instance i)
instance_chars i v f =
    chars_join (i.class ++ canonical_alias i.alias ++ codes "\n{\n" ++ flat_map canonical_property i.properties) (codes "};\n")
    (chars_join (i.class ++ canonical_alias i.alias ++ codes "\n{\n") (flat_map canonical_property i.properties)
    (chars_join (i.class ++ canonical_alias i.alias) (codes "\n{\n") (chars_join i.class (canonical_alias i.alias) v.class.chars (alias_chars i.alias v.alias)) refl)
    (properties_chars i.properties v.each f.each)) refl

instances_chars : (all : List Instance) → AllByRecursion InstanceIsValid all → AllByRecursion InstanceFits all → AreChars (canonical_text all)
instances_chars [] vs fs = refl
instances_chars (i ∷ all) vs fs = chars_join (canonical_instance i) (canonical_text all) (instance_chars i vs.0 fs.0) (instances_chars all vs.1 fs.1)

-- bytes

canonical_chars : (all : List Instance) → AreChars (canonical_text all) → Chars (canonical_bytes all) (canonical_text all)
canonical_chars [] e = Chars-nothing
canonical_chars (i ∷ all) e =
    Chars-from_i (codes "nstance of " ++ i.class ++ canonical_alias i.alias ++ codes "\n{\n" ++ flat_map canonical_property i.properties ++ codes "};\n" ++ canonical_text all) e

pub canonical_reads : (all : List Instance) (bytes : List ℕ) → bytes ≡ canonical_bytes all → AllByRecursion InstanceIsValid all → IsWithinLimits all → length bytes ≤ document_limit → Reads bytes all
canonical_reads all bytes e vs limits within = record {
  within = within;
  text = canonical_text all;
  decoded = subst (λ (xs : List ℕ). Chars xs (canonical_text all)) (sym e) (canonical_chars all (instances_chars all vs limits.each));
  spelled = record { wide = instances_spelled all vs limits.each; limits = limits };
}
