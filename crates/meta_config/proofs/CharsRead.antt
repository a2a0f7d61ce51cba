-- The texts that are read are of characters.
use Rattle.std.proofs.Common.{◌≡◌, ℕ, zero, suc, ◌+◌, ◌*◌, ◌<◌, Bool, true, false, cond, ◌&&◌, ◌==◌, List, [], ◌∷◌, ◌++◌, Option, Some, None, refl, ap, subst, ◌∙◌, arith}
use Rattle.std.specs.Prelude.{⊤}
use Rattle.std.specs.Char.{digit_value}
use Rattle.std.specs.List.{AllByRecursion}
use Rattle.std.specs.Str.{all_scalars}
use Rattle.std.proofs.lemmas.Bool.{and_parts}
use Rattle.std.proofs.lemmas.Bool.Decides.{nat_tests}
use lib.Utf8.{scalar, low_scalar}
use Rattle.mof_values.specs.declared.instance.Instance.{Instance}
use Rattle.mof_values.specs.declared.instance.Property.{Property}
use Rattle.mof_values.specs.declared.value.Scalar.{Scalar}
use Rattle.mof_values.specs.declared.value.Scalar.TheVariants as scalars
use Rattle.mof_values.specs.declared.value.Value.{Value}
use Rattle.mof_values.specs.declared.value.Value.TheVariants.{One, Many}
use Rattle.mof_syntax.specs.Characters.{EndsWith, digit_of}
use Rattle.mof_syntax.specs.Grammar.{StringValue, last, joined, ConstantValue, string_value, integer_value, true_value, false_value, null_value, alias_identifier, Elements, closing, element, Initializer, constant, empty_array, array, ValueInitializers, done, value_initializer, AliasClause, unnamed, named, InstanceDeclarations, nothing, instance_declaration}
use Rattle.mof_syntax.specs.Refusals.{Reads}
use Rattle.mof_syntax.specs.Strings.{short_escape, is_surrogate, HexDigits, full, ended, digit, Escape, short, hexadecimal, Quoted, closed, plain, escaped}
use Rattle.mof_syntax.specs.Tokens.{Lexeme, Literal, LeftBrace, Semicolon, IsToken, word, alias, literal, integer, left_brace_mark, right_brace_mark, equals_mark, semicolon_mark, comma_mark, Lexes, end, separator, token}
use Rattle.mof_syntax.proofs.Suffixes.{weak, separator_ends, escape_ends, token_ends}
use Rattle.mof_codec.specs.Written.{AreChars}
use Rattle.std.proofs.lemmas.Option.{same_Some}

-- ---- characters

pub chars_after : (front rest : List ℕ) → AreChars (front ++ rest) → AreChars rest
chars_after [] rest all = all
chars_after (c ∷ cs) rest all = chars_after cs rest (and_parts (scalar c) (all_scalars (cs ++ rest)) all).1

pub chars_join : (a b : List ℕ) → AreChars a → AreChars b → AreChars (a ++ b)
chars_join [] b one other = other
chars_join (c ∷ a) b one other =
    let p = and_parts (scalar c) (all_scalars a) one in
    ap (λ t. t && all_scalars (a ++ b)) p.0 ∙ chars_join a b p.1 other

chars_end : (cs rest : List ℕ) → EndsWith cs rest → AreChars cs → AreChars rest
chars_end cs rest e all = chars_after e.0 rest (subst AreChars e.1 all)

-- ---- escapes

short_escape_at : (b : Bool) (v value : ℕ) (rest : Option ℕ) → v < 128 → cond b (Some v) rest ≡ Some value → (rest ≡ Some value → value < 128) → value < 128
short_escape_at true v value rest less e more = subst (λ n. n < 128) (same_Some v value e) less
short_escape_at false v value rest less e more = more e

short_is_small : (c value : ℕ) → short_escape c ≡ Some value → value < 128
short_is_small c value e =
    short_escape_at (c == 98) 8 value _ (omega arith) e (λ e. short_escape_at (c == 116) 9 value _ (omega arith) e (λ e. short_escape_at (c == 110) 10 value _ (omega arith) e
    (λ e. short_escape_at (c == 102) 12 value _ (omega arith) e (λ e. short_escape_at (c == 114) 13 value _ (omega arith) e (λ e. short_escape_at (c == 34) 34 value _ (omega arith) e
    (λ e. short_escape_at (c == 39) 39 value _ (omega arith) e (λ e. short_escape_at (c == 92) 92 value None (omega arith) e (λ e. cc))))))))

digit_small : (d : ℕ) → digit_of 16 d ≡ true → digit_value d < 16
digit_small d e = grind (arith, nat_tests)

-- how large a number may be before that many further digits
abbrev Fits : ℕ → ℕ → Type 0
Fits zero value = value < 65536
Fits (suc zero) value = value < 4096
Fits (suc (suc zero)) value = value < 256
Fits (suc (suc (suc n))) value = (n ≡ 0) × (value < 16)

fits_still : (count value d : ℕ) → d < 16 → Fits (suc count) value → Fits count (value * 16 + d)
fits_still zero value d less fits = omega arith
fits_still (suc zero) value d less fits = omega arith
fits_still (suc (suc zero)) value d less fits = let h = fits.1 in omega arith
fits_still (suc (suc (suc n))) value d less fits = let h = fits.0 in absurd (omega arith)

fits_all : (count value : ℕ) → Fits count value → value < 65536
fits_all zero value fits = fits
fits_all (suc zero) value fits = omega arith
fits_all (suc (suc zero)) value fits = omega arith
fits_all (suc (suc (suc n))) value fits = let h = fits.1 in omega arith

hex_small : (count value : ℕ) (cs : List ℕ) (total : ℕ) (rest : List ℕ) → HexDigits count value cs total rest → Fits count value → total < 65536
hex_small count value cs total rest (full v r) fits = fits
hex_small count value cs total rest (ended n v r s) fits = fits_all n v fits
hex_small count value cs total rest (digit n v d t us r e h) fits = hex_small n _ us t r h (fits_still n v (digit_value d) (digit_small d e) fits)

no_surrogate : (v : ℕ) → v < 65536 → is_surrogate v ≡ false → scalar v ≡ true
no_surrogate v less e = grind (arith, nat_tests)

escape_scalar : (cs : List ℕ) (value : ℕ) (rest : List ℕ) → Escape cs value rest → scalar value ≡ true
escape_scalar cs value rest (short e v r is) = low_scalar v (omega (arith, short_is_small e v is))
escape_scalar cs value rest (hexadecimal x d v us r isx isd h ok) = no_surrogate v (hex_small 3 (digit_value d) us v r h (refl, digit_small d isd)) ok

-- ---- tokens

quoted_chars : (cs text rest : List ℕ) → Quoted cs text rest → AreChars cs → AreChars text
quoted_chars cs text rest (closed r) all = refl
quoted_chars cs text rest (plain c us t r no_quote no_escape q) all =
    let p = and_parts (scalar c) (all_scalars us) all in
    ap (λ b. b && all_scalars t) p.0 ∙ quoted_chars us t r q p.1
quoted_chars cs text rest (escaped v us after t r e q) all =
    ap (λ b. b && all_scalars t) (escape_scalar us v after e)
    ∙ quoted_chars after t r q (chars_end us after (weak us after (escape_ends us v after e)) all)

abbrev LexemeText : Lexeme → Type 0
LexemeText (Literal text) = AreChars text
LexemeText _ = ⊤

token_chars : (cs : List ℕ) (t : Lexeme) (rest : List ℕ) → IsToken cs t rest → AreChars cs → LexemeText t
token_chars cs t rest (word us name r i) all = tt
token_chars cs t rest (alias us name r i) all = tt
token_chars cs t rest (literal us text r q) all = quoted_chars us text r q all
token_chars cs t rest (integer us z r i s) all = tt
token_chars cs t rest (left_brace_mark r) all = tt
token_chars cs t rest (right_brace_mark r) all = tt
token_chars cs t rest (equals_mark r) all = tt
token_chars cs t rest (semicolon_mark r) all = tt
token_chars cs t rest (comma_mark r) all = tt

lexed_chars : (cs : List ℕ) (ts : List Lexeme) → Lexes cs ts → AreChars cs → AllByRecursion LexemeText ts
lexed_chars cs ts end all = tt
lexed_chars cs ts (separator us rest us_tokens s l) all = lexed_chars rest us_tokens l (chars_end us rest (weak us rest (separator_ends us rest s)) all)
lexed_chars cs ts (token us t rest more is l) all =
    (token_chars us t rest is all, lexed_chars rest more l (chars_end us rest (weak us rest (token_ends us t rest is)) all))

-- ---- values

abbrev pub ScalarText : Scalar → Type 0
ScalarText (scalars.Text text) = AreChars text
ScalarText _ = ⊤

abbrev pub ValueTexts : Value → Type 0
ValueTexts (One s) = ScalarText s
ValueTexts (Many ss) = AllByRecursion ScalarText ss

abbrev pub InstanceTexts : Instance → Type 0
InstanceTexts i = AllByRecursion (λ (p : Property). ValueTexts p.value) i.properties

-- what holds of a value that is read, and the texts of the tokens after it
record Has (P : Type 0) (rest : List Lexeme) : Type 0 where
  texts : P
  after : AllByRecursion LexemeText rest

string_texts : (ts : List Lexeme) (text : List ℕ) (rest : List Lexeme) → StringValue ts text rest → AllByRecursion LexemeText ts → Has (AreChars text) rest
string_texts ts text rest (last t r) all = record { texts = all.0; after = all.1 }
string_texts ts text rest (joined t more us r s) all =
    let h = string_texts us more r s all.1 in
    record { texts = chars_join t more all.0 h.texts; after = h.after }

constant_texts : (ts : List Lexeme) (s : Scalar) (rest : List Lexeme) → ConstantValue ts s rest → AllByRecursion LexemeText ts → Has (ScalarText s) rest
constant_texts ts s rest (string_value us r text v) all = string_texts us text r v all
constant_texts ts s rest (integer_value z r) all = record { texts = tt; after = all.1 }
constant_texts ts s rest (true_value w r e) all = record { texts = tt; after = all.1 }
constant_texts ts s rest (false_value w r e) all = record { texts = tt; after = all.1 }
constant_texts ts s rest (null_value w r e) all = record { texts = tt; after = all.1 }
constant_texts ts s rest (alias_identifier name r) all = record { texts = tt; after = all.1 }

element_texts : (ts : List Lexeme) (ss : List Scalar) (rest : List Lexeme) → Elements ts ss rest → AllByRecursion LexemeText ts → Has (AllByRecursion ScalarText ss) rest
element_texts ts ss rest (closing r) all = record { texts = tt; after = all.1 }
element_texts ts ss rest (element us after r s more c e) all =
    let one = constant_texts us s after c all.1 in
    let others = element_texts after more r e one.after in
    record { texts = (one.texts, others.texts); after = others.after }

value_texts : (ts : List Lexeme) (v : Value) (rest : List Lexeme) → Initializer ts v rest → AllByRecursion LexemeText ts → Has (ValueTexts v) rest
value_texts ts v rest (constant us r s c) all = constant_texts us s r c all
value_texts ts v rest (empty_array r) all = record { texts = tt; after = all.1.1 }
value_texts ts v rest (array us after r s more c e) all =
    let one = constant_texts us s after c all.1 in
    let others = element_texts after more r e one.after in
    record { texts = (one.texts, others.texts); after = others.after }

property_texts : (ts : List Lexeme) (ps : List Property) (rest : List Lexeme) → ValueInitializers ts ps rest → AllByRecursion LexemeText ts
    → Has (AllByRecursion (λ (p : Property). ValueTexts p.value) ps) rest
property_texts ts ps rest (done r) all = record { texts = tt; after = all.1 }
property_texts ts ps rest (value_initializer name us after r v more i is) all =
    let one = value_texts us v (Semicolon ∷ after) i all.1.1 in
    let others = property_texts after more r is one.after.1 in
    record { texts = (one.texts, others.texts); after = others.after }

alias_after : (ts : List Lexeme) (a : Option (List ℕ)) (rest : List Lexeme) → AliasClause ts a rest → AllByRecursion LexemeText ts → AllByRecursion LexemeText rest
alias_after ts a rest (unnamed r) all = all
alias_after ts a rest (named w name r e) all = all.1.1

instance_texts : (ts : List Lexeme) (is : List Instance) → InstanceDeclarations ts is → AllByRecursion LexemeText ts → AllByRecursion InstanceTexts is
instance_texts ts is nothing all = tt
instance_texts ts is (instance_declaration i o class name us body rest ps more one two a p d) all =
    let h = property_texts body ps (Semicolon ∷ rest) p (alias_after us name (LeftBrace ∷ body) a all.1.1.1).1 in
    (h.texts, instance_texts rest more d h.after.1)

-- the texts of instances that are read
pub texts_read : (bytes : List ℕ) (is : List Instance) → Reads bytes is → AllByRecursion InstanceTexts is
texts_read bytes is r = instance_texts r.spelled.wide.0 is r.spelled.wide.2 (lexed_chars r.text r.spelled.wide.0 r.spelled.wide.1 r.decoded.scalars)
