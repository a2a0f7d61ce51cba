-- Single values by their first token.
use Rattle.std.proofs.Common.{◌≡◌, inl, inr, ℕ, true, false, List, ◌∷◌, refl, sym, ap, subst, ◌∙◌, codes}
use Rattle.std.specs.Prelude.{ℤ}
use Rattle.mof_values.specs.declared.value.Scalar.{Scalar}
use Rattle.mof_values.specs.declared.value.Scalar.TheVariants as scalars
use Rattle.mof_syntax.specs.Tokens.{Lexeme, Word, AliasName, Literal, Number}
use Rattle.mof_syntax.specs.Grammar.{StringValue, last, joined, ConstantValue, string_value, integer_value, true_value, false_value, null_value, alias_identifier}
use Rattle.mof_syntax.specs.Limits.{IsInRange, IsShortName, ScalarFits}
use Rattle.mof_syntax.proofs.UniqueRules.{KeywordValue, constant_by, keyword_same}
use Rattle.mof_codec.specs.Reading.{Begins, BeginsNo, Only, BeginsWith, Lacks}
use Rattle.mof_codec.specs.Values.{IsKeyword, IsAlias, IsNumber, AnyText}
use Rattle.mof_codec.proofs.TokenFronts.{begins_as}

-- texts

text_by : (us : List Lexeme) (text : List ℕ) (ts : List Lexeme) → StringValue us text ts → (b : Scalar) (vs : List Lexeme) → ConstantValue us b vs
    → (other : List ℕ) × StringValue us other vs × (scalars.Text other ≡ b)
text_by us text ts (last t r) b vs c = constant_by (Literal t ∷ r) b vs c
text_by us text ts (joined t m xs r s) b vs c = constant_by (Literal t ∷ xs) b vs c

only_text : (us : List Lexeme) (text : List ℕ) (ts : List Lexeme) → Only StringValue us text ts → Only ConstantValue us (scalars.Text text) ts
only_text us text ts o = record {
  holds = string_value us ts text o.holds;
  only = λ b vs n c.
      let x = text_by us text ts o.holds b vs c in
      let same = o.only x.0 vs n x.1 in
      (sym x.2 ∙ ap (λ (t : List ℕ). scalars.Text t) same.0, same.1);
}

pub reads_text : (cs text rest : List ℕ) → BeginsWith StringValue AnyText cs text rest → BeginsWith ConstantValue ScalarFits cs (scalars.Text text) rest
reads_text cs text rest r = record {
  fits = tt;
  begins = begins_as (λ us ts. Only StringValue us text ts) (λ us ts. Only ConstantValue us (scalars.Text text) ts) cs rest (λ us ts o. only_text us text ts o) r.begins;
}

-- integers and aliases

only_integer : (us : List Lexeme) (z : ℤ) (ts : List Lexeme) → us ≡ Number z ∷ ts → Only ConstantValue us (scalars.Integer z) ts
only_integer us z ts e = subst (λ (xs : List Lexeme). Only ConstantValue xs (scalars.Integer z) ts) (sym e) (record {
  holds = integer_value z ts;
  only = λ b vs n c. let x = constant_by (Number z ∷ ts) b vs c in (sym x.0, sym x.1);
})

pub reads_number : (cs : List ℕ) (z : ℤ) (rest : List ℕ) → BeginsWith IsNumber IsInRange cs z rest → BeginsWith ConstantValue ScalarFits cs (scalars.Integer z) rest
reads_number cs z rest r = record {
  fits = r.fits;
  begins = begins_as (λ us ts. Only IsNumber us z ts) (λ us ts. Only ConstantValue us (scalars.Integer z) ts) cs rest (λ us ts o. only_integer us z ts o.holds) r.begins;
}

only_name : (us : List Lexeme) (name : List ℕ) (ts : List Lexeme) → us ≡ AliasName name ∷ ts → Only ConstantValue us (scalars.Alias name) ts
only_name us name ts e = subst (λ (xs : List Lexeme). Only ConstantValue xs (scalars.Alias name) ts) (sym e) (record {
  holds = alias_identifier name ts;
  only = λ b vs n c. let x = constant_by (AliasName name ∷ ts) b vs c in (sym x.0, sym x.1);
})

pub reads_name : (cs name rest : List ℕ) → BeginsWith IsAlias IsShortName cs name rest → BeginsWith ConstantValue ScalarFits cs (scalars.Alias name) rest
reads_name cs name rest r = record {
  fits = r.fits;
  begins = begins_as (λ us ts. Only IsAlias us name ts) (λ us ts. Only ConstantValue us (scalars.Alias name) ts) cs rest (λ us ts o. only_name us name ts o.holds) r.begins;
}

-- keywords

only_word : (w : List ℕ) (s : Scalar) (ts : List Lexeme) → KeywordValue w s → ConstantValue (Word w ∷ ts) s ts → Only ConstantValue (Word w ∷ ts) s ts
only_word w s ts k h = record {
  holds = h;
  only = λ b vs n c. let x = constant_by (Word w ∷ ts) b vs c in (keyword_same w b s x.0 k, sym x.1);
}

at_word : (s : Scalar) (us ts : List Lexeme) (w : List ℕ) → us ≡ Word w ∷ ts → Only ConstantValue (Word w ∷ ts) s ts → Only ConstantValue us s ts
at_word s us ts w e o = subst (λ (xs : List Lexeme). Only ConstantValue xs s ts) (sym e) o

pub reads_true : (cs rest : List ℕ) → Begins (IsKeyword (codes "TRUE")) cs rest → BeginsWith ConstantValue ScalarFits cs (scalars.Bool true) rest
reads_true cs rest b = record {
  fits = tt;
  begins = begins_as (IsKeyword (codes "TRUE")) (λ us ts. Only ConstantValue us (scalars.Bool true) ts) cs rest
      (λ us ts k. at_word (scalars.Bool true) us ts k.0 k.1 (only_word k.0 (scalars.Bool true) ts (inl (k.2, refl)) (true_value k.0 ts k.2))) b;
}

pub reads_false : (cs rest : List ℕ) → Begins (IsKeyword (codes "FALSE")) cs rest → BeginsWith ConstantValue ScalarFits cs (scalars.Bool false) rest
reads_false cs rest b = record {
  fits = tt;
  begins = begins_as (IsKeyword (codes "FALSE")) (λ us ts. Only ConstantValue us (scalars.Bool false) ts) cs rest
      (λ us ts k. at_word (scalars.Bool false) us ts k.0 k.1 (only_word k.0 (scalars.Bool false) ts (inr (inl (k.2, refl))) (false_value k.0 ts k.2))) b;
}

pub reads_null : (cs rest : List ℕ) → Begins (IsKeyword (codes "NULL")) cs rest → BeginsWith ConstantValue ScalarFits cs scalars.Null rest
reads_null cs rest b = record {
  fits = tt;
  begins = begins_as (IsKeyword (codes "NULL")) (λ us ts. Only ConstantValue us scalars.Null ts) cs rest
      (λ us ts k. at_word scalars.Null us ts k.0 k.1 (only_word k.0 scalars.Null ts (inr (inr (k.2, refl))) (null_value k.0 ts k.2))) b;
}

-- none of them

pub lacks_constant : (cs : List ℕ) → Lacks StringValue AnyText cs → Lacks IsNumber IsInRange cs → Lacks IsAlias IsShortName cs
    → BeginsNo (IsKeyword (codes "TRUE")) cs → BeginsNo (IsKeyword (codes "FALSE")) cs → BeginsNo (IsKeyword (codes "NULL")) cs → Lacks ConstantValue ScalarFits cs
lacks_constant cs no_text no_number no_name no_true no_false no_null us ts s n l (string_value xs r text v) f = no_text xs r text n l v tt
lacks_constant cs no_text no_number no_name no_true no_false no_null us ts s n l (integer_value z r) f = no_number (Number z ∷ r) r z n l refl f
lacks_constant cs no_text no_number no_name no_true no_false no_null us ts s n l (true_value w r h) f = no_true (Word w ∷ r) r l (w, refl, h)
lacks_constant cs no_text no_number no_name no_true no_false no_null us ts s n l (false_value w r h) f = no_false (Word w ∷ r) r l (w, refl, h)
lacks_constant cs no_text no_number no_name no_true no_false no_null us ts s n l (null_value w r h) f = no_null (Word w ∷ r) r l (w, refl, h)
lacks_constant cs no_text no_number no_name no_true no_false no_null us ts s n l (alias_identifier name r) f = no_name (AliasName name ∷ r) r name n l refl f
