-- What is written of instances spells them.
use Rattle.std.proofs.Common.{◌≡◌, ℕ, true, false, List, [], ◌∷◌, ◌++◌, Option, Some, None, refl, sym, ap, subst, ◌∙◌, append_assoc, codes}
use Rattle.std.specs.Prelude.{IfSome}
use Rattle.std.specs.List.{flat_map, AllByRecursion}
use Rattle.mof_values.specs.Ident.{is_next, IsIdent}
use Rattle.mof_values.specs.declared.instance.Instance.{Instance}
use Rattle.mof_values.specs.declared.instance.Property.{Property}
use Rattle.mof_values.specs.declared.value.Scalar.{Scalar}
use Rattle.mof_values.specs.declared.value.Scalar.TheVariants as scalars
use Rattle.mof_values.specs.declared.value.Value.{Value}
use Rattle.mof_values.specs.declared.value.Value.TheVariants.{One, Many}
use Rattle.mof_syntax.specs.Canonical.{canonical_literal, canonical_scalar, canonical_elements, canonical_value, canonical_property, canonical_alias, canonical_text}
use Rattle.mof_syntax.specs.Characters.{dollar, comma, semicolon, equals_sign, left_brace, right_brace, is_blank, Stops}
use Rattle.mof_syntax.specs.Separators.{blank}
use Rattle.mof_syntax.specs.Tokens.{Lexeme, Word, AliasName, Literal, Number, LeftBrace, RightBrace, EqualsSign, Semicolon, Comma, left_brace_mark, right_brace_mark, equals_mark, semicolon_mark, comma_mark, Lexes, end, separator, token}
use Rattle.mof_syntax.specs.Grammar.{last, ConstantValue, string_value, integer_value, true_value, false_value, null_value, alias_identifier, Elements, closing, element, Initializer, constant, empty_array, array, ValueInitializers, done, value_initializer, AliasClause, unnamed, named, nothing, instance_declaration, WideSpells}
use Rattle.mof_syntax.specs.Limits.{ScalarFits, ValueFits, PropertyFits, InstanceFits}
use Rattle.mof_codec.specs.Written.{IsName, ScalarIsValid, ValueIsValid, PropertyIsValid, InstanceIsValid}
use Rattle.mof_codec.proofs.CanonicalTokens.{literal_token, integer_token, word_token, alias_token}

-- the tokens of the rest follow those of the characters in front, of which the rule holds
abbrev Spelled : {A : Type 0} → (List Lexeme → A → List Lexeme → Type 0) → List ℕ → A → List Lexeme → Type 0
Spelled Rule cs a ts = (us : List Lexeme) × Lexes cs us × Rule us a ts

-- tokens in front

after_blank : (c : ℕ) (cs : List ℕ) (ts : List Lexeme) → is_blank c ≡ true → Lexes cs ts → Lexes (c ∷ cs) ts
after_blank c cs ts h l = separator (c ∷ cs) cs ts (blank c cs h) l

after_word : (name rest : List ℕ) (ts : List Lexeme) → IsIdent name → Stops is_next rest → Lexes rest ts → Lexes (name ++ rest) (Word name ∷ ts)
after_word name rest ts h s l = token (name ++ rest) (Word name) rest ts (word_token name rest h s) l

after_left_brace : (rest : List ℕ) (ts : List Lexeme) → Lexes rest ts → Lexes (left_brace ∷ rest) (LeftBrace ∷ ts)
after_left_brace rest ts l = token (left_brace ∷ rest) LeftBrace rest ts (left_brace_mark rest) l

after_right_brace : (rest : List ℕ) (ts : List Lexeme) → Lexes rest ts → Lexes (right_brace ∷ rest) (RightBrace ∷ ts)
after_right_brace rest ts l = token (right_brace ∷ rest) RightBrace rest ts (right_brace_mark rest) l

after_equals : (rest : List ℕ) (ts : List Lexeme) → Lexes rest ts → Lexes (equals_sign ∷ rest) (EqualsSign ∷ ts)
after_equals rest ts l = token (equals_sign ∷ rest) EqualsSign rest ts (equals_mark rest) l

after_a_comma : (rest : List ℕ) (ts : List Lexeme) → Lexes rest ts → Lexes (comma ∷ rest) (Comma ∷ ts)
after_a_comma rest ts l = token (comma ∷ rest) Comma rest ts (comma_mark rest) l

-- a semicolon at the end of its line
after_semicolon : (rest : List ℕ) (ts : List Lexeme) → Lexes rest ts → Lexes (semicolon ∷ 10 ∷ rest) (Semicolon ∷ ts)
after_semicolon rest ts l = token (semicolon ∷ 10 ∷ rest) Semicolon (10 ∷ rest) ts (semicolon_mark (10 ∷ rest)) (after_blank 10 rest ts refl l)

-- scalars and values

scalar_spelled : (s : Scalar) (rest : List ℕ) (ts : List Lexeme) → ScalarIsValid s → ScalarFits s → Stops is_next rest → Lexes rest ts
    → Spelled ConstantValue (canonical_scalar s ++ rest) s ts
scalar_spelled (scalars.Text text) rest ts v f s l =
    (Literal text ∷ ts, token (canonical_literal text ++ rest) (Literal text) rest ts (literal_token text rest) l, string_value (Literal text ∷ ts) ts text (last text ts))
scalar_spelled (scalars.Integer z) rest ts v f s l =
    (Number z ∷ ts, token (canonical_scalar (scalars.Integer z) ++ rest) (Number z) rest ts (integer_token z rest f s) l, integer_value z ts)
scalar_spelled (scalars.Bool true) rest ts v f s l = (Word (codes "TRUE") ∷ ts, after_word (codes "TRUE") rest ts refl s l, true_value (codes "TRUE") ts refl)
scalar_spelled (scalars.Bool false) rest ts v f s l = (Word (codes "FALSE") ∷ ts, after_word (codes "FALSE") rest ts refl s l, false_value (codes "FALSE") ts refl)
scalar_spelled scalars.Null rest ts v f s l = (Word (codes "NULL") ∷ ts, after_word (codes "NULL") rest ts refl s l, null_value (codes "NULL") ts refl)
scalar_spelled (scalars.Alias name) rest ts v f s l =
    (AliasName name ∷ ts, token (dollar ∷ name ++ rest) (AliasName name) rest ts (alias_token name rest v.ident s) l, alias_identifier name ts)

record ElementsSpelled (cs : List ℕ) (s : Scalar) (ss : List Scalar) (ts : List Lexeme) : Type 0 where
  us : List Lexeme
  after : List Lexeme
  tokens : Lexes cs us
  first : ConstantValue us s after
  others : Elements after ss ts

elements_spelled : (s : Scalar) (ss : List Scalar) (rest : List ℕ) (ts : List Lexeme) → ScalarIsValid s → ScalarFits s → AllByRecursion ScalarIsValid ss → AllByRecursion ScalarFits ss
    → Lexes rest ts → ElementsSpelled (canonical_elements (s ∷ ss) ++ right_brace ∷ rest) s ss ts
elements_spelled s [] rest ts v f vs fs l =
    let x = scalar_spelled s (right_brace ∷ rest) (RightBrace ∷ ts) v f refl (after_right_brace rest ts l) in
    record { us = x.0; after = RightBrace ∷ ts; tokens = x.1; first = x.2; others = closing ts }
elements_spelled s (t ∷ ss) rest ts v f vs fs l =
    let y = elements_spelled t ss rest ts vs.0 fs.0 vs.1 fs.1 l in
    let after : List ℕ = canonical_elements (t ∷ ss) ++ right_brace ∷ rest in
    let x = scalar_spelled s (comma ∷ 32 ∷ after) (Comma ∷ y.us) v f refl (after_a_comma (32 ∷ after) y.us (after_blank 32 after y.us refl y.tokens)) in
    let joined = append_assoc (canonical_scalar s ++ codes ", ") (canonical_elements (t ∷ ss)) (right_brace ∷ rest) ∙ append_assoc (canonical_scalar s) (codes ", ") after in
    record {
      us = x.0;
      after = Comma ∷ y.us;
      tokens = subst (λ (xs : List ℕ). Lexes xs x.0) (sym joined) x.1;
      first = x.2;
      others = element y.us y.after ts t ss y.first y.others;
    }

value_spelled : (v : Value) (rest : List ℕ) (ts : List Lexeme) → ValueIsValid v → ValueFits v → Stops is_next rest → Lexes rest ts
    → Spelled Initializer (canonical_value v ++ rest) v ts
value_spelled (One s) rest ts v f stops l = let x = scalar_spelled s rest ts v f stops l in (x.0, x.1, constant x.0 ts s x.2)
value_spelled (Many []) rest ts v f stops l =
    (LeftBrace ∷ RightBrace ∷ ts, after_left_brace (right_brace ∷ rest) (RightBrace ∷ ts) (after_right_brace rest ts l), empty_array ts)
value_spelled (Many (s ∷ ss)) rest ts v f stops l =
    let x = elements_spelled s ss rest ts v.0 f.1.0 v.1 f.1.1 l in
    let joined = append_assoc (canonical_elements (s ∷ ss)) (codes "}") rest in (
      LeftBrace ∷ x.us,
      after_left_brace ((canonical_elements (s ∷ ss) ++ codes "}") ++ rest) x.us (subst (λ (xs : List ℕ). Lexes xs x.us) (sym joined) x.tokens),
      array x.us x.after ts s ss x.first x.others,
    )

-- properties

regrouped : (a b c d e : List ℕ) → (((a ++ b) ++ c) ++ d) ++ e ≡ a ++ (b ++ (c ++ (d ++ e)))
regrouped a b c d e = simp append_assoc

properties_spelled : (ps : List Property) (rest : List ℕ) (ts : List Lexeme) → AllByRecursion PropertyIsValid ps → AllByRecursion PropertyFits ps → Lexes rest ts
    → Spelled ValueInitializers (flat_map canonical_property ps ++ right_brace ∷ rest) ps ts
properties_spelled [] rest ts vs fs l = (RightBrace ∷ ts, after_right_brace rest ts l, done ts)
properties_spelled (p ∷ ps) rest ts vs fs l =
    let y = properties_spelled ps rest ts vs.1 fs.1 l in
    let after : List ℕ = flat_map canonical_property ps ++ right_brace ∷ rest in
    let v = value_spelled p.value (semicolon ∷ 10 ∷ after) (Semicolon ∷ y.0) vs.0.value fs.0.value refl (after_semicolon after y.0 y.1) in
    let given : List ℕ = canonical_value p.value ++ semicolon ∷ 10 ∷ after in
    let name = after_word p.name (32 ∷ equals_sign ∷ 32 ∷ given) (EqualsSign ∷ v.0) vs.0.name.ident refl
    (after_blank 32 (equals_sign ∷ 32 ∷ given) (EqualsSign ∷ v.0) refl (after_equals (32 ∷ given) v.0 (after_blank 32 given v.0 refl v.1))) in
    let joined = append_assoc (canonical_property p) (flat_map canonical_property ps) (right_brace ∷ rest)
    ∙ ap (λ (xs : List ℕ). 32 ∷ xs) (regrouped p.name (codes " = ") (canonical_value p.value) (codes ";\n") after) in (
      Word p.name ∷ EqualsSign ∷ v.0,
      subst (λ (xs : List ℕ). Lexes xs (Word p.name ∷ EqualsSign ∷ v.0)) (sym joined)
          (after_blank 32 (p.name ++ 32 ∷ equals_sign ∷ 32 ∷ given) (Word p.name ∷ EqualsSign ∷ v.0) refl name),
      value_initializer p.name v.0 y.0 ts p.value ps v.2 y.2,
    )

-- declarations

record AliasSpelled (cs : List ℕ) (alias : Option (List ℕ)) (ts : List Lexeme) : Type 0 where
  us : List Lexeme
  tokens : Lexes cs us
  clause : AliasClause us alias ts
  apart : Stops is_next cs

alias_spelled : (alias : Option (List ℕ)) (rest : List ℕ) (ts : List Lexeme) → IfSome alias IsName → Stops is_next rest → Lexes rest ts
    → AliasSpelled (canonical_alias alias ++ rest) alias ts
alias_spelled None rest ts v s l = record { us = ts; tokens = l; clause = unnamed ts; apart = s }
alias_spelled (Some name) rest ts v s l =
    let named_so : Lexes (dollar ∷ name ++ rest) (AliasName name ∷ ts) = token (dollar ∷ name ++ rest) (AliasName name) rest ts (alias_token name rest v.ident s) l in
    record {
      us = Word (codes "as") ∷ AliasName name ∷ ts;
      tokens = after_blank 32 (codes "as" ++ 32 ∷ dollar ∷ name ++ rest) (Word (codes "as") ∷ AliasName name ∷ ts) refl
          (after_word (codes "as") (32 ∷ dollar ∷ name ++ rest) (AliasName name ∷ ts) refl refl
          (after_blank 32 (dollar ∷ name ++ rest) (AliasName name ∷ ts) refl named_so));
      clause = named (codes "as") name ts refl;
      apart = refl;
    }

head_spelled : (class rest : List ℕ) (ts : List Lexeme) → IsIdent class → Stops is_next rest → Lexes rest ts
    → Lexes (codes "instance of " ++ (class ++ rest)) (Word (codes "instance") ∷ Word (codes "of") ∷ Word class ∷ ts)
head_spelled class rest ts h s l =
    after_word (codes "instance") (32 ∷ codes "of" ++ 32 ∷ class ++ rest) (Word (codes "of") ∷ Word class ∷ ts) refl refl
    (after_blank 32 (codes "of" ++ 32 ∷ class ++ rest) (Word (codes "of") ∷ Word class ∷ ts) refl
    (after_word (codes "of") (32 ∷ class ++ rest) (Word class ∷ ts) refl refl
    (after_blank 32 (class ++ rest) (Word class ∷ ts) refl (after_word class rest ts h s l))))

pub instances_spelled : (all : List Instance) → AllByRecursion InstanceIsValid all → AllByRecursion InstanceFits all → WideSpells (canonical_text all) all
instances_spelled [] vs fs = ([], end, nothing)
instances_spelled (i ∷ all) vs fs =
    let y = instances_spelled all vs.1 fs.1 in
    let after : List ℕ = canonical_text all in
    let body = properties_spelled i.properties (semicolon ∷ 10 ∷ after) (Semicolon ∷ y.0) vs.0.each fs.0.each (after_semicolon after y.0 y.1) in
    let inside : List ℕ = flat_map canonical_property i.properties ++ right_brace ∷ semicolon ∷ 10 ∷ after in
    let brace : Lexes (10 ∷ left_brace ∷ 10 ∷ inside) (LeftBrace ∷ body.0) = after_blank 10 (left_brace ∷ 10 ∷ inside) (LeftBrace ∷ body.0) refl
    (after_left_brace (10 ∷ inside) body.0 (after_blank 10 inside body.0 refl body.1)) in
    let a = alias_spelled i.alias (10 ∷ left_brace ∷ 10 ∷ inside) (LeftBrace ∷ body.0) vs.0.alias refl brace in
    let joined = ap (λ (xs : List ℕ). codes "instance of " ++ xs) (regrouped (i.class ++ canonical_alias i.alias) (codes "\n{\n") (flat_map canonical_property i.properties) (codes "};\n") after
    ∙ append_assoc i.class (canonical_alias i.alias) (10 ∷ left_brace ∷ 10 ∷ inside)) in (
      Word (codes "instance") ∷ Word (codes "of") ∷ Word i.class ∷ a.us,
      subst (λ (xs : List ℕ). Lexes xs (Word (codes "instance") ∷ Word (codes "of") ∷ Word i.class ∷ a.us)) (sym joined)
          (head_spelled i.class (canonical_alias i.alias ++ 10 ∷ left_brace ∷ 10 ∷ inside) a.us vs.0.class.ident a.apart a.tokens),
      instance_declaration (codes "instance") (codes "of") i.class i.alias a.us body.0 y.0 i.properties all refl refl a.clause body.2 y.2,
    )
