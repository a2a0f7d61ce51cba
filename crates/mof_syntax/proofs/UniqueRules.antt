-- Tokens stand for one list of instances.
use Rattle.std.proofs.Common.{◌≡◌, ◌⊎◌, inl, inr, ℕ, true, false, List, ◌∷◌, ◌++◌, Option, refl, sym, ap, subst, ◌∙◌, codes, arith}
use Rattle.mof_values.specs.Fold.{fold_case, SameName}
use Rattle.mof_values.specs.declared.instance.Instance.{Instance}
use Rattle.mof_values.specs.declared.instance.Property.{Property}
use Rattle.mof_values.specs.declared.value.Scalar.{Scalar}
use Rattle.mof_values.specs.declared.value.Scalar.TheVariants as scalars
use Rattle.mof_values.specs.declared.value.Value.{Value}
use Rattle.mof_values.specs.declared.value.Value.TheVariants.{One, Many}
use Rattle.mof_syntax.specs.Tokens.{Lexeme, Word, AliasName, Literal, Number, LeftBrace, RightBrace, Semicolon}
use Rattle.mof_syntax.specs.Grammar.{NoLiteral, StringValue, last, joined, ConstantValue, string_value, integer_value, true_value, false_value, null_value, alias_identifier, Elements, closing, element, Initializer, constant, empty_array, array, ValueInitializers, done, value_initializer, AliasClause, unnamed, named, InstanceDeclarations, nothing, instance_declaration, WideSpells}
use Rattle.mof_syntax.proofs.Lists.{tail_same}
use Rattle.mof_syntax.proofs.UniqueTokens.{lexes_same}

pub string_first : (ts : List Lexeme) (text : List ℕ) (rest : List Lexeme) → StringValue ts text rest → NoLiteral ts → ⊥
string_first ts text rest (last t r) n = n
string_first ts text rest (joined t m us r s) n = n

pub string_same : (ts : List Lexeme) (a : List ℕ) (r : List Lexeme) (b : List ℕ) (q : List Lexeme) → NoLiteral r → NoLiteral q → StringValue ts a r → StringValue ts b q → (a ≡ b) × (r ≡ q)
string_same ts a r b q n m (last t x) (last u y) = (refl, refl)
string_same ts a r b q n m (last t x) (joined u v us y s) = absurd (string_first us v y s n)
string_same ts a r b q n m (joined t v us x s) (last u y) = absurd (string_first us v x s m)
string_same ts a r b q n m (joined t v us x s) (joined u w vs y p) = let same = string_same us v x w y n m s p in (ap (λ (xs : List ℕ). t ++ xs) same.0, same.1)

-- what the first token of a constant stands for
abbrev pub ConstantBy : List Lexeme → Scalar → List Lexeme → Type 0
ConstantBy (Literal t ∷ ts) s rest = (text : List ℕ) × StringValue (Literal t ∷ ts) text rest × (scalars.Text text ≡ s)
ConstantBy (Number z ∷ ts) s rest = (scalars.Integer z ≡ s) × (ts ≡ rest)
ConstantBy (Word w ∷ ts) s rest = (((SameName w (codes "TRUE")) × (scalars.Bool true ≡ s)) ⊎ (((SameName w (codes "FALSE")) × (scalars.Bool false ≡ s)) ⊎ ((SameName w (codes "NULL")) × (scalars.Null ≡ s)))) × (ts ≡ rest)
ConstantBy (AliasName name ∷ ts) s rest = (scalars.Alias name ≡ s) × (ts ≡ rest)
ConstantBy ts s rest = ⊥

string_by : (ts : List Lexeme) (text : List ℕ) (rest : List Lexeme) → StringValue ts text rest → ConstantBy ts (scalars.Text text) rest
string_by ts text rest (last t r) = (t, last t r, refl)
string_by ts text rest (joined t m us r s) = (t ++ m, joined t m us r s, refl)

pub constant_by : (ts : List Lexeme) (s : Scalar) (rest : List Lexeme) → ConstantValue ts s rest → ConstantBy ts s rest
constant_by ts s rest (string_value us r text v) = string_by us text r v
constant_by ts s rest (integer_value z r) = (refl, refl)
constant_by ts s rest (true_value w r h) = (inl (h, refl), refl)
constant_by ts s rest (false_value w r h) = (inr (inl (h, refl)), refl)
constant_by ts s rest (null_value w r h) = (inr (inr (h, refl)), refl)
constant_by ts s rest (alias_identifier name r) = (refl, refl)

apart_words : (w : List ℕ) (c d : ℕ) (cs ds : List ℕ) → fold_case w ≡ (c ∷ cs) → fold_case w ≡ (d ∷ ds) → c ≡ d
apart_words w c d cs ds e f = head_same (sym e ∙ f)
  where
    head_same : (c ∷ cs) ≡ (d ∷ ds) → c ≡ d
    head_same h = cc

abbrev pub KeywordValue : List ℕ → Scalar → Type 0
KeywordValue w s = ((SameName w (codes "TRUE")) × (scalars.Bool true ≡ s)) ⊎ (((SameName w (codes "FALSE")) × (scalars.Bool false ≡ s)) ⊎ ((SameName w (codes "NULL")) × (scalars.Null ≡ s)))

pub keyword_same : (w : List ℕ) (s u : Scalar) → KeywordValue w s → KeywordValue w u → s ≡ u
keyword_same w s u (inl a) (inl b) = sym a.1 ∙ b.1
keyword_same w s u (inl a) (inr (inl b)) = absurd (omega (arith, apart_words w 116 102 _ _ a.0 b.0))
keyword_same w s u (inl a) (inr (inr b)) = absurd (omega (arith, apart_words w 116 110 _ _ a.0 b.0))
keyword_same w s u (inr (inl a)) (inl b) = absurd (omega (arith, apart_words w 102 116 _ _ a.0 b.0))
keyword_same w s u (inr (inl a)) (inr (inl b)) = sym a.1 ∙ b.1
keyword_same w s u (inr (inl a)) (inr (inr b)) = absurd (omega (arith, apart_words w 102 110 _ _ a.0 b.0))
keyword_same w s u (inr (inr a)) (inl b) = absurd (omega (arith, apart_words w 110 116 _ _ a.0 b.0))
keyword_same w s u (inr (inr a)) (inr (inl b)) = absurd (omega (arith, apart_words w 110 102 _ _ a.0 b.0))
keyword_same w s u (inr (inr a)) (inr (inr b)) = sym a.1 ∙ b.1

constant_by_same : (ts : List Lexeme) (s : Scalar) (r : List Lexeme) (u : Scalar) (q : List Lexeme) → NoLiteral r → NoLiteral q → ConstantBy ts s r → ConstantBy ts u q → (s ≡ u) × (r ≡ q)
constant_by_same (Literal t ∷ ts) s r u q n m a b =
    let same = string_same (Literal t ∷ ts) a.0 r b.0 q n m a.1 b.1 in (sym a.2 ∙ ap (λ (x : List ℕ). scalars.Text x) same.0 ∙ b.2, same.1)
constant_by_same (Number z ∷ ts) s r u q n m a b = (sym a.0 ∙ b.0, sym a.1 ∙ b.1)
constant_by_same (Word w ∷ ts) s r u q n m a b = (keyword_same w s u a.0 b.0, sym a.1 ∙ b.1)
constant_by_same (AliasName name ∷ ts) s r u q n m a b = (sym a.0 ∙ b.0, sym a.1 ∙ b.1)
constant_by_same ts s r u q n m a b = absurd a

constant_same : (ts : List Lexeme) (s : Scalar) (r : List Lexeme) (u : Scalar) (q : List Lexeme) → NoLiteral r → NoLiteral q → ConstantValue ts s r → ConstantValue ts u q → (s ≡ u) × (r ≡ q)
constant_same ts s r u q n m a b = constant_by_same ts s r u q n m (constant_by ts s r a) (constant_by ts u q b)

pub no_brace_constant : (ts : List Lexeme) (s : Scalar) (rest : List Lexeme) → ConstantValue (LeftBrace ∷ ts) s rest → ⊥
no_brace_constant ts s rest c = constant_by (LeftBrace ∷ ts) s rest c

pub no_closing_constant : (ts : List Lexeme) (s : Scalar) (rest : List Lexeme) → ConstantValue (RightBrace ∷ ts) s rest → ⊥
no_closing_constant ts s rest c = constant_by (RightBrace ∷ ts) s rest c

-- arrays

pub elements_first : (ts : List Lexeme) (ss : List Scalar) (rest : List Lexeme) → Elements ts ss rest → NoLiteral ts
elements_first ts ss rest (closing r) = tt
elements_first ts ss rest (element us after r s more c e) = tt

elements_same : (ts : List Lexeme) (ss : List Scalar) (r : List Lexeme) (us : List Scalar) (q : List Lexeme) → Elements ts ss r → Elements ts us q → (ss ≡ us) × (r ≡ q)
elements_same ts ss r us q (closing x) (closing y) = (refl, refl)
elements_same ts ss r us q (element vs after x s more c e) (element ws other y u others d f) =
    let first = constant_same vs s after u other (elements_first after more x e) (elements_first other others y f) c d in
    let rest = elements_same after more x others y e (subst (λ (xs : List Lexeme). Elements xs others y) (sym first.1) f) in
    (ap (λ (z : Scalar). z ∷ more) first.0 ∙ ap (λ (zs : List Scalar). u ∷ zs) rest.0, rest.1)

initializer_same : (ts : List Lexeme) (v : Value) (r : List Lexeme) (u : Value) (q : List Lexeme) → NoLiteral r → NoLiteral q → Initializer ts v r → Initializer ts u q → (v ≡ u) × (r ≡ q)
initializer_same ts v r u q n m (constant xs x s c) (constant ys y t d) = let same = constant_same xs s x t y n m c d in (ap (λ (z : Scalar). One z) same.0, same.1)
initializer_same ts v r u q n m (constant xs x s c) (empty_array y) = absurd (no_brace_constant _ s x c)
initializer_same ts v r u q n m (constant xs x s c) (array ys after y t more d e) = absurd (no_brace_constant _ s x c)
initializer_same ts v r u q n m (empty_array x) (constant ys y t d) = absurd (no_brace_constant _ t y d)
initializer_same ts v r u q n m (empty_array x) (empty_array y) = (refl, refl)
initializer_same ts v r u q n m (empty_array x) (array ys after y t more d e) = absurd (no_closing_constant _ t after d)
initializer_same ts v r u q n m (array xs after x s more c e) (constant ys y t d) = absurd (no_brace_constant _ t y d)
initializer_same ts v r u q n m (array xs after x s more c e) (empty_array y) = absurd (no_closing_constant _ s after c)
initializer_same ts v r u q n m (array xs after x s more c e) (array ys other y t others d f) =
    let first = constant_same xs s after t other (elements_first after more x e) (elements_first other others y f) c d in
    let rest = elements_same after more x others y e (subst (λ (zs : List Lexeme). Elements zs others y) (sym first.1) f) in
    (ap (λ (z : Scalar). Many (z ∷ more)) first.0 ∙ ap (λ (zs : List Scalar). Many (t ∷ zs)) rest.0, rest.1)

-- declarations

properties_same : (ts : List Lexeme) (ps : List Property) (r : List Lexeme) (qs : List Property) (q : List Lexeme) → ValueInitializers ts ps r → ValueInitializers ts qs q → (ps ≡ qs) × (r ≡ q)
properties_same ts ps r qs q (done x) (done y) = (refl, refl)
properties_same ts ps r qs q (value_initializer name xs after x v more c e) (value_initializer name' ys other y u others d f) =
    let first = initializer_same xs v (Semicolon ∷ after) u (Semicolon ∷ other) tt tt c d in
    let there : after ≡ other = tail_same Semicolon Semicolon after other first.1 in
    let rest = properties_same after more x others y e (subst (λ (zs : List Lexeme). ValueInitializers zs others y) (sym there) f) in
    (ap (λ (z : Value). record { name = name; value = z } ∷ more) first.0 ∙ ap (λ (zs : List Property). record { name = name; value = u } ∷ zs) rest.0, rest.1)

alias_same : (ts : List Lexeme) (a : Option (List ℕ)) (r : List Lexeme) (b : Option (List ℕ)) (q : List Lexeme) → AliasClause ts a (LeftBrace ∷ r) → AliasClause ts b (LeftBrace ∷ q) → (a ≡ b) × (r ≡ q)
alias_same ts a r b q (unnamed x) (unnamed y) = (refl, refl)
alias_same ts a r b q (named w name x h) (named v other y g) = (refl, refl)

-- the tokens stand for one list
pub declarations_same : (ts : List Lexeme) (is js : List Instance) → InstanceDeclarations ts is → InstanceDeclarations ts js → is ≡ js
declarations_same ts is js nothing nothing = refl
declarations_same ts is js (instance_declaration i o class alias us body after ps more hi ho ha hp hd) (instance_declaration i' o' class' alias' us' body' after' ps' more' gi go ga gp gd) =
    let named_is = alias_same us alias body alias' body' ha ga in
    let held = properties_same body ps (Semicolon ∷ after) ps' (Semicolon ∷ after') hp (subst (λ (zs : List Lexeme). ValueInitializers zs ps' (Semicolon ∷ after')) (sym named_is.1) gp) in
    let there : after ≡ after' = tail_same Semicolon Semicolon after after' held.1 in
    let rest = declarations_same after more more' hd (subst (λ (zs : List Lexeme). InstanceDeclarations zs more') (sym there) gd) in
    ap (λ (z : Option (List ℕ)). record { class = class; alias = z; properties = ps } ∷ more) named_is.0
    ∙ ap (λ (zs : List Property). record { class = class; alias = alias'; properties = zs } ∷ more) held.0
    ∙ ap (λ (zs : List Instance). record { class = class; alias = alias'; properties = ps' } ∷ zs) rest

-- a text spells one list
pub spells_same : (chars : List ℕ) (is js : List Instance) → WideSpells chars is → WideSpells chars js → is ≡ js
spells_same chars is js a b = declarations_same a.0 is js a.2 (subst (λ (ts : List Lexeme). InstanceDeclarations ts js) (sym (lexes_same chars a.0 b.0 a.1 b.1)) b.2)
