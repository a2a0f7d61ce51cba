-- What the rules do not hold of.
use Rattle.std.proofs.Common.{◌≡◌, ℕ, List, [], ◌∷◌, codes, refl, sym, subst, ◌++◌, arith}
use Rattle.mof_values.specs.declared.instance.Property.{Property}
use Rattle.mof_values.specs.declared.value.Scalar.{Scalar}
use Rattle.mof_syntax.specs.Tokens.{Lexeme, Word, Number, LeftBrace, RightBrace, EqualsSign, Semicolon, Comma}
use Rattle.mof_syntax.specs.Grammar.{StringValue, last, joined, ConstantValue, string_value, integer_value, true_value, false_value, null_value, alias_identifier, Elements, element, constant, array, ValueInitializers, unnamed, instance_declaration}
use Rattle.mof_examples.specs.Rules.{one, declared, NoConstant, NoInitializer, NoDeclarations}

-- the tokens do not begin with a mark or with a word that is no keyword
abbrev pub MayBegin : List Lexeme → Type 0
MayBegin [] = ⊥
MayBegin (LeftBrace ∷ ts) = ⊥
MayBegin (RightBrace ∷ ts) = ⊥
MayBegin (EqualsSign ∷ ts) = ⊥
MayBegin (Semicolon ∷ ts) = ⊥
MayBegin (Comma ∷ ts) = ⊥
MayBegin (t ∷ ts) = Unit {0}

string_begins : (ts rest : List Lexeme) (text : List ℕ) → StringValue ts text rest → MayBegin ts
string_begins ts rest text (last t r) = tt
string_begins ts rest text (joined t m us r s) = tt

constant_begins : (ts rest : List Lexeme) (s : Scalar) → ConstantValue ts s rest → MayBegin ts
constant_begins ts rest s (string_value us r text v) = string_begins us r text v
constant_begins ts rest s (integer_value z r) = tt
constant_begins ts rest s (true_value w r h) = tt
constant_begins ts rest s (false_value w r h) = tt
constant_begins ts rest s (null_value w r h) = tt
constant_begins ts rest s (alias_identifier name r) = tt

different : (c d : ℕ) (cs ds : List ℕ) → (c ≡ d → ⊥) → (c ∷ cs) ≡ (d ∷ ds) → ⊥
different c d cs ds h e = h cc

no_string_word : (w : List ℕ) (ts rest : List Lexeme) (text : List ℕ) → StringValue (Word w ∷ ts) text rest → ⊥
no_string_word w ts rest text s = elim s [ ]

pub no_other_word : NoConstant (Word (codes "yes") ∷ [])
no_other_word s rest (string_value us r text v) = no_string_word _ _ _ _ v
no_other_word s rest (true_value w r h) = different 121 116 _ _ (λ e. omega arith) h
no_other_word s rest (false_value w r h) = different 121 102 _ _ (λ e. omega arith) h
no_other_word s rest (null_value w r h) = different 121 110 _ _ (λ e. omega arith) h

pub no_nested_array : NoInitializer (LeftBrace ∷ LeftBrace ∷ one ∷ RightBrace ∷ RightBrace ∷ [])
no_nested_array v rest (constant us r s h) = constant_begins _ _ _ h
no_nested_array v rest (array us after r s ss h e) = constant_begins _ _ _ h

one_rest : (ts rest : List Lexeme) (s : Scalar) → ConstantValue (one ∷ ts) s rest → ts ≡ rest
one_rest ts rest s (string_value us r text v) = absurd (no_string_number _ _ _ _ v)
  where
    no_string_number : (z : _) (us r : List Lexeme) (text : List ℕ) → StringValue (Number z ∷ us) text r → ⊥
    no_string_number z us r text v = elim v [ ]
one_rest ts rest s (integer_value z r) = refl

no_element_brace : (ss : List Scalar) (rest : List Lexeme) → Elements (Comma ∷ RightBrace ∷ []) ss rest → ⊥
no_element_brace ss rest (element us after r s more h e) = constant_begins _ _ _ h

no_element_number : (ss : List Scalar) (rest : List Lexeme) → Elements (one ∷ RightBrace ∷ []) ss rest → ⊥
no_element_number ss rest e = elim e [ ]

pub no_comma_at_the_end : NoInitializer (LeftBrace ∷ one ∷ Comma ∷ RightBrace ∷ [])
no_comma_at_the_end v rest (constant us r s h) = constant_begins _ _ _ h
no_comma_at_the_end v rest (array us after r s ss h e) = no_element_brace ss r (subst (λ (ts : List Lexeme). Elements ts ss r) (sym (one_rest _ _ _ h)) e)

pub no_comma_between : NoInitializer (LeftBrace ∷ one ∷ one ∷ RightBrace ∷ [])
no_comma_between v rest (constant us r s h) = constant_begins _ _ _ h
no_comma_between v rest (array us after r s ss h e) = no_element_number ss r (subst (λ (ts : List Lexeme). Elements ts ss r) (sym (one_rest _ _ _ h)) e)

pub no_semicolon_at_the_end : NoDeclarations (declared (LeftBrace ∷ RightBrace ∷ []))
no_semicolon_at_the_end instances (instance_declaration i o class alias ts body after ps more a b (unnamed r) p d) = no_properties _ _ p
  where
    no_properties : (qs : List Property) (r : List Lexeme) → ValueInitializers (RightBrace ∷ []) qs (Semicolon ∷ r) → ⊥
    no_properties qs r v = elim v [ ]

pub no_class : NoDeclarations (Word (codes "instance") ∷ Word (codes "of") ∷ LeftBrace ∷ RightBrace ∷ Semicolon ∷ [])
no_class instances d = elim d [ ]

pub no_other_keyword : NoDeclarations (Word (codes "instances") ∷ Word (codes "of") ∷ Word (codes "A") ∷ LeftBrace ∷ RightBrace ∷ Semicolon ∷ [])
no_other_keyword instances (instance_declaration i o class alias ts body after ps more a b c p d) = longer _ _ a
  where
    longer : (x : ℕ) (xs : List ℕ) → codes "instance" ++ x ∷ xs ≡ codes "instance" → ⊥
    longer x xs e = cc
