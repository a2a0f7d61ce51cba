-- Identifiers as words and aliases.
use Rattle.std.proofs.Common.{◌≡◌, ℕ, Bool, true, false, List, [], ◌∷◌, ◌++◌, length, Some, None, refl, sym, ap, subst, ◌∙◌, arith}
use Rattle.std.specs.Prelude.{nat_le}
use Rattle.std.specs.List.{list_all}
use Rattle.std.proofs.lemmas.List.{append_cancel_right}
use Rattle.std.proofs.lemmas.Bool.Decides.{nat_tests}
use Rattle.mof_values.specs.Fold.{SameName}
use Rattle.mof_values.specs.Ident.{is_next, is_ident, IsIdent}
use Rattle.mof_syntax.specs.Characters.{EndsWith, Run, stop, more}
use Rattle.mof_syntax.specs.Separators.{Separators}
use Rattle.mof_syntax.specs.Scanning.{separator_rest, identifier_rest}
use Rattle.mof_syntax.specs.Limits.{IsShortName}
use Rattle.mof_syntax.specs.Tokens.{Lexeme, Word, AliasName, Identifier, identifier, IsToken, word, alias}
use Rattle.mof_syntax.proofs.Scans.{read-identifier}
use Rattle.mof_codec.specs.Reading.{Begins, BeginsNo, Only, BeginsWith, Lacks}
use Rattle.mof_codec.specs.Values.{IsKeyword, IsWord, IsAlias, NoIdentifier, DollarIdentifier, NoDollarIdentifier}
use Rattle.mof_codec.proofs.TokenFronts.{begins_token, begins_as, first_of}
use Rattle.mof_values.specs.declared.limits.TheConstants.{MAX_IDENTIFIER}

run_split : (p : ℕ → Bool) (cs run rest : List ℕ) → Run p cs run rest → cs ≡ run ++ rest
run_split p cs run rest (stop r) = refl
run_split p cs run rest (more c us v r e on) = ap (λ (xs : List ℕ). c ∷ xs) (run_split p us v r on)

identifier_split : (cs name rest : List ℕ) → Identifier cs name rest → cs ≡ name ++ rest
identifier_split cs name rest (identifier c us tail r e run s) = ap (λ (xs : List ℕ). c ∷ xs) (run_split is_next us tail r run)

pub identifier_end : (cs rest : List ℕ) → Some rest ≡ identifier_rest cs → EndsWith cs rest
identifier_end cs rest e =
    let i = read-identifier cs rest (sym e) in
    (i.0, identifier_split cs i.0 rest i.1)

pub identifier_front : (cs name rest : List ℕ) → Some rest ≡ identifier_rest cs → cs ≡ name ++ rest → Identifier cs name rest
identifier_front cs name rest e split =
    let i = read-identifier cs rest (sym e) in
    subst (λ (xs : List ℕ). Identifier cs xs rest) (append_cancel_right i.0 name rest (sym (identifier_split cs i.0 rest i.1) ∙ split)) i.1

-- identifiers that are not too long

run_all : (p : ℕ → Bool) (cs run rest : List ℕ) → Run p cs run rest → list_all p run ≡ true
run_all p cs run rest (stop r) = refl
run_all p cs run rest (more c us v r e on) = rw e (run_all p us v r on)

pub short_ident : (cs name rest : List ℕ) → Identifier cs name rest → IsShortName name → is_ident name ≡ false → ⊥
short_ident cs name rest (identifier c us tail r e run s) short absent = absurd (clash (sym absent ∙ holds))
  where
    clash : false ≡ true → ⊥
    clash h = cc

    fits : nat_le (length (c ∷ tail)) MAX_IDENTIFIER ≡ true
    fits = grind (arith, nat_tests)

    holds : is_ident (c ∷ tail) ≡ true
    holds = rw (e, run_all is_next us tail r run, fits) refl

pub ident_short : (name : List ℕ) → IsIdent name → IsShortName name
ident_short [] h = omega arith
ident_short (c ∷ cs) h = grind (arith, nat_tests)

-- words

word_identifier : (cs name rest : List ℕ) → IsToken cs (Word name) rest → Identifier cs name rest
word_identifier cs name rest (word us n r i) = i

alias_identifier : (cs name rest : List ℕ) → IsToken cs (AliasName name) rest → DollarIdentifier cs name rest
alias_identifier cs name rest (alias us n r i) = (us, refl, i)

module _ (cs left : List ℕ) (s : Separators cs left) where
  pub begins_word : (name rest : List ℕ) → Identifier left name rest → Begins (λ us ts. us ≡ Word name ∷ ts) cs rest
  begins_word name rest i = begins_token cs left (Word name) rest s (word left name rest i)

  pub begins_alias : (name rest : List ℕ) → DollarIdentifier left name rest → Begins (λ us ts. us ≡ AliasName name ∷ ts) cs rest
  begins_alias name rest i =
      begins_token cs left (AliasName name) rest s (subst (λ (xs : List ℕ). IsToken xs (AliasName name) rest) (sym i.1) (alias i.0 name rest i.2))

  pub begins_keyword : (keyword name rest : List ℕ) → Identifier left name rest → SameName name keyword → Begins (IsKeyword keyword) cs rest
  begins_keyword keyword name rest i same =
      begins_as (λ us ts. us ≡ Word name ∷ ts) (IsKeyword keyword) cs rest (λ us ts e. (name, e, same)) (begins_word name rest i)

  pub reads_word : (name rest : List ℕ) → Identifier left name rest → IsIdent name → BeginsWith IsWord IsShortName cs name rest
  reads_word name rest i ident = record {
    fits = ident_short name ident;
    begins = begins_as (λ us ts. us ≡ Word name ∷ ts) (λ us ts. Only IsWord us name ts) cs rest (λ us ts e. record { holds = e; only = λ b vs n f. same us b vs ts e f }) (begins_word name rest i);
  }
    where
      same : (us : List Lexeme) (b : List ℕ) (vs ts : List Lexeme) → us ≡ Word name ∷ ts → us ≡ Word b ∷ vs → (b ≡ name) × (vs ≡ ts)
      same us b vs ts e f = (cc, cc)

  pub reads_alias : (name rest : List ℕ) → DollarIdentifier left name rest → IsIdent name → BeginsWith IsAlias IsShortName cs name rest
  reads_alias name rest i ident = record {
    fits = ident_short name ident;
    begins = begins_as (λ us ts. us ≡ AliasName name ∷ ts) (λ us ts. Only IsAlias us name ts) cs rest (λ us ts e. record { holds = e; only = λ b vs n f. same us b vs ts e f }) (begins_alias name rest i);
  }
    where
      same : (us : List Lexeme) (b : List ℕ) (vs ts : List Lexeme) → us ≡ AliasName name ∷ ts → us ≡ AliasName b ∷ vs → (b ≡ name) × (vs ≡ ts)
      same us b vs ts e f = (cc, cc)

  module _ (stops : separator_rest left ≡ None) where
    pub lacks_word : NoIdentifier left → Lacks IsWord IsShortName cs
    lacks_word absent us ts name n l is fits = let f = first_of cs left us (Word name) ts s stops l is in absent name f.0 (word_identifier left name f.0 f.1)

    pub begins_no_word : (keyword : List ℕ) → NoIdentifier left → BeginsNo (IsKeyword keyword) cs
    begins_no_word keyword absent us ts l is = let f = first_of cs left us (Word is.0) ts s stops l is.1 in absent is.0 f.0 (word_identifier left is.0 f.0 f.1)

    pub lacks_alias : NoDollarIdentifier left → Lacks IsAlias IsShortName cs
    lacks_alias absent us ts name n l is fits = let f = first_of cs left us (AliasName name) ts s stops l is in absent name f.0 (alias_identifier left name f.0 f.1)

-- another name

module _ (cs name rest : List ℕ) (b : Begins (λ us ts. us ≡ Word name ∷ ts) cs rest) where
  -- the word is too long
  pub lacks_this_word : (IsShortName name → ⊥) → Lacks IsWord IsShortName cs
  lacks_this_word absent us ts other n l is fits =
      let x = b.only us l in
      absent (subst IsShortName (same us other ts x.0 is x.2) fits)
    where
      same : (us : List Lexeme) (other : List ℕ) (ts vs : List Lexeme) → us ≡ Word other ∷ ts → us ≡ Word name ∷ vs → other ≡ name
      same us other ts vs e f = cc

  -- it is another word than the keyword
  pub begins_other_word : (keyword : List ℕ) → (SameName name keyword → ⊥) → BeginsNo (IsKeyword keyword) cs
  begins_other_word keyword apart us ts l is =
      let x = b.only us l in
      apart (subst (λ (w : List ℕ). SameName w keyword) (same us is.0 ts x.0 is.1 x.2) is.2)
    where
      same : (us : List Lexeme) (other : List ℕ) (ts vs : List Lexeme) → us ≡ Word other ∷ ts → us ≡ Word name ∷ vs → other ≡ name
      same us other ts vs e f = cc

pub lacks_this_alias : (cs name rest : List ℕ) → Begins (λ us ts. us ≡ AliasName name ∷ ts) cs rest → (IsShortName name → ⊥) → Lacks IsAlias IsShortName cs
lacks_this_alias cs name rest b long us ts other n l is fits =
    let x = b.only us l in
    long (subst IsShortName (same us other ts x.0 is x.2) fits)
  where
    same : (us : List Lexeme) (other : List ℕ) (ts vs : List Lexeme) → us ≡ AliasName other ∷ ts → us ≡ AliasName name ∷ vs → other ≡ name
    same us other ts vs e f = cc
