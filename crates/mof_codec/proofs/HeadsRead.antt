-- What stands before the properties of a declaration.
use Rattle.std.proofs.Common.{◌≡◌, ℕ, List, ◌∷◌, Option, Some, None, refl, sym, ap, subst, ◌∙◌, codes}
use Rattle.mof_values.specs.Fold.{SameName}
use Rattle.mof_syntax.specs.Tokens.{Lexeme, Word, AliasName, LeftBrace, Lexes}
use Rattle.mof_syntax.specs.Grammar.{unnamed, named}
use Rattle.mof_syntax.specs.Limits.{IsShortName}
use Rattle.mof_codec.specs.Reading.{Begins, BeginsNo, Only, BeginsWith, Lacks}
use Rattle.mof_codec.specs.Values.{IsMark, IsKeyword, IsWord, IsAlias, IsHead, IsNaming, NamingFits}
use Rattle.mof_codec.specs.declared.values.marks.Mark.TheVariants as marks
use Rattle.mof_codec.proofs.TokenFronts.{begins_as, Joined, begins_join}
use Rattle.mof_syntax.proofs.Lists.{tail_same}

-- instance of a class

only_head : (us : List Lexeme) (i : List ℕ) (vs : List Lexeme) (o : List ℕ) (ws : List Lexeme) (class : List ℕ) (ts : List Lexeme)
    → us ≡ Word i ∷ vs → SameName i (codes "instance") → vs ≡ Word o ∷ ws → SameName o (codes "of") → ws ≡ Word class ∷ ts → Only IsHead us class ts
only_head us i vs o ws class ts e is_instance f is_of g =
    let all : us ≡ Word i ∷ Word o ∷ Word class ∷ ts = e ∙ ap (λ (xs : List Lexeme). Word i ∷ xs) f ∙ ap (λ (xs : List Lexeme). Word i ∷ Word o ∷ xs) g in
    record { holds = (i, o, all, is_instance, is_of); only = λ b rest n h. front h.0 h.1 b rest (sym h.2 ∙ all) }
  where
    front : (j p b : List ℕ) (rest : List Lexeme) → Word j ∷ Word p ∷ Word b ∷ rest ≡ Word i ∷ Word o ∷ Word class ∷ ts → (b ≡ class) × (rest ≡ ts)
    front j p b rest h = (cc, cc)

abbrev Instance : List Lexeme → List Lexeme → Type 0
Instance us ts = IsKeyword (codes "instance") us ts

abbrev InstanceOf : List Lexeme → List Lexeme → Type 0
InstanceOf us ts = Joined (IsKeyword (codes "instance")) (IsKeyword (codes "of")) us ts

module _ (cs : List ℕ) where
  pub lacks_instance : BeginsNo (IsKeyword (codes "instance")) cs → Lacks IsHead IsShortName cs
  lacks_instance absent us ts class n l h f = absent us (Word h.1 ∷ Word class ∷ ts) l (h.0, h.2, h.3)

  module _ (mid : List ℕ) (a : Begins (IsKeyword (codes "instance")) cs mid) where
    after_instance : (us ts : List Lexeme) (class : List ℕ) → Lexes cs us → IsHead us class ts → (o : List ℕ) × Lexes mid (Word o ∷ Word class ∷ ts) × SameName o (codes "of")
    after_instance us ts class l h =
        let x = a.only us l in
        (h.1, subst (λ (xs : List Lexeme). Lexes mid xs) (tail_same _ _ x.0 (Word h.1 ∷ Word class ∷ ts) (sym x.2.1 ∙ h.2)) x.1, h.4)

    pub lacks_of : BeginsNo (IsKeyword (codes "of")) mid → Lacks IsHead IsShortName cs
    lacks_of absent us ts class n l h f = let x = after_instance us ts class l h in absent (Word x.0 ∷ Word class ∷ ts) (Word class ∷ ts) x.1 (x.0, refl, x.2)

    module _ (last : List ℕ) (b : Begins (IsKeyword (codes "of")) mid last) where
      pub lacks_class : Lacks IsWord IsShortName last → Lacks IsHead IsShortName cs
      lacks_class lacks us ts class n l h f =
          let x = after_instance us ts class l h in
          let y = b.only (Word x.0 ∷ Word class ∷ ts) x.1 in
          lacks y.0 ts class n y.1 (sym (tail_same _ _ (Word class ∷ ts) y.0 y.2.1)) f

      pub reads_head : (class rest : List ℕ) → BeginsWith IsWord IsShortName last class rest → BeginsWith IsHead IsShortName cs class rest
      reads_head class rest r = record {
        fits = r.fits;
        begins = begins_as (Joined InstanceOf (λ us ts. Only IsWord us class ts)) (λ us ts. Only IsHead us class ts) cs rest
            (λ us ts j. only_head us j.1.1.0 j.1.0 j.1.2.0 j.0 class ts j.1.1.1 j.1.1.2 j.1.2.1 j.1.2.2 j.2.holds)
            (begins_join InstanceOf (λ us ts. Only IsWord us class ts) cs last rest (begins_join (IsKeyword (codes "instance")) (IsKeyword (codes "of")) cs mid last a b) r.begins);
      }

-- an alias, or none, and the brace

data NamingCase (us : List Lexeme) (alias : Option (List ℕ)) (ts : List Lexeme) : Type 0 where
  at_brace : us ≡ LeftBrace ∷ ts → alias ≡ None → NamingCase us alias ts
  at_as : (w name : List ℕ) → us ≡ Word w ∷ AliasName name ∷ LeftBrace ∷ ts → SameName w (codes "as") → alias ≡ Some name → NamingCase us alias ts

naming_case : (us : List Lexeme) (alias : Option (List ℕ)) (ts : List Lexeme) → IsNaming us alias ts → NamingCase us alias ts
naming_case us alias ts (unnamed r) = at_brace refl refl
naming_case us alias ts (named w name r same) = at_as w name refl same refl

apart_naming : (w : List ℕ) (ts us : List Lexeme) → Word w ∷ ts ≡ LeftBrace ∷ us → ⊥
apart_naming w ts us e = cc

only_unnamed : (us ts : List Lexeme) → us ≡ LeftBrace ∷ ts → Only IsNaming us None ts
only_unnamed us ts e = record {
  holds = subst (λ (xs : List Lexeme). IsNaming xs None ts) (sym e) (unnamed (LeftBrace ∷ ts));
  only = λ alias rest n h. goes alias rest (naming_case us alias rest h);
}
  where
    goes : (alias : Option (List ℕ)) (rest : List Lexeme) → NamingCase us alias rest → (alias ≡ None) × (rest ≡ ts)
    goes alias rest (at_brace f g) = (g, tail_same LeftBrace LeftBrace rest ts (sym f ∙ e))
    goes alias rest (at_as w name f same g) = absurd (apart_naming w _ ts (sym f ∙ e))

pub reads_unnamed : (cs rest : List ℕ) → Begins (IsMark marks.LeftBrace) cs rest → BeginsWith IsNaming NamingFits cs None rest
reads_unnamed cs rest b = record {
  fits = tt;
  begins = begins_as (IsMark marks.LeftBrace) (λ us ts. Only IsNaming us None ts) cs rest (λ us ts e. only_unnamed us ts e) b;
}

only_named : (us : List Lexeme) (w : List ℕ) (vs : List Lexeme) (name : List ℕ) (ws ts : List Lexeme) → us ≡ Word w ∷ vs → SameName w (codes "as") → vs ≡ AliasName name ∷ ws → ws ≡ LeftBrace ∷ ts
    → Only IsNaming us (Some name) ts
only_named us w vs name ws ts e same f g =
    let all : us ≡ Word w ∷ AliasName name ∷ LeftBrace ∷ ts = e ∙ ap (λ (xs : List Lexeme). Word w ∷ xs) f ∙ ap (λ (xs : List Lexeme). Word w ∷ AliasName name ∷ xs) g in
    record {
      holds = subst (λ (xs : List Lexeme). IsNaming xs (Some name) ts) (sym all) (named w name (LeftBrace ∷ ts) same);
      only = λ alias rest n h. goes all alias rest (naming_case us alias rest h);
    }
  where
    front : (v x : List ℕ) (rest : List Lexeme) → Word v ∷ AliasName x ∷ LeftBrace ∷ rest ≡ Word w ∷ AliasName name ∷ LeftBrace ∷ ts → (x ≡ name) × (rest ≡ ts)
    front v x rest h = (cc, cc)

    goes : us ≡ Word w ∷ AliasName name ∷ LeftBrace ∷ ts → (alias : Option (List ℕ)) (rest : List Lexeme) → NamingCase us alias rest → (alias ≡ Some name) × (rest ≡ ts)
    goes all alias rest (at_brace h k) = absurd (apart_naming w _ rest (sym all ∙ h))
    goes all alias rest (at_as v x h other k) = let z = front v x rest (sym h ∙ all) in (k ∙ ap (λ (y : List ℕ). Some y) z.0, z.1)

abbrev Aliased : List ℕ → List Lexeme → List Lexeme → Type 0
Aliased name us ts = Joined (IsKeyword (codes "as")) (λ xs ys. Only IsAlias xs name ys) us ts

module _ (cs : List ℕ) (no_brace : BeginsNo (IsMark marks.LeftBrace) cs) where
  after_brace : (us ts : List Lexeme) (alias : Option (List ℕ)) → Lexes cs us → NamingCase us alias ts
      → (w : List ℕ) × (name : List ℕ) × (us ≡ Word w ∷ AliasName name ∷ LeftBrace ∷ ts) × SameName w (codes "as") × (alias ≡ Some name)
  after_brace us ts alias l (at_brace e f) = absurd (no_brace us ts l e)
  after_brace us ts alias l (at_as w name e same f) = (w, name, e, same, f)

  pub lacks_as : BeginsNo (IsKeyword (codes "as")) cs → Lacks IsNaming NamingFits cs
  lacks_as absent us ts alias n l h f =
      let x = after_brace us ts alias l (naming_case us alias ts h) in
      absent us (AliasName x.1 ∷ LeftBrace ∷ ts) l (x.0, x.2, x.3)

  module _ (mid : List ℕ) (a : Begins (IsKeyword (codes "as")) cs mid) where
    after_as : (us ts : List Lexeme) (alias : Option (List ℕ)) → Lexes cs us → IsNaming us alias ts
        → (name : List ℕ) × Lexes mid (AliasName name ∷ LeftBrace ∷ ts) × (alias ≡ Some name)
    after_as us ts alias l h =
        let x = after_brace us ts alias l (naming_case us alias ts h) in
        let y = a.only us l in
        (x.1, subst (λ (xs : List Lexeme). Lexes mid xs) (tail_same _ _ y.0 (AliasName x.1 ∷ LeftBrace ∷ ts) (sym y.2.1 ∙ x.2)) y.1, x.4)

    pub lacks_alias_name : Lacks IsAlias IsShortName mid → Lacks IsNaming NamingFits cs
    lacks_alias_name lacks us ts alias n l h f =
        let x = after_as us ts alias l h in
        lacks (AliasName x.0 ∷ LeftBrace ∷ ts) (LeftBrace ∷ ts) x.0 tt x.1 refl (subst NamingFits x.2 f)

    module _ (name left : List ℕ) (r : BeginsWith IsAlias IsShortName mid name left) where
      pub lacks_brace : BeginsNo (IsMark marks.LeftBrace) left → Lacks IsNaming NamingFits cs
      lacks_brace absent us ts alias n l h f =
          let x = after_as us ts alias l h in
          let y = r.begins.only (AliasName x.0 ∷ LeftBrace ∷ ts) x.1 in
          absent y.0 ts y.1 (sym (y.2.only x.0 (LeftBrace ∷ ts) tt refl).1)

pub reads_named : (cs mid : List ℕ) → Begins (IsKeyword (codes "as")) cs mid → (name left : List ℕ) → BeginsWith IsAlias IsShortName mid name left → (rest : List ℕ)
    → Begins (IsMark marks.LeftBrace) left rest → BeginsWith IsNaming NamingFits cs (Some name) rest
reads_named cs mid a name left r rest b = record {
  fits = r.fits;
  begins = begins_as (Joined (Aliased name) (IsMark marks.LeftBrace)) (λ us ts. Only IsNaming us (Some name) ts) cs rest
      (λ us ts j. only_named us j.1.1.0 j.1.0 name j.0 ts j.1.1.1 j.1.1.2 j.1.2.holds j.2)
      (begins_join (Aliased name) (IsMark marks.LeftBrace) cs left rest (begins_join (IsKeyword (codes "as")) (λ us ts. Only IsAlias us name ts) cs mid left a r.begins) b);
}
