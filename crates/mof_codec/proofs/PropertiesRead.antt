-- Properties, as far as they were read.
use Rattle.std.proofs.Common.{◌≡◌, ◌≤◌, ◌<◌, ◌+◌, ℕ, List, [], ◌∷◌, ◌++◌, length, refl, sym, ap, subst, ◌∙◌, arith, append_assoc, append-nil, length-append}
use Rattle.std.specs.List.{AllByRecursion}
use Rattle.mof_values.specs.declared.instance.Property.{Property}
use Rattle.mof_values.specs.declared.value.Value.{Value}
use Rattle.mof_syntax.specs.Tokens.{Lexeme, Word, RightBrace, EqualsSign, Semicolon, Lexes}
use Rattle.mof_syntax.specs.Grammar.{NoLiteral, Initializer, ValueInitializers, done, value_initializer}
use Rattle.mof_syntax.specs.Limits.{properties_limit, IsShortName, ValueFits, PropertyFits}
use Rattle.mof_codec.specs.Reading.{Begins, BeginsNo, Only, BeginsWith, Lacks}
use Rattle.mof_codec.specs.Values.{IsMark, IsWord, IsProperty, PropertiesFit}
use Rattle.mof_codec.specs.declared.values.marks.Mark.TheVariants as marks
use Rattle.mof_codec.proofs.TokenFronts.{begins_as, Joined, begins_join}
use Rattle.mof_syntax.proofs.Lists.{tail_same}
use Rattle.mof_codec.proofs.Parts.{all_push, all_at, more_than}

-- one property

abbrev named : List ℕ → Value → Property
named name value = record { name = name; value = value }

only_property : (us : List Lexeme) (name : List ℕ) (vs ws : List Lexeme) (value : Value) (xs ts : List Lexeme)
    → us ≡ Word name ∷ vs → vs ≡ EqualsSign ∷ ws → Only Initializer ws value xs → xs ≡ Semicolon ∷ ts → Only IsProperty us (named name value) ts
only_property us name vs ws value xs ts e f o g = record {
  holds = (ws, e ∙ ap (λ (ys : List Lexeme). Word name ∷ ys) f, subst (λ (ys : List Lexeme). Initializer ws value ys) g o.holds);
  only = λ p rest n i.
      let same = front p.name name i.0 ws (sym i.1 ∙ e ∙ ap (λ (ys : List Lexeme). Word name ∷ ys) f) in
      let one = o.only p.value (Semicolon ∷ rest) tt (subst (λ (ys : List Lexeme). Initializer ys p.value (Semicolon ∷ rest)) same.1 i.2) in
      (ap (λ (x : List ℕ). named x p.value) same.0 ∙ ap (λ (v : Value). named name v) one.0, tail_same Semicolon Semicolon rest ts (one.1 ∙ g));
}
  where
    front : (x y : List ℕ) (ys zs : List Lexeme) → Word x ∷ EqualsSign ∷ ys ≡ Word y ∷ EqualsSign ∷ zs → (x ≡ y) × (ys ≡ zs)
    front x y ys zs h = (cc, cc)

abbrev Opened : List ℕ → List Lexeme → List Lexeme → Type 0
Opened name = Joined (λ us ts. Only IsWord us name ts) (IsMark marks.EqualsSign)

abbrev Valued : List ℕ → Value → List Lexeme → List Lexeme → Type 0
Valued name value = Joined (Opened name) (λ us ts. Only Initializer us value ts)

abbrev WholeProperty : List ℕ → Value → List Lexeme → List Lexeme → Type 0
WholeProperty name value = Joined (Valued name value) (IsMark marks.Semicolon)

module _ (cs : List ℕ) where
  pub lacks_property_name : Lacks IsWord IsShortName cs → Lacks IsProperty PropertyFits cs
  lacks_property_name lacks us ts p n l i f = lacks us (EqualsSign ∷ i.0) p.name tt l i.1 f.name

  module _ (name mid : List ℕ) (r : BeginsWith IsWord IsShortName cs name mid) where
    after_name : (us : List Lexeme) (ts : List Lexeme) (p : Property) → Lexes cs us → IsProperty us p ts → (ws : List Lexeme) × Lexes mid (EqualsSign ∷ ws) × Initializer ws p.value (Semicolon ∷ ts)
    after_name us ts p l i =
        let x = r.begins.only us l in
        let same = x.2.only p.name (EqualsSign ∷ i.0) tt i.1 in
        (i.0, subst (λ (ys : List Lexeme). Lexes mid ys) (sym same.1) x.1, i.2)

    pub lacks_equals : BeginsNo (IsMark marks.EqualsSign) mid → Lacks IsProperty PropertyFits cs
    lacks_equals no_equals us ts p n l i f = let x = after_name us ts p l i in no_equals (EqualsSign ∷ x.0) x.0 x.1 refl

    module _ (given : List ℕ) (b : Begins (IsMark marks.EqualsSign) mid given) where
      after_equals : (us : List Lexeme) (ts : List Lexeme) (p : Property) → Lexes cs us → IsProperty us p ts → (ws : List Lexeme) × Lexes given ws × Initializer ws p.value (Semicolon ∷ ts)
      after_equals us ts p l i =
          let x = after_name us ts p l i in
          let y = b.only (EqualsSign ∷ x.0) x.1 in
          (y.0, y.1, subst (λ (ys : List Lexeme). Initializer ys p.value (Semicolon ∷ ts)) (tail_same EqualsSign EqualsSign x.0 y.0 y.2) x.2)

      pub lacks_value : Lacks Initializer ValueFits given → Lacks IsProperty PropertyFits cs
      lacks_value lacks us ts p n l i f = let x = after_equals us ts p l i in lacks x.0 (Semicolon ∷ ts) p.value tt x.1 x.2 f.value

      module _ (value : Value) (end : List ℕ) (v : BeginsWith Initializer ValueFits given value end) where
        pub lacks_semicolon : BeginsNo (IsMark marks.Semicolon) end → Lacks IsProperty PropertyFits cs
        lacks_semicolon no_semicolon us ts p n l i f =
            let x = after_equals us ts p l i in
            let y = v.begins.only x.0 x.1 in
            let same = y.2.only p.value (Semicolon ∷ ts) tt x.2 in
            no_semicolon y.0 ts y.1 (sym same.1)

        pub reads_property : (rest : List ℕ) → Begins (IsMark marks.Semicolon) end rest → BeginsWith IsProperty PropertyFits cs (named name value) rest
        reads_property rest s = record {
          fits = record { name = r.fits; value = v.fits };
          begins = begins_as (WholeProperty name value) (λ us ts. Only IsProperty us (named name value) ts) cs rest
              (λ us ts j. only_property us name j.1.1.0 j.1.0 value j.0 ts j.1.1.1.holds j.1.1.2 j.1.2 j.2)
              (begins_join (Valued name value) (IsMark marks.Semicolon) cs end rest
              (begins_join (Opened name) (λ us ts. Only Initializer us value ts) cs given end
              (begins_join (λ us ts. Only IsWord us name ts) (IsMark marks.EqualsSign) cs mid given r.begins b) v.begins) s);
        }

-- properties, one after another

pub record PropertiesOn (us : List Lexeme) (ps : List Property) (ts : List Lexeme) : Type 0 where
  pub on : (more : List Property) (rest : List Lexeme) → ValueInitializers ts more rest → ValueInitializers us (ps ++ more) rest
  pub only : (all : List Property) (rest : List Lexeme) → ValueInitializers us all rest → (more : List Property) × (all ≡ ps ++ more) × ValueInitializers ts more rest

pub record BodySoFar (cs : List ℕ) (ps : List Property) (left : List ℕ) : Type 0 where
  pub begins : Begins (λ us ts. PropertiesOn us ps ts) cs left
  pub each : AllByRecursion PropertyFits ps
  pub few : length ps ≤ properties_limit

pub body_start : (cs : List ℕ) → BodySoFar cs [] cs
body_start cs = record {
  begins = record { on = λ ts l. (ts, l, nothing_yet ts); only = λ us l. (us, l, nothing_yet us) };
  each = tt;
  few = omega arith;
}
  where
    nothing_yet : (us : List Lexeme) → PropertiesOn us [] us
    nothing_yet us = record { on = λ more rest h. h; only = λ all rest h. (all, refl, h) }

data BodyCase (vs : List Lexeme) (more : List Property) (rest : List Lexeme) : Type 0 where
  at_closing : vs ≡ RightBrace ∷ rest → more ≡ [] → BodyCase vs more rest
  at_property : (p : Property) (others : List Property) (after : List Lexeme) → IsProperty vs p after → ValueInitializers after others rest → more ≡ p ∷ others → BodyCase vs more rest

body_case : (vs : List Lexeme) (more : List Property) (rest : List Lexeme) → ValueInitializers vs more rest → BodyCase vs more rest
body_case vs more rest (done r) = at_closing refl refl
body_case vs more rest (value_initializer name ts after r v ps i h) = at_property (named name v) ps after (ts, refl, i) h refl

apart_closing : (name : List ℕ) (ts us : List Lexeme) → Word name ∷ ts ≡ RightBrace ∷ us → ⊥
apart_closing name ts us e = cc

-- the rest after a property begins with a word or a brace
pub body_first : (vs : List Lexeme) (more : List Property) (rest : List Lexeme) → ValueInitializers vs more rest → NoLiteral vs
body_first vs more rest (done r) = tt
body_first vs more rest (value_initializer name ts after r v ps i h) = tt

after_property : (vs : List Lexeme) (p : Property) (ts : List Lexeme) (more : List Property) (rest : List Lexeme) → Only IsProperty vs p ts → BodyCase vs more rest
    → (others : List Property) × (more ≡ p ∷ others) × ValueInitializers ts others rest
after_property vs p ts more rest o (at_closing e f) = absurd (apart_closing p.name _ rest (sym o.holds.1 ∙ e))
after_property vs p ts more rest o (at_property q others after i h f) =
    let same = o.only q after (body_first after others rest h) i in
    (others, f ∙ ap (λ (x : Property). x ∷ others) same.0, subst (λ (ys : List Lexeme). ValueInitializers ys others rest) same.1 h)

body_after_closing : (vs ts : List Lexeme) (more : List Property) (rest : List Lexeme) → vs ≡ RightBrace ∷ ts → BodyCase vs more rest → (more ≡ []) × (rest ≡ ts)
body_after_closing vs ts more rest e (at_closing f g) = (g, tail_same RightBrace RightBrace rest ts (sym f ∙ e))
body_after_closing vs ts more rest e (at_property p others after i h f) = absurd (apart_closing p.name _ ts (sym i.1 ∙ e))

properties_next : (us : List Lexeme) (ps : List Property) (vs : List Lexeme) (p : Property) (ts : List Lexeme) → PropertiesOn us ps vs → Only IsProperty vs p ts → PropertiesOn us (ps ++ p ∷ []) ts
properties_next us ps vs p ts x o = record {
  on = λ more rest h.
      subst (λ (qs : List Property). ValueInitializers us qs rest) (sym (append_assoc ps (p ∷ []) more))
      (x.on (p ∷ more) rest (subst (λ (ys : List Lexeme). ValueInitializers ys (p ∷ more) rest) (sym o.holds.1) (value_initializer p.name o.holds.0 ts rest p.value more o.holds.2 h)));
  only = λ all rest i.
      let y = x.only all rest i in
      let z = after_property vs p ts y.0 rest o (body_case vs y.0 rest y.2) in
      (z.0, y.1 ∙ ap (λ (qs : List Property). ps ++ qs) z.1 ∙ sym (append_assoc ps (p ∷ []) z.0), z.2);
}

properties_end : (us : List Lexeme) (ps : List Property) (vs ts : List Lexeme) → PropertiesOn us ps vs → vs ≡ RightBrace ∷ ts → Only ValueInitializers us ps ts
properties_end us ps vs ts x e = record {
  holds = subst (λ (qs : List Property). ValueInitializers us qs ts) (append-nil ps) (x.on [] ts (subst (λ (ys : List Lexeme). ValueInitializers ys [] ts) (sym e) (done ts)));
  only = λ all rest n i.
      let y = x.only all rest i in
      let z = body_after_closing vs ts y.0 rest e (body_case vs y.0 rest y.2) in
      (y.1 ∙ ap (λ (qs : List Property). ps ++ qs) z.0 ∙ append-nil ps, z.1);
}

module _ (cs : List ℕ) (ps : List Property) (left : List ℕ) (so_far : BodySoFar cs ps left) where
  pub reads_body : (rest : List ℕ) → Begins (IsMark marks.RightBrace) left rest → BeginsWith ValueInitializers PropertiesFit cs ps rest
  reads_body rest b = record {
    fits = record { count = so_far.few; each = so_far.each };
    begins = begins_as (Joined (λ us ts. PropertiesOn us ps ts) (IsMark marks.RightBrace)) (λ us ts. Only ValueInitializers us ps ts) cs rest
        (λ us ts j. properties_end us ps j.0 ts j.1 j.2) (begins_join (λ us ts. PropertiesOn us ps ts) (IsMark marks.RightBrace) cs left rest so_far.begins b);
  }

  pub body_next : (p : Property) (rest : List ℕ) → (length ps ≡ properties_limit → ⊥) → BeginsWith IsProperty PropertyFits left p rest → BodySoFar cs (ps ++ p ∷ []) rest
  body_next p rest below r = record {
    begins = begins_as (Joined (λ us ts. PropertiesOn us ps ts) (λ us ts. Only IsProperty us p ts)) (λ us ts. PropertiesOn us (ps ++ p ∷ []) ts) cs rest
        (λ us ts j. properties_next us ps j.0 p ts j.1 j.2) (begins_join (λ us ts. PropertiesOn us ps ts) (λ us ts. Only IsProperty us p ts) cs left rest so_far.begins r.begins);
    each = all_push PropertyFits ps p so_far.each r.fits;
    few = let more : length (ps ++ p ∷ []) ≡ length ps + 1 = length-append ps (p ∷ []) in let some = so_far.few in omega (arith, some, below);
  }

  module _ (no_brace : BeginsNo (IsMark marks.RightBrace) left) where
    abbrev FurtherProperty : List Property → Type 0
    FurtherProperty all = (vs : List Lexeme) × (p : Property) × (others : List Property) × (after : List Lexeme) × Lexes left vs × IsProperty vs p after × NoLiteral after × (all ≡ ps ++ p ∷ others)

    further_by : (vs : List Lexeme) (more all : List Property) (rest : List Lexeme) → Lexes left vs → BodyCase vs more rest → all ≡ ps ++ more → FurtherProperty all
    further_by vs more all rest l (at_closing e f) same = absurd (no_brace vs rest l e)
    further_by vs more all rest l (at_property p others after i h f) same =
        (vs, p, others, after, l, i, body_first after others rest h, same ∙ ap (λ (qs : List Property). ps ++ qs) f)

    further : (us ts : List Lexeme) (all : List Property) → Lexes cs us → ValueInitializers us all ts → FurtherProperty all
    further us ts all l i =
        let x = so_far.begins.only us l in
        let y = x.2.only all ts i in
        further_by x.0 y.0 all ts x.1 (body_case x.0 y.0 ts y.2) y.1

    pub lacks_capacity : length ps ≡ properties_limit → Lacks ValueInitializers PropertiesFit cs
    lacks_capacity filled us ts all n l i f =
        let x = further us ts all l i in
        let more : length ps < length all = subst (λ (qs : List Property). length ps < length qs) (sym x.7) (more_than ps x.1 x.2) in
        let few = f.count in
        omega (arith, filled, more, few)

    pub lacks_further : Lacks IsProperty PropertyFits left → Lacks ValueInitializers PropertiesFit cs
    lacks_further lacks us ts all n l i f =
        let x = further us ts all l i in
        lacks x.0 x.3 x.1 x.6 x.4 x.5 (all_at PropertyFits ps x.1 x.2 (subst (AllByRecursion PropertyFits) x.7 f.each))
