-- Declarations, as far as they were read.
use Rattle.std.proofs.Common.{◌≡◌, ◌≢◌, ◌≤◌, ◌<◌, ◌+◌, ℕ, List, [], ◌∷◌, ◌++◌, length, Option, None, refl, sym, ap, subst, ◌∙◌, arith, append_assoc, append-nil, length-append}
use Rattle.std.specs.List.{AllByRecursion}
use Rattle.mof_values.specs.declared.instance.Instance.{Instance}
use Rattle.mof_values.specs.declared.instance.Property.{Property}
use Rattle.mof_syntax.specs.Separators.{Separators}
use Rattle.mof_syntax.specs.Scanning.{separator_rest}
use Rattle.mof_syntax.specs.Walk.{NoSeparator}
use Rattle.mof_syntax.specs.Tokens.{Lexeme, Semicolon, Lexes, end, separator}
use Rattle.mof_syntax.specs.Grammar.{NoLiteral, unnamed, named, ValueInitializers, InstanceDeclarations, nothing, instance_declaration}
use Rattle.mof_syntax.specs.Limits.{instances_limit, IsShortName, InstanceFits, Spells}
use Rattle.mof_syntax.proofs.Absent.{no_separator}
use Rattle.mof_codec.specs.Reading.{Begins, BeginsNo, Only, BeginsWith, Lacks}
use Rattle.mof_codec.specs.Values.{IsMark, IsHead, IsNaming, NamingFits, PropertiesFit, IsDeclaration}
use Rattle.mof_codec.specs.declared.values.marks.Mark.TheVariants as marks
use Rattle.mof_codec.proofs.TokenFronts.{skip_on, skip_only, begins_as, Joined, begins_join}
use Rattle.mof_codec.proofs.PropertiesRead.{body_first}
use Rattle.mof_syntax.proofs.Lists.{tail_same}
use Rattle.mof_codec.proofs.Parts.{all_push, all_at, more_than}

abbrev declared : List ℕ → Option (List ℕ) → List Property → Instance
declared class alias ps = record { class = class; alias = alias; properties = ps }

-- one declaration

naming_first : (ys zs : List Lexeme) (a : Option (List ℕ)) → IsNaming ys a zs → NoLiteral ys
naming_first ys zs a (unnamed r) = tt
naming_first ys zs a (named w name r same) = tt

only_declaration : (us : List Lexeme) (class : List ℕ) (vs : List Lexeme) (alias : Option (List ℕ)) (ws : List Lexeme) (ps : List Property) (xs ts : List Lexeme)
    → Only IsHead us class vs → Only IsNaming vs alias ws → Only ValueInitializers ws ps xs → xs ≡ Semicolon ∷ ts → Only IsDeclaration us (declared class alias ps) ts
only_declaration us class vs alias ws ps xs ts h n v e = record {
  holds = (vs, ws, h.holds, n.holds, subst (λ (ys : List Lexeme). ValueInitializers ws ps ys) e v.holds);
  only = λ i rest none d. goes i rest d;
}
  where
    goes : (i : Instance) (rest : List Lexeme) → IsDeclaration us i rest → (i ≡ declared class alias ps) × (rest ≡ ts)
    goes i rest d =
        let heads = h.only i.class d.0 (naming_first d.0 d.1 i.alias d.3) d.2 in
        let names = n.only i.alias d.1 (body_first d.1 i.properties (Semicolon ∷ rest) d.4) (subst (λ (ys : List Lexeme). IsNaming ys i.alias d.1) heads.1 d.3) in
        let bodies = v.only i.properties (Semicolon ∷ rest) tt (subst (λ (ys : List Lexeme). ValueInitializers ys i.properties (Semicolon ∷ rest)) names.1 d.4) in (
          ap (λ (c : List ℕ). declared c i.alias i.properties) heads.0 ∙ ap (λ (a : Option (List ℕ)). declared class a i.properties) names.0
              ∙ ap (λ (qs : List Property). declared class alias qs) bodies.0,
          tail_same Semicolon Semicolon rest ts (bodies.1 ∙ e),
        )

abbrev Named : List ℕ → Option (List ℕ) → List Lexeme → List Lexeme → Type 0
Named class alias = Joined (λ us ts. Only IsHead us class ts) (λ us ts. Only IsNaming us alias ts)

abbrev Bodied : List ℕ → Option (List ℕ) → List Property → List Lexeme → List Lexeme → Type 0
Bodied class alias ps = Joined (Named class alias) (λ us ts. Only ValueInitializers us ps ts)

module _ (cs : List ℕ) where
  pub lacks_head : Lacks IsHead IsShortName cs → Lacks IsDeclaration InstanceFits cs
  lacks_head lacks us ts i n l d f = lacks us d.0 i.class (naming_first d.0 d.1 i.alias d.3) l d.2 f.class

  module _ (class mid : List ℕ) (h : BeginsWith IsHead IsShortName cs class mid) where
    after_head : (us ts : List Lexeme) (i : Instance) → Lexes cs us → IsDeclaration us i ts
        → (vs : List Lexeme) × (ws : List Lexeme) × Lexes mid vs × IsNaming vs i.alias ws × ValueInitializers ws i.properties (Semicolon ∷ ts)
    after_head us ts i l d =
        let x = h.begins.only us l in
        let same = x.2.only i.class d.0 (naming_first d.0 d.1 i.alias d.3) d.2 in
        (d.0, d.1, subst (λ (ys : List Lexeme). Lexes mid ys) (sym same.1) x.1, d.3, d.4)

    pub lacks_naming : Lacks IsNaming NamingFits mid → Lacks IsDeclaration InstanceFits cs
    lacks_naming lacks us ts i n l d f = let x = after_head us ts i l d in lacks x.0 x.1 i.alias (body_first x.1 i.properties (Semicolon ∷ ts) x.4) x.2 x.3 f.alias

    module _ (alias : Option (List ℕ)) (body : List ℕ) (a : BeginsWith IsNaming NamingFits mid alias body) where
      after_naming : (us ts : List Lexeme) (i : Instance) → Lexes cs us → IsDeclaration us i ts
          → (ws : List Lexeme) × Lexes body ws × ValueInitializers ws i.properties (Semicolon ∷ ts)
      after_naming us ts i l d =
          let x = after_head us ts i l d in
          let y = a.begins.only x.0 x.2 in
          let same = y.2.only i.alias x.1 (body_first x.1 i.properties (Semicolon ∷ ts) x.4) x.3 in
          (x.1, subst (λ (ys : List Lexeme). Lexes body ys) (sym same.1) y.1, x.4)

      pub lacks_body : Lacks ValueInitializers PropertiesFit body → Lacks IsDeclaration InstanceFits cs
      lacks_body lacks us ts i n l d f =
          let x = after_naming us ts i l d in
          lacks x.0 (Semicolon ∷ ts) i.properties tt x.1 x.2 (record { count = f.count; each = f.each })

      module _ (ps : List Property) (last : List ℕ) (p : BeginsWith ValueInitializers PropertiesFit body ps last) where
        pub lacks_end : BeginsNo (IsMark marks.Semicolon) last → Lacks IsDeclaration InstanceFits cs
        lacks_end absent us ts i n l d f =
            let x = after_naming us ts i l d in
            let y = p.begins.only x.0 x.1 in
            let same = y.2.only i.properties (Semicolon ∷ ts) tt x.2 in
            absent y.0 ts y.1 (sym same.1)

        pub reads_declaration : (rest : List ℕ) → Begins (IsMark marks.Semicolon) last rest → BeginsWith IsDeclaration InstanceFits cs (declared class alias ps) rest
        reads_declaration rest b = record {
          fits = record { class = h.fits; alias = a.fits; count = p.fits.count; each = p.fits.each };
          begins = begins_as (Joined (Bodied class alias ps) (IsMark marks.Semicolon)) (λ us ts. Only IsDeclaration us (declared class alias ps) ts) cs rest
              (λ us ts j. only_declaration us class j.1.1.0 alias j.1.0 ps j.0 ts j.1.1.1 j.1.1.2 j.1.2 j.2)
              (begins_join (Bodied class alias ps) (IsMark marks.Semicolon) cs last rest
              (begins_join (Named class alias) (λ us ts. Only ValueInitializers us ps ts) cs body last
              (begins_join (λ us ts. Only IsHead us class ts) (λ us ts. Only IsNaming us alias ts) cs mid body h.begins a.begins) p.begins) b);
        }

-- declarations, one after another

pub record DeclarationsOn (us : List Lexeme) (read : List Instance) (ts : List Lexeme) : Type 0 where
  pub on : (more : List Instance) → InstanceDeclarations ts more → InstanceDeclarations us (read ++ more)
  pub only : (all : List Instance) → InstanceDeclarations us all → (more : List Instance) × (all ≡ read ++ more) × InstanceDeclarations ts more

pub record TextSoFar (cs : List ℕ) (read : List Instance) (left : List ℕ) : Type 0 where
  pub begins : Begins (λ us ts. DeclarationsOn us read ts) cs left
  pub each : AllByRecursion InstanceFits read
  pub few : length read ≤ instances_limit
  pub stops : separator_rest left ≡ None

pub text_start : (cs left : List ℕ) → Separators cs left → separator_rest left ≡ None → TextSoFar cs [] left
text_start cs left s e = record {
  begins = record { on = λ ts l. (ts, skip_on cs left ts s l, nothing_yet ts); only = λ us l. (us, skip_only cs left us s l, nothing_yet us) };
  each = tt;
  few = omega arith;
  stops = e;
}
  where
    nothing_yet : (us : List Lexeme) → DeclarationsOn us [] us
    nothing_yet us = record { on = λ more h. h; only = λ all h. (all, refl, h) }

data TextCase (vs : List Lexeme) (more : List Instance) : Type 0 where
  at_end : vs ≡ [] → more ≡ [] → TextCase vs more
  at_declaration : (i : Instance) (others : List Instance) (rest : List Lexeme) → IsDeclaration vs i rest → InstanceDeclarations rest others → more ≡ i ∷ others → TextCase vs more

text_case : (vs : List Lexeme) (more : List Instance) → InstanceDeclarations vs more → TextCase vs more
text_case vs more nothing = at_end refl refl
text_case vs more (instance_declaration i o class alias ts body after ps others hi ho ha hp hd) =
    at_declaration (declared class alias ps) others after (ts, body, (i, o, refl, hi, ho), ha, hp) hd refl

text_first : (vs : List Lexeme) (more : List Instance) → InstanceDeclarations vs more → NoLiteral vs
text_first vs more nothing = tt
text_first vs more (instance_declaration i o class alias ts body after ps others hi ho ha hp hd) = tt

some_tokens : (t : Lexeme) (ts : List Lexeme) → t ∷ ts ≡ [] → ⊥
some_tokens t ts e = cc

after_declaration : (vs : List Lexeme) (i : Instance) (ts : List Lexeme) (more : List Instance) → Only IsDeclaration vs i ts → TextCase vs more
    → (others : List Instance) × (more ≡ i ∷ others) × InstanceDeclarations ts others
after_declaration vs i ts more o (at_end e f) = absurd (some_tokens _ _ (sym o.holds.2.2 ∙ e))
after_declaration vs i ts more o (at_declaration j others after d h f) =
    let same = o.only j after (text_first after others h) d in
    (others, f ∙ ap (λ (x : Instance). x ∷ others) same.0, subst (λ (ys : List Lexeme). InstanceDeclarations ys others) same.1 h)

with_declaration : (vs : List Lexeme) (i : Instance) (ts : List Lexeme) (more : List Instance) → IsDeclaration vs i ts → InstanceDeclarations ts more → InstanceDeclarations vs (i ∷ more)
with_declaration vs i ts more d h =
    subst (λ (ys : List Lexeme). InstanceDeclarations ys (i ∷ more)) (sym d.2.2)
    (instance_declaration d.2.0 d.2.1 i.class i.alias d.0 d.1 ts i.properties more d.2.3 d.2.4 d.3 d.4 h)

declarations_next : (us : List Lexeme) (read : List Instance) (vs : List Lexeme) (i : Instance) (ts : List Lexeme) → DeclarationsOn us read vs → Only IsDeclaration vs i ts
    → DeclarationsOn us (read ++ i ∷ []) ts
declarations_next us read vs i ts x o = record {
  on = λ more h. subst (λ (is : List Instance). InstanceDeclarations us is) (sym (append_assoc read (i ∷ []) more)) (x.on (i ∷ more) (with_declaration vs i ts more o.holds h));
  only = λ all h.
      let y = x.only all h in
      let z = after_declaration vs i ts y.0 o (text_case vs y.0 y.2) in
      (z.0, y.1 ∙ ap (λ (is : List Instance). read ++ is) z.1 ∙ sym (append_assoc read (i ∷ []) z.0), z.2);
}

nothing_left : (cs : List ℕ) → NoSeparator cs → Lexes cs [] → length cs ≡ 0
nothing_left cs n end = refl
nothing_left cs n (separator ds r vs s l) = absurd (n r s)

module _ (cs : List ℕ) (read : List Instance) (left : List ℕ) (so_far : TextSoFar cs read left) where
  pub text_next : (i : Instance) (rest after : List ℕ) → (length read ≡ instances_limit → ⊥) → BeginsWith IsDeclaration InstanceFits left i rest → Separators rest after
      → separator_rest after ≡ None → TextSoFar cs (read ++ i ∷ []) after
  text_next i rest after below r s e = record {
    begins = joined;
    each = all_push InstanceFits read i so_far.each r.fits;
    few = let more : length (read ++ i ∷ []) ≡ length read + 1 = length-append read (i ∷ []) in let some = so_far.few in omega (arith, some, below);
    stops = e;
  }
    where
      on_to_rest : Begins (λ us ts. DeclarationsOn us (read ++ i ∷ []) ts) cs rest
      on_to_rest = begins_as (Joined (λ us ts. DeclarationsOn us read ts) (λ us ts. Only IsDeclaration us i ts)) (λ us ts. DeclarationsOn us (read ++ i ∷ []) ts) cs rest
          (λ us ts j. declarations_next us read j.0 i ts j.1 j.2) (begins_join (λ us ts. DeclarationsOn us read ts) (λ us ts. Only IsDeclaration us i ts) cs left rest so_far.begins r.begins)

      joined : Begins (λ us ts. DeclarationsOn us (read ++ i ∷ []) ts) cs after
      joined = record {
        on = λ ts l. on_to_rest.on ts (skip_on rest after ts s l);
        only = λ us l. let x = on_to_rest.only us l in (x.0, skip_only rest after x.0 s x.1, x.2);
      }

  pub text_read : length left ≡ 0 → Spells cs read
  text_read none =
      let x = so_far.begins.on [] (at_the_end left none) in
      record {
        wide = (x.0, x.1, subst (λ (is : List Instance). InstanceDeclarations x.0 is) (append-nil read) (x.2.on [] nothing));
        limits = record { count = so_far.few; each = so_far.each };
      }
    where
      at_the_end : (xs : List ℕ) → length xs ≡ 0 → Lexes xs []
      at_the_end [] e = end
      at_the_end (c ∷ xs) e = absurd (omega arith)

  module _ (some : length left ≢ 0) where
    abbrev Further : List Instance → Type 0
    Further all = (vs : List Lexeme) × (i : Instance) × (others : List Instance) × (after : List Lexeme) × Lexes left vs × IsDeclaration vs i after × NoLiteral after × (all ≡ read ++ i ∷ others)

    further_by : (vs : List Lexeme) (more all : List Instance) → Lexes left vs → TextCase vs more → all ≡ read ++ more → Further all
    further_by vs more all l (at_end e f) same =
        absurd (some (nothing_left left (no_separator left so_far.stops) (subst (λ (ys : List Lexeme). Lexes left ys) e l)))
    further_by vs more all l (at_declaration i others after d h f) same =
        (vs, i, others, after, l, d, text_first after others h, same ∙ ap (λ (is : List Instance). read ++ is) f)

    further : (all : List Instance) → Spells cs all → Further all
    further all s =
        let x = so_far.begins.only s.wide.0 s.wide.1 in
        let y = x.2.only all s.wide.2 in
        further_by x.0 y.0 all x.1 (text_case x.0 y.0 y.2) y.1

    pub text_full : length read ≡ instances_limit → (all : List Instance) → Spells cs all → ⊥
    text_full filled all s =
        let x = further all s in
        let more : length read < length all = subst (λ (is : List Instance). length read < length is) (sym x.7) (more_than read x.1 x.2) in
        let few = s.limits.count in
        omega (arith, filled, more, few)

    pub text_stuck : Lacks IsDeclaration InstanceFits left → (all : List Instance) → Spells cs all → ⊥
    text_stuck lacks all s =
        let x = further all s in
        lacks x.0 x.3 x.1 x.6 x.4 x.5 (all_at InstanceFits read x.1 x.2 (subst (AllByRecursion InstanceFits) x.7 s.limits.each))
