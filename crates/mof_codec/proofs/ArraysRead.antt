-- Arrays, as far as they were read, and what a property may be given.
use Rattle.std.proofs.Common.{◌≡◌, ◌≤◌, ◌<◌, ◌+◌, ℕ, List, [], ◌∷◌, ◌++◌, length, refl, sym, ap, subst, ◌∙◌, arith, append_assoc, append-nil, length-append}
use Rattle.std.specs.List.{AllByRecursion}
use Rattle.mof_values.specs.declared.value.Scalar.{Scalar}
use Rattle.mof_values.specs.declared.value.Value.{Value}
use Rattle.mof_values.specs.declared.value.Value.TheVariants.{One, Many}
use Rattle.mof_syntax.specs.Tokens.{Lexeme, LeftBrace, RightBrace, Comma, Lexes}
use Rattle.mof_syntax.specs.Grammar.{NoLiteral, ConstantValue, Elements, closing, element, Initializer, constant, empty_array, array}
use Rattle.mof_syntax.specs.Limits.{elements_limit, ScalarFits, ValueFits}
use Rattle.mof_syntax.proofs.UniqueRules.{no_brace_constant, no_closing_constant, elements_first}
use Rattle.mof_codec.specs.Reading.{Begins, BeginsNo, Only, BeginsWith, Lacks}
use Rattle.mof_codec.specs.Values.{IsMark, IsArray, ArrayFits}
use Rattle.mof_codec.specs.declared.values.marks.Mark.TheVariants as marks
use Rattle.mof_codec.proofs.TokenFronts.{begins_as, Joined, begins_join}
use Rattle.mof_syntax.proofs.Lists.{tail_same}
use Rattle.mof_codec.proofs.Parts.{all_push, all_at, more_than}

-- the array goes on with further elements
pub record ElementsOn (us : List Lexeme) (done : List Scalar) (ts : List Lexeme) : Type 0 where
  pub on : (more : List Scalar) (rest : List Lexeme) → Elements ts more rest → IsArray us (done ++ more) rest
  pub only : (all : List Scalar) (rest : List Lexeme) → IsArray us all rest → (more : List Scalar) × (all ≡ done ++ more) × Elements ts more rest

pub record ArraySoFar (cs : List ℕ) (done : List Scalar) (left : List ℕ) : Type 0 where
  pub begins : Begins (λ us ts. ElementsOn us done ts) cs left
  pub each : AllByRecursion ScalarFits done
  pub few : length done ≤ elements_limit

-- what begins an array

data ArrayCase (us : List Lexeme) (all : List Scalar) (rest : List Lexeme) : Type 0 where
  at_closing : us ≡ RightBrace ∷ rest → all ≡ [] → ArrayCase us all rest
  at_element : (s : Scalar) (more : List Scalar) (after : List Lexeme) → ConstantValue us s after → Elements after more rest → all ≡ s ∷ more → ArrayCase us all rest

array_case : (us : List Lexeme) (all : List Scalar) (rest : List Lexeme) → IsArray us all rest → ArrayCase us all rest
array_case us all rest (empty_array r) = at_closing refl refl
array_case us all rest (array xs after r s ss c e) = at_element s ss after c e refl

elements_start : (us : List Lexeme) (s : Scalar) (ts : List Lexeme) → Only ConstantValue us s ts → ElementsOn us (s ∷ []) ts
elements_start us s ts o = record { on = λ more rest e. array us ts rest s more o.holds e; only = λ all rest i. goes all rest (array_case us all rest i) }
  where
    goes : (all : List Scalar) (rest : List Lexeme) → ArrayCase us all rest → (more : List Scalar) × (all ≡ s ∷ more) × Elements ts more rest
    goes all rest (at_closing e f) = absurd (no_closing_constant rest s ts (subst (λ (xs : List Lexeme). ConstantValue xs s ts) e o.holds))
    goes all rest (at_element x more after c e f) =
        let same = o.only x after (elements_first after more rest e) c in
        (more, f ∙ ap (λ (y : Scalar). y ∷ more) same.0, subst (λ (xs : List Lexeme). Elements xs more rest) same.1 e)

-- what goes on after an element

data ElementsCase (vs : List Lexeme) (more : List Scalar) (rest : List Lexeme) : Type 0 where
  is_closing : vs ≡ RightBrace ∷ rest → more ≡ [] → ElementsCase vs more rest
  is_element : (ws : List Lexeme) (s : Scalar) (others : List Scalar) (after : List Lexeme) → vs ≡ Comma ∷ ws → ConstantValue ws s after → Elements after others rest
      → more ≡ s ∷ others → ElementsCase vs more rest

elements_case : (vs : List Lexeme) (more : List Scalar) (rest : List Lexeme) → Elements vs more rest → ElementsCase vs more rest
elements_case vs more rest (closing r) = is_closing refl refl
elements_case vs more rest (element ws after r s ss c e) = is_element ws s ss after refl c e refl

apart_marks : (ts us : List Lexeme) → Comma ∷ ts ≡ RightBrace ∷ us → ⊥
apart_marks ts us e = cc

elements_after_comma : (vs ws : List Lexeme) (more : List Scalar) (rest : List Lexeme) → vs ≡ Comma ∷ ws → ElementsCase vs more rest
    → (s : Scalar) × (others : List Scalar) × (after : List Lexeme) × ConstantValue ws s after × Elements after others rest × (more ≡ s ∷ others)
elements_after_comma vs ws more rest e (is_closing f g) = absurd (apart_marks ws rest (sym e ∙ f))
elements_after_comma vs ws more rest e (is_element xs s others after f c r g) =
    (s, others, after, subst (λ (ys : List Lexeme). ConstantValue ys s after) (tail_same Comma Comma xs ws (sym f ∙ e)) c, r, g)

elements_after_closing : (vs ts : List Lexeme) (more : List Scalar) (rest : List Lexeme) → vs ≡ RightBrace ∷ ts → ElementsCase vs more rest → (more ≡ []) × (rest ≡ ts)
elements_after_closing vs ts more rest e (is_closing f g) = (g, tail_same RightBrace RightBrace rest ts (sym f ∙ e))
elements_after_closing vs ts more rest e (is_element xs s others after f c r g) = absurd (apart_marks xs ts (sym f ∙ e))

elements_next : (us : List Lexeme) (done : List Scalar) (vs ws : List Lexeme) (s : Scalar) (ts : List Lexeme) → ElementsOn us done vs → vs ≡ Comma ∷ ws → Only ConstantValue ws s ts
    → ElementsOn us (done ++ s ∷ []) ts
elements_next us done vs ws s ts x e o = record {
  on = λ more rest h.
      subst (λ (ss : List Scalar). IsArray us ss rest) (sym (append_assoc done (s ∷ []) more))
      (x.on (s ∷ more) rest (subst (λ (ys : List Lexeme). Elements ys (s ∷ more) rest) (sym e) (element ws ts rest s more o.holds h)));
  only = λ all rest i.
      let y = x.only all rest i in
      let z = elements_after_comma vs ws y.0 rest e (elements_case vs y.0 rest y.2) in
      let same = o.only z.0 z.2 (elements_first z.2 z.1 rest z.4) z.3 in (
        z.1,
        y.1 ∙ ap (λ (ss : List Scalar). done ++ ss) (z.5 ∙ ap (λ (q : Scalar). q ∷ z.1) same.0) ∙ sym (append_assoc done (s ∷ []) z.1),
        subst (λ (ys : List Lexeme). Elements ys z.1 rest) same.1 z.4,
      );
}

elements_end : (us : List Lexeme) (done : List Scalar) (vs ts : List Lexeme) → ElementsOn us done vs → vs ≡ RightBrace ∷ ts → Only IsArray us done ts
elements_end us done vs ts x e = record {
  holds = subst (λ (ss : List Scalar). IsArray us ss ts) (append-nil done) (x.on [] ts (subst (λ (ys : List Lexeme). Elements ys [] ts) (sym e) (closing ts)));
  only = λ all rest n i.
      let y = x.only all rest i in
      let z = elements_after_closing vs ts y.0 rest e (elements_case vs y.0 rest y.2) in
      (y.1 ∙ ap (λ (ss : List Scalar). done ++ ss) z.0 ∙ append-nil done, z.1);
}

-- characters

pub array_start : (cs : List ℕ) (s : Scalar) (rest : List ℕ) → BeginsWith ConstantValue ScalarFits cs s rest → ArraySoFar cs (s ∷ []) rest
array_start cs s rest r = record {
  begins = begins_as (λ us ts. Only ConstantValue us s ts) (λ us ts. ElementsOn us (s ∷ []) ts) cs rest (λ us ts o. elements_start us s ts o) r.begins;
  each = (r.fits, tt);
  few = omega arith;
}

only_empty : (us ts : List Lexeme) → us ≡ RightBrace ∷ ts → Only IsArray us [] ts
only_empty us ts e = record {
  holds = subst (λ (xs : List Lexeme). IsArray xs [] ts) (sym e) (empty_array ts);
  only = λ all rest n i. goes all rest (array_case us all rest i);
}
  where
    goes : (all : List Scalar) (rest : List Lexeme) → ArrayCase us all rest → (all ≡ []) × (rest ≡ ts)
    goes all rest (at_closing f g) = (g, tail_same RightBrace RightBrace rest ts (sym f ∙ e))
    goes all rest (at_element s more after c f g) = absurd (no_closing_constant ts s after (subst (λ (xs : List Lexeme). ConstantValue xs s after) e c))

pub reads_empty : (cs rest : List ℕ) → Begins (IsMark marks.RightBrace) cs rest → BeginsWith IsArray ArrayFits cs [] rest
reads_empty cs rest b = record {
  fits = (omega arith, tt);
  begins = begins_as (IsMark marks.RightBrace) (λ us ts. Only IsArray us [] ts) cs rest (λ us ts e. only_empty us ts e) b;
}

pub lacks_first : (cs : List ℕ) → BeginsNo (IsMark marks.RightBrace) cs → Lacks ConstantValue ScalarFits cs → Lacks IsArray ArrayFits cs
lacks_first cs no_brace no_constant us ts all n l i f = goes (array_case us all ts i)
  where
    fits : (s : Scalar) (more : List Scalar) → all ≡ s ∷ more → ScalarFits s
    fits s more e = all_at ScalarFits [] s more (subst (AllByRecursion ScalarFits) e f.1)

    goes : ArrayCase us all ts → ⊥
    goes (at_closing e g) = no_brace us ts l e
    goes (at_element s more after c e g) = no_constant us after s (elements_first after more ts e) l c (fits s more g)

module _ (cs : List ℕ) (done : List Scalar) (left : List ℕ) (so_far : ArraySoFar cs done left) where
  pub reads_array : (rest : List ℕ) → Begins (IsMark marks.RightBrace) left rest → BeginsWith IsArray ArrayFits cs done rest
  reads_array rest b = record {
    fits = (so_far.few, so_far.each);
    begins = begins_as (Joined (λ us ts. ElementsOn us done ts) (IsMark marks.RightBrace)) (λ us ts. Only IsArray us done ts) cs rest
        (λ us ts j. elements_end us done j.0 ts j.1 j.2) (begins_join (λ us ts. ElementsOn us done ts) (IsMark marks.RightBrace) cs left rest so_far.begins b);
  }

  pub array_next : (mid : List ℕ) (s : Scalar) (rest : List ℕ) → Begins (IsMark marks.Comma) left mid → (length done ≡ elements_limit → ⊥) → BeginsWith ConstantValue ScalarFits mid s rest
      → ArraySoFar cs (done ++ s ∷ []) rest
  array_next mid s rest b below r = record {
    begins = begins_as (Joined (Joined (λ us ts. ElementsOn us done ts) (IsMark marks.Comma)) (λ us ts. Only ConstantValue us s ts)) (λ us ts. ElementsOn us (done ++ s ∷ []) ts) cs rest
        (λ us ts j. elements_next us done j.1.0 j.0 s ts j.1.1 j.1.2 j.2)
        (begins_join (Joined (λ us ts. ElementsOn us done ts) (IsMark marks.Comma)) (λ us ts. Only ConstantValue us s ts) cs mid rest
        (begins_join (λ us ts. ElementsOn us done ts) (IsMark marks.Comma) cs left mid so_far.begins b) r.begins);
    each = all_push ScalarFits done s so_far.each r.fits;
    few = let more : length (done ++ s ∷ []) ≡ length done + 1 = length-append done (s ∷ []) in let some = so_far.few in omega (arith, some, below);
  }

  pub lacks_mark : BeginsNo (IsMark marks.RightBrace) left → BeginsNo (IsMark marks.Comma) left → Lacks IsArray ArrayFits cs
  lacks_mark no_brace no_comma us ts all n l i f =
      let x = so_far.begins.only us l in
      let y = x.2.only all ts i in
      goes x.0 y.0 x.1 (elements_case x.0 y.0 ts y.2)
    where
      goes : (vs : List Lexeme) (more : List Scalar) → Lexes left vs → ElementsCase vs more ts → ⊥
      goes vs more m (is_closing e g) = no_brace vs ts m e
      goes vs more m (is_element ws s others after e c r g) = no_comma vs ws m e

  module _ (mid : List ℕ) (b : Begins (IsMark marks.Comma) left mid) where
    -- the element after the comma is in each array that the characters begin with
    abbrev FurtherElement : List Scalar → Type 0
    FurtherElement all = (ws : List Lexeme) × (s : Scalar) × (others : List Scalar) × (after : List Lexeme) × Lexes mid ws × ConstantValue ws s after × NoLiteral after × (all ≡ done ++ s ∷ others)

    further : (us ts : List Lexeme) (all : List Scalar) → Lexes cs us → IsArray us all ts → FurtherElement all
    further us ts all l i =
        let x = so_far.begins.only us l in
        let y = x.2.only all ts i in
        let w = b.only x.0 x.1 in
        let z = elements_after_comma x.0 w.0 y.0 ts w.2 (elements_case x.0 y.0 ts y.2) in
        (w.0, z.0, z.1, z.2, w.1, z.3, elements_first z.2 z.1 ts z.4, y.1 ∙ ap (λ (ss : List Scalar). done ++ ss) z.5)

    pub lacks_capacity : length done ≡ elements_limit → Lacks IsArray ArrayFits cs
    lacks_capacity filled us ts all n l i f =
        let x = further us ts all l i in
        let more : length done < length all = subst (λ (ss : List Scalar). length done < length ss) (sym x.7) (more_than done x.1 x.2) in
        let few = f.0 in
        omega (arith, filled, more, few)

    pub lacks_element : Lacks ConstantValue ScalarFits mid → Lacks IsArray ArrayFits cs
    lacks_element lacks us ts all n l i f =
        let x = further us ts all l i in
        lacks x.0 x.3 x.1 x.6 x.4 x.5 (all_at ScalarFits done x.1 x.2 (subst (AllByRecursion ScalarFits) x.7 f.1))

-- values

brace_many : (vs : List Lexeme) (v : Value) (ts : List Lexeme) → Initializer (LeftBrace ∷ vs) v ts → (ss : List Scalar) × (v ≡ Many ss) × IsArray vs ss ts
brace_many vs v ts (constant xs r s c) = absurd (no_brace_constant vs s r c)
brace_many vs v ts (empty_array r) = ([], refl, empty_array r)
brace_many vs v ts (array xs after r s ss c e) = (s ∷ ss, refl, array xs after r s ss c e)

only_many : (us vs : List Lexeme) (ss : List Scalar) (ts : List Lexeme) → us ≡ LeftBrace ∷ vs → Only IsArray vs ss ts → Only Initializer us (Many ss) ts
only_many us vs ss ts e o = subst (λ (xs : List Lexeme). Only Initializer xs (Many ss) ts) (sym e) (record {
  holds = o.holds;
  only = λ v rest n i. let x = brace_many vs v rest i in let same = o.only x.0 rest n x.2 in (x.1 ∙ ap (λ (xs : List Scalar). Many xs) same.0, same.1);
})

pub reads_many : (cs mid : List ℕ) (ss : List Scalar) (rest : List ℕ) → Begins (IsMark marks.LeftBrace) cs mid → BeginsWith IsArray ArrayFits mid ss rest → BeginsWith Initializer ValueFits cs (Many ss) rest
reads_many cs mid ss rest b r = record {
  fits = r.fits;
  begins = begins_as (Joined (IsMark marks.LeftBrace) (λ us ts. Only IsArray us ss ts)) (λ us ts. Only Initializer us (Many ss) ts) cs rest
      (λ us ts j. only_many us j.0 ss ts j.1 j.2) (begins_join (IsMark marks.LeftBrace) (λ us ts. Only IsArray us ss ts) cs mid rest b r.begins);
}

pub lacks_many : (cs mid : List ℕ) → Begins (IsMark marks.LeftBrace) cs mid → Lacks IsArray ArrayFits mid → Lacks Initializer ValueFits cs
lacks_many cs mid b lacks us ts v n l i f =
    let x = b.only us l in
    let y = brace_many x.0 v ts (subst (λ (xs : List Lexeme). Initializer xs v ts) x.2 i) in
    lacks x.0 ts y.0 n x.1 y.2 (subst ValueFits y.1 f)

data ValueCase (us : List Lexeme) (v : Value) (ts : List Lexeme) : Type 0 where
  is_one : (s : Scalar) → ConstantValue us s ts → v ≡ One s → ValueCase us v ts
  is_many : (vs : List Lexeme) → us ≡ LeftBrace ∷ vs → ValueCase us v ts

value_case : (us : List Lexeme) (v : Value) (ts : List Lexeme) → Initializer us v ts → ValueCase us v ts
value_case us v ts (constant xs r s c) = is_one s c refl
value_case us v ts (empty_array r) = is_many (RightBrace ∷ r) refl
value_case us v ts (array xs after r s ss c e) = is_many xs refl

only_one : (us : List Lexeme) (s : Scalar) (ts : List Lexeme) → Only ConstantValue us s ts → Only Initializer us (One s) ts
only_one us s ts o = record { holds = constant us ts s o.holds; only = λ v rest n i. goes v rest n (value_case us v rest i) }
  where
    goes : (v : Value) (rest : List Lexeme) → NoLiteral rest → ValueCase us v rest → (v ≡ One s) × (rest ≡ ts)
    goes v rest n (is_one x c e) = let same = o.only x rest n c in (e ∙ ap (λ (y : Scalar). One y) same.0, same.1)
    goes v rest n (is_many vs e) = absurd (no_brace_constant vs s ts (subst (λ (xs : List Lexeme). ConstantValue xs s ts) e o.holds))

pub reads_one : (cs : List ℕ) (s : Scalar) (rest : List ℕ) → BeginsWith ConstantValue ScalarFits cs s rest → BeginsWith Initializer ValueFits cs (One s) rest
reads_one cs s rest r = record {
  fits = r.fits;
  begins = begins_as (λ us ts. Only ConstantValue us s ts) (λ us ts. Only Initializer us (One s) ts) cs rest (λ us ts o. only_one us s ts o) r.begins;
}

pub lacks_one : (cs : List ℕ) → BeginsNo (IsMark marks.LeftBrace) cs → Lacks ConstantValue ScalarFits cs → Lacks Initializer ValueFits cs
lacks_one cs no_brace lacks us ts v n l i f = goes (value_case us v ts i)
  where
    goes : ValueCase us v ts → ⊥
    goes (is_one s c e) = lacks us ts s n l c (subst ValueFits e f)
    goes (is_many vs e) = no_brace us vs l e
