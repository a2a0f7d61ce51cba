-- Bytes mean one meta-configuration, or are refused.
use Rattle.std.proofs.Common.{◌≡◌, ◌≢◌, inl, ℕ, Bool, true, false, cond, List, [], ◌∷◌, Option, Some, None, option_map, option_and_then, Result, Ok, Err, refl, sym, subst, ap, ◌∙◌}
use Rattle.std.specs.Prelude.{IfSome, IfOk, IfErr, ⊤}
use Rattle.mof_values.specs.declared.instance.Instance.{Instance}
use Rattle.mof_syntax.specs.Refusals as mof
use Rattle.mof_syntax.specs.Refusals.{Reads}
use Rattle.mof_syntax.specs.declared.mof_error.MofError.{MofError}
use Rattle.mof_syntax.specs.declared.mof_error.MofError.TheVariants as texts
use Rattle.mof_codec.proofs.OneRefusal.{reads_once}
use Rattle.meta_config.specs.declared.error.MetaError.{MetaError}
use Rattle.meta_config.specs.declared.error.MetaError.TheVariants.{Mof, NoMeta, TwoMetas, TwoManagers, BadUrl, TwoServers, BadValue, TooMany, DuplicatePartial, DependsUnknown, Memory}
use Rattle.meta_config.specs.declared.meta.Meta.{Meta}
use Rattle.meta_config.specs.declared.server.Site.{Site}
use Rattle.meta_config.specs.declared.tables.Class.{Class}
use Rattle.meta_config.specs.declared.tables.Class.TheVariants as classes
use Rattle.meta_config.specs.Making.{meta_of}
use Rattle.meta_config.specs.Parts.{IsMeta}
use Rattle.meta_config.specs.Refusals.{Answers, Means, Refuses, bad_url, bad_value, depends_unknown, duplicate_partial, first_found, first_of, has_other_site, no_meta, refusal_of, refusal_of_text, second_from, manager_site, too_long, too_many_names, too_many_partials, two_managers, two_metas, two_servers}

-- a refusal of instances
abbrev pub IsOfInstances : MetaError → Type 0
IsOfInstances (Mof fault) = ⊥
IsOfInstances _ = ⊤

mapped : {A : Type 0} (o : Option A) (make : A → MetaError) → ((a : A) → IsOfInstances (make a)) → IfSome (option_map make o) IsOfInstances
mapped None make each = tt
mapped (Some a) make each = each a

bound : {A : Type 0} (o : Option A) (make : A → Option MetaError) → ((a : A) → IfSome (make a) IsOfInstances) → IfSome (option_and_then make o) IsOfInstances
bound None make each = tt
bound (Some a) make each = each a

tested : (b : Bool) (e : MetaError) → IsOfInstances e → IfSome (cond b None (Some e)) IsOfInstances
tested true e is = tt
tested false e is = is

firsts : (o : Option MetaError) (os : List (Option MetaError)) → IfSome o IsOfInstances → IfSome (first_of os) IsOfInstances → IfSome (first_of (o ∷ os)) IsOfInstances
firsts None os one rest = rest
firsts (Some e) os one rest = one

of_no_meta : (is : List Instance) → IfSome (no_meta is) IsOfInstances
unfolding no_meta
of_no_meta is = tested _ NoMeta tt

of_two_metas : (is : List Instance) → IfSome (two_metas is) IsOfInstances
unfolding two_metas
of_two_metas is = mapped _ (λ p. TwoMetas p.0 p.1) (λ p. tt)

of_two_managers : (class : Class) (is : List Instance) → IfSome (two_managers class is) IsOfInstances
unfolding two_managers
of_two_managers class is = mapped _ (λ p. TwoManagers p.0 p.1) (λ p. tt)

of_bad_url : (is : List Instance) → IfSome (bad_url is) IsOfInstances
unfolding bad_url
of_bad_url is = mapped _ (λ index. BadUrl index) (λ index. tt)

of_two_servers : (is : List Instance) → IfSome (two_servers is) IsOfInstances
unfolding two_servers
of_two_servers is =
    bound (first_found manager_site 0 is) (λ (p : ℕ × Site). option_map (λ (q : ℕ × ℕ). TwoServers q.0 q.1) (second_from (has_other_site p.1) is p.0))
    (λ p. mapped (second_from (has_other_site p.1) is p.0) (λ (q : ℕ × ℕ). TwoServers q.0 q.1) (λ q. tt))

of_bad_value : (is : List Instance) → IfSome (bad_value is) IsOfInstances
unfolding bad_value
of_bad_value is = mapped _ (λ p. BadValue p.0 p.1) (λ p. tt)

of_too_many_partials : (is : List Instance) → IfSome (too_many_partials is) IsOfInstances
unfolding too_many_partials
of_too_many_partials is = tested _ _ tt

of_too_many_names : (is : List Instance) → IfSome (too_many_names is) IsOfInstances
unfolding too_many_names
of_too_many_names is = tested _ _ tt

of_too_long : (meta : Meta) → IfSome (too_long meta) IsOfInstances
unfolding too_long
of_too_long meta = tested _ _ tt

of_duplicate : (is : List Instance) → IfSome (duplicate_partial is) IsOfInstances
unfolding duplicate_partial
of_duplicate is = mapped _ (λ p. DuplicatePartial p.0 p.1) (λ p. tt)

of_unknown : (is : List Instance) → IfSome (depends_unknown is) IsOfInstances
unfolding depends_unknown
of_unknown is = mapped _ (λ p. DependsUnknown p.0 p.1) (λ p. tt)

abbrev AreOfInstances : List (Option MetaError) → Type 0
AreOfInstances [] = ⊤
AreOfInstances (o ∷ os) = IfSome o IsOfInstances × AreOfInstances os

first_is : (os : List (Option MetaError)) → AreOfInstances os → IfSome (first_of os) IsOfInstances
first_is [] all = tt
first_is (o ∷ os) all = firsts o os all.0 (first_is os all.1)

of_refusal : (is : List Instance) → IfSome (refusal_of is) IsOfInstances
of_refusal is =
    first_is
    (no_meta is
    ∷ two_metas is
    ∷ two_managers classes.Download is
    ∷ two_managers classes.Report is
    ∷ bad_url is
    ∷ two_servers is
    ∷ bad_value is
    ∷ too_many_partials is
    ∷ too_many_names is
    ∷ too_long (meta_of is)
    ∷ duplicate_partial is
    ∷ depends_unknown is
    ∷ []) (
      of_no_meta is,
      (
        of_two_metas is,
        (
          of_two_managers classes.Download is,
          (
            of_two_managers classes.Report is,
            (
              of_bad_url is,
              (
                of_two_servers is,
                (of_bad_value is, (of_too_many_partials is, (of_too_many_names is, (of_too_long (meta_of is), (of_duplicate is, (of_unknown is, tt)))))),
              ),
            ),
          ),
        ),
      ),
    )

found_of_instances : (found : Option MetaError) (refusal : MetaError) → IfSome found IsOfInstances → found ≡ Some refusal → IsOfInstances refusal
found_of_instances found refusal is e = subst (λ o. IfSome o IsOfInstances) e is

none_is_some : (refusal : MetaError) → ◌≡◌ {A = Option MetaError} None (Some refusal) → ⊥
none_is_some refusal e = cc

means_nothing : (bytes : List ℕ) (is : List Instance) (refusal : MetaError) → Reads bytes is → refusal_of is ≡ Some refusal → (meta : Meta) → Means bytes meta → ⊥
means_nothing bytes is refusal read found meta m =
    none_is_some refusal (sym m.accepted ∙ ap refusal_of (reads_once bytes m.instances is m.read read) ∙ found)

-- what is answered to the instances that the bytes spell
pub record Said (bytes : List ℕ) (answer : Result Meta MetaError) : Type 0 where
  pub ok : IfOk answer (λ meta. Means bytes meta)
  pub is_meta : IfOk answer IsMeta
  pub refused : IfErr answer (λ e. Refuses bytes e)
  pub only : IfErr answer (λ e. e ≢ Memory → (meta : Meta) → Means bytes meta → ⊥)

memory_or : (bytes : List ℕ) (is : List Instance) (refusal : MetaError) → Reads bytes is → (refusal ≢ Memory → refusal_of is ≡ Some refusal) → Refuses bytes refusal
memory_or bytes is Memory read found = tt
memory_or bytes is NoMeta read found = record { instances = is; read = read; refused = found (λ e. cc) }
memory_or bytes is (Mof fault) read found = absurd (found_of_instances (refusal_of is) (Mof fault) (of_refusal is) (found (λ e. cc)))
memory_or bytes is (TwoMetas first second) read found = record { instances = is; read = read; refused = found (λ e. cc) }
memory_or bytes is (TwoManagers first second) read found = record { instances = is; read = read; refused = found (λ e. cc) }
memory_or bytes is (BadUrl index) read found = record { instances = is; read = read; refused = found (λ e. cc) }
memory_or bytes is (TwoServers first second) read found = record { instances = is; read = read; refused = found (λ e. cc) }
memory_or bytes is (BadValue index name) read found = record { instances = is; read = read; refused = found (λ e. cc) }
memory_or bytes is (TooMany limit) read found = record { instances = is; read = read; refused = found (λ e. cc) }
memory_or bytes is (DuplicatePartial first second) read found = record { instances = is; read = read; refused = found (λ e. cc) }
memory_or bytes is (DependsUnknown index name) read found = record { instances = is; read = read; refused = found (λ e. cc) }

pub said : (bytes : List ℕ) (is : List Instance) (answer : Result Meta MetaError) → Reads bytes is → Answers (refusal_of is) answer
    → IfOk answer (λ meta. meta ≡ meta_of is) → Said bytes answer
said bytes is (Ok meta) read accepted made = record {
  ok = record { instances = is; read = read; accepted = accepted; made = made };
  is_meta = inl (bytes, record { instances = is; read = read; accepted = accepted; made = made });
  refused = tt;
  only = tt;
}
said bytes is (Err refusal) read found made = record {
  ok = tt;
  is_meta = tt;
  refused = memory_or bytes is refusal read found;
  only = λ other meta m. means_nothing bytes is refusal read (found other) meta m;
}

-- ---- what is answered where the bytes spell no instances

pub not_memory : (fault : MofError) → (fault ≡ texts.Memory → ⊥) → Mof fault ≡ refusal_of_text fault
not_memory texts.TooLong differs = refl
not_memory (texts.Text at) differs = refl
not_memory (texts.Syntax at) differs = refl
not_memory (texts.OutOfProfile at what) differs = refl
not_memory (texts.NumberRange at) differs = refl
not_memory (texts.TooMany at) differs = refl
not_memory texts.Memory differs = absurd (differs refl)

abbrev pub SaysNothing : List ℕ → MetaError → Type 0
SaysNothing bytes refusal = Refuses bytes refusal × (refusal ≢ Memory → (meta : Meta) → Means bytes meta → ⊥)

abbrev SpellsNothing : List ℕ → MofError → Type 0
SpellsNothing bytes fault = fault ≢ texts.Memory → (is : List Instance) → Reads bytes is → ⊥

told_of_text : (bytes : List ℕ) (fault : MofError) → mof.Refuses bytes fault → SpellsNothing bytes fault → SaysNothing bytes (refusal_of_text fault)
told_of_text bytes texts.TooLong r none = ((r, λ e. cc), λ other meta m. none (λ e. cc) m.instances m.read)
told_of_text bytes (texts.Text at) r none = ((r, λ e. cc), λ other meta m. none (λ e. cc) m.instances m.read)
told_of_text bytes (texts.Syntax at) r none = ((r, λ e. cc), λ other meta m. none (λ e. cc) m.instances m.read)
told_of_text bytes (texts.OutOfProfile at what) r none = ((r, λ e. cc), λ other meta m. none (λ e. cc) m.instances m.read)
told_of_text bytes (texts.NumberRange at) r none = ((r, λ e. cc), λ other meta m. none (λ e. cc) m.instances m.read)
told_of_text bytes (texts.TooMany at) r none = ((r, λ e. cc), λ other meta m. none (λ e. cc) m.instances m.read)
told_of_text bytes texts.Memory r none = (tt, λ other meta m. absurd (other refl))

pub says_nothing : (bytes : List ℕ) (fault : MofError) (refusal : MetaError) → refusal ≡ refusal_of_text fault → mof.Refuses bytes fault
    → (fault ≢ texts.Memory → (is : List Instance) → Reads bytes is → ⊥) → SaysNothing bytes refusal
says_nothing bytes fault refusal is r none = subst (SaysNothing bytes) (sym is) (told_of_text bytes fault r none)
