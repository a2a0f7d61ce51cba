-- Which meta-configuration the bytes are the text of.
use Rattle.std.proofs.Common.{◌≡◌, ℕ, List, sym, ap, subst, ◌∙◌, inl}
use Rattle.std.specs.Prelude.{Err}
use Rattle.depend_order.specs.Answers.{IfCycle}
use Rattle.depend_order.specs.declared.error.OrderError.{OrderError}
use Rattle.depend_order.specs.declared.error.OrderError.TheVariants.{Cycle}
use Rattle.meta_config.specs.declared.meta.Meta.{Meta}
use Rattle.meta_config.specs.Laws.{MetasReadBack, BytesMeanOne}
use Rattle.meta_config.specs.Parts.{HasPartsOrder}
use Rattle.meta_config.specs.Refusals.{Means}
use Rattle.meta_config.specs.Writing.{text_of_meta}
use Rattle.node_store.specs.Bodies.{SpellsMeta}

pub means : MetasReadBack → (text : List ℕ) (meta : Meta) → SpellsMeta text meta → Means text meta
means back text meta spells = subst (λ (t : List ℕ). Means t meta) (sym spells.spelled) (back meta spells.is.is)

pub declares_none : MetasReadBack → (text : List ℕ) (meta : Meta) → (Means text meta → ⊥) → SpellsMeta text meta → ⊥
declares_none back text meta none spells = none (means back text meta spells)

pub other_text : MetasReadBack → BytesMeanOne → (text : List ℕ) (read meta : Meta) → Means text read → (text_of_meta read ≡ text → ⊥) → SpellsMeta text meta → ⊥
other_text back one text read meta declared other spells =
    let same = one text read meta declared (means back text meta spells) in
    other (ap text_of_meta same ∙ sym spells.spelled)

pub no_order : MetasReadBack → BytesMeanOne → (text : List ℕ) (read meta : Meta) → Means text read → (HasPartsOrder read → ⊥) → SpellsMeta text meta → ⊥
no_order back one text read meta declared none spells =
    let same = one text read meta declared (means back text meta spells) in
    none (subst HasPartsOrder (sym same) spells.is.ordered)

pub spells : (text : List ℕ) (read : Meta) → Means text read → text_of_meta read ≡ text → HasPartsOrder read → SpellsMeta text read
spells text read declared same order = record { is = record { is = inl (text, declared); ordered = order }; spelled = sym same }

-- what an answer says of a walk, where it has one
pub at_cycle : (T : Type 0) (P : List ℕ → Type 0) (e : OrderError) (walk : List ℕ) → e ≡ Cycle walk → IfCycle {T = T} (Err e) P → P walk
at_cycle T P e walk is on = subst (λ (x : OrderError). IfCycle {T = T} (Err x) P) is on
