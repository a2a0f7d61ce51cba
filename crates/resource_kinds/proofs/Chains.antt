-- Chains of states along a trace.
use Rattle.std.proofs.Common.{◌≡◌, List, [], ◌∷◌, ◌++◌, Option, Some, None, refl, sym, subst}
use Rattle.std.proofs.lemmas.List.Elements.{All-cons, All-nil}
use Rattle.dsc_outside.specs.Host.{HostState}
use Rattle.dsc_document.specs.declared.document.Document.{Document}
use Rattle.resource_kinds.specs.declared.entry.Entry.{Entry}
use Rattle.resource_kinds.specs.Trace.{Chain}
use Rattle.resource_kinds.specs.True.{KeepsTable, TellsEntry, TellsTrue}

-- a chain goes on by one step
pub chain_push : {S : Type 0} (does : S → Document → Entry → S → Type 0) (still : S → S → Type 0) (document : Document) (a : S) (t : List Entry) (b : S) (e : Entry) (c : S)
    → ((x y z : S) (d : Document) (w : Entry) → still x y → does y d w z → does x d w z) → ((x : S) → still x x)
    → Chain does still document a t b → does b document e c → Chain does still document a (t ++ e ∷ []) c
chain_push does still document a [] b e c joins stays chain step = (c, joins a b c document e chain step, stays c)
chain_push does still document a (x ∷ t) b e c joins stays chain step = (chain.0, chain.1, chain_push does still document chain.0 t b e c joins stays chain.2 step)

-- two chains are one
pub chain_append : {S : Type 0} (does : S → Document → Entry → S → Type 0) (still : S → S → Type 0) (document : Document) (a : S) (t : List Entry) (b : S) (e : Entry) (es : List Entry) (c : S)
    → ((x y z : S) (d : Document) (w : Entry) → still x y → does y d w z → does x d w z)
    → Chain does still document a t b → Chain does still document b (e ∷ es) c → Chain does still document a (t ++ e ∷ es) c
chain_append does still document a [] b e es c joins one other = (other.0, joins a b other.0 document e one other.1, other.2)
chain_append does still document a (x ∷ t) b e es c joins one other = (one.0, one.1, chain_append does still document one.0 t b e es c joins one.2 other)

-- a chain of values is one of what they say
pub chain_map : {S T : Type 0} (f : S → T) (does : T → Document → Entry → T → Type 0) (still : T → T → Type 0) (document : Document) (a : S) (t : List Entry) (b : S)
    → Chain (λ x d e y. does (f x) d e (f y)) (λ x y. still (f x) (f y)) document a t b → Chain does still document (f a) t (f b)
chain_map f does still document a [] b chain = chain
chain_map f does still document a (e ∷ t) b chain = (f chain.0, chain.1, chain_map f does still document chain.0 t b chain.2)

-- what a chain of values over a host says is true, where the host shows what it holds
pub tells_true : (document : Document) (t : List Entry) (a b : Option HostState) → Chain TellsEntry (λ x y. x ≡ y) document a t b → TellsTrue document a t b
tells_true document [] None b chain = (sym chain, All-nil (KeepsTable document))
tells_true document [] (Some s) b chain = (s, sym chain, refl)
tells_true document (e ∷ t) None b chain =
    let rest = tells_true document t None b (subst (λ (m : Option HostState). Chain TellsEntry (λ x y. x ≡ y) document m t b) chain.1.0 chain.2) in
    (rest.0, All-cons (KeepsTable document) e t chain.1.1 rest.1)
tells_true document (e ∷ t) (Some s) b chain =
    let step = chain.1 in
    let rest = tells_true document t (Some step.0) b (subst (λ (m : Option HostState). Chain TellsEntry (λ x y. x ≡ y) document m t b) step.1 chain.2) in
    (rest.0, rest.1, (step.0, step.2, rest.2))
