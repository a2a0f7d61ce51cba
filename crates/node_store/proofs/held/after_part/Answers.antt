use Rattle.std.proofs.Common.{◌≡◌, ◌∙◌, ◌++◌, ℕ, List, Some, None, MatchOption, sym, ap, subst}
use Rattle.std.specs.Prelude.{◌≢◌}
use Rattle.std.proofs.lemmas.Bool.Decides.{Decides-eqb}
use Rattle.std.proofs.lemmas.Slice.Eq.{strip_prefix_is}
use Rattle.node_store.specs.Split.{front_of_part}
use Rattle.node_store.proofs.HeldLists.{after_front, no_front_of_part}
use Rattle.node_store.proofs.held.after_part.Goals as goal

pub returns-in-Some : goal.returns-in-Some
returns-in-Some c =
    let part = c.args.part.now in
    let bytes : List ℕ = c.args.bytes.now in
    let rest : List ℕ = c.in-Some.rest.now in
    let front : c.deref.result.now ≡ front_of_part part =
    c.deref.ensures.value ∙ c.in_ok-put_front_of_part.ensures.writes.items ∙ ap (λ (l : List ℕ). l ++ front_of_part part) c.new-front.ensures.items in
    let stands : bytes ≡ c.deref.result.now ++ rest = strip_prefix_is Decides-eqb bytes c.deref.result.now (Some c.in-Some.rest) c.in-Some.ensures.cases in
    let found = c.strip_prefix-in-Some.result in
    after_front part bytes rest found c.in_ok-put_front_of_part.ensures.in_range (stands ∙ ap (λ (l : List ℕ). l ++ rest) front)
    (subst (λ (document : List ℕ). MatchOption found ((more : List ℕ) → rest ≢ document ++ more) (λ x. rest ≡ document ++ x.now)) c.as_slice.ensures
    (strip_prefix_is Decides-eqb rest c.as_slice.result.now found c.strip_prefix-in-Some.ensures.cases))

pub returns : goal.returns
returns c =
    let part = c.args.part.now in
    let bytes : List ℕ = c.args.bytes.now in
    let front : c.deref.result.now ≡ front_of_part part =
    c.deref.ensures.value ∙ c.in_ok-put_front_of_part.ensures.writes.items ∙ ap (λ (l : List ℕ). l ++ front_of_part part) c.new-front.ensures.items in
    no_front_of_part part bytes (λ rest is.
    strip_prefix_is Decides-eqb bytes c.deref.result.now None c.in-None.ensures.cases rest (is ∙ ap (λ (l : List ℕ). l ++ rest) (sym front)))
