-- Exchanges that were made since a moment.
use Rattle.std.proofs.Common.{◌≡◌, inl, inr, ℕ, suc, Bool, true, false, List, [], ◌∷◌, ◌++◌, Option, Some, None, Result, Ok, refl, sym, ap, subst, ◌∙◌, arith, append_assoc, length-append}
use Rattle.std.proofs.lemmas.List.{get_or_append_left}
use Rattle.std.proofs.lemmas.Option.{none-some, same_Some}
use Rattle.std.specs.List.{Any}
use Rattle.dsc_outside.specs.declared.exchange.Exchange.{Exchange}
use Rattle.http_frames.specs.declared.message.Reply.{Reply}
use Rattle.meta_config.specs.declared.server.Server.{Server}
use Rattle.pull_client.specs.declared.error.PeerError.{PeerError}
use Rattle.pull_client.specs.Asks.{Asks, Exchanged}
use Rattle.dsc_outside.specs.Link.{AddsExchanges, GoesOn, LinkView}
use Rattle.node_pull.specs.Views.{Accepts, MadeSince}

any_more : {X : Type 0} (P : X → Type 0) (xs ys : List X) → Any P xs → Any P (xs ++ ys)
any_more P xs ys any =
    (any.0, any.1, omega (arith, any.2, length-append xs ys), get_or_append_left xs ys any.1 any.0 any.2 ∙ any.3, any.4)

any_later : {X : Type 0} (P : X → Type 0) (xs ys : List X) → Any P ys → Any P (xs ++ ys)
any_later P [] ys any = any
any_later P (x ∷ xs) ys any =
    let later = any_later P xs ys any in
    (suc later.0, later.1, omega (arith, later.2), later.3, later.4)

pub any_one : {X : Type 0} (P : X → Type 0) (x : X) → P x → Any P (x ∷ [])
any_one P x holds = (0, x, omega arith, refl, holds)

told_more : (shown after : Option (List Exchange)) (exchanges : List Exchange) → shown ≡ Some exchanges → AddsExchanges shown after → (more : List Exchange) × (after ≡ Some (exchanges ++ more))
told_more None after exchanges is adds = absurd (none-some exchanges is)
told_more (Some before) after exchanges is adds = (adds.0, adds.1 ∙ ap (λ (list : List Exchange). Some (list ++ adds.0)) (same_Some before exchanges is))

module _ (Such : Exchange → Type 0) where
  -- what was made until one moment was made until a later one
  pub since_then : (before mid after : LinkView) → MadeSince Such before mid → GoesOn mid after → MadeSince Such before after
  since_then before mid after made on old is =
      let found = made old is in
      let more = told_more mid.shown after.shown (old ++ found.0) found.1 on.shown in
      (found.0 ++ more.0, more.1 ∙ ap Some (append_assoc old found.0 more.0), any_more Such found.0 more.0 found.2)

  -- and since any moment before
  pub since_before : (before mid after : LinkView) → GoesOn before mid → MadeSince Such mid after → MadeSince Such before after
  since_before before mid after on made old is =
      let more = told_more before.shown mid.shown old is on.shown in
      let found = made (old ++ more.0) more.1 in
      (more.0 ++ found.0, found.1 ∙ ap Some (append_assoc old more.0 found.0), any_later Such more.0 found.0 found.2)

-- a request that was answered with a value
pub asked_since : {T : Type 0} (server : Server) (sent : List ℕ) (Says : Reply → Result T PeerError → Type 0) (before after : LinkView) (value : T)
    → Asks server sent Says before after (Ok value) → MadeSince (Accepts server sent Says value) before after
asked_since {T} server sent Says before after value asks old is = by server.https refl
  where
    Such : Exchange → Type 0
    Such e = Accepts server sent Says value e

    since : Exchanged server.peer sent Says old after.shown (Ok value) → (new : List Exchange) × (after.shown ≡ Some (old ++ new)) × Any Such new
    since (inl (outcome, heard, shown)) =
        let made : Exchange = record { peer = server.peer; request = sent; outcome = outcome } in
        (made ∷ [], shown, any_one Such made (record { peer = refl; request = refl; answer = heard }))
    since (inr (none, shown)) = absurd (cc none)

    by : (https : Bool) → server.https ≡ https → (new : List Exchange) × (after.shown ≡ Some (old ++ new)) × Any Such new
    by true secure = absurd (cc (asks.unserved secure).0)
    by false secure = since (asks.exchanged secure old is)
