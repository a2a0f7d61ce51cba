-- A server that gives a node what it asks for: a registration or a pull then fails for memory alone.
use Rattle.std.proofs.Common.{◌≡◌, ◌≢◌, inl, inr, ℕ, ◌≤◌, Bool, false, List, [], ◌∷◌, ◌++◌, map, Option, Some, None, Result, Ok, Err, refl, sym, ap, subst, ◌∙◌, arith}
use Rattle.std.specs.Prelude.{Any, IsSome}
use Rattle.dsc_terms.specs.Counts.{Rose}
use Rattle.dsc_outside.specs.Link.{GoesOn, LinkView}
use Rattle.dsc_outside.specs.declared.entries.Package.{Package}
use Rattle.dsc_outside.specs.declared.exchange.Exchange.{Exchange}
use Rattle.dsc_outside.specs.declared.exchange.ExchangeOutcome.{ExchangeOutcome}
use Rattle.http_frames.specs.declared.message.Reply.{Reply}
use Rattle.meta_config.specs.declared.meta.Meta.{Meta}
use Rattle.meta_config.specs.declared.server.Server.{Server}
use Rattle.partial_merge.specs.declared.part.Part.{Part}
use Rattle.node_state.specs.declared.list.Staged.{Staged}
use Rattle.node_state.proofs.FittingParts.{fitting_are_taken}
use Rattle.pull_client.specs.declared.error.PeerError.{PeerError}
use Rattle.pull_client.specs.declared.error.PeerError.TheVariants as peers
use Rattle.pull_client.specs.Asks.{Asks, Exchanged}
use Rattle.pull_client.specs.Content.{GivesBody, GivesPart}
use Rattle.pull_client.specs.Heard.{Heard, IsDone}
use Rattle.pull_client.specs.Meaning.{OneMeaning}
use Rattle.pull_client.specs.Queries.{Tells, query_of}
use Rattle.pull_client.specs.Requests.{content_request, module_request, query_request, registration_of, registration_request}
use Rattle.node_pull.specs.declared.error.PullFault.{PullFault}
use Rattle.node_pull.specs.declared.error.PullFault.TheVariants.{Memory}
use Rattle.node_pull.specs.declared.modules.Module.{Module}
use Rattle.node_pull.specs.Contents as contents
use Rattle.node_pull.specs.Contents.{AsksContent, Contents, to_fetch}
use Rattle.node_pull.specs.Errors.{error_of, staging_error, told_as}
use Rattle.node_pull.specs.Listing as listing
use Rattle.node_pull.specs.Listing.{Fetched, Listed}
use Rattle.node_pull.specs.Marks.{mark_of}
use Rattle.node_pull.specs.Names.{asked_of, registered_names}
use Rattle.node_pull.specs.Packages as rows
use Rattle.node_pull.specs.Packages.{OnePackage, Packages, modules_of}
use Rattle.node_pull.specs.Pulling as pulling
use Rattle.node_pull.specs.Pulling.{Pulled}
use Rattle.node_pull.specs.Serving.{RegistrationsSucceed, AlwaysAccepts, IsHeard, PullsSucceed, Serves}
use Rattle.node_pull.specs.Views.{MadeSince}
use Rattle.node_pull.proofs.GoingOn.{asks_goes_on, listed_goes_on, on_and_on, package_goes_on, stays}
use Rattle.node_pull.proofs.Since.{any_one, since_before, since_then}

memory_of : (error : PeerError) → (error ≢ peers.Memory → ⊥) → error ≡ peers.Memory
memory_of peers.Memory none = refl
memory_of peers.NotServed none = absurd (none (λ is. cc is))
memory_of peers.Link none = absurd (none (λ is. cc is))
memory_of peers.TooLong none = absurd (none (λ is. cc is))
memory_of (peers.Frame error) none = absurd (none (λ is. cc is))
memory_of (peers.Status code) none = absurd (none (λ is. cc is))
memory_of (peers.Message error) none = absurd (none (λ is. cc is))
memory_of (peers.Retry name) none = absurd (none (λ is. cc is))
memory_of (peers.Uncovered name) none = absurd (none (λ is. cc is))
memory_of peers.NoChecksum none = absurd (none (λ is. cc is))
memory_of (peers.Mismatch announced found) none = absurd (none (λ is. cc is))

-- ---- one request

-- the exchange sent the server this request, and its answer means the error
record Refuses {T : Type 0} (server : Server) (sent : List ℕ) (Says : Reply → Result T PeerError → Type 0) (error : PeerError) (exchange : Exchange) : Type 0 where
  peer : exchange.peer ≡ server.peer
  request : exchange.request ≡ sent
  answer : Heard Says exchange.outcome (Err error)

refused_since : {T : Type 0} (server : Server) (sent : List ℕ) (Says : Reply → Result T PeerError → Type 0) (before after : LinkView) (error : PeerError) → server.https ≡ false → error ≢ peers.Memory
    → Asks server sent Says before after (Err error) → MadeSince (Refuses server sent Says error) before after
refused_since {T} server sent Says before after error http other asks old is = since (asks.exchanged http old is)
  where
    Such : Exchange → Type 0
    Such e = Refuses server sent Says error e

    since : Exchanged server.peer sent Says old after.shown (Err error) → (new : List Exchange) × (after.shown ≡ Some (old ++ new)) × Any Such new
    since (inl (outcome, heard, shown)) =
        let made : Exchange = record { peer = server.peer; request = sent; outcome = outcome } in
        (made ∷ [], shown, any_one Such made (record { peer = refl; request = refl; answer = heard }))
    since (inr (none, shown)) = absurd (other (cc none))

-- no outcome means a value and this error
abbrev Excludes : {T : Type 0} → (Reply → Result T PeerError → Type 0) → PeerError → Type 0
Excludes {T} Says error = (outcome : ExchangeOutcome) (value : T) → Heard Says outcome (Ok value) → Heard Says outcome (Err error) → ⊥

shown_some : (shown : Option (List Exchange)) → IsSome shown → (old : List Exchange) × (shown ≡ Some old)
shown_some None is = absurd (cc is)
shown_some (Some old) is = (old, refl)

never_refused : {T : Type 0} (server : Server) (sent : List ℕ) (Says : Reply → Result T PeerError → Type 0) (begin end : LinkView) (error : PeerError) → Excludes Says error
    → IsHeard server begin → AlwaysAccepts server sent Says begin end → MadeSince (Refuses server sent Says error) begin end → ⊥
never_refused server sent Says begin end error excludes heard given made =
    let old = shown_some begin.shown heard.shown in
    let new = made old.0 old.1 in
    let any = new.2 in
    let refused = any.4 in
    let one = subst (λ (e : Exchange). e.peer ≡ server.peer → e.request ≡ sent → (value : _) × Heard Says e.outcome (Ok value)) any.3 (given old.0 new.0 old.1 new.1 any.0 any.1 any.2) refused.peer refused.request in
    excludes any.1.outcome one.0 one.1 refused.answer

-- between these moments the server was asked once, and gave nothing
module _ (server : Server) (begin end : LinkView) (heard : IsHeard server begin) where
  asked_refused : {T : Type 0} (sent : List ℕ) (Says : Reply → Result T PeerError → Type 0) (before after : LinkView) (error : PeerError) → ((e : PeerError) → e ≢ peers.Memory → Excludes Says e)
      → AlwaysAccepts server sent Says begin end → GoesOn begin before → GoesOn after end → Asks server sent Says before after (Err error) → error ≡ peers.Memory
  asked_refused sent Says before after error excludes given first last asks = memory_of error (λ other.
      never_refused server sent Says begin end error (excludes error other) heard given
      (since_then (Refuses server sent Says error) begin after end
      (since_before (Refuses server sent Says error) begin before after first (refused_since server sent Says before after error heard.http other asks)) last))

ok_not_err : {T : Type 0} (value : T) (error : PeerError) → (let x : Result T PeerError = Ok value in x) ≡ Err error → ⊥
ok_not_err value error is = cc is

err_same : {T : Type 0} (a b : PeerError) → (let x : Result T PeerError = Err a in x) ≡ Err b → a ≡ b
err_same a b is = cc is

module _ (meaning : OneMeaning) where
  done_excludes : (error : PeerError) → error ≢ peers.Memory → Excludes IsDone error
  done_excludes error other outcome value one two = ok_not_err value error (meaning.done outcome (Ok value) (Err error) (λ is. cc is) (λ is. other (err_same error peers.Memory is)) one two)

  part_excludes : (name : List ℕ) (error : PeerError) → error ≢ peers.Memory → Excludes (GivesPart name) error
  part_excludes name error other outcome value one two = meaning.part name outcome (Ok value) (Err error) (λ is. cc is) (λ is. other (err_same error peers.Memory is)) one two

  body_excludes : (error : PeerError) → error ≢ peers.Memory → Excludes GivesBody error
  body_excludes error other outcome value one two = ok_not_err value error (meaning.body outcome (Ok value) (Err error) (λ is. cc is) (λ is. other (err_same error peers.Memory is)) one two)

  told_excludes : (held : List Part) (names : List (List ℕ)) (error : PeerError) → error ≢ peers.Memory → Excludes (Tells (map mark_of held) names) error
  told_excludes held names error other outcome value one two =
      ok_not_err value error (meaning.queried (map mark_of held) names outcome (Ok value) (Err error) (λ is. cc is) (λ is. other (err_same error peers.Memory is)) one two)

  -- ---- a registration

  told_error : (answer : Result (Unit {0}) PeerError) (error : PullFault) → Err error ≡ told_as answer → (e : PeerError) × (answer ≡ Err e) × (error ≡ error_of e)
  told_error (Ok done) error is = absurd (cc is)
  told_error (Err e) error is = (e, refl, cc is)

  pub accepted_register : RegistrationsSucceed
  accepted_register meta server agent name start before after error accepts (inl sends) =
      let told = told_error sends.answer error sends.is in
      let sent = registration_request server agent (registration_of name (registered_names meta)) sends.date in
      let memory =
      asked_refused server before after accepts.heard sent IsDone before after told.0 done_excludes (accepts.accepts sends.date) (stays before) (stays after)
      (subst (λ (r : Result (Unit {0}) PeerError). Asks server sent IsDone before after r) told.1 sends.asks) in
      told.2 ∙ ap error_of memory
  accepted_register meta server agent name start before after error accepts (inr none) = cc none.0

  -- ---- the list of a pull

  module _ (meta : Meta) (server : Server) (agent : ℕ) (held : List Part) (begin end : LinkView) (serves : Serves meta server agent held begin end) where
    content_refused : (name : List ℕ) (before after : LinkView) (error : PeerError) → GoesOn begin before → GoesOn after end
        → AsksContent server agent name before after (Err error) → error ≡ peers.Memory
    content_refused name before after error first last asks =
        asked_refused server begin end serves.heard (content_request server agent name) (GivesPart name) before after error (part_excludes name) (serves.contents name) first last asks

    contents_refused : (names : List (List ℕ)) (before after : LinkView) (result : Result (List Part) PeerError) (error : PeerError) → GoesOn begin before → GoesOn after end
        → Contents server agent names before after result → result ≡ Err error → error ≡ peers.Memory
    contents_refused _ _ _ _ error first last (contents.no_more view) is = absurd (cc is)
    contents_refused _ _ _ _ error first last (contents.one_more name names part parts before mid after asks named rest) is = absurd (cc is)
    contents_refused _ _ _ _ error first last (contents.ended name names e before after asks) is =
        sym (err_same e error is) ∙ content_refused name before after e first last asks
    contents_refused _ _ _ _ error first last (contents.ended_later name names part e before mid after asks rest) is =
        contents_refused names mid after (Err e) error (on_and_on begin before mid first (asks_goes_on server _ _ before mid (Ok part) asks)) last rest is
    contents_refused _ _ _ _ error first last (contents.no_memory names view) is = sym (err_same peers.Memory error is)

    fetched_refused : (names wanted : List (List ℕ)) (before after : LinkView) (result : Result (List Part) PeerError) (error : PeerError) → GoesOn begin before → GoesOn after end
        → Fetched server agent held names wanted before after result → result ≡ Err error → error ≡ peers.Memory
    fetched_refused names wanted _ _ _ error first last (listing.not_given e before after given) is = contents_refused wanted before after (Err e) error first last given is
    fetched_refused names wanted _ _ _ error first last (listing.laid fetched before after given) is = absurd (cc is)
    fetched_refused names wanted _ _ _ error first last (listing.no_memory_to_lay fetched before after given) is = sym (err_same peers.Memory error is)

    listed_refused : (after : LinkView) (result : Result (List Part) PeerError) (error : PeerError) → GoesOn after end → Listed meta server agent held begin after result → result ≡ Err error
        → error ≡ peers.Memory
    listed_refused _ _ error last (listing.not_told names e before after are queries) is =
        let asked = asked_of meta names in
        sym (err_same e error is) ∙ asked_refused server begin end serves.heard (query_request server agent (query_of (map mark_of held) asked)) (Tells (map mark_of held) asked) before after e
        (told_excludes held asked) (serves.tells names are) (stays begin) last queries
    listed_refused _ _ error last (listing.answered names fetches before mid after result are queries given) is =
        fetched_refused names (to_fetch (asked_of meta names) fetches) mid after result error (asks_goes_on server _ _ before mid (Ok fetches) queries) last given is
    listed_refused _ _ error last (listing.no_memory view) is = sym (err_same peers.Memory error is)

    -- ---- the packages

    module _ {S : Type 0} (packages : S → Option (List Package)) (faults : S → ℕ) (count : ℕ) where
      package_refused : (wanted : Module) (before after : LinkView) (old new : S) (result : Result (Unit {0}) PullFault) (error : PullFault) → GoesOn begin before → GoesOn after end
          → count ≤ faults old → (Rose count (faults new) → ⊥) → OnePackage packages faults server wanted before after old new result → result ≡ Err error → error ≡ Memory
      package_refused wanted _ _ _ _ _ error first last later still (rows.is_there view old new has same) is = absurd (cc is)
      package_refused wanted _ _ _ _ _ error first last later still (rows.is_added before after old looked new body has same asks adds) is = absurd (cc is)
      package_refused wanted _ _ _ _ _ error first last later still (rows.not_looked view old new rose same) is = absurd (still (omega (arith, later, rose)))
      package_refused wanted _ _ _ _ _ error first last later still (rows.not_given before after old new e has same asks) is =
          let memory =
          asked_refused server begin end serves.heard (module_request server wanted.name wanted.version) GivesBody before after e body_excludes (serves.packages wanted) first last asks in
          let same : error_of e ≡ error = cc is in
          sym same ∙ ap error_of memory
      package_refused wanted _ _ _ _ _ error first last later still (rows.not_added before after old looked new body has same asks on rose whole) is = absurd (still (omega (arith, later, on, rose)))
      package_refused wanted _ _ _ _ _ error first last later still (rows.no_memory view old new same) is = cc is
      package_refused wanted _ _ _ _ _ error first last later still (rows.no_memory_to_add before after old looked new body has same asks whole) is = cc is

      packages_refused : (modules : List Module) (before after : LinkView) (old new : S) (result : Result (Unit {0}) PullFault) (error : PullFault) → GoesOn begin before → GoesOn after end
          → count ≤ faults old → (Rose count (faults new) → ⊥) → Packages packages faults server modules before after old new result → result ≡ Err error → error ≡ Memory
      packages_refused _ _ _ _ _ _ error first last later still (rows.no_more view state) is = absurd (cc is)
      packages_refused _ _ _ _ _ _ error first last later still (rows.one_more wanted modules before mid after old next new result one on rest) is =
          packages_refused modules mid after next new result error (on_and_on begin before mid first (package_goes_on one)) last (omega (arith, later, on)) still rest is
      packages_refused _ _ _ _ _ _ error first last later still (rows.ended wanted modules before after old new e one) is =
          package_refused wanted before after old new (Err e) error first last later still one is

  -- ---- a pull

  err_of : (a b : PullFault) → (let x : Result (Option Staged) PullFault = Err a in x) ≡ Err b → a ≡ b
  err_of a b is = cc is

  pull_refused : {S : Type 0} (packages : S → Option (List Package)) (faults : S → ℕ) (meta : Meta) (server : Server) (agent : ℕ) (held : List Part) (before after : LinkView) (old new : S)
      (result : Result (Option Staged) PullFault) (error : PullFault) → Serves meta server agent held before after → (Rose (faults old) (faults new) → ⊥)
      → Pulled packages faults meta server agent held before after old new result → result ≡ Err error → error ≡ Memory
  pull_refused packages faults meta server agent held _ _ _ _ _ error serves still (pulling.not_listed before after state e listed) is =
      sym (err_of (error_of e) error is) ∙ ap error_of (listed_refused meta server agent held before after serves after (Err e) e (stays after) listed refl)
  pull_refused packages faults meta server agent held _ _ _ _ _ error serves still (pulling.not_staged before after state parts e listed refused) is =
      let may = serves.staged after parts listed (stays after) in
      sym (err_of (staging_error e) error is) ∙ ap staging_error (fitting_are_taken meta parts e may.0 may.1 refused)
  pull_refused packages faults meta server agent held _ _ _ _ _ error serves still (pulling.no_package before mid after old new staged document e listed fitting merged came) is =
      sym (err_of e error is)
      ∙ packages_refused meta server agent held before after serves packages faults (faults old) (modules_of document) mid after old new (Err e) e (listed_goes_on listed) (stays after) (omega arith) still came refl
  pull_refused packages faults meta server agent held _ _ _ _ _ error serves still (pulling.brought before mid after old new staged document brings listed fitting merged came same) is = absurd (cc is)

  pub served_pull : {S : Type 0} (packages : S → Option (List Package)) (faults : S → ℕ) → PullsSucceed packages faults
  served_pull packages faults meta server agent held before after old new error serves still pulled =
      pull_refused packages faults meta server agent held before after old new (Err error) error serves still pulled refl
