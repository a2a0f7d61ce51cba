-- Exchanges are only added.
use Rattle.std.proofs.Common.{◌≡◌, inl, inr, ℕ, Bool, true, false, List, [], ◌∷◌, ◌++◌, Option, Some, None, Result, Ok, Err, refl, sym, ap, subst, ◌∙◌, arith, append_assoc, append-nil}
use Rattle.dsc_outside.specs.declared.entries.Package.{Package}
use Rattle.dsc_outside.specs.declared.exchange.Exchange.{Exchange}
use Rattle.dsc_outside.specs.declared.link.Peer.{Peer}
use Rattle.http_frames.specs.declared.message.Reply.{Reply}
use Rattle.meta_config.specs.declared.meta.Meta.{Meta}
use Rattle.meta_config.specs.declared.server.Server.{Server}
use Rattle.node_state.specs.declared.list.Staged.{Staged}
use Rattle.partial_merge.specs.declared.part.Part.{Part}
use Rattle.report_log.specs.declared.report.Report.{Report}
use Rattle.pull_client.specs.declared.error.PeerError.{PeerError}
use Rattle.pull_client.specs.Asks.{Asks, Exchanged}
use Rattle.node_pull.specs.declared.error.PullFault.{PullFault}
use Rattle.node_pull.specs.declared.modules.Module.{Module}
use Rattle.node_pull.specs.Contents as contents
use Rattle.node_pull.specs.Contents.{Contents}
use Rattle.node_pull.specs.Listing as listing
use Rattle.node_pull.specs.Listing.{Fetched, Listed}
use Rattle.node_pull.specs.Packages as rows
use Rattle.node_pull.specs.Packages.{OnePackage, Packages}
use Rattle.node_pull.specs.Pulling as pulling
use Rattle.node_pull.specs.Pulling.{Pulled}
use Rattle.node_pull.specs.Registering.{Registers}
use Rattle.node_pull.specs.Reporting.{SendsReport}
use Rattle.dsc_outside.specs.Link.{AddsExchanges, GoesOn, LinkView}

adds_none : (shown : Option (List Exchange)) → AddsExchanges shown shown
adds_none None = refl
adds_none (Some exchanges) = ([], ap Some (sym (append-nil exchanges)))

adds_same : (before after : Option (List Exchange)) → after ≡ before → AddsExchanges before after
adds_same before after is = subst (AddsExchanges before) (sym is) (adds_none before)

adds_more : (before mid after : Option (List Exchange)) → AddsExchanges before mid → AddsExchanges mid after → AddsExchanges before after
adds_more None mid after first second = subst (λ (t : Option (List Exchange)). AddsExchanges t after) first second
adds_more (Some exchanges) mid after first second =
    let rest = subst (λ (t : Option (List Exchange)). AddsExchanges t after) first.1 second in
    (first.0 ++ rest.0, rest.1 ∙ ap Some (append_assoc exchanges first.0 rest.0))

pub stays : (view : LinkView) → GoesOn view view
stays view = record { shown = adds_none view.shown; later = omega arith }

pub stays_at : (before after : LinkView) → after ≡ before → GoesOn before after
stays_at before after is = subst (GoesOn before) (sym is) (stays before)

pub on_and_on : (before mid after : LinkView) → GoesOn before mid → GoesOn mid after → GoesOn before after
on_and_on before mid after first second = record { shown = adds_more before.shown mid.shown after.shown first.shown second.shown; later = omega (arith, first.later, second.later) }

-- ---- of a request

exchanged_adds : {T : Type 0} (peer : Peer) (request : List ℕ) (Says : Reply → Result T PeerError → Type 0) (before : List Exchange) (after : Option (List Exchange)) (result : Result T PeerError)
    → Exchanged peer request Says before after result → AddsExchanges (Some before) after
exchanged_adds peer request Says before after result (inl (outcome, heard, last)) = (record { peer = peer; request = request; outcome = outcome } ∷ [], last)
exchanged_adds peer request Says before after result (inr (none, last)) = ([], last ∙ ap Some (sym (append-nil before)))

pub asks_goes_on : {T : Type 0} (server : Server) (request : List ℕ) (Says : Reply → Result T PeerError → Type 0) (before after : LinkView) (result : Result T PeerError)
    → Asks server request Says before after result → GoesOn before after
asks_goes_on server request Says before after result asks = record { shown = go before.shown server.https refl refl; later = asks.later }
  where
    go : (shown : Option (List Exchange)) (https : Bool) → before.shown ≡ shown → server.https ≡ https → AddsExchanges before.shown after.shown
    go shown true is secure = adds_same before.shown after.shown (asks.unserved secure).1
    go None false is secure = subst (λ (t : Option (List Exchange)). AddsExchanges t after.shown) (sym is) (asks.unshown is)
    go (Some exchanges) false is secure =
        subst (λ (t : Option (List Exchange)). AddsExchanges t after.shown) (sym is)
        (exchanged_adds server.peer request Says exchanges after.shown result (asks.exchanged secure exchanges is))

pub registers_goes_on : (meta : Meta) (server : Server) (agent : ℕ) (node_name : List ℕ) (moment : ℕ) (before after : LinkView) (result : Result (Unit {0}) PullFault)
    → Registers meta server agent node_name moment before after result → GoesOn before after
registers_goes_on meta server agent node_name moment before after result (inl sent) = asks_goes_on server _ _ before after sent.answer sent.asks
registers_goes_on meta server agent node_name moment before after result (inr unsent) = stays_at before after unsent.1

pub sends_goes_on : (server : Server) (agent : ℕ) (report : Report) (before after : LinkView) (result : Result (Unit {0}) PeerError)
    → SendsReport server agent report before after result → GoesOn before after
sends_goes_on server agent report before after result (inl sent) = asks_goes_on server _ _ before after result sent.asks
sends_goes_on server agent report before after result (inr unsent) = stays_at before after unsent.1

-- ---- of a pull

pub contents_go_on : {server : Server} {agent : ℕ} {names : List (List ℕ)} {before after : LinkView} {result : Result (List Part) PeerError}
    → Contents server agent names before after result → GoesOn before after
contents_go_on (contents.no_more view) = stays view
contents_go_on {server = server} (contents.one_more name names part parts before mid after asks named rest) =
    on_and_on before mid after (asks_goes_on server _ _ before mid (Ok part) asks) (contents_go_on rest)
contents_go_on {server = server} (contents.ended name names error before after asks) = asks_goes_on server _ _ before after (Err error) asks
contents_go_on {server = server} (contents.ended_later name names part error before mid after asks rest) =
    on_and_on before mid after (asks_goes_on server _ _ before mid (Ok part) asks) (contents_go_on rest)
contents_go_on (contents.no_memory names view) = stays view

fetched_goes_on : {server : Server} {agent : ℕ} {held : List Part} {names wanted : List (List ℕ)} {before after : LinkView} {result : Result (List Part) PeerError}
    → Fetched server agent held names wanted before after result → GoesOn before after
fetched_goes_on (listing.not_given error before after given) = contents_go_on given
fetched_goes_on (listing.laid fetched before after given) = contents_go_on given
fetched_goes_on (listing.no_memory_to_lay fetched before after given) = contents_go_on given

pub listed_goes_on : {meta : Meta} {server : Server} {agent : ℕ} {held : List Part} {before after : LinkView} {result : Result (List Part) PeerError}
    → Listed meta server agent held before after result → GoesOn before after
listed_goes_on {server = server} (listing.not_told names error before after asked queries) = asks_goes_on server _ _ before after (Err error) queries
listed_goes_on {server = server} (listing.answered names fetches before mid after result asked queries given) =
    on_and_on before mid after (asks_goes_on server _ _ before mid (Ok fetches) queries) (fetched_goes_on given)
listed_goes_on (listing.no_memory view) = stays view

module _ {S : Type 0} {packages : S → Option (List Package)} {faults : S → ℕ} {server : Server} where
  pub package_goes_on : {wanted : Module} {before after : LinkView} {old new : S} {result : Result (Unit {0}) PullFault}
      → OnePackage packages faults server wanted before after old new result → GoesOn before after
  package_goes_on (rows.is_there view old new has same) = stays view
  package_goes_on (rows.is_added before after old looked new body has same asks adds) = asks_goes_on server _ _ before after (Ok body) asks
  package_goes_on (rows.not_looked view old new rose same) = stays view
  package_goes_on (rows.not_given before after old new error has same asks) = asks_goes_on server _ _ before after (Err error) asks
  package_goes_on (rows.not_added before after old looked new body has same asks later rose whole) = asks_goes_on server _ _ before after (Ok body) asks
  package_goes_on (rows.no_memory view old new same) = stays view
  package_goes_on (rows.no_memory_to_add before after old looked new body has same asks whole) = asks_goes_on server _ _ before after (Ok body) asks

  pub packages_go_on : {modules : List Module} {before after : LinkView} {old new : S} {result : Result (Unit {0}) PullFault}
      → Packages packages faults server modules before after old new result → GoesOn before after
  packages_go_on (rows.no_more view state) = stays view
  packages_go_on (rows.one_more wanted modules before mid after old next new result one later rest) = on_and_on before mid after (package_goes_on one) (packages_go_on rest)
  packages_go_on (rows.ended wanted modules before after old new error one) = package_goes_on one

  pub pulled_goes_on : {meta : Meta} {agent : ℕ} {held : List Part} {before after : LinkView} {old new : S} {result : Result (Option Staged) PullFault}
      → Pulled packages faults meta server agent held before after old new result → GoesOn before after
  pulled_goes_on (pulling.not_listed before after state error listed) = listed_goes_on listed
  pulled_goes_on (pulling.not_staged before after state parts error listed refused) = listed_goes_on listed
  pulled_goes_on (pulling.no_package before mid after old new staged document error listed fitting merged came) =
      on_and_on before mid after (listed_goes_on listed) (packages_go_on came)
  pulled_goes_on (pulling.brought before mid after old new staged document brings listed fitting merged came is) =
      on_and_on before mid after (listed_goes_on listed) (packages_go_on came)
