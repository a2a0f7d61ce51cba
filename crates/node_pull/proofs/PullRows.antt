-- A pull and a registration, by what their calls answered.
use Rattle.std.proofs.Common.{◌≡◌, inl, ℕ, Bool, true, false, ◌&&◌, List, [], ◌∷◌, Option, Some, Result, Ok, Err, refl, sym, ap, subst, ◌∙◌}
use Rattle.std.specs.Prelude.{IfOk, IfSome, bytes_eq}
use Rattle.std.proofs.lemmas.Slice.Eq.{bytes_eq-Decides}
use Rattle.sha2.specs.Sha256.{sha256}
use Rattle.depend_order.specs.declared.ordered.OrderedDocument.{OrderedDocument}
use Rattle.dsc_document.specs.declared.document.Document.{Document}
use Rattle.dsc_outside.specs.declared.entries.Package.{Package}
use Rattle.meta_config.specs.declared.meta.Meta.{Meta}
use Rattle.meta_config.specs.declared.server.Server.{Server}
use Rattle.node_state.specs.declared.list.Staged.{Staged}
use Rattle.node_state.specs.StagedParts.{parts_of}
use Rattle.node_state.specs.Staging.{AreFitting}
use Rattle.partial_merge.specs.declared.part.Part.{Part}
use Rattle.partial_merge.specs.Merged.{IsDocumentOf, Merged}
use Rattle.partial_merge.proofs.SameParts.{part_same}
use Rattle.pull_client.specs.Asks.{Asks}
use Rattle.pull_client.specs.declared.error.PeerError.{PeerError}
use Rattle.pull_client.specs.Heard.{IsDone}
use Rattle.pull_client.specs.Moments.{IsMomentText}
use Rattle.pull_client.specs.Requests.{registration_of, registration_request}
use Rattle.node_pull.specs.declared.error.PullFault.{PullFault}
use Rattle.node_pull.specs.declared.modules.Module.{Module}
use Rattle.node_pull.specs.Errors.{told_as}
use Rattle.node_pull.specs.Listing.{Listed}
use Rattle.node_pull.specs.Names.{registered_names}
use Rattle.node_pull.specs.Packages.{Packages, modules_of}
use Rattle.node_pull.specs.Marks.{same_parts}
use Rattle.node_pull.specs.declared.pulling.PullOutcome.{PullOutcome}
use Rattle.node_pull.specs.Pulling.{Pulled, brought, brought_of, list_of, no_package}
use Rattle.node_pull.specs.Registering.{Registers}
use Rattle.dsc_outside.specs.Link.{LinkView}

-- ---- a list that was staged

module _ {S : Type 0} (packages : S → Option (List Package)) (faults : S → ℕ) (meta : Meta) (server : Server) (agent : ℕ) (held : List Part) where
  pub pulled_short : (before mid after : LinkView) (old new : S) (parts : List Part) (staged : Staged) (document : Document) (modules handed : List Module) (error : PullFault)
      → parts_of staged ≡ parts → handed ≡ modules → modules ≡ modules_of document → Listed meta server agent held before mid (Ok parts) → AreFitting meta parts → Merged parts document
      → Packages packages faults server handed mid after old new (Err error)
      → Pulled packages faults meta server agent held before after old new (Err error)
  pulled_short before mid after old new parts staged document modules handed error is given named listed fitting merged came =
      no_package before mid after old new staged document error
      (subst (λ (ps : List Part). Listed meta server agent held before mid (Ok ps)) (sym is) listed) (subst (AreFitting meta) (sym is) fitting)
      (subst (λ (ps : List Part). Merged ps document) (sym is) merged)
      (subst (λ (ms : List Module). Packages packages faults server ms mid after old new (Err error)) (given ∙ named) came)

  pub pulled_whole : (before mid after : LinkView) (old new : S) (parts : List Part) (staged : Staged) (document : Document) (modules handed : List Module) (brings : Option Staged)
      → parts_of staged ≡ parts → handed ≡ modules → modules ≡ modules_of document → Listed meta server agent held before mid (Ok parts) → AreFitting meta parts → Merged parts document
      → Packages packages faults server handed mid after old new (Ok tt) → brings ≡ brought_of held staged
      → Pulled packages faults meta server agent held before after old new (Ok brings)
  pulled_whole before mid after old new parts staged document modules handed brings is given named listed fitting merged came brought_is =
      brought before mid after old new staged document brings
      (subst (λ (ps : List Part). Listed meta server agent held before mid (Ok ps)) (sym is) listed) (subst (AreFitting meta) (sym is) fitting)
      (subst (λ (ps : List Part). Merged ps document) (sym is) merged)
      (subst (λ (ms : List Module). Packages packages faults server ms mid after old new (Ok tt)) (given ∙ named) came) brought_is

-- the document of the parts is that of the list
pub document_staged : (parts : List Part) (staged : Staged) (document : OrderedDocument) → parts_of staged ≡ parts → IsDocumentOf parts document
    → IsDocumentOf (parts_of staged) document
document_staged parts staged document is of = subst (λ (ps : List Part). IsDocumentOf ps document) (sym is) of

-- what holds of the list that comes of a pull holds of its outcome
pub accepted_of : (P : Staged → Type 0) (result : Result PullOutcome PullFault) → IfOk (list_of result) (λ list. IfSome list P) → IfOk result (λ outcome. IfSome outcome.list P)
accepted_of P (Ok outcome) holds = holds
accepted_of P (Err error) holds = holds

-- lists of parts with the same names and bytes are the same
pub same_parts_are : (others parts : List Part) → same_parts others parts ≡ true → others ≡ parts
same_parts_are [] [] is = refl
same_parts_are [] (part ∷ parts) is = absurd (cc is)
same_parts_are (other ∷ others) [] is = absurd (cc is)
same_parts_are (other ∷ others) (part ∷ parts) is =
    let both = and_true (bytes_eq other.name part.name && bytes_eq other.bytes part.bytes) (same_parts others parts) is in
    let first = and_true (bytes_eq other.name part.name) (bytes_eq other.bytes part.bytes) both.0 in
    let name = (bytes_eq-Decides other.name part.name).0 first.0 in
    let bytes = (bytes_eq-Decides other.bytes part.bytes).0 first.1 in
    let same : other ≡ part = part_same other part name (other.whole ∙ ap sha256 bytes ∙ sym part.whole) bytes in
    ap (λ (p : Part). p ∷ others) same ∙ ap (λ (ps : List Part). part ∷ ps) (same_parts_are others parts both.1)
  where
    and_true : (a b : Bool) → (a && b) ≡ true → (a ≡ true) × (b ≡ true)
    and_true true b is = (refl, is)
    and_true false b is = absurd (cc is)

-- ---- registrations

-- the agent was registered with these names
abbrev pub RegistersAs : Server → ℕ → List ℕ → List (List ℕ) → ℕ → LinkView → LinkView → Result (Unit {0}) PeerError → Type 0
RegistersAs server agent node_name names moment before after answer =
    (date : List ℕ) × IsMomentText (Some 7) moment date
    × Asks server (registration_request server agent (registration_of node_name names) date) IsDone before after answer

pub registered : (meta : Meta) (server : Server) (agent : ℕ) (node_name : List ℕ) (moment : ℕ) (before after : LinkView) (names : List (List ℕ)) (answer : Result (Unit {0}) PeerError)
    (result : Result (Unit {0}) PullFault) → names ≡ registered_names meta → RegistersAs server agent node_name names moment before after answer → result ≡ told_as answer
    → Registers meta server agent node_name moment before after result
registered meta server agent node_name moment before after names answer result are sent is =
    let own = subst (λ (ns : List (List ℕ)). RegistersAs server agent node_name ns moment before after answer) are sent in
    inl (record { date = own.0; is_date = own.1; answer = answer; asks = own.2; is = is })
