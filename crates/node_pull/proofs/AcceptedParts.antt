-- Each part that is brought is held or was accepted.
use Rattle.std.proofs.Common.{◌≡◌, inl, inr, ℕ, Bool, true, false, List, [], ◌∷◌, Option, Some, None, Result, Ok, Err, sym, subst, All}
use Rattle.std.proofs.lemmas.List.Elements.{All-contains, All-from_recursion}
use Rattle.std.specs.Bool.{⊤}
use Rattle.std.specs.List.{AllByRecursion}
use Rattle.std.specs.Prelude.{IfOk, IfSome, if◌then◌else◌}
use Rattle.dsc_outside.specs.declared.entries.Package.{Package}
use Rattle.meta_config.specs.declared.meta.Meta.{Meta}
use Rattle.meta_config.specs.declared.server.Server.{Server}
use Rattle.node_state.specs.declared.list.Staged.{Staged}
use Rattle.node_state.specs.StagedParts.{parts_of}
use Rattle.partial_merge.specs.declared.part.Part.{Part}
use Rattle.pull_client.specs.Asks.{Asks}
use Rattle.pull_client.specs.declared.error.PeerError.{PeerError}
use Rattle.pull_client.specs.Content.{GivesPart}
use Rattle.pull_client.specs.Requests.{content_request}
use Rattle.node_pull.specs.declared.error.PullFault.{PullFault}
use Rattle.node_pull.specs.Contents as contents
use Rattle.node_pull.specs.Contents.{Contents, IsHeldOrAccepted, WasAccepted}
use Rattle.node_pull.specs.Listing as listing
use Rattle.node_pull.specs.Listing.{Fetched, Listed}
use Rattle.node_pull.specs.Marks.{same_marks}
use Rattle.node_pull.specs.Pulling as pulling
use Rattle.node_pull.specs.Pulling.{Pulled, brought_of}
use Rattle.dsc_outside.specs.Link.{GoesOn, LinkView}
use Rattle.node_pull.specs.Views.{Accepts, MadeSince}
use Rattle.node_pull.proofs.GoingOn.{asks_goes_on, contents_go_on, packages_go_on}
use Rattle.node_pull.proofs.LaidParts.{laid_all}
use Rattle.node_pull.proofs.Since.{asked_since, since_before, since_then}

-- ---- what was accepted

was_on : (server : Server) (agent : ℕ) (before mid after : LinkView) (part : Part) → GoesOn mid after → WasAccepted server agent before mid part → WasAccepted server agent before after part
was_on server agent before mid after part on was = since_then (Accepts server (content_request server agent part.name) (GivesPart part.name) part) before mid after was on

module _ (server : Server) (agent : ℕ) where
  accepted_on : (held : List Part) (before mid after : LinkView) (part : Part) → GoesOn mid after → IsHeldOrAccepted server agent held before mid part → IsHeldOrAccepted server agent held before after part
  accepted_on held before mid after part on (inl has) = inl has
  accepted_on held before mid after part on (inr was) = inr (was_on server agent before mid after part on was)

  accepted_from : (held : List Part) (before mid after : LinkView) (part : Part) → GoesOn before mid → IsHeldOrAccepted server agent held mid after part → IsHeldOrAccepted server agent held before after part
  accepted_from held before mid after part on (inl has) = inl has
  accepted_from held before mid after part on (inr was) = inr (since_before (Accepts server (content_request server agent part.name) (GivesPart part.name) part) before mid after on was)

  all_on : (held : List Part) (before mid after : LinkView) (parts : List Part) → GoesOn mid after → AllByRecursion (IsHeldOrAccepted server agent held before mid) parts
      → AllByRecursion (IsHeldOrAccepted server agent held before after) parts
  all_on held before mid after [] on all = tt
  all_on held before mid after (part ∷ parts) on all = (accepted_on held before mid after part on all.0, all_on held before mid after parts on all.1)

  all_from : (held : List Part) (before mid after : LinkView) (parts : List Part) → GoesOn before mid → AllByRecursion (IsHeldOrAccepted server agent held mid after) parts
      → AllByRecursion (IsHeldOrAccepted server agent held before after) parts
  all_from held before mid after [] on all = tt
  all_from held before mid after (part ∷ parts) on all = (accepted_from held before mid after part on all.0, all_from held before mid after parts on all.1)

-- a content that was given
asked_part : (server : Server) (agent : ℕ) (name : List ℕ) (before after : LinkView) (part : Part) → part.name ≡ name
    → Asks server (content_request server agent name) (GivesPart name) before after (Ok part) → WasAccepted server agent before after part
asked_part server agent name before after part named asks =
    subst (λ (n : List ℕ). MadeSince (Accepts server (content_request server agent n) (GivesPart n) part) before after) (sym named)
    (asked_since server (content_request server agent name) (GivesPart name) before after part asks)

abbrev pub AllAccepted : Server → ℕ → List Part → LinkView → LinkView → Result (List Part) PeerError → Type 0
AllAccepted server agent held before after (Ok parts) = AllByRecursion (IsHeldOrAccepted server agent held before after) parts
AllAccepted server agent held before after (Err error) = ⊤

-- each part whose content came was accepted
abbrev pub AllGiven : Server → ℕ → LinkView → LinkView → Result (List Part) PeerError → Type 0
AllGiven server agent before after (Ok parts) = AllByRecursion (WasAccepted server agent before after) parts
AllGiven server agent before after (Err error) = ⊤

was_from : (server : Server) (agent : ℕ) (before mid after : LinkView) (parts : List Part) → GoesOn before mid → AllByRecursion (WasAccepted server agent mid after) parts
    → AllByRecursion (WasAccepted server agent before after) parts
was_from server agent before mid after [] on all = tt
was_from server agent before mid after (part ∷ parts) on all =
    (since_before (Accepts server (content_request server agent part.name) (GivesPart part.name) part) before mid after on all.0, was_from server agent before mid after parts on all.1)

contents_given : {server : Server} {agent : ℕ} {names : List (List ℕ)} {before after : LinkView} {result : Result (List Part) PeerError}
    → Contents server agent names before after result → AllGiven server agent before after result
contents_given (contents.no_more view) = tt
contents_given {server = server} {agent = agent} (contents.one_more name names part parts before mid after asks named rest) = (
  was_on server agent before mid after part (contents_go_on rest) (asked_part server agent name before mid part named asks),
  was_from server agent before mid after parts (asks_goes_on server _ _ before mid (Ok part) asks) (contents_given rest),
)
contents_given (contents.ended name names error before after asks) = tt
contents_given (contents.ended_later name names part error before mid after asks rest) = tt
contents_given (contents.no_memory names view) = tt

fetched_accepted : {server : Server} {agent : ℕ} {held : List Part} {names wanted : List (List ℕ)} {before after : LinkView} {result : Result (List Part) PeerError}
    → Fetched server agent held names wanted before after result → AllAccepted server agent held before after result
fetched_accepted (listing.not_given error before after given) = tt
fetched_accepted {server = server} {agent = agent} {held = held} {names = names} (listing.laid fetched before after given) =
    laid_all (IsHeldOrAccepted server agent held before after) fetched held
    (λ part there. inr (All-contains (WasAccepted server agent before after) fetched part
    (All-from_recursion (WasAccepted server agent before after) fetched (contents_given given)) there))
    (λ part there. inl there) names
fetched_accepted (listing.no_memory_to_lay fetched before after given) = tt

others_from : (server : Server) (agent : ℕ) (held : List Part) (before mid after : LinkView) (others : Result (List Part) PeerError) → GoesOn before mid → AllAccepted server agent held mid after others
    → AllAccepted server agent held before after others
others_from server agent held before mid after (Ok others) on all = all_from server agent held before mid after others on all
others_from server agent held before mid after (Err error) on all = tt

listed_accepted : {meta : Meta} {server : Server} {agent : ℕ} {held : List Part} {before after : LinkView} {result : Result (List Part) PeerError}
    → Listed meta server agent held before after result → AllAccepted server agent held before after result
listed_accepted (listing.not_told names error before after asked queries) = tt
listed_accepted {server = server} {agent = agent} {held = held} (listing.answered names fetches before mid after result asked queries given) =
    others_from server agent held before mid after result (asks_goes_on server _ _ before mid (Ok fetches) queries) (fetched_accepted given)
listed_accepted (listing.no_memory view) = tt

abbrev pub Brought : Server → ℕ → List Part → LinkView → LinkView → Result (Option Staged) PullFault → Type 0
Brought server agent held before after result = IfOk result (λ brought. IfSome brought (λ staged. All (IsHeldOrAccepted server agent held before after) (parts_of staged)))

brought_accepted : (server : Server) (agent : ℕ) (held : List Part) (before after : LinkView) (staged : Staged) (brings : Option Staged) → brings ≡ brought_of held staged
    → AllByRecursion (IsHeldOrAccepted server agent held before after) (parts_of staged) → IfSome brings (λ (s : Staged). All (IsHeldOrAccepted server agent held before after) (parts_of s))
brought_accepted server agent held before after staged brings is all =
    subst (λ (b : Option Staged). IfSome b (λ (s : Staged). All (IsHeldOrAccepted server agent held before after) (parts_of s))) (sym is) (go (same_marks held (parts_of staged)))
  where
    go : (same : Bool) → IfSome (if same then None else Some staged) (λ (s : Staged). All (IsHeldOrAccepted server agent held before after) (parts_of s))
    go true = tt
    go false = All-from_recursion (IsHeldOrAccepted server agent held before after) (parts_of staged) all

pub pulled_accepted : {S : Type 0} {packages : S → Option (List Package)} {faults : S → ℕ} {meta : Meta} {server : Server} {agent : ℕ} {held : List Part} {before after : LinkView} {old new : S}
    {result : Result (Option Staged) PullFault}
    → Pulled packages faults meta server agent held before after old new result → Brought server agent held before after result
pulled_accepted (pulling.not_listed before after state error listed) = tt
pulled_accepted (pulling.not_staged before after state parts error listed refused) = tt
pulled_accepted (pulling.no_package before mid after old new staged document error listed fitting merged came) = tt
pulled_accepted {server = server} {agent = agent} {held = held} (pulling.brought before mid after old new staged document brings listed fitting merged came is) =
    brought_accepted server agent held before after staged brings is (all_on server agent held before mid after (parts_of staged) (packages_go_on came) (listed_accepted listed))
