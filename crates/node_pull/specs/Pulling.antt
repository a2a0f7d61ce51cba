-- A pull: what it asks of the server, and what it brings.
use Rattle.std.specs.Prelude.{◌≡◌, ℕ, List, Option, Some, None, Result, Ok, Err, if◌then◌else◌}
use Rattle.dsc_document.specs.declared.document.Document.{Document}
use Rattle.meta_config.specs.declared.meta.Meta.{Meta}
use Rattle.meta_config.specs.declared.server.Server.{Server}
use Rattle.dsc_outside.specs.declared.entries.Package.{Package}
use Rattle.partial_merge.specs.declared.part.Part.{Part}
use Rattle.partial_merge.specs.Merged.{Merged}
use Rattle.node_state.specs.declared.error.StageError.{StageError}
use Rattle.node_state.specs.declared.list.Staged.{Staged}
use Rattle.node_state.specs.StagedParts.{parts_of}
use Rattle.node_state.specs.Staging.{AreFitting, AreRefused}
use Rattle.pull_client.specs.declared.error.PeerError.{PeerError}
use Rattle.node_pull.specs.declared.error.PullFault.{PullFault}
use Rattle.node_pull.specs.declared.pulling.PullOutcome.{PullOutcome}
use Rattle.node_pull.specs.Errors.{error_of, staging_error}
use Rattle.node_pull.specs.Listing.{Listed}
use Rattle.node_pull.specs.Marks.{same_marks}
use Rattle.node_pull.specs.Packages.{Packages, modules_of}
use Rattle.dsc_outside.specs.Link.{LinkView}

-- the list, where its names and digests are not those of the parts that are held
abbrev pub brought_of : List Part → Staged → Option Staged
brought_of held staged = if same_marks held (parts_of staged) then None else Some staged

-- the parts of the new list, or those that are held where none is brought
abbrev pub parts_after : List Part → Option Staged → List Part
parts_after held (Some staged) = parts_of staged
parts_after held None = held

-- the list that comes of a pull
abbrev pub list_of : Result PullOutcome PullFault → Result (Option Staged) PullFault
list_of (Ok brought) = Ok brought.list
list_of (Err error) = Err error

-- the list of parts comes first, then it is staged, then the packages come that its document names
pub data Pulled {S : Type 0} (packages : S → Option (List Package)) (faults : S → ℕ) (meta : Meta) (server : Server) (agent : ℕ) (held : List Part) :
    LinkView → LinkView → S → S → Result (Option Staged) PullFault → Type 0 where
  not_listed : (before after : LinkView) (state : S) (error : PeerError) → Listed meta server agent held before after (Err error)
      → Pulled packages faults meta server agent held before after state state (Err (error_of error))
  not_staged : (before after : LinkView) (state : S) (parts : List Part) (error : StageError) → Listed meta server agent held before after (Ok parts)
      → AreRefused meta parts error
      → Pulled packages faults meta server agent held before after state state (Err (staging_error error))
  no_package : (before mid after : LinkView) (old new : S) (staged : Staged) (document : Document) (error : PullFault)
      → Listed meta server agent held before mid (Ok (parts_of staged)) → AreFitting meta (parts_of staged) → Merged (parts_of staged) document
      → Packages packages faults server (modules_of document) mid after old new (Err error)
      → Pulled packages faults meta server agent held before after old new (Err error)
  brought : (before mid after : LinkView) (old new : S) (staged : Staged) (document : Document) (brings : Option Staged)
      → Listed meta server agent held before mid (Ok (parts_of staged)) → AreFitting meta (parts_of staged) → Merged (parts_of staged) document
      → Packages packages faults server (modules_of document) mid after old new (Ok tt)
      → brings ≡ brought_of held staged
      → Pulled packages faults meta server agent held before after old new (Ok brings)
