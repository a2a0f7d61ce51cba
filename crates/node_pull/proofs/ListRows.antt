-- The list of parts that the answers come to.
use Rattle.std.proofs.Common.{◌≡◌, ℕ, Bool, List, [], map, Result, Ok, Err, sym, subst, ◌∙◌, ap}
use Rattle.meta_config.specs.declared.meta.Meta.{Meta}
use Rattle.meta_config.specs.declared.server.Server.{Server}
use Rattle.partial_merge.specs.declared.part.Part.{Part}
use Rattle.report_log.specs.declared.report.PartMark.{PartMark}
use Rattle.pull_client.specs.Asks.{Asks}
use Rattle.pull_client.specs.declared.error.PeerError.{PeerError}
use Rattle.pull_client.specs.declared.error.PeerError.TheVariants.{Memory}
use Rattle.pull_client.specs.Queries.{Tells, query_of}
use Rattle.pull_client.specs.Requests.{query_request}
use Rattle.node_pull.specs.Contents.{ContentsAfter, to_fetch}
use Rattle.node_pull.specs.Laying.{laid_over}
use Rattle.node_pull.specs.Listing.{Fetched, Listed, answered, laid, no_memory_to_lay, not_given, not_told}
use Rattle.node_pull.specs.Marks.{mark_of}
use Rattle.node_pull.specs.Names.{ArePartNames, asked_of}
use Rattle.dsc_outside.specs.Link.{LinkView}
use Rattle.node_pull.proofs.PartRows.{after_nothing}

abbrev pub AsksFor : Server → ℕ → List PartMark → List (List ℕ) → LinkView → LinkView → Result (List Bool) PeerError → Type 0
AsksFor server agent marks names before after result = Asks server (query_request server agent (query_of marks names)) (Tells marks names) before after result

module _ (meta : Meta) (server : Server) (agent : ℕ) (held : List Part) where
  -- the query is that of the marks of what is held
  asks_held : (marks : List PartMark) (asked wanted : List (List ℕ)) (before after : LinkView) (result : Result (List Bool) PeerError) → marks ≡ map mark_of held → asked ≡ wanted
      → AsksFor server agent marks asked before after result → AsksFor server agent (map mark_of held) wanted before after result
  asks_held marks asked wanted before after result are same asks =
      subst (λ (ns : List (List ℕ)). AsksFor server agent (map mark_of held) ns before after result) same
      (subst (λ (ms : List PartMark). AsksFor server agent ms asked before after result) are asks)

  pub no_answer : (marks : List PartMark) (names asked : List (List ℕ)) (before after : LinkView) (error : PeerError) → ArePartNames meta names → marks ≡ map mark_of held
      → asked ≡ asked_of meta names → AsksFor server agent marks asked before after (Err error) → Listed meta server agent held before after (Err error)
  no_answer marks names asked before after error is are same asks =
      not_told names error before after is (asks_held marks asked (asked_of meta names) before after (Err error) are same asks)

  -- what was fetched, for the names as they were handed on
  pub fetched_is : (names handed wanted : List (List ℕ)) (fetches given : List Bool) (before after : LinkView) (result : Result (List Part) PeerError) → handed ≡ names
      → wanted ≡ asked_of meta names → given ≡ fetches → Fetched server agent held handed (to_fetch wanted given) before after result
      → Fetched server agent held names (to_fetch (asked_of meta names) fetches) before after result
  fetched_is names handed wanted fetches given before after result are same read fetched =
      let a = subst (λ (ns : List (List ℕ)). Fetched server agent held ns (to_fetch wanted given) before after result) are fetched in
      let b = subst (λ (ws : List (List ℕ)). Fetched server agent held names (to_fetch ws given) before after result) same a in
      subst (λ (fs : List Bool). Fetched server agent held names (to_fetch (asked_of meta names) fs) before after result) read b

  pub listing_answered : (marks : List PartMark) (names asked : List (List ℕ)) (fetches : List Bool) (before mid after : LinkView) (result : Result (List Part) PeerError)
      → ArePartNames meta names → marks ≡ map mark_of held → asked ≡ asked_of meta names
      → AsksFor server agent marks asked before mid (Ok fetches) → Fetched server agent held names (to_fetch (asked_of meta names) fetches) mid after result
      → Listed meta server agent held before after result
  listing_answered marks names asked fetches before mid after result is are same asks fetched =
      answered names fetches before mid after result is (asks_held marks asked (asked_of meta names) before mid (Ok fetches) are same asks) fetched

module _ (server : Server) (agent : ℕ) (held : List Part) (names wanted : List (List ℕ)) where
  -- a content was not given
  pub parts_refused : (asked : List (List ℕ)) (none : List Part) (before after : LinkView) (error : PeerError) → asked ≡ wanted → none ≡ []
      → ContentsAfter server agent asked none before after (Err error) → Fetched server agent held names wanted before after (Err error)
  parts_refused asked none before after error same empty given = not_given error before after (after_nothing server agent asked wanted none before after (Err error) same empty given)

  -- all came, but memory ran out
  pub parts_short : (asked : List (List ℕ)) (none fetched : List Part) (before after : LinkView) → asked ≡ wanted → none ≡ []
      → ContentsAfter server agent asked none before after (Ok fetched) → Fetched server agent held names wanted before after (Err Memory)
  parts_short asked none fetched before after same empty given =
      no_memory_to_lay fetched before after (after_nothing server agent asked wanted none before after (Ok fetched) same empty given)

  -- all came, and are laid over what is held
  pub parts_laid : (asked : List (List ℕ)) (none fetched handed parts : List Part) (before after : LinkView) → asked ≡ wanted → none ≡ [] → handed ≡ fetched
      → parts ≡ laid_over names handed held → ContentsAfter server agent asked none before after (Ok fetched) → Fetched server agent held names wanted before after (Ok parts)
  parts_laid asked none fetched handed parts before after same empty are over given =
      subst (λ (ps : List Part). Fetched server agent held names wanted before after (Ok ps)) (sym (over ∙ ap (λ (ps : List Part). laid_over names ps held) are))
      (laid fetched before after (after_nothing server agent asked wanted none before after (Ok fetched) same empty given))
