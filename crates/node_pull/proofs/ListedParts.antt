-- The parts that are listed can be a list of the node: there is one for the first name that was asked about.
use Rattle.std.proofs.Common.{◌≡◌, inl, inr, ℕ, ◌≤◌, Bool, true, false, cond, List, [], ◌∷◌, length, map, filter, Some, Result, Ok, Err, refl, sym, ap, subst, ◌∙◌, arith}
use Rattle.std.specs.Bool.{⊤}
use Rattle.std.specs.Global.{Vec}
use Rattle.std.specs.Prelude.{IfOk, is_some}
use Rattle.mof_values.specs.Fold.{fold_case, same_name}
use Rattle.meta_config.specs.declared.meta.Meta.{Meta}
use Rattle.meta_config.specs.declared.server.Server.{Server}
use Rattle.node_state.specs.Lists.{AreNamed}
use Rattle.node_state.specs.Metas.{IsNodeMeta}
use Rattle.partial_merge.specs.declared.part.Part.{Part}
use Rattle.report_log.specs.declared.report.PartMark.{PartMark}
use Rattle.pull_client.specs.declared.error.PeerError.{PeerError}
use Rattle.pull_client.specs.Content.{items_in}
use Rattle.pull_client.specs.Queries.{AreAnswers, held_under}
use Rattle.node_pull.specs.Contents.{Contents, one_more, to_fetch}
use Rattle.node_pull.specs.Laying.{first_under, laid_over, part_over}
use Rattle.node_pull.specs.Listing.{Fetched, laid, no_memory_to_lay, not_given}
use Rattle.node_pull.specs.Marks.{mark_of}
use Rattle.node_pull.specs.Names.{ArePartNames, CanAsk, asked_of, is_asked}
use Rattle.dsc_outside.specs.Link.{LinkView}
use Rattle.node_pull.proofs.LaidParts.{laid_named, over_held, over_new, under_first}
use Rattle.node_pull.proofs.PartNames.{IsAmong, some_asked}

-- what is told to be held is held
held_told : (held : List Part) (name : List ℕ) → is_some (held_under (map mark_of held) name) ≡ is_some (first_under held name)
held_told [] name = refl
held_told (part ∷ held) name = go (same_name part.name name) (held_told held name)
  where
    go : (same : Bool) → is_some (held_under (map mark_of held) name) ≡ is_some (first_under held name)
        → is_some (cond same (Some part.digest) (held_under (map mark_of held) name)) ≡ is_some (cond same (Some part) (first_under held name))
    go true later = refl
    go false later = later

-- the first of the names that pass is one of them
first_kept : (test : List ℕ → Bool) (names : List (List ℕ)) (name : List ℕ) (others : List (List ℕ)) → filter test names ≡ name ∷ others → IsAmong name names
first_kept test [] name others is = absurd (cc is)
first_kept test (first ∷ names) name others is = go (test first) (first_kept test names name others) is
  where
    go : (passes : Bool) → (filter test names ≡ name ∷ others → IsAmong name names) → cond passes (first ∷ filter test names) (filter test names) ≡ name ∷ others
        → IsAmong name (first ∷ names)
    go true later same = inl (cc same)
    go false later same = inr (later same)

-- the first content that came
first_given : {server : Server} {agent : ℕ} {names : List (List ℕ)} {name : List ℕ} {before after : LinkView} {fetched : List Part}
    → Contents server agent (name ∷ names) before after (Ok fetched) → (part : Part) × (first_under fetched name ≡ Some part)
first_given (one_more name names part parts before mid after asks named rest) = (part, under_first part parts name (ap fold_case named))

-- there is a part under the first name that was asked about: a new one, or else one that is held
part_asked : {server : Server} {agent : ℕ} {before after : LinkView} {fetched : List Part} (held : List Part) (name : List ℕ) (others : List (List ℕ)) (fetches : List Bool)
    → AreAnswers (map mark_of held) (name ∷ others) fetches → Contents server agent (to_fetch (name ∷ others) fetches) before after (Ok fetched)
    → is_some (part_over fetched held name) ≡ true
part_asked held name others [] answers contents = absurd answers
part_asked {fetched = fetched} held name others (true ∷ fetches) answers contents = let given = first_given contents in over_new fetched held name given.0 given.1
part_asked {fetched = fetched} held name others (false ∷ fetches) answers contents = over_held fetched held name (sym (held_told held name) ∙ answers.0 refl)

named_by : {server : Server} {agent : ℕ} {before after : LinkView} {fetched : List Part} (meta : Meta) (held : List Part) (names asked : List (List ℕ)) (fetches : List Bool)
    → IsNodeMeta meta → ArePartNames meta names → asked_of meta names ≡ asked → 1 ≤ length asked
    → AreAnswers (map mark_of held) asked fetches → Contents server agent (to_fetch asked fetches) before after (Ok fetched) → AreNamed (laid_over names fetched held)
named_by meta held names [] fetches is are same some answers contents = absurd (omega arith)
named_by {fetched = fetched} meta held names (name ∷ others) fetches is are same some answers contents =
    laid_named meta names fetched held name is.is are (first_kept (is_asked meta) names name others same) (part_asked held name others fetches answers contents)

abbrev pub NamedIfListed : Result (List Part) PeerError → Type 0
NamedIfListed (Ok parts) = AreNamed parts
NamedIfListed (Err error) = ⊤

fetched_named : {server : Server} {agent : ℕ} {held : List Part} {names asked : List (List ℕ)} {before after : LinkView} {result : Result (List Part) PeerError} (meta : Meta) (fetches : List Bool)
    → IsNodeMeta meta → ArePartNames meta names → asked_of meta names ≡ asked → 1 ≤ length asked → AreAnswers (map mark_of held) asked fetches
    → Fetched server agent held names (to_fetch asked fetches) before after result → NamedIfListed result
fetched_named meta fetches is are same some answers (not_given error before after contents) = tt
fetched_named {held = held} {names = names} {asked = asked} meta fetches is are same some answers (laid fetched before after contents) =
    named_by meta held names asked fetches is are same some answers contents
fetched_named meta fetches is are same some answers (no_memory_to_lay fetched before after contents) = tt

-- the same of a vector
named_if_listed : (result : Result (Vec Part) PeerError) → NamedIfListed (items_in result (λ v. v.items)) → IfOk result (λ parts. AreNamed parts.items)
named_if_listed (Ok parts) named = named
named_if_listed (Err error) named = tt

pub listed_named : (meta : Meta) (server : Server) (agent : ℕ) (held : List Part) (marks : List PartMark) (names asked : List (List ℕ)) (fetches : List Bool) (before after : LinkView)
    (result : Result (Vec Part) PeerError) → IsNodeMeta meta → CanAsk meta → ArePartNames meta names → marks ≡ map mark_of held → asked ≡ asked_of meta names
    → AreAnswers marks asked fetches → Fetched server agent held names (to_fetch (asked_of meta names) fetches) before after (items_in result (λ v. v.items))
    → IfOk result (λ parts. AreNamed parts.items)
listed_named meta server agent held marks names asked fetches before after result is can are held_are same answers fetched =
    let told = subst (λ (ms : List PartMark). AreAnswers ms asked fetches) held_are answers in
    named_if_listed result
    (fetched_named meta fetches is are refl (some_asked meta names is.is can are) (subst (λ (ns : List (List ℕ)). AreAnswers (map mark_of held) ns fetches) same told) fetched)
