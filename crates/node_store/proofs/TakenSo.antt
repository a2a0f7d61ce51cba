-- What an opening took: bodies of either format.
use Rattle.std.proofs.Common.{◌≡◌, inl, inr, ℕ, Bool, true, false, List, [], ◌∷◌, ◌++◌, Option, Some, None, Result, Ok, Err, refl, sym, ap, ◌∙◌, subst, arith}
use Rattle.std.specs.Prelude.{◌≢◌}
use Rattle.gate_log.specs.declared.replay.TakeError.{TakeError}
use Rattle.gate_log.specs.declared.replay.TakeError.TheVariants.{Refused, Memory}
use Rattle.gate_log.specs.Replay.{Taken}
use Rattle.node_state.specs.declared.node.Node.{Node}
use Rattle.node_state.specs.Sound.{Sound}
use Rattle.node_state.specs.Table.{new_node}
use Rattle.node_store.specs.declared.format.Format.{Format}
use Rattle.node_store.specs.declared.format.Format.TheVariants.{InFull, ByDigests}
use Rattle.node_store.specs.Digests.{AddsBlob, Blobs, Says, Tells, Told, Unfolds, format_body, is_plain, kind_of, nothing_told}
use Rattle.node_store.specs.declared.body.Body.{Body}
use Rattle.node_store.specs.Resolving.{SaysBody, after_kind}
use Rattle.node_store.specs.Stands.{EndsAt, Leads, LeadsByDigests, LeadsIn, LeadsInFull}
use Rattle.node_store.specs.Bank.{blobs_as}
use Rattle.node_store.specs.Taking.{Advances, Apart, IsFresh, Moves, Reached, ReachedByDigests, ReachedIn, ReachedInFull, Stays, Took, TookBlob, TookBody, TookFirst, TookMarked, has_events, is_by_digests}
use Rattle.node_store.proofs.Formats.{leads_in}
use Rattle.node_store.proofs.Ranges.{leads_sound}
use Rattle.node_store.proofs.Runs.{last_moves, no_format, nothing_reached, reached_by, took_body}
use Rattle.node_store.proofs.Unfolded.{blob_says_none, first_or, none_apart, says_one, unfolds_apart, unfolds_last, unfolds_one, unfolds_push}

-- ---- what was taken

fresh_reached : (blobs : Blobs) (node : Node) (begun : Bool) (bodies : List (List ℕ)) → IsFresh blobs node begun bodies → Reached node begun bodies
fresh_reached blobs node begun bodies fresh =
    subst (λ (l : List (List ℕ)). Reached node begun l) (sym fresh.none)
    (subst (λ (b : Bool). Reached node b []) (sym fresh.waits) (subst (λ (n : Node). Reached n false []) (sym fresh.fresh) nothing_reached))

digests_lead : (blobs : Blobs) (node : Node) (begun : Bool) (bodies : List (List ℕ)) → ReachedByDigests blobs node begun bodies → LeadsByDigests blobs bodies node
digests_lead blobs node begun bodies reached = record {
  rest = reached.rest;
  said = reached.said;
  is = reached.is;
  unfolds = reached.unfolds;
  leads = reached.reached.leads;
}

pub taken_leads : (format : Option Format) (blobs : Blobs) (node : Node) (begun : Bool) (bodies : List (List ℕ)) → ReachedIn format blobs node begun bodies → LeadsIn (blobs_as (is_by_digests format) blobs) bodies node
taken_leads None blobs node begun bodies reached = (fresh_reached blobs node begun bodies reached).leads
taken_leads (Some InFull) blobs node begun bodies reached = reached.reached.leads
taken_leads (Some ByDigests) blobs node begun bodies reached = digests_lead blobs node begun bodies reached

pub taken_sound : (format : Option Format) (blobs : Blobs) (node : Node) (begun : Bool) (bodies : List (List ℕ)) → ReachedIn format blobs node begun bodies → Sound node
taken_sound format blobs node begun bodies reached = leads_sound bodies node (leads_in (blobs_as (is_by_digests format) blobs) bodies node (taken_leads format blobs node begun bodies reached))

pub taken_apart : (blobs : Blobs) (node : Node) (begun : Bool) (bodies : List (List ℕ)) → ReachedByDigests blobs node begun bodies → Apart blobs
taken_apart blobs node begun bodies reached = unfolds_apart reached.rest nothing_told (record { blobs = blobs; said = reached.said }) none_apart reached.unfolds

pub nothing_taken : ReachedIn None [] new_node false []
nothing_taken = record { none = refl; fresh = refl; waits = refl; empty = refl }

-- ---- one body more

module _ (old new : Node) (begun after : Bool) (blobs more : Blobs) (bodies : List (List ℕ)) (body : List ℕ) where
  with_body : (l : List (List ℕ)) → bodies ≡ l → bodies ++ body ∷ [] ≡ l ++ body ∷ []
  with_body l is = ap (λ (k : List (List ℕ)). k ++ body ∷ []) is

  -- the first body
  module _ (format : Option Format) (fresh : IsFresh blobs old begun bodies) where
    begins : Reached old begun bodies
    begins = fresh_reached blobs old begun bodies fresh

    first_ends : body ≢ format_body → Stays old begun body → EndsAt bodies body
    first_ends other stays = record { lead = (old, inl begins.leads); ends = λ value leads. by value leads }
      where
        by : (value : Node) → Leads (bodies ++ body ∷ []) value → ⊥
        by value (inl leads) = stays value (has_events leads.events) (last_moves old value begun bodies body begins leads)
        by value (inr leads) = other (ap (λ (l : List (List ℕ)). first_or [] l) (sym (with_body [] fresh.none) ∙ leads.1.is))

    pub first_taken : (result : Result (Unit {0}) TakeError) → TookFirst old begun blobs body format new after more result
        → Taken (λ l. ReachedIn format more new after l) (λ l b. EndsAt l b) bodies body result
    first_taken (Ok v) (inl b) =
        subst (λ (f : Option Format). ReachedIn f more new after (bodies ++ body ∷ [])) (sym b.second) (record {
          rest = [];
          said = [];
          is = with_body [] fresh.none ∙ ap (λ (l : List ℕ). l ∷ []) b.is;
          unfolds = λ i. record { blobs = (b.same ∙ fresh.empty) i; said = [] };
          reached = subst (λ (n : Node). Reached n after []) (sym (b.node ∙ fresh.fresh)) (subst (λ (k : Bool). Reached new_node k []) (sym (b.flag ∙ fresh.waits)) nothing_reached);
        })
    first_taken (Ok v) (inr f) =
        subst (λ (g : Option Format). ReachedIn g more new after (bodies ++ body ∷ [])) (sym f.first) (record {
          first = body;
          rest = [];
          some = with_body [] fresh.none;
          reached = reached_by old new begun after bodies body f.moves.of begins f.moves.is f.moves.goes;
        })
    first_taken (Err Refused) (other, stays) = first_ends other stays
    first_taken (Err Memory) took = tt

  -- a body of format 1
  module _ (reached : ReachedInFull old begun bodies) where
    full_ends : Stays old begun body → EndsAt bodies body
    full_ends stays = record { lead = (old, inl reached.reached.leads); ends = λ value leads. by value leads }
      where
        by : (value : Node) → Leads (bodies ++ body ∷ []) value → ⊥
        by value (inl leads) = stays value (has_events leads.events) (last_moves old value begun bodies body reached.reached leads)
        by value (inr leads) =
            let first : reached.first ≡ format_body = ap (λ (l : List (List ℕ)). first_or [] l) (sym (with_body (reached.first ∷ reached.rest) reached.some) ∙ leads.1.is) in
            no_format reached.rest old (subst (λ (l : List (List ℕ)). LeadsInFull l old) (reached.some ∙ ap (λ (l : List ℕ). l ∷ reached.rest) first) reached.reached.leads)

    pub full_taken : (result : Result (Unit {0}) TakeError) → TookBody old begun body new after result
        → Taken (λ l. ReachedIn (Some InFull) more new after l) (λ l b. EndsAt l b) bodies body result
    full_taken (Ok v) moves = record {
      first = reached.first;
      rest = reached.rest ++ body ∷ [];
      some = with_body (reached.first ∷ reached.rest) reached.some;
      reached = reached_by old new begun after bodies body moves.of reached.reached moves.is moves.goes;
    }
    full_taken (Err Refused) stays = full_ends stays
    full_taken (Err Memory) took = tt

  -- a body of format 2
  module _ (reached : ReachedByDigests blobs old begun bodies) where
    marked_ends : ((gathered : Blobs) (next : Node) (flag : Bool) → Advances blobs old begun body gathered next flag → ⊥) → EndsAt bodies body
    marked_ends stays = record { lead = (old, inr (blobs, digests_lead blobs old begun bodies reached)); ends = λ value leads. by value leads }
      where
        tells : (value : Node) (last : Told) → LeadsInFull last.said value → Tells (record { blobs = blobs; said = reached.said }) body last → ⊥
        tells value last leads (inl b) = stays last.blobs old begun (inl (record { blob = b.blob; node = refl; flag = refl }))
        tells value last leads (inr m) =
            let full : LeadsInFull (reached.said ++ m.full ∷ []) value = subst (λ (l : List (List ℕ)). LeadsInFull l value) m.more leads in
            let moves = last_moves old value begun reached.said m.full reached.reached full in
            stays blobs value (has_events full.events) (inr (record { full = m.full; says = m.says; moves = moves; same = refl }))

        by : (value : Node) → Leads (bodies ++ body ∷ []) value → ⊥
        by value (inl leads) = no_format (reached.rest ++ body ∷ []) value (subst (λ (l : List (List ℕ)). LeadsInFull l value) (with_body (format_body ∷ reached.rest) reached.is) leads)
        by value (inr (all, leads)) =
            let told : Told = record { blobs = all; said = leads.said } in
            let rest : leads.rest ≡ reached.rest ++ body ∷ [] = ap (λ (l : List (List ℕ)). after_kind l) (sym leads.is ∙ with_body (format_body ∷ reached.rest) reached.is) in
            let last = unfolds_last reached.rest body nothing_told told (subst (λ (l : List (List ℕ)). Unfolds nothing_told l told) rest leads.unfolds) in
            let one = unfolds_one reached.rest nothing_told last.0 (record { blobs = blobs; said = reached.said }) none_apart last.1 reached.unfolds in
            tells value told leads.leads (subst (λ (t : Told). Tells t body told) one last.2)

    pub marked_taken : (result : Result (Unit {0}) TakeError) → TookMarked blobs old begun body more new after result
        → Taken (λ l. ReachedIn (Some ByDigests) more new after l) (λ l b. EndsAt l b) bodies body result
    marked_taken (Ok v) (inl g) = record {
      rest = reached.rest ++ body ∷ [];
      said = reached.said;
      is = with_body (format_body ∷ reached.rest) reached.is;
      unfolds = unfolds_push reached.rest body nothing_told (record { blobs = blobs; said = reached.said }) (record { blobs = more; said = reached.said }) reached.unfolds (inl (record { blob = g.blob; same = refl }));
      reached = subst (λ (n : Node). Reached n after reached.said) (sym g.node) (subst (λ (k : Bool). Reached old k reached.said) (sym g.flag) reached.reached);
    }
    marked_taken (Ok v) (inr p) = record {
      rest = reached.rest ++ body ∷ [];
      said = reached.said ++ p.full ∷ [];
      is = with_body (format_body ∷ reached.rest) reached.is;
      unfolds = unfolds_push reached.rest body nothing_told (record { blobs = blobs; said = reached.said }) (record { blobs = more; said = reached.said ++ p.full ∷ [] }) reached.unfolds
          (inr (record { full = p.full; says = p.says; same = p.same; more = refl }));
      reached = reached_by old new begun after reached.said p.full p.moves.of reached.reached p.moves.is p.moves.goes;
    }
    marked_taken (Err Refused) stays = marked_ends stays
    marked_taken (Err Memory) took = tt

-- ---- what taking a body of format 2 answers

module _ (old : Node) (begun : Bool) (blobs : Blobs) (body : List ℕ) where
  not_plain : (kind : ℕ) (full : List ℕ) → kind_of body ≡ kind → is_plain kind ≡ false → is_plain (kind_of body) ≡ true → ⊥
  not_plain kind full is plain not = let no : false ≡ true = sym (ap is_plain is ∙ plain) ∙ not in cc no

  -- what it says in full was taken
  pub said_took : (full : List ℕ) (new : Node) (after : Bool) (result : Result (Unit {0}) TakeError) → Apart blobs → Says blobs body full → TookBody old begun full new after result
      → TookMarked blobs old begun body blobs new after result
  said_took full new after (Ok v) apart says moves = inr (record { full = full; says = says; moves = moves; same = refl })
  said_took full new after (Err Refused) apart says stays = λ gathered next flag advances. by gathered next flag advances
    where
      by : (gathered : Blobs) (next : Node) (flag : Bool) → Advances blobs old begun body gathered next flag → ⊥
      by gathered next flag (inl g) = blob_says_none blobs body gathered full g.blob says
      by gathered next flag (inr p) = stays next flag (subst (λ (l : List ℕ). Moves old begun l next flag) (says_one blobs body p.full full apart p.says says) p.moves)
  said_took full new after (Err Memory) apart says took = tt

  -- a Blob was taken
  pub blob_took : (more : Blobs) (result : Result (Unit {0}) TakeError) → kind_of body ≡ 16 → TookBlob blobs body more result → TookMarked blobs old begun body more old begun result
  blob_took more (Ok v) kind added = inl (record { blob = added; node = refl; flag = refl })
  blob_took more (Err Refused) kind none = λ gathered next flag advances. by gathered next flag advances
    where
      says : (full : List ℕ) → Says blobs body full → ⊥
      says full (inl s) = let k : kind_of body ≡ 17 = ap kind_of s.is in omega (arith, k, kind)
      says full (inr (inl s)) = let k : kind_of body ≡ 18 = ap kind_of s.is in omega (arith, k, kind)
      says full (inr (inr s)) = not_plain 16 full kind refl s.plain

      by : (gathered : Blobs) (next : Node) (flag : Bool) → Advances blobs old begun body gathered next flag → ⊥
      by gathered next flag (inl g) = none gathered g.blob
      by gathered next flag (inr p) = says p.full p.says
  blob_took more (Err Memory) kind took = tt

  no_blob : (kind : ℕ) (gathered : Blobs) → kind_of body ≡ kind → (kind ≡ 16 → ⊥) → AddsBlob blobs body gathered → ⊥
  no_blob kind gathered is other b = let k : kind_of body ≡ 16 = ap kind_of b.is in other (sym is ∙ k)

  -- the event or piece that it says was taken
  pub body_took : (of : Body) (new : Node) (after : Bool) (result : Result (Unit {0}) TakeError) → Apart blobs → SaysBody blobs body of → Took old begun of new after result → TookMarked blobs old begun body blobs new after result
  body_took of new after result apart said took = said_took said.full new after result apart said.says (took_body old new begun after said.full of result took said.is)

  -- it says none
  pub body_refused : (kind_of body ≡ 16 → ⊥) → ((of : Body) → SaysBody blobs body of → ⊥) → (gathered : Blobs) (next : Node) (flag : Bool) → Advances blobs old begun body gathered next flag → ⊥
  body_refused other none gathered next flag (inl g) = other (ap kind_of g.blob.is)
  body_refused other none gathered next flag (inr p) = none p.moves.of (record { full = p.full; says = p.says; is = p.moves.is })

  -- a kind that format 2 does not have
  pub kind_refused : (kind_of body ≡ 16 → ⊥) → (kind_of body ≡ 17 → ⊥) → (kind_of body ≡ 18 → ⊥) → is_plain (kind_of body) ≡ false
      → (gathered : Blobs) (next : Node) (flag : Bool) → Advances blobs old begun body gathered next flag → ⊥
  kind_refused blob stage slot plain gathered next flag (inl g) = blob (ap kind_of g.blob.is)
  kind_refused blob stage slot plain gathered next flag (inr p) = by p.full p.says
    where
      by : (full : List ℕ) → Says blobs body full → ⊥
      by full (inl s) = stage (ap kind_of s.is)
      by full (inr (inl s)) = slot (ap kind_of s.is)
      by full (inr (inr s)) = let no : false ≡ true = sym plain ∙ s.plain in cc no
