-- The content of one name, and those of the names after it.
use Rattle.std.proofs.Common.{◌≡◌, ◌⊎◌, inl, inr, ℕ, ◌<◌, ◌≤◌, Bool, List, [], ◌∷◌, ◌++◌, length, get_or, drop, Result, Ok, Err, refl, sym, ap, subst, ◌∙◌, arith, append_assoc, append-nil}
use Rattle.meta_config.specs.declared.server.Server.{Server}
use Rattle.partial_merge.specs.declared.part.Part.{Part}
use Rattle.pull_client.specs.declared.error.PeerError.{PeerError}
use Rattle.pull_client.specs.declared.error.PeerError.TheVariants.{Memory}
use Rattle.node_pull.specs.Contents.{AsksContent, Contents, ContentsAfter, after_earlier, ended, ended_later, no_memory, no_more, one_more, to_fetch}
use Rattle.dsc_outside.specs.Link.{LinkView}

-- ---- of the names that are left

-- no name is left
pub no_name : {A : Type 0} (names : List A) → length names < 1 → names ≡ []
no_name [] lt = refl
no_name (name ∷ names) lt = absurd (omega arith)

-- the first of the names, and the others
pub first_name : {A : Type 0} (names : List A) (name : A) → 1 ≤ length names → name ≡ get_or names 0 name → names ≡ name ∷ drop 1 names
first_name [] name lt is = absurd (omega arith)
first_name (first ∷ names) name lt is = ap (λ x. x ∷ names) (sym is)

-- ---- the names that are wanted

none_wanted : (names : List (List ℕ)) (fetches : List Bool) → (length names < 1) ⊎ (length fetches < 1) → to_fetch names fetches ≡ []
none_wanted [] fetches none = refl
none_wanted (name ∷ names) [] none = refl
none_wanted (name ∷ names) (fetch ∷ fetches) (inl lt) = absurd (omega (arith, lt))
none_wanted (name ∷ names) (fetch ∷ fetches) (inr lt) = absurd (omega (arith, lt))

-- no name is left, or no answer is
pub all_wanted : (names : List (List ℕ)) (fetches : List Bool) (left : List (List ℕ)) (answers : List Bool) (wanted : List (List ℕ))
    → to_fetch names fetches ≡ wanted ++ to_fetch left answers → (length left < 1) ⊎ (length answers < 1) → wanted ≡ to_fetch names fetches
all_wanted names fetches left answers wanted so_far none = sym (so_far ∙ ap (λ (ws : List (List ℕ)). wanted ++ ws) (none_wanted left answers none) ∙ append-nil wanted)

-- ---- the contents after earlier ones

module _ (server : Server) (agent : ℕ) where
  after_part : (name : List ℕ) (names : List (List ℕ)) (earlier : List Part) (before mid after : LinkView) (part : Part) (result others : Result (List Part) PeerError)
      → AsksContent server agent name before mid (Ok part) → part.name ≡ name → Contents server agent names mid after others
      → result ≡ after_earlier (earlier ++ part ∷ []) others → ContentsAfter server agent (name ∷ names) earlier before after result
  after_part name names earlier before mid after part result (Ok parts) asks named rest is = record {
    others = Ok (part ∷ parts);
    contents = one_more name names part parts before mid after asks named rest;
    is = is ∙ ap Ok (append_assoc earlier (part ∷ []) parts);
  }
  after_part name names earlier before mid after part result (Err error) asks named rest is =
      record { others = Err error; contents = ended_later name names part error before mid after asks rest; is = is }

  pub at_end : (names : List (List ℕ)) (earlier : List Part) (view : LinkView) → length names < 1 → ContentsAfter server agent names earlier view view (Ok earlier)
  at_end names earlier view lt =
      subst (λ (ns : List (List ℕ)). ContentsAfter server agent ns earlier view view (Ok earlier)) (sym (no_name names lt))
      (record { others = Ok []; contents = no_more view; is = ap Ok (sym (append-nil earlier)) })

  pub at_part : (names left : List (List ℕ)) (earlier more : List Part) (before mid after : LinkView) (name : List ℕ) (part : Part) (result : Result (List Part) PeerError)
      → names ≡ name ∷ drop 1 names → left ≡ drop 1 names → more ≡ earlier ++ part ∷ []
      → AsksContent server agent name before mid (Ok part) → part.name ≡ name → ContentsAfter server agent left more mid after result
      → ContentsAfter server agent names earlier before after result
  at_part names left earlier more before mid after name part result first others_are with asks named rest =
      subst (λ (ns : List (List ℕ)). ContentsAfter server agent ns earlier before after result) (sym first)
      (after_part name (drop 1 names) earlier before mid after part result rest.others asks named
      (subst (λ (ns : List (List ℕ)). Contents server agent ns mid after rest.others) others_are rest.contents)
      (rest.is ∙ ap (λ (m : List Part). after_earlier m rest.others) with))

  pub at_error : (names : List (List ℕ)) (earlier : List Part) (before after : LinkView) (name : List ℕ) (error : PeerError)
      → names ≡ name ∷ drop 1 names → AsksContent server agent name before after (Err error) → ContentsAfter server agent names earlier before after (Err error)
  at_error names earlier before after name error first asks =
      subst (λ (ns : List (List ℕ)). ContentsAfter server agent ns earlier before after (Err error)) (sym first)
      (record { others = Err error; contents = ended name (drop 1 names) error before after asks; is = refl })

  -- no memory for the part
  pub at_short : (names : List (List ℕ)) (earlier : List Part) (before after : LinkView) (name : List ℕ) (part : Part)
      → names ≡ name ∷ drop 1 names → AsksContent server agent name before after (Ok part) → ContentsAfter server agent names earlier before after (Err Memory)
  at_short names earlier before after name part first asks =
      subst (λ (ns : List (List ℕ)). ContentsAfter server agent ns earlier before after (Err Memory)) (sym first)
      (record { others = Err Memory; contents = ended_later name (drop 1 names) part Memory before after after asks (no_memory (drop 1 names) after); is = refl })

  whole : (others : Result (List Part) PeerError) → after_earlier [] others ≡ others
  whole (Ok others) = refl
  whole (Err error) = refl

  -- with nothing earlier they are the whole
  pub after_nothing : (names wanted : List (List ℕ)) (none : List Part) (before after : LinkView) (result : Result (List Part) PeerError) → names ≡ wanted → none ≡ []
      → ContentsAfter server agent names none before after result → Contents server agent wanted before after result
  after_nothing names wanted none before after result same empty all =
      subst (λ (ns : List (List ℕ)). Contents server agent ns before after result) same
      (subst (λ (r : Result (List Part) PeerError). Contents server agent names before after r)
      (sym (all.is ∙ ap (λ (e : List Part). after_earlier e all.others) empty ∙ whole all.others)) all.contents)
