-- Bytes give a node at most one text or are refused for at most one reason, and never both.
use Rattle.std.proofs.Common.{◌≡◌, ◌≢◌, ◌<◌, ◌≤◌, ℕ, Bool, true, false, List, [], ◌∷◌, length, take, refl, sym, ap, ap₂, subst, ◌∙◌, Option, Some, None, arith}
use Rattle.std.specs.List.{list_any}
use Rattle.std.proofs.lemmas.Option.{none-some, same_Some}
use Rattle.std.proofs.lemmas.Str.{encodes_same, utf8_valid_len-IsValidUpTo}
use Rattle.partial_merge.specs.Parts.{unnamed_part}
use Rattle.partial_merge.specs.Refused as merges
use Rattle.partial_merge.specs.declared.error.MergeError.{MergeError}
use Rattle.partial_merge.proofs.OneMerge as one_merge
use Rattle.config_script.specs.declared.error.CompileError.{CompileError}
use Rattle.config_script.specs.declared.error.CompileError.TheVariants as reasons
use Rattle.config_script.specs.declared.limits.TheConstants.{MAX_SCRIPT}
use Rattle.config_script.specs.Tokens.{feeds, line_of}
use Rattle.config_script.specs.Scripts.{Block, Script, IsScript, GoesWrongOn}
use Rattle.config_script.specs.Denoting.{names_node}
use Rattle.config_script.specs.Refused.{first_unknown, first_reserved, IsText, IsScriptOf, Serves, text_for, IsTextFault, HasShapeFault, HasUnknownKind, HasReserved, HasNoNode, IsUnmerged, Refuses}
use Rattle.config_script.specs.Laws.{AtMostOneText, NeverBoth, AtMostOneReason}
use Rattle.config_script.proofs.OneScript.{script_once}

-- ---- bytes as characters

text_once : (bytes one other : List ℕ) → IsText bytes one → IsText bytes other → one ≡ other
text_once bytes one other is also = encodes_same one other (is.encoded ∙ sym also.encoded)

pub too_long : (bytes : List ℕ) → MAX_SCRIPT < length bytes → length bytes ≤ MAX_SCRIPT → ⊥
too_long bytes long within = omega arith

pub no_text : (bytes chars : List ℕ) (at : ℕ) → IsTextFault bytes at → IsText bytes chars → ⊥
no_text bytes chars at fault is = fault.outside (chars, (is.scalars, is.encoded))

fault_once : (bytes : List ℕ) (one other : ℕ) → IsTextFault bytes one → IsTextFault bytes other → one ≡ other
fault_once bytes one other is also =
    sym (utf8_valid_len-IsValidUpTo bytes one is.valid_up_to) ∙ utf8_valid_len-IsValidUpTo bytes other also.valid_up_to

-- ---- characters as a script

pub no_script : (bytes chars title : List ℕ) (blocks : List Block) (line : ℕ) → HasShapeFault bytes line → IsScriptOf bytes chars title blocks → ⊥
no_script bytes chars title blocks line fault is =
    let same : chars ≡ fault.chars = text_once bytes chars fault.chars is.is_text fault.is_text in
    fault.wrong.none (subst (λ (cs : List ℕ). IsScript cs) same (title, blocks, is.script))

wrong_once : (text : List ℕ) (one other : ℕ) → GoesWrongOn text one → GoesWrongOn text other → one ≡ other
wrong_once text one other is also =
    let less : is.at ≤ also.at = also.longest is.at is.within is.front in
    let more : also.at ≤ is.at = is.longest also.at also.within also.front in
    let same : is.at ≡ also.at = omega arith in
    is.counted ∙ ap (λ (n : ℕ). feeds (take n text)) same ∙ sym also.counted

shape_once : (bytes : List ℕ) (one other : ℕ) → HasShapeFault bytes one → HasShapeFault bytes other → one ≡ other
shape_once bytes one other is also =
    let same : is.chars ≡ also.chars = text_once bytes is.chars also.chars is.is_text also.is_text in
    wrong_once also.chars one other (subst (λ (cs : List ℕ). GoesWrongOn cs one) same is.wrong) also.wrong

-- two readings of the bytes as a script are one
abbrev pub Same : List ℕ → List ℕ → List ℕ → List ℕ → List Block → List Block → Type 0
Same chars others title name blocks rest = (chars ≡ others) × (title ≡ name) × (blocks ≡ rest)

pub of_once : (bytes chars others title name : List ℕ) (blocks rest : List Block) → IsScriptOf bytes chars title blocks
    → IsScriptOf bytes others name rest → Same chars others title name blocks rest
of_once bytes chars others title name blocks rest is also =
    let same : chars ≡ others = text_once bytes chars others is.is_text also.is_text in
    let script = script_once others title name blocks rest (subst (λ (cs : List ℕ). Script cs title blocks) same is.script) also.script in
    (same, script.0, script.1)

-- ---- a script that gives the node no text, before its merge

abbrev of_named : Bool → Option CompileError
of_named true = None
of_named false = Some reasons.NoNode

abbrev of_reserved : List ℕ → Option (List ℕ) → Bool → Option CompileError
of_reserved chars (Some from) named = Some (reasons.Reserved (line_of chars from))
of_reserved chars None named = of_named named

abbrev of_unknown : List ℕ → Option (List ℕ) → Option (List ℕ) → Bool → Option CompileError
of_unknown chars (Some from) reserved named = Some (reasons.UnknownKind (line_of chars from))
of_unknown chars None reserved named = of_reserved chars reserved named

-- why the blocks give the node no text, or nothing where they serve it
abbrev objection : List ℕ → List Block → List ℕ → Option CompileError
objection chars blocks node = of_unknown chars (first_unknown blocks) (first_reserved blocks) (list_any (names_node node) blocks)

-- the bytes are a script with that objection
pub record Judged (bytes node : List ℕ) (found : Option CompileError) : Type 0 where
  pub chars : List ℕ
  pub title : List ℕ
  pub blocks : List Block
  pub script : IsScriptOf bytes chars title blocks
  pub is : objection chars blocks node ≡ found

judged_once : (bytes node : List ℕ) (one other : Option CompileError) → Judged bytes node one → Judged bytes node other → one ≡ other
judged_once bytes node one other is also =
    let same = of_once bytes is.chars also.chars is.title also.title is.blocks also.blocks is.script also.script in
    sym is.is ∙ ap₂ (λ (cs : List ℕ) (bs : List Block). objection cs bs node) same.0 same.2 ∙ also.is

unknown_judged : (bytes node : List ℕ) (line : ℕ) → HasUnknownKind bytes line → Judged bytes node (Some (reasons.UnknownKind line))
unknown_judged bytes node line h = record {
  chars = h.chars;
  title = h.title;
  blocks = h.blocks;
  script = h.script;
  is = ap (λ (o : Option (List ℕ)). of_unknown h.chars o (first_reserved h.blocks) (list_any (names_node node) h.blocks)) h.unknown
      ∙ ap (λ (n : ℕ). Some (reasons.UnknownKind n)) (sym h.counted);
}

-- of a script whose kinds are known and whose names are not reserved
free_is : (chars node : List ℕ) (blocks : List Block) (reserved : Option (List ℕ)) (named : Bool) → first_unknown blocks ≡ None
    → first_reserved blocks ≡ reserved → list_any (names_node node) blocks ≡ named → objection chars blocks node ≡ of_reserved chars reserved named
free_is chars node blocks reserved named k r n =
    ap (λ (o : Option (List ℕ)). of_unknown chars o (first_reserved blocks) (list_any (names_node node) blocks)) k ∙ ap₂ (of_reserved chars) r n

reserved_judged : (bytes node : List ℕ) (line : ℕ) → HasReserved bytes line → Judged bytes node (Some (reasons.Reserved line))
reserved_judged bytes node line h = record {
  chars = h.chars;
  title = h.title;
  blocks = h.blocks;
  script = h.script;
  is = free_is h.chars node h.blocks (Some h.from) (list_any (names_node node) h.blocks) h.known h.reserved refl
      ∙ ap (λ (n : ℕ). Some (reasons.Reserved n)) (sym h.counted);
}

no_node_judged : (bytes node : List ℕ) → HasNoNode bytes node → Judged bytes node (Some reasons.NoNode)
no_node_judged bytes node h = record {
  chars = h.chars;
  title = h.title;
  blocks = h.blocks;
  script = h.script;
  is = free_is h.chars node h.blocks None false h.known h.free h.unnamed;
}

serves_judged : (bytes node title : List ℕ) (blocks : List Block) → Serves bytes node title blocks → Judged bytes node None
serves_judged bytes node title blocks h = record {
  chars = h.chars;
  title = title;
  blocks = blocks;
  script = h.script;
  is = free_is h.chars node blocks None true h.known h.free h.named;
}

-- one text serves the node
serves_once : (bytes node title name : List ℕ) (blocks rest : List Block) → Serves bytes node title blocks → Serves bytes node name rest
    → text_for title blocks node ≡ text_for name rest node
serves_once bytes node title name blocks rest is also =
    let same = of_once bytes is.chars also.chars title name blocks rest is.script also.script in
    ap₂ (λ (t : List ℕ) (bs : List Block). text_for t bs node) same.1 same.2

unmerged_once : (bytes node : List ℕ) (one other : MergeError) → IsUnmerged bytes node one → IsUnmerged bytes node other → one ≡ other
unmerged_once bytes node one other is also =
    let same = serves_once bytes node is.title also.title is.blocks also.blocks is.serves also.serves in
    one_merge.one_refusal (unnamed_part (text_for also.title also.blocks node) ∷ []) one other is.caused also.caused
    (subst (λ (text : List ℕ). merges.Refused (unnamed_part text ∷ []) one) same is.refused) also.refused

-- ---- the reasons, by what of the bytes they are about

pub data Cause (bytes node : List ℕ) : CompileError → Type 0 where
  long : MAX_SCRIPT < length bytes → Cause bytes node reasons.TooLong
  broken : (at : ℕ) → IsTextFault bytes at → Cause bytes node (reasons.NotText at)
  shapeless : (line : ℕ) → HasShapeFault bytes line → Cause bytes node (reasons.Shape line)
  judged : (reason : CompileError) → Judged bytes node (Some reason) → Cause bytes node reason
  unmerged : (error : MergeError) → IsUnmerged bytes node error → Cause bytes node (reasons.Merge error)

module _ (bytes node : List ℕ) where
  cause_of : (reason : CompileError) → reason ≢ reasons.Memory → Refuses bytes node reason → Cause bytes node reason
  cause_of reasons.TooLong m h = long h
  cause_of (reasons.NotText at) m h = broken at h
  cause_of (reasons.Shape line) m h = shapeless line h
  cause_of (reasons.UnknownKind line) m h = judged (reasons.UnknownKind line) (unknown_judged bytes node line h)
  cause_of (reasons.Reserved line) m h = judged (reasons.Reserved line) (reserved_judged bytes node line h)
  cause_of reasons.NoNode m h = judged reasons.NoNode (no_node_judged bytes node h)
  cause_of (reasons.Merge error) m h = unmerged error h
  cause_of reasons.Memory m h = absurd (m refl)

  long_alone : (other : CompileError) → MAX_SCRIPT < length bytes → Cause bytes node other → reasons.TooLong ≡ other
  long_alone other l (long k) = refl
  long_alone other l (broken at h) = absurd (too_long bytes l h.within)
  long_alone other l (shapeless line h) = absurd (too_long bytes l h.is_text.within)
  long_alone other l (judged reason h) = absurd (too_long bytes l h.script.is_text.within)
  long_alone other l (unmerged error h) = absurd (too_long bytes l h.serves.script.is_text.within)

  broken_alone : (at : ℕ) (other : CompileError) → IsTextFault bytes at → Cause bytes node other → reasons.NotText at ≡ other
  broken_alone at other f (long l) = absurd (too_long bytes l f.within)
  broken_alone at other f (broken to h) = ap reasons.NotText (fault_once bytes at to f h)
  broken_alone at other f (shapeless line h) = absurd (no_text bytes h.chars at f h.is_text)
  broken_alone at other f (judged reason h) = absurd (no_text bytes h.chars at f h.script.is_text)
  broken_alone at other f (unmerged error h) = absurd (no_text bytes h.serves.chars at f h.serves.script.is_text)

  shapeless_alone : (line : ℕ) (other : CompileError) → HasShapeFault bytes line → Cause bytes node other → reasons.Shape line ≡ other
  shapeless_alone line other f (long l) = absurd (too_long bytes l f.is_text.within)
  shapeless_alone line other f (broken at h) = absurd (no_text bytes f.chars at h f.is_text)
  shapeless_alone line other f (shapeless to h) = ap reasons.Shape (shape_once bytes line to f h)
  shapeless_alone line other f (judged reason h) = absurd (no_script bytes h.chars h.title h.blocks line f h.script)
  shapeless_alone line other f (unmerged error h) = absurd (no_script bytes h.serves.chars h.title h.blocks line f h.serves.script)

  judged_alone : (reason other : CompileError) → Judged bytes node (Some reason) → Cause bytes node other → reason ≡ other
  judged_alone reason other j (long l) = absurd (too_long bytes l j.script.is_text.within)
  judged_alone reason other j (broken at h) = absurd (no_text bytes j.chars at h j.script.is_text)
  judged_alone reason other j (shapeless line h) = absurd (no_script bytes j.chars j.title j.blocks line h j.script)
  judged_alone reason other j (judged also h) = same_Some reason also (judged_once bytes node (Some reason) (Some also) j h)
  judged_alone reason other j (unmerged error h) =
      absurd (none-some reason (judged_once bytes node None (Some reason) (serves_judged bytes node h.title h.blocks h.serves) j))

  unmerged_alone : (error : MergeError) (other : CompileError) → IsUnmerged bytes node error → Cause bytes node other → reasons.Merge error ≡ other
  unmerged_alone error other f (long l) = absurd (too_long bytes l f.serves.script.is_text.within)
  unmerged_alone error other f (broken at h) = absurd (no_text bytes f.serves.chars at h f.serves.script.is_text)
  unmerged_alone error other f (shapeless line h) = absurd (no_script bytes f.serves.chars f.title f.blocks line h f.serves.script)
  unmerged_alone error other f (judged reason h) =
      absurd (none-some reason (judged_once bytes node None (Some reason) (serves_judged bytes node f.title f.blocks f.serves) h))
  unmerged_alone error other f (unmerged also h) = ap reasons.Merge (unmerged_once bytes node error also f h)

  cause_once : (one other : CompileError) → Cause bytes node one → Cause bytes node other → one ≡ other
  cause_once one other (long h) c = long_alone other h c
  cause_once one other (broken at h) c = broken_alone at other h c
  cause_once one other (shapeless line h) c = shapeless_alone line other h c
  cause_once one other (judged reason h) c = judged_alone reason other h c
  cause_once one other (unmerged error h) c = unmerged_alone error other h c

  -- where the blocks serve the node, the merge of their text is the only cause
  cause_unmerged : (title : List ℕ) (blocks : List Block) (reason : CompileError) → Serves bytes node title blocks → Cause bytes node reason
      → (error : MergeError) × IsUnmerged bytes node error
  cause_unmerged title blocks reason s (long l) = absurd (too_long bytes l s.script.is_text.within)
  cause_unmerged title blocks reason s (broken at h) = absurd (no_text bytes s.chars at h s.script.is_text)
  cause_unmerged title blocks reason s (shapeless line h) = absurd (no_script bytes s.chars title blocks line h s.script)
  cause_unmerged title blocks reason s (judged also h) =
      absurd (none-some also (judged_once bytes node None (Some also) (serves_judged bytes node title blocks s) h))
  cause_unmerged title blocks reason s (unmerged error h) = (error, h)

-- ---- the laws

module _ (node : List ℕ) where
  pub one_text : AtMostOneText node
  one_text bytes one other is also =
      is.written ∙ serves_once bytes node is.title also.title is.blocks also.blocks is.serves also.serves ∙ sym also.written

  pub never_both : NeverBoth node
  never_both bytes text reason m is refused =
      let u = cause_unmerged bytes node is.title is.blocks reason is.serves (cause_of bytes node reason m refused) in
      let same : text_for u.1.title u.1.blocks node ≡ text =
      serves_once bytes node u.1.title is.title u.1.blocks is.blocks u.1.serves is.serves ∙ sym is.written in
      one_merge.never_both (unnamed_part text ∷ []) is.merges.0 u.0 u.1.caused is.merges.1
      (subst (λ (t : List ℕ). merges.Refused (unnamed_part t ∷ []) u.0) same u.1.refused)

  pub one_reason : AtMostOneReason node
  one_reason bytes one other m n is also = cause_once bytes node one other (cause_of bytes node one m is) (cause_of bytes node other n also)
