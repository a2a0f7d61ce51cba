-- What compile answers, from what was read, looked for, written and merged.
use Rattle.std.proofs.Common.{◌≡◌, inl, inr, ◌≤◌, ◌<◌, ℕ, true, false, List, [], ◌∷◌, ◌++◌, length, length-append, refl, sym, ap, subst, ◌∙◌, Option, Some, None, Result, Err, IfErr, IfSome, IfNone, encode_utf8_all, arith}
use Rattle.std.specs.Borrow.{Bor}
use Rattle.std.specs.Prelude.{string_bytes}
use Rattle.std.specs.Str.{all_scalars, chars, IsUtf8}
use Rattle.std.proofs.lemmas.Str.{chars_from_encodes, encodes-chars}
use Rattle.mof_syntax.specs.Canonical.{canonical_instance}
use Rattle.mof_syntax.specs.Limits.{document_limit}
use Rattle.mof_syntax.specs.Scanning.{left_of}
use Rattle.mof_syntax.specs.declared.mof_error.MofError.TheVariants as mof
use Rattle.dsc_document.specs.declared.document.Document.{Document}
use Rattle.partial_merge.specs.Merged.{Merged}
use Rattle.partial_merge.specs.Parts.{unnamed_part}
use Rattle.partial_merge.specs.Refused as merges
use Rattle.partial_merge.specs.declared.error.MergeError.TheVariants as merge_errors
use Rattle.partial_merge.specs.declared.error.PartFault.TheVariants.{Mof}
use Rattle.partial_merge.proofs.OnePart.{refused_first}
use Rattle.config_script.specs.declared.error.CompileError.{CompileError}
use Rattle.config_script.specs.declared.error.CompileError.TheVariants as reasons
use Rattle.config_script.specs.declared.limits.TheConstants.{MAX_SCRIPT}
use Rattle.config_script.specs.Tokens.{line_of}
use Rattle.config_script.specs.Scripts.{IsScript}
use Rattle.config_script.specs.Places.{Event, IsRead}
use Rattle.config_script.specs.Checking.{MergesAs, unknown_in, reserved_in, named_in}
use Rattle.config_script.specs.Refused.{IsText, IsScriptOf, Serves, Compiles, HasShapeFault, HasUnknownKind, HasReserved, HasNoNode, IsUnmerged, Refuses, text_for, first_unknown, first_reserved}
use Rattle.config_script.specs.Denoting.{header}
use Rattle.config_script.specs.Reading.{Continues, IsReadOf}
use Rattle.config_script.specs.Writing.{IsWritten, written}
use Rattle.config_script.specs.declared.read.Reading.{Reading}
use Rattle.config_script.specs.Fronts.{LongestFront}
use Rattle.config_script.proofs.Checked.{script_unknown, script_reserved, script_named}
use Rattle.config_script.proofs.Denoted.{script_written}
use Rattle.config_script.proofs.Taken.{leaves_none}
use Rattle.config_script.proofs.Wrong.{goes_wrong}

-- what the exit of a `?` hands on as it is
pub handed_on : {U : Type 0} (result : Result U CompileError) (y e : CompileError) (P : CompileError → Type 0) → result ≡ Err y → y ≡ e → P e
    → IfErr result P
handed_on {U} result y e P is same h =
    subst (λ (r : Result U CompileError). IfErr r P) (sym is) (subst (λ (x : CompileError). P x) (sym same) h)

pub merges_same : (document bytes : List ℕ) (error : CompileError) → document ≡ bytes → MergesAs document error → MergesAs bytes error
merges_same document bytes error e m = subst (λ (xs : List ℕ). MergesAs xs error) e m

pub merged_same : (document bytes : List ℕ) → document ≡ bytes → (merged : Document) × Merged (unnamed_part document ∷ []) merged
    → (merged : Document) × Merged (unnamed_part bytes ∷ []) merged
merged_same document bytes e m = (m.0, subst (λ (xs : List ℕ). Merged (unnamed_part xs ∷ []) m.0) e m.1)

pub text_is : (text : List ℕ) → IsUtf8 text → length text ≤ MAX_SCRIPT → IsText text (chars text)
text_is text u short = record {
  within = short;
  scalars = subst (λ (cs : List ℕ). all_scalars cs ≡ true) (chars_from_encodes u.0 text u u.1.1) u.1.0;
  encoded = encodes-chars text u;
}

pub shape_fault : (text rest : List ℕ) (line : ℕ) → IsUtf8 text → length text ≤ MAX_SCRIPT → (IsScript (chars text) → ⊥) → LongestFront IsScript (chars text) rest
    → line ≡ line_of (chars text) rest → HasShapeFault text line
shape_fault text rest line u short none front e =
    subst (λ (n : ℕ). HasShapeFault text n) (sym e) (record { chars = chars text; is_text = text_is text u short; wrong = goes_wrong (chars text) rest front none })

-- a text that is longer than a document may be is refused so
long_is_refused : (bytes : List ℕ) → document_limit < length bytes → merges.Refused (unnamed_part bytes ∷ []) (merge_errors.Part 0 (Mof mof.TooLong))
long_is_refused bytes long = refused_first (unnamed_part bytes) (merge_errors.Part 0 (Mof mof.TooLong))
    (refl, record { caused = λ e. cc; unspelled = λ is r. absurd (too_long r.within); refused = long })
  where
    too_long : length bytes ≤ document_limit → ⊥
    too_long h = omega arith

module _ (text : List ℕ) (u : IsUtf8 text) (short : length text ≤ MAX_SCRIPT) (es : List Event) (read : IsRead (chars text) es) where
  script_of : IsScriptOf text (chars text) read.0 read.1
  script_of = record { is_text = text_is text u short; script = read.2 }

  unknown_is : (o : Option (List ℕ)) → o ≡ unknown_in es → o ≡ first_unknown read.1
  unknown_is o e = e ∙ ap unknown_in read.3 ∙ script_unknown read.0 read.1

  reserved_is : (o : Option (List ℕ)) → o ≡ reserved_in es → o ≡ first_reserved read.1
  reserved_is o e = e ∙ ap reserved_in read.3 ∙ script_reserved read.0 read.1

  pub unknown_kind : (from : List ℕ) (line : ℕ) → Some from ≡ unknown_in es → line ≡ line_of (chars text) from → HasUnknownKind text line
  unknown_kind from line e counted = record {
    chars = chars text;
    title = read.0;
    blocks = read.1;
    script = script_of;
    from = from;
    unknown = sym (unknown_is (Some from) e);
    counted = counted;
  }

  pub reserved_name : (from : List ℕ) (line : ℕ) → None ≡ unknown_in es → Some from ≡ reserved_in es → line ≡ line_of (chars text) from → HasReserved text line
  reserved_name from line k e counted = record {
    chars = chars text;
    title = read.0;
    blocks = read.1;
    script = script_of;
    known = sym (unknown_is None k);
    from = from;
    reserved = sym (reserved_is (Some from) e);
    counted = counted;
  }

  pub no_node : (node : List ℕ) → None ≡ unknown_in es → None ≡ reserved_in es → named_in node es ≡ false → HasNoNode text node
  no_node node k r n = record {
    chars = chars text;
    title = read.0;
    blocks = read.1;
    script = script_of;
    known = sym (unknown_is None k);
    free = sym (reserved_is None r);
    unnamed = sym (script_named node read.0 read.1) ∙ sym (ap (named_in node) read.3) ∙ n;
  }

  module _ (node : List ℕ) (k : None ≡ unknown_in es) (r : None ≡ reserved_in es) (n : named_in node es ≡ true) where
    serves : Serves text node read.0 read.1
    serves = record {
      chars = chars text;
      script = script_of;
      known = sym (unknown_is None k);
      free = sym (reserved_is None r);
      named = sym (script_named node read.0 read.1) ∙ sym (ap (named_in node) read.3) ∙ n;
    }

    whole_is : encode_utf8_all (written [] node false es) ≡ text_for read.0 read.1 node
    whole_is = ap encode_utf8_all (ap (written [] node false) read.3 ∙ script_written read.0 node read.1 (sym (unknown_is None k)))

    document_is : (document : List ℕ) → IsWritten document (written [] node false es) → length document ≤ document_limit → document ≡ text_for read.0 read.1 node
    document_is document (inl e) few = e ∙ whole_is
    document_is document (inr w) few = absurd (apart w.2)
      where
        apart : document_limit < length document → ⊥
        apart h = omega arith

    pub compiles : (document : List ℕ) → IsWritten document (written [] node false es) → length document ≤ document_limit
        → (merged : Document) × Merged (unnamed_part document ∷ []) merged → Compiles text node document
    compiles document w few m = record { title = read.0; blocks = read.1; serves = serves; written = document_is document w few; merges = m }

    whole_long : (document : List ℕ) → IsWritten document (written [] node false es) → document_limit < length document → document_limit < length (text_for read.0 read.1 node)
    whole_long document (inl e) long = subst (λ (bytes : List ℕ). document_limit < length bytes) (e ∙ whole_is) long
    whole_long document (inr w) long =
        subst (λ (bytes : List ℕ). document_limit < length bytes) (sym w.1 ∙ whole_is) (longer document w.0 long)
      where
        longer : (a b : List ℕ) → document_limit < length a → document_limit < length (a ++ b)
        longer a b h = subst (λ (x : ℕ). document_limit < x) (sym (length-append a b)) (omega arith)

    pub too_long : (document : List ℕ) → IsWritten document (written [] node false es) → document_limit < length document
        → IsUnmerged text node (merge_errors.Part 0 (Mof mof.TooLong))
    too_long document w long = record {
      title = read.0;
      blocks = read.1;
      serves = serves;
      caused = λ e. cc;
      refused = long_is_refused (text_for read.0 read.1 node) (whole_long document w long);
    }

    pub unmerged : (document : List ℕ) (error : CompileError) → IsWritten document (written [] node false es) → length document ≤ document_limit
        → MergesAs document error → Refuses text node error
    unmerged document (reasons.Merge error) w few m = record {
      title = read.0;
      blocks = read.1;
      serves = serves;
      caused = m.0;
      refused = subst (λ (bytes : List ℕ). merges.Refused (unnamed_part bytes ∷ []) error) (document_is document w few) m.1;
    }
    unmerged document reasons.Memory w few m = tt
    unmerged document error w few m = absurd m

-- ---- what was read

pub read_is : (found : Option Reading) (reading : Reading) (text name node : List ℕ) → found ≡ Some reading → name ≡ node → IfSome found (IsReadOf text name)
    → IsReadOf text node reading
read_is found reading text name node e n h = subst (λ (xs : List ℕ). IsReadOf text xs reading) n (subst (λ (o : Option Reading). IfSome o (IsReadOf text name)) e h)

pub not_read : (found : Option Reading) (text : List ℕ) → found ≡ None → IfNone found (IsScript text → ⊥) → IsScript text → ⊥
not_read found text e h = subst (λ (o : Option Reading). IfNone o (IsScript text → ⊥)) e h

module _ (text node : List ℕ) (u : IsUtf8 text) (short : length text ≤ MAX_SCRIPT) (reading : Reading) (r : IsReadOf (chars text) node reading) where
  none_unknown : reading.findings.unknown ≡ None → None ≡ unknown_in r.events
  none_unknown k = sym (ap left_of k) ∙ r.unknown

  none_reserved : reading.findings.reserved ≡ None → None ≡ reserved_in r.events
  none_reserved f = sym (ap left_of f) ∙ r.reserved

  pub unknown_found : (from : Bor (List ℕ)) (line : ℕ) → reading.findings.unknown ≡ Some from → line ≡ line_of (chars text) (chars from.now) → HasUnknownKind text line
  unknown_found from line e counted = unknown_kind text u short r.events r.script (chars from.now) line (sym (ap left_of e) ∙ r.unknown) counted

  pub reserved_found : (from : Bor (List ℕ)) (line : ℕ) → reading.findings.unknown ≡ None → reading.findings.reserved ≡ Some from
      → line ≡ line_of (chars text) (chars from.now) → HasReserved text line
  reserved_found from line k e counted =
      reserved_name text u short r.events r.script (chars from.now) line (none_unknown k) (sym (ap left_of e) ∙ r.reserved) counted

  pub unnamed_found : reading.findings.unknown ≡ None → reading.findings.reserved ≡ None → reading.findings.names_node ≡ false → HasNoNode text node
  unnamed_found k f n = no_node text u short r.events r.script node (none_unknown k) (none_reserved f) (sym r.named ∙ n)

  module _ (k : reading.findings.unknown ≡ None) (f : reading.findings.reserved ≡ None) (n : reading.findings.names_node ≡ true) (document out : List ℕ)
      (same : document ≡ out) (c : Continues (string_bytes reading.writer.out) out (canonical_instance (header (chars reading.writer.title.now)))) where
    is_written : IsWritten document (written [] node false r.events)
    is_written = subst (λ (xs : List ℕ). IsWritten xs (written [] node false r.events)) (sym same)
        (leaves_none (written [] node false r.events) (string_bytes reading.writer.out) out (chars reading.writer.title.now) node reading.writer.is_named r.written c)

    pub too_long_found : document_limit < length document → IsUnmerged text node (merge_errors.Part 0 (Mof mof.TooLong))
    too_long_found long = too_long text u short r.events r.script node (none_unknown k) (none_reserved f) (sym r.named ∙ n) document is_written long

    pub unmerged_found : (error : CompileError) → length document ≤ document_limit → MergesAs document error → Refuses text node error
    unmerged_found error few m = unmerged text u short r.events r.script node (none_unknown k) (none_reserved f) (sym r.named ∙ n) document error is_written few m

    pub compiles_found : length document ≤ document_limit → (merged : Document) × Merged (unnamed_part document ∷ []) merged → Compiles text node document
    compiles_found few m = compiles text u short r.events r.script node (none_unknown k) (none_reserved f) (sym r.named ∙ n) document is_written few m
