-- The text of a run spells one trace.
use Rattle.std.proofs.Common.{◌≡◌, ◌⊎◌, inl, inr, ℕ, ◌<◌, ◌==◌, Bool, true, false, not, ◌&&◌, List, [], ◌∷◌, ◌++◌, drop, get_or, length, codes, Some, None, true≢false, nat_lt, ◌≤◌, refl, sym, ap, subst, ◌∙◌, append-nil, append_assoc, arith, slice_get}
use Rattle.std.specs.List.{AllZip, flat_map, list_all}
use Rattle.std.specs.Char.{encode_utf8}
use Rattle.std.specs.Str.{encode_utf8_all}
use Rattle.std.proofs.lemmas.Bool.Decides.{nat_tests}
use Rattle.std.proofs.lemmas.List.Elements.{All-head, All-tail}
use Rattle.std.proofs.lemmas.Str.{encode_same}
use Rattle.std.proofs.lemmas.Option.{slice_get_cases, slice_get-get_or}
use Rattle.mof_values.specs.Fold.{fold_case}
use Rattle.mof_syntax.specs.Canonical.{canonical_literal}
use Rattle.mof_syntax.specs.Tokens.{IsToken, Lexeme, Literal}
use Rattle.mof_syntax.proofs.UniqueTokens.{token_same}
use Rattle.mof_codec.proofs.CanonicalTokens.{literal_token}
use Rattle.dsc_document.specs.declared.document.Document.{Document}
use Rattle.dsc_document.specs.declared.document.Resource.{Resource}
use Rattle.dsc_document.specs.Dependencies.{HasDistinctIds}
use Rattle.resource_kinds.specs.declared.entry.Failure.{Failure}
use Rattle.resource_kinds.specs.declared.entry.Failure.TheVariants.{NoSuchResource, OutOfProfile, BadPath, InTheWay, HostFailed}
use Rattle.resource_kinds.specs.declared.entry.TestAnswer.{TestAnswer}
use Rattle.resource_kinds.specs.declared.entry.TestAnswer.TheVariants as tests
use Rattle.resource_kinds.specs.declared.entry.SetAnswer.{SetAnswer}
use Rattle.resource_kinds.specs.declared.entry.SetAnswer.TheVariants as sets
use Rattle.resource_kinds.specs.declared.entry.Entry.{Entry}
use Rattle.resource_kinds.specs.declared.entry.Entry.TheVariants.{Tested, Set}
use Rattle.resource_kinds.specs.Names.{failure_name}
use Rattle.resource_kinds.specs.Trace.{missed_count, place_of, succeeded_count}
use Rattle.dsc_node.specs.Quoted.{quoted}
use Rattle.dsc_node.specs.Lines.{IsRunText, id_at, id_of, line_of, set_words, summary, test_words}
use Rattle.dsc_node.specs.LineLaws.{HasPlaces, IsSameEntry, IsSameSet, IsSameTest, LinesSpellOneTrace}

-- ---- a quoted text ends where its quote is

-- the first text begins with the second one, and what is after that is the rest of it and what is after the first
abbrev GoesOn : List ℕ → List ℕ → List ℕ → List ℕ → Type 0
GoesOn one other after rest = (more : List ℕ) × (one ≡ other ++ more) × (rest ≡ encode_utf8_all more ++ after)

longer : (c d : ℕ) (one other after rest : List ℕ) → c ≡ d → GoesOn one other after rest ⊎ GoesOn other one rest after
    → GoesOn (c ∷ one) (d ∷ other) after rest ⊎ GoesOn (d ∷ other) (c ∷ one) rest after
longer c d one other after rest same (inl on) = inl (on.0, (λ i. same i ∷ on.1 i), on.2)
longer c d one other after rest same (inr on) = inr (on.0, (λ i. sym same i ∷ on.1 i), on.2)

one_goes_on : (one other after rest : List ℕ) → encode_utf8_all one ++ after ≡ encode_utf8_all other ++ rest
    → GoesOn one other after rest ⊎ GoesOn other one rest after
one_goes_on [] other after rest same = inr (other, refl, same)
one_goes_on (c ∷ one) [] after rest same = inl (c ∷ one, refl, sym same)
one_goes_on (c ∷ one) (d ∷ other) after rest same =
    let first = encode_same c d (encode_utf8_all one ++ after) (encode_utf8_all other ++ rest)
    (sym (append_assoc (encode_utf8 c) (encode_utf8_all one) after) ∙ same ∙ append_assoc (encode_utf8 d) (encode_utf8_all other) rest) in
    longer c d one other after rest first.0 (one_goes_on one other after rest first.1)

abbrev text_in : Lexeme → List ℕ
text_in (Literal text) = text
text_in other = []

ends_there : (x y after rest : List ℕ) → GoesOn (canonical_literal x) (canonical_literal y) after rest → (x ≡ y) × (after ≡ rest)
ends_there x y after rest on =
    let same = token_same (canonical_literal x) (Literal x) [] (Literal y) on.0
    (subst (λ text. IsToken text (Literal x) []) (append-nil (canonical_literal x)) (literal_token x []))
    (subst (λ text. IsToken text (Literal y) on.0) (sym on.1) (literal_token y on.0)) in
    (ap text_in same.0, sym (on.2 ∙ ap (λ more. encode_utf8_all more ++ after) (sym same.1)))

quoted_same : (x y after rest : List ℕ) → quoted x ++ after ≡ quoted y ++ rest → (x ≡ y) × (after ≡ rest)
quoted_same x y after rest same = either (one_goes_on (canonical_literal x) (canonical_literal y) after rest same)
  where
    either : GoesOn (canonical_literal x) (canonical_literal y) after rest ⊎ GoesOn (canonical_literal y) (canonical_literal x) rest after → (x ≡ y) × (after ≡ rest)
    either (inl on) = ends_there x y after rest on
    either (inr on) = let same = ends_there y x rest after on in (sym same.0, sym same.1)

-- ---- a line ends where its line feed is

abbrev is_in_line : ℕ → Bool
is_in_line c = not (c == 10)

no_feed : (c : ℕ) (more : Bool) → c ≡ 10 → (is_in_line c && more) ≡ true → ⊥
no_feed c more is in_line = true≢false (sym in_line ∙ ap (λ d. is_in_line d && more) is)

second_is : (a b : Bool) → (a && b) ≡ true → b ≡ true
second_is true b both = both
second_is false b both = absurd (true≢false (sym both))

first_lines : (one other after rest : List ℕ) → list_all is_in_line one ≡ true → list_all is_in_line other ≡ true → one ++ 10 ∷ after ≡ other ++ 10 ∷ rest
    → (one ≡ other) × (after ≡ rest)
first_lines [] [] after rest a b same = (refl, ap (drop 1) same)
first_lines [] (d ∷ other) after rest a b same = absurd (no_feed d (list_all is_in_line other) (sym (ap (λ l. get_or l 0 0) same)) b)
first_lines (c ∷ one) [] after rest a b same = absurd (no_feed c (list_all is_in_line one) (ap (λ l. get_or l 0 0) same) a)
first_lines (c ∷ one) (d ∷ other) after rest a b same =
    let tails = first_lines one other after rest (second_is (is_in_line c) (list_all is_in_line one) a) (second_is (is_in_line d) (list_all is_in_line other) b) (ap (drop 1) same) in
    ((λ i. ap (λ l. get_or l 0 0) same i ∷ tails.0 i), tails.1)

-- ---- the answers

failure_in_line : (failure : Failure) → list_all is_in_line (codes " fault " ++ failure_name failure) ≡ true
failure_in_line NoSuchResource = refl
failure_in_line (OutOfProfile name) = refl
failure_in_line BadPath = refl
failure_in_line InTheWay = refl
failure_in_line HostFailed = refl

test_in_line : (answer : TestAnswer) → list_all is_in_line (test_words answer) ≡ true
test_in_line tests.Yes = refl
test_in_line tests.No = refl
test_in_line (tests.Fault failure) = failure_in_line failure
test_in_line tests.Memory = refl

set_in_line : (answer : SetAnswer) → list_all is_in_line (set_words answer) ≡ true
set_in_line sets.Done = refl
set_in_line sets.Reboot = refl
set_in_line (sets.Fault failure) = failure_in_line failure
set_in_line sets.Memory = refl

-- the second byte, in which the answers differ
abbrev second : List ℕ → ℕ
second text = get_or text 1 0

test_same : (one other : TestAnswer) → test_words one ≡ test_words other → IsSameTest one other
test_same tests.Yes tests.Yes same = tt
test_same tests.Yes tests.No same = omega (arith, ap second same)
test_same tests.Yes (tests.Fault b) same = omega (arith, ap second same)
test_same tests.Yes tests.Memory same = omega (arith, ap second same)
test_same tests.No tests.Yes same = omega (arith, ap second same)
test_same tests.No tests.No same = tt
test_same tests.No (tests.Fault b) same = omega (arith, ap second same)
test_same tests.No tests.Memory same = omega (arith, ap second same)
test_same (tests.Fault a) tests.Yes same = omega (arith, ap second same)
test_same (tests.Fault a) tests.No same = omega (arith, ap second same)
test_same (tests.Fault a) (tests.Fault b) same = ap (drop 7) same
test_same (tests.Fault a) tests.Memory same = omega (arith, ap second same)
test_same tests.Memory tests.Yes same = omega (arith, ap second same)
test_same tests.Memory tests.No same = omega (arith, ap second same)
test_same tests.Memory (tests.Fault b) same = omega (arith, ap second same)
test_same tests.Memory tests.Memory same = tt

set_same : (one other : SetAnswer) → set_words one ≡ set_words other → IsSameSet one other
set_same sets.Done sets.Done same = tt
set_same sets.Done sets.Reboot same = omega (arith, ap second same)
set_same sets.Done (sets.Fault b) same = omega (arith, ap second same)
set_same sets.Done sets.Memory same = omega (arith, ap second same)
set_same sets.Reboot sets.Done same = omega (arith, ap second same)
set_same sets.Reboot sets.Reboot same = tt
set_same sets.Reboot (sets.Fault b) same = omega (arith, ap second same)
set_same sets.Reboot sets.Memory same = omega (arith, ap second same)
set_same (sets.Fault a) sets.Done same = omega (arith, ap second same)
set_same (sets.Fault a) sets.Reboot same = omega (arith, ap second same)
set_same (sets.Fault a) (sets.Fault b) same = ap (drop 7) same
set_same (sets.Fault a) sets.Memory same = omega (arith, ap second same)
set_same sets.Memory sets.Done same = omega (arith, ap second same)
set_same sets.Memory sets.Reboot same = omega (arith, ap second same)
set_same sets.Memory (sets.Fault b) same = omega (arith, ap second same)
set_same sets.Memory sets.Memory same = tt

-- ---- a line

regrouped : (id words after : List ℕ) → quoted id ++ words ++ codes "\n" ++ after ≡ quoted id ++ (words ++ 10 ∷ after)
regrouped id words after = append_assoc (quoted id ++ words) (codes "\n") after ∙ append_assoc (quoted id) words (10 ∷ after)

line_parts : (x y one other after rest : List ℕ) → list_all is_in_line one ≡ true → list_all is_in_line other ≡ true
    → quoted x ++ one ++ codes "\n" ++ after ≡ quoted y ++ other ++ codes "\n" ++ rest → (x ≡ y) × (one ≡ other) × (after ≡ rest)
line_parts x y one other after rest a b same =
    let id = quoted_same x y (one ++ 10 ∷ after) (other ++ 10 ∷ rest) (sym (regrouped x one after) ∙ same ∙ regrouped y other rest) in
    let line = first_lines one other after rest a b id.1 in
    (id.0, line.0, line.1)

module _ (document : Document) (distinct : HasDistinctIds document) where
  no_later : (p q : ℕ) → p < q → q < length document.resources → id_at document p ≡ id_at document q → ⊥
  no_later p q before within same = at (slice_get_cases document.resources p).1
    where
      at : ((x : Resource) × (p < length document.resources) × (slice_get document.resources p ≡ Some x) × (get_or document.resources p x ≡ x))
          ⊎ ((length document.resources ≤ p) × (slice_get document.resources p ≡ None)) → ⊥
      at (inl there) =
          let x = there.0 in
          distinct p q x before within
          (ap fold_case (sym (ap id_of (slice_get-get_or document.resources p x there.1)) ∙ same ∙ ap id_of (slice_get-get_or document.resources q x within)))
      at (inr past) = omega (arith, past.0, before, within)

  same_place : (p q : ℕ) → p < length document.resources → q < length document.resources → id_at document p ≡ id_at document q → p ≡ q
  same_place p q one other same = ordered (nat_lt p q) (nat_lt q p) refl refl
    where
      below : (a b : ℕ) → nat_lt a b ≡ true → a < b
      below a b h = grind (arith, nat_tests)

      ordered : (before after : Bool) → nat_lt p q ≡ before → nat_lt q p ≡ after → p ≡ q
      ordered true after is then = absurd (no_later p q (below p q is) other same)
      ordered false true is then = absurd (no_later q p (below q p then) one (sym same))
      ordered false false is then = grind (arith, nat_tests)

  entry_same : (one other : Entry) (after rest : List ℕ) → place_of one < length document.resources → place_of other < length document.resources
      → line_of document one ++ after ≡ line_of document other ++ rest → IsSameEntry one other × (after ≡ rest)
  entry_same (Tested p a) (Tested q b) after rest one other same =
      let parts = line_parts (id_at document p) (id_at document q) (test_words a) (test_words b) after rest (test_in_line a) (test_in_line b) (ap (drop 5) same) in
      ((same_place p q one other parts.0, test_same a b parts.1), parts.2)
  entry_same (Set p a) (Set q b) after rest one other same =
      let parts = line_parts (id_at document p) (id_at document q) (set_words a) (set_words b) after rest (set_in_line a) (set_in_line b) (ap (drop 4) same) in
      ((same_place p q one other parts.0, set_same a b parts.1), parts.2)
  entry_same (Tested p a) (Set q b) after rest one other same = absurd (omega (arith, ap (λ l. get_or l 0 0) same))
  entry_same (Set p a) (Tested q b) after rest one other same = absurd (omega (arith, ap (λ l. get_or l 0 0) same))

  -- no line begins as what is after the lines
  no_summary : (entry : Entry) (after : List ℕ) → get_or (line_of document entry ++ after) 0 0 ≡ 114 → ⊥
  no_summary (Tested p a) after is = omega (arith, is)
  no_summary (Set p a) after is = omega (arith, is)

  traces_same : (one other : List Entry) (after rest : List ℕ) → HasPlaces document one → HasPlaces document other → get_or after 0 0 ≡ 114 → get_or rest 0 0 ≡ 114
      → flat_map (line_of document) one ++ after ≡ flat_map (line_of document) other ++ rest → AllZip IsSameEntry one other
  traces_same [] [] after rest placed given a b same = tt
  traces_same [] (entry ∷ other) after rest placed given a b same =
      absurd (no_summary entry (flat_map (line_of document) other ++ rest)
      (sym (ap (λ l. get_or l 0 0) (same ∙ append_assoc (line_of document entry) (flat_map (line_of document) other) rest)) ∙ a))
  traces_same (entry ∷ one) [] after rest placed given a b same =
      absurd (no_summary entry (flat_map (line_of document) one ++ after)
      (ap (λ l. get_or l 0 0) (sym (append_assoc (line_of document entry) (flat_map (line_of document) one) after) ∙ same) ∙ b))
  traces_same (entry ∷ one) (another ∷ other) after rest placed given a b same =
      let first = entry_same entry another (flat_map (line_of document) one ++ after) (flat_map (line_of document) other ++ rest)
      (All-head (λ e. place_of e < length document.resources) entry one placed) (All-head (λ e. place_of e < length document.resources) another other given)
      (sym (append_assoc (line_of document entry) (flat_map (line_of document) one) after) ∙ same
      ∙ append_assoc (line_of document another) (flat_map (line_of document) other) rest) in (
        first.0,
        traces_same one other after rest (All-tail (λ e. place_of e < length document.resources) entry one placed)
            (All-tail (λ e. place_of e < length document.resources) another other given) a b first.1,
      )

  -- a text is the lines, and what is after them
  lines_first : (trace : List Entry) (text : List ℕ) → IsRunText document trace text
      → (after : List ℕ) × (text ≡ flat_map (line_of document) trace ++ after) × (get_or after 0 0 ≡ 114)
  lines_first trace text (inl run) =
      (summary (length document.resources) (succeeded_count document trace) (missed_count document trace), run.1, refl)
  lines_first trace text (inr run) = (
    summary (length document.resources) (succeeded_count document trace) (missed_count document trace) ++ codes "overlapping\n",
    run.1 ∙ append_assoc (flat_map (line_of document) trace) (summary (length document.resources) (succeeded_count document trace) (missed_count document trace)) (codes "overlapping\n"),
    refl,
  )

after_lines : (trace : List Entry) (document : Document) (text after more : List ℕ) → text ≡ flat_map (line_of document) trace ++ after
    → text ++ more ≡ flat_map (line_of document) trace ++ (after ++ more)
after_lines trace document text after more is = ap (λ l. l ++ more) is ∙ append_assoc (flat_map (line_of document) trace) after more

begins_so : (after more : List ℕ) → get_or after 0 0 ≡ 114 → get_or (after ++ more) 0 0 ≡ 114
begins_so [] more is = omega (arith, is)
begins_so (c ∷ after) more is = is

pub lines_spell_one_trace : LinesSpellOneTrace
lines_spell_one_trace document one other text said more rest distinct placed given first second same =
    let a = lines_first document distinct one text first in
    let b = lines_first document distinct other said second in
    traces_same document distinct one other (a.0 ++ more) (b.0 ++ rest) placed given (begins_so a.0 more a.2) (begins_so b.0 rest b.2)
    (sym (after_lines one document text a.0 more a.1) ∙ same ∙ after_lines other document said b.0 rest b.1)
