-- The test of holding agrees with its meaning, and what the number of resources that do not hold says.
use Rattle.std.proofs.Common.{◌≡◌, ◌↔◌, inl, inr, ℕ, zero, suc, ◌+◌, ◌<◌, ◌≤◌, Bool, true, false, not, cond, IsTrue, List, [], ◌∷◌, length, Option, Some, None, is_none, refl, sym, ◌∙◌, ap, arith}
use Rattle.std.specs.Prelude.{count_by}
use Rattle.std.specs.Option.{IsSomeAnd}
use Rattle.std.proofs.lemmas.Bool.{cases_Bool, cases_eq, false≢true, false_from_ne_true, not_from_false, not_from_true}
use Rattle.std.proofs.lemmas.List.Sums.{AllPass-from_list_all, count_by-le-length, list_all-from_AllPass, sum_by-append, sum_by-cons}
use Rattle.std.proofs.lemmas.Option.{none-some, same_Some}
use Rattle.std.proofs.lemmas.Slice.Eq.{bytes_eq-Decides}
use Rattle.dsc_terms.specs.Lists.{places_below}
use Rattle.dsc_terms.proofs.Places.{length-places_below}
use Rattle.dsc_outside.specs.Host.{HostState}
use Rattle.dsc_outside.specs.Paths.{PathKind, Nothing, File, Folder, Other, is_file_of, is_nothing}
use Rattle.dsc_document.specs.declared.document.Document.{Document}
use Rattle.resource_kinds.specs.declared.wanted.Wanted.{Wanted}
use Rattle.resource_kinds.specs.declared.wanted.Wanted.TheVariants as wants
use Rattle.resource_kinds.specs.Apart.{wanted_at}
use Rattle.resource_kinds.specs.Entries.{HasEntries, LacksEntries, entries, entries_of, is_among, wanted_entries}
use Rattle.resource_kinds.specs.Holding.{HoldsIsTested, NoneIsUnheld, UnheldFalls, UnheldIsBounded, has_entries, is_file, is_folder, is_held, is_value, lacks_entries}
use Rattle.resource_kinds.specs.Holds.{Holds, IsFile}
use Rattle.resource_kinds.proofs.EntryLists.{Contains-among, among-Contains}

-- ---- one resource

file_tested : (kind : PathKind) → IsTrue (is_file kind) ↔ IsFile kind
file_tested Nothing = (λ yes. absurd (false≢true yes), λ is. absurd (cc (is.1)))
file_tested (File bytes) = (λ yes. (bytes, refl), λ is. refl)
file_tested Folder = (λ yes. absurd (false≢true yes), λ is. absurd (cc (is.1)))
file_tested Other = (λ yes. absurd (false≢true yes), λ is. absurd (cc (is.1)))

bytes_tested : (kind : PathKind) (contents : List ℕ) → IsTrue (is_file_of kind contents) ↔ (kind ≡ File contents)
bytes_tested Nothing contents = (λ yes. absurd (false≢true yes), λ is. absurd (cc (is)))
bytes_tested (File bytes) contents = (λ yes. ap File ((bytes_eq-Decides bytes contents).0 yes), λ is. (bytes_eq-Decides bytes contents).1 cc)
bytes_tested Folder contents = (λ yes. absurd (false≢true yes), λ is. absurd (cc (is)))
bytes_tested Other contents = (λ yes. absurd (false≢true yes), λ is. absurd (cc (is)))

folder_tested : (kind : PathKind) → IsTrue (is_folder kind) ↔ (kind ≡ Folder)
folder_tested Nothing = (λ yes. absurd (false≢true yes), λ is. absurd (cc (is)))
folder_tested (File bytes) = (λ yes. absurd (false≢true yes), λ is. absurd (cc (is)))
folder_tested Folder = (λ yes. refl, λ is. refl)
folder_tested Other = (λ yes. absurd (false≢true yes), λ is. absurd (cc (is)))

nothing_tested : (kind : PathKind) → IsTrue (is_nothing kind) ↔ (kind ≡ Nothing)
nothing_tested Nothing = (λ yes. refl, λ is. refl)
nothing_tested (File bytes) = (λ yes. absurd (false≢true yes), λ is. absurd (cc (is)))
nothing_tested Folder = (λ yes. absurd (false≢true yes), λ is. absurd (cc (is)))
nothing_tested Other = (λ yes. absurd (false≢true yes), λ is. absurd (cc (is)))

value_tested : (found : Option (List ℕ)) (value : List ℕ) → IsTrue (is_value found value) ↔ (found ≡ Some value)
value_tested None value = (λ yes. absurd (false≢true yes), λ is. absurd (none-some value is))
value_tested (Some old) value = (λ yes. ap Some ((bytes_eq-Decides old value).0 yes), λ is. (bytes_eq-Decides old value).1 (same_Some old value is))

none_tested : (found : Option (List ℕ)) → IsTrue (is_none found) ↔ (found ≡ None)
none_tested None = (λ yes. refl, λ is. refl)
none_tested (Some old) = (λ yes. absurd (false≢true yes), λ is. absurd (none-some old (sym is)))

has_tested : (found : Option (List ℕ)) (value : List ℕ) → IsTrue (has_entries found value) ↔ HasEntries found value
has_tested None value = (λ yes. absurd (false≢true yes), λ has. absurd has)
has_tested (Some old) value =
    let test = is_among (entries old) in (
      λ yes. λ k d lt. among-Contains (entries old) _ (AllPass-from_list_all test (wanted_entries value) yes k d lt),
      λ has. list_all-from_AllPass test (wanted_entries value) (λ k d lt. Contains-among (entries old) _ (has k d lt)),
    )

lacks_tested : (found : Option (List ℕ)) (value : List ℕ) → IsTrue (lacks_entries found value) ↔ LacksEntries found value
lacks_tested found value =
    let own = entries_of found in
    let test = λ (entry : List ℕ). not (is_among own entry) in (
      λ yes. λ k d lt has. false≢true (sym (not_from_true _ (Contains-among own _ has)) ∙ AllPass-from_list_all test (wanted_entries value) yes k d lt),
      λ lacks. list_all-from_AllPass test (wanted_entries value) (λ k d lt. not_from_false _ (false_from_ne_true _ (λ there. lacks k d lt (among-Contains own _ there)))),
    )

pub tested : HoldsIsTested
tested host (wants.File path None) = file_tested (host.path path)
tested host (wants.File path (Some contents)) = bytes_tested (host.path path) contents
tested host (wants.Folder path) = folder_tested (host.path path)
tested host (wants.NoFile path) = nothing_tested (host.path path)
tested host (wants.NoFolder path forced) = nothing_tested (host.path path)
tested host (wants.Variable name value) = value_tested (host.variable name) value
tested host (wants.Entries name value) = has_tested (host.variable name) value
tested host (wants.NoVariable name) = none_tested (host.variable name)
tested host (wants.NoEntries name value) = lacks_tested (host.variable name) value
tested host (wants.Logged id message) = (λ yes. yes, λ yes. yes)

-- ---- counting

abbrev one_if : Bool → ℕ
one_if b = cond b 1 0

-- how many of the first places pass
abbrev passing : (ℕ → Bool) → ℕ → ℕ
passing p n = count_by p (places_below n)

one_more : (p : ℕ → Bool) (n : ℕ) → passing p (suc n) ≡ passing p n + one_if (p n)
one_more p n = omega (arith, sum_by-append (λ r. one_if (p r)) (places_below n) (n ∷ []), sum_by-cons (λ r. one_if (p r)) n [])

-- one that passes the second passes the first
abbrev Narrows : (ℕ → Bool) → (ℕ → Bool) → Type 0
Narrows p q = (r : ℕ) → q r ≡ true → p r ≡ true

no_less : (a b : Bool) → (b ≡ true → a ≡ true) → one_if b ≤ one_if a
no_less true b is = elim (cases_Bool b) [
  | inl passes ↦ omega (arith, ap one_if passes)
  | inr fails ↦ omega (arith, ap one_if fails)
]
no_less false b is = elim (cases_Bool b) [
  | inl passes ↦ absurd (false≢true (is passes))
  | inr fails ↦ omega (arith, ap one_if fails)
]

no_more : (p q : ℕ → Bool) → Narrows p q → (n : ℕ) → passing q n ≤ passing p n
no_more p q narrows zero = omega arith
no_more p q narrows (suc n) = omega (arith, one_more p n, one_more q n, no_more p q narrows n, no_less (p n) (q n) (narrows n))

fewer : (p q : ℕ → Bool) → Narrows p q → (r : ℕ) → p r ≡ true → q r ≡ false → (n : ℕ) → r < n → passing q n < passing p n
fewer p q narrows r passes fails zero lt = absurd (omega (arith, lt))
fewer p q narrows r passes fails (suc n) lt = elim (cases_eq r n) [
  | inl here ↦
      let counted : one_if (p n) ≡ 1 = ap (λ (k : ℕ). one_if (p k)) (sym here) ∙ ap one_if passes in
      let left_out : one_if (q n) ≡ 0 = ap (λ (k : ℕ). one_if (q k)) (sym here) ∙ ap one_if fails in
      omega (arith, one_more p n, one_more q n, no_more p q narrows n, counted, left_out)
  | inr elsewhere ↦
      omega (arith, one_more p n, one_more q n, fewer p q narrows r passes fails n (omega (arith, lt, elsewhere)), no_less (p n) (q n) (narrows n))
]

none_passes : (p : ℕ → Bool) (n : ℕ) → passing p n ≡ 0 → (r : ℕ) → r < n → p r ≡ false
none_passes p zero none r lt = absurd (omega (arith, lt))
none_passes p (suc n) none r lt = elim (cases_eq r n) [
  | inl here ↦ elim (cases_Bool (p r)) [
    | inl passes ↦ absurd (omega (arith, none, one_more p n, ap (λ (k : ℕ). one_if (p k)) (sym here) ∙ ap one_if passes))
    | inr fails ↦ fails
  ]
  | inr elsewhere ↦ none_passes p n (omega (arith, none, one_more p n)) r (omega (arith, lt, elsewhere))
]

all_fail : (p : ℕ → Bool) (n : ℕ) → ((r : ℕ) → r < n → p r ≡ false) → passing p n ≡ 0
all_fail p zero fail = refl
all_fail p (suc n) fail = omega (arith, one_more p n, ap one_if (fail n (omega arith)), all_fail p n (λ r lt. fail r (omega (arith, lt))))

-- ---- a document

abbrev is_missing : HostState → Document → ℕ → Bool
is_missing host document r = not (is_held host (wanted_at document r))

pub bounded : UnheldIsBounded
bounded host document =
    let n = length document.resources in
    omega (arith, count_by-le-length (is_missing host document) (places_below n), length-places_below n)

held_of : (host : HostState) (asked : Option Wanted) → is_held host asked ≡ true → IsSomeAnd asked (Holds host)
held_of host None held = absurd (false≢true held)
held_of host (Some wanted) held = (tested host wanted).0 held

of_held : (host : HostState) (asked : Option Wanted) → IsSomeAnd asked (Holds host) → is_held host asked ≡ true
of_held host None is = absurd is
of_held host (Some wanted) is = (tested host wanted).1 is

not_missing : (b : Bool) → not b ≡ false → b ≡ true
not_missing true is = refl
not_missing false is = absurd (false≢true (sym is))

pub none_unheld : NoneIsUnheld
none_unheld host document = (
  λ none. λ r lt. held_of host (wanted_at document r) (not_missing _ (none_passes (is_missing host document) (length document.resources) none r lt)),
  λ all. all_fail (is_missing host document) (length document.resources) (λ r lt. ap not (of_held host (wanted_at document r) (all r lt))),
)

-- ---- what was gained

keeps : (before after : HostState) (asked : Option Wanted) → ((wanted : Wanted) → asked ≡ Some wanted → Holds before wanted → Holds after wanted)
    → not (is_held after asked) ≡ true → not (is_held before asked) ≡ true
keeps before after None kept missing = refl
keeps before after (Some wanted) kept missing = not_from_false _ (false_from_ne_true _ (λ held.
    false≢true (sym (not_from_true _ ((tested after wanted).1 (kept wanted refl ((tested before wanted).0 held)))) ∙ missing)))

pub falls : UnheldFalls
falls before after document r kept gained =
    let lacked : is_missing before document r ≡ true = ap (λ a. not (is_held before a)) gained.asks
    ∙ not_from_false _ (false_from_ne_true _ (λ held. gained.lacked ((tested before gained.wanted).0 held))) in
    let has : is_missing after document r ≡ false = ap (λ a. not (is_held after a)) gained.asks ∙ ap not ((tested after gained.wanted).1 gained.holds) in
    fewer (is_missing before document) (is_missing after document)
    (λ q missing. keeps before after (wanted_at document q) (λ wanted asks. kept q wanted asks) missing) r lacked has (length document.resources) gained.place
