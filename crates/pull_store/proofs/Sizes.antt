-- How long bodies are.
use Rattle.std.proofs.Common.{◌≡◌, ℕ, ◌+◌, ◌-◌, ◌*◌, ◌≤◌, get_or, take, drop, List, [], ◌∷◌, ◌++◌, length, ap, arith, length-append}
use Rattle.std.specs.Prelude.{encode_utf8_all, sum_by}
use Rattle.std.specs.Int.{w16, w128}
use Rattle.std.specs.List.{flat_map, AllByRecursion}
use Rattle.std.proofs.lemmas.List.Sums.{sum_by-cons}
use Rattle.std.proofs.lemmas.List.Concat.{flat_map-cons}
use Rattle.store_fields.specs.Fields.{bytes_of_number, bytes_of_text, bytes_of_list}
use Rattle.gate_log.specs.Text.{cells, after_gate, AllFit}
use Rattle.gate_log.proofs.Cells.{length-after_gate}
use Rattle.pull_messages.specs.declared.registration.Registration.{Registration}
use Rattle.pull_messages.specs.Sizes.{text_size, registration_size, IsName}
use Rattle.std.proofs.lemmas.List.{take_all}
use Rattle.pull_store.specs.declared.row.Row.{Row}
use Rattle.pull_store.specs.declared.row.StoredReport.{StoredReport}
use Rattle.pull_store.specs.declared.change.Change.TheVariants.{Register, Report}
use Rattle.pull_store.specs.Bodies.{body_of, bytes_of_texts, bytes_of_registration, bodies_of_reports, bodies_of_row, bodies_of_rows}
use Rattle.pull_store.specs.Sound.{IsKeepable, IsNameText, IsRegistration, IsReport, IsRow}
use Rattle.pull_store.specs.declared.limits.TheConstants.{MAX_BODY, MAX_BYTES}

length-128 : (n : ℕ) → length (bytes_of_number w128 n) ≡ 16
unfolding bytes_of_number
length-128 n = omega arith

length-16 : (n : ℕ) → length (bytes_of_number w16 n) ≡ 2
unfolding bytes_of_number
length-16 n = omega arith

length-text : (text : List ℕ) → length (bytes_of_text text) ≡ 2 + text_size text
length-text text = omega (arith, length-append (bytes_of_number w16 (length (encode_utf8_all text))) (encode_utf8_all text), length-16 (length (encode_utf8_all text)))

length-names : (names : List (List ℕ)) → length (flat_map bytes_of_text names) ≡ 2 * length names + sum_by text_size names
length-names [] = omega arith
length-names (name ∷ names) =
    omega (arith, ap length (flat_map-cons bytes_of_text name names), length-append (bytes_of_text name) (flat_map bytes_of_text names), length-text name, length-names names, sum_by-cons text_size name names)

pub length-report : (agent job : ℕ) (body : List ℕ) → length (body_of (Report agent job body)) ≡ 33 + length body
length-report agent job body =
    omega (arith, length-append (bytes_of_number w128 agent) (bytes_of_number w128 job ++ body), length-append (bytes_of_number w128 job) body, length-128 agent, length-128 job)

pub length-registration : (x : Registration) → length (bytes_of_registration x) ≡ 7 + registration_size x + 2 * length x.names
length-registration x =
    omega (
      arith,
      length-append (bytes_of_texts x) (bytes_of_list bytes_of_text x.names),
      length-append (bytes_of_text x.lcm_version) (bytes_of_text x.node_name ++ bytes_of_text x.ip_address),
      length-append (bytes_of_text x.node_name) (bytes_of_text x.ip_address),
      length-text x.lcm_version,
      length-text x.node_name,
      length-text x.ip_address,
      length-names x.names,
    )

pub length-register : (agent : ℕ) (x : Registration) → length (body_of (Register agent x)) ≡ 24 + registration_size x + 2 * length x.names
length-register agent x =
    omega (arith, length-append (bytes_of_number w128 agent) (bytes_of_registration x), length-128 agent, length-registration x)

pub report_short : (agent job : ℕ) (body : List ℕ) → length body ≤ MAX_BYTES → length (body_of (Report agent job body)) ≤ 33 + MAX_BYTES
report_short agent job body le = omega (arith, le, length-report agent job body)

pub register_short : (agent : ℕ) (x : Registration) → IsKeepable x → length (body_of (Register agent x)) ≤ 56 + MAX_BYTES
register_short agent x is = omega (arith, is.whole, is.sized.few, length-register agent x)

-- one cell more
pub length-cell : (body : List ℕ) (bodies : List (List ℕ)) → length (cells (body ∷ bodies)) ≡ 5 + length body + length (cells bodies)
length-cell body bodies = omega (arith, length-append (after_gate body) (cells bodies), length-after_gate body)

pub report_cell : (agent job : ℕ) (body : List ℕ) (bodies : List (List ℕ)) → length (cells (body_of (Report agent job body) ∷ bodies)) ≡ 38 + length body + length (cells bodies)
report_cell agent job body bodies = omega (arith, length-cell (body_of (Report agent job body)) bodies, length-report agent job body)

pub register_cell : (agent : ℕ) (x : Registration) (bodies : List (List ℕ)) → length (cells (body_of (Register agent x) ∷ bodies)) ≡ 5 + length (body_of (Register agent x)) + length (cells bodies)
register_cell agent x bodies = length-cell (body_of (Register agent x)) bodies

-- ---- the first of a list, and the rest

pub reports_need : (agent : ℕ) (reports : List StoredReport) (first : StoredReport) → 1 ≤ length reports → first ≡ get_or reports 0 first
    → 38 + length first.body + length (cells (bodies_of_reports agent (take (length reports - 1) (drop 1 reports)))) ≡ length (cells (bodies_of_reports agent reports))
reports_need agent [] first some is = absurd (omega (arith, some))
reports_need agent (r ∷ rs) first some is =
    let whole : take (length (r ∷ rs) - 1) rs ≡ rs = take_all (length (r ∷ rs) - 1) rs (omega arith) in
    omega (arith, report_cell agent r.job r.body (bodies_of_reports agent rs), ap (λ (l : List StoredReport). length (cells (bodies_of_reports agent l))) whole, ap (λ (x : StoredReport). length x.body) is)

-- ---- what is kept is in size

names_kept : (names : List (List ℕ)) → AllByRecursion IsNameText names → AllByRecursion IsName names
names_kept [] all = tt
names_kept (name ∷ names) all = ((all.0.some, all.0.text.fits), names_kept names all.1)

pub keepable_of : (x : Registration) → IsRegistration x → IsKeepable x
keepable_of x is = record {
  sized = record { version = is.version.fits; node = is.node.fits; address = is.address.fits; few = is.few; named = names_kept x.names is.names };
  whole = is.whole;
}

reports_fit : (agent : ℕ) (reports : List StoredReport) → AllByRecursion IsReport reports → AllFit MAX_BODY (bodies_of_reports agent reports)
reports_fit agent [] all = tt
reports_fit agent (r ∷ reports) all = (omega (arith, report_short agent r.job r.body all.0.short), reports_fit agent reports all.1)

pub row_fits : (row : Row) → IsRow row → AllFit MAX_BODY (bodies_of_row row)
row_fits row is = (omega (arith, register_short row.agent row.registration (keepable_of row.registration is.registration)), reports_fit row.agent row.reports is.short)

fit_both : (largest : ℕ) (one other : List (List ℕ)) → AllFit largest one → AllFit largest other → AllFit largest (one ++ other)
fit_both largest [] other first second = second
fit_both largest (body ∷ one) other first second = (first.0, fit_both largest one other first.1 second)

pub rows_fit : (rows : List Row) → AllByRecursion IsRow rows → AllFit MAX_BODY (bodies_of_rows rows)
rows_fit [] all = tt
rows_fit (row ∷ rows) all = fit_both MAX_BODY (bodies_of_row row) (bodies_of_rows rows) (row_fits row all.0) (rows_fit rows all.1)
