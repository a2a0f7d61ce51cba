-- How long the texts of a report are as JSON.
use Rattle.std.proofs.Common.{◌≡◌, ℕ, pos, negsuc, ℤ, ◌+◌, ◌*◌, ◌≤◌, Bool, true, false, List, [], ◌∷◌, ◌++◌, map, length, Some, ap, ◌∙◌, arith}
use Rattle.std.proofs.lemmas.Grind.{flat_map-append}
use Rattle.std.proofs.lemmas.List.{length-append}
use Rattle.std.proofs.lemmas.Str.{encodes-append, length-encode, len_utf8_bounds}
use Rattle.std.specs.Char.{encode_utf8}
use Rattle.std.specs.List.{AllByRecursion}
use Rattle.std.specs.Prelude.{codes, encode_utf8_all}
use Rattle.jiff.specs.Types.{Date, DateTime}
use Rattle.jiff.specs.Words.{date_text, datetime_text, time_text}
use Rattle.jiff_fmt.specs.Text.{year_text}
use Rattle.json.specs.Print.{escape, escape_byte}
use Rattle.serde_json.specs.View.{items_of}
use Rattle.serde_json.specs.Written.{compact_text, items_text}
use Rattle.uuid.proofs.TextLemmas.{by_index_length}
use Rattle.report_log.specs.declared.report.FailureKind.TheVariants.{NoSuchResource, OutOfProfile, BadPath, InTheWay, HostFailed}
use Rattle.report_log.specs.declared.report.Missed.{Missed}
use Rattle.report_log.specs.declared.report.Outcome.{Outcome}
use Rattle.report_log.specs.declared.report.Outcome.TheVariants.{Success, Failure, Reboot}
use Rattle.report_log.specs.declared.report.Reason.{Reason}
use Rattle.report_log.specs.declared.report.Reason.TheVariants.{NotInDesiredState, Failed, Skipped, RebootAsked, NotReached}
use Rattle.dsc_document.specs.Sizes.{Fits}
use Rattle.pull_messages.specs.Writing.{id_text, text_data}
use Rattle.pull_client.specs.Moments.{IsMomentText}
use Rattle.pull_client.specs.Reports.{error_text, operation_name, reason_name, reboot_name, refresh_name, status_name}
use Rattle.pull_client.proofs.Escaped.{escaped_size}
use Rattle.pull_client.proofs.Compact.{item_size, quoted_size}

abbrev pub text_size : List ℕ → ℕ
text_size text = length (compact_text (text_data text))

encoded_size : (text : List ℕ) → length (encode_utf8_all text) ≤ 4 * length text
encoded_size [] = omega arith
encoded_size (c ∷ text) = omega (arith, encoded_size text, length-append (encode_utf8 c) (encode_utf8_all text), length-encode c, (len_utf8_bounds c).1)

-- each of its characters becomes 24 bytes at most
pub short_size : (text : List ℕ) (limit : ℕ) → length text ≤ limit → text_size text ≤ 2 + 24 * limit
short_size text limit h =
    omega (arith, h, encoded_size text, escaped_size (encode_utf8_all text), quoted_size (encode_utf8_all text))

-- each of its bytes becomes six at most
pub bytes_size : (text : List ℕ) (limit : ℕ) → Fits limit text → text_size text ≤ 2 + 6 * limit
bytes_size text limit h = omega (arith, h, escaped_size (encode_utf8_all text), quoted_size (encode_utf8_all text))

-- ---- names

pub operation_size : (initial : Bool) → text_size (operation_name initial) ≤ 13
unfolding escape_byte encode_utf8
operation_size true = omega arith
operation_size false = omega arith

pub refresh_size : (pull : Bool) → text_size (refresh_name pull) ≤ 6
unfolding escape_byte encode_utf8
refresh_size true = omega arith
refresh_size false = omega arith

pub status_size : (outcome : Outcome) → text_size (status_name outcome) ≤ 12
unfolding escape_byte encode_utf8
status_size Success = omega arith
status_size Failure = omega arith
status_size Reboot = omega arith

pub reboot_size : (outcome : Outcome) → text_size (reboot_name outcome) ≤ 7
unfolding escape_byte encode_utf8
reboot_size Success = omega arith
reboot_size Failure = omega arith
reboot_size Reboot = omega arith

pub format_size : text_size (codes "2.0") ≤ 5
unfolding escape_byte encode_utf8
format_size = omega arith

reason_size : (reason : Reason) → length (escape (encode_utf8_all (codes ": " ++ reason_name reason))) ≤ 19
unfolding escape_byte encode_utf8
reason_size NotInDesiredState = omega arith
reason_size (Failed NoSuchResource) = omega arith
reason_size (Failed OutOfProfile) = omega arith
reason_size (Failed BadPath) = omega arith
reason_size (Failed InTheWay) = omega arith
reason_size (Failed HostFailed) = omega arith
reason_size Skipped = omega arith
reason_size RebootAsked = omega arith
reason_size NotReached = omega arith

-- ---- errors

two_size : (a b : List ℕ) → length (escape (encode_utf8_all (a ++ b))) ≡ length (escape (encode_utf8_all a)) + length (escape (encode_utf8_all b))
two_size a b =
    let split : escape (encode_utf8_all (a ++ b)) ≡ escape (encode_utf8_all a) ++ escape (encode_utf8_all b) =
    ap escape (encodes-append a b) ∙ flat_map-append escape_byte (encode_utf8_all a) (encode_utf8_all b) in
    ap length split ∙ length-append (escape (encode_utf8_all a)) (escape (encode_utf8_all b))

error_size : (missed : Missed) → Fits 256 missed.id → text_size (error_text missed) ≤ 1557
error_size missed fits = omega (
  arith,
  fits,
  quoted_size (encode_utf8_all (error_text missed)),
  two_size missed.id (codes ": " ++ reason_name missed.reason),
  escaped_size (encode_utf8_all missed.id),
  reason_size missed.reason,
)

-- with a comma each, and the closing bracket
pub errors_size : (later : Bool) (listed : List Missed) → AllByRecursion (λ missed. Fits 256 missed.id) listed
    → length (items_text later (items_of (map text_data (map error_text listed)))) ≤ 1 + 1558 * length listed
errors_size later [] h = omega arith
errors_size later (missed ∷ listed) h = omega (
  arith,
  error_size missed h.0,
  item_size later (text_data (error_text missed)) (items_of (map text_data (map error_text listed))),
  errors_size true listed h.1,
)

-- ---- times and jobs

year_size : (year : ℤ) → length (year_text year) ≤ 7
year_size (pos n) = omega arith
year_size (negsuc n) = omega arith

date_size : (date : Date) → length (date_text date) ≤ 13
date_size date = simp length-append (omega (arith, year_size date.year))

civil_size : (time : DateTime) → length (datetime_text false 84 (Some 0) time ++ 90 ∷ []) ≤ 23
civil_size time =
    let parts : length (datetime_text false 84 (Some 0) time) ≡ length (date_text time.date) + 9 =
    length-append (date_text time.date) (84 ∷ time_text (Some 0) time.time) in
    let whole : length (datetime_text false 84 (Some 0) time ++ 90 ∷ []) ≡ length (datetime_text false 84 (Some 0) time) + 1 =
    length-append (datetime_text false 84 (Some 0) time) (90 ∷ []) in
    omega (arith, parts, whole, date_size time.date)

pub moment_size : (seconds : ℕ) (text : List ℕ) → IsMomentText (Some 0) seconds text → text_size text ≤ 554
moment_size seconds text is = omega (arith, short_size text 23 (omega (arith, ap length is.2, civil_size is.0)))

pub job_size : (job : ℕ) → length (escape (id_text job)) ≤ 216
unfolding id_text
job_size job =
    let long : length (id_text job) ≡ 36 = by_index_length 36 _ in
    omega (arith, long, escaped_size (id_text job))
