-- Which report stands in front of the bytes.
use Rattle.std.proofs.Common.{◌≡◌, ℕ, List, ◌++◌, Ok, Err, refl, sym, ap, ap₂, subst, ◌∙◌, arith, append_assoc, Bool, true, false, cond, ◌==◌}
use Rattle.std.specs.Prelude.{⊤}
use Rattle.std.specs.Int.{w32, w64}
use Rattle.store_fields.specs.declared.error.FieldError.{FieldError}
use Rattle.store_fields.specs.declared.error.FieldError.TheVariants.{Wrong}
use Rattle.store_fields.specs.Fields.{bytes_of_number, bytes_of_byte, bytes_of_flag, bytes_of_text, bytes_of_digest, bytes_of_list, IsByte}
use Rattle.store_fields.specs.Reading.{Reads, IsUnique}
use Rattle.store_fields.proofs.Numbers.{wide32, wide64, number_unique, digest_unique}
use Rattle.store_fields.proofs.Texts.{byte_unique, flag_unique, text_unique}
use Rattle.store_fields.proofs.Listed.{list_unique}
use Rattle.store_fields.proofs.Composing.{refused, taken, wrong}
use Rattle.report_log.specs.declared.report.FailureKind.TheVariants.{NoSuchResource, OutOfProfile, BadPath, InTheWay, HostFailed}
use Rattle.report_log.specs.declared.report.Outcome.{Outcome}
use Rattle.report_log.specs.declared.report.Outcome.TheVariants.{Success, Failure, Reboot}
use Rattle.report_log.specs.declared.report.Reason.{Reason}
use Rattle.report_log.specs.declared.report.Reason.TheVariants.{NotInDesiredState, Failed, Skipped, RebootAsked, NotReached}
use Rattle.report_log.specs.declared.report.Missed.{Missed}
use Rattle.report_log.specs.declared.report.PartMark.{PartMark}
use Rattle.report_log.specs.declared.report.Report.{Report}
use Rattle.report_log.specs.Sizes.{ReportInSize}
use Rattle.node_store.specs.Reports.{byte_of_outcome, byte_of_reason, bytes_of_outcome, bytes_of_reason, bytes_of_missed, bytes_of_mark, bytes_of_report, bytes_of_job, bytes_of_run, bytes_of_result, bytes_of_lists, IsMissed, IsMark, IsReport, IsJob, IsRun, IsResult, AreLists}
use Rattle.store_fields.specs.declared.limits.TheConstants.{MAX_TEXT}

outcome_small : (outcome : Outcome) → IsByte (byte_of_outcome outcome)
outcome_small Success = omega arith
outcome_small Failure = omega arith
outcome_small Reboot = omega arith

reason_small : (reason : Reason) → IsByte (byte_of_reason reason)
reason_small NotInDesiredState = omega arith
reason_small Skipped = omega arith
reason_small RebootAsked = omega arith
reason_small NotReached = omega arith
reason_small (Failed NoSuchResource) = omega arith
reason_small (Failed OutOfProfile) = omega arith
reason_small (Failed BadPath) = omega arith
reason_small (Failed InTheWay) = omega arith
reason_small (Failed HostFailed) = omega arith

-- the outcome of a byte, and the reason
outcome_at : ℕ → Outcome
outcome_at n = cond (n == 0) Success (cond (n == 1) Failure Reboot)

reason_at : ℕ → Reason
reason_at n = cond (n == 0) NotInDesiredState (cond (n == 1) Skipped (cond (n == 2) RebootAsked (cond (n == 3) NotReached
    (cond (n == 4) (Failed NoSuchResource) (cond (n == 5) (Failed OutOfProfile) (cond (n == 6) (Failed BadPath) (cond (n == 7) (Failed InTheWay) (Failed HostFailed))))))))

outcome_again : (outcome : Outcome) → outcome_at (byte_of_outcome outcome) ≡ outcome
unfolding outcome_at
outcome_again Success = refl
outcome_again Failure = refl
outcome_again Reboot = refl

reason_again : (reason : Reason) → reason_at (byte_of_reason reason) ≡ reason
unfolding reason_at
reason_again NotInDesiredState = refl
reason_again Skipped = refl
reason_again RebootAsked = refl
reason_again NotReached = refl
reason_again (Failed NoSuchResource) = refl
reason_again (Failed OutOfProfile) = refl
reason_again (Failed BadPath) = refl
reason_again (Failed InTheWay) = refl
reason_again (Failed HostFailed) = refl

pub outcome_unique : IsUnique bytes_of_outcome (λ outcome. ⊤)
outcome_unique x y r s _ _ e =
    let both = byte_unique (byte_of_outcome x) (byte_of_outcome y) r s (outcome_small x) (outcome_small y) e in
    (sym (outcome_again x) ∙ ap outcome_at both.0 ∙ outcome_again y, both.1)

pub reason_unique : IsUnique bytes_of_reason (λ reason. ⊤)
reason_unique x y r s _ _ e =
    let both = byte_unique (byte_of_reason x) (byte_of_reason y) r s (reason_small x) (reason_small y) e in
    (sym (reason_again x) ∙ ap reason_at both.0 ∙ reason_again y, both.1)

pub no_outcome : (before end after : List ℕ) (e : FieldError) → Reads bytes_of_byte IsByte before end (Err e) → Reads bytes_of_outcome (λ outcome. ⊤) before after (Err e)
no_outcome before end after e reads =
    refused bytes_of_outcome (λ outcome. ⊤) bytes_of_byte IsByte before after before end e reads (λ outcome rest range is. (byte_of_outcome outcome, (rest, (outcome_small outcome, is))))

pub no_reason : (before end after : List ℕ) (e : FieldError) → Reads bytes_of_byte IsByte before end (Err e) → Reads bytes_of_reason (λ reason. ⊤) before after (Err e)
no_reason before end after e reads =
    refused bytes_of_reason (λ reason. ⊤) bytes_of_byte IsByte before after before end e reads (λ reason rest range is. (byte_of_reason reason, (rest, (reason_small reason, is))))

pub missed_unique : IsUnique bytes_of_missed IsMissed
missed_unique x y r s one other e =
    let start = sym (append_assoc (bytes_of_text x.id) (bytes_of_reason x.reason) r) ∙ e ∙ append_assoc (bytes_of_text y.id) (bytes_of_reason y.reason) s in
    let id = text_unique MAX_TEXT (omega arith) x.id y.id _ _ one other start in
    let reason = reason_unique x.reason y.reason r s tt tt id.1 in
    (ap₂ (λ (i : List ℕ) (z : Reason). made i z) id.0 reason.0, reason.1)
  where
    made : List ℕ → Reason → Missed
    made i z = record { id = i; reason = z }

pub mark_unique : IsUnique bytes_of_mark IsMark
mark_unique x y r s one other e =
    let start = sym (append_assoc (bytes_of_text x.name) (bytes_of_digest x.digest) r) ∙ e ∙ append_assoc (bytes_of_text y.name) (bytes_of_digest y.digest) s in
    let name = text_unique MAX_TEXT (omega arith) x.name y.name _ _ one.0 other.0 start in
    let digest = digest_unique x.digest y.digest r s one.1 other.1 name.1 in
    (ap₂ (λ (n d : List ℕ). made n d) name.0 digest.0, digest.1)
  where
    made : List ℕ → List ℕ → PartMark
    made n d = record { name = n; digest = d }

-- ---- the groups of a report's fields

pub job_opened : (job : ℕ × Bool × Bool) (rest : List ℕ) → bytes_of_job job ++ rest ≡ bytes_of_number w64 job.0 ++ (bytes_of_flag job.1 ++ (bytes_of_flag job.2 ++ rest))
unfolding bytes_of_job
job_opened job rest = simp append_assoc

pub run_opened : (run : ℕ × ℕ × List ℕ) (rest : List ℕ) → bytes_of_run run ++ rest ≡ bytes_of_number w64 run.0 ++ (bytes_of_number w64 run.1 ++ (bytes_of_text run.2 ++ rest))
unfolding bytes_of_run bytes_of_number
run_opened run rest = append_assoc (bytes_of_number w64 run.0) (bytes_of_number w64 run.1 ++ bytes_of_text run.2) rest
    ∙ ap (λ (l : List ℕ). bytes_of_number w64 run.0 ++ l) (append_assoc (bytes_of_number w64 run.1) (bytes_of_text run.2) rest)

pub result_opened : (result : Outcome × ℕ × ℕ) (rest : List ℕ) → bytes_of_result result ++ rest ≡ bytes_of_outcome result.0 ++ (bytes_of_number w32 result.1 ++ (bytes_of_number w32 result.2 ++ rest))
unfolding bytes_of_result
result_opened result rest = simp append_assoc

pub lists_opened : (lists : List Missed × List PartMark) (rest : List ℕ) → bytes_of_lists lists ++ rest ≡ bytes_of_list bytes_of_missed lists.0 ++ (bytes_of_list bytes_of_mark lists.1 ++ rest)
unfolding bytes_of_lists
lists_opened lists rest = append_assoc (bytes_of_list bytes_of_missed lists.0) (bytes_of_list bytes_of_mark lists.1) rest

pub job_unique : IsUnique bytes_of_job IsJob
job_unique x y r s one other e =
    let job = number_unique w64 wide64 x.0 y.0 _ _ one other (sym (job_opened x r) ∙ e ∙ job_opened y s) in
    let initial = flag_unique x.1 y.1 _ _ tt tt job.1 in
    let pull = flag_unique x.2 y.2 r s tt tt initial.1 in
    (ap₂ (λ (j : ℕ) (f : Bool × Bool). triple j f.0 f.1) job.0 (ap₂ (λ (i p : Bool). pair i p) initial.0 pull.0), pull.1)
  where
    triple : ℕ → Bool → Bool → ℕ × Bool × Bool
    triple j i p = (j, i, p)

    pair : Bool → Bool → Bool × Bool
    pair i p = (i, p)

pub run_unique : IsUnique bytes_of_run IsRun
run_unique x y r s one other e =
    let start = number_unique w64 wide64 x.0 y.0 _ _ one.0 other.0 (sym (run_opened x r) ∙ e ∙ run_opened y s) in
    let end = number_unique w64 wide64 x.1 y.1 _ _ one.1 other.1 start.1 in
    let version = text_unique MAX_TEXT (omega arith) x.2 y.2 r s one.2 other.2 end.1 in
    (ap₂ (λ (a : ℕ) (f : ℕ × List ℕ). triple a f.0 f.1) start.0 (ap₂ (λ (b : ℕ) (v : List ℕ). pair b v) end.0 version.0), version.1)
  where
    triple : ℕ → ℕ → List ℕ → ℕ × ℕ × List ℕ
    triple a b v = (a, b, v)

    pair : ℕ → List ℕ → ℕ × List ℕ
    pair b v = (b, v)

pub result_unique : IsUnique bytes_of_result IsResult
result_unique x y r s one other e =
    let outcome = outcome_unique x.0 y.0 _ _ tt tt (sym (result_opened x r) ∙ e ∙ result_opened y s) in
    let total = number_unique w32 wide32 x.1 y.1 _ _ one.0 other.0 outcome.1 in
    let missed = number_unique w32 wide32 x.2 y.2 r s one.1 other.1 total.1 in
    (ap₂ (λ (o : Outcome) (f : ℕ × ℕ). triple o f.0 f.1) outcome.0 (ap₂ (λ (a b : ℕ). pair a b) total.0 missed.0), missed.1)
  where
    triple : Outcome → ℕ → ℕ → Outcome × ℕ × ℕ
    triple o a b = (o, a, b)

    pair : ℕ → ℕ → ℕ × ℕ
    pair a b = (a, b)

pub lists_unique : IsUnique bytes_of_lists AreLists
lists_unique x y r s one other e =
    let listed = list_unique bytes_of_missed IsMissed missed_unique x.0 y.0 _ _ one.0 other.0 (sym (lists_opened x r) ∙ e ∙ lists_opened y s) in
    let parts = list_unique bytes_of_mark IsMark mark_unique x.1 y.1 r s one.1 other.1 listed.1 in
    (ap₂ (λ (l : List Missed) (p : List PartMark). pair l p) listed.0 parts.0, parts.1)
  where
    pair : List Missed → List PartMark → List Missed × List PartMark
    pair l p = (l, p)

-- ---- reports

abbrev pub job_of : Report → ℕ × Bool × Bool
job_of report = (report.job, report.initial, report.pull)

abbrev pub run_of : Report → ℕ × ℕ × List ℕ
run_of report = (report.start, report.end, report.version)

abbrev pub result_of : Report → Outcome × ℕ × ℕ
result_of report = (report.outcome, report.total, report.missed)

abbrev pub lists_of : Report → List Missed × List PartMark
lists_of report = (report.listed, report.parts)

abbrev pub made : ℕ × Bool × Bool → ℕ × ℕ × List ℕ → Outcome × ℕ × ℕ → List Missed × List PartMark → Report
made job run result lists = record {
  job = job.0;
  initial = job.1;
  pull = job.2;
  start = run.0;
  end = run.1;
  version = run.2;
  outcome = result.0;
  total = result.1;
  missed = result.2;
  listed = lists.0;
  parts = lists.1;
}

pub spelled : (report : Report) → bytes_of_job (job_of report) ++ (bytes_of_run (run_of report) ++ (bytes_of_result (result_of report) ++ bytes_of_lists (lists_of report))) ≡ bytes_of_report report
unfolding bytes_of_report
spelled report = simp append_assoc

pub opened : (report : Report) (rest : List ℕ) → bytes_of_report report ++ rest
    ≡ bytes_of_job (job_of report) ++ (bytes_of_run (run_of report) ++ (bytes_of_result (result_of report) ++ (bytes_of_lists (lists_of report) ++ rest)))
unfolding bytes_of_report
opened report rest = simp append_assoc

same : (a b : ℕ × Bool × Bool) (c d : ℕ × ℕ × List ℕ) (e f : Outcome × ℕ × ℕ) (g h : List Missed × List PartMark) → a ≡ b → c ≡ d → e ≡ f → g ≡ h → made a c e g ≡ made b d f h
same a b c d e f g h job run result lists =
    ap (λ (x : ℕ × Bool × Bool). made x c e g) job ∙ ap (λ (x : ℕ × ℕ × List ℕ). made b x e g) run
    ∙ ap (λ (x : Outcome × ℕ × ℕ). made b d x g) result ∙ ap (λ (x : List Missed × List PartMark). made b d f x) lists

pub report_unique : IsUnique bytes_of_report IsReport
report_unique x y r s one other e =
    let job = job_unique (job_of x) (job_of y) _ _ one.job other.job (sym (opened x r) ∙ e ∙ opened y s) in
    let run = run_unique (run_of x) (run_of y) _ _ one.run other.run job.1 in
    let result = result_unique (result_of x) (result_of y) _ _ one.result other.result run.1 in
    let lists = lists_unique (lists_of x) (lists_of y) r s one.lists other.lists result.1 in
    (same (job_of x) (job_of y) (run_of x) (run_of y) (result_of x) (result_of y) (lists_of x) (lists_of y) job.0 run.0 result.0 lists.0, lists.1)

-- what was read of a report, group by group
module _ (before m1 m2 m3 after : List ℕ) (job : ℕ × Bool × Bool) (run : ℕ × ℕ × List ℕ) (result : Outcome × ℕ × ℕ) (lists : List Missed × List PartMark)
    (first : Reads bytes_of_job IsJob before m1 (Ok job)) (second : Reads bytes_of_run IsRun m1 m2 (Ok run)) (third : Reads bytes_of_result IsResult m2 m3 (Ok result)) (last : Reads bytes_of_lists AreLists m3 after (Ok lists)) where
  found_all : before ≡ bytes_of_report (made job run result lists) ++ after
  found_all = first.found.1 ∙ ap (λ (l : List ℕ). bytes_of_job job ++ l) (second.found.1 ∙ ap (λ (l : List ℕ). bytes_of_run run ++ l) (third.found.1 ∙ ap (λ (l : List ℕ). bytes_of_result result ++ l) last.found.1))
      ∙ sym (opened (made job run result lists) after)

  pub report_taken : ReportInSize (made job run result lists) → Reads bytes_of_report IsReport before after (Ok (made job run result lists))
  report_taken size =
      taken bytes_of_report IsReport before after (made job run result lists) report_unique
      (record { job = first.found.0; run = second.found.0; result = third.found.0; lists = last.found.0; size = size }) found_all

  pub report_too_long : (ReportInSize (made job run result lists) → ⊥) → Reads bytes_of_report IsReport before after (Err Wrong)
  report_too_long long =
      wrong bytes_of_report IsReport before after (λ report rest range is.
      let at1 = first.only (job_of report) _ range.job (is ∙ opened report rest) in
      let at2 = second.only (run_of report) _ range.run at1.1 in
      let at3 = third.only (result_of report) _ range.result at2.1 in
      let at4 = last.only (lists_of report) rest range.lists at3.1 in
      let is_report : made job run result lists ≡ report = same job (job_of report) run (run_of report) result (result_of report) lists (lists_of report) at1.0 at2.0 at3.0 at4.0 in
      long (subst ReportInSize (sym is_report) range.size))

pub never : (b : Bool) → b ≡ true → b ≡ false → ⊥
never true yes_is no_is = absurd cc
never false yes_is no_is = absurd cc
