-- Where an answer's head has begun a header line too many, no continuation makes it a head of 64 lines.
use Rattle.std.proofs.Common.{◌≡◌, ℕ, suc, List, [], ◌∷◌, ◌++◌, refl, sym, ap, ◌∙◌, arith, append_assoc, true, false, inl, inr}
use Rattle.std.specs.Prelude.{Option, Some, None}
use Rattle.std.specs.List.{flat_map}
use Rattle.std.specs.Char.{is_ascii_digit}
use Rattle.std.proofs.lemmas.List.Elements.{All-nil}
use Rattle.httparse.specs.Grammar.{print_end, print_blank, print_version, print_field, IsField, ResponseHead, IsResponseHead, ReadsResponse, print_response, print_reason, reason_phrase, HasNoResponse, MayBecomeResponse, AllPass, is_value_byte}
use Rattle.httparse.proofs.GrammarLemmas.{print_response-append}
use Rattle.http_frames.specs.Lines.{skip_lines, begins_line_there, begins_extra_line}
use Rattle.http_frames.specs.Heads.{CanBeAnswer, IsNoAnswer, IsOpenAnswer}
use Rattle.http_frames.proofs.LineCounts.{NoFeed, no_feed, skip_over, skip_byte, skip_end, IsStartLine, section_of, extra_refuses, no_extra_fits, BeginsInside, blank_breaks, blank_cases, not_extra}
use Rattle.http_frames.proofs.RequestLines.{version_feed}

-- version SP code [ SP reason ] line-end
abbrev pub response_line : ResponseHead → List ℕ
response_line h = print_version h.minor ++ 32 ∷ (h.digits ++ (print_reason h.reason ++ print_end h.line_end))

pub answer_parts : (h : ResponseHead) (rest : List ℕ) → print_response h ++ rest
    ≡ print_blank h.blank ++ section_of (response_line h) h.fields h.last rest
answer_parts h rest =
    print_response-append h rest
    ∙ regroup (print_blank h.blank) (print_version h.minor) h.digits (print_reason h.reason) (print_end h.line_end)
    (flat_map print_field h.fields) (print_end h.last) rest
  where
    regroup : (a b c d e f g r : List ℕ)
        → a ++ (b ++ 32 ∷ (c ++ (d ++ (e ++ ((f ++ g) ++ r)))))
        ≡ a ++ ((b ++ 32 ∷ (c ++ (d ++ e))) ++ (f ++ (g ++ r)))
    regroup a b c d e f g r = simp append_assoc

reason_feed : (reason : Option (List ℕ)) → AllPass is_value_byte (reason_phrase reason) → NoFeed (print_reason reason)
reason_feed None all = tt
reason_feed (Some phrase) all = (refl, no_feed is_value_byte refl phrase all)

status_starts : (h : ResponseHead) → IsResponseHead h → IsStartLine (response_line h)
status_starts h valid = λ n rest.
    ap (skip_lines (suc n)) (regroup (print_version h.minor) h.digits (print_reason h.reason) (print_end h.line_end) rest)
    ∙ skip_over n (print_version h.minor) _ (version_feed h.minor)
    ∙ skip_byte n 32 _ refl
    ∙ skip_over n h.digits _ (no_feed is_ascii_digit refl h.digits valid.digits.1)
    ∙ skip_over n (print_reason h.reason) _ (reason_feed h.reason valid.reason)
    ∙ skip_end n h.line_end rest
  where
    regroup : (b c d e r : List ℕ) → (b ++ 32 ∷ (c ++ (d ++ e))) ++ r ≡ b ++ (32 ∷ (c ++ (d ++ (e ++ r))))
    regroup b c d e r = simp append_assoc

answer_inside : (h : ResponseHead) (rest : List ℕ) → BeginsInside (response_line h ++ rest)
answer_inside h rest = (72, _, refl, refl)

pub extra_is_no_answer : (buf : List ℕ) → HasNoResponse buf → begins_extra_line buf ≡ true → IsNoAnswer buf
unfolding begins_extra_line
extra_is_no_answer buf none extra = λ more h rest x.
    let valid = x.reads.0 in
    let parts : buf ++ more ≡ print_blank h.blank ++ section_of (response_line h) h.fields h.last rest =
    x.reads.1 ∙ answer_parts h rest in
    elim (blank_cases (print_blank h.blank) _ buf more (blank_breaks h.blank) (answer_inside h _) parts) [
      | inl w ↦ not_extra buf w.2 extra
      | inr w ↦
          let z = extra_refuses (response_line h) h.fields h.last rest more w.0 (status_starts h valid) valid.fields x.lines w.2
          (sym (ap (λ (l : List ℕ). begins_line_there (skip_lines 65 l)) w.3) ∙ extra) in
          none h z.0 (valid, w.1 ∙ ap (λ (l : List ℕ). print_blank h.blank ++ l) z.1 ∙ sym (answer_parts h z.0))
    ]

-- some head of at most 64 lines continues the text
answer_fits : (buf : List ℕ) (more : List ℕ) (h : ResponseHead) → ReadsResponse (buf ++ more) h [] → begins_extra_line buf ≡ false
    → CanBeAnswer buf
unfolding begins_extra_line
answer_fits buf more h x none =
    let valid = x.0 in
    let parts : buf ++ more ≡ print_blank h.blank ++ section_of (response_line h) h.fields h.last [] = x.1 ∙ answer_parts h [] in
    elim (blank_cases (print_blank h.blank) _ buf more (blank_breaks h.blank) (answer_inside h _) parts) [
      | inl w ↦
          let k : ResponseHead = record h { fields = [] } in (
            w.0 ++ section_of (response_line h) [] h.last [],
            k,
            record {
              reads = (
                record {
                  minor = valid.minor;
                  digits = valid.digits;
                  reason = valid.reason;
                  fields = All-nil IsField;
                },
                sym (append_assoc buf w.0 _) ∙ ap (λ (l : List ℕ). l ++ section_of (response_line h) [] h.last []) (sym w.1)
                    ∙ sym (answer_parts k []),
              );
              lines = omega arith;
            },
          )
      | inr w ↦
          let found = no_extra_fits (response_line h) h.fields h.last more w.0 (status_starts h valid) valid.fields w.2
          (sym (ap (λ (l : List ℕ). begins_line_there (skip_lines 65 l)) w.3) ∙ none) in
          let k : ResponseHead = record h { fields = found.0 } in (
            found.1,
            k,
            record {
              reads = (
                record {
                  minor = valid.minor;
                  digits = valid.digits;
                  reason = valid.reason;
                  fields = found.2;
                },
                ap (λ (l : List ℕ). l ++ found.1) w.1 ∙ append_assoc (print_blank h.blank) w.0 found.1
                    ∙ ap (λ (l : List ℕ). print_blank h.blank ++ l) found.4 ∙ sym (answer_parts k []),
              );
              lines = found.3;
            },
          )
    ]

pub open_answer : (buf : List ℕ) → HasNoResponse buf → MayBecomeResponse buf → begins_extra_line buf ≡ false → IsOpenAnswer buf
open_answer buf none may not_extra = record {
  lacks = λ h rest x. none h rest x.reads;
  can_be = answer_fits buf may.0 may.1 may.2 not_extra;
}
