-- Where a request's head has begun a header line too many, no continuation makes it a head of 64 lines.
use Rattle.std.proofs.Common.{◌≡◌, ℕ, suc, ◌+◌, ◌<◌, List, [], ◌∷◌, ◌++◌, length, refl, sym, ap, ◌∙◌, subst, arith, append_assoc, true, false, inl, inr}
use Rattle.std.specs.Prelude.{◌==◌}
use Rattle.std.specs.List.{flat_map}
use Rattle.std.proofs.lemmas.Bool.Decides.{eqb_tells}
use Rattle.std.proofs.lemmas.List.Elements.{All-head, All-nil}
use Rattle.httparse.specs.Grammar.{print_end, print_blank, print_version, print_field, IsField, RequestHead, IsRequestHead, ReadsRequest, print_request, HasNoRequest, MayBecomeRequest, AllPass, is_token_byte, is_uri_byte}
use Rattle.httparse.proofs.GrammarLemmas.{print_request-append}
use Rattle.http_frames.specs.Lines.{skip_lines, begins_line_there, begins_extra_line}
use Rattle.http_frames.specs.HeadWalks.{start_line}
use Rattle.http_frames.specs.Heads.{CanBeRequest, IsNoRequest, IsOpenRequest}
use Rattle.http_frames.proofs.LineCounts.{NoFeed, no_feed, token_feed, token_inside, skip_over, skip_byte, skip_end, IsStartLine, section_of, extra_refuses, no_extra_fits, BeginsInside, blank_breaks, blank_cases, not_extra}

pub request_parts : (h : RequestHead) (rest : List ℕ) → print_request h ++ rest
    ≡ print_blank h.blank ++ section_of (start_line h) h.fields h.last rest
request_parts h rest =
    print_request-append h rest
    ∙ regroup (print_blank h.blank) h.method h.target (print_version h.minor) (print_end h.line_end)
    (flat_map print_field h.fields) (print_end h.last) rest
  where
    regroup : (a b c d e f g r : List ℕ)
        → a ++ (b ++ 32 ∷ (c ++ 32 ∷ (d ++ (e ++ ((f ++ g) ++ r)))))
        ≡ a ++ ((b ++ 32 ∷ (c ++ 32 ∷ (d ++ e))) ++ (f ++ (g ++ r)))
    regroup a b c d e f g r = simp append_assoc

minor_feed : (minor : ℕ) → ((48 + minor) == 10) ≡ false
minor_feed minor = elim (eqb_tells (48 + minor) 10) [ inl w ↦ absurd (omega (arith, w.1)) | inr w ↦ w.0 ]

pub version_feed : (minor : ℕ) → NoFeed (print_version minor)
version_feed minor = (refl, (refl, (refl, (refl, (refl, (refl, (refl, (minor_feed minor, tt))))))))

request_line_starts : (h : RequestHead) → IsRequestHead h → IsStartLine (start_line h)
request_line_starts h valid = λ n rest.
    ap (skip_lines (suc n)) (regroup h.method h.target (print_version h.minor) (print_end h.line_end) rest)
    ∙ skip_over n h.method _ (no_feed is_token_byte token_feed h.method valid.method.1)
    ∙ skip_byte n 32 _ refl
    ∙ skip_over n h.target _ (no_feed is_uri_byte refl h.target valid.target.1)
    ∙ skip_byte n 32 _ refl
    ∙ skip_over n (print_version h.minor) _ (version_feed h.minor)
    ∙ skip_end n h.line_end rest
  where
    regroup : (b c d e r : List ℕ)
        → (b ++ 32 ∷ (c ++ 32 ∷ (d ++ e))) ++ r ≡ b ++ (32 ∷ (c ++ (32 ∷ (d ++ (e ++ r)))))
    regroup b c d e r = simp append_assoc

pub inside_by_method : (method rest : List ℕ) → 0 < length method → AllPass is_token_byte method → BeginsInside (method ++ rest)
inside_by_method [] rest some all = absurd (omega arith)
inside_by_method (b ∷ method) rest some all =
    let P : ℕ → Type 0 = λ v. is_token_byte v ≡ true in
    (b, method ++ rest, refl, token_inside b (All-head P b method all))

pub request_inside : (h : RequestHead) (rest : List ℕ) → IsRequestHead h → BeginsInside (start_line h ++ rest)
request_inside h rest valid =
    subst BeginsInside (sym (append_assoc h.method (32 ∷ (h.target ++ 32 ∷ (print_version h.minor ++ print_end h.line_end))) rest))
    (inside_by_method h.method _ valid.method.0 valid.method.1)

pub extra_is_no_request : (buf : List ℕ) → HasNoRequest buf → begins_extra_line buf ≡ true → IsNoRequest buf
unfolding begins_extra_line
extra_is_no_request buf none extra = λ more h rest x.
    let valid = x.reads.0 in
    let parts : buf ++ more ≡ print_blank h.blank ++ section_of (start_line h) h.fields h.last rest =
    x.reads.1 ∙ request_parts h rest in
    elim (blank_cases (print_blank h.blank) _ buf more (blank_breaks h.blank) (request_inside h _ valid) parts) [
      | inl w ↦ not_extra buf w.2 extra
      | inr w ↦
          let z = extra_refuses (start_line h) h.fields h.last rest more w.0 (request_line_starts h valid) valid.fields x.lines w.2
          (sym (ap (λ (l : List ℕ). begins_line_there (skip_lines 65 l)) w.3) ∙ extra) in
          none h z.0 (valid, w.1 ∙ ap (λ (l : List ℕ). print_blank h.blank ++ l) z.1 ∙ sym (request_parts h z.0))
    ]

-- some head of at most 64 lines continues the text
request_fits : (buf : List ℕ) (more : List ℕ) (h : RequestHead) → ReadsRequest (buf ++ more) h [] → begins_extra_line buf ≡ false
    → CanBeRequest buf
unfolding begins_extra_line
request_fits buf more h x none =
    let valid = x.0 in
    let parts : buf ++ more ≡ print_blank h.blank ++ section_of (start_line h) h.fields h.last [] = x.1 ∙ request_parts h [] in
    elim (blank_cases (print_blank h.blank) _ buf more (blank_breaks h.blank) (request_inside h _ valid) parts) [
      | inl w ↦
          let k : RequestHead = record h { fields = [] } in (
            w.0 ++ section_of (start_line h) [] h.last [],
            k,
            record {
              reads = (
                record {
                  method = valid.method;
                  target = valid.target;
                  target_text = valid.target_text;
                  minor = valid.minor;
                  fields = All-nil IsField;
                },
                sym (append_assoc buf w.0 _) ∙ ap (λ (l : List ℕ). l ++ section_of (start_line h) [] h.last []) (sym w.1)
                    ∙ sym (request_parts k []),
              );
              lines = omega arith;
            },
          )
      | inr w ↦
          let found = no_extra_fits (start_line h) h.fields h.last more w.0 (request_line_starts h valid) valid.fields w.2
          (sym (ap (λ (l : List ℕ). begins_line_there (skip_lines 65 l)) w.3) ∙ none) in
          let k : RequestHead = record h { fields = found.0 } in (
            found.1,
            k,
            record {
              reads = (
                record {
                  method = valid.method;
                  target = valid.target;
                  target_text = valid.target_text;
                  minor = valid.minor;
                  fields = found.2;
                },
                ap (λ (l : List ℕ). l ++ found.1) w.1 ∙ append_assoc (print_blank h.blank) w.0 found.1
                    ∙ ap (λ (l : List ℕ). print_blank h.blank ++ l) found.4 ∙ sym (request_parts k []),
              );
              lines = found.3;
            },
          )
    ]

pub open_request : (buf : List ℕ) → HasNoRequest buf → MayBecomeRequest buf → begins_extra_line buf ≡ false → IsOpenRequest buf
open_request buf none may not_extra = record {
  lacks = λ h rest x. none h rest x.reads;
  can_be = elim may [
    | inl w ↦ inl (request_fits buf w.0 w.1 w.2 not_extra)
    | inr w ↦ inr w
  ];
}
