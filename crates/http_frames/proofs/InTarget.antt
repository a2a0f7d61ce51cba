-- Bytes that end inside a request's target hold no whole head.
use Rattle.std.proofs.Common.{◌≡◌, ℕ, List, ◌∷◌, ◌++◌, take, refl, sym, ap, ◌∙◌, subst, append_assoc}
use Rattle.std.specs.List.{flat_map}
use Rattle.httparse.specs.Grammar.{AllPass, is_token_byte, is_uri_byte, EndsInTarget, print_blank, print_version, print_end, print_field, RequestHead, print_request}
use Rattle.httparse.proofs.RunLemmas.{run_unique, run_unstopped}
use Rattle.http_frames.specs.Lines.{skip_breaks}
use Rattle.http_frames.specs.HeadWalks.{start_line}
use Rattle.http_frames.specs.Frames.{RequestFront}
use Rattle.http_frames.proofs.LineCounts.{Breaks, BeginsInside, blank_breaks, skip_all, skip_no_more, section_of}
use Rattle.http_frames.proofs.RequestLines.{request_parts, inside_by_method, request_inside}
use Rattle.http_frames.proofs.OneHead.{front_within}

-- after the empty lines stands the text
pub after_blank : (blank text : List ℕ) → Breaks blank → BeginsInside text → skip_breaks (blank ++ text) ≡ text
after_blank blank text breaks begins =
    skip_all blank text breaks ∙ ap skip_breaks begins.2 ∙ skip_no_more begins.0 begins.1 begins.3 ∙ sym begins.2

-- a text of a target has no blank in it
pub no_blank : (m k t u more : List ℕ) → AllPass is_token_byte m → AllPass is_token_byte k → AllPass is_uri_byte t
    → m ++ 32 ∷ t ≡ k ++ 32 ∷ (u ++ 32 ∷ more) → ⊥
unfolding is_token_byte
no_blank m k t u more a b c e =
    let tails = run_unique is_token_byte m k (32 ∷ t) (32 ∷ (u ++ 32 ∷ more)) a b refl refl e in
    let target : t ≡ u ++ 32 ∷ more = cc in
    run_unstopped is_uri_byte u (32 ∷ more) (subst (AllPass is_uri_byte) target c) refl

pub whole_not_in_target : (bytes : List ℕ) (head : RequestHead) (rest : List ℕ) → RequestFront bytes head rest
    → EndsInTarget (take 16384 bytes) → ⊥
whole_not_in_target bytes head rest front ends =
    let valid = front.begins.reads.0 in
    let within = front_within 16384 bytes (print_request head) rest front.begins.reads.1 front.short in
    let z = within.0 in
    let more = print_version head.minor ++ (print_end head.line_end ++ (flat_map print_field head.fields ++ (print_end head.last ++ z))) in
    let left : skip_breaks (take 16384 bytes) ≡ ends.1 ++ 32 ∷ ends.2 =
    ap skip_breaks (ends.5 ∙ append_assoc (print_blank ends.0) ends.1 (32 ∷ ends.2))
    ∙ after_blank (print_blank ends.0) (ends.1 ++ 32 ∷ ends.2) (blank_breaks ends.0)
    (inside_by_method ends.1 (32 ∷ ends.2) ends.3.0 ends.3.1) in
    let right : skip_breaks (take 16384 bytes) ≡ section_of (start_line head) head.fields head.last z =
    ap skip_breaks (within.1 ∙ request_parts head z)
    ∙ after_blank (print_blank head.blank) (section_of (start_line head) head.fields head.last z) (blank_breaks head.blank)
    (request_inside head _ valid) in
    no_blank ends.1 head.method ends.2 head.target more ends.3.1 valid.method.1 ends.4
    (sym left ∙ right
    ∙ regroup head.method head.target (print_version head.minor) (print_end head.line_end) (flat_map print_field head.fields)
    (print_end head.last ++ z))
  where
    regroup : (a b c d f g : List ℕ)
        → (a ++ 32 ∷ (b ++ 32 ∷ (c ++ d))) ++ (f ++ g) ≡ a ++ 32 ∷ (b ++ 32 ∷ (c ++ (d ++ (f ++ g))))
    regroup a b c d f g = simp append_assoc
