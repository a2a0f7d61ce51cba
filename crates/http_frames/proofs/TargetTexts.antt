-- A target that has ended is text, where the bytes can go on to a head.
use Rattle.std.proofs.Common.{◌≡◌, ℕ, List, [], ◌∷◌, ◌++◌, refl, sym, ap, ◌∙◌, subst, append_assoc, append-nil, inl, inr}
use Rattle.std.specs.Prelude.{IsUtf8}
use Rattle.std.specs.List.{flat_map}
use Rattle.httparse.specs.Grammar.{is_token_byte, is_uri_byte, EndsInTarget, print_blank, print_version, print_end, print_field, RequestHead, ReadsRequest}
use Rattle.httparse.proofs.RunLemmas.{run_unique}
use Rattle.http_frames.specs.Lines.{skip_breaks}
use Rattle.http_frames.specs.HeadWalks.{IsTargetBegun, CanGoOn, start_line}
use Rattle.http_frames.proofs.LineCounts.{blank_breaks, section_of}
use Rattle.http_frames.proofs.RequestLines.{request_parts, inside_by_method, request_inside}
use Rattle.http_frames.proofs.InTarget.{after_blank, no_blank}

-- the bytes after the empty lines
text_from : (bytes target more : List ℕ) (g : IsTargetBegun bytes target)
    → skip_breaks ((bytes ++ 32 ∷ []) ++ more) ≡ g.method ++ 32 ∷ (target ++ 32 ∷ more)
text_from bytes target more g =
    ap skip_breaks (ap (λ (l : List ℕ). (l ++ 32 ∷ []) ++ more) g.is ∙ regroup (print_blank g.blank) g.method target)
    ∙ after_blank (print_blank g.blank) _ (blank_breaks g.blank) (inside_by_method g.method _ g.token.0 g.token.1)
  where
    regroup : (x m t : List ℕ) → ((x ++ (m ++ 32 ∷ t)) ++ 32 ∷ []) ++ more ≡ x ++ (m ++ 32 ∷ (t ++ 32 ∷ more))
    regroup x m t = simp append_assoc

-- it is the target of each head that follows
same_target : (bytes target more : List ℕ) (g : IsTargetBegun bytes target) (h : RequestHead) (rest : List ℕ)
    → ReadsRequest ((bytes ++ 32 ∷ []) ++ more) h rest → target ≡ h.target
unfolding is_token_byte
same_target bytes target more g h rest reads =
    let z = print_version h.minor ++ (print_end h.line_end ++ (flat_map print_field h.fields ++ (print_end h.last ++ rest))) in
    let other : skip_breaks ((bytes ++ 32 ∷ []) ++ more) ≡ h.method ++ 32 ∷ (h.target ++ 32 ∷ z) =
    ap skip_breaks (reads.1 ∙ request_parts h rest)
    ∙ after_blank (print_blank h.blank) (section_of (start_line h) h.fields h.last rest) (blank_breaks h.blank)
    (request_inside h _ reads.0)
    ∙ regroup h.method h.target (print_version h.minor) (print_end h.line_end) (flat_map print_field h.fields) (print_end h.last ++ rest) in
    let whole : g.method ++ 32 ∷ (target ++ 32 ∷ more) ≡ h.method ++ 32 ∷ (h.target ++ 32 ∷ z) = sym (text_from bytes target more g) ∙ other in
    let after_method = (run_unique is_token_byte g.method h.method _ _ g.token.1 reads.0.method.1 refl refl whole).1 in
    let tails : target ++ 32 ∷ more ≡ h.target ++ 32 ∷ z = cc in
    (run_unique is_uri_byte target h.target _ _ g.uri reads.0.target.1 refl refl tails).0
  where
    regroup : (a b c d f g : List ℕ)
        → (a ++ 32 ∷ (b ++ 32 ∷ (c ++ d))) ++ (f ++ g) ≡ a ++ 32 ∷ (b ++ 32 ∷ (c ++ (d ++ (f ++ g))))
    regroup a b c d f g = simp append_assoc

-- after the space the bytes end inside no target
ended_target : (bytes target : List ℕ) → IsTargetBegun bytes target → EndsInTarget (bytes ++ 32 ∷ []) → ⊥
ended_target bytes target g ends =
    let left : skip_breaks ((bytes ++ 32 ∷ []) ++ []) ≡ ends.1 ++ 32 ∷ ends.2 =
    ap skip_breaks (append-nil (bytes ++ 32 ∷ []) ∙ ends.5 ∙ append_assoc (print_blank ends.0) ends.1 (32 ∷ ends.2))
    ∙ after_blank (print_blank ends.0) (ends.1 ++ 32 ∷ ends.2) (blank_breaks ends.0)
    (inside_by_method ends.1 (32 ∷ ends.2) ends.3.0 ends.3.1) in
    no_blank ends.1 g.method ends.2 target [] ends.3.1 g.token.1 ends.4 (sym left ∙ text_from bytes target [] g)

pub target_is_text : (bytes target : List ℕ) → IsTargetBegun bytes target → CanGoOn (bytes ++ 32 ∷ []) → IsUtf8 target
target_is_text bytes target g can = elim can [
  | inl w ↦ subst IsUtf8 (sym (same_target bytes target w.0 g w.1 w.2 w.3)) w.3.0.target_text
  | inr w ↦ absurd (ended_target bytes target g w)
]
