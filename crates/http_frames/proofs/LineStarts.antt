-- Where the line begins in which a walk over a body in chunks stands.
use Rattle.std.proofs.Common.{◌≡◌, ℕ, ◌+◌, List, [], ◌∷◌, ◌++◌, length, refl, sym, ap, ◌∙◌, subst, arith, append_assoc, append-nil, length-append, Bool, true, false, inl, inr}
use Rattle.std.specs.Prelude.{◌⊎◌, Option, Some, None, Result, Ok, if◌then◌else◌}
use Rattle.std.proofs.lemmas.Bool.{false≢true}
use Rattle.std.proofs.lemmas.Bool.Decides.{eqb_tells}
use Rattle.std.proofs.lemmas.List.Elements.{All-nil, All-push}
use Rattle.std.specs.List.{AllPass}
use Rattle.std.specs.Char.{is_ascii_hexdigit, digit_value}
use Rattle.std.specs.Prelude.{◌==◌, nat_lt}
use Rattle.std.proofs.Common.{◌-◌, ◌*◌, not}
use Rattle.httparse.specs.Grammar.{is_ows}
use Rattle.http_frames.specs.Phases.{after_size, after_chunk_line}
use Rattle.http_frames.specs.Walks.{line_start}
use Rattle.http_frames.specs.declared.limits.Limits.{Limits}
use Rattle.http_frames.specs.declared.chunks.Phase.{Phase}
use Rattle.http_frames.specs.declared.chunks.Phase.TheVariants.{Line, Size, Pad, Extension, SizeReturn, Data, DataEnd, DataReturn, Trailer as TrailerStart, TrailerReturn, TrailerText, Done}
use Rattle.http_frames.specs.declared.chunks.Walk.{Walk}
use Rattle.http_frames.specs.declared.frame_error.FrameError.{FrameError}
use Rattle.http_frames.specs.Phases.{next_phase, is_done}
use Rattle.http_frames.specs.Walks.{step, stepped, can_fit, and_then_walk, walk_over, content_over, start}
use Rattle.http_frames.specs.Chunks.{Chunked, AreChunks, LineBegins, IsLineStart, is_trailer_byte}
use Rattle.http_frames.proofs.Walking.{walk_done, walk_byte, walk_none, done_or_not, walk_over-append}
use Rattle.http_frames.proofs.Accepts.{Accepts}
use Rattle.http_frames.proofs.Complete.{complete}
use Rattle.http_frames.proofs.Bounds.{AllSome}
use Rattle.http_frames.proofs.WalkBodies.{is_wrong, goes_on, is_long, step_is, stepped_phase, ok_walk, Reached, reached_open, start_counts, start_sane, from_start}

-- in a chunk line, or in the line end after a chunk
abbrev in_line : Phase → Bool
in_line Line = true
in_line (Size digits size) = true
in_line (Pad size) = true
in_line (Extension size) = true
in_line (SizeReturn size) = true
in_line DataEnd = true
in_line DataReturn = true
in_line (Data left) = false
in_line TrailerStart = false
in_line TrailerReturn = false
in_line TrailerText = false
in_line Done = false

all_if_eq : (t : Bool) (x y : Option Phase) (P : Phase → Type 0) → (t ≡ true → AllSome x P) → (t ≡ false → AllSome y P)
    → AllSome (if t then x else y) P
all_if_eq true x y P h k = h refl
all_if_eq false x y P h k = k refl

other_byte : (test : ℕ → Bool) (b : ℕ) → test 10 ≡ false → test b ≡ true → is_trailer_byte b ≡ true
other_byte test b ten passes = elim (eqb_tells b 10) [
  | inl w ↦ absurd (false≢true (sym (subst (λ (x : ℕ). test x ≡ false) (sym w.1) ten) ∙ passes))
  | inr w ↦ ap not w.0
]

-- a line goes on by a byte other than LF, or begins
abbrev Goes : Phase → ℕ → Phase → Type 0
Goes phase b next = in_line next ≡ true → ((next ≡ Line) ⊎ (next ≡ DataEnd)) ⊎ ((in_line phase ≡ true) × (is_trailer_byte b ≡ true))

after_goes : (phase : Phase) (size b : ℕ) → in_line phase ≡ true → AllSome (after_size size b) (Goes phase b)
after_goes phase size b line =
    all_if_eq (is_ows b) (Some (Pad size)) _ (Goes phase b) (λ h _. inr (line, other_byte is_ows b refl h))
    (λ _. all_if_eq (b == 59) (Some (Extension size)) _ (Goes phase b) (λ h _. inr (line, other_byte (λ x. x == 59) b refl h))
    (λ _. all_if_eq (b == 13) (Some (SizeReturn size)) None (Goes phase b) (λ h _. inr (line, other_byte (λ x. x == 13) b refl h)) (λ _. tt)))

after_line_goes : (size b : ℕ) → Goes (SizeReturn size) b (after_chunk_line size)
after_line_goes size b = elim (size == 0) as (λ t. Goes (SizeReturn size) b (if t then TrailerStart else Data size)) [
  | true ↦ λ h. absurd (false≢true h)
  | false ↦ λ h. absurd (false≢true h)
]

step_goes : (phase : Phase) (b : ℕ) → AllSome (next_phase phase b) (Goes phase b)
unfolding next_phase
step_goes Line b = all_if_eq (is_ascii_hexdigit b) (Some (Size 1 (digit_value b))) None (Goes Line b)
    (λ h _. inr (refl, other_byte is_ascii_hexdigit b refl h)) (λ _. tt)
step_goes (Size digits size) b = all_if_eq (is_ascii_hexdigit b) _ (after_size size b) (Goes (Size digits size) b)
    (λ h. all_if_eq (nat_lt digits 16) (Some (Size (digits + 1) (size * 16 + digit_value b))) None (Goes (Size digits size) b)
    (λ _ _. inr (refl, other_byte is_ascii_hexdigit b refl h)) (λ _. tt))
    (λ _. after_goes (Size digits size) size b refl)
step_goes (Pad size) b = after_goes (Pad size) size b refl
step_goes (Extension size) b = all_if_eq (b == 13) (Some (SizeReturn size)) _ (Goes (Extension size) b)
    (λ h _. inr (refl, other_byte (λ x. x == 13) b refl h))
    (λ _. all_if_eq (b == 10) None (Some (Extension size)) (Goes (Extension size) b) (λ _. tt) (λ h _. inr (refl, ap not h)))
step_goes (SizeReturn size) b = all_if_eq (b == 10) (Some (after_chunk_line size)) None (Goes (SizeReturn size) b) (λ _. after_line_goes size b) (λ _. tt)
step_goes (Data left) b = elim (left == 1) as (λ t. Goes (Data left) b (if t then DataEnd else Data (left - 1))) [
  | true ↦ λ h. inl (inr refl)
  | false ↦ λ h. absurd (false≢true h)
]
step_goes DataEnd b = all_if_eq (b == 13) (Some DataReturn) None (Goes DataEnd b) (λ h _. inr (refl, other_byte (λ x. x == 13) b refl h)) (λ _. tt)
step_goes DataReturn b = all_if_eq (b == 10) (Some Line) None (Goes DataReturn b) (λ _ _. inl (inl refl)) (λ _. tt)
step_goes TrailerStart b = elim (b == 10) as (λ t. Goes TrailerStart b (if t then Done else (if b == 13 then TrailerReturn else TrailerText))) [
  | true ↦ λ h. absurd (false≢true h)
  | false ↦ elim (b == 13) as (λ t. Goes TrailerStart b (if t then TrailerReturn else TrailerText)) [
    | true ↦ λ h. absurd (false≢true h)
    | false ↦ λ h. absurd (false≢true h)
  ]
]
step_goes TrailerReturn b = elim (b == 10) as (λ t. Goes TrailerReturn b (if t then Done else TrailerText)) [
  | true ↦ λ h. absurd (false≢true h)
  | false ↦ λ h. absurd (false≢true h)
]
step_goes TrailerText b = elim (b == 10) as (λ t. Goes TrailerText b (if t then TrailerStart else TrailerText)) [
  | true ↦ λ h. absurd (false≢true h)
  | false ↦ λ h. absurd (false≢true h)
]
step_goes Done b = tt

-- only there a byte can be wrong
wrong_in_line : (phase : Phase) (b : ℕ) → next_phase phase b ≡ None → is_done phase ≡ false → in_line phase ≡ true
unfolding next_phase
wrong_in_line Line b none not_done = refl
wrong_in_line (Size digits size) b none not_done = refl
wrong_in_line (Pad size) b none not_done = refl
wrong_in_line (Extension size) b none not_done = refl
wrong_in_line (SizeReturn size) b none not_done = refl
wrong_in_line DataEnd b none not_done = refl
wrong_in_line DataReturn b none not_done = refl
wrong_in_line (Data left) b none not_done = absurd (cc)
wrong_in_line TrailerStart b none not_done = absurd (cc)
wrong_in_line TrailerReturn b none not_done = absurd (cc)
wrong_in_line TrailerText b none not_done = absurd (cc)
wrong_in_line Done b none not_done = absurd (false≢true (sym not_done))

-- where the line began in which the walk stands
record Mark (seen : List ℕ) (walk : Walk) : Type 0 where
  front : List ℕ
  begun : List ℕ
  split : seen ≡ front ++ begun
  place_is : walk.line ≡ length front
  begins : in_line walk.phase ≡ true → LineBegins front
  inside : in_line walk.phase ≡ true → AllPass is_trailer_byte begun

chunks_after : (limits : Limits) (front : ℕ) (seen : List ℕ) (walk : Walk) → Reached limits front start seen walk → walk.phase ≡ Line
    → AreChunks seen
chunks_after limits front seen walk over at = λ body content h.
    let x = content_over limits front start seen in (
      x ++ content,
      from_start (seen ++ body) (x ++ content)
          (over.accepts body content (subst (λ (p : Phase). Accepts p body content) (sym at) (complete body content h))),
    )

chunks_at_end : (limits : Limits) (front : ℕ) (seen : List ℕ) (walk : Walk) → Reached limits front start seen walk → walk.phase ≡ DataEnd
    → AreChunks (seen ++ 13 ∷ 10 ∷ [])
unfolding next_phase
chunks_at_end limits front seen walk over at = λ body content h.
    let x = content_over limits front start seen in (
      x ++ content,
      subst (λ (l : List ℕ). Chunked l (x ++ content)) (sym (append_assoc seen (13 ∷ 10 ∷ []) body))
          (from_start (seen ++ (13 ∷ 10 ∷ body)) (x ++ content)
          (over.accepts (13 ∷ 10 ∷ body) content
          (subst (λ (p : Phase). Accepts p (13 ∷ 10 ∷ body) content) (sym at) (complete body content h)))),
    )

stepped_line : (walk : Walk) (next : Phase) → (stepped walk next).line ≡ line_start next (walk.length + 1) walk.line
unfolding stepped
stepped_line walk next = refl

line_kept : (next : Phase) (n begun : ℕ) → (next ≡ Line → ⊥) → (next ≡ DataEnd → ⊥) → line_start next n begun ≡ begun
line_kept Line n begun h k = absurd (h refl)
line_kept DataEnd n begun h k = absurd (k refl)
line_kept (Size digits size) n begun h k = refl
line_kept (Pad size) n begun h k = refl
line_kept (Extension size) n begun h k = refl
line_kept (SizeReturn size) n begun h k = refl
line_kept (Data left) n begun h k = refl
line_kept DataReturn n begun h k = refl
line_kept TrailerStart n begun h k = refl
line_kept TrailerReturn n begun h k = refl
line_kept TrailerText n begun h k = refl
line_kept Done n begun h k = refl

-- the two phases at which a line begins, and the others
data Kind (next : Phase) : Type 0 where
  at_line : next ≡ Line → Kind next
  at_end : next ≡ DataEnd → Kind next
  elsewhere : (next ≡ Line → ⊥) → (next ≡ DataEnd → ⊥) → Kind next

abbrev is_line : Phase → Bool
is_line Line = true
is_line (Size digits size) = false
is_line (Pad size) = false
is_line (Extension size) = false
is_line (SizeReturn size) = false
is_line (Data left) = false
is_line DataEnd = false
is_line DataReturn = false
is_line TrailerStart = false
is_line TrailerReturn = false
is_line TrailerText = false
is_line Done = false

abbrev is_end : Phase → Bool
is_end DataEnd = true
is_end Line = false
is_end (Size digits size) = false
is_end (Pad size) = false
is_end (Extension size) = false
is_end (SizeReturn size) = false
is_end (Data left) = false
is_end DataReturn = false
is_end TrailerStart = false
is_end TrailerReturn = false
is_end TrailerText = false
is_end Done = false

no_kind : (next : Phase) → is_line next ≡ false → is_end next ≡ false → Kind next
no_kind next l e = elsewhere (λ h. false≢true (sym l ∙ ap is_line h)) (λ h. false≢true (sym e ∙ ap is_end h))

kind : (next : Phase) → Kind next
kind Line = at_line refl
kind DataEnd = at_end refl
kind (Size digits size) = no_kind (Size digits size) refl refl
kind (Pad size) = no_kind (Pad size) refl refl
kind (Extension size) = no_kind (Extension size) refl refl
kind (SizeReturn size) = no_kind (SizeReturn size) refl refl
kind (Data left) = no_kind (Data left) refl refl
kind DataReturn = no_kind DataReturn refl refl
kind TrailerStart = no_kind TrailerStart refl refl
kind TrailerReturn = no_kind TrailerReturn refl refl
kind TrailerText = no_kind TrailerText refl refl
kind Done = no_kind Done refl refl

mark_next : (limits : Limits) (front : ℕ) (seen : List ℕ) (b : ℕ) (walk : Walk) (next : Phase) → can_fit limits start ≡ true
    → walk_over limits front start seen ≡ Ok walk → is_done walk.phase ≡ false → next_phase walk.phase b ≡ Some next
    → walk_over limits front start (seen ++ b ∷ []) ≡ Ok (stepped walk next) → Mark seen walk → Mark (seen ++ b ∷ []) (stepped walk next)
mark_next limits front seen b walk next fits over not_done there on mark =
    let phase = stepped_phase walk next in
    let here = reached_open limits front start seen walk start_sane fits over not_done in
    let total : walk.length ≡ length seen = omega (arith, here.length_is, start_counts.0) in
    let longer = length-append seen (b ∷ []) in
    elim (kind next) [
      | at_line h ↦
          let reached = reached_open limits front start (seen ++ b ∷ []) (stepped walk next) start_sane fits on (ap is_done (phase ∙ h)) in
          record {
            front = seen ++ b ∷ [];
            begun = [];
            split = sym (append-nil (seen ++ b ∷ []));
            place_is = stepped_line walk next ∙ ap (λ (p : Phase). line_start p (walk.length + 1) walk.line) h ∙ omega (arith, total, longer);
            begins = λ _. inl (chunks_after limits front (seen ++ b ∷ []) (stepped walk next) reached (phase ∙ h));
            inside = λ _. All-nil (λ x. is_trailer_byte x ≡ true);
          }
      | at_end h ↦
          let reached = reached_open limits front start (seen ++ b ∷ []) (stepped walk next) start_sane fits on (ap is_done (phase ∙ h)) in
          record {
            front = seen ++ b ∷ [];
            begun = [];
            split = sym (append-nil (seen ++ b ∷ []));
            place_is = stepped_line walk next ∙ ap (λ (p : Phase). line_start p (walk.length + 1) walk.line) h ∙ omega (arith, total, longer);
            begins = λ _. inr (chunks_at_end limits front (seen ++ b ∷ []) (stepped walk next) reached (phase ∙ h));
            inside = λ _. All-nil (λ x. is_trailer_byte x ≡ true);
          }
      | elsewhere h k ↦
          let goes : Goes walk.phase b next = subst (λ (o : Option Phase). AllSome o (Goes walk.phase b)) there (step_goes walk.phase b) in
          let before : in_line (stepped walk next).phase ≡ true → (in_line walk.phase ≡ true) × (is_trailer_byte b ≡ true) =
          λ line. elim (goes (sym (ap in_line phase) ∙ line)) [ inl w ↦ elim w [ inl v ↦ absurd (h v) | inr v ↦ absurd (k v) ] | inr w ↦ w ] in
          record {
            front = mark.front;
            begun = mark.begun ++ b ∷ [];
            split = ap (λ (l : List ℕ). l ++ b ∷ []) mark.split ∙ append_assoc mark.front mark.begun (b ∷ []);
            place_is = stepped_line walk next ∙ line_kept next (walk.length + 1) walk.line h k ∙ mark.place_is;
            begins = λ line. mark.begins (before line).0;
            inside = λ line. All-push (λ x. is_trailer_byte x ≡ true) mark.begun b (mark.inside (before line).0) (before line).1;
          }
    ]

one_more_byte : (limits : Limits) (front : ℕ) (seen : List ℕ) (b : ℕ) (walk : Walk) (next : Walk) → walk_over limits front start seen ≡ Ok walk
    → is_done walk.phase ≡ false → step limits front walk b ≡ Ok next → walk_over limits front start (seen ++ b ∷ []) ≡ Ok next
one_more_byte limits front seen b walk next over not_done went =
    walk_over-append limits front start seen (b ∷ [])
    ∙ ap (λ (r : Result Walk FrameError). and_then_walk r (λ n. walk_over limits front n (b ∷ []))) over
    ∙ walk_byte limits front walk b [] not_done
    ∙ ap (λ (r : Result Walk FrameError). and_then_walk r (λ n. walk_over limits front n [])) went
    ∙ walk_none limits front next

mark_walk : (limits : Limits) (front : ℕ) (rest seen : List ℕ) (walk reached : Walk) → can_fit limits start ≡ true
    → walk_over limits front start seen ≡ Ok walk → Mark seen walk → walk_over limits front walk rest ≡ Ok reached
    → is_done reached.phase ≡ false → Mark (seen ++ rest) reached
mark_walk limits front [] seen walk reached fits over mark is not_done =
    let same = ok_walk walk reached (sym (walk_none limits front walk) ∙ is) in
    subst (λ (l : List ℕ). Mark l reached) (sym (append-nil seen)) (subst (Mark seen) same mark)
mark_walk limits front (b ∷ rest) seen walk reached fits over mark is not_done = elim (done_or_not (is_done walk.phase)) [
  | inl w ↦
      let same = ok_walk walk reached (sym (walk_done limits front walk (b ∷ rest) w) ∙ is) in
      absurd (false≢true (sym not_done ∙ ap (λ (x : Walk). is_done x.phase) (sym same) ∙ w))
  | inr w ↦
      let on = sym (walk_byte limits front walk b rest w) ∙ is in
      elim (step_is limits front walk b) [
        | is_wrong none e ↦ absurd (let x = sym (ap (λ (r : Result Walk FrameError). and_then_walk r (λ n. walk_over limits front n rest)) e) ∙ on in cc)
        | goes_on next there fit e ↦
            let far = one_more_byte limits front seen b walk (stepped walk next) over w e in
            subst (λ (l : List ℕ). Mark l reached) (append_assoc seen (b ∷ []) rest)
            (mark_walk limits front rest (seen ++ b ∷ []) (stepped walk next) reached fits far
            (mark_next limits front seen b walk next fits over w there far mark)
            (sym (ap (λ (r : Result Walk FrameError). and_then_walk r (λ n. walk_over limits front n rest)) e) ∙ on) not_done)
        | is_long next there fit e ↦ absurd (let x = sym (ap (λ (r : Result Walk FrameError). and_then_walk r (λ n. walk_over limits front n rest)) e) ∙ on in cc)
      ]
]

start_mark : Mark [] start
unfolding start
start_mark = record {
  front = [];
  begun = [];
  split = refl;
  place_is = refl;
  begins = λ _. inl (λ body content h. (content, h));
  inside = λ _. All-nil (λ x. is_trailer_byte x ≡ true);
}

pub line_start_at : (limits : Limits) (front : ℕ) (before : List ℕ) (reached : Walk) (b : ℕ) → can_fit limits start ≡ true
    → Reached limits front start before reached → is_done reached.phase ≡ false → next_phase reached.phase b ≡ None
    → IsLineStart before reached.line
line_start_at limits front before reached b fits over not_done none =
    let mark = mark_walk limits front before [] start reached fits (walk_none limits front start) start_mark over.over not_done in
    let line = wrong_in_line reached.phase b none not_done in
    record {
      front = mark.front;
      begun = mark.begun;
      split = mark.split;
      place_is = mark.place_is;
      begins = mark.begins line;
      inside = mark.inside line;
    }
