-- A walk passes over a head to its end, so that a place inside, or none, says that no head stands in front.
use Rattle.std.proofs.Common.{◌≡◌, ℕ, zero, suc, ◌+◌, ◌-◌, ◌<◌, ◌≤◌, Bool, true, false, List, [], ◌∷◌, ◌++◌, length, refl, sym, ap, ◌∙◌, arith, append_assoc, inl, inr}
use Rattle.std.specs.Prelude.{◌⊎◌, Option, Some, None, if◌then◌else◌, nat_lt, All, option_and_then}
use Rattle.std.specs.List.{flat_map}
use Rattle.std.proofs.lemmas.Bool.{false≢true}
use Rattle.std.proofs.lemmas.List.Elements.{All-head, All-tail}
use Rattle.httparse.specs.Grammar.{LineEnd, crlf, lf, print_end, print_blank, print_version, Field, print_field, IsField, AllPass, is_token_byte, is_uri_byte, is_value_byte, RequestHead, IsRequestHead, print_request}
use Rattle.httparse.proofs.GrammarLemmas.{cons-append}
use Rattle.http_frames.specs.declared.head_places.Place.{Place}
use Rattle.http_frames.specs.declared.head_places.Place.TheVariants.{Front, Method, TargetFront, Target, Version, VersionEnd, Line, Name, Value, Whole}
use Rattle.http_frames.specs.Heads.{BeginsRequest, LacksRequest, IsNoRequest}
use Rattle.http_frames.specs.HeadPlaces.{next_place, named, is_whole, place_after}
use Rattle.http_frames.specs.HeadWalks.{start_line}
use Rattle.http_frames.proofs.RequestLines.{request_parts}

-- ---- one byte, and a run of bytes

after_none : (p : Place) → place_after p [] ≡ Some p
unfolding place_after
after_none p = refl

after_byte : (p q : Place) (b : ℕ) (bytes : List ℕ) → is_whole p ≡ false → next_place p b ≡ Some q
    → place_after p (b ∷ bytes) ≡ place_after q bytes
unfolding place_after
after_byte p q b bytes inside next =
    ap (λ (t : Bool). if t then Some p else option_and_then (λ n. place_after n bytes) (next_place p b)) inside
    ∙ ap (option_and_then (λ n. place_after n bytes)) next

after_wrong : (p : Place) (b : ℕ) (bytes : List ℕ) → is_whole p ≡ false → next_place p b ≡ None → place_after p (b ∷ bytes) ≡ None
unfolding place_after
after_wrong p b bytes inside none =
    ap (λ (t : Bool). if t then Some p else option_and_then (λ n. place_after n bytes) (next_place p b)) inside
    ∙ ap (option_and_then (λ n. place_after n bytes)) none

after_whole : (p : Place) (bytes : List ℕ) → is_whole p ≡ true → place_after p bytes ≡ Some p
unfolding place_after
after_whole p [] whole = refl
after_whole p (b ∷ bytes) whole =
    ap (λ (t : Bool). if t then Some p else option_and_then (λ n. place_after n bytes) (next_place p b)) whole

-- a run of bytes that a place passes over
over_run : (p : Place) (test : ℕ → Bool) (xs rest : List ℕ) → is_whole p ≡ false
    → ((b : ℕ) → test b ≡ true → next_place p b ≡ Some p) → AllPass test xs → place_after p (xs ++ rest) ≡ place_after p rest
over_run p test [] rest inside stays all = refl
over_run p test (b ∷ xs) rest inside stays all =
    let P : ℕ → Type 0 = λ v. test v ≡ true in
    after_byte p p b (xs ++ rest) inside (stays b (All-head P b xs all)) ∙ over_run p test xs rest inside stays (All-tail P b xs all)

-- a first byte, and a run of bytes
over_word : (p q : Place) (test : ℕ → Bool) (xs rest : List ℕ) → is_whole p ≡ false → is_whole q ≡ false
    → ((b : ℕ) → test b ≡ true → next_place p b ≡ Some q) → ((b : ℕ) → test b ≡ true → next_place q b ≡ Some q)
    → 0 < length xs → AllPass test xs → place_after p (xs ++ rest) ≡ place_after q rest
over_word p q test [] rest inside within first stays some all = absurd (omega (arith, some))
over_word p q test (b ∷ xs) rest inside within first stays some all =
    let P : ℕ → Type 0 = λ v. test v ≡ true in
    after_byte p q b (xs ++ rest) inside (first b (All-head P b xs all)) ∙ over_run q test xs rest within stays (All-tail P b xs all)

when_true : (t : Bool) (x y : Option Place) → t ≡ true → (if t then x else y) ≡ x
when_true t x y is = ap (λ (s : Bool). if s then x else y) is

-- ---- the parts of a head

front_is : (b : ℕ) → is_token_byte b ≡ true → next_place Front b ≡ Some Method
unfolding next_place
front_is b is = when_true (is_token_byte b) _ _ is

method_is : (b : ℕ) → is_token_byte b ≡ true → next_place Method b ≡ Some Method
unfolding next_place
method_is b is = when_true (is_token_byte b) _ _ is

place_of_method_end : next_place Method 32 ≡ Some TargetFront
unfolding next_place is_token_byte
place_of_method_end = refl

target_front_is : (b : ℕ) → is_uri_byte b ≡ true → next_place TargetFront b ≡ Some Target
unfolding next_place
target_front_is b is = when_true (is_uri_byte b) _ _ is

target_is : (b : ℕ) → is_uri_byte b ≡ true → next_place Target b ≡ Some Target
unfolding next_place
target_is b is = when_true (is_uri_byte b) _ _ is

place_of_target_end : next_place Target 32 ≡ Some (Version 0)
unfolding next_place
place_of_target_end = refl

over_version : (minor : ℕ) (rest : List ℕ) → minor ≤ 1 → place_after (Version 0) (print_version minor ++ rest) ≡ place_after VersionEnd rest
unfolding place_after next_place
over_version zero rest few = refl
over_version (suc zero) rest few = refl
over_version (suc (suc n)) rest few = absurd (omega (arith, few))

over_version_end : (e : LineEnd) (rest : List ℕ) → place_after VersionEnd (print_end e ++ rest) ≡ place_after (Line 64) rest
unfolding place_after next_place
over_version_end crlf rest = refl
over_version_end lf rest = refl

over_blank : (ends : List LineEnd) (rest : List ℕ) → place_after Front (print_blank ends ++ rest) ≡ place_after Front rest
unfolding place_after next_place is_token_byte
over_blank [] rest = refl
over_blank (crlf ∷ ends) rest = over_blank ends rest
over_blank (lf ∷ ends) rest = over_blank ends rest

named_is : (left : ℕ) → named (suc left) ≡ Some (Name left)
named_is left =
    let more : nat_lt 0 (suc left) ≡ true = grind arith in
    let fewer : suc left - 1 ≡ left = omega arith in
    when_true (nat_lt 0 (suc left)) _ _ more ∙ ap (λ (n : ℕ). Some (Name n)) fewer

line_is : (left b : ℕ) → is_token_byte b ≡ true → next_place (Line (suc left)) b ≡ Some (Name left)
unfolding next_place
line_is left b is = when_true (is_token_byte b) _ _ is ∙ named_is left

name_is : (left b : ℕ) → is_token_byte b ≡ true → next_place (Name left) b ≡ Some (Name left)
unfolding next_place
name_is left b is = when_true (is_token_byte b) _ _ is

place_of_name_end : (left : ℕ) → next_place (Name left) 58 ≡ Some (Value left)
unfolding next_place is_token_byte
place_of_name_end left = refl

value_is : (left b : ℕ) → is_value_byte b ≡ true → next_place (Value left) b ≡ Some (Value left)
unfolding next_place
value_is left b is = when_true (is_value_byte b) _ _ is

over_value_end : (left : ℕ) (e : LineEnd) (rest : List ℕ) → place_after (Value left) (print_end e ++ rest) ≡ place_after (Line left) rest
unfolding place_after next_place
over_value_end left crlf rest = refl
over_value_end left lf rest = refl

over_last : (left : ℕ) (e : LineEnd) (rest : List ℕ) → place_after (Line left) (print_end e ++ rest) ≡ place_after Whole rest
unfolding place_after next_place is_token_byte
over_last left crlf rest = refl
over_last left lf rest = refl

over_field : (left : ℕ) (f : Field) (rest : List ℕ) → IsField f → place_after (Line (suc left)) (print_field f ++ rest) ≡ place_after (Line left) rest
over_field left f rest valid =
    ap (place_after (Line (suc left))) (regroup f.name f.raw (print_end f.end) rest)
    ∙ over_word (Line (suc left)) (Name left) is_token_byte f.name _ refl refl (line_is left) (name_is left) valid.name.0 valid.name.1
    ∙ after_byte (Name left) (Value left) 58 _ refl (place_of_name_end left)
    ∙ over_run (Value left) is_value_byte f.raw _ refl (value_is left) valid.raw
    ∙ over_value_end left f.end rest
  where
    regroup : (a b c r : List ℕ) → (a ++ 58 ∷ b ++ c) ++ r ≡ a ++ (58 ∷ (b ++ (c ++ r)))
    regroup a b c r = simp (append_assoc, cons-append)

over_fields : (fs : List Field) (left : ℕ) (rest : List ℕ) → All IsField fs
    → place_after (Line (length fs + left)) (flat_map print_field fs ++ rest) ≡ place_after (Line left) rest
over_fields [] left rest all = ap (λ (n : ℕ). place_after (Line n) rest) (omega arith)
over_fields (f ∷ fs) left rest all =
    ap (λ (n : ℕ). place_after (Line n) (flat_map print_field (f ∷ fs) ++ rest)) (omega arith)
    ∙ ap (place_after (Line (suc (length fs + left)))) (append_assoc (print_field f) (flat_map print_field fs) rest)
    ∙ over_field (length fs + left) f (flat_map print_field fs ++ rest) (All-head IsField f fs all)
    ∙ over_fields fs left rest (All-tail IsField f fs all)

over_start : (h : RequestHead) (rest : List ℕ) → IsRequestHead h → place_after Front (start_line h ++ rest) ≡ place_after (Line 64) rest
over_start h rest valid =
    ap (place_after Front) (regroup h.method h.target (print_version h.minor) (print_end h.line_end) rest)
    ∙ over_word Front Method is_token_byte h.method _ refl refl front_is method_is valid.method.0 valid.method.1
    ∙ after_byte Method TargetFront 32 _ refl place_of_method_end
    ∙ over_word TargetFront Target is_uri_byte h.target _ refl refl target_front_is target_is valid.target.0 valid.target.1
    ∙ after_byte Target (Version 0) 32 _ refl place_of_target_end
    ∙ over_version h.minor _ valid.minor
    ∙ over_version_end h.line_end rest
  where
    regroup : (b c d e r : List ℕ)
        → (b ++ 32 ∷ (c ++ 32 ∷ (d ++ e))) ++ r ≡ b ++ (32 ∷ (c ++ (32 ∷ (d ++ (e ++ r)))))
    regroup b c d e r = simp append_assoc

over_head : (h : RequestHead) (rest : List ℕ) → IsRequestHead h → length h.fields ≤ 64
    → place_after Front (print_request h ++ rest) ≡ Some Whole
over_head h rest valid few =
    let left = 64 - length h.fields in
    let count : 64 ≡ length h.fields + left = omega (arith, few) in
    ap (place_after Front) (request_parts h rest)
    ∙ over_blank h.blank _
    ∙ over_start h _ valid
    ∙ ap (λ (n : ℕ). place_after (Line n) (flat_map print_field h.fields ++ (print_end h.last ++ rest))) count
    ∙ over_fields h.fields left (print_end h.last ++ rest) valid.fields
    ∙ over_last left h.last rest
    ∙ after_whole Whole rest refl

-- ---- what a walk says

step_append : (p q : Place) (b : ℕ) (xs ys : List ℕ) (o : Option Place) → is_whole p ≡ false → next_place p b ≡ o
    → ((r : Place) → place_after r xs ≡ Some q → place_after r (xs ++ ys) ≡ place_after q ys)
    → place_after p (b ∷ xs) ≡ Some q → place_after p (b ∷ (xs ++ ys)) ≡ place_after q ys
step_append p q b xs ys None inside next further is = absurd (let e = sym (after_wrong p b xs inside next) ∙ is in cc)
step_append p q b xs ys (Some r) inside next further is =
    after_byte p r b (xs ++ ys) inside next ∙ further r (sym (after_byte p r b xs inside next) ∙ is)

whole_or_not : (t : Bool) → (t ≡ true) ⊎ (t ≡ false)
whole_or_not true = inl refl
whole_or_not false = inr refl

pub after_append : (p q : Place) (xs ys : List ℕ) → place_after p xs ≡ Some q → place_after p (xs ++ ys) ≡ place_after q ys
after_append p q [] ys is =
    let e : Some p ≡ Some q = sym (after_none p) ∙ is in
    let same : p ≡ q = cc in
    ap (λ (r : Place). place_after r ys) same
after_append p q (b ∷ xs) ys is = elim (whole_or_not (is_whole p)) [
  | inl w ↦
      let e : Some p ≡ Some q = sym (after_whole p (b ∷ xs) w) ∙ is in
      let same : p ≡ q = cc in
      after_whole p (b ∷ (xs ++ ys)) w ∙ sym (after_whole p ys w) ∙ ap (λ (r : Place). place_after r ys) same
  | inr w ↦ step_append p q b xs ys (next_place p b) w refl (λ r. after_append r q xs ys) is
]

-- from a place, one byte on
pub after_push : (p q : Place) (xs : List ℕ) (b : ℕ) → place_after Front xs ≡ Some p → is_whole p ≡ false → next_place p b ≡ Some q
    → place_after Front (xs ++ b ∷ []) ≡ Some q
after_push p q xs b is inside next = after_append Front p xs (b ∷ []) is ∙ after_byte p q b [] inside next ∙ after_none q

pub walk_starts : place_after Front [] ≡ Some Front
walk_starts = after_none Front

head_walked : (bytes : List ℕ) (head : RequestHead) (rest : List ℕ) → BeginsRequest bytes head rest → place_after Front bytes ≡ Some Whole
head_walked bytes head rest h =
    ap (place_after Front) h.reads.1 ∙ over_head head rest h.reads.0 h.lines

-- inside a head there is none in front
pub inside_lacks : (bytes : List ℕ) (p : Place) → place_after Front bytes ≡ Some p → is_whole p ≡ false → LacksRequest bytes
inside_lacks bytes p is inside = λ head rest h.
    let e : Some p ≡ Some Whole = sym is ∙ head_walked bytes head rest h in
    let same : p ≡ Whole = cc in
    false≢true (sym inside ∙ ap is_whole same)

-- with a byte that cannot stand there, no continuation is a head
pub wrong_never : (bytes : List ℕ) (p : Place) (b : ℕ) → place_after Front bytes ≡ Some p → is_whole p ≡ false
    → next_place p b ≡ None → IsNoRequest (bytes ++ b ∷ [])
wrong_never bytes p b is inside none = λ more head rest h.
    let text : (bytes ++ b ∷ []) ++ more ≡ bytes ++ b ∷ more = append_assoc bytes (b ∷ []) more in
    let e : None ≡ Some Whole =
    sym (after_append Front p bytes (b ∷ more) is ∙ after_wrong p b more inside none) ∙ sym (ap (place_after Front) text)
    ∙ head_walked ((bytes ++ b ∷ []) ++ more) head rest h in
    absurd (cc)
