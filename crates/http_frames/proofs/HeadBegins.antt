-- What the bytes of a request's head are after one more byte, and that they can go on to a head.
use Rattle.std.proofs.Common.{◌≡◌, ℕ, ◌+◌, ◌-◌, ◌<◌, ◌≤◌, Bool, true, false, ◌||◌, List, [], ◌∷◌, ◌++◌, take, drop, refl, sym, ap, ◌∙◌, subst, arith, append_assoc, append-nil, length-append, add-one, codes, inl, inr}
use Rattle.std.specs.Prelude.{◌⊎◌, Option, Some, None, if◌then◌else◌, nat_lt, ◌==◌, slice_index, IsUtf8}
use Rattle.std.specs.List.{flat_map}
use Rattle.std.proofs.Math.Seq.{take-suc}
use Rattle.std.proofs.lemmas.Bool.{eqb-true}
use Rattle.std.proofs.lemmas.List.{take-append-drop}
use Rattle.std.proofs.lemmas.List.Concat.{flat_map-append}
use Rattle.std.proofs.lemmas.List.Elements.{All-nil, All-push}
use Rattle.std.proofs.lemmas.Str.{IsUtf8-from_ascii}
use Rattle.std.proofs.lemmas.Str.Ascii.{IsAscii-cons, IsAscii-nil}
use Rattle.httparse.specs.Grammar.{LineEnd, crlf, lf, print_end, print_blank, print_version, Field, print_field, IsField, IsToken, AllPass, is_token_byte, is_uri_byte, is_value_byte, EndsInTarget}
use Rattle.httparse.proofs.GrammarLemmas.{cons-append}
use Rattle.http_frames.specs.declared.head_places.Place.{Place}
use Rattle.http_frames.specs.declared.head_places.Place.TheVariants.{Front, FrontReturn, Method, TargetFront, Target, Version, VersionEnd, StartReturn, Line, LastReturn, Name, Value, ValueReturn, Whole}
use Rattle.http_frames.specs.Heads.{BeginsRequest, CanBeRequest}
use Rattle.http_frames.specs.HeadPlaces.{next_place, next_at_end, next_in_version, when_byte, named, is_whole}
use Rattle.http_frames.specs.HeadWalks.{IsTargetBegun, IsVersionAfter, start_line, AreLines, AreBegun}
use Rattle.http_frames.proofs.RequestLines.{request_parts}

token_more : (xs : List ℕ) (b : ℕ) → IsToken xs → is_token_byte b ≡ true → IsToken (xs ++ b ∷ [])
token_more xs b token is =
    (omega (arith, token.0, length-append xs (b ∷ [])), All-push (λ v. is_token_byte v ≡ true) xs b token.1 is)

first_token : (b : ℕ) → is_token_byte b ≡ true → IsToken (b ∷ [])
first_token b is = (omega arith, All-push (λ v. is_token_byte v ≡ true) [] b (All-nil _) is)

uri_more : (xs : List ℕ) (b : ℕ) → AllPass is_uri_byte xs → is_uri_byte b ≡ true → AllPass is_uri_byte (xs ++ b ∷ [])
uri_more xs b all is = All-push (λ v. is_uri_byte v ≡ true) xs b all is

push : (xs ys : List ℕ) (b : ℕ) → xs ≡ ys → xs ++ b ∷ [] ≡ ys ++ b ∷ []
push xs ys b e = ap (λ (l : List ℕ). l ++ b ∷ []) e

-- ---- empty lines and the method

front_token : (bytes : List ℕ) (b : ℕ) → AreBegun Front bytes → is_token_byte b ≡ true → AreBegun Method (bytes ++ b ∷ [])
front_token bytes b begun is = (begun.0, b ∷ [], first_token b is, push bytes (print_blank begun.0) b begun.1)

front_return : (bytes : List ℕ) → AreBegun Front bytes → AreBegun FrontReturn (bytes ++ 13 ∷ [])
front_return bytes begun = (begun.0, push bytes (print_blank begun.0) 13 begun.1)

front_feed : (bytes : List ℕ) → AreBegun Front bytes → AreBegun Front (bytes ++ 10 ∷ [])
front_feed bytes begun =
    (begun.0 ++ lf ∷ [], push bytes (print_blank begun.0) 10 begun.1 ∙ sym (flat_map-append print_end begun.0 (lf ∷ [])))

return_feed : (bytes : List ℕ) → AreBegun FrontReturn bytes → AreBegun Front (bytes ++ 10 ∷ [])
return_feed bytes begun = (
  begun.0 ++ crlf ∷ [],
  push bytes (print_blank begun.0 ++ 13 ∷ []) 10 begun.1 ∙ append_assoc (print_blank begun.0) (13 ∷ []) (10 ∷ [])
      ∙ sym (flat_map-append print_end begun.0 (crlf ∷ [])),
)

method_token : (bytes : List ℕ) (b : ℕ) → AreBegun Method bytes → is_token_byte b ≡ true → AreBegun Method (bytes ++ b ∷ [])
method_token bytes b begun is = (
  begun.0,
  begun.1 ++ b ∷ [],
  token_more begun.1 b begun.2 is,
  push bytes (print_blank begun.0 ++ begun.1) b begun.3 ∙ append_assoc (print_blank begun.0) begun.1 (b ∷ []),
)

method_space : (bytes : List ℕ) → AreBegun Method bytes → AreBegun TargetFront (bytes ++ 32 ∷ [])
method_space bytes begun = record {
  blank = begun.0;
  method = begun.1;
  token = begun.2;
  uri = All-nil _;
  is = push bytes (print_blank begun.0 ++ begun.1) 32 begun.3 ∙ append_assoc (print_blank begun.0) begun.1 (32 ∷ []);
}

-- ---- the target

target_more : (bytes target : List ℕ) (b : ℕ) → IsTargetBegun bytes target → is_uri_byte b ≡ true
    → IsTargetBegun (bytes ++ b ∷ []) (target ++ b ∷ [])
target_more bytes target b begun is = record {
  blank = begun.blank;
  method = begun.method;
  token = begun.token;
  uri = uri_more target b begun.uri is;
  is = push bytes _ b begun.is ∙ regroup (print_blank begun.blank) begun.method target;
}
  where
    regroup : (x m t : List ℕ) → (x ++ (m ++ 32 ∷ t)) ++ b ∷ [] ≡ x ++ (m ++ 32 ∷ (t ++ b ∷ []))
    regroup x m t = simp (append_assoc, cons-append)

target_front_uri : (bytes : List ℕ) (b : ℕ) → AreBegun TargetFront bytes → is_uri_byte b ≡ true → AreBegun Target (bytes ++ b ∷ [])
target_front_uri bytes b begun is = (b ∷ [], omega arith, target_more bytes [] b begun is)

target_uri : (bytes : List ℕ) (b : ℕ) → AreBegun Target bytes → is_uri_byte b ≡ true → AreBegun Target (bytes ++ b ∷ [])
target_uri bytes b begun is =
    (begun.0 ++ b ∷ [], omega (arith, length-append begun.0 (b ∷ [])), target_more bytes begun.0 b begun.2 is)

target_space : (bytes : List ℕ) (begun : AreBegun Target bytes) → IsUtf8 begun.0 → AreBegun (Version 0) (bytes ++ 32 ∷ [])
target_space bytes begun text =
    (omega arith, record { front = bytes; target = begun.0; begun = begun.2; some = begun.1; target_text = text; is = refl })

-- ---- the version

after_more : (bytes text more : List ℕ) → IsVersionAfter bytes text → IsVersionAfter (bytes ++ more) (text ++ more)
after_more bytes text more after = record {
  front = after.front;
  target = after.target;
  begun = after.begun;
  some = after.some;
  target_text = after.target_text;
  is = ap (λ (l : List ℕ). l ++ more) after.is ∙ append_assoc after.front (32 ∷ text) more;
}

version_byte : (n : ℕ) (bytes : List ℕ) → n < 7 → AreBegun (Version n) bytes
    → AreBegun (Version (n + 1)) (bytes ++ slice_index (codes "HTTP/1.") n ∷ [])
version_byte n bytes few begun =
    let one_more : take n (codes "HTTP/1.") ++ slice_index (codes "HTTP/1.") n ∷ [] ≡ take (n + 1) (codes "HTTP/1.") =
    sym (rw add-one (take-suc (codes "HTTP/1.") n 0 few)) in (
      omega (arith, few),
      subst (IsVersionAfter (bytes ++ slice_index (codes "HTTP/1.") n ∷ [])) one_more (after_more bytes _ _ begun.1),
    )

version_minor : (bytes : List ℕ) (minor : ℕ) → minor ≤ 1 → AreBegun (Version 7) bytes → AreBegun VersionEnd (bytes ++ (48 + minor) ∷ [])
version_minor bytes minor few begun = (minor, few, after_more bytes (codes "HTTP/1.") ((48 + minor) ∷ []) begun.1)

version_return : (bytes : List ℕ) → AreBegun VersionEnd bytes → AreBegun StartReturn (bytes ++ 13 ∷ [])
version_return bytes begun = (begun.0, begun.1, after_more bytes (print_version begun.0) (13 ∷ []) begun.2)

-- a whole start line
started : (bytes : List ℕ) (minor : ℕ) (line_end : LineEnd) → minor ≤ 1
    → IsVersionAfter bytes (print_version minor ++ print_end line_end) → AreLines 64 bytes
started bytes minor line_end few after = record {
  head = record {
    blank = after.begun.blank;
    method = after.begun.method;
    target = after.target;
    minor = minor;
    line_end = line_end;
    fields = [];
    last = lf;
  };
  valid = record {
    method = after.begun.token;
    target = (after.some, after.begun.uri);
    target_text = after.target_text;
    minor = few;
    fields = All-nil IsField;
  };
  count = refl;
  is = after.is ∙ ap (λ (l : List ℕ). l ++ 32 ∷ (print_version minor ++ print_end line_end)) after.begun.is
      ∙ regroup (print_blank after.begun.blank) after.begun.method after.target (print_version minor ++ print_end line_end);
}
  where
    regroup : (x m t v : List ℕ) → (x ++ (m ++ 32 ∷ t)) ++ 32 ∷ v ≡ x ++ ((m ++ 32 ∷ (t ++ 32 ∷ v)) ++ [])
    regroup x m t v = simp (append_assoc, cons-append, append-nil)

feed_after_version : (bytes : List ℕ) → AreBegun VersionEnd bytes → AreBegun (Line 64) (bytes ++ 10 ∷ [])
feed_after_version bytes begun = started (bytes ++ 10 ∷ []) begun.0 lf begun.1 (after_more bytes (print_version begun.0) (10 ∷ []) begun.2)

start_feed : (bytes : List ℕ) → AreBegun StartReturn bytes → AreBegun (Line 64) (bytes ++ 10 ∷ [])
start_feed bytes begun =
    started (bytes ++ 10 ∷ []) begun.0 crlf begun.1
    (subst (IsVersionAfter (bytes ++ 10 ∷ [])) (append_assoc (print_version begun.0) (13 ∷ []) (10 ∷ []))
    (after_more bytes (print_version begun.0 ++ 13 ∷ []) (10 ∷ []) begun.2))

-- ---- header lines

line_token : (left : ℕ) (bytes : List ℕ) (b : ℕ) → 0 < left → AreBegun (Line left) bytes → is_token_byte b ≡ true
    → AreBegun (Name (left - 1)) (bytes ++ b ∷ [])
line_token left bytes b some lines is =
    let same : left ≡ (left - 1) + 1 = omega (arith, some) in
    (bytes, b ∷ [], subst (λ (n : ℕ). AreLines n bytes) same lines, first_token b is, refl)

name_token : (left : ℕ) (bytes : List ℕ) (b : ℕ) → AreBegun (Name left) bytes → is_token_byte b ≡ true
    → AreBegun (Name left) (bytes ++ b ∷ [])
name_token left bytes b begun is = (
  begun.0,
  begun.1 ++ b ∷ [],
  begun.2,
  token_more begun.1 b begun.3 is,
  push bytes (begun.0 ++ begun.1) b begun.4 ∙ append_assoc begun.0 begun.1 (b ∷ []),
)

name_colon : (left : ℕ) (bytes : List ℕ) → AreBegun (Name left) bytes → AreBegun (Value left) (bytes ++ 58 ∷ [])
name_colon left bytes begun = (
  begun.0,
  begun.1,
  [],
  begun.2,
  begun.3,
  All-nil _,
  push bytes (begun.0 ++ begun.1) 58 begun.4 ∙ append_assoc begun.0 begun.1 (58 ∷ []),
)

value_regroup : (l n r : List ℕ) (b : ℕ) → (l ++ (n ++ 58 ∷ r)) ++ b ∷ [] ≡ l ++ (n ++ 58 ∷ (r ++ b ∷ []))
value_regroup l n r b = simp (append_assoc, cons-append)

value_byte : (left : ℕ) (bytes : List ℕ) (b : ℕ) → AreBegun (Value left) bytes → is_value_byte b ≡ true
    → AreBegun (Value left) (bytes ++ b ∷ [])
value_byte left bytes b begun is = (
  begun.0,
  begun.1,
  begun.2 ++ b ∷ [],
  begun.3,
  begun.4,
  All-push (λ v. is_value_byte v ≡ true) begun.2 b begun.5 is,
  push bytes _ b begun.6 ∙ value_regroup begun.0 begun.1 begun.2 b,
)

value_return : (left : ℕ) (bytes : List ℕ) → AreBegun (Value left) bytes → AreBegun (ValueReturn left) (bytes ++ 13 ∷ [])
value_return left bytes begun =
    (begun.0, begun.1, begun.2, begun.3, begun.4, begun.5, push bytes _ 13 begun.6 ∙ value_regroup begun.0 begun.1 begun.2 13)

-- one header line more
lined : (left : ℕ) (lines name raw bytes : List ℕ) (e : LineEnd) → AreLines (left + 1) lines → IsToken name
    → AllPass is_value_byte raw → bytes ≡ lines ++ (name ++ 58 ∷ (raw ++ print_end e)) → AreLines left bytes
lined left lines name raw bytes e before token all is =
    let h = before.head in
    let f : Field = record { name = name; raw = raw; end = e } in
    let one : IsField f = record { name = token; raw = all } in
    record {
      head = record h { fields = h.fields ++ f ∷ [] };
      valid = record {
        method = before.valid.method;
        target = before.valid.target;
        target_text = before.valid.target_text;
        minor = before.valid.minor;
        fields = All-push IsField h.fields f before.valid.fields one;
      };
      count = omega (arith, before.count, length-append h.fields (f ∷ []));
      is = is ∙ ap (λ (l : List ℕ). l ++ (name ++ 58 ∷ (raw ++ print_end e))) before.is
          ∙ regroup (print_blank h.blank) (start_line h) (flat_map print_field h.fields) name raw (print_end e)
          ∙ ap (λ (l : List ℕ). print_blank h.blank ++ (start_line h ++ l)) (sym (flat_map-append print_field h.fields (f ∷ [])));
    }
  where
    regroup : (x s l n r z : List ℕ)
        → (x ++ (s ++ l)) ++ (n ++ 58 ∷ (r ++ z)) ≡ x ++ (s ++ (l ++ (((n ++ 58 ∷ r) ++ z) ++ [])))
    regroup x s l n r z = simp (append_assoc, cons-append, append-nil)

value_feed : (left : ℕ) (bytes : List ℕ) → AreBegun (Value left) bytes → AreBegun (Line left) (bytes ++ 10 ∷ [])
value_feed left bytes begun =
    lined left begun.0 begun.1 begun.2 (bytes ++ 10 ∷ []) lf begun.3 begun.4 begun.5
    (push bytes _ 10 begun.6 ∙ value_regroup begun.0 begun.1 begun.2 10)

value_return_feed : (left : ℕ) (bytes : List ℕ) → AreBegun (ValueReturn left) bytes → AreBegun (Line left) (bytes ++ 10 ∷ [])
value_return_feed left bytes begun =
    lined left begun.0 begun.1 begun.2 (bytes ++ 10 ∷ []) crlf begun.3 begun.4 begun.5
    (push bytes _ 10 begun.6 ∙ regroup begun.0 begun.1 begun.2)
  where
    regroup : (l n r : List ℕ) → (l ++ (n ++ 58 ∷ (r ++ 13 ∷ []))) ++ 10 ∷ [] ≡ l ++ (n ++ 58 ∷ (r ++ 13 ∷ 10 ∷ []))
    regroup l n r = simp (append_assoc, cons-append)

line_return : (left : ℕ) (bytes : List ℕ) → AreBegun (Line left) bytes → AreBegun LastReturn (bytes ++ 13 ∷ [])
line_return left bytes lines = (left, bytes, lines, refl)

-- ---- one byte on

split : (t : Bool) (x y : Option Place) (q : Place) → (if t then x else y) ≡ Some q
    → ((t ≡ true) × (x ≡ Some q)) ⊎ ((t ≡ false) × (y ≡ Some q))
split true x y q e = inl (refl, e)
split false x y q e = inr (refl, e)

some_same : (p q : Place) → (let l : Option Place = Some p in l ≡ Some q) → p ≡ q
some_same p q e = cc

no_place : (q : Place) → (let l : Option Place = None in l ≡ Some q) → ⊥
no_place q e = absurd (cc)

abbrev After : List ℕ → ℕ → Place → Type 0
After bytes b q = AreBegun q (bytes ++ b ∷ [])

-- where one byte alone leads on
by_byte : (bytes : List ℕ) (wanted b : ℕ) (p q : Place) → AreBegun p (bytes ++ wanted ∷ []) → when_byte wanted b p ≡ Some q → After bytes b q
by_byte bytes wanted b p q begun e = elim (split (b == wanted) (Some p) None q e) [
  | inl w ↦
      let same : wanted ≡ b = sym (eqb-true b wanted w.0) in
      subst (After bytes b) (some_same p q w.1) (subst (λ (c : ℕ). After bytes c p) same begun)
  | inr w ↦ absurd (no_place q w.1)
]

-- by CR or by LF
by_end : (bytes : List ℕ) (b : ℕ) (returned ended q : Place) → AreBegun returned (bytes ++ 13 ∷ []) → AreBegun ended (bytes ++ 10 ∷ [])
    → next_at_end returned ended b ≡ Some q → After bytes b q
by_end bytes b returned ended q by_return by_feed e = elim (split (b == 13) (Some returned) (when_byte 10 b ended) q e) [
  | inl w ↦
      let same : 13 ≡ b = sym (eqb-true b 13 w.0) in
      subst (After bytes b) (some_same returned q w.1) (subst (λ (c : ℕ). After bytes c returned) same by_return)
  | inr w ↦ by_byte bytes 10 b ended q by_feed w.1
]

-- where a test leads on, or else something other
by_test : (bytes : List ℕ) (b : ℕ) (t : Bool) (p q : Place) (other : Option Place) → (t ≡ true → After bytes b p)
    → (other ≡ Some q → After bytes b q) → (if t then Some p else other) ≡ Some q → After bytes b q
by_test bytes b t p q other passes fails e = elim (split t (Some p) other q e) [
  | inl w ↦ subst (After bytes b) (some_same p q w.1) (passes w.0)
  | inr w ↦ fails w.1
]

either_digit : (b : ℕ) → (b == 48 || b == 49) ≡ true → (minor : ℕ) × (minor ≤ 1) × (b ≡ 48 + minor)
either_digit b e = by (b == 48) refl
  where
    by : (t : Bool) → (b == 48) ≡ t → (minor : ℕ) × (minor ≤ 1) × (b ≡ 48 + minor)
    by true is = (0, omega arith, eqb-true b 48 is)
    by false is = (1, omega arith, eqb-true b 49 (sym (ap (λ (s : Bool). s || b == 49) is) ∙ e))

in_version : (n : ℕ) (bytes : List ℕ) (b : ℕ) (q : Place) → AreBegun (Version n) bytes → next_in_version n b ≡ Some q → After bytes b q
in_version n bytes b q begun e = elim (split (nat_lt n 7) _ _ q e) [
  | inl w ↦
      let few : n < 7 = grind (arith, w.0) in
      by_byte bytes (slice_index (codes "HTTP/1.") n) b (Version (n + 1)) q (version_byte n bytes few begun) w.1
  | inr w ↦
      let all : n ≡ 7 = grind (arith, w.0, begun.0) in
      by_test bytes b (b == 48 || b == 49) VersionEnd q None
      (λ is.
      let d = either_digit b is in
      subst (λ (c : ℕ). After bytes c VersionEnd) (sym d.2)
      (version_minor bytes d.0 d.1 (subst (λ (k : ℕ). AreBegun (Version k) bytes) all begun)))
      (λ none. absurd (no_place q none)) w.1
]

line_goes_on : (left : ℕ) (bytes : List ℕ) (b : ℕ) (q : Place) → AreBegun (Line left) bytes
    → (if is_token_byte b then named left else next_at_end LastReturn Whole b) ≡ Some q → After bytes b q
line_goes_on left bytes b q begun e = elim (split (is_token_byte b) (named left) (next_at_end LastReturn Whole b) q e) [
  | inl w ↦ elim (split (nat_lt 0 left) _ _ q w.1) [
    | inl v ↦
        let some : 0 < left = grind (arith, v.0) in
        subst (After bytes b) (some_same (Name (left - 1)) q v.1) (line_token left bytes b some begun w.0)
    | inr v ↦ absurd (no_place q v.1)
  ]
  | inr w ↦ by_end bytes b LastReturn Whole q (line_return left bytes begun) tt w.1
]

-- the bytes after one more are so at its place, where a target that has ended is text
pub begun_on : (p q : Place) (bytes : List ℕ) (b : ℕ) → AreBegun p bytes → next_place p b ≡ Some q
    → (Version 0 ≡ q → (begun : AreBegun Target bytes) → b ≡ 32 → IsUtf8 begun.0) → AreBegun q (bytes ++ b ∷ [])
unfolding next_place
begun_on Front q bytes b begun e text =
    by_test bytes b (is_token_byte b) Method q (next_at_end FrontReturn Front b) (front_token bytes b begun)
    (by_end bytes b FrontReturn Front q (front_return bytes begun) (front_feed bytes begun)) e
begun_on FrontReturn q bytes b begun e text = by_byte bytes 10 b Front q (return_feed bytes begun) e
begun_on Method q bytes b begun e text =
    by_test bytes b (is_token_byte b) Method q (when_byte 32 b TargetFront) (method_token bytes b begun)
    (by_byte bytes 32 b TargetFront q (method_space bytes begun)) e
begun_on TargetFront q bytes b begun e text =
    by_test bytes b (is_uri_byte b) Target q None (target_front_uri bytes b begun) (λ none. absurd (no_place q none)) e
begun_on Target q bytes b begun e text =
    by_test bytes b (is_uri_byte b) Target q (when_byte 32 b (Version 0)) (target_uri bytes b begun)
    (λ f. elim (split (b == 32) (Some (Version 0)) None q f) [
      | inl w ↦
          let space : b ≡ 32 = eqb-true b 32 w.0 in
          subst (After bytes b) (some_same (Version 0) q w.1)
          (subst (λ (c : ℕ). After bytes c (Version 0)) (sym space) (target_space bytes begun (text (some_same (Version 0) q w.1) begun space)))
      | inr w ↦ absurd (no_place q w.1)
    ]) e
begun_on (Version n) q bytes b begun e text = in_version n bytes b q begun e
begun_on VersionEnd q bytes b begun e text =
    by_end bytes b StartReturn (Line 64) q (version_return bytes begun) (feed_after_version bytes begun) e
begun_on StartReturn q bytes b begun e text = by_byte bytes 10 b (Line 64) q (start_feed bytes begun) e
begun_on (Line left) q bytes b begun e text = line_goes_on left bytes b q begun e
begun_on LastReturn q bytes b begun e text = by_byte bytes 10 b Whole q tt e
begun_on (Name left) q bytes b begun e text =
    by_test bytes b (is_token_byte b) (Name left) q (when_byte 58 b (Value left)) (name_token left bytes b begun)
    (by_byte bytes 58 b (Value left) q (name_colon left bytes begun)) e
begun_on (Value left) q bytes b begun e text =
    by_test bytes b (is_value_byte b) (Value left) q (next_at_end (ValueReturn left) (Line left) b) (value_byte left bytes b begun)
    (by_end bytes b (ValueReturn left) (Line left) q (value_return left bytes begun) (value_feed left bytes begun)) e
begun_on (ValueReturn left) q bytes b begun e text = by_byte bytes 10 b (Line left) q (value_return_feed left bytes begun) e
begun_on Whole q bytes b begun e text = absurd (no_place q e)

-- ---- some continuation is a head

-- what more bytes make a head, their front can go on to
goes_back : (bytes more : List ℕ) → CanBeRequest (bytes ++ more) → CanBeRequest bytes
goes_back bytes more can =
    (more ++ can.0, can.1, subst (λ (l : List ℕ). BeginsRequest l can.1 []) (append_assoc bytes more can.0) can.2)

-- an empty line ends the head
ended : (left : ℕ) (lines : List ℕ) (e : LineEnd) (l : AreLines left lines)
    → BeginsRequest (lines ++ print_end e) (record l.head { last = e }) []
ended left lines e l =
    let h = l.head in
    record {
      reads = (
        record {
          method = l.valid.method;
          target = l.valid.target;
          target_text = l.valid.target_text;
          minor = l.valid.minor;
          fields = l.valid.fields;
        },
        ap (λ (x : List ℕ). x ++ print_end e) l.is
            ∙ regroup (print_blank h.blank) (start_line h) (flat_map print_field h.fields) (print_end e)
            ∙ sym (request_parts (record h { last = e }) []),
      );
      lines = omega (arith, l.count);
    }
  where
    regroup : (x s f z : List ℕ) → (x ++ (s ++ f)) ++ z ≡ x ++ (s ++ (f ++ (z ++ [])))
    regroup x s f z = simp (append_assoc, append-nil)

line_can : (left : ℕ) (bytes : List ℕ) → AreBegun (Line left) bytes → CanBeRequest bytes
line_can left bytes lines = (10 ∷ [], record lines.head { last = lf }, ended left bytes lf lines)

version_end_can : (bytes : List ℕ) → AreBegun VersionEnd bytes → CanBeRequest bytes
version_end_can bytes begun = goes_back bytes (10 ∷ []) (line_can 64 (bytes ++ 10 ∷ []) (feed_after_version bytes begun))

version_can : (n : ℕ) (bytes : List ℕ) → AreBegun (Version n) bytes → CanBeRequest bytes
version_can n bytes begun =
    let rest = drop n (codes "HTTP/1.") in
    let whole = subst (IsVersionAfter (bytes ++ rest)) (take-append-drop n (codes "HTTP/1.")) (after_more bytes _ rest begun.1) in
    goes_back bytes rest (goes_back (bytes ++ rest) (48 ∷ [])
    (version_end_can ((bytes ++ rest) ++ 48 ∷ []) (version_minor (bytes ++ rest) 0 (omega arith) (omega arith, whole))))

method_can : (bytes : List ℕ) → AreBegun Method bytes → CanBeRequest bytes
unfolding target_front_uri
method_can bytes begun =
    let front = method_space bytes begun in
    let target = target_front_uri (bytes ++ 32 ∷ []) 47 front refl in
    let version = target_space ((bytes ++ 32 ∷ []) ++ 47 ∷ []) target (IsUtf8-from_ascii _ (IsAscii-cons 47 [] (omega arith) IsAscii-nil)) in
    goes_back bytes (32 ∷ []) (goes_back (bytes ++ 32 ∷ []) (47 ∷ []) (goes_back ((bytes ++ 32 ∷ []) ++ 47 ∷ []) (32 ∷ [])
    (version_can 0 (((bytes ++ 32 ∷ []) ++ 47 ∷ []) ++ 32 ∷ []) version)))

letter_is_token : is_token_byte 71 ≡ true
unfolding is_token_byte
letter_is_token = refl

front_can : (bytes : List ℕ) → AreBegun Front bytes → CanBeRequest bytes
front_can bytes begun = goes_back bytes (71 ∷ []) (method_can (bytes ++ 71 ∷ []) (front_token bytes 71 begun letter_is_token))

value_can : (left : ℕ) (bytes : List ℕ) → AreBegun (Value left) bytes → CanBeRequest bytes
value_can left bytes begun = goes_back bytes (10 ∷ []) (line_can left (bytes ++ 10 ∷ []) (value_feed left bytes begun))

in_target : (bytes target : List ℕ) → IsTargetBegun bytes target → EndsInTarget bytes
in_target bytes target begun = (
  begun.blank,
  begun.method,
  target,
  begun.token,
  begun.uri,
  begun.is ∙ sym (append_assoc (print_blank begun.blank) begun.method (32 ∷ target)),
)

-- the bytes at a place inside a head can go on to a head, or end inside a target
pub begun_can : (p : Place) (bytes : List ℕ) → AreBegun p bytes → is_whole p ≡ false → CanBeRequest bytes ⊎ EndsInTarget bytes
begun_can Front bytes begun inside = inl (front_can bytes begun)
begun_can FrontReturn bytes begun inside = inl (goes_back bytes (10 ∷ []) (front_can (bytes ++ 10 ∷ []) (return_feed bytes begun)))
begun_can Method bytes begun inside = inl (method_can bytes begun)
begun_can TargetFront bytes begun inside = inr (in_target bytes [] begun)
begun_can Target bytes begun inside = inr (in_target bytes begun.0 begun.2)
begun_can (Version n) bytes begun inside = inl (version_can n bytes begun)
begun_can VersionEnd bytes begun inside = inl (version_end_can bytes begun)
begun_can StartReturn bytes begun inside = inl (goes_back bytes (10 ∷ []) (line_can 64 (bytes ++ 10 ∷ []) (start_feed bytes begun)))
begun_can (Line left) bytes begun inside = inl (line_can left bytes begun)
begun_can LastReturn bytes begun inside =
    inl (
      10 ∷ [],
      record begun.2.head { last = crlf },
      subst (λ (l : List ℕ). BeginsRequest l (record begun.2.head { last = crlf }) [])
          (sym (push bytes (begun.1 ++ 13 ∷ []) 10 begun.3 ∙ append_assoc begun.1 (13 ∷ []) (10 ∷ []))) (ended begun.0 begun.1 crlf begun.2),
    )
begun_can (Name left) bytes begun inside = inl (goes_back bytes (58 ∷ []) (value_can left (bytes ++ 58 ∷ []) (name_colon left bytes begun)))
begun_can (Value left) bytes begun inside = inl (value_can left bytes begun)
begun_can (ValueReturn left) bytes begun inside =
    inl (goes_back bytes (10 ∷ []) (line_can left (bytes ++ 10 ∷ []) (value_return_feed left bytes begun)))
begun_can Whole bytes begun inside = absurd (let e = inside in cc)
