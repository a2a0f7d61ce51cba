-- What was read of a head, by the spans that cover its parts.
use Rattle.std.proofs.Common.{◌≡◌, ℕ, ◌<◌, ◌≤◌, List, [], ◌∷◌, ◌++◌, length, take, drop, map, refl, sym, ap, ◌∙◌, subst, arith, append_assoc}
use Rattle.std.proofs.lemmas.List.{take_all, length-map, length-take-le, take-append-drop, drop-append-le, length-take}
use Rattle.httparse.specs.Grammar.{Field, print_request, print_response}
use Rattle.httparse.specs.declared.spans.HeaderSpan.{HeaderSpan}
use Rattle.httparse.specs.declared.spans.RequestSpans.{RequestSpans}
use Rattle.httparse.specs.declared.spans.ResponseSpans.{ResponseSpans}
use Rattle.httparse.specs.Spans.{IsRequestOf, IsRequestWithin, IsResponseOf, IsResponseWithin, header_bytes, name_and_value, AreFieldsAt}
use Rattle.http_frames.specs.declared.message.Header.{Header}
use Rattle.http_frames.specs.declared.head.RequestHead.{RequestHead as RequestStart}
use Rattle.http_frames.specs.declared.head.AnswerHead.{AnswerHead as AnswerStart}
use Rattle.http_frames.specs.Heads.{header_of, header_at, IsRequestHeadOf, IsCopyOfRequest, IsOpenRequest, AwaitsRequest, IsAnswerHeadOf, IsCopyOfAnswer, IsOpenAnswer, AwaitsAnswer}

as_header : List ℕ × List ℕ → Header
as_header pair = record { name = pair.0; value = pair.1 }

map_map : {X Y Z : Type 0} (f : X → Y) (g : Y → Z) (xs : List X) → map g (map f xs) ≡ map (λ x. g (f x)) xs
map_map f g [] = refl
map_map f g (x ∷ xs) = ap (λ l. g (f x) ∷ l) (map_map f g xs)

fields_are : (buf : List ℕ) (spans : List HeaderSpan) (count : ℕ) (fields : List Field) → AreFieldsAt buf spans count fields
    → map (header_at buf) (take count spans) ≡ map header_of fields
unfolding as_header
fields_are buf spans count fields are =
    sym (map_map (header_bytes buf) as_header (take count spans)) ∙ ap (map as_header) are
    ∙ map_map name_and_value as_header fields

count_is : (buf : List ℕ) (spans : List HeaderSpan) (count : ℕ) (fields : List Field) → AreFieldsAt buf spans count fields
    → count ≤ length spans → length fields ≡ count
count_is buf spans count fields are within =
    sym (length-map fields name_and_value) ∙ sym (ap length are) ∙ length-map (take count spans) (header_bytes buf)
    ∙ length-take-le count spans within

-- a head at the front of the first bytes is one at the front of all
front_reads : (n len : ℕ) (bytes printed : List ℕ) → len ≤ length (take n bytes)
    → take n bytes ≡ printed ++ drop len (take n bytes) → bytes ≡ printed ++ drop len bytes
front_reads n len bytes printed within is =
    sym (take-append-drop n bytes)
    ∙ ap (λ (l : List ℕ). l ++ drop n bytes) is
    ∙ append_assoc printed (drop len (take n bytes)) (drop n bytes)
    ∙ ap (λ (l : List ℕ). printed ++ l)
    (sym (drop-append-le len (take n bytes) (drop n bytes) within) ∙ ap (drop len) (take-append-drop n bytes))

pub request_read : (bytes : List ℕ) (spans : List HeaderSpan) (found : RequestSpans) (start : RequestStart)
    → length spans ≡ 64 → IsRequestWithin (take 16384 bytes) spans found → IsRequestOf (take 16384 bytes) spans found
    → IsCopyOfRequest (take 16384 bytes) spans found start → IsRequestHeadOf bytes start
request_read bytes spans found start capacity within whole copy =
    let head = whole.0 in
    let at = whole.1 in
    let short : found.len ≤ 16384 = omega (arith, within.section.len_fits, length-take 16384 bytes) in
    let same : drop found.len bytes ≡ drop start.length bytes = ap (λ (n : ℕ). drop n bytes) (sym copy.length_is) in
    let is : bytes ≡ print_request head ++ drop start.length bytes =
    front_reads 16384 found.len bytes (print_request head) within.section.len_fits at.reads.1
    ∙ ap (λ (l : List ℕ). print_request head ++ l) same in
    record {
      head = head;
      begins = record {
        reads = (at.reads.0, is);
        lines = omega (arith, capacity, within.section.count_fits, count_is (take 16384 bytes) spans found.headers head.fields at.fields within.section.count_fits);
      };
      length_is = copy.length_is ∙ at.len;
      short = omega (arith, short, copy.length_is);
      method = copy.method ∙ at.method;
      target = copy.target ∙ at.path;
      headers = copy.headers ∙ fields_are (take 16384 bytes) spans found.headers head.fields at.fields;
    }

pub answer_read : (bytes : List ℕ) (spans : List HeaderSpan) (found : ResponseSpans) (start : AnswerStart)
    → length spans ≡ 64 → IsResponseWithin (take 16384 bytes) spans found → IsResponseOf (take 16384 bytes) spans found
    → IsCopyOfAnswer (take 16384 bytes) spans found start → IsAnswerHeadOf bytes start
answer_read bytes spans found start capacity within whole copy =
    let head = whole.0 in
    let at = whole.1 in
    let short : found.len ≤ 16384 = omega (arith, within.section.len_fits, length-take 16384 bytes) in
    let same : drop found.len bytes ≡ drop start.length bytes = ap (λ (n : ℕ). drop n bytes) (sym copy.length_is) in
    let is : bytes ≡ print_response head ++ drop start.length bytes =
    front_reads 16384 found.len bytes (print_response head) within.section.len_fits at.reads.1
    ∙ ap (λ (l : List ℕ). print_response head ++ l) same in
    record {
      head = head;
      begins = record {
        reads = (at.reads.0, is);
        lines = omega (arith, capacity, within.section.count_fits, count_is (take 16384 bytes) spans found.headers head.fields at.fields within.section.count_fits);
      };
      length_is = copy.length_is ∙ at.len;
      short = omega (arith, short, copy.length_is);
      code = copy.code ∙ at.code;
      headers = copy.headers ∙ fields_are (take 16384 bytes) spans found.headers head.fields at.fields;
    }

pub request_awaited : (bytes : List ℕ) → length bytes < 16384 → IsOpenRequest (take 16384 bytes) → AwaitsRequest bytes
request_awaited bytes short is = record {
  short = short;
  is_open = subst IsOpenRequest (take_all 16384 bytes (omega (arith, short))) is;
}

pub answer_awaited : (bytes : List ℕ) → length bytes < 16384 → IsOpenAnswer (take 16384 bytes) → AwaitsAnswer bytes
answer_awaited bytes short is = record {
  short = short;
  is_open = subst IsOpenAnswer (take_all 16384 bytes (omega (arith, short))) is;
}

pub request_read_at : (bytes front : List ℕ) (spans : List HeaderSpan) (found : RequestSpans) (start : RequestStart)
    → front ≡ take 16384 bytes → length spans ≡ 64 → IsRequestWithin front spans found → IsRequestOf front spans found
    → IsCopyOfRequest front spans found start → IsRequestHeadOf bytes start
request_read_at bytes front spans found start e =
    subst (λ (f : List ℕ). length spans ≡ 64 → IsRequestWithin f spans found → IsRequestOf f spans found
    → IsCopyOfRequest f spans found start → IsRequestHeadOf bytes start) (sym e) (request_read bytes spans found start)

pub answer_read_at : (bytes front : List ℕ) (spans : List HeaderSpan) (found : ResponseSpans) (start : AnswerStart)
    → front ≡ take 16384 bytes → length spans ≡ 64 → IsResponseWithin front spans found → IsResponseOf front spans found
    → IsCopyOfAnswer front spans found start → IsAnswerHeadOf bytes start
answer_read_at bytes front spans found start e =
    subst (λ (f : List ℕ). length spans ≡ 64 → IsResponseWithin f spans found → IsResponseOf f spans found
    → IsCopyOfAnswer f spans found start → IsAnswerHeadOf bytes start) (sym e) (answer_read bytes spans found start)
