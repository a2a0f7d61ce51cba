-- An answer that is written is a head and a body that read back.
use Rattle.std.proofs.Common.{◌≡◌, ℕ, zero, suc, ◌<◌, ◌≤◌, ◌^◌, List, [], ◌∷◌, ◌++◌, length, map, refl, sym, ap, ap₂, ◌∙◌, subst, arith, append_assoc, append-nil, length-append, Bool, true, false, ◌&&◌, ◌||◌, codes, inl, inr, Vec, Global}
use Rattle.std.specs.Prelude.{◌⊎◌, Some, Result, Ok, Err, All, IfOk, if◌then◌else◌, ◌==◌}
use Rattle.std.specs.List.{list_all, flat_map}
use Rattle.std.specs.Fmt.{decimal}
use Rattle.std.specs.Char.{is_ascii_digit}
use Rattle.std.specs.Str.Parse.{AllDigits}
use Rattle.std.proofs.lemmas.Fmt.{digits_value-decimal, digits_decimal, length-decimal-le}
use Rattle.std.proofs.lemmas.Int.Digits.{digits_value-lt}
use Rattle.std.proofs.Math.Nat.{pow-le-pow_right}
use Rattle.std.proofs.Common.{lit<}
use Rattle.std.proofs.lemmas.Bool.Decides.{Decides-below_and}
use Rattle.std.proofs.lemmas.List.Sums.{AllPass-from_list_all}
use Rattle.std.proofs.lemmas.List.Elements.{All-cons, All-append}
use Rattle.std.proofs.lemmas.List.Concat.{flat_map-append}
use Rattle.std.proofs.lemmas.List.{length-map}
use Rattle.mof_values.specs.declared.memory.Memory.{Memory as MemoryUnit}
use Rattle.httparse.specs.Grammar.{crlf, ResponseHead, print_response, print_field, IsToken, is_token_byte, is_value_byte, AllPass}
use Rattle.httparse.proofs.GrammarLemmas.{cons-append, print_response-append}
use Rattle.http_frames.specs.declared.message.Header.{Header}
use Rattle.http_frames.specs.declared.message.Reply.{Reply}
use Rattle.http_frames.specs.declared.framing.Framing.{Framing}
use Rattle.http_frames.specs.declared.framing.Framing.TheVariants.{Sized, ToEnd}
use Rattle.http_frames.specs.declared.frame_error.FrameError.{FrameError}
use Rattle.http_frames.specs.Framing.{has_no_body, stated_framing, answer_framing}
use Rattle.http_frames.specs.Writing.{header_text, header_line, length_line, phrase_of, answer_length, answer_text}
use Rattle.http_frames.specs.Answering.{is_interim}
use Rattle.http_frames.specs.Sending.{IsPlainHeader, close_header, length_header, reply_length_headers, reply_headers, sent_reply, IsSendableReply, ReplyReadsBack}
use Rattle.http_frames.specs.Frames.{IsAnswerFrame, no_interim}
use Rattle.http_frames.specs.Limits.{answer_limits}
use Rattle.http_frames.proofs.SentLines.{field_of, fields_print, fields_back, fields_valid, own, digits_pass, IsSilent, sound_sent, stated_sent, token_by, added_plain, close_is_plain, added_text}

-- ---- the status line

-- the phrases of these codes are texts of a status line
abbrev phrases_below : ℕ → Bool
phrases_below zero = true
phrases_below (suc n) = list_all is_value_byte (phrase_of n) && phrases_below n

phrase_plain : (code : ℕ) → code < 600 → AllPass is_value_byte (phrase_of code)
unfolding phrase_of
phrase_plain code below =
    let test = λ (k : ℕ). list_all is_value_byte (phrase_of k) in
    AllPass-from_list_all is_value_byte (phrase_of code)
    ((Decides-below_and test (λ k. test k ≡ true) phrases_below (λ k. (λ x. x, λ x. x)) refl (λ _. refl) 600).0 refl code below)

three_digits : (code : ℕ) → 100 ≤ code → code < 600 → (length (decimal code) ≡ 3) × AllPass is_ascii_digit (decimal code)
three_digits code low high =
    let word : code < 2 ^ 64 = omega (arith, high) in
    let digits : AllDigits 10 (decimal code) = digits_decimal own code word in
    let most = length-decimal-le 3 code (omega arith) (omega (arith, high)) word in
    let value = digits_value-lt 10 (decimal code) digits in
    let more : 2 < length (decimal code) = elim (long_or_short (length (decimal code))) [
      | inl long ↦ long
      | inr short ↦ absurd (
          let power : 10 ^ length (decimal code) ≤ 10 ^ 2 = pow-le-pow_right (lit< tt) short in
          omega (arith, low, value, power, digits_value-decimal own code word))
    ] in
    (omega (arith, most, more), AllPass-from_list_all is_ascii_digit (decimal code) (digits_pass (decimal code) digits))
  where
    long_or_short : (n : ℕ) → (2 < n) ⊎ (n ≤ 2)
    long_or_short n = grind arith

-- ---- the framing that the lines say

abbrev unless_204 : Bool → ℕ → List Header
unless_204 bare n = if bare then [] else length_header n ∷ []

abbrev by_code : Bool → Result Framing FrameError → Result Framing FrameError
by_code bodiless stated = if bodiless then Ok (Sized 0) else stated

-- the body is as long as the lines say
answer_is_framed : (code : ℕ) (lines : List Header) (bare : Bool) (n : ℕ) → (code == 204) ≡ bare → n ≤ answer_limits.content → (has_no_body code ≡ true → n ≡ 0)
    → IsSilent lines → answer_framing code (lines ++ unless_204 bare n) ≡ Ok (Sized n)
unfolding answer_framing
answer_is_framed code lines true n is few none silent =
    let small : n < 10 ^ 10 = omega (arith, few) in
    let bodiless : has_no_body code ≡ true = ap (λ (b : Bool). b || code == 304) is in
    sound_sent lines false n _ silent small
    ∙ ap (λ (b : Bool). by_code b (stated_framing answer_limits.content (Ok ToEnd) (lines ++ []))) bodiless
    ∙ ap (λ (m : ℕ). Ok (Sized m)) (sym (none bodiless))
answer_is_framed code lines false n is few none silent =
    let small : n < 10 ^ 10 = omega (arith, few) in
    sound_sent lines true n _ silent small
    ∙ ap (by_code (has_no_body code)) (stated_sent answer_limits.content (Ok ToEnd) lines true n silent few small)
    ∙ last (has_no_body code) none
  where
    last : (b : Bool) → (b ≡ true → n ≡ 0) → by_code b (Ok (Sized n)) ≡ Ok (Sized n)
    last true none = ap (λ (m : ℕ). Ok (Sized m)) (sym (none refl))
    last false none = refl

-- ---- plain lines

abbrev version_header : Header
version_header = record { name = codes "ProtocolVersion"; value = codes "2.0" }

version_token : IsToken (codes "ProtocolVersion")
unfolding is_token_byte
version_token = token_by (codes "ProtocolVersion") (omega arith) refl

version_is_plain : IsPlainHeader version_header
version_is_plain = record {
  name = version_token;
  value = record { bytes = AllPass-from_list_all is_value_byte (codes "2.0") refl; front = refl; back = refl };
}

unless_plain : (bare : Bool) (n : ℕ) → n < 10 ^ 10 → All IsPlainHeader (unless_204 bare n)
unless_plain true n few = added_plain false n few
unless_plain false n few = added_plain true n few

sent_answer_plain : (headers : List Header) (bare : Bool) (n : ℕ) → All IsPlainHeader headers → n < 10 ^ 10
    → All IsPlainHeader (close_header ∷ version_header ∷ (headers ++ unless_204 bare n))
sent_answer_plain headers bare n all few =
    All-cons IsPlainHeader close_header (version_header ∷ (headers ++ unless_204 bare n)) close_is_plain
    (All-cons IsPlainHeader version_header (headers ++ unless_204 bare n) version_is_plain
    (All-append IsPlainHeader headers (unless_204 bare n) all (unless_plain bare n few)))

-- ---- the text

unless_text : (bare : Bool) (n : ℕ) → flat_map header_text (unless_204 bare n) ≡ (if bare then [] else length_line n)
unless_text true n = added_text false n
unless_text false n = added_text true n

answer_joined : (v d p c w f l b : List ℕ) → (v ++ (32 ∷ (d ++ (32 ∷ (p ++ 13 ∷ 10 ∷ []))))) ++ c ++ w ++ f ++ l ++ (13 ∷ 10 ∷ b)
    ≡ v ++ 32 ∷ (d ++ ((32 ∷ p) ++ ((13 ∷ 10 ∷ []) ++ (((c ++ (w ++ (f ++ l))) ++ 13 ∷ 10 ∷ []) ++ b))))
answer_joined v d p c w f l b = simp (append_assoc, cons-append)

abbrev pub sent_answer_head : Reply → ResponseHead
sent_answer_head reply = record {
  blank = [];
  minor = 1;
  digits = decimal reply.code;
  reason = Some (phrase_of reply.code);
  line_end = crlf;
  fields = map field_of (reply_headers reply);
  last = crlf;
}

sent_answer_fields : (reply : Reply) → flat_map print_field (map field_of (reply_headers reply))
    ≡ header_line (codes "Connection") (codes "close") ++ (header_line (codes "ProtocolVersion") (codes "2.0")
    ++ (flat_map header_text reply.headers ++ answer_length reply))
sent_answer_fields reply =
    fields_print (reply_headers reply)
    ∙ ap (λ (l : List ℕ). header_line (codes "Connection") (codes "close") ++ (header_line (codes "ProtocolVersion") (codes "2.0") ++ l))
    (flat_map-append header_text reply.headers (reply_length_headers reply)
    ∙ ap (λ (l : List ℕ). flat_map header_text reply.headers ++ l) (unless_text (reply.code == 204) (length reply.body)))

sent_answer_text : (reply : Reply) → answer_text reply ≡ print_response (sent_answer_head reply) ++ reply.body
unfolding answer_text
sent_answer_text reply =
    answer_joined (codes "HTTP/1.1") (decimal reply.code) (phrase_of reply.code) (header_line (codes "Connection") (codes "close"))
    (header_line (codes "ProtocolVersion") (codes "2.0")) (flat_map header_text reply.headers) (answer_length reply) reply.body
    ∙ ap (λ (l : List ℕ). codes "HTTP/1.1" ++ 32 ∷ (decimal reply.code ++ ((32 ∷ phrase_of reply.code) ++ ((13 ∷ 10 ∷ []) ++ ((l ++ 13 ∷ 10 ∷ []) ++ reply.body)))))
    (sym (sent_answer_fields reply))
    ∙ sym (print_response-append (sent_answer_head reply) reply.body)

final : (code : ℕ) → 200 ≤ code → is_interim code ≡ false
final code low = grind (arith, low)

pub sent_answer_reads : (reply : Reply) → IsSendableReply reply → IsAnswerFrame (answer_text reply) (sent_reply reply)
sent_answer_reads reply can =
    let n = length reply.body in
    let small : n < 10 ^ 10 = omega (arith, can.body) in
    let word : reply.code < 2 ^ 64 = omega (arith, can.code.1) in
    let head = sent_answer_head reply in
    let plain = sent_answer_plain reply.headers (reply.code == 204) n can.headers_plain small in
    let back = fields_back (reply_headers reply) plain in
    let text = sent_answer_text reply in
    let value = digits_value-decimal own reply.code word in
    record {
      head = head;
      rest = reply.body;
      front = record {
        from = answer_text reply;
        interims = no_interim (answer_text reply);
        front = record {
          begins = record {
            reads = (
              record {
                minor = omega arith;
                digits = three_digits reply.code (omega (arith, can.code.0)) (omega (arith, can.code.1));
                reason = phrase_plain reply.code (omega (arith, can.code.1));
                fields = fields_valid (reply_headers reply) plain;
              },
              text,
            );
            lines = omega (arith, length-map (reply_headers reply) field_of, can.lines);
          };
          short = omega (arith, can.short, ap length text, length-append (print_response head) reply.body);
        };
        last = ap is_interim value ∙ final reply.code can.code.0;
      };
      code = sym value;
      headers = sym back;
      framing = Sized n;
      says = ap₂ answer_framing value back
          ∙ answer_is_framed reply.code (close_header ∷ version_header ∷ reply.headers) (reply.code == 204) n refl can.body
          (λ no. ap length (can.bodiless no))
          (record { no_length = can.no_length; no_transfer = can.no_transfer; no_content = can.no_content });
      content = record {
        body = reply.body;
        rest = [];
        split = sym (append-nil reply.body);
        is_body = (refl, refl);
        to_end = λ h. absurd (cc);
      };
    }

pub sent_answer_if : (reply : Reply) (r : Result (Vec ℕ Global) MemoryUnit) → IfOk r (λ bytes. bytes.items ≡ answer_text reply)
    → IfOk r (λ bytes. ReplyReadsBack reply bytes.items)
sent_answer_if reply (Ok bytes) is = λ can. subst (λ (l : List ℕ). IsAnswerFrame l (sent_reply reply)) (sym is) (sent_answer_reads reply can)
sent_answer_if reply (Err e) is = tt
