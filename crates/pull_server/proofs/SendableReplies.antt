-- A reply with few and short headers is sendable.
use Rattle.std.proofs.Common.{◌≡◌, ℕ, zero, suc, ◌+◌, ◌<◌, ◌≤◌, ◌&&◌, nat_le, Bool, true, false, List, [], ◌∷◌, ◌++◌, length, refl, arith, length-append, codes}
use Rattle.std.specs.Prelude.{All, if◌then◌else◌, ◌==◌}
use Rattle.std.specs.List.{flat_map}
use Rattle.std.proofs.lemmas.Bool.{leb-true}
use Rattle.std.proofs.lemmas.Bool.Decides.{Decides-below_and}
use Rattle.std.proofs.lemmas.Fmt.{length-decimal-le}
use Rattle.std.proofs.lemmas.List.Elements.{All-nil}
use Rattle.http_frames.specs.declared.message.Header.{Header}
use Rattle.http_frames.specs.declared.message.Reply.{Reply}
use Rattle.http_frames.specs.Framing.{has_no_body}
use Rattle.http_frames.specs.Headers.{has_named}
use Rattle.http_frames.specs.Replies.{saying}
use Rattle.http_frames.specs.Limits.{answer_limits, head_bytes}
use Rattle.http_frames.specs.Sending.{IsPlainHeader, IsSendableReply, length_header}
use Rattle.http_frames.specs.Writing.{answer_length, answer_text, crlf, header_line, header_text, length_line, phrase_of, status_line}

-- ---- sizes

abbrev is_short_phrase : ℕ → Bool
is_short_phrase code = nat_le (length (phrase_of code)) 64

abbrev are_short_phrases : ℕ → Bool
are_short_phrases zero = true
are_short_phrases (suc n) = is_short_phrase n && are_short_phrases n

phrase_size : (code : ℕ) → code < 600 → length (phrase_of code) ≤ 64
unfolding phrase_of
phrase_size code below =
    leb-true (length (phrase_of code)) 64
    ((Decides-below_and is_short_phrase (λ k. is_short_phrase k ≡ true) are_short_phrases (λ k. (λ x. x, λ x. x)) refl (λ _. refl) 600).0 refl code below)

status_size : (code : ℕ) → code < 600 → length (status_line code) ≤ 80
status_size code below =
    let digits = length-decimal-le 3 code (omega arith) (omega (arith, below)) (omega (arith, below)) in
    let phrase = phrase_size code below in
    simp length-append (omega (arith, digits, phrase))

counted_size : (n : ℕ) → n ≤ answer_limits.content → length (length_line n) ≤ 40
counted_size n few =
    let digits = length-decimal-le 10 n (omega arith) (omega (arith, few)) (omega (arith, few)) in
    simp length-append (omega (arith, digits))

length_size : (bare : Bool) (n : ℕ) → n ≤ answer_limits.content → length (if bare then [] else length_line n) ≤ 40
length_size true n few = omega arith
length_size false n few = counted_size n few

joined_size : (s a b f l c d : List ℕ) → length (s ++ a ++ b ++ f ++ l ++ (c ++ d)) ≡ length s + length a + length b + length f + length l + (length c + length d)
joined_size s a b f l c d = simp length-append

answer_size : (reply : Reply) → reply.code < 600 → length (flat_map header_text reply.headers) ≤ 1000 → length reply.body ≤ answer_limits.content
    → length (answer_text reply) ≤ head_bytes + length reply.body
unfolding answer_text
answer_size reply below short few =
    let close = header_line (codes "Connection") (codes "close") in
    let version = header_line (codes "ProtocolVersion") (codes "2.0") in
    let status = status_size reply.code below in
    let counted : length (answer_length reply) ≤ 40 = length_size (reply.code == 204) (length reply.body) few in
    let fixed : length close + length version + length crlf ≡ 43 = refl in
    omega (arith, status, counted, short, fixed, joined_size (status_line reply.code) close version (flat_map header_text reply.headers) (answer_length reply) crlf reply.body)

pub body_size : (reply : Reply) → length reply.body ≤ length (answer_text reply)
unfolding answer_text
body_size reply =
    omega (
      arith,
      joined_size (status_line reply.code) (header_line (codes "Connection") (codes "close")) (header_line (codes "ProtocolVersion") (codes "2.0"))
          (flat_map header_text reply.headers) (answer_length reply) crlf reply.body,
    )

-- ---- replies

line_count : (headers : List Header) (bare : Bool) (n : ℕ) → length headers ≤ 8 → length (headers ++ (if bare then [] else length_header n ∷ [])) ≤ 9
line_count headers true n few = omega (arith, length-append headers [])
line_count headers false n few = omega (arith, length-append headers (length_header n ∷ []))

-- headers that are few, short and of the grammar, and say nothing of the framing
pub record AreModest (headers : List Header) : Type 0 where
  pub plain : All IsPlainHeader headers
  pub no_length : has_named (codes "content-length") headers ≡ false
  pub no_transfer : has_named (codes "transfer-encoding") headers ≡ false
  pub no_content : has_named (codes "content-encoding") headers ≡ false
  pub few : length headers ≤ 8
  pub short : length (flat_map header_text headers) ≤ 1000

pub no_headers_are_modest : AreModest []
no_headers_are_modest = record { plain = All-nil IsPlainHeader; no_length = refl; no_transfer = refl; no_content = refl; few = omega arith; short = omega arith }

pub modest_is_sendable : (reply : Reply) → AreModest reply.headers → 200 ≤ reply.code → reply.code < 600 → (has_no_body reply.code ≡ true → reply.body ≡ [])
    → length reply.body ≤ answer_limits.content → IsSendableReply reply
modest_is_sendable reply modest low below bodiless few =
    let lines = line_count reply.headers (reply.code == 204) (length reply.body) modest.few in
    record {
      code = (low, omega (arith, below));
      headers_plain = modest.plain;
      no_length = modest.no_length;
      no_transfer = modest.no_transfer;
      no_content = modest.no_content;
      lines = omega (arith, lines);
      short = answer_size reply below modest.short few;
      body = few;
      bodiless = bodiless;
    }

-- a code and a body, without headers
pub bare_is_sendable : (code : ℕ) (body : List ℕ) → 200 ≤ code → code < 600 → (has_no_body code ≡ true → body ≡ [])
    → length body ≤ answer_limits.content → IsSendableReply (saying code body)
bare_is_sendable code body low below bodiless few = modest_is_sendable (saying code body) no_headers_are_modest low below bodiless few
