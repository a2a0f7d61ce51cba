-- A request that is written is a head and a body that read back.
use Rattle.std.proofs.Common.{◌≡◌, ℕ, ◌<◌, ◌≤◌, ◌^◌, List, [], ◌∷◌, ◌++◌, length, map, refl, sym, ap, ◌∙◌, subst, arith, append_assoc, length-append, Bool, true, false, codes, Vec, Global}
use Rattle.std.specs.Prelude.{Result, Ok, Err, All, IfOk, if◌then◌else◌}
use Rattle.std.specs.List.{flat_map}
use Rattle.std.proofs.lemmas.List.Elements.{All-cons, All-append}
use Rattle.std.proofs.lemmas.List.Concat.{flat_map-append}
use Rattle.std.proofs.lemmas.List.{length-map}
use Rattle.mof_values.specs.declared.memory.Memory.{Memory as MemoryUnit}
use Rattle.httparse.specs.Grammar.{crlf, RequestHead, print_request, print_field, IsToken, is_token_byte}
use Rattle.httparse.proofs.GrammarLemmas.{cons-append, print_request-append}
use Rattle.http_frames.specs.declared.message.Header.{Header}
use Rattle.http_frames.specs.declared.message.Request.{Request}
use Rattle.http_frames.specs.declared.framing.Framing.TheVariants.{Sized}
use Rattle.http_frames.specs.declared.frame_error.FrameError.TheVariants.{NoLength}
use Rattle.http_frames.specs.Framing.{needs_length, request_framing}
use Rattle.http_frames.specs.Writing.{header_text, header_line, host_value, request_text, request_length}
use Rattle.http_frames.specs.Sending.{IsPlainValue, IsPlainHeader, close_header, length_headers, sent_headers, sent, IsSendable, ReadsBack}
use Rattle.http_frames.specs.Frames.{IsRequestFrame}
use Rattle.http_frames.specs.Limits.{request_limits}
use Rattle.http_frames.proofs.SentLines.{field_of, fields_print, fields_back, fields_valid, added_length, IsSilent, sound_sent, stated_sent, token_by, added_plain, close_is_plain, added_text}

host_token : IsToken (codes "Host")
unfolding is_token_byte
host_token = token_by (codes "Host") (omega arith) refl

abbrev host_header : List ℕ → Header
host_header host = record { name = codes "Host"; value = host }

-- the body is as long as the lines say
request_is_framed : (method : List ℕ) (lines : List Header) (told : Bool) (n : ℕ) → needs_length method ≡ told → n ≤ request_limits.content → (told ≡ false → n ≡ 0)
    → IsSilent lines → request_framing method (lines ++ added_length told n) ≡ Ok (Sized n)
unfolding request_framing
request_is_framed method lines told n needs few none silent =
    let small : n < 10 ^ 10 = omega (arith, few) in
    let without = if needs_length method then Err NoLength else Ok (Sized 0) in
    sound_sent lines told n _ silent small ∙ stated_sent request_limits.content without lines told n silent few small ∙ last told needs none
  where
    last : (t : Bool) → needs_length method ≡ t → (t ≡ false → n ≡ 0)
        → (if t then Ok (Sized n) else (if needs_length method then Err NoLength else Ok (Sized 0))) ≡ Ok (Sized n)
    last true needs none = refl
    last false needs none =
        ap (λ (b : Bool). if b then Err NoLength else Ok (Sized 0)) needs ∙ ap (λ (m : ℕ). Ok (Sized m)) (sym (none refl))

sent_request_plain : (host : List ℕ) (headers : List Header) (told : Bool) (n : ℕ) → IsPlainValue host → All IsPlainHeader headers → n < 10 ^ 10
    → All IsPlainHeader (host_header host ∷ close_header ∷ (headers ++ added_length told n))
sent_request_plain host headers told n plain all few =
    All-cons IsPlainHeader (host_header host) (close_header ∷ (headers ++ added_length told n)) (record { name = host_token; value = plain })
    (All-cons IsPlainHeader close_header (headers ++ added_length told n) close_is_plain
    (All-append IsPlainHeader headers (added_length told n) all (added_plain told n few)))

-- ---- the text

request_joined : (m t v h c f l b : List ℕ) → (m ++ (32 ∷ (t ++ v))) ++ h ++ c ++ f ++ l ++ (13 ∷ 10 ∷ b)
    ≡ m ++ (32 ∷ (t ++ (v ++ (((h ++ (c ++ (f ++ l))) ++ 13 ∷ 10 ∷ []) ++ b))))
request_joined m t v h c f l b = simp (append_assoc, cons-append)

abbrev pub sent_request_head : Request → List ℕ → RequestHead
sent_request_head request host = record {
  blank = [];
  method = request.method;
  target = request.target;
  minor = 1;
  line_end = crlf;
  fields = map field_of (sent_headers request host);
  last = crlf;
}

sent_request_fields : (request : Request) (host : List ℕ) → flat_map print_field (map field_of (sent_headers request host))
    ≡ header_line (codes "Host") (host_value host) ++ (header_line (codes "Connection") (codes "close")
    ++ (flat_map header_text request.headers ++ request_length request))
sent_request_fields request host =
    fields_print (sent_headers request host)
    ∙ ap (λ (l : List ℕ). header_line (codes "Host") (host_value host) ++ (header_line (codes "Connection") (codes "close") ++ l))
    (flat_map-append header_text request.headers (length_headers request)
    ∙ ap (λ (l : List ℕ). flat_map header_text request.headers ++ l) (added_text (needs_length request.method) (length request.body)))

sent_request_text : (request : Request) (host : List ℕ) → request_text request host ≡ print_request (sent_request_head request host) ++ request.body
unfolding request_text
sent_request_text request host =
    request_joined request.method request.target (codes " HTTP/1.1" ++ (13 ∷ 10 ∷ [])) (header_line (codes "Host") (host_value host))
    (header_line (codes "Connection") (codes "close")) (flat_map header_text request.headers) (request_length request) request.body
    ∙ ap (λ (l : List ℕ). request.method ++ (32 ∷ (request.target ++ ((codes " HTTP/1.1" ++ (13 ∷ 10 ∷ [])) ++ ((l ++ 13 ∷ 10 ∷ []) ++ request.body)))))
    (sym (sent_request_fields request host))
    ∙ sym (print_request-append (sent_request_head request host) request.body)

pub sent_request_reads : (request : Request) (host : List ℕ) → IsSendable request host → IsRequestFrame (request_text request host) (sent request host)
sent_request_reads request host can =
    let n = length request.body in
    let small : n < 10 ^ 10 = omega (arith, can.body) in
    let head = sent_request_head request host in
    let plain = sent_request_plain (host_value host) request.headers (needs_length request.method) n can.host_plain can.headers_plain small in
    let back = fields_back (sent_headers request host) plain in
    let text = sent_request_text request host in
    record {
      head = head;
      body = request.body;
      front = record {
        begins = record {
          reads = (
            record {
              method = can.method;
              target = can.target;
              target_text = can.target_text;
              minor = omega arith;
              fields = fields_valid (sent_headers request host) plain;
            },
            text,
          );
          lines = omega (arith, length-map (sent_headers request host) field_of, can.lines);
        };
        short = omega (arith, can.short, ap length text, length-append (print_request head) request.body);
      };
      method = refl;
      target = refl;
      headers = sym back;
      framing = Sized n;
      says = ap (request_framing request.method) back
          ∙ request_is_framed request.method (host_header (host_value host) ∷ close_header ∷ request.headers) (needs_length request.method) n refl can.body
          (λ no. ap length (can.bodied no))
          (record { no_length = can.no_length; no_transfer = can.no_transfer; no_content = can.no_content });
      content = (refl, refl);
    }

pub sent_request_if : (request : Request) (host : List ℕ) (r : Result (Vec ℕ Global) MemoryUnit) → IfOk r (λ bytes. bytes.items ≡ request_text request host)
    → IfOk r (λ bytes. ReadsBack request host bytes.items)
sent_request_if request host (Ok bytes) is = λ can. subst (λ (l : List ℕ). IsRequestFrame l (sent request host)) (sym is) (sent_request_reads request host can)
sent_request_if request host (Err e) is = tt
