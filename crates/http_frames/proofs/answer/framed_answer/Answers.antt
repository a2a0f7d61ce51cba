use Rattle.std.proofs.Common.{◌≡◌, ℕ, ◌+◌, ◌-◌, ◌≤◌, List, length, take, drop, sym, ap, ap₂, ◌∙◌, arith, rules, drop-drop, length-drop}
use Rattle.std.specs.Prelude.{Some, Ok}
use Rattle.http_frames.specs.declared.framing.Framing.{Framing}
use Rattle.http_frames.specs.declared.head.AnswerHead.{AnswerHead as AnswerStart}
use Rattle.http_frames.specs.declared.message.Reply.{Reply}
use Rattle.http_frames.specs.Limits.{answer_limits}
use Rattle.http_frames.specs.Framing.{answer_framing}
use Rattle.http_frames.specs.Bodies.{body_reading}
use Rattle.http_frames.specs.Answering.{IsLastHead, IsReadAnswer}
use Rattle.http_frames.proofs.Interim.{head_length}
use Rattle.http_frames.proofs.Walking.{answer_starts, walked_start}
use Rattle.http_frames.proofs.answer.framed_answer.Goals as goal

pub read_body-requires-clause-starts : goal.read_body-requires-clause-starts
read_body-requires-clause-starts c = answer_starts

pub read_body-requires-clause-walked : goal.read_body-requires-clause-walked
read_body-requires-clause-walked c = walked_start _ _ _ c.new.result c.new.ensures answer_starts

-- the content is cut out of the bytes from where the body begins
cut_answer : (bytes body : List ℕ) (start : AnswerStart) (framing : Framing) (at front count : ℕ) (reply : Reply)
    → IsLastHead bytes (drop at bytes) start → answer_framing start.code start.headers ≡ Ok framing → at ≤ length bytes
    → body ≡ drop start.length (drop at bytes) → front ≡ length bytes - length body
    → body_reading answer_limits front framing body ≡ Ok (Some (take count body))
    → reply.code ≡ start.code → reply.headers ≡ start.headers → reply.body ≡ take count (drop front bytes)
    → IsReadAnswer bytes reply
cut_answer bytes body start framing at front count reply last says fits is_body is_front reading code headers content =
    let some = head_length (drop at bytes) start last.head in
    let place : front ≡ at + start.length =
    omega (arith, is_front, some.1, fits, ap length is_body, length-drop at bytes, length-drop start.length (drop at bytes)) in
    let same : drop front bytes ≡ body = ap (λ n. drop n bytes) place ∙ sym (drop-drop start.length at bytes) ∙ sym is_body in
    let before : front ≡ length bytes - length (drop start.length (drop at bytes)) =
    is_front ∙ ap (λ (l : List ℕ). length bytes - length l) is_body in
    record {
      start = start;
      whole = record {
        rest = drop at bytes;
        head = last;
        framing = framing;
        says = says;
        body = sym (ap₂ (λ (n : ℕ) (l : List ℕ). body_reading answer_limits n framing l) before is_body) ∙ reading
            ∙ ap (λ (l : List ℕ). Ok (Some l)) (sym (content ∙ ap (take count) same));
      };
      code = code;
      headers = headers;
    }

pub returns-in-Front : goal.returns-in-Front
returns-in-Front c =
    let reading = rw c.in-Front.is at c.in_ok-count.ensures in
    let len : c.len.result ≡ length c.args.bytes.items = search rules in
    cut_answer c.args.bytes.items c.split_at-2.result.1.now c.args.head c.args.framing c.args.at _ c.in-Front.count c.reply.result
    c.requires.last c.requires.says c.requires.fits
    (c.split_at-2.ensures.back ∙ ap (drop c.args.head.length) (c.split_at.ensures.back ∙ ap (drop c.args.at) c.deref.ensures.value))
    (ap (λ (n : ℕ). n - length c.split_at-2.result.1.now) len) reading.1
    c.reply.ensures.code c.reply.ensures.headers (c.reply.ensures.body ∙ c.cut.ensures)
