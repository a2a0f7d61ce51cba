-- Passing over interim heads.
use Rattle.std.proofs.Common.{◌≡◌, ℕ, ◌<◌, ◌≤◌, List, length, drop, true, arith, ap, length-append}
use Rattle.httparse.specs.Grammar.{ResponseHead, print_response}
use Rattle.httparse.proofs.GrammarLemmas.{cons-append}
use Rattle.http_frames.specs.declared.head.AnswerHead.{AnswerHead as AnswerStart}
use Rattle.http_frames.specs.Heads.{IsAnswerHeadOf}
use Rattle.http_frames.specs.Answering.{is_interim, Passes, no_more, one_more}

-- one head more
pub passes_on : (bytes rest : List ℕ) (start : AnswerStart) → Passes bytes rest → IsAnswerHeadOf rest start
    → is_interim start.code ≡ true → Passes bytes (drop start.length rest)
passes_on _ _ start (no_more bytes) head interim = one_more bytes (drop start.length bytes) start head interim (no_more (drop start.length bytes))
passes_on _ _ start (one_more bytes rest first at between more) head interim =
    one_more bytes (drop start.length rest) first at between (passes_on (drop first.length bytes) rest start more head interim)

some_printed : (h : ResponseHead) → 0 < length (print_response h)
unfolding print_response
some_printed h = simp (length-append, cons-append) (omega arith)

-- a head has a byte
pub head_length : (rest : List ℕ) (start : AnswerStart) → IsAnswerHeadOf rest start
    → (0 < start.length) × (start.length ≤ length rest)
head_length rest start at =
    let len = length-append (print_response at.head) (drop start.length rest) in (
      omega (arith, at.length_is, some_printed at.head),
      omega (arith, at.length_is, ap length at.begins.reads.1, len),
    )
