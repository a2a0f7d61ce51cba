use Rattle.std.proofs.Common.{◌≡◌, ◌++◌, ◌-◌, ℕ, List, length, take, drop, get_or}
use Rattle.pull_messages.specs.Escapes.{IsWritten, IsEscapeOf}
use Rattle.pull_messages.proofs.Escaped.{split_first, sign_first, plain_front, escape_front, escape_none, if_some}
use Rattle.pull_messages.proofs.escapes.first_byte.Goals as goal

pub returns-then-byte-eq37-clause-some : goal.returns-then-byte-eq37-clause-some
returns-then-byte-eq37-clause-some c =
    let text = c.args.text.now in
    let after = take (length text - 1) (drop 1 text) in
    let split = sign_first text c.in-len1-up.len_at_least c.if-byte-eq37.true in
    if_some c.escaped.result (λ x. IsEscapeOf after x.0 x.1.now) (λ x. (front : List ℕ) × (text ≡ front ++ x.1.now) × IsWritten x.0 front)
    c.escaped.ensures.some (λ x is. escape_front text after x.1.now x.0 split is)

pub returns-then-byte-eq37-clause-none : goal.returns-then-byte-eq37-clause-none
returns-then-byte-eq37-clause-none c =
    let text = c.args.text.now in
    let after = take (length text - 1) (drop 1 text) in
    let split = sign_first text c.in-len1-up.len_at_least c.if-byte-eq37.true in
    escape_none text after c.escaped.result split c.escaped.ensures.none

pub returns-else-byte-eq37-clause-some : goal.returns-else-byte-eq37-clause-some
returns-else-byte-eq37-clause-some c =
    let text = c.args.text.now in
    plain_front text (take (length text - 1) (drop 1 text)) (get_or text 0 0) (split_first text c.in-len1-up.len_at_least) c.if-byte-eq37.false
