-- What a reply that was sent is taken for, as a content.
use Rattle.std.proofs.Common.{◌≡◌, ℕ, ◌||◌, nat_le, Bool, true, false, List, [], ◌∷◌, ◌++◌, length, Option, Some, None, Result, Ok, Err, refl, sym, ◌∙◌, ap, subst, arith, length-append, bytes_eq, codes, if◌then◌else◌}
use Rattle.std.specs.Prelude.{◌==◌}
use Rattle.httparse.specs.Grammar.{ResponseHead, print_response}
use Rattle.sha2.specs.Sha256.{sha256}
use Rattle.mof_syntax.specs.declared.limits.TheConstants.{MAX_DOCUMENT}
use Rattle.http_frames.specs.declared.message.Header.{Header}
use Rattle.http_frames.specs.declared.message.Reply.{Reply}
use Rattle.http_frames.specs.Frames.{AnswerFront, Interim, IsAnswerFrame, interim, no_interim}
use Rattle.http_frames.specs.Headers.{has_named}
use Rattle.http_frames.specs.Sending.{length_header, reply_length_headers, sent_reply}
use Rattle.pull_client.specs.declared.error.PeerError.{PeerError}
use Rattle.pull_client.specs.declared.error.PeerError.TheVariants.{NoChecksum}
use Rattle.pull_client.specs.Content.{announced, checked_body, content_of, is_sha256, under_digest, within_document}

-- ---- no bytes are no answer

no_head : (head : ResponseHead) (rest : List ℕ) → [] ≡ print_response head ++ rest → ⊥
unfolding print_response
no_head head rest is = omega (arith, simp length-append at (ap length is))

no_begin : (bytes rest : List ℕ) (head : ResponseHead) → bytes ≡ [] → AnswerFront bytes head rest → ⊥
no_begin bytes rest head none front = no_head head rest (sym none ∙ front.begins.reads.1)

still_none : (bytes from : List ℕ) → Interim bytes from → bytes ≡ [] → from ≡ []
still_none bytes from (no_interim all) none = none
still_none bytes from (interim all middle rest head front is more) none = absurd (no_begin all middle head none front)

pub no_answer_in_nothing : (reply : Reply) → IsAnswerFrame [] reply → ⊥
no_answer_in_nothing reply frame =
    no_begin frame.front.from frame.rest frame.head (still_none [] frame.front.from frame.front.interims refl) frame.front.front

-- ---- without a checksum no content is taken

abbrev is_summed : List Header → Bool
is_summed headers = has_named (codes "Checksum") headers

neither : (a b : Bool) → (a || b) ≡ false → (a ≡ false) × (b ≡ false)
neither a b e = grind arith

nothing_announced : (headers : List Header) → is_summed headers ≡ false → announced headers ≡ None
nothing_announced [] none = refl
nothing_announced (h ∷ headers) none =
    let parts = neither _ (is_summed headers) none in
    rw parts.0 (nothing_announced headers parts.1)

unsummed_before : (headers more : List Header) → is_summed headers ≡ false → is_summed more ≡ false → is_summed (headers ++ more) ≡ false
unsummed_before [] more none rest = rest
unsummed_before (h ∷ headers) more none rest =
    let parts = neither _ (is_summed headers) none in
    rw parts.0 (unsummed_before headers more parts.1 rest)

length_unsummed : (bare : Bool) (n : ℕ) → is_summed (if bare then [] else length_header n ∷ []) ≡ false
length_unsummed true n = refl
length_unsummed false n = refl

sent_unsummed : (reply : Reply) → is_summed reply.headers ≡ false → is_summed (sent_reply reply).headers ≡ false
sent_unsummed reply none = unsummed_before reply.headers (reply_length_headers reply) none (length_unsummed (reply.code == 204) (length reply.body))

abbrev checked_where : Bool → Option (List ℕ) → List ℕ → Result (List ℕ) PeerError
checked_where known digest body = if known then under_digest digest body else Err NoChecksum

no_content : (known : Bool) (body content : List ℕ) → checked_where known None body ≡ Ok content → ⊥
no_content true body content is = absurd (cc is)
no_content false body content is = absurd (cc is)

pub unsummed_is_not_checked : (reply : Reply) (content : List ℕ) → has_named (codes "Checksum") reply.headers ≡ false → checked_body (sent_reply reply) ≡ Ok content → ⊥
unsummed_is_not_checked reply content none is =
    let nothing = nothing_announced (sent_reply reply).headers (sent_unsummed reply none) in
    no_content (is_sha256 (sent_reply reply).headers) reply.body content
    (subst (λ (o : Option (List ℕ)). checked_where (is_sha256 (sent_reply reply).headers) o reply.body ≡ Ok content) nothing is)

-- ---- a content is the body

body_if : (short : Bool) (body content : List ℕ) (e : PeerError) → (if short then Ok body else Err e) ≡ Ok content → content ≡ body
body_if true body content e is = cc
body_if false body content e is = absurd (cc is)

within_is : (given : Result (List ℕ) PeerError) (content : List ℕ) → within_document given ≡ Ok content → given ≡ Ok content
within_is (Ok body) content is = ap (λ (b : List ℕ). Ok b) (sym (body_if (nat_le (length body) MAX_DOCUMENT) body content _ is))
within_is (Err e) content is = absurd (cc is)

under_is : (digest : Option (List ℕ)) (body content : List ℕ) → under_digest digest body ≡ Ok content → content ≡ body
under_is None body content is = absurd (cc is)
under_is (Some digest) body content is = body_if (bytes_eq digest (sha256 body)) body content _ is

checked_is : (known : Bool) (digest : Option (List ℕ)) (body content : List ℕ) → checked_where known digest body ≡ Ok content → content ≡ body
checked_is true digest body content is = under_is digest body content is
checked_is false digest body content is = absurd (cc is)

pub checked_is_body : (reply : Reply) (content : List ℕ) → checked_body reply ≡ Ok content → content ≡ reply.body
checked_is_body reply content is = checked_is (is_sha256 reply.headers) (announced reply.headers) reply.body content is

pub content_is_checked : (reply : Reply) (content : List ℕ) → content_of reply ≡ Ok content → checked_body reply ≡ Ok content
content_is_checked reply content is = within_is (checked_body reply) content is
