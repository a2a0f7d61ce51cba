-- Each reply of the table is sendable, and one under a checksum is what the shelf has.
use Rattle.std.proofs.Common.{◌≡◌, inl, inr, ℕ, ◌<◌, ◌≤◌, ◌&&◌, nat_le, Bool, true, false, not, List, [], ◌∷◌, ◌++◌, length, bytes_eq, is_none, Option, Some, None, refl, sym, ◌∙◌, ap, subst, arith, length-append, codes}
use Rattle.std.specs.Prelude.{All}
use Rattle.std.specs.Fmt.{decimal}
use Rattle.std.specs.List.{flat_map}
use Rattle.std.proofs.lemmas.Bool.{false≢true}
use Rattle.std.proofs.lemmas.List.Elements.{All-cons, All-nil}
use Rattle.std.proofs.lemmas.List.Sums.{AllPass-from_list_all}
use Rattle.std.proofs.lemmas.Option.{same_Some}
use Rattle.httparse.specs.Grammar.{IsToken, is_token_byte, is_value_byte}
use Rattle.sha2.specs.Sha256.{sha256}
use Rattle.shared_key.specs.Checksum.{checksum_of}
use Rattle.http_frames.specs.declared.message.Header.{Header}
use Rattle.http_frames.specs.declared.message.Reply.{Reply}
use Rattle.http_frames.specs.declared.message.Request.{Request}
use Rattle.http_frames.specs.Framing.{has_no_body}
use Rattle.http_frames.specs.Headers.{all_named, has_named, header}
use Rattle.http_frames.specs.Limits.{answer_limits}
use Rattle.http_frames.specs.Replies.{saying}
use Rattle.http_frames.specs.Sending.{IsPlainHeader, IsPlainValue, IsSendableReply}
use Rattle.http_frames.specs.Writing.{header_text}
use Rattle.http_frames.proofs.SentLines.{token_by}
use Rattle.pull_messages.specs.declared.query.ActionQuery.{ActionQuery}
use Rattle.pull_messages.specs.Writing.{action_text}
use Rattle.pull_outside.specs.Shelf.{Contents}
use Rattle.pull_store.specs.declared.row.Row.{Row}
use Rattle.pull_store.specs.Rows.{most_rows}
use Rattle.pull_store.specs.Store.{StoreTerm}
use Rattle.pull_server.specs.Actions.{action_for, asks_unnamed}
use Rattle.pull_server.specs.Answers.{Pulled, Replies, by_table, failed, reply_of}
use Rattle.pull_server.specs.Asked.{Asked, agent_of, asked, fault_to, method_of, on}
use Rattle.pull_server.specs.Messages.{fault_text}
use Rattle.pull_server.specs.Replies.{content_reply, message_reply}
use Rattle.pull_server.specs.Signed.{is_signed}
use Rattle.pull_server.specs.SentReplies.{ChecksumsAreOfItems, IsItem, RepliesAreSendable}
use Rattle.pull_server.specs.Table.{Outcome, Rule, bad_message, bad_target, first, found, is_fetch, is_known, is_node, is_report, is_version, item, leaves, makes, names, no_name, no_place, no_capacity, no_row, not_signed, not_there, outcome_of, place_in, query, registered, reported, says, spent, table, target, told, unknown_method, where_, wrong_method, wrong_version}
use Rattle.pull_server.proofs.Checksums.{checksum_is_plain, length-checksum}
use Rattle.pull_server.proofs.Own.{chosen}
use Rattle.pull_server.proofs.SendableReplies.{AreModest, bare_is_sendable, modest_is_sendable, no_headers_are_modest}

-- ---- headers

type_token : IsToken (codes "Content-Type")
unfolding is_token_byte
type_token = token_by (codes "Content-Type") (omega arith) refl

checksum_token : IsToken (codes "Checksum")
unfolding is_token_byte
checksum_token = token_by (codes "Checksum") (omega arith) refl

algorithm_token : IsToken (codes "ChecksumAlgorithm")
unfolding is_token_byte
algorithm_token = token_by (codes "ChecksumAlgorithm") (omega arith) refl

json_value : IsPlainValue (codes "application/json")
json_value = record { bytes = AllPass-from_list_all is_value_byte (codes "application/json") refl; front = refl; back = refl }

octets_value : IsPlainValue (codes "application/octet-stream")
octets_value = record { bytes = AllPass-from_list_all is_value_byte (codes "application/octet-stream") refl; front = refl; back = refl }

sha256_value : IsPlainValue (codes "SHA-256")
sha256_value = record { bytes = AllPass-from_list_all is_value_byte (codes "SHA-256") refl; front = refl; back = refl }

abbrev message_headers : List Header
message_headers = header (codes "Content-Type") (codes "application/json") ∷ []

abbrev content_headers : List ℕ → List Header
content_headers value =
    header (codes "Content-Type") (codes "application/octet-stream") ∷ header (codes "Checksum") value
    ∷ header (codes "ChecksumAlgorithm") (codes "SHA-256") ∷ []

message_modest : AreModest message_headers
message_modest = record {
  plain = All-cons IsPlainHeader (header (codes "Content-Type") (codes "application/json")) [] (record { name = type_token; value = json_value }) (All-nil IsPlainHeader);
  no_length = refl;
  no_transfer = refl;
  no_content = refl;
  few = omega arith;
  short = omega arith;
}

content_plain : (value : List ℕ) → IsPlainValue value → All IsPlainHeader (content_headers value)
content_plain value plain =
    let kind = header (codes "Content-Type") (codes "application/octet-stream") in
    let sum = header (codes "Checksum") value in
    let algorithm = header (codes "ChecksumAlgorithm") (codes "SHA-256") in
    All-cons IsPlainHeader kind (sum ∷ algorithm ∷ []) (record { name = type_token; value = octets_value })
    (All-cons IsPlainHeader sum (algorithm ∷ []) (record { name = checksum_token; value = plain })
    (All-cons IsPlainHeader algorithm [] (record { name = algorithm_token; value = sha256_value }) (All-nil IsPlainHeader)))

content_modest : (value : List ℕ) → IsPlainValue value → length value ≡ 64 → AreModest (content_headers value)
content_modest value plain size = record {
  plain = content_plain value plain;
  no_length = refl;
  no_transfer = refl;
  no_content = refl;
  few = omega arith;
  short = short value size;
}
  where
    short : (v : List ℕ) → length v ≡ 64 → length (flat_map header_text (content_headers v)) ≤ 1000
    short v size = simp length-append (omega (arith, size))

-- ---- replies

-- a code and a body alone
record IsBare (reply : Reply) : Type 0 where
  headers : reply.headers ≡ []
  low : 200 ≤ reply.code
  below : reply.code < 600
  bodiless : has_no_body reply.code ≡ true → reply.body ≡ []

message_is_sendable : (body : List ℕ) → length (message_reply body).body ≤ answer_limits.content → IsSendableReply (message_reply body)
unfolding message_reply
message_is_sendable body few = modest_is_sendable (message_reply body) message_modest (omega arith) (omega arith) (λ none. absurd (false≢true none)) few

content_is_sendable : (content : List ℕ) → length (content_reply content).body ≤ answer_limits.content → IsSendableReply (content_reply content)
unfolding content_reply
content_is_sendable content few =
    modest_is_sendable (content_reply content) (content_modest (checksum_of (sha256 content)) (checksum_is_plain content) (length-checksum content))
    (omega arith) (omega arith) (λ none. absurd (false≢true none)) few

message_is_unsummed : (body : List ℕ) → has_named (codes "Checksum") (message_reply body).headers ≡ false
unfolding message_reply
message_is_unsummed body = refl

-- ---- the rows

-- what a row gives
data Form (a : Asked) (reply : Reply) : Type 0 where
  bare : IsBare reply → Form a reply
  message : (body : List ℕ) → reply ≡ message_reply body → Form a reply
  content : IsItem a reply → Form a reply

abbrev Gives : Rule → Type 0
Gives rule = (a : Asked) (o : Outcome) → rule a ≡ Some o → Form a (reply_of o)

said : (a : Asked) (code : ℕ) (body : List ℕ) → 200 ≤ code → code < 600 → (has_no_body code ≡ true → body ≡ []) → Form a (saying code body)
said a code body low below bodiless = bare (record { headers = refl; low = low; below = below; bodiless = bodiless })

given : (a : Asked) (p o : Outcome) → Form a (reply_of p) → Some p ≡ Some o → Form a (reply_of o)
given a p o form is = subst (λ (q : Outcome). Form a (reply_of q)) (same_Some p o is) form

where_gives : (a : Asked) (b : Bool) (p o : Outcome) → Form a (reply_of p) → where_ b p ≡ Some o → Form a (reply_of o)
where_gives a true p o form is = given a p o form is
where_gives a false p o form is = absurd (cc is)

on_gives : {X : Type 0} (a : Asked) (x : Option X) (f : X → Option Outcome) (o : Outcome) → ((v : X) → x ≡ Some v → f v ≡ Some o → Form a (reply_of o))
    → on x f ≡ Some o → Form a (reply_of o)
on_gives a None f o each is = absurd (cc is)
on_gives a (Some v) f o each is = each v refl is

coded : {X : Type 0} (a : Asked) (x : Option X) (test : X → Bool) (p o : Outcome) → Form a (reply_of p) → on x (λ v. where_ (test v) p) ≡ Some o → Form a (reply_of o)
coded a None test p o form is = absurd (cc is)
coded a (Some v) test p o form is = where_gives a (test v) p o form is

-- a code without a body
abbrev empty : (a : Asked) (code : ℕ) → 200 ≤ code → code < 600 → Form a (saying code [])
empty a code low below = said a code [] low below (λ none. refl)

-- 400 with a text
wrong : (a : Asked) (body : List ℕ) → Form a (saying 400 body)
wrong a body = said a 400 body (omega arith) (omega arith) (λ none. absurd (false≢true none))

unknown_method_gives : Gives unknown_method
unknown_method_gives a o is = where_gives a (not (is_known a.request.method)) (says 501 []) o (empty a 501 (omega arith) (omega arith)) is

bad_target_gives : Gives bad_target
bad_target_gives a o is =
    let text : ℕ → List ℕ = λ at. codes "target " ++ decimal at in
    on_gives a (place_in a.aim) (λ at. Some (says 400 (text at))) o (λ at there some. given a (says 400 (text at)) o (wrong a (text at)) some) is

wrong_method_gives : Gives wrong_method
wrong_method_gives a o is = coded a (target a) (λ t. not (bytes_eq a.request.method (method_of t))) (says 405 []) o (empty a 405 (omega arith) (omega arith)) is

wrong_version_gives : Gives wrong_version
wrong_version_gives a o is =
    let text = codes "wrong ProtocolVersion" in
    where_gives a (not (all_named (codes "ProtocolVersion") is_version a.request.headers)) (says 400 text) o (wrong a text) is

not_signed_gives : Gives not_signed
not_signed_gives a o is = coded a (target a) (λ t. is_node t && not (is_signed a.shelf.keys a.request)) (says 401 []) o (empty a 401 (omega arith) (omega arith)) is

no_row_gives : Gives no_row
no_row_gives a o is =
    on_gives a (target a) (λ t. on (agent_of t) (λ agent. where_ (not (is_node t) && is_none a.row) (says 404 []))) o
    (λ t there some. coded a (agent_of t) (λ agent. not (is_node t) && is_none a.row) (says 404 []) o (empty a 404 (omega arith) (omega arith)) some) is

bad_message_gives : Gives bad_message
bad_message_gives a o is =
    on_gives a (target a) (λ t. on (fault_to t a.request.body) (λ e. Some (says 400 (fault_text e)))) o
    (λ t there some. on_gives a (fault_to t a.request.body) (λ e. Some (says 400 (fault_text e))) o
    (λ e that most. given a (says 400 (fault_text e)) o (wrong a (fault_text e)) most) some) is

no_name_gives : Gives no_name
no_name_gives a o is =
    let text = codes "wrong ConfigurationName" in
    coded a (query a) (λ q. asks_unnamed (names a) q) (says 400 text) o (wrong a text) is

not_there_gives : Gives not_there
not_there_gives a o is = coded a (target a) (λ t. is_fetch t && is_none (item a t)) (says 404 []) o (empty a 404 (omega arith) (omega arith)) is

spent_gives : Gives spent
spent_gives a o is = where_gives a a.spent (says 500 []) o (empty a 500 (omega arith) (omega arith)) is

no_place_gives : Gives no_place
no_place_gives a o is =
    coded a (target a) (λ t. is_node t && (is_none a.row && nat_le most_rows a.count)) (says 503 []) o (empty a 503 (omega arith) (omega arith)) is

no_capacity_gives : Gives no_capacity
no_capacity_gives a o is = where_gives a a.full (says 507 []) o (empty a 507 (omega arith) (omega arith)) is

registered_gives : Gives registered
registered_gives a o is = coded a (target a) is_node (makes (saying 204 [])) o (empty a 204 (omega arith) (omega arith)) is

reported_gives : Gives reported
reported_gives a o is = coded a (target a) is_report (makes (saying 200 [])) o (empty a 200 (omega arith) (omega arith)) is

told_gives : Gives told
told_gives a o is =
    let text : ActionQuery → List ℕ = λ q. action_text (action_for a.shelf (names a) q) in
    on_gives a (query a) (λ q. Some (leaves (message_reply (text q)))) o (λ q there some. given a (leaves (message_reply (text q))) o (message (text q) refl) some) is

found_gives : Gives found
found_gives a o is =
    on_gives a (target a) (λ t. on (item a t) (λ bytes. Some (leaves (content_reply bytes)))) o
    (λ t there some. on_gives a (item a t) (λ bytes. Some (leaves (content_reply bytes))) o
    (λ bytes has most. given a (leaves (content_reply bytes)) o (content (record { target = t; is_target = there; content = bytes; is_there = has; is = refl })) most) some) is

-- ---- the table

abbrev AllGive : List Rule → Type 0
AllGive [] = Unit {0}
AllGive (rule ∷ rules) = Gives rule × AllGive rules

first_gives : (rules : List Rule) → AllGive rules → Gives (first rules)
first_gives [] all a o is = absurd (cc is)
first_gives (rule ∷ rules) all a o is = elim (chosen (rule a) (first rules a) o is) [
  | inl here ↦ all.0 a o here
  | inr later ↦ first_gives rules all.1 a o later.1
]

table_gives : AllGive table
table_gives = (
  unknown_method_gives,
  (
    bad_target_gives,
    (
      wrong_method_gives,
      (
        wrong_version_gives,
        (
          not_signed_gives,
          (
            no_row_gives,
            (
              bad_message_gives,
              (
                no_name_gives,
                (not_there_gives, (spent_gives, (no_place_gives, (no_capacity_gives, (registered_gives, (reported_gives, (told_gives, (found_gives, tt)))))))),
              ),
            ),
          ),
        ),
      ),
    ),
  ),
)

form_of : (a : Asked) (o : Outcome) → outcome_of a ≡ Some o → Form a (reply_of o)
unfolding outcome_of
form_of a o is = first_gives table table_gives a o is

-- the reply is the one of which that is known
abbrev Within : Reply → Type 0
Within reply = length reply.body ≤ answer_limits.content

sendable_form : (a : Asked) (reply : Reply) → Form a reply → Within reply → IsSendableReply reply
sendable_form a reply (bare b) few = modest_is_sendable reply (subst AreModest (sym b.headers) no_headers_are_modest) b.low b.below b.bodiless few
sendable_form a reply (message body is) few = subst IsSendableReply (sym is) (message_is_sendable body (subst Within is few))
sendable_form a reply (content one) few = subst IsSendableReply (sym one.is) (content_is_sendable one.content (subst Within one.is few))

pub replies_are_sendable : RepliesAreSendable
replies_are_sendable a o is few = sendable_form a (reply_of o) (form_of a o is) few

abbrev is_summed : Reply → Bool
is_summed reply = has_named (codes "Checksum") reply.headers

summed_form : (a : Asked) (reply : Reply) → Form a reply → is_summed reply ≡ true → IsItem a reply
summed_form a reply (bare b) summed = absurd (false≢true (sym (ap (has_named (codes "Checksum")) b.headers) ∙ summed))
summed_form a reply (message body is) summed = absurd (false≢true (sym (message_is_unsummed body) ∙ sym (ap is_summed is) ∙ summed))
summed_form a reply (content one) summed = one

pub checksums_are_of_items : ChecksumsAreOfItems
checksums_are_of_items a o is summed = summed_form a (reply_of o) (form_of a o is) summed

-- ---- what is answered

-- so is each reply to a request, that of a failure too
pub pulled_is_sendable : RepliesAreSendable → (store : StoreTerm) (shelf : Contents) (request : Request) (rose : Type 0) (reply : Reply) (rows : List Row)
    → Replies store shelf request rose reply rows → Within reply → IsSendableReply reply
pulled_is_sendable sendable store shelf request rose reply rows replies few = by replies.pulled
  where
    by : Pulled store shelf request replies.aim rose reply rows → IsSendableReply reply
    by (by_table outcome is same after) =
        subst IsSendableReply (sym same) (sendable (asked store shelf request replies.aim) outcome is (subst Within same few))
    by (failed risen same kept) = subst IsSendableReply (sym same) (bare_is_sendable 500 [] (omega arith) (omega arith) (λ none. refl) (subst Within same few))
