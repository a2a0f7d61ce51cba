-- How a connection ended, from what its calls answered.
use Rattle.std.proofs.Common.{◌≡◌, inl, inr, ℕ, ◌≤◌, Bool, true, false, not, ◌&&◌, List, Option, refl, sym, ◌∙◌, subst, arith}
use Rattle.dsc_terms.specs.Counts.{Rose}
use Rattle.http_frames.specs.declared.message.Reply.{Reply}
use Rattle.http_frames.specs.Writing.{answer_text}
use Rattle.pull_exchange.specs.declared.exchange.Received.{Received}
use Rattle.pull_exchange.specs.Exchange.{Writes}
use Rattle.pull_outside.specs.Door.{Known}
use Rattle.pull_outside.specs.Shelf.{Contents}
use Rattle.pull_store.specs.Store.{is_spent}
use Rattle.pull_server.specs.Replies.{plain}
use Rattle.pull_serving.specs.declared.connection.ConnectionEnd.{ConnectionEnd}
use Rattle.pull_serving.specs.declared.connection.ConnectionEnd.TheVariants as ends
use Rattle.pull_serving.specs.Sent.{IsSentEnd}
use Rattle.pull_serving.specs.Turn.{Answering, IsEnd, IsReply, ShowsFault, State, Turn}

pub rose_earlier : (before mid after : ℕ) → before ≤ mid → Rose mid after → Rose before after
rose_earlier before mid after le rose = omega (arith, le, rose)

-- what was written since a count that stood lower
pub writes_earlier : (old new : Option (List ℕ)) (text : List ℕ) (before mid after : ℕ) → before ≤ mid → Writes old new text mid after → Writes old new text before after
writes_earlier old new text before mid after later (inl whole) = inl whole
writes_earlier old new text before mid after later (inr part) = inr (rose_earlier before mid after later part.0, part.1)

-- what a store that the disk broke shows
pub record Broke (before after : State) (reply : Reply) : Type 0 where
  pub fresh : is_spent before.store ≡ false
  pub spent : is_spent after.store ≡ true
  pub rose : Rose before.disk_faults after.disk_faults
  pub is : reply ≡ plain 500

module _ (how : Answering) (shelf : Option Contents) (came went : Known) (mid : ℕ) (later : came.faults ≤ mid) (before after : State) (r : Received) (reply : Reply) (broken : Bool)
    (broke : broken ≡ true → Broke before after reply) where
  abbrev turn : ConnectionEnd → Turn
  turn end = record { came = came; went = went; received = r; before = before; after = after; end = end }

  pub end_is : (end : ConnectionEnd) → IsReply how shelf (turn end) r reply → IsSentEnd came.held went.held reply mid went.faults broken end → IsEnd how shelf (turn end) end
  end_is (ends.Answered code) is sent = record { reply = reply; is_reply = is; has_code = sent.1; written = sent.2 }
  end_is ends.DiskFault is sent =
      let b = broke sent.0 in
      record {
        fresh = b.fresh;
        spent = b.spent;
        rose = b.rose;
        is_reply = subst (λ (x : Reply). IsReply how shelf (turn ends.DiskFault) r x) b.is is;
        written = subst (λ (x : Reply). Writes came.held went.held (answer_text x) came.faults went.faults) b.is (writes_earlier came.held went.held (answer_text reply) came.faults mid went.faults later sent.1);
      }
  end_is (ends.Torn at) is sent = absurd sent
  end_is ends.ReadFault is sent = absurd sent
  end_is ends.WriteFault is sent = record { reply = reply; is_reply = is; rose = rose_earlier came.faults mid went.faults later sent.1; written = sent.2 }
  end_is ends.Memory is sent = (sent, inr (record { reply = reply; is_reply = is }))

  -- a store that was broken shows
  pub shows : (end : ConnectionEnd) → IsSentEnd came.held went.held reply mid went.faults broken end → broken ≡ true → ShowsFault end
  shows (ends.Answered code) sent is = absurd (cc (sent.0, is))
  shows ends.DiskFault sent is = inl refl
  shows (ends.Torn at) sent is = absurd sent
  shows ends.ReadFault sent is = absurd sent
  shows ends.WriteFault sent is = absurd (cc (sent.0, is))
  shows ends.Memory sent is = inr refl

-- the store is newly spent exactly where it was not and is
pub newly : (was now broken : Bool) → broken ≡ (not was && now) → broken ≡ true → (was ≡ false) × (now ≡ true)
newly true now broken is set = absurd (cc (is, set))
newly false now broken is set = (refl, sym is ∙ set)

pub newly_is : (was now broken : Bool) → broken ≡ (not was && now) → was ≡ false → now ≡ true → broken ≡ true
newly_is true now broken is fresh spent = absurd (cc fresh)
newly_is false now broken is fresh spent = is ∙ spent
