-- What the replies of the table are once they are written: each reads back, and one under a checksum is what the shelf has.
use Rattle.std.specs.Prelude.{◌≡◌, ℕ, ◌≤◌, true, List, length, codes, Some}
use Rattle.http_frames.specs.declared.message.Reply.{Reply}
use Rattle.http_frames.specs.Headers.{has_named}
use Rattle.http_frames.specs.Limits.{answer_limits}
use Rattle.http_frames.specs.Sending.{IsSendableReply}
use Rattle.pull_messages.specs.declared.target_kinds.Target.{Target}
use Rattle.pull_server.specs.Answers.{reply_of}
use Rattle.pull_server.specs.Asked.{Asked, target_in}
use Rattle.pull_server.specs.Replies.{content_reply}
use Rattle.pull_server.specs.Table.{Outcome, item, outcome_of}

-- a reply whose body is within the limit of answers is sendable: what is written of it reads back
abbrev pub RepliesAreSendable : Type 0
RepliesAreSendable =
    (a : Asked) (outcome : Outcome) → outcome_of a ≡ Some outcome → length (reply_of outcome).body ≤ answer_limits.content
    → IsSendableReply (reply_of outcome)

-- the reply is what the shelf has of what is fetched, under the checksum of that
pub record IsItem (a : Asked) (reply : Reply) : Type 0 where
  pub target : Target
  pub is_target : target_in a.aim ≡ Some target
  pub content : List ℕ
  pub is_there : item a target ≡ Some content
  pub is : reply ≡ content_reply content

-- so is each reply that announces a checksum
abbrev pub ChecksumsAreOfItems : Type 0
ChecksumsAreOfItems =
    (a : Asked) (outcome : Outcome) → outcome_of a ≡ Some outcome → has_named (codes "Checksum") (reply_of outcome).headers ≡ true
    → IsItem a (reply_of outcome)
