-- How the writing of a reply ends a connection.
use Rattle.std.specs.Prelude.{◌≡◌, ℕ, Bool, true, false, List, Option}
use Rattle.std.specs.Io.KnownBytes.{Appends}
use Rattle.dsc_terms.specs.Counts.{Rose}
use Rattle.http_frames.specs.declared.message.Reply.{Reply}
use Rattle.http_frames.specs.Writing.{answer_text}
use Rattle.dsc_outside.specs.Streams.{AppendsPart}
use Rattle.pull_exchange.specs.Exchange.{Writes}
use Rattle.pull_serving.specs.declared.connection.ConnectionEnd.{ConnectionEnd}
use Rattle.pull_serving.specs.declared.connection.ConnectionEnd.TheVariants as ends

-- the store was broken while the reply was made, or it was not; the connection took it whole, or a part and failed, or nothing
abbrev pub IsSentEnd : Option (List ℕ) → Option (List ℕ) → Reply → ℕ → ℕ → Bool → ConnectionEnd → Type 0
IsSentEnd old new reply before after broken (ends.Answered code) = (broken ≡ false) × (reply.code ≡ code) × Appends old new (answer_text reply)
IsSentEnd old new reply before after broken ends.DiskFault = (broken ≡ true) × Writes old new (answer_text reply) before after
IsSentEnd old new reply before after broken (ends.Torn at) = ⊥
IsSentEnd old new reply before after broken ends.ReadFault = ⊥
IsSentEnd old new reply before after broken ends.WriteFault = (broken ≡ false) × Rose before after × AppendsPart old new (answer_text reply)
IsSentEnd old new reply before after broken ends.Memory = new ≡ old
