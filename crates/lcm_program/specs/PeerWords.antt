-- The printed names of what a pull server gave that is refused: the names of the error, and its values.
use Rattle.std.specs.Prelude.{ℕ, List, ◌++◌, codes}
use Rattle.std.specs.Fmt.{decimal}
use Rattle.shared_key.specs.Checksum.{checksum_of}
use Rattle.http_frames.specs.declared.frame_error.FrameError.{FrameError}
use Rattle.http_frames.specs.declared.frame_error.FrameError.TheVariants as frames
use Rattle.pull_messages.specs.declared.error.MessageError.{MessageError}
use Rattle.pull_messages.specs.declared.error.MessageError.TheVariants as messages
use Rattle.pull_messages.specs.Names.{name_of}
use Rattle.pull_client.specs.declared.error.PeerError.{PeerError}
use Rattle.pull_client.specs.declared.error.PeerError.TheVariants as peers
use Rattle.node_pull.specs.declared.error.PeerFault.{PeerFault}
use Rattle.node_pull.specs.declared.error.PeerFault.TheVariants.{Answer, Document, Fit, ListTooLong}
use Rattle.dsc_node.specs.Quoted.{quoted}
use Rattle.lcm_program.specs.InputWords.{fit_words, merge_words}

abbrev pub frame_words : FrameError → List ℕ
frame_words frames.Head = codes "Head"
frame_words frames.HeadTooLong = codes "HeadTooLong"
frame_words frames.Coding = codes "Coding"
frame_words frames.Length = codes "Length"
frame_words frames.NoLength = codes "NoLength"
frame_words frames.BodyTooLong = codes "BodyTooLong"
frame_words (frames.Chunk at) = codes "Chunk " ++ decimal at
frame_words (frames.Torn at) = codes "Torn " ++ decimal at
frame_words frames.Memory = codes "Memory"

abbrev pub message_words : MessageError → List ℕ
message_words messages.Json = codes "Json"
message_words (messages.Missing field) = codes "Missing " ++ name_of field
message_words (messages.Wrong field) = codes "Wrong " ++ name_of field
message_words messages.Memory = codes "Memory"

-- the digest that was announced, and that of the body
abbrev pub mismatch_words : List ℕ → List ℕ → List ℕ
mismatch_words announced found = codes "Mismatch " ++ checksum_of announced ++ codes " " ++ checksum_of found

-- of an answer; a failed link and out of memory have statuses of their own, and are never reported so
abbrev pub answer_words : PeerError → List ℕ
answer_words peers.NotServed = codes "NotServed"
answer_words peers.Link = codes "Link"
answer_words peers.TooLong = codes "TooLong"
answer_words (peers.Frame error) = codes "Frame " ++ frame_words error
answer_words (peers.Status code) = codes "Status " ++ decimal code
answer_words (peers.Message error) = codes "Message " ++ message_words error
answer_words (peers.Retry name) = codes "Retry " ++ quoted name
answer_words (peers.Uncovered name) = codes "Uncovered " ++ quoted name
answer_words peers.NoChecksum = codes "NoChecksum"
answer_words (peers.Mismatch announced found) = mismatch_words announced found
answer_words peers.Memory = codes "Memory"

abbrev pub peer_words : PeerFault → List ℕ
peer_words (Answer error) = answer_words error
peer_words (Document error) = codes "Document " ++ merge_words error
peer_words (Fit error) = codes "Fit " ++ fit_words error
peer_words (ListTooLong bytes) = codes "ListTooLong " ++ decimal bytes
