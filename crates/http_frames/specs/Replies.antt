-- The forms of replies.
use Rattle.std.specs.Prelude.{ℕ, List, []}
use Rattle.http_frames.specs.declared.message.Reply.{Reply}

-- a code and a body, without headers
abbrev pub saying : ℕ → List ℕ → Reply
saying code body = record { code = code; headers = []; body = body }
