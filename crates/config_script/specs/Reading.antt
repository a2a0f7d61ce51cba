-- How code reads a script: what it takes note of and what it writes, part by part, and what it has of them at the end.
use Rattle.std.specs.Prelude.{◌≡◌, ◌<◌, ◌≤◌, ◌⊎◌, ℕ, false, ◌||◌, List, [], ◌∷◌, ◌++◌, Option, Some, None, encode_utf8_all, length, string_bytes}
use Rattle.std.specs.Str.{chars}
use Rattle.mof_syntax.specs.Limits.{document_limit}
use Rattle.mof_syntax.specs.Scanning.{left_of}
use Rattle.mof_codec.specs.Written.{Adds}
use Rattle.config_script.specs.declared.checks.Findings.{Findings}
use Rattle.config_script.specs.declared.read.Reading.{Reading}
use Rattle.config_script.specs.declared.writing.Writer.{Writer}
use Rattle.config_script.specs.Checking.{unknown_in, reserved_in, named_in, or_else}
use Rattle.config_script.specs.Places.{Event, IsRead}
use Rattle.config_script.specs.Writing.{named_after, named_text, title_after, written}

-- the bytes after are those before and the characters; nothing is added to bytes that are longer than a document may be
abbrev pub Continues : List ℕ → List ℕ → List ℕ → Type 0
Continues before after text =
    ((length before ≤ document_limit) × Adds before after text) ⊎ ((document_limit < length before) × (after ≡ before))

-- nothing was found, and nothing written
pub record IsNew (reading : Reading) : Type 0 where
  pub unknown : left_of reading.findings.unknown ≡ None
  pub reserved : left_of reading.findings.reserved ≡ None
  pub named : reading.findings.names_node ≡ false
  pub out : string_bytes reading.writer.out ≡ []
  pub title : chars reading.writer.title.now ≡ []
  pub is_named : reading.writer.is_named ≡ false

-- note is taken of an event
pub record Notes (node : List ℕ) (old new : Findings) (e : Event) : Type 0 where
  pub unknown : left_of new.unknown ≡ or_else (left_of old.unknown) (unknown_in (e ∷ []))
  pub reserved : left_of new.reserved ≡ or_else (left_of old.reserved) (reserved_in (e ∷ []))
  pub named : new.names_node ≡ (old.names_node || named_in node (e ∷ []))

-- what an event adds is written
pub record Writes (node : List ℕ) (old new : Writer) (e : Event) : Type 0 where
  pub out : Continues (string_bytes old.out) (string_bytes new.out) (named_text (chars old.title.now) old.is_named e)
  pub title : chars new.title.now ≡ title_after (chars old.title.now) e
  pub is_named : new.is_named ≡ named_after node old.is_named e

pub record TakesEvent (node : List ℕ) (old new : Reading) (e : Event) : Type 0 where
  pub findings : Notes node old.findings new.findings e
  pub writer : Writes node old.writer new.writer e

-- an event is taken, if there is one
abbrev pub Takes : List ℕ → Reading → Reading → Option Event → Type 0
Takes node old new None = new ≡ old
Takes node old new (Some e) = TakesEvent node old new e

-- the bytes and the characters that are left to write are the whole; or the bytes are a front of it that is longer than a
-- document may be
abbrev pub Leaves : List ℕ → List ℕ → List ℕ → Type 0
Leaves bytes left whole =
    (bytes ++ encode_utf8_all left ≡ encode_utf8_all whole)
    ⊎ ((rest : List ℕ) × (encode_utf8_all whole ≡ bytes ++ rest) × (document_limit < length bytes))

-- the text is a script, and this was found in it and written of it, up to the header
pub record IsReadOf (text node : List ℕ) (reading : Reading) : Type 0 where
  pub events : List Event
  pub script : IsRead text events
  pub unknown : left_of reading.findings.unknown ≡ unknown_in events
  pub reserved : left_of reading.findings.reserved ≡ reserved_in events
  pub named : reading.findings.names_node ≡ named_in node events
  pub written : Leaves (string_bytes reading.writer.out) (written (chars reading.writer.title.now) node reading.writer.is_named [])
      (written [] node false events)
