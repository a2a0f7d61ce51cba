use Rattle.std.proofs.Common.{refl}
use Rattle.std.specs.Cow.{cow_str_bytes, IsBorrowedStr, IsOwnedStr}
use Rattle.std.specs.Str.{chars}
use Rattle.mof_syntax.proofs.Bodies.{refused_after_utf16, ok_after_utf8, refused_after_utf8, never_memory, has_utf16_mark, rest_of_bytes, no_case, each_case}
use Rattle.mof_syntax.proofs.Decoded.{only_refused}
use Rattle.mof_syntax.proofs.decoding.decode_text.Goals as goal

pub returns-in-Utf8 : goal.returns-in-Utf8
returns-in-Utf8 c = record {
  ok = ok_after_utf8 (λ t. chars (cow_str_bytes t)) _ _ _ _ c.in-Utf8.is c.split_mark-encoding.ensures.encoding c.split_mark-encoding.ensures.body c.decode_utf8.ensures.ok;
  refused = refused_after_utf8 _ _ _ _ _ c.in-Utf8.is c.split_mark-encoding.ensures.encoding c.split_mark-encoding.ensures.body refl c.decode_utf8.ensures.refused;
  only = only_refused _ _ (refused_after_utf8 _ _ _ _ _ c.in-Utf8.is c.split_mark-encoding.ensures.encoding c.split_mark-encoding.ensures.body refl c.decode_utf8.ensures.refused);
  memory = λ is. absurd (never_memory _ _ _ c.decode_utf8.ensures.refused is);
  borrowed = rest_of_bytes IsBorrowedStr cow_str_bytes _ _ _ _ c.split_mark-encoding.ensures.encoding c.split_mark-encoding.ensures.body c.decode_utf8.ensures.same;
  owned = no_case IsOwnedStr _ _ c.decode_utf8.ensures.borrowed;
}

pub returns-in-Utf16-clause-refused : goal.returns-in-Utf16-clause-refused
returns-in-Utf16-clause-refused c = refused_after_utf16 _ _ _ _ _ _ c.in-Utf16.is c.split_mark-encoding.ensures.encoding c.split_mark-encoding.ensures.body refl c.decode_utf16.ensures.refused

pub returns-in-Utf16-clause-only : goal.returns-in-Utf16-clause-only
returns-in-Utf16-clause-only c = only_refused _ _ (refused_after_utf16 _ _ _ _ _ _ c.in-Utf16.is c.split_mark-encoding.ensures.encoding c.split_mark-encoding.ensures.body refl c.decode_utf16.ensures.refused)

pub returns-in-Utf16-clause-memory : goal.returns-in-Utf16-clause-memory
returns-in-Utf16-clause-memory c = λ is. has_utf16_mark _ _ _ _ c.in-Utf16.is c.split_mark-encoding.ensures.body

pub returns-in-Utf16-clause-borrowed : goal.returns-in-Utf16-clause-borrowed
returns-in-Utf16-clause-borrowed c = no_case IsBorrowedStr _ _ c.decode_utf16.ensures.owned

pub returns-in-Utf16-clause-owned : goal.returns-in-Utf16-clause-owned
returns-in-Utf16-clause-owned c = each_case IsOwnedStr _ _ (has_utf16_mark _ _ _ _ c.in-Utf16.is c.split_mark-encoding.ensures.body)
