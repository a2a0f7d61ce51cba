-- A walk over the head of a request, byte by byte, and what the bytes are at each place.
use Rattle.std.specs.Prelude.{◌≡◌, ℕ, ◌+◌, ◌<◌, ◌≤◌, ◌⊎◌, Bool, true, false, List, [], ◌∷◌, ◌++◌, length, take, codes, Option, Some, None, Result, Ok, Err, IsUtf8, ⊤}
use Rattle.std.specs.List.{flat_map}
use Rattle.httparse.specs.Grammar.{LineEnd, print_end, print_blank, print_version, print_field, IsToken, AllPass, is_uri_byte, is_value_byte, RequestHead, IsRequestHead, ReadsRequest, EndsInTarget}
use Rattle.http_frames.specs.declared.frame_error.FrameError.{FrameError}
use Rattle.http_frames.specs.declared.head_places.Place.{Place}
use Rattle.http_frames.specs.declared.head_places.Place.TheVariants.{Front, FrontReturn, Method, TargetFront, Target, Version, VersionEnd, StartReturn, Line, LastReturn, Name, Value, ValueReturn, Whole}
use Rattle.http_frames.specs.declared.head_walk.HeadWalk.{HeadWalk}
use Rattle.http_frames.specs.declared.head_walk.HeadRead.{HeadRead}
use Rattle.http_frames.specs.declared.head_walk.HeadRead.TheVariants as reads
use Rattle.http_frames.specs.Limits.{head_bytes, header_lines}
use Rattle.http_frames.specs.Heads.{IsNoRequest, AwaitsRequest, IsRequestHeadOf, RefusesRequestHead}
use Rattle.http_frames.specs.HeadPlaces.{is_whole, place_after}

-- empty lines, a method, a space, and so much of a target
pub record IsTargetBegun (bytes target : List ℕ) : Type 0 where
  pub blank : List LineEnd
  pub method : List ℕ
  pub token : IsToken method
  pub uri : AllPass is_uri_byte target
  pub is : bytes ≡ print_blank blank ++ (method ++ 32 ∷ target)

-- a whole target and the space after it, and then the text
pub record IsVersionAfter (bytes text : List ℕ) : Type 0 where
  pub front : List ℕ
  pub target : List ℕ
  pub begun : IsTargetBegun front target
  pub some : 0 < length target
  pub target_text : IsUtf8 target
  pub is : bytes ≡ front ++ 32 ∷ text

-- method SP target SP version line-end
abbrev pub start_line : RequestHead → List ℕ
start_line h = h.method ++ 32 ∷ (h.target ++ 32 ∷ (print_version h.minor ++ print_end h.line_end))

-- a head up to its last line
abbrev pub before_end : RequestHead → List ℕ
before_end h = print_blank h.blank ++ (start_line h ++ flat_map print_field h.fields)

-- a head up to its last line, after which that many header lines may stand
pub record AreLines (left : ℕ) (bytes : List ℕ) : Type 0 where
  pub head : RequestHead
  pub valid : IsRequestHead head
  pub count : length head.fields + left ≡ header_lines
  pub is : bytes ≡ before_end head

-- what the bytes are at a place
abbrev pub AreBegun : Place → List ℕ → Type 0
AreBegun Front bytes = (blank : List LineEnd) × (bytes ≡ print_blank blank)
AreBegun FrontReturn bytes = (blank : List LineEnd) × (bytes ≡ print_blank blank ++ 13 ∷ [])
AreBegun Method bytes = (blank : List LineEnd) × (method : List ℕ) × IsToken method × (bytes ≡ print_blank blank ++ method)
AreBegun TargetFront bytes = IsTargetBegun bytes []
AreBegun Target bytes = (target : List ℕ) × (0 < length target) × IsTargetBegun bytes target
AreBegun (Version n) bytes = (n ≤ 7) × IsVersionAfter bytes (take n (codes "HTTP/1."))
AreBegun VersionEnd bytes = (minor : ℕ) × (minor ≤ 1) × IsVersionAfter bytes (print_version minor)
AreBegun StartReturn bytes = (minor : ℕ) × (minor ≤ 1) × IsVersionAfter bytes (print_version minor ++ 13 ∷ [])
AreBegun (Line left) bytes = AreLines left bytes
AreBegun LastReturn bytes = (left : ℕ) × (lines : List ℕ) × AreLines left lines × (bytes ≡ lines ++ 13 ∷ [])
AreBegun (Name left) bytes =
    (lines : List ℕ) × (name : List ℕ) × AreLines (left + 1) lines × IsToken name × (bytes ≡ lines ++ name)
AreBegun (Value left) bytes =
    (lines : List ℕ) × (name : List ℕ) × (raw : List ℕ) × AreLines (left + 1) lines × IsToken name
    × AllPass is_value_byte raw × (bytes ≡ lines ++ (name ++ 58 ∷ raw))
AreBegun (ValueReturn left) bytes =
    (lines : List ℕ) × (name : List ℕ) × (raw : List ℕ) × AreLines (left + 1) lines × IsToken name
    × AllPass is_value_byte raw × (bytes ≡ lines ++ (name ++ 58 ∷ (raw ++ 13 ∷ [])))
AreBegun Whole bytes = ⊤

-- the walk is over the first of the bytes
pub record IsWalkedHead (bytes : List ℕ) (walk : HeadWalk) : Type 0 where
  pub length : walk.length ≤ length bytes
  pub short : walk.length ≤ head_bytes
  pub after : place_after Front (take walk.length bytes) ≡ Some walk.place
  pub begun : AreBegun walk.place (take walk.length bytes)

-- a walk goes on to the end of the head or of the bytes, or no continuation of them is a head
abbrev pub HeadWalked : List ℕ → Option HeadWalk → Type 0
HeadWalked bytes None = IsNoRequest bytes
HeadWalked bytes (Some walk) = IsWalkedHead bytes walk × (is_whole walk.place ≡ false → walk.length ≡ length bytes)

-- one byte on from a walk over n bytes
abbrev pub HeadStepped : List ℕ → ℕ → Option HeadWalk → Type 0
HeadStepped bytes n None = IsNoRequest bytes
HeadStepped bytes n (Some walk) = IsWalkedHead bytes walk × (walk.length ≡ n + 1)

-- some continuation of the bytes has a head at its front, or they end inside a target
abbrev pub CanGoOn : List ℕ → Type 0
CanGoOn bytes =
    ((more : List ℕ) × (head : RequestHead) × (rest : List ℕ) × ReadsRequest (bytes ++ more) head rest) ⊎ EndsInTarget bytes

-- the bytes go on to a head, exactly where this is true
abbrev pub GoesOn : List ℕ → Bool → Type 0
GoesOn bytes true = CanGoOn bytes
GoesOn bytes false = IsNoRequest bytes

-- what is read of a head
abbrev pub IsHeadRead : List ℕ → Result HeadRead FrameError → Type 0
IsHeadRead bytes (Ok (reads.More walk)) = IsWalkedHead bytes walk × AwaitsRequest bytes
IsHeadRead bytes (Ok (reads.Whole start)) = IsRequestHeadOf bytes start
IsHeadRead bytes (Err e) = RefusesRequestHead bytes e
