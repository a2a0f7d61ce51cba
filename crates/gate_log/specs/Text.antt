-- The text of a store: seven bytes, a selector, and two banks, of which the selector makes one live. The live bank holds
-- cells, one closed gate, and then anything. Nothing is asked of the other bank.
use Rattle.std.specs.Prelude.{◌≡◌, ◌≢◌, ◌⊎◌, ℕ, ◌+◌, ◌<◌, ◌≤◌, ◌^◌, Bool, true, false, List, [], ◌∷◌, ◌++◌, length, get_or, take, drop}
use Rattle.std.specs.Int.{w32, to_be_bytes}
use Rattle.gate_log.specs.declared.shape.Shape.{Shape}

-- "DSCSTOR"
abbrev pub magic : List ℕ
magic = 68 ∷ 83 ∷ 67 ∷ 83 ∷ 84 ∷ 79 ∷ 82 ∷ []

-- these bytes stand at this place
abbrev pub Holds : ℕ → List ℕ → List ℕ → Type 0
Holds at bytes image = take (length bytes) (drop at image) ≡ bytes

-- what stands after the gate of a cell: the length in four bytes, the greatest first, and the body
unfoldable pub after_gate : List ℕ → List ℕ
after_gate body = to_be_bytes w32 (length body) ++ body

-- the body in two pieces: the first of them stands after four bytes for the length
unfoldable pub body_in : List ℕ → List ℕ → List ℕ
body_in head tail = drop 4 head ++ tail

-- the cells of these bodies, each with an open gate (A5) in front
abbrev pub cells : List (List ℕ) → List ℕ
cells [] = []
cells (body ∷ bodies) = 165 ∷ (after_gate body ++ cells bodies)

-- the bytes that a body takes, its gate and its length with it
abbrev pub need_of : List ℕ → ℕ
need_of body = 5 + length body

-- no body is longer than the largest
abbrev pub AllFit : ℕ → List (List ℕ) → Type 0
AllFit largest [] = Unit {0}
AllFit largest (body ∷ bodies) = (length body ≤ largest) × AllFit largest bodies

-- where a bank begins: the first one, or the second
abbrev pub begin : Shape → Bool → ℕ
begin shape false = 8
begin shape true = 8 + shape.bank

-- the place after the cells of these bodies
abbrev pub end_of : Shape → Bool → List (List ℕ) → ℕ
end_of shape second bodies = begin shape second + length (cells bodies)

-- the selector 32 (hex) makes the second bank live, any other the first
abbrev pub Selects : ℕ → Bool → Type 0
Selects selector true = selector ≡ 50
Selects selector false = selector ≢ 50

-- the seven bytes, and a selector that makes this bank live
pub record IsLive (second : Bool) (image : List ℕ) : Type 0 where
  pub selector : ℕ
  pub head : Holds 0 magic image
  pub selected : Holds 7 (selector ∷ []) image
  pub selects : Selects selector second

-- a bank begins with the cells of these bodies, and a gate after them is within it
pub record HasCells (shape : Shape) (second : Bool) (image : List ℕ) (bodies : List (List ℕ)) : Type 0 where
  pub is : Holds (begin shape second) (cells bodies) image
  pub within : length (cells bodies) + 1 ≤ shape.bank
  pub fit : AllFit shape.largest bodies

-- a bank holds the cells of these bodies, and a closed gate at this place
pub record IsBank (shape : Shape) (second : Bool) (closed : ℕ) (image : List ℕ) (bodies : List (List ℕ)) : Type 0 where
  pub cells : HasCells shape second image bodies
  pub gate : ℕ
  pub shut : gate ≢ 165
  pub closes : Holds closed (gate ∷ []) image
  pub place : closed ≡ end_of shape second bodies

-- a text of the grammar: this bank is live, with these bodies and its closed gate at this place
pub record IsText (shape : Shape) (second : Bool) (closed : ℕ) (image : List ℕ) (bodies : List (List ℕ)) : Type 0 where
  pub head : IsLive second image
  pub bank : IsBank shape second closed image bodies

-- an image gives these bodies: none where it has at most 9 bytes
pub data Gives (shape : Shape) (image : List ℕ) : List (List ℕ) → Type 0 where
  fresh : length image ≤ 9 → Gives shape image []
  text : (second : Bool) (closed : ℕ) (bodies : List (List ℕ)) → 9 < length image → IsText shape second closed image bodies → Gives shape image bodies

-- a length that no cell at this place may have: above the largest, or so that the cell and one gate pass the limit
abbrev pub IsTooLong : ℕ → ℕ → ℕ → ℕ → Type 0
IsTooLong largest limit place number = (largest < number) ⊎ (limit < place + 6 + number)

-- an open gate and this length stand at this place
abbrev pub HasNumber : ℕ → ℕ → List ℕ → Type 0
HasNumber place number image = (number < 2 ^ 32) × Holds place (165 ∷ to_be_bytes w32 number) image

-- Neither a closed gate nor a cell stands at this place. The byte where that shows is the image's end, where the gate, the
-- length or the body is missing in part or whole, or the length that is too long.
pub data FailsFrom (largest limit place : ℕ) (image : List ℕ) : ℕ → Type 0 where
  no_gate : length image ≤ place → FailsFrom largest limit place image (length image)
  no_length : Holds place (165 ∷ []) image → length image < place + 5 → FailsFrom largest limit place image (length image)
  too_long : (number : ℕ) → HasNumber place number image → IsTooLong largest limit place number → FailsFrom largest limit place image (place + 1)
  no_body : (number : ℕ) → HasNumber place number image → (IsTooLong largest limit place number → ⊥) → length image < place + 5 + number → FailsFrom largest limit place image (length image)

-- after the cells of some bodies
pub record FailsInBank (shape : Shape) (second : Bool) (image : List ℕ) (at : ℕ) : Type 0 where
  pub bodies : List (List ℕ)
  pub cells : HasCells shape second image bodies
  pub fails : FailsFrom shape.largest (begin shape second + shape.bank) (end_of shape second bodies) image at

-- The first byte at which the grammar fails: a wrong one of the seven, or one of the live bank.
pub data FailsAt (shape : Shape) (image : List ℕ) : ℕ → Type 0 where
  wrong_magic : (at : ℕ) → at < 7 → at < length image → take at image ≡ take at magic → get_or image at 0 ≢ get_or magic at 0 → FailsAt shape image at
  wrong_bank : (second : Bool) (at : ℕ) → IsLive second image → FailsInBank shape second image at → FailsAt shape image at
