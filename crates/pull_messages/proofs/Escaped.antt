-- Bytes at the front of a text.
use Rattle.std.proofs.Common.{◌≡◌, ◌≢◌, inl, inr, ◌-◌, ◌≤◌, ℕ, List, [], ◌∷◌, ◌++◌, length, take, drop, get_or, Option, Some, None, IfSome, IfNone, refl, sym, ◌∙◌, ap, arith, append_assoc, append-nil}
use Rattle.std.proofs.Math.Seq.{take_all}
use Rattle.pull_messages.specs.Escapes.{IsWritten, IsEscapeOf, HasNoByte}
use Rattle.pull_messages.specs.Spelling.{Spells}

-- a text of at least one byte as its first and the others
pub split_first : (text : List ℕ) → 1 ≤ length text → text ≡ get_or text 0 0 ∷ take (length text - 1) (drop 1 text)
split_first [] some = absurd (omega arith)
split_first (x ∷ text) some = ap (λ (l : List ℕ). x ∷ l) (sym (take_all (length (x ∷ text) - 1) text (omega arith)))

-- a plain byte
pub plain_front : (text rest : List ℕ) (byte : ℕ) → text ≡ byte ∷ rest → byte ≢ 37 → (front : List ℕ) × (text ≡ front ++ rest) × IsWritten byte front
plain_front text rest byte split other = (byte ∷ [], split, inl (refl, other))

-- an escape after its sign
pub escape_front : (text after rest : List ℕ) (byte : ℕ) → text ≡ 37 ∷ after → IsEscapeOf after byte rest
    → (front : List ℕ) × (text ≡ front ++ rest) × IsWritten byte front
escape_front text after rest byte split (high, low, a, b, is, first, second, value) =
    (37 ∷ high ∷ low ∷ [], split ∙ ap (λ (l : List ℕ). 37 ∷ l) is, inr (high, low, a, b, refl, first, second, value))

pub escape_back : (text after front rest : List ℕ) (byte : ℕ) → text ≡ 37 ∷ after → text ≡ front ++ rest → IsWritten byte front → IsEscapeOf after byte rest
escape_back text after front rest byte split fronts (inl plain) =
    let whole : 37 ∷ after ≡ byte ∷ rest = sym split ∙ fronts ∙ ap (λ (l : List ℕ). l ++ rest) plain.0 in
    let same : byte ≡ 37 = cc in
    absurd (plain.1 same)
escape_back text after front rest byte split fronts (inr (high, low, a, b, is, first, second, value)) =
    let whole : 37 ∷ after ≡ 37 ∷ high ∷ low ∷ rest = sym split ∙ fronts ∙ ap (λ (l : List ℕ). l ++ rest) is in
    let tail : after ≡ high ∷ low ∷ rest = cc in
    (high, low, a, b, tail, first, second, value)

-- the answers for an escape are those for its text
pub escape_none : {X : Type 0} (text remaining : List ℕ) (o : Option X) → text ≡ 37 ∷ remaining
    → IfNone o ((byte : ℕ) (rest : List ℕ) → IsEscapeOf remaining byte rest → ⊥) → IfNone o (HasNoByte text)
escape_none text remaining None split none = λ byte front after is written. none byte after (escape_back text remaining front after byte split is written)
escape_none text remaining (Some x) split none = tt

pub if_some : {X : Type 0} (o : Option X) (P Q : X → Type 0) → IfSome o P → ((x : X) → P x → Q x) → IfSome o Q
if_some None P Q h weaker = tt
if_some (Some x) P Q h weaker = weaker x h

pub sign_first : (text : List ℕ) → 1 ≤ length text → get_or text 0 0 ≡ 37 → text ≡ 37 ∷ take (length text - 1) (drop 1 text)
sign_first text some is = split_first text some ∙ ap (λ (x : ℕ). x ∷ take (length text - 1) (drop 1 text)) is

-- one more byte is written
pub written_more : (bytes front : List ℕ) (byte : ℕ) (more : List ℕ) → Spells IsWritten bytes front → IsWritten byte more
    → Spells IsWritten (bytes ++ byte ∷ []) (front ++ more)
written_more [] front byte more done next =
    (more, [], ap (λ (l : List ℕ). l ++ more) done ∙ sym (append-nil more), next, refl)
written_more (b ∷ bytes) front byte more (first, rest, split, is, others) next =
    (first, rest ++ more, ap (λ (l : List ℕ). l ++ more) split ∙ append_assoc first rest more, is, written_more bytes rest byte more others next)

pub more_front : (text front left byte rest : List ℕ) → text ≡ front ++ left → left ≡ byte ++ rest → text ≡ (front ++ byte) ++ rest
more_front text front left byte rest split is = split ∙ ap (λ (l : List ℕ). front ++ l) is ∙ sym (append_assoc front byte rest)
