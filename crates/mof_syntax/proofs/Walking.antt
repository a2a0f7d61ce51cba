-- The steps of a walk.
use Rattle.std.proofs.Common.{◌≡◌, ◌<◌, ◌+◌, ◌-◌, ◌^◌, ℕ, List, ◌++◌, length, take, drop, Some, None, refl, sym, ap, subst, ◌∙◌, length-append, length-drop, arith}
use Rattle.std.proofs.lemmas.List.{drop-drop, take_at, drop_at}
use Rattle.std.specs.Prelude.{slice_range}
use Rattle.mof_syntax.specs.Characters.{EndsWith}
use Rattle.mof_syntax.specs.Separators.{Separator, Separators, none, another}
use Rattle.mof_syntax.specs.Scanning.{separator_rest}
use Rattle.mof_syntax.specs.Walk.{IsPlace, NoSeparator, NoToken, StandsToken, Skips, TokenStands}
use Rattle.mof_syntax.specs.declared.token.TokenKind.{TokenKind}
use Rattle.mof_syntax.proofs.Scans.{separator-read, read-separator}
use Rattle.mof_syntax.proofs.Suffixes.{weak, EndsWithin-length, separator_ends, separators_end, token_ends}

separators_then : (cs mid rest : List ℕ) → Separators cs mid → Separator mid rest → Separators cs rest
separators_then cs mid rest (none r) s = another r rest rest s (none rest)
separators_then cs mid rest (another us after r first more) s = another us after rest first (separators_then after r rest more s)

pub separators_on : (cs left rest : List ℕ) → Separators cs left → Some rest ≡ separator_rest left → Separators cs rest
separators_on cs left rest s e = separators_then cs left rest s (read-separator left rest (sym e))

pub separator_shorter : (left rest : List ℕ) → Some rest ≡ separator_rest left → length rest < length left
separator_shorter left rest e = EndsWithin-length left rest (separator_ends left rest (read-separator left rest (sym e)))

pub NoSeparator-from_rest : (cs : List ℕ) → separator_rest cs ≡ None → NoSeparator cs
NoSeparator-from_rest cs e rest s = apart rest (sym e ∙ separator-read cs rest s)
  where
    apart : (xs : List ℕ) → None ≡ Some xs → ⊥
    apart xs h = cc

-- places

pub IsPlace-next : (text left over rest : List ℕ) (place : ℕ) → IsPlace text left place → left ≡ over ++ rest → IsPlace text rest (place + length over)
IsPlace-next text left over rest place p split =
    let sum : length left ≡ length over + length rest = ap length split ∙ length-append over rest in
    let long : length left ≡ length text - place = ap length p.rest ∙ length-drop place text in
    record {
      rest = sym (drop_at over rest (length over) refl) ∙ ap (drop (length over)) (sym split ∙ p.rest) ∙ drop-drop (length over) place text;
      within = omega (arith, p.within);
    }

pub skipped : (text left over rest : List ℕ) (place : ℕ) → IsPlace text left place → left ≡ over ++ rest → Separators left rest → separator_rest rest ≡ None
    → Skips text place (place + length over)
skipped text left over rest place p split s stops =
    let next = IsPlace-next text left over rest place p split in
    record {
      from = omega arith;
      within = next.within;
      separators = subst (λ (xs : List ℕ). Separators xs (drop (place + length over) text)) p.rest (subst (λ (xs : List ℕ). Separators left xs) next.rest s);
      no_separator = subst (λ (xs : List ℕ). NoSeparator xs) next.rest (NoSeparator-from_rest rest stops);
    }

pub found : (text left over rest : List ℕ) (from : ℕ) (kind : TokenKind) → IsPlace text left from → left ≡ over ++ rest → StandsToken left kind rest
    → TokenStands text kind from (from + length over)
found text left over rest from kind p split s =
    let next = IsPlace-next text left over rest from p split in
    let sum : length left ≡ length over + length rest = ap length split ∙ length-append over rest in
    let short_rest : length rest < length left = EndsWithin-length left rest (token_ends left s.lexeme rest s.stands) in
    record {
      rises = omega arith;
      within = next.within;
      token = subst (λ (xs : List ℕ). StandsToken xs kind (drop (from + length over) text)) p.rest (subst (λ (xs : List ℕ). StandsToken left kind xs) next.rest s);
    }

pub slice_is : (text left over rest : List ℕ) (from : ℕ) → IsPlace text left from → left ≡ over ++ rest → over ≡ slice_range text from (from + length over)
slice_is text left over rest from p split =
    sym (take_at over rest (from + length over - from) (omega arith)) ∙ ap (take (from + length over - from)) (sym split ∙ p.rest)

pub separators_before : (left rest : List ℕ) → Separators left rest → EndsWith left rest
separators_before left rest s = separators_end left rest s

pub token_before : (left rest : List ℕ) (kind : TokenKind) → StandsToken left kind rest → EndsWith left rest
token_before left rest kind s = weak left rest (token_ends left s.lexeme rest s.stands)

-- a number of characters of a text of fewer than 2^32
pub fits : (text left over rest : List ℕ) (place : ℕ) → IsPlace text left place → left ≡ over ++ rest → length text < 2 ^ 32 → place + length over < 2 ^ 32
fits text left over rest place p split small = omega (arith, (IsPlace-next text left over rest place p split).within)

-- no token stands at the place after the characters
pub none_found : (text left over rest : List ℕ) (place : ℕ) → IsPlace text left place → left ≡ over ++ rest → NoToken rest → NoToken (drop (place + length over) text)
none_found text left over rest place p split none_is = subst (λ (xs : List ℕ). NoToken xs) (IsPlace-next text left over rest place p split).rest none_is

-- a step over separators and a token leaves fewer characters
pub nearer : (text left over after token rest : List ℕ) (place : ℕ) (kind : TokenKind) → IsPlace text left place → left ≡ over ++ after
    → after ≡ token ++ rest → StandsToken after kind rest → length text - (place + length over + length token) < length text - place
nearer text left over after token rest place kind p split cut s =
    let next = IsPlace-next text left over after place p split in
    let t = found text after token rest (place + length over) kind next cut s in
    omega (arith, next.within, t.rises, t.within)

pub count_fits : (text left over rest : List ℕ) (place : ℕ) → IsPlace text left place → left ≡ over ++ rest → length text < 2 ^ 32 → length over < 2 ^ 32
count_fits text left over rest place p split small = omega (arith, fits text left over rest place p split small)
