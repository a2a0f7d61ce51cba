-- One read is compared, and the rest of the bytes with what comes after it.
use Rattle.std.proofs.Common.{[], refl, sym, ◌∙◌, length, arith}
use Rattle.std.proofs.KnownBytes.{Consumes-nil}
use Rattle.std.proofs.lemmas.Bool.Decides.{Decides-eqb}
use Rattle.real_outside.proofs.Compared.{differs, rest_decides, same_sized, sized}
use Rattle.real_outside.proofs.comparing.gives_sized.Goals as goal

pub returns-in_default : goal.returns-in_default
returns-in_default g c =
    sized _ _ _ (differs _ _ _ [] _ _ _ (Consumes-nil _) c.in_ok-count.ensures.bytes.0 refl c.in_default.ensures.cases)

pub returns-then-is_empty : goal.returns-then-is_empty
returns-then-is_empty g c =
    let none = (Decides-eqb (length c.in-Some.rest.now) 0).0 (sym c.is_empty.ensures ∙ c.if-is_empty.true) in
    same_sized _ _ _ _ _ _ c.in_ok-count.ensures.bytes.0 c.in-Some.ensures.cases.0 c.in-Some.ensures.cases.1 none (omega (arith, c.if-bytes-size.false))

pub returns : goal.returns
returns g c =
    rest_decides _ _ _ _ _ _ _ c.in_ok-count.ensures.bytes.0 c.in-Some.ensures.cases.0 c.in-Some.ensures.cases.1 c.gives_exactly-2.ensures
