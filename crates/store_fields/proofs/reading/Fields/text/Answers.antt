use Rattle.std.proofs.Common.{arith, sym, subst, List, ℕ, ◌≤◌, ◌≡◌, ◌∙◌, take, drop, length, Ok}
use Rattle.std.specs.Int.{w16}
use Rattle.store_fields.specs.Fields.{bytes_of_number, IsNumber}
use Rattle.store_fields.specs.Reading.{Reads}
use Rattle.store_fields.proofs.Texts.{text_read}
use Rattle.store_fields.proofs.reading.Fields.text.Goals as goal

pub returns : goal.returns
returns c =
    let number = subst (λ (t : List ℕ). Reads (bytes_of_number w16) (IsNumber w16) c.args.self.now t (Ok c.in_ok-length.length)) (sym c.self.view_is) c.in_ok-length.ensures.reads in
    let cases = c.in-Some.ensures.cases in
    let is = λ (P : ℕ → Type 0) (p : P c.from.result). subst P c.from.ensures p in
    record {
      reads = text_read _ _ _ _ _ _ _ (omega (arith, c.ranges.limit.fits)) c.if-length-limit.false number (is (λ (n : ℕ). n ≤ length c.self.inside.rest.now) cases.0) (is (λ (n : ℕ). c.in-Some.front.now ≡ take n c.self.inside.rest.now) cases.1) (is (λ (n : ℕ). c.in-Some.rest.now ≡ drop n c.self.inside.rest.now) cases.2) (cases.3 ∙ c.from.ensures) c.text_of.ensures.ok c.text_of.ensures.wrong;
    }
