use Rattle.std.proofs.Common.{◌∙◌, List, ℕ, Ok, Err, sym, subst, arith}
use Rattle.std.proofs.lemmas.Slice.Eq.{bytes_eq-Decides}
use Rattle.store_fields.specs.Fields.{bytes_of_digest, IsDigest}
use Rattle.store_fields.specs.Reading.{Reads}
use Rattle.node_store.proofs.Added.{found_some, no_digest, not_unequal, other_digest, too_long}
use Rattle.node_store.proofs.blobs.Blobs.take.Goals as goal

pub returns-in_default : goal.returns-in_default
returns-in_default c =
    no_digest c.args.self.now c.args.body.now _ c.in_default.field-0 c.in_default.ensures.no_memory
    (subst (λ (l : List ℕ). Reads bytes_of_digest IsDigest l c.digest.new.self (Err c.in_default.field-0)) (c.of-fields.ensures ∙ c.after_kind.ensures) c.in_default.ensures.reads)

pub returns-then-bytes : goal.returns-then-bytes
returns-then-bytes c =
    too_long c.args.self.now c.args.body.now c.in-Ok.named c.rest-bytes.result.now
    (subst (λ (l : List ℕ). Reads bytes_of_digest IsDigest l c.rest-bytes.result.now (Ok c.in-Ok.named)) (c.of-fields.ensures ∙ c.after_kind.ensures)
    (subst (λ (l : List ℕ). Reads bytes_of_digest IsDigest c.of-fields.result l (Ok c.in-Ok.named)) (sym c.rest-bytes.ensures) c.in-Ok.ensures.reads))
    (λ small. omega (arith, small, c.if-bytes.true))

pub returns-then-ne : goal.returns-then-ne
returns-then-ne c =
    other_digest c.args.self.now c.args.body.now c.in-Ok.named c.rest-bytes.result.now
    (subst (λ (l : List ℕ). Reads bytes_of_digest IsDigest l c.rest-bytes.result.now (Ok c.in-Ok.named)) (c.of-fields.ensures ∙ c.after_kind.ensures)
    (subst (λ (l : List ℕ). Reads bytes_of_digest IsDigest c.of-fields.result l (Ok c.in-Ok.named)) (sym c.rest-bytes.ensures) c.in-Ok.ensures.reads))
    (λ same. not_unequal _ c.ne.result c.ne.ensures c.if-ne.true ((bytes_eq-Decides c.digest-2.result c.in-Ok.named).1 (c.digest-2.ensures ∙ same)))

pub returns-then-is_some : goal.returns-then-is_some
returns-then-is_some c =
    found_some c.args.self.now c.args.body.now c.in-Ok.named c.rest-bytes.result.now
    (subst (λ (l : List ℕ). Reads bytes_of_digest IsDigest l c.rest-bytes.result.now (Ok c.in-Ok.named)) (c.of-fields.ensures ∙ c.after_kind.ensures)
    (subst (λ (l : List ℕ). Reads bytes_of_digest IsDigest c.of-fields.result l (Ok c.in-Ok.named)) (sym c.rest-bytes.ensures) c.in-Ok.ensures.reads))
    c.find.result (sym c.is_some.ensures ∙ c.if-is_some.true) c.find.ensures
