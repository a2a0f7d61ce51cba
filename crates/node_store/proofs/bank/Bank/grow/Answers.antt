use Rattle.std.proofs.Common.{◌∙◌, List, ap, refl, sym, subst}
use Rattle.std.specs.List.{AllByRecursion}
use Rattle.store_fields.specs.Fields.{IsBlob}
use Rattle.partial_merge.specs.declared.part.Part.{Part}
use Rattle.node_store.specs.Bank.{BankTerm, Grew}
use Rattle.node_store.proofs.BankGrown.{grew_by, refused_by}
use Rattle.node_store.proofs.Lengths.{staged_blobs}
use Rattle.node_store.proofs.bank.Bank.grow.Goals as goal

pub hold-requires : goal.hold-requires
hold-requires c = record { small = subst (λ (l : List Part). AllByRecursion (λ (part : Part). IsBlob part.bytes) l) (sym c.parts.ensures) (staged_blobs c.in-Stage.staged.parts c.in-Stage.staged.whole) }

pub returns-in_err-apart-clause-refused : goal.returns-in_err-apart-clause-refused
returns-in_err-apart-clause-refused c =
    refused_by c.args.self.now c.args.event.now c.in-Stage.staged c.hold.new.self c.in-Stage.is _ (ap (λ t. record { log = c.self.inside.log; texts = t; by_digests = c.self.inside.by_digests }) c.in_err-apart.ensures ∙ c.self.view_is) c.from_residual.result

pub returns-clause-grew : goal.returns-clause-grew
returns-clause-grew c =
    let old : BankTerm = record { log = c.self.inside.log; texts = c.self.inside.texts; by_digests = c.self.inside.by_digests } in
    let new : BankTerm = record old { texts = c.hold.new.self } in
    subst (λ (b : BankTerm). Grew b c.args.event.now c.then_some.result new) c.self.view_is
    (subst (λ o. Grew old c.args.event.now o new) (sym c.then_some.ensures)
    (grew_by old c.args.event.now c.in-Stage.staged c.hold.new.self c.in-Stage.is c.parts.result.now c.in_ok-apart.apart _ c.len-from.result c.parts.ensures refl c.len-from.ensures c.in_ok-apart.ensures))
