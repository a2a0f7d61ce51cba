use Rattle.std.proofs.Common.{◌≡◌, length, ap, subst, arith}
use Rattle.dsc_document.specs.Rules.{texts_to_depend_on}
use Rattle.dsc_document.specs.Tests.{KeepsUpTo}
use Rattle.dsc_document.proofs.InSize.{in_size}
use Rattle.dsc_document.proofs.Declared.{document_distinct, document_few}
use Rattle.dsc_document.proofs.rules.check_part.Goals as goal

pub returns-clause-few : goal.returns-clause-few
returns-clause-few c =
    let few = document_few c.args.instances.items c.in_ok-document_of.field-0 c.in_ok-document_of.ensures
    (subst (KeepsUpTo texts_to_depend_on) c.deref.ensures.value c.in_ok-_ids.ensures.kept) in
    let same : length c.deref.result.now ≡ length c.args.instances.items = ap length c.deref.ensures.value in
    omega (arith, same, c.deref.ensures.len, few)

pub returns-clause-distinct : goal.returns-clause-distinct
returns-clause-distinct c =
    document_distinct c.args.instances.items c.in_ok-document_of.field-0 c.in_ok-document_of.ensures
    (subst (KeepsUpTo texts_to_depend_on) c.deref.ensures.value c.in_ok-_ids.ensures.kept)

pub returns-clause-in_size : goal.returns-clause-in_size
returns-clause-in_size c = λ few.
    let same : length c.deref.result.now ≡ length c.args.instances.items = ap length c.deref.ensures.value in
    in_size c.args.instances.items c.in_ok-document_of.field-0 c.in_ok-document_of.ensures
    (subst (KeepsUpTo texts_to_depend_on) c.deref.ensures.value c.in_ok-_ids.ensures.kept) (omega (arith, few, same, c.deref.ensures.len))
