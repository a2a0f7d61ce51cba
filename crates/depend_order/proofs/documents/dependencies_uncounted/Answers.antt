use Rattle.std.proofs.lemmas.Result.{IfOk-weaker}
use Rattle.depend_order.specs.Documents.{AreDependencies}
use Rattle.depend_order.specs.Index.{AreResolved}
use Rattle.depend_order.proofs.Resolved.{are_dependencies}
use Rattle.depend_order.proofs.documents.dependencies_uncounted.Goals as goal

pub returns : goal.returns
returns g c =
    let document = c.args.document.now in
    IfOk-weaker c.known_places.result (λ depends. AreResolved document.resources document.resources depends.items) (λ depends. AreDependencies document depends.items)
    (λ depends resolved. are_dependencies document depends.items resolved c.requires.distinct) c.known_places.ensures.places
