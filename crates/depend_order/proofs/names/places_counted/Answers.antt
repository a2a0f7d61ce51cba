use Rattle.std.proofs.Common.{◌≡◌, ◌<◌, Some, get_or, length, ap, sym, ◌∙◌, arith, take_all}
use Rattle.std.proofs.lemmas.Option.{slice_get-get_or}
use Rattle.depend_order.proofs.Counting.{names_more}
use Rattle.depend_order.proofs.Resolving.{resolved_more}
use Rattle.depend_order.proofs.Unknown.{first_unknown}
use Rattle.depend_order.proofs.names.places_counted.Goals as goal

pub returns-then-len-names-clause-refused : goal.returns-then-len-names-clause-refused
returns-then-len-names-clause-refused g c =
    let document = c.args.document.now in
    let index = rw c.as_slice-resources.ensures at c.in_ok-index.ensures.index in
    let lt = rw c.as_slice-resources.ensures at c.loop-resource-test.true in
    let read = rw c.as_slice-resources.ensures at c.resource-item.is in
    let kept = rw c.as_slice-names.ensures at c.in_ok-places.ensures.places in
    let unknown = rw c.as_slice-names.ensures at c.in_ok-places.ensures.unknown in
    let name = c.index-names-len.result in
    let count = length c.in_ok-places.places.items in
    let long : c.len-then-len-names.result ≡ count = omega (arith, c.len-then-len-names.ensures, c.in_ok-places.places.ok) in
    let within : count < length c.as_slice-names.result.now = omega (arith, c.if-len-names.true) in
    let at = rw c.as_slice-names.ensures at (slice_get-get_or c.as_slice-names.result.now count name within ∙ ap Some (sym (c.index-names-len.is ∙ ap (λ n. get_or c.as_slice-names.result.now n name) long))) in (
      rw c.as_slice-resources.ensures at c.in_ok-index.ensures.apart,
      rw (c.spot_of.ensures, c.in_ok-copy.ensures) (first_unknown document c.in_ok-index.index index c.loop-resource.resource-index c.resource-item.result c.loop-resource.depends.items c.in_ok-places.places.items name
          lt read c.loop-resource.invariant.places kept at (unknown name at)),
    )

pub loop-resource-preserved : goal.loop-resource-preserved
loop-resource-preserved g c =
    let all = c.args.document.now.resources in
    let index = rw c.as_slice-resources.ensures at c.in_ok-index.ensures.index in
    let lt = rw c.as_slice-resources.ensures at c.loop-resource-test.true in
    let read = rw c.as_slice-resources.ensures at c.resource-item.is in
    let kept = rw c.as_slice-names.ensures at c.in_ok-places.ensures.places in
    rw c.in_ok-push.ensures.items (record {
      places = resolved_more all c.in_ok-index.index index c.loop-resource.depends.items c.loop-resource.resource-index c.resource-item.result c.in_ok-places.places lt read
          (rw (take_all (length c.in_ok-places.places.items) c.resource-item.result.depends (omega (arith, c.if-len-names.false, ap length c.as_slice-names.ensures))) at kept) c.loop-resource.invariant.places;
      steps = omega (arith, c.loop-resource.invariant.steps, c.places_in.ensures.steps, ap length c.as_slice-names.ensures, names_more all c.loop-resource.resource-index c.resource-item.result lt read);
    })
