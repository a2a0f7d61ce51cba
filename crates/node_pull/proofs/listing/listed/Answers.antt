use Rattle.std.proofs.Common.{◌∙◌, ap}
use Rattle.pull_client.specs.declared.error.PeerError.TheVariants.{Memory}
use Rattle.node_pull.specs.Listing.{no_memory}
use Rattle.node_pull.specs.Names.{asked_of}
use Rattle.http_frames.proofs.PassedOn.{passed_on}
use Rattle.node_pull.proofs.ListedParts.{listed_named}
use Rattle.node_pull.proofs.ListRows.{fetched_is, listing_answered, no_answer}
use Rattle.node_pull.proofs.listing.listed.Goals as goal

pub returns-in_err-names-clause-listed : goal.returns-in_err-names-clause-listed
returns-in_err-names-clause-listed g c = rw (passed_on Memory c.from_residual.result c.from_residual.ensures.1) (no_memory _)

pub returns-in_err-asked-clause-listed : goal.returns-in_err-asked-clause-listed
returns-in_err-asked-clause-listed g c = rw (passed_on Memory c.from_residual-in_err-asked.result c.from_residual-in_err-asked.ensures.1) (no_memory _)

pub returns-in_err-marks-clause-listed : goal.returns-in_err-marks-clause-listed
returns-in_err-marks-clause-listed g c = rw (passed_on Memory c.from_residual-in_err-marks.result c.from_residual-in_err-marks.ensures.1) (no_memory _)

pub returns-clause-listed : goal.returns-clause-listed
returns-clause-listed g c =
    let asked_is = c.in_ok-asked.ensures ∙ ap (asked_of c.args.meta.now) c.deref.ensures.value in
    listing_answered c.args.meta.now c.args.server.now c.args.agent c.args.held.now c.deref-2.result.now c.in_ok-names.names.items c.deref-3.result.now c.in_ok-fetches.fetches.items _ _ _ _
    c.in_ok-names.ensures (c.deref-2.ensures.value ∙ c.in_ok-marks.ensures) (c.deref-3.ensures.value ∙ asked_is) c.in_ok-fetches.ensures.asks
    (fetched_is c.args.meta.now c.args.server.now c.args.agent c.args.held.now c.in_ok-names.names.items c.deref-4.result.now c.deref-5.result.now c.in_ok-fetches.fetches.items
    c.deref-6.result.now _ _ _ c.deref-4.ensures.value (c.deref-5.ensures.value ∙ asked_is) c.deref-6.ensures.value c.fetched.ensures.fetched)

pub returns-clause-named : goal.returns-clause-named
returns-clause-named g c =
    let asked_is = c.in_ok-asked.ensures ∙ ap (asked_of c.args.meta.now) c.deref.ensures.value in
    listed_named c.args.meta.now c.args.server.now c.args.agent c.args.held.now c.deref-2.result.now c.in_ok-names.names.items c.deref-3.result.now c.in_ok-fetches.fetches.items _ _ c.fetched.result
    c.requires.meta c.requires.names c.in_ok-names.ensures (c.deref-2.ensures.value ∙ c.in_ok-marks.ensures) (c.deref-3.ensures.value ∙ asked_is) c.in_ok-fetches.ensures.answers
    (fetched_is c.args.meta.now c.args.server.now c.args.agent c.args.held.now c.in_ok-names.names.items c.deref-4.result.now c.deref-5.result.now c.in_ok-fetches.fetches.items
    c.deref-6.result.now _ _ _ c.deref-4.ensures.value (c.deref-5.ensures.value ∙ asked_is) c.deref-6.ensures.value c.fetched.ensures.fetched)

pub returns-in_err-fetches-clause-listed : goal.returns-in_err-fetches-clause-listed
returns-in_err-fetches-clause-listed g c = rw (passed_on c.in_err-fetches.field-0.0 c.from_residual-in_err-fetches.result c.from_residual-in_err-fetches.ensures.1)
    (no_answer c.args.meta.now c.args.server.now c.args.agent c.args.held.now c.deref-2.result.now c.in_ok-names.names.items c.deref-3.result.now _ _ c.in_err-fetches.field-0.0 c.in_ok-names.ensures
    (c.deref-2.ensures.value ∙ c.in_ok-marks.ensures) (c.deref-3.ensures.value ∙ c.in_ok-asked.ensures ∙ ap (asked_of c.args.meta.now) c.deref.ensures.value) c.in_err-fetches.ensures.asks)
