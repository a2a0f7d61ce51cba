use Rattle.std.proofs.lemmas.List.{take_rest}
use Rattle.pull_client.specs.declared.error.PeerError.TheVariants.{Memory}
use Rattle.http_frames.proofs.PassedOn.{passed_on}
use Rattle.node_pull.proofs.PartRows.{at_end, at_error, at_part, at_short, first_name}
use Rattle.node_pull.proofs.listing.+contents.Goals as goal

pub returns-in_default-clause-contents : goal.returns-in_default-clause-contents
returns-in_default-clause-contents g t c = at_end c.args.server.now c.args.agent c.args.names.now c.args.earlier.items _ c.in_default.len_below

pub returns-in_err-part-clause-contents : goal.returns-in_err-part-clause-contents
returns-in_err-part-clause-contents g t c = rw (passed_on c.in_err-part.field-0.0 c.from_residual.result c.from_residual.ensures.1)
    (at_error c.args.server.now c.args.agent c.args.names.now c.args.earlier.items _ _ c.name-item.result c.in_err-part.field-0.0
    (first_name c.args.names.now c.name-item.result c.in-len1-up.len_at_least c.name-item.is) c.in_err-part.ensures.asks)

pub returns-in_err-push-clause-contents : goal.returns-in_err-push-clause-contents
returns-in_err-push-clause-contents g t c = rw (passed_on Memory c.from_residual-in_err-push.result c.from_residual-in_err-push.ensures.1)
    (at_short c.args.server.now c.args.agent c.args.names.now c.args.earlier.items _ _ c.name-item.result c.in_ok-part.part
    (first_name c.args.names.now c.name-item.result c.in-len1-up.len_at_least c.name-item.is) c.in_ok-part.ensures.asks)

pub returns-clause-contents : goal.returns-clause-contents
returns-clause-contents g t c =
    at_part c.args.server.now c.args.agent c.args.names.now _ c.args.earlier.items c.push.new.self.items _ _ _
    c.name-item.result c.in_ok-part.part _ (first_name c.args.names.now c.name-item.result c.in-len1-up.len_at_least c.name-item.is) (take_rest c.args.names.now 1) c.in_ok-push.ensures.items
    c.in_ok-part.ensures.asks c.in_ok-part.ensures.named c.contents.ensures.contents
