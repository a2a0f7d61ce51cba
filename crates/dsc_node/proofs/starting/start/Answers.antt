use Rattle.std.specs.Prelude.{string_bytes}
use Rattle.dsc_outside.specs.LinkView.{view_of}
use Rattle.dsc_node.specs.Start.{outside}
use Rattle.dsc_node.proofs.Headline.{host_headline}
use Rattle.dsc_node.proofs.starting.start.Goals as goal

pub returns-clause-headline : goal.returns-clause-headline
returns-clause-headline g c =
    host_headline g.D.Disk g.H.Host g.C.Clock c.repair_laws.ensures.succeeds c.repair_laws.ensures.contained c.trace_laws.ensures.together c.args.command
    (outside c.args.disk.now c.args.kinds.now (view_of g.L.Link c.args.link.now) c.args.clock.now) (outside c.start_over.new.disk c.start_over.new.machine (view_of g.L.Link c.start_over.new.link) c.start_over.new.clock)
    c.start_over.result.status (string_bytes c.start_over.result.lines) c.start_over.ensures.headline
