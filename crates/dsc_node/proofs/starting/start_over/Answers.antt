use Rattle.std.proofs.Common.{[], refl, ◌∙◌}
use Rattle.std.specs.Prelude.{string_bytes}
use Rattle.dsc_outside.specs.LinkView.{view_of}
use Rattle.node_pull.proofs.GoingOn.{stays}
use Rattle.dsc_node.specs.Start.{Start, opened, outside, refused, unopened}
use Rattle.dsc_node.specs.Work.{known}
use Rattle.dsc_node.proofs.Commits.{opens}
use Rattle.dsc_node.proofs.Headline.{headline}
use Rattle.dsc_node.proofs.LinksGoOn.{start_goes_on}
use Rattle.dsc_node.proofs.Nodes.{kept_sound}
use Rattle.dsc_node.proofs.Starts.{begins_again}
use Rattle.dsc_node.proofs.starting.start_over.Goals as goal

pub returns-in-Err-clause-start : goal.returns-in-Err-clause-start
returns-in-Err-clause-start g c = refused c.in-Err.error c.in-Err.ensures.refused refl (c.silent.ensures.status ∙ c.status_of_input.ensures, c.silent.ensures.lines)

pub returns-in-Ok-open_store-clause-start : goal.returns-in-Ok-open_store-clause-start
returns-in-Ok-open_store-clause-start g c =
    let d = g.D.Disk in
    let begin = c.args.disk.now in
    let store = c.in-Ok-open_store.store in
    let goes = c.opened.ensures.goes in
    opened (record {
      plan = c.in-Ok.plan;
      is_plan = c.in-Ok.ensures.ok;
      from = store.node;
      ready = goes.ready;
      run = goes.run;
      reads = c.in-Ok-open_store.ensures.found;
      sound = kept_sound d c.open_store.new.disk store c.in-Ok-open_store.ensures.kept;
      leaves = goes.leaves;
      ended = goes.ends.on begin store.node [] (opens d begin store.node c.open_store.new.disk store refl c.in-Ok-open_store.ensures.any_moment c.in-Ok-open_store.ensures.count);
    })

pub returns-in-Ok-open_store-clause-again : goal.returns-in-Ok-open_store-clause-again
returns-in-Ok-open_store-clause-again g c =
    let d = g.D.Disk in
    let begin = c.args.disk.now in
    let store = c.in-Ok-open_store.store in
    let goes = c.opened.ensures.goes in
    let status = c.opened.result.status in
    let lines = string_bytes c.opened.result.lines in
    let before = outside begin c.args.machine.now (view_of g.L.Link c.args.link.now) c.args.clock.now in
    let after = outside c.opened.new.disk c.opened.new.machine (view_of g.L.Link c.opened.new.link) c.opened.new.clock in
    let start : Start (known g.D.Disk g.M.Resources g.M.Machine g.C.Clock) c.args.command before after status lines = opened (record {
      plan = c.in-Ok.plan;
      is_plan = c.in-Ok.ensures.ok;
      from = store.node;
      ready = goes.ready;
      run = goes.run;
      reads = c.in-Ok-open_store.ensures.found;
      sound = kept_sound d c.open_store.new.disk store c.in-Ok-open_store.ensures.kept;
      leaves = goes.leaves;
      ended = goes.ends.on begin store.node [] (opens d begin store.node c.open_store.new.disk store refl c.in-Ok-open_store.ensures.any_moment c.in-Ok-open_store.ensures.count);
    }) in
    begins_again (known g.D.Disk g.M.Resources g.M.Machine g.C.Clock) c.args.command before after status lines (g.met.D.Disk.counts_now c.opened.new.disk) start

pub returns-in-Err-open_store-clause-start : goal.returns-in-Err-open_store-clause-start
returns-in-Err-open_store-clause-start g c =
    unopened c.in-Ok.plan c.in-Err-open_store.error c.in-Ok.ensures.ok c.in-Err-open_store.ensures.count c.in-Err-open_store.ensures.cause refl c.in-Err-open_store.ensures.any_moment
    (c.silent-in-Err-open_store.ensures.status ∙ c.status_of.ensures, c.silent-in-Err-open_store.ensures.lines)

-- the exchanges are only added

pub returns-in-Err-clause-goes_on : goal.returns-in-Err-clause-goes_on
returns-in-Err-clause-goes_on g c = stays _

pub returns-in-Ok-open_store-clause-goes_on : goal.returns-in-Ok-open_store-clause-goes_on
returns-in-Ok-open_store-clause-goes_on g c =
    start_goes_on (known g.D.Disk g.M.Resources g.M.Machine g.C.Clock) c.args.command
    (outside c.args.disk.now c.args.machine.now (view_of g.L.Link c.args.link.now) c.args.clock.now)
    (outside c.opened.new.disk c.opened.new.machine (view_of g.L.Link c.opened.new.link) c.opened.new.clock)
    c.opened.result.status (string_bytes c.opened.result.lines) (returns-in-Ok-open_store-clause-start g c)

pub returns-in-Err-open_store-clause-goes_on : goal.returns-in-Err-open_store-clause-goes_on
returns-in-Err-open_store-clause-goes_on g c = stays _

-- the headline follows from the table, whatever that says

pub returns-in-Err-clause-headline : goal.returns-in-Err-clause-headline
returns-in-Err-clause-headline g c =
    headline (known g.D.Disk g.M.Resources g.M.Machine g.C.Clock) c.args.command
    (outside c.args.disk.now c.args.machine.now (view_of g.L.Link c.args.link.now) c.args.clock.now) _ _ _ (g.met.D.Disk.honest c.args.disk.now)

pub returns-in-Ok-open_store-clause-headline : goal.returns-in-Ok-open_store-clause-headline
returns-in-Ok-open_store-clause-headline g c =
    headline (known g.D.Disk g.M.Resources g.M.Machine g.C.Clock) c.args.command
    (outside c.args.disk.now c.args.machine.now (view_of g.L.Link c.args.link.now) c.args.clock.now) _ _ _ (g.met.D.Disk.honest c.args.disk.now)

pub returns-in-Err-open_store-clause-headline : goal.returns-in-Err-open_store-clause-headline
returns-in-Err-open_store-clause-headline g c =
    headline (known g.D.Disk g.M.Resources g.M.Machine g.C.Clock) c.args.command
    (outside c.args.disk.now c.args.machine.now (view_of g.L.Link c.args.link.now) c.args.clock.now) _ _ _ (g.met.D.Disk.honest c.args.disk.now)

pub opened-requires-clause-plan : goal.opened-requires-clause-plan
opened-requires-clause-plan g c = record { command = c.args.command; taken = c.requires.taken; is = c.in-Ok.ensures.ok }
