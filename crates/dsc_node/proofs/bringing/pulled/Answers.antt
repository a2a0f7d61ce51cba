use Rattle.std.proofs.Common.{List, Ok, Err, refl, ap, subst, ◌∙◌}
use Rattle.partial_merge.specs.declared.part.Part.{Part}
use Rattle.node_pull.specs.Pulling.{Pulled}
use Rattle.dsc_outside.specs.LinkView.{view_of}
use Rattle.dsc_node.specs.Bringing.{event_by}
use Rattle.dsc_node.proofs.KnownDocuments.{pulled_held, staged_event}
use Rattle.dsc_node.proofs.Plans.{can_ask}
use Rattle.dsc_node.proofs.bringing.pulled.Goals as goal

pub pull-requires-clause-names : goal.pull-requires-clause-names
pull-requires-clause-names g c = can_ask c.args.node.now c.requires.allowed

pub returns-in-Ok-clause-brought : goal.returns-in-Ok-clause-brought
returns-in-Ok-clause-brought g c = record {
  server = c.in-Some-Some.server;
  is_server = c.in-Some-Some.is-0;
  agent = c.in-Some-Some.agent;
  is_agent = c.in-Some-Some.is-1;
  answer = Ok c.in-Ok.brought.list;
  pulled = subst (λ (held : List Part). Pulled g.M.Machine.packages g.M.Resources.faults c.args.node.now.meta c.in-Some-Some.server c.in-Some-Some.agent held (view_of g.L.Link c.args.link.now) (view_of g.L.Link c.pull.new.link) c.args.machine.now c.pull.new.machine (Ok c.in-Ok.brought.list))
      c.held_of-held.ensures c.in-Ok.ensures.pulled;
  is = ap event_by (ap Ok c.pulled.ensures) ∙ staged_event c.in-Ok.brought.list;
}

pub returns-in-Ok-clause-document : goal.returns-in-Ok-clause-document
returns-in-Ok-clause-document g c =
    rw c.pulled.ensures (pulled_held c.args.node.now c.held_of-held.result.now c.held_of-held.ensures c.in-Ok.brought.list c.in-Ok.brought.document c.in-Ok.ensures.document)

pub returns-in-Err-clause-brought : goal.returns-in-Err-clause-brought
returns-in-Err-clause-brought g c = record {
  server = c.in-Some-Some.server;
  is_server = c.in-Some-Some.is-0;
  agent = c.in-Some-Some.agent;
  is_agent = c.in-Some-Some.is-1;
  answer = Err c.in-Err.error;
  pulled = subst (λ (held : List Part). Pulled g.M.Machine.packages g.M.Resources.faults c.args.node.now.meta c.in-Some-Some.server c.in-Some-Some.agent held (view_of g.L.Link c.args.link.now) (view_of g.L.Link c.pull.new.link) c.args.machine.now c.pull.new.machine (Err c.in-Err.error))
      c.held_of-held.ensures c.in-Err.ensures.pulled;
  is = refl;
}
