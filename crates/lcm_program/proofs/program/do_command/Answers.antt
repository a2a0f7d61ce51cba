use Rattle.std.proofs.Common.{List, ℕ, refl, string_bytes, subst}
use Rattle.std.specs.Str.{chars}
use Rattle.node_pull.proofs.GoingOn.{stays}
use Rattle.lcm_program.specs.Canon.{AnswersCanon, IsCanonicalText}
use Rattle.lcm_program.specs.Check.{AnswersCheck, IsCountLine}
use Rattle.lcm_program.specs.Checksum.{IsChecksumLine, checksum_limit}
use Rattle.lcm_program.specs.Compile.{AnswersCompile}
use Rattle.lcm_program.specs.Input.{ReadsBytes, ReadsDocument, ReadsInstances}
use Rattle.lcm_program.specs.Objects.{known, objects}
use Rattle.lcm_program.specs.Order.{AnswersOrder, AreIdLines}
use Rattle.lcm_program.specs.Tool.{RanTool}
use Rattle.lcm_program.proofs.Compiling.{compile_decides}
use Rattle.lcm_program.proofs.Readings.{bytes_decide, document_decides, each_memory, instances_decide, shown_decides}
use Rattle.lcm_program.proofs.Monitoring.{tested}
use Rattle.lcm_program.proofs.Tools.{not_summed, ran_tool}
use Rattle.lcm_program.proofs.program.do_command.Goals as goal

pub returns-in-Test-clause-did : goal.returns-in-Test-clause-did
returns-in-Test-clause-did g c =
    rw c.in-Test.is (tested (known g.S.Ends g.K.Ends g.D.Disk g.M.Resources g.M.Machine g.L.Link g.C.Clock)
    (objects c.args.input.now c.args.output.now c.args.disk.now c.args.machine.now c.args.link.now c.args.clock.now)
    (objects c.read_and_monitor.new.input c.print_run.new.output c.args.disk.now c.read_and_monitor.new.machine c.args.link.now c.args.clock.now)
    (λ outcome. string_bytes outcome.lines) (λ outcome. outcome.missed) c.read_and_monitor.result c.print_run.result
    (record { disk = refl; link = refl; clock = refl })
    c.read_and_monitor.ensures.ok c.read_and_monitor.ensures.err c.print_run.ensures.ok c.print_run.ensures.err)

pub returns-in-Check-clause-did : goal.returns-in-Check-clause-did
returns-in-Check-clause-did g c =
    rw c.in-Check.is (ran_tool (known g.S.Ends g.K.Ends g.D.Disk g.M.Resources g.M.Machine g.L.Link g.C.Clock)
    (objects c.args.input.now c.args.output.now c.args.disk.now c.args.machine.now c.args.link.now c.args.clock.now)
    (objects c.read_count.new.input c.print_answer.new.output c.args.disk.now c.args.machine.now c.args.link.now c.args.clock.now)
    AnswersCheck (shown_decides ReadsDocument IsCountLine document_decides) (λ text. text.items) c.read_count.result c.print_answer.result
    (record { offline = record { disk = refl; link = refl; clock = refl }; machine = refl })
    c.read_count.ensures.ok c.read_count.ensures.err c.print_answer.ensures.ok c.print_answer.ensures.err)

pub returns-in-Order-clause-did : goal.returns-in-Order-clause-did
returns-in-Order-clause-did g c =
    rw c.in-Order.is (ran_tool (known g.S.Ends g.K.Ends g.D.Disk g.M.Resources g.M.Machine g.L.Link g.C.Clock)
    (objects c.args.input.now c.args.output.now c.args.disk.now c.args.machine.now c.args.link.now c.args.clock.now)
    (objects c.read_order.new.input c.print_answer-in-Order.new.output c.args.disk.now c.args.machine.now c.args.link.now c.args.clock.now)
    AnswersOrder (shown_decides ReadsDocument AreIdLines document_decides) (λ text. text.items) c.read_order.result c.print_answer-in-Order.result
    (record { offline = record { disk = refl; link = refl; clock = refl }; machine = refl })
    c.read_order.ensures.ok c.read_order.ensures.err c.print_answer-in-Order.ensures.ok c.print_answer-in-Order.ensures.err)

pub returns-in-Canon-clause-did : goal.returns-in-Canon-clause-did
returns-in-Canon-clause-did g c =
    rw c.in-Canon.is (ran_tool (known g.S.Ends g.K.Ends g.D.Disk g.M.Resources g.M.Machine g.L.Link g.C.Clock)
    (objects c.args.input.now c.args.output.now c.args.disk.now c.args.machine.now c.args.link.now c.args.clock.now)
    (objects c.read_canonical.new.input c.print_answer-in-Canon.new.output c.args.disk.now c.args.machine.now c.args.link.now c.args.clock.now)
    AnswersCanon (shown_decides ReadsInstances IsCanonicalText instances_decide) (λ text. text.items) c.read_canonical.result c.print_answer-in-Canon.result
    (record { offline = record { disk = refl; link = refl; clock = refl }; machine = refl })
    c.read_canonical.ensures.ok c.read_canonical.ensures.err c.print_answer-in-Canon.ensures.ok c.print_answer-in-Canon.ensures.err)

pub returns-in-Err-clause-did : goal.returns-in-Err-clause-did
returns-in-Err-clause-did g c =
    rw c.in-Checksum.is (not_summed (known g.S.Ends g.K.Ends g.D.Disk g.M.Resources g.M.Machine g.L.Link g.C.Clock)
    (objects c.args.input.now c.args.output.now c.args.disk.now c.args.machine.now c.args.link.now c.args.clock.now)
    (objects c.read_checksum.new.input c.print_unread.new.output c.args.disk.now c.args.machine.now c.args.link.now c.args.clock.now)
    (shown_decides (ReadsBytes checksum_limit) IsChecksumLine (bytes_decide checksum_limit)) c.in-Err.unread c.print_unread.result
    (record { offline = record { disk = refl; link = refl; clock = refl }; machine = refl }) c.in-Err.ensures.err c.print_unread.ensures)

-- a node whose name took memory
pub returns-in-Ok-from_utf8-clause-did : goal.returns-in-Ok-from_utf8-clause-did
returns-in-Ok-from_utf8-clause-did g c =
    let o = known g.S.Ends g.K.Ends g.D.Disk g.M.Resources g.M.Machine g.L.Link g.C.Clock in
    let before = objects c.args.input.now c.args.output.now c.args.disk.now c.args.machine.now c.args.link.now c.args.clock.now in
    let after = objects c.read_compiled.new.input c.print_answer-in-Ok-from_utf8.new.output c.args.disk.now c.args.machine.now c.args.link.now c.args.clock.now in
    let node = c.in-Ok-from_utf8.node in
    let ran : RanTool (AnswersCompile node) o c.print_answer-in-Ok-from_utf8.result before after =
    ran_tool o before after (AnswersCompile node) (compile_decides node c.one_answer.ensures.never_both c.one_answer.ensures.one_reason) (λ text. text.items)
    c.read_compiled.result c.print_answer-in-Ok-from_utf8.result (record { offline = record { disk = refl; link = refl; clock = refl }; machine = refl })
    c.read_compiled.ensures.ok c.read_compiled.ensures.err c.print_answer-in-Ok-from_utf8.ensures.ok c.print_answer-in-Ok-from_utf8.ensures.err in
    rw c.in-Compile.is (subst (λ (name : List ℕ). RanTool (AnswersCompile name) o c.print_answer-in-Ok-from_utf8.result before after) c.in-Ok-from_utf8.ensures.chars ran)

pub returns-in-Err-from_utf8-clause-did : goal.returns-in-Err-from_utf8-clause-did
returns-in-Err-from_utf8-clause-did g c =
    rw c.in-Compile.is (record {
      untouched = record { offline = record { disk = refl; link = refl; clock = refl }; machine = refl };
      ends = refl;
      each = each_memory (AnswersCompile (chars c.in-Compile.node.now)) (g.S.Ends.left c.args.input.now) _ _;
    })

-- starts

pub returns-in-Init-clause-did : goal.returns-in-Init-clause-did
returns-in-Init-clause-did g c = rw c.in-Init.is (record { input = refl; start = c.start_node.ensures.starts })

pub returns-in-Meta-clause-did : goal.returns-in-Meta-clause-did
returns-in-Meta-clause-did g c = rw c.in-Meta.is c.set_meta.ensures.ends

pub returns-in-Register-clause-did : goal.returns-in-Register-clause-did
returns-in-Register-clause-did g c = rw c.in-Register.is (record { input = refl; ends = c.register.ensures.ends })

pub returns-in-Pull-clause-did : goal.returns-in-Pull-clause-did
returns-in-Pull-clause-did g c = rw c.in-Pull.is (record { input = refl; start = c.start_node-in-Pull.ensures.starts })

pub returns-in-None-clause-did : goal.returns-in-None-clause-did
returns-in-None-clause-did g c = rw (c.in-Push.is, c.in-None.is) c.push.ensures.ends

pub returns-in-Some-clause-did : goal.returns-in-Some-clause-did
returns-in-Some-clause-did g c = rw (c.in-Push.is, c.in-Some.is) c.push_part.ensures.ends

pub returns-in-Consistency-clause-did : goal.returns-in-Consistency-clause-did
returns-in-Consistency-clause-did g c = rw c.in-Consistency.is (record { input = refl; start = c.start_node-in-Consistency.ensures.starts })

pub returns-in-Boot-clause-did : goal.returns-in-Boot-clause-did
returns-in-Boot-clause-did g c = rw c.in-Boot.is (record { input = refl; start = c.start_node-in-Boot.ensures.starts })

pub returns-in-Get-clause-did : goal.returns-in-Get-clause-did
returns-in-Get-clause-did g c = rw c.in-Get.is (record { input = refl; start = c.start_node-in-Get.ensures.starts })

pub returns-in-Restore-clause-did : goal.returns-in-Restore-clause-did
returns-in-Restore-clause-did g c = rw c.in-Restore.is (record { input = refl; start = c.start_node-in-Restore.ensures.starts })

pub returns-in-Remove-clause-did : goal.returns-in-Remove-clause-did
returns-in-Remove-clause-did g c = rw c.in-Remove.is (record { input = refl; start = c.start_node-in-Remove.ensures.starts })

pub returns-in-Reports-clause-did : goal.returns-in-Reports-clause-did
returns-in-Reports-clause-did g c = rw c.in-Reports.is (record { input = refl; start = c.start_node-in-Reports.ensures.starts })

-- the tools leave the link as it is

pub returns-in-Test-clause-goes_on : goal.returns-in-Test-clause-goes_on
returns-in-Test-clause-goes_on g c = stays _

pub returns-in-Check-clause-goes_on : goal.returns-in-Check-clause-goes_on
returns-in-Check-clause-goes_on g c = stays _

pub returns-in-Order-clause-goes_on : goal.returns-in-Order-clause-goes_on
returns-in-Order-clause-goes_on g c = stays _

pub returns-in-Canon-clause-goes_on : goal.returns-in-Canon-clause-goes_on
returns-in-Canon-clause-goes_on g c = stays _

pub returns-in-Ok-clause-goes_on : goal.returns-in-Ok-clause-goes_on
returns-in-Ok-clause-goes_on g c = stays _

pub returns-in-Err-clause-goes_on : goal.returns-in-Err-clause-goes_on
returns-in-Err-clause-goes_on g c = stays _

pub returns-in-Ok-from_utf8-clause-goes_on : goal.returns-in-Ok-from_utf8-clause-goes_on
returns-in-Ok-from_utf8-clause-goes_on g c = stays _

pub returns-in-Err-from_utf8-clause-goes_on : goal.returns-in-Err-from_utf8-clause-goes_on
returns-in-Err-from_utf8-clause-goes_on g c = stays _

pub returns-in-Ok-repair_generated-clause-goes_on : goal.returns-in-Ok-repair_generated-clause-goes_on
returns-in-Ok-repair_generated-clause-goes_on g c = stays _

pub returns-in-Err-repair_generated-clause-goes_on : goal.returns-in-Err-repair_generated-clause-goes_on
returns-in-Err-repair_generated-clause-goes_on g c = stays _
