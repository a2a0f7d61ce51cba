use Rattle.lcm_program.proofs.ConvergingCommands.{starts_with_commands_converge}
use Rattle.lcm_program.proofs.laws.starts_with_commands_converge.Goals as goal

pub returns : goal.returns
returns g c =
    starts_with_commands_converge g.D.Disk g.H.Host g.P.Spawner g.C.Clock c.command_laws.ensures.runs c.host_laws.ensures c.host_entry_laws.ensures.clear c.host_entry_laws.ensures.last
    c.lasting_laws.ensures.few c.lasting_starts_converge.ensures.go_on c.valid_starts_complete.ensures g.met.D.Disk.honest
