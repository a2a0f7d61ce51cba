use Rattle.dsc_node.specs.HostHeadline.{kinds_of, machine_of}
use Rattle.lcm_program.specs.Further.{further_of_host}
use Rattle.lcm_program.specs.Objects.{known}
use Rattle.lcm_program.proofs.StartsOrRests.{words_start_or_rest}
use Rattle.lcm_program.proofs.laws.words_start_or_rest.Goals as goal

pub returns : goal.returns
returns g c =
    words_start_or_rest (known g.S.Ends g.K.Ends g.D.Disk (kinds_of g.H.Host) (machine_of g.H.Host) g.L.Link g.C.Clock) (further_of_host g.D.Disk g.H.Host g.C.Clock)
