use Rattle.gate_log.proofs.Leading.{none_by, one_by, sound_by}
use Rattle.gate_log.proofs.laws.kept_laws.Goals as goal

pub returns : goal.returns
returns g c = record {
  one = one_by g.K.LoggedState.shape g.K.LoggedState.leads c.requires.small c.requires.one;
  none = none_by g.K.LoggedState.shape g.K.LoggedState.leads c.requires.small c.requires.fronts;
  sound = sound_by g.K.LoggedState.shape g.K.LoggedState.leads g.K.LoggedState.sound c.requires.one c.requires.fronts;
}
