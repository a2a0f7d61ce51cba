-- Where the machine is after some characters.
use Rattle.std.specs.Prelude.{List, [], ◌∷◌, ℕ, Option, Some, None}
use Rattle.mof_codec.specs.declared.machine.state.Place.{Place}
use Rattle.mof_codec.specs.declared.machine.state.Place.TheVariants.{Start}
use Rattle.mof_codec.specs.declared.machine.state.Half.{Half}
use Rattle.mof_codec.specs.declared.machine.state.Half.TheVariants as halves
use Rattle.mof_codec.specs.declared.machine.state.State.{State}
use Rattle.mof_codec.specs.declared.machine.state.Event.{Event}
use Rattle.mof_codec.specs.declared.machine.state.Event.TheVariants.{Quiet}
use Rattle.mof_codec.specs.Machine.{step}

-- what is begun, the last first, with one more
abbrev pub tally : Event → List Event → List Event
tally Quiet acc = acc
tally e acc = e ∷ acc

-- a state, and what was begun up to it
pub record AfterWalk : Type 0 where
  pub half : Half
  pub place : Place
  pub begun : List Event

abbrev pub moved : Option State → List Event → Option AfterWalk
moved None begun = None
moved (Some s) begun = Some (record { half = s.half; place = s.place; begun = tally s.begun begun })

abbrev pub advance : Option AfterWalk → ℕ → Option AfterWalk
advance None c = None
advance (Some b) c = moved (step b.half b.place c) b.begun

abbrev pub walk_from : Option AfterWalk → List ℕ → Option AfterWalk
walk_from b [] = b
walk_from b (c ∷ cs) = walk_from (advance b c) cs

-- before the first character
abbrev pub start : AfterWalk
start = record { half = halves.Gap; place = Start; begun = [] }

-- after these characters, where the machine takes them
abbrev pub walked : List ℕ → Option AfterWalk
walked chars = walk_from (Some start) chars
