-- What is kept of a disk that was put away.
use Rattle.{conf_system.specs.Machine.Machine, conf_protocol.specs.{Keeps.{IsSafe, IsExact, Knows, NoteIs}, declared.run.RunState.RunState}}
use Rattle.conf_protocol.specs.declared.disk.DiskState.{DiskState}

-- all that a run says of itself is so
pub record IsStateOf (state : RunState) (m : Machine) : Type 0 where
  pub known : Knows state.store state.next state.names state.several m
  pub safe : IsSafe m
  pub noted : NoteIs state.note m

-- and what it says of the note is exact
pub record IsDiskStateOf (state : DiskState) (m : Machine) : Type 0 where
  pub run : IsStateOf state.run m
  pub exact : IsExact state.run.several m
