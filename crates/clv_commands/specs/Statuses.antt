-- The status of live sessions, by what became of their input.
use Rattle.std.specs.Prelude.{Result, Ok, Err}
use Rattle.io_model.specs.declared.whole.ReadError.{ReadError}
use Rattle.io_model.specs.declared.whole.ReadError.TheVariants.{Failed, TooLong, Memory}
use Rattle.command_line.specs.declared.status.Status.{Status}
use Rattle.command_line.specs.declared.status.Status.TheVariants as status

-- a fine status becomes a read fault; any other stays
abbrev pub after_source : Status → Status
after_source status.Fine = status.ReadFault
after_source other = other

-- want of memory comes in the place of any
abbrev pub with_input : Status → Result (Unit {0}) ReadError → Status
with_input running (Ok a) = running
with_input running (Err Failed) = after_source running
with_input running (Err TooLong) = status.Memory
with_input running (Err Memory) = status.Memory
