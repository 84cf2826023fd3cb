-- The status of each refusal.
use Rattle.command_line.specs.declared.commands.WordsError.{WordsError}
use Rattle.command_line.specs.declared.commands.WordsError.TheVariants as words
use Rattle.cluster_opening.specs.declared.making_error.MakeError.{MakeError}
use Rattle.cluster_opening.specs.declared.making_error.MakeError.TheVariants as making
use Rattle.cluster_opening.specs.declared.error.OpenError.{OpenError}
use Rattle.cluster_opening.specs.declared.error.OpenError.TheVariants as opening
use Rattle.io_model.specs.declared.whole.ReadError.{ReadError}
use Rattle.io_model.specs.declared.whole.ReadError.TheVariants as reading
use Rattle.script_lang.specs.declared.parsing.ScriptError.{ScriptError}
use Rattle.script_lang.specs.declared.parsing.ScriptError.TheVariants as parsing
use Rattle.command_line.specs.declared.status.Status.{Status}
use Rattle.command_line.specs.declared.status.Status.TheVariants.{Usage, Script, ReadFault, DiskFault, NotLog, Memory, Worn, Exists, Apart}

abbrev pub of_words : WordsError → Status
of_words words.Usage = Usage
of_words words.Memory = Memory

-- a source with too many bytes is refused as a script, at no line
abbrev pub of_source : ReadError → Status
of_source reading.Failed = ReadFault
of_source reading.TooLong = Script 0
of_source reading.Memory = Memory

abbrev pub of_script : ScriptError → Status
of_script (parsing.Refused line) = Script line
of_script parsing.Memory = Memory

abbrev pub of_making : MakeError → Status
of_making (making.Exists shard len) = Exists shard len
of_making (making.Failed shard) = DiskFault shard
of_making making.Memory = Memory

abbrev pub of_opening : OpenError → Status
of_opening (opening.Failed shard) = DiskFault shard
of_opening (opening.NotLog shard at) = NotLog shard at
of_opening (opening.Apart tx) = Apart tx
of_opening (opening.Worn at) = Worn at
of_opening opening.Memory = Memory
