-- The number of each status, and what the program says of it on standard error.
use Rattle.std.specs.Prelude.{ℕ, Bool, true, false, List, [], ◌∷◌, ◌++◌, codes, decimal}
use Rattle.cluster_opening.specs.declared.error.At.{At}
use Rattle.cluster_opening.specs.declared.error.At.TheVariants.{Byte, Record}
use Rattle.command_line.specs.declared.status.Status.{Status}
use Rattle.command_line.specs.declared.status.Status.TheVariants.{Fine, Usage, Script, ReadFault, WriteFault, DiskFault, NotLog, Memory, Worn, Exists, Apart, WrongTransaction, WrongMap, Unsettled}

abbrev pub number_of : Status → ℕ
number_of Fine = 0
number_of Usage = 2
number_of (Script line) = 3
number_of ReadFault = 4
number_of WriteFault = 5
number_of (DiskFault shard) = 6
number_of (NotLog shard at) = 7
number_of Memory = 8
number_of (Worn at) = 9
number_of (Exists shard len) = 10
number_of (Apart tx) = 11
number_of (WrongTransaction place) = 12
number_of (WrongMap key) = 12
number_of (Unsettled count) = 13

abbrev pub place_text : ℕ → At → List ℕ
place_text shard (Byte offset) = codes "shard " ++ (decimal shard ++ (codes ": not a log at byte " ++ (decimal offset ++ 10 ∷ [])))
place_text shard (Record n) = codes "shard " ++ (decimal shard ++ (codes ": not a log at record " ++ (decimal n ++ 10 ∷ [])))

-- a line, and none where all is fine
abbrev pub text_of : Status → List ℕ
text_of Fine = []
text_of Usage = codes "usage: clv_shell make [SPLIT].. | run [--tries N] | show | load --seed S --sessions N --accounts A --transfers T | serve [--sessions N] | audit | standby [N].." ++ 10 ∷ []
text_of (Script line) = codes "script line " ++ decimal line ++ 10 ∷ []
text_of ReadFault = codes "read fault" ++ 10 ∷ []
text_of WriteFault = codes "write fault" ++ 10 ∷ []
text_of (DiskFault shard) = codes "disk fault on shard " ++ decimal shard ++ 10 ∷ []
text_of (NotLog shard at) = place_text shard at
text_of Memory = codes "want of memory" ++ 10 ∷ []
text_of (Worn at) = codes "worn at " ++ decimal at ++ 10 ∷ []
text_of (Exists shard len) = codes "shard " ++ (decimal shard ++ (codes ": length " ++ (decimal len ++ (codes ", not 0" ++ 10 ∷ []))))
text_of (Apart tx) = codes "transaction " ++ (decimal tx.run ++ (codes "." ++ (decimal tx.session ++ (codes "." ++ (decimal tx.serial ++ (codes ": logs apart" ++ 10 ∷ []))))))
text_of (WrongTransaction place) = codes "no: transaction " ++ decimal place ++ 10 ∷ []
text_of (WrongMap key) = codes "no: key " ++ decimal key ++ 10 ∷ []
text_of (Unsettled count) = codes "unsettled " ++ decimal count ++ 10 ∷ []

-- a run that comes to this status writes its report
abbrev pub writes_report : Status → Bool
writes_report Fine = true
writes_report (DiskFault shard) = true
writes_report (Worn at) = true
writes_report _ = false
