-- The statuses that each command may end with.
use Rattle.command_line.specs.declared.commands.Command.{Command}
use Rattle.command_line.specs.declared.commands.Command.TheVariants.{Make, Run, Show, Load, Serve, Audit, Standby}
use Rattle.command_line.specs.declared.status.Status.{Status}
use Rattle.command_line.specs.declared.status.Status.TheVariants.{Fine, Usage, Script, ReadFault, DiskFault, Memory, Worn, Exists, WrongTransaction, WrongMap, Unsettled}

abbrev pub IsOfMake : Status → Type 0
IsOfMake Fine = Unit {0}
IsOfMake (Exists shard len) = Unit {0}
IsOfMake (DiskFault shard) = Unit {0}
IsOfMake Memory = Unit {0}
IsOfMake status = ⊥

abbrev pub IsOfRun : Status → Type 0
IsOfRun Usage = ⊥
IsOfRun (Exists shard len) = ⊥
IsOfRun (WrongTransaction place) = ⊥
IsOfRun (WrongMap key) = ⊥
IsOfRun (Unsettled count) = ⊥
IsOfRun status = Unit {0}

-- `show` and `load` read no script
abbrev pub IsOfShow : Status → Type 0
IsOfShow Usage = ⊥
IsOfShow (Exists shard len) = ⊥
IsOfShow (Script line) = ⊥
IsOfShow ReadFault = ⊥
IsOfShow (WrongTransaction place) = ⊥
IsOfShow (WrongMap key) = ⊥
IsOfShow (Unsettled count) = ⊥
IsOfShow status = Unit {0}

-- `serve` reads lines, which are refused one by one
abbrev pub IsOfServe : Status → Type 0
IsOfServe Usage = ⊥
IsOfServe (Exists shard len) = ⊥
IsOfServe (Script line) = ⊥
IsOfServe (WrongTransaction place) = ⊥
IsOfServe (WrongMap key) = ⊥
IsOfServe (Unsettled count) = ⊥
IsOfServe status = Unit {0}

-- `audit` asks for no run
abbrev pub IsOfAudit : Status → Type 0
IsOfAudit Usage = ⊥
IsOfAudit (Exists shard len) = ⊥
IsOfAudit (Worn at) = ⊥
IsOfAudit status = Unit {0}

-- `standby` reads no source, and asks for no run
abbrev pub IsOfStandby : Status → Type 0
IsOfStandby Usage = ⊥
IsOfStandby (Exists shard len) = ⊥
IsOfStandby (Script line) = ⊥
IsOfStandby ReadFault = ⊥
IsOfStandby (Worn at) = ⊥
IsOfStandby (WrongTransaction place) = ⊥
IsOfStandby (WrongMap key) = ⊥
IsOfStandby (Unsettled count) = ⊥
IsOfStandby status = Unit {0}

abbrev pub IsOfCommand : Command → Status → Type 0
IsOfCommand (Make splits) status = IsOfMake status
IsOfCommand (Run tries) status = IsOfRun status
IsOfCommand Show status = IsOfShow status
IsOfCommand (Load seed sessions accounts transfers) status = IsOfShow status
IsOfCommand (Serve sessions) status = IsOfServe status
IsOfCommand Audit status = IsOfAudit status
IsOfCommand (Standby counts) status = IsOfStandby status

-- the statuses of shards that were opened, before any text is written
abbrev pub IsOfShards : Status → Type 0
IsOfShards Fine = Unit {0}
IsOfShards (DiskFault shard) = Unit {0}
IsOfShards (Worn at) = Unit {0}
IsOfShards Memory = Unit {0}
IsOfShards status = ⊥
