-- The commands that words are.
use Rattle.std.specs.Prelude.{◌≡◌, ◌≤◌, ℕ, true, List, length, [], ◌∷◌, codes, Option, Some, None}
use Rattle.clap.specs.Words.{Row, Text, fault_of, subcommand_of, first_of, all_of}
use Rattle.clv_base.specs.Shards.{are_splits}
use Rattle.script_lang.specs.Grammar.{IsNumber}
use Rattle.command_line.specs.Apps.{the_app}
pub use Rattle.command_line.specs.declared.commands.Command.{Command}
pub use Rattle.command_line.specs.declared.commands.Command.TheVariants.{Make, Run, Show, Load, Serve, Audit, Standby}

-- a value that was given is this number
abbrev pub IsGiven : Option Text → ℕ → Type 0
IsGiven None n = ⊥
IsGiven (Some word) n = IsNumber word n

-- a value that was given is this number, from 1 to so many; another number stands where none was
abbrev pub IsUpTo : ℕ → ℕ → Option Text → ℕ → Type 0
IsUpTo most otherwise None n = n ≡ otherwise
IsUpTo most otherwise (Some word) n = IsNumber word n × (1 ≤ n) × (n ≤ most)

-- 1 to 1000 tries; 100 where nothing is given
abbrev pub AreTries : Option Text → ℕ → Type 0
AreTries given n = IsUpTo 1000 100 given n

-- 1 to 64 sessions; 16 where nothing is given
abbrev pub AreSessions : Option Text → ℕ → Type 0
AreSessions given n = IsUpTo 64 16 given n

-- words that are these numbers, each of one
abbrev pub AreNumbers : List Text → List ℕ → Type 0
AreNumbers [] [] = Unit {0}
AreNumbers [] (n ∷ ns) = ⊥
AreNumbers (word ∷ words) [] = ⊥
AreNumbers (word ∷ words) (n ∷ ns) = IsNumber word n × AreNumbers words ns

abbrev pub listed : Option (List Text) → List Text
listed None = []
listed (Some words) = words

-- a subcommand with these rows is this command: splits are at most fifteen and rise, 1 to 64 sessions, 2 to 10000 accounts, at most 1000 transfers,
-- at most sixteen numbers of records
abbrev pub Says : Text → List Row → Command → Type 0
Says name rows (Make splits) = (name ≡ codes "make") × AreNumbers (listed (all_of (codes "split") rows)) splits × (are_splits splits ≡ true)
Says name rows (Run tries) = (name ≡ codes "run") × AreTries (first_of (codes "tries") rows) tries
Says name rows Show = name ≡ codes "show"
Says name rows (Load seed sessions accounts transfers) =
    (name ≡ codes "load") × IsGiven (first_of (codes "seed") rows) seed × IsGiven (first_of (codes "sessions") rows) sessions
    × IsGiven (first_of (codes "accounts") rows) accounts × IsGiven (first_of (codes "transfers") rows) transfers
    × (1 ≤ sessions) × (sessions ≤ 64) × (2 ≤ accounts) × (accounts ≤ 10000) × (transfers ≤ 1000)
Says name rows (Serve sessions) = (name ≡ codes "serve") × AreSessions (first_of (codes "sessions") rows) sessions
Says name rows Audit = name ≡ codes "audit"
Says name rows (Standby counts) = (name ≡ codes "standby") × AreNumbers (listed (all_of (codes "count") rows)) counts × (length counts ≤ 16)

-- `clap` finds no fault in the words, and takes them for a subcommand that is this command
abbrev pub IsCommand : List Text → Command → Type 0
IsCommand words command = (fault_of the_app words ≡ []) × (name : Text) × (rows : List Row) × (subcommand_of the_app words ≡ Some (name, rows)) × Says name rows command
