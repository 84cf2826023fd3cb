-- The script that is made from a number.
use Rattle.std.specs.Prelude.{ℕ, zero, suc, ◌+◌, ◌-◌, ◌*◌, ◌/◌, ◌%◌, ◌^◌, ◌==◌, Bool, true, false, List, [], ◌∷◌}
use Rattle.clv_base.specs.declared.values.Value.TheVariants.{Num}
use Rattle.clv_base.specs.declared.ops.Op.TheVariants.{Put}
use Rattle.script_lang.specs.declared.actions.Action.{Action}
use Rattle.script_lang.specs.declared.actions.Action.TheVariants.{Do, Move}
use Rattle.script_lang.specs.declared.actions.Ending.TheVariants.{Commit}
use Rattle.script_lang.specs.Bodies.{Body}
use Rattle.script_lang.specs.Grammar.{body}

-- ---- numbers: each state follows from the one before, and a number is drawn from the state

abbrev pub next_state : ℕ → ℕ
next_state x = (x * 6364136223846793005 + 1442695040888963407) % 2 ^ 64

abbrev pub drawn : ℕ → ℕ
drawn x = x / 2 ^ 33

-- where a session's numbers begin
abbrev pub first_state : ℕ → ℕ → ℕ
first_state seed session = (seed + session) % 2 ^ 64

-- ---- transfers

-- a transfer from an account to another one, after this state: of three numbers that are drawn
abbrev pub move_by : ℕ → ℕ → ℕ → ℕ → Action
move_by accounts one two three = Move (one % accounts) ((one % accounts + 1 + two % (accounts - 1)) % accounts) (three % 10 + 1)

abbrev pub transfer : ℕ → ℕ → Action
transfer accounts x = move_by accounts (drawn (next_state x)) (drawn (next_state (next_state x))) (drawn (next_state (next_state (next_state x))))

-- so many of them, each a transaction
abbrev pub transfers : ℕ → ℕ → ℕ → List Body
transfers accounts x zero = []
transfers accounts x (suc n) = body (transfer accounts x ∷ []) Commit ∷ transfers accounts (next_state (next_state (next_state x))) n

-- ---- sessions

-- 1000 under each of n keys from k
abbrev pub fill : ℕ → ℕ → List Action
fill k zero = []
fill k (suc n) = Do (Put k (Num 1000)) ∷ fill (suc k) n

-- the first session begins by filling the accounts
abbrev pub after_filling : Bool → ℕ → List Body → List Body
after_filling true accounts bodies = body (fill 0 accounts) Commit ∷ bodies
after_filling false accounts bodies = bodies

abbrev pub session : ℕ → ℕ → ℕ → ℕ → List Body
session seed accounts count number = after_filling (number == 1) accounts (transfers accounts (first_state seed number) count)

-- n sessions from this number
abbrev pub sessions_from : ℕ → ℕ → ℕ → ℕ → ℕ → List (List Body)
sessions_from seed accounts count number zero = []
sessions_from seed accounts count number (suc n) = session seed accounts count number ∷ sessions_from seed accounts count (suc number) n

-- the script of this seed, so many sessions and accounts, and so many transfers a session
abbrev pub load : ℕ → ℕ → ℕ → ℕ → List (List Body)
load seed sessions accounts count = sessions_from seed accounts count 1 sessions
