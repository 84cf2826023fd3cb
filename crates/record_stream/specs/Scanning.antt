-- Reading from left to right where the bytes may end too early: the bytes after what is read; Cut, where the bytes end within it and more can
-- make it whole; or Bad.
use Rattle.std.specs.Prelude.{◌≡◌, Bool, ℕ, zero, suc, ◌+◌, ◌-◌, ◌/◌, ◌^◌, List, [], ◌∷◌, length, drop, Result, Ok, Err, nat_lt, nat_le, ◌==◌, ◌&&◌, if◌then◌else◌}
use Rattle.byteorder.specs.Endian.{little_number}
use Rattle.clv_base.specs.declared.names.TxId.{TxId}
use Rattle.record_stream.specs.declared.stop.Stop.{Stop}
use Rattle.record_stream.specs.declared.stop.Stop.TheVariants.{Cut, Bad}

infixl 10 ◌>>=◌
abbrev pub ◌>>=◌ : {A B : Type 0} → Result A Stop → (A → Result B Stop) → Result B Stop
Ok x >>= f = f x
Err e >>= f = Err e

-- what a function returned, seen by view, is what reading gives
abbrev pub Gives : {X Y : Type 0} → (X → Y) → Result X Stop → Result Y Stop → Type 0
Gives view (Ok x) read = read ≡ Ok (view x)
Gives view (Err e) read = read ≡ Err e

-- what is read, and the bytes after it; of most things the bytes alone are kept
abbrev pub Scan : Type 0 → Type 0
Scan X = Result (X × List ℕ) Stop

abbrev pub Skip : Type 0
Skip = Scan (Unit {0})

abbrev pub skipped : List ℕ → Unit {0} × List ℕ
skipped rest = (tt, rest)

-- whether these are the lowest bytes of some number from least to most
abbrev pub goes_on : ℕ → ℕ → List ℕ → Bool
goes_on least most [] = nat_le least most
goes_on least most (b ∷ bytes) = nat_le b most && goes_on ((least - b + 255) / 256) ((most - b) / 256) bytes

abbrev pub stop_by : Bool → Stop
stop_by goes_on = if goes_on then Cut else Bad

-- a number of so many bytes, from least to most
unfoldable pub number_at : ℕ → ℕ → ℕ → List ℕ → Scan ℕ
number_at width least most bytes =
    if nat_lt (length bytes) width then Err (stop_by (goes_on least most bytes)) else
    if nat_le least (little_number width bytes) && nat_le (little_number width bytes) most then Ok (little_number width bytes, drop width bytes) else Err Bad

-- any number of 8 bytes
unfoldable pub long_at : List ℕ → Skip
long_at bytes = do
  n ← number_at 8 0 (2 ^ 64 - 1) bytes
  Ok (skipped n.1)

-- ---- names of transactions

-- the least, the greatest with so many above it, and the next one
abbrev pub first_name : TxId
first_name = record { run = 1; session = 1; serial = 1 }

abbrev pub last_name : ℕ → TxId
last_name above = record { run = 2 ^ 32 - 1; session = 64; serial = 2 ^ 64 - 1 - above }

abbrev pub next_name : TxId → TxId
next_name tx =
    if nat_lt tx.serial (2 ^ 64 - 1) then record { run = tx.run; session = tx.session; serial = tx.serial + 1 } else
    if nat_lt tx.session 64 then record { run = tx.run; session = tx.session + 1; serial = 1 } else
    record { run = tx.run + 1; session = 1; serial = 1 }

-- the bounds of a session in a run, and of a serial in a session, of names from least to most
abbrev pub least_session : ℕ → TxId → ℕ
least_session run least = if run == least.run then least.session else 1

abbrev pub most_session : ℕ → TxId → ℕ
most_session run most = if run == most.run then most.session else 64

abbrev pub least_serial : ℕ → ℕ → TxId → ℕ
least_serial run session least = if (run == least.run) && (session == least.session) then least.serial else 1

abbrev pub most_serial : ℕ → ℕ → TxId → ℕ
most_serial run session most = if (run == most.run) && (session == most.session) then most.serial else 2 ^ 64 - 1

-- a name from least to most
unfoldable pub name_at : TxId → TxId → List ℕ → Scan TxId
name_at least most bytes = do
  run ← number_at 4 least.run most.run bytes
  session ← number_at 4 (least_session run.0 least) (most_session run.0 most) run.1
  serial ← number_at 8 (least_serial run.0 session.0 least) (most_serial run.0 session.0 most) session.1
  Ok (record { run = run.0; session = session.0; serial = serial.0 }, serial.1)

unfoldable pub any_name_at : List ℕ → Skip
any_name_at bytes = do
  tx ← name_at first_name (last_name 0) bytes
  Ok (skipped tx.1)

-- ---- values

-- so many bytes
abbrev pub bytes_at : ℕ → List ℕ → Skip
bytes_at n bytes = if nat_lt (length bytes) n then Err Cut else Ok (skipped (drop n bytes))

unfoldable pub text_at : List ℕ → Skip
text_at bytes = do
  count ← number_at 1 0 200 bytes
  bytes_at count.0 count.1

unfoldable pub value_at : List ℕ → Skip
value_at [] = Err Cut
value_at (zero ∷ rest) = Ok (skipped rest)
value_at (suc zero ∷ rest) = long_at rest
value_at (suc (suc zero) ∷ rest) = text_at rest
value_at (suc (suc (suc b)) ∷ rest) = Err Bad

-- ---- lists that rise: each leaves room for those that must follow

unfoldable pub names_from : ℕ → TxId → List ℕ → Skip
names_from zero least bytes = Ok (skipped bytes)
names_from (suc more) least bytes = do
  tx ← name_at least (last_name more) bytes
  names_from more (next_name tx.0) tx.1

unfoldable pub names_at : List ℕ → Skip
names_at bytes = do
  count ← number_at 4 0 1024 bytes
  names_from count.0 first_name count.1

unfoldable pub shards_from : ℕ → ℕ → List ℕ → Skip
shards_from zero least bytes = Ok (skipped bytes)
shards_from (suc more) least bytes = do
  shard ← number_at 4 least (15 - more) bytes
  shards_from more (shard.0 + 1) shard.1

unfoldable pub shards_at : List ℕ → Skip
shards_at bytes = do
  count ← number_at 4 0 15 bytes
  shards_from count.0 0 count.1

-- ---- the fields of each kind

unfoldable pub update_at : List ℕ → Skip
update_at bytes = do
  tx ← any_name_at bytes
  key ← long_at tx.1
  before ← value_at key.1
  value_at before.1

unfoldable pub clr_at : List ℕ → Skip
clr_at bytes = do
  tx ← any_name_at bytes
  next ← long_at tx.1
  key ← long_at next.1
  value_at key.1

unfoldable pub prepare_at : List ℕ → Skip
prepare_at bytes = do
  tx ← any_name_at bytes
  home ← number_at 4 0 15 tx.1
  names_at home.1

unfoldable pub commit_at : List ℕ → Skip
commit_at bytes = do
  tx ← any_name_at bytes
  shards_at tx.1

unfoldable pub restart_at : List ℕ → Skip
restart_at bytes = do
  run ← number_at 4 1 (2 ^ 32 - 1) bytes
  long_at run.1

unfoldable pub add_at : List ℕ → Skip
add_at bytes = do
  tx ← any_name_at bytes
  key ← long_at tx.1
  long_at key.1

unfoldable pub unadd_at : List ℕ → Skip
unadd_at bytes = do
  tx ← any_name_at bytes
  next ← long_at tx.1
  key ← long_at next.1
  long_at key.1

unfoldable pub fields_at : ℕ → List ℕ → Skip
fields_at zero bytes = Err Bad
fields_at (suc zero) bytes = update_at bytes
fields_at (suc (suc zero)) bytes = clr_at bytes
fields_at (suc (suc (suc zero))) bytes = prepare_at bytes
fields_at (suc (suc (suc (suc zero)))) bytes = commit_at bytes
fields_at (suc (suc (suc (suc (suc zero))))) bytes = any_name_at bytes
fields_at (suc (suc (suc (suc (suc (suc zero)))))) bytes = any_name_at bytes
fields_at (suc (suc (suc (suc (suc (suc (suc zero))))))) bytes = restart_at bytes
fields_at (suc (suc (suc (suc (suc (suc (suc (suc zero)))))))) bytes = add_at bytes
fields_at (suc (suc (suc (suc (suc (suc (suc (suc (suc zero))))))))) bytes = unadd_at bytes
fields_at (suc (suc (suc (suc (suc (suc (suc (suc (suc (suc k)))))))))) bytes = Err Bad

-- a record
unfoldable pub record_at : List ℕ → Skip
record_at [] = Err Cut
record_at (kind ∷ bytes) = fields_at kind bytes
