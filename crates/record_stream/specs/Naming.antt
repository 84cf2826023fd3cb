-- Names of transactions in their order.
use Rattle.std.specs.Prelude.{◌≡◌, ℕ, suc, ◌+◌, ◌*◌, ◌-◌, ◌^◌, ◌≤◌, Result, Ok, Err}
use Rattle.clv_base.specs.declared.names.TxId.{TxId}
use Rattle.record_stream.specs.declared.stop.Stop.{Stop}
use Rattle.record_stream.specs.Scanning.{Skip, last_name}

-- a name that a record may have
pub record IsName (tx : TxId) : Type 0 where
  pub run_least : 1 ≤ tx.run
  pub run_most : tx.run ≤ 2 ^ 32 - 1
  pub session_least : 1 ≤ tx.session
  pub session_most : tx.session ≤ 64
  pub serial_least : 1 ≤ tx.serial
  pub serial_most : tx.serial ≤ 2 ^ 64 - 1

-- a number by which names are in their order
abbrev pub rank : TxId → ℕ
rank tx = 65 * 2 ^ 64 * tx.run + 2 ^ 64 * tx.session + tx.serial

pub record IsBetween (least most tx : TxId) : Type 0 where
  pub is_name : IsName tx
  pub least_is : rank least ≤ rank tx
  pub most_is : rank tx ≤ rank most

-- names go on from this one: it leaves room for so many
pub record HasRoom (more : ℕ) (least : TxId) : Type 0 where
  pub is_name : (k : ℕ) → more ≡ suc k → IsName least
  pub room : (k : ℕ) → more ≡ suc k → rank least ≤ rank (last_name k)

-- what a step of a list returned: the list goes on there, or reading it ends so
abbrev pub GoesOn : {X : Type 0} → (X → Skip) → Result X Stop → Skip → Type 0
GoesOn on (Ok x) read = read ≡ on x
GoesOn on (Err e) read = read ≡ Err e
