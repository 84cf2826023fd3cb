-- An undo of some writes, step by step from the newest one down.
use Rattle.std.specs.Prelude.{◌≡◌, ℕ, ◌+◌, ◌<◌, Bool, cond, List, [], ◌∷◌, ◌++◌, length, Option, Some, None, IfSome}
use Rattle.std.specs.List.{AllByRecursion}
use Rattle.clv_base.specs.declared.names.TxId.{TxId}
use Rattle.clv_base.specs.declared.logs.LogRecord.{LogRecord}
use Rattle.clv_base.specs.declared.logs.LogRecord.TheVariants.{Update, Add}
use Rattle.clv_base.specs.Orders.{tx_in}
use Rattle.clv_base.specs.declared.changes.Change.TheVariants.{Sets, Adds}
use Rattle.clv_base.specs.Logs.{StandingUpdate, standing, newest_of}
use Rattle.clv_base.specs.Undo.{clrs_by, newest_lsns, is_at}
use Rattle.log_buffer.specs.Buffers.{Buffer}
use Rattle.cascade_undo.specs.declared.write.Write.{Write}

-- the newest one of the set among these writes, which are given newest first
abbrev pub newest_in : List TxId → List StandingUpdate → Option StandingUpdate
newest_in set [] = None
newest_in set (w ∷ ws) = cond (tx_in w.tx set) (Some w) (newest_in set ws)

-- the place of a write
abbrev pub lsn_of : Option StandingUpdate → Option ℕ
lsn_of o = elim o [ Some w ↦ Some w.lsn | None ↦ None ]

-- the newest write of the set is below this LSN, and so all are
abbrev pub AreBelow : List TxId → ℕ → List StandingUpdate → Type 0
AreBelow set n ws = IfSome (newest_in set ws) (λ w. w.lsn < n)

-- what the record at an LSN writes
abbrev pub write_in : ℕ → Option LogRecord → Option Write
write_in lsn (Some (Update tx key before after)) = Some (record { lsn = lsn; tx = tx; key = key; change = Sets before after })
write_in lsn (Some (Add tx key by)) = Some (record { lsn = lsn; tx = tx; key = key; change = Adds by })
write_in lsn _ = None

-- the write is the newest one of the set
abbrev pub IsNewestIn : List TxId → List StandingUpdate → Write → Type 0
IsNewestIn set ws w = newest_in set ws ≡ Some (record { lsn = w.lsn; tx = w.tx; key = w.key; change = w.change })

-- the write is the newest one of the transaction
abbrev pub IsNewestOf : TxId → List StandingUpdate → Write → Type 0
IsNewestOf tx ws w = newest_of tx ws ≡ Some (record { lsn = w.lsn; tx = w.tx; key = w.key; change = w.change })

-- of these writes those that are to go are the transaction's newest n
abbrev pub AreNewest : (StandingUpdate → Bool) → ℕ → TxId → List StandingUpdate → Type 0
AreNewest gone n tx ws = AllByRecursion (λ v. gone v ≡ is_at (newest_lsns n tx ws) v) ws

-- the CLRs and UNADDs appended here are those that were still to be appended there
pub record Advances (gone : StandingUpdate → Bool) (b c : Buffer LogRecord) : Type 0 where
  pub log : c.records ++ clrs_by gone (standing c.records) ≡ b.records ++ clrs_by gone (standing b.records)
  pub fronts : (c.durable ≡ b.durable) × (c.taken ≡ b.taken)
  pub room : b.room + length b.records ≡ c.room + length c.records
