-- The first lock of a transaction, and that there is none.
use Rattle.std.proofs.Common.{◌≡◌, refl, sym, ap, ◌∙◌, ℕ, ◌+◌, cond, true, false, Bool, not, ◌||◌, [], ◌∷◌, get_or, Some, None}
use Rattle.std.specs.List.{position, position_from}
use Rattle.std.proofs.lemmas.Bool.{and_from}
use Rattle.std.proofs.lemmas.Iterator.Adapters.{position_from-zero}
use Rattle.std.proofs.lemmas.List.Folds.{list_any-from_Any}
use Rattle.std.proofs.lemmas.List.Quantifiers.{position-Some}
use Rattle.clv_base.specs.declared.names.TxId.{TxId}
use Rattle.clv_base.specs.declared.modes.Anchor.{Anchor}
use Rattle.clv_base.specs.declared.modes.Holder.{Holder}
use Rattle.clv_base.specs.Orders.{tx_same, anchor_same}
use Rattle.clv_base.specs.Locks.{Locks, release}
use Rattle.lock_table.specs.Rows.{is_lock_of, has_lock_on}
use Rattle.law_base.proofs.LockRows.{anchor_self}

-- whether a row is of the transaction
abbrev pub is_of : TxId → Anchor × Holder → Bool
is_of tx r = tx_same tx (r.1).tx

none_from : (n : ℕ) (tx : TxId) (rows : Locks) → position_from (is_of tx) n rows ≡ None → release (tx ∷ []) rows ≡ rows
none_from n tx [] e = refl
none_from n tx (r ∷ rs) e = go (is_of tx r) e (none_from (n + 1) tx rs)
  where
    go : (b : Bool) → cond b (Some n) (position_from (is_of tx) (n + 1) rs) ≡ None → (position_from (is_of tx) (n + 1) rs ≡ None → release (tx ∷ []) rs ≡ rs)
        → cond (not (b || false)) (r ∷ release (tx ∷ []) rs) (release (tx ∷ []) rs) ≡ r ∷ rs
    go true e more = absurd cc
    go false e more = ap (λ l. r ∷ l) (more e)

-- where no row is of the transaction, it has nothing to give up
pub none_held : (tx : TxId) (rows : Locks) → position (is_of tx) rows ≡ None → release (tx ∷ []) rows ≡ rows
none_held tx rows e = none_from 0 tx rows (sym (position_from-zero (is_of tx) rows) ∙ e)

-- a row of the transaction is its lock on the row's anchor
pub one_held : (tx : TxId) (rows : Locks) (i : ℕ) (r : Anchor × Holder) → position (is_of tx) rows ≡ Some i → r ≡ get_or rows i r → has_lock_on tx r.0 rows ≡ true
one_held tx rows i r e there =
    let found = position-Some (is_of tx) rows i r e in
    list_any-from_Any (is_lock_of tx r.0) rows (i, r, found.0, sym there, and_from (anchor_same r.0 r.0) (is_of tx r) (anchor_self r.0) (ap (is_of tx) there ∙ found.1))
