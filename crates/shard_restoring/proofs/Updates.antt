-- What a restart restores of those in doubt: a part, and a lock and a record at each key that they wrote.
use Rattle.std.proofs.Common.{◌≡◌, ◌||◌, refl, Bool, true, false, cond, List, [], ◌∷◌, Some, None}
use Rattle.std.proofs.lemmas.Bool.{both_ways}
use Rattle.clv_base.specs.declared.names.TxId.{TxId}
use Rattle.clv_base.specs.Orders.{tx_same, tx_in, tx_get}
use Rattle.clv_base.specs.Restarts.{restored_parts, restored_part}
use Rattle.clv_base.proofs.SameNames.{or_left, tx_flip}

-- ---- parts

pub restored_away : (txs : List TxId) (t : TxId) → tx_in t txs ≡ false → tx_get t (restored_parts txs) ≡ None
restored_away [] t i = refl
restored_away (x ∷ xs) t i = at (tx_same t x) refl (restored_away xs t)
  where
    rest : (a b : Bool) → (a || b) ≡ false → b ≡ false
    rest true b h = absurd (both_ways _ h refl)
    rest false b h = h

    at : (b : Bool) → tx_same t x ≡ b → (tx_in t xs ≡ false → tx_get t (restored_parts xs) ≡ None) → cond b (Some (restored_part x)) (tx_get t (restored_parts xs)) ≡ None
    at true e k = absurd (both_ways _ i (or_left _ _ (tx_flip t x e)))
    at false e k = k (rest (tx_same x t) (tx_in t xs) i)
