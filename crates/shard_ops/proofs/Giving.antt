-- Giving up locks one after another, and transaction by transaction.
use Rattle.std.proofs.Common.{◌≡◌, refl, sym, ap, ◌∙◌, ℕ, ◌+◌, ◌<◌, length, get_or, drop, drop-cons, add-one, Bool, true, false, cond, not, ◌&&◌, ◌||◌, List, [], ◌∷◌, arith}
use Rattle.std.proofs.lemmas.Bool.{both_ways}
use Rattle.clv_base.specs.declared.names.TxId.{TxId}
use Rattle.clv_base.specs.declared.modes.Anchor.{Anchor}
use Rattle.clv_base.specs.Orders.{tx_same, tx_in, anchor_same}
use Rattle.clv_base.specs.Locks.{Locks, release}
use Rattle.lock_table.specs.Rows.{is_lock_of, has_lock_on, without_lock}
use Rattle.shard_ops.proofs.Purged.{filter_at_most, filter_stricter}

-- ---- one lock of a transaction

-- what a transaction has left to give up
pub released_after_one : (tx : TxId) (a : Anchor) (rows : Locks) → release (tx ∷ []) (without_lock tx a rows) ≡ release (tx ∷ []) rows
released_after_one tx a rows = filter_stricter (λ r. not (is_lock_of tx a r)) (λ r. not (tx_in (r.1).tx (tx ∷ []))) (λ r. others (anchor_same a r.0) (tx_same tx (r.1).tx)) rows
  where
    others : (b c : Bool) → not (c || false) ≡ true → not (b && c) ≡ true
    others true true e = e
    others true false e = refl
    others false c e = refl

-- one that was there leaves fewer
pub fewer_after_one : (tx : TxId) (a : Anchor) (rows : Locks) → has_lock_on tx a rows ≡ true → length (without_lock tx a rows) < length rows
fewer_after_one tx a [] e = absurd (both_ways false refl e)
fewer_after_one tx a (r ∷ rs) e = go (is_lock_of tx a r) e (fewer_after_one tx a rs)
  where
    go : (b : Bool) → (b || has_lock_on tx a rs) ≡ true → (has_lock_on tx a rs ≡ true → length (without_lock tx a rs) < length rs) → length (cond (not b) (r ∷ without_lock tx a rs) (without_lock tx a rs)) < length (r ∷ rs)
    go true e more = let at_most = filter_at_most (λ q. not (is_lock_of tx a q)) rs in omega (arith, at_most)
    go false e more = let fewer = more e in omega (arith, fewer)

-- ---- transactions one after another

pub release-one_more : (t : TxId) (ts : List TxId) (rows : Locks) → release ts (release (t ∷ []) rows) ≡ release (t ∷ ts) rows
release-one_more t ts [] = refl
release-one_more t ts (r ∷ rs) = at (tx_same t (r.1).tx) (release-one_more t ts rs)
  where
    at : (a : Bool) → release ts (release (t ∷ []) rs) ≡ release (t ∷ ts) rs
        → release ts (cond (not (a || false)) (r ∷ release (t ∷ []) rs) (release (t ∷ []) rs))
        ≡ cond (not (a || tx_in (r.1).tx ts)) (r ∷ release (t ∷ ts) rs) (release (t ∷ ts) rs)
    at true more = more
    at false more = ap (λ l. cond (not (tx_in (r.1).tx ts)) (r ∷ l) l) more

pub release-none : (rows : Locks) → release [] rows ≡ rows
release-none [] = refl
release-none (r ∷ rs) = ap (λ l. r ∷ l) (release-none rs)

pub release-step : (i : ℕ) (txs : List TxId) (d : TxId) (rows : Locks) → i < length txs → release (drop (i + 1) txs) (release (get_or txs i d ∷ []) rows) ≡ release (drop i txs) rows
release-step i txs d rows h =
    let e : drop i txs ≡ get_or txs i d ∷ drop (i + 1) txs = rw (add-one, drop-cons txs i d) refl in
    release-one_more (get_or txs i d) (drop (i + 1) txs) rows ∙ ap (λ l. release l rows) (sym e)
