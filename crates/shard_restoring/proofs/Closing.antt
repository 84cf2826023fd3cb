-- Locks that are taken open and closed at the end are those that a restart restores.
use Rattle.std.proofs.Common.{◌≡◌, ℕ, List, [], ◌∷◌, refl, sym, ap, ◌∙◌, Bool, true, false, cond, ◌||◌}
use Rattle.std.proofs.lemmas.Bool.{cond_both}
use Rattle.std.specs.declared.cmp.Ordering.{Ordering}
use Rattle.std.specs.declared.cmp.Ordering.TheVariants.{Less, Equal, Greater}
use Rattle.std.specs.Ordering.{match_ordering}
use Rattle.clv_base.specs.declared.names.TxId.{TxId}
use Rattle.clv_base.specs.declared.modes.Anchor.{Anchor}
use Rattle.clv_base.specs.declared.modes.Anchor.TheVariants.{At}
use Rattle.clv_base.specs.declared.modes.Holder.{Holder}
use Rattle.clv_base.specs.declared.modes.Mode.{Mode}
use Rattle.clv_base.specs.declared.modes.Part.{Part}
use Rattle.clv_base.specs.Orders.{tx_same, tx_in}
use Rattle.clv_base.specs.Locks.{Locks, row_cmp, with_mode, take_one, close_holder, close_locks}
use Rattle.clv_base.specs.Logs.{StandingUpdate}
use Rattle.clv_base.specs.Restarts.{restored_locks, part_of}
use Rattle.shard_restoring.specs.Opened.{open_lock, open_locks, close_each}
use Rattle.law_base.proofs.Names.{shut_lock}

-- ---- one transaction's locks are closed

close_tx : (t : TxId) (h : Holder) → (close_holder t h).tx ≡ h.tx
close_tx t h = cond_both (tx_same t h.tx) (record h { closed = true }) h (λ x. x.tx ≡ h.tx) (λ e. refl) (λ e. refl)

close_mode : (t : TxId) (h : Holder) (m : Mode) → with_mode (close_holder t h) m ≡ close_holder t (with_mode h m)
close_mode t h m = at (tx_same t h.tx)
  where
    at : (b : Bool) → with_mode (cond b (record h { closed = true }) h) m ≡ cond b (record (with_mode h m) { closed = true }) (with_mode h m)
    at true = refl
    at false = refl

close_take : (t : TxId) (a : Anchor) (h : Holder) (locks : Locks) → close_locks t (take_one a h locks) ≡ take_one a (close_holder t h) (close_locks t locks)
close_take t a h [] = refl
close_take t a h (r ∷ rs) =
    at (row_cmp a h.tx r) (close_take t a h rs)
    ∙ ap (λ x. match_ordering (row_cmp a x r) ((a, close_holder t h) ∷ (r.0, close_holder t r.1) ∷ close_locks t rs) ((a, with_mode (close_holder t r.1) h.mode) ∷ close_locks t rs) ((r.0, close_holder t r.1) ∷ take_one a (close_holder t h) (close_locks t rs))) (sym (close_tx t h))
    ∙ ap (λ x. match_ordering (row_cmp a (close_holder t h).tx (r.0, record r.1 { tx = x })) ((a, close_holder t h) ∷ (r.0, close_holder t r.1) ∷ close_locks t rs) ((a, with_mode (close_holder t r.1) h.mode) ∷ close_locks t rs) ((r.0, close_holder t r.1) ∷ take_one a (close_holder t h) (close_locks t rs))) (sym (close_tx t r.1))
    ∙ ap (λ m. match_ordering (row_cmp a (close_holder t h).tx (r.0, close_holder t r.1)) ((a, close_holder t h) ∷ (r.0, close_holder t r.1) ∷ close_locks t rs) ((a, with_mode (close_holder t r.1) m) ∷ close_locks t rs) ((r.0, close_holder t r.1) ∷ take_one a (close_holder t h) (close_locks t rs))) (own_mode t h)
  where
    own_mode : (t : TxId) (h : Holder) → h.mode ≡ (close_holder t h).mode
    own_mode t h = cond_both (tx_same t h.tx) (record h { closed = true }) h (λ x. h.mode ≡ x.mode) (λ e. refl) (λ e. refl)

    at : (o : Ordering) → close_locks t (take_one a h rs) ≡ take_one a (close_holder t h) (close_locks t rs)
        → close_locks t (match_ordering o ((a, h) ∷ r ∷ rs) ((a, with_mode r.1 h.mode) ∷ rs) (r ∷ take_one a h rs))
        ≡ match_ordering o ((a, close_holder t h) ∷ (r.0, close_holder t r.1) ∷ close_locks t rs) ((a, with_mode (close_holder t r.1) h.mode) ∷ close_locks t rs) ((r.0, close_holder t r.1) ∷ take_one a (close_holder t h) (close_locks t rs))
    at Less more = refl
    at Equal more = ap (λ x. (a, x) ∷ close_locks t rs) (sym (close_mode t r.1 h.mode))
    at Greater more = ap (λ l. (r.0, close_holder t r.1) ∷ l) more

-- ---- those of several, one after another

abbrev close_holder_each : List TxId → Holder → Holder
close_holder_each [] h = h
close_holder_each (t ∷ ts) h = close_holder_each ts (close_holder t h)

each_take : (ts : List TxId) (a : Anchor) (h : Holder) (locks : Locks) → close_each ts (take_one a h locks) ≡ take_one a (close_holder_each ts h) (close_each ts locks)
each_take [] a h locks = refl
each_take (t ∷ ts) a h locks = ap (close_each ts) (close_take t a h locks) ∙ each_take ts a (close_holder t h) (close_locks t locks)

shut_stays : (ts : List TxId) (tx : TxId) (part : Part) → close_holder_each ts (shut_lock tx part) ≡ shut_lock tx part
shut_stays [] tx part = refl
shut_stays (t ∷ ts) tx part = ap (close_holder_each ts) (cond_both (tx_same t tx) (shut_lock tx part) (shut_lock tx part) (λ x. x ≡ shut_lock tx part) (λ e. refl) (λ e. refl)) ∙ shut_stays ts tx part

each_shuts : (ts : List TxId) (tx : TxId) (part : Part) → tx_in tx ts ≡ true → close_holder_each ts (open_lock tx part) ≡ shut_lock tx part
each_shuts [] tx part i = absurd cc
each_shuts (t ∷ ts) tx part i = at (tx_same t tx) i (each_shuts ts tx part)
  where
    at : (b : Bool) → (b || tx_in tx ts) ≡ true → (tx_in tx ts ≡ true → close_holder_each ts (open_lock tx part) ≡ shut_lock tx part) → close_holder_each ts (cond b (shut_lock tx part) (open_lock tx part)) ≡ shut_lock tx part
    at true e more = shut_stays ts tx part
    at false e more = more e

close_none : (ts : List TxId) → close_each ts [] ≡ []
close_none [] = refl
close_none (t ∷ ts) = close_none ts

taken_shut : (ts : List TxId) (tx : TxId) (k : ℕ) (part : Part) (locks : Locks)
    → close_each ts (cond (tx_in tx ts) (take_one (At k) (open_lock tx part) locks) locks) ≡ cond (tx_in tx ts) (take_one (At k) (shut_lock tx part) (close_each ts locks)) (close_each ts locks)
taken_shut ts tx k part locks = at (tx_in tx ts) (each_shuts ts tx part)
  where
    at : (b : Bool) → (b ≡ true → close_holder_each ts (open_lock tx part) ≡ shut_lock tx part)
        → close_each ts (cond b (take_one (At k) (open_lock tx part) locks) locks) ≡ cond b (take_one (At k) (shut_lock tx part) (close_each ts locks)) (close_each ts locks)
    at true shuts = each_take ts (At k) (open_lock tx part) locks ∙ ap (λ h. take_one (At k) h (close_each ts locks)) (shuts refl)
    at false shuts = refl

shut_open : (ts : List TxId) (ws : List StandingUpdate) (locks : Locks) → close_each ts (open_locks ts ws locks) ≡ restored_locks ts ws (close_each ts locks)
shut_open ts [] locks = refl
shut_open ts (w ∷ ws) locks =
    shut_open ts ws (cond (tx_in w.tx ts) (take_one (At w.key) (open_lock w.tx (part_of w.change)) locks) locks) ∙ ap (restored_locks ts ws) (taken_shut ts w.tx w.key (part_of w.change) locks)

-- sets with the same members
open_alike : (ss ts : List TxId) → ((t : TxId) → tx_in t ss ≡ tx_in t ts) → (ws : List StandingUpdate) (locks : Locks) → open_locks ss ws locks ≡ open_locks ts ws locks
open_alike ss ts same [] locks = refl
open_alike ss ts same (w ∷ ws) locks =
    open_alike ss ts same ws (cond (tx_in w.tx ss) (take_one (At w.key) (open_lock w.tx (part_of w.change)) locks) locks)
    ∙ ap (λ c. open_locks ts ws (cond c (take_one (At w.key) (open_lock w.tx (part_of w.change)) locks) locks)) (same w.tx)

pub shut_restored : (ss ts : List TxId) → ((t : TxId) → tx_in t ss ≡ tx_in t ts) → (ws : List StandingUpdate) → close_each ts (open_locks ss ws []) ≡ restored_locks ts ws []
shut_restored ss ts same ws = ap (close_each ts) (open_alike ss ts same ws []) ∙ shut_open ts ws [] ∙ ap (restored_locks ts ws) (close_none ts)
