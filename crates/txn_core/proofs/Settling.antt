-- A COMMIT more settles its own transaction, where that wasn't settled before; a PREPARE or an END settles nobody.
use Rattle.std.proofs.Common.{◌≡◌, ℕ, suc, ◌+◌, Bool, true, false, cond, List, [], ◌∷◌, ◌++◌, length, Some, None, refl, sym, ap, ◌∙◌, arith}
use Rattle.std.specs.List.{list_any}
use Rattle.clv_base.specs.declared.names.TxId.{TxId}
use Rattle.clv_base.specs.declared.logs.LogRecord.{LogRecord}
use Rattle.clv_base.specs.declared.logs.LogRecord.TheVariants.{Commit}
use Rattle.clv_base.specs.Orders.{Table, tx_same, tx_get}
use Rattle.clv_base.specs.Logs.{is_commit_of, place_from, commit_lsn}
use Rattle.txn_core.specs.State.{AreSettled}
use Rattle.txn_core.specs.Committed.{place_or}
use Rattle.law_base.proofs.Commits.{no_place_from as none_from}
use Rattle.law_base.proofs.Sets.{same_flip as same_turned}

placed : (n : ℕ) (t tx : TxId) (parts : List ℕ) (log : List LogRecord)
    → place_from n (is_commit_of t) (log ++ Commit tx parts ∷ []) ≡ cond (tx_same t tx) (place_or (place_from n (is_commit_of t) log) (n + length log)) (place_from n (is_commit_of t) log)
placed n t tx parts [] = at (tx_same t tx) [] refl (omega arith)
  where
    at : (b : Bool) (none : List LogRecord) → none ≡ [] → n + length none ≡ n → cond b (Some n) None ≡ cond b (Some (n + length none)) None
    at true none z e = ap (λ k. Some k) (sym e)
    at false none z e = refl
placed n t tx parts (r ∷ rs) = at (is_commit_of t r) (tx_same t tx) (placed (suc n) t tx parts rs) (omega arith)
  where
    at : (b c : Bool) → place_from (suc n) (is_commit_of t) (rs ++ Commit tx parts ∷ []) ≡ cond c (place_or (place_from (suc n) (is_commit_of t) rs) (suc n + length rs)) (place_from (suc n) (is_commit_of t) rs)
        → suc n + length rs ≡ n + length (r ∷ rs)
        → cond b (Some n) (place_from (suc n) (is_commit_of t) (rs ++ Commit tx parts ∷ []))
        ≡ cond c (place_or (cond b (Some n) (place_from (suc n) (is_commit_of t) rs)) (n + length (r ∷ rs))) (cond b (Some n) (place_from (suc n) (is_commit_of t) rs))
    at true true e k = refl
    at true false e k = refl
    at false c e k = e ∙ ap (λ m. cond c (place_or (place_from (suc n) (is_commit_of t) rs) m) (place_from (suc n) (is_commit_of t) rs)) k

pub commit_settles : (commits more : Table ℕ) (tx : TxId) (parts : List ℕ) (log : List LogRecord) (lsn : ℕ) → AreSettled commits log → lsn ≡ length log
    → ((t : TxId) → tx_get t more ≡ cond (tx_same tx t) (place_or (tx_get t commits) lsn) (tx_get t commits)) → AreSettled more (log ++ Commit tx parts ∷ [])
commit_settles commits more tx parts log lsn settled same new t =
    new t
    ∙ ap (λ b. cond b (place_or (tx_get t commits) lsn) (tx_get t commits)) (same_turned tx t)
    ∙ ap (λ o. cond (tx_same t tx) (place_or o lsn) o) (settled t)
    ∙ ap (λ n. cond (tx_same t tx) (place_or (commit_lsn log t) n) (commit_lsn log t)) (same ∙ zero_plus)
    ∙ sym (placed 0 t tx parts log)
  where
    zero_plus : length log ≡ 0 + length log
    zero_plus = omega arith

pub commit_lsn-more : (t : TxId) (log more : List LogRecord) → list_any (is_commit_of t) more ≡ false → commit_lsn (log ++ more) t ≡ commit_lsn log t
commit_lsn-more t log more e = from 0 log
  where
    from : (n : ℕ) (rs : List LogRecord) → place_from n (is_commit_of t) (rs ++ more) ≡ place_from n (is_commit_of t) rs
    from n [] = none_from n (is_commit_of t) more e
    from n (r ∷ rs) = ap (λ p. cond (is_commit_of t r) (Some n) p) (from (suc n) rs)
