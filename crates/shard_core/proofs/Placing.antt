-- The place of a PREPARE that closes a part.
use Rattle.std.proofs.Common.{◌≡◌, refl, sym, ap, ◌∙◌, ℕ, suc, ◌+◌, Bool, true, false, cond, List, [], ◌∷◌, ◌++◌, length, Option, Some, None, arith}
use Rattle.std.proofs.lemmas.Bool.{both_ways, false_from_ne_true}
use Rattle.clv_base.specs.declared.names.TxId.{TxId}
use Rattle.clv_base.specs.declared.logs.LogRecord.{LogRecord}
use Rattle.clv_base.specs.declared.logs.LogRecord.TheVariants.{Prepare, Commit}
use Rattle.clv_base.specs.Orders.{tx_same}
use Rattle.clv_base.specs.Logs.{place_from, prepare_lsn, is_prepare_of}
use Rattle.clv_base.proofs.SameNames.{tx_flip}
use Rattle.protocol_laws.proofs.Laws.{place_more}
use Rattle.txn_core.specs.Closings.{IsClosing}
use Rattle.txn_core.specs.declared.plans.Closing.{Closing}
use Rattle.txn_core.specs.declared.plans.Closing.TheVariants.{Commit as CommitWritten, Prepare as PrepareWritten, Silent as NothingWritten}
use Rattle.shard_core.specs.Requesting.{place_after}
use Rattle.shard_core.proofs.Seeing.{single}

-- a place that is there stays with records more
found_stays : (n k : ℕ) (f : LogRecord → Bool) (log more : List LogRecord) → place_from n f log ≡ Some k → place_from n f (log ++ more) ≡ Some k
found_stays n k f [] more e = absurd cc
found_stays n k f (r ∷ rs) more e = at (f r) e (found_stays (suc n) k f rs more)
  where
    at : (b : Bool) → cond b (Some n) (place_from (suc n) f rs) ≡ Some k → (place_from (suc n) f rs ≡ Some k → place_from (suc n) f (rs ++ more) ≡ Some k) → cond b (Some n) (place_from (suc n) f (rs ++ more)) ≡ Some k
    at true e h = e
    at false e h = h e

-- where none is, the record behind the log has the next place
found_last : (n : ℕ) (f : LogRecord → Bool) (log : List LogRecord) (r : LogRecord) → place_from n f log ≡ None → f r ≡ true → place_from n f (log ++ r ∷ []) ≡ Some (n + length log)
found_last n f [] r e h = ap (λ b. cond b (Some n) None) h ∙ ap Some (let m : n ≡ n + 0 = omega arith in m)
found_last n f (q ∷ qs) r e h = at (f q) e (found_last (suc n) f qs r)
  where
    at : (b : Bool) → cond b (Some n) (place_from (suc n) f qs) ≡ None → (place_from (suc n) f qs ≡ None → f r ≡ true → place_from (suc n) f (qs ++ r ∷ []) ≡ Some (suc n + length qs))
        → cond b (Some n) (place_from (suc n) f (qs ++ r ∷ [])) ≡ Some (n + length (q ∷ qs))
    at true e more = absurd cc
    at false e more = more e h ∙ ap Some (let m : suc n + length qs ≡ n + length (q ∷ qs) = omega arith in m)

silent : (log more : List LogRecord) (x : TxId) → more ≡ [] → prepare_lsn (log ++ more) x ≡ prepare_lsn log x
silent log more x e = ap (λ rs. prepare_lsn (log ++ rs) x) e ∙ place_more 0 (is_prepare_of x) log [] refl

-- the place that is kept is that of the first
pub closing_place : (log more : List LogRecord) (tx : TxId) (home : ℕ) (closing : Closing) (x : TxId) → IsClosing log tx home more closing → place_after (tx_same tx x) closing (prepare_lsn log x) ≡ prepare_lsn (log ++ more) x
closing_place log more tx home (CommitWritten lsn) x c = at (tx_same tx x) ∙ sym (single x log (Commit tx []) refl) ∙ ap (λ rs. prepare_lsn (log ++ rs) x) (sym c.0)
  where
    at : (b : Bool) → place_after b (CommitWritten lsn) (prepare_lsn log x) ≡ prepare_lsn log x
    at true = refl
    at false = refl
closing_place log more tx home NothingWritten x c = at (tx_same tx x) ∙ sym (silent log more x c)
  where
    at : (b : Bool) → place_after b NothingWritten (prepare_lsn log x) ≡ prepare_lsn log x
    at true = refl
    at false = refl
closing_place log more tx home (PrepareWritten lsn) x c = at (tx_same tx x) refl ∙ ap (λ rs. prepare_lsn (log ++ rs) x) (sym c.0.1)
  where
    ps : List TxId
    ps = c.0.0

    found : (o : Option ℕ) → prepare_lsn log x ≡ o → tx_same x tx ≡ true → place_after true (PrepareWritten lsn) o ≡ prepare_lsn (log ++ Prepare tx home ps ∷ []) x
    found None e s = ap Some c.1 ∙ sym (found_last 0 (is_prepare_of x) log (Prepare tx home ps) e s ∙ ap Some (let m : 0 + length log ≡ length log = omega arith in m))
    found (Some k) e s = sym (found_stays 0 k (is_prepare_of x) log (Prepare tx home ps ∷ []) e)

    at : (b : Bool) → tx_same tx x ≡ b → place_after b (PrepareWritten lsn) (prepare_lsn log x) ≡ prepare_lsn (log ++ Prepare tx home ps ∷ []) x
    at true s = found (prepare_lsn log x) refl (tx_flip tx x s)
    at false s = sym (single x log (Prepare tx home ps) (false_from_ne_true _ (λ e. both_ways _ s (tx_flip x tx e))))
