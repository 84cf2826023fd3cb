-- Whom the records concern are those of the law of the flush.
use Rattle.std.proofs.Common.{◌≡◌, refl, sym, ◌∙◌, ⊎_elim, Bool, true, false, cond, ◌&&◌, ◌||◌, List, [], ◌∷◌, ◌++◌, map, filter, slice_range}
use Rattle.std.proofs.lemmas.Bool.{both_ways, or_cases}
use Rattle.clv_base.specs.declared.names.TxId.{TxId}
use Rattle.clv_base.specs.declared.logs.LogRecord.{LogRecord}
use Rattle.clv_base.specs.declared.logs.LogRecord.TheVariants.{Update, Clr, Prepare, Commit, Abort, End, Restart, Add, Unadd, Forgotten, Check}
use Rattle.clv_base.specs.Orders.{tx_same, tx_in}
use Rattle.clv_base.proofs.SameNames.{or_left, or_right, tx_flip}
use Rattle.protocol_laws.specs.UndoLaws.{is_pair}
use Rattle.protocol_laws.specs.Changes.{successors_of, landed_txs}
use Rattle.protocol_laws.proofs.Laws.{in_append}
use Rattle.protocol_laws.proofs.Laws.{flushes_cover}
use Rattle.txn_core.specs.Landed.{concern}
use Rattle.due_step.specs.Landing.{LandedCovers}

and_true : (a : Bool) → a ≡ true → (a && true) ≡ true
and_true true e = refl
and_true false e = e

pub pair_of : (x p : TxId) (pairs : List (TxId × TxId)) → tx_in x (successors_of pairs p) ≡ true → is_pair pairs x p ≡ true
pair_of x p [] e = absurd (both_ways false refl e)
pair_of x p (q ∷ qs) e = at (tx_same p q.1) e (pair_of x p qs)
  where
    at : (b : Bool) → tx_in x (map (λ r. r.0) (cond b (q ∷ filter (λ r. tx_same p r.1) qs) (filter (λ r. tx_same p r.1) qs))) ≡ true → (tx_in x (successors_of qs p) ≡ true → is_pair qs x p ≡ true)
        → ((tx_same x q.0 && b) || is_pair qs x p) ≡ true
    at true e more = ⊎_elim (λ h. or_left (tx_same x q.0 && true) _ (and_true (tx_same x q.0) (tx_flip q.0 x h))) (λ h. or_right (tx_same x q.0 && true) _ (more h)) (or_cases (tx_same q.0 x) (tx_in x (successors_of qs p)) e)
    at false e more = or_right (tx_same x q.0 && false) _ (more e)

concerned : (pairs : List (TxId × TxId)) (rs : List LogRecord) (x : TxId) → tx_in x (landed_txs pairs rs) ≡ true → concern pairs rs x ≡ true
concerned pairs [] x e = e
concerned pairs (Commit tx parts ∷ rs) x e =
    ⊎_elim
    (λ h. or_left (tx_same tx x || is_pair pairs x tx) _ (or_left (tx_same tx x) _ h))
    (λ h. ⊎_elim
    (λ s. or_left (tx_same tx x || is_pair pairs x tx) _ (or_right (tx_same tx x) _ (pair_of x tx pairs s)))
    (λ m. or_right (tx_same tx x || is_pair pairs x tx) _ (concerned pairs rs x m))
    (or_cases (tx_in x (successors_of pairs tx)) (tx_in x (landed_txs pairs rs)) (sym (in_append x (successors_of pairs tx) (landed_txs pairs rs)) ∙ h)))
    (or_cases (tx_same tx x) (tx_in x (successors_of pairs tx ++ landed_txs pairs rs)) e)
concerned pairs (Prepare tx home ps ∷ rs) x e = ⊎_elim (λ h. or_left (tx_same tx x) _ h) (λ h. or_right (tx_same tx x) _ (concerned pairs rs x h)) (or_cases (tx_same tx x) (tx_in x (landed_txs pairs rs)) e)
concerned pairs (Update tx k b a ∷ rs) x e = concerned pairs rs x e
concerned pairs (Clr tx u k a ∷ rs) x e = ⊎_elim (λ h. or_left (tx_same tx x) _ h) (λ h. or_right (tx_same tx x) _ (concerned pairs rs x h)) (or_cases (tx_same tx x) (tx_in x (landed_txs pairs rs)) e)
concerned pairs (Abort tx ∷ rs) x e = concerned pairs rs x e
concerned pairs (End tx ∷ rs) x e = concerned pairs rs x e
concerned pairs (Restart run epoch ∷ rs) x e = concerned pairs rs x e
concerned pairs (Add tx k by ∷ rs) x e = concerned pairs rs x e
concerned pairs (Unadd tx u k by ∷ rs) x e = ⊎_elim (λ h. or_left (tx_same tx x) _ h) (λ h. or_right (tx_same tx x) _ (concerned pairs rs x h)) (or_cases (tx_same tx x) (tx_in x (landed_txs pairs rs)) e)
concerned pairs (Forgotten ∷ rs) x e = concerned pairs rs x e
concerned pairs (Check run' epoch' upto base ∷ rs) x e = concerned pairs rs x e

pub landed_covers : LandedCovers
landed_covers s n txs more h cover put t due =
    let pairs = s.local.pairs in let rs = slice_range s.local.log s.durable n in
    put t ∙ ⊎_elim (λ i. or_left (concern pairs rs t) _ (concerned pairs rs t i)) (λ i. or_right (concern pairs rs t) _ i)
    (or_cases (tx_in t (landed_txs pairs rs)) (tx_in t txs) (sym (in_append t (landed_txs pairs rs) txs) ∙ flushes_cover s n txs h cover t due))
