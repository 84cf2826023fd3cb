-- What a restart brings back: the requests are of COMMITs.
use Rattle.std.proofs.Common.{◌≡◌, ◌⊎◌, inl, inr, ⊎_elim, refl, subst, ℕ, true, false, cond, Bool, List, [], ◌∷◌, Some}
use Rattle.std.proofs.lemmas.Bool.{or_left, or_right}
use Rattle.clv_base.specs.declared.names.TxId.{TxId}
use Rattle.clv_base.specs.declared.logs.LogRecord.{LogRecord}
use Rattle.clv_base.specs.declared.logs.LogRecord.TheVariants.{Update, Clr, Prepare, Commit, Abort, End, Restart, Add, Unadd, Forgotten, Check}
use Rattle.clv_base.specs.declared.state.Request.{Request}
use Rattle.clv_base.specs.Orders.{Table, tx_same, tx_get, tx_put}
use Rattle.clv_base.specs.Logs.{committed_in, ended_in}
use Rattle.clv_base.specs.Restarts.{unended_with, unended_in}
use Rattle.clv_base.specs.Coordinator.{restored_requests, restored_request}
use Rattle.clv_base.proofs.SameNames.{tx_self}
use Rattle.law_base.proofs.Changed.{none_some}
use Rattle.history_laws.proofs.Entries.AllFromEach.{put_row}

-- ---- COMMITs with parts and no END

with_case : (log : List LogRecord) (tx u : TxId) (parts qs : List ℕ) (rest : Table (List ℕ)) → tx_get u (unended_with log tx parts rest) ≡ Some qs → (u ≡ tx) ⊎ (tx_get u rest ≡ Some qs)
with_case log tx u [] qs rest g = inr g
with_case log tx u (p ∷ ps) qs rest g = at (ended_in log tx) g
  where
    at : (b : Bool) → tx_get u (cond b rest (tx_put tx (p ∷ ps) rest)) ≡ Some qs → (u ≡ tx) ⊎ (tx_get u rest ≡ Some qs)
    at true g = inr g
    at false g = ⊎_elim (λ e. inl e.0) (λ h. inr h) (put_row u tx (p ∷ ps) qs rest g)

pub unended_committed : (log rs : List LogRecord) (u : TxId) (qs : List ℕ) → tx_get u (unended_in log rs) ≡ Some qs → committed_in rs u ≡ true
unended_committed log [] u qs g = absurd (none_some qs g)
unended_committed log (Commit tx parts ∷ rs) u qs g =
    ⊎_elim (λ e. or_left (tx_same u tx) (committed_in rs u) (subst (λ v. tx_same u v ≡ true) e (tx_self u))) (λ h. or_right (tx_same u tx) (committed_in rs u) (unended_committed log rs u qs h))
    (with_case log tx u parts qs (unended_in log rs) g)
unended_committed log (Update tx b c d ∷ rs) u qs g = unended_committed log rs u qs g
unended_committed log (Clr tx b c d ∷ rs) u qs g = unended_committed log rs u qs g
unended_committed log (Prepare tx home ps ∷ rs) u qs g = unended_committed log rs u qs g
unended_committed log (Abort tx ∷ rs) u qs g = unended_committed log rs u qs g
unended_committed log (End tx ∷ rs) u qs g = unended_committed log rs u qs g
unended_committed log (Restart run epoch ∷ rs) u qs g = unended_committed log rs u qs g
unended_committed log (Add tx b by ∷ rs) u qs g = unended_committed log rs u qs g
unended_committed log (Unadd tx b c by ∷ rs) u qs g = unended_committed log rs u qs g
unended_committed log (Forgotten ∷ rs) u qs g = unended_committed log rs u qs g
unended_committed log (Check run' epoch' upto base ∷ rs) u qs g = unended_committed log rs u qs g

-- a restored request is of a COMMIT of the log
pub restored_committed : (rows : Table (List ℕ)) (u : TxId) (q : Request) → tx_get u (restored_requests rows) ≡ Some q → (ps : List ℕ) × (tx_get u rows ≡ Some ps)
restored_committed [] u q g = absurd (none_some q g)
restored_committed (r ∷ rs) u q g = at (tx_same u r.0) g (restored_committed rs u q)
  where
    at : (b : Bool) → cond b (Some (restored_request r.1)) (tx_get u (restored_requests rs)) ≡ Some q → (tx_get u (restored_requests rs) ≡ Some q → (ps : List ℕ) × (tx_get u rs ≡ Some ps)) → (ps : List ℕ) × (cond b (Some r.1) (tx_get u rs) ≡ Some ps)
    at true g k = (r.1, refl)
    at false g k = k g
