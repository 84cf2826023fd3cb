-- Among the writes of those not committed the newest of one of them, and of its key, are those of all.
use Rattle.std.proofs.Common.{◌≡◌, refl, sym, ap, subst, ◌∙◌, ℕ, Bool, true, false, cond, not, ◌==◌, List, [], ◌∷◌, Option, Some, None, eqb-true, eq-eqb, arith}
use Rattle.std.specs.List.{filter}
use Rattle.std.proofs.lemmas.Bool.{both_ways}
use Rattle.std.proofs.lemmas.Option.{same_Some}
use Rattle.clv_base.specs.declared.names.TxId.{TxId}
use Rattle.clv_base.specs.declared.logs.LogRecord.{LogRecord}
use Rattle.clv_base.specs.Orders.{tx_same}
use Rattle.clv_base.specs.Logs.{StandingUpdate, committed_in, newest_at, newest_of, without_newest}
use Rattle.clv_base.specs.LogRules.{next_to_undo}
use Rattle.clv_base.proofs.SameNames.{tx_true}
use Rattle.law_base.proofs.Standing.{Falls, newest_below}
use Rattle.log_checkpoint.proofs.GoingOn.{of_open, without_open}
use Rattle.log_checkpoint.proofs.Restarting.{newest_open}

pub next_open : (log : List LogRecord) (t : TxId) (ws : List StandingUpdate) → committed_in log t ≡ false → next_to_undo t (filter (of_open log) ws) ≡ next_to_undo t ws
next_open log t ws u =
    ap (λ o. elim o [ Some v ↦ Some v.lsn | None ↦ None ]) (ap (newest_of t) (without_open log t ws u) ∙ newest_open log (without_newest t ws) t u)

abbrev IsTop : StandingUpdate → Option StandingUpdate → Type 0
IsTop w o = elim o [ Some v ↦ v.lsn == w.lsn | None ↦ false ] ≡ true

-- where the newest of one is the newest of its key
pub top_open : (log : List LogRecord) (t : TxId) (n : ℕ) (w : StandingUpdate) (ws : List StandingUpdate) → Falls n ws → committed_in log t ≡ false → newest_of t ws ≡ Some w
    → elim (newest_at w.key ws) [ Some v ↦ v.lsn == w.lsn | None ↦ false ] ≡ true → elim (newest_at w.key (filter (of_open log) ws)) [ Some v ↦ v.lsn == w.lsn | None ↦ false ] ≡ true
top_open log t n w [] falls u e top = top
top_open log t n w (x ∷ ws) falls u e top =
    at (tx_same t x.tx) refl (committed_in log x.tx) refl (w.key == x.key) refl e top (λ a b. top_open log t x.lsn w ws falls.1 u a b)
  where
    at : (b : Bool) → tx_same t x.tx ≡ b → (c : Bool) → committed_in log x.tx ≡ c → (k : Bool) → (w.key == x.key) ≡ k → cond b (Some x) (newest_of t ws) ≡ Some w → IsTop w (cond k (Some x) (newest_at w.key ws))
        → (newest_of t ws ≡ Some w → IsTop w (newest_at w.key ws) → IsTop w (newest_at w.key (filter (of_open log) ws)))
        → IsTop w (newest_at w.key (cond (not c) (x ∷ filter (of_open log) ws) (filter (of_open log) ws)))
    at true own true c k q e top more = absurd (both_ways _ u (ap (committed_in log) (tx_true t x.tx own) ∙ c))
    at true own false c true q e top more = subst (λ b. IsTop w (cond b (Some x) (newest_at w.key (filter (of_open log) ws)))) (sym q) top
    at true own false c false q e top more = absurd (both_ways _ q (eq-eqb w.key x.key (ap (λ z. z.key) (sym (same_Some x w e)))))
    at false own c f true q e top more = let low = newest_below t x.lsn ws w falls.1 e in let same = eqb-true x.lsn w.lsn top in absurd (omega (arith, low, same))
    at false own true c false q e top more = more e top
    at false own false c false q e top more = subst (λ b. IsTop w (cond b (Some x) (newest_at w.key (filter (of_open log) ws)))) (sym q) (more e top)
