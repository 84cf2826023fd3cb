-- Who succeeds a transaction, by the pairs that are turned round.
use Rattle.std.proofs.Common.{◌≡◌, refl, ap, ◌∙◌, Bool, true, false, cond, ◌&&◌, ◌||◌, List, [], ◌∷◌, map}
use Rattle.std.specs.List.{filter}
use Rattle.clv_base.specs.declared.names.TxId.{TxId}
use Rattle.clv_base.specs.Orders.{tx_same, tx_in}
use Rattle.protocol_laws.specs.UndoLaws.{is_pair}
use Rattle.law_base.proofs.Sets.{same_flip as same_turned}

pub in_run : (p t : TxId) (pairs : List (TxId × TxId)) → tx_in t (map (λ q. q.1) (filter (λ q. tx_same p q.0) pairs)) ≡ is_pair pairs p t
in_run p t [] = refl
in_run p t (q ∷ qs) = at (tx_same p q.0) (in_run p t qs)
  where
    at : (b : Bool) → tx_in t (map (λ r. r.1) (filter (λ r. tx_same p r.0) qs)) ≡ is_pair qs p t
        → tx_in t (map (λ r. r.1) (cond b (q ∷ filter (λ r. tx_same p r.0) qs) (filter (λ r. tx_same p r.0) qs))) ≡ ((b && tx_same t q.1) || is_pair qs p t)
    at true more = ap (λ b. b || tx_in t (map (λ r. r.1) (filter (λ r. tx_same p r.0) qs))) (same_turned q.1 t) ∙ ap (λ b. tx_same t q.1 || b) more
    at false more = more
