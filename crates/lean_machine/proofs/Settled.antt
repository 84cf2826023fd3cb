-- Rows that are spent are settled, so all is settled where what is kept is.
use Rattle.std.proofs.Common.{◌≡◌, refl, sym, ap, ◌∙◌, Bool, true, false, cond, not, ◌&&◌, ◌||◌, ℕ, List, [], ◌∷◌, Some, None, reverse}
use Rattle.std.specs.List.{list_all}
use Rattle.clv_base.specs.declared.names.TxId.{TxId}
use Rattle.clv_base.specs.declared.state.Request.{Request}
use Rattle.clv_base.specs.declared.state.RequestState.{RequestState}
use Rattle.clv_base.specs.declared.state.RequestState.TheVariants.{Undecided, Committed, Finished, Refused}
use Rattle.clv_base.specs.declared.state.Ruling.{Ruling}
use Rattle.clv_base.specs.declared.state.Ruling.TheVariants.{End as EndVerdict}
use Rattle.clv_base.specs.Orders.{Table, tx_same, nat_in}
use Rattle.clv_base.specs.Coordinator.{end_ruling}
use Rattle.clv_base.specs.State.{Shard}
use Rattle.clv_base.proofs.SameNames.{tx_true}
use Rattle.machine_calls.specs.Settled.{has_no_parts, is_flushed, is_part_settled, is_state_ended, is_request_settled, is_settled}
use Rattle.machine_calls.specs.Steps.{sends_nothing}
use Rattle.ended_laws.specs.Requests.{without, IsDone, IsSpent}
use Rattle.ended_laws.specs.Recalled.{without_all, AreSpent}
use Rattle.ended_laws.proofs.Laws.{OwnRowsAre, own_rows, spent_beside}
use Rattle.lean_machine.specs.Lean.{whole, IsLean}

-- where all rows of the transaction pass, they may go
passes_without : (f : TxId × Request → Bool) (tx : TxId) (q : Request) (rows : Table Request) → OwnRowsAre tx q rows → f (tx, q) ≡ true → list_all f rows ≡ list_all f (without tx rows)
passes_without f tx q [] own e = refl
passes_without f tx q (r ∷ rs) own e = at (tx_same tx r.0) refl (passes_without f tx q rs own.1 e)
  where
    at : (b : Bool) → tx_same tx r.0 ≡ b → list_all f rs ≡ list_all f (without tx rs) → (f r && list_all f rs) ≡ list_all f (cond (not b) (r ∷ without tx rs) (without tx rs))
    at true i more = ap (λ z. f (z, r.1) && list_all f rs) (sym (tx_true tx r.0 i)) ∙ ap (λ z. f (tx, z) && list_all f rs) (own.0 i) ∙ ap (λ b. b && list_all f rs) e ∙ more
    at false i more = ap (λ b. f r && b) more

-- ---- a row that is spent

-- all acknowledged it, and no END is due: so it is written, where there is a part
ended : (q : Request) (parts : List ℕ) → list_all (λ p. nat_in p q.acknowledged_by) parts ≡ true → end_ruling q parts ≡ None → (has_no_parts parts || q.is_ended) ≡ true
ended q [] acked none = refl
ended q (p ∷ ps) acked none = at q.is_ended none
  where
    at : (b : Bool) → cond (not b && list_all (λ n. nat_in n q.acknowledged_by) (p ∷ ps)) (Some EndVerdict) None ≡ None → b ≡ true
    at true e = refl
    at false e = absurd (some_none (sym (ap (λ b. cond b (Some EndVerdict) None) acked) ∙ e))
      where
        some_none : {r : Ruling} → Some r ≡ None → ⊥
        some_none z = absurd cc

row_settled : (s : Shard) (tx : TxId) (q : Request) → IsSpent s tx q → is_request_settled s.local.log tx q ≡ true
row_settled s tx q spent = at q.state spent.over.is_done
  where
    at : (st : RequestState) → IsDone s tx q st → is_state_ended s.local.log tx q.is_ended st ≡ true
    at Undecided d = d.2
    at (Committed parts) d = ended q parts d.1 d.2
    at Finished d = refl
    at (Refused cause) d = refl

abbrev settles : Shard → TxId × Request → Bool
settles s r = is_request_settled s.local.log r.0 r.1

rows_settled : (rows : Table Request) (s : Shard) → AreSpent rows s → list_all (settles s) s.requests ≡ list_all (settles s) (without_all rows s.requests)
rows_settled [] s a = refl
rows_settled (r ∷ rs) s a =
    let p = spent_beside rs s r.0 r.1 a.1 a.0 in
    rows_settled rs s a.2 ∙ passes_without (settles s) r.0 r.1 (without_all rs s.requests) (own_rows r.0 r.1 (without_all rs s.requests) p.over.rises p.over.kept) (row_settled s r.0 r.1 a.0)

pub settled_whole : (gone : Table Request) (s : Shard) → IsLean gone s → is_settled s ≡ is_settled (whole gone s)
settled_whole gone s lean =
    ap (λ b. s.is_up && is_flushed s && sends_nothing s.outbox && list_all (λ p. is_part_settled s.local.log p.0 p.1) s.local.parts && b)
    (ap (λ (z : Shard). list_all (settles s) z.requests) (sym lean.kept) ∙ sym (rows_settled (reverse gone) (whole gone s) lean.spent))
