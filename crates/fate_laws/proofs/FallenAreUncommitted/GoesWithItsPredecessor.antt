-- Who goes with an abort: its transaction, or one that has a predecessor among them.
use Rattle.std.proofs.Common.{◌≡◌, ◌⊎◌, inl, inr, ⊎_elim, refl, sym, subst, ℕ, zero, suc, true, false, List, [], ◌∷◌, length}
use Rattle.std.proofs.lemmas.Bool.{both_ways, or_cases, false_from_ne_true}
use Rattle.clv_base.specs.declared.names.TxId.{TxId}
use Rattle.clv_base.specs.Orders.{tx_same, tx_in}
use Rattle.clv_base.specs.Logs.{committed_in}
use Rattle.clv_base.specs.State.{Shard, is_present}
use Rattle.clv_base.specs.Undo.{stage_of, with_successors, successors_through, doomed_by, doomed_here}
use Rattle.clv_base.proofs.SameNames.{tx_true}
use Rattle.law_base.proofs.Tables.{is_pair}
use Rattle.law_base.proofs.Sets.{in_filter}
use Rattle.law_base.proofs.Successors.{keeps_through, round_keeps, with_from}
use Rattle.fate_laws.proofs.CommitsGoDownwards.{Down}

through_from : (P D : TxId → Type 0) (n : ℕ) (pairs : List (TxId × TxId)) (set : List TxId) → ((t : TxId) → tx_in t (successors_through n pairs set) ≡ true → D t) → ((a b : TxId) → is_pair pairs a b ≡ true → D b → P b → P a)
    → ((t : TxId) → tx_in t set ≡ true → P t) → (t : TxId) → tx_in t (successors_through n pairs set) ≡ true → P t
through_from P D zero pairs set d s k t i = k t i
through_from P D (suc n) pairs set d s k t i =
    through_from P D n pairs (with_successors pairs set set) d s
    (with_from P pairs set set (λ a b j m. s a b j (d b (keeps_through n pairs (with_successors pairs set set) b (round_keeps pairs set set b m))) (k b m)) k) t i

-- one that goes has no COMMIT; it is the aborted one, or a predecessor of it goes too, where it is here
pub record Goes (s : Shard) (u t : TxId) : Type 0 where
  pub open_ : committed_in s.local.log t ≡ false
  pub cause : (t ≡ u) ⊎ ((q : TxId) × (is_pair s.local.pairs t q ≡ true) × (committed_in s.local.log q ≡ false) × (tx_in q (doomed_by s.local u) ≡ true))

pub goes : (s : Shard) (u : TxId) → Down s → committed_in s.local.log u ≡ false → (t : TxId) → tx_in t (doomed_here s.local u) ≡ true → Goes s u t
goes s u d o t i =
    through_from (Goes s u) (λ q. tx_in q (doomed_by s.local u) ≡ true) (length s.local.pairs) s.local.pairs (u ∷ []) (λ q j. j)
    (λ a b j m g. record { open_ = false_from_ne_true _ (λ c. both_ways _ g.open_ (d a b c j)); cause = inr (b, j, g.open_, m) })
    (λ q j. ⊎_elim (λ e. first q (tx_true u q e)) (λ e. absurd (both_ways false refl e)) (or_cases (tx_same u q) false j)) t
    (in_filter (λ v. is_present (stage_of s.local v)) t (doomed_by s.local u) i).0
  where
    first : (q : TxId) → u ≡ q → Goes s u q
    first q e = record { open_ = subst (λ z. committed_in s.local.log z ≡ false) e o; cause = inl (sym e) }
