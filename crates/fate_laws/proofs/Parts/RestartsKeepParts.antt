-- What a shard knows of parts after a restart, and when it opens.
use Rattle.std.proofs.Common.{◌≡◌, inl, inr, ⊎_elim, refl, sym, ap, subst, ◌∙◌, ℕ, ◌≤◌, true, false, cond, Bool, not, ◌&&◌, List, [], ◌∷◌, map, Option, Some, None, length, arith}
use Rattle.std.specs.List.{filter}
use Rattle.std.proofs.lemmas.Bool.{both_ways, and_parts, or_cases, or_left, or_right, cases_Bool, not-true}
use Rattle.std.proofs.lemmas.List.{take_all}
use Rattle.std.specs.Prelude.{unwrap_or}
use Rattle.clv_base.specs.declared.names.TxId.{TxId}
use Rattle.clv_base.specs.declared.logs.LogRecord.{LogRecord}
use Rattle.clv_base.specs.declared.events.Entry.{Entry}
use Rattle.clv_base.specs.declared.state.Stage.TheVariants.{Active, Closed}
use Rattle.clv_base.specs.Orders.{tx_same, tx_in}
use Rattle.clv_base.specs.Logs.{committed_in, prepared_in, prepare_of, in_doubt}
use Rattle.clv_base.specs.State.{Shard}
use Rattle.clv_base.specs.Participant.{restored_voter}
use Rattle.clv_base.specs.Coordinator.{restored_request}
use Rattle.clv_base.specs.Restarts.{state_after, log_left, revived, pairs_of_listed, restored_pairs, homes_of, unended_in, Restarts}
use Rattle.clv_base.proofs.SameNames.{tx_true, tx_self, tx_flip}
use Rattle.law_base.proofs.Tables.{is_pair}
use Rattle.law_base.proofs.Changed.{some_same}
use Rattle.law_base.proofs.Sets.{in_filter, filter_in}
use Rattle.shard_laws.proofs.Restarts.RestoredLocksAndParts.{restored_stage}
use Rattle.shard_laws.proofs.Restarts.UnrestoredFell.{all_durable}
use Rattle.shard_laws.proofs.Order.ChangesKeepOrder.{prepare_some}
use Rattle.shard_laws.proofs.Restarts.RestoredRequestsAndPairs.{pair_append}
use Rattle.history_cases.proofs.Telling.{all_map}
use Rattle.history_cases.proofs.TellingEvents.{front_committed}
use Rattle.history_cases.proofs.Uncommitting.{restarts_add}
use Rattle.fate_laws.proofs.Logs.WhatAddsNoPrepare.{front_prepare, restarts_add as restarts_prepare}
use Rattle.fate_laws.proofs.Logs.PreparedWritesStand.{Firmly, firmly_take, firm_restarted, doubt_stand}
use Rattle.fate_laws.proofs.Parts.YesVotesArePrepared.{Bound, Reads}
use Rattle.fate_laws.proofs.Parts.CommittedAreVotedFor.{HomeOr, Good, Parted}
use Rattle.history_laws.proofs.Logs.DoubtedAreUndecided.{doubt_prepared}
use Rattle.protocol_laws.proofs.LogsInOrder.OneRecordMore.{prepared_there}
use Rattle.law_base.proofs.Names.{own_pairs}

-- ---- pairs of those in doubt

listed_pair : (log : List LogRecord) (tx q : TxId) (p : ℕ × List TxId) (o : Option (ℕ × List TxId)) → o ≡ Some p → tx_in q p.1 ≡ true → committed_in log q ≡ false → is_pair (pairs_of_listed log tx o) tx q ≡ true
listed_pair log tx q p None e i c = absurd cc
listed_pair log tx q p (Some x) e i c =
    own_pairs tx tx q (filter (λ z. not (committed_in log z)) x.1) (tx_self tx) (filter_in (λ z. not (committed_in log z)) q x.1 (subst (λ z. tx_in q z.1 ≡ true) (sym (some_same x p e)) i) (ap not c))

pair_there : (log : List LogRecord) (ts : List TxId) (tx q : TxId) (p : ℕ × List TxId) → tx_in tx ts ≡ true → prepare_of log tx ≡ Some p → tx_in q p.1 ≡ true → committed_in log q ≡ false → is_pair (restored_pairs log ts) tx q ≡ true
pair_there log [] tx q p i e m c = absurd (both_ways false refl i)
pair_there log (x ∷ xs) tx q p i e m c =
    pair_append (pairs_of_listed log x (prepare_of log x)) (restored_pairs log xs) tx q
    ∙ ⊎_elim (λ h. or_left _ _ (subst (λ z. is_pair (pairs_of_listed log z (prepare_of log z)) tx q ≡ true) (sym (tx_true x tx h)) (listed_pair log tx q p (prepare_of log tx) e m c)))
    (λ h. or_right (is_pair (pairs_of_listed log x (prepare_of log x)) tx q) _ (pair_there log xs tx q p h e m c)) (or_cases (tx_same x tx) (tx_in tx xs) i)

-- a pair of one in doubt is with one that its PREPARE lists and that isn't committed
from_own : (tx t q : TxId) (qs : List TxId) → is_pair (map (λ x. (tx, x)) qs) t q ≡ true → (t ≡ tx) × (tx_in q qs ≡ true)
from_own tx t q [] i = absurd (both_ways false refl i)
from_own tx t q (x ∷ xs) i =
    ⊎_elim (λ a. let b = and_parts (tx_same t tx) (tx_same q x) a in (tx_true t tx b.0, or_left (tx_same x q) (tx_in q xs) (tx_flip q x b.1))) (λ a. let b = from_own tx t q xs a in (b.0, or_right (tx_same x q) (tx_in q xs) b.1))
    (or_cases (tx_same t tx && tx_same q x) (is_pair (map (λ y. (tx, y)) xs) t q) i)

from_listed : (log : List LogRecord) (tx t q : TxId) (o : Option (ℕ × List TxId)) → is_pair (pairs_of_listed log tx o) t q ≡ true → (p : ℕ × List TxId) × (t ≡ tx) × (o ≡ Some p) × (tx_in q p.1 ≡ true) × (committed_in log q ≡ false)
from_listed log tx t q None i = absurd (both_ways false refl i)
from_listed log tx t q (Some p) i =
    let a = from_own tx t q (filter (λ z. not (committed_in log z)) p.1) i in
    let b = in_filter (λ z. not (committed_in log z)) q p.1 a.1 in
    (p, a.0, refl, b.0, not-true (committed_in log q) b.1)

pub pair_from : (log : List LogRecord) (ts : List TxId) (t q : TxId) → is_pair (restored_pairs log ts) t q ≡ true → (p : ℕ × List TxId) × (prepare_of log t ≡ Some p) × (tx_in q p.1 ≡ true) × (committed_in log q ≡ false)
pair_from log [] t q i = absurd (both_ways false refl i)
pair_from log (x ∷ xs) t q i =
    ⊎_elim (λ a. let b = from_listed log x t q (prepare_of log x) a in (b.0, subst (λ z. prepare_of log z ≡ Some b.0) (sym b.1) b.2, b.3, b.4)) (λ a. pair_from log xs t q a)
    (or_cases (is_pair (pairs_of_listed log x (prepare_of log x)) t q) (is_pair (restored_pairs log xs) t q) (sym (pair_append (pairs_of_listed log x (prepare_of log x)) (restored_pairs log xs) t q) ∙ i))

-- ---- the state of a shard that comes back

pub parted_state : (run : ℕ) (W : TxId → ℕ → List (ℕ × ℕ) → Type 0) (S : TxId → Type 0) (F : ℕ → TxId → Type 0) (shard own epoch : ℕ) (log : List LogRecord) (last : ℕ) (journal : List Entry) → Firmly log (length log)
    → ((tx : TxId) → prepared_in log tx ≡ true → tx.run ≡ run → HomeOr W shard tx) → ((tx : TxId) → committed_in log tx ≡ true → Good run W F tx) → Parted run W S F (state_after shard own epoch log last journal)
parted_state run W S F shard own epoch log last journal o k g =
    let t = state_after shard own epoch log last journal in
    record {
      base = record {
        counted = omega arith;
        firm = o;
        stands = λ tx e c. doubt_stand shard log (length log) tx o (restored_stage (in_doubt shard log) tx Closed c).1;
        listed = λ tx p q c e i. ⊎_elim (λ x. inl (all_durable log q x)) (λ x. inr (pair_there log (in_doubt shard log) tx q p (restored_stage (in_doubt shard log) tx Closed c).1 e i x)) (cases_Bool (committed_in log q));
        unprepared = λ tx a. absurd (differ (restored_stage (in_doubt shard log) tx Active a).0);
        seen = k;
        closed = λ tx c r. k tx (doubt_prepared shard log tx (restored_stage (in_doubt shard log) tx Closed c).1) r;
      };
      log = g;
      rows = all_map _ (λ n. (n.0, restored_request n.1)) (unended_in log log) (λ n. tt);
      voters = all_map _ (λ n. (n.0, restored_voter n.1)) (homes_of log (in_doubt shard log)) (λ n. inl (refl, refl));
      out = tt;
    }
  where
    differ : Active ≡ Closed → ⊥
    differ z = absurd cc

-- ---- a restart

pub revived_prepares : (s : Shard) (kept : Bool) (epoch : ℕ) (log : List LogRecord) → Restarts s (log_left s kept) epoch log → (t : TxId) → prepared_in log t ≡ true → prepared_in s.local.log t ≡ true
revived_prepares s kept epoch log g t h =
    let q = prepare_some log t h in prepared_there s.local.log t q.0 (front_prepare _ s.local.log t q.0 (restarts_prepare s (log_left s kept) epoch log g t q.0 q.1))

pub parted_revived : (run : ℕ) (W : TxId → ℕ → List (ℕ × ℕ) → Type 0) (S : TxId → Type 0) (F : ℕ → TxId → Type 0) (s : Shard) (kept : Bool) (epoch : ℕ) (log : List LogRecord) → Restarts s (log_left s kept) epoch log
    → s.durable ≤ cond kept (unwrap_or s.flight s.durable) s.durable → Parted run W S F s → Parted run W S F (revived s epoch log)
parted_revived run W S F s kept epoch log g l p =
    parted_state run W S F s.shard s.run epoch log s.last s.journal
    (firm_restarted s (log_left s kept) epoch log s.durable g (firmly_take (cond kept (unwrap_or s.flight s.durable) s.durable) s.durable s.local.log l (p.base).firm))
    (λ tx h r. (p.base).seen tx (revived_prepares s kept epoch log g tx h) r)
    (λ tx h. p.log tx (front_committed _ s.local.log tx (restarts_add s (log_left s kept) epoch log g tx h)))

-- ---- what is bound stays so

pub bound_state : (shard own epoch : ℕ) (log : List LogRecord) (last : ℕ) (journal : List Entry) (tx : TxId) (p : ℕ × List TxId) → prepare_of log tx ≡ Some p → ((q : TxId) → tx_in q p.1 ≡ true → committed_in log q ≡ true) → Bound (state_after shard own epoch log last journal) tx
bound_state shard own epoch log last journal tx p e k =
    let whole = take_all (length log) log (omega arith) in
    record {
      listed = p;
      prepare = subst (λ l. prepare_of l tx ≡ Some p) (sym whole) e;
      durable = λ q i. subst (λ l. committed_in l q ≡ true) (sym whole) (k q i);
      pairs = λ q i.
          let r = pair_from log (in_doubt shard log) tx q i in
          absurd (both_ways _ r.3 (k q (subst (λ z. tx_in q z.1 ≡ true) (some_same r.0 p (sym r.1 ∙ e)) r.2)));
    }

pub reads_state : (shard own epoch : ℕ) (log : List LogRecord) (last : ℕ) (journal : List Entry) (tx : TxId) → prepared_in log tx ≡ false → Reads (state_after shard own epoch log last journal) tx
reads_state shard own epoch log last journal tx u = record {
  unprepared = u;
  inactive = λ a. differ (restored_stage (in_doubt shard log) tx Active a).0;
  unclosed = λ c. both_ways _ u (doubt_prepared shard log tx (restored_stage (in_doubt shard log) tx Closed c).1);
}
  where
    differ : Active ≡ Closed → ⊥
    differ z = absurd cc
