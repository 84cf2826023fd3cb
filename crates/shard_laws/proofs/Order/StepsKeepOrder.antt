-- What a shard keeps for the order rules, through each kind of step.
use Rattle.std.proofs.Common.{◌≡◌, ◌⊎◌, inl, inr, ⊎_elim, refl, sym, ap, subst, ◌∙◌, ℕ, Bool, true, false, not, ◌||◌, List, [], ◌∷◌, ◌++◌, map, Option, Some, None, ◌==◌, eq-eqb, append-nil, append_assoc}
use Rattle.std.specs.List.{filter}
use Rattle.std.proofs.lemmas.Bool.{both_ways, cond_both, and_from, false_from_ne_true}
use Rattle.std.proofs.lemmas.List.Folds.{list_any-append}
use Rattle.clv_base.specs.declared.names.TxId.{TxId}
use Rattle.clv_base.specs.declared.logs.LogRecord.{LogRecord}
use Rattle.clv_base.specs.declared.logs.LogRecord.TheVariants.{Update, Prepare, Commit, Abort, End, Add}
use Rattle.clv_base.specs.declared.changes.Change.{Change}
use Rattle.clv_base.specs.declared.changes.Change.TheVariants.{Sets, Adds}
use Rattle.clv_base.specs.declared.state.Stage.TheVariants.{Active, Closed}
use Rattle.clv_base.specs.declared.state.Held.{Held}
use Rattle.clv_base.specs.declared.state.Request.{Request}
use Rattle.clv_base.specs.declared.state.RequestState.TheVariants.{Undecided}
use Rattle.clv_base.specs.Orders.{Table, tx_same, tx_in, tx_get, nat_in}
use Rattle.clv_base.specs.State.{Local, Shard, is_present}
use Rattle.clv_base.specs.Locks.{decide}
use Rattle.clv_base.specs.Logs.{StandingUpdate, standing, committed_in, prepared_in, aborted_in, wrote_in, has_standing, ended_in, prepare_of, commit_parts, is_commit_of, is_prepare_of}
use Rattle.clv_base.specs.LogRules.{may_follow, before_restart, listed_in, commit_by_prepare, some_parts}
use Rattle.clv_base.specs.Undo.{gone_in, pairs_without, is_of, is_at, aborts_of, clrs_by, clrs_of, newest_lsn, newest_lsns, compensation}
use Rattle.clv_base.specs.OneShard.{closed_in, closing, marked_in, locked, written, performed}
use Rattle.clv_base.proofs.SameNames.{or_left, or_right, tx_true, tx_self}
use Rattle.law_base.proofs.Parts.{unprepared}
use Rattle.law_base.proofs.Tables.{stage_in, is_pair}
use Rattle.law_base.proofs.Standing.{standing_append}
use Rattle.protocol_laws.proofs.LogsInOrder.{Order}
use Rattle.protocol_laws.proofs.LogsInOrder.OneRecordMore.{push_right, push_cases}
use Rattle.shard_laws.proofs.Cuts.MembersRunSerially.{Once}
use Rattle.shard_laws.proofs.Keeping.ChangesKeepPrepared.{by_prepare, prepare_here}
use Rattle.shard_laws.proofs.Keeping.WhatOneShardKeeps.{Past, Kept, view_of}
use Rattle.shard_laws.proofs.Keeping.GrantingKeeps.{Written, log_by}
use Rattle.shard_laws.proofs.Order.OperationsKeepOrder.{ordered_performed, lying_performed}
use Rattle.clv_base.specs.declared.names.Birth.{Birth}
use Rattle.clv_base.specs.declared.ops.Op.{Op}
use Rattle.clv_base.specs.declared.modes.Decision.TheVariants.{Grant}
use Rattle.clv_base.specs.Needs.{needs_of, value_at, key_of, writes_of}
use Rattle.shard_laws.proofs.Keeping.RecordsOfAnUndo.{no_prepares}
use Rattle.law_base.proofs.Stages.{stage_marked}
use Rattle.law_base.proofs.Sets.{none_listed}
use Rattle.shard_laws.proofs.Order.WritesLieOnListed.{order_of, ended_committed}
use Rattle.shard_laws.proofs.Order.ChangesKeepOrder.{Lying, Ordered, AskedFirst, asked_more, Calm, prepare_some, unlisted, restarted, listed_same, ordered_step, ordered_record, ordered_parts, lying_more, this_run, commit_follows, prepare_follows}
use Rattle.shard_laws.proofs.Order.ClosingKeepsOrder.{ordered_prepare, ordered_close, ordered_leave, ordered_taken, lying_taken, rolled_stepped, lying_rolled}
use Rattle.shard_laws.proofs.Order.WhatRulingsMayWrite.{Rulings, rulings_more, ruled_more}
use Rattle.law_base.proofs.Names.{MayStand}
use Rattle.law_base.proofs.Logs.{no_prepare as prepare_none}

pub record KeepsOrder (asked : List TxId) (shard run : ℕ) (parts : Table Held) (pairs : List (TxId × TxId)) (log : List LogRecord) (requests : Table Request) : Type 0 where
  pub ordered : Ordered shard run parts pairs log
  pub lying : Lying pairs log
  pub rulings : Rulings shard run requests log
  pub asks : AskedFirst asked run log

-- one more asked
pub order_asked : (asked : List TxId) (shard run : ℕ) (parts : Table Held) (pairs : List (TxId × TxId)) (log : List LogRecord) (requests : Table Request) (t : TxId) → KeepsOrder asked shard run parts pairs log requests → KeepsOrder (asked ++ t ∷ []) shard run parts pairs log requests
order_asked asked shard run parts pairs log requests t k =
    record { ordered = k.ordered; lying = k.lying; rulings = k.rulings; asks = λ u e. ⊎_elim (λ a. inl (list_any-append (λ x. tx_same x u) asked (t ∷ []) ∙ or_left _ _ a)) (λ l. inr l) (k.asks u e) }

-- a part is marked
pub order_marked : (asked : List TxId) (shard run : ℕ) (parts : Table Held) (pairs : List (TxId × TxId)) (log : List LogRecord) (requests : Table Request) (t : TxId) → KeepsOrder asked shard run parts pairs log requests → KeepsOrder asked shard run (marked_in t parts) pairs log requests
order_marked asked shard run parts pairs log requests t k = record {
  ordered = ordered_parts shard run parts (marked_in t parts) pairs pairs log k.ordered (record {
    follows = tt;
    calm = tt;
    active = λ u a. sym (stage_marked t u parts) ∙ a;
    closed = λ u a. sym (stage_marked t u parts) ∙ a;
    kept = λ u p e. (e, λ c. inl (stage_marked t p parts ∙ c));
    stay = λ u p c e. e;
  });
  lying = k.lying;
  rulings = k.rulings;
  asks = k.asks;
}

module _ (asked : List TxId) (shard run : ℕ) (parts : Table Held) (pairs : List (TxId × TxId)) (log : List LogRecord) (requests : Table Request) (k : KeepsOrder asked shard run parts pairs log requests) where
  now : Order shard log
  now = order_of shard log (k.ordered).in_order

  -- a set leaves
  pub order_leaves : (set : List TxId) (d : Option TxId) → ((u : TxId) → tx_in u set ≡ true → (has_standing log u ≡ true → committed_in log u ≡ true) ⊎ ((stage_in parts u ≡ Some Closed → ⊥) × ((p : TxId) → is_pair pairs u p ≡ true → ⊥)))
      → KeepsOrder asked shard run (gone_in set d parts) (pairs_without set pairs) log requests
  order_leaves set d h =
      let x = ordered_leave shard run parts pairs log set d k.ordered k.lying (now.writes).lie h in
      record { ordered = ordered_parts shard run parts (gone_in set d parts) pairs (pairs_without set pairs) log k.ordered x.0; lying = x.1; rulings = k.rulings; asks = k.asks }

  -- CLRs and UNADDs are neither PREPAREs nor ENDs
  by_undo : (gone : StandingUpdate → Bool) (t : TxId) (ws : List StandingUpdate) → (prepared_in (clrs_by gone ws) t ≡ false) × (ended_in (clrs_by gone ws) t ≡ false)
  by_undo gone t [] = (refl, refl)
  by_undo gone t (w ∷ ws) =
      cond_both (gone w) (compensation w.tx (newest_lsn w.tx ws) w.key w.change ∷ clrs_by gone ws) (clrs_by gone ws) (λ l. (prepared_in l t ≡ false) × (ended_in l t ≡ false)) (λ e. at w.change (by_undo gone t ws)) (λ e. by_undo gone t ws)
    where
      at : (c : Change) → (prepared_in (clrs_by gone ws) t ≡ false) × (ended_in (clrs_by gone ws) t ≡ false)
          → (prepared_in (compensation w.tx (newest_lsn w.tx ws) w.key c ∷ clrs_by gone ws) t ≡ false) × (ended_in (compensation w.tx (newest_lsn w.tx ws) w.key c ∷ clrs_by gone ws) t ≡ false)
      at (Sets before after) more = more
      at (Adds by) more = more

  -- a set is taken away
  no_ends : (set : List TxId) (t : TxId) → ended_in (aborts_of log set ++ clrs_of set (standing log)) t ≡ false
  no_ends set t = aborts (filter (has_standing log) set)
    where
      aborts : (us : List TxId) → ended_in (map (λ u. Abort u) us ++ clrs_of set (standing log)) t ≡ false
      aborts [] = (by_undo (is_of set) t (standing log)).1
      aborts (u ∷ us) = aborts us

  pub order_taken : (set : List TxId) (d : TxId) → ((t p : TxId) → is_pair pairs t p ≡ true → tx_in p set ≡ true → tx_in t set ≡ true) → ((t : TxId) → tx_in t set ≡ true → committed_in log t ≡ false) → ((t : TxId) → tx_in t set ≡ true → is_present (stage_in parts t) ≡ true) → Once set
      → KeepsOrder asked shard run (gone_in set (Some d) parts) (pairs_without set pairs) (log ++ aborts_of log set ++ clrs_of set (standing log)) requests
  order_taken set d up open_ here once = record {
    ordered = ordered_taken shard run parts pairs log set d k.ordered k.lying up open_ here once;
    lying = lying_taken shard run parts pairs log set d k.ordered k.lying up open_ here once;
    rulings = subst (Rulings shard run requests) (sym (append_assoc log (aborts_of log set) (clrs_of set (standing log)))) (rulings_more shard run requests log (aborts_of log set ++ clrs_of set (standing log)) (λ t. no_prepares set t log) (no_ends set) k.rulings);
    asks = subst (AskedFirst asked run) (sym (append_assoc log (aborts_of log set) (clrs_of set (standing log)))) (asked_more asked run log (aborts_of log set ++ clrs_of set (standing log)) (λ t. no_prepares set t log) k.asks);
  }

  -- an active part goes back
  pub order_rolls : (tx : TxId) (n : ℕ) → stage_in parts tx ≡ Some Active → committed_in log tx ≡ false → prepared_in log tx ≡ false → KeepsOrder asked shard run parts pairs (log ++ clrs_by (is_at (newest_lsns n tx (standing log))) (standing log)) requests
  order_rolls tx n act open_ unprepared =
      let gone : StandingUpdate → Bool = is_at (newest_lsns n tx (standing log)) in
      record {
        ordered = ordered_step shard run parts parts pairs pairs log (clrs_by gone (standing log)) k.ordered (rolled_stepped shard run parts pairs log tx n k.ordered k.lying act open_ unprepared);
        lying = lying_rolled shard run parts pairs log tx n k.ordered k.lying act open_ unprepared;
        rulings = rulings_more shard run requests log (clrs_by gone (standing log)) (λ t. (by_undo gone t (standing log)).0) (λ t. (by_undo gone t (standing log)).1) k.rulings;
        asks = asked_more asked run log (clrs_by gone (standing log)) (λ t. (by_undo gone t (standing log)).0) k.asks;
      }

  calm_commit : (t : TxId) (ps : List ℕ) → Calm parts (Commit t ps)
  calm_commit t ps = record { plainly = tt; no_update = λ u. refl; no_prepare = λ u. refl; no_abort = λ u p. refl; no_undo = λ u c. refl }

  calm_end : (t : TxId) → Calm parts (End t)
  calm_end t = record { plainly = tt; no_update = λ u. refl; no_prepare = λ u. refl; no_abort = λ u p. refl; no_undo = λ u c. refl }

  pub commit_kept : (t : TxId) (ps : List ℕ) → may_follow shard log (Commit t ps) ≡ true → KeepsOrder asked shard run parts pairs (log ++ Commit t ps ∷ []) requests
  commit_kept t ps m = record {
    ordered = ordered_record shard run parts pairs log (Commit t ps) k.ordered m (calm_commit t ps);
    lying = lying_more pairs log (Commit t ps ∷ []) (standing_append 0 log (Commit t ps ∷ []) []) k.lying;
    rulings = rulings_more shard run requests log (Commit t ps ∷ []) (λ u. refl) (λ u. refl) k.rulings;
    asks = asked_more asked run log (Commit t ps ∷ []) (λ u. refl) k.asks;
  }

  -- a COMMIT of a closed part whose predecessors are committed
  pub order_commits : (t : TxId) (ps : List ℕ) → stage_in parts t ≡ Some Closed → committed_in log t ≡ false → nat_in shard ps ≡ false → ((p : TxId) → is_pair pairs t p ≡ true → committed_in log p ≡ true) → commit_by_prepare shard log t ps (prepare_of log t) ≡ true → (has_standing log t || some_parts ps) ≡ true
      → KeepsOrder asked shard run parts pairs (log ++ Commit t ps ∷ []) requests
  order_commits t ps closed open_ home before by wrote = commit_kept t ps
      (commit_follows shard run parts pairs log k.ordered k.lying (now.writes).falls t ps (ap is_present closed) open_ home before (λ p i. ⊎_elim (λ c. c) (λ e. before p e) ((k.ordered).lists t p closed i)) by wrote)

  -- who is closed and not committed, and of whom a write stands, is prepared
  pub is_prepared : (t : TxId) → stage_in parts t ≡ Some Closed → has_standing log t ≡ true → committed_in log t ≡ false → prepared_in log t ≡ true
  is_prepared t closed wrote open_ = ⊎_elim (λ p. p) (λ c. absurd (both_ways _ open_ c)) ((k.ordered).decided t closed wrote)

  pub ended_open : (t : TxId) → committed_in log t ≡ false → ended_in log t ≡ false
  ended_open t c = false_from_ne_true _ (λ e. both_ways _ c (ended_committed shard log (k.ordered).in_order t e))

  -- a part is closed
  close_more : (t : TxId) (log2 : List LogRecord) → stage_in parts t ≡ Some Active → KeepsOrder asked shard run parts pairs log2 requests → (has_standing log2 t ≡ true → (prepared_in log2 t ≡ true) ⊎ (committed_in log2 t ≡ true))
      → ((p : TxId) → tx_in p (listed_in log2 t) ≡ true → (committed_in log2 p ≡ true) ⊎ (is_pair pairs t p ≡ true)) → KeepsOrder asked shard run (closed_in t parts) pairs log2 requests
  close_more t log2 act h wrote listed = record { ordered = ordered_close shard run parts pairs log2 t h.ordered act wrote listed; lying = h.lying; rulings = h.rulings; asks = h.asks }

  close_commits : (t : TxId) → stage_in parts t ≡ Some Active → committed_in log t ≡ false → prepared_in log t ≡ false → has_standing log t ≡ true → ((p : TxId) → is_pair pairs t p ≡ true → committed_in log p ≡ true) → KeepsOrder asked shard run (closed_in t parts) pairs (log ++ Commit t [] ∷ []) requests
  close_commits t act open_ unprepared wrote before =
      close_more t (log ++ Commit t [] ∷ []) act
      (commit_kept t [] (commit_follows shard run parts pairs log k.ordered k.lying (now.writes).falls t [] (ap is_present act) open_ refl before (λ p i. absurd (none_listed p _ (unlisted log t unprepared) i))
      (subst (λ o. commit_by_prepare shard log t [] o ≡ true) (sym (prepare_none log t unprepared)) (this_run shard run parts pairs log k.ordered k.lying (now.writes).falls t ((k.ordered).of_run t act) unprepared)) (or_left _ _ wrote)))
      (λ w. inr (push_right (λ r. is_commit_of t r) log (Commit t []) (tx_self t)))
      (λ p i. absurd (none_listed p _ (listed_same log (Commit t [] ∷ []) t refl ∙ unlisted log t unprepared) i))

  close_prepares : (t : TxId) (home : ℕ) (ps : List TxId) → stage_in parts t ≡ Some Active → tx_in t asked ≡ true → committed_in log t ≡ false → prepared_in log t ≡ false → has_standing log t ≡ true → ((p : TxId) → tx_in p ps ≡ true → (is_pair pairs t p ≡ true) × (committed_in log p ≡ false))
      → ((p : TxId) → is_pair pairs t p ≡ true → (committed_in log p ≡ true) ⊎ (tx_in p ps ≡ true)) → ((u : TxId) (q : Request) → tx_get u requests ≡ Some q → q.state ≡ Undecided → tx_same u t ≡ false)
      → KeepsOrder asked shard run (closed_in t parts) pairs (log ++ Prepare t home ps ∷ []) requests
  close_prepares t home ps act asks open_ unprepared wrote mine all_mine no_request =
      close_more t (log ++ Prepare t home ps ∷ []) act
      (record {
        ordered = ordered_prepare shard run parts pairs log t home ps k.ordered (prepare_follows shard run parts pairs log k.ordered k.lying (now.writes).falls t home ps act wrote unprepared open_ mine all_mine) act;
        lying = lying_more pairs log (Prepare t home ps ∷ []) (standing_append 0 log (Prepare t home ps ∷ []) []) k.lying;
        rulings = λ u q e. ruled_more shard run log (Prepare t home ps ∷ []) u q (λ un. ap (λ b. b || false) (no_request u q e un)) refl (k.rulings u q e);
        asks = λ u e. ⊎_elim (λ old. k.asks u old) (λ s. inl (subst (λ z. tx_in z asked ≡ true) (sym (tx_true u t s)) asks)) (push_cases (is_prepare_of u) log (Prepare t home ps) e);
      })
      (λ w. inl (push_right (λ r. is_prepare_of t r) log (Prepare t home ps) (tx_self t)))
      (λ p i. inr (mine p (ap (λ o. tx_in p (by_prepare o)) (sym (prepare_here log [] t home ps unprepared)) ∙ i)).0)

  -- with the record that closes it
  pub order_closes : (t : TxId) (home : ℕ) (wrote one : Bool) (ps : List TxId) → has_standing log t ≡ wrote → stage_in parts t ≡ Some Active → tx_in t asked ≡ true → committed_in log t ≡ false → prepared_in log t ≡ false
      → ((p : TxId) → tx_in p ps ≡ true → (is_pair pairs t p ≡ true) × (committed_in log p ≡ false)) → ((p : TxId) → is_pair pairs t p ≡ true → (committed_in log p ≡ true) ⊎ (tx_in p ps ≡ true)) → ((u : TxId) (q : Request) → tx_get u requests ≡ Some q → q.state ≡ Undecided → tx_same u t ≡ false)
      → KeepsOrder asked shard run (closed_in t parts) pairs (log ++ closing wrote one t home ps) requests
  order_closes t home false one ps w act asks open_ unprepared mine all_mine no_request =
      subst (λ l. KeepsOrder asked shard run (closed_in t parts) pairs l requests) (sym (append-nil log))
      (close_more t log act k (λ e. absurd (both_ways _ w e)) (λ p i. absurd (none_listed p _ (unlisted log t unprepared) i)))
  order_closes t home true true [] w act asks open_ unprepared mine all_mine no_request =
      close_commits t act open_ unprepared w (λ p e. ⊎_elim (λ c. c) (λ i. absurd (both_ways false refl i)) (all_mine p e))
  order_closes t home true true (p ∷ ps) w act asks open_ unprepared mine all_mine no_request = close_prepares t home (p ∷ ps) act asks open_ unprepared w mine all_mine no_request
  order_closes t home true false ps w act asks open_ unprepared mine all_mine no_request = close_prepares t home ps act asks open_ unprepared w mine all_mine no_request

  -- an END of a commit that awaits none
  pub order_ends : (t : TxId) (p : ℕ) (ps : List ℕ) → commit_parts log t ≡ Some (p ∷ ps) → ended_in log t ≡ false → Ordered shard run parts pairs (log ++ End t ∷ []) × Lying pairs (log ++ End t ∷ [])
  order_ends t p ps there open_ = (
    ordered_record shard run parts pairs log (End t) k.ordered
        (and_from _ _ (and_from _ _ (restarted shard run parts pairs log k.ordered k.lying (now.writes).falls) (ap not open_)) (subst (λ o. elim o [ Some qs ↦ some_parts qs | None ↦ false ] ≡ true) (sym there) refl)) (calm_end t),
    lying_more pairs log (End t ∷ []) (standing_append 0 log (End t ∷ []) []) k.lying,
  )

  -- a home's own COMMIT, by its undecided request
  home_case : (t : TxId) (ps : List ℕ) (o : Option (ℕ × List TxId)) → prepare_of log t ≡ o → t.run ≡ run → ((p : ℕ × List TxId) → prepare_of log t ≡ Some p → p.0 ≡ shard) → commit_by_prepare shard log t ps o ≡ true
  home_case t ps None e r home = this_run shard run parts pairs log k.ordered k.lying (now.writes).falls t r (unprepared log t e)
  home_case t ps (Some p) e r home = or_left _ _ (eq-eqb p.0 shard (home p e))

  pub home_commits : (t : TxId) (q : Request) (ps : List ℕ) → tx_get t requests ≡ Some q → q.state ≡ Undecided → stage_in parts t ≡ Some Closed → committed_in log t ≡ false → nat_in shard ps ≡ false → ((p : TxId) → is_pair pairs t p ≡ true → committed_in log p ≡ true) → (has_standing log t || some_parts ps) ≡ true
      → KeepsOrder asked shard run parts pairs (log ++ Commit t ps ∷ []) requests
  home_commits t q ps there un closed open_ home before wrote =
      let r = (k.rulings t q there).undecided un in
      order_commits t ps closed open_ home before (home_case t ps (prepare_of log t) refl r.0 r.1) wrote

  -- a COMMIT that another home decided
  pub decision_commits : (t : TxId) → stage_in parts t ≡ Some Closed → committed_in log t ≡ false → ((p : TxId) → is_pair pairs t p ≡ true → committed_in log p ≡ true) → has_standing log t ≡ true → KeepsOrder asked shard run parts pairs (log ++ Commit t [] ∷ []) requests
  decision_commits t closed open_ before wrote =
      let p = prepare_some log t (is_prepared t closed wrote open_) in
      order_commits t [] closed open_ refl before (subst (λ o. commit_by_prepare shard log t [] o ≡ true) (sym p.1) (or_right ((p.0).0 == shard) true refl)) (or_left _ _ wrote)

-- ---- a granted operation

rulings_by : (shard run : ℕ) (requests : Table Request) (log : List LogRecord) (tx : TxId) (w : Written) → Rulings shard run requests log → Rulings shard run requests (log_by tx w log)
rulings_by shard run requests log tx None r = r
rulings_by shard run requests log tx (Some (key, Sets before after)) r = rulings_more shard run requests log (Update tx key before after ∷ []) (λ t. refl) (λ t. refl) r
rulings_by shard run requests log tx (Some (key, Adds by)) r = rulings_more shard run requests log (Add tx key by ∷ []) (λ t. refl) (λ t. refl) r

asks_by : (asked : List TxId) (run : ℕ) (log : List LogRecord) (tx : TxId) (w : Written) → AskedFirst asked run log → AskedFirst asked run (log_by tx w log)
asks_by asked run log tx None a = a
asks_by asked run log tx (Some (key, Sets before after)) a = asked_more asked run log (Update tx key before after ∷ []) (λ t. refl) a
asks_by asked run log tx (Some (key, Adds by)) a = asked_more asked run log (Add tx key by ∷ []) (λ t. refl) a

order_written : (asked : List TxId) (shard run : ℕ) (tx : TxId) (birth : Birth) (op : Op) (l : Local) (requests : Table Request) (w : Written)
    → KeepsOrder asked shard run (locked tx birth op l).parts (locked tx birth op l).pairs (log_by tx w l.log) requests
    → KeepsOrder asked shard run (written tx w (locked tx birth op l)).parts (written tx w (locked tx birth op l)).pairs (written tx w (locked tx birth op l)).log requests
order_written asked shard run tx birth op l requests None k = k
order_written asked shard run tx birth op l requests (Some w) k = k

pub order_performs : (asked : List TxId) (g : Past) (s : Shard) (tx : TxId) (birth : Birth) (op : Op) → Kept g (view_of s) → KeepsOrder asked s.shard s.run s.local.parts s.local.pairs s.local.log s.requests
    → decide tx birth (needs_of op s.local.records) s.local.locks ≡ Grant → MayStand s.local.parts tx birth → tx.run ≡ s.run → committed_in s.local.log tx ≡ false → prepared_in s.local.log tx ≡ false → aborted_in s.local.log tx ≡ false → wrote_in (before_restart [] s.local.log) tx ≡ false
    → KeepsOrder asked s.shard s.run (performed tx birth op s.local).parts (performed tx birth op s.local).pairs (performed tx birth op s.local).log s.requests
order_performs asked g s tx birth op kept k grant may run_is open_ unprepared unaborted unwritten =
    let o = order_of s.shard s.local.log (k.ordered).in_order in
    let w : Written = writes_of op (value_at (key_of op) s.local.records) in
    order_written asked s.shard s.run tx birth op s.local s.requests (writes_of op (value_at (key_of op) s.local.records)) (record {
      ordered = ordered_performed s.shard s.run g (view_of s) tx birth op kept k.ordered k.lying o grant may run_is open_ unprepared unaborted unwritten;
      lying = lying_performed s.shard s.run g (view_of s) tx birth op kept k.ordered k.lying o grant may run_is open_ unprepared unaborted unwritten;
      rulings = rulings_by s.shard s.run s.requests s.local.log tx w k.rulings;
      asks = asks_by asked s.run s.local.log tx w k.asks;
    })
