-- The records that a restart writes leave who is in doubt, who wins, and what the winners leave.
use Rattle.std.proofs.Common.{◌≡◌, ℕ, Bool, true, false, cond, not, List, [], ◌∷◌, ◌++◌, Option, refl, sym, ap, subst, ◌∙◌, append-nil, append_assoc}
use Rattle.std.specs.List.{filter}
use Rattle.std.proofs.lemmas.Bool.{both_ways, not-true, or_parts, false_from_ne_true, cond_both, cond-false}
use Rattle.clv_base.specs.declared.names.TxId.{TxId}
use Rattle.clv_base.specs.declared.logs.LogRecord.{LogRecord}
use Rattle.clv_base.specs.declared.logs.LogRecord.TheVariants.{Clr, Abort, Restart, Unadd}
use Rattle.clv_base.specs.declared.changes.Change.{Change}
use Rattle.clv_base.specs.declared.changes.Change.TheVariants.{Sets, Adds}
use Rattle.clv_base.specs.Orders.{tx_in}
use Rattle.clv_base.specs.Maps.{KeyMap, with_pairs}
use Rattle.clv_base.specs.Logs.{StandingUpdate, standing, writers, aborted_in, committed_in, in_doubt, is_winner, base_of, fold_writes, fold_updates, with_change}
use Rattle.clv_base.specs.Needs.{Records, found_at}
use Rattle.clv_base.specs.Undo.{is_of, clrs_of, newest_lsn, compensation}
use Rattle.clv_base.specs.Restarts.{losers, restart_records, log_after_restart, records_of, with_ghosts, ghost_if_absent}
use Rattle.clv_base.proofs.SameNames.{or_left, or_right, tx_true, tx_self}
use Rattle.law_base.specs.Undone.{stays_of}
use Rattle.law_base.proofs.Bases.{base_more}
use Rattle.law_base.proofs.Logs.{undo_base, restart_undoes}
use Rattle.law_base.proofs.Doubts.{Unlike, is_it, nobody, abort_unlike, clr_unlike, unadd_unlike, restart_unlike, doubts_more, winners_more, standing_more}
use Rattle.law_base.proofs.Sets.{in_filter}
use Rattle.law_base.proofs.Undoing.{set_newest, standing_undone_by}
use Rattle.cascade_undo.proofs.Laws.{both}
use Rattle.shard_recovery.specs.Aborting.{aborts, unaborted}
use Rattle.shard_recovery.specs.Winning.{records_after}
use Rattle.shard_recovery.proofs.Folded.{fold_alike}
use Rattle.shard_recovery.proofs.Whole.{standing_aborts}

-- ---- who is in doubt, and who wins

-- none of these is told by g
abbrev Spared : (TxId → Bool) → List TxId → Type 0
Spared g txs = (t : TxId) → tx_in t txs ≡ true → g t ≡ false

-- one log leaves them as another does
record LeavesSame (shard : ℕ) (log after : List LogRecord) : Type 0 where
  doubts : in_doubt shard after ≡ in_doubt shard log
  wins : (t : TxId) → is_winner shard after t ≡ is_winner shard log t

leaves_none : (shard : ℕ) (log : List LogRecord) → LeavesSame shard log (log ++ [])
leaves_none shard log = subst (LeavesSame shard log) (sym (append-nil log)) (record { doubts = refl; wins = λ t. refl })

leaves_one : (shard : ℕ) (log : List LogRecord) (r : LogRecord) (g : TxId → Bool) → Unlike g r → Spared g (in_doubt shard log) → LeavesSame shard log (log ++ r ∷ [])
leaves_one shard log r g unlike spared = record { doubts = doubts_more g log r shard unlike spared; wins = λ t. winners_more g log r shard t unlike spared }

leaves_on : (shard : ℕ) (a b c : List LogRecord) → LeavesSame shard a b → LeavesSame shard b c → LeavesSame shard a c
leaves_on shard a b c first next = record { doubts = next.doubts ∙ first.doubts; wins = λ t. next.wins t ∙ first.wins t }

-- ABORTs of some that aren't in doubt
spares_it : (t : TxId) (txs : List TxId) → tx_in t txs ≡ false → Spared (is_it t) txs
spares_it t txs out = λ u i. false_from_ne_true _ (λ e. both_ways _ out (subst (λ x. tx_in x txs ≡ true) (tx_true u t e) i))

leaves_aborts : (shard : ℕ) (log : List LogRecord) (ts : List TxId) → ((t : TxId) → tx_in t ts ≡ true → tx_in t (in_doubt shard log) ≡ false) → LeavesSame shard log (log ++ aborts ts)
leaves_aborts shard log [] out = leaves_none shard log
leaves_aborts shard log (t ∷ ts) out =
    let one = leaves_one shard log (Abort t) (is_it t) (abort_unlike t) (spares_it t (in_doubt shard log) (out t (or_left _ _ (tx_self t)))) in
    let more = leaves_aborts shard (log ++ Abort t ∷ []) ts (λ u i. ap (tx_in u) one.doubts ∙ out u (later u i)) in
    subst (LeavesSame shard log) (append_assoc log (Abort t ∷ []) (aborts ts)) (leaves_on shard log (log ++ Abort t ∷ []) ((log ++ Abort t ∷ []) ++ aborts ts) one more)
  where
    later : (u : TxId) → tx_in u ts ≡ true → tx_in u (t ∷ ts) ≡ true
    later u i = or_right _ _ i

-- CLRs and UNADDs
leaves_compensation : (shard : ℕ) (log : List LogRecord) (tx : TxId) (next : Option ℕ) (key : ℕ) (c : Change) → LeavesSame shard log (log ++ compensation tx next key c ∷ [])
leaves_compensation shard log tx next key (Sets before after) = leaves_one shard log (Clr tx next key before) nobody (clr_unlike tx next key before) (λ u i. refl)
leaves_compensation shard log tx next key (Adds by) = leaves_one shard log (Unadd tx next key by) nobody (unadd_unlike tx next key by) (λ u i. refl)

leaves_clrs : (shard : ℕ) (set : List TxId) (ws : List StandingUpdate) (log : List LogRecord) → LeavesSame shard log (log ++ clrs_of set ws)
leaves_clrs shard set [] log = leaves_none shard log
leaves_clrs shard set (w ∷ ws) log =
    both (λ b. LeavesSame shard log (log ++ cond b (compensation w.tx (newest_lsn w.tx ws) w.key w.change ∷ clrs_of set ws) (clrs_of set ws))) (tx_in w.tx set)
    (λ _.
    let r = compensation w.tx (newest_lsn w.tx ws) w.key w.change in
    let one = leaves_compensation shard log w.tx (newest_lsn w.tx ws) w.key w.change in
    subst (LeavesSame shard log) (append_assoc log (r ∷ []) (clrs_of set ws)) (leaves_on shard log (log ++ r ∷ []) ((log ++ r ∷ []) ++ clrs_of set ws) one (leaves_clrs shard set ws (log ++ r ∷ []))))
    (λ _. leaves_clrs shard set ws log)

-- ---- what the writes of others leave

-- writes of some that don't win may go
fold_kept : (keep : TxId → Bool) (stays : StandingUpdate → Bool) (ws : List StandingUpdate) (m : KeyMap) → ((w : StandingUpdate) → stays w ≡ false → keep w.tx ≡ false) → fold_writes keep (filter stays ws) m ≡ fold_writes keep ws m
fold_kept keep stays [] m out = refl
fold_kept keep stays (w ∷ ws) m out =
    cond_both (stays w) (w ∷ filter stays ws) (filter stays ws) (λ l. fold_writes keep l m ≡ fold_writes keep (w ∷ ws) m)
    (λ e. ap (λ n. cond (keep w.tx) (with_change w.key w.change n) n) (fold_kept keep stays ws m out))
    (λ e. fold_kept keep stays ws m out ∙ sym (cond-false (keep w.tx) (with_change w.key w.change (fold_writes keep ws m)) (fold_writes keep ws m) (out w e)))

-- and of some that aren't in doubt
ghosts_kept : (txs : List TxId) (stays : StandingUpdate → Bool) (ws : List StandingUpdate) (rs : Records) → ((w : StandingUpdate) → stays w ≡ false → tx_in w.tx txs ≡ false) → with_ghosts txs (filter stays ws) rs ≡ with_ghosts txs ws rs
ghosts_kept txs stays [] rs out = refl
ghosts_kept txs stays (w ∷ ws) rs out =
    cond_both (stays w) (w ∷ filter stays ws) (filter stays ws) (λ l. with_ghosts txs l rs ≡ with_ghosts txs (w ∷ ws) rs)
    (λ e. ghosts_kept txs stays ws (cond (tx_in w.tx txs) (ghost_if_absent w.key rs (found_at w.key rs)) rs) out)
    (λ e. ghosts_kept txs stays ws rs out ∙ ap (with_ghosts txs ws) (sym (cond-false (tx_in w.tx txs) (ghost_if_absent w.key rs (found_at w.key rs)) rs (out w e))))

-- ---- a restart

module _ (shard : ℕ) (log : List LogRecord) (run epoch : ℕ) where
  all : List TxId
  all = losers shard log

  fresh : List TxId
  fresh = unaborted log all

  -- the log, its ABORTs, the CLRs and UNADDs, and the RESTART
  in_steps : log_after_restart shard log run epoch ≡ ((log ++ aborts fresh) ++ clrs_of all (standing log)) ++ Restart run epoch ∷ []
  unfolding all fresh
  in_steps =
      ap (λ l. log ++ l) (append_assoc (aborts fresh) (clrs_of all (standing log)) (Restart run epoch ∷ []))
      ∙ sym (append_assoc (log ++ aborts fresh) (clrs_of all (standing log)) (Restart run epoch ∷ []) ∙ append_assoc log (aborts fresh) (clrs_of all (standing log) ++ Restart run epoch ∷ []))

  loses : (t : TxId) → tx_in t all ≡ true → is_winner shard log t ≡ false
  unfolding all
  loses t i = not-true _ (in_filter (λ u. not (is_winner shard log u)) t (writers (standing log)) i).1

  undoubted : (t : TxId) → tx_in t all ≡ true → tx_in t (in_doubt shard log) ≡ false
  undoubted t i = (or_parts (committed_in log t) (tx_in t (in_doubt shard log)) (loses t i)).1

  leaves : LeavesSame shard log (log_after_restart shard log run epoch)
  unfolding fresh
  leaves =
      let mid = log ++ aborts fresh in let undone = mid ++ clrs_of all (standing log) in
      let first = leaves_aborts shard log fresh (λ t i. undoubted t (in_filter (λ u. not (aborted_in log u)) t all i).0) in
      let last = leaves_one shard undone (Restart run epoch) nobody (restart_unlike run epoch) (λ u i. refl) in
      subst (LeavesSame shard log) (sym in_steps)
      (leaves_on shard log undone (undone ++ Restart run epoch ∷ []) (leaves_on shard log mid undone first (leaves_clrs shard all (standing log) mid)) last)

  -- what stands is no loser's
  stands : standing (log_after_restart shard log run epoch) ≡ filter (stays_of all) (standing log)
  stands =
      let mid = log ++ aborts fresh in
      ap standing in_steps
      ∙ standing_more (mid ++ clrs_of all (standing log)) (Restart run epoch)
      ∙ ap (λ ws. standing (mid ++ clrs_of all ws)) (sym (standing_aborts log fresh))
      ∙ standing_undone_by (is_of all) mid (set_newest all (standing mid))
      ∙ ap (filter (stays_of all)) (standing_aborts log fresh)

  -- the log after a restart leaves the records that the log found does
  pub restart_leaves : records_after shard (log_after_restart shard log run epoch) ≡ records_after shard log
  restart_leaves =
      let after = log_after_restart shard log run epoch in
      let begins = base_more log (restart_records shard log run epoch) (undo_base (restart_records shard log run epoch) (restart_undoes shard log run epoch)) in
      let folded = fold_alike (is_winner shard after) (is_winner shard log) leaves.wins after []
      ∙ ap (λ base. fold_writes (is_winner shard log) (standing after) (with_pairs base [])) begins
      ∙ ap (λ ws. fold_writes (is_winner shard log) ws (with_pairs (base_of log) [])) stands
      ∙ fold_kept (is_winner shard log) (stays_of all) (standing log) (with_pairs (base_of log) []) (λ w e. loses w.tx (gone w e)) in
      ap (λ ts. with_ghosts ts (standing after) (records_of (fold_updates (is_winner shard after) after []))) leaves.doubts
      ∙ ap (λ m. with_ghosts (in_doubt shard log) (standing after) (records_of m)) folded
      ∙ ap (λ ws. with_ghosts (in_doubt shard log) ws (records_of (fold_updates (is_winner shard log) log []))) stands
      ∙ ghosts_kept (in_doubt shard log) (stays_of all) (standing log) (records_of (fold_updates (is_winner shard log) log [])) (λ w e. undoubted w.tx (gone w e))
    where
      gone : (w : StandingUpdate) → stays_of all w ≡ false → tx_in w.tx all ≡ true
      gone w e = at (tx_in w.tx all) e
        where
          at : (b : Bool) → not b ≡ false → b ≡ true
          at true f = refl
          at false f = absurd (both_ways _ f refl)
