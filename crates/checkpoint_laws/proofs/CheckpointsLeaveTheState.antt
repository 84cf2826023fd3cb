-- Behind a log in order and behind its checkpoint the same records leave the same state, but for the log: so they do where they end with a restart.
pub mod RequestsStay
use Rattle.std.proofs.Common.{◌≡◌, ◌⊎◌, inl, inr, refl, sym, ap, subst, ◌∙◌, ℕ, ◌+◌, ◌<◌, ⊎_elim, Bool, true, false, cond, not, ◌||◌, List, [], ◌∷◌, ◌++◌, append-nil, map, length, Option, Some, None, arith}
use Rattle.std.specs.Prelude.{◌^◌}
use Rattle.std.specs.List.{AllByRecursion, filter}
use Rattle.std.proofs.lemmas.Bool.{both_ways, false_from_ne_true}
use Rattle.std.proofs.lemmas.List.Folds.{list_any-append}
use Rattle.clv_base.specs.declared.names.TxId.{TxId}
use Rattle.clv_base.specs.declared.logs.LogRecord.{LogRecord}
use Rattle.clv_base.specs.declared.events.Entry.{Entry}
use Rattle.clv_base.specs.Orders.{Table, tx_in}
use Rattle.clv_base.specs.Maps.{KeyMap, with_pairs}
use Rattle.clv_base.specs.Locks.{Locks}
use Rattle.clv_base.specs.Needs.{Records, found_at}
use Rattle.clv_base.specs.Participant.{restored_voters}
use Rattle.clv_base.specs.Coordinator.{restored_requests}
use Rattle.clv_base.specs.declared.state.Held.{Held}
use Rattle.clv_base.specs.declared.state.Voter.{Voter}
use Rattle.clv_base.specs.declared.state.Request.{Request}
use Rattle.clv_base.specs.State.{Shard}
use Rattle.clv_base.specs.Logs.{StandingUpdate, standing, committed_in, prepared_in, aborted_in, has_standing, prepare_of, in_doubt, is_winner, fold_writes, fold_updates, base_of, is_commit_of, is_abort_of}
use Rattle.clv_base.specs.LogRules.{disorder}
use Rattle.clv_base.specs.Restarts.{restart_records, with_ghosts, ghost_if_absent, records_of, restored_locks, restored_lock, part_of, restored_parts, home_by, homes_of, pairs_of_listed, restored_pairs, unended_in, state_after}
use Rattle.clv_base.specs.Checkpoints.{committed_map, check}
use Rattle.clv_base.proofs.SameNames.{or_left, or_right, tx_self}
use Rattle.law_base.proofs.Lists.{all_mono}
use Rattle.law_base.proofs.Logs.{writes_rise}
use Rattle.law_base.proofs.Running.{fold_same}
use Rattle.law_base.proofs.Standing.{standing_append}
use Rattle.protocol_laws.proofs.LogsInOrder.{sealed_in_order}
use Rattle.shard_laws.proofs.Cuts.WhoIsInDoubt.{Doubted, doubted}
use Rattle.shard_laws.proofs.Order.RecordByRecord.{above_later}
use Rattle.shard_laws.proofs.Order.WhoseWritesStand.{open_stands}
use Rattle.shard_laws.proofs.Restarts.RestartsKeepOrder.{restarted_log}
use Rattle.log_checkpoint.proofs.GoingOn.{of_open, folds_on, bottom_first}
use Rattle.log_checkpoint.proofs.StandingAlike.{pairs_alone}
use Rattle.log_checkpoint.proofs.StayingAlike.{cut_on, list_on}
use Rattle.checkpoint_laws.specs.Laws.{log_aside, CheckpointsLeaveTheState, CheckpointsOpenAlike}
use Rattle.checkpoint_laws.proofs.InOrder.{rising, logs_in_order}
use Rattle.checkpoint_laws.proofs.GoingOn.{later_lie}
use Rattle.checkpoint_laws.proofs.CheckpointsGoOnInOrder.{begun, goes, moves, stands, was_open, commit_alike, Open, open_each, doubts, Prepared, prepare_short, as_long, checked_goes_on}
use Rattle.checkpoint_laws.proofs.CheckpointsLeaveTheState.RequestsStay.{requests_stay}

module _ (shard : ℕ) (first : LogRecord) (later : List LogRecord) (d : disorder shard (first ∷ later) ≡ None) (mid : List LogRecord) (in_order : disorder shard (first ∷ later ++ mid) ≡ None)
    (so_far : disorder shard (check shard (first ∷ later) ++ mid) ≡ None) where
  abbrev log : List LogRecord
  log = first ∷ later

  abbrev long : List LogRecord
  long = log ++ mid

  abbrev short : List LogRecord
  short = check shard log ++ mid

  abbrev doubt : List TxId
  doubt = in_doubt shard long

  -- ---- who is in doubt

  doubt_of : (t : TxId) → tx_in t doubt ≡ true → Doubted long doubt t
  doubt_of t i = doubted shard long t (sealed_in_order shard long in_order) i

  doubt_open : (t : TxId) → tx_in t doubt ≡ true → committed_in log t ≡ false
  doubt_open t i = was_open shard first later d mid in_order so_far t (doubt_of t i).open_

  not_in_doubt : (t : TxId) → committed_in log t ≡ true → tx_in t doubt ≡ false
  not_in_doubt t c = false_from_ne_true _ (λ i. both_ways _ (doubt_open t i) c)

  was_aborted : (t : TxId) → aborted_in log t ≡ true → aborted_in long t ≡ true
  was_aborted t a = list_any-append (is_abort_of t) log mid ∙ or_left _ _ a

  prepares : (t : TxId) → tx_in t doubt ≡ true → Prepared shard first later d mid in_order so_far t
  prepares t i =
      prepare_short shard first later d mid in_order so_far t (doubt_open t i)
      (λ p. ⊎_elim (λ h. h) (λ a. absurd (both_ways _ (doubt_of t i).unaborted (was_aborted t a))) (open_stands shard log d t p (doubt_open t i)))

  -- ---- records and locks

  ghosts : (ws : List StandingUpdate) (rs : Records) → with_ghosts doubt (filter (of_open log) ws) rs ≡ with_ghosts doubt ws rs
  ghosts [] rs = refl
  ghosts (w ∷ ws) rs = at (committed_in log w.tx) refl (λ qs. ghosts ws qs)
    where
      at : (c : Bool) → committed_in log w.tx ≡ c → ((qs : Records) → with_ghosts doubt (filter (of_open log) ws) qs ≡ with_ghosts doubt ws qs)
          → with_ghosts doubt (cond (not c) (w ∷ filter (of_open log) ws) (filter (of_open log) ws)) rs ≡ with_ghosts doubt ws (cond (tx_in w.tx doubt) (ghost_if_absent w.key rs (found_at w.key rs)) rs)
      at true e rest = rest rs ∙ sym (ap (λ b. with_ghosts doubt ws (cond b (ghost_if_absent w.key rs (found_at w.key rs)) rs)) (not_in_doubt w.tx e))
      at false e rest = rest (cond (tx_in w.tx doubt) (ghost_if_absent w.key rs (found_at w.key rs)) rs)

  locked : (ws : List StandingUpdate) (ls : Locks) → restored_locks doubt (filter (of_open log) ws) ls ≡ restored_locks doubt ws ls
  locked [] ls = refl
  locked (w ∷ ws) ls = at (committed_in log w.tx) refl (λ qs. locked ws qs)
    where
      at : (c : Bool) → committed_in log w.tx ≡ c → ((qs : Locks) → restored_locks doubt (filter (of_open log) ws) qs ≡ restored_locks doubt ws qs)
          → restored_locks doubt (cond (not c) (w ∷ filter (of_open log) ws) (filter (of_open log) ws)) ls ≡ restored_locks doubt ws (cond (tx_in w.tx doubt) (restored_lock w.tx w.key (part_of w.change) ls) ls)
      at true e rest = rest ls ∙ sym (ap (λ b. restored_locks doubt ws (cond b (restored_lock w.tx w.key (part_of w.change) ls) ls)) (not_in_doubt w.tx e))
      at false e rest = rest (cond (tx_in w.tx doubt) (restored_lock w.tx w.key (part_of w.change) ls) ls)

  winners : (w : StandingUpdate) → Open shard first later d mid in_order so_far w → is_winner shard short w.tx ≡ is_winner shard long w.tx
  winners w o =
      ap (λ b. b || tx_in w.tx (in_doubt shard short)) (commit_alike shard first later d mid in_order so_far w.tx o.1)
      ∙ ap (λ ds. committed_in long w.tx || tx_in w.tx ds) (doubts shard first later d mid in_order so_far)

  map_alike : fold_updates (is_winner shard short) short [] ≡ fold_updates (is_winner shard long) long []
  map_alike =
      let base : KeyMap = base_of log in
      let rise = rising shard log d in
      ap (λ ws. fold_writes (is_winner shard short) ws (with_pairs (committed_map log) [])) (stands shard first later d mid in_order so_far)
      ∙ fold_same (is_winner shard short) (is_winner shard long) (filter (of_open log) (standing long)) (with_pairs (committed_map log) []) (all_mono _ _ winners _ (open_each shard first later d mid in_order so_far))
      ∙ ap (fold_writes (is_winner shard long) (filter (of_open log) (standing long)))
      (pairs_alone (committed_map log) (writes_rise (committed_in log) (standing log) base rise)
      ∙ sym (ap (λ ws. fold_writes (committed_in log) ws base) (standing_append 0 log mid []) ∙ folds_on log (0 + length log) mid (standing log) base (moves shard first later d mid in_order so_far)))
      ∙ sym (bottom_first (committed_in log) (is_winner shard long) (standing long) base rise (λ t c. or_left _ _ (list_any-append (is_commit_of t) log mid ∙ or_left _ _ c)) (later_lie shard first later mid d (goes shard first later d mid in_order so_far)))
      ∙ ap (fold_writes (is_winner shard long) (standing long)) (sym (pairs_alone base rise))

  -- ---- whom the doubted wait for, and their homes

  one_waits : (t : TxId) → tx_in t doubt ≡ true → pairs_of_listed short t (prepare_of short t) ≡ pairs_of_listed long t (prepare_of long t)
  one_waits t i = at (prepares t i)
    where
      same_list : (o : Option (ℕ × List TxId)) → prepare_of long t ≡ o → ((q : ℕ × List TxId) → prepare_of long t ≡ Some q → AllByRecursion (λ p. committed_in log p ≡ false) q.1) → pairs_of_listed short t o ≡ pairs_of_listed long t o
      same_list None e new = refl
      same_list (Some q) e new = ap (map (λ p. (t, p))) (list_on shard first later mid (begun shard first later d) (goes shard first later d mid in_order so_far) q.1 (new q e))

      at : Prepared shard first later d mid in_order so_far t → pairs_of_listed short t (prepare_of short t) ≡ pairs_of_listed long t (prepare_of long t)
      at (inl (q, a, b)) =
          ap (pairs_of_listed short t) b ∙ ap (map (λ p. (t, p))) (cut_on shard first later mid (begun shard first later d) (goes shard first later d mid in_order so_far) q.1) ∙ ap (pairs_of_listed long t) (sym a)
      at (inr (same, new)) = ap (pairs_of_listed short t) same ∙ same_list (prepare_of long t) refl new

  one_home : (t : TxId) → tx_in t doubt ≡ true → home_by (prepare_of short t) ≡ home_by (prepare_of long t)
  one_home t i = at (prepares t i)
    where
      at : Prepared shard first later d mid in_order so_far t → home_by (prepare_of short t) ≡ home_by (prepare_of long t)
      at (inl (q, a, b)) = ap home_by b ∙ ap home_by (sym a)
      at (inr (same, new)) = ap home_by same

  all_wait : (ts : List TxId) → ((t : TxId) → tx_in t ts ≡ true → tx_in t doubt ≡ true) → restored_pairs short ts ≡ restored_pairs long ts
  all_wait [] these = refl
  all_wait (t ∷ ts) these =
      ap (λ l. l ++ restored_pairs short ts) (one_waits t (these t (or_left _ _ (tx_self t)))) ∙ ap (λ l. pairs_of_listed long t (prepare_of long t) ++ l) (all_wait ts (λ u i. these u (or_right _ _ i)))

  all_homes : (ts : List TxId) → ((t : TxId) → tx_in t ts ≡ true → tx_in t doubt ≡ true) → homes_of short ts ≡ homes_of long ts
  all_homes [] these = refl
  all_homes (t ∷ ts) these =
      ap (λ h. (t, h) ∷ homes_of short ts) (one_home t (these t (or_left _ _ (tx_self t)))) ∙ ap (λ l. (t, home_by (prepare_of long t)) ∷ l) (all_homes ts (λ u i. these u (or_right _ _ i)))

  -- ---- the whole state

  module _ (run epoch last : ℕ) (journal : List Entry) where
    abbrev built : Records → Locks → Table Held → List (TxId × TxId) → Table Voter → Table Request → ℕ → Shard
    built records locks parts pairs voters requests n =
        record {
          shard = shard;
          run = run;
          is_up = true;
          local = record { records = records; locks = locks; parts = parts; pairs = pairs; log = []; epoch = epoch };
          voters = voters;
          requests = requests;
          durable = n;
          flight = None;
          outbox = [];
          last = last;
          journal = journal;
        }

    state_alike : log_aside (state_after shard run epoch short last journal) ≡ log_aside (state_after shard run epoch long last journal)
    state_alike =
        ap (λ ds. built (with_ghosts ds (standing short) (records_of (fold_updates (is_winner shard short) short []))) (restored_locks ds (standing short) []) (restored_parts ds) (restored_pairs short ds) (restored_voters (homes_of short ds)) (restored_requests (unended_in short short)) (length short))
        (doubts shard first later d mid in_order so_far)
        ∙ ap (λ m. built (with_ghosts doubt (standing short) (records_of m)) (restored_locks doubt (standing short) []) (restored_parts doubt) (restored_pairs short doubt) (restored_voters (homes_of short doubt)) (restored_requests (unended_in short short)) (length short)) map_alike
        ∙ ap (λ ws. built (with_ghosts doubt ws (records_of kept)) (restored_locks doubt ws []) (restored_parts doubt) (restored_pairs short doubt) (restored_voters (homes_of short doubt)) (restored_requests (unended_in short short)) (length short)) (stands shard first later d mid in_order so_far)
        ∙ ap (λ rs. built rs (restored_locks doubt (filter (of_open log) (standing long)) []) (restored_parts doubt) (restored_pairs short doubt) (restored_voters (homes_of short doubt)) (restored_requests (unended_in short short)) (length short)) (ghosts (standing long) (records_of kept))
        ∙ ap (λ ls. built ghosted ls (restored_parts doubt) (restored_pairs short doubt) (restored_voters (homes_of short doubt)) (restored_requests (unended_in short short)) (length short)) (locked (standing long) [])
        ∙ ap (λ ps. built ghosted lock_all (restored_parts doubt) ps (restored_voters (homes_of short doubt)) (restored_requests (unended_in short short)) (length short)) (all_wait doubt (λ t i. i))
        ∙ ap (λ hs. built ghosted lock_all (restored_parts doubt) (restored_pairs long doubt) (restored_voters hs) (restored_requests (unended_in short short)) (length short)) (all_homes doubt (λ t i. i))
        ∙ ap (λ us. built ghosted lock_all (restored_parts doubt) (restored_pairs long doubt) (restored_voters (homes_of long doubt)) (restored_requests us) (length short)) (requests_stay shard first later (begun shard first later d) mid)
        ∙ ap (built ghosted lock_all (restored_parts doubt) (restored_pairs long doubt) (restored_voters (homes_of long doubt)) (restored_requests (unended_in long long))) (as_long shard first later d mid in_order so_far)
      where
        kept : KeyMap
        kept = fold_updates (is_winner shard long) long []

        ghosted : Records
        ghosted = with_ghosts doubt (standing long) (records_of kept)

        lock_all : Locks
        lock_all = restored_locks doubt (standing long) []

pub checked_leaves : CheckpointsLeaveTheState
checked_leaves shard run epoch last [] more journal d l e = refl
checked_leaves shard run epoch last (r ∷ rs) more journal d l e = state_alike shard r rs d more e (checked_goes_on shard (r ∷ rs) more d l e) run epoch last journal

pub checked_opens : CheckpointsOpenAlike
checked_opens shard run log d l g =
    ap (λ more. log_aside (state_after shard run 0 (check shard log ++ more) 0 [])) ((logs_in_order shard log d).2 run 0)
    ∙ checked_leaves shard run 0 0 log (restart_records shard log run 0) [] d l (restarted_log shard log d run 0 (above_later run 0 log g))
