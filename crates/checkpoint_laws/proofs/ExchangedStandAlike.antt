-- Logs that may be opened stand for the same map where some are exchanged for their checkpoints: who is committed somewhere, and has a write that stands elsewhere, has a COMMIT
-- with parts at its home, which stays.
pub mod KeptRecordsPass
use Rattle.std.proofs.Common.{◌≡◌, ◌≢◌, ◌⊎◌, inl, inr, ⊎_elim, refl, sym, ap, subst, ◌∙◌, ℕ, zero, suc, ◌+◌, ◌<◌, Bool, true, false, cond, not, ◌&&◌, ◌||◌, ◌==◌, nat_lt, List, [], ◌∷◌, length, Option, Some, None, is_none, eqb-true, eq-eqb, arith}
use Rattle.std.specs.List.{AllByRecursion, filter, list_any, list_all}
use Rattle.std.proofs.lemmas.Bool.{cases_Bool, both_ways, cond_both, and_parts, and_from, or_cases, false_from_ne_true}
use Rattle.clv_base.specs.declared.names.TxId.{TxId}
use Rattle.clv_base.specs.declared.logs.LogRecord.{LogRecord}
use Rattle.clv_base.specs.Orders.{nat_in}
use Rattle.clv_base.specs.Maps.{KeyMap, map_get, with_pairs}
use Rattle.clv_base.specs.Logs.{StandingUpdate, standing, has_standing, committed_in, committed_somewhere, commit_parts, base_of, fold_writes, fold_updates, stands, is_record_of, is_update_of, is_undo_of}
use Rattle.clv_base.specs.LogRules.{log_of, all_logs_from, apart, is_undone_in, some_parts, disorder}
use Rattle.clv_base.specs.FileRules.{passes_file_rules, log_passes, may_open}
use Rattle.clv_base.specs.Shards.{shard_count, are_splits, in_span}
use Rattle.clv_base.specs.Checkpoints.{committed_map, check, kept_from}
use Rattle.clv_base.proofs.Folding.{same_map}
use Rattle.clv_base.proofs.SameNames.{or_left, or_right}
use Rattle.law_base.proofs.Lists.{all_mono, all_filter}
use Rattle.law_base.proofs.Bools.{not_true, same_truth}
use Rattle.law_base.proofs.Logs.{writes_rise, all_logs}
use Rattle.law_base.proofs.Running.{fold_same, fold_standing}
use Rattle.law_base.proofs.Standing.{all_stand}
use Rattle.protocol_laws.proofs.LogsInOrder.{lie_in_order}
use Rattle.protocol_laws.proofs.LogsInOrder.OneRecordMore.{committed_there}
use Rattle.fate_laws.proofs.Homes.FoundCommitsHaveHomes.{home_of}
use Rattle.headline_laws.specs.Shares.{AreLogsOf, share_of}
use Rattle.headline_laws.proofs.LogsLeftMayBeOpened.LogsAgreeByHomes.{HomeIs, home_from}
use Rattle.headline_laws.proofs.TransactionsReplayByShards.LogsAgreeWithMap.{logs_agree}
use Rattle.log_checkpoint.proofs.GoingOn.{of_open, bottom_first}
use Rattle.log_checkpoint.proofs.Keeping.{committed_before}
use Rattle.log_checkpoint.proofs.Leaving.{open_stand}
use Rattle.log_checkpoint.proofs.StandingAlike.{pairs_alone}
use Rattle.checkpoint_laws.specs.Laws.{exchanged_from, ExchangedStandAlike}
use Rattle.checkpoint_laws.proofs.InOrder.{begins, rising}
use Rattle.checkpoint_laws.proofs.GoingOn.{lie_same}
use Rattle.checkpoint_laws.proofs.CheckpointsAreInOrder.{first_kind}
use Rattle.checkpoint_laws.proofs.CheckpointsAreInOrder.KeptRecordsWereThere.{parts_stay}
use Rattle.checkpoint_laws.proofs.ExchangedStandAlike.KeptRecordsPass.{check_passes}

-- ---- logs of which some are exchanged

pub exchanged_at : (these : ℕ → Bool) (i n : ℕ) (logs : List (List LogRecord)) → log_of (exchanged_from these i logs) n ≡ cond (these (i + n)) (check (i + n) (log_of logs n)) (log_of logs n)
exchanged_at these i n [] = at (these (i + n))
  where
    at : (b : Bool) → [] ≡ cond {A = List LogRecord} b [] []
    at true = refl
    at false = refl
exchanged_at these i zero (log ∷ logs) = ap (λ k. cond (these k) (check k log) log) (omega arith)
exchanged_at these i (suc n) (log ∷ logs) = exchanged_at these (suc i) n logs ∙ ap (λ k. cond (these k) (check k (log_of logs n)) (log_of logs n)) (omega arith)

pub exchanged_length : (these : ℕ → Bool) (i : ℕ) (logs : List (List LogRecord)) → length (exchanged_from these i logs) ≡ length logs
exchanged_length these i [] = refl
exchanged_length these i (log ∷ logs) = ap suc (exchanged_length these (suc i) logs)

-- who is committed in one was so in the log
pub was_committed : (these : ℕ → Bool) (n : ℕ) (log : List LogRecord) (t : TxId) → committed_in (cond (these n) (check n log) log) t ≡ true → committed_in log t ≡ true
was_committed these n log t = cond_both (these n) (check n log) log (λ l. committed_in l t ≡ true → committed_in log t ≡ true) (λ _ e. committed_before n log t e) (λ _ e. e)

somewhere_before : (these : ℕ → Bool) (i : ℕ) (logs : List (List LogRecord)) (t : TxId) → committed_somewhere (exchanged_from these i logs) t ≡ true → committed_somewhere logs t ≡ true
somewhere_before these i [] t e = e
somewhere_before these i (log ∷ logs) t e =
    ⊎_elim (λ h. or_left _ _ (was_committed these i log t h)) (λ r. or_right (committed_in log t) _ (somewhere_before these (suc i) logs t r))
    (or_cases (committed_in (cond (these i) (check i log) log) t) (committed_somewhere (exchanged_from these (suc i) logs) t) e)

somewhere_at : (logs : List (List LogRecord)) (n : ℕ) (t : TxId) → committed_in (log_of logs n) t ≡ true → committed_somewhere logs t ≡ true
somewhere_at [] n t e = absurd (both_ways false refl e)
somewhere_at (log ∷ logs) zero t e = or_left _ _ e
somewhere_at (log ∷ logs) (suc n) t e = or_right (committed_in log t) _ (somewhere_at logs n t e)

somewhere_is : (logs : List (List LogRecord)) (t : TxId) → committed_somewhere logs t ≡ true → (n : ℕ) × (committed_in (log_of logs n) t ≡ true)
somewhere_is [] t e = absurd (both_ways false refl e)
somewhere_is (log ∷ logs) t e = ⊎_elim (λ h. (0, h)) (λ r. let k = somewhere_is logs t r in (suc k.0, k.1)) (or_cases (committed_in log t) (committed_somewhere logs t) e)

within : (logs : List (List LogRecord)) (n : ℕ) (t : TxId) → has_standing (log_of logs n) t ≡ true → n < length logs
within [] n t h = absurd (both_ways false refl h)
within (log ∷ logs) zero t h = omega arith
within (log ∷ logs) (suc n) t h = let k = within logs n t h in omega (arith, k)

-- a COMMIT with parts stays
pub parts_kept : (shard : ℕ) (log : List LogRecord) → disorder shard log ≡ None → (t : TxId) (ps : List ℕ) → commit_parts log t ≡ Some ps → some_parts ps ≡ true → commit_parts (check shard log) t ≡ Some ps
parts_kept shard [] d t ps e s = e
parts_kept shard (r ∷ rs) d t ps e s =
    parts_stay shard (r ∷ rs) 1 rs t ps (first_kind (λ q. commit_parts rs t ≡ commit_parts (q ∷ rs) t) (λ q k. refl) (λ q k u b. refl) r (begins shard (r ∷ rs) d) ∙ e) s

pub some_in : (n : ℕ) (ps : List ℕ) → nat_in n ps ≡ true → some_parts ps ≡ true
some_in n [] e = e
some_in n (p ∷ ps) e = refl

-- ---- one log

-- where those committed are among those that count, and of the others with a write the same count
one_alike : (shard : ℕ) (log : List LogRecord) (keep less : TxId → Bool) → disorder shard log ≡ None → ((t : TxId) → committed_in log t ≡ true → keep t ≡ true)
    → ((t : TxId) → has_standing log t ≡ true → committed_in log t ≡ false → less t ≡ keep t) → fold_updates less (check shard log) [] ≡ fold_updates keep log []
one_alike shard [] keep less d wide same = refl
one_alike shard (r ∷ rs) keep less d wide same =
    let log : List LogRecord = r ∷ rs in
    let base : KeyMap = base_of log in
    let rise = rising shard log d in
    ap (λ ws. fold_writes less ws (with_pairs (committed_map log) [])) (open_stand shard log (begins shard log d))
    ∙ fold_same less keep (filter (of_open log) (standing log)) (with_pairs (committed_map log) [])
    (all_mono _ _ (λ w h. same w.tx h.0 (not_true _ h.1)) _ (all_filter (λ w. has_standing log w.tx ≡ true) (of_open log) (standing log) (all_stand log)))
    ∙ ap (fold_writes keep (filter (of_open log) (standing log))) (pairs_alone (committed_map log) (writes_rise (committed_in log) (standing log) base rise))
    ∙ sym (bottom_first (committed_in log) keep (standing log) base rise wide (lie_same (committed_in log) (standing log) (lie_in_order shard log d)))
    ∙ ap (fold_writes keep (standing log)) (sym (pairs_alone base rise))

-- ---- all

module _ (splits : List ℕ) (logs : List (List LogRecord)) (open_ : may_open splits logs ≡ true) where
  pub passes : (n : ℕ) → (list_all (passes_file_rules splits n) (log_of logs n) ≡ true) × (disorder n (log_of logs n) ≡ None)
  passes n = at n (and_parts (all_logs_from 0 (log_passes splits) logs) (is_none (apart logs)) open_).0
    where
      none : (o : Option ℕ) → is_none o ≡ true → o ≡ None
      none None e = refl
      none (Some k) e = absurd (both_ways false refl e)

      each : (i k : ℕ) (ls : List (List LogRecord)) → all_logs_from i (log_passes splits) ls ≡ true → (list_all (passes_file_rules splits (i + k)) (log_of ls k) ≡ true) × (disorder (i + k) (log_of ls k) ≡ None)
      each i k [] e = (refl, refl)
      each i zero (log ∷ ls) e =
          let p = and_parts (list_all (passes_file_rules splits i) log) (is_none (disorder i log)) (and_parts (log_passes splits i log) _ e).0 in
          (subst (λ z. list_all (passes_file_rules splits z) log ≡ true) (omega arith) p.0, subst (λ z. disorder z log ≡ None) (omega arith) (none (disorder i log) p.1))
      each i (suc k) (log ∷ ls) e =
          let r = each (suc i) k ls (and_parts (log_passes splits i log) _ e).1 in
          (subst (λ z. list_all (passes_file_rules splits z) (log_of ls k) ≡ true) (omega arith) r.0, subst (λ z. disorder z (log_of ls k) ≡ None) (omega arith) r.1)

      at : (k : ℕ) → all_logs_from 0 (log_passes splits) logs ≡ true → (list_all (passes_file_rules splits k) (log_of logs k) ≡ true) × (disorder k (log_of logs k) ≡ None)
      at k e =
          let r = each 0 k logs e in
          (subst (λ z. list_all (passes_file_rules splits z) (log_of logs k) ≡ true) (omega arith) r.0, subst (λ z. disorder z (log_of logs k) ≡ None) (omega arith) r.1)

  pub home : (m : ℕ) (t : TxId) → committed_in (log_of logs m) t ≡ true → (h : ℕ) × (ps : List ℕ) × HomeIs logs t h ps
  home m t c = let a = home_of splits logs m t open_ c in let b = home_from logs t a.0 a.1 in (a.0, b.0, b.1)

module _ (splits : List ℕ) (these : ℕ → Bool) (logs : List (List LogRecord)) (are : are_splits splits ≡ true) (long : length logs ≡ shard_count splits) (open_ : may_open splits logs ≡ true) where
  abbrev others : List (List LogRecord)
  others = exchanged_from these 0 logs

  abbrev other : ℕ → List LogRecord
  other n = cond (these n) (check n (log_of logs n)) (log_of logs n)

  other_of : (n : ℕ) → log_of others n ≡ other n
  other_of n = exchanged_at these 0 n logs ∙ ap (λ k. cond (these k) (check k (log_of logs n)) (log_of logs n)) (omega arith)

  -- of whom a write stands in one of them without a COMMIT there, the COMMIT stays
  commit_stays : (n : ℕ) (t : TxId) → has_standing (log_of logs n) t ≡ true → committed_in (log_of logs n) t ≡ false → committed_somewhere logs t ≡ true → committed_somewhere others t ≡ true
  commit_stays n t h u c =
      let m = somewhere_is logs t c in
      let k = home splits logs open_ m.0 t m.1 in
      let apart_ : (n == k.0) ≡ false = false_from_ne_true _ (λ e. both_ways _ u (subst (λ z. committed_in (log_of logs z) t ≡ true) (sym (eqb-true n k.0 e)) (committed_there (log_of logs k.0) t k.1 (k.2).commits))) in
      let undone : is_undone_in (log_of logs n) t ≡ false = ap (λ b. not b && list_all (λ r. not (is_record_of t r) || is_update_of t r || is_undo_of t r) (log_of logs n)) h in
      let parts : commit_parts (other k.0) t ≡ Some k.1 =
      cond_both (these k.0) (check k.0 (log_of logs k.0)) (log_of logs k.0) (λ l. commit_parts l t ≡ Some k.1)
      (λ _. parts_kept k.0 (log_of logs k.0) (passes splits logs open_ k.0).1 t k.1 (k.2).commits (some_in n k.1 ((k.2).named n (within logs n t h) apart_ undone))) (λ _. (k.2).commits) in
      somewhere_at others k.0 t (subst (λ l. committed_in l t ≡ true) (sym (other_of k.0)) (committed_there (other k.0) t k.1 parts))

  count_alike : (n : ℕ) (t : TxId) → has_standing (log_of logs n) t ≡ true → committed_in (log_of logs n) t ≡ false → committed_somewhere others t ≡ committed_somewhere logs t
  count_alike n t h u = same_truth _ _ (somewhere_before these 0 logs t) (commit_stays n t h u)

  -- where the log itself stays all count as before
  same_count : (n : ℕ) → these n ≡ false → (t : TxId) → has_standing (log_of logs n) t ≡ true → committed_somewhere others t ≡ committed_somewhere logs t
  same_count n own t h =
      ⊎_elim
      (λ c. somewhere_at others n t (subst (λ l. committed_in l t ≡ true) (sym (other_of n ∙ ap (λ b. cond b (check n (log_of logs n)) (log_of logs n)) own)) c) ∙ sym (somewhere_at logs n t c))
      (λ u. count_alike n t h u) (cases_Bool (committed_in (log_of logs n) t))

  shares_alike : (n : ℕ) → share_of others n ≡ share_of logs n
  shares_alike n =
      ap (λ l. fold_updates (committed_somewhere others) l []) (other_of n)
      ∙ cond_both (these n) (check n (log_of logs n)) (log_of logs n) (λ l. fold_updates (committed_somewhere others) l [] ≡ share_of logs n)
      (λ _. one_alike n (log_of logs n) (committed_somewhere logs) (committed_somewhere others) (passes splits logs open_ n).1 (λ t c. somewhere_at logs n t c) (count_alike n))
      (λ own. fold_standing (committed_somewhere others) (committed_somewhere logs) (log_of logs n) [] (same_count n own))

  are_logs : AreLogsOf splits logs
  are_logs = (long, all_logs (λ n log. list_all (passes_file_rules splits n) log) 0 logs (λ n l. subst (λ z. list_all (passes_file_rules splits z) (log_of logs n) ≡ true) (omega arith) (passes splits logs open_ n).0))

  are_others : AreLogsOf splits others
  are_others = (
    exchanged_length these 0 logs ∙ long,
    all_logs (λ n log. list_all (passes_file_rules splits n) log) 0 others
        (λ n l. subst (λ z. list_all (passes_file_rules splits z) (log_of others n) ≡ true) (omega arith)
        (subst (λ k. list_all (passes_file_rules splits n) k ≡ true) (sym (other_of n))
        (cond_both (these n) (check n (log_of logs n)) (log_of logs n) (λ k. list_all (passes_file_rules splits n) k ≡ true)
        (λ _. check_passes splits n (log_of logs n) (rising n (log_of logs n) (passes splits logs open_ n).1) (passes splits logs open_ n).0) (λ _. (passes splits logs open_ n).0)))),
  )

  -- the shard of a key, where there is one
  span_of : (k c : ℕ) → ((n : ℕ) × (n < c) × (in_span splits n k ≡ true)) ⊎ ((n : ℕ) → n < c → in_span splits n k ≡ false)
  span_of k zero = inr (λ n l. absurd (omega (arith, l)))
  span_of k (suc c) =
      ⊎_elim (λ (f : (n : ℕ) × (n < c) × (in_span splits n k ≡ true)). let l = f.1 in inl (f.0, omega (arith, l), f.2))
      (λ none. ⊎_elim (λ i. inl (c, omega arith, i)) (λ o. inr (λ n l. last n l none o (n == c) refl)) (cases_Bool (in_span splits c k))) (span_of k c)
    where
      last : (n : ℕ) → n < suc c → ((m : ℕ) → m < c → in_span splits m k ≡ false) → in_span splits c k ≡ false → (b : Bool) → (n == c) ≡ b → in_span splits n k ≡ false
      last n l none o true e = subst (λ z. in_span splits z k ≡ false) (sym (eqb-true n c e)) o
      last n l none o false e = none n (below n l e)
        where
          below : (m : ℕ) → m < suc c → (m == c) ≡ false → m < c
          below m h d = let apart_ : m ≢ c = λ q. both_ways (m == c) d (eq-eqb m c q) in omega (arith, h, apart_)

  maps_alike : stands others ≡ stands logs
  maps_alike =
      let a = logs_agree splits others are are_others in
      let b = logs_agree splits logs are are_logs in
      same_map (stands others) (stands logs) a.whole_rises b.whole_rises
      (λ k. ⊎_elim (λ (f : (n : ℕ) × (n < shard_count splits) × (in_span splits n k ≡ true)). a.values f.0 k f.1 f.2 ∙ ap (map_get k) (shares_alike f.0) ∙ sym (b.values f.0 k f.1 f.2))
      (λ none. a.nowhere k none ∙ sym (b.nowhere k none)) (span_of k (shard_count splits)))

pub exchanged_alike : ExchangedStandAlike
exchanged_alike splits these logs are long o = maps_alike splits these logs are long o
