-- Logs that may be opened may be opened where some are exchanged for their checkpoints.
pub mod PartsOfCommitsStay
use Rattle.std.proofs.Common.{◌≡◌, ⊎_elim, refl, sym, ap, subst, ◌∙◌, ℕ, zero, suc, ◌+◌, ◌<◌, Bool, true, false, cond, not, ◌&&◌, ◌||◌, ◌==◌, List, [], ◌∷◌, length, Option, Some, None, is_none, eqb-true, eq-eqb, arith}
use Rattle.std.specs.Prelude.{◌^◌}
use Rattle.std.specs.List.{AllByRecursion, list_all}
use Rattle.std.proofs.lemmas.Bool.{cases_Bool, both_ways, cond_both, and_parts, and_from, or_cases, false_from_ne_true}
use Rattle.clv_base.specs.declared.names.TxId.{TxId}
use Rattle.clv_base.specs.declared.logs.LogRecord.{LogRecord}
use Rattle.clv_base.specs.Orders.{nat_in}
use Rattle.clv_base.specs.Logs.{has_standing, committed_in, ended_in, prepare_of, commit_parts, is_end_of}
use Rattle.clv_base.specs.LogRules.{log_of, all_logs_from, apart, home_is, is_undone_in, part_agrees, some_parts, disorder}
use Rattle.clv_base.specs.FileRules.{passes_file_rules, log_passes, may_open}
use Rattle.clv_base.specs.Checkpoints.{check}
use Rattle.clv_base.proofs.SameNames.{or_right}
use Rattle.law_base.proofs.Logs.{all_logs}
use Rattle.protocol_laws.proofs.LogsInOrder.OneRecordMore.{committed_there}
use Rattle.headline_laws.proofs.LogsLeftMayBeOpened.LogsAgreeByHomes.{HomeIs, HasHome, agree}
use Rattle.log_checkpoint.proofs.Keeping.{committed_before}
use Rattle.checkpoint_laws.specs.Laws.{exchanged_from, ExchangedMayBeOpened}
use Rattle.checkpoint_laws.proofs.InOrder.{rising}
use Rattle.checkpoint_laws.proofs.CheckpointsAreInOrder.{checked_in_order}
use Rattle.checkpoint_laws.proofs.CheckpointsAreInOrder.KeptRecordsWereThere.{ends_wider, all_wider}
use Rattle.checkpoint_laws.proofs.ExchangedStandAlike.{exchanged_at, exchanged_length, was_committed, parts_kept, some_in, passes, home}
use Rattle.checkpoint_laws.proofs.ExchangedStandAlike.KeptRecordsPass.{check_passes}
use Rattle.checkpoint_laws.proofs.ExchangedMayBeOpened.PartsOfCommitsStay.{kept_has_parts, home_stays, not_own_part, part_agrees_still, part_commits_still, undone_uncommitted, undone_still}

committed_within : (logs : List (List LogRecord)) (n : ℕ) (t : TxId) → committed_in (log_of logs n) t ≡ true → n < length logs
committed_within [] n t c = absurd (both_ways false refl c)
committed_within (log ∷ logs) zero t c = omega arith
committed_within (log ∷ logs) (suc n) t c = let k = committed_within logs n t c in omega (arith, k)

small_at : (logs : List (List LogRecord)) (n : ℕ) → AllByRecursion (λ log. length log < 2 ^ 63) logs → length (log_of logs n) < 2 ^ 63
small_at [] n a = omega arith
small_at (log ∷ logs) zero a = a.0
small_at (log ∷ logs) (suc n) a = small_at logs n a.1

ended_before : (shard : ℕ) (log : List LogRecord) (t : TxId) → ended_in (check shard log) t ≡ true → ended_in log t ≡ true
ended_before shard [] t e = e
ended_before shard (r ∷ rs) t e = or_right (is_end_of t r) _ (all_wider (is_end_of t) (ends_wider t) shard (r ∷ rs) 1 rs e)

module _ (splits : List ℕ) (these : ℕ → Bool) (logs : List (List LogRecord)) (small : AllByRecursion (λ log. length log < 2 ^ 63) logs) (open_ : may_open splits logs ≡ true) where
  abbrev others : List (List LogRecord)
  others = exchanged_from these 0 logs

  abbrev other : ℕ → List LogRecord
  other n = cond (these n) (check n (log_of logs n)) (log_of logs n)

  other_of : (n : ℕ) → log_of others n ≡ other n
  other_of n = exchanged_at these 0 n logs ∙ ap (λ k. cond (these k) (check k (log_of logs n)) (log_of logs n)) (omega arith)

  -- what a log has, and its checkpoint has, the one that is taken has
  either : (P : List LogRecord → Type 0) (n : ℕ) → (these n ≡ true → P (check n (log_of logs n))) → P (log_of logs n) → P (log_of others n)
  either P n checked own = subst P (sym (other_of n)) (cond_both (these n) (check n (log_of logs n)) (log_of logs n) P checked (λ _. own))

  ordered : (n : ℕ) → disorder n (log_of logs n) ≡ None
  ordered n = (passes splits logs open_ n).1

  -- ---- one that is committed in one of them

  module _ (n : ℕ) (t : TxId) (c : committed_in (other n) t ≡ true) where
    before : committed_in (log_of logs n) t ≡ true
    before = was_committed these n (log_of logs n) t c

    found : (h : ℕ) × (ps : List ℕ) × HomeIs logs t h ps
    found = home splits logs open_ n t before

    abbrev h : ℕ
    h = found.0

    abbrev ps : List ℕ
    ps = found.1

    k : HomeIs logs t h ps
    k = found.2

    at_home : committed_in (log_of logs h) t ≡ true
    at_home = committed_there (log_of logs h) t ps k.commits

    -- where the home's log is exchanged its COMMIT has parts
    has_parts : these h ≡ true → some_parts ps ≡ true
    has_parts taken = ⊎_elim (λ e. own e) (λ e. elsewhere e) (cases_Bool (n == h))
      where
        own : (n == h) ≡ true → some_parts ps ≡ true
        own e =
            kept_has_parts h (log_of logs h) (ordered h) t ps k.home k.commits
            (subst (λ b. committed_in (cond b (check h (log_of logs h)) (log_of logs h)) t ≡ true) taken (subst (λ z. committed_in (other z) t ≡ true) (eqb-true n h e) c))

        elsewhere : (n == h) ≡ false → some_parts ps ≡ true
        elsewhere e = some_in n ps (k.named n (committed_within logs n t before) e (false_from_ne_true _ (λ u. both_ways _ (undone_uncommitted (log_of logs n) t u) before)))

    other_shard : (m : ℕ) → nat_in m ps ≡ true → (h == m) ≡ false
    other_shard m i = false_from_ne_true _ (λ e. both_ways _ (not_own_part h (log_of logs h) (ordered h) t ps k.commits) (subst (λ z. nat_in z ps ≡ true) (sym (eqb-true h m e)) i))

    home_kept : HomeIs others t h ps
    home_kept =
        record {
          commits = either (λ l. commit_parts l t ≡ Some ps) h (λ taken. parts_kept h (log_of logs h) (ordered h) t ps k.commits (has_parts taken)) k.commits;
          home = either (λ l. home_is h (prepare_of l t) ≡ true) h (λ _. home_stays h (log_of logs h) (ordered h) t k.home at_home) k.home;
          named = λ m l e. either (λ l. is_undone_in l t ≡ false → nat_in m ps ≡ true) m
              (λ _ u. named m (subst (λ z. m < z) (exchanged_length these 0 logs) l) e (false_from_ne_true _ (λ v. both_ways _ u (undone_still m (log_of logs m) (ordered m) t v))))
              (named m (subst (λ z. m < z) (exchanged_length these 0 logs) l) e);
          parts = λ m i. either (λ l. part_agrees t h l ≡ true) m (λ _. part_agrees_still m h (log_of logs m) (ordered m) t (other_shard m i) (k.parts m i)) (k.parts m i);
          ended = λ e m i.
              let b = k.ended (ended_there e) m i in either (λ l. committed_in l t ≡ true) m (λ _. part_commits_still m h (log_of logs m) (ordered m) t (other_shard m i) (k.parts m i) b) b;
        }
      where
        named : (m : ℕ) → m < length logs → (m == h) ≡ false → is_undone_in (log_of logs m) t ≡ false → nat_in m ps ≡ true
        named m l e u = k.named m l e u

        ended_there : ended_in (log_of others h) t ≡ true → ended_in (log_of logs h) t ≡ true
        ended_there = either (λ l. ended_in l t ≡ true → ended_in (log_of logs h) t ≡ true) h (λ _ e. ended_before h (log_of logs h) t e) (λ e. e)

    has_home : HasHome others t
    has_home = (h, subst (λ z. h < z) (sym (exchanged_length these 0 logs)) (committed_within logs h t at_home), ps, home_kept)

  -- ---- all

  one_passes : (n : ℕ) → log_passes splits n (log_of others n) ≡ true
  one_passes n =
      let p = passes splits logs open_ n in
      either (λ l. log_passes splits n l ≡ true) n
      (λ _. and_from (list_all (passes_file_rules splits n) (check n (log_of logs n))) (is_none (disorder n (check n (log_of logs n)))) (check_passes splits n (log_of logs n) (rising n (log_of logs n) p.1) p.0)
      (ap is_none (checked_in_order n (log_of logs n) p.1 (small_at logs n small))))
      (and_from (list_all (passes_file_rules splits n) (log_of logs n)) (is_none (disorder n (log_of logs n))) p.0 (ap is_none p.1))

  may_open_others : may_open splits others ≡ true
  may_open_others =
      and_from (all_logs_from 0 (log_passes splits) others) (is_none (apart others))
      (all_logs (log_passes splits) 0 others (λ n l. subst (λ z. log_passes splits z (log_of others n) ≡ true) (omega arith) (one_passes n)))
      (ap is_none (agree others (λ n t l c. has_home n t (subst (λ z. committed_in z t ≡ true) (other_of n) c))))

pub exchanged_may_open : ExchangedMayBeOpened
exchanged_may_open splits these logs small o = may_open_others splits these logs small o
