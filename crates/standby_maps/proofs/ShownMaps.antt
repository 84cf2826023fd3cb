-- What is shown, by a test that passes the members alone.
use Rattle.std.proofs.Common.{◌≡◌, ⊎_elim, Bool, true, false, cond, ◌&&◌, List, [], ◌∷◌, Option, Some, None, refl, sym, ap, subst, ◌∙◌}
use Rattle.std.specs.Prelude.{take}
use Rattle.std.specs.List.{list_all}
use Rattle.std.proofs.lemmas.Bool.{and_parts, and_from}
use Rattle.clv_base.specs.declared.names.TxId.{TxId}
use Rattle.clv_base.specs.declared.logs.LogRecord.{LogRecord}
use Rattle.clv_base.specs.declared.logs.LogRecord.TheVariants.{Update, Clr, Prepare, Commit, Abort, End, Restart, Add, Unadd, Forgotten, Check}
use Rattle.clv_base.specs.Orders.{tx_in, tx_insert}
use Rattle.clv_base.specs.Maps.{KeyMap}
use Rattle.clv_base.specs.Logs.{committed_in, fold_updates}
use Rattle.clv_base.specs.LogRules.{committed_of}
use Rattle.clv_base.proofs.SameNames.{in_insert, insert_keeps, insert_has}
use Rattle.law_base.proofs.Bools.{same_truth}
use Rattle.law_base.proofs.Names.{all_from}
use Rattle.law_base.proofs.Running.{fold_standing}
use Rattle.law_base.proofs.Sets.{list_all_at}
use Rattle.standby_base.specs.Standby.{checked_places, is_begun, is_shown, shown_from, shown_with, standby_members, shown}
use Rattle.standby_maps.specs.Shown.{commit_passes, is_shown_by, shown_by}

-- ---- the COMMITs of a log, record by record

insert_all : (f : TxId → Bool) (t : TxId) (xs : List TxId) → list_all f (tx_insert t xs) ≡ (f t && list_all f xs)
insert_all f t xs =
    same_truth (list_all f (tx_insert t xs)) (f t && list_all f xs)
    (λ a. and_from (f t) (list_all f xs) (list_all_at f t (tx_insert t xs) a (insert_has t xs)) (all_from f xs (λ u i. list_all_at f u (tx_insert t xs) a (insert_keeps t u xs i))))
    (λ a. let p = and_parts (f t) (list_all f xs) a in
    all_from f (tx_insert t xs) (λ u i. ⊎_elim (λ s. subst (λ v. f v ≡ true) (sym s) p.0) (λ j. list_all_at f u xs p.1 j) (in_insert t u xs i)))

commits_pass : (f : TxId → Bool) (log : List LogRecord) → list_all (commit_passes f) log ≡ list_all f (committed_of log)
commits_pass f [] = refl
commits_pass f (Commit tx ps ∷ rs) = ap (λ b. f tx && b) (commits_pass f rs) ∙ sym (insert_all f tx (committed_of rs))
commits_pass f (Update tx a b d ∷ rs) = commits_pass f rs
commits_pass f (Clr tx a b d ∷ rs) = commits_pass f rs
commits_pass f (Prepare tx a b ∷ rs) = commits_pass f rs
commits_pass f (Abort tx ∷ rs) = commits_pass f rs
commits_pass f (End tx ∷ rs) = commits_pass f rs
commits_pass f (Restart run epoch ∷ rs) = commits_pass f rs
commits_pass f (Add tx a by ∷ rs) = commits_pass f rs
commits_pass f (Unadd tx a b by ∷ rs) = commits_pass f rs
commits_pass f (Forgotten ∷ rs) = commits_pass f rs
commits_pass f (Check run epoch upto base ∷ rs) = commits_pass f rs

all_alike : (f g : TxId → Bool) → ((t : TxId) → f t ≡ g t) → (xs : List TxId) → list_all f xs ≡ list_all g xs
all_alike f g k [] = refl
all_alike f g k (x ∷ xs) = ap (λ b. b && list_all f xs) (k x) ∙ ap (λ b. g x && b) (all_alike f g k xs)

-- ---- by a test that passes a set alone

module _ (keep : TxId → Bool) (set : List TxId) (passes : (t : TxId) → keep t ≡ tx_in t set) where
  shown_alike : (log : List LogRecord) → is_shown_by keep log ≡ is_shown set log
  shown_alike log =
      ap (λ b. is_begun log && b) (commits_pass keep (take (checked_places log) log) ∙ all_alike keep (λ tx. tx_in tx set) passes (committed_of (take (checked_places log) log)))

  all_shown : (logs : List (List LogRecord)) → list_all (is_shown_by keep) logs ≡ list_all (is_shown set) logs
  all_shown [] = refl
  all_shown (log ∷ logs) = ap (λ b. b && list_all (is_shown_by keep) logs) (shown_alike log) ∙ ap (λ b. is_shown set log && b) (all_shown logs)

  maps_alike : (logs : List (List LogRecord)) (m : KeyMap) → shown_by keep logs m ≡ shown_from set logs m
  maps_alike [] m = refl
  maps_alike (log ∷ logs) m =
      ap (shown_by keep logs) (fold_standing (λ t. keep t && committed_in log t) (λ t. tx_in t set && committed_in log t) log m (λ t w. ap (λ b. b && committed_in log t) (passes t)))
      ∙ maps_alike logs (fold_updates (λ t. tx_in t set && committed_in log t) log m)

  pub nothing_shown : (logs : List (List LogRecord)) → set ≡ standby_members logs → list_all (is_shown_by keep) logs ≡ false → shown logs ≡ None
  nothing_shown logs e n =
      subst (λ s. shown_with s logs ≡ None) e (ap (λ b. cond {A = Option KeyMap} b (Some (shown_from set logs [])) None) (sym (all_shown logs) ∙ n))

  pub map_shown : (logs : List (List LogRecord)) → set ≡ standby_members logs → list_all (is_shown_by keep) logs ≡ true → shown logs ≡ Some (shown_by keep logs [])
  map_shown logs e y =
      subst (λ s. shown_with s logs ≡ Some (shown_by keep logs [])) e
      (ap (λ b. cond {A = Option KeyMap} b (Some (shown_from set logs [])) None) (sym (all_shown logs) ∙ y) ∙ ap Some (sym (maps_alike logs [])))
