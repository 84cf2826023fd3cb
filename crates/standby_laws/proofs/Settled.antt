-- Of a settled history all that is committed is shown.
use Rattle.std.proofs.Common.{◌≡◌, ◌⊎◌, inl, inr, ⊎_elim, ℕ, zero, suc, ◌<◌, arith, Bool, true, false, cond, ◌&&◌, ◌||◌, List, [], ◌∷◌, length, Option, Some, None, refl, sym, ap, subst, ◌∙◌}
use Rattle.std.specs.Prelude.{take}
use Rattle.std.specs.List.{list_all}
use Rattle.std.proofs.lemmas.Bool.{both_ways, and_parts, and_from, or_cases, cases_lt}
use Rattle.std.proofs.lemmas.List.{take_all}
use Rattle.clv_base.specs.declared.names.TxId.{TxId}
use Rattle.clv_base.specs.declared.logs.LogRecord.{LogRecord}
use Rattle.clv_base.specs.declared.logs.LogRecord.TheVariants.{Update, Clr, Prepare, Commit, Abort, End, Restart, Add, Unadd, Forgotten, Check}
use Rattle.clv_base.specs.Orders.{tx_same, tx_in, tx_union}
use Rattle.clv_base.specs.Shards.{shard_count}
use Rattle.clv_base.specs.Maps.{KeyMap}
use Rattle.clv_base.specs.Logs.{committed_in, prepared_in, prepare_of, committed_somewhere, in_doubt, fold_updates, stands_from}
use Rattle.clv_base.specs.LogRules.{log_of, committed_of, committed_of_all, part_agrees}
use Rattle.clv_base.specs.FileRules.{may_open}
use Rattle.clv_base.specs.Restarts.{log_left, run_after, log_after_restart, restart_records}
use Rattle.clv_base.specs.State.{Shard}
use Rattle.clv_base.specs.Journals.{History, final_of, MayLeave}
use Rattle.clv_base.specs.History.{IsQuiet, IsSettled, logs_left}
use Rattle.clv_base.proofs.SameNames.{tx_true, tx_self, in_insert, or_right}
use Rattle.law_base.proofs.Bools.{same_truth}
use Rattle.law_base.proofs.Names.{all_from}
use Rattle.law_base.proofs.Options.{some_of}
use Rattle.law_base.proofs.Running.{fold_standing}
use Rattle.protocol_laws.proofs.LogsInOrder.OneRecordMore.{committed_there, prepared_there}
use Rattle.shard_laws.proofs.Cuts.WhatCutsHold.{cut_keeps}
use Rattle.history_laws.specs.Openings.{LegalFrom}
use Rattle.history_laws.proofs.NeverTakenBack.{log_now}
use Rattle.fate_laws.proofs.Homes.FoundCommitsHaveHomes.{prepared_stays}
use Rattle.fate_laws.proofs.QuietShardsAreTheirMaps.{left_whole}
use Rattle.headline_laws.proofs.AtOpening.RecordedAreKnown.{Known, known_here}
use Rattle.headline_laws.proofs.LogsAtTheEndMayBeOpened.{logs_at_the_end_may_be_opened}
use Rattle.headline_laws.proofs.SettledIsTheMapWhereReadersWroteNothing.{settled_opens_clear}
use Rattle.headline_laws.proofs.SharesAreMaps.{writer_known, at_somewhere, somewhere_at, stands_within}
use Rattle.headline_laws.proofs.AtOpening.EarlierOnesStoodThere.{left_begins}
use Rattle.headline_laws.proofs.LogsLeftMayBeOpened.{logs_left_may_be_opened}
use Rattle.protocol_laws.specs.Growth.{IsPrefixOf}
use Rattle.protocol_laws.proofs.LogOnlyGrows.DueGrowsLogs.{chain, more}
use Rattle.standby_laws.proofs.Fronts.{take_front}
use Rattle.standby_laws.proofs.Members.{beyond, fed_cuts, stay}
use Rattle.standby_base.specs.Standby.{whole_on, commits_before, keeps_on, keeps, standby_members, checked_places, is_begun, keeps_checked, is_shown, shown_from}
use Rattle.standby_base.proofs.Greatest.{kept_are_members, whole_committed}
use Rattle.standby_laws.specs.Streams.{none_kept, SettledIsShown}
use Rattle.standby_laws.specs.Serial.{WhatWasFoundCame}
use Rattle.standby_laws.proofs.Cuts.{AreCuts, Home, HasCome, has_home, come_whole}

-- ---- who is listed as committed

pub of_committed : (log : List LogRecord) (t : TxId) → tx_in t (committed_of log) ≡ true → committed_in log t ≡ true
of_committed [] t i = absurd (both_ways false refl i)
of_committed (Commit tx parts ∷ rs) t i =
    ⊎_elim (λ s. ap (λ b. b || committed_in rs t) (subst (λ u. tx_same t u ≡ true) s (tx_self t)))
    (λ j. or_right (tx_same t tx) (committed_in rs t) (of_committed rs t j))
    (in_insert tx t (committed_of rs) i)
of_committed (Update tx a b d ∷ rs) t i = of_committed rs t i
of_committed (Clr tx a b d ∷ rs) t i = of_committed rs t i
of_committed (Prepare tx a b ∷ rs) t i = of_committed rs t i
of_committed (Abort tx ∷ rs) t i = of_committed rs t i
of_committed (End tx ∷ rs) t i = of_committed rs t i
of_committed (Restart run epoch ∷ rs) t i = of_committed rs t i
of_committed (Add tx a by ∷ rs) t i = of_committed rs t i
of_committed (Unadd tx a b by ∷ rs) t i = of_committed rs t i
of_committed (Forgotten ∷ rs) t i = of_committed rs t i
of_committed (Check run epoch upto base ∷ rs) t i = of_committed rs t i

of_union : (xs ys : List TxId) (t : TxId) → tx_in t (tx_union xs ys) ≡ true → (tx_in t xs ≡ true) ⊎ (tx_in t ys ≡ true)
of_union [] ys t i = inr i
of_union (x ∷ xs) ys t i =
    ⊎_elim (λ s. inl (ap (λ b. b || tx_in t xs) (subst (λ u. tx_same u t ≡ true) s (tx_self t))))
    (λ j. ⊎_elim (λ k. inl (or_right (tx_same x t) (tx_in t xs) k)) (λ k. inr k) (of_union xs ys t j))
    (in_insert x t (tx_union xs ys) i)

pub of_all_committed : (logs : List (List LogRecord)) (t : TxId) → tx_in t (committed_of_all logs) ≡ true → (m : ℕ) × (committed_in (log_of logs m) t ≡ true)
of_all_committed [] t i = absurd (both_ways false refl i)
of_all_committed (log ∷ logs) t i =
    ⊎_elim (λ a. (0, of_committed log t a)) (λ a. let r = of_all_committed logs t a in (suc r.0, r.1)) (of_union (committed_of log) (committed_of_all logs) t i)

pub before_committed : (p t : TxId) (log : List LogRecord) → tx_in p (commits_before t log) ≡ true → committed_in log p ≡ true
before_committed p t [] i = absurd (both_ways false refl i)
before_committed p t (Commit tx parts ∷ rs) i = at (tx_same t tx) i (λ j. before_committed p t rs j)
  where
    at : (b : Bool) → tx_in p (cond b [] (tx ∷ commits_before t rs)) ≡ true → (tx_in p (commits_before t rs) ≡ true → committed_in rs p ≡ true) → (tx_same p tx || committed_in rs p) ≡ true
    at true j k = absurd (both_ways false refl j)
    at false j k =
        ⊎_elim (λ s. ap (λ b. b || committed_in rs p) (subst (λ u. tx_same p u ≡ true) (sym (tx_true tx p s)) (tx_self p)))
        (λ s. or_right (tx_same p tx) (committed_in rs p) (k s))
        (or_cases (tx_same tx p) (tx_in p (commits_before t rs)) j)
before_committed p t (Update tx a b d ∷ rs) i = before_committed p t rs i
before_committed p t (Clr tx a b d ∷ rs) i = before_committed p t rs i
before_committed p t (Prepare tx a b ∷ rs) i = before_committed p t rs i
before_committed p t (Abort tx ∷ rs) i = before_committed p t rs i
before_committed p t (End tx ∷ rs) i = before_committed p t rs i
before_committed p t (Restart run epoch ∷ rs) i = before_committed p t rs i
before_committed p t (Add tx a by ∷ rs) i = before_committed p t rs i
before_committed p t (Unadd tx a b by ∷ rs) i = before_committed p t rs i
before_committed p t (Forgotten ∷ rs) i = before_committed p t rs i
before_committed p t (Check run epoch upto base ∷ rs) i = before_committed p t rs i

-- ---- logs that may be opened, with nothing in doubt that some log commits

prepared_within : (logs : List (List LogRecord)) (m : ℕ) (t : TxId) → prepared_in (log_of logs m) t ≡ true → m < length logs
prepared_within [] m t p = absurd (both_ways false refl p)
prepared_within (log ∷ logs) zero t p = omega arith
prepared_within (log ∷ logs) (suc m) t p = let k = prepared_within logs m t p in omega (arith, k)

module _ (splits : List ℕ) (logs : List (List LogRecord)) (opens : may_open splits logs ≡ true) (clear : (n : ℕ) (t : TxId) → n < length logs → committed_somewhere logs t ≡ true → tx_in t (in_doubt n (log_of logs n)) ≡ false) where
  pub itself : AreCuts splits logs logs
  itself = record { opens = opens; cut = λ n. (length (log_of logs n), sym (take_all (length (log_of logs n)) (log_of logs n) (omega arith))) }

  known_committed : (n : ℕ) (t : TxId) → n < length logs → committed_somewhere logs t ≡ true → Known logs n t → committed_in (log_of logs n) t ≡ true
  known_committed n t l s (inl c) = c
  known_committed n t l s (inr d) = absurd (both_ways _ (clear n t l s) d)

  part_committed : (m n : ℕ) (t : TxId) (h : Home logs t) → committed_in (log_of logs m) t ≡ true → part_agrees t h.at (log_of logs n) ≡ true → committed_in (log_of logs n) t ≡ true
  part_committed m n t h c a =
      let s = and_parts _ _ (and_parts _ _ (and_parts _ _ a).0).0 in
      let p = some_of (prepare_of (log_of logs n) t) s.0 in
      let q = prepared_there (log_of logs n) t p.0 p.1 in
      let l = prepared_within logs n t q in
      known_committed n t l (at_somewhere logs m t c) (known_here splits logs n m t opens l (prepared_stays (log_of logs n) t q) c)

  all_parts : (m : ℕ) (t : TxId) (h : Home logs t) → committed_in (log_of logs m) t ≡ true → (ns : List ℕ) → list_all (λ s. part_agrees t h.at (log_of logs s)) ns ≡ true → list_all (λ s. committed_in (log_of logs s) t) ns ≡ true
  all_parts m t h c [] a = refl
  all_parts m t h c (n ∷ ns) a = let p = and_parts _ _ a in and_from _ _ (part_committed m n t h c p.0) (all_parts m t h c ns p.1)

  pub all_come : (m : ℕ) (t : TxId) → committed_in (log_of logs m) t ≡ true → (h : Home logs t) → HasCome itself h
  all_come m t c h = record { at_home = committed_there (log_of logs h.at) t h.parts h.names; at_parts = all_parts m t h c h.parts (and_parts _ _ (and_parts _ _ h.agrees).0).1 }

  whole : (m : ℕ) (t : TxId) → committed_in (log_of logs m) t ≡ true → (ns : List ℕ) × (whole_on logs t ≡ Some ns)
  whole m t c = let h = has_home splits logs m t opens c in (h.at ∷ h.parts, come_whole itself t h (all_come m t c h))

  listed : (m : ℕ) (t : TxId) → committed_in (log_of logs m) t ≡ true → tx_in t (committed_of_all logs) ≡ true
  listed m t c = let w = whole m t c in whole_committed logs t 0 logs w.0 w.1

  befores : (t : TxId) (ns : List ℕ) → list_all (λ n. list_all (λ p. tx_in p (committed_of_all logs)) (commits_before t (log_of logs n))) ns ≡ true
  befores t [] = refl
  befores t (n ∷ ns) = and_from _ _ (all_from (λ p. tx_in p (committed_of_all logs)) (commits_before t (log_of logs n)) (λ p i. listed n p (before_committed p t (log_of logs n) i))) (befores t ns)

  kept : (t : TxId) → tx_in t (committed_of_all logs) ≡ true → keeps logs (committed_of_all logs) t ≡ true
  kept t i = let m = of_all_committed logs t i in let w = whole m.0 t m.1 in ap (keeps_on logs (committed_of_all logs) t) w.1 ∙ befores t w.0

  -- all that are committed are members
  pub all_members : (n : ℕ) (t : TxId) → committed_in (log_of logs n) t ≡ true → tx_in t (standby_members logs) ≡ true
  all_members n t c = kept_are_members logs (committed_of_all logs) (all_from (keeps logs (committed_of_all logs)) (committed_of_all logs) kept) t (listed n t c)

  same_fold : (n : ℕ) (m : KeyMap) → fold_updates (λ t. tx_in t (standby_members logs) && committed_in (log_of logs n) t) (log_of logs n) m ≡ fold_updates (committed_somewhere logs) (log_of logs n) m
  same_fold n m =
      fold_standing (λ t. tx_in t (standby_members logs) && committed_in (log_of logs n) t) (committed_somewhere logs) (log_of logs n) m
      (λ t w. same_truth (tx_in t (standby_members logs) && committed_in (log_of logs n) t) (committed_somewhere logs t)
      (λ e. at_somewhere logs n t (and_parts (tx_in t (standby_members logs)) _ e).1)
      (λ e. let c = known_committed n t (stands_within logs n t w) e (writer_known splits logs n t opens w e) in and_from _ _ (all_members n t c) c))

-- ---- log by log

shown_all : (set : List TxId) (logs : List (List LogRecord)) → ((n : ℕ) (t : TxId) → committed_in (log_of logs n) t ≡ true → tx_in t set ≡ true) → list_all is_begun logs ≡ true → list_all (is_shown set) logs ≡ true
shown_all set [] k b = refl
shown_all set (log ∷ logs) k b =
    let p = and_parts (is_begun log) (list_all is_begun logs) b in
    and_from (is_shown set log) (list_all (is_shown set) logs)
    (and_from (is_begun log) (keeps_checked set log) p.0
    (all_from (λ tx. tx_in tx set) (committed_of (take (checked_places log) log)) (λ t i. k 0 t (cut_keeps (checked_places log) log t (of_committed (take (checked_places log) log) t i)))))
    (shown_all set logs (λ n t c. k (suc n) t c) p.1)

same_maps : (set : List TxId) (keep : TxId → Bool) (logs : List (List LogRecord)) (m : KeyMap)
    → ((n : ℕ) (m : KeyMap) → fold_updates (λ t. tx_in t set && committed_in (log_of logs n) t) (log_of logs n) m ≡ fold_updates keep (log_of logs n) m) → shown_from set logs m ≡ stands_from keep logs m
same_maps set keep [] m k = refl
same_maps set keep (log ∷ logs) m k = ap (shown_from set logs) (k 0 m) ∙ same_maps set keep logs (fold_updates keep log m) (λ n m2. k (suc n) m2)

-- ---- the law

left_is : (s : Shard) (log : List LogRecord) → IsQuiet s → MayLeave s log → log ≡ s.local.log
left_is s log q (kept, inl e) = e ∙ left_whole s kept q
left_is s log q (kept, inr d) = absurd (both_ways s.is_up d.0 q.0)

module _ (splits : List ℕ) (before after : List (List LogRecord)) (h : History) (l : LegalFrom splits before h after) (settled : IsSettled splits before h after) where
  -- the log at the end is what is durable
  end_is : (n : ℕ) → n < shard_count splits → log_of after n ≡ log_of (logs_left splits before h after none_kept) n
  end_is n i =
      let a : log_of after n ≡ (final_of before h after n).local.log = left_is (final_of before h after n) (log_of after n) (settled n i) (l.legal.leaves n i) in
      let b : log_left (final_of before h after n) false ≡ (final_of before h after n).local.log = left_whole (final_of before h after n) false (settled n i) in
      let c : log_of (logs_left splits before h after none_kept) n ≡ log_left (final_of before h after n) false = log_now splits before h after none_kept n i in
      a ∙ sym b ∙ sym c

  clear : (n : ℕ) → n < length after → in_doubt n (log_of after n) ≡ []
  clear n i =
      let e = l.legal.each_log.1 in
      let j : n < shard_count splits = omega (arith, e, i) in
      ap (in_doubt n) (end_is n j) ∙ settled_opens_clear splits before h after none_kept n l settled j

pub settled_is_shown : SettledIsShown
settled_is_shown splits before after h f settled begun =
    let opens = logs_at_the_end_may_be_opened splits before h after f.legal in
    let none = λ (n : ℕ) (t : TxId) (l : n < length after) (s : committed_somewhere after t ≡ true). ap (tx_in t) (clear splits before after h f.legal settled n l) in
    let set = standby_members after in
    ap (λ b. cond {A = Option KeyMap} b (Some (shown_from set after [])) None) (shown_all set after (λ n t c. all_members splits after opens none n t c) begun)
    ∙ ap Some (same_maps set (committed_somewhere after) after [] (λ n m. same_fold splits after opens none n m))

-- ---- what was found

take_whole : (xs ys : List LogRecord) → IsPrefixOf xs ys → xs ≡ take (length xs) ys
take_whole xs ys p = sym (take_all (length xs) xs (omega arith)) ∙ take_front (length xs) xs ys p (omega arith)

-- the logs found are cuts of what is durable
pub found_cuts : (splits : List ℕ) (before after : List (List LogRecord)) (h : History) → LegalFrom splits before h after → AreCuts splits (logs_left splits before h after none_kept) before
found_cuts splits before after h l = record { opens = logs_left_may_be_opened splits before h after none_kept l; cut = cut }
  where
    inside : (n : ℕ) → n < shard_count splits → (k : ℕ) × (log_of before n ≡ take k (log_of (logs_left splits before h after none_kept) n))
    inside n i =
        let opened = log_after_restart n (log_of before n) (run_after before) 0 in
        let p = subst (IsPrefixOf opened) (sym (log_now splits before h after none_kept n i)) (left_begins splits before h after false n l.legal i) in
        (length (log_of before n), take_whole (log_of before n) (log_of (logs_left splits before h after none_kept) n) (chain (log_of before n) opened (log_of (logs_left splits before h after none_kept) n) (more (log_of before n) (restart_records n (log_of before n) (run_after before) 0)) p))

    cut : (n : ℕ) → (k : ℕ) × (log_of before n ≡ take k (log_of (logs_left splits before h after none_kept) n))
    cut n = ⊎_elim (λ i. inside n i) (λ i. (0, beyond before n (let e = l.legal.each_log.0 in omega (arith, e, i)))) (cases_lt n (shard_count splits))

pub what_was_found_came : WhatWasFoundCame
what_was_found_came splits before after streams h t f begin clear c =
    let m = somewhere_at before t c in
    stay (found_cuts splits before after h f.legal) (fed_cuts f) grows t (all_members splits before f.legal.opens none m.0 t m.2)
  where
    none : (n : ℕ) (t : TxId) → n < length before → committed_somewhere before t ≡ true → tx_in t (in_doubt n (log_of before n)) ≡ false
    none n t i s = clear n t (let e = f.legal.legal.each_log.0 in omega (arith, e, i)) s

    grows : (n : ℕ) → (k : ℕ) × (log_of before n ≡ take k (log_of streams n))
    grows n = ⊎_elim (λ i. (length (log_of before n), take_whole (log_of before n) (log_of streams n) (begin n i))) (λ i. (0, beyond before n (let e = f.legal.legal.each_log.0 in omega (arith, e, i)))) (cases_lt n (shard_count splits))
