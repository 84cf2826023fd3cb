-- A transaction of an earlier run that is committed in the logs left has the home that it had at opening.
use Rattle.std.proofs.Common.{◌≡◌, inl, inr, ⊎_elim, refl, sym, ap, subst, ◌∙◌, ℕ, ◌<◌, true, false, Bool, ◌==◌, List, [], ◌∷◌, ◌++◌, Option, Some, None, length, arith, append-nil, append_assoc, eqb-true}
use Rattle.std.specs.List.{list_all}
use Rattle.std.proofs.lemmas.Bool.{both_ways, and_parts, false_from_ne_true, or_cases, or_left}
use Rattle.std.proofs.lemmas.List.Folds.{list_any-append}
use Rattle.clv_base.specs.declared.names.TxId.{TxId}
use Rattle.clv_base.specs.declared.logs.LogRecord.{LogRecord}
use Rattle.clv_base.specs.declared.logs.LogRecord.TheVariants.{Commit}
use Rattle.clv_base.specs.Shards.{shard_count}
use Rattle.clv_base.specs.Logs.{is_commit_of, is_prepare_of, has_standing, committed_in, prepared_in, aborted_in, prepare_of, commit_parts}
use Rattle.clv_base.specs.LogRules.{log_of, home_is, may_follow, commit_by_prepare, part_of, disorder}
use Rattle.clv_base.specs.Restarts.{run_after, log_after_restart}
use Rattle.clv_base.specs.Journals.{History, final_of}
use Rattle.clv_base.specs.History.{logs_left}
use Rattle.clv_base.proofs.SameNames.{tx_true}
use Rattle.law_base.proofs.Commits.{committed_append, parts_keep}
use Rattle.protocol_laws.proofs.LogsInOrder.OneRecordMore.{committed_there, prepared_there}
use Rattle.history_cases.proofs.Uncommitting.{opening_adds}
use Rattle.history_laws.specs.Openings.{LegalFrom}
use Rattle.history_laws.proofs.Logs.FoundLogsInOrder.{log_found}
use Rattle.shard_laws.proofs.Order.RecordByRecord.{Follows}
use Rattle.shard_laws.proofs.Order.WhoIsListed.{part_more}
use Rattle.law_base.proofs.LetGo.{in_part}
use Rattle.fate_laws.proofs.EachShardLeads.{may_serve}
use Rattle.shard_laws.proofs.Order.WritesLieOnListed.{ended_committed}
use Rattle.shard_laws.proofs.Order.WhoseWritesStand.{prepared_stands}
use Rattle.shard_laws.proofs.Keeping.RecordsAndFrontsKeep.{aborted_append}
use Rattle.fate_laws.proofs.Homes.DecidedStaysDecided.{left_committed}
use Rattle.fate_laws.proofs.Logs.WhatAddsNoPrepare.{prepare_more, front_prepare}
use Rattle.fate_laws.proofs.Homes.FoundCommitsHaveHomes.{home_of}
use Rattle.fate_laws.specs.Earlier.{IsEarlier, WasCommitted}
use Rattle.fate_laws.proofs.EarlierRuns.EarlierFatesAreKnown.{earlier_commits_are_of_opening}
use Rattle.headline_laws.proofs.GoneAreLost.FrontsKeepAbortedAway.{struck_front}
use Rattle.headline_laws.proofs.EarlierMembersNeverFell.{never_out, committed_within}
use Rattle.headline_laws.proofs.EndedAreCommitted.{part_below, ended_are_committed}
use Rattle.headline_laws.proofs.AtOpening.EarlierOnesStoodThere.{LastFrom, last_next, opened_last, opened_some, opened_in_order, follows_on, left_more, stood_at_opening}
use Rattle.headline_laws.proofs.ReadersPass.FrontsWithoutWrites.{aborted_stood}
use Rattle.headline_laws.proofs.LogsLeftMayBeOpened.LogsAgreeByHomes.{HomeIs, HasHome, PartIs, home_from, part_here, part_from}
use Rattle.headline_laws.proofs.LogsLeftMayBeOpened.FrontsTellHomes.{Marked, marks_of, marks_stay, home_behind, all_committed}
use Rattle.headline_laws.proofs.LogsLeftMayBeOpened.LeftLogsGoOn.{InOrder, left_opened, left_grows, left_aborted}
use Rattle.history_laws.proofs.LogsLeftPass.{left_length}
use Rattle.law_base.proofs.Bools.{and_first as front, and_second as last}
use Rattle.history_laws.proofs.NeverTakenBack.{log_now}

-- ---- a COMMIT behind the RESTART of a later run is of one that is prepared

commit_prepared : (shard run : ℕ) (log : List LogRecord) (r : LogRecord) (t : TxId) → t.run < run → LastFrom run log → may_follow shard log r ≡ true → is_commit_of t r ≡ true → prepared_in log t ≡ true
commit_prepared shard run log (Commit tx parts) t l k m e = at (prepare_of log tx) refl (last _ _ (front _ _ m))
  where
    at : (o : Option (ℕ × List TxId)) → prepare_of log tx ≡ o → commit_by_prepare shard log tx parts o ≡ true → prepared_in log t ≡ true
    at (Some p) q c = subst (λ z. prepared_in log z ≡ true) (sym (tx_true t tx e)) (prepared_there log tx p q)
    at None q c =
        let s = eqb-true tx.run (k.0).0 (subst (λ (o : Option (ℕ × ℕ)). elim o [ Some p ↦ tx.run == p.0 | None ↦ false ] ≡ true) k.1 (and_parts _ _ c).0) in
        let f = ap (λ (z : TxId). z.run) (tx_true t tx e) in
        let g = k.2 in
        absurd (omega (arith, l, s, f, g))
commit_prepared shard run log _ t l k m e = absurd (both_ways false refl e)

commits_behind : (shard run : ℕ) (log rs : List LogRecord) (t : TxId) → t.run < run → LastFrom run log → Follows shard log rs → committed_in rs t ≡ true → prepared_in (log ++ rs) t ≡ true
commits_behind shard run log [] t l k f c = absurd (both_ways false refl c)
commits_behind shard run log (r ∷ rs) t l k f c =
    ⊎_elim (λ a. list_any-append (is_prepare_of t) log (r ∷ rs) ∙ or_left _ _ (commit_prepared shard run log r t l k f.0 a))
    (λ a. subst (λ z. prepared_in z t ≡ true) (append_assoc log (r ∷ []) rs) (commits_behind shard run (log ++ r ∷ []) rs t l (last_next shard run log r k f.0) f.1 a)) (or_cases (is_commit_of t r) (committed_in rs t) c)

module _ {splits : List ℕ} {before after : List (List LogRecord)} {h : History} (l : LegalFrom splits before h after) (choice : ℕ → Bool)
    (t : TxId) (orders : InOrder splits before h after choice) (old : t.run < run_after before) where
  abbrev left : List (List LogRecord)
  left = logs_left splits before h after choice

  in_left : (n : ℕ) → n < length left → n < shard_count splits
  in_left n i = let e = left_length splits before h after choice in omega (arith, e, i)

  earlier : IsEarlier before t
  earlier e = omega (arith, old, e)

  -- ---- who isn't undone in what is left was not at opening

  stood : (n : ℕ) → n < shard_count splits → has_standing (log_of left n) t ≡ true → Marked (log_of before n) t
  stood n i w = inl (stood_at_opening l choice n t i old w)

  aborted : (n : ℕ) → n < shard_count splits → aborted_in (log_of left n) t ≡ true → Marked (log_of before n) t
  aborted n i a =
      let m = left_more l choice n t i old in
      ⊎_elim (λ x. inr (inr (inr (inl x)))) (λ x. inl (aborted_stood n (log_of before n) m.0 t m.3 m.2 x))
      (or_cases (aborted_in (log_of before n) t) (aborted_in m.0 t) (sym (aborted_append (log_of before n) m.0 t) ∙ ap (λ z. aborted_in z t) m.1 ∙ a))

  -- the part of what is left is that of the log found
  in_found : (n : ℕ) → n < shard_count splits → committed_in (part_of (log_of left n)) t ≡ true → committed_in (log_of before n) t ≡ true
  in_found n i c =
      let m = left_more l choice n t i old in
      in_part (log_of before n) t
      (subst (λ z. committed_in z t ≡ true) (ap part_of (sym m.1) ∙ part_more n (log_of before n) m.0 (may_serve splits before n l.opens (log_found l n i)).0 m.3) c)

  prepared : (n : ℕ) → n < shard_count splits → prepared_in (log_of left n) t ≡ true → Marked (log_of before n) t
  prepared n i p = ⊎_elim (stood n i) (λ y. ⊎_elim (aborted n i) (λ c. inr (inr (inl (in_found n i c)))) y) (prepared_stands n (log_of left n) (orders n i) t p)

  committed : (n : ℕ) → n < shard_count splits → committed_in (log_of left n) t ≡ true → Marked (log_of before n) t
  committed n i w =
      let opened = log_after_restart n (log_of before n) (run_after before) 0 in
      let p = left_opened splits before h after choice n l.legal i in
      let behind = follows_on n opened p.0 (opened_some before n) (opened_in_order before n (may_serve splits before n l.opens (log_found l n i))) (subst (λ z. disorder n z ≡ None) (sym p.1) (orders n i)) in
      ⊎_elim (λ a. inr (inr (inl (opening_adds n (log_of before n) (run_after before) 0 t a))))
      (λ a. prepared n i (subst (λ z. prepared_in z t ≡ true) p.1 (commits_behind n (run_after before) opened p.0 t old (opened_last before n) behind a)))
      (or_cases (committed_in opened t) (committed_in p.0 t) (sym (committed_append opened p.0 t) ∙ subst (λ z. committed_in z t ≡ true) (sym p.1) w))

  recorded : (n : ℕ) → n < shard_count splits → Marked (log_of left n) t → Marked (log_of before n) t
  recorded n i (inl w) = stood n i w
  recorded n i (inr (inl p)) = prepared n i p
  recorded n i (inr (inr (inl c))) = committed n i c
  recorded n i (inr (inr (inr (inl a)))) = aborted n i a
  recorded n i (inr (inr (inr (inr e)))) = committed n i (ended_committed n (log_of left n) (orders n i) t e)

  -- ---- its home at opening is so still

  module _ (k : ℕ) (ps : List ℕ) (at_opening : HomeIs before t k ps) where
    committed_first : committed_in (log_of before k) t ≡ true
    committed_first = committed_there (log_of before k) t ps at_opening.commits

    inside : k < shard_count splits
    inside = let e = l.legal.each_log.0 in let j = committed_within before k t committed_first in omega (arith, e, j)

    commits_left : commit_parts (log_of left k) t ≡ Some ps
    commits_left = let g = left_grows splits before h after choice k l.legal inside in subst (λ z. commit_parts z t ≡ Some ps) g.1 (parts_keep (log_of before k) g.0 t ps at_opening.commits)

    home_left : home_is k (prepare_of (log_of left k) t) ≡ true
    home_left =
        let m = left_more l choice k t inside old in
        subst (λ z. home_is k (prepare_of z t) ≡ true) m.1 (home_behind k k (log_of before k) m.0 t m.3 committed_first at_opening.home)

    -- a part that is prepared never was out, so it has no ABORT
    unaborted : (n : ℕ) (p : ℕ × List TxId) → n < shard_count splits → prepare_of (log_of left n) t ≡ Some p → aborted_in (log_of left n) t ≡ false
    unaborted n p i q =
        let log = (final_of before h after n).local.log in
        let prepared = prepared_there log t p (front_prepare _ log t p (subst (λ z. prepare_of z t ≡ Some p) (log_now splits before h after choice n i) q)) in
        false_from_ne_true _ (λ x.
        let z = struck_front l h [] (append-nil h) n i t (left_aborted splits before h after choice n t i x) in
        never_out l n t i earlier (k, committed_first) h [] (append-nil h) prepared (h, [], append-nil h, (z.0, z.1, inl (λ e. absurd (earlier e)))))

    part_left : (n : ℕ) → n < shard_count splits → PartIs (log_of before n) t k → PartIs (log_of left n) t k
    part_left n i p =
        let g = left_grows splits before h after choice n l.legal i in
        let q = subst (λ z. prepare_of z t ≡ Some p.listed) g.1 (prepare_more (log_of before n) g.0 t p.listed p.prepare) in
        record {
          listed = p.listed;
          prepare = q;
          home = p.home;
          unaborted = unaborted n p.listed i q;
          committed = subst (λ z. list_all (committed_in z) (p.listed).1 ≡ true) g.1 (all_committed (log_of before n) g.0 (p.listed).1 p.committed);
        }

    home_still : HomeIs left t k ps
    home_still = record {
      commits = commits_left;
      home = home_left;
      named = λ n i a r. let j = in_left n i in at_opening.named n (log_found l n j) a (marks_stay (log_of before n) t (recorded n j (marks_of (log_of left n) t r)));
      parts = λ n i. part_here (log_of left n) t k (part_left n (part_below l choice k n t ps inside commits_left i) (part_from (log_of before n) t k (at_opening.parts n i)));
      ended = λ e n i. ended_are_committed splits before h after choice k n t ps l inside e commits_left i;
    }

  known : (n : ℕ) → n < shard_count splits → committed_in (log_of left n) t ≡ true → WasCommitted before t
  known n i w = earlier_commits_are_of_opening splits before h [] after n t (subst (λ z. LegalFrom splits before z after) (sym (append-nil h)) l) i earlier (left_committed splits before h after choice n t i w)

  pub earlier_home : (n : ℕ) → n < shard_count splits → committed_in (log_of left n) t ≡ true → HasHome left t
  earlier_home n i w =
      let c = known n i w in
      let a = home_of splits before c.0 t l.opens c.1 in
      let b = home_from before t a.0 a.1 in
      let e = left_length splits before h after choice in
      let j = inside a.0 b.0 b.1 in
      (a.0, omega (arith, e, j), b.0, home_still a.0 b.0 b.1)
