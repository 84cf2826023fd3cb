-- The logs at the end of a history: what a crash leaves by some choice for each shard, and behind it what failed restarts added.
pub mod FailedRestartsKeepLogs
use Rattle.std.proofs.Common.{◌≡◌, ◌⊎◌, inl, inr, ⊎_elim, refl, sym, ap, subst, ◌∙◌, ℕ, ◌+◌, ◌<◌, ◌≤◌, true, false, cond, Bool, ◌||◌, ◌==◌, nat_lt, List, [], ◌∷◌, Option, Some, None, length, arith, append-nil, eqb-true}
use Rattle.std.specs.Prelude.{is_none, take, drop, unwrap_or}
use Rattle.std.specs.List.{list_all}
use Rattle.std.proofs.lemmas.Bool.{both_ways, and_parts, and_from, or_cases, false_from_ne_true, ltb-true, lt-ltb}
use Rattle.std.proofs.lemmas.List.{take-append-drop}
use Rattle.clv_base.specs.declared.names.TxId.{TxId}
use Rattle.clv_base.specs.declared.logs.LogRecord.{LogRecord}
use Rattle.clv_base.specs.Orders.{nat_in}
use Rattle.clv_base.specs.Shards.{shard_count}
use Rattle.clv_base.specs.Logs.{committed_in, wrote_in, prepared_in, aborted_in, ended_in, has_standing, prepare_of, commit_parts, committed_somewhere, fold_updates, stands}
use Rattle.clv_base.specs.LogRules.{upto_of, disorder, log_of, all_logs_from, home_is}
use Rattle.clv_base.specs.FileRules.{may_open, log_passes, passes_file_rules}
use Rattle.clv_base.specs.State.{Shard}
use Rattle.clv_base.specs.Restarts.{run_after, log_left, greatest_run, FailedRestarts}
use Rattle.clv_base.specs.Journals.{History, final_of}
use Rattle.clv_base.specs.History.{Member, logs_left, request_of, acknowledged_in, members}
use Rattle.law_base.proofs.Commits.{parts_keep}
use Rattle.protocol_laws.proofs.LogsInOrder.OneRecordMore.{committed_there}
use Rattle.history_laws.specs.Openings.{LegalFrom}
use Rattle.law_base.proofs.Standing.{stood_before}
use Rattle.shard_laws.proofs.Keeping.ChangesKeepPrepared.{prepared_from}
use Rattle.shard_laws.proofs.Keeping.RecordsAndFrontsKeep.{aborted_append}
use Rattle.shard_laws.proofs.Keeping.RecordsOfAnUndo.{undo_writes, undo_prepares}
use Rattle.law_base.proofs.Parts.{in_order_take}
use Rattle.shard_laws.proofs.Order.RecordByRecord.{Follows, greatest_front}
use Rattle.shard_laws.proofs.Order.WhoIsListed.{named_cut, old_cut}
use Rattle.shard_laws.proofs.OrderIsKept.{part_is_left}
use Rattle.shard_laws.proofs.AnswersAndMap.{held}
use Rattle.shard_laws.proofs.Order.WritesLieOnListed.{order_of}
use Rattle.shard_laws.proofs.Restarts.RestartsKeepOrder.{Fine}
use Rattle.history_cases.proofs.Merging.{Placed}
use Rattle.history_laws.proofs.NeverTakenBack.LaterHistoriesHoldMembers.{member_at}
use Rattle.history_laws.proofs.LogsLeftPass.{logs_left_pass, left_length}
use Rattle.history_laws.proofs.LogsLeftPass.WhatPassingRecordsAre.{Passes, passes_all, all_pass}
use Rattle.fate_laws.proofs.Parts.FrontsKeepParts.{bindings_front}
use Rattle.fate_laws.proofs.Logs.WhatAddsNoPrepare.{prepare_more}
use Rattle.headline_laws.proofs.EndedAreCommitted.{part_below}
use Rattle.fate_laws.specs.Leading.{deeds_before, with_found}
use Rattle.fate_laws.proofs.EachShardLeads.{each_shard_leads}
use Rattle.fate_laws.proofs.Homes.FoundCommitsHaveHomes.{home_of}
use Rattle.headline_laws.proofs.AtOpening.RecordedAreKnown.{doubted}
use Rattle.headline_laws.specs.Ends.{LogsAtTheEndMayBeOpened, TellTheSame, LogsAtTheEndAreWhatIsLeft}
use Rattle.headline_laws.proofs.LogsLeftMayBeOpened.LogsAgreeByHomes.{HomeIs, HasHome, PartIs, home_from, part_here, part_from, agree}
use Rattle.headline_laws.proofs.LogsLeftMayBeOpened.FrontsTellHomes.{Marked, marks_of, marks_stay, home_behind, all_committed}
use Rattle.headline_laws.proofs.EarlierMembersNeverFell.{committed_within}
use Rattle.headline_laws.proofs.ReadersPass.FrontsWithoutWrites.{aborted_stood}
use Rattle.headline_laws.proofs.SharesAreMaps.{wins, writer_known}
use Rattle.headline_laws.proofs.LogsLeftMayBeOpened.{logs_left_may_be_opened}
use Rattle.headline_laws.proofs.LogsAtTheEndMayBeOpened.FailedRestartsKeepLogs.{Keeps, Stays, stays_same, stays_failed, same_committed, same_ended}
use Rattle.law_base.proofs.Logs.{passes_at as each_passes, all_logs, same_somewhere, same_stands, same_fold}
use Rattle.history_laws.proofs.NeverTakenBack.{log_now}

-- ---- logs that agree shard by shard

abbrev with_member : List (List LogRecord) → History → Placed → TxId → List Member → List Member
with_member logs h e t ms = cond (committed_in (log_of logs e.0) t || acknowledged_in h t) (member_at h e t ∷ ms) ms

abbrev by_request : List (List LogRecord) → History → Placed → Option TxId → List Member → List Member
by_request logs h e o ms = elim o [ Some t ↦ with_member logs h e t ms | None ↦ ms ]

same_members : (c : ℕ) (xs ys : List (List LogRecord)) (h es : History) → list_all (λ e. nat_lt e.0 c) es ≡ true → ((n : ℕ) (t : TxId) → n < c → committed_in (log_of xs n) t ≡ committed_in (log_of ys n) t) → members xs h es ≡ members ys h es
same_members c xs ys h [] a k = refl
same_members c xs ys h (e ∷ es) a k = let p = and_parts (nat_lt e.0 c) _ a in at (request_of (e.1).event (e.1).outcome) (ltb-true e.0 c p.0) (same_members c xs ys h es p.1 k)
  where
    at : (o : Option TxId) → e.0 < c → members xs h es ≡ members ys h es → by_request xs h e o (members xs h es) ≡ by_request ys h e o (members ys h es)
    at None i r = r
    at (Some t) i r = ap (λ b. cond (b || acknowledged_in h t) (member_at h e t ∷ members xs h es) (members xs h es)) (k e.0 t i) ∙ ap (with_member ys h e t) r

-- ---- the logs at the end

module _ {splits : List ℕ} {before after : List (List LogRecord)} {h : History} (l : LegalFrom splits before h after) where
  abbrev last : ℕ → Shard
  last n = final_of before h after n

  abbrev LeavesBy : ℕ → Bool → Type 0
  LeavesBy n kept = (log_of after n ≡ log_left (last n) kept) ⊎ (((last n).is_up ≡ false) × FailedRestarts (last n) (log_left (last n) kept) (log_of after n))

  -- the choice by which each was left
  abbrev pick : (n : ℕ) (b : Bool) → nat_lt n (shard_count splits) ≡ b → Bool
  pick n true e = (l.legal.leaves n (ltb-true n (shard_count splits) e)).0
  pick n false e = false

  abbrev choice : ℕ → Bool
  choice n = pick n (nat_lt n (shard_count splits)) refl

  picked : (n : ℕ) (b : Bool) (e : nat_lt n (shard_count splits) ≡ b) → n < shard_count splits → LeavesBy n (pick n b e)
  picked n true e i = (l.legal.leaves n (ltb-true n (shard_count splits) e)).1
  picked n false e i = absurd (both_ways _ e (lt-ltb n (shard_count splits) i))

  abbrev left : List (List LogRecord)
  left = logs_left splits before h after choice

  lengths : length after ≡ length left
  lengths = l.legal.each_log.1 ∙ sym (left_length splits before h after choice)

  fine : (n : ℕ) → n < shard_count splits → Fine (last n) (last n).local.log
  fine n i =
      let d = deeds_before before h after n in
      let found = log_of before n in
      let b = held n (run_after before) found (with_found n found d) (last n) (each_shard_leads splits before h after h [] n l (append-nil h) i) in
      ((b.1).order.ordered.in_order, (b.1).order.ordered.latest, (b.1).order.ordered.named, (b.1).order.ordered.old)

  fine_left : (n k : ℕ) → n < shard_count splits → upto_of (last n).local.log ≤ k → Fine (last n) (take k (last n).local.log)
  fine_left n k i c =
      let f = fine n i in
      let log = (last n).local.log in
      ((in_order_take (last n).shard k log c f.0).0, greatest_front (take k log) (drop k log) (last n).run (subst (λ z. greatest_run z ≤ (last n).run) (sym (take-append-drop k log)) f.1), named_cut (last n).shard (last n).run k log f.0 f.2, old_cut (last n).shard (last n).run k log c f.0 f.3)

  has_part : (n : ℕ) → n < shard_count splits → upto_of (last n).local.log ≤ cond (choice n) (unwrap_or (last n).flight (last n).durable) (last n).durable
  has_part n i =
      let found = log_of before n in
      part_is_left n (run_after before) found (with_found n found (deeds_before before h after n)) (last n) (choice n) (each_shard_leads splits before h after h [] n l (append-nil h) i)

  is_shard : (n : ℕ) → n < shard_count splits → (last n).shard ≡ n
  is_shard n i = (((bindings_front l h [] (append-nil h)).fated).counts).shard n i

  left_passes : (n : ℕ) → n < shard_count splits → Passes splits n (log_of left n)
  left_passes n i =
      let e = left_length splits before h after choice in
      passes_all splits n (log_of left n)
      (subst (λ k. list_all (passes_file_rules splits k) (log_of left n) ≡ true) (omega arith) (each_passes (λ k log. list_all (passes_file_rules splits k) log) 0 n left (logs_left_pass splits before h after choice l) (omega (arith, i, e))))

  abbrev cut : ℕ → List LogRecord
  cut n = log_left (last n) (choice n)

  stays : (n : ℕ) → n < shard_count splits → Stays splits n (log_of left n) (log_of after n)
  stays n i = subst (λ z. Stays splits n z (log_of after n)) (sym now) (at (picked n (nat_lt n (shard_count splits)) refl i))
    where
      now : log_of left n ≡ log_left (last n) (choice n)
      now = log_now splits before h after choice n i

      passes : Passes splits n (log_left (last n) (choice n))
      passes = subst (Passes splits n) now (left_passes n i)

      at : LeavesBy n (choice n) → Stays splits n (cut n) (log_of after n)
      at (inl e) = subst (Stays splits n (cut n)) (sym e) (stays_same splits n (cut n) (subst (λ k. disorder k (cut n) ≡ None) (is_shard n i) (fine_left n _ i (has_part n i)).0) passes)
      at (inr (d, f)) = subst (λ k. Stays splits k (cut n) (log_of after n)) (is_shard n i) (stays_failed splits (last n) (cut n) (log_of after n) (fine_left n _ i (has_part n i)) (subst (λ k. Passes splits k (cut n)) (sym (is_shard n i)) passes) f)

  commits : (n : ℕ) (t : TxId) → n < shard_count splits → committed_in (log_of after n) t ≡ committed_in (log_of left n) t
  commits n t i = let g = stays n i in ap (λ z. committed_in z t) (sym g.goes) ∙ same_committed (log_of left n) g.more t g.kinds

  below : (n : ℕ) → n < length left → n < shard_count splits
  below n i = let e = left_length splits before h after choice in omega (arith, i, e)

  -- of whom a write stands in what is left, and who has a COMMIT there, is committed or in doubt
  won : (n : ℕ) → Keeps n (log_of left n) (committed_somewhere left)
  won n t w c = wins n (log_of left n) t (writer_known splits left n t (logs_left_may_be_opened splits before h after choice l) w c)

  map : stands after ≡ stands left
  map = same_stands (committed_somewhere after) (committed_somewhere left) after left [] lengths (λ n i m.
      let g = stays n (below n i) in
      ap (λ z. fold_updates (committed_somewhere after) z m) (sym g.goes)
      ∙ same_fold (committed_somewhere after) (committed_somewhere left) (λ t. same_somewhere after left t lengths (λ k j. commits k t (below k j))) (log_of left n) g.more m (g.spared (committed_somewhere left) (won n)))

  pub tell : TellTheSame splits before h after choice
  tell = record { map = map; members = same_members (shard_count splits) after left h h l.legal.in_shards commits; commits = commits }

  -- ---- who has a home in what is left has it at the end

  module _ (t : TxId) (home : ℕ) (ps : List ℕ) (inside : home < shard_count splits) (k : HomeIs left t home ps) where
    there : committed_in (log_of left home) t ≡ true
    there = committed_there (log_of left home) t ps k.commits

    behind : Follows home (log_of left home) (stays home inside).more
    behind = (stays home inside).behind

    recorded : (n : ℕ) → n < shard_count splits → Marked (log_of after n) t → Marked (log_of left n) t
    recorded n i m = by_mark m
      where
        g : Stays splits n (log_of left n) (log_of after n)
        g = stays n i

        none : wrote_in g.more t ≡ false
        none = undo_writes t g.more g.kinds

        behind_left : Follows n (log_of left n) g.more
        behind_left = g.behind

        by_mark : Marked (log_of after n) t → Marked (log_of left n) t
        by_mark (inl w) = inl (stood_before (log_of left n) g.more t none (subst (λ z. has_standing z t ≡ true) (sym g.goes) w))
        by_mark (inr (inl p)) = inr (inl (prepared_from (log_of left n) g.more t (undo_prepares t g.more g.kinds) (subst (λ z. prepared_in z t ≡ true) (sym g.goes) p)))
        by_mark (inr (inr (inl c))) = inr (inr (inl (sym (commits n t i) ∙ c)))
        by_mark (inr (inr (inr (inl a)))) =
            ⊎_elim (λ x. inr (inr (inr (inl x)))) (λ x. inl (aborted_stood n (log_of left n) g.more t behind_left none x))
            (or_cases (aborted_in (log_of left n) t) (aborted_in g.more t) (sym (aborted_append (log_of left n) g.more t) ∙ ap (λ z. aborted_in z t) g.goes ∙ a))
        by_mark (inr (inr (inr (inr e)))) = inr (inr (inr (inr (sym (same_ended (log_of left n) g.more t g.kinds) ∙ ap (λ z. ended_in z t) g.goes ∙ e))))

    -- a part is committed, or in doubt
    unaborted : (n : ℕ) → n < shard_count splits → PartIs (log_of left n) t home → aborted_in (log_of after n) t ≡ false
    unaborted n i p = at (committed_in (log_of left n) t) refl
      where
        away : committed_in (log_of left n) t ≡ false → (n == (p.listed).0) ≡ false
        away c = subst (λ m. (n == m) ≡ false) (sym p.home) (false_from_ne_true _ (λ e. both_ways _ c (subst (λ m. committed_in (log_of left m) t ≡ true) (sym (eqb-true n home e)) there)))

        at : (b : Bool) → committed_in (log_of left n) t ≡ b → aborted_in (log_of after n) t ≡ false
        at true c = (order_of n (log_of after n) (stays n i).in_order).apart t (commits n t i ∙ c)
        at false c = (stays n i).spares t (doubted (log_of left n) n (log_of left n) [] t p.listed p.prepare (away c) c p.unaborted p.committed)

    part : (n : ℕ) → n < shard_count splits → PartIs (log_of left n) t home → PartIs (log_of after n) t home
    part n i p =
        let g = stays n i in
        record {
          listed = p.listed;
          prepare = subst (λ z. prepare_of z t ≡ Some p.listed) g.goes (prepare_more (log_of left n) g.more t p.listed p.prepare);
          home = p.home;
          unaborted = unaborted n i p;
          committed = subst (λ z. list_all (committed_in z) (p.listed).1 ≡ true) g.goes (all_committed (log_of left n) g.more (p.listed).1 p.committed);
        }

    part_inside : (n : ℕ) → nat_in n ps ≡ true → n < shard_count splits
    part_inside n i = part_below l choice home n t ps inside k.commits i

    home_kept : HomeIs after t home ps
    home_kept =
        let g = stays home inside in
        record {
          commits = subst (λ z. commit_parts z t ≡ Some ps) g.goes (parts_keep (log_of left home) g.more t ps k.commits);
          home = subst (λ z. home_is home (prepare_of z t) ≡ true) g.goes (home_behind home home (log_of left home) g.more t behind there k.home);
          named = λ n i d r. let e = lengths in let j : n < length left = omega (arith, i, e) in k.named n j d (marks_stay (log_of left n) t (recorded n (below n j) (marks_of (log_of after n) t r)));
          parts = λ n i. part_here (log_of after n) t home (part n (part_inside n i) (part_from (log_of left n) t home (k.parts n i)));
          ended = λ e n i. commits n t (part_inside n i) ∙ k.ended (sym (same_ended (log_of left home) g.more t g.kinds) ∙ ap (λ z. ended_in z t) g.goes ∙ e) n i;
        }

  at_home : (n : ℕ) (t : TxId) → n < shard_count splits → committed_in (log_of after n) t ≡ true → HasHome after t
  at_home n t i w =
      let a = home_of splits left n t (logs_left_may_be_opened splits before h after choice l) (sym (commits n t i) ∙ w) in
      let b = home_from left t a.0 a.1 in
      let j = committed_within left a.0 t (committed_there (log_of left a.0) t b.0 (b.1).commits) in
      let e = lengths in
      (a.0, omega (arith, j, e), b.0, home_kept t a.0 b.0 (below a.0 j) b.1)

  pub may_open_after : may_open splits after ≡ true
  may_open_after =
      and_from (all_logs_from 0 (log_passes splits) after) _ (all_logs (log_passes splits) 0 after one) (ap is_none (agree after (λ n t i w. at_home n t (inside n i) w)))
    where
      inside : (n : ℕ) → n < length after → n < shard_count splits
      inside n i = let e = lengths in below n (omega (arith, i, e))

      one : (n : ℕ) → n < length after → log_passes splits (0 + n) (log_of after n) ≡ true
      one n i =
          let g = stays n (inside n i) in
          subst (λ k. log_passes splits k (log_of after n) ≡ true) (omega arith) (and_from _ _ (all_pass splits n (log_of after n) g.passes) (ap is_none g.in_order))

pub logs_at_the_end_may_be_opened : LogsAtTheEndMayBeOpened
logs_at_the_end_may_be_opened splits before h after l = may_open_after l

pub logs_at_the_end_are_what_is_left : LogsAtTheEndAreWhatIsLeft
logs_at_the_end_are_what_is_left splits before h after l = (choice l, tell l)
