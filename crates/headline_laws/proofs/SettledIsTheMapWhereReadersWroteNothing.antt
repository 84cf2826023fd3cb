-- Where a history is settled, the live records of the shards are the map: who has a COMMIT on any shard has one wherever a write of it stands.
use Rattle.std.proofs.Common.{◌≡◌, ⊎_elim, refl, sym, ap, subst, ◌∙◌, ℕ, zero, suc, ◌+◌, ◌<◌, true, false, Bool, ◌||◌, ◌==◌, List, [], ◌∷◌, ◌++◌, map, Option, Some, None, arith, append-nil, eqb-true}
use Rattle.std.specs.List.{AllByRecursion, list_all}
use Rattle.std.proofs.lemmas.Bool.{both_ways, and_parts, or_cases, or_left, not-true}
use Rattle.clv_base.specs.declared.names.TxId.{TxId}
use Rattle.clv_base.specs.declared.causes.Vote.{Vote}
use Rattle.clv_base.specs.declared.causes.Vote.TheVariants.{Yes, Read, No}
use Rattle.clv_base.specs.declared.logs.LogRecord.{LogRecord}
use Rattle.clv_base.specs.declared.messages.Message.TheVariants.{Vote as VoteMessage}
use Rattle.clv_base.specs.declared.events.Outcome.TheVariants.{Sent}
use Rattle.clv_base.specs.declared.events.Entry.{Entry}
use Rattle.clv_base.specs.declared.state.Held.{Held}
use Rattle.clv_base.specs.Orders.{Table, tx_same, tx_in, tx_get, nat_in}
use Rattle.clv_base.specs.Maps.{KeyMap}
use Rattle.clv_base.specs.Logs.{committed_in, has_standing, committed_somewhere, in_doubt, standing}
use Rattle.clv_base.specs.LogRules.{log_of}
use Rattle.clv_base.specs.Needs.{live_pairs}
use Rattle.clv_base.specs.Shards.{shard_count}
use Rattle.clv_base.specs.Coordinator.{is_good}
use Rattle.clv_base.specs.State.{Shard, is_gone_stage, is_present}
use Rattle.clv_base.specs.Undo.{stage_of}
use Rattle.clv_base.specs.Restarts.{run_after}
use Rattle.clv_base.specs.Journals.{History, final_of}
use Rattle.clv_base.specs.History.{IsAmong, IsQuiet, IsSettled, logs_left}
use Rattle.clv_base.proofs.SameNames.{tx_self}
use Rattle.law_base.proofs.Lists.{all_mono}
use Rattle.law_base.proofs.Rows.{rows_get}
use Rattle.law_base.proofs.Tables.{stage_by}
use Rattle.law_base.proofs.Running.{fold_standing}
use Rattle.history_laws.specs.Openings.{LegalFrom}
use Rattle.shard_laws.proofs.Cuts.WhoIsInDoubt.{prepared_cut}
use Rattle.shard_laws.specs.OneShard.{Deeds, Leads}
use Rattle.shard_laws.proofs.AnswersAndMap.{held}
use Rattle.shard_laws.proofs.Keeping.WhatOneShardKeeps.{view_of, Wrote}
use Rattle.law_base.proofs.Standing.{of_writer, standing_wrote}
use Rattle.shard_laws.proofs.Order.WhoseWritesStand.{open_stands}
use Rattle.shard_laws.proofs.QuietIsSettled.{writer_committed}
use Rattle.history_laws.proofs.LogsLeftPass.{logs_left_pass, left_length}
use Rattle.history_laws.proofs.Logs.DoubtedAreUndecided.{doubt_prepared, doubt_undecided}
use Rattle.fate_laws.proofs.History.EntriesInTurn.{Requested}
use Rattle.fate_laws.proofs.Origins.FrontsKeepOrigins.{DidOrOld, IsOld, traced_front}
use Rattle.fate_laws.specs.Decisions.{IsHome, is_left}
use Rattle.fate_laws.proofs.Homes.DecidedStaysDecided.{commits_stand_at_home}
use Rattle.fate_laws.proofs.VotesBind.{votes_bind}
use Rattle.fate_laws.specs.Leading.{deeds_before, with_found}
use Rattle.fate_laws.proofs.EachShardLeads.RecordsTellTheirOrigin.{wrote_from}
use Rattle.fate_laws.proofs.QuietShardsAreTheirMaps.{left_whole, quiet_shards_are_their_maps}
use Rattle.headline_laws.proofs.GoneAreLost.WhyPreparedOnesGo.{aborted_take}
use Rattle.headline_laws.proofs.YesVotersNeverFell.{yes_voters_never_fell, yes_voters_unaborted}
use Rattle.headline_laws.proofs.MembersAreVotedFor.{members_are_voted_for}
use Rattle.headline_laws.proofs.RequestsNameTheirShards.{names_shard}
use Rattle.headline_laws.specs.Shares.{share_of, in_turn}
use Rattle.headline_laws.proofs.SharesMakeTheMap.{shares_make_the_map}
use Rattle.headline_laws.specs.SettlingHere.{ReadersWroteNothing, SettledIsTheMapWhereReadersWroteNothing, SettledOpensClear}
use Rattle.headline_laws.proofs.SharesAreMaps.{writer_known, at_somewhere, somewhere_at}
use Rattle.headline_laws.proofs.AtOpening.EarlierOnesStoodThere.{stood_at_opening, committed_still, somewhere_at_opening}
use Rattle.headline_laws.proofs.AtOpening.DoubtedStayKnown.{still_known}
use Rattle.headline_laws.proofs.MembersReplayWhereHere.{leads, left_is, within, left_run, fell_there}
use Rattle.fate_laws.proofs.MembersAreHere.{in_others}
use Rattle.law_base.proofs.Bools.{same_truth as same_test}

-- ---- a part that is here on a quiet shard is committed

each_row : (test : TxId × Held → Bool) (rs : Table Held) → list_all test rs ≡ true → AllByRecursion (λ r. test r ≡ true) rs
each_row test [] e = tt
each_row test (r ∷ rs) e = let p = and_parts (test r) (list_all test rs) e in (p.0, each_row test rs p.1)

present_committed : (s : Shard) (t : TxId) → IsQuiet s → is_present (stage_of s.local t) ≡ true → committed_in s.local.log t ≡ true
present_committed s t q e = at (tx_get t s.local.parts) refl e
  where
    at : (o : Option Held) → tx_get t s.local.parts ≡ o → is_present (stage_by o) ≡ true → committed_in s.local.log t ≡ true
    at None g p = absurd (both_ways false refl p)
    at (Some x) g p =
        ⊎_elim (λ a. absurd (both_ways _ (not-true (is_gone_stage x.stage) p) a)) (λ a. a)
        (or_cases (is_gone_stage x.stage) (committed_in s.local.log t)
        (rows_get (λ r. (is_gone_stage (r.1).stage || committed_in s.local.log r.0) ≡ true) t x s.local.parts (each_row (λ r. is_gone_stage (r.1).stage || committed_in s.local.log r.0) s.local.parts q.3) g))

-- ---- nothing is in doubt on a quiet shard

-- of who is prepared and neither committed nor aborted a write stands, so it is committed on a quiet shard
undoubted : (shard run : ℕ) (before : List LogRecord) (d : Deeds) (s : Shard) (n : ℕ) (t : TxId) → Leads shard run before d s → IsQuiet s
    → tx_in t (in_doubt n s.local.log) ≡ true → ⊥
undoubted shard run before d s n t leads q i =
    let b = held shard run before d s leads in
    let log = s.local.log in
    let follows = (b.1).order.ordered.in_order in
    let undecided = doubt_undecided n log t i in
    ⊎_elim
    (λ w. both_ways _ undecided.1 (of_writer (λ u. committed_in log u ≡ true) (standing log) t (all_mono (Wrote (view_of s)) _ (λ w a. writer_committed b.0 s w (b.1).kept q a) (standing log) (b.1).kept.wrote) w))
    (λ a. both_ways _ undecided.2 a)
    (open_stands s.shard log follows t (doubt_prepared n log t i) undecided.1)

module _ {splits : List ℕ} {before after : List (List LogRecord)} {h : History} (l : LegalFrom splits before h after) (choice : ℕ → Bool)
    (pass : ReadersWroteNothing splits before h after) (quiet : IsSettled splits before h after) where
  -- ---- who voted yes for a commit is committed

  yes_committed : (n m k home : ℕ) (x : Entry) (t : TxId) → n < shard_count splits → m < shard_count splits → t.run ≡ run_after before → IsAmong k x h → x.outcome ≡ Sent (VoteMessage home t n Yes) → committed_in (log_of (logs_left splits before h after choice) m) t ≡ true
      → committed_in (final_of before h after n).local.log t ≡ true
  yes_committed n m k home x t i j run a v left = at (committed_in (final_of before h after n).local.log t) (is_present (stage_of (final_of before h after n).local t)) refl refl
    where
      fallen : tx_in t (deeds_before before h after n).fell ≡ true → ⊥
      fallen f = yes_voters_never_fell splits before h after choice m n k x home t l j i run a v left (fell_there l choice n t i f)

      at : (b d : Bool) → committed_in (final_of before h after n).local.log t ≡ b → is_present (stage_of (final_of before h after n).local t) ≡ d → committed_in (final_of before h after n).local.log t ≡ true
      at true d e p = e
      at false true e p = present_committed (final_of before h after n) t (quiet n i) p
      at false false e p =
          let s = final_of before h after n in
          let d = deeds_before before h after n in
          let found = log_of before n in
          let b = held n (run_after before) found (with_found n found d) s (leads l choice n i) in
          let bound = votes_bind splits before h [] after k x home n t Yes (subst (λ z. LegalFrom splits before z after) (sym (append-nil h)) l) i a v in
          absurd
          (⊎_elim (λ f. fallen (subst (λ z. tx_in t z ≡ true) b.8 (⊎_elim (λ y. y) (λ y. b.9 t y) f))) (λ r. yes_voters_unaborted l choice m n k x home t j i run a v left (aborted_take s.durable s.local.log t r))
          (b.1.falls.gone t (prepared_cut s.durable s.local.log t (bound.0).0) e p))

  by_vote : (n m k home : ℕ) (x : Entry) (v : Vote) (t : TxId) → n < shard_count splits → m < shard_count splits → t.run ≡ run_after before → has_standing (final_of before h after n).local.log t ≡ true → IsAmong k x h → x.outcome ≡ Sent (VoteMessage home t n v) → is_good (Some v) ≡ true
      → committed_in (log_of (logs_left splits before h after choice) m) t ≡ true → committed_in (final_of before h after n).local.log t ≡ true
  by_vote n m k home x Yes t i j run w a v g left = yes_committed n m k home x t i j run a v left
  by_vote n m k home x Read t i j run w a v g left = absurd (both_ways _ (pass n k home x t i a v) w)
  by_vote n m k home x (No why) t i j run w a v g left = absurd (both_ways false refl g)

  -- ---- of whom a write stands on a shard, and who has a COMMIT left on any, has one there

  left_last : (n : ℕ) (t : TxId) → n < shard_count splits → committed_in (final_of before h after n).local.log t ≡ true → committed_in (log_of (logs_left splits before h after choice) n) t ≡ true
  left_last n t i e = subst (λ z. committed_in z t ≡ true) (sym (left_is l choice n i ∙ left_whole (final_of before h after n) (choice n) (quiet n i))) e

  this_run : (n m : ℕ) (t : TxId) → n < shard_count splits → m < shard_count splits → t.run ≡ run_after before → has_standing (final_of before h after n).local.log t ≡ true → committed_in (log_of (logs_left splits before h after choice) m) t ≡ true
      → committed_in (log_of (logs_left splits before h after choice) n) t ≡ true
  this_run n m t i j run w left = at (n == home) refl
    where
      z : (home : ℕ) × IsHome h t home × (is_left splits before h after choice home t ≡ true)
      z = commits_stand_at_home splits before h after choice m t l j run left

      home : ℕ
      home = z.0

      named : nat_in n (map (λ p. p.0) (z.1).1) ≡ true
      named =
          names_shard splits before after h n z.0 t z.1 l.legal run
          (wrote_from (DidOrOld (run_after before) h n) (Requested h) (IsOld (run_after before)) n (final_of before h after n).local.log (((traced_front l h [] (append-nil h)).states n i).origins).log t (standing_wrote (final_of before h after n).local.log t w))

      at : (b : Bool) → (n == home) ≡ b → committed_in (log_of (logs_left splits before h after choice) n) t ≡ true
      at true e = subst (λ k. committed_in (log_of (logs_left splits before h after choice) k) t ≡ true) (sym (eqb-true n z.0 e)) z.2
      at false e =
          let v = members_are_voted_for splits before h after choice m n z.0 (z.1).0 (z.1).1 t l j (z.1).2 (z.1).3 (z.1).4 (in_others n z.0 (map (λ p. p.0) (z.1).1) named e) left in
          left_last n t i (by_vote n m v.0 v.2 v.1 v.3 t i j run w v.4 v.5 v.6 left)

  -- who was in doubt in the log found, and is committed in some log found, is committed there now
  found_left : (n : ℕ) (t : TxId) → n < shard_count splits → tx_in t (in_doubt n (log_of before n)) ≡ true → committed_somewhere before t ≡ true → committed_in (log_of (logs_left splits before h after choice) n) t ≡ true
  found_left n t i d c =
      let s = final_of before h after n in
      let e = deeds_before before h after n in
      let found = log_of before n in
      ⊎_elim (λ a. subst (λ z. committed_in z t ≡ true) (sym (left_is l choice n i)) a) (λ a. absurd
      (undoubted n (run_after before) found (with_found n found e) s n t (leads l choice n i) (quiet n i)
      (subst (λ z. tx_in t (in_doubt n z) ≡ true) (left_whole s (choice n) (quiet n i)) a.0))) (still_known l (choice n) n t i d c)

  has_commit : (n m : ℕ) (t : TxId) → n < shard_count splits → m < shard_count splits → has_standing (log_of (logs_left splits before h after choice) n) t ≡ true → committed_in (log_of (logs_left splits before h after choice) m) t ≡ true
      → committed_in (log_of (logs_left splits before h after choice) n) t ≡ true
  has_commit n m t i j w k =
      ⊎_elim (λ r. this_run n m t i j r (subst (λ z. has_standing z t ≡ true) (left_is l choice n i ∙ left_whole (final_of before h after n) (choice n) (quiet n i)) w) k) (λ r.
      let c = somewhere_at_opening l choice m t j r k in
      ⊎_elim (λ a. committed_still splits before h after choice n t l.legal i a) (λ a. found_left n t i a c) (writer_known splits before n t l.opens (stood_at_opening l choice n t i r w) c))
      (left_run l choice m t j k)

  -- ---- the shards' records

  writers_committed : (n : ℕ) (t : TxId) → n < shard_count splits → has_standing (log_of (logs_left splits before h after choice) n) t ≡ true
      → committed_somewhere (logs_left splits before h after choice) t ≡ committed_somewhere (log_of (logs_left splits before h after choice) n ∷ []) t
  writers_committed n t i w =
      let left = logs_left splits before h after choice in
      same_test (committed_somewhere left t) (committed_somewhere (log_of left n ∷ []) t) (λ k. let m = somewhere_at left t k in
      or_left _ false (has_commit n m.0 t i (within l choice m.0 m.1) w m.2))
      (λ k. ⊎_elim (λ a. at_somewhere left n t a) (λ a. absurd (both_ways false refl a)) (or_cases (committed_in (log_of left n) t) false k))

  live_is_share : (n : ℕ) → n < shard_count splits → live_pairs (final_of before h after n).local.records ≡ share_of (logs_left splits before h after choice) n
  live_is_share n i =
      let left = logs_left splits before h after choice in
      quiet_shards_are_their_maps splits before h after choice n l i (quiet n i)
      ∙ sym (fold_standing (committed_somewhere left) (committed_somewhere (log_of left n ∷ [])) (log_of left n) [] (λ t w. writers_committed n t i w))

turns_alike : (f g : ℕ → KeyMap) (count n k : ℕ) → n + k ≡ count → ((j : ℕ) → j < count → f j ≡ g j) → in_turn f n k ≡ in_turn g n k
turns_alike f g count n zero e a = refl
turns_alike f g count n (suc k) e a = ap (λ m. m ++ in_turn f (suc n) k) (a n (omega (arith, e))) ∙ ap (λ m. g n ++ m) (turns_alike f g count (suc n) k (omega (arith, e)) a)

pub settled_is_the_map_where_readers_wrote_nothing : SettledIsTheMapWhereReadersWroteNothing
settled_is_the_map_where_readers_wrote_nothing splits before h after choice l pass quiet =
    let left = logs_left splits before h after choice in
    turns_alike (λ n. live_pairs (final_of before h after n).local.records) (share_of left) (shard_count splits) 0 (shard_count splits) (omega arith) (live_is_share l choice pass quiet)
    ∙ shares_make_the_map splits left l.legal.splits_rise (left_length splits before h after choice, logs_left_pass splits before h after choice l)

-- ---- nothing is in doubt in what a quiet shard leaves

none_in : (ts : List TxId) → ((t : TxId) → tx_in t ts ≡ true → ⊥) → ts ≡ []
none_in [] k = refl
none_in (t ∷ ts) k = absurd (k t (or_left (tx_same t t) _ (tx_self t)))

pub settled_opens_clear : SettledOpensClear
settled_opens_clear splits before h after choice n l quiet i =
    let s = final_of before h after n in
    let d = deeds_before before h after n in
    let found = log_of before n in
    none_in (in_doubt n (log_of (logs_left splits before h after choice) n)) (λ t k.
    undoubted n (run_after before) found (with_found n found d) s n t (leads l choice n i) (quiet n i)
    (subst (λ z. tx_in t (in_doubt n z) ≡ true) (left_is l choice n i ∙ left_whole s (choice n) (quiet n i)) k))
