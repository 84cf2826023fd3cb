-- The members of a legal history of many shards replay where each of them is here on each shard.
pub mod WhoIsAMember
pub mod DoubtedMembersNeverFell
pub mod ChosenGoBackInOrder
use Rattle.std.proofs.Common.{◌≡◌, ◌⊎◌, inl, inr, ⊎_elim, refl, sym, ap, subst, ◌∙◌, ℕ, ◌<◌, true, false, cond, Bool, ◌&&◌, ◌||◌, map, List, [], length, arith, append-nil}
use Rattle.std.specs.Prelude.{unwrap_or}
use Rattle.std.specs.List.{filter, list_all}
use Rattle.std.proofs.lemmas.Bool.{both_ways, and_parts, and_from, or_cases, or_left, or_right, false_from_ne_true}
use Rattle.clv_base.specs.declared.names.TxId.{TxId}
use Rattle.clv_base.specs.declared.logs.LogRecord.{LogRecord}
use Rattle.clv_base.specs.Orders.{tx_in}
use Rattle.clv_base.specs.Maps.{replay_map, replay_answers}
use Rattle.clv_base.specs.Logs.{committed_in, prepared_in, aborted_in, has_standing, committed_somewhere, in_doubt, is_winner}
use Rattle.clv_base.specs.LogRules.{log_of, listed_in}
use Rattle.clv_base.specs.Shards.{shard_count}
use Rattle.clv_base.specs.State.{Shard}
use Rattle.clv_base.specs.Restarts.{run_after, log_left}
use Rattle.clv_base.specs.Journals.{History, start_of, final_of, journal_of}
use Rattle.clv_base.specs.History.{logs_left}
use Rattle.protocol_laws.specs.SessionLaws.{tx_of}
use Rattle.law_base.proofs.Sets.{in_filter}
use Rattle.law_base.specs.Items.{Did}
use Rattle.law_base.proofs.Running.{fold_standing}
use Rattle.history_laws.specs.Openings.{LegalFrom}
use Rattle.history_laws.specs.Continuing.{serial_left}
use Rattle.history_cases.proofs.Durability.{Fronts, fronts_entries, opened_counted, left_front}
use Rattle.history_laws.proofs.Logs.FoundLogsInOrder.{log_found}
use Rattle.history_laws.proofs.NeverTakenBack.{walker_of, log_now}
use Rattle.shard_laws.specs.OneShard.{Leads, MayChoose, Passes, acts_by, answers_by, found_items, found_asked, map_found, map_chosen}
use Rattle.shard_laws.proofs.Keeping.RecordsAndFrontsKeep.{aborted_append}
use Rattle.shard_laws.proofs.Keeping.LeavingKeeps.{in_more}
use Rattle.shard_laws.proofs.AnswersAndMap.{held}
use Rattle.shard_laws.proofs.Cuts.WhoIsInDoubt.{prepared_cut}
use Rattle.shard_laws.proofs.LaterReplay.{later_replay}
use Rattle.history_laws.proofs.Logs.CutsKeepTheDurable.{cut_above}
use Rattle.fate_laws.specs.Members.{is_member}
use Rattle.fate_laws.proofs.Homes.DecidedStaysDecided.{commits_are_members, left_committed}
use Rattle.fate_laws.proofs.History.EntriesInTurn.{Requested}
use Rattle.fate_laws.proofs.Origins.DueKeepsOrigins.{SomeRequest}
use Rattle.fate_laws.proofs.Origins.FrontsKeepOrigins.{DidOrOld, IsOld, traced_front}
use Rattle.fate_laws.specs.Falls.{Fell}
use Rattle.fate_laws.specs.Leading.{deeds_before, with_found, requests_of}
use Rattle.fate_laws.proofs.EachShardLeads.DoubtedAreEarlier.{deeds_are_old}
use Rattle.fate_laws.proofs.EachShardLeads.CommitsSpareTheFallen.{fell_is}
use Rattle.fate_laws.proofs.EachShardLeads.{at_front, each_shard_leads}
use Rattle.fate_laws.proofs.EachShardLeads.RecordsTellTheirOrigin.{committed_from}
use Rattle.fate_laws.proofs.DeedsAreTold.{deeds_are_told}
use Rattle.serial_laws.specs.Shares.{numbered, ReplaysTo}
use Rattle.headline_laws.specs.Shares.{parts_on, share_of}
use Rattle.headline_laws.specs.Parts.{member_acts}
use Rattle.headline_laws.proofs.MembersReplayByParts.{members_replay_by_parts}
use Rattle.headline_laws.specs.ReplayingHere.{IsHere, MembersReplayWhereHere}
use Rattle.headline_laws.proofs.SharesAreMaps.{wins, writer_known, at_somewhere, somewhere_at}
use Rattle.headline_laws.proofs.AtOpening.EarlierOnesStoodThere.{stood_at_opening, committed_still, somewhere_at_opening}
use Rattle.headline_laws.proofs.AtOpening.DoubtedStayKnown.{IsDoubted, still_known, never_fell}
use Rattle.headline_laws.proofs.LogsLeftMayBeOpened.{logs_left_may_be_opened}
use Rattle.headline_laws.proofs.MembersReplayByParts.DeedsAreParts.{part_acts, part_answers, AllIdle, acts_later, answers_later, idle_among}
use Rattle.headline_laws.proofs.MembersReplayWhereHere.ChosenGoBackInOrder.{go_in_order}
use Rattle.headline_laws.proofs.MembersReplayWhereHere.WhoIsAMember.{request_run, asked_by, chosen, Chosen, of_chosen, is_chosen, chosen_are_members, member_run}
use Rattle.headline_laws.proofs.MembersReplayWhereHere.DoubtedMembersNeverFell.{unfallen}
use Rattle.history_laws.proofs.LogsLeftPass.{left_length}
use Rattle.history_laws.proofs.Logs.DoubtedAreUndecided.{doubted_is_old, doubt_prepared, doubt_undecided}
use Rattle.law_base.proofs.Bools.{same_truth as same_test}

module _ {splits : List ℕ} {before after : List (List LogRecord)} {h : History} (l : LegalFrom splits before h after) (choice : ℕ → Bool)
  where
    pub leads : (n : ℕ) → n < shard_count splits
        → Leads n (run_after before) (log_of before n) (with_found n (log_of before n) (deeds_before before h after n)) (final_of before h after n)
    leads n i = each_shard_leads splits before h after h [] n l (append-nil h) i

    pub fronts : (n : ℕ) → n < shard_count splits → Fronts (start_of before n) (final_of before h after n)
    fronts n i = fronts_entries (log_of after n) (start_of before n) (journal_of n h) (opened_counted n (run_after before) (log_of before n)) (l.legal.runs n i)

    pub left_is : (n : ℕ) → n < shard_count splits → log_of (logs_left splits before h after choice) n ≡ log_left (final_of before h after n) (choice n)
    left_is n i = log_now splits before h after choice n i

    pub within : (m : ℕ) → m < length (logs_left splits before h after choice) → m < shard_count splits
    within m j = let e = left_length splits before h after choice in omega (arith, e, j)

    found_within : (m : ℕ) → m < length before → m < shard_count splits
    found_within m j = let e = l.legal.each_log.0 in omega (arith, e, j)

    -- whose COMMIT is left is of this run or of an earlier one
    pub left_run : (n : ℕ) (t : TxId) → n < shard_count splits → committed_in (log_of (logs_left splits before h after choice) n) t ≡ true → (t.run ≡ run_after before) ⊎ (t.run < run_after before)
    left_run n t i k =
        by_request
        (committed_from (DidOrOld (run_after before) h n) (Requested h) (IsOld (run_after before)) n (final_of before h after n).local.log (((traced_front l h [] (append-nil h)).states n i).origins).log t
        (left_committed splits before h after choice n t i k))
      where
        by_request : SomeRequest (Requested h) (IsOld (run_after before)) t → (t.run ≡ run_after before) ⊎ (t.run < run_after before)
        by_request (inl (m, (r, ts, j, a, q))) = inl (walker_of splits before after h r t l.legal j (ap tx_of a.0)).0
        by_request (inr old) = inr old

    -- of whom a write stands on a shard, and who has a COMMIT left on any, is chosen there
    somewhere_chosen : (n m : ℕ) (t : TxId) → n < shard_count splits → m < shard_count splits → has_standing (log_of (logs_left splits before h after choice) n) t ≡ true → committed_in (log_of (logs_left splits before h after choice) m) t ≡ true → Chosen splits before h after choice n t
    somewhere_chosen n m t i j w k =
        ⊎_elim (λ r. inl (commits_are_members splits before h after choice m t l j r k)) (λ r.
        let c = somewhere_at_opening l choice m t j r k in
        ⊎_elim (λ a. inr (inl (committed_still splits before h after choice n t l.legal i a))) (λ a. inr (inr (a, c))) (writer_known splits before n t l.opens (stood_at_opening l choice n t i r w) c))
        (left_run m t j k)

    -- who is committed in a log found is so in what is left
    pub found_somewhere : (t : TxId) → committed_somewhere before t ≡ true → committed_somewhere (logs_left splits before h after choice) t ≡ true
    found_somewhere t c = let m = somewhere_at before t c in at_somewhere (logs_left splits before h after choice) m.0 t (committed_still splits before h after choice m.0 t l.legal (found_within m.0 m.1) m.2)

    -- who passes on a shard isn't in doubt in what is left there
    passes_undoubted : (n : ℕ) (t : TxId) → n < shard_count splits → Passes (deeds_before before h after n) (final_of before h after n) t → tx_in t (in_doubt n (log_of (logs_left splits before h after choice) n)) ≡ true → ⊥
    passes_undoubted n t i p d =
        let b = held n (run_after before) (log_of before n) (with_found n (log_of before n) (deeds_before before h after n)) s (leads n i) in
        ⊎_elim (λ f. both_ways _ p.unfallen (subst (λ z. tx_in t z ≡ true) b.8 (⊎_elim (λ y. y) (λ y. b.9 t y) f))) (λ a. both_ways _ (doubt_undecided n cut t doubt).2 (kept a)) (b.1.falls.gone t prepared p.uncommitted p.absent)
      where
        s : Shard
        s = final_of before h after n

        cut : List LogRecord
        cut = log_left (final_of before h after n) (choice n)

        doubt : tx_in t (in_doubt n (log_left (final_of before h after n) (choice n))) ≡ true
        doubt = subst (λ z. tx_in t (in_doubt n z) ≡ true) (left_is n i) d

        prepared : prepared_in (final_of before h after n).local.log t ≡ true
        prepared = prepared_cut _ s.local.log t (doubt_prepared n cut t doubt)

        kept : aborted_in (log_left (final_of before h after n) false) t ≡ true → aborted_in (log_left (final_of before h after n) (choice n)) t ≡ true
        kept a = let f = left_front s (choice n) (fronts n i).counted in subst (λ z. aborted_in z t ≡ true) f.1 (aborted_append (log_left s false) f.0 t ∙ or_left _ _ a)

    -- ---- a chosen one is here as the laws of one shard want it

    abbrev pub IsHereByCut : ℕ → TxId → Type 0
    IsHereByCut n t =
        ((committed_in (log_left (final_of before h after n) (choice n)) t || tx_in t (deeds_before before h after n).told) ≡ true)
        ⊎ (((tx_in t (in_doubt (final_of before h after n).shard (log_left (final_of before h after n) (choice n))) ≡ true) × (list_all (committed_in (log_left (final_of before h after n) (choice n))) (listed_in (log_left (final_of before h after n) (choice n)) t) ≡ true) × (tx_in t (deeds_before before h after n).fell ≡ false))
        ⊎ Passes (with_found n (log_of before n) (deeds_before before h after n)) (final_of before h after n) t)

    pub left_here : (n : ℕ) (t : TxId) → n < shard_count splits → committed_in (log_of (logs_left splits before h after choice) n) t ≡ true → IsHereByCut n t
    left_here n t i a = inl (or_left _ _ (subst (λ z. committed_in z t ≡ true) (left_is n i) a))

    -- who is of the fallen that a shard counts fell
    pub fell_there : (n : ℕ) (t : TxId) → n < shard_count splits → tx_in t (deeds_before before h after n).fell ≡ true → Fell before h after n t
    fell_there n t i f = fell_is before h after n t (((at_front l h [] n (append-nil h) i).remembers).fell t f).1

    -- who is in doubt in what is left, and did not fall
    doubted_here : (n : ℕ) (t : TxId) → n < shard_count splits → IsDoubted n (log_left (final_of before h after n) (choice n)) t → (Fell before h after n t → ⊥) → IsHereByCut n t
    doubted_here n t i d stands_ =
        inr (inl (
          subst (λ y. tx_in t (in_doubt y (log_left (final_of before h after n) (choice n))) ≡ true) (sym (fronts n i).shard) d.0,
          d.1,
          false_from_ne_true _ (λ f. stands_ (fell_there n t i f)),
        ))

    pub member_here : (n : ℕ) (t : TxId) → n < shard_count splits → is_member splits before h after choice t ≡ true → IsHere splits before h after choice n t → IsHereByCut n t
    member_here n t i k (inl a) = left_here n t i a
    member_here n t i k (inr (inl d)) =
        let doubt = subst (λ z. tx_in t (in_doubt n z) ≡ true) (left_is n i) d.0 in
        let listed = subst (λ z. list_all (committed_in z) (listed_in z t) ≡ true) (left_is n i) d.1 in
        let m = somewhere_at (logs_left splits before h after choice) t d.2 in
        doubted_here n t i (doubt, listed) (unfallen l choice n m.0 t i (within m.0 m.1) (member_run splits before h after choice t l.legal k) doubt m.2)
    member_here n t i k (inr (inr p)) =
        inr (inr (record {
          has_asked = in_more (found_asked n (log_of before n)) (requests_of h) t p.has_asked;
          unwritten = p.unwritten;
          uncommitted = p.uncommitted;
          absent = p.absent;
          unfallen = p.unfallen;
        }))

    pub found_here : (n : ℕ) (t : TxId) → n < shard_count splits → tx_in t (in_doubt n (log_of before n)) ≡ true → committed_somewhere before t ≡ true → IsHereByCut n t
    found_here n t i d c =
        ⊎_elim (λ a. inl (or_left _ _ a)) (λ a. doubted_here n t i a (never_fell l (choice n) n t i d c)) (still_known l (choice n) n t i d c)

    -- ---- those found did nothing of what the members did

    pub idle : (n : ℕ) → n < shard_count splits → AllIdle (filter (chosen splits before h after choice n) (requests_of h)) (map (λ x. Did x) (found_items n (log_of before n)))
    idle n i t j =
        let y = asked_by h t (in_filter (chosen splits before h after choice n) t (requests_of h) j).0 in
        let run = request_run splits before after h y.0 t l.legal y.1 y.2 in
        idle_among (IsOld (run_after before)) t (map (λ x. Did x) (found_items n (log_of before n))) (deeds_are_old splits before n l.opens (log_found l n i)) (λ old. omega (arith, old, run))

    -- the map that a shard's chosen ones begin from is its share
    pub starts : (n : ℕ) → n < shard_count splits → share_of before n ≡ map_found n (log_of before n) (chosen splits before h after choice n)
    starts n i =
        let log = log_of before n in
        fold_standing (committed_somewhere before) (λ t. committed_in log t || (tx_in t (in_doubt n log) && chosen splits before h after choice n t)) log []
        (λ t w. same_test (committed_somewhere before t) (committed_in log t || (tx_in t (in_doubt n log) && chosen splits before h after choice n t))
        (λ c. ⊎_elim (λ a. or_left (committed_in log t) _ a) (λ a. or_right (committed_in log t) _ (and_from _ _ a (is_chosen splits before h after choice n t (inr (inr (a, c)))))) (writer_known splits before n t l.opens w c))
        (λ c. ⊎_elim (λ a. at_somewhere before n t a) (λ a. let d = and_parts (tx_in t (in_doubt n log)) _ a in somewhere n t i d.0 (of_chosen splits before h after choice n t d.1))
        (or_cases (committed_in log t) (tx_in t (in_doubt n log) && chosen splits before h after choice n t) c)))
      where
        somewhere : (m : ℕ) (t : TxId) → m < shard_count splits → tx_in t (in_doubt m (log_of before m)) ≡ true → Chosen splits before h after choice m t → committed_somewhere before t ≡ true
        somewhere m t j d (inl a) = let k = doubted_is_old splits before m l.opens (log_found l m j) t d in let r = member_run splits before h after choice t l.legal a in absurd (omega (arith, k, r))
        somewhere m t j d (inr (inl a)) = somewhere_at_opening l choice m t j (doubted_is_old splits before m l.opens (log_found l m j) t d) a
        somewhere m t j d (inr (inr a)) = a.1

    module _ (here : (n : ℕ) (t : TxId) → n < shard_count splits → is_member splits before h after choice t ≡ true → IsHere splits before h after choice n t) where
      -- a chosen one that is committed or in doubt in what is left on a shard has a COMMIT left on some
      member_somewhere : (n : ℕ) (t : TxId) → n < shard_count splits → tx_in t (in_doubt n (log_of (logs_left splits before h after choice) n)) ≡ true → IsHere splits before h after choice n t → committed_somewhere (logs_left splits before h after choice) t ≡ true
      member_somewhere n t i d (inl k) = at_somewhere (logs_left splits before h after choice) n t k
      member_somewhere n t i d (inr (inl k)) = k.2
      member_somewhere n t i d (inr (inr p)) = absurd (passes_undoubted n t i p d)

      chosen_somewhere : (n : ℕ) (t : TxId) → n < shard_count splits → tx_in t (in_doubt n (log_of (logs_left splits before h after choice) n)) ≡ true → Chosen splits before h after choice n t → committed_somewhere (logs_left splits before h after choice) t ≡ true
      chosen_somewhere n t i d (inl a) = member_somewhere n t i d (here n t i a)
      chosen_somewhere n t i d (inr (inl a)) = at_somewhere (logs_left splits before h after choice) n t a
      chosen_somewhere n t i d (inr (inr a)) = found_somewhere t a.1

      -- of whom a write stands in what is left on a shard: the chosen ones that are committed or in doubt there are those with a COMMIT on some
      pub writers_chosen : (n : ℕ) (t : TxId) → n < shard_count splits → has_standing (log_of (logs_left splits before h after choice) n) t ≡ true
          → (chosen splits before h after choice n t && is_winner n (log_of (logs_left splits before h after choice) n) t) ≡ committed_somewhere (logs_left splits before h after choice) t
      writers_chosen n t i w =
          let left = logs_left splits before h after choice in
          same_test (chosen splits before h after choice n t && is_winner n (log_of left n) t) (committed_somewhere left t)
          (λ k. let p = and_parts (chosen splits before h after choice n t) (is_winner n (log_of left n) t) k in
          ⊎_elim (λ c. at_somewhere left n t c) (λ d. chosen_somewhere n t i d (of_chosen splits before h after choice n t p.0)) (or_cases (committed_in (log_of left n) t) (tx_in t (in_doubt n (log_of left n))) p.1))
          (λ k. let m = somewhere_at left t k in
          and_from _ _ (is_chosen splits before h after choice n t (somewhere_chosen n m.0 t i (within m.0 m.1) w m.2)) (wins n (log_of left n) t (writer_known splits left n t (logs_left_may_be_opened splits before h after choice l) w k)))

      chosen_here : (n : ℕ) (t : TxId) → n < shard_count splits → Chosen splits before h after choice n t → IsHereByCut n t
      chosen_here n t i (inl a) = member_here n t i a (here n t i a)
      chosen_here n t i (inr (inl a)) = left_here n t i a
      chosen_here n t i (inr (inr a)) = found_here n t i a.0 a.1

      pub may_choose : (n : ℕ) → n < shard_count splits
          → MayChoose (final_of before h after n) (cond (choice n) (unwrap_or (final_of before h after n).flight (final_of before h after n).durable) (final_of before h after n).durable) (with_found n (log_of before n) (deeds_before before h after n)) (chosen splits before h after choice n)
      may_choose n i = record {
        commits = λ t k. is_chosen splits before h after choice n t (inr (inl (subst (λ z. committed_in z t ≡ true) (sym (left_is n i)) k)));
        are_here = λ t k. chosen_here n t i (of_chosen splits before h after choice n t k);
      }

      -- what the chosen ones come to on a shard is its share
      pub ends : (n : ℕ) → n < shard_count splits
          → map_chosen (final_of before h after n).shard (log_left (final_of before h after n) (choice n)) (chosen splits before h after choice n) ≡ share_of (logs_left splits before h after choice) n
      ends n i =
          let left = logs_left splits before h after choice in
          let pick = chosen splits before h after choice n in
          ap (λ k. map_chosen k (log_left (final_of before h after n) (choice n)) pick) (fronts n i).shard ∙ ap (λ z. map_chosen n z pick) (sym (left_is n i))
          ∙ fold_standing (λ t. pick t && is_winner n (log_of left n) t) (committed_somewhere left) (log_of left n) [] (λ t w. writers_chosen n t i w)

      pub replays_on : (n : ℕ) → n < shard_count splits → ReplaysTo (share_of before n) (parts_on n (member_acts h (serial_left splits before h after choice))) (share_of (logs_left splits before h after choice) n)
      replays_on n i =
          let s = final_of before h after n in
          let d = deeds_before before h after n in
          let found = log_of before n in
          let ms = serial_left splits before h after choice in
          let pick = chosen splits before h after choice n in
          let r = later_replay n (run_after before) found (with_found n found d) s (cond (choice n) (unwrap_or s.flight s.durable) s.durable) pick (requests_of h) (leads n i)
          (cut_above s (choice n) (fronts n i).counted) (may_choose n i) refl (go_in_order l n i pick) in
          let share = starts n i in
          let names = chosen_are_members l choice n i in
          let told = λ (t : TxId). (deeds_are_told before h after n t).0 in
          let did = map (λ x. Did x) (found_items n found) in
          let acts = part_acts n h d.done ms told ∙ ap (λ ts. acts_by ts d.done) names ∙ sym (acts_later (filter pick (requests_of h)) did d.done (idle n i)) in
          let answers = part_answers n h d.done ms told ∙ ap (λ ts. answers_by ts d.done) names ∙ sym (answers_later (filter pick (requests_of h)) did d.done (idle n i)) in (
            ap (λ m. replay_answers m (map numbered (parts_on n (member_acts h ms)))) share ∙ ap (replay_answers (map_found n found pick)) acts ∙ r.0 ∙ sym answers,
            ap (λ m. replay_map m (map numbered (parts_on n (member_acts h ms)))) share ∙ ap (replay_map (map_found n found pick)) acts ∙ r.1 ∙ ends n i,
          )

pub members_replay_where_here : MembersReplayWhereHere
members_replay_where_here splits before h after choice l here = members_replay_by_parts splits before h after choice l (λ n i. replays_on l choice here n i)
