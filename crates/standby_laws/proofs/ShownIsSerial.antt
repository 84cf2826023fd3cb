-- What is shown is a serial run of what the members did where they wrote.
use Rattle.std.proofs.Common.{◌≡◌, ⊎_elim, ℕ, zero, suc, ◌+◌, ◌<◌, ◌≤◌, arith, Bool, true, false, cond, ◌&&◌, ◌||◌, ◌==◌, List, [], ◌∷◌, ◌++◌, map, length, Option, Some, None, refl, sym, ap, subst, ◌∙◌, append-nil, eq-eqb}
use Rattle.std.specs.Prelude.{take, drop, is_none}
use Rattle.std.specs.List.{AllByRecursion, filter, list_all}
use Rattle.std.proofs.lemmas.Bool.{and_parts, and_from, or_cases, or_left, or_right, false_from_ne_true}
use Rattle.std.proofs.lemmas.List.{take-append-drop, length-append}
use Rattle.std.proofs.lemmas.List.Elements.{filter-append}
use Rattle.clv_base.specs.declared.names.TxId.{TxId}
use Rattle.clv_base.specs.declared.logs.LogRecord.{LogRecord}
use Rattle.clv_base.specs.Orders.{tx_same, tx_in, nat_in}
use Rattle.clv_base.specs.Shards.{shard_count}
use Rattle.clv_base.specs.Maps.{KeyMap, with_pairs, replay_map, replay_answers}
use Rattle.clv_base.specs.Logs.{StandingUpdate, with_change, committed_in, prepared_in, committed_somewhere, in_doubt, is_winner, standing, base_of, fold_writes, fold_updates, stands}
use Rattle.clv_base.specs.LogRules.{log_of, all_logs_from, apart, upto_of, disorder}
use Rattle.clv_base.specs.FileRules.{log_passes, passes_file_rules}
use Rattle.clv_base.specs.Restarts.{run_after, log_after_restart}
use Rattle.clv_base.specs.Journals.{History, final_of}
use Rattle.clv_base.specs.History.{logs_left, state_before, request_of}
use Rattle.law_base.specs.Items.{Did}
use Rattle.law_base.proofs.Bools.{same_truth}
use Rattle.law_base.proofs.Lists.{all_kept}
use Rattle.law_base.proofs.Parts.{in_order_take, whole_part}
use Rattle.law_base.proofs.Running.{fold_standing}
use Rattle.law_base.proofs.Sets.{in_filter, filter_both, filter_alike, none_pass}
use Rattle.law_base.proofs.Logs.{only_passes, all_logs, passes_at}
use Rattle.clv_base.proofs.SameNames.{tx_self}
use Rattle.clv_base.specs.declared.events.Event.TheVariants.{Request as RequestEvent}
use Rattle.protocol_laws.specs.SessionLaws.{tx_of, works_on}
use Rattle.protocol_laws.specs.Growth.{IsPrefixOf}
use Rattle.protocol_laws.proofs.LogOnlyGrows.DueGrowsLogs.{chain}
use Rattle.protocol_laws.proofs.LogsInOrder.{tidy_in_order}
use Rattle.serial_laws.specs.Shares.{ShardAct, part_on, goes_whole, whole, ReplaysTo, LiesIn}
use Rattle.serial_laws.proofs.ReplayByShards.{replay_by_shards}
use Rattle.history_cases.proofs.Merging.{Placed, Among, among_left, among_right, among_is}
use Rattle.history_cases.proofs.Telling.{IsRequest}
use Rattle.history_cases.proofs.Worlds.{in_a_shard}
use Rattle.history_laws.specs.Going.{shard_acts_in}
use Rattle.history_laws.proofs.Laws.{offered, logs_left_pass, left_length}
use Rattle.history_laws.proofs.NeverTakenBack.{is_request}
use Rattle.history_laws.proofs.RequestsGoWhole.{requests_go_whole}
use Rattle.history_laws.proofs.Logs.FoundLogsInOrder.{found_in_order, log_found}
use Rattle.history_laws.proofs.Logs.DoubtedAreUndecided.{doubted_is_old, doubt_prepared}
use Rattle.shard_laws.specs.OneShard.{found_items, map_found, map_chosen}
use Rattle.shard_laws.proofs.LaterReplay.{later_replay}
use Rattle.shard_laws.proofs.OrderIsKept.{order_is_kept, part_is_left}
use Rattle.shard_laws.proofs.Cuts.WhatCutsHold.{of_kept, standing_cut}
use Rattle.shard_laws.proofs.Cuts.WhoIsInDoubt.{prepared_cut}
use Rattle.fate_laws.specs.Leading.{deeds_before, with_found, requests_of}
use Rattle.fate_laws.proofs.EachShardLeads.{each_shard_leads}
use Rattle.fate_laws.proofs.EachShardLeads.DoubtedAreEarlier.{deeds_are_old}
use Rattle.fate_laws.proofs.Origins.FrontsKeepOrigins.{IsOld}
use Rattle.fate_laws.proofs.DeedsAreTold.{deeds_are_told}
use Rattle.fate_laws.proofs.Homes.FoundCommitsHaveHomes.{nat_at, named_part, prepared_stays}
use Rattle.headline_laws.specs.Shares.{share_of}
use Rattle.headline_laws.proofs.AtOpening.EarlierOnesStoodThere.{opened_some, somewhere_at_opening}
use Rattle.headline_laws.proofs.SharesAreMaps.{writer_known, at_somewhere}
use Rattle.headline_laws.proofs.TransactionsReplayByShards.LogsAgreeWithMap.{logs_agree}
use Rattle.headline_laws.proofs.MembersReplayWhereHere.WhoIsAMember.{Asks, asked_by, request_run}
use Rattle.headline_laws.proofs.MembersReplayByParts.DeedsAreParts.{AllIdle, acts_later, answers_later, idle_among}
use Rattle.standby_base.specs.Standby.{standby_members, is_shown, shown_from, shown_with}
use Rattle.standby_laws.specs.Streams.{Fed, none_kept}
use Rattle.standby_laws.specs.Serial.{HaveFound, ShownIsSerial, on_shards, members_in}
use Rattle.standby_laws.proofs.Settled.{found_cuts}
use Rattle.standby_laws.proofs.Cuts.{AreCuts, Home, IsMember, member_is, before_member, from_stream}
use Rattle.standby_laws.proofs.Members.{fed_cuts}
use Rattle.standby_laws.proofs.Fronts.{take_less, length_taken}
use Rattle.standby_laws.proofs.Before.{At, at_moment, begins_then, may_choose, had_asked}
use Rattle.standby_laws.proofs.Kept.{kept_goes_whole}
use Rattle.standby_laws.proofs.Shares.{share_shown, shown_shares}
use Rattle.standby_laws.proofs.Parts.{parts_kept, with_idle, acts_are, answers_are, map_same, requests_append, acts_lie}
use Rattle.standby_laws.proofs.Out.{first_out, out_within, out_behind, out_splits}
use Rattle.standby_laws.proofs.GoingInOrder.{same_acts, nothing_after, go_in_order_by}

-- ---- folds of those that pass, by the writes that stand of them

passed_writes : (f : TxId → Bool) (ws : List StandingUpdate) (m : KeyMap) → fold_writes f ws m ≡ fold_writes (λ t. true) (filter (of_kept f) ws) m
passed_writes f [] m = refl
passed_writes f (w ∷ ws) m = at (f w.tx) (passed_writes f ws m)
  where
    at : (b : Bool) → fold_writes f ws m ≡ fold_writes (λ t. true) (filter (of_kept f) ws) m
        → cond b (with_change w.key w.change (fold_writes f ws m)) (fold_writes f ws m) ≡ fold_writes (λ t. true) (cond b (w ∷ filter (of_kept f) ws) (filter (of_kept f) ws)) m
    at true e = ap (λ n. with_change w.key w.change n) e
    at false e = e

-- two logs that begin alike and have the same writes of those that pass
same_fold : (f : TxId → Bool) (xs ys : List LogRecord) → base_of xs ≡ base_of ys → filter (of_kept f) (standing xs) ≡ filter (of_kept f) (standing ys) → fold_updates f xs [] ≡ fold_updates f ys []
same_fold f xs ys b e =
    passed_writes f (standing xs) (with_pairs (base_of xs) [])
    ∙ ap (λ ws. fold_writes (λ t. true) ws (with_pairs (base_of xs) [])) e
    ∙ ap (λ ps. fold_writes (λ t. true) (filter (of_kept f) (standing ys)) (with_pairs ps [])) b
    ∙ sym (passed_writes f (standing ys) (with_pairs (base_of ys) []))

-- what a log begins with
abbrev Beginning : List LogRecord → List LogRecord → Type 0
Beginning xs ys = (base_of xs ≡ base_of ys) × (upto_of xs ≡ upto_of ys)

-- opened it begins as it was found
opened_begins : (n run : ℕ) (found : List LogRecord) → Beginning (log_after_restart n found run 0) found
opened_begins n run [] = (refl, refl)
opened_begins n run (r ∷ rs) = (refl, refl)

-- and so does what goes on from that
goes_on : (before : List (List LogRecord)) (n : ℕ) (log : List LogRecord) → IsPrefixOf (log_after_restart n (log_of before n) (run_after before) 0) log → Beginning log (log_of before n)
goes_on before n log p = at (log_after_restart n (log_of before n) (run_after before) 0) refl p
  where
    at : (xs : List LogRecord) → log_after_restart n (log_of before n) (run_after before) 0 ≡ xs → IsPrefixOf xs log → Beginning log (log_of before n)
    at [] e p = absurd (opened_some before n e)
    at (x ∷ xs) e p =
        let b = opened_begins n (run_after before) (log_of before n) in
        (ap base_of (sym p.1) ∙ ap base_of (sym e) ∙ b.0, ap upto_of (sym p.1) ∙ ap upto_of (sym e) ∙ b.1)

-- a piece of it that has all that was found begins with the same map
piece_base : (k : ℕ) (found log : List LogRecord) → Beginning log found → IsPrefixOf found (take k log) → base_of (take k log) ≡ base_of found
piece_base k [] log b p = taken k log b.0
  where
    taken : (k : ℕ) (xs : List LogRecord) → base_of xs ≡ [] → base_of (take k xs) ≡ []
    taken zero xs e = refl
    taken (suc k) [] e = refl
    taken (suc k) (x ∷ xs) e = e
piece_base k (r ∷ rs) log b p = ap base_of (sym p.1)

longer : (d c : ℕ) (xs : List LogRecord) → d ≤ c → IsPrefixOf (take d xs) (take c xs)
longer d c xs l = (drop d (take c xs), ap (λ z. z ++ drop d (take c xs)) (take_less d c xs l) ∙ take-append-drop d (take c xs))

-- two logs in order that begin alike, with one first piece, of whom all that pass are committed there
by_piece : (n c : ℕ) (xs ys : List LogRecord) (f : TxId → Bool) → base_of xs ≡ base_of ys → disorder n xs ≡ None → disorder n ys ≡ None → take c xs ≡ take c ys → ((t : TxId) → f t ≡ committed_in (take c xs) t)
    → fold_updates f xs [] ≡ fold_updates f ys []
by_piece n c xs ys f b dx dy e k =
    fold_standing f (committed_in (take c xs)) xs [] (λ t w. k t)
    ∙ same_fold (committed_in (take c xs)) xs ys b
    (standing_cut c xs (tidy_in_order n xs dx)
    ∙ ap (λ z. filter (of_kept (committed_in z)) (standing z)) e
    ∙ sym (standing_cut c ys (tidy_in_order n ys dy))
    ∙ ap (λ z. filter (of_kept (committed_in z)) (standing ys)) (sym e))
    ∙ fold_standing (committed_in (take c xs)) f ys [] (λ t w. sym (k t))

cut_order : (n c : ℕ) (log : List LogRecord) → upto_of log ≤ c → disorder n log ≡ None → disorder n (take c log) ≡ None
cut_order n c log l d = (in_order_take n c log l d).0

taken_again : {A : Type 0} (c : ℕ) (xs more : List A) → c ≤ length xs → take c (take c xs ++ more) ≡ take c xs
taken_again zero xs more l = refl
taken_again (suc c) [] more l = absurd (omega (arith, l))
taken_again (suc c) (x ∷ xs) more l = ap (λ ys. x ∷ ys) (taken_again c xs more (omega (arith, l)))

all_taken : {A : Type 0} (p : A → Bool) (n : ℕ) (xs : List A) → list_all p xs ≡ true → list_all p (take n xs) ≡ true
all_taken p zero xs a = refl
all_taken p (suc n) [] a = refl
all_taken p (suc n) (x ∷ xs) a = let q = and_parts (p x) (list_all p xs) a in and_from (p x) (list_all p (take n xs)) q.0 (all_taken p n xs q.1)

-- ---- a shard

module _ (splits : List ℕ) (before after streams : List (List LogRecord)) (h : History) (f : Fed splits before h after streams) (found : HaveFound splits before streams) where
  abbrev set : List TxId
  set = standby_members streams

  abbrev durable : List (List LogRecord)
  durable = logs_left splits before h after none_kept

  cuts : AreCuts splits (logs_left splits before h after none_kept) streams
  cuts = fed_cuts f

  module _ (n : ℕ) (i : n < shard_count splits) where
    abbrev stream : List LogRecord
    stream = log_of streams n

    abbrev log : List LogRecord
    log = (final_of before h after n).local.log

    abbrev keep : TxId → Bool
    keep t = tx_in t (standby_members streams)

    abbrev c : ℕ
    c = first_out (λ t. tx_in t (standby_members streams)) (log_of streams n)

    c_within : first_out (λ t. tx_in t (standby_members streams)) (log_of streams n) ≤ length (log_of streams n)
    c_within = out_within (λ t. tx_in t (standby_members streams)) (log_of streams n)

    stream_is : log_of streams n ≡ take (f.streams_of n i).0 (final_of before h after n).local.log
    stream_is = (f.streams_of n i).2

    c_below : first_out (λ t. tx_in t (standby_members streams)) (log_of streams n) ≤ (f.streams_of n i).0
    c_below = let a = c_within in let b = ap length stream_is in let d = length_taken (f.streams_of n i).0 (final_of before h after n).local.log in omega (arith, a, b, d)

    piece : take (first_out (λ t. tx_in t (standby_members streams)) (log_of streams n)) (final_of before h after n).local.log ≡ take (first_out (λ t. tx_in t (standby_members streams)) (log_of streams n)) (log_of streams n)
    piece = take_less (first_out (λ t. tx_in t (standby_members streams)) (log_of streams n)) (f.streams_of n i).0 (final_of before h after n).local.log c_below
        ∙ ap (take (first_out (λ t. tx_in t (standby_members streams)) (log_of streams n))) (sym stream_is)

    splits_there : (t : TxId) → committed_in (take (first_out (λ t. tx_in t (standby_members streams)) (log_of streams n)) (log_of streams n)) t ≡ (tx_in t (standby_members streams) && committed_in (log_of streams n) t)
    splits_there = out_splits (λ t. tx_in t (standby_members streams)) (log_of streams n) (λ t p a b d. before_member cuts t p n a b d)

    found_below : length (log_of before n) ≤ first_out (λ t. tx_in t (standby_members streams)) (log_of streams n)
    found_below =
        let p = found.begin n i in
        subst (λ z. length (log_of before n) ≤ first_out (λ t. tx_in t (standby_members streams)) z) p.1
        (out_behind (λ t. tx_in t (standby_members streams)) (log_of before n) p.0 (λ t a. found.members t (at_somewhere before n t a)))

    moment : At splits before after h f.legal n i (first_out (λ t. tx_in t (standby_members streams)) (log_of streams n))
    moment = at_moment splits before after h f.legal n i (first_out (λ t. tx_in t (standby_members streams)) (log_of streams n)) found_below
        (let a = c_below in let b = (f.streams_of n i).1 in omega (arith, a, b))

    abbrev moment_log : List LogRecord
    moment_log = take moment.cut (state_before before moment.so_far after n).local.log

    abbrev pick : TxId → Bool
    pick t = committed_in (take moment.cut (state_before before moment.so_far after n).local.log) t

    pick_is : (t : TxId) → committed_in (take moment.cut (state_before before moment.so_far after n).local.log) t ≡ (tx_in t (standby_members streams) && committed_in (log_of streams n) t)
    pick_is t = moment.commits t ∙ ap (λ l. committed_in l t) piece ∙ splits_there t

    -- ---- the map at the end

    moment_order : disorder n (take moment.cut (state_before before moment.so_far after n).local.log) ≡ None
    moment_order =
        let s = state_before before moment.so_far after n in
        let d = with_found n (log_of before n) (deeds_before before moment.so_far after n) in
        let leads = each_shard_leads splits before h after moment.so_far moment.rest n f.legal moment.split i in
        let p = part_is_left n (run_after before) (log_of before n) d s false leads in
        let a = moment.above in cut_order n moment.cut s.local.log (omega (arith, p, a)) (order_is_kept n (run_after before) (log_of before n) d s leads)

    moment_base : base_of (take moment.cut (state_before before moment.so_far after n).local.log) ≡ base_of (log_of before n)
    moment_base =
        let s = state_before before moment.so_far after n in
        let opened = log_after_restart n (log_of before n) (run_after before) 0 in
        (goes_on before n (take moment.cut s.local.log)
        (chain opened (take s.durable s.local.log) (take moment.cut s.local.log) (begins_then splits before after h f.legal n i moment.so_far moment.rest moment.split) (longer s.durable moment.cut s.local.log moment.above))).0

    -- ---- the stream

    final_begins : Beginning (final_of before h after n).local.log (log_of before n)
    final_begins =
        let s = final_of before h after n in
        let opened = log_after_restart n (log_of before n) (run_after before) 0 in
        goes_on before n s.local.log
        (chain opened (take s.durable s.local.log) s.local.log (begins_then splits before after h f.legal n i h [] (append-nil h)) (drop s.durable s.local.log, take-append-drop s.durable s.local.log))

    has_part : upto_of (final_of before h after n).local.log ≤ (f.streams_of n i).0
    has_part =
        let a = found_below in
        let b = c_below in
        let p = whole_part n (log_of before n) (found_in_order splits before n f.legal.opens (log_found f.legal n i)) in
        let e = final_begins.1 in omega (arith, a, b, p, e)

    stream_base : base_of (log_of streams n) ≡ base_of (log_of before n)
    stream_base =
        ap base_of stream_is
        ∙ piece_base (f.streams_of n i).0 (log_of before n) (final_of before h after n).local.log final_begins (subst (IsPrefixOf (log_of before n)) stream_is (found.begin n i))

    stream_order : disorder n (log_of streams n) ≡ None
    stream_order =
        subst (λ z. disorder n z ≡ None) (sym stream_is)
        (cut_order n (f.streams_of n i).0 (final_of before h after n).local.log has_part
        (order_is_kept n (run_after before) (log_of before n) (with_found n (log_of before n) (deeds_before before h after n)) (final_of before h after n)
        (each_shard_leads splits before h after h [] n f.legal (append-nil h) i)))

    pieces : take c (take moment.cut (state_before before moment.so_far after n).local.log) ≡ take c (log_of streams n)
    pieces =
        ap (take c) moment.is
        ∙ taken_again c (final_of before h after n).local.log moment.more inside
        ∙ piece
      where
        inside : c ≤ length (final_of before h after n).local.log
        inside =
            let a = c_within in
            let b = ap length stream_is in
            let e = ap length (take-append-drop (f.streams_of n i).0 (final_of before h after n).local.log) in
            let g = length-append (take (f.streams_of n i).0 (final_of before h after n).local.log) (drop (f.streams_of n i).0 (final_of before h after n).local.log) in
            omega (arith, a, b, e, g)

    ends_at : map_chosen (state_before before moment.so_far after n).shard (take moment.cut (state_before before moment.so_far after n).local.log) pick ≡ share_shown (standby_members streams) streams n
    ends_at =
        fold_standing (λ t. pick t && is_winner (state_before before moment.so_far after n).shard moment_log t) pick moment_log []
        (λ t w. same_truth (pick t && is_winner (state_before before moment.so_far after n).shard moment_log t) (pick t)
        (λ e. (and_parts (pick t) _ e).0) (λ e. and_from (pick t) _ e (or_left (committed_in moment_log t) _ e)))
        ∙ by_piece n c moment_log (log_of streams n) pick (moment_base ∙ sym stream_base) moment_order stream_order pieces
        (λ t. moment.commits t ∙ ap (λ l. committed_in l t) piece ∙ ap (λ l. committed_in l t) (sym pieces))
        ∙ fold_standing pick (λ t. tx_in t (standby_members streams) && committed_in (log_of streams n) t) (log_of streams n) [] (λ t w. pick_is t)

    -- ---- the map at the beginning

    doubted_picked : (t : TxId) → tx_in t (in_doubt n (log_of before n)) ≡ true → committed_somewhere before t ≡ true → pick t ≡ true
    doubted_picked t d s = pick_is t ∙ and_from (tx_in t (standby_members streams)) (committed_in (log_of streams n) t) (found.members t s) (here (member_is cuts t (found.members t s)))
      where
        prepared : prepared_in (log_of (logs_left splits before h after none_kept) n) t ≡ true
        prepared =
            let k = (found_cuts splits before after h f.legal).cut n in
            prepared_cut k.0 (log_of (logs_left splits before h after none_kept) n) t (subst (λ z. prepared_in z t ≡ true) k.1 (doubt_prepared n (log_of before n) t d))

        inside : n < length (logs_left splits before h after none_kept)
        inside = let e = left_length splits before h after none_kept in omega (arith, e, i)

        named : (g : Home (logs_left splits before h after none_kept) t) → nat_in n (g.at ∷ g.parts) ≡ true
        named g = at (n == g.at) refl
          where
            at : (b : Bool) → (n == g.at) ≡ b → ((n == g.at) || nat_in n g.parts) ≡ true
            at true e = or_left (n == g.at) _ e
            at false e = or_right (n == g.at) _ (named_part (logs_left splits before h after none_kept) t g.at n g.parts inside g.agrees e (prepared_stays (log_of (logs_left splits before h after none_kept) n) t prepared))

        here : IsMember cuts t → committed_in (log_of streams n) t ≡ true
        here m = nat_at (λ s. committed_in (log_of streams s) t) n ((m.home).at ∷ (m.home).parts) (and_from _ _ (m.come).at_home (m.come).at_parts) (named m.home)

    picked_found : (t : TxId) → tx_in t (in_doubt n (log_of before n)) ≡ true → pick t ≡ true → committed_somewhere before t ≡ true
    picked_found t d p =
        somewhere_at_opening f.legal none_kept n t i (doubted_is_old splits before n f.legal.opens (log_found f.legal n i) t d)
        (from_stream cuts n t (and_parts (tx_in t (standby_members streams)) _ (sym (pick_is t) ∙ p)).1)

    begins_at : share_of before n ≡ map_found n (log_of before n) pick
    begins_at =
        fold_standing (committed_somewhere before) (λ t. committed_in (log_of before n) t || (tx_in t (in_doubt n (log_of before n)) && pick t)) (log_of before n) []
        (λ t w. same_truth (committed_somewhere before t) (committed_in (log_of before n) t || (tx_in t (in_doubt n (log_of before n)) && pick t))
        (λ s. ⊎_elim (λ a. or_left (committed_in (log_of before n) t) _ a) (λ a. or_right (committed_in (log_of before n) t) _ (and_from _ _ a (doubted_picked t a s))) (writer_known splits before n t f.legal.opens w s))
        (λ s. ⊎_elim (λ a. at_somewhere before n t a) (λ a. let d = and_parts (tx_in t (in_doubt n (log_of before n))) _ a in picked_found t d.0 d.1)
        (or_cases (committed_in (log_of before n) t) (tx_in t (in_doubt n (log_of before n)) && pick t) s)))

    -- ---- what was done

    none_later : (t : TxId) → tx_in t (requests_of moment.rest) ≡ true → pick t ≡ false
    none_later t j = false_from_ne_true (pick t) (λ p. twice (asked_by moment.rest t j) p)
      where
        twice : Asks t moment.rest → pick t ≡ true → ⊥
        twice (x, a, q) p =
            let e = is_request t (x.1).event (x.1).outcome q in
            let run = request_run splits before after h x t f.legal.legal (subst (Among x) moment.split (among_right x moment.so_far moment.rest a)) q in
            let r = had_asked splits before after h f.legal n i c moment t p run in
            nothing_after splits before after h f.legal moment.so_far moment.rest moment.split t (r.0, r.2, asks r.0 r.1 r.3) x a (ap tx_of e.1) (subst (λ z. works_on t.serial z ≡ true) (sym e.1) (eq-eqb t.serial t.serial refl))
          where
            asks : (r : Placed) (ts : List (ℕ × ℕ)) → IsRequest t ts r → request_of (r.1).event (r.1).outcome ≡ Some t
            asks r ts s = ap (λ z. request_of z (r.1).outcome) s.0 ∙ ap (request_of (RequestEvent t ts)) s.1

    names : filter pick (requests_of moment.so_far) ≡ filter (λ t. committed_in (log_of streams n) t) (filter (λ t. tx_in t (standby_members streams)) (requests_of h))
    names =
        sym (append-nil (filter pick (requests_of moment.so_far)))
        ∙ ap (λ l. filter pick (requests_of moment.so_far) ++ l) (sym (none_pass pick (requests_of moment.rest) none_later))
        ∙ sym (filter-append pick (requests_of moment.so_far) (requests_of moment.rest))
        ∙ ap (filter pick) (sym (requests_append moment.so_far moment.rest) ∙ ap requests_of moment.split)
        ∙ filter_alike pick (λ t. tx_in t (standby_members streams) && committed_in (log_of streams n) t) (requests_of h) pick_is
        ∙ filter_both (λ t. tx_in t (standby_members streams)) (λ t. committed_in (log_of streams n) t) (requests_of h)

    asked_there : (t : TxId) → tx_in t (filter pick (requests_of moment.so_far)) ≡ true → Asks t moment.so_far
    asked_there t j = asked_by moment.so_far t (in_filter pick t (requests_of moment.so_far) j).0

    idle : AllIdle (filter pick (requests_of moment.so_far)) (map (λ x. Did x) (found_items n (log_of before n)))
    idle t j =
        let y = asked_there t j in
        let run = request_run splits before after h y.0 t f.legal.legal (subst (Among y.0) moment.split (among_left y.0 moment.so_far moment.rest y.1)) y.2 in
        idle_among (IsOld (run_after before)) t (map (λ x. Did x) (found_items n (log_of before n))) (deeds_are_old splits before n f.legal.opens (log_found f.legal n i)) (λ old. omega (arith, old, run))

    replays_then : ReplaysTo (map_found n (log_of before n) pick) (map (λ t. part_on n (shard_acts_in t moment.so_far)) (filter pick (requests_of moment.so_far))) (share_shown (standby_members streams) streams n)
    replays_then =
        let done = (deeds_before before moment.so_far after n).done in
        let did = map (λ x. Did x) (found_items n (log_of before n)) in
        let ps = filter pick (requests_of moment.so_far) in
        let told = λ (t : TxId). (deeds_are_told before moment.so_far after n t).0 in
        let r = later_replay n (run_after before) (log_of before n) (with_found n (log_of before n) (deeds_before before moment.so_far after n)) (state_before before moment.so_far after n) moment.cut pick (requests_of moment.so_far)
        (each_shard_leads splits before h after moment.so_far moment.rest n f.legal moment.split i) moment.above (may_choose splits before after h f.legal n i c moment) refl
        (go_in_order_by splits before after h f.legal moment.so_far moment.rest moment.split n i pick) in
        let acts = acts_are n moment.so_far done ps told ∙ sym (acts_later ps did done idle) in
        let answers = answers_are n moment.so_far done ps told ∙ sym (answers_later ps did done idle) in (
          ap (replay_answers (map_found n (log_of before n) pick)) acts ∙ r.0 ∙ sym answers,
          ap (replay_map (map_found n (log_of before n) pick)) acts ∙ r.1 ∙ ends_at,
        )

    replays_on : ReplaysTo (share_of before n) (map (part_on n) (map (λ t. filter (on_shards (λ s. committed_in (log_of streams s) t)) (shard_acts_in t h)) (members_in streams h))) (share_shown (standby_members streams) streams n)
    replays_on =
        subst (λ m. ReplaysTo m (map (part_on n) (map (λ t. filter (on_shards (λ s. committed_in (log_of streams s) t)) (shard_acts_in t h)) (members_in streams h))) (share_shown (standby_members streams) streams n)) (sym begins_at)
        (subst (λ ts. ReplaysTo (map_found n (log_of before n) pick) ts (share_shown (standby_members streams) streams n)) (sym (parts_kept (λ t s. committed_in (log_of streams s) t) (λ t. shard_acts_in t h) n (members_in streams h)))
        (with_idle (λ t. part_on n (shard_acts_in t h)) (λ t. committed_in (log_of streams n) t) (members_in streams h) (map_found n (log_of before n) pick) (share_shown (standby_members streams) streams n)
        (subst (λ ts. ReplaysTo (map_found n (log_of before n) pick) (map (λ t. part_on n (shard_acts_in t h)) ts) (share_shown (standby_members streams) streams n)) names
        (subst (λ ts. ReplaysTo (map_found n (log_of before n) pick) ts (share_shown (standby_members streams) streams n))
        (map_same (λ t. part_on n (shard_acts_in t moment.so_far)) (λ t. part_on n (shard_acts_in t h)) (filter pick (requests_of moment.so_far))
        (λ t j. ap (part_on n) (sym (same_acts splits before after h f.legal moment.so_far moment.rest moment.split t (asked_there t j)))))
        replays_then))))

-- ---- all shards

all_map : {A : Type 0} (P : A → Type 0) (g : TxId → A) (ts : List TxId) → ((t : TxId) → tx_in t ts ≡ true → P (g t)) → AllByRecursion P (map g ts)
all_map P g [] k = tt
all_map P g (t ∷ ts) k = (k t (or_left (tx_same t t) (tx_in t ts) (tx_self t)), all_map P g ts (λ u j. k u (or_right (tx_same t u) (tx_in u ts) j)))

map_twice : {A B : Type 0} (g : A → B) (e : TxId → A) (ts : List TxId) → map g (map e ts) ≡ map (λ t. g (e t)) ts
map_twice g e [] = refl
map_twice g e (t ∷ ts) = ap (λ l. g (e t) ∷ l) (map_twice g e ts)

shown_map : (set : List TxId) (streams : List (List LogRecord)) (m : KeyMap) → shown_with set streams ≡ Some m → shown_from set streams [] ≡ m
shown_map set streams m e = at (list_all (is_shown set) streams) e
  where
    at : (b : Bool) → cond {A = Option KeyMap} b (Some (shown_from set streams [])) None ≡ Some m → shown_from set streams [] ≡ m
    at true q = cc
    at false q = absurd cc

pub shown_is_serial : ShownIsSerial
shown_is_serial splits before after streams h m f found e =
    let set = standby_members streams in
    let left = logs_left splits before h after none_kept in
    let acts : TxId → List ShardAct = λ t. filter (on_shards (λ s. committed_in (log_of streams s) t)) (shard_acts_in t h) in
    let ts = map acts (members_in streams h) in
    let are = f.legal.legal.splits_rise in
    let r = replay_by_shards splits (stands before) (shown_from set streams []) (share_of before) (share_shown set streams) ts are
    (logs_agree splits before are (f.legal.legal.each_log.0, only_passes splits 0 before (and_parts (all_logs_from 0 (log_passes splits) before) (is_none (apart before)) f.legal.opens).0))
    (shown_shares splits set streams are f.each passes)
    (all_map (λ t. AllByRecursion (LiesIn splits) t) acts (members_in streams h) (λ t j. all_kept (LiesIn splits) (on_shards (λ s. committed_in (log_of streams s) t)) (shard_acts_in t h)
    (acts_lie splits t h (λ x k. (in_a_shard splits before after h x f.legal.legal k, offered splits before after h x f.legal.legal k)))))
    (all_map (λ t. goes_whole t ≡ true) acts (members_in streams h) (λ t j. kept_goes_whole (λ s. committed_in (log_of streams s) t) (shard_acts_in t h) (goes t (in_filter (λ u. tx_in u set) t (requests_of h) j).0)))
    (λ n i. replays_on splits before after streams h f found n i) in
    subst (λ l. ReplaysTo (stands before) l m) (map_twice whole acts (members_in streams h)) (subst (ReplaysTo (stands before) (map whole ts)) (shown_map set streams m e) r)
  where
    goes : (t : TxId) → tx_in t (requests_of h) ≡ true → goes_whole (shard_acts_in t h) ≡ true
    goes t j =
        let y = asked_by h t j in
        let a = is_request t ((y.0).1).event ((y.0).1).outcome y.2 in
        requests_go_whole splits before h after (y.0).0 (y.0).1 t a.0 f.legal.legal (among_is (y.0).0 (y.0).1 h y.1) a.1 a.2

    passes : all_logs_from 0 (λ n log. list_all (passes_file_rules splits n) log) streams ≡ true
    passes = all_logs (λ n log. list_all (passes_file_rules splits n) log) 0 streams each
      where
        each : (n : ℕ) → n < length streams → list_all (passes_file_rules splits (0 + n)) (log_of streams n) ≡ true
        each n l =
            let k = (fed_cuts f).cut n in
            let left = logs_left splits before h after none_kept in
            let w = left_length splits before h after none_kept in
            let c = f.each in
            subst (λ z. list_all (passes_file_rules splits (0 + n)) z ≡ true) (sym k.1)
            (all_taken (passes_file_rules splits (0 + n)) k.0 (log_of (logs_left splits before h after none_kept) n)
            (passes_at (λ n log. list_all (passes_file_rules splits n) log) 0 n (logs_left splits before h after none_kept) (logs_left_pass splits before h after none_kept f.legal) (omega (arith, w, c, l))))
