-- Where two operations of members meet, the earlier is of the same member or of one at an earlier place; and nobody is between one and its going
-- back.
use Rattle.std.proofs.Common.{◌≡◌, ◌⊎◌, inl, inr, ⊎_elim, sym, subst, ℕ, ◌<◌, true, Bool, List, ◌++◌, ◌==◌, arith, refl, ap, ◌∙◌, cond, [], ◌∷◌}
use Rattle.std.specs.List.{filter, AllByRecursion}
use Rattle.std.proofs.lemmas.Bool.{false_from_ne_true}
use Rattle.std.proofs.lemmas.List.Elements.{filter-append}
use Rattle.clv_base.specs.declared.names.TxId.{TxId}
use Rattle.clv_base.specs.declared.logs.LogRecord.{LogRecord}
use Rattle.clv_base.specs.Orders.{tx_in}
use Rattle.clv_base.specs.Shards.{shard_count}
use Rattle.clv_base.specs.LogRules.{log_of}
use Rattle.clv_base.specs.Restarts.{run_after}
use Rattle.clv_base.specs.Journals.{History}
use Rattle.law_base.proofs.Sets.{in_filter}
use Rattle.law_base.proofs.Lists.{all_mono, all_filter}
use Rattle.history_laws.specs.Openings.{LegalFrom}
use Rattle.history_laws.specs.Continuing.{serial_left}
use Rattle.law_base.specs.Items.{AllLater, Clash, Deed, Did, WentBack}
use Rattle.shard_laws.specs.OneShard.{found_asked, place, doer, items_in}
use Rattle.shard_laws.proofs.Cuts.MembersRunSerially.{in_kept}
use Rattle.shard_laws.proofs.Keeping.LeavingKeeps.{in_more}
use Rattle.history_laws.specs.Places.{transactions_of, StandsBefore}
use Rattle.history_laws.proofs.Entries.LowerPlacesStandBefore.{placed_before}
use Rattle.fate_laws.specs.Leading.{deeds_before, requests_of}
use Rattle.fate_laws.proofs.EachShardLeads.DoubtedAreEarlier.{asked_are_old}
use Rattle.headline_laws.proofs.MembersReplayWhereHere.WhoIsAMember.{chosen, chosen_are_members}
use Rattle.history_laws.proofs.Logs.FoundLogsInOrder.{log_found}
use Rattle.crash_laws.specs.Acts.{Act, Meet, member_acts, MeetingsFollowPlaces, NobodyBetween}
use Rattle.crash_laws.proofs.Acts.ActsByShards.{later_by_shard}
use Rattle.crash_laws.proofs.Acts.MembersActOnShards.{IsFine, members_are_fine, chosen_member, deeds_run, chosen_acts, acted, picks}
use Rattle.crash_laws.proofs.Acts.ActsAreDeeds.{meets_none, later_told, clash_of, between_told}
use Rattle.crash_laws.proofs.Acts.ShardsHoldTheActs.{on, shard_on, on_shard, IsThere, meet_apart, between_all}
use Rattle.headline_laws.proofs.PredecessorsStandBeforeWhereHere.{stands_later}
use Rattle.serial_laws.specs.Shares.{LiesIn}

-- the acts on a shard, by the shard of each
same_on : (n : ℕ) (as_ : List Act) → on n as_ ≡ filter (λ a. shard_on a.done == n) as_
same_on n [] = refl
same_on n (a ∷ as_) = ap (λ b. cond b (a ∷ on n as_) (on n as_)) (on_shard n a.done) ∙ ap (λ l. cond (shard_on a.done == n) (a ∷ l) l) (same_on n as_)

-- ---- who is none of the first ones stands behind them

module _ {splits : List ℕ} {before after : List (List LogRecord)} {h : History} (l : LegalFrom splits before h after) (choice : ℕ → Bool)
  where
    abbrev Follows : Act → Act → Type 0
    Follows a b = Meet a b → (a.tx ≡ b.tx) ⊎ StandsBefore a.tx b.tx (transactions_of (serial_left splits before h after choice))

    abbrev WhoIs : TxId → Type 0
    WhoIs t = (t.run ≡ run_after before) × (tx_in t (transactions_of (serial_left splits before h after choice)) ≡ true)

    -- ---- on one shard

    by_place : (n : ℕ) → n < shard_count splits → (p t : TxId) → p.run ≡ run_after before → t.run ≡ run_after before → tx_in t (transactions_of (serial_left splits before h after choice)) ≡ true
        → place (filter (chosen splits before h after choice n) (found_asked n (log_of before n) ++ requests_of h)) p < place (filter (chosen splits before h after choice n) (found_asked n (log_of before n) ++ requests_of h)) t
        → StandsBefore p t (transactions_of (serial_left splits before h after choice))
    by_place n i p t rp rt k less =
        let pick = chosen splits before h after choice n in
        let found = found_asked n (log_of before n) in
        let names = chosen_are_members l choice n i in
        let q = in_filter pick t (requests_of h) (subst (λ ts. tx_in t ts ≡ true) names k) in
        let there = in_kept pick (found ++ requests_of h) t (in_more found (requests_of h) t q.0) q.1 in
        let b = subst (StandsBefore p t) (filter-append pick found (requests_of h)) (placed_before p t (filter pick (found ++ requests_of h)) less there) in
        subst (StandsBefore p t) (sym names) (stands_later p t (filter pick found) (filter pick (requests_of h))
        (false_from_ne_true _ (λ j. absurd (let old = asked_are_old splits before n l.opens (log_found l n i) p (in_filter pick p found j).0 in omega (arith, old, rp)))) b)

    on_one : (n : ℕ) → n < shard_count splits → AllLater Follows (on n (member_acts splits before h after choice))
    on_one n i =
        subst (AllLater Follows) (chosen_acts l choice n i)
        (later_told n (λ x. WhoIs x.tx) (λ x y. Clash x y → (x.tx ≡ y.tx) ⊎ (place asked x.tx < place asked y.tx)) Follows (λ a b k m. absurd (meets_none a b k m))
        (λ x y p q r m. ⊎_elim (λ e. inl e) (λ less. inr (by_place n i x.tx y.tx p.0 q.0 q.1 less)) (r (clash_of n x y m)))
        (picks l choice n i) (items_placed (picks l choice n i) placed) (acted l choice n i).2)
      where
        asked : List TxId
        asked = filter (chosen splits before h after choice n) (found_asked n (log_of before n) ++ requests_of h)

        placed : AllByRecursion (λ d. WhoIs (doer d)) (picks l choice n i)
        placed =
            all_mono _ _ (λ d p. (p.0, subst (λ b. b ≡ true) (chosen_member l choice n i (doer d) p.0) p.1)) (picks l choice n i)
            (all_filter (λ d. (doer d).run ≡ run_after before) (λ d. chosen splits before h after choice n (doer d)) (deeds_before before h after n).done (deeds_run l choice n i))

        items_placed : (ds : List Deed) → AllByRecursion (λ d. WhoIs (doer d)) ds → AllByRecursion (λ x. WhoIs x.tx) (items_in ds)
        items_placed [] a = tt
        items_placed (Did x ∷ ds) a = (a.0, items_placed ds a.1)
        items_placed (WentBack tx number upto ∷ ds) a = items_placed ds a.1

    pub between_one : (n : ℕ) → n < shard_count splits → NobodyBetween [] (on n (member_acts splits before h after choice))
    between_one n i = subst (NobodyBetween []) (chosen_acts l choice n i) (between_told n [] (picks l choice n i) (acted l choice n i).3)

    -- ---- on all

    each_there : AllByRecursion (IsThere splits) (member_acts splits before h after choice)
    each_there = all_mono (IsFine splits before) (IsThere splits) (λ a p. p.1) (member_acts splits before h after choice) (members_are_fine splits before h after choice l.legal)

    on_all : AllLater Follows (member_acts splits before h after choice)
    on_all =
        later_by_shard (λ a. shard_on a.done) (λ a. LiesIn splits a.done) Follows (λ a b p q n m. absurd (n (meet_apart splits a b l.legal.splits_rise p q m))) (shard_count splits) (member_acts splits before h after choice) each_there
        (λ n i. subst (AllLater Follows) (same_on n (member_acts splits before h after choice)) (on_one n i))

    between_everywhere : NobodyBetween [] (member_acts splits before h after choice)
    between_everywhere = between_all splits l.legal.splits_rise [] (member_acts splits before h after choice) tt each_there between_one

pub meetings_follow_places : MeetingsFollowPlaces
meetings_follow_places splits before h after choice l = (on_all l choice, between_everywhere l choice)
