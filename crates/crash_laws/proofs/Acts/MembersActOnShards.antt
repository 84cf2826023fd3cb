-- What the members did on one shard of a legal history.
use Rattle.std.proofs.Common.{◌≡◌, inl, inr, refl, sym, ap, subst, ◌∙◌, ℕ, ◌<◌, true, cond, Bool, List, [], ◌∷◌, ◌++◌, map, Some, arith}
use Rattle.std.specs.Prelude.{unwrap_or}
use Rattle.std.specs.List.{AllByRecursion, filter}
use Rattle.clv_base.specs.declared.names.TxId.{TxId}
use Rattle.clv_base.specs.declared.logs.LogRecord.{LogRecord}
use Rattle.clv_base.specs.declared.events.Event.{Event}
use Rattle.clv_base.specs.declared.events.Event.TheVariants.{Op as OpEvent, RollTo}
use Rattle.clv_base.specs.declared.events.Outcome.{Outcome}
use Rattle.clv_base.specs.declared.events.Outcome.TheVariants.{Answered, Rolled}
use Rattle.clv_base.specs.LogRules.{log_of}
use Rattle.clv_base.specs.Shards.{shard_count}
use Rattle.clv_base.specs.Restarts.{run_after}
use Rattle.clv_base.specs.Journals.{History, final_of}
use Rattle.clv_base.specs.History.{Legal, logs_left}
use Rattle.protocol_laws.specs.SessionLaws.{tx_of}
use Rattle.history_cases.proofs.Merging.{Placed, Among}
use Rattle.history_cases.proofs.Worlds.{in_a_shard}
use Rattle.history_laws.specs.Openings.{LegalFrom}
use Rattle.history_laws.proofs.Logs.FoundLogsInOrder.{log_found}
use Rattle.history_laws.proofs.NeverTakenBack.{walker_of}
use Rattle.law_base.specs.Items.{after, Deed, held, Acts as ActsOf}
use Rattle.law_base.proofs.Lists.{all_mono, filters_swap, all_filter}
use Rattle.shard_laws.specs.OneShard.{found_asked, map_found, doer, deeds_by_chosen, AskInOrder, NobodyBetween}
use Rattle.shard_laws.proofs.ChosenAct.{chosen_act}
use Rattle.history_laws.proofs.Logs.CutsKeepTheDurable.{cut_above}
use Rattle.fate_laws.specs.Members.{is_member}
use Rattle.fate_laws.proofs.Homes.DecidedStaysDecided.{commits_are_members}
use Rattle.history_laws.proofs.Logs.DoubtedAreUndecided.{doubted_is_old}
use Rattle.history_laws.proofs.LogsLeftPass.SessionsOfferOwnKeys.{OffersBy, Offers, offered}
use Rattle.fate_laws.specs.Leading.{deeds_before, with_found, requests_of}
use Rattle.headline_laws.specs.Shares.{share_of}
use Rattle.headline_laws.proofs.MembersReplayWhereHere.WhoIsAMember.{chosen, Chosen, of_chosen, is_chosen}
use Rattle.headline_laws.proofs.MembersReplayWhereHere.{leads, fronts, may_choose, ends}
use Rattle.headline_laws.proofs.MembersReplay.{members_are_found}
use Rattle.crash_laws.specs.Acts.{Act, act_of, with_act, acts, member_acts}
use Rattle.crash_laws.proofs.Acts.ActsByShards.{filter_map_is, filter_where, all_of_map}
use Rattle.crash_laws.proofs.Acts.ActsAreDeeds.{told, deeds_are_acts, told_tx}
use Rattle.crash_laws.proofs.Acts.ShardsHoldTheActs.{on, IsThere}
use Rattle.law_base.proofs.Bools.{same_truth as same_test}
use Rattle.serial_laws.specs.Shares.{is_on}

-- ---- each act is of this run, and on its shard's keys

abbrev pub IsFine : List ℕ → List (List LogRecord) → Act → Type 0
IsFine splits before a = ((a.tx).run ≡ run_after before) × IsThere splits a

one_fine : (splits : List ℕ) (before : List (List LogRecord)) (n : ℕ) (e : Event) (o : Outcome) (as_ : List Act) → n < shard_count splits → OffersBy splits n e o → ((t : TxId) → tx_of e ≡ Some t → t.run ≡ run_after before)
    → AllByRecursion (IsFine splits before) as_ → AllByRecursion (IsFine splits before) (with_act (act_of n e o) as_)
one_fine splits before n (OpEvent tx birth nth seen op) (Answered answer epoch) as_ l k r a = ((r tx refl, ((l, k), l)), a)
one_fine splits before n (OpEvent tx birth nth seen op) _ as_ l k r a = a
one_fine splits before n (RollTo tx nth seen upto) Rolled as_ l k r a = ((r tx refl, (tt, l)), a)
one_fine splits before n (RollTo tx nth seen upto) _ as_ l k r a = a
one_fine splits before n _ o as_ l k r a = a

each_fine : (splits : List ℕ) (before : List (List LogRecord)) (es : History) → ((e : Placed) → Among e es → (e.0 < shard_count splits) × Offers splits e × ((t : TxId) → tx_of (e.1).event ≡ Some t → t.run ≡ run_after before))
    → AllByRecursion (IsFine splits before) (acts es)
each_fine splits before [] k = tt
each_fine splits before (e ∷ es) k =
    let p = k e (inl refl) in one_fine splits before e.0 (e.1).event (e.1).outcome (acts es) p.0 p.1 p.2 (each_fine splits before es (λ x i. k x (inr i)))

pub acts_are_fine : (splits : List ℕ) (before : List (List LogRecord)) (h : History) (after : List (List LogRecord)) → Legal splits before h after → AllByRecursion (IsFine splits before) (acts h)
acts_are_fine splits before h after l =
    each_fine splits before h (λ e i. (in_a_shard splits before after h e l i, offered splits before after h e l i, (λ t q. (walker_of splits before after h e t l i q).0)))

pub members_are_fine : (splits : List ℕ) (before : List (List LogRecord)) (h : History) (after : List (List LogRecord)) (choice : ℕ → Bool) → Legal splits before h after → AllByRecursion (IsFine splits before) (member_acts splits before h after choice)
members_are_fine splits before h after choice l =
    all_mono _ (IsFine splits before) (λ a p. p.0) (member_acts splits before h after choice) (all_filter (IsFine splits before) (λ a. is_member splits before h after choice a.tx) (acts h) (acts_are_fine splits before h after l))

module _ {splits : List ℕ} {before after_ : List (List LogRecord)} {h : History} (l : LegalFrom splits before h after_) (choice : ℕ → Bool)
    (n : ℕ) (i : n < shard_count splits) where
  -- of this run the chosen ones are the members
  pub chosen_member : (t : TxId) → t.run ≡ run_after before → chosen splits before h after_ choice n t ≡ is_member splits before h after_ choice t
  chosen_member t r = same_test (chosen splits before h after_ choice n t) (is_member splits before h after_ choice t) (λ c. back (of_chosen splits before h after_ choice n t c)) (λ k. is_chosen splits before h after_ choice n t (inl k))
    where
      back : Chosen splits before h after_ choice n t → is_member splits before h after_ choice t ≡ true
      back (inl a) = a
      back (inr (inl a)) = commits_are_members splits before h after_ choice n t l i r a
      back (inr (inr a)) =
          let d = doubted_is_old splits before n l.opens (log_found l n i) t a.0 in absurd (omega (arith, r, d))

  pub deeds_run : AllByRecursion (λ d. (doer d).run ≡ run_after before) (deeds_before before h after_ n).done
  deeds_run =
      all_mono _ (λ d. (doer d).run ≡ run_after before) (λ d p. subst (λ t. t.run ≡ run_after before) (told_tx n d) p) (deeds_before before h after_ n).done
      (all_of_map (λ a. (a.tx).run ≡ run_after before) (told n) (deeds_before before h after_ n).done
      (subst (AllByRecursion (λ a. (a.tx).run ≡ run_after before)) (sym (deeds_are_acts before h after_ n))
      (all_mono _ (λ a. (a.tx).run ≡ run_after before) (λ a p. (p.0).0) (on n (acts h)) (all_filter (IsFine splits before) (λ a. is_on n a.done) (acts h) (acts_are_fine splits before h after_ l.legal)))))

  -- what the chosen ones did here
  abbrev pub picks : List Deed
  picks = deeds_by_chosen (chosen splits before h after_ choice n) (deeds_before before h after_ n).done

  -- is what the members did
  pub chosen_acts : map (told n) picks ≡ on n (member_acts splits before h after_ choice)
  chosen_acts =
      ap (map (told n)) (filter_where (λ d. (doer d).run ≡ run_after before) (λ d. chosen splits before h after_ choice n (doer d)) (λ d. is_member splits before h after_ choice (doer d)) (λ d r. chosen_member (doer d) r) (deeds_before before h after_ n).done deeds_run)
      ∙ sym (filter_map_is (told n) (λ a. is_member splits before h after_ choice a.tx) (λ d. is_member splits before h after_ choice (doer d)) (λ d. ap (is_member splits before h after_ choice) (told_tx n d)) (deeds_before before h after_ n).done)
      ∙ ap (filter (λ a. is_member splits before h after_ choice a.tx)) (deeds_are_acts before h after_ n)
      ∙ filters_swap (λ a. is_member splits before h after_ choice a.tx) (λ a. is_on n a.done) (acts h)

  -- the law of one shard
  pub acted : ActsOf (map_found n (log_of before n) (chosen splits before h after_ choice n)) picks
      × (after (map_found n (log_of before n) (chosen splits before h after_ choice n)) (held picks) ≡ share_of (logs_left splits before h after_ choice) n)
      × AskInOrder (filter (chosen splits before h after_ choice n) (found_asked n (log_of before n) ++ requests_of h)) picks
      × NobodyBetween [] picks
  acted =
      let s = final_of before h after_ n in
      let d = deeds_before before h after_ n in
      let found = log_of before n in
      let pick = chosen splits before h after_ choice n in
      let here : (m : ℕ) (t : TxId) → m < shard_count splits → is_member splits before h after_ choice t ≡ true → _ = λ m t j k. members_are_found splits before h after_ choice m t l j k in
      let r = chosen_act n (run_after before) found (with_found n found d) s (cond (choice n) (unwrap_or s.flight s.durable) s.durable) pick d.done (leads l choice n i)
      (cut_above s (choice n) (fronts l choice n i).counted) (may_choose l choice here n i) refl in
      (r.0, r.1 ∙ ends l choice here n i, r.2, r.3)
