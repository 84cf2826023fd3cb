-- Up to the moment at which a transaction had made its request it had done all that it did, and goes back in order.
use Rattle.std.proofs.Common.{◌≡◌, inl, inr, ⊎_elim, ℕ, ◌<◌, arith, Bool, true, false, cond, ◌==◌, List, [], ◌∷◌, ◌++◌, map, Option, Some, None, refl, sym, ap, subst, ◌∙◌, append-nil}
use Rattle.std.specs.List.{AllByRecursion, filter}
use Rattle.clv_base.specs.declared.names.TxId.{TxId}
use Rattle.clv_base.specs.declared.logs.LogRecord.{LogRecord}
use Rattle.clv_base.specs.Orders.{tx_same, tx_in}
use Rattle.clv_base.specs.Shards.{shard_count}
use Rattle.clv_base.specs.Backs.{are_numbered}
use Rattle.clv_base.specs.Logs.{StandingUpdate, standing, in_doubt}
use Rattle.clv_base.specs.LogRules.{log_of}
use Rattle.clv_base.specs.Restarts.{run_after}
use Rattle.clv_base.specs.Journals.{History}
use Rattle.clv_base.specs.History.{DoneAct, act_of}
use Rattle.law_base.specs.Items.{Item, Deed, Did}
use Rattle.law_base.proofs.Lists.{all_append}
use Rattle.law_base.proofs.Sets.{in_filter}
use Rattle.protocol_laws.specs.SessionLaws.{tx_of, works_on}
use Rattle.serial_laws.specs.Shares.{goes_whole}
use Rattle.shard_laws.specs.OneShard.{doer, act_of_deed, deeds_of, found_items, items_found, found_item, found_asked, GoBackInOrder}
use Rattle.shard_laws.proofs.Keeping.LeavingKeeps.{in_two}
use Rattle.history_cases.proofs.Merging.{Placed, Among, Precedes, in_order, among_left, among_right, among_is, front_precedes, precedes_before}
use Rattle.history_laws.specs.Openings.{LegalFrom}
use Rattle.history_laws.specs.Going.{shard_acts_in}
use Rattle.history_laws.specs.Telling.{told_in, told_by}
use Rattle.history_laws.proofs.NeverTakenBack.{walker_of, is_request, IsAct, operates, goes_back, is_act}
use Rattle.history_laws.proofs.RequestsGoWhole.{requests_go_whole}
use Rattle.history_laws.proofs.Logs.FoundLogsInOrder.{log_found}
use Rattle.history_laws.proofs.Entries.AllFromEach.{all_in}
use Rattle.fate_laws.specs.Leading.{deeds_before, requests_of}
use Rattle.fate_laws.specs.FallTelling.{own_entries}
use Rattle.fate_laws.proofs.History.EntriesInTurn.{no_work}
use Rattle.fate_laws.proofs.Origins.FrontsKeepOrigins.{IsOld}
use Rattle.fate_laws.proofs.EachShardLeads.DoubtedAreEarlier.{deeds_are_old, asked_are_old}
use Rattle.fate_laws.proofs.DeedsAreTold.{deeds_are_told}
use Rattle.headline_laws.proofs.MembersReplayWhereHere.WhoIsAMember.{Asks, asked_by, request_run}
use Rattle.headline_laws.proofs.MembersReplayByParts.DeedsAreParts.{deeds_more, idle_among, found_in_order, goes_in_order}
use Rattle.standby_laws.proofs.Parts.{acts_append, no_acts}

found_numbers : (doubt : TxId → Bool) (ws : List StandingUpdate) → AllByRecursion (λ (x : Item). x.number ≡ 0) (items_found doubt ws)
found_numbers doubt [] = tt
found_numbers doubt (w ∷ ws) = at (doubt w.tx) (found_numbers doubt ws)
  where
    at : (b : Bool) → AllByRecursion (λ (x : Item). x.number ≡ 0) (items_found doubt ws) → AllByRecursion (λ (x : Item). x.number ≡ 0) (cond b (items_found doubt ws ++ found_item w ∷ []) (items_found doubt ws))
    at true a = all_append (λ (x : Item). x.number ≡ 0) (items_found doubt ws) (found_item w ∷ []) a (refl, tt)
    at false a = a

deeds_first : (t : TxId) (xs ys : List Deed) → deeds_of t ys ≡ [] → deeds_of t (xs ++ ys) ≡ deeds_of t xs
deeds_first t [] ys e = e
deeds_first t (x ∷ xs) ys e = ap (λ l. cond (tx_same (doer x) t) (x ∷ l) l) (deeds_first t xs ys e)

no_deeds : (ds : List Deed) → map told_by ds ≡ [] → ds ≡ []
no_deeds [] e = refl
no_deeds (d ∷ ds) e = absurd cc

module _ (splits : List ℕ) (before after : List (List LogRecord)) (h : History) (l : LegalFrom splits before h after) (so_far rest : History) (split : so_far ++ rest ≡ h) where
  first : (x : Placed) → Among x so_far → Among x h
  first x i = subst (Among x) split (among_left x so_far rest i)

  second : (x : Placed) → Among x rest → Among x h
  second x i = subst (Among x) split (among_right x so_far rest i)

  -- who has asked does nothing later
  pub nothing_after : (t : TxId) → Asks t so_far → (x : Placed) → Among x rest → tx_of (x.1).event ≡ Some t → works_on t.serial (x.1).event ≡ true → ⊥
  nothing_after t (r, i, q) x j e w =
      let a = is_request t (r.1).event (r.1).outcome q in
      no_work splits before after h r x t a.0 l.legal
      (record { first = first r i; second = second x j; before = precedes_before r x h (in_order h l.legal.ordered) (subst (Precedes r x) split (front_precedes r x so_far rest i j)) }) (a.1, a.2) e w

  pub same_acts : (t : TxId) → Asks t so_far → shard_acts_in t h ≡ shard_acts_in t so_far
  same_acts t a =
      ap (shard_acts_in t) (sym split) ∙ acts_append t so_far rest ∙ ap (λ l. shard_acts_in t so_far ++ l) (no_acts t rest (λ x j e w. nothing_after t a x j e w)) ∙ append-nil (shard_acts_in t so_far)

  pub asked_whole : (t : TxId) → Asks t so_far → goes_whole (shard_acts_in t so_far) ≡ true
  asked_whole t (r, i, q) =
      let a = is_request t (r.1).event (r.1).outcome q in
      subst (λ xs. goes_whole xs ≡ true) (same_acts t (r, i, q)) (requests_go_whole splits before h after r.0 r.1 t a.0 l.legal (among_is r.0 r.1 h (first r i)) a.1 a.2)

  module _ (n : ℕ) (i : n < shard_count splits) where
    act_run : (t : TxId) (y : Placed) → Among y h → IsAct t (y.1).event (y.1).outcome → t.run ≡ run_after before
    act_run t y j (operates birth nth seen op a epoch ev out) = (walker_of splits before after h y t l.legal j (ap tx_of ev)).0
    act_run t y j (goes_back nth seen upto ev out) = (walker_of splits before after h y t l.legal j (ap tx_of ev)).0

    none_told : (t : TxId) → IsOld (run_after before) t → (es : History) → ((y : Placed) → Among y es → Among y h) → told_in t (own_entries n es) ≡ []
    none_told t old [] k = refl
    none_told t old (e ∷ es) k = at (e.0 == n) (none_told t old es (λ y j. k y (inr j)))
      where
        none : (o : Option DoneAct) → act_of t (e.1).event (e.1).outcome ≡ o → o ≡ None
        none None q = refl
        none (Some p) q = let r = act_run t e (k e (inl refl)) (is_act t (e.1).event (e.1).outcome p q) in absurd (omega (arith, old, r))

        at : (b : Bool) → told_in t (own_entries n es) ≡ [] → told_in t (cond b (e ∷ own_entries n es) (own_entries n es)) ≡ []
        at true a = ap (λ (o : Option DoneAct). elim o [ Some p ↦ p ∷ told_in t (own_entries n es) | None ↦ told_in t (own_entries n es) ]) (none (act_of t (e.1).event (e.1).outcome) refl) ∙ a
        at false a = a

    abbrev Goes : TxId → Type 0
    Goes t = are_numbered 0 [] (map act_of_deed (deeds_of t (map (λ x. Did x) (found_items n (log_of before n)) ++ (deeds_before before so_far after n).done))) ≡ true

    found_goes : (t : TxId) → IsOld (run_after before) t → Goes t
    found_goes t old =
        let found = found_items n (log_of before n) in
        let done = (deeds_before before so_far after n).done in
        let none : deeds_of t done ≡ [] = no_deeds (deeds_of t done) ((deeds_are_told before so_far after n t).0 ∙ none_told t old so_far first) in
        subst (λ ds. are_numbered 0 [] (map act_of_deed ds) ≡ true) (sym (deeds_first t (map (λ x. Did x) found) done none)) (found_in_order t found (found_numbers (λ u. tx_in u (in_doubt n (log_of before n))) (standing (log_of before n))))

    asked_goes : (t : TxId) → Asks t so_far → Goes t
    asked_goes t a =
        let found = found_items n (log_of before n) in
        let done = (deeds_before before so_far after n).done in
        let run = request_run splits before after h a.0 t l.legal (first a.0 a.1) a.2 in
        let idle = idle_among (IsOld (run_after before)) t (map (λ x. Did x) found) (deeds_are_old splits before n l.opens (log_found l n i)) (λ old. omega (arith, old, run)) in
        subst (λ ds. are_numbered 0 [] (map act_of_deed ds) ≡ true) (sym (deeds_more t (map (λ x. Did x) found) done idle)) (goes_in_order t n so_far done (λ u. (deeds_are_told before so_far after n u).0) (asked_whole t a))

    pub go_in_order_by : (keep : TxId → Bool) → GoBackInOrder (filter keep (found_asked n (log_of before n) ++ requests_of so_far)) (map (λ x. Did x) (found_items n (log_of before n)) ++ (deeds_before before so_far after n).done)
    go_in_order_by keep =
        all_in Goes (filter keep (found_asked n (log_of before n) ++ requests_of so_far)) (λ t j.
        ⊎_elim (λ k. found_goes t (asked_are_old splits before n l.opens (log_found l n i) t k)) (λ k. asked_goes t (asked_by so_far t k))
        (in_two (found_asked n (log_of before n)) (requests_of so_far) t (in_filter keep t (found_asked n (log_of before n) ++ requests_of so_far) j).0))
