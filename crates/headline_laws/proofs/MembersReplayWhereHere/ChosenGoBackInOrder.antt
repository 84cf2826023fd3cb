-- Those that a shard's log left in doubt, and those that asked, go back on the shard only to what they had not gone back over.
use Rattle.std.proofs.Common.{◌≡◌, inl, inr, ⊎_elim, refl, sym, ap, subst, ◌∙◌, ℕ, ◌<◌, true, false, cond, Bool, ◌==◌, arith, List, [], ◌∷◌, ◌++◌, map, Option, Some, None}
use Rattle.std.specs.List.{AllByRecursion, filter}
use Rattle.clv_base.specs.declared.names.TxId.{TxId}
use Rattle.clv_base.specs.declared.logs.LogRecord.{LogRecord}
use Rattle.clv_base.specs.Orders.{tx_same, tx_in}
use Rattle.clv_base.specs.Backs.{are_numbered}
use Rattle.clv_base.specs.Logs.{StandingUpdate, standing, in_doubt}
use Rattle.clv_base.specs.LogRules.{log_of}
use Rattle.clv_base.specs.Shards.{shard_count}
use Rattle.clv_base.specs.Restarts.{run_after}
use Rattle.clv_base.specs.Journals.{History}
use Rattle.clv_base.specs.History.{DoneAct, act_of}
use Rattle.law_base.specs.Items.{Item, Deed, Did}
use Rattle.law_base.proofs.Lists.{all_append}
use Rattle.law_base.proofs.Sets.{in_filter}
use Rattle.protocol_laws.specs.SessionLaws.{tx_of}
use Rattle.shard_laws.proofs.Keeping.LeavingKeeps.{in_two}
use Rattle.shard_laws.specs.OneShard.{GoBackInOrder, doer, deeds_of, act_of_deed, items_found, found_item, found_items, found_asked}
use Rattle.history_cases.proofs.Merging.{Placed, Among, among_is}
use Rattle.history_laws.specs.Openings.{LegalFrom}
use Rattle.history_laws.specs.Telling.{told_in, told_by}
use Rattle.history_laws.proofs.Entries.AllFromEach.{all_in}
use Rattle.history_laws.proofs.Logs.FoundLogsInOrder.{log_found}
use Rattle.history_laws.proofs.NeverTakenBack.{IsAct, operates, goes_back, is_act, is_request, walker_of}
use Rattle.history_laws.proofs.RequestsGoWhole.{requests_go_whole}
use Rattle.fate_laws.proofs.Origins.FrontsKeepOrigins.{IsOld}
use Rattle.fate_laws.specs.FallTelling.{own_entries}
use Rattle.fate_laws.specs.Leading.{deeds_before, requests_of}
use Rattle.fate_laws.proofs.EachShardLeads.DoubtedAreEarlier.{deeds_are_old, asked_are_old}
use Rattle.fate_laws.proofs.DeedsAreTold.{deeds_are_told}
use Rattle.headline_laws.proofs.MembersReplayByParts.DeedsAreParts.{goes_in_order, found_in_order, deeds_more, idle_among}
use Rattle.headline_laws.proofs.MembersReplayWhereHere.WhoIsAMember.{Asks, asked_by, request_run}

-- ---- what a log left in doubt

found_numbers : (doubt : TxId → Bool) (ws : List StandingUpdate) → AllByRecursion (λ (x : Item). x.number ≡ 0) (items_found doubt ws)
found_numbers doubt [] = tt
found_numbers doubt (w ∷ ws) = at (doubt w.tx) (found_numbers doubt ws)
  where
    at : (b : Bool) → AllByRecursion (λ (x : Item). x.number ≡ 0) (items_found doubt ws) → AllByRecursion (λ (x : Item). x.number ≡ 0) (cond b (items_found doubt ws ++ found_item w ∷ []) (items_found doubt ws))
    at true a = all_append (λ (x : Item). x.number ≡ 0) (items_found doubt ws) (found_item w ∷ []) a (refl, tt)
    at false a = a

-- who did none of the last deeds did those before
deeds_first : (t : TxId) (xs ys : List Deed) → deeds_of t ys ≡ [] → deeds_of t (xs ++ ys) ≡ deeds_of t xs
deeds_first t [] ys e = e
deeds_first t (x ∷ xs) ys e = ap (λ l. cond (tx_same (doer x) t) (x ∷ l) l) (deeds_first t xs ys e)

no_deeds : (ds : List Deed) → map told_by ds ≡ [] → ds ≡ []
no_deeds [] e = refl
no_deeds (d ∷ ds) e = absurd cc

module _ {splits : List ℕ} {before after : List (List LogRecord)} {h : History} (l : LegalFrom splits before h after) (n : ℕ)
    (i : n < shard_count splits) where
  -- ---- no entry is of a transaction of an earlier run

  act_run : (t : TxId) (y : Placed) → Among y h → IsAct t (y.1).event (y.1).outcome → t.run ≡ run_after before
  act_run t y j (operates birth nth seen op a epoch ev out) = (walker_of splits before after h y t l.legal j (ap tx_of ev)).0
  act_run t y j (goes_back nth seen upto ev out) = (walker_of splits before after h y t l.legal j (ap tx_of ev)).0

  none_told : (t : TxId) → IsOld (run_after before) t → (es : History) → ((y : Placed) → Among y es → Among y h) → told_in t (own_entries n es) ≡ []
  none_told t old [] k = refl
  none_told t old (e ∷ es) k = at (e.0 == n) (none_told t old es (λ y j. k y (inr j)))
    where
      none : (o : Option DoneAct) → act_of t (e.1).event (e.1).outcome ≡ o → o ≡ None
      none None q = refl
      none (Some p) q = let r = act_run t e (k e (inl refl)) (is_act t (e.1).event (e.1).outcome p q) in absurd (omega (arith, old, r))

      at : (b : Bool) → told_in t (own_entries n es) ≡ [] → told_in t (cond b (e ∷ own_entries n es) (own_entries n es)) ≡ []
      at true a = ap (λ (o : Option DoneAct). elim o [ Some p ↦ p ∷ told_in t (own_entries n es) | None ↦ told_in t (own_entries n es) ]) (none (act_of t (e.1).event (e.1).outcome) refl) ∙ a
      at false a = a

  abbrev Goes : TxId → Type 0
  Goes t = are_numbered 0 [] (map act_of_deed (deeds_of t (map (λ x. Did x) (found_items n (log_of before n)) ++ (deeds_before before h after n).done))) ≡ true

  found_goes : (t : TxId) → IsOld (run_after before) t → Goes t
  found_goes t old =
      let found = found_items n (log_of before n) in
      let done = (deeds_before before h after n).done in
      let none : deeds_of t done ≡ [] = no_deeds (deeds_of t done) ((deeds_are_told before h after n t).0 ∙ none_told t old h (λ y j. j)) in
      subst (λ ds. are_numbered 0 [] (map act_of_deed ds) ≡ true) (sym (deeds_first t (map (λ x. Did x) found) done none)) (found_in_order t found (found_numbers (λ u. tx_in u (in_doubt n (log_of before n))) (standing (log_of before n))))

  asked_goes : (t : TxId) → Asks t h → Goes t
  asked_goes t (x, j, q) =
      let found = found_items n (log_of before n) in
      let done = (deeds_before before h after n).done in
      let run = request_run splits before after h x t l.legal j q in
      let r = is_request t (x.1).event (x.1).outcome q in
      let whole = requests_go_whole splits before h after x.0 x.1 t r.0 l.legal (among_is x.0 x.1 h j) r.1 r.2 in
      let idle = idle_among (IsOld (run_after before)) t (map (λ x. Did x) found) (deeds_are_old splits before n l.opens (log_found l n i)) (λ old. omega (arith, old, run)) in
      subst (λ ds. are_numbered 0 [] (map act_of_deed ds) ≡ true) (sym (deeds_more t (map (λ x. Did x) found) done idle)) (goes_in_order t n h done (λ u. (deeds_are_told before h after n u).0) whole)

  -- so do those of them that a test picks
  pub go_in_order : (keep : TxId → Bool) → GoBackInOrder (filter keep (found_asked n (log_of before n) ++ requests_of h)) (map (λ x. Did x) (found_items n (log_of before n)) ++ (deeds_before before h after n).done)
  go_in_order keep =
      all_in Goes (filter keep (found_asked n (log_of before n) ++ requests_of h)) (λ t j.
      ⊎_elim (λ k. found_goes t (asked_are_old splits before n l.opens (log_found l n i) t k)) (λ k. asked_goes t (asked_by h t k))
      (in_two (found_asked n (log_of before n)) (requests_of h) t (in_filter keep t (found_asked n (log_of before n) ++ requests_of h) j).0))
