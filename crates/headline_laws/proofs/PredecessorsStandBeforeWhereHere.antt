-- Whose writes a member violated on a shard where it is here is a member before it, or was in doubt there at opening and has a COMMIT.
use Rattle.std.proofs.Common.{◌≡◌, ◌⊎◌, inl, inr, ⊎_elim, refl, sym, subst, ◌∙◌, ℕ, ◌<◌, true, false, cond, Bool, ◌&&◌, ◌||◌, List, [], ◌∷◌, ◌++◌, arith}
use Rattle.std.specs.Prelude.{unwrap_or}
use Rattle.std.specs.List.{filter}
use Rattle.std.proofs.lemmas.Bool.{both_ways, or_cases, or_left, or_right}
use Rattle.std.proofs.lemmas.List.Folds.{list_any-append}
use Rattle.std.proofs.lemmas.List.Elements.{filter-append}
use Rattle.clv_base.specs.declared.names.TxId.{TxId}
use Rattle.clv_base.specs.declared.logs.LogRecord.{LogRecord}
use Rattle.clv_base.specs.Orders.{tx_same, tx_in}
use Rattle.clv_base.specs.Logs.{committed_in, committed_somewhere, in_doubt}
use Rattle.clv_base.specs.LogRules.{log_of}
use Rattle.clv_base.specs.Shards.{shard_count}
use Rattle.clv_base.specs.State.{Shard}
use Rattle.clv_base.specs.Restarts.{run_after}
use Rattle.clv_base.specs.Journals.{History, final_of}
use Rattle.clv_base.specs.History.{logs_left}
use Rattle.clv_base.proofs.SameNames.{tx_true, tx_self}
use Rattle.law_base.proofs.Sets.{in_filter}
use Rattle.history_laws.specs.Openings.{LegalFrom}
use Rattle.history_laws.proofs.Logs.FoundLogsInOrder.{log_found}
use Rattle.shard_laws.specs.OneShard.{Deeds, MayChoose, has_met, place, found_asked, found_met}
use Rattle.shard_laws.proofs.ChosenReplay.{chosen_stand_before}
use Rattle.shard_laws.proofs.Keeping.LeavingKeeps.{in_more}
use Rattle.shard_laws.proofs.Cuts.MembersRunSerially.{in_kept}
use Rattle.history_laws.specs.Places.{transactions_of, StandsBefore}
use Rattle.history_laws.proofs.Entries.LowerPlacesStandBefore.{placed_before}
use Rattle.history_laws.proofs.Logs.CutsKeepTheDurable.{cut_above}
use Rattle.history_laws.specs.Continuing.{serial_left}
use Rattle.fate_laws.specs.Members.{is_member}
use Rattle.fate_laws.proofs.Origins.FrontsKeepOrigins.{IsOld}
use Rattle.fate_laws.specs.Leading.{deeds_before, with_found, requests_of}
use Rattle.fate_laws.proofs.EachShardLeads.DoubtedAreEarlier.{ordered_is, asked_are_old}
use Rattle.fate_laws.proofs.DeedsAreTold.{deeds_are_told}
use Rattle.headline_laws.specs.ReplayingHere.{IsHere}
use Rattle.headline_laws.specs.RecoveringHere.{PredecessorsStandBeforeWhereHere}
use Rattle.headline_laws.proofs.AtOpening.EarlierOnesStoodThere.{somewhere_at_opening}
use Rattle.headline_laws.proofs.MembersReplayWhereHere.WhoIsAMember.{chosen, is_chosen, chosen_are_members, member_run}
use Rattle.headline_laws.proofs.MembersReplayWhereHere.{leads, fronts, left_is, IsHereByCut, left_here, member_here}
use Rattle.clv_base.proofs.Folding.{or_right as or_false_right}

-- ---- who stands before another among some stands before it among more

more_in : (f g : TxId → Bool) (xs : List TxId) (t : TxId) → ((u : TxId) → f u ≡ true → g u ≡ true) → tx_in t (filter f xs) ≡ true → tx_in t (filter g xs) ≡ true
more_in f g xs t k i = let p = in_filter f t xs i in in_kept g xs t p.0 (k t p.1)

stands_more : (f g : TxId → Bool) (xs : List TxId) (p t : TxId) → ((u : TxId) → f u ≡ true → g u ≡ true) → StandsBefore p t (filter f xs) → StandsBefore p t (filter g xs)
stands_more f g [] p t k b = b
stands_more f g (x ∷ xs) p t k b = at (f x) (g x) refl refl b (stands_more f g xs p t k)
  where
    at : (a c : Bool) → f x ≡ a → g x ≡ c → StandsBefore p t (cond a (x ∷ filter f xs) (filter f xs)) → (StandsBefore p t (filter f xs) → StandsBefore p t (filter g xs)) → StandsBefore p t (cond c (x ∷ filter g xs) (filter g xs))
    at true true e q (inl (s, i)) n = inl (s, more_in f g xs t k i)
    at true true e q (inr r) n = inr (n r)
    at true false e q r n = absurd (both_ways _ q (k x e))
    at false true e q r n = inr (n r)
    at false false e q r n = n r

-- who is none of the first ones stands behind them
pub stands_later : (p t : TxId) (xs ys : List TxId) → tx_in p xs ≡ false → StandsBefore p t (xs ++ ys) → StandsBefore p t ys
stands_later p t [] ys n b = b
stands_later p t (x ∷ xs) ys n (inl (s, i)) = absurd (both_ways _ n (or_left (tx_same x p) (tx_in p xs) (subst (λ z. tx_same z p ≡ true) (sym s) (tx_self p))))
stands_later p t (x ∷ xs) ys n (inr b) = stands_later p t xs ys (or_false_right (tx_same x p) (tx_in p xs) n) b

-- ---- of a shard: those whose COMMITs are left there, and one more

module _ {splits : List ℕ} {before after : List (List LogRecord)} {h : History} (l : LegalFrom splits before h after) (choice : ℕ → Bool)
    (n : ℕ) (t : TxId) (i : n < shard_count splits) (k : is_member splits before h after choice t ≡ true)
    (here : IsHere splits before h after choice n t) where
  abbrev with_it : TxId → Bool
  with_it u = committed_in (log_of (logs_left splits before h after choice) n) u || tx_same t u

  are_chosen : (u : TxId) → (committed_in (log_of (logs_left splits before h after choice) n) u || tx_same t u) ≡ true → chosen splits before h after choice n u ≡ true
  are_chosen u e = by_case (or_cases (committed_in (log_of (logs_left splits before h after choice) n) u) (tx_same t u) e)
    where
      by_case : (committed_in (log_of (logs_left splits before h after choice) n) u ≡ true) ⊎ (tx_same t u ≡ true) → chosen splits before h after choice n u ≡ true
      by_case (inl a) = is_chosen splits before h after choice n u (inr (inl a))
      by_case (inr a) = is_chosen splits before h after choice n u (inl (subst (λ z. is_member splits before h after choice z ≡ true) (tx_true t u a) k))

  may_choose : MayChoose (final_of before h after n) (cond (choice n) (unwrap_or (final_of before h after n).flight (final_of before h after n).durable) (final_of before h after n).durable) (with_found n (log_of before n) (deeds_before before h after n))
      (λ u. committed_in (log_of (logs_left splits before h after choice) n) u || tx_same t u)
  may_choose = record {
    commits = λ u e. or_left _ (tx_same t u) (subst (λ z. committed_in z u ≡ true) (sym (left_is l choice n i)) e);
    are_here = λ u e. ⊎_elim (λ a. left_here l choice n u i a) (λ a. subst (IsHereByCut l choice n) (tx_true t u a) (member_here l choice n t i k here)) (or_cases (committed_in (log_of (logs_left splits before h after choice) n) u) (tx_same t u) e);
  }

  -- a chosen one of those found was in doubt there, and has a COMMIT
  of_found : (p : TxId) → tx_in p (filter with_it (found_asked n (log_of before n))) ≡ true → (tx_in p (in_doubt n (log_of before n)) ≡ true) × (committed_somewhere before p ≡ true)
  of_found p j =
      let q = in_filter with_it p (found_asked n (log_of before n)) j in
      (ordered_is (λ u. tx_in u (in_doubt n (log_of before n))) (log_of before n) p q.0, by_case (asked_are_old splits before n l.opens (log_found l n i) p q.0) (or_cases (committed_in (log_of (logs_left splits before h after choice) n) p) (tx_same t p) q.1))
    where
      by_case : IsOld (run_after before) p → (committed_in (log_of (logs_left splits before h after choice) n) p ≡ true) ⊎ (tx_same t p ≡ true) → committed_somewhere before p ≡ true
      by_case old (inl a) = somewhere_at_opening l choice n p i old a
      by_case old (inr a) = let run = subst (λ z. z.run ≡ run_after before) (tx_true t p a) (member_run splits before h after choice t l.legal k) in absurd (omega (arith, old, run))

  stands_before : (p : TxId) → has_met ((deeds_before before h after n).met ++ found_met n (log_of before n)) t p ≡ true
      → StandsBefore p t (transactions_of (serial_left splits before h after choice)) ⊎ ((tx_in p (in_doubt n (log_of before n)) ≡ true) × (committed_somewhere before p ≡ true))
  stands_before p met = at (tx_in p (filter with_it (found_asked n (log_of before n)))) refl
    where
      s : Shard
      s = final_of before h after n

      d : Deeds
      d = deeds_before before h after n

      found : List LogRecord
      found = log_of before n

      own : with_it t ≡ true
      own = or_right (committed_in (log_of (logs_left splits before h after choice) n) t) (tx_same t t) (tx_self t)

      names : transactions_of (serial_left splits before h after choice) ≡ filter (chosen splits before h after choice n) (requests_of h)
      names = chosen_are_members l choice n i

      asked : tx_in t (requests_of h) ≡ true
      asked = (in_filter (chosen splits before h after choice n) t (requests_of h) (subst (λ ts. tx_in t ts ≡ true) names k)).0

      earlier_place : place (filter with_it (found_asked n found ++ requests_of h)) p < place (filter with_it (found_asked n found ++ requests_of h)) t
      earlier_place =
          (chosen_stand_before n (run_after before) found (with_found n found d) s (cond (choice n) (unwrap_or s.flight s.durable) s.durable) with_it t p (leads l choice n i)
          (cut_above s (choice n) (fronts l choice n i).counted) may_choose met own).1

      at : (b : Bool) → tx_in p (filter with_it (found_asked n found)) ≡ b → StandsBefore p t (transactions_of (serial_left splits before h after choice)) ⊎ ((tx_in p (in_doubt n found) ≡ true) × (committed_somewhere before p ≡ true))
      at true j = inr (of_found p j)
      at false j =
          let b = placed_before p t (filter with_it (found_asked n found ++ requests_of h)) earlier_place (in_kept with_it (found_asked n found ++ requests_of h) t (in_more (found_asked n found) (requests_of h) t asked) own) in
          let e = stands_later p t (filter with_it (found_asked n found)) (filter with_it (requests_of h)) j (subst (StandsBefore p t) (filter-append with_it (found_asked n found) (requests_of h)) b) in
          inl (subst (StandsBefore p t) (sym names) (stands_more with_it (chosen splits before h after choice n) (requests_of h) p t are_chosen e))

-- a predecessor that it met in this history is one of all
met_among : (xs ys : List (TxId × TxId)) (t p : TxId) → has_met xs t p ≡ true → has_met (xs ++ ys) t p ≡ true
met_among xs ys t p m = list_any-append (λ q. tx_same t q.0 && tx_same p q.1) xs ys ∙ or_left _ _ m

pub predecessors_stand_before_where_here : PredecessorsStandBeforeWhereHere
predecessors_stand_before_where_here splits before h after choice n t p l i k here e =
    stands_before l choice n t i k here p (met_among (deeds_before before h after n).met (found_met n (log_of before n)) t p ((deeds_are_told before h after n t).2 p e))
