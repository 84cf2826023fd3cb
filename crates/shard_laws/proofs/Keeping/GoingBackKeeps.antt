-- A transaction goes back: the writes of its later operations are taken away, and its locks stay.
use Rattle.std.proofs.Common.{◌≡◌, ℕ, ◌≤◌, ◌<◌, inl, inr, ⊎_elim, Bool, true, false, cond, not, ◌&&◌, nat_lt, List, [], ◌∷◌, ◌++◌, map, Some, refl, sym, ap, subst, ◌∙◌, arith}
use Rattle.std.specs.Prelude.{take}
use Rattle.std.specs.List.{AllByRecursion, filter, list_any}
use Rattle.std.proofs.lemmas.Bool.{both_ways, cond-false, and_parts, or_cases, false_from_ne_true, cond_both}
use Rattle.clv_base.specs.declared.names.TxId.{TxId}
use Rattle.clv_base.specs.declared.logs.LogRecord.{LogRecord}
use Rattle.clv_base.specs.declared.changes.Change.{Change}
use Rattle.clv_base.specs.declared.state.Stage.TheVariants.{Active}
use Rattle.clv_base.specs.Orders.{tx_same, tx_in}
use Rattle.clv_base.specs.Backs.{count_after}
use Rattle.clv_base.specs.Logs.{StandingUpdate, standing, committed_in, aborted_in, base_of}
use Rattle.clv_base.specs.Undo.{records_without, clrs_by, newest_lsns, is_at}
use Rattle.clv_base.proofs.SameNames.{tx_true}
use Rattle.law_base.specs.Items.{Item, Deed, WentBack, is_beyond, held, wrote, pile, AllLater}
use Rattle.law_base.specs.Undone.{stays_by}
use Rattle.law_base.proofs.Anchors.{rising_undone}
use Rattle.law_base.proofs.Commits.{commit_durable, before_keeps, durable_keeps, durable_committed, uncommitted_append, committed_from}
use Rattle.law_base.proofs.Lists.{all_mono, all_both, all_of, all_push, all_kept, later_mono, later_filter, later_push, filters_swap}
use Rattle.law_base.proofs.Logs.{clrs_undo_by, undo_base}
use Rattle.law_base.proofs.Running.{top_value}
use Rattle.law_base.proofs.Tables.{stage_in}
use Rattle.law_base.proofs.Undoing.{Chain, Upward, NewestGo, HaveRecords, TellsOf, standing_undone_by, values_undone, pile_filter_by, filter_all_by}
use Rattle.protocol_laws.proofs.LogsInOrder.StandingUpdatesLie.{Falling}
use Rattle.shard_laws.specs.OneShard.{doer, number_of, items_in, AreBelow}
use Rattle.shard_laws.proofs.Operations.WritesAtEachKey.{keys_by, keys_filter, keys_all, keys_own}
use Rattle.shard_laws.proofs.Keeping.WhatOneShardKeeps.{View, Past, Dep, Wrote, Kept, KeptLog, of_kept, is_alive, KeptPast, Known, Left, Cause, IsAlone, Covers, begins}
use Rattle.shard_laws.proofs.Keeping.DeedsThatHold.{Rise, ItemsRise, items_back, held_push, acts_push, met_push, met_mono, between_back, items_rise, later_held, AllMet}
use Rattle.shard_laws.proofs.Keeping.DeedsInTheLog.{pile_each, pile_base}
use Rattle.shard_laws.proofs.Keeping.ChangesKeepPrepared.{prepared_more, prepared_back, Prepared}
use Rattle.shard_laws.proofs.Keeping.LeavingKeeps.{covers_undone, none_stood, none_left}
use Rattle.shard_laws.proofs.Keeping.NumbersOfWrites.{Numbered, numbered, writes_in, numbers_in, numbered_pile, numbered_each, numbers_fall, first_after, NumbersFall}
use Rattle.shard_laws.proofs.Keeping.RecordsAndFrontsKeep.{aborted_append, tidy_append, ended_more}
use Rattle.shard_laws.proofs.Keeping.RecordsOfAnUndo.{undo_commits, undo_writes, undo_prepares, no_abort_clrs, tidy_harmless, harmless_clrs}
use Rattle.protocol_laws.specs.Order.{Tidy}
use Rattle.clv_base.specs.State.{is_present}
use Rattle.law_base.proofs.Sets.{same_flip}
use Rattle.law_base.proofs.Bases.{take_base}
use Rattle.law_base.proofs.Places.{undo_upto, upto_within}

-- a transaction's operations that hold
abbrev pub own_held : TxId → List Deed → List Item
own_held tx ds = filter (λ x. tx_same x.tx tx) (held ds)

-- how many of its writes that hold come of operations behind a number
abbrev pub count_beyond : ℕ → TxId → List Deed → ℕ
count_beyond upto tx ds = count_after upto (numbers_in (numbered (own_held tx ds) []))

-- what is true of those that pass is true of each that passes
all_passing : {I : Type 0} (P : I → Type 0) (f : I → Bool) (xs : List I) → AllByRecursion P (filter f xs) → AllByRecursion (λ x. f x ≡ true → P x) xs
all_passing P f [] all = tt
all_passing P f (x ∷ xs) all = at (f x) refl (all_passing P f xs) all
  where
    at : (b : Bool) → f x ≡ b → (AllByRecursion P (filter f xs) → AllByRecursion (λ y. f y ≡ true → P y) xs) → AllByRecursion P (cond b (x ∷ filter f xs) (filter f xs)) → AllByRecursion (λ y. f y ≡ true → P y) (x ∷ xs)
    at true e more a = ((λ h. a.0), more a.1)
    at false e more a = ((λ h. absurd (both_ways _ e h)), more a)

falling_kept : (f : StandingUpdate → Bool) (ws : List StandingUpdate) → Falling ws → Falling (filter f ws)
falling_kept f [] falls = tt
falling_kept f (w ∷ ws) falls = cond_both (f w) (w ∷ filter f ws) (filter f ws) Falling (λ e. (all_kept (λ v. v.lsn < w.lsn) f ws falls.0, falling_kept f ws falls.1)) (λ e. falling_kept f ws falls.1)

-- of one that is not lost all writes pass
own_alive : (tx : TxId) (lost : List TxId) (ws : List StandingUpdate) → tx_in tx lost ≡ false → filter (λ w. tx_same tx w.tx) (filter (of_kept (is_alive lost)) ws) ≡ filter (λ w. tx_same tx w.tx) ws
own_alive tx lost [] alive = refl
own_alive tx lost (w ∷ ws) alive = at (tx_same tx w.tx) (tx_in w.tx lost) refl refl (own_alive tx lost ws alive)
  where
    at : (b c : Bool) → tx_same tx w.tx ≡ b → tx_in w.tx lost ≡ c → filter (λ v. tx_same tx v.tx) (filter (of_kept (is_alive lost)) ws) ≡ filter (λ v. tx_same tx v.tx) ws
        → filter (λ v. tx_same tx v.tx) (cond (not c) (w ∷ filter (of_kept (is_alive lost)) ws) (filter (of_kept (is_alive lost)) ws)) ≡ cond b (w ∷ filter (λ v. tx_same tx v.tx) ws) (filter (λ v. tx_same tx v.tx) ws)
    at b false e f ih = ap (λ z. cond z (w ∷ filter (λ v. tx_same tx v.tx) (filter (of_kept (is_alive lost)) ws)) (filter (λ v. tx_same tx v.tx) (filter (of_kept (is_alive lost)) ws))) e ∙ ap (λ l. cond b (w ∷ l) l) ih
    at true true e f ih = absurd (both_ways _ alive (subst (λ z. tx_in z lost ≡ true) (sym (tx_true tx w.tx e)) f))
    at false true e f ih = ih

module _ (g : Past) (v : View) (tx : TxId) (n : ℕ) (k : Kept g v) (active : stage_in v.parts tx ≡ Some Active) (chain_here : Chain (base_of v.log) (standing v.log)) (falls_here : Falling (standing v.log)) (upward_here : Upward (is_at (newest_lsns n tx (standing v.log))) (standing v.log))
    (newest : NewestGo (is_at (newest_lsns n tx (standing v.log))) (standing v.log)) (own : AllByRecursion (λ w. is_at (newest_lsns n tx (standing v.log)) w ≡ true → tx_same tx w.tx ≡ true) (standing v.log)) where
  abbrev gone : StandingUpdate → Bool
  gone = is_at (newest_lsns n tx (standing v.log))

  abbrev more : List LogRecord
  more = clrs_by gone (standing v.log)

  abbrev Rolled : View
  Rolled = record v { records = records_without gone (standing v.log) v.records; log = v.log ++ more }

  open_ : committed_in v.log tx ≡ false
  open_ = k.uncommitted tx active

  gone_open : AllByRecursion (λ w. gone w ≡ true → committed_in v.log w.tx ≡ false) (standing v.log)
  gone_open = all_mono _ _ (λ w h e. subst (λ z. committed_in v.log z ≡ false) (tx_true tx w.tx (h e)) open_) (standing v.log) own

  standing_more : standing (v.log ++ more) ≡ filter (stays_by gone) (standing v.log)
  standing_more = standing_undone_by gone v.log newest

  no_more : (t : TxId) → committed_in more t ≡ false
  no_more t = undo_commits t more (clrs_undo_by gone (standing v.log))

  still_durable : (t : TxId) → commit_durable v.log v.durable t ≡ true → commit_durable (v.log ++ more) v.durable t ≡ true
  still_durable t c = durable_keeps v.log more v.durable v.durable t (omega arith) c

  still_dep : (t p : TxId) → Dep v t p → Dep Rolled t p
  still_dep t p d = ⊎_elim (λ c. inl (still_durable p c)) (λ m. ⊎_elim (λ pair. inr (inl pair)) (λ b. inr (inr (before_keeps v.log more p t b))) m) d

  have_here : HaveRecords v.records gone (standing v.log)
  have_here = all_mono _ _ (λ w h e. (h.1 (false_from_ne_true _ (λ c. both_ways _ (h.0 e) (durable_committed v.log v.durable w.tx c)))).1) (standing v.log) (all_both _ _ (standing v.log) gone_open k.wrote)

  chain_floor : Chain g.floor (standing v.log)
  chain_floor = subst (λ base. Chain base (standing v.log)) (begins g v k) chain_here

  -- where the log has the writes of what then holds
  keeps_with : (done : List Deed) → (items_in done ≡ items_in g.done) → KeptPast g.start done g.asked g.lost → KeptLog g.base done g.lost (v.log ++ more) → AllByRecursion (λ d. Known g v (doer d)) done → AllByRecursion (λ d. Left g v (doer d)) done
      → AllMet (Cause v.pairs v.log v.durable) done → Prepared done g.met v.parts v.log → Kept (record g { done = done }) Rolled
  keeps_with done same past log known left causes prepared = record {
    start = k.start;
    past = past;
    log = log;
    records = record { rises = rising_undone gone (standing v.log) v.records k.rises; values = λ q. values_undone g.floor gone (standing v.log) v.records q chain_floor upward_here have_here (k.values q) ∙ ap (top_value g.floor q) (sym standing_more) };
    locks = record {
      rows = k.rows;
      covered = all_mono _ _ (λ y h a. covers_undone gone (standing v.log) v.locks v.records y (h a)) (items_in done) (subst (AllByRecursion (λ y. stage_in v.parts y.tx ≡ Some Active → Covers v.records v.locks y)) (sym same) k.covered);
      wrote = subst (AllByRecursion (Wrote Rolled)) (sym standing_more)
          (all_mono _ _ (λ w h out.
          let c = h (false_from_ne_true _ (λ t. both_ways _ out (still_durable w.tx t))) in
          (c.0, λ none. c.1 (none_stood gone (standing v.log) v.records w.key none)))
          (filter (stays_by gone) (standing v.log)) (all_kept _ (stays_by gone) (standing v.log) k.wrote));
    };
    parts = record { known = known; alone = subst (AllLater (IsAlone v.parts)) (sym same) k.alone; closed = k.closed; successors = k.successors };
    fates = record {
      uncommitted = λ t a. uncommitted_append v.log more t (k.uncommitted t a) (no_more t);
      dead = λ t h. let old : aborted_in v.log t ≡ true = ⊎_elim (λ e. e) (λ e. absurd (both_ways _ (no_abort_clrs gone t (standing v.log)) e)) (or_cases (aborted_in v.log t) (aborted_in more t) (sym (aborted_append v.log more t) ∙ h)) in
          let d = k.dead t old in (uncommitted_append v.log more t d.0 (no_more t), d.1, d.2);
      doomed = λ t d e. uncommitted_append v.log more t (k.doomed t d e) (no_more t);
      prepared = prepared_more done g.met v.parts v.log more prepared (λ t. undo_writes t more (clrs_undo_by gone (standing v.log))) (λ t. undo_prepares t more (clrs_undo_by gone (standing v.log)));
    };
    ends = record {
      left = all_mono _ _ (λ d l. ⊎_elim (λ a. inl a) (λ a. inr (⊎_elim (λ o. inl o) (λ c. inr (still_durable (doer d) c)) a)) l) done left;
      over = λ t h. ended_more g v more t (λ a. no_more t) (λ e. ap (λ ws. list_any (λ w. tx_same t w.tx) ws) standing_more ∙ none_left (stays_by gone) t (standing v.log) e) (k.over t h);
      recover = λ t p e. ⊎_elim (λ o. inl o) (λ d. inr (still_dep t p d.0, d.1)) (k.recover t p e);
    };
    pairs = record { downwards = λ t p e c. before_keeps v.log more p t (k.downwards t p e (committed_from v.log more t (no_more t) c)); causes = met_mono _ _ (λ x y h r. ⊎_elim (λ s. inl s) (λ d. inr (still_dep y.tx x.tx d)) (h r)) done causes };
    durable = record { base_done = all_mono _ _ (λ w c. still_durable w.tx c) g.base k.base_done; front = k.front; floor_done = λ c l. take_base c v.log more (undo_base more (clrs_undo_by gone (standing v.log))) ∙ k.floor_done c l; part_done = upto_within v.durable v.log more (undo_upto more (clrs_undo_by gone (standing v.log))) k.part_done };
  }

  tidy_now : Tidy [] (v.log ++ more)
  tidy_now = tidy_append [] v.log more k.tidy (tidy_harmless v.log v.log more (λ t e. e) (harmless_clrs v.log gone (standing v.log) gone_open))

  -- ---- it is lost: nothing of it is in the past

  lost_same : tx_in tx g.lost ≡ true → (ws : List StandingUpdate) → AllByRecursion (λ w. gone w ≡ true → tx_same tx w.tx ≡ true) ws → filter (of_kept (is_alive g.lost)) (filter (stays_by gone) ws) ≡ filter (of_kept (is_alive g.lost)) ws
  lost_same lost [] all = refl
  lost_same lost (w ∷ ws) all = at (gone w) refl (lost_same lost ws all.1)
    where
      at : (b : Bool) → gone w ≡ b → filter (of_kept (is_alive g.lost)) (filter (stays_by gone) ws) ≡ filter (of_kept (is_alive g.lost)) ws
          → filter (of_kept (is_alive g.lost)) (cond (not b) (w ∷ filter (stays_by gone) ws) (filter (stays_by gone) ws)) ≡ filter (of_kept (is_alive g.lost)) (w ∷ ws)
      at true e ih =
          ih ∙ sym (cond-false (not (tx_in w.tx g.lost)) (w ∷ filter (of_kept (is_alive g.lost)) ws) (filter (of_kept (is_alive g.lost)) ws) (ap not (subst (λ z. tx_in z g.lost ≡ true) (tx_true tx w.tx (all.0 e)) lost)))
      at false e ih = ap (λ l. cond (not (tx_in w.tx g.lost)) (w ∷ l) l) ih

  pub keeps_back_lost : tx_in tx g.lost ≡ true → Kept g Rolled
  keeps_back_lost lost =
      keeps_with g.done refl k.past (record { standing_is = keys_by (ap (filter (of_kept (is_alive g.lost))) standing_more ∙ lost_same lost (standing v.log) own) k.standing_is refl; tidy = tidy_now }) k.known k.left k.causes k.prepared

  -- ---- it is not lost: it went back

  own_writes : tx_in tx g.lost ≡ false → filter (λ w. tx_same tx w.tx) (standing v.log) ≡ pile (own_held tx g.done) []
  own_writes alive =
      sym (own_alive tx g.lost (standing v.log) alive)
      ∙ keys_own tx (filter (of_kept (is_alive g.lost)) (standing v.log)) (pile (held g.done) g.base) k.standing_is
      ∙ pile_filter_by (λ w. tx_same tx w.tx) (λ x. tx_same x.tx tx) (held g.done) g.base (all_of _ (λ x w e. flip x) (held g.done))
      ∙ ap (pile (own_held tx g.done)) (none_of_it g.base (all_mono _ _ (λ w c. false_from_ne_true _ (λ s. both_ways _ open_ (subst (λ z. committed_in v.log z ≡ true) (sym (tx_true tx w.tx s)) (durable_committed v.log v.durable w.tx c)))) g.base k.base_done))
    where
      flip : (x : Item) → tx_same tx x.tx ≡ tx_same x.tx tx
      flip x = same_flip tx x.tx

      none_of_it : (ws : List StandingUpdate) → AllByRecursion (λ w. tx_same tx w.tx ≡ false) ws → filter (λ w. tx_same tx w.tx) ws ≡ []
      none_of_it [] all = refl
      none_of_it (w ∷ ws) all = cond-false (tx_same tx w.tx) (w ∷ filter (λ u. tx_same tx u.tx) ws) (filter (λ u. tx_same tx u.tx) ws) all.0 ∙ none_of_it ws all.1

  -- the newest n are those behind the number, where there are n of these
  own_told : tx_in tx g.lost ≡ false → (upto : ℕ) → n ≡ count_beyond upto tx g.done → AllByRecursion (λ x. (w : ℕ × Change) → wrote x ≡ Some w → gone (record { lsn = x.lsn; tx = x.tx; key = w.0; change = w.1 }) ≡ nat_lt upto x.number) (own_held tx g.done)
  own_told alive upto count =
      let zs : List Numbered = numbered (own_held tx g.done) [] in
      let ws : writes_in zs ≡ filter (λ w. tx_same tx w.tx) (standing v.log) = numbered_pile (own_held tx g.done) [] ∙ sym (own_writes alive) in
      numbered_each (λ z. gone z.0 ≡ nat_lt upto z.1) (own_held tx g.done) []
      (subst (λ l. AllByRecursion (λ z. is_at l z.0 ≡ nat_lt upto z.1) zs)
      (ap (λ m. take m (map (λ w. w.lsn) (writes_in zs))) (sym count) ∙ ap (λ l. take n (map (λ w. w.lsn) l)) ws)
      (first_after upto zs (subst Falling (sym ws) (falling_kept (λ w. tx_same tx w.tx) (standing v.log) falls_here)) falling_numbers))
    where
      same_rise : AllLater (λ x y. x.number ≤ y.number) (own_held tx g.done)
      same_rise = later_mono _ _ (λ x y h. h.0 (tx_true x.tx tx h.1 ∙ sym (tx_true y.tx tx h.2))) (own_held tx g.done) (later_filter ItemsRise (λ x. tx_same x.tx tx) (held g.done) (later_held ItemsRise g.done (items_rise g.done k.rising)))

      falling_numbers : NumbersFall (numbered (own_held tx g.done) [])
      falling_numbers = numbers_fall (own_held tx g.done) [] same_rise (all_of _ (λ x. tt) (own_held tx g.done)) tt

  told_each : tx_in tx g.lost ≡ false → (upto : ℕ) → n ≡ count_beyond upto tx g.done → AllByRecursion (TellsOf (stays_by gone) (λ x. not (is_beyond tx upto x))) (held g.done)
  told_each alive upto count =
      all_mono _ _ (λ x h w e. ap not (at x w e (tx_same x.tx tx) refl h.0 h.1)) (held g.done)
      (all_both _ _ (held g.done) (all_passing _ (λ x. tx_same x.tx tx) (held g.done) (own_told alive upto count))
      (pile_each _ (held g.done) g.base (keys_all _ (filter (of_kept (is_alive g.lost)) (standing v.log)) (pile (held g.done) g.base) k.standing_is (all_kept _ (of_kept (is_alive g.lost)) (standing v.log) own))))
    where
      at : (x : Item) (w : ℕ × Change) → wrote x ≡ Some w → (b : Bool) → tx_same x.tx tx ≡ b → (tx_same x.tx tx ≡ true → (u : ℕ × Change) → wrote x ≡ Some u → gone (record { lsn = x.lsn; tx = x.tx; key = u.0; change = u.1 }) ≡ nat_lt upto x.number)
          → ((u : ℕ × Change) → wrote x ≡ Some u → gone (record { lsn = x.lsn; tx = x.tx; key = u.0; change = u.1 }) ≡ true → tx_same tx x.tx ≡ true) → gone (record { lsn = x.lsn; tx = x.tx; key = w.0; change = w.1 }) ≡ is_beyond tx upto x
      at x w e true s told all = told s w e ∙ sym (ap (λ b. b && nat_lt upto x.number) s)
      at x w e false s told all = false_from_ne_true _ (λ o. both_ways _ (sym (same_flip x.tx tx) ∙ s) (all w e o)) ∙ sym (ap (λ b. b && nat_lt upto x.number) s)

  base_stays : AllByRecursion (λ w. gone w ≡ true → tx_same tx w.tx ≡ true) g.base → filter (stays_by gone) g.base ≡ g.base
  base_stays all = filter_all_by gone g.base (all_mono _ _ (λ w h. false_from_ne_true _ (λ o. both_ways _ open_ (subst (λ z. committed_in v.log z ≡ true) (sym (tx_true tx w.tx (h.1 o))) (durable_committed v.log v.durable w.tx h.0)))) g.base (all_both _ _ g.base k.base_done all))

  pub keeps_back : (number upto : ℕ) → tx_in tx g.lost ≡ false → n ≡ count_beyond upto tx g.done → AreBelow tx number g.done → Kept (record g { done = g.done ++ WentBack tx number upto ∷ [] }) Rolled
  keeps_back number upto alive count rises =
      keeps_with (g.done ++ WentBack tx number upto ∷ []) (items_back g.done tx number upto)
      (record {
        acts = acts_push g.start g.done (WentBack tx number upto) k.acts tt;
        alive = all_push _ g.done (WentBack tx number upto) k.alive alive;
        order = subst (AllLater _) (sym (items_back g.done tx number upto)) k.order;
        between = between_back g.done tx number upto k.between (later_mono _ _ (λ x y h beyond clash. ⊎_elim (λ s. s) (λ closed. absurd (closed (ap (stage_in v.parts) (tx_true x.tx tx (and_parts (tx_same x.tx tx) (nat_lt upto x.number) beyond).0) ∙ active))) (h clash)) (items_in g.done) k.alone);
        rising = later_push Rise g.done (WentBack tx number upto) k.rising (all_mono _ _ (λ d h same. below_is (number_of d) number (h same)) g.done rises);
      })
      (record {
        standing_is = keys_by (ap (filter (of_kept (is_alive g.lost))) standing_more ∙ filters_swap (of_kept (is_alive g.lost)) (stays_by gone) (standing v.log))
            (keys_filter (stays_by gone) (filter (of_kept (is_alive g.lost)) (standing v.log)) (pile (held g.done) g.base) k.standing_is)
            (pile_filter_by (stays_by gone) (λ x. not (is_beyond tx upto x)) (held g.done) g.base (told_each alive upto count)
            ∙ ap (pile (filter (λ x. not (is_beyond tx upto x)) (held g.done)))
            (base_stays (pile_base _ (held g.done) g.base (keys_all _ (filter (of_kept (is_alive g.lost)) (standing v.log)) (pile (held g.done) g.base) k.standing_is (all_kept _ (of_kept (is_alive g.lost)) (standing v.log) own))))
            ∙ ap (λ l. pile l g.base) (sym (held_push g.done (WentBack tx number upto))));
        tidy = tidy_now;
      })
      (all_push _ g.done (WentBack tx number upto) k.known (inl active)) (all_push _ g.done (WentBack tx number upto) k.left (inl (ap is_present active))) (met_push _ g.done (WentBack tx number upto) k.causes tt)
      (prepared_back g.done g.met v.parts v.log tx number upto k.prepared)
    where
      below_is : (a b : ℕ) → a < b → a ≤ b
      below_is a b l = omega arith
