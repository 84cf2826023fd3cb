-- A part that is closed, one that leaves, and a set that is taken away keep the order rules.
use Rattle.std.proofs.Common.{◌≡◌, ◌⊎◌, inl, inr, ⊎_elim, refl, sym, ap, subst, ◌∙◌, ℕ, Bool, true, false, not, ◌||◌, List, [], ◌∷◌, ◌++◌, map, Option, Some, is_some, append_assoc}
use Rattle.std.specs.List.{AllByRecursion, filter}
use Rattle.std.proofs.lemmas.Bool.{cases_Bool, both_ways, cond_both, and_from, not-true, false_from_ne_true, or_from}
use Rattle.clv_base.specs.declared.names.TxId.{TxId}
use Rattle.clv_base.specs.declared.logs.LogRecord.{LogRecord}
use Rattle.clv_base.specs.declared.logs.LogRecord.TheVariants.{Prepare, Abort}
use Rattle.clv_base.specs.declared.changes.Change.{Change}
use Rattle.clv_base.specs.declared.changes.Change.TheVariants.{Sets, Adds}
use Rattle.clv_base.specs.declared.state.Stage.TheVariants.{Active, Closed}
use Rattle.clv_base.specs.declared.state.Held.{Held}
use Rattle.clv_base.specs.Orders.{Table, tx_same, tx_in}
use Rattle.clv_base.specs.State.{is_present}
use Rattle.clv_base.specs.Logs.{StandingUpdate, is_setting, standing, committed_in, prepared_in, aborted_in, wrote_in, has_standing, is_abort_of}
use Rattle.clv_base.specs.LogRules.{may_undo, may_follow, listed_in}
use Rattle.clv_base.specs.Undo.{gone_in, pairs_without, is_of, aborts_of, clrs_by, clrs_of, newest_lsn, newest_lsns, is_at, compensation}
use Rattle.clv_base.specs.OneShard.{closed_in}
use Rattle.clv_base.proofs.SameNames.{or_left, or_right, tx_true, tx_eq, tx_self, tx_ne}
use Rattle.law_base.specs.Undone.{stays_by, stays_of}
use Rattle.law_base.proofs.Lists.{all_mono, all_both, all_of, all_append}
use Rattle.law_base.proofs.Tables.{stage_in, is_pair, without_pairs, pairs_stay}
use Rattle.law_base.proofs.Commits.{committed_keeps}
use Rattle.law_base.proofs.Standing.{all_stand, stood_before}
use Rattle.law_base.proofs.Undoing.{NewestGo, Upward, standing_undone, standing_undone_by}
use Rattle.protocol_laws.specs.Order.{LieOnThese}
use Rattle.protocol_laws.proofs.LogsInOrder.StandingUpdatesLie.{Falling}
use Rattle.protocol_laws.proofs.LogsInOrder.OneRecordMore.{push_cases}
use Rattle.shard_laws.proofs.Cuts.MembersRunSerially.{Once, once_filter}
use Rattle.shard_laws.proofs.Keeping.ChangesKeepPrepared.{prepared_append}
use Rattle.shard_laws.proofs.Keeping.ClosingKeeps.{stage_back}
use Rattle.law_base.proofs.Stages.{closed_other as stage_left, closed_not_active}
use Rattle.law_base.proofs.Stages.{active_back, closed_back, stage_other, own_go}
use Rattle.law_base.proofs.Sets.{filter_in, in_filter}
use Rattle.shard_laws.proofs.Order.RecordByRecord.{Follows, last_push, before_push, greatest_plain}
use Rattle.shard_laws.proofs.Order.WhoIsListed.{named_prepare, prepares_listed, old_more}
use Rattle.law_base.proofs.Parts.{in_order_more}
use Rattle.shard_laws.proofs.Order.UndoMayFollow.{clrs_follow, undo_follows}
use Rattle.shard_laws.proofs.Order.NewestWritesOfOne.{lsns_own, lsns_newest}
use Rattle.shard_laws.proofs.Order.WhoseWritesStand.{has_still}
use Rattle.shard_laws.proofs.Order.WritesLieOnListed.{order_of}
use Rattle.shard_laws.proofs.Order.ChangesKeepOrder.{LiesOn, Under, Lying, Ordered, Calm, Stepped, listed_same, ordered_step, under_more}

-- ---- a PREPARE of an active part

pub ordered_prepare : (shard run : ℕ) (parts : Table Held) (pairs : List (TxId × TxId)) (log : List LogRecord) (t : TxId) (home : ℕ) (ps : List TxId) → Ordered shard run parts pairs log → may_follow shard log (Prepare t home ps) ≡ true
    → stage_in parts t ≡ Some Active → Ordered shard run parts pairs (log ++ Prepare t home ps ∷ [])
ordered_prepare shard run parts pairs log t home ps o m act = record {
  in_order = in_order_more shard log (Prepare t home ps ∷ []) o.in_order (m, tt);
  named = named_prepare run log t home ps (prepares_listed shard log t home ps m) o.named;
  old = old_more shard run log (Prepare t home ps ∷ []) o.in_order (m, tt) o.old;
  last = ((o.last).0, last_push log (Prepare t home ps) tt ∙ (o.last).1);
  latest = greatest_plain log (Prepare t home ps) run tt o.latest;
  of_run = o.of_run;
  new = λ u a. ap (λ l. wrote_in l u) (before_push [] log (Prepare t home ps) tt) ∙ o.new u a;
  unaborted = λ u p. false_from_ne_true _ (λ e. ⊎_elim (λ a. both_ways _ (o.unaborted u p) a) (λ a. both_ways false refl a) (push_cases (is_abort_of u) log (Prepare t home ps) e));
  decided = λ u c w. ⊎_elim (λ p. inl (prepared_append log (Prepare t home ps ∷ []) u ∙ or_left _ _ p)) (λ k. inr (committed_keeps log (Prepare t home ps ∷ []) u k)) (o.decided u c (stood_before log (Prepare t home ps ∷ []) u refl w));
  others = λ u p e. let q = o.others u p e in (q.0, ⊎_elim (λ c. inl (committed_keeps log (Prepare t home ps ∷ []) p c)) (λ c. inr (c.0, has_still log (Prepare t home ps ∷ []) p refl c.1)) q.1);
  lists = λ u p c i. ⊎_elim (λ k. inl (committed_keeps log (Prepare t home ps ∷ []) p k)) (λ e. inr e)
      (o.lists u p c (ap (tx_in p) (sym (listed_same log (Prepare t home ps ∷ []) u (or_from _ false (tx_ne u t (λ s. closed_not_active (sym c ∙ ap (stage_in parts) s ∙ act))) refl))) ∙ i));
}

-- ---- a part is closed, where its record stands

pub ordered_close : (shard run : ℕ) (parts : Table Held) (pairs : List (TxId × TxId)) (log : List LogRecord) (t : TxId) → Ordered shard run parts pairs log → stage_in parts t ≡ Some Active
    → (has_standing log t ≡ true → (prepared_in log t ≡ true) ⊎ (committed_in log t ≡ true)) → ((p : TxId) → tx_in p (listed_in log t) ≡ true → (committed_in log p ≡ true) ⊎ (is_pair pairs t p ≡ true)) → Ordered shard run (closed_in t parts) pairs log
ordered_close shard run parts pairs log t o act wrote listed = record {
  in_order = o.in_order;
  named = o.named;
  old = o.old;
  last = o.last;
  latest = o.latest;
  of_run = λ u a. o.of_run u (stage_back parts t u Active act closed_not_active a).1;
  new = λ u a. o.new u (stage_back parts t u Active act closed_not_active a).1;
  unaborted = λ u p. ⊎_elim (λ s. o.unaborted u (ap is_present (ap (stage_in parts) (sym (tx_true t u s)) ∙ act))) (λ n. o.unaborted u (ap is_present (sym (stage_left parts t u n)) ∙ p)) (cases_Bool (tx_same t u));
  decided = λ u c w. ⊎_elim
      (λ s. let e = tx_true t u s in subst (λ z. (prepared_in log z ≡ true) ⊎ (committed_in log z ≡ true)) e (wrote (subst (λ z. has_standing log z ≡ true) (sym e) w)))
      (λ n. o.decided u (sym (stage_left parts t u n) ∙ c) w) (cases_Bool (tx_same t u));
  others = λ u p e. let q = o.others u p e in (q.0, ⊎_elim (λ c. inl c) (λ c. inr (stage_left parts t p (tx_ne t p (λ s. closed_not_active (sym c.0 ∙ ap (stage_in parts) (sym s) ∙ act))) ∙ c.0, c.1)) q.1);
  lists = λ u p c i. ⊎_elim
      (λ s. let e = tx_true t u s in subst (λ z. (committed_in log p ≡ true) ⊎ (is_pair pairs z p ≡ true)) e (listed p (subst (λ z. tx_in p (listed_in log z) ≡ true) (sym e) i)))
      (λ n. o.lists u p (sym (stage_left parts t u n) ∙ c) i) (cases_Bool (tx_same t u));
}

-- ---- a set leaves

-- what lies under the writes that stand, without the pairs of those that leave: these are committed, or had none
under_without : (set : List TxId) (pairs : List (TxId × TxId)) (log : List LogRecord) (ws : List StandingUpdate) → ((u : TxId) → tx_in u set ≡ true → (has_standing log u ≡ true → committed_in log u ≡ true) ⊎ ((p : TxId) → is_pair pairs u p ≡ true → ⊥))
    → AllByRecursion (λ w. has_standing log w.tx ≡ true) ws → LieOnThese (committed_in log) ws → Under pairs (committed_in log) ws → Under (pairs_without set pairs) (committed_in log) ws
under_without set pairs log [] h stand lie u = tt
under_without set pairs log (v ∷ vs) h stand lie u = (one (tx_in v.tx set) refl, under_without set pairs log vs h stand.1 lie.1 u.1)
  where
    stays : (w : StandingUpdate) → (is_pair pairs v.tx w.tx ≡ true → (committed_in log w.tx ≡ true) ⊎ (is_pair (pairs_without set pairs) v.tx w.tx ≡ true)) → LiesOn pairs (committed_in log) v.tx w.tx → LiesOn (pairs_without set pairs) (committed_in log) v.tx w.tx
    stays w k l = ⊎_elim (λ s. inl s) (λ m. inr (⊎_elim (λ c. inl c) k m)) l

    one : (b : Bool) → tx_in v.tx set ≡ b → AllByRecursion (λ w. w.key ≡ v.key → (is_setting w.change || is_setting v.change) ≡ true → LiesOn (pairs_without set pairs) (committed_in log) v.tx w.tx) vs
    one false out = all_mono _ _ (λ w l e q. stays w (λ i. inr (pairs_stay set pairs v.tx w.tx out i)) (l e q)) vs u.0
    one true own =
        ⊎_elim (λ c. all_mono _ _ (λ w k e q. inr (inl (k e q))) vs (lie.0 (c stand.0)))
        (λ none. all_mono _ _ (λ w l e q. stays w (λ i. absurd (none w.tx i)) (l e q)) vs u.0) (h v.tx own)

-- a set leaves by itself: of each of it no write stands or it is committed, or it had left
pub ordered_leave : (shard run : ℕ) (parts : Table Held) (pairs : List (TxId × TxId)) (log : List LogRecord) (set : List TxId) (d : Option TxId) → Ordered shard run parts pairs log → Lying pairs log → LieOnThese (committed_in log) (standing log)
    → ((u : TxId) → tx_in u set ≡ true → (has_standing log u ≡ true → committed_in log u ≡ true) ⊎ ((stage_in parts u ≡ Some Closed → ⊥) × ((p : TxId) → is_pair pairs u p ≡ true → ⊥)))
    → Stepped shard parts (gone_in set d parts) pairs (pairs_without set pairs) log [] × Lying (pairs_without set pairs) log
ordered_leave shard run parts pairs log set d o l lie h = (
  record {
    follows = tt;
    calm = tt;
    active = λ u a. (active_back set d u parts a).1;
    closed = λ u c. closed_back set d u parts c;
    kept = λ u p e. ((without_pairs set pairs u p e).0, λ c. at p c (tx_in p set) refl);
    stay = λ u p c e. pairs_stay set pairs u p (false_from_ne_true _ (λ i. both_ways _ (own_go set d u parts i) (ap is_present c))) e;
  },
  under_without set pairs log (standing log) (λ u i. ⊎_elim (λ c. inl c) (λ n. inr n.1) (h u i)) (all_stand log) lie l,
)
  where
    at : (p : TxId) → stage_in parts p ≡ Some Closed → (b : Bool) → tx_in p set ≡ b → (stage_in (gone_in set d parts) p ≡ Some Closed) ⊎ (has_standing log p ≡ true → committed_in log p ≡ true)
    at p c false out = inl (stage_other set d p parts out ∙ c)
    at p c true i = ⊎_elim (λ k. inr k) (λ n. absurd (n.0 c)) (h p i)

-- ---- a set is taken away

pub upward_under : (set : List TxId) (pairs : List (TxId × TxId)) (done : TxId → Bool) (ws : List StandingUpdate) → ((t p : TxId) → is_pair pairs t p ≡ true → tx_in p set ≡ true → tx_in t set ≡ true) → ((t : TxId) → done t ≡ true → tx_in t set ≡ false) → Under pairs done ws → Upward (is_of set) ws
upward_under set pairs done [] up open_ u = tt
upward_under set pairs done (v ∷ vs) up open_ u = (
  (λ out. all_mono _ _ (λ w l e q. ⊎_elim (λ s. subst (λ z. tx_in z set ≡ false) (sym s) out) (λ m. ⊎_elim (λ c. open_ w.tx c) (λ i. false_from_ne_true _ (λ own. both_ways _ out (up v.tx w.tx i own))) m) (l e q)) vs u.0),
  upward_under set pairs done vs up open_ u.1,
)

all_stay : (gone : StandingUpdate → Bool) (P : StandingUpdate → Type 0) (xs : List StandingUpdate) → AllByRecursion P xs → AllByRecursion P (filter (stays_by gone) xs)
all_stay gone P [] a = tt
all_stay gone P (x ∷ xs) a = cond_both (stays_by gone x) (x ∷ filter (stays_by gone) xs) (filter (stays_by gone) xs) (AllByRecursion P) (λ e. (a.0, all_stay gone P xs a.1)) (λ e. all_stay gone P xs a.1)

-- the writes of the others lie as before
under_filter : (set : List TxId) (pairs : List (TxId × TxId)) (done : TxId → Bool) (ws : List StandingUpdate) → Under pairs done ws → Under (pairs_without set pairs) done (filter (stays_of set) ws)
under_filter set pairs done [] u = tt
under_filter set pairs done (v ∷ vs) u =
    cond_both (stays_of set v) (v ∷ filter (stays_of set) vs) (filter (stays_of set) vs) (Under (pairs_without set pairs) done)
    (λ e. (all_stay (is_of set) (λ w. w.key ≡ v.key → (is_setting w.change || is_setting v.change) ≡ true → LiesOn (pairs_without set pairs) done v.tx w.tx) vs (all_mono _ _ (λ w l q s. ⊎_elim (λ s. inl s) (λ m. inr (⊎_elim (λ c. inl c) (λ i. inr (pairs_stay set pairs v.tx w.tx (not-true _ e) i)) m)) (l q s)) vs u.0), under_filter set pairs done vs u.1))
    (λ e. under_filter set pairs done vs u.1)

-- and so they do where no pair goes
pub under_stays : (gone : StandingUpdate → Bool) (pairs : List (TxId × TxId)) (done : TxId → Bool) (ws : List StandingUpdate) → Under pairs done ws → Under pairs done (filter (stays_by gone) ws)
under_stays gone pairs done [] u = tt
under_stays gone pairs done (v ∷ vs) u =
    cond_both (stays_by gone v) (v ∷ filter (stays_by gone) vs) (filter (stays_by gone) vs) (Under pairs done) (λ e. (all_stay gone _ vs u.0, under_stays gone pairs done vs u.1)) (λ e. under_stays gone pairs done vs u.1)

calm_aborts : (parts : Table Held) (ts : List TxId) → ((t : TxId) → tx_in t ts ≡ true → is_present (stage_in parts t) ≡ false) → AllByRecursion (Calm parts) (map (λ t. Abort t) ts)
calm_aborts parts [] h = tt
calm_aborts parts (t ∷ ts) h = (
  record {
    plainly = tt;
    no_update = λ u. refl;
    no_prepare = λ u. refl;
    no_abort = λ u p. false_from_ne_true _ (λ s. both_ways _ (h t (or_left _ _ (tx_self t))) (subst (λ z. is_present (stage_in parts z) ≡ true) (tx_true u t s) p));
    no_undo = λ u c. refl;
  },
  calm_aborts parts ts (λ u i. h u (or_right (tx_same t u) _ i)),
)

calm_undo : (parts : Table Held) (tx : TxId) (next : Option ℕ) (key : ℕ) (c : Change) → (stage_in parts tx ≡ Some Closed → ⊥) → Calm parts (compensation tx next key c)
calm_undo parts tx next key (Sets before after) open_ = record {
  plainly = tt;
  no_update = λ u. refl;
  no_prepare = λ u. refl;
  no_abort = λ u p. refl;
  no_undo = λ u c. tx_ne u tx (λ s. open_ (subst (λ z. stage_in parts z ≡ Some Closed) s c));
}
calm_undo parts tx next key (Adds by) open_ = record {
  plainly = tt;
  no_update = λ u. refl;
  no_prepare = λ u. refl;
  no_abort = λ u p. refl;
  no_undo = λ u c. tx_ne u tx (λ s. open_ (subst (λ z. stage_in parts z ≡ Some Closed) s c));
}

-- CLRs and UNADDs of those that aren't closed
pub calm_clrs : (parts : Table Held) (gone : StandingUpdate → Bool) (ws : List StandingUpdate) → AllByRecursion (λ w. gone w ≡ true → stage_in parts w.tx ≡ Some Closed → ⊥) ws → AllByRecursion (Calm parts) (clrs_by gone ws)
calm_clrs parts gone [] open_ = tt
calm_clrs parts gone (w ∷ ws) open_ =
    cond_both (gone w) (compensation w.tx (newest_lsn w.tx ws) w.key w.change ∷ clrs_by gone ws) (clrs_by gone ws) (AllByRecursion (Calm parts))
    (λ i. (calm_undo parts w.tx (newest_lsn w.tx ws) w.key w.change (open_.0 i), calm_clrs parts gone ws open_.1)) (λ i. calm_clrs parts gone ws open_.1)

module _ (shard run : ℕ) (parts : Table Held) (pairs : List (TxId × TxId)) (log : List LogRecord) (set : List TxId) (d : TxId) (o : Ordered shard run parts pairs log) (l : Lying pairs log)
    (upward : (t p : TxId) → is_pair pairs t p ≡ true → tx_in p set ≡ true → tx_in t set ≡ true) (open_ : (t : TxId) → tx_in t set ≡ true → committed_in log t ≡ false) (here : (t : TxId) → tx_in t set ≡ true → is_present (stage_in parts t) ≡ true) (once : Once set) where
  not_own : (t : TxId) → committed_in log t ≡ true → tx_in t set ≡ false
  not_own t c = false_from_ne_true _ (λ i. both_ways _ (open_ t i) c)

  taken_follows : Follows shard log (aborts_of log set ++ clrs_of set (standing log))
  taken_follows =
      undo_follows shard log set (filter (has_standing log) set) (ap is_some (o.last).1) (once_filter (has_standing log) set once)
      (λ t i. let f = in_filter (has_standing log) t set i in (f.1, open_ t f.0, o.unaborted t (here t f.0)))
      (upward_under set pairs (committed_in log) (standing log) upward not_own l) ((order_of shard log o.in_order).writes).falls
      (all_mono _ _ (λ w h i. inr (filter_in (has_standing log) w.tx set i h)) (standing log) (all_stand log))

  left : (t : TxId) → tx_in t set ≡ true → stage_in (gone_in set (Some d) parts) t ≡ Some Closed → ⊥
  left t i c = both_ways _ (own_go set (Some d) t parts i) (ap is_present c)

  taken_stepped : Stepped shard parts (gone_in set (Some d) parts) pairs (pairs_without set pairs) log (aborts_of log set ++ clrs_of set (standing log))
  taken_stepped = record {
    follows = taken_follows;
    calm = all_append (Calm (gone_in set (Some d) parts)) (aborts_of log set) (clrs_of set (standing log))
        (calm_aborts (gone_in set (Some d) parts) (filter (has_standing log) set) (λ t i. own_go set (Some d) t parts (in_filter (has_standing log) t set i).0)) (calm_clrs (gone_in set (Some d) parts) (is_of set) (standing log) (all_of _ (λ w i. left w.tx i) (standing log)));
    active = λ u a. (active_back set (Some d) u parts a).1;
    closed = λ u c. closed_back set (Some d) u parts c;
    kept = λ u p e. let w = without_pairs set pairs u p e in (w.0, λ c. inl (stage_other set (Some d) p parts (false_from_ne_true _ (λ i. both_ways _ w.1 (upward u p w.0 i))) ∙ c));
    stay = λ u p c e. pairs_stay set pairs u p (false_from_ne_true _ (λ i. both_ways _ (own_go set (Some d) u parts i) (ap is_present c))) e;
  }

  pub ordered_taken : Ordered shard run (gone_in set (Some d) parts) (pairs_without set pairs) (log ++ aborts_of log set ++ clrs_of set (standing log))
  ordered_taken = subst (Ordered shard run (gone_in set (Some d) parts) (pairs_without set pairs)) (sym (append_assoc log (aborts_of log set) (clrs_of set (standing log))))
      (ordered_step shard run parts (gone_in set (Some d) parts) pairs (pairs_without set pairs) log (aborts_of log set ++ clrs_of set (standing log)) o taken_stepped)

  pub lying_taken : Lying (pairs_without set pairs) (log ++ aborts_of log set ++ clrs_of set (standing log))
  lying_taken =
      subst (Under (pairs_without set pairs) (committed_in (log ++ aborts_of log set ++ clrs_of set (standing log)))) (sym (standing_undone set log))
      (under_more (pairs_without set pairs) (committed_in log) (committed_in (log ++ aborts_of log set ++ clrs_of set (standing log))) (filter (stays_of set) (standing log))
      (λ t c. ap (λ z. committed_in z t) (append_assoc log (aborts_of log set) (clrs_of set (standing log))) ∙ committed_keeps log (aborts_of log set ++ clrs_of set (standing log)) t c)
      (under_filter set pairs (committed_in log) (standing log) l))

-- ---- an active part goes back: its newest writes are taken away

module _ (shard run : ℕ) (parts : Table Held) (pairs : List (TxId × TxId)) (log : List LogRecord) (tx : TxId) (n : ℕ) (o : Ordered shard run parts pairs log) (l : Lying pairs log)
    (act : stage_in parts tx ≡ Some Active) (open_ : committed_in log tx ≡ false) (unprepared : prepared_in log tx ≡ false) where
  abbrev gone : StandingUpdate → Bool
  gone = is_at (newest_lsns n tx (standing log))

  falls : Falling (standing log)
  falls = ((order_of shard log o.in_order).writes).falls

  own : AllByRecursion (λ w. gone w ≡ true → tx_same tx w.tx ≡ true) (standing log)
  own = lsns_own n tx (standing log) falls

  -- nobody is its successor
  pub no_successor : (t : TxId) → is_pair pairs t tx ≡ true → ⊥
  no_successor t e = ⊎_elim (λ c. both_ways _ open_ c) (λ c. closed_not_active (sym c.0 ∙ act)) (o.others t tx e).1

  -- so nothing that stays lies over what it takes back
  upward_by : (ws : List StandingUpdate) → AllByRecursion (λ w. gone w ≡ true → tx_same tx w.tx ≡ true) ws → NewestGo gone ws → Under pairs (committed_in log) ws → Upward gone ws
  upward_by [] a new u = tt
  upward_by (v ∷ vs) a new u = (
    (λ out. all_mono _ _ (λ w h k q. false_from_ne_true _ (λ g.
        let e : tx ≡ w.tx = tx_true tx w.tx (h.0.0 g) in
        ⊎_elim (λ s. both_ways _ (h.0.1 (tx_eq w.tx v.tx s)) g)
        (λ m. ⊎_elim (λ c. both_ways _ (subst (λ z. committed_in log z ≡ false) e open_) c) (λ i. no_successor v.tx (subst (λ z. is_pair pairs v.tx z ≡ true) (sym e) i)) m)
        (h.1 k q))) vs (all_both _ _ vs (all_both _ _ vs a.1 (new.0 out)) u.0)),
    upward_by vs a.1 new.1 u.1,
  )

  pub upward_rolled : Upward gone (standing log)
  upward_rolled = upward_by (standing log) own (lsns_newest n tx (standing log) falls) l

  rolled_follows : Follows shard log (clrs_by gone (standing log))
  rolled_follows =
      clrs_follow shard gone log [] (standing log) (ap is_some (o.last).1) refl tt (lsns_newest n tx (standing log) falls) upward_rolled falls
      (all_mono _ _ (λ w h g. subst (λ z. may_undo log z ≡ true) (tx_true tx w.tx (h g)) (or_right (aborted_in log tx) _ (and_from _ _ (ap not unprepared) (ap not open_)))) (standing log) own)

  pub rolled_stepped : Stepped shard parts parts pairs pairs log (clrs_by gone (standing log))
  rolled_stepped = record {
    follows = rolled_follows;
    calm = calm_clrs parts gone (standing log) (all_mono _ _ (λ w h g c. closed_not_active (sym c ∙ ap (stage_in parts) (sym (tx_true tx w.tx (h g))) ∙ act)) (standing log) own);
    active = λ u a. a;
    closed = λ u c. c;
    kept = λ u p e. (e, λ c. inl c);
    stay = λ u p c e. e;
  }

  pub lying_rolled : Lying pairs (log ++ clrs_by gone (standing log))
  lying_rolled =
      subst (Under pairs (committed_in (log ++ clrs_by gone (standing log)))) (sym (standing_undone_by gone log (lsns_newest n tx (standing log) falls)))
      (under_more pairs (committed_in log) (committed_in (log ++ clrs_by gone (standing log))) (filter (stays_by gone) (standing log)) (λ t c. committed_keeps log (clrs_by gone (standing log)) t c)
      (under_stays gone pairs (committed_in log) (standing log) l))
