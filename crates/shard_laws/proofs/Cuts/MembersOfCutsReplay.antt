-- The members of a cut of a shard's log replay to their answers and to the map that it stands for.
use Rattle.std.proofs.Common.{◌≡◌, ℕ, ◌≤◌, ◌<◌, ◌⊎◌, inl, inr, ⊎_elim, Bool, true, false, cond, ◌&&◌, ◌||◌, List, [], ◌∷◌, map, Option, Some, None, refl, sym, ap, subst, ◌∙◌, not}
use Rattle.std.specs.List.{AllByRecursion, filter}
use Rattle.std.proofs.lemmas.Bool.{cases_Bool, both_ways, cond-true, or_cases, cond-false, false_from_ne_true}
use Rattle.clv_base.specs.declared.names.TxId.{TxId}
use Rattle.clv_base.specs.Orders.{tx_same, tx_in}
use Rattle.clv_base.specs.declared.changes.Change.{Change}
use Rattle.clv_base.specs.Logs.{StandingUpdate, committed_in, has_standing, standing}
use Rattle.clv_base.specs.Backs.{are_numbered}
use Rattle.clv_base.specs.State.{is_present}
use Rattle.law_base.specs.Items.{Item, Deed, wrote, held, Runs, Acts, after, AllLater, Clash, pile, on_top}
use Rattle.clv_base.proofs.SameNames.{or_left, tx_true}
use Rattle.law_base.proofs.Lists.{all_mono, all_of, all_kept, all_filter, later_mono, later_filter}
use Rattle.law_base.proofs.Standing.{all_stand}
use Rattle.law_base.proofs.Running.{top_value, Keeps}
use Rattle.law_base.proofs.Tables.{is_pair}
use Rattle.law_base.proofs.Commits.{before_second, durable_committed, before_durable}
use Rattle.shard_laws.proofs.Operations.WritesAtEachKey.{keys_top, keys_filter, keys_all}
use Rattle.shard_laws.proofs.Keeping.WhatOneShardKeeps.{Past, place, Dep, Cause, Known, Ended, is_alive}
use Rattle.shard_laws.proofs.Keeping.DeedsThatHold.{Rise, runs_held, held_chosen, between_chosen, items_later_chosen, met_mono, acts_chosen}
use Rattle.std.specs.Prelude.{take}
use Rattle.clv_base.specs.Maps.{replay_map, replay_answers}
use Rattle.clv_base.specs.Logs.{stands, fold_updates, committed_somewhere}
use Rattle.clv_base.specs.State.{Shard}
use Rattle.clv_base.proofs.Folding.{same_map}
use Rattle.shard_laws.specs.OneShard.{doer, deeds_of, deeds_by_chosen, items_in, act_of_deed, acts_by, answers_by, GoBackInOrder, NobodyBetween, is_member}
use Rattle.shard_laws.proofs.Keeping.WhatOneShardKeeps.{view_of}
use Rattle.law_base.proofs.Running.{rising_all, pile_value}
use Rattle.shard_laws.proofs.Cuts.WhatCutsHold.{durable_cut, before_cut, cut_keeps, of_kept, cut_values, fold_alike}
use Rattle.shard_laws.proofs.Events.DueKeeps.{Sound, Lost}
use Rattle.shard_laws.proofs.Cuts.MembersRunSerially.{filter_place, in_kept, Once, once_filter, serial_of}
use Rattle.law_base.proofs.Logs.{fold_rises}

-- the writes of those that pass, of items over a base that all pass
pub pile_keep : (f : TxId → Bool) (xs : List Item) (ws : List StandingUpdate) → filter (of_kept f) (pile xs ws) ≡ pile (filter (λ x. f x.tx) xs) (filter (of_kept f) ws)
pile_keep f [] ws = refl
pile_keep f (x ∷ xs) ws =
    pile_keep f xs (on_top x.tx x.lsn (wrote x) ws)
    ∙ ap (pile (filter (λ y. f y.tx) xs)) (top (wrote x))
    ∙ at (f x.tx)
  where
    same : (b : Bool) → filter (of_kept f) ws ≡ cond b (filter (of_kept f) ws) (filter (of_kept f) ws)
    same true = refl
    same false = refl

    top : (w : Option (ℕ × Change)) → filter (of_kept f) (on_top x.tx x.lsn w ws) ≡ cond (f x.tx) (on_top x.tx x.lsn w (filter (of_kept f) ws)) (filter (of_kept f) ws)
    top None = same (f x.tx)
    top (Some w) = refl

    at : (b : Bool) → pile (filter (λ y. f y.tx) xs) (cond b (on_top x.tx x.lsn (wrote x) (filter (of_kept f) ws)) (filter (of_kept f) ws)) ≡ pile (cond b (x ∷ filter (λ y. f y.tx) xs) (filter (λ y. f y.tx) xs)) (filter (of_kept f) ws)
    at true = refl
    at false = refl

pub filter_all_kept : (f : TxId → Bool) (ws : List StandingUpdate) → AllByRecursion (λ w. f w.tx ≡ true) ws → filter (of_kept f) ws ≡ ws
filter_all_kept f [] all = refl
filter_all_kept f (w ∷ ws) all = cond-true (f w.tx) (w ∷ filter (of_kept f) ws) _ all.0 ∙ ap (λ l. w ∷ l) (filter_all_kept f ws all.1)

-- the writes of those that pass, among those of more
pub filter_within : (f h : TxId → Bool) (ws : List StandingUpdate) → ((t : TxId) → f t ≡ true → h t ≡ true) → filter (of_kept f) (filter (of_kept h) ws) ≡ filter (of_kept f) ws
filter_within f h [] k = refl
filter_within f h (w ∷ ws) k = at (h w.tx) (f w.tx) refl refl (filter_within f h ws k)
  where
    at : (b c : Bool) → h w.tx ≡ b → f w.tx ≡ c → filter (of_kept f) (filter (of_kept h) ws) ≡ filter (of_kept f) ws → filter (of_kept f) (cond b (w ∷ filter (of_kept h) ws) (filter (of_kept h) ws)) ≡ cond c (w ∷ filter (of_kept f) ws) (filter (of_kept f) ws)
    at true true e q ih = cond-true (f w.tx) _ _ q ∙ ap (λ l. w ∷ l) ih
    at true false e q ih = cond-false (f w.tx) _ _ q ∙ ih
    at false true e q ih = absurd (both_ways _ e (k w.tx q))
    at false false e q ih = ih

-- those of both
pub filter_and : (f e h : TxId → Bool) (ws : List StandingUpdate) → ((t : TxId) → h t ≡ true → e t ≡ f t) → filter (of_kept e) (filter (of_kept h) ws) ≡ filter (of_kept (λ t. h t && f t)) ws
filter_and f e h [] k = refl
filter_and f e h (w ∷ ws) k = at (h w.tx) refl (filter_and f e h ws k)
  where
    at : (b : Bool) → h w.tx ≡ b → filter (of_kept e) (filter (of_kept h) ws) ≡ filter (of_kept (λ t. h t && f t)) ws → filter (of_kept e) (cond b (w ∷ filter (of_kept h) ws) (filter (of_kept h) ws)) ≡ cond (b && f w.tx) (w ∷ filter (of_kept (λ t. h t && f t)) ws) (filter (of_kept (λ t. h t && f t)) ws)
    at true q ih = ap (λ c. cond c (w ∷ filter (of_kept e) (filter (of_kept h) ws)) (filter (of_kept e) (filter (of_kept h) ws))) (k w.tx q) ∙ ap (λ l. cond (f w.tx) (w ∷ l) l) ih
    at false q ih = ih

pub filter_alike : (f h : TxId → Bool) (ws : List StandingUpdate) → AllByRecursion (λ w. f w.tx ≡ h w.tx) ws → filter (of_kept f) ws ≡ filter (of_kept h) ws
filter_alike f h [] all = refl
filter_alike f h (w ∷ ws) all = ap (λ b. cond b (w ∷ filter (of_kept f) ws) (filter (of_kept f) ws)) all.0 ∙ ap (λ l. cond (h w.tx) (w ∷ l) l) (filter_alike f h ws all.1)

-- of one that is kept all deeds are kept
pub own_chosen : (keep : TxId → Bool) (t : TxId) (ds : List Deed) → keep t ≡ true → deeds_of t (deeds_by_chosen keep ds) ≡ deeds_of t ds
own_chosen keep t [] k = refl
own_chosen keep t (d ∷ ds) k = at (keep (doer d)) (tx_same (doer d) t) refl refl (own_chosen keep t ds k)
  where
    at : (b c : Bool) → keep (doer d) ≡ b → tx_same (doer d) t ≡ c → deeds_of t (deeds_by_chosen keep ds) ≡ deeds_of t ds → deeds_of t (cond b (d ∷ deeds_by_chosen keep ds) (deeds_by_chosen keep ds)) ≡ cond c (d ∷ deeds_of t ds) (deeds_of t ds)
    at true c e f ih = ap (λ z. cond z (d ∷ deeds_of t (deeds_by_chosen keep ds)) (deeds_of t (deeds_by_chosen keep ds))) f ∙ ap (λ l. cond c (d ∷ l) l) ih
    at false true e f ih = absurd (both_ways _ e (subst (λ z. keep z ≡ true) (sym (tx_true (doer d) t f)) k))
    at false false e f ih = ih

-- of transactions that have the same deeds in two lists
abbrev pub SameDeeds : List Deed → List Deed → TxId → Type 0
SameDeeds xs ys t = deeds_of t xs ≡ deeds_of t ys

pub same_acts : (xs ys : List Deed) (ts : List TxId) → AllByRecursion (SameDeeds xs ys) ts → acts_by ts xs ≡ acts_by ts ys
same_acts xs ys [] a = refl
same_acts xs ys (t ∷ ts) a = ap (λ ds. map act_of_deed ds ∷ acts_by ts xs) a.0 ∙ ap (λ l. map act_of_deed (deeds_of t ys) ∷ l) (same_acts xs ys ts a.1)

pub same_answers : (xs ys : List Deed) (ts : List TxId) → AllByRecursion (SameDeeds xs ys) ts → answers_by ts xs ≡ answers_by ts ys
same_answers xs ys [] a = refl
same_answers xs ys (t ∷ ts) a = ap (λ ds. map (λ x. x.answer) (items_in ds) ∷ answers_by ts xs) a.0 ∙ ap (λ l. map (λ x. x.answer) (items_in (deeds_of t ys)) ∷ l) (same_answers xs ys ts a.1)

pub same_backs : (xs ys : List Deed) (ts : List TxId) → AllByRecursion (SameDeeds xs ys) ts → GoBackInOrder ts ys → GoBackInOrder ts xs
same_backs xs ys [] a b = tt
same_backs xs ys (t ∷ ts) a b = (subst (λ ds. are_numbered 0 [] (map act_of_deed ds) ≡ true) (sym a.0) b.0, same_backs xs ys ts a.1 b.1)

pub all_passed : (keep : TxId → Bool) (ts : List TxId) → AllByRecursion (λ t. keep t ≡ true) (filter keep ts)
all_passed keep ts = all_mono _ _ (λ t k. k.1) (filter keep ts) (all_filter (λ t. Unit {0}) keep ts (all_of _ (λ t. tt) ts))

module _ (all : List Deed) (g : Past) (s : Shard) (told : List TxId) (cut : ℕ) (h : Sound all g s) (le : s.durable ≤ cut) (once : Once g.asked) (all_over : (t : TxId) → tx_in t told ≡ true → tx_in t g.over ≡ true) where
  abbrev ms : List TxId
  ms = filter (is_member s cut told) g.asked

  abbrev kept : List Deed
  kept = deeds_by_chosen (is_member s cut told) g.done

  pub told_ended : (t : TxId) → tx_in t told ≡ true → Ended g (view_of s) t
  told_ended t e = h.kept.over t (all_over t e)

  pub item_asked : (t : TxId) → Known g (view_of s) t → is_member s cut told t ≡ true → tx_in t g.asked ≡ true
  item_asked t known e =
      ⊎_elim
      (λ a. absurd (⊎_elim
      (λ c. both_ways _ (h.kept.uncommitted t a) (cut_keeps cut s.local.log t c))
      (λ f. ⊎_elim (λ d. both_ways _ (h.kept.uncommitted t a) (durable_committed s.local.log s.durable t d)) (λ r. both_ways _ r.2 (ap is_present a)) (told_ended t f))
      (or_cases (committed_in (take cut s.local.log) t) (tx_in t told) e)))
      (λ r. r.0) known

  -- what a member has met is a member's
  pub cause_kept : (x y : Item) → Cause s.local.pairs s.local.log s.durable x y → Keeps (λ z. is_member s cut told z.tx) x y
  cause_kept x y causes reach member =
      ⊎_elim
      (λ same. subst (λ t. is_member s cut told t ≡ true) (sym same) member)
      (λ dep. ⊎_elim
      (λ c. or_left _ _ (⊎_elim (λ d. durable_cut s.durable cut s.local.log x.tx le d)
      (λ m. ⊎_elim (λ pair. before_cut cut s.local.log x.tx y.tx (h.kept.downwards y.tx x.tx pair (cut_keeps cut s.local.log y.tx c)) c) (λ b. before_cut cut s.local.log x.tx y.tx b c) m) dep))
      (λ f. or_left _ _ (⊎_elim (λ d. durable_cut s.durable cut s.local.log x.tx le d)
      (λ m. ⊎_elim
      (λ pair. ⊎_elim
      (λ d. durable_cut s.durable cut s.local.log x.tx le (before_durable s.local.log s.durable x.tx y.tx (h.kept.downwards y.tx x.tx pair (durable_committed s.local.log s.durable y.tx d)) d))
      (λ r. absurd (both_ways _ r.2 (h.kept.successors y.tx x.tx pair))) (told_ended y.tx f))
      (λ b. ⊎_elim (λ d. durable_cut s.durable cut s.local.log x.tx le (before_durable s.local.log s.durable x.tx y.tx b d)) (λ r. absurd (both_ways _ r.0 (before_second s.local.log x.tx y.tx b))) (told_ended y.tx f)) m) dep))
      (or_cases (committed_in (take cut s.local.log) y.tx) (tx_in y.tx told) member))
      (causes reach)

  -- whom a member depends on is committed in the cut
  pub dep_cut : (t p : TxId) → Dep (view_of s) t p → is_member s cut told t ≡ true → committed_in (take cut s.local.log) p ≡ true
  dep_cut t p dep member =
      ⊎_elim
      (λ c. ⊎_elim (λ d. durable_cut s.durable cut s.local.log p le d)
      (λ m. ⊎_elim (λ pair. before_cut cut s.local.log p t (h.kept.downwards t p pair (cut_keeps cut s.local.log t c)) c) (λ b. before_cut cut s.local.log p t b c) m) dep)
      (λ f. ⊎_elim (λ d. durable_cut s.durable cut s.local.log p le d)
      (λ m. ⊎_elim
      (λ pair. ⊎_elim
      (λ d. durable_cut s.durable cut s.local.log p le (before_durable s.local.log s.durable p t (h.kept.downwards t p pair (durable_committed s.local.log s.durable t d)) d))
      (λ r. absurd (both_ways _ r.2 (h.kept.successors t p pair))) (told_ended t f))
      (λ b. ⊎_elim (λ d. durable_cut s.durable cut s.local.log p le (before_durable s.local.log s.durable p t b d)) (λ r. absurd (both_ways _ r.0 (before_second s.local.log p t b))) (told_ended t f)) m) dep)
      (or_cases (committed_in (take cut s.local.log) t) (tx_in t told) member)

  -- whose writes a member violated is a member at an earlier place
  pub recovered : (t p : TxId) → is_pair g.met t p ≡ true → is_member s cut told t ≡ true → (is_member s cut told p ≡ true) × (place ms p < place ms t)
  recovered t p met member =
      ⊎_elim
      (λ o. absurd (⊎_elim (λ c. both_ways _ (h.falls.open_ t o.0) (cut_keeps cut s.local.log t c)) (λ f. both_ways _ (h.falls.unfinished t o.0) (all_over t f)) (or_cases (committed_in (take cut s.local.log) t) (tx_in t told) member)))
      (λ d. let there : is_member s cut told p ≡ true = or_left _ _ (dep_cut t p d.0 member) in (there, filter_place (λ u. is_member s cut told u) g.asked p t there member d.1))
      (h.kept.recover t p met)

  pub kept_acts : Acts g.start kept
  kept_acts = acts_chosen g.start (is_member s cut told) g.done h.kept.start_rises h.kept.acts h.kept.between h.kept.rising (met_mono _ _ cause_kept g.done h.kept.causes)

  kept_between : NobodyBetween [] kept
  kept_between = between_chosen (is_member s cut told) g.done h.kept.between

  pub kept_run : Runs g.start (held kept)
  kept_run = runs_held g.start kept h.kept.start_rises kept_acts kept_between (later_mono _ _ (λ d e r. r.0) kept (later_filter Rise (λ d. is_member s cut told (doer d)) g.done h.kept.rising))

  pub kept_order : AllLater (λ x y. Clash x y → (x.tx ≡ y.tx) ⊎ (place ms x.tx < place ms y.tx)) (items_in kept)
  kept_order = later_mono _ _ (λ x y o c. ⊎_elim (λ same. inl same) (λ l. inr (filter_place (λ t. is_member s cut told t) g.asked x.tx y.tx o.1 o.2 l)) (o.0 c)) (items_in kept) (items_later_chosen _ (is_member s cut told) g.done h.kept.order)

  kept_in : AllByRecursion (λ d. tx_in (doer d) ms ≡ true) kept
  kept_in = all_mono _ _ (λ d k. in_kept (λ t. is_member s cut told t) g.asked (doer d) (item_asked (doer d) k.0 k.1) k.1) kept (all_filter _ (λ d. is_member s cut told (doer d)) g.done h.kept.known)

  -- the members' deeds are all that they did
  not_lost : (t : TxId) → is_member s cut told t ≡ true → Lost g t → ⊥
  not_lost t e l = ⊎_elim (λ c. both_ways _ (h.falls.open_ t l) (cut_keeps cut s.local.log t c)) (λ f. both_ways _ (h.falls.unfinished t l) (all_over t f)) (or_cases (committed_in (take cut s.local.log) t) (tx_in t told) e)

  pub own_deeds : (t : TxId) → is_member s cut told t ≡ true → deeds_of t kept ≡ deeds_of t all
  own_deeds t e = own_chosen (is_member s cut told) t g.done e ∙ ⊎_elim (λ l. absurd (not_lost t e l)) (λ i. i) (h.told t)

  ms_same : AllByRecursion (SameDeeds kept all) ms
  ms_same = all_mono _ _ (λ t e. own_deeds t e) ms (all_passed (is_member s cut told) g.asked)

  -- ---- the map
  pub cut_base : AllByRecursion (λ w. committed_in (take cut s.local.log) w.tx ≡ true) g.base
  cut_base = all_mono _ _ (λ w d. durable_cut s.durable cut s.local.log w.tx le d) g.base h.kept.base_done

  -- a member of whom a write stands is committed in the cut
  pub writers_alike : AllByRecursion (λ w. is_member s cut told w.tx ≡ committed_in (take cut s.local.log) w.tx) (pile (held g.done) g.base)
  writers_alike = keys_all (λ w. is_member s cut told w.tx ≡ committed_in (take cut s.local.log) w.tx) (filter (of_kept (is_alive g.lost)) (standing s.local.log)) (pile (held g.done) g.base) h.kept.standing_is
      (all_kept _ (of_kept (is_alive g.lost)) (standing s.local.log) (all_mono _ _ (λ w st. alike w.tx st) (standing s.local.log) (all_stand s.local.log)))
    where
      or_nothing : (a : Bool) → (a || false) ≡ a
      or_nothing true = refl
      or_nothing false = refl

      alike : (t : TxId) → has_standing s.local.log t ≡ true → is_member s cut told t ≡ committed_in (take cut s.local.log) t
      alike t w =
          ⊎_elim
          (λ f. ⊎_elim (λ d. let c = durable_cut s.durable cut s.local.log t le d in or_left _ _ c ∙ sym c) (λ r. absurd (both_ways _ r.1 w)) (told_ended t f))
          (λ f. ap (λ b. committed_in (take cut s.local.log) t || b) f ∙ or_nothing _)
          (cases_Bool (tx_in t told))

  somewhere : (t : TxId) → committed_somewhere (take cut s.local.log ∷ []) t ≡ committed_in (take cut s.local.log) t
  somewhere t = at (committed_in (take cut s.local.log) t)
    where
      at : (a : Bool) → (a || false) ≡ a
      at true = refl
      at false = refl

  same_stands : after g.start (held kept) ≡ stands (take cut s.local.log ∷ [])
  same_stands =
      same_map (after g.start (held kept)) (fold_updates (committed_in (take cut s.local.log)) (take cut s.local.log) [])
      (rising_all (held kept) g.start h.kept.start_rises) (fold_rises (committed_in (take cut s.local.log)) (take cut s.local.log) [] tt)
      (λ q. pile_value g.floor (held kept) g.start g.base q kept_run (h.kept.base_value q)
      ∙ ap (λ ws. top_value g.floor q (pile (held kept) ws)) (sym (filter_all_kept (λ t. is_member s cut told t) g.base (all_mono _ _ (λ w c. or_left _ _ c) g.base cut_base)))
      ∙ ap (λ xs. top_value g.floor q (pile xs (filter (of_kept (λ t. is_member s cut told t)) g.base))) (held_chosen (is_member s cut told) g.done)
      ∙ ap (top_value g.floor q) (sym (pile_keep (λ t. is_member s cut told t) (held g.done) g.base) ∙ filter_alike (λ t. is_member s cut told t) (committed_in (take cut s.local.log)) (pile (held g.done) g.base) writers_alike)
      ∙ sym (keys_top g.floor (filter (of_kept (committed_in (take cut s.local.log))) (filter (of_kept (is_alive g.lost)) (standing s.local.log))) (filter (of_kept (committed_in (take cut s.local.log))) (pile (held g.done) g.base)) q
      (keys_filter (of_kept (committed_in (take cut s.local.log))) (filter (of_kept (is_alive g.lost)) (standing s.local.log)) (pile (held g.done) g.base) h.kept.standing_is))
      ∙ ap (top_value g.floor q) (filter_within (committed_in (take cut s.local.log)) (is_alive g.lost) (standing s.local.log) (λ t c. ap not (false_from_ne_true _ (λ l. both_ways _ (h.falls.open_ t l) (cut_keeps cut s.local.log t c)))))
      ∙ sym (cut_values g (view_of s) cut q h.kept le))
      ∙ sym (fold_alike (committed_somewhere (take cut s.local.log ∷ [])) (committed_in (take cut s.local.log)) (take cut s.local.log) [] somewhere)

  -- ---- all of it
  pub serial_run : GoBackInOrder (filter (is_member s cut told) g.asked) all
      → (replay_answers g.start (acts_by (filter (is_member s cut told) g.asked) all) ≡ answers_by (filter (is_member s cut told) g.asked) all)
      × (replay_map g.start (acts_by (filter (is_member s cut told) g.asked) all) ≡ stands (take cut s.local.log ∷ []))
  serial_run back =
      let run = serial_of ms g.start kept (once_filter (λ t. is_member s cut told t) g.asked once) h.kept.start_rises kept_acts kept_order kept_between kept_in (same_backs kept all ms ms_same back) in
      let acts = same_acts kept all ms ms_same in
      (ap (replay_answers g.start) (sym acts) ∙ run.0 ∙ same_answers kept all ms ms_same, ap (replay_map g.start) (sym acts) ∙ run.1 ∙ same_stands)
