-- CLRs and UNADDs may follow a log: each compensates its transaction's newest write, a CLR the newest write of its key, and over what an UNADD
-- compensates no UPDATE stands. So may the ABORTs of a set before them: of each once, of which a write stands.
use Rattle.std.proofs.Common.{◌≡◌, ◌⊎◌, inl, inr, ⊎_elim, refl, sym, ap, subst, ◌∙◌, ℕ, suc, ◌<◌, Bool, true, false, not, ◌&&◌, ◌||◌, nat_lt, List, [], ◌∷◌, ◌++◌, map, Option, Some, None, is_some, ◌==◌, length, ◌+◌, append_assoc, eq-eqb, eqb-true, arith}
use Rattle.std.specs.List.{AllByRecursion, list_all}
use Rattle.std.proofs.lemmas.Bool.{both_ways, or_cases, cond_both, cond-true, cond-false, and_parts, and_from, ltb-true, false_from_ne_true}
use Rattle.clv_base.specs.declared.names.TxId.{TxId}
use Rattle.clv_base.specs.declared.logs.LogRecord.{LogRecord}
use Rattle.clv_base.specs.declared.logs.LogRecord.TheVariants.{Clr, Abort, Unadd}
use Rattle.clv_base.specs.declared.changes.Change.{Change}
use Rattle.clv_base.specs.declared.changes.Change.TheVariants.{Sets, Adds}
use Rattle.clv_base.specs.Orders.{tx_same, tx_in}
use Rattle.clv_base.specs.Logs.{StandingUpdate, is_setting, standing, standing_after, standing_from, has_standing, committed_in, prepared_in, aborted_in, is_commit_of, is_prepare_of, is_abort_of, newest_of, newest_at, without_newest}
use Rattle.clv_base.specs.LogRules.{last_restart, same_option, lies_below, clears, unadds, compensates, may_undo, may_follow}
use Rattle.clv_base.specs.Undo.{is_of, clrs_by, clrs_of, compensation, newest_lsn}
use Rattle.clv_base.proofs.SameNames.{or_left, or_right, tx_self, tx_ne, tx_flip}
use Rattle.law_base.proofs.Lists.{all_mono, all_push}
use Rattle.law_base.proofs.Standing.{standing_append}
use Rattle.law_base.proofs.Undoing.{NewestGo, Upward, set_newest}
use Rattle.law_base.proofs.Options.{option_self, optional_value_self}
use Rattle.protocol_laws.proofs.LogsInOrder.OneRecordMore.{push_right, push_false, push_same}
use Rattle.shard_laws.proofs.Cuts.MembersRunSerially.{Once}
use Rattle.protocol_laws.proofs.LogsInOrder.StandingUpdatesLie.{Falling}
use Rattle.shard_laws.proofs.Order.RecordByRecord.{Follows, Plainly, follows_append, last_push}
use Rattle.shard_laws.proofs.Order.WhoseWritesStand.{has_still}
use Rattle.law_base.proofs.Logs.{push_left}

-- ---- ABORTs

pub aborts_follow : (shard : ℕ) (log : List LogRecord) (ts : List TxId) → is_some (last_restart log) ≡ true → Once ts → ((t : TxId) → tx_in t ts ≡ true → (has_standing log t ≡ true) × (committed_in log t ≡ false) × (aborted_in log t ≡ false))
    → Follows shard log (map (λ t. Abort t) ts)
aborts_follow shard log [] s o h = tt
aborts_follow shard log (t ∷ ts) s o h =
    let m = h t (or_left _ _ (tx_self t)) in (
      and_from _ _ (and_from _ _ (and_from _ _ s m.0) (ap not m.1)) (ap not m.2),
      aborts_follow shard (log ++ Abort t ∷ []) ts (ap is_some (last_push log (Abort t) tt) ∙ s) o.1 (λ u i.
          let n = h u (or_right (tx_same t u) _ i) in
          (has_still log (Abort t ∷ []) u refl n.0, push_false (is_commit_of u) log (Abort t) n.1 refl, push_false (is_abort_of u) log (Abort t) n.2 (tx_ne u t (λ e. both_ways _ o.0 (subst (λ z. tx_in z ts ≡ true) e i))))),
    )

pub aborted_now : (log : List LogRecord) (ts : List TxId) (t : TxId) → (aborted_in log t ≡ true) ⊎ (tx_in t ts ≡ true) → aborted_in (log ++ map (λ t. Abort t) ts) t ≡ true
aborted_now log [] t e = subst (λ l. aborted_in l t ≡ true) (sym (nothing log)) (⊎_elim (λ a. a) (λ a. absurd (both_ways false refl a)) e)
  where
    nothing : (l : List LogRecord) → l ++ [] ≡ l
    nothing [] = refl
    nothing (r ∷ rs) = ap (λ z. r ∷ z) (nothing rs)
aborted_now log (u ∷ us) t e =
    subst (λ l. aborted_in l t ≡ true) (append_assoc log (Abort u ∷ []) (map (λ t. Abort t) us))
    (aborted_now (log ++ Abort u ∷ []) us t (⊎_elim (λ a. inl (push_left (is_abort_of t) log (Abort u) a)) (λ a. ⊎_elim (λ s. inl (push_right (is_abort_of t) log (Abort u) (tx_flip u t s))) (λ i. inr i) (or_cases (tx_same u t) (tx_in t us) a)) e))

pub standing_aborted : (log : List LogRecord) (ts : List TxId) → standing (log ++ map (λ t. Abort t) ts) ≡ standing log
standing_aborted log ts = standing_append 0 log (map (λ t. Abort t) ts) [] ∙ none (0 + length log) ts (standing log)
  where
    none : (n : ℕ) (us : List TxId) (ws : List StandingUpdate) → standing_from n (map (λ t. Abort t) us) ws ≡ ws
    none n [] ws = refl
    none n (u ∷ us) ws = none (suc n) us ws

pub last_aborted : (log : List LogRecord) (ts : List TxId) → last_restart (log ++ map (λ t. Abort t) ts) ≡ last_restart log
last_aborted log [] = ap last_restart (nothing log)
  where
    nothing : (l : List LogRecord) → l ++ [] ≡ l
    nothing [] = refl
    nothing (r ∷ rs) = ap (λ z. r ∷ z) (nothing rs)
last_aborted log (u ∷ us) = ap last_restart (sym (append_assoc log (Abort u ∷ []) (map (λ t. Abort t) us))) ∙ last_aborted (log ++ Abort u ∷ []) us ∙ last_push log (Abort u) tt

-- ---- CLRs

newest_skip : (t : TxId) (pre ws : List StandingUpdate) → AllByRecursion (λ v. tx_same t v.tx ≡ false) pre → newest_of t (pre ++ ws) ≡ newest_of t ws
newest_skip t [] ws none = refl
newest_skip t (v ∷ vs) ws none = cond-false (tx_same t v.tx) (Some v) (newest_of t (vs ++ ws)) none.0 ∙ newest_skip t vs ws none.1

at_skip : (k : ℕ) (pre ws : List StandingUpdate) → AllByRecursion (λ v. (k == v.key) ≡ false) pre → newest_at k (pre ++ ws) ≡ newest_at k ws
at_skip k [] ws none = refl
at_skip k (v ∷ vs) ws none = cond-false (k == v.key) (Some v) (newest_at k (vs ++ ws)) none.0 ∙ at_skip k vs ws none.1

drop_first : (t : TxId) (pre : List StandingUpdate) (w : StandingUpdate) (ws : List StandingUpdate) → AllByRecursion (λ v. tx_same t v.tx ≡ false) pre → tx_same t w.tx ≡ true → without_newest t (pre ++ w ∷ ws) ≡ pre ++ ws
drop_first t [] w ws none e = cond-true _ _ _ e
drop_first t (v ∷ vs) w ws none e = cond-false _ _ _ none.0 ∙ ap (λ l. v ∷ l) (drop_first t vs w ws none.1 e)

all_in : (P : StandingUpdate → Type 0) (pre : List StandingUpdate) (w : StandingUpdate) (ws : List StandingUpdate) → AllByRecursion P (pre ++ w ∷ ws) → P w
all_in P [] w ws a = a.0
all_in P (v ∷ vs) w ws a = all_in P vs w ws a.1

all_drop : (P : StandingUpdate → Type 0) (pre : List StandingUpdate) (w : StandingUpdate) (ws : List StandingUpdate) → AllByRecursion P (pre ++ w ∷ ws) → AllByRecursion P (pre ++ ws)
all_drop P [] w ws a = a.1
all_drop P (v ∷ vs) w ws a = (a.0, all_drop P vs w ws a.1)

-- those that stay, before one that is taken back, are of others
none_of : (gone : StandingUpdate → Bool) (pre : List StandingUpdate) (w : StandingUpdate) (ws : List StandingUpdate) → gone w ≡ true → AllByRecursion (λ v. gone v ≡ false) pre → NewestGo gone (pre ++ w ∷ ws) → AllByRecursion (λ v. tx_same w.tx v.tx ≡ false) pre
none_of gone [] w ws i st n = tt
none_of gone (v ∷ vs) w ws i st n =
    (false_from_ne_true _ (λ s. both_ways _ (all_in (λ u. tx_same u.tx v.tx ≡ true → gone u ≡ false) vs w ws (n.0 st.0) s) i), none_of gone vs w ws i st.1 n.1)

-- over an UPDATE that is taken back stands nothing, at its key
apart_keys : (gone : StandingUpdate → Bool) (pre : List StandingUpdate) (w : StandingUpdate) (ws : List StandingUpdate) → is_setting w.change ≡ true → AllByRecursion (λ v. gone v ≡ false) pre → Upward gone (pre ++ w ∷ ws) → gone w ≡ true
    → AllByRecursion (λ v. (w.key == v.key) ≡ false) pre
apart_keys gone [] w ws sets st up i = tt
apart_keys gone (v ∷ vs) w ws sets st up i = (
  false_from_ne_true _ (λ e. both_ways _ (all_in (λ u. u.key ≡ v.key → (is_setting u.change || is_setting v.change) ≡ true → gone u ≡ false) vs w ws (up.0 st.0) (eqb-true w.key v.key e) (or_left _ _ sets)) i),
  apart_keys gone vs w ws sets st.1 up.1 i,
)

-- ---- without one of them

newest_drop : (gone : StandingUpdate → Bool) (pre : List StandingUpdate) (w : StandingUpdate) (ws : List StandingUpdate) → NewestGo gone (pre ++ w ∷ ws) → NewestGo gone (pre ++ ws)
newest_drop gone [] w ws n = n.1
newest_drop gone (v ∷ vs) w ws n = ((λ o. all_drop _ vs w ws (n.0 o)), newest_drop gone vs w ws n.1)

upward_drop : (gone : StandingUpdate → Bool) (pre : List StandingUpdate) (w : StandingUpdate) (ws : List StandingUpdate) → Upward gone (pre ++ w ∷ ws) → Upward gone (pre ++ ws)
upward_drop gone [] w ws up = up.1
upward_drop gone (v ∷ vs) w ws up = ((λ out. all_drop _ vs w ws (up.0 out)), upward_drop gone vs w ws up.1)

falling_drop : (pre : List StandingUpdate) (w : StandingUpdate) (ws : List StandingUpdate) → Falling (pre ++ w ∷ ws) → Falling (pre ++ ws)
falling_drop [] w ws f = f.1
falling_drop (v ∷ vs) w ws f = (all_drop _ vs w ws f.0, falling_drop vs w ws f.1)

-- ---- no UPDATE stands over an ADD that is taken back, at its key

module _ (gone : StandingUpdate → Bool) (w : StandingUpdate) (i : gone w ≡ true) (adds : is_setting w.change ≡ false) where
  abbrev Under : StandingUpdate → Bool
  Under v = not (is_setting v.change && lies_below w v)

  not_lower : (v : StandingUpdate) → v.lsn < w.lsn → Under v ≡ true
  not_lower v low = ap not (false_from_ne_true _ (λ e.
      let p = and_parts (is_setting v.change) (lies_below w v) e in
      let q = and_parts ((v.key == w.key) && nat_lt w.lsn v.lsn) (is_setting w.change || is_setting v.change) p.1 in
      let l = ltb-true w.lsn v.lsn (and_parts (v.key == w.key) (nat_lt w.lsn v.lsn) q.0).1 in
      omega (arith, l, low)))

  none_lower : (ws : List StandingUpdate) → AllByRecursion (λ v. v.lsn < w.lsn) ws → list_all Under ws ≡ true
  none_lower [] low = refl
  none_lower (v ∷ vs) low = and_from _ _ (not_lower v low.0) (none_lower vs low.1)

  none_over : (pre ws : List StandingUpdate) → AllByRecursion (λ v. gone v ≡ false) pre → Upward gone (pre ++ w ∷ ws) → Falling (pre ++ w ∷ ws) → list_all Under (pre ++ w ∷ ws) ≡ true
  none_over [] ws st up fall = and_from _ _ (ap (λ b. not (b && lies_below w w)) adds) (none_lower ws fall.0)
  none_over (v ∷ vs) ws st up fall =
      and_from _ _
      (ap not (false_from_ne_true _ (λ e.
      let p = and_parts (is_setting v.change) (lies_below w v) e in
      let q = and_parts ((v.key == w.key) && nat_lt w.lsn v.lsn) (is_setting w.change || is_setting v.change) p.1 in
      let same : w.key ≡ v.key = sym (eqb-true v.key w.key (and_parts (v.key == w.key) (nat_lt w.lsn v.lsn) q.0).0) in
      both_ways _ (all_in (λ u. u.key ≡ v.key → (is_setting u.change || is_setting v.change) ≡ true → gone u ≡ false) vs w ws (up.0 st.0) same (or_right (is_setting w.change) _ p.0)) i)))
      (none_over vs ws st.1 up.1 fall.1)

-- ---- the newest of its transaction is compensated

undo_case : (test : StandingUpdate → Bool) (log : List LogRecord) (w : StandingUpdate) (next : Option ℕ) (o : Option StandingUpdate) → o ≡ Some w → test w ≡ true → next ≡ newest_lsn w.tx (without_newest w.tx (standing log))
    → compensates test w.tx next w.key (standing log) o ≡ true
undo_case test log w next o e t below = subst (λ z. compensates test w.tx next w.key (standing log) z ≡ true) (sym e)
    (and_from _ _ (and_from _ _ (eq-eqb w.key w.key refl) t)
    (subst (λ z. same_option z (newest_lsn w.tx (without_newest w.tx (standing log))) ≡ true) (sym below) (option_self (newest_lsn w.tx (without_newest w.tx (standing log))))))

undo_may : (shard : ℕ) (gone : StandingUpdate → Bool) (log : List LogRecord) (pre : List StandingUpdate) (w : StandingUpdate) (ws : List StandingUpdate) → is_some (last_restart log) ≡ true → standing log ≡ pre ++ w ∷ ws → AllByRecursion (λ v. gone v ≡ false) pre
    → NewestGo gone (pre ++ w ∷ ws) → Upward gone (pre ++ w ∷ ws) → Falling (pre ++ w ∷ ws) → gone w ≡ true → may_undo log w.tx ≡ true → (c : Change) → w.change ≡ c → may_follow shard log (compensation w.tx (newest_lsn w.tx ws) w.key c) ≡ true
undo_may shard gone log pre w ws s e st newest up fall i may c is = at c is
  where
    none : AllByRecursion (λ v. tx_same w.tx v.tx ≡ false) pre
    none = none_of gone pre w ws i st newest

    own : newest_of w.tx (standing log) ≡ Some w
    own = ap (newest_of w.tx) e ∙ newest_skip w.tx pre (w ∷ ws) none ∙ cond-true (tx_same w.tx w.tx) (Some w) (newest_of w.tx ws) (tx_self w.tx)

    next : newest_lsn w.tx ws ≡ newest_lsn w.tx (without_newest w.tx (standing log))
    next = ap (λ o. elim o [ Some v ↦ Some v.lsn | None ↦ None ]) (sym (newest_skip w.tx pre ws none)) ∙ ap (newest_lsn w.tx) (sym (ap (without_newest w.tx) e ∙ drop_first w.tx pre w ws none (tx_self w.tx)))

    on_top : is_setting w.change ≡ true → newest_at w.key (standing log) ≡ Some w
    on_top sets = ap (newest_at w.key) e ∙ at_skip w.key pre (w ∷ ws) (apart_keys gone pre w ws sets st up i) ∙ cond-true (w.key == w.key) (Some w) (newest_at w.key ws) (eq-eqb w.key w.key refl)

    at : (c : Change) → w.change ≡ c → may_follow shard log (compensation w.tx (newest_lsn w.tx ws) w.key c) ≡ true
    at (Sets before after) is =
        and_from _ _ (and_from _ _ s may)
        (undo_case (λ u. clears u before (standing log) u.change) log w (newest_lsn w.tx ws) (newest_of w.tx (standing log)) own
        (subst (λ z. clears w before (standing log) z ≡ true) (sym is)
        (and_from _ _ (optional_value_self before) (subst (λ z. elim z [ Some v ↦ v.lsn == w.lsn | None ↦ false ] ≡ true) (sym (on_top (ap is_setting is))) (eq-eqb w.lsn w.lsn refl))))
        next)
    at (Adds by) is =
        and_from _ _ (and_from _ _ s may)
        (undo_case (λ u. unadds u by (standing log) u.change) log w (newest_lsn w.tx ws) (newest_of w.tx (standing log)) own
        (subst (λ z. unadds w by (standing log) z ≡ true) (sym is)
        (and_from _ _ (eq-eqb by by refl) (subst (λ l. list_all (λ v. not (is_setting v.change && lies_below w v)) l ≡ true) (sym e) (none_over gone w i (ap is_setting is) pre ws st up fall))))
        next)

pub plainly_compensation : (tx : TxId) (next : Option ℕ) (key : ℕ) (c : Change) → Plainly (compensation tx next key c)
plainly_compensation tx next key (Sets before after) = tt
plainly_compensation tx next key (Adds by) = tt

compensated : (n : ℕ) (tx : TxId) (next : Option ℕ) (key : ℕ) (c : Change) (ws : List StandingUpdate) → standing_after n (compensation tx next key c) ws ≡ without_newest tx ws
compensated n tx next key (Sets before after) ws = refl
compensated n tx next key (Adds by) ws = refl

-- whose writes may be undone, theirs may be undone still
still_may : (log : List LogRecord) (tx : TxId) (next : Option ℕ) (key : ℕ) (c : Change) (t : TxId) → may_undo log t ≡ true → may_undo (log ++ compensation tx next key c ∷ []) t ≡ true
still_may log tx next key c t m = at c
  where
    by : (r : LogRecord) → is_abort_of t r ≡ false → is_prepare_of t r ≡ false → is_commit_of t r ≡ false → may_undo (log ++ r ∷ []) t ≡ true
    by r a p k =
        ap (λ b. b || (not (prepared_in (log ++ r ∷ []) t) && not (committed_in (log ++ r ∷ []) t))) (sym (push_same (is_abort_of t) log r a))
        ∙ ap (λ b. aborted_in log t || (not b && not (committed_in (log ++ r ∷ []) t))) (sym (push_same (is_prepare_of t) log r p))
        ∙ ap (λ b. aborted_in log t || (not (prepared_in log t) && not b)) (sym (push_same (is_commit_of t) log r k))
        ∙ m

    at : (c : Change) → may_undo (log ++ compensation tx next key c ∷ []) t ≡ true
    at (Sets before after) = by (Clr tx next key before) refl refl refl
    at (Adds n) = by (Unadd tx next key n) refl refl refl

pub clrs_follow : (shard : ℕ) (gone : StandingUpdate → Bool) (log : List LogRecord) (pre ws : List StandingUpdate) → is_some (last_restart log) ≡ true → standing log ≡ pre ++ ws → AllByRecursion (λ v. gone v ≡ false) pre → NewestGo gone (pre ++ ws) → Upward gone (pre ++ ws) → Falling (pre ++ ws)
    → AllByRecursion (λ w. gone w ≡ true → may_undo log w.tx ≡ true) ws → Follows shard log (clrs_by gone ws)
clrs_follow shard gone log pre [] s e st newest up fall may = tt
clrs_follow shard gone log pre (w ∷ ws) s e st newest up fall may =
    let r : LogRecord = compensation w.tx (newest_lsn w.tx ws) w.key w.change in
    cond_both (gone w) (compensation w.tx (newest_lsn w.tx ws) w.key w.change ∷ clrs_by gone ws) (clrs_by gone ws) (Follows shard log)
    (λ i. (
      undo_may shard gone log pre w ws s e st newest up fall i (may.0 i) w.change refl,
      clrs_follow shard gone (log ++ r ∷ []) pre ws (ap is_some (last_push log r (plainly_compensation w.tx (newest_lsn w.tx ws) w.key w.change)) ∙ s)
          (standing_append 0 log (r ∷ []) [] ∙ compensated (0 + length log) w.tx (newest_lsn w.tx ws) w.key w.change (standing log) ∙ ap (without_newest w.tx) e ∙ drop_first w.tx pre w ws (none_of gone pre w ws i st newest) (tx_self w.tx)) st
          (newest_drop gone pre w ws newest) (upward_drop gone pre w ws up) (falling_drop pre w ws fall) (all_mono _ _ (λ v h j. still_may log w.tx (newest_lsn w.tx ws) w.key w.change v.tx (h j)) ws may.1),
    ))
    (λ i. clrs_follow shard gone log (pre ++ w ∷ []) ws s (e ∙ sym (append_assoc pre (w ∷ []) ws)) (all_push _ pre w st i) (subst (NewestGo gone) (sym (append_assoc pre (w ∷ []) ws)) newest) (subst (Upward gone) (sym (append_assoc pre (w ∷ []) ws)) up)
    (subst Falling (sym (append_assoc pre (w ∷ []) ws)) fall) may.1)

-- ---- both

pub undo_follows : (shard : ℕ) (log : List LogRecord) (set ts : List TxId) → is_some (last_restart log) ≡ true → Once ts → ((t : TxId) → tx_in t ts ≡ true → (has_standing log t ≡ true) × (committed_in log t ≡ false) × (aborted_in log t ≡ false))
    → Upward (is_of set) (standing log) → Falling (standing log) → AllByRecursion (λ w. tx_in w.tx set ≡ true → (aborted_in log w.tx ≡ true) ⊎ (tx_in w.tx ts ≡ true)) (standing log) → Follows shard log (map (λ t. Abort t) ts ++ clrs_of set (standing log))
undo_follows shard log set ts s once open_ up falls ab =
    follows_append shard log (map (λ t. Abort t) ts) (clrs_of set (standing log)) (aborts_follow shard log ts s once open_)
    (clrs_follow shard (is_of set) (log ++ map (λ t. Abort t) ts) [] (standing log) (ap is_some (last_aborted log ts) ∙ s) (standing_aborted log ts) tt (set_newest set (standing log)) up falls
    (all_mono _ _ (λ w h i. or_left _ _ (aborted_now log ts w.tx (h i))) (standing log) ab))
