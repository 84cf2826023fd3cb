-- What a running shard keeps for the order rules of its log, and which changes keep it.
use Rattle.std.proofs.Common.{◌≡◌, ◌⊎◌, inl, inr, ⊎_elim, refl, sym, ap, subst, ◌∙◌, ℕ, ◌≤◌, ◌<◌, Bool, true, false, cond, not, ◌&&◌, ◌||◌, List, [], ◌∷◌, ◌++◌, Option, Some, None, is_some, ◌==◌, nat_lt, arith, eqb-true, eq-eqb, append-nil, append_assoc}
use Rattle.std.specs.List.{AllByRecursion, filter, list_any, list_all}
use Rattle.std.proofs.lemmas.Bool.{both_ways, or_cases, and_parts, and_from, not-true, false_from_ne_true, ltb-true, or_from}
use Rattle.std.proofs.lemmas.List.Folds.{list_any-append}
use Rattle.clv_base.specs.declared.names.TxId.{TxId}
use Rattle.clv_base.specs.declared.logs.LogRecord.{LogRecord}
use Rattle.clv_base.specs.declared.logs.LogRecord.TheVariants.{Update, Clr, Prepare, Commit, Abort, End, Restart, Add, Unadd, Forgotten, Check}
use Rattle.clv_base.specs.declared.state.Stage.TheVariants.{Active, Closed}
use Rattle.clv_base.specs.declared.state.Held.{Held}
use Rattle.clv_base.specs.Orders.{Table, tx_same, tx_in, nat_in}
use Rattle.clv_base.specs.State.{is_present}
use Rattle.clv_base.specs.Logs.{is_setting, StandingUpdate, standing, committed_in, prepared_in, aborted_in, wrote_in, has_standing, prepare_of, is_update_of, is_undo_of, is_prepare_of, is_abort_of}
use Rattle.clv_base.specs.LogRules.{lies_below, may_follow, disorder, last_restart, before_restart, is_current, has_above, writes_below, listed_in, commit_by_prepare, some_parts}
use Rattle.clv_base.specs.Restarts.{greatest_run}
use Rattle.clv_base.proofs.SameNames.{or_left, or_right, tx_true, tx_eq, tx_ne}
use Rattle.law_base.proofs.Standing.{stood_before}
use Rattle.law_base.proofs.Lists.{all_mono, all_both}
use Rattle.law_base.proofs.Tables.{stage_in, is_pair}
use Rattle.law_base.proofs.Commits.{committed_keeps}
use Rattle.law_base.proofs.Stages.{present_is}
use Rattle.protocol_laws.proofs.LogsInOrder.StandingUpdatesLie.{Falling}
use Rattle.shard_laws.proofs.Keeping.ChangesKeepPrepared.{by_prepare, prepared_append}
use Rattle.shard_laws.proofs.Order.RecordByRecord.{Follows, Plainly, last_push, before_push, greatest_plain}
use Rattle.shard_laws.proofs.Order.WhoIsListed.{Named, named_more, unlisted_all, OldParted, old_more}
use Rattle.shard_laws.proofs.Order.WhoseWritesStand.{has_still, new_standing}
use Rattle.law_base.proofs.Parts.{in_order_more}
use Rattle.law_base.proofs.Names.{own_in as each_in}
use Rattle.law_base.proofs.Logs.{no_prepare as prepare_none}

-- what lies under a standing write is its transaction's own, of one that is done, or of a predecessor
abbrev pub LiesOn : List (TxId × TxId) → (TxId → Bool) → TxId → TxId → Type 0
LiesOn pairs done t p = (p ≡ t) ⊎ ((done p ≡ true) ⊎ (is_pair pairs t p ≡ true))

abbrev pub Under : List (TxId × TxId) → (TxId → Bool) → List StandingUpdate → Type 0
Under pairs done [] = Unit {0}
Under pairs done (v ∷ vs) = AllByRecursion (λ w. w.key ≡ v.key → (is_setting w.change || is_setting v.change) ≡ true → LiesOn pairs done v.tx w.tx) vs × Under pairs done vs

abbrev pub Lying : List (TxId × TxId) → List LogRecord → Type 0
Lying pairs log = Under pairs (committed_in log) (standing log)

pub record Ordered (shard run : ℕ) (parts : Table Held) (pairs : List (TxId × TxId)) (log : List LogRecord) : Type 0 where
  pub in_order : disorder shard log ≡ None
  -- whom a PREPARE lists has one, or is of an earlier run
  pub named : Named run log
  -- who is committed in what a checkpoint kept is of an earlier run
  pub old : OldParted run log
  -- its last RESTART is of this run, and none is of a later one
  pub last : (epoch : ℕ) × (last_restart log ≡ Some (run, epoch))
  pub latest : greatest_run log ≤ run
  -- an active part is of this run, and wrote nothing before the last RESTART
  pub of_run : (t : TxId) → stage_in parts t ≡ Some Active → t.run ≡ run
  pub new : (t : TxId) → stage_in parts t ≡ Some Active → wrote_in (before_restart [] log) t ≡ false
  -- who is here has no ABORT; who is closed is prepared or committed, where a write of it stands
  pub unaborted : (t : TxId) → is_present (stage_in parts t) ≡ true → aborted_in log t ≡ false
  pub decided : (t : TxId) → stage_in parts t ≡ Some Closed → has_standing log t ≡ true → (prepared_in log t ≡ true) ⊎ (committed_in log t ≡ true)
  -- a predecessor is another one, committed, or closed here, and a write of it stands; whom a PREPARE lists is committed or one still
  pub others : (t p : TxId) → is_pair pairs t p ≡ true → (t ≡ p → ⊥) × ((committed_in log p ≡ true) ⊎ ((stage_in parts p ≡ Some Closed) × (has_standing log p ≡ true)))
  pub lists : (t p : TxId) → stage_in parts t ≡ Some Closed → tx_in p (listed_in log t) ≡ true → (committed_in log p ≡ true) ⊎ (is_pair pairs t p ≡ true)

-- ---- lists of records

pub last_all : (log more : List LogRecord) → AllByRecursion Plainly more → last_restart (log ++ more) ≡ last_restart log
last_all log [] p = ap last_restart (append-nil log)
last_all log (r ∷ rs) p = ap last_restart (sym (append_assoc log (r ∷ []) rs)) ∙ last_all (log ++ r ∷ []) rs p.1 ∙ last_push log r p.0

before_all : (log more : List LogRecord) → AllByRecursion Plainly more → before_restart [] (log ++ more) ≡ before_restart [] log
before_all log [] p = ap (before_restart []) (append-nil log)
before_all log (r ∷ rs) p = ap (before_restart []) (sym (append_assoc log (r ∷ []) rs)) ∙ before_all (log ++ r ∷ []) rs p.1 ∙ before_push [] log r p.0

pub greatest_all : (log more : List LogRecord) (n : ℕ) → AllByRecursion Plainly more → greatest_run log ≤ n → greatest_run (log ++ more) ≤ n
greatest_all log [] n p l = subst (λ z. greatest_run z ≤ n) (sym (append-nil log)) l
greatest_all log (r ∷ rs) n p l = subst (λ z. greatest_run z ≤ n) (append_assoc log (r ∷ []) rs) (greatest_all (log ++ r ∷ []) rs n p.1 (greatest_plain log r n p.0 l))

none_any : (test : LogRecord → Bool) (rs : List LogRecord) → AllByRecursion (λ r. test r ≡ false) rs → list_any test rs ≡ false
none_any test [] all = refl
none_any test (r ∷ rs) all = ap (λ b. b || list_any test rs) all.0 ∙ none_any test rs all.1

from_first : (test : LogRecord → Bool) (log more : List LogRecord) → list_any test more ≡ false → list_any test (log ++ more) ≡ true → list_any test log ≡ true
from_first test log more none e = ⊎_elim (λ h. h) (λ h. absurd (both_ways _ none h)) (or_cases (list_any test log) (list_any test more) (sym (list_any-append test log more) ∙ e))

none_both : (test : LogRecord → Bool) (log more : List LogRecord) → list_any test log ≡ false → list_any test more ≡ false → list_any test (log ++ more) ≡ false
none_both test log more e f = list_any-append test log more ∙ or_from _ _ e f

some_case : (b c : Bool) (x : ℕ × List TxId) (o : Option (ℕ × List TxId)) → (b || c) ≡ true → (c ≡ true → (p : ℕ × List TxId) × (o ≡ Some p)) → (p : ℕ × List TxId) × (cond b (Some x) o ≡ Some p)
some_case true c x o e k = (x, refl)
some_case false c x o e k = k e

-- who is prepared has a PREPARE
pub prepare_some : (rs : List LogRecord) (t : TxId) → prepared_in rs t ≡ true → (p : ℕ × List TxId) × (prepare_of rs t ≡ Some p)
prepare_some [] t e = absurd (both_ways false refl e)
prepare_some (Prepare tx home ps ∷ rs) t e = some_case (tx_same t tx) (prepared_in rs t) (home, ps) (prepare_of rs t) e (prepare_some rs t)
prepare_some (Update tx k b a ∷ rs) t e = prepare_some rs t e
prepare_some (Clr tx u k a ∷ rs) t e = prepare_some rs t e
prepare_some (Commit tx ps ∷ rs) t e = prepare_some rs t e
prepare_some (Abort tx ∷ rs) t e = prepare_some rs t e
prepare_some (End tx ∷ rs) t e = prepare_some rs t e
prepare_some (Restart run epoch ∷ rs) t e = prepare_some rs t e
prepare_some (Add tx k by ∷ rs) t e = prepare_some rs t e
prepare_some (Unadd tx u k by ∷ rs) t e = prepare_some rs t e
prepare_some (Forgotten ∷ rs) t e = prepare_some rs t e
prepare_some (Check run' epoch' upto base ∷ rs) t e = prepare_some rs t e

pub prepare_same : (log more : List LogRecord) (t : TxId) → prepared_in more t ≡ false → prepare_of (log ++ more) t ≡ prepare_of log t
prepare_same [] more t e = prepare_none more t e
prepare_same (Prepare tx home ps ∷ rs) more t e = ap (λ o. cond (tx_same t tx) (Some (home, ps)) o) (prepare_same rs more t e)
prepare_same (Update tx k b a ∷ rs) more t e = prepare_same rs more t e
prepare_same (Clr tx u k a ∷ rs) more t e = prepare_same rs more t e
prepare_same (Commit tx ps ∷ rs) more t e = prepare_same rs more t e
prepare_same (Abort tx ∷ rs) more t e = prepare_same rs more t e
prepare_same (End tx ∷ rs) more t e = prepare_same rs more t e
prepare_same (Restart run epoch ∷ rs) more t e = prepare_same rs more t e
prepare_same (Add tx k by ∷ rs) more t e = prepare_same rs more t e
prepare_same (Unadd tx u k by ∷ rs) more t e = prepare_same rs more t e
prepare_same (Forgotten ∷ rs) more t e = prepare_same rs more t e
prepare_same (Check run' epoch' upto base ∷ rs) more t e = prepare_same rs more t e

pub listed_same : (log more : List LogRecord) (t : TxId) → prepared_in more t ≡ false → listed_in (log ++ more) t ≡ listed_in log t
listed_same log more t e = ap by_prepare (prepare_same log more t e)

pub unlisted : (log : List LogRecord) (t : TxId) → prepared_in log t ≡ false → listed_in log t ≡ []
unlisted log t e = ap by_prepare (prepare_none log t e)

-- ---- a step: more records, parts that leave, pairs that go

-- no ABORT of one that is here, no CLR or UNADD of one that is closed, and no RESTART, UPDATE, ADD or PREPARE
pub record Calm (parts : Table Held) (r : LogRecord) : Type 0 where
  pub plainly : Plainly r
  pub no_update : (t : TxId) → is_update_of t r ≡ false
  pub no_prepare : (t : TxId) → is_prepare_of t r ≡ false
  pub no_abort : (t : TxId) → is_present (stage_in parts t) ≡ true → is_abort_of t r ≡ false
  pub no_undo : (t : TxId) → stage_in parts t ≡ Some Closed → is_undo_of t r ≡ false

pub record Stepped (shard : ℕ) (parts parts2 : Table Held) (pairs pairs2 : List (TxId × TxId)) (log more : List LogRecord) : Type 0 where
  pub follows : Follows shard log more
  pub calm : AllByRecursion (Calm parts2) more
  pub active : (t : TxId) → stage_in parts2 t ≡ Some Active → stage_in parts t ≡ Some Active
  pub closed : (t : TxId) → stage_in parts2 t ≡ Some Closed → stage_in parts t ≡ Some Closed
  pub kept : (t p : TxId) → is_pair pairs2 t p ≡ true → (is_pair pairs t p ≡ true) × ((stage_in parts p ≡ Some Closed) → (stage_in parts2 p ≡ Some Closed) ⊎ ((has_standing log p ≡ true) → committed_in log p ≡ true))
  pub stay : (t p : TxId) → stage_in parts2 t ≡ Some Closed → is_pair pairs t p ≡ true → is_pair pairs2 t p ≡ true

pub ordered_step : (shard run : ℕ) (parts parts2 : Table Held) (pairs pairs2 : List (TxId × TxId)) (log more : List LogRecord) → Ordered shard run parts pairs log → Stepped shard parts parts2 pairs pairs2 log more → Ordered shard run parts2 pairs2 (log ++ more)
ordered_step shard run parts parts2 pairs pairs2 log more o s = record {
  in_order = in_order_more shard log more o.in_order s.follows;
  named = named_more run log more (unlisted_all more (all_mono _ _ (λ r c. c.no_prepare) more s.calm)) o.named;
  old = old_more shard run log more o.in_order s.follows o.old;
  last = ((o.last).0, last_all log more plain ∙ (o.last).1);
  latest = greatest_all log more run plain o.latest;
  of_run = λ t a. o.of_run t (s.active t a);
  new = λ t a. ap (λ l. wrote_in l t) (before_all log more plain) ∙ o.new t (s.active t a);
  unaborted = λ t p. none_both (is_abort_of t) log more (o.unaborted t (⊎_elim (λ a. ap is_present (s.active t a)) (λ c. ap is_present (s.closed t c)) (present_is (stage_in parts2 t) p)))
      (none_any (is_abort_of t) more (all_mono _ _ (λ r c. c.no_abort t p) more s.calm));
  decided = λ t c w. ⊎_elim (λ p. inl (prepared_append log more t ∙ or_left _ _ p)) (λ k. inr (committed_keeps log more t k)) (o.decided t (s.closed t c) (stood_before log more t (no_updates t) w));
  others = λ t p e.
      let k = s.kept t p e in
      let q = o.others t p k.0 in
      (q.0, ⊎_elim (λ c. inl (committed_keeps log more p c)) (λ c. ⊎_elim (λ i. inr (i, has_still log more p (no_undos p i) c.1)) (λ d. inl (committed_keeps log more p (d c.1))) (k.1 c.0)) q.1);
  lists = λ t p c i. ⊎_elim (λ k. inl (committed_keeps log more p k)) (λ e. inr (s.stay t p c e)) (o.lists t p (s.closed t c) (ap (tx_in p) (sym (listed_same log more t (no_prepares t))) ∙ i));
}
  where
    plain : AllByRecursion Plainly more
    plain = all_mono _ _ (λ r c. c.plainly) more s.calm

    no_updates : (t : TxId) → wrote_in more t ≡ false
    no_updates t = none_any (is_update_of t) more (all_mono _ _ (λ r c. c.no_update t) more s.calm)

    no_undos : (t : TxId) → stage_in parts2 t ≡ Some Closed → list_any (is_undo_of t) more ≡ false
    no_undos t i = none_any (is_undo_of t) more (all_mono _ _ (λ r c. c.no_undo t i) more s.calm)

    no_prepares : (t : TxId) → prepared_in more t ≡ false
    no_prepares t = none_any (is_prepare_of t) more (all_mono _ _ (λ r c. c.no_prepare t) more s.calm)

-- who is prepared asked, or is of an earlier run
abbrev pub AskedFirst : List TxId → ℕ → List LogRecord → Type 0
AskedFirst asked run log = (t : TxId) → prepared_in log t ≡ true → (tx_in t asked ≡ true) ⊎ (t.run < run)

pub asked_more : (asked : List TxId) (run : ℕ) (log more : List LogRecord) → ((t : TxId) → prepared_in more t ≡ false) → AskedFirst asked run log → AskedFirst asked run (log ++ more)
asked_more asked run log more none a t e = a t (from_first (is_prepare_of t) log more (none t) e)

-- a record more, where parts and pairs stay
pub ordered_record : (shard run : ℕ) (parts : Table Held) (pairs : List (TxId × TxId)) (log : List LogRecord) (r : LogRecord) → Ordered shard run parts pairs log → may_follow shard log r ≡ true → Calm parts r → Ordered shard run parts pairs (log ++ r ∷ [])
ordered_record shard run parts pairs log r o m c =
    ordered_step shard run parts parts pairs pairs log (r ∷ []) o
    (record { follows = (m, tt); calm = (c, tt); active = λ t a. a; closed = λ t a. a; kept = λ t p e. (e, λ i. inl i); stay = λ t p i e. e })

-- only parts and pairs
pub ordered_parts : (shard run : ℕ) (parts parts2 : Table Held) (pairs pairs2 : List (TxId × TxId)) (log : List LogRecord) → Ordered shard run parts pairs log → Stepped shard parts parts2 pairs pairs2 log [] → Ordered shard run parts2 pairs2 log
ordered_parts shard run parts parts2 pairs pairs2 log o s = subst (Ordered shard run parts2 pairs2) (append-nil log) (ordered_step shard run parts parts2 pairs pairs2 log [] o s)

-- ---- what lies under a write

pub under_more : (pairs : List (TxId × TxId)) (f h : TxId → Bool) (ws : List StandingUpdate) → ((t : TxId) → f t ≡ true → h t ≡ true) → Under pairs f ws → Under pairs h ws
under_more pairs f h [] more u = tt
under_more pairs f h (v ∷ vs) more u = (all_mono _ _ (λ w l e q. ⊎_elim (λ s. inl s) (λ m. inr (⊎_elim (λ c. inl (more w.tx c)) (λ p. inr p) m)) (l e q)) vs u.0, under_more pairs f h vs more u.1)

-- records that leave the standing writes
pub lying_more : (pairs : List (TxId × TxId)) (log more : List LogRecord) → standing (log ++ more) ≡ standing log → Lying pairs log → Lying pairs (log ++ more)
lying_more pairs log more e l =
    subst (Under pairs (committed_in (log ++ more))) (sym e) (under_more pairs (committed_in log) (committed_in (log ++ more)) (standing log) (λ t c. committed_keeps log more t c) l)

none_above : (tx : TxId) (u : StandingUpdate) (vs : List StandingUpdate) → AllByRecursion (λ v. v.lsn ≤ u.lsn) vs → has_above tx u vs ≡ false
none_above tx u [] a = refl
none_above tx u (v ∷ vs) a = or_from _ _ (false_from_ne_true _ below) (none_above tx u vs a.1)
  where
    below : (tx_same tx v.tx && lies_below u v) ≡ true → ⊥
    below e =
        let p = and_parts (tx_same tx v.tx) (lies_below u v) e in
        let q = and_parts ((v.key == u.key) && nat_lt u.lsn v.lsn) (is_setting u.change || is_setting v.change) p.1 in
        let l = ltb-true u.lsn v.lsn (and_parts (v.key == u.key) (nat_lt u.lsn v.lsn) q.0).1 in let m = a.0 in omega (arith, l, m)

pub below_all : (pairs : List (TxId × TxId)) (done : TxId → Bool) (tx : TxId) (ws : List StandingUpdate) → Falling ws → Under pairs done ws → AllByRecursion (λ w. has_above tx w ws ≡ true → LiesOn pairs done tx w.tx) ws
below_all pairs done tx [] f u = tt
below_all pairs done tx (v ∷ vs) f u = (
  (λ e. absurd (both_ways _ (none_above tx v (v ∷ vs) (omega arith, all_mono _ _ (λ w l. omega (arith, l)) vs f.0)) e)),
  all_mono _ _ (λ w h e. ⊎_elim
      (λ t. let p = and_parts (tx_same tx v.tx) (lies_below w v) t in
      let q = and_parts ((v.key == w.key) && nat_lt w.lsn v.lsn) (is_setting w.change || is_setting v.change) p.1 in
      let r = and_parts (v.key == w.key) (nat_lt w.lsn v.lsn) q.0 in
      subst (λ z. LiesOn pairs done z w.tx) (sym (tx_true tx v.tx p.0)) (h.0 (sym (eqb-true v.key w.key r.0)) q.1))
      (λ t. h.1 t)
      (or_cases (tx_same tx v.tx && lies_below w v) (has_above tx w vs) e))
      vs (all_both _ _ vs u.0 (below_all pairs done tx vs f.1 u.1)),
)

pub list_all_from : {I : Type 0} (f : I → Bool) (xs : List I) → AllByRecursion (λ x. f x ≡ true) xs → list_all f xs ≡ true
list_all_from f [] a = refl
list_all_from f (x ∷ xs) a = and_from _ _ a.0 (list_all_from f xs a.1)

list_all_filter : {I : Type 0} (f g : I → Bool) (xs : List I) → AllByRecursion (λ x. g x ≡ true → f x ≡ true) xs → list_all f (filter g xs) ≡ true
list_all_filter f g [] a = refl
list_all_filter f g (x ∷ xs) a = at (g x) refl (list_all_filter f g xs a.1)
  where
    at : (b : Bool) → g x ≡ b → list_all f (filter g xs) ≡ true → list_all f (cond b (x ∷ filter g xs) (filter g xs)) ≡ true
    at true e k = and_from _ _ (a.0 e) k
    at false e k = k

-- all that lies under its writes passes
pub under_all : (pairs : List (TxId × TxId)) (done f : TxId → Bool) (tx : TxId) (ws : List StandingUpdate) → Falling ws → Under pairs done ws → ((p : TxId) → (done p ≡ true) ⊎ (is_pair pairs tx p ≡ true) → f p ≡ true) → list_all (λ w. f w.tx) (writes_below tx ws) ≡ true
under_all pairs done f tx ws fall u h =
    list_all_filter (λ w. f w.tx) (λ w. not (tx_same tx w.tx) && has_above tx w ws) ws
    (all_mono _ _ (λ w l e. let p = and_parts (not (tx_same tx w.tx)) (has_above tx w ws) e in ⊎_elim (λ s. absurd (both_ways _ (not-true _ p.0) (tx_eq tx w.tx (sym s)))) (λ m. h w.tx m) (l p.1)) ws (below_all pairs done tx ws fall u))

-- ---- which records may follow

module _ (shard run : ℕ) (parts : Table Held) (pairs : List (TxId × TxId)) (log : List LogRecord) (o : Ordered shard run parts pairs log) (l : Lying pairs log) (fall : Falling (standing log)) where
  pub restarted : is_some (last_restart log) ≡ true
  restarted = ap is_some (o.last).1

  pub this_run : (t : TxId) → t.run ≡ run → prepared_in log t ≡ false → is_current log t ≡ true
  this_run t e none = and_from _ _ (ap (λ z. elim z [ Some p ↦ t.run == p.0 | None ↦ false ]) (o.last).1 ∙ eq-eqb t.run run e)
      (ap not (false_from_ne_true _ (λ i. ⊎_elim (λ p. both_ways _ none p) (λ l. omega (arith, e, l)) (o.named t i))))

  pub commit_follows : (t : TxId) (ps : List ℕ) → is_present (stage_in parts t) ≡ true → committed_in log t ≡ false → nat_in shard ps ≡ false → ((p : TxId) → is_pair pairs t p ≡ true → committed_in log p ≡ true)
      → ((p : TxId) → tx_in p (listed_in log t) ≡ true → committed_in log p ≡ true) → commit_by_prepare shard log t ps (prepare_of log t) ≡ true → (has_standing log t || some_parts ps) ≡ true → may_follow shard log (Commit t ps) ≡ true
  commit_follows t ps here open_ home before listed by wrote =
      and_from _ _ (and_from _ _ (and_from _ _ (and_from _ _ (and_from _ _ (and_from _ _ (and_from _ _ restarted (ap not open_)) (ap not (o.unaborted t here))) (ap not home))
      (list_all_from (committed_in log) (listed_in log t) (all_mono _ _ (λ p i. listed p i) (listed_in log t) (each_in (listed_in log t)))))
      (under_all pairs (committed_in log) (committed_in log) t (standing log) fall l (λ p e. ⊎_elim (λ c. c) (λ i. before p i) e))) by) wrote

  pub prepare_follows : (t : TxId) (home : ℕ) (ps : List TxId) → stage_in parts t ≡ Some Active → has_standing log t ≡ true → prepared_in log t ≡ false → committed_in log t ≡ false → ((p : TxId) → tx_in p ps ≡ true → (is_pair pairs t p ≡ true) × (committed_in log p ≡ false))
      → ((p : TxId) → is_pair pairs t p ≡ true → (committed_in log p ≡ true) ⊎ (tx_in p ps ≡ true)) → may_follow shard log (Prepare t home ps) ≡ true
  prepare_follows t home ps act wrote unprepared open_ mine all_mine =
      and_from _ _ (and_from _ _ (and_from _ _ (and_from _ _ (and_from _ _ (and_from _ _ restarted (new_standing shard log o.in_order t wrote (o.new t act))) (ap not unprepared)) (ap not open_)) (ap not (o.unaborted t (ap is_present act))))
      (list_all_from _ ps (all_mono _ _ (λ p i. one p (mine p i)) ps (each_in ps))))
      (under_all pairs (committed_in log) (λ p. committed_in log p || tx_in p ps) t (standing log) fall l (λ p e. ⊎_elim (λ c. or_left _ _ c) (λ i. either p (all_mine p i)) e))
    where
      either : (p : TxId) → (committed_in log p ≡ true) ⊎ (tx_in p ps ≡ true) → (committed_in log p || tx_in p ps) ≡ true
      either p (inl c) = or_left _ _ c
      either p (inr i) = or_right (committed_in log p) _ i

      one : (p : TxId) → (is_pair pairs t p ≡ true) × (committed_in log p ≡ false) → (not (tx_same p t) && prepared_in log p && not (committed_in log p) && not (aborted_in log p)) ≡ true
      one p (e, c) =
          let q = o.others t p e in
          ⊎_elim (λ k. absurd (both_ways _ c k))
          (λ k. ⊎_elim
          (λ r. and_from _ _ (and_from _ _ (and_from _ _ (ap not (tx_ne p t (λ s. q.0 (sym s)))) r) (ap not c)) (ap not (o.unaborted p (ap is_present k.0))))
          (λ r. absurd (both_ways _ c r)) (o.decided p k.0 k.1)) q.1
