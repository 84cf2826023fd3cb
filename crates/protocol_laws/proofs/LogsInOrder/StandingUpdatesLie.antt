-- The standing writes of a log in order.
use Rattle.std.proofs.Common.{◌≡◌, ⊎_elim, refl, sym, ap, subst, ◌∙◌, ℕ, suc, ◌<◌, Bool, true, false, cond, not, ◌&&◌, ◌||◌, List, [], ◌∷◌, ◌++◌, length, Option, Some, None, ◌==◌, arith, eqb-true, eq-eqb}
use Rattle.std.specs.List.{AllByRecursion, filter, list_all, list_any}
use Rattle.std.proofs.lemmas.Bool.{cases_Bool, both_ways, cond_both, cond-false, not-true, false_from_ne_true, and_from, lt-ltb}
use Rattle.std.proofs.lemmas.Option.{same_Some}
use Rattle.clv_base.specs.declared.values.Value.{Value as ValueType}
use Rattle.clv_base.specs.declared.names.TxId.{TxId}
use Rattle.clv_base.specs.declared.logs.LogRecord.{LogRecord}
use Rattle.clv_base.specs.declared.logs.LogRecord.TheVariants.{Update, Clr, Prepare, Commit, Abort, End, Restart, Add, Unadd, Forgotten, Check}
use Rattle.clv_base.specs.Orders.{tx_same}
use Rattle.clv_base.specs.declared.changes.Change.{Change}
use Rattle.clv_base.specs.declared.changes.Change.TheVariants.{Sets, Adds}
use Rattle.clv_base.specs.Maps.{KeyMap}
use Rattle.clv_base.specs.Logs.{StandingUpdate, base_of, changed, is_setting, standing, standing_after, without_newest, newest_at, newest_of, committed_in, is_commit_of, value_in}
use Rattle.clv_base.specs.LogRules.{has_above, lies_below, clears, unadds, compensates}
use Rattle.law_base.specs.Coming.{may_come_writing, may_come}
use Rattle.clv_base.proofs.SameNames.{or_left, or_right, tx_true, tx_self}
use Rattle.law_base.proofs.Lists.{all_mono, all_both, filter_passes}
use Rattle.law_base.proofs.Running.{top_value}
use Rattle.law_base.proofs.Undoing.{IsOver, Chain}
use Rattle.law_base.proofs.Options.{optional_value_true}
use Rattle.protocol_laws.specs.Order.{LieOnThese}
use Rattle.protocol_laws.proofs.LogsInOrder.OneRecordMore.{push_cases, push_right, push_same}
use Rattle.law_base.proofs.Bools.{and_first as front, and_second as last}
use Rattle.law_base.proofs.Logs.{push_left}
use Rattle.law_base.proofs.Names.{all_without}

-- each is at a lower place than those before it
abbrev pub Falling : List StandingUpdate → Type 0
Falling [] = Unit {0}
Falling (w ∷ ws) = AllByRecursion (λ v. v.lsn < w.lsn) ws × Falling ws

pub record Writes (floor : KeyMap) (these : TxId → Bool) (n : ℕ) (ws : List StandingUpdate) : Type 0 where
  pub chain : Chain floor ws
  pub falls : Falling ws
  pub low : AllByRecursion (λ w. w.lsn < n) ws
  pub lie : LieOnThese these ws

-- ---- without the newest of a transaction

falls_without : (t : TxId) (ws : List StandingUpdate) → Falling ws → Falling (without_newest t ws)
falls_without t [] f = tt
falls_without t (w ∷ ws) f = cond_both (tx_same t w.tx) ws (w ∷ without_newest t ws) Falling (λ e. f.1) (λ e. (all_without _ t ws f.0, falls_without t ws f.1))

lie_without : (these : TxId → Bool) (t : TxId) (ws : List StandingUpdate) → LieOnThese these ws → LieOnThese these (without_newest t ws)
lie_without these t [] l = tt
lie_without these t (w ∷ ws) l =
    cond_both (tx_same t w.tx) ws (w ∷ without_newest t ws) (LieOnThese these) (λ e. l.1) (λ e. ((λ c. all_without _ t ws (l.0 c)), lie_without these t ws l.1))

none_some : {X : Type 0} {Y : Type 0} (x : X) → ◌≡◌ {A = Option X} None (Some x) → Y
none_some x e = absurd cc

-- where the newest of the transaction is of another key, the key's value stays
top_without : (floor : KeyMap) (t : TxId) (k : ℕ) (u : StandingUpdate) (ws : List StandingUpdate) → newest_of t ws ≡ Some u → (k == u.key) ≡ false → top_value floor k (without_newest t ws) ≡ top_value floor k ws
top_without floor t k u [] e d = none_some u e
top_without floor t k u (w ∷ ws) e d = at (tx_same t w.tx) e (λ f. top_without floor t k u ws f d)
  where
    at : (b : Bool) → cond b (Some w) (newest_of t ws) ≡ Some u → (newest_of t ws ≡ Some u → top_value floor k (without_newest t ws) ≡ top_value floor k ws) → top_value floor k (cond b ws (w ∷ without_newest t ws)) ≡ top_value floor k (w ∷ ws)
    at true f ih = sym (cond-false (k == w.key) (changed w.change (top_value floor k ws)) (top_value floor k ws) (subst (λ z. (k == z.key) ≡ false) (sym (same_Some w u f)) d))
    at false f ih = ap (λ v. cond (k == w.key) (changed w.change v) v) (ih f)

low_of : (t : TxId) (u : StandingUpdate) (n : ℕ) (ws : List StandingUpdate) → newest_of t ws ≡ Some u → AllByRecursion (λ v. v.lsn < n) ws → u.lsn < n
low_of t u n [] e a = none_some u e
low_of t u n (w ∷ ws) e a = at (tx_same t w.tx) e (λ f. low_of t u n ws f a.1)
  where
    at : (b : Bool) → cond b (Some w) (newest_of t ws) ≡ Some u → (newest_of t ws ≡ Some u → u.lsn < n) → u.lsn < n
    at true f ih = subst (λ z. z.lsn < n) (same_Some w u f) a.0
    at false f ih = ih f

-- no UPDATE of the key of a write stands above it, and where it is an UPDATE no write at all
abbrev OnTop : StandingUpdate → List StandingUpdate → Type 0
OnTop u ws = AllByRecursion (λ v. u.key ≡ v.key → u.lsn < v.lsn → (is_setting u.change ≡ false) × (is_setting v.change ≡ false)) ws

over_add : (c : Change) (v : Option ValueType) → is_setting c ≡ false → IsOver c v
over_add (Sets before after) v e = absurd (both_ways true e refl)
over_add (Adds by) v e = tt

chain_without : (floor : KeyMap) (t : TxId) (u : StandingUpdate) (ws : List StandingUpdate) → newest_of t ws ≡ Some u → OnTop u ws → Falling ws → Chain floor ws → Chain floor (without_newest t ws)
chain_without floor t u [] e n f c = tt
chain_without floor t u (w ∷ ws) e n f c = at (tx_same t w.tx) e (λ g. chain_without floor t u ws g n.1 f.1 c.1)
  where
    flipped : (u.key == w.key) ≡ false → (w.key == u.key) ≡ false
    flipped d = false_from_ne_true _ (λ k. both_ways _ d (eq-eqb u.key w.key (sym (eqb-true w.key u.key k))))

    later : newest_of t ws ≡ Some u → IsOver w.change (top_value floor w.key (without_newest t ws))
    later g =
        ⊎_elim
        (λ k. over_add w.change _ (n.0 (eqb-true u.key w.key k) (low_of t u w.lsn ws g f.0)).1)
        (λ d. subst (IsOver w.change) (sym (top_without floor t w.key u ws g (flipped d))) c.0)
        (cases_Bool (u.key == w.key))

    at : (b : Bool) → cond b (Some w) (newest_of t ws) ≡ Some u → (newest_of t ws ≡ Some u → Chain floor (without_newest t ws)) → Chain floor (cond b ws (w ∷ without_newest t ws))
    at true g ih = c.1
    at false g ih = (later g, ih g)

-- what a CLR compensates: the newest write of its key
newest_by : (u : StandingUpdate) (o : Option StandingUpdate) → elim o [ Some v ↦ v.lsn == u.lsn | None ↦ false ] ≡ true → (v : StandingUpdate) × (o ≡ Some v) × (v.lsn ≡ u.lsn)
newest_by u None e = absurd (both_ways false refl e)
newest_by u (Some v) e = (v, refl, eqb-true v.lsn u.lsn e)

-- the newest of a key is above all others of it
on_top_all : (u v : StandingUpdate) (ws : List StandingUpdate) → newest_at u.key ws ≡ Some v → v.lsn ≡ u.lsn → Falling ws → OnTop u ws
on_top_all u v [] e l f = tt
on_top_all u v (w ∷ ws) e l f = at (u.key == w.key) refl e (λ g. on_top_all u v ws g l f.1)
  where
    lower : (x : StandingUpdate) → x.lsn < w.lsn → w.lsn ≡ u.lsn → u.key ≡ x.key → u.lsn < x.lsn → (is_setting u.change ≡ false) × (is_setting x.change ≡ false)
    lower x a b k m = absurd (omega (arith, a, b, m))

    at : (b : Bool) → (u.key == w.key) ≡ b → cond b (Some w) (newest_at u.key ws) ≡ Some v → (newest_at u.key ws ≡ Some v → OnTop u ws) → OnTop u (w ∷ ws)
    at true k g ih =
        let same : w.lsn ≡ u.lsn = ap (λ z. z.lsn) (same_Some w v g) ∙ l in
        ((λ j m. absurd (omega (arith, same, m))), all_mono _ _ (λ x a j m. lower x a same j m) ws f.0)
    at false k g ih = ((λ j m. absurd (both_ways _ k (eq-eqb u.key w.key j))), ih g)

cleared_top : (w : StandingUpdate) (after : Option ValueType) (ws : List StandingUpdate) (c : Change) → clears w after ws c ≡ true → Falling ws → OnTop w ws
cleared_top w after ws (Sets before set) e f = let v = newest_by w (newest_at w.key ws) (last _ _ e) in on_top_all w v.0 ws v.1 v.2 f
cleared_top w after ws (Adds by) e f = absurd (both_ways false refl e)

-- what an UNADD compensates: an ADD over which no UPDATE of its key stands
under_none : (w : StandingUpdate) (ws : List StandingUpdate) → is_setting w.change ≡ false → list_all (λ v. not (is_setting v.change && lies_below w v)) ws ≡ true → OnTop w ws
under_none w [] a e = tt
under_none w (v ∷ vs) a e = (
  (λ k l. (
    a,
    false_from_ne_true _ (λ s.
        both_ways _ (not-true _ (front _ _ e)) (and_from _ _ s (and_from _ _ (and_from _ _ (eq-eqb v.key w.key (sym k)) (lt-ltb w.lsn v.lsn l)) (or_right (is_setting w.change) _ s)))),
  )),
  under_none w vs a (last _ _ e),
)

unadded_top : (w : StandingUpdate) (by : ℕ) (ws : List StandingUpdate) (c : Change) → c ≡ w.change → unadds w by ws c ≡ true → OnTop w ws
unadded_top w by ws (Sets before set) is e = absurd (both_ways false refl e)
unadded_top w by ws (Adds added) is e = under_none w ws (ap is_setting (sym is)) (last _ _ e)

-- the write that is compensated
compensated : (log : List LogRecord) (tx : TxId) (next : Option ℕ) (key : ℕ) (test : StandingUpdate → Bool) (o : Option StandingUpdate) → newest_of tx (standing log) ≡ o
    → compensates test tx next key (standing log) o ≡ true → ((u : StandingUpdate) → test u ≡ true → OnTop u (standing log)) → Falling (standing log) → Chain (base_of log) (standing log)
    → Chain (base_of log) (without_newest tx (standing log))
compensated log tx next key test None e c top f k = absurd (both_ways false refl c)
compensated log tx next key test (Some u) e c top f k = chain_without (base_of log) tx u (standing log) e (top u (last _ _ (front _ _ c))) f k

-- ---- these, and more of them

pub lie_alike : (f h : TxId → Bool) (ws : List StandingUpdate) → ((t : TxId) → f t ≡ h t) → LieOnThese f ws → LieOnThese h ws
lie_alike f h [] e l = tt
lie_alike f h (w ∷ ws) e l = ((λ c. all_mono _ _ (λ v k q s. sym (e v.tx) ∙ k q s) ws (l.0 (e w.tx ∙ c))), lie_alike f h ws e l.1)

-- one more of these: what lies below its writes is of these already
module _ (tx : TxId) (f h : TxId → Bool) (all : List StandingUpdate) (more : (t : TxId) → f t ≡ true → h t ≡ true) (only : (t : TxId) → h t ≡ true → f t ≡ false → t ≡ tx) (own : h tx ≡ true) where
  abbrev Below : StandingUpdate → Type 0
  Below v = (not (tx_same tx v.tx) && has_above tx v all) ≡ true → f v.tx ≡ true

  -- a write of its own above it
  under : (w v : StandingUpdate) → w.tx ≡ tx → list_any (λ u. tx_same tx u.tx && lies_below v u) all ≡ true → Below v → h v.tx ≡ true
  under w v e a b = ⊎_elim (λ s. subst (λ z. h z ≡ true) (tx_true tx v.tx s) own) (λ s. more v.tx (b (and_from _ _ (ap not s) a))) (cases_Bool (tx_same tx v.tx))

  pub lie_more : (ws : List StandingUpdate) → ((test : StandingUpdate → Bool) → list_any test ws ≡ true → list_any test all ≡ true) → AllByRecursion Below ws → Falling ws → LieOnThese f ws → LieOnThese h ws
  lie_more [] part b fall l = tt
  lie_more (w ∷ ws) part b fall l = (head, lie_more ws (λ test e. part test (or_right (test w) _ e)) b.1 fall.1 l.1)
    where
      passes : (v : StandingUpdate) → w.tx ≡ tx → v.lsn < w.lsn → v.key ≡ w.key → (is_setting v.change || is_setting w.change) ≡ true → (tx_same tx w.tx && lies_below v w) ≡ true
      passes v e low k s = and_from _ _ (subst (λ z. tx_same tx z ≡ true) (sym e) (tx_self tx)) (and_from _ _ (and_from _ _ (eq-eqb w.key v.key (sym k)) (lt-ltb v.lsn w.lsn low)) s)

      one : (v : StandingUpdate) → w.tx ≡ tx → Below v × (v.lsn < w.lsn) → v.key ≡ w.key → (is_setting v.change || is_setting w.change) ≡ true → h v.tx ≡ true
      one v e p k s = under w v e (part (λ u. tx_same tx u.tx && lies_below v u) (or_left _ _ (passes v e p.1 k s))) p.0

      head : h w.tx ≡ true → AllByRecursion (λ v. v.key ≡ w.key → (is_setting v.change || is_setting w.change) ≡ true → h v.tx ≡ true) ws
      head c =
          ⊎_elim (λ old. all_mono _ _ (λ v k q s. more v.tx (k q s)) ws (l.0 old))
          (λ new. let e = only w.tx c new in all_mono _ _ (λ v p k s. one v e p k s) ws (all_both _ _ ws b.1 fall.0))
          (cases_Bool (f w.tx))

-- ---- a record more

quiet : (log : List LogRecord) (r : LogRecord) (ws : List StandingUpdate) → ((t : TxId) → is_commit_of t r ≡ false) → Writes (base_of log) (committed_in log) (length log) ws → Writes (base_of log) (committed_in (log ++ r ∷ [])) (suc (length log)) ws
quiet log r ws none k =
    record {
      chain = k.chain;
      falls = k.falls;
      low = all_mono _ _ (λ w l. omega (arith, l)) ws k.low;
      lie = lie_alike (committed_in log) (committed_in (log ++ r ∷ [])) ws (λ t. push_same (is_commit_of t) log r (none t)) k.lie;
    }

commit_only : (log : List LogRecord) (tx : TxId) (parts : List ℕ) (t : TxId) → committed_in (log ++ Commit tx parts ∷ []) t ≡ true → committed_in log t ≡ false → t ≡ tx
commit_only log tx parts t c n = ⊎_elim (λ a. absurd (both_ways _ n a)) (λ a. tx_true t tx a) (push_cases (is_commit_of t) log (Commit tx parts) c)

-- who may write is not committed
open_of : (part log : List LogRecord) (tx : TxId) → may_come_writing part log tx ≡ true → not (committed_in log tx) ≡ true
open_of part log tx m = last _ _ (front _ _ (front _ _ m))

pub writes_step : (shard : ℕ) (part log : List LogRecord) (r : LogRecord) → may_come shard part log r ≡ true → Writes (base_of log) (committed_in log) (length log) (standing log) → Writes (base_of log) (committed_in (log ++ r ∷ [])) (suc (length log)) (standing_after (length log) r (standing log))
writes_step shard part log (Update tx key before after) m k =
    let r = Update tx key before after in
    let q = quiet log r (standing log) (λ t. refl) k in
    record {
      chain = (optional_value_true before (value_in log key) (last _ _ (front _ _ (front _ _ m))), k.chain);
      falls = (k.low, k.falls);
      low = (omega arith, q.low);
      lie = ((λ c. absurd (both_ways _ (sym (push_same (is_commit_of tx) log r refl) ∙ not-true _ (open_of part log tx (front _ _ (front _ _ (front _ _ m))))) c)), q.lie);
    }
writes_step shard part log (Clr tx next key after) m k =
    let q = quiet log (Clr tx next key after) (standing log) (λ t. refl) k in
    record {
      chain = compensated log tx next key (λ w. clears w after (standing log) w.change) (newest_of tx (standing log)) refl (last _ _ m) (λ u t. cleared_top u after (standing log) u.change t k.falls) k.falls k.chain;
      falls = falls_without tx (standing log) k.falls;
      low = all_without _ tx (standing log) q.low;
      lie = lie_without _ tx (standing log) q.lie;
    }
writes_step shard part log (Commit tx parts) m k =
    let r = Commit tx parts in
    record {
      chain = k.chain;
      falls = k.falls;
      low = all_mono _ _ (λ w l. omega (arith, l)) (standing log) k.low;
      lie = lie_more tx (committed_in log) (committed_in (log ++ r ∷ [])) (standing log) (λ t c. push_left (is_commit_of t) log r c) (commit_only log tx parts) (push_right (is_commit_of tx) log r (tx_self tx))
          (standing log) (λ test e. e) (filter_passes (λ w. committed_in log w.tx) (λ w. not (tx_same tx w.tx) && has_above tx w (standing log)) (standing log) (last _ _ (front _ _ (front _ _ m)))) k.falls k.lie;
    }
writes_step shard part log (Prepare tx home ps) m k = quiet log (Prepare tx home ps) (standing log) (λ t. refl) k
writes_step shard part log (Abort tx) m k = quiet log (Abort tx) (standing log) (λ t. refl) k
writes_step shard part log (End tx) m k = quiet log (End tx) (standing log) (λ t. refl) k
writes_step shard part log (Restart run epoch) m k = quiet log (Restart run epoch) (standing log) (λ t. refl) k
writes_step shard part log (Add tx key by) m k =
    let r = Add tx key by in
    let q = quiet log r (standing log) (λ t. refl) k in
    record {
      chain = (tt, k.chain);
      falls = (k.low, k.falls);
      low = (omega arith, q.low);
      lie = ((λ c. absurd (both_ways _ (sym (push_same (is_commit_of tx) log r refl) ∙ not-true _ (open_of part log tx (front _ _ (front _ _ m)))) c)), q.lie);
    }
writes_step shard part log (Unadd tx next key by) m k =
    let q = quiet log (Unadd tx next key by) (standing log) (λ t. refl) k in
    record {
      chain = compensated log tx next key (λ w. unadds w by (standing log) w.change) (newest_of tx (standing log)) refl (last _ _ m) (λ u t. unadded_top u by (standing log) u.change refl t) k.falls k.chain;
      falls = falls_without tx (standing log) k.falls;
      low = all_without _ tx (standing log) q.low;
      lie = lie_without _ tx (standing log) q.lie;
    }
writes_step shard part log Forgotten m k = quiet log Forgotten (standing log) (λ t. refl) k
writes_step shard part log (Check run' epoch' upto base) m k = quiet log (Check run' epoch' upto base) (standing log) (λ t. refl) k

-- ---- those of these alone

-- a change of a key's value that keeps it, or an ADD: the fold of those of these, where others below it don't count
top_kept : (floor : KeyMap) (these : TxId → Bool) (k : ℕ) (ws : List StandingUpdate) → AllByRecursion (λ v. v.key ≡ k → these v.tx ≡ true) ws → top_value floor k (filter (λ w. these w.tx) ws) ≡ top_value floor k ws
top_kept floor these k [] a = refl
top_kept floor these k (w ∷ ws) a = at (k == w.key) refl (top_kept floor these k ws a.1)
  where
    kept : (c : Bool) → c ≡ true → top_value floor k (filter (λ w. these w.tx) ws) ≡ top_value floor k ws → top_value floor k (cond c (w ∷ filter (λ w. these w.tx) ws) (filter (λ w. these w.tx) ws)) ≡ top_value floor k (w ∷ ws)
    kept true e ih = ap (λ v. cond (k == w.key) (changed w.change v) v) ih
    kept false e ih = absurd (both_ways false refl e)

    other : (c : Bool) → (k == w.key) ≡ false → top_value floor k (filter (λ w. these w.tx) ws) ≡ top_value floor k ws → top_value floor k (cond c (w ∷ filter (λ w. these w.tx) ws) (filter (λ w. these w.tx) ws)) ≡ top_value floor k (w ∷ ws)
    other true q ih = ap (λ v. cond (k == w.key) (changed w.change v) v) ih
    other false q ih = ih ∙ sym (cond-false (k == w.key) (changed w.change (top_value floor k ws)) (top_value floor k ws) q)

    at : (b : Bool) → (k == w.key) ≡ b → top_value floor k (filter (λ w. these w.tx) ws) ≡ top_value floor k ws → top_value floor k (filter (λ w. these w.tx) (w ∷ ws)) ≡ top_value floor k (w ∷ ws)
    at true q ih = kept (these w.tx) (a.0 (sym (eqb-true k w.key q))) ih
    at false q ih = other (these w.tx) q ih

-- under an UPDATE all of its key are of these, so what it names is the fold of these
over_kept : (floor : KeyMap) (these : TxId → Bool) (k : ℕ) (c : Change) (ws : List StandingUpdate) → AllByRecursion (λ v. v.key ≡ k → (is_setting v.change || is_setting c) ≡ true → these v.tx ≡ true) ws → IsOver c (top_value floor k ws)
    → IsOver c (top_value floor k (filter (λ w. these w.tx) ws))
over_kept floor these k (Sets before after) ws a e = e ∙ sym (top_kept floor these k ws (all_mono _ _ (λ v h q. h q (or_right (is_setting v.change) true refl)) ws a))
over_kept floor these k (Adds by) ws a e = tt

-- a chain that lies so is one without the others
pub chain_kept : (floor : KeyMap) (these : TxId → Bool) (ws : List StandingUpdate) → LieOnThese these ws → Chain floor ws → Chain floor (filter (λ w. these w.tx) ws)
chain_kept floor these [] l c = tt
chain_kept floor these (w ∷ ws) l c =
    cond_both (these w.tx) (w ∷ filter (λ w. these w.tx) ws) (filter (λ w. these w.tx) ws) (Chain floor)
    (λ e. (over_kept floor these w.key w.change ws (l.0 e) c.0, chain_kept floor these ws l.1 c.1)) (λ e. chain_kept floor these ws l.1 c.1)
