-- In a log in order each ADD that stands lies over a number.
use Rattle.std.proofs.Common.{◌≡◌, refl, sym, ap, subst, ◌∙◌, ℕ, ◌+◌, ◌<◌, Bool, true, false, cond, List, [], ◌∷◌, ◌++◌, length, Option, Some, None, ◌==◌, arith, eqb-true, eq-eqb}
use Rattle.std.specs.List.{AllByRecursion, filter}
use Rattle.std.proofs.lemmas.Bool.{both_ways, cond_both, cond-false, false_from_ne_true}
use Rattle.std.proofs.lemmas.Option.{same_Some}
use Rattle.clv_base.specs.declared.values.Value.{Value as ValueType}
use Rattle.clv_base.specs.declared.names.TxId.{TxId}
use Rattle.clv_base.specs.declared.changes.Change.{Change}
use Rattle.clv_base.specs.declared.changes.Change.TheVariants.{Sets, Adds}
use Rattle.clv_base.specs.declared.logs.LogRecord.{LogRecord}
use Rattle.clv_base.specs.declared.logs.LogRecord.TheVariants.{Update, Clr, Prepare, Commit, Abort, End, Restart, Add, Unadd, Forgotten, Check}
use Rattle.clv_base.specs.Orders.{tx_same}
use Rattle.clv_base.specs.Maps.{is_number, KeyMap}
use Rattle.clv_base.specs.Logs.{StandingUpdate, changed, is_setting, standing, standing_after, without_newest, newest_at, newest_of, base_of}
use Rattle.clv_base.specs.LogRules.{clears, unadds, compensates, part_of, disorder}
use Rattle.clv_base.proofs.Folding.{plus_is_number}
use Rattle.clv_base.proofs.SameNames.{or_left}
use Rattle.law_base.proofs.Bools.{and_first as front, and_second as last}
use Rattle.law_base.proofs.Lists.{all_mono}
use Rattle.law_base.proofs.Running.{top_value}
use Rattle.law_base.proofs.Undoing.{standing_append}
use Rattle.protocol_laws.specs.Order.{LieOnThese}
use Rattle.protocol_laws.proofs.LogsInOrder.{all_in_order}
use Rattle.protocol_laws.proofs.LogsInOrder.StandingUpdatesLie.{Falling}
use Rattle.law_base.specs.Coming.{may_come}
use Rattle.law_base.proofs.InOrder.{come_base, through}
use Rattle.law_base.proofs.Parts.{in_order_comes}
use Rattle.law_base.proofs.Bases.{base_push}

abbrev pub OverNumber : Change → Option ValueType → Type 0
OverNumber (Sets before after) left = Unit {0}
OverNumber (Adds by) left = is_number left ≡ true

abbrev pub FindNumbers : KeyMap → List StandingUpdate → Type 0
FindNumbers floor [] = Unit {0}
FindNumbers floor (w ∷ ws) = OverNumber w.change (top_value floor w.key ws) × FindNumbers floor ws

-- ---- whether there is a number

over_alike : (c : Change) (v u : Option ValueType) → is_number u ≡ is_number v → OverNumber c v → OverNumber c u
over_alike (Sets before after) v u e o = tt
over_alike (Adds by) v u e o = e ∙ o

pub number_over : (c : Change) (v u : Option ValueType) → is_number v ≡ is_number u → is_number (changed c v) ≡ is_number (changed c u)
number_over (Sets before after) v u e = refl
number_over (Adds n) v u e = plus_is_number n v ∙ e ∙ sym (plus_is_number n u)

pub add_number : (c : Change) (b : Bool) (v : Option ValueType) → is_setting c ≡ false → is_number (cond b (changed c v) v) ≡ is_number v
add_number (Sets before after) b v e = absurd (both_ways true e refl)
add_number (Adds n) true v e = plus_is_number n v
add_number (Adds n) false v e = refl

with_write : (c : Change) (b : Bool) (v u : Option ValueType) → is_number v ≡ is_number u → is_number (cond b (changed c v) v) ≡ is_number (cond b (changed c u) u)
with_write c true v u e = number_over c v u e
with_write c false v u e = e

-- ---- without the newest of a transaction

none_some : {X : Type 0} {Y : Type 0} (x : X) → ◌≡◌ {A = Option X} None (Some x) → Y
none_some x e = absurd cc

-- where that is an ADD, there is a number where there was one
number_without : (floor : KeyMap) (t : TxId) (k : ℕ) (u : StandingUpdate) (ws : List StandingUpdate) → newest_of t ws ≡ Some u → is_setting u.change ≡ false → is_number (top_value floor k (without_newest t ws)) ≡ is_number (top_value floor k ws)
number_without floor t k u [] e a = refl
number_without floor t k u (w ∷ ws) e a = at (tx_same t w.tx) e (λ f. number_without floor t k u ws f a)
  where
    at : (b : Bool) → cond b (Some w) (newest_of t ws) ≡ Some u → (newest_of t ws ≡ Some u → is_number (top_value floor k (without_newest t ws)) ≡ is_number (top_value floor k ws))
        → is_number (top_value floor k (cond b ws (w ∷ without_newest t ws))) ≡ is_number (top_value floor k (w ∷ ws))
    at true f ih = sym (add_number w.change (k == w.key) (top_value floor k ws) (subst (λ z. is_setting z.change ≡ false) (sym (same_Some w u f)) a))
    at false f ih = with_write w.change (k == w.key) (top_value floor k (without_newest t ws)) (top_value floor k ws) (ih f)

find_unadded : (floor : KeyMap) (t : TxId) (u : StandingUpdate) (ws : List StandingUpdate) → newest_of t ws ≡ Some u → is_setting u.change ≡ false → FindNumbers floor ws → FindNumbers floor (without_newest t ws)
find_unadded floor t u [] e a n = tt
find_unadded floor t u (w ∷ ws) e a n = at (tx_same t w.tx) e (λ f. find_unadded floor t u ws f a n.1)
  where
    at : (b : Bool) → cond b (Some w) (newest_of t ws) ≡ Some u → (newest_of t ws ≡ Some u → FindNumbers floor (without_newest t ws)) → FindNumbers floor (cond b ws (w ∷ without_newest t ws))
    at true f ih = n.1
    at false f ih = (over_alike w.change (top_value floor w.key ws) (top_value floor w.key (without_newest t ws)) (number_without floor t w.key u ws f a) n.0, ih f)

-- where it is an UPDATE, it is the newest of its key
value_without : (floor : KeyMap) (t : TxId) (k : ℕ) (u : StandingUpdate) (ws : List StandingUpdate) → newest_of t ws ≡ Some u → (k == u.key) ≡ false → top_value floor k (without_newest t ws) ≡ top_value floor k ws
value_without floor t k u [] e d = none_some u e
value_without floor t k u (w ∷ ws) e d = at (tx_same t w.tx) e (λ f. value_without floor t k u ws f d)
  where
    at : (b : Bool) → cond b (Some w) (newest_of t ws) ≡ Some u → (newest_of t ws ≡ Some u → top_value floor k (without_newest t ws) ≡ top_value floor k ws) → top_value floor k (cond b ws (w ∷ without_newest t ws)) ≡ top_value floor k (w ∷ ws)
    at true f ih = sym (cond-false (k == w.key) (changed w.change (top_value floor k ws)) (top_value floor k ws) (subst (λ z. (k == z.key) ≡ false) (sym (same_Some w u f)) d))
    at false f ih = ap (λ v. cond (k == w.key) (changed w.change v) v) (ih f)

lower : (t : TxId) (u : StandingUpdate) (n : ℕ) (ws : List StandingUpdate) → newest_of t ws ≡ Some u → AllByRecursion (λ v. v.lsn < n) ws → u.lsn < n
lower t u n [] e a = none_some u e
lower t u n (w ∷ ws) e a = at (tx_same t w.tx) e (λ f. lower t u n ws f a.1)
  where
    at : (b : Bool) → cond b (Some w) (newest_of t ws) ≡ Some u → (newest_of t ws ≡ Some u → u.lsn < n) → u.lsn < n
    at true f ih = subst (λ z. z.lsn < n) (same_Some w u f) a.0
    at false f ih = ih f

find_cleared : (floor : KeyMap) (t : TxId) (u v : StandingUpdate) (ws : List StandingUpdate) → newest_of t ws ≡ Some u → newest_at u.key ws ≡ Some v → v.lsn ≡ u.lsn → Falling ws → FindNumbers floor ws → FindNumbers floor (without_newest t ws)
find_cleared floor t u v [] e g l f n = tt
find_cleared floor t u v (w ∷ ws) e g l f n = at (tx_same t w.tx) (u.key == w.key) refl e g (λ a b. find_cleared floor t u v ws a b l f.1 n.1)
  where
    flipped : (u.key == w.key) ≡ false → (w.key == u.key) ≡ false
    flipped d = false_from_ne_true _ (λ k. both_ways _ d (eq-eqb u.key w.key (sym (eqb-true w.key u.key k))))

    at : (b c : Bool) → (u.key == w.key) ≡ c → cond b (Some w) (newest_of t ws) ≡ Some u → cond c (Some w) (newest_at u.key ws) ≡ Some v → (newest_of t ws ≡ Some u → newest_at u.key ws ≡ Some v → FindNumbers floor (without_newest t ws)) → FindNumbers floor (cond b ws (w ∷ without_newest t ws))
    at true c k a b ih = n.1
    at false true k a b ih =
        let low = lower t u w.lsn ws a f.0 in
        let is : w.lsn ≡ u.lsn = ap (λ z. z.lsn) (same_Some w v b) ∙ l in
        absurd (omega (arith, low, is))
    at false false k a b ih = (subst (OverNumber w.change) (sym (value_without floor t w.key u ws a (flipped k))) n.0, ih a b)

-- ---- record by record

cleared : (floor : KeyMap) (tx : TxId) (next : Option ℕ) (key : ℕ) (after : Option ValueType) (ws : List StandingUpdate) (o : Option StandingUpdate) → newest_of tx ws ≡ o → compensates (λ w. clears w after ws w.change) tx next key ws o ≡ true → Falling ws → FindNumbers floor ws → FindNumbers floor (without_newest tx ws)
cleared floor tx next key after ws None e c f n = absurd (both_ways false refl c)
cleared floor tx next key after ws (Some u) e c f n = at u.change (last _ _ (front _ _ c))
  where
    by : (o : Option StandingUpdate) → newest_at u.key ws ≡ o → elim o [ Some v ↦ v.lsn == u.lsn | None ↦ false ] ≡ true → FindNumbers floor (without_newest tx ws)
    by None g s = absurd (both_ways false refl s)
    by (Some v) g s = find_cleared floor tx u v ws e g (eqb-true v.lsn u.lsn s) f n

    at : (d : Change) → clears u after ws d ≡ true → FindNumbers floor (without_newest tx ws)
    at (Sets before set) s = by (newest_at u.key ws) refl (last _ _ s)
    at (Adds by) s = absurd (both_ways false refl s)

unadded : (floor : KeyMap) (tx : TxId) (next : Option ℕ) (key by : ℕ) (ws : List StandingUpdate) (o : Option StandingUpdate) → newest_of tx ws ≡ o → compensates (λ w. unadds w by ws w.change) tx next key ws o ≡ true → FindNumbers floor ws → FindNumbers floor (without_newest tx ws)
unadded floor tx next key by ws None e c n = absurd (both_ways false refl c)
unadded floor tx next key by ws (Some u) e c n = find_unadded floor tx u ws e (at u.change (last _ _ (front _ _ c))) n
  where
    at : (d : Change) → unadds u by ws d ≡ true → is_setting d ≡ false
    at (Sets before set) s = absurd (both_ways false refl s)
    at (Adds added) s = refl

numbers_step : (shard : ℕ) (part log : List LogRecord) (r : LogRecord) → Falling (standing log) → may_come shard part log r ≡ true → FindNumbers (base_of log) (standing log) → FindNumbers (base_of log) (standing_after (0 + length log) r (standing log))
numbers_step shard part log (Update tx k b a) f m n = (tt, n)
numbers_step shard part log (Clr tx next k a) f m n = cleared (base_of log) tx next k a (standing log) (newest_of tx (standing log)) refl (last _ _ m) f n
numbers_step shard part log (Prepare tx home ps) f m n = n
numbers_step shard part log (Commit tx ps) f m n = n
numbers_step shard part log (Abort tx) f m n = n
numbers_step shard part log (End tx) f m n = n
numbers_step shard part log (Restart run epoch) f m n = n
numbers_step shard part log (Add tx k by) f m n = (last _ _ (front _ _ m), n)
numbers_step shard part log (Unadd tx next k by) f m n = unadded (base_of log) tx next k by (standing log) (newest_of tx (standing log)) refl (last _ _ m) n
numbers_step shard part log Forgotten f m n = n
numbers_step shard part log (Check run' epoch' upto base) f m n = n

pub find_numbers : (shard : ℕ) (log : List LogRecord) → disorder shard log ≡ None → FindNumbers (base_of log) (standing log)
find_numbers shard log d =
    through (λ l. FindNumbers (base_of l) (standing l)) shard (part_of log)
    (λ l r g p m. subst (λ base. FindNumbers base (standing (l ++ r ∷ []))) (sym (base_push l r (come_base shard (part_of log) l r m)))
    (subst (FindNumbers (base_of l)) (sym (standing_append 0 l (r ∷ []) [])) (numbers_step shard (part_of log) l r ((all_in_order shard (part_of log) l g).writes).falls m p)))
    log (in_order_comes shard log d) tt (λ run epoch upto base rises. tt)

-- ---- those of these alone, where under a write of one of these all UPDATEs of its key are of these

number_kept : (floor : KeyMap) (these : TxId → Bool) (k : ℕ) (ws : List StandingUpdate) → AllByRecursion (λ v. v.key ≡ k → is_setting v.change ≡ true → these v.tx ≡ true) ws → is_number (top_value floor k (filter (λ w. these w.tx) ws)) ≡ is_number (top_value floor k ws)
number_kept floor these k [] a = refl
number_kept floor these k (w ∷ ws) a = at (these w.tx) (k == w.key) (is_setting w.change) refl refl refl (number_kept floor these k ws a.1)
  where
    at : (b c s : Bool) → these w.tx ≡ b → (k == w.key) ≡ c → is_setting w.change ≡ s → is_number (top_value floor k (filter (λ w. these w.tx) ws)) ≡ is_number (top_value floor k ws)
        → is_number (top_value floor k (cond b (w ∷ filter (λ w. these w.tx) ws) (filter (λ w. these w.tx) ws))) ≡ is_number (top_value floor k (w ∷ ws))
    at true c s e q f ih = with_write w.change (k == w.key) (top_value floor k (filter (λ w. these w.tx) ws)) (top_value floor k ws) ih
    at false c false e q f ih = ih ∙ sym (add_number w.change (k == w.key) (top_value floor k ws) f)
    at false true true e q f ih = absurd (both_ways _ e (a.0 (sym (eqb-true k w.key q)) f))
    at false false true e q f ih = ih ∙ ap is_number (sym (cond-false (k == w.key) (changed w.change (top_value floor k ws)) (top_value floor k ws) q))

pub numbers_kept : (floor : KeyMap) (these : TxId → Bool) (ws : List StandingUpdate) → LieOnThese these ws → FindNumbers floor ws → FindNumbers floor (filter (λ w. these w.tx) ws)
numbers_kept floor these [] l n = tt
numbers_kept floor these (w ∷ ws) l n =
    cond_both (these w.tx) (w ∷ filter (λ w. these w.tx) ws) (filter (λ w. these w.tx) ws) (FindNumbers floor)
    (λ e. (
      over_alike w.change (top_value floor w.key ws) (top_value floor w.key (filter (λ w. these w.tx) ws))
          (number_kept floor these w.key ws (all_mono _ _ (λ v h k s. h k (or_left _ (is_setting w.change) s)) ws (l.0 e))) n.0,
      numbers_kept floor these ws l.1 n.1,
    ))
    (λ e. numbers_kept floor these ws l.1 n.1)
