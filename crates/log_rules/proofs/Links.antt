-- The writes that stand, and their links.
use Rattle.std.proofs.Common.{◌≡◌, ℕ, ◌<◌, true, false, cond, ◌==◌, List, [], ◌∷◌, ◌++◌, Option, Some, None, refl, sym, ap, subst, ◌∙◌, eqb-true, arith}
use Rattle.std.specs.List.{AllByRecursion}
use Rattle.std.proofs.lemmas.Bool.{both_ways, cond-true, cond-false}
use Rattle.clv_base.specs.declared.names.TxId.{TxId}
use Rattle.clv_base.specs.declared.changes.Change.{Change}
use Rattle.clv_base.specs.declared.changes.Change.TheVariants.{Sets, Adds}
use Rattle.clv_base.specs.Orders.{tx_same}
use Rattle.clv_base.specs.Maps.{KeyMap}
use Rattle.clv_base.specs.Logs.{StandingUpdate, unchanged, is_setting, newest_of}
use Rattle.clv_base.proofs.SameNames.{tx_true}
use Rattle.log_rules.specs.Writes.{Write, Writes, write_at, top_at, adds_at, newest_by, linked_over, top_before, adds_before}
use Rattle.log_rules.proofs.Standing.{top_set, adds_over, top_value, lsn_of, IsClear, ahead, newest_step, top_elsewhere, adds_elsewhere, value_elsewhere, top_unset, adds_unset, value_unset, top_unadd, adds_unadd, value_unadd, newest_other, newest_own, top_step, adds_step}
use Rattle.law_base.proofs.Names.{Falls, falls_weaker}
use Rattle.law_base.proofs.Bools.{by_bool as both}
use Rattle.law_base.proofs.Numbers.{unequal_flip}
use Rattle.law_base.proofs.Undoing.{IsOver}
use Rattle.law_base.proofs.Sets.{same_flip as tx_symmetric}

-- a write with its links to those before it
abbrev pub link_of : StandingUpdate → List StandingUpdate → Write
link_of w ws =
    record {
      lsn = w.lsn;
      tx = w.tx;
      key = w.key;
      change = w.change;
      below = cond (is_setting w.change) (top_set w.key ws) None;
      adds = cond (is_setting w.change) (adds_over w.key ws) 0;
      earlier = lsn_of (newest_of w.tx ws);
    }

-- each that stands is in the table, with its links
abbrev pub Linked : Writes → List StandingUpdate → Type 0
Linked m [] = Unit {0}
Linked m (w ∷ ws) = (write_at m (Some w.lsn) ≡ Some (link_of w ws)) × Linked m ws

pub linked_at : (m : Writes) (over : List StandingUpdate) (w : StandingUpdate) (under : List StandingUpdate) → Linked m (over ++ w ∷ under) → write_at m (Some w.lsn) ≡ Some (link_of w under)
linked_at m [] w under l = l.0
linked_at m (v ∷ vs) w under l = linked_at m vs w under l.1

-- ---- one write more

fields : (w : StandingUpdate) (b b' : Option ℕ) (a a' : ℕ) (e e' : Option ℕ) → b ≡ b' → a ≡ a' → e ≡ e'
    → ◌≡◌ {A = Write} (record { lsn = w.lsn; tx = w.tx; key = w.key; change = w.change; below = b; adds = a; earlier = e }) (record { lsn = w.lsn; tx = w.tx; key = w.key; change = w.change; below = b'; adds = a'; earlier = e' })
fields w b b' a a' e e' p q r = cc

pub linked_is : (m : Writes) (ws : List StandingUpdate) (w : StandingUpdate) → top_at m w.key ≡ top_set w.key ws → adds_at m w.key ≡ adds_over w.key ws → newest_by m w.tx ≡ lsn_of (newest_of w.tx ws)
    → linked_over m w.lsn w.tx w.key w.change ≡ link_of w ws
linked_is m ws w top adds newest =
    fields w (cond (is_setting w.change) (top_at m w.key) None) (cond (is_setting w.change) (top_set w.key ws) None) (cond (is_setting w.change) (adds_at m w.key) 0) (cond (is_setting w.change) (adds_over w.key ws) 0)
    (newest_by m w.tx) (lsn_of (newest_of w.tx ws)) (ap (λ o. cond (is_setting w.change) o None) top) (ap (λ n. cond (is_setting w.change) n 0) adds) newest

-- rows below n stay
pub linked_stay : (m v : Writes) (n : ℕ) → ((k : ℕ) → k < n → write_at v (Some k) ≡ write_at m (Some k)) → (ws : List StandingUpdate) → Falls n ws → Linked m ws → Linked v ws
linked_stay m v n stay [] falls l = tt
linked_stay m v n stay (w ∷ ws) falls l = (stay w.lsn falls.0 ∙ l.0, linked_stay m v n stay ws (falls_weaker w.lsn n ws (omega (arith, falls.0)) falls.1) l.1)

-- ---- one write fewer

-- the links of what stands over it
link_same : (v w : StandingUpdate) (over under : List StandingUpdate) → (is_setting v.change ≡ true → (v.key == w.key) ≡ false) → tx_same v.tx w.tx ≡ false → link_of v (over ++ w ∷ under) ≡ link_of v (over ++ under)
link_same v w over under apart other =
    fields v (cond (is_setting v.change) (top_set v.key (over ++ w ∷ under)) None) (cond (is_setting v.change) (top_set v.key (over ++ under)) None)
    (cond (is_setting v.change) (adds_over v.key (over ++ w ∷ under)) 0) (cond (is_setting v.change) (adds_over v.key (over ++ under)) 0)
    (lsn_of (newest_of v.tx (over ++ w ∷ under))) (lsn_of (newest_of v.tx (over ++ under)))
    (both (λ b. is_setting v.change ≡ b → cond b (top_set v.key (over ++ w ∷ under)) None ≡ cond b (top_set v.key (over ++ under)) None) (is_setting v.change)
    (λ _ s. ahead (top_set v.key) (top_step v.key) over (w ∷ under) under (cond-false _ _ _ (apart s))) (λ _ _. refl) refl)
    (both (λ b. is_setting v.change ≡ b → cond b (adds_over v.key (over ++ w ∷ under)) 0 ≡ cond b (adds_over v.key (over ++ under)) 0) (is_setting v.change)
    (λ _ s. ahead (adds_over v.key) (adds_step v.key) over (w ∷ under) under (cond-false _ _ _ (apart s))) (λ _ _. refl) refl)
    (ap lsn_of (ahead (newest_of v.tx) (newest_step v.tx) over (w ∷ under) under (cond-false _ _ _ other)))

pub linked_left : (m : Writes) (tx : TxId) (w : StandingUpdate) (over under : List StandingUpdate) → AllByRecursion (λ v. tx_same tx v.tx ≡ false) over → tx_same tx w.tx ≡ true → AllByRecursion (IsClear w) over
    → Linked m (over ++ w ∷ under) → Linked m (over ++ under)
linked_left m tx w [] under others own clear l = l.1
linked_left m tx w (v ∷ vs) under others own clear l = (
  l.0 ∙ ap (λ y. Some y) (link_same v w vs under
      (λ s. both (λ b. (w.key == v.key) ≡ b → (v.key == w.key) ≡ false) (w.key == v.key) (λ _ at. absurd (both_ways _ (clear.0 at).0 s)) (λ _ apart. unequal_flip w.key v.key apart) refl)
      (ap (tx_same v.tx) (sym (tx_true tx w.tx own)) ∙ tx_symmetric v.tx tx ∙ others.0)),
  linked_left m tx w vs under others.1 own clear.1 l.1,
)

-- what is left at each key, by the link of what goes
module _ (tx : TxId) (w : StandingUpdate) (over under : List StandingUpdate) (others : AllByRecursion (λ v. tx_same tx v.tx ≡ false) over) (own : tx_same tx w.tx ≡ true) (clear : AllByRecursion (IsClear w) over) (floor : KeyMap) (chained : IsOver w.change (top_value floor w.key under)) where
  abbrev ws : List StandingUpdate
  ws = over ++ w ∷ under

  abbrev us : List StandingUpdate
  us = over ++ under

  by_key : {X : Type 0} (g : ℕ → List StandingUpdate → X) (here : X) → ((k : ℕ) → (k == w.key) ≡ false → g k us ≡ g k ws) → g w.key us ≡ here → (k : ℕ) → g k us ≡ cond (w.key == k) here (g k ws)
  by_key g here elsewhere is k =
      both (λ b. (w.key == k) ≡ b → g k us ≡ cond b here (g k ws)) (w.key == k) (λ _ e. ap (λ j. g j us) (sym (eqb-true w.key k e)) ∙ is) (λ _ e. elsewhere k (unequal_flip w.key k e)) refl

  top_here : (c : Change) → w.change ≡ c → top_set w.key us ≡ top_before (link_of w under) c (top_set w.key ws)
  top_here (Sets before after) e = top_unset w over under clear (ap is_setting e) ∙ sym (cond-true _ _ _ (ap is_setting e))
  top_here (Adds n) e = top_unadd w over under clear w.key (ap is_setting e)

  pub tops_left : (k : ℕ) → top_set k us ≡ cond (w.key == k) (top_before (link_of w under) w.change (top_set w.key ws)) (top_set k ws)
  tops_left = by_key top_set (top_before (link_of w under) w.change (top_set w.key ws)) (top_elsewhere w over under clear) (top_here w.change refl)

  adds_here : (c : Change) → w.change ≡ c → adds_over w.key us ≡ adds_before (link_of w under) c (adds_over w.key ws)
  adds_here (Sets before after) e = adds_unset w over under clear (ap is_setting e) ∙ sym (cond-true _ _ _ (ap is_setting e))
  adds_here (Adds n) e = adds_unadd w over under clear (ap is_setting e)

  pub adds_left : (k : ℕ) → adds_over k us ≡ cond (w.key == k) (adds_before (link_of w under) w.change (adds_over w.key ws)) (adds_over k ws)
  adds_left = by_key adds_over (adds_before (link_of w under) w.change (adds_over w.key ws)) (adds_elsewhere w over under clear) (adds_here w.change refl)

  value_here : (c : Change) → w.change ≡ c → top_value floor w.key us ≡ unchanged c (top_value floor w.key ws)
  value_here (Sets before after) e = value_unset w over under clear floor (ap is_setting e) ∙ sym (subst (λ x. IsOver x (top_value floor w.key under)) e chained)
  value_here (Adds n) e = value_unadd floor w n over under clear e

  pub values_left : (k : ℕ) → top_value floor k us ≡ cond (w.key == k) (unchanged w.change (top_value floor w.key ws)) (top_value floor k ws)
  values_left = by_key (top_value floor) (unchanged w.change (top_value floor w.key ws)) (value_elsewhere w over under clear floor) (value_here w.change refl)

  pub newest_left : (t : TxId) → lsn_of (newest_of t us) ≡ cond (tx_same tx t) (link_of w under).earlier (lsn_of (newest_of t ws))
  newest_left t =
      both (λ b. tx_same tx t ≡ b → lsn_of (newest_of t us) ≡ cond b (lsn_of (newest_of w.tx under)) (lsn_of (newest_of t ws))) (tx_same tx t)
      (λ _ same. ap (λ u. lsn_of (newest_of u us)) (sym (tx_true tx t same)) ∙ ap lsn_of (newest_own tx over under others) ∙ ap (λ u. lsn_of (newest_of u under)) (tx_true tx w.tx own))
      (λ _ other. ap lsn_of (newest_other tx t w over under own other)) refl
