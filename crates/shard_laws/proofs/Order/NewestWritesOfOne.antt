-- The writes that a going back takes: the newest of its transaction, and none of another.
use Rattle.std.proofs.Common.{◌≡◌, refl, sym, ap, ◌∙◌, ℕ, zero, suc, ◌<◌, Bool, true, false, cond, ◌||◌, List, [], ◌∷◌, map, ◌==◌, arith, eqb-true, eq-eqb}
use Rattle.std.specs.Prelude.{take}
use Rattle.std.specs.List.{AllByRecursion, filter}
use Rattle.std.proofs.lemmas.Bool.{both_ways, false_from_ne_true, or_from}
use Rattle.clv_base.specs.declared.names.TxId.{TxId}
use Rattle.clv_base.specs.Orders.{tx_same}
use Rattle.clv_base.specs.Logs.{StandingUpdate}
use Rattle.clv_base.specs.Undo.{newest_lsns, is_at}
use Rattle.clv_base.proofs.SameNames.{or_left, tx_true, tx_eq}
use Rattle.law_base.proofs.Lists.{all_mono, all_both, all_of}
use Rattle.law_base.proofs.Undoing.{NewestGo}
use Rattle.protocol_laws.proofs.LogsInOrder.StandingUpdatesLie.{Falling}

-- the transaction's writes, and with one more write, which is its or isn't
abbrev pub of_tx : TxId → List StandingUpdate → List StandingUpdate
of_tx tx ws = filter (λ w. tx_same tx w.tx) ws

abbrev lsns_by : Bool → ℕ → TxId → StandingUpdate → List StandingUpdate → List ℕ
lsns_by b n tx w ws = take n (map (λ v. v.lsn) (cond b (w ∷ of_tx tx ws) (of_tx tx ws)))

-- what lies above all of these is not at their places
none_at : (n : ℕ) (tx : TxId) (u : StandingUpdate) (ws : List StandingUpdate) → AllByRecursion (λ v. v.lsn < u.lsn) ws → is_at (newest_lsns n tx ws) u ≡ false
none_at zero tx u ws low = refl
none_at (suc n) tx u [] low = refl
none_at (suc n) tx u (w ∷ ws) low = at (tx_same tx w.tx) (none_at n tx u ws low.1) (none_at (suc n) tx u ws low.1)
  where
    apart : (u.lsn == w.lsn) ≡ false
    apart = false_from_ne_true _ (λ s. let l = low.0 in let q = eqb-true u.lsn w.lsn s in omega (arith, l, q))

    at : (b : Bool) → is_at (newest_lsns n tx ws) u ≡ false → is_at (newest_lsns (suc n) tx ws) u ≡ false → is_at (lsns_by b (suc n) tx w ws) u ≡ false
    at true one more = or_from _ _ apart one
    at false one more = more

-- so the place of the newest counts for none of the others
others_at : (w : StandingUpdate) (ls : List ℕ) (ws : List StandingUpdate) → AllByRecursion (λ v. v.lsn < w.lsn) ws → AllByRecursion (λ v. is_at (w.lsn ∷ ls) v ≡ is_at ls v) ws
others_at w ls ws low = all_mono _ _ (λ v l. ap (λ b. b || is_at ls v) (false_from_ne_true _ (λ s. let q = eqb-true v.lsn w.lsn s in omega (arith, l, q)))) ws low

abbrev AllOwn : TxId → List ℕ → List StandingUpdate → Type 0
AllOwn tx ls ws = AllByRecursion (λ w. is_at ls w ≡ true → tx_same tx w.tx ≡ true) ws

pub lsns_own : (n : ℕ) (tx : TxId) (ws : List StandingUpdate) → Falling ws → AllByRecursion (λ w. is_at (newest_lsns n tx ws) w ≡ true → tx_same tx w.tx ≡ true) ws
lsns_own zero tx ws f = all_of _ (λ w e. absurd (both_ways false refl e)) ws
lsns_own (suc n) tx [] f = tt
lsns_own (suc n) tx (w ∷ ws) f = at (tx_same tx w.tx) refl (lsns_own n tx ws f.1) (lsns_own (suc n) tx ws f.1)
  where
    at : (b : Bool) → tx_same tx w.tx ≡ b → AllOwn tx (newest_lsns n tx ws) ws → AllOwn tx (newest_lsns (suc n) tx ws) ws → AllOwn tx (lsns_by b (suc n) tx w ws) (w ∷ ws)
    at true s one more = ((λ e. s), all_mono _ _ (λ v h e. h.1 (sym h.0 ∙ e)) ws (all_both _ _ ws (others_at w (newest_lsns n tx ws) ws f.0) one))
    at false s one more = ((λ e. absurd (both_ways _ (none_at (suc n) tx w ws f.0) e)), more)

newest_alike : (f g : StandingUpdate → Bool) (ws : List StandingUpdate) → AllByRecursion (λ v. f v ≡ g v) ws → NewestGo f ws → NewestGo g ws
newest_alike f g [] a n = tt
newest_alike f g (w ∷ ws) a n = ((λ o. all_mono _ _ (λ v h s. sym h.0 ∙ h.1 s) ws (all_both _ _ ws a.1 (n.0 (a.0 ∙ o)))), newest_alike f g ws a.1 n.1)

none_go : (ws : List StandingUpdate) → NewestGo (is_at []) ws
none_go [] = tt
none_go (w ∷ ws) = ((λ o. all_of _ (λ v s. refl) ws), none_go ws)

pub lsns_newest : (n : ℕ) (tx : TxId) (ws : List StandingUpdate) → Falling ws → NewestGo (is_at (newest_lsns n tx ws)) ws
lsns_newest zero tx ws f = none_go ws
lsns_newest (suc n) tx [] f = tt
lsns_newest (suc n) tx (w ∷ ws) f = at (tx_same tx w.tx) refl (lsns_newest n tx ws f.1) (lsns_newest (suc n) tx ws f.1)
  where
    at : (b : Bool) → tx_same tx w.tx ≡ b → NewestGo (is_at (newest_lsns n tx ws)) ws → NewestGo (is_at (newest_lsns (suc n) tx ws)) ws → NewestGo (is_at (lsns_by b (suc n) tx w ws)) (w ∷ ws)
    at true s one more = (
      (λ o. absurd (both_ways _ o (or_left _ _ (eq-eqb w.lsn w.lsn refl)))),
      newest_alike (is_at (newest_lsns n tx ws)) (is_at (w.lsn ∷ newest_lsns n tx ws)) ws (all_mono _ _ (λ v h. sym h) ws (others_at w (newest_lsns n tx ws) ws f.0)) one,
    )
    at false s one more = (
      (λ o. all_mono _ _ (λ v h q. false_from_ne_true _ (λ e. both_ways _ s (tx_eq tx w.tx (tx_true tx v.tx (h e) ∙ tx_true v.tx w.tx q)))) ws (lsns_own (suc n) tx ws f.1)),
      more,
    )
