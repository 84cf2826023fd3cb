-- What tests say of all writes they say of some of them, where each of those has what the test asks.
use Rattle.std.proofs.Common.{◌≡◌, refl, ⊎_elim, Bool, true, not, ◌&&◌, List, [], ◌∷◌}
use Rattle.std.specs.List.{AllByRecursion, filter, list_any, list_all}
use Rattle.std.proofs.lemmas.Bool.{both_ways, and_parts, and_from, cond_both, or_cases}
use Rattle.clv_base.specs.declared.names.TxId.{TxId}
use Rattle.clv_base.specs.Orders.{tx_same}
use Rattle.clv_base.specs.Logs.{StandingUpdate}
use Rattle.clv_base.specs.LogRules.{lies_below, has_above, writes_below}
use Rattle.clv_base.proofs.SameNames.{or_left, or_right}
use Rattle.law_base.proofs.Bools.{and_first as front, and_second as last}
use Rattle.law_base.proofs.Lists.{all_mono, all_both, all_kept, filter_passes}

some_kept : (f p : StandingUpdate → Bool) (ws : List StandingUpdate) → list_any f (filter p ws) ≡ true → list_any f ws ≡ true
some_kept f p [] e = e
some_kept f p (w ∷ ws) e =
    cond_both (p w) (w ∷ filter p ws) (filter p ws) (λ vs. list_any f vs ≡ true → list_any f (w ∷ ws) ≡ true)
    (λ _ h. ⊎_elim (λ a. or_left _ _ a) (λ b. or_right (f w) _ (some_kept f p ws b)) (or_cases (f w) (list_any f (filter p ws)) h)) (λ _ h. or_right (f w) _ (some_kept f p ws h)) e

-- and one that passes is among those that stay, where it has what that asks
pub some_stays : (f g p : StandingUpdate → Bool) (ws : List StandingUpdate) → ((w : StandingUpdate) → f w ≡ true → (p w ≡ true) × (g w ≡ true)) → list_any f ws ≡ true → list_any g (filter p ws) ≡ true
some_stays f g p [] step e = e
some_stays f g p (w ∷ ws) step e =
    ⊎_elim
    (λ h. let s = step w h in cond_both (p w) (w ∷ filter p ws) (filter p ws) (λ vs. list_any g vs ≡ true) (λ _. or_left _ _ s.1) (λ n. absurd (both_ways _ n s.0)))
    (λ r. let k = some_stays f g p ws step r in cond_both (p w) (w ∷ filter p ws) (filter p ws) (λ vs. list_any g vs ≡ true) (λ _. or_right (g w) _ k) (λ _. k))
    (or_cases (f w) (list_any f ws) e)

all_passes : (f : StandingUpdate → Bool) (ws : List StandingUpdate) → list_all f ws ≡ true → AllByRecursion (λ w. f w ≡ true) ws
all_passes f [] e = tt
all_passes f (w ∷ ws) e = let p = and_parts (f w) (list_all f ws) e in (p.0, all_passes f ws p.1)

passes_all : (f : StandingUpdate → Bool) (ws : List StandingUpdate) → AllByRecursion (λ w. f w ≡ true) ws → list_all f ws ≡ true
passes_all f [] a = refl
passes_all f (w ∷ ws) a = and_from _ _ a.0 (passes_all f ws a.1)

passes_filter : (f g : StandingUpdate → Bool) (ws : List StandingUpdate) → AllByRecursion (λ w. g w ≡ true → f w ≡ true) ws → list_all f (filter g ws) ≡ true
passes_filter f g [] a = refl
passes_filter f g (w ∷ ws) a =
    cond_both (g w) (w ∷ filter g ws) (filter g ws) (λ vs. list_all f vs ≡ true) (λ e. and_from _ _ (a.0 e) (passes_filter f g ws a.1)) (λ e. passes_filter f g ws a.1)

module _ (P : StandingUpdate → Type 0) (f g p : StandingUpdate → Bool) (ws : List StandingUpdate) (step : (w : StandingUpdate) → P w → f w ≡ true → g w ≡ true) (all : AllByRecursion P (filter p ws)) where
  pub all_stay : list_all f ws ≡ true → list_all g (filter p ws) ≡ true
  all_stay e =
      passes_all g (filter p ws)
      (all_mono _ _ (λ w h. step w h.0 h.1) (filter p ws) (all_both P (λ w. f w ≡ true) (filter p ws) all (all_kept (λ w. f w ≡ true) p ws (all_passes f ws e))))

  pub below_stay : (tx : TxId) → list_all f (writes_below tx ws) ≡ true → list_all g (writes_below tx (filter p ws)) ≡ true
  below_stay tx e =
      passes_filter g (λ w. not (tx_same tx w.tx) && has_above tx w (filter p ws)) (filter p ws)
      (all_mono _ _ (λ w h b. step w h.0 (h.1 (and_from _ _ (front _ _ b) (some_kept (λ v. tx_same tx v.tx && lies_below w v) p ws (last _ _ b))))) (filter p ws)
      (all_both P (λ w. (not (tx_same tx w.tx) && has_above tx w ws) ≡ true → f w ≡ true) (filter p ws) all
      (all_kept _ p ws (filter_passes f (λ w. not (tx_same tx w.tx) && has_above tx w ws) ws e))))
