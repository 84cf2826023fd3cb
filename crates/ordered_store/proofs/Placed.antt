-- What is read and written at the place of a key.
use Rattle.std.proofs.Common.{◌≡◌, ℕ, ◌<◌, true, not, ◌==◌, length, get_or, set, Option, Some, None, refl, sym, ap, subst, ◌∙◌}
use Rattle.std.proofs.lemmas.Bool.{both_ways}
use Rattle.std.specs.List.{filter, insert, remove}
use Rattle.std.specs.Map.{lookup}
use Rattle.clv_base.specs.declared.values.Value.{Value as ValueType}
use Rattle.clv_base.specs.declared.modes.Found.TheVariants.{Absent}
use Rattle.clv_base.specs.Needs.{Records, found_at, found_by, is_there, live_of, value_at, record_set}
use Rattle.ordered_store.specs.Places.{count_below, StandsAt, IsGapAt}
use Rattle.ordered_store.proofs.Rising.{Rises, lows, count_below-lows}
use Rattle.ordered_store.proofs.Finding.{found_there, found_nowhere}
use Rattle.ordered_store.proofs.Writing.{record_set-there, record_set-new, remove-filter}

module _ (k : ℕ) (rs : Records) (i : ℕ) where
  -- where the search ends
  pub stands : i ≡ count_below k rs → i < length rs → ((d : ℕ × Option ValueType) → (get_or rs i d).0 ≡ k) → StandsAt k rs i
  stands p w e = record { place = p; within = w; key = e }

  low : i ≡ count_below k rs → i ≡ lows k rs
  low p = p ∙ count_below-lows k rs

  pub nothing_stands : (d : ℕ × Option ValueType) → Rises rs → i ≡ count_below k rs → (i < length rs → (get_or rs i d).0 ≡ k → ⊥) → found_at k rs ≡ Absent
  nothing_stands d h p n = ap found_by (found_nowhere k d rs h (subst (λ j. j < length rs → (get_or rs j d).0 ≡ k → ⊥) (low p) n))

  module _ (s : StandsAt k rs i) (d : ℕ × Option ValueType) where
    here : (lows k rs < length rs) × ((get_or rs (lows k rs) d).0 ≡ k)
    here = (subst (λ j. j < length rs) (low s.place) s.within, subst (λ j. (get_or rs j d).0 ≡ k) (low s.place) (s.key d))

    looked_up : lookup (◌==◌ k) rs ≡ Some (get_or rs i d).1
    looked_up = found_there k d rs here.0 here.1 ∙ ap (λ j. Some (get_or rs j d).1) (sym (low s.place))

    pub found_here : found_by (Some (get_or rs i d).1) ≡ found_at k rs
    found_here = ap found_by (sym looked_up)

    live_here : (o : Option ValueType) → live_of (found_by (Some o)) ≡ o
    live_here None = refl
    live_here (Some v) = refl

    is_here : (o : Option ValueType) → is_there (found_by (Some o)) ≡ true
    is_here None = refl
    is_here (Some v) = refl

    pub value_here : (get_or rs i d).1 ≡ value_at k rs
    value_here = sym (live_here (get_or rs i d).1) ∙ ap live_of found_here

    pub there_here : is_there (found_at k rs) ≡ true
    there_here = ap is_there (sym found_here) ∙ is_here (get_or rs i d).1

    pub set_here : (v : Option ValueType) → set rs i (k, v) ≡ record_set k v rs
    set_here v = ap (λ j. set rs j (k, v)) (low s.place) ∙ record_set-there k v d rs here.0 here.1

    pub removed_here : Rises rs → remove rs i ≡ filter (λ (r : ℕ × Option ValueType). not (r.0 == k)) rs
    removed_here h = ap (remove rs) (low s.place) ∙ remove-filter k d rs h here.0 here.1

  pub inserted_here : IsGapAt k rs i → (d : ℕ × Option ValueType) → (v : Option ValueType) → insert rs i (k, v) ≡ record_set k v rs
  inserted_here s d v =
      ap (λ j. insert rs j (k, v)) (low s.place)
      ∙ record_set-new k v d rs (λ l e. both_ways (is_there (found_at k rs)) (ap is_there s.absent) (ap (λ o. is_there (found_by o)) (found_there k d rs l e) ∙ there_by (get_or rs (lows k rs) d).1))
    where
      there_by : (o : Option ValueType) → is_there (found_by (Some o)) ≡ true
      there_by None = refl
      there_by (Some v) = refl
