-- A walker's place.
use Rattle.std.proofs.Common.{◌≡◌, refl, ◌∙◌, sym, ap, subst, arith, ℕ, ◌+◌, ◌<◌, ◌≤◌, List, [], ◌∷◌, ◌++◌, length, get_or}
use Rattle.std.proofs.lemmas.List.{get_or_append_left, get_or_at}
use mathlib.Core.Logic.{dite}
use native.Mathlib.Decide.{ℕ_discrete}
use Rattle.cluster_opening.specs.Made.{IsNewWalker}
use Rattle.cluster_turns.specs.declared.shards.Shards.{Shards}
use Rattle.cluster_turns.specs.declared.shards.Walker.{Walker}
use Rattle.cluster_turns.specs.Walkers.{IsWalker, kept}
use Rattle.law_base.proofs.Lists.{all_mono}

-- what holds of each of a list, and of one more behind it
module _ {X : Type 0} (P : ℕ → X → Type 0) where
  pub pushed_each : (xs : List X) (x : X) (n : ℕ) → length xs ≡ n → ((j : ℕ) (e : X) → j < n → P j (get_or xs j e)) → P n x → (j : ℕ) (e : X) → j < n + 1 → P j (get_or (xs ++ x ∷ []) j e)
  pushed_each xs x n len old new j e l = dite (ℕ_discrete j n)
      (λ same. subst (λ (y : X). P j y) (sym (ap (λ (i : ℕ). get_or (xs ++ x ∷ []) i e) same ∙ get_or_at xs x [] e n len)) (subst (λ (i : ℕ). P i x) (sym same) new))
      (λ other. let low : j < n = omega arith in subst (λ (y : X). P j y) (sym (get_or_append_left xs (x ∷ []) e j (omega arith))) (old j e low))

-- ---- a clock that is raised

walker_up : {M S G : Type 0} (sh : Shards M S G) (clock : ℕ) (w : Walker M S G) → w.clock ≤ clock → IsWalker sh w → IsWalker sh (record w { clock = clock })
walker_up sh clock w low h = record {
  count = h.count;
  run = h.run;
  walks = record {
    are_passes = (h.walks).are_passes;
    keeps = (h.walks).keeps;
    in_time = all_mono (λ f. (f.1).stamp ≤ w.clock) (λ f. (f.1).stamp ≤ clock) (λ f l. omega arith) (kept w.passes.items) (h.walks).in_time;
  };
  serials = (let s = h.serials in omega arith);
}

pub new_up : {M S G : Type 0} (sh : Shards M S G) (number clock : ℕ) (w : Walker M S G) → IsNewWalker sh number 0 w → IsNewWalker sh number clock (record w { clock = clock })
new_up sh number clock w h = record { walker = walker_up sh clock w (let c = h.clock_is in omega arith) h.walker; number_is = h.number_is; clock_is = refl; none_begun = h.none_begun; new = h.new }
