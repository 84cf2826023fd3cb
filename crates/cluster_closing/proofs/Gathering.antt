-- Lists that are filled or changed place by place.
use Rattle.std.proofs.Common.{◌≡◌, ℕ, ◌+◌, ◌<◌, List, length, get_or, set, sym, ap, ◌∙◌, subst, arith, None, get_or-set_same, get_or-set_other}
use mathlib.Core.Logic.{dite}
use Rattle.turn_lock.specs.Journals.{StartsWith, entries_by}
use Rattle.machine_laws.specs.declared.notes.Note.{Note}
use Rattle.machine_laws.specs.declared.notes.Origin.{Origin}
use Rattle.machine_laws.specs.Notes.{noter}
use Rattle.cluster_turns.specs.declared.shards.Walker.{Walker}
use Rattle.cluster_closing.specs.Ending.{ClosedAt, seen_of, own_notes, origin_of}
use native.Mathlib.Decide.{ℕ_discrete}

module _ {X : Type 0} (P : ℕ → X → Type 0) where
  pub set_each : (xs : List X) (x : X) (n : ℕ) → n < length xs → ((j : ℕ) (e : X) → j < n → P j (get_or xs j e)) → P n x → (j : ℕ) (e : X) → j < n + 1 → P j (get_or (set xs n x) j e)
  set_each xs x n len old new j e l = dite (ℕ_discrete j n)
      (λ same. subst (λ (y : X). P j y) (sym (ap (λ (i : ℕ). get_or (set xs n x) i e) same ∙ get_or-set_same xs n x e len)) (subst (λ (i : ℕ). P i x) (sym same) new))
      (λ other. let low : j < n = omega arith in subst (λ (y : X). P j y) (sym (get_or-set_other xs n j x e other)) (old j e low))

module _ {M S G : Type 0} where
  pub closed_same : (V W : List (Walker M S G)) (m : ℕ) (o : Origin) (J : List Note) → length V ≡ length W → ((k : ℕ) (d : Walker M S G) → k < length V → (get_or V k d).number ≡ (get_or W k d).number)
      → ((k : ℕ) (d : Walker M S G) → k < length V → get_or (get_or V k d).passes.items m None ≡ get_or (get_or W k d).passes.items m None) → ClosedAt V m o J → ClosedAt W m o J
  closed_same V W m o J len num pass c = record {
    seen_is = λ k d l. subst (λ x. StartsWith J (seen_of x)) (pass k d (omega arith)) (c.seen_is k d (omega arith));
    own_is = λ k d l. ap (λ w. entries_by noter w J) (sym (num k d (omega arith))) ∙ (c.own_is k d (omega arith) ∙ ap (λ x. own_notes x) (pass k d (omega arith)));
    others = λ w h. c.others w (λ k d l. (λ is. h k d (omega arith) (sym (num k d l) ∙ is)));
    origin_is = λ k d l. ap (λ x. origin_of x) (sym (pass k d (omega arith))) ∙ c.origin_is k d (omega arith);
  }
