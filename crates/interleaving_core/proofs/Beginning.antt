-- A world of shards that open empty logs, one after another.
use Rattle.std.proofs.Common.{◌≡◌, refl, sym, ap, subst, ◌∙◌, ℕ, suc, ◌+◌, ◌-◌, ◌<◌, List, [], ◌∷◌, ◌++◌, append_assoc, arith, Option}
use Rattle.std.specs.List.{AllByRecursion, list_all}
use Rattle.clv_base.specs.Shards.{shard_count}
use Rattle.clv_base.specs.State.{Shard}
use Rattle.clv_base.specs.Restarts.{opened}
use Rattle.clv_base.specs.Core.{new_world, opened_from}
use Rattle.clv_base.specs.Journals.{History}
use Rattle.journal_laws.specs.Worlds.{Steady, empty_logs}
use Rattle.interleaving_core.specs.Listed.{Listed}
use Rattle.machine_calls.specs.Events.{sends_fit}
use Rattle.interleaving_core.specs.declared.seat.Seat.{Seat}
use Rattle.crash_laws.proofs.Laws.{new_steady}
use Rattle.interleaving_core.specs.Sound.{shards_of, world_by, IsSeat, AreSound}

module _ {M : Type 0} (shard : M → Shard) (gate : M → Option Listed) where
  shards_more : (seats : List (Seat M)) (x : Seat M) → shards_of shard (seats ++ x ∷ []) ≡ shards_of shard seats ++ shard x.machine ∷ []
  shards_more [] x = refl
  shards_more (y ∷ ys) x = ap (λ l. shard y.machine ∷ l) (shards_more ys x)

  seats_more : (seats : List (Seat M)) (x : Seat M) → AllByRecursion (IsSeat shard gate) seats → IsSeat shard gate x → AllByRecursion (IsSeat shard gate) (seats ++ x ∷ [])
  seats_more [] x a k = (k, tt)
  seats_more (y ∷ ys) x a k = (a.0, seats_more ys x a.1 k)

  -- the shards below n, of so many
  pub record Begun (seats : List (Seat M)) (n count : ℕ) : Type 0 where
    pub new : shards_of shard seats ++ opened_from n (count - n) ≡ opened_from 0 count
    pub each_seat : AllByRecursion (IsSeat shard gate) seats

  pub begun_more : (seats : List (Seat M)) (n count : ℕ) (x : Seat M) → n < count → Begun seats n count → shard x.machine ≡ opened n 1 [] → IsSeat shard gate x → Begun (seats ++ x ∷ []) (n + 1) count
  begun_more seats n count x l b is k =
      let one : n + 1 ≡ suc n = omega arith in
      let left : count - n ≡ suc (count - (n + 1)) = omega arith in
      let rest : List Shard = opened_from (suc n) (count - (n + 1)) in
      record {
        new = ap (λ xs. xs ++ opened_from (n + 1) (count - (n + 1))) (shards_more seats x ∙ ap (λ s. shards_of shard seats ++ s ∷ []) is)
            ∙ ap (λ m. (shards_of shard seats ++ opened n 1 [] ∷ []) ++ opened_from m (count - (n + 1))) one
            ∙ append_assoc (shards_of shard seats) (opened n 1 [] ∷ []) rest ∙ sym (ap (λ m. shards_of shard seats ++ opened_from n m) left) ∙ b.new;
        each_seat = seats_more seats x b.each_seat k;
      }

  -- then it is sound
  pub sound_new : (splits : List ℕ) (seats : List (Seat M)) (h : History) → world_by shard seats h ≡ new_world (shard_count splits) → AllByRecursion (IsSeat shard gate) seats → AreSound shard gate splits seats h
  sound_new splits seats h e a =
      record {
        steady = subst (Steady splits (empty_logs (shard_count splits))) (sym e) (new_steady splits);
        each_seat = a;
        sent = ap (λ w. list_all (λ z. sends_fit (z.1).outcome) w.history) e;
      }
