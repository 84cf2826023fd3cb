-- What a going back leaves of a session.
use Rattle.std.proofs.Common.{◌≡◌, ◌∙◌, ◌⊎◌, refl, sym, subst, inl, inr, ℕ, ◌≤◌, ◌^◌, ◌-◌, suc, List, length, Result, Ok, Err, arith}
use Rattle.clv_base.specs.Sessions.{SessionState}
use Rattle.cluster_turns.specs.declared.shards.Shards.{Shards}
use Rattle.cluster_turns.specs.declared.shards.Walker.{Walker}
use Rattle.cluster_turns.specs.Walkers.{IsSameWalker}
use Rattle.cluster_turns.specs.CallTurns.{Turn, Took, FoundDown, FindsDown, FoundWorn, FindsWorn}
use Rattle.cluster_turns.specs.Epochs.{PastAt}
use Rattle.cluster_turns.proofs.Laws.{clock_rises, past_stays, worn_is_last}
use Rattle.session_ops.specs.declared.rolling.BackError.{BackError}
use Rattle.session_ops.specs.declared.rolling.BackError.TheVariants as left
use Rattle.session_ops.specs.Parts.{StandsUnless}
use Rattle.session_ops.specs.WentBack.{RollTold, Rolling, BackTold, GoingBack, has_died}
use Rattle.session_ops.specs.Undone.{IsUndone, LeftBy}
use Rattle.session_ops.proofs.Laws.{ended_are_retriable, any_after}
use Rattle.session_api.specs.declared.progress.Progress.TheVariants.{Active, Undone}
use Rattle.session_api.specs.Progresses.{progress_back}
use Rattle.session_api.specs.Sessions.{StandsIn, IsSession}
use Rattle.session_api.proofs.Keeping.{landed_after}
use Rattle.session_api.proofs.Taking.{found_down}

module _ {M S G : Type 0} (sh : Shards M S G) where
  -- one that was left undone stays so
  pub undone_stays : (w v : Walker M S G) (p : SessionState) (n upto : ℕ) (ts : List Turn) → Took w.number w.clock w.passes.items ts v.clock v.passes.items → IsUndone sh w p n upto → IsUndone sh v p n upto
  undone_stays w v p n upto ts took u = record { below = u.below; seen = u.seen; touched = u.touched; stands = u.stands; past = by u.past }
    where
      by : PastAt n u.seen w.passes.items ⊎ (2 ^ 48 - 1 ≤ w.clock) → PastAt n u.seen v.passes.items ⊎ (2 ^ 48 - 1 ≤ v.clock)
      by (inl past) = inl (past_stays n w.number w.clock v.clock u.seen w.passes.items v.passes.items ts took past)
      by (inr worn) = inr (let l = clock_rises w.number w.clock v.clock w.passes.items v.passes.items ts took in omega arith)

-- ---- where it failed

down_told : (count : ℕ) (p q : SessionState) (nth upto n m : ℕ) (ts : List Turn) → RollTold {A = Unit {0}} count p nth upto n (Err (left.Down m)) ts q → FoundDown m ts
down_told count p q nth upto n m ts (same, (t, is, roll, place)) = subst (FoundDown m) (sym is) (inl (roll.shard ∙ sym same, inl roll.answer))

worn_told : (count : ℕ) (p q : SessionState) (nth upto n m at : ℕ) (ts : List Turn) → RollTold {A = Unit {0}} count p nth upto n (Err (left.Worn m at)) ts q → FoundWorn at ts
worn_told count p q nth upto n m at ts (same, (t, is, roll, place)) = subst (FoundWorn at) (sym is) (inl roll.answer)

module _ {M S G : Type 0} (sh : Shards M S G) (w v : Walker M S G) where
  -- what is left after it, by its turns
  stands_back : (p q : SessionState) (upto : ℕ) (ts : List Turn) (r : Result Unit BackError) → Took w.number w.clock w.passes.items ts v.clock v.passes.items → ((m : ℕ) → r ≡ Err (left.Down m) → FoundDown m ts)
      → ((m at : ℕ) → r ≡ Err (left.Worn m at) → FoundWorn at ts) → LeftBy sh p upto r v q → StandsUnless (has_died r) sh v q → StandsIn sh v (progress_back q upto r)
  stands_back p q upto ts (Ok a) took down worn l stands = stands
  stands_back p q upto ts (Err (left.Aborted cause)) took down worn l stands = ended_are_retriable M S G sh v q stands
  stands_back p q upto ts (Err (left.Down m)) took down worn l stands = (stands, l, found_down m w.number w.clock v.clock w.passes.items v.passes.items ts took (down m refl))
  stands_back p q upto ts (Err (left.Worn m at)) took down worn l stands = (inl stands, (worn_is_last at w.number w.clock v.clock w.passes.items v.passes.items ts took (worn m at refl)).1)

  abbrev pub TurnsTold : SessionState → ℕ → List Turn → SessionState → Result Unit BackError → Type 0
  TurnsTold p upto ts q r = BackTold (length sh.locks.items) p (suc p.nth) upto r ts q

  pub back_down : (p q : SessionState) (upto : ℕ) (r : Result Unit BackError) (ts : List Turn) → TurnsTold p upto ts q r → (m : ℕ) → r ≡ Err (left.Down m) → FoundDown m ts
  back_down p q upto r ts told m is =
      let k = subst (TurnsTold p upto ts q) is told in
      subst (FoundDown m) (sym k.turns_are) (any_after (FindsDown m) k.rolls k.rest (down_told (length sh.locks.items) _ q (suc p.nth) upto k.shard m k.rest k.failed))

  pub back_worn : (p q : SessionState) (upto : ℕ) (r : Result Unit BackError) (ts : List Turn) → TurnsTold p upto ts q r → (m at : ℕ) → r ≡ Err (left.Worn m at) → FoundWorn at ts
  back_worn p q upto r ts told m at is =
      let k = subst (TurnsTold p upto ts q) is told in
      subst (FoundWorn at) (sym k.turns_are) (any_after (FindsWorn at) k.rolls k.rest (worn_told (length sh.locks.items) _ q (suc p.nth) upto k.shard m at k.rest k.failed))

  pub back_session : (p q : SessionState) (upto : ℕ) (r : Result Unit BackError) → IsSession sh w (Active p) → IsSameWalker w v → GoingBack (length sh.locks.items) w.number w.clock w.passes.items p upto r v.clock v.passes.items q → LeftBy sh p upto r v q
      → StandsUnless (has_died r) sh v q → IsSession sh v (progress_back q upto r)
  back_session p q upto r h same d l stands = record {
    stands = stands_back p q upto d.turns r d.took (back_down p q upto r d.turns d.told) (back_worn p q upto r d.turns d.told) l stands;
    landed = landed_after sh w v d.turns same d.took h.landed;
  }

  pub again_session : (p q : SessionState) (n upto : ℕ) (e : BackError) → IsSession sh w (Undone p n upto) → IsSameWalker w v → Rolling {A = Unit {0}} (length sh.locks.items) w.number w.clock w.passes.items p (suc p.nth) upto n (Err e) v.clock v.passes.items q
      → LeftBy {A = Unit {0}} sh p upto (Err e) v q → StandsUnless (has_died {A = Unit {0}} (Err e)) sh v q → IsSession sh v (progress_back {A = Unit {0}} q upto (Err e))
  again_session p q n upto e h same d l stands = record {
    stands =
        stands_back p q upto d.turns (Err e) d.took (λ m is. down_told (length sh.locks.items) p q (suc p.nth) upto n m d.turns (subst (λ x. RollTold (length sh.locks.items) p (suc p.nth) upto n x d.turns q) is d.told))
        (λ m at is. worn_told (length sh.locks.items) p q (suc p.nth) upto n m at d.turns (subst (λ x. RollTold (length sh.locks.items) p (suc p.nth) upto n x d.turns q) is d.told)) l stands;
    landed = landed_after sh w v d.turns same d.took h.landed;
  }
