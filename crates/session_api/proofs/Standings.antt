-- How a session's last transaction stands, as whoever runs a script reads it.
use Rattle.std.proofs.Common.{◌≡◌, refl, sym, ap, subst, ℕ, ◌<◌, ◌≤◌, ◌^◌, ◌-◌, ◌==◌, Bool, true, false, cond, List, [], ◌∷◌, Option, Some, None, inl, inr}
use Rattle.std.specs.Prelude.{is_some, IfNone, IfSome}
use Rattle.std.specs.Map.{lookup}
use Rattle.std.proofs.lemmas.Bool.{both_ways}
use Rattle.clv_base.specs.declared.names.TxId.{TxId}
use Rattle.clv_base.specs.declared.names.Birth.{Birth}
use Rattle.clv_base.specs.declared.names.Point.{Point}
use Rattle.clv_base.specs.Sessions.{SessionState, is_lowest}
use Rattle.cluster_turns.specs.declared.shards.Shards.{Shards}
use Rattle.cluster_turns.specs.declared.shards.Walker.{Walker}
use Rattle.session_ops.specs.Standing.{HasBirth}
use Rattle.session_ops.specs.Standings.{IsUnasked}
use Rattle.script_runs.specs.Seen.{Idle, Active, Asked, IsStage, Grows}
use Rattle.script_runs.specs.declared.calls.Stage.TheVariants as stage
use Rattle.session_api.specs.declared.progress.Progress.{Progress}
use Rattle.session_api.specs.Seeing.{touched_in}
use Rattle.session_api.specs.Standing.{active_as, seen_in}
use Rattle.script_runs.proofs.Laws.{grows_none}

-- ---- what is read

-- the place p, whose birth is this, is of this transaction
pub record IsOf (p : SessionState) (o : Option Birth) (tx : TxId) (birth : Birth) (nth : ℕ) (touched : ℕ → Bool) : Type 0 where
  pub birth_is : o ≡ Some birth
  pub tx_is : p.tx ≡ tx
  pub nth_is : p.nth ≡ nth
  pub touched_is : touched_in p.touched ≡ touched

active_parts : (x tx : TxId) (b birth : Birth) (k nth : ℕ) (f touched : ℕ → Bool) → Active x b k f ≡ Active tx birth nth touched → (b ≡ birth) × (x ≡ tx) × (k ≡ nth) × (f ≡ touched)
active_parts x tx b birth k nth f touched h = (cc, cc, cc, cc)

pub read_active : (p : SessionState) (o : Option Birth) (tx : TxId) (birth : Birth) (nth : ℕ) (touched : ℕ → Bool) → active_as p o ≡ Active tx birth nth touched → IsOf p o tx birth nth touched
read_active p None tx birth nth touched h = absurd cc
read_active p (Some b) tx birth nth touched h =
    let k = active_parts p.tx tx b birth p.nth nth (touched_in p.touched) touched h in record { birth_is = ap (λ (x : Birth). Some x) k.0; tx_is = k.1; nth_is = k.2; touched_is = k.3 }

-- a clause for the place's transaction is one for this
pub of_this : (p : SessionState) (o : Option Birth) (tx : TxId) (birth : Birth) (nth : ℕ) (touched : ℕ → Bool) → IsOf p o tx birth nth touched → (F : TxId → ℕ → (ℕ → Bool) → Type 0) → F p.tx p.nth (touched_in p.touched) → F tx nth touched
of_this p o tx birth nth touched is F h = subst (λ t. F t nth touched) is.tx_is (subst (λ n. F p.tx n touched) is.nth_is (subst (F p.tx p.nth) is.touched_is h))

pub never_idle : {X : Type 0} (p : SessionState) (o : Option Birth) (b : Birth) (again : Option Birth) → o ≡ Some b → active_as p o ≡ Idle again → X
never_idle p None b again is h = absurd cc
never_idle p (Some c) b again is h = absurd cc

-- where nothing is active or ended
pub idle_active : {X : Type 0} (again : Option Birth) (tx : TxId) (birth : Birth) (nth : ℕ) (touched : ℕ → Bool) → Idle again ≡ Active tx birth nth touched → X
idle_active again tx birth nth touched h = absurd cc

pub asked_active : {X : Type 0} (tx : TxId) (birth : Birth) (nth : ℕ) (touched : ℕ → Bool) → Asked ≡ Active tx birth nth touched → X
asked_active tx birth nth touched h = absurd cc

pub asked_idle : {X : Type 0} (again : Option Birth) → Asked ≡ Idle again → X
asked_idle again h = absurd cc

pub idle_again : (a b : Option Birth) → Idle a ≡ Idle b → a ≡ b
idle_again a b h = cc

pub none_again : {X : Type 0} (birth : Birth) → Idle None ≡ Idle (Some birth) → X
none_again birth h = absurd cc

-- ---- its stage

lowest_touched : (n : ℕ) (ts : List (ℕ × ℕ)) → is_lowest n ts ≡ true → touched_in ts n ≡ true
lowest_touched n [] h = absurd (both_ways false refl h)
lowest_touched n (t ∷ ts) h = ap (λ b. is_some (cond b (Some t.1) (lookup (◌==◌ n) ts))) h

-- an active transaction, by the lowest shard that it touched, if any
pub stage_active : (p : SessionState) (o : Option Birth) (birth : Birth) (home : Option ℕ) → o ≡ Some birth → IfNone home (p.touched ≡ []) → IfSome home (λ n. (is_lowest n p.touched ≡ true) × (n < 16)) → IsStage (active_as p o) (stage.Active (is_some home))
stage_active p None birth home is none low = absurd cc
stage_active p (Some b) birth None is none low = (false, refl, λ n. ap (λ ts. touched_in ts n) none)
stage_active p (Some b) birth (Some home) is none low = (true, refl, (home, lowest_touched home p.touched low.0))

module _ {M S G : Type 0} (sh : Shards M S G) where
  pub unasked_born : (w : Walker M S G) (p : SessionState) → IsUnasked sh w p → HasBirth w p
  unasked_born w p (inl active) = active.born
  unasked_born w p (inr ending) = ending.over.born

  pub stays_grown : (w v : Walker M S G) (asked : Point) (s t : Progress) → v ≡ w → t ≡ s → Grows [] (seen_in sh w asked s) (seen_in sh v asked t)
  stays_grown w v asked s t is same =
      subst (λ z. Grows [] (seen_in sh w asked s) (seen_in sh z asked t)) (sym is) (subst (λ x. Grows [] (seen_in sh w asked s) (seen_in sh w asked x)) (sym same) (grows_none (seen_in sh w asked s)))

module _ {M S G : Type 0} where
  -- the clock is at its end still
  pub worn_still : (w v : Walker M S G) → v ≡ w → 2 ^ 48 - 1 ≤ w.clock → 2 ^ 48 - 1 ≤ v.clock
  worn_still w v is h = subst (λ z. 2 ^ 48 - 1 ≤ z.clock) (sym is) h
