-- What a going back leaves: one that is done, and one that is left undone.
use Rattle.std.specs.Prelude.{◌≡◌, ◌⊎◌, ⊤, ℕ, suc, ◌<◌, ◌≤◌, ◌^◌, ◌-◌, ◌==◌, nat_le, true, cond, ◌∷◌, length, Some, Result, Ok, Err}
use Rattle.std.specs.List.{filter}
use Rattle.std.specs.Map.{lookup}
use Rattle.clv_base.specs.Backs.{stands_for_back}
use Rattle.clv_base.specs.Sessions.{SessionState, is_whole_now}
use Rattle.cluster_turns.specs.declared.shards.Shards.{Shards}
use Rattle.cluster_turns.specs.declared.shards.Walker.{Walker}
use Rattle.cluster_turns.specs.Notes.{is_above}
use Rattle.cluster_turns.specs.Epochs.{PastAt}
use Rattle.session_ops.specs.declared.rolling.BackError.{BackError}
use Rattle.session_ops.specs.declared.rolling.BackError.TheVariants.{Aborted, Down, Worn}

-- p, gone back to where it was after its operations numbered up to upto: no write of a later one stands. It took a number where one did
pub record IsBack (p : SessionState) (upto : ℕ) (q : SessionState) : Type 0 where
  pub tx : q.tx ≡ p.tx
  pub birth : q.birth ≡ p.birth
  pub touched : q.touched ≡ p.touched
  pub phase : q.phase ≡ p.phase
  pub nth : q.nth ≡ cond (is_above upto p.written) (suc p.nth) p.nth
  pub backs : q.backs ≡ cond (is_above upto p.written) ((suc p.nth, upto) ∷ p.backs) p.backs
  pub written : q.written ≡ filter (λ w. nat_le w.1 upto) p.written
  pub whole : is_whole_now q ≡ is_whole_now p

abbrev pub failed_as : BackError → Result (Unit {0}) BackError
failed_as e = Err e

module _ {M S G : Type 0} where
  -- the active transaction p has a going back to upto that was left undone on shard n: this is past the epoch in which p wrote there, or the clock is at its end
  pub record IsUndone (sh : Shards M S G) (w : Walker M S G) (p : SessionState) (n upto : ℕ) : Type 0 where
    pub below : n < length sh.locks.items
    pub seen : ℕ
    pub touched : lookup (◌==◌ n) p.touched ≡ Some seen
    pub stands : stands_for_back (suc p.nth) upto p.backs ≡ true
    pub past : PastAt n seen w.passes.items ⊎ (2 ^ 48 - 1 ≤ w.clock)

  -- after a going back: done, over, or left undone on a shard
  abbrev pub LeftBy : {A : Type 0} → Shards M S G → SessionState → ℕ → Result A BackError → Walker M S G → SessionState → Type 0
  LeftBy sh p upto (Ok a) w q = IsBack p upto q
  LeftBy sh p upto (Err (Aborted cause)) w q = ⊤
  LeftBy sh p upto (Err (Down n)) w q = IsUndone sh w q n upto
  LeftBy sh p upto (Err (Worn n at)) w q = IsUndone sh w q n upto
