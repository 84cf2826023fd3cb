-- A round before another try, as whoever runs a script is told of them.
use Rattle.std.proofs.Common.{◌≡◌, ◌∙◌, sym, ap, subst, ℕ, [], Option, Some, Result, Ok, Err, arith}
use Rattle.clv_base.specs.declared.names.TxId.{TxId}
use Rattle.clv_base.specs.declared.names.Birth.{Birth}
use Rattle.clv_base.specs.declared.names.Point.{Point}
use Rattle.cluster_turns.specs.declared.shards.Shards.{Shards}
use Rattle.cluster_turns.specs.declared.shards.Walker.{Walker}
use Rattle.cluster_turns.specs.Walkers.{IsSameWalker}
use Rattle.session_ops.specs.declared.parts.RoundError.{RoundError}
use Rattle.session_ops.specs.Rounds.{Rounded}
use Rattle.script_runs.specs.declared.ends.StopCause.{StopCause}
use Rattle.script_runs.specs.declared.ends.StopCause.TheVariants.{Down, Unsettled, Worn, Memory}
use Rattle.script_runs.specs.Seen.{Idle, Seen, Grows}
use Rattle.script_runs.specs.Told.{Begins, RetryTold}
use Rattle.script_runs.proofs.Laws.{grows_on, grows_over}
use Rattle.session_api.specs.declared.progress.Progress.{Progress}
use Rattle.session_api.specs.declared.retrying.RetryError.{RetryError}
use Rattle.session_api.specs.Sessions.{IsSession, RetryCalled, found_in}
use Rattle.session_api.specs.Grounds.{WasDown}
use Rattle.session_api.specs.Standing.{Holds, standing_of, seen_in}
use Rattle.session_api.specs.Ends.{RetryEnds}
use Rattle.session_api.proofs.Taking.{HoldsOn, held_after, found_down}
use Rattle.session_api.proofs.Pointing.{grows_by}
use Rattle.session_api.proofs.AfterRounds.{others_make_none}
use Rattle.session_api.proofs.ScriptBeginning.{RetryDone, retry_done}

begins_later : (birth : Birth) (u m v : Seen) → Grows [] u m → Begins birth m v → Begins birth u v
begins_later birth u m v g b = record {
  tx = b.tx;
  run_is = b.run_is ∙ g.run_is;
  session_is = b.session_is ∙ g.walker_is;
  serial_is = b.serial_is;
  rises = (let up = g.serial_is in let y = b.rises in omega arith);
  grows = grows_over u.clock 0 1 [] [] u m v g b.grows;
  active = b.active;
}

retry_told_later : (birth : Birth) (e : Result Unit StopCause) (u m v : Seen) → Grows [] u m → RetryTold birth e m v → RetryTold birth e u v
retry_told_later birth (Ok a) u m v g told = begins_later birth u m v g told
retry_told_later birth (Err (Worn at)) u m v g told = grows_on [] [] u m v g told
retry_told_later birth (Err (Down n)) u m v g told = (grows_on [] [] u m v g told.0, told.1)
retry_told_later birth (Err (Unsettled n)) u m v g told = absurd told
retry_told_later birth (Err Memory) u m v g told = absurd told

-- the round found a shard down, and the walker has seen it so
pub shard_was_down : {M S G : Type 0} (w m : Walker M S G) (found : Option ℕ) (n : ℕ) → Rounded w.number w.clock w.passes.items (found_in found) m.clock m.passes.items → found ≡ Some n → WasDown n m.passes.items
shard_was_down w m found n d is =
    let k = subst (λ o. Rounded w.number w.clock w.passes.items (found_in o) m.clock m.passes.items) is d in found_down n w.number w.clock m.clock w.passes.items m.passes.items k.turns k.took k.ended

module _ {M S G : Type 0} (sh : Shards M S G) (asked : Point) where
  -- what a round before another try leaves: the session stands as it did, and made nothing
  pub record RoundDone (w : Walker M S G) (s : Progress) (mid : Shards M S G) (m : Walker M S G) (x : Progress) : Type 0 where
    pub holds_on : HoldsOn sh w mid m x
    pub grows : Grows [] (seen_in sh w asked s) (seen_in mid m asked x)

  rounded : {A : Type 0} (w m : Walker M S G) (s : Progress) (r : Result A RoundError) → Holds sh w s → IsSession sh m s → IsSameWalker w m → Rounded w.number w.clock w.passes.items r m.clock m.passes.items → RoundDone w s sh m s
  rounded w m s r h session same d = record {
    holds_on = held_after sh w m s s d.turns h session same d.took;
    grows = grows_by sh w m asked asked (standing_of s) (standing_of s) d.turns [] same d.took (others_make_none d.turns d.others);
  }

  pub round_done : {A : Type 0} (mid : Shards M S G) (w m : Walker M S G) (s x : Progress) (r : Result A RoundError) → mid ≡ sh → x ≡ s → Holds sh w s → IsSession mid m x → IsSameWalker w m
      → Rounded w.number w.clock w.passes.items r m.clock m.passes.items → RoundDone w s mid m x
  round_done mid w m s x r same is h session walker d =
      subst (λ z. RoundDone w s z m x) (sym same) (subst (λ y. RoundDone w s sh m y) (sym is) (rounded w m s r h (subst (IsSession sh m) is (subst (λ z. IsSession z m x) same session)) walker d))

  -- another try follows
  pub retried_done : (mid after : Shards M S G) (w m v : Walker M S G) (s x t : Progress) (r : Result TxId RetryError) (e : Result Unit StopCause) → RoundDone w s mid m x → after ≡ mid → x ≡ s → (birth : Birth) × (standing_of s ≡ Idle (Some birth))
      → RetryCalled mid m x r v t → IsSession after v t → RetryEnds r e → RetryDone sh asked w s e after v t
  retried_done mid after w m v s x t r e done second is ended c session ends =
      let k = retry_done mid asked after m v x t r e second (done.holds_on).holds (subst (λ y. (birth : Birth) × (standing_of y ≡ Idle (Some birth))) (sym is) ended) c session ends in (
        record { holds = (k.0).holds; misses = λ tx n es h. (k.0).misses tx n es ((done.holds_on).misses tx n es h) },
        λ birth idle. retry_told_later birth e (seen_in sh w asked s) (seen_in mid m asked x) (seen_in after v asked t) done.grows (k.1 birth (ap standing_of is ∙ idle)),
        k.2,
        k.3,
      )
