-- What a round leaves of a session.
use Rattle.std.proofs.Common.{◌≡◌, ◌∙◌, sym, ap, ℕ, List, Some}
use Rattle.clv_base.specs.declared.names.Birth.{Birth}
use Rattle.clv_base.specs.Sessions.{SessionState}
use Rattle.cluster_turns.specs.declared.shards.Shards.{Shards}
use Rattle.cluster_turns.specs.declared.shards.Walker.{Walker}
use Rattle.cluster_turns.specs.Walkers.{IsWalker, IsSameWalker}
use Rattle.cluster_turns.specs.CallTurns.{Turn, Took, AreOthers}
use Rattle.cluster_turns.proofs.Laws.{unborn_stays}
use Rattle.session_ops.specs.Standing.{HasBirth}
use Rattle.session_ops.specs.Requested.{IsStanding}
use Rattle.law_base.proofs.Names.{birth_same}
use Rattle.session_ops.proofs.Passing.{all_unborn, still_ready, still_born}

module _ {M S G : Type 0} (sh : Shards M S G) (w v : Walker M S G) where
  bears_same : (p : SessionState) (birth : Birth) (b : HasBirth w p) → p.birth ≡ Some birth → birth.session ≡ w.number
  bears_same p birth b had = ap (λ x. x.session) (birth_same birth b.birth (sym had ∙ b.is)) ∙ b.bears

  pub still_standing : (p : SessionState) (n : ℕ) (ts : List Turn) → Took w.number w.clock w.passes.items ts v.clock v.passes.items → AreOthers ts → IsWalker sh v → IsSameWalker w v → IsStanding sh w p n → IsStanding sh v p n
  still_standing p n ts took others is_walker same a = record {
    ready = still_ready sh w v p ts took others is_walker same a.ready;
    stands = a.stands;
    born = still_born sh w v p ts took others same a.born;
    spelled = a.spelled;
    gone = λ birth had. unborn_stays n w.number w.clock v.clock w.passes.items v.passes.items ts birth took (bears_same p birth a.born had) (all_unborn n birth ts others) (a.gone birth had);
  }
