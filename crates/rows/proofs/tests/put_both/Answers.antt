use Rattle.std.proofs.Common.{◌≡◌, Bool, false, sym, ap₂, ◌∙◌, subst}
use mathlib.Core.Logic.{dite}
use native.Mathlib.Decide.{ℕ_discrete}
use Rattle.io_model.specs.Sides.{sides_out}
use Rattle.disk_memory.specs.House.{is_out_at}
use Rattle.rows.proofs.tests.put_both.Goals as goal

both : (a b c d : Bool) → a ≡ c → b ≡ d → ◌≡◌ {A = Bool × Bool} (a, b) (c, d)
both a b c d first second = ap₂ (λ (x y : Bool). (x, y)) first second

pub returns : goal.returns
returns c =
    let first = c.put.ensures in
    let second = c.put-2.ensures in
    record {
      inside = λ n low.
          dite (ℕ_discrete n c.args.shard)
          (λ is. subst (λ m. sides_out (is_out_at c.put-2.new.self.slots.items) m ≡ (false, false)) (sym is) (both _ _ _ _ (second.other_side.0 ∙ first.back) second.back))
          (λ other. (let one = first.others n other in let two = second.others n other in both _ _ _ _ ((two.1 0).0 ∙ (one.1 0).0) ((two.1 1).0 ∙ (one.1 1).0)) ∙ c.requires.inside n low);
    }
