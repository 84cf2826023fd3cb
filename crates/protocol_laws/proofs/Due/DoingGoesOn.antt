-- One thing after another comes to the same end.
use Rattle.std.proofs.Common.{◌≡◌, refl, sym, ap, ◌∙◌, ℕ, zero, suc, ◌≤◌, Option, Some, None, arith}
use Rattle.clv_base.specs.State.{Shard}
use Rattle.clv_base.specs.Due.{next_due, do_due, work}
use Rattle.clv_base.proofs.Settling.{each_leaves_less}
use Rattle.clv_base.proofs.Settling.{do_due_at}
use Rattle.protocol_laws.specs.Candidates.{DoingGoesOn, NothingToDo}

idle : (n : ℕ) (s : Shard) → next_due s ≡ None → do_due n s ≡ s
idle zero s e = refl
idle (suc n) s e = ap (do_due_at n s) e

no_work : (n : ℕ) (s : Shard) (o : Option Shard) → work s ≤ 0 → next_due s ≡ o → do_due n s ≡ s
no_work n s None h e = idle n s e
no_work n s (Some t) h e = absurd (omega (arith, each_leaves_less s t e))

both_enough : (n m : ℕ) (s : Shard) (o : Option Shard) → next_due s ≡ o → work s ≤ suc n → work s ≤ suc m → ((k : ℕ) (t : Shard) → work t ≤ n → work t ≤ k → do_due n t ≡ do_due k t) → do_due_at n s o ≡ do_due_at m s o
both_enough n m s None e a b more = refl
both_enough n m s (Some t) e a b more = let l = each_leaves_less s t e in more m t (omega (arith, l)) (omega (arith, l))

enough : (n m : ℕ) (s : Shard) → work s ≤ n → work s ≤ m → do_due n s ≡ do_due m s
enough zero m s a b = sym (no_work m s (next_due s) a refl)
enough (suc n) zero s a b = no_work (suc n) s (next_due s) b refl
enough (suc n) (suc m) s a b = both_enough n m s (next_due s) refl a b (enough n)

pub doing_goes_on : DoingGoesOn
doing_goes_on s t e =
    let l = each_leaves_less s t e in
    enough (work s) (suc (work s)) s (omega arith) (omega arith) ∙ ap (do_due_at (work s) s) e ∙ enough (work s) (work t) t (omega (arith, l)) (omega arith)

pub nothing_to_do : NothingToDo
nothing_to_do s e = idle (work s) s e
