-- What was given up stays so.
use Rattle.std.proofs.Common.{◌≡◌, ◌⊎◌, inl, inr, ℕ, ◌≤◌, true, List, [], ◌∷◌, ◌++◌, arith}
use Rattle.clv_base.specs.Journals.{History}
use Rattle.script_runs.specs.declared.ends.StopCause.TheVariants as stop
use Rattle.script_runs.specs.declared.ends.TryEnd.{TryEnd}
use Rattle.script_runs.specs.declared.ends.TryEnd.TheVariants as end
use Rattle.script_runs.specs.Tries.{Try, is_touched}
use Rattle.script_runs.specs.Dropped.{HasDropped, LetsGo, AllLetGo}
use Rattle.script_runs.specs.Seen.{Misses, Keeps}

pub kept_so : (missed : Misses) → Keeps missed missed
kept_so missed tx n es h = h

dropped_later : (missed later : Misses) (t : Try) → Keeps missed later → HasDropped missed t → HasDropped later t
dropped_later missed later t keeps h = record { before = h.before; drops = h.drops; entries_are = h.entries_are; only = h.only; each = λ n k. at n (h.each n k) }
  where
    at : (n : ℕ) → (is_touched h.drops n ≡ true) ⊎ ((earlier : History) × missed t.tx n (earlier ++ h.before)) → (is_touched h.drops n ≡ true) ⊎ ((earlier : History) × later t.tx n (earlier ++ h.before))
    at n (inl k) = inl k
    at n (inr (earlier, k)) = inr (earlier, keeps t.tx n (earlier ++ h.before) k)

lets_go_later : (missed later : Misses) (c e : ℕ) (t : Try) (x : TryEnd) → Keeps missed later → c ≤ e → LetsGo missed c t x → LetsGo later e t x
lets_go_later missed later c e t end.Asked keeps up h = dropped_later missed later t keeps h
lets_go_later missed later c e t (end.Stopped (stop.Down n)) keeps up (inl h) = inl (dropped_later missed later t keeps h)
lets_go_later missed later c e t (end.Stopped (stop.Down n)) keeps up (inr h) = inr (omega arith)
lets_go_later missed later c e t (end.Stopped (stop.Unsettled n)) keeps up h = tt
lets_go_later missed later c e t (end.Stopped (stop.Worn at)) keeps up h = tt
lets_go_later missed later c e t (end.Stopped stop.Memory) keeps up h = tt
lets_go_later missed later c e t end.Acknowledged keeps up h = tt
lets_go_later missed later c e t end.Empty keeps up h = tt
lets_go_later missed later c e t (end.Aborted cause) keeps up h = tt

pub all_let_go_later : (missed later : Misses) (c e : ℕ) (ts : List Try) → Keeps missed later → c ≤ e → AllLetGo missed c ts → AllLetGo later e ts
all_let_go_later missed later c e [] keeps up h = tt
all_let_go_later missed later c e (t ∷ ts) keeps up h = (lets_go_later missed later c e t t.end keeps up h.0, all_let_go_later missed later c e ts keeps up h.1)
