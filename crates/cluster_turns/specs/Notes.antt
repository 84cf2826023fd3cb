-- Notes of the writes of a session's transaction, and what its goings back leave of them.
use Rattle.std.specs.Prelude.{⊤, ℕ, suc, ◌≤◌, Bool, true, false, cond, not, ◌&&◌, ◌==◌, nat_lt, List, [], ◌∷◌}
use Rattle.std.specs.List.{AllByRecursion, filter, list_any}
use Rattle.clv_base.specs.declared.ops.Op.{Op}
use Rattle.clv_base.specs.declared.ops.Op.TheVariants.{Get, Put, Del, Scan, Add}
use Rattle.clv_base.specs.Backs.{stands_for_back}
use Rattle.clv_base.specs.Sessions.{SessionState, is_whole_now, numbered, with_written}

-- whether an operation may write
abbrev pub may_write : Op → Bool
may_write (Get k) = false
may_write (Put k v) = true
may_write (Del k) = true
may_write (Scan lo hi) = false
may_write (Add k by) = true

-- the place with a note of an operation that may write, ahead of its answer
abbrev pub with_note : ℕ → ℕ → Op → SessionState → SessionState
with_note n nth op p = record p { written = with_written n nth (may_write op) p.written }

-- whether a write of an operation numbered above upto is noted, on shard n and on any
abbrev pub is_noted : ℕ → ℕ → List (ℕ × ℕ) → Bool
is_noted n upto ws = list_any (λ w. (w.0 == n) && nat_lt upto w.1) ws

abbrev pub is_above : ℕ → List (ℕ × ℕ) → Bool
is_above upto ws = list_any (λ w. nat_lt upto w.1) ws

-- the notes that are left where these of shard n are taken away
abbrev pub is_left : ℕ → ℕ → ℕ × ℕ → Bool
is_left n upto w = not ((w.0 == n) && nat_lt upto w.1)

abbrev pub notes_left : ℕ → ℕ → List (ℕ × ℕ) → List (ℕ × ℕ)
notes_left n upto ws = filter (is_left n upto) ws

-- the numbers fall, from this one on
abbrev pub FallFrom : ℕ → List (ℕ × ℕ) → Type 0
FallFrom nth [] = ⊤
FallFrom nth (w ∷ ws) = (w.1 ≤ nth) × FallFrom w.1 ws

-- and so they do from that of the first one
abbrev pub AreFalling : List (ℕ × ℕ) → Type 0
AreFalling [] = ⊤
AreFalling (w ∷ ws) = FallFrom w.1 ws

-- goings back with numbers up to this one
abbrev pub AreUpTo : ℕ → List (ℕ × ℕ) → Type 0
AreUpTo nth bs = AllByRecursion (λ b. b.0 ≤ nth) bs

-- a going back that takes the next number begins
abbrev pub back_begun : ℕ → ℕ → SessionState → SessionState
back_begun nth upto t =
    cond (nth == suc t.nth) (record (numbered nth t) { is_whole = is_whole_now t && stands_for_back nth upto t.backs; backs = (nth, upto) ∷ t.backs }) t
