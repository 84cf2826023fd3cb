-- What a session made whose clock was raised, and behind its first transaction.
use Rattle.std.proofs.Common.{◌≡◌, refl, ap, subst, ◌∙◌, ℕ, ◌<◌, ◌≤◌, max, min, List, [], ◌∷◌, ◌++◌, take, length, append_assoc, Option, arith}
use Rattle.std.specs.List.{AllByRecursion}
use Rattle.clv_base.specs.Journals.{History}
use Rattle.script_lang.specs.Bodies.{Body}
use Rattle.script_runs.specs.declared.ends.StopCause.{StopCause}
use Rattle.script_runs.specs.Seen.{Seen, Misses, AreStamped, GrowsFrom, GrowsIn, raised}
use Rattle.script_runs.specs.Sessions.{FollowsScript, tries_of}
use Rattle.script_runs.specs.Ran.{Rise, FollowsFrom, Follows}
use Rattle.script_runs.specs.Begun.{HasBegun}
use Rattle.script_runs.specs.Alone.{BeginsBy, BeginsPast}

rise_below : (lo lo' hi : ℕ) (ns : List ℕ) → lo ≤ lo' → Rise lo' ns hi → Rise lo ns hi
rise_below lo lo' hi [] low rise = (omega arith)
rise_below lo lo' hi (n ∷ ns) low rise = ((let l = rise.0 in omega arith), rise.1)

stamped_below : (k k' m : ℕ) (es : History) → k ≤ k' → AreStamped k' m es → AreStamped k m es
stamped_below k k' m [] low s = tt
stamped_below k k' m (e ∷ es) low s = (((let l = s.0.0 in omega arith), s.0.1), stamped_below k k' m es low s.1)

pub all_past : (clock k m : ℕ) (es : History) → clock ≤ k → AreStamped k m es → AllByRecursion (λ e. clock < (e.1).stamp) es
all_past clock k m [] low s = tt
all_past clock k m (e ∷ es) low s = ((let l = s.0.0 in omega arith), all_past clock k m es low s.1)

all_early : (clock k m : ℕ) (es : History) → m ≤ clock → AreStamped k m es → AllByRecursion (λ e. (e.1).stamp ≤ clock) es
all_early clock k m [] high s = tt
all_early clock k m (e ∷ es) high s = ((let l = s.0.1 in omega arith), all_early clock k m es high s.1)

grows_below : (clock n : ℕ) (es : History) (u v : Seen) → GrowsIn n es (raised clock u) v → GrowsFrom (max u.clock clock) n es u v
grows_below clock n es u v g =
    record {
      splits_are = g.splits_are;
      run_is = g.run_is;
      walker_is = g.walker_is;
      entries_are = g.entries_are;
      clock_rises = let c = g.clock_rises in omega arith;
      serial_is = g.serial_is;
      latest_rises = g.latest_rises;
      dated = g.dated;
      stamped = stamped_below u.clock (max u.clock clock) v.clock es (omega arith) g.stamped;
    }

-- a session whose clock was raised follows as before, from that clock
pub follows_raised : (missed : Misses) (bodies : List Body) (most : Option ℕ) (cause : Option StopCause) (clock : ℕ) (u w v : Seen) → w ≡ raised clock u → Follows missed bodies most cause w v → FollowsFrom (max u.clock clock) missed bodies most cause u v
follows_raised missed bodies most cause clock u w v is f = at (subst (λ z. Follows missed bodies most cause z v) is f)
  where
    at : Follows missed bodies most cause (raised clock u) v → FollowsFrom (max u.clock clock) missed bodies most cause u v
    at f = (f.0, f.1, grows_below clock (length (tries_of (f.1).transactions)) f.0 u v f.2, rise_below u.clock (max u.clock clock) v.clock _ (omega arith) f.3, f.4, f.5)

-- and its entries have stamps past that clock
pub begins_past : (missed : Misses) (bodies : List Body) (most : Option ℕ) (cause : Option StopCause) (clock : ℕ) (u w v : Seen) → w ≡ raised clock u → Follows missed bodies most cause w v → BeginsPast clock u v
begins_past missed bodies most cause clock u w v is f = at (subst (λ z. Follows missed bodies most cause z v) is f)
  where
    at : Follows missed bodies most cause (raised clock u) v → BeginsPast clock u v
    at f = record { more = f.0; entries_are = (f.2).entries_are; late = all_past clock (max u.clock clock) v.clock f.0 (omega arith) (f.2).stamped }

-- the first transaction, and what was made behind it
pub begins_by : (missed : Misses) (bodies left : List Body) (most : Option ℕ) (cause : Option StopCause) (u v w : Seen) (more : History) → HasBegun missed bodies left most cause u v → w.entries ≡ v.entries ++ more → BeginsBy v.clock bodies most u w
begins_by missed bodies left most cause u v w more b is =
    let f = b.follows in
    record {
      cause = cause;
      first = f.0;
      rest = more;
      entries_are = is ∙ ap (λ es. es ++ more) (f.2).entries_are ∙ append_assoc u.entries f.0 more;
      follows = subst (λ bs. FollowsScript u.splits u.run u.walker most bs cause f.0) b.front_is f.1;
      early = all_early v.clock u.clock v.clock f.0 (omega arith) (f.2).stamped;
    }

pub takes_one : {X : Type 0} (xs : List X) → take (min (length xs) 1) xs ≡ take 1 xs
takes_one [] = refl
takes_one (x ∷ xs) = ap (λ n. take n (x ∷ xs)) (let e : min (length (x ∷ xs)) 1 ≡ 1 = omega arith in e)
