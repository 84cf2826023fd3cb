-- One step of a world, by what its shard made of it.
use Rattle.std.proofs.Common.{◌≡◌, refl, sym, ap, subst, ◌∙◌, ℕ, zero, suc, ◌<◌, ◌≤◌, true, false, not, Bool, List, [], ◌∷◌, length, get_or, arith, nat_lt, nat_le, Option, Some, None}
use Rattle.std.specs.Prelude.{slice_get, slice_set, is_none}
use Rattle.std.specs.List.{AllByRecursion, list_all}
use Rattle.std.proofs.lemmas.Bool.{both_ways, and_parts, leb-true, ltb-true}
use Rattle.clv_base.specs.declared.events.CoreStep.{CoreStep}
use Rattle.clv_base.specs.declared.events.Outcome.{Outcome}
use Rattle.clv_base.specs.declared.events.Entry.{Entry}
use Rattle.clv_base.specs.Shards.{shard_count, are_splits, not_rising}
use Rattle.clv_base.specs.State.{Shard}
use Rattle.clv_base.specs.Core.{clock_of, answer_by, entry_of, put_entry}
use Rattle.clv_base.specs.Journals.{History, own, has_no_equal_active_birth}
use Rattle.clv_base.specs.Sessions.{is_session}
use Rattle.journal_laws.specs.Worlds.{Steady, empty_logs}
use Rattle.interleaving_core.specs.Listed.{Listed}
use Rattle.machine_calls.specs.Events.{sends_fit}
use Rattle.interleaving_core.specs.declared.seat.Seat.{Seat}
use Rattle.crash_laws.specs.Moves.{Moves}
use Rattle.crash_laws.specs.Running.{run_step, is_offered}
use Rattle.crash_laws.proofs.Laws.{empty_run, refused_step, rival_step, idle_step, taken_step, steady_step, put_tests, stands}
use Rattle.interleaving_core.specs.Making.{MakesEntry}
use Rattle.interleaving_core.specs.Sound.{shards_of, world_by, IsSeat, AreSound}

same_set : (xs : List Shard) (n : ℕ) (s : Shard) → slice_get xs n ≡ Some s → slice_set xs n s ≡ xs
same_set [] n s g = refl
same_set (x ∷ xs) zero s g = ap (λ z. z ∷ xs) (same g)
  where
    same : {a b : Shard} → Some a ≡ Some b → b ≡ a
    same e = cc
same_set (x ∷ xs) (suc n) s g = ap (λ l. x ∷ l) (same_set xs n s g)

-- no more than sixteen shards, so each entry's is below
low_shards : (k : ℕ) (h : History) → k ≤ 16 → list_all (λ e. nat_lt e.0 k) h ≡ true → AllByRecursion (λ e. e.0 < 16) h
low_shards k [] few a = tt
low_shards k (e ∷ es) few a = let p = and_parts (nat_lt e.0 k) (list_all (λ f. nat_lt f.0 k) es) a in let low = ltb-true e.0 k p.0 in (omega (arith, low, few), low_shards k es few p.1)

pub few_shards : (splits : List ℕ) (h : History) → are_splits splits ≡ true → list_all (λ e. nat_lt e.0 (shard_count splits)) h ≡ true → AllByRecursion (λ e. e.0 < 16) h
few_shards splits h few a =
    let short = leb-true (length splits) 15 (and_parts (nat_le (length splits) 15) (is_none (not_rising splits)) few).0 in low_shards (shard_count splits) h (omega (arith, short)) a

pub seat_at : {A : Type 0} (xs : List A) (n : ℕ) → n < length xs → (x : A) × (x ≡ get_or xs n x)
seat_at [] n l = absurd (omega (arith, l))
seat_at (y ∷ ys) zero l = (y, refl)
seat_at (y ∷ ys) (suc n) l = seat_at ys n (omega (arith, l))

same_seat : {A : Type 0} (xs : List A) (n : ℕ) (x y : A) → n < length xs → x ≡ get_or xs n x → y ≡ get_or xs n y → x ≡ y
same_seat [] n x y l p q = absurd (omega (arith, l))
same_seat (z ∷ zs) zero x y l p q = p ∙ sym q
same_seat (z ∷ zs) (suc n) x y l p q = same_seat zs n x y (omega (arith, l)) p q

un_not : (b c : Bool) → b ≡ not c → b ≡ false → c ≡ true
un_not b true p q = refl
un_not b false p q = absurd (both_ways b q p)

pub one_not : (b c : Bool) → b ≡ not c → b ≡ true → c ≡ false
one_not b true p q = absurd (both_ways b p q)
one_not b false p q = refl

-- no part with the operation's birth is active where the machine tells of none
pub free_there : {M : Type 0} (shard : M → Shard) (seats : List (Seat M)) (c : CoreStep) (x y : Seat M) (told : Bool) → c.shard < length seats → x ≡ get_or seats c.shard x → y ≡ get_or seats c.shard y
    → told ≡ not (has_no_equal_active_birth (shard y.machine) c.event) → told ≡ false → has_no_equal_active_birth (shard x.machine) c.event ≡ true
free_there shard seats c x y told l p q t f =
    subst (λ z. has_no_equal_active_birth (shard z.machine) c.event ≡ true) (same_seat seats c.shard y x l q p) (un_not told (has_no_equal_active_birth (shard y.machine) c.event) t f)

module _ {M : Type 0} (shard : M → Shard) (gate : M → Option Listed) where
  shards_set : (seats : List (Seat M)) (n : ℕ) (x : Seat M) → shards_of shard (slice_set seats n x) ≡ slice_set (shards_of shard seats) n (shard x.machine)
  shards_set [] n x = refl
  shards_set (y ∷ ys) zero x = refl
  shards_set (y ∷ ys) (suc n) x = ap (λ l. shard y.machine ∷ l) (shards_set ys n x)

  pub shard_there : (seats : List (Seat M)) (n : ℕ) (x : Seat M) → n < length seats → x ≡ get_or seats n x → slice_get (shards_of shard seats) n ≡ Some (shard x.machine)
  shard_there [] n x l e = absurd (omega (arith, l))
  shard_there (y ∷ ys) zero x l e = ap (λ z. Some (shard z.machine)) (sym e)
  shard_there (y ∷ ys) (suc n) x l e = shard_there ys n x (omega (arith, l)) e

  seats_set : (seats : List (Seat M)) (n : ℕ) (x : Seat M) → AllByRecursion (IsSeat shard gate) seats → IsSeat shard gate x → AllByRecursion (IsSeat shard gate) (slice_set seats n x)
  seats_set [] n x a k = tt
  seats_set (y ∷ ys) zero x a k = (k, a.1)
  seats_set (y ∷ ys) (suc n) x a k = (a.0, seats_set ys n x a.1 k)

  -- what a step comes to
  pub record Advanced (splits : List ℕ) (seats : List (Seat M)) (h : History) (c : CoreStep) (seats' : List (Seat M)) (h' : History) : Type 0 where
    pub step : world_by shard seats' h' ≡ run_step splits (world_by shard seats h) c
    pub sound : AreSound shard gate splits seats' h'

  -- each walker's entries are a session's of run 1
  pub session_one : (splits : List ℕ) (seats : List (Seat M)) (h : History) (walker : ℕ) → AreSound shard gate splits seats h → is_session splits 1 walker (own walker h) ≡ true
  session_one splits seats h walker k = subst (λ r. is_session splits r walker (own walker h) ≡ true) (empty_run (shard_count splits)) (k.steady.sessions walker)

  pub refused : (splits : List ℕ) (seats : List (Seat M)) (h : History) (c : CoreStep) (x : Seat M) → AreSound shard gate splits seats h → c.shard < length seats → x ≡ get_or seats c.shard x
      → is_offered splits h c.walker c.shard c.event ≡ false → Advanced splits seats h c seats h
  refused splits seats h c x k l e o =
      let w = world_by shard seats h in
      let g = shard_there seats c.shard x l e in
      record { step = sym (refused_step splits w c (shard x.machine) g (stands splits (shard_count splits) w c.shard (shard x.machine) k.steady g).run (session_one splits seats h c.walker k) o); sound = k }

  -- its birth is that of another one's active part there
  pub rival : (splits : List ℕ) (seats : List (Seat M)) (h : History) (c : CoreStep) (x : Seat M) → AreSound shard gate splits seats h → c.shard < length seats → x ≡ get_or seats c.shard x
      → has_no_equal_active_birth (shard x.machine) c.event ≡ false → Advanced splits seats h c seats h
  rival splits seats h c x k l e b = record { step = sym (rival_step splits (world_by shard seats h) c (shard x.machine) (shard_there seats c.shard x l e) b); sound = k }

  -- it made no entry
  pub idle : (splits : List ℕ) (seats : List (Seat M)) (h : History) (c : CoreStep) (x y : Seat M) → AreSound shard gate splits seats h → c.shard < length seats → x ≡ get_or seats c.shard x
      → Moves (answer_by (clock_of c.walker h) c (shard x.machine) c.event) (shard x.machine) None (shard y.machine) → IsSeat shard gate y → Advanced splits seats h c (slice_set seats c.shard y) h
  idle splits seats h c x y k l e m seated =
      let w = world_by shard seats h in
      let g = shard_there seats c.shard x l e in
      let same : world_by shard (slice_set seats c.shard y) h ≡ world_by shard seats h =
      ap (λ ss. record { shards = ss; history = h }) (shards_set seats c.shard y ∙ ap (slice_set (shards_of shard seats) c.shard) m.1 ∙ same_set (shards_of shard seats) c.shard (shard x.machine) g) in
      record {
        step = same ∙ sym (idle_step splits w c (shard x.machine) g m.0);
        sound = record { steady = subst (Steady splits (empty_logs (shard_count splits))) (sym same) k.steady; each_seat = seats_set seats c.shard y k.each_seat seated; sent = k.sent };
      }

  -- it made its entry
  pub made : (splits : List ℕ) (seats : List (Seat M)) (h : History) (c : CoreStep) (x y : Seat M) (o : Outcome) → are_splits splits ≡ true → AreSound shard gate splits seats h → c.shard < length seats → x ≡ get_or seats c.shard x
      → has_no_equal_active_birth (shard x.machine) c.event ≡ true → is_offered splits h c.walker c.shard c.event ≡ true
      → Moves (answer_by (clock_of c.walker h) c (shard x.machine) c.event) (shard x.machine) (Some o) (shard y.machine) → sends_fit o ≡ true → IsSeat shard gate y
      → Advanced splits seats h c (slice_set seats c.shard y) (put_entry (c.shard, entry_of c o (shard y.machine)) h)
  made splits seats h c x y o few k l e free offered m fits seated =
      let w = world_by shard seats h in
      let g = shard_there seats c.shard x l e in
      let st = stands splits (shard_count splits) w c.shard (shard x.machine) k.steady g in
      let after = put_entry (c.shard, entry_of c o (shard y.machine)) h in
      let same : world_by shard (slice_set seats c.shard y) after ≡ run_step splits w c =
      ap (λ ss. record { shards = ss; history = after }) (shards_set seats c.shard y) ∙ sym (taken_step splits w c (shard x.machine) o (shard y.machine) g st.run free offered m) in
      record {
        step = same;
        sound = record {
          steady = subst (Steady splits (empty_logs (shard_count splits))) (sym same) (steady_step splits (empty_logs (shard_count splits)) w c few k.steady);
          each_seat = seats_set seats c.shard y k.each_seat seated;
          sent = put_tests (λ z. sends_fit (z.1).outcome) (c.shard, entry_of c o (shard y.machine)) h fits k.sent;
        };
      }

  -- by what its shard made
  pub made_none : (splits : List ℕ) (seats : List (Seat M)) (h : History) (c : CoreStep) (x y : Seat M) (clock : ℕ) (made : Option Entry) → AreSound shard gate splits seats h → c.shard < length seats → x ≡ get_or seats c.shard x
      → clock ≡ clock_of c.walker h → made ≡ None → MakesEntry (answer_by clock c (shard x.machine) c.event) c (shard x.machine) made (shard y.machine) → IsSeat shard gate y → Advanced splits seats h c (slice_set seats c.shard y) h
  made_none splits seats h c x y clock made k l e time none m seated =
      let n : MakesEntry (answer_by clock c (shard x.machine) c.event) c (shard x.machine) None (shard y.machine) = subst (λ z. MakesEntry (answer_by clock c (shard x.machine) c.event) c (shard x.machine) z (shard y.machine)) none m in
      idle splits seats h c x y k l e (subst (λ z. Moves (answer_by z c (shard x.machine) c.event) (shard x.machine) None (shard y.machine)) time n) seated

  pub made_some : (splits : List ℕ) (seats : List (Seat M)) (h after : History) (c : CoreStep) (x y : Seat M) (clock : ℕ) (entry : Option Entry) (f : Entry)
      → are_splits splits ≡ true → AreSound shard gate splits seats h → c.shard < length seats → x ≡ get_or seats c.shard x → has_no_equal_active_birth (shard x.machine) c.event ≡ true → is_offered splits h c.walker c.shard c.event ≡ true
      → clock ≡ clock_of c.walker h → entry ≡ Some f → MakesEntry (answer_by clock c (shard x.machine) c.event) c (shard x.machine) entry (shard y.machine) → IsSeat shard gate y
      → after ≡ put_entry (c.shard, f) h → Advanced splits seats h c (slice_set seats c.shard y) after
  made_some splits seats h after c x y clock entry f few k l e free offered time is m seated put =
      let n : MakesEntry (answer_by clock c (shard x.machine) c.event) c (shard x.machine) (Some f) (shard y.machine) = subst (λ z. MakesEntry (answer_by clock c (shard x.machine) c.event) c (shard x.machine) z (shard y.machine)) is m in
      subst (Advanced splits seats h c (slice_set seats c.shard y)) (sym (put ∙ ap (λ z. put_entry (c.shard, z) h) n.1))
      (made splits seats h c x y f.outcome few k l e free offered (subst (λ z. Moves (answer_by z c (shard x.machine) c.event) (shard x.machine) (Some f.outcome) (shard y.machine)) time n.0) n.2 seated)
