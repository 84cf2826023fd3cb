-- Seats of which the first has begun.
use Rattle.std.proofs.Common.{◌≡◌, refl, sym, ap, subst, ◌∙◌, ℕ, zero, suc, max, ◌-◌, ◌<◌, true, false, List, [], ◌∷◌, ◌++◌, take, drop, length, slice_index_or, slice_set, Option, None, Some, Result, Ok, Err, IfErr, append-nil, arith}
use Rattle.std.specs.Result.{is_ok}
use Rattle.std.proofs.lemmas.List.{take_all, get_or_append_left}
use borrow.Rule.Slice.PartMut.{put_mid}
use Rattle.clv_base.specs.Journals.{History}
use Rattle.script_runs.specs.declared.ends.StopCause.{StopCause}
use Rattle.script_runs.specs.Books.{IsKept}
use Rattle.script_runs.specs.Seen.{Seen, Misses, Keeps}
use Rattle.script_runs.specs.Ran.{stop_in, IsIdle, IdleAfter, FollowsFrom, Follows}
use Rattle.script_runs.specs.Laws.{SessionsGoOn, SessionsStop}
use Rattle.script_runs.specs.declared.seats.Seat.{Seat}
use Rattle.script_runs.specs.Begun.{HasBegun}
use Rattle.script_runs.specs.Alone.{BeginsBy, BeginsPast, BeganAlone, AllFollow, base_of, IsReached}
use Rattle.script_runs.proofs.Alone.{begins_by}

-- ---- lists with another first element

pub first_is : {X : Type 0} (xs : List X) (y d : X) → 0 < length xs → slice_index_or (slice_set xs 0 y) 0 d ≡ y
first_is [] y d l = absurd (omega arith)
first_is (x ∷ xs) y d l = refl

pub idle_when_ok : {A : Type 0} (r : Result A StopCause) (u : Seen) → is_ok r ≡ true → IdleAfter r u → IsIdle u
idle_when_ok (Ok a) u ok idle = idle
idle_when_ok (Err cause) u ok idle = absurd cc

module _ {X : Type 0} (P : X → Type 0) where
  pub with_first : (xs : List X) (y : X) → P y → ((k : ℕ) (d : X) → k < length xs → P (slice_index_or xs k d)) → (k : ℕ) (d : X) → k < length (slice_set xs 0 y) → P (slice_index_or (slice_set xs 0 y) k d)
  with_first [] y p all k d l = absurd (omega arith)
  with_first (x ∷ xs) y p all zero d l = p
  with_first (x ∷ xs) y p all (suc k) d l = all (suc k) d l

  pub behind_first : (xs : List X) (y : X) → ((k : ℕ) (d : X) → k < length xs → P (slice_index_or xs k d))
      → (k : ℕ) (d : X) → k < length (take (length (slice_set xs 0 y) - 1) (drop 1 (slice_set xs 0 y))) → P (slice_index_or (take (length (slice_set xs 0 y) - 1) (drop 1 (slice_set xs 0 y))) k d)
  behind_first [] y all k d l = absurd (omega arith)
  behind_first (x ∷ xs) y all k d l =
      let whole : take (length (y ∷ xs) - 1) xs ≡ xs = take_all (length (y ∷ xs) - 1) xs (omega arith) in
      subst (λ zs. P (slice_index_or zs k d)) (sym whole) (all (suc k) d (let m : k < length xs = subst (λ zs. k < length zs) whole l in omega arith))

-- ---- seats that were run, and the first of them again

module _ {X : Type 0} (P : X → X → Type 0) where
  pub others_joined : (xs : List X) (s : X) (ys : List X) (z : X) → length ys ≡ length (slice_set xs 0 s) → ((k : ℕ) (d : X) → k < length (slice_set xs 0 s) → P (slice_index_or (slice_set xs 0 s) k d) (slice_index_or ys k d))
      → (k : ℕ) (d : X) → 0 < k → k < length xs → P (slice_index_or xs k d) (slice_index_or (slice_set ys 0 z) k d)
  others_joined [] s ys z len all k d pos l = absurd (omega arith)
  others_joined (x ∷ xs) s [] z len all k d pos l = absurd (omega arith)
  others_joined (x ∷ xs) s (y ∷ ys) z len all zero d pos l = absurd (omega arith)
  others_joined (x ∷ xs) s (y ∷ ys) z len all (suc k) d pos l = all (suc k) d l

  pub others_behind : (xs : List X) (s : X) (ys zs : List X) (z : X) → zs ≡ put_mid 1 (length (slice_set xs 0 s) - 1) (slice_set xs 0 s) ys → length ys ≡ length (take (length (slice_set xs 0 s) - 1) (drop 1 (slice_set xs 0 s)))
      → ((k : ℕ) (d : X) → k < length (take (length (slice_set xs 0 s) - 1) (drop 1 (slice_set xs 0 s))) → P (slice_index_or (take (length (slice_set xs 0 s) - 1) (drop 1 (slice_set xs 0 s))) k d) (slice_index_or ys k d))
      → (k : ℕ) (d : X) → 0 < k → k < length xs → P (slice_index_or xs k d) (slice_index_or (slice_set zs 0 z) k d)
  others_behind [] s ys zs z is len all k d pos l = absurd (omega arith)
  others_behind (x ∷ xs) s ys zs z is len all zero d pos l = absurd (omega arith)
  others_behind (x ∷ xs) s ys zs z is len all (suc k) d pos l =
      let whole : take (length (s ∷ xs) - 1) xs ≡ xs = take_all (length (s ∷ xs) - 1) xs (omega arith) in
      let rest = drop (length (s ∷ xs) - 1) xs in
      let same : zs ≡ s ∷ (ys ++ rest) = is in
      let many : length ys ≡ length xs = len ∙ ap length whole in
      subst (λ w. P (slice_index_or xs k d) (slice_index_or (slice_set w 0 z) (suc k) d)) (sym same)
      (subst (P (slice_index_or xs k d)) (sym (get_or_append_left ys rest d k (omega arith)))
      (subst (λ w. P (slice_index_or w k d) (slice_index_or ys k d)) whole (all k d (subst (λ w. k < length w) (sym whole) (omega arith)))))

-- ---- seats

module _ {S B : Type 0} (holds : S → Type 0) (base : S → B) (seen : S → Seen) (grounds : S → StopCause → Type 0) (missed : S → Misses) (most : Option ℕ) where
  -- the session of a seat ran, from this clock
  pub record Sat (from : ℕ) (old new : Seat S) : Type 0 where
    pub session : holds new.session
    pub base_is : base new.session ≡ base old.session
    pub misses : Keeps (missed old.session) (missed new.session)
    pub transactions : new.transactions.now ≡ old.transactions.now
    pub follows : FollowsFrom from (missed new.session) old.transactions.now most (stop_in new.ended) (seen old.session) (seen new.session)
    pub stopped : IfErr new.ended (grounds new.session)
    pub keeps : new.book.keeps ≡ old.book.keeps

  -- it ran its first transaction
  pub record Begun (old new : Seat S) : Type 0 where
    pub session : holds new.session
    pub base_is : base new.session ≡ base old.session
    pub misses : Keeps (missed old.session) (missed new.session)
    pub begun : HasBegun (missed new.session) old.transactions.now new.transactions.now most (stop_in new.ended) (seen old.session) (seen new.session)
    pub stopped : IfErr new.ended (grounds new.session)
    pub keeps : new.book.keeps ≡ old.book.keeps

  abbrev given_back : Seat S → Seat S → Seat S
  given_back x y = record { session = y.session; transactions = x.transactions; ended = y.ended; book = y.book }

  fine : {A : Type 0} (r : Result A StopCause) → is_ok r ≡ true → stop_in r ≡ None
  fine (Ok a) h = refl
  fine (Err cause) h = absurd cc

  -- up to a clock that is its own
  own_clock : (clock k : ℕ) → clock ≡ k → max k clock ≡ k
  own_clock clock k is = omega arith

  joined : SessionsGoOn missed → (clock : ℕ) (x s y : Seat S) → clock ≡ (seen s.session).clock → Begun x s → is_ok s.ended ≡ true → Sat (max (seen s.session).clock clock) s y → Sat (seen x.session).clock x (given_back x y)
  joined go_on clock x s y is b ok r =
      record {
        session = r.session;
        base_is = r.base_is ∙ b.base_is;
        misses = λ tx n es h. r.misses tx n es (b.misses tx n es h);
        transactions = refl;
        follows =
            subst (λ bodies. Follows (missed y.session) bodies most (stop_in y.ended) (seen x.session) (seen y.session)) (sym (b.begun).whole_is)
            (go_on s.session y.session (b.begun).front s.transactions.now most (stop_in y.ended) (seen x.session) (seen s.session) (seen y.session) r.misses
            (subst (λ c. Follows (missed s.session) (b.begun).front most c (seen x.session) (seen s.session)) (fine s.ended ok) (b.begun).follows)
            (subst (λ k. FollowsFrom k (missed y.session) s.transactions.now most (stop_in y.ended) (seen s.session) (seen y.session)) (own_clock clock (seen s.session).clock is) r.follows));
        stopped = r.stopped;
        keeps = r.keeps ∙ b.keeps;
      }

  pub all_joined : SessionsGoOn missed → (clock : ℕ) (xs : List (Seat S)) (s : Seat S) (ys : List (Seat S)) (p q r : Seat S) → clock ≡ (seen s.session).clock → length ys ≡ length (slice_set xs 0 s) → Begun (slice_index_or xs 0 p) s → is_ok s.ended ≡ true
      → ((k : ℕ) (d : Seat S) → k < length (slice_set xs 0 s) → Sat (max (seen (slice_index_or (slice_set xs 0 s) k d).session).clock clock) (slice_index_or (slice_set xs 0 s) k d) (slice_index_or ys k d))
      → (k : ℕ) (d : Seat S) → k < length xs → Sat (base_of clock k (seen (slice_index_or xs k d).session)) (slice_index_or xs k d) (slice_index_or (slice_set ys 0 (given_back (slice_index_or xs 0 q) (slice_index_or ys 0 r))) k d)
  all_joined go_on clock [] s ys p q r is len b ok all k d l = absurd (omega arith)
  all_joined go_on clock (x ∷ xs) s [] p q r is len b ok all k d l = absurd (omega arith)
  all_joined go_on clock (x ∷ xs) s (y ∷ ys) p q r is len b ok all zero d l = joined go_on clock x s y is b ok (all 0 d (omega arith))
  all_joined go_on clock (x ∷ xs) s (y ∷ ys) p q r is len b ok all (suc k) d l = all (suc k) d l

  -- ---- the clock that the first one came to

  reached_first : (x s : Seat S) → Begun x s → IsReached (seen s.session).clock (seen x.session) (seen s.session)
  reached_first x s b =
      let g = (b.begun).follows.2 in
      let d = g.dated in
      let n = g.serial_is in
      omega arith

  reached_further : (from clock : ℕ) (u : Seen) (s y : Seat S) → IsReached clock u (seen s.session) → Sat from s y → IsReached clock u (seen y.session)
  reached_further from clock u s y h r =
      let g = r.follows.2 in
      let d = g.latest_rises in
      let n = g.serial_is in
      omega arith

  pub reached_joined : (clock : ℕ) (xs : List (Seat S)) (s : Seat S) (ys : List (Seat S)) (p q r : Seat S) → clock ≡ (seen s.session).clock → length ys ≡ length (slice_set xs 0 s) → Begun (slice_index_or xs 0 p) s
      → ((k : ℕ) (d : Seat S) → k < length (slice_set xs 0 s) → Sat (max (seen (slice_index_or (slice_set xs 0 s) k d).session).clock clock) (slice_index_or (slice_set xs 0 s) k d) (slice_index_or ys k d))
      → (d : Seat S) → 0 < length xs → IsReached clock (seen (slice_index_or xs 0 d).session) (seen (slice_index_or (slice_set ys 0 (given_back (slice_index_or xs 0 q) (slice_index_or ys 0 r))) 0 d).session)
  reached_joined clock [] s ys p q r is len b all d l = absurd (omega arith)
  reached_joined clock (x ∷ xs) s [] p q r is len b all d l = absurd (omega arith)
  reached_joined clock (x ∷ xs) s (y ∷ ys) p q r is len b all d l =
      reached_further (max (seen s.session).clock clock) clock (seen x.session) s y (subst (λ k. IsReached k (seen x.session) (seen s.session)) (sym is) (reached_first x s b)) (all 0 d (omega arith))

  pub reached_behind : (clock : ℕ) (xs : List (Seat S)) (s : Seat S) (ys zs : List (Seat S)) (p q r : Seat S) → clock ≡ (seen s.session).clock → zs ≡ put_mid 1 (length (slice_set xs 0 s) - 1) (slice_set xs 0 s) ys → Begun (slice_index_or xs 0 p) s
      → (d : Seat S) → 0 < length xs → IsReached clock (seen (slice_index_or xs 0 d).session) (seen (slice_index_or (slice_set zs 0 (given_back (slice_index_or xs 0 q) (slice_index_or zs 0 r))) 0 d).session)
  reached_behind clock [] s ys zs p q r at is b d l = absurd (omega arith)
  reached_behind clock (x ∷ xs) s ys zs p q r at is b d l =
      subst (λ z. IsReached clock (seen x.session) (seen (slice_index_or (slice_set z 0 (given_back x (slice_index_or z 0 r))) 0 d).session)) (sym is)
      (subst (λ k. IsReached k (seen x.session) (seen s.session)) (sym at) (reached_first x s b))

  ended_so : SessionsStop missed → (x s : Seat S) (e : Result (Unit {0}) StopCause) → s.ended ≡ e → is_ok e ≡ false → Begun x s → Follows (missed s.session) x.transactions.now most (stop_in e) (seen x.session) (seen s.session)
  ended_so stop x s (Ok a) is off b = absurd cc
  ended_so stop x s (Err cause) is off b =
      subst (λ bodies. Follows (missed s.session) bodies most (Some cause) (seen x.session) (seen s.session)) (sym (b.begun).whole_is)
      (stop s.session (b.begun).front s.transactions.now most cause (seen x.session) (seen s.session) (subst (λ e. Follows (missed s.session) (b.begun).front most (stop_in e) (seen x.session) (seen s.session)) is (b.begun).follows))

  stopped_at : SessionsStop missed → (x s : Seat S) → is_ok s.ended ≡ false → Begun x s → Sat (seen x.session).clock x (given_back x s)
  stopped_at stop x s off b = record { session = b.session; base_is = b.base_is; misses = b.misses; transactions = refl; follows = ended_so stop x s s.ended refl off b; stopped = b.stopped; keeps = b.keeps }

  -- the others ran, and the first was stopped
  behind : SessionsStop missed → (clock : ℕ) (x s : Seat S) (xs ys rest : List (Seat S)) (r : Seat S) → length ys ≡ length xs → Begun x s → is_ok s.ended ≡ false
      → ((k : ℕ) (d : Seat S) → k < length xs → Sat (max (seen (slice_index_or xs k d).session).clock clock) (slice_index_or xs k d) (slice_index_or ys k d))
      → (k : ℕ) (d : Seat S) → k < length (x ∷ xs) → Sat (base_of clock k (seen (slice_index_or (x ∷ xs) k d).session)) (slice_index_or (x ∷ xs) k d) (slice_index_or (given_back x s ∷ (ys ++ rest)) k d)
  behind stop clock x s xs ys rest r len b off all zero d l = stopped_at stop x s off b
  behind stop clock x s xs ys rest r len b off all (suc k) d l = subst (Sat (max (seen (slice_index_or xs k d).session).clock clock) (slice_index_or xs k d)) (sym (get_or_append_left ys rest d k (omega arith))) (all k d (omega arith))

  pub all_behind : SessionsStop missed → (clock : ℕ) (xs : List (Seat S)) (s : Seat S) (ys zs : List (Seat S)) (p q r : Seat S) → zs ≡ put_mid 1 (length (slice_set xs 0 s) - 1) (slice_set xs 0 s) ys
      → length ys ≡ length (take (length (slice_set xs 0 s) - 1) (drop 1 (slice_set xs 0 s))) → Begun (slice_index_or xs 0 p) s → is_ok s.ended ≡ false
      → ((k : ℕ) (d : Seat S) → k < length (take (length (slice_set xs 0 s) - 1) (drop 1 (slice_set xs 0 s))) → Sat (max (seen (slice_index_or (take (length (slice_set xs 0 s) - 1) (drop 1 (slice_set xs 0 s))) k d).session).clock clock) (slice_index_or (take (length (slice_set xs 0 s) - 1) (drop 1 (slice_set xs 0 s))) k d) (slice_index_or ys k d))
      → (k : ℕ) (d : Seat S) → k < length xs → Sat (base_of clock k (seen (slice_index_or xs k d).session)) (slice_index_or xs k d) (slice_index_or (slice_set zs 0 (given_back (slice_index_or xs 0 q) (slice_index_or zs 0 r))) k d)
  all_behind stop clock [] s ys zs p q r is len b off all k d l = absurd (omega arith)
  all_behind stop clock (x ∷ xs) s ys zs p q r is len b off all k d l =
      let whole : take (length (s ∷ xs) - 1) xs ≡ xs = take_all (length (s ∷ xs) - 1) xs (omega arith) in
      let rest = drop (length (s ∷ xs) - 1) xs in
      let same : zs ≡ s ∷ (ys ++ rest) = is in
      subst (λ z. Sat (base_of clock k (seen (slice_index_or (x ∷ xs) k d).session)) (slice_index_or (x ∷ xs) k d) (slice_index_or (slice_set z 0 (given_back x (slice_index_or z 0 r))) k d)) (sym same)
      (behind stop clock x s xs ys rest r (len ∙ ap length whole) b off
      (λ j e m. subst (λ w. Sat (max (seen (slice_index_or w j e).session).clock clock) (slice_index_or w j e) (slice_index_or ys j e)) whole (all j e (subst (λ w. j < length w) (sym whole) m))) k d l)

  -- ---- the first transaction of the first

  alone_at : (clock : ℕ) (x s : Seat S) (w : Seen) (more : History) → Begun x s → clock ≡ (seen s.session).clock → w.entries ≡ (seen s.session).entries ++ more → BeginsBy clock x.transactions.now most (seen x.session) w
  alone_at clock x s w more b is grows =
      subst (λ k. BeginsBy k x.transactions.now most (seen x.session) w) (sym is)
      (begins_by (missed s.session) x.transactions.now s.transactions.now most (stop_in s.ended) (seen x.session) (seen s.session) w more b.begun grows)

  abbrev Past : ℕ → Seat S → Seat S → Type 0
  Past clock x y = BeginsPast clock (seen x.session) (seen y.session)

  pub alone_joined : (clock : ℕ) (xs : List (Seat S)) (s : Seat S) (ys : List (Seat S)) (p q r : Seat S) → length ys ≡ length (slice_set xs 0 s) → Begun (slice_index_or xs 0 p) s → clock ≡ (seen s.session).clock
      → ((k : ℕ) (d : Seat S) → k < length (slice_set xs 0 s) → Past clock (slice_index_or (slice_set xs 0 s) k d) (slice_index_or ys k d))
      → BeganAlone seen most xs (slice_set ys 0 (given_back (slice_index_or xs 0 q) (slice_index_or ys 0 r)))
  alone_joined clock [] s ys p q r len b is all = record { clock = clock; first = λ d l. absurd (omega arith); others = λ k d pos l. absurd (omega arith) }
  alone_joined clock (x ∷ xs) s [] p q r len b is all = absurd (omega arith)
  alone_joined clock (x ∷ xs) s (y ∷ ys) p q r len b is all =
      let past : Past clock s y = all 0 s (omega arith) in
      record {
        clock = clock;
        first = λ d l. alone_at clock x s (seen y.session) past.more b is past.entries_are;
        others = λ k d pos l. others_joined (Past clock) (x ∷ xs) s (y ∷ ys) (given_back x y) len all k d pos l;
      }

  pub alone_behind : (clock : ℕ) (xs : List (Seat S)) (s : Seat S) (ys zs : List (Seat S)) (p q r : Seat S) → zs ≡ put_mid 1 (length (slice_set xs 0 s) - 1) (slice_set xs 0 s) ys
      → length ys ≡ length (take (length (slice_set xs 0 s) - 1) (drop 1 (slice_set xs 0 s))) → Begun (slice_index_or xs 0 p) s → clock ≡ (seen s.session).clock
      → ((k : ℕ) (d : Seat S) → k < length (take (length (slice_set xs 0 s) - 1) (drop 1 (slice_set xs 0 s))) → Past clock (slice_index_or (take (length (slice_set xs 0 s) - 1) (drop 1 (slice_set xs 0 s))) k d) (slice_index_or ys k d))
      → BeganAlone seen most xs (slice_set zs 0 (given_back (slice_index_or xs 0 q) (slice_index_or zs 0 r)))
  alone_behind clock [] s ys zs p q r is len b at all = record { clock = clock; first = λ d l. absurd (omega arith); others = λ k d pos l. absurd (omega arith) }
  alone_behind clock (x ∷ xs) s ys zs p q r is len b at all = record {
    clock = clock;
    first = λ d l.
        subst (λ z. BeginsBy clock x.transactions.now most (seen x.session) (seen (slice_index_or (slice_set z 0 (given_back x (slice_index_or z 0 r))) 0 d).session)) (sym is)
        (alone_at clock x s (seen s.session) [] b at (sym (append-nil (seen s.session).entries)));
    others = λ k d pos l. others_behind (Past clock) (x ∷ xs) s ys zs (given_back x (slice_index_or zs 0 r)) is len all k d pos l;
  }

-- ---- their books

module _ {S : Type 0} (seen : S → Seen) where
  -- a seat's book tells what its session's entries tell
  abbrev pub IsSeatKept : Seat S → Type 0
  IsSeatKept s = IsKept (seen s.session) s.book

  abbrev with_transactions : Seat S → Seat S → Seat S
  with_transactions x y = record { session = y.session; transactions = x.transactions; ended = y.ended; book = y.book }

  pub kept_joined : (xs : List (Seat S)) (s : Seat S) (ys : List (Seat S)) (q r : Seat S) → length ys ≡ length (slice_set xs 0 s) → ((k : ℕ) (d : Seat S) → k < length (slice_set xs 0 s) → IsSeatKept (slice_index_or ys k d))
      → (k : ℕ) (d : Seat S) → k < length xs → IsSeatKept (slice_index_or (slice_set ys 0 (with_transactions (slice_index_or xs 0 q) (slice_index_or ys 0 r))) k d)
  kept_joined [] s ys q r len all k d l = absurd (omega arith)
  kept_joined (x ∷ xs) s [] q r len all k d l = absurd (omega arith)
  kept_joined (x ∷ xs) s (y ∷ ys) q r len all zero d l = all 0 d (omega arith)
  kept_joined (x ∷ xs) s (y ∷ ys) q r len all (suc k) d l = all (suc k) d l

  pub kept_behind : (xs : List (Seat S)) (s : Seat S) (ys zs : List (Seat S)) (q r : Seat S) → zs ≡ put_mid 1 (length (slice_set xs 0 s) - 1) (slice_set xs 0 s) ys → length ys ≡ length (take (length (slice_set xs 0 s) - 1) (drop 1 (slice_set xs 0 s)))
      → IsSeatKept s → ((k : ℕ) (d : Seat S) → k < length (take (length (slice_set xs 0 s) - 1) (drop 1 (slice_set xs 0 s))) → IsSeatKept (slice_index_or ys k d))
      → (k : ℕ) (d : Seat S) → k < length xs → IsSeatKept (slice_index_or (slice_set zs 0 (with_transactions (slice_index_or xs 0 q) (slice_index_or zs 0 r))) k d)
  kept_behind [] s ys zs q r is len first all k d l = absurd (omega arith)
  kept_behind (x ∷ xs) s ys zs q r is len first all zero d l = subst (λ w. IsSeatKept (slice_index_or (slice_set w 0 (with_transactions x (slice_index_or w 0 r))) 0 d)) (sym is) first
  kept_behind (x ∷ xs) s ys zs q r is len first all (suc k) d l =
      let whole : take (length (s ∷ xs) - 1) xs ≡ xs = take_all (length (s ∷ xs) - 1) xs (omega arith) in
      let rest = drop (length (s ∷ xs) - 1) xs in
      let same : zs ≡ s ∷ (ys ++ rest) = is in
      let many : length ys ≡ length xs = len ∙ ap length whole in
      subst (λ w. IsSeatKept (slice_index_or (slice_set w 0 (with_transactions x (slice_index_or w 0 r))) (suc k) d)) (sym same)
      (subst IsSeatKept (sym (get_or_append_left ys rest d k (omega arith))) (all k d (subst (λ w. k < length w) (sym whole) (omega arith))))

-- ---- seats that ran beside each other, from their own clocks

module _ {S : Type 0} (seen : S → Seen) (missed : S → Misses) (most : Option ℕ) where
  pub none_follow : (old new : List (Seat S)) → length old ≡ 0 → AllFollow seen missed most old new
  none_follow old new none = record { clock = 0; reached = λ d l. absurd (omega arith); each = λ k d l. absurd (omega arith) }

  pub together_follow : (old new : List (Seat S))
      → ((k : ℕ) (d : Seat S) → k < length old
      → FollowsFrom (max (seen (slice_index_or old k d).session).clock 0) (missed (slice_index_or new k d).session) (slice_index_or old k d).transactions.now most (stop_in (slice_index_or new k d).ended) (seen (slice_index_or old k d).session) (seen (slice_index_or new k d).session))
      → AllFollow seen missed most old new
  together_follow old new all = record {
    clock = 0;
    reached = λ d l. (let n = ((all 0 d l).2).serial_is in omega arith);
    each = each;
  }
    where
      own : (k : ℕ) → max k 0 ≡ k
      own k = omega arith

      each : (k : ℕ) (d : Seat S) → k < length old
          → FollowsFrom (base_of 0 k (seen (slice_index_or old k d).session)) (missed (slice_index_or new k d).session) (slice_index_or old k d).transactions.now most (stop_in (slice_index_or new k d).ended) (seen (slice_index_or old k d).session) (seen (slice_index_or new k d).session)
      each zero d l =
          subst (λ b. FollowsFrom b (missed (slice_index_or new 0 d).session) (slice_index_or old 0 d).transactions.now most (stop_in (slice_index_or new 0 d).ended) (seen (slice_index_or old 0 d).session) (seen (slice_index_or new 0 d).session)) (own (seen (slice_index_or old 0 d).session).clock)
          (all 0 d l)
      each (suc k) d l = all (suc k) d l
