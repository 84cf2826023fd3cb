-- From what the parts of a round tell to what it met.
use Rattle.std.proofs.Common.{◌≡◌, ◌∙◌, refl, sym, ap, subst, eqb-true, ℕ, ◌<◌, ◌≤◌, ◌+◌, ◌==◌, Bool, true, false, List, [], ◌++◌, Option, Some, None, Result, Ok, Err, inl, inr, arith}
use Rattle.std.specs.Prelude.{◌⊎◌, OnOk, IfOk}
use Rattle.std.proofs.lemmas.Bool.{both_ways, cases_lt}
use Rattle.turn_lock.specs.declared.pass.Pass.{Pass}
use Rattle.turn_lock.specs.declared.gate.Batch.{Batch}
use Rattle.machine_laws.specs.declared.notes.Note.{Note}
use Rattle.machine_laws.specs.declared.notes.Origin.{Origin}
use Rattle.cluster_turns.specs.CallTurns.{Turn, AnyTurn, FoundDown, no_turn}
use Rattle.cluster_turns.proofs.Laws.{turns_follow}
use Rattle.cluster_turns.specs.declared.flushing.Flushed.{Flushed}
use Rattle.cluster_turns.specs.declared.flushing.Flushed.TheVariants.{Durable, Nothing as NothingBuffered, Away}
use Rattle.cluster_turns.specs.Told.{FlushTold}
use Rattle.cluster_turns.specs.declared.carrying.Carry.{Carry}
use Rattle.cluster_turns.specs.declared.carrying.Carry.TheVariants.{Nothing}
use Rattle.cluster_turns.specs.Carried.{CarryTold}
use Rattle.session_ops.specs.declared.parts.Met.{Met}
use Rattle.session_ops.specs.declared.parts.RoundError.{RoundError}
use Rattle.session_ops.specs.declared.parts.RoundError.TheVariants.{Down, Worn, Memory}
use Rattle.session_ops.specs.Rounds.{EndedBy, Rounded, IsOwn, FoundFlushed, FoundCarried, FoundAtRest, RestsBy, RoundRests, TriesFlush, AllCarried, RoundDone, RoundTold, BothTried, IsEither, Every}
use Rattle.session_ops.specs.Rounds.{IsAlone, IsQuiet, Lasts, met_flush, first_down, PassedOver, Notes, AtOwn, FlushedOn, CarriedOn, CarriedAs, MovedOn, AllMoved, TriedIfOwn, OwnTried, OwnMoved, Passed, TellsAway, EndsAt}
use Rattle.law_base.proofs.Changed.{none_some}
use Rattle.law_base.proofs.Options.{some_inj}
use Rattle.session_ops.proofs.Parting.{any_after, any_before}
use Rattle.session_ops.proofs.Rounding.{others_follow, ended_after, same_error, flush_finds, carry_finds}

-- ---- what is noted

notes_follow : (a b c : Option ℕ) (xs ys : List Turn) → Notes a xs b → Notes b ys c → Notes a (xs ++ ys) c
notes_follow a b c xs ys f g n is = late (g n is)
  where
    early : (a ≡ Some n) ⊎ FoundDown n xs → (a ≡ Some n) ⊎ FoundDown n (xs ++ ys)
    early (inl h) = inl h
    early (inr h) = inr (any_before _ xs ys h)

    late : (b ≡ Some n) ⊎ FoundDown n ys → (a ≡ Some n) ⊎ FoundDown n (xs ++ ys)
    late (inl h) = early (f n h)
    late (inr h) = inr (any_after _ xs ys h)

notes_same : (a b : Option ℕ) (ts : List Turn) → b ≡ a → Notes a ts b
notes_same a b ts same n is = inl (sym same ∙ is)

first_noted : (a : Option ℕ) (k : ℕ) (ts : List Turn) → FoundDown k ts → Notes a ts (first_down a k)
first_noted None k ts h n is = inr (subst (λ i. FoundDown i ts) (some_inj k n is) h)
first_noted (Some m) k ts h n is = inl is

-- ---- shards at rest

pub has_moved : (x : Met) → (x.moves ≡ true) → IsQuiet x → ⊥
has_moved x moves q = both_ways x.moves q.0 moves

pub same_met : (x : Met) → Lasts x x
same_met x = (λ q. q, λ a. a)

-- a message was carried
pub carried_on : (x : Met) → Lasts x (record x { moves = true })
carried_on x = (λ q. absurd (has_moved (record x { moves = true }) refl q), λ a. a)

carried_before : (n : ℕ) (xs ys : List Turn) → FoundCarried n xs → FoundCarried n (xs ++ ys)
carried_before n xs ys (inl d) = inl (any_before _ xs ys d)
carried_before n xs ys (inr c) = inr (any_before _ xs ys c)

pub carried_after : (n : ℕ) (xs ys : List Turn) → FoundCarried n ys → FoundCarried n (xs ++ ys)
carried_after n xs ys (inl d) = inl (any_after _ xs ys d)
carried_after n xs ys (inr c) = inr (any_after _ xs ys c)

-- a sender or a receiver that is down
pub down_carried : (k n : ℕ) (y : Met) (ts : List Turn) → FoundDown k ts → CarriedAs n (Ok (k == n)) y ts
down_carried k n y ts d = by (k == n) refl
  where
    by : (b : Bool) → (k == n) ≡ b → CarriedAs n (Ok b) y ts
    by true e = inl (subst (λ (i : ℕ). FoundDown i ts) (eqb-true k n e) d)
    by false e = tt

rest_of : (n : ℕ) (xs ys : List Turn) → FoundFlushed n xs → FoundCarried n ys → FoundAtRest n (xs ++ ys)
rest_of n xs ys (inl d) c = inl (any_before _ xs ys d)
rest_of n xs ys (inr f) (inl d) = inl (any_after _ xs ys d)
rest_of n xs ys (inr f) (inr c) = inr (any_before _ xs ys f, any_after _ xs ys c)

rest_before : (n : ℕ) (xs ys : List Turn) → FoundAtRest n xs → FoundAtRest n (xs ++ ys)
rest_before n xs ys (inl d) = inl (any_before _ xs ys d)
rest_before n xs ys (inr h) = inr (any_before _ xs ys h.0, any_before _ xs ys h.1)

pub rest_after : (n : ℕ) (xs ys : List Turn) → FoundAtRest n ys → FoundAtRest n (xs ++ ys)
rest_after n xs ys (inl d) = inl (any_after _ xs ys d)
rest_after n xs ys (inr h) = inr (any_after _ xs ys h.0, any_after _ xs ys h.1)

-- ---- shards that a round moves

-- a flush, and then messages
pub moved_on : (n : ℕ) (y z : Met) (xs ys : List Turn) → Lasts y z → FlushedOn n y xs → CarriedOn n z ys → MovedOn n z (xs ++ ys)
moved_on n y z xs ys l f c = record { tried = λ a. any_before _ xs ys (f.0 (l.1 a)); carried = carried_after n xs ys c; rests = λ q. rest_of n xs ys (f.1 (l.0 q)) c }

moved_before : (n : ℕ) (y z : Met) (xs ys : List Turn) → Lasts y z → MovedOn n y xs → MovedOn n z (xs ++ ys)
moved_before n y z xs ys l h = record { tried = λ a. any_before _ xs ys (h.tried (l.1 a)); carried = carried_before n xs ys h.carried; rests = λ q. rest_before n xs ys (h.rests (l.0 q)) }

moved_after : (n : ℕ) (z : Met) (xs ys : List Turn) → MovedOn n z ys → MovedOn n z (xs ++ ys)
moved_after n z xs ys h = record { tried = λ a. any_after _ xs ys (h.tried a); carried = carried_after n xs ys h.carried; rests = λ q. rest_after n xs ys (h.rests q) }

pub all_moved_before : (count : ℕ) (y z : Met) (xs ys : List Turn) → Lasts y z → AllMoved count y xs → AllMoved count z (xs ++ ys)
all_moved_before count y z xs ys l f n low = moved_before n y z xs ys l (f n low)

-- one shard more
one_more : {X : Type 0} (n k : ℕ) → n < k + 1 → (n < k → X) → (k ≡ n → X) → X
one_more {X} n k low f g = by (cases_lt n k)
  where
    by : (n < k) ⊎ (k ≤ n) → X
    by (inl less) = f less
    by (inr more) = g (omega arith)

pub next_moved : (k : ℕ) (y z : Met) (xs ys : List Turn) → Lasts y z → AllMoved k y xs → MovedOn k z ys → AllMoved (k + 1) z (xs ++ ys)
next_moved k y z xs ys l f h n low = one_more n k low (λ less. moved_before n y z xs ys l (f n less)) (λ same. moved_after n z xs ys (subst (λ (m : ℕ). MovedOn m z ys) same h))

pub next_tried : (own : List Bool) (k : ℕ) (y z : Met) (xs ys : List Turn) → Lasts y z → OwnTried own k y xs → TriedIfOwn own k z ys → OwnTried own (k + 1) z (xs ++ ys)
next_tried own k y z xs ys l f h n low =
    one_more n k low (λ less is a. any_before _ xs ys (f n less is (l.1 a))) (λ same is a. any_after _ xs ys (subst (λ (m : ℕ). TriedIfOwn own m z ys) same h is a))

pub next_carried : (k : ℕ) (xs ys : List Turn) → AllCarried k xs → FoundCarried k ys → AllCarried (k + 1) (xs ++ ys)
next_carried k xs ys f h n low = one_more n k low (λ less. carried_before n xs ys (f n less)) (λ same. carried_after n xs ys (subst (λ (m : ℕ). FoundCarried m ys) same h))

-- those of a request, its home behind the others, and then messages of all
tried_before : (flushed : List Bool) (count : ℕ) (y z : Met) (xs ys : List Turn) → Lasts y z → OwnTried flushed count y xs → OwnTried flushed count z (xs ++ ys)
tried_before flushed count y z xs ys l f n low is a = any_before _ xs ys (f n low is (l.1 a))

tried_after : (flushed : List Bool) (count : ℕ) (z : Met) (xs ys : List Turn) → OwnTried flushed count z ys → OwnTried flushed count z (xs ++ ys)
tried_after flushed count z xs ys f n low is a = any_after _ xs ys (f n low is a)

pub both_tried : (others home : List Bool) (count : ℕ) (y z : Met) (xs ys : List Turn) → Lasts y z → OwnTried others count y xs → OwnTried home count z ys → BothTried others home count z (xs ++ ys)
both_tried others home count y z xs ys l f h = record { others_tried = tried_before others count y z xs ys l f; home_tried = tried_after home count z xs ys h }

pub both_after : (others home : List Bool) (count : ℕ) (z : Met) (xs ys : List Turn) → BothTried others home count z ys → BothTried others home count z (xs ++ ys)
both_after others home count z xs ys h = record { others_tried = tried_after others count z xs ys h.others_tried; home_tried = tried_after home count z xs ys h.home_tried }

pub own_moved : (others home : List Bool) (count : ℕ) (y z : Met) (xs ys : List Turn) → Lasts y z → BothTried others home count y xs → AllCarried count ys → OwnMoved others home count z (xs ++ ys)
own_moved others home count y z xs ys l f c =
    (record { others_tried = tried_before others count y z xs ys l f.others_tried; home_tried = tried_before home count y z xs ys l f.home_tried }, λ n low. carried_after n xs ys (c n low))

-- ---- a round's end

pub rests_after : {A : Type 0} (count : ℕ) (Needs : ℕ → Type 0) (r : Result A RoundError) (xs ys : List Turn) → RestsBy count Needs r ys → RestsBy count Needs r (xs ++ ys)
rests_after count Needs (Ok a) xs ys h = tt
rests_after count Needs (Err (Down n)) xs ys (inl is) = inl is
rests_after count Needs (Err (Down n)) xs ys (inr all) = inr (λ m low. rest_after m xs ys (all m low))
rests_after count Needs (Err (Worn at)) xs ys h = tt
rests_after count Needs (Err Memory) xs ys h = tt

own_rests : (A B : Type 0) (count : ℕ) (own : List Bool) (e : RoundError) (ts : List Turn) → AtOwn {A = A} own (Err e) → RestsBy {A = B} count (IsOwn own) (Err e) ts
own_rests A B count own (Down n) ts h = inl h
own_rests A B count own (Worn at) ts h = tt
own_rests A B count own Memory ts h = tt

-- who needs more
needs_more : {A : Type 0} (count : ℕ) (Needs Wants : ℕ → Type 0) (r : Result A RoundError) (ts : List Turn) → ((n : ℕ) → Needs n → Wants n) → RestsBy count Needs r ts → RestsBy count Wants r ts
needs_more count Needs Wants (Ok a) ts f h = tt
needs_more count Needs Wants (Err (Down n)) ts f (inl is) = inl (f n is)
needs_more count Needs Wants (Err (Down n)) ts f (inr all) = inr all
needs_more count Needs Wants (Err (Worn at)) ts f h = tt
needs_more count Needs Wants (Err Memory) ts f h = tt

-- ---- parts after parts

module _ {T A B : Type 0} where
  -- by one walker, whose number stays
  pub passes_on : (own : List Bool) (P Q R : Met → List Turn → Type 0) (w m c d e : ℕ) (ps qs rs : List (Option (Pass T Note Origin))) (x y z : Met) (a : A) (r : Result B RoundError)
      → ((xs ys : List Turn) → Lasts y z → P y xs → Q z ys → R z (xs ++ ys)) → m ≡ w → Passed own P w c ps x (Ok a) d qs y → Passed own Q m d qs y r e rs z → Passed own R w c ps x r e rs z
  passes_on own P Q R w m c d e ps qs rs x y z a r join same h k = both (subst (λ n. Passed own Q n d qs y r e rs z) same k)
    where
      founds : (k : Passed own Q w d qs y r e rs z) (q : Result B RoundError) → OnOk q (Q z k.round.turns) → OnOk q (R z (h.round.turns ++ k.round.turns))
      founds k (Ok b) f = join h.round.turns k.round.turns k.lasts h.found f
      founds k (Err e) f = tt

      both : Passed own Q w d qs y r e rs z → Passed own R w c ps x r e rs z
      both k = record {
        round = record {
          turns = h.round.turns ++ k.round.turns;
          took = turns_follow w c d e ps qs rs h.round.turns k.round.turns h.round.took k.round.took;
          others = others_follow h.round.turns k.round.turns h.round.others k.round.others;
          ended = ended_after r h.round.turns k.round.turns k.round.ended;
        };
        noted = notes_follow x.down y.down z.down h.round.turns k.round.turns h.noted k.noted;
        lasts = (λ q. h.lasts.0 (k.lasts.0 q), λ a. h.lasts.1 (k.lasts.1 a));
        found = founds k r k.found;
        at = k.at;
      }

  pub passes_to_error : (own : List Bool) (P Q R : Met → List Turn → Type 0) (w m c d e : ℕ) (ps qs rs : List (Option (Pass T Note Origin))) (x y z : Met) (a : A) (r : RoundError) → m ≡ w → Passed own P w c ps x (Ok a) d qs y
      → Passed {A = B} own Q m d qs y (Err r) e rs z → Passed {A = B} own R w c ps x (Err r) e rs z
  passes_to_error own P Q R w m c d e ps qs rs x y z a r same h k0 =
      let k : Passed {A = B} own Q w d qs y (Err r) e rs z = subst (λ n. Passed {A = B} own Q n d qs y (Err r) e rs z) same k0 in
      record {
        round = record {
          turns = h.round.turns ++ k.round.turns;
          took = turns_follow w c d e ps qs rs h.round.turns k.round.turns h.round.took k.round.took;
          others = others_follow h.round.turns k.round.turns h.round.others k.round.others;
          ended = ended_after {A = B} (Err r) h.round.turns k.round.turns k.round.ended;
        };
        noted = notes_follow x.down y.down z.down h.round.turns k.round.turns h.noted k.noted;
        lasts = (λ q. h.lasts.0 (k.lasts.0 q), λ a. h.lasts.1 (k.lasts.1 a));
        found = tt;
        at = k.at;
      }

module _ {T A : Type 0} where
  -- less may be told
  pub let_go : (own : List Bool) (P Q : Met → List Turn → Type 0) (w c d : ℕ) (ps qs : List (Option (Pass T Note Origin))) (x y : Met) (r : Result A RoundError) → ((ts : List Turn) → P y ts → Q y ts) → Passed own P w c ps x r d qs y → Passed own Q w c ps x r d qs y
  let_go own P Q w c d ps qs x y r f h = record { round = h.round; noted = h.noted; lasts = h.lasts; found = less r h.found; at = h.at }
    where
      less : (q : Result A RoundError) → OnOk q (P y h.round.turns) → OnOk q (Q y h.round.turns)
      less (Ok a) k = f h.round.turns k
      less (Err e) k = tt

  pub error_passed : (own : List Bool) (P Q : Met → List Turn → Type 0) (w c d : ℕ) (ps qs : List (Option (Pass T Note Origin))) (x y : Met) (e : RoundError) → Passed {A = A} own P w c ps x (Err e) d qs y → Passed {A = A} own Q w c ps x (Err e) d qs y
  error_passed own P Q w c d ps qs x y e h = record { round = h.round; noted = h.noted; lasts = h.lasts; found = tt; at = h.at }

  pub none_passed : (own : List Bool) (P : Met → List Turn → Type 0) (w c : ℕ) (ps : List (Option (Pass T Note Origin))) (x y : Met) (a : A) → y.down ≡ x.down → Lasts x y → P y [] → Passed own P w c ps x (Ok a) c ps y
  none_passed own P w c ps x y a same lasts found = record { round = record { turns = []; took = no_turn c ps; others = tt; ended = tt }; noted = notes_same x.down y.down [] same; lasts = lasts; found = found; at = tt }

  -- turns that found no shard down that is passed over
  pub round_passed : (own : List Bool) (P : Met → List Turn → Type 0) (w c d : ℕ) (ps qs : List (Option (Pass T Note Origin))) (x y : Met) (r : Result A RoundError) → y.down ≡ x.down → Lasts x y → AtOwn own r → (h : Rounded w c ps r d qs)
      → OnOk r (P y h.turns) → Passed own P w c ps x r d qs y
  round_passed own P w c d ps qs x y r same lasts at h found = record { round = h; noted = notes_same x.down y.down h.turns same; lasts = lasts; found = found; at = at }

  -- turns that found one down
  pub down_passed : {B : Type 0} (own : List Bool) (P : Met → List Turn → Type 0) (w c d n : ℕ) (ps qs : List (Option (Pass T Note Origin))) (x y : Met) (r : Result B RoundError) → PassedOver own x n r y → (h : Rounded {A = A} w c ps (Err (Down n)) d qs) → P y h.turns
      → Passed own P w c ps x r d qs y
  down_passed {B} own P w c d n ps qs x y (Ok b) over h found = record {
    round = record { turns = h.turns; took = h.took; others = h.others; ended = tt };
    noted = subst (λ (z : Met). Notes x.down h.turns z.down) (sym over) (first_noted x.down n h.turns h.ended);
    lasts = (λ q. (sym (ap (λ (z : Met). z.moves) over) ∙ q.0, sym (ap (λ (z : Met). z.away) over) ∙ q.1), λ a. sym (ap (λ (z : Met). z.away) over) ∙ a);
    found = found;
    at = tt;
  }
  down_passed {B} own P w c d n ps qs x y (Err e) (is, same, needs) h found = record {
    round = record { turns = h.turns; took = h.took; others = h.others; ended = subst (λ z. EndedBy {A = B} (Err z) h.turns) (sym is) h.ended };
    noted = notes_same x.down y.down h.turns (ap (λ (z : Met). z.down) same);
    lasts = (λ q. subst IsQuiet same q, λ a. subst IsAlone same a);
    found = tt;
    at = subst (λ z. AtOwn {A = B} own (Err z)) (sym is) needs;
  }

  -- the same turns with another answer, and what more they tell
  pub passed_as : {B : Type 0} (own : List Bool) (P Q : Met → List Turn → Type 0) (w c d : ℕ) (ps qs : List (Option (Pass T Note Origin))) (x y : Met) (r : Result A RoundError) (q : Result B RoundError) → ((ts : List Turn) → EndedBy r ts → EndedBy q ts) → (AtOwn own r → AtOwn own q)
      → ((ts : List Turn) → OnOk r (P y ts) → OnOk q (Q y ts)) → Passed own P w c ps x r d qs y → Passed own Q w c ps x q d qs y
  passed_as {B} own P Q w c d ps qs x y r q f at g h = record {
    round = record { turns = h.round.turns; took = h.round.took; others = h.round.others; ended = f h.round.turns h.round.ended };
    noted = h.noted;
    lasts = h.lasts;
    found = g h.round.turns h.found;
    at = at h.at;
  }

pub same_own : (A B : Type 0) (own : List Bool) (e : RoundError) → AtOwn {A = A} own (Err e) → AtOwn {A = B} own (Err e)
same_own A B own (Down n) h = h
same_own A B own (Worn at) h = tt
same_own A B own Memory h = tt

-- ---- a flush, and a message

module _ {T : Type 0} where
  -- one by which something has moved
  moved_flush : (own : List Bool) (n w c d : ℕ) (ps qs : List (Option (Pass T Note Origin))) (x y : Met) → y ≡ record x { moves = true } → (h : Rounded {A = Unit {0}} w c ps (Ok tt) d qs) → AnyTurn (TriesFlush n) h.turns
      → Passed {A = Unit {0}} own (FlushedOn n) w c ps x (Ok tt) d qs y
  moved_flush own n w c d ps qs x y is h tried =
      let moves = has_moved y (ap (λ (z : Met). z.moves) is) in
      round_passed {A = Unit {0}} own (FlushedOn n) w c d ps qs x y (Ok tt) (ap (λ (z : Met). z.down) is) (λ q. absurd (moves q), λ a. sym (ap (λ (z : Met). z.away) is) ∙ a) tt h (λ a. tried, λ q. absurd (moves q))

  pub flush_passed : (own : List Bool) (n w c d : ℕ) (ps qs : List (Option (Pass T Note Origin))) (x y : Met) (f : Flushed) → y ≡ met_flush x f → FlushTold n w c ps (Ok f) d qs → Passed {A = Unit {0}} own (FlushedOn n) w c ps x (Ok tt) d qs y
  flush_passed own n w c d ps qs x y NothingBuffered is told =
      let h = flush_finds {A = Unit {0}} tt n w c d ps qs (Ok NothingBuffered) told in
      round_passed {A = Unit {0}} own (FlushedOn n) w c d ps qs x y (Ok tt) (ap (λ (z : Met). z.down) is) (λ q. subst IsQuiet is q, λ a. subst IsAlone is a) tt h.0 (λ a. h.2, λ q. inr h.1)
  flush_passed own n w c d ps qs x y (Durable upto) is told = let h = flush_finds {A = Unit {0}} tt n w c d ps qs (Ok (Durable upto)) told in moved_flush own n w c d ps qs x y is h.0 h.2
  flush_passed own n w c d ps qs x y Away is told = let h = flush_finds {A = Unit {0}} tt n w c d ps qs (Ok Away) told in moved_flush own n w c d ps qs x y is h.0 h.2

  -- there was no message
  pub none_carried : (own : List Bool) (count n w c d : ℕ) (ps qs : List (Option (Pass T Note Origin))) (x : Met) (m : Carry) → m ≡ Nothing → CarryTold count n w c ps (Ok m) d qs → Passed {A = Bool} own (CarriedAs n (Ok true)) w c ps x (Ok true) d qs x
  none_carried own count n w c d ps qs x m is told =
      let h = carry_finds {A = Bool} true count n w c d ps qs (Ok Nothing) (subst (λ k. CarryTold count n w c ps (Ok k) d qs) is told) in
      round_passed {A = Bool} own (CarriedAs n (Ok true)) w c d ps qs x x (Ok true) refl (same_met x) tt h.0 (inr h.1)

-- ---- whole rounds

pub tells_alone : (y : Met) (r : Result (Option Batch) RoundError) → IsAlone y → TellsAway y r
tells_alone y (Ok away) a = λ is. a
tells_alone y (Err e) a = tt

module _ {T : Type 0} where
  pub round_ends : (count : ℕ) (own : List Bool) (w c d : ℕ) (ps qs : List (Option (Pass T Note Origin))) (x y : Met) (r : Result (Option Batch) RoundError) → x.down ≡ None → Passed {A = Unit {0}} own (AllMoved count) w c ps x (Ok tt) d qs y → EndsAt y r
      → RoundTold count (IsOwn own) Every w c ps r d qs
  round_ends count own w c d ps qs x y (Ok away) none h end = record {
    rests = record { round = record { turns = h.round.turns; took = h.round.took; others = h.round.others; ended = tt }; rests = tt };
    done = record { carried = λ n low. (h.found n low).carried; tried = λ is n low every. (h.found n low).tried (end is) };
  }
  round_ends count own w c d ps qs x y (Err e) none h (n, noted, is, quiet) = record {
    rests = record {
      round = record { turns = h.round.turns; took = h.round.took; others = h.round.others; ended = subst (λ z. EndedBy {A = Option Batch} (Err z) h.round.turns) (sym is) (found (h.noted n noted)) };
      rests = subst (λ z. RestsBy {A = Option Batch} count (IsOwn own) (Err z) h.round.turns) (sym is) (inr (λ k low. (h.found k low).rests quiet));
    };
    done = tt;
  }
    where
      found : (x.down ≡ Some n) ⊎ FoundDown n h.round.turns → FoundDown n h.round.turns
      found (inl was) = absurd (none_some n (sym none ∙ was))
      found (inr k) = k

  -- one that a turn ended
  pub round_cut : (count : ℕ) (own : List Bool) (P : Met → List Turn → Type 0) (Flushes : ℕ → Type 0) (w c d : ℕ) (ps qs : List (Option (Pass T Note Origin))) (x y : Met) (e : RoundError) → Passed {A = Unit {0}} own P w c ps x (Err e) d qs y
      → RoundTold count (IsOwn own) Flushes w c ps (Err e) d qs
  round_cut count own P Flushes w c d ps qs x y e h = record {
    rests = record {
      round = record { turns = h.round.turns; took = h.round.took; others = h.round.others; ended = same_error (Unit {0}) (Option Batch) e h.round.turns h.round.ended };
      rests = own_rests (Unit {0}) (Option Batch) count own e h.round.turns h.at;
    };
    done = tt;
  }

  -- a round after the parts for a request
  pub round_after : (count : ℕ) (own others home : List Bool) (w m c d e : ℕ) (ps qs rs : List (Option (Pass T Note Origin))) (x y : Met) (r : Result (Option Batch) RoundError) → m ≡ w → Passed {A = Unit {0}} own (OwnMoved others home count) w c ps x (Ok tt) d qs y
      → RoundRests count (IsOwn own) m d qs r e rs → TellsAway y r → RoundTold count (IsOwn own) (IsEither others home) w c ps r e rs
  round_after count own others home w m c d e ps qs rs x y r same h k0 tells =
      let k : RoundRests count (IsOwn own) w d qs r e rs = subst (λ n. RoundRests count (IsOwn own) n d qs r e rs) same k0 in
      record {
        rests = record {
          round = record {
            turns = h.round.turns ++ k.round.turns;
            took = turns_follow w c d e ps qs rs h.round.turns k.round.turns h.round.took k.round.took;
            others = others_follow h.round.turns k.round.turns h.round.others k.round.others;
            ended = ended_after r h.round.turns k.round.turns k.round.ended;
          };
          rests = rests_after count (IsOwn own) r h.round.turns k.round.turns k.rests;
        };
        done = does r k.round.turns tells;
      }
    where
      tried : (ys : List Turn) (n : ℕ) → n < count → IsAlone y → IsEither others home n → AnyTurn (TriesFlush n) (h.round.turns ++ ys)
      tried ys n low alone (inl is) = any_before _ h.round.turns ys (h.found.0.others_tried n low is alone)
      tried ys n low alone (inr is) = any_before _ h.round.turns ys (h.found.0.home_tried n low is alone)

      does : (q : Result (Option Batch) RoundError) (ys : List Turn) → TellsAway y q → IfOk q (RoundDone count (IsEither others home) (h.round.turns ++ ys))
      does (Ok away) ys alone = record { carried = λ n low. carried_before n h.round.turns ys (h.found.1 n low); tried = λ is n low either. tried ys n low (alone is) either }
      does (Err e) ys alone = tt

  -- for whoever needs more
  pub told_more : (count : ℕ) (Needs Wants Flushes : ℕ → Type 0) (w c d : ℕ) (ps qs : List (Option (Pass T Note Origin))) (r : Result (Option Batch) RoundError) → ((n : ℕ) → Needs n → Wants n) → RoundTold count Needs Flushes w c ps r d qs
      → RoundTold count Wants Flushes w c ps r d qs
  told_more count Needs Wants Flushes w c d ps qs r f h = record { rests = record { round = h.rests.round; rests = needs_more count Needs Wants r h.rests.round.turns f h.rests.rests }; done = h.done }

module _ {T A : Type 0} where
  pub none_rests : (count : ℕ) (Needs : ℕ → Type 0) (w c : ℕ) (ps : List (Option (Pass T Note Origin))) (a : A) → RoundRests count Needs w c ps (Ok a) c ps
  none_rests count Needs w c ps a = record { round = record { turns = []; took = no_turn c ps; others = tt; ended = tt }; rests = tt }

  -- for whoever needs more
  pub wants_more : (count : ℕ) (Needs Wants : ℕ → Type 0) (w c d : ℕ) (ps qs : List (Option (Pass T Note Origin))) (r : Result A RoundError) → ((n : ℕ) → Needs n → Wants n) → RoundRests count Needs w c ps r d qs → RoundRests count Wants w c ps r d qs
  wants_more count Needs Wants w c d ps qs r f h = record { round = h.round; rests = needs_more count Needs Wants r h.round.turns f h.rests }
