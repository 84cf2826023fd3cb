-- What all threads did, told of the places that stood in the seats.
use Rattle.std.proofs.Common.{◌≡◌, refl, sym, ap, ◌∙◌, subst, ℕ, zero, suc, ◌+◌, ◌<◌, Bool, true, false, ◌&&◌, List, [], ◌∷◌, ◌++◌, length, map, get_or, take, drop, Option, Some, None, Result, Ok, Err, append-nil, arith, Global}
use Rattle.std.specs.Prelude.{IsTrue}
use Rattle.std.proofs.lemmas.List.{get_or-map, length-map}
use Rattle.std.proofs.lemmas.Bool.{both_ways}
use Rattle.law_base.proofs.Lists.{elem_at}
use Rattle.script_lang.specs.Grammar.{lines_of}
use Rattle.rtrb.specs.declared.producer.Producer.{Producer}
use Rattle.rtrb.specs.declared.consumer.Consumer.{Consumer}
use Rattle.rtrb.specs.declared.AnyItems.{AnyItems}
use Rattle.rtrb.specs.Ring.{sent, received, SameProducer, SameConsumer}
use Rattle.io_model.specs.Streams.{Consumes, Grows}
use Rattle.io_model.specs.declared.whole.ReadError.{ReadError}
use Rattle.io_model.specs.declared.whole.ReadError.TheVariants as fault
use Rattle.report_text.specs.declared.texts.ReportError.{ReportError}
use Rattle.live_lines.specs.declared.calls.Asked.{Asked}
use Rattle.live_lines.specs.declared.calls.Reply.{Reply}
use Rattle.script_runs.specs.declared.ends.StopCause.{StopCause}
use Rattle.script_runs.specs.Seen.{Standing, Seen, Misses}
use Rattle.script_runs.specs.Ran.{IsIdle}
use Rattle.live_sessions.specs.Served.{HasServed, ClosesBy, none_taken}
use Rattle.live_streams.specs.Rings.{AreNew, ArePairs, AreFronts, AreAllTaken}
use Rattle.live_streams.specs.Inputs.{TookInput, no_line}
use Rattle.live_streams.specs.Handed.{ReadsLines, ReadTo}
use Rattle.live_streams.specs.Outputs.{TakesLines}
use Rattle.live_streams.specs.Written.{TookEach, Writes}
use Rattle.live_streams.specs.declared.reading.Read.{Read}
use Rattle.live_streams.specs.declared.reading.Read.TheVariants.{Whole}
use Rattle.live_threads.specs.declared.seats.Place.{Place}
use Rattle.live_threads.specs.declared.seats.Seat.{Seat}
use Rattle.live_threads.specs.Ends.{WritesAs}
use Rattle.live_threads.specs.Seated.{IsReady, HasSat}
use Rattle.live_threads.specs.Lives.{Life, HasLived, HaveLived, Streamed, replies_in}
use Rattle.live_threads.proofs.Joined.{took_some, wrote, pairs_lines, pairs_answers, joined}

-- what holds of each of a list holds of what it was made from
pub each_of : {X Y : Type 0} (f : X → Y) (R : Y → Type 0) (xs : List X) (ys : List Y) → map f xs ≡ ys → ((k : ℕ) (e : Y) → k < length ys → R (get_or ys k e)) → (k : ℕ) (d : X) → k < length xs → R (f (get_or xs k d))
each_of f R xs ys is each k d low =
    let m = length-map xs f in
    let long = ap length is in
    let low' : k < length ys = omega arith in
    subst R (get_or-map f xs k d (f d) low) (subst (λ l. R (get_or l k (f d))) (sym is) (each k (f d) low'))

-- and of two lists what holds of those that they were made from
pub between :
    {X Y : Type 0} (f : X → Y) (R : ℕ → Y → Y → Type 0) (xs xs' : List X) (ys ys' : List Y) → map f xs ≡ ys → ys' ≡ map f xs' → length xs' ≡ length xs
    → ((k : ℕ) (d : X) → k < length xs → R k (f (get_or xs k d)) (f (get_or xs' k d))) → (k : ℕ) (e : Y) → k < length ys → R k (get_or ys k e) (get_or ys' k e)
between f R xs xs' ys ys' is is' same each k e low =
    let m = length-map xs f in
    let long = ap length is in
    let low0 : k < length xs = omega arith in
    let low1 : k < length xs' = omega arith in
    let d = elem_at xs k low0 in
    subst (λ y. R k y (get_or ys' k e)) (ap (λ l. get_or l k e) is)
    (subst (λ y. R k (get_or (map f xs) k e) y) (sym (ap (λ l. get_or l k e) is'))
    (subst (λ y. R k y (get_or (map f xs') k e)) (sym (get_or-map f xs k d e low0)) (subst (λ y. R k (f (get_or xs k d)) y) (sym (get_or-map f xs' k d e low1)) (each k d low0))))

-- a list that was written in front of what stands behind it
pub written_back : {X : Type 0} (xs ys : List X) (m : ℕ) → m ≡ length xs → take m (xs ++ ys) ≡ xs
written_back {X} xs ys m is = subst (λ m. take m (xs ++ ys) ≡ xs) (sym is) (front xs)
  where
    front : (xs : List X) → take (length xs) (xs ++ ys) ≡ xs
    front [] = refl
    front (x ∷ xs) = ap (λ l. x ∷ l) (front xs)

-- as many as there are places
pub as_many : {X Y : Type 0} (f : X → Y) (xs : List X) (ys : List Y) → map f xs ≡ ys → length xs ≡ length ys
as_many f xs ys is = sym (length-map xs f) ∙ ap length is

-- two that hold at once
pub both_of : (a b : Bool) → IsTrue (a && b) → IsTrue a × IsTrue b
both_of true b is = (refl, is)
both_of false b is = absurd (both_ways false refl is)

-- ---- where there is no memory

consumes_none : (left : Option (List ℕ)) → Consumes left left []
consumes_none None = refl
consumes_none (Some left) = (left, refl, refl)

grows_none : (taken : Option (List ℕ)) → Grows taken taken []
grows_none None = refl
grows_none (Some taken) = ap Some (sym (append-nil taken))

abbrev idle_life : ℕ → Life
idle_life k = record { asked = []; replies = [] }

no_reply : (k : ℕ) → replies_in idle_life [] k ≡ []
no_reply zero = refl
no_reply (suc k) = refl

idle_closes : (u : Seen) → IsIdle u → ClosesBy None u.standing u u
idle_closes u (again, is) = subst (λ (st : Standing). ClosesBy None st u u) (sym is) refl

-- no session did anything
pub nothing_done :
    {S : Type 0} (seen : S → Seen) (places : List (Place S)) (n : ℕ) (idle : (k : ℕ) (d : Place S) → k < length places → IsIdle (seen (get_or places k d).session)) (left taken : Option (List ℕ)) (read : Result (Unit {0}) ReadError) (written : Result (Unit {0}) ReportError) → read ≡ Err fault.Memory → written ≡ Ok (tt {0})
    → (lives : ℕ → Life) × HaveLived seen places places lives × Streamed n lives left left taken taken read written
nothing_done seen places n idle left taken read written none fine = (
  idle_life,
  (λ k d low. record { last = seen (get_or places k d).session; course = record { may_retry = false; ended = None }; over = None; served = none_taken (seen (get_or places k d).session) _ None (refl, refl); closes = idle_closes (seen (get_or places k d).session) (idle k d low) }),
  record {
    refused = [];
    took = ([], consumes_none left, record { handed = []; input = ([], lines_of [], refl, no_line); fronts = λ k low. ([], refl) });
    told = record {
      written = [];
      takes = subst (λ r. TakesLines taken taken [] r) (sym fine) (grows_none taken);
      fronts = λ k low. ([], no_reply k);
      whole = λ is k low. sym (no_reply k);
    };
    all = λ is w. absurd (let e : Err fault.Memory ≡ Ok (tt {0}) = sym none ∙ is in cc);
  },
)

-- ---- behind the join

module _ {S X A P : Type 0} (seen : S → Seen) (place : X → Place S) (lines : X → Consumer Asked A P) (answers : X → Producer Reply A P) (whole : X → Bool) (n : ℕ) (seats0 seats1 : List X) (long0 : length seats0 ≡ n) (long1 : length seats1 ≡ n)
    (makers0 makers1 : List (Producer Asked A P)) (own0 own1 : Producer Reply A P) (takers0 takers1 : List (Consumer Reply A P))
    (new_lines : AreNew n makers0 (map lines seats0)) (new_answers : AreNew (n + 1) (own0 ∷ map answers seats0) takers0)
    (inbox : (k : ℕ) (d : X) → k < n → SameConsumer (lines (get_or seats0 k d)) (lines (get_or seats1 k d)))
    (outbox : (k : ℕ) (d : X) → k < n → SameProducer (answers (get_or seats0 k d)) (answers (get_or seats1 k d)))
    (left left' taken taken' : Option (List ℕ)) (read : Result Read ReadError) (written : Result (Unit {0}) ReportError)
    (reads : ReadsLines left left' makers0 makers1 own0 own1 read) (writes : Writes takers0 takers1 taken taken' written) where
  -- what the writer took of all
  took : (all : List (ℕ × Reply)) × TookEach takers0 takers1 all
  took = took_some takers0 takers1 taken taken' written writes

  -- as many ends as before
  pub so_many : (length makers1 ≡ n) × (length takers1 ≡ n + 1)
  so_many = (reads.hands.len ∙ new_lines.makers_are, took.1.0 ∙ new_answers.takers_are)

  pub still_lines : ArePairs n makers1 (map lines seats1)
  still_lines = pairs_lines (λ x. seen (place x).session) lines answers whole n seats0 seats1 long0 long1 makers0 makers1 own0 own1 takers0 takers1 new_lines new_answers reads.handed reads.refused reads.hands inbox outbox took.0 took.1

  pub still_answers : ArePairs (n + 1) (own1 ∷ map answers seats1) takers1
  still_answers = pairs_answers (λ x. seen (place x).session) lines answers whole n seats0 seats1 long0 long1 makers0 makers1 own0 own1 takers0 takers1 new_lines new_answers reads.handed reads.refused reads.hands inbox outbox took.0 took.1

  -- all that is told of the places, and of what went in and out
  pub all_lived :
      (places0 places1 : List (Place S)) → map place seats0 ≡ places0 → places1 ≡ map place seats1
      → ((k : ℕ) (d : X) → k < n → HasServed (whole (get_or seats1 k d)) (received (lines (get_or seats0 k d))) (received (lines (get_or seats1 k d))) (sent (answers (get_or seats0 k d))) (sent (answers (get_or seats1 k d))) (seen (place (get_or seats0 k d)).session) (seen (place (get_or seats1 k d)).session))
      → (read' : Result (Unit {0}) ReadError) (written' : Result (Unit {0}) ReportError) (lines_done answers_done is_told is_written : Bool)
      → AreFronts n makers1 (map lines seats1) → AreFronts (n + 1) (own1 ∷ map answers seats1) takers1
      → (IsTrue lines_done → AreAllTaken n makers1 (map lines seats1)) → (IsTrue answers_done → AreAllTaken (n + 1) (own1 ∷ map answers seats1) takers1)
      → (IsTrue is_told → (k : ℕ) (d : X) → k < n → whole (get_or seats1 k d) ≡ true) → WritesAs written (answers_done && is_told) written'
      → (read' ≡ Ok (tt {0}) → IsTrue is_written → (read ≡ Ok Whole) × IsTrue lines_done) → (written' ≡ Ok (tt {0}) → IsTrue is_written)
      → (lives : ℕ → Life) × HaveLived seen places0 places1 lives × Streamed n lives left left' taken taken' read' written'
  all_lived places0 places1 is0 is1 served read' written' lines_done answers_done is_told is_written fronts_lines fronts_answers all_lines all_answers told as_ fine_read fine_written =
      let w = wrote n takers0 takers1 taken taken' written new_answers.takers_are new_answers.none_received writes in
      let few = new_lines.makers_are in
      let input = subst (λ m. TookInput m reads.bytes reads.handed reads.refused) few reads.took in
      let to = subst (λ m. ReadTo left left' m reads.bytes reads.handed reads.refused read) few reads.reads in
      let j = joined (λ x. seen (place x).session) lines answers whole n seats0 seats1 long0 long1 makers0 makers1 own0 own1 takers0 takers1 new_lines new_answers reads.handed reads.refused reads.hands inbox outbox took.0 took.1 served
      left left' taken taken' read read' written written' lines_done (answers_done && is_told) is_written reads.bytes reads.consumes input to w fronts_lines fronts_answers
      all_lines (λ yes. all_answers (both_of answers_done is_told yes).0) (λ yes. told (both_of answers_done is_told yes).1) as_ fine_read fine_written in (
        j.0,
        between place (λ k p q. HasLived (j.0 (suc k)) (seen p.session) (seen q.session)) seats0 seats1 places0 places1 is0 is1 (long1 ∙ sym long0) (λ k d low. j.1 k d (omega arith)),
        j.2,
      )

-- ---- of the seats themselves: they were lent as a slice, and what it became stands in their list

module _ {S W B : Type 0} (seen : S → Seen) (holds : S → Type 0) (base : S → B) (missed : S → Misses) (grounds : S → StopCause → Type 0) (n m : ℕ) (places0 : List (Place S)) (seats slice new : List (Seat S W))
    (is0 : map (λ s. s.place) seats ≡ places0) (few : length places0 ≡ n) (of_all : m ≡ length seats) (value : slice ≡ seats) (many : length new ≡ length slice) where
  -- the list behind the threads
  abbrev back : List (Seat S W)
  back = take m (new ++ drop (length new) seats)

  long0 : length seats ≡ n
  long0 = as_many (λ s. s.place) seats places0 is0 ∙ few

  is_back : back ≡ new
  is_back = written_back new (drop (length new) seats) m (of_all ∙ sym (many ∙ ap length value))

  long1 : length back ≡ n
  long1 = ap length is_back ∙ (many ∙ (ap length value ∙ long0))

  m_is : m ≡ n
  m_is = of_all ∙ long0

  -- as many places are given back
  pub as_many_back : (places1 : List (Place S)) → places1 ≡ map (λ s. s.place) back → length places1 ≡ n
  as_many_back places1 is1 = ap length is1 ∙ (length-map back (λ s. s.place) ∙ long1)

  -- each may begin
  pub all_ready :
      ((k : ℕ) (d : Place S) → k < n → holds (get_or places0 k d).session) → ((k : ℕ) (d : Place S) → k < n → IsIdle (seen (get_or places0 k d).session)) → (k : ℕ) (d : Seat S W) → k < length slice → IsReady seen holds (get_or slice k d)
  all_ready session idle k d low =
      let low' : k < length seats = (let h = ap length value in omega arith) in
      subst (λ l. IsReady seen holds (get_or l k d)) (sym value) (record {
        session = each_of (λ s. s.place) (λ p. holds p.session) seats places0 is0 (λ k e l. session k e (omega arith)) k d low';
        idle = each_of (λ s. s.place) (λ p. IsIdle (seen p.session)) seats places0 is0 (λ k e l. idle k e (omega arith)) k d low';
      })

  module _ (sat : (k : ℕ) (d : Seat S W) → k < length slice → HasSat seen holds base missed grounds (get_or slice k d) (get_or new k d)) where
    sat_back : (k : ℕ) (d : Seat S W) → k < n → HasSat seen holds base missed grounds (get_or seats k d) (get_or back k d)
    sat_back k d low =
        let low' : k < length slice = (let h = ap length value in let l = long0 in omega arith) in
        subst (λ l. HasSat seen holds base missed grounds (get_or seats k d) (get_or l k d)) (sym is_back) (subst (λ l. HasSat seen holds base missed grounds (get_or l k d) (get_or new k d)) value (sat k d low'))

    -- what each did is told of its place
    pub told_of_places :
        (R : Place S → Place S → Type 0) → ((s t : Seat S W) → HasSat seen holds base missed grounds s t → R s.place t.place) → (places1 : List (Place S)) → places1 ≡ map (λ s. s.place) back
        → (k : ℕ) (e : Place S) → k < n → R (get_or places0 k e) (get_or places1 k e)
    told_of_places R each places1 is1 k e low =
        between (λ s. s.place) (λ k p q. R p q) seats back places0 places1 is0 is1 (long1 ∙ sym long0) (λ k d l. each (get_or seats k d) (get_or back k d) (sat_back k d (let l0 = long0 in omega arith))) k e (omega arith)

    module _ (makers0 makers1 : List (Producer Asked Global AnyItems)) (own0 own1 : Producer Reply Global AnyItems) (takers0 takers1 : List (Consumer Reply Global AnyItems))
        (new_lines : AreNew n makers0 (map (λ s. s.inbox.lines) seats)) (new_answers : AreNew (n + 1) (own0 ∷ map (λ s. s.outbox.answers) seats) takers0)
        (left left' taken taken' : Option (List ℕ)) (read : Result Read ReadError) (written : Result (Unit {0}) ReportError)
        (reads : ReadsLines left left' makers0 makers1 own0 own1 read) (writes : Writes takers0 takers1 taken taken' written) where
      -- the rings are the same, behind the threads
      pub counts : (length makers1 ≡ m) × (length takers1 ≡ m + 1)
      counts =
          let c = so_many seen (λ s. s.place) (λ s. s.inbox.lines) (λ s. s.outbox.answers) (λ s. s.all_told) n seats back long0 long1 makers0 makers1 own0 own1 takers0 takers1 new_lines new_answers
          (λ k d low. (sat_back k d low).inbox) (λ k d low. (sat_back k d low).outbox) left left' taken taken' read written reads writes in
          (c.0 ∙ sym m_is, c.1 ∙ ap (λ z. z + 1) (sym m_is))

      pub pairs_of_lines : ArePairs m makers1 (map (λ s. s.inbox.lines) back)
      pairs_of_lines =
          subst (λ z. ArePairs z makers1 (map (λ s. s.inbox.lines) back)) (sym m_is)
          (still_lines seen (λ s. s.place) (λ s. s.inbox.lines) (λ s. s.outbox.answers) (λ s. s.all_told) n seats back long0 long1 makers0 makers1 own0 own1 takers0 takers1 new_lines new_answers
          (λ k d low. (sat_back k d low).inbox) (λ k d low. (sat_back k d low).outbox) left left' taken taken' read written reads writes)

      pub pairs_of_answers : ArePairs (m + 1) (own1 ∷ map (λ s. s.outbox.answers) back) takers1
      pairs_of_answers =
          subst (λ z. ArePairs (z + 1) (own1 ∷ map (λ s. s.outbox.answers) back) takers1) (sym m_is)
          (still_answers seen (λ s. s.place) (λ s. s.inbox.lines) (λ s. s.outbox.answers) (λ s. s.all_told) n seats back long0 long1 makers0 makers1 own0 own1 takers0 takers1 new_lines new_answers
          (λ k d low. (sat_back k d low).inbox) (λ k d low. (sat_back k d low).outbox) left left' taken taken' read written reads writes)

      -- what all did, and what went in and out
      pub lived_behind :
          (places1 : List (Place S)) → places1 ≡ map (λ s. s.place) back → (read' : Result (Unit {0}) ReadError) (written' : Result (Unit {0}) ReportError) (lines_done answers_done is_told is_written : Bool)
          → AreFronts m makers1 (map (λ s. s.inbox.lines) back) → AreFronts (m + 1) (own1 ∷ map (λ s. s.outbox.answers) back) takers1
          → (IsTrue lines_done → AreAllTaken m makers1 (map (λ s. s.inbox.lines) back)) → (IsTrue answers_done → AreAllTaken (m + 1) (own1 ∷ map (λ s. s.outbox.answers) back) takers1)
          → (IsTrue is_told → (k : ℕ) (d : Seat S W) → k < m → (get_or back k d).all_told ≡ true) → WritesAs written (answers_done && is_told) written'
          → (read' ≡ Ok (tt {0}) → IsTrue is_written → (read ≡ Ok Whole) × IsTrue lines_done) → (written' ≡ Ok (tt {0}) → IsTrue is_written)
          → (lives : ℕ → Life) × HaveLived seen places0 places1 lives × Streamed n lives left left' taken taken' read' written'
      lived_behind places1 is1 read' written' lines_done answers_done is_told is_written fronts_lines fronts_answers all_lines all_answers told as_ fine_read fine_written =
          all_lived seen (λ s. s.place) (λ s. s.inbox.lines) (λ s. s.outbox.answers) (λ s. s.all_told) n seats back long0 long1 makers0 makers1 own0 own1 takers0 takers1 new_lines new_answers
          (λ k d low. (sat_back k d low).inbox) (λ k d low. (sat_back k d low).outbox) left left' taken taken' read written reads writes
          places0 places1 is0 is1 (λ k d low. (sat_back k d low).served) read' written' lines_done answers_done is_told is_written
          (λ k p c low. fronts_lines k p c (let e = m_is in omega arith)) (λ k p c low. fronts_answers k p c (let e = m_is in omega arith))
          (λ yes k p c low. all_lines yes k p c (let e = m_is in omega arith)) (λ yes k p c low. all_answers yes k p c (let e = m_is in omega arith))
          (λ yes k d low. told yes k d (let e = m_is in omega arith)) as_ fine_read fine_written
