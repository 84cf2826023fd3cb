-- The ends of all rings, before and behind the threads.
use Rattle.std.proofs.Common.{◌≡◌, refl, sym, ap, ◌∙◌, subst, ℕ, zero, suc, ◌+◌, ◌<◌, ◌≤◌, Bool, true, false, List, [], ◌∷◌, ◌++◌, length, map, get_or, Option, None, Result, Ok, Err, append-nil, arith}
use Rattle.std.specs.Prelude.{IsTrue}
use Rattle.std.proofs.lemmas.List.{get_or-map}
use Rattle.law_base.proofs.Lists.{elem_at}
use Rattle.rtrb.specs.Ring.{sent, received, IsPair, SameProducer, SameConsumer}
use Rattle.rtrb.specs.declared.producer.Producer.{Producer}
use Rattle.rtrb.specs.declared.consumer.Consumer.{Consumer}
use Rattle.io_model.specs.Streams.{Consumes}
use Rattle.io_model.specs.declared.whole.ReadError.{ReadError}
use Rattle.report_text.specs.declared.texts.ReportError.{ReportError}
use Rattle.report_text.specs.declared.texts.ReportError.TheVariants.{Failed, Memory}
use Rattle.live_lines.specs.declared.calls.Asked.{Asked}
use Rattle.live_lines.specs.declared.calls.Reply.{Reply}
use Rattle.live_lines.specs.declared.calls.Reply.TheVariants.{Refused}
use Rattle.live_lines.specs.declared.calls.Refusal.{Refusal}
use Rattle.script_runs.specs.Seen.{Seen, Idle}
use Rattle.live_sessions.specs.Served.{HasServed}
use Rattle.live_streams.specs.Rings.{AreNew, ArePairs, AreFronts, AreAllTaken}
use Rattle.live_streams.specs.Inputs.{TookInput, of_session}
use Rattle.live_streams.specs.Handed.{HandsAll, ReadTo}
use Rattle.live_streams.specs.Outputs.{of_lane, TakesLines}
use Rattle.live_streams.specs.Written.{TookEach, Writes}
use Rattle.live_streams.specs.declared.reading.Read.{Read}
use Rattle.live_streams.specs.declared.reading.Read.TheVariants.{Whole}
use Rattle.live_threads.specs.Ends.{WritesAs}
use Rattle.live_threads.specs.Lives.{Life, HasLived, Streamed}
use Rattle.live_threads.proofs.Joining.{Wrote, all_live, streamed}

-- both ends are still those of one ring
pair_still : {T A P : Type 0} (p q : Producer T A P) (c e : Consumer T A P) → IsPair p c → SameProducer p q → SameConsumer c e → IsPair q e
pair_still p q c e (w, s, n, h) ((v, t, m, i), k) ((x, y, z, a), b) = (x ∙ w ∙ sym v, y ∙ s ∙ sym t, z ∙ n ∙ sym m, a ∙ h ∙ sym i)

-- a place of a list that was made from another one
at : {X Y : Type 0} (f : X → Y) (xs : List X) (k : ℕ) (d : X) (e : Y) → k < length xs → get_or (map f xs) k e ≡ f (get_or xs k d)
at f xs k d e low = get_or-map f xs k d e low

-- nothing is known of it
nobody : Seen
nobody = record { splits = []; run = 0; walker = 0; entries = []; clock = 0; latest = 0; serial = 0; standing = Idle None; asked = record { stamp = 0; shard = 0 } }

module _ {A P : Type 0} where
  -- what the writer took of each ring
  pub took_some : (old new : List (Consumer Reply A P)) (taken taken' : Option (List ℕ)) (r : Result (Unit {0}) ReportError) → Writes old new taken taken' r → (all : List (ℕ × Reply)) × TookEach old new all
  took_some old new taken taken' (Ok u) (written, each, grows) = (written, each)
  took_some old new taken taken' (Err Memory) (written, lost, each, grows) = (written ++ lost, each)
  took_some old new taken taken' (Err Failed) (written, each, grows) = (written, each)

  -- what it wrote, from rings through which nothing had gone
  pub wrote :
      (n : ℕ) (old new : List (Consumer Reply A P)) (taken taken' : Option (List ℕ)) (result : Result (Unit {0}) ReportError) → length old ≡ n + 1 → ((k : ℕ) (d : Consumer Reply A P) → k < n + 1 → received (get_or old k d) ≡ [])
      → Writes old new taken taken' result → Wrote taken taken' result (λ k. get_or (map (λ c. received c) new) k []) n
  wrote n old new taken taken' result long none w = by result w
    where
      heard : (all : List (ℕ × Reply)) → TookEach old new all → (k : ℕ) → k ≤ n → get_or (map (λ c. received c) new) k [] ≡ of_lane k all
      heard all (count, each) k low =
          let under : k < length old = omega arith in
          let under' : k < length new = omega arith in
          let d = elem_at new k under' in
          at (λ c. received c) new k d [] under' ∙ ((each k d under).1 ∙ ap (λ l. l ++ of_lane k all) (none k d (omega arith)))

      by : (r : Result (Unit {0}) ReportError) → Writes old new taken taken' r → Wrote taken taken' r (λ k. get_or (map (λ c. received c) new) k []) n
      by (Ok u) (written, each, grows) = record {
        written = written;
        lost = [];
        heard_is = λ k low. heard written each k low ∙ ap (of_lane k) (sym (append-nil written));
        none_lost = λ is. refl;
        takes = λ all told as_. fine all told as_;
      }
        where
          fine : (all : Bool) (told : Result (Unit {0}) ReportError) → WritesAs (Ok u) all told → TakesLines taken taken' written told
          fine true told is = subst (λ r. TakesLines taken taken' written r) (sym is) grows
          fine false told is = subst (λ r. TakesLines taken taken' written r) (sym is) grows
      by (Err Memory) (written, lost, each, grows) = record {
        written = written;
        lost = lost;
        heard_is = λ k low. heard (written ++ lost) each k low;
        none_lost = λ is. absurd (cc);
        takes = λ all told is. subst (λ r. TakesLines taken taken' written r) (sym is) grows;
      }
      by (Err Failed) (written, each, grows) = record {
        written = written;
        lost = [];
        heard_is = λ k low. heard written each k low ∙ ap (of_lane k) (sym (append-nil written));
        none_lost = λ is. absurd (cc);
        takes = λ all told is. subst (λ r. TakesLines taken taken' written r) (sym is) grows;
      }

  module _ {X : Type 0} (seen : X → Seen) (lines : X → Consumer Asked A P) (answers : X → Producer Reply A P) (whole : X → Bool) (n : ℕ) (seats0 seats1 : List X) (long0 : length seats0 ≡ n) (long1 : length seats1 ≡ n)
      (makers0 makers1 : List (Producer Asked A P)) (own0 own1 : Producer Reply A P) (takers0 takers1 : List (Consumer Reply A P))
      (new_lines : AreNew n makers0 (map lines seats0)) (new_answers : AreNew (n + 1) (own0 ∷ map answers seats0) takers0)
      (handed : List (ℕ × Asked)) (refused : List Refusal) (hands : HandsAll handed refused makers0 makers1 own0 own1)
      (inbox : (k : ℕ) (d : X) → k < n → SameConsumer (lines (get_or seats0 k d)) (lines (get_or seats1 k d)))
      (outbox : (k : ℕ) (d : X) → k < n → SameProducer (answers (get_or seats0 k d)) (answers (get_or seats1 k d)))
      (all : List (ℕ × Reply)) (took : TookEach takers0 takers1 all) where
    -- the rings are still pairs
    pub pairs_lines : ArePairs n makers1 (map lines seats1)
    pairs_lines k p c low =
        let low0 : k < length seats0 = omega arith in
        let low1 : k < length seats1 = omega arith in
        let few : k < length makers0 = (let m = new_lines.makers_are in omega arith) in
        let d = elem_at seats1 k low1 in
        subst (λ z. IsPair (get_or makers1 k p) z) (sym (at lines seats1 k d c low1))
        (pair_still (get_or makers0 k p) (get_or makers1 k p) (lines (get_or seats0 k d)) (lines (get_or seats1 k d))
        (subst (λ z. IsPair (get_or makers0 k p) z) (at lines seats0 k d c low0) (new_lines.pairs k p c low)) (hands.same k p few) (inbox k d low))

    pub pairs_answers : ArePairs (n + 1) (own1 ∷ map answers seats1) takers1
    pairs_answers zero p c low =
        let few : 0 < length takers0 = (let m = new_answers.takers_are in omega arith) in
        pair_still own0 own1 (get_or takers0 0 c) (get_or takers1 0 c) (new_answers.pairs 0 p c low) hands.same_own (took.1 0 c few).0
    pairs_answers (suc k) p c low =
        let under : k < n = omega arith in
        let low0 : k < length seats0 = omega arith in
        let low1 : k < length seats1 = omega arith in
        let few : suc k < length takers0 = (let m = new_answers.takers_are in omega arith) in
        let d = elem_at seats1 k low1 in
        subst (λ z. IsPair z (get_or takers1 (suc k) c)) (sym (at answers seats1 k d p low1))
        (pair_still (answers (get_or seats0 k d)) (answers (get_or seats1 k d)) (get_or takers0 (suc k) c) (get_or takers1 (suc k) c)
        (subst (λ z. IsPair z (get_or takers0 (suc k) c)) (at answers seats0 k d p low0) (new_answers.pairs (suc k) p c low)) (outbox k d under) (took.1 (suc k) c few).0)

    -- ---- what each did, by its number

    abbrev first_of : ℕ → Seen
    first_of k = get_or (map seen seats0) k nobody

    abbrev last_of : ℕ → Seen
    last_of k = get_or (map seen seats1) k nobody

    abbrev got : ℕ → List Asked
    got k = get_or (map (λ s. received (lines s)) seats1) k []

    abbrev said : ℕ → List Reply
    said k = get_or (map (λ s. sent (answers s)) seats1) k []

    abbrev wholes : ℕ → Bool
    wholes k = get_or (map whole seats1) k true

    abbrev heard : ℕ → List Reply
    heard k = get_or (map (λ c. received c) takers1) k []

    -- what was handed to a session, and what the reader answered
    sent_lines : (k : ℕ) (p : Producer Asked A P) → k < n → sent (get_or makers1 k p) ≡ of_session (suc k) handed
    sent_lines k p low =
        let few : k < length makers0 = (let m = new_lines.makers_are in omega arith) in
        hands.sends k p few ∙ ap (λ l. l ++ of_session (suc k) handed) (new_lines.none_sent k p low)

    sent_own : sent own1 ≡ map Refused refused
    sent_own = hands.refuses ∙ ap (λ l. l ++ map Refused refused) (new_answers.none_sent 0 own0 (omega arith))

    lines_front : AreFronts n makers1 (map lines seats1) → (k : ℕ) → k < n → (rest : List Asked) × (of_session (suc k) handed ≡ got k ++ rest)
    lines_front fronts k low =
        let low1 : k < length seats1 = omega arith in
        let some : k < length makers1 = (let m = new_lines.makers_are in let h = hands.len in omega arith) in
        let d = elem_at seats1 k low1 in
        let p = elem_at makers1 k some in
        let f = fronts k p (lines d) low in
        (f.0, sym (sent_lines k p low) ∙ (f.1 ∙ ap (λ l. l ++ f.0) (ap (λ c. received c) (at lines seats1 k d (lines d) low1) ∙ sym (at (λ s. received (lines s)) seats1 k d [] low1))))

    lines_all : AreAllTaken n makers1 (map lines seats1) → (k : ℕ) → k < n → got k ≡ of_session (suc k) handed
    lines_all taken k low =
        let low1 : k < length seats1 = omega arith in
        let some : k < length makers1 = (let m = new_lines.makers_are in let h = hands.len in omega arith) in
        let d = elem_at seats1 k low1 in
        let p = elem_at makers1 k some in
        at (λ s. received (lines s)) seats1 k d [] low1 ∙ (sym (ap (λ c. received c) (at lines seats1 k d (lines d) low1)) ∙ (taken k p (lines d) low ∙ sent_lines k p low))

    heard_is : (k : ℕ) (c : Consumer Reply A P) → k < n + 1 → heard k ≡ received (get_or takers1 k c)
    heard_is k c low = at (λ c. received c) takers1 k c [] (let t = took.0 in let m = new_answers.takers_are in omega arith)

    taker_at : (k : ℕ) → k < n + 1 → Consumer Reply A P
    taker_at k low = elem_at takers1 k (let t = took.0 in let m = new_answers.takers_are in omega arith)

    own_front : AreFronts (n + 1) (own1 ∷ map answers seats1) takers1 → (rest : List Reply) × (map Refused refused ≡ heard 0 ++ rest)
    own_front fronts =
        let c = taker_at 0 (omega arith) in
        let f = fronts 0 own1 c (omega arith) in
        (f.0, sym sent_own ∙ (f.1 ∙ ap (λ l. l ++ f.0) (sym (heard_is 0 c (omega arith)))))

    answers_front : AreFronts (n + 1) (own1 ∷ map answers seats1) takers1 → (k : ℕ) → k < n → (rest : List Reply) × (said k ≡ heard (suc k) ++ rest)
    answers_front fronts k low =
        let low1 : k < length seats1 = omega arith in
        let next : suc k < n + 1 = omega arith in
        let d = elem_at seats1 k low1 in
        let c = taker_at (suc k) next in
        let f = fronts (suc k) (answers d) c next in
        (f.0, at (λ s. sent (answers s)) seats1 k d [] low1 ∙ (ap (λ p. sent p) (sym (at answers seats1 k d (answers d) low1)) ∙ (f.1 ∙ ap (λ l. l ++ f.0) (sym (heard_is (suc k) c next)))))

    own_all : AreAllTaken (n + 1) (own1 ∷ map answers seats1) takers1 → map Refused refused ≡ heard 0
    own_all taken =
        let c = taker_at 0 (omega arith) in
        sym (heard_is 0 c (omega arith) ∙ (taken 0 own1 c (omega arith) ∙ sent_own))

    answers_all : AreAllTaken (n + 1) (own1 ∷ map answers seats1) takers1 → (k : ℕ) → k < n → said k ≡ heard (suc k)
    answers_all taken k low =
        let low1 : k < length seats1 = omega arith in
        let next : suc k < n + 1 = omega arith in
        let d = elem_at seats1 k low1 in
        let c = taker_at (suc k) next in
        sym (heard_is (suc k) c next ∙ (taken (suc k) (answers d) c next ∙ (ap (λ p. sent p) (at answers seats1 k d (answers d) low1) ∙ sym (at (λ s. sent (answers s)) seats1 k d [] low1))))

    -- each session, by its number
    module _
        (served : (k : ℕ) (d : X) → k < n → HasServed (whole (get_or seats1 k d)) (received (lines (get_or seats0 k d))) (received (lines (get_or seats1 k d))) (sent (answers (get_or seats0 k d))) (sent (answers (get_or seats1 k d))) (seen (get_or seats0 k d)) (seen (get_or seats1 k d))) where
      served_at : (k : ℕ) → k < n → HasServed (wholes k) [] (got k) [] (said k) (first_of k) (last_of k)
      served_at k low =
          let low0 : k < length seats0 = omega arith in
          let low1 : k < length seats1 = omega arith in
          let next : suc k < n + 1 = omega arith in
          let d = elem_at seats1 k low1 in
          let none_got : received (lines (get_or seats0 k d)) ≡ [] = ap (λ c. received c) (sym (at lines seats0 k d (lines d) low0)) ∙ new_lines.none_received k (lines d) low in
          let none_said : sent (answers (get_or seats0 k d)) ≡ [] = ap (λ p. sent p) (sym (at answers seats0 k d (answers d) low0)) ∙ new_answers.none_sent (suc k) (answers d) next in
          subst (λ z. HasServed (wholes k) [] (got k) [] (said k) (first_of k) z) (sym (at seen seats1 k d nobody low1))
          (subst (λ z. HasServed (wholes k) [] (got k) [] (said k) z (seen (get_or seats1 k d))) (sym (at seen seats0 k d nobody low0))
          (subst (λ z. HasServed (wholes k) [] (got k) [] z (seen (get_or seats0 k d)) (seen (get_or seats1 k d))) (sym (at (λ s. sent (answers s)) seats1 k d [] low1))
          (subst (λ z. HasServed (wholes k) [] (got k) z (sent (answers (get_or seats1 k d))) (seen (get_or seats0 k d)) (seen (get_or seats1 k d))) none_said
          (subst (λ z. HasServed (wholes k) [] z (sent (answers (get_or seats0 k d))) (sent (answers (get_or seats1 k d))) (seen (get_or seats0 k d)) (seen (get_or seats1 k d))) (sym (at (λ s. received (lines s)) seats1 k d [] low1))
          (subst (λ z. HasServed (wholes k) z (received (lines (get_or seats1 k d))) (sent (answers (get_or seats0 k d))) (sent (answers (get_or seats1 k d))) (seen (get_or seats0 k d)) (seen (get_or seats1 k d))) none_got
          (subst (λ z. HasServed z (received (lines (get_or seats0 k d))) (received (lines (get_or seats1 k d))) (sent (answers (get_or seats0 k d))) (sent (answers (get_or seats1 k d))) (seen (get_or seats0 k d)) (seen (get_or seats1 k d))) (sym (at whole seats1 k d true low1))
          (served k d low)))))))

      -- what all did, and what went in and out
      pub joined :
          (left left' taken taken' : Option (List ℕ)) (read : Result Read ReadError) (read' : Result (Unit {0}) ReadError) (written written' : Result (Unit {0}) ReportError) (lines_done answers_done is_written : Bool)
          (bytes : List ℕ) → Consumes left left' bytes → TookInput n bytes handed refused → ReadTo left left' n bytes handed refused read
          → Wrote taken taken' written heard n
          → AreFronts n makers1 (map lines seats1) → AreFronts (n + 1) (own1 ∷ map answers seats1) takers1
          → (IsTrue lines_done → AreAllTaken n makers1 (map lines seats1)) → (IsTrue answers_done → AreAllTaken (n + 1) (own1 ∷ map answers seats1) takers1)
          → (IsTrue answers_done → (k : ℕ) (d : X) → k < n → whole (get_or seats1 k d) ≡ true) → WritesAs written answers_done written'
          → (read' ≡ Ok (tt {0}) → IsTrue is_written → (read ≡ Ok Whole) × IsTrue lines_done) → (written' ≡ Ok (tt {0}) → IsTrue is_written)
          → (lives : ℕ → Life) × ((k : ℕ) (d : X) → k < n → HasLived (lives (suc k)) (seen (get_or seats0 k d)) (seen (get_or seats1 k d))) × Streamed n lives left left' taken taken' read' written'
      joined left left' taken taken' read read' written written' lines_done answers_done is_written bytes consumes input reads wrote fronts_lines fronts_answers all_lines all_answers all_told as_ fine_read fine_written =
          let l = all_live n first_of last_of got said wholes served_at in (
            l.0,
            (λ k d low.
                let low0 : k < length seats0 = omega arith in
                let low1 : k < length seats1 = omega arith in
                subst (λ z. HasLived (l.0 (suc k)) (seen (get_or seats0 k d)) z) (at seen seats1 k d nobody low1)
                (subst (λ z. HasLived (l.0 (suc k)) z (last_of k)) (at seen seats0 k d nobody low0) (l.1 k low).lived)),
            streamed n first_of last_of got said heard wholes l.0 l.1 left left' taken taken' read read' written written' lines_done answers_done is_written bytes handed refused consumes input reads
                (lines_front fronts_lines) (λ yes. lines_all (all_lines yes)) (own_front fronts_answers) (answers_front fronts_answers) wrote
                (λ yes. (own_all (all_answers yes), answers_all (all_answers yes), (λ k low. let low1 : k < length seats1 = omega arith in let d = elem_at seats1 k low1 in at whole seats1 k d true low1 ∙ all_told yes k d low)))
                as_ fine_read fine_written,
          )
