-- What the threads did, put together behind their join.
use Rattle.std.proofs.Common.{◌≡◌, ◌⊎◌, inl, inr, refl, sym, ap, ◌∙◌, subst, ℕ, zero, suc, ◌<◌, ◌≤◌, Bool, true, false, List, [], ◌∷◌, ◌++◌, map, Option, Result, Ok, Err, append_assoc, append-nil, arith}
use Rattle.std.specs.Prelude.{IsTrue}
use Rattle.std.proofs.lemmas.Bool.{cases_lt, both_ways}
use Rattle.io_model.specs.Streams.{Consumes}
use Rattle.io_model.specs.declared.whole.ReadError.{ReadError}
use Rattle.report_text.specs.declared.texts.ReportError.{ReportError}
use Rattle.report_text.specs.declared.texts.ReportError.TheVariants.{Memory}
use Rattle.live_lines.specs.declared.calls.Asked.{Asked}
use Rattle.live_lines.specs.declared.calls.Reply.{Reply}
use Rattle.live_lines.specs.declared.calls.Reply.TheVariants.{Refused}
use Rattle.live_lines.specs.declared.calls.Refusal.{Refusal}
use Rattle.script_runs.specs.Seen.{Seen}
use Rattle.live_sessions.specs.Served.{HasServed, AreTold}
use Rattle.live_streams.specs.Inputs.{TookInput, TookAllInput, of_session}
use Rattle.live_streams.specs.Handed.{ReadTo}
use Rattle.live_streams.specs.Outputs.{of_lane, TakesLines, TookReplies}
use Rattle.live_streams.specs.declared.reading.Read.{Read}
use Rattle.live_streams.specs.declared.reading.Read.TheVariants.{Whole}
use Rattle.live_streams.proofs.Laws.{of_lane-append}
use Rattle.live_threads.specs.Ends.{WritesAs}
use Rattle.live_threads.specs.Lives.{Life, HasLived, TookRequests, TookAllRequests, replies_in, Streamed}

-- of each number below a bound there is one of which this holds: so there is a function
pub choose : {L : Type 0} (l : L) (n : ℕ) (P : ℕ → L → Type 0) → ((k : ℕ) → k < n → (x : L) × P k x) → (f : ℕ → L) × ((k : ℕ) → k < n → P k (f k))
choose {L} l n P h = (λ k. pick k (cases_lt k n), λ k low. picked k (cases_lt k n) low)
  where
    pick : (k : ℕ) → (k < n) ⊎ (n ≤ k) → L
    pick k (inl low) = (h k low).0
    pick k (inr past) = l

    picked : (k : ℕ) (c : (k < n) ⊎ (n ≤ k)) → k < n → P k (pick k c)
    picked k (inl low) l' = (h k low).1
    picked k (inr past) low = absurd (let no : ⊥ = omega arith in no)

-- ---- each session

-- it lived so, took these lines, and told these replies, and perhaps one more
pub record Lives (u v : Seen) (got : List Asked) (said : List Reply) (whole : Bool) (life : Life) : Type 0 where
  pub lived : HasLived life u v
  pub asked : life.asked ≡ got
  pub more : List Reply
  pub replies : life.replies ≡ said ++ more
  pub none : whole ≡ true → more ≡ []

told_all : (whole : Bool) (said replies : List Reply) → AreTold whole [] said replies → (more : List Reply) × (replies ≡ said ++ more) × (whole ≡ true → more ≡ [])
told_all true said replies is = ([], sym is ∙ sym (append-nil said), λ w. refl)
told_all false said replies (front, last, are, is) = (last ∷ [], are ∙ ap (λ l. l ++ last ∷ []) (sym is), λ w. absurd (both_ways false refl w))

pub lives_by : (u v : Seen) (got : List Asked) (said : List Reply) (whole : Bool) → HasServed whole [] got [] said u v → (life : Life) × Lives u v got said whole life
lives_by u v got said whole s =
    let t = told_all whole said s.replies s.tells in
    (record { asked = s.asked; replies = s.replies }, record { lived = record { last = s.last; course = s.course; over = s.over; served = s.served; closes = s.closes }; asked = sym s.took; more = t.0; replies = t.1; none = t.2 })

-- so did all of them, in a numbering from 1
pub all_live :
    (n : ℕ) (u v : ℕ → Seen) (got : ℕ → List Asked) (said : ℕ → List Reply) (whole : ℕ → Bool) → ((k : ℕ) → k < n → HasServed (whole k) [] (got k) [] (said k) (u k) (v k))
    → (lives : ℕ → Life) × ((k : ℕ) → k < n → Lives (u k) (v k) (got k) (said k) (whole k) (lives (suc k)))
all_live n u v got said whole h =
    let none : Life = record { asked = []; replies = [] } in
    let c = choose none n (λ k life. Lives (u k) (v k) (got k) (said k) (whole k) life) (λ k low. lives_by (u k) (v k) (got k) (said k) (whole k) (h k low)) in
    (shifted none c.0, c.1)
  where
    shifted : Life → (ℕ → Life) → ℕ → Life
    shifted none f zero = none
    shifted none f (suc k) = f k

-- ---- what was written

-- of all that was taken some last ones may be lost, but where all went well
pub record Wrote (old new : Option (List ℕ)) (result : Result (Unit {0}) ReportError) (heard : ℕ → List Reply) (n : ℕ) : Type 0 where
  pub written : List (ℕ × Reply)
  pub lost : List (ℕ × Reply)
  pub heard_is : (k : ℕ) → k ≤ n → heard k ≡ of_lane k (written ++ lost)
  pub none_lost : result ≡ Ok (tt {0}) → lost ≡ []
  pub takes : (all : Bool) (told : Result (Unit {0}) ReportError) → WritesAs result all told → TakesLines old new written told

-- where it is told that all was written, it was
pub as_fine : (result told : Result (Unit {0}) ReportError) (all : Bool) → WritesAs result all told → told ≡ Ok (tt {0}) → (result ≡ Ok (tt {0})) × (all ≡ true)
as_fine (Ok u) told true is fine = (refl, refl)
as_fine (Ok u) told false is fine = absurd (let e : Err Memory ≡ Ok (tt {0}) = sym is ∙ fine in cc)
as_fine (Err e) told all is fine = absurd (let f : Err e ≡ Ok (tt {0}) = sym is ∙ fine in cc)

-- ---- all of it

module _ (n : ℕ) (u v : ℕ → Seen) (got : ℕ → List Asked) (said heard : ℕ → List Reply) (whole : ℕ → Bool) (lives : ℕ → Life) (each : (k : ℕ) → k < n → Lives (u k) (v k) (got k) (said k) (whole k) (lives (suc k))) where
  -- lines: what a session took is a front of what was handed to it
  requests :
      (bytes : List ℕ) (handed : List (ℕ × Asked)) (refused : List Refusal) → TookInput n bytes handed refused
      → ((k : ℕ) → k < n → (rest : List Asked) × (of_session (suc k) handed ≡ got k ++ rest)) → TookRequests n lives bytes refused
  requests bytes handed refused input fronts =
      record { handed = handed; input = input; fronts = λ k low. (let f = fronts k low in (f.0, f.1 ∙ ap (λ l. l ++ f.0) (sym (each k low).asked))) }

  all_requests :
      (bytes : List ℕ) (handed : List (ℕ × Asked)) (refused : List Refusal) → TookAllInput n bytes handed refused → ((k : ℕ) → k < n → got k ≡ of_session (suc k) handed)
      → TookAllRequests n lives bytes refused
  all_requests bytes handed refused input all = (handed, input, λ k low. sym (all k low) ∙ sym (each k low).asked)

  -- answers: what the sink took is of each session a front of its replies
  module _ (refused : List Refusal) (fronts_own : (rest : List Reply) × (map Refused refused ≡ heard 0 ++ rest)) (fronts : (k : ℕ) → k < n → (rest : List Reply) × (said k ≡ heard (suc k) ++ rest)) where
    front_of : (k : ℕ) → k ≤ n → (rest : List Reply) × (replies_in lives refused k ≡ heard k ++ rest)
    front_of zero low = fronts_own
    front_of (suc k) low =
        let under : k < n = omega arith in
        let f = fronts k under in
        let e = each k under in
        (f.0 ++ e.more, e.replies ∙ (ap (λ l. l ++ e.more) f.1 ∙ append_assoc (heard (suc k)) f.0 e.more))

    all_of : map Refused refused ≡ heard 0 → ((k : ℕ) → k < n → said k ≡ heard (suc k)) → ((k : ℕ) → k < n → whole k ≡ true) → (k : ℕ) → k ≤ n → replies_in lives refused k ≡ heard k
    all_of own all fine zero low = own
    all_of own all fine (suc k) low =
        let under : k < n = omega arith in
        let e = each k under in
        e.replies ∙ (ap (λ l. said k ++ l) (e.none (fine k under)) ∙ (append-nil (said k) ∙ all k under))

    replied :
        (old new : Option (List ℕ)) (result told : Result (Unit {0}) ReportError) (all : Bool) → Wrote old new result heard n → WritesAs result all told
        → (IsTrue all → (map Refused refused ≡ heard 0) × ((k : ℕ) → k < n → said k ≡ heard (suc k)) × ((k : ℕ) → k < n → whole k ≡ true))
        → TookReplies n (replies_in lives refused) old new told
    replied old new result told all w as_ done = record {
      written = w.written;
      takes = w.takes all told as_;
      fronts = λ k low. (let f = front_of k low in let split = of_lane-append k w.written w.lost in
          (of_lane k w.lost ++ f.0, f.1 ∙ (ap (λ l. l ++ f.0) (w.heard_is k low ∙ split) ∙ append_assoc (of_lane k w.written) (of_lane k w.lost) f.0)));
      whole = λ fine k low. (let ok = as_fine result told all as_ fine in let d = done ok.1 in
          ap (of_lane k) (sym (append-nil w.written) ∙ ap (λ l. w.written ++ l) (sym (w.none_lost ok.0))) ∙ (sym (w.heard_is k low) ∙ sym (all_of d.0 d.1 d.2 k low)));
    }

  -- what went in and out
  pub streamed :
      (left left' taken taken' : Option (List ℕ)) (read : Result Read ReadError) (read' : Result (Unit {0}) ReadError) (written written' : Result (Unit {0}) ReportError) (lines_done answers_done is_written : Bool)
      (bytes : List ℕ) (handed : List (ℕ × Asked)) (refused : List Refusal) → Consumes left left' bytes → TookInput n bytes handed refused → ReadTo left left' n bytes handed refused read
      → ((k : ℕ) → k < n → (rest : List Asked) × (of_session (suc k) handed ≡ got k ++ rest)) → (IsTrue lines_done → (k : ℕ) → k < n → got k ≡ of_session (suc k) handed)
      → (rest : List Reply) × (map Refused refused ≡ heard 0 ++ rest) → ((k : ℕ) → k < n → (rest : List Reply) × (said k ≡ heard (suc k) ++ rest)) → Wrote taken taken' written heard n
      → (IsTrue answers_done → (map Refused refused ≡ heard 0) × ((k : ℕ) → k < n → said k ≡ heard (suc k)) × ((k : ℕ) → k < n → whole k ≡ true)) → WritesAs written answers_done written'
      → (read' ≡ Ok (tt {0}) → IsTrue is_written → (read ≡ Ok Whole) × IsTrue lines_done) → (written' ≡ Ok (tt {0}) → IsTrue is_written)
      → Streamed n lives left left' taken taken' read' written'
  streamed left left' taken taken' read read' written written' lines_done answers_done is_written bytes handed refused consumes took reads lines all_lines own answers wrote all_answers as_ fine_read fine_written = record {
    refused = refused;
    took = (bytes, consumes, requests bytes handed refused took lines);
    told = replied refused own answers taken taken' written written' answers_done wrote as_ all_answers;
    all = λ r w. (let f = fine_read r (fine_written w) in let e = subst (λ x. ReadTo left left' n bytes handed refused x) f.0 reads in (bytes, e.0, all_requests bytes handed refused e.1 (all_lines f.1)));
  }
