-- That entries may be made, by a test of their stamps and what their events come to; and that a history over the two shards is legal.
use Rattle.std.specs.Prelude.{length, not, ◌||◌, ◌^◌}
use Rattle.std.specs.List.{list_all}
use Rattle.std.proofs.Common.{◌≡◌, refl, ℕ, zero, suc, ◌<◌, ◌&&◌, nat_lt, true, Bool, arith, List, []}
use Rattle.std.proofs.lemmas.Bool.{and_parts, ltb-true}
use Rattle.clv_base.specs.declared.logs.LogRecord.{LogRecord}
use Rattle.clv_base.specs.declared.events.Entry.{Entry}
use Rattle.clv_base.specs.State.{Shard}
use Rattle.clv_base.specs.Events.{message_stamp}
use Rattle.clv_base.specs.LogRules.{log_of}
use Rattle.clv_base.specs.Restarts.{run_after}
use Rattle.clv_base.specs.Journals.{History, EventMay, MayEnter, MayRun, MayLeave, stamp_bound, is_ordered, own, start_of, final_of, journal_of}
use Rattle.clv_base.specs.Sessions.{is_session, is_of_session, is_session_number}
use Rattle.clv_base.specs.History.{Legal, MessagesSent, walkers_rise}
use Rattle.history_examples.specs.Noted.{splits}

-- the stamp is behind the shard's and the message's
abbrev fits : Shard → Entry → Bool
fits s e = nat_lt s.last e.stamp && nat_lt (message_stamp e.event) e.stamp && nat_lt e.stamp (stamp_bound e.event)

pub enters : (log : List LogRecord) (s : Shard) (e : Entry) → fits s e ≡ true → EventMay log s e.event e.outcome → MayEnter log s e
enters log s e f m =
    let p = and_parts (nat_lt s.last e.stamp && nat_lt (message_stamp e.event) e.stamp) (nat_lt e.stamp (stamp_bound e.event)) f in
    let q = and_parts (nat_lt s.last e.stamp) (nat_lt (message_stamp e.event) e.stamp) p.0 in
    record { event = m; rises = ltb-true _ _ q.0; above_message = ltb-true _ _ q.1; bounded = ltb-true _ _ p.1 }

-- what holds of shards 0 and 1 holds of each shard below 2
pub only_two : (P : ℕ → Type 0) → P 0 → P 1 → (n : ℕ) → n < 2 → P n
only_two P p q zero h = p
only_two P p q (suc zero) h = q
only_two P p q (suc (suc n)) h = absurd (omega arith)

-- what is computed of a history as a whole
abbrev pub Passes : List (List LogRecord) → History → List (List LogRecord) → Type 0
Passes before h after =
    (is_ordered h ≡ true) × (length before ≡ 2) × (length after ≡ 2) × (list_all (λ e. nat_lt e.0 2) h ≡ true) × (walkers_rise h ≡ true)
    × (list_all (λ e. is_session splits (run_after before) (e.1).walker (own (e.1).walker h)) h ≡ true)
    × (list_all (λ e. not (is_of_session (e.1).event) || is_session_number (e.1).walker) h ≡ true) × (nat_lt (run_after before) (2 ^ 32) ≡ true)

-- with what each shard does and leaves, and the messages, it is legal
pub legal :
    (before : List (List LogRecord)) (h : History) (after : List (List LogRecord))
    → Passes before h after → MayRun (log_of after 0) (start_of before 0) (journal_of 0 h) → MayRun (log_of after 1) (start_of before 1) (journal_of 1 h)
    → MayLeave (final_of before h after 0) (log_of after 0) → MayLeave (final_of before h after 1) (log_of after 1) → MessagesSent [] h → Legal splits before h after
legal before h after (ordered, first, last, shards, stamps, sessions, numbered, fits) runs0 runs1 leaves0 leaves1 messages =
    record {
      splits_rise = refl;
      ordered = ordered;
      each_log = (first, last);
      in_shards = shards;
      run_fits = ltb-true _ _ fits;
      runs = only_two (λ n. MayRun (log_of after n) (start_of before n) (journal_of n h)) runs0 runs1;
      leaves = only_two (λ n. MayLeave (final_of before h after n) (log_of after n)) leaves0 leaves1;
      stamps = stamps;
      sessions = sessions;
      numbered = numbered;
      messages = messages;
    }

-- the epoch after a first restart is another one
pub unlike : ◌≡◌ {A = ℕ} 0 1 → ⊥
unlike e = absurd (omega (arith, e))
