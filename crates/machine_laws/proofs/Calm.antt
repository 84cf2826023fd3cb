-- What an event that isn't of a flush leaves as it is.
use Rattle.std.proofs.Common.{◌≡◌, ℕ, suc, ◌+◌, ◌≤◌, ◌^◌, Bool, true, false, ◌||◌, List, [], ◌∷◌, ◌++◌, length, take, sym, ap, refl, ◌∙◌, Option, Some, None}
use Rattle.std.proofs.lemmas.List.{take-append-le}
use Rattle.std.proofs.lemmas.Bool.{both_ways}
use Rattle.clv_base.specs.declared.logs.LogRecord.{LogRecord}
use Rattle.clv_base.specs.declared.events.Event.{Event}
use Rattle.clv_base.specs.declared.events.Event.TheVariants.{FlushOut}
use Rattle.clv_base.specs.declared.events.Outcome.{Outcome}
use Rattle.clv_base.specs.declared.events.Outcome.TheVariants.{Out}
use Rattle.clv_base.specs.declared.events.Entry.{Entry}
use Rattle.clv_base.specs.State.{Shard}
use Rattle.clv_base.specs.Events.{finish, happen, Does, with_flight}
use Rattle.clv_base.specs.Journals.{stamp_bound}
use Rattle.protocol_laws.specs.Growth.{IsPrefixOf}
use Rattle.protocol_laws.proofs.LogOnlyGrows.{log_only_grows}
use Rattle.history_cases.proofs.Stepping.{Step, op_dies, op_answers, roll_refused, roll_doomed, roll_late, roll_unknown, rolls_back, request_refused, request_doomed, request_again, request_new, request_closes, looks_well, looks_ill, drops, sends, prepare_closes, prepare_again, vote_counts, decision_comes, decision_again, done_counts, asked, reminds, flushes, Happens, finishes, stops, happened}
use Rattle.history_cases.proofs.Durability.{framed_finish, happens_steps}
use Rattle.machine_laws.specs.Homes.{is_turned, is_failed, has_failed, taker_after}

abbrev pub is_flush_out : Event → Bool
is_flush_out FlushOut = true
is_flush_out _ = false

-- the event neither begins nor ends a flush, nor stops the shard
pub record Calm (e : Event) (o : Outcome) (s t : Shard) : Type 0 where
  pub is_up : t.is_up ≡ s.is_up
  pub flight : t.flight ≡ s.flight
  pub fine : is_failed o ≡ false
  pub bound : stamp_bound e ≡ 2 ^ 48
  pub takes : (v : Option ℕ) (w : ℕ) → taker_after v w e ≡ v

calm : (e : Event) (o : Outcome) (s t : Shard) → t.is_up ≡ s.is_up → t.flight ≡ s.flight → is_failed o ≡ false → stamp_bound e ≡ 2 ^ 48 → ((v : Option ℕ) (w : ℕ) → taker_after v w e ≡ v) → Calm e o s t
calm e o s t a b c d f = record { is_up = a; flight = b; fine = c; bound = d; takes = f }

step_calm : (s t : Shard) {e : Event} {o : Outcome} → Step s e o t → is_flush_out e ≡ false → Calm e o s t
step_calm s t (op_dies tx birth nth seen op cause l h) f = calm _ _ _ _ refl refl refl refl (λ v w. refl)
step_calm s t (op_answers tx birth nth seen op answer l h) f = calm _ _ _ _ refl refl refl refl (λ v w. refl)
step_calm s t (roll_refused tx nth seen upto h) f = calm _ _ _ _ refl refl refl refl (λ v w. refl)
step_calm s t (roll_doomed tx nth seen upto doom f0 h) f = calm _ _ _ _ refl refl refl refl (λ v w. refl)
step_calm s t (roll_late tx nth seen upto f0 h) f = calm _ _ _ _ refl refl refl refl (λ v w. refl)
step_calm s t (roll_unknown tx nth seen upto f0 h) f = calm _ _ _ _ refl refl refl refl (λ v w. refl)
step_calm s t (rolls_back tx nth seen upto f0 h) f = calm _ _ _ _ refl refl refl refl (λ v w. refl)
step_calm s t (request_refused tx ts cause h) f = calm _ _ _ _ refl refl refl refl (λ v w. refl)
step_calm s t (request_doomed tx ts doom h) f = calm _ _ _ _ refl refl refl refl (λ v w. refl)
step_calm s t (request_again tx ts f0 h) f = calm _ _ _ _ refl refl refl refl (λ v w. refl)
step_calm s t (request_new tx ts f0 h) f = calm _ _ _ _ refl refl refl refl (λ v w. refl)
step_calm s t (request_closes tx ts f0 h) f = calm _ _ _ _ refl refl refl refl (λ v w. refl)
step_calm s t (looks_well tx h) f = calm _ _ _ _ refl refl refl refl (λ v w. refl)
step_calm s t (looks_ill tx cause d h) f = calm _ _ _ _ refl refl refl refl (λ v w. refl)
step_calm s t (drops tx stage h) f = calm _ _ _ _ refl refl refl refl (λ v w. refl)
step_calm s t (sends m ms h) f = calm _ _ _ _ refl refl refl refl (λ v w. refl)
step_calm s t (prepare_closes tx home seen stamp h) f = calm _ _ _ _ refl refl refl refl (λ v w. refl)
step_calm s t (prepare_again tx home seen stamp h) f = calm _ _ _ _ refl refl refl refl (λ v w. refl)
step_calm s t (vote_counts tx from vote stamp q g h) f = calm _ _ _ _ refl refl refl refl (λ v w. refl)
step_calm s t (decision_comes tx home true stamp h) f = calm _ _ _ _ refl refl refl refl (λ v w. refl)
step_calm s t (decision_comes tx home false stamp h) f = calm _ _ _ _ refl refl refl refl (λ v w. refl)
step_calm s t (decision_again tx home commit stamp h) f = calm _ _ _ _ refl refl refl refl (λ v w. refl)
step_calm s t (done_counts tx from stamp q g h) f = calm _ _ _ _ refl refl refl refl (λ v w. refl)
step_calm s t (asked tx from stamp) f = calm _ _ _ _ refl refl refl refl (λ v w. refl)
step_calm s t (reminds m ms g h) f = calm _ _ _ _ refl refl refl refl (λ v w. refl)
step_calm s t (flushes k g h) f = absurd (both_ways true f refl)

happens_calm : (s t : Shard) {e : Event} {o : Outcome} → Happens s e o t → is_flush_out e ≡ false → is_turned e ≡ true → Calm e o s t
happens_calm s _ (finishes {t = x} u h) f k =
    let q = step_calm s x h f in
    let p = framed_finish x in
    record { is_up = p.is_up ∙ q.is_up; flight = p.flight ∙ q.flight; fine = q.fine; bound = q.bound; takes = q.takes }
happens_calm s _ (stops u) f k = absurd (both_ways false refl k)

-- what stays of the log, and of what is durable
pub record Keeps (s t : Shard) : Type 0 where
  pub shard : t.shard ≡ s.shard
  pub durable : t.durable ≡ s.durable
  pub journal : t.journal ≡ s.journal
  pub grown : IsPrefixOf s.local.log t.local.log

pub does_keep : (s t : Shard) (e : Event) (o : Outcome) → happen s e ≡ Does o t → Keeps s t
does_keep s t e o h = let p = happens_steps s t (happened s t e o h) in record { shard = p.shard; durable = p.durable; journal = p.journal; grown = log_only_grows s t e o h }

pub does_calm : (s t : Shard) (e : Event) (o : Outcome) → happen s e ≡ Does o t → is_flush_out e ≡ false → is_turned e ≡ true → Calm e o s t
does_calm s t e o h f k = happens_calm s t (happened s t e o h) f k

-- a flush that begins
pub record Flies (s t : Shard) (o : Outcome) : Type 0 where
  pub upto : ℕ
  pub outcome : o ≡ Out upto
  pub was : s.flight ≡ None
  pub flight : t.flight ≡ Some upto
  pub is_up : t.is_up ≡ true

flies_out : (s t : Shard) {e : Event} {o : Outcome} → Happens s e o t → e ≡ FlushOut → Flies s t o
flies_out s _ (finishes {t = x} u h) is = step_flies s x u h is
  where
    step_flies : (s t : Shard) {e : Event} {o : Outcome} → s.is_up ≡ true → Step s e o t → e ≡ FlushOut → Flies s (finish t) o
    step_flies s t u (flushes k g h) is = let p = framed_finish (with_flight (s.durable + suc k) s) in record { upto = s.durable + suc k; outcome = refl; was = g; flight = p.flight; is_up = p.is_up ∙ u }
    step_flies s t u (op_dies tx birth nth seen op cause l h) is = absurd cc
    step_flies s t u (op_answers tx birth nth seen op answer l h) is = absurd cc
    step_flies s t u (roll_refused tx nth seen upto h) is = absurd cc
    step_flies s t u (roll_doomed tx nth seen upto doom f0 h) is = absurd cc
    step_flies s t u (roll_late tx nth seen upto f0 h) is = absurd cc
    step_flies s t u (roll_unknown tx nth seen upto f0 h) is = absurd cc
    step_flies s t u (rolls_back tx nth seen upto f0 h) is = absurd cc
    step_flies s t u (request_refused tx ts cause h) is = absurd cc
    step_flies s t u (request_doomed tx ts doom h) is = absurd cc
    step_flies s t u (request_again tx ts f0 h) is = absurd cc
    step_flies s t u (request_new tx ts f0 h) is = absurd cc
    step_flies s t u (request_closes tx ts f0 h) is = absurd cc
    step_flies s t u (looks_well tx h) is = absurd cc
    step_flies s t u (looks_ill tx cause d h) is = absurd cc
    step_flies s t u (drops tx stage h) is = absurd cc
    step_flies s t u (sends m ms h) is = absurd cc
    step_flies s t u (prepare_closes tx home seen stamp h) is = absurd cc
    step_flies s t u (prepare_again tx home seen stamp h) is = absurd cc
    step_flies s t u (vote_counts tx from vote stamp q g h) is = absurd cc
    step_flies s t u (decision_comes tx home commit stamp h) is = absurd cc
    step_flies s t u (decision_again tx home commit stamp h) is = absurd cc
    step_flies s t u (done_counts tx from stamp q g h) is = absurd cc
    step_flies s t u (asked tx from stamp) is = absurd cc
    step_flies s t u (reminds m ms g h) is = absurd cc
flies_out s _ (stops u) is = absurd cc

pub does_fly : (s t : Shard) (o : Outcome) → happen s FlushOut ≡ Does o t → Flies s t o
does_fly s t o h = flies_out s t (happened s t FlushOut o h) refl

-- ---- a failed flush in a journal

pub failed_append : (xs : List Entry) (x : Entry) → has_failed (xs ++ x ∷ []) ≡ (has_failed xs || is_failed x.outcome)
failed_append [] x = last (is_failed x.outcome)
  where
    last : (b : Bool) → (b || false) ≡ (false || b)
    last true = refl
    last false = refl
failed_append (y ∷ ys) x = ap (λ z. is_failed y.outcome || z) (failed_append ys x) ∙ assoc (is_failed y.outcome) (has_failed ys) (is_failed x.outcome)
  where
    assoc : (a b c : Bool) → (a || (b || c)) ≡ ((a || b) || c)
    assoc true b c = refl
    assoc false b c = refl

-- the durable records stay so while the log grows
pub take_grown : (m n : ℕ) (xs ys : List LogRecord) → m ≤ length xs → n ≡ m → IsPrefixOf xs ys → take n ys ≡ take m xs
take_grown m n xs ys l same p = ap (λ k. take k ys) same ∙ ap (take m) (sym p.1) ∙ take-append-le m xs p.0 l
