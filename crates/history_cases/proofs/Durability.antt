-- What is durable stays: the durable records of a shard are the first ones of its log for good, whatever is in flight and whatever crashes.
use Rattle.std.proofs.Common.{◌≡◌, refl, sym, ap, subst, ◌∙◌, ℕ, suc, ◌+◌, ◌≤◌, true, false, Bool, List, [], ◌∷◌, ◌++◌, Option, Some, None, length, take, arith, length-append, take-append-drop}
use Rattle.std.specs.Prelude.{drop, unwrap_or}
use Rattle.std.proofs.lemmas.List.{take-append-le, take-take, take_all, length-drop}
use Rattle.clv_base.specs.declared.names.TxId.{TxId}
use Rattle.clv_base.specs.declared.logs.LogRecord.{LogRecord}
use Rattle.clv_base.specs.declared.causes.Vote.{Vote}
use Rattle.clv_base.specs.declared.causes.Vote.TheVariants.{Yes, Read, No}
use Rattle.clv_base.specs.declared.state.Voter.{Voter}
use Rattle.clv_base.specs.declared.state.Request.{Request}
use Rattle.clv_base.specs.declared.state.Ruling.{Ruling}
use Rattle.clv_base.specs.declared.state.Ruling.TheVariants.{Commit as CommitVerdict, Acknowledge, Abort as AbortVerdict, End as EndVerdict}
use Rattle.clv_base.specs.declared.events.Event.{Event}
use Rattle.clv_base.specs.declared.events.Outcome.{Outcome}
use Rattle.clv_base.specs.declared.events.Entry.{Entry}
use Rattle.clv_base.specs.Logs.{fitting}
use Rattle.clv_base.specs.State.{Shard}
use Rattle.clv_base.specs.Due.{finish_reader, with_vote, do_ruling, with_ruling}
use Rattle.clv_base.specs.Events.{finish, put_down, with_durable, taken}
use Rattle.clv_base.specs.Restarts.{log_left, revived, opened, next_epoch, restart_records, FailedRestarts, untouched, failed_first, Restarts}
use Rattle.clv_base.specs.Journals.{up_to_restart, event_state, after_entry, after_entries, MayEnter, MayRun}
use Rattle.protocol_laws.specs.Growth.{IsPrefixOf}
use Rattle.protocol_laws.proofs.LogOnlyGrows.DueGrowsLogs.{same, more, chain, grows_settled}
use Rattle.protocol_laws.proofs.LogOnlyGrows.{log_only_grows}
use Rattle.history_cases.proofs.Stepping.{commits, votes, rules, KeptByDue, settled, Step, decision_comes, flushes, Happens, finishes, stops}
use Rattle.history_cases.proofs.Entering.{Makes, by_event, by_flush, by_failure, by_restart, makes}
use Rattle.law_base.proofs.Logs.{few_fit as fitting_length}

-- ---- what an event leaves as it is

-- all that events leave as it is, and what of the log is in flight
pub record Framed (s t : Shard) : Type 0 where
  pub shard : t.shard ≡ s.shard
  pub run : t.run ≡ s.run
  pub durable : t.durable ≡ s.durable
  pub flight : t.flight ≡ s.flight
  pub is_up : t.is_up ≡ s.is_up
  pub last : t.last ≡ s.last
  pub journal : t.journal ≡ s.journal

pub framed : (s : Shard) → Framed s s
framed s = record { shard = refl; run = refl; durable = refl; flight = refl; is_up = refl; last = refl; journal = refl }

framed_reader : (s0 s : Shard) (tx : TxId) (v : Voter) (vote : Vote) → Framed s0 s → Framed s0 (finish_reader tx vote (with_vote s tx v vote))
framed_reader s0 s tx v Yes p = record { shard = p.shard; run = p.run; durable = p.durable; flight = p.flight; is_up = p.is_up; last = p.last; journal = p.journal }
framed_reader s0 s tx v Read p = record { shard = p.shard; run = p.run; durable = p.durable; flight = p.flight; is_up = p.is_up; last = p.last; journal = p.journal }
framed_reader s0 s tx v (No why) p = record { shard = p.shard; run = p.run; durable = p.durable; flight = p.flight; is_up = p.is_up; last = p.last; journal = p.journal }

framed_ruling : (s0 s : Shard) (tx : TxId) (q : Request) (r : Ruling) → Framed s0 s → Framed s0 (do_ruling tx r (with_ruling tx q r s))
framed_ruling s0 s tx q (CommitVerdict parts) p = record { shard = p.shard; run = p.run; durable = p.durable; flight = p.flight; is_up = p.is_up; last = p.last; journal = p.journal }
framed_ruling s0 s tx q Acknowledge p = record { shard = p.shard; run = p.run; durable = p.durable; flight = p.flight; is_up = p.is_up; last = p.last; journal = p.journal }
framed_ruling s0 s tx q (AbortVerdict cause to) p = record { shard = p.shard; run = p.run; durable = p.durable; flight = p.flight; is_up = p.is_up; last = p.last; journal = p.journal }
framed_ruling s0 s tx q EndVerdict p = record { shard = p.shard; run = p.run; durable = p.durable; flight = p.flight; is_up = p.is_up; last = p.last; journal = p.journal }

framed_due : (s0 : Shard) → KeptByDue (Framed s0)
framed_due s0 s _ (commits tx a b) p = record { shard = p.shard; run = p.run; durable = p.durable; flight = p.flight; is_up = p.is_up; last = p.last; journal = p.journal }
framed_due s0 s _ (votes tx v vote a b) p = framed_reader s0 s tx v vote p
framed_due s0 s _ (rules tx q r a b) p = framed_ruling s0 s tx q r p

pub framed_finish : (s : Shard) → Framed s (finish s)
framed_finish s =
    let p = settled (Framed s) s (framed_due s) (framed s) in
    record { shard = p.shard; run = p.run; durable = p.durable; flight = p.flight; is_up = p.is_up; last = p.last; journal = p.journal }

-- a flush's start puts records in flight, no other event does
pub data FlightIs (s t : Shard) : Type 0 where
  as_it_was : t.flight ≡ s.flight → FlightIs s t
  begun : (k : ℕ) → s.flight ≡ None → fitting 1048576 (drop (taken s) s.local.log) ≡ suc k → t.flight ≡ Some (s.durable + suc k) → FlightIs s t

pub record Stepped (s t : Shard) : Type 0 where
  pub shard : t.shard ≡ s.shard
  pub run : t.run ≡ s.run
  pub durable : t.durable ≡ s.durable
  pub last : t.last ≡ s.last
  pub journal : t.journal ≡ s.journal
  pub flight : FlightIs s t

plain : (s t : Shard) → t.shard ≡ s.shard → t.run ≡ s.run → t.durable ≡ s.durable → t.last ≡ s.last → t.journal ≡ s.journal → t.flight ≡ s.flight → Stepped s t
plain s t a b c d e f = record { shard = a; run = b; durable = c; last = d; journal = e; flight = as_it_was f }

pub steps : (s t : Shard) {e : Event} {o : Outcome} → Step s e o t → Stepped s t
steps s t (decision_comes tx home true stamp h) = plain _ _ refl refl refl refl refl refl
steps s t (decision_comes tx home false stamp h) = plain _ _ refl refl refl refl refl refl
steps s t (flushes k g h) = record { shard = refl; run = refl; durable = refl; last = refl; journal = refl; flight = begun k g h refl }
steps s t _ = plain _ _ refl refl refl refl refl refl

flight_on : (s t u : Shard) → FlightIs s t → u.flight ≡ t.flight → FlightIs s u
flight_on s t u (as_it_was e) f = as_it_was (f ∙ e)
flight_on s t u (begun k a b c) f = begun k a b (f ∙ c)

pub happens_steps : (s t : Shard) {e : Event} {o : Outcome} → Happens s e o t → Stepped s t
happens_steps s _ (finishes {t = x} u h) =
    let p = steps s x h in
    let q = framed_finish x in
    record { shard = q.shard ∙ p.shard; run = q.run ∙ p.run; durable = q.durable ∙ p.durable; last = q.last ∙ p.last; journal = q.journal ∙ p.journal; flight = flight_on s x (finish x) p.flight q.flight }
happens_steps s _ (stops u) = plain _ _ refl refl refl refl refl refl

-- ---- what is durable and what is in flight is in the log

pub record Counted (s : Shard) : Type 0 where
  pub within : s.durable ≤ length s.local.log
  pub flying : (n : ℕ) → s.flight ≡ Some n → (s.durable ≤ n) × (n ≤ length s.local.log)

-- a state after another one, whose durable records begin with the other's
pub record Fronts (s t : Shard) : Type 0 where
  pub shard : t.shard ≡ s.shard
  pub run : t.run ≡ s.run
  pub counted : Counted t
  pub front : IsPrefixOf (log_left s false) (log_left t false)

-- a front of a list, and a longer one
take_more_of : {A : Type 0} (m n : ℕ) (xs : List A) → m ≤ n → IsPrefixOf (take m xs) (take n xs)
take_more_of m n xs l = (drop m (take n xs), ap (λ z. z ++ drop m (take n xs)) (sym (take-take m n xs l)) ∙ take-append-drop m (take n xs))

take_of_more : {A : Type 0} (m : ℕ) (xs ys : List A) → m ≤ length xs → IsPrefixOf xs ys → take m ys ≡ take m xs
take_of_more m xs ys l p = ap (take m) (sym p.1) ∙ take-append-le m xs p.0 l

pub fronts_of : {A : Type 0} (m n : ℕ) (xs ys : List A) → m ≤ length xs → m ≤ n → IsPrefixOf xs ys → IsPrefixOf (take m xs) (take n ys)
fronts_of m n xs ys l k p = subst (λ z. IsPrefixOf z (take n ys)) (take_of_more m xs ys l p) (take_more_of m n ys k)

pub grown_length : {A : Type 0} (xs ys : List A) → IsPrefixOf xs ys → length xs ≤ length ys
grown_length xs ys p = let e = ap length p.1 in let f = length-append xs p.0 in omega (arith, e, f)

-- up to where records fly, after an event
flying_after : (s t : Shard) → Counted s → FlightIs s t → length s.local.log ≤ length t.local.log → (n : ℕ) → t.flight ≡ Some n → (s.durable ≤ n) × (n ≤ length t.local.log)
flying_after s t c (as_it_was e) l n f = let p = c.flying n (sym e ∙ f) in (p.0, omega (arith, p.1, l))
flying_after s t c (begun k a b e) l n f =
    let k1 : Some (s.durable + suc k) ≡ Some n = sym e ∙ f in
    let k2 : s.durable + suc k ≡ n = some_same k1 in
    let d0 : taken s ≡ s.durable = ap (λ z. unwrap_or z s.durable) a in
    let d1 = fitting_length 1048576 (drop (taken s) s.local.log) in
    let d2 = length-drop (taken s) s.local.log in
    (omega (arith, k2), omega (arith, k2, d0, d1, d2, b, l, c.within))
  where
    some_same : {x y : ℕ} → Some x ≡ Some y → x ≡ y
    some_same h = cc

fronts_event : (s t : Shard) {e : Event} {o : Outcome} → Counted s → Happens s e o t → IsPrefixOf s.local.log t.local.log → Fronts s t
fronts_event s t c h g =
    let p = happens_steps s t h in
    let l = grown_length s.local.log t.local.log g in
    record {
      shard = p.shard;
      run = p.run;
      counted = record { within = omega (arith, p.durable, c.within, l); flying = λ n f. let q = flying_after s t c p.flight l n f in (omega (arith, q.0, p.durable), q.1) };
      front = fronts_of s.durable t.durable s.local.log t.local.log c.within (omega (arith, p.durable)) g;
    }

-- what a crash leaves begins with what is durable, whatever it keeps
left_by : (s : Shard) (f : Option ℕ) → Counted s → s.flight ≡ f → IsPrefixOf (log_left s false) (take (unwrap_or f s.durable) s.local.log)
left_by s None c e = same (log_left s false)
left_by s (Some n) c e = take_more_of s.durable n s.local.log (c.flying n e).0

pub left_front : (s : Shard) (kept : Bool) → Counted s → IsPrefixOf (log_left s false) (log_left s kept)
left_front s true c = left_by s s.flight c refl
left_front s false c = same (log_left s false)

pub failed_front : (s : Shard) (found left : List LogRecord) → FailedRestarts s found left → IsPrefixOf found left
failed_front s found _ untouched = same found
failed_front s found left (failed_first n f) =
    let more_of = take n (restart_records s.shard found s.run (next_epoch s found)) in chain found (found ++ more_of) left (more found more_of) (failed_front s (found ++ more_of) left f)

pub restarts_front : (s : Shard) (found : List LogRecord) (epoch : ℕ) (after : List LogRecord) → Restarts s found epoch after → IsPrefixOf found after
restarts_front s found epoch after (left, f, e, a) =
    chain found left after (failed_front s found left f) (restart_records s.shard left s.run epoch, sym a)

grown_finish : (s : Shard) → IsPrefixOf s.local.log (finish s).local.log
grown_finish s = grows_settled s

fronts_flush : (s : Shard) (n : ℕ) → Counted s → s.flight ≡ Some n → Fronts s (finish (with_durable n s))
fronts_flush s n c e =
    let u = with_durable n s in
    let p = framed_finish u in
    let g = grown_finish u in
    let q = c.flying n e in
    let l = grown_length s.local.log (finish u).local.log g in
    record {
      shard = p.shard;
      run = p.run;
      counted = record { within = omega (arith, p.durable, q.1, l); flying = λ m f. none_flies m (sym p.flight ∙ f) };
      front = fronts_of s.durable (finish u).durable s.local.log (finish u).local.log c.within (omega (arith, p.durable, q.0)) g;
    }
  where
    none_flies : (m : ℕ) {X : Type 0} → ◌≡◌ {A = Option ℕ} None (Some m) → X
    none_flies m h = cc

fronts_failure : (s : Shard) → Counted s → Fronts s (put_down s)
fronts_failure s c = record { shard = refl; run = refl; counted = record { within = c.within; flying = c.flying }; front = same (log_left s false) }

fronts_restart : (s : Shard) (kept : Bool) (epoch : ℕ) (after : List LogRecord) → Counted s → Restarts s (log_left s kept) epoch after → Fronts s (revived s epoch after)
fronts_restart s kept epoch after c r =
    let g = chain (log_left s false) (log_left s kept) after (left_front s kept c) (restarts_front s (log_left s kept) epoch after r) in
    record {
      shard = refl;
      run = refl;
      counted = record { within = omega arith; flying = λ m f. none_flies m f };
      front = subst (λ z. IsPrefixOf (log_left s false) z) (sym (take_all (length after) after (omega arith))) g;
    }
  where
    none_flies : (m : ℕ) {X : Type 0} → ◌≡◌ {A = Option ℕ} None (Some m) → X
    none_flies m h = cc

fronts_made : (log : List LogRecord) (s t : Shard) {e : Event} {o : Outcome} → Counted s → Makes log s e o t → Fronts s t
fronts_made log s t c (by_event {e = e} {o = o} g h) = fronts_event s t c h (log_only_grows s t e o g)
fronts_made log s _ c (by_flush n u f) = fronts_flush s n c f
fronts_made log s _ c (by_failure n u f) = fronts_failure s c
fronts_made log s _ c (by_restart epoch kept u r) = fronts_restart s kept epoch (up_to_restart s.run epoch log) c r

pub fronts_entry : (log : List LogRecord) (s : Shard) (e : Entry) → Counted s → MayEnter log s e → Fronts s (after_entry log s e)
fronts_entry log s e c m =
    let p = fronts_made log s (event_state log s e.event e.outcome) c (makes log s e.event e.outcome m.event) in
    record { shard = p.shard; run = p.run; counted = record { within = p.counted.within; flying = p.counted.flying }; front = p.front }

pub fronts_entries : (log : List LogRecord) (s : Shard) (es : List Entry) → Counted s → MayRun log s es → Fronts s (after_entries log s es)
fronts_entries log s [] c m = record { shard = refl; run = refl; counted = c; front = same (log_left s false) }
fronts_entries log s (e ∷ es) c m =
    let p = fronts_entry log s e c m.0 in
    let q = fronts_entries log (after_entry log s e) es p.counted m.1 in
    record { shard = q.shard ∙ p.shard; run = q.run ∙ p.run; counted = q.counted; front = chain _ _ _ p.front q.front }

pub opened_counted : (shard run : ℕ) (log : List LogRecord) → Counted (opened shard run log)
opened_counted shard run log = record { within = omega arith; flying = λ m f. none_flies m f }
  where
    none_flies : (m : ℕ) {X : Type 0} → ◌≡◌ {A = Option ℕ} None (Some m) → X
    none_flies m h = cc
