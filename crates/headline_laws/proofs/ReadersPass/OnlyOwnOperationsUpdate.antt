-- Nothing but its own operations gives a transaction an UPDATE or ADD: so while it does none, and no write of it stands in what is durable and
-- behind, none will, and it gets no ABORT.
use Rattle.std.proofs.Common.{◌≡◌, ◌⊎◌, inl, inr, refl, sym, ap, subst, ℕ, ◌≤◌, true, false, Bool, List, [], ◌∷◌, ◌++◌, Option, Some, None, length, append_assoc, arith}
use Rattle.std.specs.Prelude.{take, unwrap_or}
use Rattle.std.proofs.lemmas.Bool.{both_ways, or_from, false_from_ne_true}
use Rattle.clv_base.specs.declared.names.TxId.{TxId}
use Rattle.clv_base.specs.declared.names.Birth.{Birth}
use Rattle.clv_base.specs.declared.ops.Op.{Op}
use Rattle.clv_base.specs.declared.ops.Answer.{Answer}
use Rattle.clv_base.specs.declared.causes.AbortCause.{AbortCause}
use Rattle.clv_base.specs.declared.causes.Vote.TheVariants.{Yes, Read, No}
use Rattle.clv_base.specs.declared.changes.Change.{Change}
use Rattle.clv_base.specs.declared.changes.Change.TheVariants.{Sets, Adds}
use Rattle.clv_base.specs.declared.logs.LogRecord.{LogRecord}
use Rattle.clv_base.specs.declared.logs.LogRecord.TheVariants.{Commit, End}
use Rattle.clv_base.specs.declared.events.Event.{Event}
use Rattle.clv_base.specs.declared.events.Event.TheVariants.{Op as OpEvent, Restart}
use Rattle.clv_base.specs.declared.events.Outcome.{Outcome}
use Rattle.clv_base.specs.declared.state.Ruling.TheVariants.{Commit as CommitVerdict, Acknowledge, Abort as AbortVerdict, End as EndVerdict}
use Rattle.clv_base.specs.Backs.{standing_numbers, count_after}
use Rattle.clv_base.specs.Logs.{wrote_in, aborted_in, has_standing, standing}
use Rattle.clv_base.specs.State.{Shard, Local, is_present}
use Rattle.clv_base.specs.Undo.{stage_of, aborts_of, clrs_by, clrs_of, doomed_here, roll_back, roll_to, newest_lsns, is_at}
use Rattle.clv_base.specs.Facts.{undecided_of}
use Rattle.clv_base.specs.Coordinator.{others}
use Rattle.clv_base.specs.Needs.{writes_of, value_at, key_of}
use Rattle.clv_base.specs.OneShard.{OpDies, OpAnswers, update_of, written, locked, rolled_back_if, drop_part, closing}
use Rattle.clv_base.specs.Events.{finish, is_alone, with_durable}
use Rattle.clv_base.specs.Restarts.{log_left}
use Rattle.clv_base.specs.Journals.{up_to_restart}
use Rattle.clv_base.proofs.SameNames.{tx_ne}
use Rattle.law_base.proofs.Logs.{clrs_undo_by}
use Rattle.shard_laws.proofs.Keeping.RecordsOfAnUndo.{no_writes, undo_writes}
use Rattle.clv_base.specs.LogRules.{disorder}
use Rattle.history_cases.proofs.Durability.{Counted, framed_finish, steps}
use Rattle.history_cases.proofs.Stepping.{Due, commits, votes, rules, settled, Step, op_dies, op_answers, rolls_back, request_closes, drops, prepare_closes, decision_comes, finishes, stops}
use Rattle.history_cases.proofs.Entering.{Makes, by_event, by_flush, by_failure, by_restart}
use Rattle.history_laws.proofs.Entries.WhatOperationsDo.{OpIs, dies, rolls, performs, reply_is}
use Rattle.fate_laws.proofs.Homes.ShardKnowsHomes.{still_not}
use Rattle.fate_laws.proofs.Parts.BoundStaysBound.{NotOwn}
use Rattle.headline_laws.proofs.ReadersPass.FrontsWithoutWrites.{NoneStandsFrom, none_all, none_on, GoesOnWithout, same_on, then_on, stood_on, unaborted_on, restarts_on}
use Rattle.headline_laws.proofs.GoneAreLost.WhyPreparedOnesGo.{aborted_take}

-- ---- records that are no UPDATEs

rolled : (t tx : TxId) (l : Local) → GoesOnWithout t l.log (roll_back tx l).log
rolled t tx l =
    let set = doomed_here l tx in
    (aborts_of l.log set ++ clrs_of set (standing l.log), sym (append_assoc l.log (aborts_of l.log set) (clrs_of set (standing l.log))), no_writes set t l.log)

rolled_if : (b : Bool) (t tx : TxId) (l : Local) → GoesOnWithout t l.log (rolled_back_if b tx l).log
rolled_if true t tx l = rolled t tx l
rolled_if false t tx l = same_on t l.log

dropped : (t tx : TxId) (l : Local) → GoesOnWithout t l.log (drop_part tx l).log
dropped t tx l = rolled_if (is_present (stage_of l tx)) t tx l

back : (t tx : TxId) (n : ℕ) (l : Local) → GoesOnWithout t l.log (roll_to tx n l).log
back t tx n l =
    let gone = is_at (newest_lsns n tx (standing l.log)) in (clrs_by gone (standing l.log), refl, undo_writes t (clrs_by gone (standing l.log)) (clrs_undo_by gone (standing l.log)))

closed : (b one : Bool) (t tx : TxId) (home : ℕ) (us : List TxId) → wrote_in (closing b one tx home us) t ≡ false
closed false one t tx home us = refl
closed true true t tx home [] = refl
closed true true t tx home (v ∷ vs) = refl
closed true false t tx home us = refl

-- ---- what is due

pub due_on : (s x : Shard) (t : TxId) → Due s (Some x) → GoesOnWithout t s.local.log x.local.log
due_on s _ t (commits u a b) = same_on t s.local.log
due_on s _ t (votes u v Yes a b) = same_on t s.local.log
due_on s _ t (votes u v Read a b) = same_on t s.local.log
due_on s _ t (votes u v (No why) a b) = same_on t s.local.log
due_on s _ t (rules u q (CommitVerdict parts) a b) = (Commit u parts ∷ [], refl, refl)
due_on s _ t (rules u q Acknowledge a b) = same_on t s.local.log
due_on s _ t (rules u q (AbortVerdict cause to) a b) = rolled t u s.local
due_on s _ t (rules u q EndVerdict a b) = (End u ∷ [], refl, refl)

finish_on : (x : Shard) (t : TxId) → GoesOnWithout t x.local.log (finish x).local.log
finish_on x t = settled (λ z. GoesOnWithout t x.local.log z.local.log) x (λ a b d k. then_on t x.local.log a.local.log b.local.log k (due_on a b t d)) (same_on t x.local.log)

-- ---- what an event does first

died_on : (l m : Local) (t u : TxId) (birth : Birth) (seen : Option ℕ) (op : Op) (c : AbortCause) → OpIs l u birth seen op (OpDies c m) → GoesOnWithout t l.log m.log
died_on l _ t u birth seen op c dies = same_on t l.log
died_on l _ t u birth seen op c rolls = rolled t u l

written_on : (t u : TxId) (w : Option (ℕ × Change)) (l : Local) → (t ≡ u → ⊥) → GoesOnWithout t l.log (written u w l).log
written_on t u None l n = same_on t l.log
written_on t u (Some (key, change)) l n = (update_of u key change ∷ [], refl, own change)
  where
    own : (c : Change) → wrote_in (update_of u key c ∷ []) t ≡ false
    own (Sets before after) = or_from _ _ (tx_ne t u n) refl
    own (Adds by) = or_from _ _ (tx_ne t u n) refl

answered_on : (l m : Local) (t u : TxId) (birth : Birth) (seen : Option ℕ) (op : Op) (a : Answer) → OpIs l u birth seen op (OpAnswers a m) → (t ≡ u → ⊥) → GoesOnWithout t l.log m.log
answered_on l _ t u birth seen op _ (performs f e) n = written_on t u (writes_of op (value_at (key_of op) l.records)) (locked u birth op l) n

step_on : (s x : Shard) {e : Event} {o : Outcome} (t : TxId) → Step s e o x → NotOwn t e → GoesOnWithout t s.local.log x.local.log
step_on s _ t (op_dies u birth nth seen op cause l g) n = died_on s.local l t u birth seen op cause (reply_is s.shard s.local u birth seen op _ g)
step_on s _ t (op_answers u birth nth seen op answer l g) n = answered_on s.local l t u birth seen op answer (reply_is s.shard s.local u birth seen op _ g) (λ q. n birth nth seen op (ap (λ v. OpEvent v birth nth seen op) (sym q)))
step_on s _ t (rolls_back u nth seen upto f g) n = back t u (count_after upto (standing_numbers u s.journal)) s.local
step_on s _ t (request_closes u ts f0 g) n =
    let one = is_alone (others s.shard ts) in (closing (has_standing s.local.log u) one u s.shard (undecided_of s.local u), refl, closed (has_standing s.local.log u) one t u s.shard (undecided_of s.local u))
step_on s _ t (drops u stage g) n = dropped t u s.local
step_on s _ t (prepare_closes u home seen stamp g) n = (closing (has_standing s.local.log u) false u home (undecided_of s.local u), refl, closed (has_standing s.local.log u) false t u home (undecided_of s.local u))
step_on s _ t (decision_comes u home true stamp g) n = (Commit u [] ∷ [], refl, refl)
step_on s _ t (decision_comes u home false stamp g) n = rolled t u s.local
step_on s _ t _ n = same_on t s.local.log

-- ---- an entry

-- whatever a crash keeps
pub none_left : (s : Shard) (t : TxId) (kept : Bool) → Counted s → NoneStandsFrom s.durable s.local.log t → has_standing (log_left s kept) t ≡ false
none_left s t false c a = a s.durable (omega arith)
none_left s t true c a = at s.flight refl
  where
    at : (f : Option ℕ) → s.flight ≡ f → has_standing (take (unwrap_or f s.durable) s.local.log) t ≡ false
    at None e = a s.durable (omega arith)
    at (Some n) e = a n (c.flying n e).0

-- the log goes on from the one before, or a restart's from what a crash left, which all is durable then
abbrev pub Goes : TxId → Shard → Shard → Event → Type 0
Goes t s x e = (GoesOnWithout t s.local.log x.local.log × (s.durable ≤ x.durable)) ⊎ ((kept : Bool) × GoesOnWithout t (log_left s kept) x.local.log × (x.durable ≡ length x.local.log) × (e ≡ Restart))

goes_finish : (s x : Shard) (e : Event) (t : TxId) → s.durable ≤ x.durable → GoesOnWithout t s.local.log x.local.log → Goes t s (finish x) e
goes_finish s x e t d g = inl (then_on t s.local.log x.local.log (finish x).local.log g (finish_on x t), (let a = (framed_finish x).durable in omega (arith, a, d)))

pub made_on : (log : List LogRecord) (s x : Shard) {e : Event} {o : Outcome} (t : TxId) → Makes log s e o x → NotOwn t e → Counted s → Goes t s x e
made_on log s _ {e} t (by_event g (finishes {t = x} u h)) n c = goes_finish s x e t (let a = (steps s x h).durable in omega (arith, a)) (step_on s x t h n)
made_on log s _ t (by_event g (stops u)) n c = inl (same_on t s.local.log, omega arith)
made_on log s _ {e} t (by_flush m u f) n c = goes_finish s (with_durable m s) e t (c.flying m f).0 (same_on t s.local.log)
made_on log s _ t (by_failure m u f) n c = inl (same_on t s.local.log, omega arith)
made_on log s _ t (by_restart epoch kept u r) n c = inr (kept, restarts_on s (log_left s kept) epoch (up_to_restart s.run epoch log) t r, refl, refl)

-- of whom no write stands in what is durable and behind
pub none_made : (s x : Shard) (t : TxId) (e : Event) → Goes t s x e → Counted s → NoneStandsFrom s.durable s.local.log t → NoneStandsFrom x.durable x.local.log t
none_made s x t e (inl (g, d)) c a = λ k l. none_on s.durable t s.local.log x.local.log g a k (omega (arith, d, l))
none_made s x t e (inr (kept, g, d, r)) c a = subst (λ n. NoneStandsFrom n x.local.log t) (sym d) (none_all x.local.log t (still_not _ _ (stood_on t (log_left s kept) x.local.log g) (none_left s t kept c a)))

-- and who isn't aborted, where the log after the entry is in order
pub unaborted_made : (shard : ℕ) (s x : Shard) (t : TxId) (e : Event) → Goes t s x e → ((e ≡ Restart) → (kept : Bool) → has_standing (log_left s kept) t ≡ false) → has_standing s.local.log t ≡ false → disorder shard x.local.log ≡ None → aborted_in s.local.log t ≡ false
    → aborted_in x.local.log t ≡ false
unaborted_made shard s x t e (inl (g, d)) left n f u = unaborted_on shard s.local.log x.local.log t g f n u
unaborted_made shard s x t e (inr (kept, g, d, r)) left n f u =
    unaborted_on shard (log_left s kept) x.local.log t g f (left r kept) (false_from_ne_true _ (λ a. both_ways _ u (aborted_take _ s.local.log t a)))
