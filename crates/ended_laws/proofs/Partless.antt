-- What transactions work on, and what is due, without the rows of a part that is past.
use Rattle.std.proofs.Common.{◌≡◌, refl, sym, ap, subst, ◌∙◌, ℕ, true, false, cond, Bool, not, ◌&&◌, nat_lt, List, [], ◌∷◌, map, length, Option, Some, None, is_none, unwrap_or}
use Rattle.std.specs.Map.{keys_of}
use Rattle.std.proofs.lemmas.Bool.{both_ways}
use Rattle.clv_base.specs.declared.names.TxId.{TxId}
use Rattle.clv_base.specs.declared.names.Birth.{Birth}
use Rattle.clv_base.specs.declared.ops.Op.{Op}
use Rattle.clv_base.specs.declared.causes.AbortCause.TheVariants.{Died, Restarted}
use Rattle.clv_base.specs.declared.causes.Vote.{Vote}
use Rattle.clv_base.specs.declared.causes.Vote.TheVariants.{Yes, Read, No}
use Rattle.clv_base.specs.declared.messages.Message.TheVariants.{Vote as VoteMessage, Decide}
use Rattle.clv_base.specs.declared.modes.Decision.{Decision}
use Rattle.clv_base.specs.declared.modes.Decision.TheVariants.{Grant, Wait, Die}
use Rattle.clv_base.specs.declared.parts.PartFacts.{PartFacts}
use Rattle.clv_base.specs.declared.state.Stage.{Stage}
use Rattle.clv_base.specs.declared.state.Stage.TheVariants.{Active, Closed, Gone}
use Rattle.clv_base.specs.declared.state.Held.{Held}
use Rattle.clv_base.specs.declared.state.Voter.{Voter}
use Rattle.clv_base.specs.declared.state.Request.{Request}
use Rattle.clv_base.specs.declared.state.Ruling.{Ruling}
use Rattle.clv_base.specs.declared.state.Ruling.TheVariants.{Commit as CommitVerdict, Acknowledge, Abort as AbortVerdict, End as EndVerdict}
use Rattle.clv_base.specs.Orders.{Table, tx_same, tx_in, tx_get}
use Rattle.clv_base.specs.declared.changes.Change.{Change}
use Rattle.clv_base.specs.Logs.{has_standing, undone_lsn, commit_lsn, prepare_lsn}
use Rattle.clv_base.specs.Locks.{decide}
use Rattle.clv_base.specs.State.{Local, Shard, with_local, is_present}
use Rattle.clv_base.specs.Undo.{stage_of, doomed_by, doomed_here, release_parts, undo, gone_part, take_away, roll_back}
use Rattle.clv_base.specs.Facts.{state_by, doom_by, is_restored_by, undecided_of, due_lsn_of, facts_of, has_durable_commit, is_waiting, is_closed_state}
use Rattle.clv_base.specs.Participant.{vote_by, voted}
use Rattle.clv_base.specs.Coordinator.{ruling_by}
use Rattle.clv_base.specs.Needs.{needs_of, writes_of, value_at, key_of, answer_of}
use Rattle.clv_base.specs.OneShard.{OpReply, OpWaits, OpCrowded, OpDies, OpAnswers, written, locked, performed, active_part, new_part, undecided_after, rolled_back_if, without_part, op_granted, op_decided, op_by_stage, op_seen, op_reply, seen_fits, closed_part, close_part, dropped_part, mark_dropped, drop_part, purge}
use Rattle.clv_base.specs.Due.{send, or_else, finish_part, commit_messages, with_commit_done, commit_due, finish_reader, with_vote, give_vote, vote_due, do_ruling, with_ruling, rule, request_due, due_of}
use Rattle.clv_base.specs.Events.{finish}
use Rattle.clv_base.proofs.SameNames.{tx_true}
use Rattle.law_base.proofs.Sets.{Rise, filter_alike}
use Rattle.ended_laws.specs.Requests.{without}
use Rattle.ended_laws.specs.Parts.{forgets_in, forgets_part, owes_none, IsPast}
use Rattle.ended_laws.proofs.Reading.{not_closed}
use Rattle.ended_laws.proofs.Rows.{get_own, get_without, set_without, put_without}
use Rattle.ended_laws.proofs.Forgetting.{Forgets, if_any, done_same}
use Rattle.ended_laws.proofs.Past.{none_owed, due_past}

-- ---- parts

pub map_without : {X : Type 0} (tx : TxId) (f : TxId × X → X) (rows : Table X) → map (λ p. (p.0, f p)) (without tx rows) ≡ without tx (map (λ p. (p.0, f p)) rows)
map_without tx f [] = refl
map_without tx f (r ∷ rs) = at (tx_same tx r.0) (map_without tx f rs)
  where
    at : (b : Bool) → map (λ p. (p.0, f p)) (without tx rs) ≡ without tx (map (λ p. (p.0, f p)) rs)
        → map (λ p. (p.0, f p)) (cond (not b) (r ∷ without tx rs) (without tx rs)) ≡ cond (not b) ((r.0, f r) ∷ without tx (map (λ p. (p.0, f p)) rs)) (without tx (map (λ p. (p.0, f p)) rs))
    at true e = e
    at false e = ap (λ l. (r.0, f r) ∷ l) e

pub same_stage : (l : Local) (tx u : TxId) → tx_same tx u ≡ false → stage_of (forgets_in tx l) u ≡ stage_of l u
same_stage l tx u d = ap (λ o. elim o as (λ z. Option Stage) [ Some h ↦ Some h.stage | None ↦ None ]) (get_without tx u l.parts d)

own_stage : (l : Local) (tx : TxId) → stage_of (forgets_in tx l) tx ≡ None
own_stage l tx = ap (λ o. elim o as (λ z. Option Stage) [ Some h ↦ Some h.stage | None ↦ None ]) (get_own tx l.parts)

-- a test of stages that the one without a part passes as the part that isn't there
by_stages : (l : Local) (tx u : TxId) {X : Type 0} (f : Option Stage → X) → f (stage_of l tx) ≡ f None → f (stage_of (forgets_in tx l) u) ≡ f (stage_of l u)
by_stages l tx u {X} f e = at (tx_same tx u) refl
  where
    at : (b : Bool) → tx_same tx u ≡ b → f (stage_of (forgets_in tx l) u) ≡ f (stage_of l u)
    at false d = ap f (same_stage l tx u d)
    at true d = subst (λ z. f (stage_of (forgets_in tx l) z) ≡ f (stage_of l z)) (tx_true tx u d) (ap f (own_stage l tx) ∙ sym e)

present_same : (l : Local) (tx u : TxId) → is_present (stage_of l tx) ≡ false → is_present (stage_of (forgets_in tx l) u) ≡ is_present (stage_of l u)
present_same l tx u g = by_stages l tx u is_present g

doomed_same : (l : Local) (tx u : TxId) → is_present (stage_of l tx) ≡ false → doomed_here (forgets_in tx l) u ≡ doomed_here l u
doomed_same l tx u g = filter_alike (λ t. is_present (stage_of (forgets_in tx l) t)) (λ t. is_present (stage_of l t)) (doomed_by l u) (λ t. present_same l tx t g)

pub released_same : (l : Local) (tx : TxId) (set : List TxId) (d : Option TxId) → release_parts set d (forgets_in tx l) ≡ forgets_in tx (release_parts set d l)
released_same l tx set d = ap (λ rows. record (release_parts set d l) { parts = rows }) (map_without tx (λ p. cond (tx_in p.0 set) (gone_part d p.1) p.1) l.parts)

pub rolled_same : (l : Local) (tx u : TxId) → is_present (stage_of l tx) ≡ false → roll_back u (forgets_in tx l) ≡ forgets_in tx (roll_back u l)
rolled_same l tx u g = ap (λ set. take_away set u (forgets_in tx l)) (doomed_same l tx u g) ∙ released_same (undo (doomed_here l u) l) tx (doomed_here l u) (Some u)

rolled_if_same : (l : Local) (tx u : TxId) (b : Bool) → is_present (stage_of l tx) ≡ false → rolled_back_if b u (forgets_in tx l) ≡ forgets_in tx (rolled_back_if b u l)
rolled_if_same l tx u true g = rolled_same l tx u g
rolled_if_same l tx u false g = refl

pub without_same : (l : Local) (tx u : TxId) → is_present (stage_of l tx) ≡ false → without_part u (forgets_in tx l) ≡ forgets_in tx (without_part u l)
without_same l tx u g = ap (λ b. rolled_back_if b u (forgets_in tx l)) (present_same l tx u g) ∙ rolled_if_same l tx u (is_present (stage_of l u)) g

pub dropped_same : (l : Local) (tx u : TxId) → is_present (stage_of l tx) ≡ false → drop_part u (forgets_in tx l) ≡ forgets_in tx (drop_part u l)
dropped_same l tx u g =
    ap (mark_dropped u) (without_same l tx u g)
    ∙ ap (λ rows. record (without_part u l) { parts = rows }) (map_without tx (λ p. cond (tx_same u p.0) (dropped_part p.1) p.1) (without_part u l).parts)

pub closed_same : (l : Local) (tx u : TxId) (home : ℕ) (alone : Bool) → close_part u home alone (forgets_in tx l) ≡ forgets_in tx (close_part u home alone l)
closed_same l tx u home alone = ap (λ rows. record (close_part u home alone l) { parts = rows }) (map_without tx (λ p. cond (tx_same u p.0) (closed_part p.1) p.1) l.parts)

-- ---- operations

new_same : (tx u : TxId) (birth : Birth) (o : Option Held) (parts : Table Held) → tx_same tx u ≡ false → Rise (keys_of parts) → new_part u birth o (without tx parts) ≡ without tx (new_part u birth o parts)
new_same tx u birth None parts d h = sym (put_without tx u (active_part birth) parts d h)
new_same tx u birth (Some x) parts d h = refl

locked_same : (l : Local) (tx u : TxId) (birth : Birth) (op : Op) → tx_same tx u ≡ false → Rise (keys_of l.parts) → locked u birth op (forgets_in tx l) ≡ forgets_in tx (locked u birth op l)
locked_same l tx u birth op d h =
    ap (λ rows. record (locked u birth op l) { parts = rows }) (ap (λ o. new_part u birth o (without tx l.parts)) (get_without tx u l.parts d) ∙ new_same tx u birth (tx_get u l.parts) l.parts d h)

written_same : (l : Local) (tx u : TxId) (w : Option (ℕ × Change)) → written u w (forgets_in tx l) ≡ forgets_in tx (written u w l)
written_same l tx u None = refl
written_same l tx u (Some w) = refl

performed_same : (l : Local) (tx u : TxId) (birth : Birth) (op : Op) → tx_same tx u ≡ false → Rise (keys_of l.parts) → performed u birth op (forgets_in tx l) ≡ forgets_in tx (performed u birth op l)
performed_same l tx u birth op d h = ap (written u (writes_of op (value_at (key_of op) l.records))) (locked_same l tx u birth op d h) ∙ written_same (locked u birth op l) tx u (writes_of op (value_at (key_of op) l.records))

abbrev pub partless_reply : TxId → OpReply → OpReply
partless_reply tx (OpWaits y) = OpWaits y
partless_reply tx (OpCrowded n) = OpCrowded n
partless_reply tx (OpDies c l) = OpDies c (forgets_in tx l)
partless_reply tx (OpAnswers a l) = OpAnswers a (forgets_in tx l)

module _ (l : Local) (tx u : TxId) (d : tx_same tx u ≡ false) (g : is_present (stage_of l tx) ≡ false) (h : Rise (keys_of l.parts)) (birth : Birth) (op : Op) where
  granted_same : (b : Bool) → op_granted (forgets_in tx l) u birth op b ≡ partless_reply tx (op_granted l u birth op b)
  granted_same true = refl
  granted_same false = ap (OpAnswers (answer_of op l.records)) (performed_same l tx u birth op d h)

  decided_same : (x : Decision) → op_decided (forgets_in tx l) u birth op x ≡ partless_reply tx (op_decided l u birth op x)
  decided_same (Die older) = ap (OpDies (Died older)) (without_same l tx u g)
  decided_same (Wait younger) = refl
  decided_same Grant = granted_same (nat_lt 1024 (length (undecided_after l u op)))

  by_stage_same : (st : Option Stage) → op_by_stage (forgets_in tx l) u birth op st ≡ partless_reply tx (op_by_stage l u birth op st)
  by_stage_same None = decided_same (decide u birth (needs_of op l.records) l.locks)
  by_stage_same (Some Active) = decided_same (decide u birth (needs_of op l.records) l.locks)
  by_stage_same (Some Closed) = refl
  by_stage_same (Some (Gone None)) = refl
  by_stage_same (Some (Gone (Some x))) = refl

  seen_same : (shard : ℕ) (seen : Option ℕ) (b : Bool) → op_seen shard (forgets_in tx l) u birth seen op b ≡ partless_reply tx (op_seen shard l u birth seen op b)
  seen_same shard seen false = ap (OpDies (Restarted shard (unwrap_or seen 0) l.epoch)) (without_same l tx u g)
  seen_same shard seen true = ap (op_by_stage (forgets_in tx l) u birth op) (same_stage l tx u d) ∙ by_stage_same (stage_of l u)

  pub reply_same : (shard : ℕ) (seen : Option ℕ) → op_reply shard (forgets_in tx l) u birth seen op ≡ partless_reply tx (op_reply shard l u birth seen op)
  reply_same shard seen = seen_same shard seen (seen_fits l.epoch seen)

-- ---- facts

facts_by : Local → ℕ → TxId → Option Held → PartFacts
facts_by l durable u o =
    record {
      state = state_by (elim o as (λ z. Option Stage) [ Some h ↦ Some h.stage | None ↦ None ]);
      now = l.epoch;
      updates = has_standing l.log u;
      restored = is_restored_by o;
      doom = doom_by (elim o as (λ z. Option Stage) [ Some h ↦ Some h.stage | None ↦ None ]);
      prepare = prepare_lsn l.log u;
      commit = commit_lsn l.log u;
      rolled = undone_lsn l.log u;
      undecided = length (undecided_of l u);
      due_lsn = due_lsn_of l u;
      durable = durable;
    }

pub facts_same : (s : Shard) (tx u : TxId) → tx_same tx u ≡ false → facts_of (forgets_part tx s) u ≡ facts_of s u
unfolding facts_by
facts_same s tx u d = ap (facts_by s.local s.durable u) (get_without tx u s.local.parts d)

pub waiting_same : (s : Shard) (tx u : TxId) → is_present (stage_of s.local tx) ≡ false → is_waiting (facts_of (forgets_part tx s) u) ≡ is_waiting (facts_of s u)
waiting_same s tx u g = ap (λ b. b && is_none (commit_lsn s.local.log u)) (by_stages s.local tx u (λ st. is_closed_state (state_by st)) (not_closed (stage_of s.local tx) g))

-- ---- what is due

abbrev Any : TxId → Option Shard → Option Shard
Any tx o = if_any (forgets_part tx) (λ s. IsPast s tx) o

finish_same : (s : Shard) (tx u : TxId) → finish_part u (forgets_part tx s) ≡ forgets_part tx (finish_part u s)
finish_same s tx u = ap (λ m. record s { local = m; voters = without tx s.voters }) (released_same s.local tx (u ∷ []) None)

commit_same : (s : Shard) (tx u : TxId) (st : Option Stage) → tx_same tx u ≡ false → commit_due (forgets_part tx s) u st ≡ Any tx (commit_due s u st)
commit_same s tx u None d = refl
commit_same s tx u (Some Active) d = refl
commit_same s tx u (Some (Gone x)) d = refl
commit_same s tx u (Some Closed) d = at (has_durable_commit (facts_of s u))
  where
    at : (b : Bool) → cond b (Some (with_commit_done (forgets_part tx s) u)) None ≡ Any tx (cond b (Some (with_commit_done s u)) None)
    at true =
        ap (λ o. Some (send (commit_messages s u (tx_get u s.requests) o) (finish_part u (forgets_part tx s)))) (get_without tx u s.voters d)
        ∙ ap (λ t. Some (send (commit_messages s u (tx_get u s.requests) (tx_get u s.voters)) t)) (finish_same s tx u)
    at false = refl

reader_same : (s : Shard) (tx u : TxId) (x : Vote) → finish_reader u x (forgets_part tx s) ≡ forgets_part tx (finish_reader u x s)
reader_same s tx u Yes = refl
reader_same s tx u Read = finish_same s tx u
reader_same s tx u (No why) = refl

give_same : (s : Shard) (tx u : TxId) (v : Voter) (o : Option Vote) → tx_same tx u ≡ false → give_vote (forgets_part tx s) u v o ≡ Any tx (give_vote s u v o)
give_same s tx u v None d = refl
give_same s tx u v (Some x) d =
    ap (λ rows. Some (finish_reader u x (send (VoteMessage v.home u s.shard x ∷ []) (record (with_local (forgets_in tx) s) { voters = rows })))) (sym (set_without tx u (voted x v) s.voters d))
    ∙ ap Some (reader_same (with_vote s u v x) tx u x)

votes_same : (s : Shard) (tx u : TxId) (o : Option Voter) → tx_same tx u ≡ false → vote_due (forgets_part tx s) u o ≡ Any tx (vote_due s u o)
votes_same s tx u None d = refl
votes_same s tx u (Some v) d = ap (λ f. give_vote (forgets_part tx s) u v (vote_by f v)) (facts_same s tx u d) ∙ give_same s tx u v (vote_by (facts_of s u) v) d

do_same : (s : Shard) (tx u : TxId) (r : Ruling) → is_present (stage_of s.local tx) ≡ false → do_ruling u r (forgets_part tx s) ≡ forgets_part tx (do_ruling u r s)
do_same s tx u (CommitVerdict parts) g = refl
do_same s tx u Acknowledge g = finish_same s tx u
do_same s tx u (AbortVerdict c to) g = ap (λ m. send (map (λ p. Decide p u s.shard false) to) (record s { local = m; voters = without tx s.voters })) (rolled_same s.local tx u g)
do_same s tx u EndVerdict g = refl

rule_same : (s : Shard) (tx u : TxId) (q : Request) (o : Option Ruling) → is_present (stage_of s.local tx) ≡ false → rule (forgets_part tx s) u q o ≡ Any tx (rule s u q o)
rule_same s tx u q None g = refl
rule_same s tx u q (Some r) g = ap Some (do_same (with_ruling u q r s) tx u r g)

requests_same : (s : Shard) (tx u : TxId) (o : Option Request) → tx_same tx u ≡ false → is_present (stage_of s.local tx) ≡ false → request_due (forgets_part tx s) u o ≡ Any tx (request_due s u o)
requests_same s tx u None d g = refl
requests_same s tx u (Some q) d g = ap (λ f. rule (forgets_part tx s) u q (ruling_by s.shard u q f)) (facts_same s tx u d) ∙ rule_same s tx u q (ruling_by s.shard u q (facts_of s u)) g

either_any : (tx : TxId) (x y : Option Shard) → or_else (Any tx x) (Any tx y) ≡ Any tx (or_else x y)
either_any tx None y = refl
either_any tx (Some t) y = refl

three : (a b c x y z : Option Shard) → a ≡ x → b ≡ y → c ≡ z → or_else a (or_else b c) ≡ or_else x (or_else y z)
three a b c x y z e f g = cc

other_due : (s : Shard) (tx u : TxId) → IsPast s tx → tx_same tx u ≡ false → due_of (forgets_part tx s) u ≡ Any tx (due_of s u)
other_due s tx u p d =
    let c = commit_due s u (stage_of s.local u) in let v = vote_due s u (tx_get u s.voters) in let r = request_due s u (tx_get u s.requests) in
    three _ _ _ (Any tx c) (Any tx v) (Any tx r)
    (ap (commit_due (forgets_part tx s) u) (same_stage s.local tx u d) ∙ commit_same s tx u (stage_of s.local u) d)
    (ap (vote_due (forgets_part tx s) u) (get_without tx u s.voters d) ∙ votes_same s tx u (tx_get u s.voters) d)
    (requests_same s tx u (tx_get u s.requests) d p.is_gone)
    ∙ ap (or_else (Any tx c)) (either_any tx v r) ∙ either_any tx c (or_else v r)

-- nothing is due for the transaction itself, with the rows or without
absent_none : (s : Shard) (tx : TxId) (st : Option Stage) → is_present st ≡ false → commit_due s tx st ≡ None
absent_none s tx None g = refl
absent_none s tx (Some Active) g = refl
absent_none s tx (Some Closed) g = absurd (both_ways _ g refl)
absent_none s tx (Some (Gone x)) g = refl

owed_none : (s : Shard) (tx : TxId) (o : Option Voter) → owes_none o ≡ true → vote_due s tx o ≡ None
owed_none s tx None h = refl
owed_none s tx (Some v) h = ap (give_vote s tx v) (none_owed (facts_of s tx) (Some v) v refl h)

own_due : (s : Shard) (tx : TxId) → IsPast s tx → due_of s tx ≡ None
own_due s tx p =
    three _ _ _ None None None (absent_none s tx (stage_of s.local tx) p.is_gone) (owed_none s tx (tx_get tx s.voters) p.owes) (ap (request_due s tx) p.no_request)

own_due_forgotten : (s : Shard) (tx : TxId) → IsPast s tx → due_of (forgets_part tx s) tx ≡ None
own_due_forgotten s tx p =
    three _ _ _ None None None (ap (commit_due (forgets_part tx s) tx) (own_stage s.local tx)) (ap (vote_due (forgets_part tx s) tx) (get_own tx s.voters)) (ap (request_due (forgets_part tx s) tx) p.no_request)

due_same : (s : Shard) (tx u : TxId) → IsPast s tx → due_of (forgets_part tx s) u ≡ Any tx (due_of s u)
due_same s tx u p = at (tx_same tx u) refl
  where
    at : (b : Bool) → tx_same tx u ≡ b → due_of (forgets_part tx s) u ≡ Any tx (due_of s u)
    at false d = other_due s tx u p d
    at true d = subst (λ z. due_of (forgets_part tx s) z ≡ Any tx (due_of s z)) (tx_true tx u d) (own_due_forgotten s tx p ∙ sym (ap (Any tx) (own_due s tx p)))

fine : (tx : TxId) → Forgets (forgets_part tx) (λ s. IsPast s tx)
fine tx = record { due_same = λ s u p. due_same s tx u p; stays = due_past tx; rise = λ s p. p.requests_rise; still_rise = λ s p. p.requests_rise }

pub finished_same : (s : Shard) (tx : TxId) → IsPast s tx → finish (forgets_part tx s) ≡ forgets_part tx (finish s)
finished_same s tx p = ap (with_local purge) (done_same (forgets_part tx) (λ z. IsPast z tx) (fine tx) s p)
