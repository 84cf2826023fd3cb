-- What causes stand on after a front of a history: who is gone by an abort ended or went with a set, and each no was taken.
use Rattle.std.proofs.Common.{◌≡◌, ◌⊎◌, inl, inr, refl, sym, ap, subst, ◌∙◌, ℕ, suc, ◌≤◌, ◌<◌, true, List, [], ◌∷◌, ◌++◌, map, Option, Some, None, length, arith, length-append}
use Rattle.std.specs.Prelude.{take}
use Rattle.std.specs.List.{AllByRecursion}
use Rattle.std.proofs.lemmas.List.{take-append-le}
use Rattle.clv_base.specs.declared.names.TxId.{TxId}
use Rattle.clv_base.specs.declared.causes.NoWhy.{NoWhy}
use Rattle.clv_base.specs.declared.causes.AbortCause.{AbortCause}
use Rattle.clv_base.specs.declared.causes.AbortCause.TheVariants.{Predecessor, NoVote}
use Rattle.clv_base.specs.declared.causes.Vote.TheVariants.{Read}
use Rattle.clv_base.specs.declared.logs.LogRecord.{LogRecord}
use Rattle.clv_base.specs.declared.state.Stage.TheVariants.{Closed, Gone}
use Rattle.clv_base.specs.declared.state.Held.{Held}
use Rattle.clv_base.specs.declared.state.Voter.{Voter}
use Rattle.clv_base.specs.declared.state.Request.{Request}
use Rattle.clv_base.specs.declared.state.RequestState.{RequestState}
use Rattle.clv_base.specs.declared.state.RequestState.TheVariants.{Undecided, Committed, Finished, Refused}
use Rattle.clv_base.specs.declared.events.Entry.{Entry}
use Rattle.clv_base.specs.declared.events.Event.{Event}
use Rattle.clv_base.specs.declared.events.Outcome.{Outcome}
use Rattle.clv_base.specs.Orders.{Table, tx_in, tx_get}
use Rattle.clv_base.specs.Logs.{in_doubt}
use Rattle.clv_base.specs.State.{Shard}
use Rattle.clv_base.specs.Undo.{stage_of, doomed_by}
use Rattle.clv_base.specs.Participant.{restored_voter}
use Rattle.clv_base.specs.Coordinator.{others, restored_request}
use Rattle.clv_base.specs.Events.{with_entry}
use Rattle.clv_base.specs.Restarts.{restored_part, homes_of, unended_in, state_after}
use Rattle.clv_base.specs.Journals.{History}
use Rattle.clv_base.specs.History.{no_taken}
use Rattle.protocol_laws.specs.SessionLaws.{tx_of, ended_by}
use Rattle.law_base.proofs.Changed.{none_some, some_same}
use Rattle.law_base.proofs.Rows.{rows_get}
use Rattle.law_base.proofs.Tables.{stage_by}
use Rattle.history_cases.proofs.Merging.{Placed, Among, among_left}
use Rattle.history_cases.proofs.Worlds.{state_at}
use Rattle.fate_laws.proofs.CausesStand.VotersAreParts.{VotesFit, votes_mono}
use Rattle.fate_laws.proofs.CausesStand.GoneEndedOrDoomed.{GoneBy, RefusedFor, StateFits, RowFits, Within}
use Rattle.fate_laws.proofs.CausesStand.EventsEndTheirOwn.{IsCalm}

-- ---- what was told before

-- the transaction died, asked or was dropped, or it is of an earlier run
abbrev pub Ended : ℕ → History → TxId → Type 0
Ended run pre t = ((y : Placed) × Among y pre × (tx_of (y.1).event ≡ Some t) × (ended_by (y.1).event (y.1).outcome ≡ Some t.serial)) ⊎ (t.run < run)

-- the shard took this no of that one
abbrev pub Took : History → ℕ → TxId → ℕ → NoWhy → Type 0
Took pre n t p why = (y : Placed) × Among y pre × (y.0 ≡ n) × (no_taken t (y.1).event (y.1).outcome ≡ Some (p, why))

-- the other's abort began a set that held it, by an entry of the front
abbrev pub Fallen : List (List LogRecord) → List (List LogRecord) → History → ℕ → TxId → TxId → Type 0
Fallen before after pre n t d =
    (k : ℕ) × (suc k ≤ length pre) × (tx_in t (doomed_by (state_at before after n (take k pre)).local d) ≡ true)
    × (stage_of (state_at before after n (take (suc k) pre)).local t ≡ Some (Gone (Some d)))

abbrev pub GoneHow : ℕ → List (List LogRecord) → List (List LogRecord) → History → ℕ → TxId → TxId → Type 0
GoneHow run before after pre n t d = ((t ≡ d) × Ended run pre t) ⊎ ((t ≡ d → ⊥) × Fallen before after pre n t d)

abbrev pub RefusedHow : List (List LogRecord) → List (List LogRecord) → History → ℕ → TxId → AbortCause → Type 0
RefusedHow before after pre n t c = ((p : ℕ) × (why : NoWhy) × (c ≡ NoVote p why) × Took pre n t p why) ⊎ ((d : TxId) × (c ≡ Predecessor d) × (t ≡ d → ⊥) × Fallen before after pre n t d)

abbrev pub StateHow : ℕ → List (List LogRecord) → List (List LogRecord) → History → ℕ → Shard → TxId → RequestState → Type 0
StateHow run before after pre n s t Undecided = Ended run pre t × (stage_of s.local t ≡ Some (Gone (Some t)) → ⊥)
StateHow run before after pre n s t (Committed parts) = Unit {0}
StateHow run before after pre n s t Finished = Unit {0}
StateHow run before after pre n s t (Refused c) = RefusedHow before after pre n t c

pub record RowHow (run : ℕ) (before after : List (List LogRecord)) (pre : History) (n : ℕ) (s : Shard) (t : TxId) (q : Request) : Type 0 where
  pub votes : VotesFit (others s.shard q.touched) (Took pre n t) q.votes
  pub state : StateHow run before after pre n s t q.state

pub record Caused (run : ℕ) (before after : List (List LogRecord)) (pre : History) (n : ℕ) (s : Shard) : Type 0 where
  pub gone : (t d : TxId) → stage_of s.local t ≡ Some (Gone (Some d)) → GoneHow run before after pre n t d
  pub rows : (t : TxId) (q : Request) → tx_get t s.requests ≡ Some q → RowHow run before after pre n s t q
  pub read : (t : TxId) (v : Voter) → tx_get t s.voters ≡ Some v → v.vote ≡ Some Read → stage_of s.local t ≡ Some (Gone None)
  pub calm : IsCalm s

-- ---- one entry more

pub ended_more : (run : ℕ) (pre : History) (e : Placed) (t : TxId) → Ended run pre t → Ended run (pre ++ e ∷ []) t
ended_more run pre e t (inl (y, i, p, q)) = inl (y, among_left y pre (e ∷ []) i, p, q)
ended_more run pre e t (inr o) = inr o

pub took_more : (pre : History) (e : Placed) (n : ℕ) (t : TxId) (p : ℕ) (why : NoWhy) → Took pre n t p why → Took (pre ++ e ∷ []) n t p why
took_more pre e n t p why (y, i, a, b) = (y, among_left y pre (e ∷ []) i, a, b)

longer : (pre : History) (e : Placed) → length (pre ++ e ∷ []) ≡ suc (length pre)
longer pre e = let l = length-append pre (e ∷ []) in omega (arith, l)

pub fallen_more : (before after : List (List LogRecord)) (pre : History) (e : Placed) (n : ℕ) (t d : TxId) → Fallen before after pre n t d → Fallen before after (pre ++ e ∷ []) n t d
fallen_more before after pre e n t d (k, l, i, g) =
    let z = longer pre e in (
      k,
      omega (arith, l, z),
      subst (λ w. tx_in t (doomed_by (state_at before after n w).local d) ≡ true) (sym (take-append-le k pre (e ∷ []) (omega (arith, l)))) i,
      subst (λ w. stage_of (state_at before after n w).local t ≡ Some (Gone (Some d))) (sym (take-append-le (suc k) pre (e ∷ []) l)) g,
    )

gone_more : (run : ℕ) (before after : List (List LogRecord)) (pre : History) (e : Placed) (n : ℕ) (t d : TxId) → GoneHow run before after pre n t d → GoneHow run before after (pre ++ e ∷ []) n t d
gone_more run before after pre e n t d (inl a) = inl (a.0, ended_more run pre e t a.1)
gone_more run before after pre e n t d (inr a) = inr (a.0, fallen_more before after pre e n t d a.1)

refused_more : (before after : List (List LogRecord)) (pre : History) (e : Placed) (n : ℕ) (t : TxId) (c : AbortCause) → RefusedHow before after pre n t c → RefusedHow before after (pre ++ e ∷ []) n t c
refused_more before after pre e n t c (inl (p, why, q, k)) = inl (p, why, q, took_more pre e n t p why k)
refused_more before after pre e n t c (inr (d, q, a, k)) = inr (d, q, a, fallen_more before after pre e n t d k)

state_more : (run : ℕ) (before after : List (List LogRecord)) (pre : History) (e : Placed) (n : ℕ) (s : Shard) (t : TxId) (st : RequestState) → StateHow run before after pre n s t st → StateHow run before after (pre ++ e ∷ []) n s t st
state_more run before after pre e n s t Undecided k = (ended_more run pre e t k.0, k.1)
state_more run before after pre e n s t (Committed parts) k = tt
state_more run before after pre e n s t Finished k = tt
state_more run before after pre e n s t (Refused c) k = refused_more before after pre e n t c k

-- another shard's entry
pub caused_other : (run : ℕ) (before after : List (List LogRecord)) (pre : History) (e : Placed) (n : ℕ) (s : Shard) → Caused run before after pre n s → Caused run before after (pre ++ e ∷ []) n s
caused_other run before after pre e n s k = record {
  gone = λ t d g. gone_more run before after pre e n t d (k.gone t d g);
  rows = λ t q g. row t q (k.rows t q g);
  read = k.read;
  calm = k.calm;
}
  where
    row : (t : TxId) (q : Request) → RowHow run before after pre n s t q → RowHow run before after (pre ++ e ∷ []) n s t q
    row t q r = record { votes = votes_mono (others s.shard q.touched) (Took pre n t) (Took (pre ++ e ∷ []) n t) q.votes (took_more pre e n t) r.votes; state = state_more run before after pre e n s t q.state r.state }

-- ---- into an entry and out of it

-- who is told, from the front and the entry
abbrev pub AtEntry : ℕ → List (List LogRecord) → List (List LogRecord) → History → Placed → Shard → Shard → Type 0
AtEntry run before after pre e s t = Within (Ended run (pre ++ e ∷ [])) (Took (pre ++ e ∷ []) e.0) (Fallen before after (pre ++ e ∷ []) e.0) s t

pub enters : (run : ℕ) (before after : List (List LogRecord)) (pre : History) (e : Placed) (s : Shard) → Caused run before after pre e.0 s → AtEntry run before after pre e s s
enters run before after pre e s k = record {
  linked = inl (λ a b x. x);
  gone = λ t d g. inl g;
  rows = λ t q g. row t q (k.rows t q g);
  read = k.read;
}
  where
    new : History
    new = pre ++ e ∷ []

    state : (t : TxId) (st : RequestState) → StateHow run before after pre e.0 s t st → StateFits (Ended run new) (Took new e.0) (Fallen before after new e.0) s t st
    state t Undecided h = (ended_more run pre e t h.0, h.1)
    state t (Committed parts) h = tt
    state t Finished h = tt
    state t (Refused c) (inl (p, why, q, w)) = inl (p, why, q, took_more pre e e.0 t p why w)
    state t (Refused c) (inr (d, q, a, w)) = inr (d, q, a, inl (fallen_more before after pre e e.0 t d w))

    row : (t : TxId) (q : Request) → RowHow run before after pre e.0 s t q → RowFits (Ended run new) (Took new e.0) (Fallen before after new e.0) s t q
    row t q r = record { votes = votes_mono (others s.shard q.touched) (Took pre e.0 t) (Took new e.0 t) q.votes (took_more pre e e.0 t) r.votes; state = state t q.state r.state }

take_own : (pre : History) (e : Placed) → take (length pre) (pre ++ e ∷ []) ≡ pre
take_own [] e = refl
take_own (x ∷ xs) e = ap (λ z. x ∷ z) (take_own xs e)

take_more : (pre : History) (e : Placed) → take (suc (length pre)) (pre ++ e ∷ []) ≡ pre ++ e ∷ []
take_more [] e = refl
take_more (x ∷ xs) e = ap (λ z. x ∷ z) (take_more xs e)

-- the shard after the entry is this one, with the entry noted
pub leaves : (run : ℕ) (before after : List (List LogRecord)) (pre : History) (e : Placed) (u : Shard) (stamp walker : ℕ) (ev : Event) (o : Outcome) → state_at before after e.0 (pre ++ e ∷ []) ≡ with_entry stamp walker ev o u → Caused run before after pre e.0 (state_at before after e.0 pre)
    → IsCalm u → AtEntry run before after pre e (state_at before after e.0 pre) u → Caused run before after (pre ++ e ∷ []) e.0 (with_entry stamp walker ev o u)
leaves run before after pre e u stamp walker ev o q k c w = record {
  gone = λ t d g. how t d g (w.gone t d g);
  rows = λ t r g. row t r (w.rows t r g);
  read = w.read;
  calm = c;
}
  where
    new : History
    new = pre ++ e ∷ []

    now : (t d : TxId) → stage_of u.local t ≡ Some (Gone (Some d)) → tx_in t (doomed_by (state_at before after e.0 pre).local d) ≡ true → Fallen before after new e.0 t d
    now t d g i =
        let z = longer pre e in (
          length pre,
          omega (arith, z),
          subst (λ h. tx_in t (doomed_by (state_at before after e.0 h).local d) ≡ true) (sym (take_own pre e)) i,
          subst (λ h. stage_of (state_at before after e.0 h).local t ≡ Some (Gone (Some d))) (sym (take_more pre e)) (subst (λ s. stage_of s.local t ≡ Some (Gone (Some d))) (sym q) g),
        )

    how : (t d : TxId) → stage_of u.local t ≡ Some (Gone (Some d)) → GoneBy (Ended run new) (state_at before after e.0 pre) t d → GoneHow run before after new e.0 t d
    how t d g (inl x) = gone_more run before after pre e e.0 t d (k.gone t d x)
    how t d g (inr (inl x)) = inl x
    how t d g (inr (inr x)) = inr (x.0, now t d g x.1)

    fallen : (t d : TxId) → (t ≡ d → ⊥) → GoneHow run before after new e.0 t d → Fallen before after new e.0 t d
    fallen t d a (inl x) = absurd (a x.0)
    fallen t d a (inr x) = x.1

    refused : (t : TxId) (x : AbortCause) → RefusedFor (Took new e.0) (Fallen before after new e.0) u t x → RefusedHow before after new e.0 t x
    refused t x (inl y) = inl y
    refused t x (inr (d, y, a, inl z)) = inr (d, y, a, z)
    refused t x (inr (d, y, a, inr z)) = inr (d, y, a, fallen t d a (how t d z (w.gone t d z)))

    state : (t : TxId) (st : RequestState) → StateFits (Ended run new) (Took new e.0) (Fallen before after new e.0) u t st → StateHow run before after new e.0 (with_entry stamp walker ev o u) t st
    state t Undecided h = h
    state t (Committed parts) h = tt
    state t Finished h = tt
    state t (Refused x) h = refused t x h

    row : (t : TxId) (r : Request) → RowFits (Ended run new) (Took new e.0) (Fallen before after new e.0) u t r → RowHow run before after new e.0 (with_entry stamp walker ev o u) t r
    row t r f = record { votes = f.votes; state = state t r.state f.state }

-- ---- a shard as a restart leaves it

abbrev IsRestored : Request → Type 0
IsRestored q = (q.votes ≡ []) × ((parts : List ℕ) × (q.state ≡ Committed parts))

restored_rows : (us : Table (List ℕ)) → AllByRecursion (λ (r : TxId × Request). IsRestored r.1) (map (λ p. (p.0, restored_request p.1)) us)
restored_rows [] = tt
restored_rows (u ∷ us) = ((refl, (u.1, refl)), restored_rows us)

restored_votes : (hs : Table ℕ) → AllByRecursion (λ (r : TxId × Voter). (r.1).vote ≡ None) (map (λ p. (p.0, restored_voter p.1)) hs)
restored_votes [] = tt
restored_votes (h ∷ hs) = (refl, restored_votes hs)

restored_closed : (ts : List TxId) → AllByRecursion (λ (r : TxId × Held). (r.1).stage ≡ Closed) (map (λ t. (t, restored_part t)) ts)
restored_closed [] = tt
restored_closed (t ∷ ts) = (refl, restored_closed ts)

pub caused_restored : (run : ℕ) (before after : List (List LogRecord)) (pre : History) (n shard r epoch last : ℕ) (log : List LogRecord) (journal : List Entry) → Caused run before after pre n (state_after shard r epoch log last journal)
caused_restored run before after pre n shard r epoch last log journal = record {
  gone = λ t d g. absurd (no_doom t d g);
  rows = λ t q g. row t q (restored t q g);
  read = λ t v g e. absurd (none_some Read (sym (rows_get (λ x. (x.1).vote ≡ None) t v s.voters (restored_votes (homes_of log (in_doubt shard log))) g) ∙ e));
  calm = λ t q g e. absurd (decided q (restored t q g) e);
}
  where
    s : Shard
    s = state_after shard r epoch log last journal

    restored : (t : TxId) (q : Request) → tx_get t s.requests ≡ Some q → IsRestored q
    restored t q g = rows_get (λ x. IsRestored x.1) t q s.requests (restored_rows (unended_in log log)) g

    decided : (q : Request) → IsRestored q → q.state ≡ Undecided → ⊥
    decided q (v, (ps, f)) e = absurd (differ (sym f ∙ e))
      where
        differ : Committed ps ≡ Undecided → ⊥
        differ z = absurd cc

    no_doom : (t d : TxId) → stage_of s.local t ≡ Some (Gone (Some d)) → ⊥
    no_doom t d g = at (tx_get t s.local.parts) refl g
      where
        at : (o : Option Held) → tx_get t s.local.parts ≡ o → stage_by o ≡ Some (Gone (Some d)) → ⊥
        at None e f = none_some (Gone (Some d)) f
        at (Some h) e f = differ (sym (rows_get (λ x. (x.1).stage ≡ Closed) t h s.local.parts (restored_closed (in_doubt shard log)) e) ∙ some_same h.stage (Gone (Some d)) f)
          where
            differ : Closed ≡ Gone (Some d) → ⊥
            differ z = absurd cc

    row : (t : TxId) (q : Request) → IsRestored q → RowHow run before after pre n s t q
    row t q (v, (ps, f)) = record {
      votes = subst (λ z. VotesFit (others s.shard q.touched) (Took pre n t) z) (sym v) tt;
      state = subst (StateHow run before after pre n s t) (sym f) tt;
    }
