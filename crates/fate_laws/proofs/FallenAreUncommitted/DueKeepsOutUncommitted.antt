-- What is due keeps that who is out is never committed.
use Rattle.std.proofs.Common.{◌≡◌, ◌⊎◌, inl, inr, ⊎_elim, refl, sym, ap, subst, ◌∙◌, ℕ, true, false, cond, map, Bool, ◌&&◌, ◌==◌, List, [], ◌∷◌, ◌++◌, Option, Some, None}
use Rattle.std.specs.List.{filter, list_all, list_any}
use Rattle.std.proofs.lemmas.Bool.{both_ways, and_parts, false_from_ne_true}
use Rattle.clv_base.specs.declared.names.TxId.{TxId}
use Rattle.clv_base.specs.declared.logs.LogRecord.{LogRecord}
use Rattle.clv_base.specs.declared.causes.AbortCause.{AbortCause}
use Rattle.clv_base.specs.declared.causes.Vote.{Vote}
use Rattle.clv_base.specs.declared.causes.Vote.TheVariants.{Yes, Read, No}
use Rattle.clv_base.specs.declared.logs.LogRecord.TheVariants.{Commit, Abort, End}
use Rattle.clv_base.specs.declared.parts.PartFacts.{PartFacts}
use Rattle.clv_base.specs.declared.state.Voter.{Voter}
use Rattle.clv_base.specs.declared.state.Request.{Request}
use Rattle.clv_base.specs.declared.state.RequestState.{RequestState}
use Rattle.clv_base.specs.declared.state.RequestState.TheVariants.{Undecided, Committed, Finished, Refused}
use Rattle.clv_base.specs.declared.state.Ruling.{Ruling}
use Rattle.clv_base.specs.declared.state.Ruling.TheVariants.{Commit as CommitVerdict, Acknowledge, Abort as AbortVerdict, End as EndVerdict}
use Rattle.clv_base.specs.declared.state.Stage.TheVariants.{Active, Closed}
use Rattle.clv_base.specs.Orders.{Table, tx_same, tx_get, tx_set}
use Rattle.clv_base.specs.Logs.{StandingUpdate, standing, has_standing, committed_in, prepared_in, prepare_of, is_undo_of}
use Rattle.clv_base.specs.State.{Shard, Local, is_present}
use Rattle.clv_base.specs.Undo.{stage_of, gone_in, pairs_without, doomed_here, roll_back, aborts_of, clrs_by, clrs_of, is_of, is_at, newest_lsns, roll_to}
use Rattle.clv_base.specs.Facts.{facts_of, is_waiting}
use Rattle.clv_base.specs.Participant.{vote_by, voted}
use Rattle.clv_base.specs.Coordinator.{others, vote_from, is_good, yes_shards, agreed_ruling, is_agreed, undecided_ruling, refusal, ruling_in, ruled_request}
use Rattle.clv_base.specs.Due.{finish_reader, with_vote, do_ruling, with_ruling, with_due_done, with_commit_done}
use Rattle.clv_base.specs.Events.{finish}
use Rattle.clv_base.proofs.SameNames.{tx_true}
use Rattle.law_base.proofs.Changed.{none_some, some_same, get_set}
use Rattle.law_base.proofs.Commits.{durable_committed}
use Rattle.history_laws.proofs.NeverTakenBack.LaterHistoriesHoldMembers.{committed_front}
use Rattle.history_cases.proofs.Stepping.{Due, commits, votes, rules, KeptByDue, settled}
use Rattle.history_cases.proofs.Uncommitting.{rolled as rolled_commits, with_more}
use Rattle.shard_laws.proofs.Events.DueKeeps.{waiting_here}
use Rattle.shard_laws.proofs.Order.ChangesKeepOrder.{prepare_some}
use Rattle.shard_laws.proofs.Keeping.RecordsOfAnUndo.{undo_prepares, undo_writes}
use Rattle.shard_laws.proofs.Order.WhoseWritesStand.{has_still}
use Rattle.law_base.proofs.Logs.{aborts_undo, clrs_undo_by}
use Rattle.law_base.proofs.Standing.{stood_before}
use Rattle.fate_laws.proofs.Logs.PreparedWritesStand.{rolled_stands, back_stands}
use Rattle.fate_laws.proofs.Homes.ShardKnowsHomes.{set_there, new_commit}
use Rattle.fate_laws.proofs.Logs.LogOnlyGrows.{inside_self, inside_due}
use Rattle.fate_laws.proofs.Parts.CommittedAreVotedFor.{commit_agreed, abort_undecided}
use Rattle.fate_laws.proofs.Parts.YesVotesArePrepared.{VoteIs, kept, yes, read, no, vote_is}
use Rattle.fate_laws.proofs.Parts.OthersCloseOrGo.{calm_one, due_prepares, was_there}
use Rattle.fate_laws.proofs.CommitsGoDownwards.{down_due}
use Rattle.fate_laws.proofs.FallenAreUncommitted.RulingsThatEndNothing.{ack_refused, ack_end}
use Rattle.fate_laws.proofs.FallenAreUncommitted.PreparesListEarlierOnes.{aborts_ahead, clrs_ahead}
use Rattle.fate_laws.proofs.FallenAreUncommitted.PreparedPairsAreListed.{Lined, Plainly, lined_more, lined_gone}
use Rattle.fate_laws.proofs.FallenAreUncommitted.OutIsLost.{Absent, Out, Lost, Barred, Change, barred_next, rolled_goes, finished_goes}
use Rattle.protocol_laws.proofs.LogsInOrder.OneRecordMore.{prepared_there}

-- ---- who only read rules no COMMIT

ack_agreed : (f : PartFacts) (u : Bool) (ys : List ℕ) → agreed_ruling f u ys ≡ Some Acknowledge → u ≡ false
ack_agreed f u (y ∷ ys) e = absurd cc
ack_agreed f true [] e = absurd cc
ack_agreed f false [] e = refl

ack_undecided : (shard : ℕ) (tx : TxId) (q : Request) (f : PartFacts) (b : Bool) → is_agreed shard q f ≡ b → undecided_ruling shard tx q f b ≡ Some Acknowledge → (f.updates ≡ false) × (is_agreed shard q f ≡ true)
ack_undecided shard tx q f true a e = (ack_agreed f f.updates (yes_shards shard q) e, a)
ack_undecided shard tx q f false a e = absurd (ack_refused shard q (refusal tx q f) e)

ack_in : (shard : ℕ) (tx : TxId) (q : Request) (f : PartFacts) (st : RequestState) → ruling_in shard tx q f st ≡ Some Acknowledge → (f.updates ≡ false) × (is_agreed shard q f ≡ true)
ack_in shard tx q f Undecided e = ack_undecided shard tx q f (is_agreed shard q f) refl e
ack_in shard tx q f (Committed parts) e = absurd (ack_end q parts e)
ack_in shard tx q f Finished e = absurd (none_some Acknowledge e)
ack_in shard tx q f (Refused c) e = absurd (none_some Acknowledge e)

agreed_closed : (s : Shard) (u : TxId) (q : Request) → is_agreed s.shard q (facts_of s u) ≡ true → stage_of s.local u ≡ Some Closed
agreed_closed s u q a =
    let f = facts_of s u in
    (waiting_here s u (and_parts (is_waiting f) (f.undecided == 0) (and_parts (is_waiting f && (f.undecided == 0)) (list_all (λ p. is_good (vote_from p q.votes)) (others s.shard q.touched)) a).0).0).0

-- ---- records at the end of the log that are no PREPARE and no UPDATE

pub plain_commit : (part : List LogRecord) (l : Local) (tx : TxId) (parts : List ℕ) → Plainly part l (Commit tx parts ∷ [])
plain_commit part l tx parts = record { prepares = λ t. refl; updates = λ t. refl; keeps = λ t c h. has_still l.log (Commit tx parts ∷ []) t refl h; ahead = (tt, tt) }

pub plain_end : (part : List LogRecord) (l : Local) (tx : TxId) → Plainly part l (End tx ∷ [])
plain_end part l tx = record { prepares = λ t. refl; updates = λ t. refl; keeps = λ t c h. has_still l.log (End tx ∷ []) t refl h; ahead = (tt, tt) }

no_undo_aborts : (ts : List TxId) (t : TxId) → list_any (is_undo_of t) (map (λ u. Abort u) ts) ≡ false
no_undo_aborts [] t = refl
no_undo_aborts (u ∷ us) t = no_undo_aborts us t

plain_aborts : (part : List LogRecord) (l : Local) (ts : List TxId) → Plainly part l (map (λ u. Abort u) ts)
plain_aborts part l ts = record {
  prepares = λ t. undo_prepares t _ (aborts_undo ts);
  updates = λ t. undo_writes t _ (aborts_undo ts);
  keeps = λ t c h. has_still l.log (map (λ u. Abort u) ts) t (no_undo_aborts ts t) h;
  ahead = aborts_ahead part l.log ts;
}

plain_clrs : (part : List LogRecord) (l : Local) (gone : StandingUpdate → Bool) (ws : List StandingUpdate) → ((t : TxId) → stage_of l t ≡ Some Closed → has_standing l.log t ≡ true → has_standing (l.log ++ clrs_by gone ws) t ≡ true) → Plainly part l (clrs_by gone ws)
plain_clrs part l gone ws keeps = record {
  prepares = λ t. undo_prepares t _ (clrs_undo_by gone ws);
  updates = λ t. undo_writes t _ (clrs_undo_by gone ws);
  keeps = keeps;
  ahead = clrs_ahead part l.log gone ws;
}

-- an abort: parts go, then ABORTs and CLRs come
pub lined_rolled : (part : List LogRecord) (u : TxId) (l : Local) → Lined part l → Lined part (roll_back u l)
lined_rolled part u l p =
    let set = doomed_here l u in
    let as_ = aborts_of l.log set in
    let one = record l { parts = gone_in set (Some u) l.parts; pairs = pairs_without set l.pairs } in
    let two = record one { log = l.log ++ as_ } in
    let keeps : (t : TxId) → stage_of two t ≡ Some Closed → has_standing two.log t ≡ true → has_standing (two.log ++ clrs_of set (standing l.log)) t ≡ true =
    λ t c h. rolled_stands u l t c ∙ stood_before l.log as_ t (undo_writes t as_ (aborts_undo (filter (has_standing l.log) set))) h in
    let q =
    lined_more part two (clrs_of set (standing l.log)) (plain_clrs part two (is_of set) (standing l.log) keeps)
    (lined_more part one as_ (plain_aborts part one (filter (has_standing l.log) set)) (lined_gone part l one set (Some u) refl refl refl p)) in
    record { decided = q.decided; paired = q.paired; met = q.met; stands = q.stands; unprepared = q.unprepared; ahead = q.ahead }

-- a going back of an active part
pub lined_back : (part : List LogRecord) (u : TxId) (n : ℕ) (l : Local) → stage_of l u ≡ Some Active → Lined part l → Lined part (roll_to u n l)
lined_back part u n l a p =
    let gone = is_at (newest_lsns n u (standing l.log)) in
    let q = lined_more part l (clrs_by gone (standing l.log)) (plain_clrs part l gone (standing l.log) (λ t c h. back_stands u n l t a c h)) p in
    record { decided = q.decided; paired = q.paired; met = q.met; stands = q.stands; unprepared = q.unprepared; ahead = q.ahead }

-- ---- what is due

pub out_open : (K V O Q : TxId → Type 0) (s : Shard) (t : TxId) → Barred K V O Q s → V t ⊎ Out O s t → committed_in s.local.log t ≡ false
out_open K V O Q s t b (inl v) = b.open_ t v
out_open K V O Q s t b (inr o) = o.1

due_change : (K V O Q : TxId → Type 0) (s x : Shard) → Due s (Some x) → (b : Barred K V O Q s) → Lined b.part x.local → ((t : TxId) (q : Request) → tx_get t x.requests ≡ Some q → q.state ≡ Undecided → Q t)
    → ((t : TxId) (v : Voter) → tx_get t x.voters ≡ Some v → v.vote ≡ Some Read → (prepared_in s.local.log t ≡ false) × (stage_of s.local t ≡ Some Active → ⊥)) → ((t : TxId) → V t ⊎ Out O s t → committed_in x.local.log t ≡ true → committed_in s.local.log t ≡ true)
    → ((t : TxId) (p : ℕ × List TxId) → is_present (stage_of s.local t) ≡ true → Out O x t → prepare_of s.local.log t ≡ Some p → Lost K V O x t p) → Change b.part K V O Q s x
due_change K V O Q s x d b li rw rd nc go = record {
  inside = inside_due s s x d (inside_self s);
  lined = li;
  down = down_due s x d b.down;
  found = λ t p h. inl (due_prepares s x d t p h);
  sought = λ t p h. let g = due_prepares s x d t p h in (b.sought t (prepared_there s.local.log t p g), (λ q. b.homes t p q g));
  rows = rw;
  readers = λ t v g r.
      let k = rd t v g r in
      (false_from_ne_true _ (λ h. let z = prepare_some x.local.log t h in both_ways _ k.0 (prepared_there s.local.log t z.0 (due_prepares s x d t z.0 z.1))), (λ a. k.1 ((calm_one s x t d).active a)));
  stay = λ t w. false_from_ne_true _ (λ c. both_ways _ (out_open K V O Q s t b w) (nc t w c));
  away = λ t w h. was_there s x t (calm_one s x t d) (stage_of x.local t) refl h;
  goes = go;
}

here_still : (K V O : TxId → Type 0) (s x : Shard) → x.local ≡ s.local → (t : TxId) (p : ℕ × List TxId) → is_present (stage_of s.local t) ≡ true → Out O x t → prepare_of s.local.log t ≡ Some p → Lost K V O x t p
here_still K V O s x e t p h o f = absurd (both_ways _ (subst (λ (l : Local). is_present (stage_of l t) ≡ false) e o.0) h)

voted_readers : (K V O Q : TxId → Type 0) (s : Shard) (u : TxId) (v : Voter) (vote : Vote) → Barred K V O Q s → tx_get u s.voters ≡ Some v → vote_by (facts_of s u) v ≡ Some vote
    → (t : TxId) (w : Voter) → tx_get t (tx_set u (voted vote v) s.voters) ≡ Some w → w.vote ≡ Some Read → (prepared_in s.local.log t ≡ false) × (stage_of s.local t ≡ Some Active → ⊥)
voted_readers K V O Q s u v vote b g e t w f r =
    ⊎_elim (λ a. subst (λ z. (prepared_in s.local.log z ≡ false) × (stage_of s.local z ≡ Some Active → ⊥)) (sym a.0) (own vote (vote_is s u v vote e).0 (same vote (ap (λ (z : Voter). z.vote) (sym a.1) ∙ r))))
    (λ a. b.readers t w a.1 r) (get_set u t (voted vote v) w s.voters f)
  where
    same : (vote : Vote) → Some vote ≡ Some Read → vote ≡ Read
    same vote q = some_same vote Read q

    differ : Some Closed ≡ Some Active → ⊥
    differ z = absurd cc

    own : (vote : Vote) → VoteIs s u v vote → vote ≡ Read → (prepared_in s.local.log u ≡ false) × (stage_of s.local u ≡ Some Active → ⊥)
    own vote (kept q) z = b.readers u v g (q ∙ ap (λ y. Some y) z)
    own vote (yes c d f) z = absurd cc
    own vote (read c n f) z = (false_from_ne_true _ (λ h. both_ways _ n ((b.lined).stands u h c)), (λ a. differ (sym c ∙ a)))
    own vote (no y n) z = absurd (n z)

read_unprepared : (K V O Q : TxId → Type 0) (s : Shard) (u : TxId) (v : Voter) → Barred K V O Q s → tx_get u s.voters ≡ Some v → vote_by (facts_of s u) v ≡ Some Read → prepared_in s.local.log u ≡ false
read_unprepared K V O Q s u v b g e = own Read (vote_is s u v Read e).0 refl
  where
    own : (vote : Vote) → VoteIs s u v vote → vote ≡ Read → prepared_in s.local.log u ≡ false
    own vote (kept q) z = (b.readers u v g (q ∙ ap (λ y. Some y) z)).0
    own vote (yes c d f) z = absurd cc
    own vote (read c n f) z = false_from_ne_true _ (λ h. both_ways _ n ((b.lined).stands u h c))
    own vote (no y n) z = absurd (n z)

ruled_rows : (K V O Q : TxId → Type 0) (s : Shard) (u : TxId) (w : Request) → Barred K V O Q s → (w.state ≡ Undecided → Q u) → (t : TxId) (q : Request) → tx_get t (tx_set u w s.requests) ≡ Some q → q.state ≡ Undecided → Q t
ruled_rows K V O Q s u w b k t q g e =
    ⊎_elim (λ a. subst Q (sym a.0) (k (subst (λ (z : Request). z.state ≡ Undecided) a.1 e))) (λ a. b.rows t q a.1 e) (get_set u t w q s.requests g)

-- ---- a request that was refused although its COMMIT stands: that never is, and would stay

abbrev pub Refuses : Shard → Type 0
Refuses s = (u : TxId) × (q : Request) × (cause : AbortCause) × (tx_get u s.requests ≡ Some q) × (q.state ≡ Refused cause) × (committed_in s.local.log u ≡ true)

set_other : (t u : TxId) (w q : Request) (rs : Table Request) → (u ≡ t → ⊥) → tx_get u rs ≡ Some q → tx_get u (tx_set t w rs) ≡ Some q
set_other t u w q [] n e = absurd (none_some q e)
set_other t u w q (r ∷ rs) n e = at (tx_same t r.0) refl (tx_same u r.0) refl e (set_other t u w q rs n)
  where
    at : (b : Bool) → tx_same t r.0 ≡ b → (c : Bool) → tx_same u r.0 ≡ c → cond c (Some r.1) (tx_get u rs) ≡ Some q → (tx_get u rs ≡ Some q → tx_get u (tx_set t w rs) ≡ Some q) → tx_get u (cond b ((r.0, w) ∷ rs) (r ∷ tx_set t w rs)) ≡ Some q
    at true f true g e k = absurd (n (tx_true u r.0 g ∙ sym (tx_true t r.0 f)))
    at true f false g e k = ap (λ b. cond b (Some w) (tx_get u rs)) g ∙ e
    at false f true g e k = ap (λ b. cond b (Some r.1) (tx_get u (tx_set t w rs))) g ∙ e
    at false f false g e k = ap (λ b. cond b (Some r.1) (tx_get u (tx_set t w rs))) g ∙ k e

set_own : (u : TxId) (q w : Request) (rs : Table Request) → tx_get u rs ≡ Some q → tx_get u (tx_set u w rs) ≡ Some w
set_own u q w rs e = at (tx_get u (tx_set u w rs)) refl
  where
    at : (o : Option Request) → tx_get u (tx_set u w rs) ≡ o → o ≡ Some w
    at None f = absurd (set_there u q w rs e f)
    at (Some z) f = ⊎_elim (λ a. ap (λ y. Some y) a.1) (λ a. absurd (a.0 refl)) (get_set u u w z rs f)

ruled_requests : (v : TxId) (r : Ruling) (s : Shard) → (do_ruling v r s).requests ≡ s.requests
ruled_requests v (CommitVerdict parts) s = refl
ruled_requests v Acknowledge s = refl
ruled_requests v (AbortVerdict cause to) s = refl
ruled_requests v EndVerdict s = refl

read_requests : (v : TxId) (vote : Vote) (s : Shard) → (finish_reader v vote s).requests ≡ s.requests
read_requests v Yes s = refl
read_requests v Read s = refl
read_requests v (No why) s = refl

refuses_requests : (s x : Shard) → Due s (Some x) → (u : TxId) (q : Request) (cause : AbortCause) → tx_get u s.requests ≡ Some q → q.state ≡ Refused cause → tx_get u x.requests ≡ Some q
refuses_requests s _ (commits v a c) u q cause g e = g
refuses_requests s _ (votes v w vote f h) u q cause g e = subst (λ rs. tx_get u rs ≡ Some q) (sym (read_requests v vote (with_vote s v w vote))) g
refuses_requests s _ (rules v w r f h) u q cause g e =
    subst (λ rs. tx_get u rs ≡ Some q) (sym (ruled_requests v r (with_ruling v w r s)))
    (set_other v u (ruled_request r w) q s.requests
    (λ z.
    let k : w ≡ q = some_same w q (sym f ∙ subst (λ y. tx_get y s.requests ≡ Some q) z g) in
    none_some r (subst (λ st. ruling_in s.shard v w (facts_of s v) st ≡ Some r) (subst (λ (y : Request). y.state ≡ Refused cause) (sym k) e) h)) g)

refuses_due : KeptByDue Refuses
refuses_due s x d (u, q, cause, g, e, c) = (u, q, cause, refuses_requests s x d u q cause g e, e, committed_front s.local.log x.local.log u (inside_due s s x d (inside_self s)).log c)

barred_due : (K V O Q : TxId → Type 0) (s x : Shard) → Due s (Some x) → Barred K V O Q s → Barred K V O Q x ⊎ Refuses x
barred_due K V O Q s _ (commits u a c) b =
    inl (barred_next K V O Q s _ b
    (due_change K V O Q s _ (commits u a c) b (lined_gone b.part s.local (with_commit_done s u).local (u ∷ []) None refl refl refl b.lined) b.rows b.readers (λ t w k. k)
    (finished_goes K V O s (with_commit_done s u) u refl refl (inl (durable_committed s.local.log s.durable u c)))))
barred_due K V O Q s _ (votes u v Yes g e) b =
    inl (barred_next K V O Q s _ b (due_change K V O Q s _ (votes u v Yes g e) b b.lined b.rows (voted_readers K V O Q s u v Yes b g e) (λ t w k. k) (here_still K V O s (with_vote s u v Yes) refl)))
barred_due K V O Q s _ (votes u v (No why) g e) b =
    inl (barred_next K V O Q s _ b (due_change K V O Q s _ (votes u v (No why) g e) b b.lined b.rows (voted_readers K V O Q s u v (No why) b g e) (λ t w k. k) (here_still K V O s (with_vote s u v (No why)) refl)))
barred_due K V O Q s _ (votes u v Read g e) b =
    inl (barred_next K V O Q s _ b
    (due_change K V O Q s _ (votes u v Read g e) b (lined_gone b.part s.local (finish_reader u Read (with_vote s u v Read)).local (u ∷ []) None refl refl refl b.lined) b.rows (voted_readers K V O Q s u v Read b g e) (λ t w k. k)
    (finished_goes K V O s (finish_reader u Read (with_vote s u v Read)) u refl refl (inr (read_unprepared K V O Q s u v b g e)))))
barred_due K V O Q s _ (rules u q (CommitVerdict parts) g e) b =
    inl (barred_next K V O Q s _ b
    (due_change K V O Q s _ (rules u q (CommitVerdict parts) g e) b (lined_more b.part s.local (Commit u parts ∷ []) (plain_commit b.part s.local u parts) b.lined) (ruled_rows K V O Q s u (record q { state = Committed parts }) b (λ z. absurd cc)) b.readers
    (λ t w k. ⊎_elim (λ a. a) (λ a. absurd (never t w a)) (new_commit s.local.log u parts t k)) (λ t p h o f. absurd (both_ways _ o.0 h))))
  where
    agreed : (q.state ≡ Undecided) × (is_agreed s.shard q (facts_of s u) ≡ true)
    agreed = commit_agreed s.shard u q (facts_of s u) parts e

    closed : stage_of s.local u ≡ Some Closed
    closed = agreed_closed s u q agreed.1

    never : (t : TxId) → V t ⊎ Out O s t → t ≡ u → ⊥
    never t (inl v) z =
        let h = b.here u (subst V z v) (subst (λ o. is_present o ≡ true) (sym closed) refl) in
        h.2 (b.homes u h.0 (b.rows u q g agreed.0) h.1)
    never t (inr o) z = both_ways _ (subst (Absent s) z o.0) (subst (λ o. is_present o ≡ true) (sym closed) refl)
barred_due K V O Q s _ (rules u q Acknowledge g e) b =
    inl (barred_next K V O Q s _ b
    (due_change K V O Q s _ (rules u q Acknowledge g e) b (lined_gone b.part s.local (do_ruling u Acknowledge (with_ruling u q Acknowledge s)).local (u ∷ []) None refl refl refl b.lined) (ruled_rows K V O Q s u (record q { state = Finished }) b (λ z. absurd cc)) b.readers (λ t w k. k)
    (finished_goes K V O s (do_ruling u Acknowledge (with_ruling u q Acknowledge s)) u refl refl
    (inr (let k = ack_in s.shard u q (facts_of s u) q.state e in false_from_ne_true _ (λ h. both_ways _ k.0 ((b.lined).stands u h (agreed_closed s u q k.1))))))))
barred_due K V O Q s _ (rules u q (AbortVerdict cause to) g e) b = by_commit (committed_in s.local.log u) refl
  where
    x : Shard
    x = do_ruling u (AbortVerdict cause to) (with_ruling u q (AbortVerdict cause to) s)

    row : tx_get u (tx_set u (record q { state = Refused cause }) s.requests) ≡ Some (record q { state = Refused cause })
    row = set_own u q (record q { state = Refused cause }) s.requests g

    lost : committed_in s.local.log u ≡ false → (t : TxId) (p : ℕ × List TxId) → is_present (stage_of s.local t) ≡ true
        → Out O (do_ruling u (AbortVerdict cause to) (with_ruling u q (AbortVerdict cause to) s)) t → prepare_of s.local.log t ≡ Some p → Lost K V O (do_ruling u (AbortVerdict cause to) (with_ruling u q (AbortVerdict cause to) s)) t p
    lost c t p h o f =
        rolled_goes K V O Q s (do_ruling u (AbortVerdict cause to) (with_ruling u q (AbortVerdict cause to) s)) u refl b c
        (λ p a f. inr (inl (b.homes u p (b.rows u q g (abort_undecided s.shard u q (facts_of s u) cause to e)) f, a))) t p h o.0 f

    by_commit : (c : Bool) → committed_in s.local.log u ≡ c
        → Barred K V O Q (do_ruling u (AbortVerdict cause to) (with_ruling u q (AbortVerdict cause to) s)) ⊎ Refuses (do_ruling u (AbortVerdict cause to) (with_ruling u q (AbortVerdict cause to) s))
    by_commit true c =
        inr (u, record q { state = Refused cause }, cause, row, refl, committed_front s.local.log (do_ruling u (AbortVerdict cause to) (with_ruling u q (AbortVerdict cause to) s)).local.log u (inside_due s s _ (rules u q (AbortVerdict cause to) g e) (inside_self s)).log c)
    by_commit false c =
        inl (barred_next K V O Q s _ b
        (due_change K V O Q s _ (rules u q (AbortVerdict cause to) g e) b (lined_rolled b.part u s.local b.lined) (ruled_rows K V O Q s u (record q { state = Refused cause }) b (λ z. absurd cc)) b.readers (λ t w k. rolled_commits u s.local t k) (lost c)))
barred_due K V O Q s _ (rules u q EndVerdict g e) b =
    inl (barred_next K V O Q s _ b
    (due_change K V O Q s _ (rules u q EndVerdict g e) b (lined_more b.part s.local (End u ∷ []) (plain_end b.part s.local u) b.lined) (ruled_rows K V O Q s u (record q { is_ended = true }) b (λ z. b.rows u q g z)) b.readers
    (λ t w k. with_more s.local.log (End u ∷ []) ((λ t. refl), tt) t k) (λ t p h o f. absurd (both_ways _ o.0 h))))

either_due : (K V O Q : TxId → Type 0) → KeptByDue (λ s. Barred K V O Q s ⊎ Refuses s)
either_due K V O Q s x d (inl b) = barred_due K V O Q s x d b
either_due K V O Q s x d (inr r) = inr (refuses_due s x d r)

pub barred_finish : (K V O Q : TxId → Type 0) (s : Shard) → (Refuses (with_due_done s) → ⊥) → Barred K V O Q s → Barred K V O Q (finish s)
barred_finish K V O Q s n b = ⊎_elim (λ q. purged q) (λ r. absurd (n r)) (settled (λ t. Barred K V O Q t ⊎ Refuses t) s (either_due K V O Q) (inl b))
  where
    purged : Barred K V O Q (with_due_done s) → Barred K V O Q (finish s)
    purged q =
        let l = q.lined in
        record {
          part = q.part;
          lined = record { decided = l.decided; paired = l.paired; met = l.met; stands = l.stands; unprepared = l.unprepared; ahead = l.ahead };
          gone = q.gone;
          down = q.down;
          counted = q.counted;
          sought = q.sought;
          homes = q.homes;
          rows = q.rows;
          readers = q.readers;
          open_ = q.open_;
          here = q.here;
          why = q.why;
        }
