-- Whose part was taken away by an abort has no COMMIT, and a request that is refused has none.
use Rattle.std.proofs.Common.{◌≡◌, ⊎_elim, refl, sym, subst, ◌∙◌, ℕ, true, false, cond, Bool, ◌&&◌, ◌==◌, List, [], ◌∷◌, ◌++◌, Option, Some, None, length}
use Rattle.std.specs.Prelude.{⊤}
use Rattle.std.specs.List.{list_all}
use Rattle.std.proofs.lemmas.Bool.{both_ways, and_parts, or_cases, false_from_ne_true}
use Rattle.clv_base.specs.declared.names.TxId.{TxId}
use Rattle.clv_base.specs.declared.logs.LogRecord.{LogRecord}
use Rattle.clv_base.specs.declared.logs.LogRecord.TheVariants.{Commit, End}
use Rattle.clv_base.specs.declared.causes.AbortCause.{AbortCause}
use Rattle.clv_base.specs.declared.causes.Vote.TheVariants.{Yes, Read, No}
use Rattle.clv_base.specs.declared.state.Stage.{Stage}
use Rattle.clv_base.specs.declared.state.Stage.TheVariants.{Active, Closed, Gone}
use Rattle.clv_base.specs.declared.state.Held.{Held}
use Rattle.clv_base.specs.declared.state.Request.{Request}
use Rattle.clv_base.specs.declared.state.RequestState.{RequestState}
use Rattle.clv_base.specs.declared.state.RequestState.TheVariants.{Undecided, Committed, Finished, Refused}
use Rattle.clv_base.specs.declared.state.Ruling.{Ruling}
use Rattle.clv_base.specs.declared.state.Ruling.TheVariants.{Commit as CommitVerdict, Acknowledge, Abort as AbortVerdict, End as EndVerdict}
use Rattle.clv_base.specs.declared.parts.PartFacts.{PartFacts}
use Rattle.clv_base.specs.Orders.{Table, tx_same, tx_in, tx_get, tx_set}
use Rattle.clv_base.specs.Logs.{committed_in}
use Rattle.clv_base.specs.State.{Shard, is_present}
use Rattle.clv_base.specs.Undo.{stage_of, doomed_by, doomed_here, gone_in, roll_back}
use Rattle.clv_base.specs.Facts.{facts_of, doom_by, has_durable_predecessors, is_waiting}
use Rattle.clv_base.specs.Coordinator.{first_no, cause_by, refusal, refused_ruling, yes_shards, agreed_ruling, is_agreed, undecided_ruling, end_ruling, ruling_in, ruling_by, ruled_request, others, vote_from, is_good}
use Rattle.clv_base.proofs.SameNames.{tx_true}
use Rattle.law_base.proofs.Changed.{none_some, get_set}
use Rattle.law_base.proofs.Tables.{stage_in}
use Rattle.law_base.proofs.Stages.{stage_own, stage_other, gone_by}
use Rattle.shard_laws.proofs.Events.DueKeeps.{waiting_here}
use Rattle.law_base.proofs.Sets.{in_filter}
use Rattle.law_base.proofs.Successors.{through_all}
use Rattle.history_cases.proofs.Stepping.{commits, votes, rules, KeptByDue}
use Rattle.history_cases.proofs.Uncommitting.{rolled, with_more}
use Rattle.fate_laws.proofs.Homes.ShardKnowsHomes.{still_not, new_commit}
use Rattle.fate_laws.proofs.Parts.CommittedAreVotedFor.{commit_agreed}
use Rattle.fate_laws.proofs.CommitsGoDownwards.{Down, down_due}

-- ---- what goes with one that isn't committed isn't

abbrev Open : List LogRecord → TxId → Type 0
Open log t = committed_in log t ≡ false

pub doomed_open : (s : Shard) (u : TxId) → Down s → committed_in s.local.log u ≡ false → (t : TxId) → tx_in t (doomed_here s.local u) ≡ true → committed_in s.local.log t ≡ false
doomed_open s u d o t i =
    through_all (Open s.local.log) (length s.local.pairs) s.local.pairs (u ∷ []) (λ a b j n. false_from_ne_true _ (λ c. both_ways _ n (d a b c j)))
    (λ v j. ⊎_elim (λ e. subst (Open s.local.log) (tx_true u v e) o) (λ e. absurd (both_ways false refl e)) (or_cases (tx_same u v) false j)) t
    (in_filter (λ v. is_present (stage_of s.local v)) t (doomed_by s.local u) i).0

-- ---- what is kept

-- of a request: where its COMMIT stands while it is undecided, no votes came; where it is refused, there is none
abbrev pub RowKeeps : List LogRecord → TxId → Request → RequestState → Type 0
RowKeeps log tx q Undecided = committed_in log tx ≡ true → q.votes ≡ []
RowKeeps log tx q (Committed parts) = ⊤
RowKeeps log tx q Finished = ⊤
RowKeeps log tx q (Refused cause) = committed_in log tx ≡ false

pub record Kept (s : Shard) : Type 0 where
  pub down : Down s
  pub gone : (tx d : TxId) → stage_of s.local tx ≡ Some (Gone (Some d)) → committed_in s.local.log tx ≡ false
  pub rows : (tx : TxId) (q : Request) → tx_get tx s.requests ≡ Some q → RowKeeps s.local.log tx q q.state

pub row_log : (log log' : List LogRecord) (tx : TxId) (q : Request) (st : RequestState) → (committed_in log' tx ≡ true → committed_in log tx ≡ true) → RowKeeps log tx q st → RowKeeps log' tx q st
row_log log log' tx q Undecided k p = λ c. p (k c)
row_log log log' tx q (Committed parts) k p = tt
row_log log log' tx q Finished k p = tt
row_log log log' tx q (Refused cause) k p = still_not (committed_in log tx) (committed_in log' tx) k p

-- ---- stages

pub finished_back : (u v d : TxId) (parts : Table Held) → stage_in (gone_in (u ∷ []) None parts) v ≡ Some (Gone (Some d)) → stage_in parts v ≡ Some (Gone (Some d))
finished_back u v d parts e = at (tx_in v (u ∷ [])) refl
  where
    own : (o : Option Stage) → gone_by None o ≡ Some (Gone (Some d)) → ⊥
    own None q = absurd cc
    own (Some st) q = absurd cc

    at : (b : Bool) → tx_in v (u ∷ []) ≡ b → stage_in parts v ≡ Some (Gone (Some d))
    at true i = absurd (own (stage_in parts v) (sym (stage_own (u ∷ []) None v parts i) ∙ e))
    at false i = sym (stage_other (u ∷ []) None v parts i) ∙ e

pub gone_rolled : (s : Shard) (u v d : TxId) → committed_in s.local.log u ≡ false → Kept s → stage_of (roll_back u s.local) v ≡ Some (Gone (Some d)) → committed_in (roll_back u s.local).log v ≡ false
gone_rolled s u v d o p e = still_not (committed_in s.local.log v) (committed_in (roll_back u s.local).log v) (rolled u s.local v) (at (tx_in v (doomed_here s.local u)) refl)
  where
    at : (b : Bool) → tx_in v (doomed_here s.local u) ≡ b → committed_in s.local.log v ≡ false
    at true i = doomed_open s u p.down o v i
    at false i = p.gone v d (sym (stage_other (doomed_here s.local u) (Some u) v s.local.parts i) ∙ e)

-- ---- rulings

data AbortIs (tx : TxId) (q : Request) (f : PartFacts) : Option Ruling → Type 0 where
  other : {o : Option Ruling} → ((cause : AbortCause) (to : List ℕ) → o ≡ Some (AbortVerdict cause to) → ⊥) → AbortIs tx q f o
  abort : {cause : AbortCause} {to : List ℕ} → q.state ≡ Undecided → refusal tx q f ≡ Some cause → AbortIs tx q f (Some (AbortVerdict cause to))

agreed_is : (tx : TxId) (q : Request) (f : PartFacts) (u : Bool) (ys : List ℕ) → AbortIs tx q f (agreed_ruling f u ys)
agreed_is tx q f u (y ∷ ys) = other (λ c t e. absurd cc)
agreed_is tx q f true [] = other (λ c t e. absurd cc)
agreed_is tx q f false [] = at (has_durable_predecessors f)
  where
    at : (b : Bool) → AbortIs tx q f (cond b (Some Acknowledge) None)
    at true = other (λ c t e. absurd cc)
    at false = other (λ c t e. absurd cc)

refused_is : (shard : ℕ) (tx : TxId) (q : Request) (f : PartFacts) (o : Option AbortCause) → q.state ≡ Undecided → refusal tx q f ≡ o → AbortIs tx q f (refused_ruling shard q o)
refused_is shard tx q f None e r = other (λ c t z. absurd cc)
refused_is shard tx q f (Some cause) e r = abort e r

undecided_is : (shard : ℕ) (tx : TxId) (q : Request) (f : PartFacts) (b : Bool) → q.state ≡ Undecided → AbortIs tx q f (undecided_ruling shard tx q f b)
undecided_is shard tx q f true e = agreed_is tx q f f.updates (yes_shards shard q)
undecided_is shard tx q f false e = refused_is shard tx q f (refusal tx q f) e refl

ended_is : (tx : TxId) (q : Request) (f : PartFacts) (ps : List ℕ) → AbortIs tx q f (end_ruling q ps)
ended_is tx q f [] = other (λ c t e. absurd cc)
ended_is tx q f (p ∷ ps) = at _
  where
    at : (b : Bool) → AbortIs tx q f (cond b (Some EndVerdict) None)
    at true = other (λ c t e. absurd cc)
    at false = other (λ c t e. absurd cc)

ruling_is : (shard : ℕ) (tx : TxId) (q : Request) (f : PartFacts) (st : RequestState) → q.state ≡ st → AbortIs tx q f (ruling_in shard tx q f st)
ruling_is shard tx q f Undecided e = undecided_is shard tx q f (is_agreed shard q f) e
ruling_is shard tx q f (Committed parts) e = ended_is tx q f parts
ruling_is shard tx q f Finished e = other (λ c t z. absurd cc)
ruling_is shard tx q f (Refused c) e = other (λ c t z. absurd cc)

doomed_by_facts : (tx : TxId) (cause : AbortCause) (o : Option Stage) → cause_by tx None (doom_by o) ≡ Some cause → (d : TxId) × (o ≡ Some (Gone (Some d)))
doomed_by_facts tx cause None e = absurd (none_some cause e)
doomed_by_facts tx cause (Some Active) e = absurd (none_some cause e)
doomed_by_facts tx cause (Some Closed) e = absurd (none_some cause e)
doomed_by_facts tx cause (Some (Gone None)) e = absurd (none_some cause e)
doomed_by_facts tx cause (Some (Gone (Some d))) e = (d, refl)

abort_open : (s : Shard) (tx : TxId) (q : Request) (o : Option Ruling) (cause : AbortCause) (to : List ℕ) → Kept s → tx_get tx s.requests ≡ Some q → AbortIs tx q (facts_of s tx) o → o ≡ Some (AbortVerdict cause to) → committed_in s.local.log tx ≡ false
abort_open s tx q o cause to p g (other n) e = absurd (n cause to e)
abort_open s tx q _ cause to p g (abort {cause = c} u r) e =
    false_from_ne_true _
    (λ k.
    let v : q.votes ≡ [] = subst (RowKeeps s.local.log tx q) u (p.rows tx q g) k in
    let w : cause_by tx None (doom_by (stage_of s.local tx)) ≡ Some c = subst (λ l. cause_by tx (first_no l) (doom_by (stage_of s.local tx)) ≡ Some c) v r in
    let d = doomed_by_facts tx c (stage_of s.local tx) w in
    both_ways _ (p.gone tx d.0 d.1) k)

-- an abort is ruled of one that has no COMMIT
pub refused_open : (s : Shard) (tx : TxId) (q : Request) (cause : AbortCause) (to : List ℕ) → Kept s → tx_get tx s.requests ≡ Some q → ruling_by s.shard tx q (facts_of s tx) ≡ Some (AbortVerdict cause to) → committed_in s.local.log tx ≡ false
refused_open s tx q cause to p g e = abort_open s tx q (ruling_by s.shard tx q (facts_of s tx)) cause to p g (ruling_is s.shard tx q (facts_of s tx) q.state refl) e

-- ---- each thing that is due

set_rows : (s : Shard) (log : List LogRecord) (tx : TxId) (w : Request) → RowKeeps log tx w w.state → ((u : TxId) → (u ≡ tx → ⊥) → committed_in log u ≡ true → committed_in s.local.log u ≡ true) → Kept s
    → (u : TxId) (q : Request) → tx_get u (tx_set tx w s.requests) ≡ Some q → RowKeeps log u q q.state
set_rows s log tx w k c p u q g =
    ⊎_elim (λ a. subst (λ z. RowKeeps log u z z.state) (sym a.1) (subst (λ v. RowKeeps log v w w.state) (sym a.0) k)) (λ b. row_log s.local.log log u q q.state (c u b.0) (p.rows u q b.1)) (get_set tx u w q s.requests g)

ended_keeps : (log : List LogRecord) (tx : TxId) (q : Request) (st : RequestState) → RowKeeps log tx q st → RowKeeps log tx (record q { is_ended = true }) st
ended_keeps log tx q Undecided p = p
ended_keeps log tx q (Committed parts) p = tt
ended_keeps log tx q Finished p = tt
ended_keeps log tx q (Refused cause) p = p

rows_got : (s : Shard) (tx : TxId) (q : Request) → Kept s → tx_get tx s.requests ≡ Some q → RowKeeps s.local.log tx q q.state
rows_got s tx q p g = p.rows tx q g

commit_apart : (s : Shard) (tx v d : TxId) (parts : List ℕ) → stage_of s.local tx ≡ Some Closed → Kept s → stage_of s.local v ≡ Some (Gone (Some d)) → committed_in (s.local.log ++ Commit tx parts ∷ []) v ≡ false
commit_apart s tx v d parts c p e =
    false_from_ne_true _ (λ h. ⊎_elim (λ a. both_ways _ (p.gone v d e) a) (λ a. differ (sym c ∙ subst (λ z. stage_of s.local z ≡ Some (Gone (Some d))) a e)) (new_commit s.local.log tx parts v h))
  where
    differ : Some Closed ≡ Some (Gone (Some d)) → ⊥
    differ z = absurd cc

pub agreed_waits : (shard : ℕ) (q : Request) (f : PartFacts) → is_agreed shard q f ≡ true → is_waiting f ≡ true
agreed_waits shard q f a = (and_parts (is_waiting f) (f.undecided == 0) (and_parts (is_waiting f && (f.undecided == 0)) (list_all (λ p. is_good (vote_from p q.votes)) (others shard q.touched)) a).0).0

pub kept_due : KeptByDue Kept
kept_due s _ (commits u a b) p = record { down = down_due s _ (commits u a b) p.down; gone = λ v d e. p.gone v d (finished_back u v d s.local.parts e); rows = p.rows }
kept_due s _ (votes u v Yes a b) p = record { down = down_due s _ (votes u v Yes a b) p.down; gone = p.gone; rows = p.rows }
kept_due s _ (votes u v Read a b) p = record { down = down_due s _ (votes u v Read a b) p.down; gone = λ w d e. p.gone w d (finished_back u w d s.local.parts e); rows = p.rows }
kept_due s _ (votes u v (No why) a b) p = record { down = down_due s _ (votes u v (No why) a b) p.down; gone = p.gone; rows = p.rows }
kept_due s _ (rules u q (CommitVerdict parts) g e) p =
    let k = commit_agreed s.shard u q (facts_of s u) parts e in
    let w = waiting_here s u (agreed_waits s.shard q (facts_of s u) k.1) in
    record {
      down = down_due s _ (rules u q (CommitVerdict parts) g e) p.down;
      gone = λ v d x. commit_apart s u v d parts w.0 p x;
      rows = set_rows s (s.local.log ++ Commit u parts ∷ []) u (ruled_request (CommitVerdict parts) q) tt (λ v n c. ⊎_elim (λ a. a) (λ a. absurd (n a)) (new_commit s.local.log u parts v c)) p;
    }
kept_due s _ (rules u q Acknowledge g e) p = record {
  down = down_due s _ (rules u q Acknowledge g e) p.down;
  gone = λ v d x. p.gone v d (finished_back u v d s.local.parts x);
  rows = set_rows s s.local.log u (ruled_request Acknowledge q) tt (λ v n c. c) p;
}
kept_due s _ (rules u q (AbortVerdict cause to) g e) p =
    let o = refused_open s u q cause to p g e in
    record {
      down = down_due s _ (rules u q (AbortVerdict cause to) g e) p.down;
      gone = λ v d x. gone_rolled s u v d o p x;
      rows = set_rows s (roll_back u s.local).log u (ruled_request (AbortVerdict cause to) q) (still_not (committed_in s.local.log u) (committed_in (roll_back u s.local).log u) (rolled u s.local u) o) (λ v n c. rolled u s.local v c) p;
    }
kept_due s _ (rules u q EndVerdict g e) p = record {
  down = down_due s _ (rules u q EndVerdict g e) p.down;
  gone = λ v d x. still_not (committed_in s.local.log v) _ (with_more s.local.log (End u ∷ []) ((λ t. refl), tt) v) (p.gone v d x);
  rows = set_rows s (s.local.log ++ End u ∷ []) u (ruled_request EndVerdict q) (row_log s.local.log (s.local.log ++ End u ∷ []) u (record q { is_ended = true }) q.state (with_more s.local.log (End u ∷ []) ((λ t. refl), tt) u) (ended_keeps s.local.log u q q.state (rows_got s u q p g)))
      (λ v n c. with_more s.local.log (End u ∷ []) ((λ t. refl), tt) v c) p;
}
