-- What word of a commit finds on a shard, and a drop.
use Rattle.std.proofs.Common.{◌≡◌, ap, subst, ℕ, true, false, List, ◌∷◌, ◌++◌, Some}
use Rattle.std.proofs.lemmas.Bool.{both_ways, false_from_ne_true}
use Rattle.clv_base.specs.declared.names.TxId.{TxId}
use Rattle.clv_base.specs.declared.logs.LogRecord.{LogRecord}
use Rattle.clv_base.specs.declared.messages.Message.TheVariants.{Decide}
use Rattle.clv_base.specs.declared.state.Request.{Request}
use Rattle.clv_base.specs.declared.state.RequestState.TheVariants.{Undecided}
use Rattle.clv_base.specs.declared.events.Event.TheVariants.{Drop, Deliver}
use Rattle.clv_base.specs.declared.events.Outcome.TheVariants.{Taken}
use Rattle.clv_base.specs.declared.events.Entry.{Entry}
use Rattle.clv_base.specs.Orders.{tx_get}
use Rattle.clv_base.specs.Logs.{has_standing, committed_in}
use Rattle.clv_base.specs.Journals.{History}
use Rattle.clv_base.specs.History.{WasSent, state_before}
use Rattle.law_base.proofs.Rows.{rows_get}
use Rattle.protocol_laws.specs.SessionLaws.{tx_of}
use Rattle.history_laws.specs.Openings.{LegalFrom}
use Rattle.shard_laws.specs.OneShard.{predecessors_committed}
use Rattle.history_laws.proofs.NeverTakenBack.{walker_of}
use Rattle.fate_laws.proofs.History.EntryByEntry.{Next, next_at, one_home}
use Rattle.fate_laws.proofs.Homes.FrontsKeepHomes.{delivered, committed_asked}
use Rattle.fate_laws.proofs.Parts.CommittedAreVotedFor.{RowIs}
use Rattle.fate_laws.proofs.Parts.FrontsKeepParts.{WasTaken, FineAt, Bindings, bindings_front}
use Rattle.fate_laws.proofs.Parts.CommitsHaveTheirParts.{home_committed, due_at}
use Rattle.fate_laws.proofs.AbortedAreCommittedNowhere.{spared_front, dropped_dead}
use Rattle.fate_laws.proofs.EachShardLeads.CommitsSpareTheFallen.{FellOn, commits_spare_the_fallen}

-- at the first word of a commit its predecessors here are committed, it didn't fall here and isn't undecided, and a write of it stands here
pub record Found (before after : List (List LogRecord)) (pre : History) (n : ℕ) (tx : TxId) : Type 0 where
  pub due : predecessors_committed (state_before before pre after n).local tx ≡ true
  pub unfallen : FellOn before pre after n tx → ⊥
  pub stands : has_standing (state_before before pre after n).local.log tx ≡ true
  pub decided : (q : Request) → tx_get tx (state_before before pre after n).requests ≡ Some q → q.state ≡ Undecided → ⊥

abbrev pub AllFound : List (List LogRecord) → History → List (List LogRecord) → Type 0
AllFound before h after =
    (pre : History) (n : ℕ) (e : Entry) (later : History) (tx : TxId) (to home stamp : ℕ) → pre ++ (n, e) ∷ later ≡ h → e.event ≡ Deliver (Decide to tx home true) stamp → e.outcome ≡ Taken
    → committed_in (state_before before pre after n).local.log tx ≡ false → Found before after pre n tx

abbrev pub DropsSpared : List (List LogRecord) → History → List (List LogRecord) → Type 0
DropsSpared before h after = (pre : History) (n : ℕ) (e : Entry) (later : History) (tx : TxId) → pre ++ (n, e) ∷ later ≡ h → e.event ≡ Drop tx → committed_in (state_before before pre after n).local.log tx ≡ false

-- ---- word of a commit

-- the home of an undecided request has no COMMIT of it, where others are told of a commit
undecided_away : (splits : List ℕ) (before after : List (List LogRecord)) (h pre : History) (n : ℕ) (e : Entry) (tx : TxId) (to home stamp : ℕ) (q : Request) → Next splits before after h pre (n, e) → Bindings splits before after h pre → e.event ≡ Deliver (Decide to tx home true) stamp
    → committed_in (state_before before pre after n).local.log tx ≡ false → tx_get tx (state_before before pre after n).requests ≡ Some q → q.state ≡ Undecided → ⊥
undecided_away splits before after h pre n e tx to home stamp q w b v c g u =
    let s = state_before before pre after n in
    let p = subst (RowIs (WasTaken h) (FineAt before after pre) s.shard tx q) u (rows_get (λ r. RowIs (WasTaken h) (FineAt before after pre) s.shard r.0 r.1 (r.1).state) tx q s.requests (b.parted n w.inside).rows g) in
    let a = p.0 in
    let r = (walker_of splits before after h (s.shard, a.0) tx w.legal a.1 (ap tx_of (a.2).0)).0 in
    let z : WasSent pre (Deliver (Decide to tx home true) stamp) = subst (WasSent pre) v w.sent in
    both_ways _ c (home_committed splits before after h pre (n, e) tx q.touched w (delivered splits before after pre (Decide to tx home true) stamp b.fated z r) a)

module _ {splits : List ℕ} {before after : List (List LogRecord)} {h : History} (l : LegalFrom splits before h after) where
  pub all_found : AllFound before h after
  all_found pre n e later tx to home stamp q v o c =
      let w = next_at splits before after h pre (n, e) later l.legal q in
      let b = bindings_front l pre ((n, e) ∷ later) q in
      let first = due_at splits before after h pre (n, e) tx to home stamp w b v c in
      record {
        due = first.0;
        unfallen = commits_spare_the_fallen l pre n e later tx to home stamp q v o c;
        stands = first.1;
        decided = λ r x u. undecided_away splits before after h pre n e tx to home stamp r w b v c x u;
      }

  -- ---- a drop

  pub drops_spared : DropsSpared before h after
  drops_spared pre n e later tx q v =
      let w = next_at splits before after h pre (n, e) later l.legal q in
      let k = spared_front l pre ((n, e) ∷ later) q in
      let r = (walker_of splits before after h (n, e) tx l.legal w.among (ap tx_of v)).0 in
      false_from_ne_true _ (λ c.
      let a = committed_asked splits before after h pre n tx w.inside (bindings_front l pre ((n, e) ∷ later) q).fated r c in
      let d = dropped_dead splits before after h pre (n, e) tx a.0 w k v r a.1 in
      let z = one_home splits before after h tx a.0 d.0 (a.1).0 ((d.1).0).0 (a.1).1 ((d.1).0).1 l.legal (w.earlier (a.0, (a.1).0) (a.1).2).0 (a.1).3 (w.earlier (d.0, ((d.1).0).0) ((d.1).0).2).0 ((d.1).0).3 in
      both_ways _ ((d.1).1).0 (subst (λ i. committed_in (state_before before pre after i).local.log tx ≡ true) z a.2))
