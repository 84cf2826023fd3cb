-- Within one entry: who goes by an abort, goes by its own end or with the doomed set of the state at the beginning.
use Rattle.std.proofs.Common.{◌≡◌, ◌⊎◌, inl, inr, ⊎_elim, refl, sym, ap, subst, ◌∙◌, ℕ, true, false, cond, Bool, List, [], ◌∷◌, Option, Some, None, ◌&&◌, ◌||◌, ◌==◌}
use Rattle.std.specs.List.{list_all}
use Rattle.std.proofs.lemmas.Bool.{both_ways, and_parts, false_from_ne_true}
use Rattle.clv_base.specs.declared.names.TxId.{TxId}
use Rattle.clv_base.specs.declared.causes.NoWhy.{NoWhy}
use Rattle.clv_base.specs.declared.causes.AbortCause.{AbortCause}
use Rattle.clv_base.specs.declared.causes.AbortCause.TheVariants.{Asked as AskedCause, Predecessor, NoVote}
use Rattle.clv_base.specs.declared.causes.Vote.{Vote}
use Rattle.clv_base.specs.declared.causes.Vote.TheVariants.{Yes, Read, No}
use Rattle.clv_base.specs.declared.parts.PartFacts.{PartFacts}
use Rattle.clv_base.specs.declared.state.Stage.{Stage}
use Rattle.clv_base.specs.declared.state.Stage.TheVariants.{Active, Closed, Gone}
use Rattle.clv_base.specs.declared.state.Voter.{Voter}
use Rattle.clv_base.specs.declared.state.Request.{Request}
use Rattle.clv_base.specs.declared.state.RequestState.{RequestState}
use Rattle.clv_base.specs.declared.state.RequestState.TheVariants.{Undecided, Committed, Finished, Refused}
use Rattle.clv_base.specs.declared.state.Ruling.{Ruling}
use Rattle.clv_base.specs.declared.state.Ruling.TheVariants.{Commit as CommitVerdict, Acknowledge, Abort as AbortVerdict, End as EndVerdict}
use Rattle.clv_base.specs.Orders.{Table, tx_same, tx_in, tx_get, tx_set}
use Rattle.clv_base.specs.State.{Shard, Local, with_local, is_present}
use Rattle.clv_base.specs.Undo.{stage_of, doomed_by, doomed_here, gone_in, roll_back}
use Rattle.clv_base.specs.Facts.{state_by, doom_by, facts_of, is_waiting, has_durable_predecessors}
use Rattle.clv_base.specs.Participant.{vote_owed, first_vote, vote_in_state, gone_vote, voted}
use Rattle.clv_base.specs.Coordinator.{others, first_no, is_agreed, is_good, vote_from, yes_shards, agreed_ruling, cause_by, refusal, refused_ruling, end_ruling, undecided_ruling, ruling_in, ruled_request}
use Rattle.clv_base.specs.Due.{with_due_done, finish_part, finish_reader, with_vote, with_ruling, do_ruling}
use Rattle.clv_base.specs.Events.{finish}
use Rattle.clv_base.proofs.SameNames.{tx_true, tx_self}
use Rattle.law_base.proofs.Changed.{some_same, none_some, Set_or_old, get_set}
use Rattle.law_base.proofs.Tables.{stage_in, is_pair, without_pairs}
use Rattle.law_base.proofs.Sets.{in_filter}
use Rattle.protocol_laws.specs.UndoLaws.{IsClosed}
use Rattle.protocol_laws.proofs.Laws.{doomed_is_closure}
use Rattle.law_base.proofs.Stages.{gone_by, stage_own, stage_other}
use Rattle.shard_laws.proofs.Events.DueKeeps.{waiting_here}
use Rattle.history_cases.proofs.Stepping.{commits, votes, rules, KeptByDue, settled}
use Rattle.fate_laws.proofs.CausesStand.VotersAreParts.{VotesFit, no_in}
use Rattle.fate_laws.proofs.CausesStand.NoneRefusedAtRest.{Unopposed}
use Rattle.fate_laws.proofs.Origins.DueKeepsOrigins.{in_one}

-- ---- what is told: E, the transaction's work has ended; T, its home took this no of that shard; W, a transaction's abort began a set that held it

-- by the beginning of the entry, by its own end, or with the set of another
abbrev pub GoneBy : (TxId → Type 0) → Shard → TxId → TxId → Type 0
GoneBy E s0 t d = (stage_of s0.local t ≡ Some (Gone (Some d))) ⊎ (((t ≡ d) × E t) ⊎ ((t ≡ d → ⊥) × (tx_in t (doomed_by s0.local d) ≡ true)))

abbrev pub RefusedFor : (TxId → ℕ → NoWhy → Type 0) → (TxId → TxId → Type 0) → Shard → TxId → AbortCause → Type 0
RefusedFor T W s t c = ((p : ℕ) × (why : NoWhy) × (c ≡ NoVote p why) × T t p why) ⊎ ((d : TxId) × (c ≡ Predecessor d) × (t ≡ d → ⊥) × (W t d ⊎ (stage_of s.local t ≡ Some (Gone (Some d)))))

abbrev pub StateFits : (TxId → Type 0) → (TxId → ℕ → NoWhy → Type 0) → (TxId → TxId → Type 0) → Shard → TxId → RequestState → Type 0
StateFits E T W s t Undecided = E t × (stage_of s.local t ≡ Some (Gone (Some t)) → ⊥)
StateFits E T W s t (Committed parts) = Unit {0}
StateFits E T W s t Finished = Unit {0}
StateFits E T W s t (Refused c) = RefusedFor T W s t c

pub record RowFits (E : TxId → Type 0) (T : TxId → ℕ → NoWhy → Type 0) (W : TxId → TxId → Type 0) (s : Shard) (t : TxId) (q : Request) : Type 0 where
  pub votes : VotesFit (others s.shard q.touched) (T t) q.votes
  pub state : StateFits E T W s t q.state

-- the pairs are those at the beginning, or nothing speaks against any undecided request
abbrev pub Linked : Shard → Shard → Type 0
Linked s0 s = ((a b : TxId) → is_pair s.local.pairs a b ≡ true → is_pair s0.local.pairs a b ≡ true) ⊎ ((t : TxId) (q : Request) → tx_get t s.requests ≡ Some q → q.state ≡ Undecided → Unopposed s t q)

pub record Within (E : TxId → Type 0) (T : TxId → ℕ → NoWhy → Type 0) (W : TxId → TxId → Type 0) (s0 s : Shard) : Type 0 where
  pub linked : Linked s0 s
  pub gone : (t d : TxId) → stage_of s.local t ≡ Some (Gone (Some d)) → GoneBy E s0 t d
  pub rows : (t : TxId) (q : Request) → tx_get t s.requests ≡ Some q → RowFits E T W s t q
  pub read : (t : TxId) (v : Voter) → tx_get t s.voters ≡ Some v → v.vote ≡ Some Read → stage_of s.local t ≡ Some (Gone None)

-- ---- a state with the same aborts

pub record Dooms (s u : Shard) : Type 0 where
  pub shard : u.shard ≡ s.shard
  pub to : (t d : TxId) → stage_of u.local t ≡ Some (Gone (Some d)) → stage_of s.local t ≡ Some (Gone (Some d))
  pub back : (t d : TxId) → stage_of s.local t ≡ Some (Gone (Some d)) → stage_of u.local t ≡ Some (Gone (Some d))
  pub none : (t : TxId) → stage_of s.local t ≡ Some (Gone None) → stage_of u.local t ≡ Some (Gone None)

-- and no more pairs
abbrev pub Alike : Shard → Shard → Type 0
Alike s u = Dooms s u × ((a b : TxId) → is_pair u.local.pairs a b ≡ true → is_pair s.local.pairs a b ≡ true)

refused_alike : (T : TxId → ℕ → NoWhy → Type 0) (W : TxId → TxId → Type 0) (s u : Shard) (t : TxId) (c : AbortCause) → ((d : TxId) → stage_of s.local t ≡ Some (Gone (Some d)) → stage_of u.local t ≡ Some (Gone (Some d))) → RefusedFor T W s t c → RefusedFor T W u t c
refused_alike T W s u t c k (inl a) = inl a
refused_alike T W s u t c k (inr (d, e, n, inl w)) = inr (d, e, n, inl w)
refused_alike T W s u t c k (inr (d, e, n, inr w)) = inr (d, e, n, inr (k d w))

state_alike : (E : TxId → Type 0) (T : TxId → ℕ → NoWhy → Type 0) (W : TxId → TxId → Type 0) (s u : Shard) (t : TxId) (st : RequestState) → Dooms s u → StateFits E T W s t st → StateFits E T W u t st
state_alike E T W s u t Undecided a f = (f.0, (λ e. f.1 (a.to t t e)))
state_alike E T W s u t (Committed parts) a f = tt
state_alike E T W s u t Finished a f = tt
state_alike E T W s u t (Refused c) a f = refused_alike T W s u t c (a.back t) f

pub row_alike : (E : TxId → Type 0) (T : TxId → ℕ → NoWhy → Type 0) (W : TxId → TxId → Type 0) (s u : Shard) (t : TxId) (q : Request) → Dooms s u → RowFits E T W s t q → RowFits E T W u t q
row_alike E T W s u t q a r = record { votes = subst (λ n. VotesFit (others n q.touched) (T t) q.votes) (sym a.shard) r.votes; state = state_alike E T W s u t q.state a r.state }

-- nothing speaks against it still, where no abort came
pub doom_alike : (s u : Shard) (t : TxId) → Dooms s u → doom_by (stage_of s.local t) ≡ None → doom_by (stage_of u.local t) ≡ None
doom_alike s u t a e = at (stage_of u.local t) refl
  where
    at : (o : Option Stage) → stage_of u.local t ≡ o → doom_by o ≡ None
    at None f = refl
    at (Some Active) f = refl
    at (Some Closed) f = refl
    at (Some (Gone None)) f = refl
    at (Some (Gone (Some d))) f = absurd (none_some d (sym e ∙ ap doom_by (a.to t d f)))

linked_alike : (s0 s u : Shard) → Alike s u → ((t : TxId) (q : Request) → tx_get t u.requests ≡ Some q → q.state ≡ Undecided → (p : Request) × (tx_get t s.requests ≡ Some p) × (p.state ≡ Undecided) × (first_no p.votes ≡ first_no q.votes)) → Linked s0 s → Linked s0 u
linked_alike s0 s u a k (inl p) = inl (λ x y e. p x y (a.1 x y e))
linked_alike s0 s u a k (inr f) = inr (λ t q g e. let p = k t q g e in let w = f t p.0 p.1 p.2 in (sym p.3 ∙ w.0, doom_alike s u t a.0 w.1))

-- with the same requests and voters
pub within_alike : (E : TxId → Type 0) (T : TxId → ℕ → NoWhy → Type 0) (W : TxId → TxId → Type 0) (s0 s u : Shard) → Alike s u → u.requests ≡ s.requests → u.voters ≡ s.voters → Within E T W s0 s → Within E T W s0 u
within_alike E T W s0 s u a r v k = record {
  linked = linked_alike s0 s u a (λ t q g e. (q, subst (λ z. tx_get t z ≡ Some q) r g, e, refl)) k.linked;
  gone = λ t d e. k.gone t d ((a.0).to t d e);
  rows = λ t q g. row_alike E T W s u t q a.0 (k.rows t q (subst (λ z. tx_get t z ≡ Some q) r g));
  read = λ t w g e. (a.0).none t (k.read t w (subst (λ z. tx_get t z ≡ Some w) v g) e);
}

-- with other links
pub relinked : (E : TxId → Type 0) (T : TxId → ℕ → NoWhy → Type 0) (W : TxId → TxId → Type 0) (s0 s u : Shard) → Dooms s u → u.requests ≡ s.requests → u.voters ≡ s.voters → Linked s0 u → Within E T W s0 s → Within E T W s0 u
relinked E T W s0 s u a r v l k = record {
  linked = l;
  gone = λ t d e. k.gone t d (a.to t d e);
  rows = λ t q g. row_alike E T W s u t q a (k.rows t q (subst (λ z. tx_get t z ≡ Some q) r g));
  read = λ t w g e. a.none t (k.read t w (subst (λ z. tx_get t z ≡ Some w) v g) e);
}

pub as_it_is : (s u : Shard) → u.shard ≡ s.shard → u.local.parts ≡ s.local.parts → u.local.pairs ≡ s.local.pairs → Alike s u
as_it_is s u z e f = (
  record {
    shard = z;
    to = λ t d g. ap (λ p. stage_in p t) (sym e) ∙ g;
    back = λ t d g. ap (λ p. stage_in p t) e ∙ g;
    none = λ t g. ap (λ p. stage_in p t) e ∙ g;
  },
  (λ a b g. subst (λ p. is_pair p a b ≡ true) f g),
)

-- ---- a request is changed

pub within_set : (E : TxId → Type 0) (T : TxId → ℕ → NoWhy → Type 0) (W : TxId → TxId → Type 0) (s0 s : Shard) (tx : TxId) (w : Request) → RowFits E T W s tx w → (w.state ≡ Undecided → (p : Request) × (tx_get tx s.requests ≡ Some p) × (p.state ≡ Undecided) × (first_no p.votes ≡ first_no w.votes)) → Within E T W s0 s
    → Within E T W s0 (record s { requests = tx_set tx w s.requests })
within_set E T W s0 s tx w f k b = record {
  linked = linked_alike s0 s (record s { requests = tx_set tx w s.requests }) (as_it_is s (record s { requests = tx_set tx w s.requests }) refl refl refl) (λ t q g e. at t q e (get_set tx t w q s.requests g)) b.linked;
  gone = b.gone;
  rows = λ t q g. row t q (get_set tx t w q s.requests g);
  read = b.read;
}
  where
    at : (t : TxId) (q : Request) → q.state ≡ Undecided → Set_or_old tx t w q (tx_get t s.requests) → (p : Request) × (tx_get t s.requests ≡ Some p) × (p.state ≡ Undecided) × (first_no p.votes ≡ first_no q.votes)
    at t q e (inl c) = let p = k (ap (λ z. z.state) (sym c.1) ∙ e) in (p.0, subst (λ z. tx_get z s.requests ≡ Some p.0) (sym c.0) p.1, p.2, p.3 ∙ ap (λ z. first_no z.votes) (sym c.1))
    at t q e (inr c) = (q, c.1, e, refl)

    row : (t : TxId) (q : Request) → Set_or_old tx t w q (tx_get t s.requests) → RowFits E T W (record s { requests = tx_set tx w s.requests }) t q
    row t q (inl c) = let z = subst (λ x. RowFits E T W s x q) (sym c.0) (subst (RowFits E T W s tx) (sym c.1) f) in record { votes = z.votes; state = over t q.state z.state }
      where
        over : (t : TxId) (st : RequestState) → StateFits E T W s t st → StateFits E T W (record s { requests = tx_set tx w s.requests }) t st
        over t Undecided a = a
        over t (Committed parts) a = a
        over t Finished a = a
        over t (Refused x) a = a
    row t q (inr c) = row_alike E T W s (record s { requests = tx_set tx w s.requests }) t q (as_it_is s (record s { requests = tx_set tx w s.requests }) refl refl refl).0 (b.rows t q c.1)

-- ---- a part is finished

-- one that was closed, or finished before
abbrev pub MayFinish : Shard → TxId → Type 0
MayFinish s t = (stage_of s.local t ≡ Some Closed) ⊎ (stage_of s.local t ≡ Some (Gone None))

not_doomed : (s : Shard) (t d : TxId) → MayFinish s t → stage_of s.local t ≡ Some (Gone (Some d)) → ⊥
not_doomed s t d (inl e) f = absurd (differ (sym e ∙ f))
  where
    differ : ◌≡◌ {A = Option Stage} (Some Closed) (Some (Gone (Some d))) → ⊥
    differ z = absurd cc
not_doomed s t d (inr e) f = absurd (differ (sym e ∙ f))
  where
    differ : ◌≡◌ {A = Option Stage} (Some (Gone None)) (Some (Gone (Some d))) → ⊥
    differ z = absurd cc

finished_alike : (s : Shard) (tx : TxId) → MayFinish s tx → Alike s (finish_part tx s)
finished_alike s tx m = (
  record {
    shard = refl;
    to = λ t d e. to t d e (tx_in t (tx ∷ [])) refl;
    back = λ t d e. back t d e (tx_in t (tx ∷ [])) refl;
    none = λ t e. none t e (tx_in t (tx ∷ [])) refl;
  },
  (λ a b e. (without_pairs (tx ∷ []) s.local.pairs a b e).0),
)
  where
    own_none : (t d : TxId) → stage_in (gone_in (tx ∷ []) None s.local.parts) t ≡ gone_by None (stage_in s.local.parts t) → stage_in (gone_in (tx ∷ []) None s.local.parts) t ≡ Some (Gone (Some d)) → ⊥
    own_none t d e f = at (stage_in s.local.parts t) (sym e ∙ f)
      where
        at : (o : Option Stage) → gone_by None o ≡ Some (Gone (Some d)) → ⊥
        at None z = absurd cc
        at (Some st) z = absurd cc

    to : (t d : TxId) → stage_in (gone_in (tx ∷ []) None s.local.parts) t ≡ Some (Gone (Some d)) → (b : Bool) → tx_in t (tx ∷ []) ≡ b → stage_in s.local.parts t ≡ Some (Gone (Some d))
    to t d e true i = absurd (own_none t d (stage_own (tx ∷ []) None t s.local.parts i) e)
    to t d e false i = sym (stage_other (tx ∷ []) None t s.local.parts i) ∙ e

    back : (t d : TxId) → stage_in s.local.parts t ≡ Some (Gone (Some d)) → (b : Bool) → tx_in t (tx ∷ []) ≡ b → stage_in (gone_in (tx ∷ []) None s.local.parts) t ≡ Some (Gone (Some d))
    back t d e true i = absurd (not_doomed s tx d m (subst (λ z. stage_in s.local.parts z ≡ Some (Gone (Some d))) (in_one t tx i) e))
    back t d e false i = stage_other (tx ∷ []) None t s.local.parts i ∙ e

    none : (t : TxId) → stage_in s.local.parts t ≡ Some (Gone None) → (b : Bool) → tx_in t (tx ∷ []) ≡ b → stage_in (gone_in (tx ∷ []) None s.local.parts) t ≡ Some (Gone None)
    none t e true i = stage_own (tx ∷ []) None t s.local.parts i ∙ ap (gone_by None) e
    none t e false i = stage_other (tx ∷ []) None t s.local.parts i ∙ e

-- ---- a set is rolled back

doomed_before : (s0 s : Shard) (d t : TxId) → ((a b : TxId) → is_pair s.local.pairs a b ≡ true → is_pair s0.local.pairs a b ≡ true) → tx_in t (doomed_by s.local d) ≡ true → tx_in t (doomed_by s0.local d) ≡ true
doomed_before s0 s d t k i =
    let c = doomed_is_closure s0.local d in
    (doomed_is_closure s.local d).2 (doomed_by s0.local d) c.0 (closed_under s.local.pairs s0.local.pairs (doomed_by s0.local d) k c.1) t i
  where
    closed_under : (ps qs : List (TxId × TxId)) (set : List TxId) → ((a b : TxId) → is_pair ps a b ≡ true → is_pair qs a b ≡ true) → IsClosed qs set → IsClosed ps set
    closed_under ps qs set k c = λ t p e i. c t p (k t p e) i

rolled_stage : (s : Shard) (tx t d : TxId) → stage_of (roll_back tx s.local) t ≡ Some (Gone (Some d)) → (stage_of s.local t ≡ Some (Gone (Some d))) ⊎ ((d ≡ tx) × (tx_in t (doomed_by s.local tx) ≡ true))
rolled_stage s tx t d e = at (tx_in t (doomed_here s.local tx)) refl
  where
    own : gone_by (Some tx) (stage_in s.local.parts t) ≡ Some (Gone (Some d)) → d ≡ tx
    own f = by_stage (stage_in s.local.parts t) f
      where
        by_stage : (o : Option Stage) → gone_by (Some tx) o ≡ Some (Gone (Some d)) → d ≡ tx
        by_stage None z = absurd cc
        by_stage (Some st) z = cc

    at : (b : Bool) → tx_in t (doomed_here s.local tx) ≡ b → (stage_of s.local t ≡ Some (Gone (Some d))) ⊎ ((d ≡ tx) × (tx_in t (doomed_by s.local tx) ≡ true))
    at true i = inr (own (sym (stage_own (doomed_here s.local tx) (Some tx) t s.local.parts i) ∙ e), (in_filter (λ u. is_present (stage_of s.local u)) t (doomed_by s.local tx) i).0)
    at false i = inl (sym (stage_other (doomed_here s.local tx) (Some tx) t s.local.parts i) ∙ e)

not_there : (l : Local) (tx t : TxId) (o : Option TxId) → stage_of l t ≡ Some (Gone o) → tx_in t (doomed_here l tx) ≡ false
not_there l tx t o e = false_from_ne_true (tx_in t (doomed_here l tx)) (λ i. both_ways false refl (subst (λ z. is_present z ≡ true) e (in_filter (λ u. is_present (stage_of l u)) t (doomed_by l tx) i).1))

stays_gone : (l : Local) (tx t : TxId) (o : Option TxId) → stage_of l t ≡ Some (Gone o) → stage_of (roll_back tx l) t ≡ Some (Gone o)
stays_gone l tx t o e = stage_other (doomed_here l tx) (Some tx) t l.parts (not_there l tx t o e) ∙ e

pub within_rolled : (E : TxId → Type 0) (T : TxId → ℕ → NoWhy → Type 0) (W : TxId → TxId → Type 0) (s0 s : Shard) (tx : TxId) → E tx → ((a b : TxId) → is_pair s.local.pairs a b ≡ true → is_pair s0.local.pairs a b ≡ true)
    → ((q : Request) → tx_get tx s.requests ≡ Some q → q.state ≡ Undecided → ⊥) → Within E T W s0 s → Within E T W s0 (with_local (roll_back tx) s)
within_rolled E T W s0 s tx e p nr k = record {
  linked = inl (λ a b x. p a b (without_pairs (doomed_here s.local tx) s.local.pairs a b x).0);
  gone = λ t d x. gone t d (rolled_stage s tx t d x);
  rows = λ t q g. let r = k.rows t q g in record { votes = r.votes; state = state t q q.state g refl r.state };
  read = λ t v g x. stays_gone s.local tx t None (k.read t v g x);
}
  where
    gone : (t d : TxId) → (stage_of s.local t ≡ Some (Gone (Some d))) ⊎ ((d ≡ tx) × (tx_in t (doomed_by s.local tx) ≡ true)) → GoneBy E s0 t d
    gone t d (inl x) = k.gone t d x
    gone t d (inr (x, i)) = at (tx_same t d) refl
      where
        at : (b : Bool) → tx_same t d ≡ b → GoneBy E s0 t d
        at true y = let same = tx_true t d y in inr (inl (same, subst E (sym (same ∙ x)) e))
        at false y = inr (inr ((λ z. both_ways _ y (subst (λ w. tx_same t w ≡ true) z (tx_self t))), subst (λ z. tx_in t (doomed_by s0.local z) ≡ true) (sym x) (doomed_before s0 s tx t p i)))

    state : (t : TxId) (q : Request) (st : RequestState) → tx_get t s.requests ≡ Some q → q.state ≡ st → StateFits E T W s t st → StateFits E T W (with_local (roll_back tx) s) t st
    state t q Undecided g z f = (f.0, (λ x. ⊎_elim (λ y. f.1 y) (λ y. nr q (subst (λ w. tx_get w s.requests ≡ Some q) y.0 g) z) (rolled_stage s tx t t x)))
    state t q (Committed parts) g z f = tt
    state t q Finished g z f = tt
    state t q (Refused c) g z f = refused_alike T W s (with_local (roll_back tx) s) t c (λ d x. stays_gone s.local tx t (Some d) x) f

-- ---- what is due

-- a vote that is Read is of a part that is closed, or has left by it
reads_so : (s : Shard) (tx : TxId) (v : Voter) (b : Bool) → vote_owed (facts_of s tx) v b ≡ Some Read → (v.vote ≡ Some Read → stage_of s.local tx ≡ Some (Gone None)) → MayFinish s tx
reads_so s tx v true e k = absurd (none_some Read e)
reads_so s tx v false e k = by_vote v.vote refl e
  where
    no_gone : (d : Option TxId) → gone_vote d ≡ Some Read → ⊥
    no_gone None z = absurd cc
    no_gone (Some d) z = absurd cc

    by_stage : (o : Option Stage) → stage_of s.local tx ≡ o → vote_in_state (facts_of s tx) v.seen (state_by o) ≡ Some Read → MayFinish s tx
    by_stage None f g = absurd cc
    by_stage (Some Active) f g = absurd (none_some Read g)
    by_stage (Some Closed) f g = inl f
    by_stage (Some (Gone d)) f g = absurd (no_gone (doom_by (stage_of s.local tx)) g)

    by_vote : (w : Option Vote) → v.vote ≡ w → first_vote (facts_of s tx) v.seen w ≡ Some Read → MayFinish s tx
    by_vote (Some x) f g = inr (k (f ∙ g))
    by_vote None f g = by_stage (stage_of s.local tx) refl g

-- a voter is changed
pub within_voter : (E : TxId → Type 0) (T : TxId → ℕ → NoWhy → Type 0) (W : TxId → TxId → Type 0) (s0 s u : Shard) (tx : TxId) (w : Voter) → u.shard ≡ s.shard → u.local ≡ s.local → u.requests ≡ s.requests
    → ((t : TxId) (v : Voter) → tx_get t u.voters ≡ Some v → ((t ≡ tx) × (v ≡ w)) ⊎ (tx_get t s.voters ≡ Some v)) → (w.vote ≡ Some Read → stage_of s.local tx ≡ Some (Gone None)) → Within E T W s0 s → Within E T W s0 u
within_voter E T W s0 s u tx w z l r g n k =
    let a = as_it_is s u z (ap (λ x. x.parts) l) (ap (λ x. x.pairs) l) in
    record {
      linked = linked_alike s0 s u a (λ t q f e. (q, subst (λ x. tx_get t x ≡ Some q) r f, e, refl)) k.linked;
      gone = λ t d e. k.gone t d ((a.0).to t d e);
      rows = λ t q f. row_alike E T W s u t q a.0 (k.rows t q (subst (λ x. tx_get t x ≡ Some q) r f));
      read = λ t v f e. (a.0).none t (⊎_elim (λ c. subst (λ x. stage_of s.local x ≡ Some (Gone None)) (sym c.0) (n (ap (λ x. x.vote) (sym c.1) ∙ e))) (λ c. k.read t v c e) (g t v f));
    }

set_voter : (t tx : TxId) (w v : Voter) (rs : Table Voter) → tx_get t (tx_set tx w rs) ≡ Some v → ((t ≡ tx) × (v ≡ w)) ⊎ (tx_get t rs ≡ Some v)
set_voter t tx w v rs e = at (get_set tx t w v rs e)
  where
    at : Set_or_old tx t w v (tx_get t rs) → ((t ≡ tx) × (v ≡ w)) ⊎ (tx_get t rs ≡ Some v)
    at (inl c) = inl c
    at (inr c) = inr c.1

finished_none : (s : Shard) (tx : TxId) → MayFinish s tx → stage_of (finish_part tx s).local tx ≡ Some (Gone None)
finished_none s tx m = stage_own (tx ∷ []) None tx s.local.parts (or_self (tx_same tx tx) (tx_self tx)) ∙ ⊎_elim (λ e. ap (gone_by None) e) (λ e. ap (gone_by None) e) m
  where
    or_self : (b : Bool) → b ≡ true → (b || false) ≡ true
    or_self true e = refl
    or_self false e = e

within_vote : (E : TxId → Type 0) (T : TxId → ℕ → NoWhy → Type 0) (W : TxId → TxId → Type 0) (s0 s : Shard) (tx : TxId) (v : Voter) (vote : Vote) → (vote ≡ Read → MayFinish s tx) → Within E T W s0 s → Within E T W s0 (finish_reader tx vote (with_vote s tx v vote))
within_vote E T W s0 s tx v Yes m k = within_voter E T W s0 s (with_vote s tx v Yes) tx (voted Yes v) refl refl refl (λ t x e. set_voter t tx (voted Yes v) x s.voters e) (λ e. absurd (differ e)) k
  where
    differ : Some Yes ≡ Some Read → ⊥
    differ z = absurd cc
within_vote E T W s0 s tx v (No why) m k = within_voter E T W s0 s (with_vote s tx v (No why)) tx (voted (No why) v) refl refl refl (λ t x e. set_voter t tx (voted (No why) v) x s.voters e) (λ e. absurd (differ e)) k
  where
    differ : Some (No why) ≡ Some Read → ⊥
    differ z = absurd cc
within_vote E T W s0 s tx v Read m k =
    let f = m refl in
    within_voter E T W s0 (finish_part tx s) (finish_reader tx Read (with_vote s tx v Read)) tx (voted Read v) refl refl refl (λ t x e. set_voter t tx (voted Read v) x s.voters e) (λ e. finished_none s tx f)
    (within_alike E T W s0 s (finish_part tx s) (finished_alike s tx f) refl refl k)

-- why a request is ruled on
pub data RuledBy (s : Shard) (tx : TxId) (q : Request) : Option Ruling → Type 0 where
  none : RuledBy s tx q None
  commit : {parts : List ℕ} → RuledBy s tx q (Some (CommitVerdict parts))
  acknowledge : stage_of s.local tx ≡ Some Closed → RuledBy s tx q (Some Acknowledge)
  abort : {cause : AbortCause} {to : List ℕ} → q.state ≡ Undecided → refusal tx q (facts_of s tx) ≡ Some cause → RuledBy s tx q (Some (AbortVerdict cause to))
  end : RuledBy s tx q (Some EndVerdict)

agreed_by : (s : Shard) (tx : TxId) (q : Request) (f : PartFacts) (u : Bool) (ps : List ℕ) → stage_of s.local tx ≡ Some Closed → RuledBy s tx q (agreed_ruling f u ps)
agreed_by s tx q f u (p ∷ ps) c = commit
agreed_by s tx q f true [] c = commit
agreed_by s tx q f false [] c = at (has_durable_predecessors f)
  where
    at : (b : Bool) → RuledBy s tx q (cond b (Some Acknowledge) None)
    at true = acknowledge c
    at false = none

refused_by : (s : Shard) (tx : TxId) (q : Request) (o : Option AbortCause) → q.state ≡ Undecided → refusal tx q (facts_of s tx) ≡ o → RuledBy s tx q (refused_ruling s.shard q o)
refused_by s tx q None u e = none
refused_by s tx q (Some c) u e = abort u e

undecided_by : (s : Shard) (tx : TxId) (q : Request) (b : Bool) → is_agreed s.shard q (facts_of s tx) ≡ b → q.state ≡ Undecided → RuledBy s tx q (undecided_ruling s.shard tx q (facts_of s tx) b)
undecided_by s tx q true e u =
    let f = facts_of s tx in
    let p = and_parts (is_waiting f && (f.undecided == 0)) (list_all (λ p. is_good (vote_from p q.votes)) (others s.shard q.touched)) e in
    agreed_by s tx q f f.updates (yes_shards s.shard q) (waiting_here s tx (and_parts (is_waiting f) (f.undecided == 0) p.0).0).0
undecided_by s tx q false e u = refused_by s tx q (refusal tx q (facts_of s tx)) u refl

ended_by_all : (s : Shard) (tx : TxId) (q : Request) (ps : List ℕ) → RuledBy s tx q (end_ruling q ps)
ended_by_all s tx q [] = none
ended_by_all s tx q (p ∷ ps) = at _
  where
    at : (b : Bool) → RuledBy s tx q (cond b (Some EndVerdict) None)
    at true = end
    at false = none

pub ruled_by : (s : Shard) (tx : TxId) (q : Request) (st : RequestState) → q.state ≡ st → RuledBy s tx q (ruling_in s.shard tx q (facts_of s tx) st)
ruled_by s tx q Undecided u = undecided_by s tx q (is_agreed s.shard q (facts_of s tx)) refl u
ruled_by s tx q (Committed parts) u = ended_by_all s tx q parts
ruled_by s tx q Finished u = none
ruled_by s tx q (Refused c) u = none

-- ---- the cause of a refusal

doomed_stage : (o : Option Stage) (d : TxId) → doom_by o ≡ Some d → o ≡ Some (Gone (Some d))
doomed_stage None d e = absurd (none_some d e)
doomed_stage (Some Active) d e = absurd (none_some d e)
doomed_stage (Some Closed) d e = absurd (none_some d e)
doomed_stage (Some (Gone o)) d e = ap (λ z. Some (Gone z)) e

refused_so : (E : TxId → Type 0) (T : TxId → ℕ → NoWhy → Type 0) (W : TxId → TxId → Type 0) (s : Shard) (tx : TxId) (q : Request) (c : AbortCause) → VotesFit (others s.shard q.touched) (T tx) q.votes → (stage_of s.local tx ≡ Some (Gone (Some tx)) → ⊥) → refusal tx q (facts_of s tx) ≡ Some c → RefusedFor T W s tx c
refused_so E T W s tx q c v n e = by_no (first_no q.votes) refl e
  where
    by_name : (d : TxId) (b : Bool) → tx_same tx d ≡ b → stage_of s.local tx ≡ Some (Gone (Some d)) → Some (cond b AskedCause (Predecessor d)) ≡ Some c → RefusedFor T W s tx c
    by_name d true f g h = absurd (n (subst (λ z. stage_of s.local tx ≡ Some (Gone (Some z))) (sym (tx_true tx d f)) g))
    by_name d false f g h = inr (d, sym (some_same (Predecessor d) c h), (λ z. both_ways _ f (subst (λ w. tx_same tx w ≡ true) z (tx_self tx))), inr g)

    by_doom : (o : Option TxId) → doom_by (stage_of s.local tx) ≡ o → cause_by tx None o ≡ Some c → RefusedFor T W s tx c
    by_doom None f g = absurd (none_some c g)
    by_doom (Some d) f g = by_name d (tx_same tx d) refl (doomed_stage (stage_of s.local tx) d f) g

    by_no : (o : Option AbortCause) → first_no q.votes ≡ o → cause_by tx o (doom_by (stage_of s.local tx)) ≡ Some c → RefusedFor T W s tx c
    by_no None f g = by_doom (doom_by (stage_of s.local tx)) refl g
    by_no (Some x) f g = let a = no_in (others s.shard q.touched) (T tx) q.votes q.votes c v (f ∙ g) in inl (a.from, a.why, a.cause, a.holds)

pub opposed : (s : Shard) (tx : TxId) (q : Request) (c : AbortCause) → Unopposed s tx q → refusal tx q (facts_of s tx) ≡ Some c → ⊥
opposed s tx q c u e = none_some c (sym (ap (λ o. cause_by tx o (doom_by (stage_of s.local tx))) u.0 ∙ ap (cause_by tx None) u.1) ∙ e)

ruling_fits : (E : TxId → Type 0) (T : TxId → ℕ → NoWhy → Type 0) (W : TxId → TxId → Type 0) (s0 s : Shard) (tx : TxId) (q : Request) (r : Ruling) → tx_get tx s.requests ≡ Some q → RuledBy s tx q (Some r) → Within E T W s0 s → Within E T W s0 (do_ruling tx r (with_ruling tx q r s))
ruling_fits E T W s0 s tx q _ g (commit {parts = parts}) k =
    let w = ruled_request (CommitVerdict parts) q in
    let u = with_ruling tx q (CommitVerdict parts) s in
    within_alike E T W s0 u (do_ruling tx (CommitVerdict parts) u) (as_it_is u (do_ruling tx (CommitVerdict parts) u) refl refl refl) refl refl
    (within_set E T W s0 s tx w (record { votes = (k.rows tx q g).votes; state = tt }) (λ e. absurd cc) k)
ruling_fits E T W s0 s tx q _ g (acknowledge c) k =
    let w = ruled_request Acknowledge q in
    let u = with_ruling tx q Acknowledge s in
    within_alike E T W s0 u (finish_part tx u) (finished_alike u tx (inl c)) refl refl (within_set E T W s0 s tx w (record { votes = (k.rows tx q g).votes; state = tt }) (λ e. absurd cc) k)
ruling_fits E T W s0 s tx q _ g (abort {cause = cause} {to = to} u e) k =
    let row = k.rows tx q g in
    let st : StateFits E T W s tx Undecided = subst (StateFits E T W s tx) u row.state in
    let w = ruled_request (AbortVerdict cause to) q in
    let m = with_ruling tx q (AbortVerdict cause to) s in
    let b = within_set E T W s0 s tx w (record { votes = row.votes; state = refused_so E T W s tx q cause row.votes st.1 e }) (λ z. absurd cc) k in
    let p = within_rolled E T W s0 m tx st.0 (⊎_elim (λ x. x) (λ f. absurd (opposed s tx q cause (f tx q g u) e)) k.linked) (λ r y z. now_refused r z (get_set tx tx w r s.requests y)) b in
    within_alike E T W s0 (with_local (roll_back tx) m) (do_ruling tx (AbortVerdict cause to) m) (as_it_is (with_local (roll_back tx) m) (do_ruling tx (AbortVerdict cause to) m) refl refl refl) refl refl p
  where
    now_refused : (r : Request) → r.state ≡ Undecided → Set_or_old tx tx (ruled_request (AbortVerdict cause to) q) r (tx_get tx s.requests) → ⊥
    now_refused r z (inl c) = differ (sym (ap (λ x. x.state) c.1) ∙ z)
      where
        differ : Refused cause ≡ Undecided → ⊥
        differ x = absurd cc
    now_refused r z (inr c) = c.0 refl
ruling_fits E T W s0 s tx q _ g end k =
    let row = k.rows tx q g in
    let w = ruled_request EndVerdict q in
    let u = with_ruling tx q EndVerdict s in
    within_alike E T W s0 u (do_ruling tx EndVerdict u) (as_it_is u (do_ruling tx EndVerdict u) refl refl refl) refl refl
    (within_set E T W s0 s tx w (record { votes = row.votes; state = row.state }) (λ e. (q, g, e, refl)) k)

pub within_due : (E : TxId → Type 0) (T : TxId → ℕ → NoWhy → Type 0) (W : TxId → TxId → Type 0) (s0 : Shard) → KeptByDue (Within E T W s0)
within_due E T W s0 s _ (commits tx c d) k =
    within_alike E T W s0 (finish_part tx s) _ (as_it_is (finish_part tx s) _ refl refl refl) refl refl (within_alike E T W s0 s (finish_part tx s) (finished_alike s tx (inl c)) refl refl k)
within_due E T W s0 s _ (votes tx v vote g e) k = within_vote E T W s0 s tx v vote (λ r. reads_so s tx v (v.owed == 0) (e ∙ ap (λ z. Some z) r) (k.read tx v g)) k
within_due E T W s0 s _ (rules tx q r g e) k = ruling_fits E T W s0 s tx q r g (subst (RuledBy s tx q) e (ruled_by s tx q q.state refl)) k

pub within_finish : (E : TxId → Type 0) (T : TxId → ℕ → NoWhy → Type 0) (W : TxId → TxId → Type 0) (s0 s : Shard) → Within E T W s0 s → Within E T W s0 (finish s)
within_finish E T W s0 s k = let q = settled (Within E T W s0) s (within_due E T W s0) k in within_alike E T W s0 (with_due_done s) (finish s) (as_it_is (with_due_done s) (finish s) refl refl refl) refl refl q
