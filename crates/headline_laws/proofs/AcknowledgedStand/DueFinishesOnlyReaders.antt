-- Within an entry: a request is finished only where its part was here and no write of it stood, and each other shard that it names voted read.
use Rattle.std.proofs.Common.{◌≡◌, ◌⊎◌, inl, inr, refl, sym, ap, subst, ◌∙◌, ℕ, true, false, cond, Bool, ◌&&◌, ◌==◌, List, [], ◌∷◌, Option, Some, None, eqb-true}
use Rattle.std.specs.Prelude.{⊤}
use Rattle.std.specs.List.{AllByRecursion, filter, list_all}
use Rattle.std.proofs.lemmas.Bool.{both_ways, and_parts, or_cases, or_left, false_from_ne_true}
use Rattle.clv_base.specs.declared.names.TxId.{TxId}
use Rattle.clv_base.specs.declared.causes.Vote.{Vote}
use Rattle.clv_base.specs.declared.causes.Vote.TheVariants.{Yes, Read, No}
use Rattle.clv_base.specs.declared.parts.PartFacts.{PartFacts}
use Rattle.clv_base.specs.declared.state.Request.{Request}
use Rattle.clv_base.specs.declared.state.RequestState.{RequestState}
use Rattle.clv_base.specs.declared.state.RequestState.TheVariants.{Undecided, Committed, Finished, Refused}
use Rattle.clv_base.specs.declared.state.Ruling.{Ruling}
use Rattle.clv_base.specs.declared.state.Ruling.TheVariants.{Commit as CommitVerdict, Acknowledge, Abort as AbortVerdict, End as EndVerdict}
use Rattle.clv_base.specs.declared.state.Stage.TheVariants.{Closed}
use Rattle.clv_base.specs.Orders.{tx_same, tx_get, nat_in}
use Rattle.clv_base.specs.Logs.{has_standing, prepared_in, committed_in}
use Rattle.clv_base.specs.State.{Shard, Local}
use Rattle.clv_base.specs.Undo.{stage_of, release_parts}
use Rattle.clv_base.specs.Facts.{facts_of, is_waiting}
use Rattle.clv_base.specs.Participant.{is_yes_vote}
use Rattle.clv_base.specs.Coordinator.{others, vote_from, is_good, yes_shards, is_agreed, agreed_ruling, refusal, undecided_ruling, ruling_in, ruling_by, ruled_request}
use Rattle.clv_base.specs.OneShard.{purge}
use Rattle.clv_base.specs.Due.{with_due_done, with_ruling, do_ruling}
use Rattle.clv_base.specs.Events.{finish}
use Rattle.clv_base.proofs.SameNames.{tx_self}
use Rattle.law_base.proofs.Changed.{none_some, Set_or_old, get_set}
use Rattle.law_base.proofs.Stages.{gone_by, stage_own}
use Rattle.shard_laws.proofs.Order.ChangesKeepOrder.{prepare_some}
use Rattle.history_cases.proofs.Stepping.{Due, commits, votes, rules, KeptByDue, settled}
use Rattle.fate_laws.proofs.Parts.OthersCloseOrGo.{due_closed, due_prepares}
use Rattle.fate_laws.proofs.Logs.LogOnlyGrows.{inside_self, inside_due}
use Rattle.fate_laws.proofs.Parts.PutVotesAreHeld.{votes_get}
use Rattle.fate_laws.proofs.FallenAreUncommitted.RulingsThatEndNothing.{ack_refused, ack_end, no_end_undecided}
use Rattle.fate_laws.proofs.Parts.ClosedPartsKeepWrites.{due_stands}
use Rattle.headline_laws.proofs.AcknowledgedStand.NonWritersStayGone.{Quiet, agreed_closed, quiet_due, quiet_purged}
use Rattle.protocol_laws.proofs.LogsInOrder.OneRecordMore.{prepared_there}

-- ---- votes. V: who voted what

abbrev pub Told : (ℕ → Vote → Type 0) → List (ℕ × Vote) → Type 0
Told V vs = AllByRecursion (λ r. V r.0 r.1) vs

-- a good vote that isn't a yes is a read
read_is : (o : Option Vote) → is_good o ≡ true → is_yes_vote o ≡ false → o ≡ Some Read
read_is None g y = absurd (both_ways false refl g)
read_is (Some Yes) g y = absurd (both_ways true y refl)
read_is (Some Read) g y = refl
read_is (Some (No why)) g y = absurd (both_ways false refl g)

all_read : (vs : List (ℕ × Vote)) (ps : List ℕ) (m : ℕ) → list_all (λ p. is_good (vote_from p vs)) ps ≡ true → filter (λ p. is_yes_vote (vote_from p vs)) ps ≡ [] → nat_in m ps ≡ true → vote_from m vs ≡ Some Read
all_read vs [] m g f i = absurd (both_ways false refl i)
all_read vs (p ∷ ps) m g f i =
    let b = and_parts (is_good (vote_from p vs)) (list_all (λ p. is_good (vote_from p vs)) ps) g in
    at (is_yes_vote (vote_from p vs)) refl f b.0 (or_cases (m == p) (nat_in m ps) i) (λ h. all_read vs ps m b.1 h)
  where
    at : (b : Bool) → is_yes_vote (vote_from p vs) ≡ b → cond b (p ∷ filter (λ p. is_yes_vote (vote_from p vs)) ps) (filter (λ p. is_yes_vote (vote_from p vs)) ps) ≡ [] → is_good (vote_from p vs) ≡ true → ((m == p) ≡ true) ⊎ (nat_in m ps ≡ true)
        → (filter (λ p. is_yes_vote (vote_from p vs)) ps ≡ [] → nat_in m ps ≡ true → vote_from m vs ≡ Some Read) → vote_from m vs ≡ Some Read
    at true e h g c k = absurd cc
    at false e h g (inl q) k = subst (λ z. vote_from z vs ≡ Some Read) (sym (eqb-true m p q)) (read_is (vote_from p vs) g e)
    at false e h g (inr n) k = k h n

-- ---- the ruling that finishes a request

pub record Agreed (s : Shard) (t : TxId) (q : Request) : Type 0 where
  pub open_ : q.state ≡ Undecided
  pub closed : stage_of s.local t ≡ Some Closed
  pub uncommitted : committed_in s.local.log t ≡ false
  pub unwritten : has_standing s.local.log t ≡ false
  pub read : (m : ℕ) → nat_in m (others s.shard q.touched) ≡ true → vote_from m q.votes ≡ Some Read

by_votes : (s : Shard) (t : TxId) (q : Request) (u : Bool) (ys : List ℕ) → q.state ≡ Undecided → is_agreed s.shard q (facts_of s t) ≡ true → has_standing s.local.log t ≡ u → yes_shards s.shard q ≡ ys → agreed_ruling (facts_of s t) u ys ≡ Some Acknowledge → Agreed s t q
by_votes s t q u (y ∷ ys) o a w f e = absurd cc
by_votes s t q true [] o a w f e = absurd cc
by_votes s t q false [] o a w f e =
    let c = agreed_closed s t q a in
    record {
      open_ = o;
      closed = c.0;
      uncommitted = c.1;
      unwritten = w;
      read = λ m i. all_read q.votes (others s.shard q.touched) m (and_parts (is_waiting (facts_of s t) && ((facts_of s t).undecided == 0)) (list_all (λ p. is_good (vote_from p q.votes)) (others s.shard q.touched)) a).1 f i;
    }

by_agreement : (s : Shard) (t : TxId) (q : Request) (b : Bool) → q.state ≡ Undecided → is_agreed s.shard q (facts_of s t) ≡ b → undecided_ruling s.shard t q (facts_of s t) b ≡ Some Acknowledge → Agreed s t q
by_agreement s t q true o a e = by_votes s t q (has_standing s.local.log t) (yes_shards s.shard q) o a refl refl e
by_agreement s t q false o a e = absurd (ack_refused s.shard q (refusal t q (facts_of s t)) e)

by_state : (s : Shard) (t : TxId) (q : Request) (st : RequestState) → q.state ≡ st → ruling_in s.shard t q (facts_of s t) st ≡ Some Acknowledge → Agreed s t q
by_state s t q Undecided o e = by_agreement s t q (is_agreed s.shard q (facts_of s t)) o refl e
by_state s t q (Committed parts) o e = absurd (ack_end q parts e)
by_state s t q Finished o e = absurd (none_some Acknowledge e)
by_state s t q (Refused c) o e = absurd (none_some Acknowledge e)

acknowledges : (s : Shard) (t : TxId) (q : Request) → ruling_by s.shard t q (facts_of s t) ≡ Some Acknowledge → Agreed s t q
acknowledges s t q e = by_state s t q q.state refl e

end_in : (shard : ℕ) (t : TxId) (q : Request) (f : PartFacts) (st : RequestState) → q.state ≡ st → ruling_in shard t q f st ≡ Some EndVerdict → (parts : List ℕ) × (q.state ≡ Committed parts)
end_in shard t q f Undecided o e = absurd (no_end_undecided shard t q f (is_agreed shard q f) e)
end_in shard t q f (Committed parts) o e = (parts, o)
end_in shard t q f Finished o e = absurd (none_some EndVerdict e)
end_in shard t q f (Refused c) o e = absurd (none_some EndVerdict e)

-- ---- what holds within an entry of the home. F: whose request was finished before; P: whose part was here before, and no write stood;
-- W: whose request was taken here, with which touched shards; V: who voted what on whom

pub record Ends (P : TxId → Type 0) (W : TxId → List (ℕ × ℕ) → Type 0) (V : TxId → ℕ → Vote → Type 0) (home : ℕ) (l : Local) (t : TxId) : Type 0 where
  pub quiet : Quiet l t
  pub was : P t
  pub touched : List (ℕ × ℕ)
  pub taken : W t touched
  pub read : (m : ℕ) → nat_in m (others home touched) ≡ true → V t m Read

abbrev pub RowIs : (F P : TxId → Type 0) → (TxId → List (ℕ × ℕ) → Type 0) → (TxId → ℕ → Vote → Type 0) → ℕ → Local → TxId → Request → RequestState → Type 0
RowIs F P W V home l t q Undecided = W t q.touched × Told (V t) q.votes
RowIs F P W V home l t q (Committed parts) = ⊤
RowIs F P W V home l t q Finished = F t ⊎ Ends P W V home l t
RowIs F P W V home l t q (Refused cause) = ⊤

pub record Within (F P : TxId → Type 0) (W : TxId → List (ℕ × ℕ) → Type 0) (V : TxId → ℕ → Vote → Type 0) (home : ℕ) (s : Shard) : Type 0 where
  pub shard : s.shard ≡ home
  pub closed : (t : TxId) → stage_of s.local t ≡ Some Closed → has_standing s.local.log t ≡ false → P t
  pub stands : (t : TxId) → prepared_in s.local.log t ≡ true → stage_of s.local t ≡ Some Closed → has_standing s.local.log t ≡ true
  pub rows : (t : TxId) (q : Request) → tx_get t s.requests ≡ Some q → RowIs F P W V home s.local t q q.state

module _ (F P : TxId → Type 0) (W : TxId → List (ℕ × ℕ) → Type 0) (V : TxId → ℕ → Vote → Type 0) (home : ℕ) where
  pub row_on : (l m : Local) (t : TxId) (q : Request) (st : RequestState) → (Quiet l t → Quiet m t) → RowIs F P W V home l t q st → RowIs F P W V home m t q st
  row_on l m t q Undecided k r = r
  row_on l m t q (Committed parts) k r = tt
  row_on l m t q Finished k (inl f) = inl f
  row_on l m t q Finished k (inr e) = inr (record { quiet = k e.quiet; was = e.was; touched = e.touched; taken = e.taken; read = e.read })
  row_on l m t q (Refused cause) k r = tt

  finishes : (s : Shard) (u : TxId) (q : Request) → tx_get u s.requests ≡ Some q → Agreed s u q → Within F P W V home s → Ends P W V home (release_parts (u ∷ []) None s.local) u
  finishes s u q g a k =
      let row : RowIs F P W V home s.local u q Undecided = subst (RowIs F P W V home s.local u q) a.open_ (k.rows u q g) in
      record {
        quiet = record {
          out = inr (stage_own (u ∷ []) None u s.local.parts (or_left (tx_same u u) false (tx_self u)) ∙ ap (gone_by None) a.closed);
          unwritten = a.unwritten;
          unprepared = false_from_ne_true _ (λ h. both_ways _ a.unwritten (k.stands u h a.closed));
          uncommitted = a.uncommitted;
        };
        was = k.closed u a.closed a.unwritten;
        touched = q.touched;
        taken = row.0;
        read = λ m i. votes_get (V u) q.votes m Read row.1 (a.read m (subst (λ n. nat_in m (others n q.touched) ≡ true) (sym k.shard) i));
      }

  ruled : (s : Shard) (u : TxId) (q : Request) (r : Ruling) → tx_get u s.requests ≡ Some q → ruling_by s.shard u q (facts_of s u) ≡ Some r → Within F P W V home s
      → RowIs F P W V home (do_ruling u r (with_ruling u q r s)).local u (ruled_request r q) (ruled_request r q).state
  ruled s u q (CommitVerdict parts) g e k = tt
  ruled s u q Acknowledge g e k = inr (finishes s u q g (acknowledges s u q e) k)
  ruled s u q (AbortVerdict cause to) g e k = tt
  ruled s u q EndVerdict g e k =
      let c = end_in s.shard u q (facts_of s u) q.state refl e in
      subst (RowIs F P W V home (do_ruling u EndVerdict (with_ruling u q EndVerdict s)).local u (ruled_request EndVerdict q)) (sym c.1) tt

  rows_ruled : (s x : Shard) (u : TxId) (p : Request) (r : Ruling) → x.local ≡ (do_ruling u r (with_ruling u p r s)).local → tx_get u s.requests ≡ Some p → ruling_by s.shard u p (facts_of s u) ≡ Some r → ((t : TxId) → Quiet s.local t → Quiet x.local t)
      → Within F P W V home s → (t : TxId) (q : Request) → Set_or_old u t (ruled_request r p) q (tx_get t s.requests) → RowIs F P W V home x.local t q q.state
  rows_ruled s x u p r l g e z k t q (inl c) =
      subst (λ (y : Request). RowIs F P W V home x.local t y y.state) (sym c.1)
      (subst (λ v. RowIs F P W V home x.local v (ruled_request r p) (ruled_request r p).state) (sym c.0)
      (subst (λ y. RowIs F P W V home y u (ruled_request r p) (ruled_request r p).state) (sym l) (ruled s u p r g e k)))
  rows_ruled s x u p r l g e z k t q (inr c) = row_on s.local x.local t q q.state (z t) (k.rows t q c.1)

  rows_due : (s x : Shard) → Due s (Some x) → ((t : TxId) → Quiet s.local t → Quiet x.local t) → Within F P W V home s → (t : TxId) (q : Request) → tx_get t x.requests ≡ Some q → RowIs F P W V home x.local t q q.state
  rows_due s x (commits u a b) z k t q g = row_on s.local x.local t q q.state (z t) (k.rows t q g)
  rows_due s x (votes u v Yes a b) z k t q g = row_on s.local x.local t q q.state (z t) (k.rows t q g)
  rows_due s x (votes u v Read a b) z k t q g = row_on s.local x.local t q q.state (z t) (k.rows t q g)
  rows_due s x (votes u v (No why) a b) z k t q g = row_on s.local x.local t q q.state (z t) (k.rows t q g)
  rows_due s x (rules u p (CommitVerdict parts) a b) z k t q g = rows_ruled s x u p (CommitVerdict parts) refl a b z k t q (get_set u t (ruled_request (CommitVerdict parts) p) q s.requests g)
  rows_due s x (rules u p Acknowledge a b) z k t q g = rows_ruled s x u p Acknowledge refl a b z k t q (get_set u t (ruled_request Acknowledge p) q s.requests g)
  rows_due s x (rules u p (AbortVerdict cause to) a b) z k t q g = rows_ruled s x u p (AbortVerdict cause to) refl a b z k t q (get_set u t (ruled_request (AbortVerdict cause to) p) q s.requests g)
  rows_due s x (rules u p EndVerdict a b) z k t q g = rows_ruled s x u p EndVerdict refl a b z k t q (get_set u t (ruled_request EndVerdict p) q s.requests g)

  within_due : KeptByDue (Within F P W V home)
  within_due s x d k =
      let i = inside_due s s x d (inside_self s) in
      record {
        shard = i.shard ∙ k.shard;
        closed = λ t h n. k.closed t (due_closed s x t d h) (false_from_ne_true _ (λ w. both_ways _ n (due_stands s x t d h w)));
        stands = λ t h c. let p = prepare_some x.local.log t h in due_stands s x t d c (k.stands t (prepared_there s.local.log t p.0 (due_prepares s x d t p.0 p.1)) (due_closed s x t d c));
        rows = rows_due s x d (λ t h. quiet_due s x t d h) k;
      }

  pub within_finish : (x : Shard) → Within F P W V home x → Within F P W V home (finish x)
  within_finish x k =
      let y = with_due_done x in
      let q = settled (Within F P W V home) x within_due k in
      record { shard = q.shard; closed = q.closed; stands = q.stands; rows = λ t r g. row_on y.local (purge y.local) t r r.state (quiet_purged y.local t) (q.rows t r g) }
