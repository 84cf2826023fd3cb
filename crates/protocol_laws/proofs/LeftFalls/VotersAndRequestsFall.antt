-- What one voter and one request count: less where nothing comes of their part any more, and less once what is due of them is done.
use Rattle.std.proofs.Common.{◌≡◌, refl, sym, ◌∙◌, ap, subst, ℕ, pred, ◌<◌, ◌≤◌, true, false, cond, Bool, List, [], ◌∷◌, Option, Some, None, not, ◌&&◌, ◌==◌, arith}
use Rattle.std.proofs.lemmas.Bool.{both_ways}
use Rattle.std.specs.List.{list_all}
use Rattle.clv_base.specs.declared.names.TxId.{TxId}
use Rattle.clv_base.specs.declared.causes.Vote.{Vote}
use Rattle.clv_base.specs.declared.causes.AbortCause.{AbortCause}
use Rattle.clv_base.specs.Orders.{nat_in}
use Rattle.clv_base.specs.declared.state.Ruling.TheVariants.{Acknowledge, End as EndVerdict}
use Rattle.clv_base.specs.State.{Shard}
use Rattle.clv_base.specs.declared.state.Voter.{Voter}
use Rattle.clv_base.specs.declared.state.Request.{Request}
use Rattle.clv_base.specs.declared.state.RequestState.{RequestState}
use Rattle.clv_base.specs.declared.state.RequestState.TheVariants.{Undecided, Committed, Finished, Refused}
use Rattle.clv_base.specs.declared.state.Ruling.{Ruling}
use Rattle.clv_base.specs.Facts.{state_by, doom_by, facts_of, has_durable_predecessors}
use Rattle.clv_base.specs.declared.parts.PartState.TheVariants.{Gone as GoneState}
use Rattle.clv_base.specs.Events.{is_alone}
use Rattle.clv_base.specs.declared.parts.PartFacts.{PartFacts}
use Rattle.clv_base.specs.Participant.{vote_by, vote_owed, vote_in_state, gone_vote, first_vote, voted}
use Rattle.clv_base.specs.Coordinator.{others, first_no, is_good, vote_from, cause_by, ruling_in, undecided_ruling, agreed_ruling, refused_ruling, refusal, end_ruling, ruled_request, is_agreed, yes_shards}
use Rattle.protocol_laws.specs.Candidates.{is_ruling_due}
use Rattle.protocol_laws.specs.Candidates.{is_vote_due}
use Rattle.protocol_laws.specs.Left.{is_finished, is_idle, left_voter, is_lone, left_by, left_request, count_of}
use Rattle.protocol_laws.proofs.LeftFalls.FinishedStayFinished.{FallsBy, finished_stage, idle_stage}
use Rattle.protocol_laws.proofs.OnlyWorkIsDue.{open_end}
use Rattle.std.proofs.lemmas.Bool.{and_parts}
use Rattle.std.proofs.Common.{is_none, is_some, ⊎_elim}
use Rattle.clv_base.specs.Facts.{is_closed_state}
use Rattle.law_base.proofs.Options.{none_of}
use Rattle.clv_base.proofs.Settling.{owes}

-- ---- where nothing comes of a part any more

pub voter_falls : FallsBy left_voter
voter_falls v = at (is_none v.vote)
  where
    at : (b : Bool) → cond b 0 v.owed ≤ v.owed
    at true = omega arith
    at false = omega arith

pub request_falls : (shard : ℕ) → FallsBy (left_request shard)
request_falls shard q = at q.state (is_lone shard q)
  where
    at : (st : RequestState) (b : Bool) → left_by b st q.is_ended ≤ left_by false st q.is_ended
    at Undecided true = omega arith
    at Undecided false = omega arith
    at (Committed []) b = omega arith
    at (Committed (p ∷ ps)) b = omega arith
    at Finished b = omega arith
    at (Refused c) b = omega arith

-- ---- votes

-- a vote that is due was owed
IsVote : Option Vote → Type 0
IsVote None = ⊥
IsVote (Some x) = Unit {0}

-- one of a part that is finished was given before
given_before : (f : PartFacts) (v : Voter) (vote : Vote) → f.state ≡ GoneState → f.doom ≡ None → vote_by f v ≡ Some vote → is_none v.vote ≡ false
unfolding IsVote
given_before f v vote state doom e = owed (v.owed == 0) e
  where
    none : vote_in_state f v.seen f.state ≡ None
    none = ap (vote_in_state f v.seen) state ∙ ap gone_vote doom

    first : (o : Option Vote) → first_vote f v.seen o ≡ Some vote → is_none o ≡ false
    first (Some x) h = refl
    first None h = absurd (subst IsVote (sym (sym none ∙ h)) tt)

    owed : (b : Bool) → vote_owed f v b ≡ Some vote → is_none v.vote ≡ false
    owed true h = absurd (subst IsVote (sym h) tt)
    owed false h = first v.vote h

-- what the facts of a part that is finished are
abbrev pub FactsFinished : Bool → PartFacts → Type 0
FactsFinished finished f = finished ≡ true → (f.state ≡ GoneState) × (f.doom ≡ None)

-- and of one that is idle: it isn't closed, and no abort took it away
abbrev pub FactsIdle : Bool → PartFacts → Type 0
FactsIdle idle f = idle ≡ true → (is_closed_state f.state ≡ false) × (f.doom ≡ None)

pub idle_facts : (s : Shard) (tx : TxId) → FactsIdle (is_idle s.local.parts tx) (facts_of s tx)
idle_facts s tx e = ⊎_elim (λ h. (ap (λ o. is_closed_state (state_by o)) h, ap doom_by h)) (λ h. (ap (λ o. is_closed_state (state_by o)) h, ap doom_by h)) (idle_stage s.local tx e)

pub finished_facts : (s : Shard) (tx : TxId) → FactsFinished (is_finished s.local.parts tx) (facts_of s tx)
finished_facts s tx e = let stage = finished_stage s.local tx e in (ap state_by stage, ap doom_by stage)

-- a vote that is due counts what is owed
pub vote_counts : (finished : Bool) (f : PartFacts) (v : Voter) (vote : Vote) → FactsFinished finished f → vote_by f v ≡ Some vote → left_voter finished v ≡ v.owed
vote_counts true f v vote facts e = let h = facts refl in ap (λ b. cond b 0 v.owed) (given_before f v vote h.0 h.1 e)
vote_counts false f v vote facts e = refl

pub voted_counts : (finished : Bool) (v : Voter) (vote : Vote) → left_voter finished (voted vote v) ≡ pred v.owed
voted_counts true v vote = refl
voted_counts false v vote = refl

-- ---- rulings

-- nothing is ruled of a lone request whose part is idle
over_none : (shard : ℕ) (tx : TxId) (q : Request) (f : PartFacts) → is_closed_state f.state ≡ false → f.doom ≡ None → is_lone shard q ≡ true → undecided_ruling shard tx q f (is_agreed shard q f) ≡ None
over_none shard tx q f apart doom lone = ap (undecided_ruling shard tx q f) disagreed ∙ ap (refused_ruling shard q) (ap (λ c. cause_by tx c f.doom) no ∙ ap (cause_by tx None) doom)
  where
    no : first_no q.votes ≡ None
    no = none_of (first_no q.votes) (and_parts (is_alone (others shard q.touched)) (is_none (first_no q.votes)) lone).1

    disagreed : is_agreed shard q f ≡ false
    disagreed = ap (λ b. (b && is_none f.commit) && (f.undecided == 0) && list_all (λ p. is_good (vote_from p q.votes)) (others shard q.touched)) apart

-- an undecided request that isn't over and is ruled
less_undecided : (shard : ℕ) (idle : Bool) (q : Request) (r : RequestState) → q.state ≡ Undecided → (idle && is_lone shard q) ≡ false → ((b : Bool) → left_by b r q.is_ended ≤ 1) → left_request shard idle (record q { state = r }) < left_request shard idle q
less_undecided shard idle q r u going z =
    let two : left_by (idle && is_lone shard q) q.state q.is_ended ≡ 2 = ap (λ st. left_by (idle && is_lone shard q) st q.is_ended) u ∙ ap (λ b. left_by b Undecided q.is_ended) going in
    let one = z (idle && is_lone shard q) in
    omega (arith, two, one)

one_most : (b : Bool) → ◌≤◌ (cond b 0 1) 1
one_most true = omega arith
one_most false = omega arith

-- a ruling leaves less to do of the request
unfoldable pub RulingLess : ℕ → Bool → Request → Option Ruling → Type 0
RulingLess shard idle q None = Unit {0}
RulingLess shard idle q (Some r) = left_request shard idle (ruled_request r q) < left_request shard idle q

module _ (shard : ℕ) (idle : Bool) (q : Request) where
  module _ (u : q.state ≡ Undecided) (going : (idle && is_lone shard q) ≡ false) where
    less_reader : (b : Bool) → RulingLess shard idle q (cond b (Some Acknowledge) None)
    unfolding RulingLess
    less_reader true = less_undecided shard idle q Finished u going (λ b. omega arith)
    less_reader false = tt

    less_agreed : (f : PartFacts) (b : Bool) (ps : List ℕ) → RulingLess shard idle q (agreed_ruling f b ps)
    unfolding RulingLess
    less_agreed f b (p ∷ ps) = less_undecided shard idle q (Committed (p ∷ ps)) u going (λ b. one_most q.is_ended)
    less_agreed f true [] = less_undecided shard idle q (Committed []) u going (λ b. omega arith)
    less_agreed f false [] = less_reader (has_durable_predecessors f)

    less_refused : (c : Option AbortCause) → RulingLess shard idle q (refused_ruling shard q c)
    unfolding RulingLess
    less_refused None = tt
    less_refused (Some c) = less_undecided shard idle q (Refused c) u going (λ b. omega arith)

    less_by : (tx : TxId) (f : PartFacts) (b : Bool) → RulingLess shard idle q (undecided_ruling shard tx q f b)
    less_by tx f true = less_agreed f f.updates (yes_shards shard q)
    less_by tx f false = less_refused (refusal tx q f)

  open_one : (p : ℕ) (ps : List ℕ) → q.state ≡ Committed (p ∷ ps) → q.is_ended ≡ false → left_request shard idle q ≡ 1
  open_one p ps u e = ap (λ st. left_by (idle && is_lone shard q) st q.is_ended) u ∙ ap (λ b. left_by (idle && is_lone shard q) (Committed (p ∷ ps)) b) e

  ended_zero : (p : ℕ) (ps : List ℕ) → q.state ≡ Committed (p ∷ ps) → left_by (idle && is_lone shard q) q.state true ≡ 0
  ended_zero p ps u = ap (λ st. left_by (idle && is_lone shard q) st true) u

  less_end : (p : ℕ) (ps : List ℕ) (b c : Bool) → q.state ≡ Committed (p ∷ ps) → q.is_ended ≡ b → RulingLess shard idle q (cond (not b && c) (Some EndVerdict) None)
  unfolding RulingLess
  less_end p ps true c u e = tt
  less_end p ps false true u e = let one = open_one p ps u e in let none = ended_zero p ps u in omega (arith, one, none)
  less_end p ps false false u e = tt

  less_ended : (ps : List ℕ) → q.state ≡ Committed ps → RulingLess shard idle q (end_ruling q ps)
  unfolding RulingLess
  less_ended [] u = tt
  less_ended (p ∷ ps) u = less_end p ps q.is_ended (list_all (λ n. nat_in n q.acknowledged_by) (p ∷ ps)) u refl

  pub less_in : (tx : TxId) (f : PartFacts) (r : RequestState) → FactsIdle idle f → q.state ≡ r → RulingLess shard idle q (ruling_in shard tx q f r)
  unfolding RulingLess
  less_in tx f Undecided facts u = at (idle && is_lone shard q) refl
    where
      at : (b : Bool) → (idle && is_lone shard q) ≡ b → RulingLess shard idle q (undecided_ruling shard tx q f (is_agreed shard q f))
      at true e =
          let both = and_parts idle (is_lone shard q) e in let h = facts both.0 in
          subst (RulingLess shard idle q) (sym (over_none shard tx q f h.0 h.1 both.1)) tt
      at false e = less_by u e tx f (is_agreed shard q f)
  less_in tx f (Committed ps) facts u = less_ended ps u
  less_in tx f Finished facts u = tt
  less_in tx f (Refused c) facts u = tt

-- ---- who has something due counts

ruled_left : (n : ℕ) (idle : Bool) (tx : TxId) (q : Request) (f : PartFacts) (st : RequestState) → FactsIdle idle f → q.state ≡ st → is_some (ruling_in n tx q f st) ≡ true → 0 < left_request n idle q
ruled_left n idle tx q f Undecided facts e h = at (idle && is_lone n q) refl
  where
    at : (b : Bool) → (idle && is_lone n q) ≡ b → 0 < left_request n idle q
    at true o = let both = and_parts idle (is_lone n q) o in let g = facts both.0 in absurd (both_ways _ (ap is_some (over_none n tx q f g.0 g.1 both.1)) h)
    at false o =
        let two : left_request n idle q ≡ 2 = ap (λ st. left_by (idle && is_lone n q) st q.is_ended) e ∙ ap (λ b. left_by b Undecided q.is_ended) o in
        omega (arith, two)
ruled_left n idle tx q f (Committed []) facts e h = absurd (both_ways false refl h)
ruled_left n idle tx q f (Committed (p ∷ ps)) facts e h =
    let one = open_end q q.is_ended (list_all (λ k. nat_in k q.acknowledged_by) (p ∷ ps)) refl h in
    let same : left_request n idle q ≡ cond q.is_ended 0 1 = ap (λ st. left_by (idle && is_lone n q) st q.is_ended) e in omega (arith, one, same)
ruled_left n idle tx q f Finished facts e h = absurd (both_ways false refl h)
ruled_left n idle tx q f (Refused c) facts e h = absurd (both_ways false refl h)

pub request_left : (n : ℕ) (idle : Bool) (tx : TxId) (f : PartFacts) (o : Option Request) → FactsIdle idle f → is_ruling_due n tx f o ≡ true → 0 < count_of (left_request n) idle o
request_left n idle tx f None facts e = absurd (both_ways false refl e)
request_left n idle tx f (Some q) facts e = ruled_left n idle tx q f q.state facts refl e

pub voter_left : (finished : Bool) (f : PartFacts) (o : Option Voter) → FactsFinished finished f → is_vote_due f o ≡ true → 0 < count_of left_voter finished o
voter_left finished f None facts e = absurd (both_ways false refl e)
voter_left finished f (Some v) facts e = at (vote_by f v) refl e
  where
    at : (o : Option Vote) → vote_by f v ≡ o → is_some o ≡ true → 0 < left_voter finished v
    at None g h = absurd (both_ways false refl h)
    at (Some vote) g h = let owed = owes f v (v.owed == 0) vote refl g in let counts = vote_counts finished f v vote facts g in omega (arith, owed, counts)
