-- What a commit's answer tells of its entries.
use Rattle.std.proofs.Common.{◌≡◌, ◌∙◌, refl, sym, ap, subst, ℕ, Bool, true, false, ◌&&◌, List, [], ◌∷◌, ◌++◌, length, Option, Some, None, Result, Ok, Err, inl, inr}
use Rattle.std.specs.Prelude.{◌⊎◌, is_some, not}
use Rattle.std.specs.List.{AllByRecursion}
use Rattle.std.proofs.lemmas.Bool.{both_ways}
use Rattle.clv_base.specs.declared.names.TxId.{TxId}
use Rattle.clv_base.specs.declared.names.Birth.{Birth}
use Rattle.clv_base.specs.declared.names.Point.{Point}
use Rattle.clv_base.specs.declared.causes.AbortCause.{AbortCause}
use Rattle.clv_base.specs.declared.events.Event.{Event}
use Rattle.clv_base.specs.declared.events.Event.TheVariants.{Request, Look, Drop}
use Rattle.clv_base.specs.declared.events.Outcome.{Outcome}
use Rattle.clv_base.specs.declared.events.Outcome.TheVariants as out
use Rattle.clv_base.specs.declared.events.Entry.{Entry}
use Rattle.clv_base.specs.Orders.{tx_same}
use Rattle.clv_base.specs.Journals.{History}
use Rattle.clv_base.specs.Sessions.{SessionState, Phase, Touching, Ended, Standing as IsStanding, Told, Refused, is_touching, is_whole_now, same_touched, is_lowest, requested, session_after, is_of_session}
use Rattle.machine_calls.specs.declared.machine.StepError.{StepError}
use Rattle.machine_calls.specs.declared.machine.StepError.TheVariants.{Memory as NoMemory, Worn as IsWorn}
use Rattle.cluster_turns.specs.declared.shards.Shards.{Shards}
use Rattle.cluster_turns.specs.declared.shards.Walker.{Walker}
use Rattle.cluster_turns.specs.Walkers.{IsSameWalker, kept}
use Rattle.cluster_turns.specs.States.{after_from, session_of}
use Rattle.cluster_turns.proofs.Laws.{touched_are_last, ok_same}
use Rattle.cluster_turns.specs.CallTurns.{Turn, Took, no_turn, entry_on}
use Rattle.cluster_turns.specs.Answers.{is_quiet, is_kept, turns_of_session}
use Rattle.session_ops.specs.Standing.{IsTurnOf, IsActive}
use Rattle.session_ops.specs.Requested.{HasStamp}
use Rattle.session_ops.specs.declared.settled_looking.SettleError.{SettleError}
use Rattle.session_ops.specs.declared.settled_looking.SettleError.TheVariants as settle
use Rattle.session_ops.specs.Settled.{IsLook as LooksSo, Acknowledges}
use Rattle.session_ops.specs.declared.committing.Settled.{Settled}
use Rattle.session_ops.specs.declared.committing.Settled.TheVariants.{Committed, Empty}
use Rattle.session_ops.specs.declared.committing.CommitError.{CommitError}
use Rattle.session_ops.specs.declared.committing.CommitError.TheVariants as commit
use Rattle.session_ops.specs.Standings.{StandsAt, StandsAs}
use Rattle.session_ops.specs.Decided.{DecidedBy, committed_as}
use Rattle.session_ops.specs.Committed.{Committing, CommittedBy}
use Rattle.script_runs.specs.Tries.{IsRequest, IsLook}
use Rattle.script_runs.specs.Seen.{Standing, Grows}
use Rattle.script_runs.specs.Told.{AreDropsOf, CommitTold}
use Rattle.session_api.specs.Seeing.{seen_as, touched_in, is_active, by_phase, after_commit, asked_after, commit_end}
use Rattle.session_api.specs.ToldLaws.{CommitsTell}
use Rattle.session_api.proofs.Following.{IsPlain, are_plain, all_before, all_behind, all_session, made_in, made_in_more, made_of, between, turns_lead, Among, among_one, among_none, among_first, is_there, IsOneOf, MadeOne, any_made}
use Rattle.session_api.proofs.ToldOperating.{if_some}
use Rattle.session_api.proofs.Pointing.{grows_by}
use Rattle.session_api.proofs.ToldEnding.{IsGone, behind_it, only_drops, Behind, not_yet, acknowledged, aborted, behind_request}
use Rattle.session_api.proofs.Untouched.{untouched_unnumbered}
use Rattle.law_base.proofs.Shards.{some_session as some_same, touching_is as touching_phase}
use Rattle.law_base.proofs.Lists.{lowest_some}

-- ---- the request

-- its turn made this entry, with this stamp
pub record AskedSo (n stamp : ℕ) (e : Event) (o : Outcome) (es : History) : Type 0 where
  pub entry : Entry
  pub stamped : stamp ≡ entry.stamp
  pub is : es ≡ (n, entry) ∷ []
  pub event : entry.event ≡ e
  pub outcome : entry.outcome ≡ o

one_turn : (w n stamp : ℕ) (e : Event) (o : Outcome) (t : Turn) → is_of_session e ≡ true → is_quiet o ≡ false → IsPlain w t → HasStamp stamp t → t.shard ≡ n → t.event ≡ e → t.answer ≡ Ok o → AskedSo n stamp e o (made_in (t ∷ []))
one_turn w n stamp e o t of loud plain has shard event answer =
    let there = is_there t.made (plain.has ∙ ap is_kept answer ∙ ap not loud) in
    let m = plain.entry there.0 there.1 in
    record {
      entry = there.0;
      stamped = has there.0 there.1;
      is = made_of t [] (ap is_of_session event ∙ of) ∙ ap (λ y. entry_on t.shard y ++ []) there.1 ∙ ap (λ k. (k, there.0) ∷ []) shard;
      event = m.1 ∙ event;
      outcome = ok_same there.0.outcome o (sym m.2 ∙ answer);
    }

asked_so : (w n stamp : ℕ) (e : Event) (o : Outcome) (ts : List Turn) → is_of_session e ≡ true → is_quiet o ≡ false → AllByRecursion (IsPlain w) ts → AllByRecursion (HasStamp stamp) ts → IsTurnOf n e (Ok o) ts → AskedSo n stamp e o (made_in ts)
asked_so w n stamp e o ts of loud plain has (inl (not_so, none)) = absurd cc
asked_so w n stamp e o ts of loud plain has (inr (t, is, shard, event, answer)) =
    subst (λ l. AskedSo n stamp e o (made_in l)) (sym is)
    (one_turn w n stamp e o t of loud (subst (AllByRecursion (IsPlain w)) is plain).0 (subst (AllByRecursion (HasStamp stamp)) is has).0 shard event answer)

pub quiet_turn : (w : ℕ) (e : Event) (r : Result Outcome StepError) (t : Turn) → is_of_session e ≡ true → is_kept r ≡ false → IsPlain w t → t.event ≡ e → t.answer ≡ r → made_in (t ∷ []) ≡ []
quiet_turn w e r t of quiet plain event answer = made_of t [] (ap is_of_session event ∙ of) ∙ at t.made (plain.has ∙ ap is_kept answer ∙ quiet)
  where
    at : (m : Option Entry) → is_some m ≡ false → entry_on t.shard m ++ [] ≡ []
    at None h = refl
    at (Some x) h = absurd (both_ways true h refl)

unasked : (w n : ℕ) (e : Event) (r : Result Outcome StepError) (ts : List Turn) → is_of_session e ≡ true → is_kept r ≡ false → AllByRecursion (IsPlain w) ts → IsTurnOf n e r ts → made_in ts ≡ []
unasked w n e r ts of quiet plain (inl (not_so, none)) = ap made_in none
unasked w n e r ts of quiet plain (inr (t, is, shard, event, answer)) = ap made_in is ∙ quiet_turn w e r t of quiet (subst (AllByRecursion (IsPlain w)) is plain).0 event answer

request_to : (splits : List ℕ) (n : ℕ) (t m : SessionState) (tx : TxId) (touched : List (ℕ × ℕ)) (o : Outcome) → session_after splits n t (Request tx touched) o ≡ Some m → requested n t o ≡ Some m
request_to splits n t m tx touched o h = (if_some (tx_same tx t.tx && is_touching t.phase && is_whole_now t && same_touched touched t.touched && is_lowest n touched) (requested n t o) m h).1

-- the state after the request's entry
after_request : (splits : List ℕ) (n stamp : ℕ) (t m : SessionState) (tx : TxId) (touched : List (ℕ × ℕ)) (o : Outcome) (es : History) (a : AskedSo n stamp (Request tx touched) o es) → after_from splits (Some t) es ≡ Some m → requested n t o ≡ Some m
after_request splits n stamp t m tx touched o es a h =
    request_to splits n t m tx touched o
    (ap (λ e. session_after splits n t e o) (sym a.event) ∙ ap (λ k. session_after splits n t a.entry.event k) (sym a.outcome) ∙ ap (after_from splits (Some t)) (sym a.is) ∙ h)

-- ---- its decision

-- the entries behind the request, by the decision
abbrev DecidedSo : ℕ → TxId → List (ℕ × ℕ) → Result Point SettleError → History → Type 0
DecidedSo n tx touched (Ok point) es = (e : Entry) × (es ≡ (n, e) ∷ []) × (e.event ≡ Look tx) × (e.outcome ≡ out.Acknowledged)
DecidedSo n tx touched (Err (settle.Aborted cause)) es =
    (e : Entry) × (drops : History) × (es ≡ (n, e) ∷ drops) × (e.event ≡ Look tx) × (e.outcome ≡ out.Aborted cause) × AreDropsOf tx (touched_in touched) (Some n) drops
DecidedSo n tx touched (Err (settle.Unsettled m)) es = es ≡ []
DecidedSo n tx touched (Err (settle.Worn at)) es = es ≡ []
DecidedSo n tx touched (Err settle.Memory) es = es ≡ []

look_no_drop : {X : Type 0} (n : ℕ) (tx : TxId) (touched : ℕ → Bool) (e : Entry) (es : History) → AreDropsOf tx touched (Some n) es → Among (n, e) es → e.event ≡ Look tx → X
look_no_drop n tx touched e [] all a is = among_none (n, e) a
look_no_drop {X} n tx touched e (f ∷ es) all a is = at (λ later. look_no_drop n tx touched e es all.1 later is) (among_first (n, e) f es a)
  where
    at : (Among (n, e) es → X) → ◌≡◌ {A = ℕ × Entry} (n, e) f ⊎ Among (n, e) es → X
    at rest (inl same) = let k : Drop tx ≡ Look tx = sym all.0.event ∙ sym (ap (λ z. (z.1).event) same) ∙ is in absurd cc
    at rest (inr later) = rest later

entry_same : (n m : ℕ) (a b : Entry) → ◌≡◌ {A = ℕ × Entry} (n, a) (m, b) → a ≡ b
entry_same n m a b h = ap (λ z. z.1) h

told_acknowledged : (n : ℕ) (tx : TxId) (touched : List (ℕ × ℕ)) (x : Phase) (es : History) (point : Point) → Behind n tx touched x es → MadeOne n (Look tx) (λ o. o ≡ out.Acknowledged) es → DecidedSo n tx touched (Ok point) es
told_acknowledged n tx touched x _ point (not_yet phase) m = among_none (n, m.made.entry) m.made.among
told_acknowledged n tx touched x _ point (acknowledged e event outcome phase) m = (e, refl, event, outcome)
told_acknowledged n tx touched x _ point (aborted e cause drops event outcome are phase) m = at (among_first (n, m.made.entry) (n, e) drops m.made.among)
  where
    at : ◌≡◌ {A = ℕ × Entry} (n, m.made.entry) (n, e) ⊎ Among (n, m.made.entry) drops → DecidedSo n tx touched (Ok point) ((n, e) ∷ drops)
    at (inl same) = let k : out.Acknowledged ≡ out.Aborted cause = sym (m.made.outcome ∙ m.one) ∙ ap (λ z. z.outcome) (entry_same n n m.made.entry e same) ∙ outcome in absurd cc
    at (inr later) = look_no_drop n tx (touched_in touched) m.made.entry drops are later m.made.event

told_aborted : (n : ℕ) (tx : TxId) (touched : List (ℕ × ℕ)) (x : Phase) (es : History) (cause : AbortCause) → Behind n tx touched x es → MadeOne n (Look tx) (λ o. o ≡ out.Aborted cause) es → DecidedSo n tx touched (Err (settle.Aborted cause)) es
told_aborted n tx touched x _ cause (not_yet phase) m = among_none (n, m.made.entry) m.made.among
told_aborted n tx touched x _ cause (acknowledged e event outcome phase) m =
    let same = entry_same n n m.made.entry e (among_one (n, m.made.entry) (n, e) m.made.among) in
    let k : out.Aborted cause ≡ out.Acknowledged = sym (m.made.outcome ∙ m.one) ∙ ap (λ z. z.outcome) same ∙ outcome in absurd cc
told_aborted n tx touched x _ cause (aborted e other drops event outcome are phase) m = at (among_first (n, m.made.entry) (n, e) drops m.made.among)
  where
    at : ◌≡◌ {A = ℕ × Entry} (n, m.made.entry) (n, e) ⊎ Among (n, m.made.entry) drops → DecidedSo n tx touched (Err (settle.Aborted cause)) ((n, e) ∷ drops)
    at (inl same) = (e, drops, refl, event, sym (ap (λ z. z.outcome) (entry_same n n m.made.entry e same)) ∙ m.made.outcome ∙ m.one, are)
    at (inr later) = look_no_drop n tx (touched_in touched) m.made.entry drops are later m.made.event

still_stands : (n : ℕ) (tx : TxId) (touched : List (ℕ × ℕ)) (x : Phase) (es : History) → Behind n tx touched x es → x ≡ IsStanding n → es ≡ []
still_stands n tx touched x _ (not_yet phase) h = refl
still_stands n tx touched x _ (acknowledged e event outcome phase) h = let k : Told ≡ IsStanding n = sym phase ∙ h in absurd cc
still_stands n tx touched x _ (aborted e cause drops event outcome are phase) h = let k : Refused ≡ IsStanding n = sym phase ∙ h in absurd cc

an_acknowledgement : (n : ℕ) (tx : TxId) (point : Point) (t : Turn) → Acknowledges n tx point t → IsOneOf n (Look tx) (λ o. o ≡ out.Acknowledged) t
an_acknowledgement n tx point t ((s, k, a), rest) = record { shard = s; event = k; outcome = out.Acknowledged; answer = a; loud = refl; one = refl }

a_refusal : (n : ℕ) (tx : TxId) (cause : AbortCause) (t : Turn) → LooksSo n tx (out.Aborted cause) t → IsOneOf n (Look tx) (λ o. o ≡ out.Aborted cause) t
a_refusal n tx cause t (s, k, a) = record { shard = s; event = k; outcome = out.Aborted cause; answer = a; loud = refl; one = refl }

-- the place that a decision leaves has its phase in the session's state, unless it is touching
decided_so : (w count n : ℕ) (p q : SessionState) (x : Phase) (d : Result Point SettleError) (ts : List Turn) → AllByRecursion (IsPlain w) ts → Behind n p.tx p.touched x (made_in ts) → DecidedBy count n p d ts q
    → (is_touching q.phase ≡ false → x ≡ q.phase) → DecidedSo n p.tx p.touched d (made_in ts)
decided_so w count n p q x (Ok point) ts plain b told same =
    told_acknowledged n p.tx p.touched x (made_in ts) point b (any_made w n (Look p.tx) (λ o. o ≡ out.Acknowledged) (Acknowledges n p.tx point) ts refl (an_acknowledgement n p.tx point) plain told.0)
decided_so w count n p q x (Err (settle.Aborted cause)) ts plain b told same =
    told_aborted n p.tx p.touched x (made_in ts) cause b (any_made w n (Look p.tx) (λ o. o ≡ out.Aborted cause) (LooksSo n p.tx (out.Aborted cause)) ts refl (a_refusal n p.tx cause) plain told.0)
decided_so w count n p q x (Err (settle.Unsettled m)) ts plain b (down, by, place) same =
    still_stands n p.tx p.touched x (made_in ts) b (same (ap (λ z. is_touching z.phase) place) ∙ ap (λ z. z.phase) place)
decided_so w count n p q x (Err (settle.Worn at)) ts plain b (worn, place) same = still_stands n p.tx p.touched x (made_in ts) b (same (ap (λ z. is_touching z.phase) place) ∙ ap (λ z. z.phase) place)
decided_so w count n p q x (Err settle.Memory) ts plain b place same = still_stands n p.tx p.touched x (made_in ts) b (same (ap (λ z. is_touching z.phase) place) ∙ ap (λ z. z.phase) place)

-- and that phase is this
abbrev pub decided_phase : ℕ → Result Point SettleError → Phase
decided_phase n (Ok point) = Told
decided_phase n (Err (settle.Aborted cause)) = Refused
decided_phase n (Err (settle.Unsettled m)) = IsStanding n
decided_phase n (Err (settle.Worn at)) = IsStanding n
decided_phase n (Err settle.Memory) = IsStanding n

phase_decided : (count n : ℕ) (p q : SessionState) (d : Result Point SettleError) (ts : List Turn) → DecidedBy count n p d ts q → q.phase ≡ decided_phase n d
phase_decided count n p q (Ok point) ts h = ap (λ z. z.phase) h.1
phase_decided count n p q (Err (settle.Aborted cause)) ts h = ap (λ z. z.phase) h.2
phase_decided count n p q (Err (settle.Unsettled m)) ts h = ap (λ z. z.phase) h.2
phase_decided count n p q (Err (settle.Worn at)) ts h = ap (λ z. z.phase) h.1
phase_decided count n p q (Err settle.Memory) ts h = ap (λ z. z.phase) h

-- ---- the whole commit

module _ {M S G : Type 0} (sh : Shards M S G) where
  state_at : (v : Walker M S G) (q : SessionState) (x : Phase) → StandsAt x sh v q → (u : SessionState) × (session_of sh.splits sh.run v.number (kept v.passes.items) ≡ Some u) × (is_touching x ≡ false → u ≡ q)
  state_at v q Touching h = (h.state, h.ready.state, λ k. absurd (both_ways true k refl))
  state_at v q Ended h = (q, h.ending.over.ready.state, λ k. refl)
  state_at v q (IsStanding home) h = (q, h.ready.state, λ k. refl)
  state_at v q Told h = (q, h.state, λ k. refl)
  state_at v q Refused h = (q, h.ending.over.ready.state, λ k. refl)

module _ {M S G : Type 0} (sh : Shards M S G) (w v : Walker M S G) (last : Point) (p q : SessionState) (birth : Birth) (n : ℕ) (asking rest : List Turn) (same : IsSameWalker w v)
    (took : Took w.number w.clock w.passes.items (asking ++ rest) v.clock v.passes.items) where
  as_request : (o : Outcome) (x : Entry) → x.event ≡ Request p.tx p.touched → x.outcome ≡ o → IsRequest p.tx n o (n, x)
  as_request o x event outcome = record { shard = refl; touched = p.touched; event = event; outcome = outcome }

  as_look : (o : Outcome) (x : Entry) → x.event ≡ Look p.tx → x.outcome ≡ o → IsLook p.tx n o (n, x)
  as_look o x event outcome = record { shard = refl; event = event; outcome = outcome }

  grown : (now : Point) (en : Standing) (xs ys : History) → made_in asking ≡ xs → made_in rest ≡ ys → Grows (xs ++ ys) (seen_as sh w last (is_active p birth)) (seen_as sh v now en)
  grown now en xs ys a b = grows_by sh w v last now (is_active p birth) en (asking ++ rest) (xs ++ ys) same took (made_in_more asking rest ∙ ap (λ l. l ++ made_in rest) a ∙ ap (λ l. xs ++ l) b)

  -- after a request that stands
  pub settled_told : (stamp : ℕ) (asked : Point) (d : Result Point SettleError) (a : AskedSo n stamp (Request p.tx p.touched) out.Asked (made_in asking)) → asked ≡ record { stamp = stamp; shard = n } → q.phase ≡ decided_phase n d → DecidedSo n p.tx p.touched d (made_in rest)
      → CommitTold p.tx birth p.nth (touched_in p.touched) (commit_end (committed_as asked d)) (seen_as sh w last (is_active p birth)) (seen_as sh v (asked_after last (committed_as asked d)) (after_commit q birth (committed_as asked d)))
  settled_told stamp asked d a point_is phase h = at d phase h
    where
      first : IsRequest p.tx n out.Asked (n, a.entry)
      first = as_request out.Asked a.entry a.event a.outcome

      at : (d : Result Point SettleError) → q.phase ≡ decided_phase n d → DecidedSo n p.tx p.touched d (made_in rest)
          → CommitTold p.tx birth p.nth (touched_in p.touched) (commit_end (committed_as asked d)) (seen_as sh w last (is_active p birth)) (seen_as sh v (asked_after last (committed_as asked d)) (after_commit q birth (committed_as asked d)))
      at (Ok point) stands (e, is, event, outcome) = (
        n,
        (n, a.entry),
        (n, e),
        first,
        as_look out.Acknowledged e event outcome,
        grown asked (after_commit q birth (Ok (Committed asked))) ((n, a.entry) ∷ []) ((n, e) ∷ []) a.is is,
        refl,
        point_is ∙ ap (λ (k : ℕ). record { stamp = k; shard = n }) a.stamped,
      )
      at (Err (settle.Aborted cause)) stands (e, drops, is, event, outcome, are) = (
        inr (n, (n, a.entry), (n, e), drops, first, as_look (out.Aborted cause) e event outcome, are, grown last (after_commit q birth (Err (commit.Aborted cause))) ((n, a.entry) ∷ []) ((n, e) ∷ drops) a.is is),
        refl,
      )
      at (Err (settle.Unsettled m)) stands is = ((n, (n, a.entry), first, grown last (after_commit q birth (Err (commit.Unsettled m))) ((n, a.entry) ∷ []) [] a.is is), refl)
      at (Err (settle.Worn t)) stands is =
          inr ((n, (n, a.entry), first, grown last (after_commit q birth (Err (commit.Worn t))) ((n, a.entry) ∷ []) [] a.is is), ap (by_phase q birth) stands)
      at (Err settle.Memory) stands is = inr ((n, (n, a.entry), first, grown last (after_commit q birth (Err commit.Memory)) ((n, a.entry) ∷ []) [] a.is is), ap (by_phase q birth) stands)

  -- it died of its request
  pub dead_told : (stamp : ℕ) (cause : AbortCause) (a : AskedSo n stamp (Request p.tx p.touched) (out.Dead cause) (made_in asking)) → AreDropsOf p.tx (touched_in p.touched) (Some n) (made_in rest)
      → CommitTold p.tx birth p.nth (touched_in p.touched) (commit_end (Err (commit.Aborted cause))) (seen_as sh w last (is_active p birth)) (seen_as sh v (asked_after last (Err (commit.Aborted cause))) (after_commit q birth (Err (commit.Aborted cause))))
  dead_told stamp cause a are = (
    inl (n, (n, a.entry), made_in rest, as_request (out.Dead cause) a.entry a.event a.outcome, are, grown last (after_commit q birth (Err (commit.Aborted cause))) ((n, a.entry) ∷ []) (made_in rest) a.is refl),
    refl,
  )

  -- it wasn't made
  pub unmade_told : (e : CommitError) → made_in asking ≡ [] → rest ≡ [] → is_touching p.phase ≡ true → q ≡ p → (e ≡ commit.Down n) ⊎ ((e ≡ commit.Memory) ⊎ ((t : ℕ) × (e ≡ commit.Worn t)))
      → CommitTold p.tx birth p.nth (touched_in p.touched) (commit_end (Err e)) (seen_as sh w last (is_active p birth)) (seen_as sh v (asked_after last (Err e)) (after_commit q birth (Err e)))
  unmade_told e none over touching place which = at which
    where
      nothing : (en : Standing) → Grows [] (seen_as sh w last (is_active p birth)) (seen_as sh v last en)
      nothing en = grown last en [] [] none (ap made_in over)

      -- active still, where the answer leaves that to its phase
      still : by_phase q birth q.phase ≡ is_active p birth
      still = ap (by_phase q birth) (ap (λ z. z.phase) place ∙ touching_phase p.phase touching) ∙ ap (λ z. is_active z birth) place

      at : (e ≡ commit.Down n) ⊎ ((e ≡ commit.Memory) ⊎ ((t : ℕ) × (e ≡ commit.Worn t)))
          → CommitTold p.tx birth p.nth (touched_in p.touched) (commit_end (Err e)) (seen_as sh w last (is_active p birth)) (seen_as sh v (asked_after last (Err e)) (after_commit q birth (Err e)))
      at (inl is) =
          subst (λ z. CommitTold p.tx birth p.nth (touched_in p.touched) (commit_end (Err z)) (seen_as sh w last (is_active p birth)) (seen_as sh v (asked_after last (Err z)) (after_commit q birth (Err z)))) (sym is)
          (nothing (after_commit q birth (Err (commit.Down n))), (p.nth, ap (λ z. is_active z birth) place))
      at (inr (inl is)) =
          subst (λ z. CommitTold p.tx birth p.nth (touched_in p.touched) (commit_end (Err z)) (seen_as sh w last (is_active p birth)) (seen_as sh v (asked_after last (Err z)) (after_commit q birth (Err z)))) (sym is)
          (inl (nothing (after_commit q birth (Err commit.Memory)), (p.nth, still)))
      at (inr (inr (t, is))) =
          subst (λ z. CommitTold p.tx birth p.nth (touched_in p.touched) (commit_end (Err z)) (seen_as sh w last (is_active p birth)) (seen_as sh v (asked_after last (Err z)) (after_commit q birth (Err z)))) (sym is)
          (inl (nothing (after_commit q birth (Err (commit.Worn t))), (p.nth, still)))

module _ {M S G : Type 0} (sh : Shards M S G) (w v : Walker M S G) (last : Point) (p q : SessionState) (birth : Birth) (n : ℕ) (active : IsActive sh w p) (lowest : is_lowest n p.touched ≡ true) (same : IsSameWalker w v) (stands : StandsAs sh v q) where
  -- by what the request was answered
  committed : (stamp : ℕ) (r : Result Settled CommitError) (c : Committing (length sh.locks.items) w.number w.clock w.passes.items n p stamp r v.clock v.passes.items q)
      → CommitTold p.tx birth p.nth (touched_in p.touched) (commit_end r) (seen_as sh w last (is_active p birth)) (seen_as sh v (asked_after last r) (after_commit q birth r))
  committed stamp r c = at c.answer c.asked c.told
    where
      ends : p ≡ active.state
      ends = touched_are_last active.state p active.goes (inl (lowest_some n p.touched lowest))

      plain : AllByRecursion (IsPlain w.number) (c.asking ++ c.rest)
      plain = are_plain w.number w.clock v.clock w.passes.items v.passes.items (c.asking ++ c.rest) c.took

      plain_asking : AllByRecursion (IsPlain w.number) c.asking
      plain_asking = all_before (IsPlain w.number) c.asking c.rest plain

      plain_rest : AllByRecursion (IsPlain w.number) c.rest
      plain_rest = all_behind (IsPlain w.number) c.asking c.rest plain

      end : (u : SessionState) × (session_of sh.splits sh.run v.number (kept v.passes.items) ≡ Some u) × (is_touching q.phase ≡ false → u ≡ q)
      end = state_at sh v q q.phase stands

      leads : after_from sh.splits (Some active.state) (made_in c.asking ++ made_in c.rest) ≡ Some end.0
      leads =
          ap (after_from sh.splits (Some active.state)) (sym (made_in_more c.asking c.rest))
          ∙ turns_lead sh.splits sh.run w.number w.clock v.clock w.passes.items v.passes.items (c.asking ++ c.rest) active.state end.0 c.took active.ready.state
          (subst (λ k. session_of sh.splits sh.run k (kept v.passes.items) ≡ Some end.0) same.0 end.1)

      middle : (m : SessionState) × (after_from sh.splits (Some active.state) (made_in c.asking) ≡ Some m) × (after_from sh.splits (Some m) (made_in c.rest) ≡ Some end.0)
      middle = between sh.splits active.state end.0 (made_in c.asking) (made_in c.rest) leads

      at : (answer : Result Outcome StepError) → IsTurnOf n (Request p.tx p.touched) answer c.asking → CommittedBy (length sh.locks.items) n p (record { stamp = stamp; shard = n }) answer r c.rest q
          → CommitTold p.tx birth p.nth (touched_in p.touched) (commit_end r) (seen_as sh w last (is_active p birth)) (seen_as sh v (asked_after last r) (after_commit q birth r))
      at (Ok out.Asked) turn (d, is, told) =
          let a = asked_so w.number n stamp (Request p.tx p.touched) out.Asked c.asking refl refl plain_asking c.stamped turn in
          let m = after_request sh.splits n stamp active.state middle.0 p.tx p.touched out.Asked (made_in c.asking) a middle.1 in
          let phase : middle.0.phase ≡ IsStanding n = ap (λ z. z.phase) (sym (some_same (record active.state { phase = IsStanding n }) middle.0 m)) in
          let b = behind_request sh.splits w.number n p.tx p.touched middle.0 end.0 (turns_of_session c.rest) phase (behind_it p.tx p.touched n c.rest c.only) (all_session (IsPlain w.number) c.rest plain_rest) middle.2 in
          subst (λ z. CommitTold p.tx birth p.nth (touched_in p.touched) (commit_end z) (seen_as sh w last (is_active p birth)) (seen_as sh v (asked_after last z) (after_commit q birth z))) (sym is)
          (settled_told sh w v last p q birth n c.asking c.rest same c.took stamp (record { stamp = stamp; shard = n }) d a refl (phase_decided (length sh.locks.items) n p q d c.rest told) (decided_so w.number (length sh.locks.items) n p q end.0.phase d c.rest plain_rest b told (λ k. ap (λ z. z.phase) (end.2 k))))
      at (Ok (out.Dead cause)) turn (is, others, place) =
          let a = asked_so w.number n stamp (Request p.tx p.touched) (out.Dead cause) c.asking refl refl plain_asking c.stamped turn in
          let m = after_request sh.splits n stamp active.state middle.0 p.tx p.touched (out.Dead cause) (made_in c.asking) a middle.1 in
          let phase : middle.0.phase ≡ Ended = ap (λ z. z.phase) (sym (some_same (record active.state { phase = Ended }) middle.0 m)) in
          let b = only_drops sh.splits w.number n p.tx p.touched middle.0 end.0 (turns_of_session c.rest) (subst IsGone (sym phase) tt) (behind_it p.tx p.touched n c.rest c.only) (all_session (IsPlain w.number) c.rest plain_rest) middle.2 in
          subst (λ z. CommitTold p.tx birth p.nth (touched_in p.touched) (commit_end z) (seen_as sh w last (is_active p birth)) (seen_as sh v (asked_after last z) (after_commit q birth z))) (sym is)
          (dead_told sh w v last p q birth n c.asking c.rest same c.took stamp cause a b.0)
      at (Ok out.Down) turn (is, over, place) =
          subst (λ z. CommitTold p.tx birth p.nth (touched_in p.touched) (commit_end z) (seen_as sh w last (is_active p birth)) (seen_as sh v (asked_after last z) (after_commit q birth z))) (sym is)
          (unmade_told sh w v last p q birth n c.asking c.rest same c.took (commit.Down n) (unasked w.number n (Request p.tx p.touched) (Ok out.Down) c.asking refl refl plain_asking turn) over active.touching place (inl refl))
      at (Err NoMemory) turn (is, over, place) =
          subst (λ z. CommitTold p.tx birth p.nth (touched_in p.touched) (commit_end z) (seen_as sh w last (is_active p birth)) (seen_as sh v (asked_after last z) (after_commit q birth z))) (sym is)
          (unmade_told sh w v last p q birth n c.asking c.rest same c.took commit.Memory (unasked w.number n (Request p.tx p.touched) (Err NoMemory) c.asking refl refl plain_asking turn) over active.touching place (inr (inl refl)))
      at (Err (IsWorn t)) turn (is, over, place) =
          subst (λ z. CommitTold p.tx birth p.nth (touched_in p.touched) (commit_end z) (seen_as sh w last (is_active p birth)) (seen_as sh v (asked_after last z) (after_commit q birth z))) (sym is)
          (unmade_told sh w v last p q birth n c.asking c.rest same c.took (commit.Worn t) (unasked w.number n (Request p.tx p.touched) (Err (IsWorn t)) c.asking refl refl plain_asking turn) over active.touching place (inr (inr (t, refl))))
      at (Ok o) turn told = absurd told

pub commits_tell : (M S G : Type 0) → CommitsTell M S G
commits_tell M S G sh w v last p q birth stamp r active has same (inl (none, is, stays, place)) stands =
    subst (λ z. CommitTold p.tx birth p.nth (touched_in p.touched) (commit_end z) (seen_as sh w last (is_active p birth)) (seen_as sh v (asked_after last z) (after_commit q birth z))) (sym is)
    (subst (λ z. CommitTold p.tx birth p.nth (touched_in p.touched) (commit_end (Ok Empty)) (seen_as sh w last (is_active p birth)) (seen_as sh z last (after_commit q birth (Ok Empty)))) (sym stays) (
      untouched_unnumbered sh w p active none,
      grows_by sh w w last last (is_active p birth) (after_commit q birth (Ok Empty)) [] [] (refl, refl) (no_turn w.clock w.passes.items) refl,
      refl,
    ))
commits_tell M S G sh w v last p q birth stamp r active has same (inr (n, lowest, c)) stands = committed sh w v last p q birth n active lowest same stands stamp r c
