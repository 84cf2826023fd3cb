-- The entry of an acknowledgement, and of a request.
use Rattle.std.proofs.Common.{◌≡◌, ◌∙◌, refl, sym, ap, subst, ℕ, ◌^◌, nat_lt, Bool, true, false, List, [], ◌∷◌, ◌++◌, Option, Some, None, Result, Ok, Err, inl, inr}
use Rattle.std.specs.List.{AllByRecursion}
use Rattle.std.proofs.lemmas.Bool.{both_ways}
use Rattle.clv_base.specs.declared.names.Point.{Point}
use Rattle.clv_base.specs.declared.events.Event.{Event}
use Rattle.clv_base.specs.declared.events.Event.TheVariants.{Request}
use Rattle.clv_base.specs.declared.events.Outcome.{Outcome}
use Rattle.clv_base.specs.declared.events.Outcome.TheVariants.{Asked, Dead, Down as DownOut}
use Rattle.clv_base.specs.declared.events.Entry.{Entry}
use Rattle.clv_base.specs.State.{Shard}
use Rattle.clv_base.specs.Events.{happen, step, next_stamp}
use Rattle.turn_lock.specs.declared.pass.Pass.{Pass}
use Rattle.machine_calls.specs.declared.machine.StepError.{StepError}
use Rattle.machine_calls.specs.declared.machine.StepError.TheVariants.{Memory as NoMemory, Worn as IsWorn}
use Rattle.machine_calls.specs.Steps.{Tells, clock_after}
use Rattle.machine_laws.specs.declared.notes.Note.{Note}
use Rattle.machine_laws.specs.declared.notes.Origin.{Origin}
use Rattle.cluster_turns.specs.CallTurns.{Turn, Took, no_turn, event_turn, flush_turns, horizon_look}
use Rattle.clv_base.specs.History.{IsAmong}
use Rattle.clv_base.specs.Journals.{History}
use Rattle.clv_base.specs.Sessions.{SessionState, Phase, Touching, Ended, Standing, Told, Refused, is_touching}
use Rattle.cluster_turns.specs.CallTurns.{IsMadeBy, entry_on, entries_made}
use Rattle.cluster_turns.specs.Walkers.{kept}
use Rattle.law_base.proofs.Shards.{is_done, outcome_in, fits_request}
use Rattle.cluster_turns.specs.declared.shards.Walker.{Walker}
use Rattle.cluster_turns.proofs.Laws.{head_same, quiet_so, tail_same, kept_grows, entries_are_made}
use Rattle.session_ops.specs.Standing.{IsTurnOf}
use Rattle.session_ops.specs.Requested.{RequestTold, HasRequest}
use Rattle.session_ops.specs.declared.settled_looking.SettleError.{SettleError}
use Rattle.session_ops.specs.declared.settled_looking.SettleError.TheVariants as settle
use Rattle.session_ops.specs.declared.committing.Settled.{Settled}
use Rattle.session_ops.specs.declared.committing.CommitError.{CommitError}
use Rattle.session_ops.specs.Decided.{DecidedBy, committed_as}
use Rattle.session_ops.specs.Committed.{CommittedBy, Committing, CommitTold, PointsAtRequest}
use Rattle.session_ops.proofs.Making.{happens_fits}

-- ---- the entry

module _ (l : Event) (o : Outcome) (is_told : Outcome → Bool) (fits : (s : Shard) → is_told (outcome_in (happen s l)) ≡ is_done (happen s l)) (told : is_told o ≡ true) where
  -- an event that is answered so is entered, with the clock that the walker then has
  entry_there : (s t : Shard) (clock w : ℕ) (e : Event) (r : Result Outcome StepError) (made : Option Entry) (c : ℕ) → Tells (step s clock w e) s clock w e r t made → e ≡ l → r ≡ Ok o → c ≡ clock_after clock r made
      → (x : Entry) × (made ≡ Some x) × (c ≡ x.stamp)
  entry_there s t clock w e r None c h is ans k =
      let quiet = subst (λ y. Tells (step s clock w l) s clock w l y t None) ans (subst (λ y. Tells (step s clock w y) s clock w y r t None) is h) in
      let q = quiet_so (next_stamp s clock l) w l (nat_lt (next_stamp s clock l) (2 ^ 48)) (happen s l) o quiet.0 in
      absurd (both_ways (is_done (happen s l)) q.1 (sym (fits s) ∙ ap is_told q.0 ∙ told))
  entry_there s t clock w e r (Some x) c h is ans k = (x, refl, k)

  module _ {T : Type 0} where
    no_turn_left : (w c d : ℕ) (ps qs : List (Option (Pass T Note Origin))) (ts : List Turn) → Took w c ps ts d qs → ts ≡ [] → d ≡ c
    no_turn_left w _ _ _ _ _ (no_turn clock ps) is = refl
    no_turn_left w _ _ _ _ _ (event_turn clock c clock' ps qs rs t ts walked made stays h) is = absurd cc
    no_turn_left w _ _ _ _ _ (flush_turns clock c d clock' upto pushed ps ms qs rs t u ts out back e answer made same lands landed entered known h) is = absurd cc
    no_turn_left w _ _ _ _ _ (horizon_look clock clock' n horizon ps qs rs ts looked h) is = no_turn_left w clock clock' qs rs ts h is

    pub stamp_told : (w c d : ℕ) (ps qs : List (Option (Pass T Note Origin))) (ts : List Turn) → Took w c ps ts d qs → (u : Turn) → ts ≡ u ∷ [] → u.event ≡ l → u.answer ≡ Ok o → (x : Entry) × (u.made ≡ Some x) × (d ≡ x.stamp)
    stamp_told w _ _ _ _ _ (no_turn clock ps) u is event answer = absurd cc
    stamp_told w _ _ _ _ _ (event_turn clock c clock' ps qs rs t ts walked made stays h) u is event answer =
        let same = head_same t u ts [] is in
        let found = entry_there walked.turned.s walked.turned.t clock w t.event t.answer walked.turned.told.made c walked.turned.told.tells (ap (λ z. z.event) same ∙ event) (ap (λ z. z.answer) same ∙ answer) walked.turned.told.clock_is in
        (found.0, sym (ap (λ z. z.made) same) ∙ made ∙ found.1, no_turn_left w c clock' qs rs ts h (tail_same t u ts [] is) ∙ found.2)
    stamp_told w _ _ _ _ _ (flush_turns clock c d clock' upto pushed ps ms qs rs t v ts out back e ans made same lands landed entered known h) u is event answer = let wrong : v ∷ ts ≡ [] = tail_same t u (v ∷ ts) [] is in absurd cc
    stamp_told w _ _ _ _ _ (horizon_look clock clock' n horizon ps qs rs ts looked h) u is event answer = stamp_told w clock clock' qs rs ts h u is event answer

-- ---- a request among the walker's entries

abbrev is_standing : Phase → Bool
is_standing Touching = false
is_standing Ended = false
is_standing (Standing home) = true
is_standing Told = false
is_standing Refused = false

elsewhere : {X : Type 0} (q : SessionState) (k : ℕ) (x : Phase) → q.phase ≡ Standing k → q.phase ≡ x → is_standing x ≡ false → X
elsewhere q k x at is other = absurd (both_ways (is_standing x) other (ap is_standing (sym is ∙ at)))

-- it was touching before
unasked_there : {X : Type 0} (p q : SessionState) (k : ℕ) → is_touching p.phase ≡ true → q.phase ≡ Standing k → q ≡ p → X
unasked_there p q k touching at is = absurd (both_ways (is_touching p.phase) (ap is_touching (sym (ap (λ z. z.phase) is) ∙ at)) touching)

among_before : (n : ℕ) (x : Entry) (es fs : History) → IsAmong n x es → IsAmong n x (es ++ fs)
among_before n x [] fs h = absurd h
among_before n x (e ∷ es) fs (inl h) = inl h
among_before n x (e ∷ es) fs (inr h) = inr (among_before n x es fs h)

among_last : (n : ℕ) (x : Entry) (es : History) → IsAmong n x (es ++ (n, x) ∷ [])
among_last n x [] = inl refl
among_last n x (e ∷ es) = inr (among_last n x es)

ok_outcome : (a b : Outcome) → ◌≡◌ {A = Result Outcome StepError} (Ok a) (Ok b) → a ≡ b
ok_outcome a b h = cc

not_wanting : {X : Type 0} (o : Outcome) → ◌≡◌ {A = Result Outcome StepError} (Ok o) (Err NoMemory) → X
not_wanting o h = absurd cc

module _ {T : Type 0} where
  -- it stays there
  pub request_stays : (w c d : ℕ) (ps qs : List (Option (Pass T Note Origin))) (ts : List Turn) (p : SessionState) (point : Point) → Took w c ps ts d qs → HasRequest ps p point → HasRequest qs p point
  request_stays w c d ps qs ts p point took h = record {
    entry = h.entry;
    event = h.event;
    outcome = h.outcome;
    stamp = h.stamp;
    among = subst (IsAmong point.shard h.entry) (sym (kept_grows w c d ps qs ts took)) (among_before point.shard h.entry (kept ps) (entries_made ts) h.among);
  }

  -- one that was asked has the clock's stamp
  pub request_made : (w c d n : ℕ) (ps qs : List (Option (Pass T Note Origin))) (p : SessionState) → RequestTold w c ps n (Request p.tx p.touched) (Ok Asked) d qs → HasRequest qs p (record { stamp = d; shard = n })
  request_made w c d n ps qs p a = at a.is
    where
      at : IsTurnOf n (Request p.tx p.touched) (Ok Asked) a.turns → HasRequest qs p (record { stamp = d; shard = n })
      at (inl (none, is)) = not_wanting Asked none
      at (inr (t, is, shard, event, answer)) =
          let found = stamp_told (Request p.tx p.touched) Asked fits_request (λ s. (happens_fits s p.tx p.touched).0) refl w c d ps qs a.turns a.took t is event answer in
          let made = (subst (AllByRecursion (IsMadeBy w)) is (entries_are_made w c d ps qs a.turns a.took)).0 found.0 found.1 in
          let one : entries_made a.turns ≡ (n, found.0) ∷ [] = ap entries_made is ∙ ap (λ m. entry_on t.shard m ++ []) found.1 ∙ ap (λ k. (k, found.0) ∷ []) shard in
          record {
            entry = found.0;
            event = made.1 ∙ event;
            outcome = ok_outcome found.0.outcome Asked (sym made.2 ∙ answer);
            stamp = found.2;
            among = subst (IsAmong n found.0) (sym (kept_grows w c d ps qs a.turns a.took ∙ ap (λ es. kept ps ++ es) one)) (among_last n found.0 (kept ps));
          }

  decided_points : (qs : List (Option (Pass T Note Origin))) (p : SessionState) (asked : Point) (d : Result Point SettleError) → HasRequest qs p asked → PointsAtRequest qs p (committed_as asked d)
  decided_points qs p asked (Ok look) h = h
  decided_points qs p asked (Err (settle.Aborted cause)) h = tt
  decided_points qs p asked (Err (settle.Unsettled m)) h = tt
  decided_points qs p asked (Err (settle.Worn at)) h = tt
  decided_points qs p asked (Err settle.Memory) h = tt

  committed_points : (count n : ℕ) (qs : List (Option (Pass T Note Origin))) (p q : SessionState) (asked : Point) (x : Result Outcome StepError) (r : Result Settled CommitError) (ts : List Turn) → (x ≡ Ok Asked → HasRequest qs p asked)
      → CommittedBy count n p asked x r ts q → PointsAtRequest qs p r
  committed_points count n qs p q asked (Ok Asked) r ts has h = subst (PointsAtRequest qs p) (sym h.1) (decided_points qs p asked h.0 (has refl))
  committed_points count n qs p q asked (Ok (Dead cause)) r ts has h = subst (PointsAtRequest qs p) (sym h.0) tt
  committed_points count n qs p q asked (Ok DownOut) r ts has h = subst (PointsAtRequest qs p) (sym h.0) tt
  committed_points count n qs p q asked (Ok o) r ts has h = absurd h
  committed_points count n qs p q asked (Err NoMemory) r ts has h = subst (PointsAtRequest qs p) (sym h.0) tt
  committed_points count n qs p q asked (Err (IsWorn at)) r ts has h = subst (PointsAtRequest qs p) (sym h.0) tt

  -- ---- where a request stands

  asked_there : (qs : List (Option (Pass T Note Origin))) (p q : SessionState) (stamp n k : ℕ) → HasRequest qs p (record { stamp = stamp; shard = n }) → q ≡ record p { phase = Standing n } → q.phase ≡ Standing k
      → HasRequest qs q (record { stamp = stamp; shard = k })
  asked_there qs p q stamp n k h is phase =
      let at : Standing n ≡ Standing k = sym (ap (λ z. z.phase) is) ∙ phase in
      let same : n ≡ k = cc in
      record {
        entry = h.entry;
        event = h.event ∙ sym (ap (λ (z : SessionState). Request z.tx z.touched) is);
        outcome = h.outcome;
        stamp = h.stamp;
        among = subst (λ j. IsAmong j h.entry (kept qs)) same h.among;
      }

  pub decided_asked : (count n k stamp : ℕ) (qs : List (Option (Pass T Note Origin))) (p q : SessionState) (d : Result Point SettleError) (ts : List Turn) → HasRequest qs p (record { stamp = stamp; shard = n }) → DecidedBy count n p d ts q
      → q.phase ≡ Standing k → HasRequest qs q (record { stamp = stamp; shard = k })
  decided_asked count n k stamp qs p q (Ok look) ts has h at = elsewhere q k Told at (ap (λ z. z.phase) h.1) refl
  decided_asked count n k stamp qs p q (Err (settle.Aborted cause)) ts has h at = elsewhere q k Refused at (ap (λ z. z.phase) h.2) refl
  decided_asked count n k stamp qs p q (Err (settle.Unsettled m)) ts has h at = asked_there qs p q stamp n k has h.2 at
  decided_asked count n k stamp qs p q (Err (settle.Worn t)) ts has h at = asked_there qs p q stamp n k has h.1 at
  decided_asked count n k stamp qs p q (Err settle.Memory) ts has h at = asked_there qs p q stamp n k has h at

  committed_asked : (count n k stamp : ℕ) (qs : List (Option (Pass T Note Origin))) (p q : SessionState) (x : Result Outcome StepError) (r : Result Settled CommitError) (ts : List Turn) → is_touching p.phase ≡ true
      → (x ≡ Ok Asked → HasRequest qs p (record { stamp = stamp; shard = n })) → CommittedBy count n p (record { stamp = stamp; shard = n }) x r ts q → q.phase ≡ Standing k → HasRequest qs q (record { stamp = stamp; shard = k })
  committed_asked count n k stamp qs p q (Ok Asked) r ts touching has h at = decided_asked count n k stamp qs p q h.0 ts (has refl) h.2 at
  committed_asked count n k stamp qs p q (Ok (Dead cause)) r ts touching has h at = elsewhere q k Ended at (ap (λ z. z.phase) h.2) refl
  committed_asked count n k stamp qs p q (Ok DownOut) r ts touching has h at = unasked_there p q k touching at h.2
  committed_asked count n k stamp qs p q (Ok o) r ts touching has h at = absurd h
  committed_asked count n k stamp qs p q (Err NoMemory) r ts touching has h at = unasked_there p q k touching at h.2
  committed_asked count n k stamp qs p q (Err (IsWorn t)) r ts touching has h at = unasked_there p q k touching at h.2

module _ {M S G : Type 0} where
  -- a commit answers its request's point
  pub committing_points : (count n stamp : ℕ) (w v : Walker M S G) (p q : SessionState) (r : Result Settled CommitError) → Committing count w.number w.clock w.passes.items n p stamp r v.clock v.passes.items q → PointsAtRequest v.passes.items p r
  committing_points count n stamp w v p q r c = committed_points count n v.passes.items p q (record { stamp = stamp; shard = n }) c.answer r c.rest c.requested c.told

  -- and where the request stands, it has its stamp
  pub commit_asked : (count stamp home : ℕ) (w v : Walker M S G) (p q : SessionState) (r : Result Settled CommitError) → is_touching p.phase ≡ true → CommitTold count w p stamp r v q → q.phase ≡ Standing home
      → HasRequest v.passes.items q (record { stamp = stamp; shard = home })
  commit_asked count stamp home w v p q r touching (inl (none, is, stays, place)) at = unasked_there p q home touching at place
  commit_asked count stamp home w v p q r touching (inr (n, low, c)) at = committed_asked count n home stamp v.passes.items p q c.answer r c.rest touching c.requested c.told at
