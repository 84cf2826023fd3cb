-- Turns, one after another.
use Rattle.std.proofs.Common.{◌≡◌, ◌∙◌, refl, sym, ap, ℕ, zero, suc, ◌≤◌, Bool, List, [], ◌∷◌, ◌++◌, get_or, set, map, append_assoc, append-nil, Option, Some, None, Result, Ok, arith}
use Rattle.std.specs.List.{AllByRecursion}
use Rattle.clv_base.specs.declared.events.Event.{Event}
use Rattle.clv_base.specs.declared.events.Event.TheVariants.{FlushIn}
use Rattle.clv_base.specs.declared.events.Outcome.{Outcome}
use Rattle.clv_base.specs.declared.events.Entry.{Entry}
use Rattle.clv_base.specs.Events.{step, land}
use Rattle.clv_base.specs.State.{Shard}
use Rattle.clv_base.specs.Journals.{History}
use Rattle.history_replay.specs.Entries.{on_shard, entries_of}
use Rattle.turn_lock.specs.declared.pass.Pass.{Pass}
use Rattle.turn_lock.specs.Passes.{own}
use Rattle.machine_calls.specs.declared.machine.StepError.{StepError}
use Rattle.machine_calls.specs.Steps.{Made, Tells, listed}
use Rattle.machine_laws.specs.declared.notes.Note.{Note}
use Rattle.machine_laws.specs.declared.notes.Origin.{Origin}
use Rattle.machine_laws.specs.Homes.{entries_in}
use Rattle.machine_laws.specs.Notes.{plain}
use Rattle.machine_laws.proofs.Laws.{above}
use Rattle.cluster_turns.specs.Turns.{EventTold}
use Rattle.cluster_turns.specs.Walkers.{Walked, Looked, kept, own_of, own_lists}
use Rattle.cluster_turns.proofs.Walking.{event_rises}
use Rattle.cluster_turns.specs.Flights.{LandTold, landed_as}
use Rattle.cluster_turns.specs.CallTurns.{Turn, Took, no_turn, event_turn, flush_turns, horizon_look, IsMadeBy, entry_on, entries_made}

module _ {T : Type 0} where
  pub turns_follow : (w c d e : ℕ) (ps qs rs : List (Option (Pass T Note Origin))) (ts us : List Turn) → Took w c ps ts d qs → Took w d qs us e rs → Took w c ps (ts ++ us) e rs
  turns_follow w _ _ e _ _ rs _ us (no_turn clock ps) k = k
  turns_follow w _ _ e _ _ rs _ us (event_turn clock c clock' ps qs qs' t ts walked made stays h) k = event_turn clock c e ps qs rs t (ts ++ us) walked made stays (turns_follow w c clock' e qs qs' rs ts us h k)
  turns_follow w _ _ e _ _ rs _ us (flush_turns clock c d clock' upto pushed ps ms qs qs' t u ts out back is answer made same lands landed entered known h) k =
      flush_turns clock c d e upto pushed ps ms qs rs t u (ts ++ us) out back is answer made same lands landed entered known (turns_follow w d clock' e qs qs' rs ts us h k)
  turns_follow w _ _ e _ _ rs _ us (horizon_look clock clock' n horizon ps qs qs' ts looked h) k = horizon_look clock e n horizon ps qs rs (ts ++ us) looked (turns_follow w clock clock' e qs qs' rs ts us h k)

-- ---- what is kept

added_by : (n : ℕ) (made : Option Entry) → on_shard n (entries_in (map plain (listed made))) ≡ entry_on n made
added_by n None = refl
added_by n (Some x) = refl

module _ {T : Type 0} where
  event_kept : (n w clock c : ℕ) (e : Event) (r : Result Outcome StepError) (ps qs : List (Option (Pass T Note Origin))) (walked : Walked (EventTold clock w e r c) n w ps qs) → kept qs ≡ kept ps ++ entry_on n walked.turned.told.made
  event_kept n w clock c e r ps qs walked =
      walked.kept_is ∙ ap (λ l. kept ps ++ on_shard n (entries_in l)) walked.turned.told.added_is ∙ ap (λ h. kept ps ++ h) (added_by n walked.turned.told.made)

  landing_kept : (n w clock c upto : ℕ) (pushed : Bool) (ps qs : List (Option (Pass T Note Origin))) (walked : Walked (LandTold clock w pushed upto c) n w ps qs) → kept qs ≡ kept ps ++ (n, walked.turned.told.made) ∷ []
  landing_kept n w clock c upto pushed ps qs walked = walked.kept_is ∙ ap (λ l. kept ps ++ on_shard n (entries_in l)) walked.turned.told.added_is

  own_same : (n : ℕ) (ps : List (Option (Pass T Note Origin))) (p q : Pass T Note Origin) → ((d : Option (Pass T Note Origin)) → get_or ps n d ≡ Some p) → own q ≡ own p → own_lists (set ps n (Some q)) ≡ own_lists ps
  own_same n [] p q had same = refl
  own_same zero (x ∷ xs) p q had same = ap (λ l. l ∷ own_lists xs) (ap entries_in same ∙ sym (ap own_of (had None)))
  own_same (suc n) (x ∷ xs) p q had same = ap (λ l. own_of x ∷ l) (own_same n xs p q had same)

  looked_kept : (n horizon : ℕ) (ps qs : List (Option (Pass T Note Origin))) → Looked n ps horizon qs → kept qs ≡ kept ps
  looked_kept n horizon ps qs l = ap kept l.after_is ∙ ap entries_of (own_same n ps l.p l.q l.had l.same.3)

  one_more : (ps qs rs : List (Option (Pass T Note Origin))) (xs ys : History) → kept rs ≡ kept qs ++ ys → kept qs ≡ kept ps ++ xs → kept rs ≡ kept ps ++ (xs ++ ys)
  one_more ps qs rs xs ys h k = h ∙ ap (λ l. l ++ ys) k ∙ append_assoc (kept ps) xs ys

  pub kept_grows : (w c d : ℕ) (ps qs : List (Option (Pass T Note Origin))) (ts : List Turn) → Took w c ps ts d qs → kept qs ≡ kept ps ++ entries_made ts
  kept_grows w _ _ _ _ _ (no_turn clock ps) = sym (append-nil (kept ps))
  kept_grows w _ _ _ _ _ (event_turn clock c clock' ps qs rs t ts walked made stays h) =
      one_more ps qs rs (entry_on t.shard t.made) (entries_made ts) (kept_grows w c clock' qs rs ts h) (event_kept t.shard w clock c t.event t.answer ps qs walked ∙ ap (λ m. kept ps ++ entry_on t.shard m) (sym made))
  kept_grows w _ _ _ _ _ (flush_turns clock c d clock' upto pushed ps ms qs rs t u ts out back is answer made same lands landed entered known h) =
      let last : kept qs ≡ kept ms ++ entry_on u.shard u.made =
      landing_kept t.shard w c d upto pushed ms qs back ∙ ap (λ n. kept ms ++ (n, back.turned.told.made) ∷ []) (sym same) ∙ ap (λ m. kept ms ++ entry_on u.shard m) (sym entered) in
      one_more ps ms rs (entry_on t.shard t.made) (entry_on u.shard u.made ++ entries_made ts)
      (one_more ms qs rs (entry_on u.shard u.made) (entries_made ts) (kept_grows w d clock' qs rs ts h) last)
      (event_kept t.shard w clock c t.event t.answer ps ms out ∙ ap (λ m. kept ps ++ entry_on t.shard m) (sym made))
  kept_grows w _ _ _ _ _ (horizon_look clock clock' n horizon ps qs rs ts looked h) = kept_grows w clock clock' qs rs ts h ∙ ap (λ l. l ++ entries_made ts) (looked_kept n horizon ps qs looked)

-- ---- whose entries

made_so : (s t : Shard) (clock w : ℕ) (e : Event) (r : Result Outcome StepError) (made : Option Entry) → Tells (step s clock w e) s clock w e r t made → (x : Entry) → made ≡ Some x → (x.walker ≡ w) × (x.event ≡ e) × (r ≡ Ok x.outcome)
made_so s t clock w e r None h x is = absurd cc
made_so s t clock w e r (Some y) (o, answer, m) x is =
    let same : y ≡ x = cc in
    let is_entry = sym same ∙ m.entry_is in
    (ap (λ z. z.walker) is_entry, ap (λ z. z.event) is_entry, answer ∙ ap (λ z. Ok z) (sym (ap (λ z. z.outcome) is_entry)))

landed_so : (s u : Shard) (clock w upto : ℕ) (pushed : Bool) (t : Turn) (y : Entry) → Made (land s clock w pushed) s clock w FlushIn (landed_as pushed upto) u y → t.event ≡ FlushIn → t.answer ≡ Ok (landed_as pushed upto) → (x : Entry)
    → ◌≡◌ {A = Option Entry} (Some y) (Some x) → (x.walker ≡ w) × (x.event ≡ t.event) × (t.answer ≡ Ok x.outcome)
landed_so s u clock w upto pushed t y m event answer x is =
    let same : y ≡ x = cc in
    let is_entry = sym same ∙ m.entry_is in
    (ap (λ z. z.walker) is_entry, ap (λ z. z.event) is_entry ∙ sym event, answer ∙ ap (λ z. Ok z) (sym (ap (λ z. z.outcome) is_entry)))

module _ {T : Type 0} where
  pub entries_are_made : (w c d : ℕ) (ps qs : List (Option (Pass T Note Origin))) (ts : List Turn) → Took w c ps ts d qs → AllByRecursion (IsMadeBy w) ts
  entries_are_made w _ _ _ _ _ (no_turn clock ps) = tt
  entries_are_made w _ _ _ _ _ (event_turn clock c clock' ps qs rs t ts walked made stays h) =
      (λ x is. made_so walked.turned.s walked.turned.t clock w t.event t.answer walked.turned.told.made walked.turned.told.tells x (sym made ∙ is), entries_are_made w c clock' qs rs ts h)
  entries_are_made w _ _ _ _ _ (flush_turns clock c d clock' upto pushed ps ms qs rs t u ts out back is answer made same lands landed entered known h) = (
    λ x one. made_so out.turned.s out.turned.t clock w t.event t.answer out.turned.told.made out.turned.told.tells x (sym made ∙ one),
    (λ x one. landed_so back.turned.s back.turned.t c w upto pushed u back.turned.told.made back.turned.told.made_is lands landed x (sym entered ∙ one), entries_are_made w d clock' qs rs ts h),
  )
  entries_are_made w _ _ _ _ _ (horizon_look clock clock' n horizon ps qs rs ts looked h) = entries_are_made w clock clock' qs rs ts h

  pub clock_rises : (w c d : ℕ) (ps qs : List (Option (Pass T Note Origin))) (ts : List Turn) → Took w c ps ts d qs → c ≤ d
  clock_rises w _ _ _ _ _ (no_turn clock ps) = omega arith
  clock_rises w _ _ _ _ _ (event_turn clock c clock' ps qs rs t ts walked made stays h) =
      let a = event_rises clock w t.event t.answer c walked.turned.s walked.turned.t walked.turned.added walked.turned.told in let b = clock_rises w c clock' qs rs ts h in omega arith
  clock_rises w _ _ _ _ _ (flush_turns clock c d clock' upto pushed ps ms qs rs t u ts out back is answer made same lands landed entered known h) =
      let first = event_rises clock w t.event t.answer c out.turned.s out.turned.t out.turned.added out.turned.told in
      let m = back.turned.told in
      let a = above (land back.turned.s c w pushed) back.turned.s c w FlushIn (landed_as pushed upto) back.turned.t m.made m.made_is in
      let e = m.clock_is in let b = clock_rises w d clock' qs rs ts h in omega arith
  clock_rises w _ _ _ _ _ (horizon_look clock clock' n horizon ps qs rs ts looked h) = clock_rises w clock clock' qs rs ts h
