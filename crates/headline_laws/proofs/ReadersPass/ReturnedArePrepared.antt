-- Along a history: who was out on a shard and is here again is prepared there.
use Rattle.std.proofs.Common.{◌≡◌, ◌⊎◌, inl, inr, ⊎_elim, refl, sym, ap, subst, ℕ, ◌<◌, true, false, Bool, List, [], ◌∷◌, ◌++◌, Option, Some, None, eqb-true}
use Rattle.std.proofs.lemmas.Bool.{both_ways}
use Rattle.clv_base.specs.declared.names.TxId.{TxId}
use Rattle.clv_base.specs.declared.names.Birth.{Birth}
use Rattle.clv_base.specs.declared.ops.Op.{Op}
use Rattle.clv_base.specs.declared.ops.Answer.{Answer}
use Rattle.clv_base.specs.declared.causes.AbortCause.{AbortCause}
use Rattle.clv_base.specs.declared.causes.Vote.TheVariants.{Yes, Read, No}
use Rattle.clv_base.specs.declared.logs.LogRecord.{LogRecord}
use Rattle.clv_base.specs.declared.events.Event.{Event}
use Rattle.clv_base.specs.declared.events.Event.TheVariants.{Op as OpEvent, Request}
use Rattle.clv_base.specs.declared.events.Outcome.{Outcome}
use Rattle.clv_base.specs.declared.state.Ruling.TheVariants.{Commit as CommitVerdict, Acknowledge, Abort as AbortVerdict, End as EndVerdict}
use Rattle.clv_base.specs.Orders.{tx_same, tx_in, tx_get}
use Rattle.clv_base.specs.Shards.{shard_count}
use Rattle.clv_base.specs.LogRules.{log_of}
use Rattle.clv_base.specs.Logs.{prepared_in, prepare_of, in_doubt}
use Rattle.clv_base.specs.State.{Shard, Local, is_present}
use Rattle.clv_base.specs.Undo.{stage_of, doomed_here}
use Rattle.clv_base.specs.OneShard.{OpDies, OpAnswers, seen_fits}
use Rattle.clv_base.specs.Events.{finish, with_durable}
use Rattle.clv_base.specs.Restarts.{run_after, log_after_restart, revived}
use Rattle.clv_base.specs.Journals.{History, event_state, up_to_restart}
use Rattle.clv_base.proofs.SameNames.{tx_true, tx_self}
use Rattle.protocol_laws.specs.Growth.{IsPrefixOf}
use Rattle.protocol_laws.specs.SessionLaws.{tx_of}
use Rattle.protocol_laws.proofs.LogOnlyGrows.DueGrowsLogs.{same as same_log}
use Rattle.history_laws.specs.Openings.{LegalFrom}
use Rattle.shard_laws.proofs.Restarts.RestoredLocksAndParts.{restored_none}
use Rattle.shard_laws.proofs.Order.ChangesKeepOrder.{prepare_some}
use Rattle.history_cases.proofs.Entering.{Makes, by_event, by_flush, by_failure, by_restart, makes}
use Rattle.history_cases.proofs.Merging.{Placed, Among, among_left}
use Rattle.history_laws.proofs.NeverTakenBack.{walker_of}
use Rattle.history_cases.proofs.Stepping.{commits, votes, rules, KeptByDue, settled, op_dies, op_answers, finishes, stops}
use Rattle.history_cases.proofs.Worlds.{state_at}
use Rattle.history_laws.proofs.Entries.WalkedEntryByEntry.{behind_of}
use Rattle.history_laws.proofs.Logs.DoubtedAreUndecided.{doubt_prepared}
use Rattle.history_laws.proofs.Entries.WhatOperationsDo.{OpIs, dies, rolls, performs, reply_is}
use Rattle.fate_laws.proofs.History.EntriesInTurn.{same_epoch, turn_of}
use Rattle.fate_laws.proofs.Origins.FrontsKeepOrigins.{DidNow, traced_front}
use Rattle.fate_laws.proofs.Parts.FrontsKeepParts.{asked_not_own}
use Rattle.fate_laws.proofs.Parts.OthersCloseOrGo.{Calm, calm_step, calm_finish, calm_self, was_there}
use Rattle.fate_laws.proofs.Logs.LogOnlyGrows.{inside_step}
use Rattle.fate_laws.proofs.History.EntryByEntry.{Next, next_at, each_shard}
use Rattle.fate_laws.proofs.Logs.WhatAddsNoPrepare.{prepare_more}
use Rattle.fate_laws.proofs.Parts.BoundStaysBound.{NotOwn}
use Rattle.fate_laws.proofs.FallenAreUncommitted.FrontsKeepOutUncommitted.{Met, WasOut, walk_on, none_held, last_front}
use Rattle.headline_laws.proofs.ReadersPass.AbortedWereHere.{present_back}
use Rattle.headline_laws.proofs.ReadersPass.WhyCommittedHere.{finish_prefix}
use Rattle.protocol_laws.proofs.LogsInOrder.OneRecordMore.{prepared_there}

-- ---- an entry

-- it was here, and the log goes on
abbrev Stayed : Shard → Shard → TxId → Type 0
Stayed s x t = (is_present (stage_of s.local t) ≡ true) × IsPrefixOf s.local.log x.local.log

by_calm : (s x : Shard) (t : TxId) → Calm s x t → is_present (stage_of x.local t) ≡ true → Stayed s x t
by_calm s x t c p = (was_there s x t c (stage_of x.local t) refl p, (c.inside).log)

-- who is here after an entry that is none of its operations was here, or is restored from its PREPARE
others_made : (log : List LogRecord) (s x : Shard) {e : Event} {o : Outcome} (t : TxId) → Makes log s e o x → NotOwn t e → is_present (stage_of x.local t) ≡ true → Stayed s x t ⊎ (prepared_in x.local.log t ≡ true)
others_made log s x t (by_event g (finishes {t = y} u h)) n p = inl (by_calm s (finish y) t (calm_finish s y t (calm_step s y t h n)) p)
others_made log s x t (by_event g (stops u)) n p = inl (p, same_log s.local.log)
others_made log s x t (by_flush j u f) n p = let y = with_durable j s in inl (by_calm y (finish y) t (calm_finish y y t (calm_self y t)) p)
others_made log s x t (by_failure j u f) n p = inl (p, same_log s.local.log)
others_made log s x t (by_restart epoch keeps u r) n p = at (tx_in t (in_doubt s.shard (up_to_restart s.run epoch log))) refl
  where
    at : (b : Bool) → tx_in t (in_doubt s.shard (up_to_restart s.run epoch log)) ≡ b → Stayed s (revived s epoch (up_to_restart s.run epoch log)) t ⊎ (prepared_in (up_to_restart s.run epoch log) t ≡ true)
    at true i = inr (doubt_prepared s.shard (up_to_restart s.run epoch log) t i)
    at false i = absurd (both_ways _ (ap is_present (restored_none (in_doubt s.shard (up_to_restart s.run epoch log)) t i)) p)

present_due : (t : TxId) (s0 : Shard) → KeptByDue (λ s. is_present (stage_of s.local t) ≡ true → is_present (stage_of s0.local t) ≡ true)
present_due t s0 s u (commits tx a b) k p = k (present_back (tx ∷ []) None s.local.parts t p)
present_due t s0 s u (votes tx v Yes a b) k p = k p
present_due t s0 s u (votes tx v Read a b) k p = k (present_back (tx ∷ []) None s.local.parts t p)
present_due t s0 s u (votes tx v (No why) a b) k p = k p
present_due t s0 s u (rules tx q (CommitVerdict parts) a b) k p = k p
present_due t s0 s u (rules tx q Acknowledge a b) k p = k (present_back (tx ∷ []) None s.local.parts t p)
present_due t s0 s u (rules tx q (AbortVerdict cause to) a b) k p = k (present_back (doomed_here s.local tx) (Some tx) s.local.parts t p)
present_due t s0 s u (rules tx q EndVerdict a b) k p = k p

abbrev OwnOp : TxId → Event → Type 0
OwnOp t e = (birth : Birth) × (nth : ℕ) × (seen : Option ℕ) × (op : Op) × (e ≡ OpEvent t birth nth seen op)

own_or_not : (t : TxId) (e : Event) → OwnOp t e ⊎ NotOwn t e
own_or_not t (OpEvent u birth nth seen op) = at (tx_same u t) refl
  where
    one : {b : Birth} {i : ℕ} {x : Option ℕ} {y : Op} → OpEvent u birth nth seen op ≡ OpEvent t b i x y → u ≡ t
    one z = cc

    at : (d : Bool) → tx_same u t ≡ d → OwnOp t (OpEvent u birth nth seen op) ⊎ NotOwn t (OpEvent u birth nth seen op)
    at true d = inl (birth, nth, seen, op, ap (λ z. OpEvent z birth nth seen op) (tx_true u t d))
    at false d = inr (λ b i x y z. both_ways _ d (subst (λ v. tx_same u v ≡ true) (one z) (tx_self u)))
own_or_not t (Request u ts) = inr (λ b i x y z. absurd cc)
own_or_not t _ = inr (λ b i x y z. absurd cc)

-- an operation of its own that has a part after it had one, or is its first here
abbrev First : Shard → TxId → Option ℕ → Type 0
First s t seen = (seen_fits s.local.epoch seen ≡ true) × (stage_of s.local t ≡ None)

died : (l m : Local) (t : TxId) (birth : Birth) (seen : Option ℕ) (op : Op) (c : AbortCause) → OpIs l t birth seen op (OpDies c m) → is_present (stage_of m t) ≡ true → is_present (stage_of l t) ≡ true
died l _ t birth seen op c dies p = p
died l _ t birth seen op c rolls p = present_back (doomed_here l t) (Some t) l.parts t p

answered : (l m : Local) (t : TxId) (birth : Birth) (seen : Option ℕ) (op : Op) (a : Answer) → OpIs l t birth seen op (OpAnswers a m) → (is_present (stage_of l t) ≡ true) ⊎ ((seen_fits l.epoch seen ≡ true) × (stage_of l t ≡ None))
answered l _ t birth seen op _ (performs f (inl n)) = inr (f, n)
answered l _ t birth seen op _ (performs f (inr a)) = inl (subst (λ z. is_present z ≡ true) (sym a) refl)

own_made : (log : List LogRecord) (s x : Shard) {o : Outcome} (t : TxId) (birth : Birth) (nth : ℕ) (seen : Option ℕ) (op : Op) → Makes log s (OpEvent t birth nth seen op) o x → is_present (stage_of x.local t) ≡ true → Stayed s x t ⊎ First s t seen
own_made log s x t birth nth seen op (by_event g (finishes u (op_dies _ _ _ _ _ cause l z))) p =
    let y = record s { local = l } in
    let h = op_dies t birth nth seen op cause l z in
    inl (died s.local l t birth seen op cause (reply_is s.shard s.local t birth seen op _ z) (settled (λ v. is_present (stage_of v.local t) ≡ true → is_present (stage_of y.local t) ≡ true) y (present_due t y) (λ v. v) p), finish_prefix s y (inside_step s y h))
own_made log s x t birth nth seen op (by_event g (finishes u (op_answers _ _ _ _ _ answer l z))) p =
    let y = record s { local = l } in
    ⊎_elim (λ k. inl (k, finish_prefix s y (inside_step s y (op_answers t birth nth seen op answer l z)))) (λ k. inr k) (answered s.local l t birth seen op answer (reply_is s.shard s.local t birth seen op _ z))

-- ---- along a history

abbrev Again : List (List LogRecord) → List (List LogRecord) → History → ℕ → Shard → Type 0
Again before after pre n s = (t : TxId) → WasOut before after pre n t → is_present (stage_of s.local t) ≡ true → prepared_in s.local.log t ≡ true

AllAgain : (splits : List ℕ) (before after : List (List LogRecord)) (pre : History) → Type 0
AllAgain splits before after pre = (n : ℕ) → n < shard_count splits → Again before after pre n (state_at before after n pre)

module _ {splits : List ℕ} {before after : List (List LogRecord)} {h : History} (l : LegalFrom splits before h after) (pre : History)
    (e : Placed) (post : History) (q : pre ++ e ∷ post ≡ h) where
  abbrev S : Shard
  S = state_at before after e.0 pre

  abbrev T : Shard
  T = event_state (log_of after e.0) (state_at before after e.0 pre) (e.1).event (e.1).outcome

  w : Next splits before after h pre e
  w = next_at splits before after h pre e post l.legal q

  -- who was met here does no first operation again
  not_first : (t : TxId) (birth : Birth) (nth : ℕ) (seen : Option ℕ) (op : Op) → (e.1).event ≡ OpEvent t birth nth seen op → First S t seen → WasOut before after pre e.0 t → ⊥
  not_first t birth nth seen op ev f (front, rest, z, (gone, open_, met)) = by_met met
    where
      more : (y : Placed) → Among y front → Among y pre
      more y i = subst (Among y) z (among_left y front rest i)

      by_met : Met before front front e.0 t → ⊥
      by_met (inl a) = let k = a (walker_of splits before after h e t l.legal w.among (ap tx_of ev)).0 in asked_not_own splits before after h pre e t birth nth seen op k.0 w ev ((k.1).0, (k.1).1, more (k.0, (k.1).0) (k.1).2, (k.1).3)
      by_met (inr (ep, (b, (y, i, p, a)))) =
          let j = more y i in
          let g = same_epoch splits before after h y e t b birth ep seen l.legal (turn_of h pre e y (behind_of splits before after h pre e post l.legal q) j) p a (record { nth = nth; op = op; is = ev }) in
          let same : ep ≡ S.local.epoch = eqb-true ep S.local.epoch (subst (λ v. seen_fits S.local.epoch v ≡ true) g.0 f.0) in
          (((traced_front l pre (e ∷ post) q).states e.0 w.inside).origins).known t (subst (λ v. DidNow pre e.0 v t) same (b, (y, j, p, a))) (none_held (tx_get t S.local.parts) f.1)

  again_here : Again before after pre e.0 S → Again before after pre e.0 T
  again_here k t v p = by_own (own_or_not t (e.1).event)
    where
      m : Makes (log_of after e.0) S (e.1).event (e.1).outcome T
      m = makes (log_of after e.0) S (e.1).event (e.1).outcome ((w.split).enters).event

      stayed : Stayed S T t → prepared_in T.local.log t ≡ true
      stayed s = let g = prepare_some S.local.log t (k t v s.0) in prepared_there T.local.log t g.0 (subst (λ z. prepare_of z t ≡ Some g.0) (s.1).1 (prepare_more S.local.log (s.1).0 t g.0 g.1))

      other : NotOwn t (e.1).event → prepared_in T.local.log t ≡ true
      other n = ⊎_elim (λ s. stayed s) (λ g. g) (others_made (log_of after e.0) S T t m n p)

      own : (birth : Birth) (nth : ℕ) (seen : Option ℕ) (op : Op) → (e.1).event ≡ OpEvent t birth nth seen op → prepared_in T.local.log t ≡ true
      own birth nth seen op ev = ⊎_elim (λ s. stayed s) (λ f. absurd (not_first t birth nth seen op ev f v)) (own_made (log_of after e.0) S T t birth nth seen op (subst (λ z. Makes (log_of after e.0) S z (e.1).outcome T) ev m) p)

      by_own : OwnOp t (e.1).event ⊎ NotOwn t (e.1).event → prepared_in T.local.log t ≡ true
      by_own (inl (birth, nth, seen, op, ev)) = own birth nth seen op ev
      by_own (inr n) = other n

  again_new : (n : ℕ) → Again before after pre n (state_at before after n pre) → Again before after pre n (state_at before after n (pre ++ e ∷ []))
  again_new n k = each_shard (λ m z. Again before after pre m (state_at before after m pre) → Again before after pre m z) before after e pre (subst (λ (z : Shard). Again before after pre e.0 S → Again before after pre e.0 z) (sym (w.split).next) (λ x. again_here x)) n (λ x. x) k

  again_next : (n : ℕ) → Again before after pre n (state_at before after n pre) → Again before after (pre ++ e ∷ []) n (state_at before after n (pre ++ e ∷ []))
  again_next n k t (front, rest, z, v) p =
      ⊎_elim (λ f. absurd (both_ways _ (subst (λ x. is_present (stage_of (state_at before after n x).local t) ≡ false) f v.0) p)) (λ f. again_new n k t (front, f.0, f.1, v) p) (last_front front rest pre e z)

-- who was out on a shard and is here again is prepared there
pub out_prepared : {splits : List ℕ} {before after : List (List LogRecord)} {h : History} → LegalFrom splits before h after → (pre post : History) → pre ++ post ≡ h → (n : ℕ) → n < shard_count splits
    → (t : TxId) → WasOut before after pre n t → is_present (stage_of (state_at before after n pre).local t) ≡ true → prepared_in (state_at before after n pre).local.log t ≡ true
unfolding AllAgain
out_prepared {splits} {before} {after} {h} l pre post q n i = walk_on (AllAgain splits before after) h [] pre post q (λ f e r z k m j. again_next l f e r z m (k m j)) first n i
  where
    first : AllAgain splits before after []
    first n i t v p = at (tx_in t (in_doubt n (log_after_restart n (log_of before n) (run_after before) 0))) refl
      where
        at : (b : Bool) → tx_in t (in_doubt n (log_after_restart n (log_of before n) (run_after before) 0)) ≡ b → prepared_in (state_at before after n []).local.log t ≡ true
        at true j = doubt_prepared n (log_after_restart n (log_of before n) (run_after before) 0) t j
        at false j = absurd (both_ways _ (ap is_present (restored_none (in_doubt n (log_after_restart n (log_of before n) (run_after before) 0)) t j)) p)
