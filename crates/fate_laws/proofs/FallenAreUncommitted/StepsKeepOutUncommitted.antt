-- Each step keeps that who is out is never committed.
use Rattle.std.proofs.Common.{◌≡◌, ◌⊎◌, inl, inr, ⊎_elim, refl, sym, ap, subst, ◌∙◌, ℕ, true, false, cond, Bool, List, Option, Some, None}
use Rattle.std.proofs.lemmas.Bool.{both_ways, false_from_ne_true}
use Rattle.clv_base.specs.declared.names.TxId.{TxId}
use Rattle.clv_base.specs.declared.logs.LogRecord.{LogRecord}
use Rattle.clv_base.specs.declared.causes.Vote.TheVariants.{Read}
use Rattle.clv_base.specs.declared.state.Held.{Held}
use Rattle.clv_base.specs.declared.state.Voter.{Voter}
use Rattle.clv_base.specs.declared.state.Request.{Request}
use Rattle.clv_base.specs.declared.state.RequestState.TheVariants.{Undecided}
use Rattle.clv_base.specs.declared.state.Stage.TheVariants.{Active, Closed}
use Rattle.clv_base.specs.Orders.{tx_same, tx_get}
use Rattle.clv_base.specs.Logs.{committed_in, prepared_in, prepare_of}
use Rattle.clv_base.specs.State.{Shard, Local, is_present, with_local}
use Rattle.clv_base.specs.Undo.{stage_of, doomed_here, roll_back, roll_to}
use Rattle.clv_base.proofs.SameNames.{tx_true, tx_self}
use Rattle.law_base.proofs.Changed.{none_some}
use Rattle.law_base.proofs.Tables.{stage_in, is_pair, stage_by, get_put, without_pairs}
use Rattle.protocol_laws.specs.Growth.{IsPrefixOf}
use Rattle.history_laws.proofs.NeverTakenBack.LaterHistoriesHoldMembers.{committed_front}
use Rattle.history_cases.proofs.Uncommitting.{rolled as rolled_commits, gone_back as back_commits}
use Rattle.law_base.proofs.Commits.{committed_keeps}
use Rattle.law_base.proofs.Stages.{was_present, written_parts, active_back, stage_marked, other_part}
use Rattle.fate_laws.proofs.Homes.ShardKnowsHomes.{still_not}
use Rattle.fate_laws.proofs.Logs.WhatAddsNoPrepare.{rolled, gone_back, op_answering}
use Rattle.fate_laws.proofs.CommitsGoDownwards.{Down, down_step}
use Rattle.clv_base.specs.declared.names.Birth.{Birth}
use Rattle.clv_base.specs.declared.ops.Op.{Op}
use Rattle.clv_base.specs.declared.ops.Answer.{Answer}
use Rattle.clv_base.specs.declared.events.Event.{Event}
use Rattle.clv_base.specs.declared.events.Event.TheVariants.{Op as OpEvent}
use Rattle.clv_base.specs.declared.events.Outcome.{Outcome}
use Rattle.clv_base.specs.Needs.{writes_of, value_at, key_of}
use Rattle.clv_base.specs.OneShard.{op_reply, OpAnswers, active_part, new_part, locked, performed, marked_in, mark_dropped}
use Rattle.protocol_laws.proofs.LogOnlyGrows.DueGrowsLogs.{same, more, more_twice}
use Rattle.history_cases.proofs.Stepping.{Step}
use Rattle.law_base.proofs.LockRows.{Rows}
use Rattle.shard_laws.proofs.Order.ChangesKeepOrder.{prepare_some}
use Rattle.history_laws.proofs.Entries.WhatOperationsDo.{OpIs, performs}
use Rattle.fate_laws.proofs.Logs.LogOnlyGrows.{inside_step}
use Rattle.fate_laws.proofs.Logs.WhatPreparesOrCommits.{Commits, alone, decided, step_commits}
use Rattle.fate_laws.proofs.FallenAreUncommitted.PreparedPairsAreListed.{Lined, lined_performed}
use Rattle.fate_laws.proofs.FallenAreUncommitted.OutIsLost.{Out, Lost, Barred, barred_next, rolled_goes}
use Rattle.fate_laws.proofs.FallenAreUncommitted.DueKeepsOutUncommitted.{lined_rolled, lined_back, out_open}
use Rattle.protocol_laws.proofs.LogsInOrder.OneRecordMore.{prepared_there}

-- ---- only requests, voters, messages and the like change

pub barred_same : (K V O Q : TxId → Type 0) (s x : Shard) → x.local ≡ s.local → x.shard ≡ s.shard → x.durable ≡ s.durable → ((t : TxId) (q : Request) → tx_get t x.requests ≡ Some q → q.state ≡ Undecided → Q t)
    → ((t : TxId) (v : Voter) → tx_get t x.voters ≡ Some v → v.vote ≡ Some Read → (prepared_in s.local.log t ≡ false) × (stage_of s.local t ≡ Some Active → ⊥)) → Barred K V O Q s → Barred K V O Q x
barred_same K V O Q s x e f d rw rd b =
    barred_next K V O Q s x b
    (record {
      inside = record { shard = f; durable = d; log = subst (λ (l : Local). IsPrefixOf s.local.log l.log) (sym e) (same s.local.log) };
      lined = subst (Lined b.part) (sym e) b.lined;
      down = subst (λ (l : Local). (a c : TxId) → committed_in l.log a ≡ true → is_pair l.pairs a c ≡ true → committed_in l.log c ≡ true) (sym e) b.down;
      found = λ t p h. inl (subst (λ (l : Local). prepare_of l.log t ≡ Some p) e h);
      sought = λ t p h. let g = subst (λ (l : Local). prepare_of l.log t ≡ Some p) e h in (b.sought t (prepared_there s.local.log t p g), (λ q. b.homes t p q g));
      rows = rw;
      readers = λ t v g r. subst (λ (l : Local). (prepared_in l.log t ≡ false) × (stage_of l t ≡ Some Active → ⊥)) (sym e) (rd t v g r);
      stay = λ t w. subst (λ (l : Local). committed_in l.log t ≡ false) (sym e) (out_open K V O Q s t b w);
      away = λ t w h. subst (λ (l : Local). is_present (stage_of l t) ≡ true) e h;
      goes = λ t p h o g. absurd (both_ways _ (subst (λ (l : Local). is_present (stage_of l t) ≡ false) e o.0) h);
    })

-- ---- an abort takes parts away

rolled_down : (s : Shard) (u : TxId) → Down s → Down (with_local (roll_back u) s)
rolled_down s u d a c k i =
    committed_front s.local.log (roll_back u s.local).log c (more_twice s.local.log _ _) (d a c (rolled_commits u s.local a k) (without_pairs (doomed_here s.local u) s.local.pairs a c i).0)

pub barred_rolled : (K V O Q : TxId → Type 0) (s : Shard) (u : TxId) → committed_in s.local.log u ≡ false
    → ((p : ℕ × List TxId) → is_present (stage_of (roll_back u s.local) u) ≡ false → prepare_of s.local.log u ≡ Some p → Lost K V O (with_local (roll_back u) s) u p) → Barred K V O Q s → Barred K V O Q (with_local (roll_back u) s)
barred_rolled K V O Q s u c root b =
    let x = with_local (roll_back u) s in
    barred_next K V O Q s x b
    (record {
      inside = record { shard = refl; durable = refl; log = more_twice s.local.log _ _ };
      lined = lined_rolled b.part u s.local b.lined;
      down = rolled_down s u b.down;
      found = λ t p h. inl (rolled u s.local t p h);
      sought = λ t p h. let g = rolled u s.local t p h in (b.sought t (prepared_there s.local.log t p g), (λ q. b.homes t p q g));
      rows = b.rows;
      readers = λ t v g r.
          let k = b.readers t v g r in (
            false_from_ne_true _ (λ h. let z = prepare_some x.local.log t h in both_ways _ k.0 (prepared_there s.local.log t z.0 (rolled u s.local t z.0 z.1))),
            (λ a. k.1 (active_back (doomed_here s.local u) (Some u) t s.local.parts a).1),
          );
      stay = λ t w. still_not (committed_in s.local.log t) (committed_in (roll_back u s.local).log t) (rolled_commits u s.local t) (out_open K V O Q s t b w);
      away = λ t w h. was_present (doomed_here s.local u) (Some u) t s.local.parts h;
      goes = λ t p h o f. rolled_goes K V O Q s x u refl b c root t p h o.0 f;
    })

-- ---- a going back

pub barred_back : (K V O Q : TxId → Type 0) (s : Shard) (u : TxId) (n : ℕ) → stage_of s.local u ≡ Some Active → Barred K V O Q s → Barred K V O Q (with_local (roll_to u n) s)
barred_back K V O Q s u n act b =
    let x = with_local (roll_to u n) s in
    barred_next K V O Q s x b
    (record {
      inside = record { shard = refl; durable = refl; log = more s.local.log _ };
      lined = lined_back b.part u n s.local act b.lined;
      down = λ a c k i. committed_keeps s.local.log _ c (b.down a c (back_commits u n s.local a k) i);
      found = λ t p h. inl (gone_back u n s.local t p h);
      sought = λ t p h. let g = gone_back u n s.local t p h in (b.sought t (prepared_there s.local.log t p g), (λ q. b.homes t p q g));
      rows = b.rows;
      readers = λ t v g r.
          let k = b.readers t v g r in
          (false_from_ne_true _ (λ h. let z = prepare_some x.local.log t h in both_ways _ k.0 (prepared_there s.local.log t z.0 (gone_back u n s.local t z.0 z.1))), k.1);
      stay = λ t w. still_not (committed_in s.local.log t) (committed_in (roll_to u n s.local).log t) (back_commits u n s.local t) (out_open K V O Q s t b w);
      away = λ t w h. h;
      goes = λ t p h o f. absurd (both_ways _ o.0 h);
    })

-- ---- a part is marked

lined_marked : (part : List LogRecord) (l : Local) (u : TxId) → Lined part l → Lined part (mark_dropped u l)
lined_marked part l u p = record {
  decided = λ t c w. p.decided t (sym (stage_marked u t l.parts) ∙ c) w;
  paired = p.paired;
  met = p.met;
  stands = λ t e c. p.stands t e (sym (stage_marked u t l.parts) ∙ c);
  unprepared = λ t a. p.unprepared t (sym (stage_marked u t l.parts) ∙ a);
  ahead = p.ahead;
}

pub barred_marked : (K V O Q : TxId → Type 0) (s : Shard) (u : TxId) → Barred K V O Q s → Barred K V O Q (with_local (mark_dropped u) s)
barred_marked K V O Q s u b =
    let st : (t : TxId) → stage_in (marked_in u s.local.parts) t ≡ stage_of s.local t = λ t. stage_marked u t s.local.parts in
    barred_next K V O Q s (with_local (mark_dropped u) s) b
    (record {
      inside = record { shard = refl; durable = refl; log = same s.local.log };
      lined = lined_marked b.part s.local u b.lined;
      down = b.down;
      found = λ t p h. inl h;
      sought = λ t p h. (b.sought t (prepared_there s.local.log t p h), (λ q. b.homes t p q h));
      rows = b.rows;
      readers = λ t v g r. let k = b.readers t v g r in (k.0, (λ a. k.1 (sym (st t) ∙ a)));
      stay = λ t w. out_open K V O Q s t b w;
      away = λ t w h. sym (ap is_present (st t)) ∙ h;
      goes = λ t p h o f. absurd (both_ways _ o.0 (ap is_present (st t) ∙ h));
    })

-- ---- an operation

performed_own : (l : Local) (u : TxId) (birth : Birth) (op : Op) → (stage_of l u ≡ None) ⊎ (stage_of l u ≡ Some Active) → stage_of (performed u birth op l) u ≡ Some Active
performed_own l u birth op k = ap (λ z. stage_in z u) (written_parts u (writes_of op (value_at (key_of op) l.records)) (locked u birth op l)) ∙ own (tx_get u l.parts) refl k
  where
    own : (o : Option Held) → tx_get u l.parts ≡ o → (stage_by o ≡ None) ⊎ (stage_by o ≡ Some Active) → stage_in (new_part u birth o l.parts) u ≡ Some Active
    own None e k = ap stage_by (get_put u u (active_part birth) l.parts) ∙ at_self (tx_same u u) (tx_self u)
      where
        at_self : (b : Bool) → b ≡ true → stage_by (cond b (Some (active_part birth)) (tx_get u l.parts)) ≡ Some Active
        at_self true q = refl
        at_self false q = absurd (both_ways false refl q)
    own (Some x) e (inl k) = absurd (none_some x.stage (sym k))
    own (Some x) e (inr k) = ap stage_by e ∙ k

pub performed_other : (l : Local) (u t : TxId) (birth : Birth) (op : Op) → tx_same t u ≡ false → stage_of (performed u birth op l) t ≡ stage_of l t
performed_other l u t birth op n = ap (λ z. stage_in z t) (written_parts u (writes_of op (value_at (key_of op) l.records)) (locked u birth op l)) ∙ ap stage_by (other_part u birth l.parts t (tx_get u l.parts) n)

no_commits : (s : Shard) {e : Event} {o : Outcome} (t u : TxId) (birth : Birth) (nth : ℕ) (seen : Option ℕ) (op : Op) → e ≡ OpEvent u birth nth seen op → Commits s t e o → ⊥
no_commits s t u birth nth seen op q (alone ts k n) = absurd cc
no_commits s t u birth nth seen op q (decided home stamp) = absurd cc

pub barred_performed : (K V O Q : TxId → Type 0) (s : Shard) (u : TxId) (birth : Birth) (nth : ℕ) (seen : Option ℕ) (op : Op) (a : Answer) (l : Local) {o : Outcome} → Step s (OpEvent u birth nth seen op) o (record s { local = l }) → op_reply s.shard s.local u birth seen op ≡ OpAnswers a l
    → OpIs s.local u birth seen op (OpAnswers a l)
    → (P : TxId → Birth → Bool → Type 0) → Rows P s.local.locks → ((p : TxId) (b : Birth) → P p b true → stage_of s.local p ≡ Some Closed) → prepared_in s.local.log u ≡ false → committed_in s.local.log u ≡ false → (V u ⊎ Out O s u → ⊥)
    → ((v : Voter) → tx_get u s.voters ≡ Some v → v.vote ≡ Some Read → ⊥) → Barred K V O Q s → Barred K V O Q (record s { local = l })
barred_performed K V O Q s u birth nth seen op _ _ h g (performs fits st) P rows closed n c out nv b =
    let x = record s { local = performed u birth op s.local } in
    barred_next K V O Q s x b
    (record {
      inside = inside_step s x h;
      lined = lined_performed b.part s.local u birth op P rows closed st n b.lined;
      down = down_step s x h c b.down;
      found = λ t p k. inl (back t p k);
      sought = λ t p k. let f = back t p k in (b.sought t (prepared_there s.local.log t p f), (λ q. b.homes t p q f));
      rows = b.rows;
      readers = λ t v k r. (
        false_from_ne_true _ (λ z. let y = prepare_some x.local.log t z in both_ways _ (b.readers t v k r).0 (prepared_there s.local.log t y.0 (back t y.0 y.1))),
        (λ a. (b.readers t v k r).1 (sym (other t (λ e. nv v (subst (λ z. tx_get z s.voters ≡ Some v) e k) r)) ∙ a)),
      );
      stay = λ t w. false_from_ne_true _ (λ k. ⊎_elim (λ z. both_ways _ (out_open K V O Q s t b w) z) (λ z. no_commits s t u birth nth seen op refl z) (step_commits s x t h k));
      away = λ t w k. ap is_present (sym (other t (λ e. out (subst (λ z. V z ⊎ Out O s z) e w)))) ∙ k;
      goes = λ t p k o f. absurd (by_name t (tx_same t u) refl k o.0);
    })
  where
    back : (t : TxId) (p : ℕ × List TxId) → prepare_of (performed u birth op s.local).log t ≡ Some p → prepare_of s.local.log t ≡ Some p
    back t p k = op_answering s.shard s.local _ u birth seen op _ g t p k

    other : (t : TxId) → (t ≡ u → ⊥) → stage_of (performed u birth op s.local) t ≡ stage_of s.local t
    other t n = performed_other s.local u t birth op (false_from_ne_true _ (λ e. n (tx_true t u e)))

    by_name : (t : TxId) (d : Bool) → tx_same t u ≡ d → is_present (stage_of s.local t) ≡ true → is_present (stage_of (performed u birth op s.local) t) ≡ false → ⊥
    by_name t true e k a = both_ways _ (subst (λ z. is_present (stage_of (performed u birth op s.local) z) ≡ false) (tx_true t u e) a) (subst (λ o. is_present o ≡ true) (sym (performed_own s.local u birth op st)) refl)
    by_name t false e k a = both_ways _ a (ap is_present (performed_other s.local u t birth op e) ∙ k)
