-- What a shard did is of transactions that it answered, by one entry more.
use Rattle.std.proofs.Common.{◌≡◌, inl, inr, ⊎_elim, refl, sym, ap, subst, ◌∙◌, ℕ, true, false, Bool, List, [], ◌∷◌, ◌++◌, map, Option, Some, None, append-nil, append_assoc, not, ◌&&◌}
use Rattle.std.specs.List.{AllByRecursion}
use Rattle.std.proofs.lemmas.Bool.{both_ways, or_cases, and_parts}
use Rattle.std.proofs.lemmas.List.Folds.{list_any-append}
use Rattle.clv_base.specs.declared.names.TxId.{TxId}
use Rattle.clv_base.specs.declared.names.Birth.{Birth}
use Rattle.clv_base.specs.declared.ops.Op.{Op}
use Rattle.clv_base.specs.declared.ops.Answer.{Answer}
use Rattle.clv_base.specs.declared.logs.LogRecord.{LogRecord}
use Rattle.clv_base.specs.declared.state.Stage.{Stage}
use Rattle.clv_base.specs.declared.state.Held.{Held}
use Rattle.clv_base.specs.declared.events.Event.{Event}
use Rattle.clv_base.specs.declared.events.Event.TheVariants.{Op as OpEvent, RollTo, Restart}
use Rattle.clv_base.specs.declared.events.Outcome.{Outcome}
use Rattle.clv_base.specs.declared.events.Outcome.TheVariants.{Answered, Rolled}
use Rattle.clv_base.specs.declared.events.Entry.{Entry}
use Rattle.clv_base.specs.Orders.{tx_same, tx_in, tx_get}
use Rattle.clv_base.specs.Logs.{prepared_in, committed_in}
use Rattle.clv_base.specs.State.{Shard, is_present}
use Rattle.clv_base.specs.Undo.{stage_of}
use Rattle.clv_base.specs.Restarts.{run_after}
use Rattle.clv_base.specs.Journals.{History}
use Rattle.clv_base.specs.History.{state_before}
use Rattle.law_base.specs.Items.{Deed}
use Rattle.law_base.proofs.Lists.{all_mono, all_push}
use Rattle.law_base.proofs.Rows.{rows_get}
use Rattle.law_base.proofs.Sets.{in_filter}
use Rattle.law_base.proofs.Stages.{stage_of_some}
use Rattle.shard_laws.specs.OneShard.{Deeds, doer, with_one, new_deed, new_met, has_met, is_doomed, doomed_in, left_out}
use Rattle.shard_laws.proofs.AnswersAndMap.{named_doomed}
use Rattle.shard_laws.proofs.Keeping.LeavingKeeps.{in_two}
use Rattle.history_cases.proofs.Merging.{Placed, Among, among_left, among_right}
use Rattle.history_laws.proofs.Entries.WhatEntriesAdd.{one_met}
use Rattle.fate_laws.proofs.History.EntriesInTurn.{Requested}
use Rattle.fate_laws.proofs.Origins.DueKeepsOrigins.{SomeRequest, BirthFrom, PartFrom}
use Rattle.fate_laws.proofs.Origins.FrontsKeepOrigins.{Did, DidAny, IsOld, DidOrOld, Traced, any_of, old_more}
use Rattle.fate_laws.proofs.EachShardLeads.CommitsSpareTheFallen.{FellOn, is_left_out}
use Rattle.fate_laws.specs.Leading.{deeds_with, falling}
use Rattle.fate_laws.proofs.EachShardLeads.RecordsTellTheirOrigin.{prepared_from}
use Rattle.fate_laws.proofs.EachShardLeads.RestoredStayPrepared.{RestoredArePrepared}
use Rattle.fate_laws.proofs.EachShardLeads.SessionsMayAsk.{WasDone, Remembers}
use Rattle.fate_laws.proofs.EachShardLeads.NumbersRise.{DoneAs}

-- ---- one entry more in the history

fell_more : (before after : List (List LogRecord)) (pre : History) (y : Placed) (n : ℕ) (t : TxId) → FellOn before pre after n t → FellOn before (pre ++ y ∷ []) after n t
fell_more before after pre y n t (front, rest, q, inl d) = (front, rest ++ y ∷ [], sym (append_assoc front rest (y ∷ [])) ∙ ap (λ l. l ++ y ∷ []) q, inl d)
fell_more before after pre y n t (front, rest, q, inr (e, more, r, k, d)) =
    (front, rest ++ y ∷ [], sym (append_assoc front rest (y ∷ [])) ∙ ap (λ l. l ++ y ∷ []) q, inr (e, more ++ y ∷ [], ap (λ l. l ++ y ∷ []) r, k, d))

any_more : (run : ℕ) (pre : History) (y : Placed) (n : ℕ) (t : TxId) → DidAny pre n t → DidAny (pre ++ y ∷ []) n t
any_more run pre y n t (ep, (b, (z, i, p, a))) = (ep, (b, (z, among_left z pre (y ∷ []) i, p, a)))

done_more : (run : ℕ) (pre : History) (y : Placed) (n : ℕ) (d : Deed) → WasDone run pre n d → WasDone run (pre ++ y ∷ []) n d
done_more run pre y n d (inl (w, (z, i, p, k))) = inl (any_more run pre y n (doer d) w, (z, among_left z pre (y ∷ []) i, p, k))
done_more run pre y n d (inr o) = inr o

pub remembers_more : (before after : List (List LogRecord)) (pre : History) (y : Placed) (n : ℕ) (d : Deeds) → Remembers before after pre n d → Remembers before after (pre ++ y ∷ []) n d
remembers_more before after pre y n d m = record {
  done = all_mono (WasDone (run_after before) pre n) (WasDone (run_after before) (pre ++ y ∷ []) n) (done_more (run_after before) pre y n) d.done m.done;
  met = λ t p e. old_more (run_after before) pre y n t (m.met t p e);
  fell = λ t i. let f = m.fell t i in (old_more (run_after before) pre y n t f.0, fell_more before after pre y n t f.1);
}

-- ---- whose part is here did an operation here, or is of an earlier run

held_did : (run : ℕ) (pre : History) (n : ℕ) (s : Shard) (t : TxId) (p : Held) (b : Bool) → p.is_restored ≡ b → Traced run pre n s → RestoredArePrepared s.local → tx_get t s.local.parts ≡ Some p → BirthFrom (Did pre n s.local.epoch) b t p.birth → DidOrOld run pre n t
held_did run pre n s t p true q k r g d = (prepared_from (DidOrOld run pre n) (Requested pre) (IsOld run) n s.local.log (k.origins).log t (rows_get (λ y. (y.1).is_restored ≡ true → prepared_in s.local.log y.0 ≡ true) t p s.local.parts r g q)).0
held_did run pre n s t p false q k r g d = any_of run pre n s.local.epoch t p.birth d

pub part_did : (run : ℕ) (pre : History) (n : ℕ) (s : Shard) (t : TxId) (o : Option Stage) → Traced run pre n s → RestoredArePrepared s.local → stage_of s.local t ≡ o → (o ≡ None → ⊥) → DidOrOld run pre n t
part_did run pre n s t None k r e n0 = absurd (n0 refl)
part_did run pre n s t (Some st) k r e n0 =
    let h = stage_of_some s.local.parts t st e in
    held_did run pre n s t h.0 (h.0).is_restored refl k r h.1 (rows_get (λ y. PartFrom (Did pre n s.local.epoch) (SomeRequest (Requested pre) (IsOld run)) y.0 y.1) t h.0 s.local.parts (k.origins).parts h.1).0

pub none_doomed : (o : Option Stage) → is_doomed o ≡ true → o ≡ None → ⊥
none_doomed o d e = both_ways false refl (sym (ap is_doomed e) ∙ d)

pub none_present : (o : Option Stage) → is_present o ≡ true → o ≡ None → ⊥
none_present o d e = both_ways false refl (sym (ap is_present e) ∙ d)

-- ---- the shard's own entry

module _ (before after : List (List LogRecord)) (pre : History) (n : ℕ) (x : Entry) (s t : Shard) (old : Traced (run_after before) pre n s) (now : Traced (run_after before) (pre ++ (n, x) ∷ []) n t) (rows : RestoredArePrepared s.local) (rows_now : RestoredArePrepared t.local)
    (is_s : state_before before pre after n ≡ s) (is_t : state_before before (pre ++ (n, x) ∷ []) after n ≡ t) (d : Deeds) (m : Remembers before after pre n d)
    (backs : (tx : TxId) (nth seen upto : ℕ) → x.event ≡ RollTo tx nth seen upto → DidAny pre n tx) where
  did_now : (tx : TxId) (b : Birth) (nth : ℕ) (seen : Option ℕ) (op : Op) (a : Answer) (ep : ℕ) → x.event ≡ OpEvent tx b nth seen op → x.outcome ≡ Answered a ep → DidAny (pre ++ (n, x) ∷ []) n tx
  did_now tx b nth seen op a ep e f =
      let i = among_right (n, x) pre ((n, x) ∷ []) (inl refl) in
      let w = (now.epochs (n, x) tx b nth seen op a ep i refl e f).1 in
      (ep, (b, ((n, x), i, refl, record { seen = seen; answer = a; at = record { nth = nth; op = op; is = e }; outcome = f; saw = w })))

  now_done : (tx : TxId) (k : ℕ) (e : Event) (o : Outcome) → x.event ≡ e → x.outcome ≡ o → DoneAs tx k e o → (y : Placed) × Among y (pre ++ (n, x) ∷ []) × (y.0 ≡ n) × DoneAs tx k (y.1).event (y.1).outcome
  now_done tx k e o q r w = ((n, x), among_right (n, x) pre ((n, x) ∷ []) (inl refl), refl, subst (λ z. DoneAs tx k z x.outcome) (sym q) (subst (DoneAs tx k e) (sym r) w))

  one_deed : (e : Event) (o : Outcome) → x.event ≡ e → x.outcome ≡ o → (ds : List Deed) → AllByRecursion (WasDone (run_after before) (pre ++ (n, x) ∷ []) n) ds → AllByRecursion (WasDone (run_after before) (pre ++ (n, x) ∷ []) n) (with_one ds (new_deed s e o))
  one_deed (OpEvent tx b nth seen op) (Answered a ep) q r ds k =
      all_push (WasDone (run_after before) (pre ++ (n, x) ∷ []) n) ds _ k
      (inl (did_now tx b nth seen op a ep q r, now_done tx nth (OpEvent tx b nth seen op) (Answered a ep) q r (refl, refl)))
  one_deed (RollTo tx nth seen upto) Rolled q r ds k =
      all_push (WasDone (run_after before) (pre ++ (n, x) ∷ []) n) ds _ k
      (inl (any_more (run_after before) pre (n, x) n tx (backs tx nth seen upto q), now_done tx nth (RollTo tx nth seen upto) Rolled q r (refl, refl)))
  one_deed _ o q r ds k = k

  doomed_now : (u : TxId) → tx_in u (doomed_in t) ≡ true → DidOrOld (run_after before) (pre ++ (n, x) ∷ []) n u × FellOn before (pre ++ (n, x) ∷ []) after n u
  doomed_now u i =
      let e = named_doomed t u i in (
        part_did (run_after before) (pre ++ (n, x) ∷ []) n t u (stage_of t.local u) now rows_now refl (none_doomed (stage_of t.local u) e),
        (pre ++ (n, x) ∷ [], [], append-nil (pre ++ (n, x) ∷ []), inl (subst (λ w. is_doomed (stage_of w.local u) ≡ true) (sym is_t) e)),
      )

  left_now : x.event ≡ Restart → (u : TxId) → tx_in u (left_out s t) ≡ true → DidOrOld (run_after before) (pre ++ (n, x) ∷ []) n u × FellOn before (pre ++ (n, x) ∷ []) after n u
  left_now q u i =
      let f : is_left_out s t u ≡ true = (in_filter (is_left_out s t) u (map (λ p. p.0) s.local.parts) i).1 in
      let g = and_parts (is_present (stage_of s.local u)) (not (is_present (stage_of t.local u))) (and_parts (is_present (stage_of s.local u) && not (is_present (stage_of t.local u))) (not (committed_in t.local.log u)) f).0 in (
        old_more (run_after before) pre (n, x) n u (part_did (run_after before) pre n s u (stage_of s.local u) old rows refl (none_present (stage_of s.local u) g.0)),
        (pre, (n, x) ∷ [], refl, inr (x, [], refl, q, subst (λ w. is_left_out w (state_before before (pre ++ (n, x) ∷ []) after n) u ≡ true) (sym is_s) (subst (λ w. is_left_out s w u ≡ true) (sym is_t) f))),
      )

  fell_now : (e : Event) → x.event ≡ e → (u : TxId) → tx_in u (falling e s t) ≡ true → DidOrOld (run_after before) (pre ++ (n, x) ∷ []) n u × FellOn before (pre ++ (n, x) ∷ []) after n u
  fell_now Restart q u i = left_now q u i
  fell_now _ q u i = doomed_now u i

  pub remembers_own : Remembers before after (pre ++ (n, x) ∷ []) n (deeds_with d s t x)
  remembers_own =
      let k = remembers_more before after pre (n, x) n d m in
      record {
        done = one_deed x.event x.outcome refl refl d.done k.done;
        met = λ u p e. ⊎_elim
            (λ a. let o = one_met s x.event x.outcome u p a in inl (did_now u o.0 o.1 o.2 o.3 o.4 o.5 o.6 o.7))
            (λ a. k.met u p a)
            (or_cases (has_met (new_met s x.event x.outcome) u p) (has_met d.met u p) (sym (list_any-append (λ q. tx_same u q.0 && tx_same p q.1) (new_met s x.event x.outcome) d.met) ∙ e));
        fell = λ u i. ⊎_elim (λ j. fell_now x.event refl u j) (λ j. k.fell u j) (in_two (falling x.event s t) d.fell u i);
      }
