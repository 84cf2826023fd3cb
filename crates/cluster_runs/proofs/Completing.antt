-- How the transactions of a session that went through ended.
use Rattle.std.proofs.Common.{◌≡◌, refl, sym, ap, ◌∙◌, subst, inl, inr, ℕ, suc, ◌≤◌, true, false, List, [], ◌∷◌, ◌++◌, length, append_assoc, Option, Some, None, arith}
use Rattle.std.specs.List.{AllByRecursion}
use Rattle.std.proofs.lemmas.Bool.{both_ways, ltb-false}
use Rattle.clv_base.specs.declared.names.TxId.{TxId}
use Rattle.clv_base.specs.declared.names.Birth.{Birth}
use Rattle.clv_base.specs.declared.causes.AbortCause.{AbortCause}
use Rattle.clv_base.specs.declared.causes.AbortCause.TheVariants.{Asked, Died}
use Rattle.clv_base.specs.declared.logs.LogRecord.{LogRecord}
use Rattle.clv_base.specs.declared.events.Entry.{Entry}
use Rattle.clv_base.specs.Restarts.{run_after}
use Rattle.clv_base.specs.Journals.{History, own}
use Rattle.clv_base.specs.History.{Legal}
use Rattle.fate_laws.specs.Causes.{TellsCause, op_died, going_back_died, request_died, look_found}
use Rattle.history_cases.proofs.Merging.{Among, among_left, among_right}
use Rattle.settled_laws.proofs.Laws.{aborts_are_deaths}
use Rattle.cluster_runs.specs.Histories.{entries}
use Rattle.script_lang.specs.Bodies.{Body}
use Rattle.session_books.specs.Done.{Done}
use Rattle.script_runs.specs.Acts.{next_of, numbered}
use Rattle.script_runs.specs.declared.ends.StopCause.{StopCause}
use Rattle.script_runs.specs.declared.ends.TryEnd.{TryEnd}
use Rattle.script_runs.specs.declared.ends.TryEnd.TheVariants as end
use Rattle.script_runs.specs.Tries.{Try, IsTry, EndsBy}
use Rattle.script_runs.specs.Tries as tries
use Rattle.script_runs.specs.Sessions.{Transaction, IsTransaction, IsNamed, AreTransactions, FollowsScript, all_done, not_begun, stopped, done, is_to_retry, has_left, tries_of, entries_of, session_entries}
use Rattle.script_runs.specs.TriesLaws.{Completes, IsComplete}
use Rattle.script_runs.specs.TriesLaws as laws
use Rattle.script_runs.proofs.Laws.{sessions_go_through, tries_are_few, acknowledged_did_their_lines, entries_tell_their_lines, tries_more as tries_append}
use Rattle.cluster_runs.specs.PromisedSessions.{SessionWent}
use Rattle.cluster_runs.specs.Completing.{HasEnded, acknowledged, empty, by_line, given_up, IsWanted, TransactionEnded, SessionEnded, SessionsHaveEnded}
use Rattle.cluster_runs.proofs.Beginnings.{begins_settled}
use Rattle.cluster_runs.proofs.Entries.{from_session, from_own, split, acknowledged_by}
use Rattle.cluster_runs.proofs.Scripted.{whole_acts}

-- ---- the cause that a try's entries tell

record Tells (tx : TxId) (cause : AbortCause) (es : History) : Type 0 where
  entry : ℕ × Entry
  among : Among entry es
  tells : TellsCause (entry.1).event (entry.1).outcome tx cause

told_so : (e : ℕ × Entry) (tx : TxId) (cause : AbortCause) (event : _) (outcome : _) → (e.1).event ≡ event → (e.1).outcome ≡ outcome → TellsCause event outcome tx cause → TellsCause (e.1).event (e.1).outcome tx cause
told_so e tx cause event outcome is o t = subst (λ ev. TellsCause ev (e.1).outcome tx cause) (sym is) (subst (λ x. TellsCause event x tx cause) (sym o) t)

same_cause : (a b : AbortCause) → end.Aborted a ≡ end.Aborted b → a ≡ b
same_cause a b h = cc

aborts :
    (splits : List ℕ) (body : Body) (tx : TxId) (birth : Birth) (acts : List Done) (before : History) (e : TryEnd) (behind : History) (cause : AbortCause) → EndsBy splits body tx birth acts before e behind
    → e ≡ end.Aborted cause → Tells tx cause behind
aborts splits body tx birth acts before _ _ cause (tries.in_operation op c n here drops next died d) is =
    let same = same_cause c cause is in
    record {
      entry = died.last;
      among = subst (λ l. Among died.last (l ++ drops)) (sym died.entries) (among_left died.last (died.before ++ died.last ∷ []) drops (among_right died.last died.before (died.last ∷ []) (inl refl)));
      tells = subst (λ k. TellsCause ((died.last).1).event ((died.last).1).outcome tx k) same (told_so died.last tx c _ _ (died.died).event (died.died).outcome (op_died tx birth _ (died.died).seen _ c));
    }
aborts splits body tx birth acts before _ _ cause (tries.in_going_back upto c n here drops next died d) is =
    let same = same_cause c cause is in
    record {
      entry = died.last;
      among = subst (λ l. Among died.last (l ++ drops)) (sym died.entries) (among_left died.last (died.before ++ died.last ∷ []) drops (among_right died.last died.before (died.last ∷ []) (inl refl)));
      tells = subst (λ k. TellsCause ((died.last).1).event ((died.last).1).outcome tx k) same (told_so died.last tx c _ _ (died.died).event (died.died).outcome (going_back_died tx _ (died.died).seen upto c));
    }
aborts splits body tx birth acts before _ _ cause (tries.at_request home c asked drops all a d) is =
    let same = same_cause c cause is in
    record { entry = asked; among = inl refl; tells = subst (λ k. TellsCause (asked.1).event (asked.1).outcome tx k) same (told_so asked tx c _ _ a.event a.outcome (request_died tx a.touched c)) }
aborts splits body tx birth acts before _ _ cause (tries.at_look home c asked told drops all a l d) is =
    let same = same_cause c cause is in
    record { entry = told; among = inr (inl refl); tells = subst (λ k. TellsCause (told.1).event (told.1).outcome tx k) same (told_so told tx c _ _ l.event l.outcome (look_found tx c)) }
aborts splits body tx birth acts before _ _ cause (tries.acknowledged home asked told all a l) is = absurd cc
aborts splits body tx birth acts before _ _ cause (tries.nothing all none) is = absurd cc
aborts splits body tx birth acts before _ _ cause (tries.by_line drops all d) is = absurd cc
aborts splits body tx birth acts before _ _ cause (tries.down n here drops u d) is = absurd cc
aborts splits body tx birth acts before _ _ cause (tries.unsettled n home asked all a) is = absurd cc
aborts splits body tx birth acts before _ _ cause (tries.wanting_before c here w u) is = absurd cc
aborts splits body tx birth acts before _ _ cause (tries.wanting_behind c home asked w all a) is = absurd cc
aborts splits body tx birth acts before _ _ cause tries.wanting_between is = absurd cc
aborts splits body tx birth acts before _ _ cause (tries.unanswered op parts here next are) is = absurd cc
aborts splits body tx birth acts before _ _ cause (tries.worn_at_line at drops all d) is = absurd cc

-- ---- each line was done

lines_done :
    (splits : List ℕ) (body : Body) (tx : TxId) (birth : Birth) (acts : List Done) (before : History) (e : TryEnd) (behind : History) → EndsBy splits body tx birth acts before e behind → e ≡ end.Asked
    → next_of body.actions acts ≡ None
lines_done splits body tx birth acts before _ _ (tries.by_line drops all d) is = all.all
lines_done splits body tx birth acts before _ _ (tries.in_operation op c n here drops next died d) is = absurd cc
lines_done splits body tx birth acts before _ _ (tries.in_going_back upto c n here drops next died d) is = absurd cc
lines_done splits body tx birth acts before _ _ (tries.at_request home c asked drops all a d) is = absurd cc
lines_done splits body tx birth acts before _ _ (tries.at_look home c asked told drops all a l d) is = absurd cc
lines_done splits body tx birth acts before _ _ (tries.acknowledged home asked told all a l) is = absurd cc
lines_done splits body tx birth acts before _ _ (tries.nothing all none) is = absurd cc
lines_done splits body tx birth acts before _ _ (tries.down n here drops u d) is = absurd cc
lines_done splits body tx birth acts before _ _ (tries.unsettled n home asked all a) is = absurd cc
lines_done splits body tx birth acts before _ _ (tries.wanting_before c here w u) is = absurd cc
lines_done splits body tx birth acts before _ _ (tries.wanting_behind c home asked w all a) is = absurd cc
lines_done splits body tx birth acts before _ _ tries.wanting_between is = absurd cc
lines_done splits body tx birth acts before _ _ (tries.unanswered op parts here next are) is = absurd cc
lines_done splits body tx birth acts before _ _ (tries.worn_at_line at drops all d) is = absurd cc

has_none :
    (splits : List ℕ) (body : Body) (tx : TxId) (birth : Birth) (acts : List Done) (before : History) (e : TryEnd) (behind : History) → EndsBy splits body tx birth acts before e behind → e ≡ end.Empty
    → next_of body.actions [] ≡ None
has_none splits body tx birth acts before _ _ (tries.nothing all none) is = subst (λ l. next_of body.actions l ≡ None) none all.all
has_none splits body tx birth acts before _ _ (tries.by_line drops all d) is = absurd cc
has_none splits body tx birth acts before _ _ (tries.in_operation op c n here drops next died d) is = absurd cc
has_none splits body tx birth acts before _ _ (tries.in_going_back upto c n here drops next died d) is = absurd cc
has_none splits body tx birth acts before _ _ (tries.at_request home c asked drops all a d) is = absurd cc
has_none splits body tx birth acts before _ _ (tries.at_look home c asked told drops all a l d) is = absurd cc
has_none splits body tx birth acts before _ _ (tries.acknowledged home asked told all a l) is = absurd cc
has_none splits body tx birth acts before _ _ (tries.down n here drops u d) is = absurd cc
has_none splits body tx birth acts before _ _ (tries.unsettled n home asked all a) is = absurd cc
has_none splits body tx birth acts before _ _ (tries.wanting_before c here w u) is = absurd cc
has_none splits body tx birth acts before _ _ (tries.wanting_behind c home asked w all a) is = absurd cc
has_none splits body tx birth acts before _ _ tries.wanting_between is = absurd cc
has_none splits body tx birth acts before _ _ (tries.unanswered op parts here next are) is = absurd cc
has_none splits body tx birth acts before _ _ (tries.worn_at_line at drops all d) is = absurd cc

-- ---- a try among all

stands_at : (front behind : List Transaction) (tr : Transaction) (before : List Try) (t : Try) → tr.tries ≡ before ++ t ∷ [] → tries_of (front ++ tr ∷ behind) ≡ (tries_of front ++ before) ++ t ∷ tries_of behind
stands_at front behind tr before t is =
    tries_append front (tr ∷ behind)
    ∙ ap (λ ts. tries_of front ++ (ts ++ tries_of behind)) is
    ∙ ap (λ ts. tries_of front ++ ts) (append_assoc before (t ∷ []) (tries_of behind))
    ∙ sym (append_assoc (tries_of front) before (t ∷ tries_of behind))

among_tries : (x : ℕ × Entry) (front behind : List Try) (t : Try) → Among x t.entries → Among x (entries_of (front ++ t ∷ behind))
among_tries x [] behind t m = among_left x t.entries (entries_of behind) m
among_tries x (u ∷ front) behind t m = among_right x u.entries (entries_of (front ++ t ∷ behind)) (among_tries x front behind t m)

last_has : {A : Type 0} (P : A → Type 0) (front : List A) (x : A) → AllByRecursion P (front ++ x ∷ []) → P x
last_has P [] x all = all.0
last_has P (y ∷ front) x all = last_has P front x all.1

-- ---- how many tries

no_more : (most : Option ℕ) (count : ℕ) → has_left most count ≡ false → ((m : ℕ) → most ≡ Some m → count ≤ m) → most ≡ Some count
no_more None count none few = absurd (both_ways true none refl)
no_more (Some m) count none few =
    let low = few m refl in
    let high = ltb-false count m none in
    ap (λ n. Some n) (let same : m ≡ count = omega arith in same)

-- a try that is followed by another where one is left was aborted
was_aborted : (e : TryEnd) → is_to_retry e ≡ true → (cause : AbortCause) × (e ≡ end.Aborted cause)
was_aborted end.Acknowledged h = absurd (both_ways false refl h)
was_aborted end.Empty h = absurd (both_ways false refl h)
was_aborted end.Asked h = absurd (both_ways false refl h)
was_aborted (end.Stopped c) h = absurd (both_ways false refl h)
was_aborted (end.Aborted c) h = (c, refl)

-- ---- a session of a legal history in which each abort is a death

abbrev AreDeaths : History → Type 0
AreDeaths h = (e : ℕ × Entry) (tx : TxId) (cause : AbortCause) → Among e h → TellsCause (e.1).event (e.1).outcome tx cause → (older : TxId) × (cause ≡ Died older)

wanted : (most : Option ℕ) (m : ℕ) → IsWanted most → most ≡ Some m → 1 ≤ m
wanted None m h is = absurd cc
wanted (Some n) m h is = subst (λ k. 1 ≤ k) (let e : n ≡ m = cc in e) h

module _
    (splits : List ℕ) (before after : List (List LogRecord)) (h : History) (legal : Legal splits before h after) (deaths : AreDeaths h) (w : ℕ) (most : Option ℕ) (some : IsWanted most) (bodies : List Body)
    (f : FollowsScript splits (run_after before) w most bodies None (session_entries (own w h))) where
  in_history : (x : ℕ × Entry) (front behind : List Try) (t : Try) → tries_of f.transactions ≡ front ++ t ∷ behind → Among x t.entries → Among x h
  in_history x front behind t is m =
      from_own w x h (from_session x (own w h) (subst (Among x) (sym (f.entries_are ∙ ap entries_of is)) (among_tries x front behind t m)))

  died : (tr : Transaction) (front behind : List Try) (t : Try) → tries_of f.transactions ≡ front ++ t ∷ behind → IsTry splits tr.body tr.birth t → (cause : AbortCause) → t.end ≡ end.Aborted cause → (older : TxId) × (cause ≡ Died older)
  died tr front behind t at tried cause same =
      let a = aborts splits tr.body t.tx tr.birth t.acts tried.before t.end tried.behind cause tried.ends same in
      deaths a.entry t.tx cause (in_history a.entry front behind t at (subst (Among a.entry) (sym tried.entries_are) (among_right a.entry tried.before tried.behind a.among))) a.tells

  asked_not : (older : TxId) → Asked ≡ Died older → ⊥
  asked_not older is = absurd cc

  last_ended :
      (tr : Transaction) (front behind : List Try) (t : Try) → tries_of f.transactions ≡ front ++ t ∷ behind → IsTransaction splits (run_after before) w most tr None → IsTry splits tr.body tr.birth t
      → IsNamed (run_after before) w t → (e : TryEnd) → Completes most tr.body (length tr.tries) e → t.end ≡ e → HasEnded splits h most tr.body (length tr.tries) t
  last_ended tr front behind t at is tried named _ (laws.acknowledged ending) same =
      let d = acknowledged_did_their_lines splits tr.body tr.birth t tried same in
      let among : Among d.told t.entries = subst (Among d.told) (sym d.entries_are) (among_right d.told d.before (d.asked ∷ d.told ∷ []) (inr (inl refl))) in
      acknowledged ending same
      (record {
        told = acknowledged_by t.tx d.told h (in_history d.told front behind t at among) (d.told_is).event (d.told_is).outcome;
        acts = ap numbered (whole_acts splits before after h legal w most bodies f front behind t at named) ∙ entries_tell_their_lines splits tr.body tr.birth t tried same;
      })
  last_ended tr front behind t at is tried named _ (laws.empty ending) same = empty ending same (has_none splits tr.body t.tx tr.birth t.acts tried.before t.end tried.behind tried.ends same)
  last_ended tr front behind t at is tried named _ (laws.by_line ending) same = by_line ending same (lines_done splits tr.body t.tx tr.birth t.acts tried.before t.end tried.behind tried.ends same)
  last_ended tr front behind t at is tried named _ laws.was_asked same = absurd (let d = died tr front behind t at tried Asked same in asked_not d.0 d.1)
  last_ended tr front behind t at is tried named _ (laws.no_try_left e retry none) same =
      let c = was_aborted e retry in
      let d = died tr front behind t at tried c.0 (same ∙ c.1) in
      given_up d.0 (same ∙ c.1 ∙ ap (λ x. end.Aborted x) d.1)
      (no_more most (length tr.tries) none (λ m is_m. tries_are_few splits (run_after before) w m tr None (subst (λ k. IsTransaction splits (run_after before) w k tr None) is_m is) (wanted most m some is_m)))

  transaction_ended :
      (tr : Transaction) (front behind : List Transaction) → f.transactions ≡ front ++ tr ∷ behind → IsTransaction splits (run_after before) w most tr None → IsComplete most tr → TransactionEnded splits h most tr
  transaction_ended tr front behind at is c =
      record {
        front = c.front;
        last = c.last;
        tries_are = c.tries_are;
        ended =
            last_ended tr (tries_of front ++ c.front) (tries_of behind) c.last (ap tries_of at ∙ stands_at front behind tr c.front c.last c.tries_are) is
            (last_has (IsTry splits tr.body tr.birth) c.front c.last (subst (AllByRecursion (IsTry splits tr.body tr.birth)) c.tries_are is.each))
            (last_has (IsNamed (run_after before) w) c.front c.last (subst (AllByRecursion (IsNamed (run_after before) w)) c.tries_are is.named)) (c.last).end c.completes refl;
      }

  all_ended :
      (bodies : List Body) (trs : List Transaction) (cause : Option StopCause) → AreTransactions splits (run_after before) w most bodies trs cause → cause ≡ None → (front : List Transaction) → f.transactions ≡ front ++ trs
      → AllByRecursion (IsComplete most) trs → AllByRecursion (TransactionEnded splits h most) trs
  all_ended _ _ _ all_done none front at c = tt
  all_ended _ _ _ (not_begun body bodies stamp) none front at c = absurd cc
  all_ended _ _ _ (stopped tr bodies cause is) none front at c = absurd cc
  all_ended _ _ _ (done tr bodies trs cause is more) none front at c =
      (transaction_ended tr front trs at is c.0, all_ended bodies trs cause more none (front ++ tr ∷ []) (at ∙ sym (append_assoc front (tr ∷ []) trs)) c.1)

  pub session_ended : SessionEnded splits h w most bodies
  session_ended =
      let g = sessions_go_through splits (run_after before) w most bodies (session_entries (own w h)) f in
      record { transactions = f.transactions; bodies_are = g.0; each = all_ended bodies f.transactions None f.in_order refl [] refl g.1; entries_are = f.entries_are }

-- ---- a run

pub sessions_have_ended : SessionsHaveEnded
sessions_have_ended splits before now counts counts_now most script went kept k bodies some opens p at through drained =
    let keeps = p.keeps in
    let legal = (keeps.legal).legal in
    session_ended splits kept.found keeps.left (entries kept) legal
    (λ e tx cause m tells. let s = split e (entries kept) m in
    aborts_are_deaths splits kept.found (entries kept) keeps.left s.so_far s.rest e tx cause (record { opens = opens; legal = legal }) (λ n low. begins_settled n kept (p.on n low) (drained n low)) s.whole tells)
    (suc k) most some bodies
    (subst (λ x. SessionWent splits (run_after kept.found) (suc k) most bodies x (own (suc k) (entries kept))) through ((p.sessions).each k bodies at)).follows
