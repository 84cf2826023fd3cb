-- Along a legal history each shard's entries are steps of the laws of one shard.
pub mod CommitsSpareTheFallen
pub mod RecordsTellTheirOrigin
pub mod DoubtedAreEarlier
pub mod RestoredStayPrepared
pub mod SessionsMayAsk
pub mod MessagesMayCome
pub mod WhatCommitsFind
pub mod WhoAsksHere
pub mod DeedsWereAnswered
pub mod NumbersRise
use Rattle.std.proofs.Common.{◌≡◌, inr, refl, sym, ap, subst, ◌∙◌, ℕ, ◌<◌, true, false, Bool, List, [], ◌∷◌, ◌++◌, map, Option, Some, None, ◌==◌, eqb-true, append-nil, append_assoc, length}
use Rattle.std.specs.List.{AllByRecursion}
use Rattle.std.proofs.lemmas.Bool.{both_ways, false_from_ne_true, or_right}
use Rattle.std.proofs.lemmas.List.Folds.{list_any-append}
use Rattle.clv_base.specs.declared.names.TxId.{TxId}
use Rattle.clv_base.specs.declared.logs.LogRecord.{LogRecord}
use Rattle.clv_base.specs.declared.messages.Message.{Message}
use Rattle.clv_base.specs.declared.messages.Message.TheVariants.{Prepare, Vote as VoteMessage, Decide, Done, Ask}
use Rattle.clv_base.specs.declared.events.Event.{Event}
use Rattle.clv_base.specs.declared.events.Event.TheVariants.{Op as OpEvent, RollTo, Request as RequestEvent, Drop, Deliver, Restart}
use Rattle.clv_base.specs.declared.events.Outcome.{Outcome}
use Rattle.clv_base.specs.declared.events.Entry.{Entry}
use Rattle.clv_base.specs.Orders.{tx_same, tx_in}
use Rattle.clv_base.specs.Shards.{shard_count}
use Rattle.clv_base.specs.LogRules.{log_of}
use Rattle.clv_base.specs.FileRules.{may_open}
use Rattle.clv_base.specs.State.{Shard}
use Rattle.clv_base.specs.Events.{Does, happen, with_entry}
use Rattle.clv_base.specs.Restarts.{run_after}
use Rattle.clv_base.specs.Journals.{History, start_of, event_state, after_entry}
use Rattle.clv_base.specs.History.{Legal, request_of, state_before}
use Rattle.law_base.specs.Items.{Did}
use Rattle.law_base.proofs.Lists.{all_mono}
use Rattle.protocol_laws.specs.SessionLaws.{tx_of}
use Rattle.history_laws.specs.Openings.{LegalFrom}
use Rattle.shard_laws.specs.OneShard.{Deeds, deeds_found, Leads, opens, happens, lands, revives, MayServe, MayHappen, MayDeliver, with_one, new_deed, new_told, new_met, doomed_in, found_items, found_asked}
use Rattle.history_cases.proofs.Entering.{Makes, by_event, by_flush, by_failure, by_restart, makes}
use Rattle.history_cases.proofs.Merging.{Placed}
use Rattle.history_cases.proofs.OldRuns.{below_next_run}
use Rattle.history_laws.proofs.NeverTakenBack.{is_request, walker_of}
use Rattle.history_laws.proofs.Entries.WalkedEntryByEntry.{Behind, next_entry}
use Rattle.history_laws.proofs.Logs.FoundLogsInOrder.{found_in_order, log_found}
use Rattle.fate_laws.proofs.History.EntriesInTurn.{Requested, request_no_request}
use Rattle.fate_laws.proofs.Origins.FrontsKeepOrigins.{IsOld, Traced, Brings, brought, traced_front}
use Rattle.fate_laws.specs.Leading.{deeds_with, own_deeds, with_found, falling, requests_of, EachShardLeads}
use Rattle.fate_laws.proofs.History.DeedsOfOneEntry.{deeds_own, deeds_other, state_other, requests_push}
use Rattle.fate_laws.proofs.EachShardLeads.RestoredStayPrepared.{RestoredArePrepared, restored_prepared}
use Rattle.fate_laws.proofs.EachShardLeads.DoubtedAreEarlier.{deeds_are_old, asked_are_old, met_are_old, one_after, found_with}
use Rattle.fate_laws.proofs.EachShardLeads.SessionsMayAsk.{Here, WasDone, Remembers, AskedFrom, asked_from, not_asked, may_ask, may_touch, back_did, may_go_back}
use Rattle.fate_laws.proofs.EachShardLeads.MessagesMayCome.{when_up, comes_to, decide_taken, may_prepare}
use Rattle.fate_laws.proofs.EachShardLeads.WhatCommitsFind.{AllFound, DropsSpared, all_found, drops_spared}
use Rattle.fate_laws.proofs.EachShardLeads.WhoAsksHere.{with_others, asked_own}
use Rattle.fate_laws.proofs.EachShardLeads.DeedsWereAnswered.{remembers_more, remembers_own}

-- ---- the entry of a shard, by its case

abbrev LeadsAs : ℕ → ℕ → List LogRecord → List TxId → Deeds → Shard → Type 0
LeadsAs n run log0 asked d s = Leads n run log0 (record d { asked = asked }) s

falls_up : (s t u : Shard) (e : Event) (o : Outcome) → happen s e ≡ Does o t → falling e s u ≡ doomed_in u
falls_up s t u Restart o f = when_up s Restart o t (λ k. absurd cc) f
falls_up s t u _ o f = refl

abbrev entry : ℕ → ℕ → Event → Outcome → Entry
entry stamp walker e o = record { stamp = stamp; walker = walker; event = e; outcome = o }

made : (n run : ℕ) (log0 log : List LogRecord) (asked : List TxId) (d : Deeds) (s t : Shard) (stamp walker : ℕ) {e : Event} {o : Outcome} → Makes log s e o t → LeadsAs n run log0 asked d s
    → ((u : Shard) → happen s e ≡ Does o u → MayHappen (record d { asked = asked }) s e) → ((u : TxId) → request_of e o ≡ Some u → tx_in u asked ≡ false)
    → LeadsAs n run log0 (with_one asked (request_of e o)) (deeds_with d s (with_entry stamp walker e o t) (entry stamp walker e o)) (with_entry stamp walker e o t)
made n run log0 log asked d s t stamp walker (by_event {e} {o} f g) l may new =
    let now : List TxId → Deeds = λ w. record { done = with_one d.done (new_deed s e o); asked = asked; told = with_one d.told (new_told e o); met = new_met s e o ++ d.met; fell = w ++ d.fell } in
    subst (λ w. LeadsAs n run log0 (with_one asked (request_of e o)) (now w) (with_entry stamp walker e o t)) (sym (falls_up s t (with_entry stamp walker e o t) e o f))
    (asked_own n run log0 (now (doomed_in t)) s t (with_entry stamp walker e o t) e o f new (happens e o t stamp walker l (may t f) f))
made n run log0 log asked d s _ stamp walker (by_flush m u f) l may new = lands m true _ _ stamp walker l f refl
made n run log0 log asked d s _ stamp walker (by_failure m u f) l may new = lands m false _ _ stamp walker l f refl
made n run log0 log asked d s _ stamp walker (by_restart epoch kept u r) l may new = revives kept epoch _ stamp walker l u r

-- ---- what the entry owes

module _ (splits : List ℕ) (before after : List (List LogRecord)) (h pre : History) (n : ℕ) (x : Entry) (post : History) (finds : AllFound before h after) (spares : DropsSpared before h after) (q : pre ++ (n, x) ∷ post ≡ h)
    (here : Here splits before after h pre n x (state_before before pre after n)) (d : Deeds) (found : List TxId) (from : AskedFrom (run_after before) pre (found ++ requests_of pre)) (m : Remembers before after pre n d) (leads : LeadsAs n (run_after before) (log_of before n) (found ++ requests_of pre) d (state_before before pre after n)) where
  may_come : (w : Message) (stamp : ℕ) (u : Shard) → x.event ≡ Deliver w stamp → Brings (Requested pre) (IsOld (run_after before)) (Deliver w stamp) → happen (state_before before pre after n) (Deliver w stamp) ≡ Does x.outcome u
      → MayDeliver (record d { asked = found ++ requests_of pre }) (state_before before pre after n) w
  may_come (Prepare to t home seen) stamp u e b f =
      may_prepare splits before after h pre n x (state_before before pre after n) (record d { asked = found ++ requests_of pre }) (log_of before n) to t home seen here leads (λ i. list_any-append (λ u. tx_same u t) found (requests_of pre) ∙ or_right (tx_in t found) (tx_in t (requests_of pre)) i) (comes_to (state_before before pre after n) (Prepare to t home seen) stamp x.outcome u f) b.0 b.1
  may_come (Decide to t home true) stamp u e b f =
      λ c.
      let k = finds pre n x post t to home stamp q e (decide_taken (state_before before pre after n) to t home stamp x.outcome u f) c in (k.due, k.stands, k.decided, false_from_ne_true _ (λ i. k.unfallen (m.fell t i).1))
  may_come (Decide to t home false) stamp u e b f = tt
  may_come (VoteMessage to t from vote) stamp u e b f = tt
  may_come (Done to t from) stamp u e b f = tt
  may_come (Ask to t from) stamp u e b f = tt

  may : (e : Event) (u : Shard) → x.event ≡ e → Brings (Requested pre) (IsOld (run_after before)) e → happen (state_before before pre after n) e ≡ Does x.outcome u → MayHappen (record d { asked = found ++ requests_of pre }) (state_before before pre after n) e
  may (OpEvent t birth nth seen op) u e b f =
      may_touch splits before after h pre n x (state_before before pre after n) t birth nth seen op here e d (found ++ requests_of pre) from m (restored_prepared n (run_after before) (log_of before n) (record d { asked = found ++ requests_of pre }) (state_before before pre after n) leads)
  may (RollTo t nth seen upto) u e b f = may_go_back splits before after h pre n x (state_before before pre after n) t nth seen upto here e d (found ++ requests_of pre) m
  may (RequestEvent t ts) u e b f = may_ask splits before after h pre n x (state_before before pre after n) (record d { asked = found ++ requests_of pre }) t ts here from e
  may (Drop t) u e b f = λ c. spares pre n x post t q e
  may (Deliver w stamp) u e b f = may_come w stamp u e b f
  may _ u e b f = tt

-- ---- one entry more

-- with what was found in doubt
pub record At (before after : List (List LogRecord)) (pre : History) (n : ℕ) : Type 0 where
  pub leads : LeadsAs n (run_after before) (log_of before n) (found_asked n (log_of before n) ++ requests_of pre) (with_found n (log_of before n) (own_deeds before pre after n)) (state_before before pre after n)
  pub remembers : Remembers before after pre n (with_found n (log_of before n) (own_deeds before pre after n))

-- a request is its transaction's first
new_request : (splits : List ℕ) (before after : List (List LogRecord)) (h pre : History) (y : Placed) (asked : List TxId) → Legal splits before h after → Behind h pre y → AskedFrom (run_after before) pre asked → (u : TxId) → request_of (y.1).event (y.1).outcome ≡ Some u → tx_in u asked ≡ false
new_request splits before after h pre y asked l b from u e =
    let r = is_request u (y.1).event (y.1).outcome e in
    not_asked (run_after before) pre asked u from (walker_of splits before after h y u l b.here (ap tx_of r.1)).0 (λ m k. request_no_request splits before after h pre y u r.0 m l b r.1 k)

asked_more : (found : List TxId) (pre : History) (y : Placed) → with_one (found ++ requests_of pre) (request_of (y.1).event (y.1).outcome) ≡ found ++ requests_of (pre ++ y ∷ [])
asked_more found pre y = one_after found (requests_of pre) (request_of (y.1).event (y.1).outcome) ∙ ap (λ l. found ++ l) (at (request_of (y.1).event (y.1).outcome) ∙ sym (requests_push pre y))
  where
    at : (o : Option TxId) → with_one (requests_of pre) o ≡ requests_of pre ++ elim o [ Some t ↦ t ∷ [] | None ↦ [] ]
    at None = sym (append-nil (requests_of pre))
    at (Some t) = refl

module _ {splits : List ℕ} {before after : List (List LogRecord)} {h : History} (legal : LegalFrom splits before h after) (pre : History)
    (y : Placed) (post : History) (n : ℕ) (finds : AllFound before h after) (spares : DropsSpared before h after) (q : pre ++ y ∷ post ≡ h)
    (inside : n < shard_count splits) (a : At before after pre n) where
  abbrev found : List TxId
  found = found_asked n (log_of before n)

  from : AskedFrom (run_after before) pre (found_asked n (log_of before n) ++ requests_of pre)
  from = asked_from (run_after before) pre (found_asked n (log_of before n)) (asked_are_old splits before n legal.opens (log_found legal n inside))

  own_step : y.0 ≡ n → At before after (pre ++ (n, y.1) ∷ []) n
  own_step z =
      let q2 : pre ++ (n, y.1) ∷ post ≡ h = subst (λ k. pre ++ (k, y.1) ∷ post ≡ h) z q in
      let x = y.1 in
      let s = state_before before pre after n in
      let log = log_of after n in
      let log0 = log_of before n in
      let d = with_found n log0 (own_deeds before pre after n) in
      let run = run_after before in
      let w = traced_front legal pre ((n, x) ∷ post) q2 in
      let w2 = traced_front legal (pre ++ (n, x) ∷ []) post (append_assoc pre ((n, x) ∷ []) post ∙ q2) in
      let p = next_entry splits before after h pre (n, x) post legal.legal q2 in
      let here : Here splits before after h pre n x s = record { legal = legal.legal; behind = p.behind; traced = w.states n inside } in
      let b = brought splits before after h pre (n, x) p.behind w x.event p.sent in
      let l0 =
      made n run log0 log (found ++ requests_of pre) d s (event_state log s x.event x.outcome) x.stamp x.walker (makes log s x.event x.outcome ((p.split).enters).event) a.leads
      (λ u f. may splits before after h pre n x post finds spares q2 here d found from a.remembers a.leads x.event u refl b f) (new_request splits before after h pre (n, x) (found ++ requests_of pre) legal.legal p.behind from) in
      let t = after_entry log s x in
      let l : LeadsAs n run log0 (found ++ requests_of (pre ++ (n, x) ∷ [])) (deeds_with d s t x) t = subst (λ asked. LeadsAs n run log0 asked (deeds_with d s t x) t) (asked_more found pre (n, x)) l0 in
      let r = restored_prepared n run log0 (record d { asked = found ++ requests_of pre }) s a.leads in
      let r2 = restored_prepared n run log0 (record (deeds_with d s t x) { asked = found ++ requests_of (pre ++ (n, x) ∷ []) }) t l in
      let m = remembers_own before after pre n x s t here.traced (subst (Traced run (pre ++ (n, x) ∷ []) n) (p.split).next (w2.states n inside)) r r2 refl (p.split).next d a.remembers (λ u i seen upto v. (seen, back_did splits before after h pre n x s u i seen upto here v)) in
      let e = found_with n log0 (own_deeds before pre after n) s t x ∙ ap (with_found n log0) (sym (deeds_own before after n x pre)) in
      record {
        leads = subst (λ c. LeadsAs n run log0 (found ++ requests_of (pre ++ (n, x) ∷ [])) c (state_before before (pre ++ (n, x) ∷ []) after n)) e
            (subst (λ c. LeadsAs n run log0 (found ++ requests_of (pre ++ (n, x) ∷ [])) (deeds_with d s t x) c) (sym (p.split).next) l);
        remembers = subst (Remembers before after (pre ++ (n, x) ∷ []) n) e m;
      }

  other_step : (y.0 == n) ≡ false → At before after (pre ++ y ∷ []) n
  other_step b =
      let s = state_before before pre after n in
      let log0 = log_of before n in
      let d = with_found n log0 (own_deeds before pre after n) in
      let run = run_after before in
      let p = next_entry splits before after h pre y post legal.legal q in
      let e : d ≡ with_found n log0 (own_deeds before (pre ++ y ∷ []) after n) = ap (with_found n log0) (sym (deeds_other before after n y pre b)) in
      let f : state_before before (pre ++ y ∷ []) after n ≡ s = state_other before after n y pre b in
      let l0 = with_others n run log0 (record d { asked = found ++ requests_of pre }) s (request_of (y.1).event (y.1).outcome) (new_request splits before after h pre y (found ++ requests_of pre) legal.legal p.behind from) a.leads in
      let l : LeadsAs n run log0 (found ++ requests_of (pre ++ y ∷ [])) d s = subst (λ asked. LeadsAs n run log0 asked d s) (asked_more found pre y) l0 in
      record {
        leads = subst (λ c. LeadsAs n run log0 (found ++ requests_of (pre ++ y ∷ [])) c (state_before before (pre ++ y ∷ []) after n)) e
            (subst (λ c. LeadsAs n run log0 (found ++ requests_of (pre ++ y ∷ [])) d c) (sym f) l);
        remembers = subst (Remembers before after (pre ++ y ∷ []) n) e (remembers_more before after pre y n d a.remembers);
      }

  step : At before after (pre ++ y ∷ []) n
  step = at (y.0 == n) refl
    where
      at : (b : Bool) → (y.0 == n) ≡ b → At before after (pre ++ y ∷ []) n
      at true b = let z = eqb-true y.0 n b in subst (λ k. At before after (pre ++ (k, y.1) ∷ []) n) (sym z) (own_step z)
      at false b = other_step b

-- ---- the whole front

walk : {splits : List ℕ} {before after : List (List LogRecord)} {h : History} → LegalFrom splits before h after → (pre so_far rest : History) (n : ℕ) → AllFound before h after
    → DropsSpared before h after → pre ++ (so_far ++ rest) ≡ h → n < shard_count splits → At before after pre n → At before after (pre ++ so_far) n
walk {before} {after} l pre [] rest n k g q i a = subst (λ z. At before after z n) (sym (append-nil pre)) a
walk {before} {after} l pre (y ∷ ys) rest n k g q i a =
    subst (λ z. At before after z n) (append_assoc pre (y ∷ []) ys)
    (walk l (pre ++ y ∷ []) ys rest n k g (append_assoc pre (y ∷ []) (ys ++ rest) ∙ q) i (step l pre y (ys ++ rest) n k g q i a))

pub may_serve : (splits : List ℕ) (before : List (List LogRecord)) (n : ℕ) → may_open splits before ≡ true → n < length before → MayServe n (run_after before) (log_of before n)
may_serve splits before n m l = (found_in_order splits before n m l, below_next_run before n)

begins : (splits : List ℕ) (before after : List (List LogRecord)) (n : ℕ) → may_open splits before ≡ true → n < length before → At before after [] n
begins splits before after n m l =
    let log = log_of before n in
    let run = run_after before in
    record {
      leads = subst (λ all. Leads n run log (record (deeds_found n log) { done = all; asked = found_asked n log ++ [] }) (start_of before n)) (sym (append-nil (map (λ x. Did x) (found_items n log))))
          (subst (λ asked. Leads n run log (record (deeds_found n log) { asked = asked }) (start_of before n)) (sym (append-nil (found_asked n log))) (opens (may_serve splits before n m l)));
      remembers = record {
        done = subst (AllByRecursion (WasDone run [] n)) (sym (append-nil (map (λ x. Did x) (found_items n log)))) (all_mono _ _ (λ d o. inr o) (map (λ x. Did x) (found_items n log)) (deeds_are_old splits before n m l));
        met = λ t p e. inr (met_are_old splits before n m l t p e);
        fell = λ t i. absurd (both_ways false refl i);
      };
    }

pub at_front : {splits : List ℕ} {before after : List (List LogRecord)} {h : History} → LegalFrom splits before h after → (so_far rest : History) (n : ℕ) → so_far ++ rest ≡ h → n < shard_count splits → At before after so_far n
at_front {splits} {before} {after} l so_far rest n q i =
    walk l [] so_far rest n (all_found l) (drops_spared l) q i (begins splits before after n l.opens (log_found l n i))

pub each_shard_leads : EachShardLeads
each_shard_leads splits before h after so_far rest n l q i = (at_front l so_far rest n q i).leads

-- a part that a restart brought back is prepared
pub restored_front : {splits : List ℕ} {before after : List (List LogRecord)} {h : History} → LegalFrom splits before h after
    → (so_far rest : History) (n : ℕ) → so_far ++ rest ≡ h → n < shard_count splits → RestoredArePrepared (state_before before so_far after n).local
restored_front {splits} {before} {after} {h} l so_far rest n q i =
    let log = log_of before n in
    let d = with_found n log (own_deeds before so_far after n) in
    restored_prepared n (run_after before) log (record d { asked = found_asked n log ++ requests_of so_far }) (state_before before so_far after n) (each_shard_leads splits before h after so_far rest n l q i)
