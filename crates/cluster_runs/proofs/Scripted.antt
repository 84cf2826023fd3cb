-- The members of a run whose sessions went through are transactions of its script.
use Rattle.std.proofs.Common.{◌≡◌, refl, sym, ap, subst, ◌∙◌, ◌⊎◌, inl, inr, ⊎_elim, ℕ, zero, suc, ◌<◌, ◌≤◌, Bool, true, false, cond, ◌||◌, List, [], ◌∷◌, ◌++◌, append_assoc, length, Option, Some, None, slice_get, get_or, arith}
use Rattle.std.specs.List.{AllByRecursion, list_any}
use Rattle.std.proofs.lemmas.Bool.{both_ways, or_cases}
use Rattle.std.proofs.lemmas.List.Folds.{list_any-append}
use Rattle.std.proofs.lemmas.Option.{slice_get_cases}
use Rattle.clv_base.specs.declared.names.TxId.{TxId}
use Rattle.clv_base.specs.declared.names.Birth.{Birth}
use Rattle.clv_base.specs.declared.logs.LogRecord.{LogRecord}
use Rattle.clv_base.specs.declared.events.Event.{Event}
use Rattle.clv_base.specs.declared.events.Event.TheVariants.{Op as OpEvent, RollTo, Request, Look, Drop, Send, Deliver, Remind, FlushOut, FlushIn, Stop, Restart}
use Rattle.clv_base.specs.declared.events.Outcome.{Outcome}
use Rattle.clv_base.specs.declared.events.Entry.{Entry}
use Rattle.clv_base.specs.Logs.{committed_in}
use Rattle.clv_base.specs.LogRules.{log_of}
use Rattle.clv_base.specs.Restarts.{run_after}
use Rattle.clv_base.specs.Sessions.{is_of_session}
use Rattle.clv_base.specs.Journals.{History, own}
use Rattle.clv_base.specs.History.{Legal, Member, members, logs_left, acknowledged_in, is_acknowledgement, acts_in, request_of}
use Rattle.history_cases.proofs.Merging.{Among, in_own}
use Rattle.history_laws.proofs.Laws.{walker_of}
use Rattle.script_lang.specs.Bodies.{Body}
use Rattle.script_lang.specs.Following.{all_acts}
use Rattle.session_books.specs.Done.{Done}
use Rattle.script_runs.specs.Acts.{acts_of, answers_in}
use Rattle.script_runs.specs.declared.ends.StopCause.{StopCause}
use Rattle.script_runs.specs.Tries.{Try, IsTry}
use Rattle.script_runs.specs.Sessions.{Transaction, IsNamed, AreTransactions, FollowsScript, all_done, not_begun, stopped, done, tries_of, entries_of, session_entries}
use Rattle.script_runs.specs.TriesTell.{ArePartsOf}
use Rattle.script_runs.proofs.Laws.{acknowledged_did_their_lines, acknowledged_end_so, entries_tell_their_answers, sessions_tell_their_tries, entries_more as more_entries}
use Rattle.cluster_runs.specs.Histories.{entries}
use Rattle.cluster_runs.specs.PromisedSessions.{SessionWent}
use Rattle.cluster_runs.specs.Members.{IsOfScript, MembersAreOfScript}
use Rattle.cluster_runs.proofs.Entries.{all_from, session_acts, own_acts}
use Rattle.cluster_runs.proofs.Going.{any_of, in_session, requests_are_told}
use Rattle.cluster_runs.proofs.Replaying.{IsKnown, known_by}

-- ---- a try that tells of an acknowledgement

record FoundIn (splits : List ℕ) (run w : ℕ) (body : Body) (birth : Birth) (tx : TxId) (ts : List Try) : Type 0 where
  front : List Try
  behind : List Try
  t : Try
  at : ts ≡ front ++ t ∷ behind
  tried : IsTry splits body birth t
  named : IsNamed run w t
  told : acknowledged_in t.entries tx ≡ true

-- in one of two lists of entries
either : (tx : TxId) (es fs : History) → acknowledged_in (es ++ fs) tx ≡ true → (acknowledged_in es tx ≡ true) ⊎ (acknowledged_in fs tx ≡ true)
either tx es fs h = or_cases (acknowledged_in es tx) (acknowledged_in fs tx) (sym (list_any-append (λ e. is_acknowledgement tx (e.1).event (e.1).outcome) es fs) ∙ h)

in_tries : (splits : List ℕ) (run w : ℕ) (body : Body) (birth : Birth) (tx : TxId) (ts : List Try) → AllByRecursion (IsTry splits body birth) ts → AllByRecursion (IsNamed run w) ts → acknowledged_in (entries_of ts) tx ≡ true → FoundIn splits run w body birth tx ts
in_tries splits run w body birth tx [] is named h = absurd (both_ways false refl h)
in_tries splits run w body birth tx (t ∷ ts) is named h =
    ⊎_elim
    (λ a. record { front = []; behind = ts; t = t; at = refl; tried = is.0; named = named.0; told = a })
    (λ b. let f = in_tries splits run w body birth tx ts is.1 named.1 b in record { front = t ∷ f.front; behind = f.behind; t = f.t; at = ap (λ l. t ∷ l) f.at; tried = f.tried; named = f.named; told = f.told })
    (either tx t.entries (entries_of ts) h)

record FoundTry (splits : List ℕ) (run w : ℕ) (bodies : List Body) (tx : TxId) (trs : List Transaction) : Type 0 where
  number : ℕ
  body : Body
  body_is : slice_get bodies number ≡ Some body
  birth : Birth
  found : FoundIn splits run w body birth tx (tries_of trs)

more_behind : (splits : List ℕ) (run w : ℕ) (body : Body) (birth : Birth) (tx : TxId) (ts us : List Try) → FoundIn splits run w body birth tx ts → FoundIn splits run w body birth tx (ts ++ us)
more_behind splits run w body birth tx ts us f =
    record { front = f.front; behind = f.behind ++ us; t = f.t; at = ap (λ l. l ++ us) f.at ∙ append_assoc f.front (f.t ∷ f.behind) us; tried = f.tried; named = f.named; told = f.told }

more_before : (splits : List ℕ) (run w : ℕ) (body : Body) (birth : Birth) (tx : TxId) (ts us : List Try) → FoundIn splits run w body birth tx us → FoundIn splits run w body birth tx (ts ++ us)
more_before splits run w body birth tx ts us f =
    record { front = ts ++ f.front; behind = f.behind; t = f.t; at = ap (λ l. ts ++ l) f.at ∙ sym (append_assoc ts f.front (f.t ∷ f.behind)); tried = f.tried; named = f.named; told = f.told }

in_transactions : (splits : List ℕ) (run w : ℕ) (most : Option ℕ) (tx : TxId) (bodies : List Body) (trs : List Transaction) (cause : Option StopCause) → AreTransactions splits run w most bodies trs cause → cause ≡ None
    → acknowledged_in (entries_of (tries_of trs)) tx ≡ true → FoundTry splits run w bodies tx trs
in_transactions splits run w most tx _ _ _ all_done none h = absurd (both_ways false refl h)
in_transactions splits run w most tx _ _ _ (not_begun body bodies at) none h = absurd cc
in_transactions splits run w most tx _ _ _ (stopped tr bodies cause is) none h = absurd cc
in_transactions splits run w most tx _ _ _ (done tr bodies trs cause is more) none h =
    ⊎_elim
    (λ a. record {
      number = 0;
      body = tr.body;
      body_is = refl;
      birth = tr.birth;
      found = more_behind splits run w tr.body tr.birth tx tr.tries (tries_of trs) (in_tries splits run w tr.body tr.birth tx tr.tries is.each is.named a);
    })
    (λ b. let f = in_transactions splits run w most tx bodies trs cause more none b in
    record { number = suc f.number; body = f.body; body_is = f.body_is; birth = f.birth; found = more_before splits run w f.body f.birth tx tr.tries (tries_of trs) f.found })
    (either tx (entries_of tr.tries) (entries_of (tries_of trs)) (sym (ap (λ es. acknowledged_in es tx) (more_entries tr.tries (tries_of trs))) ∙ h))

-- ---- what a session of a legal history tells

-- of a try's transaction the history tells what the try did alone
pub whole_acts :
    (splits : List ℕ) (before after : List (List LogRecord)) (h : History) → Legal splits before h after → (w : ℕ) (most : Option ℕ) (bodies : List Body) (f : FollowsScript splits (run_after before) w most bodies None (session_entries (own w h)))
    → (front behind : List Try) (t : Try) → tries_of f.transactions ≡ front ++ t ∷ behind → IsNamed (run_after before) w t → acts_in t.tx h ≡ acts_in t.tx t.entries
whole_acts splits before after h legal w most bodies f front behind t is named =
    own_acts w t.tx h (all_from _ h (λ x m of_tx. sym (walker_of splits before after h x t.tx legal m of_tx).1 ∙ named.session_is))
    ∙ session_acts t.tx (own w h)
    ∙ sessions_tell_their_tries splits (run_after before) w most bodies None (session_entries (own w h)) f front behind t is

-- an acknowledged transaction of the history
record DidLines (splits : List ℕ) (bodies : List Body) (h : History) (tx : TxId) : Type 0 where
  number : ℕ
  body : Body
  body_is : slice_get bodies number ≡ Some body
  acts : List Done
  all : acts_of acts ≡ all_acts body.actions (answers_in acts)
  parts : ArePartsOf splits 1 acts (acts_in tx h)

in_walker :
    (splits : List ℕ) (before after : List (List LogRecord)) (h : History) → Legal splits before h after → (w : ℕ) (most : Option ℕ) (bodies : List Body) (tx : TxId) → FollowsScript splits (run_after before) w most bodies None (session_entries (own w h))
    → acknowledged_in (session_entries (own w h)) tx ≡ true → DidLines splits bodies h tx
in_walker splits before after h legal w most bodies tx f told =
    let found = in_transactions splits (run_after before) w most tx bodies f.transactions None f.in_order refl (sym (ap (λ es. acknowledged_in es tx) f.entries_are) ∙ told) in
    let try = found.found in
    let so = acknowledged_end_so splits found.body found.birth try.t tx try.tried try.told in
    let same : acts_in tx h ≡ acts_in (try.t).tx (try.t).entries = ap (λ u. acts_in u h) so.1 ∙ whole_acts splits before after h legal w most bodies f try.front try.behind try.t try.at try.named in
    record {
      number = found.number;
      body = found.body;
      body_is = found.body_is;
      acts = (try.t).acts;
      all = (acknowledged_did_their_lines splits found.body found.birth try.t try.tried so.0).all;
      parts = subst (ArePartsOf splits 1 (try.t).acts) (sym same) (entries_tell_their_answers splits found.body found.birth try.t try.tried so.0);
    }

-- ---- where the history tells of it

of_session : (e : Event) (o : Outcome) (t : TxId) → is_acknowledgement t e o ≡ true → is_of_session e ≡ true
of_session (OpEvent u birth nth seen op) o t h = refl
of_session (RollTo u nth seen upto) o t h = refl
of_session (Request u ts) o t h = refl
of_session (Look u) o t h = refl
of_session (Drop u) o t h = refl
of_session Send o t h = h
of_session (Deliver m stamp) o t h = h
of_session Remind o t h = h
of_session FlushOut o t h = h
of_session FlushIn o t h = h
of_session Stop o t h = h
of_session Restart o t h = h

some_of : {A : Type 0} (test : A → Bool) (xs : List A) → list_any test xs ≡ true → (x : A) × Among x xs × (test x ≡ true)
some_of test [] h = absurd (both_ways false refl h)
some_of test (x ∷ xs) h = ⊎_elim (λ a. (x, inl refl, a)) (λ b. let s = some_of test xs b in (s.0, inr s.1, s.2)) (or_cases (test x) (list_any test xs) h)

-- ---- members

module _ (logs : List (List LogRecord)) (h : History) (P : Member → Type 0)
    (made : (t : TxId) (point : _) → acknowledged_in h t ≡ true → P (record { tx = t; point = point; acts = acts_in t h })) where
  chosen : (t : TxId) (point : _) (c a : Bool) (ms : List Member) → (c ≡ true → a ≡ true) → acknowledged_in h t ≡ a → AllByRecursion P ms → AllByRecursion P (cond (c || a) (record { tx = t; point = point; acts = acts_in t h } ∷ ms) ms)
  chosen t point true true ms known is rest = (made t point is, rest)
  chosen t point true false ms known is rest = absurd (both_ways false refl (known refl))
  chosen t point false true ms known is rest = (made t point is, rest)
  chosen t point false false ms known is rest = rest

  at : (e : ℕ × Entry) (ms : List Member) (o : Option TxId) → ((t : TxId) → o ≡ Some t → committed_in (log_of logs e.0) t ≡ true → acknowledged_in h t ≡ true) → AllByRecursion P ms
      → AllByRecursion P
      (elim o as (λ z. List Member) [
        | Some t ↦ cond (committed_in (log_of logs e.0) t || acknowledged_in h t) (record { tx = t; point = record { stamp = (e.1).stamp; shard = e.0 }; acts = acts_in t h } ∷ ms) ms
        | None ↦ ms
      ])
  at e ms None known rest = rest
  at e ms (Some t) known rest = chosen t (record { stamp = (e.1).stamp; shard = e.0 }) (committed_in (log_of logs e.0) t) (acknowledged_in h t) ms (known t refl) refl rest

  all_members : (es : History) → ((e : ℕ × Entry) → Among e es → IsKnown logs h e) → AllByRecursion P (members logs h es)
  all_members [] known = tt
  all_members (e ∷ es) known = at e (members logs h es) (request_of (e.1).event (e.1).outcome) (known e (inl refl)) (all_members es (λ x m. known x (inr m)))

pub members_are_of_script : MembersAreOfScript
members_are_of_script splits before now counts counts_now most script went kept choice may p gone =
    all_members (logs_left splits kept.found h left choice) h (IsOfScript splits script h) (λ t point told. made t point (some_of (λ e. is_acknowledgement t (e.1).event (e.1).outcome) h told)) h
    (known_by splits kept left may ((p.keeps).legal).legal (requests_are_told splits before now counts counts_now most script went kept p gone) choice)
  where
    h : History
    h = entries kept

    left : List (List LogRecord)
    left = (p.keeps).left

    made : (t : TxId) (point : _) → ((x : ℕ × Entry) × Among x h × (is_acknowledgement t (x.1).event (x.1).outcome ≡ true)) → IsOfScript splits script h (record { tx = t; point = point; acts = acts_in t h })
    made t point (x, among, tells) = seek_walker (x.1).walker refl
      where
        Found : ℕ → Type 0
        Found w = Among x (session_entries (own w h))

        found : Found (x.1).walker
        found = in_session x (own (x.1).walker h) (of_session (x.1).event (x.1).outcome t tells) (in_own x h among)

        nowhere : {A : Type 0} (w : ℕ) → Found w → session_entries (own w h) ≡ [] → A
        nowhere w m none = absurd (subst (Among x) none m)

        Wanted : Type 0
        Wanted = IsOfScript splits script h (record { tx = t; point = point; acts = acts_in t h })

        seek_walker : (w : ℕ) → w ≡ (x.1).walker → Wanted
        seek_walker zero same = nowhere 0 (subst Found (sym same) found) ((p.sessions).others 0 (inl refl))
        seek_walker (suc k) same = seek (slice_get_cases script k).1
          where
            seek : ((bodies : List Body) × (k < length script) × (slice_get script k ≡ Some bodies) × (get_or script k bodies ≡ bodies)) ⊎ ((length script ≤ k) × (slice_get script k ≡ None)) → Wanted
            seek (inl (bodies, low, is, read)) =
                let d = in_walker splits kept.found left h (((p.keeps).legal).legal) (suc k) most bodies t
                (subst (λ z. SessionWent splits (run_after kept.found) (suc k) most bodies z (own (suc k) h)) (gone k low) ((p.sessions).each k bodies is)).follows
                (any_of (λ e. is_acknowledgement t (e.1).event (e.1).outcome) x (session_entries (own (suc k) h)) (subst Found (sym same) found) tells) in
                record { told = refl; session = k; bodies = bodies; session_is = is; number = d.number; body = d.body; body_is = d.body_is; acts = d.acts; all = d.all; parts = d.parts }
            seek (inr (past, is)) = nowhere (suc k) (subst Found (sym same) found) ((p.sessions).others (suc k) (inr (omega arith)))
