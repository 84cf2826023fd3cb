-- What a session's entry owes the shard: an operation, a going back, and a request.
use Rattle.std.proofs.Common.{◌≡◌, ◌⊎◌, inl, inr, ⊎_elim, refl, sym, ap, subst, ◌∙◌, ℕ, ◌<◌, true, false, cond, Bool, List, [], ◌∷◌, ◌++◌, Option, Some, None, arith, eqb-true}
use Rattle.std.specs.List.{AllByRecursion}
use Rattle.std.proofs.lemmas.Bool.{false_from_ne_true}
use Rattle.clv_base.specs.declared.names.TxId.{TxId}
use Rattle.clv_base.specs.declared.names.Birth.{Birth}
use Rattle.clv_base.specs.declared.ops.Op.{Op}
use Rattle.clv_base.specs.declared.logs.LogRecord.{LogRecord}
use Rattle.clv_base.specs.declared.state.Stage.TheVariants.{Closed}
use Rattle.clv_base.specs.declared.state.Held.{Held}
use Rattle.clv_base.specs.declared.events.Event.TheVariants.{Op as OpEvent, RollTo, Request as RequestEvent}
use Rattle.clv_base.specs.declared.events.Entry.{Entry}
use Rattle.clv_base.specs.Orders.{tx_same, tx_in, tx_get}
use Rattle.clv_base.specs.Logs.{prepared_in}
use Rattle.clv_base.specs.State.{Shard}
use Rattle.clv_base.specs.OneShard.{seen_fits}
use Rattle.clv_base.specs.Sessions.{no_session}
use Rattle.clv_base.specs.Restarts.{run_after}
use Rattle.clv_base.specs.Journals.{History, own}
use Rattle.clv_base.specs.History.{Legal}
use Rattle.clv_base.proofs.SameNames.{tx_true}
use Rattle.law_base.specs.Items.{Deed}
use Rattle.law_base.proofs.Lists.{all_mono}
use Rattle.law_base.proofs.Rows.{rows_get}
use Rattle.protocol_laws.specs.SessionLaws.{tx_of}
use Rattle.shard_laws.specs.OneShard.{Deeds, doer, number_of, deeds_of, has_met, AreBelow, MayTouch, MayGoBack, MayAsk}
use Rattle.shard_laws.proofs.Keeping.LeavingKeeps.{in_two}
use Rattle.history_cases.proofs.Merging.{Placed, Among, in_order, own_in_order, precedes_before}
use Rattle.history_laws.proofs.NeverTakenBack.{walker_of, together}
use Rattle.history_laws.proofs.Entries.WalkedEntryByEntry.{Behind, from_own, first_among}
use Rattle.fate_laws.proofs.History.EntriesInTurn.{Requested, turn_of, same_epoch, op_no_request, request_no_request}
use Rattle.fate_laws.proofs.Origins.DueKeepsOrigins.{SomeRequest, AwayRequest, BirthFrom, PartFrom, RowFrom, part_of, own_some, away_some}
use Rattle.fate_laws.proofs.Origins.FrontsKeepOrigins.{Did, DidNow, DidAny, IsOld, DidOrOld, Traced}
use Rattle.fate_laws.proofs.CausesStand.SeenWasAnswered.{back_seen_before}
use Rattle.fate_laws.proofs.EachShardLeads.NumbersRise.{DoneAs, NumberedAs, numbers_rise}
use Rattle.fate_laws.proofs.EachShardLeads.CommitsSpareTheFallen.{FellOn}
use Rattle.fate_laws.specs.Leading.{requests_of}
use Rattle.fate_laws.proofs.History.DeedsOfOneEntry.{made_request}
use Rattle.fate_laws.proofs.EachShardLeads.RecordsTellTheirOrigin.{wrote_from, aborted_from, prepared_from, committed_from}
use Rattle.fate_laws.proofs.EachShardLeads.RestoredStayPrepared.{RestoredArePrepared}

-- ---- what is known of the shard before the entry

-- the entry behind a front of the history, and the shard that makes it
pub record Here (splits : List ℕ) (before after : List (List LogRecord)) (h pre : History) (n : ℕ) (x : Entry) (s : Shard) : Type 0 where
  pub legal : Legal splits before h after
  pub behind : Behind h pre (n, x)
  pub traced : Traced (run_after before) pre n s

-- a deed is told by an entry of the shard, which answered its transaction; or it is of an earlier run
abbrev pub WasDone : ℕ → History → ℕ → Deed → Type 0
WasDone run pre n d = (DidAny pre n (doer d) × ((y : Placed) × Among y pre × (y.0 ≡ n) × DoneAs (doer d) (number_of d) (y.1).event (y.1).outcome)) ⊎ IsOld run (doer d)

-- what the shard did was of transactions that it answered, or of those of earlier runs
pub record Remembers (before after : List (List LogRecord)) (pre : History) (n : ℕ) (d : Deeds) : Type 0 where
  pub done : AllByRecursion (WasDone (run_after before) pre n) d.done
  pub met : (t p : TxId) → has_met d.met t p ≡ true → DidOrOld (run_after before) pre n t
  pub fell : (t : TxId) → tx_in t d.fell ≡ true → DidOrOld (run_after before) pre n t × FellOn before pre after n t

unasked : (run : ℕ) (pre : History) (t : TxId) → t.run ≡ run → ((m : ℕ) → Requested pre t m → ⊥) → SomeRequest (Requested pre) (IsOld run) t → ⊥
unasked run pre t r f (inl (m, q)) = f m q
unasked run pre t r f (inr o) = omega (arith, o, r)

-- who asked so far made a request, or is of an earlier run
abbrev pub AskedFrom : ℕ → History → List TxId → Type 0
AskedFrom run pre asked = (t : TxId) → tx_in t asked ≡ true → SomeRequest (Requested pre) (IsOld run) t

pub asked_from : (run : ℕ) (pre : History) (found : List TxId) → ((t : TxId) → tx_in t found ≡ true → IsOld run t) → AskedFrom run pre (found ++ requests_of pre)
asked_from run pre found old t i = ⊎_elim (λ j. inr (old t j)) (λ j. let y = made_request pre t j in inl ((y.0).0, (y.0, y.1, y.2, y.3, refl))) (in_two found (requests_of pre) t i)

pub not_asked : (run : ℕ) (pre : History) (asked : List TxId) (t : TxId) → AskedFrom run pre asked → t.run ≡ run → ((m : ℕ) → Requested pre t m → ⊥) → tx_in t asked ≡ false
not_asked run pre asked t a r f = false_from_ne_true _ (λ i. unasked run pre t r f (a t i))

pub none_of : {V : Type 0} (o : Option V) → ((v : V) → o ≡ Some v → ⊥) → o ≡ None
none_of None k = refl
none_of (Some v) k = absurd (k v refl)

-- ---- a request

pub may_ask : (splits : List ℕ) (before after : List (List LogRecord)) (h pre : History) (n : ℕ) (x : Entry) (s : Shard) (d : Deeds) (t : TxId) (ts : List (ℕ × ℕ)) → Here splits before after h pre n x s → AskedFrom (run_after before) pre d.asked → x.event ≡ RequestEvent t ts → MayAsk d s t
may_ask splits before after h pre n x s d t ts here from e = (
  not_asked (run_after before) pre d.asked t from of_run first,
  (λ v g. none (away_some (Requested pre) (IsOld run) n t (rows_get (λ r. AwayRequest (Requested pre) (IsOld run) n r.0) t v s.voters (k.origins).voters g))),
  none_of (tx_get t s.requests) (λ q g. none (own_some (Requested pre) (IsOld run) n t (rows_get (λ r. RowFrom (Requested pre) (IsOld run) n r.0 r.1) t q s.requests (k.origins).requests g).0)),
  of_run ∙ sym k.run_is,
)
  where
    run : ℕ
    run = run_after before

    k : Traced (run_after before) pre n s
    k = here.traced

    of_run : t.run ≡ run_after before
    of_run = (walker_of splits before after h (n, x) t here.legal (here.behind).here (ap tx_of e)).0

    first : (m : ℕ) → Requested pre t m → ⊥
    first m q = request_no_request splits before after h pre (n, x) t ts m here.legal here.behind e q

    none : SomeRequest (Requested pre) (IsOld (run_after before)) t → ⊥
    none = unasked (run_after before) pre t of_run first

-- ---- its deeds so far

idle : (run : ℕ) (pre : History) (n : ℕ) (t : TxId) (all : List Deed) → AllByRecursion (WasDone run pre n) all → (DidOrOld run pre n t → ⊥) → deeds_of t all ≡ []
idle run pre n t [] a k = refl
idle run pre n t (y ∷ ys) a k = at (tx_same (doer y) t) refl (idle run pre n t ys a.1 k)
  where
    known : WasDone run pre n y → DidOrOld run pre n (doer y)
    known (inl w) = inl w.0
    known (inr o) = inr o

    at : (b : Bool) → tx_same (doer y) t ≡ b → deeds_of t ys ≡ [] → cond b (y ∷ deeds_of t ys) (deeds_of t ys) ≡ []
    at true e q = absurd (k (subst (DidOrOld run pre n) (tx_true (doer y) t e) (known a.0)))
    at false e q = q

-- they have lower numbers
rises : (splits : List ℕ) (before after : List (List LogRecord)) (h pre : History) (n : ℕ) (x : Entry) (t : TxId) (nth : ℕ) (all : List Deed) → Legal splits before h after → Behind h pre (n, x) → t.run ≡ run_after before → NumberedAs t nth x.event
    → AllByRecursion (WasDone (run_after before) pre n) all → AreBelow t nth all
rises splits before after h pre n x t nth all l b r e a = all_mono (WasDone (run_after before) pre n) (λ d. doer d ≡ t → number_of d < nth) below all a
  where
    below : (d : Deed) → WasDone (run_after before) pre n d → doer d ≡ t → number_of d < nth
    below d (inl (w, (y, i, p, k))) q =
        numbers_rise splits before after h y (n, x) t (number_of d) nth l (turn_of h pre (n, x) y b i) p (subst (λ z. DoneAs z (number_of d) (y.1).event (y.1).outcome) q k) e
    below d (inr o) q = absurd (let z = ap (λ u. u.run) q in omega (arith, o, z, r))

-- ---- an operation

module _ (splits : List ℕ) (before after : List (List LogRecord)) (h pre : History) (n : ℕ) (x : Entry) (s : Shard) (t : TxId) (birth : Birth) (nth : ℕ) (seen : Option ℕ) (op : Op) (here : Here splits before after h pre n x s) (e : x.event ≡ OpEvent t birth nth seen op) where
  of_run : t.run ≡ run_after before
  of_run = (walker_of splits before after h (n, x) t here.legal (here.behind).here (ap tx_of e)).0

  first : (m : ℕ) → Requested pre t m → ⊥
  first m q = op_no_request splits before after h pre (n, x) t birth nth seen op m here.legal here.behind e q

  none : SomeRequest (Requested pre) (IsOld (run_after before)) t → ⊥
  none = unasked (run_after before) pre t of_run first

  -- an earlier operation on the shard is of the epoch that this one has seen, and of its birth
  earlier : (b : Birth) (ep : ℕ) → Did pre n ep t b → (seen ≡ Some ep) × (b ≡ birth)
  earlier b ep (y, i, p, a) = same_epoch splits before after h y (n, x) t b birth ep seen here.legal (turn_of h pre (n, x) y here.behind i) p a (record { nth = nth; op = op; is = e })

  no_did : seen_fits s.local.epoch seen ≡ true → tx_get t s.local.parts ≡ None → DidAny pre n t → ⊥
  no_did f g (ep, (b, d)) =
      let p = (earlier b ep d).0 in
      let z : ep ≡ s.local.epoch = eqb-true ep s.local.epoch (subst (λ w. seen_fits s.local.epoch w ≡ true) p f) in
      ((here.traced).origins).known t (subst (λ w. DidNow pre n w t) z (b, d)) g

  no_old : (DidAny pre n t → ⊥) → DidOrOld (run_after before) pre n t → ⊥
  no_old k (inl d) = k d
  no_old k (inr o) = omega (arith, o, of_run)

  birth_is : (p : Held) (b : Bool) → p.is_restored ≡ b → RestoredArePrepared s.local → tx_get t s.local.parts ≡ Some p → BirthFrom (Did pre n s.local.epoch) b t p.birth → p.birth ≡ birth
  birth_is p true q r g d =
      absurd (none (prepared_from (DidOrOld (run_after before) pre n) (Requested pre) (IsOld (run_after before)) n s.local.log ((here.traced).origins).log t (rows_get (λ y. (y.1).is_restored ≡ true → prepared_in s.local.log y.0 ≡ true) t p s.local.parts r g q)).1)
  birth_is p false q r g d = (earlier p.birth s.local.epoch d).1

  pub may_touch : (d : Deeds) (asked : List TxId) → AskedFrom (run_after before) pre asked → Remembers before after pre n d → RestoredArePrepared s.local → MayTouch (record d { asked = asked }) s t birth nth seen
  may_touch d asked from m r = record {
    of_run = of_run ∙ sym (here.traced).run_is;
    rises = rises splits before after h pre n x t nth d.done here.legal here.behind of_run (subst (NumberedAs t nth) (sym e) (refl, refl)) m.done;
    not_closed = λ c. none (part_of n s.local.epoch _ _ _ _ _ s t Closed (here.traced).origins c).3;
    not_asked = λ f. not_asked (run_after before) pre asked t from of_run first;
    fresh = λ f g.
        let k = no_old (no_did f g) in
        let log = ((here.traced).origins).log in
        record {
          unwritten = false_from_ne_true _ (λ c. k (wrote_from (DidOrOld (run_after before) pre n) (Requested pre) (IsOld (run_after before)) n s.local.log log t c));
          unprepared = false_from_ne_true _ (λ c. k (prepared_from (DidOrOld (run_after before) pre n) (Requested pre) (IsOld (run_after before)) n s.local.log log t c).0);
          uncommitted = false_from_ne_true _ (λ c. none (committed_from (DidOrOld (run_after before) pre n) (Requested pre) (IsOld (run_after before)) n s.local.log log t c));
          unaborted = false_from_ne_true _ (λ c. k (aborted_from (DidOrOld (run_after before) pre n) (Requested pre) (IsOld (run_after before)) n s.local.log log t c));
          idle = idle (run_after before) pre n t d.done m.done k;
          unmet = λ p z. k (m.met t p z);
          unfallen = false_from_ne_true _ (λ c. k (m.fell t c).0);
        };
    same_birth = λ p g.
        let q = rows_get (λ y. PartFrom (Did pre n s.local.epoch) (SomeRequest (Requested pre) (IsOld (run_after before))) y.0 y.1) t p s.local.parts ((here.traced).origins).parts g in
        birth_is p p.is_restored refl r g q.0;
  }

-- ---- a going back

module _ (splits : List ℕ) (before after : List (List LogRecord)) (h pre : History) (n : ℕ) (x : Entry) (s : Shard) (t : TxId) (nth seen upto : ℕ) (here : Here splits before after h pre n x s) (e : x.event ≡ RollTo t nth seen upto) where
  back_of_run : t.run ≡ run_after before
  back_of_run = (walker_of splits before after h (n, x) t here.legal (here.behind).here (ap tx_of e)).0

  -- the epoch that it has seen answered its transaction here
  pub back_did : DidNow pre n seen t
  back_did =
      let g = together splits before after h (n, x) (n, x) t here.legal (here.behind).here (here.behind).here (ap tx_of e) (ap tx_of e) in
      let v = own x.walker h in
      let w = back_seen_before splits v (no_session (run_after before) x.walker) (n, x) t nth seen upto refl g.session g.first e in
      let y = w.0 in
      let a = w.2 in
      let i = (here.behind).earlier y (from_own x.walker y h (first_among y (n, x) v w.1)) (precedes_before y (n, x) v (own_in_order x.walker h (in_order h (here.legal).ordered)) w.1) in
      let z = ((here.traced).epochs y t a.birth a.nth a.seen a.op a.answer seen i a.place a.event a.outcome).1 in
      (a.birth, (y, i, a.place, record { seen = a.seen; answer = a.answer; at = record { nth = a.nth; op = a.op; is = a.event }; outcome = a.outcome; saw = z }))

  pub may_go_back : (d : Deeds) (asked : List TxId) → Remembers before after pre n d → MayGoBack (record d { asked = asked }) s t nth seen
  may_go_back d asked m = record {
    of_run = back_of_run ∙ sym (here.traced).run_is;
    rises = rises splits before after h pre n x t nth d.done here.legal here.behind back_of_run (subst (NumberedAs t nth) (sym e) (refl, refl)) m.done;
    known = λ q g. ((here.traced).origins).known t (subst (λ z. DidNow pre n z t) q back_did) g;
  }
