-- The acts of a transaction whose request was taken are whole: a session makes no request while a going back is unfinished anywhere.
use Rattle.std.proofs.Common.{◌≡◌, ◌⊎◌, refl, sym, ap, subst, ◌∙◌, ℕ, suc, ◌<◌, ◌≤◌, true, false, cond, not, Bool, List, [], ◌∷◌, ◌++◌, Option, Some, None, ◌&&◌, ◌==◌, nat_lt, nat_le, arith, append_assoc, append-nil, eqb-true, inl, inr}
use Rattle.std.specs.List.{filter}
use Rattle.std.specs.Map.{lookup}
use Rattle.std.proofs.lemmas.Bool.{both_ways, and_parts, and_from, or_cases, lt-ltb, false_from_ne_true, eq-eqb, cases_lt, le-leb, or_left, or_right, cond-true, cond-false}
use Rattle.clv_base.specs.declared.names.TxId.{TxId}
use Rattle.clv_base.specs.declared.names.Birth.{Birth}
use Rattle.clv_base.specs.declared.ops.Op.{Op}
use Rattle.clv_base.specs.declared.ops.Answer.{Answer}
use Rattle.clv_base.specs.declared.events.Event.{Event}
use Rattle.clv_base.specs.declared.events.Event.TheVariants.{Op as OpEvent, RollTo, Request as RequestEvent, Look, Drop}
use Rattle.clv_base.specs.declared.events.Outcome.{Outcome}
use Rattle.clv_base.specs.declared.events.Outcome.TheVariants.{Answered, Rolled, Dead, Asked, Acknowledged, Aborted}
use Rattle.clv_base.specs.Orders.{tx_same}
use Rattle.clv_base.specs.LogRules.{same_option}
use Rattle.clv_base.specs.Backs.{has_written, stands_for_back}
use Rattle.clv_base.specs.Sessions.{Phase, Touching, Ended, Standing, Told, Refused, SessionState, no_session, scan_shard, is_number, goes_on_scan, lies_in, is_touching, begun, session_for, touch, is_back_whole, is_whole_now, numbered, with_written, op_answered, op_in_session, goes_on_back, back_for, back_in_session, same_touched, is_lowest, requested, looked, after_drop, session_after, makes_from}
use Rattle.clv_base.specs.Restarts.{run_after}
use Rattle.clv_base.specs.Journals.{History, own}
use Rattle.clv_base.proofs.SameNames.{tx_true, tx_self}
use Rattle.protocol_laws.specs.SessionLaws.{tx_of}
use Rattle.serial_laws.specs.Shares.{ShardAct, OnShard, BackOn, Progress, not_begun, continues, may_follow, followed, goes_whole_from, goes_whole}
use Rattle.history_cases.proofs.Merging.{Placed, Among, is_among}
use Rattle.history_laws.specs.Going.{act_on, shard_acts_in, RequestsGoWhole}
use Rattle.history_laws.proofs.NeverTakenBack.{walker_of, together}
use Rattle.history_laws.proofs.RequestsNameWhatAnswered.DropsAfterRequests.{ForOn, same_on, new_on, on_by}
use Rattle.history_laws.proofs.Entries.GoingsBackOfSessions.{Back, no_back, went, died, back_after}

-- ---- progress through more acts

abbrev past : Progress → List ShardAct → Progress
past p [] = p
past p (x ∷ xs) = past (followed p x) xs

abbrev may_go : Progress → List ShardAct → Bool
may_go p [] = true
may_go p (x ∷ xs) = may_follow p x && may_go (followed p x) xs

past_push : (p : Progress) (xs : List ShardAct) (x : ShardAct) → past p (xs ++ x ∷ []) ≡ followed (past p xs) x
past_push p [] x = refl
past_push p (y ∷ ys) x = past_push (followed p y) ys x

may_push : (p : Progress) (xs : List ShardAct) (x : ShardAct) → may_go p xs ≡ true → may_follow (past p xs) x ≡ true → may_go p (xs ++ x ∷ []) ≡ true
may_push p [] x g m = and_from (may_follow p x) true m refl
may_push p (y ∷ ys) x g m = let q = and_parts (may_follow p y) (may_go (followed p y) ys) g in and_from (may_follow p y) (may_go (followed p y) (ys ++ x ∷ [])) q.0 (may_push (followed p y) ys x q.1 m)

whole_by : (p : Progress) (xs : List ShardAct) → may_go p xs ≡ true → is_back_whole (past p xs).back (past p xs).written ≡ true → goes_whole_from p xs ≡ true
whole_by p [] g w = w
whole_by p (y ∷ ys) g w = let q = and_parts (may_follow p y) (may_go (followed p y) ys) g in and_from (may_follow p y) (goes_whole_from (followed p y) ys) q.0 (whole_by (followed p y) ys q.1 w)

-- ---- what a session tells of it

record Exact (s : SessionState) (p : Progress) : Type 0 where
  nth : p.nth ≡ s.nth
  back : p.back ≡ s.back
  written : p.written ≡ s.written
  backs : p.backs ≡ s.backs

-- the transaction can't work any more
record Over (tx : TxId) (s : SessionState) : Type 0 where
  reached : tx.serial ≤ (s.tx).serial
  ended : s.tx ≡ tx → is_touching s.phase ≡ false

record Goes (tx : TxId) (s : SessionState) (xs : List ShardAct) : Type 0 where
  own : s.tx ≡ tx
  touching : is_touching s.phase ≡ true
  exact : Exact s (past not_begun xs)
  may : s.is_whole ≡ true → may_go not_begun xs ≡ true

-- before it begins, while it goes on, and behind that
data Track (tx : TxId) : SessionState → List ShardAct → Type 0 where
  unbegun : {s : SessionState} → (s.tx).serial < tx.serial → Track tx s []
  going : {s : SessionState} {xs : List ShardAct} → Goes tx s xs → Track tx s xs
  over : {s : SessionState} {xs : List ShardAct} → Over tx s → Track tx s xs

abbrev with_shard_act : Option ShardAct → List ShardAct
with_shard_act None = []
with_shard_act (Some x) = x ∷ []

data TrackIn (tx : TxId) (xs : List ShardAct) : Option SessionState → Type 0 where
  gone : TrackIn tx xs None
  track : {s : SessionState} → Track tx s xs → TrackIn tx xs (Some s)

track_if : (tx : TxId) (xs : List ShardAct) (b : Bool) (o : Option SessionState) → (b ≡ true → TrackIn tx xs o) → TrackIn tx xs (cond b o None)
track_if tx xs true o k = k refl
track_if tx xs false o k = gone

same_serial : {a b : TxId} → a ≡ b → a.serial ≡ b.serial
same_serial e = ap (λ z. z.serial) e

-- ---- an operation

abbrev after_answer : SessionState → ℕ → ℕ → Op → Answer → ℕ → SessionState
after_answer v n nth op a epoch = record (numbered nth v) { scanned = scan_shard n op; touched = touch n epoch v.touched; written = with_written n nth (has_written op a) v.written }

number_rises : (s : SessionState) (n nth : ℕ) (op : Op) → is_number s n nth op ≡ true → s.nth ≤ nth
number_rises s n nth op e = at (or_cases (nth == suc s.nth) ((nth == s.nth) && goes_on_scan s.scanned (scan_shard n op)) e)
  where
    at : ((nth == suc s.nth) ≡ true) ⊎ (((nth == s.nth) && goes_on_scan s.scanned (scan_shard n op)) ≡ true) → s.nth ≤ nth
    at (inl f) = let g = eqb-true nth (suc s.nth) f in omega (arith, g)
    at (inr f) = let g = eqb-true nth s.nth (and_parts (nth == s.nth) (goes_on_scan s.scanned (scan_shard n op)) f).0 in omega (arith, g)

-- the next one of the transaction that goes on
op_goes : (tx : TxId) (s : SessionState) (xs : List ShardAct) (n nth : ℕ) (op : Op) (a : Answer) (epoch : ℕ) → Goes tx s xs → is_number s n nth op ≡ true → Goes tx (after_answer s n nth op a epoch) (xs ++ OnShard n nth op a ∷ [])
op_goes tx s xs n nth op a epoch g i =
    let p = past not_begun xs in
    let e = past_push not_begun xs (OnShard n nth op a) in
    record {
      own = g.own;
      touching = g.touching;
      exact = subst (Exact (after_answer s n nth op a epoch)) (sym e) (record { nth = refl; back = refl; written = ap (with_written n nth (has_written op a)) (g.exact).written; backs = (g.exact).backs });
      may = λ w.
          let q = and_parts s.is_whole (is_back_whole s.back s.written) w in
          may_push not_begun xs (OnShard n nth op a) (g.may q.0)
          (and_from (is_back_whole p.back p.written) (nat_le p.nth nth)
          (subst (λ z. is_back_whole z p.written ≡ true) (sym (g.exact).back) (subst (λ z. is_back_whole s.back z ≡ true) (sym (g.exact).written) q.1))
          (le-leb p.nth nth (let r = number_rises s n nth op i in let f = (g.exact).nth in omega (arith, r, f))));
    }

and_none : (a b : Bool) → a ≡ false → (a && b) ≡ false
and_none true b e = absurd (both_ways true e refl)
and_none false b e = refl

-- whose operation it is
data Found (tx : TxId) (v : SessionState) (xs : List ShardAct) (u : TxId) : Type 0 where
  its_own : u ≡ tx → Goes tx v xs → Found tx v xs u
  an_earlier : v.tx ≡ u → u.serial < tx.serial → xs ≡ [] → Found tx v xs u
  a_later : v.tx ≡ u → tx.serial ≤ u.serial → tx_same tx u ≡ false → Found tx v xs u

apart : (tx u : TxId) → ((tx ≡ u) → ⊥) → tx_same tx u ≡ false
apart tx u k = false_from_ne_true (tx_same tx u) (λ e. k (tx_true tx u e))

begins_so : (s : SessionState) (tx u : TxId) (birth : Birth) (b : Bool) → tx_same tx u ≡ b → Found tx (begun s u birth) [] u
begins_so s tx u birth true e =
    its_own (sym (tx_true tx u e)) (record { own = sym (tx_true tx u e); touching = refl; exact = record { nth = refl; back = refl; written = refl; backs = refl }; may = λ _. refl })
begins_so s tx u birth false e = at (cases_lt u.serial tx.serial)
  where
    at : (u.serial < tx.serial) ⊎ (tx.serial ≤ u.serial) → Found tx (begun s u birth) [] u
    at (inl l) = an_earlier refl l refl
    at (inr l) = a_later refl l e

found : (tx : TxId) (s : SessionState) (xs : List ShardAct) (u : TxId) (birth : Birth) (v : SessionState) → Track tx s xs → ForOn s u birth (Some v) → Found tx v xs u
found tx s _ u birth _ (unbegun l) (same_on q h) = an_earlier (sym q) (let e = same_serial q in omega (arith, l, e)) refl
found tx s _ u birth _ (unbegun l) (new_on k) = begins_so s tx u birth (tx_same tx u) refl
found tx s xs u birth _ (going g) (same_on q h) = its_own (q ∙ g.own) g
found tx s xs u birth _ (going g) (new_on k) =
    a_later refl (let e = same_serial g.own in omega (arith, k, e)) (apart tx u (λ f. absurd (let e = same_serial g.own in let d = same_serial f in omega (arith, k, e, d))))
found tx s xs u birth _ (over o) (same_on q h) = a_later (sym q) (let e = same_serial q in let r = o.reached in omega (arith, r, e)) (apart tx u (λ f. both_ways _ (o.ended (sym q ∙ sym f)) h))
found tx s xs u birth _ (over o) (new_on k) =
    a_later refl (let r = o.reached in omega (arith, r, k)) (apart tx u (λ f. absurd (let d = same_serial f in let r = o.reached in omega (arith, r, k, d))))

-- where it isn't its own, there is no act of it
no_op : (tx u : TxId) (n : ℕ) (birth : Birth) (nth : ℕ) (seen : Option ℕ) (op : Op) (o : Outcome) → tx_same tx u ≡ false → act_on tx n (OpEvent u birth nth seen op) o ≡ None
no_op tx u n birth nth seen op (Answered a epoch) e = cond-false (tx_same tx u) (Some (OnShard n nth op a)) None e
no_op tx u n birth nth seen op _ e = refl

none_more : (tx : TxId) (xs : List ShardAct) (o : Option ShardAct) (v : Option SessionState) → o ≡ None → TrackIn tx xs v → TrackIn tx (xs ++ with_shard_act o) v
none_more tx xs o v e t = subst (λ c. TrackIn tx (xs ++ with_shard_act c) v) (sym e) (subst (λ l. TrackIn tx l v) (sym (append-nil xs)) t)

-- the session goes on by another transaction
of_another : (tx u : TxId) (w : SessionState) (xs : List ShardAct) → w.tx ≡ u → tx.serial ≤ u.serial → tx_same tx u ≡ false → Track tx w xs
of_another tx u w xs e l a = over (record { reached = let q = same_serial e in omega (arith, l, q); ended = λ f. absurd (both_ways _ a (subst (λ z. tx_same tx z ≡ true) (sym f ∙ e) (tx_self tx))) })

of_earlier : (tx u : TxId) (w : SessionState) (xs : List ShardAct) → w.tx ≡ u → u.serial < tx.serial → xs ≡ [] → Track tx w xs
of_earlier tx u w xs e l a = subst (Track tx w) (sym a) (unbegun (let q = same_serial e in omega (arith, l, q)))

answered : (tx u : TxId) (v : SessionState) (xs : List ShardAct) (n : ℕ) (birth : Birth) (nth : ℕ) (seen : Option ℕ) (op : Op) (o : Outcome) → Found tx v xs u → is_number v n nth op ≡ true
    → TrackIn tx (xs ++ with_shard_act (act_on tx n (OpEvent u birth nth seen op) o)) (op_answered n nth op v o)
answered tx u v xs n birth nth seen op (Answered a epoch) (its_own e g) i =
    subst (λ c. TrackIn tx (xs ++ with_shard_act c) (op_answered n nth op v (Answered a epoch)))
    (sym (cond-true (tx_same tx u) (Some (OnShard n nth op a)) None (subst (λ z. tx_same tx z ≡ true) (sym e) (tx_self tx)))) (track (going (op_goes tx v xs n nth op a epoch g i)))
answered tx u v xs n birth nth seen op (Dead cause) (its_own e g) i =
    none_more tx xs None _ refl (track (over (record { reached = let q = same_serial g.own in omega (arith, q); ended = λ _. refl })))
answered tx u v xs n birth nth seen op (Answered a epoch) (an_earlier e l x) i =
    none_more tx xs (act_on tx n (OpEvent u birth nth seen op) (Answered a epoch)) _ (no_op tx u n birth nth seen op (Answered a epoch) (apart tx u (λ f. absurd (let d = same_serial f in omega (arith, l, d))))) (track (of_earlier tx u _ xs e l x))
answered tx u v xs n birth nth seen op (Dead cause) (an_earlier e l x) i = none_more tx xs None _ refl (track (of_earlier tx u _ xs e l x))
answered tx u v xs n birth nth seen op (Answered a epoch) (a_later e l x) i =
    none_more tx xs (act_on tx n (OpEvent u birth nth seen op) (Answered a epoch)) _ (no_op tx u n birth nth seen op (Answered a epoch) x) (track (of_another tx u _ xs e l x))
answered tx u v xs n birth nth seen op (Dead cause) (a_later e l x) i = none_more tx xs None _ refl (track (of_another tx u _ xs e l x))
answered tx u v xs n birth nth seen op _ f i = gone

track_op : (splits : List ℕ) (tx u : TxId) (s : SessionState) (xs : List ShardAct) (n : ℕ) (birth : Birth) (nth : ℕ) (seen : Option ℕ) (op : Op) (o : Outcome) (v : Option SessionState) → Track tx s xs → ForOn s u birth v
    → TrackIn tx (xs ++ with_shard_act (act_on tx n (OpEvent u birth nth seen op) o)) (op_in_session splits n nth seen op o v)
track_op splits tx u s xs n birth nth seen op o None t f = gone
track_op splits tx u s xs n birth nth seen op o (Some v) t f =
    track_if tx _ (is_number v n nth op && lies_in splits n op && same_option seen (lookup (◌==◌ n) v.touched)) _
    (λ e.
    let p = and_parts (is_number v n nth op && lies_in splits n op) (same_option seen (lookup (◌==◌ n) v.touched)) e in
    answered tx u v xs n birth nth seen op o (found tx s xs u birth v t f) (and_parts (is_number v n nth op) (lies_in splits n op) p.0).0)

-- ---- a going back

abbrev first_back : SessionState → ℕ → ℕ → SessionState
first_back s nth upto = record (numbered nth s) { is_whole = is_whole_now s && stands_for_back nth upto s.backs; backs = (nth, upto) ∷ s.backs }

abbrev rolled : SessionState → ℕ → ℕ → SessionState
rolled t n upto = record t { back = Some (n, upto); written = filter (λ w. not ((w.0 == n) && nat_lt upto w.1)) t.written }

-- under a number of its own
back_begins : (tx : TxId) (s : SessionState) (xs : List ShardAct) (n nth upto : ℕ) → Goes tx s xs → nth ≡ suc s.nth → Goes tx (rolled (first_back s nth upto) n upto) (xs ++ BackOn n nth upto ∷ [])
back_begins tx s xs n nth upto g i =
    let p = past not_begun xs in
    let x = BackOn n nth upto in
    let f = (g.exact).nth in
    let new : continues p n nth upto ≡ false = and_none (nth == p.nth) (goes_on_back p.back n upto) (false_from_ne_true (nth == p.nth) (λ e. absurd (let q = eqb-true nth p.nth e in omega (arith, q, i, f)))) in
    record {
      own = g.own;
      touching = g.touching;
      exact = subst (Exact (rolled (first_back s nth upto) n upto)) (sym (past_push not_begun xs x)) (record {
        nth = refl;
        back = refl;
        written = ap (filter (λ w. not ((w.0 == n) && nat_lt upto w.1))) (g.exact).written;
        backs = cond-false (continues p n nth upto) p.backs ((nth, upto) ∷ p.backs) new ∙ ap (λ l. (nth, upto) ∷ l) (g.exact).backs;
      });
      may = λ w.
          let q = and_parts (is_whole_now s) (stands_for_back nth upto s.backs) w in
          let r = and_parts s.is_whole (is_back_whole s.back s.written) q.0 in
          may_push not_begun xs x (g.may r.0)
          (or_right (continues p n nth upto) (is_back_whole p.back p.written && nat_lt p.nth nth && stands_for_back nth upto p.backs)
          (and_from (is_back_whole p.back p.written && nat_lt p.nth nth) (stands_for_back nth upto p.backs)
          (and_from (is_back_whole p.back p.written) (nat_lt p.nth nth)
          (subst (λ z. is_back_whole z p.written ≡ true) (sym (g.exact).back) (subst (λ z. is_back_whole s.back z ≡ true) (sym (g.exact).written) r.1))
          (lt-ltb p.nth nth (omega (arith, i, f))))
          (subst (λ z. stands_for_back nth upto z ≡ true) (sym (g.exact).backs) q.1)));
    }

-- on a further shard
back_continues : (tx : TxId) (s : SessionState) (xs : List ShardAct) (n nth upto : ℕ) → Goes tx s xs → ((nth == s.nth) && goes_on_back s.back n upto) ≡ true → Goes tx (rolled s n upto) (xs ++ BackOn n nth upto ∷ [])
back_continues tx s xs n nth upto g i =
    let p = past not_begun xs in
    let x = BackOn n nth upto in
    let j : continues p n nth upto ≡ true = subst (λ z. ((nth == z) && goes_on_back p.back n upto) ≡ true) (sym (g.exact).nth) (subst (λ z. ((nth == s.nth) && goes_on_back z n upto) ≡ true) (sym (g.exact).back) i) in
    record {
      own = g.own;
      touching = g.touching;
      exact = subst (Exact (rolled s n upto)) (sym (past_push not_begun xs x)) (record {
        nth = eqb-true nth s.nth (and_parts (nth == s.nth) (goes_on_back s.back n upto) i).0;
        back = refl;
        written = ap (filter (λ w. not ((w.0 == n) && nat_lt upto w.1))) (g.exact).written;
        backs = cond-true (continues p n nth upto) p.backs ((nth, upto) ∷ p.backs) j ∙ (g.exact).backs;
      });
      may = λ w. may_push not_begun xs x (g.may w) (or_left (continues p n nth upto) (is_back_whole p.back p.written && nat_lt p.nth nth && stands_for_back nth upto p.backs) j);
    }

ended_here : (tx : TxId) (s w : SessionState) (xs : List ShardAct) → Goes tx s xs → w.tx ≡ s.tx → is_touching w.phase ≡ false → (ys : List ShardAct) → Track tx w ys
ended_here tx s w xs g e f ys = over (record { reached = let q = same_serial (e ∙ g.own) in omega (arith, q); ended = λ _. f })

-- of the transaction that goes on
went_on : (tx : TxId) (s : SessionState) (xs : List ShardAct) (n nth seen upto : ℕ) (o : Outcome) → Goes tx s xs
    → TrackIn tx (xs ++ with_shard_act (act_on tx n (RollTo tx nth seen upto) o)) (back_in_session n upto o (back_for s n nth upto))
went_on tx s xs n nth seen upto o g = at (nth == suc s.nth) (nat_lt upto nth) ((nth == s.nth) && goes_on_back s.back n upto) refl refl o
  where
    own : act_on tx n (RollTo tx nth seen upto) Rolled ≡ Some (BackOn n nth upto)
    own = cond-true (tx_same tx tx) (Some (BackOn n nth upto)) None (tx_self tx)

    at : (a b c : Bool) → (nth == suc s.nth) ≡ a → ((nth == s.nth) && goes_on_back s.back n upto) ≡ c → (o : Outcome)
        → TrackIn tx (xs ++ with_shard_act (act_on tx n (RollTo tx nth seen upto) o)) (back_in_session n upto o (cond a (cond b (Some (first_back s nth upto)) None) (cond c (Some s) None)))
    at true true c e f Rolled =
        subst (λ z. TrackIn tx (xs ++ with_shard_act z) (Some (rolled (first_back s nth upto) n upto))) (sym own) (track (going (back_begins tx s xs n nth upto g (eqb-true nth (suc s.nth) e))))
    at true true c e f (Dead cause) = none_more tx xs None _ refl (track (ended_here tx s _ xs g refl refl xs))
    at true true c e f _ = gone
    at true false c e f o = gone
    at false b true e f Rolled = subst (λ z. TrackIn tx (xs ++ with_shard_act z) (Some (rolled s n upto))) (sym own) (track (going (back_continues tx s xs n nth upto g f)))
    at false b true e f (Dead cause) = none_more tx xs None _ refl (track (ended_here tx s _ xs g refl refl xs))
    at false b true e f _ = gone
    at false b false e f o = gone

no_back_of : (tx u : TxId) (n nth seen upto : ℕ) (o : Outcome) → tx_same tx u ≡ false → act_on tx n (RollTo u nth seen upto) o ≡ None
no_back_of tx u n nth seen upto Rolled e = cond-false (tx_same tx u) (Some (BackOn n nth upto)) None e
no_back_of tx u n nth seen upto _ e = refl

-- of another, which is the session's
back_aside : (tx u : TxId) (s : SessionState) (xs : List ShardAct) (n : ℕ) (o : Outcome) (v : Option SessionState) → Track tx s xs → tx_same tx u ≡ false → Back s u n o v → TrackIn tx xs v
back_aside tx u s xs n o _ t a no_back = gone
back_aside tx u s _ n _ _ (unbegun l) a (went m q f) = track (unbegun (let e = same_serial q.tx in omega (arith, l, e)))
back_aside tx u s _ n _ _ (unbegun l) a (died c m q f) = track (unbegun (let e = same_serial q.tx in omega (arith, l, e)))
back_aside tx u s xs n _ _ (going g) a (went m q f) = absurd (both_ways _ a (subst (λ z. tx_same tx z ≡ true) (sym (m.own ∙ g.own)) (tx_self tx)))
back_aside tx u s xs n _ _ (going g) a (died c m q f) = absurd (both_ways _ a (subst (λ z. tx_same tx z ≡ true) (sym (m.own ∙ g.own)) (tx_self tx)))
back_aside tx u s xs n _ (Some w) (over r) a (went m q f) = track (of_another tx u w xs (q.tx ∙ sym m.own) (let e = same_serial m.own in let k = r.reached in omega (arith, k, e)) a)
back_aside tx u s xs n _ (Some w) (over r) a (died c m q f) = track (of_another tx u w xs (q.tx ∙ sym m.own) (let e = same_serial m.own in let k = r.reached in omega (arith, k, e)) a)

-- of its own, where the session has it
back_own : (tx : TxId) (s : SessionState) (xs : List ShardAct) (n nth seen upto : ℕ) (o : Outcome) → Track tx s xs → (b : Bool) → (tx_same tx s.tx && is_touching s.phase && same_option (Some seen) (lookup (◌==◌ n) s.touched)) ≡ b
    → TrackIn tx (xs ++ with_shard_act (act_on tx n (RollTo tx nth seen upto) o)) (cond b (back_in_session n upto o (back_for s n nth upto)) None)
back_own tx s xs n nth seen upto o t false e = gone
back_own tx s _ n nth seen upto o (unbegun l) true e =
    let p = and_parts (tx_same tx s.tx && is_touching s.phase) (same_option (Some seen) (lookup (◌==◌ n) s.touched)) e in
    let q = tx_true tx s.tx (and_parts (tx_same tx s.tx) (is_touching s.phase) p.0).0 in absurd (let d = same_serial q in omega (arith, l, d))
back_own tx s xs n nth seen upto o (going g) true e = went_on tx s xs n nth seen upto o g
back_own tx s xs n nth seen upto o (over r) true e =
    let p = and_parts (tx_same tx s.tx && is_touching s.phase) (same_option (Some seen) (lookup (◌==◌ n) s.touched)) e in
    let q = and_parts (tx_same tx s.tx) (is_touching s.phase) p.0 in absurd (both_ways _ (r.ended (sym (tx_true tx s.tx q.0))) q.1)

track_back : (splits : List ℕ) (tx u : TxId) (s : SessionState) (xs : List ShardAct) (n nth seen upto : ℕ) (o : Outcome) → Track tx s xs
    → TrackIn tx (xs ++ with_shard_act (act_on tx n (RollTo u nth seen upto) o)) (session_after splits n s (RollTo u nth seen upto) o)
track_back splits tx u s xs n nth seen upto o t = at (tx_same tx u) refl
  where
    at : (b : Bool) → tx_same tx u ≡ b → TrackIn tx (xs ++ with_shard_act (act_on tx n (RollTo u nth seen upto) o)) (session_after splits n s (RollTo u nth seen upto) o)
    at true e =
        subst (λ z. TrackIn tx (xs ++ with_shard_act (act_on tx n (RollTo z nth seen upto) o)) (session_after splits n s (RollTo z nth seen upto) o)) (tx_true tx u e) (back_own tx s xs n nth seen upto o t _ refl)
    at false e = none_more tx xs (act_on tx n (RollTo u nth seen upto) o) _ (no_back_of tx u n nth seen upto o e) (back_aside tx u s xs n o _ t e (back_after splits n s u nth seen upto o))

-- ---- requests, looks and drops

-- the session's transaction is in another phase, in which it has no operations
later_phase : (tx : TxId) (s : SessionState) (xs : List ShardAct) (p : Phase) → is_touching p ≡ false → Track tx s xs → Track tx (record s { phase = p }) xs
later_phase tx s _ p e (unbegun l) = unbegun l
later_phase tx s xs p e (going g) = over (record { reached = let q = same_serial g.own in omega (arith, q); ended = λ _. e })
later_phase tx s xs p e (over r) = over (record { reached = r.reached; ended = λ _. e })

track_request : (tx : TxId) (s : SessionState) (xs : List ShardAct) (n : ℕ) (o : Outcome) → Track tx s xs → TrackIn tx xs (requested n s o)
track_request tx s xs n Asked t = track (later_phase tx s xs _ refl t)
track_request tx s xs n (Dead c) t = track (later_phase tx s xs _ refl t)
track_request tx s xs n _ t = gone

track_look : (tx : TxId) (s : SessionState) (xs : List ShardAct) (o : Outcome) → Track tx s xs → TrackIn tx xs (looked s o)
track_look tx s xs Acknowledged t = track (later_phase tx s xs _ refl t)
track_look tx s xs (Aborted c) t = track (later_phase tx s xs _ refl t)
track_look tx s xs _ t = gone

dropped_phase : (p : Phase) → is_touching (after_drop p) ≡ false
dropped_phase Touching = refl
dropped_phase Ended = refl
dropped_phase (Standing home) = refl
dropped_phase Told = refl
dropped_phase Refused = refl

track_next : (splits : List ℕ) (tx : TxId) (s : SessionState) (xs : List ShardAct) (n : ℕ) (e : Event) (o : Outcome) → Track tx s xs → TrackIn tx (xs ++ with_shard_act (act_on tx n e o)) (session_after splits n s e o)
track_next splits tx s xs n (OpEvent u birth nth seen op) o t = track_op splits tx u s xs n birth nth seen op o (session_for s u birth) t (on_by s u birth (tx_same u s.tx) refl)
track_next splits tx s xs n (RollTo u nth seen upto) o t = track_back splits tx u s xs n nth seen upto o t
track_next splits tx s xs n (RequestEvent u ts) o t = none_more tx xs None _ refl (track_if tx xs _ _ (λ _. track_request tx s xs n o t))
track_next splits tx s xs n (Look u) o t = none_more tx xs None _ refl (track_if tx xs _ _ (λ _. track_look tx s xs o t))
track_next splits tx s xs n (Drop u) o t = none_more tx xs None _ refl (track_if tx xs _ _ (λ _. track (later_phase tx s xs _ (dropped_phase s.phase) t)))
track_next splits tx s xs n _ o t = none_more tx xs None _ refl (track t)

-- ---- along a session

acts_next : (tx : TxId) (z : Placed) (zs : List Placed) → shard_acts_in tx (z ∷ zs) ≡ with_shard_act (act_on tx z.0 (z.1).event (z.1).outcome) ++ shard_acts_in tx zs
acts_next tx z zs = at (act_on tx z.0 (z.1).event (z.1).outcome)
  where
    at : (o : Option ShardAct) → (elim o as (λ _. List ShardAct) [ Some x ↦ x ∷ shard_acts_in tx zs | None ↦ shard_acts_in tx zs ]) ≡ with_shard_act o ++ shard_acts_in tx zs
    at None = refl
    at (Some x) = refl

-- an operation of one that can't work any more finds no session
over_op : (tx : TxId) (s : SessionState) (u : TxId) (birth : Birth) (v : Option SessionState) → Over tx s → tx ≡ u → ForOn s u birth v → v ≡ None
over_op tx s u birth None r e f = refl
over_op tx s u birth (Some _) r e (same_on q h) = absurd (both_ways _ (r.ended (sym q ∙ sym e)) h)
over_op tx s u birth (Some _) r e (new_on k) = absurd (let d = same_serial e in let l = r.reached in omega (arith, k, d, l))

idle_op : (splits : List ℕ) (tx u : TxId) (s : SessionState) (n : ℕ) (birth : Birth) (nth : ℕ) (seen : Option ℕ) (op : Op) (o : Outcome) (zs : List Placed) → Over tx s
    → makes_from splits (op_in_session splits n nth seen op o (session_for s u birth)) zs ≡ true → act_on tx n (OpEvent u birth nth seen op) o ≡ None
idle_op splits tx u s n birth nth seen op o zs r h = at (tx_same tx u) refl
  where
    at : (b : Bool) → tx_same tx u ≡ b → act_on tx n (OpEvent u birth nth seen op) o ≡ None
    at true e =
        absurd (both_ways false refl (subst (λ z. makes_from splits (op_in_session splits n nth seen op o z) zs ≡ true)
        (over_op tx s u birth (session_for s u birth) r (tx_true tx u e) (on_by s u birth (tx_same u s.tx) refl)) h))
    at false e = no_op tx u n birth nth seen op o e

idle_back : (splits : List ℕ) (tx u : TxId) (s : SessionState) (n nth seen upto : ℕ) (o : Outcome) (v : Option SessionState) (zs : List Placed) → Over tx s → Back s u n o v → makes_from splits v zs ≡ true
    → act_on tx n (RollTo u nth seen upto) o ≡ None
idle_back splits tx u s n nth seen upto o _ zs r no_back h = absurd (both_ways false refl h)
idle_back splits tx u s n nth seen upto _ _ zs r (went m q f) h =
    no_back_of tx u n nth seen upto Rolled (apart tx u (λ e. both_ways _ (r.ended (sym m.own ∙ sym e)) m.touching))
idle_back splits tx u s n nth seen upto _ _ zs r (died c m q f) h = refl

idle : (splits : List ℕ) (tx : TxId) (s : SessionState) (n : ℕ) (e : Event) (o : Outcome) (zs : List Placed) → Over tx s → makes_from splits (session_after splits n s e o) zs ≡ true → act_on tx n e o ≡ None
idle splits tx s n (OpEvent u birth nth seen op) o zs r h = idle_op splits tx u s n birth nth seen op o zs r h
idle splits tx s n (RollTo u nth seen upto) o zs r h = idle_back splits tx u s n nth seen upto o _ zs r (back_after splits n s u nth seen upto o) h
idle splits tx s n _ o zs r h = refl

-- who can't work any more can't again
data OverIn (tx : TxId) : Option SessionState → Type 0 where
  nowhere : OverIn tx None
  still : {s : SessionState} → Over tx s → OverIn tx (Some s)

over_if : (tx : TxId) (b : Bool) (o : Option SessionState) → OverIn tx o → OverIn tx (cond b o None)
over_if tx true o k = k
over_if tx false o k = nowhere

-- the session goes on by one that isn't this transaction
beside : (tx : TxId) (w : SessionState) → tx.serial ≤ (w.tx).serial → (w.tx ≡ tx → ⊥) → Over tx w
beside tx w l k = record { reached = l; ended = λ e. absurd (k e) }

over_answered : (tx u : TxId) (s v : SessionState) (birth : Birth) (n nth : ℕ) (op : Op) (o : Outcome) → Over tx s → ForOn s u birth (Some v) → OverIn tx (op_answered n nth op v o)
over_answered tx u s _ birth n nth op (Answered a epoch) r (same_on q h) = still (beside tx _ r.reached (λ e. both_ways _ (r.ended e) h))
over_answered tx u s _ birth n nth op (Dead c) r (same_on q h) = still (beside tx _ r.reached (λ e. both_ways _ (r.ended e) h))
over_answered tx u s _ birth n nth op (Answered a epoch) r (new_on k) =
    still (beside tx _ (let l = r.reached in omega (arith, k, l)) (λ e. absurd (let d = same_serial e in let l = r.reached in omega (arith, k, l, d))))
over_answered tx u s _ birth n nth op (Dead c) r (new_on k) =
    still (beside tx _ (let l = r.reached in omega (arith, k, l)) (λ e. absurd (let d = same_serial e in let l = r.reached in omega (arith, k, l, d))))
over_answered tx u s v birth n nth op _ r f = nowhere

over_by : (splits : List ℕ) (tx u : TxId) (s : SessionState) (birth : Birth) (n nth : ℕ) (seen : Option ℕ) (op : Op) (o : Outcome) (v : Option SessionState) → Over tx s → ForOn s u birth v → OverIn tx (op_in_session splits n nth seen op o v)
over_by splits tx u s birth n nth seen op o None r f = nowhere
over_by splits tx u s birth n nth seen op o (Some v) r f =
    over_if tx (is_number v n nth op && lies_in splits n op && same_option seen (lookup (◌==◌ n) v.touched)) _ (over_answered tx u s v birth n nth op o r f)

over_back : (tx u : TxId) (s : SessionState) (n : ℕ) (o : Outcome) (v : Option SessionState) → Over tx s → Back s u n o v → OverIn tx v
over_back tx u s n o _ r no_back = nowhere
over_back tx u s n _ (Some w) r (went m q f) = still (beside tx w (let l = r.reached in let e = same_serial q.tx in omega (arith, l, e)) (λ e. both_ways _ (r.ended (sym q.tx ∙ e)) m.touching))
over_back tx u s n _ (Some w) r (died c m q f) = still (beside tx w (let l = r.reached in let e = same_serial q.tx in omega (arith, l, e)) (λ e. both_ways _ (r.ended (sym q.tx ∙ e)) m.touching))

over_phase : (tx : TxId) (s : SessionState) (p : Phase) → is_touching p ≡ false → Over tx s → Over tx (record s { phase = p })
over_phase tx s p e r = record { reached = r.reached; ended = λ _. e }

over_request : (tx : TxId) (s : SessionState) (n : ℕ) (o : Outcome) → Over tx s → OverIn tx (requested n s o)
over_request tx s n Asked r = still (over_phase tx s _ refl r)
over_request tx s n (Dead c) r = still (over_phase tx s _ refl r)
over_request tx s n _ r = nowhere

over_look : (tx : TxId) (s : SessionState) (o : Outcome) → Over tx s → OverIn tx (looked s o)
over_look tx s Acknowledged r = still (over_phase tx s _ refl r)
over_look tx s (Aborted c) r = still (over_phase tx s _ refl r)
over_look tx s _ r = nowhere

over_next : (splits : List ℕ) (tx : TxId) (s : SessionState) (n : ℕ) (e : Event) (o : Outcome) → Over tx s → OverIn tx (session_after splits n s e o)
over_next splits tx s n (OpEvent u birth nth seen op) o r = over_by splits tx u s birth n nth seen op o (session_for s u birth) r (on_by s u birth (tx_same u s.tx) refl)
over_next splits tx s n (RollTo u nth seen upto) o r = over_back tx u s n o _ r (back_after splits n s u nth seen upto o)
over_next splits tx s n (RequestEvent u ts) o r = over_if tx _ _ (over_request tx s n o r)
over_next splits tx s n (Look u) o r = over_if tx _ _ (over_look tx s o r)
over_next splits tx s n (Drop u) o r = over_if tx _ _ (still (over_phase tx s _ (dropped_phase s.phase) r))
over_next splits tx s n _ o r = still r

over_goes : (splits : List ℕ) (tx : TxId) (v : Option SessionState) (es : List Placed) {X : Type 0} → OverIn tx v → makes_from splits v es ≡ true → ((u : SessionState) → Over tx u → makes_from splits (Some u) es ≡ true → X) → X
over_goes splits tx None es nowhere h k = absurd (both_ways false refl h)
over_goes splits tx (Some u) es (still r) h k = k u r h

idle_all : (splits : List ℕ) (tx : TxId) (es : List Placed) (s : SessionState) → Over tx s → makes_from splits (Some s) es ≡ true → shard_acts_in tx es ≡ []
idle_all splits tx [] s r h = refl
idle_all splits tx (z ∷ zs) s r h =
    acts_next tx z zs ∙ ap (λ o. with_shard_act o ++ shard_acts_in tx zs) (idle splits tx s z.0 (z.1).event (z.1).outcome zs r h)
    ∙ over_goes splits tx (session_after splits z.0 s (z.1).event (z.1).outcome) zs (over_next splits tx s z.0 (z.1).event (z.1).outcome r) h (λ u q k. idle_all splits tx zs u q k)

-- ---- the request

asked_over : (tx : TxId) (s : SessionState) (n : ℕ) (o : Outcome) → tx.serial ≤ (s.tx).serial → OverIn tx (requested n s o)
asked_over tx s n Asked l = still (record { reached = l; ended = λ _. refl })
asked_over tx s n (Dead c) l = still (record { reached = l; ended = λ _. refl })
asked_over tx s n _ l = nowhere

whole_here : (tx : TxId) (s : SessionState) (xs : List ShardAct) → Track tx s xs → tx ≡ s.tx → is_touching s.phase ≡ true → is_whole_now s ≡ true → goes_whole_from not_begun xs ≡ true
whole_here tx s _ (unbegun l) e t w = absurd (let d = same_serial e in omega (arith, l, d))
whole_here tx s xs (going g) e t w =
    let q = and_parts s.is_whole (is_back_whole s.back s.written) w in
    let p = past not_begun xs in
    whole_by not_begun xs (g.may q.0) (subst (λ z. is_back_whole z p.written ≡ true) (sym (g.exact).back) (subst (λ z. is_back_whole s.back z ≡ true) (sym (g.exact).written) q.1))
whole_here tx s xs (over r) e t w = absurd (both_ways _ (r.ended (sym e)) t)

at_request : (splits : List ℕ) (tx : TxId) (s : SessionState) (xs : List ShardAct) (n : ℕ) (ts : List (ℕ × ℕ)) (o : Outcome) (zs : List Placed) → Track tx s xs → (b : Bool)
    → (tx_same tx s.tx && is_touching s.phase && is_whole_now s && same_touched ts s.touched && is_lowest n ts) ≡ b → makes_from splits (cond b (requested n s o) None) zs ≡ true
    → goes_whole_from not_begun (xs ++ shard_acts_in tx zs) ≡ true
at_request splits tx s xs n ts o zs t false e h = absurd (both_ways false refl h)
at_request splits tx s xs n ts o zs t true e h =
    let a = and_parts (tx_same tx s.tx && is_touching s.phase && is_whole_now s && same_touched ts s.touched) (is_lowest n ts) e in
    let b = and_parts (tx_same tx s.tx && is_touching s.phase && is_whole_now s) (same_touched ts s.touched) a.0 in
    let c = and_parts (tx_same tx s.tx && is_touching s.phase) (is_whole_now s) b.0 in
    let d = and_parts (tx_same tx s.tx) (is_touching s.phase) c.0 in
    let q = tx_true tx s.tx d.0 in
    let l = same_serial q in
    let none : shard_acts_in tx zs ≡ [] = over_goes splits tx (requested n s o) zs (asked_over tx s n o (omega (arith, l))) h (λ u r k. idle_all splits tx zs u r k) in
    subst (λ z. goes_whole_from not_begun (xs ++ z) ≡ true) (sym none) (subst (λ z. goes_whole_from not_begun z ≡ true) (sym (append-nil xs)) (whole_here tx s xs t q d.1 c.1))

track_goes : (splits : List ℕ) (tx : TxId) (xs : List ShardAct) (v : Option SessionState) (es : List Placed) {X : Type 0} → TrackIn tx xs v → makes_from splits v es ≡ true
    → ((u : SessionState) → Track tx u xs → makes_from splits (Some u) es ≡ true → X) → X
track_goes splits tx xs None es gone h k = absurd (both_ways false refl h)
track_goes splits tx xs (Some u) es (track t) h k = k u t h

whole_from : (splits : List ℕ) (tx : TxId) (es : List Placed) (s : SessionState) (xs : List ShardAct) (x : Placed) (ts : List (ℕ × ℕ)) → Track tx s xs → makes_from splits (Some s) es ≡ true → Among x es
    → (x.1).event ≡ RequestEvent tx ts → goes_whole_from not_begun (xs ++ shard_acts_in tx es) ≡ true
whole_from splits tx [] s xs x ts t h i e = elim i [ ]
whole_from splits tx (z ∷ zs) s xs x ts t h (inl i) e =
    let f : (z.1).event ≡ RequestEvent tx ts = ap (λ w. (w.1).event) i ∙ e in
    let h1 : makes_from splits (session_after splits z.0 s (RequestEvent tx ts) (z.1).outcome) zs ≡ true = subst (λ w. makes_from splits (session_after splits z.0 s w (z.1).outcome) zs ≡ true) f h in
    let n : act_on tx z.0 (z.1).event (z.1).outcome ≡ None = ap (λ w. act_on tx z.0 w (z.1).outcome) f in
    subst (λ l. goes_whole_from not_begun (xs ++ l) ≡ true) (sym (acts_next tx z zs ∙ ap (λ o. with_shard_act o ++ shard_acts_in tx zs) n))
    (at_request splits tx s xs z.0 ts (z.1).outcome zs t _ refl h1)
whole_from splits tx (z ∷ zs) s xs x ts t h (inr i) e =
    let o = act_on tx z.0 (z.1).event (z.1).outcome in
    subst (λ l. goes_whole_from not_begun l ≡ true) (append_assoc xs (with_shard_act o) (shard_acts_in tx zs) ∙ ap (λ l. xs ++ l) (sym (acts_next tx z zs)))
    (track_goes splits tx (xs ++ with_shard_act o) (session_after splits z.0 s (z.1).event (z.1).outcome) zs (track_next splits tx s xs z.0 (z.1).event (z.1).outcome t) h
    (λ u k g. whole_from splits tx zs u (xs ++ with_shard_act o) x ts k g i e))

first_track : (run walker : ℕ) (tx : TxId) → Track tx (no_session run walker) []
first_track run walker tx = at (cases_lt 0 tx.serial)
  where
    at : (0 < tx.serial) ⊎ (tx.serial ≤ 0) → Track tx (no_session run walker) []
    at (inl l) = unbegun l
    at (inr l) = over (record { reached = l; ended = λ _. refl })

-- ---- in a history

named : (t : TxId) (n : ℕ) (e : Event) (o : Outcome) (a : ShardAct) → act_on t n e o ≡ Some a → tx_of e ≡ Some t
named t n (OpEvent tx birth nth seen op) (Answered b epoch) a e = at (tx_same t tx) refl e
  where
    at : (c : Bool) → tx_same t tx ≡ c → cond c (Some (OnShard n nth op b)) None ≡ Some a → Some tx ≡ Some t
    at true q f = ap (λ z. Some z) (sym (tx_true t tx q))
    at false q f = absurd cc
named t n (OpEvent tx birth nth seen op) _ a e = absurd cc
named t n (RollTo tx nth seen upto) Rolled a e = at (tx_same t tx) refl e
  where
    at : (c : Bool) → tx_same t tx ≡ c → cond c (Some (BackOn n nth upto)) None ≡ Some a → Some tx ≡ Some t
    at true q f = ap (λ z. Some z) (sym (tx_true t tx q))
    at false q f = absurd cc
named t n (RollTo tx nth seen upto) _ a e = absurd cc
named t n _ o a e = absurd cc

acts_own : (w : ℕ) (tx : TxId) (h : History) → ((y : Placed) (a : ShardAct) → Among y h → act_on tx y.0 (y.1).event (y.1).outcome ≡ Some a → (y.1).walker ≡ w) → shard_acts_in tx h ≡ shard_acts_in tx (own w h)
acts_own w tx [] k = refl
acts_own w tx (y ∷ ys) k = at ((y.1).walker == w) refl (act_on tx y.0 (y.1).event (y.1).outcome) refl (acts_own w tx ys (λ z a i. k z a (inr i)))
  where
    at : (b : Bool) → ((y.1).walker == w) ≡ b → (o : Option ShardAct) → act_on tx y.0 (y.1).event (y.1).outcome ≡ o → shard_acts_in tx ys ≡ shard_acts_in tx (own w ys)
        → shard_acts_in tx (y ∷ ys) ≡ shard_acts_in tx (cond b (y ∷ own w ys) (own w ys))
    at true e o f ih = acts_next tx y ys ∙ ap (λ l. with_shard_act (act_on tx y.0 (y.1).event (y.1).outcome) ++ l) ih ∙ sym (acts_next tx y (own w ys))
    at false e None f ih = acts_next tx y ys ∙ ap (λ o. with_shard_act o ++ shard_acts_in tx ys) f ∙ ih
    at false e (Some a) f ih = absurd (both_ways _ e (eq-eqb (y.1).walker w (k y a (inl refl) f)))

pub requests_go_whole : RequestsGoWhole
requests_go_whole splits before h after home r tx ts l i e o =
    let x : Placed = (home, r) in
    let j = is_among home r h i in
    let p = together splits before after h x x tx l j j (ap tx_of e) (ap tx_of e) in
    let q = walker_of splits before after h x tx l j (ap tx_of e) in
    let same = acts_own r.walker tx h (λ y a k f. sym (walker_of splits before after h y tx l k (named tx y.0 (y.1).event (y.1).outcome a f)).1 ∙ q.1) in
    subst (λ z. goes_whole z ≡ true) (sym same) (whole_from splits tx (own r.walker h) (no_session (run_after before) r.walker) [] x ts (first_track (run_after before) r.walker tx) p.session p.first e)
