-- The entries of an operation on one shard.
use Rattle.std.proofs.Common.{◌≡◌, ◌∙◌, refl, sym, ap, subst, ℕ, suc, Bool, true, false, cond, ◌&&◌, ◌||◌, ◌==◌, List, [], ◌∷◌, ◌++◌, Option, Some, None, Result, Ok, Err, inl, inr, arith, eqb-true}
use Rattle.std.specs.Prelude.{◌⊎◌, ⊤}
use Rattle.std.specs.List.{AllByRecursion}
use Rattle.std.specs.Map.{lookup}
use Rattle.std.proofs.lemmas.Bool.{both_ways, and_parts}
use Rattle.clv_base.specs.declared.names.TxId.{TxId}
use Rattle.clv_base.specs.declared.names.Birth.{Birth}
use Rattle.clv_base.specs.declared.causes.AbortCause.{AbortCause}
use Rattle.clv_base.specs.declared.ops.Op.{Op as Operation}
use Rattle.clv_base.specs.declared.ops.Answer.{Answer}
use Rattle.clv_base.specs.declared.events.Event.{Event}
use Rattle.clv_base.specs.declared.events.Event.TheVariants.{Op}
use Rattle.clv_base.specs.declared.events.Outcome.{Outcome}
use Rattle.clv_base.specs.declared.events.Outcome.TheVariants.{Answered, Dead}
use Rattle.clv_base.specs.declared.events.Entry.{Entry}
use Rattle.clv_base.specs.Orders.{tx_same}
use Rattle.clv_base.specs.LogRules.{same_option}
use Rattle.clv_base.specs.Backs.{has_written}
use Rattle.clv_base.specs.Journals.{History}
use Rattle.clv_base.specs.Sessions.{SessionState, Ended, scan_shard, goes_on_scan, is_number, lies_in, is_touching, touch, numbered, with_written, goes_on, begins, begun, session_for, op_answered, op_in_session, session_after}
use Rattle.clv_base.proofs.SameNames.{tx_self}
use Rattle.cluster_turns.specs.States.{after_from, GoesOnBy}
use Rattle.cluster_turns.proofs.Laws.{ops_go_on}
use Rattle.cluster_turns.specs.CallTurns.{Turn, entry_on, entries_made}
use Rattle.cluster_turns.specs.Answers.{may_come_to, turns_of_session}
use Rattle.session_ops.specs.declared.operating.OpError.{OpError}
use Rattle.session_ops.specs.declared.operating.OpError.TheVariants.{Aborted, Down, Worn, Memory}
use Rattle.session_ops.specs.Operated.{IsAnswered, Died, ToldBy, PlacedBy, OnlyOf, answered_in}
use Rattle.session_api.proofs.Following.{IsPlain, none_leads, made_in, Among, among_one, among_none, IsOneOf, any_made, all_session, all_so}
use Rattle.law_base.proofs.Shards.{some_session as some_same, none_session as none_some}

-- ---- one entry

-- the state after an operation that was answered
abbrev pub answered_place : ℕ → ℕ → Operation → SessionState → Answer → ℕ → SessionState
answered_place n nth op p answer epoch = record (numbered nth p) { scanned = scan_shard n op; touched = touch n epoch p.touched; written = with_written n nth (has_written op answer) p.written }

-- it was answered, or the transaction died of it
abbrev pub AnsweredTo : ℕ → ℕ → Operation → SessionState → Outcome → SessionState → Type 0
AnsweredTo n nth op p o u =
    ((answer : Answer) × (epoch : ℕ) × (o ≡ Answered answer epoch) × (u ≡ answered_place n nth op p answer epoch))
    ⊎ ((cause : AbortCause) × (o ≡ Dead cause) × (u ≡ record p { nth = nth; scanned = scan_shard n op; phase = Ended }))

answered_to : (n nth : ℕ) (op : Operation) (p : SessionState) (o : Outcome) (u : SessionState) → op_answered n nth op p o ≡ Some u → AnsweredTo n nth op p o u
answered_to n nth op p (Answered answer epoch) u h = inl (answer, epoch, refl, sym (some_same (answered_place n nth op p answer epoch) u h))
answered_to n nth op p (Dead cause) u h = inr (cause, refl, sym (some_same (record p { nth = nth; scanned = scan_shard n op; phase = Ended }) u h))
answered_to n nth op p o u h = none_some u h

pub if_some : (b : Bool) (v : Option SessionState) (u : SessionState) → cond b v None ≡ Some u → (b ≡ true) × (v ≡ Some u)
if_some true v u h = (refl, h)
if_some false v u h = none_some u h

-- the operation was made: its place, and what it came to
pub record Came (splits : List ℕ) (n nth : ℕ) (op : Operation) (p : SessionState) (o : Outcome) (u : SessionState) : Type 0 where
  pub number : is_number p n nth op ≡ true
  pub lies : lies_in splits n op ≡ true
  pub to : AnsweredTo n nth op p o u

came : (splits : List ℕ) (n nth : ℕ) (seen : Option ℕ) (op : Operation) (p : SessionState) (o : Outcome) (u : SessionState) → op_in_session splits n nth seen op o (Some p) ≡ Some u → Came splits n nth op p o u
came splits n nth seen op p o u h =
    let k = if_some (is_number p n nth op && lies_in splits n op && same_option seen (lookup (◌==◌ n) p.touched)) (op_answered n nth op p o) u h in
    record { number = (and_parts _ _ (and_parts _ _ k.0).0).0; lies = (and_parts _ _ (and_parts _ _ k.0).0).1; to = answered_to n nth op p o u k.1 }

-- it is the transaction's last operation then
pub record IsBehind (n nth : ℕ) (op : Operation) (p u : SessionState) : Type 0 where
  pub tx : u.tx ≡ p.tx
  pub number : u.nth ≡ nth
  pub scanned : u.scanned ≡ scan_shard n op

pub is_behind : (n nth : ℕ) (op : Operation) (p : SessionState) (o : Outcome) (u : SessionState) → AnsweredTo n nth op p o u → IsBehind n nth op p u
is_behind n nth op p o u (inl (answer, epoch, is, s)) = record { tx = ap (λ z. z.tx) s; number = ap (λ z. z.nth) s; scanned = ap (λ z. z.scanned) s }
is_behind n nth op p o u (inr (cause, is, s)) = record { tx = ap (λ z. z.tx) s; number = ap (λ z. z.nth) s; scanned = ap (λ z. z.scanned) s }

-- ---- no second one

-- after a part on shard n no part of this operation may be made on another one of these shards
abbrev pub IsLastOn : List ℕ → ℕ → Operation → Type 0
IsLastOn splits n op = (m : ℕ) → lies_in splits m op ≡ true → goes_on_scan (scan_shard n op) (scan_shard m op) ≡ false

past_number : (m n nth : ℕ) (op : Operation) (p u : SessionState) → IsBehind n nth op p u → goes_on_scan (scan_shard n op) (scan_shard m op) ≡ false → is_number u m nth op ≡ false
past_number m n nth op p u b not_so = at (nth == suc u.nth) refl
  where
    at : (c : Bool) → (nth == suc u.nth) ≡ c → (c || ((nth == u.nth) && goes_on_scan u.scanned (scan_shard m op))) ≡ false
    at true is = let k : nth ≡ suc u.nth = eqb-true nth (suc u.nth) is in let l = b.number in absurd (let not_so : ⊥ = omega arith in not_so)
    at false is = ap (λ z. (nth == u.nth) && goes_on_scan z (scan_shard m op)) b.scanned ∙ ap (λ z. (nth == u.nth) && z) not_so ∙ and_false (nth == u.nth)
      where
        and_false : (c : Bool) → (c && false) ≡ false
        and_false true = refl
        and_false false = refl

no_op : (splits : List ℕ) (m nth : ℕ) (seen : Option ℕ) (op : Operation) (o : Outcome) (u : SessionState) → (lies_in splits m op ≡ true → is_number u m nth op ≡ false) → op_in_session splits m nth seen op o (Some u) ≡ None
no_op splits m nth seen op o u not_so = at (is_number u m nth op) (lies_in splits m op) refl refl
  where
    at : (a b : Bool) → is_number u m nth op ≡ a → lies_in splits m op ≡ b → cond (a && b && same_option seen (lookup (◌==◌ m) u.touched)) (op_answered m nth op u o) None ≡ None
    at true true is lies = absurd (both_ways (is_number u m nth op) (not_so lies) is)
    at true false is lies = refl
    at false true is lies = refl
    at false false is lies = refl

-- the transaction as a second one would find it
found_again : (u : SessionState) (tx : TxId) (birth : Birth) → u.tx ≡ tx → (session_for u tx birth ≡ None) ⊎ (session_for u tx birth ≡ Some u)
found_again u tx birth same = at (goes_on u tx birth) refl
  where
    first : session_for u tx birth ≡ cond (goes_on u tx birth) (Some u) None
    first = ap (λ b. cond b (cond (goes_on u tx birth) (Some u) None) (cond (begins u tx birth) (Some (begun u tx birth)) None)) (ap (tx_same tx) same ∙ tx_self tx)

    at : (b : Bool) → goes_on u tx birth ≡ b → (session_for u tx birth ≡ None) ⊎ (session_for u tx birth ≡ Some u)
    at true is = inr (first ∙ ap (λ b. cond b (Some u) None) is)
    at false is = inl (first ∙ ap (λ b. cond b (Some u) None) is)

no_second : (splits : List ℕ) (m n nth : ℕ) (birth : Birth) (seen : Option ℕ) (op : Operation) (o : Outcome) (p u : SessionState) → IsLastOn splits n op → IsBehind n nth op p u
    → session_after splits m u (Op p.tx birth nth seen op) o ≡ None
no_second splits m n nth birth seen op o p u last b = at (found_again u p.tx birth b.tx)
  where
    at : (session_for u p.tx birth ≡ None) ⊎ (session_for u p.tx birth ≡ Some u) → op_in_session splits m nth seen op o (session_for u p.tx birth) ≡ None
    at (inl is) = ap (op_in_session splits m nth seen op o) is
    at (inr is) = ap (op_in_session splits m nth seen op o) is ∙ no_op splits m nth seen op o u (λ lies. past_number m n nth op p u b (last m lies))

-- ---- all its turns

abbrev pub AllOf : Event → List Turn → Type 0
AllOf e ts = AllByRecursion (λ t. t.event ≡ e) ts

none_more : (splits : List ℕ) (w n nth : ℕ) (birth : Birth) (seen : Option ℕ) (op : Operation) (p u v : SessionState) (ts : List Turn) → IsLastOn splits n op → IsBehind n nth op p u → AllOf (Op p.tx birth nth seen op) ts
    → AllByRecursion (IsPlain w) ts → after_from splits (Some u) (entries_made ts) ≡ Some v → (entries_made ts ≡ []) × (v ≡ u)
none_more splits w n nth birth seen op p u v [] last b all plain h = (refl, sym (some_same u v h))
none_more splits w n nth birth seen op p u v (t ∷ ts) last b all plain h = at (none_more splits w n nth birth seen op p u v ts last b all.1 plain.1) t.made plain.0.entry h
  where
    at : (after_from splits (Some u) (entries_made ts) ≡ Some v → (entries_made ts ≡ []) × (v ≡ u)) → (m : Option Entry) → ((x : Entry) → m ≡ Some x → (x.walker ≡ w) × (x.event ≡ t.event) × (t.answer ≡ Ok x.outcome)) → after_from splits (Some u) (entry_on t.shard m ++ entries_made ts) ≡ Some v → (entry_on t.shard m ++ entries_made ts ≡ []) × (v ≡ u)
    at rest None made k = rest k
    at rest (Some x) made k =
        let none : session_after splits t.shard u x.event x.outcome ≡ None =
        ap (λ e. session_after splits t.shard u e x.outcome) ((made x refl).1 ∙ all.0) ∙ no_second splits t.shard n nth birth seen op x.outcome p u last b in
        none_leads splits (entries_made ts) v (ap (λ s. after_from splits s (entries_made ts)) (sym none) ∙ k)

-- the operation made one entry, or none
pub record OneMade (splits : List ℕ) (nth : ℕ) (op : Operation) (e : Event) (p v : SessionState) (es : History) : Type 0 where
  pub shard : ℕ
  pub entry : Entry
  pub is : es ≡ (shard, entry) ∷ []
  pub event : entry.event ≡ e
  pub came : Came splits shard nth op p entry.outcome v

pub at_most_one : (splits : List ℕ) (w nth : ℕ) (birth : Birth) (seen : Option ℕ) (op : Operation) (t p v : SessionState) (ts : List Turn) → ((n : ℕ) → lies_in splits n op ≡ true → IsLastOn splits n op) → GoesOnBy t p → is_touching p.phase ≡ true
    → p.birth ≡ Some birth → AllOf (Op p.tx birth nth seen op) ts → AllByRecursion (IsPlain w) ts → after_from splits (Some t) (entries_made ts) ≡ Some v
    → ((entries_made ts ≡ []) × (v ≡ t)) ⊎ OneMade splits nth op (Op p.tx birth nth seen op) p v (entries_made ts)
at_most_one splits w nth birth seen op t p v [] last goes touching has all plain h = inl (refl, sym (some_same t v h))
at_most_one splits w nth birth seen op t p v (x ∷ ts) last goes touching has all plain h = at (at_most_one splits w nth birth seen op t p v ts last goes touching has all.1 plain.1) x.made plain.0.entry h
  where
    entered : (y : Entry) → (y.walker ≡ w) × (y.event ≡ x.event) × (x.answer ≡ Ok y.outcome) → (m : Option SessionState) → session_after splits x.shard t y.event y.outcome ≡ m → after_from splits m (entries_made ts) ≡ Some v
        → OneMade splits nth op (Op p.tx birth nth seen op) p v ((x.shard, y) ∷ entries_made ts)
    entered y made None is k = none_leads splits (entries_made ts) v k
    entered y made (Some u) is k =
        let event : y.event ≡ Op p.tx birth nth seen op = made.1 ∙ all.0 in
        let c = came splits x.shard nth seen op p y.outcome u
        (sym (ops_go_on splits t p birth x.shard nth seen op y.outcome goes touching has) ∙ ap (λ e. session_after splits x.shard t e y.outcome) (sym event) ∙ is) in
        let rest = none_more splits w x.shard nth birth seen op p u v ts (last x.shard c.lies) (is_behind x.shard nth op p y.outcome u c.to) all.1 plain.1 k in
        record {
          shard = x.shard;
          entry = y;
          is = ap (λ l. (x.shard, y) ∷ l) rest.0;
          event = event;
          came = subst (Came splits x.shard nth op p y.outcome) (sym rest.1) c;
        }

    at : (after_from splits (Some t) (entries_made ts) ≡ Some v → ((entries_made ts ≡ []) × (v ≡ t)) ⊎ OneMade splits nth op (Op p.tx birth nth seen op) p v (entries_made ts)) → (m : Option Entry) → ((y : Entry) → m ≡ Some y → (y.walker ≡ w) × (y.event ≡ x.event) × (x.answer ≡ Ok y.outcome)) → after_from splits (Some t) (entry_on x.shard m ++ entries_made ts) ≡ Some v
        → ((entry_on x.shard m ++ entries_made ts ≡ []) × (v ≡ t)) ⊎ OneMade splits nth op (Op p.tx birth nth seen op) p v (entry_on x.shard m ++ entries_made ts)
    at rest None made k = rest k
    at rest (Some y) made k = inr (entered y (made y refl) (session_after splits x.shard t y.event y.outcome) refl k)

-- ---- what it was answered

-- its entry, by its answer
abbrev pub EntriesBy : ℕ → Event → Result Answer OpError → History → Type 0
EntriesBy n e (Ok answer) es = (x : Entry) × (epoch : ℕ) × (es ≡ (n, x) ∷ []) × (x.event ≡ e) × (x.outcome ≡ Answered answer epoch) × (may_come_to e (Answered answer epoch) ≡ true)
EntriesBy n e (Err (Aborted cause)) es = (x : Entry) × (es ≡ (n, x) ∷ []) × (x.event ≡ e) × (x.outcome ≡ Dead cause)
EntriesBy n e (Err (Down m)) es = es ≡ []
EntriesBy n e (Err (Worn at)) es = es ≡ []
EntriesBy n e (Err Memory) es = es ≡ []

-- the session goes on by this place, unless the transaction died
abbrev pub GoesUnless : Result Answer OpError → SessionState → SessionState → Type 0
GoesUnless (Ok answer) u q = GoesOnBy u q
GoesUnless (Err (Aborted cause)) u q = ⊤
GoesUnless (Err (Down m)) u q = GoesOnBy u q
GoesUnless (Err (Worn at)) u q = GoesOnBy u q
GoesUnless (Err Memory) u q = GoesOnBy u q

an_answer : (n : ℕ) (e : Event) (answer : Answer) (t : Turn) → IsAnswered n e answer t → IsOneOf n e (λ o. (epoch : ℕ) × (o ≡ Answered answer epoch)) t
an_answer n e answer t (s, k, (epoch, a)) = record { shard = s; event = k; outcome = Answered answer epoch; answer = a; loud = refl; one = (epoch, refl) }

a_death : (n : ℕ) (e : Event) (cause : AbortCause) (t : Turn) → Died n e cause t → IsOneOf n e (λ o. o ≡ Dead cause) t
a_death n e cause t (s, k, a) = record { shard = s; event = k; outcome = Dead cause; answer = a; loud = refl; one = refl }

-- the entry that an answer tells is the only one
one_entry : (n : ℕ) (x : Entry) (es : History) → ((es ≡ []) ⊎ ((m : ℕ) × (y : Entry) × (es ≡ (m, y) ∷ []))) → Among (n, x) es → es ≡ (n, x) ∷ []
one_entry n x es (inl none) a = among_none (n, x) (subst (Among (n, x)) none a)
one_entry n x es (inr (m, y, is)) a = is ∙ ap (λ z. z ∷ []) (sym (among_one (n, x) (m, y) (subst (Among (n, x)) is a)))

-- a place that is as before tells that there is none
unchanged : {X : Type 0} (splits : List ℕ) (n nth : ℕ) (op : Operation) (p u : SessionState) (o : Outcome) → IsLastOn splits n op → Came splits n nth op p o u → GoesOnBy u p → X
unchanged splits n nth op p u o last c goes = at goes (is_behind n nth op p o u c.to)
  where
    at : {X : Type 0} → GoesOnBy u p → IsBehind n nth op p u → X
    at (inl same) b = absurd (both_ways (is_number p n nth op) (ap (λ z. is_number z n nth op) same ∙ past_number n n nth op p u b (last n c.lies)) c.number)
    at (inr (birth, is, other, may)) b = absurd (both_ways (tx_same p.tx u.tx) other (ap (tx_same p.tx) b.tx ∙ tx_self p.tx))

module _ (splits : List ℕ) (w n nth : ℕ) (birth : Birth) (seen : Option ℕ) (op : Operation) (t p u : SessionState) (ts : List Turn) (each : (m : ℕ) → lies_in splits m op ≡ true → IsLastOn splits m op) (goes : GoesOnBy t p)
    (touching : is_touching p.phase ≡ true) (has : p.birth ≡ Some birth) (plain : AllByRecursion (IsPlain w) ts) (only : OnlyOf (Op p.tx birth nth seen op) ts) (leads : after_from splits (Some t) (made_in ts) ≡ Some u) where
  one_at_most : ((made_in ts ≡ []) × (u ≡ t)) ⊎ OneMade splits nth op (Op p.tx birth nth seen op) p u (made_in ts)
  one_at_most = at_most_one splits w nth birth seen op t p u (turns_of_session ts) each goes touching has (all_so (λ x. x.event ≡ Op p.tx birth nth seen op) ts only) (all_session (IsPlain w) ts plain) leads

  few : (made_in ts ≡ []) ⊎ ((m : ℕ) × (y : Entry) × (made_in ts ≡ (m, y) ∷ []))
  few = at one_at_most
    where
      at : ((made_in ts ≡ []) × (u ≡ t)) ⊎ OneMade splits nth op (Op p.tx birth nth seen op) p u (made_in ts) → (made_in ts ≡ []) ⊎ ((m : ℕ) × (y : Entry) × (made_in ts ≡ (m, y) ∷ []))
      at (inl h) = inl h.0
      at (inr o) = inr (o.shard, o.entry, o.is)

  as_before : (q : SessionState) → q ≡ p → GoesOnBy u q → made_in ts ≡ []
  as_before q same stays = at one_at_most
    where
      at : ((made_in ts ≡ []) × (u ≡ t)) ⊎ OneMade splits nth op (Op p.tx birth nth seen op) p u (made_in ts) → made_in ts ≡ []
      at (inl h) = h.0
      at (inr o) = unchanged splits o.shard nth op p u o.entry.outcome (each o.shard o.came.lies) o.came (subst (GoesOnBy u) same stays)

  pub entries_by : (q : SessionState) (r : Result Answer OpError) → ToldBy n (Op p.tx birth nth seen op) (answered_in r) ts → PlacedBy n nth op p (answered_in r) q → GoesUnless r u q
      → EntriesBy n (Op p.tx birth nth seen op) r (made_in ts)
  entries_by q (Ok answer) told place stays =
      let m = any_made w n (Op p.tx birth nth seen op) (λ o. (epoch : ℕ) × (o ≡ Answered answer epoch)) (IsAnswered n (Op p.tx birth nth seen op) answer) ts refl (an_answer n (Op p.tx birth nth seen op) answer) plain told in
      (m.made.entry, m.one.0, one_entry n m.made.entry (made_in ts) few m.made.among, m.made.event, m.made.outcome ∙ m.one.1, ap (may_come_to (Op p.tx birth nth seen op)) (sym m.one.1) ∙ m.made.fits)
  entries_by q (Err (Aborted cause)) told place stays =
      let m = any_made w n (Op p.tx birth nth seen op) (λ o. o ≡ Dead cause) (Died n (Op p.tx birth nth seen op) cause) ts refl (a_death n (Op p.tx birth nth seen op) cause) plain told in
      (m.made.entry, one_entry n m.made.entry (made_in ts) few m.made.among, m.made.event, m.made.outcome ∙ m.one)
  entries_by q (Err (Down m)) told place stays = as_before q place stays
  entries_by q (Err (Worn at)) told place stays = as_before q place stays
  entries_by q (Err Memory) told place stays = as_before q place stays
