-- What a session's turns make of its state.
use Rattle.std.proofs.Common.{◌≡◌, ◌∙◌, refl, sym, ap, subst, ℕ, Bool, true, false, cond, List, [], ◌∷◌, ◌++◌, append_assoc, Option, Some, None, Ok, inl, inr}
use Rattle.std.specs.Prelude.{◌⊎◌, is_some, not, IfOk}
use Rattle.std.specs.List.{AllByRecursion}
use Rattle.std.proofs.lemmas.Bool.{both_ways}
use Rattle.clv_base.specs.declared.events.Event.{Event}
use Rattle.clv_base.specs.declared.events.Outcome.{Outcome}
use Rattle.clv_base.specs.declared.events.Entry.{Entry}
use Rattle.clv_base.specs.Journals.{History}
use Rattle.clv_base.specs.Sessions.{SessionState, no_session, session_after, is_of_session}
use Rattle.turn_lock.specs.declared.pass.Pass.{Pass}
use Rattle.machine_laws.specs.declared.notes.Note.{Note}
use Rattle.machine_laws.specs.declared.notes.Origin.{Origin}
use Rattle.cluster_turns.specs.Walkers.{kept}
use Rattle.cluster_turns.specs.States.{after_from, session_of}
use Rattle.cluster_turns.proofs.Laws.{others_leave_states, ok_same}
use Rattle.cluster_turns.specs.CallTurns.{Turn, Took, AnyTurn, IsMadeBy, entry_on, entries_made}
use Rattle.cluster_turns.specs.Answers.{is_quiet, is_kept, may_come_to, HasItsEntry, HasItsOutcome, turns_of_session}
use Rattle.cluster_turns.proofs.Laws.{kept_grows, entries_are_made, answers_have_entries, outcomes_fit}
use Rattle.law_base.proofs.Shards.{none_session as none_some}

-- ---- states

pub after_more : (splits : List ℕ) (v : Option SessionState) (es fs : History) → after_from splits v (es ++ fs) ≡ after_from splits (after_from splits v es) fs
after_more splits v [] fs = refl
after_more splits None (e ∷ es) fs = sym (none_stays fs)
  where
    none_stays : (fs : History) → after_from splits None fs ≡ None
    none_stays [] = refl
    none_stays (f ∷ fs) = refl
after_more splits (Some t) (e ∷ es) fs = after_more splits (session_after splits e.0 t (e.1).event (e.1).outcome) es fs

pub none_leads : {X : Type 0} (splits : List ℕ) (es : History) (t : SessionState) → after_from splits None es ≡ Some t → X
none_leads splits [] t h = none_some t h
none_leads splits (e ∷ es) t h = none_some t h

-- the state between two lists of entries
pub between : (splits : List ℕ) (t u : SessionState) (es fs : History) → after_from splits (Some t) (es ++ fs) ≡ Some u → (m : SessionState) × (after_from splits (Some t) es ≡ Some m) × (after_from splits (Some m) fs ≡ Some u)
between splits t u es fs h = at (after_from splits (Some t) es) refl
  where
    at : (v : Option SessionState) → after_from splits (Some t) es ≡ v → (m : SessionState) × (after_from splits (Some t) es ≡ Some m) × (after_from splits (Some m) fs ≡ Some u)
    at None is = none_leads splits fs u (ap (λ x. after_from splits x fs) (sym is) ∙ sym (after_more splits (Some t) es fs) ∙ h)
    at (Some m) is = (m, is, ap (λ x. after_from splits x fs) (sym is) ∙ sym (after_more splits (Some t) es fs) ∙ h)

-- ---- turns

-- what is known of each of a walker's turns
pub record IsPlain (w : ℕ) (t : Turn) : Type 0 where
  pub entry : IsMadeBy w t
  pub has : HasItsEntry t
  pub outcome : HasItsOutcome t

all_plain : (w : ℕ) (ts : List Turn) → AllByRecursion (IsMadeBy w) ts → AllByRecursion HasItsEntry ts → AllByRecursion HasItsOutcome ts → AllByRecursion (IsPlain w) ts
all_plain w [] a b c = tt
all_plain w (t ∷ ts) a b c = (record { entry = a.0; has = b.0; outcome = c.0 }, all_plain w ts a.1 b.1 c.1)

module _ {T : Type 0} where
  pub are_plain : (w c d : ℕ) (ps qs : List (Option (Pass T Note Origin))) (ts : List Turn) → Took w c ps ts d qs → AllByRecursion (IsPlain w) ts
  are_plain w c d ps qs ts h = all_plain w ts (entries_are_made w c d ps qs ts h) (answers_have_entries w c d ps qs ts h) (outcomes_fit w c d ps qs ts h)

pub all_before : (P : Turn → Type 0) (xs ys : List Turn) → AllByRecursion P (xs ++ ys) → AllByRecursion P xs
all_before P [] ys h = tt
all_before P (x ∷ xs) ys h = (h.0, all_before P xs ys h.1)

pub all_behind : (P : Turn → Type 0) (xs ys : List Turn) → AllByRecursion P (xs ++ ys) → AllByRecursion P ys
all_behind P [] ys h = h
all_behind P (x ∷ xs) ys h = all_behind P xs ys h.1

pub made_more : (ts us : List Turn) → entries_made (ts ++ us) ≡ entries_made ts ++ entries_made us
made_more [] us = refl
made_more (t ∷ ts) us = ap (λ l. entry_on t.shard t.made ++ l) (made_more ts us) ∙ sym (append_assoc (entry_on t.shard t.made) (entries_made ts) (entries_made us))

pub session_more : (ts us : List Turn) → turns_of_session (ts ++ us) ≡ turns_of_session ts ++ turns_of_session us
session_more [] us = refl
session_more (t ∷ ts) us = at (is_of_session t.event) (session_more ts us)
  where
    at : (b : Bool) → turns_of_session (ts ++ us) ≡ turns_of_session ts ++ turns_of_session us
        → cond b (t ∷ turns_of_session (ts ++ us)) (turns_of_session (ts ++ us)) ≡ cond b (t ∷ turns_of_session ts) (turns_of_session ts) ++ turns_of_session us
    at true rest = ap (λ l. t ∷ l) rest
    at false rest = rest

-- the entries that a session's turns made
abbrev pub made_in : List Turn → History
made_in ts = entries_made (turns_of_session ts)

pub made_in_more : (ts us : List Turn) → made_in (ts ++ us) ≡ made_in ts ++ made_in us
made_in_more ts us = ap entries_made (session_more ts us) ∙ made_more (turns_of_session ts) (turns_of_session us)

-- turn by turn
pub made_of : (t : Turn) (ts : List Turn) → is_of_session t.event ≡ true → made_in (t ∷ ts) ≡ entry_on t.shard t.made ++ made_in ts
made_of t ts is = ap (λ b. entries_made (cond b (t ∷ turns_of_session ts) (turns_of_session ts))) is

pub made_of_other : (t : Turn) (ts : List Turn) → is_of_session t.event ≡ false → made_in (t ∷ ts) ≡ made_in ts
made_of_other t ts is = ap (λ b. entries_made (cond b (t ∷ turns_of_session ts) (turns_of_session ts))) is

-- a turn of no session leaves the state
other_leaves : (splits : List ℕ) (w : ℕ) (t : Turn) (v : SessionState) (es : History) → IsMadeBy w t → is_of_session t.event ≡ false → after_from splits (Some v) (entry_on t.shard t.made ++ es) ≡ after_from splits (Some v) es
other_leaves splits w t v es made is = at t.made made
  where
    at : (m : Option Entry) → ((x : Entry) → m ≡ Some x → (x.walker ≡ w) × (x.event ≡ t.event) × (t.answer ≡ Ok x.outcome)) → after_from splits (Some v) (entry_on t.shard m ++ es) ≡ after_from splits (Some v) es
    at None made = refl
    at (Some x) made = ap (λ s. after_from splits s es) (others_leave_states splits t.shard v x.event x.outcome (ap is_of_session (made x refl).1 ∙ is))

pub session_leads : (splits : List ℕ) (w : ℕ) (ts : List Turn) (v u : SessionState) → AllByRecursion (IsPlain w) ts → after_from splits (Some v) (entries_made ts) ≡ Some u → after_from splits (Some v) (made_in ts) ≡ Some u
session_leads splits w [] v u all h = h
session_leads splits w (t ∷ ts) v u all h = at (is_of_session t.event) refl (λ x. session_leads splits w ts x u all.1)
  where
    at : (b : Bool) → is_of_session t.event ≡ b → ((x : SessionState) → after_from splits (Some x) (entries_made ts) ≡ Some u → after_from splits (Some x) (made_in ts) ≡ Some u) → after_from splits (Some v) (made_in (t ∷ ts)) ≡ Some u
    at true is rest =
        let m = between splits v u (entry_on t.shard t.made) (entries_made ts) h in
        ap (after_from splits (Some v)) (made_of t ts is) ∙ after_more splits (Some v) (entry_on t.shard t.made) (made_in ts) ∙ ap (λ x. after_from splits x (made_in ts)) m.1
        ∙ rest m.0 m.2
    at false is rest = ap (after_from splits (Some v)) (made_of_other t ts is) ∙ rest v (sym (other_leaves splits w t v (entries_made ts) all.0.entry is) ∙ h)

module _ {T : Type 0} where
  -- from a walker's state to the one after its turns
  pub turns_lead : (splits : List ℕ) (run w c d : ℕ) (ps qs : List (Option (Pass T Note Origin))) (ts : List Turn) (v u : SessionState) → Took w c ps ts d qs → session_of splits run w (kept ps) ≡ Some v
      → session_of splits run w (kept qs) ≡ Some u → after_from splits (Some v) (made_in ts) ≡ Some u
  turns_lead splits run w c d ps qs ts v u took before after =
      session_leads splits w ts v u (are_plain w c d ps qs ts took)
      (ap (λ x. after_from splits x (entries_made ts)) (sym before) ∙ sym (after_more splits (Some (no_session run w)) (kept ps) (entries_made ts))
      ∙ ap (after_from splits (Some (no_session run w))) (sym (kept_grows w c d ps qs ts took)) ∙ after)

-- ---- an entry among them

pub record Among (e : ℕ × Entry) (es : History) : Type 0 where
  pub front : History
  pub behind : History
  pub is : es ≡ front ++ e ∷ behind

pub among_one : (e f : ℕ × Entry) → Among e (f ∷ []) → e ≡ f
among_one e f a = at a.front a.is
  where
    at : (front : History) → f ∷ [] ≡ front ++ e ∷ a.behind → e ≡ f
    at [] h = cc
    at (g ∷ []) h = absurd cc
    at (g ∷ g2 ∷ gs) h = absurd cc

pub among_none : {X : Type 0} (e : ℕ × Entry) → Among e [] → X
among_none e a = at a.front a.is
  where
    at : {X : Type 0} (front : History) → ◌≡◌ {A = History} [] (front ++ e ∷ a.behind) → X
    at [] h = absurd cc
    at (g ∷ gs) h = absurd cc

pub among_first : (e f : ℕ × Entry) (es : History) → Among e (f ∷ es) → (e ≡ f) ⊎ Among e es
among_first e f es a = at a.front a.is
  where
    at : (front : History) → f ∷ es ≡ front ++ e ∷ a.behind → (e ≡ f) ⊎ Among e es
    at [] h = inl cc
    at (g ∷ gs) h = inr (record { front = gs; behind = a.behind; is = cc })

among_later : (e : ℕ × Entry) (fs es : History) → Among e es → Among e (fs ++ es)
among_later e fs es a = record { front = fs ++ a.front; behind = a.behind; is = ap (λ l. fs ++ l) a.is ∙ sym (append_assoc fs a.front (e ∷ a.behind)) }

-- a turn with this event was answered this; it made an entry
pub record MadeSo (n : ℕ) (e : Event) (o : Outcome) (es : History) : Type 0 where
  pub entry : Entry
  pub event : entry.event ≡ e
  pub outcome : entry.outcome ≡ o
  pub fits : may_come_to e o ≡ true
  pub among : Among (n, entry) es

pub is_there : (m : Option Entry) → is_some m ≡ true → (x : Entry) × (m ≡ Some x)
is_there None h = absurd (both_ways false refl h)
is_there (Some x) h = (x, refl)

pub one_made : (w : ℕ) (o : Outcome) (t : Turn) (ts : List Turn) → is_of_session t.event ≡ true → is_quiet o ≡ false → IsPlain w t → t.answer ≡ Ok o → MadeSo t.shard t.event o (made_in (t ∷ ts))
one_made w o t ts of loud plain answer =
    let there = is_there t.made (plain.has ∙ ap is_kept answer ∙ ap not loud) in
    let x = there.0 in
    let m = plain.entry x there.1 in
    record {
      entry = x;
      event = m.1;
      outcome = ok_same x.outcome o (sym m.2 ∙ answer);
      fits = subst (λ a. IfOk a (λ k. may_come_to t.event k ≡ true)) answer plain.outcome;
      among = record { front = []; behind = made_in ts; is = made_of t ts of ∙ ap (λ y. entry_on t.shard y ++ made_in ts) there.1 };
    }

later_made : (n : ℕ) (e : Event) (o : Outcome) (t : Turn) (ts : List Turn) → MadeSo n e o (made_in ts) → MadeSo n e o (made_in (t ∷ ts))
later_made n e o t ts m = at (is_of_session t.event) refl
  where
    with_it : Among (n, m.entry) (made_in (t ∷ ts)) → MadeSo n e o (made_in (t ∷ ts))
    with_it a = record { entry = m.entry; event = m.event; outcome = m.outcome; fits = m.fits; among = a }

    at : (b : Bool) → is_of_session t.event ≡ b → MadeSo n e o (made_in (t ∷ ts))
    at true is = with_it (subst (Among (n, m.entry)) (sym (made_of t ts is)) (among_later (n, m.entry) (entry_on t.shard t.made) (made_in ts) m.among))
    at false is = with_it (subst (Among (n, m.entry)) (sym (made_of_other t ts is)) m.among)

-- one of these outcomes
pub record MadeOne (n : ℕ) (e : Event) (Q : Outcome → Type 0) (es : History) : Type 0 where
  pub outcome : Outcome
  pub one : Q outcome
  pub made : MadeSo n e outcome es

-- a turn was answered one of them
pub record IsOneOf (n : ℕ) (e : Event) (Q : Outcome → Type 0) (t : Turn) : Type 0 where
  pub shard : t.shard ≡ n
  pub event : t.event ≡ e
  pub outcome : Outcome
  pub answer : t.answer ≡ Ok outcome
  pub loud : is_quiet outcome ≡ false
  pub one : Q outcome

pub any_made : (w n : ℕ) (e : Event) (Q : Outcome → Type 0) (P : Turn → Type 0) (ts : List Turn) → is_of_session e ≡ true → ((t : Turn) → P t → IsOneOf n e Q t) → AllByRecursion (IsPlain w) ts → AnyTurn P ts
    → MadeOne n e Q (made_in ts)
any_made w n e Q P [] of tells all h = absurd h
any_made w n e Q P (t ∷ ts) of tells all (inr h) =
    let m = any_made w n e Q P ts of tells all.1 h in record { outcome = m.outcome; one = m.one; made = later_made n e m.outcome t ts m.made }
any_made w n e Q P (t ∷ ts) of tells all (inl h) =
    let k = tells t h in
    record {
      outcome = k.outcome;
      one = k.one;
      made =
          subst (λ m. MadeSo m e k.outcome (made_in (t ∷ ts))) k.shard
          (subst (λ f. MadeSo t.shard f k.outcome (made_in (t ∷ ts))) k.event (one_made w k.outcome t ts (ap is_of_session k.event ∙ of) k.loud all.0 k.answer));
    }

-- ---- those of a session alone

pub all_session : (P : Turn → Type 0) (ts : List Turn) → AllByRecursion P ts → AllByRecursion P (turns_of_session ts)
all_session P [] h = tt
all_session P (t ∷ ts) h = at (is_of_session t.event) (all_session P ts h.1)
  where
    at : (b : Bool) → AllByRecursion P (turns_of_session ts) → AllByRecursion P (cond b (t ∷ turns_of_session ts) (turns_of_session ts))
    at true rest = (h.0, rest)
    at false rest = rest

-- where each turn is of no session, or is so, the session's are so
pub all_so : (P : Turn → Type 0) (ts : List Turn) → AllByRecursion (λ t. (is_of_session t.event ≡ false) ⊎ P t) ts → AllByRecursion P (turns_of_session ts)
all_so P [] h = tt
all_so P (t ∷ ts) h = at (is_of_session t.event) refl h.0 (all_so P ts h.1)
  where
    at : (b : Bool) → is_of_session t.event ≡ b → (is_of_session t.event ≡ false) ⊎ P t → AllByRecursion P (turns_of_session ts) → AllByRecursion P (cond b (t ∷ turns_of_session ts) (turns_of_session ts))
    at true is (inl other) rest = absurd (both_ways (is_of_session t.event) other is)
    at true is (inr k) rest = (k, rest)
    at false is k rest = rest
