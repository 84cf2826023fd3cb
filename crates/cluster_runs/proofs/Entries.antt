-- A session's entries among those of a history.
use Rattle.std.proofs.Common.{◌≡◌, refl, sym, ap, ◌∙◌, subst, inl, inr, ℕ, Bool, true, false, cond, ◌==◌, eq-eqb, List, [], ◌∷◌, ◌++◌, Option, Some, None}
use Rattle.std.specs.List.{AllByRecursion}
use Rattle.std.proofs.lemmas.Bool.{both_ways}
use Rattle.clv_base.specs.declared.names.TxId.{TxId}
use Rattle.clv_base.specs.declared.events.Event.{Event}
use Rattle.clv_base.specs.declared.events.Event.TheVariants.{Op as OpEvent, RollTo, Request, Look, Drop, Send, Deliver, Remind, FlushOut, FlushIn, Stop, Restart}
use Rattle.clv_base.specs.declared.events.Outcome.{Outcome}
use Rattle.clv_base.specs.declared.events.Outcome.TheVariants.{Answered, Rolled, Acknowledged}
use Rattle.clv_base.specs.declared.events.Entry.{Entry}
use Rattle.clv_base.specs.Orders.{tx_same}
use Rattle.clv_base.specs.Maps.{Operates, GoesBack}
use Rattle.clv_base.specs.Sessions.{is_of_session}
use Rattle.clv_base.specs.Journals.{History, own}
use Rattle.clv_base.specs.History.{DoneAct, acknowledged_in, is_acknowledgement, act_of, put_act, acts_in}
use Rattle.clv_base.proofs.SameNames.{tx_true, tx_self, or_left, or_right}
use Rattle.protocol_laws.specs.SessionLaws.{tx_of}
use Rattle.history_cases.proofs.Merging.{Among}
use Rattle.script_runs.specs.Sessions.{session_entries}

-- ---- among

pub from_cond : {A : Type 0} (x y : A) (b : Bool) (ys xs : List A) → Among x (cond b (y ∷ ys) ys) → (Among x ys → Among x xs) → Among x (y ∷ xs)
from_cond x y true ys xs (inl e) f = inl e
from_cond x y true ys xs (inr m) f = inr (f m)
from_cond x y false ys xs m f = inr (f m)

pub from_session : (x : ℕ × Entry) (es : History) → Among x (session_entries es) → Among x es
from_session x [] m = m
from_session x (e ∷ es) m = from_cond x e (is_of_session (e.1).event) (session_entries es) es m (from_session x es)

pub from_own : (w : ℕ) (x : ℕ × Entry) (h : History) → Among x (own w h) → Among x h
from_own w x [] m = m
from_own w x (e ∷ es) m = from_cond x e ((e.1).walker == w) (own w es) es m (from_own w x es)

pub all_from : {A : Type 0} (P : A → Type 0) (xs : List A) → ((x : A) → Among x xs → P x) → AllByRecursion P xs
all_from P [] f = tt
all_from P (x ∷ xs) f = (f x (inl refl), all_from P xs (λ y m. f y (inr m)))

pub record Split {A : Type 0} (x : A) (xs : List A) : Type 0 where
  pub so_far : List A
  pub rest : List A
  pub whole : so_far ++ x ∷ rest ≡ xs

pub split : {A : Type 0} (x : A) (xs : List A) → Among x xs → Split x xs
split x [] m = absurd m
split x (y ∷ ys) (inl e) = record { so_far = []; rest = ys; whole = ap (λ z. z ∷ ys) (sym e) }
split x (y ∷ ys) (inr m) = let s = split x ys m in record { so_far = y ∷ s.so_far; rest = s.rest; whole = ap (λ l. y ∷ l) s.whole }

-- ---- what they tell

acknowledges : (tx : TxId) (e : Entry) → e.event ≡ Look tx → e.outcome ≡ Acknowledged → is_acknowledgement tx e.event e.outcome ≡ true
acknowledges tx e is o = ap (λ ev. is_acknowledgement tx ev e.outcome) is ∙ ap (is_acknowledgement tx (Look tx)) o ∙ tx_self tx

pub acknowledged_by : (tx : TxId) (x : ℕ × Entry) (h : History) → Among x h → (x.1).event ≡ Look tx → (x.1).outcome ≡ Acknowledged → acknowledged_in h tx ≡ true
acknowledged_by tx x [] m is o = absurd m
acknowledged_by tx x (e ∷ es) (inl same) is o =
    or_left (is_acknowledgement tx (e.1).event (e.1).outcome) (acknowledged_in es tx) (subst (λ y. is_acknowledgement tx (y.1).event (y.1).outcome ≡ true) (sym same) (acknowledges tx x.1 is o))
acknowledged_by tx x (e ∷ es) (inr m) is o = or_right (is_acknowledgement tx (e.1).event (e.1).outcome) (acknowledged_in es tx) (acknowledged_by tx x es m is o)

-- an act that it tells of is the transaction's own
none_some : {A X : Type 0} (a : A) → None ≡ Some a → X
none_some a h = absurd cc

told_by : (tx u : TxId) (b : Bool) (q p : DoneAct) → tx_same tx u ≡ b → cond b (Some q) None ≡ Some p → Some u ≡ Some tx
told_by tx u true q p same h = ap (λ t. Some t) (sym (tx_true tx u same))
told_by tx u false q p same h = none_some p h

act_is_of : (tx : TxId) (e : Event) (o : Outcome) (p : DoneAct) → act_of tx e o ≡ Some p → tx_of e ≡ Some tx
act_is_of tx (OpEvent u birth nth seen op) (Answered answer epoch) p h = told_by tx u (tx_same tx u) (nth, Operates op, Some answer) p refl h
act_is_of tx (OpEvent u birth nth seen op) _ p h = none_some p h
act_is_of tx (RollTo u nth seen upto) Rolled p h = told_by tx u (tx_same tx u) (nth, GoesBack upto, None) p refl h
act_is_of tx (RollTo u nth seen upto) _ p h = none_some p h
act_is_of tx (Request u ts) o p h = none_some p h
act_is_of tx (Look u) o p h = none_some p h
act_is_of tx (Drop u) o p h = none_some p h
act_is_of tx Send o p h = none_some p h
act_is_of tx (Deliver m stamp) o p h = none_some p h
act_is_of tx Remind o p h = none_some p h
act_is_of tx FlushOut o p h = none_some p h
act_is_of tx FlushIn o p h = none_some p h
act_is_of tx Stop o p h = none_some p h
act_is_of tx Restart o p h = none_some p h

of_session : (e : Event) (tx : TxId) → tx_of e ≡ Some tx → is_of_session e ≡ true
of_session (OpEvent u birth nth seen op) tx h = refl
of_session (RollTo u nth seen upto) tx h = refl
of_session (Request u ts) tx h = refl
of_session (Look u) tx h = refl
of_session (Drop u) tx h = refl
of_session Send tx h = none_some tx h
of_session (Deliver m stamp) tx h = none_some tx h
of_session Remind tx h = none_some tx h
of_session FlushOut tx h = none_some tx h
of_session FlushIn tx h = none_some tx h
of_session Stop tx h = none_some tx h
of_session Restart tx h = none_some tx h

abbrev with_act : Option DoneAct → List DoneAct → List DoneAct
with_act o ps = elim o [ Some p ↦ put_act p ps | None ↦ ps ]

left_out : (o : Option DoneAct) (ps : List DoneAct) → ((p : DoneAct) → o ≡ Some p → ⊥) → with_act o ps ≡ ps
left_out (Some p) ps none = absurd (none p refl)
left_out None ps none = refl

same_acts : (tx : TxId) (e : ℕ × Entry) (es fs : History) (b : Bool) → ((p : DoneAct) → act_of tx (e.1).event (e.1).outcome ≡ Some p → b ≡ true) → acts_in tx es ≡ acts_in tx fs → acts_in tx (e ∷ es) ≡ acts_in tx (cond b (e ∷ fs) fs)
same_acts tx e es fs true told same = ap (with_act (act_of tx (e.1).event (e.1).outcome)) same
same_acts tx e es fs false told same = left_out (act_of tx (e.1).event (e.1).outcome) (acts_in tx es) (λ p h. both_ways false refl (told p h)) ∙ same

pub session_acts : (tx : TxId) (es : History) → acts_in tx es ≡ acts_in tx (session_entries es)
session_acts tx [] = refl
session_acts tx (e ∷ es) = same_acts tx e es (session_entries es) (is_of_session (e.1).event) (λ p h. of_session (e.1).event tx (act_is_of tx (e.1).event (e.1).outcome p h)) (session_acts tx es)

pub own_acts : (w : ℕ) (tx : TxId) (h : History) → AllByRecursion (λ e. tx_of (e.1).event ≡ Some tx → (e.1).walker ≡ w) h → acts_in tx h ≡ acts_in tx (own w h)
own_acts w tx [] all = refl
own_acts w tx (e ∷ es) all =
    same_acts tx e es (own w es) ((e.1).walker == w) (λ p h. eq-eqb (e.1).walker w (all.0 (act_is_of tx (e.1).event (e.1).outcome p h))) (own_acts w tx es all.1)
