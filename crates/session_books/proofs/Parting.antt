-- What is read of one walker's transaction is read of the entries that only its session made.
use Rattle.std.proofs.Common.{◌≡◌, ◌⊎◌, inl, inr, refl, sym, ap, subst, ◌∙◌, ℕ, Bool, true, false, cond, ◌&&◌, ◌||◌, ◌==◌, List, [], ◌∷◌, Option, Some, None, eq-eqb, eqb-true}
use Rattle.std.specs.List.{filter, list_any}
use Rattle.std.specs.Ordering.{nat_cmp}
use Rattle.std.proofs.lemmas.Bool.{both_ways, false_from_ne_true}
use Rattle.clv_base.specs.declared.names.TxId.{TxId}
use Rattle.clv_base.specs.declared.names.Birth.{Birth}
use Rattle.clv_base.specs.declared.events.Event.{Event}
use Rattle.clv_base.specs.declared.events.Event.TheVariants.{Op as OpEvent, RollTo, Request, Look}
use Rattle.clv_base.specs.declared.events.Outcome.{Outcome}
use Rattle.clv_base.specs.declared.events.Outcome.TheVariants.{Answered, Rolled, Asked, Acknowledged}
use Rattle.clv_base.specs.Orders.{tx_same}
use Rattle.clv_base.specs.Journals.{History, own}
use Rattle.clv_base.specs.History.{is_acknowledgement, acknowledged_in, request_of, has_request}
use Rattle.clv_base.specs.Sessions.{is_of_session}
use Rattle.clv_base.proofs.SameNames.{tx_ne, nat_cmp_true, then_eq}
use Rattle.history_cases.proofs.Merging.{Placed, Among}
use Rattle.session_books.specs.Done.{Did, WentBack}
use Rattle.session_books.specs.declared.told.Told.{Told}
use Rattle.session_books.specs.Told.{told_by, with_told, told_in, is_tx, looked_by, has_look, try_of, same_birth, is_of_birth, has_birth}
use Rattle.session_books.specs.Counts.{is_acknowledged_try}
use Rattle.session_books.specs.Laws.{session_part}
use Rattle.session_books.proofs.EntriesAreTheirWalkers.{IsOfWalker, AreTheirs}

-- ---- a walker's part of a history with one more entry

pub part_cons : (w : ℕ) (e : Placed) (es : History) → session_part w (e ∷ es) ≡ cond ((e.1).walker == w) (cond (is_of_session (e.1).event) (e ∷ session_part w es) (session_part w es)) (session_part w es)
part_cons w e es = at ((e.1).walker == w)
  where
    at :
        (b : Bool)
        → filter (λ (x : Placed). is_of_session (x.1).event) (cond b (e ∷ own w es) (own w es))
        ≡ cond b (cond (is_of_session (e.1).event) (e ∷ session_part w es) (session_part w es)) (session_part w es)
    at true = refl
    at false = refl

-- it stands in the history, and is the walker's
pub part_among : (w : ℕ) (x : Placed) (es : History) → Among x (session_part w es) → Among x es × ((x.1).walker ≡ w)
part_among w x [] m = elim m [ ]
part_among w x (e ∷ es) m = at ((e.1).walker == w) (is_of_session (e.1).event) refl (λ n. part_among w x es n) (subst (Among x) (part_cons w e es) m)
  where
    later : Among x es × ((x.1).walker ≡ w) → Among x (e ∷ es) × ((x.1).walker ≡ w)
    later p = (inr p.0, p.1)

    at :
        (b c : Bool) → ((e.1).walker == w) ≡ b → (Among x (session_part w es) → Among x es × ((x.1).walker ≡ w))
        → Among x (cond b (cond c (e ∷ session_part w es) (session_part w es)) (session_part w es)) → Among x (e ∷ es) × ((x.1).walker ≡ w)
    at true true f k (inl p) = (inl p, ap (λ (z : Placed). (z.1).walker) (sym p) ∙ eqb-true _ _ f)
    at true true f k (inr n) = later (k n)
    at true false f k n = later (k n)
    at false c f k n = later (k n)

-- an entry that isn't in the part
abbrev pub IsElsewhere : ℕ → Placed → Type 0
IsElsewhere w e = (((e.1).walker == w) ≡ false) ⊎ (is_of_session (e.1).event ≡ false)

-- what is made of entries one after another is made of the part, where the others leave it as it is
pub part_makes : {A : Type 0} (made : History → A) (with : Placed → A → A) (w : ℕ) → ((e : Placed) (es : History) → made (e ∷ es) ≡ with e (made es)) → (es : History)
    → ((e : Placed) (a : A) → Among e es → IsElsewhere w e → with e a ≡ a) → made (session_part w es) ≡ made es
part_makes made with w more [] k = refl
part_makes made with w more (e ∷ es) k =
    ap made (part_cons w e es)
    ∙ at ((e.1).walker == w) (is_of_session (e.1).event) refl refl (part_makes made with w more es (λ f a m. k f a (inr m)))
    ∙ sym (more e es)
  where
    at :
        (b c : Bool) → ((e.1).walker == w) ≡ b → is_of_session (e.1).event ≡ c → made (session_part w es) ≡ made es
        → made (cond b (cond c (e ∷ session_part w es) (session_part w es)) (session_part w es)) ≡ with e (made es)
    at true true f g h = more e (session_part w es) ∙ ap (with e) h
    at true false f g h = h ∙ sym (k e (made es) (inl refl) (inr g))
    at false c f g h = h ∙ sym (k e (made es) (inl refl) (inl f))

pub part_any : (test : Placed → Bool) (w : ℕ) (es : History) → ((e : Placed) → Among e es → IsElsewhere w e → test e ≡ false) → list_any test (session_part w es) ≡ list_any test es
part_any test w es k = part_makes (list_any test) (λ e b. test e || b) w (λ e fs. refl) es (λ e b m g. ap (λ c. c || b) (k e m g))

-- ---- what other entries tell

names_apart : (t u : TxId) (v w : ℕ) → t.session ≡ w → u.session ≡ v → (v == w) ≡ false → t ≡ u → ⊥
names_apart t u v w e f n s = both_ways (v == w) n (eq-eqb v w (sym f ∙ sym (ap (λ x. x.session) s) ∙ e))

other_name : (t u : TxId) (v w : ℕ) → t.session ≡ w → u.session ≡ v → (v == w) ≡ false → tx_same t u ≡ false
other_name t u v w e f n = tx_ne t u (names_apart t u v w e f n)

name_of_other : (t u : TxId) (v w : ℕ) → t.session ≡ w → u.session ≡ v → (v == w) ≡ false → tx_same u t ≡ false
name_of_other t u v w e f n = tx_ne u t (λ s. names_apart t u v w e f n (sym s))

other_birth : (b c : Birth) (v w : ℕ) → b.session ≡ w → c.session ≡ v → (v == w) ≡ false → same_birth b c ≡ false
other_birth b c v w e f n =
    false_from_ne_true _ (λ s. both_ways (v == w) n (eq-eqb v w (sym f ∙ sym (nat_cmp_true b.session c.session (then_eq (nat_cmp b.session c.session) _ (then_eq (nat_cmp b.stamp c.stamp) _ s).1).0) ∙ e)))

abbrev Elsewhere : ℕ → ℕ → Event → Type 0
Elsewhere v w e = ((v == w) ≡ false) ⊎ (is_of_session e ≡ false)

no_session : {A : Type 0} → true ≡ false → A
no_session e = absurd (both_ways false refl (sym e))

told_elsewhere : (t : TxId) (v w : ℕ) (e : Event) (o : Outcome) (ts : List Told) → t.session ≡ w → IsOfWalker v e → Elsewhere v w e → with_told t (told_by e o) ts ≡ ts
told_elsewhere t v w (OpEvent tx birth nth seen op) (Answered answer epoch) ts n i (inl f) = ap (λ b. cond b (record { nth = nth; done = Did op answer } ∷ ts) ts) (name_of_other t tx v w n i.0 f)
told_elsewhere t v w (OpEvent tx birth nth seen op) (Answered answer epoch) ts n i (inr f) = no_session f
told_elsewhere t v w (OpEvent tx birth nth seen op) _ ts n i k = refl
told_elsewhere t v w (RollTo tx nth seen upto) Rolled ts n i (inl f) = ap (λ b. cond b (record { nth = nth; done = WentBack upto } ∷ ts) ts) (name_of_other t tx v w n i f)
told_elsewhere t v w (RollTo tx nth seen upto) Rolled ts n i (inr f) = no_session f
told_elsewhere t v w (RollTo tx nth seen upto) _ ts n i k = refl
told_elsewhere t v w _ o ts n i k = refl

acknowledged_elsewhere : (t : TxId) (v w : ℕ) (e : Event) (o : Outcome) → t.session ≡ w → IsOfWalker v e → Elsewhere v w e → is_acknowledgement t e o ≡ false
acknowledged_elsewhere t v w (Look tx) Acknowledged n i (inl f) = other_name t tx v w n i f
acknowledged_elsewhere t v w (Look tx) Acknowledged n i (inr f) = no_session f
acknowledged_elsewhere t v w (Look tx) _ n i k = refl
acknowledged_elsewhere t v w _ o n i k = refl

abbrev asks : TxId → Option TxId → Bool
asks t o = elim o [ Some u ↦ tx_same t u | None ↦ false ]

asked_elsewhere : (t : TxId) (v w : ℕ) (e : Event) (o : Outcome) → t.session ≡ w → IsOfWalker v e → Elsewhere v w e → asks t (request_of e o) ≡ false
asked_elsewhere t v w (Request tx touched) Asked n i (inl f) = other_name t tx v w n i f
asked_elsewhere t v w (Request tx touched) Asked n i (inr f) = no_session f
asked_elsewhere t v w (Request tx touched) _ n i k = refl
asked_elsewhere t v w _ o n i k = refl

looked_elsewhere : (t : TxId) (v w : ℕ) (e : Event) → t.session ≡ w → IsOfWalker v e → Elsewhere v w e → is_tx t (looked_by e) ≡ false
looked_elsewhere t v w (Look tx) n i (inl f) = other_name t tx v w n i f
looked_elsewhere t v w (Look tx) n i (inr f) = no_session f
looked_elsewhere t v w _ n i k = refl

born_elsewhere : (b : Birth) (v w : ℕ) (e : Event) → b.session ≡ w → IsOfWalker v e → Elsewhere v w e → is_of_birth b (try_of e) ≡ false
born_elsewhere b v w (OpEvent tx birth nth seen op) n i (inl f) = other_birth b birth v w n i.1 f
born_elsewhere b v w (OpEvent tx birth nth seen op) n i (inr f) = no_session f
born_elsewhere b v w _ n i k = refl

tried_elsewhere : (h : History) (b : Birth) (v w : ℕ) (e : Event) → b.session ≡ w → IsOfWalker v e → Elsewhere v w e → is_acknowledged_try h b (try_of e) ≡ false
tried_elsewhere h b v w (OpEvent tx birth nth seen op) n i (inl f) = ap (λ c. c && acknowledged_in h tx) (other_birth b birth v w n i.1 f)
tried_elsewhere h b v w (OpEvent tx birth nth seen op) n i (inr f) = no_session f
tried_elsewhere h b v w _ n i k = refl

-- ---- so the part tells the same

module _ (w : ℕ) (es : History) (theirs : AreTheirs es) where
  pub told_of_part : (t : TxId) → t.session ≡ w → told_in t (session_part w es) ≡ told_in t es
  told_of_part t n =
      part_makes (told_in t) (λ e ts. with_told t (told_by (e.1).event (e.1).outcome) ts) w (λ e fs. refl) es
      (λ e ts m k. told_elsewhere t (e.1).walker w (e.1).event (e.1).outcome ts n (theirs e m) k)

  pub acknowledged_of_part : (t : TxId) → t.session ≡ w → acknowledged_in (session_part w es) t ≡ acknowledged_in es t
  acknowledged_of_part t n =
      part_any (λ e. is_acknowledgement t (e.1).event (e.1).outcome) w es (λ e m k. acknowledged_elsewhere t (e.1).walker w (e.1).event (e.1).outcome n (theirs e m) k)

  pub requested_of_part : (t : TxId) → t.session ≡ w → has_request t (session_part w es) ≡ has_request t es
  requested_of_part t n = part_any (λ e. asks t (request_of (e.1).event (e.1).outcome)) w es (λ e m k. asked_elsewhere t (e.1).walker w (e.1).event (e.1).outcome n (theirs e m) k)

  pub looked_of_part : (t : TxId) → t.session ≡ w → has_look t (session_part w es) ≡ has_look t es
  looked_of_part t n = part_any (λ e. is_tx t (looked_by (e.1).event)) w es (λ e m k. looked_elsewhere t (e.1).walker w (e.1).event n (theirs e m) k)

  pub born_of_part : (b : Birth) → b.session ≡ w → has_birth b (session_part w es) ≡ has_birth b es
  born_of_part b n = part_any (λ e. is_of_birth b (try_of (e.1).event)) w es (λ e m k. born_elsewhere b (e.1).walker w (e.1).event n (theirs e m) k)

  pub tried_of_part : (h : History) (b : Birth) → b.session ≡ w → list_any (λ e. is_acknowledged_try h b (try_of (e.1).event)) (session_part w es) ≡ list_any (λ e. is_acknowledged_try h b (try_of (e.1).event)) es
  tried_of_part h b n = part_any (λ e. is_acknowledged_try h b (try_of (e.1).event)) w es (λ e m k. tried_elsewhere h b (e.1).walker w (e.1).event n (theirs e m) k)

  -- and each of its entries is the walker's
  pub part_is_its : (x : Placed) → Among x (session_part w es) → IsOfWalker w (x.1).event
  part_is_its x m = let p = part_among w x es m in subst (λ v. IsOfWalker v (x.1).event) p.1 (theirs x p.0)
