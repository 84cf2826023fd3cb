-- The counts of a history are those of its walkers' parts, added.
use Rattle.std.proofs.Common.{◌≡◌, ◌⊎◌, inl, inr, ⊎_elim, refl, sym, ap, ap₂, subst, ◌∙◌, ℕ, zero, suc, ◌+◌, ◌<◌, ◌≤◌, Bool, true, false, cond, not, ◌&&◌, ◌||◌, ◌==◌, [], ◌∷◌, Option, Some, None, arith, eqb-true}
use Rattle.std.specs.List.{list_any}
use Rattle.std.proofs.lemmas.Bool.{both_ways, cases_Bool, cases_lt, ne_eqb}
use Rattle.clv_base.specs.declared.names.TxId.{TxId}
use Rattle.clv_base.specs.declared.names.Birth.{Birth}
use Rattle.clv_base.specs.declared.events.Event.{Event}
use Rattle.clv_base.specs.declared.events.Event.TheVariants.{Op as OpEvent}
use Rattle.clv_base.specs.Journals.{History}
use Rattle.clv_base.specs.History.{acknowledged_in}
use Rattle.clv_base.specs.Sessions.{is_of_session}
use Rattle.history_cases.proofs.Merging.{Placed, Among}
use Rattle.session_books.specs.declared.counts.Counts.{Counts}
use Rattle.session_books.specs.Told.{try_of, is_of_birth, has_birth}
use Rattle.session_books.specs.Counts.{is_acknowledged_try, has_acknowledged_try, is_open, nothing_counted, counted, count_try, counts_in}
use Rattle.session_books.specs.Laws.{session_part, plus}
use Rattle.session_books.proofs.EntriesAreTheirWalkers.{IsOfWalker, AreTheirs}
use Rattle.session_books.proofs.Parting.{part_cons, part_is_its, acknowledged_of_part, requested_of_part, looked_of_part, born_of_part, tried_of_part}
use Rattle.session_books.proofs.Spreading.{AreOf, part_of_other, above, nobodys}

same_one : {A : Type 0} {a b : A} → Some a ≡ Some b → a ≡ b
same_one e = cc

-- ---- whose a try is

pub IsTryOf : ℕ → Option (TxId × Birth) → Type 0
IsTryOf w o = (p : TxId × Birth) → o ≡ Some p → ((p.0).session ≡ w) × ((p.1).session ≡ w)

tried_there : (w : ℕ) (e : Event) → IsOfWalker w e → IsTryOf w (try_of e)
unfolding IsTryOf
tried_there w (OpEvent tx birth nth seen op) i p e = subst (λ (q : TxId × Birth). ((q.0).session ≡ w) × ((q.1).session ≡ w)) (same_one e) i
tried_there w _ i p e = absurd cc

-- ---- a walker's counts, by its part alone

any_alike : (f g : Placed → Bool) (es : History) → ((x : Placed) → Among x es → f x ≡ g x) → list_any f es ≡ list_any g es
any_alike f g [] k = refl
any_alike f g (e ∷ es) k = ap₂ (λ a b. a || b) (k e (inl refl)) (any_alike f g es (λ x m. k x (inr m)))

try_alike : (g h : History) (b : Birth) (o : Option (TxId × Birth)) → ((p : TxId × Birth) → o ≡ Some p → acknowledged_in g p.0 ≡ acknowledged_in h p.0) → is_acknowledged_try g b o ≡ is_acknowledged_try h b o
try_alike g h b None k = refl
try_alike g h b (Some p) k = ap (λ c. is_of_birth b (Some p) && c) (k p refl)

module _ (w : ℕ) (h : History) (theirs : AreTheirs h) where
  fate_alike : (b : Birth) → b.session ≡ w → has_acknowledged_try (session_part w h) b (session_part w h) ≡ has_acknowledged_try h b h
  unfolding IsTryOf
  fate_alike b n =
      any_alike (λ e. is_acknowledged_try (session_part w h) b (try_of (e.1).event)) (λ e. is_acknowledged_try h b (try_of (e.1).event)) (session_part w h)
      (λ x m. try_alike (session_part w h) h b (try_of (x.1).event) (λ p s. acknowledged_of_part w h theirs p.0 (tried_there w (x.1).event (part_is_its w h theirs x m) p s).0))
      ∙ tried_of_part w h theirs h b n

  open_alike : (t : TxId) → t.session ≡ w → is_open (session_part w h) t ≡ is_open h t
  open_alike t n = ap₂ (λ a b. a && not b) (requested_of_part w h theirs t n) (looked_of_part w h theirs t n)

  count_alike : (o : Option (TxId × Birth)) (later : History) (c : Counts) → IsTryOf w o → count_try (session_part w h) o later c ≡ count_try h o later c
  unfolding IsTryOf
  count_alike None later c i = refl
  count_alike (Some p) later c i = let n = i p refl in ap₂ (λ a u. cond (has_birth p.1 later) c (counted a u c)) (fate_alike p.1 n.1) (open_alike p.0 n.0)

  counts_alike : (es : History) → ((x : Placed) → Among x es → IsOfWalker w (x.1).event) → counts_in (session_part w h) es ≡ counts_in h es
  counts_alike [] k = refl
  counts_alike (e ∷ es) k =
      count_alike (try_of (e.1).event) es (counts_in (session_part w h) es) (tried_there w (e.1).event (k e (inl refl)))
      ∙ ap (count_try h (try_of (e.1).event) es) (counts_alike es (λ x m. k x (inr m)))

  pub counts_of_part : counts_in (session_part w h) (session_part w h) ≡ counts_in h (session_part w h)
  counts_of_part = counts_alike (session_part w h) (part_is_its w h theirs)

-- ---- the counts of so many walkers from one on

abbrev pub summed : History → ℕ → ℕ → History → Counts
summed h w zero es = nothing_counted
summed h w (suc k) es = plus (counts_in h (session_part w es)) (summed h (suc w) k es)

no_try : (h : History) (e : Placed) (later : History) (c : Counts) → is_of_session (e.1).event ≡ false → count_try h (try_of (e.1).event) later c ≡ c
no_try h e later c n = ap (λ o. count_try h o later c) (none (e.1).event n)
  where
    none : (ev : Event) → is_of_session ev ≡ false → try_of ev ≡ None
    none (OpEvent tx birth nth seen op) n = absurd (both_ways false refl (sym n))
    none _ n = refl

-- it comes later in the part where it comes later
later_alike : (h : History) (w : ℕ) (es : History) (o : Option (TxId × Birth)) (c : Counts) → AreTheirs es → IsTryOf w o → count_try h o (session_part w es) c ≡ count_try h o es c
unfolding IsTryOf
later_alike h w es None c a i = refl
later_alike h w es (Some p) c a i = ap (λ b. cond b c (counted (has_acknowledged_try h p.1 h) (is_open h p.0) c)) (born_of_part w es a p.1 (i p refl).1)

count_of_own : (h : History) (w : ℕ) (e : Placed) (es : History) → AreTheirs (e ∷ es) → ((e.1).walker == w) ≡ true
    → counts_in h (session_part w (e ∷ es)) ≡ count_try h (try_of (e.1).event) es (counts_in h (session_part w es))
count_of_own h w e es a f = ap (counts_in h) (part_cons w e es) ∙ at ((e.1).walker == w) (is_of_session (e.1).event) f refl
  where
    its : IsOfWalker w (e.1).event
    its = subst (λ v. IsOfWalker v (e.1).event) (eqb-true (e.1).walker w f) (a e (inl refl))

    at :
        (b c : Bool) → b ≡ true → is_of_session (e.1).event ≡ c
        → counts_in h (cond b (cond c (e ∷ session_part w es) (session_part w es)) (session_part w es)) ≡ count_try h (try_of (e.1).event) es (counts_in h (session_part w es))
    at true true f g = later_alike h w es (try_of (e.1).event) (counts_in h (session_part w es)) (λ x m. a x (inr m)) (tried_there w (e.1).event its)
    at true false f g = sym (no_try h e es (counts_in h (session_part w es)) g)
    at false c f g = absurd (both_ways false refl f)

none_summed : (h : History) (w k : ℕ) (e : Placed) (es : History) → (((e.1).walker < w) ⊎ (w + k ≤ (e.1).walker)) → summed h w k (e ∷ es) ≡ summed h w k es
none_summed h w zero e es o = refl
none_summed h w (suc k) e es o =
    ap₂ (λ (c d : Counts). plus c d) (ap (counts_in h) (part_of_other w e es (apart o))) (none_summed h (suc w) k e es (⊎_elim (λ l. inl (omega arith)) (λ g. inr (omega arith)) o))
  where
    apart : (((e.1).walker < w) ⊎ (w + suc k ≤ (e.1).walker)) → ((e.1).walker == w) ≡ false
    apart (inl l) = ne_eqb _ _ (λ s. omega arith)
    apart (inr g) = ne_eqb _ _ (λ s. omega arith)

-- one more counts in either part of a sum
same_counts : (a b c k l m : ℕ) → a ≡ k → b ≡ l → c ≡ m → ◌≡◌ {A = Counts} (record { acknowledged = a; unsettled = b; aborted = c }) (record { acknowledged = k; unsettled = l; aborted = m })
same_counts a b c k l m e f g = cc

counted_left : (a u : Bool) (c d : Counts) → plus (counted a u c) d ≡ counted a u (plus c d)
counted_left true u c d = same_counts _ _ _ _ _ _ (omega arith) refl refl
counted_left false true c d = same_counts _ _ _ _ _ _ refl (omega arith) refl
counted_left false false c d = same_counts _ _ _ _ _ _ refl refl (omega arith)

counted_right : (a u : Bool) (c d : Counts) → plus c (counted a u d) ≡ counted a u (plus c d)
counted_right true u c d = same_counts _ _ _ _ _ _ (omega arith) refl refl
counted_right false true c d = same_counts _ _ _ _ _ _ refl (omega arith) refl
counted_right false false c d = same_counts _ _ _ _ _ _ refl refl (omega arith)

tried_left : (h : History) (o : Option (TxId × Birth)) (later : History) (c d : Counts) → plus (count_try h o later c) d ≡ count_try h o later (plus c d)
tried_left h None later c d = refl
tried_left h (Some p) later c d = at (has_birth p.1 later)
  where
    at : (b : Bool) → plus (cond b c (counted (has_acknowledged_try h p.1 h) (is_open h p.0) c)) d ≡ cond b (plus c d) (counted (has_acknowledged_try h p.1 h) (is_open h p.0) (plus c d))
    at true = refl
    at false = counted_left (has_acknowledged_try h p.1 h) (is_open h p.0) c d

tried_right : (h : History) (o : Option (TxId × Birth)) (later : History) (c d : Counts) → plus c (count_try h o later d) ≡ count_try h o later (plus c d)
tried_right h None later c d = refl
tried_right h (Some p) later c d = at (has_birth p.1 later)
  where
    at : (b : Bool) → plus c (cond b d (counted (has_acknowledged_try h p.1 h) (is_open h p.0) d)) ≡ cond b (plus c d) (counted (has_acknowledged_try h p.1 h) (is_open h p.0) (plus c d))
    at true = refl
    at false = counted_right (has_acknowledged_try h p.1 h) (is_open h p.0) c d

one_summed : (h : History) (w k : ℕ) (e : Placed) (es : History) → AreTheirs (e ∷ es) → w ≤ (e.1).walker → (e.1).walker < w + k
    → summed h w k (e ∷ es) ≡ count_try h (try_of (e.1).event) es (summed h w k es)
one_summed h w zero e es a l g = absurd (omega arith)
one_summed h w (suc k) e es a l g =
    let its = counts_in h (session_part w es) in
    ⊎_elim
    (λ f. let same : (e.1).walker ≡ w = eqb-true _ _ f in
    ap₂ (λ (c d : Counts). plus c d) (count_of_own h w e es a f) (none_summed h (suc w) k e es (inl (omega arith)))
    ∙ tried_left h (try_of (e.1).event) es its (summed h (suc w) k es))
    (λ f. ap₂ (λ (c d : Counts). plus c d) (ap (counts_in h) (part_of_other w e es f)) (one_summed h (suc w) k e es a (above (e.1).walker w l f) (omega arith))
    ∙ tried_right h (try_of (e.1).event) es its (summed h (suc w) k es))
    (cases_Bool ((e.1).walker == w))

nothing_summed : (h : History) (w k : ℕ) → summed h w k [] ≡ nothing_counted
nothing_summed h w zero = refl
nothing_summed h w (suc k) = ap (plus nothing_counted) (nothing_summed h (suc w) k)

pub counts_summed : (h : History) (n : ℕ) (es : History) → AreTheirs es → AreOf n es → summed h 1 n es ≡ counts_in h es
counts_summed h n [] a b = nothing_summed h 1 n
counts_summed h n (e ∷ es) a b =
    here
    ∙ ap (count_try h (try_of (e.1).event) es) (counts_summed h n es (λ x m. a x (inr m)) (λ x m. b x (inr m)))
  where
    out : ((e.1).walker < 1) ⊎ (1 + n ≤ (e.1).walker) → summed h 1 n (e ∷ es) ≡ count_try h (try_of (e.1).event) es (summed h 1 n es)
    out o = none_summed h 1 n e es o ∙ sym (no_try h e es (summed h 1 n es) (nobodys h n e es b o))

    here : summed h 1 n (e ∷ es) ≡ count_try h (try_of (e.1).event) es (summed h 1 n es)
    here = ⊎_elim (λ l. out (inl l)) (λ l. ⊎_elim (λ g. one_summed h 1 n e es a l g) (λ g. out (inr g)) (cases_lt (e.1).walker (1 + n))) (cases_lt (e.1).walker 1)
