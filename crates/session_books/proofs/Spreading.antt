-- The rows of a history are those of its walkers' parts, in another order.
use Rattle.std.proofs.Common.{◌≡◌, ◌⊎◌, inl, inr, ⊎_elim, refl, sym, ap, ap₂, subst, ◌∙◌, ℕ, zero, suc, ◌+◌, ◌<◌, ◌≤◌, Bool, true, false, cond, ◌==◌, List, [], ◌∷◌, ◌++◌, Option, Some, None, arith, append_assoc, eqb-true, eq-eqb}
use Rattle.std.specs.List.Sorted.{IsPermutation}
use Rattle.std.proofs.lemmas.Bool.{both_ways, cases_Bool, cases_lt, ne_eqb, false_from_ne_true}
use Rattle.std.proofs.lemmas.List.Sorted.{IsPermutation-refl, IsPermutation-trans, IsPermutation-append_comm, IsPermutation-append_left, IsPermutation-append_right}
use Rattle.clv_base.specs.declared.names.TxId.{TxId}
use Rattle.clv_base.specs.declared.events.Event.{Event}
use Rattle.clv_base.specs.declared.events.Event.TheVariants.{Request}
use Rattle.clv_base.specs.declared.events.Outcome.{Outcome}
use Rattle.clv_base.specs.declared.events.Outcome.TheVariants.{Asked}
use Rattle.clv_base.specs.Journals.{History}
use Rattle.clv_base.specs.History.{acknowledged_in, request_of}
use Rattle.clv_base.specs.Sessions.{is_of_session}
use Rattle.history_cases.proofs.Merging.{Placed, Among}
use Rattle.session_books.specs.declared.books.Row.{Row}
use Rattle.session_books.specs.Told.{told_in}
use Rattle.session_books.specs.Books.{whole_ops, row_at, rows_in, rows}
use Rattle.session_books.specs.Laws.{session_part}
use Rattle.session_books.proofs.EntriesAreTheirWalkers.{IsOfWalker, AreTheirs}
use Rattle.session_books.proofs.Parting.{part_cons, part_is_its, told_of_part, acknowledged_of_part}

same_one : {A : Type 0} {a b : A} → Some a ≡ Some b → a ≡ b
same_one e = cc

-- ---- a walker's rows, by its part alone

asked_there : (w : ℕ) (e : Event) (o : Outcome) (t : TxId) → IsOfWalker w e → request_of e o ≡ Some t → t.session ≡ w
asked_there w (Request tx touched) Asked t i e = subst (λ u. u.session ≡ w) (same_one e) i
asked_there w (Request tx touched) _ t i e = absurd cc
asked_there w _ o t i e = absurd cc

row_alike : (g h : History) (e : Placed) (o : Option TxId) → ((t : TxId) → o ≡ Some t → (acknowledged_in g t ≡ acknowledged_in h t) × (told_in t g ≡ told_in t h)) → row_at g e o ≡ row_at h e o
row_alike g h e None k = refl
row_alike g h e (Some t) k =
    ap₂ (λ b ts. cond b (record { tx = t; point = record { stamp = (e.1).stamp; shard = e.0 }; ops = whole_ops ts } ∷ []) []) (k t refl).0 (k t refl).1

rows_alike : (w : ℕ) (h es : History) → AreTheirs h → ((x : Placed) → Among x es → IsOfWalker w (x.1).event) → rows_in (session_part w h) es ≡ rows_in h es
rows_alike w h [] a k = refl
rows_alike w h (e ∷ es) a k =
    ap₂ (λ (rs qs : List Row). rs ++ qs)
    (row_alike (session_part w h) h e (request_of (e.1).event (e.1).outcome)
    (λ t s. let n = asked_there w (e.1).event (e.1).outcome t (k e (inl refl)) s in (acknowledged_of_part w h a t n, told_of_part w h a t n)))
    (rows_alike w h es a (λ x m. k x (inr m)))

pub rows_of_part : (w : ℕ) (h : History) → AreTheirs h → rows (session_part w h) ≡ rows_in h (session_part w h)
rows_of_part w h a = rows_alike w h (session_part w h) a (part_is_its w h a)

-- ---- the rows of so many walkers from one on

abbrev pub spread : History → ℕ → ℕ → History → List Row
spread h w zero es = []
spread h w (suc k) es = rows_in h (session_part w es) ++ spread h (suc w) k es

no_row : (h : History) (e : Placed) → is_of_session (e.1).event ≡ false → row_at h e (request_of (e.1).event (e.1).outcome) ≡ []
no_row h e n = ap (row_at h e) (none (e.1).event (e.1).outcome n)
  where
    none : (ev : Event) (o : Outcome) → is_of_session ev ≡ false → request_of ev o ≡ None
    none (Request tx touched) o n = absurd (both_ways false refl (sym n))
    none _ o n = refl

row_of_own : (h : History) (w : ℕ) (e : Placed) (es : History) → ((e.1).walker == w) ≡ true
    → rows_in h (session_part w (e ∷ es)) ≡ row_at h e (request_of (e.1).event (e.1).outcome) ++ rows_in h (session_part w es)
row_of_own h w e es f = ap (rows_in h) (part_cons w e es) ∙ at ((e.1).walker == w) (is_of_session (e.1).event) f refl
  where
    at :
        (b c : Bool) → b ≡ true → is_of_session (e.1).event ≡ c
        → rows_in h (cond b (cond c (e ∷ session_part w es) (session_part w es)) (session_part w es)) ≡ row_at h e (request_of (e.1).event (e.1).outcome) ++ rows_in h (session_part w es)
    at true true f g = refl
    at true false f g = ap (λ (rs : List Row). rs ++ rows_in h (session_part w es)) (sym (no_row h e g))
    at false c f g = absurd (both_ways false refl f)

pub part_of_other : (w : ℕ) (e : Placed) (es : History) → ((e.1).walker == w) ≡ false → session_part w (e ∷ es) ≡ session_part w es
part_of_other w e es f = part_cons w e es ∙ ap (λ b. cond b (cond (is_of_session (e.1).event) (e ∷ session_part w es) (session_part w es)) (session_part w es)) f

none_there : (h : History) (w k : ℕ) (e : Placed) (es : History) → (((e.1).walker < w) ⊎ (w + k ≤ (e.1).walker)) → spread h w k (e ∷ es) ≡ spread h w k es
none_there h w zero e es o = refl
none_there h w (suc k) e es o =
    ap₂ (λ (rs qs : List Row). rs ++ qs) (ap (rows_in h) (part_of_other w e es (apart o))) (none_there h (suc w) k e es (⊎_elim (λ l. inl (omega arith)) (λ g. inr (omega arith)) o))
  where
    apart : (((e.1).walker < w) ⊎ (w + suc k ≤ (e.1).walker)) → ((e.1).walker == w) ≡ false
    apart (inl l) = ne_eqb _ _ (λ s. omega arith)
    apart (inr g) = ne_eqb _ _ (λ s. omega arith)

pub above : (v w : ℕ) → w ≤ v → (v == w) ≡ false → suc w ≤ v
above v w l f = ⊎_elim (λ g. omega arith) (λ g. absurd (both_ways (v == w) f (eq-eqb v w (omega arith)))) (cases_lt w v)

-- one more in front goes between
between : (rs as_ bs cs : List Row) → IsPermutation (rs ++ bs) cs → IsPermutation (rs ++ (as_ ++ bs)) (as_ ++ cs)
between rs as_ bs cs p =
    IsPermutation-trans (rs ++ (as_ ++ bs)) (as_ ++ (rs ++ bs)) (as_ ++ cs)
    (subst (λ l. IsPermutation l (as_ ++ (rs ++ bs))) (append_assoc rs as_ bs)
    (subst (IsPermutation (rs ++ as_ ++ bs)) (append_assoc as_ rs bs) (IsPermutation-append_left bs (rs ++ as_) (as_ ++ rs) (IsPermutation-append_comm rs as_))))
    (IsPermutation-append_right as_ (rs ++ bs) cs p)

own_first : (h : History) (w k : ℕ) (e : Placed) (es : History) → ((e.1).walker == w) ≡ true
    → IsPermutation (row_at h e (request_of (e.1).event (e.1).outcome) ++ spread h w (suc k) es) (spread h w (suc k) (e ∷ es))
own_first h w k e es f =
    let row = row_at h e (request_of (e.1).event (e.1).outcome) in
    let same : (e.1).walker ≡ w = eqb-true _ _ f in
    subst (IsPermutation (row ++ spread h w (suc k) es))
    (sym
    (ap₂ (λ (rs qs : List Row). rs ++ qs) (row_of_own h w e es f) (none_there h (suc w) k e es (inl (omega arith)))
    ∙ append_assoc row (rows_in h (session_part w es)) (spread h (suc w) k es)))
    (IsPermutation-refl (row ++ spread h w (suc k) es))

other_first : (h : History) (w k : ℕ) (e : Placed) (es : History) → ((e.1).walker == w) ≡ false
    → IsPermutation (row_at h e (request_of (e.1).event (e.1).outcome) ++ spread h (suc w) k es) (spread h (suc w) k (e ∷ es))
    → IsPermutation (row_at h e (request_of (e.1).event (e.1).outcome) ++ spread h w (suc k) es) (spread h w (suc k) (e ∷ es))
other_first h w k e es f p =
    let row = row_at h e (request_of (e.1).event (e.1).outcome) in
    subst (λ l. IsPermutation (row ++ spread h w (suc k) es) (l ++ spread h (suc w) k (e ∷ es))) (sym (ap (rows_in h) (part_of_other w e es f)))
    (between row (rows_in h (session_part w es)) (spread h (suc w) k es) (spread h (suc w) k (e ∷ es)) p)

one_there : (h : History) (w k : ℕ) (e : Placed) (es : History) → w ≤ (e.1).walker → (e.1).walker < w + k
    → IsPermutation (row_at h e (request_of (e.1).event (e.1).outcome) ++ spread h w k es) (spread h w k (e ∷ es))
one_there h w zero e es l g = absurd (omega arith)
one_there h w (suc k) e es l g =
    ⊎_elim
    (λ f. own_first h w k e es f)
    (λ f. other_first h w k e es f (one_there h (suc w) k e es (above (e.1).walker w l f) (omega arith)))
    (cases_Bool ((e.1).walker == w))

-- each entry that only a session makes is of one of these walkers
abbrev pub AreOf : ℕ → History → Type 0
AreOf n es = (x : Placed) → Among x es → is_of_session (x.1).event ≡ true → (1 ≤ (x.1).walker) × ((x.1).walker ≤ n)

nothing_spread : (h : History) (w k : ℕ) → spread h w k [] ≡ []
nothing_spread h w zero = refl
nothing_spread h w (suc k) = nothing_spread h (suc w) k

pub nobodys : (h : History) (n : ℕ) (e : Placed) (es : History) → AreOf n (e ∷ es) → ((e.1).walker < 1) ⊎ (1 + n ≤ (e.1).walker) → is_of_session (e.1).event ≡ false
nobodys h n e es a o = false_from_ne_true _ (λ s. let i = a e (inl refl) s in ⊎_elim (λ l. omega (arith, l, i.0)) (λ g. omega (arith, g, i.1)) o)

row_spread : (h : History) (n : ℕ) (e : Placed) (es : History) → AreOf n (e ∷ es)
    → IsPermutation (row_at h e (request_of (e.1).event (e.1).outcome) ++ spread h 1 n es) (spread h 1 n (e ∷ es))
row_spread h n e es a = ⊎_elim (λ l. out (inl l)) (λ l. ⊎_elim (λ g. one_there h 1 n e es l g) (λ g. out (inr g)) (cases_lt (e.1).walker (1 + n))) (cases_lt (e.1).walker 1)
  where
    out : ((e.1).walker < 1) ⊎ (1 + n ≤ (e.1).walker) → IsPermutation (row_at h e (request_of (e.1).event (e.1).outcome) ++ spread h 1 n es) (spread h 1 n (e ∷ es))
    out o =
        subst (λ (l : List Row). IsPermutation (l ++ spread h 1 n es) (spread h 1 n (e ∷ es))) (sym (no_row h e (nobodys h n e es a o)))
        (subst (IsPermutation (spread h 1 n es)) (sym (none_there h 1 n e es o)) (IsPermutation-refl (spread h 1 n es)))

pub rows_spread : (h : History) (n : ℕ) (es : History) → AreOf n es → IsPermutation (rows_in h es) (spread h 1 n es)
rows_spread h n [] a = subst (IsPermutation []) (sym (nothing_spread h 1 n)) (IsPermutation-refl [])
rows_spread h n (e ∷ es) a =
    let row = row_at h e (request_of (e.1).event (e.1).outcome) in
    IsPermutation-trans (row ++ rows_in h es) (row ++ spread h 1 n es) (spread h 1 n (e ∷ es))
    (IsPermutation-append_right row (rows_in h es) (spread h 1 n es) (rows_spread h n es (λ x m. a x (inr m))))
    (row_spread h n e es a)
