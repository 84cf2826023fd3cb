-- Who the members of a legal history are, among its requests and among those that wrote on a shard.
use Rattle.std.proofs.Common.{◌≡◌, ◌⊎◌, inl, inr, ⊎_elim, refl, sym, ap, subst, ◌∙◌, ℕ, ◌<◌, true, false, cond, Bool, ◌&&◌, ◌||◌, arith, List, [], ◌∷◌, map, Option, Some, None}
use Rattle.std.specs.List.{filter}
use Rattle.std.proofs.lemmas.Bool.{both_ways, and_parts, and_from, or_cases, or_left, or_right}
use Rattle.clv_base.specs.declared.names.TxId.{TxId}
use Rattle.clv_base.specs.declared.logs.LogRecord.{LogRecord}
use Rattle.clv_base.specs.Orders.{tx_same, tx_in}
use Rattle.clv_base.specs.Logs.{committed_in, committed_somewhere, in_doubt}
use Rattle.clv_base.specs.LogRules.{log_of}
use Rattle.clv_base.specs.Shards.{shard_count}
use Rattle.clv_base.specs.Restarts.{run_after}
use Rattle.clv_base.specs.Journals.{History}
use Rattle.clv_base.specs.History.{Legal, Member, members, request_of, logs_left}
use Rattle.clv_base.proofs.SameNames.{tx_true, tx_self}
use Rattle.protocol_laws.specs.SessionLaws.{tx_of}
use Rattle.history_laws.specs.Openings.{LegalFrom}
use Rattle.history_laws.specs.Continuing.{serial_left}
use Rattle.history_cases.proofs.Merging.{Placed, Among}
use Rattle.history_laws.proofs.Logs.FoundLogsInOrder.{log_found}
use Rattle.history_laws.proofs.NeverTakenBack.{walker_of, one_request, is_request}
use Rattle.fate_laws.specs.Members.{is_member}
use Rattle.fate_laws.proofs.Homes.DecidedStaysDecided.{commits_are_members}
use Rattle.fate_laws.specs.Leading.{requests_of}
use Rattle.history_laws.proofs.Logs.DoubtedAreUndecided.{doubted_is_old}
use Rattle.law_base.proofs.Bools.{same_truth as same_test}
use Rattle.law_base.proofs.Logs.{is_in as counts}
use Rattle.history_laws.proofs.NeverTakenBack.LaterHistoriesHoldMembers.{member_at as as_member}

-- ---- members and requests

abbrev with_member : List (List LogRecord) → History → Placed → Option TxId → List Member → List Member
with_member logs h e o ms = elim o [ Some t ↦ cond (counts logs h e.0 t) (as_member h e t ∷ ms) ms | None ↦ ms ]

abbrev names : List Member → List TxId
names ms = map (λ m. m.tx) ms

abbrev AsksCounted : List (List LogRecord) → History → History → TxId → Type 0
AsksCounted logs h es t = (x : Placed) × Among x es × (request_of (x.1).event (x.1).outcome ≡ Some t) × (counts logs h x.0 t ≡ true)

-- a member is one whose request counts
pub asks : (logs : List (List LogRecord)) (h es : History) (t : TxId) → tx_in t (names (members logs h es)) ≡ true → AsksCounted logs h es t
asks logs h [] t i = absurd (both_ways false refl i)
asks logs h (e ∷ es) t i = at (request_of (e.1).event (e.1).outcome) refl i (asks logs h es t)
  where
    later : AsksCounted logs h es t → AsksCounted logs h (e ∷ es) t
    later k = (k.0, inr k.1, k.2, k.3)

    by : (u : TxId) (b : Bool) → counts logs h e.0 u ≡ b → request_of (e.1).event (e.1).outcome ≡ Some u → tx_in t (names (cond b (as_member h e u ∷ members logs h es) (members logs h es))) ≡ true → (tx_in t (names (members logs h es)) ≡ true → AsksCounted logs h es t) → AsksCounted logs h (e ∷ es) t
    by u true c q j k =
        ⊎_elim (λ s. let z = tx_true u t s in (e, inl refl, q ∙ ap (λ w. Some w) z, subst (λ w. counts logs h e.0 w ≡ true) z c)) (λ s. later (k s)) (or_cases (tx_same u t) (tx_in t (names (members logs h es))) j)
    by u false c q j k = later (k j)

    at : (o : Option TxId) → request_of (e.1).event (e.1).outcome ≡ o → tx_in t (names (with_member logs h e o (members logs h es))) ≡ true → (tx_in t (names (members logs h es)) ≡ true → AsksCounted logs h es t) → AsksCounted logs h (e ∷ es) t
    at None q j k = later (k j)
    at (Some u) q j k = by u (counts logs h e.0 u) refl q j k

-- and whose request counts is one
one_more : (logs : List (List LogRecord)) (h : History) (e : Placed) (o : Option TxId) (ms : List Member) (t : TxId) → tx_in t (names ms) ≡ true → tx_in t (names (with_member logs h e o ms)) ≡ true
one_more logs h e None ms t i = i
one_more logs h e (Some u) ms t i = at (counts logs h e.0 u)
  where
    at : (b : Bool) → tx_in t (names (cond b (as_member h e u ∷ ms) ms)) ≡ true
    at true = or_right (tx_same u t) _ i
    at false = i

its_own : (logs : List (List LogRecord)) (h : History) (e : Placed) (ms : List Member) (t : TxId) → counts logs h e.0 t ≡ true → tx_in t (names (with_member logs h e (Some t) ms)) ≡ true
its_own logs h e ms t c = subst (λ b. tx_in t (names (cond b (as_member h e t ∷ ms) ms)) ≡ true) (sym c) (or_left (tx_same t t) _ (tx_self t))

counted : (logs : List (List LogRecord)) (h es : History) (x : Placed) (t : TxId) → Among x es → request_of (x.1).event (x.1).outcome ≡ Some t → counts logs h x.0 t ≡ true → tx_in t (names (members logs h es)) ≡ true
counted logs h [] x t i q c = elim i [ ]
counted logs h (e ∷ es) x t (inl s) q c =
    subst (λ o. tx_in t (names (with_member logs h e o (members logs h es))) ≡ true) (sym (ap (λ (z : Placed). request_of (z.1).event (z.1).outcome) s ∙ q)) (its_own logs h e (members logs h es) t (subst (λ (z : Placed). counts logs h z.0 t ≡ true) (sym s) c))
counted logs h (e ∷ es) x t (inr i) q c = one_more logs h e (request_of (e.1).event (e.1).outcome) (members logs h es) t (counted logs h es x t i q c)

-- the members are the requests that a test picks, where it agrees with what counts
picked : (logs : List (List LogRecord)) (h es : History) (keep : TxId → Bool) → ((x : Placed) → Among x es → (t : TxId) → request_of (x.1).event (x.1).outcome ≡ Some t → counts logs h x.0 t ≡ keep t) → names (members logs h es) ≡ filter keep (requests_of es)
picked logs h [] keep k = refl
picked logs h (e ∷ es) keep k = at (request_of (e.1).event (e.1).outcome) refl (picked logs h es keep (λ x i. k x (inr i)))
  where
    by : (t : TxId) (b c : Bool) → b ≡ c → names (members logs h es) ≡ filter keep (requests_of es) → names (cond b (as_member h e t ∷ members logs h es) (members logs h es)) ≡ cond c (t ∷ filter keep (requests_of es)) (filter keep (requests_of es))
    by t true true q r = ap (λ l. t ∷ l) r
    by t true false q r = absurd (both_ways true q refl)
    by t false true q r = absurd (both_ways true (sym q) refl)
    by t false false q r = r

    at : (o : Option TxId) → request_of (e.1).event (e.1).outcome ≡ o → names (members logs h es) ≡ filter keep (requests_of es) → names (with_member logs h e o (members logs h es)) ≡ filter keep (elim o [ Some t ↦ t ∷ requests_of es | None ↦ requests_of es ])
    at None q r = r
    at (Some t) q r = by t (counts logs h e.0 t) (keep t) (k e (inl refl) t q) r

-- whose request was taken is of this run
pub request_run : (splits : List ℕ) (before after : List (List LogRecord)) (h : History) (x : Placed) (t : TxId) → Legal splits before h after → Among x h → request_of (x.1).event (x.1).outcome ≡ Some t → t.run ≡ run_after before
request_run splits before after h x t l i q = let r = is_request t (x.1).event (x.1).outcome q in (walker_of splits before after h x t l i (ap tx_of r.1)).0

abbrev pub Asks : TxId → History → Type 0
Asks t es = (x : Placed) × Among x es × (request_of (x.1).event (x.1).outcome ≡ Some t)

pub asked_by : (es : History) (t : TxId) → tx_in t (requests_of es) ≡ true → Asks t es
asked_by [] t i = absurd (both_ways false refl i)
asked_by (e ∷ es) t i = at (request_of (e.1).event (e.1).outcome) refl i (asked_by es t)
  where
    later : Asks t es → Asks t (e ∷ es)
    later k = (k.0, inr k.1, k.2)

    at : (o : Option TxId) → request_of (e.1).event (e.1).outcome ≡ o → tx_in t (elim o [ Some u ↦ u ∷ requests_of es | None ↦ requests_of es ]) ≡ true → (tx_in t (requests_of es) ≡ true → Asks t es) → Asks t (e ∷ es)
    at None q j k = later (k j)
    at (Some u) q j k = ⊎_elim (λ s. (e, inl refl, q ∙ ap (λ w. Some w) (tx_true u t s))) (λ s. later (k s)) (or_cases (tx_same u t) (tx_in t (requests_of es)) j)

-- ---- the chosen

-- of a shard: the members, whose COMMIT is left in its log, and who was in doubt in the log found and is committed in some log found
abbrev pub chosen : List ℕ → List (List LogRecord) → History → List (List LogRecord) → (ℕ → Bool) → ℕ → TxId → Bool
chosen splits before h after choice n t = is_member splits before h after choice t || committed_in (log_of (logs_left splits before h after choice) n) t || (tx_in t (in_doubt n (log_of before n)) && committed_somewhere before t)

abbrev pub Chosen : List ℕ → List (List LogRecord) → History → List (List LogRecord) → (ℕ → Bool) → ℕ → TxId → Type 0
Chosen splits before h after choice n t =
    (is_member splits before h after choice t ≡ true)
    ⊎ ((committed_in (log_of (logs_left splits before h after choice) n) t ≡ true)
    ⊎ ((tx_in t (in_doubt n (log_of before n)) ≡ true) × (committed_somewhere before t ≡ true)))

pub of_chosen : (splits : List ℕ) (before : List (List LogRecord)) (h : History) (after : List (List LogRecord)) (choice : ℕ → Bool) (n : ℕ) (t : TxId) → chosen splits before h after choice n t ≡ true → Chosen splits before h after choice n t
of_chosen splits before h after choice n t c =
    let member = is_member splits before h after choice t in
    let left = committed_in (log_of (logs_left splits before h after choice) n) t in
    let found = tx_in t (in_doubt n (log_of before n)) && committed_somewhere before t in
    ⊎_elim (λ a. ⊎_elim (λ b. inl b) (λ b. inr (inl b)) (or_cases member left a)) (λ a. inr (inr (and_parts (tx_in t (in_doubt n (log_of before n))) _ a))) (or_cases (member || left) found c)

pub is_chosen : (splits : List ℕ) (before : List (List LogRecord)) (h : History) (after : List (List LogRecord)) (choice : ℕ → Bool) (n : ℕ) (t : TxId) → Chosen splits before h after choice n t → chosen splits before h after choice n t ≡ true
is_chosen splits before h after choice n t (inl a) = or_left _ _ (or_left _ _ a)
is_chosen splits before h after choice n t (inr (inl a)) = or_left _ _ (or_right (is_member splits before h after choice t) _ a)
is_chosen splits before h after choice n t (inr (inr a)) = or_right (is_member splits before h after choice t || committed_in (log_of (logs_left splits before h after choice) n) t) _ (and_from _ _ a.0 a.1)

-- those that asked are the members
pub chosen_are_members : {splits : List ℕ} {before after : List (List LogRecord)} {h : History} → LegalFrom splits before h after → (choice : ℕ → Bool) (n : ℕ)
    → n < shard_count splits → map (λ m. m.tx) (serial_left splits before h after choice) ≡ filter (chosen splits before h after choice n) (requests_of h)
chosen_are_members {splits} {before} {after} {h} l choice n i =
    picked (logs_left splits before h after choice) h h (chosen splits before h after choice n)
    (λ x j t q. same_test (counts (logs_left splits before h after choice) h x.0 t) (chosen splits before h after choice n t) (λ c. is_chosen splits before h after choice n t (inl (counted (logs_left splits before h after choice) h h x t j q c)))
    (λ c. back x j t q (of_chosen splits before h after choice n t c)))
  where
    member : (x : Placed) → Among x h → (t : TxId) → request_of (x.1).event (x.1).outcome ≡ Some t → Chosen splits before h after choice n t → is_member splits before h after choice t ≡ true
    member x j t q (inl a) = a
    member x j t q (inr (inl a)) = commits_are_members splits before h after choice n t l i (request_run splits before after h x t l.legal j q) a
    member x j t q (inr (inr a)) =
        let k = request_run splits before after h x t l.legal j q in
        let d = doubted_is_old splits before n l.opens (log_found l n i) t a.0 in
        absurd (omega (arith, k, d))

    back : (x : Placed) → Among x h → (t : TxId) → request_of (x.1).event (x.1).outcome ≡ Some t → Chosen splits before h after choice n t → counts (logs_left splits before h after choice) h x.0 t ≡ true
    back x j t q c =
        let y = asks (logs_left splits before h after choice) h h t (member x j t q c) in
        let r = is_request t (x.1).event (x.1).outcome q in
        let s = is_request t ((y.0).1).event ((y.0).1).outcome y.2 in
        let e : x ≡ y.0 = one_request splits before after h x y.0 t r.0 s.0 l.legal j y.1 (r.1, r.2) (s.1, s.2) in
        subst (λ (z : Placed). counts (logs_left splits before h after choice) h z.0 t ≡ true) (sym e) y.3

-- a member is of this run
pub member_run : (splits : List ℕ) (before : List (List LogRecord)) (h : History) (after : List (List LogRecord)) (choice : ℕ → Bool) (t : TxId) → Legal splits before h after → is_member splits before h after choice t ≡ true → t.run ≡ run_after before
member_run splits before h after choice t l k = let y = asks (logs_left splits before h after choice) h h t k in request_run splits before after h y.0 t l y.1 y.2
