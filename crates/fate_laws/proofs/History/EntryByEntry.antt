-- A legal history, entry by entry: what is there when the next entry is made.
use Rattle.std.proofs.Common.{◌≡◌, inl, inr, ⊎_elim, refl, sym, ap, subst, ◌∙◌, ℕ, ◌<◌, true, false, Bool, List, [], ◌∷◌, ◌++◌, ◌==◌, eqb-true, append_assoc, append-nil}
use Rattle.clv_base.specs.declared.names.TxId.{TxId}
use Rattle.clv_base.specs.declared.logs.LogRecord.{LogRecord}
use Rattle.clv_base.specs.declared.events.Entry.{Entry}
use Rattle.clv_base.specs.Shards.{shard_count}
use Rattle.clv_base.specs.Logs.{committed_in}
use Rattle.clv_base.specs.LogRules.{log_of}
use Rattle.clv_base.specs.State.{Shard}
use Rattle.clv_base.specs.Restarts.{run_after, log_left}
use Rattle.clv_base.specs.Journals.{History, start_of, after_entries}
use Rattle.clv_base.specs.History.{Legal, WasSent, MessagesSent}
use Rattle.history_cases.proofs.Durability.{Counted, Fronts, fronts_entry, opened_counted}
use Rattle.history_cases.proofs.Merging.{Placed, Before, in_order, not_before_itself, before_then, Among, among_append, among_left, among_right, front_precedes, Precedes, precedes_before}
use Rattle.history_laws.proofs.NeverTakenBack.LaterHistoriesHoldMembers.{committed_front}
use Rattle.history_cases.proofs.Telling.{IsRequest}
use Rattle.history_cases.proofs.Worlds.{sent_at, state_at, Split, split_at, in_a_shard, other_journal}
use Rattle.history_laws.proofs.NeverTakenBack.{one_request}

-- what stands before an entry is in the front
precedes_right : {A : Type 0} (x y : A) (xs ys : List A) → Precedes x y ys → Precedes x y (xs ++ ys)
precedes_right x y [] ys p = p
precedes_right x y (z ∷ zs) ys p = inr (precedes_right x y zs ys p)

pub before_front : (splits : List ℕ) (before after : List (List LogRecord)) (h pre : History) (e : Placed) (post : History) (y : Placed) → Legal splits before h after → pre ++ e ∷ post ≡ h → Among y h → Before y e → Among y pre
before_front splits before after h pre e post y l q i b = ⊎_elim (λ j. j) (λ j. absurd (at j)) (among_append y pre (e ∷ post) (subst (Among y) (sym q) i))
  where
    at : Among y (e ∷ post) → ⊥
    at (inl k) = not_before_itself y e (sym k) b
    at (inr k) =
        let p : Precedes e y h = subst (Precedes e y) q (precedes_right e y pre (e ∷ post) (inl (refl, k))) in
        not_before_itself y y refl (before_then y e y b (precedes_before e y h (in_order h l.ordered) p))

-- the entry behind the history so far
pub record Next (splits : List ℕ) (before after : List (List LogRecord)) (h pre : History) (e : Placed) : Type 0 where
  pub legal : Legal splits before h after
  pub split : Split splits before after pre e
  pub among : Among e h
  pub inside : e.0 < shard_count splits
  pub sent : WasSent pre (e.1).event
  pub earlier : (y : Placed) → Among y pre → Among y h × Before y e
  pub front : (y : Placed) → Among y h → Before y e → Among y pre

pub next_at : (splits : List ℕ) (before after : List (List LogRecord)) (h pre : History) (e : Placed) (post : History) → Legal splits before h after → pre ++ e ∷ post ≡ h → Next splits before after h pre e
next_at splits before after h pre e post l q =
    let i : Among e h = subst (Among e) q (among_right e pre (e ∷ post) (inl refl)) in
    let n = in_a_shard splits before after h e l i in
    record {
      legal = l;
      split = split_at splits before after h pre e post l q n;
      among = i;
      inside = n;
      sent = sent_at [] pre e post (subst (MessagesSent []) (sym q) l.messages);
      earlier = λ y j. (
        subst (Among y) q (among_left y pre (e ∷ post) j),
        precedes_before y e h (in_order h l.ordered) (subst (Precedes y e) q (front_precedes y e pre (e ∷ post) j (inl refl))),
      );
      front = λ y j b. before_front splits before after h pre e post y l q j b;
    }

-- what holds at the start and is kept by each entry holds of the whole history
pub walk : (P : History → Type 0) (splits : List ℕ) (before after : List (List LogRecord)) (h pre post : History) → Legal splits before h after → pre ++ post ≡ h
    → ((pre : History) (e : Placed) → Next splits before after h pre e → P pre → P (pre ++ e ∷ [])) → P pre → P h
walk P splits before after h pre [] l q k p = subst P (sym (append-nil pre) ∙ q) p
walk P splits before after h pre (e ∷ post) l q k p =
    walk P splits before after h (pre ++ e ∷ []) post l (append_assoc pre (e ∷ []) post ∙ q) k (k pre e (next_at splits before after h pre e post l q) p)

pub stays_as_it_was : (before after : List (List LogRecord)) (n : ℕ) (e : Placed) (pre : History) → (e.0 == n) ≡ false → state_at before after n (pre ++ e ∷ []) ≡ state_at before after n pre
stays_as_it_was before after n e pre b = ap (after_entries (log_of after n) (start_of before n)) (other_journal n e pre b)

-- what holds of each shard, by the shard that makes the entry and the others
pub each_shard : (P : ℕ → Shard → Type 0) (before after : List (List LogRecord)) (e : Placed) (pre : History) → P e.0 (state_at before after e.0 (pre ++ e ∷ [])) → (n : ℕ) → P n (state_at before after n pre) → P n (state_at before after n (pre ++ e ∷ []))
each_shard P before after e pre here n old = at (e.0 == n) refl
  where
    at : (b : Bool) → (e.0 == n) ≡ b → P n (state_at before after n (pre ++ e ∷ []))
    at true q = subst (λ m. P m (state_at before after m (pre ++ e ∷ []))) (eqb-true e.0 n q) here
    at false q = subst (P n) (sym (stays_as_it_was before after n e pre q)) old

-- ---- who asked, and what is durable

-- a request of the transaction was taken by this shard
abbrev pub AskedIn : History → TxId → ℕ → Type 0
AskedIn pre tx n = (r : Entry) × (ts : List (ℕ × ℕ)) × Among (n, r) pre × IsRequest tx ts (n, r)

pub asked_later : (pre : History) (e : Placed) (tx : TxId) (n : ℕ) → AskedIn pre tx n → AskedIn (pre ++ e ∷ []) tx n
asked_later pre e tx n (r, ts, i, q) = (r, ts, among_left (n, r) pre (e ∷ []) i, q)

-- a transaction asks once
pub one_home : (splits : List ℕ) (before after : List (List LogRecord)) (h : History) (tx : TxId) (m n : ℕ) (q r : Entry) (ts us : List (ℕ × ℕ)) → Legal splits before h after → Among (m, q) h → IsRequest tx ts (m, q)
    → Among (n, r) h → IsRequest tx us (n, r) → m ≡ n
one_home splits before after h tx m n q r ts us l i a j b = ap (λ z. z.0) (one_request splits before after h (m, q) (n, r) tx ts us l i j a b)

pub first_request : (splits : List ℕ) (before after : List (List LogRecord)) (h pre : History) (e : Placed) (tx : TxId) (ts : List (ℕ × ℕ)) (n : ℕ) → Next splits before after h pre e → IsRequest tx ts e → AskedIn pre tx n → ⊥
first_request splits before after h pre e tx ts n w a (r, us, i, b) =
    let k = w.earlier (n, r) i in not_before_itself (n, r) e (one_request splits before after h (n, r) e tx us ts w.legal k.0 w.among b a) k.1

-- its COMMIT is durable on this shard
abbrev pub DurableIn : List (List LogRecord) → List (List LogRecord) → History → ℕ → TxId → Type 0
DurableIn before after pre n tx = committed_in (log_left (state_at before after n pre) false) tx ≡ true

-- the durable records of each shard, and where it is
pub record Counts (splits : List ℕ) (before after : List (List LogRecord)) (pre : History) : Type 0 where
  pub counted : (n : ℕ) → n < shard_count splits → Counted (state_at before after n pre)
  pub shard : (n : ℕ) → n < shard_count splits → (state_at before after n pre).shard ≡ n

pub fronts_next : (splits : List ℕ) (before after : List (List LogRecord)) (h pre : History) (e : Placed) → Next splits before after h pre e → Counts splits before after pre → Fronts (state_at before after e.0 pre) (state_at before after e.0 (pre ++ e ∷ []))
fronts_next splits before after h pre e w c = subst (Fronts (state_at before after e.0 pre)) (sym (w.split).next) (fronts_entry (log_of after e.0) (state_at before after e.0 pre) e.1 (c.counted e.0 w.inside) (w.split).enters)

pub counts_start : (splits : List ℕ) (before after : List (List LogRecord)) → Counts splits before after []
counts_start splits before after = record { counted = λ n i. opened_counted n (run_after before) (log_of before n); shard = λ n i. refl }

pub counts_next : (splits : List ℕ) (before after : List (List LogRecord)) (h pre : History) (e : Placed) → Next splits before after h pre e → Counts splits before after pre → Counts splits before after (pre ++ e ∷ [])
counts_next splits before after h pre e w c =
    let f = fronts_next splits before after h pre e w c in
    record {
      counted = λ n i. each_shard (λ m s. Counted s) before after e pre f.counted n (c.counted n i);
      shard = λ n i. each_shard (λ m s. s.shard ≡ m) before after e pre (f.shard ∙ (w.split).shard) n (c.shard n i);
    }

pub durable_later : (splits : List ℕ) (before after : List (List LogRecord)) (h pre : History) (e : Placed) → Next splits before after h pre e → Counts splits before after pre → (n : ℕ) (tx : TxId) → DurableIn before after pre n tx → DurableIn before after (pre ++ e ∷ []) n tx
durable_later splits before after h pre e w c n tx d = at (e.0 == n) refl
  where
    at : (b : Bool) → (e.0 == n) ≡ b → DurableIn before after (pre ++ e ∷ []) n tx
    at true q =
        let m = eqb-true e.0 n q in
        subst (λ k. DurableIn before after (pre ++ e ∷ []) k tx) m
        (committed_front (log_left (state_at before after e.0 pre) false) (log_left (state_at before after e.0 (pre ++ e ∷ [])) false) tx (fronts_next splits before after h pre e w c).front
        (subst (λ k. DurableIn before after pre k tx) (sym m) d))
    at false q = subst (λ s. committed_in (log_left s false) tx ≡ true) (sym (stays_as_it_was before after n e pre q)) d

-- what holds at the start and is kept by each entry holds after each front
pub walk_front : (P : History → Type 0) (splits : List ℕ) (before after : List (List LogRecord)) (h done pre post : History) → Legal splits before h after → (done ++ pre) ++ post ≡ h
    → ((pre : History) (e : Placed) → Next splits before after h pre e → P pre → P (pre ++ e ∷ [])) → P done → P (done ++ pre)
walk_front P splits before after h done [] post l q k p = subst P (sym (append-nil done)) p
walk_front P splits before after h done (e ∷ pre) post l q k p =
    let a : done ++ e ∷ (pre ++ post) ≡ h = sym (append_assoc done (e ∷ pre) post) ∙ q in
    subst P (append_assoc done (e ∷ []) pre)
    (walk_front P splits before after h (done ++ e ∷ []) pre post l (ap (λ z. z ++ post) (append_assoc done (e ∷ []) pre) ∙ q) k (k done e (next_at splits before after h done e (pre ++ post) l a) p))
