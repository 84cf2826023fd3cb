-- A request that doesn't wait has nothing to be reminded of, so the waiting ones are enough.
use Rattle.std.proofs.Common.{◌≡◌, ℕ, Bool, true, false, cond, not, ◌&&◌, ◌==◌, List, [], ◌∷◌, ◌++◌, map, is_some, refl, sym, ap, ◌∙◌}
use Rattle.std.proofs.lemmas.Bool.{both_ways, or_parts, and_parts}
use Rattle.std.specs.List.{AllByRecursion, filter, list_all, list_any}
use Rattle.std.specs.List.Sorted.{IsStrictlySortedBy}
use Rattle.std.specs.Map.{keys_of}
use Rattle.clv_base.specs.declared.names.TxId.{TxId}
use Rattle.clv_base.specs.declared.messages.Message.{Message}
use Rattle.clv_base.specs.declared.messages.Message.TheVariants.{Decide}
use Rattle.clv_base.specs.declared.state.Request.{Request}
use Rattle.clv_base.specs.declared.state.RequestState.{RequestState}
use Rattle.clv_base.specs.declared.state.RequestState.TheVariants.{Undecided, Committed, Finished, Refused}
use Rattle.clv_base.specs.Orders.{Table, nat_in, tx_cmp, tx_in}
use Rattle.clv_base.specs.Coordinator.{prepare_for, vote_from, missing_votes, missing_dones, each_request, home_reminders}
use Rattle.clv_base.proofs.SameNames.{or_left, or_right, tx_self}
use Rattle.law_base.proofs.Sets.{in_passes}
use Rattle.tx_table.specs.Index.{index_of}
use Rattle.tx_table.proofs.Laws.{HasOwn, rows_own}
use Rattle.two_phase_commit.specs.Reminding.{votes_of, dones_of, of_one, each_at}
use Rattle.two_phase_commit.specs.Waiting.{waits, waits_in, waiting_in, RemindersByWaiting}
use Rattle.law_base.proofs.Bools.{was_true}

-- ---- one that doesn't wait

unasked : (shard : ℕ) (tx : TxId) (test : ℕ × ℕ → Bool) (touched : List (ℕ × ℕ)) → list_any (λ t. not (t.0 == shard)) touched ≡ false
    → map (prepare_for shard tx) (filter (λ t. not (t.0 == shard) && test t) touched) ≡ []
unasked shard tx test [] e = refl
unasked shard tx test (t ∷ ts) e =
    let o = or_parts (not (t.0 == shard)) (list_any (λ u. not (u.0 == shard)) ts) e in let rest = filter (λ u. not (u.0 == shard) && test u) ts in
    ap (λ b. map (prepare_for shard tx) (cond (b && test t) (t ∷ rest) rest)) o.0 ∙ unasked shard tx test ts o.1

untold : (shard : ℕ) (tx : TxId) (acked parts : List ℕ) → list_all (λ p. nat_in p acked) parts ≡ true → map (λ p. Decide p tx shard true) (filter (λ p. not (nat_in p acked)) parts) ≡ []
untold shard tx acked [] e = refl
untold shard tx acked (p ∷ ps) e =
    let a = and_parts (nat_in p acked) (list_all (λ n. nat_in n acked) ps) e in let rest = filter (λ n. not (nat_in n acked)) ps in
    ap (λ b. map (λ n. Decide n tx shard true) (cond (not b) (p ∷ rest) rest)) a.0 ∙ untold shard tx acked ps a.1

no_votes : (shard : ℕ) (tx : TxId) (q : Request) (st : RequestState) → waits_in shard q st ≡ false → missing_votes shard tx q st ≡ []
no_votes shard tx q Undecided e = unasked shard tx (λ t. not (is_some (vote_from t.0 q.votes))) q.touched e
no_votes shard tx q (Committed parts) e = refl
no_votes shard tx q Finished e = refl
no_votes shard tx q (Refused cause) e = refl

no_dones : (shard : ℕ) (tx : TxId) (q : Request) (st : RequestState) → waits_in shard q st ≡ false → missing_dones shard tx q st ≡ []
no_dones shard tx q Undecided e = refl
no_dones shard tx q (Committed parts) e = untold shard tx q.acknowledged_by parts (was_true _ e)
no_dones shard tx q Finished e = refl
no_dones shard tx q (Refused cause) e = refl

abbrev IsSilent : ℕ → (TxId → Request → List Message) → Type 0
IsSilent shard f = (tx : TxId) (q : Request) → waits shard q ≡ false → f tx q ≡ []

pub votes_silent : (shard : ℕ) → IsSilent shard (votes_of shard)
votes_silent shard tx q e = no_votes shard tx q q.state e

pub dones_silent : (shard : ℕ) (durable : List TxId) → IsSilent shard (dones_of shard durable)
dones_silent shard durable tx q e = at (tx_in tx durable)
  where
    at : (b : Bool) → ◌≡◌ {A = List Message} (elim b [ true ↦ missing_dones shard tx q q.state | false ↦ [] ]) []
    at true = no_dones shard tx q q.state e
    at false = refl

-- ---- the waiting ones, each found by its transaction

each_of : (shard : ℕ) (f : TxId → Request → List Message) (whole rs : Table Request) → IsSilent shard f → AllByRecursion (HasOwn whole) rs → each_at f whole (index_of (waits shard) rs) ≡ each_request f rs
each_of shard f whole [] h a = refl
each_of shard f whole (r ∷ rs) h a = at (waits shard r.1) refl (each_of shard f whole rs h a.1)
  where
    kept : Table Request
    kept = filter (λ p. waits shard p.1) rs

    at : (b : Bool) → waits shard r.1 ≡ b → each_at f whole (keys_of kept) ≡ each_request f rs → each_at f whole (keys_of (cond b (r ∷ kept) kept)) ≡ f r.0 r.1 ++ each_request f rs
    at true e more = ap (λ o. of_one f r.0 o ++ each_at f whole (keys_of kept)) a.0 ∙ ap (λ l. f r.0 r.1 ++ l) more
    at false e more = more ∙ sym (ap (λ l. l ++ each_request f rs) (h r.0 r.1 e))

pub each_waiting : (shard : ℕ) (f : TxId → Request → List Message) (rs : Table Request) → IsSilent shard f → IsStrictlySortedBy tx_cmp (keys_of rs) → each_at f rs (waiting_in shard rs) ≡ each_request f rs
each_waiting shard f rs h s = each_of shard f rs rs h (rows_own rs s)

-- what is pushed for the votes, and then for the acknowledgements
pub reminded : (shard : ℕ) (rs : Table Request) (durable waiting : List TxId) (first last : List Message) → IsStrictlySortedBy tx_cmp (keys_of rs) → waiting ≡ waiting_in shard rs
    → first ≡ each_at (votes_of shard) rs waiting → last ≡ first ++ each_at (dones_of shard durable) rs waiting → last ≡ home_reminders shard rs durable
reminded shard rs durable waiting first last s w e f =
    f ∙ ap (λ l. l ++ each_at (dones_of shard durable) rs waiting) (e ∙ ap (each_at (votes_of shard) rs) w ∙ each_waiting shard (votes_of shard) rs (votes_silent shard) s)
    ∙ ap (λ l. each_request (votes_of shard) rs ++ l) (ap (each_at (dones_of shard durable) rs) w ∙ each_waiting shard (dones_of shard durable) rs (dones_silent shard durable) s)

-- ---- the durable ones among the waiting ones

abbrev Agree : ℕ → List TxId → List TxId → TxId × Request → Type 0
Agree shard ds es r = waits shard r.1 ≡ true → tx_in r.0 ds ≡ tx_in r.0 es

same_dones : (shard : ℕ) (ds es : List TxId) (rs : Table Request) → AllByRecursion (Agree shard ds es) rs → each_request (dones_of shard ds) rs ≡ each_request (dones_of shard es) rs
same_dones shard ds es [] a = refl
same_dones shard ds es (r ∷ rs) a = ap (λ l. dones_of shard ds r.0 r.1 ++ l) (same_dones shard ds es rs a.1) ∙ ap (λ l. l ++ each_request (dones_of shard es) rs) (at (waits shard r.1) refl)
  where
    at : (b : Bool) → waits shard r.1 ≡ b → dones_of shard ds r.0 r.1 ≡ dones_of shard es r.0 r.1
    at true e = ap (λ c. elim c [ true ↦ missing_dones shard r.0 r.1 (r.1).state | false ↦ [] ]) (a.0 e)
    at false e = dones_silent shard ds r.0 r.1 e ∙ sym (dones_silent shard es r.0 r.1 e)

-- a row is among the transactions of a list if it is in it, and so is what passes
abbrev AreIn : ℕ → List TxId → List TxId → Table Request → Type 0
AreIn shard waiting keys rs = AllByRecursion (λ r. (waits shard r.1 ≡ true → tx_in r.0 waiting ≡ true) × (tx_in r.0 keys ≡ true)) rs

more_in : (shard : ℕ) (x : TxId) (waiting keys more : List TxId) (rs : Table Request) → ((t : TxId) → tx_in t waiting ≡ true → tx_in t more ≡ true) → AreIn shard waiting keys rs → AreIn shard more (x ∷ keys) rs
more_in shard x waiting keys more [] up a = tt
more_in shard x waiting keys more (r ∷ rs) up a = ((λ e. up r.0 ((a.0).0 e), or_right _ _ (a.0).1), more_in shard x waiting keys more rs up a.1)

all_in : (shard : ℕ) (rs : Table Request) → AreIn shard (waiting_in shard rs) (keys_of rs) rs
all_in shard [] = tt
all_in shard (r ∷ rs) = at (waits shard r.1) refl (all_in shard rs)
  where
    kept : Table Request
    kept = filter (λ p. waits shard p.1) rs

    at : (b : Bool) → waits shard r.1 ≡ b → AreIn shard (keys_of kept) (keys_of rs) rs → AreIn shard (keys_of (cond b (r ∷ kept) kept)) (r.0 ∷ keys_of rs) (r ∷ rs)
    at true e more = ((λ w. or_left _ _ (tx_self r.0), or_left _ _ (tx_self r.0)), more_in shard r.0 (keys_of kept) (keys_of rs) (r.0 ∷ keys_of kept) rs (λ t i. or_right _ _ i) more)
    at false e more = ((λ w. absurd (both_ways _ e w), or_left _ _ (tx_self r.0)), more_in shard r.0 (keys_of kept) (keys_of rs) (keys_of kept) rs (λ t i. i) more)

agree : (shard : ℕ) (test : TxId → Bool) (waiting keys : List TxId) (rs : Table Request) → AreIn shard waiting keys rs → AllByRecursion (Agree shard (filter test waiting) (filter test keys)) rs
agree shard test waiting keys [] a = tt
agree shard test waiting keys (r ∷ rs) a =
    (λ e. in_passes test r.0 waiting ((a.0).0 e) ∙ sym (in_passes test r.0 keys (a.0).1), agree shard test waiting keys rs a.1)

pub reminders_by_waiting : RemindersByWaiting
reminders_by_waiting shard requests test =
    ap (λ l. each_request (votes_of shard) requests ++ l)
    (same_dones shard (filter test (waiting_in shard requests)) (filter test (keys_of requests)) requests (agree shard test (waiting_in shard requests) (keys_of requests) requests (all_in shard requests)))
