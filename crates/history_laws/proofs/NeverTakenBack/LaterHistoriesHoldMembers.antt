-- The members of a history, and those of one that goes on from it.
use Rattle.std.proofs.Common.{◌≡◌, inl, inr, ⊎_elim, refl, sym, ap, subst, ◌∙◌, ℕ, zero, suc, ◌+◌, ◌<◌, true, false, cond, Bool, List, [], ◌∷◌, Option, Some, None, arith}
use Rattle.std.specs.List.{list_any}
use Rattle.std.proofs.lemmas.Bool.{both_ways, or_cases, or_left, or_right}
use Rattle.clv_base.specs.declared.names.TxId.{TxId}
use Rattle.clv_base.specs.declared.logs.LogRecord.{LogRecord}
use Rattle.clv_base.specs.Logs.{committed_in}
use Rattle.clv_base.specs.LogRules.{log_of}
use Rattle.clv_base.specs.State.{Shard}
use Rattle.clv_base.specs.Restarts.{log_left}
use Rattle.clv_base.specs.Journals.{History, logs_left_from}
use Rattle.clv_base.specs.History.{Member, DoneAct, act_of, acts_in, request_of, members}
use Rattle.protocol_laws.specs.Growth.{IsPrefixOf}
use Rattle.std.proofs.lemmas.List.Folds.{list_any-append}
use Rattle.history_laws.specs.Continuing.{IsSublistOf, nothing, also, only}
use Rattle.history_cases.proofs.Merging.{Placed, Before, InOrder, Among, among_all, not_before_itself}
use Rattle.history_laws.proofs.Entries.SublistsOfHistories.{sublist_among}
use Rattle.law_base.proofs.Logs.{is_in}
use Rattle.law_base.proofs.Acts.{with_act}

-- ---- acts

-- the act of the transaction that an entry is, if it is one
abbrev pub act_at : TxId → Placed → Option DoneAct
act_at t e = act_of t (e.1).event (e.1).outcome

-- where the longer history has no further act of the transaction, its acts are the same
passes : (o : Option DoneAct) (rest : List DoneAct) → ((p : DoneAct) → o ≡ Some p → ⊥) → with_act o rest ≡ rest
passes None rest k = refl
passes (Some p) rest k = absurd (k p refl)

pub same_acts : (t : TxId) (xs ys : History) → IsSublistOf xs ys → InOrder ys → ((y : Placed) (p : DoneAct) → Among y ys → act_at t y ≡ Some p → Among y xs) → acts_in t xs ≡ acts_in t ys
same_acts t _ _ nothing o k = refl
same_acts t _ _ (also y {xs = xs} {ys = ys} s) o k =
    ap (with_act (act_at t y))
    (same_acts t xs ys s o.1
    (λ z p m e. ⊎_elim (λ (f : y ≡ z). absurd (not_before_itself y z f (among_all (Before y) z ys o.0 m))) (λ n. n) (k z p (inr m) e)))
same_acts t xs _ (only y {ys = ys} s) o k =
    same_acts t xs ys s o.1 (λ z p m e. k z p (inr m) e)
    ∙ sym (passes (act_at t y) (acts_in t ys) (λ p e. not_before_itself y y refl (among_all (Before y) y ys o.0 (sublist_among y xs ys s (k y p (inl refl) e)))))

-- ---- acknowledgements stay

pub any_in : {A : Type 0} (test : A → Bool) (xs ys : List A) → IsSublistOf xs ys → list_any test xs ≡ true → list_any test ys ≡ true
any_in test _ _ nothing h = h
any_in test _ _ (also y {xs = xs} {ys = ys} s) h =
    ⊎_elim (λ a. or_left (test y) (list_any test ys) a) (λ b. or_right (test y) (list_any test ys) (any_in test xs ys s b)) (or_cases (test y) (list_any test xs) h)
any_in test xs _ (only y {ys = ys} s) h = or_right (test y) (list_any test ys) (any_in test xs ys s h)

pub any_among : {A : Type 0} (test : A → Bool) (xs : List A) → list_any test xs ≡ true → (x : A) × Among x xs × (test x ≡ true)
any_among test [] h = absurd (both_ways false refl h)
any_among test (x ∷ xs) h =
    ⊎_elim (λ a. (x, inl refl, a)) (λ b. let r = any_among test xs b in (r.0, inr r.1, r.2)) (or_cases (test x) (list_any test xs) h)

-- a COMMIT in the front of a log is in the log
pub committed_front : (xs ys : List LogRecord) (t : TxId) → IsPrefixOf xs ys → committed_in xs t ≡ true → committed_in ys t ≡ true
committed_front xs ys t (more, e) h = subst (λ z. committed_in z t ≡ true) e (list_any-append _ xs more ∙ or_left _ _ h)

-- ---- members

abbrev pub member_at : History → Placed → TxId → Member
member_at h e t = record { tx = t; point = record { stamp = (e.1).stamp; shard = e.0 }; acts = acts_in t h }

abbrev with_member : History → Placed → Bool → TxId → List Member → List Member
with_member h e b t rest = cond b (member_at h e t ∷ rest) rest

also_member : (h h' : History) (e : Placed) (t : TxId) (b b' : Bool) (xs ys : List Member) → (b ≡ true → (b' ≡ true) × (acts_in t h ≡ acts_in t h')) → IsSublistOf xs ys
    → IsSublistOf (with_member h e b t xs) (with_member h' e b' t ys)
also_member h h' e t true true xs ys k s =
    subst (λ o. IsSublistOf (record { tx = t; point = record { stamp = (e.1).stamp; shard = e.0 }; acts = o } ∷ xs) (member_at h' e t ∷ ys)) (sym (k refl).1) (also (member_at h' e t) s)
also_member h h' e t true false xs ys k s = absurd (both_ways false refl (k refl).0)
also_member h h' e t false true xs ys k s = only (member_at h' e t) s
also_member h h' e t false false xs ys k s = s

abbrev by_request : (TxId → Bool) → History → Placed → Option TxId → List Member → List Member
by_request test h e o rest = elim o [ Some t ↦ with_member h e (test t) t rest | None ↦ rest ]

also_request : (test test' : TxId → Bool) (h h' : History) (e : Placed) (o : Option TxId) (xs ys : List Member)
    → ((t : TxId) → o ≡ Some t → test t ≡ true → (test' t ≡ true) × (acts_in t h ≡ acts_in t h')) → IsSublistOf xs ys → IsSublistOf (by_request test h e o xs) (by_request test' h' e o ys)
also_request test test' h h' e None xs ys k s = s
also_request test test' h h' e (Some t) xs ys k s = also_member h h' e t (test t) (test' t) xs ys (k t refl) s

more_members : (h : History) (e : Placed) (t : TxId) (b : Bool) (xs ys : List Member) → IsSublistOf xs ys → IsSublistOf xs (with_member h e b t ys)
more_members h e t true xs ys s = only (member_at h e t) s
more_members h e t false xs ys s = s

only_request : (test : TxId → Bool) (h : History) (e : Placed) (o : Option TxId) (xs ys : List Member) → IsSublistOf xs ys → IsSublistOf xs (by_request test h e o ys)
only_request test h e None xs ys s = s
only_request test h e (Some t) xs ys s = more_members h e t (test t) xs ys s

-- each member of the first is one of the second
abbrev pub Stays : List (List LogRecord) → History → List (List LogRecord) → History → Placed → TxId → Type 0
Stays logs h logs' h' e t = (is_in logs' h' e.0 t ≡ true) × (acts_in t h ≡ acts_in t h')

pub members_stay : (logs logs' : List (List LogRecord)) (h h' xs ys : History) → IsSublistOf xs ys
    → ((e : Placed) (t : TxId) → Among e xs → request_of (e.1).event (e.1).outcome ≡ Some t → is_in logs h e.0 t ≡ true → Stays logs h logs' h' e t)
    → IsSublistOf (members logs h xs) (members logs' h' ys)
members_stay logs logs' h h' _ _ nothing k = nothing
members_stay logs logs' h h' _ _ (also e {xs = xs} {ys = ys} s) k =
    also_request (is_in logs h e.0) (is_in logs' h' e.0) h h' e (request_of (e.1).event (e.1).outcome) _ _ (λ t. k e t (inl refl)) (members_stay logs logs' h h' xs ys s (λ f t m. k f t (inr m)))
members_stay logs logs' h h' xs _ (only e {ys = ys} s) k = only_request (is_in logs' h' e.0) h' e (request_of (e.1).event (e.1).outcome) _ _ (members_stay logs logs' h h' xs ys s k)

-- ---- the log of a shard among those that a crash leaves

pub left_at : (finals : ℕ → Shard) (choice : ℕ → Bool) (n k i : ℕ) → i < k → log_of (logs_left_from finals choice n k) i ≡ log_left (finals (n + i)) (choice (n + i))
left_at finals choice n zero i l = absurd (omega arith)
left_at finals choice n (suc k) zero l = ap (λ m. log_left (finals m) (choice m)) (omega arith)
left_at finals choice n (suc k) (suc i) l = left_at finals choice (suc n) k i (omega arith) ∙ ap (λ m. log_left (finals m) (choice m)) (omega arith)
