-- Who is committed somewhere in logs that may be opened, and has a record in a log, is committed there, or in doubt.
use Rattle.std.proofs.Common.{◌≡◌, ◌⊎◌, inl, inr, refl, sym, subst, ℕ, ◌<◌, true, false, cond, Bool, not, ◌&&◌, ◌||◌, ◌==◌, List, [], ◌∷◌, Option, Some, None, is_some, length, eqb-true}
use Rattle.std.specs.List.{list_all}
use Rattle.std.proofs.lemmas.Bool.{both_ways, and_parts, and_from, or_left, not-true}
use Rattle.clv_base.specs.declared.names.TxId.{TxId}
use Rattle.clv_base.specs.declared.logs.LogRecord.{LogRecord}
use Rattle.clv_base.specs.declared.logs.LogRecord.TheVariants.{Update, Clr, Prepare, Commit, Abort, End, Restart, Add, Unadd, Forgotten, Check}
use Rattle.clv_base.specs.Orders.{tx_same, tx_in, tx_insert}
use Rattle.clv_base.specs.Logs.{committed_in, aborted_in, prepare_of, commit_parts, doubt_by, in_doubt_from, in_doubt}
use Rattle.clv_base.specs.LogRules.{log_of, home_is, agrees_at, is_undone_in}
use Rattle.clv_base.specs.FileRules.{may_open}
use Rattle.clv_base.proofs.SameNames.{tx_true, insert_has}
use Rattle.law_base.proofs.Changed.{none_some, some_same}
use Rattle.law_base.proofs.Doubts.{stays_in}
use Rattle.protocol_laws.proofs.LogsInOrder.OneRecordMore.{committed_there}
use Rattle.fate_laws.proofs.Homes.FoundCommitsHaveHomes.{part_agreed, home_of}

-- ---- who is in doubt

not_of : (b : Bool) → b ≡ false → not b ≡ true
not_of true e = absurd (both_ways true e refl)
not_of false e = refl

all_or : (f g : TxId → Bool) (ps : List TxId) → list_all f ps ≡ true → list_all (λ p. f p || g p) ps ≡ true
all_or f g [] a = refl
all_or f g (p ∷ ps) a = let q = and_parts (f p) (list_all f ps) a in and_from _ _ (or_left (f p) (g p) q.0) (all_or f g ps q.1)

-- whose home is elsewhere, undecided, with all that its PREPARE lists committed
pub doubted : (log : List LogRecord) (shard : ℕ) (rs : List LogRecord) (sf : List TxId) (t : TxId) (p : ℕ × List TxId) → prepare_of rs t ≡ Some p → (shard == p.0) ≡ false → committed_in log t ≡ false → aborted_in log t ≡ false → list_all (committed_in log) p.1 ≡ true
    → tx_in t (in_doubt_from log shard rs sf) ≡ true
doubted log shard [] sf t p e h c a l = absurd (none_some p e)
doubted log shard (Prepare tx home ps ∷ rs) sf t p e h c a l = at (tx_same t tx) refl e (λ f s. doubted log shard rs s t p f h c a l)
  where
    own : tx_same t tx ≡ true → Some (home, ps) ≡ Some p → tx_in t (in_doubt_from log shard rs (cond (doubt_by log shard tx home ps sf) (tx_insert tx sf) sf)) ≡ true
    own q f =
        let z : (home, ps) ≡ p = some_same (home, ps) p f in
        let n = tx_true t tx q in
        let d : doubt_by log shard tx home ps sf ≡ true =
        and_from _ _ (and_from _ _ (and_from _ _ (not_of (shard == home) (subst (λ (k : ℕ × List TxId). (shard == k.0) ≡ false) (sym z) h)) (not_of (committed_in log tx) (subst (λ k. committed_in log k ≡ false) n c)))
        (not_of (aborted_in log tx) (subst (λ k. aborted_in log k ≡ false) n a)))
        (all_or (committed_in log) (λ q. tx_in q sf) ps (subst (λ (k : ℕ × List TxId). list_all (committed_in log) k.1 ≡ true) (sym z) l)) in
        subst (λ b. tx_in t (in_doubt_from log shard rs (cond b (tx_insert tx sf) sf)) ≡ true) (sym d) (stays_in log shard rs (tx_insert tx sf) t (subst (λ k. tx_in k (tx_insert tx sf) ≡ true) (sym n) (insert_has tx sf)))

    at : (b : Bool) → tx_same t tx ≡ b → cond b (Some (home, ps)) (prepare_of rs t) ≡ Some p → (prepare_of rs t ≡ Some p → (s : List TxId) → tx_in t (in_doubt_from log shard rs s) ≡ true)
        → tx_in t (in_doubt_from log shard rs (cond (doubt_by log shard tx home ps sf) (tx_insert tx sf) sf)) ≡ true
    at true q f k = own q f
    at false q f k = k f (cond (doubt_by log shard tx home ps sf) (tx_insert tx sf) sf)
doubted log shard (Update tx x y z ∷ rs) sf t p e h c a l = doubted log shard rs sf t p e h c a l
doubted log shard (Clr tx x y z ∷ rs) sf t p e h c a l = doubted log shard rs sf t p e h c a l
doubted log shard (Commit tx x ∷ rs) sf t p e h c a l = doubted log shard rs sf t p e h c a l
doubted log shard (Abort tx ∷ rs) sf t p e h c a l = doubted log shard rs sf t p e h c a l
doubted log shard (End tx ∷ rs) sf t p e h c a l = doubted log shard rs sf t p e h c a l
doubted log shard (Restart run epoch ∷ rs) sf t p e h c a l = doubted log shard rs sf t p e h c a l
doubted log shard (Add tx x by ∷ rs) sf t p e h c a l = doubted log shard rs sf t p e h c a l
doubted log shard (Unadd tx x y by ∷ rs) sf t p e h c a l = doubted log shard rs sf t p e h c a l
doubted log shard (Forgotten ∷ rs) sf t p e h c a l = doubted log shard rs sf t p e h c a l
doubted log shard (Check run' epoch' upto base ∷ rs) sf t p e h c a l = doubted log shard rs sf t p e h c a l

-- a part of another home that isn't committed is in doubt
part_doubted : (t : TxId) (h n : ℕ) (log : List LogRecord) (o : Option (ℕ × List TxId)) → prepare_of log t ≡ o → (n == h) ≡ false → committed_in log t ≡ false
    → (is_some o && home_is h o && not (aborted_in log t) && list_all (committed_in log) (elim o [ Some p ↦ p.1 | None ↦ [] ])) ≡ true → tx_in t (in_doubt n log) ≡ true
part_doubted t h n log None e b c a = absurd (both_ways false refl a)
part_doubted t h n log (Some p) e b c a =
    let x = and_parts _ (list_all (committed_in log) p.1) a in
    let y = and_parts _ (not (aborted_in log t)) x.0 in
    doubted log n log [] t p e (subst (λ k. (n == k) ≡ false) (sym (eqb-true p.0 h y.0)) b) c (not-true _ y.1) x.1

-- ---- one of which a log has something that isn't undone

-- its COMMIT is there, or it is in doubt
abbrev pub Known : List (List LogRecord) → ℕ → TxId → Type 0
Known logs n t = (committed_in (log_of logs n) t ≡ true) ⊎ (tx_in t (in_doubt n (log_of logs n)) ≡ true)

part_known : (logs : List (List LogRecord)) (t : TxId) (h n : ℕ) (ps : List ℕ) → n < length logs → commit_parts (log_of logs h) t ≡ Some ps → agrees_at logs t h (log_of logs h) ps ≡ true → is_undone_in (log_of logs n) t ≡ false → Known logs n t
part_known logs t h n ps l c a r = at (n == h) refl
  where
    away : (b : Bool) → committed_in (log_of logs n) t ≡ b → (n == h) ≡ false → Known logs n t
    away true e q = inl e
    away false e q = inr (part_doubted t h n (log_of logs n) (prepare_of (log_of logs n) t) refl q e (part_agreed logs t h n ps l a q r))

    at : (b : Bool) → (n == h) ≡ b → Known logs n t
    at true q = inl (subst (λ k. committed_in (log_of logs k) t ≡ true) (sym (eqb-true n h q)) (committed_there (log_of logs h) t ps c))
    at false q = away (committed_in (log_of logs n) t) refl q

by_home : (logs : List (List LogRecord)) (t : TxId) (h n : ℕ) (o : Option (List ℕ)) → n < length logs → commit_parts (log_of logs h) t ≡ o → elim o [ Some ps ↦ agrees_at logs t h (log_of logs h) ps | None ↦ false ] ≡ true → is_undone_in (log_of logs n) t ≡ false → Known logs n t
by_home logs t h n None l c a r = absurd (both_ways false refl a)
by_home logs t h n (Some ps) l c a r = part_known logs t h n ps l c a r

pub known_here : (splits : List ℕ) (logs : List (List LogRecord)) (n m : ℕ) (t : TxId) → may_open splits logs ≡ true → n < length logs → is_undone_in (log_of logs n) t ≡ false → committed_in (log_of logs m) t ≡ true → Known logs n t
known_here splits logs n m t o l r c = let a = home_of splits logs m t o c in by_home logs t a.0 n (commit_parts (log_of logs a.0) t) l refl a.1 r
