-- What logs that may be opened say of their ENDs: each stands behind a COMMIT, and each part that this names is committed.
use Rattle.std.proofs.Common.{◌≡◌, ⊎_elim, refl, sym, subst, ◌∙◌, ℕ, ◌<◌, true, false, not, ◌&&◌, ◌||◌, ◌==◌, Bool, List, [], ◌∷◌, ◌++◌, Option, Some, None, is_some, length, arith, eqb-true}
use Rattle.std.specs.List.{list_all}
use Rattle.std.proofs.lemmas.Bool.{both_ways, and_parts, not-true, or_cases}
use Rattle.std.proofs.lemmas.List.{take_all}
use Rattle.clv_base.specs.declared.names.TxId.{TxId}
use Rattle.clv_base.specs.declared.logs.LogRecord.{LogRecord}
use Rattle.clv_base.specs.declared.logs.LogRecord.TheVariants.{Update, Clr, Prepare, Commit, Abort, End, Restart, Add, Unadd, Forgotten, Check}
use Rattle.clv_base.specs.Orders.{nat_in}
use Rattle.clv_base.specs.Logs.{is_prepare_of, is_commit_of, is_end_of, committed_in, ended_in, aborted_in, prepare_of, commit_parts}
use Rattle.clv_base.specs.LogRules.{part_of, disorder, log_of, home_is, agrees_at, listed_in}
use Rattle.clv_base.specs.FileRules.{may_open}
use Rattle.clv_base.specs.Restarts.{run_after, log_after_restart}
use Rattle.clv_base.proofs.SameNames.{tx_true}
use Rattle.law_base.proofs.Changed.{none_some, some_same}
use Rattle.law_base.proofs.Commits.{committed_keeps}
use Rattle.protocol_laws.proofs.LogsInOrder.OneRecordMore.{committed_there}
use Rattle.law_base.specs.Coming.{commit_may_come, may_come, Comes, AllCome}
use Rattle.law_base.proofs.InOrder.{through}
use Rattle.law_base.proofs.Parts.{in_order_comes}
use Rattle.shard_laws.proofs.Order.WhatRulingsMayWrite.{parts_new}
use Rattle.history_cases.proofs.Uncommitting.{with_more}
use Rattle.fate_laws.proofs.History.EntryByEntry.{DurableIn}
use Rattle.fate_laws.proofs.Logs.WhatAddsNoPrepare.{plain_more, prepare_new}
use Rattle.fate_laws.proofs.Homes.FoundCommitsHaveHomes.{part_agreed, home_of, nat_at, committed_stays}
use Rattle.fate_laws.proofs.Homes.ShardKnowsHomes.{new_commit}
use Rattle.headline_laws.proofs.EndedAreCommitted.EndsStandBehindCommits.{parts_back, EndsFrom, Tell}
use Rattle.law_base.proofs.Bools.{and_first as front, and_second as last}
use Rattle.fate_laws.proofs.Origins.OldPartsWereDoubted.{found_follows as in_order}

-- ---- a log in order

parts_some : (log : List LogRecord) (t : TxId) (o : Option (List ℕ)) (f : List ℕ → Bool) → commit_parts log t ≡ o → elim o [ Some ps ↦ f ps | None ↦ false ] ≡ true → committed_in log t ≡ true
parts_some log t None f e k = absurd (both_ways false refl k)
parts_some log t (Some ps) f e k = committed_there log t ps e

end_comes : (shard : ℕ) (part log : List LogRecord) (r : LogRecord) (t : TxId) → may_come shard part log r ≡ true → is_end_of t r ≡ true → committed_in log t ≡ true
end_comes shard part log (End tx) t m e = subst (λ z. committed_in log z ≡ true) (sym (tx_true t tx e)) (parts_some log tx (commit_parts log tx) _ refl (last _ _ m))
end_comes shard part log _ t m e = absurd (both_ways false refl e)

ends_come : (shard : ℕ) (part before rs : List LogRecord) → Comes shard part before rs → EndsFrom before rs
ends_come shard part before [] f = tt
ends_come shard part before (r ∷ rs) f = ((λ t. end_comes shard part before r t f.0), ends_come shard part (before ++ r ∷ []) rs f.1)

-- a log in order
ends_follow : (shard : ℕ) (log : List LogRecord) → disorder shard log ≡ None → EndsFrom [] log
ends_follow shard log d = first log (in_order_comes shard log d)
  where
    first : (rs : List LogRecord) → AllCome shard (part_of log) rs → EndsFrom [] rs
    first [] f = tt
    first (End tx ∷ rs) f = absurd (both_ways false refl f.0)
    first (r ∷ rs) f = ((λ t e. absurd (both_ways false refl e)), ends_come shard (part_of log) (r ∷ []) rs f.1)

-- a COMMIT with parts stands at the home that a PREPARE names
abbrev AtHome : ℕ → List LogRecord → Type 0
AtHome shard log = (t : TxId) (p : ℕ × List TxId) (q : ℕ) (qs : List ℕ) → prepare_of log t ≡ Some p → commit_parts log t ≡ Some (q ∷ qs) → p.0 ≡ shard

home_plain : (shard : ℕ) (log : List LogRecord) (r : LogRecord) → ((t : TxId) → is_prepare_of t r ≡ false) → ((t : TxId) → is_commit_of t r ≡ false) → AtHome shard log → AtHome shard (log ++ r ∷ [])
home_plain shard log r np nc h t p q qs e c =
    h t p q qs (plain_more log (r ∷ []) (np, tt) t p e) (parts_back log (r ∷ []) t (q ∷ qs) (with_more log (r ∷ []) (nc, tt) t (committed_there (log ++ r ∷ []) t (q ∷ qs) c)) c)

home_prepare : (shard : ℕ) (log : List LogRecord) (u : TxId) (home : ℕ) (us : List TxId) → committed_in log u ≡ false → AtHome shard log → AtHome shard (log ++ Prepare u home us ∷ [])
home_prepare shard log u home us n h t p q qs e c =
    let d = with_more log (Prepare u home us ∷ []) ((λ v. refl), tt) t (committed_there (log ++ Prepare u home us ∷ []) t (q ∷ qs) c) in
    ⊎_elim (λ a. h t p q qs a (parts_back log (Prepare u home us ∷ []) t (q ∷ qs) d c)) (λ a. absurd (both_ways (committed_in log t) (subst (λ z. committed_in log z ≡ false) (sym a.0) n) d)) (prepare_new log u home us t p e)

home_by : (shard q : ℕ) (qs : List ℕ) (part log : List LogRecord) (t : TxId) (p : ℕ × List TxId) → prepare_of log t ≡ Some p → commit_may_come shard part log t (q ∷ qs) (prepare_of log t) ≡ true → p.0 ≡ shard
home_by shard q qs part log t p e m =
    ⊎_elim (λ a. eqb-true p.0 shard a) (λ a. absurd (both_ways false refl a)) (or_cases (p.0 == shard) false (subst (λ o. commit_may_come shard part log t (q ∷ qs) o ≡ true) e m))

home_commit : (shard : ℕ) (part log : List LogRecord) (u : TxId) (parts : List ℕ) → commit_may_come shard part log u parts (prepare_of log u) ≡ true → AtHome shard log → AtHome shard (log ++ Commit u parts ∷ [])
home_commit shard part log u parts m h t p q qs e c = at (committed_in log t) refl
  where
    old : prepare_of log t ≡ Some p
    old = plain_more log (Commit u parts ∷ []) ((λ v. refl), tt) t p e

    at : (b : Bool) → committed_in log t ≡ b → p.0 ≡ shard
    at true k = h t p q qs old (parts_back log (Commit u parts ∷ []) t (q ∷ qs) k c)
    at false k =
        let s = ⊎_elim (λ a. absurd (both_ways (committed_in log t) k a)) (λ a. a) (new_commit log u parts t (committed_there (log ++ Commit u parts ∷ []) t (q ∷ qs) c)) in
        let f : parts ≡ q ∷ qs = some_same parts (q ∷ qs) (sym (parts_new log u parts (subst (λ z. committed_in log z ≡ false) s k)) ∙ subst (λ z. commit_parts (log ++ Commit u parts ∷ []) z ≡ Some (q ∷ qs)) s c) in
        home_by shard q qs part log u p (subst (λ z. prepare_of log z ≡ Some p) s old) (subst (λ z. commit_may_come shard part log u z (prepare_of log u) ≡ true) f m)

home_step : (shard : ℕ) (part log : List LogRecord) (r : LogRecord) → AtHome shard log → may_come shard part log r ≡ true → AtHome shard (log ++ r ∷ [])
home_step shard part log (Commit u parts) h m = home_commit shard part log u parts (last _ _ (front _ _ m)) h
home_step shard part log (Prepare u home us) h m = home_prepare shard log u home us (not-true _ (last _ _ (front _ _ (front _ _ (front _ _ m))))) h
home_step shard part log (Update u k b a) h m = home_plain shard log (Update u k b a) (λ t. refl) (λ t. refl) h
home_step shard part log (Clr u n k a) h m = home_plain shard log (Clr u n k a) (λ t. refl) (λ t. refl) h
home_step shard part log (Abort u) h m = home_plain shard log (Abort u) (λ t. refl) (λ t. refl) h
home_step shard part log (End u) h m = home_plain shard log (End u) (λ t. refl) (λ t. refl) h
home_step shard part log (Restart run epoch) h m = home_plain shard log (Restart run epoch) (λ t. refl) (λ t. refl) h
home_step shard part log (Add u k by) h m = home_plain shard log (Add u k by) (λ t. refl) (λ t. refl) h
home_step shard part log (Unadd u n k by) h m = home_plain shard log (Unadd u n k by) (λ t. refl) (λ t. refl) h
home_step shard part log Forgotten h m = home_plain shard log Forgotten (λ t. refl) (λ t. refl) h
home_step shard part log (Check run' epoch' upto base) h m = home_plain shard log (Check run' epoch' upto base) (λ t. refl) (λ t. refl) h

home_first : (shard : ℕ) → AtHome shard []
home_first shard t p q qs e c = absurd (none_some p e)

at_home : (shard : ℕ) (log : List LogRecord) → disorder shard log ≡ None → AtHome shard log
at_home shard log d =
    through (AtHome shard) shard (part_of log) (λ l r g h m. home_step shard (part_of log) l r h m) log (in_order_comes shard log d) (home_first shard)
    (λ run epoch upto base rises t p q qs e c. absurd (none_some p e))

-- ---- its home is the shard whose COMMIT has parts

prepared_home : (t : TxId) (h n : ℕ) (log : List LogRecord) (q : ℕ) (qs : List ℕ) (o : Option (ℕ × List TxId)) → prepare_of log t ≡ o → (is_some o && home_is h o) ≡ true → AtHome n log → commit_parts log t ≡ Some (q ∷ qs) → n ≡ h
prepared_home t h n log q qs None e a k c = absurd (both_ways false refl a)
prepared_home t h n log q qs (Some p) e a k c = sym (k t p q qs e c) ∙ eqb-true p.0 h a

only_home : (logs : List (List LogRecord)) (t : TxId) (n h q : ℕ) (ps qs : List ℕ) → n < length logs → AtHome n (log_of logs n) → commit_parts (log_of logs n) t ≡ Some (q ∷ qs) → agrees_at logs t h (log_of logs h) ps ≡ true → n ≡ h
only_home logs t n h q ps qs l k c a = at (n == h) refl
  where
    at : (b : Bool) → (n == h) ≡ b → n ≡ h
    at true e = eqb-true n h e
    at false e =
        let log = log_of logs n in
        let g = part_agreed logs t h n ps l a e (committed_stays log t (committed_there log t (q ∷ qs) c)) in
        let g1 = and_parts (is_some (prepare_of log t) && home_is h (prepare_of log t) && not (aborted_in log t)) (list_all (committed_in log) (listed_in log t)) g in
        let g2 = and_parts (is_some (prepare_of log t) && home_is h (prepare_of log t)) (not (aborted_in log t)) g1.0 in
        prepared_home t h n log q qs (prepare_of log t) refl g2.0 k c

agrees_here : (logs : List (List LogRecord)) (t : TxId) (n h q : ℕ) (qs : List ℕ) (o : Option (List ℕ)) → n < length logs → AtHome n (log_of logs n) → commit_parts (log_of logs n) t ≡ Some (q ∷ qs) → commit_parts (log_of logs h) t ≡ o
    → elim o [ Some ps ↦ agrees_at logs t h (log_of logs h) ps | None ↦ false ] ≡ true → agrees_at logs t n (log_of logs n) (q ∷ qs) ≡ true
agrees_here logs t n h q qs None l k c d a = absurd (both_ways false refl a)
agrees_here logs t n h q qs (Some ps) l k c d a =
    let e = only_home logs t n h q ps qs l k c a in
    let f : ps ≡ q ∷ qs = some_same ps (q ∷ qs) (sym d ∙ subst (λ z. commit_parts (log_of logs z) t ≡ Some (q ∷ qs)) e c) in
    subst (λ z. agrees_at logs t z (log_of logs z) (q ∷ qs) ≡ true) (sym e) (subst (λ z. agrees_at logs t h (log_of logs h) z ≡ true) f a)

-- ---- where it is ended, its parts are committed

second_of : (b c : Bool) → b ≡ true → (not b || c) ≡ true → c ≡ true
second_of true c e v = v
second_of false c e v = absurd (both_ways false refl e)

opening_ended : (splits : List ℕ) (logs : List (List LogRecord)) (n m : ℕ) (t : TxId) (ps : List ℕ) → may_open splits logs ≡ true → n < length logs → ended_in (log_of logs n) t ≡ true → commit_parts (log_of logs n) t ≡ Some ps → nat_in m ps ≡ true
    → committed_in (log_of logs m) t ≡ true
opening_ended splits logs n m t [] o l e c i = absurd (both_ways false refl i)
opening_ended splits logs n m t (q ∷ qs) o l e c i =
    let a = home_of splits logs n t o (committed_there (log_of logs n) t (q ∷ qs) c) in
    let g = agrees_here logs t n a.0 q qs (commit_parts (log_of logs a.0) t) l (at_home n (log_of logs n) (in_order splits logs n o l)) c refl a.1 in
    let k = (and_parts _ (not (ended_in (log_of logs n) t) || list_all (λ s. committed_in (log_of logs s) t) (q ∷ qs)) g).1 in
    nat_at (λ s. committed_in (log_of logs s) t) m (q ∷ qs) (second_of (ended_in (log_of logs n) t) (list_all (λ s. committed_in (log_of logs s) t) (q ∷ qs)) e k) i

-- what is committed at opening is durable
durable_opened : (before after : List (List LogRecord)) (m : ℕ) (t : TxId) → committed_in (log_of before m) t ≡ true → DurableIn before after [] m t
durable_opened before after m t c =
    let log = log_after_restart m (log_of before m) (run_after before) 0 in
    subst (λ z. committed_in z t ≡ true) (sym (take_all (length log) log (omega arith))) (committed_keeps (log_of before m) _ t c)

pub opening_tells : (splits : List ℕ) (before after : List (List LogRecord)) (n : ℕ) → may_open splits before ≡ true → n < length before → Tell (DurableIn before after []) (log_of before n)
opening_tells splits before after n o l = record {
  behind = ends_follow n (log_of before n) (in_order splits before n o l);
  parts = λ t ps m e c i. durable_opened before after m t (opening_ended splits before n m t ps o l e c i);
}
