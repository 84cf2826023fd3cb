-- Logs that agree: each transaction that is committed in some of them has a home there.
use Rattle.std.proofs.Common.{◌≡◌, ⊎_elim, refl, sym, ap, subst, ◌∙◌, ℕ, zero, suc, ◌+◌, ◌<◌, true, false, Bool, not, ◌&&◌, ◌||◌, ◌==◌, List, [], ◌∷◌, Option, Some, None, is_some, length, arith, eqb-true}
use Rattle.std.specs.List.{list_all}
use Rattle.std.proofs.lemmas.Bool.{both_ways, and_parts, and_from, or_left, or_right, eq-eqb, not_from_false}
use Rattle.clv_base.specs.declared.names.TxId.{TxId}
use Rattle.clv_base.specs.declared.logs.LogRecord.{LogRecord}
use Rattle.clv_base.specs.declared.logs.LogRecord.TheVariants.{Update, Clr, Prepare, Commit, Abort, End, Restart, Add, Unadd, Forgotten, Check}
use Rattle.clv_base.specs.Orders.{tx_same, tx_in, nat_in}
use Rattle.clv_base.specs.Logs.{committed_in, aborted_in, ended_in, prepare_of, commit_parts}
use Rattle.clv_base.specs.LogRules.{log_of, any_log_from, home_is, is_undone_in, part_agrees, agrees_at, is_home_of, committed_of, committed_of_all, first_apart, apart}
use Rattle.clv_base.proofs.SameNames.{tx_self, in_insert}
use Rattle.fate_laws.proofs.Homes.FoundCommitsHaveHomes.{nat_at, named_part}
use Rattle.fate_laws.proofs.Waits.WaitsGoDown.{in_union}
use Rattle.law_base.proofs.Logs.{all_logs}

-- ---- a home

-- the shard is a home of the transaction in the logs: it has the COMMIT with these parts; each other shard where it isn't undone is a part; and
-- each part is prepared for it, and committed where the transaction is ended
pub record HomeIs (logs : List (List LogRecord)) (t : TxId) (h : ℕ) (ps : List ℕ) : Type 0 where
  pub commits : commit_parts (log_of logs h) t ≡ Some ps
  pub home : home_is h (prepare_of (log_of logs h) t) ≡ true
  pub named : (n : ℕ) → n < length logs → (n == h) ≡ false → is_undone_in (log_of logs n) t ≡ false → nat_in n ps ≡ true
  pub parts : (n : ℕ) → nat_in n ps ≡ true → part_agrees t h (log_of logs n) ≡ true
  pub ended : ended_in (log_of logs h) t ≡ true → (n : ℕ) → nat_in n ps ≡ true → committed_in (log_of logs n) t ≡ true

all_numbers : (f : ℕ → Bool) (ns : List ℕ) → ((n : ℕ) → nat_in n ns ≡ true → f n ≡ true) → list_all f ns ≡ true
all_numbers f [] k = refl
all_numbers f (n ∷ ns) k = and_from (f n) _ (k n (or_left (n == n) _ (eq-eqb n n refl))) (all_numbers f ns (λ m i. k m (or_right (m == n) _ i)))

any_log : (test : ℕ → List LogRecord → Bool) (i n : ℕ) (logs : List (List LogRecord)) → n < length logs → test (i + n) (log_of logs n) ≡ true → any_log_from i test logs ≡ true
any_log test i n [] l e = absurd (omega (arith, l))
any_log test i zero (log ∷ logs) l e = or_left (test i log) _ (subst (λ z. test z log ≡ true) (omega arith) e)
any_log test i (suc n) (log ∷ logs) l e = or_right (test i log) _ (any_log test (suc i) n logs (omega (arith, l)) (subst (λ z. test z (log_of logs n) ≡ true) (omega arith) e))

agrees : (logs : List (List LogRecord)) (t : TxId) (h : ℕ) (ps : List ℕ) → HomeIs logs t h ps → agrees_at logs t h (log_of logs h) ps ≡ true
agrees logs t h ps k =
    and_from _ _
    (and_from _ _ (and_from _ _ k.home (all_logs (λ s other. (s == h) || nat_in s ps || is_undone_in other t) 0 logs named))
    (all_numbers (λ s. part_agrees t h (log_of logs s)) ps k.parts))
    (either (ended_in (log_of logs h) t) _ (λ e. all_numbers (λ s. committed_in (log_of logs s) t) ps (k.ended e)))
  where
    passes : (a b c : Bool) → (a ≡ false → c ≡ false → b ≡ true) → (a || b || c) ≡ true
    passes true b c k = refl
    passes false true c k = refl
    passes false false true k = refl
    passes false false false k = k refl refl

    named : (n : ℕ) → n < length logs → ((0 + n == h) || nat_in (0 + n) ps || is_undone_in (log_of logs n) t) ≡ true
    named n l =
        subst (λ z. ((z == h) || nat_in z ps || is_undone_in (log_of logs n) t) ≡ true) (omega arith)
        (passes (n == h) (nat_in n ps) (is_undone_in (log_of logs n) t) (λ a b. k.named n l a b))

    either : (b c : Bool) → (b ≡ true → c ≡ true) → (not b || c) ≡ true
    either true c k = k refl
    either false c k = refl

pub home_here : (logs : List (List LogRecord)) (t : TxId) (h : ℕ) (ps : List ℕ) → HomeIs logs t h ps → is_home_of logs t h (log_of logs h) ≡ true
home_here logs t h ps k = subst (λ o. elim o [ Some qs ↦ agrees_at logs t h (log_of logs h) qs | None ↦ false ] ≡ true) (sym k.commits) (agrees logs t h ps k)

pub home_from : (logs : List (List LogRecord)) (t : TxId) (h : ℕ) → is_home_of logs t h (log_of logs h) ≡ true → (ps : List ℕ) × HomeIs logs t h ps
home_from logs t h e = at (commit_parts (log_of logs h) t) refl e
  where
    then_ : (b c : Bool) → (not b || c) ≡ true → b ≡ true → c ≡ true
    then_ true c v i = v
    then_ false c v i = absurd (both_ways false refl i)

    at : (o : Option (List ℕ)) → commit_parts (log_of logs h) t ≡ o → elim o [ Some ps ↦ agrees_at logs t h (log_of logs h) ps | None ↦ false ] ≡ true → (ps : List ℕ) × HomeIs logs t h ps
    at None c v = absurd (both_ways false refl v)
    at (Some ps) c v =
        let x = and_parts _ _ v in
        let y = and_parts _ _ x.0 in
        let z = and_parts _ _ y.0 in (
          ps,
          record {
            commits = c;
            home = z.0;
            named = λ n l a b. named_part logs t h n ps l v a b;
            parts = λ n i. nat_at (λ s. part_agrees t h (log_of logs s)) n ps y.1 i;
            ended = λ i n j. nat_at (λ s. committed_in (log_of logs s) t) n ps (then_ (ended_in (log_of logs h) t) _ x.1 i) j;
          },
        )

-- ---- a part

-- it is prepared for its home and not aborted, and all that its PREPARE lists is committed
pub record PartIs (log : List LogRecord) (t : TxId) (h : ℕ) : Type 0 where
  pub listed : ℕ × List TxId
  pub prepare : prepare_of log t ≡ Some listed
  pub home : listed.0 ≡ h
  pub unaborted : aborted_in log t ≡ false
  pub committed : list_all (committed_in log) listed.1 ≡ true

pub part_here : (log : List LogRecord) (t : TxId) (h : ℕ) → PartIs log t h → part_agrees t h log ≡ true
part_here log t h k =
    subst (λ o. (is_some o && home_is h o && not (aborted_in log t) && list_all (committed_in log) (elim o [ Some p ↦ p.1 | None ↦ [] ])) ≡ true) (sym k.prepare)
    (and_from _ _ (and_from _ _ (eq-eqb (k.listed).0 h k.home) (not_from_false (aborted_in log t) k.unaborted)) k.committed)

pub part_from : (log : List LogRecord) (t : TxId) (h : ℕ) → part_agrees t h log ≡ true → PartIs log t h
part_from log t h e = at (prepare_of log t) refl e
  where
    is_not : (b : Bool) → not b ≡ true → b ≡ false
    is_not true e = absurd (both_ways false refl e)
    is_not false e = refl

    at : (o : Option (ℕ × List TxId)) → prepare_of log t ≡ o → (is_some o && home_is h o && not (aborted_in log t) && list_all (committed_in log) (elim o [ Some p ↦ p.1 | None ↦ [] ])) ≡ true → PartIs log t h
    at None q v = absurd (both_ways false refl v)
    at (Some p) q v =
        let x = and_parts _ (list_all (committed_in log) p.1) v in
        let y = and_parts _ (not (aborted_in log t)) x.0 in
        record { listed = p; prepare = q; home = eqb-true p.0 h y.0; unaborted = is_not (aborted_in log t) y.1; committed = x.1 }

-- ---- who is committed in some log

by_own : (log : List LogRecord) (t : TxId) → tx_in t (committed_of log) ≡ true → committed_in log t ≡ true
by_own [] t i = absurd (both_ways false refl i)
by_own (Commit tx parts ∷ rs) t i =
    ⊎_elim (λ e. or_left (tx_same t tx) _ (subst (λ z. tx_same t z ≡ true) e (tx_self t))) (λ j. or_right (tx_same t tx) _ (by_own rs t j)) (in_insert tx t (committed_of rs) i)
by_own (Update tx a b d ∷ rs) t i = by_own rs t i
by_own (Clr tx a b d ∷ rs) t i = by_own rs t i
by_own (Prepare tx a b ∷ rs) t i = by_own rs t i
by_own (Abort tx ∷ rs) t i = by_own rs t i
by_own (End tx ∷ rs) t i = by_own rs t i
by_own (Restart run epoch ∷ rs) t i = by_own rs t i
by_own (Add tx a by ∷ rs) t i = by_own rs t i
by_own (Unadd tx a b by ∷ rs) t i = by_own rs t i
by_own (Forgotten ∷ rs) t i = by_own rs t i
by_own (Check run' epoch' upto base ∷ rs) t i = by_own rs t i

some_log : (logs : List (List LogRecord)) (t : TxId) → tx_in t (committed_of_all logs) ≡ true → (n : ℕ) × (n < length logs) × (committed_in (log_of logs n) t ≡ true)
some_log [] t i = absurd (both_ways false refl i)
some_log (log ∷ logs) t i =
    ⊎_elim (λ j. (0, omega arith, by_own log t j)) (λ j. let r = some_log logs t j in let l = r.1 in (suc r.0, omega (arith, l), r.2)) (in_union t (committed_of log) (committed_of_all logs) i)

none_apart : (logs : List (List LogRecord)) (ts : List TxId) → ((t : TxId) → tx_in t ts ≡ true → any_log_from 0 (is_home_of logs t) logs ≡ true) → first_apart logs ts ≡ None
none_apart logs [] k = refl
none_apart logs (t ∷ ts) k =
    ap (λ b. elim b [ true ↦ first_apart logs ts | false ↦ Some t ]) (k t (or_left (tx_same t t) _ (tx_self t))) ∙ none_apart logs ts (λ u i. k u (or_right (tx_same t u) _ i))

-- the logs agree where each that is committed in some log has a home
abbrev pub HasHome : List (List LogRecord) → TxId → Type 0
HasHome logs t = (h : ℕ) × (h < length logs) × (ps : List ℕ) × HomeIs logs t h ps

pub agree : (logs : List (List LogRecord)) → ((n : ℕ) (t : TxId) → n < length logs → committed_in (log_of logs n) t ≡ true → HasHome logs t) → apart logs ≡ None
agree logs k =
    none_apart logs (committed_of_all logs) (λ t i.
    let r = some_log logs t i in
    let h = k r.0 t r.1 r.2 in
    any_log (is_home_of logs t) 0 h.0 logs h.1 (subst (λ z. is_home_of logs t z (log_of logs h.0) ≡ true) (omega arith) (home_here logs t h.0 h.2 h.3)))
