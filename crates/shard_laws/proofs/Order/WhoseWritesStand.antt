-- Of whom a write stands in a log: it wrote, and how more records change it.
use Rattle.std.proofs.Common.{◌≡◌, ◌⊎◌, inl, inr, ⊎_elim, refl, sym, ap, subst, ◌∙◌, ℕ, suc, ◌+◌, ◌<◌, true, false, not, ◌&&◌, ◌||◌, List, [], ◌∷◌, ◌++◌, length, Option, Some, None, is_some, nat_lt, nat_le, arith, append_assoc, length-append}
use Rattle.std.specs.List.{AllByRecursion, list_any}
use Rattle.std.proofs.lemmas.Bool.{cases_Bool, both_ways, or_cases, and_parts, and_from, not-true, lt-ltb}
use Rattle.clv_base.specs.declared.names.TxId.{TxId}
use Rattle.clv_base.specs.declared.logs.LogRecord.{LogRecord}
use Rattle.clv_base.specs.declared.logs.LogRecord.TheVariants.{Update, Clr, Prepare, Commit, Abort, End, Restart, Add, Unadd, Forgotten, Check}
use Rattle.clv_base.specs.Orders.{tx_same, tx_in}
use Rattle.clv_base.specs.Logs.{StandingUpdate, standing, standing_from, standing_after, has_standing, wrote_in, committed_in, prepared_in, aborted_in, is_undo_of, is_prepare_of, is_abort_of, writers}
use Rattle.clv_base.specs.LogRules.{may_undo, last_restart, before_restart, has_new_standing, part_of, disorder}
use Rattle.clv_base.proofs.Folding.{or_left as or_false_left, or_right as or_false_right}
use Rattle.clv_base.proofs.SameNames.{or_left, or_right, tx_true, tx_eq, in_insert}
use Rattle.law_base.proofs.Bools.{and_first as front, and_second as last}
use Rattle.law_base.proofs.Lists.{all_mono}
use Rattle.law_base.proofs.Logs.{push_left}
use Rattle.law_base.proofs.Standing.{standing_append, all_without, has_write, all_wrote, of_writer, without_other}
use Rattle.law_base.proofs.Sets.{each_writer}
use Rattle.protocol_laws.proofs.LogsInOrder.OneRecordMore.{push_cases}
use Rattle.law_base.specs.Coming.{is_of_past, is_bare, may_come}
use Rattle.law_base.proofs.InOrder.{through}
use Rattle.law_base.proofs.LetGo.{in_part}
use Rattle.law_base.proofs.Parts.{in_order_comes}
use Rattle.law_base.proofs.Restarts.{Plainly, before_push}

-- a writer of these
pub writer_has : (t : TxId) (ws : List StandingUpdate) → tx_in t (writers ws) ≡ true → has_write ws t ≡ true
writer_has t [] i = i
writer_has t (w ∷ ws) i = ⊎_elim (λ s. or_left _ _ (tx_eq t w.tx s)) (λ j. or_right (tx_same t w.tx) _ (writer_has t ws j)) (in_insert w.tx t (writers ws) i)

pub has_writer : (t : TxId) (ws : List StandingUpdate) → has_write ws t ≡ true → tx_in t (writers ws) ≡ true
has_writer t ws h = of_writer (λ u. tx_in u (writers ws) ≡ true) ws t (each_writer ws) h

-- ---- more records

has_on : (n : ℕ) (r : LogRecord) (ws : List StandingUpdate) (t : TxId) → is_undo_of t r ≡ false → has_write ws t ≡ true → has_write (standing_after n r ws) t ≡ true
has_on n (Update tx k b a) ws t o e = or_right (tx_same t tx) _ e
has_on n (Clr tx u k a) ws t o e = without_other t tx ws o ∙ e
has_on n (Prepare tx home ps) ws t o e = e
has_on n (Commit tx ps) ws t o e = e
has_on n (Abort tx) ws t o e = e
has_on n (End tx) ws t o e = e
has_on n (Restart run epoch) ws t o e = e
has_on n (Add tx k by) ws t o e = or_right (tx_same t tx) _ e
has_on n (Unadd tx u k by) ws t o e = without_other t tx ws o ∙ e
has_on n Forgotten ws t o e = e
has_on n (Check run' epoch' upto base) ws t o e = e

on_all : (n : ℕ) (rs : List LogRecord) (ws : List StandingUpdate) (t : TxId) → list_any (is_undo_of t) rs ≡ false → has_write ws t ≡ true → has_write (standing_from n rs ws) t ≡ true
on_all n [] ws t o e = e
on_all n (r ∷ rs) ws t o e = on_all (suc n) rs (standing_after n r ws) t (or_false_right (is_undo_of t r) (list_any (is_undo_of t) rs) o) (has_on n r ws t (or_false_left (is_undo_of t r) (list_any (is_undo_of t) rs) o) e)

-- who had one has one still, where none of its writes is undone
pub has_still : (log more : List LogRecord) (t : TxId) → list_any (is_undo_of t) more ≡ false → has_standing log t ≡ true → has_standing (log ++ more) t ≡ true
has_still log more t o e = subst (λ ws. has_write ws t ≡ true) (sym (standing_append 0 log more [])) (on_all (0 + length log) more (standing log) t o e)

-- ---- writes behind the last RESTART

one_off : (sf : List LogRecord) (r : LogRecord) (rs : List LogRecord) {xs : List LogRecord} → (length xs < length (sf ++ r ∷ []) + length rs) ⊎ (xs ≡ []) → (length xs < length sf + length (r ∷ rs)) ⊎ (xs ≡ [])
one_off sf r rs (inl l) = let a = length-append sf (r ∷ []) in inl (omega (arith, a, l))
one_off sf r rs (inr e) = inr e

-- what lies before it is less than all, or nothing
before_at : (sf rs : List LogRecord) → (length (before_restart sf rs) < length sf + length rs) ⊎ (before_restart sf rs ≡ [])
before_at sf [] = inr refl
before_at sf (Restart run epoch ∷ rs) =
    inl (⊎_elim
    (λ l. let a = length-append sf (before_restart (Restart run epoch ∷ []) rs) in omega (arith, a, l))
    (λ e. let a = length-append sf (before_restart (Restart run epoch ∷ []) rs) in let b = ap length e in omega (arith, a, b))
    (before_at (Restart run epoch ∷ []) rs))
before_at sf (Update tx k b a ∷ rs) = one_off sf (Update tx k b a) rs (before_at (sf ++ Update tx k b a ∷ []) rs)
before_at sf (Clr tx u k a ∷ rs) = one_off sf (Clr tx u k a) rs (before_at (sf ++ Clr tx u k a ∷ []) rs)
before_at sf (Prepare tx home ps ∷ rs) = one_off sf (Prepare tx home ps) rs (before_at (sf ++ Prepare tx home ps ∷ []) rs)
before_at sf (Commit tx ps ∷ rs) = one_off sf (Commit tx ps) rs (before_at (sf ++ Commit tx ps ∷ []) rs)
before_at sf (Abort tx ∷ rs) = one_off sf (Abort tx) rs (before_at (sf ++ Abort tx ∷ []) rs)
before_at sf (End tx ∷ rs) = one_off sf (End tx) rs (before_at (sf ++ End tx ∷ []) rs)
before_at sf (Add tx k by ∷ rs) = one_off sf (Add tx k by) rs (before_at (sf ++ Add tx k by ∷ []) rs)
before_at sf (Unadd tx u k by ∷ rs) = one_off sf (Unadd tx u k by) rs (before_at (sf ++ Unadd tx u k by ∷ []) rs)
before_at sf (Forgotten ∷ rs) = one_off sf Forgotten rs (before_at (sf ++ Forgotten ∷ []) rs)
before_at sf (Check run' epoch' upto base ∷ rs) =
    inl (⊎_elim
    (λ l. let a = length-append sf (before_restart (Check run' epoch' upto base ∷ []) rs) in omega (arith, a, l))
    (λ e. let a = length-append sf (before_restart (Check run' epoch' upto base ∷ []) rs) in let b = ap length e in omega (arith, a, b))
    (before_at (Check run' epoch' upto base ∷ []) rs))

pub before_less : (log : List LogRecord) → is_some (last_restart log) ≡ true → length (before_restart [] log) < length log
before_less [] s = absurd (both_ways false refl s)
before_less (r ∷ rs) s = ⊎_elim (λ l. omega (arith, l)) (λ e. let b = ap length e in omega (arith, b)) (before_at [] (r ∷ rs))

restart_before : (sf log : List LogRecord) (run epoch : ℕ) → before_restart sf (log ++ Restart run epoch ∷ []) ≡ sf ++ log
restart_before sf [] run epoch = refl
restart_before sf (Restart r e ∷ rs) run epoch = ap (λ l. sf ++ l) (restart_before (Restart r e ∷ []) rs run epoch)
restart_before sf (Update tx k b a ∷ rs) run epoch = restart_before (sf ++ Update tx k b a ∷ []) rs run epoch ∙ append_assoc sf (Update tx k b a ∷ []) rs
restart_before sf (Clr tx u k a ∷ rs) run epoch = restart_before (sf ++ Clr tx u k a ∷ []) rs run epoch ∙ append_assoc sf (Clr tx u k a ∷ []) rs
restart_before sf (Prepare tx home ps ∷ rs) run epoch = restart_before (sf ++ Prepare tx home ps ∷ []) rs run epoch ∙ append_assoc sf (Prepare tx home ps ∷ []) rs
restart_before sf (Commit tx ps ∷ rs) run epoch = restart_before (sf ++ Commit tx ps ∷ []) rs run epoch ∙ append_assoc sf (Commit tx ps ∷ []) rs
restart_before sf (Abort tx ∷ rs) run epoch = restart_before (sf ++ Abort tx ∷ []) rs run epoch ∙ append_assoc sf (Abort tx ∷ []) rs
restart_before sf (End tx ∷ rs) run epoch = restart_before (sf ++ End tx ∷ []) rs run epoch ∙ append_assoc sf (End tx ∷ []) rs
restart_before sf (Add tx k by ∷ rs) run epoch = restart_before (sf ++ Add tx k by ∷ []) rs run epoch ∙ append_assoc sf (Add tx k by ∷ []) rs
restart_before sf (Unadd tx u k by ∷ rs) run epoch = restart_before (sf ++ Unadd tx u k by ∷ []) rs run epoch ∙ append_assoc sf (Unadd tx u k by ∷ []) rs
restart_before sf (Forgotten ∷ rs) run epoch = restart_before (sf ++ Forgotten ∷ []) rs run epoch ∙ append_assoc sf (Forgotten ∷ []) rs
restart_before sf (Check run' epoch' upto base ∷ rs) run epoch = ap (λ l. sf ++ l) (restart_before (Check run' epoch' upto base ∷ []) rs run epoch)

-- a write lies behind it, or its transaction wrote before it
abbrev Placed : List LogRecord → StandingUpdate → Type 0
Placed before w = (nat_lt (length before) w.lsn ≡ true) ⊎ (wrote_in before w.tx ≡ true)

abbrev AllPlaced : List LogRecord → Type 0
AllPlaced log = AllByRecursion (Placed (before_restart [] log)) (standing log)

pub past_some : (tx : TxId) (o : Option (ℕ × ℕ)) → elim o [ Some p ↦ nat_le tx.run p.0 | None ↦ false ] ≡ true → is_some o ≡ true
past_some tx None e = e
past_some tx (Some p) e = refl

plain_placed : (log : List LogRecord) (r : LogRecord) → Plainly r → AllByRecursion (Placed (before_restart [] log)) (standing_after (0 + length log) r (standing log)) → AllPlaced (log ++ r ∷ [])
plain_placed log r p all = subst (λ b. AllByRecursion (Placed b) (standing (log ++ r ∷ []))) (sym (before_push [] log r p)) (subst (AllByRecursion (Placed (before_restart [] log))) (sym (standing_append 0 log (r ∷ []) [])) all)

new_placed : (log : List LogRecord) (tx : TxId) → is_of_past log tx ≡ true → nat_lt (length (before_restart [] log)) (0 + length log) ≡ true
new_placed log tx e = let l = before_less log (past_some tx (last_restart log) e) in lt-ltb _ _ (omega (arith, l))

placed_step : (shard : ℕ) (part log : List LogRecord) (r : LogRecord) → may_come shard part log r ≡ true → AllPlaced log → AllPlaced (log ++ r ∷ [])
placed_step shard part log (Restart run epoch) m all =
    subst (λ b. AllByRecursion (Placed b) (standing (log ++ Restart run epoch ∷ []))) (sym (restart_before [] log run epoch))
    (subst (AllByRecursion (Placed log)) (sym (standing_append 0 log (Restart run epoch ∷ []) [])) (all_mono _ _ (λ w h. inr h) (standing log) (all_wrote log)))
placed_step shard part log (Update tx k b a) m all = plain_placed log (Update tx k b a) tt (inl (new_placed log tx (front _ _ (front _ _ (front _ _ (front _ _ (front _ _ (front _ _ (front _ _ (front _ _ m))))))))), all)
placed_step shard part log (Clr tx u k a) m all = plain_placed log (Clr tx u k a) tt (all_without _ tx (standing log) all)
placed_step shard part log (Prepare tx home ps) m all = plain_placed log (Prepare tx home ps) tt all
placed_step shard part log (Commit tx ps) m all = plain_placed log (Commit tx ps) tt all
placed_step shard part log (Abort tx) m all = plain_placed log (Abort tx) tt all
placed_step shard part log (End tx) m all = plain_placed log (End tx) tt all
placed_step shard part log (Add tx k by) m all = plain_placed log (Add tx k by) tt (inl (new_placed log tx (front _ _ (front _ _ (front _ _ (front _ _ (front _ _ (front _ _ (front _ _ m)))))))), all)
placed_step shard part log (Unadd tx u k by) m all = plain_placed log (Unadd tx u k by) tt (all_without _ tx (standing log) all)
placed_step shard part log Forgotten m all = plain_placed log Forgotten tt all
placed_step shard part log (Check run' epoch' upto base) m all = absurd cc

new_in : (before : List LogRecord) (t : TxId) (ws : List StandingUpdate) → wrote_in before t ≡ false → AllByRecursion (Placed before) ws → has_write ws t ≡ true → list_any (λ w. tx_same t w.tx && nat_lt (length before) w.lsn) ws ≡ true
new_in before t [] n all e = e
new_in before t (w ∷ ws) n all e =
    ⊎_elim
    (λ s. or_left _ _ (and_from _ _ s (⊎_elim (λ l. l) (λ o. absurd (both_ways _ n (subst (λ z. wrote_in before z ≡ true) (sym (tx_true t w.tx s)) o))) all.0)))
    (λ r. or_right (tx_same t w.tx && nat_lt (length before) w.lsn) _ (new_in before t ws n all.1 r))
    (or_cases (tx_same t w.tx) (has_write ws t) e)

-- who wrote nothing before the last RESTART, and of whom a write stands, has one behind it
pub new_standing : (shard : ℕ) (log : List LogRecord) → disorder shard log ≡ None → (t : TxId) → has_standing log t ≡ true → wrote_in (before_restart [] log) t ≡ false → has_new_standing log t ≡ true
new_standing shard log d t e n =
    new_in (before_restart [] log) t (standing log) n
    (through AllPlaced shard (part_of log) (λ l r g p m. placed_step shard (part_of log) l r m p) log (in_order_comes shard log d) tt (λ run epoch upto base rises. tt)) e

old_in : (n : ℕ) (t : TxId) (ws : List StandingUpdate) → list_any (λ w. tx_same t w.tx && nat_lt n w.lsn) ws ≡ true → has_write ws t ≡ true
old_in n t [] e = e
old_in n t (w ∷ ws) e = ⊎_elim (λ h. or_left _ _ (and_parts (tx_same t w.tx) (nat_lt n w.lsn) h).0) (λ r. or_right (tx_same t w.tx) _ (old_in n t ws r)) (or_cases (tx_same t w.tx && nat_lt n w.lsn) (list_any (λ w. tx_same t w.tx && nat_lt n w.lsn) ws) e)

pub new_stands : (log : List LogRecord) (t : TxId) → has_new_standing log t ≡ true → has_standing log t ≡ true
new_stands log t e = old_in (length (before_restart [] log)) t (standing log) e

-- ---- of who is prepared a write stands, or it is aborted, or committed in what a checkpoint kept

abbrev PreparedStands : List LogRecord → List LogRecord → Type 0
PreparedStands part log = (t : TxId) → prepared_in log t ≡ true → (has_standing log t ≡ true) ⊎ ((aborted_in log t ≡ true) ⊎ (committed_in part t ≡ true))

undo_rule : (shard : ℕ) (part log : List LogRecord) (r : LogRecord) (t : TxId) → may_come shard part log r ≡ true → is_undo_of t r ≡ true → may_undo log t ≡ true
undo_rule shard part log (Clr tx u k a) t m e = subst (λ z. may_undo log z ≡ true) (sym (tx_true t tx e)) (last _ _ (front _ _ m))
undo_rule shard part log (Unadd tx u k by) t m e = subst (λ z. may_undo log z ≡ true) (sym (tx_true t tx e)) (last _ _ (front _ _ m))
undo_rule shard part log _ t m e = absurd (both_ways false refl e)

prepare_rule : (shard : ℕ) (part log : List LogRecord) (r : LogRecord) (t : TxId) → may_come shard part log r ≡ true → is_prepare_of t r ≡ true → ((has_standing log t ≡ true) × (is_undo_of t r ≡ false)) ⊎ (committed_in part t ≡ true)
prepare_rule shard part log (Prepare tx home ps) t m e =
    ⊎_elim (λ n. inl (subst (λ z. has_standing log z ≡ true) (sym (tx_true t tx e)) (new_stands log tx n), refl)) (λ b. inr (subst (λ z. committed_in part z ≡ true) (sym (tx_true t tx e)) (bare ps b)))
    (or_cases (has_new_standing log tx) (is_bare part log tx ps) (last _ _ (front _ _ (front _ _ (front _ _ (front _ _ (front _ _ m)))))))
  where
    bare : (qs : List TxId) → is_bare part log tx qs ≡ true → committed_in part tx ≡ true
    bare [] b = front _ _ b
    bare (q ∷ qs) b = absurd (both_ways false refl b)
prepare_rule shard part log _ t m e = absurd (both_ways false refl e)

prepared_step : (shard : ℕ) (part log : List LogRecord) (r : LogRecord) → may_come shard part log r ≡ true → PreparedStands part log → PreparedStands part (log ++ r ∷ [])
prepared_step shard part log r m old t e =
    ⊎_elim
    (λ p. ⊎_elim
    (λ u. inr (inl (push_left (is_abort_of t) log r (open_aborted p (undo_rule shard part log r t m u)))))
    (λ n. ⊎_elim (λ h. inl (has_still log (r ∷ []) t (ap (λ b. b || false) n) h)) (λ a. inr (⊎_elim (λ x. inl (push_left (is_abort_of t) log r x)) (λ c. inr c) a)) (old t p))
    (cases_Bool (is_undo_of t r)))
    (λ p. ⊎_elim (λ q. inl (has_still log (r ∷ []) t (ap (λ b. b || false) q.1) q.0)) (λ c. inr (inr c)) (prepare_rule shard part log r t m p))
    (push_cases (is_prepare_of t) log r e)
  where
    open_aborted : prepared_in log t ≡ true → may_undo log t ≡ true → aborted_in log t ≡ true
    open_aborted p u = ⊎_elim (λ a. a) (λ o. absurd (both_ways _ (not-true _ (front _ _ o)) p)) (or_cases (aborted_in log t) (not (prepared_in log t) && not (committed_in log t)) u)

pub prepared_stands : (shard : ℕ) (log : List LogRecord) → disorder shard log ≡ None → (t : TxId) → prepared_in log t ≡ true → (has_standing log t ≡ true) ⊎ ((aborted_in log t ≡ true) ⊎ (committed_in (part_of log) t ≡ true))
prepared_stands shard log d =
    through (PreparedStands (part_of log)) shard (part_of log) (λ l r g p m. prepared_step shard (part_of log) l r m p) log (in_order_comes shard log d) (λ t e. absurd (both_ways false refl e))
    (λ run epoch upto base rises t e. absurd (both_ways false refl e))

-- and where it isn't committed
pub open_stands : (shard : ℕ) (log : List LogRecord) → disorder shard log ≡ None → (t : TxId) → prepared_in log t ≡ true → committed_in log t ≡ false → (has_standing log t ≡ true) ⊎ (aborted_in log t ≡ true)
open_stands shard log d t p n = ⊎_elim (λ h. inl h) (λ a. ⊎_elim (λ x. inr x) (λ c. absurd (both_ways _ n (in_part log t c))) a) (prepared_stands shard log d t p)
