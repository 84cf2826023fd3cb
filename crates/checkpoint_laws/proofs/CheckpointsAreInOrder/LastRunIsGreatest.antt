-- The last RESTART of a log in order is of its greatest run, so its records' transactions are of no later one.
use Rattle.std.proofs.Common.{◌≡◌, ⊎_elim, refl, sym, subst, ℕ, ◌≤◌, true, false, ◌&&◌, ◌||◌, ◌==◌, nat_lt, List, [], ◌∷◌, ◌++◌, None, eqb-true, arith}
use Rattle.std.specs.List.{AllByRecursion}
use Rattle.std.proofs.lemmas.Bool.{both_ways, and_parts, or_cases, ltb-true}
use Rattle.clv_base.specs.declared.names.TxId.{TxId}
use Rattle.clv_base.specs.declared.logs.LogRecord.{LogRecord}
use Rattle.clv_base.specs.declared.logs.LogRecord.TheVariants.{Update, Clr, Prepare, Commit, Abort, End, Restart, Add, Unadd, Forgotten, Check}
use Rattle.clv_base.specs.LogRules.{last_restart, above_restarts, part_of, disorder}
use Rattle.clv_base.specs.Restarts.{greatest_run}
use Rattle.clv_base.specs.Checkpoints.{no_restart}
use Rattle.law_base.specs.Coming.{is_of_past, may_come}
use Rattle.law_base.proofs.Bools.{and_first as front}
use Rattle.law_base.proofs.InOrder.{through}
use Rattle.law_base.proofs.Logs.{last_restart_push}
use Rattle.law_base.proofs.Parts.{in_order_comes}
use Rattle.law_base.proofs.Restarts.{Plainly, last_push}
use Rattle.protocol_laws.specs.Order.{RunFits}
use Rattle.protocol_laws.proofs.LogsInOrder.{runs_in_order}
use Rattle.protocol_laws.proofs.LogsInOrder.RunsAreOfRestarts.{all_fit_more, past_fits}
use Rattle.shard_laws.proofs.Order.RecordByRecord.{greatest_push, greatest_plain, greatest_front}

no_later : (r e run epoch : ℕ) → (nat_lt r run || ((r == run) && nat_lt e epoch)) ≡ true → r ≤ run
no_later r e run epoch h =
    ⊎_elim (λ l. let q = ltb-true r run l in omega (arith, q)) (λ s. let q = eqb-true r run (front (r == run) (nat_lt e epoch) s) in omega (arith, q))
    (or_cases (nat_lt r run) ((r == run) && nat_lt e epoch) h)

above_greatest : (run epoch : ℕ) (log : List LogRecord) → above_restarts run epoch log ≡ true → greatest_run log ≤ run
above_greatest run epoch [] a = omega arith
above_greatest run epoch (Restart r e ∷ rs) a =
    let x = and_parts (nat_lt r run || ((r == run) && nat_lt e epoch)) (above_restarts run epoch rs) a in
    let k = above_greatest run epoch rs x.1 in let l = no_later r e run epoch x.0 in omega (arith, k, l)
above_greatest run epoch (Check r e upto base ∷ rs) a =
    let x = and_parts (nat_lt r run || ((r == run) && nat_lt e epoch)) (above_restarts run epoch rs) a in
    let k = above_greatest run epoch rs x.1 in let l = no_later r e run epoch x.0 in omega (arith, k, l)
above_greatest run epoch (Update tx key before after ∷ rs) a = above_greatest run epoch rs a
above_greatest run epoch (Clr tx undo_next key after ∷ rs) a = above_greatest run epoch rs a
above_greatest run epoch (Prepare tx home ps ∷ rs) a = above_greatest run epoch rs a
above_greatest run epoch (Commit tx parts ∷ rs) a = above_greatest run epoch rs a
above_greatest run epoch (Abort tx ∷ rs) a = above_greatest run epoch rs a
above_greatest run epoch (End tx ∷ rs) a = above_greatest run epoch rs a
above_greatest run epoch (Add tx key by ∷ rs) a = above_greatest run epoch rs a
above_greatest run epoch (Unadd tx undo_next key by ∷ rs) a = above_greatest run epoch rs a
above_greatest run epoch (Forgotten ∷ rs) a = above_greatest run epoch rs a

abbrev IsLast : List LogRecord → Type 0
IsLast log = greatest_run log ≤ (no_restart (last_restart log)).0

plain_step : (log : List LogRecord) (r : LogRecord) → Plainly r → IsLast log → IsLast (log ++ r ∷ [])
plain_step log r p l = subst (λ o. greatest_run (log ++ r ∷ []) ≤ (no_restart o).0) (sym (last_push log r p)) (greatest_plain log r (no_restart (last_restart log)).0 p l)

last_step : (shard : ℕ) (part log : List LogRecord) (r : LogRecord) → may_come shard part log r ≡ true → IsLast log → IsLast (log ++ r ∷ [])
last_step shard part log (Restart run epoch) m l =
    subst (λ o. greatest_run (log ++ Restart run epoch ∷ []) ≤ (no_restart o).0) (sym (last_restart_push log run epoch)) (greatest_push log (Restart run epoch) run (above_greatest run epoch log (front _ _ m)) (omega arith))
last_step shard part log (Check run epoch upto base) m l = absurd (both_ways false refl m)
last_step shard part log (Update tx key before after) m l = plain_step log (Update tx key before after) tt l
last_step shard part log (Clr tx undo_next key after) m l = plain_step log (Clr tx undo_next key after) tt l
last_step shard part log (Prepare tx home ps) m l = plain_step log (Prepare tx home ps) tt l
last_step shard part log (Commit tx parts) m l = plain_step log (Commit tx parts) tt l
last_step shard part log (Abort tx) m l = plain_step log (Abort tx) tt l
last_step shard part log (End tx) m l = plain_step log (End tx) tt l
last_step shard part log (Add tx key by) m l = plain_step log (Add tx key by) tt l
last_step shard part log (Unadd tx undo_next key by) m l = plain_step log (Unadd tx undo_next key by) tt l
last_step shard part log Forgotten m l = plain_step log Forgotten tt l

pub last_is_greatest : (shard : ℕ) (log : List LogRecord) → disorder shard log ≡ None → greatest_run log ≤ (no_restart (last_restart log)).0
last_is_greatest shard log d =
    through IsLast shard (part_of log) (λ l r g p m. last_step shard (part_of log) l r m p) log (in_order_comes shard log d) (omega arith) (λ run epoch upto base rises. omega arith)

pub of_last_run : (shard : ℕ) (log : List LogRecord) → disorder shard log ≡ None → AllByRecursion (RunFits (no_restart (last_restart log)).0) log
of_last_run shard log d = all_fit_more (greatest_run log) (no_restart (last_restart log)).0 log (last_is_greatest shard log d) (runs_in_order shard log d)

-- who is of the past of a front is of no later run
pub past_of_last : (shard : ℕ) (log before rest : List LogRecord) → disorder shard log ≡ None → log ≡ before ++ rest → (t : TxId) → is_of_past before t ≡ true → t.run ≤ (no_restart (last_restart log)).0
past_of_last shard log before rest d is t e =
    let p = past_fits before t e in
    let k = last_is_greatest shard log d in
    let l = greatest_front before rest (no_restart (last_restart log)).0 (subst (λ z. greatest_run z ≤ (no_restart (last_restart log)).0) is k) in
    omega (arith, p, l)
