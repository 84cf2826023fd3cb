-- One shard has nothing in doubt: it is the home of all that is prepared.
use Rattle.std.proofs.Common.{◌≡◌, refl, ap, ◌∙◌, true, false, Bool, List, [], ◌∷◌, is_none, not, ◌&&◌, ◌||◌, ◌==◌, nat_lt, arith, eq-eqb}
use Rattle.std.specs.List.{list_all}
use Rattle.std.proofs.lemmas.Bool.{both_ways, and_parts, ltb-true, cond-false}
use Rattle.clv_base.specs.declared.names.TxId.{TxId}
use Rattle.clv_base.specs.declared.logs.LogRecord.{LogRecord}
use Rattle.clv_base.specs.declared.logs.LogRecord.TheVariants.{Update, Clr, Prepare, Commit, Abort, End, Restart, Add, Unadd, Forgotten, Check}
use Rattle.clv_base.specs.Orders.{tx_in, tx_insert}
use Rattle.clv_base.specs.Logs.{in_doubt, in_doubt_from, doubt_by, committed_in, aborted_in}
use Rattle.clv_base.specs.LogRules.{log_of, disorder, all_logs_from, apart}
use Rattle.clv_base.specs.FileRules.{passes_file_rules, log_passes, may_open}
use Rattle.clv_base.specs.History.{logs_left}
use Rattle.headline_laws.proofs.LogsLeftMayBeOpened.{logs_left_may_be_opened}
use Rattle.headline_laws.specs.Doubting.{NothingInDoubt}

no_doubt : (log rs : List LogRecord) (so_far : List TxId) → list_all (passes_file_rules [] 0) rs ≡ true → in_doubt_from log 0 rs so_far ≡ so_far
no_doubt log [] sf e = refl
no_doubt log (Prepare tx home ps ∷ rs) sf e =
    let p = and_parts (nat_lt home 1) (list_all (passes_file_rules [] 0) rs) e in
    let l = ltb-true home 1 p.0 in
    ap (λ z. in_doubt_from log 0 rs z) (cond-false (doubt_by log 0 tx home ps sf) (tx_insert tx sf) sf (its_home (0 == home) (eq-eqb 0 home (omega (arith, l))))) ∙ no_doubt log rs sf p.1
  where
    its_home : (b : Bool) → b ≡ true → (not b && not (committed_in log tx) && not (aborted_in log tx) && list_all (λ p. committed_in log p || tx_in p sf) ps) ≡ false
    its_home true q = refl
    its_home false q = absurd (both_ways false refl q)
no_doubt log (Update tx key before after ∷ rs) sf e = no_doubt log rs sf (and_parts (passes_file_rules [] 0 (Update tx key before after)) (list_all (passes_file_rules [] 0) rs) e).1
no_doubt log (Clr tx next key after ∷ rs) sf e = no_doubt log rs sf (and_parts (passes_file_rules [] 0 (Clr tx next key after)) (list_all (passes_file_rules [] 0) rs) e).1
no_doubt log (Commit tx parts ∷ rs) sf e = no_doubt log rs sf (and_parts (passes_file_rules [] 0 (Commit tx parts)) (list_all (passes_file_rules [] 0) rs) e).1
no_doubt log (Abort tx ∷ rs) sf e = no_doubt log rs sf (and_parts (passes_file_rules [] 0 (Abort tx)) (list_all (passes_file_rules [] 0) rs) e).1
no_doubt log (End tx ∷ rs) sf e = no_doubt log rs sf (and_parts (passes_file_rules [] 0 (End tx)) (list_all (passes_file_rules [] 0) rs) e).1
no_doubt log (Restart run epoch ∷ rs) sf e = no_doubt log rs sf (and_parts (passes_file_rules [] 0 (Restart run epoch)) (list_all (passes_file_rules [] 0) rs) e).1
no_doubt log (Add tx key by ∷ rs) sf e = no_doubt log rs sf (and_parts (passes_file_rules [] 0 (Add tx key by)) (list_all (passes_file_rules [] 0) rs) e).1
no_doubt log (Unadd tx next key by ∷ rs) sf e = no_doubt log rs sf (and_parts (passes_file_rules [] 0 (Unadd tx next key by)) (list_all (passes_file_rules [] 0) rs) e).1
no_doubt log (Forgotten ∷ rs) sf e = no_doubt log rs sf (and_parts (passes_file_rules [] 0 Forgotten) (list_all (passes_file_rules [] 0) rs) e).1
no_doubt log (Check run' epoch' upto base ∷ rs) sf e = no_doubt log rs sf (and_parts (passes_file_rules [] 0 (Check run' epoch' upto base)) (list_all (passes_file_rules [] 0) rs) e).1

-- the one log that may be opened leaves nothing in doubt
pub none_in_doubt : (log : List LogRecord) → may_open [] (log ∷ []) ≡ true → in_doubt 0 log ≡ []
none_in_doubt log may =
    let p = and_parts (all_logs_from 0 (log_passes []) (log ∷ [])) (is_none (apart (log ∷ []))) may in
    let q = and_parts (log_passes [] 0 log) true p.0 in
    no_doubt log log [] (and_parts (list_all (passes_file_rules [] 0) log) (is_none (disorder 0 log)) q.0).0

-- and what a crash leaves may be opened
pub nothing_in_doubt : NothingInDoubt
nothing_in_doubt before may = (none_in_doubt before may, λ h after choice l. none_in_doubt (log_of (logs_left [] (before ∷ []) h after choice) 0) (logs_left_may_be_opened [] (before ∷ []) h after choice (record { opens = may; legal = l })))
