-- The committed transactions, in whichever order they join the list.
use Rattle.std.proofs.Common.{◌≡◌, Bool, true, false, cond, ◌||◌, List, [], ◌∷◌, refl, sym, ap, ◌∙◌}
use Rattle.clv_base.specs.declared.names.TxId.{TxId}
use Rattle.clv_base.specs.declared.logs.LogRecord.{LogRecord}
use Rattle.clv_base.specs.declared.logs.LogRecord.TheVariants.{Update, Clr, Prepare, Commit, Abort, End, Restart, Add, Unadd, Forgotten, Check}
use Rattle.clv_base.specs.Orders.{tx_same, tx_in, tx_insert, tx_union}
use Rattle.clv_base.specs.Logs.{is_commit_of, committed_in, committed_somewhere}
use Rattle.clv_base.specs.LogRules.{committed_of, committed_of_all}
use Rattle.law_base.proofs.Names.{in_inserted}
use Rattle.log_rules.specs.Committed.{with_commit, with_commits, with_all_commits}
use Rattle.law_base.proofs.Sets.{same_flip as tx_symmetric, insert_rises, nothing_rises, same_list, union_rises}
use Rattle.law_base.proofs.Names.{Rise as Rises}
use Rattle.law_base.proofs.Bools.{or_false}

-- ---- the definition's list

in_one_more : (tx t : TxId) (xs : List TxId) → tx_in t (tx_insert tx xs) ≡ tx_same t tx || tx_in t xs
in_one_more tx t xs = in_inserted tx t xs ∙ ap (λ b. cond b true (tx_in t xs)) (tx_symmetric tx t) ∙ either (tx_same t tx) (tx_in t xs)
  where
    either : (a b : Bool) → cond a true b ≡ a || b
    either true b = refl
    either false b = refl

in_committed : (t : TxId) (log : List LogRecord) → tx_in t (committed_of log) ≡ committed_in log t
in_committed t [] = refl
in_committed t (Commit tx parts ∷ rs) = in_one_more tx t (committed_of rs) ∙ ap (λ b. tx_same t tx || b) (in_committed t rs)
in_committed t (_ ∷ rs) = in_committed t rs

or_assoc : (a b c : Bool) → a || (b || c) ≡ (a || b) || c
or_assoc true b c = refl
or_assoc false b c = refl

in_union : (t : TxId) (xs ys : List TxId) → tx_in t (tx_union xs ys) ≡ tx_in t xs || tx_in t ys
in_union t [] ys = refl
in_union t (x ∷ xs) ys =
    in_one_more x t (tx_union xs ys) ∙ ap (λ b. b || tx_in t (tx_union xs ys)) (tx_symmetric t x) ∙ ap (λ b. tx_same x t || b) (in_union t xs ys) ∙ or_assoc (tx_same x t) (tx_in t xs) (tx_in t ys)

in_committed_all : (t : TxId) (logs : List (List LogRecord)) → tx_in t (committed_of_all logs) ≡ committed_somewhere logs t
in_committed_all t [] = refl
in_committed_all t (log ∷ logs) =
    in_union t (committed_of log) (committed_of_all logs) ∙ ap (λ b. b || tx_in t (committed_of_all logs)) (in_committed t log) ∙ ap (λ b. committed_in log t || b) (in_committed_all t logs)

committed_rises : (logs : List (List LogRecord)) → Rises (committed_of_all logs)
committed_rises [] = nothing_rises
committed_rises (log ∷ logs) = union_rises (committed_of log) (committed_of_all logs) (committed_rises logs)

-- ---- the list that a pass over the logs makes

in_with : (t : TxId) (r : LogRecord) (txs : List TxId) → tx_in t (with_commit r txs) ≡ is_commit_of t r || tx_in t txs
in_with t (Commit tx parts) txs = in_one_more tx t txs
in_with t (Update tx key before after) txs = refl
in_with t (Clr tx undo_next key after) txs = refl
in_with t (Prepare tx home predecessors) txs = refl
in_with t (Abort tx) txs = refl
in_with t (End tx) txs = refl
in_with t (Restart run epoch) txs = refl
in_with t (Add tx key by) txs = refl
in_with t (Unadd tx undo_next key by) txs = refl
in_with t Forgotten txs = refl
in_with t (Check run' epoch' upto base) txs = refl

or_swap : (a b c : Bool) → a || (b || c) ≡ (b || a) || c
or_swap true true c = refl
or_swap true false c = refl
or_swap false true c = refl
or_swap false false c = refl

in_commits : (t : TxId) (log : List LogRecord) (txs : List TxId) → tx_in t (with_commits log txs) ≡ committed_in log t || tx_in t txs
in_commits t [] txs = refl
in_commits t (r ∷ rs) txs =
    in_commits t rs (with_commit r txs) ∙ ap (λ b. committed_in rs t || b) (in_with t r txs) ∙ or_swap (committed_in rs t) (is_commit_of t r) (tx_in t txs)

in_all : (t : TxId) (logs : List (List LogRecord)) (txs : List TxId) → tx_in t (with_all_commits logs txs) ≡ committed_somewhere logs t || tx_in t txs
in_all t [] txs = refl
in_all t (log ∷ logs) txs =
    in_all t logs (with_commits log txs) ∙ ap (λ b. committed_somewhere logs t || b) (in_commits t log txs) ∙ or_swap (committed_somewhere logs t) (committed_in log t) (tx_in t txs)

with_rises : (r : LogRecord) (txs : List TxId) → Rises txs → Rises (with_commit r txs)
with_rises (Commit tx parts) txs s = insert_rises tx txs s
with_rises (Update tx key before after) txs s = s
with_rises (Clr tx undo_next key after) txs s = s
with_rises (Prepare tx home predecessors) txs s = s
with_rises (Abort tx) txs s = s
with_rises (End tx) txs s = s
with_rises (Restart run epoch) txs s = s
with_rises (Add tx key by) txs s = s
with_rises (Unadd tx undo_next key by) txs s = s
with_rises Forgotten txs s = s
with_rises (Check run' epoch' upto base) txs s = s

commits_rise : (log : List LogRecord) (txs : List TxId) → Rises txs → Rises (with_commits log txs)
commits_rise [] txs s = s
commits_rise (r ∷ rs) txs s = commits_rise rs (with_commit r txs) (with_rises r txs s)

all_rise : (logs : List (List LogRecord)) (txs : List TxId) → Rises txs → Rises (with_all_commits logs txs)
all_rise [] txs s = s
all_rise (log ∷ logs) txs s = all_rise logs (with_commits log txs) (commits_rise log txs s)

pub commits_are : (logs : List (List LogRecord)) → with_all_commits logs [] ≡ committed_of_all logs
commits_are logs =
    same_list (with_all_commits logs []) (committed_of_all logs) (all_rise logs [] nothing_rises) (committed_rises logs)
    (λ t. in_all t logs [] ∙ or_false (committed_somewhere logs t) ∙ sym (in_committed_all t logs))
