-- What an opening may add to a log leaves what it stands for.
use Rattle.std.proofs.Common.{◌≡◌, refl, ap, ◌∙◌, Bool, true, false, ◌||◌, List, [], ◌∷◌, ◌++◌}
use Rattle.std.specs.List.{AllByRecursion, list_all}
use Rattle.std.proofs.lemmas.Bool.{and_parts, not-true}
use Rattle.std.proofs.lemmas.List.Folds.{list_any-append}
use Rattle.clv_base.specs.declared.names.TxId.{TxId}
use Rattle.clv_base.specs.declared.logs.LogRecord.{LogRecord}
use Rattle.clv_base.specs.declared.logs.LogRecord.TheVariants.{Update, Clr, Prepare, Commit, Abort, End, Restart, Add, Unadd, Forgotten, Check}
use Rattle.clv_base.specs.Maps.{KeyMap}
use Rattle.clv_base.specs.Logs.{committed_in, is_commit_of, fold_updates, committed_somewhere, stands_from}
use Rattle.cluster_runs.specs.Disks.{is_undo}
use Rattle.cluster_runs.specs.PromiseLaws.{UndoStands}
use Rattle.law_base.proofs.Bools.{or_none as or_false}
use Rattle.law_base.proofs.Lists.{all_mono}
use Rattle.law_base.proofs.Logs.{IsUndo, Spares, spares_undo, undo_passes_none, same_fold, stands_alike as same_stands}

-- the records take back no write of one that passes
spares : (keep : TxId → Bool) (more : List LogRecord) → list_all (is_undo keep) more ≡ true → AllByRecursion (Spares keep) more
spares keep [] all = tt
spares keep (r ∷ more) all = let p = and_parts (is_undo keep r) (list_all (is_undo keep) more) all in (one r p.0, spares keep more p.1)
  where
    one : (r : LogRecord) → is_undo keep r ≡ true → Spares keep r
    one (Abort tx) u = tt
    one (Clr tx next key after) u = not-true _ u
    one (Unadd tx next key by) u = not-true _ u
    one (Restart run epoch) u = tt
    one (Update tx key before after) u = absurd cc
    one (Prepare tx home ps) u = absurd cc
    one (Commit tx ps) u = absurd cc
    one (End tx) u = absurd cc
    one (Add tx key by) u = absurd cc
    one Forgotten u = absurd cc
    one (Check run' epoch' upto base) u = absurd cc

-- none of them is a COMMIT
commits_none : (keep : TxId → Bool) (t : TxId) (more : List LogRecord) → AllByRecursion (Spares keep) more → committed_in more t ≡ false
commits_none keep t more all = undo_passes_none (is_commit_of t) more one (all_mono (Spares keep) IsUndo (spares_undo keep) more all)
  where
    one : (r : LogRecord) → IsUndo r → is_commit_of t r ≡ false
    one (Commit tx ps) u = absurd u
    one _ u = refl

-- each transaction is committed in these logs as without them
same_commits : (keep : TxId → Bool) (front behind : List (List LogRecord)) (log more : List LogRecord) → AllByRecursion (Spares keep) more → (t : TxId)
    → committed_somewhere (front ++ (log ++ more) ∷ behind) t ≡ committed_somewhere (front ++ log ∷ behind) t
same_commits keep [] behind log more all t =
    ap (λ b. b || committed_somewhere behind t) (list_any-append (is_commit_of t) log more ∙ ap (λ b. committed_in log t || b) (commits_none keep t more all) ∙ or_false (committed_in log t))
same_commits keep (l ∷ front) behind log more all t = ap (λ b. committed_in l t || b) (same_commits keep front behind log more all t)

-- the map after them, by tests that agree
stands_with : (keep keep' : TxId → Bool) → ((t : TxId) → keep t ≡ keep' t) → (front behind : List (List LogRecord)) (log more : List LogRecord) (m : KeyMap) → AllByRecursion (Spares keep') more
    → stands_from keep (front ++ (log ++ more) ∷ behind) m ≡ stands_from keep' (front ++ log ∷ behind) m
stands_with keep keep' same front behind log more m all = same_stands keep keep' same (front ++ (log ++ more) ∷ behind) m ∙ added front m
  where
    added : (front : List (List LogRecord)) (m : KeyMap) → stands_from keep' (front ++ (log ++ more) ∷ behind) m ≡ stands_from keep' (front ++ log ∷ behind) m
    added [] m = ap (stands_from keep' behind) (same_fold keep' keep' (λ t. refl) log more m all)
    added (l ∷ front) m = added front (fold_updates keep' l m)

pub undo_stands_for_it : UndoStands
undo_stands_for_it front behind log more all =
    let keep = committed_somewhere (front ++ log ∷ behind) in
    let s = spares keep more all in
    stands_with (committed_somewhere (front ++ (log ++ more) ∷ behind)) keep (same_commits keep front behind log more s) front behind log more [] s
