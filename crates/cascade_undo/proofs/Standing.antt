-- The UPDATEs and ADDs that stand are records of the log, and their LSNs fall.
use Rattle.std.proofs.Common.{◌≡◌, ℕ, suc, ◌+◌, List, [], ◌∷◌, ◌++◌, length, Some, refl, sym, ap, subst, ◌∙◌, append_assoc, arith}
use Rattle.std.specs.Prelude.{slice_get}
use Rattle.std.specs.List.{AllByRecursion}
use Rattle.std.proofs.lemmas.List.{length_push}
use Rattle.clv_base.specs.declared.logs.LogRecord.{LogRecord}
use Rattle.clv_base.specs.declared.logs.LogRecord.TheVariants.{Update, Clr, Prepare, Commit, Abort, End, Restart, Add, Unadd, Forgotten, Check}
use Rattle.clv_base.specs.OneShard.{update_of}
use Rattle.clv_base.specs.Logs.{StandingUpdate, without_newest, standing_after, standing_from, standing}
use Rattle.law_base.proofs.Names.{Falls, all_without, falls_weaker, falls_without}
use Rattle.law_base.proofs.Logs.{get_seam}

-- ---- LSNs fall

falls_after : (n : ℕ) (r : LogRecord) (ws : List StandingUpdate) → Falls n ws → Falls (suc n) (standing_after n r ws)
falls_after n (Update tx key before after) ws falls = (omega arith, falls)
falls_after n (Clr tx undo_next key after) ws falls = falls_weaker n (suc n) (without_newest tx ws) (omega arith) (falls_without tx n ws falls)
falls_after n (Prepare tx home predecessors) ws falls = falls_weaker n (suc n) ws (omega arith) falls
falls_after n (Commit tx parts) ws falls = falls_weaker n (suc n) ws (omega arith) falls
falls_after n (Abort tx) ws falls = falls_weaker n (suc n) ws (omega arith) falls
falls_after n (End tx) ws falls = falls_weaker n (suc n) ws (omega arith) falls
falls_after n (Restart run epoch) ws falls = falls_weaker n (suc n) ws (omega arith) falls
falls_after n (Add tx key by) ws falls = (omega arith, falls)
falls_after n (Unadd tx undo_next key by) ws falls = falls_weaker n (suc n) (without_newest tx ws) (omega arith) (falls_without tx n ws falls)
falls_after n Forgotten ws falls = falls_weaker n (suc n) ws (omega arith) falls
falls_after n (Check run' epoch' upto base) ws falls = falls_weaker n (suc n) ws (omega arith) falls

falls_from : (n : ℕ) (rs : List LogRecord) (ws : List StandingUpdate) → Falls n ws → Falls (n + length rs) (standing_from n rs ws)
falls_from n [] ws falls = falls_weaker n (n + 0) ws (omega arith) falls
falls_from n (r ∷ rs) ws falls =
    subst (λ m. Falls m (standing_from (suc n) rs (standing_after n r ws))) (omega arith) (falls_from (suc n) rs (standing_after n r ws) (falls_after n r ws falls))

pub falls : (log : List LogRecord) → Falls (length log) (standing log)
falls log = subst (λ m. Falls m (standing log)) (omega arith) (falls_from 0 log [] tt)

-- ---- they are records of the log

abbrev pub IsIn : List LogRecord → StandingUpdate → Type 0
IsIn log w = slice_get log w.lsn ≡ Some (update_of w.tx w.key w.change)

in_after : (all : List LogRecord) (n : ℕ) (r : LogRecord) (ws : List StandingUpdate) → slice_get all n ≡ Some r → AllByRecursion (IsIn all) ws → AllByRecursion (IsIn all) (standing_after n r ws)
in_after all n (Update tx key before after) ws at a = (at, a)
in_after all n (Clr tx undo_next key after) ws at a = all_without (IsIn all) tx ws a
in_after all n (Prepare tx home predecessors) ws at a = a
in_after all n (Commit tx parts) ws at a = a
in_after all n (Abort tx) ws at a = a
in_after all n (End tx) ws at a = a
in_after all n (Restart run epoch) ws at a = a
in_after all n (Add tx key by) ws at a = (at, a)
in_after all n (Unadd tx undo_next key by) ws at a = all_without (IsIn all) tx ws a
in_after all n Forgotten ws at a = a
in_after all n (Check run' epoch' upto base) ws at a = a

in_from : (rs front all : List LogRecord) (n : ℕ) (ws : List StandingUpdate) → n ≡ length front → all ≡ front ++ rs → AllByRecursion (IsIn all) ws → AllByRecursion (IsIn all) (standing_from n rs ws)
in_from [] front all n ws at is a = a
in_from (r ∷ rs) front all n ws at is a =
    in_from rs (front ++ r ∷ []) all (suc n) (standing_after n r ws) (omega (arith, length_push front r)) (is ∙ sym (append_assoc front (r ∷ []) rs))
    (in_after all n r ws (ap (λ l. slice_get l n) is ∙ ap (slice_get (front ++ r ∷ rs)) at ∙ get_seam front r rs) a)

pub in_log : (log : List LogRecord) → AllByRecursion (IsIn log) (standing log)
in_log log = in_from log [] log 0 [] refl refl tt
