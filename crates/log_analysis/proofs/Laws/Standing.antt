-- The records at the LSNs of the writes that stand.
use Rattle.std.proofs.Common.{◌≡◌, ℕ, zero, suc, ◌+◌, ◌<◌, List, [], ◌∷◌, map, get_or, length, sym, ap, subst, ◌∙◌, arith}
use Rattle.std.specs.List.{AllByRecursion}
use Rattle.std.proofs.lemmas.List.{get_or-map, length-map}
use Rattle.clv_base.specs.declared.logs.LogRecord.{LogRecord}
use Rattle.clv_base.specs.declared.logs.LogRecord.TheVariants.{Update, Clr, Prepare, Commit, Abort, End, Restart, Add, Unadd, Forgotten, Check}
use Rattle.clv_base.specs.Logs.{StandingUpdate, standing, standing_from, standing_after}
use Rattle.clv_base.specs.OneShard.{update_of}
use Rattle.law_base.proofs.Lists.{elem_at}
use Rattle.law_base.proofs.Standing.{all_without, standing_falls, falls_below}

abbrev StandsIn : List LogRecord → StandingUpdate → Type 0
StandsIn log w = (d : LogRecord) → get_or log w.lsn d ≡ update_of w.tx w.key w.change

all_in : (log : List LogRecord) (n : ℕ) (rs : List LogRecord) (ws : List StandingUpdate) → ((i : ℕ) (d : LogRecord) → i < length rs → get_or log (n + i) d ≡ get_or rs i d) → AllByRecursion (StandsIn log) ws → AllByRecursion (StandsIn log) (standing_from n rs ws)
all_in log n [] ws k all = all
all_in log n (r ∷ rs) ws k all = all_in log (suc n) rs (standing_after n r ws) (λ i d l. ap (λ j. get_or log j d) (omega arith) ∙ k (suc i) d (omega (arith, l))) (here r (λ d. ap (λ j. get_or log j d) (omega arith) ∙ k 0 d (omega arith)))
  where
    here : (q : LogRecord) → ((d : LogRecord) → get_or log n d ≡ q) → AllByRecursion (StandsIn log) (standing_after n q ws)
    here (Update tx key before after) is = (is, all)
    here (Add tx key by) is = (is, all)
    here (Clr tx undo_next key after) is = all_without (StandsIn log) tx ws all
    here (Unadd tx undo_next key by) is = all_without (StandsIn log) tx ws all
    here (Prepare tx home listed) is = all
    here (Commit tx parts) is = all
    here (Abort tx) is = all
    here (End tx) is = all
    here (Restart run epoch) is = all
    here Forgotten is = all
    here (Check run' epoch' upto base) is = all

all_stand_in : (log : List LogRecord) → AllByRecursion (StandsIn log) (standing log)
all_stand_in log = all_in log 0 log [] (λ i d l. ap (λ j. get_or log j d) (omega arith)) tt

at_place : {X : Type 0} (P : X → Type 0) (xs : List X) (i : ℕ) (d : X) → AllByRecursion P xs → i < length xs → P (get_or xs i d)
at_place P [] i d all l = absurd (omega arith)
at_place P (x ∷ xs) zero d all l = all.0
at_place P (x ∷ xs) (suc i) d all l = at_place P xs i d all.1 (omega (arith, l))

module _ (log : List LogRecord) (lsns : List ℕ) (i : ℕ) (are : lsns ≡ map (λ w. w.lsn) (standing log)) (l : i < length lsns) where
  -- as many as stand
  pub write_inside : i < length (standing log)
  write_inside = subst (λ n. i < n) (ap length are ∙ length-map (standing log) (λ v. v.lsn)) l

  lsn_is : (d : StandingUpdate) → get_or lsns i 0 ≡ (get_or (standing log) i d).lsn
  lsn_is d = ap (λ ns. get_or ns i 0) are ∙ get_or-map (λ v. v.lsn) (standing log) i d 0 write_inside

  -- each lies in the log
  pub lsn_inside : get_or lsns i 0 < length log
  lsn_inside =
      let d = elem_at (standing log) i write_inside in
      subst (λ n. n < length log) (sym (lsn_is d)) (at_place (λ v. v.lsn < length log) (standing log) i d (falls_below (length log) (standing log) (standing_falls log)) write_inside)

  -- and there is its record
  pub write_there : (w : StandingUpdate) (r : LogRecord) → get_or log (get_or lsns i 0) r ≡ update_of (get_or (standing log) i w).tx (get_or (standing log) i w).key (get_or (standing log) i w).change
  write_there w r = ap (λ k. get_or log k r) (lsn_is w) ∙ at_place (StandsIn log) (standing log) i w (all_stand_in log) write_inside r
