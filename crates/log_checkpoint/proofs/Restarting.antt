-- A restart finds in a checkpoint what it finds in the log.
use Rattle.std.proofs.Common.{◌≡◌, ℕ, suc, ◌⊎◌, inl, inr, Bool, true, false, cond, not, ◌&&◌, ◌||◌, List, [], ◌∷◌, ◌++◌, append_assoc, map, Some, None, ◌==◌, refl, sym, ap, subst, ◌∙◌}
use Rattle.std.specs.List.{filter, list_all}
use Rattle.std.proofs.lemmas.Bool.{both_ways, and_parts, and_from, false_from_ne_true, or_parts}
use Rattle.clv_base.specs.declared.names.TxId.{TxId}
use Rattle.clv_base.specs.declared.logs.LogRecord.{LogRecord}
use Rattle.clv_base.specs.declared.logs.LogRecord.TheVariants.{Update, Clr, Prepare, Commit, Abort, End, Restart, Add, Unadd, Forgotten, Check}
use Rattle.clv_base.specs.Orders.{tx_same, tx_in, tx_insert}
use Rattle.clv_base.specs.Logs.{StandingUpdate, is_abort_of, is_prepare_of, committed_in, aborted_in, prepared_in, prepare_of, has_standing, standing, writers, newest_of, doubt_by, in_doubt_from, in_doubt, is_winner}
use Rattle.clv_base.specs.Undo.{newest_lsn, compensation, clrs_of}
use Rattle.clv_base.specs.Restarts.{losers, undo_records}
use Rattle.clv_base.specs.Checkpoints.{is_away, is_left_open, kept_if, kept_prepare, kept_of, kept_from, check}
use Rattle.clv_base.proofs.SameNames.{or_left, or_right, tx_self, tx_true}
use Rattle.law_base.proofs.Bools.{not_true, same_truth}
use Rattle.law_base.proofs.Names.{in_inserted}
use Rattle.law_base.proofs.Sets.{losers_rise, in_filter, filter_in, same_flip, same_list}
use Rattle.law_base.proofs.Standing.{has_write, has_filter}
use Rattle.log_checkpoint.specs.Laws.{IsFirst, PreparesOnce, PreparedStand, CheckpointsRestartAlike}
use Rattle.log_checkpoint.proofs.Leaving.{open_stand}
use Rattle.log_checkpoint.proofs.Keeping.{committed_before}
use Rattle.log_checkpoint.proofs.Again.{commits_stay, new_prepare, no_commit_first}

-- ---- ABORTs of those that are left open

other_kept : (b : Bool) (r : LogRecord) (t : TxId) → is_abort_of t r ≡ false → is_abort_of t (kept_if b r) ≡ false
other_kept true r t e = e
other_kept false r t e = refl

other_listed : (shard : ℕ) (log : List LogRecord) (tx : TxId) (home : ℕ) (listed : List TxId) (b : Bool) (t : TxId) → is_abort_of t (kept_prepare shard log tx home listed b) ≡ false
other_listed shard log tx home listed true t = other_kept _ (Prepare tx home []) t refl
other_listed shard log tx home listed false t = other_kept _ (Prepare tx home _) t refl

abort_stays : (shard : ℕ) (log : List LogRecord) (n : ℕ) (r : LogRecord) (t : TxId) → is_left_open log t ≡ true → is_abort_of t (kept_of shard log n r) ≡ is_abort_of t r
abort_stays shard log n (Abort tx) t left = at (tx_same t tx) refl
  where
    at : (b : Bool) → tx_same t tx ≡ b → is_abort_of t (kept_if (is_left_open log tx) (Abort tx)) ≡ tx_same t tx
    at true own = ap (λ b. is_abort_of t (kept_if b (Abort tx))) (subst (λ u. is_left_open log u ≡ true) (tx_true t tx own) left)
    at false other = other_kept (is_left_open log tx) (Abort tx) t other ∙ sym other
abort_stays shard log n (Update tx key before after) t left = other_kept _ (Update tx key before after) t refl
abort_stays shard log n (Add tx key by) t left = other_kept _ (Add tx key by) t refl
abort_stays shard log n (Clr tx undo_next key after) t left = refl
abort_stays shard log n (Unadd tx undo_next key by) t left = refl
abort_stays shard log n (Prepare tx home listed) t left = other_listed shard log tx home listed (committed_in log tx) t
abort_stays shard log n (Commit tx parts) t left = other_kept _ (Commit tx parts) t refl
abort_stays shard log n (End tx) t left = refl
abort_stays shard log n (Restart run epoch) t left = refl
abort_stays shard log n Forgotten t left = refl
abort_stays shard log n (Check run epoch upto base) t left = refl

pub aborts_stay : (shard : ℕ) (log : List LogRecord) (n : ℕ) (rs : List LogRecord) (t : TxId) → is_left_open log t ≡ true → aborted_in (kept_from shard log n rs) t ≡ aborted_in rs t
aborts_stay shard log n [] t left = refl
aborts_stay shard log n (r ∷ rs) t left =
    ap (λ b. b || aborted_in (kept_from shard log (suc n) rs) t) (abort_stays shard log n r t left) ∙ ap (λ b. is_abort_of t r || b) (aborts_stay shard log (suc n) rs t left)

-- ---- records that are no PREPARE put nobody in doubt

passes_if : (b : Bool) (r : LogRecord) (log : List LogRecord) (shard : ℕ) (rs : List LogRecord) (sf : List TxId) → in_doubt_from log shard (r ∷ rs) sf ≡ in_doubt_from log shard rs sf → in_doubt_from log shard (kept_if b r ∷ rs) sf ≡ in_doubt_from log shard rs sf
passes_if true r log shard rs sf e = e
passes_if false r log shard rs sf e = refl

no_doubt : (a b c d : Bool) → (b ≡ false) ⊎ (c ≡ false) → (a && b && c && d) ≡ false
no_doubt true true true d (inl e) = absurd (both_ways _ e refl)
no_doubt true true true d (inr e) = absurd (both_ways _ e refl)
no_doubt true true false d e = refl
no_doubt true false c d e = refl
no_doubt false b c d e = refl

-- those listed that are committed are cut from the list
cut_all : (log more : List LogRecord) (sf : List TxId) (ps : List TxId) → ((t : TxId) → committed_in log t ≡ false → committed_in more t ≡ false)
    → list_all (λ p. committed_in more p || tx_in p sf) (filter (λ p. not (committed_in log p)) ps) ≡ list_all (λ p. committed_in log p || tx_in p sf) ps
cut_all log more sf [] un = refl
cut_all log more sf (p ∷ ps) un = at (committed_in log p) refl (cut_all log more sf ps un)
  where
    at : (b : Bool) → committed_in log p ≡ b → list_all (λ q. committed_in more q || tx_in q sf) (filter (λ q. not (committed_in log q)) ps) ≡ list_all (λ q. committed_in log q || tx_in q sf) ps
        → list_all (λ q. committed_in more q || tx_in q sf) (cond (not b) (p ∷ filter (λ q. not (committed_in log q)) ps) (filter (λ q. not (committed_in log q)) ps))
        ≡ ((b || tx_in p sf) && list_all (λ q. committed_in log q || tx_in q sf) ps)
    at true e rest = rest
    at false e rest = ap (λ b. (b || tx_in p sf) && list_all (λ q. committed_in more q || tx_in q sf) (filter (λ q. not (committed_in log q)) ps)) (un p e) ∙ ap (λ b. tx_in p sf && b) rest

-- ---- who has a write

in_writers : (t : TxId) (ws : List StandingUpdate) → tx_in t (writers ws) ≡ has_write ws t
in_writers t [] = refl
in_writers t (w ∷ ws) =
    in_inserted w.tx t (writers ws) ∙ ap (λ b. cond b true (tx_in t (writers ws))) (same_flip w.tx t) ∙ at (tx_same t w.tx) (in_writers t ws)
  where
    at : (b : Bool) → tx_in t (writers ws) ≡ has_write ws t → cond b true (tx_in t (writers ws)) ≡ b || has_write ws t
    at true e = refl
    at false e = e

-- ---- the CLRs of some that are not committed

pub newest_open : (log : List LogRecord) (ws : List StandingUpdate) (t : TxId) → committed_in log t ≡ false → newest_of t (filter (λ w. not (committed_in log w.tx)) ws) ≡ newest_of t ws
newest_open log [] t u = refl
newest_open log (w ∷ ws) t u = at (tx_same t w.tx) refl (committed_in log w.tx) refl (newest_open log ws t u)
  where
    at : (b : Bool) → tx_same t w.tx ≡ b → (c : Bool) → committed_in log w.tx ≡ c → newest_of t (filter (λ v. not (committed_in log v.tx)) ws) ≡ newest_of t ws
        → newest_of t (cond (not c) (w ∷ filter (λ v. not (committed_in log v.tx)) ws) (filter (λ v. not (committed_in log v.tx)) ws)) ≡ cond b (Some w) (newest_of t ws)
    at true own true c rest = absurd (both_ways _ u (ap (committed_in log) (tx_true t w.tx own) ∙ c))
    at true own false c rest = ap (λ b. cond b (Some w) (newest_of t (filter (λ v. not (committed_in log v.tx)) ws))) own
    at false other true c rest = rest
    at false other false c rest = ap (λ b. cond b (Some w) (newest_of t (filter (λ v. not (committed_in log v.tx)) ws))) other ∙ rest

clrs_open : (log : List LogRecord) (set : List TxId) (ws : List StandingUpdate) → ((t : TxId) → tx_in t set ≡ true → committed_in log t ≡ false)
    → clrs_of set (filter (λ w. not (committed_in log w.tx)) ws) ≡ clrs_of set ws
clrs_open log set [] un = refl
clrs_open log set (w ∷ ws) un = at (tx_in w.tx set) refl (committed_in log w.tx) refl (clrs_open log set ws un)
  where
    at : (b : Bool) → tx_in w.tx set ≡ b → (c : Bool) → committed_in log w.tx ≡ c → clrs_of set (filter (λ v. not (committed_in log v.tx)) ws) ≡ clrs_of set ws
        → clrs_of set (cond (not c) (w ∷ filter (λ v. not (committed_in log v.tx)) ws) (filter (λ v. not (committed_in log v.tx)) ws))
        ≡ cond b (compensation w.tx (newest_lsn w.tx ws) w.key w.change ∷ clrs_of set ws) (clrs_of set ws)
    at true i true c rest = absurd (both_ways _ (un w.tx i) c)
    at true i false c rest =
        ap (λ b. cond b (compensation w.tx (newest_lsn w.tx (filter (λ v. not (committed_in log v.tx)) ws)) w.key w.change ∷ clrs_of set (filter (λ v. not (committed_in log v.tx)) ws)) (clrs_of set (filter (λ v. not (committed_in log v.tx)) ws))) i
        ∙ ap (λ o. compensation w.tx (elim o [ Some v ↦ Some v.lsn | None ↦ None ]) w.key w.change ∷ clrs_of set (filter (λ v. not (committed_in log v.tx)) ws)) (newest_open log ws w.tx c)
        ∙ ap (λ l. compensation w.tx (newest_lsn w.tx ws) w.key w.change ∷ l) rest
    at false i true c rest = rest
    at false i false c rest =
        ap (λ b. cond b (compensation w.tx (newest_lsn w.tx (filter (λ v. not (committed_in log v.tx)) ws)) w.key w.change ∷ clrs_of set (filter (λ v. not (committed_in log v.tx)) ws)) (clrs_of set (filter (λ v. not (committed_in log v.tx)) ws))) i
        ∙ rest

-- ---- a log and its checkpoint

module _ (shard : ℕ) (first : LogRecord) (later : List LogRecord) (begins : IsFirst first) (stand : PreparedStand (first ∷ later)) where
  abbrev log : List LogRecord
  log = first ∷ later

  abbrev checked : List LogRecord
  checked = check shard log

  unbefore : (t : TxId) → committed_in log t ≡ false → committed_in checked t ≡ false
  unbefore t e = false_from_ne_true _ (λ c. both_ways _ e (committed_before shard log t c))

  no_abort_first : (t : TxId) → aborted_in later t ≡ aborted_in log t
  no_abort_first t = at first begins
    where
      at : (r : LogRecord) → IsFirst r → aborted_in later t ≡ aborted_in (r ∷ later) t
      at (Restart run epoch) f = refl
      at (Check run epoch upto base) f = refl
      at (Update tx key left right) f = absurd f
      at (Add tx key by) f = absurd f
      at (Clr tx undo_next key after) f = absurd f
      at (Unadd tx undo_next key by) f = absurd f
      at (Prepare tx home listed) f = absurd f
      at (Commit tx parts) f = absurd f
      at (Abort tx) f = absurd f
      at (End tx) f = absurd f
      at Forgotten f = absurd f

  same_aborts : (t : TxId) → is_left_open log t ≡ true → aborted_in checked t ≡ aborted_in log t
  same_aborts t left = aborts_stay shard log 1 later t left ∙ no_abort_first t

  -- a PREPARE of one that is committed puts nobody in doubt
  shut_doubt : (tx : TxId) (home : ℕ) (listed : List TxId) (rs : List LogRecord) (sf : List TxId) (a : Bool) → not (home == shard) ≡ a → (a ≡ true → committed_in checked tx ≡ true)
      → in_doubt_from checked shard (kept_if a (Prepare tx home []) ∷ rs) sf ≡ in_doubt_from checked shard rs sf
  shut_doubt tx home listed rs sf false e c = refl
  shut_doubt tx home listed rs sf true e c =
      ap (λ b. in_doubt_from checked shard rs (cond b (tx_insert tx sf) sf)) (no_doubt (not (shard == home)) (not (committed_in checked tx)) (not (aborted_in checked tx)) true (inl (ap not (c refl))))

  -- and that of another one the same
  open_doubt : (tx : TxId) (home : ℕ) (listed : List TxId) (rs : List LogRecord) (sf : List TxId) (a : Bool) → is_left_open log tx ≡ a → committed_in log tx ≡ false → prepared_in log tx ≡ true
      → in_doubt_from checked shard (kept_if a (Prepare tx home (filter (λ p. not (committed_in log p)) listed)) ∷ rs) sf
      ≡ in_doubt_from checked shard rs (cond (doubt_by log shard tx home listed sf) (tx_insert tx sf) sf)
  open_doubt tx home listed rs sf false e u p =
      ap (λ b. in_doubt_from checked shard rs (cond b (tx_insert tx sf) sf))
      (sym (no_doubt (not (shard == home)) (not (committed_in log tx)) (not (aborted_in log tx)) (list_all (λ q. committed_in log q || tx_in q sf) listed) (inr (fell (aborted_in log tx) refl))))
    where
      fell : (b : Bool) → aborted_in log tx ≡ b → not (aborted_in log tx) ≡ false
      fell true f = ap not f
      fell false f = absurd (both_ways _ e (and_from _ _ (ap not u) (stand tx p u f)))
  open_doubt tx home listed rs sf true e u p =
      ap (λ b. in_doubt_from checked shard rs (cond (not (shard == home) && not b && not (aborted_in checked tx) && list_all (λ q. committed_in checked q || tx_in q sf) (filter (λ q. not (committed_in log q)) listed)) (tx_insert tx sf) sf))
      (unbefore tx u ∙ sym u)
      ∙ ap (λ b. in_doubt_from checked shard rs (cond (not (shard == home) && not (committed_in log tx) && not b && list_all (λ q. committed_in checked q || tx_in q sf) (filter (λ q. not (committed_in log q)) listed)) (tx_insert tx sf) sf))
      (same_aborts tx e)
      ∙ ap (λ b. in_doubt_from checked shard rs (cond (not (shard == home) && not (committed_in log tx) && not (aborted_in log tx) && b) (tx_insert tx sf) sf)) (cut_all log checked sf listed unbefore)

  one_prepare : (tx : TxId) (home : ℕ) (listed : List TxId) (rs : List LogRecord) (sf : List TxId) (b : Bool) → committed_in log tx ≡ b → prepare_of log tx ≡ Some (home, listed) → prepared_in log tx ≡ true
      → in_doubt_from checked shard (kept_prepare shard log tx home listed b ∷ rs) sf
      ≡ in_doubt_from checked shard rs (cond (doubt_by log shard tx home listed sf) (tx_insert tx sf) sf)
  one_prepare tx home listed rs sf true c own p =
      shut_doubt tx home listed rs sf (not (home == shard)) refl
      (λ away. commits_stay shard log 1 later tx (ap (is_away shard) own ∙ away) (no_commit_first shard first later begins tx ∙ c))
      ∙ ap (λ b. in_doubt_from checked shard rs (cond b (tx_insert tx sf) sf))
      (sym (no_doubt (not (shard == home)) (not (committed_in log tx)) (not (aborted_in log tx)) (list_all (λ q. committed_in log q || tx_in q sf) listed) (inl (ap not c))))
  one_prepare tx home listed rs sf false c own p = open_doubt tx home listed rs sf (is_left_open log tx) refl c p

  has_prepare : (front : List LogRecord) (tx : TxId) (home : ℕ) (listed : List TxId) (rest : List LogRecord) → prepared_in (front ++ Prepare tx home listed ∷ rest) tx ≡ true
  has_prepare [] tx home listed rest = or_left _ _ (tx_self tx)
  has_prepare (r ∷ rs) tx home listed rest = or_right (is_prepare_of tx r) _ (has_prepare rs tx home listed rest)

  doubts_stay : (front : List LogRecord) (n : ℕ) (rs : List LogRecord) (sf : List TxId) → log ≡ front ++ rs → PreparesOnce front rs
      → in_doubt_from checked shard (kept_from shard log n rs) sf ≡ in_doubt_from log shard rs sf
  doubts_stay front n [] sf is once = refl
  doubts_stay front n (Prepare tx home listed ∷ rs) sf is once =
      one_prepare tx home listed (kept_from shard log (suc n) rs) sf (committed_in log tx) refl (ap (λ l. prepare_of l tx) is ∙ new_prepare front tx home listed rs once.0) (ap (λ l. prepared_in l tx) is ∙ has_prepare front tx home listed rs)
      ∙ doubts_stay (front ++ Prepare tx home listed ∷ []) (suc n) rs _ (is ∙ sym (append_assoc front (Prepare tx home listed ∷ []) rs)) once.1
  doubts_stay front n (Update tx key before after ∷ rs) sf is once =
      passes_if _ (Update tx key before after) checked shard (kept_from shard log (suc n) rs) sf refl ∙ doubts_stay (front ++ Update tx key before after ∷ []) (suc n) rs sf (is ∙ sym (append_assoc front (Update tx key before after ∷ []) rs)) once.1
  doubts_stay front n (Add tx key by ∷ rs) sf is once =
      passes_if _ (Add tx key by) checked shard (kept_from shard log (suc n) rs) sf refl ∙ doubts_stay (front ++ Add tx key by ∷ []) (suc n) rs sf (is ∙ sym (append_assoc front (Add tx key by ∷ []) rs)) once.1
  doubts_stay front n (Commit tx parts ∷ rs) sf is once =
      passes_if _ (Commit tx parts) checked shard (kept_from shard log (suc n) rs) sf refl ∙ doubts_stay (front ++ Commit tx parts ∷ []) (suc n) rs sf (is ∙ sym (append_assoc front (Commit tx parts ∷ []) rs)) once.1
  doubts_stay front n (Abort tx ∷ rs) sf is once =
      passes_if _ (Abort tx) checked shard (kept_from shard log (suc n) rs) sf refl ∙ doubts_stay (front ++ Abort tx ∷ []) (suc n) rs sf (is ∙ sym (append_assoc front (Abort tx ∷ []) rs)) once.1
  doubts_stay front n (Clr tx undo_next key after ∷ rs) sf is once = doubts_stay (front ++ Clr tx undo_next key after ∷ []) (suc n) rs sf (is ∙ sym (append_assoc front (Clr tx undo_next key after ∷ []) rs)) once.1
  doubts_stay front n (Unadd tx undo_next key by ∷ rs) sf is once = doubts_stay (front ++ Unadd tx undo_next key by ∷ []) (suc n) rs sf (is ∙ sym (append_assoc front (Unadd tx undo_next key by ∷ []) rs)) once.1
  doubts_stay front n (End tx ∷ rs) sf is once = doubts_stay (front ++ End tx ∷ []) (suc n) rs sf (is ∙ sym (append_assoc front (End tx ∷ []) rs)) once.1
  doubts_stay front n (Restart run epoch ∷ rs) sf is once = doubts_stay (front ++ Restart run epoch ∷ []) (suc n) rs sf (is ∙ sym (append_assoc front (Restart run epoch ∷ []) rs)) once.1
  doubts_stay front n (Forgotten ∷ rs) sf is once = doubts_stay (front ++ Forgotten ∷ []) (suc n) rs sf (is ∙ sym (append_assoc front (Forgotten ∷ []) rs)) once.1
  doubts_stay front n (Check run epoch upto base ∷ rs) sf is once = doubts_stay (front ++ Check run epoch upto base ∷ []) (suc n) rs sf (is ∙ sym (append_assoc front (Check run epoch upto base ∷ []) rs)) once.1

  no_doubt_first : in_doubt_from log shard later [] ≡ in_doubt shard log
  no_doubt_first = at first begins
    where
      at : (r : LogRecord) → IsFirst r → in_doubt_from log shard later [] ≡ in_doubt_from log shard (r ∷ later) []
      at (Restart run epoch) f = refl
      at (Check run epoch upto base) f = refl
      at (Update tx key left right) f = absurd f
      at (Add tx key by) f = absurd f
      at (Clr tx undo_next key after) f = absurd f
      at (Unadd tx undo_next key by) f = absurd f
      at (Prepare tx home listed) f = absurd f
      at (Commit tx parts) f = absurd f
      at (Abort tx) f = absurd f
      at (End tx) f = absurd f
      at Forgotten f = absurd f

  same_doubt : PreparesOnce [] log → in_doubt shard checked ≡ in_doubt shard log
  same_doubt once = doubts_stay (first ∷ []) 1 later [] refl once.1 ∙ no_doubt_first

  -- ---- losers

  loser_is : (l : List LogRecord) (t : TxId) → tx_in t (losers shard l) ≡ (has_write (standing l) t && not (is_winner shard l t))
  loser_is l t =
      same_truth _ _
      (λ i. let p = in_filter (λ u. not (is_winner shard l u)) t (writers (standing l)) i in and_from _ _ (sym (in_writers t (standing l)) ∙ p.0) p.1)
      (λ i. let p = and_parts (has_write (standing l) t) (not (is_winner shard l t)) i in filter_in (λ u. not (is_winner shard l u)) t (writers (standing l)) (in_writers t (standing l) ∙ p.0) p.1)

  same_losers : PreparesOnce [] log → losers shard checked ≡ losers shard log
  same_losers once =
      same_list (losers shard checked) (losers shard log) (losers_rise shard checked) (losers_rise shard log)
      (λ t.
      loser_is checked t
      ∙ ap (λ b. b && not (is_winner shard checked t)) (ap (λ ws. has_write ws t) (open_stand shard log begins) ∙ has_filter (λ u. not (committed_in log u)) (standing log) t)
      ∙ by_commit t (committed_in log t) refl
      ∙ sym (loser_is log t))
    where
      none : (b : Bool) → b && false ≡ false
      none true = refl
      none false = refl

      by_commit : (t : TxId) (b : Bool) → committed_in log t ≡ b
          → ((not (committed_in log t) && has_write (standing log) t) && not (is_winner shard checked t)) ≡ (has_write (standing log) t && not (is_winner shard log t))
      by_commit t true c =
          ap (λ b. (not b && has_write (standing log) t) && not (is_winner shard checked t)) c
          ∙ sym (ap (λ b. has_write (standing log) t && not (b || tx_in t (in_doubt shard log))) c ∙ none (has_write (standing log) t))
      by_commit t false u =
          ap (λ b. (not b && has_write (standing log) t) && not (is_winner shard checked t)) u
          ∙ ap (λ b. has_write (standing log) t && not (b || tx_in t (in_doubt shard checked))) (unbefore t u ∙ sym u)
          ∙ ap (λ ds. has_write (standing log) t && not (committed_in log t || tx_in t ds)) (same_doubt once)

  loser_open : (t : TxId) → tx_in t (losers shard log) ≡ true → is_left_open log t ≡ true
  loser_open t i =
      let p = and_parts (has_write (standing log) t) (not (is_winner shard log t)) (sym (loser_is log t) ∙ i) in
      let q = or_parts (committed_in log t) (tx_in t (in_doubt shard log)) (not_true _ p.1) in
      and_from _ _ (ap not q.0) p.0

  filter_losers : (f g : TxId → Bool) (xs : List TxId) → ((t : TxId) → tx_in t xs ≡ true → f t ≡ g t) → filter f xs ≡ filter g xs
  filter_losers f g [] same = refl
  filter_losers f g (x ∷ xs) same =
      ap (λ b. cond b (x ∷ filter f xs) (filter f xs)) (same x (or_left _ _ (tx_self x)))
      ∙ ap (λ l. cond (g x) (x ∷ l) l) (filter_losers f g xs (λ t i. same t (or_right (tx_same x t) _ i)))

  same_undo : PreparesOnce [] log → undo_records shard checked ≡ undo_records shard log
  same_undo once =
      ap (λ ts. map (λ t. Abort t) (filter (λ t. not (aborted_in checked t)) ts) ++ clrs_of ts (standing checked)) (same_losers once)
      ∙ ap (λ ts. map (λ t. Abort t) ts ++ clrs_of (losers shard log) (standing checked))
      (filter_losers (λ t. not (aborted_in checked t)) (λ t. not (aborted_in log t)) (losers shard log) (λ t i. ap not (same_aborts t (loser_open t i))))
      ∙ ap (λ ws. map (λ t. Abort t) (filter (λ t. not (aborted_in log t)) (losers shard log)) ++ clrs_of (losers shard log) ws) (open_stand shard log begins)
      ∙ ap (λ l. map (λ t. Abort t) (filter (λ t. not (aborted_in log t)) (losers shard log)) ++ l)
      (clrs_open log (losers shard log) (standing log) (λ t i. not_true _ (and_parts (not (committed_in log t)) (has_standing log t) (loser_open t i)).0))

pub restart_alike : CheckpointsRestartAlike
restart_alike shard [] begins once stand = (refl, λ run epoch. refl)
restart_alike shard (r ∷ rs) begins once stand =
    (same_doubt shard r rs begins stand once, λ run epoch. ap (λ us. us ++ Restart run epoch ∷ []) (same_undo shard r rs begins stand once))
