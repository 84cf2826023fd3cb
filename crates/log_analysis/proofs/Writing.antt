-- Who has UPDATEs and ADDs that stand is who has a number above 0 of them.
use Rattle.std.proofs.Common.{◌≡◌, ℕ, Bool, true, false, cond, ◌&&◌, ◌||◌, List, [], ◌∷◌, nat_lt, refl, sym, ap, ◌∙◌}
use Rattle.clv_base.specs.declared.names.TxId.{TxId}
use Rattle.clv_base.specs.declared.logs.LogRecord.{LogRecord}
use Rattle.clv_base.specs.declared.logs.LogRecord.TheVariants.{Update, Clr, Prepare, Commit, Abort, End, Restart, Add, Unadd, Forgotten, Check}
use Rattle.clv_base.specs.Orders.{tx_same, tx_in, tx_insert}
use Rattle.clv_base.specs.Logs.{StandingUpdate, is_update_of, wrote_in, has_standing, standing, writers}
use Rattle.clv_base.proofs.SameNames.{tx_true}
use Rattle.law_base.proofs.Names.{in_inserted}
use Rattle.law_base.proofs.Sets.{insert_rises, nothing_rises, same_list, writers_rise}
use Rattle.law_base.proofs.Bools.{by_bool as both, or_false, or_yes as or_true}
use Rattle.law_base.proofs.Sets.{same_flip as tx_symmetric}
use Rattle.law_base.proofs.Names.{Rise as Rises}
use Rattle.law_base.proofs.Standing.{has_write, counts_some, unwritten_stands}
use Rattle.log_analysis.specs.Facts.{standing_count}
use Rattle.log_analysis.specs.Writers.{with_writer, writers_by}

in_writers : (t : TxId) (ws : List StandingUpdate) → tx_in t (writers ws) ≡ has_write ws t
in_writers t [] = refl
in_writers t (w ∷ ws) =
    in_inserted w.tx t (writers ws) ∙ ap (λ b. cond b true (tx_in t (writers ws))) (tx_symmetric w.tx t) ∙ at (tx_same t w.tx) (in_writers t ws)
  where
    at : (b : Bool) → tx_in t (writers ws) ≡ has_write ws t → cond b true (tx_in t (writers ws)) ≡ b || has_write ws t
    at true e = refl
    at false e = e

module _ (count : TxId → ℕ) where
  with_rises : (r : LogRecord) (txs : List TxId) → Rises txs → Rises (with_writer count r txs)
  with_rises (Update tx key before after) txs s = both (λ b. Rises (cond b (tx_insert tx txs) txs)) (nat_lt 0 (count tx)) (λ _. insert_rises tx txs s) (λ _. s)
  with_rises (Clr tx undo_next key after) txs s = s
  with_rises (Prepare tx home predecessors) txs s = s
  with_rises (Commit tx parts) txs s = s
  with_rises (Abort tx) txs s = s
  with_rises (End tx) txs s = s
  with_rises (Restart run epoch) txs s = s
  with_rises (Add tx key by) txs s = both (λ b. Rises (cond b (tx_insert tx txs) txs)) (nat_lt 0 (count tx)) (λ _. insert_rises tx txs s) (λ _. s)
  with_rises (Unadd tx undo_next key by) txs s = s
  with_rises Forgotten txs s = s
  with_rises (Check run' epoch' upto base) txs s = s

  by_rises : (rs : List LogRecord) (txs : List TxId) → Rises txs → Rises (writers_by count rs txs)
  by_rises [] txs s = s
  by_rises (r ∷ rs) txs s = by_rises rs (with_writer count r txs) (with_rises r txs s)

  in_one : (tx : TxId) (txs : List TxId) (t : TxId) → tx_in t (cond (nat_lt 0 (count tx)) (tx_insert tx txs) txs) ≡ tx_in t txs || (tx_same t tx && nat_lt 0 (count t))
  in_one tx txs t =
      both (λ b. tx_in t (cond b (tx_insert tx txs) txs) ≡ tx_in t txs || (tx_same t tx && nat_lt 0 (count t))) (nat_lt 0 (count tx)) has lacks
    where
      has : nat_lt 0 (count tx) ≡ true → tx_in t (tx_insert tx txs) ≡ tx_in t txs || (tx_same t tx && nat_lt 0 (count t))
      has some = in_inserted tx t txs ∙ ap (λ b. cond b true (tx_in t txs)) (tx_symmetric tx t)
          ∙ both (λ b. tx_same t tx ≡ b → cond b true (tx_in t txs) ≡ tx_in t txs || (b && nat_lt 0 (count t))) (tx_same t tx)
          (λ _ e. sym (ap (λ b. tx_in t txs || b) (ap (λ u. nat_lt 0 (count u)) (tx_true t tx e) ∙ some) ∙ or_true (tx_in t txs))) (λ _ _. sym (or_false (tx_in t txs))) refl

      lacks : nat_lt 0 (count tx) ≡ false → tx_in t txs ≡ tx_in t txs || (tx_same t tx && nat_lt 0 (count t))
      lacks none =
          both (λ b. tx_same t tx ≡ b → tx_in t txs ≡ tx_in t txs || (b && nat_lt 0 (count t))) (tx_same t tx)
          (λ _ e. sym (ap (λ b. tx_in t txs || b) (ap (λ u. nat_lt 0 (count u)) (tx_true t tx e) ∙ none) ∙ or_false (tx_in t txs))) (λ _ _. sym (or_false (tx_in t txs))) refl

  in_with : (r : LogRecord) (txs : List TxId) (t : TxId) → tx_in t (with_writer count r txs) ≡ tx_in t txs || (is_update_of t r && nat_lt 0 (count t))
  in_with (Update tx key before after) txs t = in_one tx txs t
  in_with (Add tx key by) txs t = in_one tx txs t
  in_with (Unadd tx undo_next key by) txs t = sym (or_false (tx_in t txs))
  in_with (Clr tx undo_next key after) txs t = sym (or_false (tx_in t txs))
  in_with (Prepare tx home predecessors) txs t = sym (or_false (tx_in t txs))
  in_with (Commit tx parts) txs t = sym (or_false (tx_in t txs))
  in_with (Abort tx) txs t = sym (or_false (tx_in t txs))
  in_with (End tx) txs t = sym (or_false (tx_in t txs))
  in_with (Restart run epoch) txs t = sym (or_false (tx_in t txs))
  in_with Forgotten txs t = sym (or_false (tx_in t txs))
  in_with (Check run' epoch' upto base) txs t = sym (or_false (tx_in t txs))

  either : (a b c p : Bool) → (a || (b && p)) || (c && p) ≡ a || ((b || c) && p)
  either true b c p = refl
  either false true c true = refl
  either false true true false = refl
  either false true false false = refl
  either false false c p = refl

  in_by : (rs : List LogRecord) (txs : List TxId) (t : TxId) → tx_in t (writers_by count rs txs) ≡ tx_in t txs || (wrote_in rs t && nat_lt 0 (count t))
  in_by [] txs t = sym (or_false (tx_in t txs))
  in_by (r ∷ rs) txs t =
      in_by rs (with_writer count r txs) t ∙ ap (λ b. b || (wrote_in rs t && nat_lt 0 (count t))) (in_with r txs t)
      ∙ either (tx_in t txs) (is_update_of t r) (wrote_in rs t) (nat_lt 0 (count t))

  -- they are whose writes stand, where the numbers are those of the log
  pub writers_are : (log : List LogRecord) → ((t : TxId) → count t ≡ standing_count log t) → writers_by count log [] ≡ writers (standing log)
  writers_are log counted =
      same_list (writers_by count log []) (writers (standing log)) (by_rises log [] nothing_rises) (writers_rise (standing log))
      (λ t. in_by log [] t ∙ ap (λ n. wrote_in log t && nat_lt 0 n) (counted t) ∙ ap (λ b. wrote_in log t && b) (sym (counts_some t (standing log)))
      ∙ only (wrote_in log t) (has_standing log t) (unwritten_stands log t) ∙ sym (in_writers t (standing log)))
    where
      only : (a b : Bool) → (a ≡ false → b ≡ false) → a && b ≡ b
      only true b none = refl
      only false b none = sym (none refl)
