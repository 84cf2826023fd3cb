-- A log that has undone all of a transaction, by what it says of it.
use Rattle.std.proofs.Common.{◌≡◌, ℕ, Bool, true, false, not, ◌&&◌, ◌||◌, ◌==◌, nat_lt, List, [], ◌∷◌, is_some, refl, sym, ap, ◌∙◌, arith}
use Rattle.std.proofs.lemmas.Bool.Decides.{nat_tests}
use Rattle.std.specs.List.{list_all}
use Rattle.clv_base.specs.declared.names.TxId.{TxId}
use Rattle.clv_base.specs.declared.logs.LogRecord.{LogRecord}
use Rattle.clv_base.specs.declared.logs.LogRecord.TheVariants.{Update, Clr, Prepare, Commit, Abort, End, Restart, Add, Unadd, Forgotten, Check}
use Rattle.clv_base.specs.Orders.{tx_same}
use Rattle.clv_base.specs.Logs.{is_record_of, is_update_of, is_undo_of, is_prepare_of, is_commit_of, is_abort_of, is_end_of, has_standing, committed_in, prepared_in, aborted_in, ended_in, standing}
use Rattle.clv_base.specs.LogRules.{is_undone_in}
use Rattle.law_base.proofs.Logs.{place_is as is_some_place}
use Rattle.law_base.proofs.Standing.{count_writes, counts_some}
use Rattle.log_analysis.specs.Facts.{facts_of}
use Rattle.log_rules.specs.Agreement.{is_undone_by}

-- a record is none of the transaction's, or writes or compensates
abbrev writes_or_undoes : TxId → LogRecord → Bool
writes_or_undoes tx r = not (is_record_of tx r) || is_update_of tx r || is_undo_of tx r

abbrev four : Bool → Bool → Bool → Bool → Bool
four p c a e = not p && not c && not a && not e

own_write : (s : Bool) → not s || s || false ≡ true
own_write true = refl
own_write false = refl

own_undo : (s : Bool) → not s || false || s ≡ true
own_undo true = refl
own_undo false = refl

own_other : (s : Bool) → not s || false || false ≡ not s
own_other true = refl
own_other false = refl

and_trues : (b : Bool) → b && true && true && true ≡ b
and_trues true = refl
and_trues false = refl

kinds : (tx : TxId) (r : LogRecord) → writes_or_undoes tx r ≡ four (is_prepare_of tx r) (is_commit_of tx r) (is_abort_of tx r) (is_end_of tx r)
kinds tx (Update t key before after) = own_write (tx_same tx t)
kinds tx (Add t key by) = own_write (tx_same tx t)
kinds tx (Clr t undo_next key after) = own_undo (tx_same tx t)
kinds tx (Unadd t undo_next key by) = own_undo (tx_same tx t)
kinds tx (Prepare t home listed) = own_other (tx_same tx t) ∙ sym (and_trues (not (tx_same tx t)))
kinds tx (Commit t parts) = own_other (tx_same tx t) ∙ second (tx_same tx t)
  where
    second : (b : Bool) → not b ≡ four false b false false
    second true = refl
    second false = refl
kinds tx (Abort t) = own_other (tx_same tx t) ∙ third (tx_same tx t)
  where
    third : (b : Bool) → not b ≡ four false false b false
    third true = refl
    third false = refl
kinds tx (End t) = own_other (tx_same tx t) ∙ fourth (tx_same tx t)
  where
    fourth : (b : Bool) → not b ≡ four false false false b
    fourth true = refl
    fourth false = refl
kinds tx (Restart run epoch) = refl
kinds tx Forgotten = refl
kinds tx (Check run' epoch' upto base) = refl

not_either : (a b : Bool) → not a && not b ≡ not (a || b)
not_either true b = refl
not_either false b = refl

and_pairs : (a b c d e f g h : Bool) → (a && b && c && d) && (e && f && g && h) ≡ (a && e) && (b && f) && (c && g) && (d && h)
and_pairs true true true d e f g h = tail d e f g h
  where
    tail : (d e f g h : Bool) → d && (e && f && g && h) ≡ e && f && g && (d && h)
    tail true e f g h = refl
    tail false e f g h = sym (and_no (e && f && g))
      where
        and_no : (b : Bool) → b && false ≡ false
        and_no true = refl
        and_no false = refl
and_pairs true true false d e f g h = sym (and_out (e && f) (d && h))
  where
    and_out : (b k : Bool) → b && false && k ≡ false
    and_out true k = refl
    and_out false k = refl
and_pairs true false c d e f g h = sym (and_out e (c && g) (d && h))
  where
    and_out : (b k l : Bool) → b && false && k && l ≡ false
    and_out true k l = refl
    and_out false k l = refl
and_pairs false b c d e f g h = refl

fours : (p c a e q d b f : Bool) → four p c a e && four q d b f ≡ four (p || q) (c || d) (a || b) (e || f)
fours p c a e q d b f =
    and_pairs (not p) (not c) (not a) (not e) (not q) (not d) (not b) (not f)
    ∙ ap (λ x. x && (not c && not d) && (not a && not b) && (not e && not f)) (not_either p q) ∙ ap (λ x. not (p || q) && x && (not a && not b) && (not e && not f)) (not_either c d)
    ∙ ap (λ x. not (p || q) && not (c || d) && x && (not e && not f)) (not_either a b) ∙ ap (λ x. not (p || q) && not (c || d) && not (a || b) && x) (not_either e f)

all_kinds : (tx : TxId) (log : List LogRecord) → list_all (writes_or_undoes tx) log ≡ four (prepared_in log tx) (committed_in log tx) (aborted_in log tx) (ended_in log tx)
all_kinds tx [] = refl
all_kinds tx (r ∷ rs) =
    ap (λ b. b && list_all (writes_or_undoes tx) rs) (kinds tx r) ∙ ap (λ b. four (is_prepare_of tx r) (is_commit_of tx r) (is_abort_of tx r) (is_end_of tx r) && b) (all_kinds tx rs)
    ∙ fours (is_prepare_of tx r) (is_commit_of tx r) (is_abort_of tx r) (is_end_of tx r) (prepared_in rs tx) (committed_in rs tx) (aborted_in rs tx) (ended_in rs tx)

none_stands : (n : ℕ) → (n == 0) ≡ not (nat_lt 0 n)
none_stands n = grind (arith, nat_tests)

and_over : (s p c a e : Bool) → s && not p && not c && not a && not e ≡ s && four p c a e
and_over true p c a e = refl
and_over false p c a e = refl

pub undone_is : (log : List LogRecord) (tx : TxId) → is_undone_by (facts_of log tx) ≡ is_undone_in log tx
undone_is log tx =
    ap (λ b. b && not (is_some (facts_of log tx).prepare) && not (is_some (facts_of log tx).commit) && not (aborted_in log tx) && not (ended_in log tx))
    (none_stands (count_writes tx (standing log)) ∙ ap not (sym (counts_some tx (standing log))))
    ∙ ap (λ b. not (has_standing log tx) && not b && not (is_some (facts_of log tx).commit) && not (aborted_in log tx) && not (ended_in log tx)) (is_some_place 0 (is_prepare_of tx) log)
    ∙ ap (λ b. not (has_standing log tx) && not (prepared_in log tx) && not b && not (aborted_in log tx) && not (ended_in log tx)) (is_some_place 0 (is_commit_of tx) log)
    ∙ and_over (not (has_standing log tx)) (prepared_in log tx) (committed_in log tx) (aborted_in log tx) (ended_in log tx)
    ∙ ap (λ b. not (has_standing log tx) && b) (sym (all_kinds tx log))
