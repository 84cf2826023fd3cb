-- Names of transactions, whichever stands first.
use Rattle.std.proofs.Common.{◌≡◌, true, false, cond, ⊎_elim, sym, ap, ◌∙◌, Some, None}
use Rattle.std.proofs.lemmas.Bool.{cases_Bool}
use Rattle.clv_base.specs.declared.names.TxId.{TxId}
use Rattle.clv_base.specs.declared.logs.LogRecord.{LogRecord}
use Rattle.clv_base.specs.Orders.{tx_same}
use Rattle.clv_base.specs.Logs.{own_tx, is_record_of}
use Rattle.clv_base.proofs.SameNames.{tx_true, tx_flip}
use Rattle.law_base.proofs.Sets.{same_flip as tx_symmetric}

-- whether a record is one's own, by its owner
pub record_of_owner : (r : LogRecord) (t tx : TxId) → own_tx r ≡ Some tx → is_record_of t r ≡ tx_same t tx
record_of_owner r t tx e = ap (λ o. elim o [ Some u ↦ tx_same t u | None ↦ false ]) e

-- what is written at the owner's name, read at any name
pub at_owner : {X : Type 0} (f z : TxId → X) (r : LogRecord) (t tx : TxId) (y : X) → own_tx r ≡ Some tx → y ≡ z tx → cond (tx_same tx t) y (f t) ≡ cond (is_record_of t r) (z t) (f t)
at_owner f z r t tx y e same =
    ⊎_elim
    (λ h. let here : tx_same tx t ≡ true = tx_flip t tx h in
    ap (λ b. cond b y (f t)) here ∙ same ∙ ap z (sym (tx_true t tx h)) ∙ sym (ap (λ b. cond b (z t) (f t)) (record_of_owner r t tx e ∙ h)))
    (λ h. ap (λ b. cond b y (f t)) (tx_symmetric tx t ∙ h) ∙ sym (ap (λ b. cond b (z t) (f t)) (record_of_owner r t tx e ∙ h)))
    (cases_Bool (tx_same t tx))
