-- One row more is forgotten.
use Rattle.std.proofs.Common.{◌≡◌, refl, sym, ap, subst, ◌∙◌, Bool, true, false, [], ◌∷◌, ◌++◌, Some, None, reverse}
use Rattle.std.proofs.lemmas.List.{reverse-append}
use Rattle.std.specs.List.{AllByRecursion}
use Rattle.std.specs.List.Sorted.{IsStrictlySortedBy}
use Rattle.std.specs.Map.{keys_of}
use Rattle.clv_base.specs.declared.names.TxId.{TxId}
use Rattle.clv_base.specs.declared.state.Request.{Request}
use Rattle.clv_base.specs.declared.state.RequestState.{RequestState}
use Rattle.clv_base.specs.declared.state.RequestState.TheVariants.{Undecided, Committed, Finished, Refused}
use Rattle.clv_base.specs.Orders.{Table, tx_cmp, tx_same, tx_get, tx_drop}
use Rattle.clv_base.specs.State.{Shard}
use Rattle.clv_base.proofs.SameNames.{tx_true}
use Rattle.two_phase_commit.specs.Completed.{is_spent}
use Rattle.ended_laws.specs.Requests.{without, IsDone, IsSpent}
use Rattle.ended_laws.specs.Recalled.{without_all, forgets_all, recalls, AreSpent, SpentAreNotMissed}
use Rattle.ended_laws.proofs.Laws.{get_own, get_without, drop_is_without}
use Rattle.lean_machine.specs.Lean.{whole, IsLean}
use Rattle.lean_machine.proofs.Spent.{Found, spent_is}

none_some : {X : Type 0} {a : X} → None ≡ Some a → ⊥
none_some e = absurd cc

one_value : {X : Type 0} {a b : X} → Some a ≡ Some b → a ≡ b
one_value e = cc

-- who still has a row is none of the forgotten, and had it before
record Stays (rows all : Table Request) (tx : TxId) (p : Request) : Type 0 where
  apart : AllByRecursion (λ x. tx_same x.0 tx ≡ false) rows
  there : tx_get tx all ≡ Some p

stays : (rows all : Table Request) (tx : TxId) (p : Request) → tx_get tx (without_all rows all) ≡ Some p → Stays rows all tx p
stays [] all tx p e = record { apart = tt; there = e }
stays (r ∷ rs) all tx p e = at (tx_same r.0 tx) refl (stays rs all tx p)
  where
    at : (b : Bool) → tx_same r.0 tx ≡ b → (tx_get tx (without_all rs all) ≡ Some p → Stays rs all tx p) → Stays (r ∷ rs) all tx p
    at true i more = absurd (none_some (sym (subst (λ z. tx_get z (without r.0 (without_all rs all)) ≡ None) (tx_true r.0 tx i) (get_own r.0 (without_all rs all))) ∙ e))
    at false i more = let k = more (sym (get_without r.0 tx (without_all rs all) i) ∙ e) in record { apart = (i, k.apart); there = k.there }

-- what is spent where others are forgotten is spent
all_rise : (rows : Table Request) (s : Shard) → AreSpent rows s → IsStrictlySortedBy tx_cmp (keys_of (without_all rows s.requests)) → IsStrictlySortedBy tx_cmp (keys_of s.requests)
all_rise [] s a h = h
all_rise (r ∷ rs) s a h = a.0.over.rises

same_done : (rows : Table Request) (s : Shard) (tx : TxId) (q : Request) (st : RequestState) → IsDone (record s { requests = rows }) tx q st → IsDone s tx q st
same_done rows s tx q Undecided d = d
same_done rows s tx q (Committed parts) d = d
same_done rows s tx q Finished d = d
same_done rows s tx q (Refused cause) d = d

spent_there : (rows : Table Request) (s : Shard) (tx : TxId) (q : Request) → AreSpent rows s → IsSpent (forgets_all rows s) tx q → IsSpent s tx q
spent_there rows s tx q a p = record {
  over = record {
    rises = all_rise rows s a p.over.rises;
    kept = (stays rows s.requests tx q p.over.kept).there;
    is_gone = p.over.is_gone;
    is_done = same_done (without_all rows s.requests) s tx q q.state p.over.is_done;
  };
  finished = p.finished;
  by_log = p.by_log;
}

-- all is as it was, and the machine has forgotten one row more, or none
abbrev pub Forgot : Table Request → Table Request → Shard → Shard → Type 0
Forgot gone more s t = (whole more t ≡ whole gone s) × IsLean more t

-- the shard without the row, as a table drops it
abbrev dropped : TxId → Shard → Shard
dropped tx s = record s { requests = tx_drop tx s.requests }

module _ (law : SpentAreNotMissed) (gone : Table Request) (s t : Shard) (tx : TxId) (lean : IsLean gone s) (test : is_spent s tx ≡ true) (rises : IsStrictlySortedBy tx_cmp (keys_of s.requests)) (is : t ≡ dropped tx s) where
  abbrev rows : Table Request
  rows = reverse gone

  abbrev all : Shard
  all = whole gone s

  found : Found s tx
  found = spent_is s tx test rises

  forgot_one : (p : Request) → Some p ≡ tx_get tx s.requests → Forgot gone (gone ++ (tx, p) ∷ []) s t
  forgot_one p e = (
    subst (λ (l : Table Request). recalls l t ≡ all) reversed back,
    record {
      spent = subst (λ (l : Table Request). AreSpent l (recalls l t)) reversed (subst (AreSpent more) (sym back) are);
      kept = subst (λ (l : Table Request). forgets_all l (recalls l t) ≡ t) reversed (ap (forgets_all more) back ∙ sym here);
    },
  )
    where
      more : Table Request
      more = (tx, p) ∷ rows

      same : found.request ≡ p
      same = one_value (sym found.kept ∙ sym e)

      here_spent : IsSpent (forgets_all rows all) tx p
      here_spent = subst (λ (z : Shard). IsSpent z tx p) (sym lean.kept) (subst (IsSpent s tx) same found.spent)

      are : AreSpent more all
      are = (spent_there rows all tx p lean.spent here_spent, (stays rows all.requests tx p here_spent.over.kept).apart, lean.spent)

      here : t ≡ forgets_all more all
      here =
          is ∙ ap (dropped tx) (sym lean.kept) ∙ ap (λ l. record (forgets_all rows all) { requests = l }) (drop_is_without tx (without_all rows all.requests) here_spent.over.rises)

      back : recalls more t ≡ all
      back = ap (recalls more) here ∙ (law more all are).whole

      reversed : more ≡ reverse (gone ++ (tx, p) ∷ [])
      reversed = sym (reverse-append gone ((tx, p) ∷ []))

  -- as the machine's list says it
  pub forgot_as : (more : Table Request) (p : Request) → more ≡ gone ++ (tx, p) ∷ [] → Some p ≡ tx_get tx s.requests → Forgot gone more s t
  forgot_as more p is e = subst (λ l. Forgot gone l s t) (sym is) (forgot_one p e)
