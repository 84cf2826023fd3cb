-- Each commit without an END is put at its place.
use Rattle.std.proofs.Common.{◌≡◌, refl, sym, ap, subst, ℕ, Bool, true, false, cond, List, [], ◌∷◌}
use Rattle.std.specs.List.Sorted.{IsStrictlySortedBy}
use Rattle.std.specs.Map.{keys_of}
use Rattle.std.specs.declared.cmp.Ordering.{Ordering}
use Rattle.std.specs.declared.cmp.Ordering.TheVariants.{Less, Equal, Greater}
use Rattle.std.specs.Ordering.{match_ordering}
use Rattle.clv_base.specs.declared.names.TxId.{TxId}
use Rattle.clv_base.specs.declared.logs.LogRecord.{LogRecord}
use Rattle.clv_base.specs.declared.logs.LogRecord.TheVariants.{Update, Clr, Prepare, Commit, Abort, End, Restart, Add, Unadd, Forgotten, Check}
use Rattle.clv_base.specs.Orders.{Table, tx_cmp, tx_put, tx_insert}
use Rattle.clv_base.specs.Logs.{ended_in}
use Rattle.clv_base.specs.Restarts.{unended_with, unended_in}
use Rattle.tx_table.proofs.Laws.{insert_key-rises}
use Rattle.law_base.proofs.Sets.{tx_total, nothing_rises}
use Rattle.two_phase_commit.specs.Unended.{UnendedRise}

abbrev Rise : Table (List ℕ) → Type 0
Rise rows = IsStrictlySortedBy tx_cmp (keys_of rows)

keys_put : (t : TxId) (v : List ℕ) (rs : Table (List ℕ)) → keys_of (tx_put t v rs) ≡ tx_insert t (keys_of rs)
keys_put t v [] = refl
keys_put t v (r ∷ rs) = at (tx_cmp t r.0) (keys_put t v rs)
  where
    at : (o : Ordering) → keys_of (tx_put t v rs) ≡ tx_insert t (keys_of rs)
        → keys_of (match_ordering o ((t, v) ∷ r ∷ rs) ((r.0, v) ∷ rs) (r ∷ tx_put t v rs)) ≡ match_ordering o (t ∷ r.0 ∷ keys_of rs) (r.0 ∷ keys_of rs) (r.0 ∷ tx_insert t (keys_of rs))
    at Less e = refl
    at Equal e = refl
    at Greater e = ap (λ ks. r.0 ∷ ks) e

one_more : (b : Bool) (t : TxId) (v : List ℕ) (rest : Table (List ℕ)) → Rise rest → Rise (cond b rest (tx_put t v rest))
one_more true t v rest s = s
one_more false t v rest s = subst (λ ks. IsStrictlySortedBy tx_cmp ks) (sym (keys_put t v rest)) (insert_key-rises tx_total t (keys_of rest) s)

with_rise : (log : List LogRecord) (t : TxId) (parts : List ℕ) (rest : Table (List ℕ)) → Rise rest → Rise (unended_with log t parts rest)
with_rise log t [] rest s = s
with_rise log t (p ∷ ps) rest s = one_more (ended_in log t) t (p ∷ ps) rest s

pub unended_rise : UnendedRise
unended_rise log [] = nothing_rises
unended_rise log (Commit tx parts ∷ rs) = with_rise log tx parts (unended_in log rs) (unended_rise log rs)
unended_rise log (Update tx b c d ∷ rs) = unended_rise log rs
unended_rise log (Clr tx b c d ∷ rs) = unended_rise log rs
unended_rise log (Prepare tx home ps ∷ rs) = unended_rise log rs
unended_rise log (Abort tx ∷ rs) = unended_rise log rs
unended_rise log (End tx ∷ rs) = unended_rise log rs
unended_rise log (Restart run epoch ∷ rs) = unended_rise log rs
unended_rise log (Add tx b by ∷ rs) = unended_rise log rs
unended_rise log (Unadd tx b c by ∷ rs) = unended_rise log rs
unended_rise log (Forgotten ∷ rs) = unended_rise log rs
unended_rise log (Check run' epoch' upto base ∷ rs) = unended_rise log rs
