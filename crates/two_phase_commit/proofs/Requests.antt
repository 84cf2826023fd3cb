-- A request put where one is.
use Rattle.std.proofs.Common.{◌≡◌, ℕ, Bool, true, false, cond, [], ◌∷◌, Option, Some, None, refl, sym, ap, subst}
use Rattle.clv_base.specs.declared.names.TxId.{TxId}
use Rattle.clv_base.specs.declared.state.Request.{Request}
use Rattle.clv_base.specs.declared.state.Ruling.{Ruling}
use Rattle.clv_base.specs.Orders.{Table, tx_same, tx_get, tx_put, tx_set}
use Rattle.std.specs.List.{AllByRecursion}
use Rattle.std.specs.Result.{OnOk, OnErr}
use Rattle.std.specs.declared.result.Result.{Result}
use Rattle.std.specs.declared.result.Result.TheVariants.{Ok, Err}
use Rattle.law_base.proofs.Rows.{rows_put}
use Rattle.two_phase_commit.specs.Coordinated.{Coordination, ruled, requests_by}

pub set_same : {V : Type 0} (t : TxId) (q : V) (rs : Table V) → tx_get t rs ≡ Some q → tx_set t q rs ≡ rs
set_same t q [] e = absurd cc
set_same t q (p ∷ ps) e = at (tx_same t p.0) e (set_same t q ps)
  where
    at : (b : Bool) → cond b (Some p.1) (tx_get t ps) ≡ Some q → (tx_get t ps ≡ Some q → tx_set t q ps ≡ ps) → cond b ((p.0, q) ∷ ps) (p ∷ tx_set t q ps) ≡ p ∷ ps
    at true e more = let k : p.1 ≡ q = cc in ap (λ v. (p.0, v) ∷ ps) (sym k)
    at false e more = ap (λ l. p ∷ l) (more e)

pub set_if : {V : Type 0} (t : TxId) (b : Bool) (x q : V) (rs : Table V) → tx_get t rs ≡ Some q → tx_set t (cond b x q) rs ≡ cond b (tx_set t x rs) rs
set_if t true x q rs e = refl
set_if t false x q rs e = set_same t q rs e

pub set_ruled : (t : TxId) (r : Option Ruling) (q : Request) (rs : Table Request) → tx_get t rs ≡ Some q → tx_set t (ruled r q) rs ≡ requests_by t (Some q) r rs
set_ruled t None q rs e = set_same t q rs e
set_ruled t (Some r) q rs e = refl

-- a request that passes is put among those that do, unless there was no memory for it
pub put_passing : {E : Type 0} (r : Result (Unit {0}) E) (P : TxId × Request → Type 0) (t : TxId) (q : Request) (old new : Table Request) → P (t, q) → AllByRecursion P old → OnOk r (new ≡ tx_put t q old) → OnErr r (new ≡ old) → AllByRecursion P new
put_passing (Ok u) P t q old new one all ok err = subst (λ (rs : Table Request). AllByRecursion P rs) (sym ok) (rows_put P t q old one all)
put_passing (Err e) P t q old new one all ok err = subst (λ (rs : Table Request). AllByRecursion P rs) (sym err) all

abbrev pub state_of : ℕ → Table Request → Coordination
state_of n rs = record { shard = n; requests = rs }
