-- What a going back makes of its session: the same transaction goes on, with what it touched, or it died.
use Rattle.std.proofs.Common.{◌≡◌, refl, ℕ, suc, true, false, cond, Bool, List, Option, Some, None, is_some, ◌&&◌, ◌==◌, nat_lt}
use Rattle.std.specs.Map.{lookup}
use Rattle.std.proofs.lemmas.Bool.{both_ways, and_parts}
use Rattle.clv_base.specs.declared.names.TxId.{TxId}
use Rattle.clv_base.specs.declared.causes.AbortCause.{AbortCause}
use Rattle.clv_base.specs.declared.events.Event.TheVariants.{RollTo}
use Rattle.clv_base.specs.declared.events.Outcome.{Outcome}
use Rattle.clv_base.specs.declared.events.Outcome.TheVariants.{Rolled, Dead}
use Rattle.clv_base.specs.Orders.{tx_same}
use Rattle.clv_base.specs.LogRules.{same_option}
use Rattle.clv_base.specs.Sessions.{SessionState, Ended, is_touching, goes_on_back, back_for, back_in_session, session_after}
use Rattle.clv_base.proofs.SameNames.{tx_true}

-- the session goes on by the same transaction
pub record Same (u t : SessionState) : Type 0 where
  pub tx : u.tx ≡ t.tx
  pub birth : u.birth ≡ t.birth
  pub touched : u.touched ≡ t.touched

-- the transaction is the session's, may have operations, and touched the shard
pub record MayGo (t : SessionState) (tx : TxId) (n : ℕ) : Type 0 where
  pub own : tx ≡ t.tx
  pub touching : is_touching t.phase ≡ true
  pub touched : is_some (lookup (◌==◌ n) t.touched) ≡ true

pub data Back (t : SessionState) (tx : TxId) (n : ℕ) : Outcome → Option SessionState → Type 0 where
  no_back : {o : Outcome} → Back t tx n o None
  went : {u : SessionState} → MayGo t tx n → Same u t → u.phase ≡ t.phase → Back t tx n Rolled (Some u)
  died : {u : SessionState} (cause : AbortCause) → MayGo t tx n → Same u t → u.phase ≡ Ended → Back t tx n (Dead cause) (Some u)

same_seen : (seen : ℕ) (o : Option ℕ) → same_option (Some seen) o ≡ true → is_some o ≡ true
same_seen seen None h = absurd (both_ways false refl h)
same_seen seen (Some k) h = refl

-- as the session is found
data Found (t : SessionState) : Option SessionState → Type 0 where
  nobody : Found t None
  found : {u : SessionState} → Same u t → u.phase ≡ t.phase → Found t (Some u)

found_if : (t : SessionState) (b : Bool) (o : Option SessionState) → Found t o → Found t (cond b o None)
found_if t true o f = f
found_if t false o f = nobody

found_by : (t : SessionState) (b : Bool) (o p : Option SessionState) → Found t o → Found t p → Found t (cond b o p)
found_by t true o p f g = f
found_by t false o p f g = g

found_for : (t : SessionState) (n nth upto : ℕ) → Found t (back_for t n nth upto)
found_for t n nth upto =
    found_by t (nth == suc t.nth) _ _ (found_if t (nat_lt upto nth) _ (found (record { tx = refl; birth = refl; touched = refl }) refl))
    (found_if t ((nth == t.nth) && goes_on_back t.back n upto) _ (found (record { tx = refl; birth = refl; touched = refl }) refl))

back_by : (t : SessionState) (tx : TxId) (n upto : ℕ) (o : Outcome) (v : Option SessionState) → MayGo t tx n → Found t v → Back t tx n o (back_in_session n upto o v)
back_by t tx n upto o None m f = no_back
back_by t tx n upto Rolled (Some u) m (found s p) = went m (record { tx = s.tx; birth = s.birth; touched = s.touched }) p
back_by t tx n upto (Dead cause) (Some u) m (found s p) = died cause m (record { tx = s.tx; birth = s.birth; touched = s.touched }) refl
back_by t tx n upto _ (Some u) m f = no_back

pub back_after : (splits : List ℕ) (n : ℕ) (t : SessionState) (tx : TxId) (nth seen upto : ℕ) (o : Outcome) → Back t tx n o (session_after splits n t (RollTo tx nth seen upto) o)
back_after splits n t tx nth seen upto o = at _ refl
  where
    at : (b : Bool) → (tx_same tx t.tx && is_touching t.phase && same_option (Some seen) (lookup (◌==◌ n) t.touched)) ≡ b → Back t tx n o (cond b (back_in_session n upto o (back_for t n nth upto)) None)
    at true e =
        let p = and_parts (tx_same tx t.tx && is_touching t.phase) (same_option (Some seen) (lookup (◌==◌ n) t.touched)) e in
        let q = and_parts (tx_same tx t.tx) (is_touching t.phase) p.0 in
        back_by t tx n upto o (back_for t n nth upto) (record { own = tx_true tx t.tx q.0; touching = q.1; touched = same_seen seen (lookup (◌==◌ n) t.touched) p.1 }) (found_for t n nth upto)
    at false e = no_back
