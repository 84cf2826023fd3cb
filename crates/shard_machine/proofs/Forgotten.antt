-- A machine runs on without a request's row.
use Rattle.std.proofs.Common.{◌≡◌, sym, ap, subst, ◌∙◌, ℕ, Bool, true, false, cond, List, [], ◌∷◌, Option, is_none}
use Rattle.std.specs.List.{list_all}
use Rattle.std.proofs.lemmas.Bool.{and_parts, and_from}
use Rattle.clv_base.specs.declared.names.TxId.{TxId}
use Rattle.clv_base.specs.Orders.{Table, tx_same, tx_drop}
use Rattle.clv_base.specs.State.{Shard}
use Rattle.clv_base.specs.declared.events.Entry.{Entry}
use Rattle.machine_laws.specs.Frame.{stamped_as}
use Rattle.machine_laws.specs.Fitting.{request_fits, IsNamed}
use Rattle.shard_core.specs.Core.{Core}
use Rattle.shard_core.specs.Whole.{IsAtRest}
use Rattle.shard_machine.specs.Journaled.{Journaled}
use Rattle.shard_machine.specs.Machined.{Machined, IsRunning}

passes_drop : {V : Type 0} (f : TxId × V → Bool) (tx : TxId) (rows : Table V) → list_all f rows ≡ true → list_all f (tx_drop tx rows) ≡ true
passes_drop f tx [] h = h
passes_drop f tx (r ∷ rs) h = let p = and_parts (f r) (list_all f rs) h in at p.0 p.1 (tx_same tx r.0) (passes_drop f tx rs p.1)
  where
    at : f r ≡ true → list_all f rs ≡ true → (b : Bool) → list_all f (tx_drop tx rs) ≡ true → list_all f (cond b rs (r ∷ tx_drop tx rs)) ≡ true
    at i j true more = j
    at i j false more = and_from (f r) _ i more

still_named : (s : Shard) (tx : TxId) → IsNamed s → IsNamed (record s { requests = tx_drop tx s.requests })
still_named s tx n = record {
  fitting = record { shard = n.fitting.shard; voters = n.fitting.voters; requests = passes_drop request_fits tx s.requests n.fitting.requests; outbox = n.fitting.outbox };
  spelled = n.spelled;
}

pub runs_without : (c d : Core) (up : Bool) (last : _) (j : Journaled) (has : Bool) (tx : TxId) → d.shard ≡ record c.shard { requests = tx_drop tx c.shard.requests } → IsAtRest d → IsRunning c up last j has → IsRunning d up last j has
runs_without c d up last j has tx is rest r = record {
  rest = rest;
  named = subst IsNamed (sym is) (still_named c.shard tx r.named);
  index = r.index ∙ sym (ap (λ (s : Shard). s.shard) is);
  few = r.few;
  gate = λ u. r.gate u ∙ sym (ap (λ (s : Shard). is_none s.flight) is);
}

-- so it is seen
abbrev pub Seen : (G : Type 0) → Bool → ℕ → List Entry → Shard → Machined G → Type 0
Seen G up last entries s m = (gate : Option G) × (record { shard = stamped_as up last entries s; gate = gate } ≡ m)

pub seen_without : {G : Type 0} (up : Bool) (last : ℕ) (entries : List Entry) (s t : Shard) (tx : TxId) (m : Machined G) → Seen G up last entries s m → t ≡ record s { requests = tx_drop tx s.requests }
    → stamped_as up last entries t ≡ record m.shard { requests = tx_drop tx m.shard.requests }
seen_without up last entries s t tx m (gate, was) is = ap (stamped_as up last entries) is ∙ ap (λ (v : Machined _). record v.shard { requests = tx_drop tx v.shard.requests }) was
