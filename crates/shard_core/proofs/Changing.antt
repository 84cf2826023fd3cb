-- A change of a shard's parts at rest, before what is due then is done.
use Rattle.std.proofs.Common.{◌≡◌, refl, sym, ap, subst, ◌∙◌, ℕ, ◌+◌, ◌*◌, ◌≤◌, Bool, true, false, cond, ◌||◌, List, [], ◌∷◌, ◌++◌, map, length, Some, arith}
use Rattle.std.specs.List.Sorted.{IsStrictlySortedBy}
use Rattle.std.specs.Map.{keys_of}
use Rattle.clv_base.specs.declared.names.TxId.{TxId}
use Rattle.clv_base.specs.declared.state.Held.{Held}
use Rattle.clv_base.specs.Orders.{Table, tx_same, tx_in, tx_cmp}
use Rattle.clv_base.specs.State.{Shard, Local, with_local, is_present}
use Rattle.clv_base.specs.Undo.{stage_of, doomed_here, roll_back}
use Rattle.clv_base.specs.OneShard.{purge, rolled_back_if, without_part, dropped_part, drop_part}
use Rattle.clv_base.specs.Due.{total, part_work}
use Rattle.clv_base.specs.Events.{finish}
use Rattle.protocol_laws.specs.Candidates.{Cover}
use Rattle.protocol_laws.specs.Changes.{ChangesDue}
use Rattle.protocol_laws.specs.Purging.{WritesAreLocked}
use Rattle.protocol_laws.specs.Left.{left}
use Rattle.protocol_laws.proofs.Laws.{cover_grows, purges_dont_matter, gone_le, parts_le, rolled_stay, without_stay, dropped_stay}
use Rattle.due_step.specs.Ready.{IsReady}
use Rattle.due_step.specs.Sent.{Waiting}
use Rattle.txn_core.specs.State.{TxState}
use Rattle.txn_core.specs.Sound.{is_here, owed_by, KeepsSpare}
use Rattle.shard_core.specs.Whole.{HasRoom}

-- those that a change touched are among the candidates, which cover then
pub covers : (S V : Shard) (set txs : List TxId) → Cover [] S → ChangesDue set S V → ((x : TxId) → tx_in x set ≡ true → tx_in x txs ≡ true) → Cover txs (with_local purge V)
covers S V set txs rest changes within =
    let now : Cover (set ++ []) V = cover_grows set [] S V changes rest in
    let more : Cover txs V = λ x due. within x (ends set x (now x due)) in
    cover_grows [] txs V (with_local purge V) (record { shard = refl; facts = λ x e. refl; voters = λ x e. refl; requests = λ x e. refl }) more
  where
    ends : (xs : List TxId) (x : TxId) → tx_in x (xs ++ []) ≡ true → tx_in x xs ≡ true
    ends [] x e = e
    ends (y ∷ ys) x e = at (tx_same y x) e (ends ys x)
      where
        at : (b : Bool) → (b || tx_in x (ys ++ [])) ≡ true → (tx_in x (ys ++ []) ≡ true → tx_in x ys ≡ true) → (b || tx_in x ys) ≡ true
        at true e more = refl
        at false e more = more e

-- ghosts that go make nothing due
pub cover_purged : (V : Shard) (txs : List TxId) → Cover txs V → Cover txs (with_local purge V)
cover_purged V txs more = cover_grows [] txs V (with_local purge V) (record { shard = refl; facts = λ x e. refl; voters = λ x e. refl; requests = λ x e. refl }) more

pub ready_after : (V U : Shard) (txs : List TxId) (limit : ℕ) → Cover txs (with_local purge V) → U ≡ with_local purge V
    → IsStrictlySortedBy tx_cmp (keys_of V.requests) → IsStrictlySortedBy tx_cmp txs → length txs ≤ limit → purge U.local ≡ U.local → IsReady U txs limit
ready_after V U txs limit cover same requests rise few purged = record {
  requests = subst (λ (x : Shard). IsStrictlySortedBy tx_cmp (keys_of x.requests)) (sym same) requests;
  rise = rise;
  few = few;
  cover = subst (Cover txs) (sym same) cover;
  purged = ap (λ (l : Local). record U { local = l }) purged;
}

-- what comes of it in the end
pub finish_same : (V U : Shard) → U ≡ with_local purge V → WritesAreLocked U.local → finish U ≡ finish V
finish_same V U same locked = ap finish same ∙ purges_dont_matter V (subst (λ (x : Shard). WritesAreLocked x.local) same locked)

-- ---- room

-- where no more is left to do, and room beyond undo stays
pub room_kept : (S U : Shard) (t u : TxState) (o w : Waiting) → left U ≤ left S → KeepsSpare t u → t.pairs_room ≤ u.pairs_room → o.room ≤ w.room → HasRoom S t o → HasRoom U u w
room_kept S U t u o w less keeps pairs messages r =
    let a = r.records in let b = r.pairs in let c = r.messages in
    record { records = spare (left S) (left U) (owed_by (is_here t.local) (t.local).log) (owed_by (is_here u.local) (u.local).log) t.room u.room less a keeps; pairs = omega (arith, less, b, pairs); messages = mail (left S) (left U) o.room w.room less c messages }
  where
    spare : (n m a b x y : ℕ) → m ≤ n → n + 1 + a ≤ x → x + b ≤ y + a → m + 1 + b ≤ y
    spare n m a b x y h k l = omega arith

    mail : (n m x y : ℕ) → m ≤ n → 15 * (n + 1) ≤ x → x ≤ y → 15 * (m + 1) ≤ y
    mail n m x y h k l = omega arith

-- ---- how much is left with parts that changed

mapped_le : (f : TxId × Held → Held) → ((p : TxId × Held) → part_work (f p) ≤ part_work p.1) → (parts : Table Held) → total part_work (map (λ p. (p.0, f p)) parts) ≤ total part_work parts
mapped_le f h [] = omega arith
mapped_le f h (p ∷ ps) = let a = h p in let b = mapped_le f h ps in omega (arith, a, b)

rolled_work : (tx : TxId) (l : Local) → total part_work (roll_back tx l).parts ≤ total part_work l.parts
rolled_work tx l = gone_le (doomed_here l tx) (Some tx) l.parts

without_work : (tx : TxId) (l : Local) → total part_work (without_part tx l).parts ≤ total part_work l.parts
without_work tx l = at (is_present (stage_of l tx))
  where
    at : (b : Bool) → total part_work (rolled_back_if b tx l).parts ≤ total part_work l.parts
    at true = rolled_work tx l
    at false = omega arith

mark_same : (b : Bool) (h : Held) → part_work (cond b (dropped_part h) h) ≤ part_work h
mark_same true h = omega arith
mark_same false h = omega arith

dropped_work : (tx : TxId) (l : Local) → total part_work (drop_part tx l).parts ≤ total part_work l.parts
dropped_work tx l = let a = mapped_le (λ p. cond (tx_same tx p.0) (dropped_part p.1) p.1) (λ p. mark_same (tx_same tx p.0) p.1) (without_part tx l).parts in let b = without_work tx l in omega (arith, a, b)

pub rolled_le : (s : Shard) (tx : TxId) → left (record s { local = roll_back tx s.local }) ≤ left s
rolled_le s tx = parts_le s (roll_back tx s.local) (rolled_work tx s.local) (rolled_stay tx s.local)

pub without_le : (s : Shard) (tx : TxId) → left (record s { local = without_part tx s.local }) ≤ left s
without_le s tx = parts_le s (without_part tx s.local) (without_work tx s.local) (without_stay tx s.local)

pub dropped_le : (s : Shard) (tx : TxId) → left (record s { local = drop_part tx s.local }) ≤ left s
dropped_le s tx = parts_le s (drop_part tx s.local) (dropped_work tx s.local) (dropped_stay tx s.local)
