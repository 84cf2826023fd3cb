-- What was reserved for an undo that isn't wanted any more.
use Rattle.std.proofs.Common.{◌≡◌, ℕ, ◌+◌, ◌≤◌, ⊎_elim, min, Bool, true, false, cond, List, [], ◌∷◌, None, Some, refl, sym, ap, subst, ◌∙◌, arith}
use Rattle.std.proofs.Math.Nat.{min-eq_right}
use Rattle.std.proofs.lemmas.Bool.{both_ways, cases_Bool, or_cases}
use Rattle.clv_base.specs.declared.names.TxId.{TxId}
use Rattle.clv_base.specs.declared.logs.LogRecord.{LogRecord}
use Rattle.clv_base.specs.declared.state.Held.{Held}
use Rattle.clv_base.specs.declared.state.Stage.TheVariants.{Active}
use Rattle.clv_base.specs.Orders.{Table, tx_same, tx_in}
use Rattle.clv_base.specs.State.{Local, is_present}
use Rattle.clv_base.specs.Undo.{stage_of, take_away, release_parts}
use Rattle.clv_base.specs.OneShard.{marked_in, mark_dropped, close_part}
use Rattle.clv_base.proofs.SameNames.{tx_true}
use Rattle.law_base.proofs.Stages.{stage_marked}
use Rattle.log_buffer.specs.Buffers.{Buffer}
use Rattle.txn_core.specs.State.{TxState, IsSameBut}
use Rattle.txn_core.specs.Sound.{is_here, is_in, owed_by, IsKept, KeepsSpare, SpendsSpare}
use Rattle.txn_core.proofs.Counting.{in_set}
use Rattle.txn_core.proofs.Owing.{count_owed_fewer, count_owed_apart, count_owed_covered, owed-undone}
use Rattle.txn_core.proofs.Undoing.{gone_here, still_here}
use Rattle.txn_core.proofs.Closed.{finished_here, still_here as others_here, spare_finished, closed_fewer, closed_back}

-- ---- an undo of a set

module _ (set : List TxId) (tx : TxId) (l : Local) where
  gone_or_here : (t : TxId) → is_here l t ≡ true → is_here (take_away set tx l) t ≡ false → tx_in t set ≡ true
  gone_or_here t here gone = ⊎_elim (λ i. i) (λ out. absurd (both_ways _ gone (still_here set tx l t out here))) (cases_Bool (tx_in t set))

  pub spare_back : (spare left : ℕ) → left + owed_by (in_set set) l.log ≤ spare
      → left + owed_by (is_here l) l.log ≤ spare + owed_by (is_here (take_away set tx l)) (take_away set tx l).log
  spare_back spare left room =
      let same = owed-undone (is_here (take_away set tx l)) set l.log (λ t h. (gone_here set tx l t h).0) in
      let cover = count_owed_covered (is_here (take_away set tx l)) (in_set set) (is_here l) l.log gone_or_here in omega (arith, same, cover, room)

-- ---- a part that is finished

pub own_fits : (parts : Table Held) (tx : TxId) (log : List LogRecord) → is_in parts tx ≡ true → owed_by (in_set (tx ∷ [])) log ≤ owed_by (is_in parts) log
own_fits parts tx log e = count_owed_fewer (in_set (tx ∷ [])) (is_in parts) log (λ t i. subst (λ u. is_in parts u ≡ true) (own t i) e)
  where
    own : (t : TxId) → tx_in t (tx ∷ []) ≡ true → tx ≡ t
    own t i = ⊎_elim (λ s. tx_true tx t s) (λ no. absurd (both_ways false refl no)) (or_cases (tx_same tx t) false i)

-- what is owed to its part, where it is here
abbrev pub own_owed : TxId → Local → ℕ
own_owed tx l = cond (is_here l tx) (owed_by (in_set (tx ∷ [])) l.log) 0

module _ (tx : TxId) (l : Local) where
  own : (t : TxId) → tx_in t (tx ∷ []) ≡ true → tx ≡ t
  own t i = ⊎_elim (λ s. tx_true tx t s) (λ no. absurd (both_ways false refl no)) (or_cases (tx_same tx t) false i)

  pub finished_own : owed_by (is_here (release_parts (tx ∷ []) None l)) l.log + own_owed tx l ≡ owed_by (is_here l) l.log
  finished_own = ⊎_elim here away (cases_Bool (is_here l tx))
    where
      here : is_here l tx ≡ true → owed_by (is_here (release_parts (tx ∷ []) None l)) l.log + own_owed tx l ≡ owed_by (is_here l) l.log
      here e =
          let mine = ap (λ b. cond b (owed_by (in_set (tx ∷ [])) l.log) 0) e in
          let apart = count_owed_apart (is_here (release_parts (tx ∷ []) None l)) (in_set (tx ∷ [])) (is_here l) l.log (λ t h. (finished_here tx l t h).1) (λ t i. subst (λ u. is_here l u ≡ true) (own t i) e) (λ t h. (finished_here tx l t h).0) in
          let cover = count_owed_covered (is_here (release_parts (tx ∷ []) None l)) (in_set (tx ∷ [])) (is_here l) l.log
          (λ t h gone. ⊎_elim (λ i. i) (λ out. absurd (both_ways _ gone (others_here tx l t out h))) (cases_Bool (tx_in t (tx ∷ [])))) in
          omega (arith, mine, apart, cover)

      away : is_here l tx ≡ false → owed_by (is_here (release_parts (tx ∷ []) None l)) l.log + own_owed tx l ≡ owed_by (is_here l) l.log
      away e =
          let none = ap (λ b. cond b (owed_by (in_set (tx ∷ [])) l.log) 0) e in
          let fewer = spare_finished tx l in
          let more = count_owed_fewer (is_here l) (is_here (release_parts (tx ∷ []) None l)) l.log
          (λ t h. ⊎_elim (λ i. absurd (both_ways _ e (subst (λ u. is_here l u ≡ true) (sym (own t i)) h))) (λ out. others_here tx l t out h) (cases_Bool (tx_in t (tx ∷ [])))) in
          omega (arith, none, fewer, more)

-- ---- states

-- what is kept of a state with this buffer, in which the log stands
abbrev pub Kept : Table ℕ → Local → Buffer LogRecord → Type 0
Kept commits l b = IsKept commits (record l { log = b.records }) b.room

-- of a state the parts and the log alone count
pub back_like : (s t : TxState) (m : Local) → (t.local).parts ≡ m.parts → (t.local).log ≡ m.log
    → t.room + owed_by (is_here s.local) (s.local).log ≤ s.room + owed_by (is_here m) m.log → KeepsSpare t s
back_like s t m parts log h =
    subst (λ (ps : Table Held). t.room + owed_by (is_here s.local) (s.local).log ≤ s.room + owed_by (is_here (record m { parts = ps })) (t.local).log) (sym parts)
    (subst (λ (lg : List LogRecord). t.room + owed_by (is_here s.local) (s.local).log ≤ s.room + owed_by (is_here m) lg) (sym log) h)

-- a mark changes no stage
pub back_marked : (s t : TxState) (tx : TxId) → (t.local).parts ≡ marked_in tx (s.local).parts → (t.local).log ≡ (s.local).log → t.room ≤ s.room → KeepsSpare t s
back_marked s t tx parts log less =
    let a = count_owed_fewer (is_here s.local) (is_here (mark_dropped tx s.local)) (s.local).log (λ u h. ap is_present (stage_marked tx u (s.local).parts) ∙ h) in
    back_like s t (mark_dropped tx s.local) parts log (omega (arith, a, less))

-- ---- what was reserved for a closing

same_through : (f : Local → Local) (s m t : TxState) → IsSameBut s s.local m → IsSameBut m (f m.local) t → IsSameBut s (f s.local) t
same_through f s m t a b = b ∙ ap (λ (v : TxState). record v { local = f v.local; room = t.room; pairs_room = t.pairs_room }) a

-- what may be owed in a state
abbrev owed_in : TxState → ℕ
owed_in s = owed_by (is_here s.local) (s.local).log

module _ (tx : TxId) (home : ℕ) (one : Bool) (s m t : TxState) (active : stage_of s.local tx ≡ Some Active) (made : IsSameBut s s.local m) (closed : IsSameBut m (close_part tx home one m.local) t) where
  closed_local : t.local ≡ close_part tx home one s.local
  closed_local = ap (λ (v : TxState). v.local) (same_through (close_part tx home one) s m t made closed)

  closed_owed : owed_in t ≡ owed_in s
  closed_owed =
      let same = ap (λ (l : Local). owed_by (is_here l) l.log) closed_local in
      let fewer = closed_fewer s.local tx home one active in let back = closed_back s.local tx home one active in omega (arith, same, fewer, back)

  -- a closing that wrote nothing gives its place back, another one has used it
  pub closing_fits : owed_in s ≤ s.room → owed_in t ≤ s.room
  closing_fits h = let same = closed_owed in omega (arith, same, h)

  pub closing_back : (u : TxState) (room pairs : ℕ) → m.room ≡ s.room + 1 → SpendsSpare 1 m t → room ≡ s.room → u ≡ record t { room = min t.room room; pairs_room = pairs }
      → KeepsSpare s u × KeepsSpare u s
  closing_back u room pairs more spent a e =
      let before = ap (λ (v : TxState). owed_in v) made in let now = closed_owed in let after = ap (λ (v : TxState). owed_in v) e in
      let enough : s.room ≤ t.room = omega (arith, before, now, more, spent) in
      let left : u.room ≡ s.room = ap (λ (v : TxState). v.room) e ∙ min-eq_right (omega (arith, enough, a)) ∙ a in
      (omega (arith, left, now, after), omega (arith, left, now, after))
