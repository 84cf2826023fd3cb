-- Who is out on a shard, gone or never restored, is never committed there: it isn't in its log any more, or never restored, or dead at its
-- home, or its PREPARE lists one that is out as well.
use Rattle.std.proofs.Common.{◌≡◌, ◌⊎◌, inl, inr, ⊎_elim, refl, sym, ap, subst, ◌∙◌, ℕ, ◌≤◌, true, false, Bool, List, [], ◌∷◌, length, Some, None, arith, length-append}
use Rattle.std.proofs.lemmas.Bool.{both_ways, or_cases, false_from_ne_true}
use Rattle.clv_base.specs.declared.names.TxId.{TxId}
use Rattle.clv_base.specs.declared.causes.Vote.TheVariants.{Read}
use Rattle.clv_base.specs.declared.logs.LogRecord.{LogRecord}
use Rattle.clv_base.specs.declared.state.Voter.{Voter}
use Rattle.clv_base.specs.declared.state.Request.{Request}
use Rattle.clv_base.specs.declared.state.RequestState.TheVariants.{Undecided}
use Rattle.clv_base.specs.declared.state.Stage.TheVariants.{Active}
use Rattle.clv_base.specs.Orders.{tx_same, tx_in, tx_get}
use Rattle.clv_base.specs.Logs.{committed_in, prepared_in, aborted_in, prepare_of}
use Rattle.clv_base.specs.State.{Shard, Local, is_present}
use Rattle.clv_base.specs.Undo.{stage_of, gone_in, doomed_by, doomed_here, roll_back}
use Rattle.clv_base.specs.Restarts.{log_left}
use Rattle.clv_base.proofs.SameNames.{tx_true}
use Rattle.law_base.proofs.Tables.{stage_in, is_pair}
use Rattle.law_base.proofs.Sets.{filter_in}
use Rattle.protocol_laws.specs.Growth.{IsPrefixOf}
use Rattle.history_laws.proofs.NeverTakenBack.LaterHistoriesHoldMembers.{committed_front}
use Rattle.history_cases.proofs.Uncommitting.{rolled as rolled_commits}
use Rattle.law_base.proofs.Stages.{absent_go, own_go, stage_other}
use Rattle.shard_laws.proofs.Order.ChangesKeepOrder.{prepare_some}
use Rattle.fate_laws.proofs.Homes.ShardKnowsHomes.{still_not}
use Rattle.fate_laws.proofs.Logs.LogOnlyGrows.{Inside}
use Rattle.fate_laws.proofs.Logs.WhatAddsNoPrepare.{prepare_more}
use Rattle.fate_laws.proofs.CommitsGoDownwards.{Down}
use Rattle.fate_laws.proofs.Parts.YesVotesArePrepared.{front_same}
use Rattle.fate_laws.proofs.FallenAreUncommitted.PreparedPairsAreListed.{Lined}
use Rattle.law_base.specs.Coming.{is_let_go}
use Rattle.fate_laws.proofs.FallenAreUncommitted.GoesWithItsPredecessor.{goes}
use Rattle.protocol_laws.proofs.LogsInOrder.OneRecordMore.{prepared_there}

-- ---- what is known. K: who is dead at its home; V: who was out so far; O: who asked, or was answered here; Q: whose home is here

abbrev pub Absent : Shard → TxId → Type 0
Absent s t = is_present (stage_of s.local t) ≡ false

abbrev pub Out : (TxId → Type 0) → Shard → TxId → Type 0
Out O s t = Absent s t × (committed_in s.local.log t ≡ false) × O t

abbrev pub Lost : (TxId → Type 0) → (TxId → Type 0) → (TxId → Type 0) → Shard → TxId → ℕ × List TxId → Type 0
Lost K V O s t p = ((aborted_in (log_left s false) t ≡ true) × Absent s t) ⊎ (((p.0 ≡ s.shard) × Absent s t) ⊎ (K t ⊎ ((q : TxId) × (tx_in q p.1 ≡ true) × (V q ⊎ Out O s q))))

pub record Barred (K V O Q : TxId → Type 0) (s : Shard) : Type 0 where
  -- what a checkpoint kept: whom it let go is out
  pub part : List LogRecord
  pub lined : Lined part s.local
  pub gone : (t : TxId) → is_let_go part t ≡ true → Out O s t
  pub down : Down s
  pub counted : s.durable ≤ length s.local.log
  -- who is prepared asked; whose home is here names it in its PREPARE; and an undecided request is of one whose home is here
  pub sought : (t : TxId) → prepared_in s.local.log t ≡ true → O t
  pub homes : (t : TxId) (p : ℕ × List TxId) → Q t → prepare_of s.local.log t ≡ Some p → p.0 ≡ s.shard
  pub rows : (t : TxId) (q : Request) → tx_get t s.requests ≡ Some q → q.state ≡ Undecided → Q t
  -- who voted read has no PREPARE, and gets none
  pub readers : (t : TxId) (v : Voter) → tx_get t s.voters ≡ Some v → v.vote ≡ Some Read → (prepared_in s.local.log t ≡ false) × (stage_of s.local t ≡ Some Active → ⊥)
  -- who was out is not committed; where it is here again it is restored from its PREPARE; and it is lost
  pub open_ : (t : TxId) → V t → committed_in s.local.log t ≡ false
  pub here : (t : TxId) → V t → is_present (stage_of s.local t) ≡ true → (p : ℕ × List TxId) × (prepare_of s.local.log t ≡ Some p) × (p.0 ≡ s.shard → ⊥)
  pub why : (t : TxId) (p : ℕ × List TxId) → V t ⊎ Out O s t → prepare_of s.local.log t ≡ Some p → Lost K V O s t p

pub lost_inactive : (K V O Q : TxId → Type 0) (s : Shard) (t : TxId) → Barred K V O Q s → V t → stage_of s.local t ≡ Some Active → ⊥
lost_inactive K V O Q s t b v a =
    let h = b.here t v (subst (λ o. is_present o ≡ true) (sym a) refl) in both_ways _ ((b.lined).unprepared t a) (prepared_there s.local.log t h.0 h.1)

-- ---- a change

pub record Change (part : List LogRecord) (K V O Q : TxId → Type 0) (s x : Shard) : Type 0 where
  pub inside : Inside s x
  pub lined : Lined part x.local
  pub down : Down x
  pub found : (t : TxId) (p : ℕ × List TxId) → prepare_of x.local.log t ≡ Some p → (prepare_of s.local.log t ≡ Some p) ⊎ ((stage_of s.local t ≡ Some Active) × (is_present (stage_of x.local t) ≡ true))
  pub sought : (t : TxId) (p : ℕ × List TxId) → prepare_of x.local.log t ≡ Some p → O t × (Q t → p.0 ≡ s.shard)
  pub rows : (t : TxId) (q : Request) → tx_get t x.requests ≡ Some q → q.state ≡ Undecided → Q t
  pub readers : (t : TxId) (v : Voter) → tx_get t x.voters ≡ Some v → v.vote ≡ Some Read → (prepared_in x.local.log t ≡ false) × (stage_of x.local t ≡ Some Active → ⊥)
  -- who is out gets no COMMIT, and does not come back
  pub stay : (t : TxId) → V t ⊎ Out O s t → committed_in x.local.log t ≡ false
  pub away : (t : TxId) → V t ⊎ Out O s t → is_present (stage_of x.local t) ≡ true → is_present (stage_of s.local t) ≡ true
  -- who goes is lost
  pub goes : (t : TxId) (p : ℕ × List TxId) → is_present (stage_of s.local t) ≡ true → Out O x t → prepare_of s.local.log t ≡ Some p → Lost K V O x t p

pub lost_next : (K V O Q : TxId → Type 0) (s x : Shard) (t : TxId) (p : ℕ × List TxId) → s.durable ≤ length s.local.log → Inside s x → ((t : TxId) → V t ⊎ Out O s t → committed_in x.local.log t ≡ false)
    → ((t : TxId) → V t ⊎ Out O s t → is_present (stage_of x.local t) ≡ true → is_present (stage_of s.local t) ≡ true) → V t ⊎ Out O s t → Lost K V O s t p → Lost K V O x t p
lost_next K V O Q s x t p n i stay away w (inl (a, b)) = inl (subst (λ l. aborted_in l t ≡ true) (sym (front_same s x i n)) a, still_not _ _ (away t w) b)
lost_next K V O Q s x t p n i stay away w (inr (inl (a, b))) = inr (inl (a ∙ sym i.shard, still_not _ _ (away t w) b))
lost_next K V O Q s x t p n i stay away w (inr (inr (inl k))) = inr (inr (inl k))
lost_next K V O Q s x t p n i stay away w (inr (inr (inr (q, m, inl v)))) = inr (inr (inr (q, m, inl v)))
lost_next K V O Q s x t p n i stay away w (inr (inr (inr (q, m, inr o)))) = inr (inr (inr (q, m, inr (still_not _ _ (away q (inr o)) o.0, stay q (inr o), o.2))))

pub barred_next : (K V O Q : TxId → Type 0) (s x : Shard) (b : Barred K V O Q s) → Change b.part K V O Q s x → Barred K V O Q x
barred_next K V O Q s x b c = record {
  part = b.part;
  lined = c.lined;
  gone = λ t g. let o = b.gone t g in (still_not _ _ (c.away t (inr o)) o.0, c.stay t (inr o), o.2);
  down = c.down;
  counted = let l = grown s.local.log x.local.log (c.inside).log in let d = (c.inside).durable in omega (arith, l, d, b.counted);
  sought = λ t h. let p = prepare_some x.local.log t h in (c.sought t p.0 p.1).0;
  homes = λ t p q h. (c.sought t p h).1 q ∙ sym (c.inside).shard;
  rows = c.rows;
  readers = c.readers;
  open_ = λ t v. c.stay t (inl v);
  here = λ t v h. let o = b.here t v (c.away t (inl v) h) in (o.0, keeps t o.0 o.1, (λ e. o.2 (e ∙ (c.inside).shard)));
  why = λ t p w h. reason t p w h;
}
  where
    grown : (xs ys : List LogRecord) → IsPrefixOf xs ys → length xs ≤ length ys
    grown xs ys p = let e = ap length p.1 in let f = length-append xs p.0 in omega (arith, e, f)

    keeps : (t : TxId) (p : ℕ × List TxId) → prepare_of s.local.log t ≡ Some p → prepare_of x.local.log t ≡ Some p
    keeps t p e = subst (λ l. prepare_of l t ≡ Some p) ((c.inside).log).1 (prepare_more s.local.log ((c.inside).log).0 t p e)

    carry : (t : TxId) (p : ℕ × List TxId) → V t ⊎ Out O s t → prepare_of s.local.log t ≡ Some p → Lost K V O x t p
    carry t p w h = lost_next K V O Q s x t p b.counted c.inside c.stay c.away w (b.why t p w h)

    was : (t : TxId) (p : ℕ × List TxId) → Out O x t → prepare_of s.local.log t ≡ Some p → (d : Bool) → is_present (stage_of s.local t) ≡ d → Lost K V O x t p
    was t p o h true e = c.goes t p e o h
    was t p o h false e = carry t p (inr (e, false_from_ne_true _ (λ k. both_ways _ o.1 (committed_front s.local.log x.local.log t (c.inside).log k)), o.2)) h

    reason : (t : TxId) (p : ℕ × List TxId) → V t ⊎ Out O x t → prepare_of x.local.log t ≡ Some p → Lost K V O x t p
    reason t p (inl v) h = ⊎_elim (λ e. carry t p (inl v) e) (λ a. absurd (lost_inactive K V O Q s t b v a.0)) (c.found t p h)
    reason t p (inr o) h = ⊎_elim (λ e. was t p o e (is_present (stage_of s.local t)) refl) (λ a. absurd (both_ways _ o.0 a.1)) (c.found t p h)

-- ---- who goes by an abort, and who is finished

pub rolled_goes : (K V O Q : TxId → Type 0) (s x : Shard) (u : TxId) → x.local ≡ roll_back u s.local → Barred K V O Q s → committed_in s.local.log u ≡ false
    → ((p : ℕ × List TxId) → is_present (stage_of x.local u) ≡ false → prepare_of s.local.log u ≡ Some p → Lost K V O x u p)
    → (t : TxId) (p : ℕ × List TxId) → is_present (stage_of s.local t) ≡ true → Absent x t → prepare_of s.local.log t ≡ Some p → Lost K V O x t p
rolled_goes K V O Q s x u e b o root t p h a f = at (tx_in t (doomed_here s.local u)) refl
  where
    gone : (v : TxId) → tx_in v (doomed_by s.local u) ≡ true → Absent x v
    gone v m = subst (λ (l : Local). is_present (stage_of l v) ≡ false) (sym e) (by_stage (is_present (stage_of s.local v)) refl)
      where
        by_stage : (d : Bool) → is_present (stage_of s.local v) ≡ d → is_present (stage_in (gone_in (doomed_here s.local u) (Some u) s.local.parts) v) ≡ false
        by_stage true i = own_go (doomed_here s.local u) (Some u) v s.local.parts (filter_in (λ z. is_present (stage_of s.local z)) v (doomed_by s.local u) m i)
        by_stage false i = absent_go (doomed_here s.local u) (Some u) v s.local.parts i

    uncommitted : (v : TxId) → committed_in s.local.log v ≡ false → committed_in x.local.log v ≡ false
    uncommitted v c = subst (λ (l : Local). committed_in l.log v ≡ false) (sym e) (still_not (committed_in s.local.log v) (committed_in (roll_back u s.local).log v) (rolled_commits u s.local v) c)

    listed : (q : TxId) → is_pair s.local.pairs t q ≡ true → committed_in s.local.log q ≡ false → tx_in q (doomed_by s.local u) ≡ true → Lost K V O x t p
    listed q i c m =
        ⊎_elim
        (λ j. ⊎_elim (λ k. inr (inr (inr (q, j, inr (gone q m, uncommitted q c, b.sought q k))))) (λ k. absurd (both_ways _ c k)) ((b.lined).paired t q i))
        (λ j. absurd (both_ways _ c j))
        ((b.lined).met t q p i f)

    at : (d : Bool) → tx_in t (doomed_here s.local u) ≡ d → Lost K V O x t p
    at false i = absurd (both_ways _ (subst (λ (l : Local). is_present (stage_of l t) ≡ false) e a) (ap is_present (stage_other (doomed_here s.local u) (Some u) t s.local.parts i) ∙ h))
    at true i =
        let g = goes s u b.down o t i in
        ⊎_elim (λ k. subst (λ z. Lost K V O x z p) (sym k) (root p (subst (Absent x) k a) (subst (λ z. prepare_of s.local.log z ≡ Some p) k f))) (λ k. listed k.0 k.1 k.2 k.3) g.cause

pub finished_goes : (K V O : TxId → Type 0) (s x : Shard) (u : TxId) → x.local.parts ≡ gone_in (u ∷ []) None s.local.parts → x.local.log ≡ s.local.log → (committed_in s.local.log u ≡ true) ⊎ (prepared_in s.local.log u ≡ false)
    → (t : TxId) (p : ℕ × List TxId) → is_present (stage_of s.local t) ≡ true → Out O x t → prepare_of s.local.log t ≡ Some p → Lost K V O x t p
finished_goes K V O s x u e l k t p h o f = at (tx_in t (u ∷ [])) refl
  where
    at : (d : Bool) → tx_in t (u ∷ []) ≡ d → Lost K V O x t p
    at false i = absurd (both_ways _ (subst (λ z. is_present (stage_in z t) ≡ false) e o.0) (ap is_present (stage_other (u ∷ []) None t s.local.parts i) ∙ h))
    at true i =
        let q : u ≡ t = ⊎_elim (λ a. tx_true u t a) (λ a. absurd (both_ways false refl a)) (or_cases (tx_same u t) false i) in
        absurd (⊎_elim (λ c. both_ways _ (subst (λ z. committed_in z t ≡ false) l o.1) (subst (λ z. committed_in s.local.log z ≡ true) q c))
        (λ c. both_ways _ (subst (λ z. prepared_in s.local.log z ≡ false) q c) (prepared_there s.local.log t p f)) k)
