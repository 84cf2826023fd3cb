-- No part of a transaction of an earlier run ever fell, where some log at opening had its COMMIT.
pub mod EarlierPartsArePrepared
use Rattle.std.proofs.Common.{◌≡◌, ◌⊎◌, inl, inr, refl, sym, ap, subst, ◌∙◌, ℕ, zero, suc, ◌<◌, true, false, List, [], ◌∷◌, ◌++◌, length, Option, Some, None, arith, append-nil, append_assoc}
use Rattle.std.proofs.lemmas.Bool.{both_ways}
use Rattle.clv_base.specs.declared.names.TxId.{TxId}
use Rattle.clv_base.specs.declared.logs.LogRecord.{LogRecord}
use Rattle.clv_base.specs.declared.state.Stage.{Stage}
use Rattle.clv_base.specs.declared.events.Entry.{Entry}
use Rattle.clv_base.specs.Shards.{shard_count}
use Rattle.clv_base.specs.LogRules.{log_of}
use Rattle.clv_base.specs.Logs.{committed_in, prepared_in, prepare_of}
use Rattle.clv_base.specs.State.{is_present}
use Rattle.clv_base.specs.Undo.{stage_of}
use Rattle.clv_base.specs.Restarts.{run_after, log_left}
use Rattle.clv_base.specs.Journals.{History}
use Rattle.history_laws.specs.Openings.{LegalFrom}
use Rattle.shard_laws.specs.OneShard.{is_doomed}
use Rattle.history_cases.proofs.TellingEvents.{front_committed}
use Rattle.history_cases.proofs.Worlds.{state_at}
use Rattle.fate_laws.proofs.Logs.WhatAddsNoPrepare.{prepare_more, front_prepare}
use Rattle.fate_laws.proofs.History.EntryByEntry.{Next, next_at, fronts_next, durable_later}
use Rattle.fate_laws.proofs.Parts.YesVotesArePrepared.{Bound, Reads}
use Rattle.fate_laws.proofs.Parts.FrontsKeepParts.{FineAt, bindings_front}
use Rattle.fate_laws.specs.Earlier.{IsEarlier, WasCommitted}
use Rattle.fate_laws.proofs.EarlierRuns.FrontsKeepEarlierRuns.{elders_front, found_there}
use Rattle.fate_laws.specs.Falls.{Fell}
use Rattle.fate_laws.proofs.FallenAreUncommitted.FrontsKeepOutUncommitted.{WasOut, stands_front}
use Rattle.fate_laws.proofs.FallenAreUncommitted.{fell_out}
use Rattle.headline_laws.specs.Unfallen.{EarlierMembersNeverFell}
use Rattle.headline_laws.proofs.GoneAreLost.OutAreLost.{LostAt, all_lost}
use Rattle.headline_laws.proofs.EarlierMembersNeverFell.EarlierPartsArePrepared.{holds_front}
use Rattle.protocol_laws.proofs.LogsInOrder.OneRecordMore.{prepared_there}

pub committed_within : (logs : List (List LogRecord)) (m : ℕ) (t : TxId) → committed_in (log_of logs m) t ≡ true → m < length logs
committed_within [] m t c = absurd (both_ways false refl c)
committed_within (log ∷ logs) zero t c = omega arith
committed_within (log ∷ logs) (suc m) t c = let k = committed_within logs m t c in omega (arith, k)

doomed_stage : (o : Option Stage) → is_doomed o ≡ true → (st : Stage) × (o ≡ Some st)
doomed_stage None d = absurd (both_ways false refl d)
doomed_stage (Some st) d = (st, refl)

present_stage : (o : Option Stage) → is_present o ≡ true → (st : Stage) × (o ≡ Some st)
present_stage None d = absurd (both_ways false refl d)
present_stage (Some st) d = (st, refl)

module _ {splits : List ℕ} {before after : List (List LogRecord)} {h : History} (l : LegalFrom splits before h after) (n : ℕ) (tx : TxId)
    (i : n < shard_count splits) (r : IsEarlier before tx) (c : WasCommitted before tx) where
  -- after each front its part is bound, or has none, or is committed
  fine : (f rest : History) → f ++ rest ≡ h → FineAt before after f n tx
  fine f rest q =
      let m : c.0 < shard_count splits = let e = l.legal.each_log.0 in let k = committed_within before c.0 tx c.1 in omega (arith, e, k) in
      let there = found_there splits before after f c.0 tx (elders_front l f rest q) c.1 in
      ((bindings_front l f rest q).parted c.0 m).log tx there n (λ z. absurd (r z))

  -- whose part is prepared was never out
  pub never_out : (f rest : History) → f ++ rest ≡ h → prepared_in (state_at before after n f).local.log tx ≡ true → WasOut before after f n tx → ⊥
  never_out f rest q k v = by_fine (fine f rest q).1
    where
      open_ : (u : TxId) → WasOut before after f n u → committed_in (state_at before after n f).local.log u ≡ false
      open_ = ((stands_front l f rest q n i).barred).open_

      at_home : (p : ℕ × List TxId) → p.0 ≡ n → (tx.run ≡ run_after before) ⊎ (WasCommitted before tx → committed_in (log_of before p.0) tx ≡ true) → ⊥
      at_home p z (inl e) = r e
      at_home p z (inr e) = both_ways _ (open_ tx v) (found_there splits before after f n tx (elders_front l f rest q) (subst (λ m. committed_in (log_of before m) tx ≡ true) z (e c)))

      by_lost : (b : Bound (state_at before after n f) tx) → prepare_of (state_at before after n f).local.log tx ≡ Some b.listed → LostAt before after f n tx b.listed → ⊥
      by_lost b e (inl z) = at_home b.listed z (((elders_front l f rest q).elder n i).prepares tx b.listed e)
      by_lost b e (inr (inl (inl d))) = r d.0
      by_lost b e (inr (inl (inr z))) = z.1 c
      by_lost b e (inr (inr (u, j, w))) = let s = state_at before after n f in both_ways _ (open_ u w) (front_committed s.durable s.local.log u (b.durable u j))

      by_fine : Bound (state_at before after n f) tx ⊎ (Reads (state_at before after n f) tx ⊎ (committed_in (log_left (state_at before after n f) false) tx ≡ true)) → ⊥
      by_fine (inl b) =
          let s = state_at before after n f in
          let e = front_prepare s.durable s.local.log tx b.listed b.prepare in
          by_lost b e (all_lost l f rest q n i tx b.listed (inr c) v e)
      by_fine (inr (inl z)) = both_ways _ z.unprepared k
      by_fine (inr (inr d)) = let s = state_at before after n f in both_ways _ (open_ tx v) (front_committed s.durable s.local.log tx d)

  -- a part that a restart leaves out stays prepared
  still_prepared : (f : History) (e : Entry) (rest : History) → f ++ (n, e) ∷ rest ≡ h → is_present (stage_of (state_at before after n f).local tx) ≡ true → committed_in (state_at before after n (f ++ (n, e) ∷ [])).local.log tx ≡ false
      → prepared_in (state_at before after n (f ++ (n, e) ∷ [])).local.log tx ≡ true
  still_prepared f e rest q there unc = by_fine (fine f ((n, e) ∷ rest) q).1
    where
      w : Next splits before after h f (n, e)
      w = next_at splits before after h f (n, e) rest l.legal q

      by_fine : Bound (state_at before after n f) tx ⊎ (Reads (state_at before after n f) tx ⊎ (committed_in (log_left (state_at before after n f) false) tx ≡ true)) → prepared_in (state_at before after n (f ++ (n, e) ∷ [])).local.log tx ≡ true
      by_fine (inl b) =
          let x = state_at before after n (f ++ (n, e) ∷ []) in
          let p = (fronts_next splits before after h f (n, e) w ((elders_front l f ((n, e) ∷ rest) q).counts)).front in
          prepared_there x.local.log tx b.listed (front_prepare x.durable x.local.log tx b.listed (subst (λ z. prepare_of z tx ≡ Some b.listed) p.1 (prepare_more (log_left (state_at before after n f) false) p.0 tx b.listed b.prepare)))
      by_fine (inr (inl z)) =
          let g = present_stage (stage_of (state_at before after n f).local tx) there in
          absurd (both_ways _ z.unprepared (holds_front splits before after h f ((n, e) ∷ rest) l.legal q n i tx g.0 r g.1))
      by_fine (inr (inr d)) =
          let x = state_at before after n (f ++ (n, e) ∷ []) in
          let k = durable_later splits before after h f (n, e) w ((elders_front l f ((n, e) ∷ rest) q).counts) n tx d in
          absurd (both_ways _ unc (front_committed x.durable x.local.log tx k))

  never_fell : (pre post : History) → pre ++ post ≡ h → Fell before pre after n tx → ⊥
  never_fell pre post q (inl (f, e, rest, z, ev, (there, gone, unc))) =
      let whole : f ++ (n, e) ∷ (rest ++ post) ≡ h = sym (append_assoc f ((n, e) ∷ rest) post) ∙ ap (λ y. y ++ post) z ∙ q in
      let later : (f ++ (n, e) ∷ []) ++ (rest ++ post) ≡ h = append_assoc f ((n, e) ∷ []) (rest ++ post) ∙ whole in
      never_out (f ++ (n, e) ∷ []) (rest ++ post) later (still_prepared f e (rest ++ post) whole there unc)
      (fell_out l (f ++ (n, e) ∷ []) (rest ++ post) n tx later i (inl (f, e, [], refl, ev, (there, gone, unc))))
  never_fell pre post q (inr (f, rest, z, d)) =
      let whole : f ++ (rest ++ post) ≡ h = sym (append_assoc f rest post) ∙ ap (λ y. y ++ post) z ∙ q in
      let g = doomed_stage (stage_of (state_at before after n f).local tx) d in
      never_out f (rest ++ post) whole (holds_front splits before after h f (rest ++ post) l.legal whole n i tx g.0 r g.1) (fell_out l f (rest ++ post) n tx whole i (inr (f, [], append-nil f, d)))

pub earlier_members_never_fell : EarlierMembersNeverFell
earlier_members_never_fell splits before so_far later after n tx l i r c f = never_fell l n tx i r c so_far later refl f
