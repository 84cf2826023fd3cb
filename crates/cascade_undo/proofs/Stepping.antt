-- One of the writes that are to go undone, and the others left.
use Rattle.std.proofs.Common.{◌≡◌, ℕ, ◌+◌, ◌<◌, Bool, true, List, [], ◌∷◌, ◌++◌, length, Option, refl, sym, ap, subst, ◌∙◌, append_assoc, arith}
use Rattle.std.specs.List.{filter}
use Rattle.clv_base.specs.declared.names.TxId.{TxId}
use Rattle.clv_base.specs.declared.logs.LogRecord.{LogRecord}
use Rattle.clv_base.specs.declared.changes.Change.{Change}
use Rattle.clv_base.specs.declared.changes.Change.TheVariants.{Sets, Adds}
use Rattle.clv_base.specs.Logs.{StandingUpdate, unchanged, standing, standing_after, without_newest}
use Rattle.clv_base.specs.Undo.{is_of, undone_at, records_without, compensation, clrs_by, newest_lsn}
use Rattle.clv_base.specs.Needs.{Records, found_at, is_there, record_set, value_at}
use Rattle.ordered_store.proofs.Laws.{Rises}
use Rattle.law_base.proofs.Doubts.{standing_more}
use Rattle.cascade_undo.specs.declared.write.Write.{Write}
use Rattle.cascade_undo.specs.Writes.{HaveRecordsBy}
use Rattle.cascade_undo.specs.Steps.{AreBelow, IsNewestIn}
use Rattle.cascade_undo.proofs.Standing.{falls}
use Rattle.cascade_undo.proofs.Splitting.{SplitAt, split_at, without_it, clrs_with_it, writes_with_it, undone_with_it, all_above, all_but}
use Rattle.cascade_undo.proofs.Newest.{below_left}
use Rattle.cascade_undo.proofs.Restoring.{set_back, set_there, there_stays}
use Rattle.law_base.proofs.Names.{Falls}
use Rattle.law_base.proofs.Lists.{all_mono}

compensated : (n : ℕ) (tx : TxId) (next : Option ℕ) (key : ℕ) (c : Change) (ws : List StandingUpdate) → standing_after n (compensation tx next key c) ws ≡ without_newest tx ws
compensated n tx next key (Sets before after) ws = refl
compensated n tx next key (Adds by) ws = refl

-- the write, as one that stands
abbrev pub as_standing : Write → StandingUpdate
as_standing w = record { lsn = w.lsn; tx = w.tx; key = w.key; change = w.change }

-- the log with the CLR or UNADD of its transaction's newest write that stands
abbrev pub IsUndone : List LogRecord → Write → List LogRecord → Type 0
IsUndone log w after = after ≡ log ++ compensation w.tx (newest_lsn w.tx (without_newest w.tx (standing log))) w.key w.change ∷ []

module _ (gone : StandingUpdate → Bool) (log : List LogRecord) (w : Write) (parts : SplitAt gone (as_standing w) (standing log)) where
  abbrev it : StandingUpdate
  it = as_standing w

  abbrev pub left : List StandingUpdate
  left = parts.above ++ parts.rest

  is_gone : without_newest w.tx (standing log) ≡ left
  is_gone = ap (without_newest w.tx) parts.is ∙ without_it it parts.above parts.rest parts.others

  pub key_there : (rs : Records) → HaveRecordsBy gone (standing log) rs → is_there (found_at w.key rs) ≡ true
  key_there rs have = (all_above _ parts.above (it ∷ parts.rest) (subst (λ l. HaveRecordsBy gone l rs) parts.is have)).0 parts.own

  pub has_room : 0 < length (filter gone (standing log))
  has_room = let e = ap (λ l. length (filter gone l)) parts.is in let more = writes_with_it gone it parts.own parts.above parts.rest parts.stay in omega arith

  module _ (after : List LogRecord) (e : IsUndone log w after) where
    abbrev undo : LogRecord
    undo = compensation w.tx (newest_lsn w.tx (without_newest w.tx (standing log))) w.key w.change

    pub stands : standing after ≡ left
    stands = ap standing e ∙ standing_more log undo ∙ compensated (0 + length log) w.tx (newest_lsn w.tx (without_newest w.tx (standing log))) w.key w.change (standing log) ∙ is_gone

    pub log_step : after ++ clrs_by gone (standing after) ≡ log ++ clrs_by gone (standing log)
    log_step =
        ap (λ l. after ++ clrs_by gone l) stands
        ∙ ap (λ l. l ++ clrs_by gone left) e
        ∙ append_assoc log (undo ∷ []) (clrs_by gone left)
        ∙ ap (λ l. log ++ compensation w.tx (newest_lsn w.tx l) w.key w.change ∷ clrs_by gone left) is_gone
        ∙ ap (λ l. log ++ l) (sym (ap (clrs_by gone) parts.is ∙ clrs_with_it gone it parts.own parts.above parts.rest parts.stay parts.others))

    pub writes_step : length (filter gone (standing log)) ≡ length (filter gone (standing after)) + 1
    writes_step =
        let whole = ap (λ l. length (filter gone l)) parts.is in
        let some = ap (λ l. length (filter gone l)) stands in
        let one = writes_with_it gone it parts.own parts.above parts.rest parts.stay in
        omega arith

    module _ (rs qs : Records) (rises : Rises rs) (have : HaveRecordsBy gone (standing log) rs) (q : qs ≡ record_set w.key (unchanged w.change (value_at w.key rs)) rs) where
      back : qs ≡ set_back w.key (unchanged w.change) rs
      back = q ∙ set_there w.key (unchanged w.change) rs rises (key_there rs have)

      each : (ps : Records) → records_without gone left (set_back w.key (unchanged w.change) ps) ≡ records_without gone (parts.above ++ it ∷ parts.rest) ps
      each [] = refl
      each (p ∷ ps) =
          ap (λ v. (p.0, v) ∷ records_without gone left (set_back w.key (unchanged w.change) ps)) (undone_with_it gone it parts.own parts.above parts.rest parts.stay p.0 p.1)
          ∙ ap (λ l. (p.0, undone_at gone p.0 (parts.above ++ it ∷ parts.rest) p.1) ∷ l) (each ps)

      pub records_step : (end : Records) → records_without gone (standing log) rs ≡ end → records_without gone (standing after) qs ≡ end
      records_step end so_far =
          ap (λ l. records_without gone l qs) stands ∙ ap (records_without gone left) back ∙ each rs ∙ ap (λ l. records_without gone l rs) (sym parts.is) ∙ so_far

      pub there_step : HaveRecordsBy gone (standing after) qs
      there_step =
          subst (λ l. HaveRecordsBy gone l qs) (sym stands)
          (all_but (λ v. gone v ≡ true → is_there (found_at v.key qs) ≡ true) parts.above it parts.rest
          (all_mono _ _ (λ v h j. ap (λ l. is_there (found_at v.key l)) back ∙ there_stays w.key (unchanged w.change) rs v.key ∙ h j) (parts.above ++ it ∷ parts.rest)
          (subst (λ l. HaveRecordsBy gone l rs) parts.is have)))

-- of a set, the newest of them stands below it
pub below_step : (set : List TxId) (log : List LogRecord) (w : Write) → IsNewestIn set (standing log) w → (after : List LogRecord) → IsUndone log w after → AreBelow set w.lsn (standing after)
below_step set log w newest after e =
    let parts = split_at set (standing log) (as_standing w) newest in
    subst (AreBelow set w.lsn) (sym (stands (is_of set) log w parts after e))
    (below_left set (as_standing w) parts.own parts.above parts.rest parts.stay (length log) (subst (Falls (length log)) parts.is (falls log)))
