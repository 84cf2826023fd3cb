-- A log that grows by one record, and what is left to undo at the end.
use Rattle.std.proofs.Common.{◌≡◌, ℕ, ◌+◌, Bool, cond, List, [], ◌∷◌, ◌++◌, length, Option, refl, sym, ap, ◌∙◌, append-nil, length-append, arith}
use Rattle.std.specs.List.{filter}
use Rattle.std.proofs.lemmas.Bool.{cond-false}
use Rattle.clv_base.specs.declared.values.Value.{Value as ValueType}
use Rattle.clv_base.specs.declared.logs.LogRecord.{LogRecord}
use Rattle.clv_base.specs.Logs.{StandingUpdate, standing}
use Rattle.clv_base.specs.Undo.{undone_at, records_without, compensation, clrs_by, newest_lsn}
use Rattle.clv_base.specs.Needs.{Records}
use Rattle.log_buffer.specs.Buffers.{Buffer}
use Rattle.cascade_undo.specs.declared.write.Write.{Write}
use Rattle.cascade_undo.specs.Steps.{Advances}
use Rattle.cascade_undo.proofs.Splitting.{NoneOf, SplitAt, undone_above}
use Rattle.cascade_undo.proofs.Stepping.{IsUndone, as_standing, log_step}
use Rattle.law_base.proofs.Bools.{by_bool as both}

one_longer : (log after : List LogRecord) (r : LogRecord) (room left : ℕ) → after ≡ log ++ r ∷ [] → room ≡ left + 1 → room + length log ≡ left + length after
one_longer log after r room left e less = let grown = ap length e ∙ length-append log (r ∷ []) in omega arith

-- ---- at first

pub advances_none : (gone : StandingUpdate → Bool) (b : Buffer LogRecord) → Advances gone b b
advances_none gone b = record { log = refl; fronts = (refl, refl); room = refl }

-- ---- in between

-- by the CLR or UNADD of the newest write
pub advances_more : (gone : StandingUpdate → Bool) (b c d : Buffer LogRecord) (w : Write) → SplitAt gone (as_standing w) (standing c.records) → Advances gone b c
    → IsUndone c.records w d.records → (d.durable ≡ c.durable) × (d.taken ≡ c.taken) → c.room ≡ d.room + 1 → Advances gone b d
advances_more gone b c d w parts first grown fronts less = record {
  log = log_step gone c.records w parts d.records grown ∙ first.log;
  fronts = (fronts.0 ∙ first.fronts.0, fronts.1 ∙ first.fronts.1);
  room = let f = first.room in let n = one_longer c.records d.records _ c.room d.room grown less in omega arith;
}

-- ---- at last

clrs_none : (gone : StandingUpdate → Bool) (ws : List StandingUpdate) → NoneOf gone ws → clrs_by gone ws ≡ []
clrs_none gone [] h = refl
clrs_none gone (w ∷ ws) h = cond-false _ _ _ h.0 ∙ clrs_none gone ws h.1

nothing_undone : (gone : StandingUpdate → Bool) (k : ℕ) (ws : List StandingUpdate) (v : Option ValueType) → NoneOf gone ws → undone_at gone k ws v ≡ v
nothing_undone gone k ws v h = ap (λ l. undone_at gone k l v) (sym (append-nil ws)) ∙ undone_above gone k ws [] v h

records_none : (gone : StandingUpdate → Bool) (ws : List StandingUpdate) (rs : Records) → NoneOf gone ws → records_without gone ws rs ≡ rs
records_none gone ws [] h = refl
records_none gone ws (r ∷ rs) h = ap (λ v. (r.0, v) ∷ records_without gone ws rs) (nothing_undone gone r.0 ws r.1 h) ∙ ap (λ l. r ∷ l) (records_none gone ws rs h)

pub length-clrs : (gone : StandingUpdate → Bool) (ws : List StandingUpdate) → length (clrs_by gone ws) ≡ length (filter gone ws)
length-clrs gone [] = refl
length-clrs gone (w ∷ ws) =
    both (λ b. length (cond b (compensation w.tx (newest_lsn w.tx ws) w.key w.change ∷ clrs_by gone ws) (clrs_by gone ws)) ≡ length (cond b (w ∷ filter gone ws) (filter gone ws))) (gone w)
    (λ _. let e = length-clrs gone ws in omega arith) (λ _. length-clrs gone ws)

module _ (gone : StandingUpdate → Bool) (b c : Buffer LogRecord) (all : Advances gone b c) (done : NoneOf gone (standing c.records)) where
  pub log_at_last : c.records ≡ b.records ++ clrs_by gone (standing b.records)
  log_at_last = sym (append-nil c.records) ∙ ap (λ l. c.records ++ l) (sym (clrs_none gone (standing c.records) done)) ∙ all.log

  pub records_at_last : (rs qs : Records) → records_without gone (standing c.records) qs ≡ records_without gone (standing b.records) rs → qs ≡ records_without gone (standing b.records) rs
  records_at_last rs qs back = sym (records_none gone (standing c.records) qs done) ∙ back

  pub length_at_last : length c.records ≡ length b.records + length (filter gone (standing b.records))
  length_at_last = ap length log_at_last ∙ length-append b.records (clrs_by gone (standing b.records)) ∙ ap (λ n. length b.records + n) (length-clrs gone (standing b.records))

  pub room_at_last : b.room ≡ c.room + length (filter gone (standing b.records))
  room_at_last = let grown = length_at_last in let room = all.room in omega arith
