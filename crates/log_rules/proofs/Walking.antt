-- Reading a log record by record, as the loop does.
use Rattle.std.proofs.Common.{◌≡◌, ℕ, suc, ◌+◌, ◌<◌, ◌≤◌, Bool, true, false, List, [], ◌∷◌, ◌++◌, length, take, drop, get_or, Option, Some, None, slice_get, refl, sym, ap, subst, ◌∙◌, add-one, drop-cons, arith}
use Rattle.std.proofs.lemmas.List.{take_more, take_all, at_drop_all, length-take}
use Rattle.std.proofs.lemmas.Option.{slice_get_read}
use Rattle.clv_base.specs.declared.logs.LogRecord.{LogRecord}
use Rattle.clv_base.specs.Orders.{Table}
use Rattle.clv_base.specs.LogRules.{may_follow, disorder_from, disorder_by, disorder, upto_of}
use Rattle.log_analysis.specs.declared.facts.TxFacts.{TxFacts}
use Rattle.log_analysis.specs.Facts.{Knows}
use Rattle.log_rules.specs.declared.index.Index.{Index}
use Rattle.log_rules.specs.Rules.{fits}
use Rattle.log_rules.specs.Adding.{Adds}
use Rattle.log_rules.specs.declared.error.OrderError.{OrderError}
use Rattle.log_rules.specs.declared.error.OrderError.TheVariants.{Breaks, Memory}
use Rattle.log_rules.specs.Order.{Refuses, RefusesAt}
use Rattle.log_rules.proofs.Fitting.{fits_is}
use Rattle.log_rules.proofs.IndexGrows.{grows, keeps_records}
use Rattle.log_rules.proofs.IndexOf.{IsIndexOf}
use Rattle.log_rules.proofs.SoundLogs.{Sound, sound_push}

by_rule : (shard n : ℕ) (before : List LogRecord) (r : LogRecord) (rs : List LogRecord) (b : Bool) → may_follow shard before r ≡ b
    → disorder_from shard n before (r ∷ rs) ≡ elim b [ true ↦ disorder_from shard (suc n) (before ++ r ∷ []) rs | false ↦ Some n ]
by_rule shard n before r rs b is = ap (λ (v : Bool). elim v [ true ↦ disorder_from shard (suc n) (before ++ r ∷ []) rs | false ↦ Some n ]) is

-- of a log without a checkpoint
pub plainly_from : (shard : ℕ) (records : List LogRecord) → upto_of records ≡ 0 → disorder_from shard 0 [] records ≡ disorder shard records
plainly_from shard records plain = sym (ap (λ n. disorder_by shard (take n records) (drop n records)) plain)

-- the index is that of the records so far, which are in order, and what is left has the whole log's answer
pub record SoFar (shard : ℕ) (records : List LogRecord) (x : Index) (lsn : ℕ) : Type 0 where
  pub within : lsn ≤ length records
  pub reads : x.writes.records.now ≡ records
  pub sound : Sound (take lsn records)
  pub index : IsIndexOf shard x (take lsn records)
  pub same : disorder_from shard lsn (take lsn records) (drop lsn records) ≡ disorder shard records

module _ (shard : ℕ) (records : List LogRecord) (x : Index) (lsn : ℕ) (so_far : SoFar shard records x lsn) (r : LogRecord) (lt : lsn < length records) (is : r ≡ get_or records lsn r) where
  rest : drop lsn records ≡ r ∷ drop (suc lsn) records
  rest = drop-cons records lsn r lt ∙ ap (λ (s : LogRecord). s ∷ drop (suc lsn) records) (sym is)

  long : length (take lsn records) ≡ lsn
  long = omega (arith, length-take lsn records)

  there : slice_get x.writes.records.now (length (take lsn records)) ≡ Some r
  there =
      ap (λ (l : List LogRecord). slice_get l (length (take lsn records))) so_far.reads ∙ ap (slice_get records) long
      ∙ slice_get_read records (length records) lsn r refl lt is

  rule : (b : Bool) → fits x records lsn r ≡ b → may_follow shard (take lsn records) r ≡ b
  rule b fit = sym (fits_is shard x records lsn so_far.sound so_far.index r) ∙ ap (λ n. fits x records n r) long ∙ fit

  here : (b : Bool) → fits x records lsn r ≡ b → ◌≡◌ {A = Option ℕ} (elim b [ true ↦ disorder_from shard (suc lsn) (take lsn records ++ r ∷ []) (drop (suc lsn) records) | false ↦ Some lsn ]) (disorder shard records)
  here b fit = sym (by_rule shard lsn (take lsn records) r (drop (suc lsn) records) b (rule b fit)) ∙ sym (ap (disorder_from shard lsn (take lsn records)) rest) ∙ so_far.same

  pub stops_here : fits x records lsn r ≡ false → Some lsn ≡ disorder shard records
  stops_here fit = here false fit

  pub goes_on : (y : Index) → fits x records lsn r ≡ true → Adds x y lsn r → SoFar shard records y (lsn + 1)
  goes_on y fit a =
      let may = rule true fit in
      let next : take lsn records ++ r ∷ [] ≡ take (lsn + 1) records = ap (λ (s : LogRecord). take lsn records ++ s ∷ []) is ∙ sym (take_more records lsn r lt) in
      let grown = grows shard x y (take lsn records) r so_far.sound so_far.index there may (subst (λ (n : ℕ). Adds x y n r) (sym long) a) in
      record {
        within = omega arith;
        reads = ap (λ l. l.now) (keeps_records x y lsn r a) ∙ so_far.reads;
        sound = subst Sound next (sound_push shard (take lsn records) so_far.sound r may);
        index = subst (IsIndexOf shard y) next grown;
        same = rw add-one (ap (λ (l : List LogRecord). disorder_from shard (suc lsn) l (drop (suc lsn) records)) (sym (next ∙ ap (λ (n : ℕ). take n records) (add-one lsn))) ∙ here true fit);
      }

pub refused_at : (shard : ℕ) (records : List LogRecord) (x : Index) (lsn : ℕ) → SoFar shard records x lsn → lsn < length records → (e : OrderError) → RefusesAt x records lsn e → Refuses shard records e
refused_at shard records x lsn so_far lt (Breaks n) refused = sym (ap (λ (k : ℕ). Some k) refused.0 ∙ stops_here shard records x lsn so_far refused.1 lt refused.2 refused.3)
refused_at shard records x lsn so_far lt Memory refused = tt

-- once all is read the log is in order, and the index has what it says
module _ (shard : ℕ) (records : List LogRecord) (x : Index) (lsn : ℕ) (so_far : SoFar shard records x lsn) (over : length records ≤ lsn) where
  pub in_order_to_end : disorder shard records ≡ None
  in_order_to_end = sym so_far.same ∙ at_drop_all (disorder_from shard lsn (take lsn records)) records lsn over

  pub known_to_end : (m : Table TxFacts) → m ≡ x.facts → Knows m records
  known_to_end m is = subst (λ (t : Table TxFacts). Knows t records) (sym is) (subst (Knows x.facts) (take_all lsn records over) so_far.index.facts)
