-- An index stays that of its records as both grow.
use Rattle.std.proofs.Common.{◌≡◌, ℕ, ◌+◌, ◌<◌, ◌≤◌, Bool, true, false, cond, List, [], ◌∷◌, ◌++◌, length, Option, Some, None, is_some, refl, sym, ap, ◌∙◌, arith}
use Rattle.std.proofs.lemmas.Bool.{lt-ltb, le-ltb}
use Rattle.std.proofs.lemmas.List.{length_push}
use Rattle.clv_base.specs.declared.names.TxId.{TxId}
use Rattle.clv_base.specs.declared.logs.LogRecord.{LogRecord}
use Rattle.clv_base.specs.declared.logs.LogRecord.TheVariants.{Restart}
use Rattle.clv_base.specs.Logs.{is_update_of, wrote_in}
use Rattle.clv_base.specs.LogRules.{before_restart}
use Rattle.log_analysis.specs.Facts.{first_place, first_update_lsn}
use Rattle.log_analysis.proofs.Laws.Growing.{place_push}
use Rattle.log_analysis.proofs.Laws.Pushes.{before_restart_push, before_restart_other}
use Rattle.log_rules.specs.Rules.{is_before}
use Rattle.log_rules.proofs.IndexOf.{SplitsAt}
use Rattle.law_base.proofs.Logs.{place_is as is_some_place}
use Rattle.law_base.proofs.Commits.{place_less as place_within}

-- ---- where the last RESTART stands

-- whether a record is a RESTART
abbrev pub is_restart : LogRecord → Bool
is_restart (Restart run epoch) = true
is_restart _ = false

before_all : (n : ℕ) (o : Option ℕ) → ((m : ℕ) → o ≡ Some m → m < n) → is_before n o ≡ is_some o
before_all n None within = refl
before_all n (Some m) within = lt-ltb m n (within m refl)

pub splits_restart : (at : ℕ) (log : List LogRecord) (run epoch : ℕ) → SplitsAt at log → SplitsAt (length log) (log ++ Restart run epoch ∷ [])
splits_restart at log run epoch s =
    let r : LogRecord = Restart run epoch in
    let first : (t : TxId) → first_update_lsn (log ++ r ∷ []) t ≡ first_update_lsn log t = λ t. place_push 0 (is_update_of t) log r (length log) (omega arith) in
    record {
      within = omega (arith, length_push log r);
      place = ap length (sym (before_restart_push [] log run epoch));
      before = λ t. ap (is_before (length log)) (first t) ∙ before_all (length log) (first_update_lsn log t) (λ m is. let lt : m < 0 + length log = place_within 0 (is_update_of t) log m is in omega arith)
          ∙ is_some_place 0 (is_update_of t) log ∙ ap (λ l. wrote_in l t) (sym (before_restart_push [] log run epoch));
    }

before_more : (at n : ℕ) (same : Bool) (o : Option ℕ) → at ≤ n → is_before at (cond same (first_place n o) o) ≡ is_before at o
before_more at n true None le = le-ltb n at le
before_more at n true (Some m) le = refl
before_more at n false o le = refl

pub splits_other : (at : ℕ) (log : List LogRecord) (r : LogRecord) → ((l : List LogRecord) → before_restart l (r ∷ []) ≡ []) → SplitsAt at log → SplitsAt at (log ++ r ∷ [])
splits_other at log r before s = record {
  within = omega (arith, s.within, length_push log r);
  place = s.place ∙ ap length (sym (before_restart_other [] log r before));
  before = λ t. ap (is_before at) (place_push 0 (is_update_of t) log r (length log) (omega arith)) ∙ before_more at (length log) (is_update_of t r) (first_update_lsn log t) s.within
      ∙ s.before t ∙ ap (λ l. wrote_in l t) (sym (before_restart_other [] log r before));
}
