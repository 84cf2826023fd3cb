-- How `standby` ends.
use Rattle.std.proofs.Common.{◌≡◌, refl, sym, subst, ap, ◌∙◌, ℕ, zero, suc, ◌+◌, ◌<◌, List, [], ◌∷◌, length, set, get_or, Option, None, Result, Ok, Err, arith}
use Rattle.std.specs.Prelude.{slice_get}
use Rattle.clv_base.specs.declared.logs.LogRecord.{LogRecord}
use Rattle.io_model.specs.Sides.{Stories}
use Rattle.cluster_opening.specs.Opening.{Refuses, CountsOpen, IsNotWorn, Stand}
use Rattle.cluster_opening.specs.declared.error.OpenError.{OpenError}
use Rattle.cluster_opening.specs.declared.error.OpenError.TheVariants as opening
use Rattle.report_text.specs.declared.texts.ReportError.{ReportError}
use Rattle.report_text.specs.declared.texts.ReportError.TheVariants as text
use Rattle.report_text.specs.Sinks.{TakesText, Causes}
use Rattle.command_line.specs.Refusals.{of_opening}
use Rattle.command_line.specs.Running.{with_text}
use Rattle.command_line.specs.declared.status.Status.{Status}
use Rattle.command_line.specs.declared.status.Status.TheVariants.{Fine}
use Rattle.clv_commands.specs.Kinds.{IsOfStandby}
use Rattle.clv_commands.specs.Causes.{BreaksLogs, CountsSink, CountsDisks}
use Rattle.clv_commands.specs.Standing.{kept_of, firsts_from, IsTextOf, IsShown}
use Rattle.law_base.proofs.Numbers.{below_differs as below}

-- ---- the first records of each log

-- so many shards are done
abbrev pub firsts_until : ℕ → ℕ → List ℕ → List (List LogRecord) → List (List LogRecord)
firsts_until zero n counts logs = logs
firsts_until (suc k) n counts [] = []
firsts_until (suc k) n counts (log ∷ logs) = kept_of (slice_get counts n) log ∷ firsts_until k (suc n) counts logs

pub all_done : (n : ℕ) (counts : List ℕ) (logs : List (List LogRecord)) → firsts_until (length logs) n counts logs ≡ firsts_from n counts logs
all_done n counts [] = refl
all_done n counts (log ∷ logs) = ap (λ (l : List (List LogRecord)). kept_of (slice_get counts n) log ∷ l) (all_done (suc n) counts logs)

pub as_many : (k n : ℕ) (counts : List ℕ) (logs : List (List LogRecord)) → length (firsts_until k n counts logs) ≡ length logs
as_many zero n counts logs = refl
as_many (suc k) n counts [] = refl
as_many (suc k) n counts (log ∷ logs) = ap suc (as_many k (suc n) counts logs)

pub one_more : (k n : ℕ) (counts : List ℕ) (logs : List (List LogRecord)) → k < length logs
    → set (firsts_until k n counts logs) k (kept_of (slice_get counts (n + k)) (get_or (firsts_until k n counts logs) k [])) ≡ firsts_until (suc k) n counts logs
one_more k n counts [] lt = absurd (omega arith)
one_more zero n counts (log ∷ logs) lt = let same : n + 0 ≡ n = omega arith in ap (λ (m : ℕ). kept_of (slice_get counts m) log ∷ logs) same
one_more (suc k) n counts (log ∷ logs) lt =
    let same : n + suc k ≡ suc n + k = omega arith in
    let rest = one_more k (suc n) counts logs (omega arith) in
    ap (λ (m : ℕ). kept_of (slice_get counts n) log ∷ set (firsts_until k (suc n) counts logs) k (kept_of (slice_get counts m) (get_or (firsts_until k (suc n) counts logs) k []))) same
    ∙ ap (λ (l : List (List LogRecord)). kept_of (slice_get counts n) log ∷ l) rest

-- ---- the status

-- what the status of a command that ended tells
pub record Ends (firsts : List ℕ) (stories : ℕ → Option Stories) (sink sink' : ℕ) (taken taken' : Option (List ℕ)) (counts counts' : ℕ → ℕ) (status : Status) : Type 0 where
  pub kind : IsOfStandby status
  pub shown : IsShown firsts stories taken taken' status
  pub logs : BreaksLogs status None stories
  pub of_sink : CountsSink None sink sink' status
  pub disks : CountsDisks None counts counts' status

module _ (firsts : List ℕ) (stories : ℕ → Option Stories) (counts counts' : ℕ → ℕ) where
  pub by_writing : (bytes : List ℕ) (written : Result (Unit {0}) ReportError) (sink sink' : ℕ) (taken taken' : Option (List ℕ)) → Stand counts counts' → IsTextOf firsts stories bytes
      → TakesText taken taken' bytes written → Causes sink sink' written → Ends firsts stories sink sink' taken taken' counts counts' (with_text Fine written)
  by_writing bytes (Ok a) sink sink' taken taken' stand is takes cause = record { kind = tt; shown = (bytes, is, takes); logs = tt; of_sink = cause; disks = stand }
  by_writing bytes (Err text.Failed) sink sink' taken taken' stand is takes cause = record { kind = tt; shown = (bytes, is, takes); logs = tt; of_sink = cause.0; disks = stand }
  by_writing bytes (Err text.Memory) sink sink' taken taken' stand is takes cause = record { kind = tt; shown = takes; logs = tt; of_sink = cause; disks = stand }

  module _ (sink : ℕ) (taken : Option (List ℕ)) where
    by_opening : (e : OpenError) → IsNotWorn e → Refuses stories e → CountsOpen counts counts' e → Ends firsts stories sink sink taken taken counts counts' (of_opening e)
    by_opening (opening.Failed shard) unworn refuses opens = record { kind = tt; shown = refl; logs = refuses; of_sink = refl; disks = (opens.0, λ n low. opens.2 n (below n shard low)) }
    by_opening (opening.NotLog shard at) unworn refuses opens = record { kind = tt; shown = refl; logs = refuses; of_sink = refl; disks = opens }
    by_opening (opening.Apart tx) unworn refuses opens = record { kind = tt; shown = refl; logs = refuses; of_sink = refl; disks = opens }
    by_opening (opening.Worn at) unworn refuses opens = absurd unworn
    by_opening opening.Memory unworn refuses opens = record { kind = tt; shown = refl; logs = tt; of_sink = refl; disks = opens }

    pub by_refusal : (e : OpenError) (status : Status) → status ≡ of_opening e → IsNotWorn e → Refuses stories e → CountsOpen counts counts' e → Ends firsts stories sink sink taken taken counts counts' status
    by_refusal e status is unworn refuses opens = subst (Ends firsts stories sink sink taken taken counts counts') (sym is) (by_opening e unworn refuses opens)
