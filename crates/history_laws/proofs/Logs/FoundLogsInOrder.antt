-- What logs that may be opened say of one of them: it is in order; and each shard has its log among them.
use Rattle.std.proofs.Common.{◌≡◌, subst, ℕ, ◌+◌, ◌<◌, List, length, None, is_none, arith, true}
use Rattle.std.specs.List.{list_all}
use Rattle.std.proofs.lemmas.Bool.{and_parts}
use Rattle.clv_base.specs.declared.logs.LogRecord.{LogRecord}
use Rattle.clv_base.specs.Shards.{shard_count}
use Rattle.clv_base.specs.LogRules.{log_of, disorder, apart, all_logs_from}
use Rattle.clv_base.specs.FileRules.{passes_file_rules, log_passes, may_open}
use Rattle.clv_base.specs.Journals.{History}
use Rattle.law_base.proofs.Options.{none_of}
use Rattle.law_base.proofs.Logs.{passes_at as each_passes}
use Rattle.history_laws.specs.Openings.{LegalFrom}

pub found_in_order : (splits : List ℕ) (before : List (List LogRecord)) (n : ℕ) → may_open splits before ≡ true → n < length before → disorder n (log_of before n) ≡ None
found_in_order splits before n m l =
    let p = and_parts (all_logs_from 0 (log_passes splits) before) (is_none (apart before)) m in
    let q = each_passes (log_passes splits) 0 n before p.0 l in
    subst (λ k. disorder k (log_of before n) ≡ None) (omega arith) (none_of (disorder (0 + n) (log_of before n)) (and_parts (list_all (passes_file_rules splits (0 + n)) (log_of before n)) _ q).1)

pub log_found : {splits : List ℕ} {before after : List (List LogRecord)} {h : History} → LegalFrom splits before h after
    → (n : ℕ) → n < shard_count splits → n < length before
log_found l n i = let e = l.legal.each_log.0 in omega (arith, e, i)
