-- The records of a checkpoint's file, by the parts of which it is made.
use Rattle.std.proofs.Common.{◌≡◌, ℕ, suc, ◌+◌, ◌-◌, ◌<◌, true, false, List, [], ◌∷◌, ◌++◌, map, take, drop, length, get_or, refl, sym, ap, ap₂, ◌∙◌, arith}
use Rattle.std.proofs.Math.Seq.{take-length, drop-length}
use Rattle.std.proofs.lemmas.List.{drop_more}
use Rattle.clv_base.specs.declared.logs.LogRecord.{LogRecord}
use Rattle.clv_base.specs.declared.logs.LogRecord.TheVariants.{Update, Clr, Prepare, Commit, Abort, End, Restart, Add, Unadd, Forgotten, Check}
use Rattle.clv_base.specs.declared.shard_log.FileRecord.{FileRecord}
use Rattle.clv_base.specs.declared.shard_log.FileRecord.TheVariants.{Plain, Begin, Base, Keep, Checked}
use Rattle.clv_base.specs.LogRules.{last_restart}
use Rattle.clv_base.specs.Checkpoints.{no_restart, committed_map, kept_of, kept_from, kept_records, check_records}
use Rattle.checkpoint_taking.specs.Cut.{cut}
use Rattle.checkpoint_taking.specs.Kept.{is_forgotten, kept_places}
use Rattle.checkpoint_taking.proofs.Cutting.{cut_both}

-- one place more
pub one_kept : (n : ℕ) (r : LogRecord) → is_forgotten r ≡ false → kept_records n (r ∷ []) ≡ Keep n r ∷ []
one_kept n (Update tx key before after) e = refl
one_kept n (Clr tx undo_next key after) e = refl
one_kept n (Prepare tx home listed) e = refl
one_kept n (Commit tx parts) e = refl
one_kept n (Abort tx) e = refl
one_kept n (End tx) e = refl
one_kept n (Restart run epoch) e = refl
one_kept n (Add tx key by) e = refl
one_kept n (Unadd tx undo_next key by) e = refl
one_kept n (Check run epoch upto base) e = refl
one_kept n Forgotten e = absurd cc

pub none_kept : (n : ℕ) (r : LogRecord) → is_forgotten r ≡ true → kept_records n (r ∷ []) ≡ []
none_kept n Forgotten e = refl
none_kept n (Update tx key before after) e = absurd cc
none_kept n (Clr tx undo_next key after) e = absurd cc
none_kept n (Prepare tx home listed) e = absurd cc
none_kept n (Commit tx parts) e = absurd cc
none_kept n (Abort tx) e = absurd cc
none_kept n (End tx) e = absurd cc
none_kept n (Restart run epoch) e = absurd cc
none_kept n (Add tx key by) e = absurd cc
none_kept n (Unadd tx undo_next key by) e = absurd cc
none_kept n (Check run epoch upto base) e = absurd cc

next_kept : (n : ℕ) (r : LogRecord) (rs : List LogRecord) → kept_records n (r ∷ rs) ≡ kept_records n (r ∷ []) ++ kept_records (suc n) rs
next_kept n Forgotten rs = refl
next_kept n (Update tx key before after) rs = refl
next_kept n (Clr tx undo_next key after) rs = refl
next_kept n (Prepare tx home listed) rs = refl
next_kept n (Commit tx parts) rs = refl
next_kept n (Abort tx) rs = refl
next_kept n (End tx) rs = refl
next_kept n (Restart run epoch) rs = refl
next_kept n (Add tx key by) rs = refl
next_kept n (Unadd tx undo_next key by) rs = refl
next_kept n (Check run epoch upto base) rs = refl

kept_are : (shard : ℕ) (log : List LogRecord) (n : ℕ) (rs : List LogRecord) → kept_records n (kept_from shard log n rs) ≡ kept_places (kept_of shard log) n rs
kept_are shard log n [] = refl
kept_are shard log n (r ∷ rs) = next_kept n (kept_of shard log n r) (kept_from shard log (suc n) rs) ∙ ap (λ l. kept_records n (kept_of shard log n r ∷ []) ++ l) (kept_are shard log (suc n) rs)

kept_length : (shard : ℕ) (log : List LogRecord) (n : ℕ) (rs : List LogRecord) → length (kept_from shard log n rs) ≡ length rs
kept_length shard log n [] = refl
kept_length shard log n (r ∷ rs) = ap suc (kept_length shard log (suc n) rs)

-- ---- all records

abbrev begin_of : List LogRecord → FileRecord
begin_of log = Begin (no_restart (last_restart log)).0 (no_restart (last_restart log)).1 (length log)

abbrev bases_of : List LogRecord → List FileRecord
bases_of log = map (λ p. Base p.0 p.1) (committed_map log)

abbrev places_of : ℕ → List LogRecord → List FileRecord
places_of shard log = kept_places (kept_of shard log) 1 (drop 1 log)

checked_are : (shard : ℕ) (r : LogRecord) (rs : List LogRecord) → check_records shard (r ∷ rs) ≡ begin_of (r ∷ rs) ∷ ((bases_of (r ∷ rs) ++ kept_records 1 (take (suc (length rs) - 1) (kept_from shard (r ∷ rs) 1 rs))) ++ Checked ∷ map (λ q. Plain q) (drop (suc (length rs) - 1) (kept_from shard (r ∷ rs) 1 rs)))
checked_are shard r rs = refl

records_are : (shard : ℕ) (log : List LogRecord) → check_records shard log ≡ begin_of log ∷ ((bases_of log ++ places_of shard log) ++ Checked ∷ [])
records_are shard [] = refl
records_are shard (r ∷ rs) =
    let log = r ∷ rs in
    let kept = kept_from shard log 1 rs in
    let count : suc (length rs) - 1 ≡ length kept = omega (arith, kept_length shard log 1 rs) in
    let front : take (suc (length rs) - 1) kept ≡ kept = ap (λ n. take n kept) count ∙ take-length kept in
    let behind : drop (suc (length rs) - 1) kept ≡ [] = ap (λ n. drop n kept) count ∙ drop-length kept in
    checked_are shard r rs
    ∙ ap₂ (λ (f b : List LogRecord). begin_of log ∷ ((bases_of log ++ kept_records 1 f) ++ Checked ∷ map (λ q. Plain q) b)) front behind
    ∙ ap (λ (l : List FileRecord). begin_of log ∷ ((bases_of log ++ l) ++ Checked ∷ [])) (kept_are shard log 1 rs)

-- put one after another
pub all_put : (shard : ℕ) (log : List LogRecord) (begun based kept whole : List (List ℕ)) → begun ≡ cut [] (begin_of log ∷ []) → based ≡ cut begun (bases_of log) → kept ≡ cut based (places_of shard log) → whole ≡ cut kept (Checked ∷ [])
    → whole ≡ cut [] (check_records shard log)
all_put shard log begun based kept whole a b c d =
    d ∙ ap (λ p. cut p (Checked ∷ [])) (c ∙ ap (λ p. cut p (places_of shard log)) (b ∙ ap (λ p. cut p (bases_of log)) a))
    ∙ ap (λ p. cut p (Checked ∷ [])) (cut_both (cut [] (begin_of log ∷ [])) (bases_of log) (places_of shard log))
    ∙ cut_both (cut [] (begin_of log ∷ [])) (bases_of log ++ places_of shard log) (Checked ∷ [])
    ∙ ap (cut []) (sym (records_are shard log))

-- the next place is put
pub next_put : (keep : ℕ → LogRecord → LogRecord) (log : List LogRecord) (n : ℕ) (r : LogRecord) (now next whole : List (List ℕ)) → n < length log → r ≡ get_or log n r
    → next ≡ cut now (kept_records n (keep n r ∷ [])) → cut now (kept_places keep n (drop n log)) ≡ whole → cut next (kept_places keep (n + 1) (drop (n + 1) log)) ≡ whole
next_put keep log n r now next whole lt is put so_far =
    let place : n + 1 ≡ suc n = omega arith in
    ap (λ p. cut p (kept_places keep (n + 1) (drop (n + 1) log))) put
    ∙ cut_both now (kept_records n (keep n r ∷ [])) (kept_places keep (n + 1) (drop (n + 1) log))
    ∙ ap (λ k. cut now (kept_records n (keep n r ∷ []) ++ kept_places keep k (drop (n + 1) log))) place
    ∙ ap (λ q. cut now (kept_places keep n (q ∷ drop (n + 1) log))) is
    ∙ ap (λ l. cut now (kept_places keep n l)) (sym (drop_more log n r lt))
    ∙ so_far
