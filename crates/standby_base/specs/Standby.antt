-- What a standby shows of the streams that it was fed. A stream is what came so far of a shard's records, from the first of its log on; streams are
-- cut anywhere, each for itself.
use Rattle.std.specs.Prelude.{◌≡◌, ℕ, zero, suc, Bool, true, false, cond, ◌&&◌, nat_le, List, [], ◌∷◌, take, length, Option, Some, None}
use Rattle.std.specs.List.{filter, list_all}
use Rattle.clv_base.specs.declared.names.TxId.{TxId}
use Rattle.clv_base.specs.declared.logs.LogRecord.{LogRecord}
use Rattle.clv_base.specs.declared.logs.LogRecord.TheVariants.{Commit, Check}
use Rattle.clv_base.specs.Orders.{tx_same, tx_in}
use Rattle.clv_base.specs.Maps.{KeyMap}
use Rattle.clv_base.specs.Logs.{committed_in, prepare_of, commit_parts, fold_updates}
use Rattle.clv_base.specs.LogRules.{log_of, home_is, committed_of, committed_of_all}

-- ---- who is whole

-- the home's COMMIT is on its stream, and each part that it names has a COMMIT on its own
abbrev pub whole_with : List (List LogRecord) → TxId → ℕ → List LogRecord → Option (List ℕ) → Option (List ℕ)
whole_with streams tx n log None = None
whole_with streams tx n log (Some parts) =
    cond (home_is n (prepare_of log tx) && list_all (λ s. committed_in (log_of streams s) tx) parts) (Some (n ∷ parts)) None

-- the first that is there
abbrev pub first_list : Option (List ℕ) → Option (List ℕ) → Option (List ℕ)
first_list None later = later
first_list (Some ns) later = Some ns

abbrev pub whole_from : List (List LogRecord) → TxId → ℕ → List (List LogRecord) → Option (List ℕ)
whole_from streams tx n [] = None
whole_from streams tx n (log ∷ logs) = first_list (whole_with streams tx n log (commit_parts log tx)) (whole_from streams tx (suc n) logs)

-- the home and the parts of a transaction that has a COMMIT on each of their streams
abbrev pub whole_on : List (List LogRecord) → TxId → Option (List ℕ)
whole_on streams tx = whole_from streams tx 0 streams

-- ---- the members

-- the transactions with a COMMIT before that of this one
abbrev pub commits_before : TxId → List LogRecord → List TxId
commits_before t [] = []
commits_before t (Commit tx parts ∷ rs) = cond (tx_same t tx) [] (tx ∷ commits_before t rs)
commits_before t (_ ∷ rs) = commits_before t rs

-- on each of its streams all that were committed before it are of the set
abbrev pub keeps_on : List (List LogRecord) → List TxId → TxId → Option (List ℕ) → Bool
keeps_on streams set tx None = false
keeps_on streams set tx (Some ns) = list_all (λ n. list_all (λ t. tx_in t set) (commits_before tx (log_of streams n))) ns

abbrev pub keeps : List (List LogRecord) → List TxId → TxId → Bool
keeps streams set tx = keeps_on streams set tx (whole_on streams tx)

-- a set that keeps each of its own
abbrev pub keeps_itself : List (List LogRecord) → List TxId → Bool
keeps_itself streams set = list_all (keeps streams set) set

-- the greatest such set: who isn't kept goes, again and again; each round but the last takes one away, so there are no more rounds than
-- transactions
abbrev pub kept_through : ℕ → List (List LogRecord) → List TxId → List TxId
kept_through zero streams set = set
kept_through (suc n) streams set = let kept = filter (keeps streams set) set in kept_through n streams kept

abbrev pub standby_members : List (List LogRecord) → List TxId
standby_members streams = let all = committed_of_all streams in kept_through (length all) streams all

abbrev pub MembersAreGreatest : Type 0
MembersAreGreatest =
    (streams : List (List LogRecord)) → (keeps_itself streams (standby_members streams) ≡ true)
    × ((set : List TxId) → keeps_itself streams set ≡ true → list_all (λ tx. tx_in tx (standby_members streams)) set ≡ true)

-- ---- what is shown

-- how many places of a stream a checkpoint stands for
abbrev pub checked_by : LogRecord → ℕ
checked_by (Check run epoch upto base) = upto
checked_by _ = 0

abbrev pub checked_places : List LogRecord → ℕ
checked_places [] = 0
checked_places (r ∷ rs) = checked_by r

-- a stream has a record, and all those of its checkpoint
abbrev pub has_record : List LogRecord → Bool
has_record [] = false
has_record (r ∷ rs) = true

abbrev pub is_begun : List LogRecord → Bool
is_begun log = has_record log && nat_le (checked_places log) (length log)

-- each transaction whose COMMIT the checkpoint kept, so that its map has what that wrote, is of the set
abbrev pub keeps_checked : List TxId → List LogRecord → Bool
keeps_checked set log = list_all (λ tx. tx_in tx set) (committed_of (take (checked_places log) log))

abbrev pub is_shown : List TxId → List LogRecord → Bool
is_shown set log = is_begun log && keeps_checked set log

-- what the streams begin with, and the writes of the members, by the streams on which they have their COMMITs
abbrev pub shown_from : List TxId → List (List LogRecord) → KeyMap → KeyMap
shown_from set [] m = m
shown_from set (log ∷ logs) m = shown_from set logs (fold_updates (λ tx. tx_in tx set && committed_in log tx) log m)

abbrev pub shown_with : List TxId → List (List LogRecord) → Option KeyMap
shown_with set streams = cond (list_all (is_shown set) streams) (Some (shown_from set streams [])) None

-- none while a stream has no record, or not all of its checkpoint, or its checkpoint kept the COMMIT of one that isn't a member
abbrev pub shown : List (List LogRecord) → Option KeyMap
shown streams = let set = standby_members streams in shown_with set streams
