-- Each answer of a member is that of the map with the members' earlier writes that hold.
use Rattle.std.proofs.Common.{sym, subst, ℕ, ◌<◌, List, [], Bool}
use Rattle.std.specs.Prelude.{is_none}
use Rattle.std.proofs.lemmas.Bool.{and_parts}
use Rattle.clv_base.specs.declared.logs.LogRecord.{LogRecord}
use Rattle.clv_base.specs.LogRules.{log_of, all_logs_from, apart}
use Rattle.clv_base.specs.FileRules.{log_passes}
use Rattle.clv_base.specs.Shards.{shard_count}
use Rattle.clv_base.specs.Journals.{History}
use Rattle.clv_base.specs.Logs.{stands}
use Rattle.clv_base.specs.History.{logs_left}
use Rattle.law_base.proofs.Lists.{all_mono}
use Rattle.law_base.proofs.Logs.{only_passes}
use Rattle.shard_laws.specs.OneShard.{map_found}
use Rattle.history_laws.specs.Openings.{LegalFrom}
use Rattle.history_laws.proofs.LogsLeftPass.{logs_left_pass, left_length}
use Rattle.headline_laws.specs.Shares.{share_of}
use Rattle.headline_laws.proofs.TransactionsReplayByShards.LogsAgreeWithMap.{logs_agree}
use Rattle.headline_laws.proofs.MembersReplayWhereHere.WhoIsAMember.{chosen}
use Rattle.headline_laws.proofs.MembersReplayWhereHere.{starts}
use Rattle.crash_laws.specs.Acts.{AnswersFrom, member_acts, AnswersAreOfEarlier}
use Rattle.crash_laws.proofs.Acts.ActsAreDeeds.{answers_told}
use Rattle.crash_laws.proofs.Acts.ShardsHoldTheActs.{on, answers_all}
use Rattle.crash_laws.proofs.Acts.MembersActOnShards.{IsFine, members_are_fine, picks, chosen_acts, acted}

-- on each shard
pub answers_on : (splits : List ℕ) (before : List (List LogRecord)) (h : History) (after : List (List LogRecord)) (choice : ℕ → Bool) → LegalFrom splits before h after → (n : ℕ) → n < shard_count splits
    → AnswersFrom (share_of before n) [] (on n (member_acts splits before h after choice)) (share_of (logs_left splits before h after choice) n)
answers_on splits before h after_ choice l n i =
    let first = map_found n (log_of before n) (chosen splits before h after_ choice n) in
    let last = share_of (logs_left splits before h after_ choice) n in
    let r = acted l choice n i in
    subst (λ m. AnswersFrom m [] (on n (member_acts splits before h after_ choice)) last) (sym (starts l choice n i))
    (subst (λ as_. AnswersFrom first [] as_ last) (chosen_acts l choice n i) (answers_told n first [] (picks l choice n i) last r.0 r.1))

pub answers_are_of_earlier : AnswersAreOfEarlier
answers_are_of_earlier splits before h after_ choice l =
    let left = logs_left splits before h after_ choice in
    let as_ = member_acts splits before h after_ choice in
    let found = logs_agree splits before l.legal.splits_rise (l.legal.each_log.0, only_passes splits 0 before (and_parts (all_logs_from 0 (log_passes splits) before) (is_none (apart before)) l.opens).0) in
    let ends = logs_agree splits left l.legal.splits_rise (left_length splits before h after_ choice, logs_left_pass splits before h after_ choice l) in
    answers_all splits l.legal.splits_rise (stands before) (stands left) (share_of before) (share_of left) found ends [] as_ tt
    (all_mono (IsFine splits before) _ (λ a p. (p.1).0) as_ (members_are_fine splits before h after_ choice l.legal)) (answers_on splits before h after_ choice l)
