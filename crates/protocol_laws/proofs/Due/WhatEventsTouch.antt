-- What each thing that is done, and each event, changes of what something due depends on.
use Rattle.std.proofs.Common.{◌≡◌, refl, sym, ap, ◌∙◌, Bool, true, false, cond, List, [], ◌∷◌, Some, None}
use Rattle.std.proofs.lemmas.Bool.{both_ways, or_parts, cond-false, false_from_ne_true}
use Rattle.clv_base.specs.declared.names.TxId.{TxId}
use Rattle.clv_base.specs.declared.causes.Vote.TheVariants.{Yes, Read, No}
use Rattle.clv_base.specs.declared.state.Ruling.TheVariants.{Commit as CommitVerdict, Acknowledge, Abort as AbortVerdict, End as EndVerdict}
use Rattle.clv_base.specs.declared.state.RequestState.TheVariants.{Undecided}
use Rattle.clv_base.specs.Orders.{Table, tx_same, tx_in, tx_get, tx_set, tx_put}
use Rattle.clv_base.specs.State.{Local, is_present}
use Rattle.clv_base.specs.Undo.{stage_of, doomed_here}
use Rattle.clv_base.specs.Participant.{voted, asked_voter}
use Rattle.clv_base.specs.Coordinator.{ruled_request, new_request, with_vote_of, with_done_of}
use Rattle.clv_base.specs.OneShard.{rolled_back_if, without_part}
use Rattle.clv_base.proofs.SameNames.{tx_true, tx_flip}
use Rattle.law_base.proofs.Tables.{get_put}
use Rattle.protocol_laws.specs.Changes.{ChangesOnly, successors_of}
use Rattle.protocol_laws.specs.Steps.{CommitsTouch, VotesTouch, RulingsTouch, OperationsTouch, RollsTouch, RequestsTouch, DropsTouch, PreparesTouch, AnswersTouch, DecisionsTouch, NobodyIsTouched}
use Rattle.protocol_laws.proofs.Due.WhoseFactsChange.{releases_change, roll_backs_change, commits_change, ends_change, closes_change, operations_change, rolls_change, marks_change}

-- ---- tables

pub other_in : (x tx : TxId) (ts : List TxId) → tx_in x (tx ∷ ts) ≡ false → tx_same x tx ≡ false
other_in x tx ts out = false_from_ne_true _ (λ e. both_ways _ (or_parts (tx_same tx x) (tx_in x ts) out).0 (tx_flip x tx e))

pub rest_out : (x tx : TxId) (ts : List TxId) → tx_in x (tx ∷ ts) ≡ false → tx_in x ts ≡ false
rest_out x tx ts out = (or_parts (tx_same tx x) (tx_in x ts) out).1

pub set_other : {V : Type 0} (x tx : TxId) (w : V) (rs : Table V) → tx_same x tx ≡ false → tx_get x (tx_set tx w rs) ≡ tx_get x rs
set_other x tx w [] o = refl
set_other x tx w (r ∷ rs) o = at (tx_same tx r.0) refl (set_other x tx w rs o)
  where
    at : (b : Bool) → tx_same tx r.0 ≡ b → tx_get x (tx_set tx w rs) ≡ tx_get x rs → tx_get x (cond b ((r.0, w) ∷ rs) (r ∷ tx_set tx w rs)) ≡ tx_get x (r ∷ rs)
    at true e more =
        let no : tx_same x r.0 ≡ false = false_from_ne_true _ (λ s. both_ways _ o (ap (tx_same x) (tx_true tx r.0 e) ∙ s)) in
        cond-false (tx_same x r.0) (Some w) (tx_get x rs) no ∙ sym (cond-false (tx_same x r.0) (Some r.1) (tx_get x rs) no)
    at false e more = ap (λ l. cond (tx_same x r.0) (Some r.1) l) more

put_other : {V : Type 0} (x tx : TxId) (w : V) (rs : Table V) → tx_same x tx ≡ false → tx_get x (tx_put tx w rs) ≡ tx_get x rs
put_other x tx w rs o = get_put tx x w rs ∙ cond-false (tx_same x tx) (Some w) (tx_get x rs) o

-- ---- a change of what transactions work on

none_facts : (set : List TxId) (l : Local) → ChangesOnly set l l
none_facts set l x out durable = refl

pub commits_touch : CommitsTouch
commits_touch s tx = record {
  shard = refl;
  facts = λ x out. releases_change s.local (tx ∷ []) None x out s.durable;
  voters = λ x out. refl;
  requests = λ x out. refl;
}

pub votes_touch : VotesTouch
votes_touch s tx v Yes = record { shard = refl; facts = λ x out. refl; voters = λ x out. set_other x tx (voted Yes v) s.voters (other_in x tx [] out); requests = λ x out. refl }
votes_touch s tx v Read = record { shard = refl; facts = λ x out. releases_change s.local (tx ∷ []) None x out s.durable; voters = λ x out. set_other x tx (voted Read v) s.voters (other_in x tx [] out); requests = λ x out. refl }
votes_touch s tx v (No why) = record { shard = refl; facts = λ x out. refl; voters = λ x out. set_other x tx (voted (No why) v) s.voters (other_in x tx [] out); requests = λ x out. refl }

pub rulings_touch : RulingsTouch
rulings_touch s tx q (CommitVerdict parts) = record {
  shard = refl;
  facts = λ x out. commits_change s.local tx parts x out s.durable;
  voters = λ x out. refl;
  requests = λ x out. set_other x tx (ruled_request (CommitVerdict parts) q) s.requests (other_in x tx (successors_of s.local.pairs tx) out);
}
rulings_touch s tx q Acknowledge = record {
  shard = refl;
  facts = λ x out. releases_change s.local (tx ∷ []) None x out s.durable;
  voters = λ x out. refl;
  requests = λ x out. set_other x tx (ruled_request Acknowledge q) s.requests (other_in x tx [] out);
}
rulings_touch s tx q (AbortVerdict cause to) = record {
  shard = refl;
  facts = λ x out. roll_backs_change s.local tx x (rest_out x tx (doomed_here s.local tx) out) s.durable;
  voters = λ x out. refl;
  requests = λ x out. set_other x tx (ruled_request (AbortVerdict cause to) q) s.requests (other_in x tx (doomed_here s.local tx) out);
}
rulings_touch s tx q EndVerdict = record {
  shard = refl;
  facts = λ x out. ends_change s.local tx x refl s.durable;
  voters = λ x out. refl;
  requests = λ x out. set_other x tx (ruled_request EndVerdict q) s.requests (other_in x tx [] out);
}

-- ---- events

rolled_if : (b : Bool) (l : Local) (tx x : TxId) → tx_in x (doomed_here l tx) ≡ false → ChangesOnly (doomed_here l tx) l (rolled_back_if b tx l)
rolled_if true l tx x out = roll_backs_change l tx
rolled_if false l tx x out = none_facts (doomed_here l tx) l

pub operations_touch : OperationsTouch
operations_touch = (
  λ s tx birth op. record { shard = refl; facts = λ x out. operations_change s.local tx birth op x out s.durable; voters = λ x out. refl; requests = λ x out. refl },
  λ s tx. record { shard = refl; facts = λ x out. rolled_if (is_present (stage_of s.local tx)) s.local tx x out x out s.durable; voters = λ x out. refl; requests = λ x out. refl },
)

pub rolls_touch : RollsTouch
rolls_touch s tx n = record { shard = refl; facts = λ x out. rolls_change s.local tx n x out s.durable; voters = λ x out. refl; requests = λ x out. refl }

pub requests_touch : RequestsTouch
requests_touch = (
  λ s tx touched alone. record {
    shard = refl;
    facts = λ x out. closes_change s.local tx s.shard alone x out s.durable;
    voters = λ x out. refl;
    requests = λ x out. put_other x tx (new_request touched Undecided) s.requests (other_in x tx (successors_of s.local.pairs tx) out);
  },
  λ s tx touched. record { shard = refl; facts = λ x out. refl; voters = λ x out. refl; requests = λ x out. put_other x tx (new_request touched Undecided) s.requests (other_in x tx [] out) },
)

pub drops_touch : DropsTouch
drops_touch s tx = record {
  shard = refl;
  facts = λ x out. marks_change (without_part tx s.local) tx x refl s.durable ∙ rolled_if (is_present (stage_of s.local tx)) s.local tx x out x out s.durable;
  voters = λ x out. refl;
  requests = λ x out. refl;
}

pub prepares_touch : PreparesTouch
prepares_touch = (
  λ s tx home seen. record {
    shard = refl;
    facts = λ x out. closes_change s.local tx home false x out s.durable;
    voters = λ x out. put_other x tx (asked_voter home seen (tx_get tx s.voters)) s.voters (other_in x tx (successors_of s.local.pairs tx) out);
    requests = λ x out. refl;
  },
  λ s tx home seen. record { shard = refl; facts = λ x out. refl; voters = λ x out. put_other x tx (asked_voter home seen (tx_get tx s.voters)) s.voters (other_in x tx [] out); requests = λ x out. refl },
)

pub answers_touch : AnswersTouch
answers_touch = (
  λ s tx from vote q. record { shard = refl; facts = λ x out. refl; voters = λ x out. refl; requests = λ x out. set_other x tx (with_vote_of from vote q) s.requests (other_in x tx [] out) },
  λ s tx from q. record { shard = refl; facts = λ x out. refl; voters = λ x out. refl; requests = λ x out. set_other x tx (with_done_of from q) s.requests (other_in x tx [] out) },
)

pub decisions_touch : DecisionsTouch
decisions_touch = (
  λ s tx. record { shard = refl; facts = λ x out. commits_change s.local tx [] x out s.durable; voters = λ x out. refl; requests = λ x out. refl },
  λ s tx. record { shard = refl; facts = λ x out. roll_backs_change s.local tx x out s.durable; voters = λ x out. refl; requests = λ x out. refl },
)

pub nobody_is_touched : NobodyIsTouched
nobody_is_touched = (
  λ s ms. record { shard = refl; facts = λ x out. refl; voters = λ x out. refl; requests = λ x out. refl },
  λ s ms. record { shard = refl; facts = λ x out. refl; voters = λ x out. refl; requests = λ x out. refl },
  λ s n. record { shard = refl; facts = λ x out. refl; voters = λ x out. refl; requests = λ x out. refl },
)
