-- What a home knows of the votes on its requests, and which parts its COMMITs name.
use Rattle.std.proofs.Common.{◌≡◌, ⊎_elim, refl, sym, ap, subst, ◌∙◌, ℕ, true, false, cond, ◌&&◌, ◌==◌, Bool, List, [], ◌∷◌, ◌++◌, Option, Some, None, append-nil, eqb-true}
use Rattle.std.specs.Prelude.{⊤}
use Rattle.std.specs.List.{AllByRecursion, filter, list_all}
use Rattle.std.proofs.lemmas.Bool.{both_ways, and_parts, or_cases, or_left, or_right, cond_both}
use Rattle.clv_base.specs.declared.names.TxId.{TxId}
use Rattle.clv_base.specs.declared.logs.LogRecord.{LogRecord}
use Rattle.clv_base.specs.declared.logs.LogRecord.TheVariants.{Prepare as PrepareRecord, Commit, End}
use Rattle.clv_base.specs.declared.causes.Vote.{Vote}
use Rattle.clv_base.specs.declared.causes.Vote.TheVariants.{Yes, Read, No}
use Rattle.clv_base.specs.declared.messages.Message.TheVariants.{Vote as VoteMessage, Decide}
use Rattle.clv_base.specs.declared.parts.PartFacts.{PartFacts}
use Rattle.clv_base.specs.declared.state.Ruling.{Ruling}
use Rattle.clv_base.specs.declared.state.Ruling.TheVariants.{Commit as CommitVerdict, Acknowledge, Abort as AbortVerdict, End as EndVerdict}
use Rattle.clv_base.specs.declared.state.Request.{Request}
use Rattle.clv_base.specs.declared.state.RequestState.TheVariants.{Undecided, Committed}
use Rattle.clv_base.specs.declared.events.Event.{Event}
use Rattle.clv_base.specs.declared.events.Event.TheVariants.{Request as RequestEvent, Deliver}
use Rattle.clv_base.specs.declared.events.Outcome.{Outcome}
use Rattle.clv_base.specs.declared.events.Outcome.TheVariants.{Asked, Taken}
use Rattle.clv_base.specs.declared.events.Entry.{Entry}
use Rattle.clv_base.specs.Orders.{tx_get, tx_put, tx_set, nat_in}
use Rattle.clv_base.specs.Logs.{committed_in, commit_parts, has_standing}
use Rattle.clv_base.specs.State.{Shard, Local, with_local}
use Rattle.clv_base.specs.Backs.{standing_numbers, count_after}
use Rattle.clv_base.specs.Undo.{roll_back, roll_to}
use Rattle.clv_base.specs.OneShard.{closing, close_part, drop_part}
use Rattle.clv_base.specs.Facts.{facts_of, undecided_of, has_durable_predecessors, is_waiting}
use Rattle.clv_base.specs.Participant.{is_yes_vote}
use Rattle.clv_base.specs.Coordinator.{new_request, others, vote_from, with_vote_of, with_done_of, is_good, is_agreed, yes_shards, agreed_ruling, undecided_ruling, ruling_in, ruling_by, ruled_request, restored_requests}
use Rattle.clv_base.specs.Due.{finish_reader, with_vote, with_ruling, do_ruling}
use Rattle.clv_base.specs.Events.{finish, is_alone, coordinate, decided}
use Rattle.clv_base.specs.Restarts.{log_left, revived, opened, unended_in, log_after_restart, Restarts}
use Rattle.clv_base.specs.Journals.{event_state, after_entry, up_to_restart}
use Rattle.law_base.proofs.Changed.{none_some, some_same, get_set}
use Rattle.law_base.proofs.Lists.{all_mono, good_at}
use Rattle.protocol_laws.proofs.LogsInOrder.OneRecordMore.{committed_there}
use Rattle.protocol_laws.specs.Growth.{IsPrefixOf}
use Rattle.protocol_laws.proofs.LogOnlyGrows.DueGrowsLogs.{same, more, more_twice}
use Rattle.shard_laws.proofs.Restarts.RestoredRequestsAndPairs.{request_from}
use Rattle.shard_laws.proofs.Order.WhatRulingsMayWrite.{parts_new}
use Rattle.history_cases.proofs.Stepping.{commits, votes, rules, KeptByDue, settled, Step, op_dies, op_answers, rolls_back, request_refused, request_doomed, request_again, request_new, request_closes, looks_well, looks_ill, drops, prepare_closes, vote_counts, decision_comes, done_counts, Happens, finishes, stops}
use Rattle.history_cases.proofs.Entering.{Makes, by_event, by_flush, by_failure, by_restart}
use Rattle.history_cases.proofs.Uncommitting.{NoMoreCommits, with_more, rolled, gone_back, dropped, op_dying, op_answering, restarts_add, opening_adds}
use Rattle.fate_laws.proofs.Logs.LogOnlyGrows.{inside_step}
use Rattle.fate_laws.proofs.Homes.EventsKeepHomes.{awaits}
use Rattle.fate_laws.proofs.Parts.CommittedAreVotedFor.{commit_agreed}
use Rattle.fate_laws.proofs.Parts.EventsKeepParts.{Once}
use Rattle.fate_laws.proofs.Parts.PutVotesAreHeld.{votes_get, votes_put}
use Rattle.fate_laws.proofs.Homes.ShardKnowsHomes.{new_commit}
use Rattle.headline_laws.proofs.EndedAreCommitted.EndsStandBehindCommits.{parts_back, parts_front, on_restarted}
use Rattle.history_laws.proofs.Entries.AllFromEach.{put_row}

-- ---- lists of shards

pub in_picked : (f : ℕ → Bool) (m : ℕ) (ns : List ℕ) → nat_in m (filter f ns) ≡ true → (nat_in m ns ≡ true) × (f m ≡ true)
in_picked f m [] i = absurd (both_ways false refl i)
in_picked f m (n ∷ ns) i = at (f n) refl i (λ j. let k = in_picked f m ns j in (or_right (m == n) (nat_in m ns) k.0, k.1))
  where
    at : (b : Bool) → f n ≡ b → nat_in m (cond b (n ∷ filter f ns) (filter f ns)) ≡ true → (nat_in m (filter f ns) ≡ true → (nat_in m (n ∷ ns) ≡ true) × (f m ≡ true)) → (nat_in m (n ∷ ns) ≡ true) × (f m ≡ true)
    at true e j k = ⊎_elim (λ a. (or_left (m == n) (nat_in m ns) a, subst (λ z. f z ≡ true) (sym (eqb-true m n a)) e)) k (or_cases (m == n) (nat_in m (filter f ns)) j)
    at false e j k = k j

picked_in : (f : ℕ → Bool) (m : ℕ) (ns : List ℕ) → nat_in m ns ≡ true → f m ≡ true → nat_in m (filter f ns) ≡ true
picked_in f m [] i e = i
picked_in f m (n ∷ ns) i e =
    cond_both (f n) (n ∷ filter f ns) (filter f ns) (λ l. nat_in m l ≡ true)
    (λ a. ⊎_elim (λ q. or_left (m == n) (nat_in m (filter f ns)) q) (λ j. or_right (m == n) (nat_in m (filter f ns)) (picked_in f m ns j e)) (or_cases (m == n) (nat_in m ns) i))
    (λ a. ⊎_elim (λ q. absurd (both_ways (f n) a (subst (λ z. f z ≡ true) (eqb-true m n q) e))) (λ j. picked_in f m ns j e) (or_cases (m == n) (nat_in m ns) i))

-- ---- what is known. W: whose request was taken, where, naming which shards; V: to which home who sent which vote on whom

-- the parts are the other touched shards that voted yes, and the rest voted read
abbrev pub Chosen : (ℕ → TxId → ℕ → Vote → Type 0) → ℕ → TxId → List (ℕ × ℕ) → List ℕ → Type 0
Chosen V home tx ts ps =
    (m : ℕ) → (nat_in m ps ≡ true → (nat_in m (others home ts) ≡ true) × V home tx m Yes) × (nat_in m (others home ts) ≡ true → nat_in m ps ≡ false → V home tx m Read)

-- the votes of an undecided request were sent
abbrev pub Votes : (ℕ → TxId → ℕ → Vote → Type 0) → ℕ → TxId → List (ℕ × Vote) → Type 0
Votes V home tx vs = AllByRecursion (λ v. V home tx v.0 v.1) vs

pub record Polls (W : TxId → ℕ → List (ℕ × ℕ) → Type 0) (V : ℕ → TxId → ℕ → Vote → Type 0) (s : Shard) : Type 0 where
  pub log : (tx : TxId) (ts : List (ℕ × ℕ)) (ps : List ℕ) → W tx s.shard ts → commit_parts s.local.log tx ≡ Some ps → Chosen V s.shard tx ts ps
  pub rows : (tx : TxId) (q : Request) → tx_get tx s.requests ≡ Some q → q.state ≡ Undecided → W tx s.shard q.touched × Votes V s.shard tx q.votes

-- ---- changes of the log

-- a log that goes on from another without a COMMIT
abbrev Plain : List LogRecord → List LogRecord → Type 0
Plain log new = IsPrefixOf log new × NoMoreCommits log new

plain_parts : (log new : List LogRecord) (tx : TxId) (ps : List ℕ) → Plain log new → commit_parts new tx ≡ Some ps → commit_parts log tx ≡ Some ps
plain_parts log new tx ps (p, n) e = parts_back log p.0 tx ps (n tx (committed_there new tx ps e)) (subst (λ z. commit_parts z tx ≡ Some ps) (sym p.1) e)

polls_local : (W : TxId → ℕ → List (ℕ × ℕ) → Type 0) (V : ℕ → TxId → ℕ → Vote → Type 0) (s : Shard) (l : Local) → Plain s.local.log l.log → Polls W V s → Polls W V (record s { local = l })
polls_local W V s l g p = record { log = λ tx ts ps w e. p.log tx ts ps w (plain_parts s.local.log l.log tx ps g e); rows = p.rows }

-- a COMMIT is written: its parts are so chosen
polls_commit : (W : TxId → ℕ → List (ℕ × ℕ) → Type 0) (V : ℕ → TxId → ℕ → Vote → Type 0) (s : Shard) (l : Local) (tx : TxId) (parts : List ℕ) → l.log ≡ s.local.log ++ Commit tx parts ∷ []
    → ((ts : List (ℕ × ℕ)) → W tx s.shard ts → Chosen V s.shard tx ts parts) → Polls W V s → Polls W V (record s { local = l })
polls_commit W V s l tx parts g k p = record { log = λ u ts ps w e. at u ts ps w (subst (λ z. commit_parts z u ≡ Some ps) g e) (committed_in s.local.log u) refl; rows = p.rows }
  where
    at : (u : TxId) (ts : List (ℕ × ℕ)) (ps : List ℕ) → W u s.shard ts → commit_parts (s.local.log ++ Commit tx parts ∷ []) u ≡ Some ps → (b : Bool) → committed_in s.local.log u ≡ b → Chosen V s.shard u ts ps
    at u ts ps w e true c = p.log u ts ps w (parts_back s.local.log (Commit tx parts ∷ []) u ps c e)
    at u ts ps w e false c =
        let q : u ≡ tx = ⊎_elim (λ a. absurd (both_ways (committed_in s.local.log u) c a)) (λ a. a) (new_commit s.local.log tx parts u (committed_there (s.local.log ++ Commit tx parts ∷ []) u ps e)) in
        let f : parts ≡ ps = some_same parts ps (sym (parts_new s.local.log tx parts (subst (λ z. committed_in s.local.log z ≡ false) q c)) ∙ subst (λ z. commit_parts (s.local.log ++ Commit tx parts ∷ []) z ≡ Some ps) q e) in
        subst (λ z. Chosen V s.shard z ts ps) (sym q) (subst (Chosen V s.shard tx ts) f (k ts (subst (λ z. W z s.shard ts) q w)))

polls_closing : (W : TxId → ℕ → List (ℕ × ℕ) → Type 0) (V : ℕ → TxId → ℕ → Vote → Type 0) (s : Shard) (l : Local) (tx : TxId) (home : ℕ) (b one : Bool) (us : List TxId) → l.log ≡ s.local.log ++ closing b one tx home us
    → (one ≡ true → (ts : List (ℕ × ℕ)) → W tx s.shard ts → Chosen V s.shard tx ts []) → Polls W V s → Polls W V (record s { local = l })
polls_closing W V s l tx home false one us g k p = polls_local W V s l (subst (Plain s.local.log) (sym (g ∙ append-nil s.local.log)) (same s.local.log, λ t h. h)) p
polls_closing W V s l tx home true true [] g k p = polls_commit W V s l tx [] g (k refl) p
polls_closing W V s l tx home true true (v ∷ vs) g k p =
    let r = PrepareRecord tx home (v ∷ vs) ∷ [] in polls_local W V s l (subst (Plain s.local.log) (sym g) (more s.local.log r, with_more s.local.log r ((λ t. refl), tt))) p
polls_closing W V s l tx home true false us g k p =
    let r = PrepareRecord tx home us ∷ [] in polls_local W V s l (subst (Plain s.local.log) (sym g) (more s.local.log r, with_more s.local.log r ((λ t. refl), tt))) p

polls_close : (W : TxId → ℕ → List (ℕ × ℕ) → Type 0) (V : ℕ → TxId → ℕ → Vote → Type 0) (s : Shard) (tx : TxId) (home : ℕ) (one : Bool)
    → (one ≡ true → (ts : List (ℕ × ℕ)) → W tx s.shard ts → Chosen V s.shard tx ts []) → Polls W V s → Polls W V (with_local (close_part tx home one) s)
polls_close W V s tx home one k p = polls_closing W V s (close_part tx home one s.local) tx home (has_standing s.local.log tx) one (undecided_of s.local tx) refl k p

plain_rolled : (tx : TxId) (l : Local) → Plain l.log (roll_back tx l).log
plain_rolled tx l = (more_twice l.log _ _, rolled tx l)

-- ---- changes of the requests

polls_set : (W : TxId → ℕ → List (ℕ × ℕ) → Type 0) (V : ℕ → TxId → ℕ → Vote → Type 0) (s : Shard) (tx : TxId) (w : Request) → (w.state ≡ Undecided → W tx s.shard w.touched × Votes V s.shard tx w.votes) → Polls W V s
    → Polls W V (record s { requests = tx_set tx w s.requests })
polls_set W V s tx w k p = record {
  log = p.log;
  rows = λ u q e.
      ⊎_elim (λ a. subst (λ v. q.state ≡ Undecided → W v s.shard q.touched × Votes V s.shard v q.votes) (sym a.0) (subst (λ r. r.state ≡ Undecided → W tx s.shard r.touched × Votes V s.shard tx r.votes) (sym a.1) k))
      (λ b. p.rows u q b.1) (get_set tx u w q s.requests e);
}

polls_put : (W : TxId → ℕ → List (ℕ × ℕ) → Type 0) (V : ℕ → TxId → ℕ → Vote → Type 0) (s : Shard) (tx : TxId) (w : Request) → (w.state ≡ Undecided → W tx s.shard w.touched × Votes V s.shard tx w.votes) → Polls W V s
    → Polls W V (record s { requests = tx_put tx w s.requests })
polls_put W V s tx w k p = record {
  log = p.log;
  rows = λ u q e.
      ⊎_elim (λ a. subst (λ v. q.state ≡ Undecided → W v s.shard q.touched × Votes V s.shard v q.votes) (sym a.0) (subst (λ r. r.state ≡ Undecided → W tx s.shard r.touched × Votes V s.shard tx r.votes) (sym a.1) k)) (λ b. p.rows u q b)
      (put_row u tx w q s.requests e);
}

-- ---- rulings

yes_is : (o : Option Vote) → is_yes_vote o ≡ true → o ≡ Some Yes
yes_is None e = absurd (both_ways false refl e)
yes_is (Some Yes) e = refl
yes_is (Some Read) e = absurd (both_ways false refl e)
yes_is (Some (No why)) e = absurd (both_ways false refl e)

read_is : (o : Option Vote) → is_good o ≡ true → (is_yes_vote o ≡ true → ⊥) → o ≡ Some Read
read_is None e n = absurd (both_ways false refl e)
read_is (Some Yes) e n = absurd (n refl)
read_is (Some Read) e n = refl
read_is (Some (No why)) e n = absurd (both_ways false refl e)

-- the shards that voted yes are so chosen, where all agree
yes_chosen : (V : ℕ → TxId → ℕ → Vote → Type 0) (shard : ℕ) (tx : TxId) (q : Request) (f : PartFacts) → is_agreed shard q f ≡ true → Votes V shard tx q.votes → Chosen V shard tx q.touched (yes_shards shard q)
yes_chosen V shard tx q f a v m = (
  (λ i. let k = in_picked (λ p. is_yes_vote (vote_from p q.votes)) m (others shard q.touched) i in (k.0, votes_get (V shard tx) q.votes m Yes v (yes_is (vote_from m q.votes) k.1))),
  (λ i n. votes_get (V shard tx) q.votes m Read v
      (read_is (vote_from m q.votes) (good_at q.votes (others shard q.touched) m (and_parts (is_waiting f && (f.undecided == 0)) (list_all (λ p. is_good (vote_from p q.votes)) (others shard q.touched)) a).1 i)
      (λ y. both_ways (nat_in m (yes_shards shard q)) n (picked_in (λ p. is_yes_vote (vote_from p q.votes)) m (others shard q.touched) i y)))),
)

agreed_parts : (f : PartFacts) (u : Bool) (ys parts : List ℕ) → agreed_ruling f u ys ≡ Some (CommitVerdict parts) → ys ≡ parts
agreed_parts f u (y ∷ ys) parts e = one (some_same (CommitVerdict (y ∷ ys)) (CommitVerdict parts) e)
  where
    one : CommitVerdict (y ∷ ys) ≡ CommitVerdict parts → y ∷ ys ≡ parts
    one e = cc
agreed_parts f true [] parts e = one (some_same (CommitVerdict []) (CommitVerdict parts) e)
  where
    one : CommitVerdict [] ≡ CommitVerdict parts → [] ≡ parts
    one e = cc
agreed_parts f false [] parts e = at (has_durable_predecessors f) e
  where
    at : (b : Bool) → cond b (Some Acknowledge) None ≡ Some (CommitVerdict parts) → [] ≡ parts
    at true e = absurd (differ (some_same Acknowledge (CommitVerdict parts) e))
      where
        differ : Acknowledge ≡ CommitVerdict parts → ⊥
        differ e = absurd cc
    at false e = absurd (none_some (CommitVerdict parts) e)

ruled_parts : (shard : ℕ) (tx : TxId) (q : Request) (f : PartFacts) (parts : List ℕ) → ruling_by shard tx q f ≡ Some (CommitVerdict parts) → yes_shards shard q ≡ parts
ruled_parts shard tx q f parts e =
    let a = commit_agreed shard tx q f parts e in
    agreed_parts f f.updates (yes_shards shard q) parts (subst (λ b. undecided_ruling shard tx q f b ≡ Some (CommitVerdict parts)) a.1 (subst (λ st. ruling_in shard tx q f st ≡ Some (CommitVerdict parts)) a.0 e))

-- what an event owes: a request and a vote that come tell what was; a commit comes to the home only where its COMMIT is in the log
abbrev pub Owes : (TxId → ℕ → List (ℕ × ℕ) → Type 0) → (ℕ → TxId → ℕ → Vote → Type 0) → Shard → Event → Outcome → Type 0
Owes W V s (RequestEvent tx ts) Asked = W tx s.shard ts
Owes W V s (Deliver (VoteMessage to tx from vote) stamp) o = V to tx from vote
Owes W V s (Deliver (Decide to tx home true) stamp) o = (ts : List (ℕ × ℕ)) → W tx s.shard ts → committed_in s.local.log tx ≡ true
Owes W V s _ _ = ⊤

module _ (run : ℕ) (W : TxId → ℕ → List (ℕ × ℕ) → Type 0) (V : ℕ → TxId → ℕ → Vote → Type 0) (once : Once run W) where
  polls_ruling : (s : Shard) (tx : TxId) (q : Request) (r : Ruling) → tx_get tx s.requests ≡ Some q → ruling_by s.shard tx q (facts_of s tx) ≡ Some r → Polls W V s → Polls W V (do_ruling tx r (with_ruling tx q r s))
  polls_ruling s tx q (CommitVerdict parts) g e p =
      let a = commit_agreed s.shard tx q (facts_of s tx) parts e in
      let r = p.rows tx q g a.0 in
      let c = subst (Chosen V s.shard tx q.touched) (ruled_parts s.shard tx q (facts_of s tx) parts e) (yes_chosen V s.shard tx q (facts_of s tx) a.1 r.1) in
      let t = with_local (λ l. record l { log = l.log ++ Commit tx parts ∷ [] }) s in
      polls_set W V t tx (ruled_request (CommitVerdict parts) q) (λ z. absurd cc)
      (polls_commit W V s t.local tx parts refl (λ ts w. subst (λ us. Chosen V s.shard tx us parts) (once.one tx s.shard s.shard q.touched ts r.0 w).1 c) p)
  polls_ruling s tx q Acknowledge g e p = let u = polls_set W V s tx (ruled_request Acknowledge q) (λ z. absurd cc) p in record { log = u.log; rows = u.rows }
  polls_ruling s tx q (AbortVerdict cause to) g e p =
      let t = with_ruling tx q (AbortVerdict cause to) s in
      let u = polls_local W V t (roll_back tx s.local) (plain_rolled tx s.local) (polls_set W V s tx (ruled_request (AbortVerdict cause to) q) (λ z. absurd cc) p) in
      record { log = u.log; rows = u.rows }
  polls_ruling s tx q EndVerdict g e p =
      let r = End tx ∷ [] in polls_local W V (with_ruling tx q EndVerdict s) _ (more s.local.log r, with_more s.local.log r ((λ t. refl), tt)) (polls_set W V s tx (ruled_request EndVerdict q) (p.rows tx q g) p)

  -- ---- what is due

  polls_reader : (s : Shard) (tx : TxId) (vote : Vote) → Polls W V s → Polls W V (finish_reader tx vote s)
  polls_reader s tx Yes p = p
  polls_reader s tx Read p = record { log = p.log; rows = p.rows }
  polls_reader s tx (No why) p = p

  polls_due : KeptByDue (Polls W V)
  polls_due s _ (commits tx c d) p = record { log = p.log; rows = p.rows }
  polls_due s _ (votes tx v vote g e) p = polls_reader (with_vote s tx v vote) tx vote (record { log = p.log; rows = p.rows })
  polls_due s _ (rules tx q r g e) p = polls_ruling s tx q r g e p

  polls_finish : (s : Shard) → Polls W V s → Polls W V (finish s)
  polls_finish s p = let q = settled (Polls W V) s polls_due p in record { log = q.log; rows = q.rows }

  -- ---- each step

  none_chosen : (shard : ℕ) (tx : TxId) (ts : List (ℕ × ℕ)) (os : List ℕ) → others shard ts ≡ os → is_alone os ≡ true → Chosen V shard tx ts []
  none_chosen shard tx ts [] e a = λ m. ((λ i. absurd (both_ways false refl i)), (λ i n. absurd (both_ways false refl (subst (λ z. nat_in m z ≡ true) e i))))
  none_chosen shard tx ts (x ∷ xs) e a = absurd (both_ways false refl a)

  polls_coordinate : (s : Shard) (tx : TxId) (ts : List (ℕ × ℕ)) → W tx s.shard ts → Polls W V s → Polls W V (coordinate tx ts s)
  polls_coordinate s tx ts w p = let q = polls_put W V s tx (new_request ts Undecided) (λ z. (w, tt)) p in record { log = q.log; rows = q.rows }

  polls_decided : (s : Shard) (tx : TxId) (home stamp : ℕ) (commit : Bool) (o : Outcome) → committed_in s.local.log tx ≡ false → Owes W V s (Deliver (Decide s.shard tx home commit) stamp) o → Polls W V s → Polls W V (decided s tx commit)
  polls_decided s tx home stamp true o n w p = polls_commit W V s _ tx [] refl (λ ts x. absurd (both_ways (committed_in s.local.log tx) n (w ts x))) p
  polls_decided s tx home stamp false o n w p = polls_local W V s (roll_back tx s.local) (plain_rolled tx s.local) p

  polls_step : (s t : Shard) {e : Event} {o : Outcome} → Step s e o t → Owes W V s e o → Polls W V s → Polls W V t
  polls_step s _ (op_dies tx birth nth seen op cause l g) w p = polls_local W V s l ((inside_step s _ (op_dies tx birth nth seen op cause l g)).log, op_dying s.shard s.local l tx birth seen op cause g) p
  polls_step s _ (op_answers tx birth nth seen op answer l g) w p = polls_local W V s l ((inside_step s _ (op_answers tx birth nth seen op answer l g)).log, op_answering s.shard s.local l tx birth seen op answer g) p
  polls_step s _ (rolls_back tx nth seen upto f g) w p =
      let n = count_after upto (standing_numbers tx s.journal) in
      polls_local W V s (roll_to tx n s.local) ((inside_step s _ (rolls_back tx nth seen upto f g)).log, gone_back tx n s.local) p
  polls_step s _ (request_refused tx ts cause g) w p = p
  polls_step s _ (request_doomed tx ts doom g) w p = p
  polls_step s _ (request_again tx ts f g) w p = p
  polls_step s _ (request_new tx ts f g) w p = polls_coordinate s tx ts w p
  polls_step s _ (request_closes tx ts f g) w p =
      let one = is_alone (others s.shard ts) in
      polls_coordinate (with_local (close_part tx s.shard one) s) tx ts w
      (polls_close W V s tx s.shard one (λ a us x. subst (λ z. Chosen V s.shard tx z []) (once.one tx s.shard s.shard ts us w x).1 (none_chosen s.shard tx ts (others s.shard ts) refl a)) p)
  polls_step s _ (looks_well tx g) w p = p
  polls_step s _ (looks_ill tx cause d g) w p = p
  polls_step s _ (drops tx stage g) w p = polls_local W V s (drop_part tx s.local) ((inside_step s _ (drops tx stage g)).log, dropped tx s.local) p
  polls_step s _ (prepare_closes tx home seen stamp g) w p = let q = polls_close W V s tx home false (λ a. absurd (both_ways false refl a)) p in record { log = q.log; rows = q.rows }
  polls_step s _ (vote_counts tx from vote stamp q g c) w p = polls_set W V s tx (with_vote_of from vote q) (λ z. let r = p.rows tx q g z in (r.0, votes_put (V s.shard tx) q.votes from vote w r.1)) p
  polls_step s _ (decision_comes tx home commit stamp g) w p = polls_decided s tx home stamp commit Taken (awaits s tx commit g) w p
  polls_step s _ (done_counts tx from stamp q g c) w p = polls_set W V s tx (with_done_of from q) (p.rows tx q g) p
  polls_step s _ _ w p = record { log = p.log; rows = p.rows }

  -- ---- a restart, and a shard that opened

  restored : (shard : ℕ) (log : List LogRecord) (tx : TxId) (q : Request) → tx_get tx (restored_requests (unended_in log log)) ≡ Some q → q.state ≡ Undecided → W tx shard q.touched × Votes V shard tx q.votes
  restored shard log tx q g u = let x = request_from tx (unended_in log log) q g in absurd (differ x.0 (sym (ap (λ z. z.state) x.2) ∙ u))
    where
      differ : (ps : List ℕ) → Committed ps ≡ Undecided → ⊥
      differ ps e = absurd cc

  polls_revived : (s : Shard) (kept : Bool) (epoch : ℕ) (log : List LogRecord) → Restarts s (log_left s kept) epoch log → Polls W V s → Polls W V (revived s epoch log)
  polls_revived s kept epoch log r p =
      let g = on_restarted s (log_left s kept) epoch log r in
      record {
        log = λ tx ts ps w e. p.log tx ts ps w (parts_front _ s.local.log tx ps (plain_parts (log_left s kept) log tx ps ((g.0, g.1), restarts_add s (log_left s kept) epoch log r) e));
        rows = restored s.shard log;
      }

  pub polls_opened : (shard : ℕ) (log : List LogRecord) → ((t : TxId) → committed_in log t ≡ true → t.run ≡ run → ⊥) → Polls W V (opened shard run log)
  polls_opened shard log n = record {
    log = λ tx ts ps w e. absurd (n tx (opening_adds shard log run 0 tx (committed_there (log_after_restart shard log run 0) tx ps e)) (once.mine tx shard ts w));
    rows = restored shard (log_after_restart shard log run 0);
  }

  -- ---- each entry

  polls_event : (s t : Shard) {e : Event} {o : Outcome} → Happens s e o t → Owes W V s e o → Polls W V s → Polls W V t
  polls_event s _ (finishes {t = x} u h) w p = polls_finish x (polls_step s x h w p)
  polls_event s _ (stops u) w p = record { log = p.log; rows = p.rows }

  pub polls_made : (log : List LogRecord) (s t : Shard) {e : Event} {o : Outcome} → Makes log s e o t → Owes W V s e o → Polls W V s → Polls W V t
  polls_made log s t (by_event g h) w p = polls_event s t h w p
  polls_made log s _ (by_flush n u f) w p = polls_finish _ (record { log = p.log; rows = p.rows })
  polls_made log s _ (by_failure n u f) w p = record { log = p.log; rows = p.rows }
  polls_made log s _ (by_restart epoch kept u r) w p = polls_revived s kept epoch (up_to_restart s.run epoch log) r p

-- ---- more is known

pub polls_mono : (W : TxId → ℕ → List (ℕ × ℕ) → Type 0) (V U : ℕ → TxId → ℕ → Vote → Type 0) (s : Shard) → ((home : ℕ) (tx : TxId) (m : ℕ) (v : Vote) → V home tx m v → U home tx m v) → Polls W V s → Polls W U s
polls_mono W V U s k p = record {
  log = λ tx ts ps w e m. let c = p.log tx ts ps w e m in ((λ i. let y = c.0 i in (y.0, k s.shard tx m Yes y.1)), (λ i n. k s.shard tx m Read (c.1 i n)));
  rows = λ tx q g u. let r = p.rows tx q g u in (r.0, all_mono (λ v. V s.shard tx v.0 v.1) (λ v. U s.shard tx v.0 v.1) (λ v. k s.shard tx v.0 v.1) q.votes r.1);
}

pub polls_noted : (W : TxId → ℕ → List (ℕ × ℕ) → Type 0) (V : ℕ → TxId → ℕ → Vote → Type 0) (log : List LogRecord) (s : Shard) (x : Entry) → Polls W V (event_state log s x.event x.outcome) → Polls W V (after_entry log s x)
polls_noted W V log s x p = record { log = p.log; rows = p.rows }
