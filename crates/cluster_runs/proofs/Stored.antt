-- What the stores of a run hold in which all was fine: the map after the acknowledged transactions.
use Rattle.std.proofs.Common.{◌≡◌, refl, sym, ap, ap₂, subst, ◌∙◌, ◌⊎◌, inl, inr, ℕ, zero, suc, ◌+◌, ◌<◌, ◌==◌, eqb-true, Bool, true, false, not, ◌&&◌, ◌||◌, List, [], ◌∷◌, ◌++◌, length, map, get_or, Option, Some, None, is_none, arith}
use Rattle.std.specs.List.{list_all}
use Rattle.std.proofs.lemmas.Bool.{both_ways, and_parts, and_from}
use Rattle.clv_base.specs.declared.names.TxId.{TxId}
use Rattle.clv_base.specs.declared.logs.LogRecord.{LogRecord}
use Rattle.clv_base.specs.declared.state.Stage.{Stage}
use Rattle.clv_base.specs.declared.state.Stage.TheVariants.{Active, Closed, Gone}
use Rattle.clv_base.specs.declared.state.Held.{Held}
use Rattle.clv_base.specs.declared.events.Event.{Event}
use Rattle.clv_base.specs.declared.events.Outcome.{Outcome}
use Rattle.clv_base.specs.declared.events.Entry.{Entry}
use Rattle.clv_base.specs.Maps.{KeyMap, replay_map}
use Rattle.clv_base.specs.Needs.{Records, live_pairs}
use Rattle.clv_base.specs.Orders.{Table}
use Rattle.clv_base.specs.Logs.{committed_in, stands}
use Rattle.clv_base.specs.LogRules.{log_of}
use Rattle.clv_base.specs.Shards.{shard_count}
use Rattle.clv_base.specs.Sessions.{is_of_session}
use Rattle.clv_base.specs.State.{Shard, is_active_stage, is_closed_stage, is_gone_stage}
use Rattle.clv_base.specs.Restarts.{log_left}
use Rattle.clv_base.specs.Journals.{History, own, final_of, logs_left_from}
use Rattle.clv_base.specs.History.{IsQuiet, logs_left, request_of}
use Rattle.law_base.proofs.Lists.{elem_at}
use Rattle.law_base.proofs.Restarts.{left_length as length_left}
use Rattle.history_cases.proofs.Merging.{Among, in_own}
use Rattle.history_laws.proofs.Laws.{left_at}
use Rattle.history_replay.specs.Entries.{Kept}
use Rattle.history_replay.specs.Replayed.{acknowledged_acts, acts_at, replayed}
use Rattle.io_model.specs.Sides.{Stories}
use Rattle.journal_laws.specs.Gathered.{MakesHistory}
use Rattle.headline_laws.specs.Shares.{in_turn}
use Rattle.headline_laws.proofs.Laws.{promise}
use Rattle.machine_calls.specs.Steps.{sends_nothing}
use Rattle.machine_calls.specs.Settled.{are_inactive, is_flushed, is_part_settled, is_quiet, is_request_settled, is_settled}
use Rattle.cluster_turns.specs.declared.home.Home.{Home}
use Rattle.cluster_turns.specs.declared.shards.Shards.{Shards}
use Rattle.cluster_turns.specs.declared.shards.Walker.{Walker}
use Rattle.cluster_turns.specs.Walkers.{founds_of}
use Rattle.cluster_closing.specs.Landed.{HasLanded}
use Rattle.cluster_closing.proofs.Laws.{state_here}
use Rattle.command_line.specs.declared.status.Status.{Status}
use Rattle.command_line.specs.declared.status.Status.TheVariants.{Fine}
use Rattle.command_line.specs.Running.{End, IsOk, status_by}
use Rattle.session_api.specs.Standing.{IsAtRest}
use Rattle.script_lang.specs.Bodies.{Body}
use Rattle.script_runs.specs.Sessions.{session_entries}
use Rattle.script_runs.specs.declared.threads.Start.{Start}
use Rattle.script_runs.specs.declared.threads.Start.TheVariants.{FirstAlone}
use Rattle.cluster_runs.specs.Histories.{entries}
use Rattle.cluster_runs.specs.Replays.{AreTold, HaveGone, NothingIsReplayed}
use Rattle.cluster_runs.specs.Statuses.{StatusTold}
use Rattle.cluster_runs.specs.Ended.{ClusterEnded}
use Rattle.cluster_runs.specs.Ends.{IsClosedRun, end_of, walked_by}
use Rattle.cluster_runs.specs.Drained.{AreDrained, SeeQuiet}
use Rattle.cluster_runs.specs.Alone.{AreAlone}
use Rattle.cluster_runs.specs.Completing.{SessionsHaveEnded}
use Rattle.cluster_runs.specs.PromisedSessions.{Went}
use Rattle.cluster_runs.specs.Sessions.{SessionsGone, AreCounted, HasWornLast}
use Rattle.ordered_store.specs.InTurn.{live_in_turn}
use Rattle.cluster_runs.proofs.Ending.{clusters_end, quiet_state}
use Rattle.cluster_runs.proofs.Going.{in_session, of_session, requests_are_told}
use Rattle.cluster_runs.proofs.Replaying.{known_by, members_are}
use Rattle.cluster_runs.proofs.Promised.{fine_end, ran_all}

-- ---- one store after another

turned : {X : Type 0} (records : X → Records) (f : ℕ → KeyMap) (xs : List X) (n : ℕ) → ((j : ℕ) (d : X) → j < length xs → f (n + j) ≡ live_pairs (records (get_or xs j d))) → in_turn f n (length xs) ≡ live_in_turn (map records xs)
turned records f [] n each = refl
turned records f (x ∷ xs) n each =
    let here : f n ≡ live_pairs (records x) = ap f (let e : n ≡ n + 0 = omega arith in e) ∙ each 0 x (omega arith) in
    let rest = turned records f xs (suc n) (λ j d l. ap f (let e : suc n + j ≡ n + suc j = omega arith in e) ∙ each (suc j) d (omega arith)) in
    ap (λ m. m ++ in_turn f (suc n) (length xs)) here ∙ ap (λ m. live_pairs (records x) ++ m) rest

-- ---- where no entry is one that only sessions make, no transaction is acknowledged

never : (kept : Kept) → ((w : ℕ) → session_entries (own w (entries kept)) ≡ []) → (x : ℕ × Entry) → Among x (entries kept) → is_of_session (x.1).event ≡ false
never kept none x m = at (is_of_session (x.1).event) refl
  where
    at : (b : Bool) → is_of_session (x.1).event ≡ b → is_of_session (x.1).event ≡ false
    at false is = is
    at true is = absurd (subst (Among x) (none (x.1).walker) (in_session x (own (x.1).walker (entries kept)) is (in_own x (entries kept) m)))

no_request : (e : Event) (o : Outcome) → is_of_session e ≡ false → request_of e o ≡ None
no_request e o of = at (request_of e o) refl
  where
    at : (r : Option TxId) → request_of e o ≡ r → request_of e o ≡ None
    at None is = is
    at (Some t) is = absurd (both_ways (is_of_session e) of (of_session e o t is))

no_acts : (h es : History) → ((x : ℕ × Entry) → Among x es → is_of_session (x.1).event ≡ false) → acknowledged_acts h es ≡ []
no_acts h [] none = refl
no_acts h (e ∷ es) none = ap₂ (λ o acts. acts_at h o ++ acts) (no_request (e.1).event (e.1).outcome (none e (inl refl))) (no_acts h es (λ x m. none x (inr m)))

-- where there is no session, no walker makes such an entry
none_at : (h : History) → ((w : ℕ) → (w ≡ 0) ⊎ (0 < w) → session_entries (own w h) ≡ []) → (w : ℕ) → session_entries (own w h) ≡ []
none_at h others zero = others zero (inl refl)
none_at h others (suc w) = others (suc w) (inr (omega arith))

pub nothing_is_replayed : NothingIsReplayed
nothing_is_replayed splits before now counts counts_now most went kept p =
    ap (replay_map (stands kept.found)) (no_acts (entries kept) (entries kept) (never kept (none_at (entries kept) (p.sessions).others)))

-- ---- a quiet shard

quiet_part : (log : List LogRecord) (tx : TxId) (stage : Stage) → not (is_active_stage stage) ≡ true → (not (is_closed_stage stage) || committed_in log tx) ≡ true → (is_gone_stage stage || committed_in log tx) ≡ true
quiet_part log tx Active inactive settled = absurd (both_ways false refl inactive)
quiet_part log tx Closed inactive settled = settled
quiet_part log tx (Gone d) inactive settled = refl

quiet_parts : (log : List LogRecord) (parts : Table Held) → are_inactive parts ≡ true → list_all (λ p. is_part_settled log p.0 p.1) parts ≡ true → list_all (λ p. is_gone_stage (p.1).stage || committed_in log p.0) parts ≡ true
quiet_parts log [] none all = refl
quiet_parts log (p ∷ ps) none all =
    let both = and_parts (is_part_settled log p.0 p.1) (list_all (λ q. is_part_settled log q.0 q.1) ps) all in
    let idle = and_parts (not (is_active_stage (p.1).stage)) (are_inactive ps) none in
    and_from (is_gone_stage (p.1).stage || committed_in log p.0) (list_all (λ q. is_gone_stage (q.1).stage || committed_in log q.0) ps) (quiet_part log p.0 (p.1).stage idle.0 both.0) (quiet_parts log ps idle.1 both.1)

nothing : (o : Option ℕ) → is_none o ≡ true → o ≡ None
nothing None is = refl
nothing (Some n) is = absurd (both_ways false refl is)

quiet : (s : Shard) → is_quiet s ≡ true → IsQuiet s
quiet s both =
    let split = and_parts (is_settled s) (are_inactive s.local.parts) both in
    let parts = list_all (λ p. is_part_settled s.local.log p.0 p.1) s.local.parts in
    let requests = list_all (λ q. is_request_settled s.local.log q.0 q.1) s.requests in
    let a = and_parts (s.is_up && is_flushed s && sends_nothing s.outbox && parts) requests split.0 in
    let b = and_parts (s.is_up && is_flushed s && sends_nothing s.outbox) parts a.0 in
    let c = and_parts (s.is_up && is_flushed s) (sends_nothing s.outbox) b.0 in
    let d = and_parts s.is_up (is_flushed s) c.0 in
    let e = and_parts (s.durable == length s.local.log) (is_none s.flight) d.1 in
    (d.0, eqb-true s.durable (length s.local.log) e.0, nothing s.flight e.1, quiet_parts s.local.log s.local.parts split.1 b.1)

-- ---- the end of a cluster

module _
    (splits : List ℕ) (before now : ℕ → Option Stories) (counts counts_now : ℕ → ℕ) (kept : Kept) (states : ℕ → Shard) (own_of : ℕ → History) (ended : ClusterEnded splits before now counts counts_now kept states own_of)
    (told : AreTold (entries kept)) (at_rest : (n : ℕ) → n < shard_count splits → is_quiet (states n) ≡ true) where
  abbrev count : ℕ
  count = shard_count splits

  -- the durable records of each
  abbrev left : List (List LogRecord)
  left = logs_left_from states (λ n. false) 0 count

  left_is : (n : ℕ) → n < count → log_of left n ≡ log_left (states n) false
  left_is n l = left_at states (λ m. false) 0 count n l ∙ ap (λ m. log_left (states m) false) (let e : 0 + n ≡ n = omega arith in e)

  made : MakesHistory splits kept.found left kept.journals states own_of
  made = ended.legal left (length_left states (λ n. false) 0 count) (λ n l. (false, inl (left_is n l)))

  abbrev last : ℕ → Shard
  last n = final_of kept.found (entries kept) left n

  is_at_rest : (n : ℕ) → n < count → IsQuiet (last n)
  is_at_rest n l = subst IsQuiet (sym (made.same_states n l)) (quiet (states n) (at_rest n l))

  stored : {X : Type 0} (records : X → Records) (xs : List X) → length xs ≡ count → ((n : ℕ) (d : X) → n < count → records (get_or xs n d) ≡ (states n).local.records) → live_in_turn (map records xs) ≡ replayed kept
  stored records xs long each =
      let choice : ℕ → Bool = λ n. false in
      let p = promise splits kept.found (entries kept) left choice (record { opens = ended.opens; legal = made.legal }) in
      let pairs : ℕ → KeyMap = λ n. live_pairs (last n).local.records in
      sym
      (turned records pairs xs 0
      (λ n d l. (let low : n < count = omega arith in
      ap pairs (let e : 0 + n ≡ n = omega arith in e) ∙ ap (λ s. live_pairs s.local.records) (made.same_states n low) ∙ ap live_pairs (sym (each n d low)))))
      ∙ ap (in_turn pairs 0) long ∙ p.settled is_at_rest ∙ sym p.map
      ∙ ap (replay_map (stands kept.found)) (members_are (logs_left splits kept.found (entries kept) left choice) (entries kept) (entries kept) (known_by splits kept left ended.opens made.legal told choice))

-- ---- a run

pub stores_hold : {M S G : Type 0} → SessionsHaveEnded → (D : Type 0) (shard : M → Shard) (sh : Shards M S G) (walkers : List (Walker M S G)) (homes : List (Home M S G)) (kept : Kept) (down : Option ℕ) (counts counts_now : ℕ → ℕ) (out out_now : ℕ → Bool × Bool)
    (before now : ℕ → Option Stories) (most : Option ℕ) (start : Start) (script : List (List Body)) (went : ℕ → Went) (end : End) (status : Status) {X : Type 0} (records : X → Records) (xs : List X)
    → IsClosedRun D shard sh walkers homes kept down counts counts_now out out_now before now → length walkers ≡ suc (length script)
    → SessionsGone sh most script walkers went end → AreDrained sh (length script) walkers went → ((k : ℕ) (d : Walker M S G) → k < length walkers → IsAtRest sh k (get_or walkers k d)) → (IsOk end → SeeQuiet sh walkers) → (start ≡ FirstAlone → AreAlone sh most script (λ k d. get_or walkers (suc k) d)) → AreCounted script walkers → HasWornLast walkers end → status ≡ status_by down end
    → length xs ≡ sh.locks.len → ((n : ℕ) (d : X) (e : Home M S G) → n < sh.locks.len → records (get_or xs n d) ≡ (shard (get_or homes n e).machine).local.records) → status ≡ Fine → live_in_turn (map records xs) ≡ replayed kept
stores_hold {M = M} {S = S} {G = G} ends D shard sh walkers homes kept down counts counts_now out out_now before now most start script went end status records xs ended many gone drains rest seen_so apart counted worn is long each fine =
    let ran = ran_all ends D shard sh walkers homes kept down counts counts_now out out_now before now most start script went end status ended many gone drains rest seen_so apart counted worn is in
    let through : HaveGone script ran.went = (subst (λ z. StatusTold (shard_count ran.splits) counts counts_now script (entries kept) ran.went z) fine ran.told).1 in
    let told = requests_are_told ran.splits before now counts counts_now most script ran.went kept ran.promised through in
    let count = ended.begun.count in
    let ok = sh.locks.ok in
    let w = elem_at walkers 0 (omega arith) in
    let seen = seen_so (fine_end down end (sym is ∙ fine)) in
    let numbers : (k : ℕ) (d : Walker M S G) → k < length walkers → (get_or walkers k d).number ≡ k = λ k d few. (rest k d few).number_is in
    stored sh.splits before now counts counts_now kept (end_of D shard sh homes) (walked_by walkers) (clusters_end {D = D} shard sh walkers homes kept down counts counts_now out out_now before now ended)
    told
    (λ n low.
    quiet_state {D = D} shard sh walkers homes kept down counts counts_now out out_now before now ended numbers (λ k d few. subst (λ m. HasLanded m (get_or walkers k d).passes.items) (numbers k d few) (rest k d few).landed) w (omega arith) n low
    (λ k d few. seen k n d few (omega arith)))
    records xs (omega arith)
    (λ n d low. (let l : n < length homes = (let c = ended.closed.len in omega arith) in
    let h = elem_at homes n l in
    each n d h (omega arith) ∙ ap (λ s. s.local.records) (sym (state_here (λ x. shard x.machine) (founds_of sh) homes n h l))))
