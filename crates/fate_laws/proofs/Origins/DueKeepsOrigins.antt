-- Where what a shard has of transactions comes from, and that what is due keeps it so.
use Rattle.std.proofs.Common.{◌≡◌, ◌⊎◌, inl, inr, ⊎_elim, refl, sym, subst, ◌∙◌, ℕ, suc, true, false, cond, not, ◌==◌, Bool, List, [], ◌∷◌, ◌++◌, map, Option, Some, None}
use Rattle.std.specs.Prelude.{⊤}
use Rattle.std.specs.List.{AllByRecursion, filter}
use Rattle.std.proofs.lemmas.Bool.{both_ways, or_cases, eq-eqb}
use Rattle.clv_base.specs.declared.names.TxId.{TxId}
use Rattle.clv_base.specs.declared.names.Birth.{Birth}
use Rattle.clv_base.specs.declared.logs.LogRecord.{LogRecord}
use Rattle.clv_base.specs.declared.logs.LogRecord.TheVariants.{Update, Clr, Prepare as PrepareRecord, Commit, Abort, End, Restart as RestartRecord, Add, Unadd, Forgotten, Check}
use Rattle.clv_base.specs.declared.changes.Change.{Change}
use Rattle.clv_base.specs.declared.changes.Change.TheVariants.{Sets, Adds}
use Rattle.clv_base.specs.declared.causes.Vote.{Vote}
use Rattle.clv_base.specs.declared.causes.Vote.TheVariants.{Yes, Read, No}
use Rattle.clv_base.specs.declared.messages.Message.{Message}
use Rattle.clv_base.specs.declared.messages.Message.TheVariants.{Prepare, Vote as VoteMessage, Decide, Done, Ask}
use Rattle.clv_base.specs.declared.state.Stage.{Stage}
use Rattle.clv_base.specs.declared.state.Stage.TheVariants.{Active, Closed, Gone}
use Rattle.clv_base.specs.declared.state.Held.{Held}
use Rattle.clv_base.specs.declared.state.Voter.{Voter}
use Rattle.clv_base.specs.declared.state.Request.{Request}
use Rattle.clv_base.specs.declared.state.RequestState.{RequestState}
use Rattle.clv_base.specs.declared.state.RequestState.TheVariants.{Undecided, Committed, Finished, Refused}
use Rattle.clv_base.specs.declared.state.Ruling.{Ruling}
use Rattle.clv_base.specs.declared.state.Ruling.TheVariants.{Commit as CommitVerdict, Acknowledge, Abort as AbortVerdict, End as EndVerdict}
use Rattle.clv_base.specs.Orders.{Table, tx_same, tx_in, tx_get, tx_set}
use Rattle.clv_base.specs.Logs.{StandingUpdate, standing_from, standing, without_newest, wrote_in, has_standing}
use Rattle.clv_base.specs.State.{Shard, with_local}
use Rattle.clv_base.specs.Undo.{is_of, aborts_of, clrs_by, clrs_of, newest_lsn, newest_lsns, is_at, gone_part, gone_in, doomed_here, roll_back, roll_to, compensation}
use Rattle.clv_base.specs.declared.causes.AbortCause.{AbortCause}
use Rattle.clv_base.specs.declared.parts.PartFacts.{PartFacts}
use Rattle.clv_base.specs.Facts.{has_durable_predecessors, facts_of}
use Rattle.clv_base.specs.Coordinator.{vote_from, is_open, is_agreed, yes_shards, open_shards, agreed_ruling, refusal, refused_ruling, end_ruling, undecided_ruling, ruling_in, ruled_request}
use Rattle.clv_base.specs.Due.{send, finish_part, commit_messages, with_vote, finish_reader, with_ruling, do_ruling}
use Rattle.clv_base.specs.Events.{finish}
use Rattle.clv_base.proofs.SameNames.{tx_true}
use Rattle.law_base.proofs.Changed.{none_some}
use Rattle.law_base.proofs.Rows.{rows_get, rows_set}
use Rattle.law_base.proofs.Tables.{stage_in, get_changed}
use Rattle.law_base.proofs.Lists.{all_append}
use Rattle.law_base.proofs.Stages.{stage_of_some}
use Rattle.law_base.proofs.Standing.{standing_wrote}
use Rattle.history_cases.proofs.Stepping.{commits, votes, rules, KeptByDue, settled}
use Rattle.history_cases.proofs.Telling.{all_map}

-- ---- what is told of transactions: D, an operation was answered here, in this epoch and with this birth; A, one was answered here, or the
-- transaction is of an earlier run; Q, its request was taken on a shard; O, it is of an earlier run

-- its request was taken somewhere, or it is of an earlier run
abbrev pub SomeRequest : (TxId → ℕ → Type 0) → (TxId → Type 0) → TxId → Type 0
SomeRequest Q O t = ((n : ℕ) × Q t n) ⊎ O t

-- it was taken here, or it is of an earlier run
abbrev pub OwnRequest : (TxId → ℕ → Type 0) → (TxId → Type 0) → ℕ → TxId → Type 0
OwnRequest Q O n t = Q t n ⊎ O t

-- it was taken on another shard, or it is of an earlier run
abbrev pub AwayRequest : (TxId → ℕ → Type 0) → (TxId → Type 0) → ℕ → TxId → Type 0
AwayRequest Q O n t = ((m : ℕ) × (m ≡ n → ⊥) × Q t m) ⊎ O t

pub away_some : (Q : TxId → ℕ → Type 0) (O : TxId → Type 0) (n : ℕ) (t : TxId) → AwayRequest Q O n t → SomeRequest Q O t
away_some Q O n t (inl (m, k, q)) = inl (m, q)
away_some Q O n t (inr o) = inr o

pub own_some : (Q : TxId → ℕ → Type 0) (O : TxId → Type 0) (n : ℕ) (t : TxId) → OwnRequest Q O n t → SomeRequest Q O t
own_some Q O n t (inl q) = inl (n, q)
own_some Q O n t (inr o) = inr o

-- a part that was not restored is of an operation; one that is closed or finished made its request
abbrev pub BirthFrom : (TxId → Birth → Type 0) → Bool → TxId → Birth → Type 0
BirthFrom D true t b = ⊤
BirthFrom D false t b = D t b

abbrev pub StageFrom : (TxId → Type 0) → Bool → TxId → Stage → Type 0
StageFrom R restored t Active = restored ≡ false
StageFrom R restored t Closed = R t
StageFrom R restored t (Gone None) = R t
StageFrom R restored t (Gone (Some d)) = ⊤

abbrev pub PartFrom : (TxId → Birth → Type 0) → (TxId → Type 0) → TxId → Held → Type 0
PartFrom D R t h = BirthFrom D h.is_restored t h.birth × StageFrom R h.is_restored t h.stage

-- a record is of a transaction that was answered here, or that made its request, at the home that it names
abbrev pub CommitFrom : (TxId → ℕ → Type 0) → (TxId → Type 0) → ℕ → TxId → List ℕ → Type 0
CommitFrom Q O n t [] = SomeRequest Q O t
CommitFrom Q O n t (p ∷ ps) = OwnRequest Q O n t

abbrev pub RecordFrom : (TxId → Type 0) → (TxId → ℕ → Type 0) → (TxId → Type 0) → ℕ → LogRecord → Type 0
RecordFrom A Q O n (Update tx key before after) = A tx
RecordFrom A Q O n (Clr tx next key after) = A tx
RecordFrom A Q O n (PrepareRecord tx home ps) = A tx × OwnRequest Q O home tx
RecordFrom A Q O n (Commit tx parts) = CommitFrom Q O n tx parts
RecordFrom A Q O n (Abort tx) = A tx
RecordFrom A Q O n (End tx) = OwnRequest Q O n tx
RecordFrom A Q O n (RestartRecord run epoch) = ⊤
RecordFrom A Q O n (Add tx key by) = A tx
RecordFrom A Q O n (Unadd tx next key by) = A tx
RecordFrom A Q O n Forgotten = ⊤
RecordFrom A Q O n (Check run' epoch' upto base) = ⊤

-- a request that is coordinated here was taken here, and an undecided one in this run
abbrev pub StateFrom : (TxId → ℕ → Type 0) → ℕ → TxId → RequestState → Type 0
StateFrom Q n t Undecided = Q t n
StateFrom Q n t (Committed parts) = ⊤
StateFrom Q n t Finished = ⊤
StateFrom Q n t (Refused cause) = ⊤

abbrev pub RowFrom : (TxId → ℕ → Type 0) → (TxId → Type 0) → ℕ → TxId → Request → Type 0
RowFrom Q O n t q = OwnRequest Q O n t × StateFrom Q n t q.state

-- a Prepare comes of its request at the home, and goes to another shard; so does the word of an abort, and a part that asks is not the home's
abbrev pub MessageFrom : (TxId → ℕ → Type 0) → (TxId → Type 0) → Message → Type 0
MessageFrom Q O (Prepare to tx home seen) = Q tx home × (to ≡ home → ⊥)
MessageFrom Q O (VoteMessage to tx from vote) = ⊤
MessageFrom Q O (Decide to tx home true) = ⊤
MessageFrom Q O (Decide to tx home false) = AwayRequest Q O to tx
MessageFrom Q O (Done to tx from) = ⊤
MessageFrom Q O (Ask to tx from) = AwayRequest Q O from tx

pub record Origins (n ep : ℕ) (D : TxId → Birth → Type 0) (A : TxId → Type 0) (Q : TxId → ℕ → Type 0) (O : TxId → Type 0) (K : TxId → Type 0) (s : Shard) : Type 0 where
  pub shard : s.shard ≡ n
  pub epoch : s.local.epoch ≡ ep
  pub out : AllByRecursion (MessageFrom Q O) s.outbox
  pub voters : AllByRecursion (λ r. AwayRequest Q O n r.0) s.voters
  pub parts : AllByRecursion (λ r. PartFrom D (SomeRequest Q O) r.0 r.1) s.local.parts
  -- whose part is known
  pub known : (t : TxId) → K t → tx_get t s.local.parts ≡ None → ⊥
  pub log : AllByRecursion (RecordFrom A Q O n) s.local.log
  pub requests : AllByRecursion (λ r. RowFrom Q O n r.0 r.1) s.requests

-- ---- parts

-- a part, by its stage
pub part_of : (n ep : ℕ) (D : TxId → Birth → Type 0) (A : TxId → Type 0) (Q : TxId → ℕ → Type 0) (O K : TxId → Type 0) (s : Shard) (t : TxId) (st : Stage) → Origins n ep D A Q O K s → stage_in s.local.parts t ≡ Some st
    → (restored : Bool) × (b : Birth) × BirthFrom D restored t b × StageFrom (SomeRequest Q O) restored t st
part_of n ep D A Q O K s t st p e =
    let r = stage_of_some s.local.parts t st e in
    let q = rows_get (λ x. PartFrom D (SomeRequest Q O) x.0 x.1) t r.0 s.local.parts p.parts r.1 in
    ((r.0).is_restored, (r.0).birth, q.0, subst (StageFrom (SomeRequest Q O) (r.0).is_restored t) r.2 q.1)

gone_rows : (D : TxId → Birth → Type 0) (R : TxId → Type 0) (set : List TxId) (d : Option TxId) (parts : Table Held) → ((t : TxId) (b : Bool) → tx_in t set ≡ true → StageFrom R b t (Gone d))
    → AllByRecursion (λ r. PartFrom D R r.0 r.1) parts → AllByRecursion (λ r. PartFrom D R r.0 r.1) (gone_in set d parts)
gone_rows D R set d [] k a = tt
gone_rows D R set d (r ∷ rs) k a = (at (tx_in r.0 set) refl, gone_rows D R set d rs k a.1)
  where
    at : (b : Bool) → tx_in r.0 set ≡ b → PartFrom D R r.0 (cond b (gone_part d r.1) r.1)
    at true e = ((a.0).0, k r.0 (r.1).is_restored e)
    at false e = a.0

pub none_changed : (o : Option Held) (f : Held → Held) → ◌≡◌ {A = Option Held} (elim o [ Some h ↦ Some (f h) | None ↦ None ]) None → o ≡ None
none_changed None f e = refl
none_changed (Some h) f e = absurd (none_some (f h) (sym e))

pub gone_known : (set : List TxId) (d : Option TxId) (parts : Table Held) (t : TxId) → tx_get t (gone_in set d parts) ≡ None → tx_get t parts ≡ None
gone_known set d parts t e = none_changed (tx_get t parts) (λ h. cond (tx_in t set) (gone_part d h) h) (sym (get_changed (λ u. tx_in u set) (gone_part d) t parts) ∙ e)

-- ---- records

abbrev pub AllFrom : (TxId → Type 0) → (TxId → ℕ → Type 0) → (TxId → Type 0) → ℕ → List LogRecord → Type 0
AllFrom A Q O n log = AllByRecursion (RecordFrom A Q O n) log

pub push_records : (A : TxId → Type 0) (Q : TxId → ℕ → Type 0) (O : TxId → Type 0) (n : ℕ) (xs ys : List LogRecord) → AllFrom A Q O n xs → AllFrom A Q O n ys → AllFrom A Q O n (xs ++ ys)
push_records A Q O n xs ys a b = all_append (RecordFrom A Q O n) xs ys a b

without_all : (A : TxId → Type 0) (t : TxId) (ws : List StandingUpdate) → AllByRecursion (λ w. A w.tx) ws → AllByRecursion (λ w. A w.tx) (without_newest t ws)
without_all A t [] a = tt
without_all A t (w ∷ ws) a = at (tx_same t w.tx) (without_all A t ws a.1)
  where
    at : (b : Bool) → AllByRecursion (λ w. A w.tx) (without_newest t ws) → AllByRecursion (λ w. A w.tx) (cond b ws (w ∷ without_newest t ws))
    at true k = a.1
    at false k = (a.0, k)

standing_all : (A : TxId → Type 0) (Q : TxId → ℕ → Type 0) (O : TxId → Type 0) (n i : ℕ) (rs : List LogRecord) (ws : List StandingUpdate) → AllFrom A Q O n rs → AllByRecursion (λ w. A w.tx) ws → AllByRecursion (λ w. A w.tx) (standing_from i rs ws)
standing_all A Q O n i [] ws a b = b
standing_all A Q O n i (Update tx key before after ∷ rs) ws a b = standing_all A Q O n (suc i) rs _ a.1 (a.0, b)
standing_all A Q O n i (Clr tx next key after ∷ rs) ws a b = standing_all A Q O n (suc i) rs _ a.1 (without_all A tx ws b)
standing_all A Q O n i (PrepareRecord tx home ps ∷ rs) ws a b = standing_all A Q O n (suc i) rs ws a.1 b
standing_all A Q O n i (Commit tx parts ∷ rs) ws a b = standing_all A Q O n (suc i) rs ws a.1 b
standing_all A Q O n i (Abort tx ∷ rs) ws a b = standing_all A Q O n (suc i) rs ws a.1 b
standing_all A Q O n i (End tx ∷ rs) ws a b = standing_all A Q O n (suc i) rs ws a.1 b
standing_all A Q O n i (RestartRecord run epoch ∷ rs) ws a b = standing_all A Q O n (suc i) rs ws a.1 b
standing_all A Q O n i (Add tx key by ∷ rs) ws a b = standing_all A Q O n (suc i) rs _ a.1 (a.0, b)
standing_all A Q O n i (Unadd tx next key by ∷ rs) ws a b = standing_all A Q O n (suc i) rs _ a.1 (without_all A tx ws b)
standing_all A Q O n i (Forgotten ∷ rs) ws a b = standing_all A Q O n (suc i) rs ws a.1 b
standing_all A Q O n i (Check run' epoch' upto base ∷ rs) ws a b = standing_all A Q O n (suc i) rs ws a.1 b

pub clrs_all : (A : TxId → Type 0) (Q : TxId → ℕ → Type 0) (O : TxId → Type 0) (n : ℕ) (gone : StandingUpdate → Bool) (ws : List StandingUpdate) → AllByRecursion (λ w. A w.tx) ws → AllFrom A Q O n (clrs_by gone ws)
clrs_all A Q O n gone [] a = tt
clrs_all A Q O n gone (w ∷ ws) a = at (gone w) w.change (clrs_all A Q O n gone ws a.1)
  where
    at : (b : Bool) (c : Change) → AllFrom A Q O n (clrs_by gone ws) → AllFrom A Q O n (cond b (compensation w.tx (newest_lsn w.tx ws) w.key c ∷ clrs_by gone ws) (clrs_by gone ws))
    at true (Sets before after) k = (a.0, k)
    at true (Adds by) k = (a.0, k)
    at false c k = k

pub wrote_all : (A : TxId → Type 0) (Q : TxId → ℕ → Type 0) (O : TxId → Type 0) (n : ℕ) (rs : List LogRecord) (t : TxId) → AllFrom A Q O n rs → wrote_in rs t ≡ true → A t
wrote_all A Q O n [] t a e = absurd (both_ways false refl e)
wrote_all A Q O n (Update u key before after ∷ rs) t a e = ⊎_elim (λ s. subst A (sym (tx_true t u s)) a.0) (λ s. wrote_all A Q O n rs t a.1 s) (or_cases (tx_same t u) (wrote_in rs t) e)
wrote_all A Q O n (Clr u next key after ∷ rs) t a e = wrote_all A Q O n rs t a.1 e
wrote_all A Q O n (PrepareRecord u home ps ∷ rs) t a e = wrote_all A Q O n rs t a.1 e
wrote_all A Q O n (Commit u parts ∷ rs) t a e = wrote_all A Q O n rs t a.1 e
wrote_all A Q O n (Abort u ∷ rs) t a e = wrote_all A Q O n rs t a.1 e
wrote_all A Q O n (End u ∷ rs) t a e = wrote_all A Q O n rs t a.1 e
wrote_all A Q O n (RestartRecord run epoch ∷ rs) t a e = wrote_all A Q O n rs t a.1 e
wrote_all A Q O n (Add u key by ∷ rs) t a e = ⊎_elim (λ s. subst A (sym (tx_true t u s)) a.0) (λ s. wrote_all A Q O n rs t a.1 s) (or_cases (tx_same t u) (wrote_in rs t) e)
wrote_all A Q O n (Unadd u next key by ∷ rs) t a e = wrote_all A Q O n rs t a.1 e
wrote_all A Q O n (Forgotten ∷ rs) t a e = wrote_all A Q O n rs t a.1 e
wrote_all A Q O n (Check run' epoch' upto base ∷ rs) t a e = wrote_all A Q O n rs t a.1 e

pub aborts_all : (A : TxId → Type 0) (Q : TxId → ℕ → Type 0) (O : TxId → Type 0) (n : ℕ) (log : List LogRecord) (set : List TxId) → AllFrom A Q O n log → AllFrom A Q O n (aborts_of log set)
aborts_all A Q O n log [] a = tt
aborts_all A Q O n log (t ∷ ts) a = at (has_standing log t) refl (aborts_all A Q O n log ts a)
  where
    at : (b : Bool) → has_standing log t ≡ b → AllFrom A Q O n (aborts_of log ts) → AllFrom A Q O n (map (λ u. Abort u) (cond b (t ∷ filter (has_standing log) ts) (filter (has_standing log) ts)))
    at true e k = (wrote_all A Q O n log t a (standing_wrote log t e), k)
    at false e k = k

pub standing_of : (A : TxId → Type 0) (Q : TxId → ℕ → Type 0) (O : TxId → Type 0) (n : ℕ) (log : List LogRecord) → AllFrom A Q O n log → AllByRecursion (λ w. A w.tx) (standing log)
standing_of A Q O n log a = standing_all A Q O n 0 log [] a tt

undone_all : (A : TxId → Type 0) (Q : TxId → ℕ → Type 0) (O : TxId → Type 0) (n : ℕ) (log : List LogRecord) (set : List TxId) → AllFrom A Q O n log → AllFrom A Q O n (log ++ aborts_of log set ++ clrs_of set (standing log))
undone_all A Q O n log set a = push_records A Q O n (log ++ aborts_of log set) (clrs_of set (standing log)) (push_records A Q O n log (aborts_of log set) a (aborts_all A Q O n log set a)) (clrs_all A Q O n (is_of set) (standing log) (standing_of A Q O n log a))

-- ---- changes

pub from_rolled : (n ep : ℕ) (D : TxId → Birth → Type 0) (A : TxId → Type 0) (Q : TxId → ℕ → Type 0) (O K : TxId → Type 0) (s : Shard) (tx : TxId) → Origins n ep D A Q O K s → Origins n ep D A Q O K (with_local (roll_back tx) s)
from_rolled n ep D A Q O K s tx p = record {
  shard = p.shard;
  epoch = p.epoch;
  out = p.out;
  voters = p.voters;
  parts = gone_rows D (SomeRequest Q O) (doomed_here s.local tx) (Some tx) s.local.parts (λ t b i. tt) p.parts;
  known = λ t k e. p.known t k (gone_known (doomed_here s.local tx) (Some tx) s.local.parts t e);
  log = undone_all A Q O n s.local.log (doomed_here s.local tx) p.log;
  requests = p.requests;
}

-- a going back adds CLRs and UNADDs of one that wrote
pub from_back : (n ep : ℕ) (D : TxId → Birth → Type 0) (A : TxId → Type 0) (Q : TxId → ℕ → Type 0) (O K : TxId → Type 0) (s : Shard) (tx : TxId) (i : ℕ) → Origins n ep D A Q O K s → Origins n ep D A Q O K (with_local (roll_to tx i) s)
from_back n ep D A Q O K s tx i p =
    let ws = standing s.local.log in
    let gone = is_at (newest_lsns i tx ws) in
    record {
      shard = p.shard;
      epoch = p.epoch;
      out = p.out;
      voters = p.voters;
      parts = p.parts;
      known = p.known;
      log = push_records A Q O n s.local.log (clrs_by gone ws) p.log (clrs_all A Q O n gone ws (standing_of A Q O n s.local.log p.log));
      requests = p.requests;
    }

pub in_one : (t u : TxId) → tx_in t (u ∷ []) ≡ true → t ≡ u
in_one t u e = ⊎_elim (λ a. sym (tx_true u t a)) (λ a. absurd (both_ways false refl a)) (or_cases (tx_same u t) false e)

pub from_finished : (n ep : ℕ) (D : TxId → Birth → Type 0) (A : TxId → Type 0) (Q : TxId → ℕ → Type 0) (O K : TxId → Type 0) (s : Shard) (tx : TxId) → SomeRequest Q O tx → Origins n ep D A Q O K s → Origins n ep D A Q O K (finish_part tx s)
from_finished n ep D A Q O K s tx r p = record {
  shard = p.shard;
  epoch = p.epoch;
  out = p.out;
  voters = p.voters;
  parts = gone_rows D (SomeRequest Q O) (tx ∷ []) None s.local.parts (λ t b i. subst (SomeRequest Q O) (sym (in_one t tx i)) r) p.parts;
  known = λ t k e. p.known t k (gone_known (tx ∷ []) None s.local.parts t e);
  log = p.log;
  requests = p.requests;
}

pub from_send : (n ep : ℕ) (D : TxId → Birth → Type 0) (A : TxId → Type 0) (Q : TxId → ℕ → Type 0) (O K : TxId → Type 0) (s : Shard) (ms : List Message) → AllByRecursion (MessageFrom Q O) ms → Origins n ep D A Q O K s → Origins n ep D A Q O K (send ms s)
from_send n ep D A Q O K s ms a p =
    record { shard = p.shard; epoch = p.epoch; out = all_append (MessageFrom Q O) s.outbox ms p.out a; voters = p.voters; parts = p.parts; known = p.known; log = p.log; requests = p.requests }

pub from_push : (n ep : ℕ) (D : TxId → Birth → Type 0) (A : TxId → Type 0) (Q : TxId → ℕ → Type 0) (O K : TxId → Type 0) (s : Shard) (r : LogRecord) → RecordFrom A Q O n r → Origins n ep D A Q O K s → Origins n ep D A Q O K (record s { local = record s.local { log = s.local.log ++ r ∷ [] } })
from_push n ep D A Q O K s r a p =
    record { shard = p.shard; epoch = p.epoch; out = p.out; voters = p.voters; parts = p.parts; known = p.known; log = push_records A Q O n s.local.log (r ∷ []) p.log (a, tt); requests = p.requests }

pub row_of : (n ep : ℕ) (D : TxId → Birth → Type 0) (A : TxId → Type 0) (Q : TxId → ℕ → Type 0) (O K : TxId → Type 0) (s : Shard) (tx : TxId) (q : Request) → tx_get tx s.requests ≡ Some q → Origins n ep D A Q O K s → RowFrom Q O n tx q
row_of n ep D A Q O K s tx q e p = rows_get (λ x. RowFrom Q O n x.0 x.1) tx q s.requests p.requests e

pub from_set : (n ep : ℕ) (D : TxId → Birth → Type 0) (A : TxId → Type 0) (Q : TxId → ℕ → Type 0) (O K : TxId → Type 0) (s : Shard) (tx : TxId) (w : Request) → RowFrom Q O n tx w → Origins n ep D A Q O K s → Origins n ep D A Q O K (record s { requests = tx_set tx w s.requests })
from_set n ep D A Q O K s tx w a p =
    record { shard = p.shard; epoch = p.epoch; out = p.out; voters = p.voters; parts = p.parts; known = p.known; log = p.log; requests = rows_set (λ x. RowFrom Q O n x.0 x.1) tx w s.requests a p.requests }

-- ---- rulings

abbrev Ruled : (TxId → ℕ → Type 0) → ℕ → TxId → RequestState → Option Ruling → Type 0
Ruled Q n t st None = ⊤
Ruled Q n t st (Some (CommitVerdict parts)) = StateFrom Q n t Undecided
Ruled Q n t st (Some Acknowledge) = StateFrom Q n t Undecided
Ruled Q n t st (Some (AbortVerdict cause to)) = StateFrom Q n t Undecided × AllByRecursion (λ m. m ≡ n → ⊥) to
Ruled Q n t st (Some EndVerdict) = ⊤

-- a ruling is given: a commit or an acknowledgement only of an undecided request
agreed_rules : (Q : TxId → ℕ → Type 0) (n : ℕ) (t : TxId) (f : PartFacts) (u : Bool) (ps : List ℕ) → Q t n → Ruled Q n t Undecided (agreed_ruling f u ps)
agreed_rules Q n t f u (p ∷ ps) q = q
agreed_rules Q n t f true [] q = q
agreed_rules Q n t f false [] q = at (has_durable_predecessors f)
  where
    at : (b : Bool) → Ruled Q n t Undecided (cond b (Some Acknowledge) None)
    at true = q
    at false = tt

away_shards : (n : ℕ) (test : ℕ → Bool) (ps : List ℕ) → AllByRecursion (λ m. m ≡ n → ⊥) (filter test (filter (λ p. not (p == n)) ps))
away_shards n test [] = tt
away_shards n test (p ∷ ps) = at (p == n) refl (away_shards n test ps)
  where
    tested : (b : Bool) → (p ≡ n → ⊥) → AllByRecursion (λ m. m ≡ n → ⊥) (filter test (filter (λ p. not (p == n)) ps)) → AllByRecursion (λ m. m ≡ n → ⊥) (cond b (p ∷ filter test (filter (λ p. not (p == n)) ps)) (filter test (filter (λ p. not (p == n)) ps)))
    tested true k a = (k, a)
    tested false k a = a

    at : (b : Bool) → (p == n) ≡ b → AllByRecursion (λ m. m ≡ n → ⊥) (filter test (filter (λ p. not (p == n)) ps)) → AllByRecursion (λ m. m ≡ n → ⊥) (filter test (cond (not b) (p ∷ filter (λ p. not (p == n)) ps) (filter (λ p. not (p == n)) ps)))
    at true e a = a
    at false e a = tested (test p) (λ f. both_ways (p == n) e (eq-eqb p n f)) a

refused_rules : (Q : TxId → ℕ → Type 0) (n shard : ℕ) (t : TxId) (q : Request) (o : Option AbortCause) → shard ≡ n → Q t n → Ruled Q n t Undecided (refused_ruling shard q o)
refused_rules Q n shard t q None e k = tt
refused_rules Q n shard t q (Some c) e k = (k, subst (λ z. AllByRecursion (λ m. m ≡ z → ⊥) (open_shards shard q)) e (away_shards shard (λ p. is_open (vote_from p q.votes)) (map (λ t. t.0) q.touched)))

undecided_rules : (Q : TxId → ℕ → Type 0) (n shard : ℕ) (t : TxId) (q : Request) (f : PartFacts) (b : Bool) → shard ≡ n → Q t n → Ruled Q n t Undecided (undecided_ruling shard t q f b)
undecided_rules Q n shard t q f true e k = agreed_rules Q n t f f.updates (yes_shards shard q) k
undecided_rules Q n shard t q f false e k = refused_rules Q n shard t q (refusal t q f) e k

end_rules : (Q : TxId → ℕ → Type 0) (n : ℕ) (t : TxId) (q : Request) (ps parts : List ℕ) → Ruled Q n t (Committed parts) (end_ruling q ps)
end_rules Q n t q [] parts = tt
end_rules Q n t q (p ∷ ps) parts = at _
  where
    at : (b : Bool) → Ruled Q n t (Committed parts) (cond b (Some EndVerdict) None)
    at true = tt
    at false = tt

ruled : (Q : TxId → ℕ → Type 0) (n : ℕ) (s : Shard) (t : TxId) (q : Request) (st : RequestState) → s.shard ≡ n → StateFrom Q n t st → Ruled Q n t st (ruling_in s.shard t q (facts_of s t) st)
ruled Q n s t q Undecided e k = undecided_rules Q n s.shard t q (facts_of s t) (is_agreed s.shard q (facts_of s t)) e k
ruled Q n s t q (Committed parts) e k = end_rules Q n t q parts parts
ruled Q n s t q Finished e k = tt
ruled Q n s t q (Refused c) e k = tt

commit_from : (Q : TxId → ℕ → Type 0) (O : TxId → Type 0) (n : ℕ) (t : TxId) (parts : List ℕ) → Q t n → CommitFrom Q O n t parts
commit_from Q O n t [] q = inl (n, q)
commit_from Q O n t (p ∷ ps) q = inl q

aborts_away : (Q : TxId → ℕ → Type 0) (O : TxId → Type 0) (n shard : ℕ) (tx : TxId) (ms : List ℕ) → Q tx n → AllByRecursion (λ m. m ≡ n → ⊥) ms → AllByRecursion (MessageFrom Q O) (map (λ m. Decide m tx shard false) ms)
aborts_away Q O n shard tx [] q a = tt
aborts_away Q O n shard tx (m ∷ ms) q a = (inl (n, (λ e. a.0 (sym e)), q), aborts_away Q O n shard tx ms q a.1)

from_ruling : (n ep : ℕ) (D : TxId → Birth → Type 0) (A : TxId → Type 0) (Q : TxId → ℕ → Type 0) (O K : TxId → Type 0) (s : Shard) (tx : TxId) (q : Request) (r : Ruling) → RowFrom Q O n tx q → Ruled Q n tx q.state (Some r) → Origins n ep D A Q O K s
    → Origins n ep D A Q O K (do_ruling tx r (with_ruling tx q r s))
from_ruling n ep D A Q O K s tx q (CommitVerdict parts) row k p =
    from_push n ep D A Q O K (with_ruling tx q (CommitVerdict parts) s) (Commit tx parts) (commit_from Q O n tx parts k) (from_set n ep D A Q O K s tx (ruled_request (CommitVerdict parts) q) (row.0, tt) p)
from_ruling n ep D A Q O K s tx q Acknowledge row k p =
    from_finished n ep D A Q O K (with_ruling tx q Acknowledge s) tx (inl (n, k)) (from_set n ep D A Q O K s tx (ruled_request Acknowledge q) (row.0, tt) p)
from_ruling n ep D A Q O K s tx q (AbortVerdict cause to) row k p =
    let a = from_set n ep D A Q O K s tx (ruled_request (AbortVerdict cause to) q) (row.0, tt) p in
    from_send n ep D A Q O K (with_local (roll_back tx) (with_ruling tx q (AbortVerdict cause to) s)) (map (λ m. Decide m tx s.shard false) to) (aborts_away Q O n s.shard tx to k.0 k.1)
    (from_rolled n ep D A Q O K (with_ruling tx q (AbortVerdict cause to) s) tx a)
from_ruling n ep D A Q O K s tx q EndVerdict row k p =
    from_push n ep D A Q O K (with_ruling tx q EndVerdict s) (End tx) row.0 (from_set n ep D A Q O K s tx (ruled_request EndVerdict q) (row.0, row.1) p)

-- ---- what is due

commit_messages_from : (Q : TxId → ℕ → Type 0) (O : TxId → Type 0) (s : Shard) (tx : TxId) (o : Option Request) (v : Option Voter) → AllByRecursion (MessageFrom Q O) (commit_messages s tx o v)
commit_messages_from Q O s tx (Some q) v = at q.state
  where
    at : (st : RequestState) → AllByRecursion (MessageFrom Q O) (elim st [ Committed parts ↦ map (λ p. Decide p tx s.shard true) parts | Undecided ↦ [] | Finished ↦ [] | Refused cause ↦ [] ])
    at Undecided = tt
    at (Committed parts) = all_map _ (λ p. Decide p tx s.shard true) parts (λ p. tt)
    at Finished = tt
    at (Refused cause) = tt
commit_messages_from Q O s tx None (Some v) = (tt, tt)
commit_messages_from Q O s tx None None = tt

from_reader : (n ep : ℕ) (D : TxId → Birth → Type 0) (A : TxId → Type 0) (Q : TxId → ℕ → Type 0) (O K : TxId → Type 0) (s : Shard) (tx : TxId) (vote : Vote) → SomeRequest Q O tx → Origins n ep D A Q O K s → Origins n ep D A Q O K (finish_reader tx vote s)
from_reader n ep D A Q O K s tx Yes r p = p
from_reader n ep D A Q O K s tx Read r p = from_finished n ep D A Q O K s tx r p
from_reader n ep D A Q O K s tx (No why) r p = p

from_due : (n ep : ℕ) (D : TxId → Birth → Type 0) (A : TxId → Type 0) (Q : TxId → ℕ → Type 0) (O K : TxId → Type 0) → KeptByDue (Origins n ep D A Q O K)
from_due n ep D A Q O K s _ (commits tx c d) p =
    let own = part_of n ep D A Q O K s tx Closed p c in
    from_send n ep D A Q O K (finish_part tx s) (commit_messages s tx (tx_get tx s.requests) (tx_get tx s.voters)) (commit_messages_from Q O s tx (tx_get tx s.requests) (tx_get tx s.voters))
    (from_finished n ep D A Q O K s tx own.3 p)
from_due n ep D A Q O K s _ (votes tx v vote g e) p =
    let w = rows_get (λ x. AwayRequest Q O n x.0) tx v s.voters p.voters g in
    let r = away_some Q O n tx w in
    from_reader n ep D A Q O K (with_vote s tx v vote) tx vote r
    (record {
      shard = p.shard;
      epoch = p.epoch;
      out = all_append (MessageFrom Q O) s.outbox (VoteMessage v.home tx s.shard vote ∷ []) p.out (tt, tt);
      voters = rows_set (λ x. AwayRequest Q O n x.0) tx _ s.voters w p.voters;
      parts = p.parts;
      known = p.known;
      log = p.log;
      requests = p.requests;
    })
from_due n ep D A Q O K s _ (rules tx q r g e) p =
    let row = row_of n ep D A Q O K s tx q g p in
    from_ruling n ep D A Q O K s tx q r row (subst (Ruled Q n tx q.state) e (ruled Q n s tx q q.state p.shard row.1)) p

pub from_finish : (n ep : ℕ) (D : TxId → Birth → Type 0) (A : TxId → Type 0) (Q : TxId → ℕ → Type 0) (O K : TxId → Type 0) (s : Shard) → Origins n ep D A Q O K s → Origins n ep D A Q O K (finish s)
from_finish n ep D A Q O K s p =
    let q = settled (Origins n ep D A Q O K) s (from_due n ep D A Q O K) p in
    record { shard = q.shard; epoch = q.epoch; out = q.out; voters = q.voters; parts = q.parts; known = q.known; log = q.log; requests = q.requests }
