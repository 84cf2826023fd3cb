-- An entry keeps what a shard knows of homes, and what it sends tells it.
use Rattle.std.proofs.Common.{◌≡◌, inl, inr, ⊎_elim, refl, subst, ℕ, true, false, List, Some, arith}
use Rattle.std.specs.List.{AllByRecursion}
use Rattle.std.specs.Prelude.{⊤, take}
use Rattle.clv_base.specs.declared.names.TxId.{TxId}
use Rattle.clv_base.specs.declared.logs.LogRecord.{LogRecord}
use Rattle.clv_base.specs.declared.messages.Message.{Message}
use Rattle.clv_base.specs.declared.messages.Message.TheVariants.{Prepare, Vote as VoteMessage, Decide, Done, Ask}
use Rattle.clv_base.specs.declared.state.Request.{Request}
use Rattle.clv_base.specs.declared.state.RequestState.{RequestState}
use Rattle.clv_base.specs.declared.state.RequestState.TheVariants.{Undecided, Committed, Finished, Refused}
use Rattle.clv_base.specs.declared.events.Event.{Event}
use Rattle.clv_base.specs.declared.events.Outcome.{Outcome}
use Rattle.clv_base.specs.declared.events.Outcome.TheVariants.{Sent}
use Rattle.clv_base.specs.Logs.{committed_in, is_commit_of}
use Rattle.clv_base.specs.State.{Shard}
use Rattle.clv_base.specs.Events.{finish, put_down, with_durable}
use Rattle.clv_base.specs.Restarts.{revived}
use Rattle.clv_base.specs.Journals.{up_to_restart}
use Rattle.law_base.proofs.Commits.{commit_durable, durable_parts, durable_keeps}
use Rattle.law_base.proofs.Lists.{all_mono}
use Rattle.protocol_laws.proofs.LogOnlyGrows.DueGrowsLogs.{grows_settled}
use Rattle.history_cases.proofs.Stepping.{Step, sends, Happens, finishes, stops}
use Rattle.history_cases.proofs.Entering.{Makes, by_event, by_flush, by_failure, by_restart}
use Rattle.history_cases.proofs.Durability.{Counted, framed_finish}
use Rattle.fate_laws.proofs.Logs.LogOnlyGrows.{inside_self, inside_step}
use Rattle.fate_laws.proofs.Homes.ShardKnowsHomes.{Dead, Tells, Alone, Opens, Homed, words_on, Starts, homed_finish}
use Rattle.fate_laws.proofs.Homes.EventsKeepHomes.{Owes, homed_step, homed_revived}
use Rattle.shard_laws.proofs.Cuts.WhatCutsHold.{taken_there}

-- ---- more is known

tells_mono : (run : ℕ) (A A' Z Z' : TxId → ℕ → Type 0) (K K' : ℕ → TxId → Type 0) (s : Shard) (m : Message) → ((u : TxId) (n : ℕ) → A u n → A' u n) → ((u : TxId) (n : ℕ) → Z u n → Z' u n) → ((n : ℕ) (u : TxId) → K n u → K' n u)
    → Tells run A Z K s m → Tells run A' Z' K' s m
tells_mono run A A' Z Z' K K' s (Prepare to tx home seen) a z k p = λ r. a tx home (p r)
tells_mono run A A' Z Z' K K' s (VoteMessage to tx from vote) a z k p = tt
tells_mono run A A' Z Z' K K' s (Decide to tx home true) a z k p = λ r. let q = p r in (q.0, a tx q.0 q.1, k q.0 tx q.2)
tells_mono run A A' Z Z' K K' s (Decide to tx home false) a z k p = λ r. let q = p r in (q.0, z tx s.shard q.1, q.2)
tells_mono run A A' Z Z' K K' s (Done to tx from) a z k p = tt
tells_mono run A A' Z Z' K K' s (Ask to tx from) a z k p = λ r. a tx to (p r)

alone_mono : (A A' : TxId → ℕ → Type 0) (s : Shard) (tx : TxId) (q : Request) (st : RequestState) → ((u : TxId) (n : ℕ) → A u n → A' u n) → Alone A s tx q st → Alone A' s tx q st
alone_mono A A' s tx q Undecided a p = (a tx s.shard p.0, p.1)
alone_mono A A' s tx q (Committed parts) a p = tt
alone_mono A A' s tx q Finished a p = tt
alone_mono A A' s tx q (Refused cause) a p = (a tx s.shard p.0, p.1)

opens_mono : (A A' : TxId → ℕ → Type 0) (shard : ℕ) (tx : TxId) (st : RequestState) → ((u : TxId) (n : ℕ) → A u n → A' u n) → Opens A shard tx st → Opens A' shard tx st
opens_mono A A' shard tx Undecided a p = a tx shard p
opens_mono A A' shard tx (Committed parts) a p = tt
opens_mono A A' shard tx Finished a p = tt
opens_mono A A' shard tx (Refused cause) a p = tt

pub homed_mono : (run : ℕ) (A A' Z Z' : TxId → ℕ → Type 0) (K K' : ℕ → TxId → Type 0) (D D' : TxId → Type 0) (s : Shard) → ((u : TxId) (n : ℕ) → A u n → A' u n) → ((u : TxId) (n : ℕ) → Z u n → Z' u n) → ((n : ℕ) (u : TxId) → K n u → K' n u)
    → ((u : TxId) → D' u → (u.run ≡ run) × Z' u s.shard × Dead s u) → Homed run A Z K D s → Homed run A' Z' K' D' s
homed_mono run A A' Z Z' K K' D D' s a z k d p = record {
  log = λ u h r. ⊎_elim (λ b. inl (a u s.shard b)) (λ b. inr (b.0, a u b.0 b.1, k b.0 u b.2)) (p.log u h r);
  prepares = λ u x h r. a u x.0 (p.prepares u x h r);
  voters = all_mono (λ r. (r.0).run ≡ run → A r.0 (r.1).home) (λ r. (r.0).run ≡ run → A' r.0 (r.1).home) (λ r f e. a r.0 (r.1).home (f e)) s.voters p.voters;
  requests = λ u q g r. alone_mono A A' s u q q.state a (p.requests u q g r);
  rows = all_mono (λ r. (r.0).run ≡ run → Opens A s.shard r.0 (r.1).state) (λ r. (r.0).run ≡ run → Opens A' s.shard r.0 (r.1).state) (λ r f e. opens_mono A A' s.shard r.0 (r.1).state a (f e)) s.requests p.rows;
  words = record { out = all_mono (Tells run A Z K s) (Tells run A' Z' K' s) (λ m. tells_mono run A A' Z Z' K K' s m a z k) s.outbox (p.words).out; dead = d };
}

-- ---- what is durable stands in the front

pub durable_front : (log : List LogRecord) (d : ℕ) (tx : TxId) → commit_durable log d tx ≡ true → committed_in (take d log) tx ≡ true
durable_front log d tx h = let p = durable_parts log d tx h in taken_there 0 d (is_commit_of tx) log p.0 p.1 (let l = p.2 in omega (arith, l))

-- ---- one entry

-- what it needs: A, K: what was known before it; A', K': what is known after it
pub record Enters (run : ℕ) (A A' : TxId → ℕ → Type 0) (K K' : ℕ → TxId → Type 0) (s t : Shard) (e : Event) (o : Outcome) : Type 0 where
  pub more_asked : (u : TxId) (n : ℕ) → A u n → A' u n
  pub more_durable : (n : ℕ) (u : TxId) → K n u → K' n u
  pub counted : Counted s
  pub now : (u : TxId) → commit_durable s.local.log s.durable u ≡ true → (committed_in s.local.log u ≡ true) × K s.shard u
  pub then_ : (u : TxId) → commit_durable t.local.log t.durable u ≡ true → K' s.shard u
  pub owes : Owes run A' A K' s e o

-- of which an abort was told
abbrev pub ToldDead : ℕ → (TxId → ℕ → Type 0) → Shard → TxId → Type 0
ToldDead run A s tx = (tx.run ≡ run) × A tx s.shard × Dead s tx

starts_at : (run : ℕ) (A A' : TxId → ℕ → Type 0) (K K' : ℕ → TxId → Type 0) (s t : Shard) (e : Event) (o : Outcome) → Enters run A A' K K' s t e o → Starts K' s
starts_at run A A' K K' s t e o w = record { counted = (w.counted).within; now = λ u d. w.more_durable s.shard u (w.now u d).1 }

homed_begins : (run : ℕ) (A A' : TxId → ℕ → Type 0) (K K' : ℕ → TxId → Type 0) (s t : Shard) (e : Event) (o : Outcome) → Enters run A A' K K' s t e o → Homed run A A K (λ tx. ⊥) s → Homed run A' A K' (ToldDead run A s) s
homed_begins run A A' K K' s t e o w p = homed_mono run A A' A A K K' (λ tx. ⊥) (ToldDead run A s) s w.more_asked (λ u n z. z) w.more_durable (λ u d. d) p

homed_ends : (run : ℕ) (A A' : TxId → ℕ → Type 0) (K' : ℕ → TxId → Type 0) (D : TxId → Type 0) (s : Shard) → ((u : TxId) (n : ℕ) → A u n → A' u n) → Homed run A' A K' D s → Homed run A' A' K' D s
homed_ends run A A' K' D s a p = homed_mono run A' A' A A' K' K' D D s (λ u n z. z) a (λ n u z. z) (λ u d. let q = (p.words).dead u d in (q.0, a u s.shard q.1, q.2)) p

homed_event : (run : ℕ) (A A' : TxId → ℕ → Type 0) (K K' : ℕ → TxId → Type 0) (s t : Shard) (e : Event) (o : Outcome) → Happens s e o t → Enters run A A' K K' s t e o → Homed run A A K (λ tx. ⊥) s → Homed run A' A' K' (ToldDead run A s) t
homed_event run A A' K K' s _ e o (finishes {t = x} u h) w p =
    let b = homed_begins run A A' K K' s (finish x) e o w p in
    let c = homed_step run A' A K' (ToldDead run A s) s x w.more_asked (λ v d. let q = w.now v d in (q.0, w.more_durable s.shard v q.1)) h w.owes b in
    homed_finish run A' K' (ToldDead run A s) s x (starts_at run A A' K K' s (finish x) e o w) (record { inside = inside_step s x h; homed = homed_ends run A A' K' (ToldDead run A s) x w.more_asked c })
homed_event run A A' K K' s _ e o (stops u) w p =
    let c = homed_ends run A A' K' (ToldDead run A s) s w.more_asked (homed_begins run A A' K K' s (put_down s) e o w p) in
    record { log = c.log; prepares = c.prepares; voters = c.voters; requests = c.requests; rows = c.rows; words = words_on run A' A' K' (ToldDead run A s) s (put_down s) refl refl (λ v r z d. d) c.words }

homed_flush : (run : ℕ) (A A' : TxId → ℕ → Type 0) (K K' : ℕ → TxId → Type 0) (s : Shard) (n : ℕ) (e : Event) (o : Outcome) → s.flight ≡ Some n → Enters run A A' K K' s (finish (with_durable n s)) e o → Homed run A A K (λ tx. ⊥) s
    → Homed run A' A' K' (ToldDead run A s) (finish (with_durable n s))
homed_flush run A A' K K' s n e o f w p =
    let x = with_durable n s in
    let c = homed_ends run A A' K' (ToldDead run A s) s w.more_asked (homed_begins run A A' K K' s (finish x) e o w p) in
    let d : Homed run A' A' K' (ToldDead run A s) x = record {
      log = c.log;
      prepares = c.prepares;
      voters = c.voters;
      requests = c.requests;
      rows = c.rows;
      words = words_on run A' A' K' (ToldDead run A s) s x refl refl (λ v r z y. y) c.words;
    } in
    let q = (w.counted).flying n f in
    let fr = framed_finish x in
    let g = grows_settled x in
    homed_finish run A' K' (ToldDead run A s) x x
    (record {
      counted = q.1;
      now = λ u h. w.then_ u (subst (λ l. commit_durable l (finish x).durable u ≡ true) g.1 (durable_keeps s.local.log g.0 n (finish x).durable u (let a = fr.durable in omega (arith, a)) h));
    })
    (record { inside = inside_self x; homed = d })

pub homed_made : (run : ℕ) (A A' : TxId → ℕ → Type 0) (K K' : ℕ → TxId → Type 0) (log : List LogRecord) (s t : Shard) (e : Event) (o : Outcome) → Makes log s e o t → Enters run A A' K K' s t e o → Homed run A A K (λ tx. ⊥) s
    → Homed run A' A' K' (ToldDead run A s) t
homed_made run A A' K K' log s t e o (by_event g h) w p = homed_event run A A' K K' s t e o h w p
homed_made run A A' K K' log s _ e o (by_flush n u f) w p = homed_flush run A A' K K' s n e o f w p
homed_made run A A' K K' log s _ e o (by_failure n u f) w p =
    let c = homed_ends run A A' K' (ToldDead run A s) s w.more_asked (homed_begins run A A' K K' s (put_down s) e o w p) in
    record { log = c.log; prepares = c.prepares; voters = c.voters; requests = c.requests; rows = c.rows; words = words_on run A' A' K' (ToldDead run A s) s (put_down s) refl refl (λ v r z d. d) c.words }
homed_made run A A' K K' log s _ e o (by_restart epoch kept u r) w p =
    homed_revived run A' A' K' (ToldDead run A s) s kept epoch (up_to_restart s.run epoch log) r
    (homed_ends run A A' K' (ToldDead run A s) s w.more_asked (homed_begins run A A' K K' s (revived s epoch (up_to_restart s.run epoch log)) e o w p))

-- ---- what it sends

abbrev pub SaysOut : ℕ → (TxId → ℕ → Type 0) → (ℕ → TxId → Type 0) → Shard → Outcome → Type 0
SaysOut run A K s (Sent m) = Tells run A A K s m
SaysOut run A K s _ = ⊤

says_step : (run : ℕ) (A : TxId → ℕ → Type 0) (K : ℕ → TxId → Type 0) (D : TxId → Type 0) (s t : Shard) {e : Event} {o : Outcome} → Step s e o t → Homed run A A K D s → SaysOut run A K s o
says_step run A K D s t (sends m ms g) p = (subst (AllByRecursion (Tells run A A K s)) g (p.words).out).0
says_step run A K D s t _ p = tt

says_event : (run : ℕ) (A : TxId → ℕ → Type 0) (K : ℕ → TxId → Type 0) (D : TxId → Type 0) (s t : Shard) {e : Event} {o : Outcome} → Happens s e o t → Homed run A A K D s → SaysOut run A K s o
says_event run A K D s _ (finishes {t = x} u h) p = says_step run A K D s x h p
says_event run A K D s _ (stops u) p = tt

pub says_made : (run : ℕ) (A : TxId → ℕ → Type 0) (K : ℕ → TxId → Type 0) (D : TxId → Type 0) (log : List LogRecord) (s t : Shard) {e : Event} {o : Outcome} → Makes log s e o t → Homed run A A K D s → SaysOut run A K s o
says_made run A K D log s t (by_event g h) p = says_event run A K D s t h p
says_made run A K D log s _ (by_flush n u f) p = tt
says_made run A K D log s _ (by_failure n u f) p = tt
says_made run A K D log s _ (by_restart epoch kept u r) p = tt
