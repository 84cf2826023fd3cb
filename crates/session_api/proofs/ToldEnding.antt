-- The entries of a commit.
use Rattle.std.proofs.Common.{◌≡◌, ◌∙◌, refl, sym, ap, subst, ℕ, Bool, true, false, cond, ◌&&◌, ◌==◌, List, [], ◌∷◌, ◌++◌, Option, Some, None, inl, inr, eqb-true}
use Rattle.std.specs.Prelude.{◌⊎◌, ⊤, not}
use Rattle.std.specs.List.{AllByRecursion}
use Rattle.std.proofs.lemmas.Bool.{both_ways, and_parts}
use Rattle.clv_base.specs.declared.names.TxId.{TxId}
use Rattle.clv_base.specs.declared.causes.AbortCause.{AbortCause}
use Rattle.clv_base.specs.declared.events.Event.TheVariants.{Look, Drop}
use Rattle.clv_base.specs.declared.events.Outcome.{Outcome}
use Rattle.clv_base.specs.declared.events.Outcome.TheVariants as out
use Rattle.clv_base.specs.declared.events.Entry.{Entry}
use Rattle.clv_base.specs.Orders.{tx_same}
use Rattle.clv_base.specs.Journals.{History}
use Rattle.clv_base.specs.Sessions.{SessionState, Phase, Touching, Ended, Standing as IsStanding, Told, Refused, may_drop, after_drop, stands_at, looked, session_after}
use Rattle.cluster_turns.specs.States.{after_from}
use Rattle.cluster_turns.specs.CallTurns.{Turn, entry_on, entries_made}
use Rattle.cluster_turns.specs.Answers.{turns_of_session}
use Rattle.session_ops.specs.Dropped.{Drops}
use Rattle.session_ops.specs.Decided.{IsLookOrDrop}
use Rattle.script_runs.specs.Told.{AreDropsOf}
use Rattle.session_api.specs.Seeing.{touched_in}
use Rattle.session_api.proofs.Following.{IsPlain, none_leads, all_so}
use Rattle.session_api.proofs.ToldOperating.{if_some}
use Rattle.session_api.proofs.Pointing.{one_drop}
use Rattle.law_base.proofs.Shards.{some_session as some_same, none_session as none_some}

-- ---- turns behind a request, turn by turn

-- of a session's turns, looks at the request and drops of the other parts
abbrev pub IsBehindIt : TxId → List (ℕ × ℕ) → ℕ → Turn → Type 0
IsBehindIt tx touched n t = (t.event ≡ Look tx) ⊎ Drops tx touched (Some n) t

pub behind_it : (tx : TxId) (touched : List (ℕ × ℕ)) (n : ℕ) (ts : List Turn) → AllByRecursion (IsLookOrDrop tx touched n) ts → AllByRecursion (IsBehindIt tx touched n) (turns_of_session ts)
behind_it tx touched n ts h = all_so (IsBehindIt tx touched n) ts h

-- the transaction is over: it died, or was told of its abort
abbrev pub IsGone : Phase → Type 0
IsGone Touching = ⊥
IsGone Ended = ⊤
IsGone (IsStanding home) = ⊥
IsGone Told = ⊥
IsGone Refused = ⊤

gone_stands : (n : ℕ) (x : Phase) → IsGone x → stands_at n x ≡ false
gone_stands n Touching h = absurd h
gone_stands n Ended h = refl
gone_stands n (IsStanding home) h = absurd h
gone_stands n Told h = absurd h
gone_stands n Refused h = refl

gone_stays : (x : Phase) → IsGone x → after_drop x ≡ x
gone_stays Touching h = absurd h
gone_stays Ended h = refl
gone_stays (IsStanding home) h = refl
gone_stays Told h = refl
gone_stays Refused h = refl

no_look : (splits : List ℕ) (m : ℕ) (u : SessionState) (tx : TxId) (o : Outcome) → stands_at m u.phase ≡ false → session_after splits m u (Look tx) o ≡ None
no_look splits m u tx o not_so = at (tx_same tx u.tx)
  where
    at : (b : Bool) → cond (b && stands_at m u.phase) (looked u o) None ≡ None
    at true = ap (λ c. cond c (looked u o) None) not_so
    at false = refl

dropped_to : (splits : List ℕ) (m : ℕ) (u v : SessionState) (tx : TxId) (o : Outcome) → session_after splits m u (Drop tx) o ≡ Some v → (may_drop u.phase ≡ true) × (v ≡ record u { phase = after_drop u.phase })
dropped_to splits m u v tx o h =
    let k = if_some (tx_same tx u.tx && may_drop u.phase && not ((u.tx).serial == 0)) (Some (record u { phase = after_drop u.phase })) v h in
    ((and_parts _ _ (and_parts _ _ k.0).0).1, sym (some_same (record u { phase = after_drop u.phase }) v k.1))

-- only drops follow, and the phase stays
pub only_drops : (splits : List ℕ) (w n : ℕ) (tx : TxId) (touched : List (ℕ × ℕ)) (u v : SessionState) (ts : List Turn) → IsGone u.phase → AllByRecursion (IsBehindIt tx touched n) ts → AllByRecursion (IsPlain w) ts
    → after_from splits (Some u) (entries_made ts) ≡ Some v → AreDropsOf tx (touched_in touched) (Some n) (entries_made ts) × (v.phase ≡ u.phase)
only_drops splits w n tx touched u v [] gone all plain h = (tt, ap (λ z. z.phase) (sym (some_same u v h)))
only_drops splits w n tx touched u v (t ∷ ts) gone all plain h = at (λ y g. only_drops splits w n tx touched y v ts g all.1 plain.1) t.made refl h
  where
    go_on : ((y : SessionState) → IsGone y.phase → after_from splits (Some y) (entries_made ts) ≡ Some v → AreDropsOf tx (touched_in touched) (Some n) (entries_made ts) × (v.phase ≡ y.phase)) → (x : Entry) → t.made ≡ Some x → Drops tx touched (Some n) t → (m : Option SessionState) → session_after splits t.shard u x.event x.outcome ≡ m → after_from splits m (entries_made ts) ≡ Some v
        → AreDropsOf tx (touched_in touched) (Some n) ((t.shard, x) ∷ entries_made ts) × (v.phase ≡ u.phase)
    go_on again x is d None s k = none_leads splits (entries_made ts) v k
    go_on again x is d (Some y) s k =
        let event = (plain.0.entry x is).1 ∙ d.event in
        let moved = dropped_to splits t.shard u y tx x.outcome (ap (λ e. session_after splits t.shard u e x.outcome) (sym event) ∙ s) in
        let phase : y.phase ≡ u.phase = ap (λ z. z.phase) moved.1 ∙ gone_stays u.phase gone in
        let rest = again y (subst IsGone (sym phase) gone) k in
        ((one_drop w tx touched (Some n) t x d plain.0 is, rest.0), rest.1 ∙ phase)

    made : ((y : SessionState) → IsGone y.phase → after_from splits (Some y) (entries_made ts) ≡ Some v → AreDropsOf tx (touched_in touched) (Some n) (entries_made ts) × (v.phase ≡ y.phase)) → (x : Entry) → t.made ≡ Some x → IsBehindIt tx touched n t → after_from splits (session_after splits t.shard u x.event x.outcome) (entries_made ts) ≡ Some v
        → AreDropsOf tx (touched_in touched) (Some n) ((t.shard, x) ∷ entries_made ts) × (v.phase ≡ u.phase)
    made again x is (inl look) k =
        none_leads splits (entries_made ts) v
        (ap (λ s. after_from splits s (entries_made ts))
        (sym (ap (λ e. session_after splits t.shard u e x.outcome) ((plain.0.entry x is).1 ∙ look) ∙ no_look splits t.shard u tx x.outcome (gone_stands t.shard u.phase gone))) ∙ k)
    made again x is (inr d) k = go_on again x is d (session_after splits t.shard u x.event x.outcome) refl k

    at : ((y : SessionState) → IsGone y.phase → after_from splits (Some y) (entries_made ts) ≡ Some v → AreDropsOf tx (touched_in touched) (Some n) (entries_made ts) × (v.phase ≡ y.phase)) → (m : Option Entry) → t.made ≡ m → after_from splits (Some u) (entry_on t.shard m ++ entries_made ts) ≡ Some v → AreDropsOf tx (touched_in touched) (Some n) (entry_on t.shard m ++ entries_made ts) × (v.phase ≡ u.phase)
    at again None is k = again u gone k
    at again (Some x) is k = made again x is all.0 k

-- nothing follows an acknowledgement
pub nothing_more : (splits : List ℕ) (w n : ℕ) (tx : TxId) (touched : List (ℕ × ℕ)) (u v : SessionState) (ts : List Turn) → u.phase ≡ Told → AllByRecursion (IsBehindIt tx touched n) ts → AllByRecursion (IsPlain w) ts
    → after_from splits (Some u) (entries_made ts) ≡ Some v → (entries_made ts ≡ []) × (v ≡ u)
nothing_more splits w n tx touched u v [] told all plain h = (refl, sym (some_same u v h))
nothing_more splits w n tx touched u v (t ∷ ts) told all plain h = at (nothing_more splits w n tx touched u v ts told all.1 plain.1) t.made refl h
  where
    none : (x : Entry) → t.made ≡ Some x → IsBehindIt tx touched n t → session_after splits t.shard u x.event x.outcome ≡ None
    none x is (inl look) = ap (λ e. session_after splits t.shard u e x.outcome) ((plain.0.entry x is).1 ∙ look) ∙ no_look splits t.shard u tx x.outcome (ap (stands_at t.shard) told)
    none x is (inr d) = by (session_after splits t.shard u x.event x.outcome) refl
      where
        by : (m : Option SessionState) → session_after splits t.shard u x.event x.outcome ≡ m → session_after splits t.shard u x.event x.outcome ≡ None
        by None s = s
        by (Some y) s =
            absurd (both_ways (may_drop u.phase) (ap may_drop told) (dropped_to splits t.shard u y tx x.outcome (ap (λ e. session_after splits t.shard u e x.outcome) (sym ((plain.0.entry x is).1 ∙ d.event)) ∙ s)).0)

    at : (after_from splits (Some u) (entries_made ts) ≡ Some v → (entries_made ts ≡ []) × (v ≡ u)) → (m : Option Entry) → t.made ≡ m → after_from splits (Some u) (entry_on t.shard m ++ entries_made ts) ≡ Some v → (entry_on t.shard m ++ entries_made ts ≡ []) × (v ≡ u)
    at rest None is k = rest k
    at rest (Some x) is k = none_leads splits (entries_made ts) v (ap (λ s. after_from splits s (entries_made ts)) (sym (none x is all.0)) ∙ k)

-- ---- behind a request that stands

-- nothing was told; it was acknowledged; it was told of its abort, and dropped
pub data Behind (n : ℕ) (tx : TxId) (touched : List (ℕ × ℕ)) (x : Phase) : History → Type 0 where
  not_yet : x ≡ IsStanding n → Behind n tx touched x []
  acknowledged : (e : Entry) → e.event ≡ Look tx → e.outcome ≡ out.Acknowledged → x ≡ Told → Behind n tx touched x ((n, e) ∷ [])
  aborted :
      (e : Entry) (cause : AbortCause) (drops : History) → e.event ≡ Look tx → e.outcome ≡ out.Aborted cause → AreDropsOf tx (touched_in touched) (Some n) drops → x ≡ Refused
      → Behind n tx touched x ((n, e) ∷ drops)

looked_to : (splits : List ℕ) (m : ℕ) (u v : SessionState) (tx : TxId) (o : Outcome) → session_after splits m u (Look tx) o ≡ Some v
    → (stands_at m u.phase ≡ true) × (((o ≡ out.Acknowledged) × (v.phase ≡ Told)) ⊎ ((cause : AbortCause) × (o ≡ out.Aborted cause) × (v.phase ≡ Refused)))
looked_to splits m u v tx o h =
    let k = if_some (tx_same tx u.tx && stands_at m u.phase) (looked u o) v h in
    ((and_parts (tx_same tx u.tx) _ k.0).1, at o k.1)
  where
    at : (o : Outcome) → looked u o ≡ Some v → ((o ≡ out.Acknowledged) × (v.phase ≡ Told)) ⊎ ((cause : AbortCause) × (o ≡ out.Aborted cause) × (v.phase ≡ Refused))
    at out.Acknowledged k = inl (refl, ap (λ z. z.phase) (sym (some_same (record u { phase = Told }) v k)))
    at (out.Aborted cause) k = inr (cause, refl, ap (λ z. z.phase) (sym (some_same (record u { phase = Refused }) v k)))
    at o k = none_some v k

pub behind_request : (splits : List ℕ) (w n : ℕ) (tx : TxId) (touched : List (ℕ × ℕ)) (u v : SessionState) (ts : List Turn) → u.phase ≡ IsStanding n → AllByRecursion (IsBehindIt tx touched n) ts → AllByRecursion (IsPlain w) ts
    → after_from splits (Some u) (entries_made ts) ≡ Some v → Behind n tx touched v.phase (entries_made ts)
behind_request splits w n tx touched u v [] stands all plain h = not_yet (ap (λ z. z.phase) (sym (some_same u v h)) ∙ stands)
behind_request splits w n tx touched u v (t ∷ ts) stands all plain h = at (behind_request splits w n tx touched u v ts stands all.1 plain.1) t.made refl h
  where
    there : stands_at t.shard u.phase ≡ true → t.shard ≡ n
    there k = eqb-true t.shard n (ap (stands_at t.shard) (sym stands) ∙ k)

    told : (x : Entry) (y : SessionState) → x.event ≡ Look tx → t.shard ≡ n → ((x.outcome ≡ out.Acknowledged) × (y.phase ≡ Told)) ⊎ ((cause : AbortCause) × (x.outcome ≡ out.Aborted cause) × (y.phase ≡ Refused))
        → after_from splits (Some y) (entries_made ts) ≡ Some v → Behind n tx touched v.phase ((t.shard, x) ∷ entries_made ts)
    told x y event on (inl (o, phase)) k =
        let rest = nothing_more splits w n tx touched y v ts phase all.1 plain.1 k in
        subst (λ es. Behind n tx touched v.phase ((t.shard, x) ∷ es)) (sym rest.0)
        (subst (λ m. Behind n tx touched v.phase ((m, x) ∷ [])) (sym on) (acknowledged x event o (ap (λ z. z.phase) rest.1 ∙ phase)))
    told x y event on (inr (cause, o, phase)) k =
        let rest = only_drops splits w n tx touched y v ts (subst IsGone (sym phase) tt) all.1 plain.1 k in
        subst (λ m. Behind n tx touched v.phase ((m, x) ∷ entries_made ts)) (sym on) (aborted x cause (entries_made ts) event o rest.0 (rest.1 ∙ phase))

    looks : (x : Entry) → x.event ≡ Look tx → (m : Option SessionState) → session_after splits t.shard u (Look tx) x.outcome ≡ m → after_from splits m (entries_made ts) ≡ Some v → Behind n tx touched v.phase ((t.shard, x) ∷ entries_made ts)
    looks x event None s k = none_leads splits (entries_made ts) v k
    looks x event (Some y) s k = let l = looked_to splits t.shard u y tx x.outcome s in told x y event (there l.0) l.1 k

    drops : (x : Entry) → x.event ≡ Drop tx → (m : Option SessionState) → session_after splits t.shard u (Drop tx) x.outcome ≡ m → after_from splits m (entries_made ts) ≡ Some v → Behind n tx touched v.phase ((t.shard, x) ∷ entries_made ts)
    drops x event None s k = none_leads splits (entries_made ts) v k
    drops x event (Some y) s k = absurd (both_ways (may_drop u.phase) (ap may_drop stands) (dropped_to splits t.shard u y tx x.outcome s).0)

    made : (x : Entry) → t.made ≡ Some x → IsBehindIt tx touched n t → after_from splits (session_after splits t.shard u x.event x.outcome) (entries_made ts) ≡ Some v
        → Behind n tx touched v.phase ((t.shard, x) ∷ entries_made ts)
    made x is (inl look) k =
        let event = (plain.0.entry x is).1 ∙ look in
        looks x event (session_after splits t.shard u (Look tx) x.outcome) refl (ap (λ e. after_from splits (session_after splits t.shard u e x.outcome) (entries_made ts)) (sym event) ∙ k)
    made x is (inr d) k =
        let event = (plain.0.entry x is).1 ∙ d.event in
        drops x event (session_after splits t.shard u (Drop tx) x.outcome) refl (ap (λ e. after_from splits (session_after splits t.shard u e x.outcome) (entries_made ts)) (sym event) ∙ k)

    at : (after_from splits (Some u) (entries_made ts) ≡ Some v → Behind n tx touched v.phase (entries_made ts)) → (m : Option Entry) → t.made ≡ m → after_from splits (Some u) (entry_on t.shard m ++ entries_made ts) ≡ Some v → Behind n tx touched v.phase (entry_on t.shard m ++ entries_made ts)
    at rest None is k = rest k
    at rest (Some x) is k = made x is all.0 k
