-- In a log in order, under a write of a prepared transaction lie writes of its own, of committed ones, and of those that its PREPARE lists.
use Rattle.std.proofs.Common.{◌≡◌, ◌⊎◌, inl, inr, ⊎_elim, refl, sym, ap, subst, ◌∙◌, ℕ, ◌+◌, ◌<◌, Bool, true, false, not, ◌&&◌, ◌||◌, List, [], ◌∷◌, ◌++◌, length, Option, Some, None, is_some, eq-eqb}
use Rattle.std.specs.List.{AllByRecursion, list_any, list_all}
use Rattle.std.proofs.lemmas.Bool.{cases_Bool, both_ways, cond_both, or_cases, and_from, not-true, lt-ltb, false_from_ne_true}
use Rattle.clv_base.specs.declared.names.TxId.{TxId}
use Rattle.clv_base.specs.declared.logs.LogRecord.{LogRecord}
use Rattle.clv_base.specs.declared.logs.LogRecord.TheVariants.{Update, Clr, Prepare, Commit, Abort, End, Restart, Add, Unadd, Forgotten, Check}
use Rattle.clv_base.specs.Orders.{tx_same, tx_in}
use Rattle.clv_base.specs.Logs.{StandingUpdate, is_setting, standing, standing_after, without_newest, committed_in, prepared_in, ended_in, wrote_in, commit_parts, is_prepare_of, is_commit_of, is_end_of, is_update_of, in_doubt, is_winner}
use Rattle.clv_base.specs.LogRules.{listed_in, lies_below, has_above, last_restart, has_new_standing, some_parts, part_of, disorder}
use Rattle.clv_base.proofs.SameNames.{or_left, or_right, tx_true, tx_self}
use Rattle.law_base.proofs.Lists.{all_mono, all_both, filter_passes}
use Rattle.law_base.proofs.Standing.{standing_append}
use Rattle.law_base.proofs.Commits.{committed_keeps}
use Rattle.law_base.proofs.Sets.{list_all_at}
use Rattle.protocol_laws.specs.Order.{LieOnThese}
use Rattle.protocol_laws.proofs.LogsInOrder.OneRecordMore.{push_cases, push_same, committed_there}
use Rattle.protocol_laws.proofs.LogsInOrder.StandingUpdatesLie.{Falling}
use Rattle.protocol_laws.proofs.LogsInOrder.{Order, in_order, all_in_order}
use Rattle.shard_laws.proofs.Keeping.ChangesKeepPrepared.{by_prepare, prepare_here, listed_keeps}
use Rattle.shard_laws.proofs.Cuts.WhoIsInDoubt.{Doubted, doubted}
use Rattle.law_base.specs.Coming.{is_let_go, is_bare, may_come_listed, may_come, AllCome}
use Rattle.law_base.proofs.InOrder.{listed_of, through}
use Rattle.law_base.proofs.LetGo.{new_wrote}
use Rattle.law_base.proofs.Parts.{in_order_comes}
use Rattle.law_base.proofs.Restarts.{last_push}
use Rattle.shard_laws.proofs.Order.WhoseWritesStand.{past_some}
use Rattle.shard_laws.proofs.Order.ChangesKeepOrder.{unlisted, listed_same}
use Rattle.std.proofs.lemmas.Bool.{and_parts}
use Rattle.law_base.proofs.Bools.{and_first as front, and_second as last}
use Rattle.law_base.proofs.Logs.{push_left, last_restart_push as last_new}
use Rattle.law_base.proofs.Names.{all_without}

abbrev pub Beneath : List LogRecord → TxId → TxId → Type 0
Beneath log t p = (p ≡ t) ⊎ ((committed_in log p ≡ true) ⊎ (tx_in p (listed_in log t) ≡ true))

abbrev pub LieListed : List LogRecord → List StandingUpdate → Type 0
LieListed log [] = Unit {0}
LieListed log (v ∷ vs) = (prepared_in log v.tx ≡ true → AllByRecursion (λ w. w.key ≡ v.key → (is_setting w.change || is_setting v.change) ≡ true → Beneath log v.tx w.tx) vs) × LieListed log vs

beneath_more : (log : List LogRecord) (r : LogRecord) (t p : TxId) → prepared_in log t ≡ true → Beneath log t p → Beneath (log ++ r ∷ []) t p
beneath_more log r t p e (inl s) = inl s
beneath_more log r t p e (inr (inl c)) = inr (inl (committed_keeps log (r ∷ []) p c))
beneath_more log r t p e (inr (inr l)) = inr (inr (ap (tx_in p) (listed_keeps log (r ∷ []) t e) ∙ l))

more_listed : (log : List LogRecord) (r : LogRecord) → ((t : TxId) → is_prepare_of t r ≡ false) → (ws : List StandingUpdate) → LieListed log ws → LieListed (log ++ r ∷ []) ws
more_listed log r none [] l = tt
more_listed log r none (v ∷ vs) l = (
  (λ p. let old : prepared_in log v.tx ≡ true = push_same (is_prepare_of v.tx) log r (none v.tx) ∙ p in all_mono _ _ (λ w h k q. beneath_more log r v.tx w.tx old (h k q)) vs (l.0 old)),
  more_listed log r none vs l.1,
)

without_listed : (log : List LogRecord) (t : TxId) (ws : List StandingUpdate) → LieListed log ws → LieListed log (without_newest t ws)
without_listed log t [] l = tt
without_listed log t (w ∷ ws) l =
    cond_both (tx_same t w.tx) ws (w ∷ without_newest t ws) (LieListed log) (λ e. l.1) (λ e. ((λ c. all_without _ t ws (l.0 c)), without_listed log t ws l.1))

-- a PREPARE: what lies under its writes is committed or listed
module _ (log : List LogRecord) (tx : TxId) (home : ℕ) (ps : List TxId) (first : prepared_in log tx ≡ false) (all : List StandingUpdate) where
  abbrev Below : StandingUpdate → Type 0
  Below w = (not (tx_same tx w.tx) && has_above tx w all) ≡ true → (committed_in log w.tx || tx_in w.tx ps) ≡ true

  below : (v w : StandingUpdate) → v.tx ≡ tx → list_any (λ u. tx_same tx u.tx && lies_below w u) all ≡ true → Below w → Beneath (log ++ Prepare tx home ps ∷ []) v.tx w.tx
  below v w e a b =
      ⊎_elim (λ s. inl (sym (tx_true tx w.tx s) ∙ sym e))
      (λ s. ⊎_elim (λ c. inr (inl (committed_keeps log (Prepare tx home ps ∷ []) w.tx c)))
      (λ i. inr (inr (subst (λ z. tx_in w.tx (listed_in (log ++ Prepare tx home ps ∷ []) z) ≡ true) (sym e) (ap (λ o. tx_in w.tx (by_prepare o)) (prepare_here log [] tx home ps first) ∙ i))))
      (or_cases (committed_in log w.tx) (tx_in w.tx ps) (b (and_from _ _ (ap not s) a))))
      (cases_Bool (tx_same tx w.tx))

  prepare_listed : (ws : List StandingUpdate) → ((test : StandingUpdate → Bool) → list_any test ws ≡ true → list_any test all ≡ true) → AllByRecursion Below ws → Falling ws → LieListed log ws → LieListed (log ++ Prepare tx home ps ∷ []) ws
  prepare_listed [] part b fall l = tt
  prepare_listed (v ∷ vs) part b fall l = (head, prepare_listed vs (λ test e. part test (or_right (test v) _ e)) b.1 fall.1 l.1)
    where
      passes : (w : StandingUpdate) → v.tx ≡ tx → w.lsn < v.lsn → w.key ≡ v.key → (is_setting w.change || is_setting v.change) ≡ true → (tx_same tx v.tx && lies_below w v) ≡ true
      passes w e low k q = and_from _ _ (subst (λ z. tx_same tx z ≡ true) (sym e) (tx_self tx)) (and_from _ _ (and_from _ _ (eq-eqb v.key w.key (sym k)) (lt-ltb w.lsn v.lsn low)) q)

      head : prepared_in (log ++ Prepare tx home ps ∷ []) v.tx ≡ true → AllByRecursion (λ w. w.key ≡ v.key → (is_setting w.change || is_setting v.change) ≡ true → Beneath (log ++ Prepare tx home ps ∷ []) v.tx w.tx) vs
      head p =
          ⊎_elim (λ old. all_mono _ _ (λ w h k q. beneath_more log (Prepare tx home ps) v.tx w.tx old (h k q)) vs (l.0 old))
          (λ new. let e : v.tx ≡ tx = tx_true v.tx tx new in
          all_mono _ _ (λ w h k q. below v w e (part (λ u. tx_same tx u.tx && lies_below w u) (or_left _ _ (passes w e h.1 k q))) h.0) vs (all_both _ _ vs b.1 fall.0))
          (push_cases (is_prepare_of v.tx) log (Prepare tx home ps) p)

listed_step : (shard : ℕ) (part log : List LogRecord) (r : LogRecord) → Order shard log → may_come shard part log r ≡ true → LieListed log (standing log) → LieListed (log ++ r ∷ []) (standing_after (0 + length log) r (standing log))
listed_step shard part log (Update tx key b a) o m l =
    let unprepared : prepared_in log tx ≡ false = not-true _ (last _ _ (front _ _ (front _ _ (front _ _ (front _ _ (front _ _ (front _ _ m))))))) in
    ((λ p. absurd (both_ways _ unprepared (push_same (is_prepare_of tx) log (Update tx key b a) refl ∙ p))), more_listed log (Update tx key b a) (λ t. refl) (standing log) l)
listed_step shard part log (Clr tx next key a) o m l = without_listed (log ++ Clr tx next key a ∷ []) tx (standing log) (more_listed log (Clr tx next key a) (λ t. refl) (standing log) l)
listed_step shard part log (Prepare tx home ps) o m l =
    prepare_listed log tx home ps (not-true _ (last _ _ (front _ _ (front _ _ (front _ _ (front _ _ m)))))) (standing log) (standing log) (λ test e. e)
    (filter_passes (λ w. committed_in log w.tx || tx_in w.tx ps) (λ w. not (tx_same tx w.tx) && has_above tx w (standing log)) (standing log) (last _ _ m)) (o.writes).falls l
listed_step shard part log (Commit tx parts) o m l = more_listed log (Commit tx parts) (λ t. refl) (standing log) l
listed_step shard part log (Abort tx) o m l = more_listed log (Abort tx) (λ t. refl) (standing log) l
listed_step shard part log (End tx) o m l = more_listed log (End tx) (λ t. refl) (standing log) l
listed_step shard part log (Restart run epoch) o m l = more_listed log (Restart run epoch) (λ t. refl) (standing log) l
listed_step shard part log (Add tx key by) o m l =
    let unprepared : prepared_in log tx ≡ false = not-true _ (last _ _ (front _ _ (front _ _ (front _ _ (front _ _ (front _ _ m)))))) in
    ((λ p. absurd (both_ways _ unprepared (push_same (is_prepare_of tx) log (Add tx key by) refl ∙ p))), more_listed log (Add tx key by) (λ t. refl) (standing log) l)
listed_step shard part log (Unadd tx next key by) o m l = without_listed (log ++ Unadd tx next key by ∷ []) tx (standing log) (more_listed log (Unadd tx next key by) (λ t. refl) (standing log) l)
listed_step shard part log Forgotten o m l = more_listed log Forgotten (λ t. refl) (standing log) l
listed_step shard part log (Check run' epoch' upto base) o m l = more_listed log (Check run' epoch' upto base) (λ t. refl) (standing log) l

pub order_of : (shard : ℕ) (log : List LogRecord) → disorder shard log ≡ None → Order shard log
order_of shard log d = in_order shard log d

pub lie_listed : (shard : ℕ) (log : List LogRecord) → disorder shard log ≡ None → LieListed log (standing log)
lie_listed shard log d =
    through (λ l. LieListed l (standing l)) shard (part_of log)
    (λ l r g p m. subst (LieListed (l ++ r ∷ [])) (sym (standing_append 0 l (r ∷ []) [])) (listed_step shard (part_of log) l r (all_in_order shard (part_of log) l g) m p)) log (in_order_comes shard log d) tt
    (λ run epoch upto base rises. tt)

-- ---- whose writes win lie on those that win

beneath_wins : (shard : ℕ) (log : List LogRecord) (t p : TxId) → Doubted log (in_doubt shard log) t → is_winner shard log t ≡ true → Beneath log t p → is_winner shard log p ≡ true
beneath_wins shard log t p d w (inl s) = subst (λ z. is_winner shard log z ≡ true) (sym s) w
beneath_wins shard log t p d w (inr (inl c)) = or_left _ _ c
beneath_wins shard log t p d w (inr (inr l)) = list_all_at (λ q. committed_in log q || tx_in q (in_doubt shard log)) p (listed_in log t) d.listed l

pub winners_lie : (shard : ℕ) (log : List LogRecord) → Order shard log → (ws : List StandingUpdate) → LieOnThese (committed_in log) ws → LieListed log ws → LieOnThese (is_winner shard log) ws
winners_lie shard log o [] c l = tt
winners_lie shard log o (v ∷ vs) c l = (
  (λ w. ⊎_elim (λ k. all_mono _ _ (λ u h e q. or_left _ _ (h e q)) vs (c.0 k))
      (λ i. let d = doubted shard log v.tx o.sealed i in all_mono _ _ (λ u h e q. beneath_wins shard log v.tx u.tx d w (h e q)) vs (l.0 d.prepared))
      (or_cases (committed_in log v.tx) (tx_in v.tx (in_doubt shard log)) w)),
  winners_lie shard log o vs c.1 l.1,
)

-- ---- more of a log in order

ended_step : (shard : ℕ) (part log : List LogRecord) (r : LogRecord) → may_come shard part log r ≡ true → ((t : TxId) → ended_in log t ≡ true → committed_in log t ≡ true) → (t : TxId) → ended_in (log ++ r ∷ []) t ≡ true → committed_in (log ++ r ∷ []) t ≡ true
ended_step shard part log r m old t e = push_left (is_commit_of t) log r (⊎_elim (λ a. old t a) (λ a. new r m a) (push_cases (is_end_of t) log r e))
  where
    parts_there : (u : TxId) (o : Option (List ℕ)) → commit_parts log u ≡ o → elim o [ Some ps ↦ some_parts ps | None ↦ false ] ≡ true → committed_in log u ≡ true
    parts_there u None f k = absurd (both_ways false refl k)
    parts_there u (Some ps) f k = committed_there log u ps f

    new : (r : LogRecord) → may_come shard part log r ≡ true → is_end_of t r ≡ true → committed_in log t ≡ true
    new (End tx) m a = subst (λ z. committed_in log z ≡ true) (sym (tx_true t tx a)) (parts_there tx (commit_parts log tx) refl (last _ _ m))
    new _ m a = absurd (both_ways false refl a)

pub ended_committed : (shard : ℕ) (log : List LogRecord) → disorder shard log ≡ None → (t : TxId) → ended_in log t ≡ true → committed_in log t ≡ true
ended_committed shard log d =
    through (λ l. (t : TxId) → ended_in l t ≡ true → committed_in l t ≡ true) shard (part_of log) (λ l r g p m. ended_step shard (part_of log) l r m p) log (in_order_comes shard log d) (λ t e. absurd (both_ways false refl e))
    (λ run epoch upto base rises t e. absurd (both_ways false refl e))

restart_step : (shard : ℕ) (part log : List LogRecord) (r : LogRecord) → may_come shard part log r ≡ true → ((t : TxId) → wrote_in log t ≡ true → is_some (last_restart log) ≡ true) → (t : TxId) → wrote_in (log ++ r ∷ []) t ≡ true → is_some (last_restart (log ++ r ∷ [])) ≡ true
restart_step shard part log (Restart run epoch) m old t e = ap is_some (last_new log run epoch)
restart_step shard part log (Update tx key b a) m old t e =
    ap is_some (last_push log (Update tx key b a) tt) ∙ past_some tx (last_restart log) (front _ _ (front _ _ (front _ _ (front _ _ (front _ _ (front _ _ (front _ _ (front _ _ m))))))))
restart_step shard part log (Clr tx next key a) m old t e = ap is_some (last_push log (Clr tx next key a) tt) ∙ old t (push_same (is_update_of t) log (Clr tx next key a) refl ∙ e)
restart_step shard part log (Prepare tx home ps) m old t e = ap is_some (last_push log (Prepare tx home ps) tt) ∙ old t (push_same (is_update_of t) log (Prepare tx home ps) refl ∙ e)
restart_step shard part log (Commit tx parts) m old t e = ap is_some (last_push log (Commit tx parts) tt) ∙ old t (push_same (is_update_of t) log (Commit tx parts) refl ∙ e)
restart_step shard part log (Abort tx) m old t e = ap is_some (last_push log (Abort tx) tt) ∙ old t (push_same (is_update_of t) log (Abort tx) refl ∙ e)
restart_step shard part log (End tx) m old t e = ap is_some (last_push log (End tx) tt) ∙ old t (push_same (is_update_of t) log (End tx) refl ∙ e)
restart_step shard part log (Add tx key by) m old t e =
    ap is_some (last_push log (Add tx key by) tt) ∙ past_some tx (last_restart log) (front _ _ (front _ _ (front _ _ (front _ _ (front _ _ (front _ _ (front _ _ m)))))))
restart_step shard part log (Unadd tx next key by) m old t e = ap is_some (last_push log (Unadd tx next key by) tt) ∙ old t (push_same (is_update_of t) log (Unadd tx next key by) refl ∙ e)
restart_step shard part log Forgotten m old t e = ap is_some (last_push log Forgotten tt) ∙ old t (push_same (is_update_of t) log Forgotten refl ∙ e)
restart_step shard part log (Check run' epoch' upto base) m old t e = absurd cc

pub wrote_restart : (shard : ℕ) (log : List LogRecord) → disorder shard log ≡ None → (t : TxId) → wrote_in log t ≡ true → is_some (last_restart log) ≡ true
wrote_restart shard log d =
    through (λ l. (t : TxId) → wrote_in l t ≡ true → is_some (last_restart l) ≡ true) shard (part_of log) (λ l r g p m. restart_step shard (part_of log) l r m p) log (in_order_comes shard log d) (λ t e. absurd (both_ways false refl e))
    (λ run epoch upto base rises t e. absurd (both_ways false refl e))

-- who is prepared wrote, or is committed in what a checkpoint kept
prepared_step : (shard : ℕ) (part log : List LogRecord) (r : LogRecord) → may_come shard part log r ≡ true → ((t : TxId) → prepared_in log t ≡ true → (wrote_in log t ≡ true) ⊎ (committed_in part t ≡ true)) → (t : TxId) → prepared_in (log ++ r ∷ []) t ≡ true
    → (wrote_in (log ++ r ∷ []) t ≡ true) ⊎ (committed_in part t ≡ true)
prepared_step shard part log r m old t e = ⊎_elim (λ w. inl (push_left (is_update_of t) log r w)) (λ c. inr c) (⊎_elim (λ a. old t a) (λ a. new r m a) (push_cases (is_prepare_of t) log r e))
  where
    new : (r : LogRecord) → may_come shard part log r ≡ true → is_prepare_of t r ≡ true → (wrote_in log t ≡ true) ⊎ (committed_in part t ≡ true)
    new (Prepare tx home ps) m a =
        subst (λ z. (wrote_in log z ≡ true) ⊎ (committed_in part z ≡ true)) (sym (tx_true t tx a))
        (⊎_elim (λ n. inl (new_wrote log tx n)) (λ b. inr (bare ps b)) (or_cases (has_new_standing log tx) (is_bare part log tx ps) (last _ _ (front _ _ (front _ _ (front _ _ (front _ _ (front _ _ m))))))))
      where
        bare : (qs : List TxId) → is_bare part log tx qs ≡ true → committed_in part tx ≡ true
        bare [] b = front _ _ b
        bare (q ∷ qs) b = absurd (both_ways false refl b)
    new _ m a = absurd (both_ways false refl a)

pub prepared_wrote : (shard : ℕ) (log : List LogRecord) → disorder shard log ≡ None → (t : TxId) → prepared_in log t ≡ true → (wrote_in log t ≡ true) ⊎ (committed_in (part_of log) t ≡ true)
prepared_wrote shard log d =
    through (λ l. (t : TxId) → prepared_in l t ≡ true → (wrote_in l t ≡ true) ⊎ (committed_in (part_of log) t ≡ true)) shard (part_of log) (λ l r g p m. prepared_step shard (part_of log) l r m p) log (in_order_comes shard log d)
    (λ t e. absurd (both_ways false refl e)) (λ run epoch upto base rises t e. absurd (both_ways false refl e))

-- a PREPARE lists others
abbrev ListsOthers : List LogRecord → Type 0
ListsOthers log = (t p : TxId) → tx_in p (listed_in log t) ≡ true → tx_same p t ≡ false

others_step : (shard : ℕ) (part log : List LogRecord) (r : LogRecord) → may_come shard part log r ≡ true → ListsOthers log → ListsOthers (log ++ r ∷ [])
others_step shard part log r m old t p i =
    ⊎_elim (λ a. old t p (ap (tx_in p) (sym (listed_keeps log (r ∷ []) t a)) ∙ i))
    (λ a. ⊎_elim (λ b. new r m i a (⊎_elim (λ c. absurd (both_ways _ a c)) (λ c. c) (push_cases (is_prepare_of t) log r b))) (λ b. absurd (both_ways false refl (subst (λ l. tx_in p l ≡ true) (unlisted (log ++ r ∷ []) t b) i))) (cases_Bool (prepared_in (log ++ r ∷ []) t)))
    (cases_Bool (prepared_in log t))
  where
    each : (tx : TxId) (ps : List TxId) → list_all (may_come_listed part log tx) ps ≡ true → tx_in p ps ≡ true → tx_same p tx ≡ false
    each tx ps a j = not-true (tx_same p tx) (and_parts (not (tx_same p tx)) _ (list_all_at (may_come_listed part log tx) p ps a j)).0

    new : (r : LogRecord) → may_come shard part log r ≡ true → tx_in p (listed_in (log ++ r ∷ []) t) ≡ true → prepared_in log t ≡ false → is_prepare_of t r ≡ true → tx_same p t ≡ false
    new (Prepare tx home ps) m j none s =
        let e = tx_true t tx s in
        subst (λ z. tx_same p z ≡ false) (sym e) (each tx ps (last _ _ (front _ _ m))
        (ap (λ o. tx_in p (by_prepare o)) (sym (prepare_here log [] tx home ps (subst (λ z. prepared_in log z ≡ false) e none))) ∙ subst (λ z. tx_in p (listed_in (log ++ Prepare tx home ps ∷ []) z) ≡ true) e j))
    new _ m j none s = absurd (both_ways false refl s)

pub all_others : (shard : ℕ) (part log : List LogRecord) → AllCome shard part log → (t p : TxId) → tx_in p (listed_in log t) ≡ true → tx_same p t ≡ false
all_others shard part log f =
    through ListsOthers shard part (λ l r g p m. others_step shard part l r m p) log f (λ t p i. absurd (both_ways false refl i)) (λ run epoch upto base rises t p i. absurd (both_ways false refl i))

pub lists_others : (shard : ℕ) (log : List LogRecord) → disorder shard log ≡ None → (t p : TxId) → tx_in p (listed_in log t) ≡ true → tx_same p t ≡ false
lists_others shard log d = all_others shard (part_of log) log (in_order_comes shard log d)

-- whom a PREPARE lists is prepared, or was let go
each_prepared : (shard : ℕ) (part log : List LogRecord) (r : LogRecord) → may_come shard part log r ≡ true → ((t p : TxId) → tx_in p (listed_in log t) ≡ true → (prepared_in log p ≡ true) ⊎ (is_let_go part p ≡ true)) → (t p : TxId)
    → tx_in p (listed_in (log ++ r ∷ []) t) ≡ true → (prepared_in (log ++ r ∷ []) p ≡ true) ⊎ (is_let_go part p ≡ true)
each_prepared shard part log r m old t p i =
    ⊎_elim (λ k. inl (push_left (is_prepare_of p) log r k)) (λ g. inr g)
    (⊎_elim (λ a. old t p (ap (tx_in p) (sym (listed_keeps log (r ∷ []) t a)) ∙ i))
    (λ a. ⊎_elim (λ b. new r m i a (⊎_elim (λ c. absurd (both_ways _ a c)) (λ c. c) (push_cases (is_prepare_of t) log r b))) (λ b. absurd (both_ways false refl (subst (λ l. tx_in p l ≡ true) (unlisted (log ++ r ∷ []) t b) i))) (cases_Bool (prepared_in (log ++ r ∷ []) t)))
    (cases_Bool (prepared_in log t)))
  where
    each : (tx : TxId) (ps : List TxId) → list_all (may_come_listed part log tx) ps ≡ true → tx_in p ps ≡ true → (prepared_in log p ≡ true) ⊎ (is_let_go part p ≡ true)
    each tx ps a j = ⊎_elim (λ k. inl k) (λ g. inr g.0) (listed_of part log tx p (list_all_at (may_come_listed part log tx) p ps a j))

    new : (r : LogRecord) → may_come shard part log r ≡ true → tx_in p (listed_in (log ++ r ∷ []) t) ≡ true → prepared_in log t ≡ false → is_prepare_of t r ≡ true → (prepared_in log p ≡ true) ⊎ (is_let_go part p ≡ true)
    new (Prepare tx home ps) m j none s =
        let e = tx_true t tx s in
        each tx ps (last _ _ (front _ _ m))
        (ap (λ o. tx_in p (by_prepare o)) (sym (prepare_here log [] tx home ps (subst (λ z. prepared_in log z ≡ false) e none))) ∙ subst (λ z. tx_in p (listed_in (log ++ Prepare tx home ps ∷ []) z) ≡ true) e j)
    new _ m j none s = absurd (both_ways false refl s)

pub all_listed : (shard : ℕ) (part log : List LogRecord) → AllCome shard part log → (t p : TxId) → tx_in p (listed_in log t) ≡ true → (prepared_in log p ≡ true) ⊎ (is_let_go part p ≡ true)
all_listed shard part log f =
    through (λ l. (t p : TxId) → tx_in p (listed_in l t) ≡ true → (prepared_in l p ≡ true) ⊎ (is_let_go part p ≡ true)) shard part (λ l r g h m. each_prepared shard part l r m h) log f
    (λ t p i. absurd (both_ways false refl i)) (λ run epoch upto base rises t p i. absurd (both_ways false refl i))

-- whom a committed one lists is committed
commit_step : (shard : ℕ) (part log : List LogRecord) (r : LogRecord) → may_come shard part log r ≡ true → ((t p : TxId) → committed_in log t ≡ true → tx_in p (listed_in log t) ≡ true → committed_in log p ≡ true) → (t p : TxId) → committed_in (log ++ r ∷ []) t ≡ true → tx_in p (listed_in (log ++ r ∷ []) t) ≡ true → committed_in (log ++ r ∷ []) p ≡ true
commit_step shard part log r m old t p c i = push_left (is_commit_of p) log r (at r m c i)
  where
    not_new : (tx : TxId) → tx_same t tx ≡ true → committed_in log tx ≡ false → committed_in log t ≡ true → ⊥
    not_new tx s n e = both_ways _ n (subst (λ z. committed_in log z ≡ true) (tx_true t tx s) e)

    was : (q : LogRecord) → is_commit_of t q ≡ false → committed_in (log ++ q ∷ []) t ≡ true → committed_in log t ≡ true
    was q n e = push_same (is_commit_of t) log q n ∙ e

    same : (q : LogRecord) → is_prepare_of t q ≡ false → tx_in p (listed_in (log ++ q ∷ []) t) ≡ true → tx_in p (listed_in log t) ≡ true
    same q n e = ap (tx_in p) (sym (listed_same log (q ∷ []) t (ap (λ b. b || false) n))) ∙ e

    at : (q : LogRecord) → may_come shard part log q ≡ true → committed_in (log ++ q ∷ []) t ≡ true → tx_in p (listed_in (log ++ q ∷ []) t) ≡ true → committed_in log p ≡ true
    at (Commit tx parts) m c i =
        ⊎_elim (λ o. old t p o (same (Commit tx parts) refl i))
        (λ n. list_all_at (committed_in log) p (listed_in log tx) (last _ _ (front _ _ (front _ _ (front _ _ m)))) (subst (λ z. tx_in p (listed_in log z) ≡ true) (tx_true t tx n) (same (Commit tx parts) refl i)))
        (push_cases (is_commit_of t) log (Commit tx parts) c)
    at (Prepare tx home ps) m c i =
        let d = was (Prepare tx home ps) refl c in
        old t p d (same (Prepare tx home ps) (false_from_ne_true _ (λ s. not_new tx s (not-true _ (last _ _ (front _ _ (front _ _ (front _ _ m))))) d)) i)
    at (Update tx k b a) m c i = old t p (was (Update tx k b a) refl c) (same (Update tx k b a) refl i)
    at (Clr tx u k a) m c i = old t p (was (Clr tx u k a) refl c) (same (Clr tx u k a) refl i)
    at (Abort tx) m c i = old t p (was (Abort tx) refl c) (same (Abort tx) refl i)
    at (End tx) m c i = old t p (was (End tx) refl c) (same (End tx) refl i)
    at (Restart run e) m c i = old t p (was (Restart run e) refl c) (same (Restart run e) refl i)
    at (Add tx k by) m c i = old t p (was (Add tx k by) refl c) (same (Add tx k by) refl i)
    at (Unadd tx u k by) m c i = old t p (was (Unadd tx u k by) refl c) (same (Unadd tx u k by) refl i)
    at Forgotten m c i = old t p (was Forgotten refl c) (same Forgotten refl i)
    at (Check run' epoch' upto base) m c i = old t p (was (Check run' epoch' upto base) refl c) (same (Check run' epoch' upto base) refl i)

pub committed_lists : (shard : ℕ) (log : List LogRecord) → disorder shard log ≡ None → (t p : TxId) → committed_in log t ≡ true → tx_in p (listed_in log t) ≡ true → committed_in log p ≡ true
committed_lists shard log d =
    through (λ l. (t p : TxId) → committed_in l t ≡ true → tx_in p (listed_in l t) ≡ true → committed_in l p ≡ true) shard (part_of log) (λ l r g p m. commit_step shard (part_of log) l r m p) log (in_order_comes shard log d)
    (λ t p c i. absurd (both_ways false refl c)) (λ run epoch upto base rises t p c i. absurd (both_ways false refl c))
