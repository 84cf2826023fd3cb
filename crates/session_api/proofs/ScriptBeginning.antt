-- Beginnings and other tries, as whoever runs a script is told of them.
use Rattle.std.proofs.Common.{◌≡◌, ◌≢◌, ◌∙◌, refl, sym, ap, subst, Option, Some, Result, Ok, Err}
use Rattle.std.specs.Prelude.{IfErr, OnOk}
use Rattle.clv_base.specs.declared.names.TxId.{TxId}
use Rattle.clv_base.specs.declared.names.Birth.{Birth}
use Rattle.clv_base.specs.declared.names.Point.{Point}
use Rattle.clv_base.specs.Sessions.{SessionState, begun}
use Rattle.cluster_turns.specs.declared.shards.Shards.{Shards}
use Rattle.cluster_turns.specs.declared.shards.Walker.{Walker}
use Rattle.script_runs.specs.declared.ends.StopCause.{StopCause}
use Rattle.script_lang.specs.Savepoints.{no_savepoints}
use Rattle.script_runs.specs.Seen.{Standing, Idle, going_at_start}
use Rattle.script_runs.specs.Told.{Begins, BeginTold, RetryTold}
use Rattle.session_api.specs.declared.progress.Progress.{Progress}
use Rattle.session_api.specs.declared.progress.Progress.TheVariants as progress
use Rattle.session_api.specs.declared.beginning.BeginError.{BeginError}
use Rattle.session_api.specs.declared.beginning.BeginError.TheVariants as begin
use Rattle.session_api.specs.declared.retrying.RetryError.{RetryError}
use Rattle.session_api.specs.declared.retrying.RetryError.TheVariants as retry
use Rattle.session_api.specs.Sessions.{IsSession, BegunNext, BeginCalled, RetriedNext, RetryCalled}
use Rattle.session_api.specs.Seeing.{seen_as, is_active}
use Rattle.session_api.specs.Savepoints.{going_of}
use Rattle.session_api.proofs.Leaving.{beginnings_tell, retries_tell}
use Rattle.session_api.specs.Standing.{Holds, active_as, standing_of, seen_in}
use Rattle.session_api.specs.Grounds.{Grounds}
use Rattle.session_api.specs.Ends.{BeginEnds, RetryEnds}
use Rattle.session_api.proofs.Standings.{unasked_born, never_idle, asked_idle, idle_again, none_again, stays_grown, worn_still}
use Rattle.session_api.proofs.Taking.{HoldsOn, held_so}

-- the transaction has written nothing so far, and has no savepoint
abbrev pub GoesAtStart : Progress → Type 0
GoesAtStart t = going_of t no_savepoints ≡ Some going_at_start

at_start : (last p : SessionState) (t : Progress) (tx : TxId) (birth : Birth) → t ≡ progress.Active p → p ≡ begun last tx birth → GoesAtStart t
at_start last p t tx birth then is = ap (λ x. going_of x no_savepoints) then ∙ ap (λ ws. Some (record { saves = no_savepoints; written = ws })) (ap (λ z. z.written) is)

module _ {M S G : Type 0} (sh : Shards M S G) (asked : Point) where
  -- what a beginning leaves, tells, and is stopped by
  abbrev pub BeginDone : Walker M S G → Progress → Result Unit StopCause → Shards M S G → Walker M S G → Progress → Type 0
  BeginDone w s e after v t = HoldsOn sh w after v t × BeginTold e (seen_in sh w asked s) (seen_in after v asked t) × IfErr e (Grounds v) × OnOk e (GoesAtStart t)

  -- ---- where none is active

  begun_next : (w v : Walker M S G) (s t : Progress) (again : Option Birth) (r : Result TxId BeginError) → Holds sh w s → standing_of s ≡ Idle again → BeginCalled sh w s r v t → BegunNext sh w s r v t
  begun_next w v progress.Idle t again r h idle c = c
  begun_next w v (progress.Active p) t again r h idle c = let b = ((h.session).stands).born in never_idle p p.birth b.birth again b.is idle
  begun_next w v (progress.Worn p) t again r h idle c = let b = unasked_born sh w p ((h.session).stands).0 in never_idle p p.birth b.birth again b.is idle
  begun_next w v (progress.Undone p n upto) t again r h idle c = let b = (((h.session).stands).0).born in never_idle p p.birth b.birth again b.is idle
  begun_next w v (progress.Asked p home stamp) t again r h idle c = c
  begun_next w v (progress.Ended p) t again r h idle c = c

  none_active : (w v : Walker M S G) (s t : Progress) (r : Result TxId BeginError) (tx : TxId) → BegunNext sh w s r v t → r ≢ Err (begin.Active tx)
  none_active w v s t r tx c is = subst (λ x. BegunNext sh w s x v t) is c

  pub begin_alone : (w v : Walker M S G) (s t : Progress) (r : Result TxId BeginError) → Holds sh w s → (again : Option Birth) × (standing_of s ≡ Idle again) → BeginCalled sh w s r v t → (tx : TxId) → r ≢ Err (begin.Active tx)
  begin_alone w v s t r h idle c tx = none_active w v s t r tx (begun_next w v s t idle.0 r h idle.1 c)

  begins_as : (w v : Walker M S G) (s t : Progress) (birth : Birth) (st su : Standing) → standing_of s ≡ st → standing_of t ≡ su → Begins birth (seen_as sh w asked st) (seen_as sh v asked su) → Begins birth (seen_in sh w asked s) (seen_in sh v asked t)
  begins_as w v s t birth st su is same b = subst (λ x. Begins birth (seen_as sh w asked x) (seen_in sh v asked t)) (sym is) (subst (λ x. Begins birth (seen_as sh w asked st) (seen_as sh v asked x)) (sym same) b)

  began : (w v : Walker M S G) (s t : Progress) (again : Option Birth) (r : Result TxId BeginError) (e : Result Unit StopCause) → Holds sh w s → standing_of s ≡ Idle again → BegunNext sh w s r v t → IsSession sh v t → BeginEnds r e → BeginDone w s e sh v t
  began w v s t again (Ok tx) e h idle c session ends =
      let b = (c.1).1 in
      let k = beginnings_tell M S G sh w v asked (c.1).0 again b in
      subst (λ x. BeginDone w s x sh v t) (sym ends) (
        held_so sh w v s t h session (ap (λ z. z.number) b.walker_is) (ap (λ z. z.passes.items) b.walker_is),
        (k.0, k.2, k.3, k.4, begins_as w v s t k.0 (Idle again) (is_active (c.1).0 k.0) idle (ap standing_of (c.1).3 ∙ ap (active_as (c.1).0) k.1) k.5),
        tt,
        at_start (c.1).0 (c.1).0 t _ b.birth (c.1).3 (b.is (c.1).0),
      )
  began w v s t again (Err (begin.Worn at)) e h idle c session ends =
      subst (λ x. BeginDone w s x sh v t) (sym ends) (
        held_so sh w v s t h session (ap (λ z. z.number) c.2) (ap (λ z. z.passes.items) c.2),
        stays_grown sh w v asked s t c.2 c.3,
        (c.0, worn_still w v c.2 c.1),
        tt,
      )
  began w v s t again (Err (begin.Active tx)) e h idle c session ends = absurd c

  pub begin_done : (after : Shards M S G) (w v : Walker M S G) (s t : Progress) (r : Result TxId BeginError) (e : Result Unit StopCause) → after ≡ sh → Holds sh w s → (again : Option Birth) × (standing_of s ≡ Idle again) → BeginCalled sh w s r v t → IsSession after v t
      → BeginEnds r e → BeginDone w s e after v t
  begin_done after w v s t r e same h idle c session ends =
      subst (λ x. BeginDone w s e x v t) (sym same) (began w v s t idle.0 r e h idle.1 (begun_next w v s t idle.0 r h idle.1 c) (subst (λ x. IsSession x v t) same session) ends)

  -- ---- where the last one ended by an abort

  abbrev pub RetryDone : Walker M S G → Progress → Result Unit StopCause → Shards M S G → Walker M S G → Progress → Type 0
  RetryDone w s e after v t = HoldsOn sh w after v t × ((birth : Birth) → standing_of s ≡ Idle (Some birth) → RetryTold birth e (seen_in sh w asked s) (seen_in after v asked t)) × IfErr e (Grounds v) × OnOk e (GoesAtStart t)

  -- it is this one
  abbrev pub LastIs : Walker M S G → Progress → Birth → Result TxId RetryError → Walker M S G → Progress → Type 0
  LastIs w s birth r v t = (last : SessionState) × (s ≡ progress.Ended last) × (last.birth ≡ Some birth) × RetriedNext sh w last r v t

  last_is : (w v : Walker M S G) (s t : Progress) (birth : Birth) (r : Result TxId RetryError) → Holds sh w s → standing_of s ≡ Idle (Some birth) → RetryCalled sh w s r v t → LastIs w s birth r v t
  last_is w v progress.Idle t birth r h idle c = none_again birth idle
  last_is w v (progress.Active p) t birth r h idle c = let b = ((h.session).stands).born in never_idle p p.birth b.birth (Some birth) b.is idle
  last_is w v (progress.Worn p) t birth r h idle c = let b = unasked_born sh w p ((h.session).stands).0 in never_idle p p.birth b.birth (Some birth) b.is idle
  last_is w v (progress.Undone p n upto) t birth r h idle c = let b = (((h.session).stands).0).born in never_idle p p.birth b.birth (Some birth) b.is idle
  last_is w v (progress.Asked p home stamp) t birth r h idle c = asked_idle (Some birth) idle
  last_is w v (progress.Ended p) t birth r h idle c = (p, refl, idle_again p.birth (Some birth) idle, c)

  none_refused : (w v : Walker M S G) (last : SessionState) (t : Progress) (r : Result TxId RetryError) → RetriedNext sh w last r v t → ((tx : TxId) → r ≢ Err (retry.Active tx)) × (r ≢ Err retry.NoRetry)
  none_refused w v last t r c = (λ tx is. subst (λ x. RetriedNext sh w last x v t) is c, λ is. subst (λ x. RetriedNext sh w last x v t) is c)

  pub retry_alone : (w v : Walker M S G) (s t : Progress) (r : Result TxId RetryError) → Holds sh w s → (birth : Birth) × (standing_of s ≡ Idle (Some birth)) → RetryCalled sh w s r v t → ((tx : TxId) → r ≢ Err (retry.Active tx)) × (r ≢ Err retry.NoRetry)
  retry_alone w v s t r h ended c = let k = last_is w v s t ended.0 r h ended.1 c in none_refused w v k.0 t r k.3

  tried_again : (w v : Walker M S G) (s t : Progress) (last : SessionState) (r : Result TxId RetryError) (e : Result Unit StopCause) → Holds sh w s → s ≡ progress.Ended last → RetriedNext sh w last r v t → IsSession sh v t → RetryEnds r e
      → RetryDone w s e sh v t
  tried_again w v s t last (Ok tx) e h is c session ends =
      let b = (c.1).1 in
      subst (λ x. RetryDone w s x sh v t) (sym ends) (
        held_so sh w v s t h session (ap (λ z. z.number) b.walker_is) (ap (λ z. z.passes.items) b.walker_is),
        λ birth idle. (
            let k = retries_tell M S G sh w v asked last (c.1).0 birth (idle_again last.birth (Some birth) (sym (ap standing_of is) ∙ idle)) b in
            begins_as w v s t birth (Idle (Some birth)) (is_active (c.1).0 birth) idle (ap standing_of (c.1).3 ∙ ap (active_as (c.1).0) k.0) k.1
            ),
        tt,
        at_start last (c.1).0 t _ b.birth (c.1).3 (b.is last),
      )
  tried_again w v s t last (Err (retry.Worn at)) e h is c session ends =
      subst (λ x. RetryDone w s x sh v t) (sym ends) (
        held_so sh w v s t h session (ap (λ z. z.number) c.2) (ap (λ z. z.passes.items) c.2),
        λ birth idle. stays_grown sh w v asked s t c.2 (c.3 ∙ sym is),
        (c.0, worn_still w v c.2 c.1),
        tt,
      )
  tried_again w v s t last (Err (retry.Active tx)) e h is c session ends = absurd c
  tried_again w v s t last (Err retry.NoRetry) e h is c session ends = absurd c

  pub retry_done : (after : Shards M S G) (w v : Walker M S G) (s t : Progress) (r : Result TxId RetryError) (e : Result Unit StopCause) → after ≡ sh → Holds sh w s → (birth : Birth) × (standing_of s ≡ Idle (Some birth)) → RetryCalled sh w s r v t
      → IsSession after v t → RetryEnds r e → RetryDone w s e after v t
  retry_done after w v s t r e same h ended c session ends =
      let k = last_is w v s t ended.0 r h ended.1 c in subst (λ x. RetryDone w s e x v t) (sym same) (tried_again w v s t k.0 r e h k.1 k.3 (subst (λ x. IsSession x v t) same session) ends)
