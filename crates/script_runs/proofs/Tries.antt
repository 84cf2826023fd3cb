-- A transaction's tries, one after another.
use Rattle.std.proofs.Common.{◌≡◌, refl, sym, ap, subst, ◌∙◌, inl, inr, ℕ, suc, ◌+◌, ◌<◌, ◌≤◌, Bool, true, false, nat_lt, List, [], ◌∷◌, ◌++◌, append_assoc, append-nil, length, length-append, Option, Some, None, Err, arith}
use Rattle.std.specs.List.{AllByRecursion}
use Rattle.std.proofs.lemmas.List.{map-append}
use Rattle.clv_base.specs.declared.names.TxId.{TxId}
use Rattle.clv_base.specs.declared.names.Birth.{Birth}
use Rattle.script_lang.specs.Bodies.{Body}
use Rattle.script_runs.specs.declared.ends.StopCause.{StopCause}
use Rattle.script_runs.specs.declared.ends.StopCause.TheVariants.{Down, Unsettled, Worn, Memory}
use Rattle.script_runs.specs.declared.ends.TryEnd.{TryEnd}
use Rattle.script_runs.specs.declared.ends.TryEnd.TheVariants.{Acknowledged, Empty, Asked, Aborted, Stopped}
use Rattle.script_runs.specs.Tries.{Try, IsTry}
use Rattle.script_runs.specs.Sessions.{InTries, last, none_left, stopped_between, further, IsNamed, is_to_retry, stopped_by, stops_between, has_left, entries_of}
use Rattle.script_runs.specs.declared.retrying.Next.{Next}
use Rattle.script_runs.specs.declared.retrying.Next.TheVariants.{Again, Done, Stop}
use Rattle.script_runs.specs.Dropped.{LetsGo, AllLetGo}
use Rattle.script_runs.specs.Seen.{Standing, Idle, Active, Seen, Misses, Keeps, GrowsIn, Grows, untouched}
use Rattle.script_runs.specs.Told.{Begins, RetryTold}
use Rattle.script_runs.specs.Tried.{Tried, LeftBy}
use Rattle.script_runs.specs.Ran.{Rise, serials, NextIs, IsIdle, InTriesTold, Ran}
use Rattle.script_runs.proofs.Doing.{grows_over, grows_none, grows_as}
use Rattle.script_runs.proofs.Dropped.{kept_so, all_let_go_later}
use Rattle.law_base.proofs.Lists.{all_append as all_more}

-- ---- numbers that rise

pub rise_later : (lo : ℕ) (ns : List ℕ) (hi hi' : ℕ) → Rise lo ns hi → hi ≤ hi' → Rise lo ns hi'
rise_later lo [] hi hi' r h = omega arith
rise_later lo (n ∷ ns) hi hi' r h = (r.0, rise_later n ns hi hi' r.1 h)

pub rise_on : (lo mid hi : ℕ) (ns ms : List ℕ) → Rise lo ns mid → Rise mid ms hi → Rise lo (ns ++ ms) hi
rise_on lo mid hi [] [] r s = omega arith
rise_on lo mid hi [] (m ∷ ms) r s = (let a = s.0 in omega arith, s.1)
rise_on lo mid hi (n ∷ ns) ms r s = (r.0, rise_on n mid hi ns ms r.1 s)

-- ---- lists

pub entries_more : (ts us : List Try) → entries_of (ts ++ us) ≡ entries_of ts ++ entries_of us
entries_more [] us = refl
entries_more (t ∷ ts) us = ap (λ es. t.entries ++ es) (entries_more ts us) ∙ sym (append_assoc t.entries (entries_of ts) (entries_of us))

-- ---- a transaction on its way

-- the try that was told
abbrev pub try_of : (missed : Misses) (body : Body) (tx : TxId) (birth : Birth) (end : TryEnd) (v w : Seen) → Tried missed body tx birth end v w → Try
try_of missed body tx birth end v w t = record { tx = tx; acts = t.acts; end = end; entries = t.entries }

-- the tries so far, of which each calls for a further one, and the next one's name
pub record Trying (missed : Misses) (body : Body) (first : TxId) (birth : Birth) (most : Option ℕ) (tried : ℕ) (u v : Seen) : Type 0 where
  pub tx : TxId
  pub active : v.standing ≡ Active tx birth 0 untouched
  pub serial_is : tx.serial ≡ v.serial
  pub run_is : tx.run ≡ u.run
  pub session_is : tx.session ≡ u.walker
  pub tries : List Try
  pub n : ℕ
  pub count : (k : ℕ) → most ≡ Some k → tried ≡ n
  pub front : (more : List Try) (cause : Option StopCause) → InTries most n more cause → InTries most 1 (tries ++ more) cause
  pub each : AllByRecursion (IsTry u.splits body birth) tries
  pub named : AllByRecursion (IsNamed u.run u.walker) tries
  pub grows : GrowsIn (length tries) (entries_of tries) u v
  pub serials_rise : (lo : ℕ) → lo < first.serial → (hi : ℕ) × Rise lo (serials tries) hi × (hi < tx.serial)
  pub dropped : AllLetGo missed v.clock tries

-- what is known of drops stays known
abbrev pub trying_later : (missed later : Misses) (body : Body) (first : TxId) (birth : Birth) (most : Option ℕ) (tried : ℕ) (u v : Seen) → Keeps missed later → Trying missed body first birth most tried u v → Trying later body first birth most tried u v
trying_later missed later body first birth most tried u v keeps d =
    record {
      tx = d.tx;
      active = d.active;
      serial_is = d.serial_is;
      run_is = d.run_is;
      session_is = d.session_is;
      tries = d.tries;
      n = d.n;
      count = d.count;
      front = d.front;
      each = d.each;
      named = d.named;
      grows = d.grows;
      serials_rise = d.serials_rise;
      dropped = all_let_go_later missed later v.clock v.clock d.tries keeps (omega arith) d.dropped;
    }

abbrev pub tried_later : (missed later : Misses) (body : Body) (tx : TxId) (birth : Birth) (end : TryEnd) (v w : Seen) → Keeps missed later → Tried missed body tx birth end v w → Tried later body tx birth end v w
tried_later missed later body tx birth end v w keeps t =
    record {
      acts = t.acts;
      entries = t.entries;
      is_try = t.is_try;
      grows = t.grows;
      left = t.left;
      dropped = (all_let_go_later missed later w.clock w.clock (try_of missed body tx birth end v w t ∷ []) keeps (omega arith) (t.dropped, tt)).0;
    }

abbrev pub no_try : (missed : Misses) (body : Body) (first : TxId) (birth : Birth) (most : Option ℕ) (u : Seen) → u.standing ≡ Active first birth 0 untouched → first.serial ≡ u.serial → first.run ≡ u.run → first.session ≡ u.walker
    → Trying missed body first birth most 1 u u
no_try missed body first birth most u active serial run session =
    record {
      tx = first;
      active = active;
      serial_is = serial;
      run_is = run;
      session_is = session;
      tries = [];
      n = 1;
      count = λ k h. refl;
      front = λ more cause h. h;
      each = tt;
      named = tt;
      grows = grows_none u;
      serials_rise = λ lo h. (lo, omega arith, h);
      dropped = tt;
    }

-- the tries up to now
record HasTried (missed : Misses) (body : Body) (first : TxId) (birth : Birth) (u w : Seen) (ts : List Try) : Type 0 where
  each : AllByRecursion (IsTry u.splits body birth) ts
  named : AllByRecursion (IsNamed u.run u.walker) ts
  more : ℕ
  counted : length ts ≡ suc more
  grows : GrowsIn more (entries_of ts) u w
  serials_rise : (lo : ℕ) → lo < first.serial → Rise lo (serials ts) w.serial
  dropped : AllLetGo missed w.clock ts

abbrev one_more_try : (missed : Misses) (body : Body) (first : TxId) (birth : Birth) (most : Option ℕ) (tried : ℕ) (end : TryEnd) (u v w : Seen) (d : Trying missed body first birth most tried u v) (t : Tried missed body d.tx birth end v w)
    → HasTried missed body first birth u w (d.tries ++ try_of missed body d.tx birth end v w t ∷ [])
one_more_try missed body first birth most tried end u v w d t =
    let new = try_of missed body d.tx birth end v w t in
    record {
      each = all_more (IsTry u.splits body birth) d.tries (new ∷ []) d.each (subst (λ s. IsTry s body birth new) (d.grows).splits_are t.is_try, tt);
      named = all_more (IsNamed u.run u.walker) d.tries (new ∷ []) d.named (record { run_is = d.run_is; session_is = d.session_is }, tt);
      more = length d.tries;
      counted = length-append d.tries (new ∷ []) ∙ (let h : length d.tries + 1 ≡ suc (length d.tries) = omega arith in h);
      grows =
          grows_as u.clock (length d.tries + 0) (length d.tries) (entries_of d.tries ++ t.entries) (entries_of (d.tries ++ new ∷ [])) u w (omega arith)
          (sym (entries_more d.tries (new ∷ []) ∙ ap (λ es. entries_of d.tries ++ es) (append-nil t.entries)))
          (grows_over u.clock (length d.tries) 0 (entries_of d.tries) t.entries u v w d.grows t.grows);
      serials_rise =
          λ lo h.
          let r = d.serials_rise lo h in
          let here = d.serial_is in
          let up = (t.grows).serial_is in
          subst (λ ns. Rise lo ns w.serial) (sym (map-append (λ x. (x.tx).serial) d.tries (new ∷ []))) (rise_on lo r.0 w.serial (serials d.tries) ((d.tx).serial ∷ []) r.1 (r.2, omega arith));
      dropped =
          all_more (λ x. LetsGo missed w.clock x x.end) d.tries (new ∷ []) (all_let_go_later missed missed v.clock w.clock d.tries (kept_so missed) (t.grows).clock_rises d.dropped)
          (t.dropped, tt);
    }

abbrev told_so : (missed : Misses) (body : Body) (first : TxId) (birth : Birth) (most : Option ℕ) (cause : Option StopCause) (u w : Seen) (ts : List Try) → HasTried missed body first birth u w ts → InTries most 1 ts cause → InTriesTold missed body first birth most cause u w
told_so missed body first birth most cause u w ts h i = record { tries = ts; each = h.each; named = h.named; in_tries = i; more = h.more; counted = h.counted; grows = h.grows; serials_rise = h.serials_rise; dropped = h.dropped }

pub same_left : (most : Option ℕ) (tried n : ℕ) (b : Bool) → ((k : ℕ) → most ≡ Some k → tried ≡ n) → has_left most tried ≡ b → has_left most n ≡ b
same_left None tried n b c h = h
same_left (Some k) tried n b c h = ap (λ m. nat_lt m k) (sym (c k refl)) ∙ h

pub done_in : (most : Option ℕ) (tried n : ℕ) (t : Try) → ((k : ℕ) → most ≡ Some k → tried ≡ n) → NextIs t.end most tried Done → InTries most n (t ∷ []) None
done_in most tried n t c (inl (r, s)) = subst (InTries most n (t ∷ [])) s (last n t r)
done_in most tried n t c (inr (r, h)) = none_left n t r (same_left most tried n false c h)

abbrev pub tries_done : (missed : Misses) (body : Body) (first : TxId) (birth : Birth) (most : Option ℕ) (tried : ℕ) (end : TryEnd) (next : Next) (u v w : Seen) (d : Trying missed body first birth most tried u v) → Tried missed body d.tx birth end v w → next ≡ Done
    → NextIs end most tried next → InTriesTold missed body first birth most None u w
tries_done missed body first birth most tried end next u v w d t is n =
    let new = try_of missed body d.tx birth end v w t in
    told_so missed body first birth most None u w (d.tries ++ new ∷ []) (one_more_try missed body first birth most tried end u v w d t)
    (d.front (new ∷ []) None (done_in most tried d.n new d.count (subst (NextIs end most tried) is n)))

abbrev pub tries_stopped : (missed : Misses) (body : Body) (first : TxId) (birth : Birth) (most : Option ℕ) (tried : ℕ) (end : TryEnd) (next : Next) (cause : StopCause) (u v w : Seen) (d : Trying missed body first birth most tried u v) → Tried missed body d.tx birth end v w → next ≡ Stop cause
    → NextIs end most tried next → InTriesTold missed body first birth most (Some cause) u w
tries_stopped missed body first birth most tried end next cause u v w d t is n =
    let new = try_of missed body d.tx birth end v w t in
    let e : end ≡ Stopped cause = subst (NextIs end most tried) is n in
    told_so missed body first birth most (Some cause) u w (d.tries ++ new ∷ []) (one_more_try missed body first birth most tried end u v w d t)
    (d.front (new ∷ []) (Some cause) (subst (InTries most d.n (new ∷ [])) (ap stopped_by e) (last d.n new (ap is_to_retry e))))

-- what stopped the session between two tries made nothing
pub told_between : (birth : Birth) (cause : StopCause) (w x : Seen) → RetryTold {A = Unit {0}} birth (Err cause) w x → (stops_between cause ≡ true) × Grows [] w x
told_between birth (Down n) w x (grows, standing) = (refl, grows)
told_between birth (Unsettled n) w x told = absurd told
told_between birth (Worn at) w x grows = (refl, grows)
told_between birth Memory w x told = absurd told

abbrev stopped_in : (missed : Misses) (body : Body) (first : TxId) (birth : Birth) (most : Option ℕ) (tried : ℕ) (end : TryEnd) (cause : StopCause) (u v w x : Seen) (d : Trying missed body first birth most tried u v) → Tried missed body d.tx birth end v w → is_to_retry end ≡ true
    → has_left most tried ≡ true → stops_between cause ≡ true → Grows [] w x → InTriesTold missed body first birth most (Some cause) u x
stopped_in missed body first birth most tried end cause u v w x d t r l s grows =
    let new = try_of missed body d.tx birth end v w t in
    let h = one_more_try missed body first birth most tried end u v w d t in
    let up : w.serial ≤ x.serial = (let s = grows.serial_is in omega arith) in
    told_so missed body first birth most (Some cause) u x (d.tries ++ new ∷ [])
    (record {
      each = h.each;
      named = h.named;
      more = h.more;
      counted = h.counted;
      grows =
          grows_as u.clock (h.more + 0) h.more (entries_of (d.tries ++ new ∷ []) ++ []) (entries_of (d.tries ++ new ∷ [])) u x (omega arith) (append-nil (entries_of (d.tries ++ new ∷ [])))
          (grows_over u.clock h.more 0 (entries_of (d.tries ++ new ∷ [])) [] u w x h.grows grows);
      serials_rise = λ lo k. rise_later lo (serials (d.tries ++ new ∷ [])) w.serial x.serial (h.serials_rise lo k) up;
      dropped = all_let_go_later missed missed w.clock x.clock (d.tries ++ new ∷ []) (kept_so missed) grows.clock_rises h.dropped;
    })
    (d.front (new ∷ []) (Some cause) (stopped_between d.n new cause s r (same_left most tried d.n true d.count l)))

pub can_retry : (birth : Birth) (end : TryEnd) (st : Standing) → LeftBy birth end st → is_to_retry end ≡ true → st ≡ Idle (Some birth)
can_retry birth Acknowledged st l h = absurd cc
can_retry birth Empty st l h = absurd cc
can_retry birth Asked st l h = l
can_retry birth (Aborted cause) st l h = l
can_retry birth (Stopped cause) st l h = absurd cc

abbrev pub tries_stopped_between : (missed : Misses) (body : Body) (first : TxId) (birth : Birth) (most : Option ℕ) (tried : ℕ) (end : TryEnd) (next : Next) (cause : StopCause) (u v w x : Seen) (d : Trying missed body first birth most tried u v) → Tried missed body d.tx birth end v w → next ≡ Again
    → NextIs end most tried next → ((b : Birth) → w.standing ≡ Idle (Some b) → RetryTold {A = Unit {0}} b (Err cause) w x) → InTriesTold missed body first birth most (Some cause) u x
tries_stopped_between missed body first birth most tried end next cause u v w x d t is n told =
    let p = subst (NextIs end most tried) is n in
    let k = told_between birth cause w x (told birth (can_retry birth end w.standing t.left p.0)) in
    stopped_in missed body first birth most tried end cause u v w x d t p.0 p.1 k.0 k.1

abbrev next_tried : (missed : Misses) (body : Body) (first : TxId) (birth : Birth) (most : Option ℕ) (tried more_tried : ℕ) (end : TryEnd) (u v w x : Seen) (d : Trying missed body first birth most tried u v) → Tried missed body d.tx birth end v w → is_to_retry end ≡ true
    → has_left most tried ≡ true → Begins birth w x → ((k : ℕ) → most ≡ Some k → more_tried ≡ suc tried) → Trying missed body first birth most more_tried u x
next_tried missed body first birth most tried more_tried end u v w x d t r l b number =
    let new = try_of missed body d.tx birth end v w t in
    let h = one_more_try missed body first birth most tried end u v w d t in
    record {
      tx = b.tx;
      active = b.active;
      serial_is = b.serial_is;
      run_is = b.run_is ∙ (h.grows).run_is;
      session_is = b.session_is ∙ (h.grows).walker_is;
      tries = d.tries ++ new ∷ [];
      n = suc d.n;
      count = λ k is. number k is ∙ ap suc (d.count k is);
      front =
          λ more cause i.
          subst (λ ts. InTries most 1 ts cause) (sym (append_assoc d.tries (new ∷ []) more)) (d.front (new ∷ more) cause (further d.n new more cause r (same_left most tried d.n true d.count l) i));
      each = h.each;
      named = h.named;
      grows =
          grows_as u.clock (h.more + 1) (length (d.tries ++ new ∷ [])) (entries_of (d.tries ++ new ∷ []) ++ []) (entries_of (d.tries ++ new ∷ [])) u x (let n = h.counted in omega arith)
          (append-nil (entries_of (d.tries ++ new ∷ []))) (grows_over u.clock h.more 1 (entries_of (d.tries ++ new ∷ [])) [] u w x h.grows b.grows);
      serials_rise = λ lo k. (w.serial, h.serials_rise lo k, (let s = b.serial_is in let y = b.rises in omega arith));
      dropped = all_let_go_later missed missed w.clock x.clock (d.tries ++ new ∷ []) (kept_so missed) (b.grows).clock_rises h.dropped;
    }

abbrev pub tries_go_on : (missed : Misses) (body : Body) (first : TxId) (birth : Birth) (most : Option ℕ) (tried more_tried : ℕ) (end : TryEnd) (next : Next) (u v w x : Seen) (d : Trying missed body first birth most tried u v) → Tried missed body d.tx birth end v w → next ≡ Again
    → NextIs end most tried next → ((b : Birth) → w.standing ≡ Idle (Some b) → Begins b w x) → ((k : ℕ) → most ≡ Some k → more_tried ≡ suc tried) → Trying missed body first birth most more_tried u x
tries_go_on missed body first birth most tried more_tried end next u v w x d t is n told number =
    let p = subst (NextIs end most tried) is n in
    next_tried missed body first birth most tried more_tried end u v w x d t p.0 p.1 (told birth (can_retry birth end w.standing t.left p.0)) number

pub idle_when_done : (birth : Birth) (end : TryEnd) (most : Option ℕ) (tried : ℕ) (next : Next) (w : Seen) → LeftBy birth end w.standing → next ≡ Done → NextIs end most tried next → IsIdle w
idle_when_done birth Acknowledged most tried next w l is n = (None, l)
idle_when_done birth Empty most tried next w l is n = (None, l)
idle_when_done birth Asked most tried next w l is n = (Some birth, l)
idle_when_done birth (Aborted cause) most tried next w l is n = (Some birth, l)
idle_when_done birth (Stopped cause) most tried next w l is n = at (subst (NextIs (Stopped cause) most tried) is n)
  where
    at : NextIs (Stopped cause) most tried Done → IsIdle w
    at (inl (r, s)) = absurd cc
    at (inr (r, h)) = absurd cc

-- ---- a transaction

abbrev pub ran : (missed : Misses) (body : Body) (most : Option ℕ) (cause : Option StopCause) (birth : Birth) (u v w : Seen) → birth.session ≡ u.walker → u.clock < birth.stamp → birth.stamp ≤ v.clock → (b : Begins birth u v)
    → InTriesTold missed body b.tx birth most cause v w → Ran missed body most cause u w
ran missed body most cause birth u v w born later earlier b t =
    record {
      birth = birth;
      tries = t.tries;
      is_transaction =
          record {
            born = born;
            named = subst (λ run. AllByRecursion (IsNamed run u.walker) t.tries) (b.grows).run_is (subst (λ walker. AllByRecursion (IsNamed v.run walker) t.tries) (b.grows).walker_is t.named);
            each = subst (λ s. AllByRecursion (IsTry s body birth) t.tries) (b.grows).splits_are t.each;
            in_tries = t.in_tries;
          };
      grows =
          grows_as u.clock (1 + t.more) (length t.tries) (entries_of t.tries) (entries_of t.tries) u w (let n = t.counted in omega arith) refl
          (grows_over u.clock 1 t.more [] (entries_of t.tries) u v w b.grows t.grows);
      later = later;
      earlier = let y = (t.grows).clock_rises in omega arith;
      serials_rise = t.serials_rise u.serial (let s = b.serial_is in let y = b.rises in omega arith);
      dropped = t.dropped;
    }
