-- Members by their parts.
pub mod DeedsAreParts
use Rattle.std.proofs.Common.{◌≡◌, inl, inr, refl, sym, ap, ◌∙◌, ℕ, ◌<◌, true, false, cond, Bool, List, [], ◌∷◌, map, Option, Some, None, ◌||◌}
use Rattle.std.specs.Prelude.{is_none}
use Rattle.std.specs.List.{AllByRecursion}
use Rattle.std.proofs.lemmas.Bool.{and_parts}
use Rattle.clv_base.specs.declared.names.TxId.{TxId}
use Rattle.clv_base.specs.declared.logs.LogRecord.{LogRecord}
use Rattle.clv_base.specs.declared.events.Event.{Event}
use Rattle.clv_base.specs.declared.events.Event.TheVariants.{Op as OpEvent, RollTo, Request as RequestEvent}
use Rattle.clv_base.specs.declared.events.Outcome.{Outcome}
use Rattle.clv_base.specs.declared.events.Outcome.TheVariants.{Answered, Rolled, Asked}
use Rattle.clv_base.specs.Orders.{tx_same}
use Rattle.clv_base.specs.Shards.{shard_count}
use Rattle.clv_base.specs.Maps.{Operates, GoesBack, replay_map, replay_answers}
use Rattle.clv_base.specs.LogRules.{all_logs_from, apart, log_of}
use Rattle.clv_base.specs.FileRules.{log_passes}
use Rattle.clv_base.specs.Logs.{stands, committed_in}
use Rattle.clv_base.specs.Journals.{History}
use Rattle.clv_base.specs.History.{Legal, DoneAct, Member, acknowledged_in, act_of, put_act, acts_in, request_of, members, serial_acts, serial_answers, answers_given, logs_left}
use Rattle.law_base.proofs.Shards.{FromHistory}
use Rattle.law_base.proofs.Logs.{only_passes, from_history}
use Rattle.serial_laws.specs.Shares.{ShardAct, OnShard, BackOn, whole, numbered, LiesIn, goes_whole}
use Rattle.history_cases.proofs.Merging.{Placed, Among, among_is}
use Rattle.history_cases.proofs.Worlds.{in_a_shard}
use Rattle.history_laws.specs.Continuing.{serial_left}
use Rattle.history_laws.specs.Going.{act_on, shard_acts_in}
use Rattle.history_laws.proofs.Laws.{Offers, OffersBy, offered, logs_left_pass, left_length}
use Rattle.history_laws.proofs.RequestsGoWhole.{requests_go_whole}
use Rattle.headline_laws.specs.Shares.{LieIn, GoWhole}
use Rattle.headline_laws.specs.Parts.{member_acts, MembersReplayByParts}
use Rattle.headline_laws.proofs.TransactionsReplayByShards.{replay_by_shards}

-- ---- a transaction's acts are what it did on the shards

one_whole : (t : TxId) (n : ℕ) (e : Event) (o : Outcome) (xs : List ShardAct) (ps : List DoneAct) → whole xs ≡ ps
    → whole (elim (act_on t n e o) [ Some x ↦ x ∷ xs | None ↦ xs ]) ≡ elim (act_of t e o) [ Some p ↦ put_act p ps | None ↦ ps ]
one_whole t n (OpEvent tx birth nth seen op) (Answered a epoch) xs ps e = at (tx_same t tx)
  where
    at : (b : Bool) → whole (elim (cond {A = Option ShardAct} b (Some (OnShard n nth op a)) None) [ Some x ↦ x ∷ xs | None ↦ xs ]) ≡ elim (cond {A = Option DoneAct} b (Some (nth, Operates op, Some a)) None) [ Some p ↦ put_act p ps | None ↦ ps ]
    at true = ap (put_act (nth, Operates op, Some a)) e
    at false = e
one_whole t n (RollTo tx nth seen upto) Rolled xs ps e = at (tx_same t tx)
  where
    at : (b : Bool) → whole (elim (cond {A = Option ShardAct} b (Some (BackOn n nth upto)) None) [ Some x ↦ x ∷ xs | None ↦ xs ]) ≡ elim (cond {A = Option DoneAct} b (Some (nth, GoesBack upto, None)) None) [ Some p ↦ put_act p ps | None ↦ ps ]
    at true = ap (put_act (nth, GoesBack upto, None)) e
    at false = e
one_whole t n _ o xs ps e = e

whole_is : (t : TxId) (h : History) → whole (shard_acts_in t h) ≡ acts_in t h
whole_is t [] = refl
whole_is t (e ∷ es) = one_whole t e.0 (e.1).event (e.1).outcome (shard_acts_in t es) (acts_in t es) (whole_is t es)

-- ---- members have their acts in the history

serial_is : (h : History) (ms : List Member) → FromHistory h ms → serial_acts ms ≡ map numbered (map whole (member_acts h ms))
serial_is h [] a = refl
serial_is h (m ∷ ms) a = ap (λ l. l ∷ serial_acts ms) (ap numbered (a.0 ∙ sym (whole_is m.tx h))) ∙ ap (λ l. numbered (whole (shard_acts_in m.tx h)) ∷ l) (serial_is h ms a.1)

answers_are : (h : History) (ms : List Member) → FromHistory h ms → serial_answers ms ≡ map answers_given (map whole (member_acts h ms))
answers_are h [] a = refl
answers_are h (m ∷ ms) a = ap (λ l. l ∷ serial_answers ms) (ap answers_given (a.0 ∙ sym (whole_is m.tx h))) ∙ ap (λ l. answers_given (whole (shard_acts_in m.tx h)) ∷ l) (answers_are h ms a.1)

-- ---- each operation's keys are its shard's

one_lies : (splits : List ℕ) (t : TxId) (n : ℕ) (e : Event) (o : Outcome) (xs : List ShardAct) → n < shard_count splits → OffersBy splits n e o → AllByRecursion (LiesIn splits) xs
    → AllByRecursion (LiesIn splits) (elim (act_on t n e o) [ Some x ↦ x ∷ xs | None ↦ xs ])
one_lies splits t n (OpEvent tx birth nth seen op) (Answered a epoch) xs l k r = at (tx_same t tx)
  where
    at : (b : Bool) → AllByRecursion (LiesIn splits) (elim (cond {A = Option ShardAct} b (Some (OnShard n nth op a)) None) [ Some x ↦ x ∷ xs | None ↦ xs ])
    at true = ((l, k), r)
    at false = r
one_lies splits t n (RollTo tx nth seen upto) Rolled xs l k r = at (tx_same t tx)
  where
    at : (b : Bool) → AllByRecursion (LiesIn splits) (elim (cond {A = Option ShardAct} b (Some (BackOn n nth upto)) None) [ Some x ↦ x ∷ xs | None ↦ xs ])
    at true = (tt, r)
    at false = r
one_lies splits t n _ o xs l k r = r

acts_lie : (splits : List ℕ) (t : TxId) (es : History) → ((e : Placed) → Among e es → (e.0 < shard_count splits) × Offers splits e) → AllByRecursion (LiesIn splits) (shard_acts_in t es)
acts_lie splits t [] k = tt
acts_lie splits t (e ∷ es) k = let p = k e (inl refl) in one_lies splits t e.0 (e.1).event (e.1).outcome (shard_acts_in t es) p.0 p.1 (acts_lie splits t es (λ x i. k x (inr i)))

all_lie : (splits : List ℕ) (h : History) (ms : List Member) → ((e : Placed) → Among e h → (e.0 < shard_count splits) × Offers splits e) → LieIn splits (member_acts h ms)
all_lie splits h [] k = tt
all_lie splits h (m ∷ ms) k = (acts_lie splits m.tx h k, all_lie splits h ms k)

-- ---- and they go whole, as each made its request

asked_by : (e : Event) (o : Outcome) (t : TxId) → request_of e o ≡ Some t → (touched : List (ℕ × ℕ)) × (e ≡ RequestEvent t touched) × (o ≡ Asked)
asked_by (RequestEvent tx touched) Asked t e = let s : tx ≡ t = cc in (touched, ap (λ x. RequestEvent x touched) s, refl)
asked_by (RequestEvent tx touched) _ t e = absurd cc
asked_by _ o t e = absurd cc

members_whole : (splits : List ℕ) (before : List (List LogRecord)) (h : History) (after : List (List LogRecord)) (logs : List (List LogRecord)) (es : History) → Legal splits before h after → ((e : Placed) → Among e es → Among e h)
    → GoWhole (member_acts h (members logs h es))
members_whole splits before h after logs [] l k = tt
members_whole splits before h after logs (e ∷ es) l k = at (request_of (e.1).event (e.1).outcome) refl (members_whole splits before h after logs es l (λ x i. k x (inr i)))
  where
    kept : (t : TxId) (b : Bool) → goes_whole (shard_acts_in t h) ≡ true → GoWhole (member_acts h (members logs h es))
        → GoWhole (member_acts h (cond b (record { tx = t; point = record { stamp = (e.1).stamp; shard = e.0 }; acts = acts_in t h } ∷ members logs h es) (members logs h es)))
    kept t true w r = (w, r)
    kept t false w r = r

    at : (o : Option TxId) → request_of (e.1).event (e.1).outcome ≡ o → GoWhole (member_acts h (members logs h es))
        → GoWhole (member_acts h (elim o [
          | Some t ↦ cond (committed_in (log_of logs e.0) t || acknowledged_in h t) (record { tx = t; point = record { stamp = (e.1).stamp; shard = e.0 }; acts = acts_in t h } ∷ members logs h es) (members logs h es)
          | None ↦ members logs h es
        ]))
    at None q r = r
    at (Some t) q r =
        let a = asked_by (e.1).event (e.1).outcome t q in
        kept t (committed_in (log_of logs e.0) t || acknowledged_in h t) (requests_go_whole splits before h after e.0 e.1 t a.0 l (among_is e.0 e.1 h (k e (inl refl))) a.1 a.2) r

pub members_go_whole : (splits : List ℕ) (before : List (List LogRecord)) (h : History) (after : List (List LogRecord)) (choice : ℕ → Bool) → Legal splits before h after → GoWhole (member_acts h (serial_left splits before h after choice))
members_go_whole splits before h after choice l = members_whole splits before h after (logs_left splits before h after choice) h l (λ e i. i)

-- ---- logs

pub members_replay_by_parts : MembersReplayByParts
members_replay_by_parts splits before h after choice l k =
    let ms = serial_left splits before h after choice in
    let left = logs_left splits before h after choice in
    let f = from_history left h h in
    let r = replay_by_shards splits before left (member_acts h ms) l.legal.splits_rise
    (l.legal.each_log.0, only_passes splits 0 before (and_parts (all_logs_from 0 (log_passes splits) before) (is_none (apart before)) l.opens).0)
    (left_length splits before h after choice, logs_left_pass splits before h after choice l)
    (all_lie splits h ms (λ e i. (in_a_shard splits before after h e l.legal i, offered splits before after h e l.legal i)))
    (members_go_whole splits before h after choice l.legal) k in
    (ap (replay_answers (stands before)) (serial_is h ms f) ∙ r.0 ∙ sym (answers_are h ms f), ap (replay_map (stands before)) (serial_is h ms f) ∙ r.1)
