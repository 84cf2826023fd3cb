-- What each shard has of transactions: parts that are nothing, and parts on some shards.
use Rattle.std.proofs.Common.{◌≡◌, inl, inr, ℕ, ◌<◌, ◌==◌, Bool, true, false, cond, List, [], ◌∷◌, ◌++◌, map, Option, Some, None, refl, sym, ap, subst, ◌∙◌, eqb-true, eq-eqb}
use Rattle.std.specs.List.{AllByRecursion, filter}
use Rattle.std.proofs.lemmas.Bool.{or_left, or_right}
use Rattle.clv_base.specs.declared.names.TxId.{TxId}
use Rattle.clv_base.specs.declared.events.Event.{Event}
use Rattle.clv_base.specs.declared.events.Event.TheVariants.{Op as OpEvent, RollTo}
use Rattle.clv_base.specs.declared.events.Outcome.{Outcome}
use Rattle.clv_base.specs.declared.events.Outcome.TheVariants.{Answered, Rolled}
use Rattle.clv_base.specs.declared.ops.Answer.{Answer}
use Rattle.clv_base.specs.Orders.{tx_same, tx_in}
use Rattle.clv_base.specs.Shards.{shard_count}
use Rattle.clv_base.specs.Maps.{KeyMap, Acts, acts_after, replay_answers}
use Rattle.clv_base.specs.Journals.{History}
use Rattle.clv_base.specs.History.{DoneAct, Member, request_of, answers_given}
use Rattle.clv_base.proofs.SameNames.{tx_true, tx_self}
use Rattle.protocol_laws.specs.SessionLaws.{tx_of, works_on}
use Rattle.law_base.specs.Items.{Deed}
use Rattle.serial_laws.specs.Shares.{ShardAct, OnShard, BackOn, done_act, part_on, numbered, ReplaysTo, LiesIn}
use Rattle.shard_laws.specs.OneShard.{act_of_deed, deeds_of, acts_by, answers_by, items_in}
use Rattle.history_cases.proofs.Merging.{Placed, Among}
use Rattle.history_laws.specs.Going.{act_on, shard_acts_in}
use Rattle.history_laws.proofs.Laws.{Offers, OffersBy}
use Rattle.fate_laws.specs.Leading.{requests_of}
use Rattle.headline_laws.proofs.MembersReplayByParts.DeedsAreParts.{AreTold, part_acts, part_answers}
use Rattle.standby_laws.specs.Serial.{on_shards}

-- ---- on some shards

part_kept : (f : ℕ → Bool) (n : ℕ) (xs : List ShardAct) → part_on n (filter (on_shards f) xs) ≡ cond (f n) (part_on n xs) []
part_kept f n [] = at (f n)
  where
    at : (b : Bool) → ◌≡◌ {A = List DoneAct} [] (cond b [] [])
    at true = refl
    at false = refl
part_kept f n (OnShard s k o a ∷ xs) = at (f s) (s == n) refl refl (part_kept f n xs)
  where
    x : ShardAct
    x = OnShard s k o a

    at : (b c : Bool) → f s ≡ b → (s == n) ≡ c → part_on n (filter (on_shards f) xs) ≡ cond (f n) (part_on n xs) []
        → part_on n (cond b (OnShard s k o a ∷ filter (on_shards f) xs) (filter (on_shards f) xs)) ≡ cond (f n) (cond c (done_act (OnShard s k o a) ∷ part_on n xs) (part_on n xs)) []
    at true true e q r =
        let g : f n ≡ true = subst (λ m. f m ≡ true) (eqb-true s n q) e in
        ap (λ c. cond c (done_act (OnShard s k o a) ∷ part_on n (filter (on_shards f) xs)) (part_on n (filter (on_shards f) xs))) q
        ∙ ap (λ l. done_act (OnShard s k o a) ∷ l) (r ∙ ap (λ c. cond c (part_on n xs) []) g)
        ∙ sym (ap (λ c. cond {A = List DoneAct} c (done_act (OnShard s k o a) ∷ part_on n xs) []) g)
    at true false e q r = ap (λ c. cond c (done_act (OnShard s k o a) ∷ part_on n (filter (on_shards f) xs)) (part_on n (filter (on_shards f) xs))) q ∙ r
    at false true e q r =
        let g : f n ≡ false = subst (λ m. f m ≡ false) (eqb-true s n q) e in
        r ∙ ap (λ c. cond {A = List DoneAct} c (part_on n xs) []) g ∙ sym (ap (λ c. cond {A = List DoneAct} c (done_act (OnShard s k o a) ∷ part_on n xs) []) g)
    at false false e q r = r
part_kept f n (BackOn s k u ∷ xs) = at (f s) (s == n) refl refl (part_kept f n xs)
  where
    at : (b c : Bool) → f s ≡ b → (s == n) ≡ c → part_on n (filter (on_shards f) xs) ≡ cond (f n) (part_on n xs) []
        → part_on n (cond b (BackOn s k u ∷ filter (on_shards f) xs) (filter (on_shards f) xs)) ≡ cond (f n) (cond c (done_act (BackOn s k u) ∷ part_on n xs) (part_on n xs)) []
    at true true e q r =
        let g : f n ≡ true = subst (λ m. f m ≡ true) (eqb-true s n q) e in
        ap (λ c. cond c (done_act (BackOn s k u) ∷ part_on n (filter (on_shards f) xs)) (part_on n (filter (on_shards f) xs))) q
        ∙ ap (λ l. done_act (BackOn s k u) ∷ l) (r ∙ ap (λ c. cond c (part_on n xs) []) g)
        ∙ sym (ap (λ c. cond {A = List DoneAct} c (done_act (BackOn s k u) ∷ part_on n xs) []) g)
    at true false e q r = ap (λ c. cond c (done_act (BackOn s k u) ∷ part_on n (filter (on_shards f) xs)) (part_on n (filter (on_shards f) xs))) q ∙ r
    at false true e q r =
        let g : f n ≡ false = subst (λ m. f m ≡ false) (eqb-true s n q) e in
        r ∙ ap (λ c. cond {A = List DoneAct} c (part_on n xs) []) g ∙ sym (ap (λ c. cond {A = List DoneAct} c (done_act (BackOn s k u) ∷ part_on n xs) []) g)
    at false false e q r = r

pub parts_kept : (f : TxId → ℕ → Bool) (acts : TxId → List ShardAct) (n : ℕ) (ts : List TxId)
    → map (part_on n) (map (λ t. filter (on_shards (f t)) (acts t)) ts) ≡ map (λ t. cond (f t n) (part_on n (acts t)) []) ts
parts_kept f acts n [] = refl
parts_kept f acts n (t ∷ ts) = ap (λ p. p ∷ map (part_on n) (map (λ t. filter (on_shards (f t)) (acts t)) ts)) (part_kept (f t) n (acts t)) ∙ ap (λ l. cond (f t n) (part_on n (acts t)) [] ∷ l) (parts_kept f acts n ts)

-- ---- who did nothing there changes nothing

pub with_idle : (g : TxId → List DoneAct) (b : TxId → Bool) (ts : List TxId) (m last : KeyMap) → ReplaysTo m (map g (filter b ts)) last → ReplaysTo m (map (λ t. cond (b t) (g t) []) ts) last
with_idle g b [] m last r = r
with_idle g b (t ∷ ts) m last r = at (b t) r (λ m r. with_idle g b ts m last r)
  where
    at : (c : Bool) → ReplaysTo m (map g (cond c (t ∷ filter b ts) (filter b ts))) last → ((m : KeyMap) → ReplaysTo m (map g (filter b ts)) last → ReplaysTo m (map (λ t. cond (b t) (g t) []) ts) last)
        → ReplaysTo m (cond c (g t) [] ∷ map (λ t. cond (b t) (g t) []) ts) last
    at true r k =
        let next : KeyMap = acts_after (numbered (g t)) m [] in
        let q = k next (tail r.0, r.1) in
        (ap (λ l. l ∷ replay_answers next (map numbered (map (λ t. cond (b t) (g t) []) ts))) (head r.0) ∙ ap (λ l. answers_given (g t) ∷ l) q.0, q.1)
      where
        tail : {x y : List Answer} {xs ys : List (List Answer)} → x ∷ xs ≡ y ∷ ys → xs ≡ ys
        tail h = cc

        head : {x y : List Answer} {xs ys : List (List Answer)} → x ∷ xs ≡ y ∷ ys → x ≡ y
        head h = cc
    at false r k = let q = k m r in (ap (λ l. [] ∷ l) q.0, q.1)

-- ---- by deeds

abbrev member : TxId → Member
member t = record { tx = t; point = record { stamp = 0; shard = 0 }; acts = [] }

one_acts : (n : ℕ) (h : History) (all : List Deed) (t : TxId) → AreTold n h all → numbered (part_on n (shard_acts_in t h)) ≡ map act_of_deed (deeds_of t all)
one_acts n h all t k = head (part_acts n h all (member t ∷ []) k)
  where
    head : {x y : Acts} → x ∷ [] ≡ y ∷ [] → x ≡ y
    head e = cc

one_answers : (n : ℕ) (h : History) (all : List Deed) (t : TxId) → AreTold n h all → answers_given (part_on n (shard_acts_in t h)) ≡ map (λ x. x.answer) (items_in (deeds_of t all))
one_answers n h all t k = head (part_answers n h all (member t ∷ []) k)
  where
    head : {x y : List Answer} → x ∷ [] ≡ y ∷ [] → x ≡ y
    head e = cc

pub acts_are : (n : ℕ) (h : History) (all : List Deed) (ts : List TxId) → AreTold n h all → map numbered (map (λ t. part_on n (shard_acts_in t h)) ts) ≡ acts_by ts all
acts_are n h all [] k = refl
acts_are n h all (t ∷ ts) k = ap (λ l. l ∷ map numbered (map (λ t. part_on n (shard_acts_in t h)) ts)) (one_acts n h all t k) ∙ ap (λ l. map act_of_deed (deeds_of t all) ∷ l) (acts_are n h all ts k)

pub answers_are : (n : ℕ) (h : History) (all : List Deed) (ts : List TxId) → AreTold n h all → map answers_given (map (λ t. part_on n (shard_acts_in t h)) ts) ≡ answers_by ts all
answers_are n h all [] k = refl
answers_are n h all (t ∷ ts) k =
    ap (λ l. l ∷ map answers_given (map (λ t. part_on n (shard_acts_in t h)) ts)) (one_answers n h all t k) ∙ ap (λ l. map (λ x. x.answer) (items_in (deeds_of t all)) ∷ l) (answers_are n h all ts k)

-- ---- lists

pub map_same : {A : Type 0} (f g : TxId → A) (ts : List TxId) → ((t : TxId) → tx_in t ts ≡ true → f t ≡ g t) → map f ts ≡ map g ts
map_same f g [] k = refl
map_same f g (t ∷ ts) k = ap (λ x. x ∷ map f ts) (k t (or_left (tx_same t t) (tx_in t ts) (tx_self t))) ∙ ap (λ l. g t ∷ l) (map_same f g ts (λ u i. k u (or_right (tx_same t u) (tx_in u ts) i)))

pub requests_append : (xs ys : History) → requests_of (xs ++ ys) ≡ requests_of xs ++ requests_of ys
requests_append [] ys = refl
requests_append (e ∷ es) ys = at (request_of (e.1).event (e.1).outcome) (requests_append es ys)
  where
    at : (o : Option TxId) → requests_of (es ++ ys) ≡ requests_of es ++ requests_of ys
        → elim o [ Some t ↦ t ∷ requests_of (es ++ ys) | None ↦ requests_of (es ++ ys) ] ≡ elim o [ Some t ↦ t ∷ requests_of es | None ↦ requests_of es ] ++ requests_of ys
    at None k = k
    at (Some t) k = ap (λ l. t ∷ l) k

pub acts_append : (t : TxId) (xs ys : History) → shard_acts_in t (xs ++ ys) ≡ shard_acts_in t xs ++ shard_acts_in t ys
acts_append t [] ys = refl
acts_append t (e ∷ es) ys = at (act_on t e.0 (e.1).event (e.1).outcome) (acts_append t es ys)
  where
    at : (o : Option ShardAct) → shard_acts_in t (es ++ ys) ≡ shard_acts_in t es ++ shard_acts_in t ys
        → elim o [ Some x ↦ x ∷ shard_acts_in t (es ++ ys) | None ↦ shard_acts_in t (es ++ ys) ] ≡ elim o [ Some x ↦ x ∷ shard_acts_in t es | None ↦ shard_acts_in t es ] ++ shard_acts_in t ys
    at None k = k
    at (Some x) k = ap (λ l. x ∷ l) k

-- ---- whose an act is

pub act_works : (t : TxId) (n : ℕ) (e : Event) (o : Outcome) (x : ShardAct) → act_on t n e o ≡ Some x → (tx_of e ≡ Some t) × (works_on t.serial e ≡ true)
act_works t n (OpEvent tx birth nth seen op) (Answered a epoch) x q = at (tx_same t tx) refl q
  where
    at : (b : Bool) → tx_same t tx ≡ b → cond b (Some (OnShard n nth op a)) None ≡ Some x → (Some tx ≡ Some t) × ((tx.serial == t.serial) ≡ true)
    at true e q = let s = tx_true t tx e in (ap Some (sym s), eq-eqb tx.serial t.serial (ap (λ (u : TxId). u.serial) (sym s)))
    at false e q = absurd cc
act_works t n (OpEvent tx birth nth seen op) _ x q = absurd cc
act_works t n (RollTo tx nth seen upto) Rolled x q = at (tx_same t tx) refl q
  where
    at : (b : Bool) → tx_same t tx ≡ b → cond b (Some (BackOn n nth upto)) None ≡ Some x → (Some tx ≡ Some t) × ((tx.serial == t.serial) ≡ true)
    at true e q = let s = tx_true t tx e in (ap Some (sym s), eq-eqb tx.serial t.serial (ap (λ (u : TxId). u.serial) (sym s)))
    at false e q = absurd cc
act_works t n (RollTo tx nth seen upto) _ x q = absurd cc
act_works t n _ o x q = absurd cc

pub no_acts : (t : TxId) (es : History) → ((e : Placed) → Among e es → tx_of (e.1).event ≡ Some t → works_on t.serial (e.1).event ≡ true → ⊥) → shard_acts_in t es ≡ []
no_acts t [] k = refl
no_acts t (e ∷ es) k = ap (λ (o : Option ShardAct). elim o [ Some x ↦ x ∷ shard_acts_in t es | None ↦ shard_acts_in t es ]) (none (act_on t e.0 (e.1).event (e.1).outcome) refl) ∙ no_acts t es (λ x i. k x (inr i))
  where
    none : (o : Option ShardAct) → act_on t e.0 (e.1).event (e.1).outcome ≡ o → o ≡ None
    none None q = refl
    none (Some x) q = let w = act_works t e.0 (e.1).event (e.1).outcome x q in absurd (k e (inl refl) w.0 w.1)

-- ---- each operation's keys are its shard's

one_lies : (splits : List ℕ) (t : TxId) (n : ℕ) (e : Event) (o : Outcome) (xs : List ShardAct) → n < shard_count splits → OffersBy splits n e o → AllByRecursion (LiesIn splits) xs
    → AllByRecursion (LiesIn splits) (elim (act_on t n e o) [ Some x ↦ x ∷ xs | None ↦ xs ])
one_lies splits t n (OpEvent tx birth nth seen op) (Answered a epoch) xs l k r = at (tx_same t tx)
  where
    at : (b : Bool) → AllByRecursion (LiesIn splits) (elim (cond {A = Option ShardAct} b (Some (OnShard n nth op a)) None) [ Some x ↦ x ∷ xs | None ↦ xs ])
    at true = ((l, k), r)
    at false = r
one_lies splits t n (RollTo tx nth seen upto) Rolled xs l k r = at (tx_same t tx)
  where
    at : (b : Bool) → AllByRecursion (LiesIn splits) (elim (cond {A = Option ShardAct} b (Some (BackOn n nth upto)) None) [ Some x ↦ x ∷ xs | None ↦ xs ])
    at true = (tt, r)
    at false = r
one_lies splits t n _ o xs l k r = r

pub acts_lie : (splits : List ℕ) (t : TxId) (es : History) → ((e : Placed) → Among e es → (e.0 < shard_count splits) × Offers splits e) → AllByRecursion (LiesIn splits) (shard_acts_in t es)
acts_lie splits t [] k = tt
acts_lie splits t (e ∷ es) k = let p = k e (inl refl) in one_lies splits t e.0 (e.1).event (e.1).outcome (shard_acts_in t es) p.0 p.1 (acts_lie splits t es (λ x i. k x (inr i)))
