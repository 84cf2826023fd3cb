-- A shard's part of what the members did is what it did, by its deeds.
use Rattle.std.proofs.Common.{◌≡◌, refl, sym, ap, subst, ◌∙◌, ℕ, true, false, cond, Bool, ◌==◌, List, [], ◌∷◌, ◌++◌, map, Option, Some, None}
use Rattle.std.specs.List.{AllByRecursion}
use Rattle.std.proofs.lemmas.Bool.{or_left, or_right}
use Rattle.clv_base.specs.declared.names.TxId.{TxId}
use Rattle.clv_base.specs.declared.events.Event.{Event}
use Rattle.clv_base.specs.declared.events.Event.TheVariants.{Op as OpEvent, RollTo}
use Rattle.clv_base.specs.declared.events.Outcome.{Outcome}
use Rattle.clv_base.specs.declared.events.Outcome.TheVariants.{Answered, Rolled}
use Rattle.clv_base.specs.Orders.{tx_same, tx_in}
use Rattle.clv_base.specs.Maps.{Operates, GoesBack}
use Rattle.clv_base.specs.Backs.{are_numbered}
use Rattle.clv_base.specs.Journals.{History}
use Rattle.clv_base.specs.History.{DoneAct, Member, act_of, answers_given}
use Rattle.clv_base.proofs.SameNames.{tx_true, tx_self}
use Rattle.law_base.specs.Items.{Item, Deed, Did, WentBack}
use Rattle.serial_laws.specs.Shares.{ShardAct, OnShard, BackOn, part_on, numbered, goes_whole}
use Rattle.serial_laws.proofs.PartsAreNumbered.{parts_are_numbered}
use Rattle.shard_laws.specs.OneShard.{doer, deeds_of, items_in, act_of_deed, acts_by, answers_by}
use Rattle.history_laws.specs.Telling.{told_in, told_by}
use Rattle.history_laws.specs.Going.{act_on, shard_acts_in}
use Rattle.fate_laws.specs.FallTelling.{own_entries}
use Rattle.headline_laws.specs.Shares.{parts_on}
use Rattle.headline_laws.specs.Parts.{member_acts}

-- ---- what a shard has of a transaction is what its entries tell

same_both : (b : Bool) (ps : List DoneAct) → ps ≡ cond b ps ps
same_both true ps = refl
same_both false ps = refl

-- an entry of this shard adds its act, and one of another shard none
one_told : (t : TxId) (n m : ℕ) (e : Event) (o : Outcome) (xs : List ShardAct)
    → part_on n (elim (act_on t m e o) [ Some x ↦ x ∷ xs | None ↦ xs ]) ≡ cond (m == n) (elim (act_of t e o) [ Some p ↦ p ∷ part_on n xs | None ↦ part_on n xs ]) (part_on n xs)
one_told t n m (OpEvent tx birth nth seen op) (Answered a epoch) xs = at (tx_same t tx)
  where
    at : (b : Bool) → part_on n (elim (cond {A = Option ShardAct} b (Some (OnShard m nth op a)) None) [ Some x ↦ x ∷ xs | None ↦ xs ])
        ≡ cond (m == n) (elim (cond {A = Option DoneAct} b (Some (nth, Operates op, Some a)) None) [ Some p ↦ p ∷ part_on n xs | None ↦ part_on n xs ]) (part_on n xs)
    at true = refl
    at false = same_both (m == n) (part_on n xs)
one_told t n m (RollTo tx nth seen upto) Rolled xs = at (tx_same t tx)
  where
    at : (b : Bool) → part_on n (elim (cond {A = Option ShardAct} b (Some (BackOn m nth upto)) None) [ Some x ↦ x ∷ xs | None ↦ xs ])
        ≡ cond (m == n) (elim (cond {A = Option DoneAct} b (Some (nth, GoesBack upto, None)) None) [ Some p ↦ p ∷ part_on n xs | None ↦ part_on n xs ]) (part_on n xs)
    at true = refl
    at false = same_both (m == n) (part_on n xs)
one_told t n m _ o xs = same_both (m == n) (part_on n xs)

part_told : (t : TxId) (n : ℕ) (h : History) → part_on n (shard_acts_in t h) ≡ told_in t (own_entries n h)
part_told t n [] = refl
part_told t n (e ∷ es) =
    one_told t n e.0 (e.1).event (e.1).outcome (shard_acts_in t es)
    ∙ ap (λ ps. cond (e.0 == n) (elim (act_of t (e.1).event (e.1).outcome) [ Some p ↦ p ∷ ps | None ↦ ps ]) ps) (part_told t n es)
    ∙ at (e.0 == n)
  where
    at : (b : Bool) → cond b (elim (act_of t (e.1).event (e.1).outcome) [ Some p ↦ p ∷ told_in t (own_entries n es) | None ↦ told_in t (own_entries n es) ]) (told_in t (own_entries n es)) ≡ told_in t (cond b (e ∷ own_entries n es) (own_entries n es))
    at true = refl
    at false = refl

-- ---- acts and answers of deeds

pub deed_acts : (ds : List Deed) → numbered (map told_by ds) ≡ map act_of_deed ds
deed_acts [] = refl
deed_acts (Did x ∷ ds) = ap (λ l. (x.number, Operates x.op) ∷ l) (deed_acts ds)
deed_acts (WentBack tx number upto ∷ ds) = ap (λ l. (number, GoesBack upto) ∷ l) (deed_acts ds)

pub deed_answers : (ds : List Deed) → answers_given (map told_by ds) ≡ map (λ x. x.answer) (items_in ds)
deed_answers [] = refl
deed_answers (Did x ∷ ds) = ap (λ l. x.answer ∷ l) (deed_answers ds)
deed_answers (WentBack tx number upto ∷ ds) = deed_answers ds

-- a shard's deeds tell what its entries tell
abbrev pub AreTold : ℕ → History → List Deed → Type 0
AreTold n h all = (t : TxId) → map told_by (deeds_of t all) ≡ told_in t (own_entries n h)

one_part : (t : TxId) (n : ℕ) (h : History) (all : List Deed) → AreTold n h all → part_on n (shard_acts_in t h) ≡ map told_by (deeds_of t all)
one_part t n h all k = part_told t n h ∙ sym (k t)

pub part_acts : (n : ℕ) (h : History) (all : List Deed) (ms : List Member) → AreTold n h all → map numbered (parts_on n (member_acts h ms)) ≡ acts_by (map (λ m. m.tx) ms) all
part_acts n h all [] k = refl
part_acts n h all (m ∷ ms) k =
    ap (λ l. l ∷ map numbered (parts_on n (member_acts h ms))) (ap numbered (one_part m.tx n h all k) ∙ deed_acts (deeds_of m.tx all)) ∙ ap (λ l. map act_of_deed (deeds_of m.tx all) ∷ l) (part_acts n h all ms k)

pub part_answers : (n : ℕ) (h : History) (all : List Deed) (ms : List Member) → AreTold n h all → map answers_given (parts_on n (member_acts h ms)) ≡ answers_by (map (λ m. m.tx) ms) all
part_answers n h all [] k = refl
part_answers n h all (m ∷ ms) k =
    ap (λ l. l ∷ map answers_given (parts_on n (member_acts h ms))) (ap answers_given (one_part m.tx n h all k) ∙ deed_answers (deeds_of m.tx all))
    ∙ ap (λ l. map (λ x. x.answer) (items_in (deeds_of m.tx all)) ∷ l) (part_answers n h all ms k)

-- who goes whole goes back on the shard only to what it had not gone back over
pub goes_in_order : (t : TxId) (n : ℕ) (h : History) (all : List Deed) → AreTold n h all → goes_whole (shard_acts_in t h) ≡ true → are_numbered 0 [] (map act_of_deed (deeds_of t all)) ≡ true
goes_in_order t n h all k w =
    subst (λ as_. are_numbered 0 [] as_ ≡ true) (ap numbered (one_part t n h all k) ∙ deed_acts (deeds_of t all)) ((parts_are_numbered (shard_acts_in t h) w).0 n)

-- ---- who did nothing of the first deeds did those that came after

pub deeds_more : (t : TxId) (xs ys : List Deed) → deeds_of t xs ≡ [] → deeds_of t (xs ++ ys) ≡ deeds_of t ys
deeds_more t [] ys e = refl
deeds_more t (x ∷ xs) ys e = at (tx_same (doer x) t) e (deeds_more t xs ys)
  where
    at : (b : Bool) → cond b (x ∷ deeds_of t xs) (deeds_of t xs) ≡ [] → (deeds_of t xs ≡ [] → deeds_of t (xs ++ ys) ≡ deeds_of t ys) → cond b (x ∷ deeds_of t (xs ++ ys)) (deeds_of t (xs ++ ys)) ≡ deeds_of t ys
    at true e k = absurd cc
    at false e k = k e

abbrev pub AllIdle : List TxId → List Deed → Type 0
AllIdle ts xs = (t : TxId) → tx_in t ts ≡ true → deeds_of t xs ≡ []

pub acts_later : (ts : List TxId) (xs ys : List Deed) → AllIdle ts xs → acts_by ts (xs ++ ys) ≡ acts_by ts ys
acts_later [] xs ys k = refl
acts_later (t ∷ ts) xs ys k =
    ap (λ l. map act_of_deed l ∷ acts_by ts (xs ++ ys)) (deeds_more t xs ys (k t (or_left (tx_same t t) _ (tx_self t)))) ∙ ap (λ l. map act_of_deed (deeds_of t ys) ∷ l) (acts_later ts xs ys (λ u i. k u (or_right (tx_same t u) _ i)))

pub answers_later : (ts : List TxId) (xs ys : List Deed) → AllIdle ts xs → answers_by ts (xs ++ ys) ≡ answers_by ts ys
answers_later [] xs ys k = refl
answers_later (t ∷ ts) xs ys k =
    ap (λ l. map (λ x. x.answer) (items_in l) ∷ answers_by ts (xs ++ ys)) (deeds_more t xs ys (k t (or_left (tx_same t t) _ (tx_self t))))
    ∙ ap (λ l. map (λ x. x.answer) (items_in (deeds_of t ys)) ∷ l) (answers_later ts xs ys (λ u i. k u (or_right (tx_same t u) _ i)))

-- whose deeds are of others
pub idle_among : (P : TxId → Type 0) (t : TxId) (xs : List Deed) → AllByRecursion (λ d. P (doer d)) xs → (P t → ⊥) → deeds_of t xs ≡ []
idle_among P t [] a none = refl
idle_among P t (x ∷ xs) a none = at (tx_same (doer x) t) refl (idle_among P t xs a.1 none)
  where
    at : (b : Bool) → tx_same (doer x) t ≡ b → deeds_of t xs ≡ [] → cond b (x ∷ deeds_of t xs) (deeds_of t xs) ≡ []
    at true e k = absurd (none (subst P (tx_true (doer x) t e) a.0))
    at false e k = k

-- ---- operations that a log found in doubt have no numbers

pub found_in_order : (t : TxId) (xs : List Item) → AllByRecursion (λ x. x.number ≡ 0) xs → are_numbered 0 [] (map act_of_deed (deeds_of t (map (λ x. Did x) xs))) ≡ true
found_in_order t [] a = refl
found_in_order t (x ∷ xs) a = at (tx_same x.tx t) (found_in_order t xs a.1)
  where
    at : (b : Bool) → are_numbered 0 [] (map act_of_deed (deeds_of t (map (λ x. Did x) xs))) ≡ true → are_numbered 0 [] (map act_of_deed (cond b (Did x ∷ deeds_of t (map (λ x. Did x) xs)) (deeds_of t (map (λ x. Did x) xs)))) ≡ true
    at true e = subst (λ k. are_numbered 0 [] ((k, Operates x.op) ∷ map act_of_deed (deeds_of t (map (λ x. Did x) xs))) ≡ true) (sym a.0) e
    at false e = e
