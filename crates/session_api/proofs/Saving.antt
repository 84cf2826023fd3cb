-- Savepoints that stand still after a session's calls.
use Rattle.std.proofs.Common.{◌≡◌, ◌∙◌, refl, sym, ap, subst, ℕ, ◌≤◌, ◌+◌, zero, suc, Bool, true, false, cond, ◌&&◌, ◌||◌, ◌==◌, nat_lt, nat_le, List, [], ◌∷◌, ◌++◌, length, Result, Ok, Err, arith}
use Rattle.std.proofs.lemmas.Bool.{both_ways, lt-ltb, ltb-true, eq-eqb, eqb-true, ne_eqb}
use Rattle.std.specs.List.{list_all}
use Rattle.clv_base.specs.declared.names.TxId.{TxId}
use Rattle.clv_base.specs.declared.names.Birth.{Birth}
use Rattle.clv_base.specs.declared.ops.Op.{Op}
use Rattle.clv_base.specs.declared.ops.Answer.{Answer}
use Rattle.clv_base.specs.declared.events.Outcome.TheVariants.{Answered, Rolled}
use Rattle.clv_base.specs.Sessions.{SessionState, is_whole_now, begun, numbered}
use Rattle.clv_base.specs.Backs.{stands_for_back}
use Rattle.law_base.proofs.Bools.{and_first, and_second, and_true}
use Rattle.cluster_turns.specs.Notes.{is_above, is_noted, back_begun}
use Rattle.cluster_turns.specs.declared.shards.Shards.{Shards}
use Rattle.cluster_turns.specs.declared.shards.Walker.{Walker}
use Rattle.session_ops.specs.declared.operating.OpError.{OpError as Failure}
use Rattle.session_ops.specs.declared.operating.OpError.TheVariants as failed
use Rattle.session_ops.specs.Standing.{place_after}
use Rattle.session_ops.specs.Operated.{PlacedBy, answered_in}
use Rattle.session_ops.specs.Parts.{PointTold, has_died}
use Rattle.session_ops.specs.declared.rolling.BackError.{BackError}
use Rattle.session_ops.specs.declared.rolling.BackError.TheVariants as left
use Rattle.session_ops.specs.WentBack.{GoingBack, back_below, place_back}
use Rattle.session_ops.specs.Undone.{IsBack, LeftBy}
use Rattle.session_api.specs.declared.progress.Progress.{Progress}
use Rattle.session_api.specs.declared.progress.Progress.TheVariants.{Idle, Active, Worn, Undone, Asked, Ended}
use Rattle.session_api.specs.GoingBack.{has_number}
use Rattle.session_api.specs.Progresses.{after_op, progress_back}
use Rattle.session_api.specs.Savepoints.{StandsIn, StandsFor, AllStand, Saved, saves_up_to}

-- it went back over nothing more
pub stands_later : (p q : SessionState) (upto : ℕ) → q.backs ≡ p.backs → p.nth ≤ q.nth → StandsIn p upto → StandsIn q upto
stands_later p q upto same up h =
    let below = ltb-true upto (suc p.nth) (and_first (nat_lt upto (suc p.nth)) (list_all (λ b. nat_le upto b.1 || nat_le b.0 upto) p.backs) h) in
    and_true (nat_lt upto (suc q.nth)) (list_all (λ b. nat_le upto b.1 || nat_le b.0 upto) q.backs) (lt-ltb upto (suc q.nth) (omega arith))
    (subst (λ bs. list_all (λ b. nat_le upto b.1 || nat_le b.0 upto) bs ≡ true) (sym same) (and_second (nat_lt upto (suc p.nth)) (list_all (λ b. nat_le upto b.1 || nat_le b.0 upto) p.backs) h))

pub all_later : (p q : SessionState) (saves : List ℕ) → q.backs ≡ p.backs → p.nth ≤ q.nth → AllStand p saves → AllStand q saves
all_later p q [] same up h = tt
all_later p q (s ∷ ss) same up h = (stands_later p q s same up h.0, all_later p q ss same up h.1)

-- one of them stands
one_stands_of : (p : SessionState) (saves : List ℕ) (upto : ℕ) → AllStand p saves → has_number upto saves ≡ true → StandsIn p upto
one_stands_of p [] upto all h = absurd (both_ways false refl h)
one_stands_of p (s ∷ ss) upto all h = by (s == upto) refl (one_stands_of p ss upto all.1)
  where
    by : (b : Bool) → (s == upto) ≡ b → (has_number upto ss ≡ true → StandsIn p upto) → StandsIn p upto
    by true is rest = subst (StandsIn p) (eqb-true s upto is) all.0
    by false is rest = rest (sym (ap (λ b. b || has_number upto ss) is) ∙ h)

pub saved_stands : (s : Progress) (saves : List ℕ) (upto : ℕ) → Saved s saves → has_number upto saves ≡ true → StandsFor s upto
saved_stands Idle saves upto h is = tt
saved_stands (Active p) saves upto h is = one_stands_of p saves upto h.1 is
saved_stands (Worn p) saves upto h is = one_stands_of p saves upto h is
saved_stands (Undone p n to) saves upto h is = one_stands_of p saves upto h is
saved_stands (Asked p home stamp) saves upto h is = tt
saved_stands (Ended p) saves upto h is = tt

-- one more
pub all_with : (p : SessionState) (saves : List ℕ) (upto : ℕ) → AllStand p saves → StandsIn p upto → AllStand p (saves ++ upto ∷ [])
all_with p [] upto h new = (new, tt)
all_with p (s ∷ ss) upto h new = (h.0, all_with p ss upto h.1 new)

-- it went back to upto, or went back nowhere
pub record Went (p q : SessionState) (upto : ℕ) : Type 0 where
  pub took : Bool
  pub nth : q.nth ≡ cond took (suc p.nth) p.nth
  pub backs : q.backs ≡ cond took ((suc p.nth, upto) ∷ p.backs) p.backs

went_whole : (p q : SessionState) (upto : ℕ) → IsBack p upto q → Went p q upto
went_whole p q upto back = record { took = is_above upto p.written; nth = back.nth; backs = back.backs }

-- one that is up to where it led stands still
one_stands : (p q : SessionState) (upto u : ℕ) → Went p q upto → nat_le u upto ≡ true → StandsIn p u → StandsIn q u
one_stands p q upto u back low h =
    subst (λ k. nat_lt u (suc k) && all u q.backs ≡ true) (sym back.nth) (subst (λ bs. nat_lt u (suc (cond back.took (suc p.nth) p.nth)) && all u bs ≡ true) (sym back.backs) (by back.took))
  where
    all : ℕ → List (ℕ × ℕ) → Bool
    all u bs = list_all (λ b. nat_le u b.1 || nat_le b.0 u) bs

    by : (b : Bool) → nat_lt u (suc (cond b (suc p.nth) p.nth)) && all u (cond b ((suc p.nth, upto) ∷ p.backs) p.backs) ≡ true
    by false = h
    by true =
        let below = ltb-true u (suc p.nth) (and_first (nat_lt u (suc p.nth)) (all u p.backs) h) in
        and_true (nat_lt u (suc (suc p.nth))) ((nat_le u upto || nat_le (suc p.nth) u) && all u p.backs) (lt-ltb u (suc (suc p.nth)) (omega arith))
        (and_true (nat_le u upto || nat_le (suc p.nth) u) (all u p.backs) (ap (λ x. x || nat_le (suc p.nth) u) low) (and_second (nat_lt u (suc p.nth)) (all u p.backs) h))

pub all_back : (p q : SessionState) (upto : ℕ) (saves : List ℕ) → Went p q upto → AllStand p saves → AllStand q (saves_up_to upto saves)
all_back p q upto [] back h = tt
all_back p q upto (s ∷ ss) back h = by (nat_le s upto) refl (all_back p q upto ss back h.1)
  where
    by : (b : Bool) → nat_le s upto ≡ b → AllStand q (saves_up_to upto ss) → AllStand q (cond b (s ∷ saves_up_to upto ss) (saves_up_to upto ss))
    by true is rest = (one_stands p q upto s back is h.0, rest)
    by false is rest = rest

-- so it did on the shards below n
went_begun : (p m : SessionState) (upto : ℕ) → Went p m upto → Went p (back_begun (suc p.nth) upto m) upto
went_begun p m upto g = by g.took g.nth g.backs
  where
    begun_one : SessionState
    begun_one = record (numbered (suc p.nth) m) { is_whole = is_whole_now m && stands_for_back (suc p.nth) upto m.backs; backs = (suc p.nth, upto) ∷ m.backs }

    by : (b : Bool) → m.nth ≡ cond b (suc p.nth) p.nth → m.backs ≡ cond b ((suc p.nth, upto) ∷ p.backs) p.backs → Went p (back_begun (suc p.nth) upto m) upto
    by false k bs = subst (λ x. Went p (cond x begun_one m) upto) (sym (eq-eqb (suc p.nth) (suc m.nth) (ap suc (sym k)))) (record { took = true; nth = refl; backs = ap (λ l. (suc p.nth, upto) ∷ l) bs })
    by true k bs = subst (λ x. Went p (cond x begun_one m) upto) (sym (ne_eqb (suc p.nth) (suc m.nth) (λ e. omega arith))) (record { took = true; nth = k; backs = bs })

went_more : (p m : SessionState) (upto n : ℕ) (b : Bool) → Went p m upto → Went p (cond b (place_back n (suc p.nth) upto m (Ok Rolled)) m) upto
went_more p m upto n false g = g
went_more p m upto n true g = let k = went_begun p m upto g in record { took = k.took; nth = k.nth; backs = k.backs }

went_below : (p : SessionState) (upto n : ℕ) → Went p (back_below (suc p.nth) upto n p) upto
went_below p upto zero = record { took = false; nth = refl; backs = refl }
went_below p upto (suc n) = went_more p (back_below (suc p.nth) upto n p) upto n (is_noted n upto p.written) (went_below p upto n)

-- ---- operations

-- nothing was taken back
pub record GoesOn (p q : SessionState) : Type 0 where
  pub backs : q.backs ≡ p.backs
  pub nth : p.nth ≤ q.nth
  pub whole : is_whole_now p ≡ true → is_whole_now q ≡ true

pub goes_same : (p : SessionState) → GoesOn p p
goes_same p = record { backs = refl; nth = (omega arith); whole = λ h. h }

pub goes_then : (p q r : SessionState) → GoesOn p q → GoesOn q r → GoesOn p r
goes_then p q r a b = record { backs = b.backs ∙ a.backs; nth = (let l = a.nth in let m = b.nth in omega arith); whole = λ h. b.whole (a.whole h) }

answered_goes : (n nth : ℕ) (op : Op) (p : SessionState) (a : Answer) (epoch : ℕ) → p.nth ≤ nth → GoesOn p (place_after n nth op p (Ok (Answered a epoch)))
answered_goes n nth op p a epoch up = record { backs = refl; nth = up; whole = λ h. and_true (is_whole_now p) true h refl }

pub placed_goes : (n nth : ℕ) (op : Op) (p q : SessionState) (answer : Result Answer Failure) → p.nth ≤ nth → PlacedBy n nth op p (answered_in answer) q → GoesOn p q
placed_goes n nth op p q (Ok a) up k = subst (GoesOn p) (sym k.1) (answered_goes n nth op p a k.0 up)
placed_goes n nth op p q (Err (failed.Aborted cause)) up k = subst (GoesOn p) (sym k) (record { backs = refl; nth = up; whole = λ h. h })
placed_goes n nth op p q (Err (failed.Down m)) up k = subst (GoesOn p) (sym k) (goes_same p)
placed_goes n nth op p q (Err (failed.Worn at)) up k = subst (GoesOn p) (sym k) (goes_same p)
placed_goes n nth op p q (Err failed.Memory) up k = subst (GoesOn p) (sym k) (goes_same p)

-- so many savepoints stand after it
pub op_saved : (p q : SessionState) (died : Bool) (saves : List ℕ) → GoesOn p q → Saved (Active p) saves → Saved (after_op q died) saves
op_saved p q true saves g h = tt
op_saved p q false saves g h = (g.whole h.0, all_later p q saves g.backs g.nth h.1)

pub point_saved : {M S G A : Type 0} (tells : Result Answer Failure → Result A Failure) (sh : Shards M S G) (w v : Walker M S G) (p q : SessionState) (op : Op) (key : ℕ) (r : Result A Failure) (saves : List ℕ) → PointTold tells sh w p op key r v q → Saved (Active p) saves
    → Saved (after_op q (has_died r)) saves
point_saved tells sh w v p q op key r saves told h = op_saved p q (has_died r) saves (placed_goes _ (p.nth + 1) op p q told.answer (omega arith) told.place) h

-- ---- what a session keeps of goings back

undone_stand : (p q : SessionState) (upto : ℕ) (saves : List ℕ) (n : ℕ) → q ≡ back_below (suc p.nth) upto n p → AllStand p saves → AllStand q (saves_up_to upto saves)
undone_stand p q upto saves n is h = subst (λ z. AllStand z (saves_up_to upto saves)) (sym is) (all_back p (back_below (suc p.nth) upto n p) upto saves (went_below p upto n) h)

pub back_saved : (p q : SessionState) (upto : ℕ) (saves : List ℕ) → IsBack p upto q → Saved (Active p) saves → Saved (Active q) (saves_up_to upto saves)
back_saved p q upto saves back h = (back.whole ∙ h.0, all_back p q upto saves (went_whole p q upto back) h.1)

pub begun_saved : (t p : SessionState) (tx : TxId) (birth : Birth) → p ≡ begun t tx birth → Saved (Active p) []
begun_saved t p tx birth is = (ap is_whole_now is, tt)

module _ {M S G : Type 0} (sh : Shards M S G) (w v : Walker M S G) where
  -- those that are up to where it leads stand still, also where it was left undone
  pub back_keeps : (p q : SessionState) (upto : ℕ) (r : Result Unit BackError) (saves : List ℕ) → Saved (Active p) saves → GoingBack (length sh.locks.items) w.number w.clock w.passes.items p upto r v.clock v.passes.items q → LeftBy sh p upto r v q
      → Saved (progress_back q upto r) (saves_up_to upto saves)
  back_keeps p q upto (Ok u) saves h d l = back_saved p q upto saves l h
  back_keeps p q upto (Err (left.Aborted cause)) saves h d l = tt
  back_keeps p q upto (Err (left.Down n)) saves h d l = let k = d.told in undone_stand p q upto saves k.shard (k.failed).1.3 h.1
  back_keeps p q upto (Err (left.Worn n at)) saves h d l = let k = d.told in undone_stand p q upto saves k.shard (k.failed).1.3 h.1
