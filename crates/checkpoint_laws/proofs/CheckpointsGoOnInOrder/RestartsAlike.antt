-- What the RESTARTs of a log ask of what comes, that of its checkpoint asks.
use Rattle.std.proofs.Common.{◌≡◌, ◌⊎◌, inl, inr, refl, sym, ap, subst, ◌∙◌, ℕ, suc, ◌≤◌, Bool, true, false, ◌&&◌, ◌||◌, ◌==◌, nat_lt, List, [], ◌∷◌, ◌++◌, append_assoc, length, Option, Some, None, arith}
use Rattle.std.proofs.lemmas.Bool.{both_ways, and_parts, and_from}
use Rattle.std.proofs.lemmas.Option.{same_Some}
use Rattle.clv_base.specs.declared.names.TxId.{TxId}
use Rattle.clv_base.specs.declared.logs.LogRecord.{LogRecord}
use Rattle.clv_base.specs.declared.logs.LogRecord.TheVariants.{Update, Clr, Prepare, Commit, Abort, End, Restart, Add, Unadd, Forgotten, Check}
use Rattle.clv_base.specs.Logs.{committed_in, wrote_in}
use Rattle.clv_base.specs.LogRules.{last_restart, above_restarts, before_restart, may_follow}
use Rattle.clv_base.specs.Checkpoints.{kept_if, kept_prepare, kept_of, kept_from, no_restart, committed_map, check}
use Rattle.law_base.proofs.Restarts.{Plainly, before_push}
use Rattle.log_checkpoint.specs.Laws.{IsFirst}
use Rattle.log_checkpoint.proofs.Keeping.{none_kept}
use Rattle.log_checkpoint.proofs.StayingAlike.{over, last_more, first_last}

-- ---- no record that stays is a RESTART

if_plain : (b : Bool) (r : LogRecord) → Plainly r → Plainly (kept_if b r)
if_plain true r p = p
if_plain false r p = tt

prepare_plain : (shard : ℕ) (log : List LogRecord) (tx : TxId) (home : ℕ) (ps : List TxId) (b : Bool) → Plainly (kept_prepare shard log tx home ps b)
prepare_plain shard log tx home ps true = if_plain _ (Prepare tx home []) tt
prepare_plain shard log tx home ps false = if_plain _ (Prepare tx home _) tt

kept_plain : (shard : ℕ) (log : List LogRecord) (n : ℕ) (r : LogRecord) → Plainly (kept_of shard log n r)
kept_plain shard log n (Update tx key before after) = if_plain _ (Update tx key before after) tt
kept_plain shard log n (Add tx key by) = if_plain _ (Add tx key by) tt
kept_plain shard log n (Clr tx undo_next key after) = tt
kept_plain shard log n (Unadd tx undo_next key by) = tt
kept_plain shard log n (Prepare tx home ps) = prepare_plain shard log tx home ps (committed_in log tx)
kept_plain shard log n (Commit tx parts) = if_plain _ (Commit tx parts) tt
kept_plain shard log n (Abort tx) = if_plain _ (Abort tx) tt
kept_plain shard log n (End tx) = tt
kept_plain shard log n (Restart run epoch) = tt
kept_plain shard log n Forgotten = tt
kept_plain shard log n (Check run epoch upto base) = tt

above_plain : (run epoch : ℕ) (r : LogRecord) (rs : List LogRecord) → Plainly r → above_restarts run epoch (r ∷ rs) ≡ above_restarts run epoch rs
above_plain run epoch (Restart r e) rs p = absurd p
above_plain run epoch (Check r e upto base) rs p = absurd p
above_plain run epoch _ rs p = refl

before_plain : (sf : List LogRecord) (r : LogRecord) (rs : List LogRecord) → Plainly r → before_restart sf (r ∷ rs) ≡ before_restart (sf ++ r ∷ []) rs
before_plain sf (Restart r e) rs p = absurd p
before_plain sf (Check r e upto base) rs p = absurd p
before_plain sf _ rs p = refl

above_kept : (shard : ℕ) (log : List LogRecord) (run epoch n : ℕ) (rs : List LogRecord) → above_restarts run epoch (kept_from shard log n rs) ≡ true
above_kept shard log run epoch n [] = refl
above_kept shard log run epoch n (r ∷ rs) = above_plain run epoch (kept_of shard log n r) (kept_from shard log (suc n) rs) (kept_plain shard log n r) ∙ above_kept shard log run epoch (suc n) rs

before_kept : (shard : ℕ) (log sf : List LogRecord) (n : ℕ) (rs : List LogRecord) → before_restart sf (kept_from shard log n rs) ≡ []
before_kept shard log sf n [] = refl
before_kept shard log sf n (r ∷ rs) = before_plain sf (kept_of shard log n r) (kept_from shard log (suc n) rs) (kept_plain shard log n r) ∙ before_kept shard log (sf ++ kept_of shard log n r ∷ []) (suc n) rs

-- ---- a run and epoch above all RESTARTs are above the last

abbrev IsAbove : ℕ → ℕ → ℕ × ℕ → Bool
IsAbove run epoch p = nat_lt p.0 run || ((p.0 == run) && nat_lt p.1 epoch)

last_case : (run epoch : ℕ) (own p : ℕ × ℕ) (o : Option (ℕ × ℕ)) → IsAbove run epoch own ≡ true → (o ≡ Some p → IsAbove run epoch p ≡ true) → elim o [ Some q ↦ Some q | None ↦ Some own ] ≡ Some p → IsAbove run epoch p ≡ true
last_case run epoch own p None here later e = subst (λ z. IsAbove run epoch z ≡ true) (same_Some own p e) here
last_case run epoch own p (Some q) here later e = later e

above_last : (run epoch : ℕ) (log : List LogRecord) (p : ℕ × ℕ) → above_restarts run epoch log ≡ true → last_restart log ≡ Some p → IsAbove run epoch p ≡ true
above_last run epoch [] p a e = absurd cc
above_last run epoch (Restart r k ∷ rs) p a e = let x = and_parts _ _ a in last_case run epoch (r, k) p (last_restart rs) x.0 (above_last run epoch rs p x.1) e
above_last run epoch (Check r k upto base ∷ rs) p a e = let x = and_parts _ _ a in last_case run epoch (r, k) p (last_restart rs) x.0 (above_last run epoch rs p x.1) e
above_last run epoch (_ ∷ rs) p a e = above_last run epoch rs p a e

above_split : (run epoch : ℕ) (xs ys : List LogRecord) → above_restarts run epoch (xs ++ ys) ≡ true → (above_restarts run epoch xs ≡ true) × (above_restarts run epoch ys ≡ true)
above_split run epoch [] ys a = (refl, a)
above_split run epoch (Restart r k ∷ rs) ys a = let x = and_parts _ _ a in let p = above_split run epoch rs ys x.1 in (and_from _ _ x.0 p.0, p.1)
above_split run epoch (Check r k upto base ∷ rs) ys a = let x = and_parts _ _ a in let p = above_split run epoch rs ys x.1 in (and_from _ _ x.0 p.0, p.1)
above_split run epoch (_ ∷ rs) ys a = above_split run epoch rs ys a

above_join : (run epoch : ℕ) (xs ys : List LogRecord) → above_restarts run epoch xs ≡ true → above_restarts run epoch ys ≡ true → above_restarts run epoch (xs ++ ys) ≡ true
above_join run epoch [] ys a b = b
above_join run epoch (Restart r k ∷ rs) ys a b = let x = and_parts _ _ a in and_from _ _ x.0 (above_join run epoch rs ys x.1 b)
above_join run epoch (Check r k upto base ∷ rs) ys a b = let x = and_parts _ _ a in and_from _ _ x.0 (above_join run epoch rs ys x.1 b)
above_join run epoch (_ ∷ rs) ys a b = above_join run epoch rs ys a b

module _ (shard : ℕ) (first : LogRecord) (later : List LogRecord) (begins : IsFirst first) where
  abbrev log : List LogRecord
  log = first ∷ later

  abbrev last : ℕ × ℕ
  last = no_restart (last_restart log)

  pub above_alike : (run epoch : ℕ) (mid : List LogRecord) → above_restarts run epoch (log ++ mid) ≡ true → above_restarts run epoch (check shard log ++ mid) ≡ true
  above_alike run epoch mid a =
      let p = above_split run epoch log mid a in
      above_join run epoch (check shard log) mid (and_from (IsAbove run epoch last) (above_restarts run epoch (kept_from shard log 1 later)) (above_last run epoch log last p.0 (first_last first later begins)) (above_kept shard log run epoch 1 later)) p.1

  last_checked : last_restart (check shard log) ≡ Some (last.0, last.1)
  last_checked = ap (λ o. elim o [ Some p ↦ Some p | None ↦ Some (last.0, last.1) ]) (none_kept shard log 1 later)

  pub last_alike : (mid : List LogRecord) → last_restart (check shard log ++ mid) ≡ last_restart (log ++ mid)
  last_alike mid = last_more (check shard log) mid ∙ ap (over (last_restart mid)) (last_checked ∙ sym (first_last first later begins)) ∙ sym (last_more log mid)

-- ---- what lies before the last RESTART

-- none that wrote nothing there did so before the other's, and that is no longer
pub record Before (a b : List LogRecord) : Type 0 where
  pub wrote : (t : TxId) → wrote_in (before_restart [] a) t ≡ false → wrote_in (before_restart [] b) t ≡ false
  pub short : length (before_restart [] b) ≤ length (before_restart [] a)

pub before_first : (shard : ℕ) (first : LogRecord) (later : List LogRecord) → Before (first ∷ later) (check shard (first ∷ later))
before_first shard first later =
    let none : before_restart [] (check shard (first ∷ later)) ≡ [] = before_kept shard (first ∷ later) (first_checked ∷ []) 1 later in
    record {
      wrote = λ t e. ap (λ l. wrote_in l t) none;
      short = let k = ap length none in omega (arith, k);
    }
  where
    first_checked : LogRecord
    first_checked = Check (no_restart (last_restart (first ∷ later))).0 (no_restart (last_restart (first ∷ later))).1 (suc (length later)) (committed_map (first ∷ later))

restart_before : (sf log : List LogRecord) (run epoch : ℕ) → before_restart sf (log ++ Restart run epoch ∷ []) ≡ sf ++ log
restart_before sf [] run epoch = refl
restart_before sf (Restart r e ∷ rs) run epoch = ap (λ l. sf ++ l) (restart_before (Restart r e ∷ []) rs run epoch)
restart_before sf (Check r e upto base ∷ rs) run epoch = ap (λ l. sf ++ l) (restart_before (Check r e upto base ∷ []) rs run epoch)
restart_before sf (Update tx k b a ∷ rs) run epoch = restart_before (sf ++ Update tx k b a ∷ []) rs run epoch ∙ append_assoc sf (Update tx k b a ∷ []) rs
restart_before sf (Clr tx u k a ∷ rs) run epoch = restart_before (sf ++ Clr tx u k a ∷ []) rs run epoch ∙ append_assoc sf (Clr tx u k a ∷ []) rs
restart_before sf (Prepare tx home ps ∷ rs) run epoch = restart_before (sf ++ Prepare tx home ps ∷ []) rs run epoch ∙ append_assoc sf (Prepare tx home ps ∷ []) rs
restart_before sf (Commit tx ps ∷ rs) run epoch = restart_before (sf ++ Commit tx ps ∷ []) rs run epoch ∙ append_assoc sf (Commit tx ps ∷ []) rs
restart_before sf (Abort tx ∷ rs) run epoch = restart_before (sf ++ Abort tx ∷ []) rs run epoch ∙ append_assoc sf (Abort tx ∷ []) rs
restart_before sf (End tx ∷ rs) run epoch = restart_before (sf ++ End tx ∷ []) rs run epoch ∙ append_assoc sf (End tx ∷ []) rs
restart_before sf (Add tx k by ∷ rs) run epoch = restart_before (sf ++ Add tx k by ∷ []) rs run epoch ∙ append_assoc sf (Add tx k by ∷ []) rs
restart_before sf (Unadd tx u k by ∷ rs) run epoch = restart_before (sf ++ Unadd tx u k by ∷ []) rs run epoch ∙ append_assoc sf (Unadd tx u k by ∷ []) rs
restart_before sf (Forgotten ∷ rs) run epoch = restart_before (sf ++ Forgotten ∷ []) rs run epoch ∙ append_assoc sf (Forgotten ∷ []) rs

-- a record that follows is a RESTART or none
pub follow_kind : (shard : ℕ) (so_far : List LogRecord) (r : LogRecord) → may_follow shard so_far r ≡ true → Plainly r ⊎ ((run : ℕ) × (epoch : ℕ) × (r ≡ Restart run epoch))
follow_kind shard so_far (Restart run epoch) m = inr (run, epoch, refl)
follow_kind shard so_far (Check run epoch upto base) m = absurd (both_ways false refl m)
follow_kind shard so_far (Update tx key before after) m = inl tt
follow_kind shard so_far (Add tx key by) m = inl tt
follow_kind shard so_far (Clr tx undo_next key after) m = inl tt
follow_kind shard so_far (Unadd tx undo_next key by) m = inl tt
follow_kind shard so_far (Prepare tx home ps) m = inl tt
follow_kind shard so_far (Commit tx parts) m = inl tt
follow_kind shard so_far (Abort tx) m = inl tt
follow_kind shard so_far (End tx) m = inl tt
follow_kind shard so_far Forgotten m = inl tt

pub before_more : (a b : List LogRecord) (r : LogRecord) → Before a b → Plainly r ⊎ ((run : ℕ) × (epoch : ℕ) × (r ≡ Restart run epoch)) → ((t : TxId) → wrote_in a t ≡ false → wrote_in b t ≡ false) → length b ≡ length a → Before (a ++ r ∷ []) (b ++ r ∷ [])
before_more a b r before (inl p) wrote long =
    record {
      wrote = λ t e. ap (λ l. wrote_in l t) (before_push [] b r p) ∙ before.wrote t (ap (λ l. wrote_in l t) (sym (before_push [] a r p)) ∙ e);
      short = let k = before.short in let x = ap length (before_push [] b r p) in let y = ap length (before_push [] a r p) in omega (arith, k, x, y);
    }
before_more a b r before (inr (run, epoch, is)) wrote long =
    subst (λ q. Before (a ++ q ∷ []) (b ++ q ∷ [])) (sym is)
    (record {
      wrote = λ t e. ap (λ l. wrote_in l t) (restart_before [] b run epoch) ∙ wrote t (ap (λ l. wrote_in l t) (sym (restart_before [] a run epoch)) ∙ e);
      short = let x = ap length (restart_before [] b run epoch) in let y = ap length (restart_before [] a run epoch) in omega (arith, long, x, y);
    })
