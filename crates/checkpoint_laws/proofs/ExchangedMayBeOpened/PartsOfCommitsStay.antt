-- What the checkpoint of a log in order keeps of one whose COMMIT has parts somewhere: at its home the COMMIT and no PREPARE, on a part the PREPARE, and
-- where it is committed the COMMIT.
use Rattle.std.proofs.Common.{◌≡◌, ◌⊎◌, inl, inr, refl, sym, ap, subst, ◌∙◌, ⊎_elim, ℕ, suc, Bool, true, false, cond, not, ◌&&◌, ◌||◌, ◌==◌, List, [], ◌∷◌, ◌++◌, Option, Some, None, is_some, eqb-true}
use Rattle.std.specs.List.{AllByRecursion, list_all, filter}
use Rattle.std.proofs.lemmas.Bool.{both_ways, and_parts, and_from, or_cases, or_parts, false_from_ne_true}
use Rattle.std.proofs.lemmas.Option.{same_Some}
use Rattle.clv_base.specs.declared.names.TxId.{TxId}
use Rattle.clv_base.specs.declared.logs.LogRecord.{LogRecord}
use Rattle.clv_base.specs.declared.logs.LogRecord.TheVariants.{Update, Clr, Prepare, Commit, Abort, End, Restart, Add, Unadd, Forgotten, Check}
use Rattle.clv_base.specs.Orders.{tx_same, nat_in}
use Rattle.clv_base.specs.Logs.{committed_in, aborted_in, has_standing, prepare_of, commit_parts, is_commit_of, is_abort_of, is_record_of, is_update_of, is_undo_of}
use Rattle.clv_base.specs.LogRules.{is_known, listed_in, home_is, is_undone_in, part_agrees, some_parts, part_of, disorder}
use Rattle.clv_base.specs.Checkpoints.{is_away, kept_if, kept_prepare, kept_of, kept_from, check}
use Rattle.clv_base.proofs.SameNames.{or_left, or_right, tx_true}
use Rattle.law_base.specs.Coming.{may_come, Comes}
use Rattle.law_base.proofs.Bools.{and_first as front, and_second as last, not_true, and_no}
use Rattle.law_base.proofs.Logs.{push_left, no_prepare}
use Rattle.law_base.proofs.Parts.{in_order_comes}
use Rattle.protocol_laws.proofs.LogsInOrder.{OtherParts, in_order}
use Rattle.protocol_laws.proofs.LogsInOrder.OneRecordMore.{prepared_there}
use Rattle.shard_laws.proofs.Order.WhoseWritesStand.{open_stands}
use Rattle.log_checkpoint.specs.Laws.{IsFirst}
use Rattle.log_checkpoint.proofs.Again.{commits_stay, other_if, other_prepare, no_commit_first, no_prepare_first}
use Rattle.checkpoint_laws.proofs.InOrder.{begins}
use Rattle.checkpoint_laws.proofs.CheckpointsAreInOrder.{first_kind}
use Rattle.checkpoint_laws.proofs.CheckpointsAreInOrder.ClosedWriteNoMore.{neither}
use Rattle.checkpoint_laws.proofs.CheckpointsAreInOrder.KeptRecordsWereThere.{commits_wider, aborts_wider, all_wider, none_wider, prepares_at_home_go}
use Rattle.checkpoint_laws.proofs.CheckpointsAreInOrder.WhoIsUnknown.{unknown, checked_stands}
use Rattle.checkpoint_laws.proofs.CheckpointsGoOnInOrder.ListsAreCut.{cut_of, prepares_cut}

-- ---- at the home

-- who is committed commits no more
commit_new : (shard : ℕ) (part log : List LogRecord) (r : LogRecord) (t : TxId) → may_come shard part log r ≡ true → committed_in log t ≡ true → is_commit_of t r ≡ false
commit_new shard part log (Commit tx parts) t m c =
    false_from_ne_true _ (λ s. both_ways _ (not_true _ (last _ _ (front _ _ (front _ _ (front _ _ (front _ _ (front _ _ (front _ _ m)))))))) (subst (λ z. committed_in log z ≡ true) (tx_true t tx s) c))
commit_new shard part log _ t m c = refl

commits_no_more : (shard : ℕ) (part before rs : List LogRecord) (t : TxId) → Comes shard part before rs → committed_in before t ≡ true → committed_in rs t ≡ false
commits_no_more shard part before [] t f c = refl
commits_no_more shard part before (r ∷ rs) t f c = neither _ _ (commit_new shard part before r t f.0 c) (commits_no_more shard part (before ++ r ∷ []) rs t f.1 (push_left (is_commit_of t) before r c))

if_not : (t : TxId) (b : Bool) (r : LogRecord) → is_commit_of t r ≡ false → is_commit_of t (kept_if b r) ≡ false
if_not t true r e = e
if_not t false r e = refl

prepare_not : (shard : ℕ) (log : List LogRecord) (t tx : TxId) (home : ℕ) (ps : List TxId) (b : Bool) → is_commit_of t (kept_prepare shard log tx home ps b) ≡ false
prepare_not shard log t tx home ps true = if_not t _ (Prepare tx home []) refl
prepare_not shard log t tx home ps false = if_not t _ (Prepare tx home _) refl

-- a COMMIT without parts goes, where the home of its PREPARE isn't another shard
bare_goes : (shard : ℕ) (log part before : List LogRecord) (n : ℕ) (rs : List LogRecord) (t : TxId) → Comes shard part before rs → is_away shard (prepare_of log t) ≡ false → commit_parts rs t ≡ Some [] → committed_in (kept_from shard log n rs) t ≡ false
bare_goes shard log part before n [] t f a e = refl
bare_goes shard log part before n (Commit tx parts ∷ rs) t f a e = at (tx_same t tx) refl e (λ k. bare_goes shard log part (before ++ Commit tx parts ∷ []) (suc n) rs t f.1 a k)
  where
    there : tx_same t tx ≡ true → (xs : List LogRecord) → committed_in (xs ++ Commit tx parts ∷ []) t ≡ true
    there s [] = or_left _ _ s
    there s (x ∷ xs) = or_right (is_commit_of t x) _ (there s xs)

    at : (b : Bool) → tx_same t tx ≡ b → cond b (Some parts) (commit_parts rs t) ≡ Some [] → (commit_parts rs t ≡ Some [] → committed_in (kept_from shard log (suc n) rs) t ≡ false)
        → committed_in (kept_if (some_parts parts || is_away shard (prepare_of log tx)) (Commit tx parts) ∷ kept_from shard log (suc n) rs) t ≡ false
    at true s k more =
        neither _ _
        (ap (λ ps. is_commit_of t (kept_if (some_parts ps || is_away shard (prepare_of log tx)) (Commit tx ps))) (same_Some parts [] k)
        ∙ ap (λ b. is_commit_of t (kept_if b (Commit tx []))) (subst (λ z. is_away shard (prepare_of log z) ≡ false) (tx_true t tx s) a))
        (none_wider (is_commit_of t) (commits_wider t) shard log (suc n) rs (commits_no_more shard part (before ++ Commit tx parts ∷ []) rs t f.1 (there s before)))
    at false s k more = neither _ _ (if_not t _ (Commit tx parts) s) (more k)
bare_goes shard log part before n (Prepare tx home ps ∷ rs) t f a e = neither _ _ (prepare_not shard log t tx home ps (committed_in log tx)) (bare_goes shard log part (before ++ Prepare tx home ps ∷ []) (suc n) rs t f.1 a e)
bare_goes shard log part before n (Update tx key left right ∷ rs) t f a e = neither _ _ (if_not t _ (Update tx key left right) refl) (bare_goes shard log part (before ++ Update tx key left right ∷ []) (suc n) rs t f.1 a e)
bare_goes shard log part before n (Add tx key by ∷ rs) t f a e = neither _ _ (if_not t _ (Add tx key by) refl) (bare_goes shard log part (before ++ Add tx key by ∷ []) (suc n) rs t f.1 a e)
bare_goes shard log part before n (Abort tx ∷ rs) t f a e = neither _ _ (if_not t _ (Abort tx) refl) (bare_goes shard log part (before ++ Abort tx ∷ []) (suc n) rs t f.1 a e)
bare_goes shard log part before n (Clr tx undo_next key after ∷ rs) t f a e = bare_goes shard log part (before ++ Clr tx undo_next key after ∷ []) (suc n) rs t f.1 a e
bare_goes shard log part before n (Unadd tx undo_next key by ∷ rs) t f a e = bare_goes shard log part (before ++ Unadd tx undo_next key by ∷ []) (suc n) rs t f.1 a e
bare_goes shard log part before n (End tx ∷ rs) t f a e = bare_goes shard log part (before ++ End tx ∷ []) (suc n) rs t f.1 a e
bare_goes shard log part before n (Restart run epoch ∷ rs) t f a e = bare_goes shard log part (before ++ Restart run epoch ∷ []) (suc n) rs t f.1 a e
bare_goes shard log part before n (Forgotten ∷ rs) t f a e = bare_goes shard log part (before ++ Forgotten ∷ []) (suc n) rs t f.1 a e
bare_goes shard log part before n (Check run epoch upto base ∷ rs) t f a e = absurd (both_ways false refl f.0)

at_home : (shard : ℕ) (o : Option (ℕ × List TxId)) → home_is shard o ≡ true → is_away shard o ≡ false
at_home shard None e = refl
at_home shard (Some q) e = ap not e

-- who is committed in a checkpoint by a COMMIT of its own home has parts
pub kept_has_parts : (shard : ℕ) (log : List LogRecord) → disorder shard log ≡ None → (t : TxId) (ps : List ℕ) → home_is shard (prepare_of log t) ≡ true → commit_parts log t ≡ Some ps → committed_in (check shard log) t ≡ true → some_parts ps ≡ true
kept_has_parts shard [] d t ps h e c = absurd (both_ways false refl c)
kept_has_parts shard (r ∷ rs) d t (p ∷ ps) h e c = refl
kept_has_parts shard (r ∷ rs) d t [] h e c =
    absurd (both_ways _
    (bare_goes shard (r ∷ rs) (part_of (r ∷ rs)) (r ∷ []) 1 rs t (in_order_comes shard (r ∷ rs) d).1 (at_home shard (prepare_of (r ∷ rs) t) h)
    (first_kind (λ q. commit_parts rs t ≡ commit_parts (q ∷ rs) t) (λ q k. refl) (λ q k u b. refl) r (begins shard (r ∷ rs) d) ∙ e)) c)

-- and no PREPARE stays of it
pub home_stays : (shard : ℕ) (log : List LogRecord) → disorder shard log ≡ None → (t : TxId) → home_is shard (prepare_of log t) ≡ true → committed_in log t ≡ true → home_is shard (prepare_of (check shard log) t) ≡ true
home_stays shard [] d t h c = refl
home_stays shard (r ∷ rs) d t h c =
    ap (home_is shard)
    (no_prepare (check shard (r ∷ rs)) t
    (prepares_at_home_go shard (r ∷ rs) (part_of (r ∷ rs)) t c (r ∷ []) 1 rs (in_order_comes shard (r ∷ rs) d).1
    (ap (is_away shard) (no_prepare_first shard r rs (begins shard (r ∷ rs) d) t) ∙ at_home shard (prepare_of (r ∷ rs) t) h)))

-- a COMMIT doesn't name its own shard
parts_apart : (shard : ℕ) (rs : List LogRecord) (t : TxId) (ps : List ℕ) → AllByRecursion (OtherParts shard) rs → commit_parts rs t ≡ Some ps → nat_in shard ps ≡ false
parts_apart shard [] t ps a e = absurd cc
parts_apart shard (Commit tx parts ∷ rs) t ps a e = at (tx_same t tx) e (λ k. parts_apart shard rs t ps a.1 k)
  where
    at : (b : Bool) → cond b (Some parts) (commit_parts rs t) ≡ Some ps → (commit_parts rs t ≡ Some ps → nat_in shard ps ≡ false) → nat_in shard ps ≡ false
    at true k more = subst (λ z. nat_in shard z ≡ false) (same_Some parts ps k) a.0
    at false k more = more k
parts_apart shard (_ ∷ rs) t ps a e = parts_apart shard rs t ps a.1 e

pub not_own_part : (shard : ℕ) (log : List LogRecord) → disorder shard log ≡ None → (t : TxId) (ps : List ℕ) → commit_parts log t ≡ Some ps → nat_in shard ps ≡ false
not_own_part shard log d t ps e = parts_apart shard log t ps (in_order shard log d).parts e

-- ---- on a part

-- the PREPARE of one that is committed stays without its list, where its home is another shard
prepares_bare : (shard : ℕ) (log : List LogRecord) (n : ℕ) (rs : List LogRecord) (t : TxId) (q : ℕ × List TxId) → committed_in log t ≡ true → prepare_of rs t ≡ Some q → not (q.0 == shard) ≡ true → prepare_of (kept_from shard log n rs) t ≡ Some (q.0, [])
prepares_bare shard log n [] t q c e a = absurd cc
prepares_bare shard log n (Prepare tx home listed ∷ rs) t q c e a = at (tx_same t tx) refl e (λ k. prepares_bare shard log (suc n) rs t q c k a)
  where
    at : (b : Bool) → tx_same t tx ≡ b → cond b (Some (home, listed)) (prepare_of rs t) ≡ Some q → (prepare_of rs t ≡ Some q → prepare_of (kept_from shard log (suc n) rs) t ≡ Some (q.0, []))
        → prepare_of (kept_of shard log n (Prepare tx home listed) ∷ kept_from shard log (suc n) rs) t ≡ Some (q.0, [])
    at false other k more = other_prepare shard log tx home listed (committed_in log tx) (kept_from shard log (suc n) rs) t other ∙ more k
    at true own k more =
        let is : home ≡ q.0 = ap (λ z. z.0) (same_Some (home, listed) q k) in
        ap (λ b. prepare_of (kept_prepare shard log tx home listed b ∷ kept_from shard log (suc n) rs) t) (subst (λ z. committed_in log z ≡ true) (tx_true t tx own) c)
        ∙ ap (λ b. prepare_of (kept_if b (Prepare tx home []) ∷ kept_from shard log (suc n) rs) t) (ap (λ z. not (z == shard)) is ∙ a)
        ∙ ap (λ b. cond b (Some (home, [])) (prepare_of (kept_from shard log (suc n) rs) t)) own
        ∙ ap (λ z. Some (z, [])) is
prepares_bare shard log n (Commit tx parts ∷ rs) t q c e a = other_if _ (Commit tx parts) (kept_from shard log (suc n) rs) t refl ∙ prepares_bare shard log (suc n) rs t q c e a
prepares_bare shard log n (Update tx key before after ∷ rs) t q c e a = other_if _ (Update tx key before after) (kept_from shard log (suc n) rs) t refl ∙ prepares_bare shard log (suc n) rs t q c e a
prepares_bare shard log n (Add tx key by ∷ rs) t q c e a = other_if _ (Add tx key by) (kept_from shard log (suc n) rs) t refl ∙ prepares_bare shard log (suc n) rs t q c e a
prepares_bare shard log n (Abort tx ∷ rs) t q c e a = other_if _ (Abort tx) (kept_from shard log (suc n) rs) t refl ∙ prepares_bare shard log (suc n) rs t q c e a
prepares_bare shard log n (Clr tx undo_next key after ∷ rs) t q c e a = prepares_bare shard log (suc n) rs t q c e a
prepares_bare shard log n (Unadd tx undo_next key by ∷ rs) t q c e a = prepares_bare shard log (suc n) rs t q c e a
prepares_bare shard log n (End tx ∷ rs) t q c e a = prepares_bare shard log (suc n) rs t q c e a
prepares_bare shard log n (Restart run epoch ∷ rs) t q c e a = prepares_bare shard log (suc n) rs t q c e a
prepares_bare shard log n (Forgotten ∷ rs) t q c e a = prepares_bare shard log (suc n) rs t q c e a
prepares_bare shard log n (Check run epoch upto base ∷ rs) t q c e a = prepares_bare shard log (suc n) rs t q c e a

-- of a list of those committed nothing is left
cut_away : (log : List LogRecord) (ps : List TxId) → list_all (committed_in log) ps ≡ true → filter (λ p. not (committed_in log p)) ps ≡ []
cut_away log [] e = refl
cut_away log (p ∷ ps) e =
    let x = and_parts (committed_in log p) (list_all (committed_in log) ps) e in
    ap (λ b. cond (not b) (p ∷ filter (λ q. not (committed_in log q)) ps) (filter (λ q. not (committed_in log q)) ps)) x.0 ∙ cut_away log ps x.1

-- a part agrees by a PREPARE with that home and without a list
bare_agrees : (shard home : ℕ) (log : List LogRecord) (t : TxId) (q : ℕ × List TxId) → (q.0 == home) ≡ true → prepare_of log t ≡ Some (q.0, []) → aborted_in log t ≡ false → part_agrees t home log ≡ true
bare_agrees shard home log t q h e a =
    and_from _ _ (and_from _ _ (and_from _ _ (ap is_some e) (ap (home_is home) e ∙ h)) (ap not a)) (ap (list_all (committed_in log)) (ap (λ (o : Option (ℕ × List TxId)). elim o [ Some p ↦ p.1 | None ↦ [] ]) e))

module _ (shard home : ℕ) (r : LogRecord) (rs : List LogRecord) (d : disorder shard (r ∷ rs) ≡ None) (t : TxId) (apart_ : (home == shard) ≡ false) where
  abbrev log : List LogRecord
  log = r ∷ rs

  begun : IsFirst r
  begun = begins shard log d

  agreed : (o : Option (ℕ × List TxId)) → prepare_of log t ≡ o → is_some o ≡ true → home_is home o ≡ true → not (aborted_in log t) ≡ true → list_all (committed_in log) (listed_in log t) ≡ true → part_agrees t home (check shard log) ≡ true
  agreed None own s h a l = absurd (both_ways false refl s)
  agreed (Some q) own s h a l = bare_agrees shard home (check shard log) t q h (at (committed_in log t) refl) (false_from_ne_true _ (λ x. both_ways _ (not_true _ a) (or_right (is_abort_of t r) _ (all_wider (is_abort_of t) (aborts_wider t) shard log 1 rs x))))
    where
      away : not (q.0 == shard) ≡ true
      away = ap not (subst (λ z. (z == shard) ≡ false) (sym (eqb-true q.0 home h)) apart_)

      behind : prepare_of rs t ≡ Some q
      behind = no_prepare_first shard r rs begun t ∙ own

      stood : committed_in log t ≡ false → has_standing log t ≡ true
      stood u = ⊎_elim (λ x. x) (λ x. absurd (both_ways _ (not_true _ a) x)) (open_stands shard log d t (prepared_there log t q own) u)

      at : (b : Bool) → committed_in log t ≡ b → prepare_of (check shard log) t ≡ Some (q.0, [])
      at true c = prepares_bare shard log 1 rs t q c behind away
      at false u =
          prepares_cut shard log 1 rs t u (and_from (not (committed_in log t)) (has_standing log t) (ap not u) (stood u)) ∙ ap (cut_of log) behind
          ∙ ap (λ ps. Some (q.0, ps)) (cut_away log q.1 (subst (λ o. list_all (committed_in log) (elim o [ Some p ↦ p.1 | None ↦ [] ]) ≡ true) own l))

  part_stays : part_agrees t home log ≡ true → part_agrees t home (check shard log) ≡ true
  part_stays e = let a = and_parts _ _ e in let b = and_parts _ _ a.0 in let c = and_parts _ _ b.0 in agreed (prepare_of log t) refl c.0 c.1 b.1 a.1

  away_home : (o : Option (ℕ × List TxId)) → is_some o ≡ true → home_is home o ≡ true → is_away shard o ≡ true
  away_home None s h = absurd (both_ways false refl s)
  away_home (Some q) s h = ap not (subst (λ z. (z == shard) ≡ false) (sym (eqb-true q.0 home h)) apart_)

  commit_stays : part_agrees t home log ≡ true → committed_in log t ≡ true → committed_in (check shard log) t ≡ true
  commit_stays e c =
      let a = and_parts _ _ (and_parts _ _ (and_parts _ _ e).0).0 in commits_stay shard log 1 rs t (away_home (prepare_of log t) a.0 a.1) (no_commit_first shard r rs begun t ∙ c)

none_agrees : (home : ℕ) (t : TxId) → part_agrees t home [] ≡ true → ⊥
none_agrees home t e = both_ways false refl e

pub part_agrees_still : (shard home : ℕ) (log : List LogRecord) → disorder shard log ≡ None → (t : TxId) → (home == shard) ≡ false → part_agrees t home log ≡ true → part_agrees t home (check shard log) ≡ true
part_agrees_still shard home [] d t n e = absurd (none_agrees home t e)
part_agrees_still shard home (r ∷ rs) d t n e = part_stays shard home r rs d t n e

pub part_commits_still : (shard home : ℕ) (log : List LogRecord) → disorder shard log ≡ None → (t : TxId) → (home == shard) ≡ false → part_agrees t home log ≡ true → committed_in log t ≡ true → committed_in (check shard log) t ≡ true
part_commits_still shard home [] d t n e c = absurd (none_agrees home t e)
part_commits_still shard home (r ∷ rs) d t n e c = commit_stays shard home r rs d t n e c

-- ---- where it undid all

-- who is committed isn't undone
committed_not_undone : (log : List LogRecord) (t : TxId) → committed_in log t ≡ true → list_all (λ r. not (is_record_of t r) || is_update_of t r || is_undo_of t r) log ≡ false
committed_not_undone [] t c = absurd (both_ways false refl c)
committed_not_undone (r ∷ rs) t c = at r (λ k. committed_not_undone rs t k) (or_cases (is_commit_of t r) (committed_in rs t) c)
  where
    others : Bool
    others = list_all (λ x. not (is_record_of t x) || is_update_of t x || is_undo_of t x) rs

    at : (q : LogRecord) → (committed_in rs t ≡ true → others ≡ false) → (is_commit_of t q ≡ true) ⊎ (committed_in rs t ≡ true) → ((not (is_record_of t q) || is_update_of t q || is_undo_of t q) && others) ≡ false
    at q rest (inr k) = ap (λ x. (not (is_record_of t q) || is_update_of t q || is_undo_of t q) && x) (rest k) ∙ and_no _
    at (Commit tx parts) rest (inl e) = ap (λ b. (not b || false || false) && others) e
    at _ rest (inl e) = absurd (both_ways false refl e)

pub undone_uncommitted : (log : List LogRecord) (t : TxId) → is_undone_in log t ≡ true → committed_in log t ≡ false
undone_uncommitted log t e =
    false_from_ne_true _ (λ c. both_ways _ (committed_not_undone log t c) (and_parts (not (has_standing log t)) (list_all (λ r. not (is_record_of t r) || is_update_of t r || is_undo_of t r) log) e).1)

unknown_undone : (t : TxId) (rs : List LogRecord) → is_known rs t ≡ false → list_all (λ r. not (is_record_of t r) || is_update_of t r || is_undo_of t r) rs ≡ true
unknown_undone t [] e = refl
unknown_undone t (r ∷ rs) e =
    let p = or_parts (is_record_of t r) (is_known rs t) e in and_from _ _ (ap (λ b. not b || is_update_of t r || is_undo_of t r) p.0) (unknown_undone t rs p.1)

pub undone_still : (shard : ℕ) (log : List LogRecord) → disorder shard log ≡ None → (t : TxId) → is_undone_in log t ≡ true → is_undone_in (check shard log) t ≡ true
undone_still shard [] d t e = e
undone_still shard (r ∷ rs) d t e =
    let log : List LogRecord = r ∷ rs in
    let u = undone_uncommitted log t e in
    let h : has_standing log t ≡ false = not_true _ (and_parts (not (has_standing log t)) (list_all (λ x. not (is_record_of t x) || is_update_of t x || is_undo_of t x) log) e).0 in
    and_from (not (has_standing (check shard log) t)) (list_all (λ x. not (is_record_of t x) || is_update_of t x || is_undo_of t x) (check shard log))
    (ap not (checked_stands shard r rs (begins shard log d) t ∙ ap (λ b. not (committed_in log t) && b) h ∙ and_no (not (committed_in log t))))
    (unknown_undone t (kept_from shard log 1 rs) (unknown shard r rs d t u h))
