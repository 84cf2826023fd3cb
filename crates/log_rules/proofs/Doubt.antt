-- Who bars a RESTART: who has a write that stands and is neither committed nor held.
use Rattle.std.proofs.Common.{◌≡◌, ℕ, Bool, true, false, cond, not, ◌&&◌, ◌||◌, ◌==◌, List, [], ◌∷◌, ◌++◌, Option, Some, None, is_some, ⊎_elim, refl, sym, ap, subst, ◌∙◌, append_assoc, append-nil}
use Rattle.std.specs.List.{list_any, list_all}
use Rattle.std.proofs.lemmas.Bool.{both_ways, or_cases, or_parts, or_right, false_from_ne_true, not_from_false}
use Rattle.clv_base.specs.declared.names.TxId.{TxId}
use Rattle.clv_base.specs.declared.logs.LogRecord.{LogRecord}
use Rattle.clv_base.specs.declared.logs.LogRecord.TheVariants.{Update, Clr, Prepare, Commit, Abort, End, Restart, Add, Unadd, Forgotten, Check}
use Rattle.clv_base.specs.Orders.{tx_same, tx_in, tx_insert}
use Rattle.clv_base.specs.Logs.{StandingUpdate, is_prepare_of, committed_in, prepared_in, aborted_in, prepare_of, standing, newest_of, doubt_by, in_doubt_from, in_doubt, is_winner}
use Rattle.clv_base.specs.LogRules.{listed_in}
use Rattle.clv_base.proofs.SameNames.{tx_true, tx_self, in_insert, insert_keeps, insert_has}
use Rattle.log_analysis.proofs.Laws.Bools.{and_first, and_second, and_both}
use Rattle.log_analysis.proofs.Laws.Pushes.{any_push}
use Rattle.log_rules.specs.Rules.{is_empty}
use Rattle.log_rules.proofs.SoundLogs.{EachPrepare, ListsEarlier, Sound}
use Rattle.law_base.proofs.Bools.{by_bool as both, not_true, same_truth}
use Rattle.law_base.proofs.Logs.{no_prepare}
use Rattle.law_base.proofs.Names.{all_from as all_of}

-- prepared for another home
abbrev pub is_elsewhere : ℕ → Option (ℕ × List TxId) → Bool
is_elsewhere shard None = false
is_elsewhere shard (Some p) = not (shard == p.0)

-- held: prepared for another home, without an ABORT of its own or of one that it lists
abbrev pub is_held : ℕ → List LogRecord → TxId → Bool
is_held shard log t = is_elsewhere shard (prepare_of log t) && not (aborted_in log t) && not (list_any (aborted_in log) (listed_in log t))

abbrev pub bars : ℕ → List LogRecord → TxId → Bool
bars shard log t = is_some (newest_of t (standing log)) && not (committed_in log t) && not (is_held shard log t)

-- ---- of each writer

pub all_writers : (q : TxId → Bool) (ws : List StandingUpdate) → ((t : TxId) → is_some (newest_of t ws) ≡ true → q t ≡ true) → list_all (λ w. q w.tx) ws ≡ true
all_writers q [] each = refl
all_writers q (w ∷ ws) each =
    and_both (q w.tx) (list_all (λ v. q v.tx) ws) (each w.tx (ap (λ b. is_some (cond b (Some w) (newest_of w.tx ws))) (tx_self w.tx)))
    (all_writers q ws (λ t e. each t (both (λ b. is_some (cond b (Some w) (newest_of t ws)) ≡ true) (tx_same t w.tx) (λ _. refl) (λ _. e))))

pub each_writer : (q : TxId → Bool) (ws : List StandingUpdate) → list_all (λ w. q w.tx) ws ≡ true → (t : TxId) → is_some (newest_of t ws) ≡ true → q t ≡ true
each_writer q [] all t e = absurd (both_ways _ refl e)
each_writer q (w ∷ ws) all t e =
    both (λ b. tx_same t w.tx ≡ b → is_some (cond b (Some w) (newest_of t ws)) ≡ true → q t ≡ true) (tx_same t w.tx)
    (λ _ own _. ap q (tx_true t w.tx own) ∙ and_first (q w.tx) (list_all (λ v. q v.tx) ws) all) (λ _ other h. each_writer q ws (and_second (q w.tx) (list_all (λ v. q v.tx) ws) all) t h) refl e

pub of_all : (p : TxId → Bool) (xs : List TxId) → list_all p xs ≡ true → (x : TxId) → tx_in x xs ≡ true → p x ≡ true
of_all p [] all x e = absurd (both_ways _ refl e)
of_all p (y ∷ ys) all x e =
    ⊎_elim (λ s. ap p (sym (tx_true y x s)) ∙ and_first (p y) (list_all p ys) all) (λ h. of_all p ys (and_second (p y) (list_all p ys) all) x h) (or_cases (tx_same y x) (tx_in x ys) e)

none_of : (p : TxId → Bool) (xs : List TxId) → list_any p xs ≡ false → (x : TxId) → tx_in x xs ≡ true → p x ≡ false
none_of p [] none x e = absurd (both_ways _ refl e)
none_of p (y ∷ ys) none x e =
    let parts = or_parts (p y) (list_any p ys) none in
    ⊎_elim (λ s. ap p (sym (tx_true y x s)) ∙ parts.0) (λ h. none_of p ys parts.1 x h) (or_cases (tx_same y x) (tx_in x ys) e)

none_from : (p : TxId → Bool) (xs : List TxId) → ((x : TxId) → tx_in x xs ≡ true → p x ≡ false) → list_any p xs ≡ false
none_from p [] each = refl
none_from p (x ∷ xs) each = ap (λ b. b || list_any p xs) (each x (ap (λ b. b || tx_in x xs) (tx_self x))) ∙ none_from p xs (λ y e. each y (or_right (tx_same x y) (tx_in y xs) e))

-- ---- what is in doubt is held, and what is held is in doubt

module _ (shard : ℕ) (log : List LogRecord) (s : Sound log) where
  abbrev Once : TxId → ℕ → List TxId → Type 0
  Once t home listed = prepare_of log t ≡ Some (home, listed)

  listed_once : (t : TxId) (home : ℕ) (listed : List TxId) → Once t home listed → listed_in log t ≡ listed
  listed_once t home listed once = ap (λ o. elim o [ Some p ↦ p.1 | None ↦ [] ]) once

  held_unaborted : (t : TxId) → is_held shard log t ≡ true → aborted_in log t ≡ false
  held_unaborted t held = not_true (aborted_in log t) (and_second (is_elsewhere shard (prepare_of log t)) (not (aborted_in log t)) (and_first (is_elsewhere shard (prepare_of log t) && not (aborted_in log t)) (not (list_any (aborted_in log) (listed_in log t))) held))

  -- one in doubt so far
  doubt_holds : (tx : TxId) (home : ℕ) (listed so_far : List TxId) → Once tx home listed → doubt_by log shard tx home listed so_far ≡ true → ((t : TxId) → tx_in t so_far ≡ true → is_held shard log t ≡ true) → is_held shard log tx ≡ true
  doubt_holds tx home listed so_far once doubt held =
      let a = and_first _ _ doubt in
      let each = of_all (λ p. committed_in log p || tx_in p so_far) listed (and_second _ _ doubt) in
      let unaborted : list_any (aborted_in log) listed ≡ false =
      none_from (aborted_in log) listed (λ p e. ⊎_elim (λ c. s.fates p c) (λ d. held_unaborted p (held p d)) (or_cases (committed_in log p) (tx_in p so_far) (each p e))) in
      and_both (is_elsewhere shard (prepare_of log tx) && not (aborted_in log tx)) (not (list_any (aborted_in log) (listed_in log tx)))
      (and_both (is_elsewhere shard (prepare_of log tx)) (not (aborted_in log tx)) (ap (is_elsewhere shard) once ∙ and_first _ _ (and_first _ _ a)) (and_second _ _ a))
      (ap (λ l. not (list_any (aborted_in log) l)) (listed_once tx home listed once) ∙ ap not unaborted)

  in_doubt_holds : (rest : List LogRecord) (so_far : List TxId) → EachPrepare Once rest → ((t : TxId) → tx_in t so_far ≡ true → is_held shard log t ≡ true)
      → (t : TxId) → tx_in t (in_doubt_from log shard rest so_far) ≡ true → is_held shard log t ≡ true
  in_doubt_holds [] so_far once held t e = held t e
  in_doubt_holds (Prepare tx home listed ∷ rs) so_far once held t e =
      let d = doubt_by log shard tx home listed so_far in
      in_doubt_holds rs (cond d (tx_insert tx so_far) so_far) once.1
      (both (λ b. d ≡ b → (u : TxId) → tx_in u (cond b (tx_insert tx so_far) so_far) ≡ true → is_held shard log u ≡ true) d
      (λ _ doubt u h. ⊎_elim (λ same. ap (is_held shard log) same ∙ doubt_holds tx home listed so_far once.0 doubt held) (λ old. held u old) (in_insert tx u so_far h))
      (λ _ _ u h. held u h) refl)
      t e
  in_doubt_holds (_ ∷ rs) so_far once held t e = in_doubt_holds rs so_far once held t e

  -- each undecided one with a PREPARE so far is in doubt so far
  abbrev AllDoubted : List LogRecord → List TxId → Type 0
  AllDoubted seen so_far = (t : TxId) → prepared_in seen t ≡ true → committed_in log t ≡ false → aborted_in log t ≡ false → tx_in t so_far ≡ true

  abbrev Ready : TxId → ℕ → List TxId → Type 0
  Ready t home listed = committed_in log t ≡ false → aborted_in log t ≡ false → (not (shard == home) ≡ true) × (list_any (aborted_in log) listed ≡ false)

  doubted_next : (tx : TxId) (home : ℕ) (listed : List TxId) (seen : List LogRecord) (so_far : List TxId) → Ready tx home listed → list_all (prepared_in seen) listed ≡ true → AllDoubted seen so_far
      → AllDoubted (seen ++ Prepare tx home listed ∷ []) (cond (doubt_by log shard tx home listed so_far) (tx_insert tx so_far) so_far)
  doubted_next tx home listed seen so_far ready earlier all t prepared uncommitted unaborted =
      let d = doubt_by log shard tx home listed so_far in
      ⊎_elim
      (λ old. both (λ b. tx_in t (cond b (tx_insert tx so_far) so_far) ≡ true) d (λ _. insert_keeps tx t so_far (all t old uncommitted unaborted)) (λ _. all t old uncommitted unaborted))
      (λ own.
      let same = tx_true t tx own in
      let c : committed_in log tx ≡ false = ap (committed_in log) (sym same) ∙ uncommitted in
      let a : aborted_in log tx ≡ false = ap (aborted_in log) (sym same) ∙ unaborted in
      let r = ready c a in
      let each : list_all (λ p. committed_in log p || tx_in p so_far) listed ≡ true =
      all_of (λ p. committed_in log p || tx_in p so_far) listed
      (λ p e. both (λ b. committed_in log p ≡ b → b || tx_in p so_far ≡ true) (committed_in log p) (λ _ _. refl)
      (λ _ pending. all p (of_all (prepared_in seen) listed earlier p e) pending (none_of (aborted_in log) listed r.1 p e)) refl) in
      let doubt : d ≡ true = and_both _ _ (and_both _ _ (and_both _ _ r.0 (not_from_false _ c)) (not_from_false _ a)) each in
      ap (λ b. tx_in t (cond b (tx_insert tx so_far) so_far)) doubt ∙ ap (λ u. tx_in u (tx_insert tx so_far)) same ∙ insert_has tx so_far)
      (or_cases (prepared_in seen t) (tx_same t tx) (sym (any_push (is_prepare_of t) seen (Prepare tx home listed)) ∙ prepared))

  -- another kind of record
  doubted_other : (seen : List LogRecord) (r : LogRecord) (so_far : List TxId) → ((t : TxId) → is_prepare_of t r ≡ false) → AllDoubted seen so_far → AllDoubted (seen ++ r ∷ []) so_far
  doubted_other seen r so_far other all t prepared =
      all t (⊎_elim (λ e. e) (λ e. absurd (both_ways _ (other t) e)) (or_cases (prepared_in seen t) (is_prepare_of t r) (sym (any_push (is_prepare_of t) seen r) ∙ prepared)))

  all_doubted : (seen rest : List LogRecord) (so_far : List TxId) → EachPrepare Ready rest → ListsEarlier seen rest → AllDoubted seen so_far → AllDoubted (seen ++ rest) (in_doubt_from log shard rest so_far)
  all_doubted seen [] so_far ready earlier all = subst (λ l. AllDoubted l so_far) (sym (append-nil seen)) all
  all_doubted seen (Prepare tx home listed ∷ rs) so_far ready earlier all =
      let r : LogRecord = Prepare tx home listed in
      let next = cond (doubt_by log shard tx home listed so_far) (tx_insert tx so_far) so_far in
      subst (λ l. AllDoubted l (in_doubt_from log shard rs next)) (append_assoc seen (r ∷ []) rs)
      (all_doubted (seen ++ r ∷ []) rs next ready.1 earlier.1 (doubted_next tx home listed seen so_far ready.0 earlier.0 all))
  all_doubted seen (Update tx key before after ∷ rs) so_far ready earlier all =
      let r : LogRecord = Update tx key before after in
      subst (λ l. AllDoubted l (in_doubt_from log shard rs so_far)) (append_assoc seen (r ∷ []) rs) (all_doubted (seen ++ r ∷ []) rs so_far ready earlier (doubted_other seen r so_far (λ t. refl) all))
  all_doubted seen (Clr tx undo_next key after ∷ rs) so_far ready earlier all =
      let r : LogRecord = Clr tx undo_next key after in
      subst (λ l. AllDoubted l (in_doubt_from log shard rs so_far)) (append_assoc seen (r ∷ []) rs) (all_doubted (seen ++ r ∷ []) rs so_far ready earlier (doubted_other seen r so_far (λ t. refl) all))
  all_doubted seen (Commit tx parts ∷ rs) so_far ready earlier all =
      let r : LogRecord = Commit tx parts in
      subst (λ l. AllDoubted l (in_doubt_from log shard rs so_far)) (append_assoc seen (r ∷ []) rs) (all_doubted (seen ++ r ∷ []) rs so_far ready earlier (doubted_other seen r so_far (λ t. refl) all))
  all_doubted seen (Abort tx ∷ rs) so_far ready earlier all =
      let r : LogRecord = Abort tx in
      subst (λ l. AllDoubted l (in_doubt_from log shard rs so_far)) (append_assoc seen (r ∷ []) rs) (all_doubted (seen ++ r ∷ []) rs so_far ready earlier (doubted_other seen r so_far (λ t. refl) all))
  all_doubted seen (End tx ∷ rs) so_far ready earlier all =
      let r : LogRecord = End tx in
      subst (λ l. AllDoubted l (in_doubt_from log shard rs so_far)) (append_assoc seen (r ∷ []) rs) (all_doubted (seen ++ r ∷ []) rs so_far ready earlier (doubted_other seen r so_far (λ t. refl) all))
  all_doubted seen (Restart run epoch ∷ rs) so_far ready earlier all =
      let r : LogRecord = Restart run epoch in
      subst (λ l. AllDoubted l (in_doubt_from log shard rs so_far)) (append_assoc seen (r ∷ []) rs) (all_doubted (seen ++ r ∷ []) rs so_far ready earlier (doubted_other seen r so_far (λ t. refl) all))
  all_doubted seen (Add tx key by ∷ rs) so_far ready earlier all =
      let r : LogRecord = Add tx key by in
      subst (λ l. AllDoubted l (in_doubt_from log shard rs so_far)) (append_assoc seen (r ∷ []) rs) (all_doubted (seen ++ r ∷ []) rs so_far ready earlier (doubted_other seen r so_far (λ t. refl) all))
  all_doubted seen (Unadd tx undo_next key by ∷ rs) so_far ready earlier all =
      let r : LogRecord = Unadd tx undo_next key by in
      subst (λ l. AllDoubted l (in_doubt_from log shard rs so_far)) (append_assoc seen (r ∷ []) rs) (all_doubted (seen ++ r ∷ []) rs so_far ready earlier (doubted_other seen r so_far (λ t. refl) all))
  all_doubted seen (Forgotten ∷ rs) so_far ready earlier all =
      let r : LogRecord = Forgotten in
      subst (λ l. AllDoubted l (in_doubt_from log shard rs so_far)) (append_assoc seen (r ∷ []) rs) (all_doubted (seen ++ r ∷ []) rs so_far ready earlier (doubted_other seen r so_far (λ t. refl) all))
  all_doubted seen (Check run' epoch' upto base ∷ rs) so_far ready earlier all =
      let r : LogRecord = Check run' epoch' upto base in
      subst (λ l. AllDoubted l (in_doubt_from log shard rs so_far)) (append_assoc seen (r ∷ []) rs) (all_doubted (seen ++ r ∷ []) rs so_far ready earlier (doubted_other seen r so_far (λ t. refl) all))

  -- ---- nobody bars a RESTART exactly where all writers are winners

  abbrev NobodyBars : Type 0
  NobodyBars = (t : TxId) → bars shard log t ≡ false

  -- a writer that isn't committed is held
  held_from : NobodyBars → (t : TxId) → is_some (newest_of t (standing log)) ≡ true → committed_in log t ≡ false → is_held shard log t ≡ true
  held_from nobody t stands pending = not_held (is_some (newest_of t (standing log))) (committed_in log t) (is_held shard log t) stands pending (nobody t)
    where
      not_held : (a b h : Bool) → a ≡ true → b ≡ false → a && not b && not h ≡ false → h ≡ true
      not_held true false true e f g = refl
      not_held true false false e f g = absurd cc
      not_held true true h e f g = absurd cc
      not_held false b h e f g = absurd cc

  prepared_once : (t : TxId) (p : ℕ × List TxId) → prepare_of log t ≡ Some p → prepared_in log t ≡ true
  prepared_once t p is = both (λ b. prepared_in log t ≡ b → b ≡ true) (prepared_in log t) (λ _ _. refl) (λ _ e. let none : prepare_of log t ≡ None = no_prepare log t e in absurd cc) refl

  ready : NobodyBars → (t : TxId) (home : ℕ) (listed : List TxId) → Once t home listed → Ready t home listed
  ready nobody t home listed once pending unaborted =
      let held = held_from nobody t (s.stands t (prepared_once t (home, listed) once) unaborted) pending in
      let a = and_first _ _ held in
      (sym (ap (is_elsewhere shard) once) ∙ and_first _ _ a, sym (ap (list_any (aborted_in log)) (listed_once t home listed once)) ∙ not_true _ (and_second _ _ held))

  each_ready : NobodyBars → (rest : List LogRecord) → EachPrepare Once rest → EachPrepare Ready rest
  each_ready nobody [] once = tt
  each_ready nobody (Prepare tx home listed ∷ rs) once = (ready nobody tx home listed once.0, each_ready nobody rs once.1)
  each_ready nobody (_ ∷ rs) once = each_ready nobody rs once

  held_prepared : (t : TxId) → is_held shard log t ≡ true → prepared_in log t ≡ true
  held_prepared t held =
      let elsewhere : is_elsewhere shard (prepare_of log t) ≡ true = and_first _ _ (and_first _ _ held) in
      both (λ b. prepared_in log t ≡ b → b ≡ true) (prepared_in log t) (λ _ _. refl) (λ _ e. absurd (both_ways _ (ap (is_elsewhere shard) (no_prepare log t e)) elsewhere)) refl

  winner_from : NobodyBars → (t : TxId) → is_some (newest_of t (standing log)) ≡ true → is_winner shard log t ≡ true
  winner_from nobody t stands =
      both (λ b. committed_in log t ≡ b → b || tx_in t (in_doubt shard log) ≡ true) (committed_in log t) (λ _ _. refl)
      (λ _ pending.
      let held = held_from nobody t stands pending in
      all_doubted [] log [] (each_ready nobody log s.once) s.earlier (λ u e _ _. absurd (both_ways _ refl e)) t (held_prepared t held) pending (held_unaborted t held)) refl

  bars_not : (t : TxId) → (is_some (newest_of t (standing log)) ≡ true → is_winner shard log t ≡ true) → bars shard log t ≡ false
  bars_not t winner =
      false_from_ne_true _
      (λ e.
      let a = and_first _ _ e in
      let pending = not_true _ (and_second _ _ a) in
      ⊎_elim (λ c. both_ways _ pending c)
      (λ d. both_ways _ (not_true _ (and_second _ _ e)) (in_doubt_holds log [] s.once (λ u h. absurd (both_ways _ refl h)) t d))
      (or_cases (committed_in log t) (tx_in t (in_doubt shard log)) (winner (and_first _ _ a))))

  pub nobody_is : (members : List TxId) → ((t : TxId) → tx_in t members ≡ bars shard log t) → is_empty members ≡ list_all (λ w. is_winner shard log w.tx) (standing log)
  nobody_is members is =
      same_truth (is_empty members) (list_all (λ w. is_winner shard log w.tx) (standing log))
      (λ e. all_writers (is_winner shard log) (standing log) (winner_from (λ t. sym (is t) ∙ no_member members e t)))
      (λ e. empty_from members (λ t. is t ∙ bars_not t (each_writer (is_winner shard log) (standing log) e t)))
    where
      no_member : (xs : List TxId) → is_empty xs ≡ true → (t : TxId) → tx_in t xs ≡ false
      no_member [] e t = refl
      no_member (x ∷ xs) e t = absurd cc

      empty_from : (xs : List TxId) → ((t : TxId) → tx_in t xs ≡ false) → is_empty xs ≡ true
      empty_from [] none = refl
      empty_from (x ∷ xs) none = absurd (both_ways _ (none x) (ap (λ b. b || tx_in x xs) (tx_self x)))
