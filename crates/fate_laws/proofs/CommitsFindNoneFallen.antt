-- Those that fell by a journal's entries fell in the history.
use Rattle.std.proofs.Common.{◌≡◌, ◌⊎◌, inl, inr, ⊎_elim, refl, sym, ap, subst, ◌∙◌, ℕ, true, false, cond, not, Bool, ◌&&◌, ◌==◌, List, [], ◌∷◌, ◌++◌, map, append_assoc, append-nil, eqb-true}
use Rattle.std.proofs.lemmas.Bool.{both_ways, and_parts, or_cases, not-true, false_from_ne_true}
use Rattle.std.proofs.lemmas.List.Folds.{list_any-append}
use Rattle.clv_base.specs.declared.names.TxId.{TxId}
use Rattle.clv_base.specs.declared.logs.LogRecord.{LogRecord}
use Rattle.clv_base.specs.declared.events.Event.{Event}
use Rattle.clv_base.specs.declared.events.Event.TheVariants.{Restart}
use Rattle.clv_base.specs.declared.events.Entry.{Entry}
use Rattle.clv_base.specs.LogRules.{log_of}
use Rattle.clv_base.specs.Logs.{committed_in}
use Rattle.clv_base.specs.Orders.{tx_same, tx_in}
use Rattle.clv_base.specs.State.{Shard, is_present}
use Rattle.clv_base.specs.Undo.{stage_of}
use Rattle.clv_base.specs.Journals.{History, journal_of, start_of, after_entry, after_entries}
use Rattle.law_base.proofs.Sets.{in_filter}
use Rattle.history_cases.proofs.Merging.{Placed}
use Rattle.history_cases.proofs.Worlds.{state_at, journal_append}
use Rattle.shard_laws.specs.OneShard.{is_doomed}
use Rattle.fate_laws.specs.Falls.{IsLeftOut, WasLeftOut, Fell, falls_by, fallen_in, fallen_on, CommitsFindNoneFallen}
use Rattle.fate_laws.proofs.FallenAreUncommitted.FrontsKeepOutUncommitted.{walk_on}
use Rattle.fate_laws.proofs.FallenAreUncommitted.{commits_find_the_unfallen}

fallen_push : (log : List LogRecord) (s : Shard) (es : List Entry) (e : Entry) (so_far : List TxId) → fallen_in log s (es ++ e ∷ []) so_far ≡ falls_by e.event (after_entries log s es) (after_entry log (after_entries log s es) e) ++ fallen_in log s es so_far
fallen_push log s [] e so_far = refl
fallen_push log s (x ∷ xs) e so_far = fallen_push log (after_entry log s x) xs e (falls_by x.event s (after_entry log s x) ++ so_far)

entries_push : (log : List LogRecord) (s : Shard) (es : List Entry) (e : Entry) → after_entries log s (es ++ e ∷ []) ≡ after_entry log (after_entries log s es) e
entries_push log s [] e = refl
entries_push log s (x ∷ xs) e = entries_push log (after_entry log s x) xs e

journal_by : (n : ℕ) (e : Placed) (pre : History) (b : Bool) → (e.0 == n) ≡ b → journal_of n (pre ++ e ∷ []) ≡ journal_of n pre ++ cond b (e.1 ∷ []) []
journal_by n e pre b d = journal_append n pre (e ∷ []) ∙ ap (λ c. journal_of n pre ++ cond c (e.1 ∷ []) []) d

later : (before after : List (List LogRecord)) (pre : History) (e : Placed) (n : ℕ) (tx : TxId) → Fell before pre after n tx → Fell before (pre ++ e ∷ []) after n tx
later before after pre e n tx (inl (f, x, rest, z, v, l)) = inl (f, x, rest ++ e ∷ [], sym (append_assoc f ((n, x) ∷ rest) (e ∷ [])) ∙ ap (λ y. y ++ e ∷ []) z, v, l)
later before after pre e n tx (inr (f, rest, z, d)) = inr (f, rest ++ e ∷ [], sym (append_assoc f rest (e ∷ [])) ∙ ap (λ y. y ++ e ∷ []) z, d)

-- whom an entry counts
by_event : (s t : Shard) (tx : TxId) (ev : Event) → tx_in tx (falls_by ev s t) ≡ true → ((ev ≡ Restart) × IsLeftOut s t tx) ⊎ (is_doomed (stage_of t.local tx) ≡ true)
by_event s t tx Restart i =
    let f = (in_filter (λ u. is_present (stage_of s.local u) && not (is_present (stage_of t.local u)) && not (committed_in t.local.log u)) tx (map (λ p. p.0) s.local.parts) i).1 in
    let a = and_parts (is_present (stage_of s.local tx) && not (is_present (stage_of t.local tx))) (not (committed_in t.local.log tx)) f in
    let b = and_parts (is_present (stage_of s.local tx)) (not (is_present (stage_of t.local tx))) a.0 in
    inl (refl, (b.0, not-true _ b.1, not-true _ a.1))
by_event s t tx _ i = inr (in_filter (λ u. is_doomed (stage_of t.local u)) tx (map (λ p. p.0) t.local.parts) i).1

Counted : (before after : List (List LogRecord)) (n : ℕ) (pre : History) → Type 0
Counted before after n pre = (tx : TxId) → tx_in tx (fallen_on before pre after n) ≡ true → Fell before pre after n tx

counted_next : (before after : List (List LogRecord)) (n : ℕ) (pre : History) (e : Placed) → Counted before after n pre → Counted before after n (pre ++ e ∷ [])
unfolding Counted
counted_next before after n pre e k tx i = at (e.0 == n) refl
  where
    log : List LogRecord
    log = log_of after n

    start : Shard
    start = start_of before n

    es : List Entry
    es = journal_of n pre

    s : Shard
    s = state_at before after n pre

    left_out_at : e.0 ≡ n → (e.1).event ≡ Restart → IsLeftOut (state_at before after n pre) (state_at before after n (pre ++ e ∷ [])) tx → WasLeftOut before (pre ++ e ∷ []) after n tx
    left_out_at m v z =
        let g : (n, e.1) ≡ e = ap (λ k. (k, e.1)) (sym m) in
        (pre, e.1, [], ap (λ k. pre ++ k ∷ []) g, v, subst (λ (k : Placed). IsLeftOut (state_at before after n pre) (state_at before after n (pre ++ k ∷ [])) tx) (sym g) z)

    at : (b : Bool) → (e.0 == n) ≡ b → Fell before (pre ++ e ∷ []) after n tx
    at false d =
        let j = journal_by n e pre false d ∙ append-nil (journal_of n pre) in
        later before after pre e n tx (k tx (subst (λ z. tx_in tx (fallen_in (log_of after n) (start_of before n) z []) ≡ true) j i))
    at true d =
        let j = journal_by n e pre true d in
        let now : state_at before after n (pre ++ e ∷ []) ≡ after_entry (log_of after n) (state_at before after n pre) e.1 = ap (after_entries (log_of after n) (start_of before n)) j ∙ entries_push (log_of after n) (start_of before n) (journal_of n pre) e.1 in
        let all = subst (λ z. tx_in tx z ≡ true) (ap (λ z. fallen_in (log_of after n) (start_of before n) z []) j ∙ fallen_push (log_of after n) (start_of before n) (journal_of n pre) e.1 []) i in
        let new = falls_by (e.1).event (state_at before after n pre) (after_entry (log_of after n) (state_at before after n pre) e.1) in
        ⊎_elim
        (λ f. ⊎_elim (λ z. inl (left_out_at (eqb-true e.0 n d) z.0 (subst (λ y. IsLeftOut (state_at before after n pre) y tx) (sym now) z.1))) (λ z. inr (pre ++ e ∷ [], [], append-nil (pre ++ e ∷ []), subst (λ (y : Shard). is_doomed (stage_of y.local tx) ≡ true) (sym now) z))
        (by_event (state_at before after n pre) (after_entry (log_of after n) (state_at before after n pre) e.1) tx (e.1).event f))
        (λ f. later before after pre e n tx (k tx f))
        (or_cases (tx_in tx new) (tx_in tx (fallen_on before pre after n)) (sym (list_any-append (λ x. tx_same x tx) new (fallen_on before pre after n)) ∙ all))

counted_start : (before after : List (List LogRecord)) (n : ℕ) → Counted before after n []
unfolding Counted
counted_start before after n tx i = absurd (both_ways false refl i)

pub counted_fell : (before after : List (List LogRecord)) (n : ℕ) (pre : History) (tx : TxId) → tx_in tx (fallen_on before pre after n) ≡ true → Fell before pre after n tx
unfolding Counted
counted_fell before after n pre tx i = walk_on (Counted before after n) pre [] pre [] (append-nil pre) (λ f e r z k. counted_next before after n f e k) (counted_start before after n) tx i

pub commits_find_none_fallen : CommitsFindNoneFallen
commits_find_none_fallen splits before so_far n e later after tx to home stamp l q t u =
    false_from_ne_true _ (λ i. commits_find_the_unfallen splits before so_far n e later after tx to home stamp l q t u (counted_fell before after n so_far tx i))
