-- Where nothing is due, no undecided request has a reason to be refused.
use Rattle.std.proofs.Common.{◌≡◌, ⊎_elim, refl, sym, ap, subst, ◌∙◌, ℕ, true, false, Bool, List, [], ◌∷◌, Option, Some, None, ◌&&◌, ◌==◌}
use Rattle.std.specs.Map.{keys_of}
use Rattle.std.specs.List.{list_all}
use Rattle.std.proofs.lemmas.Bool.{both_ways, and_parts, or_cases}
use Rattle.clv_base.specs.declared.names.TxId.{TxId}
use Rattle.clv_base.specs.declared.causes.NoWhy.{NoWhy}
use Rattle.clv_base.specs.declared.causes.AbortCause.{AbortCause}
use Rattle.clv_base.specs.declared.state.Request.{Request}
use Rattle.clv_base.specs.declared.state.RequestState.TheVariants.{Undecided}
use Rattle.clv_base.specs.declared.state.Ruling.{Ruling}
use Rattle.clv_base.specs.Orders.{tx_same, tx_in, tx_get, tx_union}
use Rattle.clv_base.specs.State.{Shard}
use Rattle.clv_base.specs.Undo.{stage_of}
use Rattle.clv_base.specs.Facts.{doom_by, facts_of, is_waiting}
use Rattle.clv_base.specs.Coordinator.{others, vote_from, is_good, is_agreed, first_no, cause_by, refusal, refused_ruling, undecided_ruling, ruling_in, ruling_by}
use Rattle.clv_base.specs.Due.{or_else, rule, request_due, due_of, first_due, known_txs, next_due}
use Rattle.clv_base.proofs.SameNames.{tx_true}
use Rattle.law_base.proofs.Changed.{none_some}
use Rattle.law_base.proofs.Sets.{union_right}
use Rattle.shard_laws.proofs.Events.DueKeeps.{waiting_here}
use Rattle.fate_laws.proofs.CausesStand.VotersAreParts.{VotesFit, all_good}
use Rattle.law_base.proofs.Names.{has_key}

-- ---- what is known is looked at

none_due : (s : Shard) (txs : List TxId) (t : TxId) → first_due s txs ≡ None → tx_in t txs ≡ true → due_of s t ≡ None
none_due s [] t e i = absurd (both_ways false refl i)
none_due s (x ∷ xs) t e i = at (due_of s x) refl e (none_due s xs t)
  where
    at : (o : Option Shard) → due_of s x ≡ o → ◌≡◌ {A = Option Shard} (elim o [ Some u ↦ Some u | None ↦ first_due s xs ]) None → (first_due s xs ≡ None → tx_in t xs ≡ true → due_of s t ≡ None) → due_of s t ≡ None
    at None q f k = ⊎_elim (λ a. subst (λ z. due_of s z ≡ None) (tx_true x t a) q) (λ a. k f a) (or_cases (tx_same x t) (tx_in t xs) i)
    at (Some u) q f k = absurd (none_some u (sym f))

last_none : (a b : Option Shard) → or_else a b ≡ None → b ≡ None
last_none None b e = e
last_none (Some s) b e = absurd (none_some s (sym e))

rule_none : (s : Shard) (t : TxId) (q : Request) (o : Option Ruling) → rule s t q o ≡ None → o ≡ None
rule_none s t q None e = refl
rule_none s t q (Some r) e = absurd (none_some _ (sym e))

-- ---- an undecided request

refused_none : (shard : ℕ) (q : Request) (o : Option AbortCause) → refused_ruling shard q o ≡ None → o ≡ None
refused_none shard q None e = refl
refused_none shard q (Some c) e = absurd (none_some _ (sym e))

cause_parts : (t : TxId) (a : Option AbortCause) (d : Option TxId) → cause_by t a d ≡ None → (a ≡ None) × (d ≡ None)
cause_parts t None None e = (refl, refl)
cause_parts t None (Some d) e = absurd (none_some _ (sym e))
cause_parts t (Some c) d e = absurd (none_some _ (sym e))

-- nothing speaks against it: no vote, and no abort that took its part away
abbrev pub Unopposed : Shard → TxId → Request → Type 0
Unopposed s t q = (first_no q.votes ≡ None) × (doom_by (stage_of s.local t) ≡ None)

undecided_none : (T : ℕ → NoWhy → Type 0) (s : Shard) (t : TxId) (q : Request) (b : Bool) → is_agreed s.shard q (facts_of s t) ≡ b → undecided_ruling s.shard t q (facts_of s t) b ≡ None → VotesFit (others s.shard q.touched) T q.votes → Unopposed s t q
undecided_none T s t q false e n a = cause_parts t (first_no q.votes) (doom_by (stage_of s.local t)) (refused_none s.shard q (refusal t q (facts_of s t)) n)
undecided_none T s t q true e n a =
    let f = facts_of s t in
    let p = and_parts (is_waiting f && (f.undecided == 0)) (list_all (λ p. is_good (vote_from p q.votes)) (others s.shard q.touched)) e in
    let c = (waiting_here s t (and_parts (is_waiting f) (f.undecided == 0) p.0).0).0 in
    (all_good (others s.shard q.touched) T q.votes a p.1, ap doom_by c)

pub unopposed : (T : ℕ → NoWhy → Type 0) (s : Shard) (t : TxId) (q : Request) → next_due s ≡ None → tx_get t s.requests ≡ Some q → q.state ≡ Undecided → VotesFit (others s.shard q.touched) T q.votes → Unopposed s t q
unopposed T s t q n g u a =
    let k = union_right t (keys_of s.local.parts) (tx_union (keys_of s.voters) (keys_of s.requests)) (union_right t (keys_of s.voters) (keys_of s.requests) (has_key t q s.requests g)) in
    let d = last_none _ _ (last_none _ _ (none_due s (known_txs s) t n k)) in
    let r = rule_none s t q (ruling_by s.shard t q (facts_of s t)) (sym (ap (request_due s t) g) ∙ d) in
    undecided_none T s t q (is_agreed s.shard q (facts_of s t)) refl (sym (ap (ruling_in s.shard t q (facts_of s t)) u) ∙ r) a
