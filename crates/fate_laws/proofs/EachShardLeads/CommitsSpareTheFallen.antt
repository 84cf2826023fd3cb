-- Who fell on a shard so far, and that no commit finds one that did.
use Rattle.std.proofs.Common.{◌≡◌, ◌⊎◌, inl, inr, refl, sym, ap, subst, ◌∙◌, ℕ, Bool, true, false, not, ◌&&◌, List, [], ◌∷◌, ◌++◌}
use Rattle.std.proofs.lemmas.Bool.{both_ways, and_parts}
use Rattle.clv_base.specs.declared.names.TxId.{TxId}
use Rattle.clv_base.specs.declared.logs.LogRecord.{LogRecord}
use Rattle.clv_base.specs.declared.messages.Message.TheVariants.{Decide}
use Rattle.clv_base.specs.declared.events.Event.TheVariants.{Deliver, Restart}
use Rattle.clv_base.specs.declared.events.Outcome.TheVariants.{Taken}
use Rattle.clv_base.specs.declared.events.Entry.{Entry}
use Rattle.clv_base.specs.Logs.{committed_in}
use Rattle.clv_base.specs.State.{Shard, is_present}
use Rattle.clv_base.specs.Undo.{stage_of}
use Rattle.clv_base.specs.Journals.{History}
use Rattle.clv_base.specs.History.{state_before}
use Rattle.history_laws.specs.Openings.{LegalFrom}
use Rattle.shard_laws.specs.OneShard.{is_doomed}
use Rattle.fate_laws.specs.Falls.{Fell}
use Rattle.fate_laws.proofs.FallenAreUncommitted.{commits_find_the_unfallen}

-- a restart of the shard left the transaction out: it was there before, and then is neither there nor committed
abbrev pub is_left_out : Shard → Shard → TxId → Bool
is_left_out s t tx = is_present (stage_of s.local tx) && not (is_present (stage_of t.local tx)) && not (committed_in t.local.log tx)

-- the transaction fell on the shard so far: after some front an abort has taken its part away, or a restart left it out
abbrev pub FellOn : List (List LogRecord) → History → List (List LogRecord) → ℕ → TxId → Type 0
FellOn before so_far after n tx =
    (front : History) × (rest : History) × (front ++ rest ≡ so_far)
    × ((is_doomed (stage_of (state_before before front after n).local tx) ≡ true)
    ⊎ ((e : Entry) × (more : History) × (rest ≡ (n, e) ∷ more) × (e.event ≡ Restart)
    × (is_left_out (state_before before front after n) (state_before before (front ++ (n, e) ∷ []) after n) tx ≡ true)))

-- in the words of the laws of who falls
pub fell_is : (before : List (List LogRecord)) (so_far : History) (after : List (List LogRecord)) (n : ℕ) (tx : TxId) → FellOn before so_far after n tx → Fell before so_far after n tx
fell_is before so_far after n tx (front, rest, q, inl d) = inr (front, rest, q, d)
fell_is before so_far after n tx (front, rest, q, inr (e, more, r, v, o)) =
    let s = state_before before front after n in
    let t = state_before before (front ++ (n, e) ∷ []) after n in
    let a = and_parts (is_present (stage_of s.local tx) && not (is_present (stage_of t.local tx))) (not (committed_in t.local.log tx)) o in
    let b = and_parts (is_present (stage_of s.local tx)) (not (is_present (stage_of t.local tx))) a.0 in
    inl (front, e, more, ap (λ z. front ++ z) (sym r) ∙ q, v, (b.0, is_not (is_present (stage_of t.local tx)) b.1, is_not (committed_in t.local.log tx) a.1))
  where
    is_not : (b : Bool) → not b ≡ true → b ≡ false
    is_not true e = absurd (both_ways false refl e)
    is_not false e = refl

pub commits_spare_the_fallen : {splits : List ℕ} {before after : List (List LogRecord)} {h : History} → LegalFrom splits before h after
    → (so_far : History) (n : ℕ) (e : Entry) (later : History) (tx : TxId) (to home stamp : ℕ) → so_far ++ (n, e) ∷ later ≡ h → e.event ≡ Deliver (Decide to tx home true) stamp
    → e.outcome ≡ Taken → committed_in (state_before before so_far after n).local.log tx ≡ false → FellOn before so_far after n tx → ⊥
commits_spare_the_fallen {splits} {before} {after} l so_far n e later tx to home stamp q v o u f =
    commits_find_the_unfallen splits before so_far n e later after tx to home stamp (subst (λ z. LegalFrom splits before z after) (sym q) l) v o u (fell_is before so_far after n tx f)
