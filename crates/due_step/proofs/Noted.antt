-- Whom what is found touches is among the doomed, and is whom the law of the step touches.
use Rattle.std.proofs.Common.{◌≡◌, refl, sym, ap, subst, ◌∙◌, ⊎_elim, ◌≤◌, Bool, true, false, ◌&&◌, ◌||◌, List, [], ◌∷◌, map, length}
use Rattle.std.proofs.lemmas.Bool.{both_ways, or_cases, and_parts}
use Rattle.clv_base.specs.declared.names.TxId.{TxId}
use Rattle.clv_base.specs.declared.state.Ruling.{Ruling}
use Rattle.clv_base.specs.declared.state.Ruling.TheVariants.{Commit as CommitVerdict, Acknowledge, Abort as AbortVerdict, End as EndVerdict}
use Rattle.clv_base.specs.Orders.{tx_same, tx_in, tx_insert}
use Rattle.clv_base.specs.State.{Local, is_present}
use Rattle.clv_base.specs.Undo.{doomed_by, doomed_here, stage_of}
use Rattle.clv_base.proofs.SameNames.{or_left, or_right, in_insert, tx_flip}
use Rattle.protocol_laws.specs.UndoLaws.{is_pair}
use Rattle.protocol_laws.proofs.Laws.{doomed_is_closure}
use Rattle.law_base.proofs.Sets.{in_filter}
use Rattle.protocol_laws.specs.Changes.{successors_of}
use Rattle.protocol_laws.proofs.Laws.{in_append}
use Rattle.tx_table.specs.Held.{Candidates, HasRoomBy}
use Rattle.due_step.specs.declared.finding.Due.{Due}
use Rattle.due_step.specs.declared.finding.Due.TheVariants.{Commit, Vote as DueVote, Ruling as DueRuling}
use Rattle.due_step.specs.Covering.{touched}
use Rattle.due_step.proofs.Touched.{carried_covers}
use Rattle.due_step.specs.Noting.{ruled_touches, touches, NotedCovers, DoomedHaveRoom}
use Rattle.due_step.proofs.Concerned.{pair_of}

pub own_doomed : (l : Local) (tx : TxId) → tx_in tx (doomed_by l tx) ≡ true
own_doomed l tx = (doomed_is_closure l tx).0

pub ruled_doomed : (l : Local) (tx : TxId) (r : Ruling) (x : TxId) → ruled_touches l tx r x ≡ true → tx_in x (doomed_by l tx) ≡ true
ruled_doomed l tx (CommitVerdict parts) x e = (doomed_is_closure l tx).1 x tx e (own_doomed l tx)
ruled_doomed l tx Acknowledge x e = absurd (both_ways false refl e)
ruled_doomed l tx (AbortVerdict cause to) x e = e
ruled_doomed l tx EndVerdict x e = absurd (both_ways false refl e)

-- with one put in that passes, there is room for those of them that pass another test
pub room_more : (p q : TxId → Bool) (tx : TxId) (c d : Candidates) → HasRoomBy p c → p tx ≡ true → d.txs ≡ tx_insert tx c.txs → d.limit ≡ c.limit → ((x : TxId) → q x ≡ true → p x ≡ true) → HasRoomBy q d
room_more p q tx c d r e txs limit all = (
  r.0,
  λ x i. ⊎_elim (λ s. subst (λ z. tx_in z r.0 ≡ true) (sym s) (r.2 tx e)) (λ h. r.1 x h) (in_insert tx x c.txs (sym (ap (tx_in x) txs) ∙ i)),
  λ x i. r.2 x (all x i),
  subst (λ n. length r.0 ≤ n) (sym limit) r.3,
)

-- of its own and others, those that pass
after_own : (a b q : Bool) → (b ≡ true → q ≡ true) → (a || b) ≡ true → (q || a) ≡ true
after_own a b q more e = ⊎_elim (λ h. or_right q a h) (λ h. or_left q a (more h)) (or_cases a b e)

just_own : (a : Bool) → (a || false) ≡ true → a ≡ true
just_own true e = refl
just_own false e = e

touched_in : (l : Local) (tx : TxId) (due : Due) (x : TxId) → tx_in x (touched l tx due) ≡ true → touches l tx due x ≡ true
touched_in l tx Commit x e = just_own (tx_same tx x) e
touched_in l tx (DueVote vote) x e = just_own (tx_same tx x) e
touched_in l tx (DueRuling (CommitVerdict parts)) x e = after_own (tx_same tx x) (tx_in x (successors_of l.pairs tx)) (is_pair l.pairs x tx) (pair_of x tx l.pairs) e
touched_in l tx (DueRuling Acknowledge) x e = just_own (tx_same tx x) e
touched_in l tx (DueRuling (AbortVerdict cause to)) x e =
    after_own (tx_same tx x) (tx_in x (doomed_here l tx)) (tx_in x (doomed_by l tx)) (λ h. (in_filter (λ t. is_present (stage_of l t)) x (doomed_by l tx) h).0) e
touched_in l tx (DueRuling EndVerdict) x e = just_own (tx_same tx x) e

pub noted_covers : NotedCovers
noted_covers s tx due txs more cover put t e =
    let l = s.local in
    put t ∙ ⊎_elim (λ i. or_left (touches l tx due t) _ (touched_in l tx due t i)) (λ i. or_right (touches l tx due t) _ i)
    (or_cases (tx_in t (touched l tx due)) (tx_in t txs) (sym (in_append t (touched l tx due) txs) ∙ carried_covers s tx due txs cover t e))

-- ---- room for the doomed

pair_first : (t p : TxId) (pairs : List (TxId × TxId)) → is_pair pairs t p ≡ true → tx_in t (map (λ q. q.0) pairs) ≡ true
pair_first t p [] e = absurd (both_ways false refl e)
pair_first t p (q ∷ qs) e =
    ⊎_elim (λ h. or_left (tx_same q.0 t) _ (tx_flip t q.0 (and_parts _ _ h).0)) (λ h. or_right (tx_same q.0 t) _ (pair_first t p qs h)) (or_cases (tx_same t q.0 && tx_same p q.1) (is_pair qs t p) e)

pub doomed_have_room : DoomedHaveRoom
doomed_have_room l tx c all held own among few = (all, held, λ x e. (doomed_is_closure l tx).2 all own (λ t p h i. among t (pair_first t p l.pairs h)) x e, few)
