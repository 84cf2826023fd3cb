-- Which requests wait, through votes, acknowledgements and rulings.
use Rattle.std.proofs.Common.{◌≡◌, ⊎_elim, ℕ, Bool, true, false, cond, not, ◌&&◌, ◌==◌, List, [], ◌∷◌, Option, Some, None, refl, sym, ap, subst, ◌∙◌}
use Rattle.std.proofs.lemmas.Bool.{both_ways, and_parts, and_from, or_cases, or_parts}
use Rattle.std.specs.List.{filter, list_all, list_any}
use Rattle.std.specs.declared.cmp.Ordering.{Ordering}
use Rattle.std.specs.declared.cmp.Ordering.TheVariants.{Less, Equal, Greater}
use Rattle.std.specs.Ordering.{nat_cmp, match_ordering}
use Rattle.clv_base.specs.declared.names.TxId.{TxId}
use Rattle.clv_base.specs.declared.causes.AbortCause.{AbortCause}
use Rattle.clv_base.specs.declared.causes.Vote.{Vote}
use Rattle.clv_base.specs.declared.parts.PartFacts.{PartFacts}
use Rattle.clv_base.specs.declared.state.Request.{Request}
use Rattle.clv_base.specs.declared.state.RequestState.{RequestState}
use Rattle.clv_base.specs.declared.state.RequestState.TheVariants.{Undecided, Committed, Finished, Refused}
use Rattle.clv_base.specs.declared.state.Ruling.TheVariants.{Acknowledge, End}
use Rattle.clv_base.specs.Orders.{Table, nat_in, nat_insert, tx_get, tx_in, tx_same, tx_set}
use Rattle.clv_base.specs.Facts.{has_durable_predecessors}
use Rattle.clv_base.specs.Coordinator.{others, is_agreed, agreed_ruling, end_ruling, refusal, refused_ruling, undecided_ruling, ruling_in, ruling_by, with_vote_of, with_done_of}
use Rattle.clv_base.proofs.SameNames.{or_left, or_right}
use Rattle.tx_table.specs.Index.{IsIndex}
use Rattle.tx_table.proofs.Laws.{index_kept}
use Rattle.two_phase_commit.specs.Coordinated.{ruled}
use Rattle.two_phase_commit.specs.Waiting.{waits, waits_in}

-- ---- a vote

vote_in : (shard from : ℕ) (vote : Vote) (q : Request) (st : RequestState) → waits_in shard (with_vote_of from vote q) st ≡ waits_in shard q st
vote_in shard from vote q Undecided = refl
vote_in shard from vote q (Committed parts) = refl
vote_in shard from vote q Finished = refl
vote_in shard from vote q (Refused cause) = refl

pub vote_waits : (shard from : ℕ) (vote : Vote) (q : Request) (b : Bool) → waits shard (cond b (with_vote_of from vote q) q) ≡ waits shard q
vote_waits shard from vote q true = vote_in shard from vote q q.state
vote_waits shard from vote q false = refl

-- ---- an acknowledgement

insert_in : (n k : ℕ) (ns : List ℕ) → nat_in k ns ≡ true → nat_in k (nat_insert n ns) ≡ true
insert_in n k [] i = absurd (both_ways false refl i)
insert_in n k (m ∷ ms) i = at (nat_cmp n m) (insert_in n k ms)
  where
    at : (o : Ordering) → (nat_in k ms ≡ true → nat_in k (nat_insert n ms) ≡ true) → nat_in k (match_ordering o (n ∷ m ∷ ms) (m ∷ ms) (m ∷ nat_insert n ms)) ≡ true
    at Less more = or_right (k == n) _ i
    at Equal more = i
    at Greater more = ⊎_elim (λ h. or_left _ _ h) (λ h. or_right (k == m) _ (more h)) (or_cases (k == m) (nat_in k ms) i)

all_in : (n : ℕ) (acked parts : List ℕ) → list_all (λ k. nat_in k acked) parts ≡ true → list_all (λ k. nat_in k (nat_insert n acked)) parts ≡ true
all_in n acked [] h = refl
all_in n acked (p ∷ ps) h = let a = and_parts (nat_in p acked) (list_all (λ k. nat_in k acked) ps) h in and_from _ _ (insert_in n p acked a.0) (all_in n acked ps a.1)

not_down : (a b : Bool) → (a ≡ true → b ≡ true) → not a ≡ false → not b ≡ false
not_down true b h e = ap not (h refl)
not_down false b h e = absurd (both_ways false refl (sym e))

done_in : (shard from : ℕ) (q : Request) (st : RequestState) → waits_in shard q st ≡ false → waits_in shard (with_done_of from q) st ≡ false
done_in shard from q Undecided e = e
done_in shard from q (Committed parts) e = not_down _ _ (all_in from q.acknowledged_by parts) e
done_in shard from q Finished e = refl
done_in shard from q (Refused cause) e = refl

pub done_waits : (shard from : ℕ) (q : Request) (b : Bool) → waits shard q ≡ false → waits shard (cond b (with_done_of from q) q) ≡ false
done_waits shard from q true e = done_in shard from q q.state e
done_waits shard from q false e = e

-- ---- a ruling

none_other : (shard : ℕ) (touched : List (ℕ × ℕ)) → list_any (λ t. not (t.0 == shard)) touched ≡ false → others shard touched ≡ []
none_other shard [] e = refl
none_other shard (t ∷ ts) e =
    let o = or_parts (not (t.0 == shard)) (list_any (λ u. not (u.0 == shard)) ts) e in
    ap (λ b. cond b (t.0 ∷ others shard ts) (others shard ts)) o.0 ∙ none_other shard ts o.1

agreed_in : (shard : ℕ) (q : Request) (f : PartFacts) (b c : Bool) → q.state ≡ Undecided → waits_in shard q Undecided ≡ false → c ≡ has_durable_predecessors f
    → waits shard (ruled (agreed_ruling f b []) q) ≡ false
agreed_in shard q f true c st e is = refl
agreed_in shard q f false true st e is = ap (λ d. waits shard (ruled (cond d (Some Acknowledge) None) q)) (sym is)
agreed_in shard q f false false st e is = ap (λ d. waits shard (ruled (cond d (Some Acknowledge) None) q)) (sym is) ∙ ap (waits_in shard q) st ∙ e

refused_in : (shard : ℕ) (q : Request) (o : Option AbortCause) → q.state ≡ Undecided → waits_in shard q Undecided ≡ false → waits shard (ruled (refused_ruling shard q o) q) ≡ false
refused_in shard q None st e = ap (waits_in shard q) st ∙ e
refused_in shard q (Some cause) st e = refl

undecided_in : (shard : ℕ) (tx : TxId) (q : Request) (f : PartFacts) (b : Bool) → q.state ≡ Undecided → waits_in shard q Undecided ≡ false → waits shard (ruled (undecided_ruling shard tx q f b) q) ≡ false
undecided_in shard tx q f true st e =
    subst (λ ps. waits shard (ruled (agreed_ruling f f.updates ps) q) ≡ false) (sym (ap (filter _) (none_other shard q.touched e))) (agreed_in shard q f f.updates (has_durable_predecessors f) st e refl)
undecided_in shard tx q f false st e = refused_in shard q (refusal tx q f) st e

ended_in : (shard : ℕ) (q : Request) (st : RequestState) → waits_in shard (record q { is_ended = true }) st ≡ waits_in shard q st
ended_in shard q Undecided = refl
ended_in shard q (Committed parts) = refl
ended_in shard q Finished = refl
ended_in shard q (Refused cause) = refl

end_if : (shard : ℕ) (q : Request) (b : Bool) → waits shard q ≡ false → waits shard (ruled (cond b (Some End) None) q) ≡ false
end_if shard q true e = ended_in shard q q.state ∙ e
end_if shard q false e = e

end_in : (shard : ℕ) (q : Request) (parts : List ℕ) → waits shard q ≡ false → waits shard (ruled (end_ruling q parts) q) ≡ false
end_in shard q [] e = e
end_in shard q (p ∷ ps) e = end_if shard q _ e

ruled_in : (shard : ℕ) (tx : TxId) (q : Request) (f : PartFacts) (st : RequestState) → q.state ≡ st → waits_in shard q st ≡ false → waits shard (ruled (ruling_in shard tx q f st) q) ≡ false
ruled_in shard tx q f Undecided st e = undecided_in shard tx q f (is_agreed shard q f) st e
ruled_in shard tx q f (Committed parts) st e = end_in shard q parts (ap (waits_in shard q) st ∙ e)
ruled_in shard tx q f Finished st e = ap (waits_in shard q) st ∙ e
ruled_in shard tx q f (Refused cause) st e = ap (waits_in shard q) st ∙ e

-- what is over stays over: a COMMIT with parts comes only to a request that touched other shards
pub ruled_waits : (shard : ℕ) (tx : TxId) (q : Request) (f : PartFacts) → waits shard q ≡ false → waits shard (ruled (ruling_by shard tx q f) q) ≡ false
ruled_waits shard tx q f e = ruled_in shard tx q f q.state refl e

-- ---- the index after it

pub after_change : (shard : ℕ) (tx : TxId) (now q : Request) (rows : Table Request) (old new : List TxId) (stays : Bool) → tx_get tx rows ≡ Some q → (waits shard q ≡ false → waits shard now ≡ false)
    → IsIndex (waits shard) rows old → stays ≡ waits shard now → ((t : TxId) → tx_in t new ≡ cond (tx_same tx t) (stays && tx_in t old) (tx_in t old)) → IsIndex (waits shard) (tx_set tx now rows) new
after_change shard tx now q rows old new stays there down is same changes =
    index_kept (waits shard) tx now q rows old new there down is (λ t. changes t ∙ ap (λ b. cond (tx_same tx t) (b && tx_in t old) (tx_in t old)) same)
