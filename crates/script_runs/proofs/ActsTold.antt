-- What the entries of acts tell: the acts, in their parts.
use Rattle.std.proofs.Common.{◌≡◌, refl, sym, ap, subst, ◌∙◌, ℕ, suc, ◌<◌, ◌≤◌, false, cond, List, [], ◌∷◌, ◌++◌, length, Option, Some, None, arith, eq-eqb}
use Rattle.std.specs.List.{AllByRecursion}
use Rattle.std.proofs.lemmas.Bool.{ne_eqb}
use Rattle.clv_base.specs.declared.names.TxId.{TxId}
use Rattle.clv_base.specs.declared.names.Birth.{Birth}
use Rattle.clv_base.specs.declared.ops.Op.{Op}
use Rattle.clv_base.specs.declared.ops.Answer.{Answer}
use Rattle.clv_base.specs.declared.events.Event.{Event}
use Rattle.clv_base.specs.declared.events.Event.TheVariants.{Op as OpEvent, RollTo}
use Rattle.clv_base.specs.declared.events.Outcome.{Outcome}
use Rattle.clv_base.specs.declared.events.Outcome.TheVariants.{Answered, Rolled}
use Rattle.clv_base.specs.declared.events.Entry.{Entry}
use Rattle.clv_base.specs.Maps.{Act, Operates, GoesBack}
use Rattle.clv_base.specs.Journals.{History}
use Rattle.clv_base.specs.History.{DoneAct, act_of, goes_back_as, is_with_next, put_act, acts_in, answers_given}
use Rattle.clv_base.proofs.SameNames.{tx_self}
use Rattle.law_base.proofs.Acts.{with_act}
use Rattle.law_base.proofs.Lists.{all_append, all_mono}
use Rattle.session_books.specs.Done.{Done, WentBack}
use Rattle.script_runs.specs.Operations.{parts_of, answer_of, IsPart, ArePartsAnswered, no_part, part}
use Rattle.script_runs.specs.Acts.{acts_of, numbered, numbered_parts, IsRoll, AreActs, no_act, operation, going_back}
use Rattle.script_runs.specs.TriesLaws.{all_parts}
use Rattle.script_runs.specs.TriesTell.{ArePartsOf}
use Rattle.script_runs.specs.TriesTell as tell
use Rattle.script_runs.proofs.Wholes.{goes_some}

-- ---- acts with later numbers

abbrev AllFrom : ℕ → List DoneAct → Type 0
AllFrom nth ps = AllByRecursion (λ (p : DoneAct). nth ≤ p.0) ps

goes_apart : (nth : ℕ) (q : DoneAct) → nth < q.0 → goes_back_as nth q ≡ false
goes_apart nth (n, Operates op, a) h = refl
goes_apart nth (n, GoesBack upto, a) h = ne_eqb nth n (λ e. omega arith)

no_next : (nth : ℕ) (x : Act) (a : Option Answer) (ps : List DoneAct) → AllFrom (suc nth) ps → is_with_next (nth, x, a) ps ≡ false
no_next nth x a [] h = refl
no_next nth x a (q ∷ ps) h = goes_apart nth q (omega (arith, h.0))

-- ---- the parts of an operation

abbrev dones : ℕ → List (ℕ × Op) → List Answer → List DoneAct
dones nth [] answers = []
dones nth (p ∷ parts) [] = []
dones nth (p ∷ parts) (a ∷ answers) = (nth, Operates p.1, Some a) ∷ dones nth parts answers

-- no going back is next
op_next : (nth : ℕ) (p : ℕ × Op) (a : Answer) (parts : List (ℕ × Op)) (answers : List Answer) (ps : List DoneAct) → AllFrom (suc nth) ps → put_act (nth, Operates p.1, Some a) (dones nth parts answers ++ ps) ≡ (nth, Operates p.1, Some a) ∷ dones nth parts answers ++ ps
op_next nth p a [] answers ps h = ap (λ b. cond b ps ((nth, Operates p.1, Some a) ∷ ps)) (no_next nth (Operates p.1) (Some a) ps h)
op_next nth p a (q ∷ parts) [] ps h = ap (λ b. cond b ps ((nth, Operates p.1, Some a) ∷ ps)) (no_next nth (Operates p.1) (Some a) ps h)
op_next nth p a (q ∷ parts) (b ∷ answers) ps h = refl

module _ (tx : TxId) where
  tells : (e : ℕ × Entry) (event : Event) (o : Outcome) → (e.1).event ≡ event → (e.1).outcome ≡ o → act_of tx (e.1).event (e.1).outcome ≡ act_of tx event o
  tells e event o h k = ap (λ ev. act_of tx ev (e.1).outcome) h ∙ ap (λ x. act_of tx event x) k

  part_tells : (birth : Birth) (nth epoch : ℕ) (p : ℕ × Op) (answer : Answer) (e : ℕ × Entry) → IsPart tx birth nth p (Answered answer epoch) e → act_of tx (e.1).event (e.1).outcome ≡ Some (nth, Operates p.1, Some answer)
  part_tells birth nth epoch p answer e is = tells e (OpEvent tx birth nth is.seen p.1) (Answered answer epoch) is.event is.outcome ∙ ap (λ b. cond b (Some (nth, Operates p.1, Some answer)) None) (tx_self tx)

  parts_told : (birth : Birth) (nth : ℕ) (parts : List (ℕ × Op)) (answers : List Answer) (es rest : History) → ArePartsAnswered tx birth nth parts answers es → AllFrom (suc nth) (acts_in tx rest)
      → acts_in tx (es ++ rest) ≡ dones nth parts answers ++ acts_in tx rest
  parts_told birth nth _ _ _ rest no_part h = refl
  parts_told birth nth _ _ _ rest (part p answer epoch e parts answers es is more) h =
      ap (λ o. with_act o (acts_in tx (es ++ rest))) (part_tells birth nth epoch p answer e is) ∙ ap (put_act (nth, Operates p.1, Some answer)) (parts_told birth nth parts answers es rest more h)
      ∙ op_next nth p answer parts answers (acts_in tx rest) h

  -- ---- a going back

  roll_tells : (nth upto : ℕ) (e : ℕ × Entry) → IsRoll tx nth upto Rolled e → act_of tx (e.1).event (e.1).outcome ≡ Some (nth, GoesBack upto, None)
  roll_tells nth upto e is = tells e (RollTo tx nth is.seen upto) Rolled is.event is.outcome ∙ ap (λ b. cond b (Some (nth, GoesBack upto, None)) None) (tx_self tx)

  rolls_told : (nth upto : ℕ) (es rest : History) → AllByRecursion (IsRoll tx nth upto Rolled) es → 0 < length es → AllFrom (suc nth) (acts_in tx rest) → acts_in tx (es ++ rest) ≡ (nth, GoesBack upto, None) ∷ acts_in tx rest
  rolls_told nth upto [] rest r some h = absurd (let no : ⊥ = omega arith in no)
  rolls_told nth upto (e ∷ []) rest r some h =
      ap (λ o. with_act o (acts_in tx rest)) (roll_tells nth upto e r.0) ∙ ap (λ b. cond b (acts_in tx rest) ((nth, GoesBack upto, None) ∷ acts_in tx rest)) (no_next nth (GoesBack upto) None (acts_in tx rest) h)
  rolls_told nth upto (e ∷ f ∷ es) rest r some h =
      let last : DoneAct = (nth, GoesBack upto, None) in
      ap (λ o. with_act o (acts_in tx (f ∷ es ++ rest))) (roll_tells nth upto e r.0) ∙ ap (put_act last) (rolls_told nth upto (f ∷ es) rest r.1 (omega arith) h)
      ∙ ap (λ b. cond b (last ∷ acts_in tx rest) (last ∷ last ∷ acts_in tx rest)) (eq-eqb nth nth refl)

  -- ---- all acts

  dones_from : (nth : ℕ) (parts : List (ℕ × Op)) (answers : List Answer) → AllFrom nth (dones nth parts answers)
  dones_from nth [] answers = tt
  dones_from nth (p ∷ parts) [] = tt
  dones_from nth (p ∷ parts) (a ∷ answers) = (omega arith, dones_from nth parts answers)

  later : (nth : ℕ) (ps : List DoneAct) → AllFrom (suc nth) ps → AllFrom nth ps
  later nth ps h = all_mono (λ (p : DoneAct). suc nth ≤ p.0) (λ (p : DoneAct). nth ≤ p.0) (λ p l. omega arith) ps h

  module _ (splits : List ℕ) (birth : Birth) where
    acts_from : (nth : ℕ) (ws : List (ℕ × ℕ)) (ds : List Done) (es : History) → AreActs splits tx birth nth ws ds es → AllFrom nth (acts_in tx es)
    acts_from _ _ _ _ (no_act nth ws) = tt
    acts_from _ _ _ _ (operation nth ws op answer ds here behind es is o more) =
        let rest = acts_from (suc nth) _ ds behind more in
        subst (AllFrom nth) (sym (ap (acts_in tx) is ∙ parts_told birth nth (parts_of splits op) o.answers here behind o.parts rest))
        (all_append (λ (p : DoneAct). nth ≤ p.0) (dones nth (parts_of splits op) o.answers) (acts_in tx behind) (dones_from nth (parts_of splits op) o.answers) (later nth (acts_in tx behind) rest))
    acts_from _ _ _ _ (going_back nth ws upto ds here behind es is some b more) =
        let rest = acts_from (suc nth) _ ds behind more in
        subst (AllFrom nth) (sym (ap (acts_in tx) is ∙ rolls_told nth upto here behind (b.rolled).0 (goes_some upto ws here some b.shards) rest)) (omega arith, later nth (acts_in tx behind) rest)

    -- the parts are numbered so, and have these answers
    dones_numbered : (nth : ℕ) (parts : List (ℕ × Op)) (answers : List Answer) (es : History) → ArePartsAnswered tx birth nth parts answers es
        → (numbered (dones nth parts answers) ≡ numbered_parts nth parts) × (answers_given (dones nth parts answers) ≡ answers)
    dones_numbered nth _ _ _ no_part = (refl, refl)
    dones_numbered nth _ _ _ (part p answer epoch e parts answers es is more) =
        let rest = dones_numbered nth parts answers es more in (ap (λ l. (nth, Operates p.1) ∷ l) rest.0, ap (λ l. answer ∷ l) rest.1)

    pub acts_told : (nth : ℕ) (ws : List (ℕ × ℕ)) (ds : List Done) (es : History) → AreActs splits tx birth nth ws ds es → ArePartsOf splits nth ds (acts_in tx es)
    acts_told _ _ _ _ (no_act nth ws) = tell.no_act nth
    acts_told _ _ _ _ (operation nth ws op answer ds here behind es is o more) =
        let n = dones_numbered nth (parts_of splits op) o.answers here o.parts in
        tell.operation nth op answer ds (dones nth (parts_of splits op) o.answers) (acts_in tx behind) (acts_in tx es)
        (ap (acts_in tx) is ∙ parts_told birth nth (parts_of splits op) o.answers here behind o.parts (acts_from (suc nth) _ ds behind more)) n.0 (o.whole ∙ ap (answer_of op) (sym n.1))
        (acts_told (suc nth) _ ds behind more)
    acts_told _ _ _ _ (going_back nth ws upto ds here behind es is some b more) =
        subst (ArePartsOf splits nth (WentBack upto ∷ ds)) (sym (ap (acts_in tx) is ∙ rolls_told nth upto here behind (b.rolled).0 (goes_some upto ws here some b.shards) (acts_from (suc nth) _ ds behind more)))
        (tell.going_back nth upto ds (acts_in tx behind) (acts_told (suc nth) _ ds behind more))

-- without their answers they are the parts of the acts
numbered_append : (ps qs : List DoneAct) → numbered (ps ++ qs) ≡ numbered ps ++ numbered qs
numbered_append [] qs = refl
numbered_append (p ∷ ps) qs = ap (λ l. (p.0, p.1) ∷ l) (numbered_append ps qs)

pub parts_numbered : (splits : List ℕ) (nth : ℕ) (ds : List Done) (ps : List DoneAct) → ArePartsOf splits nth ds ps → numbered ps ≡ all_parts splits nth (acts_of ds)
parts_numbered splits _ _ _ (tell.no_act nth) = refl
parts_numbered splits _ _ _ (tell.operation nth op answer ds here behind all is n a more) =
    ap numbered is ∙ numbered_append here behind ∙ ap (λ l. l ++ numbered behind) n ∙ ap (λ l. numbered_parts nth (parts_of splits op) ++ l) (parts_numbered splits (suc nth) ds behind more)
parts_numbered splits _ _ _ (tell.going_back nth upto ds behind more) = ap (λ l. (nth, GoesBack upto) ∷ l) (parts_numbered splits (suc nth) ds behind more)
