-- The entries of a try, by kind.
use Rattle.std.proofs.Common.{◌≡◌, sym, subst, ◌⊎◌, inl, inr, ℕ, suc, List, [], ◌∷◌, ◌++◌, length, Option, Some, None}
use Rattle.std.specs.List.{AllByRecursion}
use Rattle.clv_base.specs.declared.names.TxId.{TxId}
use Rattle.clv_base.specs.declared.names.Birth.{Birth}
use Rattle.clv_base.specs.declared.causes.AbortCause.{AbortCause}
use Rattle.clv_base.specs.declared.ops.Op.{Op}
use Rattle.clv_base.specs.declared.ops.Answer.{Answer}
use Rattle.clv_base.specs.declared.events.Event.TheVariants.{Op as OpEvent, RollTo, Drop}
use Rattle.clv_base.specs.declared.events.Outcome.{Outcome}
use Rattle.clv_base.specs.declared.events.Outcome.TheVariants.{Rolled, Dead, Asked, Acknowledged, Aborted}
use Rattle.clv_base.specs.declared.events.Entry.{Entry}
use Rattle.clv_base.specs.Journals.{History}
use Rattle.law_base.proofs.Lists.{all_append, all_mono}
use Rattle.script_lang.specs.Bodies.{Body}
use Rattle.session_books.specs.Done.{Done}
use Rattle.script_runs.specs.declared.ends.TryEnd.{TryEnd}
use Rattle.script_runs.specs.Operations.{parts_of, ArePartsAnswered, no_part, part, IsDeath}
use Rattle.script_runs.specs.Acts.{IsRoll, AreActs, no_act, operation, going_back, IsBackDeath}
use Rattle.script_runs.specs.Tries.{IsTry, IsRequest, IsLook, AreDrops, IsUnderWay, operation_begun, back_begun, request_next, EndsBy, acknowledged, nothing, by_line, in_operation, in_going_back, at_request, at_look, down, unsettled, wanting_before, wanting_behind, wanting_between, unanswered, worn_at_line}

-- an operation of the transaction, of this birth
pub record IsOpOf (tx : TxId) (birth : Birth) (e : ℕ × Entry) : Type 0 where
  pub nth : ℕ
  pub seen : Option ℕ
  pub op : Op
  pub event : (e.1).event ≡ OpEvent tx birth nth seen op

-- a going back of it
pub record IsBackOf (tx : TxId) (e : ℕ × Entry) : Type 0 where
  pub nth : ℕ
  pub seen : ℕ
  pub upto : ℕ
  pub event : (e.1).event ≡ RollTo tx nth seen upto

abbrev pub IsActOf : TxId → Birth → ℕ × Entry → Type 0
IsActOf tx birth e = IsOpOf tx birth e ⊎ IsBackOf tx e

abbrev pub AreOpsOf : TxId → Birth → History → Type 0
AreOpsOf tx birth es = AllByRecursion (IsOpOf tx birth) es

abbrev pub AreActsOf : TxId → Birth → History → Type 0
AreActsOf tx birth es = AllByRecursion (IsActOf tx birth) es

module _ (tx : TxId) (birth : Birth) where
  pub parts_are_ops : (nth : ℕ) (parts : List (ℕ × Op)) (answers : List Answer) (es : History) → ArePartsAnswered tx birth nth parts answers es → AreOpsOf tx birth es
  parts_are_ops nth _ _ _ no_part = tt
  parts_are_ops nth _ _ _ (part p answer epoch e parts answers es is more) = (record { nth = nth; seen = is.seen; op = p.1; event = is.event }, parts_are_ops nth parts answers es more)

  pub parts_are : (nth : ℕ) (parts : List (ℕ × Op)) (answers : List Answer) (es : History) → ArePartsAnswered tx birth nth parts answers es → AreActsOf tx birth es
  parts_are nth parts answers es are = all_mono (IsOpOf tx birth) (IsActOf tx birth) (λ e o. inl o) es (parts_are_ops nth parts answers es are)

  roll_is : (nth upto : ℕ) (o : Outcome) (e : ℕ × Entry) → IsRoll tx nth upto o e → IsActOf tx birth e
  roll_is nth upto o e r = inr (record { nth = nth; seen = r.seen; upto = upto; event = r.event })

  pub rolls_are : (nth upto : ℕ) (es : History) → AllByRecursion (IsRoll tx nth upto Rolled) es → AreActsOf tx birth es
  rolls_are nth upto es r = all_mono (IsRoll tx nth upto Rolled) (IsActOf tx birth) (λ e k. roll_is nth upto Rolled e k) es r

  pub acts_are : (splits : List ℕ) (nth : ℕ) (ws : List (ℕ × ℕ)) (ds : List Done) (es : History) → AreActs splits tx birth nth ws ds es → AreActsOf tx birth es
  acts_are splits _ _ _ _ (no_act nth ws) = tt
  acts_are splits _ _ _ _ (operation nth ws op answer ds here behind es is o more) =
      subst (AreActsOf tx birth) (sym is) (all_append (IsActOf tx birth) here behind (parts_are nth (parts_of splits op) o.answers here o.parts) (acts_are splits (suc nth) _ ds behind more))
  acts_are splits _ _ _ _ (going_back nth ws upto ds here behind es is some b more) =
      subst (AreActsOf tx birth) (sym is) (all_append (IsActOf tx birth) here behind (rolls_are nth upto here (b.rolled).0) (acts_are splits (suc nth) _ ds behind more))

  pub way_is : (splits : List ℕ) (body : Body) (acts : List Done) (es : History) → IsUnderWay splits body tx birth acts es → AreActsOf tx birth es
  way_is splits body acts _ (operation_begun op es next b) = parts_are (suc (length acts)) b.done b.answers es b.answered
  way_is splits body acts _ (back_begun upto n es next b) = rolls_are (suc (length acts)) upto es (b.rolled).0
  way_is splits body acts _ (request_next all) = tt

  pub death_is : (splits : List ℕ) (nth : ℕ) (op : Op) (cause : AbortCause) (n : ℕ) (es : History) → IsDeath splits tx birth nth op cause n es → AreActsOf tx birth es
  death_is splits nth op cause n es d =
      subst (AreActsOf tx birth) (sym d.entries)
      (all_append (IsActOf tx birth) d.before (d.last ∷ []) (parts_are nth d.done d.answers d.before d.answered)
      (inl (record { nth = nth; seen = (d.died).seen; op = (d.next).1; event = (d.died).event }), tt))

  pub back_death_is : (nth upto : ℕ) (ws : List (ℕ × ℕ)) (cause : AbortCause) (n : ℕ) (es : History) → IsBackDeath tx nth upto ws cause n es → AreActsOf tx birth es
  back_death_is nth upto ws cause n es d =
      subst (AreActsOf tx birth) (sym d.entries)
      (all_append (IsActOf tx birth) d.before (d.last ∷ []) (rolls_are nth upto d.before ((d.begun).rolled).0) (roll_is nth upto (Dead cause) d.last d.died, tt))

  -- acts, a request and a look, and drops
  module _ (P : ℕ × Entry → Type 0) (of_op : (e : ℕ × Entry) → IsOpOf tx birth e → P e) (of_back : (e : ℕ × Entry) → IsBackOf tx e → P e) where
    of_act : (e : ℕ × Entry) → IsActOf tx birth e → P e
    of_act e (inl o) = of_op e o
    of_act e (inr b) = of_back e b

    pub acts_all : (es : History) → AreActsOf tx birth es → AllByRecursion P es
    acts_all es o = all_mono (IsActOf tx birth) P of_act es o

    module _ (of_drop : (e : ℕ × Entry) → (e.1).event ≡ Drop tx → P e) where
      pub drops_all : (before : History) (except : Option ℕ) (es : History) → AreDrops tx before except es → AllByRecursion P es
      drops_all before except [] d = tt
      drops_all before except (e ∷ es) d = (of_drop e (d.0).event, drops_all before except es d.1)

      module _ (of_request : (home : ℕ) (o : Outcome) (e : ℕ × Entry) → IsRequest tx home o e → P e) (of_look : (home : ℕ) (o : Outcome) (e : ℕ × Entry) → IsLook tx home o e → P e) where
        behind_all : (splits : List ℕ) (body : Body) (acts : List Done) (before : History) (e : TryEnd) (behind : History) → EndsBy splits body tx birth acts before e behind → AllByRecursion P behind
        behind_all splits body acts before _ _ (acknowledged home asked told all a l) = (of_request home Asked asked a, (of_look home Acknowledged told l, tt))
        behind_all splits body acts before _ _ (nothing all none) = tt
        behind_all splits body acts before _ _ (by_line drops all d) = drops_all before None drops d
        behind_all splits body acts before _ _ (in_operation op cause n here drops next died d) =
            all_append P here drops (acts_all here (death_is splits (suc (length acts)) op cause n here died)) (drops_all (before ++ here) (Some n) drops d)
        behind_all splits body acts before _ _ (in_going_back upto cause n here drops next died d) =
            all_append P here drops (acts_all here (back_death_is (suc (length acts)) upto _ cause n here died)) (drops_all (before ++ here) (Some n) drops d)
        behind_all splits body acts before _ _ (at_request home cause asked drops all a d) = (of_request home (Dead cause) asked a, drops_all before (Some home) drops d)
        behind_all splits body acts before _ _ (at_look home cause asked told drops all a l d) =
            (of_request home Asked asked a, (of_look home (Aborted cause) told l, drops_all before (Some home) drops d))
        behind_all splits body acts before _ _ (down n here drops u d) = all_append P here drops (acts_all here (way_is splits body acts here u)) (drops_all (before ++ here) None drops d)
        behind_all splits body acts before _ _ (unsettled n home asked all a) = (of_request home Asked asked a, tt)
        behind_all splits body acts before _ _ (wanting_before cause here w u) = acts_all here (way_is splits body acts here u)
        behind_all splits body acts before _ _ (wanting_behind cause home asked w all a) = (of_request home Asked asked a, tt)
        behind_all splits body acts before _ _ wanting_between = tt
        behind_all splits body acts before _ _ (unanswered op parts here next are) = acts_all here (parts_are (suc (length acts)) (parts_of splits op) parts here are)
        behind_all splits body acts before _ _ (worn_at_line at drops all d) = drops_all before None drops d

        pub entries_all : (splits : List ℕ) (body : Body) (acts : List Done) (e : TryEnd) (es : History) → IsTry splits body birth (record { tx = tx; acts = acts; end = e; entries = es }) → AllByRecursion P es
        entries_all splits body acts e es is =
            subst (AllByRecursion P) (sym is.entries_are)
            (all_append P is.before is.behind (acts_all is.before (acts_are splits 1 [] acts is.before is.acts_are)) (behind_all splits body acts is.before e is.behind is.ends))
