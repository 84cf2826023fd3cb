-- Who is acknowledged, by the entries of a try.
use Rattle.std.proofs.Common.{◌≡◌, refl, sym, ap, ◌∙◌, ℕ, Bool, true, false, ◌||◌, List, [], ◌∷◌, ◌++◌, Option}
use Rattle.std.specs.List.{AllByRecursion}
use Rattle.std.proofs.lemmas.Bool.{both_ways}
use Rattle.clv_base.specs.declared.names.TxId.{TxId}
use Rattle.clv_base.specs.declared.names.Birth.{Birth}
use Rattle.clv_base.specs.declared.events.Event.{Event}
use Rattle.clv_base.specs.declared.events.Event.TheVariants.{Request, Look, Drop}
use Rattle.clv_base.specs.declared.events.Outcome.{Outcome}
use Rattle.clv_base.specs.declared.events.Outcome.TheVariants.{Asked, Acknowledged, Aborted, Dropped}
use Rattle.clv_base.specs.declared.events.Entry.{Entry}
use Rattle.clv_base.specs.Journals.{History}
use Rattle.clv_base.specs.History.{acknowledged_in, is_acknowledgement}
use Rattle.clv_base.proofs.SameNames.{tx_true}
use Rattle.law_base.proofs.Lists.{all_append}
use Rattle.script_lang.specs.Bodies.{Body}
use Rattle.session_books.specs.Done.{Done}
use Rattle.script_runs.specs.declared.ends.TryEnd.{TryEnd}
use Rattle.script_runs.specs.declared.ends.TryEnd.TheVariants as end
use Rattle.script_runs.specs.Operations.{parts_of}
use Rattle.script_runs.specs.Tries.{IsRequest, IsLook, AreDrops, EndsBy, acknowledged, nothing, by_line, in_operation, in_going_back, at_request, at_look, down, unsettled, wanting_before, wanting_behind, wanting_between, unanswered, worn_at_line}
use Rattle.script_runs.specs.TriesTell.{AcknowledgedEndSo}
use Rattle.script_runs.proofs.EntryKinds.{AreActsOf, acts_are, parts_are, way_is, death_is, back_death_is, acts_all}

-- ---- who is acknowledged

module _ (tx other : TxId) where
  abbrev IsNone : ℕ × Entry → Type 0
  IsNone e = is_acknowledgement tx (e.1).event (e.1).outcome ≡ false

  abbrev AreNone : History → Type 0
  AreNone es = AllByRecursion IsNone es

  told_so : (e : ℕ × Entry) (event : Event) (o : Outcome) → (e.1).event ≡ event → (e.1).outcome ≡ o → is_acknowledgement tx (e.1).event (e.1).outcome ≡ is_acknowledgement tx event o
  told_so e event o h k = ap (λ ev. is_acknowledgement tx ev (e.1).outcome) h ∙ ap (λ x. is_acknowledgement tx event x) k

  acts_none : (birth : Birth) (es : History) → AreActsOf other birth es → AreNone es
  acts_none birth es o = acts_all other birth IsNone (λ e k. ap (λ ev. is_acknowledgement tx ev (e.1).outcome) k.event) (λ e k. ap (λ ev. is_acknowledgement tx ev (e.1).outcome) k.event) es o

  drops_none : (before : History) (except : Option ℕ) (es : History) → AreDrops other before except es → AreNone es
  drops_none before except [] d = tt
  drops_none before except (e ∷ es) d = (told_so e (Drop other) Dropped (d.0).event (d.0).outcome, drops_none before except es d.1)

  request_none : (home : ℕ) (o : Outcome) (e : ℕ × Entry) → IsRequest other home o e → IsNone e
  request_none home o e a = told_so e (Request other a.touched) o a.event a.outcome

  -- it ended so and is this one's, or none is told
  data Ends (e : TryEnd) (behind : History) : Type 0 where
    so : e ≡ end.Acknowledged → (acknowledged_in behind tx ≡ true → tx ≡ other) → Ends e behind
    none : AreNone behind → Ends e behind

  none_in : (es : History) → AreNone es → acknowledged_in es tx ≡ false
  none_in [] n = refl
  none_in (e ∷ es) n = ap (λ b. b || acknowledged_in es tx) n.0 ∙ none_in es n.1

  none_before : (es fs : History) → AreNone es → acknowledged_in (es ++ fs) tx ≡ acknowledged_in fs tx
  none_before [] fs n = refl
  none_before (e ∷ es) fs n = ap (λ b. b || acknowledged_in (es ++ fs) tx) n.0 ∙ none_before es fs n.1

  or_none : (b : Bool) → b || false ≡ b
  or_none true = refl
  or_none false = refl

  own_look : (home : ℕ) (asked told : ℕ × Entry) → IsRequest other home Asked asked → IsLook other home Acknowledged told → acknowledged_in (asked ∷ told ∷ []) tx ≡ true → tx ≡ other
  own_look home asked told a l h =
      tx_true tx other
      (sym (ap (λ b. b || acknowledged_in (told ∷ []) tx) (request_none home Asked asked a) ∙ or_none (is_acknowledgement tx (told.1).event (told.1).outcome) ∙ told_so told (Look other) Acknowledged l.event l.outcome) ∙ h)

  ends : (splits : List ℕ) (body : Body) (birth : Birth) (acts : List Done) (before : History) (e : TryEnd) (behind : History) → EndsBy splits body other birth acts before e behind → Ends e behind
  ends splits body birth acts before _ _ (acknowledged home asked told all a l) = so refl (own_look home asked told a l)
  ends splits body birth acts before _ _ (nothing all is) = none tt
  ends splits body birth acts before _ _ (by_line drops all d) = none (drops_none before _ drops d)
  ends splits body birth acts before _ _ (in_operation op cause n here drops next died d) =
      none (all_append IsNone here drops (acts_none birth here (death_is other birth splits _ op cause n here died)) (drops_none (before ++ here) _ drops d))
  ends splits body birth acts before _ _ (in_going_back upto cause n here drops next died d) =
      none (all_append IsNone here drops (acts_none birth here (back_death_is other birth _ upto _ cause n here died)) (drops_none (before ++ here) _ drops d))
  ends splits body birth acts before _ _ wanting_between = none tt
  ends splits body birth acts before _ _ (at_request home cause asked drops all a d) = none (request_none home _ asked a, drops_none before _ drops d)
  ends splits body birth acts before _ _ (at_look home cause asked told drops all a l d) =
      none (request_none home _ asked a, (told_so told (Look other) (Aborted cause) l.event l.outcome, drops_none before _ drops d))
  ends splits body birth acts before _ _ (down n here drops u d) = none (all_append IsNone here drops (acts_none birth here (way_is other birth splits body acts here u)) (drops_none (before ++ here) _ drops d))
  ends splits body birth acts before _ _ (unsettled n home asked all a) = none (request_none home _ asked a, tt)
  ends splits body birth acts before _ _ (wanting_before cause here w u) = none (acts_none birth here (way_is other birth splits body acts here u))
  ends splits body birth acts before _ _ (wanting_behind cause home asked w all a) = none (request_none home _ asked a, tt)
  ends splits body birth acts before _ _ (unanswered op parts here next are) = none (acts_none birth here (parts_are other birth _ (parts_of splits op) parts here are))
  ends splits body birth acts before _ _ (worn_at_line at drops all d) = none (drops_none before _ drops d)

  told_by : (e : TryEnd) (behind : History) → Ends e behind → acknowledged_in behind tx ≡ true → (e ≡ end.Acknowledged) × (tx ≡ other)
  told_by e behind (so is own) h = (is, own h)
  told_by e behind (none n) h = absurd (both_ways (acknowledged_in behind tx) (none_in behind n) h)

pub acknowledged_end_so : AcknowledgedEndSo
acknowledged_end_so splits body birth t tx is h =
    told_by tx t.tx t.end is.behind (ends tx t.tx splits body birth t.acts is.before t.end is.behind is.ends)
    (sym (ap (λ es. acknowledged_in es tx) is.entries_are ∙ none_before tx t.tx is.before is.behind (acts_none tx t.tx birth is.before (acts_are t.tx birth splits 1 [] t.acts is.before is.acts_are))) ∙ h)
