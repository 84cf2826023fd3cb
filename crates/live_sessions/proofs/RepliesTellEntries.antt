-- A session's entries are those that its lines made, each as its reply tells.
use Rattle.std.proofs.Common.{◌≡◌, ◌⊎◌, inl, inr, refl, sym, subst, ap, ◌∙◌, ℕ, suc, Bool, false, ◌||◌, List, [], ◌∷◌, ◌++◌, Option, Some, None, Result, Ok, Err, ◌+◌, ◌≤◌, length, arith, length-append}
use Rattle.std.specs.List.{AllByRecursion}
use Rattle.std.proofs.lemmas.List.Folds.{list_any-append}
use Rattle.clv_base.specs.declared.names.TxId.{TxId}
use Rattle.clv_base.specs.declared.names.Birth.{Birth}
use Rattle.clv_base.specs.declared.causes.AbortCause.{AbortCause}
use Rattle.clv_base.specs.declared.causes.AbortCause.TheVariants as cause
use Rattle.clv_base.specs.declared.ops.Op.{Op}
use Rattle.clv_base.specs.declared.ops.Answer.{Answer}
use Rattle.clv_base.specs.declared.events.Event.{Event}
use Rattle.clv_base.specs.declared.events.Event.TheVariants.{Op as OpEvent, RollTo, Request, Look, Drop}
use Rattle.clv_base.specs.declared.events.Outcome.{Outcome}
use Rattle.clv_base.specs.declared.events.Outcome.TheVariants.{Rolled, Aborted as AbortedOut, Asked as AskedOut}
use Rattle.clv_base.specs.declared.events.Entry.{Entry}
use Rattle.clv_base.specs.Journals.{History}
use Rattle.clv_base.specs.History.{acknowledged_in, is_acknowledgement}
use Rattle.live_lines.specs.declared.calls.Call.TheVariants.{Begin, Retry, Operate, Save, Back, Commit, Abort}
use Rattle.live_lines.specs.declared.calls.Asked.{Asked}
use Rattle.live_lines.specs.declared.calls.Asked.TheVariants as asks
use Rattle.live_lines.specs.declared.calls.Reply.{Reply}
use Rattle.live_lines.specs.declared.calls.Reply.TheVariants.{Begun, Answered, Saved, WentBack, Committed, Empty, Aborted, Refused}
use Rattle.live_lines.specs.declared.calls.Reply.TheVariants as tells
use Rattle.script_runs.specs.declared.ends.StopCause.{StopCause}
use Rattle.script_runs.specs.declared.ends.StopCause.TheVariants.{Down, Unsettled, Worn, Memory}
use Rattle.script_runs.specs.Operations.{IsPart, ArePartsAnswered, no_part, part, IsOperation, IsBegun, IsDeath, parts_of}
use Rattle.script_runs.specs.Acts.{IsRoll, IsBackDeath}
use Rattle.script_runs.specs.Tries.{IsRequest, IsLook}
use Rattle.script_runs.specs.Seen.{Standing, Idle, Active, Asked as StandsAsked, Seen, Going, Grows, GrowsIn}
use Rattle.script_runs.proofs.Laws.{grows_none, grows_over}
use Rattle.script_runs.specs.Told.{AreDropsOf, BackTold, IsUnanswered, RequestStands, StaysAsked, StaysUnasked, DiesAtRequest, AbortsAtLook}
use Rattle.live_sessions.specs.declared.answering.Course.{Course}
use Rattle.live_sessions.specs.Served.{Leaves, Drops, Did, Served, none_taken, line_taken, ClosesBy}
use Rattle.live_sessions.specs.Replies.{AcknowledgeNone, Made, InTurn, no_reply, reply, RepliesTellEntries}

-- ---- entries that acknowledge nothing

none_two : (a b : History) → AcknowledgeNone a → AcknowledgeNone b → AcknowledgeNone (a ++ b)
none_two a b f g = λ tx. list_any-append (λ e. is_acknowledgement tx (e.1).event (e.1).outcome) a b ∙ (ap (λ x. x || acknowledged_in b tx) (f tx) ∙ g tx)

none_first : (e : ℕ × Entry) (es : History) → ((tx : TxId) → is_acknowledgement tx (e.1).event (e.1).outcome ≡ false) → AcknowledgeNone es → AcknowledgeNone (e ∷ es)
none_first e es f g = λ tx. ap (λ x. x || acknowledged_in es tx) (f tx) ∙ g tx

of_event : (e : ℕ × Entry) (v : Event) → (e.1).event ≡ v → ((tx : TxId) (o : Outcome) → is_acknowledgement tx v o ≡ false) → (tx : TxId) → is_acknowledgement tx (e.1).event (e.1).outcome ≡ false
of_event e v is f tx = ap (λ x. is_acknowledgement tx x (e.1).outcome) is ∙ f tx (e.1).outcome

request_none : (tx : TxId) (home : ℕ) (o : Outcome) (e : ℕ × Entry) → IsRequest tx home o e → (t : TxId) → is_acknowledgement t (e.1).event (e.1).outcome ≡ false
request_none tx home o e r = of_event e (Request tx r.touched) r.event (λ t p. refl)

part_none : (tx : TxId) (birth : Birth) (nth : ℕ) (p : ℕ × Op) (o : Outcome) (e : ℕ × Entry) → IsPart tx birth nth p o e → (t : TxId) → is_acknowledgement t (e.1).event (e.1).outcome ≡ false
part_none tx birth nth p o e r = of_event e (OpEvent tx birth nth r.seen p.1) r.event (λ t q. refl)

look_none : (tx : TxId) (home : ℕ) (why : AbortCause) (e : ℕ × Entry) → IsLook tx home (AbortedOut why) e → (t : TxId) → is_acknowledgement t (e.1).event (e.1).outcome ≡ false
look_none tx home why e r t = ap (λ x. is_acknowledgement t x (e.1).outcome) r.event ∙ ap (is_acknowledgement t (Look tx)) r.outcome

drops_none : (tx : TxId) (touched : ℕ → Bool) (left_out : Option ℕ) (es : History) → AreDropsOf tx touched left_out es → AcknowledgeNone es
drops_none tx touched left_out [] d = λ t. refl
drops_none tx touched left_out (e ∷ es) (d, ds) = none_first e es (of_event e (Drop tx) d.event (λ t o. refl)) (drops_none tx touched left_out es ds)

pub parts_none : (tx : TxId) (birth : Birth) (nth : ℕ) (parts : List (ℕ × Op)) (answers : List Answer) (es : History) → ArePartsAnswered tx birth nth parts answers es → AcknowledgeNone es
parts_none tx birth nth [] [] [] no_part = λ t. refl
parts_none tx birth nth _ _ _ (part p answer epoch e parts answers es is more) = none_first e es (part_none tx birth nth p _ e is) (parts_none tx birth nth parts answers es more)

begun_none : (splits : List ℕ) (tx : TxId) (birth : Birth) (nth : ℕ) (op : Op) (es : History) → IsBegun splits tx birth nth op es → AcknowledgeNone es
begun_none splits tx birth nth op es b = parts_none tx birth nth b.done b.answers es b.answered

unanswered_none : (splits : List ℕ) (tx : TxId) (birth : Birth) (nth : ℕ) (op : Op) (es : History) → IsBegun splits tx birth nth op es ⊎ IsUnanswered splits tx birth nth op es → AcknowledgeNone es
unanswered_none splits tx birth nth op es (inl b) = begun_none splits tx birth nth op es b
unanswered_none splits tx birth nth op es (inr (answers, are)) = parts_none tx birth nth (parts_of splits op) answers es are

death_none : (splits : List ℕ) (tx : TxId) (birth : Birth) (nth : ℕ) (op : Op) (why : AbortCause) (n : ℕ) (es : History) → IsDeath splits tx birth nth op why n es → AcknowledgeNone es
death_none splits tx birth nth op why n es d =
    subst AcknowledgeNone (sym d.entries)
    (none_two d.before (d.last ∷ []) (parts_none tx birth nth d.done d.answers d.before d.answered) (none_first d.last [] (part_none tx birth nth d.next _ d.last d.died) (λ t. refl)))

roll_none : (tx : TxId) (nth upto : ℕ) (o : Outcome) (e : ℕ × Entry) → IsRoll tx nth upto o e → (t : TxId) → is_acknowledgement t (e.1).event (e.1).outcome ≡ false
roll_none tx nth upto o e r = of_event e (RollTo tx nth r.seen upto) r.event (λ t q. refl)

pub rolls_none : (tx : TxId) (nth upto : ℕ) (es : History) → AllByRecursion (IsRoll tx nth upto Rolled) es → AcknowledgeNone es
rolls_none tx nth upto [] r = λ t. refl
rolls_none tx nth upto (e ∷ es) r = none_first e es (roll_none tx nth upto Rolled e r.0) (rolls_none tx nth upto es r.1)

back_death_none : (tx : TxId) (nth upto : ℕ) (ws : List (ℕ × ℕ)) (why : AbortCause) (n : ℕ) (es : History) → IsBackDeath tx nth upto ws why n es → AcknowledgeNone es
back_death_none tx nth upto ws why n es d =
    subst AcknowledgeNone (sym d.entries)
    (none_two d.before (d.last ∷ []) (rolls_none tx nth upto d.before ((d.begun).rolled).0) (none_first d.last [] (roll_none tx nth upto _ d.last d.died) (λ t. refl)))

-- ---- what a line made

-- some entries more, of which this holds; and so many tries were begun at most
abbrev Adds : ℕ → (History → Type 0) → Seen → Seen → Type 0
Adds most P u v = (here : History) × (n : ℕ) × (n ≤ most) × GrowsIn n here u v × P here

by_same : (most : ℕ) (P : History → Type 0) (u v : Seen) → v ≡ u → P [] → Adds most P u v
by_same most P u v e p = ([], 0, omega arith, subst (λ s. Grows [] u s) (sym e) (grows_none u), p)

-- by a call that began none, or one
by_call : (most : ℕ) (P : History → Type 0) (here : History) (u v : Seen) → Grows here u v → P here → Adds most P u v
by_call most P here u v g p = (here, 0, omega arith, g, p)

by_begin : (P : History → Type 0) (u v : Seen) → GrowsIn 1 [] u v → P [] → Adds 1 P u v
by_begin P u v g p = ([], 1, omega arith, g, p)

then_more : (b c : ℕ) (u m v : Seen) → Adds b AcknowledgeNone u m → Adds c AcknowledgeNone m v → Adds (b + c) AcknowledgeNone u v
then_more b c u m v (here, n, few, grows, p) (more, k, little, rises, q) = (here ++ more, n + k, omega arith, grows_over u.clock n k here more u m v grows rises, none_two here more p q)

leaves_adds : (most : ℕ) (tx : TxId) (birth : Birth) (touched : ℕ → Bool) (r : Result (Unit {0}) StopCause) (u v : Seen) → Leaves tx birth touched r u v → Adds most AcknowledgeNone u v
leaves_adds most tx birth touched (Ok a) u v (drops, are, grows, standing) = by_call most AcknowledgeNone drops u v grows (drops_none tx touched None drops are)
leaves_adds most tx birth touched (Err (Worn at)) u v (drops, are, grows, worn) = by_call most AcknowledgeNone drops u v grows (drops_none tx touched None drops are)
leaves_adds most tx birth touched (Err Memory) u v told = absurd told
leaves_adds most tx birth touched (Err (Down n)) u v told = absurd told
leaves_adds most tx birth touched (Err (Unsettled n)) u v told = absurd told

drops_adds : (most : ℕ) (u v : Seen) → Drops u v → Adds most AcknowledgeNone u v
drops_adds most u v (tx, birth, nth, touched, is, (r, leaves)) = leaves_adds most tx birth touched r u v leaves

stands_adds : (tx : TxId) (u v : Seen) → RequestStands tx u v → Adds 1 AcknowledgeNone u v
stands_adds tx u v (home, asked, is, grows) = by_call 1 AcknowledgeNone (asked ∷ []) u v grows (none_first asked [] (request_none tx home AskedOut asked is) (λ t. refl))

wants_adds : (tx : TxId) (birth : Birth) (touched : ℕ → Bool) (u v : Seen) → StaysUnasked tx birth touched u v ⊎ StaysAsked tx u v → Adds 1 AcknowledgeNone u v
wants_adds tx birth touched u v (inl (grows, stays)) = by_call 1 AcknowledgeNone [] u v grows (λ t. refl)
wants_adds tx birth touched u v (inr (stands, is)) = stands_adds tx u v stands

dies_adds : (tx : TxId) (touched : ℕ → Bool) (why : AbortCause) (u v : Seen) → DiesAtRequest tx touched why u v ⊎ AbortsAtLook tx touched why u v → Adds 1 AcknowledgeNone u v
dies_adds tx touched why u v (inl (home, asked, drops, is, are, grows)) =
    by_call 1 AcknowledgeNone (asked ∷ drops) u v grows (none_first asked drops (request_none tx home _ asked is) (drops_none tx touched (Some home) drops are))
dies_adds tx touched why u v (inr (home, asked, told, drops, is, looks, are, grows)) =
    by_call 1 AcknowledgeNone (asked ∷ told ∷ drops) u v grows
    (none_first asked (told ∷ drops) (request_none tx home _ asked is) (none_first told drops (look_none tx home why told looks) (drops_none tx touched (Some home) drops are)))

-- a going back took a number, or there was nothing to take back
went_adds : (number : ℕ) (tx : TxId) (birth : Birth) (nth : ℕ) (touched : ℕ → Bool) (upto : ℕ) (ws : List (ℕ × ℕ)) (to : Option ℕ) (u v : Seen) → BackTold tx birth nth touched upto ws (Ok to) u v → Adds 1 (Made u.splits (WentBack number)) u v
went_adds number tx birth nth touched upto ws None u v (none, grows, standing) = by_call 1 (Made u.splits (WentBack number)) [] u v grows (tx, suc nth, upto, (tt, refl))
went_adds number tx birth nth touched upto ws (Some to) u v (is, some, here, back, on, grows, standing) = by_call 1 (Made u.splits (WentBack number)) here u v grows (tx, suc nth, upto, back.rolled)

made : (over : Option Going) (a : Asked) (r : Reply) (u v : Seen) → Did over a r u v → Adds 1 (Made u.splits r) u v
made over asked (Refused why) u v did = by_same 1 (λ es. es ≡ []) u v did refl
made over (asks.Call Begin) (Begun n) u v ((birth, born, later, earlier, begins), is) = by_begin (λ es. es ≡ []) u v begins.grows refl
made over (asks.Call Begin) (tells.Worn at) u v grows = by_call 1 AcknowledgeNone [] u v grows (λ t. refl)
made over (asks.Call Retry) (Begun n) u v (birth, last, begins, is) = by_begin (λ es. es ≡ []) u v begins.grows refl
made over (asks.Call Retry) (tells.Down n) u v (birth, last, (grows, standing)) = by_call 1 AcknowledgeNone [] u v grows (λ t. refl)
made over (asks.Call Retry) (tells.Worn at) u v (birth, last, grows) = by_call 1 AcknowledgeNone [] u v grows (λ t. refl)
made over (asks.Call (Operate op)) (Answered of a) u v (same, (tx, birth, nth, touched, is, (here, after, operation, touches, grows, standing))) =
    by_call 1 (Made u.splits (Answered of a)) here u v grows (tx, birth, suc nth, subst (λ o. IsOperation u.splits tx birth (suc nth) o a here) (sym same) operation)
made over (asks.Call (Operate op)) (Aborted why) u v (tx, birth, nth, touched, is, (here, drops, n, after, death, touches, are, grows, standing)) =
    by_call 1 AcknowledgeNone (here ++ drops) u v grows
    (none_two here drops (death_none u.splits tx birth (suc nth) op why n here death) (drops_none tx after (Some n) drops are))
made over (asks.Call (Operate op)) (tells.Down n) u v (m, (tx, birth, nth, touched, is, (here, after, begun, touches, grows, stays)), dropped) =
    then_more 0 1 u m v (by_call 0 AcknowledgeNone here u m grows (begun_none u.splits tx birth (suc nth) op here begun)) (drops_adds 1 m v dropped)
made over (asks.Call (Operate op)) (tells.Worn at) u v (tx, birth, nth, touched, is, (here, after, begun, touches, grows, stays)) =
    by_call 1 AcknowledgeNone here u v grows (begun_none u.splits tx birth (suc nth) op here begun)
made over (asks.Call (Operate op)) tells.Memory u v (tx, birth, nth, touched, is, (here, after, begun, touches, grows, stays)) =
    by_call 1 AcknowledgeNone here u v grows (unanswered_none u.splits tx birth (suc nth) op here begun)
made over (asks.Call Save) (Saved n) u v (active, g, is, number, same) = by_same 1 (λ es. es ≡ []) u v same refl
made over (asks.Call Save) tells.Memory u v (active, same) = by_same 1 AcknowledgeNone u v same (λ t. refl)
made over (asks.Call (Back number)) (WentBack n) u v (same, (g, upto, is_over, stands, (tx, birth, nth, touched, is, (to, told)))) = went_adds n tx birth nth touched upto g.written to u v told
made over (asks.Call (Back number)) (Aborted why) u v (g, upto, is_over, stands, (tx, birth, nth, touched, is, (here, drops, n, death, on, are, grows, standing))) =
    by_call 1 AcknowledgeNone (here ++ drops) u v grows (none_two here drops (back_death_none tx (suc nth) upto g.written why n here death) (drops_none tx touched (Some n) drops are))
made over (asks.Call (Back number)) (tells.Down n) u v (m, (g, upto, is_over, stands, (tx, birth, nth, touched, is, (here, begun, on, grows, stays))), dropped) =
    then_more 0 1 u m v (by_call 0 AcknowledgeNone here u m grows (rolls_none tx (suc nth) upto here (begun.rolled).0)) (drops_adds 1 m v dropped)
made over (asks.Call (Back number)) (tells.Worn at) u v (g, upto, is_over, stands, (tx, birth, nth, touched, is, (here, n, begun, on, grows, stays))) =
    by_call 1 AcknowledgeNone here u v grows (rolls_none tx (suc nth) upto here (begun.rolled).0)
made over (asks.Call Commit) (Committed n) u v (tx, birth, nth, touched, is, ((home, asked, told, requests, looks, grows, standing, place), serial)) =
    by_call 1 (Made u.splits (Committed n)) (asked ∷ told ∷ []) u v grows (tx, home, asked, told, sym serial, requests, looks, refl)
made over (asks.Call Commit) (Empty n) u v (tx, birth, nth, touched, is, ((none, grows, standing), serial)) = by_call 1 (λ es. es ≡ []) [] u v grows refl
made over (asks.Call Commit) (Aborted why) u v (tx, birth, nth, touched, is, (how, standing)) = dies_adds tx touched why u v how
made over (asks.Call Commit) (tells.Down n) u v (m, (tx, birth, nth, touched, is, (grows, stays)), dropped) =
    then_more 0 1 u m v (by_call 0 AcknowledgeNone [] u m grows (λ t. refl)) (drops_adds 1 m v dropped)
made over (asks.Call Commit) (tells.Unsettled n) u v (tx, birth, nth, touched, is, (stands, standing)) = stands_adds tx u v stands
made over (asks.Call Commit) (tells.Worn at) u v (tx, birth, nth, touched, is, wants) = wants_adds tx birth touched u v wants
made over (asks.Call Commit) tells.Memory u v (tx, birth, nth, touched, is, wants) = wants_adds tx birth touched u v wants
made over (asks.Call Abort) (Aborted cause.Asked) u v (tx, birth, nth, touched, is, leaves) = leaves_adds 1 tx birth touched (Ok (tt {0})) u v leaves
made over (asks.Call Abort) (tells.Worn at) u v (tx, birth, nth, touched, is, leaves) = leaves_adds 1 tx birth touched (Err (Worn at)) u v leaves
made over asked r u v did = absurd did

-- ---- all lines, and the end

all_made : (asked : List Asked) (replies : List Reply) (u v : Seen) (course : Course) (over : Option Going) → Served asked replies u course v over → Adds (length asked) (InTurn u.splits replies) u v
all_made _ _ _ _ _ _ (none_taken u first over new) = by_same 0 (InTurn u.splits []) u u refl no_reply
all_made _ _ _ _ _ _ (line_taken asked replies a r u m v course next over now before did to turns) =
    let f = all_made asked replies u m course over before in
    let g = made over a r m v did in
    let one = length-append asked (a ∷ []) in (
      f.0 ++ g.0,
      f.1 + g.1,
      (let x = f.2 in let y = g.2 in omega arith),
      grows_over u.clock f.1 g.1 f.0 g.0 u m v f.3 g.3,
      reply replies r f.0 g.0 f.4 (subst (λ s. Made s r g.0) (f.3).splits_are g.4),
    )

end_adds : (ended : Option StopCause) (standing : Standing) (v w : Seen) → ClosesBy ended standing v w → Adds 0 AcknowledgeNone v w
end_adds None (Active tx birth nth touched) v w dropped = drops_adds 0 v w dropped
end_adds None (Idle again) v w same = by_same 0 AcknowledgeNone v w same (λ t. refl)
end_adds None StandsAsked v w same = by_same 0 AcknowledgeNone v w same (λ t. refl)
end_adds (Some cause) (Active tx birth nth touched) v w same = by_same 0 AcknowledgeNone v w same (λ t. refl)
end_adds (Some cause) (Idle again) v w same = by_same 0 AcknowledgeNone v w same (λ t. refl)
end_adds (Some cause) StandsAsked v w same = by_same 0 AcknowledgeNone v w same (λ t. refl)

pub replies_tell_entries : RepliesTellEntries
replies_tell_entries asked replies u v w course over served closes =
    let f = all_made asked replies u v course over served in
    let g = end_adds course.ended v.standing v w closes in
    record {
      es = f.0;
      end = g.0;
      begun = f.1 + g.1;
      few = let x = f.2 in let y = g.2 in omega arith;
      grows = grows_over u.clock f.1 g.1 f.0 g.0 u v w f.3 g.3;
      in_turn = f.4;
      ended = g.4;
    }
