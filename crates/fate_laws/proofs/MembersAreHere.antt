-- A member's part is left on each shard that its request names.
use Rattle.std.proofs.Common.{◌≡◌, ◌⊎◌, inl, inr, refl, sym, ap, subst, ◌∙◌, ℕ, true, false, cond, not, Bool, ◌==◌, List, [], ◌∷◌, map, eqb-true}
use Rattle.std.specs.List.{filter}
use Rattle.std.proofs.lemmas.Bool.{both_ways, or_cases, or_left, or_right, eq-eqb}
use Rattle.clv_base.specs.Orders.{nat_in}
use Rattle.clv_base.specs.LogRules.{log_of}
use Rattle.clv_base.specs.History.{logs_left}
use Rattle.protocol_laws.specs.SessionLaws.{tx_of}
use Rattle.history_cases.proofs.Merging.{is_among}
use Rattle.history_laws.proofs.NeverTakenBack.{walker_of}
use Rattle.fate_laws.specs.Decisions.{is_left}
use Rattle.fate_laws.specs.Binding.{HasItsPart}
use Rattle.fate_laws.proofs.History.EntryByEntry.{one_home}
use Rattle.fate_laws.proofs.Homes.DecidedStaysDecided.{commits_stand_at_home}
use Rattle.fate_laws.proofs.Parts.CommitsHaveTheirParts.{commits_have_their_parts}
use Rattle.fate_laws.specs.FallMembers.{MembersAreHere}

pub in_others : (m home : ℕ) (xs : List ℕ) → nat_in m xs ≡ true → (m == home) ≡ false → nat_in m (filter (λ p. not (p == home)) xs) ≡ true
in_others m home [] i n = absurd (both_ways false refl i)
in_others m home (x ∷ xs) i n = at (x == home) refl (or_cases (m == x) (nat_in m xs) i) (λ j. in_others m home xs j n)
  where
    at : (b : Bool) → (x == home) ≡ b → ((m == x) ≡ true) ⊎ (nat_in m xs ≡ true) → (nat_in m xs ≡ true → nat_in m (filter (λ p. not (p == home)) xs) ≡ true)
        → nat_in m (cond (not b) (x ∷ filter (λ p. not (p == home)) xs) (filter (λ p. not (p == home)) xs)) ≡ true
    at true e (inl f) k = absurd (both_ways _ n (eq-eqb m home (eqb-true m x f ∙ eqb-true x home e)))
    at true e (inr f) k = k f
    at false e (inl f) k = or_left (m == x) _ f
    at false e (inr f) k = or_right (m == x) _ (k f)

pub members_are_here : MembersAreHere
members_are_here splits before h after choice n m home e touched tx l i j a ev out there left = at (m == home) refl
  where
    at : (b : Bool) → (m == home) ≡ b → HasItsPart (log_of (logs_left splits before h after choice) m) tx
    at false f = commits_have_their_parts splits before h after choice n m home e touched tx l i j a ev out (in_others m home (map (λ t. t.0) touched) there f) left
    at true f =
        let x = is_among home e h a in
        let run = (walker_of splits before after h (home, e) tx l.legal x (ap tx_of ev)).0 in
        let k = commits_stand_at_home splits before h after choice n tx l i run left in
        let b = k.1 in
        let same = one_home splits before after h tx k.0 home b.0 e b.1 touched l.legal (is_among k.0 b.0 h b.2) (b.3, b.4) x (ev, out) in
        inl (subst (λ z. is_left splits before h after choice z tx ≡ true) (same ∙ sym (eqb-true m home f)) k.2)
