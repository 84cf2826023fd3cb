-- What is known of what tells its story, as a disk or both sides, before and after calls.
use Rattle.std.proofs.Common.{Option, Some, None, IfSome, sym, subst}
use Rattle.io_model.specs.Story.{Story}
use Rattle.io_model.specs.Sides.{both_told}
use Rattle.io_model.specs.Disk.{Tells}

-- what was known before the calls holds beside what they did
pub tells_knowing : {S : Type 0} (o n : Option S) (L : S → Type 0) (R Q : S → S → Type 0) → IfSome o L → ((s t : S) → L s → R s t → Q s t) → Tells o n R → Tells o n Q
tells_knowing None n L R Q known f told = told
tells_knowing (Some s) n L R Q known f (t, is, r) = (t, is, f s t known r)

-- what is known after the calls says something of before
pub known_before : {S : Type 0} (o n : Option S) (R : S → S → Type 0) (L K : S → Type 0) → ((s t : S) → R s t → L t → K s) → Tells o n R → IfSome n L → IfSome o K
known_before None n R L K f told known = tt
known_before {S} (Some s) n R L K f (t, is, r) known = f s t r (subst (λ (v : Option S). IfSome v L) is known)

-- and the other way
pub known_after : {S : Type 0} (o n : Option S) (R : S → S → Type 0) (L K : S → Type 0) → ((s t : S) → R s t → L s → K t) → Tells o n R → IfSome o L → IfSome n K
known_after {S} None n R L K f told known = subst (λ (v : Option S). IfSome v K) (sym told) tt
known_after {S} (Some s) n R L K f (t, is, r) known = subst (λ (v : Option S). IfSome v K) (sym is) (f s t r known)

-- what the calls themselves say of before
pub known_of : {S : Type 0} (o n : Option S) (R : S → S → Type 0) (K : S → Type 0) → ((s t : S) → R s t → K s) → Tells o n R → IfSome o K
known_of None n R K f told = tt
known_of (Some s) n R K f (t, is, r) = f s t r

-- and of after
pub known_now : {S : Type 0} (o n : Option S) (R : S → S → Type 0) (K : S → Type 0) → ((s t : S) → R s t → K t) → Tells o n R → IfSome n K
known_now {S} None n R K f told = subst (λ (v : Option S). IfSome v K) (sym told) tt
known_now {S} (Some s) n R K f (t, is, r) = subst (λ (v : Option S). IfSome v K) (sym is) (f s t r)

-- of both sides, from what is known of each
pub both_known : (K L : Story → Type 0) (o0 o1 : Option Story) → IfSome o0 K → IfSome o1 L → IfSome (both_told o0 o1) (λ s. K s.side0 × L s.side1)
both_known K L None o1 first second = tt
both_known K L (Some s0) None first second = tt
both_known K L (Some s0) (Some s1) first second = (first, second)

pub first_known : (K : Story → Type 0) (o0 o1 : Option Story) → IfSome o0 K → IfSome (both_told o0 o1) (λ s. K s.side0)
first_known K None o1 known = tt
first_known K (Some s0) None known = tt
first_known K (Some s0) (Some s1) known = known

pub second_known : (K : Story → Type 0) (o0 o1 : Option Story) → IfSome o1 K → IfSome (both_told o0 o1) (λ s. K s.side1)
second_known K None o1 known = tt
second_known K (Some s0) None known = tt
second_known K (Some s0) (Some s1) known = known

-- what follows from what is known
pub known_weaker : {S : Type 0} (o : Option S) (K L : S → Type 0) → ((s : S) → K s → L s) → IfSome o K → IfSome o L
known_weaker None K L f known = tt
known_weaker (Some s) K L f known = f s known

pub known_both : {S : Type 0} (o : Option S) (K L : S → Type 0) → IfSome o K → IfSome o L → IfSome o (λ s. K s × L s)
known_both None K L first second = tt
known_both (Some s) K L first second = (first, second)

-- what always holds
pub known_always : {S : Type 0} (o : Option S) (K : S → Type 0) → ((s : S) → K s) → IfSome o K
known_always None K f = tt
known_always (Some s) K f = f s
