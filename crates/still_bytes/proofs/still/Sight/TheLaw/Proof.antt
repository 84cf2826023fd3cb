-- What a `Sight` owns may be had twice, so a `&` to one holds it, too. Assumes `Logic`.
use mathlib.Core.List.{[], ◌∷◌}
use base.Logic.{sep, wand, snd∗, apply∗}
use base.Fml.{fbor}
use base.Before.{before}
use types.Logic.{sem, lfts}
use types.Kit.{‵, raw, ◌⊛◌, later, ◌$◌, ◌∵◌, !, qed, move, keep, use1, use2, split, await, updating, now, done}
use denote.Struct.Lending.{of_Lends}
use Rattle.bytes.proofs.Loans.{seen_dup}
use Rattle.still_bytes.specs.contracts.still.Sight as C
use Rattle.still_bytes.proofs.still.Sight.TheLaw.Statement.{statement}

pub shares : statement
shares =
    of_Lends C.struct C.the_codes C.the_heap C.the_lent
    (λ d p. record { contraction = λ M 𝓤 𝓛 _. seen_dup 𝓛 [] [] d.ptr d.items; mono = λ M 𝓤 𝓛 κ' κ. snd∗ 𝓤 (sem 𝓛 (before κ' κ)) (sem 𝓛 (C.the_heap d)) })
    tt (λ M 𝓤 𝓛 d p κ ts inc sp.
    let held = C.the_heap d in
    let back = 𝓛.H.⇛ (sep 𝓤 (𝓛.A.bor κ held) (lfts 𝓛 ts)) in
    qed 𝓛 (‵ (fbor κ held) ∷ raw (lfts 𝓛 ts) ∷ []) ∵ updating ! $
    use2 𝓛 (later (‵ held ⊛ raw (wand 𝓤 (sem 𝓛 held) back))) (𝓛.more.bor_acc_by κ ts held sp) $ await ! tt $ split ! $
    use1 𝓛 (‵ held ⊛ ‵ held) (seen_dup 𝓛 [] [] d.ptr d.items) $ split ! $ move ! (0 ∷ 2 ∷ []) $
    use2 𝓛 (later (‵ (fbor κ held) ⊛ raw (lfts 𝓛 ts))) (apply∗ 𝓤 (sem 𝓛 held) back) $ await ! tt $ split ! $ keep ! (2 ∷ 1 ∷ []) $ now ! $ done !)
