-- Brackets one after the other, and under a map.
use Rattle.std.proofs.Common.{ℕ, zero, suc, List, [], ◌∷◌, ◌++◌, refl}
use Rattle.std.specs.Prelude.{map}
use Rattle.overlay_machine.specs.Brackets.{Mark, opens, closes, Brackets, at_end, one_opens, one_closes}
use Rattle.overlay_machine.specs.Brackets.{Depth}

pub joined : {F : Type 0} {xs ys zs : List F} {ms ns : List (Mark F)} → Brackets F xs ms ys
    → Brackets F ys ns zs → Brackets F xs (ms ++ ns) zs
joined (at_end _) k = k
joined (one_opens h) k = one_opens (joined h k)
joined (one_closes h) k = one_closes (joined h k)

abbrev pub mark_map : {F G : Type 0} → (F → G) → Mark F → Mark G
mark_map f (opens x) = opens (f x)
mark_map f (closes x) = closes (f x)

pub mapped : {F G : Type 0} (f : F → G) {xs ys : List F} {ms : List (Mark F)} → Brackets F xs ms ys
    → Brackets G (map f xs) (map (mark_map f) ms) (map f ys)
mapped f (at_end _) = at_end _
mapped f (one_opens h) = one_opens (mapped f h)
mapped f (one_closes h) = one_closes (mapped f h)

pub depth_split : {F : Type 0} (ms ns : List (Mark F)) (d e : ℕ) → Depth (ms ++ ns) d e
    → (k : ℕ) × Depth ms d k × Depth ns k e
depth_split [] ns d e h = (d, refl, h)
depth_split (opens x ∷ ms) ns d e h = depth_split ms ns (suc d) e h
depth_split (closes x ∷ ms) ns zero e h = absurd h
depth_split (closes x ∷ ms) ns (suc d) e h = depth_split ms ns d e h

pub depth_unmapped : {F G : Type 0} (f : F → G) (ms : List (Mark F)) (d e : ℕ)
    → Depth (map (mark_map f) ms) d e → Depth ms d e
depth_unmapped f [] d e h = h
depth_unmapped f (opens x ∷ ms) d e h = depth_unmapped f ms (suc d) e h
depth_unmapped f (closes x ∷ ms) zero e h = absurd h
depth_unmapped f (closes x ∷ ms) (suc d) e h = depth_unmapped f ms d e h
