-- The states of a debugger as one list, the newest last.
use Rattle.std.proofs.Common.{◌≡◌, ◌≤◌, ◌+◌, ◌-◌, ℕ, suc, List, [], ◌∷◌, ◌++◌, length, take, drop}
use Rattle.std.proofs.Common.{sym, ap, ◌∙◌, arith, reverse, None}
use Rattle.std.proofs.lemmas.List.{take-append-drop, length-drop, reverse-append, length-reverse, drop_at}
use Rattle.std.proofs.lemmas.Grind.{reverse_onto}
use Rattle.std.proofs.Math.Seq.{take-append_seam}
use Rattle.lcm_machine.specs.Run.{Run, next_state}
use Rattle.step_back.specs.Seen.{Debugging}
use Rattle.step_back.specs.Debug.{forward, forward_by, back, back_by}
use Rattle.step_back.specs.Calls.{states, latest}

reverse_taken : (n : ℕ) (ss : List Run) → reverse (take n ss) ≡ drop (length ss - n) (reverse ss)
reverse_taken n ss =
    sym (ap (λ xs. drop (length ss - n) xs)
    (ap reverse (sym (take-append-drop n ss)) ∙ reverse-append (take n ss) (drop n ss))
    ∙ drop_at (reverse (drop n ss)) (reverse (take n ss)) (length ss - n)
    (length-reverse (drop n ss) ∙ length-drop n ss))

pub forward_listed : (d : Debugging) → d.now.end ≡ None
    → states (forward d) ≡ latest (d.depth + 1) (states d ++ next_state d.now ∷ [])
unfolding forward
forward_listed d e =
    let rest = d.now ∷ d.before in
    let s = next_state d.now in
    let push : reverse (s ∷ rest) ≡ reverse rest ++ s ∷ [] = reverse_onto rest s [] in
    let len : length (s ∷ rest) ≡ length (reverse rest ++ s ∷ []) =
    sym (length-reverse (s ∷ rest)) ∙ ap length push in
    let one : suc d.depth ≡ d.depth + 1 = omega arith in
    ap (λ o. states (forward_by o d)) e ∙ reverse_taken (suc d.depth) (s ∷ rest)
    ∙ (λ i. drop (len i - one i) (push i))

pub back_listed : (d : Debugging) → 2 ≤ length (states d)
    → states (back d) ≡ take (length (states d) - 1) (states d)
unfolding back
back_listed d h = by_list d.before h
  where
    by_list : (ss : List Run) → 2 ≤ length (reverse (d.now ∷ ss))
        → states (back_by ss d) ≡ take (length (reverse (d.now ∷ ss)) - 1) (reverse (d.now ∷ ss))
    by_list [] k = absurd (omega arith)
    by_list (t ∷ ts) k =
        let push : reverse (d.now ∷ t ∷ ts) ≡ reverse (t ∷ ts) ++ d.now ∷ [] =
        reverse_onto (t ∷ ts) d.now [] in
        let l = length-reverse (d.now ∷ t ∷ ts) in
        let m = length-reverse (t ∷ ts) in
        let len : length (reverse (d.now ∷ t ∷ ts)) - 1 ≡ length (reverse (t ∷ ts)) = omega arith in
        sym ((λ i. take (len i) (push i)) ∙ take-append_seam (reverse (t ∷ ts)) (d.now ∷ []))
