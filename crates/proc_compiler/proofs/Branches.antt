-- Branches and loops, whose jumps are led where they go once what they go over is written.
use Rattle.std.proofs.Common.{◌≡◌, ℕ, ◌+◌, ℤ, pos, List, [], ◌∷◌, ◌++◌, length, sym, ap, ◌∙◌}
use Rattle.std.proofs.Common.{refl, subst, append_assoc, arith}
use Rattle.lcm_isa.specs.declared.Reg.TheVariants.{G0}
use Rattle.call_sequence.specs.Sequences.{distance}
use Rattle.proc_templates.specs.Items.{Item, goes, goes_if, label}
use Rattle.proc_templates.specs.Templates.{if_code, while_code}
use Rattle.proc_compiler.specs.declared.counts.TheConstants.{JUMP_WORDS}
use Rattle.proc_compiler.specs.Drafts.{Drafted, with_items, Emits, Aims}
use Rattle.proc_compiler.proofs.Emitted.{then, counted}

pub labelled : {xs : List Item} {n k : ℕ} {d e f : Drafted} → Emits (label ∷ []) 0 0 d e → Emits xs n k e f
    → Emits (label ∷ xs) n k d f
labelled here h = counted (omega arith) (omega arith) (then here h)

pub followed : {xs : List Item} {x : Item} {n m k : ℕ} {d e f : Drafted} → Emits xs n k d e
    → Emits (x ∷ []) m 0 e f → Emits (xs ++ (x ∷ [])) (n + m) k d f
followed h last = counted refl (omega arith) (then h last)

-- a jump over items, led where it goes
pub led : {xs : List Item} {n k at : ℕ} {far to : ℤ} {d e f g : Drafted} → at ≡ length d.laid.code → far ≡ to
    → Emits (goes (pos 0) ∷ []) JUMP_WORDS 0 d e → Emits xs n k e f → Aims at far f g
    → Emits (goes to ∷ xs) (JUMP_WORDS + n) k d g
led {xs = xs} {d = d} there is first rest aims =
    let h = then first rest in
    let n = aims.grown in
    let m = h.grown in
    let k = h.sited in
    record {
      written = aims.aimed d (pos 0) xs (sym there) h.written ∙ ap (λ z. with_items (goes z ∷ xs) d) is;
      grown = n ∙ m;
      sited = ap length aims.sited ∙ omega (arith, k);
      kept = aims.kept ∙ h.kept;
    }

pub branched : {cs bs ds : List Item} {k i j l : ℕ} {d0 d1 d2 d3 d4 d5 : Drafted} (m n : ℕ)
    → Emits cs k i d0 d1 → Emits (goes_if (pos 6) G0 ∷ []) JUMP_WORDS 0 d1 d2
    → Emits (goes (pos (m + 6)) ∷ label ∷ bs) (JUMP_WORDS + m) j d2 d3
    → Emits (goes (pos (n + 3)) ∷ label ∷ ds) (JUMP_WORDS + n) l d3 d4 → Emits (label ∷ []) 0 0 d4 d5
    → Emits (if_code cs bs m ds n) (k + m + n + 9) (i + (j + l)) d0 d5
branched m n condition over body other last =
    counted (omega arith) (omega arith) (then condition (then over (then body (then other last))))

pub repeated : {cs : List Item} {i j : ℕ} {d0 d1 d2 d3 d4 d5 : Drafted} (bs : List Item) (k m : ℕ)
    → Emits (label ∷ []) 0 0 d0 d1 → Emits cs k i d1 d2 → Emits (goes_if (pos 6) G0 ∷ []) JUMP_WORDS 0 d2 d3
    → Emits (goes (pos (m + 6)) ∷ label ∷ (bs ++ (goes (distance (k + 6 + m) 0) ∷ [])))
    (JUMP_WORDS + (m + JUMP_WORDS)) j d3 d4
    → Emits (label ∷ []) 0 0 d4 d5 → Emits (while_code cs k bs m) (k + m + 9) (i + j) d0 d5
repeated {cs = cs} {i = i} {j = j} {d0 = d0} {d5 = d5} bs k m here condition over body last =
    let back : Item = goes (distance (k + 6 + m) 0) in
    subst (λ xs. Emits (label ∷ (cs ++ (goes_if (pos 6) G0 ∷ goes (pos (m + 6)) ∷ label ∷ xs))) (k + m + 9)
    (i + j) d0 d5)
    (append_assoc bs (back ∷ []) (label ∷ []))
    (labelled here (counted (omega arith) (omega arith) (then condition (then over (then body last)))))
