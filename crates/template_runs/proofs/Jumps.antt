-- The jumps of bodies: t2 is led to an offset of the part, and pc goes there.
use Rattle.std.proofs.Common.{◌≡◌, ℕ, ◌+◌, ◌<◌, ◌≤◌, ℤ, pos, ◌+ℤ◌, List, None, true, false, refl, ap, subst}
use Rattle.std.proofs.Common.{arith, length}
use Rattle.std.proofs.lemmas.Int.{ints}
use Rattle.cap_words.specs.declared.Word.TheVariants.{Int, Mem}
use Rattle.cap_words.specs.Linear.{is_linear}
use Rattle.lcm_isa.specs.declared.Reg.TheVariants.{Pc, T2, G0}
use Rattle.lcm_isa.specs.declared.Operand.TheVariants.{R as InReg, Imm}
use Rattle.lcm_isa.specs.declared.Instr.{Instr}
use Rattle.lcm_isa.specs.declared.Instr.TheVariants.{Move, Cca, Jmp, Jnz}
use Rattle.lcm_machine.specs.declared.Place.TheVariants.{R}
use Rattle.lcm_machine.specs.Table.{fits_64, is_zero}
use Rattle.lcm_machine.specs.Row.{put}
use Rattle.lcm_machine.proofs.Offers.{stays, move_goes, cca_goes, jmp_goes, jnz_goes, jnz_jumps}
use Rattle.call_sequence.specs.Holds.{code_at}
use Rattle.linked_starts.specs.Parts.{PartSeen}
use Rattle.overlay_machine.specs.declared.words.OWord.{OWord}
use Rattle.overlay_machine.specs.declared.words.OWord.TheVariants.{Plain}
use Rattle.overlay_machine.specs.Words.{look}
use Rattle.overlay_machine.specs.State.{OpenFrame, OState}
use Rattle.overlay_machine.specs.Link.{Link, IsTrusted, ranges_of}
use Rattle.overlay_machine.specs.Linked.{IsLink}
use Rattle.overlay_machine.proofs.Offers.{in_code, code_small}
use Rattle.template_runs.proofs.Numbers.{fits_small}
use Rattle.template_runs.specs.Runs.{Makes, RunsOn, is_inside}
use Rattle.template_runs.proofs.Valid.{Valid, valid_same}
use Rattle.template_runs.proofs.Steps.{At, Code, next_pc, go_to, makes, inside_here}
use Rattle.template_runs.proofs.Rows.{moved}
use Rattle.template_runs.proofs.Data.{Away, with_reg, set_law, skip_law, skipped}
use Rattle.template_runs.proofs.Elements.{free_t2}
use Rattle.proc_templates.specs.Items.{leading}

module _ (g : Link) (linked : IsLink g) (p : PartSeen) (ip : IsTrusted g p) (w top : ℕ) (fs : List OpenFrame)
    (words : List OWord) (mem : ℕ → OWord) (z : ℤ) where
  abbrev Away' : OState → Type 0
  Away' = Away g linked p ip w top fs z words mem

  abbrev leads : ℕ → OWord
  leads to = Plain (Mem (code_at (ranges_of p) to))

  -- what a jump keeps
  pub record Kept (o q : OState) : Type 0 where
    pub g0 : q.maps.regs.g0 ≡ o.maps.regs.g0
    pub a0 : q.maps.regs.a0 ≡ o.maps.regs.a0

  abbrev aimed : OState → ℕ → ℕ → OState
  aimed o k to = with_reg (with_reg o T2 o.maps.regs.pc (next_pc g linked p k)) T2 (leads to)
      (next_pc g linked p (k + 1))

  module _ (k to : ℕ) (far : ℤ) (there : pos k +ℤ far ≡ pos to) (inside : to < length p.component.code) where
    aim_law : (i : Instr) (want : RunsOn g.layout) (c b : ℕ) (o : OState)
        → Code g linked p k (leading far i) → At g linked p k o → Away' o
        → (Away' (aimed o k to) → At g linked p (k + 1 + 1) (aimed o k to) → want.Good b (aimed o k to))
        → 2 + b ≤ c → want.Good c o
    aim_law i want c b o code at h u le =
        let last = in_code g linked p to ip inside in
        let small = code_small g linked p ip in
        let fit : fits_64 (pos (p.component.code_base + to)) ≡ true =
        fits_small (p.component.code_base + to) (omega (arith, last, small)) in
        let e : pos (p.component.code_base + k) +ℤ far ≡ pos (p.component.code_base + to) =
        omega (arith, ints, there) in
        let s1 = with_reg o T2 o.maps.regs.pc (next_pc g linked p k) in
        let le1 : 1 + (1 + b) ≤ c = omega (arith, le) in
        let le2 : 1 + b ≤ 1 + b = omega arith in
        set_law g linked p ip w top fs k want c (1 + b) words mem o z (Move T2 (InReg Pc)) T2 o.maps.regs.pc
        (free_t2 g linked) refl code.0 at h
        (move_goes look Plain T2 Pc _ o.maps o.maps refl
        (stays look Plain o.maps (R Pc) (ap is_linear at.pc))) (λ h1 at1.
        set_law g linked p ip w top fs (k + 1) want (1 + b) b words mem s1 z (Cca T2 (Imm far)) T2 (leads to)
        (free_t2 g linked) refl code.1.0 at1 h1
        (cca_goes look Plain T2 (Imm far) _ s1.maps (code_at (ranges_of p) k) far
        (pos (p.component.code_base + to)) refl at.pc refl e fit) u le2) le1

    abbrev gone : OState → OState
    gone o = record o { maps = put o.maps (R Pc) o.maps.regs.t2 }

    gone_away : (o : OState) → Away' o → Valid g linked (gone o) → Away' (gone o)
    gone_away o h v = moved g linked h v h.stk h.dat refl refl

    pub jump_law : (want : RunsOn g.layout) (c b : ℕ) (o : OState)
        → Code g linked p k (leading far (Jmp T2)) → At g linked p k o → Away' o
        → ((q : OState) → Away' q → At g linked p to q → Kept o q → want.Good b q) → 3 + b ≤ c → want.Good c o
    jump_law want c b o code at h u le =
        let le1 : 2 + (1 + b) ≤ c = omega (arith, le) in
        aim_law (Jmp T2) want c (1 + b) o code at h (λ h1 at1.
        let s = aimed o k to in
        go_to g linked p (k + 1 + 1) (Jmp T2) s h1.valid at1 code.1.1.0 refl want b to
        (put s.maps (R Pc) s.maps.regs.t2)
        (jmp_goes look Plain T2 _ s.maps s.maps (stays look Plain s.maps (R T2) refl)) refl refl
        (λ v2 at2.
        u (gone s) (gone_away s h1 v2) at2 (record { g0 = refl; a0 = refl }))) le1

    -- where what is wanted after the jump is another property: a loop goes back with a step less
    pub back_law : (later want : RunsOn g.layout)
        → ((n c : ℕ) (o q : OState) → Makes g.layout n None o q → is_inside g.layout q ≡ true
        → q.maps.cells ≡ o.maps.cells → later.Good c q → want.Good (n + c) o)
        → (c b : ℕ) (o : OState) → Code g linked p k (leading far (Jmp T2)) → At g linked p k o
        → Away' o → ((q : OState) → Away' q → At g linked p to q → Kept o q → later.Good b q) → 3 + b ≤ c
        → want.Good c o
    back_law later want step c b o code at h u le =
        let le1 : 2 + (1 + b) ≤ c = omega (arith, le) in
        aim_law (Jmp T2) want c (1 + b) o code at h (λ h1 at1.
        let s = aimed o k to in
        let k1 = makes g linked p (k + 1 + 1) (Jmp T2) s h1.valid at1 code.1.1.0 refl
        (put s.maps (R Pc) s.maps.regs.t2)
        (jmp_goes look Plain T2 _ s.maps s.maps (stays look Plain s.maps (R T2) refl)) in
        let at2 : At g linked p to (gone s) = record { trusted = at1.trusted; pc = refl } in
        step 1 b s (gone s) k1 (inside_here g linked p to (gone s) at2) refl (u (gone s)
        (gone_away s h1 (valid_same g linked s (gone s) h1.valid k1.goes_on refl refl)) at2
        (record { g0 = refl; a0 = refl }))) le1

    -- where g0 isn't 0
    pub branch_goes : (want : RunsOn g.layout) (c b : ℕ) (x : ℤ) (o : OState)
        → Code g linked p k (leading far (Jnz T2 G0)) → At g linked p k o → Away' o
        → o.maps.regs.g0 ≡ Plain (Int x) → is_zero x ≡ false
        → ((q : OState) → Away' q → At g linked p to q → Kept o q → want.Good b q) → 3 + b ≤ c → want.Good c o
    branch_goes want c b x o code at h e nz u le =
        let le1 : 2 + (1 + b) ≤ c = omega (arith, le) in
        aim_law (Jnz T2 G0) want c (1 + b) o code at h (λ h1 at1.
        let s = aimed o k to in
        go_to g linked p (k + 1 + 1) (Jnz T2 G0) s h1.valid at1 code.1.1.0 refl want b to
        (put s.maps (R Pc) s.maps.regs.t2)
        (jnz_jumps look Plain T2 G0 _ s.maps s.maps x (ap look e) nz
        (stays look Plain s.maps (R T2) refl)) refl refl (λ v2 at2.
        u (gone s) (gone_away s h1 v2) at2 (record { g0 = refl; a0 = refl }))) le1

    pub branch_stays : (want : RunsOn g.layout) (c b : ℕ) (x : ℤ) (o : OState)
        → Code g linked p k (leading far (Jnz T2 G0)) → At g linked p k o → Away' o
        → o.maps.regs.g0 ≡ Plain (Int x) → is_zero x ≡ true
        → ((q : OState) → Away' q → At g linked p (k + 3) q → Kept o q → want.Good b q) → 3 + b ≤ c
        → want.Good c o
    branch_stays want c b x o code at h e iz u le =
        let le1 : 2 + (1 + b) ≤ c = omega (arith, le) in
        let le2 : 1 + b ≤ 1 + b = omega arith in
        let e3 : k + 1 + 1 + 1 ≡ k + 3 = omega arith in
        aim_law (Jnz T2 G0) want c (1 + b) o code at h (λ h1 at1.
        let s = aimed o k to in
        skip_law g linked p ip w top fs (k + 1 + 1) want (1 + b) b words mem s z (Jnz T2 G0) refl code.1.1.0
        at1 h1 (jnz_goes look Plain T2 G0 _ s.maps x (ap look e) iz) (λ h2 at2.
        u (skipped g linked p ip w top fs (k + 1 + 1) s) h2
        (subst (λ j. At g linked p j (skipped g linked p ip w top fs (k + 1 + 1) s)) e3 at2)
        (record { g0 = refl; a0 = refl })) le2) le1
