-- Steps through words of a part's code: where pc stands, and which addresses they touch.
use Rattle.std.proofs.Common.{◌≡◌, ◌≢◌, ◌⊎◌, inl, inr, ℕ, zero, suc, ◌+◌, ◌<◌, ◌≤◌, ℤ, pos, ◌+ℤ◌, Bool, true}
use Rattle.std.proofs.Common.{false, List, [], ◌∷◌, ◌++◌, length, Some, None, refl, sym, ap, ◌∙◌, subst}
use Rattle.std.proofs.Common.{arith, le-leb, FitsSigned, w32}
use Rattle.cap_words.specs.declared.Word.{Word}
use Rattle.cap_words.specs.declared.Word.TheVariants.{Mem}
use Rattle.cap_words.specs.declared.Face.{Face}
use Rattle.cap_words.specs.declared.Face.TheVariants.{Memory}
use Rattle.cap_words.specs.Faces.{target_of}
use Rattle.cap_words.specs.Linear.{is_linear}
use Rattle.lcm_isa.specs.declared.Reg.{Reg}
use Rattle.lcm_isa.specs.declared.Reg.TheVariants.{Pc, T2}
use Rattle.lcm_isa.specs.declared.Operand.TheVariants.{R as InReg, Imm}
use Rattle.lcm_isa.specs.declared.Instr.{Instr}
use Rattle.lcm_isa.specs.declared.Instr.TheVariants.{Fail, Jnz, Load, Store, Move, Cca, Xjmp}
use Rattle.lcm_isa.specs.Numbers.{number_of, IsInstr}
use Rattle.lcm_machine.specs.declared.Place.TheVariants.{R}
use Rattle.lcm_machine.specs.Maps.{Regs, State}
use Rattle.lcm_machine.specs.Places.{reg, set_reg}
use Rattle.lcm_machine.specs.Cells.{cell}
use Rattle.lcm_machine.specs.Table.{target, fits_64, is_pc}
use Rattle.lcm_machine.specs.Row.{Outcome, went, halted, failed, put, row, faces, look_face, some, step_of}
use Rattle.lcm_machine.specs.Row.{jump_of, jump_in, jump_at}
use Rattle.lcm_machine.specs.Runs.{and_then, run_of, Stands, code_cap}
use Rattle.lcm_machine.specs.Touched.{Touches}
use Rattle.lcm_machine.proofs.Offers.{fetch_at, step_row, touched_by, shows, move_goes, cca_goes, stays}
use Rattle.lcm_machine.proofs.Offers.{fail_fails, reg-set_other, reg-set_same}
use Rattle.call_sequence.specs.SequenceWords.{IsInRange, AtWord}
use Rattle.call_sequence.proofs.Straight.{is_straight, is_store, Num, KeepsNumbers, MayKeep, straight_goes}
use Rattle.call_sequence.proofs.Testing.{dest, t2_stays, test_goes}

-- neither loads nor stores
abbrev pub is_idle : Instr → Bool
is_idle (Load r1 r2) = false
is_idle (Store r1 r2) = false
is_idle _ = true

idle_target : (i : Instr) (f : Reg → Face) → is_idle i ≡ true → target i f ≡ None
idle_target (Load r1 r2) f h = cc
idle_target (Store r1 r2) f h = cc
idle_target _ f h = refl

idle_straight : (i : Instr) → is_idle i ≡ true → is_store i ≡ false
idle_straight (Store r1 r2) h = cc
idle_straight _ h = refl

no_jump : (i : Instr) → is_straight i ≡ true → jump_of i ≡ None
no_jump (Xjmp r1 r2) h = cc
no_jump _ h = refl

abbrev pub IsIdle : Instr → Type 0
IsIdle i = (is_straight i ≡ true) × (is_idle i ≡ true) × IsInstr i

abbrev pub AreIdle : List Instr → Type 0
AreIdle [] = Unit {0}
AreIdle (i ∷ is) = IsIdle i × AreIdle is

-- so many instructions and n more
abbrev pub and_more : List Instr → ℕ → ℕ
and_more [] n = n
and_more (i ∷ is) n = suc (and_more is n)

-- idle code with jumps by T2, and that leaves T2
pub data Guards : List Instr → Type 0 where
  done : Guards []
  tests : {is : List Instr} (r : Reg) → Guards is → Guards (Jnz T2 r ∷ is)
  keeps : {is : List Instr} (i : Instr) (r : Reg) → IsIdle i → dest i ≡ Some r → T2 ≢ r → Guards is
      → Guards (i ∷ is)

pub target_code : (base last at : ℕ) → base ≤ at → at ≤ last
    → target_of (Memory (code_cap base last at)) ≡ Some at
target_code base last at low high = rw (le-leb base at low, le-leb at last high) refl

module _ {W : Type 0} (look : W → Word) (plain : Word → W) (seen : (x : Word) → look (plain x) ≡ x) where
  pub stands_kept : (s t : State W) (at : ℕ) (is : List Instr) → KeepsNumbers look plain s t
      → Stands look s.cells at is → Stands look t.cells at is
  stands_kept s t at [] k h = tt
  stands_kept s t at (i ∷ is) k h = (k at (pos (number_of i)) h.0, stands_kept s t (at + 1) is k h.1)

  pub stands_same : (s t : State W) (at : ℕ) (is : List Instr)
      → ((q : ℕ) → at ≤ q → q < at + length is → cell t.cells q ≡ cell s.cells q) → Stands look s.cells at is
      → Stands look t.cells at is
  stands_same s t at [] k h = tt
  stands_same s t at (i ∷ is) k h = (
    ap (look_face look) (k at (omega arith) (omega arith)) ∙ h.0,
    stands_same s t (at + 1) is (λ q lo hi. k q (omega (arith, lo)) (omega (arith, hi))) h.1,
  )

  -- a step at an instruction of the code touches the code and what the instruction uses
  pub touched : (base last : ℕ) (s : State W) (at : ℕ) (i : Instr)
      → look s.regs.pc ≡ Mem (code_cap base last at)
      → base ≤ at → at ≤ last → Num look s at (pos (number_of i)) → IsInstr i → (a : ℕ) → Touches look s a
      → IsInRange a base last ⊎ (target i (faces look s) ≡ Some a)
  touched base last s at i e low high h ok a x =
      elim (touched_by look s a x) as (λ _. IsInRange a base last ⊎ (target i (faces look s) ≡ Some a)) [
        | inl p ↦
            (let same : Some at ≡ Some a =
            sym (target_code base last at low high)
            ∙ sym (ap target_of (shows look plain s Pc (Mem (code_cap base last at)) e)) ∙ p in
            let k : at ≡ a = cc in inl (omega (arith, k, low), omega (arith, k, high)))
        | inr u ↦
            (let same : some i (Mem (code_cap base last (at + 1))) ≡ some u.0 u.1 =
            sym (fetch_at look plain s base last at i e low high h ok) ∙ u.2 in
            let k : i ≡ u.0 = cc in inr (ap (λ y. target y (faces look s)) k ∙ u.3))
      ]

  module _ (base last upto : ℕ) (Also : ℕ → ℕ → Type 0) where
    -- so many steps, each at the word that comes
    abbrev pub Passes : ℕ → ℕ → State W → Type 0
    Passes at zero s = Unit {0}
    Passes at (suc n) s = AtWord look plain base last at upto (Also at) s
        × ((t : State W) → step_of look plain s ≡ went t → Passes (at + 1) n t)

    pub passed : (n k at : ℕ) (s t : State W) → Passes at n s → k < n → run_of look plain k s ≡ went t
        → AtWord look plain base last (at + k) upto (Also (at + k)) t
    unfolding run_of
    passed zero k at s t h lt e = absurd (omega (arith, lt))
    passed (suc n) zero at s t h lt e =
        let z : at ≡ at + 0 = omega arith in
        let same : s ≡ t = cc in
        subst (λ y. AtWord look plain base last (at + 0) upto (Also (at + 0)) y) same
        (subst (λ a. AtWord look plain base last a upto (Also a) s) z h.0)
    passed (suc n) (suc k) at s t h lt e =
        by_step (step_of look plain s) refl e
        (λ u m g. passed n k (at + 1) u t (h.1 u m) (omega (arith, lt)) g)
      where
        by_step : (r : Outcome W) → step_of look plain s ≡ r → and_then r (run_of look plain k) ≡ went t
            → ((u : State W) → step_of look plain s ≡ went u → run_of look plain k u ≡ went t
            → AtWord look plain base last (at + 1 + k) upto (Also (at + 1 + k)) t)
            → AtWord look plain base last (at + suc k) upto (Also (at + suc k)) t
        by_step (went u) m g more =
            let z : at + 1 + k ≡ at + suc k = omega arith in
            subst (λ a. AtWord look plain base last a upto (Also a) t) z (more u m g)
        by_step halted m g more = cc
        by_step (failed c a) m g more = cc

    -- a word at pc, by what its instruction uses
    pub word_is : (s : State W) (at : ℕ) (i : Instr) → look s.regs.pc ≡ Mem (code_cap base last at)
        → base ≤ at → at ≤ last → Num look s at (pos (number_of i)) → IsInstr i
        → ((a : ℕ) → target i (faces look s) ≡ Some a → IsInRange a base last ⊎ Also at a)
        → (at < upto → jump_of i ≡ None) → AtWord look plain base last at upto (Also at) s
    unfolding jump_at
    word_is s at i e low high h ok uses jump = record {
      touches = λ a x. elim (touched base last s at i e low high h ok a x)
          as (λ _. IsInRange a base last ⊎ ((look s.regs.pc ≡ Mem (code_cap base last at)) × Also at a)) [
            | inl p ↦ inl p
            | inr u ↦ elim (uses a u)
                as (λ _. IsInRange a base last ⊎ ((look s.regs.pc ≡ Mem (code_cap base last at)) × Also at a))
                [ inl y ↦ inl y | inr y ↦ inr (e, y) ]
          ];
      at_pc = λ t goes. e;
      no_jump = λ t goes lt. ap jump_in (fetch_at look plain s base last at i e low high h ok) ∙ jump lt;
    }

    -- one straight instruction in front
    pub first : (s : State W) (at n : ℕ) (i : Instr) → is_straight i ≡ true
        → look s.regs.pc ≡ Mem (code_cap base last at) → base ≤ at → at ≤ last
        → Num look s at (pos (number_of i)) → IsInstr i
        → ((a : ℕ) → target i (faces look s) ≡ Some a → IsInRange a base last ⊎ Also at a)
        → ((t : State W) → row look plain i (Mem (code_cap base last (at + 1))) s ≡ went t
        → look t.regs.pc ≡ Mem (code_cap base last (at + 1)) → MayKeep look plain (is_store i) s t
        → Passes (at + 1) n t)
        → Passes at (suc n) s
    first s at n i st e low high h ok uses more = (
      word_is s at i e low high h ok uses (λ lt. no_jump i st),
      λ t goes.
          let r : row look plain i (Mem (code_cap base last (at + 1))) s ≡ went t =
          sym (step_row look plain s base last at i e low high h ok) ∙ goes in
          let g = straight_goes look plain s t i (Mem (code_cap base last (at + 1))) st r in
          more t r (ap look g.0 ∙ seen _) g.1,
    )

    idle : (s : State W) (at : ℕ) (i : Instr) → is_idle i ≡ true → (a : ℕ) → target i (faces look s) ≡ Some a
        → IsInRange a base last ⊎ Also at a
    idle s at i h a t = let bad : None ≡ Some a = sym (idle_target i (faces look s) h) ∙ t in absurd cc

    -- an idle instruction in front
    pub idle_first : (s : State W) (at n : ℕ) (i : Instr) → IsIdle i
        → look s.regs.pc ≡ Mem (code_cap base last at) → base ≤ at → at ≤ last
        → Num look s at (pos (number_of i))
        → ((t : State W) → row look plain i (Mem (code_cap base last (at + 1))) s ≡ went t
        → look t.regs.pc ≡ Mem (code_cap base last (at + 1)) → KeepsNumbers look plain s t
        → Passes (at + 1) n t)
        → Passes at (suc n) s
    idle_first s at n i ok e low high h more =
        first s at n i ok.0 e low high h ok.2 (idle s at i ok.1)
        (λ t r p m. more t r p (rw (idle_straight i ok.1) at m))

    -- idle code, and what comes after it
    pub idle_code : (is js : List Instr) (n : ℕ) (s : State W) (at : ℕ) → AreIdle is
        → look s.regs.pc ≡ Mem (code_cap base last at) → base ≤ at → at + length is ≤ last + 1
        → Stands look s.cells at (is ++ js)
        → ((t : State W) → look t.regs.pc ≡ Mem (code_cap base last (at + length is))
        → KeepsNumbers look plain s t → Stands look t.cells (at + length is) js → Passes (at + length is) n t)
        → Passes at (and_more is n) s
    idle_code [] js n s at ok e low high h more =
        let z : at + 0 ≡ at = omega arith in
        subst (λ a. Passes a n s) z (more s (e ∙ ap (λ a. Mem (code_cap base last a)) (sym z)) (λ q y x. x)
        (subst (λ a. Stands look s.cells a js) (sym z) h))
    idle_code (i ∷ is) js n s at ok e low high h more =
        let z : at + 1 + length is ≡ at + suc (length is) = omega arith in
        idle_first s at (and_more is n) i ok.0 e low (omega (arith, high)) h.0
        (λ t r p k. idle_code is js n t (at + 1) ok.1 p (omega (arith, low)) (omega (arith, high))
        (stands_kept s t (at + 1) (is ++ js) k h.1)
        (λ u pu l c. subst (λ a. Passes a n u) (sym z) (more u (pu ∙ ap (λ a. Mem (code_cap base last a)) z)
        (λ q y x. l q y (k q y x)) (subst (λ a. Stands look u.cells a js) z c))))

    -- ---- words that leave for a `fail`

    module _ (fail : ℕ) (fail_low : base ≤ fail) (fail_high : fail ≤ last) where
      -- a `fail` touches itself and ends the machine, as whichever word it counts
      pub at_fail : (at n : ℕ) (s : State W) → look s.regs.pc ≡ Mem (code_cap base last fail)
          → Num look s fail (pos (number_of Fail)) → Passes at n s
      at_fail at zero s e h = tt
      at_fail at (suc n) s e h = (
        record {
          touches = λ a x. elim (touched base last s fail Fail e fail_low fail_high h tt a x)
              as (λ _. IsInRange a base last ⊎ ((look s.regs.pc ≡ Mem (code_cap base last at)) × Also at a))
              [ inl y ↦ inl y | inr y ↦ (let bad : None ≡ Some a = y in absurd cc) ];
          at_pc = λ t goes. absurd (ends t goes);
          no_jump = λ t goes lt. absurd (ends t goes);
        },
        λ t goes. absurd (ends t goes),
      )
        where
          ends : (t : State W) → step_of look plain s ≡ went t → ⊥
          ends t goes =
              let r : row look plain Fail (Mem (code_cap base last (fail + 1))) s ≡ went t =
              sym (step_row look plain s base last fail Fail e fail_low fail_high h tt) ∙ goes in
              let k = sym (fail_fails look plain (Mem (code_cap base last (fail + 1))) s) ∙ r in cc

      pub guarded : (is js : List Instr) (n : ℕ) (g : Guards is) (s : State W) (at : ℕ)
          → look s.regs.pc ≡ Mem (code_cap base last at) → base ≤ at → at + length is ≤ last + 1
          → Stands look s.cells at (is ++ js)
          → look s.regs.t2 ≡ Mem (code_cap base last fail) → Num look s fail (pos (number_of Fail))
          → ((u : State W) → look u.regs.pc ≡ Mem (code_cap base last (at + length is))
          → Stands look u.cells (at + length is) js → Passes (at + length is) n u)
          → Passes at (and_more is n) s
      guarded _ js n done s at e low high h t2 hf more =
          let z : at + 0 ≡ at = omega arith in
          subst (λ a. Passes a n s) z (more s (e ∙ ap (λ a. Mem (code_cap base last a)) (sym z))
          (subst (λ a. Stands look s.cells a js) (sym z) h))
      guarded _ js n (tests {is} r g) s at e low high h t2 hf more = (
        word_is s at (Jnz T2 r) e low (omega (arith, high)) h.0 tt (idle s at (Jnz T2 r) refl) (λ lt. refl),
        λ t goes.
            let w : row look plain (Jnz T2 r) (Mem (code_cap base last (at + 1))) s ≡ went t =
            sym (step_row look plain s base last at (Jnz T2 r) e low (omega (arith, high)) h.0 tt) ∙ goes in
            let k = test_goes look plain s t (Mem (code_cap base last (at + 1))) r w in
            let z : at + 1 + length is ≡ at + suc (length is) = omega arith in
            elim k.0 as (λ _. Passes (at + 1) (and_more is n) t) [
              | inl y ↦ guarded is js n g t (at + 1) (ap look y.0 ∙ seen _) (omega (arith, low))
                  (omega (arith, high)) (stands_kept s t (at + 1) (is ++ js) k.1 h.1) (ap look y.1 ∙ t2)
                  (k.1 fail _ hf)
                  (λ u p c. subst (λ a. Passes a n u) (sym z)
                  (more u (p ∙ ap (λ a. Mem (code_cap base last a)) z)
                  (subst (λ a. Stands look u.cells a js) z c)))
              | inr y ↦ at_fail (at + 1) (and_more is n) t (ap look y ∙ t2) (k.1 fail _ hf)
            ],
      )
      guarded _ js n (keeps {is} i r ok d ne g) s at e low high h t2 hf more =
          let z : at + 1 + length is ≡ at + suc (length is) = omega arith in
          idle_first s at (and_more is n) i ok e low (omega (arith, high)) h.0
          (λ t w p k. guarded is js n g t (at + 1) p (omega (arith, low)) (omega (arith, high))
          (stands_kept s t (at + 1) (is ++ js) k h.1) (ap look (t2_stays look plain s t i _ r d ne w) ∙ t2)
          (k fail _ hf)
          (λ u pu c. subst (λ a. Passes a n u) (sym z)
          (more u (pu ∙ ap (λ a. Mem (code_cap base last a)) z)
          (subst (λ a. Stands look u.cells a js) z c))))

    -- two words that make a register lead to a place of the code
    pub aimed : (r : Reg) (to : ℤ) (place n : ℕ) (s : State W) (at : ℕ) (js : List Instr) → is_pc r ≡ false
        → r ≢ Pc → FitsSigned w32 to
        → look s.regs.pc ≡ Mem (code_cap base last at) → base ≤ at → at + 1 ≤ last
        → Stands look s.cells at (Move r (InReg Pc) ∷ Cca r (Imm to) ∷ js)
        → pos at +ℤ to ≡ pos place → fits_64 (pos place) ≡ true
        → ((u : State W) → look u.regs.pc ≡ Mem (code_cap base last (at + 1 + 1))
        → look (reg u.regs r) ≡ Mem (code_cap base last place) → KeepsNumbers look plain s u
        → Stands look u.cells (at + 1 + 1) js → Passes (at + 1 + 1) n u)
        → Passes at (suc (suc n)) s
    aimed r to place n s at js not_pc ne fit e low high h leads fits more =
        idle_first s at (suc n) (Move r (InReg Pc)) (refl, refl, tt) e low (omega (arith, high)) h.0
        (λ t w p k.
        let next1 : Word = Mem (code_cap base last (at + 1)) in
        let t1 : State W = put (put s (R r) (reg s.regs Pc)) (R Pc) (plain next1) in
        let m : row look plain (Move r (InReg Pc)) next1 s ≡ went t1 =
        move_goes look plain r Pc next1 s s not_pc (stays look plain s (R Pc) (ap is_linear e)) in
        let same : t1 ≡ t = (let q : went t1 ≡ went t = sym m ∙ w in cc) in
        let led : look (reg t.regs r) ≡ Mem (code_cap base last at) =
        ap (λ (y : State W). look (reg y.regs r)) (sym same)
        ∙ ap look (behind s.regs r (reg s.regs Pc) (plain next1) ne) ∙ e in
        idle_first t (at + 1) n (Cca r (Imm to)) (refl, refl, fit) p (omega (arith, low)) high
        (k _ _ h.1.0) (λ u w2 p2 k2.
        let next2 : Word = Mem (code_cap base last (at + 1 + 1)) in
        let u1 : State W = put (put t (R r) (plain (Mem (code_cap base last place)))) (R Pc) (plain next2) in
        let m2 : row look plain (Cca r (Imm to)) next2 t ≡ went u1 =
        cca_goes look plain r (Imm to) next2 t (code_cap base last at) to (pos place)
        not_pc led refl leads fits in
        let same2 : u1 ≡ u = (let q : went u1 ≡ went u = sym m2 ∙ w2 in cc) in
        let both : KeepsNumbers look plain s u = λ q z x. k2 q z (k q z x) in
        more u p2
        (ap (λ (y : State W). look (reg y.regs r)) (sym same2)
        ∙ ap look (behind t.regs r (plain (Mem (code_cap base last place))) (plain next2) ne) ∙ seen _)
        both (stands_kept s u (at + 1 + 1) js both h.1.1)))
      where
        behind : (rs : Regs W) (r : Reg) (w n : W) → r ≢ Pc → reg (set_reg (set_reg rs r w) Pc n) r ≡ w
        behind rs r w n ne = reg-set_other (set_reg rs r w) Pc r n ne ∙ reg-set_same rs r w
