-- What an `xjmp` of the plain machine that goes has done, and where a fetched instruction lies.
use Rattle.std.proofs.Common.{◌≡◌, ◌⊎◌, inl, inr, ℕ, ◌≤◌, pos, Bool, true, false, Some, None, refl, sym, ap}
use Rattle.std.proofs.Common.{◌∙◌, subst, eqb-true}
use Rattle.std.specs.Prelude.{Option, not, ◌&&◌, is_some, if◌then◌else◌}
use Rattle.cap_words.specs.declared.Word.{Word}
use Rattle.cap_words.specs.declared.Word.TheVariants.{Int, Mem}
use Rattle.cap_words.specs.declared.CapFields.{CapFields}
use Rattle.cap_words.specs.declared.Opened.{Opened}
use Rattle.cap_words.specs.declared.Face.{Face}
use Rattle.cap_words.specs.declared.Face.TheVariants.{Number, Memory, Seals, Sealed}
use Rattle.cap_words.specs.declared.Perm.{Perm}
use Rattle.cap_words.specs.Face.{face_of, opened_of}
use Rattle.cap_words.specs.Faces.{may_run, target_of}
use Rattle.cap_words.specs.Linear.{is_linear, lin_is, zero_word}
use Rattle.lcm_isa.specs.declared.Reg.{Reg}
use Rattle.lcm_isa.specs.declared.Reg.TheVariants.{Pc, Stk, Dat}
use Rattle.lcm_isa.specs.declared.Instr.TheVariants.{Xjmp}
use Rattle.lcm_machine.specs.Plan.{Plan, Fails, Halts, Goes}
use Rattle.lcm_machine.specs.declared.Place.TheVariants.{R}
use Rattle.lcm_machine.specs.Maps.{State}
use Rattle.lcm_machine.specs.Places.{reg}
use Rattle.lcm_machine.specs.Table.{memory_content, unsealed, runs_in, no_effect, made}
use Rattle.lcm_machine.specs.Row.{put, clear, perform, faces, cell_faces, face_there, opens, plan_in, outcome}
use Rattle.lcm_machine.specs.Row.{row, went}
use Rattle.lcm_machine.specs.Touched.{reached, cell_fetched}
use Rattle.lcm_machine.specs.Acts.{Fetches}
use Rattle.lcm_machine.proofs.Offers.{Gives, gives_goes, Gives-effect, Gives-ask, Gives-need, covered}

abbrev pub id : Word → Word
id w = w

-- ---- an `xjmp`

pub record Jumped (r1 r2 : Reg) (s t : State Word) : Type 0 where
  pub code : Opened
  pub half : Opened
  pub cap : CapFields
  pub opens_code : opened_of (reg s.regs r1) ≡ Some code
  pub opens_half : opened_of (reg s.regs r2) ≡ Some half
  pub one_seal : code.seal ≡ half.seal
  pub memory : memory_content code.content ≡ Some cap
  pub normal : not (lin_is cap.lin) ≡ true
  pub runs : may_run cap.perm ≡ true
  pub no_code : not (runs_in half.content) ≡ true
  pub pc : t.regs.pc ≡ Mem cap
  pub dat : t.regs.dat ≡ unsealed half.content
  pub stk : (t.regs.stk ≡ s.regs.stk) ⊎ (t.regs.stk ≡ Int (pos 0))
  pub cells : t.cells ≡ s.cells

cleared : (s : State Word) (r : Reg) (b : Bool)
    → ((if b then put s (R r) (zero_word id) else s).regs.stk ≡ s.regs.stk)
    ⊎ ((if b then put s (R r) (zero_word id) else s).regs.stk ≡ Int (pos 0))
cleared s r false = inl refl
cleared s Stk true = inr refl
cleared s _ true = inl refl

cleared_cells : (s : State Word) (r : Reg) (b : Bool)
    → (if b then put s (R r) (zero_word id) else s).cells ≡ s.cells
cleared_cells s r true = refl
cleared_cells s r false = refl

jumped_effect : (s : State Word) (r1 r2 : Reg) (code half : Opened) (c : CapFields)
    → opened_of (reg s.regs r1) ≡ Some code → opened_of (reg s.regs r2) ≡ Some half
    → code.seal ≡ half.seal → memory_content code.content ≡ Some c → not (lin_is c.lin) ≡ true
    → may_run c.perm ≡ true → not (runs_in half.content) ≡ true
    → Jumped r1 r2 s
    (perform id id s
    (record no_effect
    { spent = Some r2; first = made Pc (Mem c); second = made Dat (unsealed half.content) }))
unfolding perform clear
jumped_effect s r1 r2 code half c e1 e2 q m l run nc =
    let b = is_linear (reg s.regs r2) in
    record {
      code = code;
      half = half;
      cap = c;
      opens_code = e1;
      opens_half = e2;
      one_seal = q;
      memory = m;
      normal = l;
      runs = run;
      no_code = nc;
      pc = refl;
      dat = refl;
      stk = cleared s r2 b;
      cells = cleared_cells s r2 b;
    }

jumped_plan : (s t : State Word) (r1 r2 : Reg) (p : Plan)
    → Gives (λ e. Jumped r1 r2 s (perform id id s e)) p → outcome id id s p ≡ went t → Jumped r1 r2 s t
jumped_plan s t r1 r2 (Fails f) g e = cc
jumped_plan s t r1 r2 Halts g e = cc
jumped_plan s t r1 r2 (Goes x) g e =
    let m : perform id id s x ≡ t = cc in subst (Jumped r1 r2 s) m (Gives-effect g)

pub xjmp_jumped : (s t : State Word) (r1 r2 : Reg) (next : Word) → row id id (Xjmp r1 r2) next s ≡ went t
    → Jumped r1 r2 s t
unfolding row plan_in opens
xjmp_jumped s t r1 r2 next e = jumped_plan s t r1 r2 _
    (Gives-need _ _ _
    (λ code e1.
    Gives-need _ _ _
    (λ half e2. Gives-ask _ _ _
    (λ q. Gives-need _ _ _ (λ c m. Gives-ask _ _ _ (λ l. Gives-ask _ _ _ (λ run. Gives-ask _ _ _ (λ nc.
    gives_goes (jumped_effect s r1 r2 code half c e1 e2 (eqb-true code.seal half.seal q) m l run nc)))))))))
    e

-- ---- a fetched instruction

reached_is : (may : Perm → Bool) (x : Face) (cells : ℕ → Option Face) (a : ℕ) → reached may x cells ≡ Some a
    → target_of x ≡ Some a
reached_is may (Memory c) cells a e =
    elim (may c.perm && is_some (face_there cells (target_of (Memory c))))
    as (λ b. (if b then target_of (Memory c) else None) ≡ Some a → target_of (Memory c) ≡ Some a)
    [ true ↦ λ h. h | false ↦ λ h. cc ] e
reached_is may (Number c) cells a e = cc
reached_is may (Seals c) cells a e = cc
reached_is may (Sealed c) cells a e = cc

pub fetched_is : (x : Face) (cells : ℕ → Option Face) (a : ℕ) → cell_fetched x cells ≡ Some a
    → target_of x ≡ Some a
fetched_is (Memory c) cells a e =
    elim (lin_is c.lin)
    as (λ b. (if b then None else reached may_run (Memory c) cells) ≡ Some a
    → target_of (Memory c) ≡ Some a) [ true ↦ λ h. cc | false ↦ reached_is may_run (Memory c) cells a ] e
fetched_is (Number c) cells a e = cc
fetched_is (Seals c) cells a e = cc
fetched_is (Sealed c) cells a e = cc

-- pc names it
pub fetched_at : (s : State Word) (c : CapFields) (a : ℕ) → s.regs.pc ≡ Mem c → Fetches id s a
    → target_of (Memory c) ≡ Some a
unfolding faces
fetched_at s c a e f = ap (λ w. target_of (face_of w)) (sym e)
    ∙ fetched_is (face_of s.regs.pc) (cell_faces id s) a f

pub fetched_in : (s : State Word) (c : CapFields) (a : ℕ) → s.regs.pc ≡ Mem c → Fetches id s a
    → (c.base ≤ a) × (a ≤ c.end)
fetched_in s c a e f = covered c a (fetched_at s c a e f)
