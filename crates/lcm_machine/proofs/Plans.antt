-- What holds of the effect of a plan, by the shape of the plan.
use Rattle.std.proofs.Common.{◌≡◌, ℕ, Bool, true, false, refl, sym, ap, ◌∙◌}
use Rattle.std.specs.Prelude.{Option, Some, None, if◌then◌else◌, IsSome, is_some, not, ◌&&◌}
use Rattle.std.proofs.lemmas.Bool.{not-true}
use Rattle.lcm_isa.specs.declared.Reg.{Reg}
use Rattle.lcm_isa.specs.declared.Operand.TheVariants.{R as InReg, Imm}
use Rattle.lcm_machine.specs.declared.FailCause.{FailCause}
use Rattle.cap_words.specs.declared.CapFields.{CapFields}
use Rattle.cap_words.specs.declared.SealFields.{SealFields}
use Rattle.cap_words.specs.declared.Word.{Word}
use Rattle.cap_words.specs.declared.Face.{Face}
use Rattle.cap_words.specs.declared.Face.TheVariants.{Number, Memory, Seals, Sealed}
use Rattle.lcm_machine.specs.Plan.{Plan, Fails, Halts, Goes}
use Rattle.lcm_machine.specs.declared.plan.Effect.{Effect}
use Rattle.lcm_machine.specs.declared.Place.{Place}
use Rattle.lcm_machine.specs.declared.Place.TheVariants.{R, Cell}
use Rattle.lcm_isa.specs.declared.Instr.{Instr}
use Rattle.lcm_isa.specs.declared.Instr.TheVariants.{Fail, Halt, Jmp, Jnz, Gettype, Geta, Getb, Gete, Getp}
use Rattle.lcm_isa.specs.declared.Instr.TheVariants.{Getlin, Move, Store, Load, Cca, Restrict, Lt, Plus}
use Rattle.lcm_isa.specs.declared.Instr.TheVariants.{Minus, Seta2b, Xjmp, Cseal, Split, Splice}
use Rattle.cap_words.specs.declared.Opened.{Opened}
use Rattle.lcm_machine.specs.declared.plan.Moved.{Moved}
use Rattle.cap_words.specs.declared.Perm.{Perm}
use Rattle.lcm_machine.specs.Table.{ask, need, by_cap, plan, target, is_pc}
use Rattle.cap_words.specs.Faces.{target_of, covers, address, memory_in, may_read, may_write}
use Rattle.lcm_machine.specs.Row.{face_there}
use Rattle.lcm_machine.specs.Touched.{cell_used, reached}

-- the plan fails, halts, or has an effect of which P holds
pub data Gives (P : Effect → Type 0) : Plan → Type 0 where
  gives_fails : {f : FailCause} → Gives P (Fails f)
  gives_halts : Gives P Halts
  gives_goes : {e : Effect} → P e → Gives P (Goes e)

module _ {P : Effect → Type 0} where
  pub Gives-effect : {e : Effect} → Gives P (Goes e) → P e
  Gives-effect (gives_goes h) = h

  pub Gives-ask : (f : FailCause) (b : Bool) (p : Plan) → (b ≡ true → Gives P p) → Gives P (ask f b p)
  unfolding ask
  Gives-ask f true p h = h refl
  Gives-ask f false p h = gives_fails

  pub Gives-need : {A : Type 0} (f : FailCause) (o : Option A) (k : A → Plan)
      → ((a : A) → o ≡ Some a → Gives P (k a)) → Gives P (need f o k)
  unfolding need
  Gives-need f None k h = gives_fails
  Gives-need f (Some a) k h = h a refl

  pub Gives-by_cap : (x : Face) (k : CapFields → Plan) (m : SealFields → Plan)
      → ((c : CapFields) → x ≡ Memory c → Gives P (k c)) → ((s : SealFields) → x ≡ Seals s → Gives P (m s))
      → Gives P (by_cap x k m)
  unfolding by_cap
  Gives-by_cap (Memory c) k m h g = h c refl
  Gives-by_cap (Number c) k m h g = gives_fails
  Gives-by_cap (Seals c) k m h g = g c refl
  Gives-by_cap (Sealed c) k m h g = gives_fails

  pub Gives-if : (b : Bool) (p q : Plan) → Gives P p → Gives P q → Gives P (if b then p else q)
  Gives-if true p q h g = h
  Gives-if false p q h g = g

pub memory_is : (x : Face) (c : CapFields) → memory_in x ≡ Some c → x ≡ Memory c
memory_is (Memory b) c e = cc
memory_is (Number b) c e = cc
memory_is (Seals b) c e = cc
memory_is (Sealed b) c e = cc

target_there_at : (c : CapFields) (cells : ℕ → Option Face) (x : Face)
    → face_there cells (target_of (Memory c)) ≡ Some x
    → (target_of (Memory c) ≡ Some (address c.addr)) × IsSome (cells (address c.addr))
target_there_at c cells x =
    elim (covers c c.addr)
    as (λ b. face_there cells (if b then Some (address c.addr) else None) ≡ Some x
    → ((if b then Some (address c.addr) else None) ≡ Some (address c.addr))
    × IsSome (cells (address c.addr))) [ true ↦ λ e. (refl, ap is_some e) | false ↦ λ e. cc ]

-- what a load or store addresses, where something is there
target_there : (y : Face) (c : CapFields) → memory_in y ≡ Some c → (cells : ℕ → Option Face) (x : Face)
    → face_there cells (target_of y) ≡ Some x
    → (target_of y ≡ Some (address c.addr)) × IsSome (cells (address c.addr))
target_there y c m cells x h =
    let e : y ≡ Memory c = memory_is y c m in
    let k = target_there_at c cells x (ap (λ z. face_there cells (target_of z)) (sym e) ∙ h) in
    (ap target_of e ∙ k.0, k.1)

-- and that the instruction reaches it
reached_there : (may : Perm → Bool) (y : Face) (c : CapFields) → memory_in y ≡ Some c → may c.perm ≡ true
    → (cells : ℕ → Option Face) (x : Face) → face_there cells (target_of y) ≡ Some x
    → reached may y cells ≡ Some (address c.addr)
reached_there may y c m allowed cells x h =
    let e : y ≡ Memory c = memory_is y c m in
    let k : face_there cells (target_of (Memory c)) ≡ Some x =
    ap (λ z. face_there cells (target_of z)) (sym e) ∙ h in
    ap (λ z. reached may z cells) e
    ∙ ap (λ b. if b && is_some (face_there cells (target_of (Memory c))) then target_of (Memory c) else None)
    allowed
    ∙ ap (λ o. if is_some o then target_of (Memory c) else None) k
    ∙ (target_there_at c cells x k).0

-- a place that an effect moves a word from or to: a register, or the cell that the instruction addresses, and
-- reaches
abbrev pub ShapePlace : Option ℕ → Option ℕ → (ℕ → Option Face) → Place → Type 0
ShapePlace t u cells (R r) = Unit {0}
ShapePlace t u cells (Cell a) = (t ≡ Some a) × IsSome (cells a) × (u ≡ Some a)

abbrev pub ShapeMoved : Option ℕ → Option ℕ → (ℕ → Option Face) → Option Moved → Type 0
ShapeMoved t u cells None = Unit {0}
ShapeMoved t u cells (Some m) = ShapePlace t u cells m.from × ShapePlace t u cells m.to

abbrev pub Shape : Option ℕ → Option ℕ → (ℕ → Option Face) → Effect → Type 0
Shape t u cells e = ShapeMoved t u cells e.moved

module _ (f : Reg → Face) (w : Reg → Option Opened) (cells : ℕ → Option Face) (next : Word) where
  shape_cell : (may : Perm → Bool) (y : Face) (c : CapFields) → memory_in y ≡ Some c → may c.perm ≡ true
      → (x : Face) → face_there cells (target_of y) ≡ Some x
      → ShapePlace (target_of y) (reached may y cells) cells (Cell (address c.addr))
  shape_cell may y c m allowed x h =
      let k = target_there y c m cells x h in (k.0, k.1, reached_there may y c m allowed cells x h)

  pub load_cell : (r : Reg) → not (is_pc r) ≡ true → (y : Face) (c : CapFields) → memory_in y ≡ Some c
      → may_read c.perm ≡ true → (x : Face) → face_there cells (target_of y) ≡ Some x
      → ShapePlace (target_of y) (if is_pc r then None else reached may_read y cells)
      cells (Cell (address c.addr))
  load_cell r free y c m allowed x h =
      let k = shape_cell may_read y c m allowed x h in
      (k.0, k.1, ap (λ b. if b then None else reached may_read y cells) (not-true (is_pc r) free) ∙ k.2)

  pub plan-Shape : (i : Instr)
      → Gives (Shape (target i f) (cell_used i f cells) cells)
      (plan i f w (face_there cells (target i f)) next)
  plan-Shape Fail = gives_fails
  plan-Shape Halt = gives_halts
  plan-Shape (Jmp r1) = gives_goes (tt, tt)
  plan-Shape (Jnz r1 r2) = Gives-need _ _ _ (λ z e.
      Gives-if _ _ _ (gives_goes tt) (gives_goes (tt, tt)))
  plan-Shape (Gettype r1 r2) = Gives-ask _ _ _ (λ _. gives_goes tt)
  plan-Shape (Geta r1 r2) = Gives-ask _ _ _ (λ _. gives_goes tt)
  plan-Shape (Getb r1 r2) = Gives-ask _ _ _ (λ _. gives_goes tt)
  plan-Shape (Gete r1 r2) = Gives-ask _ _ _ (λ _. gives_goes tt)
  plan-Shape (Getp r1 r2) = Gives-ask _ _ _ (λ _. gives_goes tt)
  plan-Shape (Restrict r1 n) =
      Gives-ask _ _ _ (λ _. Gives-need _ _ _ (λ c m. Gives-need _ _ _ (λ z _. Gives-need _ _ _ (λ q _.
      Gives-ask _ _ _ (λ _. gives_goes tt)))))
  plan-Shape (Minus r1 r2 n) = Gives-ask _ _ _ (λ _. Gives-need _ _ _ (λ x e. Gives-need _ _ _ (λ z _.
      Gives-ask _ _ _ (λ _. gives_goes tt))))
  plan-Shape (Seta2b r1) =
      Gives-ask _ _ _ (λ _. Gives-by_cap (f r1) _ _ (λ c e. gives_goes tt) (λ c e. gives_goes tt))
  plan-Shape (Cseal r1 r2) = Gives-ask _ _ _ (λ _. Gives-by_cap (f r1) _ _
      (λ c e. Gives-need _ _ _ (λ q _. Gives-ask _ _ _ (λ _. gives_goes tt)))
      (λ c e. Gives-need _ _ _ (λ q _. Gives-ask _ _ _ (λ _. gives_goes tt))))
  plan-Shape (Getlin r1 r2) = Gives-ask _ _ _ (λ _. gives_goes tt)
  plan-Shape (Move r1 (InReg r2)) = Gives-ask _ _ _ (λ _. gives_goes (tt, tt))
  plan-Shape (Move r1 (Imm z)) = Gives-ask _ _ _ (λ _. gives_goes tt)
  plan-Shape (Store r1 r2) = Gives-need _ _ _ (λ c m. Gives-ask _ _ _ (λ may.
      Gives-need _ _ _ (λ x h. gives_goes (tt, shape_cell may_write (f r1) c m may x h))))
  plan-Shape (Load r1 r2) = Gives-ask _ _ _ (λ free. Gives-need _ _ _ (λ c m. Gives-ask _ _ _ (λ may.
      Gives-need _ _ _ (λ x h. Gives-ask _ _ _ (λ _.
      gives_goes (load_cell r1 free (f r2) c m may x h, tt))))))
  plan-Shape (Cca r1 n) = Gives-ask _ _ _ (λ _. Gives-by_cap (f r1) _ _
      (λ c e. Gives-need _ _ _ (λ z _. Gives-ask _ _ _ (λ _. gives_goes tt)))
      (λ c e. Gives-need _ _ _ (λ z _. Gives-ask _ _ _ (λ _. gives_goes tt))))
  plan-Shape (Plus r1 r2 n) = Gives-ask _ _ _ (λ _. Gives-need _ _ _ (λ x e. Gives-need _ _ _ (λ z _.
      Gives-ask _ _ _ (λ _. gives_goes tt))))
  plan-Shape (Lt r1 r2 n) = Gives-ask _ _ _ (λ _. Gives-need _ _ _ (λ x e. Gives-need _ _ _ (λ z _.
      gives_goes tt)))
  plan-Shape (Xjmp r1 r2) = Gives-need _ _ _ (λ a e1. Gives-need _ _ _ (λ b e2.
      Gives-ask _ _ _ (λ _. Gives-need _ _ _ (λ c e. Gives-ask _ _ _ (λ _. Gives-ask _ _ _ (λ _.
      Gives-ask _ _ _ (λ _. gives_goes tt)))))))
  plan-Shape (Split r1 r2 r3 n) = Gives-ask _ _ _ (λ _. Gives-ask _ _ _ (λ _. Gives-need _ _ _ (λ c e.
      Gives-need _ _ _ (λ z _. Gives-ask _ _ _ (λ _. gives_goes tt)))))
  plan-Shape (Splice r1 r2 r3) = Gives-ask _ _ _ (λ _. Gives-need _ _ _ (λ a e. Gives-need _ _ _ (λ b h.
      Gives-ask _ _ _ (λ _. gives_goes tt))))
