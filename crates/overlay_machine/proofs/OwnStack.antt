-- What it says that stk is the own stack.
use Rattle.std.proofs.Common.{◌≡◌, inl, inr, ℕ, ◌+◌, Bool, true, false, Some, None, refl, ap, sym, ◌∙◌}
use Rattle.std.proofs.Common.{eq-eqb, eqb-true}
use Rattle.std.specs.Prelude.{◌&&◌, ◌==◌}
use Rattle.std.proofs.lemmas.Bool.{cases_Bool, and_parts}
use Rattle.cap_words.specs.declared.Word.TheVariants.{Mem}
use Rattle.cap_words.specs.declared.CapFields.{CapFields}
use Rattle.cap_words.specs.declared.Perm.{Perm}
use Rattle.cap_words.specs.declared.Perm.TheVariants.{No, R as ReadOnly, Rw, Rx, Rwx}
use Rattle.cap_words.specs.declared.Lin.{Lin}
use Rattle.cap_words.specs.declared.Lin.TheVariants.{Normal, Linear}
use Rattle.cap_words.specs.declared.Face.{Face}
use Rattle.cap_words.specs.declared.Face.TheVariants.{Number, Memory, Seals, Sealed as SealedFace}
use Rattle.cap_words.specs.Face.{face_of}
use Rattle.cap_words.specs.Faces.{same_kind, same_lin, perm_number, memory_in}
use Rattle.cap_words.specs.Linear.{lin_is}
use Rattle.cap_words.specs.Stacks.{is_stack_from}
use Rattle.lcm_machine.specs.Maps.{State}
use Rattle.lcm_machine.specs.Row.{faces}
use Rattle.call_sequence.specs.SequenceRuns.{stack_cap}
use Rattle.trusted_border.specs.declared.layout.Layout.{Layout}
use Rattle.overlay_machine.specs.declared.words.OWord.{OWord}
use Rattle.overlay_machine.specs.Words.{look}
use Rattle.overlay_machine.specs.State.{OpenFrame}
use Rattle.overlay_machine.specs.Step.{if_own, own_stack}
use Rattle.overlay_machine.proofs.FlatLemmas.{mem_of_face}

-- the stack's kind read backwards
perm_is : (p : Perm) → (perm_number p == 2) ≡ true → p ≡ Rw
perm_is No e = cc
perm_is ReadOnly e = cc
perm_is Rw e = refl
perm_is Rx e = cc
perm_is Rwx e = cc

lin_of : (k : Lin) → lin_is k ≡ true → k ≡ Linear
lin_of Normal e = cc
lin_of Linear e = refl

pub same_lin_true : (b : Bool) → same_lin b true ≡ true → b ≡ true
same_lin_true true e = refl
same_lin_true false e = cc

pub stack_of : (c : CapFields) (a b d : ℕ) → same_kind c (stack_cap a b d) ≡ true
    → c ≡ record (stack_cap c.base c.end 0) { addr = c.addr }
stack_of c a b d e =
    let p = and_parts _ _ e in
    let perm : c.perm ≡ Rw = perm_is c.perm p.0 in
    let lin : c.lin ≡ Linear = lin_of c.lin (same_lin_true (lin_is c.lin) p.1) in
    ap (λ x. record c { perm = x }) perm ∙ ap (λ x. record c { perm = Rw; lin = x }) lin

pub face_of_own : (l : Layout) (x : Face) (c : CapFields) → if_own l (memory_in x) ≡ Some c → (x ≡ Memory c)
    × (is_stack_from l.stack.base c ≡ true)
face_of_own l (Number z) c e = cc
face_of_own l (Seals z) c e = cc
face_of_own l (SealedFace z) c e = cc
face_of_own l (Memory b) c e =
    elim (cases_Bool (is_stack_from l.stack.base b))
    as (λ _. (Memory b ≡ Memory c) × (is_stack_from l.stack.base c ≡ true)) [
      | inl holds ↦
          (let k : Some b ≡ Some c = rw holds at e in let q : b ≡ c = cc in (ap Memory q, rw (← q) holds))
      | inr lacks ↦ (let k : None ≡ Some c = rw lacks at e in cc)
    ]

pub own_true : (l : Layout) (s : State OWord) (c : CapFields) → own_stack l s ≡ Some c
    → is_stack_from l.stack.base c ≡ true
unfolding own_stack faces
own_true l s c e = (face_of_own l (face_of (look s.regs.stk)) c e).1

pub own_parts : (l : Layout) (c : CapFields) → is_stack_from l.stack.base c ≡ true → (lin_is c.lin ≡ true)
    × ((perm_number c.perm == 2) ≡ true) × (c.base ≡ l.stack.base)
own_parts l c e = let p = and_parts _ _ e in let q =
    and_parts _ _ p.0 in (q.0, q.1, eqb-true c.base l.stack.base p.1)

pub own_joins : (l : Layout) (c : CapFields) (g : OpenFrame) → is_stack_from l.stack.base c ≡ true
    → c.end + 1 ≡ g.base → (same_kind c (stack_cap g.base g.end g.base) && (c.end + 1 == g.base)) ≡ false → ⊥
own_joins l c g own e h =
    let p = own_parts l c own in
    let k : (same_kind c (stack_cap g.base g.end g.base) && (c.end + 1 == g.base)) ≡ true =
    rw (p.1, p.0, eq-eqb (c.end + 1) g.base e) refl in
    let bad : true ≡ false = sym k ∙ h in
    cc

pub own_from : (l : Layout) (s : State OWord) (c : CapFields) → look s.regs.stk ≡ Mem c → lin_is c.lin ≡ true
    → (perm_number c.perm == 2) ≡ true → c.base ≡ l.stack.base → own_stack l s ≡ Some c
unfolding own_stack faces
own_from l s c e lin perm base = rw (e, lin, perm, eq-eqb c.base l.stack.base base) refl

-- its capability
pub own_is : (l : Layout) (s : State OWord) (c : CapFields) → own_stack l s ≡ Some c
    → (look s.regs.stk ≡ Mem c) × (c ≡ record (stack_cap l.stack.base c.end 0) { addr = c.addr })
unfolding own_stack faces
own_is l s c e =
    let f = face_of_own l (face_of (look s.regs.stk)) c e in
    let p = own_parts l c f.1 in
    (mem_of_face (look s.regs.stk) c f.0, whole c l.stack.base (perm_is c.perm p.1) (lin_of c.lin p.0) p.2)
  where
    whole : (c : CapFields) (b : ℕ) → c.perm ≡ Rw → c.lin ≡ Linear → c.base ≡ b
        → c ≡ record (stack_cap b c.end 0) { addr = c.addr }
    whole c b p l q = ap (λ x. record c { perm = x }) p ∙ ap (λ x. record c { perm = Rw; lin = x }) l
        ∙ ap (λ x. record c { perm = Rw; lin = Linear; base = x }) q
