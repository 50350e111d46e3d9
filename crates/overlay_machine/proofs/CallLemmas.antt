-- The call and the return, as the definitions have them.
use Rattle.std.proofs.Common.{◌≡◌, ◌≤◌, ◌<◌, ℕ, ◌+◌, ◌-◌, Bool, true, false, ◌∷◌, refl, sym, ap, subst, ◌∙◌}
use Rattle.std.proofs.Common.{Option, Some, None, ℤ, pos, negsuc}
use Rattle.std.specs.Prelude.{int_lt, nat_le, ◌&&◌, ◌==◌, if◌then◌else◌}
use Rattle.std.proofs.lemmas.Bool.{and_parts, eqb-true, leb-true, ltb-true, and_from}
use Rattle.cap_words.specs.declared.CapFields.{CapFields}
use Rattle.cap_words.specs.declared.Word.TheVariants.{Int}
use Rattle.cap_words.specs.Faces.{covers, address, memory_in, perm_number}
use Rattle.cap_words.specs.Linear.{lin_is}
use Rattle.cap_words.specs.Stacks.{is_stack_from}
use Rattle.lcm_isa.specs.declared.Reg.TheVariants.{C1, C2, Stk}
use Rattle.lcm_isa.specs.declared.Instr.TheVariants.{Xjmp}
use Rattle.lcm_machine.specs.declared.FailCause.{FailCause}
use Rattle.lcm_machine.specs.declared.plan.Effect.{Effect}
use Rattle.lcm_machine.specs.Plan.{Plan, Goes, Fails}
use Rattle.lcm_machine.specs.Maps.{State}
use Rattle.lcm_machine.specs.Row.{row, outcome, plan_in, opens, faces}
use Rattle.trusted_border.specs.declared.layout.Layout.{Layout}
use Rattle.trusted_border.specs.declared.layout.SiteCode.{SiteCode}
use Rattle.trusted_border.specs.Layout.{site_code}
use Rattle.overlay_machine.specs.declared.words.OWord.{OWord}
use Rattle.overlay_machine.specs.declared.words.OWord.TheVariants.{Plain}
use Rattle.overlay_machine.specs.Words.{look, is_plain}
use Rattle.overlay_machine.specs.State.{OState}
use Rattle.lcm_machine.specs.Cells.{all_there}
use Rattle.overlay_machine.specs.Step.{goes, fails, ask, need, with_frames, own_stack, if_own}
use Rattle.overlay_machine.specs.Step.{call_step, at_call, new_frame}
use Rattle.overlay_machine.specs.declared.machine.Machine.{Machine}
use Rattle.overlay_machine.specs.declared.machine.Outcome.TheVariants.{Went, Failed}
use Rattle.overlay_machine.specs.Machine.{overlay_of, frames_of, Ends, called}

own-some : (l : Layout) (o : Option CapFields) (c : CapFields) → if_own l o ≡ Some c → c.base ≡ l.stack.base
own-some l None c e = cc
own-some l (Some d) c e = either (is_stack_from l.stack.base d) refl e
  where
    either : (b : Bool) → is_stack_from l.stack.base d ≡ b → (if b then Some d else None) ≡ Some c
        → c.base ≡ l.stack.base
    either true t k = let same : d ≡ c = cc in let p =
        and_parts (lin_is d.lin && (perm_number d.perm == 2)) (d.base == l.stack.base) t in
        subst (λ x. x.base ≡ l.stack.base) same (eqb-true d.base l.stack.base p.1)
    either false t k = cc

pub own-base : (l : Layout) (s : State OWord) (c : CapFields) → own_stack l s ≡ Some c → c.base ≡ l.stack.base
unfolding own_stack
own-base l s c e = own-some l (memory_in (faces look s Stk)) c e

pub record IsBase (l : Layout) (c : CapFields) (at : ℕ) : Type 0 where
  pub test : (int_lt (pos l.stack.base) c.addr && covers c c.addr) ≡ true
  pub above : l.stack.base < at
  pub below : at ≤ c.end
  pub is : address c.addr ≡ at

base-at : (low base end : ℕ) (z : ℤ) (c : CapFields) → c.base ≡ base → c.end ≡ end
    → (int_lt (pos low) z && covers c z) ≡ true → (low < address z) × (address z ≤ c.end)
base-at low base end (pos n) c b e t =
    let p = and_parts (int_lt (pos low) (pos n)) (nat_le c.base n && nat_le n c.end) t in
    let q = and_parts (nat_le c.base n) (nat_le n c.end) p.1 in
    let u = leb-true n c.end q.1 in
    (ltb-true low n p.0, u)
base-at low base end (negsuc n) c b e t =
    let p = and_parts (int_lt (pos low) (negsuc n)) false t in absurd (let k : false ≡ true = p.1 in cc)

pub base-is : (l : Layout) (c : CapFields) (at : ℕ)
    → (if int_lt (pos l.stack.base) c.addr && covers c c.addr then Some (address c.addr) else None) ≡ Some at
    → IsBase l c at
base-is l c at e = either (int_lt (pos l.stack.base) c.addr && covers c c.addr) refl e
  where
    either : (b : Bool) → (int_lt (pos l.stack.base) c.addr && covers c c.addr) ≡ b
        → (if b then Some (address c.addr) else None) ≡ Some at → IsBase l c at
    either true t k =
        let is : address c.addr ≡ at = cc in
        let p = base-at l.stack.base c.base c.end c.addr c refl refl t in
        record {
          test = t;
          above = subst (λ x. l.stack.base < x) is p.0;
          below =
              subst (λ x. x ≤ c.end) is p.1;
          is = is;
        }
    either false t k = cc

-- the call's row, where all that is asked holds
call-row : (l : Layout) (i : ℕ) (o : OState) (s : SiteCode) (c : CapFields) → site_code l i ≡ Some s
    → own_stack l o.maps ≡ Some c → (int_lt (pos l.stack.base) c.addr && covers c c.addr) ≡ true
    → (all_there o.maps.cells (address c.addr) (c.end + 1 - address c.addr) && nat_le c.end l.stack.end)
    ≡ true
    → (is_plain o.maps.regs.c1 && is_plain o.maps.regs.c2) ≡ true
    → call_step l i o ≡ with_frames (new_frame i (address c.addr) c.end o ∷ o.frames) (o.calls + 1)
    (row look Plain (Xjmp C1 C2) (Int (pos 0)) (at_call i s c o))
unfolding call_step need ask
call-row l i o s c a b t u v = rw a (rw b (rw (t, u, v) refl))

plan-same : (i : ℕ) (s : SiteCode) (c : CapFields) (o : OState)
    → plan_in look (at_call i s c o) (Xjmp C1 C2) (Int (pos 0)) ≡ plan_in look o.maps (Xjmp C1 C2)
    (Int (pos 0))
unfolding plan_in opens
plan-same i s c o = refl

pub record Asked (l : Layout) (m : Machine) (i : ℕ) (s : SiteCode) (c : CapFields) (at : ℕ)
    (p : Plan) : Type 0 where
  pub site : site_code l i ≡ Some s
  pub stack : own_stack l m.maps ≡ Some c
  pub base : IsBase l c at
  pub there : all_there m.maps.cells at (c.end + 1 - at) ≡ true
  pub high : nat_le c.end l.stack.end ≡ true
  pub first : is_plain m.maps.regs.c1 ≡ true
  pub second : is_plain m.maps.regs.c2 ≡ true
  pub plan : plan_in look m.maps (Xjmp C1 C2) (Int (pos 0)) ≡ p

call-plan : (l : Layout) (m : Machine) (i : ℕ) (s : SiteCode) (c : CapFields) (at : ℕ) (p : Plan)
    → Asked l m i s c at p
    → call_step l i (overlay_of m)
    ≡ with_frames (new_frame i (address c.addr) c.end (overlay_of m) ∷ frames_of m.frames.frames)
    (m.calls + 1) (outcome look Plain (at_call i s c (overlay_of m)) p)
unfolding row
call-plan l m i s c at p a =
    call-row l i (overlay_of m) s c a.site a.stack a.base.test
    (and_from (all_there m.maps.cells (address c.addr) (c.end + 1 - address c.addr))
    (nat_le c.end l.stack.end) (ap (λ k. all_there m.maps.cells k (c.end + 1 - k)) a.base.is ∙ a.there)
    a.high) (and_from (is_plain m.maps.regs.c1) (is_plain m.maps.regs.c2) a.first a.second)
    ∙ ap (λ x. with_frames (new_frame i (address c.addr) c.end (overlay_of m) ∷ frames_of m.frames.frames)
    (m.calls + 1) (outcome look Plain (at_call i s c (overlay_of m)) x))
    (plan-same i s c (overlay_of m) ∙ a.plan)

pub call-fails : (l : Layout) (m : Machine) (i : ℕ) (s : SiteCode) (c : CapFields) (at : ℕ) (f : FailCause)
    → Asked l m i s c at (Fails f) → Ends (call_step l i (overlay_of m)) Failed m m
call-fails l m i s c at f a = let e : call_step l i (overlay_of m) ≡ fails =
    call-plan l m i s c at (Fails f) a in subst (λ x. Ends x Failed m m) (sym e) (refl, refl)

pub call-goes : (l : Layout) (m new : Machine) (i : ℕ) (s : SiteCode) (c : CapFields) (at : ℕ) (e : Effect)
    → Asked l m i s c at (Goes e) → new ≡ called m i s c at e → Ends (call_step l i (overlay_of m)) Went m new
call-goes l m new i s c at e a n =
    let q : call_step l i (overlay_of m) ≡ goes (overlay_of (called m i s c (address c.addr) e)) =
    call-plan l m i s c at (Goes e) a in
    subst (λ x. Ends x Went m new) (sym q)
    (refl, ap overlay_of (n ∙ ap (λ k. called m i s c k e) (sym a.base.is)))
