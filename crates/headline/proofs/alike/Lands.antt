-- What an `xjmp` that goes leaves: pc is at the code that it opened, rdata and the words of numbers stay.
use Rattle.std.proofs.Common.{◌≡◌, ℕ, ℤ, true, false, Option, Some, None, refl, sym, ap, ◌∙◌, subst}
use Rattle.std.specs.Prelude.{if◌then◌else◌}
use Rattle.cap_words.specs.declared.Word.{Word}
use Rattle.cap_words.specs.declared.Word.TheVariants.{Mem}
use Rattle.cap_words.specs.declared.CapFields.{CapFields}
use Rattle.cap_words.specs.declared.Opened.{Opened}
use Rattle.cap_words.specs.declared.Content.TheVariants.{Mem as MemC}
use Rattle.cap_words.specs.declared.Face.{Face}
use Rattle.cap_words.specs.Face.{opened_of}
use Rattle.cap_words.specs.Linear.{is_linear, zero_word}
use Rattle.lcm_isa.specs.declared.Reg.{Reg}
use Rattle.lcm_isa.specs.declared.Reg.TheVariants.{Pc, Dat, Rdata, C1, C2}
use Rattle.lcm_isa.specs.declared.Instr.TheVariants.{Xjmp}
use Rattle.lcm_machine.specs.Plan.{Plan, Fails, Halts, Goes}
use Rattle.lcm_machine.specs.declared.plan.Effect.{Effect}
use Rattle.lcm_machine.specs.declared.Place.TheVariants.{R}
use Rattle.lcm_machine.specs.Maps.{State}
use Rattle.lcm_machine.specs.Places.{reg}
use Rattle.lcm_machine.specs.Table.{plan, made, no_effect, memory_content}
use Rattle.lcm_machine.specs.Row.{put, clear, perform, faces, opens, outcome, plan_in, row, went}
use Rattle.lcm_machine.proofs.Offers.{Gives, gives_goes, Gives-effect, Gives-ask, Gives-need}
use Rattle.call_sequence.proofs.Offers.{performed_num}
use Rattle.headline.proofs.alike.Calm.{id, Num}

abbrev Lands : Option Opened → Reg → Effect → Type 0
Lands o b e = (a : Opened) × (c : CapFields) × (d : Word) × (o ≡ Some a) × (memory_content a.content ≡ Some c)
    × (e ≡ record no_effect { spent = Some b; first = made Pc (Mem c); second = made Dat d })

plan-Lands : (a b : Reg) (f : Reg → Face) (w : Reg → Option Opened) (there : Option Face) (next : Word)
    → Gives (Lands (w a) b) (plan (Xjmp a b) f w there next)
plan-Lands a b f w there next =
    Gives-need _ _ _
    (λ x e1. Gives-need _ _ _
    (λ y e2. Gives-ask _ _ _
    (λ _. Gives-need _ _ _
    (λ c e. Gives-ask _ _ _
    (λ _. Gives-ask _ _ _ (λ _. Gives-ask _ _ _ (λ _. gives_goes (x, c, _, e1, e, refl))))))))

abbrev pub Landed : CapFields → State Word → State Word → Type 0
Landed c s u = (u.regs.pc ≡ Mem c) × ((q : ℕ) (z : ℤ) → Num s q z → Num u q z)

performed_at : (s : State Word) (b : Reg) (c : CapFields) (d : Word)
    → (perform id id s
    (record no_effect { spent = Some b; first = made Pc (Mem c); second = made Dat d })).regs.pc ≡ Mem c
unfolding perform
performed_at s b c d = refl

landed : (s : State Word) (b : Reg) (c : CapFields) (d : Word)
    → Landed c s
    (perform id id s (record no_effect { spent = Some b; first = made Pc (Mem c); second = made Dat d }))
landed s b c d = (
  performed_at s b c d,
  λ q z. performed_num id id s
      (record no_effect { spent = Some b; first = made Pc (Mem c); second = made Dat d }) q z tt,
)

planned : (s u : State Word) (b : Reg) (o : Option Opened) (seal : ℕ) (c : CapFields) (p : Plan)
    → Gives (Lands o b) p → o ≡ Some (record { seal = seal; content = MemC c }) → outcome id id s p ≡ went u
    → Landed c s u
planned s u b o seal c (Fails f) h w e = cc
planned s u b o seal c Halts h w e = cc
planned s u b o seal c (Goes x) h w e =
    let q : perform id id s x ≡ u = cc in
    let k = Gives-effect h in
    let same : record { seal = seal; content = MemC c } ≡ k.0 =
    (let j : Some (record { seal = seal; content = MemC c }) ≡ Some k.0 = sym w ∙ k.3 in cc) in
    let cap : c ≡ k.1 =
    (let j : Some c ≡ Some k.1 = ap (λ (y : Opened). memory_content y.content) same ∙ k.4 in cc) in
    subst (λ y. Landed c s y)
    q (subst (λ y. Landed c s (perform id id s y)) (sym k.5)
    (subst (λ y.
    Landed c s
    (perform id id s
    (record no_effect { spent = Some b; first = made Pc (Mem y); second = made Dat k.2 })))
    cap (landed s b c k.2)))

pub xjmp_lands : (s u : State Word) (a b : Reg) (next : Word) (seal : ℕ) (c : CapFields)
    → opened_of (reg s.regs a) ≡ Some (record { seal = seal; content = MemC c })
    → row id id (Xjmp a b) next s ≡ went u → Landed c s u
unfolding row plan_in opens
xjmp_lands s u a b next seal c w e =
    planned s u b (opened_of (reg s.regs a))
    seal c _ (plan-Lands a b (faces id s) (λ r. opened_of (reg s.regs r)) None next) w e

opened_there : (s u : State Word) (b : Reg) (o : Option Opened) (p : Plan) → Gives (Lands o b) p
    → outcome id id s p ≡ went u → (y : Opened) × (o ≡ Some y)
opened_there s u b o (Fails f) h e = cc
opened_there s u b o Halts h e = cc
opened_there s u b o (Goes x) h e = let k = Gives-effect h in (k.0, k.3)

pub xjmp_opens : (s u : State Word) (a b : Reg) (next : Word) → row id id (Xjmp a b) next s ≡ went u
    → (y : Opened) × (opened_of (reg s.regs a) ≡ Some y)
unfolding row plan_in opens
xjmp_opens s u a b next e =
    opened_there s u b (opened_of (reg s.regs a))
    _ (plan-Lands a b (faces id s) (λ r. opened_of (reg s.regs r)) None next) e

-- ---- rdata

abbrev Crossing : Effect → Type 0
Crossing e = (c : Word) × (d : Word)
    × (e ≡ record no_effect { spent = Some C2; first = made Pc c; second = made Dat d })

plan-Crossing : (f : Reg → Face) (w : Reg → Option Opened) (there : Option Face) (next : Word)
    → Gives Crossing (plan (Xjmp C1 C2) f w there next)
plan-Crossing f w there next =
    Gives-need _ _ _
    (λ a e1. Gives-need _ _ _
    (λ b e2. Gives-ask _ _ _
    (λ _. Gives-need _ _ _
    (λ c e. Gives-ask _ _ _ (λ _. Gives-ask _ _ _ (λ _. Gives-ask _ _ _ (λ _. gives_goes (_, _, refl))))))))

cleared : (s : State Word) → reg (clear id id s (R C2)).regs Rdata ≡ reg s.regs Rdata
unfolding clear
cleared s =
    elim (is_linear (reg s.regs C2))
    as (λ b. reg (if b then put s (R C2) (zero_word id) else s).regs Rdata ≡ reg s.regs Rdata)
    [ true ↦ refl | false ↦ refl ]

performed : (s : State Word) (c d : Word)
    → reg (perform id id s
    (record no_effect { spent = Some C2; first = made Pc c; second = made Dat d })).regs Rdata
    ≡ reg s.regs Rdata
unfolding perform
performed s c d = cleared s

crossed : (s u : State Word) (p : Plan) → Gives Crossing p → outcome id id s p ≡ went u
    → reg u.regs Rdata ≡ reg s.regs Rdata
crossed s u (Fails f) h e = cc
crossed s u Halts h e = cc
crossed s u (Goes x) h e = let q : perform id id s x ≡ u = cc in let k =
    Gives-effect h in rw (← q, k.2) (performed s k.0 k.1)

pub rdata_stays : (s u : State Word) (next : Word) → row id id (Xjmp C1 C2) next s ≡ went u
    → reg u.regs Rdata ≡ reg s.regs Rdata
unfolding row plan_in
rdata_stays s u next e = crossed s u _ (plan-Crossing (faces id s) (opens id s) None next) e
