-- What an `xjmp` of two words needs: where it goes, and that it fails alike whatever registers hold the
-- words.
use Rattle.std.proofs.Common.{◌≡◌, ℤ, pos, Bool, true, false, not, Option, Some, None, refl, sym, ap, ◌∙◌}
use Rattle.std.proofs.Common.{subst, eqb-true}
use Rattle.std.specs.Prelude.{◌==◌, if◌then◌else◌}
use Rattle.std.proofs.lemmas.Bool.{not-true}
use Rattle.cap_words.specs.declared.Word.{Word}
use Rattle.cap_words.specs.declared.Word.TheVariants.{Int, Mem, Seal, Sealed}
use Rattle.cap_words.specs.declared.Sealable.TheVariants.{Mem as MemIn, Seal as SealIn}
use Rattle.cap_words.specs.declared.CapFields.{CapFields}
use Rattle.cap_words.specs.declared.Content.TheVariants.{Mem as MemC, Seal as SealC}
use Rattle.cap_words.specs.declared.Opened.{Opened}
use Rattle.cap_words.specs.Face.{opened_of}
use Rattle.cap_words.specs.Faces.{may_run}
use Rattle.cap_words.specs.Linear.{lin_is, is_linear}
use Rattle.lcm_isa.specs.declared.Reg.{Reg}
use Rattle.lcm_isa.specs.declared.Reg.TheVariants.{Rdata, C1, C2, Pc, Dat}
use Rattle.lcm_isa.specs.declared.Instr.TheVariants.{Xjmp}
use Rattle.lcm_machine.specs.declared.FailCause.{FailCause}
use Rattle.lcm_machine.specs.declared.FailCause.TheVariants.{F6, F7, F10, F12}
use Rattle.lcm_machine.specs.declared.plan.Effect.{Effect}
use Rattle.lcm_machine.specs.Plan.{Plan, Fails, Halts, Goes}
use Rattle.lcm_machine.specs.Maps.{State}
use Rattle.lcm_machine.specs.Table.{ask, need, memory_content, unsealed, runs_in, no_effect, made}
use Rattle.lcm_machine.specs.Row.{pc_at, plan_in, opens, outcome, row, failed}
use Rattle.lcm_machine.proofs.Offers.{Gives, gives_goes, Gives-effect, Gives-ask, Gives-need, is_linear-face}
use Rattle.trusted_border.specs.Reaches.{jump_plan, plan_goes}
use Rattle.overlay_machine.specs.declared.words.OWord.{OWord}
use Rattle.overlay_machine.specs.declared.words.OWord.TheVariants.{Plain, RetCode, RetData}
use Rattle.overlay_machine.specs.Words.{look}
use Rattle.run_lines.specs.Pairs.{if_normal, content_linear}
use Rattle.template_runs.proofs.Offers.{is_half, need_halts}
use Rattle.source_laws.proofs.Offers.{Half}

-- ---- halves

half_plain : (w : Word) → is_half w ≡ true → Half (Plain w)
half_plain (Int z) e = cc
half_plain (Mem c) e = cc
half_plain (Seal c) e = cc
half_plain (Sealed n x) e =
    let l = by (is_linear (Sealed n x)) e in
    record {
      stays_whole = l;
      stays_face = sym (is_linear-face (Sealed n x)) ∙ l;
      no_number = refl;
      sealed = e;
    }
  where
    by : (b : Bool) → (if b then false else true) ≡ true → b ≡ false
    by true h = cc
    by false h = refl

pub half_is : (w : OWord) → is_half (look w) ≡ true → Half w
half_is (Plain w) e = half_plain w e
half_is (RetCode i) e = record { stays_whole = refl; stays_face = refl; no_number = refl; sealed = refl }
half_is (RetData k) e = cc

by_linear : (b : Bool) (x k : Opened) → (if b then None else Some x) ≡ Some k → (Some x ≡ Some k)
    × (b ≡ false)
by_linear true x k e = absurd (let z : None ≡ Some k = e in cc)
by_linear false x k e = (e, refl)

-- a word is a half exactly where it opens to content that isn't linear
pub normal_is : (w : Word) (k : Opened) → if_normal (opened_of w) ≡ Some k
    → (opened_of w ≡ Some k) × (is_half w ≡ true) × (content_linear k.content ≡ false)
normal_is (Int z) k e = cc
normal_is (Mem c) k e = cc
normal_is (Seal c) k e = cc
normal_is (Sealed n (MemIn c)) k e =
    let x : Opened = record { seal = n; content = MemC c } in
    let h = by_linear (lin_is c.lin) x k e in
    let s : x ≡ k = (let q = h.0 in cc) in (
      h.0,
      ap (λ b. if b then false else true) h.1,
      subst (λ (y : Opened). content_linear y.content ≡ false) s h.1,
    )
normal_is (Sealed n (SealIn c)) k e =
    let s : record { seal = n; content = SealC c } ≡ k = cc in
    (e, refl, ap (λ (y : Opened). content_linear y.content) (sym s))

pub normal_none : (w : Word) → if_normal (opened_of w) ≡ None → is_half w ≡ false
normal_none (Int z) e = refl
normal_none (Mem c) e = refl
normal_none (Seal c) e = refl
normal_none (Sealed n (MemIn c)) e = by (lin_is c.lin) (record { seal = n; content = MemC c }) e
  where
    by : (b : Bool) (x : Opened) → (if b then None else Some x) ≡ None → (if b then false else true) ≡ false
    by true x h = refl
    by false x h = cc
normal_none (Sealed n (SealIn c)) e = cc

-- ---- where it goes

pub record JumpFacts (code half : Opened) : Type 0 where
  pub cap : CapFields
  pub memory : memory_content code.content ≡ Some cap
  pub one_seal : code.seal ≡ half.seal
  pub normal : lin_is cap.lin ≡ false
  pub runs : may_run cap.perm ≡ true
  pub rests : not (runs_in half.content) ≡ true

abbrev Opens : Word → Word → Type 0
Opens w v = (code : Opened) × (half : Opened) × (opened_of w ≡ Some code) × (opened_of v ≡ Some half)
    × JumpFacts code half

facts_of : (w v : Word) (q : Plan) → Gives (λ e. Opens w v) q → plan_goes q ≡ true → Opens w v
facts_of w v (Fails f) g e = cc
facts_of w v Halts g e = cc
facts_of w v (Goes x) g e = Gives-effect g

all_facts : (w v : Word) → Gives (λ e. Opens w v) (jump_plan w v)
all_facts w v =
    Gives-need _ _ _ (λ code e1. Gives-need
    _ _ _ (λ half e2. Gives-ask
    _ _ _ (λ q. Gives-need
    _ _ _ (λ c m. Gives-ask _ _ _ (λ n. Gives-ask _ _ _ (λ r. Gives-ask _ _ _ (λ nc.
    gives_goes (
      code,
      half,
      e1,
      e2,
      record {
        cap = c;
        memory = m;
        one_seal = eqb-true code.seal half.seal q;
        normal = not-true (lin_is c.lin) n;
        runs = r;
        rests = nc;
      },
    ))))))))

pub jump_facts : (w v : Word) → plan_goes (jump_plan w v) ≡ true → Opens w v
jump_facts w v e = facts_of w v (jump_plan w v) (all_facts w v) e

-- ---- where it fails

ask_same : (f : FailCause) (b : Bool) (p q : Plan) (c : FailCause) → (p ≡ Fails c → q ≡ Fails c)
    → ask f b p ≡ Fails c → ask f b q ≡ Fails c
unfolding ask
ask_same f true p q c h e = h e
ask_same f false p q c h e = e

need_same : {A : Type 0} (f : FailCause) (o : Option A) (p q : A → Plan) (c : FailCause)
    → ((x : A) → p x ≡ Fails c → q x ≡ Fails c) → need f o p ≡ Fails c → need f o q ≡ Fails c
unfolding need
need_same f None p q c h e = e
need_same f (Some x) p q c h e = h x e

ask_halts : (f : FailCause) (b : Bool) (q : Plan) → (q ≡ Halts → ⊥) → ask f b q ≡ Halts → ⊥
unfolding ask
ask_halts f true q h e = h e
ask_halts f false q h e = cc

-- the plan, by what the words open to and the register that is spent
abbrev jump_by : Reg → Option Opened → Option Opened → Plan
jump_by r code half =
    need F6 code (λ code.
    need F6 half (λ data_half.
    ask F12 (code.seal == data_half.seal) (
    need F6 (memory_content code.content) (λ c.
    ask F10 (not (lin_is c.lin)) (
    ask F7 (may_run c.perm) (
    ask F7 (not (runs_in data_half.content)) (
    Goes (record no_effect {
      spent = Some r;
      first = made Pc (Mem c);
      second = made Dat (unsealed data_half.content);
    }))))))))

goes_not : (x y : Effect) (c : FailCause) → Goes x ≡ Fails c → Goes y ≡ Fails c
goes_not x y c e = cc

any_spent : (r1 r2 : Reg) (a b : Option Opened) (f : FailCause) → jump_by r1 a b ≡ Fails f
    → jump_by r2 a b ≡ Fails f
any_spent r1 r2 a b f e =
    need_same F6 a _ _ f (λ code. need_same F6 b _ _ f (λ half. ask_same F12 (code.seal == half.seal) _ _ f
    (need_same F6 (memory_content code.content) _ _ f (λ c. ask_same F10 (not (lin_is c.lin)) _ _ f
    (ask_same F7 (may_run c.perm) _ _ f (ask_same F7 (not (runs_in half.content)) _ _ f (goes_not _ _ f)))))))
    e

never_halts : (r : Reg) (a b : Option Opened) → jump_by r a b ≡ Halts → ⊥
never_halts r a b e =
    need_halts F6 a _ (λ code. need_halts F6 b _ (λ half. ask_halts F12 (code.seal == half.seal) _
    (need_halts F6 (memory_content code.content) _ (λ c. ask_halts F10 (not (lin_is c.lin)) _
    (ask_halts F7 (may_run c.perm) _ (ask_halts F7 (not (runs_in half.content)) _ (λ h. cc))))))) e

-- a call of two words fails, if it is told so
pub call_fails : (w v : Word) → plan_goes (jump_plan w v) ≡ false → (s : State OWord) → s.regs.c1 ≡ Plain w
    → s.regs.c2 ≡ Plain v → (cause : FailCause) × (z : ℤ)
    × (row look Plain (Xjmp C1 C2) (Int (pos 0)) s ≡ failed cause z)
unfolding row plan_in opens
call_fails w v stuck s e1 e2 = by (jump_plan w v) refl stuck
  where
    by : (q : Plan) → jump_plan w v ≡ q → plan_goes q ≡ false
        → (cause : FailCause) × (z : ℤ)
        × (outcome look Plain s
        (jump_by C2 (opened_of (look s.regs.c1)) (opened_of (look s.regs.c2))) ≡ failed cause z)
    by (Goes x) e h = cc
    by Halts e h = absurd (never_halts Rdata (opened_of w) (opened_of v) e)
    by (Fails f) e h =
        let a : jump_by C2 (opened_of w) (opened_of v) ≡ Fails f =
        any_spent Rdata C2 (opened_of w) (opened_of v) f e in (
          f,
          pc_at look s,
          ap (λ x. outcome look Plain s (jump_by C2 (opened_of (look x)) (opened_of (look s.regs.c2)))) e1
              ∙ ap (λ x. outcome look Plain s (jump_by C2 (opened_of w) (opened_of (look x)))) e2
              ∙ ap (outcome look Plain s) a,
        )
