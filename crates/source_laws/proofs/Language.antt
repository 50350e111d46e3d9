-- Every body does what it means: calls, and the induction on programs.
use Rattle.call_sequence.specs.declared.TheConstants.{SITE_WORDS}
use Rattle.source_laws.proofs.AtWork.{AtWork, Half, Pairs, Work}
use Rattle.source_laws.proofs.Scenes.{Scene}
use Rattle.source_laws.proofs.Variables.{AtPlace, EnvIn, env_same}
use Rattle.source_laws.proofs.Refined.{Way, way, handed, of_args, pair_of, Comp, Then, Next}
use Rattle.source_laws.proofs.Refined.{args, call, stmt, block, part_of, stack_of, whole}
use Rattle.std.proofs.Common.{Option, ◌≡◌, ℕ, zero, suc, ◌+◌, ◌-◌, ◌*◌, ◌<◌, ◌≤◌, pos, List, [], ◌∷◌, ◌++◌}
use Rattle.std.proofs.Common.{length, Some, refl, sym, ap, ◌∙◌, subst, arith}
use Rattle.std.specs.Prelude.{slice_get, drop, replicate, nat_eq, false}
use Rattle.std.proofs.lemmas.Option.{slice_get_within}
use Rattle.cap_words.specs.declared.Word.TheVariants.{Int}
use Rattle.lcm_isa.specs.declared.Reg.{Reg}
use Rattle.lcm_isa.specs.Numbers.{reg_number}
use Rattle.lcm_isa.specs.declared.Reg.TheVariants.{Pc, Stk, Dat, C1, C2, G0, G1, G2, A0}
use Rattle.lcm_isa.specs.declared.Operand.TheVariants.{Imm}
use Rattle.lcm_isa.specs.declared.Instr.TheVariants.{Plus}
use Rattle.trusted_border.specs.declared.layout.SiteCode.{SiteCode}
use Rattle.overlay_machine.specs.declared.words.OWord.{OWord}
use Rattle.overlay_machine.specs.declared.words.OWord.TheVariants.{Plain}
use Rattle.overlay_machine.specs.State.{OState}
use Rattle.run_lines.specs.Layout.{part_name, site_of}
use Rattle.proc_program.specs.Program as run
use Rattle.proc_semantics.specs.Values.{Store}
use Rattle.proc_semantics.specs.declared.value.Pair.{Pair}
use Rattle.proc_program.specs.declared.program.Handle.{Handle}
use Rattle.proc_program.specs.declared.program.Location.TheVariants.{Local, Global}
use Rattle.proc_program.specs.Program.{Exp, Number, Element, Call, Binary, Args, no_args, value, pass}
use Rattle.proc_program.specs.Program.{Statement, Set, SetAt, Do, If, While, Return, Block, no_steps, step}
use Rattle.proc_semantics.specs.declared.value.Value.{Value}
use Rattle.proc_program.specs.Limits.{arg_registers}
use Rattle.proc_templates.specs.Items.{Item, does, site as a_site}
use Rattle.proc_templates.specs.Templates.{code, args_code, load_args, load_pair, zeros, arguments, argument}
use Rattle.proc_templates.specs.Templates.{step_code, block_code}
use Rattle.source_laws.specs.Fits.{HandleInside, ExpFits, ArgsFit, StepFits, BlockFits, AsNumber}
use Rattle.source_laws.specs.Sites.{SiteIs}
use Rattle.source_laws.proofs.CallSites.{StepCallsAt, BlockCallsAt}
use Rattle.template_runs.proofs.Offers.{used, At, Here, SameBelow, SiteHere, Called, Stand}
use Rattle.template_runs.proofs.Offers.{stand_front, stand_back, words-append, words_in, free_c1, free_c2}
use Rattle.template_runs.proofs.Offers.{free_g0, free_g1, free_g2}
use Rattle.source_laws.proofs.Upto.{UpTo, spend, tick_up}
use Rattle.source_laws.proofs.CallsIn.{ProcLaw}
use Rattle.source_laws.proofs.Waiting.{WaitLaw}
use Rattle.source_laws.proofs.Evals.{LawOf, number_law, local_law, global_law, element_law, binary_law}
use Rattle.source_laws.proofs.Doings.{Evals, Does, set_local_law, set_global_law, set_at_law, do_law}
use Rattle.source_laws.proofs.Doings.{return_law, halt_law, if_law, while_law, none_law, step_law}
use Rattle.source_laws.proofs.Registers.{other}
use Rattle.source_laws.proofs.Arguments.{Spare, Apart, Others, Holding, argument_spare, HandlesFit}
use Rattle.source_laws.proofs.Arguments.{ArgsOf, ArgsIn}
use Rattle.source_laws.proofs.Arguments.{ValuesAre, no_values, number_too, pair_too, load_args_law, zeros_law}
use Rattle.source_laws.proofs.Arguments.{zero_law, pair_law, no_args_law, value_law, pass_law}
use Rattle.source_laws.proofs.Callings.{IsPair, IsCalled, Passed, no_more, one_more, two_more, filled}
use Rattle.source_laws.proofs.Callings.{call_law}

-- ---- registers of a call

spare : (d : Reg) → nat_eq (reg_number d) (reg_number Pc) ≡ false
    → nat_eq (reg_number d) (reg_number Stk) ≡ false → nat_eq (reg_number d) (reg_number Dat) ≡ false
    → Spare d
spare d p s t = (other d Pc p, other d Stk s, other d Dat t)

apart : (d r : Reg) → nat_eq (reg_number d) (reg_number r) ≡ false → Apart d (r ∷ [])
apart d r n = (other d r n, tt)

none_held : (o : OState) → Holding [] o
none_held o j x e = cc

argument_apart : (j : ℕ) → Apart (argument j) (C1 ∷ C2 ∷ G0 ∷ G1 ∷ G2 ∷ [])
argument_apart zero = ((λ e. cc), ((λ e. cc), ((λ e. cc), ((λ e. cc), ((λ e. cc), tt)))))
argument_apart (suc zero) = ((λ e. cc), ((λ e. cc), ((λ e. cc), ((λ e. cc), ((λ e. cc), tt)))))
argument_apart (suc (suc zero)) = ((λ e. cc), ((λ e. cc), ((λ e. cc), ((λ e. cc), ((λ e. cc), tt)))))
argument_apart (suc (suc (suc zero))) = ((λ e. cc), ((λ e. cc), ((λ e. cc), ((λ e. cc), ((λ e. cc), tt)))))
argument_apart (suc (suc (suc (suc j)))) = ((λ e. cc), ((λ e. cc), ((λ e. cc), ((λ e. cc), ((λ e. cc), tt)))))

holding_kept : (ws : List OWord) (rs : List Reg) (o q : OState) → ((j : ℕ) → Apart (argument j) rs)
    → Others rs o q → Holding ws o → Holding ws q
holding_kept ws rs o q ap1 others h j x e = others (argument j) (argument_spare j) (ap1 j) ∙ h j x e

-- a procedure at work in a scene, where it may make calls: it has the room that it was given, the sites of
-- its part tell its module's name, and registers that hold arguments are what a procedure is handed
pub record Enacting : Type 1 where
  pub scene : Scene
  open scene use {world, g, linked, Begins, StoreIs, RegsAre}
  pub work : Work g linked StoreIs
  open work use {p, top, f, s, end}
  pub pairs : Pairs world StoreIs p f.home s.imports (IsCalled g linked Begins) (IsPair g linked Begins)
  pub need_is : f.need ≡ s.words
  pub left_is : f.left ≡ top + 1 - g.layout.stack.base
  pub stack_is : stack_of world f.home ≡ g.layout.stack.base
  pub site_part : (k i : ℕ) (u : SiteCode) → SiteHere g linked p k i u
      → part_name g.layout (site_of g.layout i).part ≡ part_of world f.home
  pub passes : (wy : Way) (vs : List Value) (ws : List OWord) (q : OState)
      → Passed g linked Begins vs wy.words ws
      → length ws ≤ 4 → Holding (filled g linked Begins ws) q → RegsAre (handed world wy vs) q
  pub called : (k n : ℕ) → SiteIs p.component n k → Called g linked p end k n

module _ (here : Enacting) where
  open here use {scene, work, pairs, need_is, left_is, stack_is, site_part, passes, called}
  open scene use {world, g, linked, Begins, StoreIs, RegsAre}
  open work use {p, ip, failing, top, fs, ow, f, s, end, end_in, kinds, rests, temps, slots, globals}

  pub forget : (r : Pair) (x y : OWord) → IsPair g linked Begins r x y → IsCalled g linked Begins r x y
  forget r x y i = i.called

  pub halves : (r : Pair) (x y : OWord) → IsCalled g linked Begins r x y → Half x × Half y
  halves r x y i = (i.first, i.second)

  abbrev pub Working : AtWork
  Working = record {
    world = world;
    g = g;
    linked = linked;
    StoreIs = StoreIs;
    work = work;
    IsPair = IsPair g linked Begins;
    IsCalled = IsCalled g linked Begins;
    forget = forget;
    halves = halves;
    pairs = pairs;
  }

  abbrev Inside : List OWord → (ℕ → OWord) → OState → Type 0
  Inside words mem o = Here g linked p s.words top words mem fs o

  abbrev Env : List Value → List OWord → Type 0
  Env = EnvIn kinds (AtPlace f.words (IsPair g linked Begins))

  abbrev pub EvalsTo : ℕ → Exp → ℕ → Type 0
  EvalsTo = Evals Working

  abbrev pub ArgsTo : ℕ → Args → ℕ → ℕ → Type 0
  ArgsTo n xs t i = (env : List Value)
      → ArgsOf Working n env xs t i

  abbrev pub DoesSo : ℕ → (Then → Next → Next) → (ℕ → Type 0) → List Item → Type 0
  DoesSo = Does Working

  -- what calls rest on: the laws for fewer steps
  pub record Below (n : ℕ) : Type 0 where
    pub procs : (m : ℕ) → m < n → ProcLaw scene m
    pub waits : (m : ℕ) → m < n → WaitLaw scene m

  less : (n m : ℕ) → m ≤ n → Below n → Below m
  less n m le b = record {
    procs = λ j lj. b.procs j (omega (arith, le, lj));
    waits = λ j lj. b.waits j (omega (arith, le, lj));
  }

  -- ---- which programs fit their frame

  abbrev Fits : Handle → Type 0
  Fits = HandleInside kinds s.words s.temps globals.count pairs.imported pairs.owned pairs.shared

  abbrev pub ExpThere : ℕ → Exp → Type 0
  ExpThere = ExpFits kinds s.words s.temps globals.count pairs.imported pairs.owned pairs.shared

  abbrev pub ArgsThere : ℕ → ℕ → Args → Type 0
  ArgsThere = ArgsFit kinds s.words s.temps globals.count pairs.imported pairs.owned pairs.shared

  abbrev pub StepThere : Statement → Type 0
  StepThere = StepFits kinds s.words s.temps globals.count pairs.imported pairs.owned pairs.shared

  abbrev pub BlockThere : Block → Type 0
  BlockThere = BlockFits kinds s.words s.temps globals.count pairs.imported pairs.owned pairs.shared

  handles_fit : (t i : ℕ) (xs : Args) → ArgsThere t i xs
      → HandlesFit Working xs
  handles_fit t i no_args h = tt
  handles_fit t i (value e xs) h = handles_fit t (i + 1) xs h.2
  handles_fit t i (pass hd xs) h = (h.0, handles_fit t (i + 2) xs h.1)

  local_room : (i : ℕ) → slice_get kinds i ≡ Some AsNumber → i + 2 < s.words
  local_room i ki = let lt = slice_get_within kinds i AsNumber ki in omega (arith, lt, temps, slots)

  passed : (vs : List Value) (ms : List (Option OWord)) (ws : List OWord)
      → ValuesAre Working vs ms ws → Passed g linked Begins vs ms ws
  passed _ _ _ no_values = no_more
  passed _ _ _ (number_too v {vs} {ms} {ws} fit h) = one_more v fit (passed vs ms ws h)
  passed _ _ _ (pair_too r x y {vs} {ms} {ws} i h) = two_more r x y i (passed vs ms ws h)

  -- ---- a call with its arguments

  module _ (n site : ℕ) (hd : Handle) (xs : Args) (t : ℕ) (env : List Value) (lo : 2 + length kinds ≤ t)
      (fit : Fits hd) (few : arg_registers xs ≤ 4) (fits : ArgsThere t 0 xs) (lx : ArgsTo n xs t 0)
      (below : Below n) where
    abbrev Pre : List Item
    Pre = args_code s t 0 xs

    abbrev L1 : List Item
    L1 = load_args s t 0 xs

    abbrev L2 : List Item
    L2 = zeros (drop (arg_registers xs) arguments)

    abbrev L3 : List Item
    L3 = load_pair s hd C1 C2

    abbrev L4 : List Item
    L4 = zeros (G0 ∷ G1 ∷ G2 ∷ [])

    abbrev L5 : List Item
    L5 = a_site ∷ does (Plus G0 A0 (Imm (pos 0))) ∷ []

    call_row : LawOf Working n env (Call site hd xs) (code s t (Call site hd xs)) t
    call_row k c words st mem kk o code1 cs len at h en store u =
        tick_up g n c o (args world (whole world) f env xs kx st)
        (spend g n (c + 150 + 3 * arg_registers xs) (c + 200) o
        (args world (whole world) f env xs kx st) (omega (arith, few))
        (lx env k (c + 150) words st mem kx o (stand_front g linked p end k Pre _ code1) cs.0 len at h en
        store after_args))
      where
        kx : List Value → Store → Comp
        kx vs = call world (whole world) f site (way world f hd xs) (pair_of world f.home env hd) vs kk

        s0 : Stand g linked p end (k + words_in Pre) (L1 ++ (L2 ++ (L3 ++ (L4 ++ L5))))
        s0 = stand_back g linked p end k Pre _ code1

        s1 : Stand g linked p end (k + words_in Pre + words_in L1) (L2 ++ (L3 ++ (L4 ++ L5)))
        s1 = stand_back g linked p end (k + words_in Pre) L1 _ s0

        s2 : Stand g linked p end (k + words_in Pre + words_in L1 + words_in L2) (L3 ++ (L4 ++ L5))
        s2 = stand_back g linked p end (k + words_in Pre + words_in L1) L2 _ s1

        s3 : Stand g linked p end (k + words_in Pre + words_in L1 + words_in L2 + words_in L3) (L4 ++ L5)
        s3 = stand_back g linked p end (k + words_in Pre + words_in L1 + words_in L2) L3 _ s2

        ends_at : k + words_in Pre + words_in L1 + words_in L2 + words_in
            L3 + 1 + 1 + 1 + SITE_WORDS + 1 ≡ k + words_in (code s t (Call site hd xs))
        ends_at =
            let l0 = words-append Pre (L1 ++ (L2 ++ (L3 ++ (L4 ++ L5)))) in
            let l1 = words-append L1 (L2 ++ (L3 ++ (L4 ++ L5))) in
            let l2 = words-append L2 (L3 ++ (L4 ++ L5)) in
            let l3 = words-append L3 (L4 ++ L5) in
            omega (arith, l0, l1, l2, l3)

        after_args : (vs : List Value) (st2 : Store) (mem2 : ℕ → OWord) (words2 : List OWord) (q : OState)
            → At g linked p (k + words_in Pre) q → Inside words2 mem2 q → SameBelow (t + 0) words words2
            → ArgsIn Working env xs vs (t + 0) words2
            → StoreIs st2 mem2 → UpTo g ow.owes (used s.words top) n (c + 150) q (kx vs st2)
        after_args vs st2 mem2 words2 q at1 h1 same is store2 =
            let k1 = k + words_in Pre in
            let m : Comp = kx vs st2 in
            let cnt = same.count in
            let en2 : Env env words2 =
            env_same kinds (AtPlace f.words (IsPair g linked Begins)) rests env words words2 (t + 0)
            (omega (arith, lo))
            same en in
            let k2 = k1 + words_in L1 in
            let k3 = k2 + words_in L2 in
            let k4 = k3 + words_in L3 in
            load_args_law Working n m words2 mem2 st2 env store2
            en2 (cnt ∙ len) xs vs t 0 k1 (c + 150) (c + 100) [] q (handles_fit t 0 xs fits)
            (omega (arith, few)) refl is (stand_front g linked p end k1 L1 _ s0) at1 h1
            (none_held q) (λ ws q1 vals lw h2 at2 hold1.
            zeros_law Working n (arg_registers xs) (c + 100) (c + 90)
            m words2 mem2 (drop (arg_registers xs) arguments) k2 ws q1 refl lw few
            (stand_front g linked p end k2 L2 _ s1) at2 h2 hold1 (λ zs q2 zis h3 at3 hold2.
            let full : zs ≡ replicate (4 - length ws) (Plain (Int (pos 0))) = zis
            ∙ ap (λ y. replicate (4 - y) (Plain (Int (pos 0)))) (sym lw) in
            let hold3 : Holding (filled g linked Begins ws) q2 =
            subst (λ y. Holding (ws ++ y) q2) full hold2 in
            pair_law Working n (c + 90) (c + 80) m words2 mem2 st2
            env store2 en2 (cnt ∙ len) hd k3 C1 C2 q2 fit
            (other C1 C2 refl) (free_c1 g linked) (free_c2 g linked) (spare C1 refl refl refl)
            (spare C2 refl refl refl)
            (stand_front g linked p end k3 L3 _ s2) at3 h3 (λ x y q3 pr h4 at4 e1 e2 o3.
            zero_law Working n (c + 80) (c + 79) m words2 mem2 k4 G0
            q3 (free_g0 g linked) (spare G0 refl refl refl) s3.0 at4 h4 (λ q4 h5 at5 z0 o4.
            zero_law Working n (c + 79) (c + 78) m words2 mem2
            (k4 + 1) G1 q4 (free_g1 g linked) (spare G1 refl refl refl) s3.1.0 at5 h5
            (λ q5 h6 at6 z1 o5.
            zero_law Working n (c + 78) (c + 77) m words2 mem2
            (k4 + 1 + 1) G2 q5 (free_g2 g linked) (spare G2 refl refl refl) s3.1.1.0 at6 h6
            (λ q6 h7 at7 z2 o6.
            let a3 : Holding (filled g linked Begins ws) q3 =
            holding_kept (filled g linked Begins ws) (C1 ∷ C2 ∷ []) q2 q3
            (λ j. let a = argument_apart j in (a.0, (a.1.0, tt))) o3 hold3 in
            let a4 : Holding (filled g linked Begins ws) q4 =
            holding_kept (filled g linked Begins ws) (G0 ∷ []) q3 q4
            (λ j. let a = argument_apart j in (a.1.1.0, tt)) o4 a3 in
            let a5 : Holding (filled g linked Begins ws) q5 =
            holding_kept (filled g linked Begins ws) (G1 ∷ []) q4 q5
            (λ j. let a = argument_apart j in (a.1.1.1.0, tt)) o5 a4 in
            let a6 : Holding (filled g linked Begins ws) q6 =
            holding_kept (filled g linked Begins ws) (G2 ∷ []) q5 q6
            (λ j. let a = argument_apart j in (a.1.1.1.1.0, tt)) o6 a5 in
            let c1 : q6.maps.regs.c1 ≡ x = o6 C1 (spare C1 refl refl refl) (apart C1 G2 refl)
            ∙ o5 C1 (spare C1 refl refl refl) (apart C1 G1 refl)
            ∙ o4 C1 (spare C1 refl refl refl) (apart C1 G0 refl) ∙ e1 in
            let c2 : q6.maps.regs.c2 ≡ y = o6 C2 (spare C2 refl refl refl) (apart C2 G2 refl)
            ∙ o5 C2 (spare C2 refl refl refl) (apart C2 G1 refl)
            ∙ o4 C2 (spare C2 refl refl refl) (apart C2 G0 refl) ∙ e2 in
            call_law g linked Begins world StoreIs RegsAre p s.words top fs ow f need_is left_is stack_is
            site_part passes n (c + 77) c site kk st2 words2 mem2 q6 h7 (k4 + 1 + 1 + 1) end at7
            (called _ site cs.1) store2 below.procs below.waits (pair_of world f.home env hd) x y c1 c2 pr.0
            vs ws (way world f hd xs) pr.1 pr.2 (passed vs (of_args world f xs) ws vals)
            (omega (arith, lw, few)) a6
            (record {
              g0 = o6 G0 (spare G0 refl refl refl) (apart G0 G2 refl)
                  ∙ o5 G0 (spare G0 refl refl refl) (apart G0 G1 refl) ∙ z0;
              g1 = o6 G1 (spare G1 refl refl refl) (apart G1 G2 refl) ∙ z1;
              g2 = z2;
            }) s3.1.1.1.1.0
            (λ v st9 mem9 q9 h9 at9 e9 f9 store9. u v st9 mem9 words2 q9
            (subst (λ a. At g linked p a q9) ends_at at9) h9
            (record { count = cnt; each = λ j lj. same.each j (omega (arith, lj)) }) e9 f9 store9)
            (omega arith)) (omega arith)) (omega arith)) (omega arith)) (omega arith))
            (omega (arith, few))) (omega (arith, few))

  -- ---- the induction

  mutual
    pub evals : (e : Exp) (t : ℕ) → 2 + length kinds ≤ t → ExpThere t e → (n : ℕ) → Below n → EvalsTo n e t
    evals (Number v) t lo fit n below env =
        number_law Working n env v t fit
    evals (run.Load (Local i)) t lo fit n below env =
        local_law Working n env i t fit (local_room i fit)
    evals (run.Load (Global d)) t lo fit n below env =
        global_law Working n env d t fit
    evals (Element a e) t lo fit n below env =
        element_law Working n env a e t fit.0 (evals e t lo fit.1 n below env)
    evals (Call site h xs) t lo fit n below env =
        call_row n site h xs t env lo fit.0 fit.1 fit.2 (arguments_law xs t 0 lo fit.2 n below) below
    evals (Binary r a b) t lo fit n below env =
        binary_law Working n env r a b t lo fit.0 (evals a t lo fit.1 n below env)
        (evals b (t + 1) (omega (arith, lo)) fit.2 n below env)

    pub arguments_law : (xs : Args) (t i : ℕ) → 2 + length kinds ≤ t → ArgsThere t i xs → (n : ℕ) → Below n
        → ArgsTo n xs t i
    arguments_law no_args t i lo fit n below env =
        no_args_law Working n env t lo i
    arguments_law (value e xs) t i lo fit n below env =
        value_law Working n env t lo e xs i fit.0
        (evals e (t + i) (omega (arith, lo)) fit.1 n below env)
        (arguments_law xs t (i + 1) lo fit.2 n below env)
    arguments_law (pass h xs) t i lo fit n below env =
        pass_law Working n env t lo h xs i
        (arguments_law xs t (i + 2) lo fit.1 n below env)

  mutual
    pub does_step : (a : Statement) → StepThere a → (n : ℕ) → Below n
        → DoesSo n (stmt world (whole world) f a) (λ k. StepCallsAt p.component s k a) (step_code s a)
    does_step (Set (Local i) e) fit n below =
        set_local_law Working n i e fit.0 (evals e s.temps temps fit.1 n below)
    does_step (Set (Global d) e) fit n below =
        set_global_law Working n d e fit.0 (evals e s.temps temps fit.1 n below)
    does_step (SetAt a i e) fit n below =
        set_at_law Working n a i e fit.0 fit.1 (evals i s.temps temps fit.2 n below)
        (evals e (s.temps + 1) (omega (arith, temps)) fit.3 n below)
    does_step (Do e) fit n below =
        do_law Working n e (evals e s.temps temps fit n below)
    does_step (If e a b) fit n below =
        if_law Working n e a b (evals e s.temps temps fit.0 n below) (does_block a fit.1 n below)
        (does_block b fit.2 n below)
    does_step (While e b) fit n below =
        while_law Working e b n (λ m le. evals e s.temps temps fit.0 m (less n m le below))
        (λ m le. does_block b fit.1 m (less n m le below))
    does_step (Return e) fit n below =
        return_law Working n e (evals e s.temps temps fit n below)
    does_step (run.Halt e) fit n below =
        halt_law Working n e (evals e s.temps temps fit n below)

    pub does_block : (b : Block) → BlockThere b → (n : ℕ) → Below n
        → DoesSo n (block world (whole world) f b) (λ k. BlockCallsAt p.component s k b) (block_code s b)
    does_block no_steps fit n below =
        none_law Working n
    does_block (step a b) fit n below =
        step_law Working n a b (does_step a fit.0 n below) (does_block b fit.1 n below)
