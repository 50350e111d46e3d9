-- Statements, given their expressions.
use Rattle.source_laws.proofs.AtWork.{AtWork, data_fits}
use Rattle.source_laws.proofs.Variables.{AtPlace, EnvIn, env_same, env_set}
use Rattle.source_laws.proofs.CallsIn.{int_public}
use Rattle.template_runs.proofs.Offers.{not_free, with_reg, with_data, set_law, dat_law, store_data_law}
use Rattle.template_runs.proofs.Offers.{mem_with, clean_same, used, with_at}
use Rattle.template_runs.proofs.Offers.{length-with_at, SameBelow, get_with, get_other, At, Placed, next_pc}
use Rattle.template_runs.proofs.Offers.{halt, inside_here, Here, load_law, store_law, Stand, stand_front}
use Rattle.template_runs.proofs.Offers.{stand_back, words-append, words_in, free_g0, free_a0, from_element}
use Rattle.template_runs.proofs.Offers.{jump_law, back_law, branch_goes, branch_stays}
use Rattle.source_laws.proofs.Upto.{none_inside, go_on, upto, halting, UpTo, spend, fewer, tick_up}
use Rattle.std.proofs.Common.{◌≡◌, ℕ, zero, suc, ◌+◌, ◌<◌, ◌≤◌, ℤ, pos, negsuc, ◌+ℤ◌, ◌-ℤ◌, List, [], ◌∷◌}
use Rattle.std.proofs.Common.{◌++◌, length, Some, Bool, true, false, refl, sym, ap, ◌∙◌, subst, arith, ne_eqb}
use Rattle.std.specs.Prelude.{slice_get, slice_set, if◌then◌else◌}
use Rattle.std.proofs.lemmas.Int.{ints}
use Rattle.std.proofs.lemmas.Option.{slice_get_within}
use Rattle.cap_words.specs.declared.Word.TheVariants.{Int, Mem}
use Rattle.cap_words.specs.Linear.{is_linear}
use Rattle.lcm_isa.specs.declared.Reg.TheVariants.{Dat, A0, G0}
use Rattle.lcm_isa.specs.declared.Operand.TheVariants.{Imm}
use Rattle.lcm_isa.specs.declared.Instr.TheVariants.{Halt, Store as StoreTo}
use Rattle.lcm_machine.specs.declared.Place.TheVariants.{R}
use Rattle.lcm_machine.specs.Places.{reg}
use Rattle.lcm_machine.specs.Table.{fits_64, is_zero}
use Rattle.lcm_machine.proofs.Offers.{stays, move_goes, halt_halts}
use Rattle.call_sequence.specs.Holds.{data_cap}
use Rattle.overlay_machine.specs.declared.words.OWord.{OWord}
use Rattle.overlay_machine.specs.declared.words.OWord.TheVariants.{Plain}
use Rattle.overlay_machine.specs.Words.{look}
use Rattle.overlay_machine.specs.State.{OState}
use Rattle.overlay_machine.specs.Flat.{flat}
use Rattle.overlay_machine.specs.Link.{ranges_of}
use Rattle.run_lines.specs.Views.{flat_view}
use Rattle.proc_program.specs.Program as run
use Rattle.source_laws.proofs.Refined.{Comp, ends, Then, Next, expr, element, assigned, stmt, block}
use Rattle.source_laws.proofs.Refined.{whole, recursive}
use Rattle.proc_semantics.specs.Values.{Store, set_word}
use Rattle.proc_program.specs.declared.program.Location.TheVariants.{Local, Global}
use Rattle.proc_program.specs.declared.program.Array.{Array}
use Rattle.proc_program.specs.Program.{Exp, Statement, Set, SetAt, Do, If, While, Return}
use Rattle.proc_program.specs.Program.{Block, no_steps, step}
use Rattle.source_events.specs.declared.End.TheVariants.{Halt as Halted}
use Rattle.proc_semantics.specs.declared.value.Value.{Value}
use Rattle.proc_semantics.specs.declared.value.Value.TheVariants.{Num}
use Rattle.proc_semantics.specs.Values as values
use Rattle.proc_templates.specs.Items.{Item, does, goes_if, goes, label, finishes}
use Rattle.call_sequence.specs.Sequences.{distance}
use Rattle.proc_templates.specs.Templates.{exp_words, block_words, code, at_row, store_slot, load_slot}
use Rattle.proc_templates.specs.Templates.{store_var, answer, step_code, block_code}
use Rattle.source_laws.proofs.CallSites.{StepCallsAt, BlockCallsAt}
use Rattle.source_laws.proofs.PieceSizes.{exp_size, block_size}
use Rattle.source_laws.specs.Fits.{AsNumber}
use Rattle.source_laws.proofs.ValueRows.{index_law, reach_law}
use Rattle.source_laws.proofs.Evals.{LawOf}
use Rattle.template_runs.specs.Public.{IsPublic}

zero_same : (v : ℤ) → is_zero v ≡ values.is_zero v
zero_same (pos zero) = refl
zero_same (pos (suc n)) = ne_eqb (suc n) 0 (omega arith)
zero_same (negsuc n) = refl

module _ (at_work : AtWork) where
  open at_work use {world, g, linked, StoreIs, work, IsPair}
  open work use {p, ip, failing, top, fs, ow, f, s, end, end_in, kinds, rests, temps, slots, globals}

  abbrev Inside : List OWord → (ℕ → OWord) → OState → Type 0
  Inside words mem o = Here g linked p s.words top words mem fs o

  abbrev Env : List Value → List OWord → Type 0
  Env = EnvIn kinds (AtPlace f.words IsPair)

  -- an expression from a slot on, whatever the variables hold
  abbrev pub Evals : ℕ → Exp → ℕ → Type 0
  Evals n e t = (env : List Value)
      → LawOf at_work n env e
      (code s t e) t

  -- after a `return`, at the epilogue
  abbrev pub Returns : ℕ → ℕ → List OWord → Then → Type 0
  Returns n c words back = (v : ℤ) (st' : Store) (mem' : ℕ → OWord) (words' : List OWord) (q : OState)
      → At g linked p end q → Inside words' mem' q → SameBelow 2 words words'
      → q.maps.regs.a0 ≡ Plain (Int v)
      → fits_64 v ≡ true → StoreIs st' mem' → UpTo g ow.owes (used s.words top) n c q (back v st')

  -- after a statement
  abbrev pub Onward : ℕ → ℕ → ℕ → List OWord → Next → Type 0
  Onward n c k words kk =
      (env' : List Value) (st' : Store) (mem' : ℕ → OWord) (words' : List OWord) (q : OState)
      → At g linked p k q → Inside words' mem' q → SameBelow 2 words words' → Env env' words'
      → StoreIs st' mem' → UpTo g ow.owes (used s.words top) n c q (kk env' st')

  abbrev pub Does : ℕ → (Then → Next → Next) → (ℕ → Type 0) → List Item → Type 0
  Does n means calls xs =
      (k c : ℕ) (words : List OWord) (env : List Value) (st : Store) (mem : ℕ → OWord) (back : Then)
      (kk : Next) (o : OState) → k + words_in xs ≤ end → Stand g linked p end k xs → calls k
      → length words ≡ s.words → At g linked p k o → Inside words mem o → Env env words → StoreIs st mem
      → Returns n c words back → Onward n c (k + words_in xs) words kk
      → UpTo g ow.owes (used s.words top) n c o (means back kk env st)

  two_same : (words words' : List OWord) → SameBelow s.temps words words' → SameBelow 2 words words'
  two_same words words' h = record { count = h.count; each = λ i lt. h.each i (omega (arith, lt, temps)) }

  two_then : (a b c : List OWord) → SameBelow 2 a b → SameBelow 2 b c → SameBelow 2 a c
  two_then a b c h k = record { count = k.count ∙ h.count; each = λ i lt. k.each i lt ∙ h.each i lt }

  same_env : (env : List Value) (words words' : List OWord) → SameBelow s.temps words words' → Env env words
      → Env env words'
  same_env env words words' same e = env_same kinds (AtPlace f.words IsPair) rests env words words'
      s.temps temps same e

  abbrev base : ℤ
  base = pos p.component.data_base

  at_is : (j k : ℕ) (q : OState) → j ≡ k → At g linked p j q → At g linked p k q
  at_is j k q e h = subst (λ x. At g linked p x q) e h

  module _ (n : ℕ) where
    pub set_local_law : (i : ℕ) (e : Exp) → slice_get kinds i ≡ Some AsNumber → Evals n e s.temps
        → Does n (stmt world (whole world) f (Set (Local i) e))
        (λ k. StepCallsAt p.component s k (Set (Local i) e)) (step_code s (Set (Local i) e))
    set_local_law i e ki le k c words env st mem back kk o ke st1 cs len at h en store ret on =
        tick_up g n c o
        (expr world (whole world) f env e (λ v. assigned world f.home (Local i) v kk env) st)
        (le env k (c + 200) words st mem
        (λ v. assigned world f.home (Local i) v kk env) o
        (stand_front g linked p end k (code s s.temps e) _ st1) cs len at h en store
        (λ v st2 mem2 words2 q at2 h2 same ev fv store2.
        let tail = stand_back g linked p end k (code s s.temps e) (store_var s (Local i)) st1 in
        let cnt = same.count in
        let lt = slice_get_within kinds i AsNumber ki in
        let lt1 : i + 2 < length words2 = omega (arith, lt, cnt, len, temps, slots) in
        let l = words-append (code s s.temps e) (store_var s (Local i)) in
        let e3 : k + words_in (code s s.temps e) + 1 + 1 + 1 ≡ k + words_in
        (code s s.temps e ++ store_var s (Local i)) = omega (arith, l) in
        let m : Comp = kk (slice_set env i (Num v)) st2 in
        store_law g linked p ip s.words top mem2 fs (k + words_in (code s s.temps e))
        (upto g ow.owes (used s.words top) n m)
        (c + 200) c G0 words2 (i + 2) q (tail.0, (tail.1.0, (tail.1.1.0, tt))) lt1 refl
        (ap (λ z. is_linear (look z)) ev) (subst (IsPublic g) (sym ev) (int_public g v))
        (λ free. (omega (arith, lt1, cnt, len), omega arith)) at2 h2 (λ h3 at3.
        let same3 : SameBelow 2 words2 (with_at words2 (i + 2) (reg q.maps.regs G0)) =
        same_less' (i + 2) words2 (reg q.maps.regs G0) (omega arith) in
        let env3 : Env (slice_set env i (Num v)) (with_at words2 (i + 2) (reg q.maps.regs G0)) =
        subst (λ y. Env (slice_set env i (Num v)) (with_at words2 (i + 2) y)) (sym ev)
        (env_set kinds (AtPlace f.words IsPair) rests env words2 i v ki lt1 fv
        (same_env env words words2 same en)) in
        on (slice_set env i (Num v)) st2 mem2 (with_at words2 (i + 2) (reg q.maps.regs G0))
        _ (at_is _ _ _ e3 at3) h3 (two_then words words2 _ (two_same words words2 same) same3) env3
        store2) (omega arith)))
      where
        same_less' : (t : ℕ) (ws : List OWord) (x : OWord) → 2 ≤ t → SameBelow 2 ws (with_at ws t x)
        same_less' t ws x le2 =
            record {
              count = length-with_at ws t x;
              each = λ j lt. get_other ws t j x (omega (arith, lt, le2));
            }

    pub set_global_law : (d : ℕ) (e : Exp) → d < globals.count → Evals n e s.temps
        → Does n (stmt world (whole world) f (Set (Global d) e))
        (λ k. StepCallsAt p.component s k (Set (Global d) e)) (step_code s (Set (Global d) e))
    set_global_law d e lt le k c words env st mem back kk o ke st1 cs len at h en store ret on =
        tick_up g n c o
        (expr world (whole world) f env e (λ v. assigned world f.home (Global d) v kk env) st)
        (le env k (c + 200) words st mem
        (λ v. assigned world f.home (Global d) v kk env) o
        (stand_front g linked p end k (code s s.temps e) _ st1) cs len at h en store
        (λ v st2 mem2 words2 q at2 h2 same ev fv store2.
        let tail = stand_back g linked p end k (code s s.temps e) (store_var s (Global d)) st1 in
        let k1 = k + words_in (code s s.temps e) in
        let l = words-append (code s s.temps e) (store_var s (Global d)) in
        let e3 : k + words_in (code s s.temps e) + 1 + 1 + 1 ≡ k + words_in
        (code s s.temps e ++ store_var s (Global d)) = omega (arith, l) in
        let m : Comp = kk env (set_word st2 f.home d v) in
        let room = globals.room in
        let a = p.component.data_base + (s.pairs + d) in
        let in_data : s.pairs + d < length p.component.data_words = omega (arith, room, lt) in
        let fit_a = data_fits g linked p ip (s.pairs + d) a in_data (omega arith) in
        let fit_b = data_fits g linked p ip (s.pairs + d) p.component.data_base in_data (omega arith) in
        let go_back : pos (p.component.data_base + (s.pairs + d)) +ℤ (pos 0 -ℤ pos (s.pairs + d)) ≡ pos
        p.component.data_base = omega (arith, ints) in
        let mem3 = mem_with mem2 (p.component.data_base + (s.pairs + d)) (Plain (Int v)) in
        let s1 = with_reg q Dat (Plain (Mem (data_cap (ranges_of p) (pos a)))) (next_pc g linked p k1) in
        let s2 = with_data g linked p ip s.words top fs (k1 + 1) s1 a (Plain (Int v)) in
        dat_law g linked p ip s.words top fs k1 (upto g ow.owes (used s.words top) n m) (c + 200) (c + 100)
        words2 mem2 q base
        (pos (s.pairs + d)) (pos a) (Imm (pos (s.pairs + d))) tail.0 at2 h2 refl
        refl fit_a (λ h3 at3.
        store_data_law g linked p ip s.words top fs (k1 + 1) (upto g ow.owes (used s.words top) n m)
        (c + 100) (c + 99) words2
        mem2 s1 (s.pairs + d) G0 (Plain (Int v)) tail.1.0 at3 h3 in_data ev refl
        (λ free. absurd (not_free g p (s.pairs + d) ip in_data free)) (λ h4 at4.
        dat_law g linked p ip s.words top fs (k1 + 1 + 1) (upto g ow.owes (used s.words top) n m) (c + 99) c
        words2 mem3 s2
        (pos a) (pos 0 -ℤ pos (s.pairs + d)) base (Imm (pos 0 -ℤ pos (s.pairs + d))) tail.1.1.0 at4 h4
        refl go_back fit_b (λ h5 at5.
        on env (set_word st2 f.home d v) mem3 words2 _ (at_is _ _ _ e3 at5) h5
        (two_same words words2 same) (same_env env words words2 same en)
        (globals.sets st2 mem2 d v store2 lt fv)) (omega arith)) (omega arith)) (omega arith)))

    pub do_law : (e : Exp) → Evals n e s.temps
        → Does n (stmt world (whole world) f (Do e))
        (λ k. StepCallsAt p.component s k (Do e)) (step_code s (Do e))
    do_law e le k c words env st mem back kk o ke st1 cs len at h en store ret on =
        tick_up g n c o (expr world (whole world) f env e (λ v. kk env) st)
        (spend g n c (c + 200) o _ (omega arith)
        (le env k c words st mem (λ v. kk env) o st1 cs len at h en store
        (λ v st2 mem2 words2 q at2 h2 same ev fv store2.
        on env st2 mem2 words2 q at2 h2 (two_same words words2 same) (same_env env words words2 same en)
        store2)))

    -- g0 is the answer, in a0
    answer_law : (k c b : ℕ) (m : Comp) (v : ℤ) (words : List OWord) (mem : ℕ → OWord) (o : OState)
        → Placed g linked p k answer → At g linked p k o → Inside words mem o
        → o.maps.regs.g0 ≡ Plain (Int v)
        → ((q : OState) → Inside words mem q → At g linked p (k + 1) q → q.maps.regs.a0 ≡ Plain (Int v)
        → q.maps.regs.g0 ≡ Plain (Int v) → UpTo g ow.owes (used s.words top) n b q m) → 1 + b ≤ c
        → UpTo g ow.owes (used s.words top) n c o m
    answer_law k c b m v words mem o code1 at h ev u le =
        set_law g linked p ip s.words top fs k (upto g ow.owes (used s.words top) n m) c b words mem o
        base answer A0
        o.maps.regs.g0 (free_a0 g linked) refl code1 at h
        (move_goes look Plain A0 G0 _ o.maps o.maps refl
        (stays look Plain o.maps (R G0) (ap (λ z. is_linear (look z)) ev)))
        (λ h1 at1. u _ h1 at1 ev ev) le

    pub return_law : (e : Exp) → Evals n e s.temps
        → Does n (stmt world (whole world) f (Return e))
        (λ k. StepCallsAt p.component s k (Return e)) (step_code s (Return e))
    return_law e le k c words env st mem back kk o ke st1 cs len at h en store ret on =
        tick_up g n c o (expr world (whole world) f env e back st)
        (le env k (c + 200) words st mem back o (stand_front g linked p end k (code s s.temps e) _ st1) cs
        len
        at h en store (λ v st2 mem2 words2 q at2 h2 same ev fv store2.
        let tail = stand_back g linked p end k (code s s.temps e) (does answer ∷ finishes ∷ []) st1 in
        let k1 = k + words_in (code s s.temps e) in
        answer_law k1 (c + 200) (3 + c) (back v st2) v words2 mem2 q tail.0 at2 h2 ev (λ q3 h3 at3 e3 g3.
        jump_law g linked p ip s.words top fs words2 mem2 base (k1 + 1) end (pos end -ℤ pos (k1 + 1))
        (let z : pos (k1 + 1) +ℤ (pos end -ℤ pos (k1 + 1)) ≡ pos end = omega (arith, ints) in z) end_in
        (upto g ow.owes (used s.words top) n (back v st2)) (3 + c) c q3 tail.1.0 at3 h3
        (λ q4 h4 at4 kept.
        ret v st2 mem2 words2 q4 at4 h4 (two_same words words2 same) (kept.a0 ∙ e3)
        fv
        store2) (omega arith)) (omega arith)))

    shown_answer : (v : ℤ) (q : OState) → q.maps.regs.a0 ≡ Plain (Int v)
        → (flat_view g.layout q).reg A0 ≡ Int v
    unfolding flat
    shown_answer v q e = rw e refl

    pub halt_law : (e : Exp) → Evals n e s.temps
        → Does n (stmt world (whole world) f (run.Halt e))
        (λ k. StepCallsAt p.component s k (run.Halt e)) (step_code s (run.Halt e))
    halt_law e le k c words env st mem back kk o ke st1 cs len at h en store ret on =
        tick_up g n c o (expr world (whole world) f env e (λ v st. ends (Halted v)) st)
        (le env k (c + 200) words st mem
        (λ v st. ends (Halted v)) o (stand_front g linked p end k (code s s.temps e) _ st1) cs len at h en
        store (λ v st2 mem2 words2 q at2 h2 same ev fv store2.
        let tail = stand_back g linked p end k (code s s.temps e) (does answer ∷ does Halt ∷ []) st1 in
        let k1 = k + words_in (code s s.temps e) in
        answer_law k1 (c + 200) (1 + c) (ends (Halted v)) v words2 mem2 q tail.0 at2 h2 ev
        (λ q3 h3 at3 e3 g3.
        halt g linked p (k1 + 1) Halt q3 h3.valid at3 tail.1.0 refl v
        (halting g ow.owes (used s.words top) n v) (1 + c)
        (halt_halts look Plain _ q3.maps) (omega arith) (shown_answer v q3 e3)) (omega arith)))

    pub set_at_law : (a : Array) (i e : Exp) → a.first + a.length ≤ globals.count → s.temps < s.words
        → Evals n i s.temps → Evals n e (s.temps + 1)
        → Does n (stmt world (whole world) f (SetAt a i e))
        (λ k. StepCallsAt p.component s k (SetAt a i e)) (step_code s (SetAt a i e))
    set_at_law a i e room lt li le k c words env st mem back kk o ke st1 cs len at h en store ret on =
        tick_up g n c o
        (expr world (whole world) f env i
        (λ x. expr world (whole world) f env e
        (λ v st. element world a x (λ d. kk env (set_word st f.home d v)))) st)
        (li env k (c + 200) words st mem
        (λ x. expr world (whole world) f env e
        (λ v st. element world a x (λ d. kk env (set_word st f.home d v)))) o
        (stand_front g linked p end k (code s s.temps i) _ st1) cs.0 len at h en store after_i)
      where
        tail1 : Stand g linked p end (k + words_in (code s s.temps i))
            (store_slot s s.temps
            G0 ++ (code s (s.temps + 1)
            e ++ (does answer ∷ (load_slot s s.temps G0 ++ at_row s a (StoreTo Dat A0)))))
        tail1 = stand_back g linked p end k (code s s.temps i) _ st1

        tail3 : Stand g linked p end
            (k + words_in (code s s.temps i) + 1 + 1 + 1 + words_in (code s (s.temps + 1) e))
            (does answer ∷ (load_slot s s.temps G0 ++ at_row s a (StoreTo Dat A0)))
        tail3 = stand_back g linked p end (k + words_in (code s s.temps i) + 1 + 1 + 1)
            (code s (s.temps + 1) e) _ tail1.1.1.1

        ends_at : k + words_in (code s s.temps i) + 1 + 1 + 1 + words_in
            (code s (s.temps + 1) e) + 1 + 1 + 1 + 1 + 8 + 1 + 1 + 1 + 1 + 1 + 1 ≡ k + words_in
            (step_code s (SetAt a i e))
        ends_at =
            let l1 = words-append (code s s.temps i)
            (store_slot s s.temps
            G0 ++ (code s (s.temps + 1)
            e ++ (does answer ∷ (load_slot s s.temps G0 ++ at_row s a (StoreTo Dat A0))))) in
            let l2 = words-append (code s (s.temps + 1) e)
            (does answer ∷ (load_slot s s.temps G0 ++ at_row s a (StoreTo Dat A0))) in
            omega (arith, l1, l2)

        after_e : (x : ℤ) → fits_64 x ≡ true → (words1 : List OWord) → SameBelow s.temps words words1
            → slice_get words1 s.temps ≡ Some (Plain (Int x))
            → (v : ℤ) (st2 : Store) (mem2 : ℕ → OWord) (words2 : List OWord) (q : OState)
            → At g linked p (k + words_in (code s s.temps i) + 1 + 1 + 1 + words_in
            (code s (s.temps + 1) e))
            q → Inside words2 mem2 q → SameBelow (s.temps + 1) words1 words2
            → q.maps.regs.g0 ≡ Plain (Int v) → fits_64 v ≡ true → StoreIs st2 mem2
            → UpTo g ow.owes (used s.words top) n (c + 197) q
            (element world a x (λ d. kk env (set_word st2 f.home d v)))
        after_e x fx words1 same1 got v st2 mem2 words2 q atq hq same2 ev fv store2 =
            let k3 = k + words_in (code s s.temps i) + 1 + 1 + 1 + words_in (code s (s.temps + 1) e) in
            let km : ℕ → Comp = λ d. kk env (set_word st2 f.home d v) in
            let roomd = globals.room in
            let m0 : Comp = element world a x km in
            let got2 : slice_get words2 s.temps ≡ Some (Plain (Int x)) = same2.each s.temps (omega arith)
            ∙ got in
            let cnt1 = same1.count in
            let cnt2 = same2.count in
            let below : SameBelow s.temps words words2 =
            record {
              count = cnt2 ∙ cnt1;
              each = λ j lj. same2.each j (omega (arith, lj))
                  ∙ same1.each j lj;
            } in
            answer_law k3 (c + 197) (c + 196) m0 v words2 mem2 q tail3.0 atq hq ev (λ q3 h3 at3 e3 g3.
            load_law g linked p ip s.words top mem2 fs (k3 + 1) (upto g ow.owes (used s.words top) n m0)
            (c + 196) (c + 100) G0
            (free_g0 g linked) words2 s.temps (Plain (Int x)) q3
            (tail3.1.0, (tail3.1.1.0, (tail3.1.1.1.0, tt))) got2 lt refl refl at3 h3 (λ h4 at4.
            index_law world g linked p ip s.words top fs ow n failing a (k3 + 1 + 1 + 1 + 1)
            (c + 100) (c + 50) x
            words2 mem2 _ base km tail3.1.1.1.1.0 at4 h4 refl
            (λ j q5 is lj h5 at5 g5 a5.
            let in_data : s.pairs + (a.first + j) < length p.component.data_words =
            omega (arith, roomd, room, lj) in
            let in_count : a.first + j < globals.count = omega (arith, room, lj) in
            let m : Comp = km (a.first + j) in
            let k4 = k3 + 1 + 1 + 1 + 1 + 8 in
            reach_law world g linked p ip s.words top fs ow n s.pairs a.first words2 mem2 m k4
            (c + 50) (c + 40) j q5
            tail3.1.1.1.1.1.0 tail3.1.1.1.1.1.1.0 at5 h5 g5 in_data (λ q6 h6 at6 g6 a6.
            let ad = p.component.data_base + (s.pairs + (a.first + j)) in
            let mem3 = mem_with mem2 (p.component.data_base + (s.pairs + (a.first + j))) (Plain (Int v)) in
            let s7 = with_data g linked p ip s.words top fs (k4 + 1 + 1) q6 ad (Plain (Int v)) in
            store_data_law g linked p ip s.words top fs (k4 + 1 + 1) (upto g ow.owes (used s.words top) n m)
            (c + 40) (c + 30)
            words2 mem2 q6 (s.pairs + (a.first + j)) A0 (Plain (Int v)) tail3.1.1.1.1.1.1.1.0 at6 h6
            in_data (a6 ∙ a5 ∙ e3) refl
            (λ free. absurd (not_free g p (s.pairs + (a.first + j)) ip in_data free)) (λ h7 at7.
            from_element g linked p ip s.words top fs (s.pairs + a.first) words2 mem3
            (upto g ow.owes (used s.words top) n m)
            (k4 + 1 + 1 + 1) (c + 30) c (s.pairs + (a.first + j)) s7 tail3.1.1.1.1.1.1.1.1.0
            tail3.1.1.1.1.1.1.1.1.1.0 tail3.1.1.1.1.1.1.1.1.1.1.0 at7 h7 g6 in_data (λ q8 h8 at8 g8.
            on env (set_word st2 f.home (a.first + j) v) mem3 words2 q8 (at_is _ _ q8 ends_at at8)
            h8 (two_same words words2 below) (same_env env words words2 below en)
            (globals.sets st2 mem2 (a.first + j) v store2 in_count fv)) (omega arith)) (omega arith))
            (omega arith)) (omega arith)) (omega arith)) (omega arith)

        after_i : (x : ℤ) (st1 : Store) (mem1 : ℕ → OWord) (words1 : List OWord) (q : OState)
            → At g linked p (k + words_in (code s s.temps i)) q → Inside words1 mem1 q
            → SameBelow s.temps words words1 → q.maps.regs.g0 ≡ Plain (Int x) → fits_64 x ≡ true
            → StoreIs st1 mem1
            → UpTo g ow.owes (used s.words top) n (c + 200) q
            (expr world (whole world) f env e
            (λ v st. element world a x (λ d. kk env (set_word st f.home d v))) st1)
        after_i x st1 mem1 words1 q atq hq same1 ex fx store1 =
            let k1 = k + words_in (code s s.temps i) in
            let ke2 : Then = λ v st. element world a x (λ d. kk env (set_word st f.home d v)) in
            let m : Comp = expr world (whole world) f env e ke2 st1 in
            let cnt = same1.count in
            let lt1 : s.temps < length words1 = omega (arith, lt, cnt, len) in
            let lw = length-with_at words1 s.temps (reg q.maps.regs G0) in
            let same2 : SameBelow s.temps words (with_at words1 s.temps (reg q.maps.regs G0)) =
            record {
              count = lw ∙ cnt;
              each = λ j lj. get_other words1 s.temps j (reg q.maps.regs G0) lj
                  ∙ same1.each j lj;
            } in
            store_law g linked p ip s.words top mem1 fs k1 (upto g ow.owes (used s.words top) n m) (c + 200)
            (c + 197) G0 words1
            s.temps q (tail1.0, (tail1.1.0, (tail1.1.1.0, tt))) lt1 refl (ap (λ z. is_linear (look z)) ex)
            (subst (IsPublic g) (sym ex) (int_public g x))
            (λ free. (omega (arith, lt1, cnt, len), omega arith)) atq hq
            (λ h2 at2. le env (k1 + 1 + 1 + 1) (c + 197) (with_at words1 s.temps (reg q.maps.regs G0)) st1
            mem1 ke2 _ (stand_front g linked p end (k1 + 1 + 1 + 1) (code s (s.temps + 1) e)
            _ tail1.1.1.1) cs.1 (lw ∙ cnt ∙ len) at2 h2
            (same_env env words _ same2 en) store1
            (after_e x fx (with_at words1 s.temps (reg q.maps.regs G0)) same2
            (get_with words1 s.temps (reg q.maps.regs G0) lt1 ∙ ap Some ex)))
            (omega arith)

    -- ---- blocks

    pub none_law : Does n (block world (whole world) f no_steps)
        (λ k. BlockCallsAt p.component s k no_steps) (block_code s no_steps)
    none_law k c words env st mem back kk o ke st1 cs len at h en store ret on =
        on env st mem words o (at_is k (k + 0) o (let z : k ≡ k + 0 = omega arith in z) at) h
        (record { count = refl; each = λ i lt. refl }) en store

    pub step_law : (a : Statement) (b : Block)
        → Does n (stmt world (whole world) f a) (λ k. StepCallsAt p.component s k a) (step_code s a)
        → Does n (block world (whole world) f b) (λ k. BlockCallsAt p.component s k b) (block_code s b)
        → Does n (block world (whole world) f (step a b))
        (λ k. BlockCallsAt p.component s k (step a b)) (block_code s (step a b))
    step_law a b la lb k c words env st mem back kk o ke st1 cs len at h en store ret on =
        let l = words-append (step_code s a) (block_code s b) in
        la k c words env st mem back (block world (whole world) f b back kk) o (omega (arith, l, ke))
        (stand_front g linked p end k (step_code s a) (block_code s b) st1) cs.0 len at h en store ret
        (λ env2 st2 mem2 words2 q at2 h2 same e2 store2.
        let e3 : k + words_in (step_code s a) + words_in (block_code s b) ≡ k + words_in
        (step_code s a ++ block_code s b) = omega (arith, l) in
        lb (k + words_in (step_code s a)) c words2 env2 st2 mem2 back kk q (omega (arith, l, ke))
        (stand_back g linked p end k (step_code s a) (block_code s b) st1) cs.1 (same.count ∙ len) at2 h2
        e2 store2
        (λ v st3 mem3 words3 r at3 h3 same3 e3 f3 store3. ret v st3 mem3 words3 r at3 h3
        (two_then words words2 words3 same same3) e3 f3 store3)
        (λ env3 st3 mem3 words3 r at3 h3 same3 en3 store3. on env3 st3 mem3 words3 r (at_is _ _ r e3 at3) h3
        (two_then words words2 words3 same same3) en3 store3))

    -- ---- conditions

    pub if_law : (e : Exp) (a b : Block) → Evals n e s.temps
        → Does n (block world (whole world) f a) (λ k. BlockCallsAt p.component s k a) (block_code s a)
        → Does n (block world (whole world) f b) (λ k. BlockCallsAt p.component s k b) (block_code s b)
        → Does n (stmt world (whole world) f (If e a b))
        (λ k. StepCallsAt p.component s k (If e a b)) (step_code s (If e a b))
    if_law e a b le la lb k c words env st mem back kk o ke st1 cs len at h en store ret on =
        tick_up g n c o
        (expr world (whole world) f env e
        (λ v. if values.is_zero v then block world (whole world) f b back kk env else block world
        (whole world) f a back kk env) st)
        (le env k (c + 200) words st mem
        (λ v. if values.is_zero v then block world (whole world) f b back kk env else block world
        (whole world) f a back kk env) o (stand_front g linked p end k (code s s.temps e) _ st1) cs.0 len
        at h en store after)
      where
        tail : Stand g linked p end (k + words_in (code s s.temps e))
            (goes_if (pos 6) G0 ∷ goes
            (pos (block_words a + 6)) ∷ label
            ∷ (block_code s a ++ (goes
            (pos (block_words b + 3)) ∷ label ∷ (block_code s b ++ (label ∷ [])))))
        tail = stand_back g linked p end k (code s s.temps e) _ st1

        tail2 : Stand g linked p end
            (k + words_in (code s s.temps e) + 3 + 3 + 0 + words_in (block_code s a))
            (goes (pos (block_words b + 3)) ∷ label ∷ (block_code s b ++ (label ∷ [])))
        tail2 = stand_back g linked p end (k + words_in (code s s.temps e) + 3 + 3 + 0) (block_code s a)
            _ tail.1.1.1

        size : words_in (step_code s (If e a b)) ≡ words_in (code s s.temps e) + 6 + words_in
            (block_code s a) + 3 + words_in (block_code s b)
        size =
            let l1 = words-append (code s s.temps e)
            (goes_if (pos 6) G0 ∷ goes
            (pos (block_words a + 6)) ∷ label
            ∷ (block_code s a ++ (goes
            (pos (block_words b + 3)) ∷ label ∷ (block_code s b ++ (label ∷ []))))) in
            let l2 = words-append (block_code s a)
            (goes (pos (block_words b + 3)) ∷ label ∷ (block_code s b ++ (label ∷ []))) in
            let l3 = words-append (block_code s b) (label ∷ []) in
            omega (arith, l1, l2, l3)

        after : (v : ℤ) (st2 : Store) (mem2 : ℕ → OWord) (words2 : List OWord) (q : OState)
            → At g linked p (k + words_in (code s s.temps e)) q → Inside words2 mem2 q
            → SameBelow s.temps words words2 → q.maps.regs.g0 ≡ Plain (Int v) → fits_64 v ≡ true
            → StoreIs st2 mem2
            → UpTo g ow.owes (used s.words top) n (c + 200) q
            ((if values.is_zero v then block world (whole world) f b back kk env else block world
            (whole world) f a back kk env) st2)
        after v st2 mem2 words2 q at2 h2 same ev fv store2 = by (values.is_zero v) refl
          where
            k1 : ℕ
            k1 = k + words_in (code s s.temps e)

            en2 : Env env words2
            en2 = same_env env words words2 same en

            same2 : SameBelow 2 words words2
            same2 = two_same words words2 same

            by : (z : Bool) → values.is_zero v ≡ z
                → UpTo g ow.owes (used s.words top) n (c + 200) q
                ((if values.is_zero v then block world (whole world) f b back kk env else block world
                (whole world) f a back kk env) st2)
            by true z =
                let m : Comp = block world (whole world) f b back kk env st2 in
                let to = k + words_in (code s s.temps e) + 3 + 3 + 0 + words_in (block_code s a) + 3 + 0 in
                let sa = block_size s a in
                let there : pos (k + words_in (code s s.temps e) + 3) +ℤ pos (block_words a + 6) ≡ pos
                (k + words_in (code s s.temps e) + 3 + 3 + 0 + words_in (block_code s a) + 3 + 0) =
                omega (arith, ints, sa) in
                let there1 : pos (k + words_in (code s s.temps e)) +ℤ pos 6 ≡ pos
                (k + words_in (code s s.temps e) + 6) = omega (arith, ints) in
                let in1 : k + words_in (code s s.temps e) + 6 < length p.component.code =
                omega (arith, size, ke, end_in) in
                let in2 : k + words_in (code s s.temps e) + 3 + 3 + 0 + words_in
                (block_code s a) + 3 + 0 < length p.component.code = omega (arith, size, ke, end_in) in
                let ends_at : k + words_in (code s s.temps e) + 3 + 3 + 0 + words_in
                (block_code s a) + 3 + 0 + words_in (block_code s b) ≡ k + words_in
                (step_code s (If e a b)) = omega (arith, size) in
                subst (UpTo g ow.owes (used s.words top) n (c + 200) q)
                (sym (ap (λ y. (if y then block world (whole world) f b back kk env else block world
                (whole world) f a back kk env) st2) z))
                (branch_stays g linked p ip s.words top fs words2 mem2 base
                (k + words_in (code s s.temps e))
                (k + words_in (code s s.temps e) + 6) (pos 6) there1 in1
                (upto g ow.owes (used s.words top) n m) (c + 200)
                (3 + c) v q tail.0 at2 h2 ev (zero_same v ∙ z) (λ q3 h3 at3 kept3.
                jump_law g linked p ip s.words top fs words2 mem2 base (k + words_in (code s s.temps e) + 3)
                to (pos (block_words a + 6)) there in2 (upto g ow.owes (used s.words top) n m) (3 + c) c q3
                tail.1.0 at3 h3
                (λ q4 h4 at4 kept4.
                lb to c words2 env st2 mem2 back kk q4 (omega (arith, size, ke))
                (stand_front g linked p end to (block_code s b) (label ∷ []) tail2.1.1) cs.2
                (same.count ∙ len) at4 h4 en2 store2
                (λ v st3 mem3 words3 r at3 h3 same3 e3 f3 store3. ret v st3 mem3 words3 r at3 h3
                (two_then words words2 words3 same2 same3) e3 f3 store3)
                (λ env3 st3 mem3 words3 r at3 h3 same3 en3 store3. on env3 st3 mem3 words3 r
                (at_is _ _ r ends_at at3) h3 (two_then words words2 words3 same2 same3) en3 store3))
                (omega arith)) (omega arith))
            by false z =
                let m : Comp = block world (whole world) f a back kk env st2 in
                let to = k + words_in (code s s.temps e) + 3 + 3 + 0 in
                let from = k + words_in (code s s.temps e) + 3 + 3 + 0 + words_in (block_code s a) in
                let there1 : pos (k + words_in (code s s.temps e)) +ℤ pos 6 ≡ pos
                (k + words_in (code s s.temps e) + 3 + 3 + 0) = omega (arith, ints) in
                let sb = block_size s b in
                let there2 : pos (k + words_in (code s s.temps e) + 3 + 3 + 0 + words_in (block_code s a))
                +ℤ
                pos (block_words b + 3) ≡ pos (k + words_in (step_code s (If e a b))) =
                omega (arith, ints, size, sb) in
                let in1 : k + words_in (code s s.temps e) + 3 + 3 + 0 < length p.component.code =
                omega (arith, size, ke, end_in) in
                let in2 : k + words_in (step_code s (If e a b)) < length p.component.code =
                omega (arith, ke, end_in) in
                subst (UpTo g ow.owes (used s.words top) n (c + 200) q)
                (sym (ap (λ y. (if y then block world (whole world) f b back kk env else block world
                (whole world) f a back kk env) st2) z))
                (branch_goes g linked p ip s.words top fs words2 mem2 base (k + words_in (code s s.temps e))
                to (pos 6) there1 in1 (upto g ow.owes (used s.words top) n m) (c + 200) (c + 3)
                v q tail.0 at2
                h2 ev (zero_same v ∙ z) (λ q3 h3 at3 kept3.
                la to (c + 3) words2 env st2 mem2 back kk q3 (omega (arith, size, ke))
                (stand_front g linked p end to (block_code s a) _ tail.1.1.1) cs.1 (same.count ∙ len) at3
                h3 en2 store2
                (λ v st3 mem3 words3 r at3 h3 same3 e3 f3 store3. spend g n c (c + 3) r (back v st3)
                (omega arith) (ret v st3 mem3 words3 r at3 h3 (two_then words words2 words3 same2 same3)
                e3 f3 store3))
                (λ env3 st3 mem3 words3 r at3 h3 same3 en3 store3.
                jump_law g linked p ip s.words top fs words3 mem3 base from
                (k + words_in (step_code s (If e a b))) (pos (block_words b + 3)) there2 in2
                (upto g ow.owes (used s.words top) n (kk env3 st3)) (c + 3) c r tail2.0 at3 h3
                (λ q4 h4 at4 kept4.
                on env3 st3 mem3 words3 q4 at4 h4
                (two_then words words2 words3 same2 same3) en3 store3) (omega arith))) (omega arith))

  -- ---- loops

  pub while_law : (e : Exp) (b : Block) (n : ℕ) → ((m : ℕ) → m ≤ n → Evals m e s.temps)
      → ((m : ℕ) → m ≤ n → Does m (block world (whole world) f b)
      (λ k. BlockCallsAt p.component s k b) (block_code s b))
      → Does n (stmt world (whole world) f (While e b))
      (λ k. StepCallsAt p.component s k (While e b)) (step_code s (While e b))
  while_law e b zero le lb k c words env st mem back kk o ke st1 cs len at h en store ret on =
      none_inside g c o (stmt world (whole world) f (While e b) back kk env st)
      (inside_here g linked p k o at)
  while_law e b (suc n) le lb k c words env st mem back kk o ke st1 cs len at h en store ret on =
      subst (UpTo g ow.owes (used s.words top) (suc n) c o)
      (sym ((recursive world).turns f e b back kk env st))
      (tick_up g (suc n) c o
      (expr world (whole world) f env e
      (λ v. if values.is_zero v then kk env else block world (whole world) f b back
      ((whole world).turn f e b back kk) env) st)
      (le (suc n) (omega arith) env (k + 0) (c + 200) words st mem
      (λ v. if values.is_zero v then kk env else block world (whole world) f b back
      ((whole world).turn f e b back kk) env) o
      (stand_front g linked p end (k + 0) (code s s.temps e) _ st1.1) cs.0 len
      (at_is k (k + 0) o (let z : k ≡ k + 0 = omega arith in z) at) h en store
      (after (while_law e b n (λ m lm. le m (omega (arith, lm))) (λ m lm. lb m (omega (arith, lm)))))))
    where
      tail : Stand g linked p end (k + 0 + words_in (code s s.temps e))
          (goes_if (pos 6) G0 ∷ goes
          (pos (block_words b + 6)) ∷ label
          ∷ (block_code s b ++ (goes (distance (exp_words e + 6 + block_words b) 0) ∷ label ∷ [])))
      tail = stand_back g linked p end (k + 0) (code s s.temps e) _ st1.1

      tail2 : Stand g linked p end
          (k + 0 + words_in (code s s.temps e) + 3 + 3 + 0 + words_in (block_code s b))
          (goes (distance (exp_words e + 6 + block_words b) 0) ∷ label ∷ [])
      tail2 = stand_back g linked p end (k + 0 + words_in (code s s.temps e) + 3 + 3 + 0) (block_code s b)
          _ tail.1.1.1

      size : words_in (step_code s (While e b)) ≡ words_in (code s s.temps e) + 6 + words_in
          (block_code s b) + 3
      size =
          let l1 = words-append (code s s.temps e)
          (goes_if (pos 6) G0 ∷ goes
          (pos (block_words b + 6)) ∷ label
          ∷ (block_code s b ++ (goes (distance (exp_words e + 6 + block_words b) 0) ∷ label ∷ []))) in
          let l2 = words-append (block_code s b)
          (goes (distance (exp_words e + 6 + block_words b) 0) ∷ label ∷ []) in
          omega (arith, l1, l2)

      after : Does n (stmt world (whole world) f (While e b))
          (λ k. StepCallsAt p.component s k (While e b)) (step_code s (While e b))
          → (v : ℤ) (st2 : Store) (mem2 : ℕ → OWord) (words2 : List OWord) (q : OState)
          → At g linked p (k + 0 + words_in (code s s.temps e)) q → Inside words2 mem2 q
          → SameBelow s.temps words words2 → q.maps.regs.g0 ≡ Plain (Int v) → fits_64 v ≡ true
          → StoreIs st2 mem2
          → UpTo g ow.owes (used s.words top) (suc n) (c + 200) q
          ((if values.is_zero v then kk env else block world (whole world) f b back
          ((whole world).turn f e b back kk) env) st2)
      after again v st2 mem2 words2 q at2 h2 same ev fv store2 = by (values.is_zero v) refl
        where
          en2 : Env env words2
          en2 = same_env env words words2 same en

          same2 : SameBelow 2 words words2
          same2 = two_same words words2 same

          by : (z : Bool) → values.is_zero v ≡ z
              → UpTo g ow.owes (used s.words top) (suc n) (c + 200) q
              ((if values.is_zero v then kk env else block world (whole world) f b back
              ((whole world).turn f e b back kk) env) st2)
          by true z =
              let from = k + 0 + words_in (code s s.temps e) in
              let to = k + words_in (step_code s (While e b)) in
              let there1 : pos (k + 0 + words_in (code s s.temps e)) +ℤ pos 6 ≡ pos
              (k + 0 + words_in (code s s.temps e) + 6) = omega (arith, ints) in
              let sb = block_size s b in
              let there2 : pos (k + 0 + words_in (code s s.temps e) + 3) +ℤ pos (block_words b + 6) ≡ pos
              (k + words_in (step_code s (While e b))) = omega (arith, ints, size, sb) in
              let in1 : k + 0 + words_in (code s s.temps e) + 6 < length p.component.code =
              omega (arith, size, ke, end_in) in
              let in2 : k + words_in (step_code s (While e b)) < length p.component.code =
              omega (arith, ke, end_in) in
              subst (UpTo g ow.owes (used s.words top) (suc n) (c + 200) q)
              (sym (ap (λ y. (if y then kk env else block world (whole world) f b back
              ((whole world).turn f e b back kk) env) st2) z))
              (branch_stays g linked p ip s.words top fs words2 mem2 base from
              (k + 0 + words_in (code s s.temps e) + 6) (pos 6) there1 in1
              (upto g ow.owes (used s.words top) (suc n) (kk env st2)) (c + 200) (3 + c) v q tail.0 at2
              h2 ev (zero_same v ∙ z) (λ q3 h3 at3 kept3.
              jump_law g linked p ip s.words top fs words2 mem2 base (from + 3) to (pos (block_words b + 6))
              there2 in2 (upto g ow.owes (used s.words top) (suc n) (kk env st2)) (3 + c) c q3
              tail.1.0 at3 h3
              (λ q4 h4 at4 kept4.
              on env st2 mem2 words2 q4 at4 h4 same2 en2 store2) (omega arith))
              (omega arith))
          by false z =
              let from = k + 0 + words_in (code s s.temps e) in
              let to = k + 0 + words_in (code s s.temps e) + 3 + 3 + 0 in
              let last = k + 0 + words_in (code s s.temps e) + 3 + 3 + 0 + words_in (block_code s b) in
              let turn : Next = (whole world).turn f e b back kk in
              let there1 : pos (k + 0 + words_in (code s s.temps e)) +ℤ pos 6 ≡ pos
              (k + 0 + words_in (code s s.temps e) + 3 + 3 + 0) = omega (arith, ints) in
              let sb = block_size s b in
              let se = exp_size s s.temps e in
              let there2 : pos (k + 0 + words_in (code s s.temps e) + 3 + 3 + 0 + words_in (block_code s b))
              +ℤ (pos 0 -ℤ pos (exp_words e + 6 + block_words b)) ≡ pos k = omega (arith, ints, sb, se) in
              let in1 : k + 0 + words_in (code s s.temps e) + 3 + 3 + 0 < length p.component.code =
              omega (arith, size, ke, end_in) in
              let in2 : k < length p.component.code = omega (arith, ke, end_in) in
              subst (UpTo g ow.owes (used s.words top) (suc n) (c + 200) q)
              (sym (ap (λ y. (if y then kk env else block world (whole world) f b back turn env) st2) z))
              (branch_goes g linked p ip s.words top fs words2 mem2 base from to (pos 6) there1 in1
              (upto g ow.owes (used s.words top) (suc n) (block world (whole world) f b back turn env st2))
              (c + 200) (c + 3)
              v q tail.0 at2 h2 ev (zero_same v ∙ z) (λ q3 h3 at3 kept3.
              lb (suc n) (omega arith) to (c + 3) words2 env st2 mem2 back turn q3 (omega (arith, size, ke))
              (stand_front g linked p end to (block_code s b) _ tail.1.1.1) cs.1 (same.count ∙ len) at3
              h3 en2 store2
              (λ v st3 mem3 words3 r at3 h3 same3 e3 f3 store3. spend g (suc n) c (c + 3) r
              (back v st3) (omega arith)
              (ret v st3 mem3 words3 r at3 h3 (two_then words words2 words3 same2 same3) e3 f3 store3))
              (λ env3 st3 mem3 words3 r at3 h3 same3 en3 store3.
              back_law g linked p ip s.words top fs words3 mem3 base last k
              (pos 0 -ℤ pos (exp_words e + 6 + block_words b)) there2 in2
              (upto g ow.owes (used s.words top) n (turn env3 st3))
              (upto g ow.owes (used s.words top) (suc n) (turn env3 st3))
              (λ w c2 o2 q2 k2 i2 same2 u2. go_on g n w c2 o2 q2 (turn env3 st3) k2 i2
              (λ x low h. clean_same g x low (used s.words top) o2 q2 same2 h) u2) (c + 3) c r tail2.0
              at3 h3 (λ q4 h4 at4 kept4.
              again k c words3 env3 st3 mem3 back kk q4 ke st1 cs (same3.count ∙ same.count ∙ len) at4
              h4 en3 store3
              (λ v st5 mem5 words5 r5 at5 h5 same5 e5 f5 store5. fewer g n c r5 (back v st5)
              (ret v st5 mem5 words5 r5 at5 h5
              (two_then words words3 words5 (two_then words words2 words3 same2 same3) same5) e5 f5
              store5))
              (λ env5 st5 mem5 words5 r5 at5 h5 same5 en5 store5. fewer g n c r5 (kk env5 st5)
              (on env5 st5 mem5 words5 r5 at5 h5
              (two_then words words3 words5 (two_then words words2 words3 same2 same3) same5) en5
              store5))) (omega arith))) (omega arith))
