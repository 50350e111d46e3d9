-- The arguments of a call: evaluated into slots, and loaded into registers.
use Rattle.std.proofs.Common.{Option, ◌≡◌, ◌≢◌, ◌⊎◌, inl, inr, ℕ, zero, suc, ◌+◌, ◌-◌, ◌*◌, ◌<◌, ◌≤◌, ℤ, pos}
use Rattle.std.proofs.Common.{◌+ℤ◌, ◌-ℤ◌, List, [], ◌∷◌, ◌++◌, length, Some, None, true, false, refl}
use Rattle.std.proofs.Common.{sym, ap, ◌∙◌, subst, arith, append_assoc, append-nil, length-append}
use Rattle.source_laws.proofs.AtWork.{AtWork, DataPair, Half, data_fits}
use Rattle.source_laws.proofs.Refined.{of_handle, of_args, pair_of, Comp, args, whole}
use Rattle.proc_semantics.specs.Marked.{CodeHalf, DataHalf}
use Rattle.source_laws.proofs.Variables.{AtPlace, EnvIn, PairAt, env_same, index_is}
use Rattle.source_laws.proofs.CallsIn.{int_public}
use Rattle.template_runs.proofs.Offers.{used, with_at, length-with_at, SameBelow, get_with}
use Rattle.template_runs.proofs.Offers.{get_other, At, Placed, next_pc, Here, Free, load_law, store_law}
use Rattle.template_runs.proofs.Offers.{loaded, with_reg, set_law, dat_law, load_data_law, Stand}
use Rattle.template_runs.proofs.Offers.{stand_front, stand_back, words-append, words_in, free_a0, free_a1}
use Rattle.template_runs.proofs.Offers.{free_a2, free_a3}
use Rattle.source_laws.proofs.Upto.{upto, UpTo, spend, tick_up}
use Rattle.std.specs.Prelude.{slice_get, drop, replicate}
use Rattle.std.proofs.lemmas.Int.{ints}
use Rattle.std.proofs.lemmas.Option.{slice_get_within}
use Rattle.cap_words.specs.declared.Word.{Word}
use Rattle.cap_words.specs.declared.Word.TheVariants.{Int, Mem}
use Rattle.cap_words.specs.Linear.{is_linear}
use Rattle.cap_words.specs.Face.{face_of}
use Rattle.cap_words.specs.Faces.{face_linear}
use Rattle.lcm_isa.specs.declared.Reg.{Reg}
use Rattle.lcm_isa.specs.declared.Reg.TheVariants.{Pc, Stk, Dat, G0, A0, A1, A2, A3}
use Rattle.lcm_isa.specs.declared.Operand.TheVariants.{Imm}
use Rattle.lcm_machine.specs.Places.{reg, set_reg}
use Rattle.lcm_machine.specs.Table.{fits_64}
use Rattle.lcm_machine.proofs.Offers.{reg-set_same, reg-set_other, set_goes}
use Rattle.call_sequence.specs.Holds.{data_cap, part_stack_cap}
use Rattle.overlay_machine.specs.declared.words.OWord.{OWord}
use Rattle.overlay_machine.specs.declared.words.OWord.TheVariants.{Plain}
use Rattle.overlay_machine.specs.Words.{look}
use Rattle.overlay_machine.specs.State.{OState}
use Rattle.overlay_machine.specs.Link.{ranges_of}
use Rattle.proc_semantics.specs.Values.{Store, pair_in}
use Rattle.proc_semantics.specs.declared.value.Pair.{Pair}
use Rattle.proc_program.specs.declared.program.Handle.{Handle}
use Rattle.proc_program.specs.declared.program.Handle.TheVariants.{Given, Own, Imported}
use Rattle.proc_program.specs.Program.{Exp, Args, no_args, value, pass}
use Rattle.proc_semantics.specs.declared.value.Value.{Value}
use Rattle.proc_semantics.specs.declared.value.Value.TheVariants.{Num, Closure, Other}
use Rattle.proc_program.specs.Limits.{arg_registers}
use Rattle.proc_templates.specs.Items.{zero_of}
use Rattle.proc_templates.specs.Templates.{code, load_slot, store_slot, load_linked, load_pair, load_args}
use Rattle.proc_templates.specs.Templates.{args_code, argument, arguments, zeros}
use Rattle.source_laws.specs.Fits.{HandleInside, PassFits, AsPair}
use Rattle.source_laws.proofs.CallSites.{ArgsCallsAt}
use Rattle.source_laws.proofs.Evals.{LawOf}
use Rattle.template_runs.specs.Public.{IsPublic}

-- ---- registers

abbrev pub Spare : Reg → Type 0
Spare d = (d ≢ Pc) × (d ≢ Stk) × (d ≢ Dat)

abbrev pub Apart : Reg → List Reg → Type 0
Apart d [] = Unit {0}
Apart d (r ∷ rs) = (d ≢ r) × Apart d rs

-- no other registers but these, pc, stk and data
abbrev pub Others : List Reg → OState → OState → Type 0
Others rs o q = (d : Reg) → Spare d → Apart d rs → reg q.maps.regs d ≡ reg o.maps.regs d

pub with_other : (o : OState) (r : Reg) (x : OWord) (nx : Word) (d : Reg) → d ≢ Pc → d ≢ r
    → reg (with_reg o r x nx).maps.regs d ≡ reg o.maps.regs d
with_other o r x nx d np ne = reg-set_other (set_reg o.maps.regs r x) Pc d (Plain nx) np
    ∙ reg-set_other o.maps.regs r d x ne

pub with_same : (o : OState) (r : Reg) (x : OWord) (nx : Word) → r ≢ Pc
    → reg (with_reg o r x nx).maps.regs r ≡ x
with_same o r x nx np = reg-set_other (set_reg o.maps.regs r x) Pc r (Plain nx) np
    ∙ reg-set_same o.maps.regs r x

pub argument_spare : (i : ℕ) → Spare (argument i)
argument_spare zero = ((λ e. cc), (λ e. cc), (λ e. cc))
argument_spare (suc zero) = ((λ e. cc), (λ e. cc), (λ e. cc))
argument_spare (suc (suc zero)) = ((λ e. cc), (λ e. cc), (λ e. cc))
argument_spare (suc (suc (suc zero))) = ((λ e. cc), (λ e. cc), (λ e. cc))
argument_spare (suc (suc (suc (suc i)))) = ((λ e. cc), (λ e. cc), (λ e. cc))

pub arguments_differ : (i j : ℕ) → j < i → i < 4 → argument j ≢ argument i
arguments_differ zero j lt le = absurd (omega (arith, lt))
arguments_differ (suc zero) zero lt le = λ e. cc
arguments_differ (suc zero) (suc j) lt le = absurd (omega (arith, lt))
arguments_differ (suc (suc zero)) zero lt le = λ e. cc
arguments_differ (suc (suc zero)) (suc zero) lt le = λ e. cc
arguments_differ (suc (suc zero)) (suc (suc j)) lt le = absurd (omega (arith, lt))
arguments_differ (suc (suc (suc zero))) zero lt le = λ e. cc
arguments_differ (suc (suc (suc zero))) (suc zero) lt le = λ e. cc
arguments_differ (suc (suc (suc zero))) (suc (suc zero)) lt le = λ e. cc
arguments_differ (suc (suc (suc zero))) (suc (suc (suc j))) lt le = absurd (omega (arith, lt))
arguments_differ (suc (suc (suc (suc i)))) j lt le = absurd (omega (arith, le))

-- words in the registers of arguments from the first on
abbrev pub Holding : List OWord → OState → Type 0
Holding ws o = (j : ℕ) (x : OWord) → slice_get ws j ≡ Some x → reg o.maps.regs (argument j) ≡ x

get_push : (ws : List OWord) (x y : OWord) (j : ℕ) → slice_get (ws ++ x ∷ []) j ≡ Some y
    → (slice_get ws j ≡ Some y) ⊎ ((j ≡ length ws) × (x ≡ y))
get_push [] x y zero e = inr (refl, (let s : x ≡ y = cc in s))
get_push [] x y (suc j) e = cc
get_push (w ∷ ws) x y zero e = inl e
get_push (w ∷ ws) x y (suc j) e =
    elim (get_push ws x y j e) as (λ _. (slice_get ws j ≡ Some y) ⊎ ((suc j ≡ length (w ∷ ws)) × (x ≡ y))) [
      | inl h ↦ inl h
      | inr h ↦ inr (ap suc h.0, h.1)
    ]

get_two : (ws : List OWord) (x y z : OWord) (j : ℕ) → slice_get (ws ++ x ∷ y ∷ []) j ≡ Some z
    → (slice_get ws j ≡ Some z) ⊎ (((j ≡ length ws) × (x ≡ z)) ⊎ ((j ≡ length ws + 1) × (y ≡ z)))
get_two [] x y z zero e = inr (inl (refl, (let s : x ≡ z = cc in s)))
get_two [] x y z (suc zero) e = inr (inr (refl, (let s : y ≡ z = cc in s)))
get_two [] x y z (suc (suc j)) e = cc
get_two (w ∷ ws) x y z zero e = inl e
get_two (w ∷ ws) x y z (suc j) e =
    elim (get_two ws x y z j e) as (λ _. (slice_get ws j ≡ Some z)
    ⊎ (((suc j ≡ length (w ∷ ws)) × (x ≡ z)) ⊎ ((suc j ≡ length (w ∷ ws) + 1) × (y ≡ z)))) [
      | inl h ↦ inl h
      | inr (inl h) ↦ inr (inl (ap suc h.0, h.1))
      | inr (inr h) ↦ inr (inr ((let k = h.0 in omega (arith, k)), h.1))
    ]

pub holding_push : (ws : List OWord) (x : OWord) (o q : OState) → length ws < 4 → Holding ws o
    → reg q.maps.regs (argument (length ws)) ≡ x → Others (argument (length ws) ∷ []) o q
    → Holding (ws ++ x ∷ []) q
holding_push ws x o q lt h e others j y is =
    elim (get_push ws x y j is) as (λ _. reg q.maps.regs (argument j) ≡ y) [
      | inl k ↦ others (argument j) (argument_spare j)
          (arguments_differ (length ws) j (slice_get_within ws j y k) lt, tt)
          ∙ h j y k
      | inr k ↦ ap (λ i. reg q.maps.regs (argument i)) k.0 ∙ e ∙ k.1
    ]

module _ (at_work : AtWork) where
  open at_work use {world, g, linked, StoreIs, work, IsPair}
  open work use {p, ip, failing, top, fs, ow, f, s, end, kinds, rests, globals}

  abbrev Inside : List OWord → (ℕ → OWord) → OState → Type 0
  Inside words mem o = Here g linked p s.words top words mem fs o

  abbrev Env : List Value → List OWord → Type 0
  Env = EnvIn kinds (AtPlace f.words IsPair)

  pub argument_free : (i : ℕ) → Free g linked (argument i)
  argument_free zero = free_a0 g linked
  argument_free (suc zero) = free_a1 g linked
  argument_free (suc (suc zero)) = free_a2 g linked
  argument_free (suc (suc (suc zero))) = free_a3 g linked
  argument_free (suc (suc (suc (suc i)))) = free_a3 g linked

  -- two words that are those that a handle's marks say
  abbrev pub Told : Handle → (Pair → OWord → OWord → Type 0) → Pair → OWord → OWord → Type 0
  Told h R r x y = R r x y × (of_handle world f h CodeHalf ≡ Some x) × (of_handle world f h DataHalf ≡ Some y)

  -- the pair of a handle is there
  abbrev pub PairThere : (Pair → OWord → OWord → Type 0) → List Value → (ℕ → OWord) → List OWord → Handle
      → Type 0
  PairThere Rel env mem words (Given i) = PairAt kinds (λ j. Rel) env words i
  PairThere Rel env mem words (Imported k) =
      DataPair p Rel mem (2 * k) (pair_of world f.home env (Imported k))
  PairThere Rel env mem words (Own j) =
      DataPair p Rel mem (2 * (s.imports + j)) (pair_of world f.home env (Own j))

  open at_work use {IsCalled, forget, halves, pairs}

  abbrev pub HandleThere : Handle → Type 0
  HandleThere = HandleInside kinds s.words s.temps globals.count pairs.imported pairs.owned pairs.shared

  abbrev pub PassThere : Handle → Type 0
  PassThere = PassFits kinds s.words s.temps globals.count pairs.imported pairs.owned pairs.shared

  -- ---- one word

  module _ (n c b : ℕ) (m : Comp) (words : List OWord) (mem : ℕ → OWord) where
    slot_law : (k j : ℕ) (r : Reg) (x : OWord) (o : OState) → Free g linked r → Spare r
        → Stand g linked p end k (load_slot s j r) → slice_get words j ≡ Some x → j < s.words
        → is_linear (look x) ≡ false → face_linear (face_of (look x)) ≡ false → At g linked p k o
        → Inside words mem o
        → ((q : OState) → Inside words mem q → At g linked p (k + 3) q → reg q.maps.regs r ≡ x
        → Others (r ∷ []) o q → UpTo g ow.owes (used s.words top) n b q m) → 3 + b ≤ c
        → UpTo g ow.owes (used s.words top) n c o m
    slot_law k j r x o free spare code1 got lt nl fl at h u le =
        load_law g linked p ip s.words top mem fs k (upto g ow.owes (used s.words top) n m) c b r
        free words j x o
        (code1.0, (code1.1.0, (code1.1.1.0, tt))) got lt nl fl at h (λ h1 at1.
        let e3 : k + 1 + 1 + 1 ≡ k + 3 = omega arith in
        let q = loaded g linked p ip s.words top mem fs k o h.at r (top - j) x in
        let n1 = next_pc g linked p k in
        let n2 = next_pc g linked p (k + 1) in
        let n3 = next_pc g linked p (k + 1 + 1) in
        let k1 = Plain (Mem (part_stack_cap (ranges_of p) top (pos (top - j)))) in
        let k3 = Plain (Mem (part_stack_cap (ranges_of p) top h.at)) in
        let t1 = with_reg o Stk k1 n1 in
        let t2 = with_reg t1 r x n2 in
        u q h1 (subst (λ y. At g linked p y q) e3 at1)
        (with_other t2 Stk k3 n3 r spare.0 spare.1 ∙ with_same t1 r x n2 spare.0)
        (λ d sp ap1. with_other t2 Stk k3 n3 d sp.0 sp.1 ∙ with_other t1 r x n2 d sp.0 ap1.0
        ∙ with_other o Stk k1 n1 d sp.0 sp.1)) le

    pub zero_law : (k : ℕ) (r : Reg) (o : OState) → Free g linked r → Spare r
        → Placed g linked p k (zero_of r) → At g linked p k o → Inside words mem o
        → ((q : OState) → Inside words mem q → At g linked p (k + 1) q
        → reg q.maps.regs r ≡ Plain (Int (pos 0)) → Others (r ∷ []) o q
        → UpTo g ow.owes (used s.words top) n b q m)
        → 1 + b ≤ c → UpTo g ow.owes (used s.words top) n c o m
    zero_law k r o free spare code1 at h u le =
        set_law g linked p ip s.words top fs k (upto g ow.owes (used s.words top) n m) c b words mem o
        (pos p.component.data_base) (zero_of r) r (Plain (Int (pos 0))) free refl code1 at
        h
        (set_goes look Plain r (pos 0) _ o.maps free.no_pc) (λ h1 at1.
        u (with_reg o r (Plain (Int (pos 0))) (next_pc g linked p k))
        h1 at1
        (with_same o r (Plain (Int (pos 0))) (next_pc g linked p k) spare.0)
        (λ d sp ap1. with_other o r (Plain (Int (pos 0))) (next_pc g linked p k) d sp.0 ap1.0)) le

  -- ---- a pair

  module _ (Rel : Pair → OWord → OWord → Type 0)
      (rel_halves : (r : Pair) (x y : OWord) → Rel r x y → Half x × Half y)
      (n c b : ℕ) (m : Comp) (words : List OWord) (mem : ℕ → OWord) where
    data_pair_law : (k at0 : ℕ) (r t : Reg) (pair : Pair) (o : OState) → r ≢ t → Free g linked r
        → Free g linked t → Spare r → Spare t → Stand g linked p end k (load_linked at0 r t)
        → DataPair p Rel mem at0 pair → At g linked p k o → Inside words mem o
        → ((x y : OWord) (q : OState) → Rel pair x y → Inside words mem q → At g linked p (k + 5) q
        → reg q.maps.regs r ≡ x → reg q.maps.regs t ≡ y → Others (r ∷ t ∷ []) o q
        → UpTo g ow.owes (used s.words top) n b q m) → 6 + b ≤ c → UpTo g ow.owes (used s.words top) n c o m
    data_pair_law k at0 r t pair o ne fr ft sr st1 code1 d at h u le =
        let base = p.component.data_base in
        let ins = d.inside in
        let in0 : at0 < length p.component.data_words = omega (arith, ins) in
        let fit0 = data_fits g linked p ip at0 (p.component.data_base + at0) in0 (omega arith) in
        let fit1 = data_fits g linked p ip (at0 + 1) (p.component.data_base + (at0 + 1)) ins (omega arith) in
        let fitb = data_fits g linked p ip at0 p.component.data_base in0 (omega arith) in
        let e1 : pos (p.component.data_base + at0) +ℤ pos 1 ≡ pos (p.component.data_base + (at0 + 1)) =
        omega (arith, ints) in
        let e2 : pos (p.component.data_base + (at0 + 1)) +ℤ (pos 0 -ℤ pos (at0 + 1)) ≡ pos
        p.component.data_base = omega (arith, ints) in
        let h1 = rel_halves pair d.first d.second d.is in
        let c0 = data_cap (ranges_of p) (pos (base + at0)) in
        let c1 = data_cap (ranges_of p) (pos (base + (at0 + 1))) in
        let n1 = next_pc g linked p k in
        let n2 = next_pc g linked p (k + 1) in
        let n3 = next_pc g linked p (k + 1 + 1) in
        let n4 = next_pc g linked p (k + 1 + 1 + 1) in
        let n5 = next_pc g linked p (k + 1 + 1 + 1 + 1) in
        let d1 = Plain (Mem (data_cap (ranges_of p) (pos (base + at0)))) in
        let d3 = Plain (Mem (data_cap (ranges_of p) (pos (base + (at0 + 1))))) in
        let d5 = Plain (Mem (data_cap (ranges_of p) (pos base))) in
        let s1 = with_reg o Dat (Plain (Mem (data_cap (ranges_of p) (pos (base + at0)))))
        (next_pc g linked p k) in
        let s2 = with_reg s1 r d.first (next_pc g linked p (k + 1)) in
        let s3 = with_reg s2 Dat (Plain (Mem (data_cap (ranges_of p) (pos (base + (at0 + 1))))))
        (next_pc g linked p (k + 1 + 1)) in
        let s4 = with_reg s3 t d.second (next_pc g linked p (k + 1 + 1 + 1)) in
        let s5 = with_reg s4 Dat (Plain (Mem (data_cap (ranges_of p) (pos base))))
        (next_pc g linked p (k + 1 + 1 + 1 + 1)) in
        let e5 : k + 1 + 1 + 1 + 1 + 1 ≡ k + 5 = omega arith in
        dat_law g linked p ip s.words top fs k (upto g ow.owes (used s.words top) n m) c (5 + b) words
        mem o (pos base)
        (pos at0) (pos (base + at0)) (Imm (pos at0)) code1.0 at
        h refl refl fit0 (λ a1 at1.
        load_data_law g linked p ip s.words top fs (k + 1) (upto g ow.owes (used s.words top) n m) (5 + b)
        (4 + b) words mem s1
        at0 r d.first fr code1.1.0 at1 a1 in0 d.stands h1.0.stays_whole h1.0.stays_face (λ a2 at2.
        dat_law g linked p ip s.words top fs (k + 1 + 1) (upto g ow.owes (used s.words top) n m) (4 + b)
        (3 + b) words mem s2
        (pos (base + at0)) (pos 1) (pos (base + (at0 + 1))) (Imm (pos 1)) code1.1.1.0 at2 a2 refl e1
        fit1 (λ a3 at3.
        load_data_law g linked p ip s.words top fs (k + 1 + 1 + 1) (upto g ow.owes (used s.words top) n m)
        (3 + b) (2 + b) words
        mem s3 (at0 + 1) t d.second ft code1.1.1.1.0 at3 a3 ins d.stands_too h1.1.stays_whole
        h1.1.stays_face (λ a4 at4.
        dat_law g linked p ip s.words top fs (k + 1 + 1 + 1 + 1) (upto g ow.owes (used s.words top) n m)
        (2 + b) b words mem s4
        (pos (base + (at0 + 1))) (pos 0 -ℤ pos (at0 + 1)) (pos base) (Imm (pos 0 -ℤ pos (at0 + 1)))
        code1.1.1.1.1.0 at4 a4 refl e2 fitb (λ a5 at5.
        u d.first d.second s5 d.is a5
        (subst (λ y. At g linked p y s5) e5 at5)
        (with_other s4 Dat d5 n5 r sr.0 sr.2 ∙ with_other s3 t d.second n4 r sr.0 ne
        ∙ with_other s2 Dat d3 n3 r sr.0 sr.2 ∙ with_same s1 r d.first n2 sr.0)
        (with_other s4 Dat d5 n5 t st1.0 st1.2 ∙ with_same s3 t d.second n4 st1.0)
        (λ x sp ap1. with_other s4 Dat d5 n5 x sp.0 sp.2 ∙ with_other s3 t d.second n4 x sp.0 ap1.1.0
        ∙ with_other s2 Dat d3 n3 x sp.0 sp.2 ∙ with_other s1 r d.first n2 x sp.0 ap1.0
        ∙ with_other o Dat d1 n1 x sp.0 sp.2)) (omega arith)) (omega arith)) (omega arith))
        (omega arith)) (omega (arith, le))

    module _ (env : List Value) (len : length words ≡ s.words) where
      loads_law : (h : Handle) (k : ℕ) (r t : Reg) (o : OState) → PairThere Rel env mem words h → r ≢ t
          → Free g linked r → Free g linked t → Spare r → Spare t
          → Stand g linked p end k (load_pair s h r t) → At g linked p k o → Inside words mem o
          → ((x y : OWord) (q : OState) → Rel (pair_of world f.home env h) x y → Inside words mem q
          → At g linked p (k + words_in (load_pair s h r t)) q → reg q.maps.regs r ≡ x
          → reg q.maps.regs t ≡ y → Others (r ∷ t ∷ []) o q
          → UpTo g ow.owes (used s.words top) n b q m) → 6 + b ≤ c
          → UpTo g ow.owes (used s.words top) n c o m
      loads_law (Imported j) k r t o d ne fr ft sr st1 code1 at h u le =
          data_pair_law k (2 * j) r t (pair_of world f.home env (Imported j)) o ne fr ft sr st1 code1 d at h
          u le
      loads_law (Own j) k r t o d ne fr ft sr st1 code1 at h u le =
          data_pair_law k (2 * (s.imports + j)) r t (pair_of world f.home env (Own j)) o ne fr ft sr st1
          code1 d at h u le
      loads_law (Given i) k r t o x ne fr ft sr st1 code1 at h u le =
          let hv = rel_halves x.pair x.first x.second x.is in
          let lt1 : i + 2 < length words = slice_get_within words (i + 2) x.first x.stands in
          let z : i + 2 + 1 ≡ i + 3 = omega arith in
          let too : slice_get words (i + 3) ≡ Some x.second =
          subst (λ y. slice_get words y ≡ Some x.second) z x.stands_too in
          let lt2 : i + 3 < length words = slice_get_within words (i + 3) x.second too in
          let is : pair_of world f.home env (Given i) ≡ x.pair =
          ap pair_in (index_is env i (Closure x.pair) Other x.meant) in
          let e6 : k + 3 + 3 ≡ k + words_in (load_pair s (Given i) r t) = omega arith in
          let back : Stand g linked p end (k + 3) (load_slot s (i + 3) t) =
          stand_back g linked p end k (load_slot s (i + 2) r) (load_slot s (i + 3) t) code1 in
          slot_law n c (3 + b) m words mem k (i + 2) r x.first o fr sr
          (stand_front g linked p end k (load_slot s (i + 2) r) (load_slot s (i + 3) t) code1) x.stands
          (omega (arith, lt1, len)) hv.0.stays_whole hv.0.stays_face at h (λ q1 h1 at1 r1 o1.
          slot_law n (3 + b) b m words mem (k + 3) (i + 3) t x.second q1 ft st1 back too
          (omega (arith, lt2, len)) hv.1.stays_whole hv.1.stays_face at1 h1 (λ q2 h2 at2 r2 o2.
          u x.first x.second q2 (subst (λ y. Rel y x.first x.second) (sym is) x.is) h2
          (subst (λ y. At g linked p y q2) e6 at2) (o2 r sr (ne, tt) ∙ r1) r2
          (λ d sp ap1. o2 d sp (ap1.1.0, tt) ∙ o1 d sp (ap1.0, tt))) (omega arith)) (omega (arith, le))

  module _ (n c b : ℕ) (m : Comp) (words : List OWord) (mem : ℕ → OWord) (st : Store) (env : List Value)
      (store : StoreIs st mem) (en : Env env words) (len : length words ≡ s.words) where
    given_there : (Rel : Pair → OWord → OWord → Type 0) (i : ℕ) → slice_get kinds i ≡ Some AsPair
        → ((r : Pair) (x y : OWord) → Told (Given i) IsPair r x y → Rel r x y)
        → PairThere Rel env mem words (Given i)
    given_there Rel i fit into =
        let x : PairAt kinds (AtPlace f.words IsPair) env words i = en.pairs i fit in
        record {
          pair = x.pair;
          first = x.first;
          second = x.second;
          meant = x.meant;
          stands = x.stands;
          stands_too = x.stands_too;
          is = into x.pair x.first x.second x.is;
        }

    called_there : (h : Handle) → HandleThere h → PairThere (Told h IsCalled) env mem words h
    called_there (Given i) fit =
        given_there (Told (Given i) IsCalled) i fit (λ r x y t. (forget r x y t.0, t.1, t.2))
    called_there (Imported k) fit =
        let d = pairs.from_imports st mem k env store fit in
        record {
          first = d.first;
          second = d.second;
          inside = d.inside;
          stands = d.stands;
          stands_too = d.stands_too;
          is = (forget _ d.first d.second d.is.0, d.is.1, d.is.2);
        }
    called_there (Own j) fit = pairs.from_own st mem j env store fit

    passed_there : (h : Handle) → PassThere h → PairThere (Told h IsPair) env mem words h
    passed_there (Given i) fit = given_there (Told (Given i) IsPair) i fit (λ r x y t. t)
    passed_there (Imported k) fit = pairs.from_imports st mem k env store fit
    passed_there (Own j) fit = pairs.from_shared st mem j env store fit.0 fit.1

    -- the pair of what is called, and of what is passed on
    pub pair_law : (h : Handle) (k : ℕ) (r t : Reg) (o : OState) → HandleThere h → r ≢ t → Free g linked r
        → Free g linked t → Spare r → Spare t → Stand g linked p end k (load_pair s h r t)
        → At g linked p k o → Inside words mem o
        → ((x y : OWord) (q : OState) → Told h IsCalled (pair_of world f.home env h) x y
        → Inside words mem q
        → At g linked p (k + words_in (load_pair s h r t)) q → reg q.maps.regs r ≡ x
        → reg q.maps.regs t ≡ y → Others (r ∷ t ∷ []) o q
        → UpTo g ow.owes (used s.words top) n b q m) → 6 + b ≤ c
        → UpTo g ow.owes (used s.words top) n c o m
    pair_law h k r t o fit =
        loads_law (Told h IsCalled) (λ r x y i. halves r x y i.0) n c b m words mem env len h k r t o
        (called_there h fit)

    passed_law : (h : Handle) (k : ℕ) (r t : Reg) (o : OState) → PassThere h → r ≢ t → Free g linked r
        → Free g linked t → Spare r → Spare t → Stand g linked p end k (load_pair s h r t)
        → At g linked p k o → Inside words mem o
        → ((x y : OWord) (q : OState) → Told h IsPair (pair_of world f.home env h) x y → Inside words mem q
        → At g linked p (k + words_in (load_pair s h r t)) q → reg q.maps.regs r ≡ x
        → reg q.maps.regs t ≡ y → Others (r ∷ t ∷ []) o q
        → UpTo g ow.owes (used s.words top) n b q m) → 6 + b ≤ c
        → UpTo g ow.owes (used s.words top) n c o m
    passed_law h k r t o fit = loads_law (Told h IsPair)
        (λ r x y i. halves r x y (forget r x y i.0)) n c b m words mem env len h k r t o
        (passed_there h fit)

  -- ---- values in slots and in registers

  -- values as the meaning has them, and their words
  pub data ValuesAre : List Value → List (Option OWord) → List OWord → Type 0 where
    no_values : ValuesAre [] [] []
    number_too : (v : ℤ) {vs : List Value} {ms : List (Option OWord)} {ws : List OWord} → fits_64 v ≡ true
        → ValuesAre vs ms ws → ValuesAre (Num v ∷ vs) (None ∷ ms) (Plain (Int v) ∷ ws)
    pair_too : (r : Pair) (x y : OWord) {vs : List Value} {ms : List (Option OWord)} {ws : List OWord}
        → IsPair r x y → ValuesAre vs ms ws
        → ValuesAre (Closure r ∷ Other ∷ vs) (Some x ∷ Some y ∷ ms) (x ∷ y ∷ ws)

  -- values of arguments, of which the numbers stand in the slots from one on
  abbrev pub ArgsIn : List Value → Args → List Value → ℕ → List OWord → Type 0
  ArgsIn env no_args vs j words = vs ≡ []
  ArgsIn env (value e xs) vs j words = (v : ℤ) × (rest : List Value) × (vs ≡ Num v ∷ rest)
      × (slice_get words j ≡ Some (Plain (Int v))) × (fits_64 v ≡ true) × ArgsIn env xs rest (j + 1) words
  ArgsIn env (pass h xs) vs j words = (rest : List Value)
      × (vs ≡ Closure (pair_of world f.home env h) ∷ Other ∷ rest) × ArgsIn env xs rest (j + 2) words

  abbrev pub HandlesFit : Args → Type 0
  HandlesFit no_args = Unit {0}
  HandlesFit (value e xs) = HandlesFit xs
  HandlesFit (pass h xs) = PassThere h × HandlesFit xs

  -- arguments are loaded after those that are there
  module _ (n : ℕ) (m : Comp) (words : List OWord) (mem : ℕ → OWord) (st : Store) (env : List Value)
      (store : StoreIs st mem) (en : Env env words) (len : length words ≡ s.words) where
    pub load_args_law : (xs : Args) (vs : List Value) (t i k c b : ℕ) (done : List OWord) (o : OState)
        → HandlesFit xs → i + arg_registers xs ≤ 4 → length done ≡ i → ArgsIn env xs vs (t + i) words
        → Stand g linked p end k (load_args s t i xs) → At g linked p k o → Inside words mem o
        → Holding done o
        → ((ws : List OWord) (q : OState) → ValuesAre vs (of_args world f xs) ws → length ws
        ≡ arg_registers xs
        → Inside words mem q → At g linked p (k + words_in (load_args s t i xs)) q
        → Holding (done ++ ws) q → UpTo g ow.owes (used s.words top) n b q m) → 3 * arg_registers xs + b ≤ c
        → UpTo g ow.owes (used s.words top) n c o m
    load_args_law no_args vs t i k c b done o fit few ld is code1 at h hd u le =
        let z : k ≡ k + 0 = omega arith in
        spend g n b c o m (omega (arith, le))
        (u [] o (subst (λ y. ValuesAre y [] []) (sym is) no_values) refl h
        (subst (λ y. At g linked p y o) z at) (subst (λ y. Holding y o) (sym (append-nil done)) hd))
    load_args_law (value e xs) vs t i k c b done o fit few ld is code1 at h hd u le =
        let v = is.0 in
        let lt : t + i < length words = slice_get_within words (t + i) (Plain (Int is.0)) is.3 in
        let small : length done < 4 = omega (arith, few, ld) in
        let te : t + i + 1 ≡ t + (i + 1) = omega arith in
        slot_law n c (3 * arg_registers xs + b) m words mem k (t + i) (argument i) (Plain (Int is.0)) o
        (argument_free i) (argument_spare i)
        (stand_front g linked p end k (load_slot s (t + i) (argument i)) (load_args s t (i + 1) xs)
        code1) is.3 (omega (arith, lt, len)) refl refl at h (λ q1 h1 at1 r1 o1.
        let hold : Holding (done ++ Plain (Int is.0) ∷ []) q1 =
        holding_push done (Plain (Int is.0)) o q1 small hd
        (subst (λ y. reg q1.maps.regs (argument y) ≡ Plain (Int is.0)) (sym ld) r1)
        (subst (λ y. Others (argument y ∷ []) o q1) (sym ld) o1) in
        let l1 = length-append done (Plain (Int is.0) ∷ []) in
        load_args_law xs is.1 t (i + 1) (k + 3) (3 * arg_registers xs + b) b (done ++ Plain (Int is.0) ∷ [])
        q1 fit (omega (arith, few)) (omega (arith, l1, ld))
        (subst (λ y. ArgsIn env xs is.1 y words) te is.5)
        (stand_back g linked p end k (load_slot s (t + i) (argument i)) (load_args s t (i + 1) xs)
        code1) at1 h1 hold (λ ws q vals lw h2 at2 hold2.
        let e2 : k + 3 + words_in (load_args s t (i + 1) xs) ≡ k + words_in (load_args s t i (value e xs)) =
        omega arith in
        u (Plain (Int is.0) ∷ ws) q
        (subst (λ y. ValuesAre y (of_args world f (value e xs)) (Plain (Int is.0) ∷ ws)) (sym is.2)
        (number_too is.0 is.4 vals))
        (omega (arith, lw)) h2 (subst (λ y. At g linked p y q) e2 at2)
        (subst (λ y. Holding y q) (append_assoc done (Plain (Int is.0) ∷ []) ws) hold2)) (omega arith))
        (omega (arith, le))
    load_args_law (pass hd1 xs) vs t i k c b done o fit few ld is code1 at h hd u le =
        let small : length done < 4 = omega (arith, few, ld) in
        let te : t + i + 2 ≡ t + (i + 2) = omega arith in
        let ne : argument (i + 1) ≢ argument i = arguments_differ' i (omega (arith, few)) in
        passed_law n c (3 * arg_registers xs + b) m words mem st env store en len hd1 k (argument i)
        (argument (i + 1)) o fit.0
        (λ e. ne (sym e)) (argument_free i) (argument_free (i + 1)) (argument_spare i)
        (argument_spare (i + 1))
        (stand_front g linked p end k (load_pair s hd1 (argument i) (argument (i + 1)))
        (load_args s t (i + 2) xs) code1) at h (λ x y q1 pr h1 at1 r1 t1 o1.
        let l1 = length-append done (x ∷ []) in
        let hold : Holding (done ++ x ∷ y ∷ []) q1 =
        holding_two done x y i o q1 ld (omega (arith, few)) hd r1 t1 o1 in
        let l2 = length-append done (x ∷ y ∷ []) in
        load_args_law xs is.0 t (i + 2) (k + words_in (load_pair s hd1 (argument i) (argument (i + 1))))
        (3 * arg_registers xs + b) b (done ++ x ∷ y ∷ []) q1 fit.1 (omega (arith, few))
        (omega (arith, l2, ld)) (subst (λ y. ArgsIn env xs is.0 y words) te is.2)
        (stand_back g linked p end k (load_pair s hd1 (argument i) (argument (i + 1)))
        (load_args s t (i + 2) xs) code1) at1 h1 hold (λ ws q vals lw h2 at2 hold2.
        let wa = words-append (load_pair s hd1 (argument i) (argument (i + 1)))
        (load_args s t (i + 2) xs) in
        let e2 : k + words_in (load_pair s hd1 (argument i) (argument (i + 1))) + words_in
        (load_args s t (i + 2) xs) ≡ k + words_in (load_args s t i (pass hd1 xs)) = omega (arith, wa) in
        u (x ∷ y ∷ ws) q (subst
        (λ z. ValuesAre z (of_args world f (pass hd1 xs)) (x ∷ y ∷ ws)) (sym is.1)
        (subst (λ z. ValuesAre (Closure (pair_of world f.home env hd1) ∷ Other ∷ is.0)
        (z ∷ of_handle world f hd1 DataHalf ∷ of_args world f xs) (x ∷ y ∷ ws)) (sym pr.1)
        (subst (λ z. ValuesAre (Closure (pair_of world f.home env hd1) ∷ Other ∷ is.0)
        (Some x ∷ z ∷ of_args world f xs) (x ∷ y ∷ ws)) (sym pr.2)
        (pair_too (pair_of world f.home env hd1) x y pr.0 vals)))) (omega (arith, lw)) h2
        (subst (λ y. At g linked p y q) e2 at2)
        (subst (λ y. Holding y q) (append_assoc done (x ∷ y ∷ []) ws) hold2)) (omega arith))
        (omega (arith, le))
      where
        arguments_differ' : (i : ℕ) → i + 1 < 4 → argument (i + 1) ≢ argument i
        arguments_differ' i lt e = arguments_differ (i + 1) i (omega arith) lt (sym e)

        holding_two : (ws : List OWord) (x y : OWord) (i : ℕ) (o q : OState) → length ws ≡ i → i + 2 ≤ 4
            → Holding ws o → reg q.maps.regs (argument i) ≡ x → reg q.maps.regs (argument (i + 1)) ≡ y
            → Others (argument i ∷ argument (i + 1) ∷ []) o q → Holding (ws ++ x ∷ y ∷ []) q
        holding_two ws x y i o q ld le h ex ey others j z is =
            elim (get_two ws x y z j is) as (λ _. reg q.maps.regs (argument j) ≡ z) [
              | inl k ↦ (let lj = slice_get_within ws j z k in
                  others (argument j) (argument_spare j) (
                    arguments_differ i j (omega (arith, lj, ld)) (omega (arith, le)),
                    (arguments_differ (i + 1) j (omega (arith, lj, ld)) (omega (arith, le)), tt),
                  ) ∙ h j z k)
              | inr (inl k) ↦ ap (λ i. reg q.maps.regs (argument i)) (k.0 ∙ ld) ∙ ex ∙ k.1
              | inr (inr k) ↦ (let z1 : length ws + 1 ≡ i + 1 = omega (arith, ld) in
                  ap (λ i. reg q.maps.regs (argument i)) (k.0 ∙ z1) ∙ ey ∙ k.1)
            ]

  -- ---- arguments are evaluated, one by one

  -- an argument list from a register on, with an expression's laws at hand
  abbrev pub ArgsOf : ℕ → List Value → Args → ℕ → ℕ → Type 0
  ArgsOf n env xs t i =
      (k c : ℕ) (words : List OWord) (st : Store) (mem : ℕ → OWord) (kk : List Value → Store → Comp)
      (o : OState) → Stand g linked p end k (args_code s t i xs) → ArgsCallsAt p.component s k t i xs
      → length words ≡ s.words → At g linked p k o → Inside words mem o → Env env words → StoreIs st mem
      → ((vs : List Value) (st' : Store) (mem' : ℕ → OWord) (words' : List OWord) (q : OState)
      → At g linked p (k + words_in (args_code s t i xs)) q → Inside words' mem' q
      → SameBelow (t + i) words words' → ArgsIn env xs vs (t + i) words' → StoreIs st' mem'
      → UpTo g ow.owes (used s.words top) n c q (kk vs st'))
      → UpTo g ow.owes (used s.words top) n (c + 3 * arg_registers xs) o
      (args world (whole world) f env xs kk st)

  module _ (n : ℕ) (env : List Value) (t : ℕ) (lo : 2 + length kinds ≤ t) where
    pub no_args_law : (i : ℕ) → ArgsOf n env no_args t i
    no_args_law i k c words st mem kk o code1 cs len at h en store u =
        let z : k ≡ k + 0 = omega arith in
        spend g n c (c + 3 * 0) o (kk [] st) (omega arith)
        (u [] st mem words o (subst (λ y. At g linked p y o) z at) h
        (record { count = refl; each = λ j lt. refl }) refl store)

    pub value_law : (e : Exp) (xs : Args) (i : ℕ) → t + i < s.words
        → LawOf at_work n env e
        (code s (t + i) e) (t + i) → ArgsOf n env xs t (i + 1) → ArgsOf n env (value e xs) t i
    value_law e xs i lt le lx k c words st mem kk o code1 cs len at h en store u =
        le k (c + 3 * arg_registers (value e xs)) words st mem
        (λ v. args world (whole world) f env xs (λ vs. kk (Num v ∷ vs))) o
        (stand_front g linked p end k (code s (t + i) e) _ code1) cs.0 len at h en store after
      where
        tail : Stand g linked p end (k + words_in (code s (t + i) e))
            (store_slot s (t + i) G0 ++ args_code s t (i + 1) xs)
        tail = stand_back g linked p end k (code s (t + i) e) _ code1

        after : (v : ℤ) (st1 : Store) (mem1 : ℕ → OWord) (words1 : List OWord) (q : OState)
            → At g linked p (k + words_in (code s (t + i) e)) q → Inside words1 mem1 q
            → SameBelow (t + i) words words1 → q.maps.regs.g0 ≡ Plain (Int v) → fits_64 v ≡ true
            → StoreIs st1 mem1
            → UpTo g ow.owes (used s.words top) n (c + 3 * arg_registers (value e xs)) q
            (args world (whole world) f env xs (λ vs. kk (Num v ∷ vs)) st1)
        after v st1 mem1 words1 q at1 h1 same ev fv store1 =
            let k1 = k + words_in (code s (t + i) e) in
            let cnt = same.count in
            let lt1 : t + i < length words1 = omega (arith, lt, cnt, len) in
            let lw = length-with_at words1 (t + i) (reg q.maps.regs G0) in
            let words2 = with_at words1 (t + i) (reg q.maps.regs G0) in
            let same2 : SameBelow (t + i) words (with_at words1 (t + i) (reg q.maps.regs G0)) =
            record {
              count = lw ∙ cnt;
              each = λ j lj. get_other words1 (t + i) j (reg q.maps.regs G0) lj
                  ∙ same.each j lj;
            } in
            let te : t + i + 1 ≡ t + (i + 1) = omega arith in
            let wa = words-append (code s (t + i) e)
            (store_slot s (t + i) G0 ++ args_code s t (i + 1) xs) in
            let e2 : k + words_in (code s (t + i) e) + 1 + 1 + 1 + words_in
            (args_code s t (i + 1) xs) ≡ k + words_in (args_code s t i (value e xs)) =
            omega (arith, wa) in
            store_law g linked p ip s.words top mem1 fs k1
            (upto g ow.owes (used s.words top) n
            (args world (whole world) f env xs (λ vs. kk (Num v ∷ vs)) st1))
            (c + 3 * arg_registers (value e xs)) (c + 3 * arg_registers xs) G0 words1 (t + i) q
            (tail.0, (tail.1.0, (tail.1.1.0, tt))) lt1 refl (ap (λ z. is_linear (look z)) ev)
            (subst (IsPublic g) (sym ev) (int_public g v))
            (λ free. (omega (arith, lt1, cnt, len), omega arith)) at1 h1 (λ h2 at2.
            lx (k1 + 1 + 1 + 1) c words2 st1 mem1
            (λ vs. kk (Num v ∷ vs)) _ tail.1.1.1 cs.1 (lw ∙ cnt ∙ len) at2 h2
            (env_same kinds (AtPlace f.words IsPair) rests env words _ (t + i) (omega (arith, lo))
            same2 en) store1
            (λ vs st3 mem3 words3 q3 at3 h3 same3 is3 store3.
            let got : slice_get words3 (t + i) ≡ Some (Plain (Int v)) = same3.each (t + i) (omega arith)
            ∙ get_with words1 (t + i) (reg q.maps.regs G0) lt1 ∙ ap Some ev in
            let cnt3 = same3.count in
            u (Num v ∷ vs) st3 mem3 words3 q3 (subst (λ y. At g linked p y q3) e2 at3) h3
            (record {
              count = cnt3 ∙ lw ∙ cnt;
              each = λ j lj. same3.each j (omega (arith, lj))
                  ∙ get_other words1 (t + i) j (reg q.maps.regs G0) lj ∙ same.each j lj;
            })
            (v, vs, refl, got, fv, subst (λ y. ArgsIn env xs vs y words3) (sym te) is3) store3))
            (omega arith)

    pub pass_law : (hd : Handle) (xs : Args) (i : ℕ) → ArgsOf n env xs t (i + 2)
        → ArgsOf n env (pass hd xs) t i
    pass_law hd xs i lx k c words st mem kk o code1 cs len at h en store u =
        let te : t + i + 2 ≡ t + (i + 2) = omega arith in
        tick_up g n (c + 3 * arg_registers (pass hd xs)) o
        (args world (whole world) f env xs
        (λ vs. kk (Closure (pair_of world f.home env hd) ∷ Other ∷ vs)) st)
        (spend g n (c + 3 * arg_registers xs) (c + 3 * arg_registers (pass hd xs) + 200) o
        _ (omega arith)
        (lx k c words st mem
        (λ vs. kk (Closure (pair_of world f.home env hd) ∷ Other ∷ vs)) o code1 cs len at h en store
        (λ vs st3 mem3 words3 q3 at3 h3 same3 is3 store3.
        u (Closure (pair_of world f.home env hd) ∷ Other ∷ vs) st3 mem3 words3 q3 at3 h3
        (record { count = same3.count; each = λ j lj. same3.each j (omega (arith, lj)) })
        (vs, refl, subst (λ y. ArgsIn env xs vs y words3) (sym te) is3) store3)))

  -- ---- registers that no argument is for

  pub zeros_law : (n i c b : ℕ) (m : Comp) (words : List OWord) (mem : ℕ → OWord) (rs : List Reg) (k : ℕ)
      (done : List OWord) (o : OState) → rs ≡ drop i arguments → length done ≡ i → i ≤ 4
      → Stand g linked p end k (zeros rs) → At g linked p k o → Inside words mem o → Holding done o
      → ((zs : List OWord) (q : OState) → zs ≡ replicate (4 - i) (Plain (Int (pos 0))) → Inside words mem q
      → At g linked p (k + words_in (zeros rs)) q → Holding (done ++ zs) q
      → UpTo g ow.owes (used s.words top) n b q m)
      → 4 - i + b ≤ c → UpTo g ow.owes (used s.words top) n c o m
  zeros_law n i c b m words mem [] k done o is ld le code1 at h hd u lt =
      let z : k ≡ k + 0 = omega arith in
      spend g n b c o m (omega (arith, lt))
      (u [] o (none_left i le is) h (subst (λ y. At g linked p y o) z at)
      (subst (λ y. Holding y o) (sym (append-nil done)) hd))
    where
      none_left : (i : ℕ) → i ≤ 4 → [] ≡ drop i arguments → [] ≡ replicate (4 - i) (Plain (Int (pos 0)))
      none_left zero le e = cc
      none_left (suc zero) le e = cc
      none_left (suc (suc zero)) le e = cc
      none_left (suc (suc (suc zero))) le e = cc
      none_left (suc (suc (suc (suc zero)))) le e = refl
      none_left (suc (suc (suc (suc (suc i))))) le e = absurd (omega (arith, le))
  zeros_law n i c b m words mem (r ∷ rs) k done o is ld le code1 at h hd u lt =
      let f1 = first_is i r rs le is in
      let free = subst (Free g linked) (sym f1.0) (argument_free i) in
      let spare = subst Spare (sym f1.0) (argument_spare i) in
      let less : length done < 4 = (let k = f1.2 in omega (arith, ld, k)) in
      let l1 = length-append done (Plain (Int (pos 0)) ∷ []) in
      let few = f1.2 in
      zero_law n c (4 - (i + 1) + b) m words mem k r o free spare code1.0 at h (λ q1 h1 at1 r1 o1.
      let hold : Holding (done ++ Plain (Int (pos 0)) ∷ []) q1 =
      holding_push done (Plain (Int (pos 0))) o q1 less hd
      (subst (λ y. reg q1.maps.regs y ≡ Plain (Int (pos 0))) (f1.0 ∙ ap argument (sym ld)) r1)
      (subst (λ y. Others (y ∷ []) o q1) (f1.0 ∙ ap argument (sym ld)) o1) in
      zeros_law n (i + 1) (4 - (i + 1) + b) b m words mem rs (k + 1) (done ++ Plain (Int (pos 0)) ∷ []) q1
      f1.1 (omega (arith, l1, ld)) (omega (arith, few)) code1.1 at1 h1 hold (λ zs q zis h2 at2 hold2.
      let e2 : k + 1 + words_in (zeros rs) ≡ k + words_in (zeros (r ∷ rs)) = omega arith in
      let n1 : suc (4 - (i + 1)) ≡ 4 - i = omega (arith, few) in
      u (Plain (Int (pos 0)) ∷ zs) q
      (ap (λ y. Plain (Int (pos 0)) ∷ y) zis ∙ ap (λ y. replicate y (Plain (Int (pos 0)))) n1) h2
      (subst (λ y. At g linked p y q) e2 at2)
      (subst (λ y. Holding y q) (append_assoc done (Plain (Int (pos 0)) ∷ []) zs) hold2)) (omega arith))
      (omega (arith, lt, few))
    where
      first_is : (i : ℕ) (r : Reg) (rs : List Reg) → i ≤ 4 → r ∷ rs ≡ drop i arguments → (r ≡ argument i)
          × (rs ≡ drop (i + 1) arguments) × (i < 4)
      first_is zero r rs le e =
          ((let z : r ≡ A0 = cc in z), (let z : rs ≡ A1 ∷ A2 ∷ A3 ∷ [] = cc in z), omega arith)
      first_is (suc zero) r rs le e =
          ((let z : r ≡ A1 = cc in z), (let z : rs ≡ A2 ∷ A3 ∷ [] = cc in z), omega arith)
      first_is (suc (suc zero)) r rs le e =
          ((let z : r ≡ A2 = cc in z), (let z : rs ≡ A3 ∷ [] = cc in z), omega arith)
      first_is (suc (suc (suc zero))) r rs le e =
          ((let z : r ≡ A3 = cc in z), (let z : rs ≡ [] = cc in z), omega arith)
      first_is (suc (suc (suc (suc zero)))) r rs le e = cc
      first_is (suc (suc (suc (suc (suc i))))) r rs le e = absurd (omega (arith, le))
