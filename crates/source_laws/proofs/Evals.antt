-- Expressions other than calls: their values come into g0.
use Rattle.source_laws.proofs.AtWork.{AtWork, data_fits}
use Rattle.source_laws.proofs.Variables.{AtPlace, EnvIn, NumberAt, env_same, index_is}
use Rattle.source_laws.proofs.CallsIn.{int_public}
use Rattle.template_runs.proofs.Offers.{used, with_at, length-with_at, SameBelow, get_with}
use Rattle.template_runs.proofs.Offers.{get_other, At, next_pc, Here, load_law, store_law, loaded, with_reg}
use Rattle.template_runs.proofs.Offers.{set_law, dat_law, load_data_law, Stand, stand_front, stand_back}
use Rattle.template_runs.proofs.Offers.{words-append, words_in, free_g0, free_g1, from_element}
use Rattle.source_laws.proofs.Upto.{upto, UpTo, tick_up}
use Rattle.std.proofs.Common.{◌≡◌, ℕ, ◌+◌, ◌-◌, ◌<◌, ◌≤◌, ℤ, pos, ◌+ℤ◌, ◌-ℤ◌, List, [], ◌∷◌, ◌++◌, length}
use Rattle.std.proofs.Common.{Some, true, refl, sym, ap, ◌∙◌, subst, arith}
use Rattle.std.specs.Prelude.{slice_get}
use Rattle.std.proofs.lemmas.Int.{ints}
use Rattle.cap_words.specs.declared.Word.TheVariants.{Int, Mem}
use Rattle.cap_words.specs.Linear.{is_linear}
use Rattle.lcm_isa.specs.declared.Reg.TheVariants.{Dat, G0, G1}
use Rattle.lcm_isa.specs.declared.Operand.TheVariants.{R as InReg, Imm}
use Rattle.lcm_isa.specs.declared.Instr.TheVariants.{Move, Load}
use Rattle.lcm_machine.specs.declared.Place.TheVariants.{R}
use Rattle.lcm_machine.specs.Places.{reg}
use Rattle.lcm_machine.specs.Table.{fits_64}
use Rattle.lcm_machine.proofs.Offers.{stays, set_goes, move_goes}
use Rattle.call_sequence.specs.Holds.{data_cap}
use Rattle.overlay_machine.specs.declared.words.OWord.{OWord}
use Rattle.overlay_machine.specs.declared.words.OWord.TheVariants.{Plain}
use Rattle.overlay_machine.specs.Words.{look}
use Rattle.overlay_machine.specs.State.{OState}
use Rattle.overlay_machine.specs.Link.{ranges_of}
use Rattle.proc_program.specs.Program as run
use Rattle.source_laws.proofs.Refined.{Comp, tick, Then, expr, operated, element, whole}
use Rattle.proc_semantics.specs.Values.{Store, variable, number_in, global_word}
use Rattle.proc_program.specs.declared.program.Location.TheVariants.{Local, Global}
use Rattle.proc_program.specs.declared.program.Array.{Array}
use Rattle.proc_language.specs.declared.tree.Op.{Op}
use Rattle.proc_program.specs.Program.{Exp, Number, Element, Binary}
use Rattle.proc_semantics.specs.declared.value.Value.{Value}
use Rattle.proc_semantics.specs.declared.value.Value.TheVariants.{Num, Other}
use Rattle.proc_templates.specs.Items.{Item, does}
use Rattle.proc_templates.specs.Templates.{code, at_row, op_code, load_slot, store_slot}
use Rattle.source_laws.proofs.CallSites.{CallsAt}
use Rattle.source_laws.specs.Fits.{AsNumber}
use Rattle.source_laws.proofs.ValueRows.{index_law, operator_law, reach_law}
use Rattle.template_runs.specs.Public.{IsPublic}

module _ (at_work : AtWork) where
  open at_work use {world, g, linked, StoreIs, work, IsPair}
  open work use {p, ip, failing, top, fs, ow, f, s, end, kinds, rests, globals}

  abbrev pub In : List OWord → (ℕ → OWord) → OState → Type 0
  In words mem o = Here g linked p s.words top words mem fs o

  abbrev pub EnvAt : List Value → List OWord → Type 0
  EnvAt = EnvIn kinds (AtPlace f.words IsPair)

  -- an expression's words, from its first to the one after it, where t is the first free slot
  abbrev pub LawOf : ℕ → List Value → Exp → List Item → ℕ → Type 0
  LawOf n env e xs t =
      (k c : ℕ) (words : List OWord) (st : Store) (mem : ℕ → OWord) (kk : Then) (o : OState)
      → Stand g linked p end k xs → CallsAt p.component s k t e → length words ≡ s.words
      → At g linked p k o → In words mem o → EnvAt env words → StoreIs st mem
      → ((v : ℤ) (st' : Store) (mem' : ℕ → OWord) (words' : List OWord) (q : OState)
      → At g linked p (k + words_in xs) q → In words' mem' q → SameBelow t words words'
      → q.maps.regs.g0 ≡ Plain (Int v) → fits_64 v ≡ true → StoreIs st' mem'
      → UpTo g ow.owes (used s.words top) n c q (kk v st'))
      → UpTo g ow.owes (used s.words top) n c o (expr world (whole world) f env e kk st)

  abbrev last_words : ℕ → Op → List Item
  last_words t r = does (Move G1 (InReg G0)) ∷ (load_slot s t G0 ++ op_code r)

  pub same_below : (t : ℕ) (words : List OWord) → SameBelow t words words
  same_below t words = record { count = refl; each = λ i lt. refl }

  pub same_then : (t : ℕ) (a b c : List OWord) → SameBelow t a b → SameBelow t b c → SameBelow t a c
  same_then t a b c h k = record { count = k.count ∙ h.count; each = λ i lt. k.each i lt ∙ h.each i lt }

  pub same_less : (t u : ℕ) (a b : List OWord) → t ≤ u → SameBelow u a b → SameBelow t a b
  same_less t u a b le h = record { count = h.count; each = λ i lt. h.each i (omega (arith, lt, le)) }

  pub same_with : (t : ℕ) (words : List OWord) (x : OWord) → SameBelow t words (with_at words t x)
  same_with t words x = record { count = length-with_at words t x; each = λ i lt. get_other words t i x lt }

  module _ (n : ℕ) (env : List Value) where
    pub number_law : (v t : ℕ) → fits_64 (pos v) ≡ true → LawOf n env (Number v) (code s t (Number v)) t
    number_law v t fit k c words st mem kk o st1 cs len at h e store u =
        tick_up g n c o (kk (pos v) st)
        (set_law g linked p ip s.words top fs k (upto g ow.owes (used s.words top) n (kk (pos v) st))
        (c + 200) c words mem o
        (pos p.component.data_base) (Move G0 (Imm (pos v))) G0 (Plain (Int (pos v))) (free_g0 g linked)
        refl st1.0 at h
        (set_goes look Plain G0 (pos v) _ o.maps refl)
        (λ h1 at1. u (pos v) st mem words _ at1 h1
        (same_below t words) refl fit store) (omega arith))

    pub local_law : (i t : ℕ) → slice_get kinds i ≡ Some AsNumber → i + 2 < s.words
        → LawOf n env (run.Load (Local i)) (code s t (run.Load (Local i))) t
    local_law i t ki room k c words st mem kk o st1 cs len at h e store u =
        let x : NumberAt kinds (AtPlace f.words IsPair) env words i = e.numbers i ki in
        let e3 : k + 1 + 1 + 1 ≡ k + 3 = omega arith in
        let is : variable f.home env st (Local i) ≡ x.number =
        ap number_in (index_is env i (Num x.number) Other x.meant) in
        subst (UpTo g ow.owes (used s.words top) n c o) (ap (λ v. tick (kk v st)) (sym is))
        (tick_up g n c o (kk x.number st)
        (load_law g linked p ip s.words top mem fs k (upto g ow.owes (used s.words top) n (kk x.number st))
        (c + 200) c G0
        (free_g0 g linked) words (i + 2) (Plain (Int x.number)) o (st1.0, (st1.1.0, (st1.1.1.0, tt)))
        x.stands room refl refl at h
        (λ h1 at1. u x.number st mem words
        _ (subst (λ j. At g linked p j
        (loaded g linked p ip s.words top mem fs k o h.at G0 (top - (i + 2)) (Plain (Int x.number)))) e3
        at1) h1 (same_below t words) refl x.fits store) (omega arith)))

    pub global_law : (d t : ℕ) → d < globals.count
        → LawOf n env (run.Load (Global d)) (code s t (run.Load (Global d))) t
    global_law d t lt k c words st mem kk o st1 cs len at h e store u =
        let room = globals.room in
        let v = global_word st f.home d in
        let m : Comp = kk v st in
        let a = p.component.data_base + (s.pairs + d) in
        let in_data : s.pairs + d < length p.component.data_words = omega (arith, room, lt) in
        let fit_a = data_fits g linked p ip (s.pairs + d) a in_data (omega arith) in
        let fit_b = data_fits g linked p ip (s.pairs + d) p.component.data_base in_data (omega arith) in
        let back : pos (p.component.data_base + (s.pairs + d)) +ℤ (pos 0 -ℤ pos (s.pairs + d)) ≡ pos
        p.component.data_base = omega (arith, ints) in
        let is : mem (p.component.data_base + (s.pairs + d)) ≡ Plain (Int (global_word st f.home d)) =
        globals.reads st mem d store lt in
        let s1 = with_reg o Dat (Plain (Mem (data_cap (ranges_of p) (pos a)))) (next_pc g linked p k) in
        let s2 = with_reg s1 G0 (Plain (Int (global_word st f.home d))) (next_pc g linked p (k + 1)) in
        let e3 : k + 1 + 1 + 1 ≡ k + 3 = omega arith in
        let le1 : 1 + (2 + c) ≤ c + 200 = omega arith in
        let le2 : 1 + (1 + c) ≤ 2 + c = omega arith in
        let le3 : 1 + c ≤ 1 + c = omega arith in
        tick_up g n c o m
        (dat_law g linked p ip s.words top fs k (upto g ow.owes (used s.words top) n m) (c + 200)
        (2 + c) words mem o
        (pos p.component.data_base) (pos (s.pairs + d)) (pos (p.component.data_base + (s.pairs + d)))
        (Imm (pos (s.pairs + d))) st1.0 at h refl refl
        fit_a (λ h1 at1.
        load_data_law g linked p ip s.words top fs (k + 1) (upto g ow.owes (used s.words top) n m) (2 + c)
        (1 + c) words mem s1
        (s.pairs + d) G0 (Plain (Int (global_word st f.home d))) (free_g0 g linked) st1.1.0 at1 h1 in_data is
        refl refl (λ h2 at2.
        dat_law g linked p ip s.words top fs (k + 1 + 1) (upto g ow.owes (used s.words top) n m) (1 + c)
        c words mem s2
        (pos (p.component.data_base + (s.pairs + d))) (pos 0 -ℤ pos (s.pairs + d))
        (pos p.component.data_base) (Imm (pos 0 -ℤ pos (s.pairs + d))) st1.1.1.0 at2 h2 refl back fit_b
        (λ h3 at3.
        u (global_word st f.home d) st mem words
        _ (subst (λ j. At g linked p j
        (with_reg s2 Dat (Plain (Mem (data_cap (ranges_of p) (pos p.component.data_base))))
        (next_pc g linked p (k + 1 + 1)))) e3 at3) h3
        (same_below t words) refl (globals.fits st mem d store lt) store) le3) le2) le1)

    pub element_law : (a : Array) (b : Exp) (t : ℕ) → a.first + a.length ≤ globals.count
        → LawOf n env b (code s t b) t → LawOf n env (Element a b) (code s t (Element a b)) t
    element_law a b t room lb k c words st mem kk o st1 cs len at h e store u =
        tick_up g n c o
        (expr world (whole world) f env b
        (λ i st. element world a i (λ d. kk (global_word st f.home d) st)) st)
        (lb k (c + 200) words st mem
        (λ i st. element world a i (λ d. kk (global_word st f.home d) st)) o
        (stand_front g linked p end k (code s t b) _ st1) cs len at h e store after)
      where
        tail : Stand g linked p end (k + words_in (code s t b))
            (at_row s a (Load G1 Dat) ++ (does (Move G0 (InReg G1)) ∷ []))
        tail = stand_back g linked p end k (code s t b) _ st1

        after : (x : ℤ) (st2 : Store) (mem2 : ℕ → OWord) (words2 : List OWord) (q : OState)
            → At g linked p (k + words_in (code s t b)) q → In words2 mem2 q → SameBelow t words words2
            → q.maps.regs.g0 ≡ Plain (Int x) → fits_64 x ≡ true → StoreIs st2 mem2
            → UpTo g ow.owes (used s.words top) n (c + 200) q
            (element world a x (λ d. kk (global_word st2 f.home d) st2))
        after x st2 mem2 words2 q at1 h1 same ex fx store2 =
            let k1 = k + words_in (code s t b) in
            let roomd = globals.room in
            index_law world g linked p ip s.words top fs ow n failing a (k + words_in (code s t b))
            (c + 200) (7 + c) x
            words2 mem2 q (pos p.component.data_base)
            (λ d. kk (global_word st2 f.home d) st2) tail.0 at1
            h1 ex (λ i q2 is lt h2 at2 g2 a2.
            let in_data : s.pairs + (a.first + i) < length p.component.data_words =
            omega (arith, roomd, room, lt) in
            let in_count : a.first + i < globals.count = omega (arith, room, lt) in
            let v = global_word st2 f.home (a.first + i) in
            let m : Comp = kk (global_word st2 f.home (a.first + i)) st2 in
            reach_law world g linked p ip s.words top fs ow n s.pairs a.first words2 mem2 m (k1 + 8)
            (7 + c) (5 + c) i
            q2 tail.1.0 tail.1.1.0 at2 h2 g2 in_data (λ q3 h3 at3 g3 a3.
            load_data_law g linked p ip s.words top fs (k1 + 8 + 1 + 1)
            (upto g ow.owes (used s.words top) n m) (5 + c) (4 + c)
            words2 mem2 q3 (s.pairs + (a.first + i)) G1 (Plain (Int (global_word st2 f.home (a.first + i))))
            (free_g1 g linked) tail.1.1.1.0 at3 h3 in_data
            (globals.reads st2 mem2 (a.first + i) store2 in_count) refl refl (λ h4 at4.
            from_element g linked p ip s.words top fs (s.pairs + a.first) words2 mem2
            (upto g ow.owes (used s.words top) n m)
            (k1 + 8 + 1 + 1 + 1) (4 + c) (1 + c) (s.pairs + (a.first + i))
            (with_reg q3 G1 (Plain (Int (global_word st2 f.home (a.first + i))))
            (next_pc g linked p (k1 + 8 + 1 + 1))) tail.1.1.1.1.0 tail.1.1.1.1.1.0 tail.1.1.1.1.1.1.0 at4
            h4 g3 in_data (λ q5 h5 at5 g5.
            set_law g linked p ip s.words top fs (k1 + 8 + 1 + 1 + 1 + 1 + 1 + 1)
            (upto g ow.owes (used s.words top) n m) (1 + c)
            c words2 mem2 q5 (pos p.component.data_base) (Move G0 (InReg G1)) G0 q5.maps.regs.g1
            (free_g0 g linked) refl tail.1.1.1.1.1.1.1.0 at5 h5
            (move_goes look Plain G0 G1 _ q5.maps q5.maps refl
            (stays look Plain q5.maps (R G1) (ap (λ y. is_linear (look y)) g5))) (λ h6 at6.
            u v st2 mem2 words2 _ (subst
            (λ j. At g linked p j
            (with_reg q5 G0 q5.maps.regs.g1 (next_pc g linked p (k1 + 8 + 1 + 1 + 1 + 1 + 1 + 1))))
            ends_at at6) h6 same g5
            (globals.fits st2 mem2 (a.first + i) store2 in_count) store2) (omega arith)) (omega arith))
            (omega arith)) (omega arith)) (omega arith)
          where
            ends_at : k + words_in (code s t b) + 8 + 1 + 1 + 1 + 1 + 1 + 1 + 1 ≡ k + words_in
                (code s t (Element a b))
            ends_at = let l = words-append (code s t b)
                (at_row s a (Load G1 Dat) ++ (does (Move G0 (InReg G1)) ∷ [])) in omega (arith, l)

    pub binary_law : (r : Op) (a b : Exp) (t : ℕ) → 2 + length kinds ≤ t → t < s.words
        → LawOf n env a (code s t a) t → LawOf n env b (code s (t + 1) b) (t + 1)
        → LawOf n env (Binary r a b) (code s t (Binary r a b)) t
    binary_law r a b t lo lt la lb k c words st mem kk o st1 cs len at h e store u =
        tick_up g n c o
        (expr world (whole world) f env a
        (λ x. expr world (whole world) f env b (λ y. operated world r x y kk)) st)
        (la k (c + 200) words st mem
        (λ x. expr world (whole world) f env b (λ y. operated world r x y kk)) o
        (stand_front g linked p end k (code s t a) _ st1) cs.0 len at h e store after_a)
      where
        tail1 : Stand g linked p end (k + words_in (code s t a))
            (store_slot s t G0 ++ ((code s (t + 1) b) ++ last_words t r))
        tail1 = stand_back g linked p end k (code s t a) _ st1

        tail3 : Stand g linked p end (k + words_in (code s t a) + 1 + 1 + 1 + words_in (code s (t + 1) b))
            (last_words t r)
        tail3 = stand_back g linked p end (k + words_in (code s t a) + 1 + 1 + 1) (code s (t + 1) b)
            _ tail1.1.1.1

        ends_at : k + words_in (code s t a) + 1 + 1 + 1 + words_in
            (code s (t + 1) b) + 1 + 1 + 1 + 1 + words_in (op_code r) ≡ k + words_in (code s t (Binary r a b))
        ends_at =
            let l1 = words-append (code s t a)
            (store_slot s t G0 ++ ((code s (t + 1) b) ++ last_words t r)) in
            let l2 = words-append (code s (t + 1) b) (last_words t r) in
            omega (arith, l1, l2)

        after_b : (x : ℤ) → fits_64 x ≡ true → (words1 : List OWord) → SameBelow t words words1
            → slice_get words1 t ≡ Some (Plain (Int x))
            → (y : ℤ) (st2 : Store) (mem2 : ℕ → OWord) (words2 : List OWord) (q : OState)
            → At g linked p (k + words_in (code s t a) + 1 + 1 + 1 + words_in (code s (t + 1) b)) q
            → In words2 mem2 q → SameBelow (t + 1) words1 words2 → q.maps.regs.g0 ≡ Plain (Int y)
            → fits_64 y ≡ true → StoreIs st2 mem2 → UpTo g ow.owes (used s.words top) n (c + 197) q
            (operated world r x y kk st2)
        after_b x fx words1 same1 got y st2 mem2 words2 q atq hq same2 ey fy store2 =
            let k3 = k + words_in (code s t a) + 1 + 1 + 1 + words_in (code s (t + 1) b) in
            let m : Comp = operated world r x y kk st2 in
            let got2 : slice_get words2 t ≡ Some (Plain (Int x)) = same2.each t (omega arith) ∙ got in
            let below : SameBelow t words words2 =
            same_then t words words1 words2 same1
            (same_less t (t + 1) words1 words2 (omega arith) same2) in
            let s1 = with_reg q G1 q.maps.regs.g0 (next_pc g linked p k3) in
            let le0 : 1 + (3 + (5 + c)) ≤ c + 197 = omega arith in
            set_law g linked p ip s.words top fs k3 (upto g ow.owes (used s.words top) n m) (c + 197)
            (3 + (5 + c)) words2 mem2 q
            (pos p.component.data_base) (Move G1 (InReg G0)) G1 q.maps.regs.g0 (free_g1 g linked) refl
            tail3.0 atq hq
            (move_goes look Plain G1 G0 _ q.maps q.maps refl
            (stays look Plain q.maps (R G0) (ap (λ z. is_linear (look z)) ey))) (λ h1 at1.
            load_law g linked p ip s.words top mem2 fs (k3 + 1) (upto g ow.owes (used s.words top) n m)
            (3 + (5 + c)) (5 + c) G0
            (free_g0 g linked) words2 t (Plain (Int x)) s1 (tail3.1.0, (tail3.1.1.0, (tail3.1.1.1.0, tt)))
            got2 lt refl refl at1 h1
            (λ h2 at2. operator_law world g linked p ip s.words top fs ow n end (k3 + 1 + 1 + 1 + 1) c x y
            (pos p.component.data_base) words2 mem2 kk st2 _ at2
            h2 refl ey r tail3.1.1.1.1
            (λ v q3 at3 h3 e3 f3. u v st2 mem2 words2 q3 (subst (λ z. At g linked p z q3) ends_at at3)
            h3 below e3 f3 store2))
            (omega arith)) le0

        after_a : (x : ℤ) (st1 : Store) (mem1 : ℕ → OWord) (words1 : List OWord) (q : OState)
            → At g linked p (k + words_in (code s t a)) q → In words1 mem1 q → SameBelow t words words1
            → q.maps.regs.g0 ≡ Plain (Int x) → fits_64 x ≡ true → StoreIs st1 mem1
            → UpTo g ow.owes (used s.words top) n (c + 200) q
            (expr world (whole world) f env b (λ y. operated world r x y kk) st1)
        after_a x st1 mem1 words1 q atq hq same1 ex fx store1 =
            let m : Comp = expr world (whole world) f env b (λ y. operated world r x y kk) st1 in
            let cnt = same1.count in
            let lt1 : t < length words1 = omega (arith, lt, cnt, len) in
            let lw = length-with_at words1 t (reg q.maps.regs G0) in
            let same2 : SameBelow t words (with_at words1 t (reg q.maps.regs G0)) =
            same_then t words words1 _ same1 (same_with t words1 (reg q.maps.regs G0)) in
            store_law g linked p ip s.words top mem1 fs (k + words_in (code s t a))
            (upto g ow.owes (used s.words top) n m)
            (c + 200) (c + 197) G0 words1 t q (tail1.0, (tail1.1.0, (tail1.1.1.0, tt))) lt1 refl
            (ap (λ z. is_linear (look z)) ex) (subst (IsPublic g) (sym ex) (int_public g x))
            (λ free. (omega (arith, lt1, cnt, len), omega arith)) atq hq
            (λ h2 at2. lb (k + words_in (code s t a) + 1 + 1 + 1) (c + 197)
            (with_at words1 t (reg q.maps.regs G0)) st1 mem1
            (λ y. operated world r x y kk)
            _ (stand_front g linked p end (k + words_in (code s t a) + 1 + 1 + 1) (code s (t + 1) b)
            _ tail1.1.1.1) cs.1 (lw ∙ cnt ∙ len) at2 h2
            (env_same kinds (AtPlace f.words IsPair) rests env words _ t lo same2 e) store1
            (after_b x fx (with_at words1 t (reg q.maps.regs G0)) same2
            (get_with words1 t (reg q.maps.regs G0) lt1 ∙ ap Some ex)))
            (omega arith)
