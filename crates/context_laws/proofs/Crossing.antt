-- Two rounds of which the same is observed cross alike.
use Rattle.std.proofs.lemmas.Option.{slice_get-map}
use Rattle.std.specs.Prelude.{slice_get, option_map, if◌then◌else◌}
use Rattle.std.proofs.Common.{◌≡◌, ℕ, ℤ, List, [], ◌∷◌, map, Option, Some, None, Bool, true, false, refl, sym}
use Rattle.std.proofs.Common.{ap, ◌∙◌, subst}
use Rattle.std.specs.List.{Contains}
use Rattle.cap_words.specs.declared.Word.TheVariants.{Int, Mem, Seal, Sealed}
use Rattle.cap_words.specs.declared.Sealable.{Sealable}
use Rattle.cap_words.specs.declared.Sealable.TheVariants.{Mem as MemIn, Seal as SealIn}
use Rattle.lcm_isa.specs.declared.Reg.{Reg}
use Rattle.lcm_isa.specs.declared.Reg.TheVariants.{A0, A1, A2, A3, C1, Rcode}
use Rattle.lcm_machine.specs.Places.{reg}
use Rattle.lcm_machine.specs.Table.{fits_64, unsealed}
use Rattle.call_sequence.specs.SequenceRuns.{stack_cap}
use Rattle.trusted_border.specs.declared.layout.Layout.{Layout}
use Rattle.trusted_border.specs.declared.events.Event.{Event as BorderEvent}
use Rattle.trusted_border.specs.declared.events.Event.TheVariants.{Called}
use Rattle.trusted_border.specs.Layout.{site_code}
use Rattle.overlay_machine.specs.declared.words.OWord.{OWord}
use Rattle.overlay_machine.specs.declared.words.OWord.TheVariants.{Plain, RetCode, RetData}
use Rattle.overlay_machine.specs.State.{OpenFrame, OState}
use Rattle.overlay_machine.specs.Flat.{flat, flat_code, flat_data, flat_range}
use Rattle.overlay_machine.specs.Events.{step_event}
use Rattle.overlay_machine.specs.Link.{Link}
use Rattle.overlay_machine.specs.Linked.{IsLink}
use Rattle.overlay_machine.specs.Safe.{IsOpenSeal, IsMet}
use Rattle.overlay_machine.proofs.Offers.{map_get}
use Rattle.run_lines.specs.Layout.{part_name, site_of}
use Rattle.source_events.specs.declared.OutArg.TheVariants.{Int as IntArg, Half}
use Rattle.source_events.specs.Outs.{OutLine, leave_out, out_arg}
use Rattle.run_lines.specs.Feed.{integer_in}
use Rattle.template_runs.specs.Border.{Opened, code_word, half_word, content_of, ShowsCall, ShowsLeave}
use Rattle.template_runs.specs.Border.{ShowsBy, by_call, by_leave, Shows}
use Rattle.proc_semantics.specs.Marked.{Arg, Number, OfPair, Event, Calls, Leaves, Whence, arg_to, event_to}
use Rattle.source_laws.specs.Seen.{Back, Shown, Went, handed, left_with, shown_of, event_outs, call_shown}
use Rattle.source_laws.specs.Seen.{args_shown, arg_shown, left_shown}
use Rattle.source_laws.specs.Wiped.{low_of}
use Rattle.lockstep.specs.Related.{SameNames, StandsOutside, Calls as Pairs, SameWord, ours, code_halves}
use Rattle.lockstep.specs.Related.{data_halves, ret_codes, ret_datas}
use Rattle.lockstep.specs.Lockstep.{Round, SameCrossing}
use Rattle.lockstep.specs.Lockstep as spec
use Rattle.same_meanings.specs.Observed.{Name, CallNames, event_named}
use Rattle.context_laws.specs.Meanings.{GoByNames}
use Rattle.lockstep.proofs.Offers.{opened_open}
use Rattle.context_laws.proofs.Open.{HasSites, newest_is}
use Rattle.context_laws.proofs.History.{BackAlike}

-- ---- one run

-- a word that is told as a number
number_is : (l : Layout) (fs : List OpenFrame) (g : Link) → g.layout ≡ l → HasSites g fs → (w : OWord)
    → IsMet g fs w → (z : ℤ) → integer_in (flat l fs w) ≡ Some z → w ≡ Plain (Int z)
unfolding flat
number_is l fs g same sites (Plain (Int y)) m z e = by (fits_64 y) e
  where
    by : (b : Bool) → (if b then Some y else None) ≡ Some z → Plain (Int y) ≡ Plain (Int z)
    by true e = (let k : y ≡ z = cc in ap (λ x. Plain (Int x)) k)
    by false e = absurd cc
number_is l fs g same sites (Plain (Mem c)) m z e = absurd cc
number_is l fs g same sites (Plain (Seal c)) m z e = absurd cc
number_is l fs g same sites (Plain (Sealed n c)) m z e = absurd cc
number_is l fs g same sites (RetCode i) m z e =
    let k : site_code l i ≡ Some m.0 = ap (λ x. site_code x i) (sym same) ∙ m.1 in
    absurd (let z : None ≡ Some z = ap (λ o. integer_in (flat_code o)) (sym k) ∙ e in cc)
number_is l fs g same sites (RetData n) m z e =
    let s = sites n m.0 m.1 in
    let k : site_code l (m.0).site ≡ Some s.0 = ap (λ x. site_code x (m.0).site) (sym same) ∙ s.1 in
    absurd (let z : None ≡ Some z =
    sym (ap (λ o. integer_in (flat_data l o)) m.1 ∙ ap (λ o. integer_in (flat_range m.0 o)) k) ∙ e in cc)

head_same : {A : Type 0} {x y : A} → x ∷ [] ≡ y ∷ [] → x ≡ y
head_same e = cc

abbrev answers : {T : Type 0} → Event T ℕ → Option ℕ
answers (Calls part site base low x y xs) = None
answers (Leaves part v low k) = Some k

abbrev value_of : {T : Type 0} → Event T ℕ → Option ℤ
value_of (Calls part site base low x y xs) = None
value_of (Leaves part v low k) = Some v

-- what a call shows
record CallIs (l : Layout) (q : OState) (i base : ℕ) (word : Whence → OWord) (back : ℕ → Back) (part : List ℕ)
    (site b : ℕ) (m n : Option Whence) (xs : List (Arg Whence)) : Type 0 where
  pub part_is : part_name l (site_of l i).part ≡ part
  pub site_is : (site_of l i).index ≡ site
  pub base_is : base ≡ b
  pub first : option_map word m ≡ Some q.maps.regs.c1
  pub second : option_map word n ≡ Some q.maps.regs.c2
  pub args : map (arg_to word back) xs ≡ args_shown l q

call_is : (l : Layout) (q : OState) (i base : ℕ) (word : Whence → OWord) (back : ℕ → Back) (part : List ℕ)
    (site b : ℕ) (low : Option ℕ) (m n : Option Whence) (xs : List (Arg Whence))
    → call_shown l q i base ≡ shown_of (event_to word back (Calls part site b low m n xs))
    → CallIs l q i base word back part site b m n xs
call_is l q i base word back part site b low m n xs e =
    let w = ap (λ (z : Shown). z.went) e in
    let k = ap (λ (z : Shown). z.event) e in
    record {
      part_is = cc;
      site_is = cc;
      base_is = (let z : Some base ≡ Some b = ap (option_map (λ (z : Went). z.base)) w in cc);
      first = (let z : Some (Some q.maps.regs.c1) ≡ Some (option_map word m) =
          ap (option_map (λ (z : Went). z.first)) w in cc);
      second = (let z : Some (Some q.maps.regs.c2) ≡ Some (option_map word n) =
          ap (option_map (λ (z : Went). z.second)) w in cc);
      args = (let z : Some (args_shown l q) ≡ Some (map (arg_to word back) xs) =
          ap (option_map (λ (z : Went). z.args)) w in cc);
    }

-- what a procedure that leaves shows
record LeaveIs (q : OState) (o : Option ℤ) (back : ℕ → Back) (v : ℤ) (k : ℕ) : Type 0 where
  pub back_is : left_with q ≡ back k
  pub value : o ≡ Some v

leave_is : (l : Layout) (q : OState) (p : ℕ) (o : Option ℤ) (word : Whence → OWord) (back : ℕ → Back)
    (part : List ℕ) (v : ℤ) (low : Option ℕ) (k : ℕ)
    → left_shown (leave_out (part_name l p) (out_arg o)) (left_with q)
    ≡ shown_of (event_to word back (Leaves part v low k)) ∷ []
    → LeaveIs q o back v k
leave_is l q p o word back part v low k e =
    let x = ap (λ (z : Shown). z.back) (head_same e) in
    record {
      back_is = (let z : left_with q ≡ back k = cc in z);
      value = by o (ap (λ (z : Shown). z.event) (head_same e));
    }
  where
    by : (o : Option ℤ)
        → leave_out (part_name l p) (out_arg o) ≡ leave_out part (IntArg v) → o ≡ Some v
    by None e = absurd (let z : Half ≡ IntArg v = cc in cc)
    by (Some y) e = (let z : IntArg y ≡ IntArg v = cc in let u : y ≡ v = cc in ap Some u)

no_leave : (l : Layout) (q : OState) (i base : ℕ) (s : Shown) → s.went ≡ None → call_shown l q i base ≡ s → ⊥
no_leave l q i base s n e = let w = ap (λ (z : Shown). z.went) e ∙ n in cc

no_call : (e : OutLine) (b : Back) (s : Shown) (w : Went) → s.went ≡ Some w
    → record { event = e; went = None; back = Some b } ≡ s → ⊥
no_call e b s w n h = let k = ap (λ (z : Shown). z.went) h ∙ n in cc

pub ends_same : (e t : ℕ) {a b : ℕ}
    → Some (Plain (Mem (stack_cap a e e))) ≡ Some (Plain (Mem (stack_cap b t t))) → e ≡ t
ends_same e t {a = a} {b = b} h =
    let k : stack_cap a e e ≡ stack_cap b t t = cc in ap (λ c. c.end) k

whole_is : (l : Layout) (d : Opened) (top : ℕ) (q : OState) → ShowsLeave l d top q
    → handed q.maps.regs.rcode q.maps.regs.dat ≡ half_word d
whole_is l d top q s = ap (λ z. handed z q.maps.regs.dat) s.rcode ∙ ap (handed (code_word d)) s.dat
    ∙ by d.half
  where
    by : (x : Sealable) → handed (code_word d) (Plain (unsealed (content_of x))) ≡ Plain (Sealed d.seal x)
    by (MemIn c) = refl
    by (SealIn c) = refl

-- ---- two runs

record CallsSame (calls : CallNames) (name name' : Whence → Name) (part : List ℕ) (site base : ℕ)
    (low : Option ℕ)
    (m n : Option Whence)
    (xs : List (Arg Whence)) (part' : List ℕ) (site' base' : ℕ) (low' : Option ℕ) (m' n' : Option Whence)
    (ys : List (Arg Whence)) : Type 0 where
  pub call_is : calls.one part site ≡ calls.other part' site'
  pub base_is : base ≡ base'
  pub low_is : low ≡ low'
  pub first : option_map name m ≡ option_map name' m'
  pub second : option_map name n ≡ option_map name' n'
  pub args : map (arg_to name (λ (k : ℕ). k)) xs ≡ map (arg_to name' (λ (k : ℕ). k)) ys

pub pair_same : {A B : Type 0} (x y : A × B) → x.0 ≡ y.0 → x.1 ≡ y.1 → x ≡ y
pair_same x y e f = ap (λ z. (z, x.1)) e ∙ ap (λ z. (y.0, z)) f

calls_same : (calls : CallNames) {name name' : Whence → Name} (part : List ℕ) (site base : ℕ) (low : Option ℕ)
    (m n : Option Whence)
    (xs : List (Arg Whence)) (part' : List ℕ) (site' base' : ℕ) (low' : Option ℕ) (m' n' : Option Whence)
    (ys : List (Arg Whence))
    → event_named calls.one (event_to name (λ (k : ℕ). k) (Calls part site base low m n xs))
    ≡ event_named calls.other (event_to name' (λ (k : ℕ). k) (Calls part' site' base' low' m' n' ys))
    → CallsSame calls name name' part site base low m n xs part' site' base' low' m' n' ys
calls_same calls {name = name} {name' = name'} part site base low m n xs part' site' base' low' m' n' ys e =
    record {
      call_is =
          (let p : (calls.one part site).0 ≡ (calls.other part' site').0 = cc in
          let i : (calls.one part site).1 ≡ (calls.other part' site').1 = cc in
          pair_same (calls.one part site) (calls.other part' site') p i);
      base_is = cc;
      low_is = cc;
      first = cc;
      second = cc;
      args = cc;
    }

module _ (g h : Link) (names : SameNames g h) {calls : CallNames} (by_names : GoByNames calls names)
    (lg : IsLink g) (lh : IsLink h) (cs : Pairs) (name name' : Whence → Name) (word word' : Whence → OWord)
    (back back' : ℕ → Back)
    (word_same : (w v : Whence) → name w ≡ name' v → SameWord g h names cs (word w) (word' v))
    (back_same : (k : ℕ) → BackAlike g h names cs (back k) (back' k)) where
  abbrev S : OWord → OWord → Type 0
  S = SameWord g h names cs

  -- what stands for a word under a seal of code outside is that word
  open_same : (n : ℕ) (c : Sealable) (w v : OWord) → S w v → w ≡ Plain (Sealed n c) → IsOpenSeal g n
      → v ≡ Plain (Sealed n c)
  open_same n c _ _ (ours w o) e op = e
  open_same n c _ _ (code_halves x y t) e op =
      let k : x.part.component.closure ≡ n = cc in
      absurd (lg.closure_closed x.part (names.exports x y t).0.0 (subst (IsOpenSeal g) (sym k) op))
  open_same n c _ _ (data_halves x y t) e op =
      let k : x.part.component.closure ≡ n = cc in
      absurd (lg.closure_closed x.part (names.exports x y t).0.0 (subst (IsOpenSeal g) (sym k) op))
  open_same n c _ _ (ret_codes i j t) e op = absurd cc
  open_same n c _ _ (ret_datas i j t) e op = absurd cc

  -- pairs under a seal of code outside
  opened_same : (d e : Opened) → S (code_word d) (code_word e) → S (half_word d) (half_word e)
      → IsOpenSeal g d.seal → e ≡ d
  opened_same d e a b op =
      let c = open_same d.seal (MemIn d.code) (code_word d) (code_word e) a refl op in
      let x = open_same d.seal d.half (half_word d) (half_word e) b refl op in
      let s : e.seal ≡ d.seal = cc in
      let k : e.code ≡ d.code = cc in
      let m : e.half ≡ d.half = cc in
      ap (λ z. record e { seal = z }) s ∙ ap (λ z. record e { seal = d.seal; code = z }) k
      ∙ ap (λ z. record { seal = d.seal; code = d.code; half = z }) m

  module _ (a b : Round) (oa : StandsOutside g a.after) (ob : StandsOutside h b.after)
      (sa : HasSites g a.after.frames)
      (sb : HasSites h b.after.frames) (ma : (d : Reg) → IsMet g a.after.frames (reg a.after.maps.regs d))
      (mb : (d : Reg) → IsMet h b.after.frames (reg b.after.maps.regs d)) where
    numbers_same : (d : Reg) (y z : ℤ)
        → integer_in (flat g.layout a.after.frames (reg a.after.maps.regs d)) ≡ Some y
        → integer_in (flat h.layout b.after.frames (reg b.after.maps.regs d)) ≡ Some z → y ≡ z
        → S (reg a.after.maps.regs d) (reg b.after.maps.regs d)
    numbers_same d y z ey ez e =
        let p = number_is g.layout a.after.frames g refl sa (reg a.after.maps.regs d) (ma d) y ey in
        let q = number_is h.layout b.after.frames h refl sb (reg b.after.maps.regs d) (mb d) z ez in
        rw (p, q ∙ ap (λ x. Plain (Int x)) (sym e)) (ours (Int y) tt)

    -- the word of an argument register
    arg_same : (d : Reg) (o o' : Option ℤ)
        → integer_in (flat g.layout a.after.frames (reg a.after.maps.regs d)) ≡ o
        → integer_in (flat h.layout b.after.frames (reg b.after.maps.regs d)) ≡ o' → (x y : Arg Whence)
        → arg_to word back x ≡ arg_shown o (reg a.after.maps.regs d)
        → arg_to word' back' y ≡ arg_shown o' (reg b.after.maps.regs d)
        → arg_to name (λ (k : ℕ). k) x ≡ arg_to name' (λ (k : ℕ). k) y
        → S (reg a.after.maps.regs d) (reg b.after.maps.regs d)
    arg_same d (Some z) (Some z') ez ez' (Number n) (Number m) p q s =
        let i : n ≡ z = cc in
        let j : m ≡ z' = cc in
        let k : n ≡ m = cc in
        numbers_same d z z' ez ez' (sym i ∙ k ∙ j)
    arg_same d None o' ez ez' (Number n) y p q s = absurd cc
    arg_same d (Some z) None ez ez' (Number n) (Number m) p q s = absurd cc
    arg_same d o o' ez ez' (Number n) (OfPair m) p q s = absurd cc
    arg_same d o o' ez ez' (OfPair n) (Number m) p q s = absurd cc
    arg_same d (Some z) o' ez ez' (OfPair n) (OfPair m) p q s = absurd cc
    arg_same d None (Some z) ez ez' (OfPair n) (OfPair m) p q s = absurd cc
    arg_same d None None ez ez' (OfPair None) m p q s =
        absurd (let z : None ≡ Some (reg a.after.maps.regs d) = cc in cc)
    arg_same d None None ez ez' (OfPair (Some x)) (OfPair None) p q s =
        absurd (let z : None ≡ Some (reg b.after.maps.regs d) = cc in cc)
    arg_same d None None ez ez' (OfPair (Some x)) (OfPair (Some y)) p q s =
        let i : word x ≡ reg a.after.maps.regs d = cc in
        let j : word' y ≡ reg b.after.maps.regs d = cc in
        let k : name x ≡ name' y = cc in
        subst (λ z. S z (reg b.after.maps.regs d)) i (subst (S (word x)) j (word_same x y k))

    -- two marks of one name
    mark_same : (m n : Option Whence) (w v : OWord) → option_map word m ≡ Some w → option_map word' n ≡ Some v
        → option_map name m ≡ option_map name' n → S w v
    mark_same None n w v e f k = absurd cc
    mark_same (Some x) None w v e f k = absurd cc
    mark_same (Some x) (Some y) w v e f k =
        let i : word x ≡ w = cc in
        let j : word' y ≡ v = cc in
        let n : name x ≡ name' y = cc in
        subst (λ z. S z v) i (subst (S (word x)) j (word_same x y n))

    -- the arguments of one place
    args_at : (n : ℕ) (xs ys : List (Arg Whence)) (w v : Arg OWord)
        → slice_get (map (arg_to word back) xs) n ≡ Some w
        → slice_get (map (arg_to word' back') ys) n ≡ Some v
        → map (arg_to name (λ (k : ℕ). k)) xs ≡ map (arg_to name' (λ (k : ℕ). k)) ys
        → (x y : Arg Whence) × (arg_to word back x ≡ w) × (arg_to word' back' y ≡ v)
        × (arg_to name (λ (k : ℕ). k) x ≡ arg_to name' (λ (k : ℕ). k) y)
    args_at n xs ys w v e f k =
        let x = map_get (arg_to word back) xs n w e in
        let y = map_get (arg_to word' back') ys n v f in
        let s : Some (arg_to name (λ (k : ℕ). k) x.0) ≡ Some (arg_to name' (λ (k : ℕ). k) y.0) =
        sym (slice_get-map (arg_to name (λ (k : ℕ). k)) xs n
        ∙ ap (option_map (arg_to name (λ (k : ℕ). k))) x.1)
        ∙ ap (λ z. slice_get z n) k
        ∙ slice_get-map (arg_to name' (λ (k : ℕ). k)) ys n ∙ ap (option_map (arg_to name' (λ (k : ℕ). k))) y.1
        in (
          x.0,
          y.0,
          x.2,
          y.2,
          (let z : arg_to name (λ (k : ℕ). k) x.0 ≡ arg_to name' (λ (k : ℕ). k) y.0 = cc
              in z),
        )

    abbrev Va : Reg → Option ℤ
    Va d = integer_in (flat g.layout a.after.frames (reg a.after.maps.regs d))

    abbrev Vb : Reg → Option ℤ
    Vb d = integer_in (flat h.layout b.after.frames (reg b.after.maps.regs d))

    reg_same : (d : Reg) (n : ℕ) (xs ys : List (Arg Whence))
        → slice_get (map (arg_to word back) xs) n ≡ Some (arg_shown (Va d) (reg a.after.maps.regs d))
        → slice_get (map (arg_to word' back') ys) n ≡ Some (arg_shown (Vb d) (reg b.after.maps.regs d))
        → map (arg_to name (λ (k : ℕ). k)) xs ≡ map (arg_to name' (λ (k : ℕ). k)) ys
        → S (reg a.after.maps.regs d) (reg b.after.maps.regs d)
    reg_same d n xs ys e f k =
        let z = args_at n xs ys _ _ e f k in arg_same d (Va d) (Vb d) refl refl z.0 z.1 z.2 z.3 z.4

    abbrev pub Crossed : Event Whence ℕ → Event Whence ℕ → Type 0
    Crossed x y = (ds : Pairs) × SameCrossing g h names cs a b ds × (low_of x ≡ low_of y)

    by_calls : (d e : Opened) (f k : OpenFrame) → ShowsCall g.layout d f a.after
        → ShowsCall h.layout e k b.after
        → step_event g.layout a.last a.after ≡ Some (Called false f.site f.base f.end)
        → step_event h.layout b.last b.after ≡ Some (Called false k.site k.base k.end)
        → (part : List ℕ) (site base : ℕ) (low : Option ℕ) (m n : Option Whence) (xs : List (Arg Whence))
        → (part' : List ℕ) (site' base' : ℕ) (low' : Option ℕ) (m' n' : Option Whence)
        (ys : List (Arg Whence)) → call_shown g.layout a.after f.site f.base
        ≡ shown_of (event_to word back (Calls part site base low m n xs))
        → call_shown h.layout b.after k.site k.base
        ≡ shown_of (event_to word' back' (Calls part' site' base' low' m' n' ys))
        → event_named calls.one (event_to name (λ (k : ℕ). k) (Calls part site base low m n xs))
        ≡ event_named calls.other (event_to name' (λ (k : ℕ). k) (Calls part' site' base' low' m' n' ys))
        → Crossed (Calls part site base low m n xs) (Calls part' site' base' low' m' n' ys)
    by_calls d e f k sc tc ev ew part site base low m n xs part' site' base' low' m' n' ys hx hy hn =
        let x = call_is g.layout a.after f.site f.base word back part site base low m n xs hx in
        let y = call_is h.layout b.after k.site k.base word' back' part' site' base' low' m' n' ys hy in
        let s = calls_same calls part site base low m n xs part' site' base' low' m' n' ys hn in
        let op = opened_open g lg a.after oa d sc.pc C1 sc.c1 in
        let first : S (code_word d) (code_word e) =
        subst (λ z. S z (code_word e)) sc.c1 (subst (S a.after.maps.regs.c1) tc.c1
        (mark_same m m' _ _ x.first y.first s.first)) in
        let second : S (half_word d) (half_word e) =
        subst (λ z. S z (half_word e)) sc.c2 (subst (S a.after.maps.regs.c2) tc.c2
        (mark_same n n' _ _ x.second y.second s.second)) in
        let same : e ≡ d = opened_same d e first second op in
        let bases : f.base ≡ k.base = x.base_is ∙ s.base_is ∙ sym y.base_is in
        let su = sa f.call f (newest_is f sc.older a.after.frames sc.newest) in
        let sv = sb k.call k (newest_is k tc.older b.after.frames tc.newest) in
        let sites : Contains names.sites (f.site, k.site) =
        by_names.all_sites f.site k.site su.0 sv.0 su.1 sv.1
        (ap (λ p. calls.one p (site_of g.layout f.site).index) x.part_is ∙ ap (calls.one part) x.site_is
        ∙ s.call_is
        ∙ sym (ap (λ p. calls.other p (site_of h.layout k.site).index) y.part_is
        ∙ ap (calls.other part') y.site_is)) in
        let arg : (r : Reg) (i : ℕ) → slice_get (args_shown g.layout a.after) i
        ≡ Some (arg_shown (Va r) (reg a.after.maps.regs r))
        → slice_get (args_shown h.layout b.after) i ≡ Some (arg_shown (Vb r) (reg b.after.maps.regs r))
        → S (reg a.after.maps.regs r) (reg b.after.maps.regs r) =
        λ r i p q. reg_same r i xs ys (ap (λ z. slice_get z i) x.args ∙ p)
        (ap (λ z. slice_get z i) y.args ∙ q) s.args in (
          (f.call, k.call) ∷ cs,
          spec.by_call d f k sc (subst (λ z. ShowsCall h.layout z k b.after) same tc) ev ew bases sites
              (arg A0 0 refl refl) (arg A1 1 refl refl) (arg A2 2 refl refl) (arg A3 3 refl refl),
          s.low_is,
        )

    by_leaves : (p q : ℕ) (d e : Opened) (top end : ℕ) → ShowsLeave g.layout d top a.after
        → ShowsLeave h.layout e end b.after
        → (part : List ℕ) (v : ℤ) (low : Option ℕ) (k : ℕ) (part' : List ℕ) (v' : ℤ) (low' : Option ℕ)
        (k' : ℕ)
        → left_shown (leave_out (part_name g.layout p) (out_arg (Va A0))) (left_with a.after)
        ≡ shown_of (event_to word back (Leaves part v low k)) ∷ []
        → left_shown (leave_out (part_name h.layout q) (out_arg (Vb A0))) (left_with b.after)
        ≡ shown_of (event_to word' back' (Leaves part' v' low' k')) ∷ []
        → event_named calls.one (event_to name (λ (k : ℕ). k) (Leaves part v low k))
        ≡ event_named calls.other (event_to name' (λ (k : ℕ). k) (Leaves part' v' low' k')) → Crossed
        (Leaves part v low k) (Leaves part' v' low' k')
    by_leaves p q d e top end sl tl part v low k part' v' low' k' hx hy hn =
        let x = leave_is g.layout a.after p (Va A0) word back part v low k hx in
        let y = leave_is h.layout b.after q (Vb A0) word' back' part' v' low' k' hy in
        let ek : k ≡ k' = (let z : Some k ≡ Some k' = ap answers hn in cc) in
        let ev : v ≡ v' = (let z : Some v ≡ Some v' = ap value_of hn in cc) in
        let el : low ≡ low' = ap low_of hn in
        let bs : BackAlike g h names cs (left_with a.after) (left_with b.after) =
        subst (BackAlike g h names cs (left_with a.after)) (ap back' ek ∙ sym y.back_is)
        (subst (λ z. BackAlike g h names cs z (back' k)) (sym x.back_is) (back_same k)) in
        let op = opened_open g lg a.after oa d sl.pc Rcode sl.rcode in
        let wd : handed a.after.maps.regs.rcode a.after.maps.regs.dat ≡ half_word d =
        whole_is g.layout d top a.after sl in
        let we : handed b.after.maps.regs.rcode b.after.maps.regs.dat ≡ half_word e =
        whole_is h.layout e end b.after tl in
        let first : S (code_word d) (code_word e) =
        subst (λ z. S z (code_word e)) sl.rcode (subst (S a.after.maps.regs.rcode) tl.rcode bs.code) in
        let second : S (half_word d) (half_word e) =
        subst (λ z. S z (half_word e)) wd
        (subst (S (handed a.after.maps.regs.rcode a.after.maps.regs.dat)) we bs.whole) in
        let same : e ≡ d = opened_same d e first second op in
        let tops : end ≡ top = ends_same end top (sym (sym (ap Some sl.stk) ∙ bs.stk ∙ ap Some tl.stk)) in (
          cs,
          spec.by_leave d top sl
              (subst (λ z. ShowsLeave h.layout z top b.after) same
              (subst (λ z. ShowsLeave h.layout e z b.after) tops tl))
              (numbers_same A0 v v' x.value y.value ev) bs.newest,
          el,
        )

    pub crossed : Shows g.layout a.last a.after → Shows h.layout b.last b.after → (x y : Event Whence ℕ)
        → event_outs g.layout a.after (step_event g.layout a.last a.after) ≡ shown_of (event_to word back x)
        ∷ []
        → event_outs h.layout b.after (step_event h.layout b.last b.after) ≡ shown_of (event_to word' back' y)
        ∷ []
        → event_named calls.one (event_to name (λ (k : ℕ). k) x)
        ≡ event_named calls.other (event_to name' (λ (k : ℕ). k) y) → Crossed x y
    crossed s t x y hx hy hn = by s.0 t.0 s.1 t.1 s.2 t.2 x y
        (ap (event_outs g.layout a.after) (sym s.1) ∙ hx) (ap (event_outs h.layout b.after) (sym t.1) ∙ hy) hn
      where
        by : (e k : BorderEvent) → step_event g.layout a.last a.after ≡ Some e
            → step_event h.layout b.last b.after ≡ Some k → ShowsBy g.layout a.after e
            → ShowsBy h.layout b.after k
            → (x y : Event Whence ℕ) → event_outs g.layout a.after (Some e) ≡ shown_of (event_to word back x)
            ∷ [] → event_outs h.layout b.after (Some k) ≡ shown_of (event_to word' back' y) ∷ []
            → event_named calls.one (event_to name (λ (k : ℕ). k) x)
            ≡ event_named calls.other (event_to name' (λ (k : ℕ). k) y) → Crossed x y
        by _ _ ev ew (by_call d f sc) (by_call e k tc) (Calls part site base low m n xs)
            (Calls part' site' base' low' m' n' ys) hx hy hn =
            by_calls d e f k sc tc ev ew part site base low m n xs part' site' base' low' m' n' ys
            (head_same hx) (head_same hy) hn
        by _ _ ev ew (by_leave p d top sl) (by_leave q e end tl) (Leaves part v low k)
            (Leaves part' v' low' k') hx hy
            hn = by_leaves p q d e top end sl tl part v low k part' v' low' k' hx hy hn
        by _ _ ev ew (by_call d f sc) t (Leaves part v low k) y hx hy hn =
            absurd
            (no_leave g.layout a.after f.site f.base (shown_of (event_to word back (Leaves part v low k)))
            refl
            (head_same hx))
        by _ _ ev ew (by_leave p d top sl) t (Calls part site base low m n xs) y hx hy hn =
            absurd (no_call (leave_out (part_name g.layout p) (out_arg (Va A0))) (left_with a.after)
            (shown_of (event_to word back (Calls part site base low m n xs))) _ refl (head_same hx))
        by _ _ ev ew s (by_call d f sc) x (Leaves part v low k) hx hy hn =
            absurd
            (no_leave h.layout b.after f.site f.base
            (shown_of (event_to word' back' (Leaves part v low k))) refl
            (head_same hy))
        by _ _ ev ew s (by_leave p d top sl) x (Calls part site base low m n xs) hx hy hn =
            absurd (no_call (leave_out (part_name h.layout p) (out_arg (Vb A0))) (left_with b.after)
            (shown_of (event_to word' back' (Calls part site base low m n xs))) _ refl (head_same hy))
        by _ _ ev ew s t (Calls part site base low m n xs) (Leaves part' v' low' k') hx hy hn = absurd cc
        by _ _ ev ew s t (Leaves part v low k) (Calls part' site' base' low' m' n' ys) hx hy hn = absurd cc
