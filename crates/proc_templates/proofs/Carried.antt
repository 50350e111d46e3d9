-- Items that stand in a component, and the walk over them.
use Rattle.std.proofs.lemmas.Bool.{and_parts}
use Rattle.std.proofs.Common.{◌≡◌, ℕ, ◌+◌, ◌≤◌, inl, true, List, [], ◌∷◌, ◌++◌, length, map, Some, None, refl}
use Rattle.std.proofs.Common.{subst, arith, le-leb, ℤ, pos}
use Rattle.std.proofs.lemmas.Int.{ints}
use Rattle.std.specs.Prelude.{nat_le, ◌+ℤ◌}
use Rattle.std.specs.List.{list_all}
use Rattle.component_file.specs.declared.TheConstants.{LAST_OFFSET}
use Rattle.component_file.specs.declared.component.ComponentFields.{ComponentFields}
use Rattle.lcm_isa.specs.declared.Reg.{Reg}
use Rattle.lcm_isa.specs.declared.Reg.TheVariants.{Pc, Rcode, Rdata, Stk, Dat, T1, T2, C1, C2, A0, A1, A2, A3}
use Rattle.lcm_isa.specs.declared.Reg.TheVariants.{G0, G1, G2}
use Rattle.lcm_isa.specs.declared.Operand.TheVariants.{R, Imm}
use Rattle.lcm_isa.specs.declared.Instr.{Instr}
use Rattle.lcm_isa.specs.declared.Instr.TheVariants.{Halt, Jmp, Jnz, Move, Cca, Xjmp}
use Rattle.call_sequence.specs.Sequences.{distance}
use Rattle.call_sequence.specs.Flow.{led}
use Rattle.call_sequence.specs.Places.{declared}
use Rattle.proc_templates.specs.Items.{Spot, Item, does, guards, goes, goes_if, finishes, label, site, entry}
use Rattle.proc_templates.specs.Items.{leaves, leading, zero_of, wiped, FAIL_AT}
use Rattle.proc_templates.specs.Compiled.{label_row}
use Rattle.proc_templates.specs.Ready.{is_low, is_quiet}
use Rattle.proc_templates.specs.Free.{is_guarded, ends_or_goes, is_free, behind, after}
use Rattle.proc_templates.proofs.Onwards.{Stands, AtMostLabel, Onward, Aimed, Aims, dead, live, IsTarget}
use Rattle.proc_templates.proofs.Onwards.{BeginsSite, BeginsEntry, over_quiet, over_halt, aimed_quiet, aim}
use Rattle.proc_templates.proofs.Onwards.{fail_target, jumps, aimed_jnz, jumps_if, zero_t2, over_site}
use Rattle.proc_templates.proofs.Onwards.{aimed_on, none_on, bare_none, moved, steps}

led_at : (o p : ℕ) (z : ℤ) → pos o +ℤ z ≡ pos p → p ≤ LAST_OFFSET → led o z ≡ Some p
led_at o p z e h = let l : nat_le p LAST_OFFSET ≡ true = le-leb p LAST_OFFSET h in rw (e, l) refl

pub led_there : (o p : ℕ) → p ≤ LAST_OFFSET → led o (distance o p) ≡ Some p
led_there o p h = led_at o p (distance o p) (omega (arith, ints)) h

pub led_on : (o n p : ℕ) → o + n ≡ p → p ≤ LAST_OFFSET → led o (pos n) ≡ Some p
led_on o n p e h = led_at o p (pos n) (omega (arith, ints, e)) h

pub led_back : (o n p : ℕ) → p + n ≡ o → p ≤ LAST_OFFSET → led o (distance n 0) ≡ Some p
led_back o n p e h = led_at o p (distance n 0) (omega (arith, ints, e)) h

module _ (c : ComponentFields) where
  -- an instruction stands here, and no row is declared
  pub record Inner (o : ℕ) (i : Instr) : Type 0 where
    pub stands : Stands c o i
    pub bare : declared c o ≡ None

  pub record First (o : ℕ) (i : Instr) : Type 0 where
    pub stands : Stands c o i
    pub label : AtMostLabel c o

  abbrev pub Run : ℕ → List Instr → Type 0
  Run o [] = Unit {0}
  Run o (i ∷ is) = Inner o i × Run (o + 1) is

  abbrev pub Starts : ℕ → List Instr → Type 0
  Starts o [] = Unit {0}
  Starts o (i ∷ is) = First o i × Run (o + 1) is

  abbrev pub Here : Spot → ℕ → Item → Type 0
  Here spot o (does i) = First o i
  Here spot o (guards is) = Starts o
      (Move T2 (R Pc) ∷ Cca T2 (Imm (distance o FAIL_AT)) ∷ (is ++ (zero_of T2 ∷ [])))
  Here spot o (goes far) = Starts o (leading far (Jmp T2))
  Here spot o (goes_if far r) = Starts o (leading far (Jnz T2 r))
  Here spot o finishes = Starts o (leading (distance o spot.epilogue) (Jmp T2))
  Here spot o label = declared c o ≡ Some label_row
  Here spot o site = BeginsSite c o
  Here spot o entry = BeginsEntry c o
  Here spot o leaves = Starts o (zero_of T2 ∷ (map zero_of wiped ++ (Xjmp Rcode Rdata ∷ [])))

  abbrev pub Carries : Spot → ℕ → List Item → Type 0
  Carries spot o [] = Unit {0}
  Carries spot o (x ∷ xs) = Here spot o x × Carries spot (behind o x) xs

  pub carries_left : (spot : Spot) (o : ℕ) (a b : List Item) → Carries spot o (a ++ b) → Carries spot o a
  carries_left spot o [] b h = tt
  carries_left spot o (x ∷ a) b h = (h.0, carries_left spot (behind o x) a b h.1)

  pub carries_right : (spot : Spot) (o : ℕ) (a b : List Item) → Carries spot o (a ++ b)
      → Carries spot (after o a) b
  carries_right spot o [] b h = h
  carries_right spot o (x ∷ a) b h = carries_right spot (behind o x) a b h.1

  -- ---- jumps

  pub over_go : (o p : ℕ) (far : ℤ) → Starts o (leading far (Jmp T2)) → led o far ≡ Some p → IsTarget c p
      → Onward c o → Onward c (o + 3)
  over_go o p far h l t on =
      let e : o + 1 + 1 + 1 ≡ o + 3 = omega arith in
      subst (Onward c) e (jumps c (o + 1 + 1) p h.1.1.0.stands h.1.1.0.bare t
      (aim c o p far h.0.stands h.0.label h.1.0.stands h.1.0.bare l on))

  pub over_go_if : (o p : ℕ) (far : ℤ) (r : Reg) → is_low r ≡ true → Starts o (leading far (Jnz T2 r))
      → led o far ≡ Some p → IsTarget c p → Onward c o → Onward c (o + 3)
  over_go_if o p far r low h l t on =
      let e : o + 1 + 1 + 1 ≡ o + 3 = omega arith in
      subst (Onward c) e (jumps_if c (o + 1 + 1) p r low h.1.1.0.stands h.1.1.0.bare t
      (aim c o p far h.0.stands h.0.label h.1.0.stands h.1.0.bare l on))

  -- ---- guards

  aims_on : (o p : ℕ) → Aims c o p → Onward c o
  aims_on o p (dead h) = none_on c o h
  aims_on o p (live a) = aimed_on c o p a

  guarded : (o p : ℕ) (i : Instr) → Inner o i → IsTarget c p → is_guarded i ≡ true → Aimed c o p
      → Aimed c (o + 1) p
  unfolding is_guarded is_quiet
  guarded o p (Jnz Pc r) h t g a = cc
  guarded o p (Jnz Rcode r) h t g a = cc
  guarded o p (Jnz Rdata r) h t g a = cc
  guarded o p (Jnz Stk r) h t g a = cc
  guarded o p (Jnz Dat r) h t g a = cc
  guarded o p (Jnz T1 r) h t g a = cc
  guarded o p (Jnz T2 r) h t g a = aimed_jnz c o p r g h.stands h.bare t a
  guarded o p (Jnz C1 r) h t g a = cc
  guarded o p (Jnz C2 r) h t g a = cc
  guarded o p (Jnz A0 r) h t g a = cc
  guarded o p (Jnz A1 r) h t g a = cc
  guarded o p (Jnz A2 r) h t g a = cc
  guarded o p (Jnz A3 r) h t g a = cc
  guarded o p (Jnz G0 r) h t g a = cc
  guarded o p (Jnz G1 r) h t g a = cc
  guarded o p (Jnz G2 r) h t g a = cc
  guarded o p i h t g a = aimed_quiet c o p i h.stands h.bare g a

  guarded_aims : (o p : ℕ) (i : Instr) → Inner o i → IsTarget c p → is_guarded i ≡ true → Aims c o p
      → Aims c (o + 1) p
  guarded_aims o p i h t g (dead n) = dead (moved c _ _ (bare_none c o i h.stands h.bare) (steps c _ n))
  guarded_aims o p i h t g (live a) = live (guarded o p i h t g a)

  over_guarded : (o p : ℕ) (is : List Instr) → Run o (is ++ (zero_of T2 ∷ [])) → IsTarget c p
      → list_all is_guarded is ≡ true → Aims c o p → Onward c (o + 1 + length is)
  over_guarded o p [] h t g a =
      let e : o + 1 ≡ o + 1 + 0 = omega arith in
      subst (Onward c) e (zero_t2 c o h.0.stands (inl h.0.bare) (aims_on o p a))
  over_guarded o p (i ∷ is) h t g a =
      let e : o + 1 + 1 + length is ≡ o + 1 + length (i ∷ is) = omega arith in
      subst (Onward c) e (over_guarded (o + 1) p is h.1 t
      ((and_parts (is_guarded i) (list_all is_guarded is) g).1)
      (guarded_aims o p i h.0 t ((and_parts (is_guarded i) (list_all is_guarded is) g).0) a))

  module _ (fails : c.fail_at ≡ Some FAIL_AT) where
    over_guards : (o : ℕ) (is : List Instr)
        → Starts o (Move T2 (R Pc) ∷ Cca T2 (Imm (distance o FAIL_AT)) ∷ (is ++ (zero_of T2 ∷ [])))
        → list_all is_guarded is ≡ true → Onward c o → Onward c (o + 3 + length is)
    over_guards o is h g on =
        let e : o + 1 + 1 + 1 + length is ≡ o + 3 + length is = omega arith in
        subst (Onward c) e (over_guarded (o + 1 + 1) FAIL_AT is h.1.1 (fail_target c FAIL_AT fails) g
        (aim c o FAIL_AT (distance o FAIL_AT) h.0.stands h.0.label h.1.0.stands h.1.0.bare
        (led_there o FAIL_AT (omega arith)) on))

    over_does : (o : ℕ) (i : Instr) → First o i → ends_or_goes i ≡ true → Onward c o → Onward c (o + 1)
    unfolding ends_or_goes
    over_does o Halt h g on = over_halt c o h.stands h.label on
    over_does o i h g on = over_quiet c o i h.stands h.label g on

    over_free : (spot : Spot) (o : ℕ) (x : Item) → Here spot o x → is_free x ≡ true → Onward c o
        → Onward c (behind o x)
    unfolding is_free
    over_free spot o (does i) h g on = over_does o i h g on
    over_free spot o (guards is) h g on = over_guards o is h g on
    over_free spot o (goes far) h g on = cc
    over_free spot o (goes_if far r) h g on = cc
    over_free spot o finishes h g on = cc
    over_free spot o label h g on = on
    over_free spot o site h g on = over_site c o h on
    over_free spot o entry h g on = cc
    over_free spot o leaves h g on = cc

    -- items that need nothing
    pub over_all : (spot : Spot) (o : ℕ) (xs : List Item) → Carries spot o xs → list_all is_free xs ≡ true
        → Onward c o → Onward c (after o xs)
    over_all spot o [] h g on = on
    over_all spot o (x ∷ xs) h g on =
        over_all spot (behind o x) xs h.1 ((and_parts (is_free x) (list_all is_free xs) g).1)
        (over_free spot o x h.0 ((and_parts (is_free x) (list_all is_free xs) g).0) on)
