-- The teller is entered: it counts, and jumps to the trusted part's main.
use Rattle.std.proofs.Common.{◌≡◌, ◌≢◌, ℕ, ◌+◌, pos, Bool, Option, Some, refl, sym, ap, ◌∙◌, subst, arith}
use Rattle.std.specs.Ordering.{nat_cmp}
use Rattle.std.specs.FinMap.{FinMap}
use Rattle.cap_words.specs.declared.Word.{Word}
use Rattle.cap_words.specs.declared.Word.TheVariants.{Int, Mem, Sealed}
use Rattle.cap_words.specs.declared.Sealable.TheVariants.{Mem as MemIn}
use Rattle.cap_words.specs.declared.Content.TheVariants.{Mem as MemC}
use Rattle.cap_words.specs.declared.Face.TheVariants.{Memory}
use Rattle.cap_words.specs.declared.Perm.TheVariants.{Rw, Rx, Rwx}
use Rattle.cap_words.specs.declared.Lin.TheVariants.{Normal}
use Rattle.cap_words.specs.declared.CapFields.{CapFields}
use Rattle.cap_words.specs.Faces.{target_of}
use Rattle.lcm_isa.specs.declared.Instr.{Instr}
use Rattle.lcm_isa.specs.declared.Instr.TheVariants.{Load, Store, Plus, Cca, Xjmp}
use Rattle.lcm_isa.specs.declared.Operand.TheVariants.{Imm}
use Rattle.lcm_isa.specs.declared.Reg.TheVariants.{Pc, Dat, C1, C2, A0}
use Rattle.lcm_isa.specs.Numbers.{IsInstr}
use Rattle.lcm_isa.proofs.Offers.{decode_of-number_of}
use Rattle.lcm_machine.specs.declared.Place.TheVariants.{R}
use Rattle.lcm_machine.specs.Maps.{State}
use Rattle.lcm_machine.specs.Cells.{cell, set_cell}
use Rattle.lcm_machine.specs.Row.{faces, cell_faces, fetch, some, opens, row, went, step_of}
use Rattle.lcm_machine.specs.Spans.{zero_regs}
use Rattle.lcm_machine.specs.Acts.{JumpsUnder}
use Rattle.lcm_machine.proofs.Offers.{cell-set_other, cell-set_same, load_goes, plus_goes, store_goes}
use Rattle.lcm_machine.proofs.Offers.{cca_goes, xjmp_goes, stays, run_one, run_then}
use Rattle.call_sequence.specs.Sequences.{call_code, return_code, entry_code}
use Rattle.linked_starts.specs.Start.{start_cell, start_regs, part_word, stack_of}
use Rattle.linked_starts.proofs.Offers.{as_word}
use Rattle.authority_report.specs.Bounds.{plain_run, StaysIn}
use Rattle.authority_report.specs.Entered.{entered_at}
use Rattle.headline.proofs.Offers.{id}
use Rattle.law_instances.proofs.Teller.{parts}
use Rattle.law_instances.proofs.Start.{start, spans, owner, entry, cells_are}
use Rattle.law_instances.proofs.Straight.{Straight, here, on, straight_runs, straight_stays}

-- ---- words: the teller's code and data, and the halves of main

abbrev pub own_code : ℕ → CapFields
own_code n = record { perm = Rwx; lin = Normal; base = 77; end = 84; addr = pos n }

abbrev pub own_data : ℕ → CapFields
own_data n = record { perm = Rw; lin = Normal; base = 54; end = 56; addr = pos n }

abbrev pub main_code : CapFields
main_code = record { perm = Rx; lin = Normal; base = 1; end = 52; addr = pos 1 }

abbrev pub main_data : ℕ → CapFields
main_data n = record { perm = Rw; lin = Normal; base = 74; end = 75; addr = pos n }

abbrev pub zero : Word
zero = Int (pos 0)

abbrev pub code_half : Word
code_half = Sealed 10 (MemIn main_code)

abbrev pub half : Word
half = Sealed 10 (MemIn (main_data 74))

record Stand : Type 0 where
  pub at54 : start_cell parts 4 54 ≡ Some (Int (pos 5))
  pub at55 : start_cell parts 4 55 ≡ Some code_half
  pub at56 : start_cell parts 4 56 ≡ Some half
  pub at77 : start_cell parts 4 77 ≡ Some (as_word (Load A0 Dat))
  pub at78 : start_cell parts 4 78 ≡ Some (as_word (Plus A0 A0 (Imm (pos 1))))
  pub at79 : start_cell parts 4 79 ≡ Some (as_word (Store Dat A0))
  pub at80 : start_cell parts 4 80 ≡ Some (as_word (Cca Dat (Imm (pos 1))))
  pub at81 : start_cell parts 4 81 ≡ Some (as_word (Load C1 Dat))
  pub at82 : start_cell parts 4 82 ≡ Some (as_word (Cca Dat (Imm (pos 1))))
  pub at83 : start_cell parts 4 83 ≡ Some (as_word (Load C2 Dat))
  pub at84 : start_cell parts 4 84 ≡ Some (as_word (Xjmp C1 C2))

words : Stand
unfolding start_cell part_word entry_code call_code return_code
words = record {
  at54 = refl;
  at55 = refl;
  at56 = refl;
  at77 = refl;
  at78 = refl;
  at79 = refl;
  at80 = refl;
  at81 = refl;
  at82 = refl;
  at83 = refl;
  at84 = refl;
}

-- ---- memory, and memory with one more counted

abbrev Cells : Type 0
Cells = FinMap nat_cmp Word

abbrev M : Cells
M = start.state.maps.cells

abbrev N : Cells
N = set_cell M 54 (Int (pos 6))

has : (a : ℕ) (w : Word) → start_cell parts 4 a ≡ Some w → cell M a ≡ Some w
has a w e = cells_are a ∙ e

still : (a : ℕ) (w : Word) → a ≢ 54 → start_cell parts 4 a ≡ Some w → cell N a ≡ Some w
still a w other e = cell-set_other M 54 a (Int (pos 6)) other ∙ has a w e

-- ---- the states

abbrev state : ℕ → ℕ → Word → Word → Word → Cells → State Word
state at in_data a0 c1 c2 m = record {
  regs = record (zero_regs (λ w. w)) {
    pc = Mem (own_code at);
    dat = Mem (own_data in_data);
    stk = Mem (stack_of 87 4);
    a0 = a0;
    c1 = c1;
    c2 = c2;
  };
  cells = m;
  spans = spans;
}

abbrev pub entered : State Word
entered = state 77 54 zero zero zero M

abbrev pub before : State Word
before = state 84 56 (Int (pos 6)) code_half half N

abbrev pub after : State Word
after = record before {
  regs = record before.regs { pc = Mem main_code; dat = Mem (main_data 74) };
}

-- ---- its instructions

stands : (s : State Word) (a : ℕ) (i : Instr) → s.regs.pc ≡ Mem (own_code a)
    → target_of (Memory (own_code a)) ≡ Some a → cell s.cells a ≡ Some (as_word i) → IsInstr i
    → fetch (faces id s Pc) (cell_faces id s) ≡ some i (Mem (own_code (a + 1)))
unfolding faces cell_faces
stands s a i pc target there fits = rw (pc, target, there, decode_of-number_of i fits) refl

pub counts : Straight 7 entered before
counts =
    let s1 = state 78 54 (Int (pos 5)) zero zero M in
    let s2 = state 79 54 (Int (pos 6)) zero zero M in
    let s3 = state 80 54 (Int (pos 6)) zero zero N in
    let s4 = state 81 55 (Int (pos 6)) zero zero N in
    let s5 = state 82 55 (Int (pos 6)) code_half zero N in
    let s6 = state 83 56 (Int (pos 6)) code_half zero N in
    let step : IsInstr (Cca Dat (Imm (pos 1))) = record { sfits = omega arith } in
    on (Load A0 Dat) (Mem (own_code 78))
    (stands entered 77 (Load A0 Dat) refl refl (has 77 _ words.at77) tt) refl
    (load_goes id id A0 Dat (Mem (own_code 78)) entered (own_data 54) 54 (Int (pos 5)) (Int (pos 5)) refl refl
    refl refl (omega arith) (omega arith) (has 54 _ words.at54) refl refl refl)
    (on (Plus A0 A0 (Imm (pos 1))) (Mem (own_code 79))
    (stands s1 78 (Plus A0 A0 (Imm (pos 1))) refl refl (has 78 _ words.at78) (record { sfits = omega arith }))
    refl
    (plus_goes id id A0 A0 (Imm (pos 1)) (Mem (own_code 79)) s1 (pos 5) (pos 1) (pos 6) refl refl refl refl
    refl)
    (on (Store Dat A0) (Mem (own_code 80))
    (stands s2 79 (Store Dat A0) refl refl (has 79 _ words.at79) tt) refl
    (store_goes id id Dat A0 (Mem (own_code 80)) s2 s2 (own_data 54) 54 (Int (pos 5)) refl refl refl
    (omega arith) (omega arith) (has 54 _ words.at54) (stays id id s2 (R A0) refl))
    (on (Cca Dat (Imm (pos 1))) (Mem (own_code 81))
    (stands s3 80 (Cca Dat (Imm (pos 1))) refl refl (still 80 _ (omega arith) words.at80) step) refl
    (cca_goes id id Dat (Imm (pos 1)) (Mem (own_code 81)) s3 (own_data 54) (pos 1) (pos 55) refl refl refl
    refl refl)
    (on (Load C1 Dat) (Mem (own_code 82))
    (stands s4 81 (Load C1 Dat) refl refl (still 81 _ (omega arith) words.at81) tt) refl
    (load_goes id id C1 Dat (Mem (own_code 82)) s4 (own_data 55) 55 code_half code_half refl refl refl refl
    (omega arith) (omega arith) (still 55 _ (omega arith) words.at55) refl refl refl)
    (on (Cca Dat (Imm (pos 1))) (Mem (own_code 83))
    (stands s5 82 (Cca Dat (Imm (pos 1))) refl refl (still 82 _ (omega arith) words.at82) step) refl
    (cca_goes id id Dat (Imm (pos 1)) (Mem (own_code 83)) s5 (own_data 55) (pos 1) (pos 56) refl refl refl
    refl refl)
    (on (Load C2 Dat) (Mem (own_code 84))
    (stands s6 83 (Load C2 Dat) refl refl (still 83 _ (omega arith) words.at83) tt) refl
    (load_goes id id C2 Dat (Mem (own_code 84)) s6 (own_data 56) 56 half half refl refl refl refl
    (omega arith) (omega arith) (still 56 _ (omega arith) words.at56) refl refl refl) here))))))

-- ---- and the jump

at_jump : fetch (faces id before Pc) (cell_faces id before) ≡ some (Xjmp C1 C2) (Mem (own_code 85))
at_jump = stands before 84 (Xjmp C1 C2) refl refl (still 84 _ (omega arith) words.at84) tt

jumps_on : row id id (Xjmp C1 C2) (Mem (own_code 85)) before ≡ went after
jumps_on =
    xjmp_goes id id C1 C2 (Mem (own_code 85)) before before 10 main_code (MemC (main_data 74)) refl refl refl
    refl refl (stays id id before (R C2) refl)

steps_on : step_of id id before ≡ went after
unfolding step_of
steps_on = rw (at_jump, jumps_on) refl

pub jumps : JumpsUnder id id before 10
unfolding opens
jumps = (
  C1,
  C2,
  (Mem (own_code 85), at_jump),
  record { seal = 10; content = MemC main_code },
  refl,
  refl,
  after,
  steps_on,
)

-- ---- so it is from the start

begins : entered_at start owner entry ≡ entered
unfolding start_regs
begins = refl

pub goes : plain_run 7 (entered_at start owner entry) ≡ went before
goes = ap (plain_run 7) begins ∙ straight_runs counts

pub stays_in : (own : ℕ → Bool) → StaysIn own 7 (entered_at start owner entry)
stays_in own = subst (λ s. StaysIn own 7 s) (sym begins) (straight_stays own counts)

pub arrives : plain_run 8 (entered_at start owner entry) ≡ went after
arrives =
    ap (plain_run 8) begins
    ∙ run_then id id 7 1 entered before (went after) (straight_runs counts) (run_one id id before ∙ steps_on)

pub changed : cell before.cells 54 ≢ cell start.state.maps.cells 54
changed e =
    let six : 6 ≡ 5 = ap number (sym (cell-set_same M 54 (Int (pos 6))) ∙ e ∙ has 54 _ words.at54) in
    omega (arith, six)
  where
    number : Option Word → ℕ
    number (Some (Int (pos n))) = n
    number _ = 0
