-- What is noted of a state before a step, and a state with that put back.
use Rattle.std.specs.Prelude.{ℕ, ◌≤◌, Option, Some, None, IsSome}
use Rattle.std.specs.Ordering.{nat_cmp}
use Rattle.std.specs.FinMap.{FinMap}
use Rattle.cap_words.specs.declared.Word.{Word}
use Rattle.lcm_isa.specs.declared.Reg.{Reg}
use Rattle.lcm_isa.specs.declared.Reg.TheVariants.{Pc, Dat}
use Rattle.lcm_isa.specs.declared.Operand.TheVariants.{R as InReg, Imm}
use Rattle.lcm_isa.specs.declared.Instr.{Instr}
use Rattle.lcm_isa.specs.declared.Instr.TheVariants.{Fail, Halt, Jmp, Jnz, Gettype, Geta, Getb, Gete, Getp}
use Rattle.lcm_isa.specs.declared.Instr.TheVariants.{Getlin, Move, Store, Load, Cca, Restrict, Lt, Plus}
use Rattle.lcm_isa.specs.declared.Instr.TheVariants.{Minus, Seta2b, Xjmp, Cseal, Split, Splice}
use Rattle.lcm_machine.specs.declared.End.{End}
use Rattle.lcm_machine.specs.declared.undo.Changed.{Changed}
use Rattle.lcm_machine.specs.declared.undo.OldReg.{OldReg}
use Rattle.lcm_machine.specs.declared.undo.OldCell.{OldCell}
use Rattle.lcm_machine.specs.declared.undo.Undo.{Undo}
use Rattle.lcm_machine.specs.Maps.{Regs, State}
use Rattle.lcm_machine.specs.Places.{reg, set_reg}
use Rattle.lcm_machine.specs.Cells.{cell, set_cell}
use Rattle.lcm_machine.specs.Table.{target}
use Rattle.lcm_machine.specs.Row.{faces, cell_faces, fetch, Fetched, none, some}
use Rattle.lcm_machine.specs.Run.{Run}

-- ---- putting back

abbrev pub old_reg : Regs Word → Option OldReg → Regs Word
old_reg rs None = rs
old_reg rs (Some o) = set_reg rs o.reg o.word

abbrev pub old_regs : Regs Word → Word → Option OldReg → Option OldReg → Option OldReg → Regs Word
old_regs rs pc first second third = old_reg (old_reg (old_reg (set_reg rs Pc pc) first) second) third

abbrev pub old_cell : FinMap nat_cmp Word → Option OldCell → FinMap nat_cmp Word
old_cell m None = m
old_cell m (Some o) = set_cell m o.at o.word

abbrev pub IsCellThere : FinMap nat_cmp Word → Option OldCell → Type 0
IsCellThere m None = Unit {0}
IsCellThere m (Some o) = IsSome (cell m o.at)

-- a state with the registers, the cell, the count and the end of a note
unfoldable pub back : Run → Undo → Run
back s u = record {
  maps = record s.maps {
    regs = old_regs s.maps.regs u.pc u.first u.second u.third;
    cells = old_cell s.maps.cells u.cell;
  };
  count = u.count;
  end = u.end;
}

-- a note can be put back into a state that has its cell, and whose count isn't below the noted one
unfoldable pub CanUndo : Run → Undo → Type 0
CanUndo s u = IsCellThere s.maps.cells u.cell × (u.count ≤ s.count)

-- ---- what a step notes

abbrev changes_none : Changed
changes_none = record { first = None; second = None; third = None }

abbrev changes : Reg → Changed
changes r = record { first = Some r; second = None; third = None }

abbrev changes_two : Reg → Reg → Changed
changes_two r q = record { first = Some r; second = Some q; third = None }

abbrev changes_three : Reg → Reg → Reg → Changed
changes_three r q p = record { first = Some r; second = Some q; third = Some p }

-- the registers besides pc that an instruction may change
unfoldable pub changed_by : Instr → Changed
changed_by Fail = changes_none
changed_by Halt = changes_none
changed_by (Jmp r1) = changes r1
changed_by (Jnz r1 r2) = changes r1
changed_by (Gettype r1 r2) = changes r1
changed_by (Geta r1 r2) = changes r1
changed_by (Getb r1 r2) = changes r1
changed_by (Gete r1 r2) = changes r1
changed_by (Getp r1 r2) = changes r1
changed_by (Getlin r1 r2) = changes r1
changed_by (Move r1 (InReg r2)) = changes_two r1 r2
changed_by (Move r1 (Imm z)) = changes r1
changed_by (Store r1 r2) = changes r2
changed_by (Load r1 r2) = changes r1
changed_by (Cca r1 n) = changes r1
changed_by (Restrict r1 n) = changes r1
changed_by (Lt r1 r2 n) = changes r1
changed_by (Plus r1 r2 n) = changes r1
changed_by (Minus r1 r2 n) = changes r1
changed_by (Seta2b r1) = changes r1
changed_by (Xjmp r1 r2) = changes_two r2 Dat
changed_by (Cseal r1 r2) = changes r1
changed_by (Split r1 r2 r3 n) = changes_three r1 r2 r3
changed_by (Splice r1 r2 r3) = changes_three r1 r2 r3

-- those of what was fetched, and the cell that it addresses
abbrev pub changed_in : Fetched → Changed
changed_in (none f) = changes_none
changed_in (some i next) = changed_by i

abbrev pub target_in : Fetched → State Word → Option ℕ
target_in (none f) s = None
target_in (some i next) s = target i (faces (λ w. w) s)

abbrev pub noted_reg : Regs Word → Option Reg → Option OldReg
noted_reg rs None = None
noted_reg rs (Some r) = Some (record { reg = r; word = reg rs r })

abbrev pub noted_at : ℕ → Option Word → Option OldCell
noted_at a None = None
noted_at a (Some w) = Some (record { at = a; word = w })

abbrev pub noted_cell : FinMap nat_cmp Word → Option ℕ → Option OldCell
noted_cell m None = None
noted_cell m (Some a) = noted_at a (cell m a)

abbrev pub notes_by : Fetched → State Word → ℕ → Option End → Undo
notes_by f s count end = record {
  count = count;
  end = end;
  pc = reg s.regs Pc;
  first = noted_reg s.regs (changed_in f).first;
  second = noted_reg s.regs (changed_in f).second;
  third = noted_reg s.regs (changed_in f).third;
  cell = noted_cell s.cells (target_in f s);
}

-- what is noted of a state with a count and an end
unfoldable pub notes : State Word → ℕ → Option End → Undo
notes s count end = notes_by (fetch (faces (λ w. w) s Pc) (cell_faces (λ w. w) s)) s count end
