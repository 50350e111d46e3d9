-- One instruction and one step, said once for words of any kind: `look` is the plain word that the table
-- reads in a word, and `plain` makes a word of a plain one. On the plain machine both are the identity.
use Rattle.std.specs.Prelude.{◌≡◌, ℕ, ℤ, pos, negsuc, ◌+ℤ◌, false, not, ◌&&◌, Option, Some, None, unwrap_or}
use Rattle.std.specs.Prelude.{if◌then◌else◌, IsSome, Result, Ok, Err}
use Rattle.lcm_machine.specs.declared.Place.{Place}
use Rattle.lcm_machine.specs.declared.Place.TheVariants.{R, Cell}
use Rattle.lcm_isa.specs.declared.Reg.{Reg}
use Rattle.lcm_isa.specs.declared.Reg.TheVariants.{Pc, Dat}
use Rattle.lcm_machine.specs.declared.FailCause.{FailCause}
use Rattle.lcm_machine.specs.declared.FailCause.TheVariants.{F1, F2, F3}
use Rattle.lcm_isa.specs.declared.Instr.{Instr}
use Rattle.lcm_isa.specs.declared.Instr.TheVariants.{Xjmp}
use Rattle.cap_words.specs.declared.CapFields.{CapFields}
use Rattle.cap_words.specs.declared.Word.{Word}
use Rattle.cap_words.specs.declared.Word.TheVariants.{Mem}
use Rattle.cap_words.specs.declared.Face.{Face}
use Rattle.cap_words.specs.declared.Opened.{Opened}
use Rattle.cap_words.specs.declared.Content.{Content}
use Rattle.cap_words.specs.declared.Face.TheVariants.{Number, Memory, Seals, Sealed}
use Rattle.lcm_machine.specs.Plan.{Plan, Fails, Halts, Goes}
use Rattle.lcm_machine.specs.declared.plan.Effect.{Effect}
use Rattle.lcm_machine.specs.declared.plan.Made.{Made}
use Rattle.lcm_machine.specs.declared.plan.Moved.{Moved}
use Rattle.cap_words.specs.Linear.{lin_is, is_linear, zero_word}
use Rattle.cap_words.specs.Face.{face_of, opened_of}
use Rattle.lcm_isa.specs.Numbers.{decode_of}
use Rattle.lcm_machine.specs.Maps.{State}
use Rattle.lcm_machine.specs.Places.{reg, set_reg}
use Rattle.lcm_machine.specs.Cells.{cell, set_cell}
use Rattle.lcm_machine.specs.Table.{plan, target, is_pc, makes, moves, made, no_effect, unsealed}
use Rattle.cap_words.specs.Faces.{target_of, may_run}

-- the word at a place, if the place is there
abbrev pub word_at : {W : Type 0} → State W → Place → Option W
word_at s (R r) = Some (reg s.regs r)
word_at s (Cell a) = cell s.cells a

-- the word at a place; integer 0 where an address has no cell
abbrev pub word_in : {W : Type 0} → (Word → W) → State W → Place → W
word_in plain s (R r) = reg s.regs r
word_in plain s (Cell a) = unwrap_or (cell s.cells a) (zero_word plain)

-- a place is set to a word
abbrev pub put : {W : Type 0} → State W → Place → W → State W
put s (R r) w = record s { regs = set_reg s.regs r w }
put s (Cell a) w = record s { cells = set_cell s.cells a w }

-- a register is always there, and a cell where the address has one
abbrev pub HasPlace : {W : Type 0} → State W → Place → Type 0
HasPlace s (R r) = Unit {0}
HasPlace s (Cell a) = IsSome (cell s.cells a)

-- a word is taken from a place: a linear one leaves integer 0, another stays
unfoldable pub clear : {W : Type 0} → (W → Word) → (Word → W) → State W → Place → State W
clear look plain s p = if is_linear (look (word_in plain s p)) then put s p (zero_word plain) else s

-- the parts of an effect: a word moved, a register's word taken and spent, a new word for a register, and
-- pc's next word
abbrev pub move_on : {W : Type 0} → (W → Word) → (Word → W) → State W → Option Moved → State W
move_on look plain s None = s
move_on look plain s (Some m) = put (clear look plain s m.from) m.to (word_in plain s m.from)

abbrev pub spend : {W : Type 0} → (W → Word) → (Word → W) → State W → Option Reg → State W
spend look plain s None = s
spend look plain s (Some r) = clear look plain s (R r)

abbrev pub make : {W : Type 0} → (Word → W) → State W → Option Made → State W
make plain s None = s
make plain s (Some m) = put s (R m.reg) (plain m.word)

abbrev pub go_on : {W : Type 0} → (Word → W) → State W → Option Word → State W
go_on plain s None = s
go_on plain s (Some w) = put s (R Pc) (plain w)

-- an effect carried out: takings before settings, settings from left to right
unfoldable pub perform : {W : Type 0} → (W → Word) → (Word → W) → State W → Effect → State W
perform look plain s e =
    let moved = move_on look plain s e.moved in
    let taken = spend look plain (spend look plain moved e.spent) e.also_spent in
    go_on plain (make plain (make plain taken e.first) e.second) e.next

-- the faces of the registers
unfoldable pub faces : {W : Type 0} → (W → Word) → State W → Reg → Face
faces look s r = face_of (look (reg s.regs r))

abbrev pub look_face : {W : Type 0} → (W → Word) → Option W → Option Face
look_face look None = None
look_face look (Some w) = Some (face_of (look w))

-- the faces of the cells
unfoldable pub cell_faces : {W : Type 0} → (W → Word) → State W → ℕ → Option Face
cell_faces look s a = look_face look (cell s.cells a)

-- the sealed words of registers, opened
unfoldable pub opens : {W : Type 0} → (W → Word) → State W → Reg → Option Opened
opens look s r = opened_of (look (reg s.regs r))

-- the face of the cell, where an address is named and has one
abbrev pub face_there : (ℕ → Option Face) → Option ℕ → Option Face
face_there cells None = None
face_there cells (Some a) = cells a

-- the plan of an instruction in a state, where `next` is pc's word with its address raised by one
unfoldable pub plan_in : {W : Type 0} → (W → Word) → State W → Instr → Word → Plan
plan_in look s i next =
    plan i (faces look s) (opens look s) (face_there (cell_faces look s) (target i (faces look s))) next

-- the plan that a row's answer is: an effect to carry out, or the cause of a failure
abbrev pub planned : Result Effect FailCause → Plan
planned (Ok e) = Goes e
planned (Err f) = Fails f

-- the plans that other answers of rows are, where pc goes on: a register gets a word, or a word is moved
abbrev pub row_gives : Reg → Result Word FailCause → Word → Plan
row_gives r (Ok w) next = makes r w next
row_gives r (Err f) next = Fails f

abbrev pub row_moves : Result Moved FailCause → Word → Plan
row_moves (Ok m) next = moves m.from m.to (Some next)
row_moves (Err f) next = Fails f

-- that of an `xjmp`: its code and its data, unsealed
abbrev pub row_jumps : Reg → Result (CapFields × Content) FailCause → Plan
row_jumps r (Ok p) = Goes (record no_effect {
  spent = Some r;
  first = made Pc (Mem p.0);
  second = made Dat (unsealed p.1);
})
row_jumps r (Err f) = Fails f

-- those of a `split` and a `splice`
abbrev pub row_splits : Reg → Reg → Reg → Result (CapFields × CapFields) FailCause → Word → Plan
row_splits r1 r2 r3 (Ok p) next = Goes (record no_effect {
  spent = Some r3;
  first = made r1 (Mem p.0);
  second = made r2 (Mem p.1);
  next = Some next;
})
row_splits r1 r2 r3 (Err f) next = Fails f

abbrev pub row_splices : Reg → Reg → Reg → Result CapFields FailCause → Word → Plan
row_splices r1 r2 r3 (Ok c) next = Goes (record no_effect {
  spent = Some r2;
  also_spent = Some r3;
  first = made r1 (Mem c);
  next = Some next;
})
row_splices r1 r2 r3 (Err f) next = Fails f

-- the places of a move are there
abbrev pub MoveFits : {W : Type 0} → State W → Option Moved → Type 0
MoveFits s None = Unit {0}
MoveFits s (Some m) = HasPlace s m.from × HasPlace s m.to

-- ---- pc goes on in its own word

-- pc's word is a normal memory capability, and this is it at another address
abbrev pub GoesOnTo : {W : Type 0} → (W → Word) → State W → Word → Type 0
GoesOnTo look s w = (c : CapFields) × (addr : ℤ) × (look (reg s.regs Pc) ≡ Mem c) × (lin_is c.lin ≡ false)
    × (w ≡ Mem (record c { addr = addr }))

abbrev pub IsNoPc : Place → Type 0
IsNoPc (R r) = is_pc r ≡ false
IsNoPc (Cell a) = Unit {0}

abbrev pub MovesElsewhere : Option Moved → Type 0
MovesElsewhere None = Unit {0}
MovesElsewhere (Some m) = IsNoPc m.to

abbrev pub MakesElsewhere : Option Made → Type 0
MakesElsewhere None = Unit {0}
MakesElsewhere (Some m) = is_pc m.reg ≡ false

-- pc's next word, where there is one, is its own at another address
abbrev pub NextFits : {W : Type 0} → (W → Word) → State W → Option Word → Type 0
NextFits look s None = Unit {0}
NextFits look s (Some w) = GoesOnTo look s w

-- and an effect sets pc to no other word beside it
abbrev pub SetsElsewhere : Option Word → Effect → Type 0
SetsElsewhere None e = Unit {0}
SetsElsewhere (Some w) e = MovesElsewhere e.moved × MakesElsewhere e.first × MakesElsewhere e.second

-- an effect can be carried out in a state
abbrev pub CanPerform : {W : Type 0} → (W → Word) → State W → Effect → Type 0
CanPerform look s e = MoveFits s e.moved × NextFits look s e.next × SetsElsewhere e.next e

-- how a step ends: with a new state, or with an end that leaves the state as it was
pub data Outcome (W : Type 0) : Type 0 where
  went : State W → Outcome W
  halted : Outcome W
  failed : FailCause → ℤ → Outcome W

-- pc's address, or -1 where pc holds no memory capability
abbrev pub pc_of : Face → ℤ
pc_of (Memory c) = c.addr
pc_of _ = negsuc 0

unfoldable pub pc_at : {W : Type 0} → (W → Word) → State W → ℤ
pc_at look s = pc_of (faces look s Pc)

-- a failure names its cause and pc's address
abbrev pub outcome : {W : Type 0} → (W → Word) → (Word → W) → State W → Plan → Outcome W
outcome look plain s (Fails f) = failed f (pc_at look s)
outcome look plain s Halts = halted
outcome look plain s (Goes e) = went (perform look plain s e)

-- one instruction
unfoldable pub row : {W : Type 0} → (W → Word) → (Word → W) → Instr → Word → State W → Outcome W
row look plain i next s = outcome look plain s (plan_in look s i next)

-- what pc names: an instruction, with pc's word at the next address, or nothing that can run
pub data Fetched : Type 0 where
  none : FailCause → Fetched
  some : Instr → Word → Fetched

-- F3 where the cell holds no instruction
abbrev pub fetch_decoded : CapFields → Option Instr → Fetched
fetch_decoded c None = none F3
fetch_decoded c (Some i) = some i (Mem (record c { addr = c.addr +ℤ pos 1 }))

-- F2 where pc's address is outside its range or has no cell
abbrev pub fetch_word : CapFields → Option Face → Fetched
fetch_word c None = none F2
fetch_word c (Some (Number z)) = fetch_decoded c (decode_of z)
fetch_word c (Some (Memory b)) = none F3
fetch_word c (Some (Seals b)) = none F3
fetch_word c (Some (Sealed b)) = none F3

-- F1 where pc isn't a normal memory capability with rx or rwx
abbrev pub fetch : Face → (ℕ → Option Face) → Fetched
fetch (Memory c) cells =
    if not (lin_is c.lin) && may_run c.perm
    then fetch_word c (face_there cells (target_of (Memory c)))
    else none F1
fetch _ cells = none F1

-- the register whose word an `xjmp` opens as code
abbrev pub jump_of : Instr → Option Reg
jump_of (Xjmp r1 r2) = Some r1
jump_of _ = None

-- where pc names one
abbrev pub jump_in : Fetched → Option Reg
jump_in (none f) = None
jump_in (some i next) = jump_of i

unfoldable pub jump_at : {W : Type 0} → (W → Word) → State W → Option Reg
jump_at look s = jump_in (fetch (faces look s Pc) (cell_faces look s))

abbrev pub step_fetched : {W : Type 0} → (W → Word) → (Word → W) → State W → Fetched → Outcome W
step_fetched look plain s (none f) = failed f (pc_at look s)
step_fetched look plain s (some i next) = row look plain i next s

-- one step of the machine: it fetches and carries out one instruction
unfoldable pub step_of : {W : Type 0} → (W → Word) → (Word → W) → State W → Outcome W
step_of look plain s = step_fetched look plain s (fetch (faces look s Pc) (cell_faces look s))
