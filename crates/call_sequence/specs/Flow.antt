-- What each instruction asks of the kinds of the registers, where it may jump, and the row after it.
use Rattle.std.specs.Prelude.{ℕ, nat_le, Bool, true, false, ◌&&◌, not, ℤ, pos, negsuc, ◌+ℤ◌, List, [], ◌∷◌}
use Rattle.std.specs.Prelude.{Option, Some, None, if◌then◌else◌}
use Rattle.std.specs.List.{list_all}
use Rattle.component_file.specs.declared.TheConstants.{LAST_OFFSET}
use Rattle.component_file.specs.declared.component.Kind.{Kind}
use Rattle.component_file.specs.declared.component.Kind.TheVariants as kind
use Rattle.lcm_isa.specs.declared.Reg.{Reg}
use Rattle.lcm_isa.specs.declared.Reg.TheVariants.{Rcode, Rdata, Stk, T1, T2, C1, C2, A0, A1, A2, A3}
use Rattle.lcm_isa.specs.declared.Reg.TheVariants.{G0, G1, G2}
use Rattle.lcm_isa.specs.declared.Operand.{Operand}
use Rattle.lcm_isa.specs.declared.Operand.TheVariants.{R, Imm}
use Rattle.lcm_isa.specs.declared.Instr.{Instr}
use Rattle.lcm_isa.specs.declared.Instr.TheVariants.{Fail, Halt, Jmp, Jnz, Gettype, Geta, Getb, Gete, Getp}
use Rattle.lcm_isa.specs.declared.Instr.TheVariants.{Getlin, Move, Store, Load, Cca, Restrict, Lt, Plus}
use Rattle.lcm_isa.specs.declared.Instr.TheVariants.{Minus, Seta2b, Xjmp, Cseal, Split, Splice}
use Rattle.lcm_machine.specs.Table.{is_pc}
use Rattle.call_sequence.specs.declared.flow.Flow.{Flow}
use Rattle.call_sequence.specs.declared.flow.Flow.TheVariants.{Breaks as breaks, Flows as flows}
use Rattle.call_sequence.specs.Kinds.{Row, kind_of, set_kind, below_any}

-- a condition: else the rule of this number is broken
unfoldable pub ask : ℕ → Bool → Flow → Flow
ask rule b f = if b then f else breaks rule

-- a register that is set, which pc can't be
abbrev pub into : Reg → Flow → Flow
into r f = ask 5 (not (is_pc r)) f

-- the kind of a register that is read, at an offset
abbrev pub source : ℕ → Row → Reg → Kind
source o row r = if is_pc r then kind.Pc o else kind_of row r

abbrev pub is_top : Kind → Bool
is_top kind.Top = true
is_top _ = false

abbrev pub is_stk : Kind → Bool
is_stk kind.Stk = true
is_stk _ = false

-- the part's data or the stack
abbrev pub is_area : Kind → Bool
is_area kind.DataCap = true
is_area kind.Stk = true
is_area _ = false

-- its kind is known, so that it may be read
abbrev pub seen : ℕ → Row → Reg → Bool
seen o row r = not (is_top (source o row r))

abbrev pub seen_operand : ℕ → Row → Operand → Bool
seen_operand o row (R r) = seen o row r
seen_operand o row (Imm z) = true

-- the code goes on with this row
abbrev pub on : Row → Flow
on row = flows None (Some row)

-- it goes on, with a new kind of a register
abbrev pub gets : Row → Reg → Kind → Flow
gets row r k = on (set_kind row r k)

-- what is left of a kind when its register's word is taken: integer 0, where the word is linear
abbrev pub taken : Kind → Kind
taken kind.Stk = kind.Int
taken k = k

abbrev pub take_from : Row → Reg → Row
take_from row r = if is_pc r then row else set_kind row r (taken (kind_of row r))

-- the offset that an immediate leads to, if it can be one
abbrev pub in_code : ℤ → Option ℕ
in_code (pos n) = if nat_le n LAST_OFFSET then Some n else None
in_code (negsuc n) = None

abbrev pub led : ℕ → ℤ → Option ℕ
led from z = in_code (pos from +ℤ z)

-- a jump needs a pc of known offset
abbrev pub by_target : Kind → (ℕ → Flow) → Flow
by_target (kind.Pc o) f = f o
by_target _ f = breaks 6

abbrev pub led_to : Row → Reg → Option ℕ → Flow
led_to row r (Some o) = gets row r (kind.Pc o)
led_to row r None = breaks 6

abbrev pub cca_of : Row → Reg → Kind → Operand → Flow
cca_of row r kind.DataCap n = on row
cca_of row r kind.Stk n = on row
cca_of row r (kind.Pc o) (Imm z) = led_to row r (led o z)
cca_of row r _ n = breaks 6

-- every register but pc and data
abbrev pub handed : List Reg
handed = Rcode ∷ Rdata ∷ Stk ∷ T1 ∷ T2 ∷ C1 ∷ C2 ∷ A0 ∷ A1 ∷ A2 ∷ A3 ∷ G0 ∷ G1 ∷ G2 ∷ []

-- they are below Any, so that other code may have them
unfoldable pub shows_nothing : Row → Bool
shows_nothing row = list_all (λ r. below_any (kind_of row r)) handed

-- the table: an instruction at an offset, before which a row is current
unfoldable pub flow : Instr → ℕ → Row → Flow
flow Fail o row = flows None None
flow Halt o row = flows None None
flow (Jmp r1) o row = by_target (source o row r1) (λ t. flows (Some t) None)
flow (Jnz r1 r2) o row =
    ask 6 (seen o row r2) (by_target (source o row r1) (λ t. flows (Some t) (Some row)))
flow (Gettype r1 r2) o row = into r1 (ask 6 (seen o row r2) (gets row r1 kind.Int))
flow (Geta r1 r2) o row = into r1 (ask 6 (seen o row r2) (gets row r1 kind.Int))
flow (Getb r1 r2) o row = into r1 (ask 6 (seen o row r2) (gets row r1 kind.Int))
flow (Gete r1 r2) o row = into r1 (ask 6 (seen o row r2) (gets row r1 kind.Int))
flow (Getp r1 r2) o row = into r1 (ask 6 (seen o row r2) (gets row r1 kind.Int))
flow (Getlin r1 r2) o row = into r1 (ask 6 (seen o row r2) (gets row r1 kind.Int))
flow (Lt r1 r2 n) o row = into r1 (ask 6 (seen o row r2 && seen_operand o row n) (gets row r1 kind.Int))
flow (Plus r1 r2 n) o row = into r1 (ask 6 (seen o row r2 && seen_operand o row n) (gets row r1 kind.Int))
flow (Minus r1 r2 n) o row = into r1 (ask 6 (seen o row r2 && seen_operand o row n) (gets row r1 kind.Int))
flow (Move r1 (R r2)) o row =
    into r1 (ask 6 (seen o row r2) (gets (take_from row r2) r1 (source o row r2)))
flow (Move r1 (Imm z)) o row = into r1 (gets row r1 kind.Int)
flow (Store r1 r2) o row =
    ask 6 (is_area (source o row r1) && below_any (source o row r2)) (on (take_from row r2))
flow (Load r1 r2) o row = into r1 (ask 6 (is_area (source o row r2)) (gets row r1 kind.Any))
flow (Cca r1 n) o row = into r1 (ask 6 (seen_operand o row n) (cca_of row r1 (kind_of row r1) n))
flow (Xjmp r1 r2) o row =
    ask 6 (below_any (source o row r1) && below_any (source o row r2))
    (ask 10 (shows_nothing row) (flows None None))
flow (Restrict r1 n) o row = breaks 5
flow (Cseal r1 r2) o row = breaks 5
flow (Seta2b r1) o row = breaks 5
flow (Split r1 r2 r3 n) o row = breaks 5
flow (Splice r1 r2 r3) o row = breaks 5
