-- What holds at each offset of code whose flow is kept: the facts that one step of a machine needs.
use Rattle.std.specs.Prelude.{◌≡◌, ℕ, ◌+◌, ◌<◌, ◌⊎◌, true, length, Option, Some}
use Rattle.component_file.specs.declared.component.ComponentFields.{ComponentFields}
use Rattle.lcm_isa.specs.declared.Instr.{Instr}
use Rattle.call_sequence.specs.declared.flow.Flow.TheVariants.{Flows as flows}
use Rattle.call_sequence.specs.Kinds.{Row, row_below}
use Rattle.call_sequence.specs.Flow.{flow}
use Rattle.call_sequence.specs.Walk.{instr_at, RowAt}

-- the offset lies in the code and has a row, and this row is below it
pub record LeadsTo (c : ComponentFields) (o : ℕ) (r : Row) : Type 0 where
  pub there : Row
  pub inside : o < length c.code
  pub row : RowAt c o there
  pub below : row_below r there ≡ true

-- where a jump goes: to the `fail`, or to a row that this one is below
abbrev pub JumpsTo : ComponentFields → Row → ℕ → Type 0
JumpsTo c r t = (c.fail_at ≡ Some t) ⊎ LeadsTo c t r

-- a word with this row is an instruction whose kinds fit it: the row after it leads to the next word,
-- and the row leads to where it may jump
pub record Judged (c : ComponentFields) (o : ℕ) (r : Row) : Type 0 where
  pub instr : Instr
  pub target : Option ℕ
  pub after : Option Row
  pub stands : instr_at c o ≡ Some instr
  pub flow_is : flow instr o r ≡ flows target after
  pub leads_on : (q : Row) → after ≡ Some q → LeadsTo c (o + 1) q
  pub jumps : (t : ℕ) → target ≡ Some t → JumpsTo c r t
