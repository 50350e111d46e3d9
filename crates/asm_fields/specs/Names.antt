-- Names that mean something: each is looked for in one table.
use Rattle.std.specs.Prelude.{ℕ, Bool, true, false, List, [], ◌∷◌, codes, Option}
use Rattle.cap_words.specs.Text.{named}
use Rattle.lcm_isa.specs.declared.Reg.{Reg}
use Rattle.lcm_isa.specs.Numbers.{all_regs}
use Rattle.lcm_isa.specs.Texts.{reg_name}
use Rattle.component_file.specs.declared.component.Kind.{Kind}
use Rattle.component_file.specs.declared.component.Kind.TheVariants.{Any, Int, DataCap, Stk, Pc, Top}

abbrev pub reg_named : List ℕ → Option Reg
reg_named name = named reg_name all_regs name

-- a kind of register; an offset follows `pc`
abbrev pub kind_name : Kind → List ℕ
kind_name Any = codes "any"
kind_name Int = codes "int"
kind_name DataCap = codes "data"
kind_name Stk = codes "stk"
kind_name (Pc offset) = codes "pc"
kind_name Top = codes "top"

abbrev pub kind_named : List ℕ → Option Kind
kind_named name = named kind_name (Any ∷ Int ∷ DataCap ∷ Stk ∷ Pc 0 ∷ Top ∷ []) name

-- whether other parts may import an export
abbrev pub ownership : Bool → List ℕ
ownership true = codes "shared"
ownership false = codes "own"

abbrev pub shared_named : List ℕ → Option Bool
shared_named name = named ownership (true ∷ false ∷ []) name
