-- Kinds, rows of kinds, and their order.
use Rattle.std.specs.Prelude.{◌-◌, ◌==◌, Bool, true, false, ◌&&◌, List, [], ◌∷◌, slice_index_or, slice_set}
use Rattle.component_file.specs.declared.component.Kind.{Kind}
use Rattle.component_file.specs.declared.component.Kind.TheVariants.{Any, Int, DataCap, Stk, Pc, Top}
use Rattle.lcm_isa.specs.declared.Reg.{Reg}
use Rattle.lcm_isa.specs.Numbers.{reg_number}

-- the kinds of the registers 1 to 15
abbrev pub Row : Type 0
Row = List Kind

-- the kind of a register; that of pc isn't in the row
unfoldable pub kind_of : Row → Reg → Kind
kind_of row r = slice_index_or row (reg_number r - 1) Top

unfoldable pub set_kind : Row → Reg → Kind → Row
set_kind row r k = slice_set row (reg_number r - 1) k

abbrev pub below_any : Kind → Bool
below_any Any = true
below_any Int = true
below_any Stk = true
below_any _ = false

-- the order of kinds: what has the first kind has the second too
abbrev pub kind_below : Kind → Kind → Bool
kind_below k Top = true
kind_below k Any = below_any k
kind_below Int Int = true
kind_below Stk Stk = true
kind_below DataCap DataCap = true
kind_below (Pc o) (Pc p) = o == p
kind_below _ _ = false

abbrev pub row_below : Row → Row → Bool
row_below [] [] = true
row_below [] (l ∷ ls) = false
row_below (k ∷ ks) [] = false
row_below (k ∷ ks) (l ∷ ls) = kind_below k l && row_below ks ls

-- at an entry: data is the part's, and nothing is known of the others
abbrev pub entry_row : Row
entry_row =
    Any ∷ Any ∷ Any ∷ DataCap ∷ Any ∷ Any ∷ Any ∷ Any
    ∷ Any ∷ Any ∷ Any ∷ Any ∷ Any ∷ Any ∷ Any ∷ []

-- after an entry, and after a site: stk is the stack, t1 and t2 are integers
abbrev pub clean_row : Row
clean_row =
    Any ∷ Any ∷ Stk ∷ DataCap ∷ Int ∷ Int ∷ Any ∷ Any
    ∷ Any ∷ Any ∷ Any ∷ Any ∷ Any ∷ Any ∷ Any ∷ []
