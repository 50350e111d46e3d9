-- Items whose immediates are numbers that instructions can have.
use Rattle.std.specs.Prelude.{List, [], ◌∷◌, FitsSigned}
use Rattle.std.specs.Int.{w32}
use Rattle.lcm_isa.specs.declared.Instr.{Instr}
use Rattle.lcm_isa.specs.Numbers.{IsInstr}
use Rattle.proc_templates.specs.Items.{Item, does, guards, goes, goes_if, finishes, label, site, entry}
use Rattle.proc_templates.specs.Items.{leaves}

abbrev pub AllFit : List Instr → Type 0
AllFit [] = Unit {0}
AllFit (i ∷ is) = IsInstr i × AllFit is

abbrev pub ItemFits : Item → Type 0
ItemFits (does i) = IsInstr i
ItemFits (guards is) = AllFit is
ItemFits (goes far) = FitsSigned w32 far
ItemFits (goes_if far r) = FitsSigned w32 far
ItemFits finishes = Unit {0}
ItemFits label = Unit {0}
ItemFits site = Unit {0}
ItemFits entry = Unit {0}
ItemFits leaves = Unit {0}

abbrev pub ItemsFit : List Item → Type 0
ItemsFit [] = Unit {0}
ItemsFit (x ∷ xs) = ItemFits x × ItemsFit xs
