-- The order of items.
use Rattle.std.specs.Prelude.{ℕ, ◌+◌, ◌==◌, nat_lt, nat_le, Bool, true, false, ◌&&◌, ◌||◌, if◌then◌else◌}
use Rattle.std.specs.Prelude.{Option, Some, None}
use Rattle.assembler.specs.declared.labels.Section.{Section}
use Rattle.assembler.specs.declared.labels.Section.TheVariants as section
use Rattle.asm_fields.specs.declared.directives.ItemKind.{ItemKind}
use Rattle.asm_fields.specs.declared.directives.ItemKind.TheVariants.{Name, Stack, Closure, Movable, Seals}
use Rattle.asm_fields.specs.declared.directives.ItemKind.TheVariants.{Linear, Code, Data, Import, Export}
use Rattle.asm_fields.specs.declared.directives.ItemKind.TheVariants.{Site, Fail, Literal, Row}

-- items stand in this order
abbrev pub rank : ItemKind → ℕ
rank Name = 1
rank Stack = 2
rank Closure = 3
rank Movable = 4
rank Seals = 5
rank Linear = 6
rank Code = 7
rank Data = 8
rank Import = 9
rank Export = 10
rank Site = 11
rank Fail = 12
rank Literal = 13
rank Row = 14

-- the others stand once at most
abbrev pub repeats : ItemKind → Bool
repeats Import = true
repeats Export = true
repeats Site = true
repeats Row = true
repeats _ = false

-- the rank of the last item that came; nothing has come yet: 0
abbrev pub rank_of : Option ItemKind → ℕ
rank_of None = 0
rank_of (Some item) = rank item

-- how far one may go from an item of a rank: name, stack, closure, code and data must not be left out
abbrev pub furthest : ℕ → ℕ
furthest r =
    if nat_lt r (rank Closure) then r + 1 else if nat_lt r (rank Code) then rank Code
    else if r == rank Code then rank Data else rank Row

-- the item may stand next where those that came end with the last
abbrev pub may_follow : Option ItemKind → ItemKind → Bool
may_follow last item =
    (nat_lt (rank_of last) (rank item) || ((rank item == rank_of last) && repeats item))
    && nat_le (rank item) (furthest (rank_of last))

-- the items that came go up to the data at least
abbrev pub reaches_data : Option ItemKind → Bool
reaches_data last = nat_le (rank Data) (rank_of last)

-- the section in which the words after an item stand
abbrev pub section_of : Option ItemKind → Option Section
section_of (Some Code) = Some section.Code
section_of (Some Data) = Some section.Data
section_of _ = None
