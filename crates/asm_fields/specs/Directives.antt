-- The directives: what a `.` stands before.
use Rattle.std.specs.Prelude.{ℕ, List, [], ◌∷◌, codes, Option}
use Rattle.asm_fields.specs.declared.directives.ItemKind.{ItemKind}
use Rattle.asm_fields.specs.declared.directives.ItemKind.TheVariants.{Name, Stack, Closure, Movable, Seals}
use Rattle.asm_fields.specs.declared.directives.ItemKind.TheVariants.{Linear, Code, Data, Import, Export}
use Rattle.asm_fields.specs.declared.directives.ItemKind.TheVariants.{Site, Fail, Literal, Row}
use Rattle.asm_fields.specs.declared.directives.WordKind.{WordKind}
use Rattle.asm_fields.specs.declared.directives.WordKind.TheVariants.{Int, Cap, Seal}
use Rattle.asm_fields.specs.declared.directives.Directive.{Directive}
use Rattle.asm_fields.specs.declared.directives.Directive.TheVariants.{Of, Word}
use Rattle.cap_words.specs.Text.{named}

abbrev pub item_name : ItemKind → List ℕ
item_name Name = codes "name"
item_name Stack = codes "stack"
item_name Closure = codes "closure"
item_name Movable = codes "movable"
item_name Seals = codes "seals"
item_name Linear = codes "linear"
item_name Code = codes "code"
item_name Data = codes "data"
item_name Import = codes "import"
item_name Export = codes "export"
item_name Site = codes "site"
item_name Fail = codes "fail"
item_name Literal = codes "literal"
item_name Row = codes "row"

abbrev pub word_kind_name : WordKind → List ℕ
word_kind_name Int = codes "int"
word_kind_name Cap = codes "cap"
word_kind_name Seal = codes "seal"

abbrev pub directive_name : Directive → List ℕ
directive_name (Of item) = item_name item
directive_name (Word kind) = word_kind_name kind

abbrev pub directives : List Directive
directives =
    Of Name ∷ Of Stack ∷ Of Closure ∷ Of Movable ∷ Of Seals ∷ Of Linear ∷ Of Code ∷ Of Data
    ∷ Of Import ∷ Of Export ∷ Of Site ∷ Of Fail ∷ Of Literal ∷ Of Row
    ∷ Word Int ∷ Word Cap ∷ Word Seal ∷ []

abbrev pub directive_named : List ℕ → Option Directive
directive_named name = named directive_name directives name
