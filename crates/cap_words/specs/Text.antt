-- The text of a word, as bytes of ASCII: every number in it is decimal.
use Rattle.std.specs.Prelude.{ℕ, ◌++◌, List, [], ◌∷◌, ℤ, codes, decimal, find, Option}
use Rattle.std.specs.Str.{bytes_eq}
use Rattle.std.specs.Fmt.{signed_decimal}
use Rattle.cap_words.specs.declared.Perm.{Perm}
use Rattle.cap_words.specs.declared.Perm.TheVariants.{No, R as ReadOnly, Rw, Rx, Rwx}
use Rattle.cap_words.specs.declared.Lin.{Lin}
use Rattle.cap_words.specs.declared.Lin.TheVariants.{Normal, Linear}
use Rattle.cap_words.specs.declared.CapFields.{CapFields}
use Rattle.cap_words.specs.declared.SealFields.{SealFields}
use Rattle.cap_words.specs.declared.Sealable.{Sealable}
use Rattle.cap_words.specs.declared.Sealable.TheVariants.{Mem as MemIn, Seal as SealIn}
use Rattle.cap_words.specs.declared.Word.{Word}
use Rattle.cap_words.specs.declared.Word.TheVariants.{Int, Mem, Seal, Sealed}

-- the names of the permissions
abbrev pub perm_name : Perm → List ℕ
perm_name No = codes "no"
perm_name ReadOnly = codes "r"
perm_name Rw = codes "rw"
perm_name Rx = codes "rx"
perm_name Rwx = codes "rwx"

-- normal, or linear
abbrev pub lin_name : Lin → List ℕ
lin_name Normal = codes "nor"
lin_name Linear = codes "lin"

-- the first that has the name
abbrev pub named : {A : Type 0} → (A → List ℕ) → List A → List ℕ → Option A
named name_of xs name = find (λ x. bytes_eq (name_of x) name) xs

-- the permission of a name, and which of normal and linear a name is
abbrev pub perm_named : List ℕ → Option Perm
perm_named name = named perm_name (No ∷ ReadOnly ∷ Rw ∷ Rx ∷ Rwx ∷ []) name

abbrev pub lin_named : List ℕ → Option Lin
lin_named name = named lin_name (Normal ∷ Linear ∷ []) name

-- a range, and the place that the capability points to: BASE,END,AT
unfoldable pub range_text : ℕ → ℕ → ℤ → List ℕ
range_text base end at = decimal base ++ codes "," ++ decimal end ++ codes "," ++ signed_decimal at

-- cap(PERM,LIN,BASE,END,ADDR)
unfoldable pub cap_text : CapFields → List ℕ
cap_text c =
    codes "cap(" ++ perm_name c.perm ++ codes "," ++ lin_name c.lin ++ codes ","
    ++ range_text c.base c.end c.addr ++ codes ")"

-- seal(BASE,END,CUR)
unfoldable pub seal_text : SealFields → List ℕ
seal_text s = codes "seal(" ++ range_text s.base s.end s.cur ++ codes ")"

-- what is under a seal
abbrev pub sealable_text : Sealable → List ℕ
sealable_text (MemIn c) = cap_text c
sealable_text (SealIn s) = seal_text s

-- sealed(SEAL,CONTENT)
unfoldable pub sealed_text : ℕ → Sealable → List ℕ
sealed_text seal content = codes "sealed(" ++ decimal seal ++ codes "," ++ sealable_text content ++ codes ")"

-- an integer is its number
abbrev pub word_text_of : Word → List ℕ
word_text_of (Int n) = signed_decimal n
word_text_of (Mem c) = cap_text c
word_text_of (Seal s) = seal_text s
word_text_of (Sealed seal content) = sealed_text seal content

-- a field of a line, after a blank; and a line's end
abbrev pub field_text : List ℕ → List ℕ
field_text text = codes " " ++ text

abbrev pub newline : List ℕ
newline = codes "\n"
