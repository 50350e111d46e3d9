-- What fails, of whatever cause: a run, and `splice` and `xjmp` by the words that they are given.
use Rattle.std.specs.Prelude.{◌≡◌, ◌≢◌, ◌⊎◌, ◌+◌, ◌==◌, ◌&&◌, true, false, Option, Some, None}
use Rattle.cap_words.specs.declared.CapFields.{CapFields}
use Rattle.cap_words.specs.declared.Face.{Face}
use Rattle.cap_words.specs.declared.Face.TheVariants.{Memory}
use Rattle.cap_words.specs.declared.Opened.{Opened}
use Rattle.cap_words.specs.declared.Content.TheVariants.{Mem as MemC}
use Rattle.cap_words.specs.Faces.{same_kind}
use Rattle.cap_words.specs.Linear.{lin_is}
use Rattle.lcm_machine.specs.Row.{Outcome, went, halted, failed}

-- a failure
abbrev pub HasFailed : {W : Type 0} → Outcome W → Type 0
HasFailed (went s) = ⊥
HasFailed halted = ⊥
HasFailed (failed cause at) = Unit {0}

-- two words of which the second can't be joined to the first
abbrev pub CannotJoin : Face → Face → Type 0
CannotJoin (Memory low) (Memory high) = (same_kind low high && (low.end + 1 == high.base)) ≡ false
CannotJoin _ _ = Unit {0}

-- two words that `xjmp` refuses: one isn't sealed, their seals differ, or the first has linear content
abbrev pub Refuses : Option Opened → Option Opened → Type 0
Refuses None y = Unit {0}
Refuses (Some x) None = Unit {0}
Refuses (Some x) (Some y) =
    (x.seal ≢ y.seal) ⊎ ((c : CapFields) × (x.content ≡ MemC c) × (lin_is c.lin ≡ true))
