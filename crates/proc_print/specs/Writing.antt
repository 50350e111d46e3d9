-- What is written to a text.
use Rattle.std.specs.Prelude.{◌≡◌, false, List}
use Rattle.proc_print.specs.declared.pieces.TextWriter.{TextWriter}
use Rattle.proc_print.specs.Printed.{Piece, appended}

-- unless memory was refused, these tokens stand behind what was there
pub record WritesPieces (before after : TextWriter) (pieces : List Piece) : Type 0 where
  pub kept : after.is_refused ≡ false
      → (before.is_refused ≡ false) × (after.text.items ≡ appended before.text.items pieces)
