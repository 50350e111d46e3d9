use Rattle.std.proofs.Common.{◌≡◌, ◌≤◌, drop}
use Rattle.std.specs.Str.Parse.{digits_value, digits_value_after}
use Rattle.text_scan.specs.declared.TheConstants.{LARGEST_NUMBER}
use Rattle.text_scan.proofs.piece.number.Given as goal

abbrev pub invariant-loop-digit : goal.invariant-loop-digit
invariant-loop-digit l = (l.value ≤ LARGEST_NUMBER)
    × (digits_value_after 10 l.value (drop l.digit-index l.digits) ≡ digits_value 10 l.digits)
