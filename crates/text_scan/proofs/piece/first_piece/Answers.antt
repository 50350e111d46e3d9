use Rattle.std.proofs.Common.{◌∙◌, sym, arith, get_or}
use Rattle.std.proofs.lemmas.List.Sums.{prefix_len-le-length}
use Rattle.text_scan.specs.Bytes.{is_digit, is_name_byte}
use Rattle.text_scan.proofs.Digits.{run_is, run_begins, name_begins}
use Rattle.text_scan.proofs.piece.first_piece.Goals as goal

pub number_piece-requires : goal.number_piece-requires
number_piece-requires c = rw c.digits_len.ensures (run_is is_digit c.args.text.now)

pub returns-then-is_name_start-clause-within : goal.returns-then-is_name_start-clause-within
returns-then-is_name_start-clause-within c =
    let begins = run_begins is_name_byte c.args.text.now c.requires
    (name_begins (get_or c.args.text.now 0 0) (sym c.is_name_start.ensures ∙ c.if-is_name_start.true)) in (
      omega (arith, c.name_len.ensures, begins),
      omega (arith, c.name_len.ensures, prefix_len-le-length is_name_byte c.args.text.now),
    )
