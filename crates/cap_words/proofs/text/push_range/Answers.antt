use Rattle.std.proofs.Common.{rules, ◌≤◌, [], length, codes, decimal, IsAscii, ap, arith, length-append}
use Rattle.std.specs.Fmt.{signed_decimal}
use Rattle.std.proofs.lemmas.Fmt.{length-decimal-le, IsAscii-decimal, IsAscii-signed}
use Rattle.std.proofs.lemmas.Str.{IsAscii-append}
use Rattle.std.proofs.lemmas.Str.Ascii.{IsAscii-nil, IsAscii-cons}
use Rattle.cap_words.specs.Text.{range_text}
use Rattle.cap_words.proofs.text.push_range.Goals as goal

-- A place of the space has at most seven digits.
pub returns-clause-len : goal.returns-clause-len
returns-clause-len c =
    let base_digits : length (decimal c.args.base) ≤ 7 = search (rules, length-decimal-le 7) in
    let end_digits : length (decimal c.args.end) ≤ 7 = search (rules, length-decimal-le 7) in
    omega (
      arith,
      c.push_signed.ensures.len,
      c.push_str-2.ensures.len,
      c.push_str.ensures.len,
      simp length-append at (ap length c.push_unsigned.ensures.text),
      simp length-append at (ap length c.push_unsigned-2.ensures.text),
    )

-- the text between two numbers
comma : IsAscii (codes ",")
comma = IsAscii-cons 44 [] (omega arith) IsAscii-nil

pub returns-clause-ascii : goal.returns-clause-ascii
unfolding range_text
returns-clause-ascii c =
    let base : IsAscii (decimal c.args.base) = search (rules, IsAscii-decimal) in
    let end : IsAscii (decimal c.args.end) = search (rules, IsAscii-decimal) in
    let at : IsAscii (signed_decimal c.args.at) = search (rules, IsAscii-signed) in
    let opened = IsAscii-append (decimal c.args.base) (codes ",") base comma in
    let range = IsAscii-append _ (decimal c.args.end) opened end in
    IsAscii-append _ (signed_decimal c.args.at) (IsAscii-append _ (codes ",") range comma) at
