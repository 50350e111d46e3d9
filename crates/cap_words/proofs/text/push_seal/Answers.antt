use Rattle.std.proofs.Common.{rules, ◌++◌, [], codes, IsAscii, arith}
use Rattle.std.proofs.lemmas.Str.{IsAscii-append}
use Rattle.std.proofs.lemmas.Str.Ascii.{IsAscii-nil, IsAscii-cons}
use Rattle.cap_words.specs.Text.{range_text, seal_text}
use Rattle.cap_words.proofs.text.push_seal.Goals as goal

opening : IsAscii (codes "seal(")
opening = search (rules, IsAscii-cons, IsAscii-nil) depth 20

pub returns-clause-ascii : goal.returns-clause-ascii
unfolding seal_text
returns-clause-ascii c =
    let range = range_text c.args.cap.base c.args.cap.end c.args.cap.cur in
    let opened = IsAscii-append (codes "seal(") range opening (search (rules, c.push_range.ensures.ascii)) in
    IsAscii-append (codes "seal(" ++ range) (codes ")") opened (IsAscii-cons 41 [] (omega arith) IsAscii-nil)
