use Rattle.std.proofs.Common.{rules, ◌++◌, [], codes, decimal, IsAscii, arith}
use Rattle.std.proofs.lemmas.Str.{IsAscii-append}
use Rattle.std.proofs.lemmas.Str.Ascii.{IsAscii-nil, IsAscii-cons}
use Rattle.cap_words.specs.Text.{sealable_text, sealed_text}
use Rattle.cap_words.proofs.text.push_sealed.Goals as goal

opening : IsAscii (codes "sealed(")
opening = search (rules, IsAscii-cons, IsAscii-nil) depth 20

pub returns-clause-ascii : goal.returns-clause-ascii
unfolding sealed_text
returns-clause-ascii c =
    let seal = codes "sealed(" ++ decimal c.args.seal in
    let content = sealable_text c.args.content.now in
    let one = IsAscii-append (codes "sealed(") (decimal c.args.seal) opening c.push_unsigned.ensures.ascii in
    let two = IsAscii-append seal (codes ",") one (IsAscii-cons 44 [] (omega arith) IsAscii-nil) in
    let three = IsAscii-append (seal ++ codes ",") content two c.push_sealable.ensures.ascii in
    IsAscii-append (seal ++ codes "," ++ content) (codes ")") three
    (IsAscii-cons 41 [] (omega arith) IsAscii-nil)
