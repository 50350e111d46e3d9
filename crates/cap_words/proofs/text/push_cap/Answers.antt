use Rattle.std.proofs.Common.{rules, ◌++◌, [], List, ℕ, codes, IsAscii, arith}
use Rattle.std.proofs.lemmas.Str.{IsAscii-append}
use Rattle.std.proofs.lemmas.Str.Ascii.{IsAscii-nil, IsAscii-cons}
use Rattle.cap_words.specs.declared.Perm.{Perm}
use Rattle.cap_words.specs.declared.Perm.TheVariants.{No, R as ReadOnly, Rw, Rx, Rwx}
use Rattle.cap_words.specs.declared.Lin.{Lin}
use Rattle.cap_words.specs.declared.Lin.TheVariants.{Normal, Linear}
use Rattle.cap_words.specs.declared.CapFields.{CapFields}
use Rattle.cap_words.specs.Text.{perm_name, lin_name, range_text, cap_text}
use Rattle.cap_words.proofs.text.push_cap.Goals as goal

-- the text before the range
abbrev kind : CapFields → List ℕ
kind cap = codes "cap(" ++ perm_name cap.perm ++ codes "," ++ lin_name cap.lin ++ codes ","

comma : IsAscii (codes ",")
comma = IsAscii-cons 44 [] (omega arith) IsAscii-nil

opening : IsAscii (codes "cap(")
opening = search (rules, IsAscii-cons, IsAscii-nil) depth 20

-- the names
perm_ascii : (p : Perm) → IsAscii (perm_name p)
perm_ascii No = search (rules, IsAscii-cons, IsAscii-nil) depth 20
perm_ascii ReadOnly = search (rules, IsAscii-cons, IsAscii-nil) depth 20
perm_ascii Rw = search (rules, IsAscii-cons, IsAscii-nil) depth 20
perm_ascii Rx = search (rules, IsAscii-cons, IsAscii-nil) depth 20
perm_ascii Rwx = search (rules, IsAscii-cons, IsAscii-nil) depth 20

lin_ascii : (l : Lin) → IsAscii (lin_name l)
lin_ascii Normal = search (rules, IsAscii-cons, IsAscii-nil) depth 20
lin_ascii Linear = search (rules, IsAscii-cons, IsAscii-nil) depth 20

-- the whole of it
kind_ascii : (cap : CapFields) → IsAscii (kind cap)
kind_ascii cap =
    let one = codes "cap(" ++ perm_name cap.perm in
    let two = one ++ codes "," in
    let perm = IsAscii-append (codes "cap(") (perm_name cap.perm) opening (perm_ascii cap.perm) in
    let parted = IsAscii-append one (codes ",") perm comma in
    let lin = IsAscii-append two (lin_name cap.lin) parted (lin_ascii cap.lin) in
    IsAscii-append (two ++ lin_name cap.lin) (codes ",") lin comma

-- and the text, where that of the range is ASCII
cap_text_ascii : (cap : CapFields) → IsAscii (range_text cap.base cap.end cap.addr) → IsAscii (cap_text cap)
unfolding cap_text
cap_text_ascii cap range =
    let whole = IsAscii-append (kind cap) (range_text cap.base cap.end cap.addr) (kind_ascii cap) range in
    IsAscii-append (kind cap ++ range_text cap.base cap.end cap.addr) (codes ")") whole
    (IsAscii-cons 41 [] (omega arith) IsAscii-nil)

pub returns-clause-ascii : goal.returns-clause-ascii
returns-clause-ascii c = cap_text_ascii c.args.cap (search (rules, c.push_range.ensures.ascii))
