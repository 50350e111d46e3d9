-- What shapes stand for, by name.
use Rattle.std.specs.Prelude.{ℕ, List, codes}
use Rattle.run_picture.specs.declared.class.Class.{Class}
use Rattle.run_picture.specs.declared.class.Class.TheVariants.{Trusted, Outside, Closed, Open, Edge, Acts}
use Rattle.run_picture.specs.declared.class.Class.TheVariants.{Arrow, Rule, End, Note, Inside}

abbrev pub class_name : Class → List ℕ
class_name Trusted = codes "in"
class_name Outside = codes "out"
class_name Closed = codes "fr"
class_name Open = codes "fo"
class_name Edge = codes "cl"
class_name Acts = codes "now"
class_name Arrow = codes "a"
class_name Rule = codes "dr"
class_name End = codes "e"
class_name Note = codes "s"
class_name Inside = codes "w"
