-- Names that stand again, list by list.
use Rattle.std.proofs.Common.{◌≡◌, refl, sym, ◌∙◌, ap, List, [], ◌∷◌, ◌++◌, append_assoc, not, Option}
use Rattle.proc_language.specs.declared.tree.Name.{Name}
use Rattle.proc_names.specs.Faults.{first, earlier, unless}
use Rattle.proc_names.specs.declared.fault.NameFault.{NameFault}
use Rattle.proc_names.specs.declared.fault.NameFault.TheVariants.{Twice}
use Rattle.proc_names.specs.NameFaults.{again, twice}
use Rattle.proc_names.specs.Names.{same}
use Rattle.proc_names.proofs.FirstLemmas.{first-append, first_step}

pub again-append : (x : Name) (ys zs : List Name) → again x (ys ++ zs) ≡ again x ys ++ again x zs
again-append x [] zs = refl
again-append x (y ∷ ys) zs =
    let here : List NameFault = unless (not (same x y)) (Twice y.at) in
    ap (λ fs. here ++ fs) (again-append x ys zs) ∙ sym (append_assoc here (again x ys) (again x zs))

-- a name, and those after it, which stand in two lists
pub twice_step : (found : Option NameFault) (x : Name) (xs ys : List Name)
    → earlier (earlier found (earlier (first (again x xs)) (first (again x ys)))) (first (twice (xs ++ ys)))
    ≡ earlier found (first (twice ((x ∷ xs) ++ ys)))
twice_step found x xs ys =
    ap (λ f. earlier (earlier found f) (first (twice (xs ++ ys))))
    (sym (first-append (again x xs) (again x ys)) ∙ ap first (sym (again-append x xs ys)))
    ∙ first_step found (again x (xs ++ ys)) (twice (xs ++ ys))
