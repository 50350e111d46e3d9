-- The first fault of a list's items, found item by item.
use Rattle.std.proofs.Common.{◌≡◌, ℕ, ◌+◌, ◌<◌, List, ◌∷◌, ◌++◌, Option, length, get_or, drop, sym, ap, ◌∙◌}
use Rattle.proc_language.proofs.Offers.{drop_item}
use Rattle.proc_names.specs.declared.fault.NameFault.{NameFault}
use Rattle.proc_names.specs.Faults.{earlier, first}
use Rattle.proc_names.proofs.FirstLemmas.{first_step}

-- one item more
pub item_found : {A : Type 0} (of : List A → List NameFault) (fs : List NameFault) (xs : List A) (i : ℕ)
    (x : A) (found : Option NameFault) {now fault whole : Option NameFault} → i < length xs
    → x ≡ get_or xs i x → of (x ∷ drop (i + 1) xs) ≡ fs ++ of (drop (i + 1) xs)
    → now ≡ earlier found fault → fault ≡ first fs
    → earlier found (first (of (drop i xs))) ≡ whole → earlier now (first (of (drop (i + 1) xs))) ≡ whole
item_found of fs xs i x found within is split step one before =
    let rest = of (drop (i + 1) xs) in
    ap (λ f. earlier f (first rest)) (step ∙ ap (earlier found) one) ∙ first_step found fs rest
    ∙ ap (λ gs. earlier found (first gs)) (sym (ap of (drop_item xs i x within is) ∙ split)) ∙ before
