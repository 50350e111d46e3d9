use Rattle.std.proofs.Common.{◌≡◌, ℕ, zero, suc, ◌+◌, ◌<◌, List, [], ◌∷◌, length, take}
use Rattle.std.proofs.Common.{sym, subst, ap, ◌∙◌, ◌++◌, append-nil, arith}
use Rattle.std.specs.List.{flat_map, AllByRecursion}
use Rattle.std.proofs.Math.ListN.{get_or}
use Rattle.std.proofs.lemmas.List.{take_all}
use Rattle.component_file.proofs.Offers.{one_more}
use Rattle.linked_starts.specs.Parts.{IsPart}
use Rattle.image_loader.specs.Image.{part_bytes}
use Rattle.image_loader.proofs.writing.push_parts.Goals as goal

all_more : {A : Type 0} (P : A → Type 0) (xs : List A) (i : ℕ) (x : A) → AllByRecursion P (take i xs)
    → i < length xs → x ≡ get_or xs i x → P x → AllByRecursion P (take (i + 1) xs)
all_more P [] i x h lt is p = absurd (omega (arith, lt))
all_more P (y ∷ ys) zero x h lt is p = (subst P is p, tt)
all_more P (y ∷ ys) (suc i) x h lt is p =
    let next : suc (i + 1) ≡ suc i + 1 = omega arith in
    let more : AllByRecursion P (take (suc (i + 1)) (y ∷ ys)) =
    (h.0, all_more P ys i x h.1 (omega (arith, lt)) is p) in
    subst (λ n. AllByRecursion P (take n (y ∷ ys))) next more

pub loop-part-init : goal.loop-part-init
loop-part-init c = record { spelled = sym (append-nil c.args.out.now.items); kept = tt }

pub loop-part-preserved : goal.loop-part-preserved
loop-part-preserved c = record {
  spelled = rw (c.in_ok-push_part.ensures.spelled, c.loop-part.invariant.spelled)
      (one_more part_bytes c.args.out.now.items c.args.parts.now c.loop-part.part-index
      c.part-item.result c.loop-part-test.true c.part-item.is);
  kept = all_more IsPart c.args.parts.now c.loop-part.part-index c.part-item.result
      c.loop-part.invariant.kept c.loop-part-test.true c.part-item.is c.in_ok-push_part.ensures.kept;
}

pub returns-clause-spelled : goal.returns-clause-spelled
returns-clause-spelled c =
    c.loop-part.invariant.spelled
    ∙ ap (λ xs. c.args.out.now.items ++ flat_map part_bytes xs)
    (take_all c.loop-part.part-index c.args.parts.now c.loop-part-test.false)

pub returns-clause-kept : goal.returns-clause-kept
returns-clause-kept c =
    subst (AllByRecursion IsPart) (take_all c.loop-part.part-index c.args.parts.now c.loop-part-test.false)
    c.loop-part.invariant.kept
