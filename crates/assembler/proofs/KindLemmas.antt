-- Reading the kinds of a row one after another.
use Rattle.std.proofs.Common.{◌≡◌, ℕ, suc, ◌+◌, ◌-◌, ◌<◌, ◌≤◌, List, [], ◌∷◌, ◌++◌, length, Result, Ok, Err}
use Rattle.std.proofs.Common.{refl, sym, ap, ◌∙◌, append_assoc, append-nil, arith}
use Rattle.std.specs.Prelude.{take, set}
use Rattle.std.proofs.lemmas.List.{take_more_set, take_all}
use Rattle.component_file.specs.declared.component.Kind.{Kind}
use Rattle.asm_fields.specs.declared.fault.AsmFault.{AsmFault}
use Rattle.readers.specs.Answers.{Fails}
use Rattle.asm_fields.specs.Fault.{is_refusal}
use Rattle.readers.specs.Readers.{goes_on, done}
use Rattle.asm_fields.specs.Fields.{Input}
use Rattle.assembler.specs.Draft.{Draft}
use Rattle.assembler.specs.Operands.{kind_in, kinds_in}
use Rattle.readers.proofs.Offers.{still_fails}

abbrev pub Read : Type 0
Read = Result ((List Kind × Draft) × Input) AsmFault

-- what is read after kinds that were read already
abbrev pub with_front : List Kind → Read → Read
with_front front r = goes_on r (λ x. done (front ++ x.0, x.1))

regroup : (front : List Kind) (x : Kind) (r : Read)
    → with_front front (goes_on r (λ y. done (x ∷ y.0, y.1))) ≡ with_front (front ++ x ∷ []) r
regroup front x (Ok r) = ap (λ (l : List Kind). Ok ((l, r.0.1), r.1))
    (sym (append_assoc front (x ∷ []) r.0.0))
regroup front x (Err e) = refl

-- one more kind is read into its place
pub kind_read : (kinds : List Kind) (count i : ℕ) (old new : Draft) (fields left : Input) (x : Kind)
    (total : Read) → i < count → i < length kinds → kind_in old fields ≡ Ok ((x, new), left)
    → with_front (take i kinds) (kinds_in (count - i) old fields) ≡ total
    → with_front (take (i + 1) (set kinds i x)) (kinds_in (count - (i + 1)) new left) ≡ total
unfolding kinds_in
kind_read kinds count i old new fields left x total lt long read so_far =
    let k : count - i ≡ suc (count - (i + 1)) = omega arith in
    let one : with_front (take i kinds) (kinds_in (count - i) old fields) ≡ with_front
    (take i kinds ++ x ∷ []) (kinds_in (count - (i + 1)) new left) =
    rw (k, read) (regroup (take i kinds) x (kinds_in (count - (i + 1)) new left)) in
    rw (take_more_set kinds i x long) (sym one ∙ so_far)

-- the fault of a kind is that of the row
pub kind_fails : (e : AsmFault) (front : List Kind) (count i : ℕ) (old : Draft) (fields : Input)
    (total : Read) → i < count → Fails is_refusal e (kind_in old fields)
    → with_front front (kinds_in (count - i) old fields) ≡ total → Fails is_refusal e total
unfolding kinds_in
kind_fails e front count i old fields total lt failed so_far =
    let k : count - i ≡ suc (count - (i + 1)) = omega arith in
    let one : kind_in old fields ≡ Err e → total ≡ Err e = λ h. sym so_far ∙ (rw (k, h) refl) in
    still_fails is_refusal e (kind_in old fields) total one failed

-- all places are filled
pub kinds_read : (kinds : List Kind) (count i : ℕ) (d : Draft) (fields : Input) (total : Read) → count ≤ i
    → length kinds ≡ count
    → with_front (take i kinds) (kinds_in (count - i) d fields) ≡ total → total ≡ Ok ((kinds, d), fields)
unfolding kinds_in
kinds_read kinds count i d fields total le len so_far =
    let k : count - i ≡ 0 = omega arith in
    let one : with_front (take i kinds) (kinds_in (count - i) d fields) ≡ Ok ((take i kinds, d), fields) =
    rw k (ap (λ (l : List Kind). Ok ((l, d), fields)) (append-nil (take i kinds))) in
    sym so_far ∙ one ∙ ap (λ (l : List Kind). Ok ((l, d), fields)) (take_all i kinds (omega (arith, len)))
