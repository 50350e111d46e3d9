-- The exports of a compiled module are its procedures, each at its offset.
use Rattle.std.proofs.Common.{◌≡◌, ◌⊎◌, inl, inr, ℕ, zero, suc, ◌+◌, ◌<◌, ◌≤◌, Bool, true, false, List, []}
use Rattle.std.proofs.Common.{◌∷◌, length, Some, None, refl, subst, arith}
use Rattle.std.specs.Prelude.{slice_get, if◌then◌else◌}
use Rattle.std.proofs.lemmas.Bool.{cases_eq, cases_lt}
use Rattle.component_file.specs.declared.component.Export.{Export}
use Rattle.component_file.specs.Limits.{name_lt}
use Rattle.proc_program.specs.declared.program.Procedure.{Procedure}
use Rattle.proc_templates.specs.Compiled.{size_of_proc, export_into, exports_from}
use Rattle.source_starts.proofs.Carrying.{offset_from}

-- ---- an export among others

into_has : (e : Export) (es : List Export) → (k : ℕ) × (slice_get (export_into e es) k ≡ Some e)
into_has e [] = (0, refl)
into_has e (x ∷ xs) = by (name_lt e.name x.name) (into_has e xs)
  where
    by : (b : Bool) → (k : ℕ) × (slice_get (export_into e xs) k ≡ Some e)
        → (k : ℕ) × (slice_get (if b then e ∷ x ∷ xs else x ∷ export_into e xs) k ≡ Some e)
    by true r = (0, refl)
    by false r = (suc r.0, r.1)

into_keeps : (e : Export) (es : List Export) (k : ℕ) (y : Export) → slice_get es k ≡ Some y
    → (j : ℕ) × (slice_get (export_into e es) j ≡ Some y)
into_keeps e [] k y h = absurd (let z : None ≡ Some y = h in cc)
into_keeps e (x ∷ xs) k y h = by (name_lt e.name x.name) k h (λ i g. into_keeps e xs i y g)
  where
    by : (b : Bool) (k : ℕ) → slice_get (x ∷ xs) k ≡ Some y
        → ((i : ℕ) → slice_get xs i ≡ Some y → (j : ℕ) × (slice_get (export_into e xs) j ≡ Some y))
        → (j : ℕ) × (slice_get (if b then e ∷ x ∷ xs else x ∷ export_into e xs) j ≡ Some y)
    by true k h more = (suc k, h)
    by false zero h more = (0, h)
    by false (suc k) h more = let r = more k h in (suc r.0, r.1)

into_only : (e : Export) (es : List Export) (k : ℕ) (y : Export) → slice_get (export_into e es) k ≡ Some y
    → (e ≡ y) ⊎ ((j : ℕ) × (slice_get es j ≡ Some y))
into_only e [] zero y h = inl (let s : e ≡ y = cc in s)
into_only e [] (suc k) y h = absurd (let z : None ≡ Some y = h in cc)
into_only e (x ∷ xs) k y h = by (name_lt e.name x.name) k h (λ i g. into_only e xs i y g)
  where
    by : (b : Bool) (k : ℕ) → slice_get (if b then e ∷ x ∷ xs else x ∷ export_into e xs) k ≡ Some y
        → ((i : ℕ) → slice_get (export_into e xs) i ≡ Some y → (e ≡ y)
        ⊎ ((j : ℕ) × (slice_get xs j ≡ Some y)))
        → (e ≡ y) ⊎ ((j : ℕ) × (slice_get (x ∷ xs) j ≡ Some y))
    by true zero h more = inl (let s : e ≡ y = cc in s)
    by true (suc k) h more = inr (k, h)
    by false zero h more = inr (0, h)
    by false (suc k) h more =
        elim (more k h) as (λ _. (e ≡ y) ⊎ ((j : ℕ) × (slice_get (x ∷ xs) j ≡ Some y))) [
          | inl s ↦ inl s
          | inr r ↦ inr (suc r.0, r.1)
        ]

-- ---- procedures and exports

abbrev pub export_at : ℕ → Procedure → Export
export_at o p = record { name = p.name; offset = o; shared = p.shared }

pub export_there : (ps : List Procedure) (o i : ℕ) (q : Procedure) → slice_get ps i ≡ Some q
    → (k : ℕ) × (slice_get (exports_from o ps) k ≡ Some (export_at (offset_from o ps i) q))
export_there [] o i q e = absurd (let z : None ≡ Some q = e in cc)
export_there (p ∷ ps) o zero q e =
    let s : p ≡ q = cc in
    subst (λ x. (k : ℕ) × (slice_get (exports_from o (p ∷ ps)) k ≡ Some (export_at o x))) s
    (into_has (export_at o p) (exports_from (o + size_of_proc p) ps))
export_there (p ∷ ps) o (suc i) q e =
    let r = export_there ps (o + size_of_proc p) i q e in
    into_keeps (export_at o p) (exports_from (o + size_of_proc p) ps) r.0 _ r.1

-- an export is that of a procedure
pub record IsExportOf (ps : List Procedure) (o : ℕ) (e : Export) : Type 0 where
  pub index : ℕ
  pub proc : Procedure
  pub at : slice_get ps index ≡ Some proc
  pub is : export_at (offset_from o ps index) proc ≡ e

pub export_only : (ps : List Procedure) (o k : ℕ) (e : Export) → slice_get (exports_from o ps) k ≡ Some e
    → IsExportOf ps o e
export_only [] o k e h = absurd (let z : None ≡ Some e = h in cc)
export_only (p ∷ ps) o k e h =
    elim (into_only (export_at o p) (exports_from (o + size_of_proc p) ps) k e h) as (λ _. IsExportOf (p ∷ ps)
    o e) [
      | inl s ↦ record { index = 0; proc = p; at = refl; is = s }
      | inr r ↦ (
          let x = export_only ps (o + size_of_proc p) r.0 e r.1 in
          record { index = suc x.index; proc = x.proc; at = x.at; is = x.is })
    ]

-- ---- offsets

offset_least : (ps : List Procedure) (o i : ℕ) → o ≤ offset_from o ps i
offset_least [] o i = omega arith
offset_least (p ∷ ps) o zero = omega arith
offset_least (p ∷ ps) o (suc i) = let h = offset_least ps (o + size_of_proc p) i in omega (arith, h)

pub offsets_rise : (ps : List Procedure) (o i j : ℕ) → i < j → j < length ps
    → offset_from o ps i < offset_from o ps j
offsets_rise [] o i j lt within = absurd (omega (arith, within))
offsets_rise (p ∷ ps) o i zero lt within = absurd (omega (arith, lt))
offsets_rise (p ∷ ps) o zero (suc j) lt within =
    let h = offset_least ps (o + size_of_proc p) j in
    let s : 34 ≤ size_of_proc p = omega arith in
    omega (arith, h, s)
offsets_rise (p ∷ ps) o (suc i) (suc j) lt within =
    offsets_rise ps (o + size_of_proc p) i j (omega (arith, lt)) (omega (arith, within))

-- no two procedures begin at one offset
pub one_offset : (ps : List Procedure) (o i j : ℕ) → i < length ps → j < length ps
    → offset_from o ps i ≡ offset_from o ps j → i ≡ j
one_offset ps o i j wi wj e = elim (cases_eq i j) as (λ _. i ≡ j) [
  | inl s ↦ s
  | inr ne ↦ elim (cases_lt i j) as (λ _. i ≡ j) [
    | inl lt ↦ absurd (let h = offsets_rise ps o i j lt wj in omega (arith, h, e))
    | inr ge ↦ absurd (let h = offsets_rise ps o j i (omega (arith, ge, ne)) wi in omega (arith, h, e))
  ]
]
