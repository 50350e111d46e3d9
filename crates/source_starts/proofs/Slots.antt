-- The imports of a compiled module: two words of the data for each import, and then for each own procedure.
use Rattle.std.proofs.Common.{◌≡◌, inl, inr, ℕ, zero, suc, ◌+◌, ◌-◌, ◌*◌, ◌<◌, ℤ, pos, List, [], ◌∷◌, ◌++◌}
use Rattle.std.proofs.Common.{length, map, Some, None, sym, ap, ◌∙◌, arith, length-append}
use Rattle.std.specs.Prelude.{slice_get, replicate, option_map}
use Rattle.std.proofs.lemmas.Bool.{cases_lt}
use Rattle.std.proofs.lemmas.List.{length-replicate}
use Rattle.std.proofs.lemmas.Option.{slice_get_within, slice_get-map}
use Rattle.cap_words.specs.declared.Word.TheVariants.{Int}
use Rattle.component_file.specs.declared.component.Import.{Import}
use Rattle.component_file.proofs.Offers.{inside}
use Rattle.proc_program.specs.declared.program.ProgramImport as program
use Rattle.proc_program.specs.declared.program.Program.{Program}
use Rattle.proc_program.specs.declared.program.Procedure.{Procedure}
use Rattle.proc_templates.specs.Compiled.{pair_count, import_slots, own_slots, imports_of, first_data}
use Rattle.proc_templates.specs.Compiled.{int_word}
use Rattle.proc_templates.proofs.Offers.{get-left, get-right, imports_length, own_length}

import_slot : (s : ℕ) (is : List program.ProgramImport) (k : ℕ) (i : program.ProgramImport) → slice_get is k
    ≡ Some i
    → slice_get (import_slots s is) k ≡ Some (record { part = i.part; name = i.name; slot = s + 2 * k })
import_slot s [] k i e = absurd (let z : None ≡ Some i = e in cc)
import_slot s (x ∷ is) zero i e =
    let q : x ≡ i = cc in
    let z : s ≡ s + 2 * 0 = omega arith in
    ap (λ (y : program.ProgramImport). Some (record { part = y.part; name = y.name; slot = s })) q
    ∙ ap (λ n. Some (record { part = i.part; name = i.name; slot = n })) z
import_slot s (x ∷ is) (suc k) i e =
    let z : s + 2 + 2 * k ≡ s + 2 * suc k = omega arith in
    import_slot (s + 2) is k i e ∙ ap (λ n. Some (record { part = i.part; name = i.name; slot = n })) z

own_slot : (part : List ℕ) (s : ℕ) (ps : List Procedure) (j : ℕ) (q : Procedure) → slice_get ps j ≡ Some q
    → slice_get (own_slots part s ps) j ≡ Some (record { part = part; name = q.name; slot = s + 2 * j })
own_slot part s [] j q e = absurd (let z : None ≡ Some q = e in cc)
own_slot part s (x ∷ ps) zero q e =
    let r : x ≡ q = cc in
    let z : s ≡ s + 2 * 0 = omega arith in
    ap (λ (y : Procedure). Some (record { part = part; name = y.name; slot = s })) r
    ∙ ap (λ n. Some (record { part = part; name = q.name; slot = n })) z
own_slot part s (x ∷ ps) (suc j) q e =
    let z : s + 2 + 2 * j ≡ s + 2 * suc j = omega arith in
    own_slot part (s + 2) ps j q e ∙ ap (λ n. Some (record { part = part; name = q.name; slot = n })) z

module _ (m : Program) where
  pub import_at : (k : ℕ) (i : program.ProgramImport) → slice_get m.imports k ≡ Some i
      → slice_get (imports_of m) k ≡ Some (record { part = i.part; name = i.name; slot = 2 * k })
  unfolding imports_of
  import_at k i e =
      let z : 0 + 2 * k ≡ 2 * k = omega arith in
      get-left (import_slots 0 m.imports) _ k _
      (import_slot 0 m.imports k i e ∙ ap (λ n. Some (record { part = i.part; name = i.name; slot = n })) z)

  pub own_at : (j : ℕ) (q : Procedure) → slice_get m.procs j ≡ Some q
      → slice_get (imports_of m) (length m.imports + j)
      ≡ Some (record { part = m.name; name = q.name; slot = 2 * (length m.imports + j) })
  unfolding imports_of
  own_at j q e =
      let l = imports_length 0 m.imports in
      let z : 2 * length m.imports + 2 * j ≡ 2 * (length m.imports + j) = omega arith in
      ap (λ n. slice_get (import_slots 0 m.imports ++ own_slots m.name (2 * length m.imports) m.procs)
      (n + j)) (sym l)
      ∙ get-right (import_slots 0 m.imports) (own_slots m.name (2 * length m.imports) m.procs) j
      ∙ own_slot m.name (2 * length m.imports) m.procs j q e
      ∙ ap (λ n. Some (record { part = m.name; name = q.name; slot = n })) z

  -- each slot lies before the globals
  pub slot_below : (n : ℕ) (i : Import) → slice_get (imports_of m) n ≡ Some i → i.slot + 1 < pair_count m
  unfolding imports_of
  slot_below n i e =
      let l = length-append (import_slots 0 m.imports) (own_slots m.name (2 * length m.imports) m.procs) in
      let a = imports_length 0 m.imports in
      let b = own_length m.name (2 * length m.imports) m.procs in
      let w = slice_get_within (import_slots 0 m.imports ++ own_slots m.name (2 * length m.imports) m.procs) n
      i e in
      elim (cases_lt n (length m.imports)) as (λ _. i.slot + 1 < pair_count m) [
        | inl lt ↦ (
            let x = inside m.imports n lt in
            let s : Some i ≡ Some (record { part = x.0.part; name = x.0.name; slot = 2 * n }) = sym e
            ∙ import_at n x.0 x.1 in
            let t : i ≡ record { part = x.0.part; name = x.0.name; slot = 2 * n } = cc in
            let q : i.slot ≡ 2 * n = ap (λ (y : Import). y.slot) t in omega (arith, q, lt))
        | inr ge ↦ (
            let j = n - length m.imports in
            let lt : j < length m.procs = omega (arith, w, l, a, b, ge) in
            let z : n ≡ length m.imports + (n - length m.imports) = omega (arith, ge) in
            let x = inside m.procs j lt in
            let s : Some i ≡ Some
            (record { part = m.name; name = x.0.name; slot = 2 * (length m.imports + j) }) =
            sym e ∙ ap (slice_get
            (import_slots 0 m.imports ++ own_slots m.name (2 * length m.imports) m.procs)) z
            ∙ own_at j x.0 x.1 in
            let t : i ≡ record { part = m.name; name = x.0.name; slot = 2 * (length m.imports + j) } = cc in
            let q : i.slot ≡ 2 * (length m.imports + j) = ap (λ (y : Import). y.slot) t in
            omega (arith, q, lt))
      ]

  pub global_at : (o : ℕ) (z : ℤ) → slice_get m.globals o ≡ Some z
      → slice_get (first_data m) (pair_count m + o) ≡ Some (Int z)
  unfolding first_data
  global_at o z e =
      let l = length-replicate (pair_count m) (Int (pos 0)) in
      ap (λ n. slice_get (replicate (pair_count m) (Int (pos 0)) ++ map int_word m.globals) (n + o)) (sym l)
      ∙ get-right (replicate (pair_count m) (Int (pos 0))) (map int_word m.globals) o
      ∙ slice_get-map int_word m.globals o ∙ ap (option_map int_word) e
