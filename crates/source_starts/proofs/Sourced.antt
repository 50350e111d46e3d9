-- The procedures of a lowered module: which of its source's each is, and what it fits.
use Rattle.std.proofs.Common.{◌≡◌, ℕ, zero, suc, ◌+◌, false, List, [], ◌∷◌, length, map, Option, Some, None}
use Rattle.std.proofs.Common.{refl, sym, ap, ◌∙◌, subst, arith}
use Rattle.std.specs.Prelude.{slice_get, sum_by}
use Rattle.std.specs.Option.{option_map_or}
use Rattle.std.proofs.lemmas.List.Sums.{sum_by-cons}
use Rattle.proc_language.specs.declared.module.Proc.{Proc}
use Rattle.proc_language.specs.declared.module.ModuleFields.{ModuleFields}
use Rattle.proc_language.specs.StmtView.{block_of as stmts_of}
use Rattle.proc_language.specs.Limits.{Each, IsModule, ProcFits, params_registers}
use Rattle.proc_names.specs.Calls.{proc_calls}
use Rattle.proc_names.specs.Need.{need}
use Rattle.proc_names.specs.NameFaults.{name_faults, procs_faults, proc_faults, block_faults, twice}
use Rattle.proc_names.specs.NameFaults.{item_names, own_names}
use Rattle.proc_program.specs.declared.program.Program.{Program}
use Rattle.proc_program.specs.declared.program.Procedure.{Procedure}
use Rattle.proc_program.specs.StepView.{block_of}
use Rattle.proc_program.specs.Lower.{procedure_of, procedures_of, part_of, words_in}
use Rattle.proc_program.specs.Limits.{scope_of, ProcedureFits, IsProgram}
use Rattle.proc_templates.specs.Items.{Laid}
use Rattle.proc_templates.specs.Templates.{proc_code}
use Rattle.proc_templates.specs.Compiled.{frame_of, first_temporary, size_of_proc, code_words, head_of}
use Rattle.proc_templates.specs.Compiled.{lay_proc, lay_procs, laid_of, component_of}
use Rattle.proc_templates.proofs.Offers.{lay-length, FrameFits, proc-size, spot_of, proc_laid, left_none}
use Rattle.proc_templates.proofs.Offers.{right_none}
use Rattle.source_laws.specs.Fits.{kinds_from, BlockFits}
use Rattle.source_laws.specs.Sites.{BlockNumbered}
use Rattle.proc_program.proofs.Offers.{block_kept}
use Rattle.source_starts.proofs.Numbers.{block_numbered}
use Rattle.source_starts.proofs.Fitted.{is_call, shares, registers_same, block_fits}
use Rattle.source_starts.proofs.Carrying.{calls_from}

-- ---- which procedure of the source

pub record IsLowered (m : ModuleFields) (n : ℕ) (ps : List Proc) (j : ℕ) (q : Procedure) : Type 0 where
  pub source : Proc
  pub source_is : slice_get ps j ≡ Some source
  pub first : ℕ
  pub is : q ≡ procedure_of m first source
  pub first_is : first ≡ calls_from n (procedures_of m n ps) j

pub lowered : (m : ModuleFields) (n : ℕ) (ps : List Proc) (j : ℕ) (q : Procedure)
    → slice_get (procedures_of m n ps) j ≡ Some q → IsLowered m n ps j q
lowered m n [] j q e = absurd (let z : None ≡ Some q = e in cc)
lowered m n (p ∷ ps) zero q e =
    let s : procedure_of m n p ≡ q = cc in
    record { source = p; source_is = refl; first = n; is = sym s; first_is = refl }
lowered m n (p ∷ ps) (suc j) q e =
    let x = lowered m (n + proc_calls p) ps j q e in
    let c = block_kept m p (stmts_of p.body) n in
    record {
      source = x.source;
      source_is = x.source_is;
      first = x.first;
      is = x.is;
      first_is = x.first_is ∙ ap (λ k. calls_from (n + k) (procedures_of m (n + proc_calls p) ps) j) (sym c);
    }

pub shared_is : (m : ModuleFields) (n : ℕ) (ps : List Proc) (j : ℕ) (q : Procedure)
    → slice_get (procedures_of m n ps) j ≡ Some q → shares ps j ≡ q.shared
shared_is m n ps j q e =
    let x = lowered m n ps j q e in
    ap (λ (o : Option Proc). option_map_or (λ (p : Proc). p.shared) o false) x.source_is
    ∙ ap (λ (p : Procedure). p.shared) (sym x.is)

-- ---- faults

each_none : (m : ModuleFields) (ps : List Proc) (j : ℕ) (p : Proc) → procs_faults m ps ≡ []
    → slice_get ps j ≡ Some p
    → proc_faults m p ≡ []
each_none m [] j p h e = absurd (let z : None ≡ Some p = e in cc)
each_none m (x ∷ ps) zero p h e =
    let s : x ≡ p = cc in
    subst (λ y. proc_faults m y ≡ []) s (left_none (proc_faults m x) (procs_faults m ps) h)
each_none m (x ∷ ps) (suc j) p h e = each_none m ps j p (right_none (proc_faults m x) (procs_faults m ps) h) e

each_fits : (ps : List Proc) (j : ℕ) (p : Proc) → Each ProcFits ps → slice_get ps j ≡ Some p → ProcFits p
each_fits [] j p h e = absurd (let z : None ≡ Some p = e in cc)
each_fits (x ∷ ps) zero p h e = let s : x ≡ p = cc in subst ProcFits s h.0
each_fits (x ∷ ps) (suc j) p h e = each_fits ps j p h.1 e

module _ (m : ModuleFields) (limits : IsModule m) (resolved : name_faults m ≡ []) (j : ℕ) (q : Procedure)
    (at : slice_get (part_of m).procs j ≡ Some q) where
  it : IsLowered m 0 m.procs j q
  it = lowered m 0 m.procs j q at

  pub numbered : BlockNumbered (calls_from 0 (part_of m).procs j) (block_of q.body)
  numbered =
      subst (λ k. BlockNumbered k (block_of q.body)) it.first_is
      (subst (λ (x : Procedure). BlockNumbered it.first (block_of x.body)) (sym it.is)
      (block_numbered m it.source (stmts_of it.source.body) it.first))

  abbrev FitsAs : Procedure → Type 0
  FitsAs x = BlockFits (kinds_from x.callbacks x.locals) x.need (first_temporary x) (words_in m.globals)
      (length m.imports) (length m.procs) (shares m.procs) (block_of x.body)

  pub fits : FitsAs q
  fits =
      let p = it.source in
      let none = each_none m m.procs j p (right_none (twice (item_names m)) (procs_faults m m.procs) resolved)
      it.source_is in
      let body = right_none (twice (own_names p)) (block_faults m p (stmts_of p.body)) none in
      let f = each_fits m.procs j p limits.procs.1 it.source_is in
      let r = registers_same p.params in
      let t : 2 + params_registers p.params + length p.locals ≡ first_temporary (procedure_of m it.first p) =
      omega (arith, r) in
      subst FitsAs (sym it.is)
      (subst (λ t. BlockFits (kinds_from (map is_call p.params) (length p.locals)) (need p) t
      (words_in m.globals)
      (length m.imports) (length m.procs) (shares m.procs) (block_of (procedure_of m it.first p).body)) t
      (block_fits m limits p f (stmts_of p.body) it.first f.body body (omega arith)))

-- ---- how many words the code has

frame_fits : (m : Program) (p : Procedure) → ProcedureFits (scope_of m) p
    → FrameFits (frame_of m p) p.callbacks
unfolding frame_of
frame_fits m p f = let r = f.registers in let g = f.frame in record { few = r; room = omega (arith, g) }

one_length : (m : Program) (l : Laid) (p : Procedure) → ProcedureFits (scope_of m) p
    → length (lay_proc m l p).code ≡ length l.code + size_of_proc p
unfolding frame_of
one_length m l p f =
    ap (λ (x : Laid). length x.code) (proc_laid m l p)
    ∙ lay-length (spot_of m l p) (proc_code (frame_of m p) p.callbacks (block_of p.body)) l
    ∙ (proc-size (frame_of m p) p.callbacks (frame_fits m p f) (block_of p.body)).by (length l.code)

all_length : (m : Program) (ps : List Procedure) (l : Laid) → Each (ProcedureFits (scope_of m)) ps
    → length (lay_procs m l ps).code ≡ length l.code + sum_by size_of_proc ps
all_length m [] l f = omega arith
all_length m (p ∷ ps) l f =
    let h = all_length m ps (lay_proc m l p) f.1 in
    let g = one_length m l p f.0 in
    let n = sum_by size_of_proc ps in
    let e : length (lay_proc m l p).code + n ≡ length l.code + (size_of_proc p + n) = omega (arith, g) in
    h ∙ e ∙ ap (λ k. length l.code + k) (sym (sum_by-cons size_of_proc p ps))

pub code_length : (m : Program) → IsProgram m → length (component_of m).code ≡ code_words m
unfolding component_of laid_of code_words
code_length m f = all_length m m.procs (head_of m) f.procs.1
