-- Procedures and modules, as they are written.
use Rattle.std.proofs.Common.{◌≡◌, ℕ, ◌+◌, ◌-◌, ◌*◌, ◌≤◌, [], length, sym, ap, ◌∙◌, subst, arith}
use Rattle.std.specs.Prelude.{Result, Ok, Err, IfOk, IfErr}
use Rattle.component_file.specs.declared.TheConstants.{MOST_WORDS}
use Rattle.component_file.specs.declared.component.ComponentFields.{ComponentFields}
use Rattle.component_file.specs.Limits.{IsComponent}
use Rattle.call_sequence.specs.Verdict.{IsKept}
use Rattle.proc_language.specs.declared.module.ModuleFields.{ModuleFields}
use Rattle.proc_language.specs.Limits.{IsModule}
use Rattle.proc_names.specs.NameFaults.{name_faults}
use Rattle.proc_program.specs.declared.program.Procedure.{Procedure}
use Rattle.proc_program.specs.declared.program.Program.{Program}
use Rattle.proc_program.specs.StepView.{block_of}
use Rattle.proc_program.specs.Calls.{part_calls, procedure_calls}
use Rattle.proc_program.specs.Limits.{scope_of, ProcedureFits, IsProgram}
use Rattle.proc_program.specs.Lower.{part_of}
use Rattle.proc_program.proofs.Offers.{part_fits, calls_kept}
use Rattle.proc_templates.specs.declared.FrameShape.{FrameShape}
use Rattle.proc_templates.specs.Items.{Spot, lay}
use Rattle.proc_templates.specs.Templates.{before_epilogue, proc_code, proc_words}
use Rattle.proc_templates.specs.Compiled.{frame_of, size_of_proc, lay_proc, code_words, data_count}
use Rattle.proc_templates.specs.Compiled.{component_of}
use Rattle.proc_templates.specs.Bounds.{BlockBound}
use Rattle.proc_templates.specs.Kept.{FitsComponent, NamesDiffer, KeepsOwnRules}
use Rattle.proc_templates.proofs.Offers.{names_differ, block_bound, keeps_flow, keeps_own, limits_kept}
use Rattle.proc_compiler.specs.declared.counts.TheConstants.{EPILOGUE_WORDS}
use Rattle.proc_compiler.specs.Drafts.{Drafted, with_items, at_spot, Emits, EmitsProc}
use Rattle.proc_compiler.specs.Fault.{CompilesWith, CausesWith, Compiles, CausesFault}
use Rattle.proc_compiler.specs.declared.fault.CompileFault.{CompileFault}

-- ---- a procedure

pub frame_words : (m : Program) (p : Procedure) (f : FrameShape) → f ≡ frame_of m p → f.words ≡ p.need
unfolding frame_of
frame_words m p f e = ap (λ (g : FrameShape). g.words) e

pub body_bound : (m : Program) (p : Procedure) (f : FrameShape) → f ≡ frame_of m p → data_count m ≤ MOST_WORDS
    → ProcedureFits (scope_of m) p → BlockBound f (block_of p.body)
body_bound m p f e most fits =
    subst (λ g. BlockBound g (block_of p.body)) (sym e) (block_bound m most p (block_of p.body) fits.body)

pub temps_le : (m : Program) (p : Procedure) (f : FrameShape) → f ≡ frame_of m p
    → ProcedureFits (scope_of m) p
    → f.temps ≤ p.need
unfolding frame_of
temps_le m p f e fits = let g = fits.frame in subst (λ (h : FrameShape). h.temps ≤ p.need) (sym e) g

-- the epilogue stands before the last words
pub epilogue_at : (m : Program) (p : Procedure) (w : ℕ) → w ≡ p.need
    → before_epilogue (frame_of m p) p.callbacks (block_of p.body)
    ≡ size_of_proc p - (2 * w + EPILOGUE_WORDS)
unfolding before_epilogue frame_of
epilogue_at m p w e = omega (arith, e)

pub proc_written : (m : Program) (p : Procedure) (f : FrameShape) (s : Spot) (d0 d1 : Drafted) → f
    ≡ frame_of m p
    → s.stack_base ≡ m.stack
    → s.epilogue ≡ length d0.laid.code + before_epilogue (frame_of m p) p.callbacks (block_of p.body)
    → Emits (proc_code f p.callbacks (block_of p.body)) (proc_words f.words p.callbacks (block_of p.body))
    (procedure_calls p) (at_spot s d0) d1 → EmitsProc m p d0 d1
unfolding with_items lay_proc
proc_written m p f s d0 d1 hf hs he h =
    let body = block_of p.body in
    let code = proc_code (frame_of m p) p.callbacks body in
    record {
      laid = ap (λ (d : Drafted). d.laid) h.written
          ∙ ap (λ (g : FrameShape). lay s d0.laid (proc_code g p.callbacks body)) hf
          ∙ ap (λ n. lay (record { stack_base = n; epilogue = s.epilogue }) d0.laid code) hs
          ∙ ap (λ n. lay (record { stack_base = m.stack; epilogue = n }) d0.laid code) he;
      grown = h.grown
          ∙ ap (λ n. length d0.laid.code + proc_words n p.callbacks body) (frame_words m p f hf);
      sited = h.sited;
      kept = h.kept;
      base = ap (λ (d : Drafted). d.spot.stack_base) h.written ∙ hs;
    }

-- ---- the component of a program

pub limits_of : (c : ComponentFields) (m : Program) → c ≡ component_of m → FitsComponent m
    → NamesDiffer m.procs
    → part_calls m ≤ m.header.return_count → IsComponent c
limits_of c m e f n s = subst IsComponent (sym e) (limits_kept m f n s)

pub flow_of : (c : ComponentFields) (m : Program) → c ≡ component_of m → FitsComponent m → IsKept c
flow_of c m e f = subst IsKept (sym e) (keeps_flow m f)

pub own_of : (c : ComponentFields) (m : Program) → c ≡ component_of m → FitsComponent m
    → part_calls m ≤ m.header.return_count → KeepsOwnRules c
own_of c m e f s = subst KeepsOwnRules (sym e) (keeps_own m f s)

pub fits_of : (m : Program) → IsProgram m → code_words m ≤ MOST_WORDS → data_count m ≤ MOST_WORDS
    → FitsComponent m
fits_of m l c d = record { limits = l; code = c; data_words = d }

-- ---- the program of a module

pub part_ready : (m : ModuleFields) (p : Program) → p ≡ part_of m → IsModule m → IsProgram p
part_ready m p e l = subst IsProgram (sym e) (part_fits m l)

pub part_named : (m : ModuleFields) (p : Program) → p ≡ part_of m → name_faults m ≡ [] → NamesDiffer p.procs
part_named m p e n = subst (λ (q : Program). NamesDiffer q.procs) (sym e) (names_differ m n)

pub ok_map : {A E : Type 0} {P Q : A → Type 0} (r : Result A E) → ((x : A) → P x → Q x) → IfOk r P → IfOk r Q
ok_map (Ok x) f h = f x h
ok_map (Err e) f h = tt

pub err_map : {A E : Type 0} {P Q : E → Type 0} (r : Result A E) → ((e : E) → P e → Q e) → IfErr r P
    → IfErr r Q
err_map (Ok x) f h = tt
err_map (Err e) f h = f e h

pub module_compiles : (m : ModuleFields) (p : Program) → p ≡ part_of m
    → CompilesWith p (part_calls p) p.header.return_count → Compiles m
module_compiles m p e h =
    subst (λ n. CompilesWith (part_of m) n m.return_count) (calls_kept m)
    (subst (λ (q : Program). CompilesWith q (part_calls q) q.header.return_count) e h)

pub module_causes : (m : ModuleFields) (p : Program) (f : CompileFault) → p ≡ part_of m
    → CausesWith p (part_calls p) p.header.return_count f → CausesFault m f
module_causes m p f e h =
    subst (λ n. CausesWith (part_of m) n m.return_count f) (calls_kept m)
    (subst (λ (q : Program). CausesWith q (part_calls q) q.header.return_count f) e h)
