-- The procedures of a module whose words aren't too many are ready; so its component keeps the rules.
use Rattle.std.proofs.Common.{◌≡◌, ◌+◌, ◌*◌, ◌≤◌, List, [], ◌∷◌, length, arith}
use Rattle.std.specs.Prelude.{sum_by}
use Rattle.std.proofs.lemmas.List.Sums.{sum_by-cons}
use Rattle.component_file.specs.declared.TheConstants.{MOST_WORDS}
use Rattle.call_sequence.specs.Verdict.{IsKept}
use Rattle.proc_language.specs.Limits.{Each}
use Rattle.proc_program.specs.declared.program.Location.{Location}
use Rattle.proc_program.specs.declared.program.Location.TheVariants.{Local, Global}
use Rattle.proc_program.specs.declared.program.Handle.{Handle}
use Rattle.proc_program.specs.declared.program.Handle.TheVariants.{Given, Own, Imported}
use Rattle.proc_program.specs.declared.program.Array.{Array}
use Rattle.proc_program.specs.declared.program.Procedure.{Procedure}
use Rattle.proc_program.specs.declared.program.Program.{Program}
use Rattle.proc_program.specs.Program.{Exp, Number, Load, Element, Call, Binary, Args, no_args, value, pass}
use Rattle.proc_program.specs.Program.{Statement, Set, SetAt, Do, If, While, Return, Halt}
use Rattle.proc_program.specs.Program.{Block, no_steps, step}
use Rattle.proc_program.specs.StepView.{block_of}
use Rattle.proc_program.specs.Calls.{part_calls}
use Rattle.proc_program.specs.Limits.{scope_of, PlaceFits, RowFits, HandleFits, ExpFits, ArgsFit, StepFits}
use Rattle.proc_program.specs.Limits.{BlockFits, ProcedureFits}
use Rattle.proc_templates.specs.Templates.{block_words, checks_words}
use Rattle.proc_templates.specs.Compiled.{frame_of, size_of_proc, code_words, data_count, head_of, laid_of}
use Rattle.proc_templates.specs.Compiled.{component_of}
use Rattle.proc_templates.specs.Bounds.{PlaceBound, RowBound, HandleBound, ExpBound, ArgsBound, StepBound}
use Rattle.proc_templates.specs.Bounds.{BlockBound}
use Rattle.proc_templates.specs.Kept.{FitsComponent, KeepsOwnRules}
use Rattle.proc_templates.proofs.Fits.{proc_fits}
use Rattle.proc_templates.proofs.Whole.{ProcReady, AllReady, procs-length}
use Rattle.proc_templates.proofs.Listed.{flow_kept}
use Rattle.proc_templates.proofs.OwnRules.{own_kept}

-- ---- places

module _ (m : Program) (most : data_count m ≤ MOST_WORDS) (p : Procedure) where
  data_most : 2 * (length m.imports + length m.procs) + length m.globals ≤ MOST_WORDS
  unfolding data_count
  data_most = most

  place_bound : (x : Location) → PlaceFits (scope_of m) x → PlaceBound (frame_of m p) x
  unfolding frame_of
  place_bound (Local i) h = omega (arith, h)
  place_bound (Global o) h = let k = data_most in omega (arith, h, k)

  row_bound : (r : Array) → RowFits (scope_of m) r → RowBound (frame_of m p) r
  unfolding frame_of
  row_bound r h = let k = data_most in (omega (arith, h, k), omega (arith, h, k))

  handle_bound : (a : Handle) → HandleFits (scope_of m) a → HandleBound (frame_of m p) a
  unfolding frame_of
  handle_bound (Given i) h = omega (arith, h)
  handle_bound (Own j) h = let k = data_most in omega (arith, h, k)
  handle_bound (Imported i) h = let k = data_most in omega (arith, h, k)

  mutual
    exp_bound : (e : Exp) → ExpFits (scope_of m) e → ExpBound (frame_of m p) e
    exp_bound (Number n) w = w
    exp_bound (Load x) w = place_bound x w
    exp_bound (Element r e) w = (row_bound r w.0, exp_bound e w.1)
    exp_bound (Call n h xs) w = (w.0, handle_bound h w.1, args_bound xs w.2)
    exp_bound (Binary o a b) w = (exp_bound a w.0, exp_bound b w.1)

    args_bound : (xs : Args) → ArgsFit (scope_of m) xs → ArgsBound (frame_of m p) xs
    args_bound no_args w = tt
    args_bound (value e xs) w = (exp_bound e w.0, args_bound xs w.1)
    args_bound (pass h xs) w = (handle_bound h w.0, args_bound xs w.1)

  mutual
    step_bound : (s : Statement) → StepFits (scope_of m) s → StepBound (frame_of m p) s
    step_bound (Set x e) w = (place_bound x w.0, exp_bound e w.1)
    step_bound (SetAt r i e) w = (row_bound r w.0, exp_bound i w.1, exp_bound e w.2)
    step_bound (Do e) w = exp_bound e w
    step_bound (If c a b) w = (exp_bound c w.0, block_bound a w.1, block_bound b w.2)
    step_bound (While c b) w = (exp_bound c w.0, block_bound b w.1)
    step_bound (Return e) w = exp_bound e w
    step_bound (Halt e) w = exp_bound e w

    pub block_bound : (b : Block) → BlockFits (scope_of m) b → BlockBound (frame_of m p) b
    block_bound no_steps w = tt
    block_bound (step s b) w = (step_bound s w.0, block_bound b w.1)

  ready_proc : ProcedureFits (scope_of m) p → size_of_proc p ≤ MOST_WORDS → ProcReady m p
  unfolding frame_of
  ready_proc w h =
      let e : 34 + checks_words p.callbacks + 4 * p.need + block_words (block_of p.body) ≤ MOST_WORDS = h in
      let r = w.registers in
      let g = w.frame in
      record {
        frame = record { few = r; room = omega (arith, g) };
        items =
            (proc_fits (frame_of m p) (omega (arith, e)) p.callbacks (block_of p.body)
            (block_bound (block_of p.body) w.body) (omega (arith, e, g))).by;
      }

readies : (m : Program) → data_count m ≤ MOST_WORDS → (ps : List Procedure)
    → Each (ProcedureFits (scope_of m)) ps
    → sum_by size_of_proc ps ≤ MOST_WORDS → AllReady m ps
readies m most [] w h = tt
readies m most (p ∷ ps) w h =
    let e = sum_by-cons size_of_proc p ps in
    (ready_proc m most p w.0 (omega (arith, e, h)), readies m most ps w.1 (omega (arith, e, h)))

pub ready : (m : Program) → FitsComponent m → AllReady m m.procs
unfolding code_words
ready m f = let h = f.code in readies m f.data_words m.procs f.limits.procs.1 (omega (arith, h))

pub code-length : (m : Program) → FitsComponent m → length (laid_of m).code ≡ code_words m
unfolding laid_of code_words
code-length m f = procs-length m m.procs (head_of m) (ready m f)

code-most : (m : Program) → FitsComponent m → length (laid_of m).code ≤ MOST_WORDS
code-most m f = let e = code-length m f in let h = f.code in omega (arith, e, h)

pub keeps_flow : (m : Program) → FitsComponent m → IsKept (component_of m)
keeps_flow m f = flow_kept m (ready m f) (code-most m f)

pub keeps_own : (m : Program) → FitsComponent m → part_calls m ≤ m.header.return_count → KeepsOwnRules
    (component_of m)
keeps_own m f seals = own_kept m (ready m f) (code-most m f) seals
