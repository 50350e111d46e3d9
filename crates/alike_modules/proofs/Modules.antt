-- A module is read again.
use Rattle.std.proofs.Common.{◌≡◌, ◌≤◌, true, List, [], ◌∷◌, refl, sym, ◌∙◌, ap, arith, length, map, flat_map}
use Rattle.std.proofs.lemmas.List.{append-nil}
use Rattle.proc_grammar.specs.PlainTrees.{plain_trees}
use Rattle.proc_language.specs.declared.TheConstants.{MOST_ITEMS}
use Rattle.proc_language.specs.declared.module.Import.{Import}
use Rattle.proc_language.specs.declared.module.Global.{Global}
use Rattle.proc_language.specs.declared.module.Proc.{Proc}
use Rattle.proc_language.specs.declared.module.ModuleFields.{ModuleFields}
use Rattle.proc_language.specs.Limits.{Each, ImportFits, IsModule}
use Rattle.proc_language.specs.Unplaced.{unplaced_import, unplaced_global, unplaced_proc, unplaced, IsAlike}
use Rattle.proc_grammar.specs.declared.header.ModuleHeader.{ModuleHeader}
use Rattle.phrases.specs.Phrase.{◌>>=◌, only, many}
use Rattle.proc_grammar.specs.Grammar.{import_item, global_item, proc_item, a_module, one_more, room_in_body}
use Rattle.proc_print.specs.Printed.{import_pieces, global_pieces, proc_pieces, module_pieces}
use Rattle.alike_modules.specs.Written.{Again}
use Rattle.alike_modules.proofs.Steps.{step, done, at}
use Rattle.alike_modules.proofs.Items.{items_again, import_again, InitialFits, global_again, ProcAgain}
use Rattle.alike_modules.proofs.Items.{a_proc_again, SameHeader, header_again}

alike_module : (m : ModuleFields) (h : ModuleHeader) (is : List Import) (gs : List Global)
    (ps : List Proc)
    → SameHeader m h
    → map unplaced_import is ≡ map unplaced_import m.imports
    → map unplaced_global gs ≡ map unplaced_global m.globals
    → map unplaced_proc ps ≡ map unplaced_proc m.procs
    → unplaced (plain_trees.module_of h is gs ps) ≡ unplaced m
alike_module m h is gs ps same a b c = λ i. record {
  at = 0;
  name = same.name i;
  code = same.code i;
  data_base = same.data_base i;
  closure = same.closure i;
  returns = same.returns i;
  return_count = same.return_count i;
  stack = same.stack i;
  movable = same.movable i;
  imports = a i;
  globals = b i;
  procs = c i;
}

procs_again : (m : ModuleFields) (h : ModuleHeader) (is : List Import) (gs : List Global)
    → SameHeader m h
    → map unplaced_import is ≡ map unplaced_import m.imports
    → map unplaced_global gs ≡ map unplaced_global m.globals
    → (procs : List Proc) → m.procs ≡ procs → 1 ≤ length procs → length procs ≤ MOST_ITEMS
    → Each ProcAgain procs
    → Again (proc_item plain_trees true room_in_body 0 >>= λ first.
    (many one_more (proc_item plain_trees true room_in_body) 1 >>= λ procs.
    only (plain_trees.module_of h is gs (first ∷ procs)))) (flat_map proc_pieces procs)
    (λ x. unplaced x ≡ unplaced m)
procs_again m h is gs same a b [] e some few each = absurd (omega arith)
procs_again m h is gs same a b (p ∷ ps) e some few each =
    step (a_proc_again p each.0 0 (omega arith)) (λ q alike. at (append-nil (flat_map proc_pieces ps))
    (step (items_again proc_pieces unplaced_proc (proc_item plain_trees true room_in_body) MOST_ITEMS
    ProcAgain a_proc_again ps each.1 1 (omega arith)) (λ qs alikes.
    done (alike_module m h is gs (q ∷ qs) same a b ((λ i. alike i ∷ alikes i)
    ∙ ap (map unplaced_proc) (sym e))))))

pub module_again : (m : ModuleFields) → IsModule m → Each InitialFits m.globals → Each ProcAgain m.procs
    → Again (a_module plain_trees true room_in_body) (module_pieces m) (λ x. IsAlike x m)
unfolding a_module
module_again m fits initials procs =
    step (header_again m fits) (λ h same.
    step (items_again import_pieces unplaced_import (import_item [] true) MOST_ITEMS ImportFits import_again
    m.imports fits.imports.1 0 (omega (arith, fits.imports.0))) (λ is a.
    step (items_again global_pieces unplaced_global (global_item [] true) MOST_ITEMS InitialFits global_again
    m.globals initials 0 (omega (arith, fits.globals.0))) (λ gs b.
    procs_again m h is gs same a b m.procs refl fits.some fits.procs.0 procs)))
