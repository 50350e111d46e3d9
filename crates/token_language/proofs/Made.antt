-- What is made of parts without tokens.
use Rattle.std.proofs.Common.{◌≡◌, refl, List, map}
use Rattle.proc_language.specs.declared.tree.Name.{Name}
use Rattle.proc_language.specs.declared.module.Import.{Import}
use Rattle.proc_language.specs.declared.module.Global.{Global}
use Rattle.proc_language.specs.declared.module.Param.{Param}
use Rattle.proc_language.specs.declared.module.Proc.{Proc}
use Rattle.proc_language.specs.Tree.{Stmt}
use Rattle.token_language.specs.declared.module.TokenProc.{TokenProc}
use Rattle.token_language.specs.declared.module.TokenModuleFields.{TokenModuleFields}
use Rattle.token_language.specs.StmtView.{block_of}
use Rattle.token_language.specs.Erased.{erased, erased_block, erased_params, erased_locals, erased_proc}
use Rattle.token_language.specs.Erased.{stmts_in}

pub proc_made : (p : TokenProc) (name : Name) (params : List Param) (locals : List Name) (body : List Stmt)
    → name ≡ p.name → params ≡ erased_params p.params → locals ≡ erased_locals p.locals
    → body ≡ stmts_in (erased_block (block_of p.body))
    → (record (erased_proc p) { name = name; params = params; locals = locals; body = body })
    ≡ erased_proc p
proc_made p name params locals body a b c d = rw (a, b, c, d) refl

pub module_made : (m : TokenModuleFields) (name : Name) (imports : List Import) (globals : List Global)
    (procs : List Proc)
    → name ≡ m.name → imports ≡ m.imports → globals ≡ m.globals → procs ≡ map erased_proc m.procs
    → (record (erased m) { name = name; imports = imports; globals = globals; procs = procs })
    ≡ erased m
module_made m name imports globals procs a b c d = rw (a, b, c, d) refl
