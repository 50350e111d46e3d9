-- All pieces of a module are sound.
use Rattle.std.proofs.Common.{ℕ, suc, Bool, true, false, if◌then◌else◌, List, [], ◌∷◌, ◌++◌, Option, Some}
use Rattle.std.proofs.Common.{None, refl, arith, flat_map}
use Rattle.std.specs.Prelude.{codes, ℤ, pos, negsuc, IfSome}
use Rattle.proc_language.specs.declared.tree.Name.{Name}
use Rattle.proc_language.specs.declared.tree.Op.{Op}
use Rattle.proc_language.specs.declared.tree.Op.TheVariants.{Plus, Minus, Less, Equal}
use Rattle.proc_language.specs.declared.module.Import.{Import}
use Rattle.proc_language.specs.declared.module.Global.{Global}
use Rattle.proc_language.specs.declared.module.Param.{Param}
use Rattle.proc_language.specs.declared.module.Proc.{Proc}
use Rattle.proc_language.specs.declared.module.ModuleFields.{ModuleFields}
use Rattle.proc_language.specs.Tree.{Expr, number, var, element, call, op, Args, no_args, value, proc}
use Rattle.proc_language.specs.Tree.{Stmt, set, set_at, do_call, if_then, if_else, while, return, halt, Block}
use Rattle.proc_language.specs.Tree.{no_stmts, stmt}
use Rattle.proc_language.specs.Limits.{Each, NameFits, ExprFits, ArgsFit, StmtFits, BlockFits, ImportFits}
use Rattle.proc_language.specs.Limits.{LengthFits, ParamFits, ArityFits, ProcFits, IsModule}
use Rattle.proc_language.specs.StmtView.{block_of}
use Rattle.proc_print.specs.Printed.{Piece, word, sign, signs_of, named, between_signs, bracketed, is_op}
use Rattle.proc_print.specs.Printed.{in_curly, ended, call_pieces, expr_pieces, args_pieces, more_pieces}
use Rattle.proc_print.specs.Printed.{stmt_pieces, block_pieces, import_pieces, length_pieces, initial_pieces}
use Rattle.proc_print.specs.Printed.{global_pieces, arity_pieces, param_pieces, more_params, params_pieces}
use Rattle.proc_print.specs.Printed.{local_pieces, proc_pieces, export_pieces, field_pieces, movable_pieces}
use Rattle.proc_print.specs.Printed.{base_pieces, seal_pieces, header_pieces, module_pieces}
use Rattle.alike_modules.proofs.Leaves.{IntegerFits}
use Rattle.alike_modules.proofs.Items.{InitialFits}
use Rattle.alike_modules.proofs.Sound.{Sound, word_sound, numeral_sound, name_is, semicolon_sound}
use Rattle.alike_modules.proofs.Sound.{curly_sound, end_curly_sound, round_sound, end_round_sound}
use Rattle.alike_modules.proofs.Sound.{square_sound, end_square_sound, comma_sound, dot_sound, slash_sound}
use Rattle.alike_modules.proofs.Sound.{assign_sound, less_sound, plus_sound, minus_sound, equal_sound}

abbrev pub AreSound : List Piece → Type 0
AreSound ps = Each Sound ps

both : (ps qs : List Piece) → AreSound ps → AreSound qs → AreSound (ps ++ qs)
both [] qs a b = b
both (p ∷ ps) qs a b = (a.0, both ps qs a.1 b)

-- a name's piece
name_sound : (x : Name) → NameFits x → AreSound (named x)
name_sound x fits = (word_sound x.text (name_is x.text fits), tt)

in_sound : (o c : List ℕ) (ps : List Piece) → Sound (sign o) → Sound (sign c) → AreSound ps
    → AreSound (between_signs o ps c)
in_sound o c ps a b each = (a, both ps (sign c ∷ []) each (b, tt))

op_sound : (o : Op) → Sound (sign (signs_of o))
op_sound Plus = plus_sound
op_sound Minus = minus_sound
op_sound Less = less_sound
op_sound Equal = equal_sound

operand_sound : (e : Expr) (ps : List Piece) → AreSound ps → AreSound (bracketed e ps)
operand_sound e ps each = by (is_op e)
  where
    by : (b : Bool) → AreSound (if b then between_signs (codes "(") ps (codes ")") else ps)
    by true = in_sound (codes "(") (codes ")") ps round_sound end_round_sound each
    by false = each

proc_word : Sound (word (codes "proc"))
proc_word = word_sound (codes "proc") (record { some = omega arith; start = refl; bytes = refl })

if_word : Sound (word (codes "if"))
if_word = word_sound (codes "if") (record { some = omega arith; start = refl; bytes = refl })

else_word : Sound (word (codes "else"))
else_word = word_sound (codes "else") (record { some = omega arith; start = refl; bytes = refl })

while_word : Sound (word (codes "while"))
while_word = word_sound (codes "while") (record { some = omega arith; start = refl; bytes = refl })

return_word : Sound (word (codes "return"))
return_word = word_sound (codes "return") (record { some = omega arith; start = refl; bytes = refl })

halt_word : Sound (word (codes "halt"))
halt_word = word_sound (codes "halt") (record { some = omega arith; start = refl; bytes = refl })

import_word : Sound (word (codes "import"))
import_word = word_sound (codes "import") (record { some = omega arith; start = refl; bytes = refl })

global_word : Sound (word (codes "global"))
global_word = word_sound (codes "global") (record { some = omega arith; start = refl; bytes = refl })

local_word : Sound (word (codes "local"))
local_word = word_sound (codes "local") (record { some = omega arith; start = refl; bytes = refl })

export_word : Sound (word (codes "export"))
export_word = word_sound (codes "export") (record { some = omega arith; start = refl; bytes = refl })

module_word : Sound (word (codes "module"))
module_word = word_sound (codes "module") (record { some = omega arith; start = refl; bytes = refl })

code_word : Sound (word (codes "code"))
code_word = word_sound (codes "code") (record { some = omega arith; start = refl; bytes = refl })

data_word : Sound (word (codes "data"))
data_word = word_sound (codes "data") (record { some = omega arith; start = refl; bytes = refl })

closure_word : Sound (word (codes "closure"))
closure_word = word_sound (codes "closure") (record { some = omega arith; start = refl; bytes = refl })

returns_word : Sound (word (codes "returns"))
returns_word = word_sound (codes "returns") (record { some = omega arith; start = refl; bytes = refl })

stack_word : Sound (word (codes "stack"))
stack_word = word_sound (codes "stack") (record { some = omega arith; start = refl; bytes = refl })

movable_word : Sound (word (codes "movable"))
movable_word = word_sound (codes "movable") (record { some = omega arith; start = refl; bytes = refl })

-- ---- expressions

mutual
  expr_sound : (e : Expr) → ExprFits e → AreSound (expr_pieces e)
  expr_sound (number at n) fits = (numeral_sound n (omega arith), tt)
  expr_sound (var at x) fits = name_sound x fits
  expr_sound (element at x e) fits =
      both (named x) (between_signs (codes "[") (expr_pieces e) (codes "]")) (name_sound x fits.0)
      (in_sound (codes "[") (codes "]") (expr_pieces e) square_sound end_square_sound
      (expr_sound e fits.1))
  expr_sound (call at f args) fits =
      both (named f) (between_signs (codes "(") (args_pieces args) (codes ")")) (name_sound f fits.0.0)
      (in_sound (codes "(") (codes ")") (args_pieces args) round_sound end_round_sound
      (args_sound args fits.1))
  expr_sound (op at o a b) fits =
      both (bracketed a (expr_pieces a)) (sign (signs_of o) ∷ bracketed b (expr_pieces b))
      (operand_sound a (expr_pieces a) (expr_sound a fits.0))
      (op_sound o, operand_sound b (expr_pieces b) (expr_sound b fits.1))

  args_sound : (args : Args) → ArgsFit args → AreSound (args_pieces args)
  args_sound no_args fits = tt
  args_sound (value e args) fits = both (expr_pieces e) (more_pieces args) (expr_sound e fits.0)
      (more_sound args fits.1)
  args_sound (proc f args) fits =
      (proc_word, both (named f) (more_pieces args) (name_sound f fits.0) (more_sound args fits.1))

  more_sound : (args : Args) → ArgsFit args → AreSound (more_pieces args)
  more_sound no_args fits = tt
  more_sound (value e args) fits =
      (comma_sound, both (expr_pieces e) (more_pieces args) (expr_sound e fits.0) (more_sound args fits.1))
  more_sound (proc f args) fits = (
    comma_sound,
    (
      proc_word,
      both (named f) (more_pieces args) (name_sound f fits.0)
          (more_sound args fits.1),
    ),
  )

-- ---- statements

ended_sound : (ps : List Piece) → AreSound ps → AreSound (ended ps)
ended_sound ps each = both ps (sign (codes ";") ∷ []) each (semicolon_sound, tt)

curly_block : (ps : List Piece) → AreSound ps → AreSound (in_curly ps)
curly_block ps each = in_sound (codes "{") (codes "}") ps curly_sound end_curly_sound each

mutual
  stmt_sound : (s : Stmt) → StmtFits s → AreSound (stmt_pieces s)
  stmt_sound (set at x e) fits = ended_sound (named x ++ (sign (codes "=") ∷ expr_pieces e))
      (both (named x) (sign (codes "=") ∷ expr_pieces e) (name_sound x fits.0)
      (assign_sound, expr_sound e fits.1))
  stmt_sound (set_at at x i e) fits =
      ended_sound (named x ++ (between_signs (codes "[") (expr_pieces i) (codes "]") ++
      (sign (codes "=") ∷ expr_pieces e)))
      (both (named x) (between_signs (codes "[") (expr_pieces i) (codes "]") ++
      (sign (codes "=") ∷ expr_pieces e))
      (name_sound x fits.0)
      (both (between_signs (codes "[") (expr_pieces i) (codes "]")) (sign (codes "=") ∷ expr_pieces e)
      (in_sound (codes "[") (codes "]") (expr_pieces i) square_sound end_square_sound
      (expr_sound i fits.1)) (assign_sound, expr_sound e fits.2)))
  stmt_sound (do_call at f args) fits =
      ended_sound (call_pieces f args)
      (both (named f) (between_signs (codes "(") (args_pieces args) (codes ")"))
      (name_sound f fits.0.0)
      (in_sound (codes "(") (codes ")") (args_pieces args) round_sound end_round_sound
      (args_sound args fits.1)))
  stmt_sound (if_then at c b) fits = (
    if_word,
    both (expr_pieces c) (in_curly (block_pieces b)) (expr_sound c fits.0)
        (curly_block (block_pieces b) (block_sound b fits.1)),
  )
  stmt_sound (if_else at c b d) fits = (
    if_word,
    both (expr_pieces c) (in_curly (block_pieces b) ++ (word (codes "else") ∷ in_curly (block_pieces d)))
        (expr_sound c fits.0)
        (both (in_curly (block_pieces b)) (word (codes "else") ∷ in_curly (block_pieces d))
        (curly_block (block_pieces b) (block_sound b fits.1))
        (else_word, curly_block (block_pieces d) (block_sound d fits.2))),
  )
  stmt_sound (while at c b) fits = (
    while_word,
    both (expr_pieces c) (in_curly (block_pieces b)) (expr_sound c fits.0)
        (curly_block (block_pieces b) (block_sound b fits.1)),
  )
  stmt_sound (return at e) fits = ended_sound (word (codes "return") ∷ expr_pieces e)
      (return_word, expr_sound e fits)
  stmt_sound (halt at e) fits = ended_sound (word (codes "halt") ∷ expr_pieces e)
      (halt_word, expr_sound e fits)

  block_sound : (b : Block) → BlockFits b → AreSound (block_pieces b)
  block_sound no_stmts fits = tt
  block_sound (stmt s b) fits = both (stmt_pieces s) (block_pieces b) (stmt_sound s fits.0)
      (block_sound b fits.1)

-- ---- items

all_sound : {A : Type 0} (f : A → List Piece) (Fits : A → Type 0) → ((x : A) → Fits x → AreSound (f x))
    → (xs : List A) → Each Fits xs → AreSound (flat_map f xs)
all_sound f Fits one [] fits = tt
all_sound f Fits one (x ∷ xs) fits = both (f x) (flat_map f xs) (one x fits.0)
    (all_sound f Fits one xs fits.1)

import_sound : (i : Import) → ImportFits i → AreSound (import_pieces i)
import_sound i fits = (
  import_word,
  (
    (name_sound i.part fits.0).0,
    (
      dot_sound,
      (
        (name_sound i.name fits.1).0,
        (slash_sound, (numeral_sound i.arity (omega (arith, fits.2)), (semicolon_sound, tt))),
      ),
    ),
  ),
)

length_sound : (given : Option ℕ) → IfSome given LengthFits → AreSound (length_pieces given)
length_sound None fits = tt
length_sound (Some n) fits = (square_sound, (numeral_sound n (omega (arith, fits.1)), (end_square_sound, tt)))

initial_sound : (given : Option ℤ) → IfSome given IntegerFits → AreSound (initial_pieces given)
initial_sound None fits = tt
initial_sound (Some (pos n)) fits = (assign_sound, (numeral_sound n (omega arith), tt))
initial_sound (Some (negsuc n)) fits =
    (assign_sound, (minus_sound, (numeral_sound (suc n) (omega arith), tt)))

global_sound : (g : Global) → InitialFits g → AreSound (global_pieces g)
global_sound g fits =
    ended_sound (word (codes "global") ∷
    (named g.name ++ (length_pieces g.length ++ initial_pieces g.initial))) (
      global_word,
      both (named g.name) (length_pieces g.length ++ initial_pieces g.initial)
          (name_sound g.name fits.global.0)
          (both (length_pieces g.length) (initial_pieces g.initial) (length_sound g.length fits.global.1)
          (initial_sound g.initial fits.initial)),
    )

arity_sound : (given : Option ℕ) → ArityFits given → AreSound (arity_pieces given)
arity_sound None fits = tt
arity_sound (Some n) fits = (slash_sound, (numeral_sound n (omega arith), tt))

param_sound : (p : Param) → ParamFits p → AreSound (param_pieces p)
param_sound p fits = both (named p.name) (arity_pieces p.arity) (name_sound p.name fits.0)
    (arity_sound p.arity fits.1)

more_params_sound : (ps : List Param) → Each ParamFits ps → AreSound (more_params ps)
more_params_sound [] fits = tt
more_params_sound (p ∷ ps) fits = (
  comma_sound,
  both (param_pieces p) (more_params ps) (param_sound p fits.0)
      (more_params_sound ps fits.1),
)

params_sound : (ps : List Param) → Each ParamFits ps → AreSound (params_pieces ps)
params_sound [] fits = tt
params_sound (p ∷ ps) fits = both (param_pieces p) (more_params ps) (param_sound p fits.0)
    (more_params_sound ps fits.1)

local_sound : (x : Name) → NameFits x → AreSound (local_pieces x)
local_sound x fits = (local_word, ((name_sound x fits).0, (semicolon_sound, tt)))

export_sound : (shared : Bool) → AreSound (export_pieces shared)
export_sound true = (export_word, tt)
export_sound false = tt

proc_sound : (p : Proc) → ProcFits p → AreSound (proc_pieces p)
proc_sound p fits =
    both (export_pieces p.shared)
    (word (codes "proc") ∷
    (named p.name ++ (between_signs (codes "(") (params_pieces p.params) (codes ")") ++ in_curly
    (flat_map local_pieces p.locals ++ block_pieces (block_of p.body)))))
    (export_sound p.shared) (
      proc_word,
      both (named p.name) (between_signs (codes "(") (params_pieces p.params) (codes ")") ++ in_curly
          (flat_map local_pieces p.locals ++ block_pieces (block_of p.body))) (name_sound p.name fits.name)
          (both (between_signs (codes "(") (params_pieces p.params) (codes ")"))
          (in_curly (flat_map local_pieces p.locals ++ block_pieces (block_of p.body)))
          (in_sound (codes "(") (codes ")") (params_pieces p.params) round_sound end_round_sound
          (params_sound p.params fits.params))
          (curly_block (flat_map local_pieces p.locals ++ block_pieces (block_of p.body))
          (both (flat_map local_pieces p.locals) (block_pieces (block_of p.body))
          (all_sound local_pieces NameFits local_sound p.locals fits.locals.1)
          (block_sound (block_of p.body) fits.body)))),
    )

movable_sound : (movable : Bool) → AreSound (movable_pieces movable)
movable_sound true = (movable_word, tt)
movable_sound false = tt

header_sound : (m : ModuleFields) → IsModule m → AreSound (header_pieces m)
unfolding header_pieces base_pieces seal_pieces field_pieces
header_sound m fits = (
  module_word,
  (
    (name_sound m.name fits.name).0,
    (
      code_word,
      (
        numeral_sound m.code (omega (arith, fits.code)),
        (
          data_word,
          (
            numeral_sound m.data_base (omega (arith, fits.data_base)),
            (
              closure_word,
              (
                numeral_sound m.closure (omega (arith, fits.closure)),
                (
                  returns_word,
                  (
                    numeral_sound m.returns (omega (arith, fits.returns.0)),
                    (
                      numeral_sound m.return_count (omega (arith, fits.returns.1)),
                      (
                        stack_word,
                        (
                          numeral_sound m.stack (omega (arith, fits.stack)),
                          both (movable_pieces m.movable) (sign (codes ";") ∷ []) (movable_sound m.movable)
                              (semicolon_sound, tt),
                        ),
                      ),
                    ),
                  ),
                ),
              ),
            ),
          ),
        ),
      ),
    ),
  ),
)

pub module_sound : (m : ModuleFields) → IsModule m → Each InitialFits m.globals → AreSound (module_pieces m)
module_sound m fits initials =
    both (header_pieces m)
    (flat_map import_pieces m.imports ++
    (flat_map global_pieces m.globals ++ flat_map proc_pieces m.procs)) (header_sound m fits)
    (both (flat_map import_pieces m.imports)
    (flat_map global_pieces m.globals ++ flat_map proc_pieces m.procs)
    (all_sound import_pieces ImportFits import_sound m.imports fits.imports.1)
    (both (flat_map global_pieces m.globals) (flat_map proc_pieces m.procs)
    (all_sound global_pieces InitialFits global_sound m.globals initials)
    (all_sound proc_pieces ProcFits proc_sound m.procs fits.procs.1)))
