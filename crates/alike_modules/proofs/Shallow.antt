-- How deep brackets of a printed text are, and how many the module has open at once.
use Rattle.std.proofs.Common.{◌≡◌, ℕ, suc, ◌+◌, ◌-◌, ◌<◌, ◌≤◌, max, Bool, true, false, IsTrue, if◌then◌else◌}
use Rattle.std.proofs.Common.{List, [], ◌∷◌, ◌++◌, Option, Some, None, refl, sym, ◌∙◌, subst, arith}
use Rattle.std.proofs.Common.{append_assoc, append-nil, flat_map}
use Rattle.std.specs.Prelude.{codes, ℤ, pos, negsuc}
use Rattle.proc_language.specs.declared.tree.Name.{Name}
use Rattle.proc_language.specs.declared.tree.Op.{Op}
use Rattle.proc_language.specs.declared.tree.Op.TheVariants.{Plus, Minus, Less, Equal}
use Rattle.proc_language.specs.declared.module.Import.{Import}
use Rattle.proc_language.specs.declared.module.Global.{Global}
use Rattle.proc_language.specs.declared.module.Param.{Param}
use Rattle.proc_language.specs.declared.module.Proc.{Proc}
use Rattle.proc_language.specs.declared.module.ModuleFields.{ModuleFields}
use Rattle.proc_language.specs.Tree.{Expr, number, var, element, call, op, Args, no_args, value, proc}
use Rattle.proc_language.specs.Tree.{Stmt, set, set_at, do_call, if_then, if_else, while, return, halt, Block}
use Rattle.proc_language.specs.Tree.{no_stmts, stmt}
use Rattle.proc_language.specs.StmtView.{block_of}
use Rattle.proc_grammar.specs.Lexemes.{Lexeme}
use Rattle.proc_print.specs.Printed.{Piece, word, numeral, sign, signs_of, between_signs, bracketed, is_op}
use Rattle.proc_print.specs.Printed.{in_curly, ended, call_pieces, expr_pieces, args_pieces, more_pieces}
use Rattle.proc_print.specs.Printed.{stmt_pieces, block_pieces, import_pieces, length_pieces, initial_pieces}
use Rattle.proc_print.specs.Printed.{global_pieces, arity_pieces, param_pieces, more_params, params_pieces}
use Rattle.proc_print.specs.Printed.{local_pieces, proc_pieces, export_pieces, field_pieces, movable_pieces}
use Rattle.proc_print.specs.Printed.{base_pieces, seal_pieces, header_pieces, module_pieces}
use Rattle.alike_modules.specs.Written.{IsWritten, AreWritten}
use Rattle.alike_modules.specs.Reprint.{opens, open_behind, IsShallow}
use Rattle.alike_modules.proofs.Sound.{form_of}
use Rattle.alike_modules.proofs.Nesting.{nesting, args_nesting, operand_nesting, stmt_nesting, block_nesting}

-- the same of pieces
abbrev pub AreShallow : ℕ → List Piece → Type 0
AreShallow n [] = Unit {0}
AreShallow n (p ∷ ps) = (IsTrue (opens (form_of p).kind) → n < 64)
    × AreShallow (open_behind (form_of p).kind n) ps

same_kind : (t : Lexeme) (p : Piece) → IsWritten t p → t.kind ≡ (form_of p).kind
same_kind t (word text) w = w.0
same_kind t (numeral n) w = w
same_kind t (sign text) w = w

pub of_tokens : (ts : List Lexeme) (ps : List Piece) (n : ℕ) → AreWritten ts ps → IsShallow n ts
    → AreShallow n ps
of_tokens [] [] n w shallow = tt
of_tokens [] (p ∷ ps) n w shallow = absurd w
of_tokens (t ∷ ts) [] n w shallow = absurd w
of_tokens (t ∷ ts) (p ∷ ps) n w shallow =
    let e = same_kind t p w.0 in (
      subst (λ k. IsTrue (opens k) → n < 64) e shallow.0,
      of_tokens ts ps (open_behind (form_of p).kind n) w.1
          (subst (λ k. IsShallow (open_behind k n) ts) e shallow.1),
    )

-- pieces that close what they open, and open so many brackets at once
pub record Balanced (ps : List Piece) (d : ℕ) : Type 0 where
  pub deep : (n : ℕ) (rest : List Piece) → AreShallow n (ps ++ rest) → 1 ≤ d → n + d ≤ 64
  pub behind : (n : ℕ) (rest : List Piece) → AreShallow n (ps ++ rest) → AreShallow n rest

nothing : Balanced [] 0
nothing = record { deep = λ n rest s h. absurd (omega arith); behind = λ n rest s. s }

-- a piece that is no bracket
plain : (p : Piece) → ((n : ℕ) → open_behind (form_of p).kind n ≡ n) → Balanced (p ∷ []) 0
plain p e = record {
  deep = λ n rest s h. absurd (omega arith);
  behind = λ n rest s.
      subst (λ k. AreShallow k rest) (e n) s.1;
}

join : (ps qs : List Piece) (d e : ℕ) → Balanced ps d → Balanced qs e → Balanced (ps ++ qs) (max d e)
join ps qs d e a b = record {
  deep = λ n rest s h.
      let t = subst (λ l. AreShallow n l) (append_assoc ps qs rest) s in
      let first = a.deep n (qs ++ rest) t in
      let second = b.deep n rest (a.behind n (qs ++ rest) t) in
      most n d e h first second;
  behind = λ n rest s.
      b.behind n rest (a.behind n (qs ++ rest) (subst (λ l. AreShallow n l) (append_assoc ps qs rest) s));
}
  where
    most : (n d e : ℕ) → 1 ≤ max d e → (1 ≤ d → n + d ≤ 64) → (1 ≤ e → n + e ≤ 64) → n + max d e ≤ 64
    most n d e h f g = grind arith

weaker : (ps : List Piece) (d e : ℕ) → e ≤ d → Balanced ps d → Balanced ps e
weaker ps d e le a = record {
  deep = λ n rest s h. let k = a.deep n rest s (omega arith) in
      omega (arith, k);
  behind = a.behind;
}

enclosed : (o c : List ℕ) (ps : List Piece) (d : ℕ) → opens (form_of (sign o)).kind ≡ true
    → ((n : ℕ) → open_behind (form_of (sign o)).kind n ≡ n + 1)
    → ((n : ℕ) → open_behind (form_of (sign c)).kind n ≡ n - 1)
    → Balanced ps d → Balanced (between_signs o ps c) (d + 1)
enclosed o c ps d is up down a = record {
  deep = λ n rest s h.
      let t = inside n rest s.1 in
      deeper n d (s.0 is) (a.deep (n + 1) (sign c ∷ rest) t);
  behind = λ n rest s.
      let t = a.behind (n + 1) (sign c ∷ rest) (inside n rest s.1) in
      subst (λ k. AreShallow k rest) (down (n + 1) ∙ back n) t.1;
}
  where
    inside : (n : ℕ) (rest : List Piece) → AreShallow (open_behind (form_of (sign o)).kind n)
        ((ps ++ sign c ∷ []) ++ rest) → AreShallow (n + 1) (ps ++ (sign c ∷ rest))
    inside n rest s = subst (λ k. AreShallow k (ps ++ (sign c ∷ rest))) (up n)
        (subst (λ l. AreShallow (open_behind (form_of (sign o)).kind n) l)
        (append_assoc ps (sign c ∷ []) rest) s)

    deeper : (n d : ℕ) → n < 64 → (1 ≤ d → n + 1 + d ≤ 64) → n + (d + 1) ≤ 64
    deeper n d lt f = grind arith

    back : (n : ℕ) → n + 1 - 1 ≡ n
    back n = omega arith

a_word : (text : List ℕ) → Balanced (word text ∷ []) 0
a_word text = plain (word text) (λ n. refl)

a_number : (k : ℕ) → Balanced (numeral k ∷ []) 0
a_number k = plain (numeral k) (λ n. refl)

in_round : (ps : List Piece) (d : ℕ) → Balanced ps d → Balanced (between_signs (codes "(") ps (codes ")"))
    (d + 1)
in_round ps d = enclosed (codes "(") (codes ")") ps d refl (λ n. refl) (λ n. refl)

in_square : (ps : List Piece) (d : ℕ) → Balanced ps d → Balanced (between_signs (codes "[") ps (codes "]"))
    (d + 1)
in_square ps d = enclosed (codes "[") (codes "]") ps d refl (λ n. refl) (λ n. refl)

curly : (ps : List Piece) (d : ℕ) → Balanced ps d → Balanced (in_curly ps) (d + 1)
curly ps d = enclosed (codes "{") (codes "}") ps d refl (λ n. refl) (λ n. refl)

an_op : (o : Op) → Balanced (sign (signs_of o) ∷ []) 0
an_op Plus = plain (sign (codes "+")) (λ n. refl)
an_op Minus = plain (sign (codes "-")) (λ n. refl)
an_op Less = plain (sign (codes "<")) (λ n. refl)
an_op Equal = plain (sign (codes "==")) (λ n. refl)

operand : (e : Expr) (ps : List Piece) (d : ℕ) → Balanced ps d → Balanced (bracketed e ps)
    (operand_nesting e d)
operand e ps d a = by (is_op e)
  where
    by : (b : Bool) → Balanced (if b then between_signs (codes "(") ps (codes ")") else ps)
        (if b then d + 1 else d)
    by true = in_round ps d a
    by false = a

-- a piece that is no bracket, and what follows it
lead : (p : Piece) → Balanced (p ∷ []) 0 → (ps : List Piece) (d : ℕ) → Balanced ps d → Balanced (p ∷ ps) d
lead p one ps d a = weaker (p ∷ ps) (max 0 d) d (omega arith) (join (p ∷ []) ps 0 d one a)

comma : Balanced (sign (codes ",") ∷ []) 0
comma = plain (sign (codes ",")) (λ n. refl)

mutual
  expr_balanced : (e : Expr) → Balanced (expr_pieces e) (nesting e)
  expr_balanced (number at n) = a_number n
  expr_balanced (var at x) = a_word x.text
  expr_balanced (element at x e) = lead (word x.text) (a_word x.text)
      (between_signs (codes "[") (expr_pieces e) (codes "]")) (nesting e + 1)
      (in_square (expr_pieces e) (nesting e) (expr_balanced e))
  expr_balanced (call at f args) = lead (word f.text) (a_word f.text)
      (between_signs (codes "(") (args_pieces args) (codes ")")) (args_nesting args + 1)
      (in_round (args_pieces args) (args_nesting args) (args_balanced args))
  expr_balanced (op at o a b) =
      join (bracketed a (expr_pieces a)) (sign (signs_of o) ∷ bracketed b (expr_pieces b))
      (operand_nesting a (nesting a)) (operand_nesting b (nesting b))
      (operand a (expr_pieces a) (nesting a) (expr_balanced a))
      (lead (sign (signs_of o)) (an_op o) (bracketed b (expr_pieces b)) (operand_nesting b (nesting b))
      (operand b (expr_pieces b) (nesting b) (expr_balanced b)))

  args_balanced : (args : Args) → Balanced (args_pieces args) (args_nesting args)
  args_balanced no_args = nothing
  args_balanced (value e args) = join (expr_pieces e) (more_pieces args) (nesting e) (args_nesting args)
      (expr_balanced e) (more_balanced args)
  args_balanced (proc f args) = lead (word (codes "proc")) (a_word (codes "proc"))
      (word f.text ∷ more_pieces args) (args_nesting args)
      (lead (word f.text) (a_word f.text) (more_pieces args) (args_nesting args) (more_balanced args))

  more_balanced : (args : Args) → Balanced (more_pieces args) (args_nesting args)
  more_balanced no_args = nothing
  more_balanced (value e args) = lead (sign (codes ",")) comma (expr_pieces e ++ more_pieces args)
      (max (nesting e) (args_nesting args)) (join (expr_pieces e) (more_pieces args) (nesting e)
      (args_nesting args) (expr_balanced e) (more_balanced args))
  more_balanced (proc f args) = lead (sign (codes ",")) comma
      (word (codes "proc") ∷ word f.text ∷ more_pieces args) (args_nesting args)
      (lead (word (codes "proc")) (a_word (codes "proc")) (word f.text ∷ more_pieces args)
      (args_nesting args) (lead (word f.text) (a_word f.text) (more_pieces args) (args_nesting args)
      (more_balanced args)))

-- ---- statements

semicolon : Balanced (sign (codes ";") ∷ []) 0
semicolon = plain (sign (codes ";")) (λ n. refl)

assign : Balanced (sign (codes "=") ∷ []) 0
assign = plain (sign (codes "=")) (λ n. refl)

finished : (ps : List Piece) (d : ℕ) → Balanced ps d → Balanced (ended ps) d
finished ps d a = weaker (ended ps) (max d 0) d (omega arith)
    (join ps (sign (codes ";") ∷ []) d 0 a semicolon)

mutual
  stmt_balanced : (s : Stmt) → Balanced (stmt_pieces s) (stmt_nesting s)
  stmt_balanced (set at x e) = finished (word x.text ∷ sign (codes "=") ∷ expr_pieces e) (nesting e)
      (lead (word x.text) (a_word x.text) (sign (codes "=") ∷ expr_pieces e) (nesting e)
      (lead (sign (codes "=")) assign (expr_pieces e) (nesting e) (expr_balanced e)))
  stmt_balanced (set_at at x i e) =
      finished (word x.text ∷ (between_signs (codes "[") (expr_pieces i) (codes "]") ++
      (sign (codes "=") ∷ expr_pieces e))) (max (nesting i + 1) (nesting e))
      (lead (word x.text) (a_word x.text) (between_signs (codes "[") (expr_pieces i) (codes "]") ++
      (sign (codes "=") ∷ expr_pieces e)) (max (nesting i + 1) (nesting e))
      (join (between_signs (codes "[") (expr_pieces i) (codes "]")) (sign (codes "=") ∷ expr_pieces e)
      (nesting i + 1) (nesting e) (in_square (expr_pieces i) (nesting i) (expr_balanced i))
      (lead (sign (codes "=")) assign (expr_pieces e) (nesting e) (expr_balanced e))))
  stmt_balanced (do_call at f args) = finished (call_pieces f args) (args_nesting args + 1)
      (lead (word f.text) (a_word f.text) (between_signs (codes "(") (args_pieces args) (codes ")"))
      (args_nesting args + 1) (in_round (args_pieces args) (args_nesting args) (args_balanced args)))
  stmt_balanced (if_then at c b) = lead (word (codes "if")) (a_word (codes "if"))
      (expr_pieces c ++ in_curly (block_pieces b)) (max (nesting c) (block_nesting b + 1))
      (join (expr_pieces c) (in_curly (block_pieces b)) (nesting c) (block_nesting b + 1)
      (expr_balanced c) (curly (block_pieces b) (block_nesting b) (block_balanced b)))
  stmt_balanced (if_else at c b d) =
      lead (word (codes "if")) (a_word (codes "if"))
      (expr_pieces c ++ (in_curly (block_pieces b) ++ (word (codes "else") ∷ in_curly (block_pieces d))))
      (max (nesting c) (max (block_nesting b + 1) (block_nesting d + 1)))
      (join (expr_pieces c) (in_curly (block_pieces b) ++ (word (codes "else") ∷ in_curly (block_pieces d)))
      (nesting c) (max (block_nesting b + 1) (block_nesting d + 1)) (expr_balanced c)
      (join (in_curly (block_pieces b)) (word (codes "else") ∷ in_curly (block_pieces d))
      (block_nesting b + 1) (block_nesting d + 1)
      (curly (block_pieces b) (block_nesting b) (block_balanced b))
      (lead (word (codes "else")) (a_word (codes "else")) (in_curly (block_pieces d)) (block_nesting d + 1)
      (curly (block_pieces d) (block_nesting d) (block_balanced d)))))
  stmt_balanced (while at c b) = lead (word (codes "while")) (a_word (codes "while"))
      (expr_pieces c ++ in_curly (block_pieces b)) (max (nesting c) (block_nesting b + 1))
      (join (expr_pieces c) (in_curly (block_pieces b)) (nesting c) (block_nesting b + 1)
      (expr_balanced c) (curly (block_pieces b) (block_nesting b) (block_balanced b)))
  stmt_balanced (return at e) = finished (word (codes "return") ∷ expr_pieces e) (nesting e)
      (lead (word (codes "return")) (a_word (codes "return")) (expr_pieces e) (nesting e) (expr_balanced e))
  stmt_balanced (halt at e) = finished (word (codes "halt") ∷ expr_pieces e) (nesting e)
      (lead (word (codes "halt")) (a_word (codes "halt")) (expr_pieces e) (nesting e) (expr_balanced e))

  block_balanced : (b : Block) → Balanced (block_pieces b) (block_nesting b)
  block_balanced no_stmts = nothing
  block_balanced (stmt s b) = join (stmt_pieces s) (block_pieces b) (stmt_nesting s) (block_nesting b)
      (stmt_balanced s) (block_balanced b)

-- ---- items

-- pieces without brackets, or with brackets that count for nothing here
flat : (ps : List Piece) (d : ℕ) → Balanced ps d → Balanced ps 0
flat ps d a = weaker ps d 0 (omega arith) a

both : (ps qs : List Piece) → Balanced ps 0 → Balanced qs 0 → Balanced (ps ++ qs) 0
both ps qs a b = flat (ps ++ qs) (max 0 0) (join ps qs 0 0 a b)

each : {A : Type 0} (f : A → List Piece) → ((x : A) → Balanced (f x) 0) → (xs : List A)
    → Balanced (flat_map f xs) 0
each f one [] = nothing
each f one (x ∷ xs) = both (f x) (flat_map f xs) (one x) (each f one xs)

dot : Balanced (sign (codes ".") ∷ []) 0
dot = plain (sign (codes ".")) (λ n. refl)

slash : Balanced (sign (codes "/") ∷ []) 0
slash = plain (sign (codes "/")) (λ n. refl)

minus : Balanced (sign (codes "-") ∷ []) 0
minus = plain (sign (codes "-")) (λ n. refl)

import_balanced : (i : Import) → Balanced (import_pieces i) 0
import_balanced i =
    lead (word (codes "import")) (a_word (codes "import"))
    (word i.part.text ∷ sign (codes ".") ∷ word i.name.text ∷ sign (codes "/") ∷ numeral i.arity ∷ sign
    (codes ";") ∷ []) 0
    (lead (word i.part.text) (a_word i.part.text)
    (sign (codes ".") ∷ word i.name.text ∷ sign (codes "/") ∷ numeral i.arity ∷ sign (codes ";") ∷ []) 0
    (lead (sign (codes ".")) dot (word i.name.text ∷ sign (codes "/") ∷ numeral i.arity ∷ sign
    (codes ";") ∷ []) 0
    (lead (word i.name.text) (a_word i.name.text)
    (sign (codes "/") ∷ numeral i.arity ∷ sign (codes ";") ∷ []) 0
    (lead (sign (codes "/")) slash (numeral i.arity ∷ sign (codes ";") ∷ []) 0
    (lead (numeral i.arity) (a_number i.arity) (sign (codes ";") ∷ []) 0 semicolon)))))

length_balanced : (given : Option ℕ) → Balanced (length_pieces given) 0
length_balanced None = nothing
length_balanced (Some n) = flat (between_signs (codes "[") (numeral n ∷ []) (codes "]")) (0 + 1)
    (in_square (numeral n ∷ []) 0 (a_number n))

initial_balanced : (given : Option ℤ) → Balanced (initial_pieces given) 0
initial_balanced None = nothing
initial_balanced (Some (pos n)) = lead (sign (codes "=")) assign (numeral n ∷ []) 0 (a_number n)
initial_balanced (Some (negsuc n)) = lead (sign (codes "=")) assign (sign (codes "-") ∷ numeral (suc n) ∷ [])
    0 (lead (sign (codes "-")) minus (numeral (suc n) ∷ []) 0 (a_number (suc n)))

global_balanced : (g : Global) → Balanced (global_pieces g) 0
global_balanced g =
    finished (word (codes "global") ∷ word g.name.text ∷
    (length_pieces g.length ++ initial_pieces g.initial)) 0
    (lead (word (codes "global")) (a_word (codes "global"))
    (word g.name.text ∷ (length_pieces g.length ++ initial_pieces g.initial)) 0
    (lead (word g.name.text) (a_word g.name.text) (length_pieces g.length ++ initial_pieces g.initial) 0
    (both (length_pieces g.length) (initial_pieces g.initial) (length_balanced g.length)
    (initial_balanced g.initial))))

arity_balanced : (given : Option ℕ) → Balanced (arity_pieces given) 0
arity_balanced None = nothing
arity_balanced (Some n) = lead (sign (codes "/")) slash (numeral n ∷ []) 0 (a_number n)

param_balanced : (p : Param) → Balanced (param_pieces p) 0
param_balanced p = lead (word p.name.text) (a_word p.name.text) (arity_pieces p.arity) 0
    (arity_balanced p.arity)

more_params_balanced : (ps : List Param) → Balanced (more_params ps) 0
more_params_balanced [] = nothing
more_params_balanced (p ∷ ps) = lead (sign (codes ",")) comma (param_pieces p ++ more_params ps) 0
    (both (param_pieces p) (more_params ps) (param_balanced p) (more_params_balanced ps))

params_balanced : (ps : List Param) → Balanced (params_pieces ps) 0
params_balanced [] = nothing
params_balanced (p ∷ ps) = both (param_pieces p) (more_params ps) (param_balanced p) (more_params_balanced ps)

local_balanced : (x : Name) → Balanced (local_pieces x) 0
local_balanced x = lead (word (codes "local")) (a_word (codes "local")) (word x.text ∷ sign (codes ";") ∷ [])
    0 (lead (word x.text) (a_word x.text) (sign (codes ";") ∷ []) 0 semicolon)

export_balanced : (shared : Bool) → Balanced (export_pieces shared) 0
export_balanced true = a_word (codes "export")
export_balanced false = nothing

abbrev proc_nesting : Proc → ℕ
proc_nesting p = block_nesting (block_of p.body) + 1

inside_pieces : Proc → List Piece
inside_pieces p = flat_map local_pieces p.locals ++ block_pieces (block_of p.body)

proc_balanced : (p : Proc) → Balanced (proc_pieces p) (proc_nesting p)
unfolding inside_pieces
proc_balanced p =
    let d = block_nesting (block_of p.body) in
    let inside = weaker (inside_pieces p) (max 0 d) d (omega arith)
    (join (flat_map local_pieces p.locals) (block_pieces (block_of p.body)) 0 d
    (each local_pieces local_balanced p.locals) (block_balanced (block_of p.body))) in
    let params = flat (between_signs (codes "(") (params_pieces p.params) (codes ")")) (0 + 1)
    (in_round (params_pieces p.params) 0 (params_balanced p.params)) in
    let back = between_signs (codes "(") (params_pieces p.params) (codes ")") ++ in_curly (inside_pieces p) in
    let behind_name = weaker back (max 0 (d + 1)) (d + 1) (omega arith)
    (join (between_signs (codes "(") (params_pieces p.params) (codes ")")) (in_curly (inside_pieces p)) 0
    (d + 1) params (curly (inside_pieces p) d inside)) in
    let named_part = lead (word (codes "proc")) (a_word (codes "proc")) (word p.name.text ∷ back) (d + 1)
    (lead (word p.name.text) (a_word p.name.text) back (d + 1) behind_name) in
    weaker (proc_pieces p) (max 0 (d + 1)) (d + 1) (omega arith)
    (join (export_pieces p.shared) (word (codes "proc") ∷ word p.name.text ∷ back) 0 (d + 1)
    (export_balanced p.shared) named_part)

movable_balanced : (movable : Bool) → Balanced (movable_pieces movable) 0
movable_balanced true = a_word (codes "movable")
movable_balanced false = nothing

a_field : (w : List ℕ) (k : ℕ) → Balanced (field_pieces w k) 0
unfolding field_pieces
a_field w k = lead (word w) (a_word w) (numeral k ∷ []) 0 (a_number k)

bases_balanced : (m : ModuleFields) → Balanced (base_pieces m) 0
unfolding base_pieces
bases_balanced m = both (field_pieces (codes "code") m.code) (field_pieces (codes "data") m.data_base)
    (a_field (codes "code") m.code) (a_field (codes "data") m.data_base)

seals_balanced : (m : ModuleFields) → Balanced (seal_pieces m) 0
unfolding seal_pieces
seals_balanced m =
    both (field_pieces (codes "closure") m.closure)
    (field_pieces (codes "returns") m.returns ++ numeral m.return_count ∷ [])
    (a_field (codes "closure") m.closure)
    (both (field_pieces (codes "returns") m.returns) (numeral m.return_count ∷ [])
    (a_field (codes "returns") m.returns) (a_number m.return_count))

header_balanced : (m : ModuleFields) → Balanced (header_pieces m) 0
unfolding header_pieces
header_balanced m =
    let end = field_pieces (codes "stack") m.stack ++ movable_pieces m.movable in
    finished (word (codes "module") ∷ word m.name.text ∷ (base_pieces m ++ (seal_pieces m ++ end))) 0
    (lead (word (codes "module")) (a_word (codes "module"))
    (word m.name.text ∷ (base_pieces m ++ (seal_pieces m ++ end))) 0
    (lead (word m.name.text) (a_word m.name.text) (base_pieces m ++ (seal_pieces m ++ end)) 0
    (both (base_pieces m) (seal_pieces m ++ end) (bases_balanced m)
    (both (seal_pieces m) end (seals_balanced m) (both (field_pieces (codes "stack") m.stack)
    (movable_pieces m.movable) (a_field (codes "stack") m.stack) (movable_balanced m.movable))))))

-- ---- procedures have few brackets open

abbrev pub IsShallowProc : Proc → Type 0
IsShallowProc p = block_nesting (block_of p.body) ≤ 63

abbrev pub AllShallow : List Proc → Type 0
AllShallow [] = Unit {0}
AllShallow (p ∷ ps) = IsShallowProc p × AllShallow ps

shallow_procs : (ps : List Proc) (rest : List Piece) → AreShallow 0 (flat_map proc_pieces ps ++ rest)
    → AllShallow ps
shallow_procs [] rest s = tt
shallow_procs (p ∷ ps) rest s =
    let t = subst (λ l. AreShallow 0 l) (append_assoc (proc_pieces p) (flat_map proc_pieces ps) rest) s in
    let b = proc_balanced p in
    let d = block_nesting (block_of p.body) in (
      fits d (b.deep 0 (flat_map proc_pieces ps ++ rest) t (some d)),
      shallow_procs ps rest (b.behind 0 (flat_map proc_pieces ps ++ rest) t),
    )
  where
    some : (d : ℕ) → 1 ≤ d + 1
    some d = omega arith

    fits : (d : ℕ) → 0 + (d + 1) ≤ 64 → d ≤ 63
    fits d h = omega arith

pub shallow_module : (m : ModuleFields) → AreShallow 0 (module_pieces m) → AllShallow m.procs
shallow_module m s =
    let procs = flat_map proc_pieces m.procs in
    let globals = flat_map global_pieces m.globals in
    let imports = flat_map import_pieces m.imports in
    let a = (header_balanced m).behind 0 (imports ++ (globals ++ procs)) s in
    let b = (each import_pieces import_balanced m.imports).behind 0 (globals ++ procs) a in
    let c = (each global_pieces global_balanced m.globals).behind 0 procs b in
    shallow_procs m.procs [] (subst (λ l. AreShallow 0 l) (sym (append-nil procs)) c)
