-- What is printed is read again.
use Rattle.std.proofs.Common.{◌≡◌, ℕ, ◌≤◌, List, [], ◌∷◌, length, Option, Some, None, Ok, ap, ◌∙◌, arith}
use Rattle.std.specs.Prelude.{IfSome, ℤ, pos, negsuc}
use Rattle.std.specs.Int.{w64}
use Rattle.std.specs.Int.RustNames.{FitsSigned}
use Rattle.text_scan.specs.declared.token.Token.{Token}
use Rattle.text_scan.specs.Tokens.{scanned}
use Rattle.text_scan.specs.Grammar.{HasTokens}
use Rattle.proc_language.specs.declared.module.Global.{Global}
use Rattle.proc_language.specs.declared.module.Proc.{Proc}
use Rattle.proc_language.specs.declared.module.ModuleFields.{ModuleFields}
use Rattle.proc_language.specs.Limits.{Each, GlobalFits, ProcFits}
use Rattle.proc_grammar.specs.Lexemes.{lexemes}
use Rattle.proc_grammar.specs.PlainTrees.{plain_trees}
use Rattle.proc_grammar.specs.Reading.{full}
use Rattle.proc_grammar.proofs.Offers.{only}
use Rattle.proc_parse.specs.Text.{parsed_scan}
use Rattle.proc_print.specs.Printed.{printed, module_pieces}
use Rattle.alike_modules.specs.Reprint.{ReadAgain}
use Rattle.alike_modules.proofs.Items.{InitialFits, ProcAgain}
use Rattle.alike_modules.proofs.Leaves.{IntegerFits}
use Rattle.alike_modules.proofs.Modules.{module_again}
use Rattle.alike_modules.proofs.PrintedPieces.{module_sound}
use Rattle.alike_modules.proofs.Shallow.{of_tokens, AllShallow, shallow_module}
use Rattle.alike_modules.proofs.Texts.{text_scanned}

integer_fits : (z : ℤ) → FitsSigned w64 z → IntegerFits z
integer_fits (pos n) h = h.sfits
integer_fits (negsuc n) h = let le = h.sfits in omega (arith, le)

some_fits : (given : Option ℤ) → IfSome given (FitsSigned w64) → IfSome given IntegerFits
some_fits None h = tt
some_fits (Some z) h = integer_fits z h

initials : (gs : List Global) → Each GlobalFits gs → Each InitialFits gs
initials [] a = tt
initials (g ∷ gs) a = (record { global = a.0; initial = some_fits g.initial a.0.2 }, initials gs a.1)

procs : (ps : List Proc) → Each ProcFits ps → AllShallow ps → Each ProcAgain ps
procs [] a b = tt
procs (p ∷ ps) a b = (record { fits = a.0; shallow = b.0 }, procs ps a.1 b.1)

-- the text has as many tokens as read_again needs, at most
pub read_again : (m : ModuleFields) → ((text : List ℕ) (tokens : List Token) → scanned text ≡ Ok tokens
    → HasTokens text tokens)
    → ((text : List ℕ) (tokens : List Token) → HasTokens text tokens
    → length (lexemes text tokens) ≤ length text)
    → length (printed m) ≤ full → ReadAgain m
read_again m has few small fits short shallow =
    let all = initials m.globals fits.globals.1 in
    let s = text_scanned (module_pieces m) (module_sound m fits all) short in
    let there = has (printed m) s.tokens s.read in
    let deep = shallow_module m (of_tokens (lexemes (printed m) s.tokens) (module_pieces m) 0 s.are
    (shallow s.tokens there)) in
    let (x, is, alike) = (module_again m fits all (procs m.procs fits.procs.1 deep)).again
    (lexemes (printed m) s.tokens) s.are in
    let least = few (printed m) s.tokens there in (
      x,
      ap (parsed_scan (printed m)) s.read ∙ only plain_trees full (lexemes (printed m) s.tokens)
          (length (printed m)) x (omega (arith, least, small)) is,
      alike,
    )
