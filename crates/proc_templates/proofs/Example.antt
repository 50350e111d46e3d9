-- The definitions computed on two programs.
use Rattle.std.proofs.Common.{◌≡◌, ℕ, List, [], ◌∷◌, length, map, Some, None, refl, true, false, pos}
use Rattle.std.specs.Prelude.{codes}
use Rattle.proc_language.specs.declared.tree.Name.{Name}
use Rattle.proc_language.specs.declared.tree.Op.TheVariants as operator
use Rattle.proc_language.specs.declared.module.ModuleFields.{ModuleFields}
use Rattle.proc_language.specs.Tree.{var, op, no_args, value, set, do_call, return}
use Rattle.proc_names.specs.Names.{variable_named, callee_named, passed_named}
use Rattle.call_sequence.specs.Sequences.{call_code, return_code, entry_code}
use Rattle.proc_program.specs.declared.program.Program.{Program}
use Rattle.proc_program.specs.Lower.{part_of}
use Rattle.proc_program.proofs.Offers.{callbacks}
use Rattle.proc_templates.specs.Items.{put, instrs}
use Rattle.proc_templates.specs.Templates.{before_epilogue}
use Rattle.proc_templates.specs.Compiled.{frame_of, laid_of, lay_proc, code_words, data_count, first_data}
use Rattle.proc_templates.specs.Compiled.{exports_of}

named : List ℕ → Name
named text = record { text = text; at = 0 }

-- module bank; import teller.notify/1; global balance = 100;
-- export proc deposit(n) { balance = balance + n; notify(balance); return balance; }
bank_module : ModuleFields
unfolding named
bank_module = record {
  at = 0;
  name = named (codes "bank");
  code = 4096;
  data_base = 8192;
  closure = 10;
  returns = 11;
  return_count = 4;
  stack = 65536;
  movable = false;
  imports = record { at = 0; part = named (codes "teller"); name = named (codes "notify"); arity = 1 } ∷ [];
  globals = record { at = 0; name = named (codes "balance"); length = None; initial = Some (pos 100) } ∷ [];
  procs = record {
    at = 0;
    shared = true;
    name = named (codes "deposit");
    params = record { name = named (codes "n"); arity = None } ∷ [];
    locals = [];
    body =
        set 0 (named (codes "balance"))
        (op 0 operator.Plus (var 0 (named (codes "balance"))) (var 0 (named (codes "n"))))
        ∷ do_call 0 (named (codes "notify")) (value (var 0 (named (codes "balance"))) no_args)
        ∷ return 0 (var 0 (named (codes "balance"))) ∷ [];
  } ∷ [];
}

bank : Program
bank = part_of bank_module

bank_counts : (code_words bank ≡ 124) × (length (laid_of bank).code ≡ 124) × ((laid_of bank).sites ≡ 68 ∷ [])
    × (length (first_data bank) ≡ 5) × (data_count bank ≡ 5)
unfolding bank bank_module named code_words data_count frame_of laid_of lay_proc before_epilogue
    put instrs first_data call_code return_code entry_code variable_named callee_named passed_named
bank_counts = (refl, refl, refl, refl, refl)

callback_counts : (code_words callbacks ≡ 254) × (length (laid_of callbacks).code ≡ 254)
    × ((laid_of callbacks).sites ≡ 38 ∷ 152 ∷ 197 ∷ []) × (length (first_data callbacks) ≡ 6)
    × (map (λ e. e.offset) (exports_of callbacks) ≡ 2 ∷ 85 ∷ [])
unfolding callbacks code_words data_count frame_of laid_of lay_proc before_epilogue put instrs
    first_data exports_of call_code return_code entry_code
callback_counts = (refl, refl, refl, refl, refl)
