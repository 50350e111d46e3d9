-- A module of one procedure, which hands on what a procedure of another part answers, and its component.
use Rattle.std.proofs.Common.{◌≡◌, ℕ, ◌+◌, pos, negsuc, true, false, List, [], ◌∷◌, ◌++◌, map, Some, refl}
use Rattle.std.proofs.Common.{arith, subst}
use Rattle.cap_words.specs.Names as names
use Rattle.cap_words.specs.declared.Word.{Word}
use Rattle.cap_words.specs.declared.Word.TheVariants.{Int, Seal}
use Rattle.lcm_isa.specs.declared.Instr.{Instr}
use Rattle.lcm_isa.specs.Numbers.{number_of}
use Rattle.lcm_isa.specs.declared.Instr.TheVariants.{Fail, Load, Store, Cca, Move, Plus, Jmp, Xjmp}
use Rattle.lcm_isa.specs.declared.Operand.TheVariants.{R, Imm}
use Rattle.lcm_isa.specs.declared.Reg.TheVariants.{Pc, Rcode, Rdata, Stk, Dat, T1, T2, C1, C2, A0, A1, A2, A3}
use Rattle.lcm_isa.specs.declared.Reg.TheVariants.{G0, G1, G2}
use Rattle.component_file.specs.declared.component.ComponentFields.{ComponentFields}
use Rattle.component_file.specs.Limits.{IsComponent}
use Rattle.call_sequence.specs.declared.TheConstants.{CALL_WORDS, ENTRY_WORDS, SITE_WORDS}
use Rattle.call_sequence.specs.Sequences.{call_code, return_code, entry_code}
use Rattle.call_sequence.specs.Verdict.{IsKept}
use Rattle.proc_language.specs.declared.tree.Name.{Name}
use Rattle.proc_language.specs.declared.module.ModuleFields.{ModuleFields}
use Rattle.proc_language.specs.Tree.{call, no_args, return}
use Rattle.proc_language.specs.Words.{is_source_name, is_reserved}
use Rattle.proc_language.specs.Limits.{IsModule}
use Rattle.proc_names.specs.Names.{variable_named, callee_named, passed_named}
use Rattle.proc_names.specs.NameFaults.{name_faults}
use Rattle.proc_program.specs.Lower.{part_of}
use Rattle.proc_program.proofs.Offers.{part_fits}
use Rattle.proc_templates.specs.Items.{put, instrs, zero_of}
use Rattle.proc_templates.specs.Templates.{before_epilogue}
use Rattle.proc_templates.specs.Compiled.{frame_of, laid_of, lay_proc, code_words, data_count, first_data}
use Rattle.proc_templates.specs.Compiled.{exports_of, imports_of, component_of, row_at_label, compiled}
use Rattle.proc_templates.specs.Kept.{FitsComponent}
use Rattle.proc_templates.proofs.Offers.{names_differ, limits_kept, keeps_flow}

abbrev named : ℕ → Name
named letter = record { text = letter ∷ []; at = 0 }

-- module t; import u.g/0; export proc f() { return g(); }
abbrev pub source : ModuleFields
source = record {
  at = 0;
  name = named 116;
  code = 1;
  data_base = 90;
  closure = 10;
  returns = 12;
  return_count = 1;
  stack = 111;
  movable = false;
  imports = record { at = 0; part = named 117; name = named 103; arity = 0 } ∷ [];
  globals = [];
  procs = record {
    at = 0;
    shared = true;
    name = named 102;
    params = [];
    locals = [];
    body = return 0 (call 0 (named 103) no_args) ∷ [];
  } ∷ [];
}

pub limits : IsModule source
unfolding is_source_name is_reserved names.is_name
limits = record {
  name = refl;
  code = omega arith;
  data_base = omega arith;
  closure = omega arith;
  returns = (omega arith, omega arith, omega arith);
  stack = omega arith;
  imports = (omega arith, ((refl, refl, omega arith), tt));
  globals = (omega arith, tt);
  some = omega arith;
  procs = (
    omega arith,
    (
      record {
        name = refl;
        params = tt;
        registers = omega arith;
        locals = (omega arith, tt);
        body = (((refl, omega arith), tt), tt);
      },
      tt,
    ),
  );
}

pub resolved : name_faults source ≡ []
unfolding callee_named passed_named variable_named
resolved = refl

-- ---- its component

abbrev pub as_word : Instr → Word
as_word i = Int (pos (number_of i))

-- the procedure is entered at 2, and there is its site
abbrev pub site_at : ℕ
site_at = 2 + ENTRY_WORDS + 16

-- addresses after it: six words further on the procedure ends
abbrev pub behind : ℕ → ℕ
behind k = 1 + site_at + SITE_WORDS + k

abbrev pub source_instrs : List Instr
source_instrs =
    entry_code 0 2 111
    ++ (Store Stk Rcode ∷ Cca Stk (Imm (negsuc 0)) ∷ Store Stk Rdata ∷ Cca Stk (Imm (negsuc 0))
    ∷ zero_of A0 ∷ zero_of A1 ∷ zero_of A2 ∷ zero_of A3
    ∷ Cca Dat (Imm (pos 0)) ∷ Load C1 Dat ∷ Cca Dat (Imm (pos 1)) ∷ Load C2 Dat ∷ Cca Dat (Imm (negsuc 0))
    ∷ zero_of G0 ∷ zero_of G1 ∷ zero_of G2 ∷ [])
    ++ call_code 1 site_at 0 ++ return_code 0 (site_at + CALL_WORDS) 111
    ++ (Plus G0 A0 (Imm (pos 0)) ∷ Move A0 (R G0)
    ∷ Move T2 (R Pc) ∷ Cca T2 (Imm (pos 4)) ∷ Jmp T2 ∷ zero_of A0
    ∷ zero_of T1 ∷ Cca Stk (Imm (pos 1)) ∷ Load Rdata Stk ∷ Store Stk T1
    ∷ Cca Stk (Imm (pos 1)) ∷ Load Rcode Stk ∷ Store Stk T1
    ∷ zero_of T2 ∷ zero_of C1 ∷ zero_of C2 ∷ zero_of A1 ∷ zero_of A2 ∷ zero_of A3
    ∷ zero_of G0 ∷ zero_of G1 ∷ zero_of G2 ∷ Xjmp Rcode Rdata ∷ [])

abbrev pub source_seals : Word
source_seals = Seal (record { base = 12; end = 12; cur = pos 12 })

abbrev pub trusted : ComponentFields
trusted = record {
  name = 116 ∷ [];
  stack_base = 111;
  closure = 10;
  seals = record { base = 12; count = 1 };
  linear = record { base = 0; count = 0 };
  code_base = 1;
  code = as_word Fail ∷ source_seals ∷ map as_word source_instrs;
  data_base = 90;
  data_words = Int (pos 0) ∷ Int (pos 0) ∷ Int (pos 0) ∷ Int (pos 0) ∷ [];
  imports = record { part = 117 ∷ []; name = 103 ∷ []; slot = 0 }
      ∷ record { part = 116 ∷ []; name = 102 ∷ []; slot = 2 } ∷ [];
  exports = record { name = 102 ∷ []; offset = 2; shared = true } ∷ [];
  sites = site_at ∷ [];
  fail_at = Some 0;
  literal_at = Some 1;
  rows = row_at_label (site_at + SITE_WORDS + 6) ∷ [];
  movable = false;
}

pub is_compiled : compiled source ≡ trusted
unfolding component_of frame_of laid_of lay_proc before_epilogue put instrs first_data exports_of imports_of
    callee_named passed_named variable_named entry_code call_code return_code
is_compiled = refl

-- ---- it keeps the rules

fits : FitsComponent (part_of source)
unfolding code_words data_count callee_named passed_named variable_named
fits = record {
  limits = part_fits source limits;
  code = omega arith;
  data_words = omega arith;
}

pub component_fits : IsComponent trusted
unfolding callee_named passed_named variable_named
component_fits =
    subst IsComponent is_compiled
    (limits_kept (part_of source) fits (names_differ source resolved) (omega arith))

pub flow_kept : IsKept trusted
flow_kept = subst IsKept is_compiled (keeps_flow (part_of source) fits)
