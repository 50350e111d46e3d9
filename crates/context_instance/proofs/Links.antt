-- Both modules link with an adversary, in whose main the run begins.
use Rattle.std.proofs.Common.{◌≡◌, ℕ, zero, suc, pos, true, false, List, [], ◌∷◌, map, Some, None, Ok, refl}
use Rattle.std.proofs.Common.{arith, subst, rules}
use Rattle.std.specs.Prelude.{slice_get}
use Rattle.cap_words.specs.Names.{is_name}
use Rattle.cap_words.specs.declared.Word.TheVariants.{Int}
use Rattle.lcm_isa.specs.declared.Instr.TheVariants.{Halt, Move, Load, Cca, Xjmp}
use Rattle.lcm_isa.specs.declared.Operand.TheVariants.{Imm}
use Rattle.lcm_isa.specs.declared.Reg.TheVariants.{Rcode, Rdata, Dat, C1, C2, A0, A1, A2}
use Rattle.lcm_isa.specs.Numbers.{number_of}
use Rattle.component_file.specs.declared.component.ComponentFields.{ComponentFields}
use Rattle.component_file.specs.Limits.{IsComponent}
use Rattle.component_check.specs.declared.rule.Group.TheVariants.{C}
use Rattle.component_check.specs.RuleText.{broken_at}
use Rattle.component_check.specs.Verdict.{NoneBroken, check_from}
use Rattle.component_check.specs.Rules.{rules_c, c1, c2, c3, c4, c5, c6, c7, c8, c9, c10, c11, c12}
use Rattle.call_sequence.specs.Sequences.{call_code, return_code, entry_code}
use Rattle.call_sequence.specs.Verdict.{IsKept}
use Rattle.linked_starts.specs.Parts.{PartSeen, IsPart}
use Rattle.linked_starts.specs.Pairs.{by_part}
use Rattle.linked_starts.specs.Links.{rules_l, rule_at, l1, l2, l3, l4, l5, l6, l7, l8, l9}
use Rattle.linked_starts.proofs.Offers.{no_rule}
use Rattle.proc_names.specs.Names.{variable_named}
use Rattle.proc_program.specs.Lower.{part_of}
use Rattle.proc_program.proofs.Offers.{part_fits}
use Rattle.proc_templates.specs.Items.{put, instrs}
use Rattle.proc_templates.specs.Templates.{before_epilogue}
use Rattle.proc_templates.specs.Compiled.{frame_of, laid_of, lay_proc, code_words, data_count, first_data}
use Rattle.proc_templates.specs.Compiled.{exports_of, imports_of, component_of, compiled}
use Rattle.proc_templates.specs.Kept.{FitsComponent}
use Rattle.proc_templates.proofs.Offers.{names_differ, limits_kept, keeps_flow}
use Rattle.context_instance.specs.Doubles.{sums, keeps}
use Rattle.context_instance.proofs.Modules.{limits, limits_too, resolved, resolved_too}

-- ---- the components

sums_fits : FitsComponent (part_of sums)
unfolding code_words data_count variable_named
sums_fits = record { limits = part_fits sums limits; code = omega arith; data_words = omega arith }

keeps_fits : FitsComponent (part_of keeps)
unfolding code_words data_count variable_named
keeps_fits = record { limits = part_fits keeps limits_too; code = omega arith; data_words = omega arith }

pub one_limits : IsComponent (compiled sums)
one_limits = limits_kept (part_of sums) sums_fits (names_differ sums resolved) (omega arith)

pub two_limits : IsComponent (compiled keeps)
two_limits = limits_kept (part_of keeps) keeps_fits (names_differ keeps resolved_too) (omega arith)

pub one_flow : IsKept (compiled sums)
one_flow = keeps_flow (part_of sums) sums_fits

pub two_flow : IsKept (compiled keeps)
two_flow = keeps_flow (part_of keeps) keeps_fits

pub one_checked : check_from (broken_at C) 1 (rules_c (compiled sums) true) ≡ Ok tt
unfolding c1 c2 c3 c4 c5 c6 c7 c8 c9 c10 c11 c12 number_of entry_code call_code return_code component_of
    frame_of
    laid_of lay_proc before_epilogue put instrs first_data exports_of imports_of variable_named
one_checked = refl

pub two_checked : check_from (broken_at C) 1 (rules_c (compiled keeps) true) ≡ Ok tt
unfolding c1 c2 c3 c4 c5 c6 c7 c8 c9 c10 c11 c12 number_of entry_code call_code return_code component_of
    frame_of
    laid_of lay_proc before_epilogue put instrs first_data exports_of imports_of variable_named
two_checked = refl

-- ---- the adversary: its main loads the pair of its own `h`, to which the module is to return, and that of
-- ---- its `g` as a callback, and enters the module with 3; its `g` answers 9, and its `h` halts

abbrev pub adversary : ComponentFields
adversary = record {
  name = 117 ∷ [];
  stack_base = 300;
  closure = 30;
  seals = record { base = 0; count = 0 };
  linear = record { base = 0; count = 0 };
  code_base = 250;
  code = map (λ i. Int (pos (number_of i)))
      (Load Rcode Dat ∷ Cca Dat (Imm (pos 1)) ∷ Load Rdata Dat ∷ Cca Dat (Imm (pos 1))
      ∷ Load A1 Dat ∷ Cca Dat (Imm (pos 1)) ∷ Load A2 Dat ∷ Cca Dat (Imm (pos 1))
      ∷ Load C1 Dat ∷ Cca Dat (Imm (pos 1)) ∷ Load C2 Dat ∷ Move A0 (Imm (pos 3)) ∷ Xjmp C1 C2
      ∷ Move A0 (Imm (pos 9)) ∷ Xjmp Rcode Rdata ∷ Halt ∷ []);
  data_base = 272;
  data_words = Int (pos 0) ∷ Int (pos 0) ∷ Int (pos 0) ∷ Int (pos 0) ∷ Int (pos 0) ∷ Int (pos 0) ∷ [];
  imports = record { part = 117 ∷ []; name = 104 ∷ []; slot = 0 }
      ∷ record { part = 117 ∷ []; name = 103 ∷ []; slot = 2 }
      ∷ record { part = 116 ∷ []; name = 102 ∷ []; slot = 4 } ∷ [];
  exports = record { name = 103 ∷ []; offset = 13; shared = true }
      ∷ record { name = 104 ∷ []; offset = 15; shared = true }
      ∷ record { name = 109 ∷ 97 ∷ 105 ∷ 110 ∷ []; offset = 0; shared = true } ∷ [];
  sites = [];
  fail_at = None;
  literal_at = None;
  rows = [];
  movable = false;
}

pub adversary_fits : IsComponent adversary
unfolding is_name number_of
adversary_fits = record {
  name = refl;
  stack_base = omega arith;
  closure = omega arith;
  seals = (omega arith, omega arith);
  linear = (omega arith, omega arith);
  code_base = omega arith;
  code = ((omega arith, omega arith), search (rules, arith));
  data_base = omega arith;
  data_words = ((omega arith, omega arith), search (rules, arith));
  imports = (
    omega arith,
    (
      (refl, refl, omega arith, refl),
      (
        (refl, refl, omega arith, refl),
        (
          (refl, refl, omega arith, refl),
          tt,
        ),
      ),
    ),
  );
  exports = (
    omega arith,
    ((refl, refl, omega arith), ((refl, refl, omega arith), ((refl, refl, omega arith), tt))),
  );
  sites = (omega arith, tt);
  fail_at = tt;
  literal_at = tt;
  rows = (omega arith, tt);
}

adversary_checked : check_from (broken_at C) 1 (rules_c adversary false) ≡ Ok tt
unfolding c1 c2 c3 c4 c5 c6 c7 c8 c9 number_of
adversary_checked = refl

-- a part that isn't trusted, after the module's
abbrev pub outsider : ComponentFields → PartSeen
outsider u = record { component = u; trusted = false }

abbrev pub parts_with : ComponentFields → ComponentFields → List PartSeen
parts_with u c = record { component = c; trusted = true } ∷ outsider u ∷ []

abbrev pub parts_of : ComponentFields → List PartSeen
parts_of c = parts_with adversary c

pub adversary_is : IsPart (outsider adversary)
adversary_is = record {
  limits = adversary_fits;
  rules = no_rule adversary false adversary_checked;
  flow = λ t. absurd cc;
}

pub each_with : (u c : ComponentFields) → IsPart (outsider u) → IsComponent c → NoneBroken (rules_c c true)
    → IsKept c → (k : ℕ) (p : PartSeen) → slice_get (parts_with u c) k ≡ Some p → IsPart p
each_with u c out fits rules kept zero p at =
    let is : record { component = c; trusted = true } ≡ p = cc in
    subst IsPart is (record { limits = fits; rules = rules; flow = λ t. kept })
each_with u c out fits rules kept (suc zero) p at = let is : outsider u ≡ p = cc in subst IsPart is out
each_with u c out fits rules kept (suc (suc k)) p at = absurd cc

pub one_linked : check_from rule_at 1 (map by_part (rules_l (parts_of (compiled sums)) 8)) ≡ Ok tt
unfolding l1 l2 l3 l4 l5 l6 l7 l8 l9 number_of entry_code call_code return_code component_of frame_of
    laid_of lay_proc before_epilogue put instrs first_data exports_of imports_of variable_named
one_linked = refl

pub two_linked : check_from rule_at 1 (map by_part (rules_l (parts_of (compiled keeps)) 8)) ≡ Ok tt
unfolding l1 l2 l3 l4 l5 l6 l7 l8 l9 number_of entry_code call_code return_code component_of frame_of
    laid_of lay_proc before_epilogue put instrs first_data exports_of imports_of variable_named
two_linked = refl
