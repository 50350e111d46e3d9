-- The module's component, and an adversary whose main enters it and whose `g` goes right back. They keep the
-- rules.
use Rattle.std.proofs.Common.{◌≡◌, ℕ, zero, suc, pos, true, false, List, [], ◌∷◌, map, Some, None, Ok}
use Rattle.std.proofs.Common.{refl, sym, ap, arith, subst, rules}
use Rattle.std.specs.Prelude.{slice_get}
use Rattle.cap_words.specs.Names.{is_name}
use Rattle.cap_words.specs.declared.Word.TheVariants.{Int}
use Rattle.lcm_isa.specs.declared.Instr.{Instr}
use Rattle.lcm_isa.specs.declared.Instr.TheVariants.{Load, Cca, Xjmp}
use Rattle.lcm_isa.specs.declared.Operand.TheVariants.{Imm}
use Rattle.lcm_isa.specs.declared.Reg.TheVariants.{Rcode, Rdata, Dat, C1, C2}
use Rattle.lcm_isa.specs.Numbers.{number_of}
use Rattle.component_file.specs.declared.component.ComponentFields.{ComponentFields}
use Rattle.component_file.specs.Limits.{IsComponent}
use Rattle.component_check.specs.declared.rule.Group.TheVariants.{C}
use Rattle.component_check.specs.RuleText.{broken_at}
use Rattle.component_check.specs.Verdict.{check_from}
use Rattle.component_check.specs.Rules.{rules_c, c1, c2, c3, c4, c5, c6, c7, c8, c9, c10, c11, c12}
use Rattle.call_sequence.specs.Sequences.{call_code, return_code, entry_code}
use Rattle.linked_starts.specs.Parts.{PartSeen, IsPart}
use Rattle.linked_starts.specs.Pairs.{NoneIsBroken, IsFirstBrokenIn, by_part}
use Rattle.linked_starts.specs.Links.{rules_l, rule_at, l1, l2, l3, l4, l5, l6, l7, l8, l9, l10}
use Rattle.linked_starts.proofs.Offers.{first_broken_in, no_rule}
use Rattle.source_starts.specs.Sources.{AreSources}
use Rattle.source_instance.proofs.Module.{source, limits, resolved, as_word, trusted, is_compiled}
use Rattle.source_instance.proofs.Module.{component_fits, flow_kept}

-- ---- the adversary

-- its main loads the pair of its own `g`, to which the module is to return, and enters the module; its `g` at
-- 8 goes right back
abbrev adversary_instrs : List Instr
adversary_instrs =
    Load Rcode Dat ∷ Cca Dat (Imm (pos 1)) ∷ Load Rdata Dat ∷ Cca Dat (Imm (pos 1))
    ∷ Load C1 Dat ∷ Cca Dat (Imm (pos 1)) ∷ Load C2 Dat ∷ Xjmp C1 C2
    ∷ Xjmp Rcode Rdata ∷ []

abbrev pub adversary : ComponentFields
adversary = record {
  name = 117 ∷ [];
  stack_base = 111;
  closure = 30;
  seals = record { base = 0; count = 0 };
  linear = record { base = 0; count = 0 };
  code_base = 96;
  code = map as_word adversary_instrs;
  data_base = 106;
  data_words = Int (pos 0) ∷ Int (pos 0) ∷ Int (pos 0) ∷ Int (pos 0) ∷ [];
  imports = record { part = 117 ∷ []; name = 103 ∷ []; slot = 0 }
      ∷ record { part = 116 ∷ []; name = 102 ∷ []; slot = 2 } ∷ [];
  exports = record { name = 103 ∷ []; offset = 8; shared = true }
      ∷ record { name = 109 ∷ 97 ∷ 105 ∷ 110 ∷ []; offset = 0; shared = true } ∷ [];
  sites = [];
  fail_at = None;
  literal_at = None;
  rows = [];
  movable = false;
}

adversary_fits : IsComponent adversary
unfolding is_name number_of
adversary_fits = record {
  name = refl;
  stack_base = omega arith;
  closure = omega arith;
  seals = (omega arith, omega arith);
  linear = (omega arith, omega arith);
  code_base = omega arith;
  code = ((omega arith, omega arith), search (rules, arith));
  data_base = omega arith;
  data_words = ((omega arith, omega arith), search (rules, arith));
  imports = (omega arith, ((refl, refl, omega arith, refl), ((refl, refl, omega arith, refl), tt)));
  exports = (omega arith, ((refl, refl, omega arith), ((refl, refl, omega arith), tt)));
  sites = (omega arith, tt);
  fail_at = tt;
  literal_at = tt;
  rows = (omega arith, tt);
}

-- ---- the rules of each

trusted_checked : check_from (broken_at C) 1 (rules_c trusted true) ≡ Ok tt
unfolding c1 c2 c3 c4 c5 c6 c7 c8 c9 c10 c11 c12 number_of entry_code call_code return_code
trusted_checked = refl

adversary_checked : check_from (broken_at C) 1 (rules_c adversary false) ≡ Ok tt
unfolding c1 c2 c3 c4 c5 c6 c7 c8 c9 number_of
adversary_checked = refl

abbrev pub first : PartSeen
first = record { component = trusted; trusted = true }

abbrev pub second : PartSeen
second = record { component = adversary; trusted = false }

abbrev pub parts : List PartSeen
parts = first ∷ second ∷ []

first_is : IsPart first
first_is = record {
  limits = component_fits;
  rules = no_rule trusted true trusted_checked;
  flow = λ t. flow_kept;
}

second_is : IsPart second
second_is = record {
  limits = adversary_fits;
  rules = no_rule adversary false adversary_checked;
  flow = λ t. absurd cc;
}

pub each : (k : ℕ) (p : PartSeen) → slice_get parts k ≡ Some p → IsPart p
each zero p at = let is : first ≡ p = cc in subst IsPart is first_is
each (suc zero) p at = let is : second ≡ p = cc in subst IsPart is second_is
each (suc (suc k)) p at = absurd cc

-- ---- with a stack of eight words

linked_checked : check_from rule_at 1 (map by_part (rules_l parts 8)) ≡ Ok tt
unfolding l1 l2 l3 l4 l5 l6 l7 l8 l9 number_of entry_code call_code return_code
linked_checked = refl

pub keeps : NoneIsBroken (rules_l parts 8)
keeps =
    subst (IsFirstBrokenIn rule_at (rules_l parts 8)) linked_checked
    (first_broken_in rule_at (rules_l parts 8))

room_checked : check_from rule_at 1 (map by_part (l10 parts ∷ [])) ≡ Ok tt
unfolding l10 number_of entry_code call_code return_code
room_checked = refl

pub has_room : NoneIsBroken (l10 parts ∷ [])
has_room =
    subst (IsFirstBrokenIn rule_at (l10 parts ∷ [])) room_checked (first_broken_in rule_at (l10 parts ∷ []))

-- ---- and they are sources

pub are_sources : AreSources (source ∷ []) parts
are_sources = record {
  limits = (limits, tt);
  resolved = (resolved, tt);
  compiled = ap (λ c. c ∷ []) (sym is_compiled);
}
