-- An untrusted part that counts how often it is called, and then calls main; it links with a trusted one.
use Rattle.std.proofs.Common.{◌≡◌, ℕ, zero, suc, pos, true, false, List, [], ◌∷◌, map, Some, None, Ok, refl}
use Rattle.std.proofs.Common.{arith, subst, rules}
use Rattle.std.specs.Prelude.{slice_get}
use Rattle.cap_words.specs.Names.{is_name}
use Rattle.cap_words.specs.declared.Word.TheVariants.{Int}
use Rattle.lcm_isa.specs.declared.Instr.TheVariants.{Load, Store, Plus, Cca, Xjmp}
use Rattle.lcm_isa.specs.declared.Operand.TheVariants.{Imm}
use Rattle.lcm_isa.specs.declared.Reg.TheVariants.{Dat, C1, C2, A0}
use Rattle.lcm_isa.specs.Numbers.{number_of}
use Rattle.component_file.specs.declared.component.ComponentFields.{ComponentFields}
use Rattle.component_file.specs.Limits.{IsComponent}
use Rattle.component_check.specs.declared.rule.Group.TheVariants.{C}
use Rattle.component_check.specs.RuleText.{broken_at}
use Rattle.component_check.specs.Verdict.{check_from}
use Rattle.component_check.specs.Rules.{rules_c, c1, c2, c3, c4, c5, c6, c7, c8, c9}
use Rattle.call_sequence.specs.Sequences.{call_code, return_code, entry_code}
use Rattle.linked_starts.specs.Parts.{PartSeen, IsPart}
use Rattle.linked_starts.specs.Pairs.{NoneIsBroken, IsFirstBrokenIn, by_part}
use Rattle.linked_starts.specs.Links.{rules_l, rule_at, l1, l2, l3, l4, l5, l6, l7, l8, l9, l10}
use Rattle.linked_starts.proofs.Offers.{as_word, caller, each as each_of_pair, first_broken_in, no_rule}

-- ---- the part: its data has the count, and after it the pair of the trusted part's main

abbrev pub teller : ComponentFields
teller = record {
  name = 117 ∷ [];
  stack_base = 87;
  closure = 30;
  seals = record { base = 0; count = 0 };
  linear = record { base = 0; count = 0 };
  code_base = 77;
  code = map as_word
      (Load A0 Dat ∷ Plus A0 A0 (Imm (pos 1)) ∷ Store Dat A0
      ∷ Cca Dat (Imm (pos 1)) ∷ Load C1 Dat ∷ Cca Dat (Imm (pos 1)) ∷ Load C2 Dat ∷ Xjmp C1 C2 ∷ []);
  data_base = 54;
  data_words = Int (pos 5) ∷ Int (pos 0) ∷ Int (pos 0) ∷ [];
  imports = record { part = 116 ∷ []; name = 109 ∷ 97 ∷ 105 ∷ 110 ∷ []; slot = 1 } ∷ [];
  exports = record { name = 102 ∷ []; offset = 0; shared = true } ∷ [];
  sites = [];
  fail_at = None;
  literal_at = None;
  rows = [];
  movable = false;
}

teller_fits : IsComponent teller
unfolding is_name number_of
teller_fits = record {
  name = refl;
  stack_base = omega arith;
  closure = omega arith;
  seals = (omega arith, omega arith);
  linear = (omega arith, omega arith);
  code_base = omega arith;
  code = ((omega arith, omega arith), search (rules, arith));
  data_base = omega arith;
  data_words = ((omega arith, omega arith), search (rules, arith));
  imports = (omega arith, ((refl, refl, omega arith, refl), tt));
  exports = (omega arith, ((refl, refl, omega arith), tt));
  sites = (omega arith, tt);
  fail_at = tt;
  literal_at = tt;
  rows = (omega arith, tt);
}

teller_checked : check_from (broken_at C) 1 (rules_c teller false) ≡ Ok tt
unfolding c1 c2 c3 c4 c5 c6 c7 c8 c9 number_of
teller_checked = refl

-- ---- after a trusted part that calls it

abbrev pub first : PartSeen
first = record { component = caller; trusted = true }

abbrev pub second : PartSeen
second = record { component = teller; trusted = false }

abbrev pub parts : List PartSeen
parts = first ∷ second ∷ []

pub each : (k : ℕ) (p : PartSeen) → slice_get parts k ≡ Some p → IsPart p
each zero p at = let is : first ≡ p = cc in subst IsPart is (each_of_pair 0 first refl)
each (suc zero) p at = let is : second ≡ p = cc in subst IsPart is
    (record { limits = teller_fits; rules = no_rule teller false teller_checked; flow = λ t. absurd cc })
each (suc (suc k)) p at = absurd cc

linked_checked : check_from rule_at 1 (map by_part (rules_l parts 4)) ≡ Ok tt
unfolding l1 l2 l3 l4 l5 l6 l7 l8 l9 number_of entry_code call_code return_code
linked_checked = refl

-- with a stack of four words
pub keeps : NoneIsBroken (rules_l parts 4)
keeps = subst (IsFirstBrokenIn rule_at (rules_l parts 4))
    linked_checked (first_broken_in rule_at (rules_l parts 4))

room_checked : check_from rule_at 1 (map by_part (l10 parts ∷ [])) ≡ Ok tt
unfolding l10 number_of entry_code call_code return_code
room_checked = refl

pub has_room : NoneIsBroken (l10 parts ∷ [])
has_room =
    subst (IsFirstBrokenIn rule_at (l10 parts ∷ [])) room_checked (first_broken_in rule_at (l10 parts ∷ []))
