-- An instance: a trusted part with an entry and a site, whose import is what it calls, and an adversary that
-- goes right back. They keep the rules.
use Rattle.std.proofs.Common.{◌≡◌, ℕ, zero, suc, ◌+◌, inl, inr, pos, Bool, true, false, List, [], ◌∷◌, ◌++◌}
use Rattle.std.proofs.Common.{map, Some, None, Ok, refl, sym, ap, ◌∙◌, arith, subst, rules, ne_eqb}
use Rattle.std.specs.Prelude.{◌==◌, ◌<◌, ◌||◌, ◌&&◌, nat_lt, slice_get, Option, ◌^◌}
use Rattle.std.specs.List.{list_all}
use Rattle.std.proofs.lemmas.Bool.{cases_eq, and_parts, ltb-true}
use Rattle.cap_words.specs.WordBytes.{WordFits, IsUnsealed}
use Rattle.cap_words.specs.declared.Word.{Word}
use Rattle.cap_words.specs.declared.Word.TheVariants.{Int, Mem, Seal}
use Rattle.cap_words.specs.declared.Perm.TheVariants.{Rw, Rwx}
use Rattle.cap_words.specs.declared.Lin.TheVariants.{Normal, Linear}
use Rattle.lcm_isa.specs.declared.Instr.{Instr}
use Rattle.lcm_isa.specs.declared.Instr.TheVariants.{Fail, Halt, Load, Cca, Xjmp}
use Rattle.lcm_isa.specs.declared.Operand.TheVariants.{Imm}
use Rattle.lcm_isa.specs.declared.Reg.TheVariants.{Rcode, Rdata, Dat, C1, C2}
use Rattle.lcm_isa.specs.Numbers.{number_of, decode_of, candidate, table, all_with}
use Rattle.component_file.specs.declared.component.ComponentFields.{ComponentFields}
use Rattle.cap_words.specs.Names.{is_name}
use Rattle.component_file.specs.Limits.{IsComponent, Chain}
use Rattle.component_check.specs.declared.rule.Group.TheVariants.{C, K}
use Rattle.component_check.specs.RuleText.{broken_at}
use Rattle.component_check.specs.Places.{Test, BrokenAt}
use Rattle.component_check.specs.Verdict.{NoneBroken, IsFirstBroken, check_from}
use Rattle.component_check.specs.Rules.{rules_c, c1, c2, c3, c4, c5, c6, c7, c8, c9, c10, c11, c12}
use Rattle.component_check.proofs.Offers.{first_broken}
use Rattle.call_sequence.specs.declared.TheConstants.{CALL_WORDS, ENTRY_WORDS, SITE_WORDS}
use Rattle.call_sequence.specs.Sequences.{call_code, return_code, entry_code}
use Rattle.call_sequence.specs.Standing.{sequence_difference, is_entry}
use Rattle.call_sequence.specs.Kinds.{kind_of, set_kind}
use Rattle.call_sequence.specs.Places.{begins_entry, begins_site, declared}
use Rattle.call_sequence.specs.Flow.{flow, ask}
use Rattle.call_sequence.specs.Lists.{k1, k2, k3, k4, lists, entry_is_bad}
use Rattle.call_sequence.specs.declared.flow.Walk.TheVariants.{Ended as ended}
use Rattle.call_sequence.specs.Walk.{instr_at, keep, site_ready, at_row, past, at_word, next_from, Arrives}
use Rattle.linked_starts.specs.Parts.{PartSeen, IsPart}
use Rattle.linked_starts.specs.Pairs.{NoneIsBroken, IsFirstBrokenIn, by_part}
use Rattle.linked_starts.specs.Links.{rules_l, rule_at, l1, l2, l3, l4, l5, l6, l7, l8, l9}
use Rattle.linked_starts.proofs.FirstIn.{first_broken_in}

-- ---- the trusted part

abbrev pub as_word : Instr → Word
as_word i = Int (pos (number_of i))

-- the entry at 0, after it the slot's halves are loaded, then the site, `halt`, `fail`, and the seals
abbrev pub site_at : ℕ
site_at = ENTRY_WORDS + 3

abbrev pub halt_at : ℕ
halt_at = site_at + SITE_WORDS

abbrev fails_at : ℕ
fails_at = halt_at + 1

abbrev pub seals_at : ℕ
seals_at = fails_at + 1

abbrev caller_instrs : List Instr
caller_instrs =
    entry_code fails_at 0 87 ++ (Load C1 Dat ∷ Cca Dat (Imm (pos 1)) ∷ Load C2 Dat ∷ [])
    ++ call_code seals_at site_at 0 ++ return_code fails_at (site_at + CALL_WORDS) 87 ++ Halt ∷ Fail ∷ []

abbrev caller_seals : Word
caller_seals = Seal (record { base = 12; end = 12; cur = pos 12 })

abbrev pub caller_code : List Word
caller_code = map as_word caller_instrs ++ caller_seals ∷ []

abbrev pub caller : ComponentFields
caller = record {
  name = 116 ∷ [];
  stack_base = 87;
  closure = 10;
  seals = record { base = 12; count = 1 };
  linear = record { base = 0; count = 0 };
  code_base = 1;
  code = caller_code;
  data_base = 74;
  data_words = Int (pos 0) ∷ Int (pos 0) ∷ [];
  imports = record { part = 117 ∷ []; name = 102 ∷ []; slot = 0 } ∷ [];
  exports = record { name = 109 ∷ 97 ∷ 105 ∷ 110 ∷ []; offset = 0; shared = true } ∷ [];
  sites = site_at ∷ [];
  fail_at = Some fails_at;
  literal_at = Some seals_at;
  rows = [];
  movable = false;
}

caller_checked : check_from (broken_at C) 1 (rules_c caller true) ≡ Ok tt
unfolding c1 c2 c3 c4 c5 c6 c7 c8 c9 c10 c11 c12 number_of entry_code call_code return_code
caller_checked = refl

entry_zero : (o : ℕ) → begins_entry caller o ≡ true → o ≡ 0
unfolding begins_entry
entry_zero o e =
    elim (cases_eq o 0) as (λ _. o ≡ 0) [
      | inl q ↦ q
      | inr ne ↦
          (let f : (0 == o) ≡ false = ne_eqb 0 o (λ q. ne (sym q)) in let bad : false ≡ true =
          sym (ap (λ b. b || false) f) ∙ e in cc)
    ]

entry_fine : entry_is_bad caller 0 ≡ false
unfolding entry_is_bad is_entry number_of entry_code call_code return_code
entry_fine = refl

no_entry_bad : (o : ℕ) → (begins_entry caller o && entry_is_bad caller o) ≡ true → ⊥
no_entry_bad o e = by_test (begins_entry caller o) refl e
  where
    by_test : (b : Bool) → begins_entry caller o ≡ b → (b && entry_is_bad caller o) ≡ true → ⊥
    by_test false f h = cc
    by_test true f h =
        let z = entry_zero o f in
        let bad : false ≡ true = sym entry_fine ∙ sym (ap (entry_is_bad caller) z) ∙ h in
        cc

others : check_from (broken_at K) 1 (k1 caller ∷ k2 caller ∷ k4 caller ∷ []) ≡ Ok tt
unfolding k1 k2 k4 sequence_difference number_of entry_code call_code return_code
others = refl

others_kept : NoneBroken (k1 caller ∷ k2 caller ∷ k4 caller ∷ [])
others_kept = subst (IsFirstBroken (broken_at K) (k1 caller ∷ k2 caller ∷ k4 caller ∷ []))
    others (first_broken (broken_at K) (k1 caller ∷ k2 caller ∷ k4 caller ∷ []))

third : (t : Test ℕ) (i : ℕ) → k3 caller ≡ t → BrokenAt t i → ⊥
unfolding k3
third t i e b = no_entry_bad i (ap (λ (x : Test ℕ). x.broken i) e ∙ b.1)

placed : NoneBroken (lists caller)
placed zero i t e b = cc
placed (suc zero) i t e b = others_kept 1 i t e b
placed (suc (suc zero)) i t e b = others_kept 2 i t e b
placed (suc (suc (suc zero))) i t e b = third t i (let q : k3 caller ≡ t = cc in q) b
placed (suc (suc (suc (suc zero)))) i t e b = others_kept 3 i t e b
placed (suc (suc (suc (suc (suc n))))) i t e b = cc

walked : Arrives caller ended
unfolding next_from at_word at_row past keep begins_entry begins_site declared site_ready flow ask kind_of
    set_kind instr_at decode_of candidate table all_with number_of entry_code call_code return_code
walked = (9, refl)

-- words of instructions fit, and some after them
abbrev is_small : Instr → Bool
is_small i = nat_lt (number_of i) (2 ^ 63)

each_fits : (before : Option Word) (is : List Instr) (more : List Word) → list_all is_small is ≡ true
    → ((b : Option Word) → Chain (λ _ w. WordFits w × IsUnsealed w) b more)
    → Chain (λ _ w. WordFits w × IsUnsealed w) before (map as_word is ++ more)
each_fits before [] more h k = k before
each_fits before (i ∷ is) more h k =
    let both = and_parts (is_small i) (list_all is_small is) h in
    let small : number_of i < 2 ^ 63 = ltb-true (number_of i) (2 ^ 63) both.0 in (
      ((let fits : WordFits (as_word i) = search (rules, small) in fits), tt),
      each_fits (Some (as_word i))
          is more both.1 k,
    )

caller_fits : IsComponent caller
unfolding is_name number_of entry_code call_code return_code
caller_fits = record {
  name = refl;
  stack_base = omega arith;
  closure = omega arith;
  seals = (omega arith, omega arith);
  linear = (omega arith, omega arith);
  code_base = omega arith;
  code = (
    (omega arith, omega arith),
    each_fits None caller_instrs (caller_seals ∷ [])
        refl (λ before. (((omega arith, omega arith), search rules), tt)),
  );
  data_base = omega arith;
  data_words = ((omega arith, omega arith), ((search rules, tt), ((search rules, tt), tt)));
  imports = (omega arith, ((refl, refl, omega arith, refl), tt));
  exports = (omega arith, ((refl, refl, omega arith), tt));
  sites = (omega arith, ((omega arith, refl), tt));
  fail_at = omega arith;
  literal_at = omega arith;
  rows = (omega arith, tt);
}

-- ---- the other

-- an adversary: it goes right back, imports the caller's main, and has capabilities over its own code and
-- linear area
abbrev pub other : ComponentFields
other = record {
  name = 117 ∷ [];
  stack_base = 87;
  closure = 30;
  seals = record { base = 20; count = 2 };
  linear = record { base = 84; count = 2 };
  code_base = 77;
  code = as_word (Xjmp Rcode Rdata)
      ∷ Mem (record { perm = Rwx; lin = Normal; base = 77; end = 78; addr = pos 77 }) ∷ [];
  data_base = 80;
  data_words =
      Int (pos 0) ∷ Int (pos 0) ∷ Mem (record { perm = Rw; lin = Linear; base = 84; end = 85; addr = pos 84 })
      ∷ [];
  imports = record { part = 116 ∷ []; name = 109 ∷ 97 ∷ 105 ∷ 110 ∷ []; slot = 0 } ∷ [];
  exports = record { name = 102 ∷ []; offset = 0; shared = true } ∷ [];
  sites = [];
  fail_at = None;
  literal_at = None;
  rows = [];
  movable = false;
}

other_checked : check_from (broken_at C) 1 (rules_c other false) ≡ Ok tt
unfolding c1 c2 c3 c4 c5 c6 c7 c8 c9 number_of
other_checked = refl

other_fits : IsComponent other
unfolding is_name number_of
other_fits = record {
  name = refl;
  stack_base = omega arith;
  closure = omega arith;
  seals = (omega arith, omega arith);
  linear = (omega arith, omega arith);
  code_base = omega arith;
  code = (
    (omega arith, omega arith),
    ((search rules, tt), ((((omega arith, omega arith), search rules), tt), tt)),
  );
  data_base = omega arith;
  data_words = (
    (omega arith, omega arith),
    ((search rules, tt), ((search rules, tt), ((((omega arith, omega arith), search rules), tt), tt))),
  );
  imports = (omega arith, ((refl, refl, omega arith, refl), tt));
  exports = (omega arith, ((refl, refl, omega arith), tt));
  sites = (omega arith, tt);
  fail_at = tt;
  literal_at = tt;
  rows = (omega arith, tt);
}

-- ---- both

pub no_rule : (c : ComponentFields) (trusted : Bool) → check_from (broken_at C) 1 (rules_c c trusted) ≡ Ok tt
    → NoneBroken (rules_c c trusted)
no_rule c trusted e =
    subst (IsFirstBroken (broken_at C) (rules_c c trusted)) e (first_broken (broken_at C) (rules_c c trusted))

abbrev pub pair : List PartSeen
pair = record { component = caller; trusted = true } ∷ record { component = other; trusted = false } ∷ []

pub each : (k : ℕ) (p : PartSeen) → slice_get pair k ≡ Some p → IsPart p
each zero p at = let is : record { component = caller; trusted = true } ≡ p =
    cc in subst IsPart is
    (record {
      limits = caller_fits;
      rules = no_rule caller true caller_checked;
      flow =
          λ t. record { placed = placed; walked = walked };
    })
each (suc zero) p at = let is : record { component = other; trusted = false } ≡ p =
    cc in subst IsPart is
    (record { limits = other_fits; rules = no_rule other false other_checked; flow = λ t. absurd cc })
each (suc (suc k)) p at = absurd cc

linked_checked : check_from rule_at 1 (map by_part (rules_l pair 4)) ≡ Ok tt
unfolding l1 l2 l3 l4 l5 l6 l7 l8 l9 number_of entry_code call_code return_code
linked_checked = refl

-- with a stack of four words
pub keeps : NoneIsBroken (rules_l pair 4)
keeps = subst (IsFirstBrokenIn rule_at (rules_l pair 4))
    linked_checked (first_broken_in rule_at (rules_l pair 4))
