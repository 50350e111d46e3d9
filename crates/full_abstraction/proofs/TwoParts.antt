-- Two trusted parts, of which the one halts where it is entered and the other fails, each beside an
-- adversary. They keep the rules.
use Rattle.std.proofs.Common.{◌≡◌, ℕ, zero, suc, ◌+◌, inl, inr, pos, Bool, true, false, List, [], ◌∷◌, ◌++◌}
use Rattle.std.proofs.Common.{map, Option, Some, None, Ok, refl, sym, ap, ◌∙◌, arith, subst, rules, ne_eqb}
use Rattle.std.specs.Prelude.{◌==◌, ◌<◌, ◌||◌, ◌&&◌, nat_lt, slice_get, ◌^◌}
use Rattle.std.specs.List.{list_all}
use Rattle.std.proofs.lemmas.Bool.{cases_eq, and_parts, ltb-true}
use Rattle.cap_words.specs.WordBytes.{WordFits, IsUnsealed}
use Rattle.cap_words.specs.declared.Word.{Word}
use Rattle.cap_words.specs.declared.Word.TheVariants.{Int}
use Rattle.cap_words.specs.Names.{is_name}
use Rattle.lcm_isa.specs.declared.Instr.{Instr}
use Rattle.lcm_isa.specs.declared.Instr.TheVariants.{Fail, Halt}
use Rattle.lcm_isa.specs.Numbers.{number_of, decode_of, candidate, table, all_with}
use Rattle.component_file.specs.declared.component.ComponentFields.{ComponentFields}
use Rattle.component_file.specs.Limits.{IsComponent, Chain}
use Rattle.component_check.specs.declared.rule.Group.TheVariants.{C, K}
use Rattle.component_check.specs.RuleText.{broken_at}
use Rattle.component_check.specs.Places.{Test, BrokenAt}
use Rattle.component_check.specs.Verdict.{NoneBroken, IsFirstBroken, check_from}
use Rattle.component_check.specs.Rules.{rules_c, c1, c2, c3, c4, c5, c6, c7, c8, c9, c10, c11, c12}
use Rattle.component_check.proofs.Offers.{first_broken}
use Rattle.call_sequence.specs.declared.TheConstants.{ENTRY_WORDS}
use Rattle.call_sequence.specs.Sequences.{entry_code}
use Rattle.call_sequence.specs.Standing.{sequence_difference, is_entry}
use Rattle.call_sequence.specs.Kinds.{kind_of, set_kind}
use Rattle.call_sequence.specs.Places.{begins_entry, begins_site, declared}
use Rattle.call_sequence.specs.Flow.{flow, ask}
use Rattle.call_sequence.specs.Lists.{k1, k2, k3, k4, lists, entry_is_bad}
use Rattle.call_sequence.specs.declared.flow.Walk.TheVariants.{Ended as ended}
use Rattle.call_sequence.specs.Walk.{instr_at, keep, site_ready, at_row, past, at_word, next_from, Arrives}
use Rattle.linked_starts.specs.Parts.{PartSeen, IsPart}
use Rattle.linked_starts.specs.Pairs.{NoneIsBroken, IsFirstBrokenIn, BrokenIn, by_part}
use Rattle.linked_starts.specs.Links.{rules_l, rule_at, l1, l2, l3, l4, l5, l6, l7, l8, l9, l10}
use Rattle.linked_starts.proofs.Offers.{as_word, other, each as each_of_pair, no_rule, first_broken_in}

-- ---- the trusted parts

-- after its entry the one halts, and the other fails
abbrev pub last_of : Bool → Instr
last_of true = Halt
last_of false = Fail

abbrev fails_at : ℕ
fails_at = ENTRY_WORDS + 1

abbrev instrs : Bool → List Instr
instrs b = entry_code fails_at 0 87 ++ last_of b ∷ Fail ∷ []

abbrev pub entered : Bool → ComponentFields
entered b = record {
  name = 116 ∷ [];
  stack_base = 87;
  closure = 10;
  seals = record { base = 0; count = 0 };
  linear = record { base = 0; count = 0 };
  code_base = 1;
  code = map as_word (instrs b);
  data_base = 74;
  data_words = Int (pos 0) ∷ [];
  imports = [];
  exports = record { name = 109 ∷ 97 ∷ 105 ∷ 110 ∷ []; offset = 0; shared = true } ∷ [];
  sites = [];
  fail_at = Some fails_at;
  literal_at = None;
  rows = [];
  movable = false;
}

checked : (b : Bool) → check_from (broken_at C) 1 (rules_c (entered b) true) ≡ Ok tt
unfolding c1 c2 c3 c4 c5 c6 c7 c8 c9 c10 c11 c12 number_of entry_code
checked true = refl
checked false = refl

entry_zero : (b : Bool) (o : ℕ) → begins_entry (entered b) o ≡ true → o ≡ 0
unfolding begins_entry
entry_zero b o e =
    elim (cases_eq o 0) as (λ _. o ≡ 0) [
      | inl q ↦ q
      | inr ne ↦
          (let f : (0 == o) ≡ false = ne_eqb 0 o (λ q. ne (sym q)) in let bad : false ≡ true =
          sym (ap (λ x. x || false) f) ∙ e in cc)
    ]

entry_fine : (b : Bool) → entry_is_bad (entered b) 0 ≡ false
unfolding entry_is_bad is_entry number_of entry_code
entry_fine true = refl
entry_fine false = refl

no_entry_bad : (b : Bool) (o : ℕ) → (begins_entry (entered b) o && entry_is_bad (entered b) o) ≡ true → ⊥
no_entry_bad b o e = by_test (begins_entry (entered b) o) refl e
  where
    by_test : (x : Bool) → begins_entry (entered b) o ≡ x → (x && entry_is_bad (entered b) o) ≡ true → ⊥
    by_test false f h = cc
    by_test true f h =
        let z = entry_zero b o f in
        let bad : false ≡ true = sym (entry_fine b) ∙ sym (ap (entry_is_bad (entered b)) z) ∙ h in
        cc

others : (b : Bool)
    → check_from (broken_at K) 1 (k1 (entered b) ∷ k2 (entered b) ∷ k4 (entered b) ∷ []) ≡ Ok tt
unfolding k1 k2 k4 sequence_difference number_of entry_code
others true = refl
others false = refl

others_kept : (b : Bool) → NoneBroken (k1 (entered b) ∷ k2 (entered b) ∷ k4 (entered b) ∷ [])
others_kept b =
    subst (IsFirstBroken (broken_at K) (k1 (entered b) ∷ k2 (entered b) ∷ k4 (entered b) ∷ []))
    (others b) (first_broken (broken_at K) (k1 (entered b) ∷ k2 (entered b) ∷ k4 (entered b) ∷ []))

third : (b : Bool) (t : Test ℕ) (i : ℕ) → k3 (entered b) ≡ t → BrokenAt t i → ⊥
unfolding k3
third b t i e h = no_entry_bad b i (ap (λ (x : Test ℕ). x.broken i) e ∙ h.1)

lists_kept : (b : Bool) → NoneBroken (lists (entered b))
lists_kept b zero i t e h = cc
lists_kept b (suc zero) i t e h = others_kept b 1 i t e h
lists_kept b (suc (suc zero)) i t e h = others_kept b 2 i t e h
lists_kept b (suc (suc (suc zero))) i t e h = third b t i (let q : k3 (entered b) ≡ t = cc in q) h
lists_kept b (suc (suc (suc (suc zero)))) i t e h = others_kept b 3 i t e h
lists_kept b (suc (suc (suc (suc (suc n))))) i t e h = cc

walked : (b : Bool) → Arrives (entered b) ended
unfolding next_from at_word at_row past keep begins_entry begins_site declared site_ready flow ask kind_of
    set_kind instr_at decode_of candidate table all_with number_of entry_code
walked true = (9, refl)
walked false = (9, refl)

-- words of instructions fit
abbrev is_small : Instr → Bool
is_small i = nat_lt (number_of i) (2 ^ 63)

each_fits : (before : Option Word) (is : List Instr) → list_all is_small is ≡ true
    → Chain (λ _ w. WordFits w × IsUnsealed w) before (map as_word is)
each_fits before [] h = tt
each_fits before (i ∷ is) h =
    let both = and_parts (is_small i) (list_all is_small is) h in
    let small : number_of i < 2 ^ 63 = ltb-true (number_of i) (2 ^ 63) both.0 in (
      ((let fits : WordFits (as_word i) = search (rules, small) in fits), tt),
      each_fits (Some (as_word i)) is both.1,
    )

small : (b : Bool) → list_all is_small (instrs b) ≡ true
unfolding number_of entry_code
small true = refl
small false = refl

fits : (b : Bool) → IsComponent (entered b)
unfolding is_name entry_code
fits b = record {
  name = refl;
  stack_base = omega arith;
  closure = omega arith;
  seals = (omega arith, omega arith);
  linear = (omega arith, omega arith);
  code_base = omega arith;
  code = ((omega arith, omega arith), each_fits None (instrs b) (small b));
  data_base = omega arith;
  data_words = ((omega arith, omega arith), ((search rules, tt), tt));
  imports = (omega arith, tt);
  exports = (omega arith, ((refl, refl, omega arith), tt));
  sites = (omega arith, tt);
  fail_at = omega arith;
  literal_at = tt;
  rows = (omega arith, tt);
}

-- ---- each beside the adversary

abbrev pub trusted_one : Bool → PartSeen
trusted_one b = record { component = entered b; trusted = true }

abbrev pub adversary : PartSeen
adversary = record { component = other; trusted = false }

abbrev pub both : Bool → List PartSeen
both b = trusted_one b ∷ adversary ∷ []

pub each : (b : Bool) (k : ℕ) (p : PartSeen) → slice_get (both b) k ≡ Some p → IsPart p
each b zero p at =
    let is : trusted_one b ≡ p = cc in
    subst IsPart is (record {
      limits = fits b;
      rules = no_rule (entered b) true (checked b);
      flow = λ t. record { placed = lists_kept b; walked = walked b };
    })
each b (suc zero) p at = let is : adversary ≡ p = cc in subst IsPart is (each_of_pair 1 adversary refl)
each b (suc (suc k)) p at = absurd cc

linked_checked : (b : Bool) → check_from rule_at 1 (map by_part (rules_l (both b) 4)) ≡ Ok tt
unfolding l1 l2 l3 l4 l5 l6 l7 l8 l9 number_of entry_code
linked_checked true = refl
linked_checked false = refl

-- with a stack of four words
pub keeps : (b : Bool) → NoneIsBroken (rules_l (both b) 4)
keeps b = subst (IsFirstBrokenIn rule_at (rules_l (both b) 4))
    (linked_checked b) (first_broken_in rule_at (rules_l (both b) 4))

-- neither of them is movable
pub has_room : (b : Bool) → NoneIsBroken (l10 (both b) ∷ [])
unfolding l10
has_room b zero p i t e h = cc
has_room b (suc zero) zero i t e h = let is : l10 (both b) ≡ t = cc in let here =
    subst (λ u. BrokenIn u 0 i) (sym is) h in absurd (omega (arith, here.1.0))
has_room b (suc zero) (suc zero) i t e h = let is : l10 (both b) ≡ t = cc in let here =
    subst (λ u. BrokenIn u 1 i) (sym is) h in absurd (omega (arith, here.1.0))
has_room b (suc zero) (suc (suc p)) i t e h = let is : l10 (both b) ≡ t = cc in let here =
    subst (λ u. BrokenIn u (suc (suc p)) i) (sym is) h in absurd (omega (arith, here.0))
has_room b (suc (suc n)) p i t e h = cc
