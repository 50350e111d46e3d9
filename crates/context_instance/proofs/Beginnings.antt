-- The starts of both modules beside the adversary, and that they are beside each other.
use Rattle.std.proofs.Common.{◌≡◌, inl, inr, ℕ, zero, suc, true, false, List, [], ◌∷◌, map}
use Rattle.std.proofs.Common.{Some, None, Ok, refl, sym, ap, ◌∙◌, arith, subst, rules}
use Rattle.std.specs.Prelude.{slice_get}
use Rattle.std.specs.List.{Contains}
use Rattle.std.proofs.lemmas.List.Sorted.{IsPermutation-refl}
use Rattle.lcm_isa.specs.Numbers.{number_of}
use Rattle.lcm_machine.specs.declared.cells.Span.{Span}
use Rattle.lcm_machine.specs.Spans.{AreSpans}
use Rattle.lcm_machine.proofs.Offers.{bases_rise, contains_cases, contains_none}
use Rattle.component_file.specs.declared.component.ComponentFields.{ComponentFields}
use Rattle.component_file.specs.Limits.{IsComponent}
use Rattle.component_check.specs.Verdict.{NoneBroken, check_from}
use Rattle.component_check.specs.Rules.{rules_c}
use Rattle.call_sequence.specs.Sequences.{call_code, return_code, entry_code}
use Rattle.call_sequence.specs.Verdict.{IsKept}
use Rattle.linked_starts.specs.Parts.{PartSeen, IsPart}
use Rattle.linked_starts.specs.Pairs.{NoneIsBroken, IsFirstBrokenIn, by_part}
use Rattle.linked_starts.specs.Links.{rules_l, rule_at, l10}
use Rattle.linked_starts.specs.Regions.{regions_of, region_span, stack_span}
use Rattle.linked_starts.specs.Standing.{placed}
use Rattle.linked_starts.specs.Start.{Exported, main_of, start_cell, start_regs, IsStart}
use Rattle.linked_starts.specs.Started.{StartSeen, Starts}
use Rattle.linked_starts.specs.Linked as linked
use Rattle.linked_starts.specs.LinkedStarts.{IsLinkedStart, IsStartOf}
use Rattle.linked_starts.specs.Owners.{AreSites, IsSite}
use Rattle.linked_starts.specs.declared.owners.Site.{Site}
use Rattle.linked_starts.proofs.Offers.{first_broken_in, are_linked, filled, cells_filled, owners_of}
use Rattle.linked_starts.proofs.Offers.{owners_are, no_rule}
use Rattle.overlay_machine.specs.Link.{IsUntrusted}
use Rattle.proc_names.specs.Names.{variable_named}
use Rattle.proc_templates.specs.Items.{put, instrs}
use Rattle.proc_templates.specs.Templates.{before_epilogue}
use Rattle.proc_templates.specs.Compiled.{frame_of, laid_of, lay_proc, first_data, exports_of, imports_of}
use Rattle.proc_templates.specs.Compiled.{component_of, compiled}
use Rattle.source_starts.specs.Links.{overlay_link}
use Rattle.source_starts.specs.Sources.{LinkedStart, AreSources, LinkedSources}
use Rattle.context_laws.specs.Sources.{Beside}
use Rattle.context_instance.specs.Doubles.{sums, keeps}
use Rattle.context_instance.proofs.Modules.{limits, limits_too, resolved, resolved_too}
use Rattle.context_instance.proofs.Links.{adversary, adversary_is, outsider, parts_with, parts_of, each_with}
use Rattle.context_instance.proofs.Links.{one_limits, two_limits, one_flow, two_flow, one_checked}
use Rattle.context_instance.proofs.Links.{two_checked, one_linked, two_linked}

abbrev pub main : Exported
main = record {
  part = outsider adversary;
  export = record { name = 109 ∷ 97 ∷ 105 ∷ 110 ∷ []; offset = 0; shared = true };
}

abbrev pub stack : Span
stack = record { base = 300; end = 307 }

-- what is asked of a module's component beside that of a part that isn't trusted
pub record Links (u : ComponentFields) (m : Exported) (c : ComponentFields) (sites : List Site) : Type 0 where
  pub outside : IsPart (outsider u)
  pub its_base : u.code_base ≡ 250
  pub its_still : u.movable ≡ false
  pub fits : IsComponent c
  pub rules : NoneBroken (rules_c c true)
  pub kept : IsKept c
  pub links : NoneIsBroken (rules_l (parts_with u c) 8)
  pub room : NoneIsBroken (l10 (parts_with u c) ∷ [])
  pub main_is : main_of (parts_with u c) ≡ Some m
  pub still : c.movable ≡ false
  pub sites_are : AreSites (parts_with u c) sites
  pub code_base : c.code_base ≡ 1
  pub stack_is : stack_span (parts_with u c) 8 ≡ Some stack
  pub spans : AreSpans 0 (map region_span (regions_of (parts_with u c) 8))

-- a module that calls nothing has no sites
pub without_sites : (u c : ComponentFields) → c.sites ≡ [] → AreSites (parts_with u c) []
without_sites u c none = record {
  ascend = λ i j x lt le. absurd (omega (arith, lt, le));
  all = λ s. (λ m. absurd (contains_none s m), λ i. absurd (no_site s i));
}
  where
    no_site : (s : Site) → IsSite (parts_with u c) s → ⊥
    no_site s i = by s.part i.of i.of_is i.trusted i.offset_is
      where
        by : (k : ℕ) (p : PartSeen) → slice_get (parts_with u c) k ≡ Some p → p.trusted ≡ true
            → slice_get p.component.sites s.index ≡ Some i.offset → ⊥
        by zero p at t e =
            let k : record { component = c; trusted = true } ≡ p = cc in
            let z : None ≡ Some i.offset = sym (ap (λ xs. slice_get xs s.index) none)
            ∙ ap (λ (x : PartSeen). slice_get x.component.sites s.index) k ∙ e in
            cc
        by (suc zero) p at t e =
            let k : outsider u ≡ p = cc in
            let bad : false ≡ true = ap (λ (x : PartSeen). x.trusted) k ∙ t in
            cc
        by (suc (suc k)) p at t e = cc

pub one_links : Links adversary main (compiled sums) []
unfolding regions_of number_of entry_code call_code return_code component_of frame_of laid_of lay_proc
    before_epilogue put instrs first_data exports_of imports_of variable_named l10
one_links = record {
  outside = adversary_is;
  its_base = refl;
  its_still = refl;
  fits = one_limits;
  rules = no_rule (compiled sums) true one_checked;
  kept = one_flow;
  links = subst (IsFirstBrokenIn rule_at (rules_l (parts_of (compiled sums)) 8)) one_linked
      (first_broken_in rule_at (rules_l (parts_of (compiled sums)) 8));
  room = (let e : check_from rule_at 1 (map by_part (l10 (parts_of (compiled sums)) ∷ [])) ≡ Ok tt = refl in
      subst (IsFirstBrokenIn rule_at (l10 (parts_of (compiled sums)) ∷ [])) e
      (first_broken_in rule_at (l10 (parts_of (compiled sums)) ∷ [])));
  main_is = refl;
  still = refl;
  sites_are = without_sites adversary (compiled sums) refl;
  code_base = refl;
  stack_is = refl;
  spans = search (rules, arith);
}

pub two_links : Links adversary main (compiled keeps) []
unfolding regions_of number_of entry_code call_code return_code component_of frame_of laid_of lay_proc
    before_epilogue put instrs first_data exports_of imports_of variable_named l10
two_links = record {
  outside = adversary_is;
  its_base = refl;
  its_still = refl;
  fits = two_limits;
  rules = no_rule (compiled keeps) true two_checked;
  kept = two_flow;
  links = subst (IsFirstBrokenIn rule_at (rules_l (parts_of (compiled keeps)) 8)) two_linked
      (first_broken_in rule_at (rules_l (parts_of (compiled keeps)) 8));
  room = (let e : check_from rule_at 1 (map by_part (l10 (parts_of (compiled keeps)) ∷ [])) ≡ Ok tt = refl in
      subst (IsFirstBrokenIn rule_at (l10 (parts_of (compiled keeps)) ∷ [])) e
      (first_broken_in rule_at (l10 (parts_of (compiled keeps)) ∷ [])));
  main_is = refl;
  still = refl;
  sites_are = without_sites adversary (compiled keeps) refl;
  code_base = refl;
  stack_is = refl;
  spans = search (rules, arith);
}

-- ---- a start

module _ (u : ComponentFields) (m : Exported) (c : ComponentFields) (sites : List Site)
    (is : Links u m c sites) where
  abbrev pub P : List PartSeen
  P = parts_with u c

  each : (k : ℕ) (p : PartSeen) → slice_get P k ≡ Some p → IsPart p
  each = each_with u c is.outside is.fits is.rules is.kept

  abbrev pub start : StartSeen
  start = record {
    state = record {
      maps = record {
        regs = start_regs P 8 m;
        cells = filled (start_cell P 8) 1048576;
        spans = map region_span (regions_of P 8);
      };
      count = 0;
      end = None;
    };
    sites = sites;
    owners = owners_of c u;
    stack = stack;
  }

  made : linked.Linked P 8
  made = are_linked P 8 each is.links

  is_start : IsStart P 8 start.state
  is_start = record {
    main = m;
    main_is = is.main_is;
    regs = refl;
    cells = cells_filled P 8 made;
    spans = record { same = IsPermutation-refl _; ascend = bases_rise 0 _ is.spans };
    count = refl;
    end = refl;
  }

  starts : Starts P 8 start
  starts = record {
    state = is_start;
    sites = is.sites_are;
    owners = owners_are c u (let b = is.code_base in let v = is.its_base in omega (arith, b, v));
    stack = is.stack_is;
  }

  pub is_linked : IsLinkedStart P 8 start
  is_linked = record { accepted = each; room = is.room; rules = is.links; starts = starts }

  pub placed_same : placed P 8 ≡ P
  placed_same = rw (is.still, is.its_still) refl

  pub is_start_of : IsStartOf P 8 start
  is_start_of = subst (λ ps. IsLinkedStart ps 8 start) (sym placed_same) is_linked

  abbrev pub linked_start : LinkedStart
  linked_start = record { link = record { parts = P; size = 8; start = start }; is_start = is_start_of }

  -- what stands beside the module alone is untrusted
  pub other_there : IsUntrusted (overlay_link linked_start.link) (outsider u)
  other_there = (subst (λ ps. Contains ps (outsider u)) (sym placed_same) (1, omega arith, refl), refl)

  only_other : (p : PartSeen) → IsUntrusted (overlay_link linked_start.link) p → outsider u ≡ p
  only_other p t = elim (contains_cases (record { component = c; trusted = true }) (outsider u ∷ []) p
      (subst (λ ps. Contains ps p) placed_same t.0)) as (λ _. outsider u ≡ p) [
        | inl e ↦ absurd (let bad : true ≡ false = ap (λ (x : PartSeen). x.trusted) e ∙ t.1 in cc)
        | inr m ↦ elim (contains_cases (outsider u) [] p m) as (λ _. outsider u ≡ p) [
          | inl e ↦ e
          | inr k ↦ absurd (contains_none p k)
        ]
      ]

-- ---- both

pub sums_sources : AreSources (sums ∷ []) (parts_of (compiled sums))
sums_sources = record { limits = (limits, tt); resolved = (resolved, tt); compiled = refl }

pub keeps_sources : AreSources (keeps ∷ []) (parts_of (compiled keeps))
keeps_sources = record { limits = (limits_too, tt); resolved = (resolved_too, tt); compiled = refl }

abbrev pub sums_link : LinkedSources
sums_link = record {
  modules = sums ∷ [];
  linked = linked_start adversary main (compiled sums) [] one_links;
  are_sources = sums_sources;
}

abbrev pub keeps_link : LinkedSources
keeps_link = record {
  modules = keeps ∷ [];
  linked = linked_start adversary main (compiled keeps) [] two_links;
  are_sources = keeps_sources;
}

-- the same part has main in both
pub main_there : (u : ComponentFields) (m : Exported) (c : ComponentFields) (sites : List Site)
    → Links u m c sites → main_of (placed (parts_with u c) 8) ≡ Some m
main_there u m c sites is = ap main_of (placed_same u m c sites is) ∙ is.main_is

-- two modules beside the same part, which is what is untrusted in both; either may have main
pub beside_of : (u : ComponentFields) (m w : Exported) (c e : ComponentFields) (sites more : List Site)
    (is : Links u m c sites) (are : Links u w e more)
    → Beside (linked_start u m c sites is).link (linked_start u w e more are).link
beside_of u m w c e sites more is are = record {
  one_size = refl;
  same_parts = λ p. (
    λ t. subst (IsUntrusted (overlay_link (linked_start u w e more are).link))
        (only_other u m c sites is p t) (other_there u w e more are),
    λ t. subst (IsUntrusted (overlay_link (linked_start u m c sites is).link))
        (only_other u w e more are p t) (other_there u m c sites is),
  );
}

pub sums_main : main_of (placed (parts_of (compiled sums)) 8) ≡ Some main
sums_main = main_there adversary main (compiled sums) [] one_links

pub keeps_main : main_of (placed (parts_of (compiled keeps)) 8) ≡ Some main
keeps_main = main_there adversary main (compiled keeps) [] two_links

pub beside : Beside sums_link.link keeps_link.link
beside = beside_of adversary main main (compiled sums) (compiled keeps) [] [] one_links two_links
