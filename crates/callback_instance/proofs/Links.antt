-- Both modules link with the adversary that the other two link with.
use Rattle.std.proofs.Common.{◌≡◌, true, List, [], ◌∷◌, map, Some, Ok, refl, arith, subst, rules}
use Rattle.lcm_isa.specs.Numbers.{number_of}
use Rattle.component_file.specs.Limits.{IsComponent}
use Rattle.component_check.specs.declared.rule.Group.TheVariants.{C}
use Rattle.component_check.specs.RuleText.{broken_at}
use Rattle.component_check.specs.Verdict.{check_from}
use Rattle.component_check.specs.Rules.{rules_c, c1, c2, c3, c4, c5, c6, c7, c8, c9, c10, c11, c12}
use Rattle.call_sequence.specs.Sequences.{call_code, return_code, entry_code}
use Rattle.linked_starts.specs.Pairs.{IsFirstBrokenIn, by_part}
use Rattle.linked_starts.specs.Links.{rules_l, rule_at, l1, l2, l3, l4, l5, l6, l7, l8, l9, l10}
use Rattle.linked_starts.specs.Regions.{regions_of}
use Rattle.linked_starts.specs.Standing.{placed}
use Rattle.linked_starts.specs.Start.{main_of}
use Rattle.linked_starts.specs.Started.{StartSeen}
use Rattle.linked_starts.specs.declared.owners.Site.{Site}
use Rattle.linked_starts.proofs.Offers.{first_broken_in, no_rule, site_of, sites_are}
use Rattle.proc_names.specs.Names.{variable_named, callee_named}
use Rattle.proc_program.specs.Lower.{part_of}
use Rattle.proc_program.proofs.Offers.{part_fits}
use Rattle.proc_templates.specs.Items.{put, instrs}
use Rattle.proc_templates.specs.Templates.{before_epilogue}
use Rattle.proc_templates.specs.Compiled.{frame_of, laid_of, lay_proc, code_words, data_count, first_data}
use Rattle.proc_templates.specs.Compiled.{exports_of, imports_of, component_of, compiled}
use Rattle.proc_templates.specs.Kept.{FitsComponent}
use Rattle.proc_templates.proofs.Offers.{names_differ, limits_kept, keeps_flow}
use Rattle.source_starts.specs.Sources.{AreSources, LinkedSources}
use Rattle.context_laws.specs.Sources.{Beside}
use Rattle.context_instance.proofs.Offers.{adversary, adversary_is, parts_of, main, Links, start}
use Rattle.context_instance.proofs.Offers.{linked_start, main_there, beside_of}
use Rattle.callback_instance.specs.Passes.{passes, stores}
use Rattle.callback_instance.proofs.Modules.{limits, limits_too, resolved, resolved_too}

-- ---- the components

passes_fits : FitsComponent (part_of passes)
unfolding code_words data_count variable_named callee_named
passes_fits = record { limits = part_fits passes limits; code = omega arith; data_words = omega arith }

stores_fits : FitsComponent (part_of stores)
unfolding code_words data_count variable_named callee_named
stores_fits = record { limits = part_fits stores limits_too; code = omega arith; data_words = omega arith }

one_limits : IsComponent (compiled passes)
one_limits = limits_kept (part_of passes) passes_fits (names_differ passes resolved) (omega arith)

two_limits : IsComponent (compiled stores)
two_limits = limits_kept (part_of stores) stores_fits (names_differ stores resolved_too) (omega arith)

one_checked : check_from (broken_at C) 1 (rules_c (compiled passes) true) ≡ Ok tt
unfolding c1 c2 c3 c4 c5 c6 c7 c8 c9 c10 c11 c12 number_of entry_code call_code return_code component_of
    frame_of
    laid_of lay_proc before_epilogue put instrs first_data exports_of imports_of variable_named callee_named
one_checked = refl

two_checked : check_from (broken_at C) 1 (rules_c (compiled stores) true) ≡ Ok tt
unfolding c1 c2 c3 c4 c5 c6 c7 c8 c9 c10 c11 c12 number_of entry_code call_code return_code component_of
    frame_of
    laid_of lay_proc before_epilogue put instrs first_data exports_of imports_of variable_named callee_named
two_checked = refl

one_linked : check_from rule_at 1 (map by_part (rules_l (parts_of (compiled passes)) 8)) ≡ Ok tt
unfolding l1 l2 l3 l4 l5 l6 l7 l8 l9 number_of entry_code call_code return_code component_of frame_of
    laid_of lay_proc before_epilogue put instrs first_data exports_of imports_of variable_named callee_named
one_linked = refl

two_linked : check_from rule_at 1 (map by_part (rules_l (parts_of (compiled stores)) 8)) ≡ Ok tt
unfolding l1 l2 l3 l4 l5 l6 l7 l8 l9 number_of entry_code call_code return_code component_of frame_of
    laid_of lay_proc before_epilogue put instrs first_data exports_of imports_of variable_named callee_named
two_linked = refl

-- ---- what is asked of them; each has one site

pub one_links : Links adversary main (compiled passes) (site_of (compiled passes) 80 ∷ [])
unfolding regions_of number_of entry_code call_code return_code component_of frame_of laid_of lay_proc
    before_epilogue put instrs first_data exports_of imports_of variable_named callee_named l10
one_links = record {
  outside = adversary_is;
  its_base = refl;
  its_still = refl;
  fits = one_limits;
  rules = no_rule (compiled passes) true one_checked;
  kept = keeps_flow (part_of passes) passes_fits;
  links = subst (IsFirstBrokenIn rule_at (rules_l (parts_of (compiled passes)) 8)) one_linked
      (first_broken_in rule_at (rules_l (parts_of (compiled passes)) 8));
  room = (let e : check_from rule_at 1 (map by_part (l10 (parts_of (compiled passes)) ∷ [])) ≡ Ok tt = refl in
      subst (IsFirstBrokenIn rule_at (l10 (parts_of (compiled passes)) ∷ [])) e
      (first_broken_in rule_at (l10 (parts_of (compiled passes)) ∷ [])));
  main_is = refl;
  still = refl;
  sites_are = sites_are (compiled passes) adversary 80 refl;
  code_base = refl;
  stack_is = refl;
  spans = search (rules, arith);
}

pub two_links : Links adversary main (compiled stores) (site_of (compiled stores) 86 ∷ [])
unfolding regions_of number_of entry_code call_code return_code component_of frame_of laid_of lay_proc
    before_epilogue put instrs first_data exports_of imports_of variable_named callee_named l10
two_links = record {
  outside = adversary_is;
  its_base = refl;
  its_still = refl;
  fits = two_limits;
  rules = no_rule (compiled stores) true two_checked;
  kept = keeps_flow (part_of stores) stores_fits;
  links = subst (IsFirstBrokenIn rule_at (rules_l (parts_of (compiled stores)) 8)) two_linked
      (first_broken_in rule_at (rules_l (parts_of (compiled stores)) 8));
  room = (let e : check_from rule_at 1 (map by_part (l10 (parts_of (compiled stores)) ∷ [])) ≡ Ok tt = refl in
      subst (IsFirstBrokenIn rule_at (l10 (parts_of (compiled stores)) ∷ [])) e
      (first_broken_in rule_at (l10 (parts_of (compiled stores)) ∷ [])));
  main_is = refl;
  still = refl;
  sites_are = sites_are (compiled stores) adversary 86 refl;
  code_base = refl;
  stack_is = refl;
  spans = search (rules, arith);
}

-- ---- the starts

abbrev pub passes_sites : List Site
passes_sites = site_of (compiled passes) 80 ∷ []

abbrev pub stores_sites : List Site
stores_sites = site_of (compiled stores) 86 ∷ []

abbrev pub passes_start : StartSeen
passes_start = start adversary main (compiled passes) passes_sites one_links

pub passes_sources : AreSources (passes ∷ []) (parts_of (compiled passes))
passes_sources = record { limits = (limits, tt); resolved = (resolved, tt); compiled = refl }

pub stores_sources : AreSources (stores ∷ []) (parts_of (compiled stores))
stores_sources = record { limits = (limits_too, tt); resolved = (resolved_too, tt); compiled = refl }

abbrev pub passes_link : LinkedSources
passes_link = record {
  modules = passes ∷ [];
  linked = linked_start adversary main (compiled passes) passes_sites one_links;
  are_sources = passes_sources;
}

abbrev pub stores_link : LinkedSources
stores_link = record {
  modules = stores ∷ [];
  linked = linked_start adversary main (compiled stores) stores_sites two_links;
  are_sources = stores_sources;
}

pub passes_main : main_of (placed (parts_of (compiled passes)) 8) ≡ Some main
passes_main = main_there adversary main (compiled passes) passes_sites one_links

pub stores_main : main_of (placed (parts_of (compiled stores)) 8) ≡ Some main
stores_main = main_there adversary main (compiled stores) stores_sites two_links

pub beside : Beside passes_link.link stores_link.link
beside =
    beside_of adversary main main (compiled passes) (compiled stores) passes_sites stores_sites one_links
    two_links
