-- The two modules with main link with an adversary without one.
use Rattle.std.proofs.Common.{◌≡◌, ◌≢◌, false, true, List, [], ◌∷◌, map, length, Ok, refl, ap, arith, subst}
use Rattle.std.proofs.Common.{rules}
use Rattle.cap_words.specs.Names as names
use Rattle.lcm_isa.specs.Numbers.{number_of}
use Rattle.component_file.specs.declared.component.ComponentFields.{ComponentFields}
use Rattle.component_file.specs.Limits.{IsComponent}
use Rattle.component_check.specs.declared.rule.Group.TheVariants.{C}
use Rattle.component_check.specs.RuleText.{broken_at}
use Rattle.component_check.specs.Verdict.{check_from}
use Rattle.component_check.specs.Rules.{rules_c, c1, c2, c3, c4, c5, c6, c7, c8, c9, c10, c11, c12}
use Rattle.call_sequence.specs.Sequences.{call_code, return_code, entry_code}
use Rattle.linked_starts.specs.Parts.{IsPart}
use Rattle.linked_starts.specs.Pairs.{IsFirstBrokenIn, by_part}
use Rattle.linked_starts.specs.Links.{rules_l, rule_at, l1, l2, l3, l4, l5, l6, l7, l8, l9, l10}
use Rattle.linked_starts.specs.Regions.{regions_of}
use Rattle.linked_starts.specs.Start.{Exported}
use Rattle.linked_starts.specs.Started.{StartSeen}
use Rattle.linked_starts.specs.declared.owners.Site.{Site}
use Rattle.linked_starts.proofs.Offers.{first_broken_in, no_rule, site_of, sites_are}
use Rattle.proc_language.specs.Words.{is_source_name, is_reserved}
use Rattle.proc_language.specs.Limits.{IsModule}
use Rattle.proc_names.specs.Names.{variable_named, callee_named, passed_named}
use Rattle.proc_names.specs.NameFaults.{name_faults}
use Rattle.proc_program.specs.Lower.{part_of}
use Rattle.proc_program.proofs.Offers.{part_fits}
use Rattle.proc_templates.specs.Items.{put, instrs}
use Rattle.proc_templates.specs.Templates.{before_epilogue}
use Rattle.proc_templates.specs.Compiled.{frame_of, laid_of, lay_proc, code_words, data_count, first_data}
use Rattle.proc_templates.specs.Compiled.{exports_of, imports_of, component_of, compiled}
use Rattle.proc_templates.specs.Kept.{FitsComponent}
use Rattle.proc_templates.proofs.Offers.{names_differ, limits_kept, keeps_flow}
use Rattle.source_starts.specs.Sources.{AreSources, LinkedSources}
use Rattle.context_laws.specs.Sources.{Beside}
use Rattle.context_instance.proofs.Offers.{adversary, adversary_fits, outsider, parts_with, Links, start}
use Rattle.context_instance.proofs.Offers.{linked_start, beside_of, module_fits}
use Rattle.callback_instance.specs.Callers.{says, adds}

-- ---- the modules

pub says_limits : IsModule says
unfolding is_source_name is_reserved names.is_name
says_limits =
    module_fits _ _ _ _ (omega arith) (omega arith, ((refl, refl, omega arith), tt)) (omega arith, tt)
    (record {
      name = refl;
      params = tt;
      registers = omega arith;
      locals = (omega arith, tt);
      body = (((refl, omega arith), (omega arith, tt)), tt);
    })

pub adds_limits : IsModule adds
unfolding is_source_name is_reserved names.is_name
adds_limits =
    module_fits _ _ _ _ (omega arith) (omega arith, ((refl, refl, omega arith), tt)) (omega arith, tt)
    (record {
      name = refl;
      params = tt;
      registers = omega arith;
      locals = (omega arith, tt);
      body = (((refl, omega arith), ((omega arith, omega arith), tt)), tt);
    })

pub says_resolved : name_faults says ≡ []
unfolding callee_named passed_named variable_named
says_resolved = refl

pub adds_resolved : name_faults adds ≡ []
unfolding callee_named passed_named variable_named
adds_resolved = refl

says_fits : FitsComponent (part_of says)
unfolding code_words data_count variable_named callee_named
says_fits = record { limits = part_fits says says_limits; code = omega arith; data_words = omega arith }

adds_fits : FitsComponent (part_of adds)
unfolding code_words data_count variable_named callee_named
adds_fits = record { limits = part_fits adds adds_limits; code = omega arith; data_words = omega arith }

-- ---- the adversary without main: it answers

abbrev pub answerer : ComponentFields
answerer = record adversary {
  imports = record { part = 117 ∷ []; name = 104 ∷ []; slot = 0 }
      ∷ record { part = 117 ∷ []; name = 103 ∷ []; slot = 2 }
      ∷ record { part = 116 ∷ []; name = 109 ∷ 97 ∷ 105 ∷ 110 ∷ []; slot = 4 } ∷ [];
  exports = record { name = 103 ∷ []; offset = 13; shared = true }
      ∷ record { name = 104 ∷ []; offset = 15; shared = true } ∷ [];
}

answerer_fits : IsComponent answerer
unfolding names.is_name
answerer_fits = record {
  name = adversary_fits.name;
  stack_base = adversary_fits.stack_base;
  closure = adversary_fits.closure;
  seals = adversary_fits.seals;
  linear = adversary_fits.linear;
  code_base = adversary_fits.code_base;
  code = adversary_fits.code;
  data_base = adversary_fits.data_base;
  data_words = adversary_fits.data_words;
  imports = (
    omega arith,
    (
      (refl, refl, omega arith, refl),
      (
        (refl, refl, omega arith, refl),
        (
          (refl, refl, omega arith, refl),
          tt,
        ),
      ),
    ),
  );
  exports = (omega arith, ((refl, refl, omega arith), ((refl, refl, omega arith), tt)));
  sites = adversary_fits.sites;
  fail_at = adversary_fits.fail_at;
  literal_at = adversary_fits.literal_at;
  rows = adversary_fits.rows;
}

answerer_checked : check_from (broken_at C) 1 (rules_c answerer false) ≡ Ok tt
unfolding c1 c2 c3 c4 c5 c6 c7 c8 c9 number_of
answerer_checked = refl

answerer_is : IsPart (outsider answerer)
answerer_is = record {
  limits = answerer_fits;
  rules = no_rule answerer false answerer_checked;
  flow = λ t. absurd cc;
}

abbrev pub main_in : ComponentFields → Exported
main_in c = record {
  part = record { component = c; trusted = true };
  export = record { name = 109 ∷ 97 ∷ 105 ∷ 110 ∷ []; offset = 2; shared = true };
}

-- ---- the rules

says_checked : check_from (broken_at C) 1 (rules_c (compiled says) true) ≡ Ok tt
unfolding c1 c2 c3 c4 c5 c6 c7 c8 c9 c10 c11 c12 number_of entry_code call_code return_code component_of
    frame_of laid_of lay_proc before_epilogue put instrs first_data exports_of imports_of variable_named
    callee_named
says_checked = refl

adds_checked : check_from (broken_at C) 1 (rules_c (compiled adds) true) ≡ Ok tt
unfolding c1 c2 c3 c4 c5 c6 c7 c8 c9 c10 c11 c12 number_of entry_code call_code return_code component_of
    frame_of laid_of lay_proc before_epilogue put instrs first_data exports_of imports_of variable_named
    callee_named
adds_checked = refl

says_linked : check_from rule_at 1 (map by_part (rules_l (parts_with answerer (compiled says)) 8)) ≡ Ok tt
unfolding l1 l2 l3 l4 l5 l6 l7 l8 l9 number_of entry_code call_code return_code component_of frame_of
    laid_of lay_proc before_epilogue put instrs first_data exports_of imports_of variable_named callee_named
says_linked = refl

adds_linked : check_from rule_at 1 (map by_part (rules_l (parts_with answerer (compiled adds)) 8)) ≡ Ok tt
unfolding l1 l2 l3 l4 l5 l6 l7 l8 l9 number_of entry_code call_code return_code component_of frame_of
    laid_of lay_proc before_epilogue put instrs first_data exports_of imports_of variable_named callee_named
adds_linked = refl

abbrev pub says_sites : List Site
says_sites = site_of (compiled says) 46 ∷ []

abbrev pub adds_sites : List Site
adds_sites = site_of (compiled adds) 55 ∷ []

pub says_links : Links answerer (main_in (compiled says)) (compiled says) says_sites
unfolding regions_of number_of entry_code call_code return_code component_of frame_of laid_of lay_proc
    before_epilogue put instrs first_data exports_of imports_of variable_named callee_named l10
says_links = record {
  outside = answerer_is;
  its_base = refl;
  its_still = refl;
  fits = limits_kept (part_of says) says_fits (names_differ says says_resolved) (omega arith);
  rules = no_rule (compiled says) true says_checked;
  kept = keeps_flow (part_of says) says_fits;
  links = subst (IsFirstBrokenIn rule_at (rules_l (parts_with answerer (compiled says)) 8)) says_linked
      (first_broken_in rule_at (rules_l (parts_with answerer (compiled says)) 8));
  room = (
      let e : check_from rule_at 1 (map by_part (l10 (parts_with answerer (compiled says)) ∷ [])) ≡ Ok tt =
      refl in
      subst (IsFirstBrokenIn rule_at (l10 (parts_with answerer (compiled says)) ∷ [])) e
      (first_broken_in rule_at (l10 (parts_with answerer (compiled says)) ∷ [])));
  main_is = refl;
  still = refl;
  sites_are = sites_are (compiled says) answerer 46 refl;
  code_base = refl;
  stack_is = refl;
  spans = search (rules, arith);
}

pub adds_links : Links answerer (main_in (compiled adds)) (compiled adds) adds_sites
unfolding regions_of number_of entry_code call_code return_code component_of frame_of laid_of lay_proc
    before_epilogue put instrs first_data exports_of imports_of variable_named callee_named l10
adds_links = record {
  outside = answerer_is;
  its_base = refl;
  its_still = refl;
  fits = limits_kept (part_of adds) adds_fits (names_differ adds adds_resolved) (omega arith);
  rules = no_rule (compiled adds) true adds_checked;
  kept = keeps_flow (part_of adds) adds_fits;
  links = subst (IsFirstBrokenIn rule_at (rules_l (parts_with answerer (compiled adds)) 8)) adds_linked
      (first_broken_in rule_at (rules_l (parts_with answerer (compiled adds)) 8));
  room = (
      let e : check_from rule_at 1 (map by_part (l10 (parts_with answerer (compiled adds)) ∷ [])) ≡ Ok tt =
      refl in
      subst (IsFirstBrokenIn rule_at (l10 (parts_with answerer (compiled adds)) ∷ [])) e
      (first_broken_in rule_at (l10 (parts_with answerer (compiled adds)) ∷ [])));
  main_is = refl;
  still = refl;
  sites_are = sites_are (compiled adds) answerer 55 refl;
  code_base = refl;
  stack_is = refl;
  spans = search (rules, arith);
}

-- ---- the starts

abbrev pub says_start : StartSeen
says_start = start answerer (main_in (compiled says)) (compiled says) says_sites says_links

abbrev pub adds_start : StartSeen
adds_start = start answerer (main_in (compiled adds)) (compiled adds) adds_sites adds_links

pub says_sources : AreSources (says ∷ []) (parts_with answerer (compiled says))
says_sources = record { limits = (says_limits, tt); resolved = (says_resolved, tt); compiled = refl }

pub adds_sources : AreSources (adds ∷ []) (parts_with answerer (compiled adds))
adds_sources = record { limits = (adds_limits, tt); resolved = (adds_resolved, tt); compiled = refl }

abbrev pub says_link : LinkedSources
says_link = record {
  modules = says ∷ [];
  linked = linked_start answerer (main_in (compiled says)) (compiled says) says_sites says_links;
  are_sources = says_sources;
}

abbrev pub adds_link : LinkedSources
adds_link = record {
  modules = adds ∷ [];
  linked = linked_start answerer (main_in (compiled adds)) (compiled adds) adds_sites adds_links;
  are_sources = adds_sources;
}

pub callers_beside : Beside says_link.link adds_link.link
callers_beside =
    beside_of answerer (main_in (compiled says)) (main_in (compiled adds)) (compiled says) (compiled adds)
    says_sites adds_sites says_links adds_links

pub callers_differ : compiled says ≢ compiled adds
unfolding number_of entry_code call_code return_code component_of frame_of laid_of lay_proc before_epilogue
    put
    instrs first_data exports_of imports_of variable_named callee_named
callers_differ e = let n : 95 ≡ 104 = ap (λ (c : ComponentFields). length c.code) e in omega (arith, n)
