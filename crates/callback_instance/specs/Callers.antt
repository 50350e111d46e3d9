-- Two modules that have main themselves: it calls out, and halts with what is answered.
use Rattle.std.specs.Prelude.{◌≡◌, ◌≢◌, ℕ, pos, true, [], ◌∷◌, map}
use Rattle.run_lines.specs.Cuts.{is_inside}
use Rattle.run_lines.specs.Layout.{layout}
use Rattle.proc_language.specs.declared.tree.Op.TheVariants.{Plus}
use Rattle.proc_language.specs.declared.module.ModuleFields.{ModuleFields}
use Rattle.proc_language.specs.Tree.{Expr, number, op, call, value, no_args, halt}
use Rattle.proc_language.specs.Limits.{IsModule}
use Rattle.proc_names.specs.NameFaults.{name_faults}
use Rattle.proc_program.specs.Lower.{part_of}
use Rattle.proc_templates.specs.Compiled.{compiled}
use Rattle.template_runs.specs.Border.{Opened}
use Rattle.same_meanings.specs.Observed.{by_number, MeanTheSame}
use Rattle.source_starts.specs.Links.{overlay_link, first_state}
use Rattle.lockstep.specs.Related.{Calls}
use Rattle.lockstep.specs.Lockstep.{Round, SameCrossing}
use Rattle.context_laws.specs.Sources.{NamesOf, IsFirstRound}
use Rattle.context_laws.specs.Meanings.{GoByNames, GoesInStep}
use Rattle.context_instance.specs.Doubles.{named, g, exporting, module_t, LinksBeside}
use Rattle.callback_instance.specs.CalledBack.{CallsWith}

-- module t; import u.g/1; export proc main() { halt g(e); }
abbrev pub caller : Expr → ModuleFields
caller e =
    module_t 1 (record { at = 0; part = named 117; name = g; arity = 1 } ∷ []) []
    (exporting (record { text = 109 ∷ 97 ∷ 105 ∷ 110 ∷ []; at = 0 }) []
    (halt 0 (call 0 g (value e no_args)) ∷ []))

-- with 6, and with 3 + 3
abbrev pub says : ModuleFields
says = caller (number 0 6)

abbrev pub adds : ModuleFields
adds = caller (op 0 Plus (number 0 3) (number 0 3))

-- Both are modules whose names are resolved; their components differ, and they mean the same. There are
-- links of both beside each other, in which main is theirs. In the one, trusted code lets go for the first
-- time by a call with 6; so in the other it lets go too, with the same shown, and from there on code
-- outside does the same.
pub record CallersLetGo : Type 0 where
  pub limits : IsModule says × IsModule adds
  pub resolved : (name_faults says ≡ []) × (name_faults adds ≡ [])
  pub differ : compiled says ≢ compiled adds
  pub same : (size : ℕ) → MeanTheSame by_number (map part_of (says ∷ [])) (map part_of (adds ∷ [])) size
  pub there : LinksBeside says adds
  pub inside : is_inside (layout there.sources.start) (first_state there.sources.link) ≡ true
  pub inside_too : is_inside (layout there.sources_too.start) (first_state there.sources_too.link) ≡ true
  pub first : Round
  pub lets_go : IsFirstRound there.sources.start first
  pub pair : Opened
  pub calls : CallsWith (layout there.sources.start) pair (pos 6) first
  pub names : NamesOf there.sources.link there.sources_too.link
  pub by_names : GoByNames by_number names
  pub first_too : Round
  pub lets_go_too : IsFirstRound there.sources_too.start first_too
  pub in_both : Calls
  pub shows : SameCrossing (overlay_link there.sources.link) (overlay_link there.sources_too.link) names []
      first first_too in_both
  pub on : GoesInStep by_number names in_both first.after first_too.after
