use Rattle.std.proofs.Common.{arith, rules, sym, ap, ◌∙◌, ◌≡◌, ◌<◌, ◌∷◌, [], ◌++◌, length, length-append, inr}
use Rattle.std.proofs.lemmas.List.Elements.{All-nil, All-push}
use Rattle.std.proofs.lemmas.List.{nil_from_length}
use Rattle.debug_script.specs.Commands.{Fits}
use Rattle.debug_script.proofs.CommandLemmas.{command_is}
use Rattle.debug_script.proofs.ScriptLemmas.{command_fits, begins, bad_line, good_line, ends, bad_end}
use Rattle.debug_script.proofs.script.script_of.Goals as goal

pub loop-line-init : goal.loop-line-init
loop-line-init c =
    let none = c.new-commands.ensures.items in
    record {
      number = omega (arith, ap length none);
      few = omega (arith, ap length none);
      fit = rw none (All-nil Fits);
      so_far = begins c.new-commands.result.items c.args.text.now none;
    }

pub returns-in_default-command_at-clause-fails : goal.returns-in_default-command_at-clause-fails
returns-in_default-command_at-clause-fails c =
    inr (sym c.loop-line.invariant.so_far
    ∙ bad_line c.loop-line.commands.items c.loop-line.number c.loop-line.rest.now c.in-Some.line.now
    c.in-Some.behind.now c.in-Some.ensures.exact c.in_default-command_at.ensures)

pub loop-line-preserved : goal.loop-line-preserved
loop-line-preserved c =
    let items = c.loop-line.commands.items in
    let command = c.in-Some-command_at.command in
    let at = command_fits c.loop-line.number c.in-Some.line.now command (sym c.in-Some-command_at.ensures) in
    let is = command_is c.in-Some.line.now command at.1 in
    let grown : c.push.new.self.items ≡ items ++ command ∷ [] = c.in_ok-push.ensures.items in
    let long = length-append items (command ∷ []) in
    record {
      number = omega (arith, ap length grown, long, c.loop-line.invariant.number);
      few = omega (arith, ap length grown, long, c.loop-line.invariant.number, at.0);
      fit = rw grown (All-push Fits items command c.loop-line.invariant.fit is.0);
      so_far =
          good_line items c.loop-line.number c.loop-line.rest.now c.push.new.self.items c.in-Some.line.now
          c.in-Some.behind.now command c.in-Some.ensures.exact c.in-Some-command_at.ensures grown
          ∙ c.loop-line.invariant.so_far;
    }

pub returns-then-is_empty-clause-read : goal.returns-then-is_empty-clause-read
returns-then-is_empty-clause-read c =
    sym c.loop-line.invariant.so_far
    ∙ ends c.loop-line.commands.items c.loop-line.number c.loop-line.rest.now c.in_default.ensures.exact
    (nil_from_length c.loop-line.rest.now (search rules))

pub returns-else-is_empty-clause-fails : goal.returns-else-is_empty-clause-fails
returns-else-is_empty-clause-fails c =
    let some : 0 < length c.loop-line.rest.now = search rules in
    inr (sym c.loop-line.invariant.so_far
    ∙ bad_end c.loop-line.commands.items c.loop-line.number c.loop-line.rest.now c.in_default.ensures.exact
    some)
