use Rattle.std.proofs.Common.{◌∙◌, sym, ap, arith, true, length, [], ◌∷◌, length-append, subst}
use Rattle.std.proofs.lemmas.Result.{err_from_is_err_and}
use Rattle.proc_language.specs.declared.TheConstants.{MOST_LOCALS}
use Rattle.proc_grammar.specs.Grammar.{behind_local}
use Rattle.proc_grammar.specs.Lexemes.{a_local}
use Rattle.proc_grammar.specs.Reading.{full, next_local}
use Rattle.proc_parse.specs.Answers.{AreFew}
use Rattle.proc_parse.proofs.Steps.{stored_few, all_begin, all_step, all_fault, all_end}
use Rattle.proc_parse.proofs.procs.locals.Goals as goal

pub loop-alloc-init : goal.loop-alloc-init
loop-alloc-init g c = record {
  told = all_begin (a_local g.L.Language.made.tokens) (behind_local g.L.Language.made)
      (next_local g.L.Language.made true full) full (record { slots = 0; tokens = c.args.held })
      c.args.tokens.now c.new-locals.result.items c.new-locals.ensures.items;
  few = (omega arith, c.requires);
}

pub returns-in_err-next : goal.returns-in_err-next
returns-in_err-next g c =
    let p = err_from_is_err_and c.from_residual.result c.from_residual.ensures.1 in
    rw (p.1, p.2) (all_fault (a_local g.L.Language.made.tokens) (behind_local g.L.Language.made)
    (next_local g.L.Language.made true full) full c.loop-alloc.locals.items
    c.loop-alloc.used c.loop-alloc.tokens c.in_err-next.field-0.0 _ c.loop-alloc.invariant.told
    (stored_few c.loop-alloc.locals.ok c.loop-alloc.locals.small)
    (sym c.starts_local.ensures ∙ c.loop-alloc-test.true) c.in_err-next.ensures.exact)

pub loop-alloc-smaller : goal.loop-alloc-smaller
loop-alloc-smaller g c =
    let len = ap length c.in_ok-push.ensures.items ∙ length-append c.loop-alloc.locals.items
    (c.in_ok-next.next ∷ []) in
    let few = stored_few c.loop-alloc.locals.ok c.loop-alloc.locals.small in
    omega (arith, len, few)

pub loop-alloc-preserved : goal.loop-alloc-preserved
loop-alloc-preserved g c =
    let takes = c.behind_local-used.ensures in
    record {
      told = all_step (a_local g.L.Language.made.tokens) (behind_local g.L.Language.made)
          (next_local g.L.Language.made true full) full
          c.loop-alloc.locals.items c.loop-alloc.used c.loop-alloc.tokens c.in_ok-next.next
          c.local.new.tokens _ c.push.new.self.items _ c.loop-alloc.invariant.told
          (stored_few c.loop-alloc.locals.ok c.loop-alloc.locals.small)
          (sym c.starts_local.ensures ∙ c.loop-alloc-test.true) c.in_ok-next.ensures.exact
          c.in_ok-push.ensures.items takes;
      few = subst (AreFew MOST_LOCALS) (sym takes) c.in_ok-next.ensures.few;
    }

pub returns : goal.returns
returns g c = all_end (a_local g.L.Language.made.tokens) (behind_local g.L.Language.made)
    (next_local g.L.Language.made true full) full
    c.loop-alloc.locals.items c.loop-alloc.used c.loop-alloc.tokens _ c.loop-alloc.invariant.told
    (sym c.starts_local.ensures ∙ c.loop-alloc-test.false)
