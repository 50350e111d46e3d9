use Rattle.std.proofs.Common.{◌≡◌, ◌∙◌, refl, sym, ap, subst, arith, Ok, true, length, ◌∷◌, [], length-append}
use Rattle.std.proofs.lemmas.Result.{err_from_is_err_and}
use Rattle.proc_grammar.specs.Grammar.{one_more, room_in_body}
use Rattle.proc_grammar.specs.Fault.{Fails}
use Rattle.proc_grammar.specs.Lexemes.{a_proc}
use Rattle.proc_grammar.specs.Reading.{full, next_proc}
use Rattle.proc_parse.specs.Loops.{procs_list}
use Rattle.proc_parse.proofs.Steps.{large, some_begin, some_step, some_fault, some_end}
use Rattle.proc_parse.proofs.procs.procs.Goals as goal

pub loop-procs-init : goal.loop-procs-init
loop-procs-init g c =
    let none = c.new-procs.ensures.items in
    let item = next_proc g.L.Language.made true full room_in_body in
    record {
      told = some_begin a_proc one_more item item c.new-procs.result.items (length c.new-procs.result.items) 0
          c.args.tokens.now none (ap length none);
      few = omega (arith, ap length none);
    }

pub returns-in_err-next : goal.returns-in_err-next
unfolding procs_list
returns-in_err-next g c =
    let p = err_from_is_err_and c.from_residual.result c.from_residual.ensures.1 in
    let item = next_proc g.L.Language.made true full room_in_body in
    let fails = subst (λ n. Fails c.in_err-next.field-0.0 (item n c.loop-procs.tokens))
    (c.len.ensures ∙ c.loop-procs.procs.ok.0) c.in_err-next.ensures.exact in
    rw (p.1, p.2) (some_fault a_proc one_more item item c.loop-procs.procs.items
    (length c.loop-procs.procs.items) c.loop-procs.tokens c.in_err-next.field-0.0 _
    c.loop-procs.invariant.told fails)

pub loop-procs-preserved : goal.loop-procs-preserved
loop-procs-preserved g c =
    let len = ap length c.in_ok-push.ensures.items ∙ length-append c.loop-procs.procs.items
    (c.in_ok-next.next ∷ []) in
    let item = next_proc g.L.Language.made true full room_in_body in
    let reads = subst (λ n. item n c.loop-procs.tokens ≡ Ok (c.in_ok-next.next, c.proc.new.tokens))
    (c.len.ensures ∙ c.loop-procs.procs.ok.0) c.in_ok-next.ensures.exact in
    record {
      told = some_step a_proc one_more item item c.loop-procs.procs.items (length c.loop-procs.procs.items)
          c.loop-procs.tokens c.in_ok-next.next c.proc.new.tokens c.proc.new.tokens _ c.push.new.self.items
          (length c.push.new.self.items) c.loop-procs.invariant.told
          (omega (arith, large, c.loop-procs.invariant.few)) reads
          (sym c.starts_proc.ensures ∙ c.if-not-starts_proc.false) (λ u. refl) c.in_ok-push.ensures.items len;
      few = omega (arith, len, c.len.ensures, c.loop-procs.procs.ok.0, c.in_ok-next.ensures.few);
    }

pub returns-then-not-starts_proc : goal.returns-then-not-starts_proc
unfolding procs_list
returns-then-not-starts_proc g c =
    let item = next_proc g.L.Language.made true full room_in_body in
    let reads = subst (λ n. item n c.loop-procs.tokens ≡ Ok (c.in_ok-next.next, c.proc.new.tokens))
    (c.len.ensures ∙ c.loop-procs.procs.ok.0) c.in_ok-next.ensures.exact in
    some_end a_proc one_more item item c.loop-procs.procs.items (length c.loop-procs.procs.items)
    c.loop-procs.tokens c.in_ok-next.next c.proc.new.tokens _ c.push.new.self.items
    c.loop-procs.invariant.told reads (sym c.starts_proc.ensures ∙ c.if-not-starts_proc.true)
    c.in_ok-push.ensures.items
