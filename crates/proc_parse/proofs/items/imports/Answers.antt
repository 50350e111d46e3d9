use Rattle.std.proofs.Common.{◌≡◌, ◌∙◌, sym, ap, subst, arith, Ok, true, length, ◌∷◌, [], length-append}
use Rattle.std.specs.Prelude.{codes}
use Rattle.std.proofs.lemmas.Result.{err_from_is_err_and}
use Rattle.proc_grammar.specs.Fault.{Fails}
use Rattle.proc_grammar.specs.Grammar.{one_more}
use Rattle.proc_grammar.specs.Lexemes.{word, words_of}
use Rattle.proc_grammar.specs.Reading.{full, next_import}
use Rattle.proc_parse.specs.Loops.{in_all}
use Rattle.proc_parse.proofs.Steps.{large, all_begin, all_step, all_fault, all_end}
use Rattle.proc_parse.proofs.items.imports.Goals as goal

pub loop-alloc-init : goal.loop-alloc-init
loop-alloc-init g c =
    let none = c.new-imports.ensures.items in
    let items = next_import (words_of g.L.Language.made.tokens) true in
    record {
      told = ap (λ n. in_all (word (codes "import")) one_more items full c.new-imports.result.items n
          c.args.tokens.now) (ap length none)
          ∙ all_begin (word (codes "import")) one_more items full 0 c.args.tokens.now
          c.new-imports.result.items none;
      few = omega (arith, ap length none);
    }

pub returns-in_err-next : goal.returns-in_err-next
returns-in_err-next g c =
    let p = err_from_is_err_and c.from_residual.result c.from_residual.ensures.1 in
    let items = next_import (words_of g.L.Language.made.tokens) true in
    let fails = subst (λ n. Fails c.in_err-next.field-0.0 (items n c.loop-alloc.tokens))
    (c.len.ensures ∙ c.loop-alloc.imports.ok.0) c.in_err-next.ensures.exact in
    rw (p.1, p.2) (all_fault (word (codes "import")) one_more items full c.loop-alloc.imports.items
    (length c.loop-alloc.imports.items) c.loop-alloc.tokens c.in_err-next.field-0.0 _
    c.loop-alloc.invariant.told (omega (arith, large, c.loop-alloc.invariant.few))
    (sym c.is_word.ensures ∙ c.loop-alloc-test.true) fails)

pub loop-alloc-preserved : goal.loop-alloc-preserved
loop-alloc-preserved g c =
    let len = ap length c.in_ok-push.ensures.items ∙ length-append c.loop-alloc.imports.items
    (c.in_ok-next.next ∷ []) in
    let items = next_import (words_of g.L.Language.made.tokens) true in
    let reads = subst (λ n. items n c.loop-alloc.tokens ≡ Ok
    (c.in_ok-next.next, c.import.new.tokens)) (c.len.ensures ∙ c.loop-alloc.imports.ok.0)
    c.in_ok-next.ensures.exact in
    record {
      told = all_step (word (codes "import")) one_more items full c.loop-alloc.imports.items
          (length c.loop-alloc.imports.items) c.loop-alloc.tokens c.in_ok-next.next c.import.new.tokens _
          c.push.new.self.items _ c.loop-alloc.invariant.told
          (omega (arith, large, c.loop-alloc.invariant.few))
          (sym c.is_word.ensures ∙ c.loop-alloc-test.true) reads c.in_ok-push.ensures.items len;
      few = omega (arith, len, c.len.ensures, c.loop-alloc.imports.ok.0, c.in_ok-next.ensures.few);
    }

pub returns : goal.returns
returns g c = all_end (word (codes "import")) one_more (next_import
    (words_of g.L.Language.made.tokens) true) full
    c.loop-alloc.imports.items (length c.loop-alloc.imports.items) c.loop-alloc.tokens _
    c.loop-alloc.invariant.told (sym c.is_word.ensures ∙ c.loop-alloc-test.false)
