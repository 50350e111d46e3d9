use Rattle.std.proofs.Common.{◌≡◌, ◌∙◌, ℕ, ◌≤◌, ap, sym, subst, length, map, ◌∷◌}
use Rattle.std.specs.Prelude.{reverse}
use Rattle.cap_words.specs.declared.TheConstants.{LONGEST_STRETCH}
use Rattle.assembler.specs.References.{AreReady, resolved, behind, word_resolved}
use Rattle.assembler.proofs.Resolved.{referring, reversed_twice, last_is_next, word_len, rest_ready}
use Rattle.assembler.proofs.Resolved.{one_resolved, ends, each_has_its_own, others_stay, as_many}
use Rattle.assembler.proofs.references.References.resolve.Goals as goal

pub loop-reference-init : goal.loop-reference-init
loop-reference-init c =
    let all : reverse (map referring c.reverse.new.self.items) ≡ c.args.self =
    ap (λ l. reverse (map referring l)) c.reverse.ensures.items ∙ reversed_twice c.self.inside.list.items
    ∙ c.self.view_is in
    record {
      few = c.requires.few;
      low = 0;
      ready = subst (AreReady 0 c.args.code.now.items) (sym all) c.requires.ready;
      so_far = ap (λ l. resolved c.args.labels.now l c.args.code.now.items) all;
    }

pub loop-reference-preserved : goal.loop-reference-preserved
loop-reference-preserved c =
    let code = c.loop-reference.code.items in
    let r = referring c.in-Some.reference in
    let rest = reverse (map referring c.pop.new.self.items) in
    let kept = c.loop-reference.invariant in
    let offset = c.in-Some-offset_of.offset in
    let all : reverse (map referring c.loop-reference.list.items) ≡ r ∷ rest =
    last_is_next c.loop-reference.list.items c.pop.new.self.items c.in-Some.reference c.in-Some.ensures.items
    in
    let made : c.resolve.new.code.items ≡ word_resolved r.word r.section offset code = c.resolve.ensures in
    record {
      few = let L : ℕ → Type 0 =
          λ n. n ≤ LONGEST_STRETCH
          in subst L (sym (ap length made ∙ word_len r.word r.section offset code)) kept.few;
      low = behind kept.low r.word;
      ready = subst (λ l. AreReady (behind kept.low r.word) l rest) (sym made)
          (rest_ready kept.low code r rest offset (subst (AreReady kept.low code) all kept.ready));
      so_far = ap (resolved c.args.labels.now rest) made
          ∙ one_resolved c.args.labels.now r rest code offset c.in-Some-offset_of.ensures.is
          ∙ ap (λ l. resolved c.args.labels.now l code) (sym all) ∙ kept.so_far;
    }

pub returns-clause-own : goal.returns-clause-own
returns-clause-own c =
    each_has_its_own c.args.labels.now 0 c.args.self c.args.code.now.items c.loop-reference.code.items
    c.requires.ready
    (sym c.loop-reference.invariant.so_far
    ∙ ends c.args.labels.now c.loop-reference.list.items c.loop-reference.code.items
    (sym c.loop-reference.list.ok.0 ∙ c.in_default.ensures.cases.0))

pub returns-clause-others : goal.returns-clause-others
returns-clause-others c =
    others_stay c.args.labels.now c.args.self c.args.code.now.items c.loop-reference.code.items
    (sym c.loop-reference.invariant.so_far
    ∙ ends c.args.labels.now c.loop-reference.list.items c.loop-reference.code.items
    (sym c.loop-reference.list.ok.0 ∙ c.in_default.ensures.cases.0))

pub returns-clause-as_many : goal.returns-clause-as_many
returns-clause-as_many c =
    as_many c.args.labels.now c.args.self c.args.code.now.items c.loop-reference.code.items
    (sym c.loop-reference.invariant.so_far
    ∙ ends c.args.labels.now c.loop-reference.list.items c.loop-reference.code.items
    (sym c.loop-reference.list.ok.0 ∙ c.in_default.ensures.cases.0))
