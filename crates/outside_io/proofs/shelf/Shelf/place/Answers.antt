use Rattle.std.proofs.Common.{rules, arith, ap, sym, ◌∙◌}
use Rattle.std.proofs.lemmas.Bool.{false≢true}
use Rattle.outside_io.specs.Shelf.{Shelved}
use Rattle.outside_io.proofs.Lying.{lie, middle_at, is_named, lies_here, passed_here, start_next}
use Rattle.outside_io.proofs.shelf.Shelf.place.Goals as goal

pub overflow_add-middle : goal.overflow_add-middle
overflow_add-middle c =
    let they = lie _ _ _ c.self.invariant (ap (λ (s : Shelved). s.files) c.self.view_is) in
    let lens = c.deref-len-items.ensures.value in
    let there = middle_at _ _ _ _ _ _ they lens c.loop-index-test.true c.loop-index.invariant.start in
    let within = there.within in
    omega arith

pub overflow_add-stop : goal.overflow_add-stop
overflow_add-stop c =
    let they = lie _ _ _ c.self.invariant (ap (λ (s : Shelved). s.files) c.self.view_is) in
    let lens = c.deref-len-items.ensures.value in
    let there = middle_at _ _ _ _ _ _ they lens c.loop-index-test.true c.loop-index.invariant.start in
    let within = there.within in
    omega arith

pub slice_bounds-eq-end : goal.slice_bounds-eq-end
slice_bounds-eq-end c =
    let they = lie _ _ _ c.self.invariant (ap (λ (s : Shelved). s.files) c.self.view_is) in
    let lens = c.deref-len-items.ensures.value in
    let there = middle_at _ _ _ _ _ _ they lens c.loop-index-test.true c.loop-index.invariant.start in
    let within = there.within in
    search rules

pub returns-then-eq : goal.returns-then-eq
returns-then-eq c =
    let they = lie _ _ _ c.self.invariant (ap (λ (s : Shelved). s.files) c.self.view_is) in
    let lens = c.deref-len-items.ensures.value in
    let so_far = c.loop-index.invariant in
    let there = middle_at _ _ _ _ _ _ they lens c.loop-index-test.true so_far.start in
    let named = is_named _ _ _ _ _ _ _ _ c.eq.ensures c.deref.ensures.value there in
    lies_here _ _ _ _ _ _ so_far.start so_far.passed there (named.0 c.if-eq.true)

pub loop-index-preserved : goal.loop-index-preserved
loop-index-preserved c =
    let they = lie _ _ _ c.self.invariant (ap (λ (s : Shelved). s.files) c.self.view_is) in
    let lens = c.deref-len-items.ensures.value in
    let so_far = c.loop-index.invariant in
    let there = middle_at _ _ _ _ _ _ they lens c.loop-index-test.true so_far.start in
    let named = is_named _ _ _ _ _ _ _ _ c.eq.ensures c.deref.ensures.value there in
    record {
      start = start_next _ _ _ _ _ so_far.start there;
      passed = passed_here _ _ _ _ _ _ so_far.passed there
          (λ same. false≢true (sym c.if-eq.false ∙ named.1 same));
    }
