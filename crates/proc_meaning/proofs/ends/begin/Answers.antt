use Rattle.std.proofs.Common.{◌≡◌, ◌+◌, ℕ, List, Option, Some, sym, ap, ap₂, ◌∙◌, reverse}
use Rattle.std.specs.Option.{option_copied}
use Rattle.proc_program.specs.declared.program.Procedure.{Procedure}
use Rattle.proc_program.specs.StepView.{block_of}
use Rattle.proc_semantics.specs.declared.value.Target.{Target}
use Rattle.proc_semantics.specs.declared.value.Register.{Register}
use Rattle.proc_meaning.specs.declared.places.Run.{Run}
use Rattle.proc_meaning.specs.declared.work.Now.TheVariants as now
use Rattle.proc_meaning.specs.declared.work.Work.TheVariants.{Ends, Rest}
use Rattle.proc_semantics.specs.Told.{ticks}
use Rattle.proc_semantics.specs.Values.{World, Store, proc_at}
use Rattle.proc_semantics.specs.Meaning.{Then, Next, block, begin, proc_of}
use Rattle.proc_semantics.specs.Whole.{whole}
use Rattle.proc_meaning.specs.Rest.{after, back, ended, begins}
use Rattle.proc_meaning.proofs.Works.{pushed, kept, reversed, as_many_as}
use Rattle.proc_meaning.proofs.Endings.{after_ends, back_ends}
use Rattle.proc_semantics.proofs.Offers.{recursive}
use Rattle.proc_meaning.proofs.ends.begin.Goals as goal

begun : (world : World) (t : Target) (left : Option ℕ) (rs : List Register) (k : Then) (st : Store)
    (p : Procedure) (run o : Option Run) → proc_at world t ≡ Some p
    → begin world (whole world) t.home p left rs k st ≡ begins world p run k st → run ≡ o
    → (whole world).proc t left rs k st ≡ ticks (1 + p.need) (begins world p o k st)
begun world t left rs k st p run o at same is =
    (recursive world).procs t left rs k st
    ∙ ap (λ q. proc_of world (whole world) t.home q left rs k st) at
    ∙ ap (ticks (1 + p.need)) (same ∙ ap (λ o. begins world p o k st) is)

pub returns-in_default-clause-same : goal.returns-in_default-clause-same
returns-in_default-clause-same c st =
    let world = c.args.world.now in let t = c.args.target in let left = c.args.left in
    let rs = c.args.registers.now in
    let k = ended world c.args.whence (reverse c.args.work.now.items) in
    (recursive world).procs t left rs k st
    ∙ ap (λ p. proc_of world (whole world) t.home p left rs k st)
    (sym c.proc_at.ensures ∙ ap option_copied c.in_default.is)

pub returns-in_default-2-clause-same : goal.returns-in_default-2-clause-same
returns-in_default-2-clause-same c st =
    let world = c.args.world.now in let t = c.args.target in let left = c.args.left in
    let rs = c.args.registers.now in
    let k = ended world c.args.whence (reverse c.args.work.now.items) in let p = c.in-Some.proc.now in
    begun world t left rs k st p _ _ (sym c.proc_at.ensures ∙ ap option_copied c.in-Some.is)
    (c.in_ok-begun.ensures world k st) c.in_default-2.is
    ∙ as_many_as p.need c.sum-ticks.result _ c.sum-ticks.ensures
    ∙ ap (ticks c.sum-ticks.result) (sym (kept world now.Fail c.put.new.work.items c.args.run.now st))

pub returns-clause-same : goal.returns-clause-same
returns-clause-same c st =
    let world = c.args.world.now in let t = c.args.target in let left = c.args.left in
    let rs = c.args.registers.now in let w = c.args.whence in
    let items = c.args.work.now.items in let ws = reverse items in
    let k = ended world w ws in let p = c.in-Some.proc.now in let n = c.sum-ticks.result in
    let r = c.in-Some-2.begun in let f = r.frame in let env = r.env.items in
    let one = c.put.new.work.items in
    begun world t left rs k st p _ _ (sym c.proc_at.ensures ∙ ap option_copied c.in-Some.is)
    (c.in_ok-begun.ensures world k st) c.in-Some-2.is
    ∙ as_many_as p.need n _ c.sum-ticks.ensures
    ∙ ap (ticks n)
    (ap₂ (λ bk (af : Next). block world (whole world) f (block_of p.body) bk af env st)
    (λ i v st. sym (back_ends world w ws f v st) i)
    (λ i env st. sym (after_ends world w ws f env st) i)
    ∙ ap (λ l. block world (whole world) f (block_of p.body) (back world l f) (after world l f) env st)
    (sym (reversed items one (Ends w) c.in_ok-put.ensures))
    ∙ ap (λ b. block world (whole world) f (block_of b) (back world (reverse one) f)
    (after world (reverse one) f) env st) (sym c.as_slice.ensures)
    ∙ sym (pushed world now.Next one c.put-2.new.work.items (Rest c.as_slice.result) r st
    c.in_ok-put-2.ensures))
