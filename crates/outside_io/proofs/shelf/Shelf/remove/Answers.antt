use Rattle.std.proofs.Common.{ap, sym, ◌∙◌}
use Rattle.outside_io.specs.Shelf.{Shelved, LiesAt}
use Rattle.outside_io.proofs.Lying.{lie, lie-cut, files_of, are_laid}
use Rattle.outside_io.proofs.Named.{without-there, without-none}
use Rattle.outside_io.proofs.shelf.Shelf.remove.Goals as goal

pub invariant_of-self : goal.invariant_of-self
invariant_of-self c =
    let there : LiesAt c.args.name.now c.args.self.now.files c.in-Some.place = c.in-Some.ensures in
    let they = lie _ _ _ c.self.invariant (ap (λ (s : Shelved). s.files) c.self.view_is) in
    let bytes = c.drop-drain.ensures.items ∙ c.drain.ensures.kept in
    are_laid _ _ _ (lie-cut _ _ _ _ _ _ _ they there c.remove.ensures.items bytes)

pub returns-in-Some : goal.returns-in-Some
returns-in-Some c =
    let there : LiesAt c.args.name.now c.args.self.now.files c.in-Some.place = c.in-Some.ensures in
    let they = lie _ _ _ c.self.invariant (ap (λ (s : Shelved). s.files) c.self.view_is) in
    let bytes = c.drop-drain.ensures.items ∙ c.drain.ensures.kept in
    let now = lie-cut _ _ _ _ _ _ _ they there c.remove.ensures.items bytes in
    let room = c.drop-drain.ensures.capacity ∙ c.drain.ensures.capacity in
    λ i. record {
      files = (files_of _ _ _ now ∙ without-there _ _ _ there) i;
      names = (c.remove.ensures.capacity ∙ ap (λ (s : Shelved). s.names) c.self.view_is) i;
      room = (room ∙ ap (λ (s : Shelved). s.room) c.self.view_is) i;
    }

pub returns-in_default : goal.returns-in_default
returns-in_default c =
    let same = without-none c.args.name.now c.args.self.now.files c.in_default.ensures in
    ap (λ fs. record c.args.self.now { files = fs }) (sym same)
