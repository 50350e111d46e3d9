use Rattle.std.proofs.Common.{ap, ◌∙◌}
use Rattle.outside_io.specs.Shelf.{NamedFile, Shelved}
use Rattle.outside_io.proofs.Lying.{lie, lie-push, files_of, are_laid}
use Rattle.outside_io.proofs.shelf.Shelf.push.Goals as goal

pub invariant_of-self : goal.invariant_of-self
invariant_of-self c =
    let they = lie _ _ _ c.self.invariant (ap (λ (s : Shelved). s.files) c.self.view_is) in
    let f : NamedFile = (c.args.name.now, c.args.content.now) in
    let lens = c.push_reserved.ensures.items in
    are_laid _ _ _ (lie-push _ _ _ _ _ _ f they lens c.append.ensures.items c.append-2.ensures.items)

pub returns : goal.returns
returns c =
    let they = lie _ _ _ c.self.invariant (ap (λ (s : Shelved). s.files) c.self.view_is) in
    let f : NamedFile = (c.args.name.now, c.args.content.now) in
    let lens = c.push_reserved.ensures.items in
    let now = lie-push _ _ _ _ _ _ f they lens c.append.ensures.items c.append-2.ensures.items in
    let room = c.append-2.ensures.capacity ∙ c.append.ensures.capacity in
    let names = c.push_reserved.ensures.capacity in
    λ i. record {
      files = files_of _ _ _ now i;
      names = (names ∙ ap (λ (s : Shelved). s.names) c.self.view_is) i;
      room = (room ∙ ap (λ (s : Shelved). s.room) c.self.view_is) i;
    }
