use Rattle.std.proofs.Common.{◌∙◌, ◌++◌, ◌∷◌, [], ap, sym, subst}
use Rattle.assembler.specs.Labels.{label_of, AreWithin}
use Rattle.assembler.proofs.LabelTables.{seen, added, one_more, kept}
use Rattle.assembler.proofs.labels.Labels.add.Goals as goal

pub returns-clause-ok : goal.returns-clause-ok
returns-clause-ok c =
    ap seen c.in_ok-insert.ensures.entries
    ∙ added c.args.name c.args.label c.self.inside.table.entries
    (ap (label_of c.args.name.now) c.self.view_is ∙ c.requires.new)
    ∙ ap (λ l. l ++ (c.args.name.now, c.args.label) ∷ []) c.self.view_is

pub invariant_of-self-2 : goal.invariant_of-self-2
invariant_of-self-2 c =
    let old = c.self.inside.table.entries in
    let joined =
    added c.args.name c.args.label old (ap (label_of c.args.name.now) c.self.view_is ∙ c.requires.new) in
    kept c.insert.result old c.insert.new.self.entries _ c.insert.ensures.entries c.insert.ensures.err
    (subst AreWithin (sym joined)
    (one_more c.args.name.now c.args.label (seen old) c.self.invariant c.requires.within))
    c.self.invariant
