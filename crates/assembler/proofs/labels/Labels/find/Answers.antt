use Rattle.std.proofs.Common.{◌∙◌, ap, sym, subst, Option, ◌<◌}
use Rattle.std.specs.Prelude.{IfSome}
use Rattle.cap_words.specs.declared.TheConstants.{LONGEST_STRETCH}
use Rattle.assembler.specs.declared.labels.Label.{Label}
use Rattle.assembler.specs.Labels.{label_of}
use Rattle.assembler.proofs.LabelTables.{seen, found, within}
use Rattle.assembler.proofs.labels.Labels.find.Goals as goal

pub returns-clause-is : goal.returns-clause-is
returns-clause-is c = c.copied.ensures ∙ c.get.ensures.value
    ∙ found c.args.name.now c.self.inside.table.entries ∙ ap (label_of c.args.name.now) c.self.view_is

pub returns-clause-within : goal.returns-clause-within
returns-clause-within c =
    let old = c.self.inside.table.entries in
    let P : Option Label → Type 0 = λ o. IfSome o (λ l. l.offset < LONGEST_STRETCH) in
    subst P (sym (c.copied.ensures ∙ c.get.ensures.value ∙ found c.args.name.now old))
    (within c.args.name.now (seen old) c.self.invariant)
