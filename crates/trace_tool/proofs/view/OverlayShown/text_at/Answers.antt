use Rattle.std.proofs.Common.{rules, ◌∙◌, ap, sym, Some}
use Rattle.trace_tool.proofs.Shown.{text_there, none_there}
use Rattle.trace_tool.proofs.view.OverlayShown.text_at.Goals as goal

pub returns-in-Some : goal.returns-in-Some
returns-in-Some c =
    text_there c.args.self.now.layout c.args.self.now.state c.args.at c.in-Some.word.now (search rules)
    ∙ ap Some (sym c.flat_text.ensures)

pub returns-in-None : goal.returns-in-None
returns-in-None c = none_there c.args.self.now.layout c.args.self.now.state c.args.at (search rules)
