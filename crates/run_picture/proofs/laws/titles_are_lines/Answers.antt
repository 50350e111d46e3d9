use Rattle.run_picture.proofs.Boxes.{titles_are_lines, titles_are_the_text}
use Rattle.run_picture.proofs.laws.titles_are_lines.Goals as goal

pub returns : goal.returns
returns c = record { lines = titles_are_lines; text = titles_are_the_text }
