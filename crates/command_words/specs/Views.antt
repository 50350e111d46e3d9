-- The words as the code takes them apart.
use Rattle.command_words.specs.declared.line.Taken.{Taken as TakenCode}
use Rattle.command_words.specs.Texts.{text_of, all_texts}
use Rattle.command_words.specs.Line.{Taken}

abbrev pub taken_in : TakenCode → Taken
taken_in t = record {
  action = text_of t.action;
  parts = all_texts t.parts;
  stack = text_of t.stack;
  steps = text_of t.steps;
  out = text_of t.out;
  feed = text_of t.feed;
  seed = text_of t.seed;
}
