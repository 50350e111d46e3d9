-- A loop over statements writes one after the other.
use Rattle.std.proofs.Common.{◌≡◌, ◌+◌, List, [], ◌∷◌, length, sym, ap, ◌∙◌, arith}
use Rattle.proc_program.specs.Program.{Statement}
use Rattle.proc_program.specs.StepView.{block_of}
use Rattle.proc_program.specs.Calls.{block_calls}
use Rattle.proc_templates.specs.declared.FrameShape.{FrameShape}
use Rattle.proc_templates.specs.Templates.{block_words, step_code, block_code}
use Rattle.proc_compiler.specs.Drafts.{Drafted, with_items, EmitsStep, EmitsBlock}
use Rattle.proc_compiler.proofs.Written.{items_append, items_nil}

-- with the rest of all statements the same is written
pub record Left (f : FrameShape) (rest all : List Statement) (start d : Drafted) : Type 0 where
  pub told : with_items (block_code f (block_of rest)) d ≡ with_items (block_code f (block_of all)) start
  pub grown : length d.laid.code + block_words (block_of rest)
      ≡ length start.laid.code + block_words (block_of all)
  pub sited : length d.laid.sites + block_calls (block_of rest)
      ≡ length start.laid.sites + block_calls (block_of all)
  pub kept : d.seals ≡ start.seals

pub one_more : {f : FrameShape} {s : Statement} {rest all : List Statement} {start d e : Drafted}
    → Left f (s ∷ rest) all start d → EmitsStep f s d e → Left f rest all start e
one_more {f = f} {s = s} {rest = rest} {d = d} left one =
    let g = left.grown in
    let h = left.sited in
    let m = one.grown in
    let n = one.sited in
    record {
      told = ap (with_items (block_code f (block_of rest))) one.written
          ∙ sym (items_append (step_code f s) (block_code f (block_of rest)) d) ∙ left.told;
      grown = omega (arith, g, m);
      sited = omega (arith, h, n);
      kept = one.kept ∙ left.kept;
    }

pub none_left : {f : FrameShape} {all : List Statement} {start d : Drafted} → Left f [] all start d
    → EmitsBlock f (block_of all) start d
none_left {d = d} left =
    let g = left.grown in
    let h = left.sited in
    record {
      written = sym (items_nil d) ∙ left.told;
      grown = omega (arith, g);
      sited = omega (arith, h);
      kept = left.kept;
    }
