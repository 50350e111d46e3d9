use Rattle.std.proofs.Common.{◌+◌, ◌-◌, ◌*◌, subst, arith}
use Rattle.std.proofs.lemmas.Result.{on_ok_weaker}
use Rattle.proc_program.specs.StepView.{block_of}
use Rattle.proc_program.specs.Calls.{procedure_calls}
use Rattle.proc_templates.specs.Items.{Spot}
use Rattle.proc_templates.specs.Templates.{proc_code, proc_words}
use Rattle.proc_compiler.specs.declared.counts.TheConstants.{EPILOGUE_WORDS}
use Rattle.proc_compiler.specs.Drafts.{Emits}
use Rattle.proc_compiler.proofs.Modules.{frame_words, epilogue_at, proc_written}
use Rattle.proc_compiler.proofs.module.proc_in.Goals as goal

pub returns : goal.returns
returns c =
    let m = c.args.m.now in
    let p = c.args.p.now in
    let d = c.args.draft.now in
    let f = c.frame_of-f.result in
    let e = c.frame_of-f.ensures in
    let s : Spot = record {
      stack_base = d.spot.stack_base;
      epilogue = c.at.result + c.size_of_proc.result - (2 * f.words + EPILOGUE_WORDS);
    } in
    let at = c.at.ensures in
    let n = c.size_of_proc.ensures in
    let w = frame_words m p f e in
    let before = epilogue_at m p f.words w in
    on_ok_weaker c.proc_at.result
    (λ h. proc_written m p f s d c.proc_at.new.draft e c.requires.base (omega (arith, at, n, w, before))
    (subst (λ g. Emits (proc_code f p.callbacks (block_of p.body))
    (proc_words f.words p.callbacks (block_of p.body)) (procedure_calls p) g c.proc_at.new.draft)
    c.begin.ensures h))
    c.proc_at.ensures
