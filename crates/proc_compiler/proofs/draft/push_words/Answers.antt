use Rattle.std.proofs.Common.{rules, ◌≡◌, ◌++◌, map, sym, ap, ◌∙◌, w64, to_z, of_z}
use Rattle.std.proofs.lemmas.List.{append-nil, take_all}
use Rattle.cap_words.specs.declared.Word.TheVariants.{Int}
use Rattle.proc_templates.specs.Items.{word_of}
use Rattle.proc_compiler.proofs.Pushes.{pushed_more}
use Rattle.proc_compiler.proofs.draft.push_words.Goals as goal

pub loop-instr-init : goal.loop-instr-init
loop-instr-init c = sym (append-nil c.args.code.now.items)

pub loop-instr-preserved : goal.loop-instr-preserved
loop-instr-preserved c =
    let z : to_z w64 (of_z w64 c.encode.result) ≡ c.encode.result = search rules in
    pushed_more word_of c.args.instrs.now c.loop-instr.instr-index _ c.args.code.now.items _ _ _
    c.loop-instr-test.true (ap Int (z ∙ c.encode.ensures)) c.loop-instr.invariant c.in_ok-push.ensures.items

pub returns : goal.returns
returns c =
    c.loop-instr.invariant
    ∙ ap (λ is. c.args.code.now.items ++ map word_of is)
    (take_all _ c.args.instrs.now c.loop-instr-test.false)
