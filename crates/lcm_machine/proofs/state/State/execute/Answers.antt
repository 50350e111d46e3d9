use Rattle.std.proofs.Common.{rules}
use Rattle.lcm_machine.specs.Row.{row, plan_in}
use Rattle.lcm_machine.proofs.RowsMet.{planned_can, planned_meets}
use Rattle.lcm_machine.proofs.state.State.execute.Goals as goal

pub returns-in-Fail : goal.returns-in-Fail
unfolding row plan_in
returns-in-Fail g c = search rules

pub returns-in-Halt : goal.returns-in-Halt
unfolding row plan_in
returns-in-Halt g c = search rules

pub returns-in-Jmp : goal.returns-in-Jmp
unfolding row plan_in
returns-in-Jmp g c = search rules

pub returns-in-Gettype : goal.returns-in-Gettype
returns-in-Gettype g c = rw c.in-Gettype.is c.show.ensures

pub returns-in-Geta : goal.returns-in-Geta
returns-in-Geta g c = rw c.in-Geta.is c.show-in-Geta.ensures

pub returns-in-Getb : goal.returns-in-Getb
returns-in-Getb g c = rw c.in-Getb.is c.show-in-Getb.ensures

pub returns-in-Gete : goal.returns-in-Gete
returns-in-Gete g c = rw c.in-Gete.is c.show-in-Gete.ensures

pub returns-in-Getp : goal.returns-in-Getp
returns-in-Getp g c = rw c.in-Getp.is c.show-in-Getp.ensures

pub returns-in-Getlin : goal.returns-in-Getlin
returns-in-Getlin g c = rw c.in-Getlin.is c.show-in-Getlin.ensures

pub carry_out-requires-in-Move : goal.carry_out-requires-in-Move
carry_out-requires-in-Move g c = (
  search rules,
  planned_can g.W.MachineWord.look g.W.MachineWord.plain c.args.self.now _ _ _
      c.requires c.plan_move.ensures,
)

pub returns-in-Move : goal.returns-in-Move
returns-in-Move g c =
    planned_meets g.W.MachineWord.look g.W.MachineWord.plain c.args.self.now _ _ _ _ _ _ c.in-Move.is
    c.plan_move.ensures c.carry_out-in-Move.ensures

pub carry_out-requires-in-Jnz : goal.carry_out-requires-in-Jnz
carry_out-requires-in-Jnz g c = (
  search rules,
  planned_can g.W.MachineWord.look g.W.MachineWord.plain c.args.self.now _ _ _
      c.requires c.plan_jnz.ensures,
)

pub returns-in-Jnz : goal.returns-in-Jnz
returns-in-Jnz g c =
    planned_meets g.W.MachineWord.look g.W.MachineWord.plain c.args.self.now _ _ _ _ _ _ c.in-Jnz.is
    c.plan_jnz.ensures c.carry_out-in-Jnz.ensures

pub carry_out-requires-in-Split : goal.carry_out-requires-in-Split
carry_out-requires-in-Split g c = (
  search rules,
  planned_can g.W.MachineWord.look g.W.MachineWord.plain c.args.self.now _ _ _
      c.requires c.plan_split.ensures,
)

pub returns-in-Split : goal.returns-in-Split
returns-in-Split g c =
    planned_meets g.W.MachineWord.look g.W.MachineWord.plain c.args.self.now _ _ _ _ _ _ c.in-Split.is
    c.plan_split.ensures c.carry_out-in-Split.ensures

pub carry_out-requires-in-Splice : goal.carry_out-requires-in-Splice
carry_out-requires-in-Splice g c = (
  search rules,
  planned_can g.W.MachineWord.look g.W.MachineWord.plain c.args.self.now _ _ _
      c.requires c.plan_splice.ensures,
)

pub returns-in-Splice : goal.returns-in-Splice
returns-in-Splice g c =
    planned_meets g.W.MachineWord.look g.W.MachineWord.plain c.args.self.now _ _ _ _ _ _ c.in-Splice.is
    c.plan_splice.ensures c.carry_out-in-Splice.ensures

pub pass-requires : goal.pass-requires
pass-requires g c = (
  search rules,
  rw c.stored-answer.ensures.same
      (planned_can g.W.MachineWord.look g.W.MachineWord.plain c.args.self.now _ _ _
      c.requires (c.stored-answer.ensures.is _)),
)

pub returns-in-Store : goal.returns-in-Store
returns-in-Store g c =
    planned_meets g.W.MachineWord.look g.W.MachineWord.plain c.args.self.now _ _ _ _ _ _ c.in-Store.is
    (c.stored-answer.ensures.is _) (rw c.stored-answer.ensures.same at c.pass.ensures)

pub pass-requires-in-Load : goal.pass-requires-in-Load
pass-requires-in-Load g c = (
  search rules,
  rw c.loaded-answer.ensures.same
      (planned_can g.W.MachineWord.look g.W.MachineWord.plain c.args.self.now _ _ _
      c.requires (c.loaded-answer.ensures.is _)),
)

pub returns-in-Load : goal.returns-in-Load
returns-in-Load g c =
    planned_meets g.W.MachineWord.look g.W.MachineWord.plain c.args.self.now _ _ _ _ _ _ c.in-Load.is
    (c.loaded-answer.ensures.is _) (rw c.loaded-answer.ensures.same at c.pass-in-Load.ensures)

pub give-requires : goal.give-requires
give-requires g c = (
  search rules,
  planned_can g.W.MachineWord.look g.W.MachineWord.plain c.args.self.now _ _ _
      c.requires (c.raised.ensures _),
)

pub returns-in-Cca : goal.returns-in-Cca
returns-in-Cca g c =
    planned_meets g.W.MachineWord.look g.W.MachineWord.plain c.args.self.now _ _ _ _ _ _ c.in-Cca.is
    (c.raised.ensures _) c.give.ensures

pub give-requires-in-Restrict : goal.give-requires-in-Restrict
give-requires-in-Restrict g c = (
  search rules,
  planned_can g.W.MachineWord.look g.W.MachineWord.plain c.args.self.now _ _ _
      c.requires (c.restricted.ensures _),
)

pub returns-in-Restrict : goal.returns-in-Restrict
returns-in-Restrict g c =
    planned_meets g.W.MachineWord.look g.W.MachineWord.plain c.args.self.now _ _ _ _ _ _ c.in-Restrict.is
    (c.restricted.ensures _) c.give-in-Restrict.ensures

pub give-requires-in-Lt : goal.give-requires-in-Lt
give-requires-in-Lt g c = (
  search rules,
  planned_can g.W.MachineWord.look g.W.MachineWord.plain c.args.self.now _ _ _
      c.requires (c.reckoned.ensures _),
)

pub returns-in-Lt : goal.returns-in-Lt
returns-in-Lt g c =
    planned_meets g.W.MachineWord.look g.W.MachineWord.plain c.args.self.now _ _ _ _ _ _ c.in-Lt.is
    (c.reckoned.ensures _) c.give-in-Lt.ensures

pub give-requires-in-Plus : goal.give-requires-in-Plus
give-requires-in-Plus g c = (
  search rules,
  planned_can g.W.MachineWord.look g.W.MachineWord.plain c.args.self.now _ _ _
      c.requires (c.reckoned-in-Plus.ensures _),
)

pub returns-in-Plus : goal.returns-in-Plus
returns-in-Plus g c =
    planned_meets g.W.MachineWord.look g.W.MachineWord.plain c.args.self.now _ _ _ _ _ _ c.in-Plus.is
    (c.reckoned-in-Plus.ensures _) c.give-in-Plus.ensures

pub give-requires-in-Minus : goal.give-requires-in-Minus
give-requires-in-Minus g c = (
  search rules,
  planned_can g.W.MachineWord.look g.W.MachineWord.plain c.args.self.now _ _ _
      c.requires (c.reckoned-in-Minus.ensures _),
)

pub returns-in-Minus : goal.returns-in-Minus
returns-in-Minus g c =
    planned_meets g.W.MachineWord.look g.W.MachineWord.plain c.args.self.now _ _ _ _ _ _ c.in-Minus.is
    (c.reckoned-in-Minus.ensures _) c.give-in-Minus.ensures

pub give-requires-in-Seta2b : goal.give-requires-in-Seta2b
give-requires-in-Seta2b g c = (
  search rules,
  planned_can g.W.MachineWord.look g.W.MachineWord.plain c.args.self.now _ _ _
      c.requires (c.at_base.ensures _),
)

pub returns-in-Seta2b : goal.returns-in-Seta2b
returns-in-Seta2b g c =
    planned_meets g.W.MachineWord.look g.W.MachineWord.plain c.args.self.now _ _ _ _ _ _ c.in-Seta2b.is
    (c.at_base.ensures _) c.give-in-Seta2b.ensures

pub give-requires-in-Cseal : goal.give-requires-in-Cseal
give-requires-in-Cseal g c = (
  search rules,
  planned_can g.W.MachineWord.look g.W.MachineWord.plain c.args.self.now _ _ _
      c.requires (c.sealed.ensures _),
)

pub returns-in-Cseal : goal.returns-in-Cseal
returns-in-Cseal g c =
    planned_meets g.W.MachineWord.look g.W.MachineWord.plain c.args.self.now _ _ _ _ _ _ c.in-Cseal.is
    (c.sealed.ensures _) c.give-in-Cseal.ensures

pub returns-in-Xjmp : goal.returns-in-Xjmp
returns-in-Xjmp g c = rw c.in-Xjmp.is c.execute_xjmp.ensures
