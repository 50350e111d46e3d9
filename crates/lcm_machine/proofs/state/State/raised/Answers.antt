use Rattle.std.proofs.Common.{◌≡◌, true, false, ◌+ℤ◌, sym, refl, rules}
use Rattle.lcm_machine.specs.Table.{ask, need, by_cap, fits_64}
use Rattle.lcm_machine.specs.Row.{faces, plan_in}
use Rattle.lcm_machine.proofs.RowsMet.{got, fails_by_cap}
use Rattle.lcm_machine.proofs.TestedRows.{lacked, told_on}
use Rattle.lcm_machine.proofs.state.State.raised.Goals as goal

pub returns-in_ok-addr-in-Memory : goal.returns-in_ok-addr-in-Memory
unfolding plan_in ask need by_cap
returns-in_ok-addr-in-Memory g c = λ next.
    let face = sym c.in-Memory.ensures.is in
    let z = got _ _ _ c.in_ok-z.ensures in
    let fits : fits_64 (c.in-Memory.c.addr +ℤ c.in_ok-z.z) ≡ true = search rules in
    let is : c.in_ok-addr-in-Memory.addr ≡ c.in-Memory.c.addr +ℤ c.in_ok-z.z = search rules in
    rw (c.in_ok-into.ensures, face, z, fits, ← is) (search rules)

pub returns-in_ok-cur-in-Seals : goal.returns-in_ok-cur-in-Seals
unfolding plan_in ask need by_cap
returns-in_ok-cur-in-Seals g c = λ next.
    let face = sym c.in-Seals.ensures.is in
    let z = got _ _ _ c.in_ok-z.ensures in
    let fits : fits_64 (c.in-Seals.c.cur +ℤ c.in_ok-z.z) ≡ true = search rules in
    let is : c.in_ok-cur-in-Seals.cur ≡ c.in-Seals.c.cur +ℤ c.in_ok-z.z = search rules in
    rw (c.in_ok-into.ensures, face, z, fits, ← is) (search rules)

pub returns-in_err-z : goal.returns-in_err-z
unfolding plan_in ask need by_cap
returns-in_err-z g c = λ next.
    let no = lacked _ _ _ c.in_err-z.ensures in
    rw (
      told_on _ _ _ c.from_residual-in_err-z.ensures.1 no.1,
      c.in_ok-into.ensures,
      no.0,
      fails_by_cap (faces g.W.MachineWord.look c.args.self.now c.args.r1),
    ) refl

pub returns-in_err-addr-in-Memory : goal.returns-in_err-addr-in-Memory
unfolding plan_in ask need by_cap
returns-in_err-addr-in-Memory g c = λ next.
    let face = sym c.in-Memory.ensures.is in
    let z = got _ _ _ c.in_ok-z.ensures in
    let over : fits_64 (c.in-Memory.c.addr +ℤ c.in_ok-z.z) ≡ false = search rules in
    rw (
      told_on _ _ _ c.from_residual-in_err-addr-in-Memory.ensures.1 c.in_err-addr-in-Memory.ensures.1,
      c.in_ok-into.ensures,
      face,
      z,
      over,
    ) refl

pub returns-in_err-cur-in-Seals : goal.returns-in_err-cur-in-Seals
unfolding plan_in ask need by_cap
returns-in_err-cur-in-Seals g c = λ next.
    let face = sym c.in-Seals.ensures.is in
    let z = got _ _ _ c.in_ok-z.ensures in
    let over : fits_64 (c.in-Seals.c.cur +ℤ c.in_ok-z.z) ≡ false = search rules in
    rw (
      told_on _ _ _ c.from_residual-in_err-cur-in-Seals.ensures.1 c.in_err-cur-in-Seals.ensures.1,
      c.in_ok-into.ensures,
      face,
      z,
      over,
    ) refl
