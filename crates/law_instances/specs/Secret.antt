-- That the law of secret frames speaks of instructions that write lines.
use Rattle.std.specs.Prelude.{◌≡◌, ℕ, ◌+◌, ◌++◌, List, [], ◌∷◌}
use Rattle.cap_words.specs.declared.Word.{Word}
use Rattle.lcm_machine.specs.Maps.{State}
use Rattle.lcm_machine.specs.Blind.{SameBut}
use Rattle.source_events.specs.declared.FeedBack.{FeedBack}
use Rattle.run_lines.specs.Lines.{Args, enter}
use Rattle.run_lines.specs.Runs.{written}
use Rattle.headline.specs.OpenCalls.{after}
use Rattle.headline.specs.Secrecy.{SecretThere, InRanges, other_lines}

-- A run goes on for some instructions while a call stays open. By these code outside enters a trusted part,
-- which writes a line; and whatever the call's frame holds, they write the same line.
pub record SecretLineThere : Type 0 where
  pub there : SecretThere
  pub part : List ℕ
  pub export : List ℕ
  pub stk : Word
  pub args : Args
  pub back : FeedBack
  pub line : written there.start (there.n + there.m)
      ≡ written there.start there.n ++ enter part export stk args back ∷ []
  pub line_too : (t : State Word) → SameBut (InRanges (there.told ∷ [])) (after there.start there.n) t
      → other_lines there.start there.n t there.m ≡ enter part export stk args back ∷ []
