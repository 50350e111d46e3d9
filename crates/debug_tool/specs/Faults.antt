-- How the text of replies comes to an end before its own.
use Rattle.std.specs.Prelude.{◌≡◌, ℕ, ◌+◌, List, length, take}
use Rattle.outside_io.specs.SinkSeen.{SinkSeen, FailsToWrite}
use Rattle.outside_io.specs.Writes.{FailsAtPiece}
use Rattle.step_back.specs.Seen.{Debugging}
use Rattle.debug_script.specs.declared.command.DebugCommand.{DebugCommand}
use Rattle.debug_tool.specs.declared.run.DebugFault.{DebugFault}
use Rattle.debug_tool.specs.declared.run.DebugFault.TheVariants.{WriteFault, NoMemory}
use Rattle.debug_tool.specs.Replies.{replies, after_commands}

-- the write of a reply failed: the debugger stands where the commands led up to and with the one of this
-- reply
pub record StopsAtReply (cs : List DebugCommand) (old : Debugging) (sink : SinkSeen) (new : Debugging)
    (after : SinkSeen) : Type 0 where
  pub at : FailsAtPiece sink (replies cs old) after
  pub led : new ≡ after_commands (take (length at.before + 1) cs) old

-- a write failed, and a front of the text stands; or memory was refused before anything was written
abbrev pub FailsBy : SinkSeen → List ℕ → SinkSeen → DebugFault → Type 0
FailsBy old text new WriteFault = FailsToWrite old text new
FailsBy old text new NoMemory = new ≡ old
