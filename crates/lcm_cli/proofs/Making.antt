-- What comes of a plan is what it makes of the bytes that came.
use Rattle.std.proofs.Common.{Option, refl, inl, inr}
use Rattle.std.specs.Prelude.{Result}
use Rattle.outside_io.specs.FilesSeen.{FilesSeen}
use Rattle.command_words.specs.declared.command.Command.{Command}
use Rattle.file_plans.specs.declared.refusal.Refusal.{Refusal}
use Rattle.file_plans.specs.Plans.{Plan, Reads, Ends, Made, whole, too_long, unread, Comes}
use Rattle.ready_tasks.specs.Commands.{Task, plan_in}
use Rattle.lcm_cli.specs.Bytes.{bytes_of, ComesBy}
use Rattle.lcm_cli.specs.Causes.{CameOf}

pub makes_of : {A : Type 0} (plan : Plan A) (old : FilesSeen) (due : Result A Refusal) (new : FilesSeen)
    (h : Comes plan old due new) → ComesBy plan (bytes_of plan old due new h) due
makes_of (Made x) old due new h = h.0
makes_of (Ends why) old due new h = h.0
makes_of (Reads name index next) old due new (whole bytes mid w h) = makes_of (next bytes) mid due new h
makes_of (Reads name index next) old due new (too_long t e) = inl e
makes_of (Reads name index next) old due new (unread t e) = inr e

pub came_of : (asked : Option Command) (old : FilesSeen) (due : Result Task Refusal) (new : FilesSeen)
    (c : Comes (plan_in asked) old due new)
    → CameOf asked (bytes_of (plan_in asked) old due new c) old due new
came_of asked old due new c = ((c, refl), makes_of (plan_in asked) old due new c)
