use Rattle.std.proofs.Common.{List}
use Rattle.std.specs.Prelude.{ℕ, Result, Ok, Err, IfOk}
use Rattle.std.proofs.lemmas.Result.{err_from_is_err_and}
use Rattle.outside_io.specs.FilesSeen.{FilesSeen}
use Rattle.command_words.specs.declared.part.PartWord.{PartWord}
use Rattle.linked_starts.specs.Parts.{PartSeen}
use Rattle.linked_starts.specs.Started.{StartSeen}
use Rattle.file_plans.specs.declared.refusal.Stop.{Stop}
use Rattle.file_plans.specs.declared.refusal.Refusal.TheVariants.{Rule}
use Rattle.file_plans.specs.Plans.{unless, each_at, Comes, Meets}
use Rattle.linked_starts.specs.LinkedStarts.{IsStartOf}
use Rattle.link_tool.specs.Parts.{linked, part_at}
use Rattle.link_tool.specs.Linked.{parts_plan, without, FollowsStart}
use Rattle.link_tool.proofs.Linking.{image_with, linked_comes, linked_unread, linked_stops}
use Rattle.link_tool.proofs.starts.link_parts.Goals as goal

-- the parts came, and linking them gave this
start_follows : (words : List PartWord) (size : ℕ) (parts : List PartSeen) (old new : FilesSeen)
    (r : Result StartSeen Stop) → Comes (each_at part_at 0 words) old (Ok parts) new
    → Meets (unless Rule (linked parts size)) (without r) → IfOk r (IsStartOf parts size)
    → FollowsStart (parts_plan words size) old r new
start_follows words size parts old new (Ok s) c m links =
    (image_with size parts, linked_comes words size parts old new c m, links)
start_follows words size parts old new (Err stop) c m links = linked_stops words size parts old new stop c m

pub returns-in_err-parts : goal.returns-in_err-parts
returns-in_err-parts g c =
    let p = err_from_is_err_and c.from_residual.result c.from_residual.ensures.1 in
    rw (p.1, p.2) (linked_unread c.args.words.now c.args.size _ _ c.in_err-parts.field-0.0
    c.in_err-parts.ensures.are)

pub returns : goal.returns
returns g c = start_follows c.args.words.now c.args.size c.in_ok-parts.parts _ _ c.start_of.result
    c.in_ok-parts.ensures.are c.start_of.ensures.rules c.start_of.ensures.linked
