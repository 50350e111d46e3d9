use Rattle.std.proofs.Common.{List}
use Rattle.std.specs.Prelude.{ℕ, Result, Ok, Err, IfOk}
use Rattle.std.proofs.lemmas.Result.{err_from_is_err_and}
use Rattle.outside_io.specs.FilesSeen.{FilesSeen}
use Rattle.command_words.specs.declared.part.PartWord.{PartWord}
use Rattle.linked_starts.specs.Parts.{PartSeen}
use Rattle.image_loader.specs.Image.{SpellsImage}
use Rattle.file_plans.specs.declared.refusal.Stop.{Stop}
use Rattle.file_plans.specs.declared.refusal.Refusal.TheVariants.{Rule}
use Rattle.file_plans.specs.Plans.{unless, each_at, Comes, Meets}
use Rattle.link_tool.specs.Parts.{linked, part_at}
use Rattle.link_tool.specs.Linked.{parts_plan, without, FollowsImage}
use Rattle.file_plans.proofs.Offers.{unless_gave}
use Rattle.link_tool.proofs.Linking.{image_with, linked_comes, linked_unread, linked_stops, loaded_again}
use Rattle.link_tool.proofs.starts.make_image.Goals as goal

-- the parts came, and linking them gave the bytes of their image
bytes_follow : (words : List PartWord) (size : ℕ) (parts : List PartSeen) (old new : FilesSeen)
    (r : Result (List ℕ) Stop) → Comes (each_at part_at 0 words) old (Ok parts) new
    → Meets (unless Rule (linked parts size)) (without r) → IfOk r
    (λ b. SpellsImage b (image_with size parts))
    → FollowsImage (parts_plan words size) old r new
bytes_follow words size parts old new (Ok b) c m s = (
  image_with size parts,
  linked_comes words size parts old new c m,
  (loaded_again (image_with size parts) s.0 (unless_gave Rule (linked parts size) tt m), s.1),
)
bytes_follow words size parts old new (Err stop) c m s = linked_stops words size parts old new stop c m

pub returns-in_err-parts : goal.returns-in_err-parts
returns-in_err-parts g c =
    let p = err_from_is_err_and c.from_residual.result c.from_residual.ensures.1 in
    rw (p.1, p.2) (linked_unread c.args.words.now c.args.size _ _ c.in_err-parts.field-0.0
    c.in_err-parts.ensures.are)

pub returns : goal.returns
returns g c =
    bytes_follow c.args.words.now c.args.size c.in_ok-parts.parts _ _ c.linked_bytes.result
    c.in_ok-parts.ensures.are c.linked_bytes.ensures.rules c.linked_bytes.ensures.bytes
