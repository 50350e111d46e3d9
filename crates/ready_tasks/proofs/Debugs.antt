-- What a body debugs.
use Rattle.std.proofs.Common.{◌≡◌, ℕ, ◌<◌, ◌≤◌, ◌^◌, List, length, refl, subst, ◌∙◌, arith}
use Rattle.std.specs.Prelude.{Ok, Err}
use Rattle.outside_io.specs.FilesSeen.{FilesSeen}
use Rattle.command_words.specs.declared.command.Linked.{Linked}
use Rattle.linked_starts.specs.declared.TheConstants.{MOST_PARTS}
use Rattle.linked_starts.specs.Parts.{PartSeen}
use Rattle.linked_starts.specs.Standing.{free_of, placed}
use Rattle.linked_starts.specs.Started.{StartSeen}
use Rattle.linked_starts.specs.LinkedStarts.{IsStartOf}
use Rattle.linked_starts.proofs.Offers.{are_linked, as_many}
use Rattle.debug_script.specs.declared.command.DebugCommand.{DebugCommand as Line}
use Rattle.image_loader.specs.Image.{ImageSeen}
use Rattle.file_plans.specs.declared.refusal.Stop.{Stop}
use Rattle.file_plans.specs.Plans.{Made, Comes, Follows}
use Rattle.file_plans.proofs.Offers.{comes_bind, comes_made, follows_bind, follows_end}
use Rattle.link_tool.specs.Linked.{linked_plan}
use Rattle.ready_tasks.specs.declared.ready.ReadyTask.TheVariants as ready
use Rattle.ready_tasks.specs.ReadyTasks.{FollowsTask}
use Rattle.ready_tasks.specs.Commands.{Debug, debug_plan, script_after}
use Rattle.ready_tasks.specs.Debugs.{script_at}

-- a start has an owner for each part
count_of : (parts : List PartSeen) (size : ℕ) (start : StartSeen) → IsStartOf parts size start
    → length start.owners ≡ length parts
count_of parts size start is = is.starts.owners.count ∙ as_many (free_of parts size) parts

pub few_owners : (parts : List PartSeen) (size : ℕ) (start : StartSeen) → IsStartOf parts size start
    → length start.owners < 2 ^ 32
few_owners parts size start is =
    let count : length start.owners ≡ length (placed parts size) = is.starts.owners.count in
    let few : length (placed parts size) ≤ MOST_PARTS =
    (are_linked (placed parts size) size is.accepted is.rules).few in
    omega (arith, count, few)

module _ (l : Linked) (script : List ℕ) (i : ImageSeen) (start : StartSeen) (index : ℕ)
    (old mid new : FilesSeen) (c : Comes (linked_plan l) old (Ok i) mid)
    (is : IsStartOf i.parts i.stack start)
    (e : index ≡ length start.owners) where
  pub debug_follows : (lines : List Line) → Comes (script_at script index) mid (Ok lines) new
      → FollowsTask (debug_plan l script) old (Ok (ready.Debug start lines)) new
  unfolding debug_plan
  debug_follows lines s =
      let k : Comes (script_at script (length i.parts)) mid (Ok lines) new =
      subst (λ n. Comes (script_at script n) mid (Ok lines) new) (e ∙ count_of i.parts i.stack start is) s
      in (
        Debug i lines,
        comes_bind (linked_plan l) (script_after script) old mid new i (Ok (Debug i lines)) c
            (comes_made (script_at script (length i.parts)) (λ x. Debug i x) mid new lines k),
        (i, refl, is),
      )

  pub debug_stops : (s : Stop) → Follows (script_at script index) mid (Err s) new
      → FollowsTask (debug_plan l script) old (Err s) new
  unfolding debug_plan
  debug_stops s h =
      let k : Follows (script_at script (length i.parts)) mid (Err s) new =
      subst (λ n. Follows (script_at script n) mid (Err s) new) (e ∙ count_of i.parts i.stack start is) h in
      follows_bind (linked_plan l) (script_after script) old mid new i (Err s) c
      (follows_end (script_at script (length i.parts)) (λ x. Made (Debug i x)) mid new s k)
