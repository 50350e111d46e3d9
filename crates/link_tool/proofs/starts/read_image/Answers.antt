use Rattle.std.proofs.Common.{◌≡◌, List, ℕ, sym, subst}
use Rattle.std.specs.Prelude.{Result, Ok, Err}
use Rattle.outside_io.specs.FilesSeen.{FilesSeen}
use Rattle.image_loader.specs.Image.{ImageSeen, SpellsImage}
use Rattle.file_plans.specs.declared.refusal.Refusal.TheVariants.{Image}
use Rattle.file_plans.specs.declared.refusal.Stop.{Stop}
use Rattle.std.proofs.lemmas.Result.{err_from_is_err_and}
use Rattle.file_plans.specs.Plans.{file, unless, Comes, Meets}
use Rattle.link_tool.specs.Parts.{loaded}
use Rattle.link_tool.specs.Linked.{image_plan, FollowsImage}
use Rattle.file_plans.proofs.Offers.{follows_meets, unless_made}
use Rattle.link_tool.proofs.starts.read_image.Goals as goal

-- the file came, and its bytes are not loaded
bytes_stop : (name bytes : List ℕ) (old new : FilesSeen) (stop : Stop)
    → Comes (file name 0) old (Ok bytes) new
    → (let r : Result ImageSeen Stop = Err stop in Meets (unless Image (loaded bytes)) r)
    → (let r : Result (List ℕ) Stop = Err stop in FollowsImage (image_plan name) old r new)
unfolding image_plan
bytes_stop name bytes old new stop c m =
    follows_meets (file name 0) (λ b. unless Image (loaded b)) old new bytes (Err stop) c m

-- the file came, and its bytes spell this image, which is loaded
bytes_follow : (name bytes : List ℕ) (old new : FilesSeen) (i : ImageSeen)
    → Comes (file name 0) old (Ok bytes) new
    → loaded bytes ≡ Ok i → SpellsImage bytes i → FollowsImage (image_plan name) old (Ok bytes) new
unfolding image_plan
bytes_follow name bytes old new i c e s = (
  i,
  follows_meets (file name 0) (λ b. unless Image (loaded b)) old new bytes (Ok i) c
      (unless_made Image (loaded bytes) i (sym e)),
  (subst (λ b. loaded b ≡ Ok i) s.1 e, s.1),
)

pub returns-in_err-load : goal.returns-in_err-load
returns-in_err-load g c =
    let p = err_from_is_err_and c.from_residual-in_err-load.result c.from_residual-in_err-load.ensures.1 in
    rw (p.1, p.2) (bytes_stop c.args.name.now c.in_ok-bytes.bytes _ _ c.in_err-load.field-0.0
    c.in_ok-bytes.ensures.came
    (subst (λ b. let r : Result ImageSeen Stop = Err c.in_err-load.field-0.0 in
    Meets (unless Image (loaded b)) r)
    c.as_slice.ensures c.in_err-load.ensures.start))

pub returns : goal.returns
returns g c =
    let s = subst (λ b. (i : ImageSeen) × (loaded b ≡ Ok i)
    × SpellsImage b i) c.as_slice.ensures c.in_ok-load.ensures.spelled in
    bytes_follow c.args.name.now c.in_ok-bytes.bytes _ _ s.0 c.in_ok-bytes.ensures.came s.1 s.2
