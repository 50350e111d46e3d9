-- Plans that read nothing, and the loads that they make.
use Rattle.std.proofs.Common.{◌≡◌, [], ◌∷◌, refl, sym, subst, ◌∙◌, inl, inr, true, false}
use Rattle.std.specs.Prelude.{Result, Ok, Err}
use Rattle.outside_io.specs.FilesSeen.{FilesSeen}
use Rattle.linked_starts.specs.Accepted.{accepted}
use Rattle.image_loader.specs.Image.{ImageSeen}
use Rattle.link_tool.specs.declared.generated.TheConstants.{LOAD_STACK}
use Rattle.link_tool.specs.declared.generated.load.Workload.{Workload}
use Rattle.link_tool.specs.Generated.{module_text, adder}
use Rattle.proc_sources.specs.Sources.{sourced}
use Rattle.proc_language.specs.declared.dialect.Dialect.TheVariants.{Plain}
use Rattle.file_plans.specs.declared.refusal.Refusal.{Refusal}
use Rattle.file_plans.specs.declared.refusal.Refusal.TheVariants as refusal
use Rattle.file_plans.specs.Plans.{Plan, Ends, Made, ◌>>=◌, unless, Comes}
use Rattle.link_tool.specs.Parts.{broken_in, linked}
use Rattle.link_tool.specs.Loads.{load_module, load_other, load_parts, load_plan}
use Rattle.ready_tasks.specs.declared.ready.ReadyTask.TheVariants as ready
use Rattle.lcm_cli.proofs.Came.{IsSettled, settled_unless, settled_bind}
use Rattle.lcm_cli.proofs.Ends.{Never, same_err, not_made, never_unless, never_bind}
use Rattle.link_tool.proofs.Offers.{image_with}

settled_parts : (load : Workload) → IsSettled (load_parts load)
unfolding load_module load_other load_parts
settled_parts load =
    settled_bind _ _
    (settled_bind _ _ (settled_unless (refusal.Source 0) (sourced Plain (module_text load)))
    (λ c. settled_unless (broken_in 0) (accepted (record { component = c; trusted = true }))))
    (λ first. settled_bind _ _
    (settled_unless (broken_in 1) (accepted (record { component = adder load; trusted = false })))
    (λ second. inl (_, refl)))

settled_image : (load : Workload) → IsSettled (load_plan load)
unfolding load_plan
settled_image load =
    settled_bind (load_parts load) _ (settled_parts load)
    (λ parts. settled_bind _ _ (settled_unless refusal.Rule (linked parts LOAD_STACK)) (λ u. inl (_, refl)))

same_ok : {A : Type 0} (x y : A) → (let r : Result A Refusal = Ok x in r) ≡ Ok y → x ≡ y
same_ok x y e = cc

made_by : {A : Type 0} (p : Plan A) (x : A) (old new : FilesSeen) → IsSettled p → Comes p old (Ok x) new
    → p ≡ Made x
made_by {A} p x old new (inl m) h =
    let c : Comes (let q : Plan A = Made m.0 in q) old (Ok x) new =
    subst (λ q. Comes q old (Ok x) new) m.1 h in
    m.1 ∙ (let e = same_ok x m.0 c.0 in rw e refl)
made_by {A} p x old new (inr e) h =
    let c : Comes (let q : Plan A = Ends e.0 in q) old (Ok x) new =
    subst (λ q. Comes q old (Ok x) new) e.1 h in
    absurd (let k = c.0 in cc)

ended_by : {A : Type 0} (p : Plan A) (why : Refusal) (old new : FilesSeen) → IsSettled p
    → Comes p old (Err why) new → p ≡ Ends why
ended_by {A} p why old new (inl m) h =
    let c : Comes (let q : Plan A = Made m.0 in q) old (Err why) new =
    subst (λ q. Comes q old (Err why) new) m.1 h in
    absurd (let k = c.0 in cc)
ended_by {A} p why old new (inr e) h =
    let c : Comes (let q : Plan A = Ends e.0 in q) old (Err why) new =
    subst (λ q. Comes q old (Err why) new) e.1 h in
    e.1 ∙ (let k : why ≡ e.0 = same_err {A = A} e.0 why (sym c.0) in rw k refl)

pub load_made : (load : Workload) (image : ImageSeen) (old new : FilesSeen)
    → Comes (load_plan load) old (Ok image) new → load_plan load ≡ Made image
load_made load image old new h = made_by (load_plan load) image old new (settled_image load) h

pub comes_stays : (load : Workload) (image : ImageSeen) (old new : FilesSeen)
    → Comes (load_plan load) old (Ok image) new → new ≡ old
comes_stays load image old new h =
    (subst (λ q. Comes q old (Ok image) new) (load_made load image old new h) h).1

pub load_ended : (load : Workload) (why : Refusal) (old new : FilesSeen)
    → Comes (load_plan load) old (Err why) new → load_plan load ≡ Ends why
load_ended load why old new h = ended_by (load_plan load) why old new (settled_image load) h

-- ---- how no load ends

abbrev NotOfLoad : Refusal → Type 0
NotOfLoad (refusal.Source index f) = ⊥
NotOfLoad (refusal.Rule r) = ⊥
NotOfLoad _ = Unit {0}

not_of_load : (x why : Refusal) → NotOfLoad why → x ≡ why → NotOfLoad x
not_of_load x why h e = subst NotOfLoad (sym e) h

never_module : (why : Refusal) → NotOfLoad why → (load : Workload) → Never (load_module load) why
unfolding load_module
never_module why h load =
    never_bind _ _ why
    (never_unless (refusal.Source 0) (sourced Plain (module_text load)) why
    (λ f. not_of_load (refusal.Source 0 f) why h))
    (λ c. never_unless (broken_in 0) (accepted (record { component = c; trusted = true })) why
    (λ b. not_of_load (broken_in 0 b) why h))

never_other : (why : Refusal) → NotOfLoad why → (load : Workload) → Never (load_other load) why
unfolding load_other
never_other why h load =
    never_unless (broken_in 1) (accepted (record { component = adder load; trusted = false })) why
    (λ b. not_of_load (broken_in 1 b) why h)

never_parts : (why : Refusal) → NotOfLoad why → (load : Workload) → Never (load_parts load) why
unfolding load_parts
never_parts why h load =
    never_bind (load_module load) _ why (never_module why h load)
    (λ first. never_bind (load_other load) _ why (never_other why h load)
    (λ second. not_made (first ∷ second ∷ []) why))

pub never_load : (why : Refusal) → NotOfLoad why → (load : Workload) → Never (load_plan load) why
unfolding load_plan
never_load why h load =
    never_bind (load_parts load) _ why (never_parts why h load)
    (λ parts. never_bind (unless refusal.Rule (linked parts LOAD_STACK)) _ why
    (never_unless refusal.Rule (linked parts LOAD_STACK) why (λ r. not_of_load (refusal.Rule r) why h))
    (λ u. not_made (image_with LOAD_STACK parts) why))
