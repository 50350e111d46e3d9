-- Where plans end, and how they never do.
use Rattle.std.proofs.Common.{◌≡◌, ◌≢◌, ℕ, ◌+◌, ◌⊎◌, List, [], ◌∷◌, refl, sym, subst, inl, inr}
use Rattle.std.specs.Prelude.{Result, Ok, Err}
use Rattle.outside_io.specs.FilesSeen.{FilesSeen}
use Rattle.command_words.specs.declared.part.Ending.{Ending}
use Rattle.command_words.specs.declared.part.Ending.TheVariants.{Source, Assembler, Component}
use Rattle.command_words.specs.declared.part.PartWord.{PartWord}
use Rattle.component_file.specs.declared.component.ComponentFields.{ComponentFields}
use Rattle.component_file.specs.Reading.{decoded}
use Rattle.assembler.specs.Assembled.{assembled}
use Rattle.linked_starts.specs.declared.fault.RuleAt.{RuleAt}
use Rattle.linked_starts.specs.Accepted.{accepted}
use Rattle.linked_starts.specs.Parts.{PartSeen}
use Rattle.image_loader.specs.Image.{ImageSeen}
use Rattle.file_plans.specs.declared.refusal.Refusal.{Refusal}
use Rattle.file_plans.specs.declared.refusal.Refusal.TheVariants as refusal
use Rattle.file_plans.specs.Plans.{Plan, Reads, Made, ◌>>=◌, unless, each_at, whole, too_long, unread}
use Rattle.file_plans.specs.Plans.{Comes}
use Rattle.command_words.specs.Part.{is_trusted_mark}
use Rattle.link_tool.specs.Parts.{broken_in, linked, loaded, form_by, component_at, part_at}
use Rattle.proc_sources.specs.Sources.{sourced}
use Rattle.link_tool.specs.Linked.{parts_plan, image_plan}
use Rattle.link_tool.proofs.Offers.{image_with}
use Rattle.lcm_cli.specs.Bytes.{bytes_of}
use Rattle.lcm_cli.proofs.Came.{split_of, IsSettled, settled_unless, settled_bind}

-- what comes of two plans that are joined
abbrev pub Split : {A B : Type 0} → Plan A → (A → Plan B) → FilesSeen → Result B Refusal → FilesSeen → Type 0
Split {A} p f old due new = ((x : A) × (mid : FilesSeen) × Comes p old (Ok x) mid × Comes (f x) mid due new)
    ⊎ ((why : Refusal) × Comes p old (Err why) new × (due ≡ Err why))

pub comes_split : {A B : Type 0} (p : Plan A) (f : A → Plan B) (old new : FilesSeen) (due : Result B Refusal)
    → Comes (p >>= f) old due new → Split p f old due new
comes_split p f old new due h =
    elim (split_of p f (bytes_of (p >>= f) old due new h) old new due (h, refl))
    as (λ _. Split p f old due new) [
      | inl s ↦ inl (s.0, s.1, s.4.0, s.5.0)
      | inr s ↦ inr (s.0, s.1.0, s.2)
    ]

pub same_err : {A : Type 0} (x y : Refusal) → (let r : Result A Refusal = Err x in r) ≡ Err y → y ≡ x
same_err x y e = cc

-- what a layer below gave, where the call ended
pub ended_unless : {A F : Type 0} (told : F → Refusal) (r : Result A F) (old new : FilesSeen) (why : Refusal)
    → Comes (unless told r) old (Err why) new → (f : F) × (r ≡ Err f) × (why ≡ told f) × (new ≡ old)
ended_unless told (Ok x) old new why h = absurd (let e = h.0 in cc)
ended_unless {A} told (Err f) old new why h = (f, refl, same_err {A = A} (told f) why (sym h.0), h.1)

-- ---- a plan never ends so

abbrev pub Never : {A : Type 0} → Plan A → Refusal → Type 0
Never p why = (old new : FilesSeen) → Comes p old (Err why) new → ⊥

pub not_made : {A : Type 0} (x : A) (why : Refusal) → Never (Made x) why
not_made x why old new h = absurd (let e = h.0 in cc)

pub never_unless : {A F : Type 0} (told : F → Refusal) (r : Result A F) (why : Refusal)
    → ((f : F) → told f ≢ why) → Never (unless told r) why
never_unless told r why differ old new h = let e = ended_unless told r old new why h in differ e.0 (sym e.2)

pub never_bind : {A B : Type 0} (p : Plan A) (f : A → Plan B) (why : Refusal) → Never p why
    → ((x : A) → Never (f x) why) → Never (p >>= f) why
never_bind p f why first next old new h = elim (comes_split p f old new (Err why) h) as (λ _. ⊥) [
  | inl s ↦ next s.0 s.1 new s.3
  | inr s ↦ first old new (let e = same_err why s.0 s.2 in subst (λ w. Comes p old (Err w) new) e s.1)
]

pub never_reads : {A : Type 0} (name : List ℕ) (index : ℕ) (next : List ℕ → Plan A) (why : Refusal)
    → refusal.TooLong index ≢ why → refusal.ReadFault ≢ why → ((bytes : List ℕ) → Never (next bytes) why)
    → Never (let p : Plan A = Reads name index next in p) why
never_reads {A} name index next why long fault rest = by
  where
    by : Never (let p : Plan A = Reads name index next in p) why
    by old new (whole bytes mid w h) = rest bytes mid new h
    by old new (too_long t e) = long (sym (same_err {A = A} (refusal.TooLong index) why (sym e)))
    by old new (unread t e) = fault (sym (same_err {A = A} refusal.ReadFault why (sym e)))

-- ---- how no part of words ends: as words that are no command, as an image, or as a feed

abbrev pub Foreign : Refusal → Type 0
Foreign refusal.Usage = Unit {0}
Foreign (refusal.Image f) = Unit {0}
Foreign (refusal.Feed line) = Unit {0}
Foreign (refusal.Script line) = Unit {0}
Foreign (refusal.Audit f) = Unit {0}
Foreign _ = ⊥

pub foreign : (x why : Refusal) → Foreign why → x ≡ why → Foreign x
foreign x why h e = subst Foreign (sym e) h

-- a file is read, and its bytes are such or have a fault that is told otherwise
pub never_told : {A F : Type 0} (why : Refusal) → Foreign why → (name : List ℕ) (index : ℕ)
    (told : F → Refusal) (gives : List ℕ → Result A F) → ((f : F) → told f ≢ why)
    → Never (let p : Plan A = Reads name index (λ bytes. unless told (gives bytes)) in p) why
never_told why h name index told gives differ =
    never_reads name index (λ bytes. unless told (gives bytes)) why (foreign (refusal.TooLong index) why h)
    (foreign refusal.ReadFault why h) (λ bytes. never_unless told (gives bytes) why differ)

never_form : (why : Refusal) → Foreign why → (ending : Ending) (name : List ℕ) (index : ℕ)
    → Never (let p : Plan _ = Reads name index (form_by ending index) in p) why
never_form why h (Source d) name index =
    never_told why h name index (refusal.Source index) (sourced d)
    (λ f. foreign (refusal.Source index f) why h)
never_form why h Assembler name index =
    never_told why h name index (refusal.Assembly index) assembled
    (λ f. foreign (refusal.Assembly index f) why h)
never_form why h Component name index =
    never_told why h name index (refusal.File index) decoded (λ f. foreign (refusal.File index f) why h)

pub never_component : (why : Refusal) → Foreign why → (index : ℕ) (w : PartWord)
    → Never (component_at index w) why
unfolding component_at
never_component why h index w = never_form why h w.ending w.name index

abbrev pub part_by : ℕ → PartWord → ComponentFields → Plan PartSeen
part_by index w c = unless (broken_in index) (accepted
    (record { component = c; trusted = is_trusted_mark w.mark }))

pub settled_part : (index : ℕ) (w : PartWord) (c : ComponentFields) → IsSettled (part_by index w c)
settled_part index w c = settled_unless (broken_in index) (accepted
    (record { component = c; trusted = is_trusted_mark w.mark }))

pub never_part : (why : Refusal) → Foreign why → (index : ℕ) (w : PartWord) → Never (part_at index w) why
unfolding part_at
never_part why h index w =
    never_bind (component_at index w) (part_by index w) why (never_component why h index w)
    (λ c. never_unless (broken_in index)
    (accepted (record { component = c; trusted = is_trusted_mark w.mark }))
    why
    (λ b. foreign (broken_in index b) why h))

pub never_each : {A : Type 0} (why : Refusal) (item : ℕ → PartWord → Plan A)
    → ((index : ℕ) (w : PartWord) → Never (item index w) why) → (index : ℕ) (ws : List PartWord)
    → Never (each_at item index ws) why
never_each why item h index [] = not_made [] why
never_each why item h index (w ∷ ws) =
    never_bind (item index w) (λ x. each_at item (index + 1) ws >>= (λ xs. Made (x ∷ xs))) why (h index w)
    (λ x. never_bind (each_at item (index + 1) ws) (λ xs. Made (x ∷ xs)) why
    (never_each why item h (index + 1) ws) (λ xs. not_made (x ∷ xs) why))

abbrev pub link_by : ℕ → List PartSeen → Plan ImageSeen
link_by size parts = unless refusal.Rule (linked parts size) >>= (λ u. Made (image_with size parts))

pub settled_link : (size : ℕ) (parts : List PartSeen) → IsSettled (link_by size parts)
settled_link size parts =
    settled_bind (unless refusal.Rule (linked parts size)) (λ u. Made (image_with size parts))
    (settled_unless refusal.Rule (linked parts size)) (λ u. inl (image_with size parts, refl))

pub never_linked : (why : Refusal) → Foreign why → (words : List PartWord) (size : ℕ)
    → Never (parts_plan words size) why
unfolding parts_plan
never_linked why h words size =
    never_bind (each_at part_at 0 words) (link_by size) why
    (never_each why part_at (never_part why h) 0 words)
    (λ ps. never_bind (unless refusal.Rule (linked ps size)) (λ _. Made (image_with size ps)) why
    (never_unless refusal.Rule (linked ps size) why (λ r. foreign (refusal.Rule r) why h))
    (λ u. not_made (image_with size ps) why))

-- ---- how no image ends

abbrev pub NotOfImage : Refusal → Type 0
NotOfImage refusal.Usage = Unit {0}
NotOfImage (refusal.Rule r) = Unit {0}
NotOfImage (refusal.Feed line) = Unit {0}
NotOfImage (refusal.Script line) = Unit {0}
NotOfImage (refusal.Audit f) = Unit {0}
NotOfImage _ = ⊥

not_of_image : (x why : Refusal) → NotOfImage why → x ≡ why → NotOfImage x
not_of_image x why h e = subst NotOfImage (sym e) h

pub never_image : (why : Refusal) → NotOfImage why → (name : List ℕ) → Never (image_plan name) why
unfolding image_plan
never_image why h name =
    never_reads name 0 (λ bytes. unless refusal.Image (loaded bytes)) why
    (not_of_image (refusal.TooLong 0) why h) (not_of_image refusal.ReadFault why h)
    (λ bytes. never_unless refusal.Image (loaded bytes) why (λ x. not_of_image (refusal.Image x) why h))

-- ---- a component never ends by a rule

pub no_rule_by : {A F : Type 0} (name : List ℕ) (index : ℕ) (told : F → Refusal) (gives : List ℕ → Result A F)
    (r : RuleAt) → ((f : F) → told f ≢ refusal.Rule r)
    → Never (let p : Plan A = Reads name index (λ bytes. unless told (gives bytes)) in p) (refusal.Rule r)
no_rule_by name index told gives r differ =
    never_reads name index (λ bytes. unless told (gives bytes)) (refusal.Rule r) (λ e. cc) (λ e. cc)
    (λ bytes. never_unless told (gives bytes) (refusal.Rule r) differ)

no_rule_form : (ending : Ending) (name : List ℕ) (index : ℕ) (r : RuleAt)
    → Never (let p : Plan _ = Reads name index (form_by ending index) in p) (refusal.Rule r)
no_rule_form (Source d) name index r =
    no_rule_by name index (refusal.Source index) (sourced d) r (λ f e. cc)
no_rule_form Assembler name index r = no_rule_by name index (refusal.Assembly index) assembled r (λ f e. cc)
no_rule_form Component name index r = no_rule_by name index (refusal.File index) decoded r (λ f e. cc)

pub no_rule : (index : ℕ) (w : PartWord) (r : RuleAt) → Never (component_at index w) (refusal.Rule r)
unfolding component_at
no_rule index w r = no_rule_form w.ending w.name index r
