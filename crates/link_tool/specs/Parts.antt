-- The parts of part words: read, length, form, rules C, and K where it is trusted; and then the rules L of
-- all of them. And those of an image.
use Rattle.std.specs.Prelude.{◌≡◌, ℕ, List, map, Result, Ok, Err}
use Rattle.assembler.specs.Assembled.{assembled}
use Rattle.command_words.specs.Part.{is_trusted_mark}
use Rattle.command_words.specs.declared.part.Ending.{Ending}
use Rattle.command_words.specs.declared.part.Ending.TheVariants.{Source, Assembler, Component}
use Rattle.command_words.specs.declared.part.PartWord.{PartWord}
use Rattle.component_file.specs.declared.component.ComponentFields.{ComponentFields}
use Rattle.component_file.specs.Reading.{decoded}
use Rattle.component_check.specs.declared.rule.Broken.{Broken}
use Rattle.component_check.specs.Verdict.{check_from}
use Rattle.linked_starts.specs.declared.fault.RuleAt.{RuleAt}
use Rattle.linked_starts.specs.Pairs.{by_part}
use Rattle.linked_starts.specs.Links.{rules_of_link, rule_at}
use Rattle.linked_starts.specs.Standing.{placed}
use Rattle.linked_starts.specs.Accepted.{accepted}
use Rattle.linked_starts.specs.Parts.{PartSeen}
use Rattle.image_loader.specs.declared.fault.ImageFault.{ImageFault}
use Rattle.image_loader.specs.declared.fault.ImageFault.TheVariants as image
use Rattle.image_loader.specs.Image.{ImageSeen}
use Rattle.image_loader.specs.Reading.{image_of}
use Rattle.proc_sources.specs.Sources.{sourced}
use Rattle.file_plans.specs.declared.refusal.Refusal.{Refusal}
use Rattle.file_plans.specs.declared.refusal.Refusal.TheVariants as refusal
use Rattle.file_plans.specs.Plans.{Plan, ◌>>=◌, file, unless}

-- ---- rules

-- a rule that a part breaks by itself
abbrev pub broken_in : ℕ → Broken → Refusal
broken_in index b = refusal.Rule (record { rule = b.rule; part = index; place = b.place })

-- the first of the rules L that parts break together where they are placed, where they break one
unfoldable pub linked : List PartSeen → ℕ → Result (Unit {0}) RuleAt
linked parts size = check_from rule_at 1 (map by_part (rules_of_link (placed parts size) size))

-- ---- images

-- an image, by what the rules L say of its parts
abbrev pub linked_as : ImageSeen → Result (Unit {0}) RuleAt → Result ImageSeen ImageFault
linked_as i (Ok u) = Ok i
linked_as i (Err broken) = Err (image.Rule broken)

-- what was read, where its parts keep the rules L
abbrev pub loaded_by : Result ImageSeen ImageFault → Result ImageSeen ImageFault
loaded_by (Err f) = Err f
loaded_by (Ok i) = linked_as i (linked i.parts i.stack)

-- the image that bytes spell, whose parts keep the rules C, K and then L; or the first fault
unfoldable pub loaded : List ℕ → Result ImageSeen ImageFault
loaded bytes = loaded_by (image_of bytes)

-- ---- parts

-- the component that bytes are in their form
abbrev pub form_by : Ending → ℕ → List ℕ → Plan ComponentFields
form_by (Source d) index text = unless (refusal.Source index) (sourced d text)
form_by Assembler index text = unless (refusal.Assembly index) (assembled text)
form_by Component index bytes = unless (refusal.File index) (decoded bytes)

-- and that they are this component
abbrev pub HasForm : Ending → List ℕ → ComponentFields → Type 0
HasForm (Source d) text c = sourced d text ≡ Ok c
HasForm Assembler text c = assembled text ≡ Ok c
HasForm Component bytes c = decoded bytes ≡ Ok c

-- read, length, form
unfoldable pub component_at : ℕ → PartWord → Plan ComponentFields
component_at index word = do
  bytes ← file word.name index
  form_by word.ending index bytes

-- and its own rules
unfoldable pub part_at : ℕ → PartWord → Plan PartSeen
part_at index word = do
  c ← component_at index word
  unless (broken_in index) (accepted (record { component = c; trusted = is_trusted_mark word.mark }))

-- the bytes of a word's file are this part, which keeps its own rules
abbrev pub IsPartOf : PartWord → List ℕ → PartSeen → Type 0
IsPartOf word bytes p =
    HasForm word.ending bytes p.component × (p.trusted ≡ is_trusted_mark word.mark) × (accepted p ≡ Ok p)
