-- What a meaning is asked of, in the order in which it is read, and what is told.
use Rattle.std.specs.Prelude.{◌≡◌, ℕ, List, length, map, Result, Ok, Err, unwrap_or}
use Rattle.command_words.specs.declared.part.Ending.{Ending}
use Rattle.command_words.specs.declared.part.PartWord.{PartWord}
use Rattle.command_words.specs.Part.{dialect_of}
use Rattle.proc_language.specs.declared.dialect.Dialect.{Dialect}
use Rattle.proc_language.specs.declared.dialect.Dialect.TheVariants.{Plain}
use Rattle.linked_starts.specs.declared.fault.RuleAt.{RuleAt}
use Rattle.proc_language.specs.declared.module.ModuleFields.{ModuleFields}
use Rattle.proc_program.specs.Lower.{part_of}
use Rattle.proc_sources.specs.Sources.{module_in}
use Rattle.source_events.specs.declared.Item.{Item}
use Rattle.source_events.specs.declared.Told.{Told}
use Rattle.proc_semantics.specs.Meaning.{meaning}
use Rattle.module_rules.specs.Rules.{stack_base_of, ruled}
use Rattle.line_fields.specs.declared.fault.FeedFault.{FeedFault}
use Rattle.line_fields.specs.declared.fault.FeedFault.TheVariants.{Line, NoMemory}
use Rattle.line_fields.specs.Feed.{fed}
use Rattle.proc_meaning.specs.Text.{told_text}
use Rattle.file_plans.specs.declared.refusal.Refusal.{Refusal}
use Rattle.file_plans.specs.declared.refusal.Refusal.TheVariants as refusal
use Rattle.file_plans.specs.Plans.{Plan, Made, ◌>>=◌, file, unless, each_at}
use Rattle.meaning_tool.specs.declared.telling.Meaning.{Meaning}

-- ---- what is read

-- modules that keep the rules of a meaning, the size of their stack in words, and what a feed has
pub record Subject : Type 0 where
  pub modules : List ModuleFields
  pub size : ℕ
  pub feed : List Item

-- the language of a source; of other files nothing is asked
abbrev pub language_of : Ending → Dialect
language_of ending = unwrap_or (dialect_of ending) Plain

-- read, length, form, names, and with tokens their typing
unfoldable pub module_at : ℕ → PartWord → Plan ModuleFields
module_at index word = do
  text ← file word.name index
  unless (refusal.Source index) (module_in (language_of word.ending) text)

-- the first line of a feed that has not the form that it must have
abbrev pub feed_line : FeedFault → ℕ
feed_line (Line n) = n
feed_line NoMemory = 0

abbrev pub unfed : FeedFault → Refusal
unfed f = refusal.Feed (feed_line f)

-- the feed of modules, whose stack begins where the first module says
unfoldable pub feed_at : List ℕ → ℕ → ℕ → Plan (List Item)
feed_at name index base = do
  text ← file name index
  unless unfed (fed base text)

-- of modules: the rules of a meaning, and then the feed, whose index is the number of modules
unfoldable pub subject_of : ℕ → ℕ → List ℕ → List ModuleFields → Plan Subject
subject_of count size feed modules = do
  _ ← unless refusal.Rule (ruled modules size)
  items ← feed_at feed count (stack_base_of modules)
  Made (record { modules = modules; size = size; feed = items })

-- the modules of words, their rules, and the feed
unfoldable pub subject_in : List PartWord → ℕ → List ℕ → Plan Subject
subject_in words size feed = do
  modules ← each_at module_at 0 words
  subject_of (length words) size feed modules

-- ---- what is told

abbrev pub told_of : Subject → ℕ → Told
told_of s fuel = meaning (map part_of s.modules) s.size s.feed fuel

-- the text of the meaning under a fuel, and how it ended
pub record IsMeant (fuel : ℕ) (s : Subject) (m : Meaning) : Type 0 where
  pub text : m.text ≡ told_text (told_of s fuel)
  pub end : m.end ≡ (told_of s fuel).end
