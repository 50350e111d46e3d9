-- All roads to a run are one: words over files, and beside them other words over other files that come to the
-- same parts.
use Rattle.std.specs.Prelude.{◌≡◌, ◌↔◌, ◌<◌, ◌≤◌, ℕ, List, [], ◌∷◌, length, All, Option, Some, Ok}
use Rattle.command_words.specs.declared.part.Ending.TheVariants.{Source, Assembler, Component}
use Rattle.command_words.specs.declared.part.PartWord.{PartWord}
use Rattle.command_words.specs.declared.command.Linked.{Linked}
use Rattle.command_words.specs.declared.command.Linked.TheVariants as what
use Rattle.command_words.specs.declared.command.LinkDeed.TheVariants as link_deed
use Rattle.command_words.specs.declared.command.ComponentDeed.TheVariants as component_deed
use Rattle.command_words.specs.declared.command.Command.{Command}
use Rattle.command_words.specs.declared.command.Command.TheVariants.{Links, Takes, Checks, Mean}
use Rattle.command_words.specs.declared.command.Command.TheVariants as asked
use Rattle.proc_language.specs.declared.dialect.Dialect.TheVariants.{Plain, Tokens}
use Rattle.proc_language.specs.declared.module.ModuleFields.{ModuleFields}
use Rattle.proc_print.specs.Printed.{printed}
use Rattle.proc_sources.specs.Sources.{module_in}
use Rattle.alike_modules.specs.Alike.{IsParsedBack}
use Rattle.file_plans.specs.declared.TheConstants.{LONGEST_FILE}
use Rattle.refusal_lines.specs.declared.status.Status.TheVariants.{Done}
use Rattle.ready_tasks.specs.Commands.{plan_of}
use Rattle.command_words.specs.Answers.{IsWritten}
use Rattle.lcm_cli.specs.Answers.{Answer, puts, writes, stk}

-- the bytes of files, by their names
abbrev pub Held : Type 0
Held = List ℕ → Option (List ℕ)

-- ---- what commands make of words, over files of these bytes

-- a command, asked to put its file under some name, answers `ok` and puts these bytes
abbrev pub PutsBytes : Held → (List ℕ → Command) → List ℕ → Type 0
PutsBytes held asks bytes = (out : List ℕ) × IsWritten stk held (plan_of (asks out)) (puts out bytes)

-- by `compile` or `asm`, whichever the word's ending asks for
abbrev pub PutsComponent : Held → PartWord → List ℕ → Type 0
PutsComponent held w = PutsBytes held (λ out. Takes w (component_deed.Put out))

-- by `link`
abbrev pub PutsImage : Held → List PartWord → ℕ → List ℕ → Type 0
PutsImage held ws size = PutsBytes held (λ out. Links (what.Parts ws size) (link_deed.Store out))

-- `dis` writes this text
abbrev pub ShowsText : Held → PartWord → List ℕ → Type 0
ShowsText held w text = IsWritten stk held (plan_of (Takes w component_deed.Show)) (writes Done text)

-- ---- words beside words

-- the second text is that of the module of the first one, a source with tokens, without its tokens. It is
-- parsed, and both are short enough to be read
pub record IsErasure (text erasure : List ℕ) : Type 0 where
  pub m : ModuleFields
  pub spelled : module_in Tokens text ≡ Ok m
  pub is : erasure ≡ printed m
  pub readable : IsParsedBack m
  pub short : length text ≤ LONGEST_FILE
  pub erasure_short : length erasure ≤ LONGEST_FILE

-- a file holds just this, which isn't too long to be read
abbrev pub HoldsShort : Held → List ℕ → List ℕ → Type 0
HoldsShort held name bytes = (held name ≡ Some bytes) × (length bytes ≤ LONGEST_FILE)

-- where there is such a file, what it holds are bytes
abbrev pub HoldsBytes : Held → List ℕ → Type 0
HoldsBytes held name = (bytes : List ℕ) → held name ≡ Some bytes → All (λ b. b < 256) bytes

-- each of the one list is so to each of the other
abbrev pub Pairwise : {A B : Type 0} → (A → B → Type 0) → List A → List B → Type 0
Pairwise R [] [] = Unit {0}
Pairwise R [] (y ∷ ys) = ⊥
Pairwise R (x ∷ xs) [] = ⊥
Pairwise R (x ∷ xs) (y ∷ ys) = R x y × Pairwise R xs ys

-- words over files of these bytes, and words over files of those
module _ (held there : Held) where
  -- one word: the same bytes in the same form; or a source with tokens, and its erasure
  pub data HaveOneText (w v : PartWord) : Type 0 where
    same : v.mark ≡ w.mark → v.ending ≡ w.ending → there v.name ≡ held w.name → HaveOneText w v
    erasure : (text erased : List ℕ) → v.mark ≡ w.mark → w.ending ≡ Source Tokens → v.ending ≡ Source Plain
        → held w.name ≡ Some text → there v.name ≡ Some erased → IsErasure text erased → HaveOneText w v

  -- or a word, and its component, as `compile` or `asm` puts it; or a word, and its text, as `dis` writes it
  pub data IsBeside (w v : PartWord) : Type 0 where
    one_text : HaveOneText w v → IsBeside w v
    component : (bytes : List ℕ) → v.mark ≡ w.mark → v.ending ≡ Component → PutsComponent held w bytes
        → HoldsShort there v.name bytes → IsBeside w v
    shown : (text : List ℕ) → v.mark ≡ w.mark → v.ending ≡ Assembler → ShowsText held w text
        → (w.ending ≡ Component → HoldsBytes held w.name) → HoldsShort there v.name text → IsBeside w v

  abbrev pub AreBeside : List PartWord → List PartWord → Type 0
  AreBeside = Pairwise IsBeside

  -- what links: words beside words; or words, and the image that `link` puts of them; or an image, and the
  -- same bytes
  abbrev pub LinkBeside : Linked → Linked → Type 0
  LinkBeside (what.Parts ws size) (what.Parts vs other) = AreBeside ws vs × (other ≡ size)
  LinkBeside (what.Parts ws size) (what.Image name) =
      (bytes : List ℕ) × PutsImage held ws size bytes × HoldsShort there name bytes
  LinkBeside (what.Image name) (what.Image other) = there other ≡ held name
  LinkBeside (what.Image name) (what.Parts vs other) = ⊥

  -- two commands ask for the same, of parts that are beside one another; a feed and a script are the same.
  -- `mean` takes sources alone
  abbrev pub AskBeside : Command → Command → Type 0
  AskBeside (Links l deed) (Links k done) = LinkBeside l k × (done ≡ deed)
  AskBeside (Takes w deed) (Takes v done) = IsBeside w v × (done ≡ deed)
  AskBeside (Checks w) (Checks v) = IsBeside w v
  AskBeside (Mean ws size fuel feed) (Mean vs other ticks items) =
      Pairwise HaveOneText ws vs × (other ≡ size) × (ticks ≡ fuel) × (there items ≡ held feed)
  AskBeside (asked.Debug l script) (asked.Debug k lines) = LinkBeside l k × (there lines ≡ held script)
  AskBeside _ _ = ⊥

-- ---- one after another

-- a command over files
pub record Asking : Type 0 where
  pub held : Held
  pub command : Command

-- one is beside the other; or the other way round; or over others, one after another
pub data AskTheSame : Asking → Asking → Type 0 where
  beside : {x y : Asking} → AskBeside x.held y.held x.command y.command → AskTheSame x y
  back : {x y : Asking} → AskTheSame y x → AskTheSame x y
  onward : {x y z : Asking} → AskTheSame x y → AskTheSame y z → AskTheSame x z

abbrev pub IsGiven : Asking → Answer → Type 0
IsGiven x a = IsWritten stk x.held (plan_of x.command) a

-- and then their answers are the same
abbrev pub RoadsAreOne : Type 0
RoadsAreOne = (x y : Asking) → AskTheSame x y → (a : Answer) → IsGiven x a ↔ IsGiven y a
