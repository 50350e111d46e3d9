-- What is written so far, and where its procedure stands.
use Rattle.std.specs.Prelude.{◌≡◌, ℕ, ◌+◌, ◌≤◌, ℤ, List, ◌∷◌, ◌++◌, length}
use Rattle.cap_words.specs.Stretch.{Stretch}
use Rattle.cap_words.specs.declared.TheConstants.{LAST_PLACE}
use Rattle.cap_words.specs.declared.Word.{Word}
use Rattle.component_file.specs.declared.TheConstants.{LAST_OFFSET}
use Rattle.proc_language.specs.declared.TheConstants.{MOST_SEALS}
use Rattle.proc_program.specs.declared.program.Procedure.{Procedure}
use Rattle.proc_program.specs.declared.program.Program.{Program}
use Rattle.proc_program.specs.Program.{Exp, Statement, Block}
use Rattle.proc_program.specs.Calls.{calls, step_calls, block_calls, procedure_calls}
use Rattle.proc_templates.specs.declared.FrameShape.{FrameShape}
use Rattle.proc_templates.specs.Items.{Spot, Item, goes, Laid, lay}
use Rattle.proc_templates.specs.Templates.{exp_words, step_words, block_words, code, step_code, block_code}
use Rattle.proc_templates.specs.Compiled.{size_of_proc, lay_proc}

-- with the part's return seals: the first of them, and how many there are
pub record Drafted : Type 0 where
  pub laid : Laid
  pub spot : Spot
  pub first : ℕ
  pub seals : ℕ

-- the same with more items
unfoldable pub with_items : List Item → Drafted → Drafted
with_items xs d = record { laid = lay d.spot d.laid xs; spot = d.spot; first = d.first; seals = d.seals }

-- the same where a procedure stands
abbrev pub at_spot : Spot → Drafted → Drafted
at_spot spot d = record { laid = d.laid; spot = spot; first = d.first; seals = d.seals }

-- the same with other code
abbrev pub with_code : List Word → Drafted → Drafted
with_code code d =
    record { laid = record (d.laid) { code = code }; spot = d.spot; first = d.first; seals = d.seals }

-- the same with more words
abbrev pub with_words : List Word → Drafted → Drafted
with_words ws d = with_code (d.laid.code ++ ws) d

-- the seals that are left are those of the sites that are still to be written
pub record SealsLeft (sites : List ℕ) (spot : Spot) (first seals : ℕ) (lot : Stretch) : Type 0 where
  pub epilogue : spot.epilogue ≤ LAST_OFFSET
  pub base : spot.stack_base ≤ LAST_PLACE
  pub few : seals ≤ MOST_SEALS
  pub next : lot.base ≡ first + length sites
  pub left : lot.count + length sites ≡ seals

-- items are written, which are so many words and have so many calls
pub record Emits (items : List Item) (words sites : ℕ) (old new : Drafted) : Type 0 where
  pub written : new ≡ with_items items old
  pub grown : length new.laid.code ≡ length old.laid.code + words
  pub sited : length new.laid.sites ≡ length old.laid.sites + sites
  pub kept : new.seals ≡ old.seals

-- those of an expression, whose first free slot this is, of a statement and of a block
abbrev pub EmitsExp : FrameShape → ℕ → Exp → Drafted → Drafted → Type 0
EmitsExp f slot e old new = Emits (code f slot e) (exp_words e) (calls e) old new

abbrev pub EmitsStep : FrameShape → Statement → Drafted → Drafted → Type 0
EmitsStep f s old new = Emits (step_code f s) (step_words s) (step_calls s) old new

abbrev pub EmitsBlock : FrameShape → Block → Drafted → Drafted → Type 0
EmitsBlock f b old new = Emits (block_code f b) (block_words b) (block_calls b) old new

-- a procedure of a program is laid
pub record EmitsProc (m : Program) (p : Procedure) (old new : Drafted) : Type 0 where
  pub laid : new.laid ≡ lay_proc m old.laid p
  pub grown : length new.laid.code ≡ length old.laid.code + size_of_proc p
  pub sited : length new.laid.sites ≡ length old.laid.sites + procedure_calls p
  pub kept : new.seals ≡ old.seals
  pub base : new.spot.stack_base ≡ m.stack

-- the jump at an offset goes so far, and what stood after it stands after it as before
pub record Aims (at : ℕ) (far : ℤ) (old new : Drafted) : Type 0 where
  pub aimed : (d : Drafted) (before : ℤ) (xs : List Item) → length d.laid.code ≡ at
      → old ≡ with_items (goes before ∷ xs) d → new ≡ with_items (goes far ∷ xs) d
  pub grown : length new.laid.code ≡ length old.laid.code
  pub sited : new.laid.sites ≡ old.laid.sites
  pub kept : new.seals ≡ old.seals

-- so many words stand after those that were there
pub record PutsWords (words : List Word) (count : ℕ) (old new : List Word) : Type 0 where
  pub written : new ≡ old ++ words
  pub grown : length new ≡ length old + count
