-- Whom sources call, with which words, from where: what a run shows is what the refined meaning tells.
use Rattle.source_laws.specs.Seen.{Back, nothing_back, Shown, events_of, event_outs, event_items}
use Rattle.std.specs.Prelude.{◌≡◌, ℕ, zero, suc, ◌≤◌, pos, List, [], ◌∷◌, ◌++◌, map, slice_index_or}
use Rattle.std.specs.Prelude.{Bool, false}
use Rattle.cap_words.specs.declared.Word.TheVariants.{Int}
use Rattle.linked_starts.specs.Started.{StartSeen}
use Rattle.trusted_border.specs.declared.layout.Layout.{Layout}
use Rattle.overlay_machine.specs.declared.words.OWord.{OWord}
use Rattle.overlay_machine.specs.declared.words.OWord.TheVariants.{Plain}
use Rattle.overlay_machine.specs.State.{OState}
use Rattle.overlay_machine.specs.Step.{goes, overlay_step}
use Rattle.overlay_machine.specs.Events.{step_event}
use Rattle.overlay_machine.specs.Starting.{overlay_at}
use Rattle.run_lines.specs.Layout.{layout}
use Rattle.template_runs.specs.Runs.{is_inside}
use Rattle.proc_semantics.specs.Values.{World}
use Rattle.proc_semantics.specs.Marked.{Marks, Thing, Whence, OwnWord, ImportWord, CameWord, refined}
use Rattle.proc_semantics.specs.Marked.{report_to, marked_meaning}

-- from one overlay a run comes to another: of it what went out, and what came in, each with its words
pub data RunTells (l : Layout) (o : OState) : List Shown → List (Thing OWord Back) → OState → Type 0 where
  none_yet : RunTells l o [] [] o
  and_then : {es : List Shown} {is : List (Thing OWord Back)} {p q : OState} → RunTells l o es is p
      → overlay_step l p ≡ goes q
      → RunTells l o (es ++ event_outs l q (step_event l p q)) (is ++ event_items l q (step_event l p q)) q

-- the words that came with an item
abbrev pub words_at : List (Thing OWord Back) → ℕ → List OWord
words_at [] k = []
words_at (x ∷ xs) zero = x.words
words_at (x ∷ xs) (suc k) = words_at xs k

-- and what a procedure that the item enters would give back
abbrev pub back_at : List (Thing OWord Back) → ℕ → Back
back_at [] k = nothing_back
back_at (x ∷ xs) zero = x.entry
back_at (x ∷ xs) (suc k) = back_at xs k

-- the word that is there from whence it is
abbrev pub word_from : Marks OWord → List (Thing OWord Back) → Whence → OWord
word_from marks is (OwnWord home j x) = marks.own home j x
word_from marks is (ImportWord home k x) = marks.imported home k x
word_from marks is (CameWord k j) = slice_index_or (words_at is k) j (Plain (Int (pos 0)))

-- what is told begins with what has left, and where code outside runs that is all
abbrev pub TellsSo : Bool → List Shown → List Shown → Type 0
TellsSo inside es told = ((rest : List Shown) × (told ≡ es ++ rest)) × (inside ≡ false → told ≡ es)

-- the marks are words: under every large enough fuel the refined meaning tells what the run has shown
abbrev pub WordsTold : Marks OWord → World → ℕ → StartSeen → Type 0
WordsTold marks world stack s =
    (es : List Shown) (is : List (Thing OWord Back)) (p : OState)
    → RunTells (layout s) (overlay_at s).state es is p
    → (enough : ℕ) × ((f : ℕ) → enough ≤ f
    → TellsSo (is_inside (layout s) p) es (events_of (marked_meaning OWord Back marks world stack is f)))

-- the marks say whence: the refined meaning's marks, read as the words that are there, are what the run has
-- shown
abbrev pub WhenceTold : Marks OWord → World → ℕ → StartSeen → Type 0
WhenceTold marks world stack s =
    (es : List Shown) (is : List (Thing OWord Back)) (p : OState)
    → RunTells (layout s) (overlay_at s).state es is p
    → (enough : ℕ) × ((f : ℕ) → enough ≤ f
    → TellsSo (is_inside (layout s) p) es (events_of (report_to (word_from marks is) (back_at is)
    (refined world stack (map (λ x. x.item) is) f))))
