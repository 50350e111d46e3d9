-- The overlay's state: registers and cells, and the frames of open calls.
use Rattle.std.specs.Prelude.{ℕ, ◌-◌, ◌==◌, nat_lt, List, [], ◌∷◌, Option, None, if◌then◌else◌, slice_get}
use Rattle.std.specs.Prelude.{find, length}
use Rattle.std.specs.Option.{option_or}
use Rattle.std.specs.Ordering.{nat_cmp}
use Rattle.std.specs.FinMap as map
use Rattle.lcm_machine.specs.Maps.{State}
use Rattle.lcm_machine.specs.Cells.{cell}
use Rattle.overlay_machine.specs.declared.words.OWord.{OWord}

-- the frame of an open call: the words of the cells from base to end, which are not in memory
pub record OpenFrame : Type 0 where
  pub call : ℕ
  pub site : ℕ
  pub base : ℕ
  pub end : ℕ
  pub words : List OWord

-- registers and cells, the frames, newest first, and how many calls were made. A call is open while its frame
-- is in the list.
pub record OState : Type 0 where
  pub maps : State OWord
  pub frames : List OpenFrame
  pub calls : ℕ

abbrev pub Cells : Type 0
Cells = map.FinMap nat_cmp OWord

-- the word that a frame has at an address
unfoldable pub word_of : OpenFrame → ℕ → Option OWord
word_of f a = if nat_lt a f.base then None else slice_get f.words (a - f.base)

-- the word that lies in a frame at an address
abbrev pub framed : List OpenFrame → ℕ → Option OWord
framed [] a = None
framed (f ∷ fs) a = option_or (word_of f a) (framed fs a)

-- the word at an address: that of its cell, or else of a frame
abbrev pub memory_word : OState → ℕ → Option OWord
memory_word o a = option_or (cell o.maps.cells a) (framed o.frames a)

-- the frame of a call, while it is open
unfoldable pub frame_of : List OpenFrame → ℕ → Option OpenFrame
frame_of fs k = find (λ f. f.call == k) fs

-- how many words the newest frame has, 0 without one, and each of them
abbrev pub newest_size : List OpenFrame → ℕ
newest_size [] = 0
newest_size (f ∷ fs) = length f.words

abbrev pub newest_word : List OpenFrame → ℕ → Option OWord
newest_word [] i = None
newest_word (f ∷ fs) i = slice_get f.words i
