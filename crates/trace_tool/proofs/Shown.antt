-- The plain word at an address of an overlay.
use Rattle.std.proofs.Common.{◌≡◌, ℕ, Option, Some, None, refl, sym, ap, ◌∙◌}
use Rattle.std.specs.Prelude.{option_map}
use Rattle.std.specs.Option.{option_or}
use Rattle.cap_words.specs.declared.Word.{Word}
use Rattle.cap_words.specs.Text.{word_text_of}
use Rattle.lcm_machine.specs.Cells.{cell}
use Rattle.lcm_machine.specs.Mapped.{mapped_or}
use Rattle.trusted_border.specs.declared.layout.Layout.{Layout}
use Rattle.overlay_machine.specs.declared.words.OWord.{OWord}
use Rattle.overlay_machine.specs.State.{OState, framed, memory_word}
use Rattle.overlay_machine.specs.Flat.{flat, beside}
use Rattle.run_lines.specs.Views.{flat_view}

mapped : (f : OWord → Word) (m k : Option OWord)
    → mapped_or f m (mapped_or f k None) ≡ option_map f (option_or m k)
mapped f (Some w) k = refl
mapped f None (Some w) = refl
mapped f None None = refl

flat_at : (l : Layout) (o : OState) (a : ℕ)
    → (flat_view l o).cell a ≡ option_map (flat l o.frames) (memory_word o a)
unfolding beside
flat_at l o a = mapped (flat l o.frames) (cell o.maps.cells a) (framed o.frames a)

pub text_there : (l : Layout) (o : OState) (a : ℕ) (w : OWord) → Some w ≡ memory_word o a
    → option_map word_text_of ((flat_view l o).cell a) ≡ Some (word_text_of (flat l o.frames w))
text_there l o a w e =
    ap (option_map word_text_of) (flat_at l o a ∙ ap (option_map (flat l o.frames)) (sym e))

pub none_there : (l : Layout) (o : OState) (a : ℕ) → None ≡ memory_word o a → (flat_view l o).cell a ≡ None
none_there l o a e = flat_at l o a ∙ ap (option_map (flat l o.frames)) (sym e)
