-- An image is read where it is spelled, and spelled where it was read.
use Rattle.std.proofs.Common.{◌≡◌, ℕ, ◌+◌, ◌<◌, ◌≤◌, true, false, eqb, List, ◌∷◌, ◌++◌}
use Rattle.std.proofs.Common.{length, Ok, Err, refl, sym, ap, append-nil, arith, take}
use Rattle.std.specs.List.{AllByRecursion}
use Rattle.std.specs.Str.{bytes_eq}
use Rattle.std.proofs.lemmas.Bool.{eqb-true, eq-eqb}
use Rattle.std.proofs.lemmas.Slice.Eq.{bytes_eq-Decides}
use Rattle.cap_words.specs.Reading.{next_bytes, next_number}
use Rattle.readers.proofs.Offers.{All, reads_then, reads_last, reads_done, reads_as, reads_text}
use Rattle.readers.proofs.Offers.{reads_learned, reads_tells}
use Rattle.readers.proofs.Offers as whole
use Rattle.cap_words.proofs.Offers.{IsBytes, Reads, number_reads, within_reads}
use Rattle.component_file.specs.Spelling.{u16_bytes, list_bytes}
use Rattle.component_file.proofs.Offers.{four_read}
use Rattle.linked_starts.specs.declared.TheConstants.{MOST_PARTS}
use Rattle.linked_starts.specs.Parts.{IsPart}
use Rattle.image_loader.specs.declared.TheConstants.{VERSION}
use Rattle.image_loader.specs.declared.fault.ImageFault.TheVariants.{Magic, Version, Short, Trailing}
use Rattle.image_loader.specs.declared.reading.Image.{Image}
use Rattle.image_loader.specs.Image.{IsImage, magic, image_bytes}
use Rattle.image_loader.specs.Reading.{field, next_header, next_count, next_parts, next_image, image_of}
use Rattle.image_loader.proofs.PartLaws.{reads_field, parts_read}

-- ---- magic and version

header_reads : Reads Short All (All {A = Unit {0}}) (λ _. magic ++ u16_bytes VERSION) next_header
unfolding next_header
header_reads = reads_as next_header
    (reads_text _ (λ c k. ap (λ l. magic ++ l) (append-nil (u16_bytes VERSION)))
    (reads_then (λ (c : Unit {0}). magic) (field (next_bytes 4)) _ (reads_field four_read) (λ four p0.
    reads_tells (bytes_eq four magic) Magic _ (λ e. sym ((bytes_eq-Decides four magic).0 e))
    (λ e. (bytes_eq-Decides four magic).1 (sym e))
    (reads_then (λ (c : Unit {0}). VERSION) (field (next_number 2)) _ (reads_field (number_reads 2))
    (λ version p1.
    reads_tells (eqb version VERSION) Version _ (λ e. sym (eqb-true _ _ e))
    (λ e. eq-eqb version VERSION (sym e))
    (reads_done tt (λ c k. refl) tt))))))
    (λ c k p. tt)
    (λ c k p. (refl, (omega arith, tt)))

-- ---- the image

pub image_reads : Reads Short All IsImage image_bytes next_image
unfolding next_image image_bytes list_bytes
image_reads = reads_as next_image
    (reads_then {A = Unit {0}} (λ (i : Image). tt) next_header _ header_reads (λ header p0.
    reads_then (λ (i : Image). i.stack) (field (next_number 4)) _ (reads_field (number_reads 4)) (λ stack p1.
    reads_then {P = λ (i : Image). AllByRecursion IsPart i.parts} (λ (i : Image). length i.parts)
    (field next_count) _ (reads_field (within_reads 2 1 MOST_PARTS (omega arith))) (λ count p2.
    reads_as _
    (reads_last (λ (i : Image). i.parts) (next_parts 0 count)
    (λ parts. record { stack = stack; parts = parts })
    (reads_learned (parts_read 0 count))
    (λ i k. rw (← k.0.1) refl)
    (λ parts p3. ((((tt, refl), refl), p3.0), refl)))
    (λ i k p. p.1)
    (λ i k p. (k.1, p))))))
    (λ i k p. record { stack = p.1.0; count = p.1.1.0; parts = p.1.1.1 })
    (λ i k p. (tt, (p.stack, (p.count, p.parts))))

-- ---- whole files

pub found_whole : (bytes : List ℕ) (i : Image) → IsBytes bytes → image_of bytes ≡ Ok i
    → IsImage i × (bytes ≡ image_bytes i)
unfolding image_of
found_whole = whole.found_whole image_reads Trailing

pub read_whole : (i : Image) → IsImage i → image_of (image_bytes i) ≡ Ok i
unfolding image_of
read_whole = whole.again_whole image_reads Trailing

-- an image that was cut is short somewhere
pub read_cut : (i : Image) (n : ℕ) → IsImage i → n < length (image_bytes i)
    → (at : ℕ) × (at ≤ n) × (image_of (take n (image_bytes i)) ≡ Err (Short at))
unfolding image_of
read_cut = whole.cut_whole image_reads Trailing

-- what stands after an image is too much
pub read_past : (i : Image) (b : ℕ) (more : List ℕ) → IsImage i
    → image_of (image_bytes i ++ b ∷ more) ≡ Err (Trailing (length (image_bytes i)))
unfolding image_of
read_past = whole.past_whole image_reads Trailing
