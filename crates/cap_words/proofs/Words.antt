-- A word is read where it is spelled, and spelled where it was read.
use Rattle.std.proofs.Common.{◌≡◌, ℕ, zero, suc, ◌+◌, ◌<◌, ◌≤◌, false, cond, eqb, List, [], ◌∷◌, ◌++◌, length}
use Rattle.std.proofs.Common.{take, ℤ, pos, Some, Ok, refl, sym, ap, subst, ◌∙◌, arith, length-append}
use Rattle.std.specs.Int.{w64}
use Rattle.std.proofs.lemmas.List.{take_at}
use Rattle.std.proofs.lemmas.Bool.{eqb-true, eqb-false}
use Rattle.std.specs.Int.RustNames.{FitsSigned}
use Rattle.cap_words.specs.declared.TheConstants.{LAST_PLACE}
use Rattle.cap_words.specs.declared.Perm.{Perm}
use Rattle.cap_words.specs.declared.Perm.TheVariants.{No, R as ReadOnly, Rw, Rx, Rwx}
use Rattle.cap_words.specs.declared.Lin.{Lin}
use Rattle.cap_words.specs.declared.Lin.TheVariants.{Normal, Linear}
use Rattle.cap_words.specs.declared.CapFields.{CapFields}
use Rattle.cap_words.specs.declared.SealFields.{SealFields}
use Rattle.cap_words.specs.declared.Sealable.{Sealable}
use Rattle.cap_words.specs.declared.Sealable.TheVariants.{Mem as MemIn, Seal as SealIn}
use Rattle.cap_words.specs.declared.Word.{Word}
use Rattle.cap_words.specs.declared.Word.TheVariants.{Int, Mem, Seal, Sealed}
use Rattle.cap_words.specs.declared.bytes.cursor.FieldFault.TheVariants.{Short, BadField}
use Rattle.cap_words.specs.Ranges.{IsRange}
use Rattle.cap_words.specs.Face.{CapInOrder, SealsInOrder}
use Rattle.cap_words.specs.Faces.{perm_number}
use Rattle.readers.specs.Readers.{◌>>=◌}
use Rattle.cap_words.specs.Reading.{Input, next_byte, next_signed, meant}
use Rattle.cap_words.specs.WordBytes.{number_bytes, signed_bytes, lin_number, cap_bytes, seal_bytes}
use Rattle.cap_words.specs.WordBytes.{content_bytes, word_bytes_of, ContentFits, WordFits, IsUnsealed}
use Rattle.cap_words.specs.WordBytes.{SpellsWord}
use Rattle.cap_words.specs.WordReading.{perm_meant, lin_meant, next_in_space, next_cap, next_seal_cap}
use Rattle.cap_words.specs.WordReading.{content_tagged, next_content, as_word, unsealed_tagged, next_unsealed}
use Rattle.cap_words.specs.WordReading.{next_sealed, next_word}
use Rattle.readers.proofs.Offers.{after, All, reads_then, reads_last, reads_as, reads_placed, reads_known}
use Rattle.readers.proofs.Offers.{reads_text, reads_case, reads_if, reads_none}
use Rattle.cap_words.proofs.ByteReads.{IsBytes, Reads}
use Rattle.cap_words.proofs.Fields.{byte_reads, signed_reads, meant_reads, within_reads}

-- ---- fields of a capability

perm_there : (a : ℕ) (p : Perm) → perm_meant a ≡ Some p → perm_number p ≡ a
perm_there zero p e = let is : No ≡ p = cc in ap perm_number (sym is)
perm_there (suc zero) p e = let is : ReadOnly ≡ p = cc in ap perm_number (sym is)
perm_there (suc (suc zero)) p e = let is : Rw ≡ p = cc in ap perm_number (sym is)
perm_there (suc (suc (suc zero))) p e = let is : Rx ≡ p = cc in ap perm_number (sym is)
perm_there (suc (suc (suc (suc zero)))) p e = let is : Rwx ≡ p = cc in ap perm_number (sym is)
perm_there (suc (suc (suc (suc (suc a))))) p e = absurd cc

perm_back : (p : Perm) → (perm_number p < 256) × (perm_meant (perm_number p) ≡ Some p)
perm_back No = (omega arith, refl)
perm_back ReadOnly = (omega arith, refl)
perm_back Rw = (omega arith, refl)
perm_back Rx = (omega arith, refl)
perm_back Rwx = (omega arith, refl)

perm_reads : Reads Short All (All {A = Perm}) (λ p. perm_number p ∷ []) (meant perm_meant next_byte)
perm_reads = meant_reads perm_meant perm_number next_byte byte_reads (λ a p fits e. (tt, perm_there a p e))
    (λ p q. perm_back p)

lin_there : (a : ℕ) (l : Lin) → lin_meant a ≡ Some l → lin_number l ≡ a
lin_there zero l e = let is : Normal ≡ l = cc in ap lin_number (sym is)
lin_there (suc zero) l e = let is : Linear ≡ l = cc in ap lin_number (sym is)
lin_there (suc (suc a)) l e = absurd cc

lin_back : (l : Lin) → (lin_number l < 256) × (lin_meant (lin_number l) ≡ Some l)
lin_back Normal = (omega arith, refl)
lin_back Linear = (omega arith, refl)

lin_reads : Reads Short All (All {A = Lin}) (λ l. lin_number l ∷ []) (meant lin_meant next_byte)
lin_reads = meant_reads lin_meant lin_number next_byte byte_reads (λ a l fits e. (tt, lin_there a l e))
    (λ l q. lin_back l)

pub in_space_reads : (low : ℕ) → Reads Short All (λ n. (low ≤ n) × (n ≤ LAST_PLACE)) (number_bytes 4)
    (next_in_space low)
in_space_reads low = within_reads 4 low LAST_PLACE (omega arith)

-- ---- capabilities

-- an end that is not below its base
range_there : (base c_base c_end : ℕ) → c_base ≡ base → IsRange base c_end → IsRange c_base c_end
range_there base c_base c_end is p = (omega (arith, is, p.0), p.1)

cap_reads : Reads Short All (λ c. CapInOrder c × FitsSigned w64 c.addr) cap_bytes next_cap
unfolding next_cap cap_bytes
cap_reads = reads_as next_cap
    (reads_then (λ (c : CapFields). c.perm) (meant perm_meant next_byte) _ perm_reads (λ perm p0.
    reads_then (λ (c : CapFields). c.lin) (meant lin_meant next_byte) _ lin_reads (λ lin p1.
    reads_then {P = λ c. CapInOrder c × FitsSigned w64 c.addr} (λ (c : CapFields). c.base)
    (next_in_space 0) _ (in_space_reads 0) (λ base p2.
    reads_as _
    (reads_then (λ (c : CapFields). c.end) (next_in_space base) _ (in_space_reads base) (λ end p3.
    reads_last (λ (c : CapFields). c.addr) next_signed
    (λ addr. record { perm = perm; lin = lin; base = base; end = end; addr = addr }) signed_reads
    (λ c k. rw (← k.1, ← k.0.1, ← k.0.0.1, ← k.0.0.0.1) refl)
    (λ addr p4. (((((tt, refl), refl), refl), refl), refl))))
    (λ c k p. (range_there base c.base c.end k.1 p.0, p.1))
    (λ c k p. (range_there c.base base c.end (sym k.1) p.0, p.1))))))
    (λ c k p. p.1.1.1)
    (λ c k p. (tt, (tt, ((omega arith, omega (arith, p.0.0, p.0.1)), p))))

seal_cap_reads : Reads Short All (λ c. SealsInOrder c × FitsSigned w64 c.cur) seal_bytes next_seal_cap
unfolding next_seal_cap seal_bytes
seal_cap_reads = reads_as next_seal_cap
    (reads_then {P = λ c. SealsInOrder c × FitsSigned w64 c.cur} (λ (c : SealFields). c.base)
    (next_in_space 0) _ (in_space_reads 0) (λ base p0.
    reads_as _
    (reads_then (λ (c : SealFields). c.end) (next_in_space base) _ (in_space_reads base) (λ end p1.
    reads_last (λ (c : SealFields). c.cur) next_signed (λ cur. record { base = base; end = end; cur = cur })
    signed_reads (λ c k. rw (← k.1, ← k.0.1) refl) (λ cur p2. (((tt, refl), refl), refl))))
    (λ c k p. (range_there base c.base c.end k.1 p.0, p.1))
    (λ c k p. (range_there c.base base c.end (sym k.1) p.0, p.1))))
    (λ c k p. p.1)
    (λ c k p. ((omega arith, omega (arith, p.0.0, p.0.1)), p))

-- ---- tags

content_tag : Sealable → ℕ
content_tag (MemIn c) = 1
content_tag (SealIn s) = 2

content_tail : Sealable → List ℕ
content_tail (MemIn c) = cap_bytes c
content_tail (SealIn s) = seal_bytes s

content_is : (c : Sealable) → content_tag c ∷ content_tail c ≡ content_bytes c
unfolding content_tag content_tail
content_is (MemIn c) = refl
content_is (SealIn s) = refl

tag_in_byte : (c : Sealable) → content_tag c < 256
unfolding content_tag
tag_in_byte (MemIn c) = omega arith
tag_in_byte (SealIn s) = omega arith

as_mem : (b : Sealable) → content_tag b ≡ 1 → ContentFits b → (a : CapFields) × (MemIn a ≡ b) × All a
    × (CapInOrder a × FitsSigned w64 a.addr)
unfolding content_tag
as_mem (MemIn c) e fits = (c, refl, tt, fits)
as_mem (SealIn s) e fits = absurd cc

as_seal : (b : Sealable) → content_tag b ≡ 2 → ContentFits b → (a : SealFields) × (SealIn a ≡ b) × All a
    × (SealsInOrder a × FitsSigned w64 a.cur)
unfolding content_tag
as_seal (MemIn c) e fits = absurd cc
as_seal (SealIn s) e fits = (s, refl, tt, fits)

no_content : (n : ℕ) → eqb n 1 ≡ false → eqb n 2 ≡ false → (b : Sealable) → content_tag b ≡ n → ⊥
unfolding content_tag
no_content n not1 not2 (MemIn c) e = eqb-false _ _ not1 (sym e)
no_content n not1 not2 (SealIn s) e = eqb-false _ _ not2 (sym e)

content_tagged_reads : (at tag : ℕ) → Reads Short (λ b. content_tag b ≡ tag) ContentFits content_tail
    (content_tagged at tag)
unfolding content_tagged content_tag content_tail
content_tagged_reads at tag =
    reads_if (eqb tag 1) _ _
    (λ is. reads_case next_cap MemIn cap_reads (λ a j p. (sym (eqb-true _ _ is), p, refl))
    (λ b k q. as_mem b (k ∙ eqb-true _ _ is) q))
    (λ not1. reads_if (eqb tag 2) _ _
    (λ is. reads_case next_seal_cap SealIn seal_cap_reads (λ a j p. (sym (eqb-true _ _ is), p, refl))
    (λ b k q. as_seal b (k ∙ eqb-true _ _ is) q))
    (λ not2. reads_none (BadField at) (no_content tag not1 not2)))

content_reads : Reads Short All ContentFits content_bytes next_content
unfolding next_content
content_reads = reads_placed (λ at. next_byte >>= content_tagged at) (λ at.
    reads_as _
    (reads_text _ (λ c k. content_is c)
    (reads_then content_tag next_byte (content_tagged at) byte_reads
    (λ tag p. reads_known (content_tagged_reads at tag))))
    (λ c k p. p.1)
    (λ c k p. (tag_in_byte c, p)))

-- ---- words

word_tag : Word → ℕ
word_tag (Int n) = 0
word_tag (Mem c) = 1
word_tag (Seal s) = 2
word_tag (Sealed seal content) = 3

word_tail : Word → List ℕ
word_tail (Int n) = signed_bytes n
word_tail (Mem c) = cap_bytes c
word_tail (Seal s) = seal_bytes s
word_tail (Sealed seal content) = number_bytes 4 seal ++ content_bytes content

word_is : (w : Word) → word_tag w ∷ word_tail w ≡ word_bytes_of w
unfolding word_tag word_tail
word_is (Int n) = refl
word_is (Mem c) = refl
word_is (Seal s) = refl
word_is (Sealed seal content) = refl

word_tag_in_byte : (w : Word) → word_tag w < 256
unfolding word_tag
word_tag_in_byte (Int n) = omega arith
word_tag_in_byte (Mem c) = omega arith
word_tag_in_byte (Seal s) = omega arith
word_tag_in_byte (Sealed seal content) = omega arith

as_int : (w : Word) → word_tag w ≡ 0 → WordFits w → (n : ℤ) × (Int n ≡ w) × All n × FitsSigned w64 n
unfolding word_tag
as_int (Int n) e fits = (n, refl, tt, fits)
as_int (Mem c) e fits = absurd cc
as_int (Seal s) e fits = absurd cc
as_int (Sealed seal content) e fits = absurd cc

-- a word that is no integer and not sealed
as_content : (tag : ℕ) (w : Word) → word_tag w ≡ tag → eqb tag 0 ≡ false → WordFits w × IsUnsealed w
    → (c : Sealable) × (as_word c ≡ w) × (content_tag c ≡ tag) × ContentFits c
unfolding word_tag content_tag
as_content tag (Int n) e not fits = absurd (eqb-false _ _ not (sym e))
as_content tag (Mem c) e not fits = (MemIn c, refl, e, fits.0)
as_content tag (Seal s) e not fits = (SealIn s, refl, e, fits.0)
as_content tag (Sealed seal content) e not fits = absurd fits.1

bare : (c : Sealable) (tag : ℕ) → content_tag c ≡ tag → ContentFits c → (word_tag (as_word c) ≡ tag)
    × (WordFits (as_word c) × IsUnsealed (as_word c)) × (word_tail (as_word c) ≡ content_tail c)
unfolding word_tag word_tail content_tag content_tail
bare (MemIn c) tag e fits = (e, (fits, tt), refl)
bare (SealIn s) tag e fits = (e, (fits, tt), refl)

unsealed_tagged_reads : (at tag : ℕ) → Reads Short (λ w. word_tag w ≡ tag)
    (λ w. WordFits w × IsUnsealed w) word_tail (unsealed_tagged at tag)
unfolding unsealed_tagged word_tag word_tail
unsealed_tagged_reads at tag =
    reads_if (eqb tag 0) _ _
    (λ is. reads_case next_signed Int signed_reads (λ n j p. (sym (eqb-true _ _ is), (p, tt), refl))
    (λ w k q. as_int w (k ∙ eqb-true _ _ is) q.0))
    (λ not. reads_case (content_tagged at tag) as_word (content_tagged_reads at tag)
    (λ c j p. bare c tag j p) (λ w k q. as_content tag w k not q))

pub unsealed_reads : Reads Short All (λ w. WordFits w × IsUnsealed w) word_bytes_of next_unsealed
unfolding next_unsealed
unsealed_reads = reads_placed (λ at. next_byte >>= unsealed_tagged at) (λ at.
    reads_as _
    (reads_text _ (λ w k. word_is w)
    (reads_then word_tag next_byte (unsealed_tagged at) byte_reads
    (λ tag p. reads_known (unsealed_tagged_reads at tag))))
    (λ w k p. p.1)
    (λ w k p. (word_tag_in_byte w, p)))

-- ---- sealed words

seal_of : Word → ℕ
seal_of (Sealed seal content) = seal
seal_of _ = 0

content_of : Word → Sealable
content_of (Sealed seal content) = content
content_of _ = SealIn (record { base = 0; end = 0; cur = pos 0 })

is_sealed : (seal : ℕ) (w : Word) → word_tag w ≡ 3 → seal_of w ≡ seal → Sealed seal (content_of w) ≡ w
unfolding word_tag seal_of content_of
is_sealed seal (Int n) e same = absurd cc
is_sealed seal (Mem c) e same = absurd cc
is_sealed seal (Seal s) e same = absurd cc
is_sealed seal (Sealed o content) e same = ap (λ n. Sealed n content) (sym same)

sealed_tail : (w : Word) → word_tag w ≡ 3 → number_bytes 4 (seal_of w) ++ content_bytes (content_of w)
    ≡ word_tail w
unfolding word_tag word_tail seal_of content_of
sealed_tail (Int n) e = absurd cc
sealed_tail (Mem c) e = absurd cc
sealed_tail (Seal s) e = absurd cc
sealed_tail (Sealed o content) e = refl

sealed_fits : (w : Word) → word_tag w ≡ 3 → ((0 ≤ seal_of w) × (seal_of w ≤ LAST_PLACE))
    × ContentFits (content_of w) → WordFits w
unfolding word_tag seal_of content_of
sealed_fits (Int n) e p = absurd cc
sealed_fits (Mem c) e p = absurd cc
sealed_fits (Seal s) e p = absurd cc
sealed_fits (Sealed o content) e p = (p.0.1, p.1)

fits_sealed : (w : Word) → word_tag w ≡ 3 → WordFits w → ((0 ≤ seal_of w) × (seal_of w ≤ LAST_PLACE))
    × ContentFits (content_of w)
unfolding word_tag seal_of content_of
fits_sealed (Int n) e p = absurd cc
fits_sealed (Mem c) e p = absurd cc
fits_sealed (Seal s) e p = absurd cc
fits_sealed (Sealed o content) e p = ((omega arith, p.0), p.1)

sealed_reads : Reads Short (λ w. word_tag w ≡ 3) WordFits word_tail next_sealed
unfolding next_sealed word_tag seal_of content_of
sealed_reads =
    reads_as _
    (reads_text _ sealed_tail
    (reads_then seal_of (next_in_space 0) _ (in_space_reads 0) (λ seal p.
    reads_last content_of next_content (λ content. Sealed seal content) content_reads
    (λ w k. is_sealed seal w k.0 k.1) (λ content q. ((refl, refl), refl)))))
    sealed_fits
    fits_sealed

is_unsealed : (tag : ℕ) (w : Word) → eqb tag 3 ≡ false → word_tag w ≡ tag → IsUnsealed w
unfolding word_tag
is_unsealed tag (Int n) not e = tt
is_unsealed tag (Mem c) not e = tt
is_unsealed tag (Seal s) not e = tt
is_unsealed tag (Sealed o content) not e = eqb-false _ _ not (sym e)

pub word_reads : Reads Short All WordFits word_bytes_of next_word
unfolding next_word
word_reads = reads_placed (λ at. next_byte >>= λ tag. cond (eqb tag 3) next_sealed (unsealed_tagged at tag))
    (λ at.
    reads_as _
    (reads_text _ (λ w k. word_is w)
    (reads_then word_tag next_byte _ byte_reads (λ tag p. reads_known (reads_if (eqb tag 3) _ _
    (λ is. subst (λ n. Reads Short (λ w. word_tag w ≡ n) WordFits word_tail next_sealed)
    (sym (eqb-true _ _ is)) sealed_reads)
    (λ not. reads_as _ (unsealed_tagged_reads at tag) (λ w k q. q.0)
    (λ w k q. (q, is_unsealed tag w not k)))))))
    (λ w k p. p.1)
    (λ w k p. (word_tag_in_byte w, p)))

-- ---- a word at the front

-- what was read stands there
pub found_in_front : (bytes : List ℕ) (w : Word) (left : Input) → IsBytes bytes
    → next_word (record { at = 0; rest = bytes }) ≡ Ok (w, left) → (left.at ≤ length bytes)
    × SpellsWord (take left.at bytes) w
found_in_front bytes w left fits e =
    let t = word_reads.takes (record { at = 0; rest = bytes }) w left fits e in
    let len : length bytes ≡ length (word_bytes_of w) + length left.rest = ap length t.2.parts
    ∙ length-append (word_bytes_of w) left.rest in
    let at : length (word_bytes_of w) ≡ left.at = omega (arith, t.2.at) in
    let front : take left.at bytes ≡ word_bytes_of w = ap (take left.at) t.2.parts
    ∙ take_at (word_bytes_of w) left.rest left.at at in
    (omega (arith, len, at), (t.1, front))

-- what stands there is read
pub read_in_front : (w : Word) (front rest bytes : List ℕ) → SpellsWord front w → bytes ≡ front ++ rest
    → next_word (record { at = 0; rest = bytes }) ≡ Ok (w, after 0 front rest)
read_in_front w front rest bytes s e =
    ap (λ l. next_word (record { at = 0; rest = l })) (e ∙ ap (λ l. l ++ rest) s.1)
    ∙ word_reads.again w 0 rest tt s.0 ∙ ap (λ l. Ok (w, after 0 l rest)) (sym s.1)
