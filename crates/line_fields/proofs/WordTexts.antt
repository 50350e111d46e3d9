-- A word is what its text is read as, and what is read as a word has this text.
use Rattle.std.proofs.Common.{◌≡◌, ◌≢◌, ℕ, ◌^◌, ◌<◌, ◌≤◌, true, false, List, [], ◌∷◌, ◌++◌, length, Option}
use Rattle.std.proofs.Common.{Some, None, refl, sym, ap, ◌∙◌, subst, arith, inl, append_assoc}
use Rattle.std.specs.Prelude.{ℤ, pos, negsuc, nat_le, ◌==◌, codes, slice_index, FitsSigned, option_map}
use Rattle.std.specs.Int.{w64}
use Rattle.std.specs.List.{list_all}
use Rattle.std.specs.Fmt.{decimal, signed_decimal}
use Rattle.std.specs.Str.{bytes_eq}
use Rattle.std.proofs.lemmas.Bool.{and_parts, leb-true, le-leb, ne_eqb, and_left, and_right}
use Rattle.std.proofs.lemmas.Fmt.{decimal_nonempty}
use Rattle.std.proofs.lemmas.Slice.Eq.{bytes_eq-Decides}
use Rattle.cap_words.specs.declared.TheConstants.{LAST_PLACE}
use Rattle.cap_words.specs.declared.Perm.{Perm}
use Rattle.cap_words.specs.declared.Perm.TheVariants.{No, R as ReadOnly, Rw, Rx, Rwx}
use Rattle.cap_words.specs.declared.Lin.{Lin}
use Rattle.cap_words.specs.declared.Lin.TheVariants.{Normal, Linear}
use Rattle.cap_words.specs.declared.CapFields.{CapFields}
use Rattle.cap_words.specs.declared.SealFields.{SealFields}
use Rattle.cap_words.specs.declared.Sealable.{Sealable}
use Rattle.cap_words.specs.declared.Sealable.TheVariants.{Mem as MemIn, Seal as SealIn}
use Rattle.cap_words.specs.declared.Word.{Word}
use Rattle.cap_words.specs.declared.Word.TheVariants.{Int, Mem, Seal, Sealed}
use Rattle.cap_words.specs.Names.{is_digit}
use Rattle.cap_words.specs.Text.{perm_name, lin_name, range_text, cap_text, seal_text, sealable_text}
use Rattle.cap_words.specs.Text.{sealed_text, word_text_of, perm_named, lin_named}
use Rattle.cap_words.specs.WordBytes.{ContentFits, WordFits}
use Rattle.cap_words.specs.WordReading.{as_word}
use Rattle.line_fields.specs.declared.TheConstants.{LAST_NATURAL}
use Rattle.line_fields.specs.Cuts.{cut, behind}
use Rattle.line_fields.specs.Numbers.{are_digits, number_in, integer_in}
use Rattle.cap_words.proofs.Offers.{perm_again, lin_again}
use Rattle.line_fields.specs.Words.{HasText, range_in, cap_in, seals_behind, content_behind, content_in}
use Rattle.line_fields.specs.Words.{sealed_in, unsealed_or, word_behind, candidate_in, where_text, word_in}
use Rattle.line_fields.proofs.Numbers.{digits_of_decimal, number_again, integer_again, number_is, integer_is}
use Rattle.line_fields.proofs.Numbers.{some_from, some_of, chosen}
use Rattle.line_fields.proofs.Fronts.{is_free, cut_front, decimal_free, signed_free}

-- ---- ranges and capabilities

abbrev range_then : SealFields → List ℕ → List ℕ
range_then s rest = decimal s.base ++ 44 ∷ (decimal s.end ++ 44 ∷ (signed_decimal s.cur ++ 41 ∷ rest))

range_again : (s : SealFields) (rest : List ℕ) → ContentFits (SealIn s)
    → range_in (range_then s rest) ≡ Some s
unfolding range_in
range_again s rest h =
    let most : s.end ≤ LAST_PLACE = h.0.1 in
    let order : s.base ≤ s.end = h.0.0 in
    let one =
    cut_front 44 (decimal s.base) (decimal s.end ++ 44 ∷ (signed_decimal s.cur ++ 41 ∷ rest))
    (decimal_free 44 s.base (inl (omega arith)) (omega (arith, order, most))) in
    let base = number_again LAST_PLACE s.base (omega (arith, order, most)) (omega (arith, order, most)) in
    let two =
    cut_front 44 (decimal s.end) (signed_decimal s.cur ++ 41 ∷ rest)
    (decimal_free 44 s.end (inl (omega arith)) (omega (arith, most))) in
    let end = number_again LAST_PLACE s.end most (omega (arith, most)) in
    let three =
    cut_front 41 (signed_decimal s.cur) rest
    (signed_free 41 s.cur (inl (omega arith)) (λ e. absurd (omega (arith, e))) h.1) in
    let cur = integer_again s.cur h.1 in
    let le : nat_le s.base s.end ≡ true = le-leb _ _ order in
    rw (one, base, two, end, three, cur, le) refl

perm_free : (x : Perm) → is_free 44 (perm_name x) ≡ true
perm_free No = refl
perm_free ReadOnly = refl
perm_free Rw = refl
perm_free Rx = refl
perm_free Rwx = refl

lin_free : (x : Lin) → is_free 44 (lin_name x) ≡ true
lin_free Normal = refl
lin_free Linear = refl

abbrev range_of : CapFields → SealFields
range_of c = record { base = c.base; end = c.end; cur = c.addr }

abbrev cap_then : CapFields → List ℕ → List ℕ
cap_then c rest = perm_name c.perm ++ 44 ∷ (lin_name c.lin ++ 44 ∷ range_then (range_of c) rest)

cap_again : (c : CapFields) (rest : List ℕ) → ContentFits (MemIn c) → cap_in (cap_then c rest) ≡ Some c
unfolding cap_in
cap_again c rest h =
    let one =
    cut_front 44 (perm_name c.perm) (lin_name c.lin ++ 44 ∷ range_then (range_of c) rest)
    (perm_free c.perm) in
    let perm = perm_again c.perm in
    let two = cut_front 44 (lin_name c.lin) (range_then (range_of c) rest) (lin_free c.lin) in
    let lin = lin_again c.lin in
    let range = range_again (range_of c) rest h in
    rw (one, perm, two, lin, range) refl

-- ---- contents and words

abbrev content_then : Sealable → List ℕ → List ℕ
content_then (MemIn c) rest = codes "cap(" ++ cap_then c rest
content_then (SealIn s) rest = codes "seal(" ++ range_then s rest

content_again : (x : Sealable) (rest : List ℕ) → ContentFits x → content_in (content_then x rest) ≡ Some x
unfolding content_in behind
content_again (MemIn c) rest h = let k = cap_again c rest h in ap (option_map MemIn) k
content_again (SealIn s) rest h = let k = range_again s rest h in ap (option_map SealIn) k

regroup_cap : (a p k l b m s e r : List ℕ)
    → (a ++ p ++ k ++ l ++ k ++ (b ++ k ++ m ++ k ++ s) ++ e) ++ r
    ≡ a ++ (p ++ (k ++ (l ++ (k ++ (b ++ (k ++ (m ++ (k ++ (s ++ (e ++ r))))))))))
regroup_cap a p k l b m s e r = simp append_assoc

regroup_seal : (a k b m s e r : List ℕ)
    → (a ++ (b ++ k ++ m ++ k ++ s) ++ e) ++ r ≡ a ++ (b ++ (k ++ (m ++ (k ++ (s ++ (e ++ r))))))
regroup_seal a k b m s e r = simp append_assoc

text_then : (x : Sealable) (rest : List ℕ) → sealable_text x ++ rest ≡ content_then x rest
unfolding cap_text seal_text range_text
text_then (MemIn c) rest =
    regroup_cap (codes "cap(") (perm_name c.perm) (codes ",") (lin_name c.lin) (decimal c.base)
    (decimal c.end) (signed_decimal c.addr) (codes ")") rest
text_then (SealIn s) rest =
    regroup_seal (codes "seal(") (codes ",") (decimal s.base) (decimal s.end) (signed_decimal s.cur)
    (codes ")") rest

regroup : (a b c d e : List ℕ) → a ++ b ++ c ++ d ++ e ≡ a ++ (b ++ (c ++ (d ++ e)))
regroup a b c d e = simp append_assoc

sealed_then : (n : ℕ) (x : Sealable)
    → sealed_text n x ≡ codes "sealed(" ++ (decimal n ++ 44 ∷ content_then x (41 ∷ []))
unfolding sealed_text
sealed_then n x =
    regroup (codes "sealed(") (decimal n) (codes ",") (sealable_text x) (codes ")")
    ∙ ap (λ t. codes "sealed(" ++ (decimal n ++ 44 ∷ t)) (text_then x (41 ∷ []))

-- ---- an integer begins as no other word does

not_digits : (c : ℕ) (t : List ℕ) → is_digit c ≡ false → are_digits (c ∷ t) ≡ false
not_digits c t h = and_right _ _ (and_right _ _ (and_left (is_digit c) (list_all is_digit t) h))

no_number : (most c : ℕ) (t : List ℕ) → is_digit c ≡ false → number_in most (c ∷ t) ≡ None
unfolding number_in
no_number most c t h = let n = not_digits c t h in rw n refl

no_integer : (c : ℕ) (t : List ℕ) → is_digit c ≡ false → (c == 45) ≡ false → integer_in (c ∷ t) ≡ None
unfolding integer_in
no_integer c t h e = let n = no_number 9223372036854775807 c t h in rw (e, n) refl

no_front : (fs text : List ℕ) → 0 < length text → slice_index text 0 ≢ 115 → behind (115 ∷ fs) text ≡ None
unfolding behind
no_front fs [] lt ne = absurd (omega arith)
no_front fs (c ∷ t) lt ne = let e : (c == 115) ≡ false = ne_eqb c 115 ne in rw e refl

digit_last : (ds : List ℕ) → 0 < length ds → list_all is_digit ds ≡ true → slice_index ds 0 ≤ 57
digit_last [] lt h = absurd (omega arith)
digit_last (d ∷ ds) lt h =
    let p = and_parts (is_digit d) (list_all is_digit ds) h in
    leb-true d 57 (and_parts (nat_le 48 d) (nat_le d 57) p.0).1

not_sealed : (z : ℤ) → FitsSigned w64 z → behind (codes "sealed(") (signed_decimal z) ≡ None
not_sealed (pos n) h =
    let small : n < 2 ^ 64 = omega (arith, h) in
    let some = decimal_nonempty n small in
    no_front (codes "ealed(") (decimal n) some
    (λ e. absurd (omega (arith, e, digit_last (decimal n) some (digits_of_decimal n small))))
not_sealed (negsuc n) h =
    no_front (codes "ealed(") (signed_decimal (negsuc n)) (omega arith) (λ e. absurd (omega (arith, e)))

no_rest : (t : List ℕ) → t ++ [] ≡ t
no_rest [] = refl
no_rest (x ∷ t) = ap (λ u. x ∷ u) (no_rest t)

unsealed_again : (x : Sealable) → ContentFits x → candidate_in (content_then x []) ≡ Some (as_word x)
unfolding candidate_in behind
unsealed_again (MemIn c) h =
    let n = no_integer 99 (codes "ap(" ++ cap_then c []) refl refl in
    let k = content_again (MemIn c) [] h in
    rw n (ap (option_map as_word) k)
unsealed_again (SealIn s) h =
    let n = no_integer 115 (codes "eal(" ++ range_then s []) refl refl in
    let k = content_again (SealIn s) [] h in
    rw n (ap (option_map as_word) k)

candidate_again : (w : Word) → HasText w → candidate_in (word_text_of w) ≡ Some w
unfolding candidate_in sealed_in behind
candidate_again (Int z) h =
    let b = not_sealed z h in
    let k = integer_again z h in
    ap (word_behind (signed_decimal z)) b ∙ ap (unsealed_or (signed_decimal z)) k
candidate_again (Mem c) h =
    ap candidate_in (sym (no_rest (cap_text c)) ∙ text_then (MemIn c) []) ∙ unsealed_again (MemIn c) h
candidate_again (Seal s) h =
    ap candidate_in (sym (no_rest (seal_text s)) ∙ text_then (SealIn s) []) ∙ unsealed_again (SealIn s) h
candidate_again (Sealed n x) h =
    let most : n ≤ LAST_NATURAL = h.0 in
    let one =
    cut_front 44 (decimal n) (content_then x (41 ∷ []))
    (decimal_free 44 n (inl (omega arith)) (omega (arith, most))) in
    let seal = number_again LAST_NATURAL n most (omega (arith, most)) in
    let k = content_again x (41 ∷ []) h.1 in
    ap candidate_in (sealed_then n x) ∙ rw (one, seal, k) refl

-- a word is what its text is read as
word_again : (w : Word) → HasText w → word_in (word_text_of w) ≡ Some w
unfolding word_in
word_again w h =
    let same : bytes_eq (word_text_of w) (word_text_of w) ≡ true =
    (bytes_eq-Decides (word_text_of w) (word_text_of w)).1 refl in
    ap (where_text (word_text_of w)) (candidate_again w h) ∙ rw same refl

-- the words of a machine have texts
pub fits_has_text : (w : Word) → WordFits w → HasText w
fits_has_text (Int n) h = h
fits_has_text (Mem c) h = h
fits_has_text (Seal s) h = h
fits_has_text (Sealed n x) h = let k = h.0 in (omega (arith, k), h.1)

pub text_is_word : (w : Word) (text : List ℕ) → HasText w × (text ≡ word_text_of w) → word_in text ≡ Some w
text_is_word w text h = ap word_in h.1 ∙ word_again w h.0

-- ---- and back

range_fits : (text : List ℕ) (s : SealFields) → range_in text ≡ Some s → ContentFits (SealIn s)
unfolding range_in
range_fits text s h =
    let a = some_from (cut 44 text) _ s h in
    let b = some_from (number_in LAST_PLACE a.0.0) _ s a.2 in
    let c = some_from (cut 44 a.0.1) _ s b.2 in
    let d = some_from (number_in LAST_PLACE c.0.0) _ s c.2 in
    let e = some_from (cut 41 c.0.1) _ s d.2 in
    let f = some_from (integer_in e.0.0) _ s e.2 in
    let k = chosen (nat_le b.0 d.0) (record { base = b.0; end = d.0; cur = f.0 }) s f.2 in
    let high = number_is LAST_PLACE d.0 c.0.0 (omega arith) d.1 in
    let place = integer_is f.0 e.0.0 f.1 in
    subst (λ (x : SealFields). ContentFits (SealIn x)) k.1 ((leb-true b.0 d.0 k.0, high.0), place.0)

cap_fits : (text : List ℕ) (c : CapFields) → cap_in text ≡ Some c → ContentFits (MemIn c)
unfolding cap_in
cap_fits text c h =
    let a = some_from (cut 44 text) _ c h in
    let b = some_from (perm_named a.0.0) _ c a.2 in
    let d = some_from (cut 44 a.0.1) _ c b.2 in
    let e = some_from (lin_named d.0.0) _ c d.2 in
    let f = some_from (range_in d.0.1) _ c e.2 in
    let made : CapFields =
    record { perm = b.0; lin = e.0; base = f.0.base; end = f.0.end; addr = f.0.cur } in
    let same : made ≡ c = (let g = f.2 in cc) in
    subst (λ (x : CapFields). ContentFits (MemIn x)) same (range_fits d.0.1 f.0 f.1)

seals_fit : (o : Option (List ℕ)) (x : Sealable) → seals_behind o ≡ Some x → ContentFits x
seals_fit None x h = absurd cc
seals_fit (Some text) x h =
    let k = some_of (range_in text) SealIn x h in
    subst ContentFits k.2 (range_fits text k.0 k.1)

content_fits_by : (text : List ℕ) (o : Option (List ℕ)) (x : Sealable) → content_behind text o ≡ Some x
    → ContentFits x
content_fits_by text None x h = seals_fit (behind (codes "seal(") text) x h
content_fits_by text (Some rest) x h =
    let k = some_of (cap_in rest) MemIn x h in
    subst ContentFits k.2 (cap_fits rest k.0 k.1)

content_fits : (text : List ℕ) (x : Sealable) → content_in text ≡ Some x → ContentFits x
unfolding content_in
content_fits text x h = content_fits_by text (behind (codes "cap(") text) x h

sealed_fits : (text : List ℕ) (w : Word) → sealed_in text ≡ Some w → HasText w
unfolding sealed_in
sealed_fits text w h =
    let a = some_from (cut 44 text) _ w h in
    let b = some_from (number_in LAST_NATURAL a.0.0) _ w a.2 in
    let d = some_from (content_in a.0.1) _ w b.2 in
    let same : Sealed b.0 d.0 ≡ w = (let g = d.2 in cc) in
    subst HasText same
    ((number_is LAST_NATURAL b.0 a.0.0 (omega arith) b.1).0, content_fits a.0.1 d.0 d.1)

as_word_fits : (x : Sealable) → ContentFits x → HasText (as_word x)
as_word_fits (MemIn c) h = h
as_word_fits (SealIn s) h = h

unsealed_fits : (text : List ℕ) (o : Option ℤ) (w : Word) → integer_in text ≡ o → unsealed_or text o ≡ Some w
    → HasText w
unsealed_fits text (Some n) w e h = let same : Int n ≡ w = cc in subst HasText same (integer_is n text e).0
unsealed_fits text None w e h =
    let k = some_of (content_in text) as_word w h in
    subst HasText k.2 (as_word_fits k.0 (content_fits text k.0 k.1))

word_fits_by : (text : List ℕ) (o : Option (List ℕ)) (w : Word) → word_behind text o ≡ Some w → HasText w
word_fits_by text None w h = unsealed_fits text (integer_in text) w refl h
word_fits_by text (Some rest) w h = sealed_fits rest w h

candidate_fits : (text : List ℕ) (w : Word) → candidate_in text ≡ Some w → HasText w
unfolding candidate_in
candidate_fits text w h = word_fits_by text (behind (codes "sealed(") text) w h

has_text : (text : List ℕ) (o : Option Word) (w : Word) → candidate_in text ≡ o → where_text text o ≡ Some w
    → HasText w × (text ≡ word_text_of w)
has_text text None w e h = absurd cc
has_text text (Some x) w e h =
    let k = chosen (bytes_eq (word_text_of x) text) x w h in
    subst (λ (y : Word). HasText y × (text ≡ word_text_of y)) k.1
    (candidate_fits text x e, sym ((bytes_eq-Decides (word_text_of x) text).0 k.0))

pub word_is : (w : Word) (text : List ℕ) → word_in text ≡ Some w → HasText w × (text ≡ word_text_of w)
unfolding word_in
word_is w text h = has_text text (candidate_in text) w refl h
