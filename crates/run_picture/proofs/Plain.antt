-- Texts of which no byte is escaped: names, numbers, words, and what tells where a jump leads.
use Rattle.std.proofs.Common.{◌≡◌, ℕ, suc, ◌+◌, ◌%◌, ◌^◌, ◌<◌, ◌≤◌, Bool, true, false, List, [], ◌∷◌, ◌++◌}
use Rattle.std.proofs.Common.{refl, sym, ap, ◌∙◌, subst, arith, eqb-true}
use Rattle.std.specs.Prelude.{ℤ, pos, negsuc, codes, decimal, nat_eq, nat_le, not, ◌&&◌, length, slice_index}
use Rattle.std.specs.Prelude.{FitsSigned}
use Rattle.std.specs.Int.{w64}
use Rattle.std.specs.Fmt.{signed_decimal}
use Rattle.std.specs.List.{list_all, join_with_byte}
use Rattle.std.proofs.lemmas.Bool.{cond_both, and_parts}
use Rattle.std.proofs.lemmas.Fmt.{decimal_by_steps}
use Rattle.std.proofs.lemmas.List.Concat.{flat_map-append}
use Rattle.cap_words.specs.declared.TheConstants.{LONGEST_NAME, LAST_PLACE}
use Rattle.cap_words.specs.declared.Perm.{Perm}
use Rattle.cap_words.specs.declared.Perm.TheVariants.{No, R as ReadOnly, Rw, Rx, Rwx}
use Rattle.cap_words.specs.declared.Lin.{Lin}
use Rattle.cap_words.specs.declared.Lin.TheVariants.{Normal, Linear}
use Rattle.cap_words.specs.declared.Sealable.{Sealable}
use Rattle.cap_words.specs.declared.Sealable.TheVariants.{Mem as MemIn, Seal as SealIn}
use Rattle.cap_words.specs.declared.Word.{Word}
use Rattle.cap_words.specs.declared.Word.TheVariants.{Int, Mem, Seal, Sealed}
use Rattle.cap_words.specs.Names.{is_digit, is_name_byte, is_name}
use Rattle.cap_words.specs.Text.{perm_name, lin_name, range_text, cap_text, seal_text, sealable_text}
use Rattle.cap_words.specs.Text.{sealed_text, word_text_of}
use Rattle.cap_words.specs.WordBytes.{ContentFits}
use Rattle.source_events.specs.declared.FeedBack.{FeedBack}
use Rattle.source_events.specs.declared.FeedBack.TheVariants as back
use Rattle.source_events.specs.declared.FeedPair.{FeedPair}
use Rattle.source_events.specs.declared.FeedPair.TheVariants as handed
use Rattle.source_events.specs.Forms.{BackFits, PairFits, back_text, pair_text}
use Rattle.line_fields.specs.Words.{HasText}
use Rattle.run_picture.specs.Shapes.{escaped_byte, escaped}

pub record Plain (s : List ℕ) : Type 0 where
  pub same : escaped s ≡ s

pub both : {a b : List ℕ} → Plain a → Plain b → Plain (a ++ b)
both {a = a} {b = b} h k = record {
  same = flat_map-append escaped_byte a b ∙ ap (λ t. t ++ escaped b) h.same ∙ ap (λ t. a ++ t) k.same;
}

-- ---- bytes

stays : (b : ℕ) → (b ≡ 38 → ⊥) → (b ≡ 60 → ⊥) → (b ≡ 62 → ⊥) → (b ≡ 34 → ⊥) → escaped_byte b ≡ b ∷ []
stays b n1 n2 n3 n4 =
    cond_both (nat_eq b 38) _ _ (λ t. t ≡ b ∷ []) (λ e. absurd (n1 (eqb-true b 38 e))) (λ e.
    cond_both (nat_eq b 60) _ _ (λ t. t ≡ b ∷ []) (λ e. absurd (n2 (eqb-true b 60 e))) (λ e.
    cond_both (nat_eq b 62) _ _ (λ t. t ≡ b ∷ []) (λ e. absurd (n3 (eqb-true b 62 e))) (λ e.
    cond_both (nat_eq b 34) _ _ (λ t. t ≡ b ∷ []) (λ e. absurd (n4 (eqb-true b 34 e))) (λ e. refl))))

-- bytes of a kind that the four aren't of
module _ (p : ℕ → Bool) (n1 : p 38 ≡ false) (n2 : p 60 ≡ false) (n3 : p 62 ≡ false) (n4 : p 34 ≡ false) where
  other : (b c : ℕ) → p b ≡ true → p c ≡ false → b ≡ c → ⊥
  other b c h k e = let bad : true ≡ false = sym h ∙ ap p e ∙ k in cc

  all_stay : (s : List ℕ) → list_all p s ≡ true → Plain s
  all_stay [] h = record { same = refl }
  all_stay (b ∷ s) h =
      let q = and_parts (p b) (list_all p s) h in
      let one =
      stays b (other b 38 q.0 n1) (other b 60 q.0 n2) (other b 62 q.0 n3) (other b 34 q.0 n4) in
      record { same = ap (λ t. t ++ escaped s) one ∙ ap (λ t. b ∷ t) (all_stay s q.1).same }

pub name_plain : (s : List ℕ) → is_name s ≡ true → Plain s
unfolding is_name
name_plain s h =
    all_stay is_name_byte refl refl refl refl s (and_parts
    (nat_le 1 (length s) && nat_le (length s) LONGEST_NAME && not (is_digit (slice_index s 0)))
    (list_all is_name_byte s) h).1

-- ---- numbers

digit_plain : (b : ℕ) → 48 ≤ b → b < 58 → Plain (b ∷ [])
digit_plain b low high = record {
  same = ap (λ t. t ++ [])
      (stays b (λ e. omega arith) (λ e. omega arith) (λ e. omega arith) (λ e. omega arith));
}

pub decimal_plain : (n : ℕ) → n < 2 ^ 64 → Plain (decimal n)
decimal_plain n h = decimal_by_steps (λ m ds. Plain ds) first more n h
  where
    first : (m : ℕ) → m < 10 → Plain ((48 + m) ∷ [])
    first m lt = digit_plain (48 + m) (omega arith) (omega arith)

    more : (m : ℕ) (ds : List ℕ) → 10 ≤ m → Plain (ds) → Plain (ds ++ (48 + m % 10) ∷ [])
    more m ds le is = both is (digit_plain (48 + m % 10) (omega arith) (omega arith))

signed_plain : (z : ℤ) → FitsSigned w64 z → Plain (signed_decimal z)
signed_plain (pos n) h = decimal_plain n (omega (arith, h))
signed_plain (negsuc n) h =
    let rest = decimal_plain (suc n) (omega (arith, h)) in
    record { same = ap (λ t. 45 ∷ t) rest.same }

pub integer_plain : (z : ℤ) (s : List ℕ) → FitsSigned w64 z × (s ≡ signed_decimal z) → Plain s
integer_plain z s h = subst Plain (sym h.1) (signed_plain z h.0)

-- ---- words

perm_plain : (x : Perm) → Plain (perm_name x)
perm_plain No = record { same = refl }
perm_plain ReadOnly = record { same = refl }
perm_plain Rw = record { same = refl }
perm_plain Rx = record { same = refl }
perm_plain Rwx = record { same = refl }

lin_plain : (x : Lin) → Plain (lin_name x)
lin_plain Normal = record { same = refl }
lin_plain Linear = record { same = refl }

comma : Plain (codes ",")
comma = record { same = refl }

close : Plain (codes ")")
close = record { same = refl }

range_plain : (base end : ℕ) (at : ℤ) → base ≤ end → end ≤ LAST_PLACE → FitsSigned w64 at
    → Plain (range_text base end at)
unfolding range_text
range_plain base end at order most fits =
    let low : Plain (decimal base) = decimal_plain base (omega arith) in
    let high : Plain (decimal end) = decimal_plain end (omega arith) in
    both (both (both (both low comma) high) comma) (signed_plain at fits)

content_plain : (x : Sealable) → ContentFits x → Plain (sealable_text x)
unfolding cap_text seal_text
content_plain (MemIn c) h =
    let cap : Plain (codes "cap(") = record { same = refl } in
    both (both (both (both (both (both cap (perm_plain c.perm)) comma) (lin_plain c.lin)) comma)
    (range_plain c.base c.end c.addr h.0.0 h.0.1 h.1)) close
content_plain (SealIn s) h =
    let seal : Plain (codes "seal(") = record { same = refl } in
    both (both seal (range_plain s.base s.end s.cur h.0.0 h.0.1 h.1)) close

pub word_plain : (w : Word) → HasText w → Plain (word_text_of w)
unfolding sealed_text
word_plain (Int z) h = signed_plain z h
word_plain (Mem c) h = content_plain (MemIn c) h
word_plain (Seal s) h = content_plain (SealIn s) h
word_plain (Sealed n x) h =
    let sealed : Plain (codes "sealed(") = record { same = refl } in
    let most = h.0 in
    both (both (both (both sealed (decimal_plain n (omega arith))) comma) (content_plain x h.1)) close

-- ---- where jumps lead

colon : Plain (codes ":")
colon = record { same = refl }

hop : Plain (codes "hop:")
hop = record { same = refl }

pub back_plain : (b : FeedBack) → BackFits b → Plain (back_text b)
back_plain back.Out h = record { same = refl }
back_plain back.Bad h = record { same = refl }
back_plain (back.Hop part name) h =
    both hop (both (name_plain part h.0) (both colon (name_plain name h.1)))
back_plain (back.Pair part site base) h =
    let pair : Plain (codes "pair:") = record { same = refl } in
    let small = h.1 in
    let low = h.2 in
    both pair (both (name_plain part h.0) (both colon (both (decimal_plain site (omega arith))
    (both colon (decimal_plain base (omega arith))))))

pub handed_plain : (p : FeedPair) → PairFits p → Plain (pair_text p)
handed_plain handed.Nothing h = record { same = refl }
handed_plain handed.Bad h = record { same = refl }
handed_plain handed.Out h = record { same = refl }
handed_plain (handed.Hop part name) h =
    both hop (both (name_plain part h.0) (both colon (name_plain name h.1)))

-- ---- joined texts

abbrev pub AllPlain : List (List ℕ) → Type 0
AllPlain [] = Unit {0}
AllPlain (t ∷ ts) = Plain t × AllPlain ts

-- at a byte that stays
pub joined_plain : (c : ℕ) → escaped_byte c ≡ c ∷ [] → (ts : List (List ℕ)) → AllPlain ts
    → Plain (join_with_byte c ts)
joined_plain c h [] a = record { same = refl }
joined_plain c h (t ∷ []) a = a.0
joined_plain c h (t ∷ u ∷ us) a =
    let mark : Plain (c ∷ []) = record { same = ap (λ s. s ++ []) h } in
    both a.0 (both mark (joined_plain c h (u ∷ us) a.1))
