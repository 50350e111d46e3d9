-- A jump that is led elsewhere changes its own word and nothing after it.
use Rattle.std.proofs.Common.{◌≡◌, ℕ, ◌+◌, ◌-◌, ℤ, List, [], ◌∷◌, ◌++◌, length, map, refl, sym, ap, ◌∙◌}
use Rattle.std.proofs.Common.{append_assoc, length-append, arith}
use Rattle.std.specs.Prelude.{slice_set}
use Rattle.std.proofs.lemmas.List.{length-set, set-append_right}
use Rattle.cap_words.specs.declared.Word.{Word}
use Rattle.lcm_isa.specs.declared.Reg.TheVariants.{T2}
use Rattle.lcm_isa.specs.declared.Operand.TheVariants.{Imm}
use Rattle.lcm_isa.specs.declared.Instr.TheVariants.{Cca, Jmp}
use Rattle.proc_templates.specs.Items.{Spot, Item, goes, Laid, instrs, leading, word_of, sites_with}
use Rattle.proc_templates.specs.Items.{entries_with, labels_with, put, lay}
use Rattle.proc_compiler.specs.Drafts.{Drafted, with_items, with_code, Aims}

-- the same words after others of the same number, and the same beside the code
record Alike (a b : List Word) (l k : Laid) : Type 0 where
  behind : List Word
  left : l.code ≡ a ++ behind
  right : k.code ≡ b ++ behind
  sites : l.sites ≡ k.sites
  entries : l.entries ≡ k.entries
  labels : l.labels ≡ k.labels

module _ (a b : List Word) (same : length a ≡ length b) (spot : Spot) where
  alike-length : (l k : Laid) → Alike a b l k → length l.code ≡ length k.code
  alike-length l k h =
      ap length h.left ∙ length-append a h.behind ∙ ap (λ n. n + length h.behind) same
      ∙ sym (length-append b h.behind) ∙ ap length (sym h.right)

  alike_put : (x : Item) (l k : Laid) → Alike a b l k → Alike a b (put spot l x) (put spot k x)
  unfolding put
  alike_put x l k h =
      let n = alike-length l k h in
      let ws : ℕ → ℕ → List Word = λ o j. map word_of (instrs spot o j x) in
      let w : List Word = ws (length l.code) (length l.sites) in
      let e : ws (length k.code) (length k.sites) ≡ w = sym (λ i. ws (n i) (length (h.sites i))) in
      record {
        behind = h.behind ++ w;
        left = ap (λ c. c ++ w) h.left ∙ append_assoc a h.behind w;
        right =
            ap (λ c. c ++ ws (length k.code) (length k.sites)) h.right
            ∙ ap (λ v. (b ++ h.behind) ++ v) e ∙ append_assoc b h.behind w;
        sites = λ i. sites_with (h.sites i) (n i) x;
        entries = λ i. entries_with (h.entries i) (n i) x;
        labels = λ i. labels_with (h.labels i) (n i) x;
      }

  alike_lay : (xs : List Item) (l k : Laid) → Alike a b l k → Alike a b (lay spot l xs) (lay spot k xs)
  alike_lay [] l k h = h
  alike_lay (x ∷ xs) l k h = alike_lay xs (put spot l x) (put spot k x) (alike_put x l k h)

none_behind : (ws : List Word) → ws ≡ ws ++ []
none_behind [] = refl
none_behind (w ∷ ws) = ap (λ vs. w ∷ vs) (none_behind ws)

laid_same : (l k : Laid) → l.code ≡ k.code → l.sites ≡ k.sites → l.entries ≡ k.entries → l.labels ≡ k.labels
    → l ≡ k
laid_same l k c s e n = λ i. record { code = c i; sites = s i; entries = e i; labels = n i }

jump_words : ℤ → List Word
jump_words far = map word_of (leading far (Jmp T2))

aim_word : ℤ → Word
aim_word far = word_of (Cca T2 (Imm far))

-- the second word of a jump after others
second_set : (c w : List Word) (at : ℕ) (before far : ℤ) → length c ≡ at
    → slice_set ((c ++ jump_words before) ++ w) (at + 1) (aim_word far) ≡ (c ++ jump_words far) ++ w
unfolding jump_words aim_word
second_set c w at before far n =
    let k : at + 1 - at ≡ 1 = omega arith in
    ap (λ v. slice_set v (at + 1) (aim_word far)) (append_assoc c (jump_words before) w)
    ∙ set-append_right c (jump_words before ++ w) at (at + 1) (aim_word far) n (omega arith)
    ∙ ap (λ j. c ++ slice_set (jump_words before ++ w) j (aim_word far)) k
    ∙ sym (append_assoc c (jump_words far) w)

aimed : (at : ℕ) (far : ℤ) (old new : Drafted)
    → new ≡ with_code (slice_set old.laid.code (at + 1) (word_of (Cca T2 (Imm far)))) old
    → (d : Drafted) (before : ℤ) (xs : List Item) → length d.laid.code ≡ at
    → old ≡ with_items (goes before ∷ xs) d → new ≡ with_items (goes far ∷ xs) d
unfolding with_items put instrs jump_words aim_word
aimed at far old new changed d before xs there is =
    let l : Laid = put d.spot d.laid (goes before) in
    let k : Laid = put d.spot d.laid (goes far) in
    let same : length l.code ≡ length k.code =
    length-append d.laid.code (jump_words before) ∙ sym (length-append d.laid.code (jump_words far)) in
    let start : Alike l.code k.code l k = record {
      behind = [];
      left = none_behind l.code;
      right = none_behind k.code;
      sites = refl;
      entries = refl;
      labels = refl;
    } in
    let h : Alike l.code k.code (lay d.spot l xs) (lay d.spot k xs) =
    alike_lay l.code k.code same d.spot xs l k start in
    let code : slice_set (lay d.spot l xs).code (at + 1) (aim_word far) ≡ (lay d.spot k xs).code =
    ap (λ v. slice_set v (at + 1) (aim_word far)) h.left
    ∙ second_set d.laid.code h.behind at before far there ∙ sym h.right in
    changed ∙ ap (λ (o : Drafted). with_code (slice_set o.laid.code (at + 1) (aim_word far)) o) is
    ∙ ap (λ (x : Laid). record { laid = x; spot = d.spot; first = d.first; seals = d.seals })
    (laid_same _ (lay d.spot k xs) code h.sites h.entries h.labels)

pub aims : (at : ℕ) (far : ℤ) (old new : Drafted)
    → new ≡ with_code (slice_set old.laid.code (at + 1) (word_of (Cca T2 (Imm far)))) old
    → Aims at far old new
aims at far old new changed = record {
  aimed = aimed at far old new changed;
  grown = ap (λ (d : Drafted). length d.laid.code) changed
      ∙ length-set old.laid.code (at + 1) (word_of (Cca T2 (Imm far)));
  sited = ap (λ (d : Drafted). d.laid.sites) changed;
  kept = ap (λ (d : Drafted). d.seals) changed;
}
