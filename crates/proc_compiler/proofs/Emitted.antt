-- What is emitted piece by piece.
use Rattle.std.proofs.Common.{◌≡◌, ℕ, ◌+◌, ℤ, true, List, [], ◌∷◌, ◌++◌, length, map, refl, sym, ap, ◌∙◌}
use Rattle.std.proofs.Common.{subst, append_assoc, length-append, arith}
use Rattle.std.proofs.lemmas.List.{append-nil, length-map}
use Rattle.cap_words.specs.declared.Word.{Word}
use Rattle.cap_words.specs.declared.Word.TheVariants.{Int}
use Rattle.lcm_isa.specs.declared.Reg.{Reg}
use Rattle.lcm_isa.specs.declared.Instr.{Instr}
use Rattle.call_sequence.specs.Sequences.{numbers}
use Rattle.proc_templates.specs.Items.{Item, does, guards, instrs, sites_with, put, word_of}
use Rattle.proc_templates.specs.Templates.{argument, check_half, check_param}
use Rattle.proc_templates.specs.Free.{behind}
use Rattle.proc_templates.proofs.Offers.{put-length}
use Rattle.proc_compiler.specs.Drafts.{Drafted, with_items, with_code, with_words, Emits, PutsWords}
use Rattle.proc_compiler.proofs.Written.{items_append, items_nil}

pub nothing : (d : Drafted) → Emits [] 0 0 d d
nothing d = record { written = sym (items_nil d); grown = omega arith; sited = omega arith; kept = refl }

-- one piece, and then another
pub then : {a b : List Item} {m n k j : ℕ} {d e f : Drafted} → Emits a m k d e → Emits b n j e f
    → Emits (a ++ b) (m + n) (k + j) d f
then {a = a} {b = b} {d = d} h g =
    let m = h.grown in
    let n = g.grown in
    let k = h.sited in
    let j = g.sited in
    record {
      written = g.written ∙ ap (with_items b) h.written ∙ sym (items_append a b d);
      grown = omega (arith, m, n);
      sited = omega (arith, k, j);
      kept = g.kept ∙ h.kept;
    }

-- so many words and calls are as many as that
pub counted : {a : List Item} {m n k j : ℕ} {d e : Drafted} → m ≡ n → k ≡ j → Emits a m k d e
    → Emits a n j d e
counted {d = d} words calls h = record {
  written = h.written;
  grown = h.grown ∙ ap (λ x. length d.laid.code + x) words;
  sited = h.sited ∙ ap (λ x. length d.laid.sites + x) calls;
  kept = h.kept;
}

-- a single item that is no call
pub single : (x : Item) (n : ℕ) (d e : Drafted) → ((o : ℕ) → behind o x ≡ o + n)
    → ((o : ℕ) → sites_with d.laid.sites o x ≡ d.laid.sites) → e ≡ with_items (x ∷ []) d
    → Emits (x ∷ []) n 0 d e
unfolding with_items put
single x n d e words sites h = record {
  written = h;
  grown = ap (λ (f : Drafted). length f.laid.code) h ∙ put-length d.spot d.laid x
      ∙ words (length d.laid.code);
  sited = ap (λ (f : Drafted). length f.laid.sites) h ∙ ap length (sites (length d.laid.code))
      ∙ omega arith;
  kept = ap (λ (f : Drafted). f.seals) h;
}

-- instructions that neither jump nor call, word by word
plain_items : (is : List Instr) (d : Drafted)
    → with_words (map word_of is) d ≡ with_items (map (λ i. does i) is) d
unfolding with_items put instrs
plain_items [] d = ap (λ ws. with_code ws d) (append-nil d.laid.code)
plain_items (i ∷ is) d =
    ap (λ ws. with_code ws d) (sym (append_assoc d.laid.code (word_of i ∷ []) (map word_of is)))
    ∙ plain_items is (with_words (word_of i ∷ []) d)

pub plainly : (is : List Instr) (d e : Drafted) → e ≡ with_words (map word_of is) d
    → Emits (map (λ i. does i) is) (length is) 0 d e
plainly is d e h = record {
  written = h ∙ plain_items is d;
  grown = ap (λ (f : Drafted). length f.laid.code) h ∙ length-append d.laid.code (map word_of is)
      ∙ ap (λ n. length d.laid.code + n) (length-map is word_of);
  sited = ap (λ (f : Drafted). length f.laid.sites) h ∙ omega arith;
  kept = ap (λ (f : Drafted). f.seals) h;
}

pub pair_checked : {r q : Reg} {n k : ℕ} {d e : Drafted} (i : ℕ) → r ≡ argument i → q ≡ argument (i + 1)
    → Emits (guards (check_half r ++ check_half q) ∷ []) n k d e → Emits (check_param i true ∷ []) n k d e
pair_checked {r = r} {n = n} {k = k} {d = d} {e = e} i first last h =
    subst (λ x. Emits (guards (check_half x ++ check_half (argument (i + 1))) ∷ []) n k d e) first
    (subst (λ x. Emits (guards (check_half r ++ check_half x) ∷ []) n k d e) last h)

-- ---- words

numbers_words : (is : List Instr) → map (λ z. Int z) (numbers is) ≡ map word_of is
numbers_words [] = refl
numbers_words (i ∷ is) = ap (λ ws. word_of i ∷ ws) (numbers_words is)

words_both : (a b : List Instr) → map word_of (a ++ b) ≡ map word_of a ++ map word_of b
words_both [] b = refl
words_both (i ∷ a) b = ap (λ ws. word_of i ∷ ws) (words_both a b)

pub one_code : {zs : List ℤ} {n : ℕ} {w0 w1 : List Word} (a : List Instr) → zs ≡ numbers a
    → length (numbers a) ≡ n → w1 ≡ w0 ++ map (λ z. Int z) zs → PutsWords (map word_of a) n w0 w1
one_code {zs = zs} {w0 = w0} a same many h = record {
  written = h ∙ ap (λ zs. w0 ++ map (λ z. Int z) zs) same ∙ ap (λ ws. w0 ++ ws) (numbers_words a);
  grown = ap length h ∙ length-append w0 (map (λ z. Int z) zs)
      ∙ ap (λ n. length w0 + n) (length-map zs (λ z. Int z) ∙ ap length same ∙ many);
}

-- two pieces of code, one after the other
pub two_codes : {n m : ℕ} {w0 w1 w2 : List Word} (a b : List Instr) → PutsWords (map word_of a) n w0 w1
    → PutsWords (map word_of b) m w1 w2 → PutsWords (map word_of (a ++ b)) (n + m) w0 w2
two_codes {w0 = w0} a b h g =
    let n = h.grown in
    let m = g.grown in
    record {
      written = g.written ∙ ap (λ ws. ws ++ map word_of b) h.written
          ∙ append_assoc w0 (map word_of a) (map word_of b) ∙ ap (λ ws. w0 ++ ws) (sym (words_both a b));
      grown = omega (arith, n, m);
    }
