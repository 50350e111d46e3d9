-- The cells of a start, copied span by span.
use Rattle.std.proofs.Common.{◌≡◌, ◌≢◌, ◌⊎◌, ◌≤◌, ◌<◌, ℕ, zero, suc, ◌+◌, Bool, true, false, List, [], ◌∷◌}
use Rattle.std.proofs.Common.{length, get_or, take, refl, sym, ap, subst, ◌∙◌, arith, Option, Some, None, inl}
use Rattle.std.proofs.Common.{inr}
use Rattle.std.specs.Prelude.{is_some, ◌||◌, if◌then◌else◌, option_map}
use Rattle.std.proofs.lemmas.Bool.{cases_eq, cases_lt}
use Rattle.std.proofs.lemmas.List.{take_all}
use Rattle.std.proofs.lemmas.List.Folds.{list_any_more}
use Rattle.lcm_machine.proofs.Offers.{in_span_is}
use Rattle.cap_words.specs.declared.Word.{Word}
use Rattle.cap_words.specs.Linear.{zero_word}
use Rattle.lcm_machine.specs.declared.cells.Span.{Span}
use Rattle.lcm_machine.specs.Maps.{State}
use Rattle.lcm_machine.specs.Cells.{cell}
use Rattle.lcm_machine.specs.Spans.{AreSpans, in_span, in_spans, slot}
use Rattle.overlay_machine.specs.declared.words.OWord.{OWord}
use Rattle.overlay_machine.specs.declared.words.OWord.TheVariants.{Plain}
use Rattle.overlay_machine.specs.State.{Cells}
use Rattle.overlay_machine.specs.Seen.{start_word}
use Rattle.overlay_machine.specs.Copies.{copied, AreCopiedTo}

-- so many spans are copied: what was in them is the start's, and the rest is as a new memory has it
pub record AreCopied (s : State Word) (n : ℕ) (m : Cells) : Type 0 where
  pub done : (a : ℕ) → in_spans a (take n s.spans) ≡ true
      → cell m a ≡ copied (slot Plain s.spans a) (cell s.cells a)
  pub left : (a : ℕ) → in_spans a (take n s.spans) ≡ false → cell m a ≡ slot Plain s.spans a

-- ---- the addresses of a span

pub to_first : (s : State Word) (base : ℕ) (m : Cells) → AreCopiedTo s base base m m
to_first s base m = record { inside = (λ a lo hi. absurd (omega (arith, lo, hi))); outside = λ a h. refl }

pub to_next : (s : State Word) (base at : ℕ) (m m' m'' : Cells) → base ≤ at → AreCopiedTo s base at m m'
    → cell m'' at ≡ copied (cell m' at) (cell s.cells at) → ((a : ℕ) → a ≢ at → cell m'' a ≡ cell m' a)
    → AreCopiedTo s base (at + 1) m m''
to_next s base at m m' m'' le c here there = record {
  inside = (λ a lo hi. elim (cases_eq a at) as (λ _. cell m'' a ≡ copied (cell m a) (cell s.cells a)) [
    | inl e ↦ subst (λ k. cell m'' k ≡ copied (cell m k) (cell s.cells k)) (sym e)
        (here ∙ ap (λ x. copied x (cell s.cells at)) (c.outside at (inr (omega arith))))
    | inr ne ↦ there a ne ∙ c.inside a lo (omega (arith, hi, ne))
  ]);
  outside = (λ a h. there a (apart a h) ∙ c.outside a (wide a h));
}
  where
    apart : (a : ℕ) → (a < base) ⊎ (at + 1 ≤ a) → a ≢ at
    apart a (inl h) = λ e. omega (arith, h, e, le)
    apart a (inr h) = λ e. omega (arith, h, e)

    wide : (a : ℕ) → (a < base) ⊎ (at + 1 ≤ a) → (a < base) ⊎ (at ≤ a)
    wide a (inl h) = inl h
    wide a (inr h) = inr (omega (arith, h))

-- ---- the spans

copied_twice : (o : Option OWord) (w : Option Word) → copied (copied o w) w ≡ copied o w
copied_twice None w = refl
copied_twice (Some v) None = refl
copied_twice (Some v) (Some w) = refl

pub spans_first : (s : State Word) (m : Cells) → ((a : ℕ) → cell m a ≡ slot Plain s.spans a) → AreCopied s 0 m
spans_first s m h = record { done = (λ a e. absurd (no a e)); left = λ a e. h a }
  where
    no : (a : ℕ) → in_spans a (take 0 s.spans) ≡ true → ⊥
    no a e = let k : false ≡ true = e in cc

out_of_range : (a : ℕ) (x : Span) → in_span a x ≡ false → (a < x.base) ⊎ (x.end + 1 ≤ a)
out_of_range a x e = elim (cases_lt a x.base) [
  | inl lt ↦ inl lt
  | inr ge ↦ elim (cases_lt x.end a) [
    | inl past ↦ inr (omega (arith, past))
    | inr within ↦
        absurd (let t : in_span a x ≡ true = grind (arith, ge, within) in let k : true ≡ false =
        sym t ∙ e in cc)
  ]
]

next_span : (s : State Word) (i : ℕ) (x d : Span) (m m' : Cells) → i < length s.spans → x ≡ get_or s.spans i d
    → AreCopied s i m
    → AreCopiedTo s x.base (x.end + 1) m m' → AreCopied s (i + 1) m'
next_span s i x d m m' lt is c t = record {
  done = (λ a e. by_done a (in_span a x) refl (in_spans a (take i s.spans)) refl (sym (more a) ∙ e));
  left = (λ a e. by_left a (in_span a x) refl (in_spans a (take i s.spans)) refl (sym (more a) ∙ e));
}
  where
    more : (a : ℕ) → in_spans a (take (i + 1) s.spans) ≡ (in_spans a (take i s.spans) || in_span a x)
    more a = list_any_more (in_span a) s.spans i d lt
        ∙ ap (λ y. in_spans a (take i s.spans) || in_span a y) (sym is)

    was : (a : ℕ) (b : Bool) → in_spans a (take i s.spans) ≡ b
        → copied (cell m a) (cell s.cells a) ≡ copied (slot Plain s.spans a) (cell s.cells a)
    was a true e = ap (λ o. copied o (cell s.cells a)) (c.done a e)
        ∙ copied_twice (slot Plain s.spans a) (cell s.cells a)
    was a false e = ap (λ o. copied o (cell s.cells a)) (c.left a e)

    by_done : (a : ℕ) (b : Bool) → in_span a x ≡ b → (n : Bool) → in_spans a (take i s.spans) ≡ n
        → (n || b) ≡ true → cell m' a ≡ copied (slot Plain s.spans a) (cell s.cells a)
    by_done a true e n f h = let r = in_span_is a x e in t.inside a r.0 (let u = r.1 in omega (arith, u))
        ∙ was a n f
    by_done a false e true f h = t.outside a (out_of_range a x e) ∙ c.done a f
    by_done a false e false f h = cc

    by_left : (a : ℕ) (b : Bool) → in_span a x ≡ b → (n : Bool) → in_spans a (take i s.spans) ≡ n
        → (n || b) ≡ false → cell m' a ≡ slot Plain s.spans a
    by_left a b e true f h = cc
    by_left a true e false f h = cc
    by_left a false e false f h = t.outside a (out_of_range a x e) ∙ c.left a f

pub spans_next : (s : State Word) (ss : List Span) (i : ℕ) (d : Span) (m m' : Cells) → ss ≡ s.spans
    → i < length ss → AreCopied s i m
    → AreCopiedTo s (get_or ss i d).base ((get_or ss i d).end + 1) m m' → AreCopied s (i + 1) m'
spans_next s ss i d m m' e lt c t =
    next_span s i (get_or ss i d) d m m' (subst (λ x. i < length x) e lt) (ap (λ x. get_or x i d) e) c t

pub spans_all : (s : State Word) (ss : List Span) (i : ℕ) (m : Cells) → ss ≡ s.spans → length ss ≤ i
    → AreCopied s i m → (a : ℕ) → cell m a ≡ start_word s a
spans_all s ss i m same le c a = by (in_spans a s.spans) refl
  where
    whole : take i s.spans ≡ s.spans
    whole = take_all i s.spans (subst (λ x. length x ≤ i) same le)

    by : (b : Bool) → in_spans a s.spans ≡ b
        → cell m a ≡ (if b then option_map Plain (cell s.cells a) else None)
    by true e = c.done a (ap (in_spans a) whole ∙ e)
        ∙ ap (λ k. copied (if k then Some (zero_word Plain) else None) (cell s.cells a)) e
    by false e = c.left a (ap (in_spans a) whole ∙ e) ∙ ap (λ k. if k then Some (zero_word Plain) else None) e

-- each span is in order, and ends within the address space
pub span_order : (at : ℕ) (ss : List Span) (i : ℕ) (d : Span) → AreSpans at ss → i < length ss
    → ((get_or ss i d).base ≤ (get_or ss i d).end) × ((get_or ss i d).end ≤ 1048575)
span_order at [] i d h lt = absurd (omega (arith, lt))
span_order at (y ∷ ss) zero d h lt = (h.1, h.2)
span_order at (y ∷ ss) (suc i) d h lt = span_order (y.end + 1) ss i d h.3 (omega (arith, lt))

-- ---- a cell

pub copied_there : (o : Option OWord) (p : Option Word) (w : Word) → is_some o ≡ true → p ≡ Some w
    → Some (Plain w) ≡ copied o p
copied_there None p w h e = cc
copied_there (Some v) p w h e = rw e refl
