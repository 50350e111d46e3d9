-- What holds at each state of a linked run, and how a step keeps it.
use Rattle.std.proofs.Common.{◌≡◌, ◌⊎◌, inl, inr, ℕ, zero, suc, ◌+◌, ◌-◌, ◌<◌, ◌≤◌, List, [], ◌∷◌, length}
use Rattle.std.proofs.Common.{Option, Some, None, refl, sym, ap, ◌∙◌, subst, arith}
use Rattle.std.specs.Prelude.{slice_get, unwrap_or}
use Rattle.std.proofs.lemmas.Bool.{cases_eq, cases_lt}
use Rattle.cap_words.specs.declared.Word.{Word}
use Rattle.cap_words.specs.Linear.{zero_word}
use Rattle.lcm_machine.specs.Maps.{State}
use Rattle.lcm_machine.specs.Cells.{cell, set_cell, words_from, without, put_back}
use Rattle.lcm_machine.specs.Row.{Outcome, went, halted, failed}
use Rattle.lcm_machine.proofs.Offers.{cell-set_other, cell-set_same, cell-without_in, cell-without_out}
use Rattle.overlay_machine.specs.declared.words.OWord.{OWord}
use Rattle.overlay_machine.specs.declared.words.OWord.TheVariants.{Plain}
use Rattle.overlay_machine.specs.Words.{look}
use Rattle.overlay_machine.specs.State.{OpenFrame, OState, Cells}
use Rattle.overlay_machine.specs.Step.{Ending, goes, halts, fails, overlay_step, rest_words}
use Rattle.overlay_machine.specs.Link.{Link}
use Rattle.overlay_machine.specs.Linked.{IsLink}
use Rattle.overlay_machine.specs.Invariant.{Invariant, KeepsAgreeing}
use Rattle.overlay_machine.proofs.Offers.{put_back-in, put_back-other, kept}
use Rattle.template_runs.specs.Public.{IsPublic, IsFreeAt, ArePublic, FramesPublic, KeepsPrivate}

-- ---- which states come

pub goes_same : (p q : OState) → goes p ≡ goes q → p ≡ q
goes_same p q e = ap (λ x. in_goes p x) e
  where
    in_goes : OState → Ending → OState
    in_goes z (goes o) = o
    in_goes z halts = z
    in_goes z fails = z

abbrev IsGoing : Ending → Type 0
IsGoing (goes o) = Unit {0}
IsGoing halts = ⊥
IsGoing fails = ⊥

pub halts_not : (q : OState) → halts ≡ goes q → ⊥
halts_not q e = subst IsGoing (sym e) tt

pub fails_not : (q : OState) → fails ≡ goes q → ⊥
fails_not q e = subst IsGoing (sym e) tt

-- ---- public words

pub zero_public : (g : Link) → IsPublic g (zero_word Plain)
zero_public g p k ip e = cc

-- a word that shows a capability
pub mem_public : (g : Link) (w : OWord) (x : Word) → look w ≡ x → IsPublic g (Plain x) → IsPublic g w
mem_public g (Plain y) x e h = subst (λ z. IsPublic g (Plain z)) (sym e) h
mem_public g _ x e h = tt

found_public : (g : Link) (o : Option OWord) → ((w : OWord) → o ≡ Some w → IsPublic g w)
    → IsPublic g (unwrap_or o (zero_word Plain))
found_public g None h = zero_public g
found_public g (Some w) h = h w refl

pub words_public : (g : Link) (m : Cells) (a n : ℕ)
    → ((q : ℕ) (w : OWord) → a ≤ q → q < a + n → cell m q ≡ Some w → IsPublic g w)
    → ArePublic g (words_from Plain m a n)
unfolding words_from
words_public g m a zero h = tt
words_public g m a (suc n) h = (
  found_public g (cell m a) (λ w e. h a w (omega arith) (omega arith) e),
  words_public g m (a + 1) n (λ q w l u e. h q w (omega (arith, l)) (omega (arith, u)) e),
)

public_get : (g : Link) (ws : List OWord) (j : ℕ) (w : OWord) → ArePublic g ws → slice_get ws j ≡ Some w
    → IsPublic g w
public_get g [] j w h e = cc
public_get g (x ∷ ws) zero w h e = let s : x ≡ w = cc in subst (IsPublic g) s h.0
public_get g (x ∷ ws) (suc j) w h e = public_get g ws j w h.1 e

rest_public : (g : Link) (ws : List OWord) → ArePublic g ws → ArePublic g (rest_words ws)
rest_public g [] h = tt
rest_public g (w ∷ ws) h = h.1

module _ (g : Link) (linked : IsLink g) where
  -- the invariant holds, beside some plain state, and what is private is kept
  pub record Valid (o : OState) : Type 0 where
    pub plain : State Word
    pub holds : Invariant g o plain
    pub private : KeepsPrivate g o

  by_end : (e : Ending) (r : Outcome Word) (q : OState) → e ≡ goes q → KeepsAgreeing g e r → KeepsPrivate g q
      → Valid q
  by_end (goes p) (went u) q e k h =
      record { plain = u; holds = subst (λ x. Invariant g x u) (goes_same p q e) k; private = h }
  by_end (goes p) halted q e k h = absurd k
  by_end (goes p) (failed c at) q e k h = absurd k
  by_end halts r q e k h = absurd (halts_not q e)
  by_end fails r q e k h = absurd (fails_not q e)

  pub valid_next : (o q : OState) → Valid o → overlay_step g.layout o ≡ goes q → KeepsPrivate g q → Valid q
  valid_next o q v e h = by_end _ _ q e (kept g linked o v.plain v.holds) h

  module _ (o q : OState) (v : Valid o) (e : overlay_step g.layout o ≡ goes q) where
    pub valid_same : q.maps.cells ≡ o.maps.cells → q.frames ≡ o.frames → Valid q
    valid_same same frames = valid_next o q v e (record {
      cells = λ a w free there. v.private.cells a w free (ap (λ m. cell m a) (sym same) ∙ there);
      frames = subst (FramesPublic g) (sym frames) v.private.frames;
    })

    -- a cell is set
    pub valid_set : (a : ℕ) (x : OWord) → q.maps.cells ≡ set_cell o.maps.cells a x → q.frames ≡ o.frames
        → (IsFreeAt g a → IsPublic g x) → Valid q
    valid_set a x set frames h = valid_next o q v e (record {
      cells = by;
      frames = subst (FramesPublic g) (sym frames) v.private.frames;
    })
      where
        by : (b : ℕ) (w : OWord) → IsFreeAt g b → cell q.maps.cells b ≡ Some w → IsPublic g w
        by b w free there = elim (cases_eq b a) as (λ _. IsPublic g w) [
          | inl at ↦ (
              let s : Some x ≡ Some w =
              sym (cell-set_same o.maps.cells a x) ∙ ap (cell (set_cell o.maps.cells a x)) (sym at)
              ∙ ap (λ m. cell m b) (sym set) ∙ there in
              let k : x ≡ w = cc in
              subst (IsPublic g) k (h (subst (IsFreeAt g) at free)))
          | inr ne ↦ v.private.cells b w free
              (sym (cell-set_other o.maps.cells a b x ne) ∙ ap (λ m. cell m b) (sym set) ∙ there)
        ]

    -- cells go to a new frame, after a public word
    pub valid_called : (f : OpenFrame) (x : OWord) (a n end : ℕ) → q.maps.cells ≡ without o.maps.cells a end
        → q.frames ≡ f ∷ o.frames → f.words ≡ x ∷ words_from Plain o.maps.cells (a + 1) n → IsPublic g x
        → ((b : ℕ) → a ≤ b → b ≤ a + n → IsFreeAt g b) → Valid q
    valid_called f x a n end cells frames words px free = valid_next o q v e (record {
      cells = λ b w at there. by b w at (cases_lt b a) (cases_lt end b)
          (ap (λ m. cell m b) (sym cells) ∙ there);
      frames = subst (FramesPublic g) (sym frames) (
        subst (ArePublic g) (sym words) (
          px,
          words_public g o.maps.cells (a + 1) n (λ b w l u there.
              v.private.cells b w (free b (omega (arith, l)) (omega (arith, u))) there),
        ),
        v.private.frames,
      );
    })
      where
        by : (b : ℕ) (w : OWord) → IsFreeAt g b → (b < a) ⊎ (a ≤ b) → (end < b) ⊎ (b ≤ end)
            → cell (without o.maps.cells a end) b ≡ Some w → IsPublic g w
        by b w at (inl lt) c there =
            v.private.cells b w at (sym (cell-without_out o.maps.cells a end b (inl lt)) ∙ there)
        by b w at (inr ge) (inl lt) there =
            v.private.cells b w at (sym (cell-without_out o.maps.cells a end b (inr lt)) ∙ there)
        by b w at (inr ge) (inr le) there =
            absurd (let s : None ≡ Some w = sym (cell-without_in o.maps.cells a end b ge le) ∙ there in cc)

    -- a frame's words come back, the first one as 0
    pub valid_back : (f : OpenFrame) (fs : List OpenFrame) → o.frames ≡ f ∷ fs → q.frames ≡ fs
        → q.maps.cells ≡ put_back o.maps.cells f.base (zero_word Plain ∷ rest_words f.words) → Valid q
    valid_back f fs newest frames cells = valid_next o q v e (record {
      cells = λ b w at there. by b w at (cases_lt b f.base) (ap (λ m. cell m b) (sym cells) ∙ there);
      frames = subst (FramesPublic g) (sym frames) both.1;
    })
      where
        both : ArePublic g f.words × FramesPublic g fs
        both = subst (FramesPublic g) newest v.private.frames

        all : ArePublic g (zero_word Plain ∷ rest_words f.words)
        all = (zero_public g, rest_public g f.words both.0)

        by_end' : (b : ℕ) (w : OWord) → IsFreeAt g b → f.base ≤ b
            → (b < f.base + length (zero_word Plain ∷ rest_words f.words))
            ⊎ (f.base + length (zero_word Plain ∷ rest_words f.words) ≤ b)
            → cell (put_back o.maps.cells f.base (zero_word Plain ∷ rest_words f.words)) b ≡ Some w
            → IsPublic g w
        by_end' b w at ge (inl lt) there =
            let z : f.base + (b - f.base) ≡ b = omega (arith, ge) in
            public_get g (zero_word Plain ∷ rest_words f.words) (b - f.base) w all
            (sym (put_back-in o.maps.cells f.base (zero_word Plain ∷ rest_words f.words) (b - f.base)
            (omega (arith, ge, lt)))
            ∙ ap (cell (put_back o.maps.cells f.base (zero_word Plain ∷ rest_words f.words))) z ∙ there)
        by_end' b w at ge (inr past) there =
            v.private.cells b w at
            (sym (put_back-other o.maps.cells f.base (zero_word Plain ∷ rest_words f.words) b (inr past))
            ∙ there)

        by : (b : ℕ) (w : OWord) → IsFreeAt g b → (b < f.base) ⊎ (f.base ≤ b)
            → cell (put_back o.maps.cells f.base (zero_word Plain ∷ rest_words f.words)) b ≡ Some w
            → IsPublic g w
        by b w at (inl lt) there =
            v.private.cells b w at
            (sym (put_back-other o.maps.cells f.base (zero_word Plain ∷ rest_words f.words) b (inl lt))
            ∙ there)
        by b w at (inr ge) there =
            by_end' b w at ge (cases_lt b (f.base + length (zero_word Plain ∷ rest_words f.words))) there
