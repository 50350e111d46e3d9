-- What came in to two runs alike: words that stand for each other.
use Rattle.std.proofs.Common.{◌≡◌, ℕ, zero, suc, pos, List, [], ◌∷◌, ◌++◌, map, refl, sym, ap, ◌∙◌, subst}
use Rattle.std.proofs.Common.{inl, inr}
use Rattle.std.specs.Prelude.{option_map, slice_index_or}
use Rattle.cap_words.specs.declared.CapFields.{CapFields}
use Rattle.cap_words.specs.declared.Word.TheVariants.{Int, Mem}
use Rattle.cap_words.specs.Faces.{memory_in}
use Rattle.cap_words.specs.Face.{face_of}
use Rattle.lcm_isa.specs.declared.Reg.TheVariants.{Stk, Rcode, Rdata, A0, A1, A2, A3}
use Rattle.lcm_machine.specs.Row.{faces}
use Rattle.call_sequence.specs.SequenceRuns.{stack_cap}
use Rattle.overlay_machine.specs.declared.words.OWord.{OWord}
use Rattle.overlay_machine.specs.declared.words.OWord.TheVariants.{Plain}
use Rattle.overlay_machine.specs.Words.{look}
use Rattle.overlay_machine.specs.State.{OpenFrame, OState}
use Rattle.overlay_machine.specs.Step.{own_stack, if_own}
use Rattle.overlay_machine.specs.Events.{step_event}
use Rattle.overlay_machine.specs.Link.{Link}
use Rattle.overlay_machine.specs.Linked.{IsLink}
use Rattle.overlay_machine.specs.Names.{NamesTold}
use Rattle.run_lines.specs.Views.{flat_view}
use Rattle.source_events.specs.declared.Item.{Item}
use Rattle.proc_semantics.specs.Marked.{Thing}
use Rattle.source_laws.specs.Seen.{Back, thing_of, back_here, nothing_back}
use Rattle.source_laws.specs.Seen as seen
use Rattle.source_laws.specs.Trace as lines
use Rattle.source_laws.specs.Words.{words_at, back_at}
use Rattle.lockstep.specs.Related.{SameNames, Calls, SameWord, ours, Newest, ComesAlike, EnterAlike}
use Rattle.lockstep.specs.Related.{ReturnAlike}
use Rattle.lockstep.proofs.Offers.{face_is, own_of, more}
use Rattle.context_laws.proofs.Told.{enter_item}

module _ (g h : Link) (names : SameNames g h) where
  module _ (cs : Calls) where
    abbrev S : OWord → OWord → Type 0
    S = SameWord g h names cs

    abbrev pub WordsAlike : List OWord → List OWord → Type 0
    WordsAlike [] [] = Unit {0}
    WordsAlike [] (v ∷ vs) = ⊥
    WordsAlike (w ∷ ws) [] = ⊥
    WordsAlike (w ∷ ws) (v ∷ vs) = S w v × WordsAlike ws vs

    -- what is given back is the same
    pub record BackAlike (a b : Back) : Type 0 where
      pub code : S a.code b.code
      pub whole : S a.whole b.whole
      pub stk : a.stk ≡ b.stk
      pub newest : Newest g h names cs a.open_calls b.open_calls

    pub record ThingAlike (x y : Thing OWord Back) : Type 0 where
      pub words : WordsAlike x.words y.words
      pub entry : BackAlike x.entry y.entry

    abbrev pub AllAlike : List (Thing OWord Back) → List (Thing OWord Back) → Type 0
    AllAlike [] [] = Unit {0}
    AllAlike [] (y ∷ ys) = ⊥
    AllAlike (x ∷ xs) [] = ⊥
    AllAlike (x ∷ xs) (y ∷ ys) = ThingAlike x y × AllAlike xs ys

    pub all_both : (xs ys us vs : List (Thing OWord Back)) → AllAlike xs ys → AllAlike us vs
        → AllAlike (xs ++ us) (ys ++ vs)
    all_both [] [] us vs a b = b
    all_both [] (y ∷ ys) us vs a b = absurd a
    all_both (x ∷ xs) [] us vs a b = absurd a
    all_both (x ∷ xs) (y ∷ ys) us vs a b = (a.0, all_both xs ys us vs a.1 b)

    zeros : S (Plain (Int (pos 0))) (Plain (Int (pos 0)))
    zeros = ours (Int (pos 0)) tt

    pub word_alike : (ws vs : List OWord) (j : ℕ) → WordsAlike ws vs
        → S (slice_index_or ws j (Plain (Int (pos 0)))) (slice_index_or vs j (Plain (Int (pos 0))))
    word_alike [] [] j a = zeros
    word_alike [] (v ∷ vs) j a = absurd a
    word_alike (w ∷ ws) [] j a = absurd a
    word_alike (w ∷ ws) (v ∷ vs) zero a = a.0
    word_alike (w ∷ ws) (v ∷ vs) (suc j) a = word_alike ws vs j a.1

    pub words_alike : (xs ys : List (Thing OWord Back)) (k : ℕ) → AllAlike xs ys
        → WordsAlike (words_at xs k) (words_at ys k)
    words_alike [] [] k a = tt
    words_alike [] (y ∷ ys) k a = absurd a
    words_alike (x ∷ xs) [] k a = absurd a
    words_alike (x ∷ xs) (y ∷ ys) zero a = a.0.words
    words_alike (x ∷ xs) (y ∷ ys) (suc k) a = words_alike xs ys k a.1

    nothing_alike : BackAlike nothing_back nothing_back
    nothing_alike = record { code = zeros; whole = zeros; stk = refl; newest = tt }

    pub back_alike : (xs ys : List (Thing OWord Back)) (k : ℕ) → AllAlike xs ys
        → BackAlike (back_at xs k) (back_at ys k)
    back_alike [] [] k a = nothing_alike
    back_alike [] (y ∷ ys) k a = absurd a
    back_alike (x ∷ xs) [] k a = absurd a
    back_alike (x ∷ xs) (y ∷ ys) zero a = a.0.entry
    back_alike (x ∷ xs) (y ∷ ys) (suc k) a = back_alike xs ys k a.1

  -- ---- after a further call

  newest_more : (c : ℕ × ℕ) (cs : Calls) (fs es : List OpenFrame) → Newest g h names cs fs es
      → Newest g h names (c ∷ cs) fs es
  newest_more c cs [] [] n = tt
  newest_more c cs [] (e ∷ es) n = absurd n
  newest_more c cs (f ∷ fs) [] n = absurd n
  newest_more c cs (f ∷ fs) (e ∷ es) n = (inr n.0, n.1, n.2)

  words_more : (k m : ℕ) (cs : Calls) (ws vs : List OWord) → WordsAlike cs ws vs
      → WordsAlike ((k, m) ∷ cs) ws vs
  words_more k m cs [] [] a = tt
  words_more k m cs [] (v ∷ vs) a = absurd a
  words_more k m cs (w ∷ ws) [] a = absurd a
  words_more k m cs (w ∷ ws) (v ∷ vs) a = (more g h names k m cs w v a.0, words_more k m cs ws vs a.1)

  back_more : (k m : ℕ) (cs : Calls) (a b : Back) → BackAlike cs a b → BackAlike ((k, m) ∷ cs) a b
  back_more k m cs a b x = record {
    code = more g h names k m cs _ _ x.code;
    whole = more g h names k m cs _ _ x.whole;
    stk = x.stk;
    newest = newest_more (k, m) cs _ _ x.newest;
  }

  pub all_more : (k m : ℕ) (cs : Calls) (xs ys : List (Thing OWord Back)) → AllAlike cs xs ys
      → AllAlike ((k, m) ∷ cs) xs ys
  all_more k m cs [] [] a = tt
  all_more k m cs [] (y ∷ ys) a = absurd a
  all_more k m cs (x ∷ xs) [] a = absurd a
  all_more k m cs (x ∷ xs) (y ∷ ys) a = (
    record {
      words = words_more k m cs _ _ a.0.words;
      entry = back_more k m cs _ _ a.0.entry;
    },
    all_more k m cs xs ys a.1,
  )

  -- ---- a step by which code outside comes in

  module _ (lg : IsLink g) (lh : IsLink h) (tg : NamesTold g.parts g.layout) (th : NamesTold h.parts h.layout)
      (cs : Calls) (o q p r : OState) (n : Newest g h names cs o.frames p.frames) where
    same_own : (w v : OWord) → SameWord g h names cs w v
        → if_own g.layout (memory_in (face_of (look w))) ≡ if_own h.layout (memory_in (face_of (look v)))
    same_own w v a =
        own_of g.layout h.layout names.stack (memory_in (face_of (look w)))
        ∙ ap (λ x. if_own h.layout (memory_in x)) (sym (face_is g h names cs w v a))

    same_stk : SameWord g h names cs q.maps.regs.stk r.maps.regs.stk
        → (back_here g.layout q).stk ≡ (back_here h.layout r).stk
    unfolding own_stack faces
    same_stk a =
        ap (option_map (λ (c : CapFields). Plain (Mem (stack_cap g.layout.stack.base c.end c.end))))
        (same_own q.maps.regs.stk r.maps.regs.stk a)
        ∙ ap (λ b. option_map (λ (c : CapFields). Plain (Mem (stack_cap b c.end c.end)))
        (if_own h.layout (memory_in (face_of (look r.maps.regs.stk))))) names.stack

    at_items : (xs ys us vs : List Item) → xs ≡ us → ys ≡ vs
        → AllAlike cs (map (thing_of g.layout q) us) (map (thing_of h.layout r) vs)
        → AllAlike cs (map (thing_of g.layout q) xs) (map (thing_of h.layout r) ys)
    at_items xs ys us vs e f a =
        subst (λ zs. AllAlike cs (map (thing_of g.layout q) zs) (map (thing_of h.layout r) ys)) (sym e)
        (subst (λ zs. AllAlike cs (map (thing_of g.layout q) us) (map (thing_of h.layout r) zs)) (sym f) a)

    abbrev Came : Type 0
    Came = AllAlike cs (seen.event_items g.layout q (step_event g.layout o q))
        (seen.event_items h.layout r (step_event h.layout p r))

    by_enter : EnterAlike g h names cs o q p r → Came
    by_enter e =
        let ix = (names.exports e.one e.other e.twins).0 in
        let iy = (names.exports e.one e.other e.twins).1 in
        at_items _ _ _ _ (enter_item g lg tg e.one ix o q e.pc e.event)
        (enter_item h lh th e.other iy p r e.pc_other e.event_other) (
          record {
            words = (
              e.words A0 (λ z. cc) (λ z. cc),
              (
                e.words A1 (λ z. cc) (λ z. cc),
                (e.words A2 (λ z. cc) (λ z. cc), (e.words A3 (λ z. cc) (λ z. cc), tt)),
              ),
            );
            entry = record {
              code = e.words Rcode (λ z. cc) (λ z. cc);
              whole = e.words Rdata (λ z. cc) (λ z. cc);
              stk = same_stk (e.words Stk (λ z. cc) (λ z. cc));
              newest = rw (e.frames, e.frames_other) n;
            };
          },
          tt,
        )

    by_return : ReturnAlike g h names cs o q p r → Came
    by_return e =
        at_items _ _ _ _ (ap (lines.event_items g.layout (flat_view g.layout q)) e.event)
        (ap (lines.event_items h.layout (flat_view h.layout r)) e.event_other)
        (record { words = (zeros cs, (zeros cs, (zeros cs, (zeros cs, tt)))); entry = nothing_alike cs }, tt)

    pub things_alike : ComesAlike g h names cs o q p r → Came
    things_alike (inl e) = by_enter e
    things_alike (inr e) = by_return e
