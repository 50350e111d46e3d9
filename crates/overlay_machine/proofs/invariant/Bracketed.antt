-- The calls and returns of a run are bracketed, each return with its call's site, range and words.
use Rattle.std.proofs.Common.{◌≡◌, inl, inr, ℕ, zero, suc, ◌+◌, ◌-◌, ◌≤◌, Bool, true, false, List, [], ◌∷◌}
use Rattle.std.proofs.Common.{◌++◌, length, get_or, Option, Some, None, refl, sym, ap, ◌∙◌, subst, arith}
use Rattle.std.proofs.Common.{eqb-true}
use Rattle.std.specs.Prelude.{map, slice_get, unwrap_or, position, option_map, option_and_then, ◌==◌, ◌^◌}
use Rattle.std.specs.Prelude.{nat_lt, if◌then◌else◌, is_some}
use Rattle.std.specs.Option.{option_or}
use Rattle.std.proofs.Math.ListN.{take}
use Rattle.std.proofs.Math.Seq.{take-suc, take-length}
use Rattle.std.proofs.lemmas.Bool.{cases_lt}
use Rattle.std.proofs.lemmas.List.{length-map}
use Rattle.std.proofs.lemmas.List.Quantifiers.{position-Some}
use Rattle.std.proofs.lemmas.Option.{slice_get_within, slice_get-get_or}
use Rattle.cap_words.specs.declared.Word.{Word}
use Rattle.cap_words.specs.declared.CapFields.{CapFields}
use Rattle.cap_words.specs.declared.Opened.{Opened}
use Rattle.cap_words.specs.Face.{opened_of}
use Rattle.cap_words.specs.Faces.{address}
use Rattle.cap_words.specs.Linear.{zero_word}
use Rattle.lcm_isa.specs.declared.Reg.{Reg}
use Rattle.lcm_isa.specs.declared.Reg.TheVariants.{Pc, Rcode, Rdata, Dat}
use Rattle.lcm_machine.specs.declared.Place.TheVariants.{R, Cell}
use Rattle.lcm_machine.specs.Maps.{State}
use Rattle.lcm_machine.specs.Places.{reg}
use Rattle.lcm_machine.specs.Cells.{cell, words_from, put_back}
use Rattle.lcm_machine.specs.Mapped.{mapped_or}
use Rattle.lcm_machine.specs.Row.{faces, opens as opens_in, put, step_of, went, fetch, cell_faces}
use Rattle.lcm_machine.specs.Runs.{code_cap}
use Rattle.linked_starts.specs.declared.owners.Site.{Site}
use Rattle.linked_starts.specs.declared.owners.Owner.{Owner}
use Rattle.trusted_border.specs.declared.layout.Layout.{Layout}
use Rattle.trusted_border.specs.declared.layout.SiteCode.{SiteCode}
use Rattle.trusted_border.specs.declared.events.Event.{Event}
use Rattle.trusted_border.specs.declared.events.Event.TheVariants.{Entered, Left}
use Rattle.trusted_border.specs.Layout.{numbered}
use Rattle.trusted_border.specs.Reaches.{site_of_seal, closure_owner, entry_number, back_of}
use Rattle.overlay_machine.specs.declared.words.OWord.{OWord}
use Rattle.overlay_machine.specs.declared.words.OWord.TheVariants.{Plain}
use Rattle.overlay_machine.specs.declared.cases.Case.{Case}
use Rattle.overlay_machine.specs.declared.cases.Case.TheVariants.{Call, Entry, Back, Other}
use Rattle.overlay_machine.specs.declared.notes.StepNote.TheVariants.{Calls}
use Rattle.overlay_machine.specs.Words.{look, is_plain}
use Rattle.overlay_machine.specs.State.{OpenFrame, OState, Cells, framed, word_of}
use Rattle.overlay_machine.specs.Step.{goes, case_of, step_by, overlay_step, weight_of, other_step, new_frame}
use Rattle.overlay_machine.specs.Step.{state_resumed, first_word, rest_words}
use Rattle.overlay_machine.specs.Flat.{flat, beside}
use Rattle.overlay_machine.specs.Events.{site_opened, owner_now, note_call, note_return, note_jump, note_by}
use Rattle.overlay_machine.specs.Events.{jump_seal, shown_word, entered_event as event_entered, jumped}
use Rattle.overlay_machine.specs.Events.{event_after, step_event}
use Rattle.overlay_machine.specs.Agree.{ReadyFor, AtSite, AtEntry, AtReturn, FrameSound, IsKnown, AllKnown}
use Rattle.overlay_machine.specs.Agree.{IsForeign}
use Rattle.overlay_machine.specs.Runs.{Reached, begins, goes_on, plain_run}
use Rattle.overlay_machine.specs.Brackets.{FrameTold, Mark, opens, closes, Brackets, at_end, one_opens}
use Rattle.overlay_machine.specs.Brackets.{one_closes, frame_told, frames_told}
use Rattle.overlay_machine.specs.Link.{Link}
use Rattle.overlay_machine.specs.Linked.{IsLink}
use Rattle.overlay_machine.specs.Invariant.{Invariant, FrameLies, FramesLie}
use Rattle.overlay_machine.proofs.BracketLemmas.{joined}
use Rattle.overlay_machine.proofs.Marks.{flat_cell, if_there, words_at, marks_by, marks_of, Marked, none_yet}
use Rattle.overlay_machine.proofs.Marks.{and_then, AreBracketed}
use Rattle.overlay_machine.proofs.FrameWords.{words_from-at, words_from-past, word_of-within, flat-other}
use Rattle.overlay_machine.proofs.FrameWords.{known-other, put_back-in}
use Rattle.overlay_machine.proofs.RunsAgree.{good_at}
use Rattle.overlay_machine.proofs.invariant.Ready.{ready, known}
use Rattle.overlay_machine.proofs.invariant.EntryKept.{entered}
use Rattle.overlay_machine.proofs.invariant.OtherKept.{went_other, plain_is}
use Rattle.overlay_machine.proofs.invariant.CallKept.{Called, called}
use Rattle.overlay_machine.proofs.invariant.ReturnKept.{Returned, returned}
use Rattle.overlay_machine.proofs.invariant.Kept.{kept}

-- ---- lists

-- the words that stand at addresses, one after another
words_taken : (m : ℕ → Option Word) (a : ℕ) (ws : List Word)
    → ((j : ℕ) (w : Word) → slice_get ws j ≡ Some w → m (a + j) ≡ Some w) → (n : ℕ) → n ≤ length ws
    → words_at m a n ≡ take n ws
words_taken m a ws h zero le = refl
words_taken m a [] h (suc n) le = absurd (omega (arith, le))
words_taken m a (w ∷ ws) h (suc n) le =
    let here : m (a + n) ≡ Some (get_or (w ∷ ws) n w) =
    h n (get_or (w ∷ ws) n w) (slice_get-get_or (w ∷ ws) n w (omega (arith, le))) in
    let before : words_at m a n ≡ take n (w ∷ ws) = words_taken m a (w ∷ ws) h n (omega (arith, le)) in
    ap (λ xs. xs ++ if_there (m (a + n))) before ∙ ap (λ o. take n (w ∷ ws) ++ if_there o) here
    ∙ sym (take-suc (w ∷ ws) n w (omega (arith, le)))

words_are : (m : ℕ → Option Word) (a : ℕ) (ws : List Word)
    → ((j : ℕ) (w : Word) → slice_get ws j ≡ Some w → m (a + j) ≡ Some w) → words_at m a (length ws) ≡ ws
words_are m a ws h = words_taken m a ws h (length ws) (omega arith) ∙ take-length ws

map_same : {A B : Type 0} (f h : A → B) (xs : List A)
    → ((j : ℕ) (x : A) → slice_get xs j ≡ Some x → f x ≡ h x) → map f xs ≡ map h xs
map_same f h [] k = refl
map_same f h (x ∷ xs) k =
    ap (λ y. y ∷ map f xs) (k 0 x refl) ∙ ap (λ ys. h x ∷ ys) (map_same f h xs (λ j y e. k (suc j) y e))

pub map_get : {A B : Type 0} (f : A → B) (xs : List A) (j : ℕ) (y : B) → slice_get (map f xs) j ≡ Some y
    → (x : A) × (slice_get xs j ≡ Some x) × (f x ≡ y)
map_get f [] j y e = cc
map_get f (x ∷ xs) zero y e = (x, refl, (let q : f x ≡ y = cc in q))
map_get f (x ∷ xs) (suc j) y e = map_get f xs j y e

-- a place that was found passes
pub found_at : {X : Type 0} (p : X → Bool) (xs : List X) (j : ℕ) → position p xs ≡ Some j → (x : X)
    × (slice_get xs j ≡ Some x) × (p x ≡ true)
found_at p [] j e = absurd cc
found_at p (x ∷ xs) j e = let h =
    position-Some p (x ∷ xs) j x e in (get_or (x ∷ xs) j x, slice_get-get_or (x ∷ xs) j x h.0, h.1)

pub numbered_is : (o : Option ℕ) (j : ℕ) → option_and_then numbered o ≡ Some j → o ≡ Some j
numbered_is None j e = cc
numbered_is (Some i) j e = by_test (nat_lt i (2 ^ 32)) e
  where
    by_test : (b : Bool) → (if b then Some i else None) ≡ Some j → Some i ≡ Some j
    by_test true h = h
    by_test false h = cc

-- ---- a call

-- what the newest frame has at an address is what the overlay stands for there
in_newest : (l : Layout) (m : State OWord) (n : ℕ) (f : OpenFrame) (fs : List OpenFrame)
    → FrameLies l m.cells f → (j : ℕ) (v : OWord) → slice_get f.words j ≡ Some v
    → flat_cell l (record { maps = m; frames = f ∷ fs; calls = n }) (f.base + j) ≡ Some (flat l (f ∷ fs) v)
unfolding beside
in_newest l m n f fs s j v e =
    let lt = slice_get_within f.words j v e in
    let long = s.words in
    let none : cell m.cells (f.base + j) ≡ None =
    s.gone (f.base + j) (omega arith) (omega (arith, lt, long)) in
    let z : f.base + j - f.base ≡ j = omega arith in
    let there : word_of f (f.base + j) ≡ Some v =
    word_of-within f (f.base + j) (omega arith) ∙ ap (slice_get f.words) z ∙ e in
    ap (λ x. mapped_or (flat l (f ∷ fs)) x (mapped_or (flat l (f ∷ fs)) (framed (f ∷ fs) (f.base + j)) None))
    none
    ∙ ap (λ x. mapped_or (flat l (f ∷ fs)) (option_or x (framed fs (f.base + j))) None) there

-- all words of a new frame were there before
new_known : (i a e : ℕ) (o : OState) → AllKnown o → (j : ℕ) (v : OWord)
    → slice_get (new_frame i a e o).words j ≡ Some v → IsKnown o.calls v
new_known i a e o k zero v q = let w : reg o.maps.regs Dat ≡ v =
    cc in subst (λ y. IsKnown o.calls y) w (k.places (R Dat) (reg o.maps.regs Dat) refl)
new_known i a e o k (suc j) v q = by_cell (cell o.maps.cells (a + 1 + j)) refl (words_are_at (e - a) v q)
  where
    words_are_at : (n : ℕ) (v : OWord) → slice_get (words_from Plain o.maps.cells (a + 1) n) j ≡ Some v
        → unwrap_or (cell o.maps.cells (a + 1 + j)) (zero_word Plain) ≡ v
    words_are_at n v q =
        elim (cases_lt j n) as (λ _. unwrap_or (cell o.maps.cells (a + 1 + j)) (zero_word Plain) ≡ v) [
          | inl lt ↦
              (let b : Some (unwrap_or (cell o.maps.cells (a + 1 + j)) (zero_word Plain)) ≡ Some v =
              sym (words_from-at o.maps.cells (a + 1) n j lt) ∙ q in
              (let c : unwrap_or (cell o.maps.cells (a + 1 + j)) (zero_word Plain) ≡ v = cc in c))
          | inr ge ↦
              absurd (let bad : None ≡ Some v = sym (words_from-past o.maps.cells (a + 1) n j ge) ∙ q in cc)
        ]

    by_cell : (c : Option OWord) → cell o.maps.cells (a + 1 + j) ≡ c
        → unwrap_or (cell o.maps.cells (a + 1 + j)) (zero_word Plain) ≡ v → IsKnown o.calls v
    by_cell None m h = subst (λ y. IsKnown o.calls y) (sym (ap (λ y. unwrap_or y (zero_word Plain)) m) ∙ h) tt
    by_cell (Some w) m h =
        subst (λ y. IsKnown o.calls y) (sym (ap (λ y. unwrap_or y (zero_word Plain)) m) ∙ h)
        (k.places (Cell (a + 1 + j)) w m)

-- the words of a call are those of its frame
call_shows : (l : Layout) (m : State OWord) (n : ℕ) (f : OpenFrame) (fs : List OpenFrame)
    → FrameLies l m.cells f → ((j : ℕ) (v : OWord) → slice_get f.words j ≡ Some v → IsKnown f.call v)
    → words_at (flat_cell l (record { maps = m; frames = f ∷ fs; calls = n }))
    f.base (f.end + 1 - f.base) ≡ map (flat l fs) f.words
call_shows l m n f fs s ks =
    let o : OState = record { maps = m; frames = f ∷ fs; calls = n } in
    let long = s.words in
    let ml = length-map f.words (flat l (f ∷ fs)) in
    let count : f.end + 1 - f.base ≡ length (map (flat l (f ∷ fs)) f.words) = omega (arith, long, ml) in
    ap (words_at (flat_cell l o) f.base) count
    ∙ words_are (flat_cell l o) f.base (map (flat l (f ∷ fs)) f.words)
    (λ j w q.
    (let v = map_get (flat l (f ∷ fs)) f.words j w q in in_newest l m n f fs s j v.0 v.1 ∙ ap Some v.2))
    ∙ map_same (flat l (f ∷ fs)) (flat l fs)
    f.words (λ j v q. flat-other l f fs v (known-other f.call v (ks j v q)))

-- ---- a return

-- the words of a return are those of the frame that goes
return_shows : (l : Layout) (m : Cells) (o : OState) (s : SiteCode) (c : CapFields) (f : OpenFrame)
    (fs : List OpenFrame) (st : State OWord) → FrameSound l m f
    → flat l fs (first_word f.words) ∷ words_at (flat_cell l (state_resumed s c f fs st o)) (f.base + 1)
    (f.end - f.base) ≡ map (flat l fs) f.words
return_shows l m o s c f fs st so =
    let q : OState = state_resumed s c f fs st o in
    let rest : rest_words f.words ≡ so.rest = ap rest_words so.words in
    let as_long = so.as_long in
    let ml = length-map so.rest (flat l fs) in
    let count : f.end - f.base ≡ length (map (flat l fs) so.rest) = omega (arith, as_long, ml) in
    let cell_at : (j : ℕ) (v : OWord) → slice_get so.rest j ≡ Some v
    → cell (put_back st.cells f.base (zero_word Plain ∷ rest_words f.words)) (f.base + 1 + j) ≡ Some v =
    (λ j v q.
    (let lt = slice_get_within so.rest j v q in let z : f.base + 1 + j ≡ f.base + suc j = omega arith in
    ap (λ ws. cell (put_back st.cells f.base (zero_word Plain ∷ ws)) (f.base + 1 + j)) rest
    ∙ ap (cell (put_back st.cells f.base (zero_word Plain ∷ so.rest))) z
    ∙ put_back-in st.cells f.base (zero_word Plain ∷ so.rest) (suc j) (omega (arith, lt)) ∙ q)) in
    let others : words_at (flat_cell l q) (f.base + 1) (f.end - f.base) ≡ map (flat l fs) so.rest =
    ap (words_at (flat_cell l q) (f.base + 1)) count
    ∙ words_are (flat_cell l q) (f.base + 1) (map (flat l fs) so.rest)
    (λ j w e. (let v = map_get (flat l fs) so.rest j w e in
    ap (λ y. mapped_or (flat l fs) y (beside l fs (f.base + 1 + j))) (cell_at j v.0 v.1) ∙ ap Some v.2)) in
    ap (λ ws. flat l fs (first_word ws) ∷ words_at (flat_cell l q) (f.base + 1) (f.end - f.base)) so.words
    ∙ ap (λ ws. flat l fs (Plain so.first) ∷ ws) others
    ∙ sym (ap (map (flat l fs)) so.words)

-- how a step moves the list of frames, with its marks
pub data Moves (l : Layout) (before after : List OpenFrame) (ms : List (Mark FrameTold)) : Type 0 where
  stays : ms ≡ [] → after ≡ before → Moves l before after ms
  pushes : (f : OpenFrame) → ms ≡ opens (frame_told l f before) ∷ [] → after ≡ f ∷ before
      → Moves l before after ms
  pops : (f : OpenFrame) → ms ≡ closes (frame_told l f after) ∷ [] → before ≡ f ∷ after
      → Moves l before after ms

tells : (l : Layout) (before after : List OpenFrame) (ms : List (Mark FrameTold)) → Moves l before after ms
    → Brackets FrameTold (frames_told l before) ms (frames_told l after)
tells l before after ms (stays e a) =
    subst (λ y. Brackets FrameTold (frames_told l before) y (frames_told l after)) (sym e)
    (subst (λ y. Brackets FrameTold (frames_told l before) [] (frames_told l y)) (sym a) (at_end _))
tells l before after ms (pushes f e a) =
    subst (λ y. Brackets FrameTold (frames_told l before) y (frames_told l after)) (sym e)
    (subst (λ y. Brackets FrameTold (frames_told l before) (opens (frame_told l f before) ∷ [])
    (frames_told l y)) (sym a) (one_opens (at_end _)))
tells l before after ms (pops f e a) =
    subst (λ y. Brackets FrameTold (frames_told l before) y (frames_told l after)) (sym e)
    (subst (λ y. Brackets FrameTold (frames_told l y) (closes (frame_told l f after) ∷ [])
    (frames_told l after)) (sym a) (one_closes (at_end _)))

module _ (g : Link) (linked : IsLink g) where
  abbrev L : Layout
  L = g.layout

  -- ---- the event of a step

  -- a foreign word is under no return seal
  unsealed : (w : Word) → IsForeign L w → (x : Option Opened) → opened_of w ≡ x → site_opened L x ≡ None
  unsealed w f None e = refl
  unsealed w f (Some x) e = by_site (site_of_seal L x.seal) refl
    where
      by_site : (o : Option ℕ) → site_of_seal L x.seal ≡ o → o ≡ None
      by_site None h = refl
      by_site (Some j) h = absurd (
          let p = found_at (λ (s : Site). s.seal == x.seal)
          L.sites j (numbered_is (position (λ (s : Site). s.seal == x.seal) L.sites) j h) in
          let u = linked.listed j p.0 p.1 in
          f x j u.0 e u.1 (sym (eqb-true (p.0).seal x.seal p.2) ∙ sym u.2))

  calls_noted : (i : ℕ) (o : OState) → is_plain o.maps.regs.c1 ≡ true
      → ((w : Word) → o.maps.regs.c1 ≡ Plain w → IsForeign L w) → note_by L o (Call i) ≡ Calls
  unfolding opens_in
  calls_noted i o p f =
      let w = plain_is o.maps.regs.c1 p in
      ap note_call
      (ap (λ y. site_opened L (opened_of (look y))) w.1 ∙ unsealed w.0 (f w.0 w.1) (opened_of w.0) refl)

  -- an event of another step tells of no frame
  jump_silent : (q : OState) (from : Option ℕ) (seal : ℕ) → marks_by L q (jumped L q from seal) ≡ []
  jump_silent q (Some part) seal =
      elim (is_some (owner_now L q)) as (λ b. marks_by L q (if b then None else Some (Left part)) ≡ [])
      [ true ↦ refl | false ↦ refl ]
  jump_silent q None seal = by_owner (closure_owner L seal)
    where
      by_entry : (o : Option ℕ) (p : ℕ) (b : ℕ → Event) → ((k : ℕ) → marks_by L q (Some (b k)) ≡ [])
          → marks_by L q (option_map b o) ≡ []
      by_entry None p b h = refl
      by_entry (Some k) p b h = h k

      by_owner : (o : Option Owner) → marks_by L q (option_and_then (event_entered L q) o) ≡ []
      by_owner None = refl
      by_owner (Some p) =
          by_entry (entry_number p (faces look q.maps Pc))
          p.part (λ k. Entered p.part k (back_of L (shown_word L q Rcode) (shown_word L q Rdata))) (λ k. refl)

  other_silent : (o q : OState) → marks_by L q (event_after L (note_by L o Other) q) ≡ []
  other_silent o q = by_seal (jump_seal o.maps (fetch (faces look o.maps Pc) (cell_faces look o.maps)))
    where
      by_seal : (s : Option ℕ)
          → marks_by L q (event_after L (note_jump (option_map (λ p. p.part) (owner_now L o)) s) q) ≡ []
      by_seal None = refl
      by_seal (Some seal) = jump_silent q (option_map (λ p. p.part) (owner_now L o)) seal

  module _ (o : OState) (t : State Word) (inv : Invariant g o t) (q : OState) (u : State Word)
      (inv' : Invariant g q u) where
    abbrev marks : Case → List (Mark FrameTold)
    marks c = marks_by L q (event_after L (note_by L o c) q)

    call_moves : (i : ℕ) → AtSite L i o → Called L i o q → Moves L o.frames q.frames (marks (Call i))
    call_moves i r x =
        let f : OpenFrame = new_frame i (address x.cap.addr) x.cap.end o in
        let new : OState = record { maps = x.maps; frames = f ∷ o.frames; calls = o.calls + 1 } in
        let k : FramesLie L x.maps.cells (o.calls + 1) (f ∷ o.frames) =
        subst (λ y. FramesLie L y.maps.cells y.calls y.frames) x.result inv'.frames in
        let words =
        call_shows L x.maps (o.calls + 1)
        f o.frames k.0 (new_known i (address x.cap.addr) x.cap.end o (known g linked o t inv)) in
        let note = calls_noted i o x.plain1 r.foreign in
        let line : marks_by L new (event_after L (note_by L o (Call i)) new) ≡ opens (frame_told L f o.frames)
        ∷ [] =
        ap (λ n. marks_by L new (event_after L n new)) note
        ∙ ap (λ ws. opens (record { site = i; base = f.base; end = f.end; words = ws }) ∷ []) words in
        pushes f (ap (λ y. marks_by L y (event_after L (note_by L o (Call i)) y)) x.result ∙ line)
        (ap (λ y. y.frames) x.result)

    back_moves : (r1 r2 : Reg) → AtReturn L r1 r2 o → Returned L r1 r2 o q
        → Moves L o.frames q.frames (marks (Back r1 r2))
    back_moves r1 r2 rd x =
        let f : OpenFrame = x.frame in
        let new : OState = state_resumed x.site x.cap x.frame x.older
        (put o.maps (R r2) (zero_word Plain)) o in
        let words =
        return_shows L o.maps.cells o x.site x.cap x.frame x.older (put o.maps (R r2) (zero_word Plain))
        (rd.frames x.frame x.older x.frames_are) in
        let line : marks_by L new (event_after L (note_by L o (Back r1 r2)) new)
        ≡ closes (frame_told L f x.older) ∷ [] =
        ap (λ fs. marks_by L new (event_after L (note_return (is_some (owner_now L o)) fs) new)) x.frames_are
        ∙ ap (λ ws. closes (record { site = f.site; base = f.base; end = f.end; words = ws }) ∷ [])
        words in
        let older : q.frames ≡ x.older = ap (λ y. y.frames) x.result in
        pops f (ap (λ y. marks_by L y (event_after L (note_by L o (Back r1 r2)) y)) x.result ∙ line
        ∙ ap (λ fs. closes (frame_told L f fs) ∷ []) (sym older))
        (x.frames_are ∙ ap (λ fs. f ∷ fs) (sym older))

    entry_moves : (a : ℕ) → AtEntry L a o → step_by L (Entry a) o ≡ goes q
        → Moves L o.frames q.frames (marks (Entry a))
    entry_moves a r e =
        stays refl
        (let n = entered g linked o t inv q a (code_cap r.base r.end a) r.pc e in ap (λ y. y.frames) n.2)

    other_moves : other_step o ≡ goes q → Moves L o.frames q.frames (marks Other)
    unfolding other_step
    other_moves e =
        stays (other_silent o q)
        (let n = went_other o.frames o.calls (step_of look Plain o.maps) q e in ap (λ y. y.frames) n.2)

    moves_by : (c : Case) → ReadyFor L o c → step_by L c o ≡ goes q → Moves L o.frames q.frames (marks c)
    moves_by (Call i) r e = call_moves i r (called L i o q e)
    moves_by (Entry a) r e = entry_moves a r e
    moves_by (Back r1 r2) r e = back_moves r1 r2 r (returned L r1 r2 o q e)
    moves_by Other r e = other_moves e

    pub step_moves : overlay_step L o ≡ goes q → Moves L o.frames q.frames (marks_of L o q)
    unfolding overlay_step step_event
    step_moves e = moves_by (case_of L o.maps) (ready g linked o t inv) e

  -- ---- runs

  module _ (o : OState) (t : State Word) (inv : Invariant g o t) where
    pub reached : (j : ℕ) (ms : List (Mark FrameTold)) (p : OState) → Marked L o j ms p → Reached L o j p
    reached _ _ _ none_yet = begins
    reached _ _ q (and_then {j = j} {ms = ms} {p = p} r e) = goes_on (reached j ms p r) e

    pub matched : (j : ℕ) (p : OState) → Reached L o j p → (u : State Word) × (plain_run j t ≡ went u)
        × Invariant g p u
    matched j p r = good_at L (Invariant g) (λ q u i. i.flat) (λ q u i. kept g linked q u i) o t inv j p r

    pub bracketed : AreBracketed L o
    bracketed _ _ _ none_yet = at_end _
    bracketed _ _ q (and_then {j = j} {ms = ms} {p = p} r e) =
        let s = matched j p (reached j ms p r) in
        let s' = matched (j + weight_of L p) q (goes_on (reached j ms p r) e) in
        joined (bracketed j ms p r)
        (tells L p.frames q.frames (marks_of L p q) (step_moves p s.0 s.2 q s'.0 s'.2 e))
