-- The lines of a run from a linked start fit.
use Rattle.std.proofs.Common.{◌≡◌, ℕ, zero, suc, ◌+◌, ◌-◌, ◌≤◌, ℤ, pos, negsuc, Bool, true, false, List, []}
use Rattle.std.proofs.Common.{◌∷◌, ◌++◌, Option, Some, None, refl, arith, leb-true}
use Rattle.std.specs.Prelude.{not, ◌||◌, ◌&&◌, slice_get, find, option_map, option_and_then, if◌then◌else◌}
use Rattle.std.specs.Prelude.{is_some, nat_le, ◌==◌}
use Rattle.std.specs.List.{Contains}
use Rattle.std.proofs.lemmas.Bool.{and_parts}
use Rattle.cap_words.specs.declared.TheConstants.{LAST_PLACE}
use Rattle.cap_words.specs.declared.Word.{Word}
use Rattle.cap_words.specs.declared.Word.TheVariants.{Int, Mem, Seal, Sealed}
use Rattle.cap_words.specs.declared.Sealable.TheVariants.{Mem as MemIn, Seal as SealIn}
use Rattle.cap_words.specs.declared.Content.{Content}
use Rattle.cap_words.specs.declared.Content.TheVariants.{Mem as MemC, Seal as SealC}
use Rattle.cap_words.specs.declared.Opened.{Opened}
use Rattle.cap_words.specs.declared.Face.{Face}
use Rattle.cap_words.specs.declared.Face.TheVariants.{Number, Memory, Seals, Sealed as SealedFace}
use Rattle.cap_words.specs.Face.{face_of, opened_of}
use Rattle.cap_words.specs.Faces.{target_of, covers, address}
use Rattle.cap_words.specs.Ranges.{in_range}
use Rattle.cap_words.specs.WordBytes.{WordFits}
use Rattle.call_sequence.specs.declared.TheConstants.{CALL_WORDS, RETURN_WORDS}
use Rattle.lcm_isa.specs.declared.Reg.{Reg}
use Rattle.lcm_isa.specs.declared.Reg.TheVariants.{Pc, Rcode, Rdata, Stk, Dat, A0, A1, A2, A3}
use Rattle.lcm_machine.specs.declared.Step.{Step}
use Rattle.lcm_machine.specs.declared.Step.TheVariants.{Went, Halted, Failed}
use Rattle.lcm_machine.specs.Maps.{State}
use Rattle.lcm_machine.specs.Run.{next_state, answer}
use Rattle.lcm_machine.specs.Row.{faces, jump_at}
use Rattle.linked_starts.specs.declared.owners.Site.{Site}
use Rattle.linked_starts.specs.declared.owners.Owner.{Owner}
use Rattle.linked_starts.specs.declared.owners.Entry.{Entry}
use Rattle.linked_starts.specs.Parts.{PartSeen}
use Rattle.linked_starts.specs.Linked.{AreClosed}
use Rattle.linked_starts.specs.Owners.{AreOwners, AreSites}
use Rattle.linked_starts.proofs.Offers.{are_linked, starts_fit}
use Rattle.trusted_border.specs.declared.layout.Layout.{Layout}
use Rattle.trusted_border.specs.declared.events.Back.{Back}
use Rattle.trusted_border.specs.declared.events.Back.TheVariants.{Out, Bad, Hop, Pair}
use Rattle.trusted_border.specs.declared.events.Event.{Event}
use Rattle.trusted_border.specs.declared.events.Event.TheVariants.{Called, Returned, Entered, Left}
use Rattle.trusted_border.specs.Layout.{runs_part, trusted_owner, trusted_at, number_of, site_at}
use Rattle.trusted_border.specs.Reaches.{entry_number, closure_owner, site_of_seal, content_base, hop_to}
use Rattle.trusted_border.specs.Reaches.{hop_in, back_under, back_if, back_of, plan_goes, jump_plan}
use Rattle.overlay_machine.proofs.Offers.{found_is}
use Rattle.run_lines.specs.declared.note.Note.{Note}
use Rattle.run_lines.specs.declared.note.Note.TheVariants.{Nothing, Last, Leap}
use Rattle.run_lines.specs.declared.pairs.PassedPair.{PassedPair as PairOf}
use Rattle.run_lines.specs.declared.pairs.PassedPair.TheVariants.{Nothing as NoPair, Bad as BadPair}
use Rattle.run_lines.specs.declared.pairs.PassedPair.TheVariants.{Out as OutPair, Hop as HopPair}
use Rattle.run_lines.specs.declared.pairs.Pairs.{Pairs}
use Rattle.run_lines.specs.Layout.{layout, site_before, site_word, part_name, entry_name, site_of}
use Rattle.run_lines.specs.Views.{View, view_of}
use Rattle.run_lines.specs.Events.{note_last, noted_by, noted, reaches_trusted, called_with, called}
use Rattle.run_lines.specs.Events.{returned_at, returned, entered, leapt_by, event_after}
use Rattle.run_lines.specs.Pairs.{is_nothing, if_normal, pair_to, pair_if, pair_of, pairs_of, none_paired}
use Rattle.run_lines.specs.Lines.{Line, pass, args_of, list_of, words_seen, feed_back, feed_pair, line_of}
use Rattle.run_lines.specs.Lines.{lines_behind, lines_for, pass_lines}
use Rattle.run_lines.specs.Runs.{Watched, begun, if_went, watched, event_next, line_next, lines_of}
use Rattle.lcm_machine.specs.Fitting.{MapsFit}
use Rattle.source_events.specs.Forms.{IsName, IsSmall, BackFits, PairFits, is_pair}
use Rattle.run_lines.specs.Fits.{AllOf, ArgsOf, PlaceFits, LineFits, LinesFit, StartLinesFit}
use Rattle.lcm_machine.proofs.Offers.{OpenedFits, opened_fits, next_state_fits}
use Rattle.run_lines.proofs.fit.NamesFit.{number_at, part_named, entry_named, site_fits}

-- ---- views, and lists of words and of lines

abbrev ViewFits : View → Type 0
ViewFits v = ((r : Reg) → WordFits (v.reg r)) × ((a : ℕ) (w : Word) → v.cell a ≡ Some w → WordFits w)

all_append : (xs ys : List Word) → AllOf WordFits xs → AllOf WordFits ys → AllOf WordFits (xs ++ ys)
all_append [] ys h k = k
all_append (x ∷ xs) ys h k = (h.0, all_append xs ys h.1 k)

lines_append : (xs ys : List Line) → LinesFit xs → LinesFit ys → LinesFit (xs ++ ys)
lines_append [] ys h k = k
lines_append (x ∷ xs) ys h k = (h.0, lines_append xs ys h.1 k)

listed_fits : (o : Option Word) → ((w : Word) → o ≡ Some w → WordFits w) → AllOf WordFits (list_of o)
listed_fits None h = tt
listed_fits (Some w) h = (h w refl, tt)

words_fit : (v : View) → ViewFits v → (a n : ℕ) → AllOf WordFits (words_seen v a n)
words_fit v h a zero = tt
words_fit v h a (suc n) = all_append (words_seen v a n) (list_of (v.cell (a + n))) (words_fit v h a n)
    (listed_fits (v.cell (a + n)) (λ w e. h.1 (a + n) w e))

args_fit : (v : View) → ViewFits v → ArgsOf WordFits (args_of v)
args_fit v h = (h.0 A0, h.0 A1, h.0 A2, h.0 A3)

-- ---- ranges that words name

content_small : (x : Content) → OpenedFits x → content_base x ≤ 4294967295
content_small (MemC c) h = let a = h.0.0 in let b = h.0.1 in omega (arith, a, b)
content_small (SealC s) h = let a = h.0.0 in let b = h.0.1 in omega (arith, a, b)

covered_small : (b e : ℕ) (z : ℤ) → in_range b e z ≡ true → e ≤ LAST_PLACE → address z ≤ 4294967295
covered_small b e (pos n) h k =
    let t : n ≤ e = leb-true n e (and_parts (nat_le b n) (nat_le n e) h).1 in omega (arith, t, k)
covered_small b e (negsuc n) h k = absurd cc

-- what holds of the value, where there is one
abbrev When : {A : Type 0} → (A → Type 0) → Option A → Type 0
When P None = Unit {0}
When P (Some x) = P x

module _ (parts : List PartSeen) (closed : AreClosed parts) (l : Layout) (are_sites : AreSites parts l.sites)
    (are_owners : AreOwners parts l.owners) where
  -- ---- sites and owners that are found

  abbrev SiteThere : ℕ → Type 0
  SiteThere i = (s : Site) × (slice_get l.sites i ≡ Some s)

  abbrev OwnerThere : Owner → Type 0
  OwnerThere o = Contains l.owners o

  site_numbered : (test : Site → Bool) → When SiteThere (number_of test l.sites)
  site_numbered test = by (number_of test l.sites) refl
    where
      by : (o : Option ℕ) → number_of test l.sites ≡ o → When SiteThere o
      by None e = tt
      by (Some i) e = number_at test l.sites i e

  owner_found : (test : Owner → Bool) → When OwnerThere (find test l.owners)
  owner_found test = by (find test l.owners) refl
    where
      by : (o : Option Owner) → find test l.owners ≡ o → When OwnerThere o
      by None e = tt
      by (Some q) e = (found_is test l.owners q e).0

  running_found : (f : Face) → When OwnerThere (trusted_owner l f)
  running_found (Number z) = tt
  running_found (Memory c) = owner_found (runs_part c)
  running_found (Seals s) = tt
  running_found (SealedFace x) = tt

  site_before_found : (off a : ℕ) → When SiteThere (site_before l off a)
  site_before_found off a =
      elim (nat_le off a) as (λ b. When SiteThere (if b then site_at l (a - off) else None))
      [ true ↦ site_numbered (λ s. s.at == a - off) | false ↦ tt ]

  site_word_found : (off : ℕ) (f : Face) → When SiteThere (site_word l off f)
  unfolding site_word
  site_word_found off f = by (trusted_at l f)
    where
      by : (o : Option ℕ) → When SiteThere (option_and_then (site_before l off) o)
      by None = tt
      by (Some a) = site_before_found off a

  -- ---- what is noted

  abbrev NamesPart : ℕ → Type 0
  NamesPart part = IsName (part_name l part)

  abbrev NoteFits : Note → Type 0
  NoteFits Nothing = Unit {0}
  NoteFits (Last i) = SiteThere i
  NoteFits (Leap j) = When NamesPart j.from × When SiteThere j.call

  last_fits : (o : Option ℕ) → When SiteThere o → NoteFits (note_last o)
  last_fits None h = tt
  last_fits (Some i) h = h

  from_fits : (o : Option Owner) → When OwnerThere o → When NamesPart (option_map (λ q. q.part) o)
  from_fits None h = tt
  from_fits (Some q) h = part_named parts closed l are_sites are_owners q h

  noted_fits_by : (s : State Word) (r : Option Reg) → NoteFits (noted_by l s r)
  noted_fits_by s None = last_fits _ (site_word_found (CALL_WORDS + RETURN_WORDS - 1) (faces (λ w. w) s Pc))
  noted_fits_by s (Some r) =
      let pc = faces (λ w. w) s Pc in
      (from_fits _ (running_found pc), site_word_found (CALL_WORDS - 1) pc)

  noted_fits : (s : State Word) → NoteFits (noted l s)
  unfolding noted
  noted_fits s = noted_fits_by s (jump_at (λ w. w) s)

  -- ---- where an `xjmp` goes

  entry_fits : (o : Owner) → OwnerThere o → (f : Face) → When (λ k. IsName (entry_name l o.part k))
      (entry_number o f)
  entry_fits o m f = by_target (target_of f)
    where
      by_number : (test : Entry → Bool) (n : Option ℕ) → number_of test o.entries ≡ n
          → When (λ k. IsName (entry_name l o.part k)) n
      by_number test None e = tt
      by_number test (Some k) e =
          let x = number_at test o.entries k e in
          entry_named parts closed l are_sites are_owners o m k x.0 x.1

      by_target : (t : Option ℕ) → When (λ k. IsName (entry_name l o.part k))
          (option_and_then (λ a. number_of (λ e. e.at == a) o.entries) t)
      by_target None = tt
      by_target (Some a) = by_number (λ e. e.at == a) (number_of (λ e. e.at == a) o.entries) refl

  hop_fits_to : (o : Owner) → OwnerThere o → (n : Option ℕ) → When (λ k. IsName (entry_name l o.part k)) n
      → BackFits (feed_back l (hop_to o n))
  hop_fits_to o m None h = tt
  hop_fits_to o m (Some k) h = (part_named parts closed l are_sites are_owners o m, h)

  hop_fits : (o : Option Owner) → When OwnerThere o → (x : Content) → BackFits (feed_back l (hop_in o x))
  hop_fits None m x = tt
  hop_fits (Some o) m (MemC c) = hop_fits_to o m (entry_number o (Memory c)) (entry_fits o m (Memory c))
  hop_fits (Some o) m (SealC s) = tt

  back_fits_under : (o : Option ℕ) → When SiteThere o → (code half : Opened) → OpenedFits half.content
      → BackFits (feed_back l (back_under l o code half))
  back_fits_under None h code half f = hop_fits (closure_owner l code.seal) (owner_found _) code.content
  back_fits_under (Some i) h code half f =
      let k = site_fits parts closed l are_sites are_owners i h.0 h.1 in
      (k.0, k.1, content_small half.content f)

  back_fits_if : (b : Bool) (x y : Option Opened) → When (λ (k : Opened). OpenedFits k.content) y
      → BackFits (feed_back l (back_if b l x y))
  back_fits_if true (Some code) (Some half) h =
      back_fits_under (site_of_seal l code.seal) (site_numbered _) code half h
  back_fits_if false (Some code) (Some half) h = tt
  back_fits_if b None y h = tt
  back_fits_if b (Some code) None h = tt

  when_opened : (w : Word) → WordFits w → When (λ (k : Opened). OpenedFits k.content) (opened_of w)
  when_opened w h = by (opened_of w) refl
    where
      by : (o : Option Opened) → opened_of w ≡ o → When (λ (k : Opened). OpenedFits k.content) o
      by None e = tt
      by (Some k) e = opened_fits w k e h

  back_fits : (w v : Word) → WordFits v → BackFits (feed_back l (back_of l w v))
  back_fits w v h = back_fits_if (plan_goes (jump_plan w v)) (opened_of w) (opened_of v) (when_opened v h)

  pair_to_fits : (b : Back) → BackFits (feed_back l b) → PairFits (feed_pair l (pair_to b))
  pair_to_fits Out h = tt
  pair_to_fits Bad h = tt
  pair_to_fits (Hop part k) h = h
  pair_to_fits (Pair i base) h = tt

  pair_fits_if : (b : Bool) (x y : Option Opened) → PairFits (feed_pair l (pair_if b l x y))
  pair_fits_if true (Some code) (Some half) =
      let to = closure_owner l code.seal in
      pair_to_fits (hop_in to code.content) (hop_fits to (owner_found _) code.content)
  pair_fits_if false (Some code) (Some half) = tt
  pair_fits_if b None y = tt
  pair_fits_if b (Some code) None = tt

  told_is : (x : PairOf) → is_pair (feed_pair l x) ≡ not (is_nothing x)
  told_is NoPair = refl
  told_is BadPair = refl
  told_is OutPair = refl
  told_is (HopPair part k) = refl

  not_all : (a b c : Bool) → (a && (b && c)) ≡ false → (not a || (not b || not c)) ≡ true
  not_all true true true e = cc
  not_all true true false e = refl
  not_all true false c e = refl
  not_all false b c e = refl

  some_told : (p : Pairs) → none_paired p ≡ false
      → (is_pair (feed_pair l p.p0) || (is_pair (feed_pair l p.p1) || is_pair (feed_pair l p.p2))) ≡ true
  some_told p e =
      let a = told_is p.p0 in
      let b = told_is p.p1 in
      let c = told_is p.p2 in
      rw (a, b, c) (not_all (is_nothing p.p0) (is_nothing p.p1) (is_nothing p.p2) e)

  pass_fits : (p : Pairs) → PairFits (feed_pair l p.p0) → PairFits (feed_pair l p.p1)
      → PairFits (feed_pair l p.p2) → LinesFit (pass_lines l p)
  pass_fits p h j k = by (none_paired p) refl
    where
      by : (b : Bool) → none_paired p ≡ b
          → LinesFit (if b then [] else pass (feed_pair l p.p0) (feed_pair l p.p1) (feed_pair l p.p2) ∷ [])
      by true e = tt
      by false e = ((h, j, k, some_told p e), tt)

  pair_fits : (w v : Word) → PairFits (feed_pair l (pair_of l w v))
  pair_fits w v = pair_fits_if (plan_goes (jump_plan w v)) (if_normal (opened_of w)) (if_normal (opened_of v))

  -- ---- events

  abbrev PlaceOf : ℕ → ℕ → ℕ → Type 0
  PlaceOf i base last = SiteThere i × IsSmall base × IsSmall last

  abbrev EventFits : Event → Type 0
  EventFits (Called inward i base last) = PlaceOf i base last
  EventFits (Returned inward i base last) = PlaceOf i base last
  EventFits (Entered part k back) = NamesPart part × IsName (entry_name l part k)
      × BackFits (feed_back l back)
  EventFits (Left part) = NamesPart part

  place_fits : (i base last : ℕ) → PlaceOf i base last → PlaceFits (part_name l (site_of l i).part)
      (site_of l i).index base last
  place_fits i base last h =
      let k = site_fits parts closed l are_sites are_owners i h.0.0 h.0.1 in (k.0, k.1, h.1, h.2)

  line_fits : (v : View) → ViewFits v → (e : Event) → EventFits e → LineFits (line_of l v e)
  line_fits v h (Called inward i base last) k =
      (place_fits i base last k, args_fit v h, words_fit v h base (last + 1 - base))
  line_fits v h (Returned inward i base last) k =
      (place_fits i base last k, h.0 A0, (h.0 Dat, words_fit v h (base + 1) (last - base)))
  line_fits v h (Entered part n back) k = (k.0, k.1, h.0 Stk, args_fit v h, k.2)
  line_fits v h (Left part) k = (k, h.0 A0)

  behind_fits : (v : View) (e : Event) → LinesFit (lines_behind l v e)
  behind_fits v (Called inward i base last) = tt
  behind_fits v (Returned inward i base last) = tt
  behind_fits v (Entered part n back) =
      let p = pairs_of l v in
      pass_fits p (pair_fits (v.reg A0) (v.reg A1)) (pair_fits (v.reg A1) (v.reg A2))
      (pair_fits (v.reg A2) (v.reg A3))
  behind_fits v (Left part) = tt

  lines_fit_for : (v : View) → ViewFits v → (e : Option Event) → When EventFits e → LinesFit (lines_for l v e)
  lines_fit_for v h None k = tt
  lines_fit_for v h (Some e) k = (line_fits v h e k, behind_fits v e)

  -- ---- which events there are

  called_fits_with : (inward : Bool) (i : ℕ) → SiteThere i → (x : Content) → OpenedFits x
      → When EventFits (called_with inward i x)
  called_fits_with inward i s (MemC c) h =
      let a = h.0.0 in let b = h.0.1 in (s, omega (arith, a, b), omega (arith, b))
  called_fits_with inward i s (SealC q) h = tt

  called_fits : (inward : Bool) (i : ℕ) → SiteThere i → (x : Option Opened)
      → When (λ (k : Opened). OpenedFits k.content) x → When EventFits (called inward i x)
  called_fits inward i s None h = tt
  called_fits inward i s (Some k) h = called_fits_with inward i s k.content h

  returned_fits : (inward : Bool) (i : ℕ) → SiteThere i → (w : Word) → WordFits w
      → When EventFits (returned inward i (face_of w))
  returned_fits inward i s (Int z) h = tt
  returned_fits inward i s (Mem c) h = by (covers c c.addr) refl
    where
      by : (b : Bool) → covers c c.addr ≡ b
          → When EventFits (returned_at inward i (Some c) (if b then Some (address c.addr) else None))
      by true e = let k = h.0.1 in (s, covered_small c.base c.end c.addr e h.0.1, omega (arith, k))
      by false e = tt
  returned_fits inward i s (Seal q) h = tt
  returned_fits inward i s (Sealed o (MemIn c)) h = tt
  returned_fits inward i s (Sealed o (SealIn c)) h = tt

  entered_fits : (v : View) → ViewFits v → (o : Owner) → OwnerThere o → When EventFits (entered l v o)
  entered_fits v h o m = by (entry_number o (face_of (v.reg Pc))) (entry_fits o m (face_of (v.reg Pc)))
    where
      by : (n : Option ℕ) → When (λ k. IsName (entry_name l o.part k)) n
          → When EventFits (option_map (λ k. Entered o.part k (back_of l (v.reg Rcode) (v.reg Rdata))) n)
      by None k = tt
      by (Some n) k =
          let back = back_fits (v.reg Rcode) (v.reg Rdata) (h.0 Rdata) in
          (part_named parts closed l are_sites are_owners o m, k, back)

  when_entered : (v : View) → ViewFits v → (o : Option Owner) → When OwnerThere o
      → When EventFits (option_and_then (entered l v) o)
  when_entered v h None m = tt
  when_entered v h (Some o) m = entered_fits v h o m

  closed_found : (seal : Option ℕ) → When OwnerThere (option_and_then (closure_owner l) seal)
  closed_found None = tt
  closed_found (Some seal) = owner_found _

  left_fits : (b : Bool) (part : ℕ) → NamesPart part → When EventFits (if b then None else Some (Left part))
  left_fits true part h = tt
  left_fits false part h = h

  call_fits : (b inward : Bool) (i : ℕ) → SiteThere i → (x : Option Opened)
      → When (λ (k : Opened). OpenedFits k.content) x → When EventFits (if b then None else called inward i x)
  call_fits true inward i s x h = tt
  call_fits false inward i s x h = called_fits inward i s x h

  leapt_fits : (v : View) → ViewFits v → (from call seal : Option ℕ) → When NamesPart from
      → When SiteThere call → When EventFits (leapt_by l from call seal v)
  leapt_fits v h None call seal f c =
      when_entered v h (option_and_then (closure_owner l) seal) (closed_found seal)
  leapt_fits v h (Some part) None seal f c = left_fits (reaches_trusted l v) part f
  leapt_fits v h (Some part) (Some i) seal f c =
      call_fits (is_some (option_and_then (site_of_seal l) seal)) (reaches_trusted l v) i c
      (opened_of (v.reg Rdata)) (when_opened (v.reg Rdata) (h.0 Rdata))

  event_fits : (n : Note) → NoteFits n → (inward : Bool) (v : View) → ViewFits v
      → When EventFits (event_after l n inward v)
  unfolding event_after
  event_fits Nothing k inward v h = tt
  event_fits (Last i) k inward v h = returned_fits inward i k (v.reg Stk) (h.0 Stk)
  event_fits (Leap j) k inward v h = leapt_fits v h j.from j.call j.seal k.0 k.1

  went_fits : (a : Step) (e : Option Event) → When EventFits e → When EventFits (if_went a e None)
  went_fits Went e h = h
  went_fits Halted e h = tt
  went_fits (Failed cause at) e h = tt

  -- ---- a run

  next_fits : (w : Watched) → MapsFit w.run.maps → LinesFit (line_next l w)
  unfolding line_next
  next_fits w all =
      let v : View = view_of (next_state w.run).maps in
      let h : ViewFits v = next_state_fits w.run all in
      let note : Note = noted l w.run.maps in
      let event = event_fits note (noted_fits w.run.maps) w.inward v h in
      lines_fit_for v h (event_next l w)
      (went_fits (answer (next_state w.run)) (event_after l note w.inward v) event)

  watched_fits : (w : Watched) → MapsFit w.run.maps → (n : ℕ) → MapsFit (watched l w n).run.maps
  watched_fits w all zero = all
  watched_fits w all (suc n) = next_state_fits (watched l w n).run (watched_fits w all n)

  pub run_fits : (w : Watched) → MapsFit w.run.maps → (n : ℕ) → LinesFit (lines_of l w n)
  run_fits w all zero = tt
  run_fits w all (suc n) = lines_append (lines_of l w n) (line_next l (watched l w n)) (run_fits w all n)
      (next_fits (watched l w n) (watched_fits w all n))

pub lines_fit : StartLinesFit
lines_fit parts size s l n =
    run_fits parts (are_linked parts size l.accepted l.rules).closed (layout s) l.starts.sites l.starts.owners
    (begun s.state) (starts_fit parts size s.state l.accepted l.rules l.starts.state) n
