-- What is forgotten of a run and of the refined meaning leaves the run's lines and the meaning; and what the
-- refined meaning says at each matched point.
use Rattle.std.proofs.Common.{◌≡◌, ℕ, zero, suc, ◌+◌, ◌*◌, ◌<◌, ◌≤◌, ℤ, pos, List, [], ◌∷◌, ◌++◌, map, length}
use Rattle.std.proofs.Common.{Option, Some, None, Bool, true, false, refl, sym, ap, ◌∙◌, subst, arith}
use Rattle.std.proofs.Common.{append_assoc, append-nil}
use Rattle.std.specs.Prelude.{slice_index_or}
use Rattle.cap_words.specs.declared.Word.TheVariants as cap
use Rattle.lcm_isa.specs.declared.Reg.TheVariants.{A0}
use Rattle.linked_starts.specs.Started.{StartSeen}
use Rattle.trusted_border.specs.declared.layout.Layout.{Layout}
use Rattle.trusted_border.specs.declared.events.Event.{Event}
use Rattle.trusted_border.specs.declared.events.Event.TheVariants.{Called, Returned, Entered, Left}
use Rattle.overlay_machine.specs.declared.words.OWord.{OWord}
use Rattle.overlay_machine.specs.declared.words.OWord.TheVariants.{Plain}
use Rattle.overlay_machine.specs.State.{OState}
use Rattle.overlay_machine.specs.Step.{Ending, goes, halts, fails, overlay_step, weight_of}
use Rattle.overlay_machine.specs.Events.{step_event}
use Rattle.overlay_machine.specs.Starting.{overlay_at}
use Rattle.run_lines.specs.Layout.{layout, part_name, site_of}
use Rattle.run_lines.specs.Views.{flat_view}
use Rattle.run_lines.specs.Lines.{args_of}
use Rattle.run_lines.specs.Feed.{integer_in, out_args}
use Rattle.source_events.specs.declared.Item.{Item}
use Rattle.source_events.specs.declared.Item.TheVariants.{Enter, Ret}
use Rattle.source_events.specs.declared.OutArg.TheVariants.{Int}
use Rattle.source_events.specs.Outs.{OutLine, call_out, leave_out, out_arg, out_lines}
use Rattle.source_events.specs.declared.End.TheVariants.{OutOfFuel}
use Rattle.proc_semantics.specs.Values as values
use Rattle.proc_semantics.specs.Meaning as plain
use Rattle.proc_semantics.specs.Fuel.{Prefix}
use Rattle.proc_semantics.specs.Marked as marked
use Rattle.proc_semantics.specs.Marked.{Marks, Thing, Whence, whences, numbered_items, plain_arg, plain_event}
use Rattle.proc_semantics.specs.Marked.{plain_report, marked_meaning, thing_to, refined, report_to}
use Rattle.proc_semantics.proofs.Offers.{marked_forgets, marked_renames}
use Rattle.template_runs.specs.Runs.{is_inside}
use Rattle.source_laws.specs.Trace as lines
use Rattle.source_laws.specs.Trace.{Final, Running, Outside, HaltedWith, Failed, weighed}
use Rattle.source_laws.specs.Good as good
use Rattle.source_laws.specs.Seen as seen
use Rattle.source_laws.specs.Seen.{Shown, Trace, shown_of, events_of, arg_shown, args_shown, thing_of}
use Rattle.source_laws.specs.Words.{RunTells, none_yet, and_then, words_at, back_at, word_from, TellsSo}
use Rattle.source_laws.specs.Words.{WordsTold, WhenceTold}
use Rattle.source_laws.proofs.Refined.{Report, Entry, World}
use Rattle.source_laws.proofs.Follows.{Fits}

pub map-both : {A B : Type 0} (f : A → B) (xs ys : List A) → map f (xs ++ ys) ≡ map f xs ++ map f ys
map-both f [] ys = refl
map-both f (x ∷ xs) ys = ap (λ z. f x ∷ z) (map-both f xs ys)

abbrev event_of : Shown → OutLine
event_of x = x.event

abbrev item_of : Thing OWord Entry → Item
item_of x = x.item

abbrev pub plain_trace : Trace → lines.Trace
plain_trace t = record {
  out = map event_of t.out;
  items = map item_of t.items;
  weight = t.weight;
  final = t.final;
}

-- ---- traces

arg_line : (o : Option ℤ) (w : OWord) → plain_arg (arg_shown o w) ≡ out_arg o
arg_line None w = refl
arg_line (Some z) w = refl

module _ (l : Layout) where
  args_line : (q : OState) → map plain_arg (args_shown l q) ≡ out_args (args_of (flat_view l q))
  args_line q =
      let v = args_of (flat_view l q) in
      let r = q.maps.regs in
      ap (λ z. z ∷ plain_arg (arg_shown (integer_in v.a1) r.a1) ∷ plain_arg (arg_shown (integer_in v.a2) r.a2)
      ∷ plain_arg (arg_shown (integer_in v.a3) r.a3) ∷ []) (arg_line (integer_in v.a0) r.a0)
      ∙ ap (λ z. out_arg (integer_in v.a0) ∷ z ∷ plain_arg (arg_shown (integer_in v.a2) r.a2)
      ∷ plain_arg (arg_shown (integer_in v.a3) r.a3) ∷ []) (arg_line (integer_in v.a1) r.a1)
      ∙ ap (λ z. out_arg (integer_in v.a0) ∷ out_arg (integer_in v.a1) ∷ z
      ∷ plain_arg (arg_shown (integer_in v.a3) r.a3) ∷ []) (arg_line (integer_in v.a2) r.a2)
      ∙ ap (λ z. out_arg (integer_in v.a0) ∷ out_arg (integer_in v.a1)
      ∷ out_arg (integer_in v.a2) ∷ z ∷ []) (arg_line (integer_in v.a3) r.a3)

  pub outs_line : (q : OState) (e : Option Event)
      → map event_of (seen.event_outs l q e) ≡ lines.event_outs l (flat_view l q) e
  outs_line q None = refl
  outs_line q (Some (Called true i base last)) = refl
  outs_line q (Some (Called false i base last)) =
      ap (λ z. call_out (part_name l (site_of l i).part) (site_of l i).index z ∷ []) (args_line q)
  outs_line q (Some (Returned inward i base last)) = refl
  outs_line q (Some (Entered part k back)) = refl
  outs_line q (Some (Left part)) = refl

  thing_item : (q : OState) (i : Item) → item_of (thing_of l q i) ≡ i
  thing_item q (Enter part name left ints pairs back) = refl
  thing_item q (Ret part site base v) = refl

  pub things_item : (q : OState) (is : List Item) → map item_of (map (thing_of l q) is) ≡ is
  things_item q [] = refl
  things_item q (i ∷ is) = ap (λ z. z ∷ map item_of (map (thing_of l q) is)) (thing_item q i)
      ∙ ap (λ z. i ∷ z) (things_item q is)

  standing_line : (b : Bool) → plain_trace (seen.standing l b) ≡ lines.standing l b
  standing_line true = refl
  standing_line false = refl

  ended_line : (b : Bool) (n : ℕ) (f : Final) → plain_trace (seen.ended l b n f) ≡ lines.ended l b n f
  ended_line true n f = refl
  ended_line false n f = refl

  shown_line : (es : List Shown) (is : List (Thing OWord Entry)) (n : ℕ) (t : Trace)
      → plain_trace (seen.shown es is n t) ≡ lines.shown (map event_of es) (map item_of is) n (plain_trace t)
  shown_line es is n t =
      ap (λ z. record {
        out = z;
        items = map item_of (is ++ t.items);
        weight = n + t.weight;
        final = t.final;
      })
      (map-both event_of es t.out)
      ∙ ap (λ z. record {
        out = map event_of es ++ map event_of t.out;
        items = z;
        weight = n + t.weight;
        final = t.final;
      }) (map-both item_of is t.items)

  pub traces : (k : ℕ) (o : OState) → plain_trace (seen.trace l k o) ≡ lines.trace l k o
  unfolding seen.trace lines.trace
  traces zero o = standing_line (is_inside l o)
  traces (suc k) o = by (λ q. traces k q) (overlay_step l o)
    where
      by : ((q : OState) → plain_trace (seen.trace l k q) ≡ lines.trace l k q) → (e : Ending)
          → plain_trace (seen.show l o e (seen.trace l k)) ≡ lines.show l o e (lines.trace l k)
      by below (goes q) =
          let es = seen.event_outs l q (step_event l o q) in
          let is = seen.event_items l q (step_event l o q) in
          let n = weighed (is_inside l o) (weight_of l o) in
          shown_line es is n (seen.trace l k q)
          ∙ ap (λ z. lines.shown (map event_of es) (map item_of is) n z) (below q)
          ∙ ap (λ z. lines.shown z (map item_of is) n (lines.trace l k q)) (outs_line q (step_event l o q))
          ∙ ap (λ z. lines.shown (lines.event_outs l (flat_view l q) (step_event l o q)) z n
          (lines.trace l k q))
          (things_item q (lines.event_items l (flat_view l q) (step_event l o q)))
      by below halts = ended_line (is_inside l o) (weight_of l o) (HaltedWith ((flat_view l o).reg A0))
      by below fails = ended_line (is_inside l o) (weight_of l o) Failed

-- ---- meanings

events_line : (es : List (marked.Event OWord Entry))
    → out_lines (map plain_event es) ≡ map event_of (map shown_of es)
events_line [] = refl
events_line (marked.Calls part site base low x y xs ∷ es) =
    ap (λ z. call_out part site (map plain_arg xs) ∷ z) (events_line es)
events_line (marked.Leaves part v low e ∷ es) = ap (λ z. leave_out part (Int v) ∷ z) (events_line es)

prefix_line : (out : List Shown) (r : Report) → (rest : List Shown) × (events_of r ≡ out ++ rest)
    → Prefix (map event_of out) (out_lines (plain_report r).events)
prefix_line out r h =
    (map event_of h.0, events_line r.events ∙ ap (map event_of) h.1 ∙ map-both event_of out h.0)

fits_line : (x : Final) (out : List Shown) (r : Report) → Fits x out r
    → good.TellsFinal x (map event_of out) (plain_report r)
fits_line Running out r h = prefix_line out r h
fits_line Outside out r h = (h.0, events_line r.events ∙ ap (map event_of) h.1)
fits_line (HaltedWith w) out r h = (h.0, h.1, h.2, events_line r.events ∙ ap (map event_of) h.3)
fits_line Failed out r h = (h.0, events_line r.events ∙ ap (map event_of) h.1)

slow_line : (out : List Shown) (r : Report) → (rest : List Shown) × (out ≡ events_of r ++ rest)
    → Prefix (out_lines (plain_report r).events) (map event_of out)
slow_line out r h = (
  map event_of h.0,
  ap (map event_of) h.1 ∙ map-both event_of (events_of r) h.0
      ∙ ap (λ z. z ++ map event_of h.0) (sym (events_line r.events)),
)

-- an agreement with the refined meaning from nothing wiped is one with the meaning
pub record Starts (world : World) (stack : ℕ) (t : Trace) : Type 0 where
  pub enough : ℕ
  pub fits : (f : ℕ) → enough ≤ f
      → Fits t.final t.out (marked_meaning OWord Entry world.marks world.parts stack t.items f)
  pub slow : (f : ℕ) → f * 200 + 0 < t.weight
      → ((marked_meaning OWord Entry world.marks world.parts stack t.items f).end ≡ OutOfFuel)
      × ((rest : List Shown)
      × (t.out ≡ events_of (marked_meaning OWord Entry world.marks world.parts stack t.items f) ++ rest))

pub forgets : (world : World) (stack : ℕ) (t : Trace) → Starts world stack t
    → good.MeaningAgrees 0 (plain_trace t) (λ fuel feed. plain.meaning world.parts stack feed fuel)
forgets world stack t a = record {
  enough = a.enough;
  fits = λ f le. subst (good.TellsFinal t.final (map event_of t.out)) (same f)
      (fits_line t.final t.out (marked_meaning OWord Entry world.marks world.parts stack t.items f)
      (a.fits f le));
  slow = λ f lt. subst
      (λ z. (z.end ≡ OutOfFuel) × Prefix (out_lines z.events) (map event_of t.out)) (same f) (
        (a.slow f lt).0,
        slow_line t.out (marked_meaning OWord Entry world.marks world.parts stack t.items f)
            ((a.slow f lt).1),
      );
}
  where
    same : (f : ℕ) → plain_report (marked_meaning OWord Entry world.marks world.parts stack t.items f)
        ≡ plain.meaning world.parts stack (map item_of t.items) f
    same f = marked_forgets OWord Entry world.marks world.parts stack t.items f

-- ---- at each matched point

shown_shown : (es fs : List Shown) (is ks : List (Thing OWord Entry)) (n m : ℕ) (t : Trace)
    → seen.shown es is n (seen.shown fs ks m t) ≡ seen.shown (es ++ fs) (is ++ ks) (n + m) t
shown_shown es fs is ks n m t =
    let w : n + m + t.weight ≡ n + (m + t.weight) = omega arith in
    rw (append_assoc es fs t.out, append_assoc is ks t.items, w)

module _ (l : Layout) where
  pub trace_step : (k : ℕ) (p q : OState) → overlay_step l p ≡ goes q
      → seen.trace l (suc k) p ≡ seen.shown (seen.event_outs l q (step_event l p q))
      (seen.event_items l q (step_event l p q)) (weighed (is_inside l p) (weight_of l p)) (seen.trace l k q)
  unfolding seen.trace
  trace_step k p q e = ap (λ x. seen.show l p x (seen.trace l k)) e

  tells_trace : (o : OState) (es : List Shown) (is : List (Thing OWord Entry)) (p : OState)
      → RunTells l o es is p
      → (i : ℕ) × (n : ℕ) × ((k : ℕ) → seen.trace l (i + k) o ≡ seen.shown es is n (seen.trace l k p))
  tells_trace o _ _ _ none_yet = (
    0,
    0,
    λ k. (let z : 0 + k ≡ k = omega arith in
        let w : (seen.trace l k o).weight ≡ 0 + (seen.trace l k o).weight = omega arith in
        ap (λ x. seen.trace l x o) z
        ∙ ap (λ x. record {
          out = (seen.trace l k o).out;
          items = (seen.trace l k o).items;
          weight = x;
          final = (seen.trace l k o).final;
        }) w),
  )
  tells_trace o _ _ q (and_then {es = es} {is = is} {p = p} s e) =
      let r = tells_trace o es is p s in (
        r.0 + 1,
        r.1 + weighed (is_inside l p) (weight_of l p),
        λ k. (
            let a : r.0 + 1 + k ≡ r.0 + suc k = omega arith in
            ap (λ x. seen.trace l x o) a ∙ r.2 (suc k) ∙ ap (seen.shown es is r.1) (trace_step k p q e)
            ∙ shown_shown es (seen.event_outs l q (step_event l p q)) is
            (seen.event_items l q (step_event l p q)) r.1 (weighed (is_inside l p) (weight_of l p))
            (seen.trace l k q)
            ),
      )

  pub trace_rests : (p : OState) → seen.trace l zero p ≡ seen.standing l (is_inside l p)
  unfolding seen.trace
  trace_rests p = refl

stands_at : (l : Layout) (b : Bool) (es : List Shown) (is : List (Thing OWord Entry)) (n : ℕ) (r : Report)
    → Fits (seen.shown es is n (seen.standing l b)).final (seen.shown es is n (seen.standing l b)).out r
    → TellsSo b es (events_of r)
stands_at l true es is n r h =
    ((h.0, h.1 ∙ ap (λ z. z ++ h.0) (append-nil es)), λ e. absurd (let z : true ≡ false = e in cc))
stands_at l false es is n r h = (([], h.1), λ e. h.1 ∙ append-nil es)

items_at : (l : Layout) (b : Bool) (es : List Shown) (is : List (Thing OWord Entry)) (n : ℕ)
    → (seen.shown es is n (seen.standing l b)).items ≡ is
items_at l true es is n = append-nil is
items_at l false es is n = append-nil is

pub words_told : (world : World) (stack : ℕ) (s : StartSeen)
    → ((k : ℕ) → Starts world stack (seen.trace (layout s) k (overlay_at s).state))
    → WordsTold world.marks world.parts stack s
words_told world stack s all es is p tells =
    let l = layout s in
    let r = tells_trace l (overlay_at s).state es is p tells in
    let b = is_inside l p in
    let e : seen.trace l (r.0 + 0) (overlay_at s).state ≡ seen.shown es is r.1 (seen.standing l b) =
    r.2 0 ∙ ap (seen.shown es is r.1) (trace_rests l p) in
    let a : Starts world stack (seen.shown es is r.1 (seen.standing l b)) =
    subst (Starts world stack) e (all (r.0 + 0)) in (
      a.enough,
      λ f le. stands_at l b es is r.1 _
          (subst (λ z. Fits (seen.shown es is r.1 (seen.standing l b)).final
          (seen.shown es is r.1 (seen.standing l b)).out
          (marked_meaning OWord Entry world.marks world.parts stack z f)) (items_at l b es is r.1)
          (a.fits f le)),
    )

-- ---- whence words are

abbrev zero_word : OWord
zero_word = Plain (cap.Int (pos 0))

abbrev IsFour : List OWord → Type 0
IsFour ws = (a b c d : OWord) × (ws ≡ a ∷ b ∷ c ∷ d ∷ [])

abbrev Four : List (Thing OWord Entry) → Type 0
Four [] = Unit {0}
Four (x ∷ xs) = IsFour x.words × Four xs

four_both : (xs ys : List (Thing OWord Entry)) → Four xs → Four ys → Four (xs ++ ys)
four_both [] ys h g = g
four_both (x ∷ xs) ys h g = (h.0, four_both xs ys h.1 g)

four_items : (l : Layout) (q : OState) (e : Option Event) → Four (seen.event_items l q e)
four_items l q e = by (lines.event_items l (flat_view l q) e)
  where
    one : (i : Item) → IsFour (thing_of l q i).words
    one (Enter part name left ints pairs back) =
        (q.maps.regs.a0, q.maps.regs.a1, q.maps.regs.a2, q.maps.regs.a3, refl)
    one (Ret part site base v) = (_, _, _, _, refl)

    by : (is : List Item) → Four (map (thing_of l q) is)
    by [] = tt
    by (i ∷ is) = (one i, by is)

four_told : (l : Layout) (o : OState) (es : List Shown) (is : List (Thing OWord Entry)) (p : OState)
    → RunTells l o es is p → Four is
four_told l o _ _ _ none_yet = tt
four_told l o _ _ q (and_then {es = es} {is = is} {p = p} s e) =
    four_both is (seen.event_items l q (step_event l p q)) (four_told l o es is p s)
    (four_items l q (step_event l p q))

words_behind : (pre : List (Thing OWord Entry)) (x : Thing OWord Entry) (suf : List (Thing OWord Entry))
    → words_at (pre ++ x ∷ suf) (length pre) ≡ x.words
words_behind [] x suf = refl
words_behind (y ∷ pre) x suf = words_behind pre x suf

back_behind : (pre : List (Thing OWord Entry)) (x : Thing OWord Entry) (suf : List (Thing OWord Entry))
    → back_at (pre ++ x ∷ suf) (length pre) ≡ x.entry
back_behind [] x suf = refl
back_behind (y ∷ pre) x suf = back_behind pre x suf

module _ (marks : Marks OWord) where
  abbrev word : List (Thing OWord Entry) → Whence → OWord
  word is = word_from marks is

  abbrev back : List (Thing OWord Entry) → Thing Whence ℕ → Thing OWord Entry
  back is = thing_to (word_from marks is) (back_at is)

  came_back : (ws : List OWord) → IsFour ws
      → slice_index_or ws 0 zero_word ∷ slice_index_or ws 1 zero_word ∷ slice_index_or ws 2 zero_word
      ∷ slice_index_or ws 3 zero_word ∷ [] ≡ ws
  came_back ws e =
      ap (λ ws. slice_index_or ws 0 zero_word ∷ slice_index_or ws 1 zero_word ∷ slice_index_or ws 2 zero_word
      ∷ slice_index_or ws 3 zero_word ∷ []) e.4
      ∙ sym e.4

  things_back : (pre suf : List (Thing OWord Entry)) (k : ℕ) → length pre ≡ k → Four suf
      → map (back (pre ++ suf)) (numbered_items k (map item_of suf)) ≡ suf
  things_back pre [] k e h = refl
  things_back pre (x ∷ suf) k e h =
      let at : words_at (pre ++ x ∷ suf) k ≡ x.words =
      ap (words_at (pre ++ x ∷ suf)) (sym e) ∙ words_behind pre x suf in
      let ws : slice_index_or (words_at (pre ++ x ∷ suf) k) 0 zero_word
      ∷ slice_index_or (words_at (pre ++ x ∷ suf) k) 1 zero_word
      ∷ slice_index_or (words_at (pre ++ x ∷ suf) k) 2 zero_word
      ∷ slice_index_or (words_at (pre ++ x ∷ suf) k) 3 zero_word ∷ [] ≡ x.words =
      came_back (words_at (pre ++ x ∷ suf) k) (subst IsFour (sym at) h.0) ∙ at in
      let len : length (pre ++ x ∷ []) ≡ k + 1 = long pre k e in
      let en : back_at (pre ++ x ∷ suf) k ≡ x.entry =
      ap (back_at (pre ++ x ∷ suf)) (sym e) ∙ back_behind pre x suf in
      ap (λ z. record { item = x.item; words = z; entry = back_at (pre ++ x ∷ suf) k }
      ∷ map (back (pre ++ x ∷ suf)) (numbered_items (k + 1) (map item_of suf))) ws
      ∙ ap (λ z. record { item = x.item; words = x.words; entry = z }
      ∷ map (back (pre ++ x ∷ suf)) (numbered_items (k + 1) (map item_of suf))) en
      ∙ ap (λ z. x ∷ map (back z) (numbered_items (k + 1) (map item_of suf)))
      (sym (append_assoc pre (x ∷ []) suf))
      ∙ ap (λ z. x ∷ z) (things_back (pre ++ x ∷ []) suf (k + 1) len h.1)
    where
      long : (pre : List (Thing OWord Entry)) (k : ℕ) → length pre ≡ k → length (pre ++ x ∷ []) ≡ k + 1
      long [] k e = omega (arith, e)
      long (y ∷ pre) zero e = absurd (omega (arith, e))
      long (y ∷ pre) (suc k) e = let r = long pre k (omega (arith, e)) in omega (arith, r)

  -- the refined meaning of a run's items, read as words, is that of the items with their words
  pub whence_same : (world : values.World) (stack : ℕ) (l : Layout) (o : OState) (es : List Shown)
      (is : List (Thing OWord Entry)) (p : OState) → RunTells l o es is p → (f : ℕ)
      → report_to (word_from marks is) (back_at is) (refined world stack (map item_of is) f)
      ≡ marked_meaning OWord Entry marks world stack is f
  whence_same world stack l o es is p tells f =
      marked_renames Whence ℕ OWord Entry (word_from marks is) (back_at is) whences world stack
      (numbered_items 0 (map item_of is)) f
      ∙ ap (λ z. marked_meaning OWord Entry marks world stack z f)
      (things_back [] is 0 refl (four_told l o es is p tells))

  pub whence_told : (world : values.World) (stack : ℕ) (s : StartSeen) → WordsTold marks world stack s
      → WhenceTold marks world stack s
  whence_told world stack s told es is p tells =
      let t = told es is p tells in (
        t.0,
        λ f le. subst (λ r. TellsSo (is_inside (layout s) p) es (events_of r))
            (sym (whence_same world stack (layout s) (overlay_at s).state es is p tells f)) (t.1 f le),
      )
