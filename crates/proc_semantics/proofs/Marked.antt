-- What is forgotten of the refined meaning leaves the meaning; and marks may be any.
use Rattle.std.proofs.Common.{◌≡◌, ℕ, zero, suc, ◌+◌, ◌-◌, ◌<◌, pos, List, [], ◌∷◌, map, length, Option}
use Rattle.std.proofs.Common.{Some, None, Bool, true, false, refl, ap, ◌∙◌, arith}
use Rattle.std.specs.Prelude.{option_map, slice_index_or}
use Rattle.std.proofs.lemmas.List.{length-map}
use Rattle.source_events.specs.declared.Item.{Item}
use Rattle.source_events.specs.declared.OutEvent.TheVariants.{CallOut}
use Rattle.proc_program.specs.declared.program.Handle.{Handle}
use Rattle.proc_program.specs.declared.program.Handle.TheVariants.{Given, Own, Imported}
use Rattle.proc_program.specs.Program.{Args, no_args, value, pass}
use Rattle.proc_semantics.specs.declared.value.Value.{Value}
use Rattle.proc_semantics.specs.declared.value.Value.TheVariants.{Num, Closure, Other}
use Rattle.proc_semantics.specs.Told as told
use Rattle.proc_semantics.specs.Values.{World, main_target, value_arg, value_args}
use Rattle.proc_semantics.specs.Meaning.{plain_domain, meaning}
use Rattle.proc_semantics.specs.Marked.{PairHalf, CodeHalf, DataHalf, Marks, Thing, Calls}
use Rattle.proc_semantics.specs.Marked.{Leaves, Comp, Frame, Regs, Way, counted, tick, said, take_item}
use Rattle.proc_semantics.specs.Marked.{first_mark, rest_marks, taken_marks, arg_of, arg_at, marked_args}
use Rattle.proc_semantics.specs.Marked.{call_event, of_handle, of_args, marked, marked_meaning, plain_arg}
use Rattle.proc_semantics.specs.Marked.{plain_report, thing_to, arg_to, event_to, report_to}
use Rattle.proc_semantics.specs.Marked.{marks_to, Whence, whences, numbered_items, MarkLaws, lower}
use Rattle.proc_semantics.proofs.Kin.{Kin, starts_kept}

-- ---- forgetting

module _ (T E : Type 0) (marks : Marks T) where
  abbrev items : List (Thing T E) → List Item
  items xs = map (λ x. x.item) xs

  record Forgets (b : ℕ) (m : Comp T E) (m' : told.Comp) : Type 0 where
    is : (low : Option ℕ) (f : ℕ) (feed : List (Thing T E)) → f + length feed < b
        → plain_report (m low f feed) ≡ m' f (items feed)

  arg_forgets : (v : Value) (m : Option T) → plain_arg (arg_of T E v m) ≡ value_arg v
  arg_forgets (Num v) m = refl
  arg_forgets (Closure p) m = refl
  arg_forgets Other m = refl

  at_forgets : (vs : List Value) (ms : List (Option T)) (i : ℕ)
      → plain_arg (arg_at T E vs ms i) ≡ value_arg (slice_index_or vs i (Num (pos 0)))
  at_forgets vs ms i = arg_forgets (slice_index_or vs i (Num (pos 0))) (slice_index_or ms i None)

  args_forget : (vs : List Value) (ms : List (Option T)) → map plain_arg (marked_args T E vs ms)
      ≡ value_args vs
  args_forget vs ms =
      ap (λ z. z ∷ plain_arg (arg_at T E vs ms 1) ∷ plain_arg (arg_at T E vs ms 2)
      ∷ plain_arg (arg_at T E vs ms 3) ∷ []) (at_forgets vs ms 0)
      ∙ ap (λ z. value_arg (slice_index_or vs 0 (Num (pos 0))) ∷ z ∷ plain_arg (arg_at T E vs ms 2)
      ∷ plain_arg (arg_at T E vs ms 3) ∷ []) (at_forgets vs ms 1)
      ∙ ap (λ z. value_arg (slice_index_or vs 0 (Num (pos 0))) ∷ value_arg (slice_index_or vs 1 (Num (pos 0)))
      ∷ z
      ∷ plain_arg (arg_at T E vs ms 3) ∷ []) (at_forgets vs ms 2)
      ∙ ap (λ z. value_arg (slice_index_or vs 0 (Num (pos 0))) ∷ value_arg (slice_index_or vs 1 (Num (pos 0)))
      ∷ value_arg (slice_index_or vs 2 (Num (pos 0))) ∷ z ∷ []) (at_forgets vs ms 3)

  tick_forgets : (b : ℕ) (m : Comp T E) (m' : told.Comp) → Forgets b m m'
      → Forgets (suc b) (tick T E m) (told.tick m')
  tick_forgets b m m' s = record { is = is }
    where
      is : (low : Option ℕ) (f : ℕ) (feed : List (Thing T E)) → f + length feed < suc b
          → plain_report (tick T E m low f feed) ≡ told.tick m' f (items feed)
      is low zero feed lt = refl
      is low (suc f) feed lt = ap told.counted (s.is low f feed (omega (arith, lt)))

  take_forgets : (b : ℕ) (k : Thing T E → Comp T E) (k' : Item → told.Comp)
      → ((x : Thing T E) (y : Item) → x.item ≡ y → Forgets b (k x) (k' y))
      → Forgets (suc b) (take_item T E k) (told.take_item k')
  take_forgets b k k' s = record { is = is }
    where
      is : (low : Option ℕ) (f : ℕ) (feed : List (Thing T E)) → f + length feed < suc b
          → plain_report (take_item T E k low f feed) ≡ told.take_item k' f (items feed)
      is low f [] lt = refl
      is low f (x ∷ feed) lt = (s x x.item refl).is low f feed (omega (arith, lt))

  forgetting : Kin (marked T E marks) plain_domain
  forgetting = record {
    R = Forgets;
    Runs = λ f g. (f.home ≡ g.home) × (f.left ≡ g.left) × (f.need ≡ g.need);
    Regs = λ r s. r.registers ≡ s;
    Ways = λ w x. Unit {0};
    Mark = λ e x. Unit {0};
    Thing = λ x y. x.item ≡ y;
    failing = λ b. record { is = λ low f feed lt. refl };
    halting = λ b v. record { is = λ low f feed lt. refl };
    ticking = tick_forgets;
    taking = take_forgets;
    calling = λ b part site base w w' vs m m' e s. record {
      is = λ low f feed lt.
          ap (λ z. told.said (CallOut part site z) (plain_report (m None f feed))) (args_forget vs w.words)
          ∙ ap (told.said (CallOut part site (value_args vs))) (s.is None f feed lt);
    };
    leaving = λ b part e e' v m m' i s.
        record { is = λ low f feed lt. ap (told.said _) (s.is None f feed lt) };
    beginning = λ b left need m m' s.
        record { is = λ low f feed lt. s.is (Some (lower T E low (left - need))) f feed lt };
    answered = λ b given m m' s. record { is = λ low f feed lt. s.is (Some (lower T E low given)) f feed lt };
    less = λ b c m m' le s. record { is = λ low f feed lt. s.is low f feed (omega (arith, lt, le)) };
    none = λ m m'. record { is = λ low f feed lt. absurd (omega (arith, lt)) };
    item = λ x y e. e;
    mark = λ x y e. tt;
    fed = λ world x y ints pairs e. refl;
    registers = λ r s e. e;
    nothing = refl;
    single = λ v. refl;
    handed = λ w w' vs e. refl;
    frame = λ home left p r s e. (refl, refl, refl);
    home = λ f g e. e.0;
    left = λ f g e. e.1;
    need = λ f g e. e.2;
    way = λ f g h xs e. tt;
  }

  pub marked_forgets : (world : World) (stack : ℕ) (feed : List (Thing T E)) (fuel : ℕ)
      → plain_report (marked_meaning T E marks world stack feed fuel) ≡ meaning world stack (items feed) fuel
  unfolding forgetting
  marked_forgets world stack feed fuel =
      let n = length-map feed (λ x. x.item) in
      (starts_kept (marked T E marks) plain_domain forgetting world (fuel + length feed + 1) stack
      (fuel + length feed + 1) (fuel + length (items feed) + 1) (main_target world)
      (map (λ u. u.globals) world)
      (omega arith) (omega (arith, n))).is None fuel feed (omega arith)

items_numbered : (k : ℕ) (feed : List Item) → map (λ (x : Thing Whence ℕ). x.item) (numbered_items k feed)
    ≡ feed
items_numbered k [] = refl
items_numbered k (i ∷ feed) = ap (λ z. i ∷ z) (items_numbered (k + 1) feed)

-- ---- other marks

module _ (T E U F : Type 0) (m : T → U) (n : E → F) (marks : Marks T) where
  abbrev things : List (Thing T E) → List (Thing U F)
  things xs = map (thing_to m n) xs

  abbrev too : List (Option T) → List (Option U)
  too ms = map (option_map m) ms

  record Renames (b : ℕ) (x : Comp T E) (y : Comp U F) : Type 0 where
    is : (low : Option ℕ) (f : ℕ) (feed : List (Thing T E)) → f + length feed < b
        → report_to m n (x low f feed) ≡ y low f (things feed)

  tick_renames : (b : ℕ) (x : Comp T E) (y : Comp U F) → Renames b x y
      → Renames (suc b) (tick T E x) (tick U F y)
  tick_renames b x y s = record { is = is }
    where
      is : (low : Option ℕ) (f : ℕ) (feed : List (Thing T E)) → f + length feed < suc b
          → report_to m n (tick T E x low f feed) ≡ tick U F y low f (things feed)
      is low zero feed lt = refl
      is low (suc f) feed lt = ap (counted U F) (s.is low f feed (omega (arith, lt)))

  take_renames : (b : ℕ) (k : Thing T E → Comp T E) (k' : Thing U F → Comp U F)
      → ((x : Thing T E) (y : Thing U F) → thing_to m n x ≡ y → Renames b (k x) (k' y))
      → Renames (suc b) (take_item T E k) (take_item U F k')
  take_renames b k k' s = record { is = is }
    where
      is : (low : Option ℕ) (f : ℕ) (feed : List (Thing T E)) → f + length feed < suc b
          → report_to m n (take_item T E k low f feed) ≡ take_item U F k' low f (things feed)
      is low f [] lt = refl
      is low f (x ∷ feed) lt = (s x (thing_to m n x) refl).is low f feed (omega (arith, lt))

  index_too : (ms : List (Option T)) (i : ℕ)
      → option_map m (slice_index_or ms i None) ≡ slice_index_or (too ms) i None
  index_too [] i = refl
  index_too (x ∷ ms) zero = refl
  index_too (x ∷ ms) (suc i) = index_too ms i

  arg_too : (v : Value) (x : Option T) → arg_to m n (arg_of T E v x) ≡ arg_of U F v (option_map m x)
  arg_too (Num v) x = refl
  arg_too (Closure p) x = refl
  arg_too Other x = refl

  at_too : (vs : List Value) (ms : List (Option T)) (i : ℕ)
      → arg_to m n (arg_at T E vs ms i) ≡ arg_at U F vs (too ms) i
  at_too vs ms i =
      arg_too (slice_index_or vs i (Num (pos 0))) (slice_index_or ms i None)
      ∙ ap (arg_of U F (slice_index_or vs i (Num (pos 0)))) (index_too ms i)

  args_too : (vs : List Value) (ms : List (Option T))
      → map (arg_to m n) (marked_args T E vs ms) ≡ marked_args U F vs (too ms)
  args_too vs ms =
      ap (λ z. z ∷ arg_to m n (arg_at T E vs ms 1) ∷ arg_to m n (arg_at T E vs ms 2)
      ∷ arg_to m n (arg_at T E vs ms 3) ∷ []) (at_too vs ms 0)
      ∙ ap (λ z. arg_at U F vs (too ms) 0 ∷ z ∷ arg_to m n (arg_at T E vs ms 2)
      ∷ arg_to m n (arg_at T E vs ms 3) ∷ []) (at_too vs ms 1)
      ∙ ap (λ z. arg_at U F vs (too ms) 0 ∷ arg_at U F vs (too ms) 1 ∷ z
      ∷ arg_to m n (arg_at T E vs ms 3) ∷ []) (at_too vs ms 2)
      ∙ ap (λ z. arg_at U F vs (too ms) 0 ∷ arg_at U F vs (too ms) 1 ∷ arg_at U F vs (too ms) 2 ∷ z ∷ [])
      (at_too vs ms 3)

  first_too : (ms : List (Option T)) → option_map m (first_mark T E ms) ≡ first_mark U F (too ms)
  first_too [] = refl
  first_too (x ∷ ms) = refl

  rest_too : (ms : List (Option T)) → too (rest_marks T E ms) ≡ rest_marks U F (too ms)
  rest_too [] = refl
  rest_too (x ∷ ms) = refl

  taken_too : (bs : List Bool) (ms : List (Option T))
      → too (taken_marks T E bs ms) ≡ taken_marks U F bs (too ms)
  taken_too [] ms = refl
  taken_too (false ∷ bs) ms =
      ap (λ z. None ∷ z) (taken_too bs (rest_marks T E ms) ∙ ap (taken_marks U F bs) (rest_too ms))
  taken_too (true ∷ bs) ms =
      ap (λ z. z ∷ option_map m (first_mark T E (rest_marks T E ms))
      ∷ too (taken_marks T E bs (rest_marks T E (rest_marks T E ms)))) (first_too ms)
      ∙ ap (λ z. first_mark U F (too ms) ∷ z
      ∷ too (taken_marks T E bs (rest_marks T E (rest_marks T E ms))))
      (first_too (rest_marks T E ms) ∙ ap (first_mark U F) (rest_too ms))
      ∙ ap (λ z. first_mark U F (too ms) ∷ first_mark U F (rest_marks U F (too ms)) ∷ z)
      (taken_too bs (rest_marks T E (rest_marks T E ms))
      ∙ ap (taken_marks U F bs) (rest_too (rest_marks T E ms) ∙ ap (rest_marks U F) (rest_too ms)))

  fed_too : (ws : List T) → too (map (λ w. Some w) ws) ≡ map (λ w. Some w) (map m ws)
  fed_too [] = refl
  fed_too (w ∷ ws) = ap (λ z. Some (m w) ∷ z) (fed_too ws)

  record RunToo (f : Frame T E) (g : Frame U F) : Type 0 where
    home : f.home ≡ g.home
    left : f.left ≡ g.left
    need : f.need ≡ g.need
    words : too f.words ≡ g.words

  record RegsToo (r : Regs T E) (s : Regs U F) : Type 0 where
    registers : r.registers ≡ s.registers
    words : too r.words ≡ s.words

  record WayToo (w : Way T E) (x : Way U F) : Type 0 where
    first : option_map m w.first ≡ x.first
    second : option_map m w.second ≡ x.second
    words : too w.words ≡ x.words

  handle_too : (f : Frame T E) (g : Frame U F) (h : Handle) (x : PairHalf) → RunToo f g
      → option_map m (of_handle T E marks f h x) ≡ of_handle U F (marks_to m n marks) g h x
  handle_too f g (Given i) CodeHalf r =
      index_too f.words i ∙ ap (λ z. slice_index_or z i None) r.words
  handle_too f g (Given i) DataHalf r =
      index_too f.words (i + 1) ∙ ap (λ z. slice_index_or z (i + 1) None) r.words
  handle_too f g (Own j) x r = ap (λ z. Some (m (marks.own z j x))) r.home
  handle_too f g (Imported k) x r = ap (λ z. Some (m (marks.imported z k x))) r.home

  args_of_too : (f : Frame T E) (g : Frame U F) (xs : Args) → RunToo f g
      → too (of_args T E marks f xs) ≡ of_args U F (marks_to m n marks) g xs
  args_of_too f g no_args r = refl
  args_of_too f g (value e xs) r = ap (λ z. None ∷ z) (args_of_too f g xs r)
  args_of_too f g (pass h xs) r =
      ap (λ z. z ∷ option_map m (of_handle T E marks f h DataHalf) ∷ too (of_args T E marks f xs))
      (handle_too f g h CodeHalf r)
      ∙ ap (λ z. of_handle U F (marks_to m n marks) g h CodeHalf ∷ z ∷ too (of_args T E marks f xs))
      (handle_too f g h DataHalf r)
      ∙ ap (λ z. of_handle U F (marks_to m n marks) g h CodeHalf
      ∷ of_handle U F (marks_to m n marks) g h DataHalf ∷ z) (args_of_too f g xs r)

  call_too : (part : List ℕ) (site base : ℕ) (w : Way T E) (x : Way U F) (vs : List Value) (low : Option ℕ)
      → WayToo w x → event_to m n (call_event T E part site base w vs low) ≡ call_event U F part site base x
      vs low
  call_too part site base w x vs low r =
      ap (λ z. Calls part site base low z (option_map m w.second)
      (map (arg_to m n) (marked_args T E vs w.words)))
      r.first
      ∙ ap (λ z. Calls part site base low x.first z (map (arg_to m n) (marked_args T E vs w.words))) r.second
      ∙ ap (λ z. Calls part site base low x.first x.second z)
      (args_too vs w.words ∙ ap (marked_args U F vs) r.words)

  renaming : Kin (marked T E marks) (marked U F (marks_to m n marks))
  renaming = record {
    R = Renames;
    Runs = RunToo;
    Regs = RegsToo;
    Ways = WayToo;
    Mark = λ e f. n e ≡ f;
    Thing = λ x y. thing_to m n x ≡ y;
    failing = λ b. record { is = λ low f feed lt. refl };
    halting = λ b v. record { is = λ low f feed lt. refl };
    ticking = tick_renames;
    taking = take_renames;
    calling = λ b part site base w w' vs x y e s. record {
      is = λ low f feed lt.
          ap (λ z. said U F z (report_to m n (x None f feed))) (call_too part site base w w' vs low e)
          ∙ ap (said U F _) (s.is None f feed lt);
    };
    leaving = λ b part e e' v x y i s. record {
      is = λ low f feed lt.
          ap (λ z. said U F (Leaves part v low z) (report_to m n (x None f feed))) i
          ∙ ap (said U F _) (s.is None f feed lt);
    };
    beginning = λ b left need x y s.
        record { is = λ low f feed lt. s.is (Some (lower T E low (left - need))) f feed lt };
    answered = λ b given x y s. record { is = λ low f feed lt. s.is (Some (lower T E low given)) f feed lt };
    less = λ b c x y le s. record { is = λ low f feed lt. s.is low f feed (omega (arith, lt, le)) };
    none = λ x y. record { is = λ low f feed lt. absurd (omega (arith, lt)) };
    item = λ x y e. ap (λ z. z.item) e;
    mark = λ x y e. ap (λ z. z.entry) e;
    fed = λ world x y ints pairs e.
        record { registers = refl; words = fed_too x.words ∙ ap (λ z. map (λ w. Some w) z.words) e };
    registers = λ r s e. e.registers;
    nothing = record { registers = refl; words = refl };
    single = λ v. record { registers = refl; words = refl };
    handed = λ w w' vs e. record { registers = refl; words = e.words };
    frame = λ home left p r s e. record {
      home = refl;
      left = refl;
      need = refl;
      words = taken_too p.callbacks r.words ∙ ap (taken_marks U F p.callbacks) e.words;
    };
    home = λ f g e. e.home;
    left = λ f g e. e.left;
    need = λ f g e. e.need;
    way = λ f g h xs e. record {
      first = handle_too f g h CodeHalf e;
      second = handle_too f g h DataHalf e;
      words = args_of_too f g xs e;
    };
  }

  pub marked_renames : (world : World) (stack : ℕ) (feed : List (Thing T E)) (fuel : ℕ)
      → report_to m n (marked_meaning T E marks world stack feed fuel)
      ≡ marked_meaning U F (marks_to m n marks) world stack (things feed) fuel
  unfolding renaming
  marked_renames world stack feed fuel =
      let len = length-map feed (thing_to m n) in
      (starts_kept (marked T E marks) (marked U F (marks_to m n marks)) renaming world
      (fuel + length feed + 1)
      stack (fuel + length feed + 1) (fuel + length (things feed) + 1) (main_target world)
      (map (λ u. u.globals) world) (omega arith) (omega (arith, len))).is None fuel feed (omega arith)

pub mark_laws : MarkLaws
mark_laws = record {
  forgets = λ world stack feed fuel.
      marked_forgets Whence ℕ whences world stack (numbered_items 0 feed) fuel
      ∙ ap (λ z. meaning world stack z fuel) (items_numbered 0 feed);
}
