-- The meaning that carries words: the refined one, whose marks are the words themselves. Its names are those
-- of the meaning without them, and the modules and the words of their data slots are one thing.
use Rattle.source_laws.specs.Seen.{Back}
use Rattle.std.proofs.Common.{◌≡◌, ℕ, zero, suc, ◌+◌, ◌≤◌, ◌<◌, ℤ, List, [], ◌∷◌, length, map, Option, Some}
use Rattle.std.proofs.Common.{None, refl, sym, ap, ◌∙◌, arith, add-one, Bool}
use Rattle.overlay_machine.specs.declared.words.OWord.{OWord}
use Rattle.proc_program.specs.declared.program.Handle.{Handle}
use Rattle.proc_program.specs.declared.program.Location.{Location}
use Rattle.proc_program.specs.declared.program.Array.{Array}
use Rattle.proc_program.specs.declared.program.Procedure.{Procedure}
use Rattle.proc_program.specs.Program.{Exp, Args, Statement, Block}
use Rattle.proc_language.specs.declared.tree.Op.{Op}
use Rattle.source_events.specs.declared.FeedBack.{FeedBack}
use Rattle.source_events.specs.declared.FeedPair.{FeedPair}
use Rattle.source_events.specs.declared.End.{End}
use Rattle.proc_semantics.specs.declared.value.Target.{Target}
use Rattle.proc_semantics.specs.declared.value.Pair.{Pair}
use Rattle.proc_semantics.specs.declared.value.Value.{Value}
use Rattle.proc_semantics.specs.Values as values
use Rattle.proc_semantics.specs.Values.{Store}
use Rattle.proc_semantics.specs.Told.{repeated}
use Rattle.proc_semantics.specs.Rules as rules
use Rattle.proc_semantics.specs.Rules.{Domain}
use Rattle.proc_semantics.specs.Marked as marked
use Rattle.proc_semantics.specs.Marked.{Marks, PairHalf}
use Rattle.proc_semantics.proofs.Offers.{Kin, proc_kept, item_kept, turn_kept, levels_kept, then_less}
use Rattle.proc_semantics.proofs.Offers.{next_less, wait_less, RLevel, RWait}

-- modules, and the words of the pairs that they have
pub record World : Type 0 where
  pub parts : values.World
  pub marks : Marks OWord

abbrev pub Entry : Type 0
Entry = Back

abbrev pub Thing : Type 0
Thing = marked.Thing OWord Entry

abbrev pub Event : Type 0
Event = marked.Event OWord Entry

abbrev pub Report : Type 0
Report = marked.Report OWord Entry

abbrev pub Comp : Type 0
Comp = marked.Comp OWord Entry

abbrev pub Frame : Type 0
Frame = marked.Frame OWord Entry

abbrev pub Registers : Type 0
Registers = marked.Regs OWord Entry

abbrev pub Way : Type 0
Way = marked.Way OWord Entry

abbrev pub first_mark : List (Option OWord) → Option OWord
first_mark = marked.first_mark OWord Entry

abbrev pub rest_marks : List (Option OWord) → List (Option OWord)
rest_marks = marked.rest_marks OWord Entry

abbrev pub taken_marks : List Bool → List (Option OWord) → List (Option OWord)
taken_marks = marked.taken_marks OWord Entry

abbrev pub ends : End → Comp
ends = marked.ends OWord Entry

abbrev pub tick : Comp → Comp
tick = marked.tick OWord Entry

abbrev pub ticks : ℕ → Comp → Comp
ticks n m = repeated tick n m

abbrev pub counted : Report → Report
counted = marked.counted OWord Entry

abbrev pub said : Event → Report → Report
said = marked.said OWord Entry

abbrev pub take_item : (Thing → Comp) → Comp
take_item = marked.take_item OWord Entry

abbrev pub wipes : ℕ → Comp → Comp
wipes = marked.wipes OWord Entry

abbrev pub emit : (Option ℕ → Event) → Comp → Comp
emit e m low fuel feed = said (e low) (m None fuel feed)

abbrev pub domain : World → Domain
domain w = marked.marked OWord Entry w.marks

abbrev pub Then : Type 0
Then = ℤ → Store → Comp

abbrev pub Next : Type 0
Next = List Value → Store → Comp

abbrev pub Wait : World → Type 0
Wait w = rules.Wait (domain w)

abbrev pub Level : World → Type 0
Level w = rules.Level (domain w)

abbrev pub result_of : Op → ℤ → ℤ → Option ℤ
result_of = rules.result_of

module _ (w : World) where
  abbrev pub pair_of : ℕ → List Value → Handle → Pair
  pair_of = values.pair_of w.parts

  abbrev pub proc_at : Target → Option Procedure
  proc_at = values.proc_at w.parts

  abbrev pub found : List ℕ → List ℕ → Option Target
  found = values.found w.parts

  abbrev pub main_of : Option Target
  main_of = values.main_target w.parts

  abbrev pub part_of : ℕ → List ℕ
  part_of = rules.part_name_of w.parts

  abbrev pub stack_of : ℕ → ℕ
  stack_of = rules.home_stack w.parts

  -- the registers of an entry, with the words in them
  abbrev pub registers_fed : List OWord → List (Option ℤ) → List FeedPair → Registers
  registers_fed ws ints pairs =
      record { registers = values.registers_fed w.parts ints pairs; words = map (λ x. Some x) ws }

  abbrev pub no_registers : Registers
  no_registers = record { registers = []; words = [] }

  abbrev pub single : ℤ → Registers
  single = (domain w).single

  abbrev pub way : Frame → Handle → Args → Way
  way = (domain w).way

  abbrev pub handed : Way → List Value → Registers
  handed = (domain w).handed

  abbrev pub of_handle : Frame → Handle → PairHalf → Option OWord
  of_handle = marked.of_handle OWord Entry w.marks

  abbrev pub of_args : Frame → Args → List (Option OWord)
  of_args = marked.of_args OWord Entry w.marks

  abbrev pub with_number : Option ℤ → Then → Store → Comp
  with_number = rules.with_number (domain w)

  abbrev pub operated : Op → ℤ → ℤ → Then → Store → Comp
  operated = rules.operated (domain w)

  abbrev pub with_place : Option ℕ → (ℕ → Comp) → Comp
  with_place = rules.with_place (domain w)

  abbrev pub element : Array → ℤ → (ℕ → Comp) → Comp
  element = rules.element (domain w)

  abbrev pub assigned : ℕ → Location → ℤ → Next → Next
  assigned = rules.assigned (domain w)

  abbrev pub resumed : Option (Wait w) → List ℕ → ℕ → ℕ → Option ℕ → Option ℤ → Store → Comp
  resumed = rules.resumed (domain w)

  abbrev pub returned : Option (Wait w) → Option ℕ → List ℕ → ℕ → ℕ → ℤ → Store → Comp
  returned = rules.returned (domain w)

  abbrev pub call_by : Level w → ℕ → ℕ → ℕ → Way → Pair → List Value → Then → Store → Comp
  call_by = rules.call_by (domain w) w.parts

  abbrev pub call : Level w → Frame → ℕ → Way → Pair → List Value → Then → Store → Comp
  call = rules.call (domain w) w.parts

  abbrev pub expr : Level w → Frame → List Value → Exp → Then → Store → Comp
  expr = rules.expr (domain w) w.parts

  abbrev pub args : Level w → Frame → List Value → Args → (List Value → Store → Comp) → Store → Comp
  args = rules.args (domain w) w.parts

  abbrev pub stmt : Level w → Frame → Statement → Then → Next → Next
  stmt = rules.stmt (domain w) w.parts

  abbrev pub block : Level w → Frame → Block → Then → Next → Next
  block = rules.block (domain w) w.parts

  abbrev pub turn_at : Level w → Frame → Exp → Block → Then → Next → Next
  turn_at = rules.turn_at (domain w) w.parts

  abbrev pub finish : ℕ → Then → Then
  finish = rules.finish (domain w) w.parts

  abbrev pub body_of : Level w → Frame → Procedure → Option (List Value) → Then → Store → Comp
  body_of = rules.body_of (domain w) w.parts

  abbrev pub begin : Level w → ℕ → Procedure → Option ℕ → Registers → Then → Store → Comp
  begin = rules.begin (domain w) w.parts

  abbrev pub proc_of : Level w → ℕ → Option Procedure → Option ℕ → Registers → Then → Store → Comp
  proc_of = rules.proc_of (domain w) w.parts

  abbrev pub hopped : Level w → Option (Wait w) → Option ℕ → Option Target → Then
  hopped = rules.hopped (domain w) w.parts

  abbrev pub left_by : Level w → List ℕ → Option (Wait w) → Entry → Option ℕ → FeedBack → Then
  left_by = rules.left_by (domain w) w.parts

  abbrev pub entered : Level w → Option (Wait w) → Option Target → Entry → Option ℕ → Registers → FeedBack
      → Store → Comp
  entered = rules.entered (domain w) w.parts

  abbrev pub on_item : Level w → Option (Wait w) → Store → Thing → Comp
  on_item = rules.on_item (domain w) w.parts

  abbrev pub level : ℕ → Level w
  level = rules.level (domain w) w.parts

  abbrev pub start : Level w → ℕ → Option Target → Store → Comp
  start = rules.start (domain w) w.parts

  abbrev pub meaning : ℕ → List Thing → ℕ → Report
  meaning = marked.marked_meaning OWord Entry w.marks w.parts

  -- ---- without levels

  unfoldable pub whole_proc : Target → Option ℕ → Registers → Then → Store → Comp
  whole_proc t left rs k st low fuel feed =
      (level (fuel + length feed + 1)).proc t left rs k st low fuel feed

  unfoldable pub whole_wait : Option (Wait w) → Store → Comp
  whole_wait c st low fuel feed = (level (fuel + length feed + 1)).wait c st low fuel feed

  unfoldable pub whole_turn : Frame → Exp → Block → Then → Next → Next
  whole_turn f c b back k env st low fuel feed =
      (level (fuel + length feed + 1)).turn f c b back k env st low fuel feed

  unfoldable pub whole_hop : Option (Wait w) → Option ℕ → Target → Then
  whole_hop c left t v st low fuel feed =
      (level (fuel + length feed + 1)).hop c left t v st low fuel feed

  abbrev pub whole : Level w
  whole = record { proc = whole_proc; wait = whole_wait; turn = whole_turn; hop = whole_hop }

  record Same (b : ℕ) (m m' : Comp) : Type 0 where
    is : (low : Option ℕ) (f : ℕ) (feed : List Thing) → f + length feed < b → m low f feed ≡ m' low f feed

  same_tick : (b : ℕ) (m m' : Comp) → Same b m m' → Same (suc b) (tick m) (tick m')
  same_tick b m m' s = record { is = is }
    where
      is : (low : Option ℕ) (f : ℕ) (feed : List Thing) → f + length feed < suc b
          → tick m low f feed ≡ tick m' low f feed
      is low zero feed lt = refl
      is low (suc f) feed lt = ap counted (s.is low f feed (omega (arith, lt)))

  same_take : (b : ℕ) (k k' : Thing → Comp) → ((x y : Thing) → x ≡ y → Same b (k x) (k' y))
      → Same (suc b) (take_item k) (take_item k')
  same_take b k k' s = record { is = is }
    where
      is : (low : Option ℕ) (f : ℕ) (feed : List Thing) → f + length feed < suc b
          → take_item k low f feed ≡ take_item k' low f feed
      is low f [] lt = refl
      is low f (i ∷ feed) lt = (s i i refl).is low f feed (omega (arith, lt))

  abbrev same_kin : Kin (domain w) (domain w)
  same_kin = record {
    R = Same;
    Runs = λ f g. f ≡ g;
    Regs = λ f g. f ≡ g;
    Ways = λ f g. f ≡ g;
    Mark = λ f g. f ≡ g;
    Thing = λ f g. f ≡ g;
    failing = λ b. record { is = λ low f feed lt. refl };
    halting = λ b v. record { is = λ low f feed lt. refl };
    ticking = same_tick;
    taking = same_take;
    calling = λ b part site base x y vs m m' e s. record {
      is = λ low f feed lt.
          ap (λ z. (domain w).calling part site base z vs m low f feed) e
          ∙ ap (said _) (s.is None f feed lt);
    };
    leaving = λ b part e e' v m m' i s. record {
      is = λ low f feed lt.
          ap (λ z. (domain w).leaving part z v m low f feed) i ∙ ap (said _) (s.is None f feed lt);
    };
    beginning = λ b left need m m' s. record { is = λ low f feed lt. s.is _ f feed lt };
    answered = λ b given m m' s. record { is = λ low f feed lt. s.is _ f feed lt };
    less = λ b c m m' le s. record { is = λ low f feed lt. s.is low f feed (omega (arith, lt, le)) };
    none = λ m m'. record { is = λ low f feed lt. absurd (omega (arith, lt)) };
    item = λ x y e. ap (λ z. z.item) e;
    mark = λ x y e. ap (λ z. z.entry) e;
    fed = λ world x y ints pairs e. ap (λ z. (domain w).fed world z ints pairs) e;
    registers = λ r s e. ap (λ z. z.registers) e;
    nothing = refl;
    single = λ v. refl;
    handed = λ x y vs e. ap (λ z. (domain w).handed z vs) e;
    frame = λ home left p r s e. ap (λ z. (domain w).frame home left p z) e;
    home = λ f g e. ap (λ z. z.home) e;
    left = λ f g e. ap (λ z. z.left) e;
    need = λ f g e. ap (λ z. z.need) e;
    way = λ f g h xs e. ap (λ z. (domain w).way z h xs) e;
  }

  refl_same : (b : ℕ) (m : Comp) → Same b m m
  refl_same b m = record { is = λ low f feed lt. refl }

  same_wait : (b : ℕ) (c : Option (Wait w)) → RWait (domain w) (domain w) same_kin b c c
  same_wait b None = tt
  same_wait b (Some c) = (refl, refl, refl, refl, λ v st. refl_same b _)

  same_whole : (b d : ℕ) → b ≤ d → RLevel (domain w) (domain w) same_kin b (level d) whole
  unfolding whole_proc whole_wait whole_turn whole_hop
  same_whole b d le = record {
    procs = λ t left rs rs' k k' st e h. record {
      is = λ low f feed lt.
          let n = f + length feed + 1 in
          ((levels_kept (domain w) (domain w) same_kin w.parts n d n (omega (arith, lt, le))
          (omega arith)).procs
          t left rs rs' k k' st e (then_less (domain w) (domain w) same_kin n b k k' (omega (arith, lt))
          h)).is low f feed
          (omega arith);
    };
    waits = λ c c' st h. record {
      is = λ low f feed lt.
          let n = f + length feed + 1 in
          ((levels_kept (domain w) (domain w) same_kin w.parts n d n (omega (arith, lt, le))
          (omega arith)).waits
          c c' st (wait_less (domain w) (domain w) same_kin n b c c' (omega (arith, lt)) h)).is low f feed
          (omega arith);
    };
    turns = λ x y c b' back back' k k' env st e r h. record {
      is = λ low f feed lt.
          let n = f + length feed + 1 in
          ((levels_kept (domain w) (domain w) same_kin w.parts n d n (omega (arith, lt, le))
          (omega arith)).turns
          x y c b' back back' k k' env st e
          (then_less (domain w) (domain w) same_kin n b back back' (omega (arith, lt)) r)
          (next_less (domain w) (domain w) same_kin n b k k' (omega (arith, lt)) h)).is low f feed
          (omega arith);
    };
    hops = λ c c' left t v st h. record {
      is = λ low f feed lt.
          let n = f + length feed + 1 in
          ((levels_kept (domain w) (domain w) same_kin w.parts n d n (omega (arith, lt, le))
          (omega arith)).hops
          c c' left t v st (wait_less (domain w) (domain w) same_kin n b c c' (omega (arith, lt))
          h)).is low f feed
          (omega arith);
    };
  }

  pub record IsRecursive : Type 0 where
    pub procs : (t : Target) (left : Option ℕ) (rs : Registers) (k : Then) (st : Store)
        → whole_proc t left rs k st ≡ proc_of whole t.home (proc_at t) left rs k st
    pub waits : (c : Option (Wait w)) (st : Store) → whole_wait c st ≡ take_item (on_item whole c st)
    pub turns : (f : Frame) (c : Exp) (b : Block) (back : Then) (k : Next) (env : List Value) (st : Store)
        → whole_turn f c b back k env st ≡ turn_at whole f c b back k env st
    pub hops : (c : Option (Wait w)) (left : Option ℕ) (t : Target) (v : ℤ) (st : Store)
        → whole_hop c left t v st
        ≡ proc_of whole t.home (proc_at t) left (single v) (whole_hop c left t) st

  pub recursive : IsRecursive
  unfolding whole_proc whole_wait whole_turn whole_hop
  recursive = record {
    procs = λ t left rs k st i low f feed. proc_is t left rs k st low f feed i;
    waits = λ c st i low f feed. wait_is c st low f feed i;
    turns = λ x c b back k env st i low f feed. turn_is x c b back k env st low f feed i;
    hops = λ c left t v st i low f feed. hop_is c left t v st low f feed i;
  }
    where
      proc_is : (t : Target) (left : Option ℕ) (rs : Registers) (k : Then) (st : Store)
          (low : Option ℕ) (f : ℕ)
          (feed : List Thing) → whole_proc t left rs k st low f feed
          ≡ proc_of whole t.home (proc_at t) left rs k st low f feed
      proc_is t left rs k st low f feed =
          let n = f + length feed in
          ap (λ d. (level d).proc t left rs k st low f feed) (add-one n)
          ∙ (proc_kept (domain w) (domain w) same_kin w.parts n (level n) whole
          (same_whole n n (omega arith)) t.home (proc_at t) left rs rs k k st refl
          (λ v st1. refl_same n _)).is low f feed (omega arith)

      wait_is : (c : Option (Wait w)) (st : Store) (low : Option ℕ) (f : ℕ) (feed : List Thing)
          → whole_wait c st low f feed ≡ take_item (on_item whole c st) low f feed
      wait_is c st low f feed =
          let n = f + length feed in
          ap (λ d. (level d).wait c st low f feed) (add-one n)
          ∙ (same_take n _ _ (λ x y e. item_kept (domain w) (domain w) same_kin w.parts n (level n) whole
          (same_whole n n (omega arith)) c c st x y e (same_wait n c))).is low f feed (omega arith)

      turn_is : (x : Frame) (c : Exp) (b : Block) (back : Then) (k : Next) (env : List Value) (st : Store)
          (low : Option ℕ) (f : ℕ) (feed : List Thing) → whole_turn x c b back k env st low f feed
          ≡ turn_at whole x c b back k env st low f feed
      turn_is x c b back k env st low f feed =
          let n = f + length feed in
          ap (λ d. (level d).turn x c b back k env st low f feed) (add-one n)
          ∙ (turn_kept (domain w) (domain w) same_kin w.parts n (level n) whole
          (same_whole n n (omega arith)) x x c b back back k k env st refl (λ v st1. refl_same n _)
          (λ e st1. refl_same n _)).is low f feed (omega arith)

      hop_is : (c : Option (Wait w)) (left : Option ℕ) (t : Target) (v : ℤ) (st : Store) (low : Option ℕ)
          (f : ℕ) (feed : List Thing) → whole_hop c left t v st low f feed
          ≡ proc_of whole t.home (proc_at t) left (single v) (whole_hop c left t) st low f feed
      hop_is c left t v st low f feed =
          let n = f + length feed in
          ap (λ d. (level d).hop c left t v st low f feed) (add-one n)
          ∙ (proc_kept (domain w) (domain w) same_kin w.parts n (level n) whole
          (same_whole n n (omega arith)) t.home (proc_at t) left (single v) (single v) _ _ st refl
          (λ x st1. (same_whole n n (omega arith)).hops c c left t x st1 (same_wait n c))).is low f feed
          (omega arith)

  -- the meaning is the start without levels
  pub starts : (stack : ℕ) (feed : List Thing) (f : ℕ)
      → start whole stack main_of (map (λ u. u.globals) w.parts) None f feed ≡ meaning stack feed f
  starts stack feed f =
      let n = f + length feed + 1 in
      by main_of n (same_whole n n (omega arith)) (omega arith)
    where
      by : (t : Option Target) (n : ℕ) → RLevel (domain w) (domain w) same_kin n (level n) whole
          → f + length feed < n
          → start whole stack t (map (λ u. u.globals) w.parts) None f feed
          ≡ start (level n) stack t (map (λ u. u.globals) w.parts) None f feed
      by None n l lt = sym ((l.waits None None _ tt).is None f feed lt)
      by (Some t) n l lt =
          sym ((l.procs t (Some stack) no_registers no_registers _ _ _ refl
          (λ v st1. refl_same n _)).is None f
          feed lt)
