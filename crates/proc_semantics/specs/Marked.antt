-- The refined meaning: the same rules, of words of pairs that carry marks. A mark says whence a word is; what
-- marks are is left open, as the rules never look into them. What is told of a call are the marks of the two
-- words by which it goes, and of each argument register the number or the mark of its word; of a procedure
-- that leaves, the mark of its entry. Of both it tells the lowest stack cell that was wiped since code
-- outside last let go, if any was, as a number of words above the first one.
use Rattle.std.specs.Prelude.{◌≡◌, ℕ, zero, suc, ◌+◌, ◌-◌, nat_lt, ℤ, pos, List, [], ◌∷◌, map, length, Option}
use Rattle.std.specs.Prelude.{Some, None, Bool, true, false, slice_index_or, if◌then◌else◌, option_map}
use Rattle.source_events.specs.declared.Item.{Item}
use Rattle.source_events.specs.declared.OutArg.{OutArg}
use Rattle.source_events.specs.declared.OutArg.TheVariants.{Int, Half}
use Rattle.source_events.specs.declared.OutEvent.{OutEvent}
use Rattle.source_events.specs.declared.OutEvent.TheVariants.{CallOut, LeaveOut}
use Rattle.source_events.specs.declared.End.{End}
use Rattle.source_events.specs.declared.End.TheVariants.{Halt as Halted, Fail, Waiting, OutOfFuel}
use Rattle.source_events.specs.declared.Told.{Told}
use Rattle.proc_program.specs.declared.program.Handle.{Handle}
use Rattle.proc_program.specs.declared.program.Handle.TheVariants.{Given, Own, Imported}
use Rattle.proc_program.specs.Program.{Args, no_args, value, pass}
use Rattle.proc_semantics.specs.declared.value.Value.{Value}
use Rattle.proc_semantics.specs.declared.value.Value.TheVariants.{Num, Closure, Other}
use Rattle.proc_semantics.specs.declared.value.Register.{Register}
use Rattle.proc_semantics.specs.Values.{World, register_of, registers_fed, main_target}
use Rattle.proc_semantics.specs.Rules.{Domain, level, start}
use Rattle.proc_semantics.specs.Meaning.{meaning}

-- which of the two words of a pair
pub data PairHalf : Type 0 where
  CodeHalf : PairHalf
  DataHalf : PairHalf

-- the marks of the pairs that modules have: of a module by its place, those of an own procedure and an import
-- by their numbers
pub record Marks (T : Type 0) : Type 0 where
  pub own : ℕ → ℕ → PairHalf → T
  pub imported : ℕ → ℕ → PairHalf → T

-- an item, with the marks of the words in the four argument registers, and that of the entry
pub record Thing (T E : Type 0) : Type 0 where
  pub item : Item
  pub words : List T
  pub entry : E

-- what an argument register holds where a call leaves
pub data Arg (T : Type 0) : Type 0 where
  Number : ℤ → Arg T
  OfPair : Option T → Arg T

pub data Event (T E : Type 0) : Type 0 where
  -- its part, its number, the address where its frame begins, the lowest wiped cell; the pair that is
  -- called, and the argument registers
  Calls : List ℕ → ℕ → ℕ → Option ℕ → Option T → Option T → List (Arg T) → Event T E
  Leaves : List ℕ → ℤ → Option ℕ → E → Event T E

pub record Report (T E : Type 0) : Type 0 where
  pub events : List (Event T E)
  pub end : End
  pub ticks : ℕ

module _ (T E : Type 0) where
  -- what is told from the lowest wiped cell, the fuel that is left and the feed that is left
  abbrev pub Comp : Type 0
  Comp = Option ℕ → ℕ → List (Thing T E) → Report T E

  pub record Frame : Type 0 where
    pub home : ℕ
    pub left : ℕ
    pub need : ℕ
    pub words : List (Option T)

  pub record Regs : Type 0 where
    pub registers : List Register
    pub words : List (Option T)

  pub record Way : Type 0 where
    pub first : Option T
    pub second : Option T
    pub words : List (Option T)

  abbrev pub ends : End → Comp
  ends e low fuel feed = record { events = []; end = e; ticks = 0 }

  abbrev pub counted : Report T E → Report T E
  counted t = record { events = t.events; end = t.end; ticks = t.ticks + 1 }

  abbrev pub tick : Comp → Comp
  tick m low zero feed = record { events = []; end = OutOfFuel; ticks = 0 }
  tick m low (suc fuel) feed = counted (m low fuel feed)

  abbrev pub said : Event T E → Report T E → Report T E
  said e t = record { events = e ∷ t.events; end = t.end; ticks = t.ticks }

  abbrev pub take_item : (Thing T E → Comp) → Comp
  take_item next low fuel [] = record { events = []; end = Waiting; ticks = 0 }
  take_item next low fuel (i ∷ feed) = next i low fuel feed

  -- ---- what was wiped

  abbrev pub lower : Option ℕ → ℕ → ℕ
  lower None n = n
  lower (Some m) n = if nat_lt n m then n else m

  abbrev pub wipes : ℕ → Comp → Comp
  wipes n m low fuel feed = m (Some (lower low n)) fuel feed

  -- ---- marks of words

  -- the marks of the places of parameters, from those of registers
  abbrev pub first_mark : List (Option T) → Option T
  first_mark [] = None
  first_mark (x ∷ xs) = x

  abbrev pub rest_marks : List (Option T) → List (Option T)
  rest_marks [] = []
  rest_marks (x ∷ xs) = xs

  abbrev pub taken_marks : List Bool → List (Option T) → List (Option T)
  taken_marks [] ms = []
  taken_marks (false ∷ bs) ms = None ∷ taken_marks bs (rest_marks ms)
  taken_marks (true ∷ bs) ms =
      first_mark ms ∷ first_mark (rest_marks ms) ∷ taken_marks bs (rest_marks (rest_marks ms))

  abbrev pub arg_of : Value → Option T → Arg T
  arg_of (Num v) m = Number v
  arg_of (Closure p) m = OfPair m
  arg_of Other m = OfPair m

  abbrev pub arg_at : List Value → List (Option T) → ℕ → Arg T
  arg_at vs ms i = arg_of (slice_index_or vs i (Num (pos 0))) (slice_index_or ms i None)

  abbrev pub marked_args : List Value → List (Option T) → List (Arg T)
  marked_args vs ms = arg_at vs ms 0 ∷ arg_at vs ms 1 ∷ arg_at vs ms 2 ∷ arg_at vs ms 3 ∷ []

  abbrev pub call_event : List ℕ → ℕ → ℕ → Way → List Value → Option ℕ → Event T E
  call_event part site base w vs low = Calls part site base low w.first w.second (marked_args vs w.words)

  module _ (marks : Marks T) where
    abbrev pub of_handle : Frame → Handle → PairHalf → Option T
    of_handle f (Given i) CodeHalf = slice_index_or f.words i None
    of_handle f (Given i) DataHalf = slice_index_or f.words (i + 1) None
    of_handle f (Own j) h = Some (marks.own f.home j h)
    of_handle f (Imported k) h = Some (marks.imported f.home k h)

    abbrev pub of_args : Frame → Args → List (Option T)
    of_args f no_args = []
    of_args f (value e xs) = None ∷ of_args f xs
    of_args f (pass h xs) = of_handle f h CodeHalf ∷ of_handle f h DataHalf ∷ of_args f xs

    abbrev pub marked : Domain
    marked = record {
      Comp = Comp;
      Thing = Thing T E;
      Run = Frame;
      Regs = Regs;
      Way = Way;
      Mark = E;
      failing = ends Fail;
      halting = λ v. ends (Halted v);
      stuck = ends OutOfFuel;
      ticking = tick;
      taking = take_item;
      calling = λ part site base w vs m low fuel feed. said (call_event part site base w vs low)
          (m None fuel feed);
      leaving = λ part e v m low fuel feed. said (Leaves part v low e) (m None fuel feed);
      beginning = λ left need m. wipes (left - need) m;
      answered = λ given m. wipes given m;
      item = λ x. x.item;
      mark = λ x. x.entry;
      fed = λ world x ints pairs.
          record { registers = registers_fed world ints pairs; words = map (λ w. Some w) x.words };
      registers = λ rs. rs.registers;
      nothing = record { registers = []; words = [] };
      single = λ v. record { registers = register_of (Num v) ∷ []; words = None ∷ [] };
      handed = λ w vs. record { registers = map register_of vs; words = w.words };
      frame = λ home left p rs.
          record { home = home; left = left; need = p.need; words = taken_marks p.callbacks rs.words };
      home = λ f. f.home;
      left = λ f. f.left;
      need = λ f. f.need;
      way =
          λ f h xs. record {
            first = of_handle f h CodeHalf;
            second = of_handle f h DataHalf;
            words =
                of_args f xs;
          };
    }

    module _ (world : World) where
      abbrev pub marked_meaning : ℕ → List (Thing T E) → ℕ → Report T E
      marked_meaning stack feed fuel =
          start marked world (level marked world (fuel + length feed + 1)) stack (main_target world)
          (map (λ u. u.globals) world) None fuel feed

-- ---- what is forgotten

abbrev pub plain_arg : {T : Type 0} → Arg T → OutArg
plain_arg (Number v) = Int v
plain_arg (OfPair m) = Half

abbrev pub plain_event : {T E : Type 0} → Event T E → OutEvent
plain_event (Calls part site base low x y xs) = CallOut part site (map plain_arg xs)
plain_event (Leaves part v low e) = LeaveOut part v

abbrev pub plain_report : {T E : Type 0} → Report T E → Told
plain_report t = record { events = map plain_event t.events; end = t.end; ticks = t.ticks }

-- ---- marks for others

module _ {T E U F : Type 0} (m : T → U) (n : E → F) where
  abbrev pub thing_to : Thing T E → Thing U F
  thing_to x = record { item = x.item; words = map m x.words; entry = n x.entry }

  abbrev pub arg_to : Arg T → Arg U
  arg_to (Number v) = Number v
  arg_to (OfPair x) = OfPair (option_map m x)

  abbrev pub event_to : Event T E → Event U F
  event_to (Calls part site base low x y xs) =
      Calls part site base low (option_map m x) (option_map m y) (map arg_to xs)
  event_to (Leaves part v low e) = Leaves part v low (n e)

  abbrev pub report_to : Report T E → Report U F
  report_to t = record { events = map event_to t.events; end = t.end; ticks = t.ticks }

  abbrev pub marks_to : Marks T → Marks U
  marks_to s = record { own = λ h j x. m (s.own h j x); imported = λ h k x. m (s.imported h k x) }

-- ---- whence a word is

pub data Whence : Type 0 where
  -- a word of the pair of an own procedure: the module's place, and the number of the procedure
  OwnWord : ℕ → ℕ → PairHalf → Whence
  -- a word of the pair of an import: the module's place, and the number of the import
  ImportWord : ℕ → ℕ → PairHalf → Whence
  -- the word that came with this item of the feed in this argument register
  CameWord : ℕ → ℕ → Whence

abbrev pub whences : Marks Whence
whences = record { own = OwnWord; imported = ImportWord }

-- the items from a number on, each with the words that come with it
abbrev pub numbered_items : ℕ → List Item → List (Thing Whence ℕ)
numbered_items k [] = []
numbered_items k (i ∷ is) =
    record { item = i; words = CameWord k 0 ∷ CameWord k 1 ∷ CameWord k 2 ∷ CameWord k 3 ∷ []; entry = k }
    ∷ numbered_items (k + 1) is

-- the refined meaning of a feed
abbrev pub refined : World → ℕ → List Item → ℕ → Report Whence ℕ
refined world stack feed fuel = marked_meaning Whence ℕ whences world stack (numbered_items 0 feed) fuel

-- the law: what is forgotten is the meaning
pub record MarkLaws : Type 0 where
  pub forgets : (world : World) (stack : ℕ) (feed : List Item) (fuel : ℕ)
      → plain_report (refined world stack feed fuel) ≡ meaning world stack feed fuel
