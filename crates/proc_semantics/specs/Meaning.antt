-- The meaning: the rules, of computations that tell events of a feed under a fuel.
use Rattle.std.specs.Prelude.{ℕ, ◌+◌, ℤ, Bool, List, [], ◌∷◌, map, length, Option}
use Rattle.source_events.specs.declared.Item.{Item}
use Rattle.source_events.specs.declared.FeedBack.{FeedBack}
use Rattle.source_events.specs.declared.OutEvent.TheVariants.{CallOut, LeaveOut}
use Rattle.source_events.specs.declared.End.TheVariants.{Halt as Halted, OutOfFuel}
use Rattle.source_events.specs.declared.Told.{Told}
use Rattle.proc_language.specs.declared.tree.Op.{Op}
use Rattle.proc_program.specs.declared.program.Location.{Location}
use Rattle.proc_program.specs.declared.program.Array.{Array}
use Rattle.proc_program.specs.declared.program.Program.{Program}
use Rattle.proc_program.specs.declared.program.Procedure.{Procedure}
use Rattle.proc_program.specs.Program.{Exp, Args, Statement, Block}
use Rattle.proc_semantics.specs.declared.value.Target.{Target}
use Rattle.proc_semantics.specs.declared.value.Pair.{Pair}
use Rattle.proc_semantics.specs.declared.value.Value.{Value}
use Rattle.proc_semantics.specs.declared.value.Value.TheVariants.{Num}
use Rattle.proc_semantics.specs.declared.value.Register.{Register}
use Rattle.proc_semantics.specs.declared.value.Activation.{Activation}
use Rattle.proc_semantics.specs.Told.{Comp, ends, fails, tick, emit, take_item}
use Rattle.proc_semantics.specs.Values.{World, Store, register_of, value_args, main_target, registers_fed}
use Rattle.proc_semantics.specs.Rules as rules
use Rattle.proc_semantics.specs.Rules.{Domain}

-- computations that tell, and no more of anything than the rules ask
abbrev pub plain_domain : Domain
plain_domain = record {
  Comp = Comp;
  Thing = Item;
  Run = Activation;
  Regs = List Register;
  Way = Unit {0};
  Mark = Unit {0};
  failing = fails;
  halting = λ v. ends (Halted v);
  stuck = ends OutOfFuel;
  ticking = tick;
  taking = take_item;
  calling = λ part site base w vs m. emit (CallOut part site (value_args vs)) m;
  leaving = λ part x v m. emit (LeaveOut part v) m;
  beginning = λ left need m. m;
  answered = λ base m. m;
  item = λ x. x;
  mark = λ x. tt;
  fed = λ world x ints pairs. registers_fed world ints pairs;
  registers = λ rs. rs;
  nothing = [];
  single = λ v. register_of (Num v) ∷ [];
  handed = λ w vs. map register_of vs;
  frame = λ home left p rs. record { home = home; left = left; need = p.need };
  home = λ f. f.home;
  left = λ f. f.left;
  need = λ f. f.need;
  way = λ f h xs. tt;
}

abbrev pub Then : Type 0
Then = rules.Then plain_domain

abbrev pub Next : Type 0
Next = rules.Next plain_domain

abbrev pub Wait : Type 0
Wait = rules.Wait plain_domain

abbrev pub Level : Type 0
Level = rules.Level plain_domain

abbrev pub checked : ℤ → Option ℤ
checked = rules.checked

abbrev pub result_of : Op → ℤ → ℤ → Option ℤ
result_of = rules.result_of

abbrev pub with_number : Option ℤ → Then → Store → Comp
with_number = rules.with_number plain_domain

abbrev pub operated : Op → ℤ → ℤ → Then → Store → Comp
operated = rules.operated plain_domain

abbrev pub element_at : Array → ℤ → Option ℕ
element_at = rules.element_at

abbrev pub with_place : Option ℕ → (ℕ → Comp) → Comp
with_place = rules.with_place plain_domain

abbrev pub element : Array → ℤ → (ℕ → Comp) → Comp
element = rules.element plain_domain

abbrev pub assigned : ℕ → Location → ℤ → Next → Next
assigned = rules.assigned plain_domain

abbrev pub enough : ℕ → Option ℕ → Option ℕ
enough = rules.enough

abbrev pub given_of : Activation → Option ℕ
given_of f = rules.given_from f.left f.need

abbrev pub is_given : Option ℕ → ℕ → Bool
is_given = rules.is_given

abbrev pub resumed : Option Wait → List ℕ → ℕ → ℕ → Option ℕ → Option ℤ → Store → Comp
resumed = rules.resumed plain_domain

abbrev pub returned : Option Wait → Option ℕ → List ℕ → ℕ → ℕ → ℤ → Store → Comp
returned = rules.returned plain_domain

abbrev pub name_in : Option Program → List ℕ
name_in = rules.name_in

abbrev pub stack_in : Option Program → ℕ
stack_in = rules.stack_in

abbrev pub part_name_of : World → ℕ → List ℕ
part_name_of = rules.part_name_of

abbrev pub home_stack : World → ℕ → ℕ
home_stack = rules.home_stack

module _ (world : World) where
  abbrev pub call_wait : ℕ → ℕ → ℕ → Then → Wait
  call_wait = rules.call_wait plain_domain world

  abbrev pub call_out : Level → ℕ → ℕ → ℕ → List Value → Then → Store → Comp
  call_out l home given site vs k st = rules.call_out plain_domain world l home given site tt vs k st

  abbrev pub call_by : Level → ℕ → ℕ → ℕ → Pair → List Value → Then → Store → Comp
  call_by l home given site p vs k st = rules.call_by plain_domain world l home given site tt p vs k st

  abbrev pub call : Level → Activation → ℕ → Pair → List Value → Then → Store → Comp
  call l f site p vs k st = rules.call plain_domain world l f site tt p vs k st

  abbrev pub expr : Level → Activation → List Value → Exp → Then → Store → Comp
  expr = rules.expr plain_domain world

  abbrev pub args : Level → Activation → List Value → Args → (List Value → Store → Comp) → Store → Comp
  args = rules.args plain_domain world

  abbrev pub stmt : Level → Activation → Statement → Then → Next → Next
  stmt = rules.stmt plain_domain world

  abbrev pub block : Level → Activation → Block → Then → Next → Next
  block = rules.block plain_domain world

  abbrev pub turn_at : Level → Activation → Exp → Block → Then → Next → Next
  turn_at = rules.turn_at plain_domain world

  abbrev pub finish : ℕ → Then → Then
  finish = rules.finish plain_domain world

  abbrev pub body_of : Level → ℕ → ℕ → Procedure → Option (List Value) → Then → Store → Comp
  body_of l home left p env k st =
      rules.body_of plain_domain world l (record { home = home; left = left; need = p.need }) p env k st

  abbrev pub begin : Level → ℕ → Procedure → Option ℕ → List Register → Then → Store → Comp
  begin = rules.begin plain_domain world

  abbrev pub proc_of : Level → ℕ → Option Procedure → Option ℕ → List Register → Then → Store → Comp
  proc_of = rules.proc_of plain_domain world

  abbrev pub hopped : Level → Option Wait → Option ℕ → Option Target → Then
  hopped = rules.hopped plain_domain world

  abbrev pub left_by : Level → List ℕ → Option Wait → Option ℕ → FeedBack → Then
  left_by l part c left back v st = rules.left_by plain_domain world l part c tt left back v st

  abbrev pub entered : Level → Option Wait → Option Target → Option ℕ → List Register → FeedBack → Store
      → Comp
  entered l c t left rs back st = rules.entered plain_domain world l c t tt left rs back st

  abbrev pub on_item : Level → Option Wait → Store → Item → Comp
  on_item = rules.on_item plain_domain world

  abbrev pub stuck : Comp
  stuck = ends OutOfFuel

  abbrev pub level : ℕ → Level
  level = rules.level plain_domain world

  abbrev pub start : Level → ℕ → Option Target → Store → Comp
  start = rules.start plain_domain world

  -- what is told of a feed (an input trace) under a fuel, at a level that is enough for both
  abbrev pub meaning : ℕ → List Item → ℕ → Told
  meaning stack feed fuel =
      start (level (fuel + length feed + 1)) stack (main_target world) (map (λ u. u.globals) world) fuel feed
