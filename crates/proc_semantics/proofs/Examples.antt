-- Meanings of some programs, computed.
use Rattle.std.proofs.Common.{◌≡◌, ℕ, ℤ, pos, List, [], ◌∷◌, Option, Some, None, true, false, refl}
use Rattle.std.specs.Prelude.{codes}
use Rattle.proc_language.specs.declared.tree.Op.TheVariants.{Plus}
use Rattle.proc_program.specs.declared.program.Handle.TheVariants.{Given, Own, Imported}
use Rattle.proc_program.specs.declared.program.Location.TheVariants.{Local, Global}
use Rattle.proc_program.specs.declared.program.Header.{Header}
use Rattle.proc_program.specs.declared.program.Procedure.{Procedure}
use Rattle.proc_program.specs.Program.{Number, Load, Call, Binary, no_args, value, pass, Statement, Set}
use Rattle.proc_program.specs.Program.{Do, Return, Halt}
use Rattle.source_events.specs.declared.Item.{Item}
use Rattle.source_events.specs.declared.Item.TheVariants.{Enter, Ret}
use Rattle.source_events.specs.declared.FeedBack.TheVariants as way
use Rattle.source_events.specs.declared.FeedPair.{FeedPair}
use Rattle.source_events.specs.declared.FeedPair.TheVariants as fed
use Rattle.source_events.specs.declared.OutArg.{OutArg}
use Rattle.source_events.specs.declared.OutArg.TheVariants.{Int, Half}
use Rattle.source_events.specs.declared.OutEvent.TheVariants.{CallOut, LeaveOut}
use Rattle.source_events.specs.declared.End.TheVariants.{Halt as Halted, Fail, Waiting, OutOfFuel}
use Rattle.proc_semantics.specs.Values.{World, found, main_target, linked}
use Rattle.proc_semantics.specs.Meaning.{meaning}

-- where words stand doesn't matter here
abbrev pub nowhere : Header
nowhere = record {
  code = 0;
  data_base = 0;
  closure = 0;
  returns = 0;
  return_count = 0;
  movable = false;
}

-- a module that imports one procedure, with these globals and procedures
abbrev module_with : List ℕ → List ℤ → List Procedure → World
module_with name globals procs = record {
  name = name;
  stack = 65536;
  header = nowhere;
  imports = record { part = codes "other"; name = codes "go" } ∷ [];
  globals = globals;
  procs = procs;
} ∷ []

abbrev main_of : ℕ → List Statement → Procedure
main_of need body = record {
  name = codes "main";
  shared = true;
  callbacks = [];
  locals = 0;
  need = need;
  body = body;
}

abbrev no_pairs : List FeedPair
no_pairs = fed.Nothing ∷ fed.Nothing ∷ fed.Nothing ∷ []

abbrev int : ℕ → Option ℤ
int n = Some (pos n)

-- what registers hold of a call that hands over one number
abbrev one : ℕ → List OutArg
one n = Int (pos n) ∷ Int (pos 0) ∷ Int (pos 0) ∷ Int (pos 0) ∷ []

-- export proc deposit(n) { balance = balance + n; notify(balance); return balance; }
bank : World
bank = module_with (codes "bank") (pos 100 ∷ []) (record {
  name = codes "deposit";
  shared = true;
  callbacks = false ∷ [];
  locals = 0;
  need = 4;
  body = Set (Global 0) (Binary Plus (Load (Global 0)) (Load (Local 0)))
      ∷ Do (Call 0 (Imported 0) (value (Load (Global 0)) no_args)) ∷ Return (Load (Global 0)) ∷ [];
} ∷ [])

deposits : List Item
deposits = Enter (codes "bank") (codes "deposit") (Some 64)
    (int 5 ∷ int 0 ∷ int 0 ∷ int 0 ∷ []) no_pairs way.Out
    ∷ Ret (codes "bank") 0 65595 (int 105) ∷ []

the_bank : meaning bank 64 deposits 1000 ≡ record {
  events = CallOut (codes "bank") 0 (one 105) ∷ LeaveOut (codes "bank") (pos 105) ∷ [];
  end = Waiting;
  ticks = 19;
}
unfolding bank deposits found main_target linked
the_bank = refl

-- export proc main() { go(0); halt 7; }
older : World
older = module_with (codes "rec") []
    (main_of 3 (Do (Call 0 (Imported 0) (value (Number 0) no_args)) ∷ Halt (Number 7) ∷ []) ∷ [])

answer_of_no_number : List Item
answer_of_no_number = Ret (codes "rec") 0 65596 None ∷ []

no_number : meaning older 64 answer_of_no_number 1000 ≡ record {
  events = CallOut (codes "rec") 0 (one 0) ∷ [];
  end = Fail;
  ticks = 7;
}
unfolding older answer_of_no_number found main_target linked
no_number = refl

-- export proc main() { halt go(); }  export proc twice(f/1, x) { return f(f(x)); }
twice : World
twice = module_with (codes "cb") [] (main_of 2 (Halt (Call 0 (Imported 0) no_args) ∷ []) ∷ record {
  name = codes "twice";
  shared = true;
  callbacks = true ∷ false ∷ [];
  locals = 0;
  need = 6;
  body = Return (Call 2 (Given 0) (value (Call 1 (Given 0) (value (Load (Local 2)) no_args)) no_args)) ∷ [];
} ∷ [])

called_back : List Item
called_back = Enter (codes "cb") (codes "twice") (Some 61)
    (None ∷ None ∷ int 5 ∷ int 0 ∷ []) (fed.Out ∷ fed.Nothing ∷ fed.Nothing ∷ [])
    (way.Pair (codes "cb") 0 65597)
    ∷ Ret (codes "cb") 1 65590 (int 6) ∷ Ret (codes "cb") 2 65590 (int 7) ∷ []

the_callback : meaning twice 64 called_back 1000 ≡ record {
  events = CallOut (codes "cb") 0 (one 0)
      ∷ CallOut (codes "cb") 1 (one 5)
      ∷ CallOut (codes "cb") 2 (one 6) ∷ [];
  end = Halted (pos 7);
  ticks = 23;
}
unfolding twice called_back found main_target linked
the_callback = refl

-- with one tick less than that it has run out of fuel, at as many ticks
too_little : meaning twice 64 called_back 22 ≡ record {
  events = CallOut (codes "cb") 0 (one 0)
      ∷ CallOut (codes "cb") 1 (one 5)
      ∷ CallOut (codes "cb") 2 (one 6) ∷ [];
  end = OutOfFuel;
  ticks = 22;
}
unfolding twice called_back found main_target linked
too_little = refl

-- export proc main() { halt go(proc main); }
itself : World
itself = module_with (codes "m") [] (main_of 4 (Halt (Call 0 (Imported 0) (pass (Own 0) no_args)) ∷ []) ∷ [])

waits_at_8 : meaning itself 64 [] 1000 ≡ record {
  events = CallOut (codes "m") 0 (Half ∷ Half ∷ Int (pos 0) ∷ Int (pos 0) ∷ []) ∷ [];
  end = Waiting;
  ticks = 8;
}
unfolding itself found main_target linked
waits_at_8 = refl
