-- Two modules that differ in one global, and so in which of two callbacks they call.
use Rattle.std.proofs.Common.{◌≡◌, ◌≢◌, ℕ, pos, List, [], ◌∷◌, Option, Some, None, true, false, refl, ap}
use Rattle.std.proofs.Common.{arith}
use Rattle.std.specs.Prelude.{codes}
use Rattle.proc_program.specs.declared.program.Handle.TheVariants.{Given, Own}
use Rattle.proc_program.specs.declared.program.Location.TheVariants.{Global}
use Rattle.proc_program.specs.Program.{Number, Load, Call, no_args, pass, Do, If, Return, no_steps, step}
use Rattle.source_events.specs.declared.Item.{Item}
use Rattle.source_events.specs.declared.Item.TheVariants.{Enter}
use Rattle.source_events.specs.declared.FeedBack.TheVariants as way
use Rattle.source_events.specs.declared.FeedPair.TheVariants as fed
use Rattle.proc_semantics.specs.Values.{World, found, main_target, linked}
use Rattle.proc_semantics.specs.Marked.{Event, Calls, Leaves, Whence, OwnWord, ImportWord, CameWord, refined}
use Rattle.proc_semantics.specs.Apart.{ToldApart}
use Rattle.proc_semantics.proofs.Examples.{nowhere}

-- global secret = ..;
-- export proc pick(f/0, g/0) { if secret { go(proc f); } else { go(proc g); } return 0; }
-- proc go(h/0) { h(); return 0; }
picks : ℕ → World
picks secret = record {
  name = codes "m";
  stack = 65536;
  header = nowhere;
  imports = [];
  globals = pos secret ∷ [];
  procs = record {
    name = codes "pick";
    shared = true;
    callbacks = true ∷ true ∷ [];
    locals = 0;
    need = 8;
    body = If (Load (Global 0)) (step (Do (Call 0 (Own 1) (pass (Given 0) no_args))) no_steps)
        (step (Do (Call 1 (Own 1) (pass (Given 2) no_args))) no_steps) ∷ Return (Number 0) ∷ [];
  } ∷ record {
    name = codes "go";
    shared = false;
    callbacks = true ∷ [];
    locals = 0;
    need = 4;
    body = Do (Call 2 (Given 0) no_args) ∷ Return (Number 0) ∷ [];
  } ∷ [];
} ∷ []

-- code outside hands over two pairs of its own
entry : List Item
entry = Enter (codes "m") (codes "pick") (Some 64) (None ∷ None ∷ None ∷ None ∷ [])
    (fed.Out ∷ fed.Bad ∷ fed.Out ∷ []) way.Bad ∷ []

-- in which argument register the word came by which the first event calls
abbrev register : Option Whence → ℕ
register None = 0
register (Some (OwnWord home j x)) = 0
register (Some (ImportWord home k x)) = 0
register (Some (CameWord k j)) = j

abbrev called_by : List (Event Whence ℕ) → ℕ
called_by [] = 0
called_by (Calls part site base low x y xs ∷ es) = register x
called_by (Leaves part v low e ∷ es) = 0

second_is_called : called_by (refined (picks 0) 64 entry 1000).events ≡ 2
unfolding picks entry found main_target linked
second_is_called = refl

first_is_called : called_by (refined (picks 1) 64 entry 1000).events ≡ 0
unfolding picks entry found main_target linked
first_is_called = refl

two_is_not : {n m : ℕ} → n ≡ 2 → m ≡ 0 → n ≢ m
two_is_not e f same = omega (arith, e, f, same)

pub told_apart : ToldApart
unfolding picks entry found main_target linked
told_apart = record {
  one = picks 0;
  other = picks 1;
  stack = 64;
  feed = entry;
  fuel = 1000;
  waits = refl;
  waits_too = refl;
  same_events = refl;
  apart = λ e. two_is_not second_is_called first_is_called (ap called_by e);
}
