-- Each procedure that has left gave an integer, since a meaning tells all of them.
use Rattle.std.proofs.Common.{ℕ, List, [], ◌∷◌, ◌++◌, refl, subst, arith}
use Rattle.source_events.specs.declared.Item.{Item}
use Rattle.source_events.specs.declared.OutEvent.{OutEvent}
use Rattle.source_events.specs.declared.OutEvent.TheVariants.{CallOut, LeaveOut}
use Rattle.source_events.specs.declared.End.{End}
use Rattle.source_events.specs.Outs.{OutLine, call_out, leave_out, out_lines, LeaveIntegers}
use Rattle.proc_semantics.specs.Values.{World}
use Rattle.proc_semantics.specs.Meaning.{meaning}
use Rattle.source_laws.specs.Sources.{MeaningEnds, MeaningBegins}

integers : (es : List OutEvent) → LeaveIntegers (out_lines es)
integers [] = tt
integers (CallOut part site args ∷ es) = integers es
integers (LeaveOut part value ∷ es) = ((value, refl), integers es)

of_front : (xs ys : List OutLine) → LeaveIntegers (xs ++ ys) → LeaveIntegers xs
of_front [] ys h = tt
of_front (call_out part site args ∷ xs) ys h = of_front xs ys h
of_front (leave_out part value ∷ xs) ys h = (h.0, of_front xs ys h.1)

module _ (world : World) (stack : ℕ) (is : List Item) (es : List OutLine) where
  pub where_ends : (end : End) → MeaningEnds world stack is es end → LeaveIntegers es
  where_ends end a =
      subst LeaveIntegers (a.told a.enough (omega arith)) (integers (meaning world stack is a.enough).events)

  pub where_begins : MeaningBegins world stack is es → LeaveIntegers es
  where_begins a =
      let b = a.begins a.enough (omega arith) in
      of_front es b.0 (subst LeaveIntegers b.1 (integers (meaning world stack is a.enough).events))
