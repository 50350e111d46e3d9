-- The text of what a meaning tells, as bytes of ASCII: every number in it is decimal.
use Rattle.std.specs.Prelude.{ℕ, List, ◌++◌, codes, decimal, flat_map}
use Rattle.std.specs.Fmt.{signed_decimal}
use Rattle.cap_words.specs.Text.{field_text, newline}
use Rattle.source_events.specs.declared.OutArg.{OutArg}
use Rattle.source_events.specs.declared.OutArg.TheVariants.{Int, Half}
use Rattle.source_events.specs.declared.OutEvent.{OutEvent}
use Rattle.source_events.specs.declared.OutEvent.TheVariants.{CallOut, LeaveOut}
use Rattle.source_events.specs.declared.End.{End}
use Rattle.source_events.specs.declared.End.TheVariants.{Halt, Fail, Waiting, OutOfFuel}
use Rattle.source_events.specs.declared.Told.{Told}

-- an integer, or that it is one half of a pair
abbrev pub out_arg_text : OutArg → List ℕ
out_arg_text (Int z) = signed_decimal z
out_arg_text Half = codes "half"

abbrev pub out_args_text : List OutArg → List ℕ
out_args_text args = flat_map (λ a. field_text (out_arg_text a)) args

-- call PART SITE A0 A1 A2 A3, or leave PART A0
abbrev pub event_text : OutEvent → List ℕ
event_text (CallOut part site args) =
    codes "call" ++ field_text part ++ field_text (decimal site) ++ out_args_text args ++ newline
event_text (LeaveOut part value) =
    codes "leave" ++ field_text part ++ field_text (signed_decimal value) ++ newline

abbrev pub events_text : List OutEvent → List ℕ
events_text events = flat_map event_text events

abbrev pub end_text : End → List ℕ
end_text (Halt value) = codes "halt" ++ field_text (signed_decimal value)
end_text Fail = codes "fail"
end_text Waiting = codes "waiting"
end_text OutOfFuel = codes "fuel"

-- a line for each event, and the end line
unfoldable pub told_text : Told → List ℕ
told_text told =
    events_text told.events ++ end_text told.end ++ codes " ticks" ++ field_text (decimal told.ticks)
    ++ newline
