-- Replies written one after another.
use Rattle.std.proofs.Common.{◌≡◌, ℕ, ◌+◌, ◌^◌, ◌<◌, ◌≤◌, suc, length, take, drop, get_or, drop-cons, List}
use Rattle.std.proofs.Common.{[], ◌∷◌, ◌++◌, Ok, refl, sym, ap, ◌∙◌, subst, arith}
use Rattle.std.proofs.lemmas.List.{take_more, take-append-drop, length-take-le}
use Rattle.outside_io.specs.SinkSeen.{SinkSeen, Adds, FailsToWrite, IsOneWrite}
use Rattle.outside_io.specs.Writes.{AddsPieces}
use Rattle.outside_io.proofs.Offers.{pieces_then, one_write}
use Rattle.step_back.specs.Seen.{Debugging}
use Rattle.debug_script.specs.declared.command.DebugCommand.{DebugCommand}
use Rattle.debug_tool.specs.Replies.{steps_of, reply, after_command, steps_in, replies, after_commands}
use Rattle.debug_tool.specs.Faults.{StopsAtReply}

replies-append : (cs more : List DebugCommand) (d : Debugging)
    → replies (cs ++ more) d ≡ replies cs d ++ replies more (after_commands cs d)
replies-append [] more d = refl
replies-append (c ∷ cs) more d = ap (λ rs. reply c d ∷ rs) (replies-append cs more (after_command c d))

after-append : (cs more : List DebugCommand) (d : Debugging)
    → after_commands (cs ++ more) d ≡ after_commands more (after_commands cs d)
after-append [] more d = refl
after-append (c ∷ cs) more d = after-append cs more (after_command c d)

length-replies : (cs : List DebugCommand) (d : Debugging) → length (replies cs d) ≡ length cs
length-replies [] d = refl
length-replies (c ∷ cs) d = ap suc (length-replies cs (after_command c d))

-- So many commands of a script were done: their replies are written, the debugger stands where they led, and
-- there is room for the steps of the others.
pub record HaveTold (sink : SinkSeen) (begun : Debugging) (all : List DebugCommand) (i : ℕ) (now : SinkSeen)
    (d : Debugging) : Type 0 where
  pub written : AddsPieces sink (replies (take i all) begun) now
  pub led : d ≡ after_commands (take i all) begun
  pub room : d.now.count + steps_in (drop i all) ≤ 2 ^ 63

-- one more is done
module _ (sink : SinkSeen) (begun : Debugging) (all : List DebugCommand) (i : ℕ) (now : SinkSeen)
    (d : Debugging)
    (other : DebugCommand) (lt : i < length all) (t : HaveTold sink begun all i now d) where
  behind_it : drop i all ≡ get_or all i other ∷ drop (i + 1) all
  behind_it = let one : suc i ≡ i + 1 = omega arith in
      drop-cons all i other lt ∙ ap (λ k. get_or all i other ∷ drop k all) one

  led_on : (e : Debugging) → e ≡ after_command (get_or all i other) d
      → e ≡ after_commands (take (i + 1) all) begun
  led_on e is = is ∙ ap (after_command (get_or all i other)) t.led
      ∙ sym (ap (λ cs. after_commands cs begun) (take_more all i other lt)
      ∙ after-append (take i all) (get_or all i other ∷ []) begun)

  pub one_told : (mid : SinkSeen) (e : Debugging) → Adds now (reply (get_or all i other) d) mid
      → IsOneWrite now mid → e ≡ after_command (get_or all i other) d
      → e.now.count ≤ d.now.count + steps_of (get_or all i other) → HaveTold sink begun all (i + 1) mid e
  one_told mid e adds one is count = record {
    written = subst (λ rs. AddsPieces sink rs mid) (sym grown)
        (pieces_then sink now mid (replies (take i all) begun) (reply (get_or all i other) d ∷ []) t.written
        (one_write {A = Unit {0}} now mid (reply (get_or all i other) d) (Ok tt) adds tt one));
    led = led_on e is;
    room = (let steps = ap steps_in behind_it in let room = t.room in omega (arith, steps, room, count));
  }
    where
      grown : replies (take (i + 1) all) begun
          ≡ replies (take i all) begun ++ reply (get_or all i other) d ∷ []
      grown = ap (λ cs. replies cs begun) (take_more all i other lt)
          ∙ replies-append (take i all) (get_or all i other ∷ []) begun
          ∙ ap (λ x. replies (take i all) begun ++ reply (get_or all i other) x ∷ []) (sym t.led)

  -- the write of its reply failed
  pub one_fails : (after : SinkSeen) (e : Debugging) → FailsToWrite now (reply (get_or all i other) d) after
      → IsOneWrite now after → e ≡ after_command (get_or all i other) d
      → StopsAtReply all begun sink e after
  one_fails after e fails one is = record {
    at = record {
      before = replies (take i all) begun;
      piece = reply (get_or all i other) d;
      behind = replies (drop (i + 1) all) (after_command (get_or all i other) d);
      are = parts;
      mid = now;
      written = t.written;
      fails = fails;
      counted = one;
    };
    led = led_on e is ∙ ap (λ n. after_commands (take (n + 1) all) begun) (sym place);
  }
    where
      place : length (replies (take i all) begun) ≡ i
      place = length-replies (take i all) begun ∙ length-take-le i all (omega (arith, lt))

      parts : replies all begun ≡ replies (take i all) begun
          ++ reply (get_or all i other) d ∷ replies (drop (i + 1) all) (after_command (get_or all i other) d)
      parts = ap (λ cs. replies cs begun)
          (sym (take-append-drop i all) ∙ ap (λ cs. take i all ++ cs) behind_it)
          ∙ replies-append (take i all) (get_or all i other ∷ drop (i + 1) all) begun
          ∙ ap (λ x. replies (take i all) begun ++ replies (get_or all i other ∷ drop (i + 1) all) x)
          (sym t.led)
