-- Which wiped cells the refined meaning tells of, computed.
use Rattle.std.proofs.Common.{◌≡◌, ℕ, suc, pos, ℤ, List, [], ◌∷◌, map, Option, Some, None, refl, sym, ap, ◌∙◌}
use Rattle.std.specs.Prelude.{slice_get, option_map}
use Rattle.linked_starts.specs.Standing.{placed}
use Rattle.overlay_machine.specs.declared.words.OWord.{OWord}
use Rattle.proc_names.specs.Names.{variable_named, callee_named, passed_named}
use Rattle.proc_program.specs.Lower.{part_of}
use Rattle.proc_program.specs.declared.program.Program.{Program}
use Rattle.source_events.specs.declared.FeedBack.TheVariants as way
use Rattle.source_events.specs.declared.FeedPair.{FeedPair}
use Rattle.source_events.specs.declared.FeedPair.TheVariants.{Nothing}
use Rattle.proc_semantics.specs.declared.value.Target.{Target}
use Rattle.proc_semantics.specs.Values.{Store, found, main_target, linked}
use Rattle.proc_semantics.specs.Marked.{Thing}
use Rattle.source_laws.specs.Seen.{Back, words_of, back_here}
use Rattle.source_laws.specs.Wiped.{low_of}
use Rattle.source_laws.proofs.Offers as refined
use Rattle.source_laws.proofs.Offers.{World, Comp, Report, Registers, Then, recursive, starts, whole, meaning}
use Rattle.source_starts.specs.Words.{slots}
use Rattle.source_instance.proofs.Module.{source}
use Rattle.source_instance.proofs.Parts.{parts}
use Rattle.source_instance.proofs.Start.{start}
use Rattle.source_instance.proofs.Machine.{L}
use Rattle.source_instance.proofs.Enters.{o8}
use Rattle.source_instance.proofs.Held.{entry, answer}

-- the module, with the words of its pairs
abbrev pub W : World
W = record { parts = map part_of (source ∷ []); marks = slots (source ∷ []) (placed parts 8) start }

-- enough fuel, and more
abbrev pub much : ℕ → ℕ
much k = suc (suc (suc (suc (suc (suc (suc (suc (suc (suc (suc (suc (suc (suc (suc (suc k)))))))))))))))

abbrev globals : Store
globals = map (λ (u : Program). u.globals) W.parts

abbrev low_at : ℕ → Report → Option (Option ℕ)
low_at n r = option_map low_of (slice_get r.events n)

abbrev ints : List (Option ℤ)
ints = Some (pos 0) ∷ Some (pos 0) ∷ Some (pos 0) ∷ Some (pos 0) ∷ []

abbrev pairs : List FeedPair
pairs = Nothing ∷ Nothing ∷ Nothing ∷ []

abbrev f : Target
f = record { home = 0; proc = 0 }

abbrev registers : Registers
registers = refined.registers_fed W (words_of o8) ints pairs

abbrev leaves : Then
leaves = refined.left_by W (whole W) (refined.part_of W 0) None (back_here L o8) (Some 8) way.Out

-- with its first item the procedure begins
begins : (is : List (Thing OWord Back)) (n k : ℕ)
    → low_at n (meaning W 8 (entry ∷ is) (much k))
    ≡ low_at n (refined.proc_of W (whole W) 0 (refined.proc_at W f) (Some 8) registers leaves globals
    None (much k) is)
unfolding found main_target linked callee_named passed_named variable_named
begins is n k =
    ap (low_at n) (sym (starts W 8 (entry ∷ is) (much k)))
    ∙ ap (λ (m : Comp). low_at n (m None (much k) (entry ∷ is))) ((recursive W).waits None globals)
    ∙ ap (λ (m : Comp). low_at n (m None (much k) is))
    ((recursive W).procs f (Some 8) registers leaves globals)

pub first : (k : ℕ) → low_at 0 (meaning W 8 (entry ∷ []) (much k)) ≡ Some (Some 6)
unfolding found main_target linked callee_named passed_named variable_named
first k = begins [] 0 k ∙ refl

-- the call that waits for its second item, with the fuel that is left then
abbrev waiting : refined.Wait W
waiting = record {
  part = refined.part_of W 0;
  site = 0;
  base = 116;
  given = 5;
  resume = refined.finish W 2 leaves;
}

abbrev left : ℕ → ℕ
left k = suc (suc (suc (suc (suc (suc (suc (suc (suc (suc (suc k))))))))))

waits : (k : ℕ)
    → low_at 1
    (refined.proc_of W (whole W) 0 (refined.proc_at W f) (Some 8) registers leaves globals None (much k)
    (answer ∷ []))
    ≡ low_at 0 ((whole W).wait (Some waiting) globals None (left k) (answer ∷ []))
unfolding found main_target linked callee_named passed_named variable_named
waits k = refl

pub second : (k : ℕ) → low_at 1 (meaning W 8 (entry ∷ answer ∷ []) (much k)) ≡ Some (Some 5)
unfolding found main_target linked callee_named passed_named variable_named
second k =
    begins (answer ∷ []) 1 k ∙ waits k
    ∙ ap (λ (m : Comp). low_at 0 (m None (left k) (answer ∷ []))) ((recursive W).waits (Some waiting) globals)
