-- A command is read of its own text alone.
use Rattle.std.proofs.Common.{◌≡◌, ◌≢◌, ℕ, zero, suc, ◌≤◌, true, List, ◌++◌, Option, Some, None, refl, sym}
use Rattle.std.proofs.Common.{ap, ◌∙◌, subst, arith}
use Rattle.std.specs.Prelude.{◌==◌, not, codes, decimal, option_map, IfSome, IfNone, ◌↔◌}
use Rattle.std.proofs.lemmas.Bool.{ne_eqb}
use Rattle.lcm_isa.specs.declared.Reg.{Reg}
use Rattle.lcm_isa.specs.Texts.{reg_name}
use Rattle.lcm_isa.proofs.Offers.{first_named, first_named-reg_name, named_found}
use Rattle.line_fields.specs.Cuts.{behind}
use Rattle.line_fields.specs.Numbers.{number_in}
use Rattle.line_fields.proofs.Offers.{number_again, number_is, some_from, some_of, chosen, behind_is}
use Rattle.debug_script.specs.declared.command.DebugCommand.{DebugCommand}
use Rattle.debug_script.specs.declared.command.DebugCommand.TheVariants.{Forward, Back, StopAt, Clear, Cell}
use Rattle.debug_script.specs.declared.command.DebugCommand.TheVariants.{Register}
use Rattle.debug_script.specs.declared.TheConstants.{MOST_STEPS, LAST_ADDRESS}
use Rattle.debug_script.specs.Commands.{Fits, command_text, steps_in, address_in, register_in, with_operand}
use Rattle.debug_script.specs.Commands.{command_in}

-- ---- operands

not_zero : (n : ℕ) → 1 ≤ n → not (n == 0) ≡ true
not_zero n some = ap not (ne_eqb n 0 (λ e. absurd (omega (arith, e, some))))

steps_again : (n : ℕ) → 1 ≤ n → n ≤ MOST_STEPS → steps_in (decimal n) ≡ Some n
unfolding steps_in
steps_again n some most =
    let read = number_again MOST_STEPS n most (omega (arith, most)) in
    let is = not_zero n some in
    rw (read, is) refl

at_least_one : (n : ℕ) → not (n == 0) ≡ true → 1 ≤ n
at_least_one zero h = absurd cc
at_least_one (suc n) h = omega arith

steps_are : (text : List ℕ) (n : ℕ) → steps_in text ≡ Some n
    → (1 ≤ n) × (n ≤ MOST_STEPS) × (text ≡ decimal n)
unfolding steps_in
steps_are text n h =
    let a = some_from (number_in MOST_STEPS text) _ n h in
    let b = chosen (not (a.0 == 0)) a.0 n a.2 in
    let read : number_in MOST_STEPS text ≡ Some n = a.1 ∙ ap Some b.1 in
    let is = number_is MOST_STEPS n text (omega arith) read in
    let one : not (n == 0) ≡ true = subst (λ k. not (k == 0) ≡ true) b.1 b.0 in
    (at_least_one n one, is.0, is.1)

address_again : (a : ℕ) → a ≤ LAST_ADDRESS → address_in (decimal a) ≡ Some a
address_again a most = number_again LAST_ADDRESS a most (omega (arith, most))

register_again : (r : Reg) → register_in (reg_name r) ≡ Some r
unfolding register_in first_named
register_again r = first_named-reg_name r

register_is : (text : List ℕ) (r : Reg) → register_in text ≡ Some r → text ≡ reg_name r
unfolding register_in first_named
register_is text r h = named_found text (Some r) (sym h)

-- the register that has the name, or that there is none, is what is read
pub named_is : (o : Option Reg) (text : List ℕ) → IfSome o (λ r. text ≡ reg_name r)
    → IfNone o ((r : Reg) → text ≢ reg_name r) → o ≡ register_in text
named_is (Some r) text found none = sym (ap register_in found ∙ register_again r)
named_is None text found none = by_read (register_in text) refl
  where
    by_read : (o : Option Reg) → register_in text ≡ o → None ≡ o
    by_read None e = refl
    by_read (Some r) e = absurd (none r (register_is text r e))

-- ---- commands

pub command_again : (c : DebugCommand) → Fits c → command_in (command_text c) ≡ Some c
unfolding command_in behind
command_again (Forward n) h = ap (option_map Forward) (steps_again n h.0 h.1)
command_again (Back n) h = ap (option_map Back) (steps_again n h.0 h.1)
command_again (StopAt a) h = ap (option_map StopAt) (address_again a h)
command_again (Clear a) h = ap (option_map Clear) (address_again a h)
command_again (Cell a) h = ap (option_map Cell) (address_again a h)
command_again (Register r) h = ap (option_map Register) (register_again r)

abbrev Is : List ℕ → DebugCommand → Type 0
Is line c = Fits c × (line ≡ command_text c)

-- what is read after a front, or by what else is tried
by_front : (front line : List ℕ) (meant : List ℕ → Option DebugCommand) (other : Option DebugCommand)
    (c : DebugCommand)
    → ((t : List ℕ) → line ≡ front ++ t → meant t ≡ Some c → Is line c) → (other ≡ Some c → Is line c)
    → with_operand (behind front line) meant other ≡ Some c → Is line c
by_front front line meant other c here else_ h = by_operand (behind front line) refl h
  where
    by_operand : (o : Option (List ℕ)) → behind front line ≡ o → with_operand o meant other ≡ Some c
        → Is line c
    by_operand None e k = else_ k
    by_operand (Some t) e k = here t (behind_is front line t e) k

-- a command of steps
of_steps : (make : ℕ → DebugCommand) (front line t : List ℕ) (c : DebugCommand)
    → ((n : ℕ) → 1 ≤ n → n ≤ MOST_STEPS → line ≡ front ++ decimal n → Is line (make n))
    → line ≡ front ++ t → option_map make (steps_in t) ≡ Some c → Is line c
of_steps make front line t c is e h =
    let k = some_of (steps_in t) make c h in
    let s = steps_are t k.0 k.1 in
    subst (Is line) k.2 (is k.0 s.0 s.1 (e ∙ ap (λ d. front ++ d) s.2))

-- a command with an address
of_address : (make : ℕ → DebugCommand) (front line t : List ℕ) (c : DebugCommand)
    → ((a : ℕ) → a ≤ LAST_ADDRESS → line ≡ front ++ decimal a → Is line (make a))
    → line ≡ front ++ t → option_map make (address_in t) ≡ Some c → Is line c
of_address make front line t c is e h =
    let k = some_of (address_in t) make c h in
    let s = number_is LAST_ADDRESS k.0 t (omega arith) k.1 in
    subst (Is line) k.2 (is k.0 s.0 (e ∙ ap (λ d. front ++ d) s.1))

of_register : (line t : List ℕ) (c : DebugCommand) → line ≡ codes "r " ++ t
    → option_map Register (register_in t) ≡ Some c → Is line c
of_register line t c e h =
    let k = some_of (register_in t) Register c h in
    let s = register_is t k.0 k.1 in
    subst (Is line) k.2 (tt, e ∙ ap (λ d. codes "r " ++ d) s)

pub command_is : (line : List ℕ) (c : DebugCommand) → command_in line ≡ Some c → Is line c
unfolding command_in
command_is line c h =
    by_front (codes "f ") line _ _ c
    (λ t e k. of_steps Forward (codes "f ") line t c (λ n some most is. ((some, most), is)) e k)
    (λ h1. by_front (codes "b ") line _ _ c
    (λ t e k. of_steps Back (codes "b ") line t c (λ n some most is. ((some, most), is)) e k)
    (λ h2. by_front (codes "stop ") line _ _ c
    (λ t e k. of_address StopAt (codes "stop ") line t c (λ a most is. (most, is)) e k)
    (λ h3. by_front (codes "clear ") line _ _ c
    (λ t e k. of_address Clear (codes "clear ") line t c (λ a most is. (most, is)) e k)
    (λ h4. by_front (codes "c ") line _ _ c
    (λ t e k. of_address Cell (codes "c ") line t c (λ a most is. (most, is)) e k)
    (λ h5. by_front (codes "r ") line _ _ c (λ t e k. of_register line t c e k) (λ h6. absurd cc) h5) h4)
    h3) h2)
    h1) h

pub commands_are_read : (line : List ℕ) (c : DebugCommand) → (command_in line ≡ Some c) ↔ Is line c
commands_are_read line c = (command_is line c, λ is. ap command_in is.1 ∙ command_again c is.0)
