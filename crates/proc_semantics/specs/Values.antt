-- What procedures work on: numbers and closure pairs in places and registers, and the words of globals;
-- and which procedure is meant by a name.
use Rattle.std.specs.Prelude.{codes, ℕ, ◌^◌, ℤ, zero, suc, pos, negsuc, nat_lt, Bool, true, false, ◌&&◌}
use Rattle.std.specs.Prelude.{List, [], ◌∷◌, ◌++◌, position, slice_get, slice_index_or, slice_set}
use Rattle.std.specs.Prelude.{Option, Some, None, is_some, option_map}
use Rattle.std.specs.Str.{bytes_eq}
use Rattle.source_events.specs.declared.FeedPair.{FeedPair}
use Rattle.source_events.specs.declared.FeedPair.TheVariants as fed
use Rattle.source_events.specs.declared.OutArg.{OutArg}
use Rattle.source_events.specs.declared.OutArg.TheVariants.{Int, Half}
use Rattle.proc_program.specs.declared.program.Handle.{Handle}
use Rattle.proc_program.specs.declared.program.Handle.TheVariants.{Given, Own, Imported}
use Rattle.proc_program.specs.declared.program.Location.{Location}
use Rattle.proc_program.specs.declared.program.Location.TheVariants.{Local, Global}
use Rattle.proc_program.specs.declared.program.ProgramImport.{ProgramImport}
use Rattle.proc_program.specs.declared.program.Procedure.{Procedure}
use Rattle.proc_program.specs.declared.program.Program.{Program}
use Rattle.proc_semantics.specs.declared.value.Target.{Target}
use Rattle.proc_semantics.specs.declared.value.Pair.{Pair}
use Rattle.proc_semantics.specs.declared.value.Pair.TheVariants.{Bad, Outside, Runs}
use Rattle.proc_semantics.specs.declared.value.Value.{Value}
use Rattle.proc_semantics.specs.declared.value.Value.TheVariants.{Num, Closure, Other}
use Rattle.proc_semantics.specs.declared.value.Register.{Register}

-- the modules, as they run, in their order
abbrev pub World : Type 0
World = List Program

-- the words of each module's globals
abbrev pub Store : Type 0
Store = List (List ℤ)

-- ---- numbers

abbrev pub fits_64 : ℤ → Bool
fits_64 (pos n) = nat_lt n (2 ^ 63)
fits_64 (negsuc n) = nat_lt n (2 ^ 63)

abbrev pub is_zero : ℤ → Bool
is_zero (pos zero) = true
is_zero (pos (suc n)) = false
is_zero (negsuc n) = false

abbrev pub bit : Bool → ℤ
bit true = pos 1
bit false = pos 0

-- ---- places; no program of a resolved module looks where there is none

abbrev pub number_in : Value → ℤ
number_in (Num v) = v
number_in (Closure p) = pos 0
number_in Other = pos 0

abbrev pub pair_in : Value → Pair
pair_in (Num v) = Bad
pair_in (Closure p) = p
pair_in Other = Bad

abbrev pub global_word : Store → ℕ → ℕ → ℤ
global_word st home o = slice_index_or (slice_index_or st home []) o (pos 0)

abbrev pub set_word : Store → ℕ → ℕ → ℤ → Store
set_word st home o v = slice_set st home (slice_set (slice_index_or st home []) o v)

-- what a variable of a module holds
abbrev pub variable : ℕ → List Value → Store → Location → ℤ
variable home env st (Local i) = number_in (slice_index_or env i Other)
variable home env st (Global o) = global_word st home o

-- ---- registers of a call inside the modules: what an expression gives is a number and no pair, what a
-- ---- `proc` argument gives is a pair and no number; registers that aren't handed over hold 0

abbrev pub register_of : Value → Register
register_of (Num v) = record { number = Some v; pair = None }
register_of (Closure p) = record { number = None; pair = Some p }
register_of Other = record { number = None; pair = None }

abbrev pub first_of : List Register → Register
first_of [] = register_of (Num (pos 0))
first_of (r ∷ rs) = r

abbrev pub rest_of : List Register → List Register
rest_of [] = []
rest_of (r ∷ rs) = rs

-- ---- parameters: a plain one takes a register with a number, a callback two that are a pair

abbrev pub if_there : {A B : Type 0} → Option A → (A → Option B) → Option B
if_there None f = None
if_there (Some x) f = f x

-- after what is there, what parameters take from registers in order, where each finds what it needs
abbrev pub taken : List Value → List Bool → List Register → Option (List Value)
taken env [] rs = Some env
taken env (false ∷ callbacks) rs =
    if_there (first_of rs).number (λ v. taken (env ++ Num v ∷ []) callbacks (rest_of rs))
taken env (true ∷ callbacks) rs =
    if_there (first_of rs).pair
    (λ p. taken ((env ++ Closure p ∷ []) ++ Other ∷ []) callbacks (rest_of (rest_of rs)))

-- ---- the four registers of a call that leaves

abbrev pub value_arg : Value → OutArg
value_arg (Num v) = Int v
value_arg (Closure p) = Half
value_arg Other = Half

abbrev pub out_at : List Value → ℕ → OutArg
out_at vs i = value_arg (slice_index_or vs i (Num (pos 0)))

abbrev pub value_args : List Value → List OutArg
value_args vs = out_at vs 0 ∷ out_at vs 1 ∷ out_at vs 2 ∷ out_at vs 3 ∷ []

-- ---- the modules' procedures

abbrev pub home_part : World → ℕ → Option Program
home_part world home = slice_get world home

abbrev pub target : ℕ → ℕ → Target
target home n = record { home = home; proc = n }

abbrev pub proc_in : Option Program → ℕ → Option Procedure
proc_in None n = None
proc_in (Some u) n = slice_get u.procs n

abbrev pub proc_at : World → Target → Option Procedure
proc_at world t = proc_in (home_part world t.home) t.proc

-- ---- those that can be named from elsewhere: the shared ones, by the names of their parts and their own

abbrev pub is_named : List ℕ → Program → Bool
is_named part u = bytes_eq part u.name

abbrev pub is_shared : List ℕ → Procedure → Bool
is_shared name p = p.shared && bytes_eq name p.name

abbrev pub shared_in : ℕ → List ℕ → Option Program → Option Target
shared_in home name None = None
shared_in home name (Some u) = option_map (target home) (position (is_shared name) u.procs)

abbrev pub shared_at : World → List ℕ → Option ℕ → Option Target
shared_at world name None = None
shared_at world name (Some home) = shared_in home name (home_part world home)

unfoldable pub found : World → List ℕ → List ℕ → Option Target
found world part name = shared_at world name (position (is_named part) world)

abbrev pub has_main : Program → Bool
has_main u = is_some (position (is_shared (codes "main")) u.procs)

-- the shared main of the first module that has one
unfoldable pub main_target : World → Option Target
main_target world = shared_at world (codes "main") (position has_main world)

-- ---- closure pairs

-- a call of a procedure that no module has as shared fails, as one of a bad pair does
abbrev pub pair_found : Option Target → Pair
pair_found None = Bad
pair_found (Some t) = Runs t

-- an import from a part that isn't one of the modules is a pair of the outside
abbrev pub linked_by : World → List ℕ → Option ℕ → Pair
linked_by world name None = Outside
linked_by world name (Some home) = pair_found (shared_in home name (home_part world home))

unfoldable pub linked : World → Option ProgramImport → Pair
linked world None = Bad
linked world (Some i) = linked_by world i.name (position (is_named i.part) world)

abbrev pub import_in : Option Program → ℕ → Option ProgramImport
import_in None n = None
import_in (Some u) n = slice_get u.imports n

-- what is called, or passed on, by a procedure of a module with these places
abbrev pub pair_of : World → ℕ → List Value → Handle → Pair
pair_of world home env (Given i) = pair_in (slice_index_or env i Other)
pair_of world home env (Own j) = Runs (target home j)
pair_of world home env (Imported k) = linked world (import_in (home_part world home) k)

-- ---- the registers of an item

abbrev pub pair_fed : World → FeedPair → Option Pair
pair_fed world fed.Nothing = None
pair_fed world fed.Bad = Some Bad
pair_fed world fed.Out = Some Outside
pair_fed world (fed.Hop part name) = Some (pair_found (found world part name))

abbrev pub register_fed : World → List (Option ℤ) → List FeedPair → ℕ → Register
register_fed world ints pairs i =
    record { number = slice_index_or ints i None; pair = pair_fed world (slice_index_or pairs i fed.Nothing) }

abbrev pub registers_fed : World → List (Option ℤ) → List FeedPair → List Register
registers_fed world ints pairs =
    register_fed world ints pairs 0 ∷ register_fed world ints pairs 1 ∷ register_fed world ints pairs 2
    ∷ register_fed world ints pairs 3 ∷ []
