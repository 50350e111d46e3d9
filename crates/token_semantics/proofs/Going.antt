-- What goes on with tokens, and what goes on without them.
use Rattle.std.proofs.Common.{◌≡◌, sym, ◌∙◌, ap, subst, ℕ, ◌+◌, ℤ, Bool, true, false, if◌then◌else◌, List}
use Rattle.std.proofs.Common.{length, Option, Some, None, slice_get, slice_set}
use Rattle.std.specs.Prelude.{◌==◌, ◌&&◌}
use Rattle.std.specs.Str.{bytes_eq}
use Rattle.source_events.specs.declared.End.TheVariants.{Fail}
use Rattle.proc_language.specs.Tree as tree
use Rattle.proc_names.specs.Calls.{calls}
use Rattle.proc_program.specs.declared.program.Location.{Location}
use Rattle.proc_program.specs.declared.program.Location.TheVariants.{Local, Global}
use Rattle.proc_program.specs.Program as run
use Rattle.proc_program.specs.StepView.{block_of as block_view}
use Rattle.proc_program.specs.Lower.{exp_of, steps_of}
use Rattle.proc_semantics.specs.declared.value.Target.{Target}
use Rattle.proc_semantics.specs.declared.value.Value.{Value}
use Rattle.proc_semantics.specs.declared.value.Value.TheVariants.{Num}
use Rattle.proc_semantics.specs.declared.value.Register.{Register}
use Rattle.proc_semantics.specs.declared.value.Activation.{Activation}
use Rattle.proc_semantics.specs.Told as tells
use Rattle.proc_semantics.specs.Values.{Store, set_word}
use Rattle.proc_semantics.specs.Meaning as plain
use Rattle.proc_semantics.specs.Meaning.{with_number, is_given}
use Rattle.token_language.specs.declared.module.TokenProc.{TokenProc}
use Rattle.token_language.specs.declared.module.TokenModuleFields.{TokenModuleFields}
use Rattle.token_language.specs.Tree.{Expr, Block}
use Rattle.token_language.specs.Tokens.{tokens_of}
use Rattle.token_language.specs.Erased.{erased_expr, erased_block, erased_proc, erased}
use Rattle.token_check.specs.Tokens.{Full, is_clear}
use Rattle.token_check.specs.Walk.{FullAfter}
use Rattle.token_check.specs.Typing.{Joins, ComesBack, ExprTyped}
use Rattle.token_semantics.specs.Hands.{Hands}
use Rattle.token_semantics.specs.Told.{Comp, or_fail}
use Rattle.token_semantics.specs.Meaning.{Then, Along, WithArgs, Next, Wait, scope_of, Level}
use Rattle.token_semantics.specs.Meaning.{assigned, resumed}
use Rattle.token_semantics.proofs.Fits.{ExprFits, BlockFits}
use Rattle.token_semantics.proofs.Same.{Running, Same, ended_same, if_same, HandsAre, plus, with_numbers}
use Rattle.token_semantics.proofs.Places.{each_set, Takes, ValueTakesNone, ValuesTakeNone, RegistersTakeNone}
use Rattle.token_semantics.proofs.Reached.{BlockGoes}

-- ---- what goes on

abbrev pub RThen : Running → Then → plain.Then → Type 0
RThen r k k' = (v : ℤ) (st : Store) → Same r (k v st) (k' v st)

abbrev pub RAlong : ℕ → Running → Full → Along → plain.Then → Type 0
RAlong room r s k k' =
    (hands : Hands) → HandsAre room s hands → (v : ℤ) (st : Store)
    → Same (plus r hands) (k hands v st) (k' v st)

-- what `return` does: no token is full
abbrev pub RBack : ℕ → Running → Along → plain.Then → Type 0
RBack room r k k' = (s : Full) → is_clear s ≡ true → RAlong room r s k k'

abbrev pub RWait : Running → Option Wait → Option plain.Wait → Type 0
RWait r None None = Unit {0}
RWait r (Some c) (Some c') =
    (c.part ≡ c'.part) × (c.site ≡ c'.site) × (c.base ≡ c'.base) × (c.given ≡ c'.given)
    × RThen r c.resume c'.resume
RWait r None (Some c') = ⊥
RWait r (Some c) None = ⊥

abbrev pub RStore : Running → (Store → Comp) → (Store → tells.Comp) → Type 0
RStore r m m' = (st : Store) → Same r (m st) (m' st)

-- ---- tests and numbers

pub number_same : (r : Running) (o : Option ℤ) (k : Then) (k' : plain.Then) → RThen r k k' → (st : Store)
    → Same r (or_fail o (λ v. k v st)) (with_number o k' st)
number_same r None k k' h st = ended_same r Fail
number_same r (Some v) k k' h st = h v st

pub choice_same : (r : Running) (b : Bool) (m n : Store → Comp) (m' n' : Store → tells.Comp) → RStore r m m'
    → RStore r n n' → RStore r (if b then m else n) (if b then m' else n')
choice_same r true m n m' n' h k = h
choice_same r false m n m' n' h k = k

-- ---- calls that wait

pub resumed_same : (r : Running) (c : Option Wait) (c' : Option plain.Wait) → RWait r c c' → (part : List ℕ)
    (site base : ℕ) (left : Option ℕ) (v : Option ℤ)
    → RStore r (resumed c part site base left v) (plain.resumed c' part site base left v)
resumed_same r None None h part site base left v st = ended_same r Fail
resumed_same r None (Some c') h part site base left v st = absurd h
resumed_same r (Some c) None h part site base left v st = absurd h
resumed_same r (Some c) (Some c') h part site base left None st = ended_same r Fail
resumed_same r (Some c) (Some c') h part site base left (Some v) st =
    let test = λ (p : List ℕ) (s b g : ℕ).
    bytes_eq part p && (site == s) && (base == b) && is_given left g in
    if_same r (test c.part c.site c.base c.given) (test c'.part c'.site c'.base c'.given)
    (ap (λ p. test p c.site c.base c.given) h.0 ∙ ap (λ s. test c'.part s c.base c.given) h.1
    ∙ ap (λ b. test c'.part c'.site b c.given) h.2 ∙ ap (λ g. test c'.part c'.site c'.base g) h.3)
    _ _ _ _ (h.4 v st) (ended_same r Fail)

-- a block without tokens, as it runs
abbrev pub lowered : TokenModuleFields → TokenProc → ℕ → tree.Block → run.Block
lowered m p n b = block_view (steps_of (erased m) (erased_proc p) n b)

module _ (modules : List TokenModuleFields) where
  -- ---- after statements and arguments: no place has a closure pair that takes tokens

  abbrev pub RPlaces : Running → (List Value → Store → Comp) → plain.Next → Type 0
  RPlaces r k k' = (env : List Value) → ValuesTakeNone modules env → RStore r (k env) (k' env)

  abbrev pub RNext : ℕ → Running → FullAfter → Next → plain.Next → Type 0
  RNext room r None k k' = Unit {0}
  RNext room r (Some s) k k' =
      (hands : Hands) → HandsAre room s hands → RPlaces (plus r hands) (k hands) k'

  abbrev pub RArgs : ℕ → Running → Full → ℕ → WithArgs → (List Value → Store → tells.Comp) → Type 0
  RArgs room r s c k k' =
      (hands : Hands) → HandsAre room s hands → (ns : List ℕ) → length ns ≡ c
      → RPlaces (with_numbers (plus r hands) ns) (k hands ns) k'

  pub next_at : (room : ℕ) (r : Running) (a b : FullAfter) (k : Next) (k' : plain.Next) → a ≡ b
      → RNext room r b k k'
      → RNext room r a k k'
  next_at room r a b k k' e h = subst (λ c. RNext room r c k k') (sym e) h

  pub joined_next : (room : ℕ) (r : Running) (a b after : FullAfter) (k : Next) (k' : plain.Next)
      → Joins a b after
      → RNext room r after k k' → RNext room r a k k' × RNext room r b k k'
  joined_next room r None b after k k' e h = (tt, next_at room r b after k k' e h)
  joined_next room r (Some s) None after k k' e h = (next_at room r (Some s) after k k' e h, tt)
  joined_next room r (Some s) (Some t) after k k' e h =
      let f = sym (ap Some e.0) ∙ e.1 in
      (next_at room r (Some s) after k k' e.1 h, next_at room r (Some t) after k k' f h)

  pub back_again : (room : ℕ) (r : Running) (s : Full) (u : FullAfter) (k : Next) (k' : plain.Next)
      → ComesBack s u
      → RNext room r (Some s) k k' → RNext room r u k k'
  back_again room r s None k k' e h = tt
  back_again room r s (Some t) k k' e h = next_at room r (Some t) (Some s) k k' (ap Some (sym e)) h

  pub assigned_same : (r : Running) (home : ℕ) (x : Location) (v : ℤ)
      (k : List Value → Store → Comp) (k' : plain.Next) → RPlaces r k k'
      → RPlaces r (assigned home x v k) (plain.assigned home x v k')
  assigned_same r home (Local i) v k k' h env none st =
      h (slice_set env i (Num v)) (each_set (ValueTakesNone modules) env i (Num v) none tt) st
  assigned_same r home (Global o) v k k' h env none st = h env none (set_word st home o v)

  -- ---- one level down

  pub record RLevel (l : Level) (l' : plain.Level) : Type 0 where
    pub run : (r : Running) (t : Target) (left : Option ℕ) (ns : List ℕ) (rs : List Register)
        → Takes modules t (length ns) → RegistersTakeNone modules rs → (k : Then) (k' : plain.Then)
        → RThen r k k'
        → RStore (with_numbers r ns) (l.proc t left ns rs k) (l'.proc t left rs k')
    pub waits : (r : Running) (c : Option Wait) (c' : Option plain.Wait) → RWait r c c'
        → RStore r (l.wait c) (l'.wait c')
    pub turns : (m : TokenModuleFields) (p : TokenProc) (f : Activation) → slice_get modules f.home ≡ Some m
        → (r : Running) (n : ℕ) (c : Expr) (a : Block) (s t : Full) (u : FullAfter)
        → ExprTyped (tokens_of p) c s t
        → BlockGoes (tokens_of p) a (Some t) u → ComesBack s u → ExprFits m p c → BlockFits m p a
        → (back : Along) (back' : plain.Then) → RBack (length (tokens_of p)) r back back'
        → (k : Next) (k' : plain.Next) → RNext (length (tokens_of p)) r (Some t) k k'
        → RNext (length (tokens_of p)) r (Some s) (l.turn (scope_of m p f) n c a back k)
        (l'.turn f (exp_of (erased m) (erased_proc p) n (erased_expr c))
        (lowered m p (n + calls (erased_expr c)) (erased_block a)) back' k')
    pub hops : (r : Running) (c : Option Wait) (c' : Option plain.Wait) → RWait r c c'
        → (left : Option ℕ) (t : Target)
        → Takes modules t 0 → RThen r (l.hop c left t) (l'.hop c' left t)
