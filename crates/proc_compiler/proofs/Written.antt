-- Items written one after another.
use Rattle.std.proofs.Common.{◌≡◌, ℕ, zero, suc, ◌+◌, ◌-◌, ◌≤◌, false, List, [], ◌∷◌, ◌++◌, length}
use Rattle.std.proofs.Common.{take, replicate, refl, sym, ap, ◌∙◌, arith}
use Rattle.std.specs.Prelude.{◌==◌, slice_get, pos}
use Rattle.std.specs.Option.{option_map_or}
use Rattle.lcm_isa.specs.declared.Reg.{Reg}
use Rattle.lcm_isa.specs.declared.Reg.TheVariants.{Stk, T1}
use Rattle.lcm_isa.specs.declared.Operand.TheVariants.{Imm}
use Rattle.lcm_isa.specs.declared.Instr.TheVariants.{Store, Cca}
use Rattle.call_sequence.specs.Sequences.{distance}
use Rattle.proc_language.specs.declared.tree.Op.{Op}
use Rattle.proc_language.specs.declared.tree.Op.TheVariants.{Plus, Minus, Less, Equal}
use Rattle.proc_templates.specs.Items.{Spot, Item, does, is_last, Laid, put, lay}
use Rattle.proc_templates.specs.Templates.{arguments, op_code, op_words, push, wipe}
use Rattle.proc_templates.proofs.Offers.{args-split}
use Rattle.proc_compiler.specs.Drafts.{Drafted, with_items}

pub lay_both : (spot : Spot) (a b : List Item) (l : Laid) → lay spot l (a ++ b) ≡ lay spot (lay spot l a) b
lay_both spot [] b l = refl
lay_both spot (x ∷ a) b l = lay_both spot a b (put spot l x)

pub items_append : (a b : List Item) (d : Drafted) → with_items (a ++ b) d ≡ with_items b (with_items a d)
unfolding with_items
items_append a b d =
    ap (λ (x : Laid). record { laid = x; spot = d.spot; first = d.first; seals = d.seals })
    (lay_both d.spot a b d.laid)

pub items_nil : (d : Drafted) → with_items [] d ≡ d
unfolding with_items
items_nil d = refl

pub items_cons : (x : Item) (xs : List Item) (d : Drafted)
    → with_items (x ∷ xs) d ≡ with_items xs (with_items (x ∷ []) d)
unfolding with_items
items_cons x xs d = refl

pub ruleset items = (items_append, items_nil, items_cons)

pub ruleset called = (items_append, items_nil, items_cons, args-split)

-- the words of an operation, and those that hand it its values
pub op_size : (o : Op) → op_words o ≡ length (op_code o) + 7
op_size Plus = refl
op_size Minus = refl
op_size Less = refl
op_size Equal = refl

pub ruleset operated = (items_append, items_nil, items_cons, op_size)

pub push_both : (a b : List Reg) → push (a ++ b) ≡ push a ++ push b
push_both [] b = refl
push_both (r ∷ a) b = ap (λ xs. does (Store Stk r) ∷ does (Cca Stk (Imm (distance 1 0))) ∷ xs) (push_both a b)

pub some_length : (n : ℕ) → n ≤ length arguments → length (take n arguments) ≡ n
some_length zero le = refl
some_length (suc zero) le = refl
some_length (suc (suc zero)) le = refl
some_length (suc (suc (suc zero))) le = refl
some_length (suc (suc (suc (suc n)))) le = let e : n ≡ 0 = omega (arith, le) in
    ap (λ k. length (take (suc (suc (suc (suc k)))) arguments)) e ∙ ap (λ k. suc (suc (suc (suc k)))) (sym e)

pub ruleset pushed = (items_append, items_nil, items_cons, push_both, some_length)

pub push_more : (n : ℕ) → push (replicate (n + 1) T1) ≡ push (replicate n T1) ++ push (T1 ∷ [])
push_more zero = refl
push_more (suc n) =
    let e : suc n + 1 ≡ suc (n + 1) = omega arith in
    ap (λ k. push (replicate k T1)) e
    ∙ ap (λ xs. does (Store Stk T1) ∷ does (Cca Stk (Imm (distance 1 0))) ∷ xs) (push_more n)

pub wipe_more : (n : ℕ) → wipe (n + 1) ≡ wipe n ++ wipe 1
wipe_more zero = refl
wipe_more (suc n) =
    let e : suc n + 1 ≡ suc (n + 1) = omega arith in
    ap wipe e ∙ ap (λ xs. does (Cca Stk (Imm (pos 1))) ∷ does (Store Stk T1) ∷ xs) (wipe_more n)

pub ruleset more = (items_append, items_nil, items_cons, push_more, wipe_more)

-- whether the last label is an offset
pub last_of : (xs : List ℕ) (o : ℕ)
    → is_last xs o ≡ option_map_or (λ l. l == o) (slice_get xs (length xs - 1)) false
last_of [] o = refl
last_of (x ∷ []) o = refl
last_of (x ∷ y ∷ ys) o =
    let e : length (x ∷ y ∷ ys) - 1 ≡ suc (length ys) = omega arith in
    let k : length (y ∷ ys) - 1 ≡ length ys = omega arith in
    last_of (y ∷ ys) o ∙ ap (λ n. option_map_or (λ l. l == o) (slice_get (y ∷ ys) n) false) k
    ∙ sym (ap (λ n. option_map_or (λ l. l == o) (slice_get (x ∷ y ∷ ys) n) false) e)
