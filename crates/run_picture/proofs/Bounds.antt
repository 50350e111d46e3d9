-- How far the page reaches, and how large the addresses are that lines tell.
use Rattle.std.proofs.Common.{◌≡◌, ℕ, ◌+◌, ◌-◌, ◌*◌, ◌≤◌, Bool, true, false, List, [], ◌∷◌, length}
use Rattle.std.proofs.Common.{Option, Some, None, refl, subst, arith}
use Rattle.std.specs.Prelude.{codes, min, nat_le, nat_lt, nat_eq, if◌then◌else◌, option_and_then}
use Rattle.std.specs.Str.{bytes_eq}
use Rattle.std.proofs.lemmas.Bool.{leb-true, cond_both}
use Rattle.std.proofs.Math.Nat.{mul-le-mul_left}
use Rattle.cap_words.specs.declared.Perm.{Perm}
use Rattle.cap_words.specs.declared.Perm.TheVariants.{No, R, Rw, Rx, Rwx}
use Rattle.cap_words.specs.declared.Lin.{Lin}
use Rattle.cap_words.specs.declared.Lin.TheVariants.{Normal, Linear}
use Rattle.cap_words.specs.declared.Word.{Word}
use Rattle.cap_words.specs.declared.Word.TheVariants.{Int, Mem, Seal, Sealed}
use Rattle.line_fields.specs.declared.TheConstants.{LAST_NATURAL}
use Rattle.line_fields.specs.Numbers.{natural_in}
use Rattle.line_fields.specs.Words.{word_in}
use Rattle.line_fields.specs.Fields.{Reader, field, meant, fields}
use Rattle.line_fields.proofs.Offers.{number_is, word_is, goes, same_read, meant_is}
use Rattle.run_picture.specs.declared.heights.Scale.{Scale}
use Rattle.run_picture.specs.declared.turn.Side.{Side}
use Rattle.run_picture.specs.declared.turn.Extent.{Extent}
use Rattle.run_picture.specs.declared.turn.Turn.{Turn}
use Rattle.run_picture.specs.declared.turn.Turn.TheVariants.{Call, Ret, Enter, Leave, Other}
use Rattle.run_picture.specs.Turns.{side_of, call_or_ret, spanned, rw_end, word_end, stack_end, entered}
use Rattle.run_picture.specs.Turns.{turn_named, one_turn, turn_read, turn_of}
use Rattle.run_picture.specs.Events.{EventSeen, events_in}
use Rattle.run_picture.specs.Heights.{with_cut, with_turn, cuts_from, below, fits, scale_of}
use Rattle.run_picture.specs.Page.{PageSeen, column_of, x, y}
use Rattle.run_picture.specs.Picture.{page_for}
use Rattle.run_picture.proofs.Stands.{Under, with_cut_under, no_lower}

-- ---- addresses have 32 bits

abbrev pub IsSmall : Turn → Type 0
IsSmall (Call side s) = (s.base ≤ 4294967295) × (s.last ≤ 4294967295)
IsSmall (Ret side s) = Unit {0}
IsSmall (Enter None) = Unit {0}
IsSmall (Enter (Some end)) = end ≤ 4294967295
IsSmall Leave = Unit {0}
IsSmall Other = Unit {0}

abbrev Fields : Type 0
Fields = List (List ℕ)

natural_small : (t : List ℕ) (n : ℕ) → natural_in t ≡ Some n → n ≤ 4294967295
natural_small t n h = (number_is LAST_NATURAL n t (omega arith) h).0

either_small : (is_call : Bool) (side : Side) (s : Extent) → s.base ≤ 4294967295 → s.last ≤ 4294967295
    → IsSmall (call_or_ret is_call side s)
either_small true side s h k = (h, k)
either_small false side s h k = tt

read_small : (o : Option (Turn × Fields)) → ((t : Turn) (r : Fields) → o ≡ Some (t, r) → IsSmall t)
    → IsSmall (turn_read o)
read_small None f = tt
read_small (Some read) f = f read.0 read.1 refl

spanned_small : (is_call : Bool) (ts : Fields) → IsSmall (turn_read (spanned is_call ts))
unfolding spanned
spanned_small is_call ts = read_small _ by_fields
  where
    by_fields : (t : Turn) (r : Fields) → spanned is_call ts ≡ Some (t, r) → IsSmall t
    by_fields t r h =
        let g1 = goes (field ts) _ (t, r) h in
        let g2 = goes (field g1.rest) _ (t, r) g1.next in
        let g3 = goes (field g2.rest) _ (t, r) g2.next in
        let g4 = goes (meant natural_in g3.rest) _ (t, r) g3.next in
        let g5 = goes (meant natural_in g4.rest) _ (t, r) g4.next in
        let k4 = meant_is natural_in g3.rest g4.value g4.rest g4.first in
        let k5 = meant_is natural_in g4.rest g5.value g5.rest g5.first in
        subst IsSmall (same_read g5.next).0
        (either_small is_call (side_of g1.value) (record { base = g4.value; last = g5.value })
        (natural_small k4.0 g4.value k4.1) (natural_small k5.0 g5.value k5.1))

rw_small : (perm : Perm) (lin : Lin) (end : ℕ) → end ≤ 4294967295 → IsSmall (Enter (rw_end perm lin end))
rw_small No lin end h = tt
rw_small R lin end h = tt
rw_small Rw Normal end h = tt
rw_small Rw Linear end h = h
rw_small Rx lin end h = tt
rw_small Rwx lin end h = tt

stack_small : (stk : List ℕ) → IsSmall (Enter (stack_end stk))
stack_small stk = by_word (word_in stk) refl
  where
    by_word : (o : Option Word) → word_in stk ≡ o → IsSmall (Enter (option_and_then word_end o))
    by_word None e = tt
    by_word (Some (Int n)) e = tt
    by_word (Some (Mem c)) e =
        let k = (word_is (Mem c) stk e).0 in
        let le = k.0.1 in
        rw_small c.perm c.lin c.end (omega arith)
    by_word (Some (Seal s)) e = tt
    by_word (Some (Sealed n s)) e = tt

entered_small : (ts : Fields) → IsSmall (turn_read (entered ts))
unfolding entered
entered_small [] = tt
entered_small (a ∷ []) = tt
entered_small (a ∷ b ∷ []) = tt
entered_small (a ∷ b ∷ stk ∷ ts) = stack_small stk

named_small : (name : List ℕ) (ts : Fields) → IsSmall (turn_read (turn_named name ts))
unfolding turn_named
named_small name ts =
    let P = λ (r : Reader Turn). IsSmall (turn_read (r ts)) in
    cond_both (bytes_eq (codes "call") name) _ _ P (λ e. spanned_small true ts) (λ e.
    cond_both (bytes_eq (codes "ret") name) _ _ P (λ e. spanned_small false ts) (λ e.
    cond_both (bytes_eq (codes "enter") name) _ _ P (λ e. entered_small ts) (λ e.
    cond_both (bytes_eq (codes "leave") name) _ _ P (λ e. tt) (λ e. tt))))

fields_small : (ts : Fields) → IsSmall (turn_read (one_turn ts))
unfolding one_turn
fields_small [] = tt
fields_small (name ∷ ts) = named_small name ts

turn_small : (l : List ℕ) → IsSmall (turn_of l)
unfolding turn_of
turn_small l = fields_small (fields l)

abbrev AreSmall : List EventSeen → Type 0
AreSmall [] = Unit {0}
AreSmall (e ∷ es) = IsSmall e.turn × AreSmall es

pub events_small : (ts : Fields) → AreSmall (events_in ts)
events_small [] = tt
events_small (t ∷ []) = tt
events_small (t ∷ u ∷ us) = (turn_small t, events_small (u ∷ us))

-- ---- so are cuts, and there are two for a line at most

turn_under : (t : Turn) (cs : List ℕ) → IsSmall t → Under 4294967297 cs → Under 4294967297 (with_turn t cs)
turn_under (Call side s) cs h u =
    let low = h.0 in
    let high = h.1 in
    with_cut_under s.base 4294967297 (with_cut (s.last + 1) cs) (omega arith)
    (with_cut_under (s.last + 1) 4294967297 cs (omega arith) u)
turn_under (Ret side s) cs h u = u
turn_under (Enter None) cs h u = u
turn_under (Enter (Some end)) cs h u = with_cut_under (end + 1) 4294967297 cs (omega arith) u
turn_under Leave cs h u = u
turn_under Other cs h u = u

pub cuts_under : (es : List EventSeen) (cs : List ℕ) → AreSmall es → Under 4294967297 cs
    → Under 4294967297 (cuts_from cs es)
cuts_under [] cs h u = u
cuts_under (e ∷ es) cs h u = cuts_under es (with_turn e.turn cs) h.1 (turn_under e.turn cs h.0 u)

put_len : (b : Bool) (a c : ℕ) (cs : List ℕ)
    → length (if b then c ∷ cs else a ∷ c ∷ cs) ≤ length (c ∷ cs) + 1
put_len true a c cs = omega arith
put_len false a c cs = omega arith

with_cut_len : (a : ℕ) (cs : List ℕ) → length (with_cut a cs) ≤ length cs + 1
with_cut_len a [] = omega arith
with_cut_len a (c ∷ cs) =
    cond_both (nat_le c a) _ _ (λ ds. length ds ≤ length (c ∷ cs) + 1) (λ e. put_len (nat_eq c a) a c cs)
    (λ e. omega (arith, with_cut_len a cs))

with_turn_len : (t : Turn) (cs : List ℕ) → length (with_turn t cs) ≤ length cs + 2
with_turn_len (Call side s) cs =
    omega (arith, with_cut_len s.base (with_cut (s.last + 1) cs), with_cut_len (s.last + 1) cs)
with_turn_len (Ret side s) cs = omega arith
with_turn_len (Enter None) cs = omega arith
with_turn_len (Enter (Some end)) cs = omega (arith, with_cut_len (end + 1) cs)
with_turn_len Leave cs = omega arith
with_turn_len Other cs = omega arith

pub cuts_len : (es : List EventSeen) (cs : List ℕ) → length (cuts_from cs es) ≤ length cs + 2 * length es
cuts_len [] cs = omega arith
cuts_len (e ∷ es) cs = omega (arith, cuts_len es (with_turn e.turn cs), with_turn_len e.turn cs)

-- ---- the page

column_times : (n : ℕ) → n ≤ 16384 → column_of n * n ≤ 32768
column_times n h =
    cond_both (nat_le n 5) _ _ (λ c. c * n ≤ 32768) (λ e. omega (arith, leb-true n 5 e)) (λ e.
    cond_both (nat_le n 12) _ _ (λ c. c * n ≤ 32768) (λ e. omega (arith, leb-true n 12 e)) (λ e.
    cond_both (nat_le n 30) _ _ (λ c. c * n ≤ 32768) (λ e. omega (arith, leb-true n 30 e)) (λ e.
    cond_both (nat_le n 80) _ _ (λ c. c * n ≤ 32768) (λ e. omega (arith, leb-true n 80 e)) (λ e.
    cond_both (nat_le n 400) _ _ (λ c. c * n ≤ 32768) (λ e. omega (arith, leb-true n 400 e)) (λ e.
    cond_both (nat_le n 2000) _ _ (λ c. c * n ≤ 32768) (λ e. omega (arith, leb-true n 2000 e))
    (λ e. omega arith))))))

one_word : (c d k : ℕ) (b : Bool) (rest : ℕ) → rest ≤ k → (if b then min (c - d) 1 + rest else 0) ≤ k + 1
one_word c d k true rest h = omega arith
one_word c d k false rest h = omega arith

below_one : (cs : List ℕ) (a : ℕ) → below 1 cs a ≤ length cs
below_one [] a = omega arith
below_one (c ∷ []) a = omega arith
below_one (c ∷ d ∷ cs) a =
    let k = length (d ∷ cs) in
    omega (arith, one_word c d k (nat_lt a c) (below 1 (d ∷ cs) a) (below_one (d ∷ cs) a))

scale_low : (cs : List ℕ) → length cs ≤ 32768 → (scale_of cs).px * below (scale_of cs).most cs 0 ≤ 32768
unfolding scale_of
scale_low cs h =
    let near : Scale = record { most = 16; px = 16 } in
    let half : Scale = record { most = 16; px = 8 } in
    let less : Scale = record { most = 8; px = 4 } in
    let far : Scale = record { most = 4; px = 2 } in
    let P = λ (s : Scale). s.px * below s.most cs 0 ≤ 32768 in
    cond_both (fits cs near) _ _ P (λ e. omega (arith, leb-true (16 * below 16 cs 0) 560 e)) (λ e.
    cond_both (fits cs half) _ _ P (λ e. omega (arith, leb-true (8 * below 16 cs 0) 560 e)) (λ e.
    cond_both (fits cs less) _ _ P (λ e. omega (arith, leb-true (4 * below 8 cs 0) 560 e)) (λ e.
    cond_both (fits cs far) _ _ P (λ e. omega (arith, leb-true (2 * below 4 cs 0) 560 e))
    (λ e. omega (arith, below_one cs 0)))))

-- all that is drawn stands within it
pub record Within (p : PageSeen) : Type 0 where
  pub few : p.count ≤ 16384
  pub right : (n : ℕ) → n ≤ p.count → x p n ≤ 32900
  pub low : (a : ℕ) → y p a ≤ 33052

pub within : (es : List EventSeen) → length es ≤ 16384 → Within (page_for es)
within es h =
    let n = length es in
    let cs = cuts_from [] es in
    let s = scale_of cs in
    let column = column_times n h in
    let low = scale_low cs (omega (arith, cuts_len es [])) in
    record {
      few = h;
      right = λ m le.
          (let k : column_of n * m ≤ column_of n * n = mul-le-mul_left (column_of n) le in omega arith);
      low = λ a.
          (let k : s.px * below s.most cs a ≤ s.px * below s.most cs 0 =
          mul-le-mul_left s.px (no_lower s.most cs 0 a (omega arith)) in
          omega arith);
    }
