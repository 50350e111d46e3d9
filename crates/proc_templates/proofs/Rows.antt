-- Rows that are below the one at labels, and what instructions do to them.
use Rattle.std.proofs.lemmas.Bool.{and_parts, and_from}
use Rattle.std.proofs.Common.{◌≡◌, ◌≢◌, ℕ, zero, suc, ◌-◌, Bool, true, false, [], ◌∷◌, length, Some, None}
use Rattle.std.proofs.Common.{refl, sym, ap, ◌∙◌, subst, arith, get_or-set_other, get_or-set_same}
use Rattle.std.specs.Prelude.{◌&&◌, not, slice_index_or, slice_set}
use Rattle.component_file.specs.declared.component.Kind.{Kind}
use Rattle.component_file.specs.declared.component.Kind.TheVariants as kind
use Rattle.lcm_isa.specs.declared.Reg.{Reg}
use Rattle.lcm_isa.specs.declared.Reg.TheVariants.{Pc, Rcode, Rdata, Stk, Dat, T1, T2, C1, C2, A0, A1, A2, A3}
use Rattle.lcm_isa.specs.declared.Reg.TheVariants.{G0, G1, G2}
use Rattle.lcm_isa.specs.declared.Operand.{Operand}
use Rattle.lcm_isa.specs.declared.Operand.TheVariants.{R, Imm}
use Rattle.lcm_isa.specs.declared.Instr.{Instr}
use Rattle.lcm_isa.specs.declared.Instr.TheVariants.{Fail, Halt, Jmp, Jnz, Gettype, Geta, Getb, Gete, Getp}
use Rattle.lcm_isa.specs.declared.Instr.TheVariants.{Getlin, Move, Store, Load, Cca, Restrict, Lt, Plus}
use Rattle.lcm_isa.specs.declared.Instr.TheVariants.{Minus, Seta2b, Xjmp, Cseal, Split, Splice}
use Rattle.lcm_isa.specs.Numbers.{reg_number}
use Rattle.lcm_machine.specs.Table.{is_pc}
use Rattle.call_sequence.specs.Kinds.{Row, kind_of, set_kind, below_any, kind_below, row_below}
use Rattle.call_sequence.specs.declared.flow.Flow.{Flow}
use Rattle.call_sequence.specs.declared.flow.Flow.TheVariants.{Flows as flows}
use Rattle.call_sequence.specs.Flow.{flow, ask, into, source, is_top, is_area, seen, seen_operand, taken}
use Rattle.call_sequence.specs.Flow.{take_from, gets, on, cca_of}
use Rattle.proc_templates.specs.Compiled.{label_row}
use Rattle.proc_templates.specs.Ready.{is_low, is_low_operand, leads_to_area, is_quiet}

-- ---- rows, as lists

below-get : (rs ls : Row) (n : ℕ) → row_below rs ls ≡ true
    → kind_below (slice_index_or rs n kind.Top) (slice_index_or ls n kind.Top) ≡ true
below-get [] [] n e = refl
below-get [] (l ∷ ls) n e = cc
below-get (r ∷ rs) [] n e = cc
below-get (r ∷ rs) (l ∷ ls) zero e = (and_parts (kind_below r l) (row_below rs ls) e).0
below-get (r ∷ rs) (l ∷ ls) (suc n) e = below-get rs ls n ((and_parts (kind_below r l) (row_below rs ls) e).1)

below-set : (rs ls : Row) (n : ℕ) (k : Kind) → row_below rs ls ≡ true
    → kind_below k (slice_index_or ls n kind.Top) ≡ true → row_below (slice_set rs n k) ls ≡ true
below-set [] [] n k e h = refl
below-set [] (l ∷ ls) n k e h = cc
below-set (r ∷ rs) [] n k e h = cc
below-set (r ∷ rs) (l ∷ ls) zero k e h = rw h ((and_parts (kind_below r l) (row_below rs ls) e).1)
below-set (r ∷ rs) (l ∷ ls) (suc n) k e h =
    rw ((and_parts (kind_below r l) (row_below rs ls) e).0)
    (below-set rs ls n k ((and_parts (kind_below r l) (row_below rs ls) e).1) h)

below-length : (rs ls : Row) → row_below rs ls ≡ true → length rs ≡ length ls
below-length [] [] e = refl
below-length [] (l ∷ ls) e = cc
below-length (r ∷ rs) [] e = cc
below-length (r ∷ rs) (l ∷ ls) e =
    ap suc (below-length rs ls ((and_parts (kind_below r l) (row_below rs ls) e).1))

-- ---- rows below the one at labels

pub record Works (row : Row) : Type 0 where
  pub below : row_below row label_row ≡ true

label_kind : (r : Reg) → is_low r ≡ true → kind_of label_row r ≡ kind.Any
unfolding kind_of
label_kind Pc e = cc
label_kind Rcode e = refl
label_kind Rdata e = refl
label_kind Stk e = cc
label_kind Dat e = cc
label_kind T1 e = refl
label_kind T2 e = cc
label_kind C1 e = refl
label_kind C2 e = refl
label_kind A0 e = refl
label_kind A1 e = refl
label_kind A2 e = refl
label_kind A3 e = refl
label_kind G0 e = refl
label_kind G1 e = refl
label_kind G2 e = refl

kinds-below : (row : Row) (r : Reg) → Works row → kind_below (kind_of row r) (kind_of label_row r) ≡ true
unfolding kind_of
kinds-below row r w = below-get row label_row (reg_number r - 1) w.below

sets-kind : (row : Row) (r : Reg) (k : Kind) → Works row → kind_below k (kind_of label_row r) ≡ true
    → Works (set_kind row r k)
unfolding kind_of set_kind
sets-kind row r k w h = record { below = below-set row label_row (reg_number r - 1) k w.below h }

any-below : (k : Kind) → kind_below k kind.Any ≡ below_any k
any-below kind.Any = refl
any-below kind.Int = refl
any-below kind.DataCap = refl
any-below kind.Stk = refl
any-below (kind.Pc o) = refl
any-below kind.Top = refl

top-below : (k : Kind) → kind_below k kind.Top ≡ true
top-below kind.Any = refl
top-below kind.Int = refl
top-below kind.DataCap = refl
top-below kind.Stk = refl
top-below (kind.Pc o) = refl
top-below kind.Top = refl

pub low-kind : (row : Row) (r : Reg) → Works row → is_low r ≡ true → below_any (kind_of row r) ≡ true
low-kind row r w e = sym (any-below (kind_of row r)) ∙ ap (kind_below (kind_of row r)) (sym (label_kind r e))
    ∙ kinds-below row r w

only_stk : (k : Kind) → kind_below k kind.Stk ≡ true → k ≡ kind.Stk
only_stk kind.Any e = cc
only_stk kind.Int e = cc
only_stk kind.DataCap e = cc
only_stk kind.Stk e = refl
only_stk (kind.Pc o) e = cc
only_stk kind.Top e = cc

only_data : (k : Kind) → kind_below k kind.DataCap ≡ true → k ≡ kind.DataCap
only_data kind.Any e = cc
only_data kind.Int e = cc
only_data kind.DataCap e = refl
only_data kind.Stk e = cc
only_data (kind.Pc o) e = cc
only_data kind.Top e = cc

label_stk : kind_of label_row Stk ≡ kind.Stk
unfolding kind_of
label_stk = refl

label_data : kind_of label_row Dat ≡ kind.DataCap
unfolding kind_of
label_data = refl

label_t2 : kind_of label_row T2 ≡ kind.Top
unfolding kind_of
label_t2 = refl

pub stk-kind : (row : Row) → Works row → kind_of row Stk ≡ kind.Stk
stk-kind row w = only_stk (kind_of row Stk)
    (ap (kind_below (kind_of row Stk)) (sym label_stk) ∙ kinds-below row Stk w)

pub data-kind : (row : Row) → Works row → kind_of row Dat ≡ kind.DataCap
data-kind row w = only_data (kind_of row Dat)
    (ap (kind_below (kind_of row Dat)) (sym label_data) ∙ kinds-below row Dat w)

pub sets-low : (row : Row) (r : Reg) (k : Kind) → Works row → is_low r ≡ true → below_any k ≡ true
    → Works (set_kind row r k)
sets-low row r k w e h = sets-kind row r k w (ap (kind_below k) (label_kind r e) ∙ any-below k ∙ h)

pub sets-t2 : (row : Row) (k : Kind) → Works row → Works (set_kind row T2 k)
sets-t2 row k w = sets-kind row T2 k w (ap (kind_below k) label_t2 ∙ top-below k)

-- ---- t2 by itself

low-index : (r : Reg) → is_low r ≡ true → 5 ≢ reg_number r - 1
low-index Pc e = cc
low-index Rcode e = omega arith
low-index Rdata e = omega arith
low-index Stk e = cc
low-index Dat e = cc
low-index T1 e = omega arith
low-index T2 e = cc
low-index C1 e = omega arith
low-index C2 e = omega arith
low-index A0 e = omega arith
low-index A1 e = omega arith
low-index A2 e = omega arith
low-index A3 e = omega arith
low-index G0 e = omega arith
low-index G1 e = omega arith
low-index G2 e = omega arith

pub t2-kept : (row : Row) (r : Reg) (k : Kind) → is_low r ≡ true
    → kind_of (set_kind row r k) T2 ≡ kind_of row T2
unfolding kind_of set_kind
t2-kept row r k e = get_or-set_other row (reg_number r - 1) 5 k kind.Top (low-index r e)

pub t2-set : (row : Row) (k : Kind) → Works row → kind_of (set_kind row T2 k) T2 ≡ k
unfolding kind_of set_kind
t2-set row k w = let n = below-length row label_row w.below in get_or-set_same row 5 k kind.Top (omega arith)

-- ---- what quiet instructions do

pub asked : (rule : ℕ) (b : Bool) (f : Flow) → b ≡ true → ask rule b f ≡ f
unfolding ask
asked rule true f e = refl
asked rule false f e = cc

no_pc : (r : Reg) → is_low r ≡ true → is_pc r ≡ false
no_pc Pc e = cc
no_pc Rcode e = refl
no_pc Rdata e = refl
no_pc Stk e = cc
no_pc Dat e = cc
no_pc T1 e = refl
no_pc T2 e = cc
no_pc C1 e = refl
no_pc C2 e = refl
no_pc A0 e = refl
no_pc A1 e = refl
no_pc A2 e = refl
no_pc A3 e = refl
no_pc G0 e = refl
no_pc G1 e = refl
no_pc G2 e = refl

into_low : (r : Reg) (f : Flow) → is_low r ≡ true → into r f ≡ f
into_low r f e = asked 5 (not (is_pc r)) f (ap not (no_pc r e))

low-source : (o : ℕ) (row : Row) (r : Reg) → is_low r ≡ true → source o row r ≡ kind_of row r
low-source o row r e = rw (no_pc r e) refl

not_top : (k : Kind) → below_any k ≡ true → is_top k ≡ false
not_top kind.Any e = refl
not_top kind.Int e = refl
not_top kind.DataCap e = cc
not_top kind.Stk e = refl
not_top (kind.Pc o) e = cc
not_top kind.Top e = cc

pub low-seen : (o : ℕ) (row : Row) (r : Reg) → Works row → is_low r ≡ true → seen o row r ≡ true
low-seen o row r w e = ap (λ k. not (is_top k)) (low-source o row r e)
    ∙ ap not (not_top (kind_of row r) (low-kind row r w e))

low-operand : (o : ℕ) (row : Row) (n : Operand) → Works row → is_low_operand n ≡ true
    → seen_operand o row n ≡ true
low-operand o row (R r) w e = low-seen o row r w e
low-operand o row (Imm z) w e = refl

taken-below : (k : Kind) → below_any k ≡ true → below_any (taken k) ≡ true
taken-below kind.Any e = refl
taken-below kind.Int e = refl
taken-below kind.DataCap e = cc
taken-below kind.Stk e = refl
taken-below (kind.Pc o) e = cc
taken-below kind.Top e = cc

area-kind : (o : ℕ) (row : Row) (r : Reg) → Works row → leads_to_area r ≡ true
    → is_area (source o row r) ≡ true
area-kind o row Pc w e = cc
area-kind o row Rcode w e = cc
area-kind o row Rdata w e = cc
area-kind o row Stk w e = rw (stk-kind row w) refl
area-kind o row Dat w e = rw (data-kind row w) refl
area-kind o row T1 w e = cc
area-kind o row T2 w e = cc
area-kind o row C1 w e = cc
area-kind o row C2 w e = cc
area-kind o row A0 w e = cc
area-kind o row A1 w e = cc
area-kind o row A2 w e = cc
area-kind o row A3 w e = cc
area-kind o row G0 w e = cc
area-kind o row G1 w e = cc
area-kind o row G2 w e = cc

-- the code goes on with a row that is below the one at labels, in which t2 is as before
pub record GoesOn (i : Instr) (o : ℕ) (row : Row) : Type 0 where
  pub after : Row
  pub is : flow i o row ≡ flows None (Some after)
  pub works : Works after
  pub t2 : kind_of after T2 ≡ kind_of row T2

module _ (o : ℕ) (row : Row) (w : Works row) where
  takes : (r : Reg) → is_low r ≡ true → take_from row r ≡ set_kind row r (taken (kind_of row r))
  takes r e = rw (no_pc r e) refl

  takes-works : (r : Reg) → is_low r ≡ true → Works (take_from row r)
  takes-works r e = subst Works (sym (takes r e))
      (sets-low row r (taken (kind_of row r)) w e (taken-below (kind_of row r) (low-kind row r w e)))

  takes-t2 : (r : Reg) → is_low r ≡ true → kind_of (take_from row r) T2 ≡ kind_of row T2
  takes-t2 r e = ap (λ q. kind_of q T2) (takes r e) ∙ t2-kept row r (taken (kind_of row r)) e

  got : (i : Instr) (r : Reg) (k : Kind) → is_low r ≡ true → below_any k ≡ true → flow i o row ≡ gets row r k
      → GoesOn i o row
  got i r k e h f = record {
    after = set_kind row r k;
    is = f;
    works = sets-low row r k w e h;
    t2 = t2-kept row r k e;
  }

  three : (r1 r2 : Reg) (n : Operand) → (is_low r1 && (is_low r2 && is_low_operand n)) ≡ true
      → into r1 (ask 6 (seen o row r2 && seen_operand o row n) (gets row r1 kind.Int)) ≡ gets row r1 kind.Int
  three r1 r2 n e =
      let e1 = (and_parts (is_low r1) (is_low r2 && is_low_operand n) e).0 in
      let e2 = (and_parts (is_low r1) (is_low r2 && is_low_operand n) e).1 in
      into_low r1 _ e1 ∙ asked 6 _ _
      (and_from (seen o row r2) (seen_operand o row n)
      (low-seen o row r2 w ((and_parts (is_low r2) (is_low_operand n) e2).0))
      (low-operand o row n w ((and_parts (is_low r2) (is_low_operand n) e2).1)))

  on_area : (k : Kind) (r : Reg) (n : Operand) → is_area k ≡ true → cca_of row r k n ≡ on row
  on_area kind.Any r n e = cc
  on_area kind.Int r n e = cc
  on_area kind.DataCap r n e = refl
  on_area kind.Stk r n e = refl
  on_area (kind.Pc p) r n e = cc
  on_area kind.Top r n e = cc

  no_pc_area : (r : Reg) → leads_to_area r ≡ true → is_pc r ≡ false
  no_pc_area Pc e = cc
  no_pc_area Rcode e = refl
  no_pc_area Rdata e = refl
  no_pc_area Stk e = refl
  no_pc_area Dat e = refl
  no_pc_area T1 e = refl
  no_pc_area T2 e = refl
  no_pc_area C1 e = refl
  no_pc_area C2 e = refl
  no_pc_area A0 e = refl
  no_pc_area A1 e = refl
  no_pc_area A2 e = refl
  no_pc_area A3 e = refl
  no_pc_area G0 e = refl
  no_pc_area G1 e = refl
  no_pc_area G2 e = refl

  area-kind_of : (r : Reg) → leads_to_area r ≡ true → is_area (kind_of row r) ≡ true
  area-kind_of r e = ap is_area (sym (let p = no_pc_area r e in rw p refl)) ∙ area-kind o row r w e

  moves : (r1 : Reg) (n : Operand) → is_low r1 ≡ true → is_low_operand n ≡ true → GoesOn (Move r1 n) o row
  unfolding flow
  moves r1 (Imm z) e1 e2 = got (Move r1 (Imm z)) r1 kind.Int e1 refl (into_low r1 _ e1)
  moves r1 (R r2) e1 e2 = record {
    after = set_kind (take_from row r2) r1 (source o row r2);
    is = into_low r1 _ e1 ∙ asked 6 _ _ (low-seen o row r2 w e2);
    works = sets-low (take_from row r2) r1 (source o row r2) (takes-works r2 e2) e1
        (ap below_any (low-source o row r2 e2) ∙ low-kind row r2 w e2);
    t2 = t2-kept (take_from row r2) r1 (source o row r2) e1 ∙ takes-t2 r2 e2;
  }

  pub quiet_goes : (i : Instr) → is_quiet i ≡ true → GoesOn i o row
  unfolding is_quiet flow
  quiet_goes Fail e = cc
  quiet_goes Halt e = cc
  quiet_goes (Jmp r1) e = cc
  quiet_goes (Jnz r1 r2) e = cc
  quiet_goes (Gettype r1 r2) e =
      got _ r1 kind.Int ((and_parts (is_low r1) (is_low r2) e).0) refl
      (into_low r1 _ ((and_parts (is_low r1) (is_low r2) e).0)
      ∙ asked 6 _ _ (low-seen o row r2 w ((and_parts (is_low r1) (is_low r2) e).1)))
  quiet_goes (Geta r1 r2) e = cc
  quiet_goes (Getb r1 r2) e = cc
  quiet_goes (Gete r1 r2) e = cc
  quiet_goes (Getp r1 r2) e = cc
  quiet_goes (Getlin r1 r2) e = got _ r1 kind.Int ((and_parts (is_low r1) (is_low r2) e).0) refl
      (into_low r1 _ ((and_parts (is_low r1) (is_low r2) e).0)
      ∙ asked 6 _ _ (low-seen o row r2 w ((and_parts (is_low r1) (is_low r2) e).1)))
  quiet_goes (Move r1 n) e = moves r1 n ((and_parts (is_low r1) (is_low_operand n) e).0)
      ((and_parts (is_low r1) (is_low_operand n) e).1)
  quiet_goes (Store r1 r2) e =
      let e1 = (and_parts (leads_to_area r1) (is_low r2) e).0 in
      let e2 = (and_parts (leads_to_area r1) (is_low r2) e).1 in
      record {
        after = take_from row r2;
        is = asked 6 _ _ (and_from _ _ (area-kind o row r1 w e1)
            (ap below_any (low-source o row r2 e2) ∙ low-kind row r2 w e2));
        works = takes-works r2 e2;
        t2 = takes-t2 r2 e2;
      }
  quiet_goes (Load r1 r2) e =
      let e1 = (and_parts (is_low r1) (leads_to_area r2) e).0 in
      got _ r1 kind.Any e1 refl (into_low r1 _ e1
      ∙ asked 6 _ _ (area-kind o row r2 w ((and_parts (is_low r1) (leads_to_area r2) e).1)))
  quiet_goes (Cca r1 n) e =
      let e1 = (and_parts (leads_to_area r1) (is_low_operand n) e).0 in
      record {
        after = row;
        is = asked 5 _ _ (ap not (no_pc_area r1 e1))
            ∙ asked 6 _ _ (low-operand o row n w ((and_parts (leads_to_area r1) (is_low_operand n) e).1))
            ∙ on_area (kind_of row r1) r1 n (area-kind_of r1 e1);
        works = w;
        t2 = refl;
      }
  quiet_goes (Restrict r1 n) e = cc
  quiet_goes (Lt r1 r2 n) e = got _ r1 kind.Int ((and_parts (is_low r1) _ e).0) refl (three r1 r2 n e)
  quiet_goes (Plus r1 r2 n) e = got _ r1 kind.Int ((and_parts (is_low r1) _ e).0) refl (three r1 r2 n e)
  quiet_goes (Minus r1 r2 n) e = got _ r1 kind.Int ((and_parts (is_low r1) _ e).0) refl (three r1 r2 n e)
  quiet_goes (Seta2b r1) e = cc
  quiet_goes (Xjmp r1 r2) e = cc
  quiet_goes (Cseal r1 r2) e = cc
  quiet_goes (Split r1 r2 r3 n) e = cc
  quiet_goes (Splice r1 r2 r3) e = cc
