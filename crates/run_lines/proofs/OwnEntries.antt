-- Where an `enter` line is told, the argument registers hold words that untrusted code may hold, and its
-- pairs are the overlay's own.
use Rattle.std.proofs.Common.{◌≡◌, ℕ, ◌+◌, ◌<◌, pos, Bool, true, false, List, [], ◌∷◌, length, Option, Some}
use Rattle.std.proofs.Common.{None, refl, sym, ap, subst, ◌∙◌}
use Rattle.std.specs.Prelude.{slice_get, option_map, option_and_then, if◌then◌else◌, is_some, ◌==◌, ◌&&◌}
use Rattle.std.specs.List.{Contains, list_any}
use Rattle.std.proofs.lemmas.Bool.{and_parts}
use Rattle.cap_words.specs.declared.CapFields.{CapFields}
use Rattle.cap_words.specs.declared.Word.{Word}
use Rattle.cap_words.specs.declared.Word.TheVariants.{Int, Mem}
use Rattle.cap_words.specs.Face.{face_of}
use Rattle.cap_words.specs.Faces.{covers, address}
use Rattle.lcm_isa.specs.declared.Reg.{Reg}
use Rattle.lcm_isa.specs.declared.Reg.TheVariants.{Pc, Rcode, Rdata, A0, A1, A2, A3, T2}
use Rattle.lcm_isa.specs.declared.Operand.TheVariants.{R as InReg}
use Rattle.lcm_isa.specs.declared.Instr.TheVariants.{Fail, Move}
use Rattle.lcm_isa.specs.Numbers.{number_of as number_is}
use Rattle.lcm_machine.specs.Maps.{State}
use Rattle.lcm_machine.specs.Places.{reg}
use Rattle.lcm_machine.specs.Table.{is_pc}
use Rattle.lcm_machine.specs.Row.{faces}
use Rattle.call_sequence.specs.Sequences.{entry_code}
use Rattle.call_sequence.specs.Standing.{CodeStands}
use Rattle.call_sequence.specs.Kinds.{Row, kind_of, entry_row}
use Rattle.call_sequence.specs.Holds.{code_at, HasKind}
use Rattle.call_sequence.specs.Places.{begins_entry}
use Rattle.linked_starts.specs.declared.owners.Owner.{Owner}
use Rattle.linked_starts.specs.declared.owners.Entry.{Entry}
use Rattle.linked_starts.specs.Parts.{PartSeen}
use Rattle.trusted_border.specs.declared.layout.Layout.{Layout}
use Rattle.trusted_border.specs.declared.events.Back.{Back}
use Rattle.trusted_border.specs.declared.events.Event.{Event}
use Rattle.trusted_border.specs.declared.events.Event.TheVariants.{Entered, Left}
use Rattle.trusted_border.specs.Layout.{number_of, has_entry_at}
use Rattle.trusted_border.specs.Reaches.{entry_number, closure_owner, back_of}
use Rattle.overlay_machine.specs.declared.notes.StepNote.{StepNote}
use Rattle.overlay_machine.specs.declared.notes.StepNote.TheVariants.{Nothing, Calls, Returns, Jumps}
use Rattle.overlay_machine.specs.Words.{look}
use Rattle.overlay_machine.specs.State.{OpenFrame, OState}
use Rattle.overlay_machine.specs.Events.{owner_now, shown_word, called_event}
use Rattle.overlay_machine.specs.Events.{entered_event, jumped, event_after, note_by, step_event}
use Rattle.overlay_machine.specs.Step.{case_of}
use Rattle.overlay_machine.specs.Link.{Link, IsTrusted, IsStackCell, ranges_of}
use Rattle.overlay_machine.specs.Linked.{IsLink}
use Rattle.overlay_machine.specs.Safe.{IsSafe}
use Rattle.overlay_machine.specs.Invariant.{PcPart, at_fail, at_row, outside, Invariant}
use Rattle.overlay_machine.proofs.Offers.{entry_kind, listed_at, found_is, any_is, position_is}
use Rattle.run_lines.specs.Views.{flat_view}
use Rattle.run_lines.specs.Pairs.{pairs_of, own_pairs_of, PassesAreOwn}
use Rattle.run_lines.proofs.OwnPairs.{pairs_are_own}
use Rattle.run_lines.proofs.fit.NamesFit.{position_of}

-- ---- where an entry is told

-- a trusted owner has an entry at pc
pub record Told (l : Layout) (q : OState) : Type 0 where
  pub owner : Owner
  pub listed : Contains l.owners owner
  pub trusted : owner.trusted ≡ true
  pub number : ℕ
  pub number_is : entry_number owner (faces look q.maps Pc) ≡ Some number

abbrev IsEntered : Option Event → Type 0
IsEntered e = (part k : ℕ) × (back : Back) × (e ≡ Some (Entered part k back))

called_no : (b : Bool) (fs : List OpenFrame) → IsEntered (called_event b fs) → ⊥
called_no b [] h = let bad = h.3 in cc
called_no b (f ∷ fs) h = let bad = h.3 in cc

left_no : (b : Bool) (part : ℕ) → IsEntered (if b then None else Some (Left part)) → ⊥
left_no true part h = let bad = h.3 in cc
left_no false part h = let bad = h.3 in cc

entered_told : (l : Layout) (q : OState) (p : Owner) → Contains l.owners p → p.trusted ≡ true
    → IsEntered (entered_event l q p) → Told l q
entered_told l q p m t h = by (entry_number p (faces look q.maps Pc)) refl h
  where
    by : (n : Option ℕ) → entry_number p (faces look q.maps Pc) ≡ n
        → IsEntered (option_map (λ k. Entered p.part k
        (back_of l (shown_word l q Rcode) (shown_word l q Rdata))) n)
        → Told l q
    by None e x = absurd (let bad = x.3 in cc)
    by (Some k) e x = record { owner = p; listed = m; trusted = t; number = k; number_is = e }

jumped_told : (l : Layout) (q : OState) (from : Option ℕ) (seal : ℕ) → IsEntered (jumped l q from seal)
    → Told l q
jumped_told l q (Some part) seal h = absurd (left_no (is_some (owner_now l q)) part h)
jumped_told l q None seal h = by (closure_owner l seal) refl h
  where
    by : (o : Option Owner) → closure_owner l seal ≡ o → IsEntered (option_and_then (entered_event l q) o)
        → Told l q
    by None e x = absurd (let bad = x.3 in cc)
    by (Some p) e x =
        let f = found_is (λ (o : Owner). o.trusted && (o.closure == seal)) l.owners p e in
        entered_told l q p f.0 (and_parts p.trusted (p.closure == seal) f.1).0 x

noted_told : (l : Layout) (q : OState) (n : StepNote) → IsEntered (event_after l n q) → Told l q
noted_told l q Nothing h = absurd (let bad = h.3 in cc)
noted_told l q Calls h = absurd (called_no (is_some (owner_now l q)) q.frames h)
noted_told l q (Returns t f) h = absurd (let bad = h.3 in cc)
noted_told l q (Jumps from seal) h = jumped_told l q from seal h

step_told : (l : Layout) (o q : OState) → IsEntered (step_event l o q) → Told l q
unfolding step_event
step_told l o q h = noted_told l q (note_by l o (case_of l o.maps)) h

-- ---- pc is at the first word of an entry

-- so many entries are at the address
entry_there : (l : Layout) (o : Owner) → Contains l.owners o → o.trusted ≡ true → (k a : ℕ)
    → number_of (λ (e : Entry). e.at == a) o.entries ≡ Some k → has_entry_at l a ≡ true
entry_there l o m t k a n =
    let here : Entry → Bool = λ e. e.at == a in
    let p = position_is here o.entries k (position_of here o.entries k n) in
    let inner : list_any here o.entries ≡ true =
    any_is here o.entries p.0 (listed_at o.entries k p.0 p.1) p.2 in
    any_is (λ (x : Owner). x.trusted && list_any (λ (e : Entry). e.at == a) x.entries) l.owners o m
    (rw (t, inner) refl)

-- at which pc stands, where its face is this capability
stood : (l : Layout) (q : OState) (told : Told l q) (c : CapFields) (n : ℕ) → look q.maps.regs.pc ≡ Mem c
    → c.addr ≡ pos n → has_entry_at l n ≡ true
unfolding faces
stood l q told c n pc at =
    by (covers c c.addr) (sym (ap (λ w. entry_number told.owner (face_of w)) pc) ∙ told.number_is)
  where
    by : (b : Bool) → option_and_then (λ a. number_of (λ (e : Entry). e.at == a) told.owner.entries)
        (if b then Some (address c.addr) else None) ≡ Some told.number → has_entry_at l n ≡ true
    by true e =
        entry_there l told.owner told.listed told.trusted told.number n
        (ap (λ z. number_of (λ (x : Entry). x.at == address z) told.owner.entries) (sym at) ∙ e)
    by false e = absurd cc

-- ---- the registers

-- no `fail` stands at the first word of an entry
number_fail : number_is Fail ≡ 0
unfolding number_is
number_fail = refl

number_move : number_is (Move T2 (InReg Pc)) ≡ 394
unfolding number_is
number_move = refl

first_of : (fail at base : ℕ) → slice_get (entry_code fail at base) 0 ≡ Some (Move T2 (InReg Pc))
unfolding entry_code
first_of fail at base = refl

two_first : (ws : List Word) (o fail at base : ℕ) → CodeStands ws o (Fail ∷ [])
    → CodeStands ws o (entry_code fail at base) → ⊥
two_first ws o fail at base f e =
    let word : ℕ → Option Word = λ n. Some (Int (pos n)) in
    let a : slice_get ws (o + 0) ≡ word 0 = f 0 Fail refl ∙ ap word number_fail in
    let b : slice_get ws (o + 0) ≡ word 394 =
    e 0 (Move T2 (InReg Pc)) (first_of fail at base) ∙ ap word number_move in
    let bad : Some (Int (pos 0)) ≡ Some (Int (pos 394)) = sym a ∙ b in
    cc

-- the argument registers
data Arg : Type 0 where
  arg0 : Arg
  arg1 : Arg
  arg2 : Arg
  arg3 : Arg

abbrev arg : Arg → Reg
arg arg0 = A0
arg arg1 = A1
arg arg2 = A2
arg arg3 = A3

module _ (g : Link) (linked : IsLink g) (q : OState) (t : State Word) (inv : Invariant g q t)
    (told : Told g.layout q) where
  begins : (p : PartSeen) (o : ℕ) → IsTrusted g p → o < length p.component.code
      → look q.maps.regs.pc ≡ Mem (code_at (ranges_of p) o) → begins_entry p.component o ≡ true
  begins p o ip lt pc =
      sym (linked.entry_found p o ip lt)
      ∙ stood g.layout q told (code_at (ranges_of p) o) (p.component.code_base + o) pc refl

  -- a register holds a word of its kind in a row
  abbrev Fits : PartSeen → Row → Reg → Type 0
  Fits p row r =
      HasKind look (IsSafe g q.frames) (IsStackCell g q.frames) (ranges_of p) (kind_of row r)
      (reg q.maps.regs r)

  by_kind : (p : PartSeen) (row : Row) (r : Arg) → row ≡ entry_row → Fits p row (arg r)
      → IsSafe g q.frames (reg q.maps.regs (arg r))
  unfolding kind_of
  by_kind p row arg0 e h = subst (λ x. Fits p x A0) e h
  by_kind p row arg1 e h = subst (λ x. Fits p x A1) e h
  by_kind p row arg2 e h = subst (λ x. Fits p x A2) e h
  by_kind p row arg3 e h = subst (λ x. Fits p x A3) e h

  no_pc : (r : Arg) → is_pc (arg r) ≡ false
  no_pc arg0 = refl
  no_pc arg1 = refl
  no_pc arg2 = refl
  no_pc arg3 = refl

  by_part : PcPart g q.frames q.maps.regs → (r : Arg) → IsSafe g q.frames (reg q.maps.regs (arg r))
  by_part (outside h) r = h (arg r)
  by_part (at_row p o ip st) r =
      by_kind p st.there r (entry_kind p o st.there (begins p o ip st.inside st.at_pc) st.row)
      (st.fits.each (arg r) (no_pc r))
  by_part (at_fail p o ip e pc) r =
      let f = linked.fails p o ip e in
      let en = linked.entries p o ip (begins p o ip f.0 pc) in
      absurd (two_first p.component.code o en.stands.fail o p.component.stack_base f.1 en.stands.entry)

  args_safe : (r : Arg) → IsSafe g q.frames (reg q.maps.regs (arg r))
  args_safe = by_part inv.pc

  pub own : pairs_of g.layout (flat_view g.layout q) ≡ own_pairs_of g.layout q
  own =
      let p = pairs_of g.layout (flat_view g.layout q) in
      let o = own_pairs_of g.layout q in
      let rs = q.maps.regs in
      let p0 : p.p0 ≡ o.p0 = pairs_are_own g q rs.a0 rs.a1 linked (args_safe arg0) (args_safe arg1) in
      let p1 : p.p1 ≡ o.p1 = pairs_are_own g q rs.a1 rs.a2 linked (args_safe arg1) (args_safe arg2) in
      let p2 : p.p2 ≡ o.p2 = pairs_are_own g q rs.a2 rs.a3 linked (args_safe arg2) (args_safe arg3) in
      ap (λ x. record p { p0 = x }) p0 ∙ ap (λ x. record p { p0 = o.p0; p1 = x }) p1
      ∙ ap (λ x. record o { p2 = x }) p2

pub passes_are_own : PassesAreOwn
passes_are_own g o q t part k back linked inv e =
    own g linked q t inv (step_told g.layout o q (part, k, back, e))
