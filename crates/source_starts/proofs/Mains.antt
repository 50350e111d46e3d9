-- Where a linked start of sources begins: in the modules' shared main with the whole stack, or outside.
use Rattle.std.proofs.Common.{◌≡◌, ◌≢◌, inl, inr, ℕ, ◌+◌, ◌-◌, ◌<◌, ◌≤◌, pos, Bool, true, false, List, []}
use Rattle.std.proofs.Common.{◌∷◌, map, take, find, codes, Option, Some, None, refl, sym, ap, ◌∙◌, subst}
use Rattle.std.proofs.Common.{arith}
use Rattle.std.specs.Prelude.{slice_get, position, option_map, ◌==◌, ◌&&◌, not, is_some, if◌then◌else◌}
use Rattle.std.specs.List.{list_any}
use Rattle.std.proofs.lemmas.Bool.{and_parts, cases_lt}
use Rattle.std.proofs.lemmas.Option.{slice_get_within, slice_get-map}
use Rattle.std.proofs.lemmas.Bool.Decides.{nat_tests}
use Rattle.std.specs.Str.{bytes_eq}
use Rattle.cap_words.specs.declared.Word.{Word}
use Rattle.cap_words.specs.declared.Word.TheVariants.{Int, Mem}
use Rattle.cap_words.specs.declared.CapFields.{CapFields}
use Rattle.cap_words.specs.declared.Perm.TheVariants.{Rx, Rwx}
use Rattle.component_file.specs.declared.component.Export.{Export}
use Rattle.lcm_isa.specs.declared.Reg.{Reg}
use Rattle.lcm_isa.specs.declared.Reg.TheVariants.{Pc, Rcode, Rdata, Stk, Dat, T1, T2, C1, C2, A0, A1, A2, A3}
use Rattle.lcm_isa.specs.declared.Reg.TheVariants.{G0, G1, G2}
use Rattle.lcm_machine.specs.declared.cells.Span.{Span}
use Rattle.lcm_machine.specs.Maps.{Regs}
use Rattle.lcm_machine.specs.Places.{reg}
use Rattle.call_sequence.specs.Holds.{code_at, data_cap, PcAt}
use Rattle.linked_starts.specs.Parts.{PartSeen}
use Rattle.linked_starts.specs.Regions.{addresses, span_of, stack_span, is_stack_size}
use Rattle.linked_starts.specs.Pairs.{NoneIsBroken, at_each, passes, once}
use Rattle.linked_starts.specs.Links.{rules_l, l6, has_main}
use Rattle.linked_starts.specs.Start.{Exported, is_main, same_name, main_of, export_that, code_of}
use Rattle.linked_starts.specs.Start.{start_regs, stack_base_of, stack_of, whole_stack_cap}
use Rattle.linked_starts.specs.Started.{StartSeen}
use Rattle.linked_starts.proofs.Offers.{in_part, stack_fits, slice_get-take, given, IsExport}
use Rattle.linked_starts.proofs.Offers.{main_is_there}
use Rattle.linked_starts.specs.LinkedStarts.{IsLinkedStart}
use Rattle.overlay_machine.specs.declared.words.OWord.TheVariants.{Plain}
use Rattle.overlay_machine.specs.Words.{look}
use Rattle.overlay_machine.specs.State.{OState}
use Rattle.overlay_machine.specs.Step.{own_stack}
use Rattle.overlay_machine.specs.Link.{Link, IsTrusted, ranges_of}
use Rattle.overlay_machine.specs.Linked.{IsLink}
use Rattle.overlay_machine.specs.Safe.{IsSafe}
use Rattle.overlay_machine.specs.Invariant.{Invariant, PcPart, at_fail, at_row, outside}
use Rattle.overlay_machine.specs.Starting.{overlay_at}
use Rattle.overlay_machine.proofs.Offers.{own_from, listed_at, index_of, any_is, any_of, found_is}
use Rattle.overlay_machine.proofs.Offers.{position_is, is_overlay, stack_safe, stack_order}
use Rattle.overlay_machine.proofs.Offers.{crossing_code_is as code_is}
use Rattle.proc_language.specs.declared.module.ModuleFields.{ModuleFields}
use Rattle.proc_language.specs.Limits.{Each, IsModule}
use Rattle.proc_names.specs.NameFaults.{name_faults}
use Rattle.proc_program.specs.declared.program.Program.{Program}
use Rattle.proc_program.specs.declared.program.Procedure.{Procedure}
use Rattle.proc_program.specs.Lower.{part_of}
use Rattle.proc_semantics.specs.declared.value.Target.{Target}
use Rattle.proc_semantics.specs.Values as meaning
use Rattle.proc_semantics.specs.Values.{World, target, home_part, shared_at, shared_in, is_shared}
use Rattle.template_runs.specs.Public.{IsPublic}
use Rattle.template_runs.proofs.Offers.{Valid, At, Out}
use Rattle.source_starts.specs.Sources.{trusted_parts}
use Rattle.source_starts.proofs.Worlds.{Aligned, Home, home_of, part_of_home, one_home, same_names}
use Rattle.source_starts.proofs.Worlds.{names_same, position_at, position_none}
use Rattle.source_starts.proofs.StartWords.{the_link, apart, starts_private}
use Rattle.source_starts.proofs.Targets.{BeginsAt, part_here, shared_found, proc_of, export_of}

abbrev Main : List ℕ
Main = codes "main"

-- ---- one part has a shared main

pub one_main : (parts : List PartSeen) (size : ℕ) → NoneIsBroken (rules_l parts size)
    → (k n : ℕ) (p q : PartSeen)
    → k < n → slice_get parts k ≡ Some p → slice_get parts n ≡ Some q → has_main p ≡ true → has_main q ≡ true
    → ⊥
unfolding l6
one_main parts size h k n p q lt at_p at_q mp mq =
    let e = any_of is_main q.component.exports mq in
    let i = index_of q.component.exports e.0 e.1 in
    let wn = slice_get_within parts n q at_q in
    let earlier : list_any has_main (take n parts) ≡ true =
    any_is has_main (take n parts) p (listed_at (take n parts) k p (slice_get-take parts n k lt ∙ at_p)) mp in
    let test = λ (e : Export). (is_main e && list_any has_main (take n parts)) in
    let none : passes test (slice_get q.component.exports i.0) ≡ false =
    in_part parts (λ j r. at_each r.component.exports (λ e. is_main e && list_any has_main (take j parts)))
    (once (not (list_any has_main parts)) 0) n q i.0 at_q
    (λ b. h 6 n i.0 (l6 parts) refl (omega (arith, wn), b))
    (slice_get_within q.component.exports i.0 e.0 i.1) in
    let holds : passes test (slice_get q.component.exports i.0) ≡ true = ap (passes test) i.1
    ∙ rw (e.2, earlier) refl in
    let bad : true ≡ false = sym holds ∙ none in cc

given_main : (parts : List PartSeen) (x : Exported) → main_of parts ≡ Some x → is_main x.export ≡ true
given_main parts x e =
    let g = given (export_that is_main) parts x e in
    by (find is_main g.item.component.exports) refl g.item g.is
  where
    by : (o : Option Export) → o ≡ o → (p : PartSeen) → export_that is_main p ≡ Some x
        → is_main x.export ≡ true
    by o r p h = by_find (find is_main p.component.exports) refl h
      where
        by_find : (o : Option Export) → find is_main p.component.exports ≡ o
            → option_map (λ (e : Export). record { part = p; export = e }) o ≡ Some x
            → is_main x.export ≡ true
        by_find None f h = cc
        by_find (Some e) f h =
            let k = found_is is_main p.component.exports e f in
            let s : record { part = p; export = e } ≡ x = cc in
            subst (λ (y : Exported). is_main y.export ≡ true) s k.1

stack_is : (parts : List PartSeen) (size : ℕ) (stack : Span) → stack_span parts size ≡ Some stack
    → addresses (stack_base_of parts) size ≡ stack
stack_is [] size stack e = absurd cc
stack_is (p ∷ ps) size stack e = by_size (is_stack_size size) e
  where
    by_count : (b : Bool) → (if b then None else Some (addresses p.component.stack_base size)) ≡ Some stack
        → addresses p.component.stack_base size ≡ stack
    by_count true f = absurd cc
    by_count false f = let g : addresses p.component.stack_base size ≡ stack = cc in g

    by_size : (b : Bool) → (if b then span_of p.component.stack_base size else None) ≡ Some stack
        → addresses p.component.stack_base size ≡ stack
    by_size true f = by_count (size == 0) f
    by_size false f = absurd cc

module _ (modules : List ModuleFields) (parts : List PartSeen) (size : ℕ) (s : StartSeen)
    (is : IsLinkedStart parts size s) (aligned : Aligned modules (trusted_parts parts))
    (limits : Each IsModule modules) (resolved : Each (λ m. name_faults m ≡ []) modules)
    (linked : IsLink (the_link parts size s is))
    (holds : Invariant (the_link parts size s is) (overlay_at s).state s.state.maps) where
  abbrev pub G : Link
  G = the_link parts size s is

  abbrev pub W : World
  W = map part_of modules

  abbrev pub O : OState
  O = (overlay_at s).state

  abbrev pub Entry : Exported
  Entry = is.starts.state.main

  reg_is : (r : Reg) → reg O.maps.regs r ≡ Plain (reg (start_regs parts size is.starts.state.main) r)
  reg_is r = (is_overlay parts size s is).regs r
      ∙ ap (λ (rs : Regs Word). Plain (reg rs r)) is.starts.state.regs

  pub valid : Valid G linked O
  valid = record {
    plain = s.state.maps;
    holds = holds;
    private = starts_private parts size s is linked holds;
  }

  -- ---- registers

  pub rcode_zero : O.maps.regs.rcode ≡ Plain (Int (pos 0))
  unfolding start_regs
  rcode_zero = reg_is Rcode

  pub rdata_zero : O.maps.regs.rdata ≡ Plain (Int (pos 0))
  unfolding start_regs
  rdata_zero = reg_is Rdata

  pub a0_zero : O.maps.regs.a0 ≡ Plain (Int (pos 0))
  unfolding start_regs
  a0_zero = reg_is A0

  pub a1_zero : O.maps.regs.a1 ≡ Plain (Int (pos 0))
  unfolding start_regs
  a1_zero = reg_is A1

  pub a2_zero : O.maps.regs.a2 ≡ Plain (Int (pos 0))
  unfolding start_regs
  a2_zero = reg_is A2

  pub a3_zero : O.maps.regs.a3 ≡ Plain (Int (pos 0))
  unfolding start_regs
  a3_zero = reg_is A3

  the_stack : stack_of (stack_base_of parts) size ≡ whole_stack_cap s.stack
  the_stack = ap whole_stack_cap (stack_is parts size s.stack is.starts.stack)

  stk_is : O.maps.regs.stk ≡ Plain (Mem (whole_stack_cap s.stack))
  unfolding start_regs
  stk_is = reg_is Stk ∙ ap (λ c. Plain (Mem c)) the_stack

  pub stk_safe : IsSafe G O.frames O.maps.regs.stk
  stk_safe = subst (IsSafe G []) (sym stk_is) (stack_safe G linked.parts (stack_order G linked))

  pub whole_stack : option_map (λ (c : CapFields). c.end + 1 - c.base) (own_stack G.layout O.maps) ≡ Some size
  whole_stack =
      let own = own_from G.layout O.maps _ (ap look stk_is) refl refl refl in
      let fits = and_parts (is_stack_size size) _ (stack_fits parts size is.rules) in
      let some : 1 ≤ size = some_size fits.0 in
      let e = stack_is parts size s.stack is.starts.stack in
      let z : stack_base_of parts + size - 1 + 1 - stack_base_of parts ≡ size = omega (arith, some) in
      ap (option_map (λ (c : CapFields). c.end + 1 - c.base)) own
      ∙ ap Some (sym (ap (λ (t : Span). t.end + 1 - t.base) e) ∙ z)
    where
      some_size : is_stack_size size ≡ true → 1 ≤ size
      some_size e = grind (arith, nat_tests)

  -- ---- in which part

  export_main : is_main Entry.export ≡ true
  export_main = given_main parts Entry is.starts.state.main_is

  there : IsExport parts Entry
  there = main_is_there parts Entry is.starts.state.main_is

  has_it : has_main Entry.part ≡ true
  has_it = any_is is_main Entry.part.component.exports Entry.export there.listed export_main

  -- a module with a shared main
  module_main : (i : ℕ) (p : PartSeen) (h : Home modules parts i p)
      → meaning.has_main (part_of h.source) ≡ true
      → has_main p ≡ true
  module_main i p h e = by (position (is_shared Main) (part_of h.source).procs) refl e
    where
      by : (o : Option ℕ) → position (is_shared Main) (part_of h.source).procs ≡ o → is_some o ≡ true
          → has_main p ≡ true
      by None f t = cc
      by (Some j) f t =
          let q = position_is (is_shared Main) (part_of h.source).procs j f in
          let x = export_of modules parts aligned (apart parts size s is) resolved i p h j q.0 q.1 in
          let b = and_parts (q.0).shared (bytes_eq Main (q.0).name) q.2 in
          let n = same_names Main (q.0).name b.1 in
          any_is is_main p.component.exports _ (listed_at p.component.exports x.0 _ x.1)
          (rw b.0 (ap (λ a. same_name a Main) (sym n) ∙ names_same Main))

  no_other : (i : ℕ) (p : PartSeen) (h : Home modules parts i p) → h.number ≢ there.index
      → meaning.has_main (part_of h.source) ≡ false
  no_other i p h ne = by (meaning.has_main (part_of h.source)) refl
    where
      by : (b : Bool) → meaning.has_main (part_of h.source) ≡ b → b ≡ false
      by false e = refl
      by true e =
          let m = module_main i p h e in
          elim (cases_lt h.number there.index) as (λ _. true ≡ false) [
            | inl lt ↦ absurd (one_main parts size is.rules h.number there.index p Entry.part lt h.number_is
                there.at m has_it)
            | inr ge ↦ absurd (one_main parts size is.rules there.index h.number Entry.part p
                (omega (arith, ge, ne)) there.at h.number_is has_it m)
          ]

  -- of a module whose part isn't that of main
  none_at : (k : ℕ) (v : Program) → slice_get W k ≡ Some v
      → ((p : PartSeen) (h : Home modules parts k p) → h.number ≢ there.index) → meaning.has_main v ≡ false
  none_at k v at ne = by (slice_get modules k) refl (sym (slice_get-map part_of modules k) ∙ at)
    where
      by : (o : Option ModuleFields) → slice_get modules k ≡ o → option_map part_of o ≡ Some v
          → meaning.has_main v ≡ false
      by None e f = cc
      by (Some m) e f =
          let q = part_of_home modules parts aligned k m e in
          let a : Some q.1.source ≡ Some m = sym q.1.source_is ∙ e in
          let b : q.1.source ≡ m = cc in
          let c : part_of m ≡ v = cc in
          ap meaning.has_main (sym (ap part_of b ∙ c)) ∙ no_other k q.0 q.1 (ne q.0 q.1)

  main_part : (k : ℕ) (p : PartSeen) (h : Home modules parts k p) → h.number ≡ there.index → p ≡ Entry.part
  main_part k p h e = let a : Some p ≡ Some Entry.part = sym h.number_is ∙ ap (slice_get parts) e
      ∙ there.at in cc

  -- main is a module's
  pub record InMain : Type 0 where
    pub to : Target
    pub part : PartSeen
    pub entry : ℕ
    pub main : meaning.main_target W ≡ Some to
    pub begins : BeginsAt modules parts to part entry
    pub at : At G linked part entry O
    pub dat : look O.maps.regs.dat ≡ Mem (data_cap (ranges_of part) (pos part.component.data_base))

  in_main : Entry.part.trusted ≡ true → InMain
  unfolding meaning.main_target start_regs
  in_main t =
      let p = Entry.part in
      let n = home_of modules parts aligned there.index p there.at t in
      let i = n.0 in
      let h = n.1 in
      let x = proc_of modules parts aligned (apart parts size s is) resolved i p h Entry.export
      there.listed in
      let b = and_parts Entry.export.shared (same_name Entry.export.name Main) export_main in
      let sh : x.proc.shared ≡ true = sym x.shared ∙ b.0 in
      let nm : Main ≡ x.proc.name = sym (same_names Entry.export.name Main b.1) ∙ x.name in
      let found = shared_found modules parts aligned (apart parts size s is) resolved i p h x.index x.proc
      Main x.at sh nm in
      let ip : IsTrusted G p = (listed_at parts there.index p there.at, t) in
      record {
        to = target i x.index;
        part = p;
        entry = Entry.export.offset;
        main = ap (shared_at W Main) (position_at meaning.has_main W i (part_of h.source)
            (part_here modules parts aligned (apart parts size s is) resolved i p h)
            (has i p h x.index x.proc Main found)
            (before i h)) ∙ found;
        begins = record { home = h; what = x.proc; what_is = x.at; offset = x.offset };
        at = record { trusted = ip; pc = ap look (reg_is Pc) ∙ ap Mem (code_is Entry t) };
        dat = ap look (reg_is Dat);
      }
    where
      has : (i : ℕ) (p : PartSeen) (h : Home modules parts i p) (j : ℕ) (q : Procedure) (name : List ℕ)
          → shared_in i name (home_part W i) ≡ Some (target i j)
          → is_some (position (is_shared name) (part_of h.source).procs) ≡ true
      has i p h j q name f =
          by (position (is_shared name) (part_of h.source).procs)
          (sym (ap (shared_in i name)
          (part_here modules parts aligned (apart parts size s is) resolved i p h)) ∙ f)
        where
          by : (o : Option ℕ) → option_map (target i) o ≡ Some (target i j) → is_some o ≡ true
          by None e = cc
          by (Some k) e = refl

      before : (i : ℕ) (h : Home modules parts i Entry.part) (k : ℕ) (u : Program) → k < i
          → slice_get W k ≡ Some u
          → meaning.has_main u ≡ false
      before i h k u lt at = none_at k u at (λ q g e. (
          let a = one_home modules parts (apart parts size s is) k i Entry.part
          (subst (Home modules parts k) (main_part k q g e) g) h in
          omega (arith, a, lt)))

  -- or of an untrusted part
  out_main : Entry.part.trusted ≡ false → meaning.main_target W ≡ None
  unfolding meaning.main_target
  out_main u = ap (shared_at W Main) (position_none meaning.has_main W (λ k v at. none_at k v at (λ p h e. (
      let a = main_part k p h e in
      let bad : true ≡ false = sym h.trusted ∙ ap (λ (x : PartSeen). x.trusted) a ∙ u in cc))))

  shown_regs : Entry.part.trusted ≡ false → (r : Reg) → IsSafe G O.frames (reg O.maps.regs r)
  unfolding start_regs
  shown_regs u = by holds.pc
    where
      no_pc : (p : PartSeen) (k : ℕ) → PcAt look (ranges_of p) k O.maps.regs → ⊥
      no_pc p k e =
          let a : Mem (code_of Entry) ≡ Mem (code_at (ranges_of p) k) = sym (ap look (reg_is Pc)) ∙ e in
          let b : code_of Entry ≡ code_at (ranges_of p) k = cc in
          let c : (if Entry.part.trusted then Rx else Rwx) ≡ Rx = ap (λ (c : CapFields). c.perm) b in
          let bad : Rwx ≡ Rx = ap (λ b. if b then Rx else Rwx) (sym u) ∙ c in cc

      by : PcPart G O.frames O.maps.regs → (r : Reg) → IsSafe G O.frames (reg O.maps.regs r)
      by (at_fail p k ip f h) = absurd (no_pc p k h)
      by (at_row p k ip st) = absurd (no_pc p k st.at_pc)
      by (outside h) = h

  public_regs : (r : Reg) → IsPublic G (reg O.maps.regs r)
  unfolding start_regs
  public_regs r = subst (IsPublic G) (sym (reg_is r)) (by r)
    where
      by : (r : Reg) → IsPublic G (Plain (reg (start_regs parts size is.starts.state.main) r))
      by Pc p k ip e = cc
      by Dat p k ip e = cc
      by Stk p k ip e = cc
      by Rcode p k ip e = cc
      by Rdata p k ip e = cc
      by T1 p k ip e = cc
      by T2 p k ip e = cc
      by C1 p k ip e = cc
      by C2 p k ip e = cc
      by A0 p k ip e = cc
      by A1 p k ip e = cc
      by A2 p k ip e = cc
      by A3 p k ip e = cc
      by G0 p k ip e = cc
      by G1 p k ip e = cc
      by G2 p k ip e = cc

  out_there : Entry.part.trusted ≡ false → Out G linked O
  out_there u = record { valid = valid; safe = λ r. (shown_regs u r, public_regs r) }

  -- the start begins in main or outside
  pub data Beginning : Type 0 where
    inside : InMain → Beginning
    beyond : meaning.main_target W ≡ None → Out G linked O → Beginning

  pub begins : Beginning
  begins = by Entry.part.trusted refl
    where
      by : (b : Bool) → Entry.part.trusted ≡ b → Beginning
      by true t = inside (in_main t)
      by false u = beyond (out_main u) (out_there u)
