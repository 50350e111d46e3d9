-- The invariant holds of the overlay of a linked start, with the start's own registers and cells.
use Rattle.std.proofs.Common.{◌≡◌, inl, ℕ, ◌+◌, ◌≤◌, Bool, true, false, pos, List, [], Option, Some, None}
use Rattle.std.proofs.Common.{refl, sym, ap, subst, ◌∙◌, arith}
use Rattle.std.specs.Prelude.{slice_get, option_map, ◌&&◌, not, is_some, if◌then◌else◌}
use Rattle.std.specs.List.{Contains}
use Rattle.trusted_border.specs.declared.layout.Layout.{Layout}
use Rattle.overlay_machine.proofs.FlatLemmas.{flat-plain}
use Rattle.cap_words.specs.declared.Word.{Word}
use Rattle.cap_words.specs.declared.Word.TheVariants.{Mem}
use Rattle.cap_words.specs.declared.Perm.TheVariants.{Rx, Rwx}
use Rattle.lcm_isa.specs.declared.Reg.{Reg}
use Rattle.lcm_isa.specs.declared.Reg.TheVariants.{Pc, Rcode, Rdata, Stk, Dat, T1, T2, C1, C2, A0, A1, A2, A3}
use Rattle.lcm_isa.specs.declared.Reg.TheVariants.{G0, G1, G2}
use Rattle.lcm_machine.specs.declared.Place.{Place}
use Rattle.lcm_machine.specs.declared.Place.TheVariants.{R, Cell}
use Rattle.lcm_machine.specs.Maps.{Regs}
use Rattle.lcm_machine.specs.Places.{reg}
use Rattle.lcm_machine.specs.Cells.{cell}
use Rattle.lcm_machine.specs.Row.{word_at}
use Rattle.lcm_machine.specs.Regions.{Region}
use Rattle.lcm_machine.specs.Table.{is_pc}
use Rattle.lcm_machine.specs.Mapped.{mapped_or}
use Rattle.call_sequence.specs.Kinds.{kind_of, entry_row}
use Rattle.call_sequence.specs.Holds.{HasKind, code_at}
use Rattle.linked_starts.specs.Parts.{PartSeen, IsPart}
use Rattle.linked_starts.specs.Regions.{regions_of, region, in_regions, stack_span}
use Rattle.linked_starts.specs.Start.{code_of, whole_stack_cap, stack_of, stack_base_of, start_cell}
use Rattle.linked_starts.specs.Start.{start_regs}
use Rattle.linked_starts.specs.Started.{StartSeen}
use Rattle.linked_starts.specs.Answer.{LinksTo}
use Rattle.linked_starts.specs.Linked as making
use Rattle.linked_starts.proofs.Offers.{are_linked, SitesStand, EntriesStand, stack_region_of, stack_is}
use Rattle.linked_starts.proofs.Offers.{IsExport, main_is_there, cell_in_region, region_has_cell}
use Rattle.overlay_machine.specs.declared.words.OWord.{OWord}
use Rattle.overlay_machine.specs.declared.words.OWord.TheVariants.{Plain}
use Rattle.overlay_machine.specs.Words.{look}
use Rattle.overlay_machine.specs.State.{OpenFrame, framed}
use Rattle.overlay_machine.specs.Flat.{flat, beside, IsFlat}
use Rattle.overlay_machine.specs.Seen.{OverlaySeen, IsOverlayOf}
use Rattle.overlay_machine.specs.Link.{Link, IsTrusted, IsUntrusted, ranges_of, IsOpenAt, IsStackCell}
use Rattle.overlay_machine.specs.Link.{has_cell, CodeIn, stack_region}
use Rattle.overlay_machine.specs.Safe.{IsSafe, IsMet}
use Rattle.overlay_machine.specs.Linked.{IsLink}
use Rattle.overlay_machine.specs.Invariant.{PcPart, at_row, outside, FramesLie, Invariant}
use Rattle.overlay_machine.specs.Starting.{StartsBegin}
use Rattle.overlay_machine.proofs.starts.ListFacts.{listed_at, index_of, first_is}
use Rattle.overlay_machine.proofs.starts.OneOverlay.{start_word_is}
use Rattle.overlay_machine.proofs.starts.Linking.{links_of}
use Rattle.overlay_machine.proofs.starts.PartFacts.{export_begins, export_within}
use Rattle.overlay_machine.proofs.starts.LinkedFacts.{linked}
use Rattle.overlay_machine.proofs.starts.StartSafe.{code_safe, data_safe, stack_safe, cell_safe}

-- ---- words of a plain state, in an overlay with no frame

beside_none : (l : Layout) (a : ℕ) → beside l [] a ≡ None
unfolding beside
beside_none l a = refl

-- a word that is there as a plain one is met
met_plain : (g : Link) (fs : List OpenFrame) (x : Option Word) (w : OWord) → option_map Plain x ≡ Some w
    → IsMet g fs w
met_plain g fs None w e = absurd cc
met_plain g fs (Some x) w e = let is : Plain x ≡ w = cc in subst (IsMet g fs) is tt

word_of_plain : (x : Option Word) (w : OWord) → option_map Plain x ≡ Some w
    → (v : Word) × (x ≡ Some v) × (w ≡ Plain v)
word_of_plain None w e = absurd cc
word_of_plain (Some v) w e = (v, refl, (let is : Plain v ≡ w = cc in sym is))

-- ---- the overlay of a start

module _ (site_words : SitesStand) (entry_words : EntriesStand) (parts : List PartSeen) (size : ℕ)
    (s : StartSeen) (o : OverlaySeen) (each : (k : ℕ) (p : PartSeen) → slice_get parts k ≡ Some p → IsPart p)
    (link : LinksTo parts size s) (over : IsOverlayOf s o) where
  abbrev g : Link
  g = record { parts = parts; size = size; layout = o.layout }

  made : making.Linked parts size
  made = are_linked parts size each link.rules

  pub start_linked : IsLink (record { parts = parts; size = size; layout = o.layout })
  start_linked =
      linked site_words entry_words parts size s o.layout each link over.sites over.owners over.stack

  -- ---- cells

  -- the overlay has the start's cells
  cell_plain : (a : ℕ) → cell o.state.maps.cells a ≡ option_map Plain (cell s.state.maps.cells a)
  cell_plain a =
      over.cells a
      ∙ start_word_is parts size s
      (record { accepted = each; room = link.room; rules = link.rules; starts = link.starts }) a

  start_cell_is : (a : ℕ) → cell o.state.maps.cells a ≡ option_map Plain (start_cell parts size a)
  start_cell_is a = cell_plain a ∙ ap (option_map Plain) (link.starts.state.cells a)

  -- ---- flat

  is_flat : IsFlat o.layout o.state s.state.maps
  is_flat = record {
    regs = λ r.
        sym (ap (flat o.layout o.state.frames) (over.regs r)
        ∙ flat-plain o.layout o.state.frames (reg s.state.maps.regs r));
    cells = flat_cell;
    spans = sym over.spans;
  }
    where
      by_cell : (a : ℕ) (x : Option Word)
          → x ≡ mapped_or (flat o.layout o.state.frames) (option_map Plain x)
          (beside o.layout o.state.frames a)
      by_cell a None = sym (ap (λ fs. beside o.layout fs a) over.frames ∙ beside_none o.layout a)
      by_cell a (Some w) = ap Some (sym (flat-plain o.layout o.state.frames w))

      flat_cell : (a : ℕ)
          → cell s.state.maps.cells a ≡ mapped_or (flat o.layout o.state.frames) (cell o.state.maps.cells a)
          (beside o.layout o.state.frames a)
      flat_cell a =
          by_cell a (cell s.state.maps.cells a)
          ∙ ap (λ x. mapped_or (flat o.layout o.state.frames) x (beside o.layout o.state.frames a))
          (sym (cell_plain a))

  -- ---- registers

  main_there : IsExport parts link.starts.state.main
  main_there = main_is_there parts link.starts.state.main link.starts.state.main_is

  reg_is : (r : Reg) → reg o.state.maps.regs r ≡ Plain (reg (start_regs parts size link.starts.state.main) r)
  reg_is r = over.regs r ∙ ap (λ (rs : Regs Word). Plain (reg rs r)) link.starts.state.regs

  -- the stack, as the start's stk has it
  stack_listed : Contains (region true (stack_span parts size)) (stack_region o.layout)
  stack_listed = subst (λ x. Contains (region true x) (stack_region o.layout)) (sym start_linked.stack)
      (first_is (stack_region o.layout) [])

  stack_cap_is : stack_of (stack_base_of parts) size ≡ whole_stack_cap o.layout.stack
  stack_cap_is = let is = stack_is parts size (stack_region o.layout) made.size_fits stack_listed in
      ap (λ (r : Region). whole_stack_cap (record { base = r.base; end = r.end })) is

  stack_order : o.layout.stack.base ≤ o.layout.stack.end
  stack_order =
      start_linked.filled (stack_region o.layout)
      (stack_region_of parts size (stack_region o.layout) stack_listed)

  stk_safe : IsSafe g [] (Plain (Mem (stack_of (stack_base_of parts) size)))
  stk_safe =
      subst (λ c. IsSafe g [] (Plain (Mem c))) (sym stack_cap_is)
      (stack_safe g start_linked.parts stack_order)

  -- main of an untrusted part
  regs_safe : IsUntrusted g link.starts.state.main.part → (r : Reg)
      → IsSafe g [] (Plain (reg (start_regs parts size link.starts.state.main) r))
  unfolding start_regs
  regs_safe u Pc = code_safe g start_linked.parts link.starts.state.main u
  regs_safe u Dat = data_safe g start_linked.parts link.starts.state.main.part u
  regs_safe u Stk = stk_safe
  regs_safe u Rcode = tt
  regs_safe u Rdata = tt
  regs_safe u T1 = tt
  regs_safe u T2 = tt
  regs_safe u C1 = tt
  regs_safe u C2 = tt
  regs_safe u A0 = tt
  regs_safe u A1 = tt
  regs_safe u A2 = tt
  regs_safe u A3 = tt
  regs_safe u G0 = tt
  regs_safe u G1 = tt
  regs_safe u G2 = tt

  -- main of a trusted part: the registers fit the row of an entry
  kinds_fit : (r : Reg) → is_pc r ≡ false
      → HasKind look (IsSafe g []) (IsStackCell g []) (ranges_of link.starts.state.main.part)
      (kind_of entry_row r) (Plain (reg (start_regs parts size link.starts.state.main) r))
  unfolding start_regs kind_of
  kinds_fit Pc e = absurd cc
  kinds_fit Dat e = (pos link.starts.state.main.part.component.data_base, refl)
  kinds_fit Stk e = stk_safe
  kinds_fit Rcode e = tt
  kinds_fit Rdata e = tt
  kinds_fit T1 e = tt
  kinds_fit T2 e = tt
  kinds_fit C1 e = tt
  kinds_fit C2 e = tt
  kinds_fit A0 e = tt
  kinds_fit A1 e = tt
  kinds_fit A2 e = tt
  kinds_fit A3 e = tt
  kinds_fit G0 e = tt
  kinds_fit G1 e = tt
  kinds_fit G2 e = tt

  pc_is : link.starts.state.main.part.trusted ≡ true
      → reg (start_regs parts size link.starts.state.main)
      Pc ≡ Mem (code_at (ranges_of link.starts.state.main.part) link.starts.state.main.export.offset)
  unfolding start_regs
  pc_is e = ap (λ b. Mem (record (code_of link.starts.state.main) { perm = if b then Rx else Rwx })) e

  pc_part : PcPart g [] o.state.maps.regs
  pc_part = by_mark link.starts.state.main.part.trusted refl
    where
      by_mark : (b : Bool) → link.starts.state.main.part.trusted ≡ b → PcPart g [] o.state.maps.regs
      by_mark false e =
          outside (λ r. subst (IsSafe g []) (sym (reg_is r))
          (regs_safe (listed_at parts main_there.index link.starts.state.main.part main_there.at, e) r))
      by_mark true e =
          let p = link.starts.state.main.part in
          let part = each main_there.index p main_there.at in
          let begins = export_begins p part e link.starts.state.main.export main_there.listed in
          at_row p link.starts.state.main.export.offset (listed_at parts main_there.index p main_there.at, e)
          (record {
            there = entry_row;
            inside = export_within p part e link.starts.state.main.export main_there.listed;
            at_pc = ap look (reg_is Pc) ∙ pc_is e;
            row = inl (begins, refl);
            fits = record {
              long = refl;
              each = λ r n.
                  subst (λ w. HasKind look (IsSafe g []) (IsStackCell g []) (ranges_of p)
                  (kind_of entry_row r) w) (sym (reg_is r)) (kinds_fit r n);
            };
          })

  -- ---- memory

  cells_there : (a : ℕ) → is_some (cell o.state.maps.cells a) ≡ has_cell g o.state.frames a
  cells_there a =
      ap is_some (start_cell_is a) ∙ same_some (start_cell parts size a)
      ∙ in_region (start_cell parts size a) refl (in_regions a (regions_of parts size)) refl
      ∙ ap (λ fs. in_regions a (regions_of parts size) && not (is_some (framed fs a))) (sym over.frames)
    where
      same_some : (x : Option Word) → is_some (option_map Plain x) ≡ is_some x
      same_some None = refl
      same_some (Some w) = refl

      in_region : (x : Option Word) → start_cell parts size a ≡ x → (b : Bool)
          → in_regions a (regions_of parts size) ≡ b
          → is_some (start_cell parts size a) ≡ (in_regions a (regions_of parts size) && true)
      in_region x e true t = region_has_cell parts size a t ∙ sym (ap (λ b. b && true) t)
      in_region None e false t = ap is_some e ∙ sym (ap (λ b. b && true) t)
      in_region (Some w) e false t =
          (let bad : true ≡ false = sym (cell_in_region parts size a w made.closed e) ∙ t in cc)

  code_there : (p : PartSeen) → IsTrusted g p → CodeIn p o.state.maps.cells
  code_there p t off w e =
      let k = index_of parts p t.0 in
      cell_plain (p.component.code_base + off) ∙ ap (option_map Plain) (link.code k.0 off p w k.1 e)

  cells_safe : (a : ℕ) (w : OWord) → IsOpenAt g a → cell o.state.maps.cells a ≡ Some w → IsSafe g [] w
  cells_safe a w open' e =
      let x = word_of_plain (start_cell parts size a) w (sym (start_cell_is a) ∙ e) in
      subst (IsSafe g []) (sym x.2) (cell_safe g start_linked.parts size a x.0 open' x.1)

  -- ---- all of it

  met_there : (place : Place) (w : OWord) → word_at o.state.maps place ≡ Some w → IsMet g o.state.frames w
  met_there (R r) w e = let is : Plain (reg s.state.maps.regs r) ≡ w =
      (let h : reg o.state.maps.regs r ≡ w = cc in sym (over.regs r) ∙ h) in subst (IsMet g o.state.frames)
      is tt
  met_there (Cell a) w e = met_plain g o.state.frames (cell s.state.maps.cells a) w (sym (cell_plain a) ∙ e)

  no_frame : (f : OpenFrame) → Contains o.state.frames f → ⊥
  no_frame f m = let n = subst (λ fs. Contains fs f) over.frames m in omega (arith, n.1)

  pub begins : Invariant (record { parts = parts; size = size; layout = o.layout }) o.state s.state.maps
  begins = record {
    flat = is_flat;
    pc = subst (λ fs. PcPart g fs o.state.maps.regs) (sym over.frames) pc_part;
    there = cells_there;
    code = code_there;
    cells = λ a w open' e. subst (λ fs. IsSafe g fs w) (sym over.frames) (cells_safe a w open' e);
    frames = subst (λ fs. FramesLie o.layout o.state.maps.cells o.state.calls fs) (sym over.frames) tt;
    frames_fit = λ f m. absurd (no_frame f m);
    met = met_there;
    met_in_frames =
        λ a w e. absurd (let bad : None ≡ Some w = sym (ap (λ fs. framed fs a) over.frames) ∙ e in cc);
    once = link.held_once;
  }

pub starts_begin : SitesStand → EntriesStand → StartsBegin
starts_begin site_words entry_words s o over parts size is =
    let link = links_of site_words entry_words parts size s is in
    record {
      linked = start_linked site_words entry_words parts size s o is.accepted link over;
      holds = begins site_words entry_words parts size s o is.accepted link over;
    }
