-- The names and numbers that the layout of a linked start tells of its trusted parts.
use Rattle.std.proofs.Common.{◌≡◌, inl, inr, ℕ, ◌+◌, ◌^◌, true, not, cond, List, [], ◌∷◌, length, map}
use Rattle.std.proofs.Common.{Some, refl, sym, ap, subst, ◌∙◌, arith, eq-eqb, le-leb, lt-ltb}
use borrow.Author.Tests.{eqb-true}
use Rattle.std.specs.Prelude.{slice_get, ◌==◌, ◌&&◌, IsTrue, option_map, option_and_then}
use Rattle.std.specs.List.{Contains, position_or_len}
use Rattle.std.proofs.lemmas.Bool.{cases_eq, ne_eqb, and_parts}
use Rattle.std.proofs.lemmas.Option.{slice_get_within, slice_get-map}
use Rattle.std.proofs.lemmas.List.{length-map}
use Rattle.std.proofs.lemmas.List.Folds.{find_at}
use Rattle.component_file.specs.declared.component.ComponentFields.{ComponentFields}
use Rattle.component_file.specs.declared.component.Export.{Export}
use Rattle.call_sequence.specs.Places.{begins_entry}
use Rattle.linked_starts.specs.declared.owners.Site.{Site}
use Rattle.linked_starts.specs.declared.owners.Owner.{Owner}
use Rattle.linked_starts.specs.declared.owners.Entry.{Entry}
use Rattle.linked_starts.specs.Parts.{PartSeen}
use Rattle.linked_starts.specs.Owners.{AreSites, AreOwners, owner_of, placed_entry}
use Rattle.linked_starts.specs.SealsApart.{is_seal_of, PartsApart, SitesApart}
use Rattle.linked_starts.specs.Linked.{Linked}
use Rattle.linked_starts.proofs.Offers.{are_linked, parts_apart, sites_apart}
use Rattle.linked_starts.specs.LinkedStarts.{AreParts}
use Rattle.trusted_border.specs.declared.layout.Layout.{Layout}
use Rattle.trusted_border.specs.declared.layout.SiteCode.{SiteCode}
use Rattle.trusted_border.specs.Layout.{numbered, site_code}
use Rattle.trusted_border.specs.Reaches.{closure_owner, site_of_seal}
use Rattle.trusted_border.specs.Names.{part_name, entry_text, entry_name, site_or, site_of}
use Rattle.trusted_border.specs.Names as names
use Rattle.overlay_machine.specs.Link.{ranges_of}
use Rattle.overlay_machine.specs.Linked.{SiteOf}
use Rattle.overlay_machine.specs.Starting.{overlay_at}
use Rattle.overlay_machine.specs.Names.{PartNamed, EntryNamed, declared_site, SiteNumbered, SiteTold}
use Rattle.overlay_machine.specs.Names.{NamesTold, StartsTellNames}
use Rattle.overlay_machine.proofs.starts.ListFacts.{listed_at, index_of, one_at, found_is, is_found}
use Rattle.overlay_machine.proofs.starts.ListFacts.{only_found, any_of, position_is, is_placed}
use Rattle.overlay_machine.proofs.starts.PartFacts.{export_within}
use Rattle.overlay_machine.proofs.starts.LayoutFacts.{InCode, one_part, first_in_code, owner_listed}
use Rattle.overlay_machine.proofs.starts.LayoutFacts.{owner_numbered, trusted_found, place_fits, site_at_code}
use Rattle.overlay_machine.proofs.starts.LayoutFacts.{one_place}
use Rattle.overlay_machine.proofs.starts.LayoutFacts as layout
use Rattle.overlay_machine.proofs.starts.LinkedFacts.{own_closure}

-- ---- entries by their addresses

same_offset : (base x o : ℕ) → (base + x == base + o) ≡ (x == o)
same_offset base x o = elim (cases_eq x o) as (λ _. (base + x == base + o) ≡ (x == o)) [
  | inl e ↦ eq-eqb (base + x) (base + o) (ap (λ n. base + n) e) ∙ sym (eq-eqb x o e)
  | inr ne ↦ ne_eqb (base + x) (base + o) (λ q. ne (omega (arith, q))) ∙ sym (ne_eqb x o ne)
]

-- the first entry at an address is that of the first export there
entry_place : (c : ComponentFields) (o : ℕ) (es : List Export)
    → position_or_len (λ (e : Entry). e.at == c.code_base + o) (map (placed_entry c) es)
    ≡ position_or_len (λ (e : Export). e.offset == o) es
entry_place c o [] = refl
entry_place c o (e ∷ es) =
    let there = position_or_len (λ (x : Entry). x.at == c.code_base + o) (map (placed_entry c) es) in
    ap (λ b. cond (not b) (1 + there) 0) (same_offset c.code_base e.offset o)
    ∙ ap (λ n. cond (not (e.offset == o)) (1 + n) 0) (entry_place c o es)

module _ (parts : List PartSeen) (size : ℕ) (l : Layout) (each : AreParts parts) (made : Linked parts size)
    (owners : AreOwners parts l.owners) (sites : AreSites parts l.sites)
    (apart : PartsApart parts) (seals : SitesApart parts l.sites) where
  -- ---- parts

  closure_found : (n : ℕ) (p : PartSeen) → slice_get parts n ≡ Some p → p.trusted ≡ true
      → closure_owner l p.component.closure ≡ Some (owner_of n p)
  unfolding owner_of
  closure_found n p at trusted =
      let same = eq-eqb p.component.closure p.component.closure refl in
      only_found (λ (o : Owner). o.trusted && (o.closure == p.component.closure)) l.owners (owner_of n p)
      (owner_listed parts size l made owners n p at) (rw (trusted, same) refl) only
    where
      only : (o : Owner) → Contains l.owners o → (o.trusted && (o.closure == p.component.closure)) ≡ true
          → o ≡ owner_of n p
      only o m t =
          let is = (owners.all o).0 m in
          let q = is.of in
          let closed = eqb-true o.closure p.component.closure (and_parts o.trusted _ t).1 in
          let own : q.component.closure ≡ p.component.closure =
          sym (ap (λ (x : Owner). x.closure) is.is) ∙ closed in
          let has = subst (λ k. IsTrue (is_seal_of q k)) own (own_closure q) in
          let same = apart.between o.part n p.component.closure q p is.of_is at has (own_closure p) in
          let part : q ≡ p = one_at parts o.part n q p is.of_is at same in
          is.is ∙ ap (λ k. owner_of k q) same ∙ ap (owner_of n) part

  part_named : (n : ℕ) (p : PartSeen) → slice_get parts n ≡ Some p → p.trusted ≡ true → PartNamed l n p
  unfolding part_name owner_of
  part_named n p at trusted = record {
    by_closure = closure_found n p at trusted;
    by_code = λ z. trusted_found parts size l made owners n p z at trusted;
    name = ap names.name_of (owner_numbered parts size l made owners n p at);
  }

  -- ---- entries

  entry_named : (n o : ℕ) (p : PartSeen) → slice_get parts n ≡ Some p → p.trusted ≡ true
      → begins_entry p.component o ≡ true → EntryNamed l n p o
  unfolding begins_entry entry_name owner_of
  entry_named n o p at trusted begins =
      let c = p.component in
      let es = c.exports in
      let test = λ (e : Export). e.offset == o in
      let place = position_or_len test es in
      let any = any_of test es begins in
      let found = is_found test es any.0 any.1 any.2 in
      let first = found_is test es found.0 found.1 in
      let here : slice_get es place ≡ Some found.0 = sym (find_at test es) ∙ found.1 in
      let within = slice_get_within es place found.0 here in
      let few = (each n p at).limits.exports.0 in
      let off : found.0.offset ≡ o = eqb-true found.0.offset o first.1 in
      let inside = export_within p (each n p at) trusted found.0 first.0 in
      let low = le-leb c.code_base (c.code_base + o) (omega arith) in
      let high = le-leb (c.code_base + o) (ranges_of p).code_last (omega (arith, inside, off)) in
      let there = lt-ltb place (length es) within in
      let small = lt-ltb place (2 ^ 32) (omega (arith, within, few)) in
      let numbered = owner_numbered parts size l made owners n p at in
      record {
        number = place;
        number_is = rw (low, high, entry_place c o es, length-map es (placed_entry c), there, small) refl;
        export = found.0;
        first = found.1;
        name = ap (λ w. entry_text (names.entry_of place w)) numbered
            ∙ ap entry_text (slice_get-map (placed_entry c) es place ∙ ap (option_map (placed_entry c)) here);
      }

  -- ---- sites

  -- a site's seal leads to its place
  sealed_at : (i : ℕ) (s : Site) → slice_get l.sites i ≡ Some s → site_of_seal l s.seal ≡ Some i
  sealed_at i s at =
      let here = listed_at l.sites i s at in
      let test = λ (x : Site). x.seal == s.seal in
      let place = is_placed test l.sites s here (eq-eqb s.seal s.seal refl) in
      let found = position_is test l.sites place.0 place.1 in
      let t = found.0 in
      let one : t ≡ s =
      seals.once t s (listed_at l.sites place.0 t found.1) here (eqb-true t.seal s.seal found.2) in
      let stand = ap (λ (x : Site). x.at) one in
      let same = one_place parts size l made owners sites place.0 i t s found.1 at stand in
      ap (option_and_then numbered) (place.1 ∙ ap Some same)
      ∙ place_fits parts size l made owners sites i s at

  site_numbered : (n index o : ℕ) (p : PartSeen) → slice_get parts n ≡ Some p → p.trusted ≡ true
      → slice_get p.component.sites index ≡ Some o → SiteNumbered l n p index o
  unfolding site_of
  site_numbered n index o p at trusted is =
      let found = site_at_code parts size l made owners sites n index o p at trusted is in
      record {
        number = found.0;
        at = found.1;
        sealed = sealed_at found.0 (declared_site n p index o) found.2;
        is = ap site_or found.2;
      }

  site_told : (number index : ℕ) (s : SiteCode) (p : PartSeen) → site_code l number ≡ Some s
      → Contains parts p → SiteOf p index s → SiteTold parts l number s p index
  unfolding site_of
  site_told number index s p e m of =
      let n = layout.site_of parts size l made owners sites number s e in
      let q = n.is.of in
      let k = index_of parts p m in
      let base : q.component.code_base ≡ p.component.code_base =
      sym (ap (λ (x : SiteCode). x.base) n.code_is) ∙ of.base_is in
      let some = (made.closed.kept n.site.part q n.is.of_is).limits.code.0.0 in
      let there : InCode q p.component.code_base = (omega (arith, base), omega (arith, base, some)) in
      let here = first_in_code parts size k.0 p made k.1 in
      let same : n.site.part ≡ k.0 =
      one_part parts size n.site.part k.0 p.component.code_base q p made n.is.of_is k.1 there here in
      let part : q ≡ p = one_at parts n.site.part k.0 q p n.is.of_is k.1 same in
      let first = ap (λ (x : PartSeen). x.component.seals.base) part in
      let own = n.is.seal in
      let seal = ap (λ (x : SiteCode). x.seal) n.code_is in
      let as_code = of.seal_is in
      let is : site_of l number ≡ n.site = ap site_or n.at in
      record {
        part_is = ap (λ (x : Site). slice_get parts x.part) is ∙ ap (slice_get parts) same ∙ k.1;
        index_is = ap (λ (x : Site). x.index) is ∙ omega (arith, first, own, seal, as_code);
        sealed = ap (site_of_seal l) seal ∙ sealed_at number n.site n.at;
      }

  pub names_told : NamesTold parts l
  names_told = record {
    named = part_named;
    entries = entry_named;
    sites = site_numbered;
    numbers = λ number index s p e m t. site_told number index s p e m;
  }

pub starts_tell_names : StartsTellNames
starts_tell_names parts size s is =
    let apart = parts_apart parts size is.accepted is.rules in
    let made = are_linked parts size is.accepted is.rules in
    let seals = sites_apart parts s.sites is.accepted apart is.starts.sites in
    names_told parts size (overlay_at s).layout is.accepted made is.starts.owners is.starts.sites apart seals
