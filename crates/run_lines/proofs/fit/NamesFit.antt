-- The names of owners, of their entries and of sites' parts are names.
use Rattle.std.proofs.Common.{◌≡◌, ℕ, zero, suc, ◌≤◌, ◌^◌, Bool, true, false, List, [], ◌∷◌, Option, Some}
use Rattle.std.proofs.Common.{None, refl, sym, ap, subst, ◌∙◌, arith, eq-eqb, eqb-true}
use Rattle.std.specs.Prelude.{slice_get, position, option_map, option_and_then, if◌then◌else◌, nat_lt, ◌==◌}
use Rattle.std.specs.List.{Contains}
use Rattle.std.proofs.lemmas.Option.{slice_get_within, slice_get-map}
use Rattle.component_file.specs.declared.component.ComponentFields.{ComponentFields}
use Rattle.component_file.specs.declared.component.Export.{Export}
use Rattle.component_file.specs.Limits.{Chain, ExportFits}
use Rattle.linked_starts.specs.declared.owners.Site.{Site}
use Rattle.linked_starts.specs.declared.owners.Owner.{Owner}
use Rattle.linked_starts.specs.declared.owners.Entry.{Entry}
use Rattle.linked_starts.specs.Parts.{PartSeen}
use Rattle.linked_starts.specs.Linked.{AreClosed}
use Rattle.linked_starts.specs.Owners.{placed_entry, owner_of, IsOwner, AreOwners, IsSite, AreSites}
use Rattle.linked_starts.proofs.Offers.{map_inv}
use Rattle.trusted_border.specs.declared.layout.Layout.{Layout}
use Rattle.trusted_border.specs.Layout.{numbered, number_of}
use Rattle.overlay_machine.proofs.Offers.{listed_at, only_found, position_is}
use Rattle.run_lines.specs.Layout.{name_of, numbered_owner, part_name, entry_text, entry_of as entry_in}
use Rattle.run_lines.specs.Layout.{entry_name, site_or, site_of}
use Rattle.source_events.specs.Forms.{IsName}

-- the name of each export
export_named : (xs : List Export) (b : Option Export) (k : ℕ) (e : Export) → Chain ExportFits b xs
    → slice_get xs k ≡ Some e → IsName e.name
export_named [] b k e h at = absurd cc
export_named (x ∷ xs) b zero e h at =
    let same : x ≡ e = cc in subst (λ (y : Export). IsName y.name) same h.0.0
export_named (x ∷ xs) b (suc k) e h at = export_named xs (Some x) k e h.1 at

-- ---- numbers of places

numbered_is : (n i : ℕ) → numbered n ≡ Some i → n ≡ i
numbered_is n i = elim (nat_lt n (2 ^ 32)) as (λ b. (if b then Some n else None) ≡ Some i → n ≡ i)
    [ true ↦ λ e. cc | false ↦ λ e. absurd cc ]

pub position_of : {X : Type 0} (test : X → Bool) (xs : List X) (i : ℕ) → number_of test xs ≡ Some i
    → position test xs ≡ Some i
position_of {X} test xs i e = by (position test xs) e
  where
    by : (o : Option ℕ) → option_and_then numbered o ≡ Some i → o ≡ Some i
    by None h = absurd cc
    by (Some n) h = ap Some (numbered_is n i h)

pub number_at : {X : Type 0} (test : X → Bool) (xs : List X) (i : ℕ) → number_of test xs ≡ Some i → (x : X)
    × (slice_get xs i ≡ Some x)
number_at test xs i e = let k = position_is test xs i (position_of test xs i e) in (k.0, k.1)

module _ (parts : List PartSeen) (closed : AreClosed parts) (l : Layout) (are_sites : AreSites parts l.sites)
    (are_owners : AreOwners parts l.owners) where
  -- ---- owners

  owner_is : (o : Owner) → Contains l.owners o → IsOwner parts o
  owner_is o m = (are_owners.all o).0 m

  same_owner : (o q : Owner) → IsOwner parts o → IsOwner parts q → o.part ≡ q.part → o ≡ q
  same_owner o q a b e =
      let parts_same : Some a.of ≡ Some b.of = sym a.of_is ∙ ap (slice_get parts) e ∙ b.of_is in
      let same : a.of ≡ b.of = cc in
      a.is ∙ ap (λ n. owner_of n a.of) e ∙ ap (owner_of q.part) same ∙ sym b.is

  owner_numbered : (o : Owner) → Contains l.owners o → numbered_owner l o.part ≡ Some o
  owner_numbered o m =
      only_found (λ (q : Owner). q.part == o.part) l.owners o m (eq-eqb o.part o.part refl)
      (λ q mq t. same_owner q o (owner_is q mq) (owner_is o m) (eqb-true q.part o.part t))

  owner_named : (o : Owner) → IsOwner parts o → IsName o.name
  unfolding owner_of
  owner_named o is = subst (λ (n : List ℕ). IsName n) (sym (ap (λ (q : Owner). q.name) is.is))
      (closed.kept o.part is.of is.of_is).limits.name

  pub part_named : (o : Owner) → Contains l.owners o → IsName (part_name l o.part)
  unfolding part_name
  part_named o m = subst (λ q. IsName (name_of q)) (sym (owner_numbered o m)) (owner_named o (owner_is o m))

  entry_has_name : (o : Owner) (is : IsOwner parts o) (n : ℕ) (e : Entry) → slice_get o.entries n ≡ Some e
      → IsName e.name
  unfolding owner_of
  entry_has_name o is n e at =
      let c : ComponentFields = is.of.component in
      let there : option_map (placed_entry c) (slice_get c.exports n) ≡ Some e =
      sym (slice_get-map (placed_entry c) c.exports n) ∙ ap (λ (q : Owner). slice_get q.entries n) (sym is.is)
      ∙ at in
      let x = map_inv (placed_entry c) (slice_get c.exports n) e there in
      let all = (closed.kept o.part is.of is.of_is).limits.exports.1 in
      subst (λ (y : Entry). IsName y.name) x.2 (export_named c.exports None n x.0 all x.1)

  pub entry_named : (o : Owner) → Contains l.owners o → (n : ℕ) (e : Entry) → slice_get o.entries n ≡ Some e
      → IsName (entry_name l o.part n)
  unfolding entry_name
  entry_named o m n e at =
      subst (λ q. IsName (entry_text (entry_in n q))) (sym (owner_numbered o m))
      (subst (λ q. IsName (entry_text q)) (sym at) (entry_has_name o (owner_is o m) n e at))

  -- ---- sites

  site_part_named : (s : Site) → IsSite parts s → IsName (part_name l s.part)
  unfolding owner_of
  site_part_named s is =
      let o : Owner = owner_of s.part is.of in
      let m : Contains l.owners o = (are_owners.all o).1 (record { of = is.of; of_is = is.of_is; is = refl })
      in
      part_named o m

  site_index_small : (s : Site) → IsSite parts s → s.index ≤ 4294967295
  site_index_small s is =
      let lt = slice_get_within is.of.component.sites s.index is.offset is.offset_is in
      let most = (closed.kept s.part is.of is.of_is).limits.sites.0 in
      omega (arith, lt, most)

  pub site_fits : (i : ℕ) (s : Site) → slice_get l.sites i ≡ Some s → IsName (part_name l (site_of l i).part)
      × ((site_of l i).index ≤ 4294967295)
  unfolding site_of
  site_fits i s at =
      let is = (are_sites.all s).0 (listed_at l.sites i s at) in
      subst (λ q. IsName (part_name l (site_or q).part) × ((site_or q).index ≤ 4294967295)) (sym at)
      (site_part_named s is, site_index_small s is)
