-- What a start keeps: its sites are in order, its owners ascend, and their names are short.
use Rattle.std.proofs.Common.{◌≡◌, ℕ, zero, suc, ◌≤◌, Bool, true, false, List, [], ◌∷◌, length, leb, Option}
use Rattle.std.proofs.Common.{Some, None, sym, ap, subst, ◌∙◌, arith}
use Rattle.std.specs.Prelude.{slice_get, option_map, IsTrue, ◌&&◌}
use Rattle.std.specs.List.{Contains}
use Rattle.std.proofs.lemmas.Option.{slice_get_within, get_or_from_slice_get, slice_get-map}
use Rattle.std.proofs.lemmas.List.Elements.{Contains-get_or}
use Rattle.linked_starts.proofs.Offers.{map_inv}
use Rattle.cap_words.specs.declared.TheConstants.{LONGEST_NAME}
use Rattle.component_file.specs.declared.component.ComponentFields.{ComponentFields}
use Rattle.component_file.specs.declared.component.Export.{Export}
use Rattle.cap_words.specs.Names.{is_name}
use Rattle.component_file.specs.Limits.{Chain, ExportFits}
use Rattle.linked_starts.specs.declared.owners.Site.{Site}
use Rattle.linked_starts.specs.declared.owners.Owner.{Owner}
use Rattle.linked_starts.specs.declared.owners.Entry.{Entry}
use Rattle.linked_starts.specs.Parts.{PartSeen}
use Rattle.linked_starts.specs.Linked.{Kept, AreClosed}
use Rattle.linked_starts.specs.Owners.{AreInOrder, placed_entry, owner_of, IsOwner, AreOwners, AreLaid}

both_are : (a b : Bool) → IsTrue (a && b) → IsTrue a × IsTrue b
both_are true true h = (h, h)
both_are true false h = absurd cc
both_are false b h = absurd cc

name_is_short : (text : List ℕ) → IsTrue (is_name text) → length text ≤ LONGEST_NAME
unfolding is_name
name_is_short text h =
    let short =
    both_are (leb 1 (length text)) (leb (length text) LONGEST_NAME) (both_are _ _ (both_are _ _ h).0).0 in
    grind (arith, short.1)

export_name : (xs : List Export) (b : Option Export) (k : ℕ) (e : Export) → Chain ExportFits b xs
    → slice_get xs k ≡ Some e → length e.name ≤ LONGEST_NAME
export_name [] b k e h at = absurd cc
export_name (x ∷ xs) b zero e h at = let same : x ≡ e =
    cc in subst (λ y. length y.name ≤ LONGEST_NAME) same (name_is_short x.name h.0.0)
export_name (x ∷ xs) b (suc k) e h at = export_name xs (Some x) k e h.1 at

module _ (parts : List PartSeen) (closed : AreClosed parts) (owners : List Owner)
    (are : AreOwners parts owners) where
  owner_at : (k : ℕ) (o : Owner) → slice_get owners k ≡ Some o → IsOwner parts o
  owner_at k o e =
      (are.all o).0
      (subst (Contains owners) (get_or_from_slice_get owners k o o e)
      (Contains-get_or owners k o (slice_get_within owners k o e)))

  kept_of : (o : Owner) (is : IsOwner parts o) → Kept is.of
  kept_of o is = closed.kept o.part is.of is.of_is

  name_of : (o : Owner) (is : IsOwner parts o) → length o.name ≤ LONGEST_NAME
  unfolding owner_of
  name_of o is = subst (λ (n : List ℕ). length n ≤ LONGEST_NAME) (sym (ap (λ (q : Owner). q.name) is.is))
      (name_is_short is.of.component.name (kept_of o is).limits.name)

  entry_name : (o : Owner) (is : IsOwner parts o) (n : ℕ) (e : Entry) → slice_get o.entries n ≡ Some e
      → length e.name ≤ LONGEST_NAME
  unfolding owner_of
  entry_name o is n e at =
      let c : ComponentFields = is.of.component in
      let there : option_map (placed_entry c) (slice_get c.exports n) ≡ Some e =
      sym (slice_get-map (placed_entry c) c.exports n) ∙ ap (λ (q : Owner). slice_get q.entries n) (sym is.is)
      ∙ at in
      let x = map_inv (placed_entry c) (slice_get c.exports n) e there in
      subst (λ (y : Entry). length y.name ≤ LONGEST_NAME)
      x.2 (export_name c.exports None n x.0 (kept_of o is).limits.exports.1 x.1)

  pub are_laid : {sites : List Site} → AreInOrder sites → AreLaid sites owners
  are_laid in_order = record {
    sites_in_order = in_order;
    owners_ascend = are.ascend;
    names = λ k o e. name_of o (owner_at k o e);
    entries = λ k n o e at. entry_name o (owner_at k o at) n e;
  }
