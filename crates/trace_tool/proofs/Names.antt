-- Names of parts and of entries, found by their numbers.
use Rattle.std.proofs.Common.{◌≡◌, ◌≤◌, ℕ, suc, Bool, true, false, List, [], ◌∷◌, length, Some, None, refl}
use Rattle.std.proofs.Common.{sym, ap, ◌∙◌}
use Rattle.std.specs.Prelude.{find, slice_get, if◌then◌else◌, ◌==◌}
use Rattle.cap_words.specs.declared.TheConstants.{LONGEST_NAME}
use Rattle.linked_starts.specs.declared.owners.Site.{Site}
use Rattle.linked_starts.specs.declared.owners.Entry.{Entry}
use Rattle.linked_starts.specs.declared.owners.Owner.{Owner}
use Rattle.linked_starts.specs.Owners.{AreLaid}
use Rattle.trusted_border.specs.declared.layout.Layout.{Layout}
use Rattle.run_lines.specs.Layout.{numbered_owner, entry_text, entry_of, entry_name}

-- what is found has a place
found_at : {X : Type 0} (p : X → Bool) (xs : List X) (x : X) → find p xs ≡ Some x → (k : ℕ)
    × (slice_get xs k ≡ Some x)
found_at p [] x e = absurd cc
found_at {X} p (y ∷ ys) x e = by (p y) refl (found_at p ys x)
  where
    by : (b : Bool) → p y ≡ b → (find p ys ≡ Some x → (k : ℕ) × (slice_get ys k ≡ Some x)) → (k : ℕ)
        × (slice_get (y ∷ ys) k ≡ Some x)
    by true t rest = (0, sym (ap (λ b. if b then Some y else find p ys) t) ∙ e)
    by false t rest = let r = rest (sym (ap (λ b. if b then Some y else find p ys) t) ∙ e) in (suc r.0, r.1)

module _ (sites : List Site) (owners : List Owner) (laid : AreLaid sites owners) (part : ℕ) (o : Owner)
    (there : find (λ q. q.part == part) owners ≡ Some o) where
  pub part_is_short : length o.name ≤ LONGEST_NAME
  part_is_short = let f = found_at (λ q. q.part == part) owners o there in laid.names f.0 o f.1

  pub entry_is_short : (k : ℕ) (e : Entry) → slice_get o.entries k ≡ Some e → length e.name ≤ LONGEST_NAME
  entry_is_short k e at = let f =
      found_at (λ q. q.part == part) owners o there in laid.entries f.0 k o e f.1 at

pub no_entry : (l : Layout) (part k : ℕ) (o : Owner) → numbered_owner l part ≡ Some o
    → slice_get o.entries k ≡ None → entry_name l part k ≡ []
unfolding entry_name
no_entry l part k o there none = ap (λ q. entry_text (entry_of k q)) there ∙ ap entry_text none
