-- What the layout of a linked start calls its trusted parts, their entries and their sites.
use Rattle.std.proofs.Common.{◌≡◌, ℕ, Some, true}
use Rattle.std.specs.Prelude.{slice_get}
use Rattle.cap_words.specs.declared.Face.TheVariants.{Memory}
use Rattle.call_sequence.specs.Holds.{code_at}
use Rattle.call_sequence.specs.Places.{begins_entry}
use Rattle.linked_starts.specs.Parts.{PartSeen}
use Rattle.linked_starts.specs.Owners.{owner_of}
use Rattle.linked_starts.specs.declared.owners.Owner.{Owner}
use Rattle.trusted_border.specs.Reaches.{closure_owner, entry_number}
use Rattle.overlay_machine.specs.Link.{Link, IsTrusted, ranges_of}
use Rattle.overlay_machine.specs.Names.{NamesTold}
use Rattle.overlay_machine.proofs.Offers.{index_of}

-- of each trusted part its owner, and of each of its entries a number
pub record Named (g : Link) : Type 0 where
  pub owner : (p : PartSeen) → IsTrusted g p → Owner
  pub owner_is : (p : PartSeen) (ip : IsTrusted g p)
      → closure_owner g.layout p.component.closure ≡ Some (owner p ip)
  pub entry : (p : PartSeen) (ip : IsTrusted g p) (k : ℕ) → begins_entry p.component k ≡ true → ℕ
  pub entry_is : (p : PartSeen) (ip : IsTrusted g p) (k : ℕ) (b : begins_entry p.component k ≡ true)
      → entry_number (owner p ip) (Memory (code_at (ranges_of p) k)) ≡ Some (entry p ip k b)

module _ (g : Link) (told : NamesTold g.parts g.layout) where
  -- the place of a part
  at_place : (p : PartSeen) → IsTrusted g p → (n : ℕ) × (slice_get g.parts n ≡ Some p)
  at_place p ip = index_of g.parts p ip.0

  pub named : Named g
  unfolding owner_of
  named =
      record {
        owner = λ p ip. owner_of (at_place p ip).0 p;
        owner_is = λ p ip. (told.named (at_place p ip).0 p (at_place p ip).1 ip.1).by_closure;
        entry = λ p ip k b. (told.entries (at_place p ip).0 k p (at_place p ip).1 ip.1 b).number;
        entry_is = λ p ip k b. (told.entries (at_place p ip).0 k p (at_place p ip).1 ip.1 b).number_is;
      }
