-- What the names and numbers of a layout are of the trusted parts of a linked start.
use Rattle.std.specs.Prelude.{◌≡◌, ℕ, ◌+◌, ◌==◌, ℤ, true, List, Some, find, slice_get}
use Rattle.std.specs.List.{Contains}
use Rattle.cap_words.specs.declared.Face.TheVariants.{Memory}
use Rattle.component_file.specs.declared.component.Export.{Export}
use Rattle.call_sequence.specs.Holds.{code_at}
use Rattle.call_sequence.specs.Places.{begins_entry}
use Rattle.linked_starts.specs.declared.owners.Site.{Site}
use Rattle.linked_starts.specs.Parts.{PartSeen}
use Rattle.linked_starts.specs.Owners.{owner_of}
use Rattle.linked_starts.specs.Started.{StartSeen}
use Rattle.linked_starts.specs.LinkedStarts.{IsLinkedStart}
use Rattle.trusted_border.specs.declared.layout.Layout.{Layout}
use Rattle.trusted_border.specs.declared.layout.SiteCode.{SiteCode}
use Rattle.trusted_border.specs.Layout.{trusted_owner, site_at, site_code}
use Rattle.trusted_border.specs.Names.{part_name, entry_name, site_of}
use Rattle.trusted_border.specs.Reaches.{closure_owner, entry_number, site_of_seal}
use Rattle.overlay_machine.specs.Link.{ranges_of}
use Rattle.overlay_machine.specs.Linked.{any_pc, SiteOf}
use Rattle.overlay_machine.specs.Starting.{overlay_at}

-- a part of a number has one owner: that of its closure seal, and the one who runs wherever pc is over its
-- code; and the name of its number is its component's
pub record PartNamed (l : Layout) (n : ℕ) (p : PartSeen) : Type 0 where
  pub by_closure : closure_owner l p.component.closure ≡ Some (owner_of n p)
  pub by_code : (z : ℤ) → trusted_owner l (Memory (any_pc p z)) ≡ Some (owner_of n p)
  pub name : part_name l n ≡ p.component.name

-- where pc stands at an entry of it, the entry has a number, whose name is that of the first export there
pub record EntryNamed (l : Layout) (n : ℕ) (p : PartSeen) (o : ℕ) : Type 0 where
  pub number : ℕ
  pub number_is : entry_number (owner_of n p) (Memory (code_at (ranges_of p) o)) ≡ Some number
  pub export : Export
  pub first : find (λ e. e.offset == o) p.component.exports ≡ Some export
  pub name : entry_name l n number ≡ export.name

-- a site of it, of an index and at an offset
abbrev pub declared_site : ℕ → PartSeen → ℕ → ℕ → Site
declared_site n p index o =
    record { part = n; index = index; seal = p.component.seals.base + index; at = p.component.code_base + o }

-- it has a number: by its address, and by its seal
pub record SiteNumbered (l : Layout) (n : ℕ) (p : PartSeen) (index o : ℕ) : Type 0 where
  pub number : ℕ
  pub at : site_at l (p.component.code_base + o) ≡ Some number
  pub sealed : site_of_seal l (p.component.seals.base + index) ≡ Some number
  pub is : site_of l number ≡ declared_site n p index o

-- and whatever trusted part and index a numbered site has, its number tells these, and its seal leads back
pub record SiteTold (parts : List PartSeen) (l : Layout) (number : ℕ)
    (s : SiteCode) (p : PartSeen) (index : ℕ) : Type 0 where
  pub part_is : slice_get parts (site_of l number).part ≡ Some p
  pub index_is : (site_of l number).index ≡ index
  pub sealed : site_of_seal l s.seal ≡ Some number

pub record NamesTold (parts : List PartSeen) (l : Layout) : Type 0 where
  pub named : (n : ℕ) (p : PartSeen) → slice_get parts n ≡ Some p → p.trusted ≡ true → PartNamed l n p
  pub entries : (n o : ℕ) (p : PartSeen) → slice_get parts n ≡ Some p → p.trusted ≡ true
      → begins_entry p.component o ≡ true → EntryNamed l n p o
  pub sites : (n index o : ℕ) (p : PartSeen) → slice_get parts n ≡ Some p → p.trusted ≡ true
      → slice_get p.component.sites index ≡ Some o → SiteNumbered l n p index o
  pub numbers : (number index : ℕ) (s : SiteCode) (p : PartSeen) → site_code l number ≡ Some s
      → Contains parts p → p.trusted ≡ true → SiteOf p index s → SiteTold parts l number s p index

-- of every linked start
abbrev pub StartsTellNames : Type 0
StartsTellNames =
    (parts : List PartSeen) (size : ℕ) (s : StartSeen) → IsLinkedStart parts size s
    → NamesTold parts (overlay_at s).layout
