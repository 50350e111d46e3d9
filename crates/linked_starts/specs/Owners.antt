-- The sites of a start, and who owns which code.
use Rattle.std.specs.Prelude.{◌≡◌, ◌≢◌, ◌↔◌, ℕ, ◌+◌, ◌<◌, ◌≤◌, true, List, map, length, slice_get}
use Rattle.std.specs.Prelude.{slice_index_or, Some}
use Rattle.std.specs.List.{AllPairs, Contains}
use Rattle.cap_words.specs.declared.TheConstants.{LONGEST_NAME}
use Rattle.component_file.specs.declared.component.ComponentFields.{ComponentFields}
use Rattle.component_file.specs.declared.component.Export.{Export}
use Rattle.component_file.specs.declared.component.Import.{Import}
use Rattle.linked_starts.specs.declared.owners.Site.{Site}
use Rattle.linked_starts.specs.declared.owners.Owner.{Owner}
use Rattle.linked_starts.specs.declared.owners.Entry.{Entry}
use Rattle.linked_starts.specs.declared.owners.CalledEntry.{CalledEntry}
use Rattle.linked_starts.specs.Parts.{PartSeen}
use Rattle.linked_starts.specs.Regions.{addresses}

-- ---- the order of sites

abbrev pub SitesAscend : List Site → Type 0
SitesAscend sites = AllPairs (λ s t. s.at < t.at) sites

-- of the same part, with the next seal
abbrev pub IsNextSite : Site → Site → Type 0
IsNextSite s t = (t.part ≡ s.part) × (t.seal ≡ s.seal + 1)

-- the sites of a part stand together, each with the seal after that of the one before: where a site of the
-- same part comes later, the next site follows
abbrev pub InRuns : List Site → Type 0
InRuns sites = (i j : ℕ) (d : Site) → i < j → j < length sites
    → (slice_index_or sites i d).part ≡ (slice_index_or sites j d).part
    → IsNextSite (slice_index_or sites i d) (slice_index_or sites (i + 1) d)

pub record AreInOrder (sites : List Site) : Type 0 where
  pub ascend : SitesAscend sites
  pub runs : InRuns sites

-- the sites from one place up to another are some, and all those of one part that stand from there on
pub record IsRun (sites : List Site) (place end : ℕ) : Type 0 where
  pub some : place < end
  pub within : end ≤ length sites
  pub one_part : (k : ℕ) (d : Site) → place ≤ k → k < end
      → (slice_index_or sites place d).part ≡ (slice_index_or sites k d).part
  pub whole : (d : Site) → end < length sites
      → (slice_index_or sites place d).part ≢ (slice_index_or sites end d).part

-- ---- sites

-- a site of a trusted part: its seal is the part's first seal plus its index
pub record IsSite (parts : List PartSeen) (s : Site) : Type 0 where
  pub of : PartSeen
  pub of_is : slice_get parts s.part ≡ Some of
  pub trusted : of.trusted ≡ true
  pub offset : ℕ
  pub offset_is : slice_get of.component.sites s.index ≡ Some offset
  pub seal : s.seal ≡ of.component.seals.base + s.index
  pub at : s.at ≡ of.component.code_base + offset

-- each of them, in ascending address
pub record AreSites (parts : List PartSeen) (sites : List Site) : Type 0 where
  pub ascend : SitesAscend sites
  pub all : (s : Site) → Contains sites s ↔ IsSite parts s

-- ---- owners

abbrev pub placed_entry : ComponentFields → Export → Entry
placed_entry c e = record { name = e.name; at = c.code_base + e.offset }

abbrev pub call_of : ComponentFields → Import → CalledEntry
call_of c i = record { part = i.part; name = i.name; at = c.data_base + i.slot }

-- who a part is, in its place among the parts
unfoldable pub owner_of : ℕ → PartSeen → Owner
owner_of index p =
    let c = p.component in
    record {
      part = index;
      name = c.name;
      trusted = p.trusted;
      code = addresses c.code_base (length c.code);
      data_span = addresses c.data_base (length c.data_words);
      closure = c.closure;
      seals = c.seals;
      entries = map (placed_entry c) c.exports;
      calls = map (call_of c) c.imports;
    }

-- the owner of a part
pub record IsOwner (parts : List PartSeen) (o : Owner) : Type 0 where
  pub of : PartSeen
  pub of_is : slice_get parts o.part ≡ Some of
  pub is : o ≡ owner_of o.part of

-- each of them, one for each part, in ascending address of their code
pub record AreOwners (parts : List PartSeen) (owners : List Owner) : Type 0 where
  pub ascend : AllPairs (λ o q. o.code.base < q.code.base) owners
  pub all : (o : Owner) → Contains owners o ↔ IsOwner parts o
  pub count : length owners ≡ length parts

-- ---- both

-- sites are in order, owners ascend, and the names of owners and of their entries are short
pub record AreLaid (sites : List Site) (owners : List Owner) : Type 0 where
  pub sites_in_order : AreInOrder sites
  pub owners_ascend : AllPairs (λ o q. o.code.base < q.code.base) owners
  pub names : (k : ℕ) (o : Owner) → slice_get owners k ≡ Some o → length o.name ≤ LONGEST_NAME
  pub entries : (k n : ℕ) (o : Owner) (e : Entry) → slice_get owners k ≡ Some o
      → slice_get o.entries n ≡ Some e → length e.name ≤ LONGEST_NAME
