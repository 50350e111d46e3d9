-- What linked parts have, as far as a step of the overlay rests on it.
use Rattle.std.specs.Prelude.{◌≡◌, ◌≢◌, ℕ, ◌+◌, ◌≤◌, ◌<◌, Bool, true, false, is_some, ℤ, [], ◌∷◌, find}
use Rattle.std.specs.Prelude.{length, slice_get, Some, None}
use Rattle.std.specs.List.{Contains}
use Rattle.cap_words.specs.declared.TheConstants.{LAST_PLACE}
use Rattle.cap_words.specs.declared.CapFields.{CapFields}
use Rattle.cap_words.specs.declared.Word.TheVariants.{Seal}
use Rattle.lcm_isa.specs.declared.Instr.TheVariants.{Fail}
use Rattle.lcm_machine.specs.Regions.{Region, AreApart}
use Rattle.call_sequence.specs.declared.TheConstants.{SITE_WORDS, ENTRY_WORDS}
use Rattle.call_sequence.specs.Standing.{CodeStands, SiteStands, EntryStands}
use Rattle.call_sequence.specs.Holds.{code_at}
use Rattle.call_sequence.specs.Places.{begins_entry, begins_site}
use Rattle.linked_starts.specs.declared.owners.Site.{Site}
use Rattle.linked_starts.specs.declared.owners.Owner.{Owner}
use Rattle.linked_starts.specs.Parts.{PartSeen, IsPart}
use Rattle.linked_starts.specs.Regions.{stack_span}
use Rattle.linked_starts.specs.TrustedCode.{all_seals}
use Rattle.trusted_border.specs.declared.layout.SiteCode.{SiteCode}
use Rattle.trusted_border.specs.Layout.{runs_part, site_at, site_code, has_entry_at}
use Rattle.overlay_machine.specs.Link.{Link, IsTrusted, IsUsable, regions, ranges_of, code_region}
use Rattle.overlay_machine.specs.Link.{data_region}
use Rattle.overlay_machine.specs.Safe.{IsOpenSeal}

-- a pc over the whole code of a part, at any address
abbrev pub any_pc : PartSeen → ℤ → CapFields
any_pc p z = record (code_at (ranges_of p) 0) { addr = z }

-- site number `index` of a part: its seal and its place, that a call and a return stand there with the number
-- of the site, that the literal from which the call takes its seal is the capability over the part's seals,
-- and that no entry begins there
pub record SiteOf (p : PartSeen) (index : ℕ) (s : SiteCode) : Type 0 where
  pub offset : ℕ
  pub offset_is : slice_get p.component.sites index ≡ Some offset
  pub base_is : s.base ≡ (ranges_of p).code_base
  pub end_is : s.end ≡ (ranges_of p).code_last
  pub at_is : s.at ≡ p.component.code_base + offset
  pub seal_is : s.seal ≡ p.component.seals.base + index
  pub seal_in : index < p.component.seals.count
  pub seal_small : s.seal ≤ LAST_PLACE
  pub site : begins_site p.component offset ≡ true
  pub no_entry : begins_entry p.component offset ≡ false
  pub inside : offset + SITE_WORDS ≤ length p.component.code
  pub stands : SiteStands p.component index
  pub seals_are : slice_get p.component.code stands.literal ≡ Some (Seal (all_seals p.component))

-- an entry of a part: it lies within the code, and its words stand there
pub record EntryOf (p : PartSeen) (o : ℕ) : Type 0 where
  pub inside : o + ENTRY_WORDS ≤ length p.component.code
  pub stands : EntryStands p.component o

pub record IsLink (g : Link) : Type 0 where
  -- each part was accepted
  pub parts : (p : PartSeen) → Contains g.parts p → IsPart p
  -- the regions lie apart, none is empty, and all end within the address space; the stack is one of them
  pub apart : AreApart (regions g)
  pub filled : (r : Region) → Contains (regions g) r → r.base ≤ r.end
  pub small : (r : Region) → Contains (regions g) r → r.end ≤ LAST_PLACE
  pub stack : stack_span g.parts g.size ≡ Some g.layout.stack
  pub stack_bases : (p : PartSeen) → IsTrusted g p → p.component.stack_base ≡ g.layout.stack.base
  -- what untrusted code may use is of the regions, and no trusted code or data; so are the code and data of
  -- trusted parts
  pub usable : (r : Region) (runs : Bool) → IsUsable g r runs → Contains (regions g) r
  pub code_closed : (r : Region) (runs : Bool) (p : PartSeen) → IsUsable g r runs → IsTrusted g p
      → r ≢ code_region p
  pub data_closed : (r : Region) (runs : Bool) (p : PartSeen) → IsUsable g r runs → IsTrusted g p
      → r ≢ data_region p
  pub code : (p : PartSeen) → IsTrusted g p → Contains (regions g) (code_region p)
  pub data_there : (p : PartSeen) → IsTrusted g p → Contains (regions g) (data_region p)
  pub data_not_code : (p q : PartSeen) → IsTrusted g p → IsTrusted g q → data_region p ≢ code_region q
  -- trusted parts of one code are one, and so are those of one data and of one closure seal
  pub one_code : (p q : PartSeen) → IsTrusted g p → IsTrusted g q → code_region p ≡ code_region q → p ≡ q
  pub one_data : (p q : PartSeen) → IsTrusted g p → IsTrusted g q → data_region p ≡ data_region q → p ≡ q
  pub one_closure : (p q : PartSeen) → IsTrusted g p → IsTrusted g q
      → p.component.closure ≡ q.component.closure → p ≡ q
  -- the seals of each part end within the space of seals
  pub seals_small : (p : PartSeen) → Contains g.parts p
      → p.component.seals.base + p.component.seals.count ≤ LAST_PLACE + 1
  -- no seal of untrusted code is a closure seal of a trusted part or the seal of a site, no site has a
  -- closure seal, and no two sites have one seal
  pub closure_closed : (p : PartSeen) → IsTrusted g p → IsOpenSeal g p.component.closure → ⊥
  pub return_closed : (j : ℕ) (s : SiteCode) → site_code g.layout j ≡ Some s → IsOpenSeal g s.seal → ⊥
  pub return_other : (j : ℕ) (s : SiteCode) (p : PartSeen) → site_code g.layout j ≡ Some s → IsTrusted g p
      → p.component.closure ≢ s.seal
  pub one_seal : (i j : ℕ) (s u : SiteCode) → site_code g.layout i ≡ Some s → site_code g.layout j ≡ Some u
      → s.seal ≡ u.seal → i ≡ j
  -- the code whose owner is trusted is a trusted part's, and each trusted part owns its code
  pub owners : (c : CapFields) (o : Owner) → find (runs_part c) g.layout.owners ≡ Some o
      → (p : PartSeen) × IsTrusted g p × (c ≡ any_pc p c.addr)
  pub owned : (p : PartSeen) (z : ℤ) → IsTrusted g p
      → is_some (find (runs_part (any_pc p z)) g.layout.owners) ≡ true
  -- and each trusted owner has the closure seal of one
  pub closures : (o : Owner) → Contains g.layout.owners o → o.trusted ≡ true
      → (p : PartSeen) × IsTrusted g p × (p.component.closure ≡ o.closure)
  -- the layout's sites and entries are those of the trusted parts
  pub sites : (j : ℕ) (s : SiteCode) → site_code g.layout j ≡ Some s
      → (p : PartSeen) × (index : ℕ) × IsTrusted g p × SiteOf p index s
  pub site_found : (j a : ℕ) → site_at g.layout a ≡ Some j
      → (s : SiteCode) × (site_code g.layout j ≡ Some s) × (s.at ≡ a)
  pub listed : (j : ℕ) (s : Site) → slice_get g.layout.sites j ≡ Some s
      → (u : SiteCode) × (site_code g.layout j ≡ Some u) × (u.seal ≡ s.seal)
  pub no_site : (p : PartSeen) (o : ℕ) → IsTrusted g p → o < length p.component.code
      → site_at g.layout (p.component.code_base + o) ≡ None → begins_site p.component o ≡ false
  pub entry_found : (p : PartSeen) (o : ℕ) → IsTrusted g p → o < length p.component.code
      → has_entry_at g.layout (p.component.code_base + o) ≡ begins_entry p.component o
  pub entries : (p : PartSeen) (o : ℕ) → IsTrusted g p → begins_entry p.component o ≡ true → EntryOf p o
  -- at `fail_at` stands the instruction `fail`
  pub fails : (p : PartSeen) (f : ℕ) → IsTrusted g p → p.component.fail_at ≡ Some f
      → (f < length p.component.code) × CodeStands p.component.code f (Fail ∷ [])
