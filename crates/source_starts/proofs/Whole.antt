-- The theorem of sources at a linked start of compiled modules.
use Rattle.source_laws.proofs.Offers as tagged
use Rattle.source_laws.specs.Words.{WhenceTold}
use Rattle.source_laws.proofs.Offers.{whence_told, RegsFrom, nothing_more, RegsAre, in_main, outside_main}
use Rattle.source_laws.proofs.Offers.{StandIn, StartsIn, sources_mean, leave_nothing, words_meant, wiped_told}
use Rattle.source_starts.specs.Words.{slots, slots_of}
use Rattle.std.proofs.Common.{◌≡◌, ℕ, ◌+◌, pos, true, List, [], ◌∷◌, map, Some, refl, sym, ap, ◌∙◌, subst}
use Rattle.std.specs.Prelude.{slice_get}
use Rattle.cap_words.specs.declared.Word.TheVariants.{Int}
use Rattle.cap_words.specs.declared.Face.TheVariants.{Memory}
use Rattle.cap_words.specs.Face.{face_of}
use Rattle.lcm_machine.specs.Row.{faces}
use Rattle.call_sequence.specs.Holds.{code_at}
use Rattle.call_sequence.specs.Places.{begins_entry}
use Rattle.linked_starts.specs.declared.owners.Owner.{Owner}
use Rattle.linked_starts.specs.Owners.{owner_of}
use Rattle.linked_starts.specs.Parts.{PartSeen}
use Rattle.linked_starts.specs.Standing.{placed}
use Rattle.linked_starts.specs.Started.{StartSeen}
use Rattle.linked_starts.specs.LinkedStarts.{IsLinkedStart}
use Rattle.trusted_border.specs.declared.layout.SiteCode.{SiteCode}
use Rattle.trusted_border.specs.Layout.{site_code, trusted_owner}
use Rattle.trusted_border.specs.Reaches.{site_of_seal, entry_number}
use Rattle.overlay_machine.specs.declared.words.OWord.{OWord}
use Rattle.overlay_machine.specs.declared.words.OWord.TheVariants.{Plain}
use Rattle.overlay_machine.specs.State.{OState}
use Rattle.overlay_machine.specs.Events.{owner_now}
use Rattle.overlay_machine.specs.Link.{Link, IsTrusted, ranges_of}
use Rattle.overlay_machine.specs.Linked.{IsLink}
use Rattle.overlay_machine.specs.Names.{NamesTold, EntryNamed}
use Rattle.overlay_machine.specs.Invariant.{Invariant}
use Rattle.overlay_machine.specs.Starting.{overlay_at, StartsBegin}
use Rattle.overlay_machine.specs.Keeping.{HoldsFor}
use Rattle.overlay_machine.proofs.Offers.{index_of, starts_tell_names}
use Rattle.run_lines.specs.Layout.{part_name, entry_name}
use Rattle.run_lines.specs.Pairs.{PairsAreOwn}
use Rattle.proc_language.specs.declared.module.ModuleFields.{ModuleFields}
use Rattle.proc_language.specs.Limits.{Each, IsModule}
use Rattle.proc_names.specs.NameFaults.{name_faults}
use Rattle.proc_program.specs.Lower.{part_of}
use Rattle.proc_semantics.specs.declared.value.Target.{Target}
use Rattle.proc_semantics.specs.Values.{World, Store, found}
use Rattle.proc_semantics.specs.Meaning as meaning
use Rattle.template_runs.specs.Public.{IsSharedAt, IsPublic}
use Rattle.template_runs.proofs.Offers.{zero_public, At, Named, named}
use Rattle.source_laws.specs.Sources.{MeansAlways}
use Rattle.source_laws.specs.Secrets.{LeavesNothing}
use Rattle.source_starts.specs.Links.{overlay_link}
use Rattle.source_starts.specs.Sources.{trusted_parts, LinkedSources, world_of}
use Rattle.source_laws.specs.Wiped.{WipedAlways}
use Rattle.source_starts.proofs.Worlds.{Aligned, home_of, aligned}
use Rattle.source_starts.proofs.StartWords.{the_link, apart, first_words, data_there, held_at}
use Rattle.source_starts.proofs.Targets.{BeginsAt, entry_found}
use Rattle.source_starts.proofs.ModulePairs.{starts_stored}
use Rattle.source_starts.proofs.FedPairs.{fed_words}
use Rattle.source_starts.proofs.Mains.{Beginning, inside, beyond, begins, valid, stk_safe, whole_stack}
use Rattle.source_starts.proofs.Mains.{rcode_zero, rdata_zero, a0_zero, a1_zero, a2_zero, a3_zero}
use Rattle.source_starts.proofs.Standings.{Stored, stands, name_is}

module _ (modules : List ModuleFields) (parts : List PartSeen) (size : ℕ) (s : StartSeen)
    (is : IsLinkedStart parts size s) (beside : Aligned modules (trusted_parts parts))
    (limits : Each IsModule modules) (resolved : Each (λ m. name_faults m ≡ []) modules)
    (linked : IsLink (the_link parts size s is))
    (holds : Invariant (the_link parts size s is) (overlay_at s).state s.state.maps) (own : PairsAreOwn) where
  abbrev G : Link
  G = the_link parts size s is

  abbrev W : World
  W = map part_of modules

  -- the modules, with the words of their pairs
  abbrev WW : tagged.World
  WW = record { parts = map part_of modules; marks = slots modules parts s }

  abbrev Begin : Target → PartSeen → ℕ → Type 0
  Begin = BeginsAt modules parts

  abbrev Kept : Store → (ℕ → OWord) → Type 0
  Kept = Stored modules parts size s is beside limits resolved linked holds

  told : NamesTold parts (overlay_at s).layout
  told = starts_tell_names parts size s is

  at_place : (p : PartSeen) → IsTrusted G p → (n : ℕ) × (slice_get parts n ≡ Some p)
  at_place p ip = index_of parts p ip.0

  names : Named G
  names = named G told

  -- the owner's number is the part's
  owner_at : (p : PartSeen) (ip : IsTrusted G p) → names.owner p ip ≡ owner_of (at_place p ip).0 p
  owner_at p ip =
      let there : Some (names.owner p ip) ≡ Some (owner_of (at_place p ip).0 p) =
      sym (names.owner_is p ip) ∙ (told.named (at_place p ip).0 p (at_place p ip).1 ip.1).by_closure in
      cc

  part_is : (p : PartSeen) (ip : IsTrusted G p)
      → part_name G.layout (names.owner p ip).part ≡ p.component.name
  unfolding owner_of
  part_is p ip =
      ap (λ (x : Owner). part_name G.layout x.part) (owner_at p ip)
      ∙ (told.named (at_place p ip).0 p (at_place p ip).1 ip.1).name

  entry_at : (p : PartSeen) (ip : IsTrusted G p) (k : ℕ) (b : begins_entry p.component k ≡ true)
      → EntryNamed G.layout (at_place p ip).0 p k
  entry_at p ip k b = told.entries (at_place p ip).0 k p (at_place p ip).1 ip.1 b

  entry_named : (p : PartSeen) (ip : IsTrusted G p) (k : ℕ) (b : begins_entry p.component k ≡ true)
      → entry_name G.layout (names.owner p ip).part (names.entry p ip k b) ≡ (entry_at p ip k b).export.name
  unfolding owner_of
  entry_named p ip k b =
      let x = entry_at p ip k b in
      let same : Some (names.entry p ip k b) ≡ Some x.number =
      sym (names.entry_is p ip k b)
      ∙ ap (λ (o : Owner). entry_number o (Memory (code_at (ranges_of p) k))) (owner_at p ip)
      ∙ x.number_is in
      let number : names.entry p ip k b ≡ x.number = cc in
      ap (λ (o : Owner). entry_name G.layout o.part (names.entry p ip k b)) (owner_at p ip)
      ∙ ap (entry_name G.layout (at_place p ip).0) number ∙ x.name

  sealed : (i : ℕ) (u : SiteCode) → site_code G.layout i ≡ Some u → site_of_seal G.layout u.seal ≡ Some i
  sealed i u e =
      let x = linked.sites i u e in
      (told.numbers i x.1 u x.0 e (x.2).0 (x.2).1 x.3).sealed

  target : (p : PartSeen) (k : ℕ) (ip : IsTrusted G p) (b : begins_entry p.component k ≡ true)
      → IsSharedAt p.component k
      → (t : Target) × (found W (part_name G.layout (names.owner p ip).part)
      (entry_name G.layout (names.owner p ip).part (names.entry p ip k b)) ≡ Some t) × Begin t p k
  target p k ip b sh =
      let n = index_of parts p ip.0 in
      let h = home_of modules parts beside n.0 p n.1 ip.1 in
      entry_found modules parts beside (apart parts size s is) resolved h.0 p h.1 k
      (entry_at p ip k b).export _ _ (entry_at p ip k b).first sh (part_is p ip) (entry_named p ip k b)

  owned : (p : PartSeen) (k : ℕ) (q : OState) (at : At G linked p k q) (n : ℕ) → slice_get parts n ≡ Some p
      → owner_now G.layout q ≡ Some (owner_of n p)
  unfolding faces
  owned p k q at n e =
      ap (λ w. trusted_owner G.layout (face_of w)) at.pc
      ∙ (told.named n p e at.trusted.1).by_code (pos (p.component.code_base + k))

  part_told : (t : Target) (p : PartSeen) (e k : ℕ) (q : OState) → Begin t p e → At G linked p k q
      → (w : Owner)
      → owner_now G.layout q ≡ Some w → part_name G.layout w.part ≡ meaning.part_name_of W t.home
  unfolding owner_of
  part_told t p e k q b at w ow =
      let n = index_of parts p at.trusted.0 in
      let same : Some w ≡ Some (owner_of n.0 p) = sym ow ∙ owned p k q at n.0 n.1 in
      let is_owner : w ≡ owner_of n.0 p = cc in
      ap (λ (x : Owner). part_name G.layout x.part) is_owner ∙ (told.named n.0 p n.1 at.trusted.1).name
      ∙ sym (name_is modules parts size s is beside limits resolved linked holds t.home p b.home)

  stand_in : StandIn WW G linked Begin Kept
  stand_in = record {
    named = names;
    sealed = sealed;
    target = target;
    told = part_told;
    fed = λ q w v valid sw sv. fed_words modules parts size s is beside limits resolved linked own q w v sw
        sv;
    stands = stands modules parts size s is beside limits resolved linked holds;
  }

  abbrev O : OState
  O = (overlay_at s).state

  zero_shown : (w : OWord) → w ≡ Plain (Int (pos 0)) → IsPublic G w
  zero_shown w e = subst (IsPublic G) (sym e) (zero_public G)

  no_args : RegsAre G linked Begin (tagged.no_registers WW) O
  no_args =
      subst (RegsFrom G linked Begin [] []) (sym (λ i.
      a0_zero modules parts size s is beside limits resolved linked holds i
      ∷ a1_zero modules parts size s is beside limits resolved linked holds i
      ∷ a2_zero modules parts size s is beside limits resolved linked holds i
      ∷ a3_zero modules parts size s is beside limits resolved linked holds i ∷ [])) (nothing_more 4)

  starts_in : StartsIn WW G linked Begin Kept size (first_words parts size s is) O
  starts_in = by (begins modules parts size s is beside limits resolved linked holds)
    where
      by : Beginning modules parts size s is beside limits resolved linked holds
          → StartsIn WW G linked Begin Kept size (first_words parts size s is) O
      by (inside m) =
          in_main m.to m.part m.entry m.main m.begins
          (valid modules parts size s is beside limits resolved linked holds)
          m.at m.dat (stk_safe modules parts size s is beside limits resolved linked holds)
          (record {
            code = zero_shown _ (rcode_zero modules parts size s is beside limits resolved linked holds);
            half = zero_shown _ (rdata_zero modules parts size s is beside limits resolved linked holds);
            a0 = zero_shown _ (a0_zero modules parts size s is beside limits resolved linked holds);
            a1 = zero_shown _ (a1_zero modules parts size s is beside limits resolved linked holds);
            a2 = zero_shown _ (a2_zero modules parts size s is beside limits resolved linked holds);
            a3 = zero_shown _ (a3_zero modules parts size s is beside limits resolved linked holds);
          }) no_args (whole_stack modules parts size s is beside limits resolved linked holds)
          (rcode_zero modules parts size s is beside limits resolved linked holds)
          (rdata_zero modules parts size s is beside limits resolved linked holds)
      by (beyond none out) = outside_main none out refl

  pub placed_mean : MeansAlways W size s
  placed_mean =
      sources_mean WW G linked Begin Kept stand_in size s (first_words parts size s is) refl
      (λ p d ip lt. data_there parts size s is linked holds p d ip lt)
      (starts_stored modules parts size s is beside limits resolved linked holds) starts_in

  pub placed_words : WhenceTold (slots modules parts s) W size s
  placed_words =
      whence_told (slots modules parts s) W size s
      (words_meant WW G linked Begin Kept stand_in size s (first_words parts size s is) refl
      (λ p d ip lt. data_there parts size s is linked holds p d ip lt)
      (starts_stored modules parts size s is beside limits resolved linked holds) starts_in)

  pub placed_leaves : LeavesNothing G s
  placed_leaves =
      leave_nothing WW G linked Begin Kept stand_in size s (first_words parts size s is) refl
      (λ p d ip lt. data_there parts size s is linked holds p d ip lt)
      (starts_stored modules parts size s is beside limits resolved linked holds) starts_in

  pub placed_wiped : WipedAlways G W size s
  placed_wiped =
      wiped_told WW G linked Begin Kept stand_in size s (first_words parts size s is) refl
      (λ p d ip lt. data_there parts size s is linked holds p d ip lt)
      (starts_stored modules parts size s is beside limits resolved linked holds) starts_in

-- ---- of every link of sources

module _ (begin : StartsBegin) (own : PairsAreOwn) (a : LinkedSources) where
  abbrev P : List PartSeen
  P = placed a.parts a.size

  held : HoldsFor P a.size (overlay_at a.start) a.start.state.maps
  held = held_at begin a.linked

  beside : Aligned a.modules (trusted_parts P)
  beside = aligned a.parts a.size a.modules a.are_sources.compiled

  pub start_means : MeansAlways (world_of a) a.size a.start
  start_means =
      placed_mean a.modules P a.size a.start a.is_start beside a.are_sources.limits a.are_sources.resolved
      held.linked held.holds own

  pub start_words : WhenceTold (slots_of a.modules a.link) (world_of a) a.size a.start
  start_words =
      placed_words a.modules P a.size a.start a.is_start beside a.are_sources.limits a.are_sources.resolved
      held.linked held.holds own

  pub start_leaves : LeavesNothing (overlay_link a.link) a.start
  start_leaves =
      placed_leaves a.modules P a.size a.start a.is_start beside a.are_sources.limits a.are_sources.resolved
      held.linked held.holds own

  pub start_wiped : WipedAlways (overlay_link a.link) (world_of a) a.size a.start
  start_wiped =
      placed_wiped a.modules P a.size a.start a.is_start beside a.are_sources.limits a.are_sources.resolved
      held.linked held.holds own
