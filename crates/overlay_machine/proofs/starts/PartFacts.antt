-- What the rules C and K say of one trusted part, in the form in which a link is said.
use Rattle.std.proofs.Common.{◌≡◌, ℕ, zero, suc, ◌+◌, ◌<◌, ◌≤◌, true, false, [], ◌∷◌, length, Some, refl, sym}
use Rattle.std.proofs.Common.{ap, ◌∙◌, arith, eq-eqb}
use Rattle.std.specs.Prelude.{slice_get, ◌==◌, pos}
use Rattle.std.specs.List.{Contains}
use Rattle.std.proofs.lemmas.Option.{slice_get_within}
use Rattle.cap_words.specs.declared.Word.TheVariants.{Int, Seal}
use Rattle.lcm_isa.specs.declared.Instr.{Instr}
use Rattle.lcm_isa.specs.declared.Instr.TheVariants.{Fail}
use Rattle.lcm_isa.specs.Numbers.{number_of}
use Rattle.component_file.specs.declared.component.Export.{Export}
use Rattle.call_sequence.specs.declared.TheConstants.{SITE_WORDS}
use Rattle.call_sequence.specs.Standing.{CodeStands, SiteStands}
use Rattle.call_sequence.specs.Places.{begins_entry, begins_site}
use Rattle.call_sequence.proofs.Offers.{ListsKept, entry_within, placed_lists}
use Rattle.linked_starts.specs.Parts.{PartSeen, IsPart}
use Rattle.linked_starts.specs.TrustedCode.{all_seals}
use Rattle.linked_starts.proofs.Offers.{SitesStand, EntriesStand, fail_of, literal_of, seals_end}
use Rattle.linked_starts.proofs.Offers.{few_sites}
use Rattle.overlay_machine.specs.Linked.{EntryOf}
use Rattle.overlay_machine.proofs.starts.ListFacts.{listed_at, any_is}

-- what a site of a part has, wherever it is numbered
pub record SiteIn (p : PartSeen) (index offset : ℕ) : Type 0 where
  pub in_seals : index < p.component.seals.count
  pub small : p.component.seals.base + index ≤ 1048575
  pub site : begins_site p.component offset ≡ true
  pub no_entry : begins_entry p.component offset ≡ false
  pub inside : offset + SITE_WORDS ≤ length p.component.code
  pub stands : SiteStands p.component index
  pub seals_are : slice_get p.component.code stands.literal ≡ Some (Seal (all_seals p.component))

module _ (p : PartSeen) (part : IsPart p) (trusted : p.trusted ≡ true) where
  lists : ListsKept p.component
  lists = placed_lists p.component (part.flow trusted).placed part.limits

  one : {x y : ℕ} → (o : ℕ) → p.component.literal_at ≡ Some x → p.component.literal_at ≡ Some y → x ≡ y
  one {x} {y} o e f = let g : Some x ≡ Some y = sym e ∙ f in cc

  pub site_in : SitesStand → (index offset : ℕ) → slice_get p.component.sites index ≡ Some offset
      → SiteIn p index offset
  unfolding begins_site
  site_in sites index offset is =
      let within = slice_get_within p.component.sites index offset is in
      let few = few_sites p part trusted in
      let end = seals_end p part in
      let in_seals : index < p.component.seals.count = omega (arith, within, few) in
      let begins : begins_site p.component offset ≡ true =
      any_is (λ s. s == offset) p.component.sites offset (listed_at p.component.sites index offset is)
      (eq-eqb offset offset refl) in
      let stands = sites p.component part.limits (part.flow trusted) index within in
      let literal = literal_of p part trusted (omega (arith, within)) in
      let same : stands.literal ≡ literal.offset = one 0 stands.literal_is literal.is in
      record {
        in_seals = in_seals;
        small = omega (arith, in_seals, end);
        site = begins;
        no_entry = (lists.sites offset begins).1;
        inside = (lists.sites offset begins).0;
        stands = stands;
        seals_are = ap (slice_get p.component.code) same ∙ literal.word;
      }

  pub entry_in : EntriesStand → (o : ℕ) → begins_entry p.component o ≡ true → EntryOf p o
  entry_in entries o begins = record {
    inside = entry_within p.component (part.flow trusted).placed part.limits o begins;
    stands = entries p.component part.limits (part.flow trusted) o begins;
  }

  -- each export begins an entry, within the code
  pub export_begins : (e : Export) → Contains p.component.exports e → begins_entry p.component e.offset ≡ true
  unfolding begins_entry
  export_begins e m =
      any_is (λ (x : Export). x.offset == e.offset) p.component.exports e m (eq-eqb e.offset e.offset refl)

  pub export_within : (e : Export) → Contains p.component.exports e → e.offset < length p.component.code
  export_within e m = let room =
      entry_within p.component (part.flow trusted).placed part.limits e.offset (export_begins e m) in
      omega (arith, room)

  fail_number : number_of Fail ≡ 0
  unfolding number_of
  fail_number = refl

  pub fail_stands : (f : ℕ) → p.component.fail_at ≡ Some f → (f < length p.component.code)
      × CodeStands p.component.code f (Fail ∷ [])
  fail_stands f e =
      let at = fail_of p part trusted in
      let same : at.offset ≡ f = (let g : Some at.offset ≡ Some f = sym at.is ∙ e in cc) in
      let word : slice_get p.component.code f ≡ Some (Int (pos 0)) =
      ap (slice_get p.component.code) (sym same) ∙ at.word in
      (slice_get_within p.component.code f (Int (pos 0)) word, by_index word)
    where
      by_index : slice_get p.component.code f ≡ Some (Int (pos 0)) → (k : ℕ) (i : Instr)
          → slice_get (Fail ∷ []) k ≡ Some i
          → slice_get p.component.code (f + k) ≡ Some (Int (pos (number_of i)))
      by_index word zero i h =
          let is : Fail ≡ i = cc in
          let here : f + 0 ≡ f = omega arith in
          ap (slice_get p.component.code) here ∙ word ∙ ap (λ n. Some (Int (pos n))) (sym fail_number)
          ∙ ap (λ j. Some (Int (pos (number_of j)))) is
      by_index word (suc k) i h = absurd cc
