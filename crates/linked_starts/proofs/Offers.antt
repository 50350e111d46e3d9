-- What the crates above cite: lemmas over the definitions of `specs/`, by what they are of.

-- the first part, and the first place in it, at which a rule is broken
pub use Rattle.linked_starts.proofs.FirstIn.{first_broken_in, first_in_is, one_first_in}
-- what searches through parts and through the items of a part tell of rules
pub use Rattle.linked_starts.proofs.RuleLemmas.{any_settled, each_before, each_item, slice_get-take, taken}
pub use Rattle.linked_starts.proofs.RuleLemmas.{told_behind, told_in, told_nowhere}
-- what is found first in a list
pub use Rattle.linked_starts.proofs.Found.{found, given, given_by, map_inv}
-- what a search by halving finds in items whose keys ascend, and that a part's exports ascend
pub use Rattle.linked_starts.proofs.Halved.{found as halved_found, missing}
-- regions that lie apart
pub use Rattle.linked_starts.proofs.RegionFacts.{all_within, apart_all, apart_parts, apart_stack, code_in}
pub use Rattle.linked_starts.proofs.RegionFacts.{data_in, in_regions_is, in_stretch, linear_in}
pub use Rattle.linked_starts.proofs.RegionFacts.{part_region_of, region_cases, size_bounds, stack_in}
pub use Rattle.linked_starts.proofs.RegionFacts.{stack_is, stack_region_of, stretch_of, whole}
-- the words that parts have at addresses
pub use Rattle.linked_starts.proofs.PartWords.{data_within, from_inv, slot_inv, taken_get}
-- what each cell of a start holds
pub use Rattle.linked_starts.proofs.StartWords.{CellIs, IsExport, cell_is, imported_there, listed_at}
pub use Rattle.linked_starts.proofs.StartWords.{main_is_there, of_code, of_data, of_none, of_slot}
-- what the rules C and the format say of the words of a part's own code and data
pub use Rattle.linked_starts.proofs.OwnWords.{OwnCap, OwnWord, data_number, over_code, over_data}
pub use Rattle.linked_starts.proofs.OwnWords.{over_linear, own_code, own_data}
-- which addresses have a cell at a start
pub use Rattle.linked_starts.proofs.StartCells.{cell_in_region, region_has_cell, spans_are_regions}
-- the machine of a start, once its registers are set
pub use Rattle.linked_starts.proofs.StartIs.{started_once}
-- sites and owners as they are listed, one after another, and put in order
pub use Rattle.linked_starts.proofs.ListedOwners.{part_of}
-- what is found among sites in their order
pub use Rattle.linked_starts.proofs.SiteSearch.{greater_is, less_is, up_to}
-- what the rules C say of a part, as the start rests on it
pub use Rattle.linked_starts.proofs.PartKept.{code_no_data, few_sites, is_kept, seals_end, sites_in}
pub use Rattle.linked_starts.proofs.PartKept.{slots_in}
-- what the rules L say of parts, as the start rests on it
pub use Rattle.linked_starts.proofs.LinksKept.{are_linked, imports_found, in_part, regions_apart}
pub use Rattle.linked_starts.proofs.LinksKept.{stack_bases, stack_begins, stack_fits}
-- what the rules C and L say of seals
pub use Rattle.linked_starts.proofs.SealsKept.{parts_apart, sites_apart}
-- the code of a start
pub use Rattle.linked_starts.proofs.CodeStands.{EntriesStand, SitesStand, any_of, code_stands, fail_of}
pub use Rattle.linked_starts.proofs.CodeStands.{literal_of, trusted_stand}
-- where the data of parts stands at a start
pub use Rattle.linked_starts.proofs.DataStands.{data_stands}
-- the words of a start fit
pub use Rattle.linked_starts.proofs.StartFits.{starts_fit}
-- parts that are placed are parts, where there is room for them
pub use Rattle.linked_starts.proofs.Settling.{as_many}
-- the rules that are tried at a link, L10 apart from the others
pub use Rattle.linked_starts.proofs.DropFirst.{keeps_all}
-- there is one answer that is right of a part
pub use Rattle.linked_starts.proofs.Accepted.{accepted_is, accepts_is}
-- an instance
pub use Rattle.linked_starts.proofs.ExampleParts.{as_word, caller, each, halt_at, keeps, no_rule, other}
pub use Rattle.linked_starts.proofs.ExampleParts.{pair, seals_at, site_at}
-- the memory of a start, and the sites and owners of one of two parts
pub use Rattle.linked_starts.proofs.PairStart.{cells_filled, owners_are, owners_of, site_of, sites_are}
unfoldable pub use Rattle.linked_starts.proofs.PairStart.{filled}
-- the start of the instance
pub use Rattle.linked_starts.proofs.ExampleLink.{cells_are, has_room, spans, start, starts}
-- an address lies in one of two regions that are apart
pub use Rattle.linked_starts.proofs.StartHeld.{no_overlap}
-- what the linker's own functions rest on
pub use Rattle.linked_starts.proofs.DropFirst.{breaks_first, first_kept, goes_on, others_kept}
pub use Rattle.linked_starts.proofs.Found.{exported_is, found_here, given_first, imported_is, none_given}
pub use Rattle.linked_starts.proofs.Found.{not_here}
pub use Rattle.linked_starts.proofs.Halved.{export_found, export_missing, exports_ascend}
pub use Rattle.linked_starts.proofs.Laid.{lays_as, lays_none, lays_put, lays_then, lays_two, still_there}
pub use Rattle.linked_starts.proofs.Laid.{upto, upto_all, upto_more, upto_none}
pub use Rattle.linked_starts.proofs.LaySteps.{code_there, data_there, entry_kept, item_at, not_none}
pub use Rattle.linked_starts.proofs.LaySteps.{part_laid, parts_end, parts_laid, slots_end, slots_laid}
pub use Rattle.linked_starts.proofs.LaySteps.{with_some}
pub use Rattle.linked_starts.proofs.ListedOwners.{export_fits, meet_not, next_owner, next_site, one_site}
pub use Rattle.linked_starts.proofs.ListedOwners.{owners_none, owners_sorted, part_at, site_fits, site_in}
pub use Rattle.linked_starts.proofs.ListedOwners.{sites_done, sites_none, sites_rise, sites_sorted}
pub use Rattle.linked_starts.proofs.ListedOwners.{untrusted_done}
pub use Rattle.linked_starts.proofs.PartWords.{parts_upto, separate, slots_upto}
pub use Rattle.linked_starts.proofs.RuleLemmas.{none_more, sum_more, take_whole}
pub use Rattle.linked_starts.proofs.Settling.{all_have_room, free_at, free_more, no_room, placed_at}
pub use Rattle.linked_starts.proofs.Settling.{points_of, room_at, room_told, told_part}
pub use Rattle.linked_starts.proofs.SortedSpans.{are_spans, are_spans_of, cells_are as sorted_cells_are}
pub use Rattle.linked_starts.proofs.SortedSpans.{in_spans_is, is_slot, room, spans_more}
pub use Rattle.linked_starts.proofs.StartHeld.{each_at}
pub use Rattle.linked_starts.proofs.StartIs.{main_kept, started}
