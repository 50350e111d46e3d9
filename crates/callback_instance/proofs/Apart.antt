-- The law: two ways to call a callback are one to code outside.
use Rattle.std.proofs.Common.{refl}
use Rattle.context_laws.specs.Meanings.{SameMeaningsAreNotToldApart}
use Rattle.context_laws.specs.Ends.{SameMeaningsEndAlike}
use Rattle.context_instance.specs.Doubles.{LinksBeside, MainIsUntrusted}
use Rattle.callback_instance.specs.Passes.{passes, stores, TwoPassers}
use Rattle.callback_instance.proofs.Modules.{limits, limits_too, resolved, resolved_too, differ}
use Rattle.context_instance.proofs.Offers.{main, are_one}
use Rattle.callback_instance.proofs.Links.{passes_link, stores_link, passes_main, stores_main, beside}
use Rattle.callback_instance.proofs.Means.{mean_the_same, end_the_same, calls}

abbrev pub links_there : LinksBeside passes stores
links_there = record {
  sources = passes_link;
  sources_too = stores_link;
  are = record { one_is = refl; other_is = refl; beside = beside };
}

abbrev pub main_there : MainIsUntrusted links_there
main_there = record {
  main = main;
  main_is = passes_main;
  main_too = stores_main;
  untrusted = refl;
}

pub two_passers : SameMeaningsAreNotToldApart → SameMeaningsEndAlike → TwoPassers
two_passers law alike = record {
  are_one =
      are_one law alike (limits, limits_too) (resolved, resolved_too) differ mean_the_same end_the_same
      links_there main_there;
  calls = calls;
}
