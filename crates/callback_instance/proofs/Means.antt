-- What both modules mean: the same on each feed; and on one they call and answer.
use Rattle.std.proofs.Common.{◌≡◌, ℕ, [], ◌∷◌, map, refl}
use Rattle.proc_names.specs.Names.{variable_named, callee_named}
use Rattle.proc_program.specs.Lower.{part_of}
use Rattle.proc_semantics.specs.Values.{found, main_target}
use Rattle.same_meanings.specs.Observed.{name_of, observed, by_number, MeanTheSame, EndTheSame}
use Rattle.same_meanings.specs.Observed as observing
use Rattle.same_meanings.proofs.Offers.{any_feed, settled_mean, settled_ends}
use Rattle.callback_instance.specs.Passes.{passes, stores, asked, called_and_left}
use Rattle.callback_instance.proofs.Passing.{passes_same}

pub mean_the_same : (size : ℕ) → MeanTheSame by_number (map part_of (passes ∷ [])) (map part_of (stores ∷ []))
    size
mean_the_same size = settled_mean (part_of passes ∷ []) (part_of stores ∷ []) size (λ feed fits.
    let r = passes_same observing.Name (name_of (part_of passes ∷ [])) (name_of (part_of stores ∷ []))
    (λ k j. refl) size feed (any_feed feed) in
    (r.0, λ f le. (r.1 f le).0))

pub end_the_same : (size : ℕ) → EndTheSame by_number (map part_of (passes ∷ [])) (map part_of (stores ∷ []))
    size
end_the_same size = settled_ends (part_of passes ∷ []) (part_of stores ∷ []) size (λ feed fits.
    let r = passes_same observing.Name (name_of (part_of passes ∷ [])) (name_of (part_of stores ∷ []))
    (λ k j. refl) size feed (any_feed feed) in
    (r.0, λ f le. (r.1 f le).1))

pub calls : (size : ℕ) → observed (map part_of (passes ∷ [])) size asked 40 ≡ called_and_left
unfolding found main_target variable_named callee_named
calls size = refl
