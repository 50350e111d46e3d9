-- Where returns lead and what closure pairs are, as lines tell them: which there are, and their texts.
use Rattle.std.specs.Prelude.{ℕ, ◌≤◌, ◌++◌, Bool, true, false, IsTrue, List, [], ◌∷◌, codes, decimal}
use Rattle.cap_words.specs.Names.{is_name}
use Rattle.source_events.specs.declared.FeedBack.{FeedBack}
use Rattle.source_events.specs.declared.FeedBack.TheVariants as back
use Rattle.source_events.specs.declared.FeedPair.{FeedPair}
use Rattle.source_events.specs.declared.FeedPair.TheVariants as pair

abbrev pub IsName : List ℕ → Type 0
IsName text = IsTrue (is_name text)

-- a number of 32 bits
abbrev pub IsSmall : ℕ → Type 0
IsSmall n = n ≤ 4294967295

-- names are names, and numbers have 32 bits
abbrev pub BackFits : FeedBack → Type 0
BackFits back.Out = Unit {0}
BackFits back.Bad = Unit {0}
BackFits (back.Hop part name) = IsName part × IsName name
BackFits (back.Pair part site base) = IsName part × IsSmall site × IsSmall base

abbrev pub PairFits : FeedPair → Type 0
PairFits (pair.Hop part name) = IsName part × IsName name
PairFits _ = Unit {0}

abbrev pub is_pair : FeedPair → Bool
is_pair pair.Nothing = false
is_pair _ = true

-- of argument registers of which no two are a pair
abbrev pub no_pairs : List FeedPair
no_pairs = pair.Nothing ∷ pair.Nothing ∷ pair.Nothing ∷ []

-- ---- texts

abbrev pub back_text : FeedBack → List ℕ
back_text back.Out = codes "out"
back_text back.Bad = codes "bad"
back_text (back.Hop part name) = codes "hop:" ++ (part ++ (codes ":" ++ name))
back_text (back.Pair part site base) =
    codes "pair:" ++ (part ++ (codes ":" ++ (decimal site ++ (codes ":" ++ decimal base))))

abbrev pub pair_text : FeedPair → List ℕ
pair_text pair.Nothing = codes "none"
pair_text pair.Bad = codes "bad"
pair_text pair.Out = codes "out"
pair_text (pair.Hop part name) = codes "hop:" ++ (part ++ (codes ":" ++ name))
