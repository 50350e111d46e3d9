-- What is within the limits can be written.
use Rattle.std.proofs.Common.{ℕ, ◌<◌, leb, List, [], ◌∷◌, length, Option, Some, None, arith}
use Rattle.std.specs.Prelude.{IsTrue}
use Rattle.std.specs.List.{AllByRecursion}
use Rattle.std.proofs.lemmas.Bool.{and_parts}
use Rattle.cap_words.specs.declared.Word.{Word}
use Rattle.cap_words.specs.declared.Word.TheVariants.{Int, Mem, Seal, Sealed}
use Rattle.cap_words.specs.WordBytes.{WordFits, IsUnsealed, SealInSpace}
use Rattle.cap_words.specs.declared.TheConstants.{LONGEST_NAME}
use Rattle.component_file.specs.declared.component.Import.{Import}
use Rattle.component_file.specs.declared.component.Export.{Export}
use Rattle.cap_words.specs.Names.{is_name}
use Rattle.component_file.specs.Limits.{Chain, Each, ImportFits, ExportFits}
use Rattle.component_file.specs.Spelling.{Always, NamesAreShort, NameIsShort}

pub name_is_short : (text : List ℕ) → IsTrue (is_name text) → length text < 256
unfolding is_name
name_is_short text h =
    let short = and_parts (leb 1 (length text)) (leb (length text) LONGEST_NAME)
    (and_parts _ _ (and_parts _ _ h).0).0 in
    grind (arith, short.1)

chain_all : {A : Type 0} {P : Option A → A → Type 0} {Q : A → Type 0} → ((b : Option A) (x : A) → P b x → Q x)
    → (b : Option A) (xs : List A) → Chain P b xs → AllByRecursion Q xs
chain_all h b [] c = tt
chain_all h b (x ∷ xs) c = (h b x c.0, chain_all h (Some x) xs c.1)

pub all_always : {A : Type 0} (xs : List A) → AllByRecursion Always xs
all_always [] = tt
all_always (x ∷ xs) = (tt, all_always xs)

pub words_can : (xs : List Word) → Each (λ w. WordFits w × IsUnsealed w) xs → AllByRecursion SealInSpace xs
words_can xs c = chain_all one None xs c
  where
    one : (b : Option Word) (w : Word) → WordFits w × IsUnsealed w → SealInSpace w
    one b (Int n) h = tt
    one b (Mem c) h = tt
    one b (Seal s) h = tt
    one b (Sealed seal content) h = h.0.0

pub imports_can : (xs : List Import) → Chain ImportFits None xs → AllByRecursion NamesAreShort xs
imports_can xs c = chain_all (λ b i h. (name_is_short i.part h.0, name_is_short i.name h.1)) None xs c

pub exports_can : (xs : List Export) → Chain ExportFits None xs → AllByRecursion NameIsShort xs
exports_can xs c = chain_all (λ b e h. name_is_short e.name h.0) None xs c
