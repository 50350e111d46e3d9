-- How many words the pieces of expressions and of blocks have.
use Rattle.std.proofs.Common.{◌≡◌, ℕ, ◌+◌, List, [], ◌∷◌, ◌∙◌, arith}
use Rattle.proc_program.specs.Program.{Exp, Block}
use Rattle.proc_templates.specs.declared.FrameShape.{FrameShape}
use Rattle.proc_templates.specs.Items.{Item, does, guards, goes, goes_if, finishes, label, site, entry}
use Rattle.proc_templates.specs.Items.{leaves}
use Rattle.proc_templates.specs.Free.{behind, after}
use Rattle.proc_templates.specs.Templates.{code, block_code, exp_words, block_words}
use Rattle.proc_templates.proofs.Offers.{Long, code-size, block-size}
use Rattle.template_runs.proofs.Offers.{words_of, words_in}

pub behind-words : (o : ℕ) (x : Item) → behind o x ≡ o + words_of x
behind-words o (does i) = omega arith
behind-words o (guards is) = omega arith
behind-words o (goes far) = omega arith
behind-words o (goes_if far r) = omega arith
behind-words o finishes = omega arith
behind-words o label = omega arith
behind-words o site = omega arith
behind-words o entry = omega arith
behind-words o leaves = omega arith

pub after-words : (o : ℕ) (xs : List Item) → after o xs ≡ o + words_in xs
after-words o [] = omega arith
after-words o (x ∷ xs) =
    let e = behind-words o x in
    let f = after-words (behind o x) xs in
    f ∙ omega (arith, e)

words_are : (xs : List Item) (n : ℕ) → Long xs n → words_in xs ≡ n
words_are xs n l = let e = after-words 0 xs in let f = l.by 0 in omega (arith, e, f)

pub exp_size : (f : FrameShape) (t : ℕ) (e : Exp) → words_in (code f t e) ≡ exp_words e
exp_size f t e = words_are (code f t e) (exp_words e) (code-size f e t)

pub block_size : (f : FrameShape) (b : Block) → words_in (block_code f b) ≡ block_words b
block_size f b = words_are (block_code f b) (block_words b) (block-size f b)
